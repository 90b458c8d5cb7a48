-- The period table of one busy type, from the busy pieces that were stored (document 01, The report's bytes).
use Rattle.std.specs.Prelude.{ℕ, zero, suc, ◌≤◌, length, take, ◌≡◌, true, false, List, [], ◌∷◌, eqb}
use Rattle.periods.specs.declared.Period.{Period}
use Rattle.periods.specs.Periods.{period}
use Rattle.table.specs.Inserting.{inserted_all}
use Rattle.table.specs.Tables.{PeriodTable, table_at, listed, Sound}

-- of the first n pieces in a column, three numbers each, the periods of the type of this place
unfoldable pub periods_at : ℕ → ℕ → List ℕ → List Period
periods_at k zero c = []
periods_at k (suc n) [] = []
periods_at k (suc n) (a ∷ []) = []
periods_at k (suc n) (a ∷ b ∷ []) = []
periods_at k (suc n) (a ∷ b ∷ j ∷ c) = elim (eqb j k) [ true ↦ period a b ∷ periods_at k n c | false ↦ periods_at k n c ]

-- the table of that type: each period added in turn
pub record Built (c : List ℕ) (n k : ℕ) (r : PeriodTable) : Type 0 where
  pub list : listed r ≡ inserted_all [] (periods_at k n c)
  pub count : r.count ≤ length (periods_at k n c)
  pub sound : Sound r

-- the same, m rows of two columns from a row on; what stands before that row stayed
pub record BuiltAt (c : List ℕ) (n k first : ℕ) (ss es : List ℕ) (m : ℕ) (us vs : List ℕ) : Type 0 where
  pub built : Built c n k (table_at first m us vs)
  pub starts_before_holds : take first us ≡ take first ss
  pub ends_before_holds : take first vs ≡ take first es
  pub starts_long : length us ≡ length ss
  pub ends_long : length vs ≡ length es
