-- Storing busy pieces: what is left to store makes the whole, so that a loop may stop when nothing, or no room, is left.
use Rattle.std.specs.Prelude.{None, Option, Some}
use Prim.Native.Nat.{ℕ, ◌≤◌}
use mathlib.Core.Path.{◌≡◌, refl, sym, ap, subst, ◌∙◌}
use mathlib.Core.Bool.{true, false}
use mathlib.Core.List.{List, [], ◌∷◌, ◌++◌, map}
use lib.Dec.{eqb}
use Rattle.std.specs.List.{slice_split}
use Rattle.values.specs.Period.{period_of, period_items, all_periods, good_periods}
use Rattle.values.proofs.Splits.{split_same}
use Rattle.periods.specs.declared.Period.{Period}
use Rattle.periods.specs.declared.BusyType.{BusyType}
use Rattle.periods.specs.BusyTypes.{BusyPeriod, typed}
use Rattle.calendar.specs.Periods.{periods_from}
use Rattle.pieces.specs.BusyPeriods.{busy_period}
use Rattle.pieces.specs.Columns.{Stored, Room}
use Rattle.pieces.specs.Pieces.{piece_of, pieces_of}
use Rattle.pieces.proofs.Columns.{stored_none, stored_as, stored_then, stored_few, stored_long}
use Rattle.component_lines.specs.Lines.{value_periods, ValueIs, value_good, value_bad}

-- n pieces stand in o: storing those of `left` behind them makes those of `whole` behind n₀ in o₀
pub record Left (o₀ : List ℕ) (n₀ : ℕ) (whole : List BusyPeriod) (o : List ℕ) (n : ℕ) (left : List BusyPeriod) : Type 0 where
  pub few : n ≤ 513
  pub long : Room o
  pub rest : (o' : List ℕ) (r : ℕ) → Stored o n left o' r → Stored o₀ n₀ whole o' r

pub left_start : (o : List ℕ) (n : ℕ) (whole : List BusyPeriod) → n ≤ 513 → Room o → Left o n whole o n whole
left_start o n whole h l = record { few = h; long = l; rest = λ o' r m. m }

module _ {o₀ : List ℕ} {n₀ : ℕ} {whole : List BusyPeriod} {o : List ℕ} {n : ℕ} {left : List BusyPeriod} (l : Left o₀ n₀ whole o n left) where
  -- the first of what is left is stored
  pub left_then : {o' : List ℕ} {r : ℕ} {ps qs : List BusyPeriod} → left ≡ ps ++ qs → Stored o n ps o' r → Left o₀ n₀ whole o' r qs
  left_then e h =
      record {
        few = stored_few h l.few;
        long = stored_long h ∙ l.long;
        rest = λ o'' t m. l.rest o'' t (stored_as (stored_then h m) (sym e));
      }

  -- the same is left
  pub left_same : {qs : List BusyPeriod} → left ≡ qs → Left o₀ n₀ whole o n qs
  left_same e = record { few = l.few; long = l.long; rest = λ o'' t m. l.rest o'' t (stored_as m (sym e)) }

  pub left_none : left ≡ [] → Stored o₀ n₀ whole o n
  left_none e = l.rest o n (stored_as (stored_none o n) (sym e))

-- ---- the periods of a value

-- the pieces of the periods of one type that items say
pub pieces_in : BusyType → ℕ → ℕ → List (List ℕ) → List BusyPeriod
pieces_in y a b ts = pieces_of a b (typed y (good_periods (map period_of ts)))

-- every item before those left is a period, and the pieces of these are left to store
pub record ReadingValue (y : BusyType) (v : List ℕ) (a b : ℕ) (o₀ : List ℕ) (n₀ : ℕ) (o : List ℕ) (n : ℕ) (ts : List (List ℕ)) : Type 0 where
  pub good : all_periods (map period_of ts) ≡ all_periods (period_items v)
  pub still : Left o₀ n₀ (pieces_of a b (value_periods y v)) o n (pieces_in y a b ts)

pub value_start : (y : BusyType) (v : List ℕ) (a b : ℕ) (o : List ℕ) (n : ℕ) → n ≤ 513 → Room o → ReadingValue y v a b o n o n (slice_split (λ b. eqb b 44) v)
unfolding pieces_in value_periods periods_from period_items
value_start y v a b o n h l =
    rw (split_same 44 v)
    (record { good = refl; still = left_start o n (pieces_of a b (value_periods y v)) h l })

module _ {y : BusyType} {v : List ℕ} {a b : ℕ} {o₀ : List ℕ} {n₀ : ℕ} {o : List ℕ} {n : ℕ} {ts : List (List ℕ)} (z : ReadingValue y v a b o₀ n₀ o n ts) where
  pub value_ends : ts ≡ [] → ValueIs y v a b o₀ n₀ o (Some n)
  unfolding all_periods good_periods pieces_in pieces_of
  value_ends p =
      value_good (sym z.good ∙ ap (λ (l : List (List ℕ)). all_periods (map period_of l)) p) (left_none z.still (ap (pieces_in y a b) p))

  -- the next item is a period, or is bad
  module _ {item : List ℕ} {rest : List (List ℕ)} (p : ts ≡ item ∷ rest) {x : Option Period} (w : x ≡ period_of item) where
    read_first : {r : Option Period} → x ≡ r → map period_of ts ≡ r ∷ map period_of rest
    read_first k = ap (map period_of) p ∙ ap (λ (i : Option Period). i ∷ map period_of rest) (sym w ∙ k)

    pub value_stops : x ≡ None → (o' : List ℕ) → ValueIs y v a b o₀ n₀ o' None
    unfolding all_periods
    value_stops k o' = value_bad (sym z.good ∙ ap all_periods (read_first k))

    pub value_next : {t : Period} → x ≡ Some t → {o' : List ℕ} {r : ℕ} → Stored o n (piece_of a b (busy_period y t.start t.end)) o' r → ReadingValue y v a b o₀ n₀ o' r rest
    unfolding all_periods good_periods pieces_in pieces_of
    value_next k m =
        record {
          good = sym (ap all_periods (read_first k)) ∙ z.good;
          still = left_then z.still (ap (λ (l : List (Option Period)). pieces_of a b (typed y (good_periods l))) (read_first k)) m;
        }

-- what a caller learns
module _ {y : BusyType} {v : List ℕ} {a b : ℕ} {o : List ℕ} {n : ℕ} {o' : List ℕ} {r : Option ℕ} (h : ValueIs y v a b o n o' r) where
  pub value_stored : (m : ℕ) → r ≡ Some m → (all_periods (period_items v) ≡ true) × Stored o n (pieces_of a b (value_periods y v)) o' m
  value_stored m e = go (subst (ValueIs y v a b o n o') e h)
    where
      go : ValueIs y v a b o n o' (Some m) → (all_periods (period_items v) ≡ true) × Stored o n (pieces_of a b (value_periods y v)) o' m
      go (value_good f g) = (f, g)

  pub value_unread : r ≡ None → all_periods (period_items v) ≡ false
  value_unread e = go (subst (ValueIs y v a b o n o') e h)
    where
      go : ValueIs y v a b o n o' None → all_periods (period_items v) ≡ false
      go (value_bad f) = f
