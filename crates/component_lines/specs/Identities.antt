-- What ties a component to others, line by line, and the column of the seconds of its EXDATE lines.
use Rattle.std.specs.Prelude.{ℕ, ◌+◌, ◌*◌, ◌≤◌, ◌<◌, ◌≡◌, List, [], ◌∷◌, ◌++◌, length, get_or}
use Rattle.std.proofs.lemmas.List.Edits.{sets}
use Rattle.text.specs.Lines.{content_lines}
use Rattle.values.specs.TimeLists.{seconds_of}
use Rattle.values.specs.declared.times.Context.{Context}
use Rattle.property.specs.Properties.{property_value_of}
use Rattle.property.specs.declared.Scope.{Scope}
use Rattle.nesting.specs.Components.{Numbered}
use Rattle.index.specs.Index.{start_in}
use Rattle.calendar.specs.Identities.{exceptions_by, identity_in}
use Rattle.series.specs.Identities.{Ties}
use Rattle.identities.specs.declared.IdentityRead.{IdentityRead}

-- the seconds of the times of EXDATE lines
unfoldable pub excluded_in : Context → Scope → List Numbered → List ℕ
excluded_in c o [] = []
excluded_in c o (x ∷ xs) = seconds_of (exceptions_by c (property_value_of c o x.line) x.line) ++ excluded_in c o xs

-- the times that stand in a column have eight bytes each of what stands before line i and those behind it
abbrev pub RoomFrom : List ℕ → List ℕ → ℕ → ℕ → Type 0
RoomFrom s index i h = (n : ℕ) → i ≤ n → n < length (content_lines s) → 8 * h ≤ start_in (get_or index n 0)

-- y is what the lines tell, behind h times that stood in the column e before; theirs were stored behind them, and there is room for those of the lines from `stop` on
pub record LinesTie (c : Context) (o : Scope) (s index : List ℕ) (xs : List Numbered) (e : List ℕ) (h : ℕ) (e' : List ℕ) (stop : ℕ) (y : IdentityRead) : Type 0 where
  pub ties : o ≡ Scope.Event → Ties s y (identity_in c xs)
  pub counted : y.held ≡ h + length (excluded_in c o xs)
  pub excluded : e' ≡ sets e h (excluded_in c o xs)
  pub room : RoomFrom s index stop y.held
  pub few : y.held ≤ length e
