-- The seconds that overrides of a UID name, row by row, and how they are stored.
use Rattle.std.specs.Prelude.{ℕ, ◌+◌, ◌≤◌, ◌≡◌, cond, List, [], ◌∷◌, ◌++◌, length, None, Option, Some}
use Rattle.std.proofs.lemmas.List.Edits.{sets}
use Rattle.time.specs.Limits.{last_second}
use Rattle.values.specs.TimeLists.{seconds_of}
use Rattle.values.specs.declared.times.Context.{Context}
use Rattle.overrides.specs.VEvents.{VEvent, has_uid}
use Rattle.series.specs.VEventRows.{vevents_at, vevents_before}

-- the seconds of every RECURRENCE-ID of those that have the UID
unfoldable pub moved_by : List ℕ → List VEvent → List ℕ
moved_by u [] = []
moved_by u (w ∷ ws) = cond (has_uid u w) (seconds_of w.recurrence_ids) [] ++ moved_by u ws

-- that of row k
pub data NamedIs (c : Context) (s rows : List ℕ) (k : ℕ) (u : List ℕ) : Option ℕ → Type 0 where
  names_none : moved_by u (vevents_at c s rows k) ≡ [] → NamedIs c s rows k u None
  names_one : {x : ℕ} → x ≤ last_second → moved_by u (vevents_at c s rows k) ≡ x ∷ [] → NamedIs c s rows k u (Some x)

-- those of the rows before row m were stored from place n on, up to place r
pub record MovedStored (c : Context) (s rows : List ℕ) (m : ℕ) (u o : List ℕ) (n : ℕ) (o' : List ℕ) (r : ℕ) : Type 0 where
  pub stored : o' ≡ sets o n (moved_by u (vevents_before c s rows m))
  pub counted : r ≡ n + length (moved_by u (vevents_before c s rows m))
  pub within : r ≤ n + m
