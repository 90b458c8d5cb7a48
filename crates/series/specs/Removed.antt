-- The starts that are taken away from the event of a row, and how they are stored.
use Rattle.std.specs.Prelude.{ℕ, ◌+◌, ◌*◌, ◌≤◌, ◌<◌, ◌≡◌, false, List, length, get_or, take}
use Rattle.std.proofs.lemmas.List.Edits.{sets}
use Rattle.seconds.specs.Seconds.{among, Ordered}
use Rattle.values.specs.TimeLists.{seconds_of}
use Rattle.values.specs.declared.times.Context.{Context}
use Rattle.structure.specs.Rows.{component_by}
use Rattle.overrides.specs.Lists.{two_or_more}
use Rattle.overrides.specs.Instances.{moved_from, removed_from}
use Rattle.calendar.specs.Identities.{identity_of}
use Rattle.calendar.specs.Meaning.{vevent_of}
use Rattle.identities.specs.LinkRows.{link_at}
use Rattle.series.specs.VEventRows.{vevents_before, Tied, OneEach}
use Rattle.series.specs.Beside.{excluded_at}

-- row k is that of an event with one UID at most; its excluded seconds are known, and so are the rows before row m
pub record Takeable (c : Context) (s index rows links exceptions : List ℕ) (k m : ℕ) : Type 0 where
  pub tied : Tied c s index rows links m
  pub one_each : OneEach rows links m
  pub there : k < m
  pub is_event_holds : get_or rows (4 * k + 3) 0 ≡ 1
  pub one_uid : two_or_more (identity_of c (component_by s rows k)).uids ≡ false
  pub order : (link_at links k).from ≤ (link_at links k).to
  pub inside : (link_at links k).to ≤ length exceptions
  pub excluded : excluded_at links exceptions k ≡ seconds_of (identity_of c (component_by s rows k)).exceptions

-- the seconds xs were stored from place n on, up to place r
pub record SecondsStored (xs o : List ℕ) (n : ℕ) (o' : List ℕ) (r : ℕ) : Type 0 where
  pub stored : o' ≡ sets o n xs
  pub counted : r ≡ n + length xs
  pub within : r ≤ length o

-- what overrides name of the event of row k
unfoldable pub moved_at : Context → List ℕ → List ℕ → ℕ → ℕ → List ℕ
moved_at c s rows k m = moved_from (vevent_of c (component_by s rows k)) (vevents_before c s rows m)

-- all that is taken away from it
unfoldable pub removed_at : Context → List ℕ → List ℕ → ℕ → ℕ → List ℕ
removed_at c s rows k m = removed_from (vevents_before c s rows m) (vevent_of c (component_by s rows k))

-- the first r seconds of a column are in order, and are those
pub record SecondsOrdered (xs o : List ℕ) (r : ℕ) : Type 0 where
  pub counted : r ≡ length xs
  pub within : r ≤ length o
  pub ordered : Ordered (take r o)
  pub same : (x : ℕ) → among x (take r o) ≡ among x xs
