-- What was gathered of what ties an event to others, against what its lines say.
use Rattle.std.specs.Prelude.{ℕ, ◌-◌, ◌≤◌, ◌≡◌, true, List, [], ◌∷◌, length}
use Rattle.text.specs.Lines.{content_lines}
use Rattle.line.specs.Reading.{value_of}
use Rattle.values.specs.TimeLists.{with_kinds}
use Rattle.values.specs.declared.times.Time.{Time}
use Rattle.values.specs.declared.time_lists.Kinds.{Kinds}
use Rattle.index.specs.Index.{line_bytes}
use Rattle.calendar.specs.Identities.{Identity}
use Rattle.overrides.specs.Lists.{two_or_more}
use Rattle.values.specs.declared.given.Given.{Given}
use Rattle.identities.specs.Gathering.{recurrence_id_of}
use Rattle.identities.specs.declared.RecurrenceId.{RecurrenceId}
use Rattle.identities.specs.declared.IdentityRead.{IdentityRead}

-- the UID: none, the value of the line of a number, or several
abbrev pub UidTies : List ℕ → Given ℕ → List (List ℕ) → Type 0
UidTies s Given.None us = us ≡ []
UidTies s (Given.One n) us = (1 ≤ n) × (n ≤ length (content_lines s)) × (n ≤ 65536) × (us ≡ value_of (line_bytes s (n - 1)) ∷ [])
UidTies s Given.Several us = two_or_more us ≡ true

-- there is one time, and this is kept of it
pub record OneRecurrence (r : RecurrenceId) (ts : List Time) : Type 0 where
  pub time : Time
  pub alone : ts ≡ time ∷ []
  pub kept : recurrence_id_of time ≡ r

abbrev pub RecurrenceTies : Given RecurrenceId → List Time → Type 0
RecurrenceTies Given.None ts = ts ≡ []
RecurrenceTies (Given.One r) ts = OneRecurrence r ts
RecurrenceTies Given.Several ts = two_or_more ts ≡ true

pub record Ties (s : List ℕ) (y : IdentityRead) (i : Identity) : Type 0 where
  pub uid_ties : UidTies s y.uid i.uids
  pub recurrence_ties : RecurrenceTies y.recurrence i.recurrence_ids
  pub kinds_are : y.kinds ≡ with_kinds Kinds.None i.exceptions
