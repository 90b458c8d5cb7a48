-- What ties the events of a calendar to each other, as rows of numbers, row by row those of its components; and the column of excluded seconds.
use Rattle.std.specs.Prelude.{ℕ, ◌+◌, ◌*◌, ◌≤◌, ◌<◌, ◌≡◌, Bool, false, List, length, get_or, Some}
use Rattle.text.specs.Lines.{part}
use Rattle.values.specs.TimeLists.{seconds_of}
use Rattle.values.specs.declared.times.Context.{Context}
use Rattle.structure.specs.Rows.{component_by}
use Rattle.events.specs.EntryRows.{event_at}
use Rattle.overrides.specs.Rules.{breaks_alone}
use Rattle.identities.specs.LinkRows.{link_at}
use Rattle.identities.specs.declared.IdentityRead.{IdentityRead}
use Rattle.identities.specs.declared.rows.Link.{Link}
use Rattle.calendar.specs.Identities.{identity_of}
use Rattle.calendar.specs.Meaning.{event_of, vevent_of}
use Rattle.series.specs.Identities.{Ties}

-- what a row keeps of what was gathered
abbrev pub gathered_in : Link → IdentityRead
gathered_in l = record { uid = l.uid; recurrence = l.recurrence; kinds = l.kinds; held = l.to }

-- the row of what was gathered
unfoldable pub link_from : IdentityRead → ℕ → Bool → Link
link_from y n t = record { uid = y.uid; recurrence = y.recurrence; kinds = y.kinds; from = n; to = y.held; broken = t }

-- the row of an event
pub record LinkStands (c : Context) (s rows entries links exceptions : List ℕ) (k : ℕ) : Type 0 where
  pub ties : Ties s (gathered_in (link_at links k)) (identity_of c (component_by s rows k))
  pub order : (link_at links k).from ≤ (link_at links k).to
  pub inside : (link_at links k).to ≤ length exceptions
  pub excluded : part exceptions (link_at links k).from (link_at links k).to ≡ seconds_of (identity_of c (component_by s rows k)).exceptions
  pub broken_is : (link_at links k).broken ≡ breaks_alone (vevent_of c (component_by s rows k))
  pub event_is : (link_at links k).broken ≡ false → event_of c (component_by s rows k) ≡ Some (event_at entries k)

-- of the components of the first m rows, every event has its row, and the parts of their excluded seconds rise
pub record LinkRows (c : Context) (s rows entries links exceptions : List ℕ) (m : ℕ) : Type 0 where
  pub room : length links ≡ 2048
  pub entry_room : length entries ≡ 3072
  pub stands : (k : ℕ) → k < m → get_or rows (4 * k + 3) 0 ≡ 1 → LinkStands c s rows entries links exceptions k
  pub rising : (j k : ℕ) → j < k → k < m → get_or rows (4 * j + 3) 0 ≡ 1 → get_or rows (4 * k + 3) 0 ≡ 1 → (link_at links j).to ≤ (link_at links k).from
