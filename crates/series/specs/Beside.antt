-- An event beside others by its row: does a RECURRENCE-ID fit the master of a row, and what must be known of the rows.
use Rattle.std.specs.Prelude.{ℕ, ◌+◌, ◌*◌, ◌≤◌, ◌<◌, ◌≡◌, Bool, false, not, ◌&&◌, ◌||◌, List, length, get_or}
use Rattle.text.specs.Lines.{part}
use Rattle.seconds.specs.Seconds.{among}
use Rattle.values.specs.declared.times.Context.{Context}
use Rattle.events.specs.Sizes.{EventSmall}
use Rattle.events.specs.EntryRows.{event_at}
use Rattle.events.specs.declared.Event.{Event}
use Rattle.overrides.specs.Instances.{names_instance}
use Rattle.overrides.specs.Rules.{other_kind}
use Rattle.identities.specs.LinkRows.{link_at}
use Rattle.identities.specs.declared.RecurrenceId.{RecurrenceId}
use Rattle.identities.specs.declared.rows.Link.{Link}
use Rattle.series.specs.LinkRows.{LinkStands}
use Rattle.series.specs.VEventRows.{Tied, OneEach}

-- the excluded seconds of row k
unfoldable pub excluded_at : List ℕ → List ℕ → ℕ → List ℕ
excluded_at links exceptions k = part exceptions (link_at links k).from (link_at links k).to

-- a RECURRENCE-ID does not fit a master with this link, event and these excluded seconds
unfoldable pub misfits : Link → Event → List ℕ → RecurrenceId → Bool
misfits l e xs t = not l.broken && (other_kind e t.kind || not (names_instance e t.second) || among t.second xs)

-- the master of row k can be asked
pub record MasterKnown (entries links exceptions : List ℕ) (k : ℕ) : Type 0 where
  pub entry_room : 12 * k + 12 ≤ length entries
  pub link_room : 8 * k + 8 ≤ length links
  pub order : (link_at links k).from ≤ (link_at links k).to
  pub inside : (link_at links k).to ≤ length exceptions
  pub small : (link_at links k).broken ≡ false → EventSmall (event_at entries k)

-- the rows before row m can be asked
pub record Linked (c : Context) (s index rows entries links exceptions : List ℕ) (m : ℕ) : Type 0 where
  pub tied : Tied c s index rows links m
  pub entry_room : length entries ≡ 3072
  pub stands : (k : ℕ) → k < m → get_or rows (4 * k + 3) 0 ≡ 1 → LinkStands c s rows entries links exceptions k

-- row k is that of an event that breaks no rule by itself, and so is every event before it
pub record Unbroken (rows links : List ℕ) (k m : ℕ) : Type 0 where
  pub there : k < m
  pub is_event_holds : get_or rows (4 * k + 3) 0 ≡ 1
  pub alone : (link_at links k).broken ≡ false
  pub one_each : OneEach rows links k
