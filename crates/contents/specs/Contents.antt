-- What reading the components right below VCALENDAR tells: the first of refusals 8 to 10, or the pieces of stated periods and the rows of all events and blocks.
use Rattle.std.specs.Prelude.{ℕ, ◌+◌, ◌*◌, ◌≤◌, ◌≡◌, Bool, true, false, cond, List, [], length, get_or, Err, None, Ok, Result, Some}
use Rattle.calendar.specs.declared.LineError.{LineError}
use Rattle.std.proofs.lemmas.List.Edits.{sets}
use Rattle.values.specs.declared.times.Context.{Context}
use Rattle.property.specs.declared.Scope.{Scope}
use Rattle.nesting.specs.Components.{Component, properties_in}
use Rattle.events.specs.EntryRows.{event_row, event_at, block_at, EntryPut}
use Rattle.events.specs.declared.Event.{Event}
use Rattle.periods.specs.BusyTypes.{BusyPeriod}
use Rattle.overrides.specs.Rules.{breaks_alone}
use Rattle.identities.specs.LinkRows.{LinkSmall, link_row, link_at, LinkPut}
use Rattle.identities.specs.declared.IdentityRead.{IdentityRead}
use Rattle.calendar.specs.Identities.{identity_of}
use Rattle.calendar.specs.Meaning.{component_scope, value_fault, event_of, block_of, vevent_of, entry_of, entries_of, components_of}
use Rattle.calendar.specs.Passes.{broken_alone, alone_fault}
use Rattle.pieces.specs.BusyPeriods.{stated_periods, gathered}
use Rattle.pieces.specs.Pieces.{pieces_of}
use Rattle.pieces.specs.Columns.{Stored}
use Rattle.series.specs.Identities.{Ties}
use Rattle.component_lines.specs.Identities.{excluded_in, RoomFrom}
use Rattle.contents.specs.Alone.{alone_by}
use Rattle.series.specs.LinkRows.{gathered_in, link_from, LinkRows}
use Rattle.component_lines.specs.Lines.{lines_fault}
use Rattle.contents.specs.EntryRows.{EntryRows}
use Rattle.contents.specs.declared.EntryRead.{EntryRead}
use Rattle.contents.specs.declared.ContentsRead.{ContentsRead}

-- the first fault in the lines of a component
unfoldable pub component_fault : Context → Component → Result (Unit {0}) LineError
component_fault c x = lines_fault c (component_scope x) (properties_in x.items)

-- the event or block of a component stands in row k of a column, and the others are as they were
pub record EntryStands (c : Context) (x : Component) (k : ℕ) (old new : List ℕ) : Type 0 where
  pub event : component_scope x ≡ Scope.Event → event_of c x ≡ Some (event_at new k)
  pub block : component_scope x ≡ Scope.FreeBusy → block_of c x ≡ Some (block_at new k)
  pub events_kept : (j : ℕ) → (j ≡ k → ⊥) → event_at new j ≡ event_at old j
  pub blocks_kept : (j : ℕ) → (j ≡ k → ⊥) → block_at new j ≡ block_at old j

-- the periods that a component states, whatever stands beside it
unfoldable pub stated_in : Context → Component → List BusyPeriod
stated_in c x = gathered stated_periods (entry_of c [] (component_scope x) x)

-- the excluded seconds of a component
unfoldable pub seconds_in : Context → Component → List ℕ
seconds_in c x = excluded_in c (component_scope x) (properties_in x.items)

-- row k of the links is that of the event x, whose excluded seconds stand from h up to h' in their column
pub record EventLinked (c : Context) (s : List ℕ) (x : Component) (k h h' : ℕ) (entries links : List ℕ) : Type 0 where
  pub ties : Ties s (gathered_in (link_at links k)) (identity_of c x)
  pub from_is : (link_at links k).from ≡ h
  pub to_is : (link_at links k).to ≡ h'
  pub broken_is : (link_at links k).broken ≡ breaks_alone (vevent_of c x)
  pub event_is : (link_at links k).broken ≡ false → event_of c x ≡ Some (event_at entries k)

-- what the component x of row k, whose END line is `stop`, left of links and excluded seconds: h stood before in the column e, h' stand now in e'
pub record Linked (c : Context) (s index : List ℕ) (x : Component) (k stop : ℕ) (e : List ℕ) (h : ℕ) (e' : List ℕ) (h' : ℕ) (entries links links' : List ℕ) : Type 0 where
  pub kept : (j : ℕ) → (j ≡ k → ⊥) → link_at links' j ≡ link_at links j
  pub excluded : e' ≡ sets e h (seconds_in c x)
  pub counted : h' ≡ h + length (seconds_in c x)
  pub room : RoomFrom s index stop h'
  pub few : h' ≤ length e
  pub event : component_scope x ≡ Scope.Event → EventLinked c s x k h h' entries links'

-- there is room for the excluded seconds of the lines from line i on
pub record ExcludedRoom (s index : List ℕ) (i : ℕ) (e : List ℕ) (h : ℕ) : Type 0 where
  pub long : length s ≤ 8 * length e
  pub short : length e ≤ 65536
  pub room : RoomFrom s index i h
  pub few : h ≤ length e

-- what was gathered fits a row
unfoldable pub IdentitySmall : IdentityRead → ℕ → Type 0
IdentitySmall y n = (t : Bool) → LinkSmall (link_from y n t)

-- an event was put to its row, with its link
pub record EventEntered (entries links : List ℕ) (k : ℕ) (e : Event) (y : IdentityRead) (from m : ℕ) (entries' links' : List ℕ) (r : EntryRead) : Type 0 where
  pub put : EntryPut entries k (event_row e) entries'
  pub linked : LinkPut links k (link_row (link_from y from (alone_by y e))) links'
  pub answer : r ≡ record { count = cond (alone_by y e) None (Some m); held = y.held }

-- what one component is read with, and what it leaves: pieces o, entries, excluded seconds e and links
pub record EntryTerms : Type 0 where
  pub pieces : List ℕ
  pub entries : List ℕ
  pub excluded : List ℕ
  pub links : List ℕ

-- the component x of row k has no fault and breaks no rule by itself; the pieces from a up to b of its stated periods were stored behind n others, and there are m
pub record EntryGood (c : Context) (s index : List ℕ) (x : Component) (k stop a b n h : ℕ) (old new : EntryTerms) (m h' : ℕ) : Type 0 where
  pub no_fault : component_fault c x ≡ Ok tt
  pub unbroken : broken_alone c (component_scope x) x ≡ false
  pub stored : Stored old.pieces n (pieces_of a b (stated_in c x)) new.pieces m
  pub stands : EntryStands c x k old.entries new.entries
  pub linked : Linked c s index x k stop old.excluded h new.excluded h' new.entries old.links new.links

-- it breaks a rule by itself
pub record EntryBroken (c : Context) (s index : List ℕ) (x : Component) (k stop h : ℕ) (old new : EntryTerms) (h' : ℕ) : Type 0 where
  pub no_fault : component_fault c x ≡ Ok tt
  pub broken : broken_alone c (component_scope x) x ≡ true
  pub events_kept : (j : ℕ) → (j ≡ k → ⊥) → event_at new.entries j ≡ event_at old.entries j
  pub linked : Linked c s index x k stop old.excluded h new.excluded h' new.entries old.links new.links

-- what reading one component answers
pub data EntryIs (c : Context) (s index : List ℕ) (x : Component) (k stop a b n h : ℕ) (old new : EntryTerms) : Result EntryRead LineError → Type 0 where
  entry_good : {m : ℕ} {r : EntryRead} → r.count ≡ Some m → EntryGood c s index x k stop a b n h old new m r.held → EntryIs c s index x k stop a b n h old new (Ok r)
  entry_broken : {r : EntryRead} → r.count ≡ None → EntryBroken c s index x k stop h old new r.held → EntryIs c s index x k stop a b n h old new (Ok r)
  entry_refused : {f : LineError} → component_fault c x ≡ Err f → EntryIs c s index x k stop a b n h old new (Err f)

-- no value is at fault: the first component that breaks a rule by itself, and the rows of links; where there is none, the pieces and the rows of events and blocks
pub record ContentsGood (c : Context) (s rows : List ℕ) (a b : ℕ) (o : List ℕ) (new : EntryTerms) (r : ContentsRead) : Type 0 where
  pub no_fault : value_fault c (components_of s) ≡ Ok tt
  pub rules_are : r.rules ≡ alone_fault c (components_of s)
  pub links_are : LinkRows c s rows new.entries new.links new.excluded (get_or rows 2 0)
  pub stored : r.rules ≡ None → Stored o 0 (pieces_of a b (gathered stated_periods (entries_of c (components_of s)))) new.pieces r.count
  pub entries : r.rules ≡ None → EntryRows c s rows new.entries (get_or rows 2 0)

-- what reading all of them answers: that, or the first fault of a value
pub data ContentsAre (c : Context) (s rows : List ℕ) (a b : ℕ) (o : List ℕ) (new : EntryTerms) : Result ContentsRead LineError → Type 0 where
  contents_read : {r : ContentsRead} → ContentsGood c s rows a b o new r → ContentsAre c s rows a b o new (Ok r)
  contents_refused : {f : LineError} → value_fault c (components_of s) ≡ Err f → ContentsAre c s rows a b o new (Err f)
