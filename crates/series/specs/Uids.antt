-- The UIDs of an event: which lines have them, and what its link says of them.
use Rattle.std.specs.Prelude.{ℕ, ◌+◌, ◌*◌, ◌≤◌, Bool, true, false, List, length}
use Rattle.ascii.specs.Names.{same_bytes}
use Rattle.line.specs.Grammar.{ContentLine}
use Rattle.values.specs.Times.{ContextGood}
use Rattle.values.specs.declared.times.Context.{Context}
use Rattle.property.specs.Properties.{property_value_of}
use Rattle.property.specs.declared.Scope.{Scope}
use Rattle.property.specs.Facts.{Reading, unread, fault, of, span, repeats, busy, identity, periods, uid, recurrence_id, exceptions}
use Rattle.nesting.specs.Components.{Numbered}
use Rattle.index.specs.Index.{Indexed}
use Rattle.structure.specs.Rows.{RowOf, component_by}
use Rattle.overrides.specs.Lists.{some}
use Rattle.calendar.specs.Identities.{uids_by, uids_in, identity_of}
use Rattle.identities.specs.LinkRows.{link_at}
use Rattle.series.specs.Identities.{UidTies}

-- it is a UID
unfoldable pub is_uid : Reading → Bool
is_uid unread = false
is_uid (fault f) = false
is_uid (of (span f)) = false
is_uid (of (repeats r)) = false
is_uid (of (busy f)) = false
is_uid (of (identity uid)) = true
is_uid (of (identity (recurrence_id t))) = false
is_uid (of (identity (exceptions f))) = false
is_uid (of (periods b)) = false

-- a line of an event is a UID with these bytes
unfoldable pub line_has : Context → List ℕ → ContentLine → Bool
line_has c u x = some (same_bytes u) (uids_by (property_value_of c Scope.Event x) x)

-- one of the lines is
unfoldable pub lines_have : Context → List ℕ → List Numbered → Bool
lines_have c u xs = some (same_bytes u) (uids_in c xs)

-- the UIDs of the event of row k can be asked
pub record UidsKnown (c : Context) (s index rows links : List ℕ) (k : ℕ) : Type 0 where
  pub context : ContextGood c
  pub indexed : Indexed s index
  pub row : RowOf s rows k
  pub link_room : 8 * k + 8 ≤ length links
  pub uid_ties : UidTies s (link_at links k).uid (identity_of c (component_by s rows k)).uids
