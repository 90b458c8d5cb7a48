-- `event_pieces::store_row` meets its contract: an event has the pieces of its instances, any other row none.
use mathlib.Core.Path.{sym, subst, ◌∙◌}
use Rattle.seconds.specs.Seconds.{Ordered}
use Rattle.events.specs.Sizes.{EventSmall}
use Rattle.event_pieces.proofs.Removed.{row_stored, row_left}
use Rattle.event_pieces.proofs.store_row.Goals as goal

pub store_event-requires : goal.store_event-requires
store_event-requires c =
    let kind_at_told = c.kind_at in
    let first_if = c.if-kind_at-eq1 in
    let held = c.requires.a_lt_b in
    record {
      room = c.requires.room;
      first_bound = c.requires.n_bound;
      event_small = subst EventSmall (sym c.event_at-e.ensures) (c.requires.row_known.event_small (sym kind_at_told.ensures ∙ first_if.true));
      ordered = subst Ordered (sym c.gone_at.ensures) c.requires.row_known.part.ordered;
      a_lt_b = held.0;
      b_le_last_second = held.1;
    }

pub returns-then-kind_at-eq1 : goal.returns-then-kind_at-eq1
returns-then-kind_at-eq1 c =
    let kind_at_told = c.kind_at in
    let first_if = c.if-kind_at-eq1 in
    let event_at_told = c.event_at-e in
    let gone_at_told = c.gone_at in
    let store_event_told = c.store_event in
    row_stored _ _ _ _ _ _ _ kind_at_told.ensures first_if.true event_at_told.ensures gone_at_told.ensures store_event_told.ensures

pub returns : goal.returns
returns c = row_left _ _ _ _ _ _ _ c.kind_at.ensures c.if-kind_at-eq1.false
