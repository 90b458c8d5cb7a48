-- `filter::trials::trial_in` meets its contract: each way out is one kind of row.
use Rattle.filter.proofs.RangesLaws.{row_small}
use Rattle.filter.proofs.TrialsLaws.{trial_event, trial_block, trial_other}
use Rattle.filter.proofs.trials.trial_in.Goals as goal

pub kind_at-kind-requires : goal.kind_at-kind-requires
kind_at-kind-requires c = c.requires.here.row.room

pub event_at-requires : goal.event_at-requires
event_at-requires c = (row_small c.requires.given c.requires.here).entry_room

pub returns-then-kind-eq1 : goal.returns-then-kind-eq1
returns-then-kind-eq1 c =
    trial_event
    c.requires.given
    c.requires.here
    c.kind_at-kind.ensures _ _ c.if-kind-eq1.true c.event_at.ensures
    c.requires.a_lt_b

pub block_at-x-requires : goal.block_at-x-requires
block_at-x-requires c = (row_small c.requires.given c.requires.here).entry_room

pub bounds_in-requires : goal.bounds_in-requires
bounds_in-requires c =
    record {
      context_good = c.requires.context_good;
      indexed = c.requires.given.indexed;
      row_of = c.requires.here.row;
    }

pub returns-then-kind-eq2 : goal.returns-then-kind-eq2
returns-then-kind-eq2 c =
    trial_block
    c.requires.given
    c.requires.here
    c.kind_at-kind.ensures _ _
    c.if-kind-eq2.true
    c.block_at-x.ensures c.bounds_in.ensures

pub returns : goal.returns
returns c =
    trial_other
    c.requires.given
    c.requires.here
    c.kind_at-kind.ensures _ _ c.if-kind-eq1.false c.if-kind-eq2.false
