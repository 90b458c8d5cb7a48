-- `filter::trials::row_outside` meets its contract: an event without an instance from the first candidate on is not in the range, nor is a block
-- whose ends stand outside it, nor anything else.
use native.Mathlib.Omega.{arith}
use Rattle.filter.proofs.TrialsLaws.{looked_small, looked_event, looked_block, looked_other}
use Rattle.filter.proofs.trials.row_outside.Goals as goal

pub kind_at-kind-requires : goal.kind_at-kind-requires
kind_at-kind-requires c = c.requires.row_small.row_room

pub event_at-e-requires : goal.event_at-e-requires
event_at-e-requires c = c.requires.row_small.entry_room

pub first_candidate-requires : goal.first_candidate-requires
first_candidate-requires c =
    record {
      event_small = looked_small c.requires.row_small c.kind_at-kind.ensures c.if-kind-eq1.true c.event_at-e.ensures;
      a_le_last_second = omega (arith, c.requires.a_lt_b.0, c.requires.a_lt_b.1);
    }

pub starts_before-requires : goal.starts_before-requires
starts_before-requires c =
    record {
      event_small = looked_small c.requires.row_small c.kind_at-kind.ensures c.if-kind-eq1.true c.event_at-e.ensures;
      b_le_last_second = c.requires.a_lt_b.1;
      k_bound = omega (arith, c.first_candidate.ensures.few);
    }

pub returns-then-kind-eq1 : goal.returns-then-kind-eq1
returns-then-kind-eq1 c =
    λ y.
    looked_event
    c.requires.row_small
    c.kind_at-kind.ensures
    c.if-kind-eq1.true
    c.event_at-e.ensures
    c.requires.a_lt_b.1
    c.first_candidate.ensures
    c.starts_before.ensures y

pub block_at-requires : goal.block_at-requires
block_at-requires c = c.requires.row_small.entry_room

pub returns-then-kind-eq2 : goal.returns-then-kind-eq2
returns-then-kind-eq2 c =
    let kind = c.kind_at-kind.ensures in
    let block = c.if-kind-eq2.true in
    let read = c.block_at.ensures in
    let outside = c.ends_outside.ensures in
    λ y.
    looked_block c.requires.row_small kind block read (outside y)

pub returns : goal.returns
returns c = λ y. looked_other c.requires.row_small c.kind_at-kind.ensures _ _ c.if-kind-eq1.false c.if-kind-eq2.false
