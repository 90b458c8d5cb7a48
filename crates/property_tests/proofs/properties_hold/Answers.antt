-- `property_tests::properties_hold` meets its contract: every record so far passes, and the first that does not decides.
use Rattle.query.proofs.Counting.{so_far_next, every_stop, every_end}
use Rattle.property_tests.specs.PropertyTests.{properties_hold}
use Rattle.property_tests.proofs.properties_hold.Goals as goal

pub property_passes-requires : goal.property_passes-requires
property_passes-requires c =
    let inside = c.loop-i-test.true in
    record {
      q_value = c.requires.q_value;
      i_lt_count = inside;
      indexed = c.requires.indexed;
      row_of = c.requires.row_of;
    }

pub returns-then-not-property_passes : goal.returns-then-not-property_passes
unfolding properties_hold
returns-then-not-property_passes c = every_stop c.loop-i.invariant c.loop-i-test.true c.property_passes.ensures c.if-not-property_passes.true

pub loop-i-preserved : goal.loop-i-preserved
loop-i-preserved c = so_far_next c.loop-i.invariant c.loop-i-test.true c.property_passes.ensures c.if-not-property_passes.false

pub returns : goal.returns
unfolding properties_hold
returns c = every_end c.loop-i.invariant c.loop-i-test.false
