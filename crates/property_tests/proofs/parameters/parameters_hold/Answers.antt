-- `property_tests::parameters::parameters_hold` meets its contract: every record so far passes, and the first that does not decides.
use Rattle.property_tests.specs.PropertyTests.{parameters_hold}
use Rattle.query.proofs.Counting.{so_far_next, every_stop, every_end}
use Rattle.property_tests.proofs.parameters.parameters_hold.Goals as goal

pub parameter_passes-requires : goal.parameter_passes-requires
parameter_passes-requires c =
    record {
      q_value = c.requires;
      k_lt_count = c.loop-k-test.true;
    }

pub returns-then-not-parameter_passes : goal.returns-then-not-parameter_passes
unfolding parameters_hold
returns-then-not-parameter_passes c = every_stop c.loop-k.invariant c.loop-k-test.true c.parameter_passes.ensures c.if-not-parameter_passes.true

pub loop-k-preserved : goal.loop-k-preserved
loop-k-preserved c = so_far_next c.loop-k.invariant c.loop-k-test.true c.parameter_passes.ensures c.if-not-parameter_passes.false

pub returns : goal.returns
unfolding parameters_hold
returns c = every_end c.loop-k.invariant c.loop-k-test.false
