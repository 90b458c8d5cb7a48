-- `filter::trials::passes` meets its contract: each arm is one clause of the definition.
use Rattle.filter.specs.Trials.{trial_passes}
use Rattle.filter.proofs.TrialsLaws.{instances_small, instances_pass, once_passes}
use Rattle.filter.proofs.trials.passes.Goals as goal

pub instance_in-requires : goal.instance_in-requires
instance_in-requires c =
    record {
      event_small = (instances_small _ _ _ c.in-Instances.is c.requires.small_trial).0;
      ordered = c.requires.ordered;
      k_bound = c.requires.k_bound;
    }

pub returns-in-Instances : goal.returns-in-Instances
unfolding trial_passes
returns-in-Instances c = instances_pass _ _ _ c.in-Instances.is _ _ c.instance_in.ensures

pub returns-in-Once : goal.returns-in-Once
returns-in-Once c = once_passes _ c.in-Once.is _ _
