-- `filter::trials::first_tried` meets its contract: the division finds the first instance to try; anything else is tried once, as number 0.
use native.Mathlib.Omega.{arith}
use Rattle.filter.proofs.TrialsLaws.{instances_small, instances_tried, once_tried}
use Rattle.filter.proofs.trials.first_tried.Goals as goal

pub first_candidate-requires : goal.first_candidate-requires
first_candidate-requires c = let h = instances_small _ _ _ c.in-Instances.is c.requires in
    record {
      event_small = h.0;
      a_le_last_second = omega (arith, h.1, h.2);
    }

pub returns-in-Instances : goal.returns-in-Instances
returns-in-Instances c = instances_tried _ _ _ c.in-Instances.is _ c.first_candidate.ensures

pub returns-in-Once : goal.returns-in-Once
returns-in-Once c = once_tried _ c.in-Once.is
