-- `filter::trials::goes_on` meets its contract: the search of an event's instances tells it; what is tried once has number 0 alone.
use Rattle.filter.proofs.TrialsLaws.{instances_small, instances_on, once_on}
use Rattle.filter.proofs.trials.goes_on.Goals as goal

pub starts_before-requires : goal.starts_before-requires
starts_before-requires c =
    let h = instances_small _ _ _ c.in-Instances.is c.requires.small_trial in
    record {
      event_small = h.0;
      b_le_last_second = h.2;
      k_bound = c.requires.k_bound;
    }

pub returns-in-Instances : goal.returns-in-Instances
returns-in-Instances c = instances_on _ _ _ c.in-Instances.is _ c.starts_before.ensures

pub returns-in-Once : goal.returns-in-Once
returns-in-Once c = once_on _ c.in-Once.is _
