-- `overrides::names_instance` meets its contract: before DTSTART there is none, and from there on the division is the definition's own.
use mathlib.Core.Path.{refl}
use native.Mathlib.Omega.{arith}
use Rattle.recurrence.proofs.Instances.{step_long}
use Rattle.overrides.proofs.Instances.{before_start, number_few, names_by}
use Rattle.overrides.proofs.names_instance.Goals as goal

pub returns-then-s-e : goal.returns-then-s-e
returns-then-s-e c = before_start _ _ c.if-s-e.true

pub nonzero_div-k : goal.nonzero_div-k
nonzero_div-k c = omega (arith, c.step_of.ensures, step_long c.requires.event_small)

pub is_instance-requires : goal.is_instance-requires
is_instance-requires c =
    record {
      event_small = c.requires.event_small;
      k_bound = omega (arith, number_few c.requires.event_small c.requires.s_le_last_second c.step_of.ensures);
    }

pub start_of-requires : goal.start_of-requires
start_of-requires c =
    record {
      event_small = c.requires.event_small;
      k_bound = number_few c.requires.event_small c.requires.s_le_last_second c.step_of.ensures;
    }

pub returns : goal.returns
returns c = simp c.is_instance.ensures (names_by _ _ _ _ _ c.step_of.ensures refl c.start_of.ensures)
