-- `time::duration::duration_text` meets its contract: the loop keeps that reading on from here is reading from the start, and that all numbers are small.
use Rattle.time.specs.declared.duration.Stage.TheVariants.{Start}
use Rattle.time.specs.Duration.{finish, duration_text}
use Rattle.time.proofs.DurationLaws.{blank_small, step_small, runs_next, runs_end}
use mathlib.Core.Path.{refl, sym, ap, ◌∙◌}
use Rattle.time.proofs.duration.duration_text.Goals as goal

pub loop-b-init : goal.loop-b-init
loop-b-init c = (rw c.blank-r.ensures (blank_small Start), rw c.blank-r.ensures refl)

pub loop-b-preserved : goal.loop-b-preserved
loop-b-preserved c =
    let small = c.loop-b.invariant.0 in
    let stepped = c.step-r.ensures in
    (rw stepped (step_small _ _ small), runs_next _ _ _ _ c.loop-b-test.true stepped ∙ c.loop-b.invariant.1)

pub returns : goal.returns
unfolding duration_text
returns c = c.finish.ensures ∙ ap finish (sym (runs_end _ _ _ c.loop-b-test.false) ∙ c.loop-b.invariant.1)
