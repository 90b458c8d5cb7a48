-- `time::duration::step` meets its contract: a byte's interval says whether it is a digit and what its capital is.
use Rattle.time.proofs.DurationLaws.{step_digit, step_low, step_middle, step_high, step_lower}
use mathlib.Core.Path.{◌∙◌}
use native.Mathlib.Omega.{arith}
use Rattle.time.proofs.duration.step.Goals.{in_default-via-then-b-lt48, in_default-via-else-b-lt48+else-b-lt58+then-b-lt65, in_default-via-else-b-lt48+else-b-lt58+else-b-lt65+else-b-lt91+then-b-lt97, in_default-via-else-b-lt48+else-b-lt58+else-b-lt65+else-b-lt91+else-b-lt97+else-b-lt123}
use Rattle.time.proofs.duration.step.Goals as goal

pub returns-in-48-to-57 : goal.returns-in-48-to-57
returns-in-48-to-57 c = c.with_digit.ensures ∙ step_digit _ _ (omega arith) (omega arith)

pub returns-in-65-to-90 : goal.returns-in-65-to-90
returns-in-65-to-90 c = c.with_unit.ensures ∙ step_middle _ _ (omega arith) (omega arith)

pub returns-in-97-to-122 : goal.returns-in-97-to-122
returns-in-97-to-122 c = c.with_unit-in-97-to-122.ensures ∙ step_lower _ _ (omega arith) (omega arith)

pub returns-in_default : goal.returns-in_default
returns-in_default c =
    c.with_unit-in_default.ensures
    ∙ elim c.in_default.branch [
      | in_default-via-then-b-lt48 w ↦ step_low _ _ (omega arith)
      | in_default-via-else-b-lt48+else-b-lt58+then-b-lt65 w ↦ step_middle _ _ (omega arith) (omega arith)
      | in_default-via-else-b-lt48+else-b-lt58+else-b-lt65+else-b-lt91+then-b-lt97 w ↦ step_middle _ _ (omega arith) (omega arith)
      | in_default-via-else-b-lt48+else-b-lt58+else-b-lt65+else-b-lt91+else-b-lt97+else-b-lt123 w ↦ step_high _ _ (omega arith)
    ]
