-- `calendar::faults::broken_else` meets its contract: the two cases of the first.
use Rattle.std.specs.Prelude.{ℕ, ◌≡◌, Option, Some, None}
use Rattle.std.specs.Option.{option_or}
use mathlib.Core.Path.{refl, ◌∙◌}
use Rattle.calendar.specs.Checks.{rule_else}
use Rattle.calendar.proofs.faults.broken_else.Goals as goal

first_of_both : (a b : Option ℕ) → option_or a b ≡ rule_else a b
unfolding rule_else
first_of_both None b = refl
first_of_both (Some n) b = refl

pub returns : goal.returns
returns c = c.or.ensures ∙ first_of_both _ _
