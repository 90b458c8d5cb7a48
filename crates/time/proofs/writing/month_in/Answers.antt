-- `time::writing::month_in` meets its contract: the division is the count of months begun, computed at every day of a year.
use mathlib.Core.Bool.{true, false}
use Rattle.time.proofs.DaysLaws.{year_in_small}
use Rattle.time.proofs.WritingLaws.{month_in_early, month_in_by}
use native.Mathlib.Omega.{arith}
use Rattle.time.proofs.writing.month_in.Goals as goal

pub returns-then-n-lt59 : goal.returns-then-n-lt59
returns-then-n-lt59 c = month_in_early _ _ c.if-n-lt59.true

pub overflow_mul-result-then-leap : goal.overflow_mul-result-then-leap
overflow_mul-result-then-leap c = omega (arith, c.requires, year_in_small c.args.leap)

pub overflow_add-result-then-leap : goal.overflow_add-result-then-leap
overflow_add-result-then-leap c = omega (arith, c.requires, year_in_small c.args.leap)

pub returns-then-leap : goal.returns-then-leap
returns-then-leap c = month_in_by _ true _ c.if-leap.true c.if-n-lt59.false c.requires

pub overflow_mul-result-2 : goal.overflow_mul-result-2
overflow_mul-result-2 c = omega (arith, c.requires, year_in_small c.args.leap)

pub overflow_add-result-2 : goal.overflow_add-result-2
overflow_add-result-2 c = omega (arith, c.requires, year_in_small c.args.leap)

pub returns : goal.returns
returns c = month_in_by _ false _ c.if-leap.false c.if-n-lt59.false c.requires
