-- `cli::arguments::decimal_of` meets its contract: the loop keeps that the digits left, behind the number so far, decide.
use mathlib.Core.Path.{sym, ◌∙◌}
use borrow.Author.Tests.{eqb-true, eqb-false}
use Rattle.cli.proofs.ArgumentsLaws.{digits_none, digits_start, digits_more, digits_stop, digits_end}
use Rattle.cli.proofs.arguments.decimal_of.Goals as goal

pub returns-then-is_empty : goal.returns-then-is_empty
returns-then-is_empty c = digits_none _ (eqb-true _ 0 (sym c.is_empty.ensures ∙ c.if-is_empty.true))

pub loop-b-init : goal.loop-b-init
loop-b-init c = digits_start _ (eqb-false _ 0 (sym c.is_empty.ensures ∙ c.if-is_empty.false))

pub loop-b-preserved : goal.loop-b-preserved
loop-b-preserved c = digits_more c.loop-b.invariant c.loop-b-test.true (sym c.with_digit.ensures ∙ c.in_ok-n.was)

pub returns-in_err-n : goal.returns-in_err-n
returns-in_err-n c = c.from_residual.ensures ∙ digits_stop c.loop-b.invariant c.loop-b-test.true (sym c.with_digit.ensures ∙ c.in_err-n.was)

pub returns : goal.returns
returns c = digits_end c.loop-b.invariant c.loop-b-test.false
