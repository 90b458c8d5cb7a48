-- `values::rule::rule_by` meets its contract: the tests stand in the order of the definition.
use Rattle.std.proofs.Math.Nat.{max_comm}
use mathlib.Core.Path.{◌∙◌}
use Rattle.values.proofs.RuleLaws.{rule_by_unsupported, rule_by_bad, rule_by_of}
use Rattle.values.proofs.rule.rule_by.Goals as goal

pub returns-then-unsupported : goal.returns-then-unsupported
returns-then-unsupported c = rule_by_unsupported c.args.p c.if-unsupported.true

pub returns-then-bad-p : goal.returns-then-bad-p
returns-then-bad-p c = rule_by_bad c.args.p c.if-unsupported.false c.if-bad-p.true

pub returns : goal.returns
returns c = rule_by_of c.args.p _ c.if-unsupported.false c.if-bad-p.false (c.max.ensures ∙ max_comm _ _) c.unwrap_or.ensures
