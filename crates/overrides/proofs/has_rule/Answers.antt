-- `overrides::has_rule` meets its contract: only one variant has no rule.
use mathlib.Core.Path.{sym}
use Rattle.overrides.specs.Rules.{has_rule}
use Rattle.overrides.proofs.Keeping.{rule_given}
use Rattle.overrides.proofs.has_rule.Goals.{in-Once, in_default}
use Rattle.overrides.proofs.has_rule.Goals as goal

pub returns : goal.returns
unfolding has_rule
returns c =
    elim c.match-matches.branch [
      | in-Once w ↦ rw (w.matches-is, w.in-Once.is)
      | in_default w ↦ rw w.matches-is (sym (rule_given _ w.in_default.not-Once))
    ]
