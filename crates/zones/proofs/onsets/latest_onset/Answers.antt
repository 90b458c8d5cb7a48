-- `zones::onsets::latest_onset` meets its contract: one law for each way out.
use native.Mathlib.Omega.{arith}
use Rattle.zones.proofs.OnsetsLaws.{before_start, without_rule, rule_found, rule_none}
use Rattle.zones.proofs.onsets.latest_onset.Goals as goal

pub returns-then-w-p : goal.returns-then-w-p
returns-then-w-p c = before_start _ _ c.if-w-p.true

pub returns-then-p-eq0 : goal.returns-then-p-eq0
returns-then-p-eq0 c = without_rule _ _ (omega arith) c.if-p-eq0.true

pub returns-in-Some : goal.returns-in-Some
returns-in-Some c = rule_found _ _ _ _ c.latest_by_rule-found.ensures c.in-Some.is

pub returns-in-None : goal.returns-in-None
returns-in-None c = rule_none _ _ _ (omega arith) c.latest_by_rule-found.ensures c.in-None.is
