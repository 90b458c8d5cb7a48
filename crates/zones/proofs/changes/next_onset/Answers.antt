-- `zones::changes::next_onset` meets its contract: one law for each way out.
use native.Mathlib.Omega.{arith}
use Rattle.zones.proofs.ChangesLaws.{next_start, next_without, next_by}
use Rattle.zones.proofs.changes.next_onset.Goals as goal

pub returns-then-w-p : goal.returns-then-w-p
returns-then-w-p c = next_start _ _ c.if-w-p.true

pub returns-then-p-eq0 : goal.returns-then-p-eq0
returns-then-p-eq0 c = next_without _ _ _ (omega arith) c.if-p-eq0.true c.requires.w_lt_clock_end

pub returns : goal.returns
returns c = next_by _ _ _ (omega arith) c.next_by_rule.ensures
