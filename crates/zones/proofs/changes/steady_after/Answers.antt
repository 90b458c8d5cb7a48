-- `zones::changes::steady_after` meets its contract: one law for each way out.
use Rattle.zones.proofs.ChangesLaws.{stays_gap, stays_from, stays_to}
use Rattle.zones.proofs.changes.steady_after.Goals as goal

pub returns-then-t-p : goal.returns-then-t-p
returns-then-t-p c =
    stays_gap _ _ _ _ c.requires.t_le_w
    c.requires.w_lt_next
    c.if-w-t.true
    c.if-t-p.true

pub returns-then-w-t : goal.returns-then-w-t
returns-then-w-t c =
    stays_from _ _ _ _ c.requires.t_le_w
    c.requires.w_lt_next
    c.if-w-t.true
    c.if-t-p.false

pub returns : goal.returns
returns c = stays_to _ _ _ _ c.requires.t_le_w c.requires.w_lt_next c.if-w-t.false
