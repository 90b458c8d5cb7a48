-- `text::unfold_into` meets its contract: the bytes written, followed by what is left unfolded, are the unfolded calendar, and later bytes of the buffer are untouched.
use Rattle.text.proofs.Unfolding.{run_copied, passed_start, passed_next, passed_end}
use Rattle.text.proofs.unfold_into.Goals as goal

pub loop-n-init : goal.loop-n-init
loop-n-init c = passed_start _ _

pub returns-then-cal-e : goal.returns-then-cal-e
returns-then-cal-e c =
    passed_end c.requires c.loop-n.invariant c.next_fold-e.ensures (run_copied _ _ _ _ _ _ c.next_fold-e.ensures.before.order c.next_fold-e.ensures.before.inside c.copy_over.ensures.after) c.if-cal-e.true

pub loop-n-preserved : goal.loop-n-preserved
loop-n-preserved c =
    passed_next c.requires c.loop-n.invariant c.next_fold-e.ensures (run_copied _ _ _ _ _ _ c.next_fold-e.ensures.before.order c.next_fold-e.ensures.before.inside c.copy_over.ensures.after) c.if-cal-e.false
