-- `line::split::nth_part` meets its contract: the piece at hand and those behind its separator are the pieces that are left, and each turn goes one piece on.
use Prim.Native.Nat.{◌-◌, ◌+◌}
use mathlib.Core.Path.{◌≡◌, subst}
use native.Mathlib.Omega.{arith}
use Rattle.line.proofs.Splitting.{Reached, reached_start, reached_next, reached_none, reached_end}
use Rattle.line.proofs.split.nth_part.Goals as goal

pub loop-init : goal.loop-init
loop-init c =
    let all : c.args.n ≡ c.args.n - 0 = omega arith in
    (omega arith, subst (Reached _ _ _ _ _ _) all (reached_start _ _ _ _ c.find-at.ensures))

pub returns-then-s-at : goal.returns-then-s-at
returns-then-s-at c = reached_none _ _ _ _ _ _ _ (omega arith) c.if-s-at.true c.loop.invariant.1

pub loop-preserved : goal.loop-preserved
loop-preserved c =
    let left : c.args.n - c.loop.counter - 1 ≡ c.args.n - (c.loop.counter + 1) = omega arith in
    (omega arith, subst (Reached _ _ _ _ _ _) left (reached_next _ _ _ _ _ _ _ (omega arith) c.if-s-at.false c.loop.invariant.1 c.find-at-in-loop.ensures))

pub returns : goal.returns
returns c = reached_end _ _ _ _ _ _ _ (omega arith) c.loop.invariant.1
