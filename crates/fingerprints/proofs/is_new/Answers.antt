-- `fingerprints::is_new` meets its contract: x stands nowhere behind the blocks that are still to come.
use Prim.Native.Nat.{◌+◌, ◌*◌, ◌-◌, ◌<◌, ◌≤◌}
use mathlib.Core.Path.{◌≡◌}
use Rattle.std.proofs.Math.Nat.{sub-zero}
use Rattle.std.proofs.lemmas.Grind.{common_steps}
use Rattle.fingerprints.proofs.Columns.{passed_start, passed_next, passed_end, seen}
use native.Mathlib.Omega.{arith}
use Rattle.fingerprints.proofs.is_new.Goals as goal

pub loop-k-init : goal.loop-k-init
loop-k-init c = rw sub-zero (passed_start _ _ _)

pub returns-then-is_near : goal.returns-then-is_near
returns-then-is_near c = seen _ _ _

pub loop-k-preserved : goal.loop-k-preserved
loop-k-preserved c =
    let inside : 64 * c.loop-k.k < c.args.n = grind (arith, common_steps) in
    let behind : c.args.n - 64 * c.loop-k.k ≡ 64 + c.args.n - 64 * c.loop-k.k - 64 = omega arith in
    let next : 64 + c.args.n - 64 * (c.loop-k.k + 1) ≡ 64 + c.args.n - 64 * c.loop-k.k - 64 = omega arith in
    rw next (passed_next c.loop-k.invariant (omega arith) (rw behind at c.is_near.ensures) c.if-is_near.false)

pub returns : goal.returns
returns c =
    let all : c.args.n ≤ 64 * c.loop-k.k = grind (arith, common_steps) in
    passed_end c.loop-k.invariant (omega arith)
