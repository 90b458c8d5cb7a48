-- `fingerprints::fingerprint` meets its contract: the sums so far and the words that are left make the fingerprint of the whole.
use Prim.Native.Nat.{◌+◌, ◌*◌, ◌/◌}
use mathlib.Core.Path.{◌≡◌, ◌∙◌}
use lib.ListN.{length}
use Rattle.fingerprints.proofs.Fingerprints.{summing_start, summing_next, summing_few}
use native.Mathlib.Omega.{arith}
use Rattle.fingerprints.proofs.fingerprint.Goals as goal

pub loop-k-init : goal.loop-k-init
loop-k-init c = summing_start _

pub loop-k-preserved : goal.loop-k-preserved
loop-k-preserved c =
    let four : 4 * (c.loop-k.k + 1) ≡ 4 * c.loop-k.k + 4 = omega arith in
    rw four (summing_next (omega arith) c.loop-k.invariant (omega arith) c.word-one.ensures)

pub finish-requires : goal.finish-requires
finish-requires c =
    let last : c.loop-k.k ≡ length c.args.u.now / 4 = omega arith in
    rw (← last) (summing_few (omega arith) c.loop-k.invariant (omega arith))

pub returns : goal.returns
returns c =
    let last : c.loop-k.k ≡ length c.args.u.now / 4 = omega arith in
    (rw (← last) at c.finish.ensures) ∙ c.loop-k.invariant.left
