-- `line::split::part_count` meets its contract: the pieces counted and those behind the separator at hand are all the pieces.
use Rattle.line.proofs.Splitting.{next_place_ge, Counted, counted_start, counted_next, counted_end}
use mathlib.Core.Path.{subst, sym}
use Prim.Native.Nat.{ℕ, ◌+◌}
use native.Mathlib.Omega.{arith}
use Rattle.line.proofs.split.part_count.Goals as goal

pub loop-at-init : goal.loop-at-init
loop-at-init c = subst (λ (k : ℕ). Counted c.args.quoting c.args.separator c.args.s.now 1 k) (sym c.find-at.ensures) (counted_start _ _ _)

pub loop-at-smaller : goal.loop-at-smaller
loop-at-smaller c =
    let separator = c.args.separator in
    let quoting = c.args.quoting in
    let bytes = c.args.s.now in
    let place = c.loop-at.at in
    let next = c.find-at-in-loop-at.ensures in
    omega (arith, next, next_place_ge quoting separator bytes (place + 1))

pub loop-at-preserved : goal.loop-at-preserved
loop-at-preserved c =
    let separator = c.args.separator in
    let quoting = c.args.quoting in
    let bytes = c.args.s.now in
    let counted = c.loop-at.invariant in
    let count = c.loop-at.n in
    let inside = c.loop-at-test.true in
    let next = c.find-at-in-loop-at.ensures in
    subst (λ (k : ℕ). Counted quoting separator bytes (count + 1) k) (sym next) (counted_next _ _ _ _ _ inside counted)

pub returns : goal.returns
returns c = counted_end _ _ _ _ _ c.loop-at-test.false c.loop-at.invariant
