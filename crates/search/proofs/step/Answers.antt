-- `search::step` meets its contract: no more than k of the bytes that stood can go on with b; the measure is k, which each border lowers.
use mathlib.Core.Path.{sym, ◌∙◌}
use native.Mathlib.Omega.{arith}
use Rattle.search.specs.Borders.{byte_of}
use Rattle.search.proofs.Borders.{trying_start, trying_next, trying_found, trying_none, border_less}
use Rattle.search.proofs.step.Goals as goal

pub loop-collation-init : goal.loop-collation-init
loop-collation-init c = trying_start _ _

pub bounds-text-k : goal.bounds-text-k
bounds-text-k c = omega (arith, c.loop-collation.invariant.most)

pub overflow_add-result : goal.overflow_add-result
overflow_add-result c = omega (arith, c.loop-collation.invariant.most)

pub returns-then-fold-b : goal.returns-then-fold-b
unfolding byte_of
returns-then-fold-b c = trying_found c.loop-collation.invariant (sym c.fold.ensures ∙ c.if-fold-b.true)

pub returns-then-k-eq0 : goal.returns-then-k-eq0
unfolding byte_of
returns-then-k-eq0 c =
    let trying = c.loop-collation.invariant in
    let folded = c.fold.ensures in
    let differ = c.if-fold-b.false in
    let none_left = c.if-k-eq0.true in
    trying_none trying c.requires.from_in_bounds (λ e. differ (folded ∙ e)) none_left

pub bounds-table-k : goal.bounds-table-k
bounds-table-k c = omega (arith, c.loop-collation.invariant.most)

pub loop-collation-smaller : goal.loop-collation-smaller
loop-collation-smaller c =
    let trying = c.loop-collation.invariant in
    let some_left = c.if-k-eq0.false in
    let widened = c.from-k.ensures in
    rw widened (border_less c.requires.borders (omega (arith, trying.most)) some_left)

pub loop-collation-preserved : goal.loop-collation-preserved
unfolding byte_of
loop-collation-preserved c =
    let trying = c.loop-collation.invariant in
    let folded = c.fold.ensures in
    let differ = c.if-fold-b.false in
    let some_left = c.if-k-eq0.false in
    let widened = c.from-k.ensures in
    rw widened (trying_next trying c.requires.from_in_bounds (λ e. differ (folded ∙ e)) some_left c.requires.borders (omega arith))
