-- `ascii::same_name` meets its contract: the loop keeps that what is left decides, and names of other lengths differ.
use mathlib.Core.Path.{refl, sym, ◌∙◌}
use Rattle.ascii.proofs.Names.{same_name_next, same_name_stop, same_name_end, same_name_length}
use native.Mathlib.Omega.{arith}
use borrow.Author.Tests.{eqb-true, eqb-false}
use Rattle.ascii.proofs.same_name.Goals as goal

pub returns-then-a-b : goal.returns-then-a-b
returns-then-a-b c = sym (same_name_length _ _ c.if-a-b.true)

pub loop-i-init : goal.loop-i-init
loop-i-init c = (omega arith, refl)

pub returns-then-not-same_byte : goal.returns-then-not-same_byte
returns-then-not-same_byte c =
    let h = c.loop-i.invariant in
    sym (sym h.1 ∙ same_name_stop _ _ _ c.loop-i-test.true (omega (arith, h.0)) (eqb-false _ _ (sym c.same_byte.ensures ∙ c.if-not-same_byte.true)))

pub loop-i-preserved : goal.loop-i-preserved
loop-i-preserved c =
    let h = c.loop-i.invariant in
    (h.0, same_name_next _ _ _ c.loop-i-test.true (omega (arith, h.0)) (eqb-true _ _ (sym c.same_byte.ensures ∙ c.if-not-same_byte.false)) ∙ h.1)

pub returns : goal.returns
returns c =
    let h = c.loop-i.invariant in
    sym (same_name_end _ _ _ c.loop-i-test.false (omega (arith, h.0))) ∙ h.1
