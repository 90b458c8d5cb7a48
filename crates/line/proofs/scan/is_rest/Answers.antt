-- `line::scan::is_rest` meets its contract: behind each step and the part passed after it, the state and the bytes left decide; in the value a clear line is good, and at the end the state decides.
use Rattle.line.proofs.WellFormedControls.{clear_ending}
use Rattle.line.proofs.Scanner.{leads_after, scan_end}
use mathlib.Core.Path.{refl, sym, ◌∙◌}
use native.Mathlib.Omega.{arith}
use Rattle.line.proofs.scan.is_rest.Goals as goal

pub loop-i-init : goal.loop-i-init
loop-i-init c = refl

pub returns-then-is_ending : goal.returns-then-is_ending
returns-then-is_ending c =
    let clear = c.requires in
    let leads = c.loop-i.invariant in
    let inside = c.loop-i-test.true in
    let stepped = c.step-state.ensures in
    let ending = c.is_ending.ensures in
    let ended = c.if-is_ending.true in
    clear_ending _ clear _ _ _ _ inside stepped ending ended ∙ leads

pub loop-i-smaller : goal.loop-i-smaller
loop-i-smaller c = omega (arith, c.pass_part-place.ensures.0)

pub loop-i-preserved : goal.loop-i-preserved
loop-i-preserved c =
    let leads = c.loop-i.invariant in
    let inside = c.loop-i-test.true in
    let stepped = c.step-state.ensures in
    let passed = c.pass_part-place.ensures in
    (leads_after _ _ _ _ _ _ inside stepped passed).1 ∙ leads

pub returns : goal.returns
returns c = c.is_ending-2.ensures ∙ sym (scan_end _ _ _ c.loop-i-test.false) ∙ c.loop-i.invariant
