-- `line::check::next_control` meets its contract: no control stands before the place.
use Rattle.text.proofs.Unfolding.{nowhere_next}
use Rattle.line.specs.WellFormed.{control_at, NextControl}
use Rattle.line.proofs.WellFormedControls.{control_found, control_none}
use lib.ListN.{length}
use mathlib.Core.Path.{◌≡◌, subst, sym, ◌∙◌}
use native.Mathlib.Omega.{arith}
use Rattle.line.proofs.check.next_control.Goals as goal

pub skip_clear-i-requires : goal.skip_clear-i-requires
skip_clear-i-requires c = c.requires

pub loop-i-init : goal.loop-i-init
loop-i-init c = c.skip_clear-i.ensures

pub returns-then-is_control : goal.returns-then-is_control
returns-then-is_control c = control_found c.loop-i.invariant (sym c.is_control.ensures ∙ c.if-is_control.true)

pub loop-i-preserved : goal.loop-i-preserved
unfolding control_at
loop-i-preserved c = nowhere_next c.loop-i.invariant c.loop-i-test.true (sym c.is_control.ensures ∙ c.if-is_control.false)

pub returns : goal.returns
returns c =
    let end : c.loop-i.i ≡ length c.args.s.now = omega (arith, c.loop-i.invariant.inside) in
    subst (NextControl _ _) end (control_none c.loop-i.invariant c.loop-i-test.false)
