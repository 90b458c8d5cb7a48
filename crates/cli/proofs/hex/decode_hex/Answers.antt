-- `cli::hex::decode_hex` meets its contract: the loop keeps that what is left of the text writes what is left to store.
use mathlib.Core.Path.{sym, ap, ◌∙◌}
use native.Mathlib.Omega.{arith}
use Rattle.std.specs.Prelude.{Some}
use Rattle.cli.specs.declared.hex.Step.{Step}
use Rattle.cli.proofs.HexLaws.{storing_start, storing_pass, storing_full, storing_byte, storing_wrong, storing_end}
use Rattle.cli.proofs.hex.decode_hex.Goals.{in-To, in-Byte+else-n-out}
use Rattle.cli.proofs.hex.decode_hex.Goals as goal

pub loop-b-init : goal.loop-b-init
loop-b-init c = storing_start _ _

pub loop-b-preserved : goal.loop-b-preserved
loop-b-preserved c =
    let step = sym c.step_of.ensures ∙ c.in-Some.is in
    elim c.match-step.branch [
      | in-To w ↦
          (let passed = storing_pass c.loop-b.invariant c.loop-b-test.true (step ∙ ap (λ (t : Step). Some t) w.in-To.is) in
          rw (w.out-is, w.p-is, w.n-is) passed)
      | in-Byte+else-n-out w ↦
          (let stored = storing_byte c.loop-b.invariant c.loop-b-test.true (step ∙ ap (λ (t : Step). Some t) w.in-Byte.is) w.if-n-out.false in
          rw (w.out-is, w.p-is, w.n-is) stored)
    ]

pub returns-then-n-out : goal.returns-then-n-out
returns-then-n-out c =
    let byte = sym c.step_of.ensures ∙ c.in-Some.is ∙ ap (λ (t : Step). Some t) c.in-Byte.is in
    storing_full c.loop-b.invariant c.loop-b-test.true byte c.if-n-out.true

pub bounds-out-n : goal.bounds-out-n
bounds-out-n c = omega (arith, c.loop-b.invariant.room, c.loop-b.invariant.long, c.if-n-out.false)

pub overflow_add-n : goal.overflow_add-n
overflow_add-n c = omega (arith, c.loop-b.invariant.room, c.loop-b.invariant.long, c.if-n-out.false)

pub returns-in_default : goal.returns-in_default
returns-in_default c = storing_wrong c.loop-b.invariant c.loop-b-test.true (sym c.step_of.ensures ∙ c.in_default.is)

pub returns : goal.returns
returns c = storing_end c.loop-b.invariant c.loop-b-test.false c.at_end.ensures
