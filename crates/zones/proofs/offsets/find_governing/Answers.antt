-- `zones::offsets::find_governing` meets its contract: the loop keeps the governing onset of the parts before i.
use native.Mathlib.Omega.{arith}
use Rattle.zones.proofs.Parts.{good_as}
use Rattle.zones.proofs.PartRows.{as_part}
use Rattle.zones.proofs.OffsetsLaws.{nothing_else, one_clock, none_yet, pass_none, pass_lower, pass_taken, found_done}
use Rattle.zones.proofs.offsets.find_governing.Goals as goal
use Rattle.zones.proofs.offsets.find_governing.Goals.{in-Some+in-Some-governing+else-t-g, in-Some+in_default-governing, in_default}
use mathlib.Core.Path.{sym, ◌∙◌}

pub loop-i-init : goal.loop-i-init
loop-i-init c = none_yet _ _

pub latest_onset-requires-clause-good_part : goal.latest_onset-requires-clause-good_part
latest_onset-requires-clause-good_part c = good_as _ _ (as_part _ _ _ _ c.part_at-p.ensures) (c.requires.zone_rows.good _ (omega arith))

pub loop-i-preserved-then-t-g : goal.loop-i-preserved-then-t-g
loop-i-preserved-then-t-g c =
    let part = as_part _ _ _ _ c.part_at-p.ensures in
    rw (← c.in-Some-governing.is)
    (pass_lower _ _ _ _ _ _ c.loop-i.invariant part c.latest_onset.ensures _ c.in-Some.is _ c.in-Some-governing.is c.if-t-g.true)

pub loop-i-preserved : goal.loop-i-preserved
loop-i-preserved c =
    let part = as_part _ _ _ _ c.part_at-p.ensures in
    elim c.match-latest_onset.branch [
      | in-Some+in-Some-governing+else-t-g w ↦
          rw w.governing-is
          (pass_taken _ _ _ _ _ _ c.loop-i.invariant part c.latest_onset.ensures _ w.in-Some.is (one_clock w.in-Some-governing.is w.if-t-g.false))
      | in-Some+in_default-governing w ↦
          rw w.governing-is
          (pass_taken _ _ _ _ _ _ c.loop-i.invariant part c.latest_onset.ensures _ w.in-Some.is (λ y s. nothing_else (sym w.in_default-governing.is ∙ s)))
      | in_default w ↦ rw w.governing-is (pass_none _ _ _ _ _ _ c.loop-i.invariant part c.latest_onset.ensures w.in_default.is)
    ]

pub returns : goal.returns
returns c = found_done _ _ _ _ _ c.loop-i.auto.i-end c.loop-i-test.false c.loop-i.invariant
