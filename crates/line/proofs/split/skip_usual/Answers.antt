-- `line::split::skip_usual` meets its contract: the next place is the same from each byte passed.
use Rattle.line.proofs.Splitting.{usual_next}
use Rattle.line.proofs.Places.{stops}
use Rattle.line.specs.Splitting.{next_place}
use mathlib.Core.Path.{◌≡◌, refl, ◌∙◌}
use Rattle.line.proofs.split.skip_usual.Goals as goal

pub loop-i-init : goal.loop-i-init
loop-i-init c = λ g. refl

pub returns-then-b-separator : goal.returns-then-b-separator
returns-then-b-separator c = c.loop-i.invariant

pub returns-then-b-eq34 : goal.returns-then-b-eq34
returns-then-b-eq34 c = c.loop-i.invariant

pub loop-i-preserved : goal.loop-i-preserved
loop-i-preserved c = λ g. usual_next g _ _ _ c.loop-i-test.true c.if-b-separator.false c.if-b-eq34.false ∙ c.loop-i.invariant g

pub returns : goal.returns
returns c =
    λ g. stops (λ i. next_place g c.args.separator c.args.s.now i ≡ next_place g c.args.separator c.args.s.now c.args.from) _ _ _ _
    c.max.ensures c.loop-i.auto.i-end c.loop-i-test.false (λ h. refl) (c.loop-i.invariant g)
