-- `line::split::find_outside` meets its contract: the bytes passed hold no separator outside quotes, so the place counted from the rest is the place counted from the start.
use Rattle.line.proofs.Splitting.{find_here, find_next, find_end, usual_end}
use Rattle.line.specs.Splitting.{next_place}
use Rattle.line.proofs.Places.{stops}
use mathlib.Core.Path.{◌≡◌, refl, sym, ◌∙◌}
use Rattle.line.proofs.split.find_outside.Goals as goal

pub loop-i-init : goal.loop-i-init
unfolding next_place
loop-i-init c = refl

pub returns-then-b-separator : goal.returns-then-b-separator
returns-then-b-separator c = sym (find_here _ _ _ _ _ c.loop-i-test.true c.if-b-separator.true) ∙ c.loop-i.invariant

pub loop-i-preserved : goal.loop-i-preserved
loop-i-preserved c = find_next _ _ _ _ _ c.loop-i-test.true c.if-b-separator.false c.quoted_after-quoted.ensures ∙ c.loop-i.invariant

pub returns : goal.returns
returns c =
    stops (λ i. i ≡ next_place c.args.quoting c.args.separator c.args.s.now c.args.from) _ _ _ _ c.max.ensures c.loop-i.auto.i-end c.loop-i-test.false
    (λ h. usual_end c.args.quoting c.args.separator c.args.s.now c.args.from h)
    (sym (find_end c.args.quoting c.args.separator c.loop-i.quoted _ _ c.loop-i-test.false) ∙ c.loop-i.invariant)
