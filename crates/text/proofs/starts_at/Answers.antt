-- `text::starts_at` meets its contract: after i equal bytes the rest of the text against the rest of the value decides, and a difference decides it at once.
use native.Mathlib.Nat.{add-zero}
use Rattle.text.specs.TextMatch.{starts_at}
use Rattle.text.proofs.TextMatch.{starts_at_next, starts_at_stop, starts_at_end}
use mathlib.Core.Path.{sym, ap, ◌∙◌}
use native.Mathlib.Omega.{arith}
use Rattle.text.proofs.starts_at.Goals as goal

pub loop-i-init : goal.loop-i-init
loop-i-init c = ap (starts_at _ _ _) (add-zero _)

pub returns-then-fold : goal.returns-then-fold
returns-then-fold c =
    let decides = c.loop-i.invariant in
    let inside = c.loop-i-test.true in
    let value_folded = c.fold.ensures in
    let text_folded = c.fold-in-loop-i.ensures in
    let differ = c.if-fold.true in
    sym (sym decides ∙ starts_at_stop _ _ _ _ _ inside (omega arith) (λ e. differ (value_folded ∙ e ∙ sym text_folded)))

pub loop-i-preserved : goal.loop-i-preserved
loop-i-preserved c =
    let decides = c.loop-i.invariant in
    let inside = c.loop-i-test.true in
    let value_folded = c.fold.ensures in
    let text_folded = c.fold-in-loop-i.ensures in
    let same = c.if-fold.false in
    starts_at_next _ _ _ _ _ inside (omega arith) (sym value_folded ∙ same ∙ text_folded) ∙ decides

pub returns : goal.returns
returns c = sym (starts_at_end _ _ _ _ _ c.loop-i-test.false) ∙ c.loop-i.invariant
