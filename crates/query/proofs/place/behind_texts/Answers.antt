-- `query::place::behind_texts` meets its contract: the texts that are left, from where they begin, are behind where all of them are.
use Prim.Native.Nat.{◌+◌, ◌-◌}
use Rattle.query.specs.Sections.{behind_texts}
use Rattle.query.proofs.SectionsLaws.{texts_next, texts_stop, texts_none}
use mathlib.Core.Path.{◌≡◌, ap, sym, ◌∙◌}
use native.Mathlib.Omega.{arith}
use Rattle.query.proofs.place.behind_texts.Goals as goal

pub loop-preserved : goal.loop-preserved
loop-preserved c =
    let one_less : c.args.n - (c.loop.counter + 1) ≡ c.args.n - c.loop.counter - 1 = omega arith in
    ap (λ k. behind_texts c.args.s.now k c.in_ok-from.from) one_less
    ∙ texts_next _ _ _ _ (omega arith) (sym c.behind_text.ensures ∙ c.in_ok-from.was)
    ∙ c.loop.invariant

pub returns-in_err-from : goal.returns-in_err-from
returns-in_err-from c = c.from_residual.ensures ∙ sym (sym c.loop.invariant ∙ texts_stop _ _ _ (omega arith) (sym c.behind_text.ensures ∙ c.in_err-from.was))

pub returns : goal.returns
returns c = sym (texts_none _ _ _ (omega arith)) ∙ c.loop.invariant
