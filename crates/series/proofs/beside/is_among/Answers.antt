-- `series::beside::is_among` meets its contract: the library's test of some element is the definition.
use Rattle.std.proofs.Common.{rules, tests, nat_eq, ◌∙◌}
use Rattle.std.proofs.lemmas.Iterator.{YieldsList-from_slice}
use Rattle.std.proofs.lemmas.Iterator.Search.{any_from_yields_List}
use Prim.Native.Nat.{ℕ}
use Rattle.series.proofs.BesideLaws.{among_any}
use Rattle.series.proofs.beside.is_among.Goals as goal

pub returns : goal.returns
returns c =
    any_from_yields_List (λ (s : ℕ). nat_eq s c.args.x) _ _ _ c.any.ensures.ran (YieldsList-from_slice c.args.l.now cc) (λ x b q k. search (rules, tests))
    ∙ among_any c.args.x c.args.l.now
