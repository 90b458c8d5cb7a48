-- `query_check::components_misplaced` meets its contract: each component is asked, and its name is the number of a text.
use Rattle.std.proofs.Common.{rules, refl, ℕ, ◌<◌, ◌≡◌}
use borrow.Author.Tests.{tests}
use Rattle.std.proofs.iter.Serving.{serving}
use Rattle.query.specs.Records.{component_at}
use Rattle.query.specs.declared.ComponentRecord.{ComponentRecord}
use Rattle.query.proofs.Counting.{any_below}
use Rattle.query_check.proofs.WellFormed.{component_text}
use Rattle.query_check.specs.WellFormed.{components_misplaced}
use Rattle.query_check.proofs.components_misplaced.Goals as goal

pub any-requires-clause-callable : goal.any-requires-clause-callable
any-requires-clause-callable c =
    let s = c.args.q.now.bytes.now in
    let q = c.args.q.now.sections in
    let named : (k : ℕ) (r : ComponentRecord) → k < q.components.count → r ≡ component_at s q k → r.name < q.texts.count
    = λ k r h e. component_text s q k c.requires h e in
    grind (serving, named)

pub returns : goal.returns
unfolding components_misplaced
returns c = any_below _ _ refl (λ x b q k. search (rules, tests)) c.any.ensures.ran
