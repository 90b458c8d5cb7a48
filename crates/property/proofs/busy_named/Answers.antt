-- `property::busy_named` meets its contract: the words are tried in the order of the definition.
use Rattle.property.specs.Properties.{busy_named}
use mathlib.Core.Path.{sym, ◌∙◌}
use Rattle.property.proofs.busy_named.Goals as goal

pub returns-then-same_name : goal.returns-then-same_name
unfolding busy_named
returns-then-same_name c = rw (sym c.same_name.ensures ∙ c.if-same_name.true)

pub returns-then-same_name-2 : goal.returns-then-same_name-2
unfolding busy_named
returns-then-same_name-2 c = rw (sym c.same_name.ensures ∙ c.if-same_name.false, sym c.same_name-2.ensures ∙ c.if-same_name-2.true)

pub returns-then-same_name-3 : goal.returns-then-same_name-3
unfolding busy_named
returns-then-same_name-3 c =
    let same_name = c.same_name in
    let if1 = c.if-same_name in
    let same_name2 = c.same_name-2 in
    let if2 = c.if-same_name-2 in
    rw (sym same_name.ensures ∙ if1.false, sym same_name2.ensures ∙ if2.false, sym c.same_name-3.ensures ∙ c.if-same_name-3.true)

pub returns : goal.returns
unfolding busy_named
returns c =
    let same_name = c.same_name in
    let if1 = c.if-same_name in
    let same_name2 = c.same_name-2 in
    let if2 = c.if-same_name-2 in
    rw (sym same_name.ensures ∙ if1.false, sym same_name2.ensures ∙ if2.false, sym c.same_name-3.ensures ∙ c.if-same_name-3.false)
