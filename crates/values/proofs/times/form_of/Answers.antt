-- `values::times::form_of` meets its contract: one count of VALUE tells whether it stands badly, and whether it stands at all.
use Rattle.values.specs.Times.{form_of, form_named}
use borrow.Author.Tests.{lt-ltb, le-ltb}
use Rattle.line.proofs.ReadingParameters.{used_badly, used_at_all}
use mathlib.Core.Path.{ap, ◌∙◌}
use Rattle.values.proofs.times.form_of.Goals as goal

pub returns-then-times-listed : goal.returns-then-times-listed
unfolding form_of
returns-then-times-listed c = rw (used_badly _ _ _ c.usage_of-u.ensures ∙ c.if-times-listed.true)

pub returns-then-times-gt0 : goal.returns-then-times-gt0
unfolding form_of
returns-then-times-gt0 c =
    let used = c.usage_of-u.ensures in
    let once = c.if-times-listed.false in
    let given = c.if-times-gt0.true in
    let value = c.first_value.ensures in
    rw (used_badly _ _ _ used ∙ once, used_at_all _ _ _ used ∙ lt-ltb 0 _ given) (c.form_named.ensures ∙ ap form_named value)

pub returns : goal.returns
unfolding form_of
returns c = rw (used_badly _ _ _ c.usage_of-u.ensures ∙ c.if-times-listed.false, used_at_all _ _ _ c.usage_of-u.ensures ∙ le-ltb 0 _ c.if-times-gt0.false)
