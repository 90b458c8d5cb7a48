-- `values::rule::named_part` meets its contract: the names are tried in the order of the definition.
use Rattle.values.specs.Rule.{named_part, interval_by, count_by}
use mathlib.Core.Path.{sym, ◌∙◌}
use Rattle.values.proofs.rule.named_part.Goals as goal

pub returns-then-same_name : goal.returns-then-same_name
unfolding named_part
returns-then-same_name c = rw (sym c.same_name.ensures ∙ c.if-same_name.true) c.frequency_part.ensures

pub returns-in_default : goal.returns-in_default
unfolding named_part interval_by
returns-in_default c =
    let no_frequency = sym c.same_name.ensures ∙ c.if-same_name.false in
    let interval = sym c.same_name-2.ensures ∙ c.if-same_name-2.true in
    rw (no_frequency, interval, sym c.number_to.ensures ∙ c.in_default.is)

pub returns-then-same_name-2 : goal.returns-then-same_name-2
unfolding named_part interval_by
returns-then-same_name-2 c =
    let no_frequency = sym c.same_name.ensures ∙ c.if-same_name.false in
    let interval = sym c.same_name-2.ensures ∙ c.if-same_name-2.true in
    rw (no_frequency, interval, sym c.number_to.ensures ∙ c.in-Some.is)

pub returns-in_default-number_to : goal.returns-in_default-number_to
unfolding named_part count_by
returns-in_default-number_to c =
    let no_frequency = sym c.same_name.ensures ∙ c.if-same_name.false in
    let no_interval = sym c.same_name-2.ensures ∙ c.if-same_name-2.false in
    let count = sym c.same_name-3.ensures ∙ c.if-same_name-3.true in
    rw (no_frequency, no_interval, count, sym c.number_to-then-same_name-3.ensures ∙ c.in_default-number_to.is)

pub returns-then-same_name-3 : goal.returns-then-same_name-3
unfolding named_part count_by
returns-then-same_name-3 c =
    let no_frequency = sym c.same_name.ensures ∙ c.if-same_name.false in
    let no_interval = sym c.same_name-2.ensures ∙ c.if-same_name-2.false in
    let count = sym c.same_name-3.ensures ∙ c.if-same_name-3.true in
    rw (no_frequency, no_interval, count, sym c.number_to-then-same_name-3.ensures ∙ c.in-Some-number_to.is)

pub returns-then-same_name-4 : goal.returns-then-same_name-4
unfolding named_part
returns-then-same_name-4 c =
    let no_frequency = sym c.same_name.ensures ∙ c.if-same_name.false in
    let no_interval = sym c.same_name-2.ensures ∙ c.if-same_name-2.false in
    let no_count = sym c.same_name-3.ensures ∙ c.if-same_name-3.false in
    let until = sym c.same_name-4.ensures ∙ c.if-same_name-4.true in
    rw (no_frequency, no_interval, no_count, until) c.until_part.ensures

pub returns : goal.returns
unfolding named_part
returns c =
    let no_frequency = sym c.same_name.ensures ∙ c.if-same_name.false in
    let no_interval = sym c.same_name-2.ensures ∙ c.if-same_name-2.false in
    let no_count = sym c.same_name-3.ensures ∙ c.if-same_name-3.false in
    let no_until = sym c.same_name-4.ensures ∙ c.if-same_name-4.false in
    rw (no_frequency, no_interval, no_count, no_until)
