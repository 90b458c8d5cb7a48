-- `delimiters::delimited_by` meets its contract: behind a colon that follows the name stands the value of a line without parameters;
-- else the count of parameters and the test of the value are the rule's own tests.
use Rattle.ascii.specs.Names.{is_name}
use Rattle.line.proofs.Reading.{plain_at}
use Rattle.delimiters.proofs.Delimiters.{delimited_tested, plain_tested}
use mathlib.Core.Path.{ap, ◌∙◌}
use native.Mathlib.Omega.{arith}
use borrow.Author.Rules.{rules}
use Rattle.delimiters.proofs.delimited_by.Goals as goal

pub overflow_add-n : goal.overflow_add-n
overflow_add-n c = let h = (plain_at c.args.line.now _ c.requires c.is_plain.ensures c.if-is_plain.true).inside in search rules

pub slice_bounds-is_name-count : goal.slice_bounds-is_name-count
slice_bounds-is_name-count c = omega (arith, (plain_at c.args.line.now _ c.requires c.is_plain.ensures c.if-is_plain.true).inside)

pub slice_bounds-is_name-start : goal.slice_bounds-is_name-start
slice_bounds-is_name-start c = omega (arith, (plain_at c.args.line.now _ c.requires c.is_plain.ensures c.if-is_plain.true).inside)

pub returns-then-is_name : goal.returns-then-is_name
returns-then-is_name c = plain_tested (plain_at c.args.line.now _ c.requires c.is_plain.ensures c.if-is_plain.true) c.args.delimiter _ c.is_name.ensures c.if-is_name.true

pub returns-then-is_plain : goal.returns-then-is_plain
returns-then-is_plain c = plain_tested (plain_at c.args.line.now _ c.requires c.is_plain.ensures c.if-is_plain.true) c.args.delimiter _ c.is_name.ensures c.if-is_name.false

pub returns-then-count-named : goal.returns-then-count-named
returns-then-count-named c =
    let called = c.args in
    let named = c.is_name-named.ensures ∙ ap is_name c.value.ensures in
    delimited_tested called.line.now called.delimiter _ _ c.parameter_count-count.ensures named c.if-count-named.true

pub returns-else-count-named : goal.returns-else-count-named
returns-else-count-named c =
    let called = c.args in
    let named = c.is_name-named.ensures ∙ ap is_name c.value.ensures in
    delimited_tested called.line.now called.delimiter _ _ c.parameter_count-count.ensures named c.if-count-named.false
