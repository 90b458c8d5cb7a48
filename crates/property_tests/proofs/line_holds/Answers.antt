-- `property_tests::line_holds` meets its contract: a line of another name fails; one of the name goes by its value, and then by its parameters.
use Rattle.index.proofs.Index.{entry_here, entry_name}
use Rattle.property_tests.proofs.PropertyTests.{line_other, line_valued, line_failed}
use Rattle.property_tests.proofs.line_holds.Goals as goal

pub returns-then-not-is_called : goal.returns-then-not-is_called
returns-then-not-is_called c =
    let is_called = c.is_called.ensures in
    line_other _ _ _ _ _ c.requires.name_value c.requires.text_value is_called c.if-not-is_called.true

pub name_length-requires : goal.name_length-requires
name_length-requires c = entry_here c.requires.entry

pub value_behind-v-requires : goal.value_behind-v-requires
value_behind-v-requires c = entry_name c.requires.entry c.name_length.ensures c.line_at-line.ensures

pub returns-then-text_passes : goal.returns-then-text_passes
returns-then-text_passes c =
    let named = c.if-not-is_called.false in
    let is_called = c.is_called.ensures in
    let line_at = c.line_at-line.ensures in
    let value_behind = c.value_behind-v.ensures in
    line_valued _ _ _ _ _ c.requires.name_value c.requires.text_value is_called named line_at value_behind
    c.text_passes.ensures c.if-text_passes.true c.parameters_hold.ensures

pub returns : goal.returns
returns c =
    let named = c.if-not-is_called.false in
    let is_called = c.is_called.ensures in
    let line_at = c.line_at-line.ensures in
    let value_behind = c.value_behind-v.ensures in
    line_failed _ _ _ _ _ c.requires.name_value c.requires.text_value is_called named line_at value_behind
    c.text_passes.ensures c.if-text_passes.false
