-- `property::type_value` meets its contract: without parameters the type is BUSY; a line with one has the type by that, and any other by all of them.
use native.Mathlib.Omega.{arith}
use Rattle.line.specs.Reading.{line_of}
use Rattle.line.proofs.ReadingParameters.{next_rises, next_inside}
use Rattle.property.specs.Facts.{reading_of}
use Rattle.property.proofs.Properties.{plain_type, one_parameter}
use Rattle.property.proofs.type_value.Goals as goal

pub returns-then-line : goal.returns-then-line
unfolding reading_of
returns-then-line c = plain_type _ (c.args.line.no_parameters c.if-line.true)

pub slice_bounds-type_by-end : goal.slice_bounds-type_by-end
slice_bounds-type_by-end c = omega (arith, next_rises _ _ _ c.find-e.ensures, next_inside _ _ _ c.if-at-h.true c.find-e.ensures)

pub returns-then-h-e : goal.returns-then-h-e
returns-then-h-e c =
    let args = c.args in
    let head = c.head-h in
    let find = c.find-at in
    let if2 = c.if-at-h in
    let find2 = c.find-e in
    c.type_by.ensures (line_of args.line.text.now)
    (one_parameter args.line.text.now _ _ _ head.ensures find.ensures if2.true find2.ensures c.if-h-e.true)
