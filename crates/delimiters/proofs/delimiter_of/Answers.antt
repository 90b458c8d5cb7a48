-- `delimiters::delimiter_of` meets its contract: a line that begins with neither B nor E has another name than BEGIN and END,
-- and else each branch is one case of the tests on the name.
use Rattle.delimiters.proofs.Delimiters.{delimiter_other, delimiter_begin, delimiter_end, delimiter_property}
use Rattle.delimiters.proofs.delimiter_of.Goals as goal

pub returns-then-b : goal.returns-then-b
returns-then-b c = delimiter_other _ _ c.upper-b.ensures c.if-b.true

pub returns-then-is_called : goal.returns-then-is_called
returns-then-is_called c = delimiter_begin c.args.line.now _ c.is_called.ensures _ c.if-is_called.true c.delimited_by.ensures

pub returns-then-is_called-2 : goal.returns-then-is_called-2
returns-then-is_called-2 c =
    let line = c.args.line.now in
    let begin_asked = c.is_called.ensures in
    let no_begin = c.if-is_called.false in
    let end_asked = c.is_called-2.ensures in
    let end = c.if-is_called-2.true in
    let delimited = c.delimited_by-then-is_called-2.ensures in
    delimiter_end line _ begin_asked _ end_asked no_begin _ end delimited

pub returns : goal.returns
returns c =
    let line = c.args.line.now in
    let begin_asked = c.is_called.ensures in
    let no_begin = c.if-is_called.false in
    let end_asked = c.is_called-2.ensures in
    let no_end = c.if-is_called-2.false in
    delimiter_property line _ begin_asked _ end_asked no_begin no_end
