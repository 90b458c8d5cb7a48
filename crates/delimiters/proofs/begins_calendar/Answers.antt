-- `delimiters::begins_calendar` meets its contract: only a BEGIN line can begin VCALENDAR, and then its value decides.
use Rattle.line.specs.Reading.{line_of}
use Rattle.delimiters.proofs.Delimiters.{delimiter_begin}
use Rattle.delimiters.proofs.Innermost.{begins_yes, begins_no, begins_other}
use Rattle.delimiters.specs.Innermost.{begins_calendar}
use Rattle.delimiters.proofs.begins_calendar.Goals as goal

pub returns-in-Begins : goal.returns-in-Begins
unfolding begins_calendar line_of
returns-in-Begins c =
    let delimited = c.delimited_by.ensures in
    let begins = c.in-Begins.is in
    let value = c.value.ensures in
    let calendar = c.same_name.ensures in
    begins_yes _ ((delimiter_begin _ _ c.is_called.ensures _ c.if-not-is_called.false) delimited) value begins calendar

pub returns-in_default : goal.returns-in_default
unfolding begins_calendar line_of
returns-in_default c = begins_no _ ((delimiter_begin _ _ c.is_called.ensures _ c.if-not-is_called.false) c.delimited_by.ensures) c.in_default.not-Begins

pub returns-then-not-is_called : goal.returns-then-not-is_called
returns-then-not-is_called c = begins_other c.args.line.now _ c.is_called.ensures c.if-not-is_called.true
