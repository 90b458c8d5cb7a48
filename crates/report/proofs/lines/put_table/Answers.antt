-- `report::lines::put_table` meets its contract: the rows of the part that is lent are the table's.
use Rattle.table.proofs.Spans.{spans_part}
use Rattle.report.proofs.lines.put_table.Goals as goal

pub put_periods-requires : goal.put_periods-requires
put_periods-requires c =
    let called = c.args in
    rw (spans_part called.first called.count called.spans.now) (record { good_periods = c.requires.good_periods; ends_in_bounds = c.requires.ends_in_bounds })

pub returns : goal.returns
returns c =
    let called = c.args in
    rw (← spans_part called.first called.count called.spans.now) c.put_periods.ensures
