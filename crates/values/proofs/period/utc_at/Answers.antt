-- `values::period::utc_at` meets its contract: no DATE-TIME, or one that is UTC or not.
use Rattle.values.specs.Period.{utc_at, utc_by}
use Rattle.values.proofs.PeriodLaws.{utc_clock_is}
use mathlib.Core.Path.{sym, ◌∙◌}
use Rattle.values.proofs.period.utc_at.Goals as goal

pub returns-in_err-read : goal.returns-in_err-read
unfolding utc_at utc_by
returns-in_err-read c = rw (sym c.read_date_time.ensures ∙ c.in_err-read.was) c.from_residual.ensures

pub returns-then-eq : goal.returns-then-eq
unfolding utc_at utc_by
returns-then-eq c =
    let d = c.in_ok-read.read in
    rw (sym c.read_date_time.ensures ∙ c.in_ok-read.was, utc_clock_is d.kind d.clock, sym c.eq.ensures ∙ c.if-eq.true) c.utc_second.ensures

pub returns-else-eq : goal.returns-else-eq
unfolding utc_at utc_by
returns-else-eq c =
    let d = c.in_ok-read.read in
    rw (sym c.read_date_time.ensures ∙ c.in_ok-read.was, utc_clock_is d.kind d.clock, sym c.eq.ensures ∙ c.if-eq.false)
