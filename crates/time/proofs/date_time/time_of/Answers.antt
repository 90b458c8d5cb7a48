-- `time::date_time::time_of` meets its contract: each way out is a case of the three numbers.
use Rattle.time.proofs.DateTime.{three_first, three_second, three_third, three_all}
use mathlib.Core.Path.{◌∙◌}
use Rattle.time.proofs.date_time.time_of.Goals as goal

pub returns-in_err-hour : goal.returns-in_err-hour
returns-in_err-hour c = c.from_residual.ensures ∙ three_first _ _ _ _ c.in_err-hour.was

pub returns-in_err-minute : goal.returns-in_err-minute
returns-in_err-minute c = c.from_residual-in_err-minute.ensures ∙ three_second _ _ _ _ c.in_ok-hour.was c.in_err-minute.was

pub returns-in_err-second : goal.returns-in_err-second
returns-in_err-second c = c.from_residual-in_err-second.ensures ∙ three_third _ _ _ _ c.in_ok-hour.was c.in_ok-minute.was c.in_err-second.was

pub returns : goal.returns
returns c = c.checked_time.ensures ∙ three_all _ _ _ _ c.in_ok-hour.was c.in_ok-minute.was c.in_ok-second.was
