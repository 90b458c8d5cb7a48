-- `time::days::days_before_year` meets its contract: the direct arithmetic is the count year by year (days_before_year_direct), and no sum wraps up to the year 9999.
use Rattle.time.proofs.DaysLaws.{days_before_year_once}
use Rattle.time.proofs.days.days_before_year.Goals as goal

pub returns : goal.returns
returns c = days_before_year_once _
