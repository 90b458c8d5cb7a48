-- `vectors::times::write_again` meets what it calls: a second that `utc_second` gives is within the limits.
use Rattle.std.proofs.Common.{sym, ◌∙◌}
use Rattle.time.proofs.LimitsLaws.{utc_second_in}
use Rattle.vectors.proofs.times.write_again.Goals as goal

pub show_written-requires : goal.show_written-requires
show_written-requires g c = (utc_second_in _ _ 50400 _ (sym c.utc_second.ensures ∙ c.in-Some-utc_second.is)).0
