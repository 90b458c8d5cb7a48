-- `time::duration::read_duration` meets its contract: the text decides, and then the limit; what is read is small, so that the sum fits.
use Rattle.time.proofs.DurationLaws.{duration_text_small, read_duration_bad, read_duration_of, read_duration_over}
use mathlib.Core.Path.{sym, ◌∙◌}
use native.Mathlib.Omega.{arith}
use Rattle.time.proofs.duration.read_duration.Goals as goal

pub returns-in_err-d : goal.returns-in_err-d
returns-in_err-d c = c.from_residual.ensures ∙ read_duration_bad _ (sym c.duration_text.ensures ∙ c.in_err-d.was)

pub duration_seconds-requires : goal.duration_seconds-requires
duration_seconds-requires c = omega (arith, duration_text_small _ _ (sym c.duration_text.ensures ∙ c.in_ok-d.was))

pub returns-then-duration_seconds-le315360000 : goal.returns-then-duration_seconds-le315360000
returns-then-duration_seconds-le315360000 c =
    read_duration_of _ _ _ (sym c.duration_text.ensures ∙ c.in_ok-d.was) c.duration_seconds.ensures c.if-duration_seconds-le315360000.true

pub returns-else-duration_seconds-le315360000 : goal.returns-else-duration_seconds-le315360000
returns-else-duration_seconds-le315360000 c =
    read_duration_over _ _ _ (sym c.duration_text.ensures ∙ c.in_ok-d.was) c.duration_seconds.ensures c.if-duration_seconds-le315360000.false
