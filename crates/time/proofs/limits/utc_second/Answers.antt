-- `time::limits::utc_second` meets its contract: in each kind's arm the definition is its clause for that kind.
use Rattle.time.proofs.LimitsLaws.{second_utc, second_floating, second_date}
use mathlib.Core.Path.{◌∙◌}
use mathlib.Core.Logic.{⊎_elim}
use Rattle.time.proofs.limits.utc_second.Goals as goal

pub returns-in-Utc : goal.returns-in-Utc
returns-in-Utc c = c.since.ensures ∙ second_utc _ c.args.clock c.args.shift c.in-Utc.is

pub returns-in-Floating : goal.returns-in-Floating
returns-in-Floating c =
    c.since-in-Floating.ensures
    ∙ ⊎_elim (λ e. second_floating c.args.kind c.args.clock c.args.shift e) (λ e. second_date c.args.kind c.args.clock c.args.shift e) c.in-Floating.is
