-- `values::times::utc_only` meets its contract: no time, or one that is UTC or not.
use Rattle.values.specs.Times.{utc_only}
use Rattle.values.proofs.TimesLaws.{if_utc_is}
use mathlib.Core.Path.{sym, ◌∙◌}
use Rattle.values.proofs.times.utc_only.Goals as goal

pub returns-in_err-t : goal.returns-in_err-t
unfolding utc_only
returns-in_err-t c = rw (c.in_err-t.was) c.from_residual.ensures

pub returns-then-eq : goal.returns-then-eq
unfolding utc_only
returns-then-eq c = rw (c.in_ok-t.was, if_utc_is c.in_ok-t.t.kind c.in_ok-t.t, sym c.eq.ensures ∙ c.if-eq.true)

pub returns-else-eq : goal.returns-else-eq
unfolding utc_only
returns-else-eq c = rw (c.in_ok-t.was, if_utc_is c.in_ok-t.t.kind c.in_ok-t.t, sym c.eq.ensures ∙ c.if-eq.false)
