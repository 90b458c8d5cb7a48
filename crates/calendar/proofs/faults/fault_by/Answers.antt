-- `calendar::faults::fault_by` meets its contract: a value's fault goes first, whatever the rules.
use Rattle.std.specs.Prelude.{Result, []}
use Rattle.std.proofs.lemmas.Result.{err_from_is_err_and}
use mathlib.Core.Path.{◌∙◌, sym, ap}
use Rattle.calendar.specs.declared.LineError.{LineError}
use Rattle.calendar.specs.Meaning.{by_values, by_rules, fault_of}
use Rattle.calendar.proofs.faults.fault_by.Goals as goal

pub returns-in_err-values : goal.returns-in_err-values
returns-in_err-values c =
    let e = err_from_is_err_and c.from_residual.result c.from_residual.ensures.1 in
    let rules = by_rules c.args.rules [] in
    e.1 ∙ e.2 rules ∙ ap (λ (v : Result (Unit {0}) LineError). fault_of (by_values v rules)) (sym c.in_err-values.was)

pub returns-in-None : goal.returns-in-None
unfolding by_values by_rules fault_of
returns-in-None c = simp (c.in_ok-values.was, c.in-None.is)

pub returns-in-Some : goal.returns-in-Some
unfolding by_values by_rules fault_of
returns-in-Some c = simp (c.in_ok-values.was, c.in-Some.is)
