-- `values::rule::until_part` meets its contract: the number of bytes tells the form.
use Rattle.std.specs.Prelude.{cond, eqb, length}
use borrow.Author.Tests.{eq-eqb, ne_eqb}
use mathlib.Core.Path.{◌≡◌, sym, ◌∙◌}
use Rattle.values.specs.Rule.{until_part, until_by}
use Rattle.values.specs.declared.times.Form.{Form}
use Rattle.values.proofs.rule.until_part.Goals.{then-v-eq8, else-v-eq8}
use Rattle.values.proofs.rule.until_part.Goals as goal

pub returns-in_default : goal.returns-in_default
unfolding until_part until_by
returns-in_default c =
    let form : c.if-v-eq8.form ≡ cond (eqb (length c.args.v.now) 8) Form.Date Form.DateTime =
    elim c.if-v-eq8.branch [ then-v-eq8 w ↦ rw (eq-eqb _ 8 w.if-v-eq8.true) w.form-is | else-v-eq8 w ↦ rw (ne_eqb _ 8 w.if-v-eq8.false) w.form-is ] in
    rw (sym form, sym c.read_time.ensures ∙ c.in_default.is)

pub returns : goal.returns
unfolding until_part until_by
returns c =
    let form : c.if-v-eq8.form ≡ cond (eqb (length c.args.v.now) 8) Form.Date Form.DateTime =
    elim c.if-v-eq8.branch [ then-v-eq8 w ↦ rw (eq-eqb _ 8 w.if-v-eq8.true) w.form-is | else-v-eq8 w ↦ rw (ne_eqb _ 8 w.if-v-eq8.false) w.form-is ] in
    rw (sym form, sym c.read_time.ensures ∙ c.in-Some.is)
