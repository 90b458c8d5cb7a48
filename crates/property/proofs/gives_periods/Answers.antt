-- `property::gives_periods` meets its contract: a line of another name gives none; of FREEBUSY its type and then its periods decide.
use mathlib.Core.Path.{sym, ap, ◌∙◌}
use mathlib.Core.List.{List}
use Prim.Native.Nat.{ℕ}
use native.Mathlib.Omega.{arith}
use lib.Seq.{length-take-le}
use Rattle.ascii.specs.Names.{same_name}
use Rattle.ascii.specs.Words.{ascii}
use Rattle.line.proofs.Reading.{name_take, name_fits}
use Rattle.property.proofs.Properties.{other_name, bad_type, good_type}
use Rattle.property.proofs.gives_periods.Goals as goal

pub slice_bounds-same_name-end : goal.slice_bounds-same_name-end
slice_bounds-same_name-end c = sym (length-take-le _ c.args.line.now (omega (arith, c.requires, name_fits c.args.line.now)))

pub returns-then-not-same_name : goal.returns-then-not-same_name
returns-then-not-same_name c =
    let args = c.args in
    let pre = c.requires in
    λ c'. other_name c' args.line.now
    (sym (ap (λ (m : List ℕ). same_name m (ascii "FREEBUSY")) (name_take args.line.now _ (pre))) ∙ sym c.same_name.ensures ∙ c.if-not-same_name.true)

pub returns-then-type_is_bad : goal.returns-then-type_is_bad
returns-then-type_is_bad c =
    let args = c.args in
    let pre = c.requires in
    let told = c.same_name in
    λ c'. bad_type c' args.line.now _ c.type_is_bad.ensures
    (sym (ap (λ (m : List ℕ). same_name m (ascii "FREEBUSY")) (name_take args.line.now _ (pre))) ∙ sym told.ensures ∙ c.if-not-same_name.false)
    c.if-type_is_bad.true

pub returns : goal.returns
returns c =
    let args = c.args in
    let type_is_bad = c.type_is_bad in
    let pre = c.requires in
    let told = c.same_name in
    λ c'. good_type c' args.line.now _ type_is_bad.ensures
    (sym (ap (λ (m : List ℕ). same_name m (ascii "FREEBUSY")) (name_take args.line.now _ (pre))) ∙ sym told.ensures ∙ c.if-not-same_name.false)
    c.if-type_is_bad.false _ c.value.ensures _ c.all_periods.ensures
