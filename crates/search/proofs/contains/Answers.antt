-- `search::contains` meets its contract: no place before `at` has the text, so what is left of the value decides.
use mathlib.Core.Path.{sym, ◌∙◌}
use native.Mathlib.Omega.{arith}
use Rattle.std.proofs.Common.{◌<◌, length}
use Rattle.std.proofs.lemmas.Grind.{common_steps}
use Rattle.text.proofs.TextMatch.{sought_start, sought_next, sought_found, sought_end}
use Rattle.search.proofs.Borders.{contains_empty, sought_other, sought_rest}
use Rattle.search.proofs.contains.Goals as goal
use Rattle.search.proofs.contains.Goals.{then-fold-first+else-tries-text+else-starts_at, else-fold-first}

pub returns-then-is_empty : goal.returns-then-is_empty
returns-then-is_empty c = sym (contains_empty _ _ _ (grind (arith, common_steps)))

pub returns-then-value-text : goal.returns-then-value-text
returns-then-value-text c = sym (sought_end _ (sought_start _ _ _) (omega arith))

pub loop-at-init : goal.loop-at-init
loop-at-init c = (omega arith, sought_start _ _ _)

pub returns-then-tries-text : goal.returns-then-tries-text
returns-then-tries-text c = sought_rest c.loop-at.invariant.1 c.contains_by_borders.ensures

pub returns-then-starts_at : goal.returns-then-starts_at
returns-then-starts_at c = sym (sought_found _ c.loop-at.invariant.1 (sym c.starts_at.ensures ∙ c.if-starts_at.true))

pub overflow_add-tries : goal.overflow_add-tries
overflow_add-tries c = omega (arith, c.loop-at.invariant.0)

pub loop-at-preserved : goal.loop-at-preserved
loop-at-preserved c =
    let few = c.loop-at.invariant.0 in
    let sought = c.loop-at.invariant.1 in
    elim c.if-fold-first.branch [
      | then-fold-first+else-tries-text+else-starts_at w ↦
          (omega (arith, few, w.tries-is), sought_next _ sought (omega arith) (sym w.starts_at.ensures ∙ w.if-starts_at.false))
      | else-fold-first w ↦
          let some : 0 < length c.args.text.now = grind (arith, common_steps) in
          (omega (arith, few, w.tries-is), sought_other sought some (omega arith) c.fold.ensures c.fold-first.ensures w.if-fold-first.false)
    ]

pub returns : goal.returns
returns c = sym (sought_end _ c.loop-at.invariant.1 (omega arith))
