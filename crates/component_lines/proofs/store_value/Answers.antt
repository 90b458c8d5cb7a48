-- `component_lines::store_value` meets its contract: every item before those left is a period, and the pieces of these are left to store.
use Rattle.std.proofs.Common.{rules}
use Rattle.std.proofs.lemmas.Iterator.{YieldsList}
use Rattle.std.proofs.lemmas.Iterator.Splits.{YieldsList-from_slice_split}
use Rattle.std.specs.Iterator.{AlwaysYields}
use Rattle.std.specs.List.{slice_split}
use borrow.Author.Tests.{tests}
use lib.Dec.{eqb}
use mathlib.Core.Path.{sym, subst, ◌∙◌}
use Rattle.values.proofs.TimeLists.{next_piece, no_piece}
use Rattle.component_lines.proofs.LinesStoring.{value_start, value_next, value_ends, value_stops}
use Rattle.component_lines.proofs.store_value.Given.{iterator-loop-item}
use Rattle.component_lines.proofs.store_value.Goals as goal

pub loop-item-init : goal.loop-item-init
loop-item-init c =
    let v = c.args.v.now in
    let pieces : YieldsList iterator-loop-item.next_gives (λ x. x.now) c.split-item-items.result (slice_split (λ b. eqb b 44) v) =
    YieldsList-from_slice_split _ (λ b. eqb b 44) v c.split-item-items.ensures.rest c.split-item-items.ensures.done c.split-item-items.ensures.closure (λ x b q k. search (rules, tests))
    in (
      slice_split (λ b. eqb b 44) v,
      subst (λ s. AlwaysYields iterator-loop-item.next_gives (λ x. x.now) s (slice_split (λ b. eqb b 44) v)) (sym c.into_iter-item-iterator.ensures.into_iter_gives) pieces.runs,
      value_start _ _ _ _ _ _ c.requires.first_bound c.requires.room,
    )

pub shape_of-column-in_default : goal.shape_of-column-in_default
shape_of-column-in_default c = c.loop-item.invariant.2.still.long ∙ sym c.requires.room

pub returns-in_default : goal.returns-in_default
returns-in_default c =
    let so_far = c.loop-item.invariant in
    let next = next_piece iterator-loop-item.next_gives (λ x. x.now) so_far.0 {t = c.next.new.self} {x = c.in-Some.item} so_far.1 c.in-Some.ensures.steps in
    value_stops so_far.2 next.1 c.read_period.ensures c.in_default.is _

pub store_period-n-requires : goal.store_period-n-requires
store_period-n-requires c =
    let still = c.loop-item.invariant.2.still in
    record {
      room = still.long;
      n_bound = still.few;
      b_le_last_second = c.requires.b_le_last_second;
    }

pub loop-item-preserved : goal.loop-item-preserved
loop-item-preserved c =
    let so_far = c.loop-item.invariant in
    let next = next_piece iterator-loop-item.next_gives (λ x. x.now) so_far.0 {t = c.next.new.self} {x = c.in-Some.item} so_far.1 c.in-Some.ensures.steps in
    (next.0, next.2, value_next so_far.2 next.1 c.read_period.ensures c.in-Some-read_period.is c.store_period-n.ensures)

pub returns : goal.returns
returns c =
    let so_far = c.loop-item.invariant in
    value_ends so_far.2 (no_piece iterator-loop-item.next_gives (λ x. x.now) so_far.0 so_far.1 c.in-None.ensures.steps)
