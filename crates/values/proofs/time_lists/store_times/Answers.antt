-- `values::time_lists::store_times` meets its contract: every piece before those left is a time, and the seconds of these are left to store.
use Rattle.std.proofs.Common.{rules}
use Rattle.std.proofs.lemmas.Iterator.{YieldsList}
use Rattle.std.proofs.lemmas.Iterator.Splits.{YieldsList-from_slice_split}
use Rattle.std.specs.Iterator.{AlwaysYields}
use Rattle.std.specs.List.{slice_split}
use borrow.Author.Tests.{tests}
use lib.Dec.{eqb}
use mathlib.Core.Path.{sym, subst}
use native.Mathlib.Omega.{arith}
use Rattle.values.proofs.TimeLists.{next_piece, no_piece, storing_start, storing_stops, storing_small, storing_room, storing_next, storing_ends}
use Rattle.values.proofs.time_lists.store_times.Given.{iterator-loop-item}
use Rattle.values.proofs.time_lists.store_times.Goals as goal

pub loop-item-init : goal.loop-item-init
loop-item-init c =
    let v = c.args.v.now in
    let pieces : YieldsList iterator-loop-item.next_gives (λ x. x.now) c.split-item-items.result (slice_split (λ b. eqb b 44) v) =
    YieldsList-from_slice_split _ (λ b. eqb b 44) v c.split-item-items.ensures.rest c.split-item-items.ensures.done c.split-item-items.ensures.closure (λ x b q k. search (rules, tests))
    in (
      slice_split (λ b. eqb b 44) v,
      subst (λ s. AlwaysYields iterator-loop-item.next_gives (λ x. x.now) s (slice_split (λ b. eqb b 44) v)) (sym c.into_iter-item-iterator.ensures.into_iter_gives) pieces.runs,
      storing_start _ _ _ _ _ _ c.requires.v_bound,
    )

pub returns-in_default : goal.returns-in_default
returns-in_default c =
    let so_far = c.loop-item.invariant in
    let next = next_piece iterator-loop-item.next_gives (λ x. x.now) so_far.0 {t = c.next.new.self} {x = c.in-Some.item} so_far.1 c.in-Some.ensures.steps in
    storing_stops so_far.2 next.1 c.read_time.ensures c.in_default.is

pub overflow_cast-column : goal.overflow_cast-column
overflow_cast-column c =
    let so_far = c.loop-item.invariant in
    let next = next_piece iterator-loop-item.next_gives (λ x. x.now) so_far.0 {t = c.next.new.self} {x = c.in-Some.item} so_far.1 c.in-Some.ensures.steps in
    omega (arith, storing_small so_far.2 next.1 c.read_time.ensures c.in-Some-read_time.is)

pub bounds-column-n : goal.bounds-column-n
bounds-column-n c =
    let so_far = c.loop-item.invariant in
    let next = next_piece iterator-loop-item.next_gives (λ x. x.now) so_far.0 {t = c.next.new.self} {x = c.in-Some.item} so_far.1 c.in-Some.ensures.steps in
    storing_room so_far.2 next.1 c.read_time.ensures c.in-Some-read_time.is

pub loop-item-preserved : goal.loop-item-preserved
loop-item-preserved c =
    let so_far = c.loop-item.invariant in
    let next = next_piece iterator-loop-item.next_gives (λ x. x.now) so_far.0 {t = c.next.new.self} {x = c.in-Some.item} so_far.1 c.in-Some.ensures.steps in
    (next.0, next.2, storing_next so_far.2 next.1 c.read_time.ensures c.in-Some-read_time.is c.with_kind-found.ensures)

pub returns : goal.returns
returns c =
    let so_far = c.loop-item.invariant in
    storing_ends so_far.2 (no_piece iterator-loop-item.next_gives (λ x. x.now) so_far.0 so_far.1 c.in-None.ensures.steps)
