-- `index::line_at` meets its contract: what stands between the places of two entries is the line.
use Rattle.index.proofs.Index.{entry_room, entry_places, entry_read}
use mathlib.Core.Path.{refl}
use native.Mathlib.Omega.{arith}
use Rattle.index.proofs.line_at.Goals as goal

pub offset_bounds-index-i : goal.offset_bounds-index-i
offset_bounds-index-i c = omega (arith, entry_room c.requires)

pub bounds-index-i : goal.bounds-index-i
bounds-index-i c = omega (arith, entry_room c.requires)

pub overflow_add-b : goal.overflow_add-b
overflow_add-b c = omega (arith, entry_room c.requires)

pub offset_bounds-index-i-2 : goal.offset_bounds-index-i-2
offset_bounds-index-i-2 c = omega (arith, entry_room c.requires)

pub bounds-index-i-2 : goal.bounds-index-i-2
bounds-index-i-2 c = entry_room c.requires

pub overflow_sub-result : goal.overflow_sub-result
overflow_sub-result c = let h = entry_places c.requires refl refl in omega (arith, h.order)

pub slice_bounds-result-count : goal.slice_bounds-result-count
slice_bounds-result-count c = let h = entry_places c.requires refl refl in omega (arith, h.order)

pub slice_bounds-result-start : goal.slice_bounds-result-start
slice_bounds-result-start c = let h = entry_places c.requires refl refl in omega (arith, h.order)

pub slice_bounds-result-end : goal.slice_bounds-result-end
slice_bounds-result-end c = let h = entry_places c.requires refl refl in omega (arith, h.inside)

pub returns : goal.returns
returns c = entry_read c.requires refl refl
