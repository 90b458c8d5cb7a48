-- `series::removed::store_removed` meets its contract: from a master its exceptions and what overrides name, from an override nothing.
use lib.Seq.{length-sets}
use lib.ListN.{length}
use Rattle.series.proofs.RemovedLaws.{part_there, part_room, part_long, uid_same, removed_master, removed_override, removed_several}
use mathlib.Core.Path.{ap}
use native.Mathlib.Omega.{arith}
use Rattle.series.proofs.removed.store_removed.Goals as goal

pub link_at-link-requires : goal.link_at-link-requires
link_at-link-requires c = (c.requires.takeable.tied.each _ c.requires.takeable.there).link_room

pub offset_bounds-events-from : goal.offset_bounds-events-from
offset_bounds-events-from c = omega (arith, part_there c.requires.takeable c.link_at-link.ensures)

pub slice_bounds-store_seconds-count : goal.slice_bounds-store_seconds-count
slice_bounds-store_seconds-count c = omega (arith, part_there c.requires.takeable c.link_at-link.ensures)

pub slice_bounds-store_seconds-start : goal.slice_bounds-store_seconds-start
slice_bounds-store_seconds-start c = omega (arith, part_there c.requires.takeable c.link_at-link.ensures)

pub slice_bounds-store_seconds-end : goal.slice_bounds-store_seconds-end
slice_bounds-store_seconds-end c = omega (arith, part_there c.requires.takeable c.link_at-link.ensures)

pub store_seconds-requires : goal.store_seconds-requires
store_seconds-requires c =
    let link_at_told = c.link_at-link in
    omega (arith, part_room c.requires.takeable link_at_told.ensures c.requires.m_in_bounds, part_long c.requires.takeable link_at_told.ensures)

pub overflow_sub-to : goal.overflow_sub-to
overflow_sub-to c =
    let link_at_told = c.link_at-link in
    omega (arith, part_there c.requires.takeable link_at_told.ensures)

pub store_named-requires : goal.store_named-requires
store_named-requires c =
    let link_at_told = c.link_at-link in
    let store_seconds_told = c.store_seconds in
    record {
      takeable = c.requires.takeable;
      uid_value = uid_same c.requires.takeable link_at_told.ensures;
      m_in_bounds = omega (arith, part_room c.requires.takeable link_at_told.ensures c.requires.m_in_bounds, simp length-sets at (ap length store_seconds_told.ensures));
    }

pub returns-in-None : goal.returns-in-None
returns-in-None c =
    let link_at_told = c.link_at-link in
    let store_seconds_told = c.store_seconds in
    let store_named_told = c.store_named in
    removed_master c.requires.takeable link_at_told.ensures c.in-None.is store_seconds_told.ensures store_named_told.ensures

pub returns-in-One : goal.returns-in-One
returns-in-One c = removed_override c.requires.takeable c.link_at-link.ensures _ c.in-One.is

pub returns-in-Several : goal.returns-in-Several
returns-in-Several c = removed_several c.requires.takeable c.link_at-link.ensures _ c.in-Several.is
