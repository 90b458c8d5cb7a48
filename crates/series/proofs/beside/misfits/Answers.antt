-- `series::beside::misfits` meets its contract: each test in turn, and a master that is broken by itself is asked nothing.
use Rattle.identities.specs.declared.rows.Link.{Link}
use Rattle.events.specs.Sizes.{EventSmall}
use mathlib.Core.Path.{subst, sym, ap, ◌∙◌}
use Rattle.series.proofs.BesideLaws.{misfit_broken, misfit_kind, misfit_named, misfit_excluded, part_there}
use native.Mathlib.Omega.{arith}
use Rattle.series.proofs.beside.misfits.Goals as goal

pub link_at-link-requires : goal.link_at-link-requires
link_at-link-requires c = c.requires.master_known.link_room

pub returns-then-link : goal.returns-then-link
returns-then-link c = misfit_broken _ _ _ _ _ c.link_at-link.ensures c.if-link.true

pub event_at-e-requires : goal.event_at-e-requires
event_at-e-requires c = c.requires.master_known.entry_room

pub returns-then-not-same_kind : goal.returns-then-not-same_kind
returns-then-not-same_kind c = misfit_kind _ _ _ _ _ c.link_at-link.ensures c.if-link.false c.event_at-e.ensures c.same_kind.ensures c.if-not-same_kind.true

pub names_instance-requires : goal.names_instance-requires
names_instance-requires c =
    let link_at_told = c.link_at-link in
    let first_if = c.if-link in
    record {
      event_small = subst EventSmall (sym c.event_at-e.ensures) (c.requires.master_known.small (ap (λ (x : Link). x.broken) (sym link_at_told.ensures) ∙ first_if.false));
      s_le_last_second = c.requires.second_le_last_second;
    }

pub returns-then-not-names_instance : goal.returns-then-not-names_instance
returns-then-not-names_instance c =
    let link_at_told = c.link_at-link in
    let first_if = c.if-link in
    let event_at_told = c.event_at-e in
    let same_kind_told = c.same_kind in
    misfit_named _ _ _ _ _ link_at_told.ensures first_if.false event_at_told.ensures same_kind_told.ensures c.if-not-same_kind.false c.names_instance.ensures c.if-not-names_instance.true

pub offset_bounds-events-from : goal.offset_bounds-events-from
offset_bounds-events-from c = omega (arith, part_there c.requires.master_known c.link_at-link.ensures)

pub slice_bounds-is_among-count : goal.slice_bounds-is_among-count
slice_bounds-is_among-count c = omega (arith, part_there c.requires.master_known c.link_at-link.ensures)

pub slice_bounds-is_among-start : goal.slice_bounds-is_among-start
slice_bounds-is_among-start c = omega (arith, part_there c.requires.master_known c.link_at-link.ensures)

pub slice_bounds-is_among-end : goal.slice_bounds-is_among-end
slice_bounds-is_among-end c = omega (arith, part_there c.requires.master_known c.link_at-link.ensures)

pub returns : goal.returns
returns c =
    let link_at_told = c.link_at-link in
    let first_if = c.if-link in
    let event_at_told = c.event_at-e in
    let same_kind_told = c.same_kind in
    let names_instance_told = c.names_instance in
    misfit_excluded _ _ _ _ _ link_at_told.ensures first_if.false event_at_told.ensures same_kind_told.ensures c.if-not-same_kind.false names_instance_told.ensures c.if-not-names_instance.false c.is_among.ensures
