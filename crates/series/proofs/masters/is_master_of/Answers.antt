-- `series::masters::is_master_of` meets its contract: an event without RECURRENCE-ID is a master, and then its UID tells.
use Rattle.series.specs.VEventRows.{is_master_of}
use Rattle.series.proofs.MasterLaws.{test_none, master_tells, one_tells, several_tells}
use mathlib.Core.Path.{sym, ◌∙◌}
use Rattle.series.proofs.masters.is_master_of.Goals as goal

pub kind_at-requires : goal.kind_at-requires
kind_at-requires c = c.requires.row_room

pub returns-then-kind_at-ne1 : goal.returns-then-kind_at-ne1
returns-then-kind_at-ne1 c = test_none _ _ _ _ (is_master_of c.args.u.now) c.kind_at.ensures c.if-kind_at-ne1.true

pub link_at-link-requires : goal.link_at-link-requires
link_at-link-requires c = c.requires.link_room

pub has_uid-requires : goal.has_uid-requires
has_uid-requires c = c.requires.uids (sym c.kind_at.ensures ∙ c.if-kind_at-ne1.false)

pub returns-in-None : goal.returns-in-None
returns-in-None c =
    let required = c.requires in
    let kind_at_told = c.kind_at in
    let first_if = c.if-kind_at-ne1 in
    let link_at_told = c.link_at-link in
    master_tells (required) link_at_told.ensures (sym kind_at_told.ensures ∙ first_if.false) _ c.in-None.is c.has_uid.ensures

pub returns-in-One : goal.returns-in-One
returns-in-One c =
    let required = c.requires in
    let kind_at_told = c.kind_at in
    let first_if = c.if-kind_at-ne1 in
    one_tells (required) c.link_at-link.ensures (sym kind_at_told.ensures ∙ first_if.false) _ c.in-One.is

pub returns-in-Several : goal.returns-in-Several
returns-in-Several c =
    let required = c.requires in
    let kind_at_told = c.kind_at in
    let first_if = c.if-kind_at-ne1 in
    several_tells (required) c.link_at-link.ensures (sym kind_at_told.ensures ∙ first_if.false) _ c.in-Several.is
