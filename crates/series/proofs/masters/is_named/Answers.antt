-- `series::masters::is_named` meets its contract: its only RECURRENCE-ID is at the second or not, and then its UID tells.
use Rattle.series.specs.VEventRows.{names}
use Rattle.series.proofs.MasterLaws.{test_none, named_none, named_other, named_here, named_several}
use mathlib.Core.Path.{sym, ◌∙◌}
use Rattle.series.proofs.masters.is_named.Goals as goal

pub kind_at-requires : goal.kind_at-requires
kind_at-requires c = c.requires.row_tied.row_room

pub returns-then-kind_at-ne1 : goal.returns-then-kind_at-ne1
returns-then-kind_at-ne1 c = test_none _ _ _ _ (names c.args.u.now c.args.x) c.kind_at.ensures c.if-kind_at-ne1.true

pub link_at-link-requires : goal.link_at-link-requires
link_at-link-requires c = c.requires.row_tied.link_room

pub returns-then-t-x : goal.returns-then-t-x
returns-then-t-x c =
    let kind_at_told = c.kind_at in
    let first_if = c.if-kind_at-ne1 in
    let link_at_told = c.link_at-link in
    named_other c.requires.row_tied link_at_told.ensures (sym kind_at_told.ensures ∙ first_if.false) _ _ c.in-One.is c.if-t-x.true

pub has_uid-requires : goal.has_uid-requires
has_uid-requires c =
    let kind_at_told = c.kind_at in
    let first_if = c.if-kind_at-ne1 in
    c.requires.row_tied.uids (sym kind_at_told.ensures ∙ first_if.false)

pub returns-in-None : goal.returns-in-None
returns-in-None c =
    let kind_at_told = c.kind_at in
    let first_if = c.if-kind_at-ne1 in
    named_none c.requires.row_tied c.link_at-link.ensures (sym kind_at_told.ensures ∙ first_if.false) _ _ c.in-None.is

pub returns-else-t-x : goal.returns-else-t-x
returns-else-t-x c =
    let kind_at_told = c.kind_at in
    let first_if = c.if-kind_at-ne1 in
    let link_at_told = c.link_at-link in
    named_here c.requires.row_tied link_at_told.ensures (sym kind_at_told.ensures ∙ first_if.false) _ _ c.in-One.is c.if-t-x.false c.has_uid.ensures

pub returns-in-Several : goal.returns-in-Several
returns-in-Several c =
    let kind_at_told = c.kind_at in
    let first_if = c.if-kind_at-ne1 in
    named_several c.requires.row_tied c.link_at-link.ensures (sym kind_at_told.ensures ∙ first_if.false) _ _ c.in-Several.is c.requires.one_at
