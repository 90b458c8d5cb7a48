-- `series::moved::named_second` meets its contract: an event has one RECURRENCE-ID at most, and its UID tells.
use Rattle.series.proofs.MovedLaws.{named_nothing, named_not, named_one, named_unlike, named_never}
use mathlib.Core.Path.{sym, ◌∙◌}
use Rattle.series.proofs.moved.named_second.Goals as goal

pub kind_at-requires : goal.kind_at-requires
kind_at-requires c = c.requires.row_tied.row_room

pub returns-then-kind_at-ne1 : goal.returns-then-kind_at-ne1
returns-then-kind_at-ne1 c = named_nothing _ _ _ _ _ c.kind_at.ensures c.if-kind_at-ne1.true

pub link_at-link-requires : goal.link_at-link-requires
link_at-link-requires c = c.requires.row_tied.link_room

pub has_uid-requires : goal.has_uid-requires
has_uid-requires c =
    let kind_at_told = c.kind_at in
    let first_if = c.if-kind_at-ne1 in
    c.requires.row_tied.uids (sym kind_at_told.ensures ∙ first_if.false)

pub returns-then-has_uid : goal.returns-then-has_uid
returns-then-has_uid c =
    let kind_at_told = c.kind_at in
    let first_if = c.if-kind_at-ne1 in
    let link_at_told = c.link_at-link in
    named_one c.requires.row_tied link_at_told.ensures (sym kind_at_told.ensures ∙ first_if.false) _ c.in-One.is c.has_uid.ensures c.if-has_uid.true

pub returns-in-None : goal.returns-in-None
returns-in-None c =
    let kind_at_told = c.kind_at in
    let first_if = c.if-kind_at-ne1 in
    named_not c.requires.row_tied c.link_at-link.ensures (sym kind_at_told.ensures ∙ first_if.false) _ c.in-None.is

pub returns-else-has_uid : goal.returns-else-has_uid
returns-else-has_uid c =
    let kind_at_told = c.kind_at in
    let first_if = c.if-kind_at-ne1 in
    let link_at_told = c.link_at-link in
    named_unlike c.requires.row_tied link_at_told.ensures (sym kind_at_told.ensures ∙ first_if.false) _ c.in-One.is c.has_uid.ensures c.if-has_uid.false

pub returns-in-Several : goal.returns-in-Several
returns-in-Several c =
    let kind_at_told = c.kind_at in
    let first_if = c.if-kind_at-ne1 in
    named_never c.requires.row_tied c.link_at-link.ensures (sym kind_at_told.ensures ∙ first_if.false) _ c.in-Several.is c.requires.one_at
