-- `series::prints::row_print` meets its contract: one UID is the value of the line that the link names.
use mathlib.Core.Path.{sym, ◌∙◌}
use Rattle.series.proofs.PrintLaws.{print_other, print_none, print_several, print_there, print_one}
use Rattle.series.proofs.prints.row_print.Goals as goal

pub kind_at-requires : goal.kind_at-requires
kind_at-requires c = c.requires.row_room

pub returns-then-kind_at-ne1 : goal.returns-then-kind_at-ne1
returns-then-kind_at-ne1 c = print_other c.requires c.kind_at.ensures c.if-kind_at-ne1.true

pub link_at-link-requires : goal.link_at-link-requires
link_at-link-requires c = c.requires.link_room

pub uid_at-requires : goal.uid_at-requires
uid_at-requires c =
    let required = c.requires in
    let kind_at_told = c.kind_at in
    let first_if = c.if-kind_at-ne1 in
    let link_at_told = c.link_at-link in
    record {
      indexed = (required.uids (sym kind_at_told.ensures ∙ first_if.false)).indexed;
      le_n = print_there (required) link_at_told.ensures kind_at_told.ensures first_if.false c.in-One.is;
    }

pub returns-in-None : goal.returns-in-None
returns-in-None c =
    let required = c.requires in
    let kind_at_told = c.kind_at in
    let first_if = c.if-kind_at-ne1 in
    print_none (required) c.link_at-link.ensures kind_at_told.ensures first_if.false c.in-None.is

pub returns-in-One : goal.returns-in-One
returns-in-One c =
    let required = c.requires in
    let kind_at_told = c.kind_at in
    let first_if = c.if-kind_at-ne1 in
    let link_at_told = c.link_at-link in
    print_one (required) link_at_told.ensures kind_at_told.ensures first_if.false c.in-One.is c.uid_at.ensures c.print_of.ensures

pub returns-in-Several : goal.returns-in-Several
returns-in-Several c =
    let required = c.requires in
    let kind_at_told = c.kind_at in
    let first_if = c.if-kind_at-ne1 in
    print_several (required) c.link_at-link.ensures kind_at_told.ensures first_if.false c.in-Several.is
