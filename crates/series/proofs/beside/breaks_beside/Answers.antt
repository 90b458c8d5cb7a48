-- `series::beside::breaks_beside` meets its contract: without a UID nothing ties it to others, and neither does one that is new.
use Rattle.series.proofs.PrintLaws.{markable}
use Rattle.series.proofs.BesideLaws.{beside_none, beside_new, beside_there, beside_uid, beside_several}
use Rattle.series.proofs.beside.breaks_beside.Goals as goal

pub link_at-link-requires : goal.link_at-link-requires
link_at-link-requires c = (c.requires.linked.tied.each _ c.requires.unbroken.there).link_room

pub is_unshared-requires : goal.is_unshared-requires
is_unshared-requires c =
    markable c.requires.printed c.requires.linked.tied.few c.requires.unbroken.there

pub returns-then-is_unshared : goal.returns-then-is_unshared
returns-then-is_unshared c =
    let link_at_told = c.link_at-link in
    beside_new c.requires.linked c.requires.unbroken link_at_told.ensures c.in-One.is c.requires.printed c.is_unshared.ensures c.if-is_unshared.true

pub uid_at-u-requires : goal.uid_at-u-requires
uid_at-u-requires c =
    let link_at_told = c.link_at-link in
    record {
      indexed = ((c.requires.linked.tied.each _ c.requires.unbroken.there).uids c.requires.unbroken.is_event_holds).indexed;
      le_n = beside_there c.requires.linked c.requires.unbroken link_at_told.ensures c.in-One.is;
    }

pub breaks_by_uid-requires : goal.breaks_by_uid-requires
breaks_by_uid-requires c =
    let link_at_told = c.link_at-link in
    record {
      linked = c.requires.linked;
      unbroken = c.requires.unbroken;
      k_value = beside_uid c.requires.linked c.requires.unbroken link_at_told.ensures c.in-One.is c.uid_at-u.ensures;
    }

pub returns-in-None : goal.returns-in-None
returns-in-None c =
    beside_none c.requires.linked c.requires.unbroken c.link_at-link.ensures c.in-None.is

pub returns-else-is_unshared : goal.returns-else-is_unshared
returns-else-is_unshared c = c.breaks_by_uid.ensures

pub returns-in-Several : goal.returns-in-Several
returns-in-Several c =
    beside_several c.requires.linked c.requires.unbroken c.link_at-link.ensures c.in-Several.is
