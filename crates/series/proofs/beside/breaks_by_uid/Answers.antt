-- `series::beside::breaks_by_uid` meets its contract: a master clashes with a master, an override with an override or with its master.
use Rattle.series.proofs.BesideLaws.{fewer_tied, second_small, by_master, by_clash, by_place, by_several}
use Rattle.series.proofs.beside.breaks_by_uid.Goals as goal

pub link_at-link-requires : goal.link_at-link-requires
link_at-link-requires c = (c.requires.linked.tied.each _ c.requires.unbroken.there).link_room

pub has_master-requires : goal.has_master-requires
has_master-requires c =
    fewer_tied c.requires.linked c.requires.unbroken c.link_at-link.ensures

pub is_moved-requires : goal.is_moved-requires
is_moved-requires c =
    let link_at_told = c.link_at-link in
    record {
      tied = fewer_tied c.requires.linked c.requires.unbroken link_at_told.ensures;
      one_each = c.requires.unbroken.one_each;
    }

pub returns-then-is_moved : goal.returns-then-is_moved
returns-then-is_moved c =
    let link_at_told = c.link_at-link in
    by_clash c.requires.linked c.requires.unbroken link_at_told.ensures _ c.requires.k_value c.in-One.is c.is_moved.ensures c.if-is_moved.true

pub is_misplaced-requires : goal.is_misplaced-requires
is_misplaced-requires c =
    let link_at_told = c.link_at-link in
    record {
      linked = c.requires.linked;
      second_le_last_second = second_small c.requires.linked c.requires.unbroken link_at_told.ensures c.in-One.is;
    }

pub returns-in-None : goal.returns-in-None
returns-in-None c =
    let link_at_told = c.link_at-link in
    by_master c.requires.linked c.requires.unbroken link_at_told.ensures _ c.requires.k_value c.in-None.is c.has_master.ensures

pub returns-else-is_moved : goal.returns-else-is_moved
returns-else-is_moved c =
    let link_at_told = c.link_at-link in
    by_place c.requires.linked c.requires.unbroken link_at_told.ensures _ c.requires.k_value c.in-One.is c.is_moved.ensures c.if-is_moved.false c.is_misplaced.ensures

pub returns-in-Several : goal.returns-in-Several
returns-in-Several c =
    by_several c.requires.linked c.requires.unbroken c.link_at-link.ensures c.in-Several.is
