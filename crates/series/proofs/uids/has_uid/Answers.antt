-- `series::uids::has_uid` meets its contract: by its link, or by its lines where it has several.
use Rattle.series.proofs.UidLaws.{none_has, one_there, one_has, lines_tell}
use Rattle.series.proofs.uids.has_uid.Goals as goal

pub uid_at-requires : goal.uid_at-requires
uid_at-requires c =
    let required = c.requires in
    let link_at_told = c.link_at-link in
    record {
      indexed = required.indexed;
      le_n = one_there (required) link_at_told.ensures c.in-One.is;
    }

pub returns-in-None : goal.returns-in-None
returns-in-None c = none_has c.requires c.link_at-link.ensures _ c.in-None.is

pub returns-in-One : goal.returns-in-One
returns-in-One c =
    let required = c.requires in
    let link_at_told = c.link_at-link in
    one_has (required) link_at_told.ensures _ c.in-One.is c.uid_at.ensures c.same_bytes.ensures

pub returns-in-Several : goal.returns-in-Several
returns-in-Several c = lines_tell _ _ _ _ _ c.lines_have.ensures
