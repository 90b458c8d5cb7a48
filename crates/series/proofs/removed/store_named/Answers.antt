-- `series::removed::store_named` meets its contract: without a UID nothing is named.
use Rattle.series.proofs.RemovedLaws.{stored_none, stored_there, stored_one, stored_several}
use Rattle.series.proofs.removed.store_named.Goals as goal

pub uid_at-u-requires : goal.uid_at-u-requires
uid_at-u-requires c =
    record {
      indexed = ((c.requires.takeable.tied.each _ c.requires.takeable.there).uids c.requires.takeable.is_event_holds).indexed;
      le_n = stored_there c.requires.takeable c.requires.uid_value c.in-One.is;
    }

pub store_moved-requires : goal.store_moved-requires
store_moved-requires c =
    record {
      tied = c.requires.takeable.tied;
      one_each = c.requires.takeable.one_each;
      m_in_bounds = c.requires.m_in_bounds;
    }

pub returns-in-None : goal.returns-in-None
returns-in-None c =
    stored_none c.requires.takeable c.requires.uid_value _ _ c.requires.m_in_bounds c.in-None.is

pub returns-in-One : goal.returns-in-One
returns-in-One c =
    let uid_at_told = c.uid_at-u in
    let store_moved_told = c.store_moved in
    stored_one c.requires.takeable c.requires.uid_value c.in-One.is c.requires.m_in_bounds uid_at_told.ensures store_moved_told.ensures

pub returns-in-Several : goal.returns-in-Several
returns-in-Several c = stored_several c.requires.takeable c.requires.uid_value _ _ c.in-Several.is
