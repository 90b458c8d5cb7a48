-- `series::beside::is_misplaced` meets its contract: by the row of the master.
use Rattle.series.proofs.BesideLaws.{none_of, at_of, master_known, place_none, place_at}
use Rattle.series.proofs.beside.is_misplaced.Goals as goal

pub master_of-requires : goal.master_of-requires
master_of-requires c = c.requires.linked.tied

pub misfits-requires : goal.misfits-requires
misfits-requires c =
    let master_of_told = c.master_of in
    record {
      master_known = let z = at_of master_of_told.ensures c.in-Some.is in master_known c.requires.linked z.there z.is_event_holds;
      second_le_last_second = c.requires.second_le_last_second;
    }

pub returns-in-None : goal.returns-in-None
returns-in-None c = place_none _ (none_of c.master_of.ensures c.in-None.is)

pub returns-in-Some : goal.returns-in-Some
returns-in-Some c =
    let master_of_told = c.master_of in
    let z = at_of master_of_told.ensures c.in-Some.is in place_at (c.requires.linked.stands _ z.there z.is_event_holds) _ _ _ z.master c.misfits.ensures
