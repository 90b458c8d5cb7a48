-- `series::beside::has_master` meets its contract: a master is found exactly where one stands there.
use Rattle.series.proofs.BesideLaws.{none_of, at_of, none_before, one_before}
use Rattle.series.proofs.beside.has_master.Goals as goal

pub returns-in-None : goal.returns-in-None
returns-in-None c = none_before _ _ (none_of c.master_of.ensures c.in-None.is)

pub returns-in-Some : goal.returns-in-Some
returns-in-Some c = one_before _ _ (at_of c.master_of.ensures c.in-Some.is).master
