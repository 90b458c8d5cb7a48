-- `contents::alone::several_uids` meets its contract: each arm is one clause of the definition.
use Rattle.contents.specs.Alone.{several_uids}
use Rattle.contents.proofs.alone.several_uids.Goals as goal

pub returns-in-None : goal.returns-in-None
unfolding several_uids
returns-in-None c = simp c.in-None.is

pub returns-in-One : goal.returns-in-One
unfolding several_uids
returns-in-One c = simp c.in-One.is

pub returns-in-Several : goal.returns-in-Several
unfolding several_uids
returns-in-Several c = simp c.in-Several.is
