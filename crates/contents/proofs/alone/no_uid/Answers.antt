-- `contents::alone::no_uid` meets its contract: each arm is one clause of the definition.
use Rattle.contents.specs.Alone.{no_uid}
use Rattle.contents.proofs.alone.no_uid.Goals as goal

pub returns-in-None : goal.returns-in-None
unfolding no_uid
returns-in-None c = simp c.in-None.is

pub returns-in-One : goal.returns-in-One
unfolding no_uid
returns-in-One c = simp c.in-One.is

pub returns-in-Several : goal.returns-in-Several
unfolding no_uid
returns-in-Several c = simp c.in-Several.is
