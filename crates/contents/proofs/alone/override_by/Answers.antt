-- `contents::alone::override_by` meets its contract: each arm is one clause of the definition.
use Rattle.contents.specs.Alone.{override_by}
use Rattle.contents.proofs.alone.override_by.Goals as goal

pub returns-in-None : goal.returns-in-None
unfolding override_by
returns-in-None c = simp c.in-None.is

pub returns-in-One : goal.returns-in-One
unfolding override_by
returns-in-One c = simp (c.in-One.is, c.no_uid.ensures, c.some_kinds.ensures)

pub returns-in-Several : goal.returns-in-Several
unfolding override_by
returns-in-Several c = simp c.in-Several.is
