-- `contents::alone::some_kinds` meets its contract: each arm is one clause of the definition.
use Rattle.contents.specs.Alone.{some_kinds}
use Rattle.contents.proofs.alone.some_kinds.Goals as goal

pub returns-in-None : goal.returns-in-None
unfolding some_kinds
returns-in-None c = simp c.in-None.is

pub returns-in-One : goal.returns-in-One
unfolding some_kinds
returns-in-One c = simp c.in-One.is

pub returns-in-Several : goal.returns-in-Several
unfolding some_kinds
returns-in-Several c = simp c.in-Several.is
