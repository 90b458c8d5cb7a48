-- `contents::alone::other_kinds` meets its contract: each arm is one clause of the definition.
use Rattle.contents.specs.Alone.{other_kinds}
use Rattle.contents.proofs.alone.other_kinds.Goals as goal

pub returns-in-None : goal.returns-in-None
unfolding other_kinds
returns-in-None c = simp c.in-None.is

pub returns-in-One : goal.returns-in-One
unfolding other_kinds
returns-in-One c = simp (c.in-One.is, c.same_kind.ensures)

pub returns-in-Several : goal.returns-in-Several
unfolding other_kinds
returns-in-Several c = simp c.in-Several.is
