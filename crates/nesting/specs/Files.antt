-- Lines, nesting and tree of a file, from its unfolded bytes.
use Rattle.std.specs.Prelude.{ℕ, ◌+◌, List, map, length, Err, Ok, Result}
use Rattle.nesting.specs.declared.StructureError.{StructureError}
use Rattle.text.specs.Lines.{content_lines}
use Rattle.line.specs.Grammar.{ContentLine}
use Rattle.line.specs.Reading.{line_of}
use Rattle.line.specs.WellFormed.{LineCheck, all_good, bad_line}
use Rattle.nesting.specs.Nesting.{Walk, walk, outcome, nesting_of}
use Rattle.nesting.specs.Components.{Items, tree_of}

-- is the nesting of a file right, and its tree
unfoldable pub nesting_in : List ℕ → LineCheck
nesting_in s = nesting_of (map line_of (content_lines s))

unfoldable pub tree_in : List ℕ → Items
tree_in s = tree_of (map line_of (content_lines s))

-- lines and nesting in one answer: a badly formed line counts before a line that breaks the nesting
unfoldable pub structure_by : LineCheck → LineCheck → Result (Unit {0}) StructureError
structure_by (bad_line n) k = Err (StructureError.BadLine n)
structure_by all_good (bad_line n) = Err (StructureError.BadNesting n)
structure_by all_good all_good = Ok tt

-- the outcome for a file whose walk is w where line number i is next
unfoldable pub nesting_from : ℕ → Walk → List ContentLine → LineCheck
nesting_from i w xs = outcome (i + length xs) (walk i w xs)
