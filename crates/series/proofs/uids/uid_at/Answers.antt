-- `series::uids::uid_at` meets its contract: the line that counts from 1 is the one before, counted from 0.
use Rattle.line.specs.Reading.{value_of}
use Rattle.index.proofs.Index.{entry_here, entry_name}
use mathlib.Core.Path.{ap, ◌∙◌}
use native.Mathlib.Omega.{arith}
use Rattle.series.proofs.uids.uid_at.Goals as goal

pub line_at-line-requires : goal.line_at-line-requires
line_at-line-requires c = c.requires.indexed.entries _ (omega arith)

pub name_length-requires : goal.name_length-requires
name_length-requires c = entry_here (c.requires.indexed.entries _ (omega arith))

pub value_behind-requires : goal.value_behind-requires
value_behind-requires c = entry_name (c.requires.indexed.entries _ (omega arith)) c.name_length.ensures c.line_at-line.ensures

pub returns : goal.returns
returns c = c.value_behind.ensures ∙ ap value_of c.line_at-line.ensures
