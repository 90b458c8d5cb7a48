-- `index::is_called` meets its contract: the line has the name's length by its entry.
use Rattle.ascii.specs.Names.{same_name}
use Rattle.line.specs.Reading.{name_of}
use Rattle.index.proofs.Index.{entry_here, entry_name}
use mathlib.Core.Path.{ap, ◌∙◌}
use Rattle.index.proofs.is_called.Goals as goal

pub name_length-requires : goal.name_length-requires
name_length-requires c = entry_here c.requires

pub is_called-requires : goal.is_called-requires
is_called-requires c = entry_name c.requires c.name_length.ensures c.line_at.ensures

pub returns : goal.returns
returns c = c.is_called.ensures ∙ ap (λ x. same_name (name_of x) c.args.name.now) c.line_at.ensures
