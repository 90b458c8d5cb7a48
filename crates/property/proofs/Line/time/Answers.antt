-- `property::Line::time` meets its contract: the value is read in the form that the line asks for.
use Rattle.line.specs.Reading.{line_of}
use Rattle.values.specs.Times.{time_of}
use Rattle.property.proofs.Line.time.Goals as goal

pub returns : goal.returns
unfolding time_of line_of
returns c = simp (c.read_time.ensures, c.form.ensures, c.args.self.value_is)
