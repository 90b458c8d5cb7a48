-- `report::lines::report_length` meets its contract: the sum is the definition's own.
use mathlib.Core.Path.{refl}
use Rattle.report.specs.Bytes.{report_length}
use Rattle.report.proofs.lines.report_length.Goals as goal

pub returns : goal.returns
unfolding report_length
returns c = refl
