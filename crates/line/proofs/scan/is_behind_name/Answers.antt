-- `line::scan::is_behind_name` meets its contract: a colon behind the name leads the scanner to the value.
use Rattle.line.proofs.WellFormedControls.{clear_colon}
use Rattle.line.proofs.scan.is_behind_name.Goals as goal

pub returns-then-line-from-eq58 : goal.returns-then-line-from-eq58
returns-then-line-from-eq58 c = clear_colon c.args.line.now c.requires _ c.if-from-line.true c.if-line-from-eq58.true
