-- `line::scan::clear_name` meets its contract: the name bytes are the name, where there are some and the scanner takes what stands behind them.
use Rattle.line.proofs.ScannerNames.{name_of_long, name_behind, name_missed}
use native.Mathlib.Omega.{arith}
use Rattle.line.proofs.scan.clear_name.Goals as goal

pub returns-then-line-gt1024 : goal.returns-then-line-gt1024
returns-then-line-gt1024 c = name_of_long c.args.line.now (omega arith)

pub returns-then-n-is_behind_name : goal.returns-then-n-is_behind_name
returns-then-n-is_behind_name c = name_missed c.args.line.now (omega arith) c.name_length-n.ensures c.is_behind_name.ensures c.if-n-is_behind_name.true

pub returns : goal.returns
returns c = name_behind c.args.line.now (omega arith) c.name_length-n.ensures c.is_behind_name.ensures c.if-n-is_behind_name.false
