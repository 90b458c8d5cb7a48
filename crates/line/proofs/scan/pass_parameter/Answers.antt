-- `line::scan::pass_parameter` meets its contract: the name bytes lead the scanner through the name, the equals sign to the value, and the call goes on from there.
use Rattle.line.specs.declared.scan.State.TheVariants.{ParameterStart, ParameterName, ValueStart}
use Rattle.line.proofs.Scanner.{leads_on, leads_byte, leads_name, equals_ends}
use native.Mathlib.Omega.{arith}
use Rattle.line.proofs.scan.pass_parameter.Goals as goal

pub returns-then-line-e-eq61 : goal.returns-then-line-e-eq61
returns-then-line-e-eq61 c =
    let inside = c.if-e-line.true in
    let equals = c.if-line-e-eq61.true in
    let passed = c.pass_value.ensures in
    let line = c.args.line.now in
    leads_on line ParameterStart ParameterName _ _ _ _
    (leads_name _ _ _ _ (omega arith) c.is_name_byte.ensures c.if-not-is_name_byte.false-raw c.pass_name-e.ensures)
    (leads_on line ParameterName ValueStart _ _ _ _ (leads_byte line ParameterName ValueStart _ 61 inside equals equals_ends) passed)

pub returns-else-line-e-eq61 : goal.returns-else-line-e-eq61
returns-else-line-e-eq61 c = (leads_name _ _ _ _ (omega arith) c.is_name_byte.ensures c.if-not-is_name_byte.false-raw c.pass_name-e.ensures)

pub returns-else-e-line : goal.returns-else-e-line
returns-else-e-line c = (leads_name _ _ _ _ (omega arith) c.is_name_byte.ensures c.if-not-is_name_byte.false-raw c.pass_name-e.ensures)
