-- `line::scan::pass_name` meets its contract: name bytes leave the scanner in the parameter's name.
use Rattle.line.proofs.Places.{stops}
use Rattle.line.proofs.Scanner.{Leads, leads_none, leads_next, parameter_name_stays}
use Rattle.ascii.specs.Bytes.{is_name_byte}
use Rattle.line.specs.declared.scan.State.TheVariants.{ParameterName}
use Rattle.line.proofs.scan.pass_name.Goals as goal

pub loop-i-init : goal.loop-i-init
loop-i-init c = leads_none _ ParameterName _

pub returns-then-not-is_name_byte : goal.returns-then-not-is_name_byte
returns-then-not-is_name_byte c = c.loop-i.invariant

pub loop-i-preserved : goal.loop-i-preserved
loop-i-preserved c =
    leads_next ParameterName is_name_byte parameter_name_stays _ _ _ _ c.loop-i-test.true c.is_name_byte.ensures c.if-not-is_name_byte.false-raw c.loop-i.invariant

pub returns : goal.returns
returns c = stops (Leads _ ParameterName _ ParameterName) _ _ _ _ c.max.ensures c.loop-i.auto.i-end c.loop-i-test.false (λ h. leads_none _ ParameterName _) c.loop-i.invariant
