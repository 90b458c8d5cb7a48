-- `line::scan::pass_unquoted` meets its contract: bytes of a value without quotes leave the scanner in it.
use Rattle.line.proofs.Places.{stops}
use Rattle.line.proofs.Scanner.{Leads, leads_none, leads_next}
use Rattle.line.proofs.Grammar.{unquoted_stays}
use Rattle.line.specs.Grammar.{is_unquoted}
use Rattle.line.specs.declared.scan.State.TheVariants.{Unquoted}
use Rattle.line.proofs.scan.pass_unquoted.Goals as goal

pub loop-i-init : goal.loop-i-init
loop-i-init c = leads_none _ Unquoted _

pub returns-then-not-is_unquoted : goal.returns-then-not-is_unquoted
returns-then-not-is_unquoted c = c.loop-i.invariant

pub loop-i-preserved : goal.loop-i-preserved
loop-i-preserved c =
    leads_next Unquoted is_unquoted unquoted_stays _ _ _ _ c.loop-i-test.true c.is_unquoted.ensures c.if-not-is_unquoted.false-raw c.loop-i.invariant

pub returns : goal.returns
returns c = stops (Leads _ Unquoted _ Unquoted) _ _ _ _ c.max.ensures c.loop-i.auto.i-end c.loop-i-test.false (λ h. leads_none _ Unquoted _) c.loop-i.invariant
