-- `line::scan::pass_quoted` meets its contract: bytes between quotes leave the scanner there.
use Rattle.line.proofs.Places.{stops}
use Rattle.line.proofs.Scanner.{Leads, leads_none, leads_next}
use Rattle.line.proofs.Grammar.{quoted_stays}
use Rattle.line.specs.Grammar.{is_quotable}
use Rattle.line.specs.declared.scan.State.TheVariants.{Quoted}
use Rattle.line.proofs.scan.pass_quoted.Goals as goal

pub loop-i-init : goal.loop-i-init
loop-i-init c = leads_none _ Quoted _

pub returns-then-not-is_quotable : goal.returns-then-not-is_quotable
returns-then-not-is_quotable c = c.loop-i.invariant

pub loop-i-preserved : goal.loop-i-preserved
loop-i-preserved c =
    leads_next Quoted is_quotable quoted_stays _ _ _ _ c.loop-i-test.true c.is_quotable.ensures c.if-not-is_quotable.false-raw c.loop-i.invariant

pub returns : goal.returns
returns c = stops (Leads _ Quoted _ Quoted) _ _ _ _ c.max.ensures c.loop-i.auto.i-end c.loop-i-test.false (λ h. leads_none _ Quoted _) c.loop-i.invariant
