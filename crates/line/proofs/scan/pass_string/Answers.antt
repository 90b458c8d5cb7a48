-- `line::scan::pass_string` meets its contract: the quotable bytes leave the scanner between the quotes, and the quote leads it out.
use Rattle.line.specs.declared.scan.State.TheVariants.{Quoted, AfterQuoted}
use Rattle.line.proofs.Scanner.{leads_on, leads_byte, quote_closes}
use Rattle.line.proofs.scan.pass_string.Goals as goal

pub returns-then-line-e-eq34 : goal.returns-then-line-e-eq34
returns-then-line-e-eq34 c =
    let line = c.args.line.now in
    let passed = c.pass_quoted-e.ensures in
    let inside = c.if-e-line.true in
    let quote = c.if-line-e-eq34.true in
    leads_on line Quoted Quoted AfterQuoted _ _ _ passed (leads_byte line Quoted AfterQuoted _ 34 inside quote quote_closes)
