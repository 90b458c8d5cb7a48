-- `cli::arguments::is_hex_name` meets its contract: the last four bytes decide, and a shorter name has not four.
use Rattle.cli.proofs.ArgumentsLaws.{hex_short, hex_end}
use Rattle.cli.proofs.arguments.is_hex_name.Goals as goal

pub returns-then-n-lt4 : goal.returns-then-n-lt4
returns-then-n-lt4 c = hex_short _ c.if-n-lt4.true

pub returns : goal.returns
returns c = hex_end _ c.if-n-lt4.false c.same_name.ensures
