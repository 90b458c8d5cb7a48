-- `query_check::name_good` meets its contract: a number below the count has its text, and any other is no name.
use Rattle.query_check.proofs.WellFormed.{name_there, name_absent}
use mathlib.Core.Path.{sym}
use Rattle.query_check.proofs.name_good.Goals as goal

pub returns-then-n-q : goal.returns-then-n-q
returns-then-n-q c = name_there _ c.args.q.now.sections _ c.if-n-q.true c.text_of.ensures c.is_name.ensures

pub returns-else-n-q : goal.returns-else-n-q
returns-else-n-q c = sym (name_absent _ c.args.q.now.sections _ c.if-n-q.false)
