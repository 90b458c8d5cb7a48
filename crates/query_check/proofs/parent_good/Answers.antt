-- `query_check::parent_good` meets its contract: the two branches are the two cases of the definition.
use Rattle.query_check.proofs.WellFormed.{parent_first, parent_other}
use Rattle.query_check.proofs.parent_good.Goals as goal

pub returns-then-i-eq0 : goal.returns-then-i-eq0
returns-then-i-eq0 c =
    let sections = c.args.q.now.sections in
    let asked = c.args.r in
    let first = c.if-i-eq0.true in
    let name = c.text_of.ensures in
    let calendar = c.same_name.ensures in
    parent_first _ sections _ asked first name calendar

pub returns-else-i-eq0 : goal.returns-else-i-eq0
returns-else-i-eq0 c = parent_other _ c.args.q.now.sections _ c.args.r c.if-i-eq0.false
