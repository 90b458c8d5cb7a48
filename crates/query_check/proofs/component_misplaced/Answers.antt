-- `query_check::component_misplaced` meets its contract: the tests are those of the definition, on the text of the name.
use Rattle.query_check.proofs.WellFormed.{component_off_holds}
use Rattle.query_check.proofs.component_misplaced.Goals as goal

pub returns : goal.returns
returns c =
    let sections = c.args.q.now.sections in
    let asked = c.args.r in
    let name = c.text_of-text.ensures in
    let event = c.same_name.ensures in
    let block = c.same_name-2.ensures in
    component_off_holds _ sections asked name event block
