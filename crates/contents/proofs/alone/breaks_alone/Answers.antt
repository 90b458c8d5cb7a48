-- `contents::alone::breaks_alone` meets its contract: the three tests are the definition's own.
use Rattle.contents.specs.Alone.{alone_by}
use Rattle.contents.proofs.alone.breaks_alone.Goals as goal

pub returns : goal.returns
unfolding alone_by
returns c =
    simp (c.has_rule-rule.ensures, c.several_uids.ensures, c.other_kinds.ensures, c.override_by.ensures)
