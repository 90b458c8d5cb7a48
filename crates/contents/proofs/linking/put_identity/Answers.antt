-- `contents::linking::put_identity` meets its contract: the row is that of the link made here.
use borrow.Author.Rules.{rules}
use Rattle.series.specs.LinkRows.{link_from}
use Rattle.contents.proofs.linking.put_identity.Goals as goal

pub put_link-requires : goal.put_link-requires
unfolding link_from
put_link-requires c = record {
  k_in_bounds = (search rules);
  link_small = (search rules);
}

pub returns : goal.returns
unfolding link_from
returns c = search rules
