-- `query::place::count_fits` meets its contract: the three tests are those of the definition.
use Rattle.query.specs.Sections.{count_fits}
use Rattle.query.proofs.place.count_fits.Goals as goal

pub returns : goal.returns
unfolding count_fits
returns c = rw c.byte_at-n.ensures.is
