-- `query::Query::text_of` meets its contract: the text lies inside, and its length byte says how many bytes it has.
use Rattle.query.proofs.Records.{place_inside, text_is}
use mathlib.Core.Path.{refl}
use native.Mathlib.Omega.{arith}
use Rattle.query.proofs.Query.text_of.Goals as goal

pub overflow_add-from : goal.overflow_add-from
overflow_add-from c = omega (arith, place_inside _ c.args.self.now.sections _ c.args.self.now.fits c.requires c.text_place-p.ensures refl)

pub overflow_add-e : goal.overflow_add-e
overflow_add-e c = omega (arith, (place_inside _ c.args.self.now.sections _ c.args.self.now.fits c.requires c.text_place-p.ensures c.byte_at.ensures.is))

pub slice_bounds-result-end : goal.slice_bounds-result-end
slice_bounds-result-end c = omega (arith, (place_inside _ c.args.self.now.sections _ c.args.self.now.fits c.requires c.text_place-p.ensures c.byte_at.ensures.is))

pub returns : goal.returns
returns c = text_is _ c.args.self.now.sections _ c.text_place-p.ensures c.byte_at.ensures.is
