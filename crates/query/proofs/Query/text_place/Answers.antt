-- `query::Query::text_place` meets its contract: after so many texts the place is that of the next, and each text passed lies inside.
use Rattle.query.proofs.Records.{place_start, place_inside, place_next, place_end}
use native.Mathlib.Omega.{arith}
use Rattle.query.proofs.Query.text_place.Goals as goal

pub loop-init : goal.loop-init
loop-init c = place_start _ _

pub overflow_add-at : goal.overflow_add-at
overflow_add-at c = omega (arith, c.args.self.now.fits.texts_inside c.loop.counter (omega arith), c.loop.invariant)

pub overflow_add-at-in-loop : goal.overflow_add-at-in-loop
overflow_add-at-in-loop c =
    omega (arith, place_inside _ c.args.self.now.sections c.loop.counter c.args.self.now.fits (omega arith) c.loop.invariant c.byte_at.ensures.is)

pub loop-preserved : goal.loop-preserved
loop-preserved c = place_next _ _ _ c.loop.invariant c.byte_at.ensures.is

pub returns : goal.returns
returns c = place_end _ c.loop.counter _ _ c.loop.auto.counter-end c.loop-test.false c.loop.invariant
