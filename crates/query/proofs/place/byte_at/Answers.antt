-- `query::place::byte_at` meets its contract: a byte of the slice is below 256, and past the end the definition reads 0.
use Rattle.query.proofs.SectionsLaws.{byte_past}
use Rattle.query.specs.Sections.{byte_at}
use mathlib.Core.Path.{refl, sym}
use native.Mathlib.Omega.{arith}
use Rattle.query.proofs.place.byte_at.Goals as goal

pub overflow_cast-result : goal.overflow_cast-result
overflow_cast-result c = omega (arith, c.type_inv.s c.args.i)

pub returns-then-i-s : goal.returns-then-i-s
unfolding byte_at
returns-then-i-s c = record { is = refl; small = omega (arith, c.type_inv.s c.args.i) }

pub returns-else-i-s : goal.returns-else-i-s
returns-else-i-s c = record { is = sym (byte_past _ _ c.if-i-s.false); small = omega arith }
