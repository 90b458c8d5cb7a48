-- The zone offset (document 01, Two questions): from -50,400 to 50,400 seconds; it is signed here and nowhere below.
use Rattle.std.specs.Prelude.{ℕ, suc, ◌+◌, ◌-◌, ◌≤◌, ◌<◌, Bool, cond, ◌&&◌, ℤ, pos, negsuc, None, Option, Some}
use Rattle.std.specs.Int.Signed.{le_z}
use Rattle.values.specs.declared.times.Context.{Context}

-- negsuc n is -(n + 1)
unfoldable pub offset_good : ℤ → Bool
offset_good o = le_z (negsuc 50399) o && le_z o (pos 50400)

-- the same for the reader
abbrev pub OffsetWithin : ℤ → Type 0
OffsetWithin (pos n) = n ≤ 50400
OffsetWithin (negsuc n) = n < 50400

-- the offset and 50,400 more: from 0 to 100,800 where the offset is good
unfoldable pub shift_of : ℤ → ℕ
shift_of (pos n) = 50400 + n
shift_of (negsuc n) = 50400 - suc n

unfoldable pub context_of : ℤ → Context
context_of o = record { shift = shift_of o }

-- the offset once it is read: unsigned, or out of bounds
unfoldable pub offset_read : ℤ → Option ℕ
offset_read o = cond (offset_good o) (Some (shift_of o)) None
