-- Laws of lists that loops over a slice use: the suffix that is left to read.
use Prim.Native.Nat.{ℕ, ◌+◌, ◌-◌, ◌≤◌, ◌<◌}
use mathlib.Core.Path.{◌≡◌}
use mathlib.Core.List.{List, [], ◌∷◌}
use native.Mathlib.Numerals.{add-one}
use native.Mathlib.Omega.{arith}
use lib.ListN.{length, take, drop, get_or, length-drop, drop_of_length-le}
use lib.Seq.{drop-cons, take_all}

-- the suffix at i is its first element and the suffix at i + 1
pub drop_next : (s : List ℕ) (i : ℕ) → i < length s → drop i s ≡ get_or s i 0 ∷ drop (i + 1) s
drop_next s i h = rw add-one (drop-cons s i 0 h)

-- nothing is left at the end
pub drop_end : (s : List ℕ) (i : ℕ) → length s ≤ i → drop i s ≡ []
drop_end s i h = drop_of_length-le s h

-- the part from k to the end
pub suffix : (s : List ℕ) (k : ℕ) → take (length s - k) (drop k s) ≡ drop k s
suffix s k = take_all (length s - k) (drop k s) (simp length-drop (omega arith))
