-- Laws of names: a test of every byte, and names compared without regard to case.
use Prim.Native.Nat.{ℕ, ◌+◌, ◌≤◌, ◌<◌, suc}
use mathlib.Core.Path.{◌≡◌, refl, ap, subst}
use mathlib.Core.Bool.{Bool, true, false, ◌&&◌, and-false}
use mathlib.Core.List.{List, [], ◌∷◌, ◌++◌, map}
use mathlib.Core.Logic.{◌↔◌}
use native.Mathlib.Omega.{arith}
use lib.ListN.{length, drop, get_or}
use lib.Dec.{eqb}
use borrow.Author.Tests.{eqb-true, eq-eqb, ne_eqb}
use Rattle.std.specs.List.{list_all}
use Rattle.ascii.specs.Names.{every, same_bytes, same_name, is_name}
use Rattle.ascii.specs.Bytes.{upper, is_name_byte}
use Rattle.ascii.proofs.Bools.{and_left, and_right, and_both, clash}
use Rattle.ascii.proofs.Lists.{drop_next, drop_end}

-- every, while a loop goes through a list
pub every_next : (f : ℕ → Bool) (s : List ℕ) (i : ℕ) → i < length s → f (get_or s i 0) ≡ true
    → every f (drop (i + 1) s) ≡ every f (drop i s)
every_next f s i h e = rw (drop_next s i h, e)

pub every_stop : (f : ℕ → Bool) (s : List ℕ) (i : ℕ) → i < length s → f (get_or s i 0) ≡ false → every f (drop i s) ≡ false
every_stop f s i h e = rw (drop_next s i h, e)

pub every_end : (f : ℕ → Bool) (s : List ℕ) (i : ℕ) → length s ≤ i → every f (drop i s) ≡ true
every_end f s i h = rw (drop_end s i h)

pub every_append : (f : ℕ → Bool) (s t : List ℕ) → every f s ≡ true → every f t ≡ true → every f (s ++ t) ≡ true
every_append f [] t p q = q
every_append f (b ∷ s) t p q = and_both (and_left (f b) _ p) (every_append f s t (and_right (f b) _ p) q)

-- same_bytes is equality
pub same_bytes_eq : (s t : List ℕ) → same_bytes s t ≡ true → s ≡ t
same_bytes_eq [] [] e = refl
same_bytes_eq [] (b ∷ t) e = cc
same_bytes_eq (a ∷ s) [] e = cc
same_bytes_eq (a ∷ s) (b ∷ t) e =
    let h : a ≡ b = eqb-true a b (and_left (eqb a b) (same_bytes s t) e) in
    let k : s ≡ t = same_bytes_eq s t (and_right (eqb a b) (same_bytes s t) e) in
    cc

pub same_bytes_refl : (s : List ℕ) → same_bytes s s ≡ true
same_bytes_refl [] = refl
same_bytes_refl (a ∷ s) = and_both (eq-eqb a a refl) (same_bytes_refl s)

-- the rule in words: the same name exactly where the two are equal once a to z is read as A to Z
pub same_name_iff : (s t : List ℕ) → (same_name s t ≡ true) ↔ (map upper s ≡ map upper t)
unfolding same_name
same_name_iff s t = (
  λ e. same_bytes_eq (map upper s) (map upper t) e,
  λ e. subst (λ (u : List ℕ). same_bytes (map upper s) u ≡ true) e (same_bytes_refl (map upper s)),
)

-- other lengths, other names
pub same_name_length : (s t : List ℕ) → (length s ≡ length t → ⊥) → same_name s t ≡ false
unfolding same_name
same_name_length [] [] h = absurd (h refl)
same_name_length [] (b ∷ t) h = refl
same_name_length (a ∷ s) [] h = refl
same_name_length (a ∷ s) (b ∷ t) h = rw (same_name_length s t (λ e. h (ap suc e))) (and-false (eqb (upper a) (upper b)))

-- the loop: equal so far, what is left decides
pub same_name_next : (s t : List ℕ) (i : ℕ) → i < length s → i < length t → upper (get_or s i 0) ≡ upper (get_or t i 0)
    → same_name (drop (i + 1) s) (drop (i + 1) t) ≡ same_name (drop i s) (drop i t)
unfolding same_name
same_name_next s t i h k e = rw (drop_next s i h, drop_next t i k, eq-eqb _ _ e)

pub same_name_stop : (s t : List ℕ) (i : ℕ) → i < length s → i < length t → (upper (get_or s i 0) ≡ upper (get_or t i 0) → ⊥)
    → same_name (drop i s) (drop i t) ≡ false
unfolding same_name
same_name_stop s t i h k e = rw (drop_next s i h, drop_next t i k, ne_eqb _ _ e)

pub same_name_end : (s t : List ℕ) (i : ℕ) → length s ≤ i → length t ≤ i → same_name (drop i s) (drop i t) ≡ true
unfolding same_name
same_name_end s t i h k = rw (drop_end s i h, drop_end t i k)

-- an empty name is none; of any other every byte decides
pub is_name_none : (s : List ℕ) → length s ≡ 0 → is_name s ≡ false
unfolding is_name
is_name_none [] e = refl
is_name_none (b ∷ s) e = absurd (omega arith)

pub is_name_some : (s : List ℕ) → (length s ≡ 0 → ⊥) → every is_name_byte s ≡ is_name s
unfolding is_name
is_name_some [] h = absurd (h refl)
is_name_some (b ∷ s) h = refl

-- other first bytes, other names
pub same_name_first : (s t : List ℕ) → (upper (get_or s 0 0) ≡ upper (get_or t 0 0) → ⊥) → same_name s t ≡ false
unfolding same_name
same_name_first [] [] h = absurd (h refl)
same_name_first [] (b ∷ t) h = refl
same_name_first (a ∷ s) [] h = refl
same_name_first (a ∷ s) (b ∷ t) h = rw (ne_eqb _ _ h)

pub every_of_name : (n : List ℕ) → is_name n ≡ true → every is_name_byte n ≡ true
unfolding is_name
every_of_name [] e = clash e refl
every_of_name (b ∷ n) e = e

-- the library's test of every element
pub every_all : (f : ℕ → Bool) (s : List ℕ) → list_all f s ≡ every f s
every_all f [] = refl
every_all f (b ∷ s) = ap (λ (t : Bool). f b && t) (every_all f s)
