-- Writing a row of numbers into a list, one number after the other: what the loop keeps.
use Prim.Native.Nat.{ℕ, ◌+◌, ◌≤◌, ◌<◌}
use mathlib.Core.Path.{◌≡◌, refl, ◌∙◌}
use mathlib.Core.Bool.{Bool, true, false}
use mathlib.Core.List.{List}
use native.Mathlib.Omega.{arith}
use lib.Dec.{ltb}
use lib.ListN.{length, get_or, set, length-set}
use lib.Seq.{get_or-set_same, get_or-set_other}
use borrow.Author.Tests.{ltb-true, ltb-false}

-- the first p numbers of the row stand at their places, and all outside it is as it was
pub record Putting (old : List ℕ) (width at : ℕ) (row new : List ℕ) (p : ℕ) : Type 0 where
  pub long : length new ≡ length old
  pub few : p ≤ width
  pub here : (x : ℕ) → x < p → get_or new (at + x) 0 ≡ get_or row x 0
  pub before : (x : ℕ) → x < at → get_or new x 0 ≡ get_or old x 0
  pub behind : (x : ℕ) → at + width ≤ x → get_or new x 0 ≡ get_or old x 0

pub putting_start : (old : List ℕ) (width at : ℕ) (row : List ℕ) → Putting old width at row old 0
putting_start old width at row =
    record { long = refl; few = omega arith; here = λ x h. absurd (omega arith); before = λ x h. refl; behind = λ x h. refl }

module _ {old : List ℕ} {width at : ℕ} {row new : List ℕ} {p : ℕ} (g : Putting old width at row new p) where
  pub putting_next : at + width ≤ length old → p < width → Putting old width at row (set new (at + p) (get_or row p 0)) (p + 1)
  putting_next r h =
      record {
        long = length-set new (at + p) (get_or row p 0) ∙ g.long;
        few = omega arith;
        here = λ x l. go x l (ltb x p) refl;
        before = λ x l. get_or-set_other new (at + p) x (get_or row p 0) 0 (λ e. omega arith) ∙ g.before x l;
        behind = λ x l. get_or-set_other new (at + p) x (get_or row p 0) 0 (λ e. omega arith) ∙ g.behind x l;
      }
    where
      go : (x : ℕ) → x < p + 1 → (t : Bool) → ltb x p ≡ t → get_or (set new (at + p) (get_or row p 0)) (at + x) 0 ≡ get_or row x 0
      go x l true q =
          get_or-set_other new (at + p) (at + x) (get_or row p 0) 0 (λ e. omega (arith, ltb-true)) ∙ g.here x (omega (arith, ltb-true))
      go x l false q =
          let z : x ≡ p = omega (arith, ltb-false) in
          rw z (get_or-set_same new (at + p) (get_or row p 0) 0 (omega (arith, g.long)))

  -- the whole row stands
  pub putting_all : width ≤ p → (x : ℕ) → x < width → get_or new (at + x) 0 ≡ get_or row x 0
  putting_all h x l = g.here x (omega arith)
