-- Laws of fingerprints: the words of a text from a place on, and the sums while a loop goes over them.
-- The bounds say that no sum overflows.
use Prim.Native.Nat.{ℕ, ◌+◌, ◌*◌, ◌-◌, ◌%◌, ◌≤◌, ◌<◌}
use mathlib.Core.Path.{◌≡◌, refl, sym, ap, ◌∙◌}
use mathlib.Core.List.{List, [], ◌∷◌}
use native.Mathlib.Omega.{arith}
use lib.ListN.{length, drop, get_or, length-drop}
use Rattle.ascii.proofs.Lists.{drop_next, drop_end}
use Rattle.fingerprints.specs.Fingerprints.{words, finished, fingerprint, WordAt, FewLeft}

-- fewer than four bytes are words as they are
words_few : (l : List ℕ) → length l < 4 → words l ≡ l
unfolding words
words_few [] h = refl
words_few (a ∷ []) h = refl
words_few (a ∷ b ∷ []) h = refl
words_few (a ∷ b ∷ c ∷ []) h = refl
words_few (a ∷ b ∷ c ∷ d ∷ l) h = absurd (omega arith)

-- four bytes and more begin with a word
words_more : {u : List ℕ} {i w : ℕ} → i + 4 ≤ length u → WordAt u i w → words (drop i u) ≡ w ∷ words (drop (i + 4) u)
unfolding words
words_more {u} {i} {w} h r =
    let two : i + 1 + 1 ≡ i + 2 = omega arith in
    let three : i + 2 + 1 ≡ i + 3 = omega arith in
    let four : i + 3 + 1 ≡ i + 4 = omega arith in
    let first : drop i u ≡ get_or u i 0 ∷ drop (i + 1) u = drop_next u i (omega arith) in
    let second : drop (i + 1) u ≡ get_or u (i + 1) 0 ∷ drop (i + 2) u = rw two at (drop_next u (i + 1) (omega arith)) in
    let third : drop (i + 2) u ≡ get_or u (i + 2) 0 ∷ drop (i + 3) u = rw three at (drop_next u (i + 2) (omega arith)) in
    let last : drop (i + 3) u ≡ get_or u (i + 3) 0 ∷ drop (i + 4) u = rw four at (drop_next u (i + 3) (omega arith)) in
    rw (first, second, third, last) (ap (λ (x : ℕ). x ∷ words (drop (i + 4) u)) (sym r.same))

-- the pass over whole words: the words from place i on are left to add
pub record Summing (u : List ℕ) (i one two three : ℕ) : Type 0 where
  pub inside : i ≤ length u
  pub one_small : one ≤ i * 1073741824
  pub two_small : two ≤ i * 274877906944
  pub three_small : three ≤ i * 70368744177664
  pub left : finished one two three (words (drop i u)) ≡ fingerprint u

pub summing_start : (u : List ℕ) → Summing u 0 0 0 0
unfolding fingerprint
summing_start u = record { inside = omega arith; one_small = omega arith; two_small = omega arith; three_small = omega arith; left = refl }

module _ {u : List ℕ} {i one two three : ℕ} where
  pub summing_next : {w : ℕ} → length u ≤ 1024 → Summing u i one two three → i + 4 ≤ length u → WordAt u i w
      → Summing u (i + 4) (one + w) (two + (one + w)) (three + (two + (one + w)))
  unfolding finished
  summing_next {w} l p h r =
      let a : one ≤ i * 1073741824 = p.one_small in
      let b : two ≤ i * 274877906944 = p.two_small in
      let c : three ≤ i * 70368744177664 = p.three_small in
      let d : w < 4294967296 = r.small in
      record {
        inside = h;
        one_small = omega arith;
        two_small = omega arith;
        three_small = omega arith;
        left = sym (ap (finished one two three) (words_more h r)) ∙ p.left;
      }

  pub summing_few : length u ≤ 1024 → Summing u i one two three → length u < i + 4 → FewLeft u i one two three
  summing_few l p h = record {
    inside = p.inside;
    few = h;
    one_small = omega (arith, p.inside, p.one_small);
    two_small = omega (arith, p.inside, p.two_small);
    three_small = omega (arith, p.inside, p.three_small);
  }

-- the pass over the bytes that are left, from place i on still to add, toward the fingerprint x
pub record Ending (u : List ℕ) (from i one two three x : ℕ) : Type 0 where
  pub order : from ≤ i
  pub inside : i ≤ length u
  pub few : length u < from + 4
  pub one_small : one ≤ 1099511627776 + (i - from) * 256
  pub two_small : two ≤ 281474976710656 + (i - from) * 2199023255552
  pub three_small : three ≤ 72057594037927936 + (i - from) * 562949953421312
  pub left : finished one two three (drop i u) ≡ x

pub ending_start : {u : List ℕ} {from one two three : ℕ} → FewLeft u from one two three
    → Ending u from from one two three (finished one two three (words (drop from u)))
ending_start {u} {from} {one} {two} {three} p =
    let few : length u < from + 4 = p.few in
    record {
      order = omega arith;
      inside = p.inside;
      few = few;
      one_small = omega (arith, p.one_small);
      two_small = omega (arith, p.two_small);
      three_small = omega (arith, p.three_small);
      left = ap (finished one two three) (sym (words_few (drop from u) (rw length-drop (omega arith))));
    }

module _ {u : List ℕ} {from i one two three x : ℕ} where
  pub ending_next : {b : ℕ} → Ending u from i one two three x → i < length u → b ≡ get_or u i 0 → b < 256
      → Ending u from (i + 1) (one + b) (two + (one + b)) (three + (two + (one + b))) x
  unfolding finished
  ending_next {b} p h e s =
      let o : from ≤ i = p.order in
      let f : length u < from + 4 = p.few in
      let a : one ≤ 1099511627776 + (i - from) * 256 = p.one_small in
      let c : two ≤ 281474976710656 + (i - from) * 2199023255552 = p.two_small in
      let d : three ≤ 72057594037927936 + (i - from) * 562949953421312 = p.three_small in
      record {
        order = omega arith;
        inside = omega arith;
        few = f;
        one_small = omega arith;
        two_small = omega arith;
        three_small = omega arith;
        left =
            ap (λ (y : ℕ). finished one two three (y ∷ drop (i + 1) u)) e
            ∙ ap (finished one two three) (sym (drop_next u i h))
            ∙ p.left;
      }

  pub ending_end : Ending u from i one two three x → length u ≤ i → (one + two * 8191 + three * 127) % 65447 ≡ x
  unfolding finished
  ending_end p h = ap (finished one two three) (sym (drop_end u i h)) ∙ p.left
