-- The fingerprint of a text: a number below 65,447, by its words.
-- Texts that differ in a few digits have different fingerprints as a rule; no contract says so.
use Rattle.std.specs.Prelude.{ℕ, ◌+◌, ◌*◌, ◌%◌, ◌≤◌, ◌<◌, ◌≡◌, List, [], ◌∷◌, length, get_or}

-- four bytes as one number, the first of them lowest
unfoldable pub word : ℕ → ℕ → ℕ → ℕ → ℕ
word a b c d = a + b * 256 + c * 65536 + d * 16777216

-- the bytes four by four as words; up to three that are left are a word each
unfoldable pub words : List ℕ → List ℕ
words [] = []
words (a ∷ []) = a ∷ []
words (a ∷ b ∷ []) = a ∷ b ∷ []
words (a ∷ b ∷ c ∷ []) = a ∷ b ∷ c ∷ []
words (a ∷ b ∷ c ∷ d ∷ u) = word a b c d ∷ words u

-- The sum of the words, the sum of these sums, and the sum of those, with words that are left to add.
-- The second counts a word as often as there are words from it on, the third grows with the square of that: so each place has a weight of its own.
-- 65,447 is a prime at which words of digits stay apart that differ in three places at most; this was computed and is not proved.
unfoldable pub finished : ℕ → ℕ → ℕ → List ℕ → ℕ
finished one two three [] = (one + two * 8191 + three * 127) % 65447
finished one two three (w ∷ ws) = finished (one + w) (two + (one + w)) (three + (two + (one + w))) ws

-- the fingerprint of a text: what the sums of all its words come to
unfoldable pub fingerprint : List ℕ → ℕ
fingerprint u = finished 0 0 0 (words u)

-- r is the word at place i
pub record WordAt (u : List ℕ) (i r : ℕ) : Type 0 where
  pub same : r ≡ word (get_or u i 0) (get_or u (i + 1) 0) (get_or u (i + 2) 0) (get_or u (i + 3) 0)
  pub small : r < 4294967296

-- fewer than four bytes are left, and the sums are so small that no sum with these overflows
pub record FewLeft (u : List ℕ) (from one two three : ℕ) : Type 0 where
  pub inside : from ≤ length u
  pub few : length u < from + 4
  pub one_small : one ≤ 1099511627776
  pub two_small : two ≤ 281474976710656
  pub three_small : three ≤ 72057594037927936
