-- What a search by borders keeps from byte to byte: the first place at which the text can still stand. What "contains" means is text's TextMatch.
use Rattle.std.specs.Prelude.{ℕ, ◌+◌, ◌-◌, ◌≤◌, ◌<◌, ◌≡◌, List, get_or}
use Rattle.text.specs.TextMatch.{folded_by}
use Rattle.text.specs.declared.Collation.{Collation}

-- the byte at a place as the collation compares it
unfoldable pub byte_of : Collation → List ℕ → ℕ → ℕ
byte_of c s i = folded_by c (get_or s i 0)

-- the text t of m bytes, laid at place p, agrees with s before place e
pub record Fits (t : ℕ → ℕ) (m : ℕ) (s : ℕ → ℕ) (p e : ℕ) : Type 0 where
  pub same : (j : ℕ) → j < m → p + j < e → s (p + j) ≡ t j

-- the text fits up to i where k of its bytes stand before i, and at no earlier place from lo on does it fit up to e
pub record Best (t : ℕ → ℕ) (m : ℕ) (s : ℕ → ℕ) (lo i e k : ℕ) : Type 0 where
  pub order : lo + k ≤ i
  pub fits : Fits t m s (i - k) i
  pub none : (p : ℕ) → lo ≤ p → p < i - k → Fits t m s p e → ⊥

-- entries 1 to n - 1 of the table: entry q is the length of the longest border of the first q bytes
pub record Borders (t : ℕ → ℕ) (m : ℕ) (table : List ℕ) (n : ℕ) : Type 0 where
  pub entry : (q : ℕ) → 1 ≤ q → q < n → Best t m t 1 q q (get_or table q 0)

-- k bytes stood before a byte b: then r stand after it, whatever is searched, wherever it begins
pub record Steps (t : ℕ → ℕ) (m k b r : ℕ) : Type 0 where
  pub most : r ≤ k + 1
  pub best : (s : ℕ → ℕ) (lo i : ℕ) → s i ≡ b → Best t m s lo i i k → Best t m s lo (i + 1) (i + 1) r
