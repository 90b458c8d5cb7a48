-- Covered seconds as the fewest periods (document 01, The report's bytes): clipped, rising, never touching.
-- A set of seconds is a Bool function of a second; its runs are what the report lists.
use Rattle.std.specs.Prelude.{ℕ, zero, suc, ◌+◌, ◌≤◌, ◌<◌, Bool, true, false, List, [], ◌∷◌, eqb}
use Rattle.periods.specs.declared.Period.{Period}
use Rattle.periods.specs.Periods.{period}

-- second s put before periods that begin later: it lengthens the first where the two touch
unfoldable pub lead : ℕ → List Period → List Period
lead s [] = period s (s + 1) ∷ []
lead s (p ∷ ps) = elim (eqb p.start (s + 1)) [ true ↦ period s p.end ∷ ps | false ↦ period s (s + 1) ∷ p ∷ ps ]

unfoldable pub lead_if : Bool → ℕ → List Period → List Period
lead_if true s ps = lead s ps
lead_if false s ps = ps

-- the runs of the seconds s, s + 1, .., s + n - 1 of which f holds, second by second
unfoldable pub runs : (ℕ → Bool) → ℕ → ℕ → List Period
runs f s zero = []
runs f s (suc n) = lead_if (f s) s (runs f (s + 1) n)

-- from lo to hi, each with a second at least, rising, no two touching
pub data Rising : ℕ → List Period → ℕ → Type 0 where
  none : {lo hi : ℕ} → Rising lo [] hi
  then : {lo hi : ℕ} {p : Period} {ps : List Period} → lo ≤ p.start → p.start < p.end → p.end ≤ hi → Rising (p.end + 1) ps hi → Rising lo (p ∷ ps) hi

-- a period of a second at least, clipped to lo and hi
pub record Lies (lo hi : ℕ) (p : Period) : Type 0 where
  pub from : lo ≤ p.start
  pub some : p.start < p.end
  pub to : p.end ≤ hi
