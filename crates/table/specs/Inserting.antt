-- Adding a span of seconds to a list of periods: those that end before it stay, those that it overlaps or touches become one with it.
use Rattle.std.specs.Prelude.{ℕ, min, max, true, false, List, [], ◌∷◌, leb, ltb}
use Rattle.periods.specs.declared.Period.{Period}
use Rattle.periods.specs.Periods.{period}

-- it takes in those that begin by its end
unfoldable pub absorbed : ℕ → ℕ → List Period → List Period
absorbed a b [] = period a b ∷ []
absorbed a b (p ∷ ps) = elim (leb p.start b) [ true ↦ absorbed (min a p.start) (max b p.end) ps | false ↦ period a b ∷ p ∷ ps ]

unfoldable pub inserted : ℕ → ℕ → List Period → List Period
inserted a b [] = period a b ∷ []
inserted a b (p ∷ ps) = elim (ltb p.end a) [ true ↦ p ∷ inserted a b ps | false ↦ absorbed a b (p ∷ ps) ]

-- periods added one after another
unfoldable pub inserted_all : List Period → List Period → List Period
inserted_all qs [] = qs
inserted_all qs (p ∷ ps) = inserted_all (inserted p.start p.end qs) ps
