-- Periods (document 01, Busy type): an instance or a period covers a second from its start up to, but not including, its end.
use Rattle.std.specs.Prelude.{ℕ, Bool, false, ◌&&◌, ◌||◌, List, [], ◌∷◌, leb, ltb}
use Rattle.periods.specs.declared.Period.{Period}

abbrev pub period : ℕ → ℕ → Period
period a b = record { start = a; end = b }

-- a second from a up to, but not including, b
unfoldable pub second_in : ℕ → ℕ → ℕ → Bool
second_in a b x = leb a x && ltb x b

-- some period of the list covers the second
unfoldable pub covers : List Period → ℕ → Bool
covers [] x = false
covers (p ∷ ps) x = second_in p.start p.end x || covers ps x
