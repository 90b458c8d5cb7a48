-- The busy seconds of a list of periods: what a table adds up to.
use Rattle.std.specs.Prelude.{ℕ, ◌+◌, ◌-◌, List, [], ◌∷◌}
use Rattle.periods.specs.declared.Period.{Period}

-- from each start up to its end, all together
unfoldable pub seconds_in : List Period → ℕ
seconds_in [] = 0
seconds_in (p ∷ ps) = (p.end - p.start) + seconds_in ps
