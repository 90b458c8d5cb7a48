-- A refusal by its number and its line: what a check answers that refuses.
use Rattle.std.specs.Prelude.{ℕ, Err, Ok, Result}
use Rattle.calendar.specs.declared.Refusal.{Refusal}

abbrev pub refused_at : ℕ → ℕ → Result (Unit {0}) Refusal
refused_at n i = Err (record { number = n; line = i })

-- the refusal of an answer alone
abbrev pub refusal_of : {T : Type 0} → Result T Refusal → Result (Unit {0}) Refusal
refusal_of (Ok x) = Ok tt
refusal_of (Err f) = Err f
