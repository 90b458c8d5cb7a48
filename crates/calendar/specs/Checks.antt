-- The first fault of a value and the first broken component, of those before and those behind.
use Rattle.std.specs.Prelude.{Err, None, Ok, Option, Result, Some, ℕ}
use Rattle.calendar.specs.declared.LineError.{LineError}

-- the one, or where it is good the other
unfoldable pub fault_else : Result (Unit {0}) LineError → Result (Unit {0}) LineError → Result (Unit {0}) LineError
fault_else (Ok _) r = r
fault_else (Err f) r = Err f

unfoldable pub rule_else : Option ℕ → Option ℕ → Option ℕ
rule_else None r = r
rule_else (Some n) r = Some n
