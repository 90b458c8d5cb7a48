-- Where a component may begin (document 01, Nesting), and what a line does to the innermost open component.
use Rattle.std.specs.Prelude.{ℕ, Bool, false, cond, not, ◌&&◌, ◌||◌, List, eqb, leb}
use Rattle.ascii.specs.Names.{same_name}
use Rattle.ascii.specs.Words.{ascii}
use Rattle.line.specs.Grammar.{ContentLine}
use Rattle.delimiters.specs.Delimiters.{delimiter_of}
use Rattle.delimiters.specs.declared.Delimiter.{Delimiter}
use Rattle.delimiters.specs.declared.Delimiter.TheVariants.{Begins, Ends, Property, Wrong}
use Rattle.delimiters.specs.declared.NestingStep.{NestingStep}
use Rattle.delimiters.specs.declared.NestingStep.TheVariants.{Opens, Stays, Closes, Breaks}

unfoldable pub is_calendar : List ℕ → Bool
is_calendar n = same_name n (ascii "VCALENDAR")

unfoldable pub is_event : List ℕ → Bool
is_event n = same_name n (ascii "VEVENT")

unfoldable pub is_free_busy : List ℕ → Bool
is_free_busy n = same_name n (ascii "VFREEBUSY")

-- may a component inside VCALENDAR begin, of this name, at depth d, as component number k?
-- No other VCALENDAR; at most 8 deep; at most 256 in all; VEVENT and VFREEBUSY at depth 2 alone
unfoldable pub may_begin : List ℕ → ℕ → ℕ → Bool
may_begin n d k = not (is_calendar n) && leb d 8 && leb k 256 && (eqb d 2 || not (is_event n || is_free_busy n))

-- what a line does to the innermost open component, of name n, where one more would be at depth d and number k
unfoldable pub nesting_step_by : Delimiter → List ℕ → List ℕ → ℕ → ℕ → NestingStep
nesting_step_by Begins v n d k = cond (may_begin v d k) Opens Breaks
nesting_step_by Ends v n d k = cond (same_name v n) Closes Breaks
nesting_step_by Property v n d k = Stays
nesting_step_by Wrong v n d k = Breaks

-- the line begins VCALENDAR
abbrev pub begins_by : Delimiter → List ℕ → Bool
begins_by Begins n = is_calendar n
begins_by Ends n = false
begins_by Property n = false
begins_by Wrong n = false

unfoldable pub begins_calendar : ContentLine → Bool
begins_calendar x = begins_by (delimiter_of x) x.value
