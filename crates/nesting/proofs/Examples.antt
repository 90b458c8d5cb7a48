-- Examples at the edges of the nesting rules: one table, one statement.
use Prim.Native.Nat.{ℕ, zero, suc}
use Prim.Native.String.{String}
use mathlib.Core.Path.{◌≡◌, refl, ap}
use mathlib.Core.Bool.{Bool, true, false, ◌&&◌}
use mathlib.Core.List.{List, [], ◌∷◌, ◌++◌}
use lib.Dec.{eqb}
use borrow.Author.Tests.{eqb-true}
use Rattle.ascii.specs.Bytes.{upper, is_name_byte, is_letter, is_digit}
use Rattle.ascii.specs.Names.{same_name, is_name}
use Rattle.ascii.specs.Words.{ascii}
use Rattle.ascii.proofs.Bools.{and_left, and_right, clash}
use Rattle.line.specs.Grammar.{ContentLine}
use Rattle.line.specs.Splitting.{first_outside, before, after, split_parts}
use Rattle.line.specs.Reading.{line_of, name_of, head_of, value_of, parameter_texts}
use Rattle.line.specs.WellFormed.{LineCheck, all_good, bad_line}
use Rattle.delimiters.specs.Delimiters.{delimiter_of}
use Rattle.delimiters.specs.Innermost.{is_calendar, is_event, is_free_busy, may_begin}
use Rattle.nesting.specs.Nesting.{after_begin, after_end, after_property, after_wrong, walk, outcome, nesting_of}

-- lines as they are written, and what is expected of them
pub record Example : Type 0 where
  pub texts : List String
  pub expected : LineCheck

abbrev pub lines_of : List String → List ContentLine
lines_of [] = []
lines_of (l ∷ ls) = line_of (ascii l) ∷ lines_of ls

abbrev pub AllHold : List Example → Type 0
AllHold [] = Unit {0}
AllHold (x ∷ xs) = (nesting_of (lines_of x.texts) ≡ x.expected) × AllHold xs

abbrev same : LineCheck → LineCheck → Bool
same all_good all_good = true
same all_good (bad_line j) = false
same (bad_line i) all_good = false
same (bad_line i) (bad_line j) = eqb i j

same_eq : (a b : LineCheck) → same a b ≡ true → a ≡ b
same_eq all_good all_good e = refl
same_eq all_good (bad_line j) e = clash e refl
same_eq (bad_line i) all_good e = clash e refl
same_eq (bad_line i) (bad_line j) e = ap bad_line (eqb-true i j e)

abbrev test : List Example → Bool
test [] = true
test (x ∷ xs) = same (nesting_of (lines_of x.texts)) x.expected && test xs

sound : (xs : List Example) → test xs ≡ true → AllHold xs
sound [] e = tt
sound (x ∷ xs) e = (
  same_eq (nesting_of (lines_of x.texts)) x.expected (and_left (same (nesting_of (lines_of x.texts)) x.expected) (test xs) e),
  sound xs (and_right (same (nesting_of (lines_of x.texts)) x.expected) (test xs) e),
)

abbrev pub example : List String → LineCheck → Example
example ls r = record { texts = ls; expected = r }

-- the same lines, so many times
abbrev pub times : ℕ → List String → List String
times zero ls = []
times (suc n) ls = ls ++ times n ls

-- inside VCALENDAR, a component in a component, so many
abbrev pub deep : ℕ → List String
deep n = ("BEGIN:VCALENDAR" ∷ times n ("BEGIN:A" ∷ [])) ++ (times n ("END:A" ∷ []) ++ ("END:VCALENDAR" ∷ []))

-- inside VCALENDAR, components side by side, so many
abbrev pub wide : ℕ → List String
wide n = "BEGIN:VCALENDAR" ∷ (times n ("BEGIN:A" ∷ "END:A" ∷ []) ++ ("END:VCALENDAR" ∷ []))

abbrev pub table : List Example
table =
    example ("BEGIN:VCALENDAR" ∷ "END:vcalendar" ∷ []) all_good
    ∷ example ("BEGIN:VCALENDAR" ∷ "BEGIN:VEVENT" ∷ "UID:1" ∷ "BEGIN:VALARM" ∷ "END:VALARM" ∷ "END:VEVENT" ∷ "END:VCALENDAR" ∷ []) all_good
    ∷ example ("BEGIN:VCALENDAR" ∷ "BEGIN:-" ∷ "END:-" ∷ "VCALENDAR:1" ∷ "END:VCALENDAR" ∷ []) all_good
    ∷ example (deep 7) all_good
    ∷ example (deep 8) (bad_line 9)
    ∷ example (wide 255) all_good
    ∷ example (wide 256) (bad_line 512)
    ∷ example [] (bad_line 1)
    ∷ example ("VERSION:2.0" ∷ "BEGIN:VCALENDAR" ∷ []) (bad_line 1)
    ∷ example ("BEGIN:VCALENDAR" ∷ "VERSION:2.0" ∷ []) (bad_line 3)
    ∷ example ("BEGIN:VCALENDAR" ∷ "BEGIN:VCALENDAR" ∷ []) (bad_line 2)
    ∷ example ("BEGIN:VCALENDAR" ∷ "END:VCALENDAR" ∷ "BEGIN:VCALENDAR" ∷ []) (bad_line 3)
    ∷ example ("BEGIN:VCALENDAR" ∷ "BEGIN:VTODO" ∷ "BEGIN:VEVENT" ∷ []) (bad_line 3)
    ∷ example ("BEGIN:VCALENDAR" ∷ "BEGIN:VTODO" ∷ "END:VCALENDAR" ∷ []) (bad_line 3)
    ∷ example ("BEGIN:VCALENDAR" ∷ "BEGIN;X=1:VTODO" ∷ []) (bad_line 2)
    ∷ example ("BEGIN:VCALENDAR" ∷ "BEGIN:A B" ∷ []) (bad_line 2)
    ∷ []

pub edges : AllHold table
unfolding nesting_of walk outcome delimiter_of line_of name_of head_of value_of parameter_texts first_outside before after split_parts same_name upper is_name is_name_byte is_letter is_digit is_calendar is_event is_free_busy may_begin after_begin after_end after_property after_wrong
edges = sound table refl
