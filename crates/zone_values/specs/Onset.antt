-- The onset of a part of a time zone (R-5): its DTSTART, a floating DATE-TIME of any year. What it must be, for the reader, and `onset_of`,
-- which the code computes; the two are tied in proofs/OnsetLaws.
use Rattle.std.specs.Prelude.{ℕ, ◌≡◌, false, cond, List, None, Option, Some}
use Rattle.ascii.specs.Words.{ascii}
use Rattle.time.specs.DateTime.{read_date_time}
use Rattle.time.specs.declared.date_time.DateTime.{DateTime}
use Rattle.time.specs.declared.date_time.Kind.{Kind}
use Rattle.line.specs.Grammar.{ContentLine}
use Rattle.line.specs.Reading.{has_parameter}
use Rattle.values.specs.Times.{form_of}
use Rattle.values.specs.declared.times.Form.{Form}

-- the line gives this clock, in seconds since 00000101T000000: it has no TZID, its VALUE asks for a DATE-TIME, and its value is a floating one
pub record Onset (x : ContentLine) (clock : ℕ) : Type 0 where
  pub no_zone : has_parameter (ascii "TZID") x ≡ false
  pub form : form_of x ≡ Form.DateTime
  pub floating : read_date_time x.value ≡ Some (record { kind = Kind.Floating; clock = clock })

abbrev pub if_floating : Kind → ℕ → Option ℕ
if_floating Kind.Utc clock = None
if_floating Kind.Floating clock = Some clock
if_floating Kind.Date clock = None

unfoldable pub floating_only : Option DateTime → Option ℕ
floating_only (Some d) = if_floating d.kind d.clock
floating_only None = None

unfoldable pub onset_by : Form → List ℕ → Option ℕ
onset_by Form.DateTime v = floating_only (read_date_time v)
onset_by Form.Date v = None
onset_by Form.Wrong v = None

unfoldable pub onset_of : ContentLine → Option ℕ
onset_of x = cond (has_parameter (ascii "TZID") x) None (onset_by (form_of x) x.value)
