-- DATE and DATE-TIME values of a line (document 01, Values): by VALUE, by the offset, within the limits.
use Rattle.std.specs.Prelude.{ℕ, ◌≤◌, cond, ◌||◌, List, None, Option, Some}
use Rattle.ascii.specs.Names.{same_name}
use Rattle.ascii.specs.Words.{ascii}
use Rattle.line.specs.Grammar.{ContentLine}
use Rattle.line.specs.Reading.{has_parameter, has_twice, has_list, first_value}
use Rattle.time.specs.DateTime.{read_date_time, read_date}
use Rattle.time.specs.Limits.{utc_second}
use Rattle.time.specs.declared.date_time.DateTime.{DateTime}
use Rattle.time.specs.declared.date_time.Kind.{Kind}
use Rattle.values.specs.declared.times.Context.{Context}
use Rattle.values.specs.declared.times.Time.{Time}
use Rattle.values.specs.declared.times.Form.{Form}

-- a context that a call can hand on: a permitted offset, whose shift is from 0 to 100,800
abbrev pub ContextGood : Context → Type 0
ContextGood c = c.shift ≤ 100800

-- the second of a wall clock: by the offset, and of a UTC value without it
unfoldable pub utc_of : Context → Kind → ℕ → Option ℕ
utc_of c k clock = utc_second k clock c.shift

-- a clock whose second is within the limits is the time; any other is bad
unfoldable pub at_second : Kind → ℕ → Option ℕ → Option Time
at_second k clock (Some t) = Some (record { kind = k; clock = clock; second = t })
at_second k clock None = None

-- a second outside the limits is bad
unfoldable pub time_by : Context → Option DateTime → Option Time
time_by c (Some d) = at_second d.kind d.clock (utc_of c d.kind d.clock)
time_by c None = None

-- a value of the form that is asked for
unfoldable pub read_time : Context → Form → List ℕ → Option Time
read_time c Form.DateTime l = time_by c (read_date_time l)
read_time c Form.Date l = time_by c (read_date l)
read_time c Form.Wrong l = None

-- the words of VALUE, without regard to case; any other is bad
unfoldable pub form_named : List ℕ → Form
form_named w = cond (same_name w (ascii "DATE")) Form.Date (cond (same_name w (ascii "DATE-TIME")) Form.DateTime Form.Wrong)

-- VALUE of a line: without it DATE-TIME; twice or as a list is bad
unfoldable pub form_of : ContentLine → Form
form_of x =
    cond (has_twice (ascii "VALUE") x || has_list (ascii "VALUE") x) Form.Wrong
    (cond (has_parameter (ascii "VALUE") x) (form_named (first_value (ascii "VALUE") x)) Form.DateTime)

-- the time that a line gives
unfoldable pub time_of : Context → ContentLine → Option Time
time_of c x = read_time c (form_of x) x.value

-- in VFREEBUSY a time is UTC, else bad
abbrev pub if_utc : Kind → Time → Option Time
if_utc Kind.Utc t = Some t
if_utc Kind.Floating t = None
if_utc Kind.Date t = None

unfoldable pub utc_only : Option Time → Option Time
utc_only (Some t) = if_utc t.kind t
utc_only None = None
