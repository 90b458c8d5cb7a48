-- DURATION values (document 01, Values; RFC 5545, dur-value): a fold over the bytes that keeps what was read before.
use Rattle.std.specs.Prelude.{ℕ, ◌+◌, ◌-◌, ◌*◌, ◌^◌, ◌≤◌, ◌<◌, Bool, false, cond, ◌&&◌, ◌||◌, List, [], ◌∷◌, eqb, ltb, leb, None, Option, Some}
use Rattle.ascii.specs.Bytes.{is_digit, upper}
use Rattle.time.specs.declared.duration.Stage.{Stage}
use Rattle.time.specs.declared.duration.Stage.TheVariants.{Start, Sign, Period, Weeks, Days, Time, Hours, Minutes, Seconds, Wrong}
use Rattle.time.specs.declared.duration.Weight.{Weight}
use Rattle.time.specs.declared.duration.Reading.{Reading}
use Rattle.time.specs.declared.duration.Duration.{Duration}

-- this letter leads to this stage
abbrev pub on : ℕ → ℕ → Stage → Stage → Stage
on b letter to other = cond (eqb b letter) to other

-- a time begins with H, M or S
unfoldable pub time_start : ℕ → Stage
time_start b = on b 72 Hours (on b 77 Minutes (on b 83 Seconds Wrong))

-- the grammar: + and P; weeks (W) alone, or days (D) with an optional time, or a time (T);
-- in a time H before M before S, with no gap
unfoldable pub next_stage : Stage → ℕ → Stage
next_stage Start b = on b 43 Sign (on b 80 Period Wrong)
next_stage Sign b = on b 80 Period Wrong
next_stage Period b = on b 87 Weeks (on b 68 Days (on b 84 Time Wrong))
next_stage Weeks b = Wrong
next_stage Days b = on b 84 Time Wrong
next_stage Time b = time_start b
next_stage Hours b = on b 77 Minutes Wrong
next_stage Minutes b = on b 83 Seconds Wrong
next_stage Seconds b = Wrong
next_stage Wrong b = Wrong

-- what one of a unit is; weeks are seven days
unfoldable pub weight_of : Stage → Weight
weight_of Start = (0, 0)
weight_of Sign = (0, 0)
weight_of Period = (0, 0)
weight_of Weeks = (7, 0)
weight_of Days = (1, 0)
weight_of Time = (0, 0)
weight_of Hours = (0, 3600)
weight_of Minutes = (0, 60)
weight_of Seconds = (0, 1)
weight_of Wrong = (0, 0)

-- nothing read but the stage
unfoldable pub blank : Stage → Reading
blank s = record { stage = s; digits = 0; number = 0; days = 0; seconds = 0; timed = false }

-- one digit more; a number has at most six
unfoldable pub with_digit : Reading → ℕ → Reading
with_digit r b =
    cond (ltb r.digits 6)
    (record { stage = r.stage; digits = r.digits + 1; number = r.number * 10 + (b - 48); days = r.days; seconds = r.seconds; timed = r.timed })
    (blank Wrong)

-- a unit stands after one digit or more, a mark (+, P, T) after none
unfoldable pub fitting : Weight → ℕ → Bool
fitting w digits = ltb 0 (w.0 + w.1) && ltb 0 digits || ltb (w.0 + w.1) 1 && ltb digits 1

-- a letter that leads to the stage next: the number read counts as often as the unit weighs
unfoldable pub unit_to : Reading → ℕ → Stage → Reading
unit_to r b next =
    cond (fitting (weight_of next) r.digits)
    (record {
      stage = next;
      digits = 0;
      number = 0;
      days = r.days + r.number * (weight_of next).0;
      seconds = r.seconds + r.number * (weight_of next).1;
      timed = r.timed || eqb b 84;
    })
    (blank Wrong)

-- a letter, by what was read before
unfoldable pub with_unit : Reading → ℕ → Reading
with_unit r b = unit_to r b (next_stage r.stage b)

-- a digit, or a letter in either case
unfoldable pub step : Reading → ℕ → Reading
step r b = cond (is_digit b) (with_digit r b) (with_unit r (upper b))

-- byte after byte
unfoldable pub runs : Reading → List ℕ → Reading
runs r [] = r
runs r (b ∷ l) = runs (step r b) l

-- whole where a unit stands last
unfoldable pub finish : Reading → Option Duration
finish r =
    cond (ltb 0 ((weight_of r.stage).0 + (weight_of r.stage).1) && ltb r.digits 1)
    (Some (record { days = r.days; seconds = r.seconds; timed = r.timed }))
    None

-- a text of the grammar (specs/Grammar), whatever it lasts
unfoldable pub duration_text : List ℕ → Option Duration
duration_text l = finish (runs (blank Start) l)

-- a day is 86,400 seconds
unfoldable pub duration_seconds : Duration → ℕ
duration_seconds d = d.days * 86400 + d.seconds

-- no more than 315,360,000 seconds in all
unfoldable pub within_limit : Duration → Bool
within_limit d = leb (duration_seconds d) 315360000

-- what is past the limit is bad
unfoldable pub limited : Option Duration → Option Duration
limited None = None
limited (Some d) = cond (within_limit d) (Some d) None

-- a DURATION
unfoldable pub read_duration : List ℕ → Option Duration
read_duration l = limited (duration_text l)

-- how far in the grammar a stage is: every letter leads on
unfoldable pub rank : Stage → ℕ
rank Start = 0
rank Sign = 1
rank Period = 2
rank Weeks = 3
rank Days = 3
rank Time = 4
rank Hours = 5
rank Minutes = 6
rank Seconds = 7
rank Wrong = 8

-- how large what was read can be: a number of at most six digits, and a product of one such for each letter
pub record EventSmall (r : Reading) : Type 0 where
  pub digits_small : r.digits ≤ 6
  pub number_small : r.number < 10 ^ r.digits
  pub days_small : r.days ≤ rank r.stage * 6999993
  pub seconds_small : r.seconds ≤ rank r.stage * 3599996400
