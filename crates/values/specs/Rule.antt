-- The value of RRULE (document 01, Values): parts cut at each semicolon, FREQ, INTERVAL, COUNT and UNTIL.
use Rattle.std.specs.Prelude.{ℕ, ◌≤◌, max, true, false, cond, ◌&&◌, ◌||◌, List, [], ◌∷◌, map, eqb, ltb, length, Err, None, Ok, Option, Result, Some}
use Rattle.std.specs.Option.{is_some, unwrap_or}
use Rattle.values.specs.declared.rule.ValueError.{ValueError}
use Rattle.values.specs.declared.times.Time.{Time}
use Rattle.values.specs.declared.rule.Part.{Part}
use Rattle.ascii.specs.Bytes.{between, is_digit}
use Rattle.ascii.specs.Names.{same_name, is_name, every}
use Rattle.ascii.specs.Words.{ascii}
use Rattle.time.specs.Grammar.{decimal}
use Rattle.line.specs.Splitting.{first_outside, before, after, plain_split}
use Rattle.time.specs.Limits.{last_second}
use Rattle.values.specs.Times.{read_time}
use Rattle.values.specs.declared.times.Context.{Context}
use Rattle.values.specs.declared.times.Form.{Form}
use Rattle.values.specs.declared.rule.Limit.{Limit}
use Rattle.values.specs.declared.rule.Rule.{Rule}
use Rattle.values.specs.declared.rule.Parts.{Parts}

-- a number of one to four digits, from 1 to the given one
unfoldable pub number_to : ℕ → List ℕ → Option ℕ
number_to most l =
    cond (between 1 4 (length l) && every is_digit l && between 1 most (decimal 0 l)) (Some (decimal 0 l)) None

-- FREQ: DAILY or WEEKLY, any other is unsupported
unfoldable pub frequency_part : List ℕ → Result Part ValueError
frequency_part v =
    cond (same_name v (ascii "DAILY")) (Ok (Part.Frequency 1)) (cond (same_name v (ascii "WEEKLY")) (Ok (Part.Frequency 7)) (Err ValueError.Unsupported))

-- INTERVAL: 1 to 999
unfoldable pub interval_by : Option ℕ → Result Part ValueError
interval_by (Some n) = Ok (Part.Interval n)
interval_by None = Err ValueError.Bad

-- COUNT: 1 to 9,999
unfoldable pub count_by : Option ℕ → Result Part ValueError
count_by (Some n) = Ok (Part.Limit (Limit.Count n))
count_by None = Err ValueError.Bad

-- UNTIL: DATE or DATE-TIME by its form, which eight bytes tell
unfoldable pub until_by : Option Time → Result Part ValueError
until_by (Some t) = Ok (Part.Limit (Limit.Until t))
until_by None = Err ValueError.Bad

unfoldable pub until_part : Context → List ℕ → Result Part ValueError
until_part c v = until_by (read_time c (cond (eqb (length v) 8) Form.Date Form.DateTime) v)

-- a part by its name; any other name is unsupported
unfoldable pub named_part : Context → List ℕ → List ℕ → Result Part ValueError
named_part c n v =
    cond (same_name n (ascii "FREQ")) (frequency_part v)
    (cond (same_name n (ascii "INTERVAL")) (interval_by (number_to 999 v))
    (cond (same_name n (ascii "COUNT")) (count_by (number_to 9999 v)) (cond (same_name n (ascii "UNTIL")) (until_part c v) (Err ValueError.Unsupported))))

-- a part: a name as a line has it, =, and a value; the first = ends the name
unfoldable pub part_of : Context → List ℕ → Result Part ValueError
part_of c t =
    cond (ltb (first_outside false 61 false t) (length t) && is_name (before false 61 t))
    (named_part c (before false 61 t) (after false 61 t))
    (Err ValueError.Bad)

-- no part read
unfoldable pub no_parts : Parts
no_parts = record { unsupported = false; bad = false; days = 0; interval = 0; limit = None }

-- one part more: no name twice, and at most one of COUNT and UNTIL
unfoldable pub with_part : Parts → Result Part ValueError → Parts
with_part p (Ok (Part.Frequency d)) =
    record { unsupported = p.unsupported; bad = p.bad || ltb 0 p.days; days = d; interval = p.interval; limit = p.limit }
with_part p (Ok (Part.Interval n)) =
    record { unsupported = p.unsupported; bad = p.bad || ltb 0 p.interval; days = p.days; interval = n; limit = p.limit }
with_part p (Ok (Part.Limit l)) =
    record { unsupported = p.unsupported; bad = p.bad || is_some p.limit; days = p.days; interval = p.interval; limit = Some l }
with_part p (Err ValueError.Unsupported) =
    record { unsupported = true; bad = p.bad; days = p.days; interval = p.interval; limit = p.limit }
with_part p (Err ValueError.Bad) =
    record { unsupported = p.unsupported; bad = true; days = p.days; interval = p.interval; limit = p.limit }

unfoldable pub with_parts : Parts → List (Result Part ValueError) → Parts
with_parts p [] = p
with_parts p (x ∷ xs) = with_parts (with_part p x) xs

-- 8 goes before 9; FREQ is needed; INTERVAL is 1 where it is not given
unfoldable pub rule_by : Parts → Result Rule ValueError
rule_by p =
    cond p.unsupported (Err ValueError.Unsupported)
    (cond (p.bad || eqb p.days 0) (Err ValueError.Bad)
    (Ok (record { days = p.days; interval = max 1 p.interval; limit = unwrap_or p.limit Limit.Forever })))

-- the parts stand between semicolons
unfoldable pub rule_of : Context → List ℕ → Result Rule ValueError
rule_of c v = rule_by (with_parts no_parts (map (part_of c) (plain_split 59 v)))

-- how large what a rule says can be
abbrev pub LimitSmall : Limit → Type 0
LimitSmall Limit.Forever = Unit {0}
LimitSmall (Limit.Count n) = (1 ≤ n) × (n ≤ 9999)
LimitSmall (Limit.Until t) = t.second ≤ last_second

pub record RuleSmall (r : Rule) : Type 0 where
  pub some_days : 1 ≤ r.days
  pub few_days : r.days ≤ 7
  pub some_interval : 1 ≤ r.interval
  pub few_interval : r.interval ≤ 999
  pub limit_small : LimitSmall r.limit
