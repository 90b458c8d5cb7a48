-- The RRULE of a part of a time zone (R-5): FREQ=YEARLY, one BYMONTH and one BYDAY with an ordinal, and nothing else. What such a value is,
-- for the reader, and `read_zone_rule`, which the code computes; the two are tied in proofs/ZoneRuleLaws.
use Rattle.std.specs.Prelude.{ℕ, ◌+◌, ◌-◌, ◌≤◌, ◌≡◌, Bool, true, false, cond, List, [], ◌∷◌, ◌++◌, eqb, ltb, length, take, drop, get_or, None, Option, Some}
use Rattle.ascii.specs.Names.{same_name}
use Rattle.ascii.specs.Words.{ascii}
use Rattle.line.specs.Splitting.{plain_split}
use Rattle.values.specs.Rule.{number_to}
use Rattle.values.specs.RuleGrammar.{NumberIs}
use Rattle.zone_values.specs.declared.zone_rule.ZoneRule.{ZoneRule}
use Rattle.zone_values.specs.declared.zone_rule.ZoneDay.{ZoneDay}
use Rattle.zone_values.specs.declared.zone_rule.ZonePart.{ZonePart}

-- ---- for the reader

-- a list is these three, in any order
pub data AnyOrder {A : Type 0} (a b c : A) : List A → Type 0 where
  abc : AnyOrder a b c (a ∷ b ∷ c ∷ [])
  acb : AnyOrder a b c (a ∷ c ∷ b ∷ [])
  bac : AnyOrder a b c (b ∷ a ∷ c ∷ [])
  bca : AnyOrder a b c (b ∷ c ∷ a ∷ [])
  cab : AnyOrder a b c (c ∷ a ∷ b ∷ [])
  cba : AnyOrder a b c (c ∷ b ∷ a ∷ [])

-- t is the name, without regard to ASCII case, and behind it v
pub record Says (name t v : List ℕ) : Type 0 where
  pub written : List ℕ
  pub same : same_name written name ≡ true
  pub text : t ≡ written ++ v

-- one or two digits, which make a number from 1 to the given one
pub record ShortNumber (most : ℕ) (v : List ℕ) (n : ℕ) : Type 0 where
  pub few : length v ≤ 2
  pub number : NumberIs most v n

-- a number from 1 to 5, perhaps with a plus (43), or with a minus (45): then days are counted from the month's end
pub data OrdinalIs : List ℕ → Bool → ℕ → Type 0 where
  plain : {v : List ℕ} {n : ℕ} → ShortNumber 5 v n → OrdinalIs v false n
  plus : {v : List ℕ} {n : ℕ} → ShortNumber 5 v n → OrdinalIs (43 ∷ v) false n
  minus : {v : List ℕ} {n : ℕ} → ShortNumber 5 v n → OrdinalIs (45 ∷ v) true n

pub data WeekdayIs (w : List ℕ) : ℕ → Type 0 where
  sunday : same_name w (ascii "SU") ≡ true → WeekdayIs w 0
  monday : same_name w (ascii "MO") ≡ true → WeekdayIs w 1
  tuesday : same_name w (ascii "TU") ≡ true → WeekdayIs w 2
  wednesday : same_name w (ascii "WE") ≡ true → WeekdayIs w 3
  thursday : same_name w (ascii "TH") ≡ true → WeekdayIs w 4
  friday : same_name w (ascii "FR") ≡ true → WeekdayIs w 5
  saturday : same_name w (ascii "SA") ≡ true → WeekdayIs w 6

-- the part BYMONTH=, with a number from 1 to 12
pub record MonthPart (t : List ℕ) (month : ℕ) : Type 0 where
  pub value : List ℕ
  pub says : Says (ascii "BYMONTH=") t value
  pub month_is : ShortNumber 12 value month

-- an ordinal and a weekday
pub record DayText (v : List ℕ) (d : ZoneDay) : Type 0 where
  pub ordinal : List ℕ
  pub weekday : List ℕ
  pub text : v ≡ ordinal ++ weekday
  pub ordinal_is : OrdinalIs ordinal d.back (d.others + 1)
  pub weekday_is : WeekdayIs weekday d.weekday

-- the part BYDAY=, with such a text
pub record DayPart (t : List ℕ) (d : ZoneDay) : Type 0 where
  pub value : List ℕ
  pub says : Says (ascii "BYDAY=") t value
  pub day_is : DayText value d

-- v says the rule r: cut at each semicolon (59) it is these three parts, in any order
pub record YearlyRule (v : List ℕ) (r : ZoneRule) : Type 0 where
  pub frequency_part_holds : List ℕ
  pub month_part_holds : List ℕ
  pub day_part_holds : List ℕ
  pub cut : AnyOrder frequency_part_holds month_part_holds day_part_holds (plain_split 59 v)
  pub frequency : same_name frequency_part_holds (ascii "FREQ=YEARLY") ≡ true
  pub month : MonthPart month_part_holds r.month
  pub day : DayPart day_part_holds r.day

-- ---- as it is computed

unfoldable pub short_number : ℕ → List ℕ → Option ℕ
short_number most l = cond (ltb 2 (length l)) None (number_to most l)

unfoldable pub later_weekday : List ℕ → Option ℕ
later_weekday w =
    cond (same_name w (ascii "WE")) (Some 3)
    (cond (same_name w (ascii "TH")) (Some 4) (cond (same_name w (ascii "FR")) (Some 5) (cond (same_name w (ascii "SA")) (Some 6) None)))

unfoldable pub weekday_of : List ℕ → Option ℕ
weekday_of w =
    cond (same_name w (ascii "SU")) (Some 0)
    (cond (same_name w (ascii "MO")) (Some 1) (cond (same_name w (ascii "TU")) (Some 2) (later_weekday w)))

unfoldable pub day_by : Bool → Option ℕ → Option ℕ → Option ZoneDay
day_by back None w = None
day_by back (Some n) None = None
day_by back (Some n) (Some w) = Some (record { others = n - 1; back = back; weekday = w })

-- behind the sign: the last two bytes are the weekday
unfoldable pub day_after : Bool → List ℕ → Option ZoneDay
day_after back t = day_by back (short_number 5 (take (length t - 2) t)) (weekday_of (drop (length t - 2) t))

unfoldable pub day_part : List ℕ → Option ZoneDay
day_part t =
    cond (eqb (get_or t 0 0) 45) (day_after true (drop 1 t)) (cond (eqb (get_or t 0 0) 43) (day_after false (drop 1 t)) (day_after false t))

abbrev pub month_by : Option ℕ → Option ZonePart
month_by (Some m) = Some (ZonePart.Month m)
month_by None = None

abbrev pub part_by : Option ZoneDay → Option ZonePart
part_by (Some d) = Some (ZonePart.Day d)
part_by None = None

-- does t begin with the name, ASCII case disregarded?
unfoldable pub begins : List ℕ → List ℕ → Bool
begins name t = same_name (take (length name) t) name

unfoldable pub zone_part : List ℕ → Option ZonePart
zone_part t =
    cond (same_name t (ascii "FREQ=YEARLY")) (Some ZonePart.Yearly)
    (cond (begins (ascii "BYMONTH=") t) (month_by (short_number 12 (drop 8 t)))
    (cond (begins (ascii "BYDAY=") t) (part_by (day_part (drop 6 t))) None))

unfoldable pub is_yearly : ZonePart → Bool
is_yearly ZonePart.Yearly = true
is_yearly (ZonePart.Month m) = false
is_yearly (ZonePart.Day d) = false

unfoldable pub with_day : ℕ → ZonePart → Option ZoneRule
with_day m ZonePart.Yearly = None
with_day m (ZonePart.Month n) = None
with_day m (ZonePart.Day d) = Some (record { month = m; day = d })

unfoldable pub with_month : ZoneDay → ZonePart → Option ZoneRule
with_month d ZonePart.Yearly = None
with_month d (ZonePart.Month m) = with_day m (ZonePart.Day d)
with_month d (ZonePart.Day e) = None

-- a month and a day, in either order
unfoldable pub dated : ZonePart → ZonePart → Option ZoneRule
dated ZonePart.Yearly y = None
dated (ZonePart.Month m) y = with_day m y
dated (ZonePart.Day d) y = with_month d y

-- once FREQ=YEARLY is found, the other two are a month and a day
unfoldable pub in_any_order : ZonePart → ZonePart → ZonePart → Option ZoneRule
in_any_order x y z =
    cond (is_yearly x) (dated y z) (cond (is_yearly y) (dated x z) (cond (is_yearly z) (dated x y) None))

-- the part at a place; past the end it is empty, and so none that is read
abbrev pub part_at : List ℕ → ℕ → Option ZonePart
part_at v i = zone_part (get_or (plain_split 59 v) i [])

-- all three are read
abbrev pub all_three : Option ZonePart → Option ZonePart → Option ZonePart → Option ZoneRule
all_three (Some x) (Some y) (Some z) = in_any_order x y z
all_three (Some x) (Some y) None = None
all_three (Some x) None z = None
all_three None y z = None

unfoldable pub read_zone_rule : List ℕ → Option ZoneRule
read_zone_rule v =
    cond (eqb (length (plain_split 59 v)) 3) (all_three (part_at v 0) (part_at v 1) (part_at v 2)) None

-- how large what a rule says can be
pub record ZoneRuleSmall (r : ZoneRule) : Type 0 where
  pub some_month : 1 ≤ r.month
  pub few_months : r.month ≤ 12
  pub few_others : r.day.others ≤ 4
  pub few_weekdays : r.day.weekday ≤ 6
