-- The rule of a part of a time zone is read exactly where its value is the three parts of the grammar, in any order.
use Rattle.std.specs.Prelude.{None, Option, Some}
use Prim.Native.Nat.{ℕ, zero, suc, ◌+◌, ◌-◌, ◌≤◌, ◌<◌}
use mathlib.Core.Path.{◌≡◌, refl, sym, ap, subst, ◌∙◌}
use mathlib.Core.Bool.{Bool, true, false, cond}
use mathlib.Core.List.{List, [], ◌∷◌, ◌++◌, map}
use mathlib.Core.Logic.{◌↔◌, ◌⊎◌, inl, inr, ⊎_elim}
use native.Mathlib.Omega.{arith}
use lib.Dec.{eqb, ltb}
use lib.ListN.{length, take, drop, get_or, length-map, length-take, length-append, take-append-drop}
use lib.Seq.{take-append_seam, drop-append_seam}
use borrow.Author.Tests.{ne_eqb, eqb-true, ltb-false, le-ltb}
use Rattle.ascii.specs.Bytes.{upper, is_digit}
use Rattle.ascii.specs.Names.{same_name, every}
use Rattle.ascii.specs.Words.{ascii}
use Rattle.ascii.proofs.Bools.{and_left, clash}
use Rattle.ascii.proofs.Names.{same_name_iff}
use Rattle.time.proofs.DateTime.{digit_range}
use Rattle.line.specs.Splitting.{plain_split}
use Rattle.values.specs.Rule.{number_to}
use Rattle.values.proofs.RuleGrammar.{number_iff}
use Rattle.zone_values.proofs.OffsetLaws.{bad_number}
use Rattle.zone_values.specs.declared.zone_rule.ZoneRule.{ZoneRule}
use Rattle.zone_values.specs.declared.zone_rule.ZoneDay.{ZoneDay}
use Rattle.zone_values.specs.declared.zone_rule.ZonePart.{ZonePart}
use Rattle.zone_values.specs.ZoneRule.{AnyOrder, abc, acb, bac, bca, cab, cba, Says, ShortNumber, OrdinalIs, plain, plus, minus, MonthPart, DayText, DayPart, YearlyRule}
use Rattle.zone_values.specs.ZoneRule.{WeekdayIs, sunday, monday, tuesday, wednesday, thursday, friday, saturday}
use Rattle.zone_values.specs.ZoneRule.{short_number, later_weekday, weekday_of, day_by, day_after, day_part, month_by, part_by, begins, zone_part}
use Rattle.zone_values.specs.ZoneRule.{is_yearly, with_day, with_month, dated, in_any_order, all_three, part_at, read_zone_rule}

-- ---- numbers of one or two digits

short_is : (most : ℕ) (l : List ℕ) (n : ℕ) → short_number most l ≡ Some n → ShortNumber most l n
unfolding short_number
short_is most l n e = go (ltb 2 (length l)) refl e
  where
    go : (t : Bool) → ltb 2 (length l) ≡ t → cond t None (number_to most l) ≡ Some n → ShortNumber most l n
    go true p k = bad_number k
    go false p k = record { few = ltb-false 2 (length l) p; number = (number_iff most l n).0 k }

is_short : (most : ℕ) (l : List ℕ) (n : ℕ) → ShortNumber most l n → short_number most l ≡ Some n
unfolding short_number
is_short most l n r = rw (le-ltb 2 (length l) r.few) ((number_iff most l n).1 r.number)

pub short_some : (most : ℕ) (l : List ℕ) (n : ℕ) → short_number most l ≡ Some n → 1 ≤ n
short_some most l n e = (short_is most l n e).number.least

-- ---- weekdays

weekday_at : (w : List ℕ) (n k : ℕ) → WeekdayIs w n → Some n ≡ Some k → WeekdayIs w k
weekday_at w n k h e = let z : n ≡ k = cc in subst (WeekdayIs w) z h

weekday_is : (w : List ℕ) (k : ℕ) → weekday_of w ≡ Some k → WeekdayIs w k
unfolding weekday_of later_weekday
weekday_is w k e =
    go (same_name w (ascii "SU")) (same_name w (ascii "MO")) (same_name w (ascii "TU")) (same_name w (ascii "WE")) (same_name w (ascii "TH")) (same_name w (ascii "FR"))
    (same_name w (ascii "SA")) refl refl refl refl refl refl refl e
  where
    go : (a b c d f g h : Bool) → same_name w (ascii "SU") ≡ a → same_name w (ascii "MO") ≡ b → same_name w (ascii "TU") ≡ c → same_name w (ascii "WE") ≡ d
        → same_name w (ascii "TH") ≡ f → same_name w (ascii "FR") ≡ g → same_name w (ascii "SA") ≡ h
        → cond a (Some 0) (cond b (Some 1) (cond c (Some 2)
        (cond d (Some 3) (cond f (Some 4) (cond g (Some 5) (cond h (Some 6) None)))))) ≡ Some k
        → WeekdayIs w k
    go true b c d f g h p0 p1 p2 p3 p4 p5 p6 q = weekday_at w 0 k (sunday p0) q
    go false true c d f g h p0 p1 p2 p3 p4 p5 p6 q = weekday_at w 1 k (monday p1) q
    go false false true d f g h p0 p1 p2 p3 p4 p5 p6 q = weekday_at w 2 k (tuesday p2) q
    go false false false true f g h p0 p1 p2 p3 p4 p5 p6 q = weekday_at w 3 k (wednesday p3) q
    go false false false false true g h p0 p1 p2 p3 p4 p5 p6 q = weekday_at w 4 k (thursday p4) q
    go false false false false false true h p0 p1 p2 p3 p4 p5 p6 q = weekday_at w 5 k (friday p5) q
    go false false false false false false true p0 p1 p2 p3 p4 p5 p6 q = weekday_at w 6 k (saturday p6) q
    go false false false false false false false p0 p1 p2 p3 p4 p5 p6 q = bad_number q

-- a word is read by its letters alone
is_weekday : (w : List ℕ) (k : ℕ) → WeekdayIs w k → weekday_of w ≡ Some k
unfolding weekday_of later_weekday same_name upper
is_weekday w k (sunday p) = rw ((same_name_iff w (ascii "SU")).0 p)
is_weekday w k (monday p) = rw ((same_name_iff w (ascii "MO")).0 p)
is_weekday w k (tuesday p) = rw ((same_name_iff w (ascii "TU")).0 p)
is_weekday w k (wednesday p) = rw ((same_name_iff w (ascii "WE")).0 p)
is_weekday w k (thursday p) = rw ((same_name_iff w (ascii "TH")).0 p)
is_weekday w k (friday p) = rw ((same_name_iff w (ascii "FR")).0 p)
is_weekday w k (saturday p) = rw ((same_name_iff w (ascii "SA")).0 p)

same_length : (m w : List ℕ) → same_name m w ≡ true → length m ≡ length w
same_length m w h = sym (length-map m upper) ∙ ap length ((same_name_iff m w).0 h) ∙ length-map w upper

weekday_two : (w : List ℕ) (k : ℕ) → WeekdayIs w k → length w ≡ 2
weekday_two w k (sunday p) = same_length w (ascii "SU") p
weekday_two w k (monday p) = same_length w (ascii "MO") p
weekday_two w k (tuesday p) = same_length w (ascii "TU") p
weekday_two w k (wednesday p) = same_length w (ascii "WE") p
weekday_two w k (thursday p) = same_length w (ascii "TH") p
weekday_two w k (friday p) = same_length w (ascii "FR") p
weekday_two w k (saturday p) = same_length w (ascii "SA") p

-- ---- a name, and what stands behind it

module _ {name t v : List ℕ} (s : Says name t v) where
  name_length : length s.written ≡ length name
  name_length = same_length s.written name s.same

  says_begins : begins name t ≡ true
  unfolding begins
  says_begins = rw (s.text, sym name_length, take-append_seam s.written v) s.same

  says_rest : drop (length name) t ≡ v
  says_rest = rw (s.text, sym name_length) (drop-append_seam s.written v)

begins_says : (name t : List ℕ) → begins name t ≡ true → Says name t (drop (length name) t)
unfolding begins
begins_says name t p = record { written = take (length name) t; same = p; text = sym (take-append-drop (length name) t) }

pub begins_length : (name t : List ℕ) → begins name t ≡ true → length name ≤ length t
unfolding begins
begins_length name t p = omega (arith, same_length (take (length name) t) name p, length-take (length name) t)

-- a shorter text does not begin with it
pub begins_short : (name t : List ℕ) → length t < length name → begins name t ≡ false
begins_short name t h = go (begins name t) refl
  where
    go : (b : Bool) → begins name t ≡ b → b ≡ false
    go true p = absurd (omega (arith, begins_length name t p))
    go false p = refl

upper_append : (s t : List ℕ) → map upper (s ++ t) ≡ map upper s ++ map upper t
upper_append [] t = refl
upper_append (b ∷ s) t = ap (λ (l : List ℕ). upper b ∷ l) (upper_append s t)

upper_take : (n : ℕ) (s : List ℕ) → map upper (take n s) ≡ take n (map upper s)
upper_take zero s = refl
upper_take (suc n) [] = refl
upper_take (suc n) (b ∷ s) = ap (λ (l : List ℕ). upper b ∷ l) (upper_take n s)

upper_text : {name t v : List ℕ} → Says name t v → map upper t ≡ map upper name ++ map upper v
upper_text {name} {t} {v} s =
    ap (map upper) s.text ∙ upper_append s.written v ∙ ap (λ (l : List ℕ). l ++ map upper v) ((same_name_iff s.written name).0 s.same)

month_not_yearly : {t v : List ℕ} → Says (ascii "BYMONTH=") t v → same_name t (ascii "FREQ=YEARLY") ≡ false
unfolding same_name upper
month_not_yearly s = rw (upper_text s)

day_not_yearly : {t v : List ℕ} → Says (ascii "BYDAY=") t v → same_name t (ascii "FREQ=YEARLY") ≡ false
unfolding same_name upper
day_not_yearly s = rw (upper_text s)

day_not_month : {t v : List ℕ} → Says (ascii "BYDAY=") t v → begins (ascii "BYMONTH=") t ≡ false
unfolding begins same_name upper
day_not_month {t} s = rw (upper_take 8 t, upper_text s)

-- ---- BYDAY

-- behind the sign stand a number and a weekday
record After (back : Bool) (t : List ℕ) (d : ZoneDay) : Type 0 where
  digits : List ℕ
  letters : List ℕ
  text : t ≡ digits ++ letters
  number_is : ShortNumber 5 digits (d.others + 1)
  weekday_is : WeekdayIs letters d.weekday
  same_way : d.back ≡ back

after_is : (back : Bool) (t : List ℕ) (d : ZoneDay) → day_after back t ≡ Some d → After back t d
unfolding day_after day_by
after_is back t d e = go (short_number 5 (take (length t - 2) t)) (weekday_of (drop (length t - 2) t)) refl refl e
  where
    go : (n w : Option ℕ) → short_number 5 (take (length t - 2) t) ≡ n → weekday_of (drop (length t - 2) t) ≡ w → day_by back n w ≡ Some d → After back t d
    go None w p q k = bad_number k
    go (Some n) None p q k = bad_number k
    go (Some n) (Some w) p q k =
        let z : record { others = n - 1; back = back; weekday = w } ≡ d = cc in
        let some : 1 ≤ n = short_some 5 _ n p in
        let more : n ≡ (n - 1) + 1 = omega arith in
        subst (After back t) z (record {
          digits = take (length t - 2) t;
          letters = drop (length t - 2) t;
          text = sym (take-append-drop (length t - 2) t);
          number_is = subst (ShortNumber 5 (take (length t - 2) t)) more (short_is 5 _ n p);
          weekday_is = weekday_is _ w q;
          same_way = refl;
        })

is_after : (back : Bool) (s w : List ℕ) (n k : ℕ) → ShortNumber 5 s (n + 1) → WeekdayIs w k
    → day_after back (s ++ w) ≡ Some (record { others = n; back = back; weekday = k })
unfolding day_after day_by
is_after back s w n k h i =
    let z : length (s ++ w) - 2 ≡ length s = omega (arith, length-append s w, weekday_two w k i) in
    let less : n + 1 - 1 ≡ n = omega arith in
    rw (z, take-append_seam s w, drop-append_seam s w, is_short 5 s (n + 1) h, is_weekday w k i)
    (ap (λ (m : ℕ). Some (record { others = m; back = back; weekday = k })) less)

-- fewer than two bytes are no day, and none are none
pub after_short : (back : Bool) (t : List ℕ) → length t < 2 → None ≡ day_after back t
unfolding day_after day_by short_number number_to
after_short back t h = let z : length t - 2 ≡ 0 = omega arith in rw z

pub day_empty : (t : List ℕ) → length t < 1 → None ≡ day_part t
unfolding day_part
day_empty [] h = after_short false [] (omega arith)
day_empty (b ∷ t) h = absurd (omega arith)

day_is : (v : List ℕ) (d : ZoneDay) → day_part v ≡ Some d → DayText v d
unfolding day_part
day_is v d e = go v (eqb (get_or v 0 0) 45) (eqb (get_or v 0 0) 43) refl refl e
  where
    behind : (b : ℕ) (l : List ℕ) (back : Bool) → ((s : List ℕ) (n : ℕ) → ShortNumber 5 s n → OrdinalIs (b ∷ s) back n) → After back l d → DayText (b ∷ l) d
    behind b l back f a =
        record {
          ordinal = b ∷ a.digits;
          weekday = a.letters;
          text = ap (λ (x : List ℕ). b ∷ x) a.text;
          ordinal_is = rw a.same_way (f a.digits (d.others + 1) a.number_is);
          weekday_is = a.weekday_is;
        }

    bare : (l : List ℕ) → After false l d → DayText l d
    bare l a =
        record {
          ordinal = a.digits;
          weekday = a.letters;
          text = a.text;
          ordinal_is = rw a.same_way (plain a.number_is);
          weekday_is = a.weekday_is;
        }

    go : (l : List ℕ) (m p : Bool) → eqb (get_or l 0 0) 45 ≡ m → eqb (get_or l 0 0) 43 ≡ p
        → cond m (day_after true (drop 1 l)) (cond p (day_after false (drop 1 l)) (day_after false l)) ≡ Some d → DayText l d
    go [] true p x y k = absurd (omega (arith, eqb-true 0 45 x))
    go [] false true x y k = absurd (omega (arith, eqb-true 0 43 y))
    go [] false false x y k = bare [] (after_is false [] d k)
    go (b ∷ l) true p x y k = rw (eqb-true b 45 x) (behind 45 l true (λ s n. minus) (after_is true l d k))
    go (b ∷ l) false true x y k = rw (eqb-true b 43 y) (behind 43 l false (λ s n. plus) (after_is false l d k))
    go (b ∷ l) false false x y k = bare (b ∷ l) (after_is false (b ∷ l) d k)

-- digits have no sign in front
unsigned : (s w : List ℕ) (n : ℕ) → ShortNumber 5 s n → day_part (s ++ w) ≡ day_after false (s ++ w)
unfolding day_part
unsigned [] w n h = absurd (omega (arith, h.number.some_digits))
unsigned (b ∷ s) w n h =
    let d : (48 ≤ b) × (b ≤ 57) = digit_range b (and_left (is_digit b) (every is_digit s) h.number.digits) in
    rw (ne_eqb b 45 (λ z. omega arith), ne_eqb b 43 (λ z. omega arith))

plus_sign : (t : List ℕ) → day_part (43 ∷ t) ≡ day_after false t
unfolding day_part
plus_sign t = refl

minus_sign : (t : List ℕ) → day_part (45 ∷ t) ≡ day_after true t
unfolding day_part
minus_sign t = refl

is_day_lem : (s w : List ℕ) (back : Bool) (m n k : ℕ) → OrdinalIs s back m → m ≡ n + 1 → WeekdayIs w k
    → day_part (s ++ w) ≡ Some (record { others = n; back = back; weekday = k })
is_day_lem s w back m n k (plain h) e i = unsigned s w m h ∙ is_after false s w n k (subst (ShortNumber 5 s) e h) i
is_day_lem s w back m n k (plus {v = v} h) e i = plus_sign (v ++ w) ∙ is_after false v w n k (subst (ShortNumber 5 v) e h) i
is_day_lem s w back m n k (minus {v = v} h) e i = minus_sign (v ++ w) ∙ is_after true v w n k (subst (ShortNumber 5 v) e h) i

-- ---- one part

data PartIs (t : List ℕ) : Option ZonePart → Type 0 where
  yearly : same_name t (ascii "FREQ=YEARLY") ≡ true → PartIs t (Some ZonePart.Yearly)
  month : {m : ℕ} → MonthPart t m → PartIs t (Some (ZonePart.Month m))
  day : {d : ZoneDay} → DayPart t d → PartIs t (Some (ZonePart.Day d))
  other : PartIs t None

month_by_lem : (t : List ℕ) → Says (ascii "BYMONTH=") t (drop 8 t) → (n : Option ℕ) → short_number 12 (drop 8 t) ≡ n → PartIs t (month_by n)
month_by_lem t s (Some m) e = month (record { value = drop 8 t; says = s; month_is = short_is 12 (drop 8 t) m e })
month_by_lem t s None e = other

day_by_lem : (t : List ℕ) → Says (ascii "BYDAY=") t (drop 6 t) → (d : Option ZoneDay) → day_part (drop 6 t) ≡ d → PartIs t (part_by d)
day_by_lem t s (Some d) e = day (record { value = drop 6 t; says = s; day_is = day_is (drop 6 t) d e })
day_by_lem t s None e = other

part_is : (t : List ℕ) → PartIs t (zone_part t)
unfolding zone_part
part_is t = go (same_name t (ascii "FREQ=YEARLY")) (begins (ascii "BYMONTH=") t) (begins (ascii "BYDAY=") t) refl refl refl
  where
    go : (a b c : Bool) → same_name t (ascii "FREQ=YEARLY") ≡ a → begins (ascii "BYMONTH=") t ≡ b → begins (ascii "BYDAY=") t ≡ c
        → PartIs t (cond a (Some ZonePart.Yearly) (cond b (month_by (short_number 12 (drop 8 t))) (cond c (part_by (day_part (drop 6 t))) None)))
    go true b c p q r = yearly p
    go false true c p q r = month_by_lem t (begins_says (ascii "BYMONTH=") t q) (short_number 12 (drop 8 t)) refl
    go false false true p q r = day_by_lem t (begins_says (ascii "BYDAY=") t r) (day_part (drop 6 t)) refl
    go false false false p q r = other

yearly_part : {t : List ℕ} → PartIs t (Some ZonePart.Yearly) → same_name t (ascii "FREQ=YEARLY") ≡ true
yearly_part (yearly p) = p

month_part_holds : {t : List ℕ} {m : ℕ} → PartIs t (Some (ZonePart.Month m)) → MonthPart t m
month_part_holds (month p) = p

day_part_is : {t : List ℕ} {d : ZoneDay} → PartIs t (Some (ZonePart.Day d)) → DayPart t d
day_part_is (day p) = p

reads_yearly : (t : List ℕ) → same_name t (ascii "FREQ=YEARLY") ≡ true → zone_part t ≡ Some ZonePart.Yearly
unfolding zone_part
reads_yearly t p = rw p

reads_month : (t : List ℕ) (m : ℕ) → MonthPart t m → zone_part t ≡ Some (ZonePart.Month m)
unfolding zone_part
reads_month t m h =
    rw (month_not_yearly h.says, says_begins h.says, says_rest h.says, is_short 12 h.value m h.month_is)

reads_day : (t : List ℕ) (d : ZoneDay) → DayPart t d → zone_part t ≡ Some (ZonePart.Day d)
unfolding zone_part
reads_day t d h =
    let x = h.day_is in
    rw (day_not_yearly h.says, day_not_month h.says, says_begins h.says, says_rest h.says, x.text)
    (ap part_by (is_day_lem x.ordinal x.weekday d.back (d.others + 1) d.others d.weekday x.ordinal_is refl x.weekday_is))

-- ---- three parts

is_yearly_lem : (x : ZonePart) → is_yearly x ≡ true → x ≡ ZonePart.Yearly
unfolding is_yearly
is_yearly_lem ZonePart.Yearly e = refl
is_yearly_lem (ZonePart.Month m) e = clash e refl
is_yearly_lem (ZonePart.Day d) e = clash e refl

-- a month and a day that make the rule
record Dated (x y : ZonePart) (r : ZoneRule) : Type 0 where
  month_is : x ≡ ZonePart.Month r.month
  day_is : y ≡ ZonePart.Day r.day

with_day_is : (m : ℕ) (y : ZonePart) (r : ZoneRule) → with_day m y ≡ Some r → Dated (ZonePart.Month m) y r
unfolding with_day
with_day_is m ZonePart.Yearly r e = bad_number e
with_day_is m (ZonePart.Month n) r e = bad_number e
with_day_is m (ZonePart.Day d) r e =
    let z : record { month = m; day = d } ≡ r = cc in
    subst (Dated (ZonePart.Month m) (ZonePart.Day d)) z (record { month_is = refl; day_is = refl })

dated_is : (x y : ZonePart) (r : ZoneRule) → dated x y ≡ Some r → Dated x y r ⊎ Dated y x r
unfolding dated with_month
dated_is ZonePart.Yearly y r e = bad_number e
dated_is (ZonePart.Month m) y r e = inl (with_day_is m y r e)
dated_is (ZonePart.Day d) ZonePart.Yearly r e = bad_number e
dated_is (ZonePart.Day d) (ZonePart.Month m) r e = inr (with_day_is m (ZonePart.Day d) r e)
dated_is (ZonePart.Day d) (ZonePart.Day c) r e = bad_number e

-- three texts, of which f is FREQ=YEARLY, m the month and d the day
found : (v f m d : List ℕ) (x y z : ZonePart) (r : ZoneRule) → AnyOrder f m d (plain_split 59 v) → zone_part f ≡ Some x → zone_part m ≡ Some y → zone_part d ≡ Some z
    → is_yearly x ≡ true → Dated y z r → YearlyRule v r
found v f m d x y z r o e g i w h =
    record {
      frequency_part_holds = f;
      month_part_holds = m;
      day_part_holds = d;
      cut = o;
      frequency = yearly_part (subst (PartIs f) (e ∙ ap Some (is_yearly_lem x w)) (part_is f));
      month = month_part_holds (subst (PartIs m) (g ∙ ap Some h.month_is) (part_is m));
      day = day_part_is (subst (PartIs d) (i ∙ ap Some h.day_is) (part_is d));
    }

three_is : (v a b c : List ℕ) (r : ZoneRule) → plain_split 59 v ≡ a ∷ b ∷ c ∷ [] → all_three (zone_part a) (zone_part b) (zone_part c) ≡ Some r → YearlyRule v r
unfolding in_any_order
three_is v a b c r s e = read (zone_part a) (zone_part b) (zone_part c) refl refl refl e
  where
    order : {f m d : List ℕ} → AnyOrder f m d (a ∷ b ∷ c ∷ []) → AnyOrder f m d (plain_split 59 v)
    order {f} {m} {d} o = subst (AnyOrder f m d) (sym s) o

    go : (x y z : ZonePart) (i j l : Bool) → zone_part a ≡ Some x → zone_part b ≡ Some y → zone_part c ≡ Some z → is_yearly x ≡ i → is_yearly y ≡ j → is_yearly z ≡ l
        → cond i (dated y z) (cond j (dated x z) (cond l (dated x y) None)) ≡ Some r → YearlyRule v r
    go x y z true j l p q k f g o h = ⊎_elim (found v a b c x y z r (order abc) p q k f) (found v a c b x z y r (order acb) p k q f) (dated_is y z r h)
    go x y z false true l p q k f g o h = ⊎_elim (found v b a c y x z r (order bac) q p k g) (found v b c a y z x r (order cab) q k p g) (dated_is x z r h)
    go x y z false false true p q k f g o h = ⊎_elim (found v c a b z x y r (order bca) k p q o) (found v c b a z y x r (order cba) k q p o) (dated_is x y r h)
    go x y z false false false p q k f g o h = bad_number h

    read : (x y z : Option ZonePart) → zone_part a ≡ x → zone_part b ≡ y → zone_part c ≡ z → all_three x y z ≡ Some r → YearlyRule v r
    read (Some x) (Some y) (Some z) p q k h = go x y z (is_yearly x) (is_yearly y) (is_yearly z) p q k refl refl refl h
    read (Some x) (Some y) None p q k h = bad_number h
    read (Some x) None z p q k h = bad_number h
    read None y z p q k h = bad_number h

-- a list of three
three_list : (ps : List (List ℕ)) → length ps ≡ 3 → ps ≡ get_or ps 0 [] ∷ get_or ps 1 [] ∷ get_or ps 2 [] ∷ []
three_list [] e = absurd (omega arith)
three_list (a ∷ []) e = absurd (omega arith)
three_list (a ∷ b ∷ []) e = absurd (omega arith)
three_list (a ∷ b ∷ c ∷ []) e = refl
three_list (a ∷ b ∷ c ∷ d ∷ ps) e = absurd (omega arith)

rule_is : (v : List ℕ) (r : ZoneRule) → read_zone_rule v ≡ Some r → YearlyRule v r
unfolding read_zone_rule
rule_is v r e = go (eqb (length (plain_split 59 v)) 3) refl e
  where
    go : (t : Bool) → eqb (length (plain_split 59 v)) 3 ≡ t
        → cond t (all_three (part_at v 0) (part_at v 1) (part_at v 2)) None ≡ Some r
        → YearlyRule v r
    go true p k = three_is v _ _ _ r (three_list (plain_split 59 v) (eqb-true _ 3 p)) k
    go false p k = bad_number k

is_rule : (v : List ℕ) (r : ZoneRule) → YearlyRule v r → read_zone_rule v ≡ Some r
unfolding read_zone_rule in_any_order is_yearly dated with_day with_month
is_rule v r h = go (plain_split 59 v) refl h.cut
  where
    f : zone_part h.frequency_part_holds ≡ Some ZonePart.Yearly
    f = reads_yearly _ h.frequency

    m : zone_part h.month_part_holds ≡ Some (ZonePart.Month r.month)
    m = reads_month _ _ h.month

    d : zone_part h.day_part_holds ≡ Some (ZonePart.Day r.day)
    d = reads_day _ _ h.day

    go : (ps : List (List ℕ)) → plain_split 59 v ≡ ps → AnyOrder h.frequency_part_holds h.month_part_holds h.day_part_holds ps → read_zone_rule v ≡ Some r
    go ps e abc = rw (e, f, m, d)
    go ps e acb = rw (e, f, m, d)
    go ps e bac = rw (e, f, m, d)
    go ps e bca = rw (e, f, m, d)
    go ps e cab = rw (e, f, m, d)
    go ps e cba = rw (e, f, m, d)

-- the law
pub rule_iff : (v : List ℕ) (r : ZoneRule) → (read_zone_rule v ≡ Some r) ↔ YearlyRule v r
rule_iff v r = (rule_is v r, is_rule v r)
