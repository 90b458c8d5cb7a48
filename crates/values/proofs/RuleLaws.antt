-- The parts of a rule: the digits of a number, the parts one after the other, and how large what they make can be.
use Rattle.std.specs.Prelude.{Err, None, Ok, Option, Result, Some}
use Prim.Native.Nat.{ℕ, ◌+◌, ◌-◌, ◌*◌, ◌^◌, ◌≤◌, ◌<◌, max}
use Rattle.values.specs.declared.rule.ValueError.{ValueError}
use Rattle.values.specs.declared.rule.Part.{Part}
use mathlib.Core.Path.{◌≡◌, refl, sym, ap, ◌∙◌}
use mathlib.Core.Bool.{Bool, true, false, cond, ◌&&◌, ◌||◌}
use mathlib.Core.List.{List, [], ◌∷◌, map}
use native.Mathlib.Omega.{arith}
use native.Mathlib.Numerals.{add-one}
use native.Mathlib.Nat.{pow-suc}
use lib.Dec.{eqb, ltb, leb}
use lib.ListN.{length, take, drop, get_or}
use borrow.Author.Tests.{leb-true, ltb-true, ltb-false, lt-ltb, le-ltb, eqb-false}
use Rattle.ascii.specs.Bytes.{between, is_digit}
use Rattle.ascii.specs.Names.{every, same_name, is_name}
use Rattle.ascii.specs.Words.{ascii}
use Rattle.ascii.proofs.Bytes.{inside, below, above}
use Rattle.ascii.proofs.Bools.{and_left, and_right}
use Rattle.ascii.proofs.Lists.{drop_next, drop_end}
use Rattle.ascii.proofs.Names.{every_next, every_stop, every_end}
use Rattle.line.specs.Splitting.{first_outside, next_place, before, after, plain_split}
use Rattle.line.proofs.Splitting.{next_place_first, after_part, taken_before}
use Rattle.time.proofs.DateTime.{digit_range}
use Rattle.time.specs.Limits.{last_second}
use Rattle.values.specs.Times.{read_time}
use Rattle.time.specs.Grammar.{decimal}
use Rattle.values.specs.Rule.{number_to, frequency_part, interval_by, count_by, until_by, until_part, named_part, part_of, no_parts, with_part, with_parts, rule_by, rule_of, LimitSmall, RuleSmall}
use Rattle.values.specs.declared.times.Context.{Context}
use Rattle.values.specs.declared.times.Time.{Time}
use Rattle.values.specs.declared.times.Form.{Form}
use Rattle.values.specs.declared.rule.Limit.{Limit}
use Rattle.values.specs.declared.rule.Rule.{Rule}
use Rattle.std.specs.Option.{unwrap_or}
use Rattle.values.specs.declared.rule.Parts.{Parts}
use Rattle.values.proofs.TimesLaws.{read_time_small}
use Rattle.time.proofs.Below as tables

-- ---- a number of one to four digits

-- outside an interval, as two tests joined by `or` say it
outside : (lo hi n : ℕ) → (ltb n lo || ltb hi n) ≡ true → between lo hi n ≡ false
outside lo hi n e = go (ltb n lo) refl e
  where
    go : (t : Bool) → ltb n lo ≡ t → (t || ltb hi n) ≡ true → between lo hi n ≡ false
    go true p q = below lo hi n (ltb-true n lo p)
    go false p q = above lo hi n (ltb-true hi n q)

within : (lo hi n : ℕ) → (ltb n lo || ltb hi n) ≡ false → (lo ≤ n) × (n ≤ hi)
within lo hi n e = go (ltb n lo) refl e
  where
    go : (t : Bool) → ltb n lo ≡ t → (t || ltb hi n) ≡ false → (lo ≤ n) × (n ≤ hi)
    go true p q = let z : ◌≡◌ {A = ℕ} 0 1 = cc in absurd (omega arith)
    go false p q = (ltb-false n lo p, ltb-false hi n q)

pub number_length : (most : ℕ) (l : List ℕ) → (ltb (length l) 1 || ltb 4 (length l)) ≡ true → None ≡ number_to most l
unfolding number_to
number_length most l e = rw (outside 1 4 (length l) e)

-- the loop that reads digits: the first i of them make n
pub record Digits (l : List ℕ) (n i : ℕ) : Type 0 where
  pub some : 1 ≤ length l
  pub few : length l ≤ 4
  pub inside_text : i ≤ length l
  pub small : n < 10 ^ i
  pub digits : every is_digit (drop i l) ≡ every is_digit l
  pub value : decimal n (drop i l) ≡ decimal 0 l

pub digits_start : (l : List ℕ) → (ltb (length l) 1 || ltb 4 (length l)) ≡ false → Digits l 0 0
digits_start l e =
    record {
      some = (within 1 4 (length l) e).0;
      few = (within 1 4 (length l) e).1;
      inside_text = omega arith;
      small = omega arith;
      digits = refl;
      value = refl;
    }

-- four digits make less than ten thousand
four_digits : (i : ℕ) → i ≤ 4 → 10 ^ i ≤ 10000
four_digits i h = leb-true _ _ (tables.below (λ i. leb (10 ^ i) 10000) 5 refl i (omega arith))

pub digits_small : {l : List ℕ} {n i : ℕ} → Digits l n i → n ≤ 9999
digits_small {i = i} r = omega (arith, four_digits i (omega (arith, r.inside_text, r.few)), r.small)

pub digits_next : {l : List ℕ} {n i : ℕ} → i < length l → is_digit (get_or l i 0) ≡ true → Digits l n i → Digits l (n * 10 + (get_or l i 0 - 48)) (i + 1)
unfolding decimal
digits_next {l} {n} {i} h d r =
    record {
      some = r.some;
      few = r.few;
      inside_text = omega arith;
      small = rw (add-one, pow-suc 10 i) (omega (arith, r.small, digit_range (get_or l i 0) d));
      digits = every_next is_digit l i h d ∙ r.digits;
      value = sym (rw (drop_next l i h)) ∙ r.value;
    }

pub digits_stop : (most : ℕ) {l : List ℕ} {n i : ℕ} → i < length l → is_digit (get_or l i 0) ≡ false → Digits l n i → None ≡ number_to most l
unfolding number_to
digits_stop most {l} {n} {i} h d r =
    rw (inside 1 4 (length l) r.some r.few, sym r.digits ∙ every_stop is_digit l i h d)

-- all digits read: the number is within the given one, or not
digits_all : {l : List ℕ} {n i : ℕ} → length l ≤ i → Digits l n i → decimal 0 l ≡ n
unfolding decimal
digits_all {l} {n} {i} h r = sym r.value ∙ rw (drop_end l i h)

pub digits_over : (most : ℕ) {l : List ℕ} {n i : ℕ} → length l ≤ i → Digits l n i → (ltb n 1 || ltb most n) ≡ true → None ≡ number_to most l
unfolding number_to
digits_over most {l} {n} {i} h r e =
    rw
    (inside 1 4 (length l) r.some r.few, sym r.digits ∙ every_end is_digit l i h, digits_all h r, outside 1 most n e)

pub digits_of : (most : ℕ) {l : List ℕ} {n i : ℕ} → length l ≤ i → Digits l n i → (ltb n 1 || ltb most n) ≡ false → Some n ≡ number_to most l
unfolding number_to
digits_of most {l} {n} {i} h r e =
    let w : (1 ≤ n) × (n ≤ most) = within 1 most n e in
    rw
    (inside 1 4 (length l) r.some r.few, sym r.digits ∙ every_end is_digit l i h, digits_all h r, inside 1 most n w.0 w.1)

-- ---- one part

-- where there is no sign, the part is bad; k is the sign's place, or the end
module _ (c : Context) (l : List ℕ) (k : ℕ) (q : k ≡ next_place false 61 l 0) where
  sign_test : ltb (first_outside false 61 false l) (length l) ≡ ltb k (length l)
  sign_test = ap (λ (i : ℕ). ltb i (length l)) (sym (q ∙ next_place_first false 61 l))

  pub part_of_unsigned : length l ≤ k → Err ValueError.Bad ≡ part_of c l
  unfolding part_of
  part_of_unsigned h = rw (sign_test ∙ le-ltb k (length l) h)

  -- where there is one, y says whether a name stands before it
  module _ (y : Bool) (h : k < length l) (i : y ≡ is_name (take k l)) where
    name_test : (ltb (first_outside false 61 false l) (length l) && is_name (before false 61 l)) ≡ y
    name_test =
        ap (λ (t : Bool). t && is_name (before false 61 l)) (sign_test ∙ lt-ltb k (length l) h)
        ∙ ap is_name (sym (taken_before 61 l k q))
        ∙ sym i

    pub part_of_named : y ≡ true → named_part c (take k l) (take (length l - (k + 1)) (drop (k + 1) l)) ≡ part_of c l
    unfolding part_of
    part_of_named t = rw (name_test ∙ t, taken_before 61 l k q, after_part false 61 l k q)

    pub part_of_unnamed : y ≡ false → Err ValueError.Bad ≡ part_of c l
    unfolding part_of
    part_of_unnamed t = rw (name_test ∙ t)

-- ---- the rule that the parts make

module _ (p : Parts) where
  pub rule_by_unsupported : p.unsupported ≡ true → Err ValueError.Unsupported ≡ rule_by p
  unfolding rule_by
  rule_by_unsupported u = rw u

  pub rule_by_bad : p.unsupported ≡ false → (p.bad || eqb p.days 0) ≡ true → Err ValueError.Bad ≡ rule_by p
  unfolding rule_by
  rule_by_bad u b = rw (u, b)

  pub rule_by_of : (n : ℕ) → p.unsupported ≡ false → (p.bad || eqb p.days 0) ≡ false → n ≡ max 1 p.interval → {l : Limit} → l ≡ unwrap_or p.limit Limit.Forever
      → Ok (record { days = p.days; interval = n; limit = l }) ≡ rule_by p
  unfolding rule_by
  rule_by_of n u b e f = rw (u, b, e, f)

-- ---- how large a rule can be

pub number_to_small : (most : ℕ) (l : List ℕ) (n : ℕ) → number_to most l ≡ Some n → (1 ≤ n) × (n ≤ most)
unfolding number_to
number_to_small most l n e = go (between 1 4 (length l) && every is_digit l && between 1 most (decimal 0 l)) refl e
  where
    go : (t : Bool) → (between 1 4 (length l) && every is_digit l && between 1 most (decimal 0 l)) ≡ t
        → cond t (Some (decimal 0 l)) None ≡ Some n → (1 ≤ n) × (n ≤ most)
    go true p k =
        let z : decimal 0 l ≡ n = cc in
        let w : between 1 most (decimal 0 l) ≡ true = and_right (between 1 4 (length l) && every is_digit l) _ p in
        rw (← z) (leb-true _ _ (and_left (leb 1 (decimal 0 l)) _ w), leb-true _ _ (and_right (leb 1 (decimal 0 l)) _ w))
    go false p k = let z : ◌≡◌ {A = ℕ} 0 1 = cc in absurd (omega arith)

-- what one part adds
abbrev PartSmall : Result Part ValueError → Type 0
PartSmall (Ok (Part.Frequency d)) = d ≤ 7
PartSmall (Ok (Part.Interval n)) = n ≤ 999
PartSmall (Ok (Part.Limit l)) = LimitSmall l
PartSmall (Err ValueError.Unsupported) = Unit {0}
PartSmall (Err ValueError.Bad) = Unit {0}

record PartsSmall (p : Parts) : Type 0 where
  few_days : p.days ≤ 7
  few_interval : p.interval ≤ 999
  limit_small : LimitSmall (unwrap_or p.limit Limit.Forever)

frequency_small : (v : List ℕ) → PartSmall (frequency_part v)
unfolding frequency_part
frequency_small v = go (same_name v (ascii "DAILY")) (same_name v (ascii "WEEKLY"))
  where
    go : (s t : Bool) → PartSmall (cond s (Ok (Part.Frequency 1)) (cond t (Ok (Part.Frequency 7)) (Err ValueError.Unsupported)))
    go true t = omega arith
    go false true = omega arith
    go false false = tt

interval_small : (v : List ℕ) (n : Option ℕ) → number_to 999 v ≡ n → PartSmall (interval_by n)
unfolding interval_by
interval_small v (Some n) e = (number_to_small 999 v n e).1
interval_small v None e = tt

counted_small : (v : List ℕ) (n : Option ℕ) → number_to 9999 v ≡ n → PartSmall (count_by n)
unfolding count_by
counted_small v (Some n) e = number_to_small 9999 v n e
counted_small v None e = tt

until_by_small : (r : Option Time) → ((t : Time) → r ≡ Some t → t.second ≤ last_second) → PartSmall (until_by r)
unfolding until_by
until_by_small (Some t) h = h t refl
until_by_small None h = tt

until_part_small : (c : Context) (v : List ℕ) → PartSmall (until_part c v)
unfolding until_part
until_part_small c v = until_by_small (read_time c f v) (λ t e. read_time_small c f v t e)
  where
    f : Form
    f = cond (eqb (length v) 8) Form.Date Form.DateTime

named_small : (c : Context) (n v : List ℕ) → PartSmall (named_part c n v)
unfolding named_part
named_small c n v = go (same_name n (ascii "FREQ")) (same_name n (ascii "INTERVAL")) (same_name n (ascii "COUNT")) (same_name n (ascii "UNTIL"))
  where
    go : (f i k u : Bool)
        → PartSmall (cond f (frequency_part v) (cond i (interval_by (number_to 999 v)) (cond k (count_by (number_to 9999 v)) (cond u (until_part c v) (Err ValueError.Unsupported)))))
    go true i k u = frequency_small v
    go false true k u = interval_small v (number_to 999 v) refl
    go false false true u = counted_small v (number_to 9999 v) refl
    go false false false true = until_part_small c v
    go false false false false = tt

part_small : (c : Context) (l : List ℕ) → PartSmall (part_of c l)
unfolding part_of
part_small c l = go (ltb (first_outside false 61 false l) (length l) && is_name (before false 61 l))
  where
    go : (t : Bool) → PartSmall (cond t (named_part c (before false 61 l) (after false 61 l)) (Err ValueError.Bad))
    go true = named_small c (before false 61 l) (after false 61 l)
    go false = tt

with_small : (p : Parts) (x : Result Part ValueError) → PartsSmall p → PartSmall x → PartsSmall (with_part p x)
unfolding with_part
with_small p (Ok (Part.Frequency d)) h k = record { few_days = k; few_interval = h.few_interval; limit_small = h.limit_small }
with_small p (Ok (Part.Interval n)) h k = record { few_days = h.few_days; few_interval = k; limit_small = h.limit_small }
with_small p (Ok (Part.Limit l)) h k = record { few_days = h.few_days; few_interval = h.few_interval; limit_small = k }
with_small p (Err ValueError.Unsupported) h k = record { few_days = h.few_days; few_interval = h.few_interval; limit_small = h.limit_small }
with_small p (Err ValueError.Bad) h k = record { few_days = h.few_days; few_interval = h.few_interval; limit_small = h.limit_small }

all_small : (c : Context) (p : Parts) (ts : List (List ℕ)) → PartsSmall p → PartsSmall (with_parts p (map (part_of c) ts))
unfolding with_parts
all_small c p [] h = h
all_small c p (t ∷ ts) h = all_small c (with_part p (part_of c t)) ts (with_small p (part_of c t) h (part_small c t))

none_small : PartsSmall no_parts
unfolding no_parts
none_small = record { few_days = omega arith; few_interval = omega arith; limit_small = tt }

by_small : (p : Parts) (r : Rule) → PartsSmall p → rule_by p ≡ Ok r → RuleSmall r
unfolding rule_by
by_small p r h e = go p.unsupported p.bad (eqb p.days 0) refl e
  where
    go : (u b z : Bool) → eqb p.days 0 ≡ z
        → cond u (Err ValueError.Unsupported) (cond (b || z) (Err ValueError.Bad) (Ok (record { days = p.days; interval = max 1 p.interval; limit = unwrap_or p.limit Limit.Forever }))) ≡ Ok r
        → RuleSmall r
    go true b z q k = let w : ◌≡◌ {A = ℕ} 0 1 = cc in absurd (omega arith)
    go false true z q k = let w : ◌≡◌ {A = ℕ} 0 1 = cc in absurd (omega arith)
    go false false true q k = let w : ◌≡◌ {A = ℕ} 0 1 = cc in absurd (omega arith)
    go false false false q k =
        let w : record { days = p.days; interval = max 1 p.interval; limit = unwrap_or p.limit Limit.Forever } ≡ r = cc in
        rw (← w) (record {
          some_days = omega (arith, eqb-false p.days 0 q);
          few_days = h.few_days;
          some_interval = omega arith;
          few_interval = omega (arith, h.few_interval);
          limit_small = h.limit_small;
        })

-- a rule that is read is small
pub rule_of_small : (c : Context) (v : List ℕ) (r : Rule) → rule_of c v ≡ Ok r → RuleSmall r
unfolding rule_of
rule_of_small c v r e = by_small (with_parts no_parts (map (part_of c) (plain_split 59 v))) r (all_small c no_parts (plain_split 59 v) none_small) e
