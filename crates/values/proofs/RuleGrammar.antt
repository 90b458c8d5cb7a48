-- THE THEOREM of RRULE: reading a value gives a rule exactly where the value is one that says this rule; it is unsupported exactly
-- where some part of it is; and it is bad otherwise.
use Rattle.std.specs.Prelude.{Err, None, Ok, Option, Result, Some}
use Prim.Native.Nat.{ℕ, zero, suc, ◌+◌, ◌≤◌, ◌<◌, max}
use Rattle.std.specs.Option.{is_some, unwrap_or}
use Rattle.values.specs.declared.rule.ValueError.{ValueError}
use Rattle.values.specs.declared.rule.Part.{Part}
use mathlib.Core.Path.{◌≡◌, refl, sym, ap, ◌∙◌, subst}
use mathlib.Core.Bool.{Bool, true, false, cond, ◌&&◌, ◌||◌}
use mathlib.Core.Logic.{◌↔◌, ◌⊎◌, inl, inr, ⊎_elim}
use mathlib.Core.List.{List, [], ◌∷◌, ◌++◌, map, Memᴰ}
use native.Mathlib.Omega.{arith}
use lib.Dec.{eqb, ltb, leb}
use lib.ListN.{length, take, drop, length-append}
use borrow.Author.Tests.{leb-true, ltb-true, lt-ltb, eqb-true, eqb-false, eq-eqb, ne_eqb}
use Rattle.ascii.specs.Bytes.{between, is_digit, is_letter, is_name_byte, upper}
use Rattle.ascii.specs.Names.{same_name, is_name, every}
use Rattle.ascii.specs.Words.{ascii}
use Rattle.ascii.proofs.Bytes.{inside}
use Rattle.ascii.proofs.Bools.{and_left, and_right, clash, not_so}
use Rattle.ascii.proofs.Names.{same_name_iff, every_of_name}
use Rattle.line.specs.Splitting.{cuts_at, first_outside, before, after, plain_split}
use Rattle.line.proofs.Splitting.{closed, first_outside_cut, first_outside_keep, first_outside_end, first_outside_closed, before_closed, after_closed, closed_class}
use Rattle.time.specs.Grammar.{decimal}
use Rattle.values.specs.Times.{read_time}
use Rattle.values.specs.Rule.{number_to, frequency_part, interval_by, count_by, until_by, until_part, named_part, part_of, no_parts, with_part, with_parts, rule_by, rule_of}
use Rattle.values.specs.RuleGrammar.{RulePart, written, KnownName, freq, interval, count, until, EachKnown, part_values, FrequencyIs, daily, weekly, NumberIs, UntilIs, date, date_time, OneFrequency, OneInterval, OneLimit, RuleGrammar, Unsupported, other_name, other_frequency, HasUnsupported}
use Rattle.values.specs.declared.times.Context.{Context}
use Rattle.values.specs.declared.times.Time.{Time}
use Rattle.values.specs.declared.times.Form.{Form}
use Rattle.values.specs.declared.rule.Limit.{Limit}
use Rattle.values.specs.declared.rule.Rule.{Rule}
use Rattle.values.specs.declared.rule.Parts.{Parts}

-- ---- names

-- what is one name is not another
other : (n a b : List ℕ) → same_name n a ≡ true → same_name a b ≡ false → same_name n b ≡ false
other n a b p q = go (same_name n b) refl
  where
    go : (t : Bool) → same_name n b ≡ t → t ≡ false
    go true e = clash ((same_name_iff a b).1 (sym ((same_name_iff n a).0 p) ∙ (same_name_iff n b).0 e)) q
    go false e = refl

-- a name is one of the four, or it is not
known_or_not : (n : List ℕ) → KnownName n ⊎ (KnownName n → ⊥)
known_or_not n = go (same_name n (ascii "FREQ")) (same_name n (ascii "INTERVAL")) (same_name n (ascii "COUNT")) (same_name n (ascii "UNTIL")) refl refl refl refl
  where
    go : (f i k u : Bool) → same_name n (ascii "FREQ") ≡ f → same_name n (ascii "INTERVAL") ≡ i → same_name n (ascii "COUNT") ≡ k → same_name n (ascii "UNTIL") ≡ u
        → KnownName n ⊎ (KnownName n → ⊥)
    go true i k u p q r s = inl (freq p)
    go false true k u p q r s = inl (interval q)
    go false false true u p q r s = inl (count r)
    go false false false true p q r s = inl (until s)
    go false false false false p q r s = inr none
      where
        none : KnownName n → ⊥
        none (freq e) = clash e p
        none (interval e) = clash e q
        none (count e) = clash e r
        none (until e) = clash e s

-- ---- the value of one part

number_is : (most : ℕ) (v : List ℕ) (n : ℕ) → number_to most v ≡ Some n → NumberIs most v n
unfolding number_to
number_is most v n e = go (between 1 4 (length v) && every is_digit v && between 1 most (decimal 0 v)) refl e
  where
    go : (t : Bool) → (between 1 4 (length v) && every is_digit v && between 1 most (decimal 0 v)) ≡ t
        → cond t (Some (decimal 0 v)) None ≡ Some n → NumberIs most v n
    go true p k =
        let z : decimal 0 v ≡ n = cc in
        let a : (between 1 4 (length v) && every is_digit v) ≡ true = and_left _ (between 1 most (decimal 0 v)) p in
        let b : between 1 most (decimal 0 v) ≡ true = and_right (between 1 4 (length v) && every is_digit v) _ p in
        let l : between 1 4 (length v) ≡ true = and_left _ (every is_digit v) a in
        record {
          some_digits = leb-true _ _ (and_left (leb 1 (length v)) _ l);
          few_digits = leb-true _ _ (and_right (leb 1 (length v)) _ l);
          digits = and_right (between 1 4 (length v)) _ a;
          number = z;
          least = rw (← z) (leb-true _ _ (and_left (leb 1 (decimal 0 v)) _ b));
          greatest = rw (← z) (leb-true _ _ (and_right (leb 1 (decimal 0 v)) _ b));
        }
    go false p k = let z : ◌≡◌ {A = ℕ} 0 1 = cc in absurd (omega arith)

is_number : (most : ℕ) (v : List ℕ) (n : ℕ) → NumberIs most v n → number_to most v ≡ Some n
unfolding number_to
is_number most v n h = rw (inside 1 4 (length v) h.some_digits h.few_digits, h.digits, h.number, inside 1 most n h.least h.greatest)

-- a number is read exactly where digits say it
pub number_iff : (most : ℕ) (v : List ℕ) (n : ℕ) → (number_to most v ≡ Some n) ↔ NumberIs most v n
number_iff most v n = (number_is most v n, is_number most v n)

is_frequency : (v : List ℕ) (k : ℕ) → FrequencyIs v k → frequency_part v ≡ Ok (Part.Frequency k)
unfolding frequency_part same_name upper
is_frequency v k (daily p) = rw p
is_frequency v k (weekly p) = rw (other v (ascii "WEEKLY") (ascii "DAILY") p refl, p)

other_days : (v : List ℕ) → same_name v (ascii "DAILY") ≡ false → same_name v (ascii "WEEKLY") ≡ false → frequency_part v ≡ Err ValueError.Unsupported
unfolding frequency_part
other_days v p q = rw (p, q)

frequency_some : (v : List ℕ) (k : ℕ) → FrequencyIs v k → 1 ≤ k
frequency_some v k (daily p) = omega arith
frequency_some v k (weekly p) = omega arith

until_is : (c : Context) (v : List ℕ) (t : Time) → read_time c (cond (eqb (length v) 8) Form.Date Form.DateTime) v ≡ Some t → UntilIs c v t
until_is c v t e = go (eqb (length v) 8) refl e
  where
    go : (b : Bool) → eqb (length v) 8 ≡ b → read_time c (cond b Form.Date Form.DateTime) v ≡ Some t → UntilIs c v t
    go true p w = date (eqb-true (length v) 8 p) w
    go false p w = date_time (eqb-false (length v) 8 p) w

is_until : (c : Context) (v : List ℕ) (t : Time) → UntilIs c v t → read_time c (cond (eqb (length v) 8) Form.Date Form.DateTime) v ≡ Some t
is_until c v t (date p w) = rw (eq-eqb (length v) 8 p) w
is_until c v t (date_time p w) = rw (ne_eqb (length v) 8 p) w

-- ---- a part by its name

module _ (c : Context) (n v : List ℕ) where
  named_freq : same_name n (ascii "FREQ") ≡ true → named_part c n v ≡ frequency_part v
  unfolding named_part
  named_freq e = rw e

  named_interval : same_name n (ascii "INTERVAL") ≡ true → named_part c n v ≡ interval_by (number_to 999 v)
  unfolding named_part same_name upper
  named_interval e = rw (other n (ascii "INTERVAL") (ascii "FREQ") e refl, e)

  named_count : same_name n (ascii "COUNT") ≡ true → named_part c n v ≡ count_by (number_to 9999 v)
  unfolding named_part same_name upper
  named_count e = rw (other n (ascii "COUNT") (ascii "FREQ") e refl, other n (ascii "COUNT") (ascii "INTERVAL") e refl, e)

  named_until : same_name n (ascii "UNTIL") ≡ true → named_part c n v ≡ until_part c v
  unfolding named_part same_name upper
  named_until e =
      rw
      (other n (ascii "UNTIL") (ascii "FREQ") e refl, other n (ascii "UNTIL") (ascii "INTERVAL") e refl, other n (ascii "UNTIL") (ascii "COUNT") e refl, e)

  named_other : (KnownName n → ⊥) → named_part c n v ≡ Err ValueError.Unsupported
  unfolding named_part
  named_other h = rw (not_so _ (λ e. h (freq e)), not_so _ (λ e. h (interval e)), not_so _ (λ e. h (count e)), not_so _ (λ e. h (until e)))

-- ---- the text of a part

-- text is what stands before the first sign, the sign, and what stands behind it
sign_cut : (sep : ℕ) (s : List ℕ) → first_outside false sep false s < length s
    → s ≡ take (first_outside false sep false s) s ++ (sep ∷ drop (first_outside false sep false s + 1) s)
sign_cut sep [] h = absurd (omega (arith, first_outside_end false sep false))
sign_cut sep (b ∷ s) h = go (cuts_at sep false b) refl (sign_cut sep s)
  where
    k : ℕ
    k = first_outside false sep false s

    go : (t : Bool) → cuts_at sep false b ≡ t → (k < length s → s ≡ take k s ++ (sep ∷ drop (k + 1) s))
        → b ∷ s ≡ take (first_outside false sep false (b ∷ s)) (b ∷ s) ++ (sep ∷ drop (first_outside false sep false (b ∷ s) + 1) (b ∷ s))
    go true e r =
        let z : b ≡ sep = eqb-true b sep (and_left (eqb b sep) _ e) in
        rw (first_outside_cut false sep false b s e) (ap (λ (a : ℕ). a ∷ s) z)
    go false e r =
        let f : first_outside false sep false (b ∷ s) ≡ suc k = first_outside_keep false sep false b s e in
        let g : suc k + 1 ≡ suc (k + 1) = omega arith in
        rw (f, g) (ap (λ (l : List ℕ). b ∷ l) (r (omega arith)))

module _ (c : Context) where
  part_written : (x : RulePart) → is_name x.name ≡ true → part_of c (written x) ≡ named_part c x.name x.value
  unfolding part_of is_name_byte is_letter is_digit
  part_written x e =
      let k : closed false 61 false x.name ≡ true = closed_class false 61 is_name_byte refl refl x.name (every_of_name x.name e) in
      let l : first_outside false 61 false (written x) < length (written x) =
      rw (first_outside_closed false 61 false x.name x.value k, length-append x.name (61 ∷ x.value)) (omega arith) in
      rw (lt-ltb _ _ l, before_closed false 61 x.name x.value k, after_closed false 61 x.name x.value k, e)

  -- a text is a part as it is written, or it is bad
  part_form : (t : List ℕ) → ((x : RulePart) × (t ≡ written x) × (is_name x.name ≡ true)) ⊎ (part_of c t ≡ Err ValueError.Bad)
  unfolding part_of before after
  part_form t = go (ltb (first_outside false 61 false t) (length t)) (is_name (before false 61 t)) refl refl
    where
      go : (a b : Bool) → ltb (first_outside false 61 false t) (length t) ≡ a → is_name (before false 61 t) ≡ b
          → ((x : RulePart) × (t ≡ written x) × (is_name x.name ≡ true)) ⊎ (part_of c t ≡ Err ValueError.Bad)
      go true true p q = inl (record { name = before false 61 t; value = after false 61 t }, sign_cut 61 t (ltb-true _ _ p), q)
      go true false p q = inr (rw (p, q))
      go false b p q = inr (rw p)

-- ---- the values by name, with one part more in front

module _ (x : RulePart) (xs : List RulePart) (w : List ℕ) where
  values_same : same_name x.name w ≡ true → part_values w (x ∷ xs) ≡ x.value ∷ part_values w xs
  unfolding part_values
  values_same e = rw e

  values_other : same_name x.name w ≡ false → part_values w (x ∷ xs) ≡ part_values w xs
  unfolding part_values
  values_other e = rw e

-- ---- what is left to read, after parts that gave these: 0 days, 0 for the interval and no limit where nothing was read

abbrev state : ℕ → ℕ → Option Limit → Parts
state d i o = record { unsupported = false; bad = false; days = d; interval = i; limit = o }

abbrev FrequencyLeft : ℕ → List (List ℕ) → ℕ → Type 0
FrequencyLeft zero vs k = OneFrequency vs k
FrequencyLeft (suc d) vs k = (vs ≡ []) × (k ≡ suc d)

abbrev IntervalLeft : ℕ → List (List ℕ) → ℕ → Type 0
IntervalLeft zero vs k = OneInterval vs k
IntervalLeft (suc i) vs k = (vs ≡ []) × (k ≡ suc i)

abbrev LimitLeft : Context → Option Limit → List (List ℕ) → List (List ℕ) → Limit → Type 0
LimitLeft c None cs us l = OneLimit c cs us l
LimitLeft c (Some m) cs us l = (cs ≡ []) × (us ≡ []) × (l ≡ m)

record Left (c : Context) (d i : ℕ) (o : Option Limit) (xs : List RulePart) (r : Rule) : Type 0 where
  frequency_left : FrequencyLeft d (part_values (ascii "FREQ") xs) r.days
  interval_left : IntervalLeft i (part_values (ascii "INTERVAL") xs) r.interval
  limit_left : LimitLeft c o (part_values (ascii "COUNT") xs) (part_values (ascii "UNTIL") xs) r.limit

-- one value more: the first that is read, and the others are none
frequency_first : (v : List ℕ) (k : ℕ) (vs : List (List ℕ)) (n : ℕ) → FrequencyIs v k → FrequencyLeft k vs n → OneFrequency (v ∷ vs) n
frequency_first v zero vs n f h = absurd (omega (arith, frequency_some v zero f))
frequency_first v (suc k) vs n f h = rw (h.0, h.1) (OneFrequency.given f)

frequency_only : (v : List ℕ) (vs : List (List ℕ)) (n : ℕ) → OneFrequency (v ∷ vs) n → (FrequencyIs v n) × (vs ≡ [])
frequency_only v vs n (OneFrequency.given f) = (f, refl)

frequency_done : (k : ℕ) (vs : List (List ℕ)) → 1 ≤ k → vs ≡ [] → FrequencyLeft k vs k
frequency_done zero vs h e = absurd (omega arith)
frequency_done (suc k) vs h e = (e, refl)

interval_first : (v : List ℕ) (k : ℕ) (vs : List (List ℕ)) (n : ℕ) → NumberIs 999 v k → IntervalLeft k vs n → OneInterval (v ∷ vs) n
interval_first v zero vs n f h = absurd (omega (arith, f.least))
interval_first v (suc k) vs n f h = rw (h.0, h.1) (OneInterval.given f)

interval_only : (v : List ℕ) (vs : List (List ℕ)) (n : ℕ) → OneInterval (v ∷ vs) n → (NumberIs 999 v n) × (vs ≡ [])
interval_only v vs n (OneInterval.given f) = (f, refl)

interval_done : (k : ℕ) (vs : List (List ℕ)) → 1 ≤ k → vs ≡ [] → IntervalLeft k vs k
interval_done zero vs h e = absurd (omega arith)
interval_done (suc k) vs h e = (e, refl)

count_only : (c : Context) (v : List ℕ) (cs us : List (List ℕ)) (l : Limit) → OneLimit c (v ∷ cs) us l
    → (n : ℕ) × (NumberIs 9999 v n) × (cs ≡ []) × (us ≡ []) × (l ≡ Limit.Count n)
count_only c v cs us l (OneLimit.counted {n = n} f) = (n, f, refl, refl, refl)

until_only : (c : Context) (v : List ℕ) (cs us : List (List ℕ)) (l : Limit) → OneLimit c cs (v ∷ us) l
    → (t : Time) × (UntilIs c v t) × (cs ≡ []) × (us ≡ []) × (l ≡ Limit.Until t)
until_only c v cs us l (OneLimit.up_to {t = t} f) = (t, f, refl, refl, refl)

-- a list with a first element is not empty
some_none : {A B : Type 0} {a : A} {l : List A} → a ∷ l ≡ [] → B
some_none e = let z : ◌≡◌ {A = ℕ} 0 1 = cc in absurd (omega arith)

-- ---- one part more in front, by its name: how what is left changes

module _ (c : Context) (x : RulePart) (xs : List RulePart) (r : Rule) where
  -- a part named w adds no value to those named u
  passes : (w u : List ℕ) → same_name x.name w ≡ true → same_name w u ≡ false → part_values u (x ∷ xs) ≡ part_values u xs
  passes w u e h = values_other x xs u (other x.name w u e h)

  module _ (e : same_name x.name (ascii "FREQ") ≡ true) where
    freq_add : (k i : ℕ) (o : Option Limit) → FrequencyIs x.value k → Left c k i o xs r → Left c 0 i o (x ∷ xs) r
    unfolding same_name upper
    freq_add k i o f h =
        record {
          frequency_left =
              rw (values_same x xs (ascii "FREQ") e)
              (frequency_first x.value k (part_values (ascii "FREQ") xs) r.days f h.frequency_left);
          interval_left = rw (passes (ascii "FREQ") (ascii "INTERVAL") e refl) h.interval_left;
          limit_left = rw (passes (ascii "FREQ") (ascii "COUNT") e refl, passes (ascii "FREQ") (ascii "UNTIL") e refl) h.limit_left;
        }

    freq_take : (d i : ℕ) (o : Option Limit) → Left c d i o (x ∷ xs) r → (d ≡ 0) × (FrequencyIs x.value r.days) × (Left c r.days i o xs r)
    unfolding same_name upper
    freq_take zero i o h =
        let w = frequency_only x.value (part_values (ascii "FREQ") xs) r.days (rw (values_same x xs (ascii "FREQ") e) at h.frequency_left) in (
          refl,
          w.0,
          record {
            frequency_left = frequency_done r.days (part_values (ascii "FREQ") xs) (frequency_some x.value r.days w.0) w.1;
            interval_left = rw (passes (ascii "FREQ") (ascii "INTERVAL") e refl) at h.interval_left;
            limit_left = rw (passes (ascii "FREQ") (ascii "COUNT") e refl, passes (ascii "FREQ") (ascii "UNTIL") e refl) at h.limit_left;
          },
        )
    freq_take (suc d) i o h = some_none (rw (values_same x xs (ascii "FREQ") e) at h.frequency_left.0)

  module _ (e : same_name x.name (ascii "INTERVAL") ≡ true) where
    interval_add : (d k : ℕ) (o : Option Limit) → NumberIs 999 x.value k → Left c d k o xs r → Left c d 0 o (x ∷ xs) r
    unfolding same_name upper
    interval_add d k o f h =
        record {
          frequency_left = rw (passes (ascii "INTERVAL") (ascii "FREQ") e refl) h.frequency_left;
          interval_left =
              rw (values_same x xs (ascii "INTERVAL") e)
              (interval_first x.value k (part_values (ascii "INTERVAL") xs) r.interval f h.interval_left);
          limit_left = rw (passes (ascii "INTERVAL") (ascii "COUNT") e refl, passes (ascii "INTERVAL") (ascii "UNTIL") e refl) h.limit_left;
        }

    interval_take : (d i : ℕ) (o : Option Limit) → Left c d i o (x ∷ xs) r → (i ≡ 0) × (NumberIs 999 x.value r.interval) × (Left c d r.interval o xs r)
    unfolding same_name upper
    interval_take d zero o h =
        let w = interval_only x.value (part_values (ascii "INTERVAL") xs) r.interval (rw (values_same x xs (ascii "INTERVAL") e) at h.interval_left) in (
          refl,
          w.0,
          record {
            frequency_left = rw (passes (ascii "INTERVAL") (ascii "FREQ") e refl) at h.frequency_left;
            interval_left = interval_done r.interval (part_values (ascii "INTERVAL") xs) w.0.least w.1;
            limit_left = rw (passes (ascii "INTERVAL") (ascii "COUNT") e refl, passes (ascii "INTERVAL") (ascii "UNTIL") e refl) at h.limit_left;
          },
        )
    interval_take d (suc i) o h = some_none (rw (values_same x xs (ascii "INTERVAL") e) at h.interval_left.0)

  module _ (e : same_name x.name (ascii "COUNT") ≡ true) where
    count_add : (d i k : ℕ) → NumberIs 9999 x.value k → Left c d i (Some (Limit.Count k)) xs r → Left c d i None (x ∷ xs) r
    unfolding same_name upper
    count_add d i k f h =
        record {
          frequency_left = rw (passes (ascii "COUNT") (ascii "FREQ") e refl) h.frequency_left;
          interval_left = rw (passes (ascii "COUNT") (ascii "INTERVAL") e refl) h.interval_left;
          limit_left =
              rw
              (values_same x xs (ascii "COUNT") e, passes (ascii "COUNT") (ascii "UNTIL") e refl, h.limit_left.0, h.limit_left.1, h.limit_left.2)
              (OneLimit.counted f);
        }

    count_take : (d i : ℕ) (o : Option Limit) → Left c d i o (x ∷ xs) r
        → (o ≡ None) × ((k : ℕ) × (NumberIs 9999 x.value k) × (Left c d i (Some (Limit.Count k)) xs r))
    unfolding same_name upper
    count_take d i None h =
        let w = count_only c x.value (part_values (ascii "COUNT") xs) (part_values (ascii "UNTIL") xs) r.limit
        (rw (values_same x xs (ascii "COUNT") e, passes (ascii "COUNT") (ascii "UNTIL") e refl) at h.limit_left) in (
          refl,
          (
            w.0,
            w.1,
            record {
              frequency_left = rw (passes (ascii "COUNT") (ascii "FREQ") e refl) at h.frequency_left;
              interval_left = rw (passes (ascii "COUNT") (ascii "INTERVAL") e refl) at h.interval_left;
              limit_left = (w.2, w.3, w.4);
            },
          ),
        )
    count_take d i (Some l) h = some_none (rw (values_same x xs (ascii "COUNT") e) at h.limit_left.0)

  module _ (e : same_name x.name (ascii "UNTIL") ≡ true) where
    until_add : (d i : ℕ) (t : Time) → UntilIs c x.value t → Left c d i (Some (Limit.Until t)) xs r → Left c d i None (x ∷ xs) r
    unfolding same_name upper
    until_add d i t f h =
        record {
          frequency_left = rw (passes (ascii "UNTIL") (ascii "FREQ") e refl) h.frequency_left;
          interval_left = rw (passes (ascii "UNTIL") (ascii "INTERVAL") e refl) h.interval_left;
          limit_left =
              rw
              (passes (ascii "UNTIL") (ascii "COUNT") e refl, values_same x xs (ascii "UNTIL") e, h.limit_left.0, h.limit_left.1, h.limit_left.2)
              (OneLimit.up_to f);
        }

    until_take : (d i : ℕ) (o : Option Limit) → Left c d i o (x ∷ xs) r
        → (o ≡ None) × ((t : Time) × (UntilIs c x.value t) × (Left c d i (Some (Limit.Until t)) xs r))
    unfolding same_name upper
    until_take d i None h =
        let w = until_only c x.value (part_values (ascii "COUNT") xs) (part_values (ascii "UNTIL") xs) r.limit
        (rw (passes (ascii "UNTIL") (ascii "COUNT") e refl, values_same x xs (ascii "UNTIL") e) at h.limit_left) in (
          refl,
          (
            w.0,
            w.1,
            record {
              frequency_left = rw (passes (ascii "UNTIL") (ascii "FREQ") e refl) at h.frequency_left;
              interval_left = rw (passes (ascii "UNTIL") (ascii "INTERVAL") e refl) at h.interval_left;
              limit_left = (w.2, w.3, w.4);
            },
          ),
        )
    until_take d i (Some l) h = some_none (rw (values_same x xs (ascii "UNTIL") e) at h.limit_left.1)

-- ---- the fold over the parts: what is bad stays bad, what is unsupported stays unsupported

or_true : {a : Bool} (b : Bool) → a ≡ true → (a || b) ≡ true
or_true b e = rw e

with_bad : (p : Parts) (x : Result Part ValueError) → p.bad ≡ true → (with_part p x).bad ≡ true
unfolding with_part
with_bad p (Ok (Part.Frequency d)) e = or_true (ltb 0 p.days) e
with_bad p (Ok (Part.Interval n)) e = or_true (ltb 0 p.interval) e
with_bad p (Ok (Part.Limit l)) e = or_true (is_some p.limit) e
with_bad p (Err ValueError.Unsupported) e = e
with_bad p (Err ValueError.Bad) e = refl

stays_bad : (p : Parts) (xs : List (Result Part ValueError)) → p.bad ≡ true → (with_parts p xs).bad ≡ true
unfolding with_parts
stays_bad p [] e = e
stays_bad p (x ∷ xs) e = stays_bad (with_part p x) xs (with_bad p x e)

with_unsupported : (p : Parts) (x : Result Part ValueError) → p.unsupported ≡ true → (with_part p x).unsupported ≡ true
unfolding with_part
with_unsupported p (Ok (Part.Frequency d)) e = e
with_unsupported p (Ok (Part.Interval n)) e = e
with_unsupported p (Ok (Part.Limit l)) e = e
with_unsupported p (Err ValueError.Unsupported) e = refl
with_unsupported p (Err ValueError.Bad) e = e

stays_unsupported : (p : Parts) (xs : List (Result Part ValueError)) → p.unsupported ≡ true → (with_parts p xs).unsupported ≡ true
unfolding with_parts
stays_unsupported p [] e = e
stays_unsupported p (x ∷ xs) e = stays_unsupported (with_part p x) xs (with_unsupported p x e)

-- neither makes a rule
bad_no_rule : {A : Type 0} (p : Parts) (xs : List (Result Part ValueError)) (r : Rule) → p.bad ≡ true → rule_by (with_parts p xs) ≡ Ok r → A
unfolding rule_by
bad_no_rule {A} p xs r e h = go (with_parts p xs).unsupported (with_parts p xs).bad (stays_bad p xs e) h
  where
    q : Parts
    q = with_parts p xs

    go : (u b : Bool) → b ≡ true
        → cond u (Err ValueError.Unsupported) (cond (b || eqb q.days 0) (Err ValueError.Bad) (Ok (record { days = q.days; interval = max 1 q.interval; limit = unwrap_or q.limit Limit.Forever }))) ≡ Ok r
        → A
    go true b e k = let w : ◌≡◌ {A = ℕ} 0 1 = cc in absurd (omega arith)
    go false true e k = let w : ◌≡◌ {A = ℕ} 0 1 = cc in absurd (omega arith)
    go false false e k = clash e refl

unsupported_read : (p : Parts) → p.unsupported ≡ true → rule_by p ≡ Err ValueError.Unsupported
unfolding rule_by
unsupported_read p e = rw e

unsupported_no_rule : {A : Type 0} (p : Parts) (xs : List (Result Part ValueError)) (r : Rule) → p.unsupported ≡ true → rule_by (with_parts p xs) ≡ Ok r → A
unsupported_no_rule p xs r e h =
    let w : Err ValueError.Unsupported ≡ Ok r = sym (unsupported_read (with_parts p xs) (stays_unsupported p xs e)) ∙ h in
    let z : ◌≡◌ {A = ℕ} 0 1 = cc in
    absurd (omega arith)

-- ---- one part more, read

module _ (c : Context) (t : List ℕ) (ts : List (List ℕ)) where
  abbrev read_from : Parts → Result Rule ValueError
  read_from p = rule_by (with_parts p (map (part_of c) (t ∷ ts)))

  abbrev read_rest : Parts → Result Rule ValueError
  read_rest p = rule_by (with_parts p (map (part_of c) ts))

  step : (p : Parts) (x : Result Part ValueError) → part_of c t ≡ x → read_from p ≡ read_rest (with_part p x)
  unfolding with_parts
  step p x e = ap (λ (y : Result Part ValueError). read_rest (with_part p y)) e

  step_frequency : (k i : ℕ) (o : Option Limit) → part_of c t ≡ Ok (Part.Frequency k) → read_from (state 0 i o) ≡ read_rest (state k i o)
  unfolding with_part
  step_frequency k i o e = step (state 0 i o) (Ok (Part.Frequency k)) e

  step_interval : (d k : ℕ) (o : Option Limit) → part_of c t ≡ Ok (Part.Interval k) → read_from (state d 0 o) ≡ read_rest (state d k o)
  unfolding with_part
  step_interval d k o e = step (state d 0 o) (Ok (Part.Interval k)) e

  step_limit : (d i : ℕ) (l : Limit) → part_of c t ≡ Ok (Part.Limit l) → read_from (state d i None) ≡ read_rest (state d i (Some l))
  unfolding with_part
  step_limit d i l e = step (state d i None) (Ok (Part.Limit l)) e

  -- a part that is bad or unsupported: no rule
  module _ {A : Type 0} (d i : ℕ) (o : Option Limit) (r : Rule) (h : read_from (state d i o) ≡ Ok r) where
    stop_bad : part_of c t ≡ Err ValueError.Bad → A
    unfolding with_part
    stop_bad e = bad_no_rule (with_part (state d i o) (Err ValueError.Bad)) (map (part_of c) ts) r refl (sym (step (state d i o) (Err ValueError.Bad) e) ∙ h)

    stop_unsupported : part_of c t ≡ Err ValueError.Unsupported → A
    unfolding with_part
    stop_unsupported e =
        unsupported_no_rule (with_part (state d i o) (Err ValueError.Unsupported)) (map (part_of c) ts) r refl (sym (step (state d i o) (Err ValueError.Unsupported) e) ∙ h)

  second_frequency : {A : Type 0} (d i : ℕ) (o : Option Limit) (r : Rule) (k : ℕ) → part_of c t ≡ Ok (Part.Frequency k) → read_from (state (suc d) i o) ≡ Ok r → A
  unfolding with_part
  second_frequency d i o r k e h =
      bad_no_rule (with_part (state (suc d) i o) (Ok (Part.Frequency k))) (map (part_of c) ts) r (lt-ltb 0 (suc d) (omega arith))
      (sym (step (state (suc d) i o) (Ok (Part.Frequency k)) e) ∙ h)

  second_interval : {A : Type 0} (d i : ℕ) (o : Option Limit) (r : Rule) (k : ℕ) → part_of c t ≡ Ok (Part.Interval k) → read_from (state d (suc i) o) ≡ Ok r → A
  unfolding with_part
  second_interval d i o r k e h =
      bad_no_rule (with_part (state d (suc i) o) (Ok (Part.Interval k))) (map (part_of c) ts) r (lt-ltb 0 (suc i) (omega arith))
      (sym (step (state d (suc i) o) (Ok (Part.Interval k)) e) ∙ h)

  second_limit : {A : Type 0} (d i : ℕ) (m : Limit) (r : Rule) (l : Limit) → part_of c t ≡ Ok (Part.Limit l) → read_from (state d i (Some m)) ≡ Ok r → A
  unfolding with_part
  second_limit d i m r l e h =
      bad_no_rule (with_part (state d i (Some m)) (Ok (Part.Limit l))) (map (part_of c) ts) r refl (sym (step (state d i (Some m)) (Ok (Part.Limit l)) e) ∙ h)

-- ---- from a rule that was read to the parts that say it

-- texts are parts with known names, and these say what is left of the rule
record Reads (c : Context) (d i : ℕ) (o : Option Limit) (ts : List (List ℕ)) (r : Rule) : Type 0 where
  parts : List RulePart
  cut : ts ≡ map written parts
  known : EachKnown parts
  left : Left c d i o parts r

of_rule : (q r : Rule) → ◌≡◌ {A = Result Rule ValueError} (Ok q) (Ok r) → q ≡ r
of_rule q r e = cc

interval_end : (i : ℕ) → IntervalLeft i [] (max 1 i)
interval_end zero = OneInterval.absent
interval_end (suc i) = let e : max 1 (suc i) ≡ suc i = omega arith in (refl, e)

limit_end : (c : Context) (o : Option Limit) → LimitLeft c o [] [] (unwrap_or o Limit.Forever)
limit_end c None = OneLimit.absent
limit_end c (Some l) = (refl, refl, refl)

-- no text is left
read_end : (c : Context) (d i : ℕ) (o : Option Limit) (r : Rule) → rule_by (state d i o) ≡ Ok r → Left c d i o [] r
unfolding rule_by part_values
read_end c zero i o r h = let z : ◌≡◌ {A = ℕ} 0 1 = cc in absurd (omega arith)
read_end c (suc d) i o r h =
    let e : eqb (suc d) 0 ≡ false = ne_eqb (suc d) 0 (λ k. let n : suc d ≡ 0 = k in absurd (omega arith)) in
    let w : record { days = suc d; interval = max 1 i; limit = unwrap_or o Limit.Forever } ≡ r = of_rule _ r (rw e at h) in
    rw (← w) (record { frequency_left = (refl, refl); interval_left = interval_end i; limit_left = limit_end c o })

-- one text more: t is the part x, and the texts behind it are read
module _ (c : Context) (x : RulePart) (n : is_name x.name ≡ true) (t : List ℕ) (e : t ≡ written x) (ts : List (List ℕ)) (r : Rule)
    (ih : (d i : ℕ) (o : Option Limit) → rule_by (with_parts (state d i o) (map (part_of c) ts)) ≡ Ok r → Reads c d i o ts r) where
  named : part_of c t ≡ named_part c x.name x.value
  named = ap (part_of c) e ∙ part_written c x n

  join : (d i d' i' : ℕ) (o o' : Option Limit) → KnownName x.name → ((xs : List RulePart) → Left c d' i' o' xs r → Left c d i o (x ∷ xs) r)
      → Reads c d' i' o' ts r → Reads c d i o (t ∷ ts) r
  join d i d' i' o o' k f h =
      record {
        parts = x ∷ h.parts;
        cut = ap (λ (l : List ℕ). l ∷ ts) e ∙ ap (λ (l : List (List ℕ)). written x ∷ l) h.cut;
        known = (n, k, h.known);
        left = f h.parts h.left;
      }

  abbrev Given : ℕ → ℕ → Option Limit → Type 0
  Given d i o = read_from c t ts (state d i o) ≡ Ok r

  -- FREQ
  read_days : same_name x.name (ascii "FREQ") ≡ true → (k : ℕ) → FrequencyIs x.value k → (d i : ℕ) (o : Option Limit) → Given d i o → Reads c d i o (t ∷ ts) r
  read_days s k f zero i o h =
      let g : part_of c t ≡ Ok (Part.Frequency k) = named ∙ named_freq c x.name x.value s ∙ is_frequency x.value k f in
      join 0 i k i o o (freq s) (λ xs l. freq_add c x xs r s k i o f l) (ih k i o (sym (step_frequency c t ts k i o g) ∙ h))
  read_days s k f (suc d) i o h =
      second_frequency c t ts d i o r k (named ∙ named_freq c x.name x.value s ∙ is_frequency x.value k f) h

  read_freq : same_name x.name (ascii "FREQ") ≡ true → (a b : Bool) → same_name x.value (ascii "DAILY") ≡ a → same_name x.value (ascii "WEEKLY") ≡ b
      → (d i : ℕ) (o : Option Limit) → Given d i o → Reads c d i o (t ∷ ts) r
  read_freq s true b p q d i o h = read_days s 1 (daily p) d i o h
  read_freq s false true p q d i o h = read_days s 7 (weekly q) d i o h
  read_freq s false false p q d i o h =
      stop_unsupported c t ts d i o r h (named ∙ named_freq c x.name x.value s ∙ other_days x.value p q)

  -- INTERVAL
  read_interval : same_name x.name (ascii "INTERVAL") ≡ true → (m : Option ℕ) → number_to 999 x.value ≡ m → (d i : ℕ) (o : Option Limit) → Given d i o
      → Reads c d i o (t ∷ ts) r
  unfolding interval_by
  read_interval s (Some k) f d zero o h =
      let g : part_of c t ≡ Ok (Part.Interval k) = named ∙ named_interval c x.name x.value s ∙ ap interval_by f in
      join d 0 d k o o (interval s) (λ xs l. interval_add c x xs r s d k o (number_is 999 x.value k f) l)
      (ih d k o (sym (step_interval c t ts d k o g) ∙ h))
  read_interval s (Some k) f d (suc i) o h =
      second_interval c t ts d i o r k (named ∙ named_interval c x.name x.value s ∙ ap interval_by f) h
  read_interval s None f d i o h = stop_bad c t ts d i o r h (named ∙ named_interval c x.name x.value s ∙ ap interval_by f)

  -- COUNT
  read_count : same_name x.name (ascii "COUNT") ≡ true → (m : Option ℕ) → number_to 9999 x.value ≡ m → (d i : ℕ) (o : Option Limit) → Given d i o
      → Reads c d i o (t ∷ ts) r
  unfolding count_by
  read_count s (Some k) f d i None h =
      let g : part_of c t ≡ Ok (Part.Limit (Limit.Count k)) = named ∙ named_count c x.name x.value s ∙ ap count_by f in
      join d i d i None (Some (Limit.Count k)) (count s) (λ xs l. count_add c x xs r s d i k (number_is 9999 x.value k f) l)
      (ih d i (Some (Limit.Count k)) (sym (step_limit c t ts d i (Limit.Count k) g) ∙ h))
  read_count s (Some k) f d i (Some l) h =
      second_limit c t ts d i l r (Limit.Count k) (named ∙ named_count c x.name x.value s ∙ ap count_by f) h
  read_count s None f d i o h = stop_bad c t ts d i o r h (named ∙ named_count c x.name x.value s ∙ ap count_by f)

  -- UNTIL
  read_until : same_name x.name (ascii "UNTIL") ≡ true → (m : Option Time) → read_time c (cond (eqb (length x.value) 8) Form.Date Form.DateTime) x.value ≡ m
      → (d i : ℕ) (o : Option Limit) → Given d i o → Reads c d i o (t ∷ ts) r
  unfolding until_part until_by
  read_until s (Some u) f d i None h =
      let g : part_of c t ≡ Ok (Part.Limit (Limit.Until u)) = named ∙ named_until c x.name x.value s ∙ ap until_by f in
      join d i d i None (Some (Limit.Until u)) (until s) (λ xs l. until_add c x xs r s d i u (until_is c x.value u f) l)
      (ih d i (Some (Limit.Until u)) (sym (step_limit c t ts d i (Limit.Until u) g) ∙ h))
  read_until s (Some u) f d i (Some l) h =
      second_limit c t ts d i l r (Limit.Until u) (named ∙ named_until c x.name x.value s ∙ ap until_by f) h
  read_until s None f d i o h = stop_bad c t ts d i o r h (named ∙ named_until c x.name x.value s ∙ ap until_by f)

  read_known : KnownName x.name → (d i : ℕ) (o : Option Limit) → Given d i o → Reads c d i o (t ∷ ts) r
  read_known (freq s) d i o h = read_freq s (same_name x.value (ascii "DAILY")) (same_name x.value (ascii "WEEKLY")) refl refl d i o h
  read_known (interval s) d i o h = read_interval s (number_to 999 x.value) refl d i o h
  read_known (count s) d i o h = read_count s (number_to 9999 x.value) refl d i o h
  read_known (until s) d i o h = read_until s (read_time c (cond (eqb (length x.value) 8) Form.Date Form.DateTime) x.value) refl d i o h

  read_named : (d i : ℕ) (o : Option Limit) → Given d i o → Reads c d i o (t ∷ ts) r
  read_named d i o h =
      ⊎_elim (λ k. read_known k d i o h) (λ k. stop_unsupported c t ts d i o r h (named ∙ named_other c x.name x.value k)) (known_or_not x.name)

read_all : (c : Context) (ts : List (List ℕ)) (r : Rule) (d i : ℕ) (o : Option Limit) → rule_by (with_parts (state d i o) (map (part_of c) ts)) ≡ Ok r → Reads c d i o ts r
unfolding with_parts
read_all c [] r d i o h = record { parts = []; cut = refl; known = tt; left = read_end c d i o r h }
read_all c (t ∷ ts) r d i o h =
    ⊎_elim (λ w. read_named c w.0 w.2 t w.1 ts r (λ d i o k. read_all c ts r d i o k) d i o h) (λ w. stop_bad c t ts d i o r h w) (part_form c t)

-- ---- from parts that say a rule to that rule, read

no_frequency : {A : Type 0} {k : ℕ} → OneFrequency [] k → A
no_frequency h = elim h [ ]

interval_ended : (i n : ℕ) → IntervalLeft i [] n → max 1 i ≡ n
interval_ended zero n OneInterval.absent = refl
interval_ended (suc i) n h = omega (arith, h.1)

limit_ended : (c : Context) (o : Option Limit) (l : Limit) → LimitLeft c o [] [] l → unwrap_or o Limit.Forever ≡ l
limit_ended c None l OneLimit.absent = refl
limit_ended c (Some m) l h = sym h.2

left_end : (c : Context) (d i : ℕ) (o : Option Limit) (r : Rule) → Left c d i o [] r → rule_by (state d i o) ≡ Ok r
unfolding rule_by part_values
left_end c zero i o r h = no_frequency h.frequency_left
left_end c (suc d) i o r h =
    let e : eqb (suc d) 0 ≡ false = ne_eqb (suc d) 0 (λ k. let n : suc d ≡ 0 = k in absurd (omega arith)) in
    rw (e, sym h.frequency_left.1, interval_ended i r.interval h.interval_left, limit_ended c o r.limit h.limit_left)

module _ (c : Context) (x : RulePart) (n : is_name x.name ≡ true) (xs : List RulePart) (r : Rule)
    (ih : (d i : ℕ) (o : Option Limit) → Left c d i o xs r → rule_by (with_parts (state d i o) (map (part_of c) (map written xs))) ≡ Ok r) where
  abbrev Says : ℕ → ℕ → Option Limit → Type 0
  Says d i o = rule_by (with_parts (state d i o) (map (part_of c) (map written (x ∷ xs)))) ≡ Ok r

  says_freq : same_name x.name (ascii "FREQ") ≡ true → (d i : ℕ) (o : Option Limit) → Left c d i o (x ∷ xs) r → Says d i o
  says_freq s d i o h =
      let w = freq_take c x xs r s d i o h in
      let g : part_of c (written x) ≡ Ok (Part.Frequency r.days) =
      part_written c x n ∙ named_freq c x.name x.value s ∙ is_frequency x.value r.days w.1 in
      rw w.0 (step_frequency c (written x) (map written xs) r.days i o g ∙ ih r.days i o w.2)

  says_interval : same_name x.name (ascii "INTERVAL") ≡ true → (d i : ℕ) (o : Option Limit) → Left c d i o (x ∷ xs) r → Says d i o
  unfolding interval_by
  says_interval s d i o h =
      let w = interval_take c x xs r s d i o h in
      let g : part_of c (written x) ≡ Ok (Part.Interval r.interval) =
      part_written c x n ∙ named_interval c x.name x.value s ∙ ap interval_by (is_number 999 x.value r.interval w.1) in
      rw w.0 (step_interval c (written x) (map written xs) d r.interval o g ∙ ih d r.interval o w.2)

  says_count : same_name x.name (ascii "COUNT") ≡ true → (d i : ℕ) (o : Option Limit) → Left c d i o (x ∷ xs) r → Says d i o
  unfolding count_by
  says_count s d i o h =
      let w = count_take c x xs r s d i o h in
      let l : Limit = Limit.Count w.1.0 in
      let g : part_of c (written x) ≡ Ok (Part.Limit l) =
      part_written c x n ∙ named_count c x.name x.value s ∙ ap count_by (is_number 9999 x.value w.1.0 w.1.1) in
      rw w.0 (step_limit c (written x) (map written xs) d i l g ∙ ih d i (Some l) w.1.2)

  says_until : same_name x.name (ascii "UNTIL") ≡ true → (d i : ℕ) (o : Option Limit) → Left c d i o (x ∷ xs) r → Says d i o
  unfolding until_part until_by
  says_until s d i o h =
      let w = until_take c x xs r s d i o h in
      let l : Limit = Limit.Until w.1.0 in
      let g : part_of c (written x) ≡ Ok (Part.Limit l) =
      part_written c x n ∙ named_until c x.name x.value s ∙ ap until_by (is_until c x.value w.1.0 w.1.1) in
      rw w.0 (step_limit c (written x) (map written xs) d i l g ∙ ih d i (Some l) w.1.2)

  says_known : KnownName x.name → (d i : ℕ) (o : Option Limit) → Left c d i o (x ∷ xs) r → Says d i o
  says_known (freq s) d i o h = says_freq s d i o h
  says_known (interval s) d i o h = says_interval s d i o h
  says_known (count s) d i o h = says_count s d i o h
  says_known (until s) d i o h = says_until s d i o h

says_all : (c : Context) (xs : List RulePart) (r : Rule) → EachKnown xs → (d i : ℕ) (o : Option Limit) → Left c d i o xs r
    → rule_by (with_parts (state d i o) (map (part_of c) (map written xs))) ≡ Ok r
unfolding with_parts
says_all c [] r k d i o h = left_end c d i o r h
says_all c (x ∷ xs) r k d i o h = says_known c x k.0 xs r (λ d i o l. says_all c xs r k.2 d i o l) k.1 d i o h

-- ---- the three answers

rule_grammar : (c : Context) (v : List ℕ) (r : Rule) → rule_of c v ≡ Ok r → RuleGrammar c v r
unfolding rule_of no_parts
rule_grammar c v r h =
    let w = read_all c (plain_split 59 v) r 0 0 None h in
    record {
      parts = w.parts;
      cut = w.cut;
      known = w.known;
      frequency = w.left.frequency_left;
      interval = w.left.interval_left;
      limit = w.left.limit_left;
    }

grammar_rule : (c : Context) (v : List ℕ) (r : Rule) → RuleGrammar c v r → rule_of c v ≡ Ok r
unfolding rule_of no_parts
grammar_rule c v r g =
    rw g.cut
    (says_all c g.parts r g.known 0 0 None (record { frequency_left = g.frequency; interval_left = g.interval; limit_left = g.limit }))

-- THE THEOREM: a value gives the rule r exactly where it is written by the grammar and says r
pub rule_iff : (c : Context) (v : List ℕ) (r : Rule) → (rule_of c v ≡ Ok r) ↔ RuleGrammar c v r
rule_iff c v r = (rule_grammar c v r, grammar_rule c v r)

-- ---- what is unsupported

not_frequency : {A : Type 0} (v : List ℕ) (k : ℕ) → FrequencyIs v k → frequency_part v ≡ Err ValueError.Unsupported → A
not_frequency v k f e =
    let w : Ok (Part.Frequency k) ≡ Err ValueError.Unsupported = sym (is_frequency v k f) ∙ e in
    let z : ◌≡◌ {A = ℕ} 0 1 = cc in
    absurd (omega arith)

not_interval : {A : Type 0} (m : Option ℕ) → interval_by m ≡ Err ValueError.Unsupported → A
unfolding interval_by
not_interval (Some n) e = let z : ◌≡◌ {A = ℕ} 0 1 = cc in absurd (omega arith)
not_interval None e = let z : ◌≡◌ {A = ℕ} 0 1 = cc in absurd (omega arith)

not_count : {A : Type 0} (m : Option ℕ) → count_by m ≡ Err ValueError.Unsupported → A
unfolding count_by
not_count (Some n) e = let z : ◌≡◌ {A = ℕ} 0 1 = cc in absurd (omega arith)
not_count None e = let z : ◌≡◌ {A = ℕ} 0 1 = cc in absurd (omega arith)

not_until : {A : Type 0} (m : Option Time) → until_by m ≡ Err ValueError.Unsupported → A
unfolding until_by
not_until (Some t) e = let z : ◌≡◌ {A = ℕ} 0 1 = cc in absurd (omega arith)
not_until None e = let z : ◌≡◌ {A = ℕ} 0 1 = cc in absurd (omega arith)

module _ (c : Context) (x : RulePart) where
  freq_unsupported : same_name x.name (ascii "FREQ") ≡ true → (a b : Bool) → same_name x.value (ascii "DAILY") ≡ a → same_name x.value (ascii "WEEKLY") ≡ b
      → frequency_part x.value ≡ Err ValueError.Unsupported → Unsupported x
  freq_unsupported s true b p q e = not_frequency x.value 1 (daily p) e
  freq_unsupported s false true p q e = not_frequency x.value 7 (weekly q) e
  freq_unsupported s false false p q e = other_frequency s p q

  named_unsupported : (KnownName x.name ⊎ (KnownName x.name → ⊥)) → named_part c x.name x.value ≡ Err ValueError.Unsupported → Unsupported x
  unfolding until_part
  named_unsupported (inl (freq s)) e =
      freq_unsupported s (same_name x.value (ascii "DAILY")) (same_name x.value (ascii "WEEKLY")) refl refl
      (sym (named_freq c x.name x.value s) ∙ e)
  named_unsupported (inl (interval s)) e = not_interval (number_to 999 x.value) (sym (named_interval c x.name x.value s) ∙ e)
  named_unsupported (inl (count s)) e = not_count (number_to 9999 x.value) (sym (named_count c x.name x.value s) ∙ e)
  named_unsupported (inl (until s)) e = not_until _ (sym (named_until c x.name x.value s) ∙ e)
  named_unsupported (inr k) e = other_name k

  unsupported_named : Unsupported x → named_part c x.name x.value ≡ Err ValueError.Unsupported
  unsupported_named (other_name k) = named_other c x.name x.value k
  unsupported_named (other_frequency s p q) = named_freq c x.name x.value s ∙ other_days x.value p q

-- a text that is unsupported is a part that is
part_unsupported : (c : Context) (t : List ℕ) → part_of c t ≡ Err ValueError.Unsupported → (x : RulePart) × (t ≡ written x) × (is_name x.name ≡ true) × Unsupported x
part_unsupported c t e =
    ⊎_elim
    (λ w. (w.0, w.1, w.2, named_unsupported c w.0 (known_or_not w.0.name) (sym (part_written c w.0 w.2) ∙ ap (part_of c) (sym w.1) ∙ e)))
    (λ w. let k : Err ValueError.Bad ≡ Err ValueError.Unsupported = sym w ∙ e in let z : ◌≡◌ {A = ℕ} 0 1 = cc in absurd (omega arith))
    (part_form c t)

-- the fold finds it, wherever it stands
was_unsupported : (p : Parts) (x : Result Part ValueError) → (with_part p x).unsupported ≡ true → (p.unsupported ≡ true) ⊎ (x ≡ Err ValueError.Unsupported)
unfolding with_part
was_unsupported p (Ok (Part.Frequency d)) e = inl e
was_unsupported p (Ok (Part.Interval n)) e = inl e
was_unsupported p (Ok (Part.Limit l)) e = inl e
was_unsupported p (Err ValueError.Unsupported) e = inr refl
was_unsupported p (Err ValueError.Bad) e = inl e

abbrev UnsupportedIn : Context → List (List ℕ) → Type 0
UnsupportedIn c ts = (t : List ℕ) × Memᴰ t ts × (part_of c t ≡ Err ValueError.Unsupported)

found : (c : Context) (p : Parts) (ts : List (List ℕ)) → (with_parts p (map (part_of c) ts)).unsupported ≡ true → (p.unsupported ≡ true) ⊎ UnsupportedIn c ts
unfolding with_parts
found c p [] e = inl e
found c p (t ∷ ts) e =
    ⊎_elim (λ h. ⊎_elim (λ k. inl k) (λ k. inr (t, Memᴰ.head refl, k)) (was_unsupported p (part_of c t) h))
    (λ w. inr (w.0, Memᴰ.tail w.1, w.2))
    (found c (with_part p (part_of c t)) ts e)

there : (c : Context) (p : Parts) (ts : List (List ℕ)) (t : List ℕ) → Memᴰ t ts → part_of c t ≡ Err ValueError.Unsupported → (with_parts p (map (part_of c) ts)).unsupported ≡ true
unfolding with_parts with_part
there c p [] t x'' e = elim x'' [ ]
there c p (s ∷ ts) t (Memᴰ.head q) e =
    let f : part_of c s ≡ Err ValueError.Unsupported = ap (part_of c) (sym q) ∙ e in
    stays_unsupported (with_part p (part_of c s)) (map (part_of c) ts) (ap (λ (x : Result Part ValueError). (with_part p x).unsupported) f)
there c p (s ∷ ts) t (Memᴰ.tail m) e = there c (with_part p (part_of c s)) ts t m e

read_unsupported : (p : Parts) → rule_by p ≡ Err ValueError.Unsupported → p.unsupported ≡ true
unfolding rule_by
read_unsupported p e = go p.unsupported (p.bad || eqb p.days 0) e
  where
    go : (u b : Bool) → cond {A = Result Rule ValueError} u (Err ValueError.Unsupported) (cond b (Err ValueError.Bad) (Ok (record { days = p.days; interval = max 1 p.interval; limit = unwrap_or p.limit Limit.Forever }))) ≡ Err ValueError.Unsupported
        → u ≡ true
    go true b k = refl
    go false true k = let z : ◌≡◌ {A = ℕ} 0 1 = cc in absurd (omega arith)
    go false false k = let z : ◌≡◌ {A = ℕ} 0 1 = cc in absurd (omega arith)

has_unsupported : (c : Context) (v : List ℕ) → UnsupportedIn c (plain_split 59 v) → HasUnsupported v
has_unsupported c v w =
    let x = part_unsupported c w.0 w.2 in
    record {
      part = x.0;
      stands = subst (λ (t : List ℕ). Memᴰ t (plain_split 59 v)) x.1 w.1;
      named = x.2;
      unsupported = x.3;
    }

rule_unsupported : (c : Context) (v : List ℕ) → rule_of c v ≡ Err ValueError.Unsupported → HasUnsupported v
unfolding rule_of no_parts
rule_unsupported c v e =
    ⊎_elim (λ h. clash h refl) (has_unsupported c v)
    (found c no_parts (plain_split 59 v) (read_unsupported (with_parts no_parts (map (part_of c) (plain_split 59 v))) e))

unsupported_rule : (c : Context) (v : List ℕ) → HasUnsupported v → rule_of c v ≡ Err ValueError.Unsupported
unfolding rule_of
unsupported_rule c v h =
    unsupported_read (with_parts no_parts (map (part_of c) (plain_split 59 v)))
    (there c no_parts (plain_split 59 v) (written h.part) h.stands (part_written c h.part h.named ∙ unsupported_named c h.part h.unsupported))

-- a value is unsupported exactly where one of its parts is
pub unsupported_iff : (c : Context) (v : List ℕ) → (rule_of c v ≡ Err ValueError.Unsupported) ↔ HasUnsupported v
unsupported_iff c v = (rule_unsupported c v, unsupported_rule c v)

-- and it is bad exactly where it is neither unsupported nor written by the grammar
pub bad_iff : (c : Context) (v : List ℕ) → (rule_of c v ≡ Err ValueError.Bad) ↔ ((HasUnsupported v → ⊥) × ((r : Rule) → RuleGrammar c v r → ⊥))
bad_iff c v = (
  λ e. (
    λ h. let k : Err ValueError.Bad ≡ Err ValueError.Unsupported = sym e ∙ unsupported_rule c v h in let z : ◌≡◌ {A = ℕ} 0 1 = cc in absurd (omega arith),
    λ r g. let k : Err ValueError.Bad ≡ Ok r = sym e ∙ grammar_rule c v r g in let z : ◌≡◌ {A = ℕ} 0 1 = cc in absurd (omega arith),
  ),
  λ h. go h (rule_of c v) refl,
)
  where
    go : ((HasUnsupported v → ⊥) × ((r : Rule) → RuleGrammar c v r → ⊥)) → (a : Result Rule ValueError) → rule_of c v ≡ a → a ≡ Err ValueError.Bad
    go h (Ok r) e = absurd (h.1 r (rule_grammar c v r e))
    go h (Err ValueError.Unsupported) e = absurd (h.0 (rule_unsupported c v e))
    go h (Err ValueError.Bad) e = refl
