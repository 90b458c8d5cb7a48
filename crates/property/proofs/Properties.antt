-- What a line says: which property a name is by its length, the value that is read,
-- what stands on a line without parameters, and how large what a line says can be.
use Rattle.std.specs.Prelude.{Err, None, Ok, Option, Result, Some}
use Prim.Native.Nat.{ℕ, ◌≤◌, ◌<◌, ◌+◌, ◌-◌}
use Rattle.values.specs.declared.rule.ValueError.{ValueError}
use Rattle.std.specs.Bool.{then_some}
use Rattle.std.specs.Option.{IsSomeAnd, MatchOption, ok_or}
use Rattle.std.specs.Result.{IsOkAnd, MatchResult}
use mathlib.Core.Path.{◌≡◌, refl, sym, ap, ◌∙◌}
use mathlib.Core.Bool.{Bool, true, false, cond, ◌||◌, true≢false}
use mathlib.Core.List.{List, [], ◌∷◌, ◌++◌}
use native.Mathlib.Omega.{arith}
use lib.Dec.{eqb}
use lib.ListN.{length, take, drop, get_or, length-map}
use borrow.Author.Tests.{eqb-false, ne_eqb, lt-ltb, le-ltb}
use Rattle.ascii.specs.Bytes.{upper}
use Rattle.ascii.specs.Names.{same_name}
use Rattle.ascii.specs.Words.{ascii}
use Rattle.ascii.proofs.Names.{same_name_iff, same_name_length}
use Rattle.time.specs.Duration.{read_duration}
use Rattle.time.specs.Limits.{last_second}
use Rattle.time.specs.declared.duration.Duration.{Duration}
use Rattle.periods.specs.declared.BusyType.{BusyType}
use Rattle.line.specs.Splitting.{next_place}
use Rattle.line.specs.Reading.{head_of, is_named, values_of, parameter_of, first_of, name_of, line_of, value_of, has_parameter, has_twice, has_list, parameters_named, some_list}
use Rattle.line.specs.Reading.{pooled, values_named, first_value}
use Rattle.line.specs.Grammar.{Parameter, ContentLine}
use Rattle.line.proofs.ReadingParameters.{parameters_from, parameters_next, parameters_end, parameters_all}
use Rattle.values.specs.declared.times.Context.{Context}
use Rattle.values.specs.Times.{form_of, time_of}
use Rattle.values.specs.Rule.{rule_of}
use Rattle.values.specs.Period.{period_items, all_periods}
use Rattle.values.specs.declared.times.Time.{Time}
use Rattle.values.specs.declared.rule.Rule.{Rule}
use Rattle.values.specs.declared.times.Form.{Form}
use Rattle.values.proofs.TimesLaws.{read_time_small, utc_only_same}
use Rattle.values.proofs.RuleLaws.{rule_of_small}
use Rattle.values.proofs.PeriodLaws.{read_duration_small}
use Rattle.property.specs.declared.Scope.{Scope}
use Rattle.property.specs.declared.Property.{Property}
use Rattle.property.specs.Facts.{SpanFact, Fact, Reading, reading_of, time_reading, unread, fault, of, unsupported, bad, span, repeats, identity, periods}
use Rattle.property.specs.Facts.{lasts, recurrence_id, exceptions}
use Rattle.property.specs.Properties.{PropertyWord, picked, words_in, property_of, value_as, before_items, with_items, property_value_of, time_in, time_fact}
use Rattle.property.specs.Properties.{exceptions_by, items_good, unless_zoned, unless_ranged, duration_by, rule_value, busy_of, type_value, gives_periods, PropertyValueSmall, busy_named}
use Rattle.property.specs.declared.PropertyValue.{PropertyValue}

-- ---- which property a name is, by its length: only the words that are as long can be meant

-- the words of so many bytes
abbrev kept_if : Bool → PropertyWord → List PropertyWord → List PropertyWord
kept_if true e es = e ∷ es
kept_if false e es = es

abbrev pub of_length : ℕ → List PropertyWord → List PropertyWord
of_length n [] = []
of_length n (e ∷ es) = kept_if (eqb n (length e.word)) e (of_length n es)

-- the words of another length than the name's need no test
length_picked : (m : List ℕ) (es : List PropertyWord) → picked m es ≡ picked m (of_length (length m) es)
length_picked m [] = refl
length_picked m (e ∷ es) = go (eqb (length m) (length e.word)) refl (length_picked m es)
  where
    go : (t : Bool) → eqb (length m) (length e.word) ≡ t → picked m es ≡ picked m (of_length (length m) es)
        → picked m (e ∷ es) ≡ picked m (kept_if t e (of_length (length m) es))
    go true q h = ap (λ (p : Option Property). cond (same_name m e.word) (Some e.means) p) h
    go false q h =
        ap (λ (t : Bool). cond t (Some e.means) (picked m es)) (same_name_length m e.word (eqb-false _ _ q)) ∙ h

-- the law: the words of n bytes decide of a name of n bytes
pub by_length : (s : Scope) (m : List ℕ) (n : ℕ) → length m ≡ n → property_of s m ≡ picked m (of_length n (words_in s))
unfolding property_of
by_length s m n h = length_picked m (words_in s) ∙ ap (λ (k : ℕ). picked m (of_length k (words_in s))) h

-- the words es are left, and decide of the name m
pub record WordsLeft (s : Scope) (m : List ℕ) (es : List PropertyWord) : Type 0 where
  pub decide : property_of s m ≡ picked m es

pub words_of_length : {s : Scope} {m : List ℕ} (n : ℕ) → length m ≡ n → WordsLeft s m (of_length n (words_in s))
words_of_length {s} {m} n h = record { decide = by_length s m n h }

-- the first of them is tried, and t says whether it is the name
module _ {s : Scope} {m : List ℕ} {e : PropertyWord} {es : List PropertyWord} {t : Bool} (q : t ≡ same_name m e.word) (w : WordsLeft s m (e ∷ es)) where
  decided : cond t (Some e.means) (picked m es) ≡ property_of s m
  decided = ap (λ (b : Bool). cond b (Some e.means) (picked m es)) q ∙ sym w.decide

  pub word_found : t ≡ true → Some e.means ≡ property_of s m
  word_found h = ap (λ (b : Bool). cond b (Some e.means) (picked m es)) (sym h) ∙ decided

  pub word_other : t ≡ false → WordsLeft s m es
  word_other h = record { decide = sym (ap (λ (b : Bool). cond b (Some e.means) (picked m es)) (sym h) ∙ decided) }

-- the last word is the name, or none is
pub word_last : {s : Scope} {m : List ℕ} {e : PropertyWord} {t : Bool} {r : Option Property} → t ≡ same_name m e.word → WordsLeft s m (e ∷ [])
    → r ≡ then_some t e.means → r ≡ property_of s m
word_last {t = t} q w h = h ∙ go t _ ∙ decided q w
  where
    go : (b : Bool) (p : Property) → then_some b p ≡ cond b (Some p) None
    go true p = refl
    go false p = refl

-- no word of a VEVENT is as long as that
pub event_unread : (m : List ℕ) (n : ℕ) → length m ≡ n → (n ≡ 3 → ⊥) → (n ≡ 5 → ⊥) → (n ≡ 6 → ⊥) → (n ≡ 7 → ⊥) → (n ≡ 8 → ⊥) → (n ≡ 13 → ⊥)
    → None ≡ property_of Scope.Event m
event_unread m n h u a b c d e =
    sym
    (by_length Scope.Event m n h
    ∙ ap (picked m) (let z : of_length n (words_in Scope.Event) ≡ [] = rw (ne_eqb n 3 u, ne_eqb n 5 a, ne_eqb n 6 b, ne_eqb n 7 c, ne_eqb n 8 d, ne_eqb n 13 e) in z))

pub free_busy_unread : (m : List ℕ) (n : ℕ) → length m ≡ n → (n ≡ 5 → ⊥) → (n ≡ 7 → ⊥) → (n ≡ 8 → ⊥) → None ≡ property_of Scope.FreeBusy m
free_busy_unread m n h a b c =
    sym
    (by_length Scope.FreeBusy m n h
    ∙ ap (picked m) (let z : of_length n (words_in Scope.FreeBusy) ≡ [] = rw (ne_eqb n 5 a, ne_eqb n 7 b, ne_eqb n 8 c) in z))

-- ---- a line without parameters: its value stands behind the colon, its time is a DATE-TIME, it has neither TZID nor RANGE, and its periods are busy

-- the empty word names BUSY
unnamed_busy : busy_named [] ≡ BusyType.Busy
unfolding busy_named same_name
unnamed_busy = refl

module _ (x : ContentLine) (e : x.parameters ≡ []) where
  pub plain_form : Form.DateTime ≡ form_of x
  unfolding form_of has_parameter has_twice has_list parameters_named some_list
  plain_form = rw e

  pub plain_without : (n : List ℕ) → false ≡ has_parameter n x
  unfolding has_parameter parameters_named
  plain_without n = rw e

  plain_busy : busy_of x ≡ BusyType.Busy
  unfolding busy_of first_value values_named pooled parameters_named
  plain_busy = rw e unnamed_busy

  pub plain_type : of (periods BusyType.Busy) ≡ type_value x
  unfolding type_value has_twice has_list parameters_named some_list
  plain_type = rw (plain_busy, e)

-- ---- a line with one parameter: it alone decides the type

first_only : (vs : List (List ℕ)) → get_or vs 0 [] ≡ first_of (vs ++ [])
first_only [] = refl
first_only (v ∷ vs) = refl

-- behind the first semicolon of the head there is no other
pub one_parameter : (l h : List ℕ) (at e : ℕ) → h ≡ head_of l → at ≡ next_place true 59 h 0 → at < length h → e ≡ next_place true 59 h (at + 1) → length h ≤ e
    → (line_of l).parameters ≡ parameter_of (take (e - (at + 1)) (drop (at + 1) h)) ∷ []
one_parameter l h at e q p k w z =
    sym (ap (parameters_from h) p ∙ parameters_all l h q)
    ∙ parameters_next h at e k w
    ∙ ap (λ (ps : List Parameter). parameter_of (take (e - (at + 1)) (drop (at + 1) h)) ∷ ps) (parameters_end h e z)

module _ (t : List ℕ) (x : ContentLine) (e : x.parameters ≡ parameter_of t ∷ []) where
  pub one_other : is_named (ascii "FBTYPE") t ≡ false → of (periods BusyType.Busy) ≡ type_value x
  unfolding type_value has_twice has_list parameters_named some_list busy_of first_value values_named pooled parameter_of is_named
  one_other h = rw (e, h) (ap (λ (y : BusyType). of (periods y)) (sym unnamed_busy))

  module _ (h : is_named (ascii "FBTYPE") t ≡ true) {n : ℕ} (k : n ≡ length (values_of t)) where
    pub one_list : 1 < n → fault bad ≡ type_value x
    unfolding type_value has_twice has_list parameters_named some_list parameter_of is_named
    one_list z = rw (e, h, lt-ltb 1 (length (values_of t)) (omega (arith, z, k)))

    pub one_type : n ≤ 1 → {w : List ℕ} {b : BusyType} → w ≡ get_or (values_of t) 0 [] → b ≡ busy_named w → of (periods b) ≡ type_value x
    unfolding type_value has_twice has_list parameters_named some_list busy_of first_value values_named pooled parameter_of is_named
    one_type z {w} {b} p q =
        rw (e, h, le-ltb 1 (length (values_of t)) (omega (arith, z, k)))
        (ap (λ (y : BusyType). of (periods y)) (q ∙ ap busy_named (p ∙ first_only (values_of t))))

-- a name that is not read
pub unread_line : (c : Context) (s : Scope) (l : List ℕ) → property_of s (name_of l) ≡ None → unread ≡ before_items c s (line_of l)
unfolding before_items value_as line_of
unread_line c s l h = rw h

-- ---- a time that is a line's value

-- of a time that may be there
pub time_or_bad : (f : Time → Fact) (r : Option Time) {q : Result Time ValueError} → q ≡ ok_or r ValueError.Bad → time_reading f q ≡ time_fact f r
unfolding time_reading time_fact
time_or_bad f r h = ap (time_reading f) h ∙ go r
  where
    go : (o : Option Time) → time_reading f (ok_or o ValueError.Bad) ≡ time_fact f o
    go (Some t) = refl
    go None = refl

-- the line says what its time does
pub time_said : (g : Time → PropertyValue) (f : Time → Fact) (r : Result Time ValueError) (q : Result PropertyValue ValueError)
    → ((t : Time) → reading_of (Ok (g t)) ≡ of (f t))
    → MatchResult r (λ t. IsOkAnd q (λ y. y ≡ g t)) (λ e. q ≡ Err e) → reading_of q ≡ time_reading f r
unfolding reading_of time_reading
time_said g f (Ok t) (Ok y) h e = ap (λ (v : PropertyValue). reading_of (Ok v)) e ∙ h t
time_said g f (Ok t) (Err d) h e = elim e [ ]
time_said g f (Err ValueError.Unsupported) q h e = rw e
time_said g f (Err ValueError.Bad) q h e = rw e

-- ---- so with a duration, a rule and a form

pub duration_said : (r : Option Duration) (q : Option PropertyValue) {w : Result PropertyValue ValueError}
    → MatchOption r (q ≡ None) (λ d. IsSomeAnd q (λ y. y ≡ PropertyValue.Lasts d)) → w ≡ ok_or q ValueError.Bad → reading_of w ≡ duration_by r
unfolding reading_of duration_by
duration_said (Some d) (Some y) h e = rw (e, h)
duration_said (Some d) None h e = elim h [ ]
duration_said None q h e = rw (e, h)

pub rule_said : (r : Result Rule ValueError) (q : Result PropertyValue ValueError)
    → MatchResult r (λ x. IsOkAnd q (λ y. y ≡ PropertyValue.Repeats x)) (λ e. q ≡ Err e) → reading_of q ≡ rule_value r
unfolding reading_of rule_value
rule_said (Ok x) (Ok y) h = rw h
rule_said (Ok x) (Err d) h = elim h [ ]
rule_said (Err ValueError.Unsupported) q h = rw h
rule_said (Err ValueError.Bad) q h = rw h

pub form_said : (f : Form) → (f ≡ Form.Wrong → ⊥) → of (identity (exceptions f)) ≡ exceptions_by f
unfolding exceptions_by
form_said Form.DateTime h = refl
form_said Form.Date h = refl
form_said Form.Wrong h = absurd (h refl)

-- ---- a claim about what a line says holds where it holds of what each reading can come to

module _ (P : Reading → Type 0) where
  pub time_keeps : P (fault bad) → (f : Time → Fact) (r : Option Time) → ((t : Time) → r ≡ Some t → P (of (f t))) → P (time_fact f r)
  unfolding time_fact
  time_keeps b f (Some t) h = h t refl
  time_keeps b f None h = b

  pub exceptions_keep : P (fault bad) → (f : Form) → P (of (identity (exceptions f))) → P (exceptions_by f)
  unfolding exceptions_by
  exceptions_keep b Form.DateTime h = h
  exceptions_keep b Form.Date h = h
  exceptions_keep b Form.Wrong h = b

  pub duration_keeps : P (fault bad) → (r : Option Duration) → ((d : Duration) → r ≡ Some d → P (of (span (lasts d)))) → P (duration_by r)
  unfolding duration_by
  duration_keeps b (Some d) h = h d refl
  duration_keeps b None h = b

  pub rule_keeps : P (fault unsupported) → P (fault bad) → (q : Result Rule ValueError) → ((r : Rule) → q ≡ Ok r → P (of (repeats r))) → P (rule_value q)
  unfolding rule_value
  rule_keeps u b (Ok r) h = h r refl
  rule_keeps u b (Err ValueError.Unsupported) h = u
  rule_keeps u b (Err ValueError.Bad) h = b

  either_keeps : (t : Bool) (a b : Reading) → P a → P b → P (cond t a b)
  either_keeps true a b h k = h
  either_keeps false a b h k = k

  pub zoned_keeps : P (fault unsupported) → (x : ContentLine) (v : Reading) → P v → P (unless_zoned x v)
  unfolding unless_zoned
  zoned_keeps u x v h = either_keeps (has_parameter (ascii "TZID") x) _ _ u h

  pub ranged_keeps : P (fault unsupported) → (x : ContentLine) (v : Reading) → P v → P (unless_ranged x v)
  unfolding unless_ranged
  ranged_keeps u x v h = either_keeps (has_parameter (ascii "RANGE") x) _ _ u h

  pub type_keeps : P (fault bad) → (x : ContentLine) → P (of (periods (busy_of x))) → P (type_value x)
  unfolding type_value
  type_keeps b x h = either_keeps (has_twice (ascii "FBTYPE") x || has_list (ascii "FBTYPE") x) _ _ b h

  pub items_keep : P (fault bad) → (c : Context) (w : List ℕ) (v : Reading) → P v → P (with_items c w v)
  unfolding with_items
  items_keep b c w unread h = h
  items_keep b c w (fault f) h = h
  items_keep b c w (of f) h = either_keeps (items_good c w f) _ _ h b

-- ---- periods

-- only FREEBUSY gives periods
abbrev is_periods : Option Property → Bool
is_periods (Some Property.Start) = false
is_periods (Some Property.End) = false
is_periods (Some Property.Duration) = false
is_periods (Some Property.Rule) = false
is_periods (Some Property.Status) = false
is_periods (Some Property.Transparency) = false
is_periods (Some Property.Uid) = false
is_periods (Some Property.RecurrenceId) = false
is_periods (Some Property.Exceptions) = false
is_periods (Some Property.Periods) = true
is_periods (Some Property.Unsupported) = false
is_periods None = false

abbrev GivesNone : Reading → Type 0
GivesNone v = gives_periods v ≡ false

none_as : (p : Option Property) (c : Context) (s : Scope) (x : ContentLine) → is_periods p ≡ false → GivesNone (value_as p c s x)
unfolding value_as gives_periods
none_as (Some Property.Start) c s x h = zoned_keeps GivesNone refl x _ (time_keeps GivesNone refl (λ t. span (SpanFact.start t)) (time_in s (time_of c x)) (λ t e. refl))
none_as (Some Property.End) c s x h = zoned_keeps GivesNone refl x _ (time_keeps GivesNone refl (λ t. span (SpanFact.end t)) (time_in s (time_of c x)) (λ t e. refl))
none_as (Some Property.Duration) c s x h = duration_keeps GivesNone refl (read_duration x.value) (λ d e. refl)
none_as (Some Property.Rule) c s x h = rule_keeps GivesNone refl refl (rule_of c x.value) (λ r e. refl)
none_as (Some Property.Status) c s x h = refl
none_as (Some Property.Transparency) c s x h = refl
none_as (Some Property.Uid) c s x h = refl
none_as (Some Property.RecurrenceId) c s x h =
    ranged_keeps GivesNone refl x _ (zoned_keeps GivesNone refl x _ (time_keeps GivesNone refl (λ t. identity (recurrence_id t)) (time_of c x) (λ t e. refl)))
none_as (Some Property.Exceptions) c s x h = zoned_keeps GivesNone refl x _ (exceptions_keep GivesNone refl (form_of x) refl)
none_as (Some Property.Periods) c s x h = absurd (true≢false h)
none_as (Some Property.Unsupported) c s x h = refl
none_as None c s x h = refl

no_periods : (p : Option Property) (c : Context) (s : Scope) (x : ContentLine) (v : List ℕ) → is_periods p ≡ false → GivesNone (with_items c v (value_as p c s x))
unfolding gives_periods
no_periods p c s x v h = items_keep GivesNone refl c v (value_as p c s x) (none_as p c s x h)

-- what a line says as FREEBUSY, and as anything else
same_length : (m w : List ℕ) → same_name m w ≡ true → length m ≡ length w
same_length m w h = sym (length-map m upper) ∙ ap length ((same_name_iff m w).0 h) ∙ length-map w upper

module _ (c : Context) (l : List ℕ) where
  free_busy_named : same_name (name_of l) (ascii "FREEBUSY") ≡ true → property_of Scope.FreeBusy (name_of l) ≡ Some Property.Periods
  free_busy_named h = by_length Scope.FreeBusy (name_of l) 8 (same_length (name_of l) (ascii "FREEBUSY") h) ∙ rw h

  module _ (t : Bool) (e : t ≡ (has_twice (ascii "FBTYPE") (line_of l) || has_list (ascii "FBTYPE") (line_of l))) (h : same_name (name_of l) (ascii "FREEBUSY") ≡ true) where
    pub bad_type : t ≡ true → false ≡ gives_periods (property_value_of c Scope.FreeBusy (line_of l))
    unfolding property_value_of before_items value_as type_value with_items items_good gives_periods line_of
    bad_type k = rw (free_busy_named h, sym e ∙ k)

    pub good_type : t ≡ false → (v : List ℕ) → v ≡ value_of l → (b : Bool) → b ≡ all_periods (period_items v) → b ≡ gives_periods (property_value_of c Scope.FreeBusy (line_of l))
    unfolding property_value_of before_items value_as type_value with_items items_good gives_periods line_of
    good_type k v f b q = rw (free_busy_named h, sym e ∙ k) (go (all_periods (period_items (value_of l))) (q ∙ ap (λ (w : List ℕ). all_periods (period_items w)) f))
      where
        go : (y : Bool) → b ≡ y → b ≡ gives_periods (cond y (of (periods (busy_of (line_of l)))) (fault bad))
        go true z = z
        go false z = z

  pub other_name : same_name (name_of l) (ascii "FREEBUSY") ≡ false → false ≡ gives_periods (property_value_of c Scope.FreeBusy (line_of l))
  unfolding property_value_of before_items property_of line_of
  other_name h = go (same_name (name_of l) (ascii "DTSTART")) (same_name (name_of l) (ascii "DTEND")) (same_name (name_of l) (ascii "FREEBUSY")) h
    where
      go : (x y z : Bool) → z ≡ false
          → false ≡ gives_periods (with_items c (value_of l) (value_as (cond x (Some Property.Start) (cond y (Some Property.End) (cond z (Some Property.Periods) None))) c Scope.FreeBusy (line_of l)))
      go true y z k = sym (no_periods (Some Property.Start) c Scope.FreeBusy (line_of l) (value_of l) refl)
      go false true z k = sym (no_periods (Some Property.End) c Scope.FreeBusy (line_of l) (value_of l) refl)
      go false false true k = absurd (true≢false k)
      go false false false k = sym (no_periods None c Scope.FreeBusy (line_of l) (value_of l) refl)

-- so a line directly in a VEVENT gives none
-- no word of a table that has no such word means it
abbrev none_means : List PropertyWord → Type 0
none_means [] = Unit {0}
none_means (e ∷ es) = (is_periods (Some e.means) ≡ false) × none_means es

picked_none : (m : List ℕ) (es : List PropertyWord) → none_means es → is_periods (picked m es) ≡ false
picked_none m [] h = refl
picked_none m (e ∷ es) h = go (same_name m e.word) (picked_none m es h.1)
  where
    go : (t : Bool) → is_periods (picked m es) ≡ false → is_periods (cond t (Some e.means) (picked m es)) ≡ false
    go true k = h.0
    go false k = k

pub event_periods_lem : (c : Context) (x : ContentLine) → gives_periods (property_value_of c Scope.Event x) ≡ false
unfolding property_value_of before_items property_of
event_periods_lem c x =
    no_periods (property_of Scope.Event x.name) c Scope.Event x x.value
    (picked_none x.name (words_in Scope.Event) (refl, (refl, (refl, (refl, (refl, (refl, (refl, (refl, (refl, (refl, (refl, tt))))))))))))

-- ---- how large what a line says can be

-- a time is the one that the line gives, in each component
time_in_same : (s : Scope) (r : Option Time) (t : Time) → time_in s r ≡ Some t → r ≡ Some t
unfolding time_in
time_in_same Scope.Event r t e = e
time_in_same Scope.FreeBusy r t e = utc_only_same r t e
time_in_same Scope.Other r t e = e

time_of_small : (c : Context) (x : ContentLine) (t : Time) → time_of c x ≡ Some t → t.second ≤ last_second
unfolding time_of
time_of_small c x t e = read_time_small c (form_of x) x.value t e

time_in_small : (c : Context) (s : Scope) (x : ContentLine) (t : Time) → time_in s (time_of c x) ≡ Some t → t.second ≤ last_second
time_in_small c s x t e = time_of_small c x t (time_in_same s (time_of c x) t e)

value_as_small : (p : Option Property) (c : Context) (s : Scope) (x : ContentLine) → PropertyValueSmall (value_as p c s x)
unfolding value_as
value_as_small (Some Property.Start) c s x =
    zoned_keeps PropertyValueSmall tt x _ (time_keeps PropertyValueSmall tt (λ t. span (SpanFact.start t)) (time_in s (time_of c x)) (λ t. time_in_small c s x t))
value_as_small (Some Property.End) c s x = zoned_keeps PropertyValueSmall tt x _ (time_keeps PropertyValueSmall tt (λ t. span (SpanFact.end t)) (time_in s (time_of c x)) (λ t. time_in_small c s x t))
value_as_small (Some Property.Duration) c s x = duration_keeps PropertyValueSmall tt (read_duration x.value) (λ d. read_duration_small x.value d)
value_as_small (Some Property.Rule) c s x = rule_keeps PropertyValueSmall tt tt (rule_of c x.value) (λ r. rule_of_small c x.value r)
value_as_small (Some Property.Status) c s x = tt
value_as_small (Some Property.Transparency) c s x = tt
value_as_small (Some Property.Uid) c s x = tt
value_as_small (Some Property.RecurrenceId) c s x =
    ranged_keeps PropertyValueSmall tt x _ (zoned_keeps PropertyValueSmall tt x _ (time_keeps PropertyValueSmall tt (λ t. identity (recurrence_id t)) (time_of c x) (λ t. time_of_small c x t)))
value_as_small (Some Property.Exceptions) c s x = zoned_keeps PropertyValueSmall tt x _ (exceptions_keep PropertyValueSmall tt (form_of x) tt)
value_as_small (Some Property.Periods) c s x = type_keeps PropertyValueSmall tt x tt
value_as_small (Some Property.Unsupported) c s x = tt
value_as_small None c s x = tt

-- what a line says is small: times are within the limits, durations and rules as their readers leave them
pub property_value_of_small : (c : Context) (s : Scope) (x : ContentLine) → PropertyValueSmall (property_value_of c s x)
unfolding property_value_of before_items
property_value_of_small c s x = items_keep PropertyValueSmall tt c x.value (before_items c s x) (value_as_small (property_of s x.name) c s x)
