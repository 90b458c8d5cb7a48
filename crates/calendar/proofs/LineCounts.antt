-- The lines that the component rules count are the lines with that name, where no value is bad or unsupported.
use Rattle.std.specs.Prelude.{None, Ok, Option, Result, Some}
use Prim.Native.Nat.{ℕ}
use Rattle.calendar.specs.declared.LineError.{LineError}
use mathlib.Core.Path.{◌≡◌, refl, sym, ap, ◌∙◌, subst}
use mathlib.Core.Bool.{Bool, true, false, cond, ◌||◌}
use mathlib.Core.List.{List, [], ◌∷◌, map, Memᴰ}
use native.Mathlib.Omega.{arith}
use Rattle.ascii.specs.Bytes.{upper}
use Rattle.ascii.specs.Names.{same_name, same_bytes}
use Rattle.ascii.specs.Words.{ascii}
use Rattle.ascii.proofs.Names.{same_name_iff}
use Rattle.line.specs.Grammar.{ContentLine}
use Rattle.time.specs.Duration.{read_duration}
use Rattle.values.specs.Rule.{rule_of}
use Rattle.values.specs.Times.{form_of, time_of}
use Rattle.values.specs.declared.times.Context.{Context}
use Rattle.property.specs.Properties.{property_of, time_in, unless_zoned, type_value, value_as, before_items, items_good, with_items, property_value_of}
use Rattle.property.specs.declared.Scope.{Scope}
use Rattle.property.specs.declared.Property.{Property}
use Rattle.property.specs.Facts.{Reading, unread, fault, of, unsupported, bad, span, identity, start, end, recurrence_id}
use Rattle.property.proofs.Properties.{time_keeps, duration_keeps, rule_keeps, exceptions_keep, ranged_keeps, zoned_keeps, type_keeps, items_keep}
use Rattle.nesting.specs.Components.{Numbered, Component, properties_in}
use Rattle.events.specs.ComponentRules.{property_name, count_if, lines_named}
use Rattle.calendar.specs.Meaning.{component_scope, property_values_in, fault_or, fault_in, value_fault}
use Rattle.calendar.specs.ComponentRules.{lines_called, EventCounts, BlockCounts}

-- ---- a good value

-- neither unsupported nor bad
abbrev Good : Reading → Type 0
Good unread = Unit {0}
Good (fault f) = ⊥
Good (of f) = Unit {0}

fault_good : (n : ℕ) (s : Reading) (r : Result (Unit {0}) LineError) → fault_or n s r ≡ Ok tt → Good s × (r ≡ Ok tt)
unfolding fault_or
fault_good n unread r e = (tt, e)
fault_good n (fault unsupported) r e = let z : ◌≡◌ {A = ℕ} 0 1 = cc in absurd (omega arith)
fault_good n (fault bad) r e = let z : ◌≡◌ {A = ℕ} 0 1 = cc in absurd (omega arith)
fault_good n (of f) r e = (tt, e)

-- ---- the name of what a line says, where it is good

module _ (c : Context) (s : Scope) (x : ContentLine) where
  abbrev value_of_line : Option Property → Reading
  value_of_line p = with_items c x.value (value_as p c s x)

  -- where it is good, it has this name
  abbrev NamedSo : List ℕ → Reading → Type 0
  NamedSo w v = Good v → property_name v ≡ w

  -- looking at the items leaves the name
  named_line : (w : List ℕ) (v : Reading) → NamedSo w v → NamedSo w (with_items c x.value v)
  named_line w v h = items_keep (NamedSo w) (λ k. absurd k) c x.value v h

  named_time : (w : List ℕ) (v : Reading) → NamedSo w v → NamedSo w (with_items c x.value (unless_zoned x v))
  named_time w v h = named_line w (unless_zoned x v) (zoned_keeps (NamedSo w) (λ k. absurd k) x v h)

  start_name : NamedSo (ascii "DTSTART") (value_of_line (Some Property.Start))
  unfolding value_as property_name
  start_name = named_time (ascii "DTSTART") _ (time_keeps (NamedSo (ascii "DTSTART")) (λ k. absurd k) (λ t. span (start t)) (time_in s (time_of c x)) (λ t e h. refl))

  end_name : NamedSo (ascii "DTEND") (value_of_line (Some Property.End))
  unfolding value_as property_name
  end_name = named_time (ascii "DTEND") _ (time_keeps (NamedSo (ascii "DTEND")) (λ k. absurd k) (λ t. span (end t)) (time_in s (time_of c x)) (λ t e h. refl))

  duration_name : NamedSo (ascii "DURATION") (value_of_line (Some Property.Duration))
  unfolding value_as property_name
  duration_name = named_line (ascii "DURATION") _ (duration_keeps (NamedSo (ascii "DURATION")) (λ k. absurd k) (read_duration x.value) (λ d e h. refl))

  rule_name : NamedSo (ascii "RRULE") (value_of_line (Some Property.Rule))
  unfolding value_as property_name
  rule_name = named_line (ascii "RRULE") _ (rule_keeps (NamedSo (ascii "RRULE")) (λ k. absurd k) (λ k. absurd k) (rule_of c x.value) (λ r e h. refl))

  status_name : property_name (value_of_line (Some Property.Status)) ≡ ascii "STATUS"
  unfolding value_as with_items items_good property_name
  status_name = refl

  transparency_name : property_name (value_of_line (Some Property.Transparency)) ≡ ascii "TRANSP"
  unfolding value_as with_items items_good property_name
  transparency_name = refl

  recurrence_name : NamedSo (ascii "RECURRENCE-ID") (value_of_line (Some Property.RecurrenceId))
  unfolding value_as property_name
  recurrence_name =
      let so = NamedSo (ascii "RECURRENCE-ID") in
      named_line (ascii "RECURRENCE-ID") _
      (ranged_keeps so (λ k. absurd k) x _ (zoned_keeps so (λ k. absurd k) x _ (time_keeps so (λ k. absurd k) (λ t. identity (recurrence_id t)) (time_of c x) (λ t e h. refl))))

  exceptions_name : NamedSo (ascii "EXDATE") (value_of_line (Some Property.Exceptions))
  unfolding value_as property_name
  exceptions_name = named_time (ascii "EXDATE") _ (exceptions_keep (NamedSo (ascii "EXDATE")) (λ k. absurd k) (form_of x) (λ h. refl))

  periods_name : NamedSo (ascii "FREEBUSY") (value_of_line (Some Property.Periods))
  unfolding value_as property_name
  periods_name = named_line (ascii "FREEBUSY") (type_value x) (type_keeps (NamedSo (ascii "FREEBUSY")) (λ k. absurd k) x (λ h. refl))

-- ---- the name of the line, and the name of what it says

-- words in capitals are compared as they stand
word_name : (n u w : List ℕ) (v : Reading) → map upper u ≡ u → map upper w ≡ w → same_name n u ≡ true → property_name v ≡ u
    → same_bytes (property_name v) w ≡ same_name n w
unfolding same_name
word_name n u w v p q e f =
    ap (λ (a : List ℕ). same_bytes a w) f
    ∙ ap (λ (a : List ℕ). same_bytes a w) (sym p)
    ∙ ap (λ (a : List ℕ). same_bytes a w) (sym ((same_name_iff n u).0 e))
    ∙ ap (λ (a : List ℕ). same_bytes (map upper n) a) (sym q)

-- what a line says has the line's name, as far as the rules of a VEVENT look at it
record Agree (n : List ℕ) (v : Reading) : Type 0 where
  starts : same_bytes (property_name v) (ascii "DTSTART") ≡ same_name n (ascii "DTSTART")
  ends : same_bytes (property_name v) (ascii "DTEND") ≡ same_name n (ascii "DTEND")
  durations : same_bytes (property_name v) (ascii "DURATION") ≡ same_name n (ascii "DURATION")
  rules : same_bytes (property_name v) (ascii "RRULE") ≡ same_name n (ascii "RRULE")
  statuses : same_bytes (property_name v) (ascii "STATUS") ≡ same_name n (ascii "STATUS")
  transparencies : same_bytes (property_name v) (ascii "TRANSP") ≡ same_name n (ascii "TRANSP")

agree : (n u : List ℕ) (v : Reading) → map upper u ≡ u → same_name n u ≡ true → property_name v ≡ u → Agree n v
unfolding upper
agree n u v p e f =
    record {
      starts = word_name n u (ascii "DTSTART") v p refl e f;
      ends = word_name n u (ascii "DTEND") v p refl e f;
      durations = word_name n u (ascii "DURATION") v p refl e f;
      rules = word_name n u (ascii "RRULE") v p refl e f;
      statuses = word_name n u (ascii "STATUS") v p refl e f;
      transparencies = word_name n u (ascii "TRANSP") v p refl e f;
    }

-- one of two tests is the two tests one by one
two_tests : (a b : Bool) (p q : Option Property) → cond (a || b) p q ≡ cond a p (cond b p q)
two_tests true b p q = refl
two_tests false b p q = refl

-- the property of a name, by its comparisons
abbrev picked : Bool → Bool → Bool → Bool → Bool → Bool → Bool → Bool → Bool → Option Property → Option Property
picked s e d r t p i m x q =
    cond s (Some Property.Start)
    (cond e (Some Property.End)
    (cond d (Some Property.Duration)
    (cond r (Some Property.Rule)
    (cond t (Some Property.Status) (cond p (Some Property.Transparency) (cond i (Some Property.Uid) (cond m (Some Property.RecurrenceId) (cond x (Some Property.Exceptions) q))))))))

module _ (c : Context) (x : ContentLine) where
  abbrev named : List ℕ → Bool
  named w = same_name x.name w

  abbrev AgreesBy : Option Property → Type 0
  AgreesBy q = Good (value_of_line c Scope.Event x q) → Agree x.name (value_of_line c Scope.Event x q)

  event_agree_by : (s e d r t p i m o u : Bool) → named (ascii "DTSTART") ≡ s → named (ascii "DTEND") ≡ e → named (ascii "DURATION") ≡ d → named (ascii "RRULE") ≡ r
      → named (ascii "STATUS") ≡ t → named (ascii "TRANSP") ≡ p → named (ascii "UID") ≡ i → named (ascii "RECURRENCE-ID") ≡ m → named (ascii "EXDATE") ≡ o
      → AgreesBy (picked s e d r t p i m o (cond u (Some Property.Unsupported) None))
  unfolding upper value_as with_items items_good property_name
  event_agree_by true e d r t p i m o u es ee ed er et ep ei em eo h = agree x.name (ascii "DTSTART") _ refl es (start_name c Scope.Event x h)
  event_agree_by false true d r t p i m o u es ee ed er et ep ei em eo h = agree x.name (ascii "DTEND") _ refl ee (end_name c Scope.Event x h)
  event_agree_by false false true r t p i m o u es ee ed er et ep ei em eo h = agree x.name (ascii "DURATION") _ refl ed (duration_name c Scope.Event x h)
  event_agree_by false false false true t p i m o u es ee ed er et ep ei em eo h = agree x.name (ascii "RRULE") _ refl er (rule_name c Scope.Event x h)
  event_agree_by false false false false true p i m o u es ee ed er et ep ei em eo h = agree x.name (ascii "STATUS") _ refl et (status_name c Scope.Event x)
  event_agree_by false false false false false true i m o u es ee ed er et ep ei em eo h = agree x.name (ascii "TRANSP") _ refl ep (transparency_name c Scope.Event x)
  event_agree_by false false false false false false true m o u es ee ed er et ep ei em eo h = agree x.name (ascii "UID") _ refl ei refl
  event_agree_by false false false false false false false true o u es ee ed er et ep ei em eo h = agree x.name (ascii "RECURRENCE-ID") _ refl em (recurrence_name c Scope.Event x h)
  event_agree_by false false false false false false false false true u es ee ed er et ep ei em eo h = agree x.name (ascii "EXDATE") _ refl eo (exceptions_name c Scope.Event x h)
  event_agree_by false false false false false false false false false true es ee ed er et ep ei em eo h = absurd h
  event_agree_by false false false false false false false false false false es ee ed er et ep ei em eo h =
      record { starts = sym es; ends = sym ee; durations = sym ed; rules = sym er; statuses = sym et; transparencies = sym ep }

  event_agree : Good (property_value_of c Scope.Event x) → Agree x.name (property_value_of c Scope.Event x)
  unfolding property_value_of before_items property_of
  event_agree h =
      let s = named (ascii "DTSTART") in
      let e = named (ascii "DTEND") in
      let d = named (ascii "DURATION") in
      let r = named (ascii "RRULE") in
      let t = named (ascii "STATUS") in
      let p = named (ascii "TRANSP") in
      let i = named (ascii "UID") in
      let m = named (ascii "RECURRENCE-ID") in
      let o = named (ascii "EXDATE") in
      subst AgreesBy (ap (picked s e d r t p i m o) (two_tests (named (ascii "RDATE")) (named (ascii "EXRULE")) (Some Property.Unsupported) None))
      (event_agree_by s e d r t p i m o (named (ascii "RDATE") || named (ascii "EXRULE")) refl refl refl refl refl refl refl refl refl) h

-- the same in a VFREEBUSY, of DTSTART and DTEND
record AgreeTimes (n : List ℕ) (v : Reading) : Type 0 where
  starts : same_bytes (property_name v) (ascii "DTSTART") ≡ same_name n (ascii "DTSTART")
  ends : same_bytes (property_name v) (ascii "DTEND") ≡ same_name n (ascii "DTEND")

agree_times : (n u : List ℕ) (v : Reading) → map upper u ≡ u → same_name n u ≡ true → property_name v ≡ u → AgreeTimes n v
agree_times n u v p e f = let a = agree n u v p e f in record { starts = a.starts; ends = a.ends }

module _ (c : Context) (x : ContentLine) where
  block_agree_by : (s e p : Bool) → same_name x.name (ascii "DTSTART") ≡ s → same_name x.name (ascii "DTEND") ≡ e
      → same_name x.name (ascii "FREEBUSY") ≡ p
      → Good (value_of_line c Scope.FreeBusy x (cond s (Some Property.Start) (cond e (Some Property.End) (cond p (Some Property.Periods) None))))
      → AgreeTimes x.name (value_of_line c Scope.FreeBusy x (cond s (Some Property.Start) (cond e (Some Property.End) (cond p (Some Property.Periods) None))))
  unfolding upper value_as with_items items_good property_name
  block_agree_by true e p es ee ep h = agree_times x.name (ascii "DTSTART") _ refl es (start_name c Scope.FreeBusy x h)
  block_agree_by false true p es ee ep h = agree_times x.name (ascii "DTEND") _ refl ee (end_name c Scope.FreeBusy x h)
  block_agree_by false false true es ee ep h = agree_times x.name (ascii "FREEBUSY") _ refl ep (periods_name c Scope.FreeBusy x h)
  block_agree_by false false false es ee ep h = record { starts = sym es; ends = sym ee }

  block_agree : Good (property_value_of c Scope.FreeBusy x) → AgreeTimes x.name (property_value_of c Scope.FreeBusy x)
  unfolding property_value_of before_items property_of
  block_agree h =
      block_agree_by (same_name x.name (ascii "DTSTART")) (same_name x.name (ascii "DTEND")) (same_name x.name (ascii "FREEBUSY")) refl refl refl h

-- ---- all lines of a component

count_step : (w : List ℕ) (s : Reading) (ss : List Reading) (x : Numbered) (xs : List Numbered)
    → same_bytes (property_name s) w ≡ same_name x.line.name w → lines_named w ss ≡ lines_called w xs → lines_named w (s ∷ ss) ≡ lines_called w (x ∷ xs)
unfolding lines_named lines_called
count_step w s ss x xs e h =
    ap (λ (b : Bool). count_if b (lines_named w ss)) e ∙ ap (λ (n : ℕ). count_if (same_name x.line.name w) n) h

-- where no value of a VEVENT is bad or unsupported, its lines are counted by their names
pub event_counts : (c : Context) (xs : List Numbered) (r : Result (Unit {0}) LineError) → fault_in c Scope.Event xs r ≡ Ok tt
    → EventCounts xs (property_values_in c Scope.Event xs)
unfolding fault_in property_values_in lines_named lines_called
event_counts c [] r e = record { starts = refl; ends = refl; durations = refl; rules = refl; statuses = refl; transparencies = refl }
event_counts c (x ∷ xs) r e =
    let s = property_value_of c Scope.Event x.line in
    let ss = property_values_in c Scope.Event xs in
    let f = fault_good x.number s (fault_in c Scope.Event xs r) e in
    let a = event_agree c x.line f.0 in
    let k = event_counts c xs r f.1 in
    record {
      starts = count_step (ascii "DTSTART") s ss x xs a.starts k.starts;
      ends = count_step (ascii "DTEND") s ss x xs a.ends k.ends;
      durations = count_step (ascii "DURATION") s ss x xs a.durations k.durations;
      rules = count_step (ascii "RRULE") s ss x xs a.rules k.rules;
      statuses = count_step (ascii "STATUS") s ss x xs a.statuses k.statuses;
      transparencies = count_step (ascii "TRANSP") s ss x xs a.transparencies k.transparencies;
    }

-- and so are those of a VFREEBUSY
pub block_counts : (c : Context) (xs : List Numbered) (r : Result (Unit {0}) LineError) → fault_in c Scope.FreeBusy xs r ≡ Ok tt
    → BlockCounts xs (property_values_in c Scope.FreeBusy xs)
unfolding fault_in property_values_in lines_named lines_called
block_counts c [] r e = record { starts = refl; ends = refl }
block_counts c (x ∷ xs) r e =
    let s = property_value_of c Scope.FreeBusy x.line in
    let ss = property_values_in c Scope.FreeBusy xs in
    let f = fault_good x.number s (fault_in c Scope.FreeBusy xs r) e in
    let a = block_agree c x.line f.0 in
    let k = block_counts c xs r f.1 in
    record {
      starts = count_step (ascii "DTSTART") s ss x xs a.starts k.starts;
      ends = count_step (ascii "DTEND") s ss x xs a.ends k.ends;
    }

-- ---- all components: where 8 and 9 are not given, no component has such a value

rest_good : (c : Context) (s : Scope) (xs : List Numbered) (r : Result (Unit {0}) LineError) → fault_in c s xs r ≡ Ok tt → r ≡ Ok tt
unfolding fault_in
rest_good c s [] r e = e
rest_good c s (x ∷ xs) r e = rest_good c s xs r (fault_good x.number (property_value_of c s x.line) (fault_in c s xs r) e).1

pub values_good : (c : Context) (ks : List Component) → value_fault c ks ≡ Ok tt → (k : Component) → Memᴰ k ks
    → (r : Result (Unit {0}) LineError) × (fault_in c (component_scope k) (properties_in k.items) r ≡ Ok tt)
unfolding value_fault
values_good c [] e k x'' = elim x'' [ ]
values_good c (j ∷ ks) e k (Memᴰ.head q) =
    (value_fault c ks, subst (λ (i : Component). fault_in c (component_scope i) (properties_in i.items) (value_fault c ks) ≡ Ok tt) (sym q) e)
values_good c (j ∷ ks) e k (Memᴰ.tail m) =
    values_good c ks (rest_good c (component_scope j) (properties_in j.items) (value_fault c ks) e) k m
