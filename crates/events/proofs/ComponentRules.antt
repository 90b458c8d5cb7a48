-- THE THEOREMS of component rules: a VEVENT and a VFREEBUSY are read exactly where their lines keep the rules, and are broken otherwise.
use Rattle.std.specs.Prelude.{None, Option, Some, is_some}
use Prim.Native.Nat.{ℕ, zero, suc, ◌+◌, ◌≤◌, ◌<◌}
use mathlib.Core.Path.{◌≡◌, refl, sym, ap, ◌∙◌, subst}
use mathlib.Core.Bool.{Bool, true, false, cond, ◌&&◌, ◌||◌}
use mathlib.Core.Logic.{◌↔◌, ◌⊎◌, inl, inr, ⊎_elim}
use mathlib.Core.List.{List, [], ◌∷◌, Memᴰ}
use native.Mathlib.Omega.{arith}
use lib.Dec.{ltb, leb}
use borrow.Author.Tests.{leb-true, ltb-true, lt-ltb, le-leb, eqb-true, eq-eqb}
use Rattle.ascii.specs.Names.{same_bytes}
use Rattle.ascii.specs.Words.{ascii}
use Rattle.ascii.proofs.Bools.{and_left, and_right, or_left, or_by_right, clash}
use Rattle.time.specs.declared.date_time.Kind.{Kind}
use Rattle.time.specs.declared.duration.Duration.{Duration}
use Rattle.values.specs.declared.times.Time.{Time}
use Rattle.values.specs.declared.rule.Limit.{Limit}
use Rattle.values.specs.declared.rule.Rule.{Rule}
use Rattle.property.specs.declared.Status.{Status}
use Rattle.property.specs.Facts.{Reading, unread, fault, of, span, repeats, busy, identity, periods}
use Rattle.property.specs.Facts.{start, end, lasts, status, transparent, uid, recurrence_id, exceptions}
use Rattle.events.specs.ComponentProperties.{no_properties, with_span, with_busy, with_property, with_properties}
use Rattle.events.specs.ComponentRules.{property_name, count_if, lines_named, EndFits, DurationFits, UntilFits, EventRules, BlockRules, BlockLines}
use Rattle.events.specs.EntryRows.{kind_of}
use Rattle.events.specs.Events.{kind_number, same_kind, is_date, stated_end, stated_duration, ending_by, limit_by, repeat_by, event_made, event_with, event_from, event_by, block_between, block_from, block_by}
use Rattle.events.specs.declared.Ending.{Ending}
use Rattle.events.specs.declared.Repeat.{Repeat}
use Rattle.events.specs.declared.Event.{Event}
use Rattle.events.specs.declared.Block.{Block}
use Rattle.events.specs.declared.ComponentProperties.{ComponentProperties}
use Rattle.events.proofs.EntryRows.{kind_back}

-- ---- how many lines: none stands twice exactly where there is at most one of each, those read before counted in

-- a: does a property stand twice? b: was this one there before? n lines of it follow this one
once_more : (a b : Bool) (n : ℕ) → (a || b) ≡ false → suc n ≤ 1 → count_if b (suc n) ≤ 1
once_more a true n e h = clash (or_by_right a refl) e
once_more a false n e h = h

still_once : (a b : Bool) (n : ℕ) → a ≡ false → count_if b (suc n) ≤ 1 → (a || b) ≡ false
still_once a true n e h = absurd (omega arith)
still_once a false n e h = rw e

one_less : (b : Bool) (n : ℕ) → count_if b (suc n) ≤ 1 → suc n ≤ 1
one_less true n h = omega arith
one_less false n h = h

abbrev Counts : ComponentProperties → List Reading → Type 0
Counts g ss =
    (g.repeated ≡ false)
    × (count_if (is_some g.span.start) (lines_named (ascii "DTSTART") ss) ≤ 1)
    × (count_if (is_some g.span.end) (lines_named (ascii "DTEND") ss) ≤ 1)
    × (count_if (is_some g.span.lasts) (lines_named (ascii "DURATION") ss) ≤ 1)
    × (count_if (is_some g.repeats) (lines_named (ascii "RRULE") ss) ≤ 1)
    × (count_if (is_some g.busy.status) (lines_named (ascii "STATUS") ss) ≤ 1)
    × (count_if (is_some g.busy.transparency) (lines_named (ascii "TRANSP") ss) ≤ 1)

step_counts : (g : ComponentProperties) (s : Reading) (ss : List Reading) → Counts (with_property g s) ss → Counts g (s ∷ ss)
unfolding with_property with_span with_busy lines_named property_name
step_counts g unread ss h = h
step_counts g (fault f) ss h = h
step_counts g (of (identity uid)) ss h = h
step_counts g (of (identity (recurrence_id t))) ss h = h
step_counts g (of (identity (exceptions f))) ss h = h
step_counts g (of (periods b)) ss h = h
step_counts g (of (span (start t))) ss h =
    (or_left g.repeated _ h.0, once_more g.repeated _ _ h.0 h.1, h.2, h.3, h.4, h.5, h.6)
step_counts g (of (span (end t))) ss h =
    (or_left g.repeated _ h.0, h.1, once_more g.repeated _ _ h.0 h.2, h.3, h.4, h.5, h.6)
step_counts g (of (span (lasts d))) ss h =
    (or_left g.repeated _ h.0, h.1, h.2, once_more g.repeated _ _ h.0 h.3, h.4, h.5, h.6)
step_counts g (of (repeats r)) ss h =
    (or_left g.repeated _ h.0, h.1, h.2, h.3, once_more g.repeated _ _ h.0 h.4, h.5, h.6)
step_counts g (of (busy (status x))) ss h =
    (or_left g.repeated _ h.0, h.1, h.2, h.3, h.4, once_more g.repeated _ _ h.0 h.5, h.6)
step_counts g (of (busy (transparent x))) ss h =
    (or_left g.repeated _ h.0, h.1, h.2, h.3, h.4, h.5, once_more g.repeated _ _ h.0 h.6)

counts_step : (g : ComponentProperties) (s : Reading) (ss : List Reading) → Counts g (s ∷ ss) → Counts (with_property g s) ss
unfolding with_property with_span with_busy lines_named property_name
counts_step g unread ss h = h
counts_step g (fault f) ss h = h
counts_step g (of (identity uid)) ss h = h
counts_step g (of (identity (recurrence_id t))) ss h = h
counts_step g (of (identity (exceptions f))) ss h = h
counts_step g (of (periods b)) ss h = h
counts_step g (of (span (start t))) ss h = (still_once g.repeated _ _ h.0 h.1, one_less (is_some g.span.start) _ h.1, h.2, h.3, h.4, h.5, h.6)
counts_step g (of (span (end t))) ss h = (still_once g.repeated _ _ h.0 h.2, h.1, one_less (is_some g.span.end) _ h.2, h.3, h.4, h.5, h.6)
counts_step g (of (span (lasts d))) ss h = (still_once g.repeated _ _ h.0 h.3, h.1, h.2, one_less (is_some g.span.lasts) _ h.3, h.4, h.5, h.6)
counts_step g (of (repeats r)) ss h = (still_once g.repeated _ _ h.0 h.4, h.1, h.2, h.3, one_less (is_some g.repeats) _ h.4, h.5, h.6)
counts_step g (of (busy (status x))) ss h = (still_once g.repeated _ _ h.0 h.5, h.1, h.2, h.3, h.4, one_less (is_some g.busy.status) _ h.5, h.6)
counts_step g (of (busy (transparent x))) ss h = (still_once g.repeated _ _ h.0 h.6, h.1, h.2, h.3, h.4, h.5, one_less (is_some g.busy.transparency) _ h.6)

count_one : (b : Bool) → count_if b 0 ≤ 1
count_one true = omega arith
count_one false = omega arith

not_repeated : (ss : List Reading) (g : ComponentProperties) → (with_properties g ss).repeated ≡ false → Counts g ss
unfolding with_properties lines_named
not_repeated [] g e = (
  e,
  count_one (is_some g.span.start),
  count_one (is_some g.span.end),
  count_one (is_some g.span.lasts),
  count_one (is_some g.repeats),
  count_one (is_some g.busy.status),
  count_one (is_some g.busy.transparency),
)
not_repeated (s ∷ ss) g e = step_counts g s ss (not_repeated ss (with_property g s) e)

counted : (ss : List Reading) (g : ComponentProperties) → Counts g ss → (with_properties g ss).repeated ≡ false
unfolding with_properties
counted [] g h = h.0
counted (s ∷ ss) g h = counted ss (with_property g s) (counts_step g s ss h)

-- ---- one property: what the lines say of it, and what is kept of them

-- a line s is of the property, or of another, and then its part of what is kept stays
abbrev Step : (A O : Type 0) → List ℕ → (A → Reading) → (ComponentProperties → O) → ComponentProperties → Reading → Type 0
Step A O name con field g s = ((same_bytes (property_name s) name ≡ false) × (field (with_property g s) ≡ field g)) ⊎ ((a : A) × (s ≡ con a))

-- the part of a property in what is kept: what a line says of it, or none
pub record Part (A O : Type 0) : Type 0 where
  pub given : A → O
  pub none : O

-- it tells what was given, and that something was
record Tells {A O : Type 0} (p : Part A O) : Type 0 where
  same : (a b : A) → p.given a ≡ p.given b → a ≡ b
  apart : (a : A) → p.none ≡ p.given a → ⊥

-- a property: `con` makes what a line of it says, and `field` is its part
record Kept (A O : Type 0) (p : Part A O) : Type 0 where
  name : List ℕ
  con : A → Reading
  field : ComponentProperties → O
  tells : Tells p
  named : (a : A) → same_bytes (property_name (con a)) name ≡ true
  first : field no_properties ≡ p.none
  sets : (g : ComponentProperties) (a : A) → field (with_property g (con a)) ≡ p.given a
  step : (g : ComponentProperties) (s : Reading) → Step A O name con field g s

abbrev kept_of : {A O : Type 0} {p : Part A O} (name : List ℕ) (con : A → Reading) (field : ComponentProperties → O) → Tells p
    → ((a : A) → same_bytes (property_name (con a)) name ≡ true) → field no_properties ≡ p.none
    → ((g : ComponentProperties) (a : A) → field (with_property g (con a)) ≡ p.given a)
    → ((g : ComponentProperties) (s : Reading) → Step A O name con field g s) → Kept A O p
kept_of name con field tells named first sets step =
    record { name = name; con = con; field = field; tells = tells; named = named; first = first; sets = sets; step = step }

-- what the lines of a component say together
abbrev pub together : List Reading → ComponentProperties
together ss = with_properties no_properties ss

-- THE LAWS of a property: its part of what the lines say together, by the lines of it
pub record KeptLaws {A O : Type 0} (p : Part A O) (name : List ℕ) (con : A → Reading) (part : O) (ss : List Reading) : Type 0 where
  pub said : (a : A) → part ≡ p.given a → Memᴰ (con a) ss
  pub holds : (a : A) → Memᴰ (con a) ss → lines_named name ss ≤ 1 → part ≡ p.given a
  pub absent : lines_named name ss ≡ 0 → part ≡ p.none
  pub line : 1 ≤ lines_named name ss → (a : A) × Memᴰ (con a) ss
  pub counts : (a : A) → Memᴰ (con a) ss → 1 ≤ lines_named name ss

module _ {A O : Type 0} {p : Part A O} (k : Kept A O p) where
  open p use {given}
  open k use {name, con, field, tells, named, first, sets, step}

  abbrev many : List Reading → ℕ
  many ss = lines_named name ss

  -- a line of it, and one that is not
  many_more : (a : A) (s : Reading) (ss : List Reading) → s ≡ con a → many (s ∷ ss) ≡ suc (many ss)
  unfolding lines_named
  many_more a s ss e = rw (e, named a)

  many_same : (s : Reading) (ss : List Reading) → same_bytes (property_name s) name ≡ false → many (s ∷ ss) ≡ many ss
  unfolding lines_named
  many_same s ss e = rw e

  many_less : (s : Reading) (ss : List Reading) → many ss ≤ many (s ∷ ss)
  unfolding lines_named
  many_less s ss = go (same_bytes (property_name s) name)
    where
      go : (b : Bool) → lines_named name ss ≤ count_if b (lines_named name ss)
      go true = omega arith
      go false = omega arith

  -- without a line of it, what is kept stays
  stays : (ss : List Reading) (g : ComponentProperties) → many ss ≤ 0 → field (with_properties g ss) ≡ field g
  unfolding with_properties
  stays [] g h = refl
  stays (s ∷ ss) g h =
      ⊎_elim (λ w. stays ss (with_property g s) (omega (arith, many_less s ss)) ∙ w.1) (λ w. absurd (omega (arith, many_more w.0 s ss w.1))) (step g s)

  -- what is kept was said by a line
  said_by : (ss : List Reading) (g : ComponentProperties) (a : A) → field (with_properties g ss) ≡ given a → (field g ≡ given a) ⊎ Memᴰ (con a) ss
  unfolding with_properties
  said_by [] g a e = inl e
  said_by (s ∷ ss) g a e =
      ⊎_elim
      (λ h.
      ⊎_elim (λ w. inl (sym w.1 ∙ h))
      (λ w.
      let q : field (with_property g s) ≡ given w.0 = ap (λ (x : Reading). field (with_property g x)) w.1 ∙ sets g w.0 in
      let z : w.0 ≡ a = tells.same w.0 a (sym q ∙ h) in
      inr (Memᴰ.head (ap con (sym z) ∙ sym w.1)))
      (step g s))
      (λ m. inr (Memᴰ.tail m)) (said_by ss (with_property g s) a e)

  -- what a line says is kept, where there is one line at most
  kept : (ss : List Reading) (g : ComponentProperties) (a : A) → Memᴰ (con a) ss → many ss ≤ 1 → field (with_properties g ss) ≡ given a
  unfolding with_properties
  kept [] g a x'' h = elim x'' [ ]
  kept (s ∷ ss) g a (Memᴰ.head e) h =
      stays ss (with_property g s) (omega (arith, many_more a s ss (sym e))) ∙ ap (λ (x : Reading). field (with_property g x)) (sym e) ∙ sets g a
  kept (s ∷ ss) g a (Memᴰ.tail m) h = kept ss (with_property g s) a m (omega (arith, many_less s ss))

  -- lines, and how many they are
  some_line_holds : (g : ComponentProperties) (ss : List Reading) → 1 ≤ many ss → (a : A) × Memᴰ (con a) ss
  unfolding lines_named
  some_line_holds g [] h = absurd (omega arith)
  some_line_holds g (s ∷ ss) h =
      ⊎_elim (λ w. let r = some_line_holds g ss (omega (arith, many_same s ss w.0)) in (r.0, Memᴰ.tail r.1))
      (λ w. (w.0, Memᴰ.head (sym w.1))) (step g s)

  line_counts : (ss : List Reading) (a : A) → Memᴰ (con a) ss → 1 ≤ many ss
  line_counts [] a x' = elim x' [ ]
  line_counts (s ∷ ss) a (Memᴰ.head e) = omega (arith, many_more a s ss (sym e))
  line_counts (s ∷ ss) a (Memᴰ.tail m) = omega (arith, many_less s ss, line_counts ss a m)

  kept_laws : (ss : List Reading) → KeptLaws p name con (field (together ss)) ss
  kept_laws ss =
      record {
        said = λ a e. ⊎_elim (λ h. absurd (tells.apart a (sym first ∙ h))) (λ m. m) (said_by ss no_properties a e);
        holds = λ a m h. kept ss no_properties a m h;
        absent = λ h. stays ss no_properties (omega arith) ∙ first;
        line = λ h. some_line_holds no_properties ss h;
        counts = λ a m. line_counts ss a m;
      }

-- ---- the six properties of an event

-- a line is of one of them, or of none
steps : (g : ComponentProperties) (s : Reading)
    → Step Time (Option Time) (ascii "DTSTART") (λ a. of (span (start a))) (λ x. x.span.start) g s
    × Step Time (Option Time) (ascii "DTEND") (λ a. of (span (end a))) (λ x. x.span.end) g s
    × Step Duration (Option Duration) (ascii "DURATION") (λ a. of (span (lasts a))) (λ x. x.span.lasts) g s
    × Step Rule (Option Rule) (ascii "RRULE") (λ a. of (repeats a)) (λ x. x.repeats) g s
    × Step Status (Option Status) (ascii "STATUS") (λ a. of (busy (status a))) (λ x. x.busy.status) g s
    × Step Bool (Option Bool) (ascii "TRANSP") (λ a. of (busy (transparent a))) (λ x. x.busy.transparency) g s
unfolding with_property with_span with_busy property_name
steps g unread = (inl (refl, refl), inl (refl, refl), inl (refl, refl), inl (refl, refl), inl (refl, refl), inl (refl, refl))
steps g (fault f) = (inl (refl, refl), inl (refl, refl), inl (refl, refl), inl (refl, refl), inl (refl, refl), inl (refl, refl))
steps g (of (span (start t))) = (inr (t, refl), inl (refl, refl), inl (refl, refl), inl (refl, refl), inl (refl, refl), inl (refl, refl))
steps g (of (span (end t))) = (inl (refl, refl), inr (t, refl), inl (refl, refl), inl (refl, refl), inl (refl, refl), inl (refl, refl))
steps g (of (span (lasts d))) = (inl (refl, refl), inl (refl, refl), inr (d, refl), inl (refl, refl), inl (refl, refl), inl (refl, refl))
steps g (of (repeats r)) = (inl (refl, refl), inl (refl, refl), inl (refl, refl), inr (r, refl), inl (refl, refl), inl (refl, refl))
steps g (of (busy (status x))) = (inl (refl, refl), inl (refl, refl), inl (refl, refl), inl (refl, refl), inr (x, refl), inl (refl, refl))
steps g (of (busy (transparent x))) = (inl (refl, refl), inl (refl, refl), inl (refl, refl), inl (refl, refl), inl (refl, refl), inr (x, refl))
steps g (of (identity uid)) = (inl (refl, refl), inl (refl, refl), inl (refl, refl), inl (refl, refl), inl (refl, refl), inl (refl, refl))
steps g (of (identity (recurrence_id t))) = (inl (refl, refl), inl (refl, refl), inl (refl, refl), inl (refl, refl), inl (refl, refl), inl (refl, refl))
steps g (of (identity (exceptions f))) = (inl (refl, refl), inl (refl, refl), inl (refl, refl), inl (refl, refl), inl (refl, refl), inl (refl, refl))
steps g (of (periods b)) = (inl (refl, refl), inl (refl, refl), inl (refl, refl), inl (refl, refl), inl (refl, refl), inl (refl, refl))

-- the parts, by what they hold
abbrev pub time_part : Part Time (Option Time)
time_part = record { given = λ a. Some a; none = None }

time_tells : Tells time_part
time_tells = record { same = λ a b e. cc; apart = λ a e. let z : ◌≡◌ {A = ℕ} 0 1 = cc in absurd (omega arith) }

abbrev pub duration_part : Part Duration (Option Duration)
duration_part = record { given = λ a. Some a; none = None }

duration_tells : Tells duration_part
duration_tells = record { same = λ a b e. cc; apart = λ a e. let z : ◌≡◌ {A = ℕ} 0 1 = cc in absurd (omega arith) }

abbrev pub rule_part : Part Rule (Option Rule)
rule_part = record { given = λ a. Some a; none = None }

rule_tells : Tells rule_part
rule_tells = record { same = λ a b e. cc; apart = λ a e. let z : ◌≡◌ {A = ℕ} 0 1 = cc in absurd (omega arith) }

abbrev pub status_part : Part Status (Option Status)
status_part = record { given = λ a. Some a; none = None }

status_tells : Tells status_part
status_tells = record { same = λ a b e. cc; apart = λ a e. let z : ◌≡◌ {A = ℕ} 0 1 = cc in absurd (omega arith) }

abbrev pub transparency_part : Part Bool (Option Bool)
transparency_part = record { given = λ a. Some a; none = None }

transparency_tells : Tells transparency_part
transparency_tells = record { same = λ a b e. cc; apart = λ a e. let z : ◌≡◌ {A = ℕ} 0 1 = cc in absurd (omega arith) }

-- each property, with its name and its place
start_kept : Kept Time (Option Time) time_part
unfolding no_properties with_property with_span property_name
start_kept = kept_of (ascii "DTSTART") (λ a. of (span (start a))) (λ g. g.span.start) time_tells (λ a. refl) refl (λ g a. refl) (λ g s. (steps g s).0)

end_kept : Kept Time (Option Time) time_part
unfolding no_properties with_property with_span property_name
end_kept = kept_of (ascii "DTEND") (λ a. of (span (end a))) (λ g. g.span.end) time_tells (λ a. refl) refl (λ g a. refl) (λ g s. (steps g s).1)

lasts_kept : Kept Duration (Option Duration) duration_part
unfolding no_properties with_property with_span property_name
lasts_kept = kept_of (ascii "DURATION") (λ a. of (span (lasts a))) (λ g. g.span.lasts) duration_tells (λ a. refl) refl (λ g a. refl) (λ g s. (steps g s).2)

repeats_kept : Kept Rule (Option Rule) rule_part
unfolding no_properties with_property property_name
repeats_kept = kept_of (ascii "RRULE") (λ a. of (repeats a)) (λ g. g.repeats) rule_tells (λ a. refl) refl (λ g a. refl) (λ g s. (steps g s).3)

status_kept : Kept Status (Option Status) status_part
unfolding no_properties with_property with_busy property_name
status_kept = kept_of (ascii "STATUS") (λ a. of (busy (status a))) (λ g. g.busy.status) status_tells (λ a. refl) refl (λ g a. refl) (λ g s. (steps g s).4)

transparency_kept : Kept Bool (Option Bool) transparency_part
unfolding no_properties with_property with_busy property_name
transparency_kept = kept_of (ascii "TRANSP") (λ a. of (busy (transparent a))) (λ g. g.busy.transparency) transparency_tells (λ a. refl) refl (λ g a. refl) (λ g s. (steps g s).5)

-- ---- kinds, and the tests of DTEND, DURATION and UNTIL

kind_number_lem : (a b : Kind) → kind_number a ≡ kind_number b → a ≡ b
kind_number_lem a b e = sym (kind_back a) ∙ ap kind_of e ∙ kind_back b

same_kind_is : (a b : Time) → same_kind a b ≡ true → a.kind ≡ b.kind
unfolding same_kind
same_kind_is a b e = kind_number_lem a.kind b.kind (eqb-true _ _ e)

is_same_kind : (a b : Time) → a.kind ≡ b.kind → same_kind a b ≡ true
unfolding same_kind
is_same_kind a b e = eq-eqb _ _ (ap kind_number e)

date_is : (k : Kind) → is_date k ≡ true → k ≡ Kind.Date
unfolding is_date
date_is Kind.Utc e = clash e refl
date_is Kind.Floating e = clash e refl
date_is Kind.Date e = refl

is_date_lem : (k : Kind) → k ≡ Kind.Date → is_date k ≡ true
unfolding is_date
is_date_lem k e = ap is_date e

-- what was read is not broken
pub ending_broken : {A : Type 0} {x : Ending} → None ≡ Some x → A
ending_broken e = let z : ◌≡◌ {A = ℕ} 0 1 = cc in absurd (omega arith)

repeat_broken : {A : Type 0} {x : Repeat} → None ≡ Some x → A
repeat_broken e = let z : ◌≡◌ {A = ℕ} 0 1 = cc in absurd (omega arith)

module _ (s : Time) where
  pub end_fits_of : (e : Time) (x : Ending) → stated_end s e ≡ Some x → EndFits s e
  unfolding stated_end
  end_fits_of e x h = go (same_kind e s && ltb s.second e.second) refl h
    where
      go : (b : Bool) → (same_kind e s && ltb s.second e.second) ≡ b
          → cond b (Some (Ending.End e.second)) None ≡ Some x → EndFits s e
      go true p h =
          record {
            same_kind = same_kind_is e s (and_left _ (ltb s.second e.second) p);
            later = ltb-true _ _ (and_right (same_kind e s) _ p);
          }
      go false p h = ending_broken h

  pub end_of_fits : (e : Time) → EndFits s e → stated_end s e ≡ Some (Ending.End e.second)
  unfolding stated_end
  end_of_fits e f = rw (is_same_kind e s f.same_kind, lt-ltb _ _ f.later)

  pub duration_fits_of : (d : Duration) (x : Ending) → stated_duration s d ≡ Some x → DurationFits s d
  unfolding stated_duration
  duration_fits_of d x h = record { no_time_on_date = λ k. go k d.timed h }
    where
      go : s.kind ≡ Kind.Date → (b : Bool) → cond (is_date s.kind && b) None (Some (Ending.Lasts d)) ≡ Some x → b ≡ false
      go k true h = ending_broken (rw (is_date_lem s.kind k) at h)
      go k false h = refl

  pub duration_of_fits : (d : Duration) → DurationFits s d → stated_duration s d ≡ Some (Ending.Lasts d)
  unfolding stated_duration
  duration_of_fits d f = go (is_date s.kind) refl
    where
      go : (b : Bool) → is_date s.kind ≡ b → cond (b && d.timed) None (Some (Ending.Lasts d)) ≡ Some (Ending.Lasts d)
      go true e = rw (f.no_time_on_date (date_is s.kind e))
      go false e = refl

  pub until_fits_of : (t : Time) (x : Repeat) → limit_by s (Limit.Until t) ≡ Some x → UntilFits s t
  unfolding limit_by
  until_fits_of t x h = go (same_kind t s && leb s.second t.second) refl h
    where
      go : (b : Bool) → (same_kind t s && leb s.second t.second) ≡ b
          → cond b (Some (Repeat.Until t.second)) None ≡ Some x → UntilFits s t
      go true p h =
          record {
            same_kind = same_kind_is t s (and_left _ (leb s.second t.second) p);
            not_before = leb-true _ _ (and_right (same_kind t s) _ p);
          }
      go false p h = repeat_broken h

  pub until_of_fits : (t : Time) → UntilFits s t → limit_by s (Limit.Until t) ≡ Some (Repeat.Until t.second)
  unfolding limit_by
  until_of_fits t f = rw (is_same_kind t s f.same_kind, le-leb _ _ f.not_before)

-- ---- a VEVENT

-- what must stand in g for an event to be read
pub record Made (g : ComponentProperties) : Type 0 where
  pub not_twice : g.repeated ≡ false
  pub start : Time
  pub start_given : g.span.start ≡ Some start
  pub ending : Ending
  pub ending_read : ending_by start g.span.end g.span.lasts ≡ Some ending
  pub repeat : Repeat
  pub repeat_read : repeat_by start g.repeats ≡ Some repeat

module _ (g : ComponentProperties) (x : Event) where
  event_broken : {A : Type 0} → None ≡ Some x → A
  event_broken e = let z : ◌≡◌ {A = ℕ} 0 1 = cc in absurd (omega arith)

  made_with : (s : Time) → g.repeated ≡ false → g.span.start ≡ Some s → (a : Option Ending) (b : Option Repeat)
      → ending_by s g.span.end g.span.lasts ≡ a → repeat_by s g.repeats ≡ b → event_with s g a b ≡ Some x → Made g
  unfolding event_with
  made_with s n f (Some y) (Some z) p q h =
      record { not_twice = n; start = s; start_given = f; ending = y; ending_read = p; repeat = z; repeat_read = q }
  made_with s n f (Some y) None p q h = event_broken h
  made_with s n f None b p q h = event_broken h

  made_from : g.repeated ≡ false → (o : Option Time) → g.span.start ≡ o → event_from o g ≡ Some x → Made g
  unfolding event_from
  made_from n None f h = event_broken h
  made_from n (Some s) f h = made_with s n f (ending_by s g.span.end g.span.lasts) (repeat_by s g.repeats) refl refl h

  pub made : event_by g ≡ Some x → Made g
  unfolding event_by
  made h = go g.repeated refl h
    where
      go : (b : Bool) → g.repeated ≡ b → cond b None (event_from g.span.start g) ≡ Some x → Made g
      go true e h = event_broken h
      go false e h = made_from e g.span.start refl h

pub made_event : (g : ComponentProperties) (m : Made g) → event_by g ≡ Some (event_made m.start g m.ending m.repeat)
unfolding event_by event_from event_with
made_event g m =
    ap (λ (b : Bool). cond b None (event_from g.span.start g)) m.not_twice
    ∙ ap (λ (o : Option Time). event_from o g) m.start_given
    ∙ ap (λ (a : Option Ending). event_with m.start g a (repeat_by m.start g.repeats)) m.ending_read
    ∙ ap (λ (b : Option Repeat). event_with m.start g (Some m.ending) b) m.repeat_read

-- the ending that is read, and what it needs
module _ (s : Time) where
  end_read : (e : Time) (o : Option Duration) (y : Ending) → ending_by s (Some e) o ≡ Some y → EndFits s e
  unfolding ending_by
  end_read e None y h = end_fits_of s e y h
  end_read e (Some d) y h = ending_broken h

  duration_read : (o : Option Time) (d : Duration) (y : Ending) → ending_by s o (Some d) ≡ Some y → DurationFits s d
  unfolding ending_by
  duration_read None d y h = duration_fits_of s d y h
  duration_read (Some e) d y h = ending_broken h

  both_read : {A : Type 0} (e : Time) (d : Duration) (y : Ending) → ending_by s (Some e) (Some d) ≡ Some y → A
  unfolding ending_by
  both_read e d y h = ending_broken h

  until_read : (r : Rule) (t : Time) (z : Repeat) → r.limit ≡ Limit.Until t → repeat_by s (Some r) ≡ Some z → UntilFits s t
  unfolding repeat_by
  until_read r t z q h = until_fits_of s t z (rw q at h)

  ending_made : (a : Option Time) (b : Option Duration) → ((e : Time) → a ≡ Some e → EndFits s e)
      → ((d : Duration) → b ≡ Some d → DurationFits s d)
      → ((e : Time) (d : Duration) → a ≡ Some e → b ≡ Some d → ⊥) → (y : Ending) × (ending_by s a b ≡ Some y)
  unfolding ending_by
  ending_made None None p q n = (Ending.None, refl)
  ending_made (Some e) None p q n = (Ending.End e.second, end_of_fits s e (p e refl))
  ending_made None (Some d) p q n = (Ending.Lasts d, duration_of_fits s d (q d refl))
  ending_made (Some e) (Some d) p q n = absurd (n e d refl refl)

  limit_made : (l : Limit) → ((t : Time) → l ≡ Limit.Until t → UntilFits s t) → (z : Repeat) × (limit_by s l ≡ Some z)
  unfolding limit_by
  limit_made Limit.Forever p = (Repeat.Forever, refl)
  limit_made (Limit.Count n) p = (Repeat.Count n, refl)
  limit_made (Limit.Until t) p = (Repeat.Until t.second, until_of_fits s t (p t refl))

  repeat_made : (o : Option Rule) → ((r : Rule) (t : Time) → o ≡ Some r → r.limit ≡ Limit.Until t → UntilFits s t)
      → (z : Repeat) × (repeat_by s o ≡ Some z)
  unfolding repeat_by
  repeat_made None p = (Repeat.Once, refl)
  repeat_made (Some r) p = limit_made r.limit (λ t q. p r t refl q)

-- the lines of a component, from none read
module _ (ss : List Reading) where
  -- at most one line of each property, where none stands twice, and the other way round
  pub few_lines : (together ss).repeated ≡ false
      → (lines_named (ascii "DTSTART") ss ≤ 1)
      × (lines_named (ascii "DTEND") ss ≤ 1)
      × (lines_named (ascii "DURATION") ss ≤ 1)
      × (lines_named (ascii "RRULE") ss ≤ 1)
      × (lines_named (ascii "STATUS") ss ≤ 1)
      × (lines_named (ascii "TRANSP") ss ≤ 1)
  unfolding no_properties
  few_lines e = let w = not_repeated ss no_properties e in (w.1, w.2, w.3, w.4, w.5, w.6)

  lines_few : lines_named (ascii "DTSTART") ss ≤ 1 → lines_named (ascii "DTEND") ss ≤ 1 → lines_named (ascii "DURATION") ss ≤ 1 → lines_named (ascii "RRULE") ss ≤ 1
      → lines_named (ascii "STATUS") ss ≤ 1 → lines_named (ascii "TRANSP") ss ≤ 1 → (together ss).repeated ≡ false
  unfolding no_properties
  lines_few a b c d e f = counted ss no_properties (refl, a, b, c, d, e, f)

  -- the laws of each of the six properties
  pub start_laws : KeptLaws time_part (ascii "DTSTART") (λ a. of (span (start a))) (together ss).span.start ss
  unfolding start_kept
  start_laws = kept_laws start_kept ss

  pub end_laws : KeptLaws time_part (ascii "DTEND") (λ a. of (span (end a))) (together ss).span.end ss
  unfolding end_kept
  end_laws = kept_laws end_kept ss

  pub lasts_laws : KeptLaws duration_part (ascii "DURATION") (λ a. of (span (lasts a))) (together ss).span.lasts ss
  unfolding lasts_kept
  lasts_laws = kept_laws lasts_kept ss

  pub repeats_laws : KeptLaws rule_part (ascii "RRULE") (λ a. of (repeats a)) (together ss).repeats ss
  unfolding repeats_kept
  repeats_laws = kept_laws repeats_kept ss

  pub status_laws : KeptLaws status_part (ascii "STATUS") (λ a. of (busy (status a))) (together ss).busy.status ss
  unfolding status_kept
  status_laws = kept_laws status_kept ss

  pub transparency_laws : KeptLaws transparency_part (ascii "TRANSP") (λ a. of (busy (transparent a))) (together ss).busy.transparency ss
  unfolding transparency_kept
  transparency_laws = kept_laws transparency_kept ss

  module _ (m : Made (together ss)) where
    few : (lines_named (ascii "DTSTART") ss ≤ 1)
        × (lines_named (ascii "DTEND") ss ≤ 1)
        × (lines_named (ascii "DURATION") ss ≤ 1)
        × (lines_named (ascii "RRULE") ss ≤ 1)
        × (lines_named (ascii "STATUS") ss ≤ 1)
        × (lines_named (ascii "TRANSP") ss ≤ 1)
    few = few_lines m.not_twice

    -- a DTSTART line says the start
    pub the_start : (s : Time) → Memᴰ (of (span (start s))) ss → m.start ≡ s
    the_start s k = let q : Some m.start ≡ Some s = sym m.start_given ∙ start_laws.holds s k few.0 in cc

    made_not_both : (a b : ℕ) → lines_named (ascii "DTEND") ss ≡ a → lines_named (ascii "DURATION") ss ≡ b → a ≤ 1 → b ≤ 1 → a + b ≤ 1
    made_not_both zero b p q h k = omega arith
    made_not_both (suc a) zero p q h k = omega arith
    made_not_both (suc a) (suc b) p q h k =
        let e = end_laws.line (omega arith) in
        let d = lasts_laws.line (omega arith) in
        let f : (together ss).span.end ≡ Some e.0 = end_laws.holds e.0 e.1 few.1 in
        let g : (together ss).span.lasts ≡ Some d.0 = lasts_laws.holds d.0 d.1 few.2 in
        both_read m.start e.0 d.0 m.ending (rw (f, g) at m.ending_read)

    made_end : (s e : Time) → Memᴰ (of (span (start s))) ss → Memᴰ (of (span (end e))) ss → EndFits s e
    made_end s e k l =
        let f : (together ss).span.end ≡ Some e = end_laws.holds e l few.1 in
        subst (λ (x : Time). EndFits x e) (the_start s k) (end_read m.start e (together ss).span.lasts m.ending (rw f at m.ending_read))

    made_duration : (s : Time) (d : Duration) → Memᴰ (of (span (start s))) ss → Memᴰ (of (span (lasts d))) ss → DurationFits s d
    made_duration s d k l =
        let f : (together ss).span.lasts ≡ Some d = lasts_laws.holds d l few.2 in
        subst (λ (x : Time). DurationFits x d) (the_start s k) (duration_read m.start (together ss).span.end d m.ending (rw f at m.ending_read))

    made_until : (s : Time) (r : Rule) (t : Time) → Memᴰ (of (span (start s))) ss → Memᴰ (of (repeats r)) ss → r.limit ≡ Limit.Until t → UntilFits s t
    made_until s r t k l q =
        let f : (together ss).repeats ≡ Some r = repeats_laws.holds r l few.3 in
        subst (λ (x : Time). UntilFits x t) (the_start s k) (until_read m.start r t m.repeat q (rw f at m.repeat_read))

    made_rules : EventRules ss
    made_rules =
        let k : 1 ≤ lines_named (ascii "DTSTART") ss = start_laws.counts m.start (start_laws.said m.start m.start_given) in
        record {
          one_start = omega (arith, few.0);
          few_ends = few.1;
          few_durations = few.2;
          few_rules = few.3;
          few_statuses = few.4;
          few_transparencies = few.5;
          not_both = made_not_both _ _ refl refl few.1 few.2;
          end_fits = made_end;
          duration_fits = made_duration;
          until_fits = made_until;
        }

  module _ (w : EventRules ss) where
    no_two : (e : Time) (d : Duration) → (together ss).span.end ≡ Some e → (together ss).span.lasts ≡ Some d → ⊥
    no_two e d p q =
        let a : 1 ≤ lines_named (ascii "DTEND") ss = end_laws.counts e (end_laws.said e p) in
        let b : 1 ≤ lines_named (ascii "DURATION") ss = lasts_laws.counts d (lasts_laws.said d q) in
        absurd (omega (arith, w.not_both))

    rules_made : Made (together ss)
    rules_made =
        let s = start_laws.line (omega (arith, w.one_start)) in
        let y =
        ending_made s.0 (together ss).span.end (together ss).span.lasts (λ e q. w.end_fits s.0 e s.1 (end_laws.said e q))
        (λ d q. w.duration_fits s.0 d s.1 (lasts_laws.said d q)) no_two in
        let z = repeat_made s.0 (together ss).repeats (λ r t q l. w.until_fits s.0 r t s.1 (repeats_laws.said r q) l) in
        record {
          not_twice = lines_few (omega (arith, w.one_start)) w.few_ends w.few_durations w.few_rules w.few_statuses w.few_transparencies;
          start = s.0;
          start_given = start_laws.holds s.0 s.1 (omega (arith, w.one_start));
          ending = y.0;
          ending_read = y.1;
          repeat = z.0;
          repeat_read = z.1;
        }

-- THE THEOREM of events: an event is read exactly where the lines keep the rules of a VEVENT
pub event_iff : (ss : List Reading) → ((x : Event) × (event_by (with_properties no_properties ss) ≡ Some x)) ↔ EventRules ss
event_iff ss = (
  λ h. made_rules ss (made (together ss) h.0 h.1),
  λ w. (_, made_event (together ss) (rules_made ss w)),
)

-- and otherwise it is broken
pub event_broken_iff : (ss : List Reading) → (event_by (with_properties no_properties ss) ≡ None) ↔ (EventRules ss → ⊥)
event_broken_iff ss = (
  λ e w. let x = (event_iff ss).1 w in event_broken (together ss) x.0 (sym e ∙ x.1),
  λ h. go h (event_by (together ss)) refl,
)
  where
    go : (EventRules ss → ⊥) → (a : Option Event) → event_by (together ss) ≡ a → a ≡ None
    go h (Some x) e = absurd (h ((event_iff ss).0 (x, e)))
    go h None e = refl

-- ---- a VFREEBUSY

block_broken_lem : {A : Type 0} {x : Block} → None ≡ Some x → A
block_broken_lem e = let z : ◌≡◌ {A = ℕ} 0 1 = cc in absurd (omega arith)

pub between_later : (s e : ℕ) (x : Block) → block_between s e ≡ Some x → s < e
unfolding block_between
between_later s e x h = go (ltb s e) refl h
  where
    go : (b : Bool) → ltb s e ≡ b → cond b (Some (record { start = Some s; end = Some e })) None ≡ Some x → s < e
    go true p h = ltb-true s e p
    go false p h = block_broken_lem h

pub later_between : (s e : ℕ) → s < e → block_between s e ≡ Some (record { start = Some s; end = Some e })
unfolding block_between
later_between s e h = rw (lt-ltb s e h)

block_from_lem : (a b : Option Time) → ((s e : Time) → a ≡ Some s → b ≡ Some e → s.second < e.second)
    → (x : Block) × (block_from a b ≡ Some x)
unfolding block_from
block_from_lem None None h = (_, refl)
block_from_lem (Some s) None h = (_, refl)
block_from_lem None (Some e) h = (_, refl)
block_from_lem (Some s) (Some e) h = (_, later_between s.second e.second (h s e refl refl))

from_later : (s e : Time) (x : Block) → block_from (Some s) (Some e) ≡ Some x → s.second < e.second
unfolding block_from
from_later s e x h = between_later s.second e.second x h

-- what must stand in g for a block to be read
pub block_by_lem : (g : ComponentProperties) (x : Block) → block_by g ≡ Some x
    → (g.repeated ≡ false) × (block_from g.span.start g.span.end ≡ Some x)
unfolding block_by
block_by_lem g x h = go g.repeated refl h
  where
    go : (b : Bool) → g.repeated ≡ b → cond b None (block_from g.span.start g.span.end) ≡ Some x
        → (g.repeated ≡ false) × (block_from g.span.start g.span.end ≡ Some x)
    go true e h = block_broken_lem h
    go false e h = (e, h)

by_block : (g : ComponentProperties) (x : Block) → g.repeated ≡ false → block_from g.span.start g.span.end ≡ Some x → block_by g ≡ Some x
unfolding block_by
by_block g x e h = ap (λ (b : Bool). cond b None (block_from g.span.start g.span.end)) e ∙ h

module _ (ss : List Reading) where
  block_rules : (x : Block) → block_by (together ss) ≡ Some x → BlockRules ss
  block_rules x h =
      let w = block_by_lem (together ss) x h in
      let n = few_lines ss w.0 in
      record {
        few_starts = n.0;
        few_ends = n.1;
        end_later = λ s e k l. from_later s e x (rw ((start_laws ss).holds s k n.0, (end_laws ss).holds e l n.1) at w.1);
      }

  rules_block : BlockLines ss → BlockRules ss → (x : Block) × (block_by (together ss) ≡ Some x)
  rules_block n w =
      let b =
      block_from_lem (together ss).span.start (together ss).span.end
      (λ s e p q. w.end_later s e ((start_laws ss).said s p) ((end_laws ss).said e q)) in
      let t : (together ss).repeated ≡ false =
      lines_few ss w.few_starts w.few_ends (omega (arith, n.no_durations)) (omega (arith, n.no_rules)) (omega (arith, n.no_statuses))
      (omega (arith, n.no_transparencies)) in
      (b.0, by_block (together ss) b.0 t b.1)

-- THE THEOREM of blocks: of lines as a VFREEBUSY has them, a block is read exactly where they keep its rules
pub block_iff : (ss : List Reading) → BlockLines ss → ((x : Block) × (block_by (with_properties no_properties ss) ≡ Some x)) ↔ BlockRules ss
block_iff ss n = (λ h. block_rules ss h.0 h.1, λ w. rules_block ss n w)

-- and otherwise it is broken
pub block_broken_iff : (ss : List Reading) → BlockLines ss → (block_by (with_properties no_properties ss) ≡ None) ↔ (BlockRules ss → ⊥)
block_broken_iff ss n = (λ e w. let x = rules_block ss n w in block_broken_lem (sym e ∙ x.1), λ h. go h (block_by (together ss)) refl)
  where
    go : (BlockRules ss → ⊥) → (a : Option Block) → block_by (together ss) ≡ a → a ≡ None
    go h (Some x) e = absurd (h (block_rules ss x e))
    go h None e = refl
