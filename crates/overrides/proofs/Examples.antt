-- The table of examples holds: a test for each claim, and what is so where it passes.
-- All tests are computed at once.
use Rattle.std.specs.Prelude.{None, Option, Some}
use Prim.Native.Nat.{ℕ, zero, suc, ◌<◌}
use mathlib.Core.Path.{◌≡◌, refl, sym, ap, subst, ◌∙◌}
use mathlib.Core.Bool.{Bool, true, false, not, ◌&&◌}
use mathlib.Core.List.Memᴰ
use mathlib.Core.List.{List, [], ◌∷◌, Memᴰ}
use native.Mathlib.Omega.{arith}
use lib.Dec.{eqb, ltb}
use borrow.Author.Tests.{eqb-true, eqb-false, ltb-true, ltb-false, not-true}
use Rattle.ascii.specs.Names.{same_bytes}
use Rattle.ascii.proofs.Bools.{and_left, and_right, clash}
use Rattle.ascii.proofs.Names.{same_bytes_eq}
use Rattle.seconds.specs.Seconds.{among}
use Rattle.time.specs.Duration.{duration_seconds}
use Rattle.time.specs.Limits.{epoch}
use Rattle.time.specs.Days.{days_before_year, year_days, is_leap}
use Rattle.periods.specs.BusyTypes.{is_busy}
use Rattle.values.specs.TimeLists.{seconds_of, kind_number, same_kind}
use Rattle.events.specs.declared.Event.{Event}
use Rattle.recurrence.specs.Instances.{clock_among, step_of, start_of, repeats, is_instance, occurs, default_length, length_by, is_zero_length, end_of}
use Rattle.recurrence.specs.TimeRange.{ends_after, instance_in, EventIn}
use Rattle.recurrence.proofs.Instances.{none_stands}
use Rattle.recurrence.proofs.TimeRange.{in_range_occurs}
use Rattle.overrides.specs.Lists.{some, is_empty, two_or_more}
use Rattle.overrides.specs.VEvents.{VEvent, is_master, is_override, has_uid, shares_uid, master_of}
use Rattle.overrides.specs.Instances.{number_at, names_instance, moved_from, removed_from}
use Rattle.overrides.specs.Rules.{has_rule, other_kind, override_breaks, event_breaks, breaks_alone, masters_clash, overrides_clash, misnames, misplaced, override_misplaced, breaks_beside, breaks, RuleLine, all_keep, broken_at, first_broken, broken_line}
use Rattle.overrides.specs.Examples.{placed, file_of, starts_from, starts_of, starts_in, Claim, refused, starts, outside, Holds, All, at, utc, floating, date, mornings, event_at, bare, hour, once, five, master, excluding, two_uids, broken, whole_days, plain, single, override, moved_to, later, override_with, table}

-- ---- lines

is_broken : ℕ → RuleLine → Bool
is_broken n all_keep = false
is_broken n (broken_at m) = eqb m n

is_broken_lem : (n : ℕ) (l : RuleLine) → is_broken n l ≡ true → l ≡ broken_at n
unfolding is_broken
is_broken_lem n all_keep h = clash h refl
is_broken_lem n (broken_at m) h = ap broken_at (eqb-true m n h)

is_kept : RuleLine → Bool
is_kept all_keep = true
is_kept (broken_at m) = false

is_kept_lem : (l : RuleLine) → is_kept l ≡ true → l ≡ all_keep
unfolding is_kept
is_kept_lem all_keep h = refl
is_kept_lem (broken_at m) h = clash h refl

-- ---- ranges

-- none of the first n is in range
none_in : Event → List ℕ → ℕ → ℕ → ℕ → Bool
none_in e gone a b zero = true
none_in e gone a b (suc n) = not (instance_in e gone a b n) && none_in e gone a b n

none_in_lem : (e : Event) (gone : List ℕ) (a b n k : ℕ) → none_in e gone a b n ≡ true → k < n → instance_in e gone a b k ≡ false
unfolding none_in
none_in_lem e gone a b zero k h p = absurd (omega arith)
none_in_lem e gone a b (suc n) k h p =
    go (eqb k n) refl (not-true _ (and_left (not (instance_in e gone a b n)) _ h))
    (none_in_lem e gone a b n k (and_right (not (instance_in e gone a b n)) _ h))
  where
    go : (t : Bool) → eqb k n ≡ t → instance_in e gone a b n ≡ false → (k < n → instance_in e gone a b k ≡ false) → instance_in e gone a b k ≡ false
    go true q here below = ap (instance_in e gone a b) (eqb-true k n q) ∙ here
    go false q here below = let d = eqb-false k n q in below (omega arith)

-- an event of fewer than 32 instances, none of which is in range
is_outside : List ℕ → ℕ → ℕ → Option Event → Bool
is_outside gone a b None = true
is_outside gone a b (Some e) = none_in e gone a b 31 && not (is_instance e 31)

is_outside_lem : (gone : List ℕ) (a b : ℕ) (e : Event) → is_outside gone a b (Some e) ≡ true → EventIn e gone a b → ⊥
unfolding is_outside
is_outside_lem gone a b e h i = go (ltb i.number 31) refl
  where
    go : (t : Bool) → ltb i.number 31 ≡ t → ⊥
    go true q = clash i.passes (none_in_lem e gone a b 31 i.number (and_left (none_in e gone a b 31) _ h) (ltb-true i.number 31 q))
    go false q =
        clash (in_range_occurs e gone a b i.number i.passes)
        (none_stands e gone 31 (not-true _ (and_right (none_in e gone a b 31) _ h)) i.number (ltb-false i.number 31 q))

all_outside : List VEvent → List VEvent → ℕ → ℕ → Bool
all_outside all [] a b = true
all_outside all (v ∷ vs) a b = is_outside (removed_from all v) a b v.event && all_outside all vs a b

all_outside_lem : (all vs : List VEvent) (a b : ℕ) → all_outside all vs a b ≡ true → (v : VEvent) (e : Event) → Memᴰ v vs → v.event ≡ Some e
    → EventIn e (removed_from all v) a b → ⊥
unfolding all_outside
all_outside_lem all [] a b h v e i q = absurd (Memᴰ.not-nil i)
all_outside_lem all (w ∷ vs) a b h v e (Memᴰ.head p) q =
    is_outside_lem (removed_from all v) a b e
    (subst (λ (x : Option Event). is_outside (removed_from all v) a b x ≡ true) q
    (subst (λ (x : VEvent). is_outside (removed_from all x) a b x.event ≡ true) (sym p) (and_left (is_outside (removed_from all w) a b w.event) _ h)))
all_outside_lem all (w ∷ vs) a b h v e (Memᴰ.tail i) q =
    all_outside_lem all vs a b (and_right (is_outside (removed_from all w) a b w.event) _ h) v e i q

-- ---- the table

test : Claim → Bool
test (refused n ws) = is_broken n (broken_line (file_of ws))
test (starts ss ws) = is_kept (broken_line (file_of ws)) && same_bytes (starts_in (file_of ws) (file_of ws)) ss
test (outside a b ws) = all_outside (file_of ws) (file_of ws) a b

sound : (c : Claim) → test c ≡ true → Holds c
unfolding test
sound (refused n ws) h = is_broken_lem n _ h
sound (starts ss ws) h = (
  is_kept_lem _ (and_left (is_kept (broken_line (file_of ws))) _ h),
  same_bytes_eq (starts_in (file_of ws) (file_of ws)) ss (and_right (is_kept (broken_line (file_of ws))) _ h),
)
sound (outside a b ws) h = all_outside_lem (file_of ws) (file_of ws) a b h

tests : List Claim → Bool
tests [] = true
tests (c ∷ cs) = test c && tests cs

all_hold : (cs : List Claim) → tests cs ≡ true → All cs
unfolding tests
all_hold [] h = tt
all_hold (c ∷ cs) h = (sound c (and_left (test c) (tests cs) h), all_hold cs (and_right (test c) (tests cs) h))

-- every row
pub edges : All table
unfolding table override_with later moved_to override single plain whole_days broken two_uids excluding master five once hour bare event_at mornings date floating utc at starts_in starts_of starts_from file_of placed tests test all_outside is_outside none_in is_kept is_broken broken_line first_broken breaks breaks_beside override_misplaced misplaced misnames overrides_clash masters_clash breaks_alone event_breaks override_breaks other_kind has_rule removed_from moved_from names_instance number_at master_of shares_uid has_uid is_override is_master two_or_more is_empty some instance_in ends_after end_of is_zero_length length_by default_length occurs is_instance repeats start_of step_of same_kind kind_number seconds_of is_busy duration_seconds among clock_among epoch days_before_year year_days is_leap
edges = all_hold table refl
