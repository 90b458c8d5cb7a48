-- THE THEOREMS of which event and which block: what is read of a component is exactly what its lines say, where they keep the rules.
use Rattle.std.specs.Prelude.{Bool, None, Option, Some}
use Prim.Native.Nat.{ℕ, zero, suc, ◌≤◌}
use mathlib.Core.Path.{◌≡◌, refl, sym, ap, ◌∙◌, subst}
use mathlib.Core.Bool.{true, false}
use mathlib.Core.Logic.{◌↔◌, ◌⊎◌, inl, inr, ⊎_elim}
use mathlib.Core.List.{List, Memᴰ}
use native.Mathlib.Omega.{arith}
use Rattle.ascii.specs.Words.{ascii}
use Rattle.time.specs.declared.duration.Duration.{Duration}
use Rattle.values.specs.declared.times.Time.{Time}
use Rattle.values.specs.declared.rule.Limit.{Limit}
use Rattle.values.specs.declared.rule.Rule.{Rule}
use Rattle.property.specs.declared.Status.{Status}
use Rattle.property.specs.Facts.{Reading, of, repeats, busy, status, transparent}
use Rattle.periods.specs.declared.BusyType.{BusyType}
use Rattle.events.specs.ComponentProperties.{no_properties, with_properties}
use Rattle.events.specs.ComponentRules.{lines_named, EventRules, BlockRules, BlockLines}
use Rattle.events.specs.ComponentEvents.{EventIs, BlockIs}
use Rattle.events.specs.Events.{ending_by, limit_by, repeat_by, days_by, interval_by, busy_by_status, busy_by, event_made, event_by, block_from, block_by}
use Rattle.events.specs.declared.Ending.{Ending}
use Rattle.events.specs.declared.Repeat.{Repeat}
use Rattle.events.specs.declared.Event.{Event}
use Rattle.events.specs.declared.Block.{Block}
use Rattle.events.proofs.ComponentRules.{start_laws, end_laws, lasts_laws, repeats_laws, status_laws, transparency_laws}
use Rattle.events.proofs.ComponentRules.{end_fits_of, end_of_fits, duration_fits_of, duration_of_fits, until_fits_of, until_of_fits}
use Rattle.events.proofs.ComponentRules.{ending_broken, together, Made, made, made_event, few_lines, the_start, event_iff, between_later, later_between, block_by_lem, block_iff}

-- there is no line, or there is one
none_or : {A : Type 0} (n : ℕ) → (1 ≤ n → A) → (n ≡ 0) ⊎ A
none_or zero f = inl refl
none_or (suc n) f = inr (f (omega arith))

-- what is read is one thing
ending_of : {a b : Ending} → Some a ≡ Some b → a ≡ b
ending_of e = cc

repeat_of_lem : {a b : Repeat} → Some a ≡ Some b → a ≡ b
repeat_of_lem e = cc

event_of_holds : {a b : Event} → Some a ≡ Some b → a ≡ b
event_of_holds e = cc

block_of_holds : {a b : Block} → Some a ≡ Some b → a ≡ b
block_of_holds e = cc

-- ---- the ending, the repeat and the busy type that are read

module _ (s : Time) where
  end_gives : (t : Time) (o : Option Duration) (y : Ending) → ending_by s (Some t) o ≡ Some y → y ≡ Ending.End t.second
  unfolding ending_by
  end_gives t None y h = ending_of (sym h ∙ end_of_fits s t (end_fits_of s t y h))
  end_gives t (Some d) y h = ending_broken h

  duration_gives : (o : Option Time) (d : Duration) (y : Ending) → ending_by s o (Some d) ≡ Some y → y ≡ Ending.Lasts d
  unfolding ending_by
  duration_gives None d y h = ending_of (sym h ∙ duration_of_fits s d (duration_fits_of s d y h))
  duration_gives (Some t) d y h = ending_broken h

  none_gives : (y : Ending) → ending_by s None None ≡ Some y → y ≡ Ending.None
  unfolding ending_by
  none_gives y h = ending_of (sym h)

  forever_gives : (r : Rule) (z : Repeat) → r.limit ≡ Limit.Forever → repeat_by s (Some r) ≡ Some z → z ≡ Repeat.Forever
  unfolding repeat_by limit_by
  forever_gives r z q h = repeat_of_lem (sym h ∙ ap (limit_by s) q)

  count_gives : (r : Rule) (n : ℕ) (z : Repeat) → r.limit ≡ Limit.Count n → repeat_by s (Some r) ≡ Some z → z ≡ Repeat.Count n
  unfolding repeat_by limit_by
  count_gives r n z q h = repeat_of_lem (sym h ∙ ap (limit_by s) q)

  until_gives : (r : Rule) (t : Time) (z : Repeat) → r.limit ≡ Limit.Until t → repeat_by s (Some r) ≡ Some z → z ≡ Repeat.Until t.second
  unfolding repeat_by
  until_gives r t z q h =
      let l : limit_by s (Limit.Until t) ≡ Some z = sym (ap (limit_by s) q) ∙ h in
      repeat_of_lem (sym l ∙ until_of_fits s t (until_fits_of s t z l))

  once_gives : (z : Repeat) → repeat_by s None ≡ Some z → z ≡ Repeat.Once
  unfolding repeat_by
  once_gives z h = repeat_of_lem (sym h)

-- STATUS CANCELLED is free beside any TRANSP
cancelled_any : (t : Option Bool) → busy_by t (Some Status.Cancelled) ≡ BusyType.Free
unfolding busy_by busy_by_status
cancelled_any (Some true) = refl
cancelled_any (Some false) = refl
cancelled_any None = refl

-- without TRANSP:TRANSPARENT it goes by STATUS
by_status : (t : Option Bool) (s : Option Status) → (t ≡ Some true → ⊥) → busy_by t s ≡ busy_by_status s
unfolding busy_by
by_status (Some true) s n = absurd (n refl)
by_status (Some false) s n = refl
by_status None s n = refl

-- ---- a VEVENT: what is read of it is what its lines say

module _ (ss : List Reading) (m : Made (together ss)) where
  not_transparent : (Memᴰ (of (busy (transparent true))) ss → ⊥)
      → busy_by (together ss).busy.transparency (together ss).busy.status ≡ busy_by_status (together ss).busy.status
  not_transparent n = by_status _ _ (λ q. n ((transparency_laws ss).said true q))

  made_is : EventIs ss (event_made m.start (together ss) m.ending m.repeat)
  unfolding event_made days_by interval_by busy_by busy_by_status
  made_is =
      let few = few_lines ss m.not_twice in
      let the_rule : (r : Rule) → Memᴰ (of (repeats r)) ss → repeat_by m.start (Some r) ≡ Some m.repeat =
      λ r k. ap (repeat_by m.start) (sym ((repeats_laws ss).holds r k few.3)) ∙ m.repeat_read in
      record {
        kind_is = λ s k. ap (λ (t : Time). t.kind) (the_start ss m s k);
        start_is = λ s k. ap (λ (t : Time). t.second) (the_start ss m s k);
        end_is =
            λ t k. end_gives m.start t _ m.ending
            (ap (λ (o : Option Time). ending_by m.start o (together ss).span.lasts) (sym ((end_laws ss).holds t k few.1)) ∙ m.ending_read);
        duration_is =
            λ d k. duration_gives m.start _ d m.ending
            (ap (λ (o : Option Duration). ending_by m.start (together ss).span.end o) (sym ((lasts_laws ss).holds d k few.2)) ∙ m.ending_read);
        no_ending = λ a b. none_gives m.start m.ending (rw ((end_laws ss).absent a, (lasts_laws ss).absent b) at m.ending_read);
        days_are = λ r k. ap days_by ((repeats_laws ss).holds r k few.3);
        interval_is = λ r k. ap interval_by ((repeats_laws ss).holds r k few.3);
        forever = λ r k q. forever_gives m.start r m.repeat q (the_rule r k);
        count_is = λ r n k q. count_gives m.start r n m.repeat q (the_rule r k);
        until_is = λ r t k q. until_gives m.start r t m.repeat q (the_rule r k);
        no_rule_days = λ n. ap days_by ((repeats_laws ss).absent n);
        no_rule_interval = λ n. ap interval_by ((repeats_laws ss).absent n);
        no_rule_once = λ n. once_gives m.start m.repeat (ap (repeat_by m.start) (sym ((repeats_laws ss).absent n)) ∙ m.repeat_read);
        transparent_free = λ k. ap (λ (t : Option Bool). busy_by t (together ss).busy.status) ((transparency_laws ss).holds true k few.5);
        cancelled_free =
            λ k. ap (λ (s : Option Status). busy_by (together ss).busy.transparency s) ((status_laws ss).holds Status.Cancelled k few.4)
            ∙ cancelled_any (together ss).busy.transparency;
        tentative_so = λ n k. not_transparent n ∙ ap busy_by_status ((status_laws ss).holds Status.Tentative k few.4);
        other_busy = λ n k. not_transparent n ∙ ap busy_by_status ((status_laws ss).holds Status.Other k few.4);
        no_status_busy = λ n k. not_transparent n ∙ ap busy_by_status ((status_laws ss).absent k);
      }

read_is : (ss : List Reading) (e : Event) → event_by (together ss) ≡ Some e → EventIs ss e
read_is ss e h =
    let m = made (together ss) e h in
    subst (λ (x : Event). EventIs ss x) (event_of_holds (sym (made_event (together ss) m) ∙ h)) (made_is ss m)

-- ---- and the lines say one event only

event_same : (a b : Event) → a.kind ≡ b.kind → a.start ≡ b.start → a.ending ≡ b.ending → a.days ≡ b.days → a.interval ≡ b.interval
    → a.repeat ≡ b.repeat → a.busy ≡ b.busy → a ≡ b
event_same a b k s y d i z u =
    λ j. record { kind = k j; start = s j; ending = y j; days = d j; interval = i j; repeat = z j; busy = u j }

module _ (ss : List Reading) (w : EventRules ss) (a b : Event) (p : EventIs ss a) (q : EventIs ss b) where
  same_ending : a.ending ≡ b.ending
  same_ending =
      ⊎_elim
      (λ n.
      ⊎_elim (λ k. p.no_ending n k ∙ sym (q.no_ending n k)) (λ d. p.duration_is d.0 d.1 ∙ sym (q.duration_is d.0 d.1))
      (none_or (lines_named (ascii "DURATION") ss) (lasts_laws ss).line))
      (λ t. p.end_is t.0 t.1 ∙ sym (q.end_is t.0 t.1)) (none_or (lines_named (ascii "DTEND") ss) (end_laws ss).line)

  -- a rule, or none
  some_rule : (lines_named (ascii "RRULE") ss ≡ 0) ⊎ ((r : Rule) × Memᴰ (of (repeats r)) ss)
  some_rule = none_or (lines_named (ascii "RRULE") ss) (repeats_laws ss).line

  same_days : a.days ≡ b.days
  same_days = ⊎_elim (λ n. p.no_rule_days n ∙ sym (q.no_rule_days n)) (λ r. p.days_are r.0 r.1 ∙ sym (q.days_are r.0 r.1)) some_rule

  same_interval : a.interval ≡ b.interval
  same_interval =
      ⊎_elim (λ n. p.no_rule_interval n ∙ sym (q.no_rule_interval n)) (λ r. p.interval_is r.0 r.1 ∙ sym (q.interval_is r.0 r.1)) some_rule

  by_limit : (r : Rule) → Memᴰ (of (repeats r)) ss → (l : Limit) → r.limit ≡ l → a.repeat ≡ b.repeat
  by_limit r k Limit.Forever e = p.forever r k e ∙ sym (q.forever r k e)
  by_limit r k (Limit.Count n) e = p.count_is r n k e ∙ sym (q.count_is r n k e)
  by_limit r k (Limit.Until t) e = p.until_is r t k e ∙ sym (q.until_is r t k e)

  same_repeat : a.repeat ≡ b.repeat
  same_repeat = ⊎_elim (λ n. p.no_rule_once n ∙ sym (q.no_rule_once n)) (λ r. by_limit r.0 r.1 r.0.limit refl) some_rule

  by_stated : (Memᴰ (of (busy (transparent true))) ss → ⊥) → (s : Status) → Memᴰ (of (busy (status s))) ss → a.busy ≡ b.busy
  by_stated n Status.Cancelled k = p.cancelled_free k ∙ sym (q.cancelled_free k)
  by_stated n Status.Tentative k = p.tentative_so n k ∙ sym (q.tentative_so n k)
  by_stated n Status.Other k = p.other_busy n k ∙ sym (q.other_busy n k)

  opaque_busy : (Memᴰ (of (busy (transparent true))) ss → ⊥) → a.busy ≡ b.busy
  opaque_busy n =
      ⊎_elim (λ k. p.no_status_busy n k ∙ sym (q.no_status_busy n k)) (λ s. by_stated n s.0 s.1)
      (none_or (lines_named (ascii "STATUS") ss) (status_laws ss).line)

  by_transparency : (t : Option Bool) → (together ss).busy.transparency ≡ t → a.busy ≡ b.busy
  by_transparency (Some true) e =
      let k = (transparency_laws ss).said true e in
      p.transparent_free k ∙ sym (q.transparent_free k)
  by_transparency (Some false) e =
      opaque_busy (λ k. let h = (transparency_laws ss).holds true k w.few_transparencies in let z : ◌≡◌ {A = ℕ} 0 1 = cc in absurd (omega arith))
  by_transparency None e =
      opaque_busy (λ k. let h = (transparency_laws ss).holds true k w.few_transparencies in let z : ◌≡◌ {A = ℕ} 0 1 = cc in absurd (omega arith))

  event_is_one : a ≡ b
  event_is_one =
      let s = (start_laws ss).line (omega (arith, w.one_start)) in
      event_same a b (p.kind_is s.0 s.1 ∙ sym (q.kind_is s.0 s.1)) (p.start_is s.0 s.1 ∙ sym (q.start_is s.0 s.1)) same_ending
      same_days same_interval same_repeat (by_transparency (together ss).busy.transparency refl)

-- THE THEOREM of which event: an event is read exactly where the lines keep the rules of a VEVENT and say this event
pub event_is_iff : (ss : List Reading) (e : Event) → (event_by (with_properties no_properties ss) ≡ Some e) ↔ (EventRules ss × EventIs ss e)
event_is_iff ss e = (
  λ h. ((event_iff ss).0 (e, h), read_is ss e h),
  λ w.
      let x = (event_iff ss).1 w.0 in
      x.1 ∙ ap (λ (y : Event). Some y) (event_is_one ss w.0 x.0 e (read_is ss x.0 x.1) w.1),
)

-- ---- a VFREEBUSY

-- a second that is given, or none
abbrev bound_by : Option Time → Option ℕ
bound_by (Some t) = Some t.second
bound_by None = None

block_gives : (a b : Option Time) (x : Block) → block_from a b ≡ Some x → (x.start ≡ bound_by a) × (x.end ≡ bound_by b)
unfolding block_from
block_gives None None x h = let e = block_of_holds h in (ap (λ (y : Block). y.start) (sym e), ap (λ (y : Block). y.end) (sym e))
block_gives (Some s) None x h = let e = block_of_holds h in (ap (λ (y : Block). y.start) (sym e), ap (λ (y : Block). y.end) (sym e))
block_gives None (Some t) x h = let e = block_of_holds h in (ap (λ (y : Block). y.start) (sym e), ap (λ (y : Block). y.end) (sym e))
block_gives (Some s) (Some t) x h =
    let e = block_of_holds (sym (later_between s.second t.second (between_later s.second t.second x h)) ∙ h) in
    (ap (λ (y : Block). y.start) (sym e), ap (λ (y : Block). y.end) (sym e))

read_block_is : (ss : List Reading) (b : Block) → block_by (together ss) ≡ Some b → BlockIs ss b
read_block_is ss b h =
    let w = block_by_lem (together ss) b h in
    let few = few_lines ss w.0 in
    let g = block_gives (together ss).span.start (together ss).span.end b w.1 in
    record {
      start_is = λ s k. g.0 ∙ ap bound_by ((start_laws ss).holds s k few.0);
      no_start = λ n. g.0 ∙ ap bound_by ((start_laws ss).absent n);
      end_is = λ t k. g.1 ∙ ap bound_by ((end_laws ss).holds t k few.1);
      no_end = λ n. g.1 ∙ ap bound_by ((end_laws ss).absent n);
    }

block_same : (a b : Block) → a.start ≡ b.start → a.end ≡ b.end → a ≡ b
block_same a b s t = λ j. record { start = s j; end = t j }

block_is_one : (ss : List Reading) (a b : Block) → BlockIs ss a → BlockIs ss b → a ≡ b
block_is_one ss a b p q =
    block_same a b
    (⊎_elim (λ n. p.no_start n ∙ sym (q.no_start n)) (λ s. p.start_is s.0 s.1 ∙ sym (q.start_is s.0 s.1))
    (none_or (lines_named (ascii "DTSTART") ss) (start_laws ss).line))
    (⊎_elim (λ n. p.no_end n ∙ sym (q.no_end n)) (λ t. p.end_is t.0 t.1 ∙ sym (q.end_is t.0 t.1))
    (none_or (lines_named (ascii "DTEND") ss) (end_laws ss).line))

-- THE THEOREM of which block: of lines as a VFREEBUSY has them, a block is read exactly where they keep its rules and say this block
pub block_is_iff : (ss : List Reading) → BlockLines ss → (b : Block)
    → (block_by (with_properties no_properties ss) ≡ Some b) ↔ (BlockRules ss × BlockIs ss b)
block_is_iff ss n b = (
  λ h. ((block_iff ss n).0 (b, h), read_block_is ss b h),
  λ w.
      let x = (block_iff ss n).1 w.0 in
      x.1 ∙ ap (λ (y : Block). Some y) (block_is_one ss x.0 b (read_block_is ss x.0 x.1) w.1),
)
