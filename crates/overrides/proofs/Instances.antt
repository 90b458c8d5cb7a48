-- The division finds the instance that a second names, if there is one.
-- Which starts are taken away from a VEVENT, and what that does to its instances.
use Prim.Native.Nat.{ℕ, ◌+◌, ◌-◌, ◌*◌, ◌/◌, ◌≤◌, ◌<◌}
use mathlib.Core.Path.{◌≡◌, refl, sym, ap, subst, ◌∙◌}
use mathlib.Core.Bool.{Bool, true, false, cond, not, ◌&&◌}
use mathlib.Core.List.Memᴰ
use mathlib.Core.List.{List, [], ◌∷◌, ◌++◌, Memᴰ, append-nil}
use mathlib.Core.Logic.{◌↔◌, ⊎_elim}
use native.Mathlib.Omega.{arith}
use native.Mathlib.Nat.{mul-div_cancel, div-zero, mul-zero, mul-le-mul_left, div-mul-le_self}
use lib.Dec.{eqb}
use borrow.Author.Tests.{eqb-true, eqb-false, eq-eqb}
use Rattle.ascii.proofs.Bools.{clash, not_so, and_left, and_right, and_both}
use Rattle.time.specs.Limits.{last_second}
use Rattle.seconds.specs.Seconds.{among}
use Rattle.seconds.proofs.Seconds.{among_iff}
use Rattle.values.specs.TimeLists.{seconds_of}
use Rattle.values.specs.declared.times.Time.{Time}
use Rattle.events.specs.declared.Event.{Event}
use Rattle.events.specs.Sizes.{EventSmall}
use Rattle.recurrence.specs.Instances.{utc_clock_of, clock_among, step_of, start_of, is_instance, occurs}
use Rattle.recurrence.proofs.Instances.{clock_among_lem, eqb_clock, instance_before, step_long}
use Rattle.overrides.specs.VEvents.{VEvent, is_master, is_override, shares_uid, Master, Override, SharesUid}
use Rattle.overrides.specs.Instances.{number_at, names_instance, moved_from, removed_from, NamesInstance, Removed, excluded, moved}
use Rattle.overrides.proofs.VEvents.{master_iff, override_iff, shares_iff}

-- ---- naming an instance

-- the number by the division is none later than k, and starts where k does
division : (start step k s : ℕ) → start + k * step ≡ s → ((s - start) / step ≤ k) × (start + (s - start) / step * step ≡ s)
division start step k s h = go (eqb step 0) refl
  where
    d : s - start ≡ k * step
    d = omega arith

    go : (t : Bool) → eqb step 0 ≡ t → ((s - start) / step ≤ k) × (start + (s - start) / step * step ≡ s)
    go true q =
        let z : step ≡ 0 = eqb-true step 0 q in
        let x : (s - start) / step ≡ 0 = ap (λ (n : ℕ). (s - start) / n) z ∙ div-zero (s - start) in
        let y : k * step ≡ 0 = ap (λ (n : ℕ). k * n) z ∙ mul-zero k in
        let w : (s - start) / step * step ≡ 0 = ap (λ (n : ℕ). (s - start) / step * n) z ∙ mul-zero _ in
        (omega arith, omega arith)
    go false q =
        let n = eqb-false step 0 q in
        let p : 0 < step = omega arith in
        let x : (s - start) / step ≡ k = ap (λ (n : ℕ). n / step) d ∙ mul-div_cancel k p in
        (omega arith, ap (λ (n : ℕ). start + n * step) x ∙ h)

number_at_lem : (e : Event) (k s : ℕ) → start_of e k ≡ utc_clock_of s → (number_at e s ≤ k) × (start_of e (number_at e s) ≡ utc_clock_of s)
unfolding number_at start_of
number_at_lem e k s h =
    let by_seconds : e.start + k * step_of e ≡ s = omega (arith, h) in
    let d = division e.start (step_of e) k s by_seconds in
    (d.0, omega (arith, d.1))

-- the division finds the instance, if there is one
pub names_iff : (e : Event) (s : ℕ) → (names_instance e s ≡ true) ↔ NamesInstance e s
unfolding names_instance
names_iff e s = (
  λ h.
      record {
        number = number_at e s;
        there = and_left (is_instance e (number_at e s)) _ h;
        starts = eqb-true _ (utc_clock_of s) (and_right (is_instance e (number_at e s)) _ h);
      },
  λ n.
      let p = number_at_lem e n.number s n.starts in
      and_both (instance_before e (number_at e s) n.number p.0 n.there) (eq-eqb _ (utc_clock_of s) p.1),
)

-- the code's test, by the second t at which the instance of that number starts
pub names_by : (e : Event) (s d k t : ℕ) → d ≡ step_of e → k ≡ (s - e.start) / d → start_of e k ≡ utc_clock_of t → (is_instance e k && eqb t s) ≡ names_instance e s
unfolding names_instance number_at
names_by e s d k t p q r =
    ap (λ (x : Bool). is_instance e k && x) (sym (eqb_clock t s) ∙ ap (λ (n : ℕ). eqb n (utc_clock_of s)) (sym r))
    ∙ ap (λ (n : ℕ). is_instance e n && eqb (start_of e n) (utc_clock_of s)) (q ∙ ap (λ (n : ℕ). (s - e.start) / n) p)

-- a second before DTSTART names none
pub before_start : (e : Event) (s : ℕ) → s < e.start → false ≡ names_instance e s
unfolding names_instance start_of
before_start e s h = sym (not_so _ (λ q. omega (arith, eqb-true _ (utc_clock_of s) (and_right (is_instance e (number_at e s)) _ q))))

-- from 1970 to 2099 a number is small
pub number_few : {e : Event} {s d : ℕ} → EventSmall e → s ≤ last_second → d ≡ step_of e → (s - e.start) / d ≤ 100000
number_few {e} {s} {d} h p q =
    let long : 86400 ≤ d = omega (arith, step_long h) in
    let m : (s - e.start) / d * 86400 ≤ (s - e.start) / d * d = mul-le-mul_left _ long in
    omega (arith, div-mul-le_self (s - e.start) d)

-- ---- what is taken away

-- where nothing is, the rule alone decides
pub nothing_removed : (e : Event) (k : ℕ) → occurs e [] k ≡ is_instance e k
unfolding occurs clock_among
nothing_removed e k = go (is_instance e k)
  where
    go : (t : Bool) → (t && true) ≡ t
    go true = refl
    go false = refl

-- an instance that starts at a removed second is not left
pub removed_gone : (e : Event) (gone : List ℕ) (k s : ℕ) → start_of e k ≡ utc_clock_of s → among s gone ≡ true → occurs e gone k ≡ false
unfolding occurs
removed_gone e gone k s q h =
    not_so _ (λ o. clash (and_right (is_instance e k) _ o) (ap not (ap (λ (x : ℕ). clock_among x gone) q ∙ clock_among_lem s gone ∙ h)))

-- a time of the list has this second
pub record TimeAt (s : ℕ) (ts : List Time) : Type 0 where
  pub time : Time
  pub listed : Memᴰ time ts
  pub is_second : time.second ≡ s

time_found : (s : ℕ) (ts : List Time) → Memᴰ s (seconds_of ts) → TimeAt s ts
unfolding seconds_of
time_found s [] m = absurd (Memᴰ.not-nil m)
time_found s (t ∷ ts) (Memᴰ.head e) = record { time = t; listed = Memᴰ.head refl; is_second = sym e }
time_found s (t ∷ ts) (Memᴰ.tail m) =
    let f = time_found s ts m in
    record { time = f.time; listed = Memᴰ.tail f.listed; is_second = f.is_second }

second_there : {t : Time} {ts : List Time} (s : ℕ) → Memᴰ t ts → t.second ≡ s → Memᴰ s (seconds_of ts)
unfolding seconds_of
second_there s (Memᴰ.head e) q = Memᴰ.head (sym q ∙ ap (λ (x : Time). x.second) e)
second_there s (Memᴰ.tail m) q = Memᴰ.tail (second_there s m q)

pub seconds_iff : (s : ℕ) (ts : List Time) → Memᴰ s (seconds_of ts) ↔ TimeAt s ts
seconds_iff s ts = (time_found s ts, λ f. second_there s f.listed f.is_second)

-- a list that names a second is not empty
names_some : (s : ℕ) (ts : List Time) → Memᴰ s (seconds_of ts) → ts ≡ [] → ⊥
names_some s ts m h = let f = time_found s ts m in Memᴰ.not-nil (subst (Memᴰ f.time) h f.listed)

-- one of these VEVENTs is an override of v's UID and names s
record MovedBy (v : VEvent) (s : ℕ) (ws : List VEvent) : Type 0 where
  which : VEvent
  listed : Memᴰ which ws
  shares : SharesUid v which
  names : Memᴰ s (seconds_of which.recurrence_ids)

module _ (v : VEvent) (s : ℕ) where
  moved_found : (ws : List VEvent) → Memᴰ s (moved_from v ws) → MovedBy v s ws
  unfolding moved_from
  moved_found [] m = absurd (Memᴰ.not-nil m)
  moved_found (w ∷ ws) m = go (is_override w && shares_uid v w) refl (moved_found ws) m
    where
      later : MovedBy v s ws → MovedBy v s (w ∷ ws)
      later x = record { which = x.which; listed = Memᴰ.tail x.listed; shares = x.shares; names = x.names }

      go : (t : Bool) → (is_override w && shares_uid v w) ≡ t → (Memᴰ s (moved_from v ws) → MovedBy v s ws)
          → Memᴰ s (cond t (seconds_of w.recurrence_ids) [] ++ moved_from v ws) → MovedBy v s (w ∷ ws)
      go true q below m =
          ⊎_elim
          (λ (x : Memᴰ s (seconds_of w.recurrence_ids)). record {
            which = w;
            listed = Memᴰ.head refl;
            shares = (shares_iff v w).0 (and_right (is_override w) _ q);
            names = x;
          })
          (λ (x : Memᴰ s (moved_from v ws)). later (below x))
          (Memᴰ.append_cases (seconds_of w.recurrence_ids) m)
      go false q below m = later (below m)

  moved_there : {w : VEvent} {ws : List VEvent} → Memᴰ w ws → SharesUid v w → Memᴰ s (seconds_of w.recurrence_ids)
      → Memᴰ s (moved_from v ws)
  unfolding moved_from
  moved_there {w} (Memᴰ.head {x = x} {xs = xs} e) h n =
      let t : (is_override x && shares_uid v x) ≡ true =
      subst (λ (y : VEvent). (is_override y && shares_uid v y) ≡ true) e
      (and_both ((override_iff w).1 (names_some s w.recurrence_ids n)) ((shares_iff v w).1 h)) in
      subst (λ (b : Bool). Memᴰ s (cond b (seconds_of x.recurrence_ids) [] ++ moved_from v xs)) (sym t)
      (Memᴰ.append_left (moved_from v xs) (subst (λ (y : VEvent). Memᴰ s (seconds_of y.recurrence_ids)) e n))
  moved_there (Memᴰ.tail {x = x} m) h n =
      Memᴰ.append_right (cond (is_override x && shares_uid v x) (seconds_of x.recurrence_ids) []) (moved_there m h n)

  removed_found : (all : List VEvent) → Memᴰ s (removed_from all v) → Removed all v s
  unfolding removed_from
  removed_found all m = go (is_master v) refl m
    where
      go : (t : Bool) → is_master v ≡ t → Memᴰ s (cond t (seconds_of v.exceptions ++ moved_from v all) []) → Removed all v s
      go true q m =
          ⊎_elim
          (λ (x : Memᴰ s (seconds_of v.exceptions)). excluded ((master_iff v).0 q) x)
          (λ (x : Memᴰ s (moved_from v all)).
          let p = moved_found all x in
          moved ((master_iff v).0 q) p.which p.listed p.shares p.names)
          (Memᴰ.append_cases (seconds_of v.exceptions) m)
      go false q m = absurd (Memᴰ.not-nil m)

  removed_there : (all : List VEvent) → Removed all v s → Memᴰ s (removed_from all v)
  unfolding removed_from
  removed_there all (excluded m x) =
      subst (λ (t : Bool). Memᴰ s (cond t (seconds_of v.exceptions ++ moved_from v all) [])) (sym ((master_iff v).1 m))
      (Memᴰ.append_left (moved_from v all) x)
  removed_there all (moved m w i h n) =
      subst (λ (t : Bool). Memᴰ s (cond t (seconds_of v.exceptions ++ moved_from v all) [])) (sym ((master_iff v).1 m))
      (Memᴰ.append_right (seconds_of v.exceptions) (moved_there i h n))

  -- the list has the starts that are taken away
  pub removed_iff : (all : List VEvent) → (among s (removed_from all v) ≡ true) ↔ Removed all v s
  removed_iff all = (
    λ h. removed_found all ((among_iff s (removed_from all v)).0 h),
    λ r. (among_iff s (removed_from all v)).1 (removed_there all r),
  )

untied_moved : (v : VEvent) (ws : List VEvent) → ((w : VEvent) → Memᴰ w ws → Override w → SharesUid v w → ⊥) → moved_from v ws ≡ []
unfolding moved_from
untied_moved v [] n = refl
untied_moved v (w ∷ ws) n =
    let t : (is_override w && shares_uid v w) ≡ false =
    not_so _ (λ q. n w (Memᴰ.head refl) ((override_iff w).0 (and_left (is_override w) _ q)) ((shares_iff v w).0 (and_right (is_override w) _ q))) in
    ap (λ (b : Bool). cond b (seconds_of w.recurrence_ids) [] ++ moved_from v ws) t ∙ untied_moved v ws (λ x m. n x (Memᴰ.tail m))

-- a master that no override is tied to loses its exceptions alone
pub untied : (all : List VEvent) (v : VEvent) → Master v → ((w : VEvent) → Memᴰ w all → Override w → SharesUid v w → ⊥)
    → removed_from all v ≡ seconds_of v.exceptions
unfolding removed_from
untied all v m n =
    ap (λ (t : Bool). cond t (seconds_of v.exceptions ++ moved_from v all) []) ((master_iff v).1 m)
    ∙ ap (λ (l : List ℕ). seconds_of v.exceptions ++ l) (untied_moved v all n)
    ∙ append-nil (seconds_of v.exceptions)

-- an override loses nothing
pub override_keeps : (all : List VEvent) (v : VEvent) → Override v → removed_from all v ≡ []
unfolding removed_from
override_keeps all v o =
    ap (λ (t : Bool). cond t (seconds_of v.exceptions ++ moved_from v all) []) (not_so (is_master v) (λ q. o ((master_iff v).0 q)))
