-- The periods of an instance, of an event and of a calendar: which stand in the lists.
use Prim.Native.Nat.{ℕ, zero, suc, ◌≤◌, ◌<◌}
use mathlib.Core.Path.{◌≡◌, refl, sym, ap, ◌∙◌, subst}
use mathlib.Core.Bool.{Bool, true, false}
use mathlib.Core.Logic.{◌⊎◌, inl, inr}
use mathlib.Core.List.Memᴰ
use mathlib.Core.List.{List, [], ◌∷◌, ◌++◌, append_assoc, Memᴰ}
use native.Mathlib.Omega.{arith}
use lib.Dec.{ltb}
use borrow.Author.Tests.{ltb-true, ltb-false}
use Rattle.ascii.proofs.Bools.{clash}
use Rattle.time.specs.Limits.{last_second}
use Rattle.periods.specs.BusyTypes.{BusyPeriod}
use Rattle.events.specs.Events.{Entry, event, block}
use Rattle.events.specs.declared.Event.{Event}
use Rattle.events.specs.declared.Block.{Block}
use Rattle.seconds.specs.Seconds.{among}
use Rattle.events.specs.Sizes.{EventsSmall}
use Rattle.recurrence.specs.Instances.{utc_clock_of, start_of, occurs, instances_at_most}
use Rattle.recurrence.proofs.Instances.{starts_few, occurs_same, takes_place_iff}
use Rattle.pieces.specs.BusyPeriods.{second_of, instance_time, list_below, instance_period, event_periods, stated_periods, instance_periods, gathered, busy_periods, IsBusyPeriod, of_instance, of_block_holds}

-- ---- an instance

-- a list of one or of none, by a test
pub chosen : (t : Bool) (c : BusyPeriod) → t ≡ true → ◌≡◌ {A = List BusyPeriod} (elim t [ true ↦ c ∷ [] | false ↦ [] ]) (c ∷ [])
chosen true c h = refl
chosen false c h = clash h refl

pub left_out : (t : Bool) (c : BusyPeriod) → t ≡ false → ◌≡◌ {A = List BusyPeriod} (elim t [ true ↦ c ∷ [] | false ↦ [] ]) []
left_out true c h = clash refl h
left_out false c h = refl

pub occurs_period : (e : Event) (gone : List ℕ) (k : ℕ) → occurs e gone k ≡ true → instance_period e gone k ≡ instance_time e k ∷ []
unfolding instance_period
occurs_period e gone k h = chosen (occurs e gone k) (instance_time e k) h

pub fails_period : (e : Event) (gone : List ℕ) (k : ℕ) → occurs e gone k ≡ false → instance_period e gone k ≡ []
unfolding instance_period
fails_period e gone k h = left_out (occurs e gone k) (instance_time e k) h

-- ---- the lists below a number

pub below_listed : {p : BusyPeriod} (f : ℕ → List BusyPeriod) (n k : ℕ) → k < n → Memᴰ p (f k) → Memᴰ p (list_below n f)
unfolding list_below
below_listed f zero k h m = absurd (omega arith)
below_listed {p} f (suc n) k h m = go (ltb k n) refl (λ l. below_listed f n k l m)
  where
    go : (t : Bool) → ltb k n ≡ t → (k < n → Memᴰ p (list_below n f)) → Memᴰ p (list_below n f ++ f n)
    go true q r = Memᴰ.append_left (f n) (r (ltb-true k n q))
    go false q r =
        Memᴰ.append_right (list_below n f) (subst (λ (i : ℕ). Memᴰ p (f i)) (let z : k ≡ n = omega (arith, ltb-false k n q) in z) m)

pub record AtSome (p : BusyPeriod) (f : ℕ → List BusyPeriod) : Type 0 where
  pub number : ℕ
  pub there : Memᴰ p (f number)

pub listed_below : {p : BusyPeriod} (f : ℕ → List BusyPeriod) (n : ℕ) → Memᴰ p (list_below n f) → AtSome p f
unfolding list_below
listed_below f zero m = absurd (Memᴰ.not-nil m)
listed_below {p} f (suc n) m = go (Memᴰ.append_cases (list_below n f) m) (listed_below f n)
  where
    go : Memᴰ p (list_below n f) ⊎ Memᴰ p (f n) → (Memᴰ p (list_below n f) → AtSome p f) → AtSome p f
    go (inl d) r = r d
    go (inr d) r = record { number = n; there = d }

-- lists that are the same number by number
below_same : {f g : ℕ → List BusyPeriod} → ((k : ℕ) → f k ≡ g k) → (n : ℕ) → list_below n f ≡ list_below n g
unfolding list_below
below_same s zero = refl
below_same {f} {g} s (suc n) = ap (λ (l : List BusyPeriod). l ++ f n) (below_same s n) ∙ ap (λ (l : List BusyPeriod). list_below n g ++ l) (s n)

-- lists of the same seconds leave the same periods
pub event_same : (e : Event) (g h : List ℕ) → ((x : ℕ) → among x g ≡ among x h) → event_periods e g ≡ event_periods e h
unfolding event_periods instance_period
event_same e g h s =
    below_same
    (λ k.
    ap (λ (t : Bool). elim t [ true ↦ instance_time e k ∷ [] | false ↦ [] ]) (occurs_same e g h s k))
    instances_at_most

-- ---- entries

pub gathered_append : (f : Entry → List BusyPeriod) (xs ys : List Entry) → gathered f (xs ++ ys) ≡ gathered f xs ++ gathered f ys
unfolding gathered
gathered_append f [] ys = refl
gathered_append f (x ∷ xs) ys =
    ap (λ (l : List BusyPeriod). f x ++ l) (gathered_append f xs ys) ∙ sym (append_assoc (f x) (gathered f xs) (gathered f ys))

-- what an entry has is among what all have
gathered_listed : {p : BusyPeriod} (f : Entry → List BusyPeriod) (y : Entry) (es : List Entry) → Memᴰ y es → Memᴰ p (f y) → Memᴰ p (gathered f es)
unfolding gathered
gathered_listed f y [] d m = absurd (Memᴰ.not-nil d)
gathered_listed {p} f y (z ∷ es) d m = go (Memᴰ.cases_cons d) (λ i. gathered_listed f y es i m)
  where
    go : (y ≡ z) ⊎ Memᴰ y es → (Memᴰ y es → Memᴰ p (gathered f es)) → Memᴰ p (f z ++ gathered f es)
    go (inl i) r = Memᴰ.append_left (gathered f es) (subst (λ (w : Entry). Memᴰ p (f w)) i m)
    go (inr i) r = Memᴰ.append_right (f z) (r i)

-- and what all have, some entry has
record EntryWith (p : BusyPeriod) (f : Entry → List BusyPeriod) (es : List Entry) : Type 0 where
  pub entry : Entry
  pub listed : Memᴰ entry es
  pub there : Memᴰ p (f entry)

listed_gathered : {p : BusyPeriod} (f : Entry → List BusyPeriod) (es : List Entry) → Memᴰ p (gathered f es) → EntryWith p f es
unfolding gathered
listed_gathered f [] m = absurd (Memᴰ.not-nil m)
listed_gathered {p} f (y ∷ es) m = go (Memᴰ.append_cases (f y) m) (listed_gathered f es)
  where
    go : Memᴰ p (f y) ⊎ Memᴰ p (gathered f es) → (Memᴰ p (gathered f es) → EntryWith p f es) → EntryWith p f (y ∷ es)
    go (inl d) r = record { entry = y; listed = Memᴰ.head refl; there = d }
    go (inr d) r = let i = r d in record { entry = i.entry; listed = Memᴰ.tail i.listed; there = i.there }

instance_listed : (e : Event) (gone : List ℕ) (k : ℕ) → k < instances_at_most → occurs e gone k ≡ true
    → Memᴰ (instance_time e k) (instance_periods (event e gone))
unfolding instance_periods event_periods
instance_listed e gone k l h =
    below_listed (instance_period e gone) instances_at_most k l
    (subst (λ (w : List BusyPeriod). Memᴰ (instance_time e k) w) (sym (occurs_period e gone k h)) (Memᴰ.head refl))

block_listed : (k : Block) (ps : List BusyPeriod) {p : BusyPeriod} → Memᴰ p ps → Memᴰ p (stated_periods (block k ps))
unfolding stated_periods
block_listed k ps m = m

-- ---- for the reader: what stands in the list of all

instance_is : (e : Event) (gone : List ℕ) (k : ℕ) {p : BusyPeriod} → Memᴰ p (instance_period e gone k) → (es : List Entry) → Memᴰ (event e gone) es
    → IsBusyPeriod es p
instance_is e gone k {p} m es d = go (occurs e gone k) refl
  where
    go : (y : Bool) → occurs e gone k ≡ y → IsBusyPeriod es p
    go true q =
        of_instance e gone d k ((takes_place_iff e gone k).0 q)
        (Memᴰ.eq_of_singleton (subst (λ (l : List BusyPeriod). Memᴰ p l) (occurs_period e gone k q) m))
    go false q = absurd (Memᴰ.not-nil (subst (λ (l : List BusyPeriod). Memᴰ p l) (fails_period e gone k q) m))

stated_is : (y : Entry) {p : BusyPeriod} → Memᴰ p (stated_periods y) → (es : List Entry) → Memᴰ y es → IsBusyPeriod es p
unfolding stated_periods
stated_is (event e gone) m es d = absurd (Memᴰ.not-nil m)
stated_is (block k ps) m es d = of_block_holds k ps d m

instances_are : (y : Entry) {p : BusyPeriod} → Memᴰ p (instance_periods y) → (es : List Entry) → Memᴰ y es → IsBusyPeriod es p
unfolding instance_periods event_periods
instances_are (event e gone) m es d = let i = listed_below (instance_period e gone) instances_at_most m in instance_is e gone i.number i.there es d
instances_are (block k ps) m es d = absurd (Memᴰ.not-nil m)

pub listed_is : (es : List Entry) {p : BusyPeriod} → Memᴰ p (busy_periods es) → IsBusyPeriod es p
unfolding busy_periods
listed_is es {p} m = go (Memᴰ.append_cases (gathered stated_periods es) m)
  where
    go : Memᴰ p (gathered stated_periods es) ⊎ Memᴰ p (gathered instance_periods es) → IsBusyPeriod es p
    go (inl d) = let i = listed_gathered stated_periods es d in stated_is i.entry i.there es i.listed
    go (inr d) = let i = listed_gathered instance_periods es d in instances_are i.entry i.there es i.listed

-- none that starts within the limits is left out of the list
pub is_listed : (es : List Entry) {p : BusyPeriod} → EventsSmall es → p.period.start ≤ last_second → IsBusyPeriod es p → Memᴰ p (busy_periods es)
unfolding busy_periods
is_listed es {p} small l (of_instance e gone d k s q) =
    let early : second_of (start_of e k) ≤ last_second = subst (λ (w : BusyPeriod). w.period.start ≤ last_second) q l in
    let by_clock : start_of e k ≤ utc_clock_of last_second = omega (arith, early) in
    subst (λ (w : BusyPeriod). Memᴰ w (gathered stated_periods es ++ gathered instance_periods es)) (sym q)
    (Memᴰ.append_right (gathered stated_periods es)
    (gathered_listed instance_periods (event e gone) es d
    (instance_listed e gone k (starts_few k (small e gone d) by_clock) ((takes_place_iff e gone k).1 s))))
is_listed es small l (of_block_holds k ps d m) =
    Memᴰ.append_left (gathered instance_periods es) (gathered_listed stated_periods (block k ps) es d (block_listed k ps m))
