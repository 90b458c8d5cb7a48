-- Laws of offsets: the governing and the earliest onset found part by part, and that a clock has one offset.
use Rattle.std.specs.Prelude.{None, Option, Some}
use Prim.Native.Nat.{ℕ, ◌+◌, ◌-◌, ◌≤◌, ◌<◌}
use mathlib.Core.Path.{◌≡◌, refl, sym, subst, ◌∙◌}
use mathlib.Core.Bool.{Bool, true, false, cond}
use native.Mathlib.Omega.{arith}
use native.Mathlib.Decide.{dec_lt}
use lib.Dec.{ltb}
use borrow.Author.Tests.{lt-ltb, le-ltb}
use Rattle.zones.specs.declared.Part.{Part}
use Rattle.zones.specs.declared.offsets.Governing.{Governing}
use Rattle.zones.specs.Parts.{GoodPart}
use Rattle.zones.specs.Onsets.{IsOnset, at_start, LatestFound}
use Rattle.zones.specs.Offsets.{Governs, Opens, OpeningPart, offset_after, IsOffset, after, before, GoverningFound}
use Rattle.zones.proofs.OnsetsLaws.{start_least}

-- what holds of the onsets of the parts before k, and of part k
pub upto : (at : ℕ → Part) (k : ℕ) (Q : ℕ → ℕ → Type 0) → ((j u : ℕ) → j < k → IsOnset (at j) u → Q j u) → ((u : ℕ) → IsOnset (at k) u → Q k u)
    → (j u : ℕ) → j < k + 1 → IsOnset (at j) u → Q j u
upto at k Q f g j u l x = go (dec_lt j k)
  where
    go : Dec (j < k) → Q j u
    go (yes h) = f j u h x
    go (no h) = let e : j ≡ k = omega arith in rw e (g u (rw e at x))

-- ---- the governing onset, one part more

pub nothing_else : {A B : Type 0} {x : B} → None ≡ Some x → A
nothing_else e = let z : ◌≡◌ {A = ℕ} 0 1 = cc in absurd (omega arith)

-- of the governing onset that is there, its clock is not past t
pub one_clock : {r : Option Governing} {g : Governing} {t : ℕ} → r ≡ Some g → g.clock ≤ t → (c : Governing) → r ≡ Some c → c.clock ≤ t
one_clock {r} {g} {t} p h c s = let z : g ≡ c = cc in subst (λ (a : Governing). a.clock ≤ t) z h

pub none_yet : (at : ℕ → Part) (w : ℕ) → GoverningFound at 0 w None
none_yet at w = record { found = λ y s. nothing_else s; none = λ s j u h. absurd (omega arith) }

module _ (at : ℕ → Part) (k w : ℕ) where
  wider : (i t : ℕ) → Governs at k w i t → ((u : ℕ) → IsOnset (at k) u → u ≤ w → u < t) → Governs at (k + 1) w i t
  wider i t x f =
      record {
        listed = omega (arith, x.listed);
        is_onset = x.is_onset;
        reached = x.reached;
        greatest = upto at k (λ j u. u ≤ w → u ≤ t) x.greatest (λ u o h. omega (arith, f u o h));
        last = λ j l o.
            upto at k (λ j u. u ≡ t → j ≤ i) (λ j u h y e. x.last j h (rw e at y)) (λ u y e. omega (arith, f u y (omega (arith, x.reached)))) j t l o refl;
      }

  module _ (g : Option Governing) (p : Part) (r : Option ℕ) (x : GoverningFound at k w g) (e : p ≡ at k) (l : LatestFound (IsOnset p) w r) where
    here : LatestFound (IsOnset (at k)) w r
    here = rw e at l

    -- a part that is not reached, or whose latest onset is earlier, changes nothing
    pub pass_none : r ≡ None → GoverningFound at (k + 1) w g
    pass_none q =
        record {
          found = λ y s. wider y.part y.clock (x.found y s) (λ u o h. absurd (here.none q u o h));
          none = λ s. upto at k (λ j u. u ≤ w → ⊥) (x.none s) (here.none q);
        }

    pub pass_lower : (t : ℕ) → r ≡ Some t → (c : Governing) → g ≡ Some c → t < c.clock → GoverningFound at (k + 1) w g
    pass_lower t q c b lower =
        record {
          found = λ y s.
              let z : c ≡ y = cc in
              wider y.part y.clock (x.found y s) (λ u o h. omega (arith, (here.found t q).greatest u o h, subst (λ (a : Governing). t < a.clock) z lower));
          none = λ s. nothing_else (sym s ∙ b);
        }

    -- any other takes over
    pub pass_taken : (t : ℕ) → r ≡ Some t → ((c : Governing) → g ≡ Some c → c.clock ≤ t)
        → GoverningFound at (k + 1) w (Some (record { part = k; clock = t }))
    pass_taken t q b =
        record {
          found = λ y s. let z : record { part = k; clock = t } ≡ y = cc in subst (λ (a : Governing). Governs at (k + 1) w a.part a.clock) z taken;
          none = λ s. nothing_else (sym s);
        }
      where
        go : (a : Option Governing) → g ≡ a → (j u : ℕ) → j < k → IsOnset (at j) u → u ≤ w → u ≤ t
        go (Some c) f j u h o m = omega (arith, b c f, (x.found c f).greatest j u h o m)
        go None f j u h o m = absurd (x.none f j u h o m)

        taken : Governs at (k + 1) w k t
        taken =
            record {
              listed = omega arith;
              is_onset = (here.found t q).is_one;
              reached = (here.found t q).reached;
              greatest = upto at k (λ j u. u ≤ w → u ≤ t) (λ j u h o m. go g refl j u h o m) (here.found t q).greatest;
              last = λ j h o. omega arith;
            }

pub found_done : (at : ℕ → Part) (i n w : ℕ) (g : Option Governing) → i ≤ n → n ≤ i → GoverningFound at i w g → GoverningFound at n w g
found_done at i n w g h k x = let e : i ≡ n = omega arith in rw e at x

-- ---- the earliest onset, one part more

pub open_first : (at : ℕ → Part) (t : ℕ) → t ≡ (at 0).start → Opens at 1 0 t
open_first at t s =
    record {
      listed = omega arith;
      is_onset = at_start s;
      least = λ j u h o. go j u (omega arith) o;
      last = λ j h o. omega arith;
    }
  where
    go : (j u : ℕ) → j ≡ 0 → IsOnset (at j) u → t ≤ u
    go j u e o = omega (arith, start_least (at 0) u (rw e at o))

module _ (at : ℕ → Part) (k b t : ℕ) (x : Opens at k b t) where
  pub open_keep : t < (at k).start → Opens at (k + 1) b t
  open_keep h =
      record {
        listed = omega (arith, x.listed);
        is_onset = x.is_onset;
        least = upto at k (λ j u. t ≤ u) x.least (λ u o. omega (arith, start_least (at k) u o));
        last = λ j l o.
            upto at k (λ j u. u ≡ t → j ≤ b) (λ j u h y e. x.last j h (rw e at y)) (λ u y e. omega (arith, start_least (at k) u y)) j t l o refl;
      }

  pub open_take : (at k).start ≤ t → OpeningPart at (k + 1) k
  open_take h =
      record {
        listed = omega arith;
        is_onset = at_start refl;
        least = upto at k (λ j u. (at k).start ≤ u) (λ j u l o. omega (arith, x.least j u l o)) (start_least (at k));
        last = λ j l o. omega arith;
      }

pub open_done : (at : ℕ → Part) (i n b t : ℕ) → i ≤ n → n ≤ i → t ≡ (at b).start → Opens at i b t → OpeningPart at n b
open_done at i n b t h k f x = let e : i ≡ n = omega arith in rw (e, f) at x

-- ---- the offset, by each way out

module _ (at : ℕ → Part) (n w : ℕ) (r : Option Governing) (x : GoverningFound at n w r) (p : Part) where
  pub by_from_holds : (g : Governing) → r ≡ Some g → p ≡ at g.part → w - g.clock + p.from < p.to → IsOffset at n w p.from
  unfolding offset_after
  by_from_holds g s e h = after g.part g.clock (x.found g s) (rw (← e, lt-ltb (w - g.clock + p.from) p.to h))

  pub by_to_holds : (g : Governing) → r ≡ Some g → p ≡ at g.part → p.to ≤ w - g.clock + p.from → IsOffset at n w p.to
  unfolding offset_after
  by_to_holds g s e h = after g.part g.clock (x.found g s) (rw (← e, le-ltb (w - g.clock + p.from) p.to h))

  pub by_opening : r ≡ None → (i : ℕ) → OpeningPart at n i → p ≡ at i → IsOffset at n w p.from
  by_opening s i o e = before i (at i).start (x.none s) o (rw e)

-- ---- a clock has one offset

pub one_governs : (at : ℕ → Part) (n w i t j u : ℕ) → Governs at n w i t → Governs at n w j u → (t ≡ u) × (i ≡ j)
one_governs at n w i t j u x y =
    let q : t ≡ u = omega (arith, x.greatest j u y.listed y.is_onset y.reached, y.greatest i t x.listed x.is_onset x.reached) in
    (q, omega (arith, x.last j y.listed (rw (← q) at y.is_onset), y.last i x.listed (rw q at x.is_onset)))

pub one_opens : (at : ℕ → Part) (n i t j u : ℕ) → Opens at n i t → Opens at n j u → (t ≡ u) × (i ≡ j)
one_opens at n i t j u x y =
    let q : t ≡ u = omega (arith, x.least j u y.listed y.is_onset, y.least i t x.listed x.is_onset) in
    (q, omega (arith, x.last j y.listed (rw (← q) at y.is_onset), y.last i x.listed (rw q at x.is_onset)))

pub one_offset : (at : ℕ → Part) (n w a b : ℕ) → IsOffset at n w a → IsOffset at n w b → a ≡ b
one_offset at n w a b (after i t x e) (after j u y f) =
    let o : (t ≡ u) × (i ≡ j) = one_governs at n w i t j u x y in
    e ∙ (rw (o.0, o.1) refl) ∙ sym f
one_offset at n w a b (after i t x e) (before j u y z f) = absurd (y i t x.listed x.is_onset x.reached)
one_offset at n w a b (before i t x z e) (after j u y f) = absurd (x j u y.listed y.is_onset y.reached)
one_offset at n w a b (before i t x z e) (before j u y v f) = e ∙ (rw (one_opens at n i t j u z v).1 refl) ∙ sym f

-- ---- and it is less than a day from UTC

after_small : (p : Part) (w t : ℕ) → GoodPart p → (1 ≤ offset_after p w t) × (offset_after p w t ≤ 172799)
unfolding offset_after
after_small p w t x = go (ltb (w - t + p.from) p.to)
  where
    go : (b : Bool) → (1 ≤ cond b p.from p.to) × (cond b p.from p.to ≤ 172799)
    go true = (x.from_some, x.from_good)
    go false = (x.to_some, x.to_good)

pub offset_small : (at : ℕ → Part) (n w o : ℕ) → ((i : ℕ) → i < n → GoodPart (at i)) → IsOffset at n w o → (1 ≤ o) × (o ≤ 172799)
offset_small at n w o g (after i t x e) =
    let s : (1 ≤ offset_after (at i) w t) × (offset_after (at i) w t ≤ 172799) = after_small (at i) w t (g i x.listed) in
    (omega (arith, s.0), omega (arith, s.1))
offset_small at n w o g (before i t x y e) = (omega (arith, (g i y.listed).from_some), omega (arith, (g i y.listed).from_good))

-- ---- zones with the same parts have the same offsets

module _ (at too : ℕ → Part) (n : ℕ) (same : (i : ℕ) → i < n → at i ≡ too i) where
  onset_of_holds : (i t : ℕ) → i < n → IsOnset (too i) t → IsOnset (at i) t
  onset_of_holds i t h o = rw (same i h) o

  pub offset_same : (w o : ℕ) → IsOffset at n w o → IsOffset too n w o
  offset_same w o (after i t x e) =
      after i t
      (record {
        listed = x.listed;
        is_onset = rw (same i x.listed) at x.is_onset;
        reached = x.reached;
        greatest = λ j u h y. x.greatest j u h (onset_of_holds j u h y);
        last = λ j h y. x.last j h (onset_of_holds j t h y);
      })
      (rw (same i x.listed) at e)
  offset_same w o (before i t x y e) =
      before i t (λ j u h z. x j u h (onset_of_holds j u h z))
      (record {
        listed = y.listed;
        is_onset = rw (same i y.listed) at y.is_onset;
        least = λ j u h z. y.least j u h (onset_of_holds j u h z);
        last = λ j h z. y.last j h (onset_of_holds j t h z);
      })
      (rw (same i y.listed) at e)
