-- Laws of offsets as they are computed: what is computed is the offset, the UTC time is exact from the second day of year 0 on, and near its clock.
use Rattle.std.specs.Prelude.{None, Option, Some}
use Prim.Native.Nat.{ℕ, zero, suc, ◌+◌, ◌-◌, ◌≤◌, ◌<◌}
use mathlib.Core.Path.{◌≡◌, refl, sym, ap, subst}
use mathlib.Core.Logic.{◌↔◌}
use mathlib.Core.Bool.{Bool, true, false, cond}
use native.Mathlib.Omega.{arith}
use native.Mathlib.Numerals.{add-one}
use lib.Dec.{ltb, leb}
use borrow.Author.Tests.{ltb-true, ltb-false, leb-true, leb-false}
use Rattle.zones.specs.declared.Part.{Part}
use Rattle.zones.specs.declared.offsets.Governing.{Governing}
use Rattle.zones.specs.Parts.{GoodPart}
use Rattle.zones.specs.Onsets.{IsOnset, LatestFound, latest_onset}
use Rattle.zones.specs.Offsets.{OpeningPart, GoverningFound, IsOffset, after, before, IsUtcClock}
use Rattle.zones.specs.Offsets.{later_onset, governing, earlier_part, opening_part, offset_by, offset_of, utc_clock}
use Rattle.zones.proofs.OnsetsLaws.{latest_is}
use Rattle.zones.proofs.OffsetsLaws.{nothing_else, one_clock, none_yet, pass_none, pass_lower, pass_taken, open_first, open_keep, open_take, one_offset, offset_small, offset_same}

-- ---- part by part

module _ (at : ℕ → Part) (w : ℕ) where
  next : (k : ℕ) (g : Option Governing) (r : Option ℕ) → GoverningFound at k w g → LatestFound (IsOnset (at k)) w r → GoverningFound at (suc k) w (later_onset k r g)
  next k g None x l = rw add-one at (pass_none at k w g (at k) None x refl l refl)
  next k None (Some t) x l = rw add-one at (pass_taken at k w None (at k) (Some t) x refl l t refl (λ c s. nothing_else s))
  next k (Some g) (Some t) x l = rw add-one at (go (ltb t g.clock) refl)
    where
      go : (b : Bool) → ltb t g.clock ≡ b → GoverningFound at (k + 1) w (cond b (Some g) (Some (record { part = k; clock = t })))
      go true e = pass_lower at k w (Some g) (at k) (Some t) x refl l t refl g refl (ltb-true t g.clock e)
      go false e =
          pass_taken at k w (Some g) (at k) (Some t) x refl l t refl
          (one_clock refl (ltb-false t g.clock e))

  governing_is : (n : ℕ) → ((i : ℕ) → i < n → GoodPart (at i)) → GoverningFound at n w (governing at w n)
  unfolding governing
  governing_is zero g = none_yet at w
  governing_is (suc k) g =
      next k (governing at w k) (latest_onset (at k) w) (governing_is k (λ i h. g i (omega arith))) (latest_is (at k) w (g k (omega arith)))

earlier_is : (at : ℕ → Part) (k b : ℕ) → OpeningPart at k b → OpeningPart at (suc k) (earlier_part at k b)
earlier_is at k b x = rw add-one at (go (leb (at k).start (at b).start) refl)
  where
    go : (t : Bool) → leb (at k).start (at b).start ≡ t → OpeningPart at (k + 1) (cond t k b)
    go true e = open_take at k b _ x (leb-true (at k).start (at b).start e)
    go false e = open_keep at k b _ x (leb-false (at k).start (at b).start e)

one_part : (t : Bool) (z : ℕ) → cond t z z ≡ z
one_part true z = refl
one_part false z = refl

opening_is : (at : ℕ → Part) (n : ℕ) → OpeningPart at (suc n) (opening_part at (suc n))
unfolding opening_part
opening_is at zero = rw (one_part (leb (at 0).start (at 0).start) 0) (open_first at _ refl)
opening_is at (suc n) = earlier_is at (suc n) (opening_part at (suc n)) (opening_is at n)

-- ---- the offset

offset_is : (at : ℕ → Part) (n w : ℕ) → 1 ≤ n → ((i : ℕ) → i < n → GoodPart (at i)) → IsOffset at n w (offset_of at n w)
unfolding offset_of
offset_is at zero w h g = absurd (omega arith)
offset_is at (suc n) w h g = go (governing at w (suc n)) (governing_is at w (suc n) g)
  where
    go : (q : Option Governing) → GoverningFound at (suc n) w q → IsOffset at (suc n) w (offset_by at w (opening_part at (suc n)) q)
    go (Some g) x = after g.part g.clock (x.found g refl) refl
    go None x = before (opening_part at (suc n)) _ (x.none refl) (opening_is at n) refl

module _ (at : ℕ → Part) (n w : ℕ) (h : 1 ≤ n) (g : (i : ℕ) → i < n → GoodPart (at i)) where
  -- what is computed is the offset, and nothing else is
  pub offset_iff : (o : ℕ) → (o ≡ offset_of at n w) ↔ IsOffset at n w o
  offset_iff o = (λ e. subst (λ (a : ℕ). IsOffset at n w a) (sym e) (offset_is at n w h g), λ x. one_offset at n w o (offset_of at n w) x (offset_is at n w h g))

  pub offset_bounds : (1 ≤ offset_of at n w) × (offset_of at n w ≤ 172799)
  offset_bounds = offset_small at n w (offset_of at n w) g (offset_is at n w h g)

  -- a UTC clock is less than a day from its wall clock
  pub utc_near : (w ≤ utc_clock at n w + 86399) × (utc_clock at n w ≤ w + 86399)
  unfolding utc_clock
  utc_near = (omega (arith, offset_bounds.1), omega (arith, offset_bounds.0))

  -- from the second day of year 0 on nothing is cut off
  pub utc_iff : 86400 ≤ w → (u : ℕ) → (u ≡ utc_clock at n w) ↔ IsUtcClock at n w u
  unfolding utc_clock
  utc_iff l u = (
    λ e. record { offset = offset_of at n w; is_offset = offset_is at n w h g; is_utc_holds = omega (arith, offset_bounds.1) },
    λ x. omega (arith, x.is_utc_holds, (offset_iff x.offset).1 x.is_offset),
  )

  -- by the offset that was found
  pub utc_by_holds : (o : ℕ) → IsOffset at n w o → o ≤ w + 86400 → w + 86400 - o ≡ utc_clock at n w
  unfolding utc_clock
  utc_by_holds o x l = ap (λ (a : ℕ). w + 86400 - a) ((offset_iff o).1 x)

  pub utc_cut : (o : ℕ) → IsOffset at n w o → w + 86400 < o → 0 ≡ utc_clock at n w
  unfolding utc_clock
  utc_cut o x l = omega (arith, (offset_iff o).1 x)

-- zones with the same parts give a clock the same UTC time
pub utc_same : (at too : ℕ → Part) (n w : ℕ) → 1 ≤ n → ((i : ℕ) → i < n → GoodPart (at i)) → ((i : ℕ) → i < n → at i ≡ too i)
    → utc_clock at n w ≡ utc_clock too n w
unfolding utc_clock
utc_same at too n w h g same =
    ap (λ (a : ℕ). w + 86400 - a)
    ((offset_iff too n w h (λ i l. subst (λ (p : Part). GoodPart p) (same i l) (g i l)) (offset_of at n w)).1
    (offset_same at too n same w (offset_of at n w) (offset_is at n w h g)))
