-- What the stage of sizes refuses, whatever rows follow, and what it leaves to them where it refuses nothing; what was unfolded into the work buffer.
use Rattle.std.specs.Prelude.{Ok}
use Prim.Native.Nat.{ℕ, ◌≤◌, ◌<◌}
use mathlib.Core.Path.{◌≡◌, refl, sym}
use mathlib.Core.Bool.{Bool, true, false}
use mathlib.Core.List.{List, ◌++◌}
use native.Mathlib.Omega.{arith}
use lib.Dec.{ltb}
use lib.ListN.{length, take}
use lib.Seq.{length-take-le}
use borrow.Author.Tests.{ltb-true, ltb-false, lt-ltb, le-ltb}
use Rattle.text.specs.Unfolding.{Unfolded}
use Rattle.text.proofs.Unfolding.{unfolded_room, length_unfolded}
use Rattle.calendar.specs.Refused.{refused_at}
use Rattle.refusals.specs.Refusals.{Row, first_refusal, size_rows}
use Rattle.refusals.specs.Stages.{size_fault}
use Rattle.refusals.proofs.Refusals.{no_fault_here, stage_passed, stage_refused}

-- ---- 2 and 3: sizes

module _ (cal work : List ℕ) where
  pub calendar_long : 65536 < length cal → refused_at 2 0 ≡ size_fault cal work
  unfolding size_fault size_rows first_refusal
  calendar_long h = rw (lt-ltb 65536 (length cal) h)

  pub work_short : length cal ≤ 65536 → length work < length cal → refused_at 3 0 ≡ size_fault cal work
  unfolding size_fault size_rows first_refusal
  work_short h k = rw (le-ltb 65536 (length cal) h, lt-ltb (length work) (length cal) k)

  pub sizes_good : length cal ≤ 65536 → length cal ≤ length work → Ok tt ≡ size_fault cal work
  unfolding size_fault size_rows first_refusal
  sizes_good h k = rw (le-ltb 65536 (length cal) h, le-ltb (length work) (length cal) k)

  pub sizes_small : size_fault cal work ≡ Ok tt → length cal ≤ 65536
  sizes_small e = go (ltb 65536 (length cal)) refl
    where
      go : (s : Bool) → ltb 65536 (length cal) ≡ s → length cal ≤ 65536
      go true k = no_fault_here (sym (calendar_long (ltb-true _ _ k))) e
      go false k = ltb-false _ _ k

  pub sizes_room : size_fault cal work ≡ Ok tt → length cal ≤ length work
  sizes_room e = go (ltb (length work) (length cal)) refl
    where
      go : (t : Bool) → ltb (length work) (length cal) ≡ t → length cal ≤ length work
      go true k = no_fault_here (sym (work_short (sizes_small e) (ltb-true _ _ k))) e
      go false k = ltb-false _ _ k

  pub sizes_passed : (rows : List Row) → size_fault cal work ≡ Ok tt → first_refusal (size_rows cal work ++ rows) ≡ first_refusal rows
  unfolding size_fault size_rows
  sizes_passed rows e = stage_passed (size_rows cal work) rows e

  pub sizes_refused : {n i : ℕ} (rows : List Row) → size_fault cal work ≡ refused_at n i → first_refusal (size_rows cal work ++ rows) ≡ refused_at n i
  unfolding size_fault size_rows
  sizes_refused rows e = stage_refused (size_rows cal work) rows e

-- ---- the unfolded calendar in the work buffer

module _ {cal work left : List ℕ} {n : ℕ} (u : Unfolded cal work left n) where
  pub unfolded_long : n ≡ length (take n left)
  unfolded_long = sym (length-take-le n left (unfolded_room u))

  pub unfolded_small : length cal ≤ 65536 → n ≤ 65536
  unfolded_small h = omega (arith, u.count, length_unfolded cal)
