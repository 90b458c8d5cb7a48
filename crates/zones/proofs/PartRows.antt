-- Laws of parts as rows: how a row is written, that a row says what it was made of, and that other rows stay.
use Prim.Native.Nat.{ℕ, ◌+◌, ◌*◌, ◌≤◌, ◌<◌}
use mathlib.Core.Path.{◌≡◌, refl, ◌∙◌}
use mathlib.Core.Bool.{Bool, true, false, cond}
use mathlib.Core.List.{List, [], ◌∷◌}
use mir.Val.{bool_byte}
use native.Mathlib.Omega.{arith}
use native.Mathlib.Nat.{add-zero, zero-add}
use lib.Dec.{eqb, ltb}
use lib.ListN.{length, get_or}
use borrow.Rule.Slice.PartMut.{put_mid}
use Rattle.std.proofs.lemmas.List.{places}
use borrow.Author.Tests.{ltb-true, ltb-false}
use Rattle.zones.specs.declared.Part.{Part}
use Rattle.zones.specs.Offsets.{Opens}
use Rattle.zones.specs.PartRows.{part_row, part_at, PartPut, parts_from}
use Rattle.zones.proofs.OffsetsLaws.{open_first}

-- ---- writing a row

-- the numbers of row i become these eight
pub part_copied : {old new : List ℕ} {k : ℕ} (row : List ℕ) (i : ℕ) → k ≡ 8 → new ≡ row → length row ≡ 8 → 8 * i + 8 ≤ length old
    → PartPut old i row (put_mid (8 * i) k old new)
part_copied {old} {new} {k} row i e f l h =
    rw f
    (record {
      here = λ x m. grind (arith, places);
      before = λ x m. grind (arith, places);
      behind = λ x m. grind (arith, places);
    })

-- a bool cast to a number is 1 or 0
bit : (b : Bool) → bool_byte b ≡ cond b 1 0
bit true = refl
bit false = refl

-- what is put is the row of the part
pub put_as : {old new : List ℕ} {i : ℕ} (p : Part)
    → PartPut old i (p.start ∷ p.from ∷ p.to ∷ p.month ∷ p.others ∷ bool_byte p.back ∷ p.weekday ∷ 0 ∷ []) new
    → PartPut old i (part_row p) new
unfolding part_row
put_as p w = rw (bit p.back) at w

-- ---- a row alone decides

-- row j of one column is row k of the other
abbrev SameRow : List ℕ → ℕ → List ℕ → ℕ → Type 0
SameRow a j b k = (x : ℕ) → x < 8 → get_or a (8 * j + x) 0 ≡ get_or b (8 * k + x) 0

part_same : (a : List ℕ) (j : ℕ) (b : List ℕ) (k : ℕ) → SameRow a j b k → part_at a j ≡ part_at b k
unfolding part_at
part_same a j b k s =
    let z : get_or a (8 * j) 0 ≡ get_or b (8 * k) 0 = simp add-zero at (s 0 (omega arith)) in
    rw (z, s 1 (omega arith), s 2 (omega arith), s 3 (omega arith), s 4 (omega arith), s 5 (omega arith), s 6 (omega arith)) refl

bit_back : (b : Bool) → eqb (cond b 1 0) 1 ≡ b
bit_back true = refl
bit_back false = refl

part_back : (p : Part) → part_at (part_row p) 0 ≡ p
unfolding part_at part_row
part_back p = rw (bit_back p.back) refl

-- ---- what a caller learns

pub part_put : {old new : List ℕ} {i : ℕ} (p : Part) → PartPut old i (part_row p) new → part_at new i ≡ p
part_put {old} {new} {i} p w = part_same new i (part_row p) 0 (λ x h. rw (zero-add x) (w.here x h)) ∙ part_back p

row_kept : {old row new : List ℕ} {k : ℕ} (j : ℕ) → PartPut old k row new → (j ≡ k → ⊥) → SameRow new j old j
row_kept {old} {row} {new} {k} j w d x h = go (ltb j k) refl
  where
    go : (t : Bool) → ltb j k ≡ t → get_or new (8 * j + x) 0 ≡ get_or old (8 * j + x) 0
    go true q = w.before (8 * j + x) (omega (arith, ltb-true))
    go false q =
        let z : k ≤ j = ltb-false j k q in
        w.behind (8 * j + x) (omega arith)

pub part_kept : {old row new : List ℕ} {i : ℕ} (j : ℕ) → PartPut old i row new → (j ≡ i → ⊥) → part_at new j ≡ part_at old j
part_kept {old} {row} {new} {i} j w d = part_same new j old j (row_kept j w d)

-- ---- the rows of a zone

pub as_part : (parts : List ℕ) (first i : ℕ) (p : Part) → p ≡ part_at parts (first + i) → p ≡ parts_from parts first i
unfolding parts_from
as_part parts first i p e = e

-- DTSTART stands first in its row
pub start_rows : (parts : List ℕ) (first t : ℕ) → t ≡ get_or parts (8 * first) 0 → t ≡ (parts_from parts first 0).start
unfolding parts_from part_at
start_rows parts first t s = let e : first + 0 ≡ first = omega arith in rw e s

pub open_rows : (parts : List ℕ) (first t : ℕ) → t ≡ get_or parts (8 * first) 0 → Opens (parts_from parts first) 1 0 t
open_rows parts first t s = open_first (parts_from parts first) t (start_rows parts first t s)

-- what is put to a row of the zone is its part there, and the others are as they were
pub parts_put : {old new : List ℕ} (first i : ℕ) (p : Part) → PartPut old (first + i) (part_row p) new → parts_from new first i ≡ p
unfolding parts_from
parts_put first i p w = part_put p w

pub parts_kept : {old row new : List ℕ} {k : ℕ} (first i : ℕ) → PartPut old k row new → (first + i ≡ k → ⊥) → parts_from new first i ≡ parts_from old first i
unfolding parts_from
parts_kept first i w d = part_kept (first + i) w d
