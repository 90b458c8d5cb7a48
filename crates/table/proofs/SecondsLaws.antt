-- The seconds of a table's rows: what is counted and what is left make the whole.
use Prim.Native.Nat.{ℕ, ◌+◌, ◌-◌, ◌*◌, ◌≤◌, ◌<◌}
use mathlib.Core.Path.{◌≡◌, refl, sym, ap, ◌∙◌}
use mathlib.Core.List.{List}
use native.Mathlib.Omega.{arith}
use lib.ListN.{length, drop, get_or}
use lib.Seq.{get_or-drop}
use Rattle.table.specs.Tables.{table_at, listed}
use Rattle.table.specs.Seconds.{seconds_in}
use Rattle.table.proofs.Tables.{row_at, rows_end, table_sound}

-- of so many rows from a place on, those before row `at` are counted
pub record Counted (first count : ℕ) (ss es : List ℕ) (sum at : ℕ) : Type 0 where
  pub since : first ≤ at
  pub few : at ≤ first + count
  pub small : sum ≤ (at - first) * 4294967295
  pub left : sum + seconds_in (drop (at - first) (listed (table_at first count ss es))) ≡ seconds_in (listed (table_at first count ss es))

pub counted_start : {first count : ℕ} {ss es : List ℕ} → Counted first count ss es 0 first
counted_start {first} {count} {ss} {es} =
    let none : first - first ≡ 0 = omega arith in
    record { since = omega arith; few = omega arith; small = omega arith; left = rw none (omega arith) }

module _ {first count : ℕ} {ss es : List ℕ} {sum at : ℕ} (w : Counted first count ss es sum at) where
  pub counted_more : {d : ℕ} → first + count ≤ length ss → length es ≡ length ss → at < first + count → d ≡ get_or es at 0 - get_or ss at 0
      → d ≤ 4294967295 → Counted first count ss es (sum + d) (at + 1)
  unfolding seconds_in
  counted_more {d} l e h q k =
      record {
        since = omega (arith, w.since);
        few = omega arith;
        small = omega (arith, w.since, w.small, k);
        left = rw more (omega (arith, w.left, next, q));
      }
    where
      here : first + (at - first) ≡ at
      here = omega (arith, w.since)

      more : at + 1 - first ≡ (at - first) + 1
      more = omega (arith, w.since)

      start : get_or (drop first ss) (at - first) 0 ≡ get_or ss at 0
      start = get_or-drop first ss (at - first) 0 ∙ rw here refl

      end : get_or (drop first es) (at - first) 0 ≡ get_or es at 0
      end = get_or-drop first es (at - first) 0 ∙ rw here refl

      next : seconds_in (drop (at - first) (listed (table_at first count ss es)))
          ≡ (get_or es at 0 - get_or ss at 0) + seconds_in (drop ((at - first) + 1) (listed (table_at first count ss es)))
      next =
          ap seconds_in
          (row_at (table_at first count ss es) (at - first) (table_sound first count ss es l e) (omega (arith, w.since)) (sym start) (sym end)).left

  pub counted_end : first + count ≤ at → sum ≡ seconds_in (listed (table_at first count ss es))
  unfolding seconds_in
  counted_end h = omega (arith, w.left, ap seconds_in (rows_end (table_at first count ss es) (at - first) (omega arith)))
