-- What a step from item to item tells of the tree.
use Prim.Native.Nat.{ℕ, ◌+◌, ◌-◌, ◌*◌, ◌≤◌, ◌<◌}
use mathlib.Core.Path.{◌≡◌, refl, sym, ap, subst, ◌∙◌}
use mathlib.Core.Bool.{Bool, true, false, cond, ◌&&◌}
use mathlib.Core.List.{List}
use native.Mathlib.Omega.{arith}
use borrow.Author.Tests.{leb-true, leb-false, ltb-true, ltb-false, eqb-true, eqb-false, le-leb, lt-leb, lt-ltb, le-ltb, eq-eqb, ne_eqb}
use lib.Dec.{eqb, leb, ltb}
use lib.ListN.{length, get_or}
use Rattle.nesting.specs.Components.{none, end_of}
use Rattle.structure.specs.Rows.{delimited_by, items_by, ItemRows, nothing, with_property_holds, with_component, ItemsAt}
use Rattle.structure.specs.Items.{item_by, PropertyAt, InnerAt, ItemAt, is_property, is_inner, is_done}
use Rattle.structure.specs.declared.items.Item.{Item}
use Rattle.structure.proofs.RowsLaws.{rows_lines, rows_rise, rows_begin, items_property, items_component}

module _ {s rows : List ℕ} {j m : ℕ} (last : items_by s j ≡ none) (few : m ≤ 256) (room : 4 * m ≤ length rows) (small : j ≤ 65535) where
  rest_at : {i k : ℕ} → ItemRows s rows i k j m → ItemsAt s rows i k j m
  rest_at r = record { items = r; none_left = last; few = few; room = room; inside = small }

  at_property : {i k : ℕ} → ItemRows s rows i k j m → i < j → (k < m → get_or rows (4 * k) 0 ≡ i + 1 → ⊥) → PropertyAt s rows i k j m
  at_property nothing h f = absurd (omega arith)
  at_property (with_property_holds q r) h f =
      record { inside = q.inside; items = items_property q; rest = rest_at r; onward = h }
  at_property (with_component q w a e r) h f = absurd (f (omega (arith, rows_rise a, rows_rise r)) w.begin)

  at_inner : {i k : ℕ} → ItemRows s rows i k j m → k < m → get_or rows (4 * k) 0 ≡ i + 1
      → InnerAt s rows i k j m (get_or rows (4 * k + 1) 0) (get_or rows (4 * k + 2) 0)
  at_inner nothing h b = absurd (omega arith)
  at_inner (with_property_holds q r) h b = absurd (omega (arith, rows_begin r h))
  at_inner {i} {k} (with_component {q = stop} {n = n} q w a e r) h b =
      rw (w.end, w.next)
      (record {
        end = end_of 0 (delimited_by s (i + 1));
        items = items_component q a e;
        rest = rest_at r;
        onward = omega (arith, rows_lines a);
        within = rows_lines r;
      })

module _ {s rows : List ℕ} {i k j m : ℕ} (h : ItemsAt s rows i k j m) where
  at_done : j ≤ i → items_by s i ≡ none
  at_done l = let z : i ≡ j = omega (arith, rows_lines h.items) in ap (items_by s) z ∙ h.none_left

  step : (a b c : Bool) → leb j i ≡ a → ltb k m ≡ b → eqb (get_or rows (4 * k) 0) (i + 1) ≡ c
      → ItemAt s rows i k j m (cond a Item.Done (cond (b && c) (Item.Inner (get_or rows (4 * k + 1) 0) (get_or rows (4 * k + 2) 0)) Item.Property))
  step true b c p q r = is_done (at_done (leb-true j i p))
  step false true true p q r =
      is_inner (at_inner h.none_left h.few h.room h.inside h.items (ltb-true k m q) (eqb-true (get_or rows (4 * k) 0) (i + 1) r))
  step false true false p q r =
      is_property (at_property h.none_left h.few h.room h.inside h.items (leb-false j i p) (λ l e. eqb-false (get_or rows (4 * k) 0) (i + 1) r e))
  step false false c p q r =
      is_property (at_property h.none_left h.few h.room h.inside h.items (leb-false j i p) (λ l e. absurd (omega (arith, ltb-false k m q))))

  step_tells : ItemAt s rows i k j m (item_by rows i k j m)
  unfolding item_by
  step_tells = step (leb j i) (ltb k m) (eqb (get_or rows (4 * k) 0) (i + 1)) refl refl refl

  told : {r : Item} → r ≡ item_by rows i k j m → ItemAt s rows i k j m r
  told q = subst (ItemAt s rows i k j m) (sym q) step_tells

  -- by what the step answered
  pub property_at_holds : {r : Item} → r ≡ item_by rows i k j m → r ≡ Item.Property → PropertyAt s rows i k j m
  property_at_holds q e = go (subst (ItemAt s rows i k j m) e (told q))
    where
      go : ItemAt s rows i k j m Item.Property → PropertyAt s rows i k j m
      go (is_property p) = p

  pub inner_at : {r : Item} {next row : ℕ} → r ≡ item_by rows i k j m → r ≡ Item.Inner next row → InnerAt s rows i k j m next row
  inner_at {next = next} {row = row} q e = go (subst (ItemAt s rows i k j m) e (told q))
    where
      go : ItemAt s rows i k j m (Item.Inner next row) → InnerAt s rows i k j m next row
      go (is_inner p) = p

  pub no_item_at : {r : Item} → r ≡ item_by rows i k j m → r ≡ Item.Done → items_by s i ≡ none
  no_item_at q e = go (subst (ItemAt s rows i k j m) e (told q))
    where
      go : ItemAt s rows i k j m Item.Done → items_by s i ≡ none
      go (is_done p) = p

  -- and then less is left to read
  pub property_less : {r : Item} → r ≡ item_by rows i k j m → r ≡ Item.Property → j - (i + 1) < j - i
  property_less q e = omega (arith, (property_at_holds q e).onward)

  pub inner_less : {r : Item} {next row : ℕ} → r ≡ item_by rows i k j m → r ≡ Item.Inner next row → j - next < j - i
  inner_less q e = let z = inner_at q e in omega (arith, z.onward, z.within)

-- items end where they begin or later
pub items_rise : {s rows : List ℕ} {i k j m : ℕ} → ItemsAt s rows i k j m → i ≤ j
items_rise h = rows_lines h.items

-- what a step may ask
pub item_asked : {s rows : List ℕ} {i k j m : ℕ} → ItemsAt s rows i k j m → ((m ≤ 256) × (4 * m ≤ length rows)) × (i ≤ 65536)
item_asked h = ((h.few, h.room), omega (arith, rows_lines h.items, h.inside))

-- ---- what the code's tests give

module _ (rows : List ℕ) (i k j m : ℕ) where
  pub item_done : j ≤ i → Item.Done ≡ item_by rows i k j m
  unfolding item_by
  item_done h = rw (le-leb j i h)

  pub item_inner : i < j → k < m → (next row : ℕ) → get_or rows (4 * k) 0 ≡ i + 1 → next ≡ get_or rows (4 * k + 1) 0 → row ≡ get_or rows (4 * k + 2) 0
      → Item.Inner next row ≡ item_by rows i k j m
  unfolding item_by
  item_inner h l next row b e n = rw (lt-leb j i h, lt-ltb k m l, eq-eqb (get_or rows (4 * k) 0) (i + 1) b, e, n)

  -- it is no component's first line
  pub item_other : i < j → (get_or rows (4 * k) 0 ≡ i + 1 → ⊥) → Item.Property ≡ item_by rows i k j m
  unfolding item_by
  item_other h f = go (ltb k m)
    where
      go : (t : Bool) → Item.Property ≡ cond (leb j i) Item.Done (cond (t && eqb (get_or rows (4 * k) 0) (i + 1)) (Item.Inner (get_or rows (4 * k + 1) 0) (get_or rows (4 * k + 2) 0)) Item.Property)
      go true = rw (lt-leb j i h, ne_eqb (get_or rows (4 * k) 0) (i + 1) f)
      go false = rw (lt-leb j i h)

  -- no component is left
  pub item_last : i < j → m ≤ k → Item.Property ≡ item_by rows i k j m
  unfolding item_by
  item_last h l = rw (lt-leb j i h, le-ltb k m l)
