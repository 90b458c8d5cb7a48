-- A report's lines are nested right: one VCALENDAR, and in it one VFREEBUSY that has only properties.
use Prim.Native.Nat.{ℕ, suc, ◌+◌, ◌≤◌}
use mathlib.Core.Path.{◌≡◌, refl, sym, ap, ◌∙◌}
use mathlib.Core.List.{List, [], ◌∷◌, ◌++◌, map, append_assoc}
use native.Mathlib.Omega.{arith}
use lib.ListN.{length}
use Rattle.ascii.specs.Bytes.{upper, is_letter, is_digit, is_name_byte}
use Rattle.ascii.specs.Names.{same_name, is_name}
use Rattle.line.specs.Grammar.{ContentLine}
use Rattle.line.specs.WellFormed.{all_good}
use Rattle.delimiters.specs.Delimiters.{delimiter_of}
use Rattle.delimiters.specs.Innermost.{is_calendar}
use Rattle.delimiters.specs.declared.Delimiter.TheVariants.{Property}
use Rattle.nesting.specs.Nesting.{nesting_of}
use Rattle.nesting.specs.Components.{Numbered, Items, none, property, component, Component, tree_of, components_in, properties_in, items_below, rendered_items}
use Rattle.nesting.specs.WellNested.{numbered_from, component_count, AllowedAt, NestedAt, nothing, with_property_holds, with_component, WellNested, calendar}
use Rattle.nesting.proofs.WellNested.{tree_good, tree_same}
use Rattle.periods.specs.BusyTypes.{BusyPeriod}
use Rattle.calendar.specs.Meaning.{file_lines, components_of}
use Rattle.report.specs.Bytes.{Report, report_bytes}
use Rattle.readback.specs.Reading.{report_periods}
use Rattle.readback.proofs.ReadingLines.{period_line, block_content, calendar_begin, version_line, product_line, block_begin, block_end, calendar_end, report_content, report_lines_read}

-- a content line with its number
abbrev numbered : ℕ → ContentLine → Numbered
numbered i x = record { number = i; line = x }

-- ---- lines that are all properties, side by side

-- as items, the first of them number i
unfoldable pub flat : ℕ → List ContentLine → Items
flat i [] = none
flat i (x ∷ xs) = property (numbered i x) (flat (suc i) xs)

data AllProperties : List ContentLine → Type 0 where
  no_more : AllProperties []
  and_then : {x : ContentLine} {xs : List ContentLine} → delimiter_of x ≡ Property → AllProperties xs → AllProperties (x ∷ xs)

flat_rendered : (i : ℕ) (xs : List ContentLine) → rendered_items (flat i xs) ≡ numbered_from i xs
unfolding flat rendered_items numbered_from
flat_rendered i [] = refl
flat_rendered i (x ∷ xs) = ap (λ (l : List Numbered). numbered i x ∷ l) (flat_rendered (suc i) xs)

pub flat_properties : (i : ℕ) (xs : List ContentLine) → properties_in (flat i xs) ≡ numbered_from i xs
unfolding flat properties_in numbered_from
flat_properties i [] = refl
flat_properties i (x ∷ xs) = ap (λ (l : List Numbered). numbered i x ∷ l) (flat_properties (suc i) xs)

flat_count : (i : ℕ) (xs : List ContentLine) → component_count (flat i xs) ≡ 0
unfolding flat component_count
flat_count i [] = refl
flat_count i (x ∷ xs) = flat_count (suc i) xs

flat_nested : (d i : ℕ) {xs : List ContentLine} → AllProperties xs → NestedAt d (flat i xs)
unfolding flat
flat_nested d i no_more = nothing
flat_nested d i (and_then h k) = with_property_holds h (flat_nested d (suc i) k)

numbered_append : (i : ℕ) (xs ys : List ContentLine) → numbered_from i (xs ++ ys) ≡ numbered_from i xs ++ numbered_from (i + length xs) ys
unfolding numbered_from
numbered_append i [] ys = let z : i ≡ i + 0 = omega arith in ap (λ (n : ℕ). numbered_from n ys) z
numbered_append i (x ∷ xs) ys =
    let z : suc i + length xs ≡ i + suc (length xs) = omega arith in
    ap (λ (l : List Numbered). numbered i x ∷ l)
    (numbered_append (suc i) xs ys ∙ ap (λ (n : ℕ). numbered_from (suc i) xs ++ numbered_from n ys) z)

-- ---- the report's tree

-- the block, its BEGIN line number 4
unfoldable pub block_component : Report → Component
block_component r =
    record {
      begin = numbered 4 block_begin;
      items = flat 5 (block_content r);
      end = numbered (5 + length (block_content r)) block_end;
    }

-- what stands in VCALENDAR
unfoldable report_items : Report → Items
report_items r =
    property (numbered 2 version_line)
    (property (numbered 3 product_line)
    (component (block_component r).begin (block_component r).items (block_component r).end none))

-- the last line
abbrev last_line : Report → Numbered
last_line r = numbered (suc (5 + length (block_content r))) calendar_end

unfoldable report_tree : Report → Items
report_tree r = component (numbered 1 calendar_begin) (report_items r) (last_line r) none

block_lines : (r : Report)
    → (rendered_items (flat 5 (block_content r)) ++ ((block_component r).end ∷ [])) ++ (last_line r ∷ []) ≡ numbered_from 5 (block_content r ++ (block_end ∷ calendar_end ∷ []))
unfolding block_component numbered_from
block_lines r =
    ap (λ (l : List Numbered). (l ++ ((block_component r).end ∷ [])) ++ (last_line r ∷ [])) (flat_rendered 5 (block_content r))
    ∙ append_assoc (numbered_from 5 (block_content r)) ((block_component r).end ∷ []) (last_line r ∷ [])
    ∙ sym (numbered_append 5 (block_content r) (block_end ∷ calendar_end ∷ []))

tree_lines : (r : Report) → rendered_items (report_tree r) ≡ numbered_from 1 (report_content r)
unfolding report_tree report_items block_component rendered_items report_content numbered_from
tree_lines r =
    ap (λ (l : List Numbered). numbered 1 calendar_begin ∷ numbered 2 version_line ∷ numbered 3 product_line ∷ numbered 4 block_begin ∷ l) (block_lines r)

-- ---- it is well nested

periods_properties : (ts : List BusyPeriod) → AllProperties (map period_line ts)
unfolding period_line delimiter_of same_name upper
periods_properties [] = no_more
periods_properties (t ∷ ts) = and_then refl (periods_properties ts)

block_properties : (r : Report) → AllProperties (block_content r)
unfolding block_content delimiter_of same_name upper
block_properties r = and_then refl (and_then refl (and_then refl (periods_properties (report_periods r))))

block_allowed : (r : Report) → AllowedAt 2 (block_component r).begin
unfolding block_component is_calendar same_name upper
block_allowed r = record { no_calendar = refl; at_most_8 = omega arith; event_at_2 = λ e. refl; free_busy_at_2 = λ e. refl }

items_nested : (r : Report) → NestedAt 2 (report_items r)
unfolding report_items block_component delimiter_of is_name is_name_byte is_letter is_digit same_name upper
items_nested r =
    with_property_holds refl
    (with_property_holds refl
    (with_component (record { begins = refl; ends = refl; names = refl }) (block_allowed r) (flat_nested 3 5 (block_properties r)) nothing))

items_few : (r : Report) → 1 + component_count (report_items r) ≤ 256
unfolding report_items block_component component_count
items_few r = omega (arith, flat_count 5 (block_content r))

tree_nested : (r : Report) → WellNested (report_tree r)
unfolding report_tree is_calendar delimiter_of is_name is_name_byte is_letter is_digit same_name upper
tree_nested r = calendar (record { begins = refl; ends = refl; names = refl }) refl (items_nested r) (items_few r)

-- ---- so the nesting is good, and right below VCALENDAR stands the block alone

pub report_nested : (r : Report) → nesting_of (file_lines (report_bytes r)) ≡ all_good
report_nested r = ap nesting_of (report_lines_read r) ∙ tree_good (report_content r) (tree_nested r) (tree_lines r)

pub report_components : (r : Report) → components_of (report_bytes r) ≡ block_component r ∷ []
unfolding components_of report_tree report_items block_component items_below components_in
report_components r =
    ap (λ (xs : List ContentLine). components_in (items_below (tree_of xs))) (report_lines_read r)
    ∙ ap (λ (t : Items). components_in (items_below t)) (tree_same (report_content r) (tree_nested r) (tree_lines r))
