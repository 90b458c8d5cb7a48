-- Queries at the edges: one table, one statement, computed from the definitions.
use Prim.Native.Nat.{ℕ}
use mathlib.Core.Path.{◌≡◌, refl}
use mathlib.Core.Bool.{Bool, true, ◌&&◌}
use mathlib.Core.List.{List, [], ◌∷◌, ◌++◌}
use lib.Dec.{eqb}
use borrow.Author.Tests.{eqb-true}
use Rattle.time.specs.Limits.{range_good}
use Rattle.ascii.specs.Bytes.{upper, is_name_byte, is_letter, is_digit}
use Rattle.ascii.specs.Names.{same_name, is_name}
use Rattle.ascii.specs.Words.{ascii}
use Rattle.ascii.proofs.Bools.{and_left, and_right}
use Rattle.query.specs.Sections.{byte_at, count_fits, place_within, behind_records, behind_text, behind_texts, behind_text_section, sections_of}
use Rattle.query.specs.Records.{number8, range_start, range_end, text_place, text_from, text_of, component_at, property_at, parameter_at}
use Rattle.query.specs.Counting.{every_below, some_below}
use Rattle.query_check.specs.WellFormed.{range_record_good, name_good, has_child_component, has_property, has_parameter_record, parent_good, component_good, property_good, parameter_good, ranges_good, components_good, properties_good, parameters_good, records_good, sections_good, query_good, component_misplaced, components_misplaced, properties_misplaced, range_misplaced, placed, query_read, refusal_number}

-- a query over four texts, and the number of its refusal
pub record Example : Type 0 where
  pub ranges : List ℕ
  pub records : List ℕ
  pub expected : ℕ

-- the ranges, the texts, then components, properties and parameters
abbrev pub query_with : Example → List ℕ
query_with x = x.ranges ++ (4 ∷ 9 ∷ ascii "VCALENDAR" ++ (6 ∷ ascii "VEVENT" ++ (7 ∷ ascii "SUMMARY" ++ (3 ∷ ascii "a b" ++ x.records))))

abbrev pub AllHold : List Example → Type 0
AllHold [] = Unit {0}
AllHold (x ∷ xs) = (refusal_number (query_read (query_with x)) ≡ x.expected) × AllHold xs

abbrev all_pass : List Example → Bool
all_pass [] = true
all_pass (x ∷ xs) = eqb (refusal_number (query_read (query_with x))) x.expected && all_pass xs

passed : (xs : List Example) → all_pass xs ≡ true → AllHold xs
passed [] e = tt
passed (x ∷ xs) e = (
  eqb-true _ _ (and_left (eqb (refusal_number (query_read (query_with x))) x.expected) (all_pass xs) e),
  passed xs (and_right (eqb (refusal_number (query_read (query_with x))) x.expected) (all_pass xs) e),
)

abbrev row : List ℕ → List ℕ → ℕ → Example
row r s n = record { ranges = r; records = s; expected = n }

abbrev pub table : List Example
table =
    -- the smallest query
    row (0 ∷ []) (1 ∷ 0 ∷ 0 ∷ 0 ∷ 0 ∷ 0 ∷ 0 ∷ []) 0
    -- a byte follows
    ∷ row (0 ∷ []) (1 ∷ 0 ∷ 0 ∷ 0 ∷ 0 ∷ 0 ∷ 0 ∷ 0 ∷ []) 4
    -- no component
    ∷ row (0 ∷ []) (0 ∷ 0 ∷ 0 ∷ []) 4
    -- a range that no record uses
    ∷ row (1 ∷ 0 ∷ 0 ∷ 0 ∷ 0 ∷ 0 ∷ 0 ∷ 0 ∷ 1 ∷ 0 ∷ 0 ∷ 0 ∷ 0 ∷ 0 ∷ 0 ∷ 0 ∷ 2 ∷ []) (1 ∷ 0 ∷ 0 ∷ 0 ∷ 0 ∷ 0 ∷ 0 ∷ []) 0
    -- the last second as an end, and the next
    ∷ row (1 ∷ 0 ∷ 0 ∷ 0 ∷ 0 ∷ 0 ∷ 0 ∷ 0 ∷ 1 ∷ 0 ∷ 0 ∷ 0 ∷ 0 ∷ 244 ∷ 134 ∷ 86 ∷ 255 ∷ []) (1 ∷ 0 ∷ 0 ∷ 0 ∷ 0 ∷ 0 ∷ 0 ∷ []) 0
    ∷ row (1 ∷ 0 ∷ 0 ∷ 0 ∷ 0 ∷ 0 ∷ 0 ∷ 0 ∷ 1 ∷ 0 ∷ 0 ∷ 0 ∷ 0 ∷ 244 ∷ 134 ∷ 87 ∷ 0 ∷ []) (1 ∷ 0 ∷ 0 ∷ 0 ∷ 0 ∷ 0 ∷ 0 ∷ []) 4
    -- a bad range that no record uses
    ∷ row (1 ∷ 0 ∷ 0 ∷ 0 ∷ 0 ∷ 0 ∷ 0 ∷ 0 ∷ 2 ∷ 0 ∷ 0 ∷ 0 ∷ 0 ∷ 0 ∷ 0 ∷ 0 ∷ 2 ∷ []) (1 ∷ 0 ∷ 0 ∷ 0 ∷ 0 ∷ 0 ∷ 0 ∷ []) 4
    -- a range on VEVENT, on VCALENDAR, on a property
    ∷ row (1 ∷ 0 ∷ 0 ∷ 0 ∷ 0 ∷ 0 ∷ 0 ∷ 0 ∷ 1 ∷ 0 ∷ 0 ∷ 0 ∷ 0 ∷ 0 ∷ 0 ∷ 0 ∷ 2 ∷ []) (2 ∷ 0 ∷ 0 ∷ 0 ∷ 0 ∷ 0 ∷ 1 ∷ 1 ∷ 0 ∷ 0 ∷ 0 ∷ []) 0
    ∷ row (1 ∷ 0 ∷ 0 ∷ 0 ∷ 0 ∷ 0 ∷ 0 ∷ 0 ∷ 1 ∷ 0 ∷ 0 ∷ 0 ∷ 0 ∷ 0 ∷ 0 ∷ 0 ∷ 2 ∷ []) (1 ∷ 0 ∷ 0 ∷ 1 ∷ 0 ∷ 0 ∷ 0 ∷ []) 5
    ∷ row (1 ∷ 0 ∷ 0 ∷ 0 ∷ 0 ∷ 0 ∷ 0 ∷ 0 ∷ 1 ∷ 0 ∷ 0 ∷ 0 ∷ 0 ∷ 0 ∷ 0 ∷ 0 ∷ 2 ∷ []) (1 ∷ 0 ∷ 0 ∷ 0 ∷ 0 ∷ 1 ∷ 0 ∷ 2 ∷ 1 ∷ 0 ∷ 0 ∷ 0 ∷ 0 ∷ []) 5
    -- a range that is not there; 4 goes before 5
    ∷ row (1 ∷ 0 ∷ 0 ∷ 0 ∷ 0 ∷ 0 ∷ 0 ∷ 0 ∷ 1 ∷ 0 ∷ 0 ∷ 0 ∷ 0 ∷ 0 ∷ 0 ∷ 0 ∷ 2 ∷ []) (2 ∷ 0 ∷ 0 ∷ 0 ∷ 0 ∷ 0 ∷ 1 ∷ 2 ∷ 0 ∷ 0 ∷ 0 ∷ []) 4
    ∷ row (1 ∷ 0 ∷ 0 ∷ 0 ∷ 0 ∷ 0 ∷ 0 ∷ 0 ∷ 1 ∷ 0 ∷ 0 ∷ 0 ∷ 0 ∷ 0 ∷ 0 ∷ 0 ∷ 2 ∷ []) (1 ∷ 0 ∷ 0 ∷ 1 ∷ 0 ∷ 1 ∷ 0 ∷ 2 ∷ 0 ∷ 0 ∷ 0 ∷ 3 ∷ 0 ∷ []) 4
    -- its own parent
    ∷ row (0 ∷ []) (2 ∷ 0 ∷ 0 ∷ 0 ∷ 0 ∷ 1 ∷ 1 ∷ 0 ∷ 0 ∷ 0 ∷ 0 ∷ []) 4
    -- a name that is no name, and one that is not there
    ∷ row (0 ∷ []) (2 ∷ 0 ∷ 0 ∷ 0 ∷ 0 ∷ 0 ∷ 3 ∷ 0 ∷ 0 ∷ 0 ∷ 0 ∷ []) 4
    ∷ row (0 ∷ []) (2 ∷ 0 ∷ 0 ∷ 0 ∷ 0 ∷ 0 ∷ 4 ∷ 0 ∷ 0 ∷ 0 ∷ 0 ∷ []) 4
    -- component 0 by another name
    ∷ row (0 ∷ []) (1 ∷ 0 ∷ 1 ∷ 0 ∷ 0 ∷ 0 ∷ 0 ∷ []) 4
    -- is-not-defined on a component: alone, with a property, with a child
    ∷ row (0 ∷ []) (2 ∷ 0 ∷ 0 ∷ 0 ∷ 0 ∷ 0 ∷ 1 ∷ 0 ∷ 1 ∷ 0 ∷ 0 ∷ []) 0
    ∷ row (0 ∷ []) (2 ∷ 0 ∷ 0 ∷ 0 ∷ 0 ∷ 0 ∷ 1 ∷ 0 ∷ 1 ∷ 1 ∷ 1 ∷ 2 ∷ 0 ∷ 0 ∷ 0 ∷ 0 ∷ 0 ∷ []) 4
    ∷ row (0 ∷ []) (3 ∷ 0 ∷ 0 ∷ 0 ∷ 0 ∷ 0 ∷ 1 ∷ 0 ∷ 1 ∷ 1 ∷ 1 ∷ 0 ∷ 0 ∷ 0 ∷ 0 ∷ []) 4
    -- negate on a component
    ∷ row (0 ∷ []) (2 ∷ 0 ∷ 0 ∷ 0 ∷ 0 ∷ 0 ∷ 1 ∷ 0 ∷ 2 ∷ 0 ∷ 0 ∷ []) 4
    -- negate with a text, and without
    ∷ row (0 ∷ []) (1 ∷ 0 ∷ 0 ∷ 0 ∷ 0 ∷ 1 ∷ 0 ∷ 2 ∷ 0 ∷ 4 ∷ 0 ∷ 2 ∷ 0 ∷ []) 0
    ∷ row (0 ∷ []) (1 ∷ 0 ∷ 0 ∷ 0 ∷ 0 ∷ 1 ∷ 0 ∷ 2 ∷ 0 ∷ 0 ∷ 0 ∷ 2 ∷ 0 ∷ []) 4
    -- is-not-defined with a text, and with a parameter
    ∷ row (0 ∷ []) (1 ∷ 0 ∷ 0 ∷ 0 ∷ 0 ∷ 1 ∷ 0 ∷ 2 ∷ 0 ∷ 4 ∷ 0 ∷ 1 ∷ 0 ∷ []) 4
    ∷ row (0 ∷ []) (1 ∷ 0 ∷ 0 ∷ 0 ∷ 0 ∷ 1 ∷ 0 ∷ 2 ∷ 0 ∷ 0 ∷ 0 ∷ 1 ∷ 1 ∷ 0 ∷ 2 ∷ 0 ∷ 0 ∷ 0 ∷ []) 4
    -- a third collation
    ∷ row (0 ∷ []) (1 ∷ 0 ∷ 0 ∷ 0 ∷ 0 ∷ 1 ∷ 0 ∷ 2 ∷ 0 ∷ 0 ∷ 2 ∷ 0 ∷ 0 ∷ []) 4
    -- a parameter, and one of a property that is not there
    ∷ row (0 ∷ []) (1 ∷ 0 ∷ 0 ∷ 0 ∷ 0 ∷ 1 ∷ 0 ∷ 2 ∷ 0 ∷ 0 ∷ 0 ∷ 0 ∷ 1 ∷ 0 ∷ 2 ∷ 0 ∷ 1 ∷ 0 ∷ []) 0
    ∷ row (0 ∷ []) (1 ∷ 0 ∷ 0 ∷ 0 ∷ 0 ∷ 1 ∷ 0 ∷ 2 ∷ 0 ∷ 0 ∷ 0 ∷ 0 ∷ 1 ∷ 1 ∷ 2 ∷ 0 ∷ 0 ∷ 0 ∷ []) 4
    ∷ []

pub examples : AllHold table
unfolding byte_at count_fits place_within behind_records behind_text behind_texts behind_text_section sections_of number8 range_start range_end text_place text_from text_of component_at property_at parameter_at every_below some_below range_record_good range_good name_good has_child_component has_property has_parameter_record parent_good component_good property_good parameter_good ranges_good components_good properties_good parameters_good records_good sections_good query_good component_misplaced components_misplaced properties_misplaced range_misplaced placed query_read upper is_name_byte is_letter is_digit same_name is_name
examples = passed table refl
