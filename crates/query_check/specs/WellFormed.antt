-- Is a query well formed (refusal 4), and does it ask for a time range where none can be (refusal 5)?
-- (document 01, The query paper.) Every record counts, used or not.
use Rattle.std.specs.Prelude.{ℕ, zero, suc, ◌≡◌, Bool, true, false, cond, not, ◌&&◌, ◌||◌, List, eqb, ltb, leb, length, Err, None, Ok, Option, Result, Some}
use Rattle.query_check.specs.declared.QueryError.{QueryError}
use Rattle.time.specs.Limits.{range_good}
use Rattle.ascii.specs.Names.{is_name, same_name}
use Rattle.ascii.specs.Words.{ascii}
use Rattle.query.specs.Counting.{every_below, some_below, implies}
use Rattle.query.specs.Sections.{sections_of}
use Rattle.query.specs.Records.{range_start, range_end, text_of, component_at, property_at, parameter_at}
use Rattle.query.specs.declared.Section.{Section}
use Rattle.query.specs.declared.Sections.{Sections}
use Rattle.query.specs.declared.ComponentRecord.{ComponentRecord}
use Rattle.query.specs.declared.PropertyRecord.{PropertyRecord}
use Rattle.query.specs.declared.ParameterRecord.{ParameterRecord}

-- a range: start before end, both within the limits
unfoldable pub range_record_good : List ℕ → Sections → ℕ → Bool
range_record_good s q i = range_good (range_start s q i) (range_end s q i)

-- a name: the number of a text of one or more name bytes
unfoldable pub name_good : List ℕ → Sections → ℕ → Bool
name_good s q n = ltb n q.texts.count && is_name (text_of s q n)

-- a reference: 0 is none, any other is a number plus one
abbrev pub refer_good : Section → ℕ → Bool
refer_good c r = leb r c.count

-- children of a component: components and properties; of a property: parameters
unfoldable pub has_child_component : List ℕ → Sections → ℕ → Bool
has_child_component s q i = some_below q.components.count (λ k. ltb 0 k && eqb (component_at s q k).parent i)

unfoldable pub has_property : List ℕ → Sections → ℕ → Bool
has_property s q i = some_below q.properties.count (λ k. eqb (property_at s q k).component i)

unfoldable pub has_parameter_record : List ℕ → Sections → ℕ → Bool
has_parameter_record s q i = some_below q.parameters.count (λ k. eqb (parameter_at s q k).property i)

-- the first record is VCALENDAR, its own parent and without a flag; any other has an earlier one as its parent
unfoldable pub parent_good : List ℕ → Sections → ℕ → ComponentRecord → Bool
parent_good s q zero r = eqb r.parent 0 && same_name (text_of s q r.name) (ascii "VCALENDAR") && eqb r.flag 0
parent_good s q (suc i) r = ltb r.parent (suc i)

-- flag 1 is is-not-defined, and then there is no range and no child
unfoldable pub component_good : List ℕ → Sections → ℕ → ComponentRecord → Bool
component_good s q i r =
    name_good s q r.name && refer_good q.ranges r.range && leb r.flag 1 && parent_good s q i r
    && implies (eqb r.flag 1) (eqb r.range 0 && not (has_child_component s q i || has_property s q i))

-- flags of a property or a parameter by its text: 1 has none, 2 (negate) has one
abbrev pub flag_good : ℕ → ℕ → Bool
flag_good flag text = leb flag 2 && implies (eqb flag 1) (eqb text 0) && implies (eqb flag 2) (ltb 0 text)

unfoldable pub property_good : List ℕ → Sections → ℕ → PropertyRecord → Bool
property_good s q i r =
    ltb r.component q.components.count && name_good s q r.name && refer_good q.ranges r.range && refer_good q.texts r.text
    && leb r.collation 1
    && flag_good r.flag r.text
    && implies (eqb r.flag 1) (eqb r.range 0 && not (has_parameter_record s q i))

unfoldable pub parameter_good : List ℕ → Sections → ParameterRecord → Bool
parameter_good s q r =
    ltb r.property q.properties.count && name_good s q r.name && refer_good q.texts r.text && leb r.collation 1
    && flag_good r.flag r.text

-- every record of a section, used or not
unfoldable pub ranges_good : List ℕ → Sections → Bool
ranges_good s q = every_below q.ranges.count (range_record_good s q)

unfoldable pub components_good : List ℕ → Sections → Bool
components_good s q = every_below q.components.count (λ i. component_good s q i (component_at s q i))

unfoldable pub properties_good : List ℕ → Sections → Bool
properties_good s q = every_below q.properties.count (λ i. property_good s q i (property_at s q i))

unfoldable pub parameters_good : List ℕ → Sections → Bool
parameters_good s q = every_below q.parameters.count (λ i. parameter_good s q (parameter_at s q i))

unfoldable pub records_good : List ℕ → Sections → Bool
records_good s q = ranges_good s q && components_good s q && properties_good s q && parameters_good s q

-- "nothing follows"
abbrev pub nothing_follows : List ℕ → Sections → Bool
nothing_follows s q = eqb q.end (length s)

unfoldable pub sections_good : List ℕ → Option Sections → Bool
sections_good s (Some q) = nothing_follows s q && records_good s q
sections_good s None = false

-- refusal 4 is given where this fails: at most 4,096 bytes, and all as above
unfoldable pub query_good : List ℕ → Bool
query_good s = leb (length s) 4096 && sections_good s (sections_of s)

-- ---- refusal 5

-- a range on a component that is neither VEVENT nor VFREEBUSY
unfoldable pub component_misplaced : List ℕ → Sections → ComponentRecord → Bool
component_misplaced s q r =
    ltb 0 r.range && not (same_name (text_of s q r.name) (ascii "VEVENT") || same_name (text_of s q r.name) (ascii "VFREEBUSY"))

unfoldable pub components_misplaced : List ℕ → Sections → Bool
components_misplaced s q = some_below q.components.count (λ i. component_misplaced s q (component_at s q i))

-- a range on any property
unfoldable pub properties_misplaced : List ℕ → Sections → Bool
properties_misplaced s q = some_below q.properties.count (λ i. ltb 0 (property_at s q i).range)

unfoldable pub range_misplaced : List ℕ → Sections → Bool
range_misplaced s q = components_misplaced s q || properties_misplaced s q

-- refusal 4 goes before refusal 5; a query with neither has its sections
unfoldable pub placed : List ℕ → Option Sections → Result Sections QueryError
placed s (Some q) = cond (range_misplaced s q) (Err QueryError.Misplaced) (Ok q)
placed s None = Err QueryError.Bad

unfoldable pub query_read : List ℕ → Result Sections QueryError
query_read s = cond (query_good s) (placed s (sections_of s)) (Err QueryError.Bad)

-- what each answer says of the query
abbrev pub ReadSays : List ℕ → Result Sections QueryError → Type 0
ReadSays s (Ok q) = (query_good s ≡ true) × (sections_of s ≡ Some q) × (range_misplaced s q ≡ false)
ReadSays s (Err QueryError.Bad) = query_good s ≡ false
ReadSays s (Err QueryError.Misplaced) = (query_good s ≡ true) × (q : Sections) × (sections_of s ≡ Some q) × (range_misplaced s q ≡ true)

-- the refusal's number; 0 for none
abbrev pub refusal_number : Result Sections QueryError → ℕ
refusal_number (Ok q) = 0
refusal_number (Err QueryError.Bad) = 4
refusal_number (Err QueryError.Misplaced) = 5
