-- A well-formed query, said sentence by sentence (document 01, The query paper). It is what `query_good` tests.
use Rattle.std.specs.Prelude.{ℕ, ◌≤◌, ◌<◌, ◌≡◌, true, ◌⊎◌, List, map, length}
use Rattle.time.specs.Limits.{last_second}
use Rattle.ascii.specs.Bytes.{upper}
use Rattle.ascii.specs.Names.{is_name}
use Rattle.ascii.specs.Words.{ascii}
use Rattle.query.specs.Layout.{Layout}
use Rattle.query.specs.Records.{range_start, range_end, text_of, component_at, property_at, parameter_at}
use Rattle.query.specs.declared.Sections.{Sections}
use Rattle.query.specs.declared.ComponentRecord.{ComponentRecord}
use Rattle.query.specs.declared.PropertyRecord.{PropertyRecord}
use Rattle.query.specs.declared.ParameterRecord.{ParameterRecord}

-- a text that is a word, ASCII case disregarded
unfoldable pub Spells : List ℕ → List ℕ → Type 0
Spells t w = map upper t ≡ map upper w

-- a range: start before end, both within the limits
pub record GoodRange (s : List ℕ) (q : Sections) (i : ℕ) : Type 0 where
  pub start_first : range_start s q i < range_end s q i
  pub end_limit : range_end s q i ≤ last_second

-- a name: the number of a text of one or more name bytes
pub record GoodName (s : List ℕ) (q : Sections) (n : ℕ) : Type 0 where
  pub is_text : n < q.texts.count
  pub is_name_holds : is_name (text_of s q n) ≡ true

-- flags of a property or a parameter: 0, 1 without a text, 2 with one
pub record GoodFlag (flag text : ℕ) : Type 0 where
  pub known : flag ≤ 2
  pub absent_no_text : flag ≡ 1 → text ≡ 0
  pub negated_text : flag ≡ 2 → 0 < text

-- component 0: parent 0, name VCALENDAR, flag 0
pub record CalendarRecord (s : List ℕ) (q : Sections) (r : ComponentRecord) : Type 0 where
  pub parent_zero : r.parent ≡ 0
  pub named : Spells (text_of s q r.name) (ascii "VCALENDAR")
  pub flag_zero : r.flag ≡ 0

-- is-not-defined on a component: no range, no child component, no property
pub record AloneComponent (s : List ℕ) (q : Sections) (i : ℕ) (r : ComponentRecord) : Type 0 where
  pub no_range : r.range ≡ 0
  pub no_component : (k : ℕ) → 0 < k → k < q.components.count → (component_at s q k).parent ≡ i → ⊥
  pub no_property : (k : ℕ) → k < q.properties.count → (property_at s q k).component ≡ i → ⊥

pub record GoodComponent (s : List ℕ) (q : Sections) (i : ℕ) (r : ComponentRecord) : Type 0 where
  pub name_good_holds : GoodName s q r.name
  pub range_there : r.range ≤ q.ranges.count
  pub flag_known : r.flag ≤ 1
  pub first : i ≡ 0 → CalendarRecord s q r
  pub parent_smaller : 0 < i → r.parent < i
  pub alone : r.flag ≡ 1 → AloneComponent s q i r

-- is-not-defined on a property: no range, no parameter
pub record AloneProperty (s : List ℕ) (q : Sections) (i : ℕ) (r : PropertyRecord) : Type 0 where
  pub no_range : r.range ≡ 0
  pub no_parameter : (k : ℕ) → k < q.parameters.count → (parameter_at s q k).property ≡ i → ⊥

pub record GoodProperty (s : List ℕ) (q : Sections) (i : ℕ) (r : PropertyRecord) : Type 0 where
  pub owner_there : r.component < q.components.count
  pub name_good_holds : GoodName s q r.name
  pub range_there : r.range ≤ q.ranges.count
  pub text_there : r.text ≤ q.texts.count
  pub collation_known : r.collation ≤ 1
  pub flag_good_holds : GoodFlag r.flag r.text
  pub alone : r.flag ≡ 1 → AloneProperty s q i r

pub record GoodParameter (s : List ℕ) (q : Sections) (r : ParameterRecord) : Type 0 where
  pub owner_there : r.property < q.properties.count
  pub name_good_holds : GoodName s q r.name
  pub text_there : r.text ≤ q.texts.count
  pub collation_known : r.collation ≤ 1
  pub flag_good_holds : GoodFlag r.flag r.text

-- every record of a query, used or not
pub record GoodRecords (s : List ℕ) (q : Sections) : Type 0 where
  pub ranges_good_holds : (i : ℕ) → i < q.ranges.count → GoodRange s q i
  pub components_good_holds : (i : ℕ) → i < q.components.count → GoodComponent s q i (component_at s q i)
  pub properties_good_holds : (i : ℕ) → i < q.properties.count → GoodProperty s q i (property_at s q i)
  pub parameters_good_holds : (i : ℕ) → i < q.parameters.count → GoodParameter s q (parameter_at s q i)

-- no more than 4,096 bytes: the five sections, and nothing behind them
pub record WellFormedQuery (s : List ℕ) : Type 0 where
  pub size : length s ≤ 4096
  pub sections : Sections
  pub layout : Layout s sections
  pub nothing_follows_holds : sections.end ≡ length s
  pub records_good_holds : GoodRecords s sections

-- a range stands on VEVENT and VFREEBUSY components alone
pub record WellPlaced (s : List ℕ) (q : Sections) : Type 0 where
  pub on_components : (i : ℕ) → i < q.components.count → 0 < (component_at s q i).range
      → Spells (text_of s q (component_at s q i).name) (ascii "VEVENT") ⊎ Spells (text_of s q (component_at s q i).name) (ascii "VFREEBUSY")
  pub on_no_property : (i : ℕ) → i < q.properties.count → (property_at s q i).range ≡ 0
