-- The tests of a query, said sentence by sentence (document 01, The query paper). They are what the Bools of Tests decide.
use Rattle.std.specs.Prelude.{ℕ, suc, ◌<◌, ◌≡◌, Some}
use mathlib.Core.List.{List, Memᴰ}
use Rattle.text.specs.TextMatch.{Occurs}
use Rattle.query.specs.Records.{range_start, range_end, text_of, component_at, property_at, parameter_at}
use Rattle.query.specs.declared.Sections.{Sections}
use Rattle.query.specs.declared.PropertyRecord.{PropertyRecord}
use Rattle.query.specs.declared.ParameterRecord.{ParameterRecord}
use Rattle.query_check.specs.QueryRules.{Spells}
use Rattle.periods.specs.BusyTypes.{BusyPeriod}
use Rattle.line.specs.Grammar.{Parameter, ContentLine}
use Rattle.line.specs.Reading.{values_named}
use Rattle.values.specs.declared.times.Context.{Context}
use Rattle.property.specs.declared.Scope.{Scope}
use Rattle.nesting.specs.Components.{Numbered, Items, Component, components_in, properties_in}
use Rattle.property_tests.specs.PropertyTests.{collation_of}
use Rattle.events.specs.declared.Event.{Event}
use Rattle.events.specs.declared.Block.{Block}
use Rattle.calendar.specs.Meaning.{component_scope, event_of, block_of, block_periods, removed_from}
use Rattle.filter.specs.Tests.{Whole, whole_of}
use Rattle.recurrence.specs.TimeRange.{InstanceIn, BetweenIn, Overlaps}

-- ---- a value against a record's text, its collation and its flag

pub data ValuePasses (p : List ℕ) (q : Sections) (t c f : ℕ) (v : List ℕ) : Type 0 where
  -- without a text, presence is enough
  present : t ≡ 0 → ValuePasses p q t c f v
  -- it contains the text
  contained : (i : ℕ) → t ≡ suc i → (f ≡ 2 → ⊥) → Occurs (collation_of c) v (text_of p q i) → ValuePasses p q t c f v
  -- negated: it does not contain the text
  negated : (i : ℕ) → t ≡ suc i → f ≡ 2 → (Occurs (collation_of c) v (text_of p q i) → ⊥) → ValuePasses p q t c f v

-- ---- a parameter test, on one line

pub data ParameterPasses (p : List ℕ) (q : Sections) (x : ContentLine) (r : ParameterRecord) : Type 0 where
  -- is-not-defined: no parameter of the line has the name
  not_defined : r.flag ≡ 1 → ((y : Parameter) → Memᴰ y x.parameters → Spells y.name (text_of p q r.name) → ⊥) → ParameterPasses p q x r
  -- some one value of that name passes
  some_value_holds : (r.flag ≡ 1 → ⊥) → (v : List ℕ) → Memᴰ v (values_named (text_of p q r.name) x.parameters)
      → ValuePasses p q r.text r.collation r.flag v → ParameterPasses p q x r

-- ---- a property test, on the lines directly in a component

-- the line has the name, its value passes, and that same line passes every parameter test of property record i
pub record LinePasses (p : List ℕ) (q : Sections) (i : ℕ) (r : PropertyRecord) (x : ContentLine) : Type 0 where
  pub named : Spells x.name (text_of p q r.name)
  pub value_passes : ValuePasses p q r.text r.collation r.flag x.value
  pub parameters_pass : (k : ℕ) → k < q.parameters.count → (parameter_at p q k).property ≡ i → ParameterPasses p q x (parameter_at p q k)

pub data PropertyPasses (p : List ℕ) (q : Sections) (i : ℕ) (r : PropertyRecord) (xs : List Numbered) : Type 0 where
  -- is-not-defined: no line has the name
  not_defined : r.flag ≡ 1 → ((x : Numbered) → Memᴰ x xs → Spells x.line.name (text_of p q r.name) → ⊥) → PropertyPasses p q i r xs
  -- one line passes
  one_line : (r.flag ≡ 1 → ⊥) → (x : Numbered) → Memᴰ x xs → LinePasses p q i r x.line → PropertyPasses p q i r xs

-- ---- a component in a time range

pub data ComponentIn (c : Whole) (k : Component) (a b : ℕ) : Type 0 where
  -- an event: some instance that it supplies itself is in range
  event_in_holds : (e : Event) → component_scope k ≡ Scope.Event → event_of c.context k ≡ Some e → (n : ℕ)
      → InstanceIn e (removed_from c.context c.components k) a b n → ComponentIn c k a b
  -- a block with both ends: by them alone
  block_between_holds : (x : Block) (s t : ℕ) → component_scope k ≡ Scope.FreeBusy → block_of c.context k ≡ Some x → x.start ≡ Some s → x.end ≡ Some t
      → BetweenIn a b s t → ComponentIn c k a b
  -- any other block: some period is in range
  block_period : (x : Block) → component_scope k ≡ Scope.FreeBusy → block_of c.context k ≡ Some x
      → ((s t : ℕ) → x.start ≡ Some s → x.end ≡ Some t → ⊥) → (p : BusyPeriod) → Memᴰ p (block_periods c.context (properties_in k.items))
      → Overlaps a b p.period.start p.period.end → ComponentIn c k a b

-- against a record's range, 0 for none
pub data RangePasses (c : Whole) (p : List ℕ) (q : Sections) (r : ℕ) (k : Component) : Type 0 where
  no_range : r ≡ 0 → RangePasses c p q r k
  in_range_holds : (i : ℕ) → r ≡ suc i → ComponentIn c k (range_start p q i) (range_end p q i) → RangePasses c p q r k

-- ---- a component test, among the components of its scope

pub data ComponentPasses (c : Whole) (p : List ℕ) (q : Sections) : ℕ → List Component → Type 0 where
  -- is-not-defined: no component directly there has the name
  not_defined : {j : ℕ} {ks : List Component} → (component_at p q j).flag ≡ 1
      → ((k : Component) → Memᴰ k ks → Spells k.begin.line.value (text_of p q (component_at p q j).name) → ⊥)
      → ComponentPasses c p q j ks
  -- some component directly there has the name, is in the range, and passes every property test and every child test of the record
  some_component_holds : {j : ℕ} {ks : List Component} → ((component_at p q j).flag ≡ 1 → ⊥) → (k : Component) → Memᴰ k ks
      → Spells k.begin.line.value (text_of p q (component_at p q j).name) → RangePasses c p q (component_at p q j).range k
      → ((n : ℕ) → n < q.properties.count → (property_at p q n).component ≡ j → PropertyPasses p q n (property_at p q n) (properties_in k.items))
      → ((n : ℕ) → j < n → n < q.components.count → (component_at p q n).parent ≡ j → ComponentPasses c p q n (components_in k.items))
      → ComponentPasses c p q j ks

-- component 0, in the whole file
abbrev pub QueryPasses : Context → List ℕ → Sections → Items → Type 0
QueryPasses c p q tree = ComponentPasses (whole_of c tree) p q 0 (components_in tree)
