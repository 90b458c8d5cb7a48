-- The tests of a query on a calendar (document 01, The query paper): component tests over the component tree, each with its time range.
-- A component test and the tests of its children go down the records: those of higher numbers are left.
use Rattle.std.specs.Prelude.{ℕ, zero, suc, ◌-◌, Bool, true, false, cond, not, ◌&&◌, ◌||◌, List, [], ◌∷◌, eqb, None, Option, Some}
use Rattle.events.specs.declared.Event.{Event}
use Rattle.events.specs.declared.Block.{Block}
use Rattle.ascii.specs.Names.{same_name}
use Rattle.query.specs.Records.{range_start, range_end, text_of, component_at}
use Rattle.query.specs.Counting.{some_below, implies}
use Rattle.query.specs.declared.Sections.{Sections}
use Rattle.query.specs.declared.ComponentRecord.{ComponentRecord}
use Rattle.values.specs.declared.times.Context.{Context}
use Rattle.property.specs.declared.Scope.{Scope}
use Rattle.nesting.specs.Components.{Items, Component, items_below, components_in, properties_in}
use Rattle.property_tests.specs.PropertyTests.{properties_hold}
use Rattle.calendar.specs.Meaning.{component_scope, event_of, block_of, block_periods, removed_from}
use Rattle.recurrence.specs.TimeRange.{instance_in, block_in}
use Rattle.recurrence.specs.Instances.{instances_at_most}

-- the calendar that a component is tested in: the context of its values, and all the components right below VCALENDAR
pub record Whole : Type 0 where
  pub context : Context
  pub components : List Component

unfoldable pub whole_of : Context → Items → Whole
whole_of c tree = record { context = c; components = components_in (items_below tree) }

-- some instance of the event is in the range, where these starts are taken away
unfoldable pub event_in : Option Event → List ℕ → ℕ → ℕ → Bool
event_in (Some e) gone a b = some_below instances_at_most (instance_in e gone a b)
event_in None gone a b = false

-- the block is, by its ends or by its periods
unfoldable pub block_range_in : Context → Component → Option Block → ℕ → ℕ → Bool
block_range_in c k (Some b) from to = block_in b (block_periods c (properties_in k.items)) from to
block_range_in c k None from to = false

-- is a component in a time range?
unfoldable pub component_in : Whole → Scope → Component → ℕ → ℕ → Bool
component_in c Scope.Event k a b = event_in (event_of c.context k) (removed_from c.context c.components k) a b
component_in c Scope.FreeBusy k a b = block_range_in c.context k (block_of c.context k) a b
component_in c Scope.Other k a b = false

-- the record's range, 0 for none
unfoldable pub range_holds : Whole → List ℕ → Sections → ℕ → Component → Bool
range_holds c s q zero k = true
range_holds c s q (suc r) k = component_in c (component_scope k) k (range_start s q r) (range_end s q r)

-- a component has the name
unfoldable pub some_component_named : List ℕ → List Component → Bool
some_component_named n [] = false
some_component_named n (k ∷ ks) = same_name k.begin.line.value n || some_component_named n ks

-- some component has the name, is in the range, and passes every property test and every child test of the record
unfoldable pub some_component : Whole → List ℕ → Sections → ℕ → ComponentRecord → (List Component → Bool) → List Component → Bool
some_component c s q j r children [] = false
some_component c s q j r children (k ∷ ks) =
    same_name k.begin.line.value (text_of s q r.name) && range_holds c s q r.range k && properties_hold s q j (properties_in k.items)
    && children (components_in k.items)
    || some_component c s q j r children ks

-- component record j among these components; flag 1 asks that none has the name
unfoldable pub component_holds : Whole → List ℕ → Sections → ℕ → ComponentRecord → (List Component → Bool) → List Component → Bool
component_holds c s q j r children ks =
    cond (eqb r.flag 1) (not (some_component_named (text_of s q r.name) ks)) (some_component c s q j r children ks)

-- of the last n component records, all those whose parent is p hold among these components
unfoldable pub children_hold : Whole → List ℕ → Sections → ℕ → ℕ → List Component → Bool
children_hold c s q zero p ks = true
children_hold c s q (suc n) p ks =
    implies (eqb (component_at s q (q.components.count - suc n)).parent p)
    (component_holds c s q (q.components.count - suc n) (component_at s q (q.components.count - suc n))
    (λ inner. children_hold c s q n (q.components.count - suc n) inner)
    ks)
    && children_hold c s q n p ks

-- component record j among these components; its children are tests of records of higher numbers
unfoldable pub component_test : Whole → List ℕ → Sections → ℕ → List Component → Bool
component_test c s q j ks =
    component_holds c s q j (component_at s q j) (λ inner. children_hold c s q (q.components.count - suc j) j inner) ks

-- the query on a file: component record 0 among what stands outside every component
unfoldable pub query_holds : Context → List ℕ → Sections → Items → Bool
query_holds c s q tree = component_test (whole_of c tree) s q 0 (components_in tree)
