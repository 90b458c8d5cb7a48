-- What is tried of a component against a record's range: the instances of an event one by one, anything else once.
use Rattle.std.specs.Prelude.{ℕ, suc, ◌-◌, ◌≤◌, ◌<◌, ◌≡◌, Bool, true, false, ◌&&◌, List, eqb}
use Rattle.time.specs.Limits.{last_second}
use Rattle.ascii.specs.Names.{same_name}
use Rattle.query.specs.Records.{text_of, component_at}
use Rattle.query.specs.Counting.{some_below}
use Rattle.query.specs.declared.Sections.{Sections}
use Rattle.nesting.specs.Components.{Component, components_in, properties_in}
use Rattle.structure.specs.Rows.{component_by}
use Rattle.property_tests.specs.PropertyTests.{properties_hold}
use Rattle.events.specs.Sizes.{EventSmall}
use Rattle.recurrence.specs.TimeRange.{instance_in}
use Rattle.recurrence.specs.Instances.{instances_at_most}
use Rattle.nesting.specs.Files.{tree_in}
use Rattle.values.specs.declared.times.Context.{Context}
use Rattle.calendar.specs.Meaning.{removed_from}
use Rattle.filter.specs.Tests.{Whole, whole_of, range_holds, children_hold}
use Rattle.filter.specs.Ranges.{RuledOut}
use Rattle.filter.specs.declared.trials.Trial.{Trial}

-- does some instance pass, where these starts are taken away?
unfoldable pub trial_holds : List ℕ → Trial → Bool
trial_holds gone (Trial.Instances e a b) = some_below instances_at_most (instance_in e gone a b)
trial_holds gone (Trial.Once t) = t

-- does instance k pass? What is tried once has number 0
unfoldable pub trial_passes : List ℕ → Trial → ℕ → Bool
trial_passes gone (Trial.Instances e a b) k = instance_in e gone a b k
trial_passes gone (Trial.Once t) k = t && eqb k 0

-- none before k passes
pub record Tried (gone : List ℕ) (t : Trial) (k : ℕ) : Type 0 where
  pub none_before : (j : ℕ) → j < k → trial_passes gone t j ≡ false
  pub few : k ≤ instances_at_most

-- is there an instance k to try? Where not, none from k on passes, whatever starts are taken away
pub record MoreTrials (t : Trial) (k : ℕ) (r : Bool) : Type 0 where
  pub none_from : r ≡ false → (gone : List ℕ) (j : ℕ) → k ≤ j → trial_passes gone t j ≡ false
  pub few : r ≡ true → k < instances_at_most

-- the sizes that the sums and products of a trial want
abbrev pub SmallTrial : Trial → Type 0
SmallTrial (Trial.Instances e a b) = EventSmall e × (a < b) × (b ≤ last_second)
SmallTrial (Trial.Once t) = Unit {0}

-- the trial decides a test, where these starts are taken away
pub record TrialOf (b : Bool) (gone : List ℕ) (t : Trial) : Type 0 where
  pub small : SmallTrial t
  pub decides : trial_holds gone t ≡ b

-- the starts that are taken away from the component of row k
unfoldable pub gone_from : Context → List ℕ → List ℕ → ℕ → List ℕ
gone_from c s rows k = removed_from c (whole_of c (tree_in s)).components (component_by s rows k)

-- ---- component record j on one component

-- it has the name of the record
unfoldable pub is_called : List ℕ → Sections → ℕ → Component → Bool
is_called p q j k = same_name k.begin.line.value (text_of p q (component_at p q j).name)

-- it has the name, is in the range, and passes every property test and every child test
unfoldable pub component_fits : Whole → List ℕ → Sections → ℕ → Component → Bool
component_fits c p q j k =
    is_called p q j k && range_holds c p q (component_at p q j).range k && properties_hold p q j (properties_in k.items)
    && children_hold c p q (q.components.count - suc j) j (components_in k.items)

-- why the component of row k does not fit: its name, what its row says of the range, or its own lines
pub data Unfit (p : List ℕ) (q : Sections) (j : ℕ) (s rows column : List ℕ) (k : ℕ) : Type 0 where
  other_name : is_called p q j (component_by s rows k) ≡ false → Unfit p q j s rows column k
  out_of_range : RuledOut p q (component_at p q j).range rows column k → Unfit p q j s rows column k
  other_lines : properties_hold p q j (properties_in (component_by s rows k).items) ≡ false → Unfit p q j s rows column k

-- what is asked of it before its inner components and its instances
pub record Alone (p : List ℕ) (q : Sections) (j : ℕ) (s rows column : List ℕ) (k : ℕ) (b : Bool) : Type 0 where
  pub called : b ≡ true → is_called p q j (component_by s rows k) ≡ true
  pub lines_hold : b ≡ true → properties_hold p q j (properties_in (component_by s rows k).items) ≡ true
  pub unfit : b ≡ false → Unfit p q j s rows column k
