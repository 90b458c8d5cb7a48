-- The theorems for the reader: the tests of a query hold exactly where its sentences do.
use Rattle.std.specs.Prelude.{None, Option, Some}
use Prim.Native.Nat.{ℕ, zero, suc, ◌-◌, ◌≤◌, ◌<◌}
use mathlib.Core.Path.{◌≡◌, refl, sym, ap, ◌∙◌, subst}
use mathlib.Core.Bool.{Bool, true, false, cond, not, ◌&&◌, ◌||◌}
use mathlib.Core.List.Memᴰ
use mathlib.Core.List.{List, [], ◌∷◌, Memᴰ}
use mathlib.Core.Logic.{◌↔◌, ⊎_elim}
use native.Mathlib.Omega.{arith}
use lib.Dec.{eqb}
use lib.ListN.{length}
use borrow.Author.Tests.{eqb-true, eqb-false, eq-eqb, ne_eqb, not-true, ltb-false}
use Rattle.time.specs.Limits.{last_second}
use Rattle.ascii.specs.Names.{same_name}
use Rattle.ascii.proofs.Names.{same_name_iff}
use Rattle.ascii.proofs.Bools.{and_left, and_right, and_both, or_left, or_right, clash, not_so}
use Rattle.text.specs.TextMatch.{contains}
use Rattle.text.proofs.TextMatch.{contains_iff}
use Rattle.query.specs.Records.{range_start, range_end, text_of, component_at, property_at, parameter_at}
use Rattle.query.specs.Counting.{every_below, implies}
use Rattle.query.specs.declared.Sections.{Sections}
use Rattle.query.specs.declared.PropertyRecord.{PropertyRecord}
use Rattle.query.specs.declared.ParameterRecord.{ParameterRecord}
use Rattle.query.proofs.Counting.{every_at, every_all}
use Rattle.line.specs.Grammar.{Parameter, ContentLine}
use Rattle.line.specs.Reading.{keep_if, parameters_named, has_parameter, values_named}
use Rattle.query_check.specs.WellFormed.{records_good}
use Rattle.query_check.specs.QueryRules.{Spells}
use Rattle.query_check.proofs.QueryRules.{records_say}
use Rattle.values.specs.declared.times.Context.{Context}
use Rattle.property.specs.declared.Scope.{Scope}
use Rattle.nesting.specs.Components.{Numbered, Items, Component, components_in, properties_in}
use Rattle.property_tests.specs.PropertyTests.{collation_of, text_holds, some_value, parameter_holds, parameter_passes, parameters_hold, some_named, line_holds, some_line, property_holds, property_passes, properties_hold}
use Rattle.property_tests.proofs.PropertyTests.{SomeOf, named_lines, holding_lines}
use Rattle.periods.specs.BusyTypes.{BusyPeriod, periods_of}
use Rattle.events.specs.declared.Event.{Event}
use Rattle.events.specs.declared.Block.{Block}
use Rattle.calendar.specs.Meaning.{component_scope, event_of, block_of, block_periods, removed_from}
use Rattle.calendar.proofs.Meaning.{event_of_small}
use Rattle.recurrence.specs.TimeRange.{EventIn, between_in, periods_overlap, bounds_in, block_in, Decides}
use Rattle.recurrence.proofs.Blocks.{periods_iff}
use Rattle.recurrence.proofs.Candidates.{search_finds}
use Rattle.recurrence.proofs.TimeRange.{decided_once, overlaps_iff, between_iff, instance_in_iff}
use Rattle.recurrence.specs.Instances.{instances_at_most}
use Rattle.filter.specs.Tests.{Whole, whole_of, event_in, block_range_in, component_in, range_holds, some_component_named, some_component, component_holds, children_hold, component_test, query_holds}
use Rattle.filter.specs.FilterRules.{ValuePasses, ParameterPasses, LinePasses, PropertyPasses, ComponentIn, RangePasses, ComponentPasses, QueryPasses}
use Rattle.filter.proofs.RangesLaws.{both_ends, some_at, some_decides}

-- ---- Bools and searches

-- a test chosen by a flag
module _ (f n : ℕ) (a b : Bool) where
  by_flag : {P : Type 0} → (f ≡ n → a ≡ true → P) → ((f ≡ n → ⊥) → b ≡ true → P) → cond (eqb f n) a b ≡ true → P
  by_flag {P} on off h = go (eqb f n) refl h
    where
      go : (t : Bool) → eqb f n ≡ t → cond t a b ≡ true → P
      go true q e = on (eqb-true f n q) e
      go false q e = off (eqb-false f n q) e

  flag_on : f ≡ n → a ≡ true → cond (eqb f n) a b ≡ true
  flag_on e h = ap (λ (t : Bool). cond t a b) (eq-eqb f n e) ∙ h

  flag_off : (f ≡ n → ⊥) → b ≡ true → cond (eqb f n) a b ≡ true
  flag_off e h = ap (λ (t : Bool). cond t a b) (ne_eqb f n e) ∙ h

-- a test that is asked where two numbers are one
module _ (m n : ℕ) (b : Bool) where
  asked : implies (eqb m n) b ≡ true → m ≡ n → b ≡ true
  asked h e = ap (λ (t : Bool). implies t b) (sym (eq-eqb m n e)) ∙ h

  asked_so : (m ≡ n → b ≡ true) → implies (eqb m n) b ≡ true
  asked_so h = go (eqb m n) refl
    where
      go : (t : Bool) → eqb m n ≡ t → implies t b ≡ true
      go true q = h (eqb-true m n q)
      go false q = refl

-- of every record below n, those of owner i pass
owned_iff : (n i : ℕ) (owner : ℕ → ℕ) (f : ℕ → Bool) (P : ℕ → Type 0) → ((k : ℕ) → (f k ≡ true) ↔ P k)
    → (every_below n (λ k. implies (eqb (owner k) i) (f k)) ≡ true) ↔ ((k : ℕ) → k < n → owner k ≡ i → P k)
owned_iff n i owner f P w =
    (λ h k l e. (w k).0 (asked (owner k) i (f k) (every_at _ n k l h) e), λ h. every_all _ n (λ k l. asked_so (owner k) i (f k) (λ e. (w k).1 (h k l e))))

-- `some` asks whether a test holds of one of a list
record SomeIn {A : Type 0} (some : List A → Bool) (f : A → Bool) : Type 0 where
  nothing : some [] ≡ false
  more : (x : A) (xs : List A) → some (x ∷ xs) ≡ (f x || some xs)

of_lines : {f : List Numbered → Bool} {g : ContentLine → Bool} → SomeOf f g → SomeIn f (λ x. g x.line)
of_lines t = record { nothing = t.no_line; more = t.a_line }

record Found {A : Type 0} (f : A → Bool) (xs : List A) : Type 0 where
  which : A
  listed : Memᴰ which xs
  passes : f which ≡ true

module _ {A : Type 0} {some : List A → Bool} {f : A → Bool} (t : SomeIn some f) where
  none_listed : {x : A} {xs : List A} → Memᴰ x xs → some xs ≡ false → f x ≡ false
  none_listed (Memᴰ.head {x = y} {xs = xs} e) h = ap f e ∙ or_left (f y) (some xs) (sym (t.more y xs) ∙ h)
  none_listed (Memᴰ.tail {x = y} {xs = xs} m) h = none_listed m (or_right (f y) (some xs) (sym (t.more y xs) ∙ h))

  some_listed : {x : A} {xs : List A} → Memᴰ x xs → f x ≡ true → some xs ≡ true
  some_listed {xs = xs} m h = go (some xs) refl
    where
      go : (b : Bool) → some xs ≡ b → some xs ≡ true
      go true q = q
      go false q = clash h (none_listed m q)

  later : (x : A) {xs : List A} → Found f xs → Found f (x ∷ xs)
  later x w = record { which = w.which; listed = Memᴰ.tail w.listed; passes = w.passes }

  some_found : (xs : List A) → some xs ≡ true → Found f xs
  some_found [] h = clash h t.nothing
  some_found (x ∷ xs) h = go (f x) refl (some_found xs) (sym (t.more x xs) ∙ h)
    where
      go : (b : Bool) → f x ≡ b → (some xs ≡ true → Found f xs) → (b || some xs) ≡ true → Found f (x ∷ xs)
      go true q below e = record { which = x; listed = Memᴰ.head refl; passes = q }
      go false q below e = later x (below e)

  all_fail : (xs : List A) → ((x : A) → Memᴰ x xs → f x ≡ false) → some xs ≡ false
  all_fail xs h = not_so (some xs) (λ e. let w = some_found xs e in clash w.passes (h w.which w.listed))

-- ---- names

module _ (s t : List ℕ) where
  spells : same_name s t ≡ true → Spells s t
  unfolding Spells
  spells e = (same_name_iff s t).0 e

  spelled : Spells s t → same_name s t ≡ true
  unfolding Spells
  spelled e = (same_name_iff s t).1 e

  apart : same_name s t ≡ false → Spells s t → ⊥
  apart n e = clash (spelled e) n

  not_spelled : (Spells s t → ⊥) → same_name s t ≡ false
  not_spelled n = not_so (same_name s t) (λ e. n (spells e))

-- no parameter has the name where none is counted
module _ (n : List ℕ) where
  none_counted : (x : ContentLine) → has_parameter n x ≡ false → length (parameters_named n x.parameters) ≡ 0
  unfolding has_parameter
  none_counted x e = omega (arith, ltb-false 0 (length (parameters_named n x.parameters)) e)

  counted_none : (x : ContentLine) → length (parameters_named n x.parameters) ≡ 0 → has_parameter n x ≡ false
  unfolding has_parameter
  counted_none x e = rw e

  no_parameter : (ps : List Parameter) → length (parameters_named n ps) ≡ 0 → (y : Parameter) → Memᴰ y ps → Spells y.name n → ⊥
  unfolding parameters_named
  no_parameter (p ∷ ps) e y m = go (same_name p.name n) refl e (λ h. no_parameter ps h y)
    where
      go : (t : Bool) → same_name p.name n ≡ t → length (keep_if t p (parameters_named n ps)) ≡ 0
          → (length (parameters_named n ps) ≡ 0 → Memᴰ y ps → Spells y.name n → ⊥) → Spells y.name n → ⊥
      go true q h below s = absurd (omega arith)
      go false q h below s =
          ⊎_elim (λ (same : y ≡ p). apart _ _ q (subst (λ (z : Parameter). Spells z.name n) same s)) (λ k. below h k s) (Memᴰ.cases_cons m)
  no_parameter [] e y m = absurd (Memᴰ.not-nil m)

  parameter_none : (ps : List Parameter) → ((y : Parameter) → Memᴰ y ps → Spells y.name n → ⊥) → length (parameters_named n ps) ≡ 0
  unfolding parameters_named
  parameter_none [] h = refl
  parameter_none (p ∷ ps) h =
      rw (not_spelled _ _ (h p (Memᴰ.head refl))) (parameter_none ps (λ y m. h y (Memᴰ.tail m)))

module _ (p : List ℕ) (q : Sections) where
  -- ---- a value

  value_says : (t c f : ℕ) (v : List ℕ) → text_holds p q t c f v ≡ true → ValuePasses p q t c f v
  unfolding text_holds
  value_says zero c f v h = ValuePasses.present refl
  value_says (suc i) c f v h =
      by_flag f 2 (not (contains (collation_of c) v (text_of p q i))) (contains (collation_of c) v (text_of p q i))
      (λ e n. ValuePasses.negated i refl e (λ o. clash ((contains_iff (collation_of c) v (text_of p q i)).1 o) (not-true _ n)))
      (λ e n. ValuePasses.contained i refl e ((contains_iff (collation_of c) v (text_of p q i)).0 n))
      h

  value_holds : (t c f : ℕ) (v : List ℕ) → ValuePasses p q t c f v → text_holds p q t c f v ≡ true
  unfolding text_holds
  value_holds t c f v (ValuePasses.present e) = ap (λ (n : ℕ). text_holds p q n c f v) e
  value_holds t c f v (ValuePasses.contained i e n h) =
      ap (λ (n : ℕ). text_holds p q n c f v) e
      ∙ flag_off f 2 (not (contains (collation_of c) v (text_of p q i))) (contains (collation_of c) v (text_of p q i)) n ((contains_iff (collation_of c) v (text_of p q i)).1 h)
  value_holds t c f v (ValuePasses.negated i e n h) =
      ap (λ (n : ℕ). text_holds p q n c f v) e
      ∙ flag_on f 2 (not (contains (collation_of c) v (text_of p q i))) (contains (collation_of c) v (text_of p q i)) n
      (ap not (not_so (contains (collation_of c) v (text_of p q i)) (λ y. h ((contains_iff (collation_of c) v (text_of p q i)).0 y))))

  pub value_passes_iff : (t c f : ℕ) (v : List ℕ) → (text_holds p q t c f v ≡ true) ↔ ValuePasses p q t c f v
  value_passes_iff t c f v = (value_says t c f v, value_holds t c f v)

  -- ---- a parameter test

  values_tried : (r : ParameterRecord) → SomeIn (some_value p q r) (λ v. text_holds p q r.text r.collation r.flag v)
  unfolding some_value
  values_tried r = record { nothing = refl; more = λ x xs. refl }

  module _ (x : ContentLine) (r : ParameterRecord) where
    parameter_says : parameter_holds p q x r ≡ true → ParameterPasses p q x r
    unfolding parameter_holds
    parameter_says h =
        by_flag r.flag 1 (not (has_parameter (text_of p q r.name) x)) (some_value p q r (values_named (text_of p q r.name) x.parameters))
        (λ e n. ParameterPasses.not_defined e (no_parameter (text_of p q r.name) x.parameters (none_counted (text_of p q r.name) x (not-true _ n))))
        (λ e n.
        let w = some_found (values_tried r) _ n in
        ParameterPasses.some_value_holds e w.which w.listed (value_says r.text r.collation r.flag w.which w.passes))
        h

    parameter_holds_lem : ParameterPasses p q x r → parameter_holds p q x r ≡ true
    unfolding parameter_holds
    parameter_holds_lem (ParameterPasses.not_defined e h) =
        flag_on r.flag 1 _ _ e (ap not (counted_none (text_of p q r.name) x (parameter_none (text_of p q r.name) x.parameters h)))
    parameter_holds_lem (ParameterPasses.some_value_holds e v m h) =
        flag_off r.flag 1 _ _ e (some_listed (values_tried r) m (value_holds r.text r.collation r.flag v h))

    pub parameter_iff : (parameter_holds p q x r ≡ true) ↔ ParameterPasses p q x r
    parameter_iff = (parameter_says, parameter_holds_lem)

  parameters_iff : (i : ℕ) (x : ContentLine)
      → (parameters_hold p q i x ≡ true)
      ↔ ((k : ℕ) → k < q.parameters.count → (parameter_at p q k).property ≡ i → ParameterPasses p q x (parameter_at p q k))
  unfolding parameters_hold parameter_passes
  parameters_iff i x =
      owned_iff q.parameters.count i (λ k. (parameter_at p q k).property) (λ k. parameter_holds p q x (parameter_at p q k))
      (λ k. ParameterPasses p q x (parameter_at p q k))
      (λ k. parameter_iff x (parameter_at p q k))

  -- ---- a property test

  module _ (i : ℕ) (r : PropertyRecord) where
    line_says : (x : ContentLine) → line_holds p q i r x ≡ true → LinePasses p q i r x
    unfolding line_holds
    line_says x h =
        let front = and_left (same_name x.name (text_of p q r.name) && text_holds p q r.text r.collation r.flag x.value) _ h in
        record {
          named = spells _ _ (and_left (same_name x.name (text_of p q r.name)) _ front);
          value_passes = value_says r.text r.collation r.flag x.value (and_right (same_name x.name (text_of p q r.name)) _ front);
          parameters_pass =
              (parameters_iff i x).0
              (and_right (same_name x.name (text_of p q r.name) && text_holds p q r.text r.collation r.flag x.value) _ h);
        }

    line_holds_lem : (x : ContentLine) → LinePasses p q i r x → line_holds p q i r x ≡ true
    unfolding line_holds
    line_holds_lem x l =
        and_both (and_both (spelled _ _ l.named) (value_holds r.text r.collation r.flag x.value l.value_passes))
        ((parameters_iff i x).1 l.parameters_pass)

    pub line_passes_iff : (x : ContentLine) → (line_holds p q i r x ≡ true) ↔ LinePasses p q i r x
    line_passes_iff x = (line_says x, line_holds_lem x)

    module _ (xs : List Numbered) where
      property_says : property_holds p q i r xs ≡ true → PropertyPasses p q i r xs
      unfolding property_holds
      property_says h =
          by_flag r.flag 1 (not (some_named (text_of p q r.name) xs)) (some_line p q i r xs)
          (λ e n. PropertyPasses.not_defined e (λ x m. apart _ _ (none_listed (of_lines (named_lines (text_of p q r.name))) m (not-true _ n))))
          (λ e n.
          let w = some_found (of_lines (holding_lines p q i r)) xs n in
          PropertyPasses.one_line e w.which w.listed (line_says w.which.line w.passes))
          h

      property_holds_lem : PropertyPasses p q i r xs → property_holds p q i r xs ≡ true
      unfolding property_holds
      property_holds_lem (PropertyPasses.not_defined e h) =
          flag_on r.flag 1 _ _ e (ap not (all_fail (of_lines (named_lines (text_of p q r.name))) xs (λ x m. not_spelled _ _ (h x m))))
      property_holds_lem (PropertyPasses.one_line e x m h) = flag_off r.flag 1 _ _ e (some_listed (of_lines (holding_lines p q i r)) m (line_holds_lem x.line h))

      pub property_iff : (property_holds p q i r xs ≡ true) ↔ PropertyPasses p q i r xs
      property_iff = (property_says, property_holds_lem)

  properties_iff : (j : ℕ) (xs : List Numbered)
      → (properties_hold p q j xs ≡ true)
      ↔ ((n : ℕ) → n < q.properties.count → (property_at p q n).component ≡ j → PropertyPasses p q n (property_at p q n) xs)
  unfolding properties_hold property_passes
  properties_iff j xs =
      owned_iff q.properties.count j (λ n. (property_at p q n).component) (λ n. property_holds p q n (property_at p q n) xs)
      (λ n. PropertyPasses p q n (property_at p q n) xs)
      (λ n. property_iff n (property_at p q n) xs)

-- ---- a component in a time range

no_bound : {A : Type 0} {s : ℕ} → None ≡ Some s → A
no_bound e = let z : ◌≡◌ {A = ℕ} 0 1 = cc in absurd (omega arith)

module _ (a b : ℕ) (ps : List BusyPeriod) where
  -- without both ends the periods decide
  by_periods : (u v : Option ℕ) → ((s t : ℕ) → u ≡ Some s → v ≡ Some t → ⊥) → bounds_in a b u v ps ≡ periods_overlap a b (periods_of ps)
  unfolding bounds_in
  by_periods (Some s) (Some t) h = absurd (h s t refl refl)
  by_periods (Some s) None h = refl
  by_periods None (Some t) h = refl
  by_periods None None h = refl

  by_ends : {P : Type 0} (u v : Option ℕ) → ((s t : ℕ) → u ≡ Some s → v ≡ Some t → between_in a b s t ≡ true → P)
      → (((s t : ℕ) → u ≡ Some s → v ≡ Some t → ⊥) → periods_overlap a b (periods_of ps) ≡ true → P) → bounds_in a b u v ps ≡ true → P
  unfolding bounds_in
  by_ends (Some s) (Some t) both other h = both s t refl refl h
  by_ends (Some s) None both other h = other (λ x y d e. no_bound e) h
  by_ends None (Some t) both other h = other (λ x y d e. no_bound d) h
  by_ends None None both other h = other (λ x y d e. no_bound d) h

module _ (c : Whole) (k : Component) (a b : ℕ) where
  abbrev gone : List ℕ
  gone = removed_from c.context c.components k

  abbrev busy_periods : List BusyPeriod
  busy_periods = block_periods c.context (properties_in k.items)

  event_says : component_scope k ≡ Scope.Event → (r : Option Event) → event_of c.context k ≡ r → event_in r gone a b ≡ true → ComponentIn c k a b
  unfolding event_in
  event_says o (Some e) x h = let i = some_at e gone a b instances_at_most h in ComponentIn.event_in_holds e o x i.number ((instance_in_iff e gone a b i.number).0 i.passes)
  event_says o None x h = clash h refl

  block_says : component_scope k ≡ Scope.FreeBusy → (r : Option Block) → block_of c.context k ≡ r → block_range_in c.context k r a b ≡ true → ComponentIn c k a b
  unfolding block_range_in block_in
  block_says o (Some x) e h =
      by_ends a b busy_periods x.start x.end
      (λ s t y z w. ComponentIn.block_between_holds x s t o e y z ((between_iff a b s t).0 w))
      (λ y w. let i = (periods_iff a b busy_periods).0 w in ComponentIn.block_period x o e y i.which i.listed ((overlaps_iff a b _ _).0 i.passes))
      h
  block_says o None e h = clash h refl

  scope_says : (o : Scope) → component_scope k ≡ o → component_in c o k a b ≡ true → ComponentIn c k a b
  unfolding component_in
  scope_says Scope.Event o h = event_says o (event_of c.context k) refl h
  scope_says Scope.FreeBusy o h = block_says o (block_of c.context k) refl h
  scope_says Scope.Other o h = clash h refl

  -- by what is read
  as_event : component_scope k ≡ Scope.Event → (r : Option Event) → event_of c.context k ≡ r → event_in r gone a b ≡ true → component_in c (component_scope k) k a b ≡ true
  unfolding component_in
  as_event o r e h = ap (λ (w : Scope). component_in c w k a b) o ∙ ap (λ (w : Option Event). event_in w gone a b) e ∙ h

  as_block : component_scope k ≡ Scope.FreeBusy → (x : Block) → block_of c.context k ≡ Some x → block_in x busy_periods a b ≡ true
      → component_in c (component_scope k) k a b ≡ true
  unfolding component_in block_range_in
  as_block o x e h = ap (λ (w : Scope). component_in c w k a b) o ∙ ap (λ (w : Option Block). block_range_in c.context k w a b) e ∙ h

  in_event : b ≤ last_second → (e : Event) → event_of c.context k ≡ Some e → EventIn e gone a b → event_in (Some e) gone a b ≡ true
  unfolding event_in
  in_event l e x i =
      sym (decided_once true _ (search_finds i.number i.passes) (some_decides gone a b (event_of_small c.context k e x) l))

  scope_holds : b ≤ last_second → ComponentIn c k a b → component_in c (component_scope k) k a b ≡ true
  unfolding block_in
  scope_holds l (ComponentIn.event_in_holds e o x n i) =
      as_event o (Some e) x (in_event l e x (record { number = n; passes = (instance_in_iff e gone a b n).1 i }))
  scope_holds l (ComponentIn.block_between_holds x s t o e y z h) = as_block o x e (sym (both_ends c.context a b x (properties_in k.items) s t y z (sym ((between_iff a b s t).1 h))))
  scope_holds l (ComponentIn.block_period x o e y p m h) =
      as_block o x e (by_periods a b busy_periods x.start x.end y ∙ (periods_iff a b busy_periods).1 (record { which = p; listed = m; passes = (overlaps_iff a b _ _).1 h }))

  pub component_in_iff : b ≤ last_second → (component_in c (component_scope k) k a b ≡ true) ↔ ComponentIn c k a b
  component_in_iff l = (scope_says (component_scope k) refl, scope_holds l)

module _ (c : Whole) (p : List ℕ) (q : Sections) (g : records_good p q ≡ true) where
  -- ---- a record's range

  range_says : (r : ℕ) (k : Component) → range_holds c p q r k ≡ true → RangePasses c p q r k
  unfolding range_holds
  range_says zero k h = RangePasses.no_range refl
  range_says (suc i) k h = RangePasses.in_range_holds i refl (scope_says c k (range_start p q i) (range_end p q i) (component_scope k) refl h)

  range_holds_holds : (r : ℕ) (k : Component) → r ≤ q.ranges.count → RangePasses c p q r k → range_holds c p q r k ≡ true
  unfolding range_holds
  range_holds_holds r k l (RangePasses.no_range e) = ap (λ (n : ℕ). range_holds c p q n k) e
  range_holds_holds r k l (RangePasses.in_range_holds i e h) =
      ap (λ (n : ℕ). range_holds c p q n k) e
      ∙ scope_holds c k (range_start p q i) (range_end p q i) ((records_say p q g).ranges_good_holds i (omega arith)).end_limit h

  pub range_iff : (r : ℕ) (k : Component) → r ≤ q.ranges.count → (range_holds c p q r k ≡ true) ↔ RangePasses c p q r k
  range_iff r k l = (range_says r k, range_holds_holds r k l)

  -- ---- a component test

  named_components : (n : List ℕ) → SomeIn (some_component_named n) (λ k. same_name k.begin.line.value n)
  unfolding some_component_named
  named_components n = record { nothing = refl; more = λ x xs. refl }

  -- the child tests of component record j
  abbrev Children : ℕ → List Component → Type 0
  Children j ks = (n : ℕ) → j < n → n < q.components.count → (component_at p q n).parent ≡ j → ComponentPasses c p q n ks

  module _ (j : ℕ) (l : j < q.components.count) (children : List Component → Bool) (w : (ks : List Component) → (children ks ≡ true) ↔ Children j ks) where
    abbrev wanted : List ℕ
    wanted = text_of p q (component_at p q j).name

    abbrev fits : Component → Bool
    fits k =
        same_name k.begin.line.value wanted && range_holds c p q (component_at p q j).range k && properties_hold p q j (properties_in k.items)
        && children (components_in k.items)

    fitting_components : SomeIn (some_component c p q j (component_at p q j) children) fits
    unfolding some_component
    fitting_components = record { nothing = refl; more = λ x xs. refl }

    range_there : (component_at p q j).range ≤ q.ranges.count
    range_there = ((records_say p q g).components_good_holds j l).range_there

    fit_says : (ks : List Component) (k : Component) → ((component_at p q j).flag ≡ 1 → ⊥) → Memᴰ k ks → fits k ≡ true → ComponentPasses c p q j ks
    fit_says ks k f m h =
        let named = same_name k.begin.line.value wanted in
        let ranged = range_holds c p q (component_at p q j).range k in
        let lined = properties_hold p q j (properties_in k.items) in
        let front = and_left (named && ranged && lined) _ h in
        let head = and_left (named && ranged) lined front in
        ComponentPasses.some_component_holds f k m (spells _ _ (and_left named ranged head)) (range_says _ k (and_right named ranged head))
        ((properties_iff p q j (properties_in k.items)).0 (and_right (named && ranged) lined front))
        ((w (components_in k.items)).0 (and_right (named && ranged && lined) (children (components_in k.items)) h))

    component_says : (ks : List Component) → component_holds c p q j (component_at p q j) children ks ≡ true → ComponentPasses c p q j ks
    unfolding component_holds
    component_says ks h =
        by_flag (component_at p q j).flag 1 (not (some_component_named wanted ks))
        (some_component c p q j (component_at p q j) children ks)
        (λ e n. ComponentPasses.not_defined e (λ k m. apart _ _ (none_listed (named_components wanted) m (not-true _ n))))
        (λ e n. let x = some_found fitting_components _ n in fit_says ks x.which e x.listed x.passes)
        h

    component_holds_lem : (ks : List Component) → ComponentPasses c p q j ks → component_holds c p q j (component_at p q j) children ks ≡ true
    unfolding component_holds
    component_holds_lem ks (ComponentPasses.not_defined e h) =
        flag_on (component_at p q j).flag 1 _ _ e (ap not (all_fail (named_components wanted) ks (λ k m. not_spelled _ _ (h k m))))
    component_holds_lem ks (ComponentPasses.some_component_holds e k m n r ps cs) =
        flag_off (component_at p q j).flag 1 _ _ e
        (some_listed fitting_components m
        (and_both (and_both (and_both (spelled _ _ n) (range_holds_holds _ k range_there r)) ((properties_iff p q j (properties_in k.items)).1 ps)) ((w (components_in k.items)).1 cs)))

    holds_iff : (ks : List Component) → (component_holds c p q j (component_at p q j) children ks ≡ true) ↔ ComponentPasses c p q j ks
    holds_iff ks = (component_says ks, component_holds_lem ks)

  -- of the last n component records, all those of a parent pass
  abbrev LastPass : ℕ → ℕ → List Component → Type 0
  LastPass n par ks =
      (k : ℕ) → q.components.count - n ≤ k → k < q.components.count → (component_at p q k).parent ≡ par → ComponentPasses c p q k ks

  -- component record j, where the n records after it are the last
  record_iff : (j n : ℕ) → j < q.components.count → n ≡ q.components.count - suc j
      → ((x : List Component) → (children_hold c p q n j x ≡ true) ↔ LastPass n j x)
      → (ks : List Component) → (component_holds c p q j (component_at p q j) (λ x. children_hold c p q n j x) ks ≡ true) ↔ ComponentPasses c p q j ks
  record_iff j n l e w =
      holds_iff j l (λ x. children_hold c p q n j x)
      (λ x. (λ h k lo hi o. (w x).0 h k (omega arith) hi o, λ h. (w x).1 (λ k lo hi o. h k (omega arith) hi o)))

  module _ (n par : ℕ) (ks : List Component) (s : suc n ≤ q.components.count) (w : (m : ℕ) (x : List Component) → (children_hold c p q n m x ≡ true) ↔ LastPass n m x) where
    abbrev first : ℕ
    first = q.components.count - suc n

    first_iff : (component_holds c p q first (component_at p q first) (λ x. children_hold c p q n first x) ks ≡ true) ↔ ComponentPasses c p q first ks
    first_iff = record_iff first n (omega arith) (omega arith) (w first) ks

    first_or_later : ((component_at p q first).parent ≡ par → ComponentPasses c p q first ks) → LastPass n par ks → LastPass (suc n) par ks
    first_or_later here below k lo hi o = go (eqb k first) refl
      where
        go : (t : Bool) → eqb k first ≡ t → ComponentPasses c p q k ks
        go true e =
            let z = eqb-true k first e in
            subst (λ (m : ℕ). ComponentPasses c p q m ks) (sym z) (here (ap (λ (m : ℕ). (component_at p q m).parent) (sym z) ∙ o))
        go false e = let z = eqb-false k first e in below k (omega arith) hi o

    children_step : (children_hold c p q (suc n) par ks ≡ true) ↔ LastPass (suc n) par ks
    unfolding children_hold
    children_step = (
      λ h.
          first_or_later (λ o. first_iff.0 (asked (component_at p q first).parent par _ (and_left _ (children_hold c p q n par ks) h) o))
          ((w par ks).0 (and_right (implies (eqb (component_at p q first).parent par) _) (children_hold c p q n par ks) h)),
      λ h.
          and_both (asked_so (component_at p q first).parent par _ (λ o. first_iff.1 (h first (omega arith) (omega arith) o)))
          ((w par ks).1 (λ k lo hi o. h k (omega arith) hi o)),
    )

  children_iff : (n par : ℕ) (ks : List Component) → n ≤ q.components.count → (children_hold c p q n par ks ≡ true) ↔ LastPass n par ks
  unfolding children_hold
  children_iff zero par ks s = (λ h k lo hi o. absurd (omega arith), λ h. refl)
  children_iff (suc n) par ks s = children_step n par ks s (λ m x. children_iff n m x (omega arith))

  pub component_iff : (j : ℕ) (ks : List Component) → j < q.components.count → (component_test c p q j ks ≡ true) ↔ ComponentPasses c p q j ks
  unfolding component_test
  component_iff j ks l =
      record_iff j (q.components.count - suc j) l refl (λ x. children_iff (q.components.count - suc j) j x (omega arith)) ks

-- ---- the query

module _ (c : Context) (p : List ℕ) (q : Sections) (g : records_good p q ≡ true) (tree : Items) (l : 0 < q.components.count) where
  pub query_iff : (query_holds c p q tree ≡ true) ↔ QueryPasses c p q tree
  unfolding query_holds
  query_iff = component_iff (whole_of c tree) p q g 0 (components_in tree) l

  pub query_decides : Decides (query_holds c p q tree) (QueryPasses c p q tree)
  query_decides = record { holds = query_iff.0; fails = λ n h. clash (query_iff.1 h) n }
