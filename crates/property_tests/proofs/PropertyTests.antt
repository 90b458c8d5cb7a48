-- Laws of the property and parameter tests: of one text, of the loops over values, parameters and lines, and of the tests of a record.
use Prim.Native.Nat.{ℕ, zero, suc, ◌+◌, ◌-◌, ◌≤◌, ◌<◌, ◌*◌}
use mathlib.Core.Path.{◌≡◌, refl, sym, ap, ◌∙◌, subst}
use mathlib.Core.Bool.{Bool, true, false, cond, not, ◌&&◌, ◌||◌, or_assoc}
use mathlib.Core.List.{List, [], ◌∷◌, ◌++◌, map}
use native.Mathlib.Omega.{arith}
use lib.Dec.{eqb}
use lib.ListN.{length, take, drop, get_or}
use borrow.Author.Tests.{eq-eqb, ne_eqb}
use Rattle.text.specs.TextMatch.{contains}
use Rattle.text.specs.declared.Collation.{Collation}
use Rattle.line.specs.Grammar.{Parameter, ContentLine}
use Rattle.line.specs.Splitting.{next_place, after, split_parts, split_after, quotes_off}
use Rattle.line.specs.Reading.{head_of, is_named, values_of, parameter_of, line_of, keep_if, parameters_named, pooled, values_named, has_parameter, name_of, value_of}
use Rattle.line.proofs.Splitting.{next_place_ge, next_place_le, parts_from, split_after_in, split_after_out}
use Rattle.line.proofs.ReadingParameters.{parameters_from, parameters_next, parameters_end, parameters_all, next_inside}
use Rattle.query.specs.Records.{text_of, parameter_at, property_at}
use Rattle.query.specs.declared.Sections.{Sections}
use Rattle.query.specs.declared.ParameterRecord.{ParameterRecord}
use Rattle.query.specs.Counting.{implies}
use Rattle.query_check.specs.QueryRules.{GoodParameter, GoodProperty}
use Rattle.query_check.specs.WellFormed.{records_good}
use Rattle.query_check.proofs.QueryRules.{records_say}
use Rattle.property_tests.specs.PropertyTests.{collation_of, text_holds, text_or, text_passes, some_value, some_passes, parameter_holds, parameter_passes, parameters_hold}
use Rattle.property_tests.specs.PropertyTests.{some_named, line_holds, some_line, property_holds, property_passes}
use Rattle.nesting.specs.Components.{Numbered, Items, none, properties_in}
use Rattle.index.specs.Index.{line_bytes, Entry, Indexed}
use Rattle.structure.specs.Rows.{items_by, numbered_line, ItemsAt, RowOf, component_by}
use Rattle.structure.specs.Items.{item_by, PropertyAt, InnerAt}
use Rattle.structure.specs.declared.items.Item.{Item}
use Rattle.structure.proofs.ItemsLaws.{property_at_holds, inner_at, no_item_at}
use Rattle.ascii.specs.Names.{same_name}
use Rattle.query.specs.declared.PropertyRecord.{PropertyRecord}

-- ---- one text

pub collation_octet : (n : ℕ) → n ≡ 0 → Collation.Octet ≡ collation_of n
unfolding collation_of
collation_octet zero h = refl
collation_octet (suc n) h = absurd (omega arith)

pub collation_casemap : (n : ℕ) → (n ≡ 0 → ⊥) → Collation.AsciiCasemap ≡ collation_of n
unfolding collation_of
collation_casemap zero h = absurd (h refl)
collation_casemap (suc n) h = refl

-- without a text
pub passes_none : (n : ℕ) (w : List ℕ) (c f : ℕ) (v : List ℕ) → n ≡ 0 → true ≡ text_passes n w c f v
unfolding text_passes
passes_none zero w c f v h = refl
passes_none (suc n) w c f v h = absurd (omega arith)

-- with one
module _ (n : ℕ) (w : List ℕ) (c f : ℕ) (v : List ℕ) {k : Collation} {b : Bool} (h : n ≡ 0 → ⊥) (y : k ≡ collation_of c) (z : b ≡ contains k v w) where
  passes_some : cond (eqb f 2) (not b) b ≡ text_passes n w c f v
  unfolding text_passes
  passes_some = go n h
    where
      go : (n : ℕ) → (n ≡ 0 → ⊥) → cond (eqb f 2) (not b) b ≡ text_passes n w c f v
      go zero h = absurd (h refl)
      go (suc n) h = ap (λ (x : Bool). cond (eqb f 2) (not x) x) (z ∙ ap (λ (j : Collation). contains j v w) y)

  pub passes_negated : f ≡ 2 → not b ≡ text_passes n w c f v
  passes_negated e = ap (λ (x : Bool). cond x (not b) b) (sym (eq-eqb f 2 e)) ∙ passes_some

  pub passes_plain : (f ≡ 2 → ⊥) → b ≡ text_passes n w c f v
  passes_plain e = ap (λ (x : Bool). cond x (not b) b) (sym (ne_eqb f 2 e)) ∙ passes_some

-- ---- the values of one parameter: none before place `from` holds up

abbrev values_from : List ℕ → ℕ → List (List ℕ)
values_from u from = map quotes_off (split_parts true 44 false (drop from u))

module _ (r : ParameterRecord) (w : List ℕ) where
  pub record Trying (p u : List ℕ) (from : ℕ) : Type 0 where
    pub within : from ≤ length u
    pub rest : some_passes r w (values_from u from) ≡ some_passes r w (values_of p)

  pub trying_start : (p u : List ℕ) → u ≡ after true 61 p → Trying p u 0
  unfolding values_of
  trying_start p u q = record { within = omega arith; rest = ap (λ (x : List ℕ). some_passes r w (map quotes_off (split_parts true 44 false x))) q }

  module _ {p u : List ℕ} {from e : ℕ} (t : Trying p u from) (x : e ≡ next_place true 44 u from) where
    pub value_rises : from ≤ e
    value_rises = omega (arith, next_place_ge true 44 u from)

    pub value_inside : e ≤ length u
    value_inside = omega (arith, next_place_le true 44 u from t.within)

    module _ {v : List ℕ} {b : Bool} (y : v ≡ quotes_off (take (e - from) (drop from u))) (z : b ≡ text_passes r.text w r.collation r.flag v) where
      value_here : (b || some_passes r w (map quotes_off (split_after true 44 u e))) ≡ some_passes r w (values_of p)
      unfolding some_passes
      value_here =
          ap (λ (k : Bool). k || some_passes r w (map quotes_off (split_after true 44 u e)))
          (z ∙ ap (text_passes r.text w r.collation r.flag) y)
          ∙ ap (λ (k : ℕ). some_passes r w (map quotes_off (take (k - from) (drop from u) ∷ split_after true 44 u k))) x
          ∙ ap (λ (l : List (List ℕ)). some_passes r w (map quotes_off l)) (sym (parts_from true 44 u from t.within))
          ∙ t.rest

      pub trying_found : b ≡ true → true ≡ some_passes r w (values_of p)
      trying_found k = ap (λ (i : Bool). i || some_passes r w (map quotes_off (split_after true 44 u e))) (sym k) ∙ value_here

      value_after : b ≡ false → some_passes r w (map quotes_off (split_after true 44 u e)) ≡ some_passes r w (values_of p)
      value_after k = ap (λ (i : Bool). i || some_passes r w (map quotes_off (split_after true 44 u e))) (sym k) ∙ value_here

      pub trying_next : b ≡ false → e < length u → Trying p u (e + 1)
      trying_next k h =
          record {
            within = omega arith;
            rest = ap (λ (l : List (List ℕ)). some_passes r w (map quotes_off l)) (sym (split_after_in true 44 u e h)) ∙ value_after k;
          }

      pub trying_end : b ≡ false → length u ≤ e → false ≡ some_passes r w (values_of p)
      unfolding some_passes
      trying_end k h = ap (λ (l : List (List ℕ)). some_passes r w (map quotes_off l)) (sym (split_after_out true 44 u e h)) ∙ value_after k

  -- ---- the parameters of a line: no value of one before `at` holds up

  some_append : (vs us : List (List ℕ)) → some_passes r w (vs ++ us) ≡ (some_passes r w vs || some_passes r w us)
  unfolding some_passes
  some_append [] us = refl
  some_append (v ∷ vs) us =
      ap (λ (t : Bool). text_passes r.text w r.collation r.flag v || t) (some_append vs us)
      ∙ sym (or_assoc (text_passes r.text w r.collation r.flag v) (some_passes r w vs) (some_passes r w us))

  named_here : (n t : List ℕ) (ps : List Parameter)
      → some_passes r w (values_named n (parameter_of t ∷ ps)) ≡ (is_named n t && some_passes r w (values_of t) || some_passes r w (values_named n ps))
  unfolding values_named parameters_named is_named parameter_of pooled
  named_here n t ps = go (is_named n t)
    where
      go : (x : Bool) → some_passes r w (pooled (keep_if x (parameter_of t) (parameters_named n ps)))
          ≡ (x && some_passes r w (values_of t) || some_passes r w (pooled (parameters_named n ps)))
      go true = some_append (values_of t) (pooled (parameters_named n ps))
      go false = refl

  -- one parameter
  module _ (n t : List ℕ) {a : Bool} (x : a ≡ is_named n t) where
    pub named_value : {b : Bool} → a ≡ true → b ≡ some_passes r w (values_of t) → b ≡ (is_named n t && some_passes r w (values_of t))
    named_value e y = y ∙ ap (λ (z : Bool). z && some_passes r w (values_of t)) (sym e ∙ x)

    pub other_value : a ≡ false → false ≡ (is_named n t && some_passes r w (values_of t))
    other_value e = ap (λ (z : Bool). z && some_passes r w (values_of t)) (sym e ∙ x)

  pub record Looking (n h : List ℕ) (at : ℕ) : Type 0 where
    pub inside : at ≤ length h
    pub rest : some_passes r w (values_named n (parameters_from h at)) ≡ some_passes r w (values_named n (parameters_from h (next_place true 59 h 0)))

  pub looking_start : (n h : List ℕ) (at : ℕ) → at ≡ next_place true 59 h 0 → Looking n h at
  looking_start n h at x =
      record {
        inside = omega (arith, next_place_le true 59 h 0 (omega arith));
        rest = ap (λ (i : ℕ). some_passes r w (values_named n (parameters_from h i))) x;
      }

  module _ {n h : List ℕ} {at : ℕ} (g : Looking n h at) where
    module _ {e : ℕ} {b : Bool} (k : at < length h) (x : e ≡ next_place true 59 h (at + 1))
        (z : b ≡ (is_named n (take (e - (at + 1)) (drop (at + 1) h)) && some_passes r w (values_of (take (e - (at + 1)) (drop (at + 1) h))))) where
      looking_here : (b || some_passes r w (values_named n (parameters_from h e)))
          ≡ some_passes r w (values_named n (parameters_from h (next_place true 59 h 0)))
      looking_here =
          ap (λ (t : Bool). t || some_passes r w (values_named n (parameters_from h e))) z
          ∙ sym (named_here n (take (e - (at + 1)) (drop (at + 1) h)) (parameters_from h e))
          ∙ ap (λ (ps : List Parameter). some_passes r w (values_named n ps)) (sym (parameters_next h at e k x))
          ∙ g.rest

      pub looking_next : b ≡ false → Looking n h e
      looking_next y =
          record {
            inside = next_inside h at e k x;
            rest = ap (λ (t : Bool). t || some_passes r w (values_named n (parameters_from h e))) (sym y) ∙ looking_here;
          }

      pub looking_found : (l : List ℕ) → h ≡ head_of l → b ≡ true → true ≡ some_passes r w (values_named n (line_of l).parameters)
      looking_found l i y =
          ap (λ (t : Bool). t || some_passes r w (values_named n (parameters_from h e))) (sym y)
          ∙ looking_here
          ∙ ap (λ (ps : List Parameter). some_passes r w (values_named n ps)) (parameters_all l h i)

    pub looking_end : (l : List ℕ) → length h ≤ at → h ≡ head_of l → false ≡ some_passes r w (values_named n (line_of l).parameters)
    unfolding some_passes values_named parameters_named pooled
    looking_end l k i =
        sym (ap (λ (ps : List Parameter). some_passes r w (values_named n ps)) (parameters_end h at k))
        ∙ g.rest
        ∙ ap (λ (ps : List Parameter). some_passes r w (values_named n ps)) (parameters_all l h i)

module _ (s : List ℕ) (q : Sections) where
  -- ---- the text of a record, looked up

  pub text_none : (t : ℕ) → t ≡ 0 → [] ≡ text_or s q t
  unfolding text_or
  text_none zero h = refl
  text_none (suc t) h = absurd (omega arith)

  pub text_some : (t : ℕ) {w : List ℕ} → (t ≡ 0 → ⊥) → w ≡ text_of s q (t - 1) → w ≡ text_or s q t
  unfolding text_or
  text_some zero h x = absurd (h refl)
  text_some (suc t) h x = let n : suc t - 1 ≡ t = omega arith in x ∙ ap (text_of s q) n

  -- with its bytes at hand the test is the same
  pub text_given : (t c f : ℕ) (v : List ℕ) {w : List ℕ} → w ≡ text_or s q t → text_passes t w c f v ≡ text_holds s q t c f v
  unfolding text_passes text_holds text_or
  text_given zero c f v x = refl
  text_given (suc t) c f v x =
      ap (λ (u : List ℕ). cond (eqb f 2) (not (contains (collation_of c) v u)) (contains (collation_of c) v u)) x

  module _ (r : ParameterRecord) where
    values_given : {w : List ℕ} → w ≡ text_or s q r.text → (vs : List (List ℕ)) → some_passes r w vs ≡ some_value s q r vs
    unfolding some_passes some_value
    values_given x [] = refl
    values_given {w} x (v ∷ vs) =
        ap (λ (t : Bool). t || some_passes r w vs) (text_given r.text r.collation r.flag v x)
        ∙ ap (λ (t : Bool). text_holds s q r.text r.collation r.flag v || t) (values_given x vs)

    -- ---- one parameter test

    module _ {n : List ℕ} (x : ContentLine) (e : n ≡ text_of s q r.name) where
      pub parameter_absent : {b : Bool} → r.flag ≡ 1 → b ≡ has_parameter n x → not b ≡ parameter_holds s q x r
      unfolding parameter_holds
      parameter_absent g k = rw (eq-eqb _ 1 g) (ap not (k ∙ ap (λ (m : List ℕ). has_parameter m x) e))

      pub parameter_there : {w : List ℕ} {b : Bool} → (r.flag ≡ 1 → ⊥) → w ≡ text_or s q r.text → b ≡ some_passes r w (values_named n x.parameters)
          → b ≡ parameter_holds s q x r
      unfolding parameter_holds
      parameter_there g y k =
          rw (ne_eqb _ 1 g) (k ∙ values_given y (values_named n x.parameters) ∙ ap (λ (m : List ℕ). some_value s q r (values_named m x.parameters)) e)

  -- ---- one parameter record, where it is one of a property record

  module _ (i k : ℕ) (x : ContentLine) {r : ParameterRecord} (e : r ≡ parameter_at s q k) where
    parameter_as : implies (eqb r.property i) (parameter_holds s q x r) ≡ parameter_passes s q i x k
    unfolding parameter_passes
    parameter_as = ap (λ (y : ParameterRecord). implies (eqb y.property i) (parameter_holds s q x y)) e

    pub parameter_asked : {b : Bool} → r.property ≡ i → b ≡ parameter_holds s q x r → b ≡ parameter_passes s q i x k
    parameter_asked h g = g ∙ ap (λ (t : Bool). implies t (parameter_holds s q x r)) (sym (eq-eqb _ i h)) ∙ parameter_as

    pub parameter_unasked : (r.property ≡ i → ⊥) → true ≡ parameter_passes s q i x k
    parameter_unasked h = ap (λ (t : Bool). implies t (parameter_holds s q x r)) (sym (ne_eqb _ i h)) ∙ parameter_as

  module _ {r : ParameterRecord} (k : ℕ) (g : records_good s q ≡ true) (h : k < q.parameters.count) (e : r ≡ parameter_at s q k) where
    parameter_good_lem : GoodParameter s q r
    parameter_good_lem = subst (GoodParameter s q) (sym e) ((records_say s q g).parameters_good_holds k h)

    pub parameter_name_lem : r.name < q.texts.count
    parameter_name_lem = parameter_good_lem.name_good_holds.is_text

    pub parameter_text : r.text ≤ q.texts.count
    parameter_text = parameter_good_lem.text_there

-- f asks whether g holds of some line
pub record SomeOf (f : List Numbered → Bool) (g : ContentLine → Bool) : Type 0 where
  pub no_line : f [] ≡ false
  pub a_line : (x : Numbered) (xs : List Numbered) → f (x ∷ xs) ≡ (g x.line || f xs)

-- the loop stands at line i of the component of row c, none before passes, and what is left to look through decides
pub record Seeking (f : List Numbered → Bool) (s rows : List ℕ) (c i k j m : ℕ) : Type 0 where
  pub left : ItemsAt s rows i k j m
  pub rest : f (properties_in (items_by s i)) ≡ f (properties_in (component_by s rows c).items)

-- the END line stands before the line behind it
pub row_ends : {s rows : List ℕ} {c e : ℕ} → RowOf s rows c → e ≡ get_or rows (4 * c + 1) 0 → 1 ≤ e
row_ends r q = omega (arith, r.end)

pub seeking_start : (f : List Numbered → Bool) {s rows : List ℕ} {c i e m : ℕ} → RowOf s rows c → i ≡ get_or rows (4 * c) 0 → e ≡ get_or rows (4 * c + 1) 0
    → m ≡ get_or rows (4 * c + 2) 0 → Seeking f s rows c i (c + 1) (e - 1) m
unfolding component_by
seeking_start f {s} {rows} {c} {i} {e} {m} r p q n =
    let z : e - 1 ≡ r.stop = omega (arith, r.end) in
    rw (p, z, n) (record { left = r.inner; rest = refl })

-- the line of a property is known to the index
pub seeking_line : {f : List Numbered → Bool} {s rows index : List ℕ} {c i k j m : ℕ} {a : Item} → Seeking f s rows c i k j m → a ≡ item_by rows i k j m → a ≡ Item.Property
    → Indexed s index → Entry s index i
seeking_line r w e x = x.entries _ (property_at_holds r.left w e).inside

module _ {f : List Numbered → Bool} {g : ContentLine → Bool} (t : SomeOf f g) where
  -- ---- one step

  line_at : {s rows : List ℕ} {i k j m : ℕ} → PropertyAt s rows i k j m
      → f (properties_in (items_by s i)) ≡ (g (line_of (line_bytes s i)) || f (properties_in (items_by s (i + 1))))
  unfolding properties_in numbered_line
  line_at h = ap (λ (x : Items). f (properties_in x)) h.items ∙ t.a_line _ _

  component_at_holds : {s rows : List ℕ} {i k j m next row : ℕ} → InnerAt s rows i k j m next row
      → f (properties_in (items_by s i)) ≡ f (properties_in (items_by s next))
  unfolding properties_in
  component_at_holds h = ap (λ (x : Items). f (properties_in x)) h.items

  nothing_at : (s : List ℕ) (i : ℕ) → items_by s i ≡ none → f (properties_in (items_by s i)) ≡ false
  unfolding properties_in
  nothing_at s i h = ap (λ (x : Items). f (properties_in x)) h ∙ t.no_line

  -- ---- the loop

  -- a is the item at line i
  module _ {s rows : List ℕ} {c i k j m : ℕ} {a : Item} (r : Seeking f s rows c i k j m) (w : a ≡ item_by rows i k j m) where
    module _ {l : List ℕ} {b : Bool} (e : a ≡ Item.Property) (p : l ≡ line_bytes s i) (q : b ≡ g (line_of l)) where
      line_here : (b || f (properties_in (items_by s (i + 1)))) ≡ f (properties_in (component_by s rows c).items)
      line_here =
          ap (λ (x : Bool). x || f (properties_in (items_by s (i + 1)))) (q ∙ ap (λ (x : List ℕ). g (line_of x)) p)
          ∙ sym (line_at (property_at_holds r.left w e))
          ∙ r.rest

      pub seeking_next : b ≡ false → Seeking f s rows c (i + 1) k j m
      seeking_next z =
          record { left = (property_at_holds r.left w e).rest; rest = ap (λ (x : Bool). x || f (properties_in (items_by s (i + 1)))) (sym z) ∙ line_here }

      pub seeking_found : b ≡ true → true ≡ f (properties_in (component_by s rows c).items)
      seeking_found z = ap (λ (x : Bool). x || f (properties_in (items_by s (i + 1)))) (sym z) ∙ line_here

    pub seeking_inner : {next row : ℕ} → a ≡ Item.Inner next row → Seeking f s rows c next row j m
    seeking_inner e = let h = inner_at r.left w e in record { left = h.rest; rest = sym (component_at_holds h) ∙ r.rest }

    pub seeking_end : a ≡ Item.Done → false ≡ f (properties_in (component_by s rows c).items)
    seeking_end e = sym (nothing_at s i (no_item_at r.left w e)) ∙ r.rest

-- both searches ask for one line
pub named_lines : (n : List ℕ) → SomeOf (some_named n) (λ x. same_name x.name n)
unfolding some_named
named_lines n = record { no_line = refl; a_line = λ x xs. refl }

-- a line read in place
pub named_line : (n l : List ℕ) {b : Bool} → b ≡ same_name (name_of l) n → b ≡ same_name (line_of l).name n
unfolding line_of
named_line n l q = q

module _ (s : List ℕ) (q : Sections) where
  module _ (i : ℕ) (r : PropertyRecord) where
    pub holding_lines : SomeOf (some_line s q i r) (line_holds s q i r)
    unfolding some_line
    holding_lines = record { no_line = refl; a_line = λ x xs. refl }

    module _ (l : List ℕ) {n w : List ℕ} {a : Bool} (y : n ≡ text_of s q r.name) (x : w ≡ text_or s q r.text) (z : a ≡ same_name (name_of l) n) where
      line_as : (a && text_holds s q r.text r.collation r.flag (value_of l) && parameters_hold s q i (line_of l)) ≡ line_holds s q i r (line_of l)
      unfolding line_holds line_of
      line_as =
          ap (λ (t : Bool). t && text_holds s q r.text r.collation r.flag (value_of l) && parameters_hold s q i (line_of l))
          (z ∙ ap (same_name (name_of l)) y)

      module _ {m v : List ℕ} {b : Bool} (e : a ≡ true) (d : m ≡ l) (u : v ≡ value_of m) (p : b ≡ text_passes r.text w r.collation r.flag v) where
        text_as : (b && parameters_hold s q i (line_of l)) ≡ line_holds s q i r (line_of l)
        text_as =
            ap (λ (t : Bool). t && parameters_hold s q i (line_of l))
            (p ∙ ap (text_passes r.text w r.collation r.flag) (u ∙ ap value_of d) ∙ text_given s q r.text r.collation r.flag (value_of l) x)
            ∙ ap (λ (t : Bool). t && text_holds s q r.text r.collation r.flag (value_of l) && parameters_hold s q i (line_of l)) (sym e)
            ∙ line_as

        -- its value holds up, and its parameters decide
        pub line_valued : {c : Bool} → b ≡ true → c ≡ parameters_hold s q i (line_of m) → c ≡ line_holds s q i r (line_of l)
        line_valued h k = k ∙ ap (λ (y : List ℕ). parameters_hold s q i (line_of y)) d ∙ ap (λ (t : Bool). t && parameters_hold s q i (line_of l)) (sym h) ∙ text_as

        pub line_failed : b ≡ false → false ≡ line_holds s q i r (line_of l)
        line_failed h = ap (λ (t : Bool). t && parameters_hold s q i (line_of l)) (sym h) ∙ text_as

      pub line_other : a ≡ false → false ≡ line_holds s q i r (line_of l)
      line_other e =
          ap (λ (t : Bool). t && text_holds s q r.text r.collation r.flag (value_of l) && parameters_hold s q i (line_of l)) (sym e)
          ∙ line_as

  module _ (i : ℕ) {r : PropertyRecord} (e : r ≡ property_at s q i) where
    -- ---- one property test
    module _ (xs : List Numbered) where
      pub property_absent : {n : List ℕ} {b : Bool} → n ≡ text_of s q r.name → r.flag ≡ 1 → b ≡ some_named n xs
          → not b ≡ property_holds s q i (property_at s q i) xs
      unfolding property_holds
      property_absent x f g =
          ap not (g ∙ ap (λ (m : List ℕ). some_named m xs) x)
          ∙ ap (λ (t : Bool). cond t (not (some_named (text_of s q r.name) xs)) (some_line s q i r xs)) (sym (eq-eqb _ 1 f))
          ∙ ap (λ (y : PropertyRecord). cond (eqb y.flag 1) (not (some_named (text_of s q y.name) xs)) (some_line s q i y xs)) e

      pub property_there : {b : Bool} → (r.flag ≡ 1 → ⊥) → b ≡ some_line s q i r xs → b ≡ property_holds s q i (property_at s q i) xs
      unfolding property_holds
      property_there f g =
          g
          ∙ ap (λ (t : Bool). cond t (not (some_named (text_of s q r.name) xs)) (some_line s q i r xs)) (sym (ne_eqb _ 1 f))
          ∙ ap (λ (y : PropertyRecord). cond (eqb y.flag 1) (not (some_named (text_of s q y.name) xs)) (some_line s q i y xs)) e

      -- ---- one property record, where it is one of a component record
      module _ (k : ℕ) where
        property_as : implies (eqb r.component k) (property_holds s q i (property_at s q i) xs) ≡ property_passes s q k xs i
        unfolding property_passes
        property_as = ap (λ (y : PropertyRecord). implies (eqb y.component k) (property_holds s q i (property_at s q i) xs)) e

        pub property_asked : {b : Bool} → r.component ≡ k → b ≡ property_holds s q i (property_at s q i) xs → b ≡ property_passes s q k xs i
        property_asked h g =
            g ∙ ap (λ (t : Bool). implies t (property_holds s q i (property_at s q i) xs)) (sym (eq-eqb _ k h)) ∙ property_as

        pub property_unasked : (r.component ≡ k → ⊥) → true ≡ property_passes s q k xs i
        property_unasked h = ap (λ (t : Bool). implies t (property_holds s q i (property_at s q i) xs)) (sym (ne_eqb _ k h)) ∙ property_as

    -- ---- what a good query gives
    module _ (g : records_good s q ≡ true) (h : i < q.properties.count) where
      property_good_lem : GoodProperty s q i r
      property_good_lem = subst (GoodProperty s q i) (sym e) ((records_say s q g).properties_good_holds i h)

      pub property_name_lem : r.name < q.texts.count
      property_name_lem = property_good_lem.name_good_holds.is_text

      pub property_text : r.text ≤ q.texts.count
      property_text = property_good_lem.text_there
