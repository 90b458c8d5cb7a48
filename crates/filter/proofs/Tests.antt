-- Laws of the component tests: of one component, of all that stand side by side, and of the records of one parent.
use Prim.Native.Nat.{ℕ, suc, ◌+◌, ◌-◌, ◌*◌, ◌≤◌, ◌<◌}
use mathlib.Core.Path.{◌≡◌, refl, sym, ap, ◌∙◌, subst}
use mathlib.Core.Bool.{Bool, true, false, cond, not, ◌&&◌, ◌||◌}
use mathlib.Core.List.{List, [], ◌∷◌}
use native.Mathlib.Omega.{arith}
use lib.Dec.{eqb}
use lib.ListN.{get_or}
use borrow.Author.Tests.{eq-eqb, ne_eqb}
use Rattle.ascii.specs.Names.{same_name}
use Rattle.query.specs.Fits.{Fits}
use Rattle.query.specs.Records.{text_of, component_at}
use Rattle.query.specs.Counting.{implies}
use Rattle.query.specs.declared.Sections.{Sections}
use Rattle.query.specs.declared.ComponentRecord.{ComponentRecord}
use Rattle.query_check.specs.QueryRules.{GoodComponent}
use Rattle.query_check.specs.WellFormed.{records_good}
use Rattle.query_check.proofs.QueryRules.{records_say}
use Rattle.values.specs.declared.times.Context.{Context}
use Rattle.nesting.specs.Components.{Component}
use Rattle.nesting.specs.Files.{tree_in}
use Rattle.structure.specs.Rows.{FileRows, component_by, components_by, numbered_line, ComponentsAt, RowOf}
use Rattle.structure.proofs.RowsLaws.{file_top, NextComponent, components_next, components_none}
use Rattle.line.specs.Reading.{value_of, line_of}
use Rattle.index.specs.Index.{line_bytes, Entry, Indexed}
use Rattle.filter.specs.Tests.{Whole, whole_of, some_component_named, some_component, component_holds, children_hold, component_test, query_holds}

-- ---- what a good query gives

module _ (p : List ℕ) (q : Sections) {r : ComponentRecord} (j : ℕ) (g : records_good p q ≡ true) (h : j < q.components.count) (e : r ≡ component_at p q j) where
  component_good_holds : GoodComponent p q j r
  component_good_holds = subst (GoodComponent p q j) (sym e) ((records_say p q g).components_good_holds j h)

  pub component_name : r.name < q.texts.count
  component_name = component_good_holds.name_good_holds.is_text

  pub component_range : r.range ≤ q.ranges.count
  component_range = component_good_holds.range_there

-- its name, as it was looked up
pub record_name : (p : List ℕ) (q : Sections) (j : ℕ) {r : ComponentRecord} {w : List ℕ} → r ≡ component_at p q j → w ≡ text_of p q r.name
    → w ≡ text_of p q (component_at p q j).name
record_name p q j e x = x ∙ ap (λ (y : ComponentRecord). text_of p q y.name) e

-- ---- the loops over components side by side

-- what the components from row k on decide is what those from row `first` on do
pub record Beside (f : List Component → Bool) (s rows : List ℕ) (first m k : ℕ) : Type 0 where
  pub left : ComponentsAt s rows k m
  pub rest : f (components_by s rows k m) ≡ f (components_by s rows first m)

pub beside_start : (f : List Component → Bool) {s rows : List ℕ} {first m : ℕ} → ComponentsAt s rows first m → Beside f s rows first m first
beside_start f h = record { left = h; rest = refl }

module _ {f : List Component → Bool} {s rows : List ℕ} {first m k : ℕ} (r : Beside f s rows first m k) where
  pub beside_here : k < m → NextComponent s rows k m
  beside_here h = components_next r.left h

  pub beside_next : {n : ℕ} → k < m → n ≡ get_or rows (4 * k + 2) 0 → ((ks : List Component) → f (component_by s rows k ∷ ks) ≡ f ks)
      → Beside f s rows first m n
  beside_next h q w =
      rw q (record { left = (beside_here h).after; rest = sym (w _) ∙ ap f (sym (beside_here h).list) ∙ r.rest })

  pub beside_found : k < m → ((ks : List Component) → f (component_by s rows k ∷ ks) ≡ true) → true ≡ f (components_by s rows first m)
  beside_found h w = sym (w _) ∙ ap f (sym (beside_here h).list) ∙ r.rest

  pub beside_end : m ≤ k → f [] ≡ f (components_by s rows first m)
  beside_end h = ap f (sym (components_none s rows h)) ∙ r.rest

-- ---- the name of a component

module _ {s rows : List ℕ} {k : ℕ} (r : RowOf s rows k) where
  pub begin_some : {i : ℕ} → i ≡ get_or rows (4 * k) 0 → 1 ≤ i
  begin_some q = omega (arith, r.some)

  pub begin_entry : {index : List ℕ} {i : ℕ} → Indexed s index → i ≡ get_or rows (4 * k) 0 → Entry s index (i - 1)
  begin_entry {index} {i} x q = x.entries (i - 1) (omega (arith, r.some, r.begin_inside))

pub begin_named : (n s rows : List ℕ) (k : ℕ) {i : ℕ} {l v : List ℕ} {b : Bool} → i ≡ get_or rows (4 * k) 0 → l ≡ line_bytes s (i - 1) → v ≡ value_of l → b ≡ same_name v n
    → b ≡ same_name (component_by s rows k).begin.line.value n
unfolding component_by numbered_line line_of
begin_named n s rows k q x y z =
    z
    ∙ ap (λ (w : List ℕ). same_name w n) y
    ∙ ap (λ (w : List ℕ). same_name (value_of w) n) x
    ∙ ap (λ (w : ℕ). same_name (value_of (line_bytes s (w - 1))) n) q

-- ---- a component of the name

module _ (n : List ℕ) (x : Component) {b : Bool} (w : b ≡ same_name x.begin.line.value n) where
  named_here : (ks : List Component) → some_component_named n (x ∷ ks) ≡ (b || some_component_named n ks)
  unfolding some_component_named
  named_here ks = ap (λ (t : Bool). t || some_component_named n ks) (sym w)

  pub component_named : b ≡ true → (ks : List Component) → some_component_named n (x ∷ ks) ≡ true
  component_named z ks = named_here ks ∙ ap (λ (t : Bool). t || some_component_named n ks) z

  pub component_other : b ≡ false → (ks : List Component) → some_component_named n (x ∷ ks) ≡ some_component_named n ks
  component_other z ks = named_here ks ∙ ap (λ (t : Bool). t || some_component_named n ks) z

pub no_component : (n : List ℕ) → false ≡ some_component_named n []
unfolding some_component_named
no_component n = refl

-- ---- the components side by side: some one passes

module _ (c : Whole) (p : List ℕ) (q : Sections) (j : ℕ) where
  unfoldable pub some_here : List Component → Bool
  some_here ks = some_component c p q j (component_at p q j) (λ i. children_hold c p q (q.components.count - suc j) j i) ks

  pub here_none : false ≡ some_here []
  unfolding some_here some_component
  here_none = refl

  -- ---- the test of the record

  module _ (ks : List Component) {r : ComponentRecord} (e : r ≡ component_at p q j) where
    test_as : cond (eqb r.flag 1) (not (some_component_named (text_of p q r.name) ks)) (some_here ks) ≡ component_test c p q j ks
    unfolding component_test component_holds some_here
    test_as = ap (λ (x : ComponentRecord). cond (eqb x.flag 1) (not (some_component_named (text_of p q x.name) ks)) (some_here ks)) e

    pub test_absent : {w : List ℕ} {b : Bool} → r.flag ≡ 1 → w ≡ text_of p q r.name → b ≡ some_component_named w ks → not b ≡ component_test c p q j ks
    test_absent f x y =
        ap not (y ∙ ap (λ (n : List ℕ). some_component_named n ks) x)
        ∙ ap (λ (t : Bool). cond t (not (some_component_named (text_of p q r.name) ks)) (some_here ks)) (sym (eq-eqb _ 1 f))
        ∙ test_as

    pub test_there : {b : Bool} → (r.flag ≡ 1 → ⊥) → b ≡ some_here ks → b ≡ component_test c p q j ks
    test_there f y =
        y ∙ ap (λ (t : Bool). cond t (not (some_component_named (text_of p q r.name) ks)) (some_here ks)) (sym (ne_eqb _ 1 f)) ∙ test_as

pub child_as : (c : Whole) (p : List ℕ) (q : Sections) (s rows : List ℕ) (i k : ℕ) {n : ℕ} {b : Bool} → n ≡ get_or rows (4 * k + 2) 0
    → b ≡ component_test c p q i (components_by s rows (k + 1) n) → b ≡ component_test c p q i (components_by s rows (k + 1) (get_or rows (4 * k + 2) 0))
child_as c p q s rows i k e h = h ∙ ap (λ (m : ℕ). component_test c p q i (components_by s rows (k + 1) m)) e

-- ---- the records of one parent: all before k hold

module _ (c : Whole) (p : List ℕ) (q : Sections) (parent : ℕ) (ks : List Component) where
  abbrev left : ℕ → Bool
  left k = children_hold c p q (q.components.count - k) parent ks

  -- the first of the records that are left, and the others
  children_next : (k : ℕ) → k < q.components.count
      → left k ≡ (implies (eqb (component_at p q k).parent parent) (component_test c p q k ks) && left (k + 1))
  unfolding children_hold component_test
  children_next k h =
      let n = q.components.count in
      let m : n - k ≡ suc (n - (k + 1)) = omega arith in
      let d : n - suc (n - (k + 1)) ≡ k = omega arith in
      let u : n - (k + 1) ≡ n - suc k = omega arith in
      ap (λ (x : ℕ). children_hold c p q x parent ks) m
      ∙ ap
      (λ (x : ℕ). implies (eqb (component_at p q x).parent parent) (component_holds c p q x (component_at p q x) (λ y. children_hold c p q (n - (k + 1)) x y) ks) && left (k + 1))
      d
      ∙ ap
      (λ (x : ℕ). implies (eqb (component_at p q k).parent parent) (component_holds c p q k (component_at p q k) (λ y. children_hold c p q x k y) ks) && left (k + 1))
      u

  pub record Descending (from k : ℕ) : Type 0 where
    pub onward : from ≤ k
    pub within : k ≤ q.components.count
    pub rest : left k ≡ left from

  pub descending_start : (from : ℕ) → from ≤ q.components.count → Descending from from
  descending_start from h = record { onward = omega arith; within = h; rest = refl }

  module _ {from k : ℕ} (w : Descending from k) where
    module _ {r : ComponentRecord} (h : k < q.components.count) (e : r ≡ component_at p q k) where
      record_here : (implies (eqb r.parent parent) (component_test c p q k ks) && left (k + 1)) ≡ left from
      record_here =
          ap (λ (x : ComponentRecord). implies (eqb x.parent parent) (component_test c p q k ks) && left (k + 1)) e
          ∙ sym (children_next k h)
          ∙ w.rest

      pub descending_other : (r.parent ≡ parent → ⊥) → Descending from (k + 1)
      descending_other f =
          record {
            onward = omega (arith, w.onward);
            within = omega arith;
            rest = ap (λ (x : Bool). implies x (component_test c p q k ks) && left (k + 1)) (sym (ne_eqb _ parent f)) ∙ record_here;
          }

      module _ {b : Bool} (f : r.parent ≡ parent) (y : b ≡ component_test c p q k ks) where
        child_here : (b && left (k + 1)) ≡ left from
        child_here =
            ap (λ (x : Bool). x && left (k + 1)) y
            ∙ ap (λ (x : Bool). implies x (component_test c p q k ks) && left (k + 1)) (sym (eq-eqb _ parent f))
            ∙ record_here

        pub descending_next : b ≡ true → Descending from (k + 1)
        descending_next z =
            record {
              onward = omega (arith, w.onward);
              within = omega arith;
              rest = ap (λ (x : Bool). x && left (k + 1)) (sym z) ∙ child_here;
            }

        pub descending_stop : b ≡ false → false ≡ left from
        descending_stop z = ap (λ (x : Bool). x && left (k + 1)) (sym z) ∙ child_here

    pub descending_end : q.components.count ≤ k → true ≡ left from
    unfolding children_hold
    descending_end h =
        let z : 0 ≡ q.components.count - k = omega arith in
        ap (λ (x : ℕ). children_hold c p q x parent ks) z ∙ w.rest

-- ---- the query on a file

pub first_record : {p : List ℕ} {q : Sections} → Fits p q → 0 < q.components.count
first_record h = omega (arith, h.components_some)

module _ {s index rows : List ℕ} (h : FileRows s index rows) where
  pub query_as : (c : Context) (p : List ℕ) (q : Sections) {n : ℕ} {t : Bool} → n ≡ get_or rows 2 0 → t ≡ component_test (whole_of c (tree_in s)) p q 0 (components_by s rows 0 n)
      → t ≡ query_holds c p q (tree_in s)
  unfolding query_holds
  query_as c p q e w =
      w ∙ ap (λ (m : ℕ). component_test (whole_of c (tree_in s)) p q 0 (components_by s rows 0 m)) e ∙ ap (component_test (whole_of c (tree_in s)) p q 0) (sym (file_top h))
