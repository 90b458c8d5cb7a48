-- Laws of the tests: of one record, from the parts that were computed to the test,
-- and of the query as a whole, when it is refused and by which number.
use Rattle.std.specs.Prelude.{Err, None, Ok, Option, Some}
use Prim.Native.Nat.{ℕ, zero, suc, ◌≤◌, ◌<◌}
use Rattle.query_check.specs.declared.QueryError.{QueryError}
use mathlib.Core.Bool.{Bool, ◌&&◌, true, false, not, ◌||◌, and-false}
use mathlib.Core.List.{List}
use mathlib.Core.Path.{◌≡◌, refl, ap, ◌∙◌, subst}
use native.Mathlib.Omega.{arith}
use lib.Dec.{eqb, ltb, leb}
use lib.ListN.{length}
use borrow.Author.Tests.{ltb-true, lt-ltb, le-ltb}
use Rattle.ascii.specs.Names.{is_name, same_name}
use Rattle.ascii.specs.Words.{ascii}
use Rattle.ascii.proofs.Bools.{and_left, and_right, clash}
use Rattle.query.specs.Records.{component_at, property_at, parameter_at, text_of}
use Rattle.query.specs.declared.Sections.{Sections}
use Rattle.query.specs.declared.ComponentRecord.{ComponentRecord}
use Rattle.query.specs.Fits.{Fits}
use Rattle.query.specs.Sections.{sections_of}
use Rattle.query.proofs.Counting.{every_at}
use Rattle.query.proofs.LayoutLaws.{sections_fit}
use Rattle.query_check.specs.WellFormed.{component_good, property_good, parameter_good, component_misplaced, name_good, has_child_component, has_property, parent_good}
use Rattle.query_check.specs.WellFormed.{ranges_good, components_good, properties_good, parameters_good, records_good, sections_good, query_good, range_misplaced, placed}
use Rattle.query_check.specs.WellFormed.{query_read, ReadSays}

-- ---- the tests that are made of one record of a section

module _ (s : List ℕ) (q : Sections) where
  abbrev pub child_of : ℕ → ℕ → Bool
  child_of i = λ k. ltb 0 k && eqb (component_at s q k).parent i

  abbrev pub property_of : ℕ → ℕ → Bool
  property_of i = λ k. eqb (property_at s q k).component i

  abbrev pub parameter_of : ℕ → ℕ → Bool
  parameter_of i = λ k. eqb (parameter_at s q k).property i

  abbrev pub component_holds : ℕ → Bool
  component_holds = λ k. component_good s q k (component_at s q k)

  abbrev pub property_holds : ℕ → Bool
  property_holds = λ k. property_good s q k (property_at s q k)

  abbrev pub parameter_holds : ℕ → Bool
  parameter_holds = λ k. parameter_good s q (parameter_at s q k)

  abbrev pub component_off : ℕ → Bool
  component_off = λ k. component_misplaced s q (component_at s q k)

  abbrev pub property_off : ℕ → Bool
  property_off = λ k. ltb 0 (property_at s q k).range

-- ---- one record

module _ (s : List ℕ) (q : Sections) where
  -- a name by its text
  pub name_there : {t : List ℕ} {r : Bool} (n : ℕ) → n < q.texts.count → t ≡ text_of s q n → r ≡ is_name t → r ≡ name_good s q n
  unfolding name_good
  name_there n h e k = rw (lt-ltb n q.texts.count h) (k ∙ ap is_name e)

  pub name_absent : (n : ℕ) → q.texts.count ≤ n → name_good s q n ≡ false
  unfolding name_good
  name_absent n h = rw (le-ltb n q.texts.count h)

  -- a good name is the number of a text
  pub name_below : (n : ℕ) → name_good s q n ≡ true → n < q.texts.count
  unfolding name_good
  name_below n e = ltb-true n q.texts.count (and_left _ (is_name (text_of s q n)) e)

  -- component 0, and any other
  pub parent_first : {t : List ℕ} {b : Bool} (i : ℕ) (r : ComponentRecord) → i ≡ 0 → t ≡ text_of s q r.name
      → b ≡ same_name t (ascii "VCALENDAR")
      → (eqb r.parent 0 && b && eqb r.flag 0) ≡ parent_good s q i r
  unfolding parent_good
  parent_first zero r z e k = rw (k, e)
  parent_first (suc i) r z e k = absurd (omega arith)

  pub parent_other : (i : ℕ) (r : ComponentRecord) → (i ≡ 0 → ⊥) → ltb r.parent i ≡ parent_good s q i r
  unfolding parent_good
  parent_other zero r z = absurd (z refl)
  parent_other (suc i) r z = refl

  -- a component with a name, and one without
  pub component_named : {a b g : Bool} (i : ℕ) (r : ComponentRecord) → name_good s q r.name ≡ true → a ≡ has_child_component s q i
      → b ≡ has_property s q i
      → g ≡ parent_good s q i r
      → (leb r.range q.ranges.count && leb r.flag 1 && g && (not (eqb r.flag 1) || (eqb r.range 0 && not (a || b))))
      ≡ component_good s q i r
  unfolding component_good
  component_named i r n e k h = rw (n, e, k, h)

  pub component_unnamed : (i : ℕ) (r : ComponentRecord) → name_good s q r.name ≡ false → component_good s q i r ≡ false
  unfolding component_good
  component_unnamed i r n = rw n

  -- a good component has a good name
  pub component_name : (i : ℕ) (r : ComponentRecord) → component_good s q i r ≡ true → name_good s q r.name ≡ true
  component_name i r e = go (name_good s q r.name) refl
    where
      go : (t : Bool) → name_good s q r.name ≡ t → name_good s q r.name ≡ true
      go true k = k
      go false k = clash e (component_unnamed i r k)

  pub component_off_holds : {t : List ℕ} {a b : Bool} (r : ComponentRecord) → t ≡ text_of s q r.name → a ≡ same_name t (ascii "VEVENT")
      → b ≡ same_name t (ascii "VFREEBUSY")
      → (ltb 0 r.range && not (a || b)) ≡ component_misplaced s q r
  unfolding component_misplaced
  component_off_holds r e k h = rw (k, h, e)

  -- where every record is good, each component's name is the number of a text
  pub component_text : {r : ComponentRecord} (i : ℕ) → records_good s q ≡ true → i < q.components.count → r ≡ component_at s q i
      → r.name < q.texts.count
  unfolding records_good components_good
  component_text {r} i e h k =
      let good : components_good s q ≡ true = and_right (ranges_good s q) _ (and_left _ (properties_good s q) (and_left _ (parameters_good s q) e)) in
      let at_i : component_good s q i (component_at s q i) ≡ true = every_at (λ j. component_good s q j (component_at s q j)) q.components.count i h good in
      rw k (name_below (component_at s q i).name (component_name i (component_at s q i) at_i))

-- ---- the query as a whole

module _ (s : List ℕ) where
  -- a query with its sections, and one without
  pub query_of : {q : Sections} {r : Bool} → sections_of s ≡ Some q → r ≡ records_good s q
      → (leb (length s) 4096 && (eqb q.end (length s) && r)) ≡ query_good s
  unfolding query_good sections_good
  query_of e k = rw (e, k)

  pub query_none : sections_of s ≡ None → query_good s ≡ false
  unfolding query_good sections_good
  query_none e = rw e (and-false (leb (length s) 4096))

  -- every record of a good query is good
  pub query_records : (q : Sections) → sections_of s ≡ Some q → query_good s ≡ true → records_good s q ≡ true
  query_records q e g =
      and_right (eqb q.end (length s)) (records_good s q) (and_right (leb (length s) 4096) _ (query_of e refl ∙ g))

  -- the three answers
  pub read_bad : query_good s ≡ false → query_read s ≡ Err QueryError.Bad
  unfolding query_read
  read_bad g = rw g

  module _ (q : Sections) (e : sections_of s ≡ Some q) (g : query_good s ≡ true) where
    pub read_misplaced : range_misplaced s q ≡ true → query_read s ≡ Err QueryError.Misplaced
    unfolding query_read placed
    read_misplaced m = rw (g, e, m)

    pub read_of : range_misplaced s q ≡ false → query_read s ≡ Ok q
    unfolding query_read placed
    read_of m = rw (g, e, m)

  -- and what each says: 4 exactly where the query is not good, 5 where it is good and a range is misplaced
  placed_says : (r : Option Sections) → sections_of s ≡ r → query_good s ≡ true → ReadSays s (query_read s)
  placed_says None e g = clash g (query_none e)
  placed_says (Some q) e g = go (range_misplaced s q) refl
    where
      go : (m : Bool) → range_misplaced s q ≡ m → ReadSays s (query_read s)
      go true m = rw (read_misplaced q e g m) (g, q, e, m)
      go false m = rw (read_of q e g m) (g, e, m)

  pub read_says : ReadSays s (query_read s)
  read_says = go (query_good s) refl
    where
      go : (g : Bool) → query_good s ≡ g → ReadSays s (query_read s)
      go true g = placed_says (sections_of s) refl g
      go false g = rw (read_bad g) g

  -- the sections of a query that is answered with them lie inside it
  pub read_fits : (q : Sections) → query_read s ≡ Ok q → Fits s q
  read_fits q e = let h : ReadSays s (Ok q) = subst (ReadSays s) e read_says in sections_fit s q h.1

  -- and its records are good
  pub read_records : (q : Sections) → query_read s ≡ Ok q → records_good s q ≡ true
  read_records q e = let h : ReadSays s (Ok q) = subst (ReadSays s) e read_says in query_records q h.1 h.0
