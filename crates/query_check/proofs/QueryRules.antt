-- The theorems for the reader: `query_good` holds of exactly the queries that are well formed sentence by sentence, and
-- `range_misplaced` fails of exactly those whose ranges all stand where they may.
use Rattle.std.specs.Prelude.{None, Option, Some}
use Prim.Native.Nat.{ℕ, zero, suc, ◌<◌}
use mathlib.Core.Path.{◌≡◌, refl, sym, ap, ◌∙◌}
use mathlib.Core.Bool.{Bool, true, false, not, ◌&&◌, ◌||◌}
use mathlib.Core.Logic.{◌↔◌, ◌⊎◌, inl, inr, ⊎_elim}
use mathlib.Core.List.{List}
use native.Mathlib.Omega.{arith}
use lib.Dec.{eqb, ltb, leb}
use lib.ListN.{length}
use borrow.Author.Tests.{ltb-true, ltb-false, le-ltb, leb-true, eqb-true, lt-ltb, le-leb, eq-eqb, ne_eqb, not-true, not-false}
use Rattle.time.specs.Limits.{last_second, range_good}
use Rattle.ascii.specs.Names.{is_name, same_name}
use Rattle.ascii.specs.Words.{ascii}
use Rattle.std.proofs.lemmas.Bool.{or_cases}
use Rattle.ascii.proofs.Bools.{and_left, and_right, and_both, or_left, or_right, or_neither, or_by_left, or_by_right, clash, not_so}
use Rattle.ascii.proofs.Names.{same_name_iff}
use Rattle.query.specs.Records.{range_start, range_end, text_of, component_at, property_at, parameter_at}
use Rattle.query.specs.Sections.{sections_of}
use Rattle.query.specs.Counting.{implies}
use Rattle.query.specs.declared.Sections.{Sections}
use Rattle.query.specs.declared.ComponentRecord.{ComponentRecord}
use Rattle.query.specs.declared.PropertyRecord.{PropertyRecord}
use Rattle.query.specs.declared.ParameterRecord.{ParameterRecord}
use Rattle.query.proofs.Counting.{every_at, every_all, none_at, none_all}
use Rattle.query.proofs.LayoutLaws.{layout_of, layout_sections}
use Rattle.query_check.specs.QueryRules.{Spells, GoodRange, GoodName, GoodFlag, CalendarRecord, AloneComponent, GoodComponent, GoodProperty, GoodParameter, GoodRecords, WellFormedQuery, WellPlaced}
use Rattle.query_check.specs.WellFormed.{range_record_good, name_good, has_child_component, has_property, has_parameter_record, parent_good, component_good, flag_good, property_good, parameter_good, ranges_good, components_good, properties_good, parameters_good, records_good, query_good, component_misplaced, components_misplaced, properties_misplaced, range_misplaced}
use Rattle.query_check.proofs.WellFormed.{child_of, property_of, parameter_of, component_holds, property_holds, parameter_holds, component_off, property_off, query_of, query_none}

-- a test that must hold where another does
implied : (a b : Bool) → implies a b ≡ true → a ≡ true → b ≡ true
implied true b e h = e
implied false b e h = clash h refl

implied_from : (a b : Bool) → (a ≡ true → b ≡ true) → implies a b ≡ true
implied_from true b h = h refl
implied_from false b h = refl

-- flags
flag_says : (flag text : ℕ) → flag_good flag text ≡ true → GoodFlag flag text
flag_says flag text e =
    let front = and_left (leb flag 2 && implies (eqb flag 1) (eqb text 0)) (implies (eqb flag 2) (ltb 0 text)) e in
    record {
      known = leb-true flag 2 (and_left (leb flag 2) (implies (eqb flag 1) (eqb text 0)) front);
      absent_no_text =
          λ h.
          eqb-true text 0
          (implied (eqb flag 1) (eqb text 0) (and_right (leb flag 2) (implies (eqb flag 1) (eqb text 0)) front) (eq-eqb flag 1 h));
      negated_text =
          λ h.
          ltb-true 0 text
          (implied (eqb flag 2) (ltb 0 text)
          (and_right (leb flag 2 && implies (eqb flag 1) (eqb text 0)) (implies (eqb flag 2) (ltb 0 text)) e)
          (eq-eqb flag 2 h));
    }

flag_tests : (flag text : ℕ) → GoodFlag flag text → flag_good flag text ≡ true
flag_tests flag text g =
    and_both
    (and_both (le-leb flag 2 g.known)
    (implied_from (eqb flag 1) (eqb text 0) (λ h. eq-eqb text 0 (g.absent_no_text (eqb-true flag 1 h)))))
    (implied_from (eqb flag 2) (ltb 0 text) (λ h. lt-ltb 0 text (g.negated_text (eqb-true flag 2 h))))

module _ (s : List ℕ) (q : Sections) where
  range_says : (i : ℕ) → range_record_good s q i ≡ true → GoodRange s q i
  unfolding range_record_good range_good
  range_says i e =
      record {
        start_first = ltb-true _ _ (and_left (ltb (range_start s q i) (range_end s q i)) (leb (range_end s q i) last_second) e);
        end_limit = leb-true _ _ (and_right (ltb (range_start s q i) (range_end s q i)) (leb (range_end s q i) last_second) e);
      }

  range_tests : (i : ℕ) → GoodRange s q i → range_record_good s q i ≡ true
  unfolding range_record_good range_good
  range_tests i g = and_both (lt-ltb _ _ g.start_first) (le-leb _ _ g.end_limit)

  name_says : (n : ℕ) → name_good s q n ≡ true → GoodName s q n
  unfolding name_good
  name_says n e =
      record {
        is_text = ltb-true _ _ (and_left (ltb n q.texts.count) (is_name (text_of s q n)) e);
        is_name_holds = and_right (ltb n q.texts.count) (is_name (text_of s q n)) e;
      }

  name_tests : (n : ℕ) → GoodName s q n → name_good s q n ≡ true
  unfolding name_good
  name_tests n g = and_both (lt-ltb _ _ g.is_text) g.is_name_holds

  -- children
  no_child_says : (i : ℕ) → has_child_component s q i ≡ false → (k : ℕ) → 0 < k → k < q.components.count → (component_at s q k).parent ≡ i → ⊥
  unfolding has_child_component
  no_child_says i e k p h m =
      clash (and_both (lt-ltb 0 k p) (eq-eqb (component_at s q k).parent i m)) (none_at (child_of s q i) q.components.count k h e)

  no_child_tests : (i : ℕ) → ((k : ℕ) → 0 < k → k < q.components.count → (component_at s q k).parent ≡ i → ⊥) → has_child_component s q i ≡ false
  unfolding has_child_component
  no_child_tests i f =
      none_all (child_of s q i) q.components.count
      (λ k h. not_so (child_of s q i k)
      (λ e. f k (ltb-true 0 k (and_left (ltb 0 k) _ e)) h (eqb-true (component_at s q k).parent i (and_right (ltb 0 k) _ e))))

  no_property_says : (i : ℕ) → has_property s q i ≡ false → (k : ℕ) → k < q.properties.count → (property_at s q k).component ≡ i → ⊥
  unfolding has_property
  no_property_says i e k h m = clash (eq-eqb (property_at s q k).component i m) (none_at (property_of s q i) q.properties.count k h e)

  no_property_tests : (i : ℕ) → ((k : ℕ) → k < q.properties.count → (property_at s q k).component ≡ i → ⊥) → has_property s q i ≡ false
  unfolding has_property
  no_property_tests i f = none_all (property_of s q i) q.properties.count (λ k h. ne_eqb (property_at s q k).component i (f k h))

  no_parameter_says : (i : ℕ) → has_parameter_record s q i ≡ false → (k : ℕ) → k < q.parameters.count → (parameter_at s q k).property ≡ i → ⊥
  unfolding has_parameter_record
  no_parameter_says i e k h m = clash (eq-eqb (parameter_at s q k).property i m) (none_at (parameter_of s q i) q.parameters.count k h e)

  no_parameter_tests : (i : ℕ) → ((k : ℕ) → k < q.parameters.count → (parameter_at s q k).property ≡ i → ⊥) → has_parameter_record s q i ≡ false
  unfolding has_parameter_record
  no_parameter_tests i f = none_all (parameter_of s q i) q.parameters.count (λ k h. ne_eqb (parameter_at s q k).property i (f k h))

  -- where a component stands
  calendar_says : (r : ComponentRecord) → parent_good s q 0 r ≡ true → CalendarRecord s q r
  unfolding parent_good Spells
  calendar_says r e =
      let front = and_left (eqb r.parent 0 && same_name (text_of s q r.name) (ascii "VCALENDAR")) (eqb r.flag 0) e in
      record {
        parent_zero = eqb-true r.parent 0 (and_left (eqb r.parent 0) (same_name (text_of s q r.name) (ascii "VCALENDAR")) front);
        named = (same_name_iff _ _).0 (and_right (eqb r.parent 0) (same_name (text_of s q r.name) (ascii "VCALENDAR")) front);
        flag_zero = eqb-true r.flag 0 (and_right (eqb r.parent 0 && same_name (text_of s q r.name) (ascii "VCALENDAR")) (eqb r.flag 0) e);
      }

  parent_says : (i : ℕ) (r : ComponentRecord) → parent_good s q i r ≡ true → (i ≡ 0 → CalendarRecord s q r) × (0 < i → r.parent < i)
  unfolding parent_good
  parent_says zero r e = (λ z. calendar_says r e, λ h. absurd (omega arith))
  parent_says (suc i) r e = (λ z. absurd (omega arith), λ h. ltb-true r.parent (suc i) e)

  parent_tests : (i : ℕ) (r : ComponentRecord) → (i ≡ 0 → CalendarRecord s q r) → (0 < i → r.parent < i) → parent_good s q i r ≡ true
  unfolding parent_good Spells
  parent_tests zero r f g =
      let c = f refl in
      and_both (and_both (eq-eqb _ _ c.parent_zero) ((same_name_iff _ _).1 c.named)) (eq-eqb _ _ c.flag_zero)
  parent_tests (suc i) r f g = lt-ltb r.parent (suc i) (g (omega arith))

  -- a component
  alone_says : (i : ℕ) (r : ComponentRecord) → (eqb r.range 0 && not (has_child_component s q i || has_property s q i)) ≡ true → AloneComponent s q i r
  alone_says i r e =
      let neither : (has_child_component s q i || has_property s q i) ≡ false
      = not-true _ (and_right (eqb r.range 0) (not (has_child_component s q i || has_property s q i)) e)
      in
      record {
        no_range = eqb-true r.range 0 (and_left (eqb r.range 0) (not (has_child_component s q i || has_property s q i)) e);
        no_component = no_child_says i (or_left (has_child_component s q i) (has_property s q i) neither);
        no_property = no_property_says i (or_right (has_child_component s q i) (has_property s q i) neither);
      }

  alone_tests : (i : ℕ) (r : ComponentRecord) → AloneComponent s q i r → (eqb r.range 0 && not (has_child_component s q i || has_property s q i)) ≡ true
  alone_tests i r a =
      and_both (eq-eqb _ _ a.no_range) (ap not (or_neither (no_child_tests i a.no_component) (no_property_tests i a.no_property)))

  component_says : (i : ℕ) (r : ComponentRecord) → component_good s q i r ≡ true → GoodComponent s q i r
  unfolding component_good
  component_says i r e =
      let n = name_good s q r.name in
      let g = leb r.range q.ranges.count in
      let f = leb r.flag 1 in
      let t = parent_good s q i r in
      let a = eqb r.range 0 && not (has_child_component s q i || has_property s q i) in
      let four : (n && g && f && t) ≡ true = and_left (n && g && f && t) (implies (eqb r.flag 1) a) e in
      let three : (n && g && f) ≡ true = and_left (n && g && f) t four in
      let two : (n && g) ≡ true = and_left (n && g) f three in
      let parent = parent_says i r (and_right (n && g && f) t four) in
      record {
        name_good_holds = name_says r.name (and_left n g two);
        range_there = leb-true _ _ (and_right n g two);
        flag_known = leb-true _ _ (and_right (n && g) f three);
        first = parent.0;
        parent_smaller = parent.1;
        alone =
            λ h. alone_says i r (implied (eqb r.flag 1) a (and_right (n && g && f && t) (implies (eqb r.flag 1) a) e) (eq-eqb _ _ h));
      }

  component_tests : (i : ℕ) (r : ComponentRecord) → GoodComponent s q i r → component_good s q i r ≡ true
  unfolding component_good
  component_tests i r g =
      and_both
      (and_both
      (and_both (and_both (name_tests r.name g.name_good_holds) (le-leb _ _ g.range_there)) (le-leb _ _ g.flag_known))
      (parent_tests i r g.first g.parent_smaller))
      (implied_from (eqb r.flag 1) _ (λ h. alone_tests i r (g.alone (eqb-true _ _ h))))

  -- a property
  property_says : (i : ℕ) (r : PropertyRecord) → property_good s q i r ≡ true → GoodProperty s q i r
  unfolding property_good
  property_says i r e =
      let o = ltb r.component q.components.count in
      let n = name_good s q r.name in
      let g = leb r.range q.ranges.count in
      let t = leb r.text q.texts.count in
      let c = leb r.collation 1 in
      let f = flag_good r.flag r.text in
      let a = eqb r.range 0 && not (has_parameter_record s q i) in
      let six : (o && n && g && t && c && f) ≡ true = and_left (o && n && g && t && c && f) (implies (eqb r.flag 1) a) e in
      let five : (o && n && g && t && c) ≡ true = and_left (o && n && g && t && c) f six in
      let four : (o && n && g && t) ≡ true = and_left (o && n && g && t) c five in
      let three : (o && n && g) ≡ true = and_left (o && n && g) t four in
      let two : (o && n) ≡ true = and_left (o && n) g three in
      let alone : (r.flag ≡ 1) → a ≡ true
      = λ h. implied (eqb r.flag 1) a (and_right (o && n && g && t && c && f) (implies (eqb r.flag 1) a) e) (eq-eqb _ _ h)
      in
      record {
        owner_there = ltb-true _ _ (and_left o n two);
        name_good_holds = name_says r.name (and_right o n two);
        range_there = leb-true _ _ (and_right (o && n) g three);
        text_there = leb-true _ _ (and_right (o && n && g) t four);
        collation_known = leb-true _ _ (and_right (o && n && g && t) c five);
        flag_good_holds = flag_says _ _ (and_right (o && n && g && t && c) f six);
        alone =
            λ h.
            record {
              no_range = eqb-true _ _ (and_left (eqb r.range 0) (not (has_parameter_record s q i)) (alone h));
              no_parameter =
                  no_parameter_says i (not-true _ (and_right (eqb r.range 0) (not (has_parameter_record s q i)) (alone h)));
            };
      }

  property_tests : (i : ℕ) (r : PropertyRecord) → GoodProperty s q i r → property_good s q i r ≡ true
  unfolding property_good
  property_tests i r g =
      and_both
      (and_both
      (and_both
      (and_both
      (and_both (and_both (lt-ltb _ _ g.owner_there) (name_tests r.name g.name_good_holds)) (le-leb _ _ g.range_there))
      (le-leb _ _ g.text_there))
      (le-leb _ _ g.collation_known))
      (flag_tests _ _ g.flag_good_holds))
      (implied_from (eqb r.flag 1) _
      (λ h. and_both (eq-eqb _ _ (g.alone (eqb-true _ _ h)).no_range) (ap not (no_parameter_tests i (g.alone (eqb-true _ _ h)).no_parameter))))

  -- a parameter
  parameter_says : (r : ParameterRecord) → parameter_good s q r ≡ true → GoodParameter s q r
  unfolding parameter_good
  parameter_says r e =
      let o = ltb r.property q.properties.count in
      let n = name_good s q r.name in
      let t = leb r.text q.texts.count in
      let c = leb r.collation 1 in
      let f = flag_good r.flag r.text in
      let four : (o && n && t && c) ≡ true = and_left (o && n && t && c) f e in
      let three : (o && n && t) ≡ true = and_left (o && n && t) c four in
      let two : (o && n) ≡ true = and_left (o && n) t three in
      record {
        owner_there = ltb-true _ _ (and_left o n two);
        name_good_holds = name_says r.name (and_right o n two);
        text_there = leb-true _ _ (and_right (o && n) t three);
        collation_known = leb-true _ _ (and_right (o && n && t) c four);
        flag_good_holds = flag_says _ _ (and_right (o && n && t && c) f e);
      }

  parameter_tests : (r : ParameterRecord) → GoodParameter s q r → parameter_good s q r ≡ true
  unfolding parameter_good
  parameter_tests r g =
      and_both
      (and_both (and_both (and_both (lt-ltb _ _ g.owner_there) (name_tests r.name g.name_good_holds)) (le-leb _ _ g.text_there)) (le-leb _ _ g.collation_known))
      (flag_tests _ _ g.flag_good_holds)

  -- every record: what a caller may lean on once the query is read
  pub records_say : records_good s q ≡ true → GoodRecords s q
  unfolding records_good ranges_good components_good properties_good parameters_good
  records_say e =
      let a = ranges_good s q in
      let b = components_good s q in
      let c = properties_good s q in
      let d = parameters_good s q in
      let three : (a && b && c) ≡ true = and_left (a && b && c) d e in
      let two : (a && b) ≡ true = and_left (a && b) c three in
      record {
        ranges_good_holds = λ i h. range_says i (every_at (range_record_good s q) _ i h (and_left a b two));
        components_good_holds = λ i h. component_says i (component_at s q i) (every_at (component_holds s q) _ i h (and_right a b two));
        properties_good_holds = λ i h. property_says i (property_at s q i) (every_at (property_holds s q) _ i h (and_right (a && b) c three));
        parameters_good_holds = λ i h. parameter_says (parameter_at s q i) (every_at (parameter_holds s q) _ i h (and_right (a && b && c) d e));
      }

  records_test : GoodRecords s q → records_good s q ≡ true
  unfolding records_good ranges_good components_good properties_good parameters_good
  records_test g =
      and_both
      (and_both
      (and_both (every_all (range_record_good s q) _ (λ i h. range_tests i (g.ranges_good_holds i h)))
      (every_all (component_holds s q) _ (λ i h. component_tests i (component_at s q i) (g.components_good_holds i h))))
      (every_all (property_holds s q) _ (λ i h. property_tests i (property_at s q i) (g.properties_good_holds i h))))
      (every_all (parameter_holds s q) _ (λ i h. parameter_tests (parameter_at s q i) (g.parameters_good_holds i h)))

module _ (s : List ℕ) where
  whole_query_says : (r : Option Sections) → sections_of s ≡ r → query_good s ≡ true → WellFormedQuery s
  whole_query_says None e g = clash g (query_none s e)
  whole_query_says (Some q) e g =
      let all : (leb (length s) 4096 && (eqb q.end (length s) && records_good s q)) ≡ true = query_of s e refl ∙ g in
      let rest = and_right (leb (length s) 4096) (eqb q.end (length s) && records_good s q) all in
      record {
        size = leb-true _ _ (and_left (leb (length s) 4096) (eqb q.end (length s) && records_good s q) all);
        sections = q;
        layout = layout_of s q e;
        nothing_follows_holds = eqb-true _ _ (and_left (eqb q.end (length s)) (records_good s q) rest);
        records_good_holds = records_say s q (and_right (eqb q.end (length s)) (records_good s q) rest);
      }

  whole_query_tests : WellFormedQuery s → query_good s ≡ true
  whole_query_tests w =
      sym (query_of s (layout_sections s w.sections w.layout) refl)
      ∙ and_both (le-leb _ _ w.size) (and_both (eq-eqb _ _ w.nothing_follows_holds) (records_test s w.sections w.records_good_holds))

  -- the test of a query holds of exactly the well-formed ones
  pub query_good_iff : (query_good s ≡ true) ↔ WellFormedQuery s
  query_good_iff = (whole_query_says (sections_of s) refl, whole_query_tests)

-- one of two tests that together hold
module _ (s : List ℕ) (q : Sections) where
  module _ (r : ComponentRecord) where
    event : Bool
    event = same_name (text_of s q r.name) (ascii "VEVENT")

    block : Bool
    block = same_name (text_of s q r.name) (ascii "VFREEBUSY")

    off_says : component_misplaced s q r ≡ false → 0 < r.range
        → Spells (text_of s q r.name) (ascii "VEVENT") ⊎ Spells (text_of s q r.name) (ascii "VFREEBUSY")
    unfolding component_misplaced Spells event block
    off_says e h =
        let k : not (event || block) ≡ false = sym (ap (λ (t : Bool). t && not (event || block)) (lt-ltb 0 r.range h)) ∙ e in
        ⊎_elim (λ a. inl ((same_name_iff _ _).0 a)) (λ b. inr ((same_name_iff _ _).0 b)) (or_cases event block (not-false _ k))

    off_tests : (0 < r.range → Spells (text_of s q r.name) (ascii "VEVENT") ⊎ Spells (text_of s q r.name) (ascii "VFREEBUSY"))
        → component_misplaced s q r ≡ false
    unfolding component_misplaced Spells event block
    off_tests f =
        not_so (component_misplaced s q r)
        (λ e.
        let named : (event || block) ≡ true
        = ⊎_elim (λ a. or_by_left block ((same_name_iff _ _).1 a)) (λ b. or_by_right event ((same_name_iff _ _).1 b))
        (f (ltb-true 0 r.range (and_left (ltb 0 r.range) (not (event || block)) e)))
        in
        clash named (not-true (event || block) (and_right (ltb 0 r.range) (not (event || block)) e)))

  placed_says : range_misplaced s q ≡ false → WellPlaced s q
  unfolding range_misplaced components_misplaced properties_misplaced
  placed_says e =
      record {
        on_components =
            λ i h p.
            off_says (component_at s q i)
            (none_at (component_off s q) q.components.count i h (or_left (components_misplaced s q) (properties_misplaced s q) e))
            p;
        on_no_property =
            λ i h.
            omega (
              arith,
              ltb-false 0 (property_at s q i).range
                  (none_at (property_off s q) q.properties.count i h (or_right (components_misplaced s q) (properties_misplaced s q) e)),
            );
      }

  placed_tests : WellPlaced s q → range_misplaced s q ≡ false
  unfolding range_misplaced components_misplaced properties_misplaced
  placed_tests w =
      or_neither
      (none_all (component_off s q) q.components.count (λ i h. off_tests (component_at s q i) (w.on_components i h)))
      (none_all (property_off s q) q.properties.count (λ i h. le-ltb 0 (property_at s q i).range (omega (arith, w.on_no_property i h))))

  -- no range is misplaced exactly where all stand on VEVENT and VFREEBUSY components
  pub range_misplaced_iff : (range_misplaced s q ≡ false) ↔ WellPlaced s q
  range_misplaced_iff = (placed_says, placed_tests)
