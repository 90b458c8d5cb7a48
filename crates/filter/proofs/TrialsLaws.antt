-- Laws of what is tried of a component: what a trial decides, what one look at a row rules out, and the search through the instances.
use Rattle.std.specs.Prelude.{Option, Some}
use Prim.Native.Nat.{ℕ, zero, suc, ◌+◌, ◌-◌, ◌*◌, ◌≤◌, ◌<◌}
use mathlib.Core.Path.{◌≡◌, refl, sym, ap, ◌∙◌, subst}
use mathlib.Core.Bool.{Bool, true, false, not, ◌&&◌, ◌||◌, and-true, and-false}
use mathlib.Core.List.{List, ◌∷◌}
use native.Mathlib.Omega.{arith}
use lib.Dec.{eqb, ltb}
use lib.ListN.{get_or}
use borrow.Author.Count.{below_more}
use borrow.Author.Tests.{eqb-true, eqb-false, ne_eqb}
use Rattle.time.specs.Limits.{last_second}
use Rattle.ascii.proofs.Bools.{and_left, clash}
use Rattle.query.specs.Records.{range_start, range_end, text_of, component_at}
use Rattle.query.specs.Counting.{some_below}
use Rattle.query.specs.declared.Sections.{Sections}
use Rattle.query_check.specs.WellFormed.{records_good}
use Rattle.query_check.proofs.QueryRules.{records_say}
use Rattle.values.specs.declared.times.Context.{Context}
use Rattle.property.specs.declared.Scope.{Scope}
use Rattle.nesting.specs.Components.{Component, properties_in, components_in}
use Rattle.structure.specs.Rows.{RowOf, component_by, components_by}
use Rattle.events.specs.EntryRows.{event_at, block_at}
use Rattle.events.specs.declared.Event.{Event}
use Rattle.events.specs.declared.Block.{Block}
use Rattle.events.specs.Sizes.{EventSmall}
use Rattle.seconds.specs.Seconds.{among}
use Rattle.nesting.specs.Files.{tree_in}
use Rattle.calendar.specs.Meaning.{component_scope, event_of, block_periods, removed_from, components_of, file_lines}
use Rattle.series.specs.Columns.{gone_at, RemovedRows}
use Rattle.contents.proofs.RowKinds.{row_same}
use Rattle.calendar.proofs.Meaning.{event_of_small}
use Rattle.recurrence.specs.TimeRange.{ends_after, instance_in, block_in}
use Rattle.recurrence.specs.Candidates.{FirstCandidate, MoreCandidates}
use Rattle.recurrence.specs.Instances.{instances_at_most, utc_clock_of, start_of}
use Rattle.recurrence.proofs.Instances.{occurs_same}
use Rattle.recurrence.proofs.Candidates.{search_finds, search_ends}
use Rattle.recurrence.proofs.TimeRange.{decided_once}
use Rattle.ascii.specs.Names.{same_name}
use Rattle.query.specs.declared.ComponentRecord.{ComponentRecord}
use Rattle.structure.proofs.RowsLaws.{inner_list}
use Rattle.property_tests.specs.PropertyTests.{properties_hold}
use Rattle.filter.specs.Tests.{Whole, whole_of, event_in, block_range_in, component_in, range_holds, some_component, children_hold}
use Rattle.filter.specs.Ranges.{Given, Here, RowSmall, EndsOutside, RowOutside, RuledOut}
use Rattle.filter.specs.Trials.{trial_holds, trial_passes, Tried, MoreTrials, SmallTrial, TrialOf, gone_from, is_called, component_fits, Unfit, other_name, out_of_range, other_lines, Alone}
use Rattle.filter.specs.declared.trials.Trial.{Trial}
use Rattle.filter.proofs.RangesLaws.{some_decides, none_from, by_kind, event_of_holds, block_of_holds, ruled_out_fails}
use Rattle.filter.proofs.Tests.{some_here}

-- ---- what a trial decides

-- it is done once, with this outcome
pub once_of : {b t : Bool} {gone : List ℕ} → t ≡ b → TrialOf b gone (Trial.Once t)
unfolding trial_holds
once_of e = record { small = tt; decides = e }

pub trial_as : {a b : Bool} {gone : List ℕ} {t : Trial} → a ≡ b → TrialOf a gone t → TrialOf b gone t
trial_as e w = record { small = w.small; decides = w.decides ∙ e }

-- the component of row k, by what its row says it is
module _ {c : Context} {s index rows column : List ℕ} (g : Given c s index rows column) {k : ℕ} (h : Here s rows k) {n : ℕ} (z : n ≡ get_or rows (4 * k + 3) 0) where
  abbrev whole : Whole
  whole = whole_of c (tree_in s)

  abbrev tested : ℕ → ℕ → Bool
  tested a b = component_in whole (component_scope (component_by s rows k)) (component_by s rows k) a b

  pub trial_event : {e : Event} (a b : ℕ) → n ≡ 1 → e ≡ event_at column k → (a < b) × (b ≤ last_second) → TrialOf (tested a b) (gone_from c s rows k) (Trial.Instances e a b)
  unfolding trial_holds component_in event_in whole_of gone_from
  trial_event {e} a b o x w =
      let q : event_of c (component_by s rows k) ≡ Some e = event_of_holds g h (sym z ∙ o) ∙ ap Some (sym x) in
      record {
        small = (event_of_small c (component_by s rows k) e q, w.0, w.1);
        decides =
            by_kind h.row
            (λ u y. sym (ap (λ (v : Scope). component_in whole v (component_by s rows k) a b) y ∙ ap (λ (v : Option Event). event_in v (gone_from c s rows k) a b) q))
            (λ u y. absurd (omega arith))
            (λ u y. absurd (omega arith));
      }

  pub trial_block : {x : Block} {t : Bool} (a b : ℕ) → n ≡ 2 → x ≡ block_at column k
      → t ≡ block_in x (block_periods c (properties_in (component_by s rows k).items)) a b → TrialOf (tested a b) (gone_from c s rows k) (Trial.Once t)
  unfolding component_in block_range_in whole_of
  trial_block {x} a b o e q =
      once_of
      (by_kind h.row
      (λ u y. absurd (omega arith))
      (λ u y.
      q
      ∙ ap (λ (v : Block). block_in v (block_periods c (properties_in (component_by s rows k).items)) a b) e
      ∙ sym (ap (λ (v : Scope). component_in whole v (component_by s rows k) a b) y ∙ ap (λ (v : Option Block). block_range_in c (component_by s rows k) v a b) (block_of_holds g h u)))
      (λ u y. absurd (omega arith)))

  pub trial_other : (a b : ℕ) → (n ≡ 1 → ⊥) → (n ≡ 2 → ⊥) → TrialOf (tested a b) (gone_from c s rows k) (Trial.Once false)
  unfolding component_in
  trial_other a b o e =
      once_of
      (by_kind h.row
      (λ u y. absurd (o (z ∙ u)))
      (λ u y. absurd (e (z ∙ u)))
      (λ u y. sym (ap (λ (v : Scope). component_in whole v (component_by s rows k) a b) y)))

-- what a good query says of a record's range
module _ (p : List ℕ) (q : Sections) (r : ℕ) {a b : ℕ} (g : records_good p q ≡ true) (l : r ≤ q.ranges.count) (h : r ≡ 0 → ⊥)
    (x : a ≡ range_start p q (r - 1)) (y : b ≡ range_end p q (r - 1)) where
  pub range_good_holds : (a < b) × (b ≤ last_second)
  range_good_holds =
      let i : r - 1 < q.ranges.count = omega arith in
      let w = (records_say p q g).ranges_good_holds (r - 1) i in
      (rw (x, y) w.start_first, rw y w.end_limit)

-- against a record's range
module _ (c : Whole) (p : List ℕ) (q : Sections) (k : Component) where
  pub range_none : (r : ℕ) {gone : List ℕ} → r ≡ 0 → TrialOf (range_holds c p q r k) gone (Trial.Once true)
  unfolding range_holds
  range_none zero h = once_of refl
  range_none (suc r) h = absurd (omega arith)

  pub range_some : (r : ℕ) {a b : ℕ} {gone : List ℕ} {t : Trial} → (r ≡ 0 → ⊥) → a ≡ range_start p q (r - 1) → b ≡ range_end p q (r - 1)
      → TrialOf (component_in c (component_scope k) k a b) gone t → TrialOf (range_holds c p q r k) gone t
  unfolding range_holds
  range_some zero h x y w = absurd (h refl)
  range_some (suc r) {a} {b} h x y w =
      let n : suc r - 1 ≡ r = omega arith in
      trial_as
      (ap (λ (i : ℕ). component_in c (component_scope k) k i b) (x ∙ ap (range_start p q) n)
      ∙ ap (λ (i : ℕ). component_in c (component_scope k) k (range_start p q r) i) (y ∙ ap (range_end p q) n))
      w

-- ---- one look at a row

module _ {rows column : List ℕ} {k : ℕ} (m : RowSmall rows column k) {n : ℕ} (z : n ≡ get_or rows (4 * k + 3) 0) where
  pub looked_small : {e : Event} → n ≡ 1 → e ≡ event_at column k → EventSmall e
  looked_small o x = subst (λ (y : Event). EventSmall y) (sym x) (m.event_small (sym z ∙ o))

  pub looked_event : {e : Event} {a b i : ℕ} {r : Bool} → n ≡ 1 → e ≡ event_at column k → b ≤ last_second → FirstCandidate e a i → MoreCandidates e b i r
      → not r ≡ true → RowOutside rows column k a b
  looked_event {e} {a} {b} o x l f q y =
      record {
        no_instance = λ u gone. ap (λ (w : Event). some_below instances_at_most (instance_in w gone a b)) (sym x) ∙ none_from (looked_small o x) l f q y gone;
        no_block = λ u. absurd (omega arith);
      }

  pub looked_block : {x : Block} {a b : ℕ} → n ≡ 2 → x ≡ block_at column k → EndsOutside x a b → RowOutside rows column k a b
  looked_block {x} {a} {b} o e w =
      record { no_instance = λ u. absurd (omega arith); no_block = λ u. subst (λ (y : Block). EndsOutside y a b) e w }

  pub looked_other : (a b : ℕ) → (n ≡ 1 → ⊥) → (n ≡ 2 → ⊥) → RowOutside rows column k a b
  looked_other a b o e = record { no_instance = λ u. absurd (o (z ∙ u)); no_block = λ u. absurd (e (z ∙ u)) }

pub looked_range : (p : List ℕ) (q : Sections) (r : ℕ) {rows column : List ℕ} {k a b : ℕ} → (r ≡ 0 → ⊥) → a ≡ range_start p q (r - 1)
    → b ≡ range_end p q (r - 1) → RowOutside rows column k a b → RuledOut p q r rows column k
looked_range p q r h x y o = record { some = omega arith; outside = rw (← x, ← y) o }

pub nothing_ruled_out : {P : Type 0} → false ≡ true → P
nothing_ruled_out e = clash e refl

-- ---- the search through the instances: none before k passes

module _ {t : Trial} where
  module _ (e : Event) (a b : ℕ) (q : t ≡ Trial.Instances e a b) where
    pub instances_small : SmallTrial t → EventSmall e × (a < b) × (b ≤ last_second)
    instances_small h = subst (λ (x : Trial). SmallTrial x) q h

    pub instances_tried : (k : ℕ) → FirstCandidate e a k → (gone : List ℕ) → Tried gone t k
    instances_tried k f gone =
        subst (λ (x : Trial). Tried gone x k) (sym q) (record { none_before = unfold trial_passes in f.none_before gone b; few = omega (arith, f.few) })

    pub instances_on : {r : Bool} (k : ℕ) → MoreCandidates e b k r → MoreTrials t k r
    instances_on {r} k m =
        subst (λ (x : Trial). MoreTrials x k r) (sym q) (record { none_from = unfold trial_passes in λ z gone j p. m.none_from z gone a j p; few = m.few })

    pub instances_pass : {r : Bool} (gone : List ℕ) (k : ℕ) → r ≡ trial_passes gone (Trial.Instances e a b) k → r ≡ trial_passes gone t k
    instances_pass gone k h = h ∙ ap (λ (x : Trial). trial_passes gone x k) (sym q)

  module _ (b : Bool) (q : t ≡ Trial.Once b) where
    pub once_tried : (gone : List ℕ) → Tried gone t 0
    once_tried gone = record { none_before = λ j h. absurd (omega arith); few = omega arith }

    none_later : (k : ℕ) → eqb k 0 ≡ false → (gone : List ℕ) (j : ℕ) → k ≤ j → trial_passes gone (Trial.Once b) j ≡ false
    unfolding trial_passes
    none_later k z gone j p =
        let n = eqb-false k 0 z in
        ap (λ (x : Bool). b && x) (ne_eqb j 0 (λ y. n (omega arith))) ∙ and-false b

    pub once_on : (k : ℕ) → MoreTrials t k (eqb k 0)
    once_on k =
        subst (λ (x : Trial). MoreTrials x k (eqb k 0)) (sym q) (record { none_from = none_later k; few = λ z. omega (arith, eqb-true k 0 z) })

    pub once_passes : (gone : List ℕ) (k : ℕ) → (b && eqb k 0) ≡ trial_passes gone t k
    unfolding trial_passes
    once_passes gone k = ap (λ (x : Trial). trial_passes gone x k) (sym q)

module _ (gone : List ℕ) where
  found_holds : (t : Trial) (k : ℕ) → SmallTrial t → trial_passes gone t k ≡ true → trial_holds gone t ≡ true
  unfolding trial_passes trial_holds
  found_holds (Trial.Instances e a b) k h q = sym (decided_once true _ (search_finds k q) (some_decides gone a b h.0 h.2))
  found_holds (Trial.Once t) k h q = and_left t (eqb k 0) q

  -- none before k passes and none from k on
  ended_fails : (t : Trial) (k : ℕ) → SmallTrial t → Tried gone t k → ((j : ℕ) → k ≤ j → trial_passes gone t j ≡ false) → trial_holds gone t ≡ false
  unfolding trial_passes trial_holds
  ended_fails (Trial.Instances e a b) k h w r = sym (decided_once false _ (search_ends k w.none_before r) (some_decides gone a b h.0 h.2))
  ended_fails (Trial.Once t) zero h w r = sym (and-true t) ∙ r 0 (omega arith)
  ended_fails (Trial.Once t) (suc k) h w r = sym (and-true t) ∙ w.none_before 0 (omega arith)

  module _ (t : Trial) (k : ℕ) {r : Bool} where
    pub tried_found : SmallTrial t → r ≡ trial_passes gone t k → r ≡ true → trial_holds gone t ≡ true
    tried_found h e z = found_holds t k h (sym e ∙ z)

    pub tried_more : k < instances_at_most → Tried gone t k → r ≡ trial_passes gone t k → r ≡ false → Tried gone t (k + 1)
    tried_more p w e z = record { none_before = below_more _ _ w.none_before (sym e ∙ z); few = omega arith }

    pub tried_end : SmallTrial t → Tried gone t k → MoreTrials t k r → r ≡ false → trial_holds gone t ≡ false
    tried_end h w m z = ended_fails t k h w (m.none_from z gone)

-- ---- lists of the same seconds

some_same : {f g : ℕ → Bool} → ((k : ℕ) → f k ≡ g k) → (n : ℕ) → some_below n f ≡ some_below n g
unfolding some_below
some_same s zero = refl
some_same {f} {g} s (suc n) = ap (λ (x : Bool). x || f n) (some_same s n) ∙ ap (λ (x : Bool). some_below n g || x) (s n)

instance_same : (e : Event) (g h : List ℕ) → ((x : ℕ) → among x g ≡ among x h) → (a b k : ℕ) → instance_in e g a b k ≡ instance_in e h a b k
unfolding instance_in
instance_same e g h s a b k = ap (λ (x : Bool). x && ends_after e a k && ltb (start_of e k) (utc_clock_of b)) (occurs_same e g h s k)

holds_same : (g h : List ℕ) → ((x : ℕ) → among x g ≡ among x h) → (t : Trial) → trial_holds g t ≡ trial_holds h t
unfolding trial_holds
holds_same g h s (Trial.Instances e a b) = some_same (λ k. instance_same e g h s a b k) instances_at_most
holds_same g h s (Trial.Once t) = refl

components_whole : (c : Context) (s : List ℕ) → components_of s ≡ (whole_of c (tree_in s)).components
unfolding components_of file_lines tree_in whole_of
components_whole c s = refl

-- the part of a row takes the same starts away
pub trial_by_part : {c : Context} {s rows places removed : List ℕ} {k m : ℕ} {b : Bool} {t : Trial} {gone : List ℕ} → RemovedRows c s rows places removed m → RowOf s rows k → k < m
    → gone ≡ gone_at places removed k → TrialOf b (gone_from c s rows k) t → TrialOf b gone t
unfolding gone_from
trial_by_part {c} {s} {rows} {places} {removed} {k} {t = t} z r l q w =
    record {
      small = w.small;
      decides =
          ap (λ (g : List ℕ). trial_holds g t) q
          ∙ holds_same (gone_at places removed k) (removed_from c (whole_of c (tree_in s)).components (component_by s rows k))
          (λ x. row_same z r l x ∙ ap (λ (ks : List Component). among x (removed_from c ks (component_by s rows k))) (components_whole c s)) t
          ∙ w.decides;
    }

-- ---- one component: its name, what its row rules out, and its own lines

module _ (p : List ℕ) (q : Sections) (j : ℕ) (s rows column : List ℕ) (k : ℕ) {n : List ℕ} {a : Bool} (x : n ≡ text_of p q (component_at p q j).name)
    (y : a ≡ same_name (component_by s rows k).begin.line.value n) where
  called_as : a ≡ is_called p q j (component_by s rows k)
  unfolding is_called
  called_as = y ∙ ap (same_name (component_by s rows k).begin.line.value) x

  pub alone_other : a ≡ false → Alone p q j s rows column k false
  alone_other z =
      record { called = λ e. clash e refl; lines_hold = λ e. clash e refl; unfit = λ e. other_name (sym called_as ∙ z) }

  pub alone_out : {r : ComponentRecord} {o : Bool} → r ≡ component_at p q j → (o ≡ true → RuledOut p q r.range rows column k) → o ≡ true
      → Alone p q j s rows column k false
  alone_out e f z =
      record {
        called = λ w. clash w refl;
        lines_hold = λ w. clash w refl;
        unfit = λ w. out_of_range (subst (λ (u : ComponentRecord). RuledOut p q u.range rows column k) e (f z));
      }

  pub alone_lines : {b : Bool} → a ≡ true → b ≡ properties_hold p q j (properties_in (component_by s rows k).items) → Alone p q j s rows column k b
  alone_lines z h = record { called = λ w. sym called_as ∙ z; lines_hold = λ w. sym h ∙ w; unfit = λ w. other_lines (sym h ∙ w) }

-- ---- then its inner components, and then its instances

module _ {c : Context} (p : List ℕ) (q : Sections) (j : ℕ) {s index rows column : List ℕ} (g : Given c s index rows column) {k : ℕ} (h : Here s rows k) where
  abbrev file : Whole
  file = whole_of c (tree_in s)

  abbrev gone : List ℕ
  gone = gone_from c s rows k

  abbrev fits : Bool
  fits = component_fits file p q j (component_by s rows k)

  inner_as : {b : Bool} → b ≡ children_hold file p q (q.components.count - (j + 1)) j (components_by s rows (k + 1) (get_or rows (4 * k + 2) 0))
      → children_hold file p q (q.components.count - suc j) j (components_in (component_by s rows k).items) ≡ b
  inner_as y =
      let n : q.components.count - (j + 1) ≡ q.components.count - suc j = omega arith in
      ap (children_hold file p q (q.components.count - suc j) j) (inner_list h.row)
      ∙ sym (y ∙ ap (λ (m : ℕ). children_hold file p q m j (components_by s rows (k + 1) (get_or rows (4 * k + 2) 0))) n)

  unfit_fails : Unfit p q j s rows column k → fits ≡ false
  unfolding component_fits
  unfit_fails (other_name e) = rw e refl
  unfit_fails (out_of_range o) =
      let e = ruled_out_fails g h p q (component_at p q j).range o in
      rw (e, and-false (is_called p q j (component_by s rows k))) refl
  unfit_fails (other_lines e) =
      rw (e, and-false (is_called p q j (component_by s rows k) && range_holds file p q (component_at p q j).range (component_by s rows k))) refl

  module _ {a : Bool} (x : Alone p q j s rows column k a) where
    pub here_not : a ≡ false → TrialOf fits gone (Trial.Once false)
    here_not z = once_of (sym (unfit_fails (x.unfit z)))

    module _ {b : Bool} (y : b ≡ children_hold file p q (q.components.count - (j + 1)) j (components_by s rows (k + 1) (get_or rows (4 * k + 2) 0))) where
      pub here_childless : b ≡ false → TrialOf fits gone (Trial.Once false)
      unfolding component_fits
      here_childless w =
          let component = component_by s rows k in
          let alone = is_called p q j component && range_holds file p q (component_at p q j).range component && properties_hold p q j (properties_in component.items) in
          once_of (sym (ap (λ (t : Bool). alone && t) (inner_as y ∙ w) ∙ and-false alone))

      pub here_tried : {r : ComponentRecord} {t : Trial} → a ≡ true → b ≡ true → r ≡ component_at p q j
          → TrialOf (range_holds file p q r.range (component_by s rows k)) gone t → TrialOf fits gone t
      unfolding component_fits
      here_tried z w e d =
          let u = range_holds file p q (component_at p q j).range (component_by s rows k) in
          trial_as
          (ap (λ (v : ComponentRecord). range_holds file p q v.range (component_by s rows k)) e
          ∙ sym (rw (x.called z, x.lines_hold z, inner_as y ∙ w) (all_true u)))
          d
        where
          all_true : (t : Bool) → (t && true && true) ≡ t
          all_true true = refl
          all_true false = refl

-- ---- the components side by side: some one passes

module _ (c : Whole) (p : List ℕ) (q : Sections) (j : ℕ) where
  module _ (k : Component) {gone : List ℕ} {t : Trial} (y : TrialOf (component_fits c p q j k) gone t) where
    here_first : (ks : List Component) → some_here c p q j (k ∷ ks) ≡ (trial_holds gone t || some_here c p q j ks)
    unfolding some_here some_component component_fits is_called
    here_first ks = ap (λ (b : Bool). b || some_here c p q j ks) (sym y.decides)

    pub here_found : trial_holds gone t ≡ true → (ks : List Component) → some_here c p q j (k ∷ ks) ≡ true
    here_found z ks = here_first ks ∙ ap (λ (b : Bool). b || some_here c p q j ks) z

    pub here_passed : trial_holds gone t ≡ false → (ks : List Component) → some_here c p q j (k ∷ ks) ≡ some_here c p q j ks
    here_passed z ks = here_first ks ∙ ap (λ (b : Bool). b || some_here c p q j ks) z
