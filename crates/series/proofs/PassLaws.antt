-- Laws of the second pass: the rows of events are the VEVENTs of the calendar, lines rise from row to row,
-- and what is left from a row on tells the first component that breaks a rule.
use Rattle.std.specs.Prelude.{None, Option, Some}
use Prim.Native.Nat.{ℕ, zero, suc, ◌+◌, ◌*◌, ◌-◌, ◌≤◌, ◌<◌}
use mathlib.Core.Path.{◌≡◌, refl, sym, ap, subst, ◌∙◌}
use mathlib.Core.Bool.{Bool, true, false, cond}
use mathlib.Core.List.{List, [], ◌∷◌, ◌++◌, append_assoc, append-nil, Memᴰ}
use native.Mathlib.Omega.{arith}
use borrow.Author.Tests.{ltb-true, ltb-false, eqb-true, eqb-false}
use lib.Dec.{eqb, ltb}
use lib.ListN.{length, get_or, length-append}
use Rattle.ascii.proofs.Bools.{clash}
use Rattle.line.specs.Reading.{line_of, value_of}
use Rattle.delimiters.specs.Innermost.{is_event, is_free_busy}
use Rattle.values.specs.Times.{ContextGood}
use Rattle.values.specs.declared.times.Context.{Context}
use Rattle.property.specs.declared.Scope.{Scope}
use Rattle.nesting.specs.Components.{Component}
use Rattle.nesting.specs.Files.{tree_in}
use Rattle.index.specs.Index.{line_bytes}
use Rattle.structure.specs.Rows.{kind_of, numbered_line, ItemRows, nothing, with_property_holds, with_component, RowOf, component_by, components_by, BelowAt, FileRows}
use Rattle.structure.proofs.RowsLaws.{rows_lines, rows_begin, components_none, NextBelow, below_next, file_kind, file_below, file_below_at}
use Rattle.structure.proofs.ItemsLaws.{items_rise}
use Rattle.overrides.specs.VEvents.{VEvent}
use Rattle.overrides.specs.Instances.{removed_from as starts_removed}
use Rattle.overrides.specs.Rules.{breaks_alone, breaks_beside, RuleLine, all_keep, broken_at, broken_line}
use Rattle.overrides.specs.Keeping.{Keeps}
use Rattle.overrides.proofs.Rules.{all_keep_iff}
use Rattle.calendar.specs.Identities.{identity_of}
use Rattle.calendar.specs.Meaning.{scope_of, component_scope, vevent_of, vevents_as, vevents, broken_or, block_of, block_broken, first_fault, rule_fault, removed_from, components_of, file_lines}
use Rattle.calendar.specs.Passes.{broken_alone, alone_fault, broken_beside}
use Rattle.calendar.proofs.Passes.{first_kept, first_alone, first_beside, good_alone, alone_good_iff, as_check, by_vevents_whole}
use Rattle.calendar.proofs.VEvents.{removed_event}
use Rattle.identities.specs.LinkRows.{link_at}
use Rattle.values.specs.declared.given.Given.{Given}
use Rattle.identities.specs.declared.RecurrenceId.{RecurrenceId}
use Rattle.series.specs.Identities.{UidTies, RecurrenceTies, Ties}
use Rattle.series.specs.LinkRows.{gathered_in, LinkRows}
use Rattle.series.specs.VEventRows.{vevents_at, vevents_from, vevents_before, OneAt, OneEach}
use Rattle.series.specs.Beside.{excluded_at, Linked, Unbroken}
use Rattle.series.specs.Removed.{Takeable, removed_at}
use Rattle.series.specs.Stopping.{stop_line, Reached}
use Rattle.series.specs.Columns.{moved_count, Removable}
use Rattle.series.proofs.CountingLaws.{moved_few, moved_part, keeps_apart}
use Rattle.series.proofs.MasterLaws.{row_none, from_next, from_none}
use Rattle.series.proofs.BesideLaws.{one_uid, one_recurrence}

-- ---- what a row is

-- by the name of its component
as_by : (c : Context) (x : Component) (v : List ℕ) → cond (eqb (kind_of v) 1) (vevent_of c x ∷ []) [] ≡ vevents_as c (scope_of v) x
unfolding kind_of scope_of vevents_as
as_by c x v = go (is_event v) (is_free_busy v)
  where
    go : (a b : Bool) → cond (eqb (cond a 1 (cond b 2 0)) 1) (vevent_of c x ∷ []) [] ≡ vevents_as c (cond a Scope.Event (cond b Scope.FreeBusy Scope.Other)) x
    go true b = refl
    go false true = refl
    go false false = refl

scope_by_lem : (v : List ℕ) → kind_of v ≡ 1 → scope_of v ≡ Scope.Event
unfolding kind_of scope_of
scope_by_lem v = go (is_event v) (is_free_busy v)
  where
    go : (a b : Bool) → ◌≡◌ {A = ℕ} (cond a 1 (cond b 2 0)) 1 → cond a Scope.Event (cond b Scope.FreeBusy Scope.Other) ≡ Scope.Event
    go true b h = refl
    go false true h = absurd (omega arith)
    go false false h = absurd (omega arith)

beside_by : (c : Context) (b a : List VEvent) (x : Component) (v : List ℕ) → (kind_of v ≡ 1 → ⊥) → false ≡ broken_beside c b a (scope_of v) x
unfolding kind_of scope_of broken_beside
beside_by c b a x v = go (is_event v) (is_free_busy v)
  where
    go : (i j : Bool) → (◌≡◌ {A = ℕ} (cond i 1 (cond j 2 0)) 1 → ⊥) → false ≡ broken_beside c b a (cond i Scope.Event (cond j Scope.FreeBusy Scope.Other)) x
    go true j h = absurd (h refl)
    go false true h = refl
    go false false h = refl

module _ (c : Context) {s rows : List ℕ} {k : ℕ} (r : RowOf s rows k) where
  pub row_as : vevents_at c s rows k ≡ vevents_as c (component_scope (component_by s rows k)) (component_by s rows k)
  unfolding vevents_at component_scope component_by numbered_line line_of
  row_as =
      ap (λ (t : ℕ). cond (eqb t 1) (vevent_of c (component_by s rows k) ∷ []) []) r.kind
      ∙ as_by c (component_by s rows k) (value_of (line_bytes s (get_or rows (4 * k) 0 - 1)))

  row_scope : get_or rows (4 * k + 3) 0 ≡ 1 → component_scope (component_by s rows k) ≡ Scope.Event
  unfolding component_scope component_by numbered_line line_of
  row_scope e = scope_by_lem (value_of (line_bytes s (get_or rows (4 * k) 0 - 1))) (sym r.kind ∙ e)

  -- what is no event breaks no rule beside others
  pub row_passed : (b a : List VEvent) {t : ℕ} → t ≡ get_or rows (4 * k + 3) 0 → (t ≡ 1 → ⊥) → false ≡ broken_beside c b a (component_scope (component_by s rows k)) (component_by s rows k)
  unfolding component_scope component_by numbered_line line_of
  row_passed b a q h = beside_by c b a (component_by s rows k) (value_of (line_bytes s (get_or rows (4 * k) 0 - 1))) (λ e. h (q ∙ r.kind ∙ e))

  pub row_asked : (b a : List VEvent) → get_or rows (4 * k + 3) 0 ≡ 1 → {t : Bool} → t ≡ breaks_beside b a (vevent_of c (component_by s rows k))
      → t ≡ broken_beside c b a (component_scope (component_by s rows k)) (component_by s rows k)
  unfolding broken_beside
  row_asked b a e p = p ∙ sym (ap (λ (o : Scope). broken_beside c b a o (component_by s rows k)) (row_scope e))

  row_alone : get_or rows (4 * k + 3) 0 ≡ 1 → broken_alone c (component_scope (component_by s rows k)) (component_by s rows k) ≡ false → breaks_alone (vevent_of c (component_by s rows k)) ≡ false
  unfolding broken_alone
  row_alone e h = sym (ap (λ (o : Scope). broken_alone c o (component_by s rows k)) (row_scope e)) ∙ h

  row_number : (component_by s rows k).begin.number ≡ get_or rows (4 * k) 0
  unfolding component_by numbered_line
  row_number = omega (arith, r.some)

-- an event that is not broken by itself has one of each at most
one_at : (c : Context) (s rows links : List ℕ) (k : ℕ) → (get_or rows (4 * k + 3) 0 ≡ 1 → Ties s (gathered_in (link_at links k)) (identity_of c (component_by s rows k)))
    → (get_or rows (4 * k + 3) 0 ≡ 1 → breaks_alone (vevent_of c (component_by s rows k)) ≡ false) → OneAt rows links k
unfolding vevent_of
one_at c s rows links k ties keeps =
    record {
      one_recurrence = λ e p.
          clash
          (subst (λ (y : Given RecurrenceId). RecurrenceTies y (identity_of c (component_by s rows k)).recurrence_ids) p (ties e).recurrence_ties)
          (one_recurrence (vevent_of c (component_by s rows k)) (keeps e));
      one_uid = λ e p.
          clash
          (subst (λ (y : Given ℕ). UidTies s y (identity_of c (component_by s rows k)).uids) p (ties e).uid_ties)
          (one_uid (vevent_of c (component_by s rows k)) (keeps e));
    }

module _ {c : Context} {s index rows entries links exceptions : List ℕ} {k m : ℕ} (g : Linked c s index rows entries links exceptions m) (h : Reached c s rows links k m) where
  reached_alone : get_or rows (4 * k + 3) 0 ≡ 1 → breaks_alone (vevent_of c (component_by s rows k)) ≡ false
  reached_alone e = row_alone c h.row e h.alone

  pub reached_unbroken : {t : ℕ} → t ≡ get_or rows (4 * k + 3) 0 → t ≡ 1 → Unbroken rows links k m
  reached_unbroken q e =
      let i : get_or rows (4 * k + 3) 0 ≡ 1 = sym q ∙ e in
      record { there = h.there; is_event_holds = i; alone = (g.stands k h.there i).broken_is ∙ reached_alone i; one_each = h.one_each }

  -- it has one RECURRENCE-ID and one UID at most
  reached_one : OneAt rows links k
  reached_one = one_at c s rows links k (λ e. (g.stands k h.there e).ties) reached_alone

-- ---- the rows of events are the VEVENTs

module _ (c : Context) (s rows : List ℕ) where
  -- rows that are none's
  skip : (m n j next : ℕ) → j + n ≡ next → next ≤ m → ((p : ℕ) → j ≤ p → p < next → get_or rows (4 * p + 3) 0 ≡ 0)
      → vevents_from c s rows j (m - j) ≡ vevents_from c s rows next (m - next)
  skip m zero j next e l q = let z : j ≡ next = omega arith in ap (λ (i : ℕ). vevents_from c s rows i (m - i)) z
  skip m (suc n) j next e l q =
      let none : get_or rows (4 * j + 3) 0 ≡ 1 → ⊥ = λ w. omega (arith, w, q j (omega arith) (omega arith)) in
      from_next c s rows j m (omega arith)
      ∙ ap (λ (vs : List VEvent). vs ++ vevents_from c s rows (j + 1) (m - (j + 1))) (row_none c s rows j none)
      ∙ skip m n (j + 1) next (omega arith) l (λ p a b. q p (omega arith) b)

  split : (a b j : ℕ) → vevents_from c s rows j (a + b) ≡ vevents_from c s rows j a ++ vevents_from c s rows (j + a) b
  unfolding vevents_from
  split zero b j =
      let y : zero + b ≡ b = omega arith in
      let z : j ≡ j + zero = omega arith in
      ap (vevents_from c s rows j) y ∙ ap (λ (i : ℕ). vevents_from c s rows i b) z
  split (suc a) b j =
      let y : suc a + b ≡ suc (a + b) = omega arith in
      let z : j + 1 + a ≡ j + suc a = omega arith in
      ap (vevents_from c s rows j) y
      ∙ ap (λ (vs : List VEvent). vevents_at c s rows j ++ vs) (split a b (j + 1))
      ∙ sym (append_assoc (vevents_at c s rows j) (vevents_from c s rows (j + 1) a) (vevents_from c s rows (j + 1 + a) b))
      ∙ ap (λ (i : ℕ). (vevents_at c s rows j ++ vevents_from c s rows (j + 1) a) ++ vevents_from c s rows i b) z

  -- those before a row and those from it on
  pub before_split : (k m : ℕ) → k ≤ m → vevents_before c s rows m ≡ vevents_before c s rows k ++ vevents_from c s rows k (m - k)
  unfolding vevents_before
  before_split k m l =
      let y : m ≡ k + (m - k) = omega arith in
      let z : 0 + k ≡ k = omega arith in
      ap (vevents_from c s rows 0) y ∙ split k (m - k) 0 ∙ ap (λ (i : ℕ). vevents_from c s rows 0 k ++ vevents_from c s rows i (m - k)) z

  -- a row has one VEVENT at most
  pub rows_few : (n k : ℕ) → length (vevents_from c s rows k n) ≤ n
  unfolding vevents_from vevents_at
  rows_few zero k = omega arith
  rows_few (suc n) k = omega (arith, length-append (vevents_at c s rows k) (vevents_from c s rows (k + 1) n), rows_few n (k + 1), one (eqb (get_or rows (4 * k + 3) 0) 1))
    where
      one : (t : Bool) → length (cond t (vevent_of c (component_by s rows k) ∷ []) []) ≤ 1
      one true = omega arith
      one false = omega arith

  -- those before the next row are those before this one, and its own
  pub before_more : (k : ℕ) → vevents_before c s rows (k + 1) ≡ vevents_before c s rows k ++ vevents_at c s rows k
  unfolding vevents_before vevents_from
  before_more k =
      let z : 0 + k ≡ k = omega arith in
      split k 1 0
      ∙ ap (λ (i : ℕ). vevents_from c s rows 0 k ++ vevents_from c s rows i 1) z
      ∙ ap (λ (vs : List VEvent). vevents_from c s rows 0 k ++ vs) (append-nil (vevents_at c s rows k))

  -- those before the next component are those before this one, and its own
  pub before_next : {k m : ℕ} → NextBelow s rows k m
      → vevents_before c s rows (get_or rows (4 * k + 2) 0) ≡ vevents_before c s rows k ++ vevents_as c (component_scope (component_by s rows k)) (component_by s rows k)
  unfolding vevents_before vevents_from
  before_next {k} {m} z =
      let next = get_or rows (4 * k + 2) 0 in
      let y : next ≡ k + (next - k) = omega (arith, z.here.onward) in
      let x : zero + k ≡ k = omega arith in
      let last : next - next ≡ 0 = omega arith in
      ap (vevents_from c s rows 0) y
      ∙ split k (next - k) 0
      ∙ ap (λ (i : ℕ). vevents_from c s rows 0 k ++ vevents_from c s rows i (next - k)) x
      ∙ ap (λ (vs : List VEvent). vevents_from c s rows 0 k ++ vs)
      (from_next c s rows k next z.here.onward
      ∙ ap (λ (vs : List VEvent). vevents_at c s rows k ++ vs)
      (skip next (next - (k + 1)) (k + 1) next (omega (arith, z.here.onward)) (omega arith) (λ p a b. z.quiet p (omega arith) b)
      ∙ ap (vevents_from c s rows next) last)
      ∙ append-nil (vevents_at c s rows k)
      ∙ row_as c z.here.row)

  no_rows : (k m : ℕ) → m ≤ k → vevents_from c s rows k (m - k) ≡ vevents c (components_by s rows k m)
  unfolding vevents
  no_rows k m l = from_none c s rows k m l ∙ sym (ap (vevents c) (components_none s rows l))

  -- from a component on
  rows_are : (n k m : ℕ) → m - k ≤ n → BelowAt s rows k m → vevents_from c s rows k (m - k) ≡ vevents c (components_by s rows k m)
  unfolding vevents
  rows_are zero k m f b = no_rows k m (omega arith)
  rows_are (suc n) k m f b = go (ltb k m) refl (λ next i w. rows_are n next m i w)
    where
      go : (t : Bool) → ltb k m ≡ t → ((next : ℕ) → m - next ≤ n → BelowAt s rows next m → vevents_from c s rows next (m - next) ≡ vevents c (components_by s rows next m))
          → vevents_from c s rows k (m - k) ≡ vevents c (components_by s rows k m)
      go false q ih = no_rows k m (ltb-false k m q)
      go true q ih =
          let l : k < m = ltb-true k m q in
          let z = below_next b l in
          let next = get_or rows (4 * k + 2) 0 in
          from_next c s rows k m l
          ∙ ap (λ (vs : List VEvent). vs ++ vevents_from c s rows (k + 1) (m - (k + 1))) (row_as c z.here.row)
          ∙ ap (λ (vs : List VEvent). vevents_as c (component_scope (component_by s rows k)) (component_by s rows k) ++ vs)
          (skip m (next - (k + 1)) (k + 1) next (omega (arith, z.here.onward)) z.here.within (λ p i j. z.quiet p (omega arith) j)
          ∙ ih next (omega (arith, z.here.onward)) z.after)
          ∙ sym (ap (vevents c) z.here.list)

-- of a whole file
module _ (c : Context) {s index rows : List ℕ} (h : FileRows s index rows) where
  components_file : components_of s ≡ components_by s rows 1 (get_or rows 2 0)
  unfolding components_of file_lines tree_in
  components_file = file_below h

  none_first : vevents_before c s rows 1 ≡ []
  unfolding vevents_before vevents_from
  none_first = append-nil (vevents_at c s rows 0) ∙ row_none c s rows 0 (λ e. omega (arith, e, file_kind h))

  pub all_rows : vevents_before c s rows (get_or rows 2 0) ≡ vevents c (components_of s)
  unfolding vevents_before
  all_rows =
      let m = get_or rows 2 0 in
      let z : m - 0 ≡ m = omega arith in
      sym (ap (vevents_from c s rows 0) z)
      ∙ from_next c s rows 0 m h.some
      ∙ ap (λ (vs : List VEvent). vs ++ vevents_from c s rows (0 + 1) (m - (0 + 1))) (row_none c s rows 0 (λ e. omega (arith, e, file_kind h)))
      ∙ rows_are c s rows (m - 1) 1 m (omega arith) (file_below_at h)
      ∙ ap (vevents c) (sym components_file)

-- ---- lines rise from row to row

rise : {s rows : List ℕ} {i k j m : ℕ} → ItemRows s rows i k j m → k < m → get_or rows (4 * k + 2) 0 < m → get_or rows (4 * k) 0 < get_or rows (4 * get_or rows (4 * k + 2) 0) 0
rise nothing l n = absurd (omega arith)
rise (with_property_holds q r) l n = rise r l n
rise {m = m} (with_component q w a e r) l n = rw (w.begin, w.next) (omega (arith, rows_begin r (subst (λ (x : ℕ). x < m) w.next n), rows_lines a))

broken_by : {t : Bool} {i : ℕ} (n : ℕ) (r : Option ℕ) → t ≡ true → broken_or t n r ≡ Some i → n ≡ i
unfolding broken_or
broken_by {t} {i} n r e h = let z : Some n ≡ Some i = sym (ap (λ (b : Bool). broken_or b n r) e) ∙ h in cc

broken_on : {t : Bool} {i : ℕ} (n : ℕ) (r : Option ℕ) → t ≡ false → broken_or t n r ≡ Some i → r ≡ Some i
unfolding broken_or
broken_on {t} {i} n r e h = sym (ap (λ (b : Bool). broken_or b n r) e) ∙ h

module _ (c : Context) (s rows : List ℕ) where
  alone_next : {k m : ℕ} → NextBelow s rows k m
      → alone_fault c (components_by s rows k m)
      ≡ broken_or (broken_alone c (component_scope (component_by s rows k)) (component_by s rows k)) (get_or rows (4 * k) 0) (alone_fault c (components_by s rows (get_or rows (4 * k + 2) 0) m))
  unfolding alone_fault
  alone_next {k} {m} z =
      ap (alone_fault c) z.here.list
      ∙ ap (λ (n : ℕ). broken_or (broken_alone c (component_scope (component_by s rows k)) (component_by s rows k)) n (alone_fault c (components_by s rows (get_or rows (4 * k + 2) 0) m)))
      (row_number c z.here.row)

  none_alone : (k m i : ℕ) {A : Type 0} → m ≤ k → alone_fault c (components_by s rows k m) ≡ Some i → A
  unfolding alone_fault
  none_alone k m i l h =
      let w : None ≡ Some i = sym (ap (alone_fault c) (components_none s rows l)) ∙ h in
      let z : ◌≡◌ {A = ℕ} 0 1 = cc in
      absurd (omega arith)

  -- the first that is broken by itself begins at this row's line or behind it
  alone_late : (n k m i : ℕ) → m - k ≤ n → BelowAt s rows k m → alone_fault c (components_by s rows k m) ≡ Some i → (k < m) × (get_or rows (4 * k) 0 ≤ i)
  alone_late zero k m i f b h = none_alone k m i (omega arith) h
  alone_late (suc n) k m i f b h = go (ltb k m) refl (λ next d w. alone_late n next m i d w)
    where
      next : ℕ
      next = get_or rows (4 * k + 2) 0

      here : (l : k < m) (t : Bool) → broken_alone c (component_scope (component_by s rows k)) (component_by s rows k) ≡ t
          → (m - next ≤ n → BelowAt s rows next m → alone_fault c (components_by s rows next m) ≡ Some i → (next < m) × (get_or rows (4 * next) 0 ≤ i))
          → (k < m) × (get_or rows (4 * k) 0 ≤ i)
      here l true q ih = (l, omega (arith, broken_by (get_or rows (4 * k) 0) (alone_fault c (components_by s rows next m)) q (sym (alone_next (below_next b l)) ∙ h)))
      here l false q ih =
          let z = below_next b l in
          let y = ih (omega (arith, z.here.onward)) z.after (broken_on (get_or rows (4 * k) 0) (alone_fault c (components_by s rows next m)) q (sym (alone_next z) ∙ h)) in
          (l, omega (arith, y.1, rise b.components.items.items l y.0))

      go : (t : Bool) → ltb k m ≡ t → ((j : ℕ) → m - j ≤ n → BelowAt s rows j m → alone_fault c (components_by s rows j m) ≡ Some i → (j < m) × (get_or rows (4 * j) 0 ≤ i))
          → (k < m) × (get_or rows (4 * k) 0 ≤ i)
      go false q ih = none_alone k m i (ltb-false k m q) h
      go true q ih = here (ltb-true k m q) (broken_alone c (component_scope (component_by s rows k)) (component_by s rows k)) refl (ih next)

-- ---- the rows can be asked

row_there : {s rows : List ℕ} (n k m : ℕ) → m - k ≤ n → BelowAt s rows k m → (p : ℕ) → k ≤ p → p < m → get_or rows (4 * p + 3) 0 ≡ 1 → RowOf s rows p
row_there zero k m f b p a l e = absurd (omega arith)
row_there {s} {rows} (suc n) k m f b p a l e = go (eqb p k) (ltb p next) refl refl (below_next b (omega arith)) (λ d w y. row_there n next m d w p y l e)
  where
    next : ℕ
    next = get_or rows (4 * k + 2) 0

    go : (t u : Bool) → eqb p k ≡ t → ltb p next ≡ u → NextBelow s rows k m → (m - next ≤ n → BelowAt s rows next m → next ≤ p → RowOf s rows p) → RowOf s rows p
    go true u q w z ih = subst (RowOf s rows) (sym (eqb-true p k q)) z.here.row
    go false true q w z ih = let y : p ≡ k → ⊥ = eqb-false p k q in absurd (omega (arith, e, z.quiet p (omega arith) (ltb-true p next w)))
    go false false q w z ih = ih (omega (arith, z.here.onward)) z.after (ltb-false p next w)

module _ {c : Context} {s index rows entries links exceptions : List ℕ} (x : ContextGood c) (h : FileRows s index rows) (g : LinkRows c s rows entries links exceptions (get_or rows 2 0)) where
  event_there : (p : ℕ) → p < get_or rows 2 0 → get_or rows (4 * p + 3) 0 ≡ 1 → RowOf s rows p
  event_there p l e = row_there (get_or rows 2 0) 1 (get_or rows 2 0) (omega arith) (file_below_at h) p (some p e) l e
    where
      some : (p : ℕ) → get_or rows (4 * p + 3) 0 ≡ 1 → 1 ≤ p
      some zero e = absurd (omega (arith, e, file_kind h))
      some (suc p) e = omega arith

  pub linked : Linked c s index rows entries links exceptions (get_or rows 2 0)
  linked =
      let w = (file_below_at h).components.items in
      record {
        tied =
            record {
              few = w.few;
              each = λ k l.
                  record {
                    row_room = omega (arith, w.room);
                    link_room = omega (arith, g.room, w.few);
                    uids = λ e.
                        record {
                          context = x;
                          indexed = h.indexed;
                          row = event_there k l e;
                          link_room = omega (arith, g.room, w.few);
                          uid_ties = (g.stands k l e).ties.uid_ties;
                        };
                    recurrences = λ e. (g.stands k l e).ties.recurrence_ties;
                  };
            };
        entry_room = g.entry_room;
        stands = g.stands;
      }

  pub linked_at : {m : ℕ} → m ≡ get_or rows 2 0 → Linked c s index rows entries links exceptions m
  linked_at e = rw e linked

-- ---- where no rule is broken

none_broken : (t : Bool) (n : ℕ) (r : Option ℕ) → broken_or t n r ≡ None → (t ≡ false) × (r ≡ None)
unfolding broken_or
none_broken true n r h = let z : ◌≡◌ {A = ℕ} 0 1 = cc in absurd (omega arith)
none_broken false n r h = (refl, h)

-- the event of a row is not broken by itself
event_keeps : (c : Context) {s rows : List ℕ} (n k m : ℕ) → m - k ≤ n → BelowAt s rows k m → alone_fault c (components_by s rows k m) ≡ None
    → (p : ℕ) → k ≤ p → p < m → get_or rows (4 * p + 3) 0 ≡ 1 → breaks_alone (vevent_of c (component_by s rows p)) ≡ false
event_keeps c zero k m f b h p a l e = absurd (omega arith)
event_keeps c {s} {rows} (suc n) k m f b h p a l e =
    let z = below_next b (omega arith) in
    let w = none_broken (broken_alone c (component_scope (component_by s rows k)) (component_by s rows k)) (get_or rows (4 * k) 0) (alone_fault c (components_by s rows next m)) (sym (alone_next c s rows z) ∙ h) in
    go (eqb p k) (ltb p next) refl refl z w.0 (λ d y i. event_keeps c n next m d y w.1 p i l e)
  where
    next : ℕ
    next = get_or rows (4 * k + 2) 0

    go : (t u : Bool) → eqb p k ≡ t → ltb p next ≡ u → NextBelow s rows k m → broken_alone c (component_scope (component_by s rows k)) (component_by s rows k) ≡ false
        → (m - next ≤ n → BelowAt s rows next m → next ≤ p → breaks_alone (vevent_of c (component_by s rows p)) ≡ false) → breaks_alone (vevent_of c (component_by s rows p)) ≡ false
    go true u q v z w ih =
        let y : p ≡ k = eqb-true p k q in
        ap (λ (i : ℕ). breaks_alone (vevent_of c (component_by s rows i))) y ∙ row_alone c z.here.row (ap (λ (i : ℕ). get_or rows (4 * i + 3) 0) (sym y) ∙ e) w
    go false true q v z w ih = let y : p ≡ k → ⊥ = eqb-false p k q in absurd (omega (arith, e, z.quiet p (omega arith) (ltb-true p next v)))
    go false false q v z w ih = ih (omega (arith, z.here.onward)) z.after (ltb-false p next v)

block_keeps : (c : Context) (ks : List Component) → rule_fault c ks ≡ None → (k : Component) → Memᴰ k ks → component_scope k ≡ Scope.FreeBusy → block_broken (block_of c k) ≡ false
unfolding broken_alone
block_keeps c ks good k m e = sym (ap (λ (o : Scope). broken_alone c o k) e) ∙ (alone_good_iff c ks).0 (good_alone c ks good) k m

check_good : (r : RuleLine) → as_check r ≡ None → r ≡ all_keep
check_good all_keep h = refl
check_good (broken_at n) h = let z : ◌≡◌ {A = ℕ} 0 1 = cc in absurd (omega arith)

module _ {c : Context} {s index rows entries links exceptions : List ℕ} (x : ContextGood c) (h : FileRows s index rows) (g : LinkRows c s rows entries links exceptions (get_or rows 2 0))
    (good : rule_fault c (components_of s) ≡ None) where
  keeps_there : (p : ℕ) → p < get_or rows 2 0 → get_or rows (4 * p + 3) 0 ≡ 1 → breaks_alone (vevent_of c (component_by s rows p)) ≡ false
  keeps_there p l e =
      event_keeps c (get_or rows 2 0) 1 (get_or rows 2 0) (omega arith) (file_below_at h) (sym (ap (alone_fault c) (components_file c h)) ∙ good_alone c (components_of s) good) p (some p e) l e
    where
      some : (p : ℕ) → get_or rows (4 * p + 3) 0 ≡ 1 → 1 ≤ p
      some zero e = absurd (omega (arith, e, file_kind h))
      some (suc p) e = omega arith

  -- so of every event it can be asked what is taken away from it
  pub takeable : {k : ℕ} → k < get_or rows 2 0 → get_or rows (4 * k + 3) 0 ≡ 1 → Takeable c s index rows links exceptions k (get_or rows 2 0)
  unfolding excluded_at vevent_of
  takeable {k} l e =
      record {
        tied = (linked x h g).tied;
        one_each = λ j i. one_at c s rows links j (λ w. (g.stands j i w).ties) (λ w. keeps_there j i w);
        there = l;
        is_event_holds = e;
        one_uid = one_uid (vevent_of c (component_by s rows k)) (keeps_there k l e);
        order = (g.stands k l e).order;
        inside = (g.stands k l e).inside;
        excluded = (g.stands k l e).excluded;
      }

  -- and that is what the calendar says
  pub removed_file : {k : ℕ} → k < get_or rows 2 0 → get_or rows (4 * k + 3) 0 ≡ 1 → removed_at c s rows k (get_or rows 2 0) ≡ removed_from c (components_of s) (component_by s rows k)
  unfolding removed_at
  removed_file {k} l e =
      ap (λ (vs : List VEvent). starts_removed vs (vevent_of c (component_by s rows k))) (all_rows c h)
      ∙ sym (removed_event c (component_by s rows k) (components_of s) (row_scope c (event_there x h g k l e) e))

  -- no VEVENT breaks a rule
  all_keep_lem : (b : List VEvent) (w : VEvent) (d : List VEvent) → vevents c (components_of s) ≡ b ++ (w ∷ d) → Keeps b (vevents c (components_of s)) w
  all_keep_lem =
      (all_keep_iff (vevents c (components_of s))).0
      (check_good (broken_line (vevents c (components_of s))) (sym (by_vevents_whole c (components_of s) (λ k m e. block_keeps c (components_of s) good k m e)) ∙ good))

  -- so the starts that are taken away have room in one column
  pub removable : Removable c s index rows links exceptions (get_or rows 2 0)
  unfolding vevents_before vevents_from
  removable =
      let m = get_or rows 2 0 in
      let w = (file_below_at h).components.items in
      record {
        few = w.few;
        row_room = omega (arith, w.room);
        link_room = omega (arith, g.room, w.few);
        whole = refl;
        takeable = λ k l e. takeable l e;
        rising = g.rising;
        moved_few = λ k l. omega (arith, moved_rows k l, rows_few c s rows m 0, w.few);
        as_file = λ k l e. removed_file l e;
      }
    where
      moved_rows : (k : ℕ) → k ≤ get_or rows 2 0 → moved_count (vevents_before c s rows (get_or rows 2 0)) (vevents_before c s rows k) ≤ length (vevents_from c s rows 0 (get_or rows 2 0))
      moved_rows k l =
          let all = vevents_before c s rows (get_or rows 2 0) in
          let most : moved_count all all ≤ length (vevents_from c s rows 0 (get_or rows 2 0)) =
          subst (λ (vs : List VEvent). moved_count vs vs ≤ length vs) (sym (all_rows c h)) (moved_few (keeps_apart all_keep_lem)) in
          let z : all ≡ vevents_before c s rows k ++ vevents_from c s rows k (get_or rows 2 0 - k) = before_split c s rows k (get_or rows 2 0) l in
          omega (arith, most, moved_part all (vevents_before c s rows k) (vevents_from c s rows k (get_or rows 2 0 - k)), ap (moved_count all) z)

-- ---- from component to component

-- no component before row k breaks a rule; what is left tells the first that does, by itself and beside others
pub record Checking (c : Context) (s rows links : List ℕ) (m : ℕ) (alone : Option ℕ) (k : ℕ) : Type 0 where
  pub below : BelowAt s rows k m
  pub left : first_fault c (vevents_before c s rows k) (vevents_before c s rows m) (components_by s rows k m) ≡ rule_fault c (components_of s)
  pub alone_left : alone ≡ alone_fault c (components_by s rows k m)
  pub one_each : OneEach rows links k

pub checking_start : (c : Context) (links : List ℕ) {s index rows : List ℕ} {m : ℕ} {alone : Option ℕ} → FileRows s index rows → m ≡ get_or rows 2 0 → alone ≡ alone_fault c (components_of s)
    → Checking c s rows links m alone 1
unfolding rule_fault
checking_start c links {s} {index} {rows} h e a =
    rw e
    (record {
      below = file_below_at h;
      left =
          ap (λ (vs : List VEvent). first_fault c vs (vevents_before c s rows (get_or rows 2 0)) (components_by s rows 1 (get_or rows 2 0))) (none_first c h)
          ∙ ap (λ (vs : List VEvent). first_fault c [] vs (components_by s rows 1 (get_or rows 2 0))) (all_rows c h)
          ∙ sym (ap (first_fault c [] (vevents c (components_of s))) (components_file c h));
      alone_left = a ∙ ap (alone_fault c) (components_file c h);
      one_each = first;
    })
  where
    first : OneEach rows links 1
    first zero l = record { one_recurrence = λ w p. omega (arith, w, file_kind h); one_uid = λ w p. omega (arith, w, file_kind h) }
    first (suc j) l = absurd (omega arith)

module _ {c : Context} {s rows links : List ℕ} {m : ℕ} {alone : Option ℕ} {k : ℕ} (g : Checking c s rows links m alone k) where
  abbrev x : Component
  x = component_by s rows k

  pub next_here : k < m → NextBelow s rows k m
  next_here l = below_next g.below l

  alone_here : k < m → alone ≡ broken_or (broken_alone c (component_scope x) x) (get_or rows (4 * k) 0) (alone_fault c (components_by s rows (get_or rows (4 * k + 2) 0) m))
  alone_here l = g.alone_left ∙ alone_next c s rows (next_here l)

  module _ (l : k < m) {line stop : ℕ} (p : line ≡ get_or rows (4 * k) 0) (q : stop ≡ stop_line alone) where
    unstopped : line < stop → broken_alone c (component_scope x) x ≡ false
    unfolding stop_line broken_or
    unstopped n = go (broken_alone c (component_scope x) x) refl
      where
        go : (t : Bool) → broken_alone c (component_scope x) x ≡ t → broken_alone c (component_scope x) x ≡ false
        go false e = e
        go true e =
            let w : alone ≡ Some (get_or rows (4 * k) 0) =
            alone_here l ∙ ap (λ (b : Bool). broken_or b (get_or rows (4 * k) 0) (alone_fault c (components_by s rows (get_or rows (4 * k + 2) 0) m))) e
            in
            absurd (omega (arith, n, p, q, ap stop_line w))

    pub checking_reached : line < stop → Reached c s rows links k m
    checking_reached n = record { there = l; row = (next_here l).here.row; alone = unstopped n; one_each = g.one_each }

    pub checking_stopped : stop ≤ line → alone ≡ rule_fault c (components_of s)
    unfolding stop_line broken_or
    checking_stopped n = go alone (broken_alone c (component_scope x) x) refl refl
      where
        next : ℕ
        next = get_or rows (4 * k + 2) 0

        rest : List Component
        rest = components_by s rows next m

        go : (a : Option ℕ) (t : Bool) → alone ≡ a → broken_alone c (component_scope x) x ≡ t → alone ≡ rule_fault c (components_of s)
        go None t e f =
            let r = (next_here l).here.row in
            absurd (omega (arith, n, p, q, ap stop_line e, items_rise r.inner, r.inner.inside))
        go (Some i) true e f =
            alone_here l
            ∙ ap (λ (b : Bool). broken_or b (get_or rows (4 * k) 0) (alone_fault c rest)) f
            ∙ ap Some (sym (row_number c (next_here l).here.row))
            ∙ sym (first_alone c (vevents_before c s rows k) (vevents_before c s rows m) x rest f)
            ∙ sym (ap (first_fault c (vevents_before c s rows k) (vevents_before c s rows m)) (next_here l).here.list)
            ∙ g.left
        go (Some i) false e f =
            let w : alone_fault c rest ≡ Some i = broken_on (get_or rows (4 * k) 0) (alone_fault c rest) f (sym (alone_here l) ∙ e) in
            let y = alone_late c s rows m next m i (omega arith) (next_here l).after w in
            absurd (omega (arith, n, p, q, ap stop_line e, y.1, rise g.below.components.items.items l y.0))

    module _ {r : Bool} (z : r ≡ broken_beside c (vevents_before c s rows k) (vevents_before c s rows m) (component_scope x) x) where
      pub checking_broken : r ≡ true → Some line ≡ rule_fault c (components_of s)
      checking_broken y =
          ap Some (p ∙ sym (row_number c (next_here l).here.row))
          ∙ sym (first_beside c (vevents_before c s rows k) (vevents_before c s rows m) x (components_by s rows (get_or rows (4 * k + 2) 0) m) (sym z ∙ y))
          ∙ sym (ap (first_fault c (vevents_before c s rows k) (vevents_before c s rows m)) (next_here l).here.list)
          ∙ g.left

      pub checking_more : {index entries exceptions : List ℕ} → Linked c s index rows entries links exceptions m → line < stop → r ≡ false → {next : ℕ} → next ≡ get_or rows (4 * k + 2) 0
          → Checking c s rows links m alone next
      unfolding broken_or
      checking_more k' n y e =
          let w = next_here l in
          let rest = components_by s rows (get_or rows (4 * k + 2) 0) m in
          rw e
          (record {
            below = w.after;
            left =
                ap (λ (vs : List VEvent). first_fault c vs (vevents_before c s rows m) rest) (before_next c s rows w)
                ∙ sym (first_kept c (vevents_before c s rows k) (vevents_before c s rows m) x rest (unstopped n) (sym z ∙ y))
                ∙ sym (ap (first_fault c (vevents_before c s rows k) (vevents_before c s rows m)) w.here.list)
                ∙ g.left;
            alone_left = alone_here l ∙ ap (λ (b : Bool). broken_or b (get_or rows (4 * k) 0) (alone_fault c rest)) (unstopped n);
            one_each = λ j i. each j (ltb j k) (eqb j k) refl refl i (reached_one k' (checking_reached n)) w;
          })
        where
          each : (j : ℕ) (t u : Bool) → ltb j k ≡ t → eqb j k ≡ u → j < get_or rows (4 * k + 2) 0 → OneAt rows links k → NextBelow s rows k m → OneAt rows links j
          each j true u a b i o w = g.one_each j (ltb-true j k a)
          each j false true a b i o w = subst (OneAt rows links) (sym (eqb-true j k b)) o
          each j false false a b i o w =
              let y : j ≡ k → ⊥ = eqb-false j k b in
              let none : get_or rows (4 * j + 3) 0 ≡ 1 → ⊥ = λ d. omega (arith, d, w.quiet j (omega (arith, ltb-false j k a)) i) in
              record { one_recurrence = λ d f. none d; one_uid = λ d f. none d }

  pub checking_end : m ≤ k → alone ≡ rule_fault c (components_of s)
  unfolding first_fault alone_fault
  checking_end l =
      g.alone_left
      ∙ ap (alone_fault c) (components_none s rows l)
      ∙ sym (ap (first_fault c (vevents_before c s rows k) (vevents_before c s rows m)) (components_none s rows l))
      ∙ g.left
