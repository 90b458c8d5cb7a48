-- Laws of the time range of one component: the periods of its lines, its ends, and what its row tells.
use Rattle.std.specs.Prelude.{None, Option, Some}
use Prim.Native.Nat.{ℕ, zero, suc, ◌+◌, ◌-◌, ◌*◌, ◌≤◌, ◌<◌}
use mathlib.Core.Path.{◌≡◌, refl, sym, ap, ◌∙◌, subst}
use mathlib.Core.Bool.{Bool, true, false, cond, not, ◌||◌, or-false}
use mathlib.Core.List.{List}
use native.Mathlib.Omega.{arith}
use lib.ListN.{get_or, length}
use borrow.Author.Tests.{not-true}
use Rattle.periods.proofs.BusyTypes.{periods_of_typed, periods_of_append}
use Rattle.time.specs.Limits.{last_second}
use Rattle.ascii.proofs.Bools.{clash}
use Rattle.query.specs.Records.{range_start, range_end}
use Rattle.query.specs.declared.Sections.{Sections}
use Rattle.query.specs.Counting.{some_below}
use Rattle.query.proofs.Counting.{none_at}
use Rattle.line.specs.Grammar.{ContentLine}
use Rattle.line.specs.Reading.{value_of, line_of}
use Rattle.values.specs.Period.{good_periods, period_items}
use Rattle.values.specs.declared.times.Context.{Context}
use Rattle.periods.specs.declared.Period.{Period}
use Rattle.property.specs.Properties.{property_value_of, gives_periods}
use Rattle.property.specs.declared.Scope.{Scope}
use Rattle.property.specs.Facts.{Reading, unread, fault, of, span, repeats, busy, identity, periods}
use Rattle.delimiters.specs.Innermost.{is_event, is_free_busy}
use Rattle.nesting.specs.Components.{Numbered, properties_in, Component}
use Rattle.index.specs.Index.{line_bytes}
use Rattle.structure.specs.Rows.{kind_of, numbered_line, RowOf, component_by, FileRows}
use Rattle.structure.proofs.RowsLaws.{rows_rise, inner_components, file_next, file_top_at}
use Rattle.property_tests.proofs.PropertyTests.{SomeOf}
use Rattle.periods.specs.BusyTypes.{periods_of}
use Rattle.events.specs.EntryRows.{event_at, block_at}
use Rattle.events.specs.declared.Event.{Event}
use Rattle.events.specs.declared.Block.{Block}
use Rattle.nesting.specs.Files.{tree_in}
use Rattle.calendar.specs.Meaning.{scope_of, component_scope, event_of, block_of, periods_by, block_periods, removed_from}
use Rattle.calendar.specs.Periods.{periods_from, NextPeriod, NoPeriod}
use Rattle.calendar.proofs.Periods.{periods_all}
use Rattle.calendar.proofs.Meaning.{event_of_small}
use Rattle.events.specs.Sizes.{EventSmall}
use Rattle.recurrence.specs.TimeRange.{overlaps, instance_in, EventIn, between_in, periods_overlap, bounds_in, block_in, Decides}
use Rattle.recurrence.specs.Candidates.{FirstCandidate, MoreCandidates}
use Rattle.recurrence.proofs.Candidates.{in_range_few, search_ends}
use Rattle.recurrence.proofs.TimeRange.{decided_once, periods_append}
use Rattle.recurrence.specs.Instances.{instances_at_most}
use Rattle.contents.specs.EntryRows.{EntryRows}
use Rattle.filter.specs.Tests.{Whole, whole_of, event_in, block_range_in, component_in, range_holds}
use Rattle.filter.specs.Ranges.{line_in, lines_in, Given, Here, RowSmall, EndsOutside, RowOutside, RuledOut, Among}
use Rattle.filter.proofs.Tests.{Beside, beside_here}

-- ---- the periods of a value: none before `at` overlaps the range

pub record Overlapping (a b : ℕ) (v : List ℕ) (at : ℕ) : Type 0 where
  pub rest : periods_overlap a b (periods_from v at) ≡ periods_overlap a b (periods_from v 0)

pub overlapping_start : (a b : ℕ) (v : List ℕ) → Overlapping a b v 0
overlapping_start a b v = record { rest = refl }

module _ {a b : ℕ} {v : List ℕ} {at : ℕ} (r : Overlapping a b v at) where
  module _ {p : Period} {next : ℕ} {t : Bool} (h : NextPeriod v at p next) (q : t ≡ overlaps a b p.start p.end) where
    overlapping_here : (t || periods_overlap a b (periods_from v next)) ≡ periods_overlap a b (periods_from v 0)
    unfolding periods_overlap
    overlapping_here = ap (λ (x : Bool). x || periods_overlap a b (periods_from v next)) q ∙ ap (periods_overlap a b) (sym h.periods) ∙ r.rest

    pub overlapping_next : t ≡ false → Overlapping a b v next
    overlapping_next z = record { rest = ap (λ (x : Bool). x || periods_overlap a b (periods_from v next)) (sym z) ∙ overlapping_here }

    pub overlapping_found : t ≡ true → true ≡ periods_overlap a b (periods_from v 0)
    overlapping_found z = ap (λ (x : Bool). x || periods_overlap a b (periods_from v next)) (sym z) ∙ overlapping_here

  pub overlapping_end : NoPeriod v at → false ≡ periods_overlap a b (periods_from v 0)
  unfolding periods_overlap
  overlapping_end h = ap (periods_overlap a b) (sym h.periods) ∙ r.rest

-- ---- one line

given_overlap : (a b : ℕ) (o : Reading) (x : ContentLine) → gives_periods o ≡ true
    → periods_overlap a b (good_periods (period_items x.value)) ≡ periods_overlap a b (periods_of (periods_by o x))
unfolding gives_periods periods_by
given_overlap a b unread x h = clash h refl
given_overlap a b (fault f) x h = clash h refl
given_overlap a b (of (span f)) x h = clash h refl
given_overlap a b (of (repeats r)) x h = clash h refl
given_overlap a b (of (busy f)) x h = clash h refl
given_overlap a b (of (identity f)) x h = clash h refl
given_overlap a b (of (periods t)) x h = ap (periods_overlap a b) (sym (periods_of_typed t (good_periods (period_items x.value))))

ungiven_overlap : (a b : ℕ) (o : Reading) (x : ContentLine) → gives_periods o ≡ false → false ≡ periods_overlap a b (periods_of (periods_by o x))
unfolding gives_periods periods_by periods_overlap
ungiven_overlap a b unread x h = refl
ungiven_overlap a b (fault f) x h = refl
ungiven_overlap a b (of (span f)) x h = refl
ungiven_overlap a b (of (repeats r)) x h = refl
ungiven_overlap a b (of (busy f)) x h = refl
ungiven_overlap a b (of (identity f)) x h = refl
ungiven_overlap a b (of (periods t)) x h = clash refl h

module _ (c : Context) (a b : ℕ) where
  module _ (l : List ℕ) {t : Bool} (q : t ≡ gives_periods (property_value_of c Scope.FreeBusy (line_of l))) where
    pub line_overlaps : {v : List ℕ} {r : Bool} → t ≡ true → v ≡ value_of l → r ≡ periods_overlap a b (periods_from v 0) → r ≡ line_in c a b (line_of l)
    unfolding line_in line_of
    line_overlaps z x y =
        y
        ∙ ap (λ (w : List ℕ). periods_overlap a b (periods_from w 0)) x
        ∙ ap (periods_overlap a b) (periods_all (value_of l))
        ∙ given_overlap a b (property_value_of c Scope.FreeBusy (line_of l)) (line_of l) (sym q ∙ z)

    pub line_gives_none : t ≡ false → false ≡ line_in c a b (line_of l)
    unfolding line_in
    line_gives_none z = ungiven_overlap a b (property_value_of c Scope.FreeBusy (line_of l)) (line_of l) (sym q ∙ z)

  pub period_lines_holds : SomeOf (lines_in c a b) (line_in c a b)
  unfolding lines_in line_in block_periods periods_overlap
  period_lines_holds =
      record {
        no_line = refl;
        a_line = λ x xs.
            let ps = periods_by (property_value_of c Scope.FreeBusy x.line) x.line in
            ap (periods_overlap a b) (periods_of_append ps (block_periods c xs)) ∙ periods_append a b (periods_of ps) (periods_of (block_periods c xs));
      }

  -- ---- a block

  module _ (k : Block) (xs : List Numbered) where
    pub both_ends : (x y : ℕ) {r : Bool} → k.start ≡ Some x → k.end ≡ Some y → r ≡ between_in a b x y → r ≡ block_in k (block_periods c xs) a b
    unfolding block_in bounds_in
    both_ends x y p q e =
        e ∙ sym (ap (λ (w : Option ℕ). bounds_in a b w k.end (block_periods c xs)) p ∙ ap (λ (w : Option ℕ). bounds_in a b (Some x) w (block_periods c xs)) q)

    pub no_end : (x : ℕ) {r : Bool} → k.start ≡ Some x → k.end ≡ None → r ≡ lines_in c a b xs → r ≡ block_in k (block_periods c xs) a b
    unfolding block_in bounds_in lines_in
    no_end x p q e =
        e ∙ sym (ap (λ (w : Option ℕ). bounds_in a b w k.end (block_periods c xs)) p ∙ ap (λ (w : Option ℕ). bounds_in a b (Some x) w (block_periods c xs)) q)

    none_first : (w : Option ℕ) → periods_overlap a b (periods_of (block_periods c xs)) ≡ bounds_in a b None w (block_periods c xs)
    unfolding bounds_in
    none_first (Some y) = refl
    none_first None = refl

    pub no_start : {r : Bool} → k.start ≡ None → r ≡ lines_in c a b xs → r ≡ block_in k (block_periods c xs) a b
    unfolding block_in lines_in
    no_start p e = e ∙ none_first k.end ∙ sym (ap (λ (w : Option ℕ). bounds_in a b w k.end (block_periods c xs)) p)

-- the ends of a block, against the range
module _ (x : Block) (a b : ℕ) where
  pub between_outside : (y z : ℕ) {r : Bool} → x.start ≡ Some y → x.end ≡ Some z → r ≡ between_in a b y z → not r ≡ true → EndsOutside x a b
  unfolding block_in bounds_in
  between_outside y z p q e n =
      record {
        outside = λ ps.
            ap (λ (w : Option ℕ). bounds_in a b w x.end ps) p ∙ ap (λ (w : Option ℕ). bounds_in a b (Some y) w ps) q ∙ sym e ∙ not-true _ n;
      }

  pub no_outside : false ≡ true → EndsOutside x a b
  no_outside e = clash e refl

-- ---- an event

pub some_at : (e : Event) (gone : List ℕ) (a b n : ℕ) → some_below n (instance_in e gone a b) ≡ true → EventIn e gone a b
unfolding some_below
some_at e gone a b zero h = clash h refl
some_at e gone a b (suc n) h = go (instance_in e gone a b n) refl (some_at e gone a b n)
  where
    go : (t : Bool) → instance_in e gone a b n ≡ t → (some_below n (instance_in e gone a b) ≡ true → EventIn e gone a b) → EventIn e gone a b
    go true q below = record { number = n; passes = q }
    go false q below =
        below (sym (ap (λ (t : Bool). some_below n (instance_in e gone a b) || t) q ∙ or-false (some_below n (instance_in e gone a b))) ∙ h)

-- so few instances decide
pub some_decides : {e : Event} (gone : List ℕ) (a b : ℕ) → EventSmall e → b ≤ last_second → Decides (some_below instances_at_most (instance_in e gone a b)) (EventIn e gone a b)
some_decides {e} gone a b h p = go (some_below instances_at_most (instance_in e gone a b)) refl
  where
    go : (t : Bool) → some_below instances_at_most (instance_in e gone a b) ≡ t → Decides t (EventIn e gone a b)
    go true q = record { holds = λ z. some_at e gone a b instances_at_most q; fails = λ z i. clash refl z }
    go false q =
        record {
          holds = λ z. clash z refl;
          fails = λ z i. clash i.passes (none_at (instance_in e gone a b) instances_at_most i.number (in_range_few gone a b i.number h p i.passes) q);
        }

-- an event without an instance from the first candidate on is in no range
pub none_from : {e : Event} {a b k : ℕ} {r : Bool} → EventSmall e → b ≤ last_second → FirstCandidate e a k → MoreCandidates e b k r → not r ≡ true
    → (gone : List ℕ) → some_below instances_at_most (instance_in e gone a b) ≡ false
none_from {e} {a} {b} {k} h p f m n gone =
    sym (decided_once false _ (search_ends k (f.none_before gone b) (m.none_from (not-true _ n) gone a)) (some_decides gone a b h p))

-- ---- what a component is, by its row

module _ (v : List ℕ) where
  kind_scope : {P : Type 0} → (kind_of v ≡ 1 → scope_of v ≡ Scope.Event → P) → (kind_of v ≡ 2 → scope_of v ≡ Scope.FreeBusy → P)
      → (kind_of v ≡ 0 → scope_of v ≡ Scope.Other → P) → P
  unfolding kind_of scope_of
  kind_scope {P} f g h = go (is_event v) (is_free_busy v) f g h
    where
      go : (x y : Bool)
          → (◌≡◌ {A = ℕ} (cond x 1 (cond y 2 0)) 1 → cond x Scope.Event (cond y Scope.FreeBusy Scope.Other) ≡ Scope.Event → P)
          → (◌≡◌ {A = ℕ} (cond x 1 (cond y 2 0)) 2 → cond x Scope.Event (cond y Scope.FreeBusy Scope.Other) ≡ Scope.FreeBusy → P)
          → (◌≡◌ {A = ℕ} (cond x 1 (cond y 2 0)) 0 → cond x Scope.Event (cond y Scope.FreeBusy Scope.Other) ≡ Scope.Other → P)
          → P
      go true y f g h = f refl refl
      go false true f g h = g refl refl
      go false false f g h = h refl refl

-- a component's row tells what it is
pub by_kind : {P : Type 0} {s rows : List ℕ} {k : ℕ} → RowOf s rows k
    → (get_or rows (4 * k + 3) 0 ≡ 1 → component_scope (component_by s rows k) ≡ Scope.Event → P)
    → (get_or rows (4 * k + 3) 0 ≡ 2 → component_scope (component_by s rows k) ≡ Scope.FreeBusy → P)
    → (get_or rows (4 * k + 3) 0 ≡ 0 → component_scope (component_by s rows k) ≡ Scope.Other → P) → P
unfolding component_scope component_by numbered_line line_of
by_kind {P} {s} {rows} {k} r f g h =
    kind_scope (value_of (line_bytes s (get_or rows (4 * k) 0 - 1))) (λ x y. f (r.kind ∙ x) y) (λ x y. g (r.kind ∙ x) y) (λ x y. h (r.kind ∙ x) y)

module _ {c : Context} {s index rows column : List ℕ} (g : Given c s index rows column) {k : ℕ} (h : Here s rows k) where
  -- its row is one of the file's
  pub row_number : k < get_or rows 2 0
  row_number = omega (arith, rows_rise h.row.inner.items, h.within)

  pub event_of_holds : get_or rows (4 * k + 3) 0 ≡ 1 → event_of c (component_by s rows k) ≡ Some (event_at column k)
  event_of_holds e = g.entries.events k row_number e

  pub block_of_holds : get_or rows (4 * k + 3) 0 ≡ 2 → block_of c (component_by s rows k) ≡ Some (block_at column k)
  block_of_holds e = g.entries.blocks k row_number e

  pub row_small : RowSmall rows column k
  row_small =
      record {
        row_room = h.row.room;
        entry_room = omega (arith, h.row.few, g.entries.room);
        event_small = λ e. event_of_small c (component_by s rows k) (event_at column k) (event_of_holds e);
      }

  -- what one look at the row rules out is not in the range
  pub outside_fails : (a b : ℕ) → RowOutside rows column k a b → component_in (whole_of c (tree_in s)) (component_scope (component_by s rows k)) (component_by s rows k) a b ≡ false
  unfolding component_in event_in block_range_in whole_of
  outside_fails a b o =
      let x = component_by s rows k in
      let w : Whole = whole_of c (tree_in s) in
      by_kind h.row
      (λ e y.
      ap (λ (v : Scope). component_in w v x a b) y
      ∙ ap (λ (v : Option Event). event_in v (removed_from c w.components x) a b) (event_of_holds e)
      ∙ o.no_instance e (removed_from c w.components x))
      (λ e y.
      ap (λ (v : Scope). component_in w v x a b) y
      ∙ ap (λ (v : Option Block). block_range_in c x v a b) (block_of_holds e)
      ∙ (o.no_block e).outside (block_periods c (properties_in x.items)))
      (λ e y. ap (λ (v : Scope). component_in w v x a b) y)

  pub ruled_out_fails : (p : List ℕ) (q : Sections) (r : ℕ) → RuledOut p q r rows column k → range_holds (whole_of c (tree_in s)) p q r (component_by s rows k) ≡ false
  unfolding range_holds
  ruled_out_fails p q zero o = absurd (omega (arith, o.some))
  ruled_out_fails p q (suc r) o =
      let n : suc r - 1 ≡ r = omega arith in
      outside_fails (range_start p q r) (range_end p q r) (subst (λ (i : ℕ). RowOutside rows column k (range_start p q i) (range_end p q i)) n o.outside)

-- ---- which rows are the file's

-- the components in that of a row
pub inner_among : {s rows : List ℕ} {k n : ℕ} → Here s rows k → n ≡ get_or rows (4 * k + 2) 0 → Among s rows (k + 1) n
inner_among h q = rw q (record { components = inner_components h.row; within = h.within })

pub beside_file : {f : List Component → Bool} {s rows : List ℕ} {first m k : ℕ} → Beside f s rows first m k → k < m → m ≤ get_or rows 2 0 → Here s rows k
beside_file r h w = let x = beside_here r h in record { row = x.row; within = omega (arith, x.within) }

module _ {s index rows : List ℕ} (h : FileRows s index rows) where
  pub file_room : 4 * 0 + 4 ≤ length rows
  file_room = (file_next h).row.room

  pub file_given : {c : Context} {column : List ℕ} → EntryRows c s rows column (get_or rows 2 0) → Given c s index rows column
  file_given e = record { indexed = h.indexed; entries = e }

  pub file_among : {n : ℕ} → n ≡ get_or rows 2 0 → Among s rows 0 n
  file_among q = rw q (record { components = file_top_at h; within = omega arith })
