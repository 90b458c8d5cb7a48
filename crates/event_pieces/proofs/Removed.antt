-- Laws of the pieces of events, row by row: those of the rows before and those from a row on make the whole.
use Rattle.std.specs.Prelude.{None, Option, Some}
use Prim.Native.Nat.{ℕ, ◌+◌, ◌*◌, ◌≤◌, ◌<◌}
use Rattle.events.specs.declared.Block.{Block}
use mathlib.Core.Path.{◌≡◌, refl, sym, ap, ◌∙◌}
use mathlib.Core.Bool.{Bool, true, false, cond}
use mathlib.Core.List.{List, [], ◌∷◌, ◌++◌, append-nil}
use native.Mathlib.Omega.{arith}
use borrow.Author.Tests.{ne_eqb, eq-eqb, eqb-true, eqb-false}
use lib.Dec.{eqb}
use lib.ListN.{get_or}
use Rattle.values.specs.declared.times.Context.{Context}
use Rattle.property.specs.declared.Scope.{Scope}
use Rattle.periods.specs.BusyTypes.{BusyPeriod}
use Rattle.nesting.specs.Components.{Component, properties_in}
use Rattle.structure.specs.Rows.{RowOf, component_by, components_by, BelowAt, FileRows}
use Rattle.structure.proofs.RowsLaws.{components_none, NextBelow, below_next, file_below_at}
use Rattle.events.specs.Events.{event}
use Rattle.events.specs.EntryRows.{event_at}
use Rattle.events.specs.declared.Event.{Event}
use Rattle.calendar.specs.Meaning.{component_scope, block_of, block_periods, removed_from, event_entry, block_entry, entry_of, entries_among, entries_of, components_of}
use Rattle.calendar.proofs.Meaning.{event_of_small}
use Rattle.pieces.specs.BusyPeriods.{event_periods, instance_periods, gathered}
use Rattle.pieces.specs.Pieces.{pieces_of}
use Rattle.pieces.specs.Columns.{Stored, Room}
use Rattle.pieces.proofs.BusyPeriods.{event_same, gathered_append}
use Rattle.pieces.proofs.Columns.{stored_none, stored_as}
use Rattle.pieces.proofs.Pieces.{pieces_of_none, pieces_of_append}
use Rattle.contents.specs.EntryRows.{EntryRows}
use Rattle.series.specs.Columns.{gone_at, RemovedRows}
use Rattle.event_pieces.specs.Removed.{RowKnown, row_periods}
use Rattle.component_lines.proofs.LinesStoring.{Left, left_start, left_then, left_none}
use Rattle.contents.proofs.RowKinds.{row_event, row_block, row_other}
use Rattle.contents.proofs.Contents.{components_file}

-- ---- the pieces of one row

module _ (rows entries places removed : List ℕ) (k a b : ℕ) {o : List ℕ} {n t : ℕ} (q : t ≡ get_or rows (4 * k + 3) 0) where
  pub row_stored : {o' : List ℕ} {r : ℕ} {e : Event} {g : List ℕ} → t ≡ 1 → e ≡ event_at entries k → g ≡ gone_at places removed k
      → Stored o n (pieces_of a b (event_periods e g)) o' r → Stored o n (pieces_of a b (row_periods rows entries places removed k)) o' r
  unfolding row_periods
  row_stored {e = e} {g = g} h x y d =
      stored_as d
      (ap (λ (i : Event). pieces_of a b (event_periods i g)) x
      ∙ ap (λ (l : List ℕ). pieces_of a b (event_periods (event_at entries k) l)) y
      ∙ sym (ap (λ (i : Bool). pieces_of a b (cond i (event_periods (event_at entries k) (gone_at places removed k)) [])) (eq-eqb _ 1 (sym q ∙ h))))

  pub row_left : (t ≡ 1 → ⊥) → Stored o n (pieces_of a b (row_periods rows entries places removed k)) o n
  unfolding row_periods
  row_left h =
      stored_as (stored_none o n)
      (sym
      (ap (λ (i : Bool). pieces_of a b (cond i (event_periods (event_at entries k) (gone_at places removed k)) [])) (ne_eqb _ 1 (λ z. h (q ∙ z)))
      ∙ pieces_of_none a b))

-- ---- the instances of entries

event_has : (e : Event) (gone : List ℕ) → gathered instance_periods (event e gone ∷ []) ≡ event_periods e gone
unfolding gathered instance_periods
event_has e gone = append-nil (event_periods e gone)

block_has : (r : Option Block) (ps : List BusyPeriod) → gathered instance_periods (block_entry r ps) ≡ []
unfolding gathered instance_periods
block_has (Some k) ps = refl
block_has None ps = refl

none_has : gathered instance_periods [] ≡ []
unfolding gathered
none_has = refl

-- a component has the periods of its row
module _ {c : Context} {s rows entries places removed : List ℕ} {m : ℕ} (h : EntryRows c s rows entries m) (z : RemovedRows c s rows places removed m)
    {k : ℕ} (r : RowOf s rows k) (l : k < m) where
  abbrev x : Component
  x = component_by s rows k

  abbrev all : List Component
  all = components_of s

  event_row_holds : get_or rows (4 * k + 3) 0 ≡ 1 → gathered instance_periods (entry_of c all (component_scope x) x) ≡ event_periods (event_at entries k) (gone_at places removed k)
  unfolding entry_of
  event_row_holds e =
      ap (λ (o : Scope). gathered instance_periods (entry_of c all o x)) (row_event r refl e)
      ∙ ap (λ (y : Option Event). gathered instance_periods (event_entry y (removed_from c all x))) (h.events k l e)
      ∙ event_has (event_at entries k) (removed_from c all x)
      ∙ event_same (event_at entries k) (removed_from c all x) (gone_at places removed k) (λ i. sym (z.same k l e i))

  block_row : get_or rows (4 * k + 3) 0 ≡ 2 → gathered instance_periods (entry_of c all (component_scope x) x) ≡ []
  unfolding entry_of
  block_row e =
      ap (λ (o : Scope). gathered instance_periods (entry_of c all o x)) (row_block r refl e) ∙ block_has (block_of c x) (block_periods c (properties_in x.items))

  other_row : (get_or rows (4 * k + 3) 0 ≡ 1 → ⊥) → (get_or rows (4 * k + 3) 0 ≡ 2 → ⊥) → gathered instance_periods (entry_of c all (component_scope x) x) ≡ []
  unfolding entry_of
  other_row e f = ap (λ (o : Scope). gathered instance_periods (entry_of c all o x)) (row_other r refl e f) ∙ none_has

  pub row_has : gathered instance_periods (entry_of c all (component_scope x) x) ≡ row_periods rows entries places removed k
  unfolding row_periods
  row_has = go (eqb (get_or rows (4 * k + 3) 0) 1) (eqb (get_or rows (4 * k + 3) 0) 2) refl refl
    where
      go : (t u : Bool) → eqb (get_or rows (4 * k + 3) 0) 1 ≡ t → eqb (get_or rows (4 * k + 3) 0) 2 ≡ u
          → gathered instance_periods (entry_of c all (component_scope x) x) ≡ cond t (event_periods (event_at entries k) (gone_at places removed k)) []
      go true u p q = event_row_holds (eqb-true _ 1 p)
      go false true p q = block_row (eqb-true _ 2 q)
      go false false p q = other_row (eqb-false _ 1 p) (eqb-false _ 2 q)

  pub row_known : RowKnown rows entries places removed k
  row_known =
      record {
        row_room = r.room;
        entry_room = omega (arith, r.few, h.room);
        event_small = λ e. event_of_small c x (event_at entries k) (h.events k l e);
        part = z.parts k l;
      }

-- ---- from component to component

-- the pieces of the instances of components, beside all of them
unfoldable pub instance_pieces : Context → ℕ → ℕ → List Component → List Component → List BusyPeriod
instance_pieces c a b all ks = pieces_of a b (gathered instance_periods (entries_among c all ks))

-- of all components, those from row k on are left
pub record StoringEvents (c : Context) (a b : ℕ) (s rows o₀ : List ℕ) (first m : ℕ) (o : List ℕ) (n k : ℕ) : Type 0 where
  pub below : BelowAt s rows k m
  pub still : Left o₀ first (instance_pieces c a b (components_of s) (components_by s rows 1 m)) o n (instance_pieces c a b (components_of s) (components_by s rows k m))

pub events_start : (c : Context) (a b : ℕ) {s index rows o : List ℕ} {first m : ℕ} → FileRows s index rows → Room o → first ≤ 513 → m ≡ get_or rows 2 0
    → StoringEvents c a b s rows o first m o first 1
events_start c a b {o = o} {first = first} h room few e = record { below = rw e (file_below_at h); still = left_start o first _ few room }

module _ {c : Context} {a b : ℕ} {s rows o₀ : List ℕ} {first m : ℕ} {o : List ℕ} {n k : ℕ} (g : StoringEvents c a b s rows o₀ first m o n k) where
  pub next_event : k < m → NextBelow s rows k m
  next_event l = below_next g.below l

  module _ {entries places removed : List ℕ} {p : ℕ} (h : EntryRows c s rows entries p) (z : RemovedRows c s rows places removed p) (w : m ≡ p) (l : k < m) where
    pub event_known : RowKnown rows entries places removed k
    event_known = row_known h z (next_event l).here.row (omega (arith, w))

    pieces_here : instance_pieces c a b (components_of s) (components_by s rows k m)
        ≡ pieces_of a b (row_periods rows entries places removed k) ++ instance_pieces c a b (components_of s) (components_by s rows (get_or rows (4 * k + 2) 0) m)
    unfolding instance_pieces entries_among
    pieces_here =
        let x = component_by s rows k in
        let rest = components_by s rows (get_or rows (4 * k + 2) 0) m in
        ap (λ (ks : List Component). pieces_of a b (gathered instance_periods (entries_among c (components_of s) ks))) (next_event l).here.list
        ∙ ap (pieces_of a b) (gathered_append instance_periods (entry_of c (components_of s) (component_scope x) x) (entries_among c (components_of s) rest))
        ∙ pieces_of_append a b (gathered instance_periods (entry_of c (components_of s) (component_scope x) x)) (gathered instance_periods (entries_among c (components_of s) rest))
        ∙ ap (λ (ps : List BusyPeriod). pieces_of a b ps ++ pieces_of a b (gathered instance_periods (entries_among c (components_of s) rest)))
        (row_has h z (next_event l).here.row (omega (arith, w)))

    pub events_more : {o' : List ℕ} {r next : ℕ} → Stored o n (pieces_of a b (row_periods rows entries places removed k)) o' r → next ≡ get_or rows (4 * k + 2) 0
        → StoringEvents c a b s rows o₀ first m o' r next
    events_more d q = rw q (record { below = (next_event l).after; still = left_then g.still pieces_here d })

  no_instances : instance_pieces c a b (components_of s) [] ≡ []
  unfolding instance_pieces entries_among gathered
  no_instances = pieces_of_none a b

  pub events_end : {index : List ℕ} → FileRows s index rows → m ≡ get_or rows 2 0 → m ≤ k
      → Stored o₀ first (pieces_of a b (gathered instance_periods (entries_of c (components_of s)))) o n
  unfolding entries_of instance_pieces
  events_end h w l =
      stored_as
      (left_none g.still (ap (instance_pieces c a b (components_of s)) (components_none s rows l) ∙ no_instances))
      (ap (instance_pieces c a b (components_of s)) (ap (components_by s rows 1) w ∙ sym (components_file h)))
