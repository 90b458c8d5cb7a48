-- Each way out of collecting: the refusal, the tables and the work buffer that goes with them.
use Rattle.std.specs.Prelude.{None, Some, Result, Ok, Err}
use Prim.Native.Nat.{ℕ}
use Rattle.std.specs.Result.{IsErrAnd}
use mathlib.Core.Path.{◌≡◌, sym, ap, ◌∙◌, refl, subst}
use mathlib.Core.Bool.{true, not, ◌&&◌}
use mathlib.Core.List.{List}
use lib.IntN.{ℤ}
use Rattle.text.specs.Unfolding.{unfolded}
use Rattle.time.specs.Limits.{range_good}
use Rattle.periods.specs.declared.BusyType.{BusyType}
use Rattle.events.specs.Events.{Entry}
use Rattle.calendar.specs.Meaning.{entries_of, components_of}
use Rattle.calendar.specs.declared.Refusal.{Refusal}
use Rattle.refusals.specs.Refusals.{Row, first_refusal}
use Rattle.refusals.specs.Offsets.{offset_good, shift_of, context_of}
use Rattle.refusals.specs.Stages.{size_fault, work_by}
use Rattle.refusals.proofs.Offsets.{read_good}
use Rattle.refusals.proofs.Refusals.{row_applies, row_passed, stage_passed, stage_refused}
use Rattle.collecting.specs.CalendarTerms.{CalendarTerms, stamp_good, entries_in, covered_in, pieces_for, report_for, terms_row, early_rows, late_rows, collect_rows}
use Rattle.collecting.specs.Collecting.{periods_by, Collects}
use Rattle.collecting.specs.CollectStages.{call_read, Tabled, unless_fault, fewest_periods, piece_rows, CalendarCollected}
use Rattle.periods.specs.declared.Counts.{Counts}
use Rattle.collecting.proofs.CollectStages.{tabled_up, tabled_passed, read_call_good, read_call_bad}

-- ---- the whole call

module _ (cal : List ℕ) (a e : ℕ) (o : ℤ) (t : ℕ) (work : List ℕ) where
  abbrev call : CalendarTerms
  call = record { calendar = cal; start = a; end = e; offset = o; stamp = t; work = work }

  abbrev entries : List Entry
  entries = entries_of (context_of o) (components_of (unfolded cal))

  periods_same : (f : Result (Unit {0}) Refusal) (b : BusyType) → unless_fault f (fewest_periods a e entries b) ≡ periods_by f call b
  unfolding unless_fault fewest_periods periods_by report_for covered_in entries_in
  periods_same (Ok _) b = refl
  periods_same (Err r) b = refl

  -- by the rows that decide, and by those that are asked before the calendar is unfolded
  collects : {rows : List Row} {r : Result Counts Refusal} {ss es : List ℕ} {f : Result (Unit {0}) Refusal} {left : List ℕ} → first_refusal (collect_rows call) ≡ first_refusal rows
      → Tabled rows (fewest_periods a e entries) r ss es → first_refusal (early_rows call) ≡ f → left ≡ work_by f cal work
      → Collects call r ss es left
  collects q g h w =
      let p = tabled_passed q g in
      record {
        fault_is = p.fault_is;
        work_left_is = w ∙ ap (λ (y : Result (Unit {0}) Refusal). work_by y cal work) (sym h);
        periods_are = λ b u. p.periods_are b u ∙ periods_same (first_refusal (collect_rows call)) b;
        few = p.few;
      }

  collect_early : {f : Refusal} {r : Result Counts Refusal} {ss es : List ℕ} → first_refusal (early_rows call) ≡ Err f → IsErrAnd r (λ y. y ≡ f) → Collects call r ss es work
  unfolding collect_rows work_by
  collect_early q k =
      collects {rows = early_rows call} (stage_refused (early_rows call) (late_rows call) q ∙ sym q) (tabled_up q k) q refl

  pub collect_refused_1 : {ss es : List ℕ} → call_read a e o t ≡ None → Collects call (Err (record { number = 1; line = 0 })) ss es work
  unfolding early_rows terms_row
  collect_refused_1 q = collect_early (row_applies _ _ (ap not (read_call_bad a e t o q))) refl

  module _ {s : ℕ} (q : call_read a e o t ≡ Some s) where
    call_passed : (range_good a e && stamp_good t && offset_good o) ≡ true
    call_passed = let h = read_call_good a e t o q in rw (h.0, h.1, (read_good o h.2).0)

    early_left : first_refusal (early_rows call) ≡ size_fault cal work
    unfolding early_rows terms_row size_fault
    early_left = row_passed _ _ (ap not call_passed)

    pub collect_refused_sizes : {f : Refusal} {r : Result Counts Refusal} {ss es : List ℕ} → size_fault cal work ≡ Err f → IsErrAnd r (λ y. y ≡ f) → Collects call r ss es work
    collect_refused_sizes z k = collect_early (early_left ∙ z) k

    pub collect_sizes_passed : {r : Result Counts Refusal} {ss es left : List ℕ} → size_fault cal work ≡ Ok tt → CalendarCollected (record { shift = s }) cal work a e r ss es left
        → Collects call r ss es left
    unfolding context_of collect_rows late_rows piece_rows pieces_for entries_in
    collect_sizes_passed {r} {ss} {es} {left} z g =
        let none = early_left ∙ z in
        let same : s ≡ shift_of o = (read_good o (read_call_good a e t o q).2).1 in
        let k = subst (λ (y : ℕ). CalendarCollected (record { shift = y }) cal work a e r ss es left) same g in
        collects (stage_passed (early_rows call) (late_rows call) none) k.tabled none k.work_left
