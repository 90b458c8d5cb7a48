-- The rows of a report call and what is known where none applies; from its collected tables on,
-- the rows that are left, what can be written, and the outcome at each way out.
use Rattle.std.specs.Prelude.{Result, Ok, Err}
use Prim.Native.Nat.{ℕ, ◌≤◌}
use mathlib.Core.Path.{◌≡◌, refl, sym, ap, ◌∙◌, subst}
use mathlib.Core.Bool.{false, true, ◌&&◌}
use mathlib.Core.List.{List, Memᴰ}
use native.Mathlib.Omega.{arith}
use lib.ListN.{length}
use lib.IntN.{ℤ}
use borrow.Author.Tests.{ltb-false, not-false}
use Rattle.ascii.proofs.Bools.{not_so, and_left, and_right}
use Rattle.time.specs.Limits.{range_good}
use Rattle.periods.specs.declared.BusyType.{BusyType}
use Rattle.periods.specs.BusyTypes.{is_busy}
use Rattle.table.specs.Seconds.{seconds_in}
use Rattle.report.specs.Bytes.{period_count, Report, report_bytes, GoodPeriods, Writable}
use Rattle.report.specs.Writing.{packed, report_of}
use Rattle.report.proofs.Bytes.{equal_bytes}
use Rattle.calendar.specs.declared.Refusal.{Refusal}
use Rattle.calendar.specs.Refused.{refusal_of}
use Rattle.refusals.specs.Refusals.{NoneApplies, Row, size_rows, structure_rows, calendar_rows, contents_rows, first_refusal}
use Rattle.refusals.specs.Offsets.{offset_good}
use Rattle.refusals.proofs.Refusals.{none_iff, stage_passed, stage_refused}
use Rattle.collecting.specs.CalendarTerms.{terms_row, early_rows, piece_row, late_rows, collect_rows, stamp_good, pieces_for, report_for, CalendarTerms}
use Rattle.collecting.specs.Collecting.{periods_by, Collects}
use Rattle.collecting.specs.CollectStages.{periods_in}
use Rattle.periods.specs.declared.Counts.{Counts}
use Rattle.collecting.proofs.CalendarTerms.{periods_few, writable}
use Rattle.engine.specs.declared.Answer.{Answer}
use Rattle.engine.specs.declared.ReportSeconds.{ReportSeconds}
use Rattle.engine.specs.Reporting.{ReportCall, report_rows, report_outcome, output_after, seconds_told, Reported, ReportedSeconds}
use Rattle.engine.specs.Answers.{Outcome, report, refusal, outcome_of, answer_by, length_in, unless_refused}
use Rattle.engine.specs.ReportWriting.{write_rows, write_outcome, Wrote, WroteCounted}
use Rattle.engine.proofs.Answers.{refused, answer_by_lem}

-- no row of a call that nothing refuses applies
pub not_applied : (m : ReportCall) → NoneApplies (report_rows m) → {r : Row} → Memᴰ r (report_rows m) → r.applies ≡ false
unfolding NoneApplies
not_applied m h {r} l = not_so r.applies (λ e. h r.number r.line (record { which = r; listed = l; numbered = refl; lined = refl; applies = e }))

-- ---- what is known where nothing refuses

module _ (m : ReportCall) (h : NoneApplies (report_rows m)) where
  first_row : (range_good m.terms.start m.terms.end && stamp_good m.terms.stamp && offset_good m.terms.offset) ≡ true
  unfolding report_rows collect_rows early_rows terms_row
  first_row = not-false _ (not_applied m h (Memᴰ.head refl))

  pub range_good_holds : range_good m.terms.start m.terms.end ≡ true
  range_good_holds = and_left (range_good m.terms.start m.terms.end) _ (and_left (range_good m.terms.start m.terms.end && stamp_good m.terms.stamp) _ first_row)

  pub stamp_good_holds : stamp_good m.terms.stamp ≡ true
  stamp_good_holds = and_right (range_good m.terms.start m.terms.end) _ (and_left (range_good m.terms.start m.terms.end && stamp_good m.terms.stamp) _ first_row)

  pub few_pieces : length (pieces_for m.terms) ≤ 512
  unfolding report_rows collect_rows early_rows late_rows size_rows calendar_rows structure_rows contents_rows piece_row
  few_pieces =
      ltb-false _ _
      (not_applied m h
      (Memᴰ.tail
      (Memᴰ.tail
      (Memᴰ.tail
      (Memᴰ.tail (Memᴰ.tail (Memᴰ.tail (Memᴰ.tail (Memᴰ.tail (Memᴰ.head refl))))))))))

pub few_periods : (m : ReportCall) → NoneApplies (report_rows m) → period_count (report_for m.terms) ≤ 512
few_periods m h = omega (arith, periods_few m.terms (range_good_holds m h), few_pieces m h)

-- ---- the rows that are left once the tables are collected

module _ (m : CalendarTerms) where
  first_good : first_refusal (collect_rows m) ≡ Ok tt → (range_good m.start m.end && stamp_good m.stamp && offset_good m.offset) ≡ true
  unfolding collect_rows early_rows terms_row NoneApplies
  first_good e =
      not-false _
      (not_so _ (λ h. (none_iff (collect_rows m)).0 e 1 0 (record { which = _; listed = Memᴰ.head refl; numbered = refl; lined = refl; applies = h })))

  -- range and stamp are good, so the report keeps the limits
  collect_writable : first_refusal (collect_rows m) ≡ Ok tt → Writable (report_for m)
  collect_writable e =
      let two = and_left (range_good m.start m.end && stamp_good m.stamp) _ (first_good e) in
      writable m (and_left (range_good m.start m.end) _ two) (and_right (range_good m.start m.end) _ two)

-- ---- the tables

module _ {m : CalendarTerms} {r : Result Counts Refusal} {ss es left : List ℕ} (k : Collects m r ss es left) where
  -- the call with an output
  abbrev into : List ℕ → ReportCall
  into out = record { terms = m; output = out }

  module _ {v : Counts} (e : r ≡ Ok v) where
    abbrev told : Report
    told = report_of m.start m.end m.stamp (periods_in (Ok v) ss es)

    none_collected : first_refusal (collect_rows m) ≡ Ok tt
    none_collected = sym k.fault_is ∙ ap refusal_of e

    periods_told : (b : BusyType) → is_busy b ≡ true → told.periods b ≡ (report_for m).periods b
    unfolding report_of periods_by
    periods_told b u = ap (λ (x : Result Counts Refusal). periods_in x ss es b) (sym e) ∙ k.periods_are b u ∙ ap (λ (f : Result (Unit {0}) Refusal). periods_by f m b) none_collected

    busy_good : (b : BusyType) → is_busy b ≡ true → GoodPeriods (told.periods b)
    busy_good b u = subst GoodPeriods (sym (periods_told b u)) ((collect_writable m none_collected).periods_good b)

    told_good : (b : BusyType) → GoodPeriods (told.periods b)
    unfolding report_of packed is_busy
    told_good BusyType.Busy = busy_good BusyType.Busy refl
    told_good BusyType.Tentative = busy_good BusyType.Tentative refl
    told_good BusyType.Unavailable = busy_good BusyType.Unavailable refl
    told_good BusyType.Free = GoodPeriods.none

    pub told_writable : Writable told
    unfolding report_of report_for
    told_writable =
        let w = collect_writable m none_collected in
        record { start_first = w.start_first; end_limit = w.end_limit; stamp_limit = w.stamp_limit; periods_good = told_good }

    told_bytes : report_bytes told ≡ report_bytes (report_for m)
    unfolding report_of report_for
    told_bytes = equal_bytes told (report_for m) refl refl refl periods_told

    module _ (out : List ℕ) where
      -- the rows that are left are those of the writing
      rows_left : first_refusal (report_rows (into out)) ≡ first_refusal (write_rows (report_bytes (report_for m)) out)
      unfolding report_rows write_rows
      rows_left = stage_passed (collect_rows m) _ none_collected

      -- the outcome is that of the writing
      outcome_left : report_outcome (into out) ≡ write_outcome (report_bytes (report_for m)) out
      unfolding report_outcome write_outcome
      outcome_left = ap (λ (f : Result (Unit {0}) Refusal). unless_refused f (report (length (report_bytes (report_for m))))) rows_left

    -- what was written is the report, with its refusal, its length and its seconds
    pub seconds_written : {out out-left : List ℕ} {w : ReportSeconds} → WroteCounted told out w out-left → ReportedSeconds (into out) w left out-left
    unfolding report_of
    seconds_written {out} {out-left} {w} x =
        let v = subst (λ (y : List ℕ). Wrote y out w.written out-left) told_bytes x.wrote in
        record {
          fault_is = v.fault_is ∙ sym (rows_left out);
          length_is = v.length_is ∙ ap length_in (sym (outcome_left out));
          work_left_is = k.work_left_is;
          output_left_is = v.output_left_is ∙ ap (λ (o : Outcome). output_after o (report_bytes (report_for m)) out) (sym (outcome_left out));
          seconds_are = λ b u. x.seconds_are b u ∙ ap seconds_in (ap (λ (y : Result Counts Refusal). periods_in y ss es b) (sym e) ∙ k.periods_are b u);
        }

  -- a refusal of the tables is the call's, and there are no seconds
  pub seconds_refused : {q : Refusal} {out : List ℕ} → r ≡ Err q
      → ReportedSeconds (into out) (record { written = Err q; busy = 0; tentative = 0; unavailable = 0 }) left out
  unfolding report_outcome report_rows length_in output_after seconds_in seconds_told periods_by
  seconds_refused {q} {out} e =
      let f = sym k.fault_is ∙ ap refusal_of e in
      let o : report_outcome (into out) ≡ refusal q.number q.line = refused _ (stage_refused (collect_rows m) _ f) in
      record {
        fault_is = sym (stage_refused (collect_rows m) _ f);
        length_is = ap length_in (sym o);
        work_left_is = k.work_left_is;
        output_left_is = ap (λ (x : Outcome). output_after x (report_bytes (report_for m)) out) (sym o);
        seconds_are = λ b u. no_seconds b ∙ ap (λ (x : Result (Unit {0}) Refusal). seconds_in (periods_by x m b)) (sym f);
      }
    where
      no_seconds : (b : BusyType) → seconds_told (record { written = Err q; busy = 0; tentative = 0; unavailable = 0 }) b ≡ seconds_in (periods_by (Err q) m b)
      no_seconds BusyType.Busy = refl
      no_seconds BusyType.Tentative = refl
      no_seconds BusyType.Unavailable = refl
      no_seconds BusyType.Free = refl

-- the answer alone, by the length or the refusal
pub seconds_answer : {m : ReportCall} {r : ReportSeconds} {a : Answer} {left out-left : List ℕ} → a ≡ answer_by r.written
    → ReportedSeconds m r left out-left → Reported m a left out-left
unfolding report_outcome
seconds_answer {m} {r} e p =
    record {
      answered = ap outcome_of e ∙ answer_by_lem (length (report_bytes (report_for m.terms))) r.written p.fault_is p.length_is;
      work_left_is = p.work_left_is;
      output_left_is = p.output_left_is;
    }

-- the offset handed on is the offset handed in
pub reported_at : {cal work out left out-left : List ℕ} {start end stamp : ℕ} {z o : ℤ} {a : Answer} → z ≡ o
    → Reported (record { terms = record { calendar = cal; start = start; end = end; offset = z; stamp = stamp; work = work }; output = out }) a left out-left
    → Reported (record { terms = record { calendar = cal; start = start; end = end; offset = o; stamp = stamp; work = work }; output = out }) a left out-left
reported_at {cal} {work} {out} {left} {out-left} {start} {end} {stamp} {a = a} e p =
    subst
    (λ (x : ℤ). Reported (record { terms = record { calendar = cal; start = start; end = end; offset = x; stamp = stamp; work = work }; output = out }) a left out-left)
    e p

pub seconds_at : {cal work out left out-left : List ℕ} {start end stamp : ℕ} {z o : ℤ} {r : ReportSeconds} → z ≡ o
    → ReportedSeconds (record { terms = record { calendar = cal; start = start; end = end; offset = z; stamp = stamp; work = work }; output = out }) r left out-left
    → ReportedSeconds (record { terms = record { calendar = cal; start = start; end = end; offset = o; stamp = stamp; work = work }; output = out }) r left out-left
seconds_at {cal} {work} {out} {left} {out-left} {start} {end} {stamp} {r = r} e p =
    subst
    (λ (x : ℤ). ReportedSeconds (record { terms = record { calendar = cal; start = start; end = end; offset = x; stamp = stamp; work = work }; output = out }) r left out-left)
    e p
