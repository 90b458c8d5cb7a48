-- Demand 1: the first refusal that applies, else an answer; and what work buffer and output then hold.
-- Answers and outputs that keep no promise (document 01, How far the contracts reach).
use Rattle.std.specs.Prelude.{Result, Ok, Err}
use Prim.Native.Nat.{ℕ, ◌≤◌}
use mathlib.Core.Path.{◌≡◌, sym, ap, ◌∙◌, refl}
use mathlib.Core.List.{List, ◌++◌}
use mathlib.Core.Bool.{Bool}
use native.Mathlib.Omega.{arith}
use lib.ListN.{length, take, drop, length-append}
use lib.Seq.{take_at}
use Rattle.report.specs.Bytes.{report_bytes}
use Rattle.calendar.specs.declared.Refusal.{Refusal}
use Rattle.refusals.specs.Refusals.{Row, NoneApplies, first_refusal}
use Rattle.refusals.specs.Stages.{work_by}
use Rattle.refusals.proofs.Refusals.{none_iff, first_iff, first_applies}
use Rattle.collecting.specs.CalendarTerms.{report_for, early_rows}
use Rattle.engine.specs.declared.Answer.{Answer}
use Rattle.engine.specs.Answers.{Outcome, verdict, report, refusal, outcome_of, unless_refused}
use Rattle.engine.specs.Matching.{MatchCall, early_match_rows, match_rows, verdict_of, match_outcome, Matched}
use Rattle.engine.specs.Reporting.{ReportCall, report_rows, report_outcome, output_after, Reported}
use Rattle.engine.specs.Demands.{Decided, WorkLeft, IsVerdict, IsLength, IsReport, OutputLeft}
use Rattle.engine.proofs.Answers.{refused, let_through, verdict_apart, report_apart, refusal_found, report_found, no_report, no_verdict}

-- ---- any call: an answer by its rows

module _ (rows : List Row) (o : Outcome) {its-kind : Outcome → Type 0} {a : Answer} (e : outcome_of a ≡ unless_refused (first_refusal rows) o) where
  -- where the answer is no refusal, and no refusal is of the answer's kind
  pub decided_by : ((n i : ℕ) → o ≡ refusal n i → ⊥) → its-kind o → ((n i : ℕ) → its-kind (refusal n i) → ⊥) → Decided rows its-kind a
  unfolding NoneApplies unless_refused
  decided_by h y g =
      record {
        refused_when = λ k i. (
          λ r. (first_iff rows k i).0 (refusal_found o h (first_refusal rows) (sym e ∙ r)),
          λ x. e ∙ refused o ((first_iff rows k i).1 x),
        );
        answered_when = (
          λ z k i r. none_where z (first_refusal rows) refl k i r,
          λ z. rw (e ∙ let_through o ((none_iff rows).1 z)) y,
        );
      }
    where
      none_where : its-kind (outcome_of a) → (f : Result (Unit {0}) Refusal) → first_refusal rows ≡ f → NoneApplies rows
      none_where z (Ok _) q = (none_iff rows).0 q
      none_where z (Err r) q = absurd (g r.number r.line (rw (e ∙ ap (λ (x : Result (Unit {0}) Refusal). unless_refused x o) q) at z))

-- the work buffer by the rows that are asked before unfolding
work_by_lem : (early : List Row) (cal work : List ℕ) {left : List ℕ} → left ≡ work_by (first_refusal early) cal work → WorkLeft early cal work left
unfolding work_by
work_by_lem early cal work e =
    record {
      kept_when = λ k i f. e ∙ ap (λ (x : Result (Unit {0}) Refusal). work_by x cal work) ((first_iff early k i).1 f);
      unfolded_when = λ f. e ∙ ap (λ (x : Result (Unit {0}) Refusal). work_by x cal work) ((none_iff early).1 f);
    }

-- ---- a match

module _ {m : MatchCall} {a : Answer} {left : List ℕ} (p : Matched m a left) where
  pub match_decided : Decided (match_rows m) IsVerdict a
  unfolding match_outcome IsVerdict
  match_decided =
      decided_by (match_rows m) (verdict (verdict_of m)) p.answered (verdict_apart (verdict_of m)) (verdict_of m, refl)
      (λ n i z. verdict_apart z.0 n i (sym z.1))

  pub match_work : WorkLeft (early_match_rows m) m.calendar m.work left
  match_work = work_by_lem (early_match_rows m) m.calendar m.work p.work_left

-- ---- a report

-- a report of n bytes: nothing refuses, and they stand first in the output
pub record ReportWritten (m : ReportCall) (n : ℕ) (out-left : List ℕ) : Type 0 where
  pub none_applies : NoneApplies (report_rows m)
  pub its_length : n ≡ length (report_bytes (report_for m.terms))
  pub its_bytes : take n out-left ≡ report_bytes (report_for m.terms)
  pub has_room : n ≤ length out-left

module _ {m : ReportCall} {a : Answer} {work_left out-left : List ℕ} (p : Reported m a work_left out-left) where
  abbrev bytes : List ℕ
  bytes = report_bytes (report_for m.terms)

  pub report_decided : Decided (report_rows m) IsLength a
  unfolding report_outcome IsLength
  report_decided =
      decided_by (report_rows m) (report (length bytes)) p.answered (report_apart (length bytes)) (length bytes, refl)
      (λ n i z. report_apart z.0 n i (sym z.1))

  pub report_work : WorkLeft (early_rows m.terms) m.terms.calendar m.terms.work work_left
  report_work = work_by_lem (early_rows m.terms) m.terms.calendar m.terms.work p.work_left_is

  -- where nothing refuses there is a report, of its own length
  pub report_given : NoneApplies (report_rows m) → IsReport a (length bytes)
  unfolding report_outcome NoneApplies IsReport
  report_given h = p.answered ∙ let_through _ ((none_iff (report_rows m)).1 h)

  report_is : (n : ℕ) → IsReport a n → (first_refusal (report_rows m) ≡ Ok tt) × (n ≡ length bytes)
  unfolding report_outcome IsReport
  report_is n e = report_found (length bytes) (first_refusal (report_rows m)) (sym p.answered ∙ e)

  output_is : (n : ℕ) → IsReport a n → out-left ≡ bytes ++ drop (length bytes) m.output
  unfolding IsReport output_after
  output_is n e = p.output_left_is ∙ ap (λ (o : Outcome). output_after o bytes m.output) (sym p.answered ∙ e)

  pub written_report : {n : ℕ} → IsReport a n → ReportWritten m n out-left
  unfolding NoneApplies
  written_report {n} e =
      let z = output_is n e in
      let l = (report_is n e).1 in
      record {
        none_applies = (none_iff (report_rows m)).0 (report_is n e).0;
        its_length = l;
        its_bytes = ap (take n) z ∙ take_at bytes _ n (sym l);
        has_room = rw z (omega (arith, l, length-append bytes (drop (length bytes) m.output)));
      }

  -- any refusal leaves the output as it was
  pub output_kept : (k i : ℕ) → outcome_of a ≡ refusal k i → out-left ≡ m.output
  unfolding output_after
  output_kept k i e = p.output_left_is ∙ ap (λ (o : Outcome). output_after o bytes m.output) (sym p.answered ∙ e)

  pub output_left : OutputLeft m a out-left
  output_left =
      record {
        kept_when = output_kept;
        length_is = λ n e. (written_report e).its_length;
        written_when = λ n e. output_is n e ∙ ap (λ (k : ℕ). bytes ++ drop k m.output) (sym (written_report e).its_length);
      }

-- ---- answers and outputs that keep no promise

module _ {m : MatchCall} {left : List ℕ} where
  -- a refusal where nothing refuses
  pub refuses_everything : {n i : ℕ} → NoneApplies (match_rows m) → Matched m (Answer.Refused n i) left → ⊥
  unfolding NoneApplies outcome_of
  refuses_everything {n} {i} h p = h n i (first_applies (match_rows m) ((first_iff (match_rows m) n i).1 (((match_decided p).refused_when n i).0 refl)))

  -- a length, made up or not, for a match
  pub length_given : {n : ℕ} → Matched m (Answer.Length n) left → ⊥
  unfolding match_outcome outcome_of
  length_given {n} p = no_report (first_refusal (match_rows m)) (verdict_of m) n p.answered

module _ {m : ReportCall} {work_left out-left : List ℕ} where
  -- a refusal where nothing refuses
  pub refuses_report : {n i : ℕ} → NoneApplies (report_rows m) → Reported m (Answer.Refused n i) work_left out-left → ⊥
  unfolding NoneApplies outcome_of
  refuses_report {n} {i} h p = h n i (first_applies (report_rows m) ((first_iff (report_rows m) n i).1 (((report_decided p).refused_when n i).0 refl)))

  -- a length that is not the report's
  pub made_up_length : {n : ℕ} → (n ≡ length (report_bytes (report_for m.terms)) → ⊥) → Reported m (Answer.Length n) work_left out-left → ⊥
  unfolding IsReport outcome_of
  made_up_length h p = h (written_report p refl).its_length

  -- a verdict for a report
  pub verdict_given : {t : Bool} → Reported m (Answer.Verdict t) work_left out-left → ⊥
  unfolding report_outcome outcome_of
  verdict_given {t} p = no_verdict (first_refusal (report_rows m)) t (length (report_bytes (report_for m.terms))) p.answered

-- an output left as it was: only where the report stood in it before
pub output_unwritten : {m : ReportCall} {n : ℕ} {work_left : List ℕ} → Reported m (Answer.Length n) work_left m.output
    → take n m.output ≡ report_bytes (report_for m.terms)
unfolding IsReport outcome_of
output_unwritten p = (written_report p refl).its_bytes
