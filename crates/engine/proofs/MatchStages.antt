-- The outcome at each way out of a match call, and the work buffer that goes with it.
use Rattle.std.specs.Prelude.{Err, None, Ok, Option, Result, Some}
use Prim.Native.Nat.{ℕ}
use Rattle.nesting.specs.declared.StructureError.{StructureError}
use Rattle.query_check.specs.declared.QueryError.{QueryError}
use Rattle.std.specs.Result.{IsErrAnd}
use mathlib.Core.Path.{◌≡◌, refl, sym, ap, ◌∙◌}
use mathlib.Core.Bool.{Bool, not}
use mathlib.Core.List.{List, ◌++◌, append_assoc}
use lib.IntN.{ℤ}
use lib.ListN.{take}
use Rattle.text.specs.Unfolding.{unfolded, Unfolded}
use Rattle.text.proofs.Unfolding.{unfolded_front}
use Rattle.nesting.specs.Files.{tree_in}
use Rattle.values.specs.declared.times.Context.{Context}
use Rattle.structure.specs.Reading.{StructureRead}
use Rattle.calendar.specs.Meaning.{structure_refusal, contents_of, fault_of}
use Rattle.calendar.specs.declared.Refusal.{Refusal}
use Rattle.calendar.specs.Refused.{refused_at}
use Rattle.contents.proofs.Contents.{structure_found}
use Rattle.query.specs.Sections.{sections_of}
use Rattle.query.specs.declared.Sections.{Sections}
use Rattle.query_check.specs.WellFormed.{query_read}
use Rattle.filter.specs.Tests.{query_holds}
use Rattle.refusals.specs.Refusals.{Row, first_refusal, size_rows, contents_rows, calendar_rows}
use Rattle.refusals.specs.Offsets.{context_of, offset_read}
use Rattle.refusals.specs.Stages.{size_fault, work_by}
use Rattle.refusals.proofs.Offsets.{read_good, read_out}
use Rattle.refusals.proofs.Refusals.{row_applies, row_passed, stage_passed, stage_refused, structure_passed, structure_refused, contents_first}
use Rattle.refusals.proofs.Stages.{sizes_passed, sizes_refused}
use Rattle.engine.specs.Answers.{Outcome, verdict, refusal, outcome_of, match_answer, unless_refused}
use Rattle.engine.specs.Matching.{MatchCall, query_rows, offset_row, early_match_rows, match_rows, verdict_by, verdict_of, match_outcome, Matched}
use Rattle.engine.specs.MatchStages.{Answered, contents_outcome, unfolded_outcome, query_outcome, CalendarAnswered, QueryAnswered}
use Rattle.engine.specs.declared.Answer.{Answer}
use Rattle.engine.proofs.MatchingLaws.{query_refused_4, query_refused_5, query_passed, query_sections}
use Rattle.engine.proofs.Answers.{refused, let_through, answer_up}

-- ---- an unfolded calendar

-- by what reading the contents answered
module _ (c : Context) (u s : List ℕ) (q : Sections) where
  pub contents_refusal : {f : Refusal} → fault_of (contents_of c u) ≡ Err f → outcome_of (Answer.Refused f.number f.line) ≡ contents_outcome c u s q
  unfolding contents_outcome outcome_of
  contents_refusal e = sym (refused (verdict (query_holds c s q (tree_in u))) (contents_first c u ∙ e))

  pub contents_verdict : {t : Bool} → fault_of (contents_of c u) ≡ Ok tt → t ≡ query_holds c s q (tree_in u) → outcome_of (Answer.Verdict t) ≡ contents_outcome c u s q
  unfolding contents_outcome outcome_of
  contents_verdict e h = ap verdict h ∙ sym (let_through (verdict (query_holds c s q (tree_in u))) (contents_first c u ∙ e))

-- by what reading the structure answered
module _ {u index rows : List ℕ} {x : Result (Unit {0}) StructureError} (k : StructureRead u index rows x) {f : Result (Unit {0}) Refusal} (w : f ≡ structure_refusal x) where
  module _ (c : Context) (s : List ℕ) (q : Sections) where
    pub structure_refusal_told : {y : Refusal} → f ≡ Err y → outcome_of (Answer.Refused y.number y.line) ≡ unfolded_outcome c u s q
    unfolding unfolded_outcome calendar_rows outcome_of
    structure_refusal_told e = sym (refused (verdict (query_holds c s q (tree_in u))) (structure_refused u (contents_rows c u) (structure_found k w ∙ e)))

    pub structure_passes : (a : Answer) → f ≡ Ok tt → outcome_of a ≡ contents_outcome c u s q → outcome_of a ≡ unfolded_outcome c u s q
    unfolding contents_outcome unfolded_outcome calendar_rows
    structure_passes a e h =
        h ∙ ap (λ (g : Result (Unit {0}) Refusal). unless_refused g (verdict (query_holds c s q (tree_in u)))) (sym (structure_passed u (contents_rows c u) (structure_found k w ∙ e)))

-- ---- from unfolding on

module _ (cal work : List ℕ) where
  pub match_calendar_read : {left : List ℕ} {m : ℕ} {a : Answer} (c : Context) (s : List ℕ) (q : Sections) → Unfolded cal work left m
      → outcome_of a ≡ unfolded_outcome c (take m left) s q → CalendarAnswered c cal s q work a left
  unfolding work_by
  match_calendar_read c s q k e =
      record { answered = e ∙ ap (λ (u : List ℕ). unfolded_outcome c u s q) (unfolded_front k); work_left = k.bytes }

  -- a refusal of the rows before unfolding leaves the buffer as it was
  early : {o : Outcome} {f : Result (Unit {0}) Refusal} {n i : ℕ} → f ≡ refused_at n i → o ≡ refusal n i → Answered o f cal work (Answer.Refused n i) work
  unfolding outcome_of work_by
  early e h = record { answered = sym h; work_left = sym (ap (λ (x : Result (Unit {0}) Refusal). work_by x cal work) e) }

  -- ---- from the query on

  module _ (c : Context) (s : List ℕ) where
    abbrev later : List Row
    later = calendar_rows c (unfolded cal)

    query_refused : {n i : ℕ} → first_refusal (query_rows s) ≡ refused_at n i → QueryAnswered c cal s work (Answer.Refused n i) work
    unfolding query_outcome
    query_refused e = early e (refused _ (stage_refused (query_rows s) later e))

    pub match_refused_4 : query_read s ≡ Err QueryError.Bad → QueryAnswered c cal s work (Answer.Refused 4 0) work
    match_refused_4 e = query_refused (query_refused_4 s e)

    pub match_refused_5 : query_read s ≡ Err QueryError.Misplaced → QueryAnswered c cal s work (Answer.Refused 5 0) work
    match_refused_5 e = query_refused (query_refused_5 s e)

    pub match_query_passed : {left : List ℕ} {a : Answer} (q : Sections) → query_read s ≡ Ok q → CalendarAnswered c cal s q work a left
        → QueryAnswered c cal s work a left
    unfolding query_outcome unfolded_outcome verdict_by
    match_query_passed q e a =
        let none = query_passed s q e in
        record {
          answered = a.answered
              ∙ sym (ap (λ (f : Result (Unit {0}) Refusal). unless_refused f (verdict (verdict_by c cal s (sections_of s)))) (stage_passed (query_rows s) later none)
              ∙ ap (λ (x : Option Sections). unless_refused (first_refusal later) (verdict (verdict_by c cal s x))) (query_sections s q e));
          work_left = a.work_left ∙ ap (λ (f : Result (Unit {0}) Refusal). work_by f cal work) (sym none);
        }

-- ---- the whole call

module _ (cal s : List ℕ) (o : ℤ) (work : List ℕ) where
  abbrev call : MatchCall
  call = record { calendar = cal; query = s; offset = o; work = work }

  matched : {a : Answer} {left : List ℕ} {x : Outcome} {f : Result (Unit {0}) Refusal} → x ≡ match_outcome call → first_refusal (early_match_rows call) ≡ f
      → Answered x f cal work a left → Matched call a left
  matched e h a =
      record { answered = a.answered ∙ e; work_left = a.work_left ∙ ap (λ (y : Result (Unit {0}) Refusal). work_by y cal work) (sym h) }

  match_early : {n i : ℕ} → first_refusal (early_match_rows call) ≡ refused_at n i → Matched call (Answer.Refused n i) work
  unfolding match_outcome match_rows
  match_early e = matched refl e (early cal work refl (refused _ (stage_refused (early_match_rows call) _ e)))

  pub match_refused_1 : offset_read o ≡ None → Matched call (Answer.Refused 1 0) work
  unfolding early_match_rows offset_row
  match_refused_1 e = match_early (row_applies _ _ (ap not (read_out o e)))

  module _ {x : ℕ} (e : offset_read o ≡ Some x) where
    early_left : first_refusal (early_match_rows call) ≡ first_refusal (size_rows cal work ++ query_rows s)
    unfolding early_match_rows offset_row
    early_left = row_passed _ _ (ap not (read_good o e).0)

    pub match_refused_sizes : {y : Refusal} → size_fault cal work ≡ Err y → Matched call (Answer.Refused y.number y.line) work
    match_refused_sizes k = match_early (early_left ∙ sizes_refused cal work _ k)

    module _ (k : size_fault cal work ≡ Ok tt) where
      rows_left : first_refusal (match_rows call) ≡ first_refusal (query_rows s ++ calendar_rows (context_of o) (unfolded cal))
      unfolding match_rows early_match_rows offset_row
      rows_left =
          let later = calendar_rows (context_of o) (unfolded cal) in
          row_passed _ _ (ap not (read_good o e).0)
          ∙ ap first_refusal (append_assoc (size_rows cal work) (query_rows s) later)
          ∙ sizes_passed cal work (query_rows s ++ later) k

      outcome_left : query_outcome (context_of o) cal s ≡ match_outcome call
      unfolding match_outcome query_outcome verdict_of
      outcome_left = ap (λ (f : Result (Unit {0}) Refusal). unless_refused f (verdict (verdict_of call))) (sym rows_left)

      pub match_sizes_passed : {a : Answer} {left : List ℕ} → QueryAnswered (record { shift = x }) cal s work a left → Matched call a left
      unfolding context_of
      match_sizes_passed a =
          matched (ap (λ (y : ℕ). query_outcome (record { shift = y }) cal s) (read_good o e).1 ∙ outcome_left) (early_left ∙ sizes_passed cal work _ k) a

-- a refusal that is handed up
pub match_up : {m : MatchCall} (r : Result Bool Refusal) {f : Refusal} {left : List ℕ} → IsErrAnd r (λ y. y ≡ f) → Matched m (Answer.Refused f.number f.line) left → Matched m (match_answer r) left
match_up r z a = record { answered = ap outcome_of (sym (answer_up r z)) ∙ a.answered; work_left = a.work_left }
