-- The demands hold. Here: what a match call's verdict says, and the three closed statements.
use Prim.Native.Nat.{ℕ}
use mathlib.Core.Path.{◌≡◌, refl, sym, ap, ◌∙◌}
use mathlib.Core.Bool.{Bool, true, false, not, true≢false}
use mathlib.Core.List.Memᴰ
use mathlib.Core.List.{List}
use mathlib.Core.Logic.{◌↔◌}
use lib.ListN.{length, take}
use lib.Seq.{take_at}
use Rattle.text.specs.Unfolding.{unfolded}
use Rattle.query.proofs.Fits.{layout_fits}
use Rattle.query.proofs.LayoutLaws.{layout_sections}
use Rattle.query_check.specs.QueryRules.{WellFormedQuery}
use Rattle.query_check.specs.WellFormed.{query_good}
use Rattle.query_check.proofs.WellFormed.{query_records}
use Rattle.query_check.proofs.QueryRules.{query_good_iff}
use Rattle.nesting.specs.Files.{tree_in}
use Rattle.refusals.specs.Refusals.{NoneApplies, first_refusal, size_rows}
use Rattle.refusals.specs.Offsets.{offset_good, context_of}
use Rattle.refusals.proofs.Refusals.{none_iff, stage_none}
use Rattle.filter.specs.FilterRules.{QueryPasses}
use Rattle.filter.specs.Tests.{query_holds}
use Rattle.filter.proofs.FilterRules.{query_iff}
use Rattle.engine.specs.declared.Answer.{Answer}
use Rattle.engine.specs.Answers.{verdict, outcome_of}
use Rattle.engine.specs.Matching.{MatchCall, query_rows, offset_row, early_match_rows, match_rows, verdict_by, verdict_of, match_outcome, Matched}
use Rattle.engine.specs.Demands.{MatchesWhen, Demand1, Demand2, Demand3}
use Rattle.engine.proofs.Answers.{let_through, verdict_found, same_verdict}
use Rattle.engine.proofs.DemandsAnswers.{match_decided, match_work, report_decided, report_work, output_left}
use Rattle.engine.proofs.Sentences.{match_applies_iff, report_applies_iff}
use Rattle.engine.proofs.DemandsReports.{says_covered, reads_back, one_meaning}

-- ---- Demand 2

holds : (t : Bool) → (not t ≡ true → ⊥) → t ≡ true
holds true f = refl
holds false f = absurd (f refl)

module _ (m : MatchCall) (h : NoneApplies (match_rows m)) where
  -- rows 1 and 4 do not apply
  pub none_offset : offset_good m.offset ≡ true
  unfolding NoneApplies match_rows early_match_rows offset_row
  none_offset = holds (offset_good m.offset) (λ e. h 1 0 (record { which = _; listed = Memᴰ.head refl; numbered = refl; lined = refl; applies = e }))

  pub none_query : query_good m.query ≡ true
  unfolding NoneApplies match_rows early_match_rows offset_row size_rows query_rows
  none_query =
      holds (query_good m.query)
      (λ e. h 4 0
      (record {
        which = _;
        listed = Memᴰ.tail (Memᴰ.tail (Memᴰ.tail (Memᴰ.head refl)));
        numbered = refl;
        lined = refl;
        applies = e;
      }))

  module _ (w : WellFormedQuery m.query) where
    verdict_is : verdict_of m ≡ query_holds (context_of m.offset) m.query w.sections (tree_in (unfolded m.calendar))
    unfolding verdict_of verdict_by
    verdict_is = rw (layout_sections m.query w.sections w.layout)

    -- the verdict says whether the query passes
    pub verdict_iff : (verdict_of m ≡ true) ↔ QueryPasses (context_of m.offset) m.query w.sections (tree_in (unfolded m.calendar))
    unfolding context_of
    verdict_iff =
        let s = m.query in
        let read = layout_sections s w.sections w.layout in
        let i =
        query_iff (context_of m.offset) s w.sections (query_records s w.sections read none_query) (tree_in (unfolded m.calendar))
        (layout_fits s w.sections w.layout).components_some in
        (λ e. i.0 (sym verdict_is ∙ e), λ q. verdict_is ∙ i.1 q)

module _ {m : MatchCall} {a : Answer} {left : List ℕ} (p : Matched m a left) where
  pub matches_when : MatchesWhen m a
  unfolding match_outcome NoneApplies
  matches_when =
      record {
        matched_when = (
          λ e.
              let v = verdict_found (verdict_of m) (first_refusal (match_rows m)) (sym p.answered ∙ e) in
              let h : NoneApplies (match_rows m) = (none_iff (match_rows m)).0 v.0 in
              let w = (query_good_iff m.query).0 (none_query m h) in
              (h, w, (verdict_iff m h w).0 v.1),
          λ x.
              p.answered ∙ let_through _ ((none_iff (match_rows m)).1 x.0)
              ∙ ap verdict ((verdict_iff m x.0 x.1).1 x.2),
        );
      }

-- ---- answers that keep no promise

module _ {m : MatchCall} {left : List ℕ} where
  -- no, where nothing refuses and the query passes
  pub always_no : NoneApplies (match_rows m) → (w : WellFormedQuery m.query)
      → QueryPasses (context_of m.offset) m.query w.sections (tree_in (unfolded m.calendar))
      → Matched m (Answer.Verdict false) left
      → ⊥
  unfolding outcome_of
  always_no h w q p = true≢false (sym (same_verdict ((matches_when p).matched_when.1 (h, w, q))))

-- an answer that leaves the work buffer as it was: only where the unfolded calendar stood in it before
pub work_unwritten : {m : MatchCall} {b : Bool} → Matched m (Answer.Verdict b) m.work
    → take (length (unfolded m.calendar)) m.work ≡ unfolded m.calendar
unfolding match_outcome outcome_of match_rows
work_unwritten {m} {b} p =
    let cal = m.calendar in
    let n = length (unfolded cal) in
    let early = early_match_rows m in
    let none = (verdict_found (verdict_of m) (first_refusal (match_rows m)) (sym p.answered)).0 in
    ap (take n) ((match_work p).unfolded_when ((none_iff early).0 (stage_none early _ none))) ∙ take_at (unfolded cal) _ n refl

-- ---- the demands

pub demand_1 : Demand1
demand_1 =
    record {
      match_rows_holds = match_applies_iff;
      report_rows_holds = report_applies_iff;
      of_match = λ m a left p. (match_decided p, match_work p);
      of_report = λ m a left out-left p. (report_decided p, report_work p, output_left p);
    }

pub demand_2 : Demand2
demand_2 =
    record {
      of_match = λ m a left p. matches_when p;
      of_report = λ m a left out-left p. says_covered p;
      of_two = λ m again a b left out-left left-again out-again p q. reads_back p q;
    }

pub demand_3 : Demand3
demand_3 = record { of_two = λ x y a b left-x out-x left-y out-y p q. one_meaning p q }
