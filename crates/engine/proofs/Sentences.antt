-- Each row of a call applies exactly when its sentence holds.
use Rattle.std.specs.Prelude.{None, Option, Some}
use Prim.Native.Nat.{ℕ}
use mathlib.Core.Path.{◌≡◌, refl, ap, ◌∙◌, subst}
use mathlib.Core.Bool.{Bool, true, false, not, ◌&&◌}
use mathlib.Core.List.{List, [], ◌∷◌, ◌++◌}
use mathlib.Core.Logic.{◌↔◌, ⊎_elim}
use lib.Dec.{ltb, leb}
use borrow.Author.Tests.{ltb-true, lt-ltb, leb-true, le-leb, not-true}
use Rattle.ascii.proofs.Bools.{and_left, and_right, and_both, not_so, clash}
use Rattle.text.specs.Unfolding.{unfolded}
use Rattle.time.specs.Limits.{last_second, range_good}
use Rattle.report.specs.Bytes.{report_bytes}
use Rattle.query.specs.Sections.{sections_of}
use Rattle.query.specs.declared.Sections.{Sections}
use Rattle.query.proofs.LayoutLaws.{layout_of, layout_sections}
use Rattle.query_check.specs.WellFormed.{query_good, range_misplaced}
use Rattle.query_check.proofs.QueryRules.{query_good_iff, range_misplaced_iff}
use Rattle.refusals.specs.Refusals.{Row, row, RowApplies, size_rows, calendar_rows}
use Rattle.refusals.specs.Offsets.{offset_good, context_of}
use Rattle.refusals.proofs.Offsets.{within_iff}
use Rattle.refusals.proofs.Refusals.{applies_cases, applies_later}
use Rattle.refusals.proofs.Sentences.{tells_here, only_row, append_cases, append_first, append_second, sizes_iff, calendar_iff}
use Rattle.collecting.specs.CalendarTerms.{CalendarTerms, stamp_good, pieces_for, report_for, terms_row, early_rows, piece_row, late_rows, collect_rows}
use Rattle.engine.specs.Matching.{MatchCall, misplaced_in, query_rows, offset_row, early_match_rows, match_rows}
use Rattle.engine.specs.Reporting.{ReportCall, output_row, report_rows}
use Rattle.engine.specs.Sentences.{MatchApplies, TermsWithin, ReportApplies}

-- a negated test holds exactly where what it tests does not
not_iff : {A : Type 0} (t : Bool) → ((t ≡ true) ↔ A) → (not t ≡ true) ↔ (A → ⊥)
not_iff t f = (λ e a. clash (f.1 a) (not-true t e), λ h. ap not (not_so t (λ e. h (f.0 e))))

-- a sentence at the number and the line that its row has
move : (S : ℕ → ℕ → Type 0) {n k i : ℕ} → n ≡ k → 0 ≡ i → S n 0 → S k i
move S {n} {k} {i} e f a = subst (λ (j : ℕ). S k j) f (subst (λ (j : ℕ). S j 0) e a)

-- ---- a match

module _ (m : MatchCall) where
  abbrev query_row : Row
  query_row = row 4 0 (not (query_good m.query))

  abbrev range_row : Row
  range_row = row 5 0 (misplaced_in m.query (sections_of m.query))

  misplaced_says : (r : Option Sections) → sections_of m.query ≡ r → misplaced_in m.query r ≡ true → MatchApplies m 5 0
  unfolding misplaced_in
  misplaced_says (Some q) e h =
      MatchApplies.range_misplaced_holds q (layout_of m.query q e) (λ w. clash h ((range_misplaced_iff m.query q).1 w))
  misplaced_says None e h = clash h refl

  misplaced_tests : (q : Sections) → sections_of m.query ≡ Some q → (range_misplaced m.query q ≡ false → ⊥)
      → misplaced_in m.query (sections_of m.query) ≡ true
  unfolding misplaced_in
  misplaced_tests q e h = ap (misplaced_in m.query) e ∙ go (range_misplaced m.query q) refl
    where
      go : (t : Bool) → range_misplaced m.query q ≡ t → t ≡ true
      go true k = refl
      go false k = absurd (h k)

  query_says : {k i : ℕ} → RowApplies (query_rows m.query) k i → MatchApplies m k i
  unfolding query_rows
  query_says {k} {i} a =
      ⊎_elim
      (λ t. move (MatchApplies m) t.0 t.1 (MatchApplies.query_bad ((not_iff (query_good m.query) (query_good_iff m.query)).0 t.2)))
      (λ b. let t = only_row range_row b in move (MatchApplies m) t.0 t.1 (misplaced_says (sections_of m.query) refl t.2))
      (applies_cases query_row (range_row ∷ []) k i a)

  early_says : {k i : ℕ} → RowApplies (early_match_rows m) k i → MatchApplies m k i
  unfolding early_match_rows offset_row
  early_says {k} {i} a =
      ⊎_elim
      (λ t. move (MatchApplies m) t.0 t.1 (MatchApplies.offset_outside ((not_iff (offset_good m.offset) (within_iff m.offset)).0 t.2)))
      (λ b.
      ⊎_elim
      (λ s. MatchApplies.sizes k i ((sizes_iff m.calendar m.work k i).0 s))
      query_says
      (append_cases (size_rows m.calendar m.work) (query_rows m.query) b))
      (applies_cases _ _ k i a)

  abbrev calendar_rows_holds : List Row
  calendar_rows_holds = calendar_rows (context_of m.offset) (unfolded m.calendar)

  -- rows 2 to 5, behind the first
  behind_offset : {k i : ℕ} → RowApplies (size_rows m.calendar m.work ++ query_rows m.query) k i → RowApplies (match_rows m) k i
  unfolding match_rows early_match_rows
  behind_offset {k} {i} a = append_first (early_match_rows m) calendar_rows_holds (applies_later (offset_row m.offset) _ k i a)

  match_listed : {k i : ℕ} → MatchApplies m k i → RowApplies (match_rows m) k i
  unfolding match_rows early_match_rows offset_row query_rows
  match_listed (MatchApplies.offset_outside h) =
      tells_here (offset_row m.offset) _ (refl, refl, (not_iff (offset_good m.offset) (within_iff m.offset)).1 h)
  match_listed (MatchApplies.sizes k i s) =
      behind_offset (append_first (size_rows m.calendar m.work) (query_rows m.query) ((sizes_iff m.calendar m.work k i).1 s))
  match_listed (MatchApplies.query_bad h) =
      let t : not (query_good m.query) ≡ true = (not_iff (query_good m.query) (query_good_iff m.query)).1 h in
      behind_offset (append_second (size_rows m.calendar m.work) (query_rows m.query) (tells_here query_row (range_row ∷ []) (refl, refl, t)))
  match_listed (MatchApplies.range_misplaced_holds q l h) =
      let t = misplaced_tests q (layout_sections m.query q l) (λ e. h ((range_misplaced_iff m.query q).0 e)) in
      behind_offset
      (append_second (size_rows m.calendar m.work) (query_rows m.query)
      (applies_later query_row (range_row ∷ []) 5 0 (tells_here range_row [] (refl, refl, t))))
  match_listed (MatchApplies.calendar k i a) =
      append_second (early_match_rows m) calendar_rows_holds ((calendar_iff (context_of m.offset) (unfolded m.calendar) k i).1 a)

  pub match_applies_iff : (k i : ℕ) → RowApplies (match_rows m) k i ↔ MatchApplies m k i
  unfolding match_rows
  match_applies_iff k i = (
    λ a.
        ⊎_elim early_says
        (λ b. MatchApplies.calendar k i ((calendar_iff (context_of m.offset) (unfolded m.calendar) k i).0 b))
        (append_cases (early_match_rows m) calendar_rows_holds a),
    match_listed,
  )

-- ---- a report

terms_iff : (m : CalendarTerms) → ((range_good m.start m.end && stamp_good m.stamp && offset_good m.offset) ≡ true) ↔ TermsWithin m
unfolding range_good stamp_good
terms_iff m = (
  λ e.
      let two = and_left (range_good m.start m.end && stamp_good m.stamp) (offset_good m.offset) e in
      let range = and_left (range_good m.start m.end) (stamp_good m.stamp) two in
      record {
        start_first = ltb-true _ _ (and_left (ltb m.start m.end) (leb m.end last_second) range);
        end_limit = leb-true _ _ (and_right (ltb m.start m.end) (leb m.end last_second) range);
        stamp_limit = leb-true _ _ (and_right (range_good m.start m.end) (stamp_good m.stamp) two);
        offset_within = (within_iff m.offset).0 (and_right (range_good m.start m.end && stamp_good m.stamp) (offset_good m.offset) e);
      },
  λ w.
      and_both
      (and_both (and_both (lt-ltb _ _ w.start_first) (le-leb _ _ w.end_limit)) (le-leb _ _ w.stamp_limit))
      ((within_iff m.offset).1 w.offset_within),
)

module _ (m : ReportCall) where
  abbrev out_row : Row
  out_row = output_row (report_bytes (report_for m.terms)) m.output

  abbrev its_rows : List Row
  its_rows = calendar_rows (context_of m.terms.offset) (unfolded m.terms.calendar)

  first_says : {k i : ℕ} → RowApplies (early_rows m.terms) k i → ReportApplies m k i
  unfolding early_rows terms_row
  first_says {k} {i} a =
      ⊎_elim
      (λ t. move (ReportApplies m) t.0 t.1 (ReportApplies.terms_outside ((not_iff _ (terms_iff m.terms)).0 t.2)))
      (λ b. ReportApplies.sizes k i ((sizes_iff m.terms.calendar m.terms.work k i).0 b))
      (applies_cases _ _ k i a)

  late_says : {k i : ℕ} → RowApplies (late_rows m.terms) k i → ReportApplies m k i
  unfolding late_rows piece_row
  late_says {k} {i} a =
      ⊎_elim
      (λ b. ReportApplies.calendar k i ((calendar_iff (context_of m.terms.offset) (unfolded m.terms.calendar) k i).0 b))
      (λ b. let t = only_row (piece_row (pieces_for m.terms)) b in move (ReportApplies m) t.0 t.1 (ReportApplies.pieces_many (ltb-true _ _ t.2)))
      (append_cases its_rows (piece_row (pieces_for m.terms) ∷ []) a)

  output_says : {k i : ℕ} → RowApplies (out_row ∷ []) k i → ReportApplies m k i
  unfolding output_row
  output_says a = let t = only_row out_row a in move (ReportApplies m) t.0 t.1 (ReportApplies.output_short (ltb-true _ _ t.2))

  -- a row of the terms is one of the call
  of_terms : {k i : ℕ} → RowApplies (collect_rows m.terms) k i → RowApplies (report_rows m) k i
  unfolding report_rows
  of_terms a = append_first (collect_rows m.terms) (out_row ∷ []) a

  of_late : {k i : ℕ} → RowApplies (late_rows m.terms) k i → RowApplies (report_rows m) k i
  unfolding collect_rows
  of_late a = of_terms (append_second (early_rows m.terms) (late_rows m.terms) a)

  report_listed : {k i : ℕ} → ReportApplies m k i → RowApplies (report_rows m) k i
  unfolding report_rows collect_rows early_rows late_rows terms_row piece_row output_row
  report_listed (ReportApplies.terms_outside h) =
      of_terms (append_first (early_rows m.terms) (late_rows m.terms) (tells_here (terms_row m.terms) _ (refl, refl, (not_iff _ (terms_iff m.terms)).1 h)))
  report_listed (ReportApplies.sizes k i s) =
      of_terms
      (append_first (early_rows m.terms) (late_rows m.terms)
      (applies_later (terms_row m.terms) _ k i ((sizes_iff m.terms.calendar m.terms.work k i).1 s)))
  report_listed (ReportApplies.calendar k i a) =
      of_late
      (append_first its_rows (piece_row (pieces_for m.terms) ∷ [])
      ((calendar_iff (context_of m.terms.offset) (unfolded m.terms.calendar) k i).1 a))
  report_listed (ReportApplies.pieces_many h) =
      of_late (append_second its_rows (piece_row (pieces_for m.terms) ∷ []) (tells_here (piece_row (pieces_for m.terms)) [] (refl, refl, lt-ltb _ _ h)))
  report_listed (ReportApplies.output_short h) =
      append_second (collect_rows m.terms) (out_row ∷ []) (tells_here out_row [] (refl, refl, lt-ltb _ _ h))

  pub report_applies_iff : (k i : ℕ) → RowApplies (report_rows m) k i ↔ ReportApplies m k i
  unfolding report_rows collect_rows
  report_applies_iff k i = (
    λ a.
        ⊎_elim
        (λ b. ⊎_elim first_says late_says (append_cases (early_rows m.terms) (late_rows m.terms) b))
        output_says
        (append_cases (collect_rows m.terms) (out_row ∷ []) a),
    report_listed,
  )
