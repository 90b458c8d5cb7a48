-- The refusal table of each call for the reader (document 01, Refusal numbers): a sentence for each row, in the order in which the rows are asked.
-- Number k applies, whether or not one before it does, and its fault stands at line i, 0 where it has none.
use Rattle.std.specs.Prelude.{ℕ, ◌≤◌, ◌<◌, length}
use Rattle.text.specs.Unfolding.{unfolded}
use Rattle.time.specs.Limits.{last_second}
use Rattle.report.specs.Bytes.{report_bytes}
use Rattle.query.specs.Layout.{Layout}
use Rattle.query.specs.declared.Sections.{Sections}
use Rattle.query_check.specs.QueryRules.{WellFormedQuery, WellPlaced}
use Rattle.refusals.specs.Offsets.{OffsetWithin, context_of}
use Rattle.refusals.specs.Sentences.{SizeApplies, CalendarApplies}
use Rattle.collecting.specs.CalendarTerms.{CalendarTerms, pieces_for, report_for}
use Rattle.engine.specs.Matching.{MatchCall}
use Rattle.engine.specs.Reporting.{ReportCall}

pub data MatchApplies (m : MatchCall) : ℕ → ℕ → Type 0 where
  -- the offset is outside its bounds
  offset_outside : (OffsetWithin m.offset → ⊥) → MatchApplies m 1 0
  sizes : (k i : ℕ) → SizeApplies m.calendar m.work k i → MatchApplies m k i
  -- the query is badly formed
  query_bad : (WellFormedQuery m.query → ⊥) → MatchApplies m 4 0
  -- of a query whose sections can be found, a time range stands where none can be
  range_misplaced_holds : (q : Sections) → Layout m.query q → (WellPlaced m.query q → ⊥) → MatchApplies m 5 0
  calendar : (k i : ℕ) → CalendarApplies (context_of m.offset) (unfolded m.calendar) k i → MatchApplies m k i

-- a range from start up to, but not including, end; a stamp; an offset: all within their bounds
pub record TermsWithin (m : CalendarTerms) : Type 0 where
  pub start_first : m.start < m.end
  pub end_limit : m.end ≤ last_second
  pub stamp_limit : m.stamp ≤ last_second
  pub offset_within : OffsetWithin m.offset

pub data ReportApplies (m : ReportCall) : ℕ → ℕ → Type 0 where
  -- range, stamp or offset are not within their bounds
  terms_outside : (TermsWithin m.terms → ⊥) → ReportApplies m 1 0
  sizes : (k i : ℕ) → SizeApplies m.terms.calendar m.terms.work k i → ReportApplies m k i
  calendar : (k i : ℕ) → CalendarApplies (context_of m.terms.offset) (unfolded m.terms.calendar) k i → ReportApplies m k i
  -- more than 512 busy pieces
  pieces_many : 512 < length (pieces_for m.terms) → ReportApplies m 11 0
  -- the output is shorter than the report
  output_short : length m.output < length (report_bytes (report_for m.terms)) → ReportApplies m 12 0
