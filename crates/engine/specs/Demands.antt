-- The manager's three demands, closed: of every call, and of every answer and every memory that keep the promise of the public function.
-- `Matched` is the promise of `engine::matches`, `Reported` that of `engine::report`.
use Rattle.std.specs.Prelude.{ℕ, ◌≤◌, ◌<◌, ◌≡◌, Bool, true, List, ◌++◌, ◌↔◌, length, take, drop, ℤ}
use Rattle.text.specs.Unfolding.{unfolded}
use Rattle.nesting.specs.Files.{tree_in}
use Rattle.periods.specs.declared.BusyType.{BusyType}
use Rattle.periods.specs.BusyTypes.{is_busy}
use Rattle.report.specs.Bytes.{report_bytes}
use Rattle.query_check.specs.QueryRules.{WellFormedQuery}
use Rattle.filter.specs.FilterRules.{QueryPasses}
use Rattle.pieces.specs.Covered.{Covers}
use Rattle.refusals.specs.Refusals.{Row, RowApplies, NoneApplies, FirstApplies}
use Rattle.refusals.specs.Offsets.{offset_good, context_of}
use Rattle.collecting.specs.CalendarTerms.{CalendarTerms, entries_in, report_for, early_rows}
use Rattle.engine.specs.Answers.{Outcome, verdict, report, refusal, outcome_of}
use Rattle.engine.specs.Matching.{MatchCall, early_match_rows, match_rows, Matched}
use Rattle.engine.specs.Reporting.{ReportCall, report_rows, Reported}
use Rattle.engine.specs.Sentences.{MatchApplies, ReportApplies}
use Rattle.engine.specs.declared.Answer.{Answer}

-- ---- Demand 1: an answer or one numbered refusal, and what memory then holds

-- number k is given with line i exactly when row k is the first that applies, its fault at that line, and an answer of its own kind exactly when none does
pub record Decided (rows : List Row) (its-kind : Outcome → Type 0) (a : Answer) : Type 0 where
  pub refused_when : (k i : ℕ) → outcome_of a ≡ refusal k i ↔ FirstApplies rows k i
  pub answered_when : its-kind (outcome_of a) ↔ NoneApplies rows

-- the work buffer is as it was where a row applies that is asked before the calendar is unfolded; otherwise the unfolded calendar stands first in it
pub record WorkLeft (early : List Row) (cal work left : List ℕ) : Type 0 where
  pub kept_when : (k i : ℕ) → FirstApplies early k i → left ≡ work
  pub unfolded_when : NoneApplies early → left ≡ unfolded cal ++ drop (length (unfolded cal)) work

-- an outcome of a match, and one of a report
unfoldable pub IsVerdict : Outcome → Type 0
IsVerdict o = (b : Bool) × (o ≡ verdict b)

unfoldable pub IsLength : Outcome → Type 0
IsLength o = (n : ℕ) × (o ≡ report n)

-- the call answered with a report of n bytes
unfoldable pub IsReport : Answer → ℕ → Type 0
IsReport a n = outcome_of a ≡ report n

-- any refusal leaves the output as it was; a report stands first in it, as long as was answered, and the rest is as it was
pub record OutputLeft (m : ReportCall) (a : Answer) (left : List ℕ) : Type 0 where
  pub kept_when : (k i : ℕ) → outcome_of a ≡ refusal k i → left ≡ m.output
  pub length_is : (n : ℕ) → IsReport a n → n ≡ length (report_bytes (report_for m.terms))
  pub written_when : (n : ℕ) → IsReport a n → left ≡ report_bytes (report_for m.terms) ++ drop n m.output

-- the rows are the sentences of the refusal table, in its order
pub record Demand1 : Type 0 where
  pub match_rows_holds : (m : MatchCall) (k i : ℕ) → RowApplies (match_rows m) k i ↔ MatchApplies m k i
  pub report_rows_holds : (m : ReportCall) (k i : ℕ) → RowApplies (report_rows m) k i ↔ ReportApplies m k i
  pub of_match : (m : MatchCall) (a : Answer) (left : List ℕ) → Matched m a left
      → Decided (match_rows m) IsVerdict a × WorkLeft (early_match_rows m) m.calendar m.work left
  pub of_report : (m : ReportCall) (a : Answer) (left out-left : List ℕ) → Reported m a left out-left
      → Decided (report_rows m) IsLength a × WorkLeft (early_rows m.terms) m.terms.calendar m.terms.work left × OutputLeft m a out-left

-- ---- Demand 2: a match, the covered seconds, and a report read back

-- a match is reported exactly when nothing refuses and the filter and time range rules say so
pub record MatchesWhen (m : MatchCall) (a : Answer) : Type 0 where
  pub matched_when : outcome_of a ≡ verdict true
      ↔ (NoneApplies (match_rows m) × (w : WellFormedQuery m.query) × QueryPasses (context_of m.offset) m.query w.sections (tree_in (unfolded m.calendar)))

-- a second stands under a busy type in the report where the report's bytes, read as a calendar at any offset, cover it
unfoldable pub StandsUnder : List ℕ → BusyType → ℕ → Type 0
StandsUnder bytes b x = (o : ℤ) → offset_good o ≡ true → Covers (entries_in bytes o) b x

-- a second of the range stands there exactly when a non-free instance or period of that type covers it
pub record SaysCovered (m : ReportCall) (a : Answer) (out-left : List ℕ) : Type 0 where
  pub stands_when : (n : ℕ) → IsReport a n → (b : BusyType) → is_busy b ≡ true → (x : ℕ) → m.terms.start ≤ x → x < m.terms.end
      → StandsUnder (take n out-left) b x ↔ Covers (entries_in m.terms.calendar m.terms.offset) b x

-- two calls over one range with one stamp
pub record SameRange (x y : CalendarTerms) : Type 0 where
  pub same_start : x.start ≡ y.start
  pub same_end : x.end ≡ y.end
  pub same_stamp : x.stamp ≡ y.stamp

-- a call on the report that the first one left, over the same range with the same stamp
pub record OnReport (m : ReportCall) (n : ℕ) (out-left : List ℕ) (again : ReportCall) : Type 0 where
  pub its_bytes : again.terms.calendar ≡ take n out-left
  pub same_range : SameRange again.terms m.terms

-- with a permitted offset and buffers long enough
pub record HasRoom (n : ℕ) (again : ReportCall) : Type 0 where
  pub offset_good_holds : offset_good again.terms.offset ≡ true
  pub work_long : n ≤ length again.terms.work
  pub output_long : n ≤ length again.output

-- the report read back yields its own bytes
pub record ReadsBack (m : ReportCall) (a : Answer) (out-left : List ℕ) (again : ReportCall) (b : Answer) (out-again : List ℕ) : Type 0 where
  pub same_bytes : (n : ℕ) → IsReport a n → OnReport m n out-left again → HasRoom n again → IsReport b n × (take n out-again ≡ take n out-left)

pub record Demand2 : Type 0 where
  pub of_match : (m : MatchCall) (a : Answer) (left : List ℕ) → Matched m a left → MatchesWhen m a
  pub of_report : (m : ReportCall) (a : Answer) (left out-left : List ℕ) → Reported m a left out-left → SaysCovered m a out-left
  pub of_two : (m again : ReportCall) (a b : Answer) (left out-left left-again out-again : List ℕ) → Reported m a left out-left
      → Reported again b left-again out-again → ReadsBack m a out-left again b out-again

-- ---- Demand 3: one meaning, one report

-- the covered seconds of the two calendars are the same seconds of the range, for each of the three busy types
unfoldable pub SameSeconds : CalendarTerms → CalendarTerms → Type 0
SameSeconds x y = (b : BusyType) → is_busy b ≡ true → (t : ℕ) → x.start ≤ t → t < x.end
    → Covers (entries_in x.calendar x.offset) b t ↔ Covers (entries_in y.calendar y.offset) b t

-- two reports are given where nothing refuses either call, and only there;
-- over the same range with the same stamp they have one length and one content where the seconds are the same, and only there
pub record OneMeaning (x : ReportCall) (a : Answer) (out-x : List ℕ) (y : ReportCall) (b : Answer) (out-y : List ℕ) : Type 0 where
  pub both_report : ((n : ℕ) × (k : ℕ) × (IsReport a n × IsReport b k)) ↔ (NoneApplies (report_rows x) × NoneApplies (report_rows y))
  pub same_report : SameRange x.terms y.terms → (n k : ℕ) → IsReport a n → IsReport b k
      → ((n ≡ k) × (take n out-x ≡ take k out-y)) ↔ SameSeconds x.terms y.terms

pub record Demand3 : Type 0 where
  pub of_two : (x y : ReportCall) (a b : Answer) (left-x out-x left-y out-y : List ℕ) → Reported x a left-x out-x → Reported y b left-y out-y
      → OneMeaning x a out-x y b out-y
