-- Two report calls made by one function: a report read back, and the reports of two calendars.
use Rattle.std.specs.Prelude.{ℕ, ◌≡◌, Bool, true, ◌&&◌, List, ltb, take}
use Rattle.ascii.specs.Names.{same_bytes}
use Rattle.report.specs.Heads.{heads_match}
use Rattle.engine.specs.Reporting.{ReportCall, Reported}
use Rattle.engine.specs.Demands.{IsReport, SaysCovered, OnReport, ReadsBack, OneMeaning}
use Rattle.engine.specs.declared.Answer.{Answer}
use Rattle.demands.specs.declared.ReadBack.{ReadBack}
use Rattle.demands.specs.declared.Pair.{Pair}

-- the length of a report, 0 for any other answer
unfoldable pub length_of : Answer → ℕ
length_of (Answer.Verdict b) = 0
length_of (Answer.Length n) = n
length_of (Answer.Refused n i) = 0

-- both answers are reports, and the first bytes of the two outputs the same report
unfoldable pub same_reports : Answer → List ℕ → Answer → List ℕ → Bool
same_reports a o b p = ltb 0 (length_of a) && ltb 0 (length_of b) && same_bytes (take (length_of a) o) (take (length_of b) p)

-- a report read back: the whole promise of both calls, and beside it that the second report is the first
pub record ReadBackCalls (m again : ReportCall) (r : ReadBack) (w o w₂ o₂ : List ℕ) : Type 0 where
  pub first_call : Reported m r.first w o
  pub on_first : OnReport m (length_of r.first) o again
  pub second_call : Reported again r.second w₂ o₂
  pub says_covered : SaysCovered m r.first o
  pub reads_back : ReadsBack m r.first o again r.second o₂
  pub heads_are : r.heads ≡ heads_match (take (length_of r.first) o)
  pub heads_match_holds : (n : ℕ) → IsReport r.first n → r.heads ≡ true

-- demand 3 of running code: the whole promise of both calls, and the claim
pub record Compared (x y : ReportCall) (r : Pair) (w o w₂ o₂ : List ℕ) : Type 0 where
  pub first_call : Reported x r.first w o
  pub second_call : Reported y r.second w₂ o₂
  pub one_meaning : OneMeaning x r.first o y r.second o₂
