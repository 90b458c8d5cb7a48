-- `recurrence::time_range::first_candidate` meets its contract: the division finds where the search starts.
use Rattle.recurrence.proofs.Candidates.{first_is_candidate, span_small}
use Rattle.recurrence.proofs.Instances.{step_long}
use Prim.Native.Nat.{ℕ}
use mathlib.Core.Path.{sym, ◌∙◌, subst}
use Rattle.recurrence.specs.Candidates.{FirstCandidate}
use native.Mathlib.Omega.{arith}
use Rattle.recurrence.proofs.time_range.first_candidate.Goals as goal

pub first_at-requires : goal.first_at-requires
first_at-requires c =
    let step = step_long c.requires.event_small in
    let span = span_small c.requires.event_small in
    let start = c.requires.event_small.start_small in
    record {
      s_bound = (omega arith);
      le_d = (omega arith);
      span_bound = (omega arith);
      a_bound = (omega arith);
    }

pub returns : goal.returns
returns c =
    subst (λ (k : ℕ). FirstCandidate c.args.e c.args.a k)
    (sym (c.first_at.ensures ∙ simp (c.step_of.ensures, c.span_of.ensures)))
    (first_is_candidate c.requires.event_small c.requires.a_le_last_second)
