-- The rows of the query: what 4 and 5 refuse, and what is known where they do not.
use Rattle.std.specs.Prelude.{Err, Ok, Result, Some}
use Prim.Native.Nat.{ℕ}
use Rattle.query_check.specs.declared.QueryError.{QueryError}
use mathlib.Core.Path.{◌≡◌, subst}
use mathlib.Core.List.{List}
use Rattle.query.specs.Sections.{sections_of}
use Rattle.query.specs.declared.Sections.{Sections}
use Rattle.query_check.specs.WellFormed.{query_read, ReadSays}
use Rattle.query_check.proofs.WellFormed.{read_says}
use Rattle.calendar.specs.Refused.{refused_at}
use Rattle.refusals.specs.Refusals.{first_refusal}
use Rattle.engine.specs.Matching.{misplaced_in, query_rows}

module _ (s : List ℕ) where
  says : {r : Result Sections QueryError} → query_read s ≡ r → ReadSays s r
  says e = subst (ReadSays s) e (read_says s)

  pub query_refused_4 : query_read s ≡ Err QueryError.Bad → first_refusal (query_rows s) ≡ refused_at 4 0
  unfolding query_rows first_refusal
  query_refused_4 e = rw (says e)

  pub query_refused_5 : query_read s ≡ Err QueryError.Misplaced → first_refusal (query_rows s) ≡ refused_at 5 0
  unfolding query_rows first_refusal misplaced_in
  query_refused_5 e = let h : ReadSays s (Err QueryError.Misplaced) = says e in rw (h.0, h.2, h.3)

  pub query_passed : (q : Sections) → query_read s ≡ Ok q → first_refusal (query_rows s) ≡ Ok tt
  unfolding query_rows first_refusal misplaced_in
  query_passed q e = let h : ReadSays s (Ok q) = says e in rw (h.0, h.1, h.2)

  pub query_sections : (q : Sections) → query_read s ≡ Ok q → sections_of s ≡ Some q
  query_sections q e = let h : ReadSays s (Ok q) = says e in h.1
