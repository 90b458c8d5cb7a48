-- Outcomes: refused or not, outcomes of different kinds, and the answer to a report call by its refusal.
use Rattle.std.specs.Prelude.{Result, Ok, Err}
use Prim.Native.Nat.{ℕ}
use Rattle.std.specs.Result.{IsErrAnd}
use Rattle.engine.specs.declared.Answer.{Answer}
use mathlib.Core.Path.{◌≡◌, refl, sym, ap, ◌∙◌}
use mathlib.Core.Bool.{Bool}
use native.Mathlib.Omega.{arith}
use Rattle.calendar.specs.declared.Refusal.{Refusal}
use Rattle.calendar.specs.Refused.{refused_at, refusal_of}
use Rattle.engine.specs.Answers.{Outcome, verdict, report, refusal, unless_refused, outcome_of, answer_by, match_answer, length_told, length_in}

pub refused : {f : Result (Unit {0}) Refusal} {n i : ℕ} (o : Outcome) → f ≡ refused_at n i → unless_refused f o ≡ refusal n i
unfolding unless_refused
refused o e = rw e

pub let_through : {f : Result (Unit {0}) Refusal} (o : Outcome) → f ≡ Ok tt → unless_refused f o ≡ o
unfolding unless_refused
let_through o e = rw e

-- a verdict and a report are no refusals
pub verdict_apart : (b : Bool) (k i : ℕ) → verdict b ≡ refusal k i → ⊥
verdict_apart b k i e = let z : ◌≡◌ {A = ℕ} 0 1 = cc in absurd (omega arith)

pub report_apart : (n k i : ℕ) → report n ≡ refusal k i → ⊥
report_apart n k i e = let z : ◌≡◌ {A = ℕ} 0 1 = cc in absurd (omega arith)

-- an outcome that is a refusal names the first row; one that is none has no row
pub refusal_found : {k i : ℕ} (o : Outcome) → ((n j : ℕ) → o ≡ refusal n j → ⊥) → (f : Result (Unit {0}) Refusal) → unless_refused f o ≡ refusal k i → f ≡ refused_at k i
unfolding unless_refused
refusal_found {k} {i} o h (Ok _) e = absurd (h k i e)
refusal_found {k} {i} o h (Err r) e = let z : r.number ≡ k = cc in let w : r.line ≡ i = cc in ap (λ (m : ℕ). refused_at m r.line) z ∙ ap (λ (m : ℕ). refused_at k m) w

pub answer_found : {p : Outcome} (o : Outcome) → ((n i : ℕ) → p ≡ refusal n i → ⊥) → (f : Result (Unit {0}) Refusal) → unless_refused f o ≡ p → (f ≡ Ok tt) × (o ≡ p)
unfolding unless_refused
answer_found o h (Ok _) e = (refl, e)
answer_found o h (Err r) e = absurd (h r.number r.line (sym e))

pub verdict_found : {t : Bool} (b : Bool) (f : Result (Unit {0}) Refusal) → unless_refused f (verdict b) ≡ verdict t → (f ≡ Ok tt) × (b ≡ t)
verdict_found {t} b f e = let w = answer_found (verdict b) (verdict_apart t) f e in let same = w.1 in (w.0, cc)

pub report_found : {k : ℕ} (n : ℕ) (f : Result (Unit {0}) Refusal) → unless_refused f (report n) ≡ report k → (f ≡ Ok tt) × (k ≡ n)
report_found {k} n f e = let w = answer_found (report n) (report_apart k) f e in let same = w.1 in (w.0, cc)

-- outcomes of two kinds are apart
pub no_report : (f : Result (Unit {0}) Refusal) (b : Bool) (n : ℕ) → report n ≡ unless_refused f (verdict b) → ⊥
unfolding unless_refused
no_report (Ok _) b n e = let z : ◌≡◌ {A = ℕ} 0 1 = cc in absurd (omega arith)
no_report (Err r) b n e = let z : ◌≡◌ {A = ℕ} 0 1 = cc in absurd (omega arith)

pub same_verdict : {a b : Bool} → verdict a ≡ verdict b → a ≡ b
same_verdict e = cc

pub no_verdict : (f : Result (Unit {0}) Refusal) (t : Bool) (n : ℕ) → verdict t ≡ unless_refused f (report n) → ⊥
unfolding unless_refused
no_verdict (Ok _) t n e = let z : ◌≡◌ {A = ℕ} 0 1 = cc in absurd (omega arith)
no_verdict (Err r) t n e = let z : ◌≡◌ {A = ℕ} 0 1 = cc in absurd (omega arith)

-- an answer by its length or its refusal has the outcome that they make
length_lem : (n : ℕ) (w : Result ℕ Refusal) → length_told w ≡ length_in (unless_refused (refusal_of w) (report n)) → outcome_of (answer_by w) ≡ unless_refused (refusal_of w) (report n)
unfolding outcome_of answer_by length_in unless_refused
length_lem n (Ok m) l = ap report l
length_lem n (Err r) l = refl

pub answer_by_lem : (n : ℕ) (w : Result ℕ Refusal) {f : Result (Unit {0}) Refusal} → refusal_of w ≡ f → length_told w ≡ length_in (unless_refused f (report n))
    → outcome_of (answer_by w) ≡ unless_refused f (report n)
answer_by_lem n w e l =
    length_lem n w (l ∙ ap (λ (f : Result (Unit {0}) Refusal). length_in (unless_refused f (report n))) (sym e))
    ∙ ap (λ (f : Result (Unit {0}) Refusal). unless_refused f (report n)) e

-- a refusal that a match is handed is its answer
pub answer_up : (r : Result Bool Refusal) {f : Refusal} → IsErrAnd r (λ y. y ≡ f) → Answer.Refused f.number f.line ≡ match_answer r
answer_up (Ok b) z = absurd z
answer_up (Err y) z = ap (λ (x : Refusal). Answer.Refused x.number x.line) (sym z)
