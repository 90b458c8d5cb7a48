-- The arms of an answer, and a match call's promise spread over numbers.
use Prim.Native.Nat.{ℕ}
use mathlib.Core.Path.{◌≡◌, refl, sym, ap, ◌∙◌, subst}
use mathlib.Core.Bool.{Bool, true, false}
use mathlib.Core.List.{List}
use lib.IntN.{ℤ}
use Rattle.std.specs.Int.{from_bool}
use Rattle.engine.specs.Answers.{outcome_of}
use Rattle.engine.specs.Matching.{MatchCall, Matched}
use Rattle.engine.specs.Reporting.{ReportCall, Reported}
use Rattle.engine.specs.declared.Answer.{Answer}
use Rattle.lokuwaine.specs.Spreading.{verdict_value, kind_of, value_of, line_in, spread_of, MatchSpread, ReportSpread}
use Rattle.lokuwaine.specs.declared.Spread.{Spread}

-- 1 for yes and 0 for no
verdict_number : (b : Bool) → from_bool b ≡ verdict_value b
unfolding verdict_value
verdict_number true = refl
verdict_number false = refl

module _ {a : Answer} where
  pub spread_verdict : {b : Bool} {v : ℕ} → a ≡ Answer.Verdict b → v ≡ from_bool b → record { kind = 0; value = v; line = 0 } ≡ spread_of a
  unfolding spread_of kind_of value_of line_in outcome_of
  spread_verdict {b = b} e q = ap (λ (n : ℕ). record { kind = 0; value = n; line = 0 }) (q ∙ verdict_number b) ∙ sym (ap spread_of e)

  pub spread_length : {n : ℕ} → a ≡ Answer.Length n → record { kind = 1; value = n; line = 0 } ≡ spread_of a
  unfolding spread_of kind_of value_of line_in outcome_of
  spread_length e = sym (ap spread_of e)

  pub spread_refused : {n i : ℕ} → a ≡ Answer.Refused n i → record { kind = 2; value = n; line = i } ≡ spread_of a
  unfolding spread_of kind_of value_of line_in outcome_of
  spread_refused e = sym (ap spread_of e)

  match_spread_of : {m : MatchCall} {left : List ℕ} {s : Spread} → Matched m a left → s ≡ spread_of a → MatchSpread m s.kind s.value s.line left
  unfolding spread_of
  match_spread_of p e =
      record {
        kind_is = ap (λ (x : Spread). x.kind) e ∙ ap kind_of p.answered;
        value_is = ap (λ (x : Spread). x.value) e ∙ ap value_of p.answered;
        line_is = ap (λ (x : Spread). x.line) e ∙ ap line_in p.answered;
        work_left_is = p.work_left;
      }

  -- the offset as the machine reads it back is the offset
  pub match_spread : {cal query work left : List ℕ} {z o : ℤ} {s : Spread} → z ≡ o
      → Matched (record { calendar = cal; query = query; offset = z; work = work }) a left → s ≡ spread_of a
      → MatchSpread (record { calendar = cal; query = query; offset = o; work = work }) s.kind s.value s.line left
  match_spread {cal} {query} {work} {left} {z} {o} {s} q p e =
      subst (λ (x : ℤ). MatchSpread (record { calendar = cal; query = query; offset = x; work = work }) s.kind s.value s.line left) q
      (match_spread_of p e)

  report_spread_of : {m : ReportCall} {w o : List ℕ} {s : Spread} → Reported m a w o → s ≡ spread_of a → ReportSpread m s.kind s.value s.line w o
  unfolding spread_of
  report_spread_of p e =
      record {
        kind_is = ap (λ (x : Spread). x.kind) e ∙ ap kind_of p.answered;
        value_is = ap (λ (x : Spread). x.value) e ∙ ap value_of p.answered;
        line_is = ap (λ (x : Spread). x.line) e ∙ ap line_in p.answered;
        work_left_is = p.work_left_is;
        output_left_is = p.output_left_is;
      }

  pub report_spread : {cal work out w o : List ℕ} {b e t : ℕ} {z y : ℤ} {s : Spread} → z ≡ y
      → Reported (record { terms = record { calendar = cal; start = b; end = e; offset = z; stamp = t; work = work }; output = out }) a w o → s ≡ spread_of a
      → ReportSpread (record { terms = record { calendar = cal; start = b; end = e; offset = y; stamp = t; work = work }; output = out }) s.kind s.value s.line w o
  report_spread {cal} {work} {out} {w} {o} {b} {e} {t} {z} {y} {s} q p d =
      subst
      (λ (x : ℤ). ReportSpread (record { terms = record { calendar = cal; start = b; end = e; offset = x; stamp = t; work = work }; output = out }) s.kind s.value s.line w o)
      q
      (report_spread_of p d)
