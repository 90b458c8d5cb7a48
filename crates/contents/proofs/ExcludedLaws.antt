-- Laws of the column of excluded seconds: a run of them stands where it was stored, and a later one leaves it.
use Prim.Native.Nat.{ℕ, suc, ◌+◌, ◌-◌, ◌≤◌}
use mathlib.Core.Path.{◌≡◌, refl, sym, ap, ◌∙◌}
use mathlib.Core.List.{List, [], ◌∷◌, ◌++◌, append_assoc}
use native.Mathlib.Omega.{arith}
use lib.ListN.{length, take, drop, set}
use lib.Seq.{sets, sets-eq, take-set-le, take_at, drop_at, length-take-le}
use Rattle.text.specs.Lines.{part}
use Rattle.series.proofs.PartLaws.{part_taken}

-- what stands before a run
take_kept : (n : ℕ) (e : List ℕ) (h : ℕ) (vs : List ℕ) → n ≤ h → take n (sets e h vs) ≡ take n e
take_kept n e h [] l = refl
take_kept n e h (a ∷ vs) l = take_kept n (set e h a) (suc h) vs (omega arith) ∙ take-set-le n e h a l

pub part_kept : (e : List ℕ) (h : ℕ) (vs : List ℕ) (f t : ℕ) → f ≤ t → t ≤ h → part (sets e h vs) f t ≡ part e f t
part_kept e h vs f t a b = part_taken (sets e h vs) f t a ∙ ap (drop f) (take_kept t e h vs b) ∙ sym (part_taken e f t a)

pub part_here : (e : List ℕ) (h : ℕ) (vs : List ℕ) {t : ℕ} → t ≡ h + length vs → t ≤ length e → part (sets e h vs) h t ≡ vs
part_here e h vs {t} q l =
    ap (λ (x : List ℕ). take (t - h) (drop h x)) (sets-eq vs e h (omega arith) ∙ append_assoc (take h e) vs (drop (h + length vs) e))
    ∙ ap (take (t - h)) (drop_at (take h e) (vs ++ drop (h + length vs) e) h (length-take-le h e (omega arith)))
    ∙ take_at vs (drop (h + length vs) e) (t - h) (omega arith)
