-- A value cut as the library's `split` cuts it: the pieces are those of the definition, and what a pass over them comes to.
use Prim.Native.Nat.{ℕ}
use mathlib.Core.Path.{◌≡◌, refl, sym, ap, ◌∙◌}
use mathlib.Core.Bool.{Bool, true, false, cond, ◌&&◌}
use mathlib.Core.List.{List, [], ◌∷◌, map}
use lib.Dec.{eqb}
use Rattle.std.specs.List.{fold, slice_split, onto_first, list_all}
use Rattle.line.specs.Splitting.{cuts_at, glue, split_parts, plain_split}
use Rattle.values.specs.declared.times.Context.{Context}
use Rattle.values.specs.declared.rule.Parts.{Parts}
use Rattle.values.specs.Period.{period_of, is_period, all_periods}
use Rattle.values.specs.Rule.{part_of, with_part, with_parts}

glue_same : (b : ℕ) (ts : List (List ℕ)) → onto_first b ts ≡ glue b ts
glue_same b [] = refl
glue_same b (t ∷ ts) = refl

-- a byte at which the value is cut, and one that goes to the first piece
cut_at : (sep b : ℕ) (s : List ℕ) → eqb b sep ≡ true → split_parts false sep false (b ∷ s) ≡ [] ∷ split_parts false sep false s
unfolding split_parts
cut_at sep b s e = let k : cuts_at sep false b ≡ true = rw e refl in rw (k, split_parts)

kept_at : (sep b : ℕ) (s : List ℕ) → eqb b sep ≡ false → split_parts false sep false (b ∷ s) ≡ glue b (split_parts false sep false s)
unfolding split_parts
kept_at sep b s e = let k : cuts_at sep false b ≡ false = rw e refl in rw (k, split_parts)

parts_same : (sep : ℕ) (s : List ℕ) → slice_split (λ b. eqb b sep) s ≡ split_parts false sep false s
unfolding split_parts
parts_same sep [] = refl
parts_same sep (b ∷ s) = go (eqb b sep) refl (parts_same sep s)
  where
    go : (t : Bool) → eqb b sep ≡ t → slice_split (λ x. eqb x sep) s ≡ split_parts false sep false s
        → cond (eqb b sep) ([] ∷ slice_split (λ x. eqb x sep) s) (onto_first b (slice_split (λ x. eqb x sep) s)) ≡ split_parts false sep false (b ∷ s)
    go true e i =
        ap (λ (t : Bool). cond t ([] ∷ slice_split (λ x. eqb x sep) s) (onto_first b (slice_split (λ x. eqb x sep) s))) e
        ∙ ap (λ (ts : List (List ℕ)). [] ∷ ts) i
        ∙ sym (cut_at sep b s e)
    go false e i =
        ap (λ (t : Bool). cond t ([] ∷ slice_split (λ x. eqb x sep) s) (onto_first b (slice_split (λ x. eqb x sep) s))) e
        ∙ ap (onto_first b) i
        ∙ glue_same b (split_parts false sep false s)
        ∙ sym (kept_at sep b s e)

pub split_same : (sep : ℕ) (s : List ℕ) → slice_split (λ b. eqb b sep) s ≡ plain_split sep s
unfolding plain_split
split_same sep s = parts_same sep s

-- each piece is a period
pub periods_all : (ts : List (List ℕ)) → list_all (λ t. is_period (period_of t)) ts ≡ all_periods (map period_of ts)
unfolding all_periods
periods_all [] = refl
periods_all (t ∷ ts) = ap (λ (r : Bool). is_period (period_of t) && r) (periods_all ts)

-- the parts of a rule, one after the other
pub parts_folded : (c : Context) (p : Parts) (ts : List (List ℕ)) → fold (λ q t. with_part q (part_of c t)) p ts ≡ with_parts p (map (part_of c) ts)
unfolding with_parts
parts_folded c p [] = refl
parts_folded c p (t ∷ ts) = parts_folded c (with_part p (part_of c t)) ts
