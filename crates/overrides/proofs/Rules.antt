-- The line of refusal 10: the BEGIN of the first VEVENT that does not keep a rule,
-- each asked beside those before it.
use Prim.Native.Nat.{ℕ}
use mathlib.Core.Path.{◌≡◌, refl, sym, ap, subst, ◌∙◌}
use mathlib.Core.Bool.{Bool, true, false, cond}
use mathlib.Core.List.{List, [], ◌∷◌, ◌++◌, append_assoc, append-nil}
use mathlib.Core.Logic.{◌↔◌}
use native.Mathlib.Omega.{arith}
use lib.ListN.{length, length-append}
use Rattle.ascii.proofs.Bools.{clash}
use Rattle.overrides.specs.VEvents.{VEvent}
use Rattle.overrides.specs.Rules.{breaks, all_keep, broken_at, first_broken, broken_line}
use Rattle.overrides.specs.Keeping.{Keeps, FirstBroken}
use Rattle.overrides.proofs.Keeping.{keeps_iff}

-- nothing is a list with an element
no_split : {A : Type 0} (b : List VEvent) (w : VEvent) (c : List VEvent) → [] ≡ b ++ (w ∷ c) → A
no_split b w c h = absurd (omega (arith, ap length h, length-append b (w ∷ c)))

-- all of vs keep the rules, where they stand behind `before`
abbrev AllKeep : List VEvent → List VEvent → List VEvent → Type 0
AllKeep before all vs = (b : List VEvent) (w : VEvent) (c : List VEvent) → vs ≡ b ++ (w ∷ c) → Keeps (before ++ b) all w

-- the first of vs that does not
record FirstOf (before all vs : List VEvent) (n : ℕ) : Type 0 where
  ahead : List VEvent
  which : VEvent
  behind : List VEvent
  whole : vs ≡ ahead ++ (which ∷ behind)
  earlier : AllKeep before all ahead
  which_breaks : Keeps (before ++ ahead) all which → ⊥
  line : which.begin ≡ n

module _ (all : List VEvent) where
  -- v keeps them, and so do those behind it
  keep_more : (before : List VEvent) (v : VEvent) (vs : List VEvent) → Keeps before all v → AllKeep (before ++ (v ∷ [])) all vs → AllKeep before all (v ∷ vs)
  keep_more before v vs k more [] w c h =
      let e : v ≡ w = cc in
      subst (λ (l : List VEvent). Keeps l all w) (sym (append-nil before)) (subst (Keeps before all) e k)
  keep_more before v vs k more (x ∷ b) w c h =
      let e : v ≡ x = cc in
      let rest : vs ≡ b ++ (w ∷ c) = cc in
      let joined : (before ++ (v ∷ [])) ++ b ≡ before ++ (x ∷ b) =
      append_assoc before (v ∷ []) b ∙ ap (λ (y : VEvent). before ++ (y ∷ b)) e in
      subst (λ (l : List VEvent). Keeps l all w) joined (more b w c rest)

  keep_first : (before : List VEvent) (v : VEvent) (vs : List VEvent) → AllKeep before all (v ∷ vs) → Keeps before all v
  keep_first before v vs k = subst (λ (l : List VEvent). Keeps l all v) (append-nil before) (k [] v vs refl)

  keep_rest : (before : List VEvent) (v : VEvent) (vs : List VEvent) → AllKeep before all (v ∷ vs) → AllKeep (before ++ (v ∷ [])) all vs
  keep_rest before v vs k b w c h =
      subst (λ (l : List VEvent). Keeps l all w) (sym (append_assoc before (v ∷ []) b)) (k (v ∷ b) w c (ap (λ (l : List VEvent). v ∷ l) h))

  first_here : (before : List VEvent) (v : VEvent) (vs : List VEvent) (n : ℕ) → breaks before all v ≡ true → v.begin ≡ n → FirstOf before all (v ∷ vs) n
  first_here before v vs n q e =
      record {
        ahead = [];
        which = v;
        behind = vs;
        whole = refl;
        earlier = λ b w c h. no_split b w c h;
        which_breaks = λ k. clash q ((keeps_iff before all v).1 (subst (λ (l : List VEvent). Keeps l all v) (append-nil before) k));
        line = e;
      }

  first_later : (before : List VEvent) (v : VEvent) (vs : List VEvent) (n : ℕ) → breaks before all v ≡ false → FirstOf (before ++ (v ∷ [])) all vs n
      → FirstOf before all (v ∷ vs) n
  first_later before v vs n q f =
      record {
        ahead = v ∷ f.ahead;
        which = f.which;
        behind = f.behind;
        whole = ap (λ (l : List VEvent). v ∷ l) f.whole;
        earlier = keep_more before v f.ahead ((keeps_iff before all v).0 q) f.earlier;
        which_breaks = λ k. f.which_breaks (subst (λ (l : List VEvent). Keeps l all f.which) (sym (append_assoc before (v ∷ []) f.ahead)) k);
        line = f.line;
      }

  line_first : (before vs : List VEvent) (n : ℕ) → first_broken before all vs ≡ broken_at n → FirstOf before all vs n
  unfolding first_broken
  line_first before [] n h = let z : ◌≡◌ {A = ℕ} 0 1 = cc in absurd (omega arith)
  line_first before (v ∷ vs) n h = go (breaks before all v) refl (line_first (before ++ (v ∷ [])) vs n) h
    where
      go : (t : Bool) → breaks before all v ≡ t → (first_broken (before ++ (v ∷ [])) all vs ≡ broken_at n → FirstOf (before ++ (v ∷ [])) all vs n)
          → cond t (broken_at v.begin) (first_broken (before ++ (v ∷ [])) all vs) ≡ broken_at n → FirstOf before all (v ∷ vs) n
      go true q below h = let e : v.begin ≡ n = cc in first_here before v vs n q e
      go false q below h = first_later before v vs n q (below h)

  first_line : (before ahead : List VEvent) (w : VEvent) (behind : List VEvent) → AllKeep before all ahead → (Keeps (before ++ ahead) all w → ⊥)
      → first_broken before all (ahead ++ (w ∷ behind)) ≡ broken_at w.begin
  unfolding first_broken
  first_line before [] w behind k n =
      ap (λ (t : Bool). cond t (broken_at w.begin) (first_broken (before ++ (w ∷ [])) all behind)) (is_broken_lem (breaks before all w) refl)
    where
      is_broken_lem : (t : Bool) → breaks before all w ≡ t → breaks before all w ≡ true
      is_broken_lem true q = q
      is_broken_lem false q = absurd (n (subst (λ (l : List VEvent). Keeps l all w) (sym (append-nil before)) ((keeps_iff before all w).0 q)))
  first_line before (v ∷ ahead) w behind k n =
      ap (λ (t : Bool). cond t (broken_at v.begin) (first_broken (before ++ (v ∷ [])) all (ahead ++ (w ∷ behind))))
      ((keeps_iff before all v).1 (keep_first before v ahead k))
      ∙ first_line (before ++ (v ∷ [])) ahead w behind (keep_rest before v ahead k)
      (λ x. n (subst (λ (l : List VEvent). Keeps l all w) (append_assoc before (v ∷ []) ahead) x))

  -- the line is that of the first that breaks a rule
  pub first_broken_iff : (n : ℕ) → (broken_line all ≡ broken_at n) ↔ FirstBroken all n
  unfolding broken_line
  first_broken_iff n = (
    λ h.
        let f = line_first [] all n h in
        record {
          before = f.ahead;
          which = f.which;
          behind = f.behind;
          whole = f.whole;
          earlier_keep = f.earlier;
          which_breaks = f.which_breaks;
          line = f.line;
        },
    λ f.
        ap (first_broken [] all) f.whole
        ∙ first_line [] f.before f.which f.behind f.earlier_keep f.which_breaks
        ∙ ap broken_at f.line,
  )

  none_keep : (before vs : List VEvent) → first_broken before all vs ≡ all_keep → AllKeep before all vs
  unfolding first_broken
  none_keep before [] h = λ b w c q. no_split b w c q
  none_keep before (v ∷ vs) h = go (breaks before all v) refl (none_keep (before ++ (v ∷ [])) vs) h
    where
      go : (t : Bool) → breaks before all v ≡ t → (first_broken (before ++ (v ∷ [])) all vs ≡ all_keep → AllKeep (before ++ (v ∷ [])) all vs)
          → cond t (broken_at v.begin) (first_broken (before ++ (v ∷ [])) all vs) ≡ all_keep → AllKeep before all (v ∷ vs)
      go true q below h = let z : ◌≡◌ {A = ℕ} 0 1 = cc in absurd (omega arith)
      go false q below h = keep_more before v vs ((keeps_iff before all v).0 q) (below h)

  keep_none : (before vs : List VEvent) → AllKeep before all vs → first_broken before all vs ≡ all_keep
  unfolding first_broken
  keep_none before [] k = refl
  keep_none before (v ∷ vs) k =
      ap (λ (t : Bool). cond t (broken_at v.begin) (first_broken (before ++ (v ∷ [])) all vs)) ((keeps_iff before all v).1 (keep_first before v vs k))
      ∙ keep_none (before ++ (v ∷ [])) vs (keep_rest before v vs k)

  -- there is no line where each keeps the rules beside those before it
  pub all_keep_iff : (broken_line all ≡ all_keep) ↔ ((b : List VEvent) (w : VEvent) (c : List VEvent) → all ≡ b ++ (w ∷ c) → Keeps b all w)
  unfolding broken_line
  all_keep_iff = (none_keep [] all, keep_none [] all)
