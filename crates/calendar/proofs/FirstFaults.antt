-- The folds over lines and components find the first fault.
use Rattle.std.specs.Prelude.{Err, Ok, Option, Result, Some}
use Prim.Native.Nat.{ℕ}
use Rattle.calendar.specs.declared.LineError.{LineError}
use mathlib.Core.Path.{◌≡◌, refl, sym, ap, ◌∙◌, subst}
use mathlib.Core.Bool.{Bool, true, false}
use mathlib.Core.Logic.{◌↔◌, ◌⊎◌, inl, inr, ⊎_elim}
use mathlib.Core.List.Memᴰ
use mathlib.Core.List.{List, [], ◌∷◌, ◌++◌, Memᴰ}
use native.Mathlib.Omega.{arith}
use Rattle.ascii.proofs.Bools.{clash}
use Rattle.values.specs.declared.times.Context.{Context}
use Rattle.property.specs.Facts.{ValueFault, Reading, unread, fault, of, unsupported, bad}
use Rattle.property.specs.Properties.{property_value_of}
use Rattle.property.specs.declared.Scope.{Scope}
use Rattle.nesting.specs.Components.{Numbered, Component, properties_in}
use Rattle.overrides.specs.VEvents.{VEvent}
use Rattle.calendar.specs.Meaning.{component_scope, fault_or, fault_in, value_fault, vevents, breaks_rule, broken_or, first_fault, rule_fault}
use Rattle.calendar.specs.FirstFaults.{First, ReadLine, lines_within, read_lines, says_of, Faulty, FirstFaulty, Placed, placed_from, Breaks, FirstBroken}
use Rattle.calendar.proofs.VEvents.{vevents_next}
use Rattle.calendar.proofs.ComponentRules.{keeps_iff}

-- ---- the first of a list

module _ {A : Type 0} {P : A → Type 0} where
  pub first_here : (x : A) (xs : List A) → P x → First P (x ∷ xs) x
  first_here x xs h =
      record { before = []; behind = xs; whole = refl; none_before = λ y m. absurd (Memᴰ.not-nil m); holds = h }

  pub first_later : {y : A} (x : A) (xs : List A) → (P x → ⊥) → First P xs y → First P (x ∷ xs) y
  first_later x xs h f =
      record {
        before = x ∷ f.before;
        behind = f.behind;
        whole = ap (λ (l : List A). x ∷ l) f.whole;
        none_before = λ z m p. ⊎_elim (λ e. h (subst P e p)) (λ k. f.none_before z k p) (Memᴰ.cases_cons m);
        holds = f.holds;
      }

  pub no_first : {y : A} → First P [] y → ⊥
  no_first {y} f = go f.before f.whole
    where
      go : (l : List A) → [] ≡ l ++ (y ∷ f.behind) → ⊥
      go [] e = let z : ◌≡◌ {A = ℕ} 0 1 = cc in absurd (omega arith)
      go (b ∷ l) e = let z : ◌≡◌ {A = ℕ} 0 1 = cc in absurd (omega arith)

  -- it is the head, or the head fails and it is the first of the rest
  pub first_cases : {y : A} (x : A) (xs : List A) → First P (x ∷ xs) y → ((y ≡ x) × P x) ⊎ ((P x → ⊥) × First P xs y)
  first_cases {y} x xs f = go f.before f.whole f.none_before
    where
      go : (l : List A) → (x ∷ xs) ≡ l ++ (y ∷ f.behind) → ((z : A) → Memᴰ z l → P z → ⊥) → ((y ≡ x) × P x) ⊎ ((P x → ⊥) × First P xs y)
      go [] e n = let same : y ≡ x = cc in inl (same, subst P same f.holds)
      go (b ∷ l) e n =
          let head : x ≡ b = cc in
          let rest : xs ≡ l ++ (y ∷ f.behind) = cc in
          inr (
            λ p. n b (Memᴰ.head refl) (subst P head p),
            record { before = l; behind = f.behind; whole = rest; none_before = λ z m. n z (Memᴰ.tail m); holds = f.holds },
          )

-- ---- 8 and 9

-- the fault of the lines, one after the other
abbrev fault_along : Context → List ReadLine → Result (Unit {0}) LineError
fault_along c [] = Ok tt
fault_along c (x ∷ xs) = fault_or x.at.number (says_of c x) (fault_along c xs)

along_lines : (c : Context) (s : Scope) (xs : List Numbered) (ys : List ReadLine) → fault_in c s xs (fault_along c ys) ≡ fault_along c (lines_within s xs ++ ys)
unfolding fault_in lines_within says_of
along_lines c s [] ys = refl
along_lines c s (x ∷ xs) ys = ap (fault_or x.number (property_value_of c s x.line)) (along_lines c s xs ys)

along : (c : Context) (ks : List Component) → value_fault c ks ≡ fault_along c (read_lines ks)
unfolding value_fault read_lines
along c [] = refl
along c (k ∷ ks) =
    ap (fault_in c (component_scope k) (properties_in k.items)) (along c ks)
    ∙ along_lines c (component_scope k) (properties_in k.items) (read_lines ks)

-- one of the two faults
abbrev IsFault : Reading → Type 0
IsFault v = (f : ValueFault) × (v ≡ fault f)

-- what a line says is one, or is passed over
told : (v : Reading) → IsFault v ⊎ ((n : ℕ) (r : Result (Unit {0}) LineError) → fault_or n v r ≡ r)
unfolding fault_or
told unread = inr (λ n r. refl)
told (fault f) = inl (f, refl)
told (of f) = inr (λ n r. refl)

-- a fault hides what comes behind it
fault_only : (f : ValueFault) (n : ℕ) (r q : Result (Unit {0}) LineError) → fault_or n (fault f) r ≡ fault_or n (fault f) q
unfolding fault_or
fault_only unsupported n r q = refl
fault_only bad n r q = refl

-- and is no good line
fault_shows : (f : ValueFault) (n : ℕ) (r : Result (Unit {0}) LineError) → fault_or n (fault f) r ≡ Ok tt → ⊥
unfolding fault_or
fault_shows unsupported n r q = let z : ◌≡◌ {A = ℕ} 0 1 = cc in absurd (omega arith)
fault_shows bad n r q = let z : ◌≡◌ {A = ℕ} 0 1 = cc in absurd (omega arith)

-- it tells what it is, and where
fault_same : (f g : ValueFault) (n i : ℕ) (r : Result (Unit {0}) LineError) → fault_or n (fault f) r ≡ fault_or i (fault g) (Ok tt) → (f ≡ g) × (n ≡ i)
unfolding fault_or
fault_same unsupported unsupported n i r q = (refl, cc)
fault_same unsupported bad n i r q = let z : ◌≡◌ {A = ℕ} 0 1 = cc in absurd (omega arith)
fault_same bad unsupported n i r q = let z : ◌≡◌ {A = ℕ} 0 1 = cc in absurd (omega arith)
fault_same bad bad n i r q = (refl, cc)

-- the first of some lines with a fault
pub record FirstOf (c : Context) (v : ValueFault) (xs : List ReadLine) (i : ℕ) : Type 0 where
  pub which : ReadLine
  pub first : First (Faulty c) xs which
  pub says : says_of c which ≡ fault v
  pub number : which.at.number ≡ i

module _ (c : Context) (v : ValueFault) (i : ℕ) where
  line_found : (xs : List ReadLine) → fault_along c xs ≡ fault_or i (fault v) (Ok tt) → FirstOf c v xs i
  unfolding Faulty
  line_found [] e = absurd (fault_shows v i (Ok tt) (sym e))
  line_found (x ∷ xs) e = go (told (says_of c x)) (line_found xs)
    where
      go : IsFault (says_of c x) ⊎ ((n : ℕ) (r : Result (Unit {0}) LineError) → fault_or n (says_of c x) r ≡ r)
          → (fault_along c xs ≡ fault_or i (fault v) (Ok tt) → FirstOf c v xs i) → FirstOf c v (x ∷ xs) i
      go (inl f) ih =
          let said = sym (ap (λ (y : Reading). fault_or x.at.number y (fault_along c xs)) f.1) ∙ e in
          let same = fault_same f.0 v x.at.number i (fault_along c xs) said in
          record { which = x; first = first_here x xs f; says = f.1 ∙ ap fault same.0; number = same.1 }
      go (inr p) ih =
          let r = ih (sym (p x.at.number (fault_along c xs)) ∙ e) in
          let fails : IsFault (says_of c x) → ⊥ = λ f.
          fault_shows f.0 0 (Ok tt) (sym (ap (λ (y : Reading). fault_or 0 y (Ok tt)) f.1) ∙ p 0 (Ok tt))
          in
          record { which = r.which; first = first_later x xs fails r.first; says = r.says; number = r.number }

  found_line : (xs : List ReadLine) → FirstOf c v xs i → fault_along c xs ≡ fault_or i (fault v) (Ok tt)
  unfolding Faulty
  found_line [] f = absurd (no_first f.first)
  found_line (x ∷ xs) f = go (first_cases x xs f.first) (told (says_of c x)) (found_line xs)
    where
      go : ((f.which ≡ x) × Faulty c x) ⊎ ((Faulty c x → ⊥) × First (Faulty c) xs f.which)
          → IsFault (says_of c x) ⊎ ((n : ℕ) (r : Result (Unit {0}) LineError) → fault_or n (says_of c x) r ≡ r)
          → (FirstOf c v xs i → fault_along c xs ≡ fault_or i (fault v) (Ok tt)) → fault_along c (x ∷ xs) ≡ fault_or i (fault v) (Ok tt)
      go (inl h) t ih =
          ap (λ (y : ReadLine). fault_or y.at.number (says_of c y) (fault_along c xs)) (sym h.0)
          ∙ ap (λ (y : Reading). fault_or f.which.at.number y (fault_along c xs)) f.says
          ∙ ap (λ (n : ℕ). fault_or n (fault v) (fault_along c xs)) f.number
          ∙ fault_only v i (fault_along c xs) (Ok tt)
      go (inr h) (inl k) ih = absurd (h.0 k)
      go (inr h) (inr p) ih =
          p x.at.number (fault_along c xs)
          ∙ ih (record { which = f.which; first = h.1; says = f.says; number = f.number })

module _ (c : Context) (ks : List Component) (i : ℕ) where
  faulty_iff : (v : ValueFault) → (value_fault c ks ≡ fault_or i (fault v) (Ok tt)) ↔ FirstFaulty c v ks i
  faulty_iff v = (
    λ e.
        let f = line_found c v i (read_lines ks) (sym (along c ks) ∙ e) in
        record { which = f.which; first = f.first; says = f.says; number = f.number },
    λ f.
        along c ks
        ∙ found_line c v i (read_lines ks) (record { which = f.which; first = f.first; says = f.says; number = f.number }),
  )

  -- 8: the first line with either has an unsupported thing; 9: it has a bad value
  pub unsupported_iff : (value_fault c ks ≡ Err (LineError.Unsupported i)) ↔ FirstFaulty c unsupported ks i
  unfolding fault_or
  unsupported_iff = faulty_iff unsupported

  pub bad_value_iff : (value_fault c ks ≡ Err (LineError.Bad i)) ↔ FirstFaulty c bad ks i
  unfolding fault_or
  bad_value_iff = faulty_iff bad

-- ---- 10

-- the first of the components ks, which stand behind `before`, that breaks a rule
record BrokenFrom (c : Context) (all before ks : List Component) (i : ℕ) : Type 0 where
  which : Placed
  first : First (Breaks c all) (placed_from before ks) which
  number : which.component.begin.number ≡ i

module _ (c : Context) (all : List Component) (i : ℕ) where
  -- what is found from here on
  abbrev from : List Component → List Component → Option ℕ
  from before ks = first_fault c (vevents c before) (vevents c all) ks

  -- the component k behind `before`
  abbrev broken : List Component → Component → Bool
  broken before k = breaks_rule c (vevents c before) (vevents c all) (component_scope k) k

  from_step : (before : List Component) (k : Component) (ks : List Component)
      → from before (k ∷ ks) ≡ broken_or (broken before k) k.begin.number (from (before ++ (k ∷ [])) ks)
  unfolding first_fault
  from_step before k ks =
      ap (λ (l : List VEvent). broken_or (broken before k) k.begin.number (first_fault c l (vevents c all) ks)) (sym (vevents_next c before k))

  broken_found : (before ks : List Component) → from before ks ≡ Some i → BrokenFrom c all before ks i
  unfolding first_fault broken_or placed_from Breaks
  broken_found before [] e = let z : ◌≡◌ {A = ℕ} 0 1 = cc in absurd (omega arith)
  broken_found before (k ∷ ks) e = go (broken before k) refl (broken_found (before ++ (k ∷ [])) ks) (sym (from_step before k ks) ∙ e)
    where
      go : (t : Bool) → broken before k ≡ t → (from (before ++ (k ∷ [])) ks ≡ Some i → BrokenFrom c all (before ++ (k ∷ [])) ks i)
          → broken_or (broken before k) k.begin.number (from (before ++ (k ∷ [])) ks) ≡ Some i → BrokenFrom c all before (k ∷ ks) i
      go true q ih e =
          let w : Some k.begin.number ≡ Some i = rw q at e in
          record { which = _; first = first_here _ _ (λ kept. clash q ((keeps_iff c before all k).1 kept)); number = cc }
      go false q ih e =
          let f = ih (rw q at e) in
          record { which = f.which; first = first_later _ _ (λ b. b ((keeps_iff c before all k).0 q)) f.first; number = f.number }

  found_broken : (before ks : List Component) → BrokenFrom c all before ks i → from before ks ≡ Some i
  unfolding broken_or placed_from Breaks
  found_broken before [] f = absurd (no_first f.first)
  found_broken before (k ∷ ks) f =
      from_step before k ks ∙ go (first_cases here (placed_from (before ++ (k ∷ [])) ks) f.first) (broken before k) refl (found_broken (before ++ (k ∷ [])) ks)
    where
      here : Placed
      here = record { before = before; component = k }

      go : ((f.which ≡ here) × Breaks c all here) ⊎ ((Breaks c all here → ⊥) × First (Breaks c all) (placed_from (before ++ (k ∷ [])) ks) f.which)
          → (t : Bool) → broken before k ≡ t → (BrokenFrom c all (before ++ (k ∷ [])) ks i → from (before ++ (k ∷ [])) ks ≡ Some i)
          → broken_or (broken before k) k.begin.number (from (before ++ (k ∷ [])) ks) ≡ Some i
      go (inl h) true q ih =
          ap (λ (b : Bool). broken_or b k.begin.number (from (before ++ (k ∷ [])) ks)) q
          ∙ ap Some (ap (λ (y : Placed). y.component.begin.number) (sym h.0) ∙ f.number)
      go (inl h) false q ih = absurd (h.1 ((keeps_iff c before all k).0 q))
      go (inr h) true q ih = absurd (h.0 (λ kept. clash q ((keeps_iff c before all k).1 kept)))
      go (inr h) false q ih = rw q (ih (record { which = f.which; first = h.1; number = f.number }))

-- THE THEOREM of refusal 10: the line is that of the first component that does not keep its rules beside those before it
pub broken_iff : (c : Context) (ks : List Component) (i : ℕ) → (rule_fault c ks ≡ Some i) ↔ FirstBroken c ks i
unfolding rule_fault vevents
broken_iff c ks i = (
  λ e. let f = broken_found c ks i [] ks e in record { which = f.which; first = f.first; number = f.number },
  λ f. found_broken c ks i [] ks (record { which = f.which; first = f.first; number = f.number }),
)
