-- Laws of the parameters of a line, as the code reads them: one place after the other in the head,
-- and what one count of a parameter tells.
use Prim.Native.Nat.{ℕ, suc, ◌+◌, ◌-◌, ◌≤◌, ◌<◌}
use mathlib.Core.Path.{◌≡◌, refl, sym, ap, ◌∙◌}
use mathlib.Core.Bool.{Bool, true, false, cond, not, ◌||◌, or-false, or_assoc}
use mathlib.Core.List.{List, [], ◌∷◌, ◌++◌, map}
use mathlib.Core.Logic.{◌↔◌}
use native.Mathlib.Omega.{arith}
use lib.Dec.{ltb}
use lib.ListN.{length, take, drop, get_or, length-map, length-append, get_or-map}
use borrow.Author.Tests.{ltb-true, ltb-false, lt-ltb, le-ltb}
use Rattle.ascii.specs.Names.{same_name}
use Rattle.ascii.proofs.Bools.{and_left, and_right, and_both, clash}
use Rattle.line.specs.declared.read.Usage.{Usage}
use Rattle.line.specs.Grammar.{Parameter}
use Rattle.line.specs.Splitting.{next_place, after, split_parts, split_after, quotes_off}
use Rattle.line.specs.Reading.{head_of, is_named, parameter_texts, values_of, parameter_of, line_of, first_of, rest_of, keep_if, parameters_named, some_list, usage_of, pooled, values_named, counted_with, has_parameter, has_twice, has_list, first_value, all_valued}
use Rattle.line.proofs.Scanner.{or_none}
use Rattle.line.proofs.Splitting.{parts_from, parts_some, split_after_out, split_after_next, next_place_ge, next_place_le}

-- ---- one parameter, one value, by its number

length_rest : (ps : List (List ℕ)) → length ps - 1 ≡ length (rest_of ps)
length_rest [] = refl
length_rest (p ∷ ps) = let n : suc (length ps) - 1 ≡ length ps = omega arith in n

pub parameter_texts_count : (l : List ℕ) → length (split_parts true 59 false (head_of l)) - 1 ≡ length (parameter_texts l)
unfolding parameter_texts
parameter_texts_count l = length_rest (split_parts true 59 false (head_of l))

-- the parameters stand behind the first semicolon of the head
pub parameter_texts_after : (l : List ℕ) → parameter_texts l ≡ split_after true 59 (head_of l) (next_place true 59 (head_of l) 0)
unfolding parameter_texts
parameter_texts_after l = ap rest_of (parts_from true 59 (head_of l) 0 (omega arith))

pub values_of_count : (t : List ℕ) → length (split_parts true 44 false (after true 61 t)) ≡ length (values_of t)
unfolding values_of
values_of_count t = sym (length-map (split_parts true 44 false (after true 61 t)) quotes_off)

pub values_of_at : (t : List ℕ) (n : ℕ) → quotes_off (get_or (split_parts true 44 false (after true 61 t)) n []) ≡ get_or (values_of t) n []
unfolding values_of quotes_off
values_of_at t n = sym (get_or-map quotes_off (split_parts true 44 false (after true 61 t)) n [])

-- ---- how often a parameter of a name stands: the loop counts from the left

abbrev usage : ℕ → Bool → Usage
usage n b = record { times = n; listed = b }

usage_eq : {m n : ℕ} {a b : Bool} → m ≡ n → a ≡ b → usage m a ≡ usage n b
usage_eq {n = n} {a} p q = ap (λ (k : ℕ). usage k a) p ∙ ap (λ (t : Bool). usage n t) q

abbrev pub no_usage : Usage
no_usage = usage 0 false

abbrev pub usage_fold : List ℕ → Usage → List Parameter → Usage
usage_fold n u [] = u
usage_fold n u (p ∷ ps) = usage_fold n (counted_with n u p) ps

added : Usage → Usage → Usage
added u v = usage (u.times + v.times) (u.listed || v.listed)

added_next : (n : List ℕ) (u : Usage) (p : Parameter) (ps : List Parameter) → added (counted_with n u p) (usage_of n ps) ≡ added u (usage_of n (p ∷ ps))
unfolding added counted_with usage_of parameters_named some_list
added_next n u p ps = go (same_name p.name n)
  where
    qs : List Parameter
    qs = parameters_named n ps

    go : (t : Bool)
        → added (cond t (usage (u.times + 1) (u.listed || ltb 1 (length p.values))) u) (usage (length qs) (some_list qs))
        ≡ added u (usage (length (keep_if t p qs)) (some_list (keep_if t p qs)))
    go true = usage_eq (omega arith) (or_assoc u.listed (ltb 1 (length p.values)) (some_list qs))
    go false = refl

usage_fold_added : (n : List ℕ) (u : Usage) (ps : List Parameter) → usage_fold n u ps ≡ added u (usage_of n ps)
unfolding added usage_of parameters_named some_list
usage_fold_added n u [] = usage_eq (omega arith) (sym (or-false u.listed))
usage_fold_added n u (p ∷ ps) = usage_fold_added n (counted_with n u p) ps ∙ added_next n u p ps

pub usage_fold_none : (n : List ℕ) (ps : List Parameter) → usage_fold n no_usage ps ≡ usage_of n ps
unfolding added usage_of
usage_fold_none n ps = usage_fold_added n no_usage ps ∙ usage_eq (omega arith) refl

-- ---- a loop over the parameters of a head: those from a semicolon on

abbrev pub parameters_from : List ℕ → ℕ → List Parameter
parameters_from h at = map parameter_of (split_after true 59 h at)

pub parameters_next : (h : List ℕ) (at e : ℕ) → at < length h → e ≡ next_place true 59 h (at + 1)
    → parameters_from h at ≡ parameter_of (take (e - (at + 1)) (drop (at + 1) h)) ∷ parameters_from h e
parameters_next h at e k q =
    ap (map parameter_of) (split_after_next true 59 h at k)
    ∙ ap (λ (i : ℕ). parameter_of (take (i - (at + 1)) (drop (at + 1) h)) ∷ parameters_from h i) (sym q)

pub parameters_end : (h : List ℕ) (at : ℕ) → length h ≤ at → parameters_from h at ≡ []
parameters_end h at k = ap (map parameter_of) (split_after_out true 59 h at k)

-- all of them, from the first semicolon on
pub parameters_all : (l h : List ℕ) → h ≡ head_of l → parameters_from h (next_place true 59 h 0) ≡ (line_of l).parameters
unfolding line_of
parameters_all l h q =
    ap (λ (s : List ℕ). parameters_from s (next_place true 59 s 0)) q ∙ ap (map parameter_of) (sym (parameter_texts_after l))

-- the next semicolon stands behind this one, or the end of the head does
pub next_rises : (h : List ℕ) (at e : ℕ) → e ≡ next_place true 59 h (at + 1) → at + 1 ≤ e
next_rises h at e q = omega (arith, next_place_ge true 59 h (at + 1))

pub next_inside : (h : List ℕ) (at e : ℕ) → at < length h → e ≡ next_place true 59 h (at + 1) → e ≤ length h
next_inside h at e k q = omega (arith, next_place_le true 59 h (at + 1) (omega arith))

-- the loop that counts: with what was counted before `at`, the rest gives the count of all
pub record Used (n h : List ℕ) (u : Usage) (at : ℕ) : Type 0 where
  pub inside : at ≤ length h
  pub few : u.times ≤ at
  pub rest : usage_fold n u (parameters_from h at) ≡ usage_fold n no_usage (parameters_from h (next_place true 59 h 0))

pub used_start : (n h : List ℕ) (at : ℕ) → at ≡ next_place true 59 h 0 → Used n h no_usage at
used_start n h at q = record {
  inside = omega (arith, next_place_le true 59 h 0 (omega arith));
  few = omega arith;
  rest = ap (λ (i : ℕ). usage_fold n no_usage (parameters_from h i)) q;
}

-- one parameter, by its name; v is the number of its values
pub counted_same : (n t : List ℕ) (u : Usage) (v : ℕ) → is_named n t ≡ true → v ≡ length (values_of t)
    → usage (u.times + 1) (u.listed || ltb 1 v) ≡ counted_with n u (parameter_of t)
unfolding is_named counted_with parameter_of
counted_same n t u v e k = rw (e, k)

pub counted_other : (n t : List ℕ) (u : Usage) → is_named n t ≡ false → u ≡ counted_with n u (parameter_of t)
unfolding is_named counted_with parameter_of
counted_other n t u e = rw e

counted_few : (n : List ℕ) (u : Usage) (p : Parameter) → (counted_with n u p).times ≤ u.times + 1
unfolding counted_with
counted_few n u p = go (same_name p.name n)
  where
    go : (t : Bool) → (cond t (usage (u.times + 1) (u.listed || ltb 1 (length p.values))) u).times ≤ u.times + 1
    go true = omega arith
    go false = omega arith

module _ {n h : List ℕ} {u : Usage} {at : ℕ} where
  pub used_next : (v : Usage) (e : ℕ) → at < length h → e ≡ next_place true 59 h (at + 1)
      → v ≡ counted_with n u (parameter_of (take (e - (at + 1)) (drop (at + 1) h))) → Used n h u at → Used n h v e
  used_next v e k q w r =
      let p : Parameter = parameter_of (take (e - (at + 1)) (drop (at + 1) h)) in
      record {
        inside = next_inside h at e k q;
        few = omega (arith, ap (λ (x : Usage). x.times) w, counted_few n u p, next_rises h at e q, r.few);
        rest =
            ap (λ (x : Usage). usage_fold n x (parameters_from h e)) w
            ∙ ap (usage_fold n u) (sym (parameters_next h at e k q))
            ∙ r.rest;
      }

  pub used_end : (l : List ℕ) → length h ≤ at → h ≡ head_of l → Used n h u at → u ≡ usage_of n (line_of l).parameters
  used_end l k q r =
      sym (ap (usage_fold n u) (parameters_end h at k))
      ∙ r.rest
      ∙ ap (usage_fold n no_usage) (parameters_all l h q)
      ∙ usage_fold_none n (line_of l).parameters

-- ---- the loop that looks for the first value of a name: none before `at`

pub record Sought (n h : List ℕ) (at : ℕ) : Type 0 where
  pub inside : at ≤ length h
  pub rest : first_of (values_named n (parameters_from h at)) ≡ first_of (values_named n (parameters_from h (next_place true 59 h 0)))

pub sought_start : (n h : List ℕ) (at : ℕ) → at ≡ next_place true 59 h 0 → Sought n h at
sought_start n h at q = record {
  inside = omega (arith, next_place_le true 59 h 0 (omega arith));
  rest = ap (λ (i : ℕ). first_of (values_named n (parameters_from h i))) q;
}

values_named_other : (n : List ℕ) (p : Parameter) (ps : List Parameter) → same_name p.name n ≡ false → values_named n (p ∷ ps) ≡ values_named n ps
unfolding values_named parameters_named
values_named_other n p ps e = rw e

values_named_same : (n : List ℕ) (p : Parameter) (ps : List Parameter) → same_name p.name n ≡ true
    → values_named n (p ∷ ps) ≡ p.values ++ values_named n ps
unfolding values_named parameters_named pooled
values_named_same n p ps e = rw e

-- a parameter has a first value
pub values_some : (t : List ℕ) → 1 ≤ length (values_of t)
values_some t = omega (arith, values_of_count t, parts_some true 44 false (after true 61 t))

first_of_append : (vs ws : List (List ℕ)) → 1 ≤ length vs → get_or vs 0 [] ≡ first_of (vs ++ ws)
first_of_append [] ws h = absurd (omega arith)
first_of_append (v ∷ vs) ws h = refl

module _ {n h : List ℕ} {at : ℕ} where
  pub sought_next : (e : ℕ) → at < length h → e ≡ next_place true 59 h (at + 1)
      → is_named n (take (e - (at + 1)) (drop (at + 1) h)) ≡ false → Sought n h at → Sought n h e
  unfolding is_named parameter_of
  sought_next e k q w r =
      let p : Parameter = parameter_of (take (e - (at + 1)) (drop (at + 1) h)) in
      record {
        inside = next_inside h at e k q;
        rest =
            ap first_of (sym (values_named_other n p (parameters_from h e) w))
            ∙ ap (λ (ps : List Parameter). first_of (values_named n ps)) (sym (parameters_next h at e k q))
            ∙ r.rest;
      }

  pub sought_found : (l : List ℕ) (e : ℕ) → at < length h → e ≡ next_place true 59 h (at + 1) → h ≡ head_of l
      → is_named n (take (e - (at + 1)) (drop (at + 1) h)) ≡ true → Sought n h at
      → get_or (values_of (take (e - (at + 1)) (drop (at + 1) h))) 0 [] ≡ first_value n (line_of l)
  unfolding is_named parameter_of first_value
  sought_found l e k q i w r =
      let t : List ℕ = take (e - (at + 1)) (drop (at + 1) h) in
      first_of_append (values_of t) (values_named n (parameters_from h e)) (values_some t)
      ∙ ap first_of (sym (values_named_same n (parameter_of t) (parameters_from h e) w))
      ∙ ap (λ (ps : List Parameter). first_of (values_named n ps)) (sym (parameters_next h at e k q))
      ∙ r.rest
      ∙ ap (λ (ps : List Parameter). first_of (values_named n ps)) (parameters_all l h i)

  pub sought_end : (l : List ℕ) → length h ≤ at → h ≡ head_of l → Sought n h at → [] ≡ first_value n (line_of l)
  unfolding first_value values_named parameters_named pooled
  sought_end l k i r =
      sym (ap (λ (ps : List Parameter). first_of (values_named n ps)) (parameters_end h at k))
      ∙ r.rest
      ∙ ap (λ (ps : List Parameter). first_of (values_named n ps)) (parameters_all l h i)

-- ---- one parameter and one value: what "neither twice nor as a list" leaves

all_valued_lem : (ts : List (List ℕ)) → all_valued (map parameter_of ts) ≡ true
unfolding all_valued parameter_of
all_valued_lem [] = refl
all_valued_lem (t ∷ ts) = and_both (lt-ltb 0 _ (values_some t)) (all_valued_lem ts)

-- every parameter that a line has says at least one value
pub line_valued : (l : List ℕ) → all_valued (line_of l).parameters ≡ true
unfolding line_of
line_valued l = all_valued_lem (parameter_texts l)

named_valued : (n : List ℕ) (ps : List Parameter) → all_valued ps ≡ true → all_valued (parameters_named n ps) ≡ true
unfolding all_valued parameters_named
named_valued n [] e = refl
named_valued n (p ∷ ps) e = go (same_name p.name n) (named_valued n ps (and_right (ltb 0 (length p.values)) _ e))
  where
    go : (t : Bool) → all_valued (parameters_named n ps) ≡ true → all_valued (keep_if t p (parameters_named n ps)) ≡ true
    go true k = and_both (and_left (ltb 0 (length p.values)) _ e) k
    go false k = k

-- parameters that have a value each: as many values as parameters where none is a list, never fewer, and two or more where one is
pooled_plain : (ps : List Parameter) → all_valued ps ≡ true → some_list ps ≡ false → length (pooled ps) ≡ length ps
unfolding all_valued some_list pooled
pooled_plain [] e k = refl
pooled_plain (p ∷ ps) e k =
    let a : 0 < length p.values = ltb-true _ _ (and_left (ltb 0 (length p.values)) _ e) in
    let b : length p.values ≤ 1 = ltb-false _ _ (or_none (ltb 1 (length p.values)) _ (ap not k)).0 in
    let c : length (pooled ps) ≡ length ps =
    pooled_plain ps (and_right (ltb 0 (length p.values)) _ e) (or_none (ltb 1 (length p.values)) _ (ap not k)).1 in
    simp length-append (omega arith)

pooled_many : (ps : List Parameter) → all_valued ps ≡ true → length ps ≤ length (pooled ps)
unfolding all_valued pooled
pooled_many [] e = omega arith
pooled_many (p ∷ ps) e =
    let a : 0 < length p.values = ltb-true _ _ (and_left (ltb 0 (length p.values)) _ e) in
    let c : length ps ≤ length (pooled ps) = pooled_many ps (and_right (ltb 0 (length p.values)) _ e) in
    simp length-append (omega arith)

pooled_list : (ps : List Parameter) → all_valued ps ≡ true → some_list ps ≡ true → 2 ≤ length (pooled ps)
unfolding all_valued some_list pooled
pooled_list [] e k = clash k refl
pooled_list (p ∷ ps) e k = go (ltb 1 (length p.values)) refl (pooled_list ps (and_right (ltb 0 (length p.values)) _ e))
  where
    go : (t : Bool) → ltb 1 (length p.values) ≡ t → (some_list ps ≡ true → 2 ≤ length (pooled ps)) → 2 ≤ length (p.values ++ pooled ps)
    go true w f = let a : 1 < length p.values = ltb-true _ _ w in simp length-append (omega arith)
    go false w f =
        let a : 2 ≤ length (pooled ps) = f (sym (ap (λ (t : Bool). t || some_list ps) w) ∙ k) in
        simp length-append (omega arith)

pooled_some : (ps : List Parameter) → 1 ≤ length (pooled ps) → 0 < length ps
unfolding pooled
pooled_some [] h = absurd (omega arith)
pooled_some (p ∷ ps) h = omega arith

-- a line has the name exactly where the name has a value
pub has_parameter_iff : (n l : List ℕ) → (has_parameter n (line_of l) ≡ true) ↔ (1 ≤ length (values_named n (line_of l).parameters))
unfolding has_parameter values_named
has_parameter_iff n l = (λ e. omega (arith, ltb-true 0 (length qs) e, pooled_many qs valued), λ h. lt-ltb 0 (length qs) (pooled_some qs h))
  where
    qs : List Parameter
    qs = parameters_named n (line_of l).parameters

    valued : all_valued qs ≡ true
    valued = named_valued n (line_of l).parameters (line_valued l)

-- it has the name, neither twice nor as a list, exactly where the name has one value
pub one_value_iff : (n l : List ℕ)
    → ((has_parameter n (line_of l) ≡ true) × (has_twice n (line_of l) ≡ false) × (has_list n (line_of l) ≡ false))
    ↔ (length (values_named n (line_of l).parameters) ≡ 1)
unfolding has_parameter has_twice has_list values_named
one_value_iff n l = (
  λ w. omega (arith, ltb-true 0 (length qs) w.0, ltb-false 1 (length qs) w.1, pooled_plain qs valued w.2),
  λ e. (
    lt-ltb 0 (length qs) (pooled_some qs (omega arith)),
    le-ltb 1 (length qs) (omega (arith, pooled_many qs valued)),
    plain (some_list qs) refl e,
  ),
)
  where
    qs : List Parameter
    qs = parameters_named n (line_of l).parameters

    valued : all_valued qs ≡ true
    valued = named_valued n (line_of l).parameters (line_valued l)

    plain : (t : Bool) → some_list qs ≡ t → length (pooled qs) ≡ 1 → some_list qs ≡ false
    plain true k e = absurd (omega (arith, pooled_list qs valued k))
    plain false k e = k

-- twice or as a list
pub used_badly : (n : List ℕ) (l : List ℕ) (u : Usage) → u ≡ usage_of n (line_of l).parameters
    → (has_twice n (line_of l) || has_list n (line_of l)) ≡ (ltb 1 u.times || u.listed)
unfolding has_twice has_list usage_of
used_badly n l u e = rw e

-- at all
pub used_at_all : (n : List ℕ) (l : List ℕ) (u : Usage) → u ≡ usage_of n (line_of l).parameters → has_parameter n (line_of l) ≡ ltb 0 u.times
unfolding has_parameter usage_of
used_at_all n l u e = rw e
