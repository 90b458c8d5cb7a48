-- The total reading of a line agrees with the grammar: what the scanner takes is read as the one line that it is.
-- And laws of its name: where it ends, what its first byte tells, and what a colon right behind it does.
use Prim.Native.Nat.{ℕ, zero, suc, ◌+◌, ◌-◌, ◌≤◌, ◌<◌}
use mathlib.Core.Path.{◌≡◌, refl, sym, ap, ◌∙◌, subst}
use mathlib.Core.Bool.{Bool, true, false, not, ◌&&◌, ◌||◌}
use mathlib.Core.List.{List, [], ◌∷◌, ◌++◌, append_assoc, append-nil, map}
use mathlib.Core.Logic.{◌↔◌, ◌⊎◌, inl, inr, ⊎_elim}
use native.Mathlib.Omega.{arith}
use lib.Dec.{eqb, ltb}
use lib.ListN.{length, take, drop, get_or, length-take}
use lib.Seq.{length-take-le, take-take, get_or-take}
use borrow.Author.Tests.{eqb-true, ltb-true, ltb-false}
use Rattle.ascii.specs.Bytes.{is_name_byte, is_letter, is_digit, upper}
use Rattle.ascii.specs.Names.{is_name, same_name}
use Rattle.ascii.proofs.Bools.{and_left, and_right, and_both, not_so}
use Rattle.ascii.proofs.Lists.{suffix}
use Rattle.ascii.proofs.Names.{same_name_first, every_of_name}
use Rattle.text.proofs.Unfolding.{get_d_inside}
use Rattle.line.specs.Grammar.{Parameter, ContentLine, content_line, parameter, is_quotable, is_unquoted, ParameterValue, ParameterValues, Parameters, LineGrammar, quoted, unquoted, one, comma, none, semicolon, colon}
use Rattle.line.specs.Scanner.{is_well_formed}
use Rattle.line.specs.Splitting.{quoted_after, cuts_at, first_outside, before, after, split_parts, quotes_off}
use Rattle.line.specs.Reading.{head_of, value_of, name_of, parameter_texts, values_of, parameter_name, parameter_of, line_of, is_plain_at, Plain}
use Rattle.line.proofs.Splitting.{first_outside_cut, first_outside_keep, first_outside_end, first_outside_le, next_place_first, closed, closed_append, closed_class, closed_quoted, parts_closed, parts_one, before_closed, before_alone_lem, after_closed, quotes_off_quoted, quotes_off_class}
use Rattle.line.proofs.ReadingParameters.{parameters_end, parameters_all}
use Rattle.line.proofs.Grammar.{grammar_well_formed, well_formed_grammar}

-- ---- the phrases hold no separator of an outer phrase outside quotes

closed_name : (sep : ℕ) → is_name_byte sep ≡ false → (n : List ℕ) → is_name n ≡ true → closed true sep false n ≡ true
unfolding is_name_byte is_letter is_digit
closed_name sep p n e = closed_class true sep is_name_byte p refl n (every_of_name n e)

-- a byte that is neither the separator nor a quote
closed_byte : (sep b : ℕ) → eqb b sep ≡ false → eqb b 34 ≡ false → (s : List ℕ) → closed true sep false s ≡ true → closed true sep false (b ∷ s) ≡ true
closed_byte sep b p q s h = rw (p, q) h

closed_value : (sep : ℕ) → is_unquoted sep ≡ false → eqb 34 sep ≡ false → {t v : List ℕ} → ParameterValue t v → closed true sep false t ≡ true
unfolding is_unquoted is_quotable
closed_value sep p q (quoted v e) = rw q (closed_quoted sep is_quotable refl v e)
closed_value sep p q (unquoted v e) = closed_class true sep is_unquoted p refl v e

closed_values : (sep : ℕ) → is_unquoted sep ≡ false → eqb 34 sep ≡ false → eqb 44 sep ≡ false → {t : List ℕ} {vs : List (List ℕ)}
    → ParameterValues t vs → closed true sep false t ≡ true
closed_values sep p q k (one x) = closed_value sep p q x
closed_values sep p q k (comma {t} {r = r} x xs) =
    closed_append true sep false t (44 ∷ r) (closed_value sep p q x) (closed_byte sep 44 k refl r (closed_values sep p q k xs))

-- one parameter, `name=values`, for the semicolon and the colon
closed_parameter : (sep : ℕ) → is_name_byte sep ≡ false → is_unquoted sep ≡ false → eqb 34 sep ≡ false → eqb 44 sep ≡ false → eqb 61 sep ≡ false
    → (n : List ℕ) {t : List ℕ} {vs : List (List ℕ)} → is_name n ≡ true → ParameterValues t vs → closed true sep false (n ++ (61 ∷ t)) ≡ true
closed_parameter sep o p q k l n {t} e xs =
    closed_append true sep false n (61 ∷ t) (closed_name sep o n e) (closed_byte sep 61 l refl t (closed_values sep p q k xs))

closed_semicolon : (n : List ℕ) {t : List ℕ} {vs : List (List ℕ)} → is_name n ≡ true → ParameterValues t vs → closed true 59 false (n ++ (61 ∷ t)) ≡ true
unfolding is_name_byte is_letter is_digit is_unquoted
closed_semicolon n e xs = closed_parameter 59 refl refl refl refl refl n e xs

-- the text of a parameter and the text behind it, bracketed the other way
regroup : (n t r : List ℕ) → n ++ (61 ∷ (t ++ r)) ≡ (n ++ (61 ∷ t)) ++ r
regroup n t r = sym (append_assoc n (61 ∷ t) r)

closed_parameters : {p : List ℕ} {ps : List Parameter} → Parameters p ps → closed true 58 false p ≡ true
unfolding is_name_byte is_letter is_digit is_unquoted
closed_parameters none = refl
closed_parameters (semicolon {n} {t} {r} e xs q) =
    closed_byte 58 59 refl refl (n ++ (61 ∷ (t ++ r)))
    (subst (λ (l : List ℕ). closed true 58 false l ≡ true) (sym (regroup n t r))
    (closed_append true 58 false (n ++ (61 ∷ t)) r (closed_parameter 58 refl refl refl refl refl n e xs) (closed_parameters q)))

-- ---- each phrase is read as what it says

value_read : {t v : List ℕ} → ParameterValue t v → quotes_off t ≡ v
unfolding is_unquoted
value_read (quoted v e) = quotes_off_quoted v
value_read (unquoted v e) = quotes_off_class is_unquoted refl v e

closed_comma : {t v : List ℕ} → ParameterValue t v → closed true 44 false t ≡ true
unfolding is_unquoted
closed_comma x = closed_value 44 refl refl x

values_read : {t : List ℕ} {vs : List (List ℕ)} → ParameterValues t vs → map quotes_off (split_parts true 44 false t) ≡ vs
values_read (one {t} {v} x) = rw (parts_one true 44 false t (closed_comma x)) (ap (λ (w : List ℕ). w ∷ []) (value_read x))
values_read (comma {t} {v} {r} {vs} x xs) =
    rw (parts_closed true 44 false t r (closed_comma x))
    (ap (λ (w : List ℕ). w ∷ map quotes_off (split_parts true 44 false r)) (value_read x) ∙ ap (λ (w : List (List ℕ)). v ∷ w) (values_read xs))

closed_equals : (n : List ℕ) → is_name n ≡ true → closed true 61 false n ≡ true
unfolding is_name_byte is_letter is_digit
closed_equals n e = closed_name 61 refl n e

parameter_read : (n : List ℕ) {t : List ℕ} {vs : List (List ℕ)} → is_name n ≡ true → ParameterValues t vs → parameter_of (n ++ (61 ∷ t)) ≡ parameter n vs
unfolding parameter_of parameter_name values_of
parameter_read n {t} {vs} e xs =
    rw (before_closed true 61 n t (closed_equals n e), after_closed true 61 n t (closed_equals n e))
    (ap (λ (w : List (List ℕ)). parameter n w) (values_read xs))

-- what stands in front of the parameters is the first piece, and each parameter is one piece more
parameters_read : {p : List ℕ} {ps : List Parameter} → Parameters p ps → (c : List ℕ) → closed true 59 false c ≡ true
    → (ts : List (List ℕ)) × (split_parts true 59 false (c ++ p) ≡ c ∷ ts) × (map parameter_of ts ≡ ps)
parameters_read none c h = ([], rw (append-nil c) (parts_one true 59 false c h), refl)
parameters_read (semicolon {n} {t} {r} {vs} {ps} e xs q) c h = go (parameters_read q (n ++ (61 ∷ t)) (closed_semicolon n e xs))
  where
    go : (ts : List (List ℕ)) × (split_parts true 59 false ((n ++ (61 ∷ t)) ++ r) ≡ (n ++ (61 ∷ t)) ∷ ts) × (map parameter_of ts ≡ ps)
        → (ts : List (List ℕ)) × (split_parts true 59 false (c ++ (59 ∷ (n ++ (61 ∷ (t ++ r))))) ≡ c ∷ ts) × (map parameter_of ts ≡ parameter n vs ∷ ps)
    go w = (
      (n ++ (61 ∷ t)) ∷ w.0,
      parts_closed true 59 false c (n ++ (61 ∷ (t ++ r))) h
          ∙ ap (λ (l : List (List ℕ)). c ∷ l) (ap (λ (l : List ℕ). split_parts true 59 false l) (regroup n t r) ∙ w.1),
      ap (λ (x : Parameter). x ∷ map parameter_of w.0) (parameter_read n e xs) ∙ ap (λ (l : List Parameter). parameter n vs ∷ l) w.2,
    )

-- ---- the theorem

closed_first : (n : List ℕ) → is_name n ≡ true → closed true 59 false n ≡ true
unfolding is_name_byte is_letter is_digit
closed_first n e = closed_name 59 refl n e

closed_head : (n : List ℕ) {p : List ℕ} {ps : List Parameter} → is_name n ≡ true → Parameters p ps → closed true 58 false (n ++ p) ≡ true
unfolding is_name_byte is_letter is_digit
closed_head n {p} e ps = closed_append true 58 false n p (closed_name 58 refl n e) (closed_parameters ps)

name_read : (n : List ℕ) {p : List ℕ} {ps : List Parameter} → is_name n ≡ true → Parameters p ps → before true 59 (n ++ p) ≡ n
name_read n e none = rw (append-nil n) (before_alone_lem true 59 n (closed_first n e))
name_read n e (semicolon {n = m} {t} {r} f xs q) = before_closed true 59 n (m ++ (61 ∷ (t ++ r))) (closed_first n e)

-- a line of the grammar is read as what it says
pub grammar_read : {l : List ℕ} {x : ContentLine} → LineGrammar l x → line_of l ≡ x
unfolding line_of name_of head_of value_of parameter_texts
grammar_read (colon {n} {p} {v} {ps} e q h k) =
    let i : n ++ (p ++ (58 ∷ v)) ≡ (n ++ p) ++ (58 ∷ v) = sym (append_assoc n p (58 ∷ v)) in
    let w = parameters_read q n (closed_first n e) in
    rw (i, before_closed true 58 (n ++ p) v (closed_head n e q), after_closed true 58 (n ++ p) v (closed_head n e q), name_read n e q, w.1)
    (ap (λ (l : List Parameter). content_line n l v) w.2)

-- THE THEOREM: the scanner takes a line, and its reading is x, exactly where the grammar says that the bytes are the line x
pub line_iff : (l : List ℕ) (x : ContentLine) → ((is_well_formed l ≡ true) × (line_of l ≡ x)) ↔ LineGrammar l x
line_iff l x = (
  λ h. let (y, g) = well_formed_grammar l h.0 in subst (λ (z : ContentLine). LineGrammar l z) (sym (grammar_read g) ∙ h.1) g,
  λ g. (grammar_well_formed g, grammar_read g),
)

-- ---- the first byte of a name

take_twice_first : (j k : ℕ) (l : List ℕ) → (take j (take k l) ≡ []) ⊎ (get_or (take j (take k l)) 0 0 ≡ get_or l 0 0)
take_twice_first zero k l = inl refl
take_twice_first (suc j) zero l = inl refl
take_twice_first (suc j) (suc k) [] = inl refl
take_twice_first (suc j) (suc k) (b ∷ l) = inr refl

-- the name of a line is empty or begins as the line does
pub name_first : (l : List ℕ) → (name_of l ≡ []) ⊎ (get_or (name_of l) 0 0 ≡ get_or l 0 0)
unfolding name_of head_of before
name_first l =
    let k : ℕ = first_outside true 58 false l in
    take_twice_first (first_outside true 59 false (take k l)) k l

-- so a line that begins otherwise has another name
pub other_first : (l n : List ℕ) → 0 < length n → (upper (get_or l 0 0) ≡ upper (get_or n 0 0) → ⊥) → same_name (name_of l) n ≡ false
unfolding same_name
other_first l [] q h = absurd (omega arith)
other_first l (b ∷ n) q h =
    ⊎_elim
    (λ e. ap (λ (m : List ℕ). same_name m (b ∷ n)) e)
    (λ e. same_name_first (name_of l) (b ∷ n) (λ z. h (ap upper (sym e) ∙ z)))
    (name_first l)

-- ---- the end of a name: one search for the colon and the semicolon

-- how many bytes stand before the first semicolon of the bytes before the colon
unfoldable pub name_end : Bool → List ℕ → ℕ
name_end q s = first_outside true 59 q (take (first_outside true 58 q s) s)

-- is b a colon or a semicolon, outside quotes?
abbrev pub ends_name : Bool → ℕ → Bool
ends_name q b = (eqb b 58 || eqb b 59) && not q

-- a quote opens or closes, as the code tests it
-- where `x or y` fails beside z, each of the two fails beside it
neither_first : (x y z : Bool) → ((x || y) && z) ≡ false → (x && z) ≡ false
neither_first true y z h = h
neither_first false y z h = refl

neither_second : (x y z : Bool) → ((x || y) && z) ≡ false → (y && z) ≡ false
neither_second true true z h = h
neither_second true false z h = refl
neither_second false y z h = h

module _ (q : Bool) (b : ℕ) (s : List ℕ) where
  name_end_colon : cuts_at 58 q b ≡ true → name_end q (b ∷ s) ≡ 0
  unfolding name_end
  name_end_colon e = rw (first_outside_cut true 58 q b s e) (first_outside_end true 59 q)

  name_end_semicolon : cuts_at 58 q b ≡ false → cuts_at 59 q b ≡ true → name_end q (b ∷ s) ≡ 0
  unfolding name_end
  name_end_semicolon e f =
      rw (first_outside_keep true 58 q b s e) (first_outside_cut true 59 q b (take (first_outside true 58 (quoted_after true q b) s) s) f)

  -- at either of the two the name ends
  pub name_end_cut : ends_name q b ≡ true → name_end q (b ∷ s) ≡ 0
  name_end_cut h = go (eqb b 58) refl
    where
      go : (t : Bool) → eqb b 58 ≡ t → name_end q (b ∷ s) ≡ 0
      go true e = name_end_colon (and_both e (and_right (eqb b 58 || eqb b 59) (not q) h))
      go false e = name_end_semicolon (ap (λ (t : Bool). t && not q) e) (rw e at h)

  -- at any other byte it goes on
  pub name_end_keep : ends_name q b ≡ false → name_end q (b ∷ s) ≡ suc (name_end (quoted_after true q b) s)
  unfolding name_end
  name_end_keep h =
      rw
      (first_outside_keep true 58 q b s (neither_first (eqb b 58) (eqb b 59) (not q) h))
      (first_outside_keep
      true
      59
      q
      b
      (take (first_outside true 58 (quoted_after true q b) s) s)
      (neither_second (eqb b 58) (eqb b 59) (not q) h))

-- the bytes up to there are the name
name_is : (l : List ℕ) → take (name_end false l) l ≡ name_of l
unfolding name_end name_of head_of before
name_is l =
    let k : ℕ = first_outside true 58 false l in
    let h : length (take k l) ≡ k = length-take-le k l (first_outside_le true 58 false l) in
    let a : first_outside true 59 false (take k l) ≤ length (take k l) = first_outside_le true 59 false (take k l) in
    sym (take-take (first_outside true 59 false (take k l)) k l (omega arith))

pub name_found : (l : List ℕ) (i : ℕ) → i ≡ name_end false l → take i l ≡ name_of l
name_found l i e = ap (λ (n : ℕ). take n l) e ∙ name_is l

pub name_end_length : (l : List ℕ) → length (name_of l) ≡ name_end false l
unfolding name_end name_of head_of before
name_end_length l =
    let h : List ℕ = take (first_outside true 58 false l) l in length-take-le (first_outside true 59 false h) h (first_outside_le true 59 false h)

-- so many bytes of the line are its name
pub name_take : (l : List ℕ) (n : ℕ) → n ≡ length (name_of l) → take n l ≡ name_of l
name_take l n e = name_found l n (e ∙ name_end_length l)

pub name_fits : (l : List ℕ) → length (name_of l) ≤ length l
name_fits l = omega (arith, length-take (name_end false l) l, ap length (name_is l))

-- ---- a colon right behind the name

-- where a search stops inside the list, the separator stands
first_outside_at : (g : Bool) (sep : ℕ) (q : Bool) (s : List ℕ) → first_outside g sep q s < length s → get_or s (first_outside g sep q s) 0 ≡ sep
unfolding first_outside
first_outside_at g sep q [] h = absurd (omega arith)
first_outside_at g sep q (b ∷ s) h = go (cuts_at sep q b) refl (first_outside_at g sep (quoted_after g q b) s) h
  where
    go : (t : Bool) → cuts_at sep q b ≡ t
        → (first_outside g sep (quoted_after g q b) s < length s → get_or s (first_outside g sep (quoted_after g q b) s) 0 ≡ sep)
        → elim t [ true ↦ 0 | false ↦ suc (first_outside g sep (quoted_after g q b) s) ] < suc (length s)
        → get_or (b ∷ s) (elim t [ true ↦ 0 | false ↦ suc (first_outside g sep (quoted_after g q b) s) ]) 0 ≡ sep
    go true e i k = eqb-true b sep (and_left (eqb b sep) _ e)
    go false e i k = i (omega arith)

-- it is the line's own: no semicolon ended the name, so the name is all that stands before it
plain_line_lem : (l : List ℕ) (n : ℕ) → n ≡ length (name_of l) → n < length l → get_or l n 0 ≡ 58 → Plain l n
unfolding name_of head_of value_of before after
plain_line_lem l n e m c = go (ltb j (length h)) refl
  where
    k : ℕ
    k = first_outside true 58 false l

    h : List ℕ
    h = take k l

    j : ℕ
    j = first_outside true 59 false h

    h_length : length h ≡ k
    h_length = length-take-le k l (first_outside_le true 58 false l)

    n_is : n ≡ j
    n_is = e ∙ length-take-le j h (first_outside_le true 59 false h)

    go : (t : Bool) → ltb j (length h) ≡ t → Plain l n
    go true q =
        let i : j < length h = ltb-true _ _ q in
        let z : ◌≡◌ {A = ℕ} 59 58 =
        sym (first_outside_at true 59 false h i)
        ∙ get_or-take k l j 0 (subst (λ (a : ℕ). j < a) h_length i)
        ∙ ap (λ (a : ℕ). get_or l a 0) (sym n_is)
        ∙ c
        in
        absurd (omega arith)
    go false q =
        let i : length h ≤ j = ltb-false _ _ q in
        let n_first : k ≡ n = omega (arith, i, h_length, n_is, first_outside_le true 59 false h) in
        record {
          inside = m;
          no_parameters_holds =
              sym (parameters_all l h refl)
              ∙ parameters_end h _ (subst (λ (a : ℕ). length h ≤ a) (sym (next_place_first true 59 h)) i);
          value_behind = ap (λ (a : ℕ). drop (a + 1) l) n_first;
        }

-- there is no byte behind a name that is the whole line
pub plain_past : (l : List ℕ) (n : ℕ) → length l ≤ n → false ≡ is_plain_at l n
unfolding is_plain_at
plain_past l n h = sym (not_so _ (λ e. omega (arith, get_d_inside (λ b. eqb b 58) refl l n e)))

-- what the test tells: the line has no parameters, and its value is what is left
pub plain_at : (l : List ℕ) (n : ℕ) {r : Bool} → n ≡ length (name_of l) → r ≡ is_plain_at l n → r ≡ true → Plain l n
unfolding is_plain_at
plain_at l n e q h =
    let y : eqb (get_or l n 0) 58 ≡ true = sym q ∙ h in
    plain_line_lem l n e (get_d_inside (λ b. eqb b 58) refl l n y) (eqb-true _ _ y)

-- behind the colon that follows the name stands the value
pub plain_value : (l : List ℕ) (n : ℕ) → Plain l n → take (length l - (n + 1)) (drop (n + 1) l) ≡ value_of l
plain_value l n h = suffix l (n + 1) ∙ sym h.value_behind
