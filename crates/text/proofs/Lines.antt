-- Laws of content lines: where each line ends, that cutting loses no byte, and that lines written with CR LF are read back.
use Rattle.std.specs.Prelude.{None, Option, Some}
use Prim.Native.Nat.{ℕ, zero, suc, ◌+◌, ◌-◌, ◌≤◌, ◌<◌}
use mathlib.Core.Path.{◌≡◌, refl, sym, ap, subst, ◌∙◌}
use mathlib.Core.Bool.{Bool, true, false, not}
use mathlib.Core.List.{List, [], ◌∷◌, ◌++◌, append-nil}
use native.Mathlib.Omega.{arith}
use lib.Dec.{eqb, ltb}
use lib.ListN.{length, take, drop, get_or, take-append-drop, length-drop, length-append}
use lib.Seq.{take_all, get_or-drop, length-take-le, drop-drop}
use borrow.Author.Tests.{eqb-true, not-true, ne_eqb, ltb-true, ltb-false}
use Rattle.ascii.proofs.Bools.{and_left, and_right, and_both, not_so}
use Rattle.ascii.proofs.Lists.{drop_next, drop_end}
use Rattle.text.specs.Unfolding.{is_break, is_blank, is_fold, unfolded, Nowhere, no_fold}
use Rattle.text.specs.Lines.{CutLines, end, unended, line, grow, cut, break_at, part, LineAt, UnendedAt, NothingAt, line_count, bytes_of, joined, lines_of, all_lines, content_lines, LineFrom, NoLineFrom, StepsTo, every_line, holds_no_cr, no_leading_blank, is_whole_line}
use Rattle.text.proofs.Unfolding.{unfolded_same, get_d_inside, nowhere_next}

-- at CR LF a line ends, and any other byte belongs to the first piece of what follows
cut_by : (b c : ℕ) (s : List ℕ) (x : Bool) → is_break b c ≡ x
    → cut (b ∷ c ∷ s) ≡ elim x as (λ y. CutLines) [ true ↦ line [] (cut s) | false ↦ grow b (cut (c ∷ s)) ]
unfolding cut
cut_by b c s x e = ap (λ (y : Bool). elim y as (λ z. CutLines) [ true ↦ line [] (cut s) | false ↦ grow b (cut (c ∷ s)) ]) e

pub cut_break : (b c : ℕ) (s : List ℕ) → is_break b c ≡ true → cut (b ∷ c ∷ s) ≡ line [] (cut s)
cut_break b c s e = cut_by b c s true e

pub cut_grow : (b : ℕ) (s : List ℕ) → is_break b (get_or s 0 0) ≡ false → cut (b ∷ s) ≡ grow b (cut s)
unfolding cut
cut_grow b [] e = refl
cut_grow b (c ∷ s) e = cut_by b c s false e

pub cut_none : cut [] ≡ end
unfolding cut
cut_none = refl

-- a CR LF lies inside
pub break_inside : (s : List ℕ) (i : ℕ) → break_at s i ≡ true → i + 2 ≤ length s
unfolding break_at is_break
break_inside s i e = omega (arith, get_d_inside (λ b. eqb b 10) refl s (i + 1) (and_right (eqb (get_or s i 0) 13) _ e))

-- CR LF begins with CR
pub no_break_other : (s : List ℕ) (i : ℕ) → (get_or s i 0 ≡ 13 → ⊥) → break_at s i ≡ false
unfolding break_at is_break
no_break_other s i h = rw (ne_eqb (get_or s i 0) 13 h)

-- the same by place, as a search goes over the bytes
pub cut_break_at : (s : List ℕ) (i : ℕ) → break_at s i ≡ true → cut (drop i s) ≡ line [] (cut (drop (i + 2) s))
unfolding break_at
cut_break_at s i e =
    let h : i + 2 ≤ length s = break_inside s i e in
    let two : i + 1 + 1 ≡ i + 2 = omega arith in
    let rest : drop (i + 1) s ≡ get_or s (i + 1) 0 ∷ drop (i + 2) s = rw two at (drop_next s (i + 1) (omega arith)) in
    rw (drop_next s i (omega arith), rest) (cut_break _ _ _ e)

pub cut_grow_at : (s : List ℕ) (i : ℕ) → i < length s → break_at s i ≡ false → cut (drop i s) ≡ grow (get_or s i 0) (cut (drop (i + 1) s))
unfolding break_at
cut_grow_at s i h e =
    let one : i + 1 + 0 ≡ i + 1 = omega arith in
    rw (drop_next s i h) (cut_grow (get_or s i 0) (drop (i + 1) s) (rw (get_or-drop (i + 1) s 0 0, one) e))

-- several bytes more in front of the first piece
abbrev pub grown : List ℕ → CutLines → CutLines
grown [] p = p
grown (b ∷ l) p = grow b (grown l p)

pub grown_line : (l t : List ℕ) (p : CutLines) → grown l (line t p) ≡ line (l ++ t) p
grown_line [] t p = refl
grown_line (a ∷ l) t p = ap (grow a) (grown_line l t p)

pub grown_end : (b : ℕ) (l : List ℕ) → grown (b ∷ l) end ≡ unended (b ∷ l)
grown_end b [] = refl
grown_end b (c ∷ l) = ap (grow b) (grown_end c l)

-- parts: what is left, and how long
pub part_rest : (s : List ℕ) (a e : ℕ) → a ≤ e → part s a e ++ drop e s ≡ drop a s
part_rest s a e h =
    let m : a + (e - a) ≡ e = omega arith in
    ap (λ (l : List ℕ). part s a e ++ l) (sym (drop-drop (e - a) a s ∙ ap (λ (x : ℕ). drop x s) m)) ∙ take-append-drop (e - a) (drop a s)

pub length_part : (s : List ℕ) (a e : ℕ) → a ≤ e → e ≤ length s → length (part s a e) ≡ e - a
length_part s a e h k = length-take-le (e - a) (drop a s) (simp length-drop (omega arith))

-- the search: where no CR LF begins before i, the bytes before it belong to the first piece
passed_pieces : (s : List ℕ) (from m : ℕ) → from + m ≤ length s → ((k : ℕ) → from ≤ k → k < from + m → break_at s k ≡ false)
    → cut (drop from s) ≡ grown (take m (drop from s)) (cut (drop (from + m) s))
passed_pieces s from zero h f =
    let none : from ≡ from + 0 = omega arith in
    ap (λ (k : ℕ). cut (drop k s)) none
passed_pieces s from (suc m) h f =
    let more : from + 1 + m ≡ from + suc m = omega arith in
    cut_grow_at s from (omega arith) (f from (omega arith) (omega arith))
    ∙ ap (grow (get_or s from 0)) (passed_pieces s (from + 1) m (omega arith) (λ k a b. f k (omega arith) (omega arith)))
    ∙ ap (λ (k : ℕ). grow (get_or s from 0) (grown (take m (drop (from + 1) s)) (cut (drop k s)))) more
    ∙ ap (λ (l : List ℕ). grown (take (suc m) l) (cut (drop (from + suc m) s))) (sym (drop_next s from (omega arith)))

pub no_break_pieces : {s : List ℕ} {from i : ℕ} → Nowhere break_at s from i → cut (drop from s) ≡ grown (part s from i) (cut (drop i s))
no_break_pieces {s} {from} {i} p =
    let o : from ≤ i = p.order in
    let end : from + (i - from) ≡ i = omega arith in
    passed_pieces s from (i - from) (omega (arith, p.inside)) (λ k a b. p.none k a (omega arith))
    ∙ ap (λ (k : ℕ). grown (part s from i) (cut (drop k s))) end

pub searched_found : {s : List ℕ} {from i : ℕ} → Nowhere break_at s from i → break_at s i ≡ true → LineAt s from i
searched_found {s} {from} {i} p e = record {
  starts = p.order;
  inside = break_inside s i e;
  cuts =
      no_break_pieces p
      ∙ ap (grown (part s from i)) (cut_break_at s i e)
      ∙ grown_line (part s from i) [] (cut (drop (i + 2) s))
      ∙ ap (λ (l : List ℕ). line l (cut (drop (i + 2) s))) (append-nil (part s from i));
}

-- at the end all bytes belong to one piece; the last byte alone begins no CR LF
searched_all : {s : List ℕ} {from i : ℕ} → from < length s → Nowhere break_at s from i → length s ≤ i → UnendedAt s from
searched_all {s} {from} {i} g p h =
    let none : drop i s ≡ [] = drop_end s i h in
    let first : drop from s ≡ get_or s from 0 ∷ drop (from + 1) s = drop_next s from g in
    let whole : part s from i ≡ drop from s =
    sym (append-nil (part s from i)) ∙ ap (λ (l : List ℕ). part s from i ++ l) (sym none) ∙ part_rest s from i p.order in
    record {
      starts = g;
      cuts =
          no_break_pieces p
          ∙ ap (λ (l : List ℕ). grown (part s from i) (cut l)) none
          ∙ ap (grown (part s from i)) cut_none
          ∙ ap (λ (l : List ℕ). grown l end) (whole ∙ first)
          ∙ grown_end (get_or s from 0) (drop (from + 1) s)
          ∙ ap unended (sym first);
    }

pub searched_end : {s : List ℕ} {from i : ℕ} → from < length s → Nowhere break_at s from i → length s ≤ i + 1 → UnendedAt s from
searched_end {s} {from} {i} g p h = go (ltb i (length s)) refl
  where
    go : (t : Bool) → ltb i (length s) ≡ t → UnendedAt s from
    go true q = searched_all g (nowhere_next p (ltb-true i (length s) q) (not_so (break_at s i) (λ e. omega (arith, break_inside s i e)))) h
    go false q = searched_all g p (ltb-false i (length s) q)

pub searched_none : (s : List ℕ) (from : ℕ) → length s ≤ from → NothingAt s from
searched_none s from h = record { past = h; cuts = ap cut (drop_end s from h) ∙ cut_none }

-- the place where a line ends is the first CR LF: it stands there, and nowhere before
pub record FirstBreak (s : List ℕ) (from e : ℕ) : Type 0 where
  pub here : break_at s e ≡ true
  pub earlier : (k : ℕ) → from ≤ k → k < e → break_at s k ≡ false

break_at_suc : (b : ℕ) (s : List ℕ) (i : ℕ) → break_at (b ∷ s) (suc i) ≡ break_at s i
unfolding break_at
break_at_suc b s i =
    let n : suc i + 1 ≡ suc (i + 1) = omega arith in
    rw n

first_later : (b c : ℕ) (s : List ℕ) (n : ℕ) → is_break b c ≡ false → FirstBreak (c ∷ s) 0 n → FirstBreak (b ∷ c ∷ s) 0 (suc n)
unfolding break_at
first_later b c s n e f = record {
  here = break_at_suc b (c ∷ s) n ∙ f.here;
  earlier = λ k z h. go k h;
}
  where
    go : (k : ℕ) → k < suc n → break_at (b ∷ c ∷ s) k ≡ false
    go zero h = e
    go (suc k) h = break_at_suc b (c ∷ s) k ∙ f.earlier k (omega arith) (omega arith)

first_grown : (b c : ℕ) (s l : List ℕ) (p q : CutLines) → is_break b c ≡ false → grow b q ≡ line l p
    → ((t : List ℕ) (r : CutLines) → q ≡ line t r → FirstBreak (c ∷ s) 0 (length t)) → FirstBreak (b ∷ c ∷ s) 0 (length l)
first_grown b c s l p end e g k = let z : ◌≡◌ {A = ℕ} 0 1 = cc in absurd (omega arith)
first_grown b c s l p (unended t) e g k = let z : ◌≡◌ {A = ℕ} 0 1 = cc in absurd (omega arith)
first_grown b c s l p (line t r) e g k =
    let n : b ∷ t ≡ l = cc in
    subst (λ (x : List ℕ). FirstBreak (b ∷ c ∷ s) 0 (length x)) n (first_later b c s (length t) e (k t r refl))

first_either : (b c : ℕ) (s l : List ℕ) (p : CutLines) (x : Bool) → is_break b c ≡ x → cut (b ∷ c ∷ s) ≡ line l p
    → ((t : List ℕ) (r : CutLines) → cut (c ∷ s) ≡ line t r → FirstBreak (c ∷ s) 0 (length t)) → FirstBreak (b ∷ c ∷ s) 0 (length l)
unfolding break_at
first_either b c s l p true e g k =
    let q : line [] (cut s) ≡ line l p = sym (cut_break b c s e) ∙ g in
    let n : [] ≡ l = cc in
    subst (λ (x : List ℕ). FirstBreak (b ∷ c ∷ s) 0 (length x)) n (record { here = e; earlier = λ j z h. absurd (omega arith) })
first_either b c s l p false e g k = first_grown b c s l p (cut (c ∷ s)) e (sym (cut_grow b (c ∷ s) e) ∙ g) k

pub cut_first : (s l : List ℕ) (p : CutLines) → cut s ≡ line l p → FirstBreak s 0 (length l)
unfolding cut
cut_first [] l p e = let z : ◌≡◌ {A = ℕ} 0 1 = cc in absurd (omega arith)
cut_first (b ∷ []) l p e = let z : ◌≡◌ {A = ℕ} 0 1 = cc in absurd (omega arith)
cut_first (b ∷ c ∷ s) l p e = first_either b c s l p (is_break b c) refl e (cut_first (c ∷ s))

-- cutting loses nothing: each piece with its CR LF again gives the bytes
bytes_of_grow : (b : ℕ) (p : CutLines) → bytes_of (grow b p) ≡ b ∷ bytes_of p
bytes_of_grow b end = refl
bytes_of_grow b (unended t) = refl
bytes_of_grow b (line t p) = refl

bytes_of_break : (b c : ℕ) (s : List ℕ) → is_break b c ≡ true → 13 ∷ 10 ∷ s ≡ b ∷ c ∷ s
unfolding is_break
bytes_of_break b c s e =
    let h : b ≡ 13 = eqb-true b 13 (and_left (eqb b 13) _ e) in
    let k : c ≡ 10 = eqb-true c 10 (and_right (eqb b 13) _ e) in
    cc

bytes_of_either : (b c : ℕ) (s : List ℕ) (x : Bool) → is_break b c ≡ x → bytes_of (cut s) ≡ s → bytes_of (cut (c ∷ s)) ≡ c ∷ s
    → bytes_of (cut (b ∷ c ∷ s)) ≡ b ∷ c ∷ s
bytes_of_either b c s true e p q =
    ap bytes_of (cut_break b c s e) ∙ ap (λ (l : List ℕ). 13 ∷ 10 ∷ l) p ∙ bytes_of_break b c s e
bytes_of_either b c s false e p q =
    ap bytes_of (cut_grow b (c ∷ s) e) ∙ bytes_of_grow b (cut (c ∷ s)) ∙ ap (λ (l : List ℕ). b ∷ l) q

pub bytes_of_cut : (s : List ℕ) → bytes_of (cut s) ≡ s
unfolding cut
bytes_of_cut [] = refl
bytes_of_cut (b ∷ []) = refl
bytes_of_cut (b ∷ c ∷ s) = bytes_of_either b c s (is_break b c) refl (bytes_of_cut s) (bytes_of_cut (c ∷ s))

line_count_bytes : (p : CutLines) → line_count p + line_count p ≤ length (bytes_of p)
line_count_bytes end = omega arith
line_count_bytes (unended t) = omega arith
line_count_bytes (line l p) = simp length-append (omega (arith, line_count_bytes p))

-- lines written each with CR LF are read back: no CR inside keeps a line whole
no_break : (b c : ℕ) → not (eqb b 13) ≡ true → is_break b c ≡ false
unfolding is_break
no_break b c e = rw (not-true (eqb b 13) e)

pub cut_line : (l s : List ℕ) → holds_no_cr l ≡ true → cut (l ++ (13 ∷ 10 ∷ s)) ≡ line l (cut s)
unfolding is_break
cut_line [] s e = cut_break 13 10 s refl
cut_line (b ∷ l) s e =
    cut_grow b (l ++ (13 ∷ 10 ∷ s)) (no_break b (get_or (l ++ (13 ∷ 10 ∷ s)) 0 0) (and_left (not (eqb b 13)) _ e))
    ∙ ap (grow b) (cut_line l s (and_right (not (eqb b 13)) _ e))

pub cut_joined : (ls : List (List ℕ)) → every_line holds_no_cr ls ≡ true → cut (joined ls) ≡ lines_of ls
cut_joined [] e = cut_none
cut_joined (l ∷ ls) e =
    cut_line l (joined ls) (and_left (holds_no_cr l) _ e) ∙ ap (line l) (cut_joined ls (and_right (holds_no_cr l) _ e))

-- and no blank in front of any makes no fold
no_fold_plain : (b : ℕ) (s : List ℕ) → not (eqb b 13) ≡ true → no_fold s ≡ true → no_fold (b ∷ s) ≡ true
unfolding no_fold is_fold
no_fold_plain b [] e h = refl
no_fold_plain b (c ∷ []) e h = refl
no_fold_plain b (c ∷ d ∷ s) e h = rw (no_break b c e) h

no_fold_break : (s : List ℕ) → no_leading_blank s ≡ true → no_fold s ≡ true → no_fold (13 ∷ 10 ∷ s) ≡ true
unfolding no_fold is_fold is_break
no_fold_break [] e h = refl
no_fold_break (b ∷ s) e h = rw (not-true (is_blank b) e) (no_fold_plain 10 (b ∷ s) refl h)

no_fold_line : (l s : List ℕ) → holds_no_cr l ≡ true → no_leading_blank s ≡ true → no_fold s ≡ true → no_fold (l ++ (13 ∷ 10 ∷ s)) ≡ true
no_fold_line [] s p q h = no_fold_break s q h
no_fold_line (b ∷ l) s p q h =
    no_fold_plain b (l ++ (13 ∷ 10 ∷ s)) (and_left (not (eqb b 13)) _ p) (no_fold_line l s (and_right (not (eqb b 13)) _ p) q h)

no_leading_blank_joined : (ls : List (List ℕ)) → every_line is_whole_line ls ≡ true → no_leading_blank (joined ls) ≡ true
unfolding is_blank
no_leading_blank_joined [] e = refl
no_leading_blank_joined ([] ∷ ls) e = refl
no_leading_blank_joined ((b ∷ l) ∷ ls) e = and_right (holds_no_cr (b ∷ l)) _ (and_left (is_whole_line (b ∷ l)) _ e)

pub no_fold_joined : (ls : List (List ℕ)) → every_line is_whole_line ls ≡ true → no_fold (joined ls) ≡ true
unfolding no_fold
no_fold_joined [] e = refl
no_fold_joined (l ∷ ls) e =
    let rest : every_line is_whole_line ls ≡ true = and_right (is_whole_line l) _ e in
    no_fold_line l (joined ls) (and_left (holds_no_cr l) _ (and_left (is_whole_line l) _ e)) (no_leading_blank_joined ls rest) (no_fold_joined ls rest)

pub unfolded_joined : (ls : List (List ℕ)) → every_line is_whole_line ls ≡ true → unfolded (joined ls) ≡ joined ls
unfolded_joined ls e = unfolded_same (joined ls) (no_fold_joined ls e)

-- what is written so is read back line by line
holds_no_cr_plain : (ls : List (List ℕ)) → every_line is_whole_line ls ≡ true → every_line holds_no_cr ls ≡ true
holds_no_cr_plain [] e = refl
holds_no_cr_plain (l ∷ ls) e =
    and_both (and_left (holds_no_cr l) _ (and_left (is_whole_line l) _ e)) (holds_no_cr_plain ls (and_right (is_whole_line l) _ e))

pub cut_unfolded_joined : (ls : List (List ℕ)) → every_line is_whole_line ls ≡ true → cut (unfolded (joined ls)) ≡ lines_of ls
cut_unfolded_joined ls e = ap cut (unfolded_joined ls e) ∙ cut_joined ls (holds_no_cr_plain ls e)

-- zero bytes have no piece; a CR LF at the end has no piece after it, and a second one ends an empty line
example_cut_last : cut (65 ∷ 13 ∷ 10 ∷ []) ≡ line (65 ∷ []) end
unfolding cut is_break
example_cut_last = refl

example_cut_empty : cut (65 ∷ 13 ∷ 10 ∷ 13 ∷ 10 ∷ []) ≡ line (65 ∷ []) (line [] end)
unfolding cut is_break
example_cut_empty = refl

example_cut_unended : cut (13 ∷ 10 ∷ 13 ∷ []) ≡ line [] (unended (13 ∷ []))
unfolding cut is_break
example_cut_unended = refl

-- ---- the step from line to line

pub content_lines_none : content_lines [] ≡ []
unfolding content_lines
content_lines_none = ap all_lines cut_none

pub steps_at : {s : List ℕ} {from e : ℕ} → LineAt s from e → StepsTo s from (Some (e, (e + 2)))
unfolding StepsTo content_lines
steps_at {s} {from} {e} h =
    record {
      starts = h.starts;
      ends = omega arith;
      goes_on = omega (arith, h.starts);
      inside = h.inside;
      lines = ap all_lines h.cuts;
    }

pub steps_last : {s : List ℕ} {from : ℕ} → UnendedAt s from → StepsTo s from (Some ((length s), (length s)))
unfolding StepsTo content_lines
steps_last {s} {from} h =
    let whole : part s from (length s) ≡ drop from s = take_all (length s - from) (drop from s) (simp length-drop (omega arith)) in
    record {
      starts = omega (arith, h.starts);
      ends = omega arith;
      goes_on = h.starts;
      inside = omega arith;
      lines =
          ap all_lines h.cuts
          ∙ ap (λ (l : List ℕ). l ∷ []) (sym whole)
          ∙ ap (λ (ls : List (List ℕ)). part s from (length s) ∷ ls)
          (sym (ap (λ (l : List ℕ). all_lines (cut l)) (drop_end s (length s) (omega arith)) ∙ ap all_lines cut_none));
    }

pub steps_none : {s : List ℕ} {from : ℕ} → NothingAt s from → StepsTo s from None
unfolding StepsTo content_lines
steps_none h = record { past = h.past; lines = ap all_lines h.cuts }

-- what a caller knows of each answer
pub line_from : {s : List ℕ} {from : ℕ} {r : Option (ℕ × ℕ)} (e next : ℕ) → StepsTo s from r → r ≡ Some (e, next) → LineFrom s from e next
unfolding StepsTo
line_from {s} {from} e next h q = subst (λ (x : Option (ℕ × ℕ)). StepsTo s from x) q h

pub no_line_from : {s : List ℕ} {from : ℕ} {r : Option (ℕ × ℕ)} → StepsTo s from r → r ≡ None → NoLineFrom s from
unfolding StepsTo
no_line_from {s} {from} h q = subst (λ (x : Option (ℕ × ℕ)). StepsTo s from x) q h
