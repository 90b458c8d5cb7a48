-- Laws of the check of all lines: what each piece adds to it, and what its answer says of the whole file.
use Rattle.std.specs.Prelude.{Some, None}
use Prim.Native.Nat.{ℕ, ◌+◌}
use mathlib.Core.Path.{◌≡◌, refl, sym, ap, subst, ◌∙◌}
use mathlib.Core.Bool.{Bool, true, false, not, ◌&&◌}
use mathlib.Core.List.{List, [], ◌∷◌}
use mathlib.Core.Logic.{◌↔◌}
use native.Mathlib.Omega.{arith}
use lib.ListN.{length, drop}
use borrow.Author.Tests.{not-true}
use Rattle.ascii.proofs.Bools.{and_left, and_right, and_both, clash}
use Rattle.text.specs.Lines.{CutLines, end, unended, line, cut, part, LineAt, UnendedAt, NothingAt, lines_of, all_lines, content_lines, every_line}
use Rattle.line.specs.Scanner.{is_well_formed}
use Rattle.line.specs.WellFormed.{line_check_from, line_check, AllGood, lines_then, begins_badly, FirstBad, well_formed_name, GoodLineAt, NamedLineAt, BadLineAt, NextAt, Checked, all_good, bad_line}
use Rattle.line.specs.declared.check.Next.{Next}
use Rattle.line.proofs.ScannerNames.{named_well, unnamed_badly}

-- ---- one piece

line_check_well : (n : ℕ) (l : List ℕ) (p : CutLines) → is_well_formed l ≡ true → line_check_from n (line l p) ≡ line_check_from (n + 1) p
unfolding line_check_from
line_check_well n l p e = rw (e, line_check_from)

line_check_badly : (n : ℕ) (l : List ℕ) (p : CutLines) → is_well_formed l ≡ false → line_check_from n (line l p) ≡ bad_line n
unfolding line_check_from
line_check_badly n l p e = rw (e, line_check_from)

-- ---- the line at a place

begins_badly_lem : (n : ℕ) (p : CutLines) → begins_badly p ≡ true → line_check_from n p ≡ bad_line n
unfolding begins_badly line_check_from
begins_badly_lem n end e = clash e refl
begins_badly_lem n (unended t) e = refl
begins_badly_lem n (line l p) e = line_check_badly n l p (not-true (is_well_formed l) e)

pub next_line : {s : List ℕ} {from : ℕ} (e n : ℕ) → LineAt s from e → Some n ≡ well_formed_name (part s from e) → NextAt s from (Next.Line e n)
unfolding NextAt
next_line {s} {from} e n h q =
    let k = named_well (part s from e) n q in record { good = record { line = h; good = k.0 }; name = k.1 }

pub next_badly : {s : List ℕ} {from : ℕ} (e : ℕ) → LineAt s from e → None ≡ well_formed_name (part s from e) → NextAt s from Next.Bad
unfolding NextAt begins_badly
next_badly {s} {from} e h q = record { bad = ap begins_badly h.cuts ∙ ap not (unnamed_badly (part s from e) q) }

pub next_unended : {s : List ℕ} {from : ℕ} → UnendedAt s from → NextAt s from Next.Bad
unfolding NextAt begins_badly
next_unended h = record { bad = ap begins_badly h.cuts }

pub next_none : {s : List ℕ} {from : ℕ} → NothingAt s from → NextAt s from Next.End
unfolding NextAt
next_none h = h

-- what a caller learns from each answer
pub named_line : {s : List ℕ} {from : ℕ} {r : Next} (e n : ℕ) → NextAt s from r → r ≡ Next.Line e n → NamedLineAt s from e n
unfolding NextAt
named_line {s} {from} e n h q = subst (NextAt s from) q h

pub bad_line_lem : {s : List ℕ} {from : ℕ} {r : Next} → NextAt s from r → r ≡ Next.Bad → BadLineAt s from
unfolding NextAt
bad_line_lem {s} {from} h q = subst (NextAt s from) q h

pub no_line : {s : List ℕ} {from : ℕ} {r : Next} → NextAt s from r → r ≡ Next.End → NothingAt s from
unfolding NextAt
no_line {s} {from} h q = subst (NextAt s from) q h

-- ---- the loop: the lines before `from` are well formed, and the next has number n

pub checked_start : (s : List ℕ) → Checked s 1 0
unfolding line_check
checked_start s = record { inside = omega arith; few = omega arith; rest = refl }

module _ {s : List ℕ} {n from : ℕ} (k : Checked s n from) where
  pub checked_next : {e : ℕ} → GoodLineAt s from e → Checked s (n + 1) (e + 2)
  checked_next {e} g =
      let h : LineAt s from e = g.line in
      record {
        inside = h.inside;
        few = omega (arith, k.few, h.starts);
        rest =
            sym (line_check_well n (part s from e) (cut (drop (e + 2) s)) g.good) ∙ sym (ap (line_check_from n) h.cuts) ∙ k.rest;
      }

  pub checked_bad : BadLineAt s from → bad_line n ≡ line_check s
  checked_bad h = sym (begins_badly_lem n (cut (drop from s)) h.bad) ∙ k.rest

  pub checked_end : NothingAt s from → all_good ≡ line_check s
  unfolding line_check_from
  checked_end h = sym (ap (line_check_from n) h.cuts) ∙ k.rest

-- ---- what the answer says

-- well formed lines, each ended, are good
good_from_lem : (n : ℕ) (ls : List (List ℕ)) → every_line is_well_formed ls ≡ true → line_check_from n (lines_of ls) ≡ all_good
unfolding line_check_from
good_from_lem n [] e = refl
good_from_lem n (l ∷ ls) e =
    line_check_well n l (lines_of ls) (and_left (is_well_formed l) _ e) ∙ good_from_lem (n + 1) ls (and_right (is_well_formed l) _ e)

pub lines_good : (s : List ℕ) (ls : List (List ℕ)) → cut s ≡ lines_of ls → every_line is_well_formed ls ≡ true → line_check s ≡ all_good
unfolding line_check
lines_good s ls e w = ap (line_check_from 1) e ∙ good_from_lem 1 ls w

never_good : {A : Type 0} {n : ℕ} → bad_line n ≡ all_good → A
never_good e = let z : ◌≡◌ {A = ℕ} 0 1 = cc in absurd (omega arith)

all_good_lem : (n : ℕ) (p : CutLines) → line_check_from n p ≡ all_good → (p ≡ lines_of (all_lines p)) × (every_line is_well_formed (all_lines p) ≡ true)
unfolding line_check_from
all_good_lem n end e = (refl, refl)
all_good_lem n (unended t) e = never_good e
all_good_lem n (line l p) e = go (is_well_formed l) refl (all_good_lem (n + 1) p)
  where
    go : (t : Bool) → is_well_formed l ≡ t
        → (line_check_from (n + 1) p ≡ all_good → (p ≡ lines_of (all_lines p)) × (every_line is_well_formed (all_lines p) ≡ true))
        → (line l p ≡ line l (lines_of (all_lines p))) × ((is_well_formed l && every_line is_well_formed (all_lines p)) ≡ true)
    go true w k = let r = k (sym (line_check_well n l p w) ∙ e) in (ap (line l) r.0, and_both w r.1)
    go false w k = never_good (sym (line_check_badly n l p w) ∙ e)

-- the check answers all_good exactly where CR LF ends every line and each is well formed
pub good_iff : (s : List ℕ) → (line_check s ≡ all_good) ↔ AllGood s
unfolding line_check content_lines
good_iff s = (
  λ e. record { ended = (all_good_lem 1 (cut s) e).0; good = (all_good_lem 1 (cut s) e).1 },
  λ k. lines_good s (content_lines s) k.ended k.good,
)

never_bad : {A : Type 0} {n : ℕ} → all_good ≡ bad_line n → A
never_bad e = let z : ◌≡◌ {A = ℕ} 0 1 = cc in absurd (omega arith)

same_number : {m n : ℕ} → bad_line m ≡ bad_line n → m ≡ n
same_number e = cc

bad_here : (n : ℕ) (p : CutLines) (k : ℕ) → begins_badly p ≡ true → bad_line n ≡ bad_line k → FirstBad n p k
unfolding lines_then
bad_here n p k b e = record { earlier = []; rest = p; whole = refl; number = omega (arith, same_number e); good = refl; bad = b }

first_bad : (n : ℕ) (p : CutLines) (k : ℕ) → line_check_from n p ≡ bad_line k → FirstBad n p k
unfolding line_check_from lines_then begins_badly
first_bad n end k e = never_bad e
first_bad n (unended t) k e = bad_here n (unended t) k refl e
first_bad n (line l p) k e = go (is_well_formed l) refl (first_bad (n + 1) p k)
  where
    go : (t : Bool) → is_well_formed l ≡ t → (line_check_from (n + 1) p ≡ bad_line k → FirstBad (n + 1) p k) → FirstBad n (line l p) k
    go true w f =
        let r : FirstBad (n + 1) p k = f (sym (line_check_well n l p w) ∙ e) in
        record {
          earlier = l ∷ r.earlier;
          rest = r.rest;
          whole = ap (line l) r.whole;
          number = omega (arith, r.number);
          good = and_both w r.good;
          bad = r.bad;
        }
    go false w f = bad_here n (line l p) k (ap not w) (sym (line_check_badly n l p w) ∙ e)

then_bad : (n : ℕ) (ls : List (List ℕ)) (p : CutLines) → every_line is_well_formed ls ≡ true → begins_badly p ≡ true
    → line_check_from n (lines_then ls p) ≡ bad_line (n + length ls)
unfolding lines_then
then_bad n [] p g b = begins_badly_lem n p b ∙ ap bad_line (omega arith)
then_bad n (l ∷ ls) p g b =
    line_check_well n l (lines_then ls p) (and_left (is_well_formed l) _ g)
    ∙ then_bad (n + 1) ls p (and_right (is_well_formed l) _ g) b
    ∙ ap bad_line (omega arith)

-- it answers with a number exactly where that is the number of the first badly formed line
pub bad_iff : (s : List ℕ) (k : ℕ) → (line_check s ≡ bad_line k) ↔ FirstBad 1 (cut s) k
unfolding line_check
bad_iff s k = (
  λ e. first_bad 1 (cut s) k e,
  λ f.
      ap (line_check_from 1) f.whole ∙ then_bad 1 f.earlier f.rest f.good f.bad ∙ ap bad_line (sym f.number),
)
