-- Laws of the name of a well formed line: the name bytes that the line begins with are the name, and there is one at least.
-- So the scanner knows its length.
use Rattle.std.specs.Prelude.{Some, None}
use Rattle.std.proofs.lemmas.Option.{cond_some, none-some}
use Prim.Native.Nat.{ℕ, zero, suc, ◌+◌, ◌≤◌, ◌<◌}
use mathlib.Core.Path.{◌≡◌, refl, sym, ap, ◌∙◌}
use mathlib.Core.Bool.{Bool, true, false, not, cond, ◌&&◌, ◌||◌}
use mathlib.Core.List.{List, [], ◌∷◌}
use native.Mathlib.Omega.{arith}
use lib.Dec.{eqb, ltb, leb}
use lib.ListN.{length, drop, get_or}
use borrow.Author.Tests.{lt-ltb, ltb-true, leb-true, ne_eqb}
use Rattle.ascii.specs.Bytes.{is_name_byte, is_letter, is_digit}
use Rattle.ascii.proofs.Bools.{and_left, and_right, clash, apart}
use Rattle.ascii.proofs.Lists.{drop_next, drop_end}
use Rattle.line.specs.declared.scan.State.TheVariants.{Start, Name, Wrong}
use Rattle.line.specs.Scanner.{step, is_ending, scan, is_well_formed, name_bytes}
use Rattle.line.specs.Reading.{name_of}
use Rattle.line.specs.WellFormed.{well_formed_name}
use Rattle.line.proofs.Scanner.{scan_step, name_stays, starts_name, no_name, wrong_stays, well_formed_long, well_formed_start}
use Rattle.line.proofs.Reading.{name_end, name_end_cut, name_end_keep, name_end_length, name_fits}

-- ---- the name bytes of a line

module _ (b : ℕ) (l : List ℕ) where
  bytes_next : is_name_byte b ≡ true → name_bytes (b ∷ l) ≡ suc (name_bytes l)
  unfolding name_bytes
  bytes_next e = rw e

  bytes_stop : is_name_byte b ≡ false → name_bytes (b ∷ l) ≡ 0
  unfolding name_bytes
  bytes_stop e = rw e

-- the loop, at place i
module _ (l : List ℕ) (i : ℕ) where
  pub bytes_here : i < length l → is_name_byte (get_or l i 0) ≡ false → i + name_bytes (drop i l) ≡ i
  bytes_here h e = rw (drop_next l i h, bytes_stop (get_or l i 0) (drop (i + 1) l) e) (omega arith)

  pub bytes_on : i < length l → is_name_byte (get_or l i 0) ≡ true → (i + 1) + name_bytes (drop (i + 1) l) ≡ i + name_bytes (drop i l)
  bytes_on h e = rw (drop_next l i h, bytes_next (get_or l i 0) (drop (i + 1) l) e) (omega arith)

  pub bytes_end : length l ≤ i → i + name_bytes (drop i l) ≡ i
  unfolding name_bytes
  bytes_end h = rw (drop_end l i h) (omega arith)

-- ---- the scanner passes them

scan_bytes : (l : List ℕ) → scan Name (drop (name_bytes l) l) ≡ scan Name l
unfolding name_bytes
scan_bytes [] = refl
scan_bytes (b ∷ l) = go (is_name_byte b) refl (scan_bytes l)
  where
    go : (t : Bool) → is_name_byte b ≡ t → scan Name (drop (name_bytes l) l) ≡ scan Name l → scan Name (drop (name_bytes (b ∷ l)) (b ∷ l)) ≡ scan Name (b ∷ l)
    go true e i = ap (λ (k : ℕ). scan Name (drop k (b ∷ l))) (bytes_next b l e) ∙ i ∙ sym (scan_step Name b (name_stays b e) l)
    go false e i = ap (λ (k : ℕ). scan Name (drop k (b ∷ l))) (bytes_stop b l e)

start_bytes : (l : List ℕ) → (ltb 0 (name_bytes l) && scan Name (drop (name_bytes l) l)) ≡ scan Start l
unfolding name_bytes scan is_ending
start_bytes [] = refl
start_bytes (b ∷ l) = go (is_name_byte b) refl
  where
    go : (t : Bool) → is_name_byte b ≡ t → (ltb 0 (name_bytes (b ∷ l)) && scan Name (drop (name_bytes (b ∷ l)) (b ∷ l))) ≡ scan Start (b ∷ l)
    go true e =
        ap (λ (t : Bool). t && scan Name (drop (name_bytes (b ∷ l)) (b ∷ l))) (lt-ltb 0 (name_bytes (b ∷ l)) (omega (arith, bytes_next b l e)))
        ∙ scan_bytes (b ∷ l)
        ∙ scan_step Name b (name_stays b e) l
        ∙ sym (scan_step Start b (starts_name b e) l)
    go false e =
        ap (λ (k : ℕ). ltb 0 k && scan Name (drop (name_bytes (b ∷ l)) (b ∷ l))) (bytes_stop b l e)
        ∙ sym (scan_step Start b (no_name b e) l ∙ wrong_stays l)

-- ---- they are the name

ends_next : (b : ℕ) (l : List ℕ) → is_name_byte b ≡ true → name_end false (b ∷ l) ≡ suc (name_end false l)
unfolding is_name_byte is_letter is_digit
ends_next b l e =
    let x : eqb b 58 ≡ false = ne_eqb b 58 (apart is_name_byte b 58 e refl) in
    let y : eqb b 59 ≡ false = ne_eqb b 59 (apart is_name_byte b 59 e refl) in
    let z : eqb b 34 ≡ false = ne_eqb b 34 (apart is_name_byte b 34 e refl) in
    name_end_keep false b l (rw (x, y)) ∙ ap (λ (t : Bool). suc (name_end (cond t true false) l)) z

no_end : (b : ℕ) → is_name_byte b ≡ false → eqb b 58 ≡ false → eqb b 59 ≡ false → step Name b ≡ Wrong
unfolding step
no_end b e p q = rw (e, q, p)

ends_here : (b : ℕ) (l : List ℕ) → is_name_byte b ≡ false → scan Name (b ∷ l) ≡ true → name_end false (b ∷ l) ≡ 0
ends_here b l e h = go (eqb b 58) refl (eqb b 59) refl
  where
    go : (t : Bool) → eqb b 58 ≡ t → (u : Bool) → eqb b 59 ≡ u → name_end false (b ∷ l) ≡ 0
    go true p u q = name_end_cut false b l (rw p)
    go false p true q = name_end_cut false b l (rw (p, q))
    go false p false q = clash h (scan_step Name b (no_end b e p q) l ∙ wrong_stays l)

name_ends : (l : List ℕ) → scan Name l ≡ true → name_end false l ≡ name_bytes l
unfolding scan is_ending
name_ends [] h = clash h refl
name_ends (b ∷ l) h = go (is_name_byte b) refl (name_ends l)
  where
    go : (t : Bool) → is_name_byte b ≡ t → (scan Name l ≡ true → name_end false l ≡ name_bytes l) → name_end false (b ∷ l) ≡ name_bytes (b ∷ l)
    go true e i = ends_next b l e ∙ ap suc (i (sym (scan_step Name b (name_stays b e) l) ∙ h)) ∙ sym (bytes_next b l e)
    go false e i = ends_here b l e h ∙ sym (bytes_stop b l e)

well_scanned : (l : List ℕ) → is_well_formed l ≡ true → scan Start l ≡ true
unfolding is_well_formed
well_scanned l e = and_right (leb (length l) 1024) _ e

well_bytes : (l : List ℕ) → is_well_formed l ≡ true → length (name_of l) ≡ name_bytes l
well_bytes l e =
    name_end_length l ∙ name_ends l (sym (scan_bytes l) ∙ and_right (ltb 0 (name_bytes l)) _ (start_bytes l ∙ well_scanned l e))

-- a well formed line has a name, and that is no longer than a line may be
pub name_some : (l : List ℕ) → is_well_formed l ≡ true → 0 < length (name_of l)
name_some l e = go (ltb 0 (name_bytes l)) refl
  where
    go : (t : Bool) → ltb 0 (name_bytes l) ≡ t → 0 < length (name_of l)
    go true q = omega (arith, well_bytes l e, ltb-true 0 (name_bytes l) q)
    go false q = clash (and_left (ltb 0 (name_bytes l)) _ (start_bytes l ∙ well_scanned l e)) q

pub name_short : (l : List ℕ) → is_well_formed l ≡ true → length (name_of l) ≤ 1024
unfolding is_well_formed
name_short l e = omega (arith, name_fits l, leb-true (length l) 1024 (and_left (leb (length l) 1024) _ e))

-- ---- what the code answers

well_name : (l : List ℕ) → is_well_formed l ≡ true → well_formed_name l ≡ Some (length (name_of l))
unfolding well_formed_name
well_name l e = rw e

badly_name : (l : List ℕ) → is_well_formed l ≡ false → well_formed_name l ≡ None
unfolding well_formed_name
badly_name l e = rw e

pub name_of_long : (l : List ℕ) → 1024 < length l → None ≡ well_formed_name l
name_of_long l h = sym (badly_name l (well_formed_long l h))

twice : (t : Bool) → t ≡ not (not t)
twice true = refl
twice false = refl

-- there is a name, and behind it stands what may
taken : (n : ℕ) (t : Bool) → (ltb 0 n && t) ≡ not (eqb n 0 || not t)
taken zero t = refl
taken (suc n) t = rw (lt-ltb 0 (suc n) (omega arith), ne_eqb (suc n) 0 (λ e. omega (arith, e))) (twice t)

module _ (l : List ℕ) {n : ℕ} {t : Bool} (h : length l ≤ 1024) (p : n ≡ name_bytes l) (q : t ≡ scan Name (drop n l)) where
  name_form : not (eqb n 0 || not t) ≡ is_well_formed l
  name_form =
      sym (taken n t)
      ∙ ap (λ (x : Bool). ltb 0 n && x) q
      ∙ ap (λ (k : ℕ). ltb 0 k && scan Name (drop k l)) p
      ∙ start_bytes l
      ∙ well_formed_start l h

  pub name_behind : (eqb n 0 || not t) ≡ false → Some n ≡ well_formed_name l
  name_behind w =
      let k : is_well_formed l ≡ true = sym name_form ∙ ap not w in
      sym (well_name l k ∙ ap Some (well_bytes l k ∙ sym p))

  pub name_missed : (eqb n 0 || not t) ≡ true → None ≡ well_formed_name l
  name_missed w = sym (badly_name l (sym name_form ∙ ap not w))

-- ---- what a caller learns

pub named_well : (l : List ℕ) (n : ℕ) → Some n ≡ well_formed_name l → (is_well_formed l ≡ true) × (n ≡ length (name_of l))
unfolding well_formed_name
named_well l n q = let k = cond_some (is_well_formed l) (length (name_of l)) n (sym q) in (k.0, sym k.1)

pub unnamed_badly : (l : List ℕ) → None ≡ well_formed_name l → is_well_formed l ≡ false
unnamed_badly l q = go (is_well_formed l) refl
  where
    go : (t : Bool) → is_well_formed l ≡ t → is_well_formed l ≡ false
    go true e = absurd (none-some _ (q ∙ well_name l e))
    go false e = e
