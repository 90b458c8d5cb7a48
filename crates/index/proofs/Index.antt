-- Laws of the index: how the walk over the lines fills it, and what a reader of one line takes from it.
use Rattle.std.specs.Prelude.{Err, Ok, Result}
use Prim.Native.Nat.{ℕ, zero, suc, ◌+◌, ◌-◌, ◌*◌, ◌/◌, ◌%◌, ◌≤◌, ◌<◌}
use Rattle.index.specs.declared.IndexError.{IndexError}
use mathlib.Core.Path.{◌≡◌, refl, sym, ap, subst, ◌∙◌}
use mathlib.Core.Bool.{Bool, true, false, cond}
use mathlib.Core.List.{List, [], ◌∷◌}
use native.Mathlib.Omega.{arith}
use native.Mathlib.Nat.{add-zero}
use borrow.Author.Tests.{ltb-true, ltb-false}
use lib.Dec.{leb, ltb}
use lib.ListN.{length, drop, get_or, set, length-set, length-drop, get_or-eq_default}
use lib.Seq.{get_or-drop, get_or-set_same, get_or-set_other, drop-drop}
use Rattle.ascii.specs.Bytes.{is_name_byte}
use Rattle.ascii.proofs.Bools.{clash, and_right}
use Rattle.text.specs.Lines.{part, all_lines, content_lines, LineAt, NothingAt}
use Rattle.text.proofs.Lines.{length_part}
use Rattle.line.specs.Scanner.{step, is_ending, scan, is_well_formed}
use Rattle.line.specs.Reading.{name_of}
use Rattle.line.specs.WellFormed.{Checked, GoodLineAt, NamedLineAt, BadLineAt}
use Rattle.line.specs.declared.scan.State.TheVariants.{Start, Name, Wrong}
use Rattle.line.proofs.ScannerNames.{name_short}
use Rattle.line.proofs.WellFormed.{checked_start, checked_next, checked_bad, checked_end}
use Rattle.index.specs.Index.{line_bytes, Between, start_in, name_in, Entry, Indexed, Lines, FilledBy}

-- ---- a line is two bytes or more

one_byte : (t : Bool) → is_ending (cond t Name Wrong) ≡ false
unfolding is_ending
one_byte true = refl
one_byte false = refl

scan_two : (l : List ℕ) → scan Start l ≡ true → 2 ≤ length l
unfolding scan step is_ending
scan_two [] e = clash e refl
scan_two (b ∷ []) e = clash e (one_byte (is_name_byte b))
scan_two (b ∷ c ∷ l) e = omega arith

pub well_formed_two : (l : List ℕ) → is_well_formed l ≡ true → 2 ≤ length l
unfolding is_well_formed
well_formed_two l e = scan_two l (and_right (leb (length l) 1024) _ e)

-- ---- filling it

-- what the walk keeps: the next line starts at `at`, and the first n lines are known as soon as entry n says so
pub record Filling (s index : List ℕ) (size n at : ℕ) : Type 0 where
  pub long : length index ≡ size
  pub room : n ≤ size
  pub short : length s ≤ 65536
  pub checked : Checked s (n + 1) at
  pub fours : 4 * n ≤ at
  pub place : content_lines (drop at s) ≡ drop n (content_lines s)
  pub few : n ≤ length (content_lines s)
  pub entries : n < size → (v : ℕ) → start_in v ≡ at → (i : ℕ) → i < n → Entry s (set index n v) i

pub filling_start : (s index : List ℕ) → length s ≤ 65536 → Filling s index (length index) 0 0
filling_start s index k =
    record {
      long = refl;
      room = omega arith;
      short = k;
      checked = checked_start s;
      fours = omega arith;
      place = refl;
      few = omega arith;
      entries = λ r v q i l. absurd (omega arith);
    }

drop_tail : (n : ℕ) (ls : List (List ℕ)) (l : List ℕ) (r : List (List ℕ)) → drop n ls ≡ l ∷ r → drop (n + 1) ls ≡ r
drop_tail n ls l r e = sym (drop-drop 1 n ls) ∙ ap (drop 1) e

lines_at : {s : List ℕ} {a e : ℕ} → LineAt s a e → content_lines (drop a s) ≡ part s a e ∷ content_lines (drop (e + 2) s)
unfolding content_lines
lines_at h = ap all_lines h.cuts

no_lines : {s : List ℕ} {a : ℕ} → NothingAt s a → content_lines (drop a s) ≡ []
unfolding content_lines
no_lines h = ap all_lines h.cuts

no_more : (n : ℕ) (ls : List (List ℕ)) → drop n ls ≡ [] → length ls ≤ n
no_more n ls e = omega (arith, length-drop n ls, ap length e)

some_more : (n : ℕ) (ls : List (List ℕ)) (l : List ℕ) (r : List (List ℕ)) → drop n ls ≡ l ∷ r → n < length ls
some_more n ls l r e = omega (arith, length-drop n ls, ap length e)

good_long : {s : List ℕ} {a e : ℕ} → GoodLineAt s a e → a + 2 ≤ e
good_long {s} {a} {e} h =
    omega (arith, h.line.starts, well_formed_two (part s a e) h.good, length_part s a e h.line.starts (omega (arith, h.line.inside)))

between_at : {s : List ℕ} {i a e : ℕ} → GoodLineAt s a e → content_lines (drop a s) ≡ drop i (content_lines s) → Between s i a (e + 2)
between_at {s} {i} {a} {e} h p =
    let z : e + 2 - 2 ≡ e = omega arith in
    record { order = omega (arith, good_long h); inside = h.line.inside; good = rw z h.good; cut_there = rw z h.line.cuts; place = p }

-- the two numbers of an entry
start_of : (a m : ℕ) → a < 131072 → start_in (a + m * 131072) ≡ a
unfolding start_in
start_of a m h = omega arith

start_alone : (a : ℕ) → a < 131072 → start_in a ≡ a
unfolding start_in
start_alone a h = omega arith

name_of_lem : (a m : ℕ) → a < 131072 → name_in (a + m * 131072) ≡ m
unfolding name_in
name_of_lem a m h = omega arith

-- entry i is a, and the next is b
entry_of_holds : {s index : List ℕ} {i a b : ℕ} → get_or index i 0 ≡ a → get_or index (i + 1) 0 ≡ b → Between s i (start_in a) (start_in b)
    → name_in a ≡ length (name_of (line_bytes s i)) → Entry s index i
entry_of_holds {s} {index} {i} p q h k = record { between = rw (p, q) h; named = rw p k }

-- a later entry is written
kept : {s index : List ℕ} {i : ℕ} (j v : ℕ) → i + 1 < j → Entry s index i → Entry s (set index j v) i
kept {s} {index} {i} j v h k =
    entry_of_holds
    (get_or-set_other index j i v 0 (λ e. omega arith))
    (get_or-set_other index j (i + 1) v 0 (λ e. omega arith))
    k.between
    k.named

get_d_first : (n : ℕ) (ls : List (List ℕ)) (l : List ℕ) (r : List (List ℕ)) → drop n ls ≡ l ∷ r → get_or ls n [] ≡ l
get_d_first n ls l r e = simp add-zero at (sym (get_or-drop n ls 0 [])) ∙ ap (λ (x : List (List ℕ)). get_or x 0 []) e

module _ {s index : List ℕ} {size n at : ℕ} (k : Filling s index size n at) where
  -- an index without room for an entry has too few for the bytes
  pub filling_full : size ≤ n → 4 * length index ≤ length s
  filling_full l = omega (arith, k.long, k.room, k.fours, k.checked.inside)

  module _ {e m : ℕ} (h : NamedLineAt s at e m) where
    name_small : m ≤ 1024
    name_small = omega (arith, h.name, name_short (part s at e) h.good.good)

    -- the entry that is written fits
    pub filling_fits : at + m * 131072 < 4294967296
    filling_fits = omega (arith, name_small, k.short, k.checked.inside)

    pub filling_more : 4 * (n + 1) ≤ e + 2
    filling_more = omega (arith, k.fours, good_long h.good)

    this_line : part s at e ≡ line_bytes s n
    unfolding line_bytes
    this_line = sym (get_d_first n (content_lines s) _ _ (sym k.place ∙ lines_at h.good.line))

    this_entry : n + 1 < length index → (v : ℕ) → start_in v ≡ e + 2 → Entry s (set (set index n (at + m * 131072)) (n + 1) v) n
    this_entry r v q =
        let w : ℕ = at + m * 131072 in
        let a : at < 131072 = omega (arith, k.short, k.checked.inside) in
        let l : n + 1 < length (set index n w) = omega (arith, length-set index n w, r) in
        entry_of_holds
        (get_or-set_other (set index n w) (n + 1) n v 0 (λ z. omega arith) ∙ get_or-set_same index n w 0 (omega (arith, r)))
        (get_or-set_same (set index n w) (n + 1) v 0 l)
        (rw (start_of at m a, q) (between_at h.good k.place))
        (name_of_lem at m a ∙ h.name ∙ ap (λ (x : List ℕ). length (name_of x)) this_line)

    entry_next : n + 1 < length index → (v : ℕ) → start_in v ≡ e + 2 → (i : ℕ) → i < n + 1 → Entry s (set (set index n (at + m * 131072)) (n + 1) v) i
    entry_next r v q i l = go (ltb i n) refl
      where
        a : at < 131072
        a = omega (arith, k.short, k.checked.inside)

        go : (t : Bool) → ltb i n ≡ t → Entry s (set (set index n (at + m * 131072)) (n + 1) v) i
        go true z = kept (n + 1) v (omega (arith, ltb-true)) (k.entries (omega (arith, k.long, r)) (at + m * 131072) (start_of at m a) i (omega (arith, ltb-true)))
        go false z = let j : i ≡ n = omega (arith, ltb-false) in rw j (this_entry r v q)

    pub filling_next : n < length index → Filling s (set index n (at + m * 131072)) size (n + 1) (e + 2)
    filling_next r =
        record {
          long = length-set index n (at + m * 131072) ∙ k.long;
          room = omega (arith, r, k.long);
          short = k.short;
          checked = checked_next k.checked h.good;
          fours = filling_more;
          place = sym (drop_tail n (content_lines s) _ _ (sym k.place ∙ lines_at h.good.line));
          few = omega (arith, some_more n (content_lines s) _ _ (sym k.place ∙ lines_at h.good.line));
          entries = λ l. entry_next (omega (arith, l, k.long));
        }

  pub filling_bad : BadLineAt s at → FilledBy s index (Err (IndexError.BadLine (n + 1)))
  unfolding FilledBy
  filling_bad h = checked_bad k.checked h

  counted : NothingAt s at → n ≡ length (content_lines s)
  counted h = omega (arith, k.few, no_more n (content_lines s) (sym k.place ∙ no_lines h))

  pub filling_end : n < length index → NothingAt s at → FilledBy s (set index n at) (Ok n)
  unfolding FilledBy
  filling_end r h =
      let a : start_in at ≡ at = start_alone at (omega (arith, k.short, k.checked.inside)) in
      record {
        indexed = record { entries = λ i l. k.entries (omega (arith, r, k.long)) at a i (omega (arith, counted h)); good = sym (checked_end k.checked h) };
        count = counted h;
        few = omega (arith, k.fours, k.checked.inside);
      }

-- ---- reading a line

-- past the end of the index stand zeros, so an entry that is not zero stands inside
inside_index : (l : List ℕ) (i : ℕ) → 0 < get_or l i 0 → i < length l
inside_index l i h = go (ltb i (length l)) refl
  where
    go : (t : Bool) → ltb i (length l) ≡ t → i < length l
    go true q = omega (arith, ltb-true)
    go false q = absurd (omega (arith, get_or-eq_default l 0 (ltb-false i (length l) q)))

start_some : (v : ℕ) → 0 < start_in v → 0 < v
unfolding start_in
start_some v h = omega arith

module _ {s index : List ℕ} {i : ℕ} (k : Entry s index i) where
  pub entry_room : i + 1 < length index
  entry_room = inside_index index (i + 1) (start_some (get_or index (i + 1) 0) (omega (arith, k.between.order)))

  entry_lines : drop i (content_lines s)
      ≡ part s (start_in (get_or index i 0)) (start_in (get_or index (i + 1) 0) - 2) ∷ content_lines (drop (start_in (get_or index (i + 1) 0)) s)
  unfolding content_lines
  entry_lines = sym k.between.place ∙ ap all_lines k.between.cut_there

  entry_line : part s (start_in (get_or index i 0)) (start_in (get_or index (i + 1) 0) - 2) ≡ line_bytes s i
  unfolding line_bytes
  entry_line = sym (get_d_first i (content_lines s) _ _ entry_lines)

  -- the places in two entries, as the code takes them out
  pub entry_places : {x y : ℕ} → x ≡ get_or index i 0 → y ≡ get_or index (i + 1) 0 → Between s i (x % 131072) (y % 131072)
  unfolding start_in
  entry_places p q = rw (p, q) k.between

  -- what stands between them is line i
  pub entry_read : {x y : ℕ} → x ≡ get_or index i 0 → y ≡ get_or index (i + 1) 0 → part s (x % 131072) (y % 131072 - 2) ≡ line_bytes s i
  unfolding start_in
  entry_read p q = rw (p, q) entry_line

  pub entry_here : i < length index
  entry_here = omega (arith, entry_room)

  -- the length of the name of line i
  pub entry_name : {n : ℕ} {l : List ℕ} → n ≡ name_in (get_or index i 0) → l ≡ line_bytes s i → n ≡ length (name_of l)
  entry_name p q = p ∙ k.named ∙ ap (λ (x : List ℕ). length (name_of x)) (sym q)

-- the name of line i, as the code takes its length out
pub name_read : (index : List ℕ) (i : ℕ) {x : ℕ} → x ≡ get_or index i 0 → x / 131072 ≡ name_in (get_or index i 0)
unfolding name_in
name_read index i p = ap (λ (v : ℕ). v / 131072) p

-- ---- where lines stand

-- a line and its CR LF stand between its start and the next one's
pub entry_long : {s index : List ℕ} {i : ℕ} → Entry s index i → start_in (get_or index i 0) + length (line_bytes s i) + 2 ≡ start_in (get_or index (i + 1) 0)
entry_long {s} {index} {i} k =
    let a = start_in (get_or index i 0) in
    let b = start_in (get_or index (i + 1) 0) in
    let n : length (part s a (b - 2)) ≡ b - 2 - a = length_part s a (b - 2) (omega (arith, k.between.order)) (omega (arith, k.between.inside)) in
    omega (arith, k.between.order, sym n ∙ ap length (entry_line k))

-- a later line starts later
pub starts_rise : {s index : List ℕ} → Indexed s index → (i n : ℕ) → i + n ≤ length (content_lines s) → start_in (get_or index i 0) ≤ start_in (get_or index (i + n) 0)
starts_rise {s} {index} h i zero l = omega (arith, ap (λ (x : ℕ). start_in (get_or index x 0)) (let z : i + 0 ≡ i = omega arith in z))
starts_rise {s} {index} h i (suc n) l =
    let z : i + suc n ≡ i + n + 1 = omega arith in
    omega (arith, starts_rise h i n (omega arith), (h.entries (i + n) (omega arith)).between.order, ap (λ (x : ℕ). start_in (get_or index x 0)) z)

-- ---- what a caller learns

pub filled_lines : {s index : List ℕ} {r : Result ℕ IndexError} (n : ℕ) → FilledBy s index r → r ≡ Ok n → Lines s index n
unfolding FilledBy
filled_lines {s} {index} n h q = subst (FilledBy s index) q h

pub filled_full : (s index : List ℕ) {r : Result ℕ IndexError} → FilledBy s index r → r ≡ Err IndexError.Full → 4 * length index ≤ length s
unfolding FilledBy
filled_full s index h q = subst (FilledBy s index) q h
