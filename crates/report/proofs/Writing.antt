-- Bytes written one run behind another: two runs are one, and what is left to write;
-- the lines of three tables, and how long they are.
use Prim.Native.Nat.{ℕ, zero, suc, ◌+◌, ◌≤◌}
use mathlib.Core.Path.{◌≡◌, refl, ap, ◌∙◌, sym, subst}
use mathlib.Core.List.{List, [], ◌∷◌, ◌++◌, append_assoc}
use native.Mathlib.Omega.{arith}
use lib.ListN.{length, take, length-append, drop, drop_of_length-le}
use lib.Seq.{sets, length-sets}
use Rattle.text.specs.Lines.{joined}
use Rattle.time.specs.Writing.{utc_text}
use Rattle.time.specs.Limits.{last_second}
use Rattle.time.proofs.Stores.{sets_append}
use Rattle.time.proofs.WritingLaws.{utc_text_length}
use Rattle.periods.specs.declared.BusyType.{BusyType}
use Rattle.periods.specs.declared.Period.{Period}
use Rattle.periods.specs.Periods.{period}
use Rattle.table.specs.Tables.{rows, table_at, listed}
use Rattle.table.proofs.Tables.{listed_length, table_sound}
use Rattle.report.specs.Bytes.{busy_lines, report_bytes, report_length, period_text, period_lines, GoodPeriods, then, Writable}
use Rattle.report.specs.Writing.{packed, report_of, AllGood, Put}
use Rattle.report.specs.Heads.{timed, stamp_head, start_head, end_head, opening, closing}
use Rattle.report.proofs.Bytes.{type_bytes, busy_parts, parts_length, report_length_lem, report_parts, lines_length, opening_length, closing_length}

-- ---- the lines of three tables

types_length : (f : BusyType → List Period)
    → length (joined (busy_lines f))
    ≡ length (type_bytes BusyType.Busy (f BusyType.Busy))
    + (length (type_bytes BusyType.Tentative (f BusyType.Tentative)) + length (type_bytes BusyType.Unavailable (f BusyType.Unavailable)))
types_length f = ap length (busy_parts f) ∙ simp length-append

-- as many periods as rows are counted
pub rows_length : (n : ℕ) (ss es : List ℕ) → n ≤ length ss → n ≤ length es → length (take n (rows ss es)) ≡ n
unfolding rows
rows_length zero ss es h k = refl
rows_length (suc n) [] es h k = absurd (omega arith)
rows_length (suc n) (s ∷ ss) [] h k = absurd (omega arith)
rows_length (suc n) (s ∷ ss) (e ∷ es) h k = ap suc (rows_length n ss es (omega arith) (omega arith))

-- a report of so many rows of each type is as long as they make it
pub tables_length : (a b s x y z : ℕ) (ss es : List ℕ) → x + y + z ≤ length ss → length es ≡ length ss
    → length (report_bytes (report_of a b s (packed x y z ss es))) ≡ report_length x y z
unfolding report_of packed
tables_length a b s x y z ss es h e = report_length_lem (report_of a b s (packed x y z ss es)) ∙ rw (long 0 x (omega arith), long x y (omega arith), long (x + y) z (omega arith))
  where
    long : (k n : ℕ) → k + n ≤ length ss → length (listed (table_at k n ss es)) ≡ n
    long k n l = listed_length (table_at k n ss es) (table_sound k n ss es l e)

-- ---- runs of bytes

-- what was stored at a place, and the place behind it
pub put_stored : {o o' x : List ℕ} {a r : ℕ} → o' ≡ sets o a x → r ≡ a + length x → Put o a x o' r
put_stored e f = record { bytes = e; place = f }

-- one run behind another
sets_behind : {o p x : List ℕ} {a b : ℕ} → Put o a x p b → (y : List ℕ) → sets p b y ≡ sets o a (x ++ y)
sets_behind {o} {p} {x} {a} {b} f y =
    ap (λ (k : ℕ). sets p k y) f.place ∙ ap (λ (l : List ℕ). sets l (a + length x) y) f.bytes ∙ sets_append o x y a (length x) refl

pub put_then : {o p q x y : List ℕ} {a b c : ℕ} → Put o a x p b → Put p b y q c → Put o a (x ++ y) q c
put_then {x = x} {y = y} f g = record {
  bytes = g.bytes ∙ sets_behind f y;
  place = omega (arith, g.place, f.place, length-append x y);
}

-- the output stays as long
pub put_same : {o p x : List ℕ} {a b : ℕ} → Put o a x p b → length p ≡ length o
put_same {o} {p} {x} {a} f = ap length f.bytes ∙ length-sets o a x

-- the same bytes, said otherwise
pub put_as : {o p x y : List ℕ} {a b : ℕ} → Put o a x p b → x ≡ y → Put o a y p b
put_as {o} {p} {x} {y} {a} {b} f e = subst (λ (z : List ℕ). Put o a z p b) e f

-- a fixed string, and a second behind it
pub put_timed : (o p q h : List ℕ) (a t : ℕ) → p ≡ sets o a h → q ≡ sets p (a + length h) (utc_text t) → Put o a (timed h t) q (a + length h + 16)
unfolding timed
put_timed o p q h a t e f =
    put_then
    (put_stored {x = h} e refl)
    (put_stored {x = utc_text t} f (ap (λ (n : ℕ). a + length h + n) (sym (utc_text_length t))))

pub timed_place : {o p : List ℕ} {a b : ℕ} (h : List ℕ) (t : ℕ) → Put o a (timed h t) p b → b ≡ a + length h + 16
unfolding timed
timed_place h t f = omega (arith, f.place, length-append h (utc_text t), utc_text_length t)

-- the line of one period: its head, its start, a solidus and its end, and CR LF
pub put_line : (o p q r h : List ℕ) (a b c f t : ℕ) → Put o a (timed h f) p b → Put p b (timed (47 ∷ []) t) q c → r ≡ sets q c (13 ∷ 10 ∷ [])
    → Put o a (joined (period_lines h (period f t ∷ []))) r (c + 2)
unfolding timed period_lines period_text
put_line o p q r h a b c f t u v e =
    put_as
    (put_then (put_then u v) (put_stored {x = 13 ∷ 10 ∷ []} e refl))
    (ap (λ (l : List ℕ). l ++ (13 ∷ 10 ∷ [])) (append_assoc h (utc_text f) (47 ∷ utc_text t)))

-- the loop over periods: those from i on are left to write at a, and that makes all of them at a₀
pub record LinesLeft (h : List ℕ) (ps : List Period) (o₀ : List ℕ) (a₀ : ℕ) (o : List ℕ) (a i : ℕ) : Type 0 where
  pub good : GoodPeriods (drop i ps)
  pub same : length o ≡ length o₀
  pub reaches : a + length (joined (period_lines h (drop i ps))) ≡ a₀ + length (joined (period_lines h ps))
  pub made : sets o a (joined (period_lines h (drop i ps))) ≡ sets o₀ a₀ (joined (period_lines h ps))

pub lines_start : (h : List ℕ) (ps : List Period) (o : List ℕ) (a : ℕ) → GoodPeriods ps → LinesLeft h ps o a o a 0
lines_start h ps o a g = record { good = g; same = refl; reaches = refl; made = refl }

-- a good period lies within the limits
record Within (p : Period) (ps : List Period) : Type 0 where
  from_limit : p.start ≤ last_second
  to_limit : p.end ≤ last_second
  rest : GoodPeriods ps

within : {p : Period} {ps : List Period} → GoodPeriods (p ∷ ps) → Within p ps
within (then s e g) = record { from_limit = omega arith; to_limit = e; rest = g }

-- one line, and those behind it
lines_cons : (h : List ℕ) (p : Period) (ps : List Period) → joined (period_lines h (p ∷ ps)) ≡ joined (period_lines h (p ∷ [])) ++ joined (period_lines h ps)
unfolding period_lines
lines_cons h p ps = sym (append_assoc (h ++ period_text p) (13 ∷ 10 ∷ []) (joined (period_lines h ps)))

-- what the next line asks for: room, and a period within the limits
pub record NextLine (h : List ℕ) (p : Period) (o : List ℕ) (a : ℕ) : Type 0 where
  pub room : a + length h + 35 ≤ length o
  pub from_limit : p.start ≤ last_second
  pub to_limit : p.end ≤ last_second

pub lines_ask : {h : List ℕ} {ps : List Period} {o₀ : List ℕ} {a₀ : ℕ} {o : List ℕ} {a i : ℕ} {p : Period}
    → LinesLeft h ps o₀ a₀ o a i → drop i ps ≡ p ∷ drop (i + 1) ps → a₀ + length (joined (period_lines h ps)) ≤ length o₀ → NextLine h p o a
lines_ask {h} {ps} {o₀} {a₀} {o} {a} {i} {p} l e m =
    let g : Within p (drop (i + 1) ps) = within (subst GoodPeriods e l.good) in
    let n : length (joined (period_lines h (drop i ps))) ≡ length (joined (period_lines h (p ∷ []))) + length (joined (period_lines h (drop (i + 1) ps))) =
    ap (λ (qs : List Period). length (joined (period_lines h qs))) e ∙ ap length (lines_cons h p (drop (i + 1) ps)) ∙ simp length-append in
    record {
      room = omega (arith, l.reaches, l.same, n, lines_length h (p ∷ []));
      from_limit = g.from_limit;
      to_limit = g.to_limit;
    }

pub lines_next : {h : List ℕ} {ps : List Period} {o₀ : List ℕ} {a₀ : ℕ} {o o' : List ℕ} {a r i : ℕ} {p : Period}
    → LinesLeft h ps o₀ a₀ o a i → drop i ps ≡ p ∷ drop (i + 1) ps → Put o a (joined (period_lines h (p ∷ []))) o' r → LinesLeft h ps o₀ a₀ o' r (i + 1)
lines_next {h} {ps} {o₀} {a₀} {o} {o'} {a} {r} {i} {p} l e u =
    let x : List ℕ = joined (period_lines h (p ∷ [])) in
    let y : List ℕ = joined (period_lines h (drop (i + 1) ps)) in
    let n : joined (period_lines h (drop i ps)) ≡ x ++ y = ap (λ (qs : List Period). joined (period_lines h qs)) e ∙ lines_cons h p (drop (i + 1) ps) in
    let m : length (joined (period_lines h (drop i ps))) ≡ length x + length y = ap length n ∙ length-append x y in
    record {
      good = (within (subst GoodPeriods e l.good)).rest;
      same = put_same u ∙ l.same;
      reaches = omega (arith, l.reaches, m, u.place);
      made = sets_behind u y ∙ ap (λ (z : List ℕ). sets o a z) (sym n) ∙ l.made;
    }

pub lines_end : {h : List ℕ} {ps : List Period} {o₀ : List ℕ} {a₀ : ℕ} {o : List ℕ} {a i : ℕ}
    → LinesLeft h ps o₀ a₀ o a i → length ps ≤ i → Put o₀ a₀ (joined (period_lines h ps)) o a
unfolding period_lines
lines_end {h} {ps} {o₀} {a₀} {o} {a} {i} l k =
    let e : drop i ps ≡ [] = drop_of_length-le ps k in
    let n : joined (period_lines h (drop i ps)) ≡ [] = ap (λ (qs : List Period). joined (period_lines h qs)) e in
    record {
      bytes = ap (λ (z : List ℕ). sets o a z) (sym n) ∙ l.made;
      place = omega (arith, l.reaches, ap length n);
    }

-- the types one behind the other
module _ (f : BusyType → List Period) where
  pub put_types : {o p q r : List ℕ} {a b c d : ℕ}
      → Put o a (type_bytes BusyType.Busy (f BusyType.Busy)) p b → Put p b (type_bytes BusyType.Tentative (f BusyType.Tentative)) q c
      → Put q c (type_bytes BusyType.Unavailable (f BusyType.Unavailable)) r d → Put o a (joined (busy_lines f)) r d
  put_types u v w = put_as (put_then u (put_then v w)) (sym (busy_parts f))

  -- the room that each type finds behind the one before
  module _ (a n : ℕ) (room : a + length (joined (busy_lines f)) ≤ n) where
    pub busy_room : a + length (type_bytes BusyType.Busy (f BusyType.Busy)) ≤ n
    busy_room = omega (arith, types_length f)

    pub tentative_room : {o p : List ℕ} {b : ℕ} → Put o a (type_bytes BusyType.Busy (f BusyType.Busy)) p b → b + length (type_bytes BusyType.Tentative (f BusyType.Tentative)) ≤ n
    tentative_room u = omega (arith, types_length f, u.place)

    pub unavailable_room : {o p q : List ℕ} {b c : ℕ} → Put o a (type_bytes BusyType.Busy (f BusyType.Busy)) p b
        → Put p b (type_bytes BusyType.Tentative (f BusyType.Tentative)) q c → c + length (type_bytes BusyType.Unavailable (f BusyType.Unavailable)) ≤ n
    unavailable_room u v = omega (arith, types_length f, u.place, v.place)

-- the stamp and the range, each behind its head, and CR LF
pub put_opening : (f t s : ℕ) {o p q r w : List ℕ} {b c d : ℕ}
    → Put o 0 (timed stamp_head s) p b → Put p b (timed start_head f) q c → Put q c (timed end_head t) r d → w ≡ sets r d (13 ∷ 10 ∷ [])
    → Put o 0 (opening f t s) w (d + 2)
unfolding opening
put_opening f t s u v w e = put_then u (put_then v (put_then w (put_stored {x = 13 ∷ 10 ∷ []} e refl)))

-- the opening, the periods and the closing are the report
module _ (f : BusyType → List Period) (a b s : ℕ) where
  pub put_report : {o p q w : List ℕ} {x y : ℕ} → Put o 0 (opening a b s) p x → Put p x (joined (busy_lines f)) q y → w ≡ sets q y closing
      → Put o 0 (report_bytes (report_of a b s f)) w (y + 30)
  unfolding report_of
  put_report {y = y} u v e =
      put_as
      (put_then u (put_then v (put_stored {x = closing} e (ap (λ (n : ℕ). y + n) (sym closing_length)))))
      (sym (report_parts (report_of a b s f)))

  parts : length (report_bytes (report_of a b s f)) ≡ 160 + (length (joined (busy_lines f)) + 30)
  unfolding report_of
  parts = parts_length (report_of a b s f)

  -- what the parts of a report ask for, where it can be written and there is room for it
  module _ (w : Writable (report_of a b s f)) {n : ℕ} (room : length (report_bytes (report_of a b s f)) ≤ n) where
    pub opening_asks : (160 ≤ n) × (a ≤ last_second) × (b ≤ last_second) × (s ≤ last_second)
    unfolding report_of
    opening_asks = (omega (arith, parts), omega (arith, w.start_first, w.end_limit), w.end_limit, w.stamp_limit)

    pub types_good : AllGood f
    unfolding report_of
    types_good = w.periods_good

    pub types_room : {o p : List ℕ} {x : ℕ} → Put o 0 (opening a b s) p x → x + length (joined (busy_lines f)) ≤ n
    types_room u = omega (arith, parts, u.place, opening_length a b s)

    pub closing_room : {o p q : List ℕ} {x y : ℕ} → Put o 0 (opening a b s) p x → Put p x (joined (busy_lines f)) q y → y + 30 ≤ n
    closing_room u v = omega (arith, parts, u.place, v.place, opening_length a b s)
