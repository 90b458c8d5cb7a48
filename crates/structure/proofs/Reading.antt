-- The walk over the lines decides the nesting and writes the rows.
use Rattle.std.specs.Prelude.{Err, None, Ok, Option, Result, Some}
use Prim.Native.Nat.{ℕ, suc, ◌+◌, ◌*◌, ◌-◌, ◌≤◌, ◌<◌}
use Rattle.nesting.specs.declared.StructureError.{StructureError}
use Rattle.index.specs.declared.IndexError.{IndexError}
use mathlib.Core.Path.{◌≡◌, refl, sym, ap, subst, ◌∙◌}
use mathlib.Core.Bool.{Bool, true, false, cond}
use mathlib.Core.List.{List, [], ◌∷◌, map}
use native.Mathlib.Omega.{arith}
use native.Mathlib.Nat.{add-zero}
use lib.ListN.{length, get_or, length-map, drop_of_length-le}
use Rattle.ascii.specs.Names.{same_name}
use Rattle.ascii.proofs.Bools.{clash}
use Rattle.text.specs.Lines.{content_lines}
use Rattle.line.specs.Grammar.{ContentLine}
use Rattle.line.specs.Reading.{line_of, value_of}
use Rattle.line.specs.WellFormed.{line_check, LineCheck, all_good, bad_line}
use Rattle.delimiters.specs.Delimiters.{delimiter_of}
use Rattle.delimiters.specs.Innermost.{may_begin, nesting_step_by, begins_by, begins_calendar}
use Rattle.delimiters.specs.declared.Delimiter.{Delimiter}
use Rattle.delimiters.specs.declared.Delimiter.TheVariants.{Begins, Ends, Property, Wrong}
use Rattle.delimiters.specs.declared.NestingStep.{NestingStep}
use Rattle.nesting.specs.Nesting.{Walk, start, inside, closed, broken, after_delimiter, after_begin, after_end, after_property, after_wrong, walk, outcome, nesting_of}
use Rattle.nesting.specs.Components.{none, items_of, delimited_from}
use Rattle.nesting.specs.WellNested.{numbered_from}
use Rattle.nesting.specs.Files.{nesting_from, nesting_in, structure_by}
use Rattle.nesting.proofs.NestingLaws.{after_nesting_step, after_step, Room, opens_room}
use Rattle.nesting.proofs.NestingLaws.{walk_numbered, stays_broken, after_closed}
use Rattle.index.specs.Index.{line_bytes, Entry, Lines, FilledBy}
use Rattle.structure.specs.Rows.{kind_of, lines_after, delimited_by, items_by, RowPut, RowAt, LineIs, ItemRows, nothing, with_property_holds, with_component}
use Rattle.structure.specs.Reading.{Ready, Walks, Closes, Breaks, ClosesTo, StructureRead, FoundBy}
use Rattle.structure.proofs.RowsLaws.{rows_lines, rows_rise, rows_then, rows_kept, one_after}

-- ---- the walk so far

-- the lines from `first` up to i are items, and their rows stand; those before `begun` are as they were
pub record Going (s old rows : List ℕ) (n first begun i k : ℕ) : Type 0 where
  pub long : length rows ≡ length old
  pub inside : i ≤ n
  pub few : k ≤ 256
  pub passed : ItemRows s rows first begun i k
  pub kept : (p : ℕ) → p < 4 * begun → get_or rows p 0 ≡ get_or old p 0

going_start : {s index rows : List ℕ} {n first begun : ℕ} → Ready s index rows n first begun → Going s rows rows n first begun first begun
going_start r = record { long = refl; inside = r.inside; few = r.few; passed = nothing; kept = λ p h. refl }

module _ {s old rows : List ℕ} {n first begun i k : ℕ} (g : Going s old rows n first begun i k) where
  going_property : i < n → LineIs s i Property → Going s old rows n first begun (i + 1) k
  going_property h q =
      record { long = g.long; inside = omega arith; few = g.few; passed = rows_then g.passed (with_property_holds q nothing); kept = g.kept }

  going_end : i < n → LineIs s i Ends → Walks s old rows n first begun (i + 1) k
  going_end h q =
      record { stop = i; behind = refl; inside = omega arith; few = g.few; items = g.passed; closes = q; kept = g.kept }

  -- a component in it, whose row is written once it has ended
  module _ {new : List ℕ} {j m : ℕ} (q : LineIs s i Begins) (w : Walks s rows new n (i + 1) (k + 1) j m) where
    inner_room : length new ≡ length rows → length old ≡ 1024 → 4 * k + 4 ≤ length new
    inner_room l r = omega (arith, rows_rise w.items, w.few, l, g.long)

    inner_onward : i < j
    inner_onward = omega (arith, rows_lines w.items, w.behind)

    going_put : {out : List ℕ} {kind : ℕ} → length new ≡ length rows → length out ≡ length new → kind ≡ kind_of (value_of (line_bytes s i))
        → RowPut new (4 * k) ((i + 1) ∷ j ∷ m ∷ kind ∷ []) out → Going s old out n first begun j m
    going_put {out} {kind} l v t o =
        record {
          long = v ∙ l ∙ g.long;
          inside = w.inside;
          few = w.few;
          passed =
              rows_then
              (rows_kept out g.passed (λ p a b. o.before p b ∙ w.kept p (omega arith)))
              (with_component q row (rows_kept out w.items (λ p a b. o.behind p (omega arith))) w.closes
              (subst (λ (t : ℕ). ItemRows s out (w.stop + 1) m t m) (sym w.behind) nothing));
          kept = λ p h. o.before p (omega (arith, rows_rise g.passed)) ∙ w.kept p (omega (arith, rows_rise g.passed)) ∙ g.kept p h;
        }
      where
        row : RowAt out k (i + 1) (w.stop + 1) m (kind_of (value_of (line_bytes s i)))
        row =
            record {
              begin = simp add-zero at (o.here 0 (omega arith));
              end = o.here 1 (omega arith) ∙ w.behind;
              next = o.here 2 (omega arith);
              kind = o.here 3 (omega arith) ∙ t;
            }

-- ---- what a line does tells what it is

step_delimiter : NestingStep → Delimiter
step_delimiter NestingStep.Opens = Begins
step_delimiter NestingStep.Stays = Property
step_delimiter NestingStep.Closes = Ends
step_delimiter NestingStep.Breaks = Wrong

abbrev is_breaks : NestingStep → Bool
is_breaks NestingStep.Opens = false
is_breaks NestingStep.Stays = false
is_breaks NestingStep.Closes = false
is_breaks NestingStep.Breaks = true

delimiter_cond : (t : Bool) (m : Delimiter) (y r : NestingStep) → m ≡ step_delimiter y → cond t y NestingStep.Breaks ≡ r → is_breaks r ≡ false → m ≡ step_delimiter r
delimiter_cond true m y r q h f = q ∙ ap step_delimiter h
delimiter_cond false m y r q h f = clash (sym (ap is_breaks h)) f

-- a line that does not break the nesting is what its step says
delimiter_by : (m : Delimiter) (v n : List ℕ) (d k : ℕ) (r : NestingStep) → nesting_step_by m v n d k ≡ r → is_breaks r ≡ false → m ≡ step_delimiter r
unfolding nesting_step_by step_delimiter
delimiter_by Begins v n d k r e f = delimiter_cond (may_begin v d k) Begins NestingStep.Opens r refl e f
delimiter_by Ends v n d k r e f = delimiter_cond (same_name v n) Ends NestingStep.Closes r refl e f
delimiter_by Property v n d k r e f = ap step_delimiter e
delimiter_by Wrong v n d k r e f = clash (sym (ap is_breaks e)) f

-- ---- the outcome from a line on

from_next : (i : ℕ) (w : Walk) (x : ContentLine) (xs : List ContentLine)
    → nesting_from i w (x ∷ xs) ≡ nesting_from (i + 1) (after_delimiter (delimiter_of x) i x w) xs
unfolding nesting_from walk
from_next i w x xs =
    let n : i + suc (length xs) ≡ i + 1 + length xs = omega arith in
    let m : suc i ≡ i + 1 = omega arith in
    ap (λ (j : ℕ). outcome j (walk (suc i) (after_delimiter (delimiter_of x) i x w) xs)) n
    ∙ ap (λ (j : ℕ). outcome (i + 1 + length xs) (walk j (after_delimiter (delimiter_of x) i x w) xs)) m

from_none : (i : ℕ) (w : Walk) → nesting_from i w [] ≡ outcome i w
unfolding nesting_from walk
from_none i w = let n : i + 0 ≡ i = omega arith in ap (λ (j : ℕ). outcome j w) n

from_broken : (i j : ℕ) (xs : List ContentLine) → nesting_from i (broken j) xs ≡ bad_line j
unfolding nesting_from outcome
from_broken i j xs = ap (outcome (i + length xs)) (walk_numbered i (broken j) xs ∙ stays_broken j (numbered_from i xs))

none_after : (s : List ℕ) (i : ℕ) → length (content_lines s) ≤ i → lines_after s i ≡ []
unfolding lines_after
none_after s i h = let l : length (map line_of (content_lines s)) ≤ i = simp length-map h in drop_of_length-le (map line_of (content_lines s)) l

-- ---- reading a component

pub closes_at : {s name old new : List ℕ} {n first begun left : ℕ} {r : Result (ℕ × ℕ) ℕ} (j m : ℕ) → ClosesTo s name old new n first begun left r → r ≡ Ok (j, m)
    → Closes s name old new n first begun left j m
unfolding ClosesTo
closes_at {s} {name} {old} {new} {n} {first} {begun} {left} j m h q = subst (ClosesTo s name old new n first begun left) q h

breaks_at : {s name : List ℕ} (old new : List ℕ) (n : ℕ) {first begun left : ℕ} {r : Result (ℕ × ℕ) ℕ} (b : ℕ) → ClosesTo s name old new n first begun left r
    → r ≡ Err b → Breaks s name first begun left b
unfolding ClosesTo
breaks_at {s} {name} old new n {first} {begun} {left} b h q = subst (ClosesTo s name old new n first begun left) q h

pub record Reading (s index name old rows : List ℕ) (n first begun left i k : ℕ) : Type 0 where
  pub ready : Ready s index old n first begun
  pub going : Going s old rows n first begun i k
  pub decided : (o : List (List ℕ)) → length o + left ≡ 8
      → nesting_from (first + 1) (inside (name ∷ o) begun) (lines_after s first) ≡ nesting_from (i + 1) (inside (name ∷ o) k) (lines_after s i)

-- at the line that the walk has come to a component begins, and v is its value
pub record Opened {s index name old rows : List ℕ} {n first begun left i k : ℕ} (r : Reading s index name old rows n first begun left i k) (v : List ℕ) : Type 0 where
  pub here : i < n
  pub begins : LineIs s i Begins
  pub room : Room left (k + 1)
  pub value : v ≡ value_of (line_bytes s i)
  pub decided : (o : List (List ℕ)) → length o + left ≡ 8
      → nesting_from (first + 1) (inside (name ∷ o) begun) (lines_after s first)
      ≡ nesting_from (i + 1 + 1) (inside (v ∷ name ∷ o) (k + 1)) (lines_after s (i + 1))

-- l is the line that the walk has come to, and m what it does
pub record Stepped {s index name old rows : List ℕ} {n first begun left i k : ℕ} (r : Reading s index name old rows n first begun left i k) (l : List ℕ) (m : NestingStep) : Type 0 where
  pub here : i < n
  pub line : l ≡ line_bytes s i
  pub step : m ≡ nesting_step_by (delimiter_of (line_of l)) (value_of l) name (10 - left) (k + 1)

-- a step by its line, and the component that begins there
module _ {s index name old rows l : List ℕ} {n first begun left i k : ℕ} {m : NestingStep} (r : Reading s index name old rows n first begun left i k) where
  pub stepped : i < n → l ≡ line_bytes s i → m ≡ nesting_step_by (delimiter_of (line_of l)) (value_of l) name (10 - left) (k + 1) → Stepped r l m
  stepped h e f = record { here = h; line = e; step = f }

pub reading_start : {s index rows : List ℕ} {n first begun : ℕ} (name : List ℕ) (left : ℕ) → Ready s index rows n first begun
    → Reading s index name rows rows n first begun left first begun
reading_start name left r = record { ready = r; going = going_start r; decided = λ o e. refl }

module _ {s index name old rows : List ℕ} {n first begun left i k : ℕ} (r : Reading s index name old rows n first begun left i k) where
  pub reading_entry : i < n → Entry s index i
  reading_entry h = r.ready.lines.indexed.entries i (omega (arith, r.ready.lines.count))

  -- the file just stops
  pub reading_end : (new : List ℕ) → n ≤ i → ClosesTo s name old new n first begun left (Err (n + 1))
  unfolding ClosesTo outcome
  reading_end new h =
      record {
        decided = λ o e.
            let z : i ≡ n = omega (arith, r.going.inside) in
            r.decided o e
            ∙ ap (nesting_from (i + 1) (inside (name ∷ o) k)) (none_after s i (omega (arith, r.ready.lines.count)))
            ∙ from_none (i + 1) (inside (name ∷ o) k)
            ∙ ap (λ (t : ℕ). bad_line (t + 1)) z;
      }

module _ {s index name old rows l : List ℕ} {n first begun left i k : ℕ} {r : Reading s index name old rows n first begun left i k} {m : NestingStep} (y : Stepped r l m) where
  line_there : i < length (content_lines s)
  line_there = omega (arith, r.ready.lines.count, y.here)

  step_case : (j : NestingStep) → m ≡ j → (o : List (List ℕ)) → length o + left ≡ 8
      → nesting_from (first + 1) (inside (name ∷ o) begun) (lines_after s first)
      ≡ nesting_from (i + 1 + 1) (after_nesting_step j (i + 1) (value_of l) name o k) (lines_after s (i + 1))
  unfolding line_of
  step_case j t o w =
      let x : ContentLine = line_of l in
      let d : length (name ∷ o) + 1 ≡ 10 - left = omega arith in
      r.decided o w
      ∙ ap
      (nesting_from (i + 1) (inside (name ∷ o) k))
      (one_after s i line_there ∙ ap (λ (u : List ℕ). line_of u ∷ lines_after s (i + 1)) (sym y.line))
      ∙ from_next (i + 1) (inside (name ∷ o) k) x (lines_after s (i + 1))
      ∙ ap
      (λ (v : Walk). nesting_from (i + 1 + 1) v (lines_after s (i + 1)))
      (after_step (delimiter_of x) x (i + 1) name o k
      ∙ ap (λ (u : ℕ). after_nesting_step (nesting_step_by (delimiter_of x) x.value name u (k + 1)) (i + 1) x.value name o k) d
      ∙ ap (λ (u : NestingStep). after_nesting_step u (i + 1) x.value name o k) (sym y.step ∙ t))

  line_found : (j : NestingStep) → m ≡ j → is_breaks j ≡ false → LineIs s i (step_delimiter j)
  line_found j t f =
      record { inside = line_there; delimiter = ap (λ (u : List ℕ). delimiter_of (line_of u)) (sym y.line) ∙ delimiter_by _ _ _ _ _ j (sym y.step ∙ t) f }

  pub reading_stays : m ≡ NestingStep.Stays → Reading s index name old rows n first begun left (i + 1) k
  unfolding step_delimiter
  reading_stays t =
      record {
        ready = r.ready;
        going = going_property r.going y.here (line_found NestingStep.Stays t refl);
        decided = step_case NestingStep.Stays t;
      }

  pub reading_closes : m ≡ NestingStep.Closes → ClosesTo s name old rows n first begun left (Ok ((i + 1), k))
  unfolding ClosesTo step_delimiter
  reading_closes t =
      record {
        walks = going_end r.going y.here (line_found NestingStep.Closes t refl);
        decided = step_case NestingStep.Closes t;
      }

  pub reading_breaks : (new : List ℕ) → m ≡ NestingStep.Breaks → ClosesTo s name old new n first begun left (Err (i + 1))
  unfolding ClosesTo
  reading_breaks new t =
      record { decided = λ o w. step_case NestingStep.Breaks t o w ∙ from_broken (i + 1 + 1) (i + 1) (lines_after s (i + 1)) }

  pub reading_opens : m ≡ NestingStep.Opens → {v : List ℕ} → v ≡ value_of l → Opened r v
  unfolding line_of step_delimiter
  reading_opens t {v} g =
      record {
        here = y.here;
        begins = line_found NestingStep.Opens t refl;
        room = opens_room (delimiter_of (line_of l)) (line_of l) name left (k + 1) (sym y.step ∙ t);
        value = g ∙ ap value_of y.line;
        decided = λ o w.
            step_case NestingStep.Opens t o w
            ∙ ap (λ (u : List ℕ). nesting_from (i + 1 + 1) (inside (u ∷ name ∷ o) (k + 1)) (lines_after s (i + 1))) (sym g);
      }

module _ {s index name old rows v : List ℕ} {n first begun left i k : ℕ} {r : Reading s index name old rows n first begun left i k} (x : Opened r v) where
  pub opened_ready : Ready s index rows n (i + 1) (k + 1)
  opened_ready =
      record {
        lines = r.ready.lines;
        many = r.ready.many;
        inside = omega (arith, x.here);
        few = x.room.few;
        room = omega (arith, r.ready.room, r.going.long);
      }

  deeper : (o : List (List ℕ)) → length o + left ≡ 8 → length (name ∷ o) + (left - 1) ≡ 8
  deeper o w = omega (arith, x.room.some)

  pub opened_closes : {new out : List ℕ} {kind : ℕ} {u : Result (ℕ × ℕ) ℕ} → ClosesTo s v rows new n (i + 1) (k + 1) (left - 1) u → (j y : ℕ) → u ≡ Ok (j, y)
      → length new ≡ length rows → length out ≡ length new → kind ≡ kind_of v → RowPut new (4 * k) ((i + 1) ∷ j ∷ y ∷ kind ∷ []) out
      → Reading s index name old out n first begun left j y
  opened_closes c j y f a b e d =
      let z = closes_at j y c f in
      record {
        ready = r.ready;
        going = going_put r.going x.begins z.walks a b (e ∙ ap kind_of x.value) d;
        decided = λ o w. x.decided o w ∙ z.decided (name ∷ o) (deeper o w);
      }

  pub opened_breaks : (new out : List ℕ) {u : Result (ℕ × ℕ) ℕ} → ClosesTo s v rows new n (i + 1) (k + 1) (left - 1) u → (b : ℕ) → u ≡ Err b
      → ClosesTo s name old out n first begun left (Err b)
  unfolding ClosesTo
  opened_breaks new out c b f =
      let z = breaks_at rows new n b c f in record { decided = λ o w. x.decided o w ∙ z.decided (name ∷ o) (deeper o w) }

  -- what is known of the row before it is written
  pub opened_row : (new : List ℕ) {u : Result (ℕ × ℕ) ℕ} → ClosesTo s v rows new n (i + 1) (k + 1) (left - 1) u → (j y : ℕ) → u ≡ Ok (j, y)
      → length new ≡ length rows → (4 * k + 4 ≤ length new) × (i < j) × (j ≤ n) × (y ≤ 256)
  opened_row new c j y f a =
      let w = (closes_at j y c f).walks in
      (inner_room r.going x.begins w a r.ready.room, inner_onward r.going x.begins w, w.inside, w.few)

-- ---- the whole file

from_start : (s : List ℕ) → nesting_in s ≡ nesting_from 1 start (lines_after s 0)
unfolding nesting_in nesting_from nesting_of lines_after
from_start s =
    let xs = map line_of (content_lines s) in
    let n : length xs + 1 ≡ 1 + length xs = omega arith in
    ap (λ (j : ℕ). outcome j (walk 1 start xs)) n

after_start : (m : Delimiter) (i : ℕ) (x : ContentLine) → after_delimiter m i x start ≡ cond (begins_by m x.value) (inside (x.value ∷ []) 1) (broken i)
unfolding after_begin after_end after_property after_wrong
after_start Begins i x = refl
after_start Ends i x = refl
after_start Property i x = refl
after_start Wrong i x = refl

begins_delimiter : (m : Delimiter) (v : List ℕ) → begins_by m v ≡ true → m ≡ Begins
begins_delimiter Begins v e = refl
begins_delimiter Ends v e = clash e refl
begins_delimiter Property v e = clash e refl
begins_delimiter Wrong v e = clash e refl

closed_more : (s : List ℕ) (j : ℕ) → j < length (content_lines s) → nesting_from (j + 1) closed (lines_after s j) ≡ bad_line (j + 1)
closed_more s j h =
    let x : ContentLine = line_of (line_bytes s j) in
    ap (nesting_from (j + 1) closed) (one_after s j h)
    ∙ from_next (j + 1) closed x (lines_after s (j + 1))
    ∙ ap (λ (w : Walk). nesting_from (j + 1 + 1) w (lines_after s (j + 1))) (after_closed (delimiter_of x) (j + 1) x)
    ∙ from_broken (j + 1 + 1) (j + 1) (lines_after s (j + 1))

closed_end : (s : List ℕ) (j : ℕ) → length (content_lines s) ≤ j → nesting_from (j + 1) closed (lines_after s j) ≡ all_good
unfolding outcome
closed_end s j h = ap (nesting_from (j + 1) closed) (none_after s j h) ∙ from_none (j + 1) closed

-- no line is left, so no item is
pub items_none : (s : List ℕ) (j : ℕ) → length (content_lines s) ≤ j → items_by s j ≡ none
unfolding items_by delimited_by items_of delimited_from
items_none s j h = ap (λ (xs : List ContentLine). items_of 0 (delimited_from (j + 1) xs)) (none_after s j h)

-- ---- what the structure is

good_by : (c : LineCheck) (k : LineCheck) → c ≡ all_good → k ≡ all_good → Ok tt ≡ structure_by c k
unfolding structure_by
good_by c k p q = rw (p, q)

nesting_by : (c : LineCheck) (k : LineCheck) (b : ℕ) → c ≡ all_good → k ≡ bad_line b → Err (StructureError.BadNesting b) ≡ structure_by c k
unfolding structure_by
nesting_by c k b p q = rw (p, q)

line_by : (c : LineCheck) (k : LineCheck) (b : ℕ) → bad_line b ≡ c → Err (StructureError.BadLine b) ≡ structure_by c k
unfolding structure_by
line_by c k b p = rw (sym p)

abbrev is_good : Result (Unit {0}) StructureError → Bool
is_good (Ok _) = true
is_good (Err (StructureError.BadLine n)) = false
is_good (Err (StructureError.BadNesting n)) = false

not_good : {A : Type 0} (r : Result (Unit {0}) StructureError) → is_good r ≡ false → r ≡ Ok tt → A
not_good r f e = clash (ap is_good e) f

file_breaks : {s index : List ℕ} (rows : List ℕ) {n : ℕ} (b : ℕ) → Lines s index n → nesting_in s ≡ bad_line b
    → StructureRead s index rows (Err (StructureError.BadNesting b))
file_breaks {s} rows b v q =
    record { structure_is = nesting_by (line_check s) (nesting_in s) b v.indexed.good q; known = not_good (Err (StructureError.BadNesting b)) refl }

pub file_empty : {s index : List ℕ} (rows : List ℕ) {n : ℕ} → Lines s index n → n ≡ 0 → StructureRead s index rows (Err (StructureError.BadNesting 1))
unfolding outcome
file_empty {s} rows v z =
    file_breaks rows 1 v (from_start s ∙ ap (nesting_from 1 start) (none_after s 0 (omega (arith, v.count))) ∙ from_none 1 start)

pub file_bad_line : {s : List ℕ} (index new rows : List ℕ) {r : Result ℕ IndexError} (b : ℕ) → FilledBy s index r → r ≡ Err (IndexError.BadLine b)
    → StructureRead s new rows (Err (StructureError.BadLine b))
unfolding FilledBy
file_bad_line {s} index new rows b h q =
    record { structure_is = line_by (line_check s) (nesting_in s) b (subst (FilledBy s index) q h); known = not_good (Err (StructureError.BadLine b)) refl }

-- the first of the lines begins VCALENDAR, and v is its value
pub record Begun {s index : List ℕ} {n : ℕ} (a : Lines s index n) (v : List ℕ) : Type 0 where
  pub small : length s ≤ 65536
  pub begins : LineIs s 0 Begins
  pub value : v ≡ value_of (line_bytes s 0)
  pub decided : nesting_in s ≡ nesting_from 2 (inside (v ∷ []) 1) (lines_after s 1)

module _ {s index : List ℕ} {n : ℕ} (a : Lines s index n) (small : length s ≤ 65536) (h : n ≡ 0 → ⊥) where
  pub file_entry : Entry s index 0
  file_entry = a.indexed.entries 0 (omega (arith, a.count))

  pub file_ready : (rows : List ℕ) → length rows ≡ 1024 → Ready s index rows n 1 1
  file_ready rows o = record { lines = a; many = omega (arith, a.few); inside = omega arith; few = omega arith; room = o }

  module _ {l : List ℕ} (p : l ≡ line_bytes s 0) {t : Bool} (q : t ≡ begins_calendar (line_of l)) where
    first_line : nesting_in s ≡ nesting_from 2 (cond t (inside (value_of l ∷ []) 1) (broken 1)) (lines_after s 1)
    unfolding begins_calendar line_of
    first_line =
        from_start s
        ∙ ap
        (nesting_from 1 start)
        (one_after s 0 (omega (arith, a.count)) ∙ ap (λ (y : List ℕ). line_of y ∷ lines_after s 1) (sym p))
        ∙ from_next 1 start (line_of l) (lines_after s 1)
        ∙ ap
        (λ (w : Walk). nesting_from 2 w (lines_after s 1))
        (after_start (delimiter_of (line_of l)) 1 (line_of l) ∙ ap (λ (u : Bool). cond u (inside (value_of l ∷ []) 1) (broken 1)) (sym q))

    pub file_other : (rows : List ℕ) → t ≡ false → StructureRead s index rows (Err (StructureError.BadNesting 1))
    file_other rows e =
        file_breaks rows 1 a
        (first_line
        ∙ ap (λ (u : Bool). nesting_from 2 (cond u (inside (value_of l ∷ []) 1) (broken 1)) (lines_after s 1)) e
        ∙ from_broken 2 1 (lines_after s 1))

    pub file_begun : t ≡ true → {v : List ℕ} → v ≡ value_of l → Begun a v
    unfolding begins_calendar
    file_begun e {v} g =
        record {
          small = small;
          begins =
              record {
                inside = omega (arith, a.count);
                delimiter =
                    ap (λ (z : List ℕ). delimiter_of (line_of z)) (sym p) ∙ begins_delimiter (delimiter_of (line_of l)) (line_of l).value (sym q ∙ e);
              };
          value = g ∙ ap value_of p;
          decided =
              first_line
              ∙ ap (λ (u : Bool). nesting_from 2 (cond u (inside (value_of l ∷ []) 1) (broken 1)) (lines_after s 1)) e
              ∙ ap (λ (u : List ℕ). nesting_from 2 (inside (u ∷ []) 1) (lines_after s 1)) (sym g);
        }

module _ {s index v : List ℕ} {n : ℕ} {a : Lines s index n} (x : Begun a v) (rows new : List ℕ) {u : Result (ℕ × ℕ) ℕ} (c : ClosesTo s v rows new n 1 1 8 u) where
  pub file_inner : (out : List ℕ) (b : ℕ) → u ≡ Err b → StructureRead s index out (Err (StructureError.BadNesting b))
  file_inner out b f = file_breaks out b a (x.decided ∙ (breaks_at rows new n b c f).decided [] refl)

  pub file_more : (out : List ℕ) (j m : ℕ) → u ≡ Ok (j, m) → j < n → StructureRead s index out (Err (StructureError.BadNesting (j + 1)))
  file_more out j m f k =
      file_breaks out (j + 1) a (x.decided ∙ (closes_at j m c f).decided [] refl ∙ closed_more s j (omega (arith, a.count)))

  pub file_last : (j m : ℕ) → u ≡ Ok (j, m) → (j ≤ n) × (m ≤ 256)
  file_last j m f = let w = (closes_at j m c f).walks in (w.inside, w.few)

  file_items : (out : List ℕ) (j m kind : ℕ) → (f : u ≡ Ok (j, m)) → n ≤ j → kind ≡ kind_of v → RowPut new 0 (1 ∷ j ∷ m ∷ kind ∷ []) out
      → ItemRows s out 0 0 n m
  file_items out j m kind f k d o =
      let w = (closes_at j m c f).walks in
      let y : w.stop + 1 ≡ n = omega (arith, w.behind, w.inside) in
      with_component
      x.begins
      (record {
        begin = o.here 0 (omega arith);
        end = o.here 1 (omega arith) ∙ w.behind;
        next = o.here 2 (omega arith);
        kind = o.here 3 (omega arith) ∙ d ∙ ap kind_of x.value;
      })
      (rows_kept out w.items (λ b r i. o.behind b (omega arith)))
      w.closes
      (subst (λ (b : ℕ). ItemRows s out (w.stop + 1) m b m) y nothing)

  pub file_good : (out : List ℕ) (j m kind : ℕ) → u ≡ Ok (j, m) → n ≤ j → kind ≡ kind_of v → RowPut new 0 (1 ∷ j ∷ m ∷ kind ∷ []) out
      → length out ≡ 1024 → StructureRead s index out (Ok tt)
  file_good out j m kind f k d o size =
      let z = closes_at j m c f in
      let y : get_or out 2 0 ≡ m = o.here 2 (omega arith) in
      record {
        structure_is =
            good_by (line_check s) (nesting_in s) a.indexed.good (x.decided ∙ z.decided [] refl ∙ closed_end s j (omega (arith, a.count)));
        known = λ r.
            record {
              indexed = a.indexed;
              lines = n;
              top = rw y
                  (record {
                    items = file_items out j m kind f k d o;
                    none_left = items_none s n (omega (arith, a.count));
                    few = z.walks.few;
                    room = omega (arith, z.walks.few);
                    inside = omega (arith, a.few);
                  });
              nested = x.decided ∙ z.decided [] refl ∙ closed_end s j (omega (arith, a.count));
              first = o.here 0 (omega arith);
              some = omega (arith, y, rows_rise z.walks.items);
            };
      }

-- ---- what a caller learns of an index that may be too short

module _ (s index rows : List ℕ) {r : Option (Result (Unit {0}) StructureError)} (h : FoundBy s index rows r) where
  pub found_structure : {x : Result (Unit {0}) StructureError} → r ≡ Some x → StructureRead s index rows x
  unfolding FoundBy
  found_structure q = subst (FoundBy s index rows) q h

  pub found_full : r ≡ None → 4 * length index ≤ length s
  unfolding FoundBy
  found_full q = subst (FoundBy s index rows) q h
