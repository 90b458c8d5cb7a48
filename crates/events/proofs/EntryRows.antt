-- Laws of events and blocks as rows: how a row is written, that a row says what it was made of, and that other rows stay.
use Rattle.std.specs.Prelude.{None, Option, Some}
use Rattle.std.specs.Bool.{then_some}
use Prim.Native.Nat.{ℕ, ◌+◌, ◌*◌, ◌≤◌, ◌<◌}
use mathlib.Core.Path.{◌≡◌, refl, subst, ◌∙◌}
use mathlib.Core.Bool.{Bool, true, false, cond}
use mir.Val.{bool_byte}
use mathlib.Core.List.{List, [], ◌∷◌}
use native.Mathlib.Omega.{arith}
use native.Mathlib.Nat.{add-zero, zero-add}
use lib.Dec.{eqb, ltb}
use lib.ListN.{length, take, drop, get_or, length-take, length-drop}
use borrow.Author.Tests.{ltb-true, ltb-false}
use borrow.Rule.Slice.PartMut.{put_mid}
use Rattle.std.proofs.lemmas.List.{places}
use Rattle.time.specs.declared.date_time.Kind.{Kind}
use Rattle.time.specs.declared.duration.Duration.{Duration}
use Rattle.periods.specs.declared.BusyType.{BusyType}
use Rattle.periods.specs.BusyTypes.{report_place}
use Rattle.events.specs.Events.{kind_number}
use Rattle.events.specs.EntryRows.{ending_numbers, repeat_numbers, bound_numbers, kind_of, ending_of, repeat_of, busy_of, bound_of}
use Rattle.events.specs.EntryRows.{event_row, block_row, event_at, block_at, EntryPut}
use Rattle.events.specs.declared.Ending.{Ending}
use Rattle.events.specs.declared.Repeat.{Repeat}
use Rattle.events.specs.declared.Event.{Event}
use Rattle.events.specs.declared.Block.{Block}
use Rattle.events.specs.declared.rows.EndingNumbers.{EndingNumbers}
use Rattle.events.specs.declared.rows.TaggedNumber.{TaggedNumber}

-- ---- writing a row

-- the row stands in the part that it was copied to
pub row_put : (old : List ℕ) (k n : ℕ) (row part : List ℕ) → n ≡ 12 → 12 * k + 12 ≤ length old → length part ≡ length (take n (drop (12 * k) old)) → part ≡ row
    → EntryPut old k row (put_mid (12 * k) n old part)
row_put old k n row part w h l e =
    let whole : length part ≡ 12 = omega (arith, length-take n (drop (12 * k) old), length-drop (12 * k) old) in
    rw (← e)
    (record {
      here = λ p q. grind (arith, places);
      before = λ p q. grind (arith, places);
      behind = λ p q. grind (arith, places);
    })

-- ---- other rows

-- row j is as it was
row_kept : {old row new : List ℕ} {k : ℕ} (j : ℕ) → EntryPut old k row new → (j ≡ k → ⊥) → (p : ℕ) → p < 12
    → get_or new (12 * j + p) 0 ≡ get_or old (12 * j + p) 0
row_kept {old} {row} {new} {k} j w d p h = go (ltb j k) refl
  where
    go : (t : Bool) → ltb j k ≡ t → get_or new (12 * j + p) 0 ≡ get_or old (12 * j + p) 0
    go true q = w.before (12 * j + p) (omega (arith, ltb-true))
    go false q =
        let z : k < j = omega (arith, ltb-false j k q, d) in
        w.behind (12 * j + p) (omega arith)

-- ---- what is put is the row of the event, or of the block

-- a bool cast to a number is 1 or 0
bit : (b : Bool) → bool_byte b ≡ cond b 1 0
bit true = refl
bit false = refl

-- what is made of a duration is its clause of the definition
pub lasts_numbers : (d : Duration) {x : Ending} → x ≡ Ending.Lasts d
    → ◌≡◌ {A = EndingNumbers} (record { tag = 1; number = d.days; seconds = d.seconds; timed = bool_byte d.timed }) (ending_numbers x)
unfolding ending_numbers
lasts_numbers d q = rw (q, bit d.timed) refl

-- a value where a test holds
pub given_then : (t : Bool) (n : ℕ) → then_some t n ≡ cond t (Some n) None
given_then true n = refl
given_then false n = refl

module _ (e : Event) {kind place : ℕ} {ends : EndingNumbers} {repeats : TaggedNumber} (a : kind ≡ kind_number e.kind) (b : ends ≡ ending_numbers e.ending)
    (c : repeats ≡ repeat_numbers e.repeat) (d : place ≡ report_place e.busy) where
  pub event_numbers : kind ∷ e.start ∷ ends.tag ∷ ends.number ∷ ends.seconds ∷ ends.timed ∷ e.days ∷ e.interval ∷ repeats.tag ∷ repeats.number ∷ place ∷ 0 ∷ []
      ≡ event_row e
  unfolding event_row
  event_numbers = rw (a, b, c, d) refl

pub block_numbers : (x : Block) {from to : TaggedNumber} → from ≡ bound_numbers x.start → to ≡ bound_numbers x.end
    → from.tag ∷ from.number ∷ to.tag ∷ to.number ∷ 0 ∷ 0 ∷ 0 ∷ 0 ∷ 0 ∷ 0 ∷ 0 ∷ 0 ∷ [] ≡ block_row x
unfolding block_row
block_numbers x a b = rw (a, b) refl

-- the same of an equal row
pub put_as : {old row right new : List ℕ} {k : ℕ} → EntryPut old k row new → row ≡ right → EntryPut old k right new
put_as {old} {row} {right} {new} {k} w q = subst (λ (x : List ℕ). EntryPut old k x new) q w

-- ---- a row alone decides

-- row j of one column is row k of the other
abbrev SameRow : List ℕ → ℕ → List ℕ → ℕ → Type 0
SameRow a j b k = (p : ℕ) → p < 12 → get_or a (12 * j + p) 0 ≡ get_or b (12 * k + p) 0

same_first : (a : List ℕ) (j : ℕ) (b : List ℕ) (k : ℕ) → SameRow a j b k → get_or a (12 * j) 0 ≡ get_or b (12 * k) 0
same_first a j b k s = simp add-zero at (s 0 (omega arith))

-- the row that was put is that of the column
row_here : (old : List ℕ) (k : ℕ) (row new : List ℕ) → EntryPut old k row new → SameRow new k row 0
row_here old k row new w p h = rw (zero-add p) (w.here p h)

event_same : (a : List ℕ) (j : ℕ) (b : List ℕ) (k : ℕ) → SameRow a j b k → event_at a j ≡ event_at b k
unfolding event_at
event_same a j b k s =
    rw (
      same_first a j b k s,
      s 1 (omega arith),
      s 2 (omega arith),
      s 3 (omega arith),
      s 4 (omega arith),
      s 5 (omega arith),
      s 6 (omega arith),
      s 7 (omega arith),
      s 8 (omega arith),
      s 9 (omega arith),
      s 10 (omega arith),
    )
    refl

block_same : (a : List ℕ) (j : ℕ) (b : List ℕ) (k : ℕ) → SameRow a j b k → block_at a j ≡ block_at b k
unfolding block_at
block_same a j b k s =
    rw (same_first a j b k s, s 1 (omega arith), s 2 (omega arith), s 3 (omega arith)) refl

-- ---- numbers read as what they were made of

pub kind_back : (x : Kind) → kind_of (kind_number x) ≡ x
unfolding kind_of kind_number
kind_back Kind.Utc = refl
kind_back Kind.Floating = refl
kind_back Kind.Date = refl

ending_back : (x : Ending) → ending_of (ending_numbers x).tag (ending_numbers x).number (ending_numbers x).seconds (ending_numbers x).timed ≡ x
unfolding ending_of ending_numbers
ending_back (Ending.End t) = refl
ending_back (Ending.Lasts d) = go d.timed refl
  where
    go : (t : Bool) → d.timed ≡ t → Ending.Lasts (record { days = d.days; seconds = d.seconds; timed = eqb (cond d.timed 1 0) 1 }) ≡ Ending.Lasts d
    go true q = rw q refl
    go false q = rw q refl
ending_back Ending.None = refl

repeat_back : (x : Repeat) → repeat_of (repeat_numbers x).tag (repeat_numbers x).number ≡ x
unfolding repeat_of repeat_numbers
repeat_back Repeat.Once = refl
repeat_back Repeat.Forever = refl
repeat_back (Repeat.Count n) = refl
repeat_back (Repeat.Until t) = refl

busy_back : (x : BusyType) → busy_of (report_place x) ≡ x
unfolding busy_of report_place
busy_back BusyType.Free = refl
busy_back BusyType.Busy = refl
busy_back BusyType.Tentative = refl
busy_back BusyType.Unavailable = refl

bound_back : (x : Option ℕ) → bound_of (bound_numbers x).tag (bound_numbers x).number ≡ x
unfolding bound_of bound_numbers
bound_back (Some t) = refl
bound_back None = refl

event_back : (e : Event) → event_at (event_row e) 0 ≡ e
unfolding event_at event_row
event_back e = rw (kind_back e.kind, ending_back e.ending, repeat_back e.repeat, busy_back e.busy) refl

block_back : (b : Block) → block_at (block_row b) 0 ≡ b
unfolding block_at block_row
block_back b = rw (bound_back b.start, bound_back b.end) refl

-- ---- what a caller learns

pub event_put : {old new : List ℕ} {k : ℕ} (e : Event) → EntryPut old k (event_row e) new → event_at new k ≡ e
event_put {old} {new} {k} e w = event_same new k (event_row e) 0 (row_here old k (event_row e) new w) ∙ event_back e

pub block_put : {old new : List ℕ} {k : ℕ} (b : Block) → EntryPut old k (block_row b) new → block_at new k ≡ b
block_put {old} {new} {k} b w = block_same new k (block_row b) 0 (row_here old k (block_row b) new w) ∙ block_back b

pub event_kept : {old row new : List ℕ} {k : ℕ} (j : ℕ) → EntryPut old k row new → (j ≡ k → ⊥) → event_at new j ≡ event_at old j
event_kept {old} {row} {new} {k} j w d = event_same new j old j (row_kept j w d)

pub block_kept : {old row new : List ℕ} {k : ℕ} (j : ℕ) → EntryPut old k row new → (j ≡ k → ⊥) → block_at new j ≡ block_at old j
block_kept {old} {row} {new} {k} j w d = block_same new j old j (row_kept j w d)
