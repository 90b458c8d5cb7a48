-- Laws of what ties an event to others as rows: how a row is written, that a row says what it was made of, and that other rows stay.
use Prim.Native.Nat.{ℕ, ◌+◌, ◌*◌, ◌≤◌, ◌<◌}
use mathlib.Core.Path.{◌≡◌, refl, subst, ◌∙◌}
use mathlib.Core.Bool.{Bool, true, false, cond}
use mathlib.Core.List.{List, [], ◌∷◌}
use mir.Val.{bool_byte}
use native.Mathlib.Omega.{arith}
use native.Mathlib.Nat.{add-zero, zero-add}
use lib.Dec.{eqb, ltb}
use lib.ListN.{get_or}
use borrow.Author.Tests.{ltb-true, ltb-false}
use Rattle.time.specs.declared.date_time.Kind.{Kind}
use Rattle.values.specs.declared.time_lists.Kinds.{Kinds}
use Rattle.identities.specs.LinkRows.{kind_tag, kinds_tag, uid_numbers, recurrence_numbers, kind_of, kinds_of, uid_of, recurrence_of}
use Rattle.identities.specs.LinkRows.{link_row, link_at, LinkPut}
use Rattle.values.specs.declared.given.Given.{Given}
use Rattle.identities.specs.declared.RecurrenceId.{RecurrenceId}
use Rattle.identities.specs.declared.rows.Link.{Link}

-- ---- writing a row

-- a bool cast to a number is 1 or 0
bit : (b : Bool) → bool_byte b ≡ cond b 1 0
bit true = refl
bit false = refl

module _ (l : Link) {by at : ℕ × ℕ} {tag : ℕ} (a : by ≡ uid_numbers l.uid) (b : at ≡ recurrence_numbers l.recurrence)
    (c : tag ≡ kinds_tag l.kinds) where
  link_numbers : by.0 ∷ by.1 ∷ at.0 ∷ at.1 ∷ tag ∷ l.from ∷ l.to ∷ bool_byte l.broken ∷ [] ≡ link_row l
  unfolding link_row
  link_numbers = rw (a, b, c, bit l.broken) refl

  -- what is put is the row of the link
  pub put_as : {old new : List ℕ} {k : ℕ}
      → LinkPut old k (by.0 ∷ by.1 ∷ at.0 ∷ at.1 ∷ tag ∷ l.from ∷ l.to ∷ bool_byte l.broken ∷ []) new
      → LinkPut old k (link_row l) new
  put_as {old} {new} {k} w = subst (λ (x : List ℕ). LinkPut old k x new) link_numbers w

-- ---- a row alone decides

-- row j of one column is row k of the other
abbrev SameRow : List ℕ → ℕ → List ℕ → ℕ → Type 0
SameRow a j b k = (p : ℕ) → p < 8 → get_or a (8 * j + p) 0 ≡ get_or b (8 * k + p) 0

link_same : (a : List ℕ) (j : ℕ) (b : List ℕ) (k : ℕ) → SameRow a j b k → link_at a j ≡ link_at b k
unfolding link_at
link_same a j b k s =
    let z : get_or a (8 * j) 0 ≡ get_or b (8 * k) 0 = simp add-zero at (s 0 (omega arith)) in
    rw (
      z,
      s 1 (omega arith),
      s 2 (omega arith),
      s 3 (omega arith),
      s 4 (omega arith),
      s 5 (omega arith),
      s 6 (omega arith),
      s 7 (omega arith),
    )
    refl

-- ---- numbers read as what they were made of

kind_back : (x : Kind) → kind_of (kind_tag x) ≡ x
unfolding kind_of kind_tag
kind_back Kind.Utc = refl
kind_back Kind.Floating = refl
kind_back Kind.Date = refl

-- no kind is told as none or as several
kind_none : (x : Kind) → eqb (kind_tag x) 0 ≡ false
unfolding kind_tag
kind_none Kind.Utc = refl
kind_none Kind.Floating = refl
kind_none Kind.Date = refl

kind_several : (x : Kind) → eqb (kind_tag x) 4 ≡ false
unfolding kind_tag
kind_several Kind.Utc = refl
kind_several Kind.Floating = refl
kind_several Kind.Date = refl

kinds_back : (x : Kinds) → kinds_of (kinds_tag x) ≡ x
unfolding kinds_of kinds_tag
kinds_back Kinds.None = refl
kinds_back (Kinds.One k) = rw (kind_none k, kind_several k, kind_back k) refl
kinds_back Kinds.Several = refl

uid_back : (x : Given ℕ) → uid_of (uid_numbers x).0 (uid_numbers x).1 ≡ x
unfolding uid_of uid_numbers
uid_back Given.None = refl
uid_back (Given.One n) = refl
uid_back Given.Several = refl

recurrence_back : (x : Given RecurrenceId) → recurrence_of (recurrence_numbers x).0 (recurrence_numbers x).1 ≡ x
unfolding recurrence_of recurrence_numbers
recurrence_back Given.None = refl
recurrence_back (Given.One t) = rw (kind_none t.kind, kind_several t.kind, kind_back t.kind) refl
recurrence_back Given.Several = refl

bit_back : (b : Bool) → eqb (cond b 1 0) 1 ≡ b
bit_back true = refl
bit_back false = refl

link_back : (l : Link) → link_at (link_row l) 0 ≡ l
unfolding link_at link_row
link_back l = rw (uid_back l.uid, recurrence_back l.recurrence, kinds_back l.kinds, bit_back l.broken) refl

-- ---- what a caller learns

pub link_put : {old new : List ℕ} {k : ℕ} (l : Link) → LinkPut old k (link_row l) new → link_at new k ≡ l
link_put {old} {new} {k} l w = link_same new k (link_row l) 0 (λ p h. rw (zero-add p) (w.here p h)) ∙ link_back l

-- row j is as it was
row_kept : {old row new : List ℕ} {k : ℕ} (j : ℕ) → LinkPut old k row new → (j ≡ k → ⊥) → SameRow new j old j
row_kept {old} {row} {new} {k} j w d p h = go (ltb j k) refl
  where
    go : (t : Bool) → ltb j k ≡ t → get_or new (8 * j + p) 0 ≡ get_or old (8 * j + p) 0
    go true q = w.before (8 * j + p) (omega (arith, ltb-true))
    go false q =
        let z : k ≤ j = ltb-false j k q in
        w.behind (8 * j + p) (omega arith)

pub link_kept : {old row new : List ℕ} {k : ℕ} (j : ℕ) → LinkPut old k row new → (j ≡ k → ⊥) → link_at new j ≡ link_at old j
link_kept {old} {row} {new} {k} j w d = link_same new j old j (row_kept j w d)
