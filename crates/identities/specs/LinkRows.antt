-- What ties an event to others as a row of eight numbers: the row of it, and what a row says.
use Rattle.std.specs.Prelude.{ℕ, ◌+◌, ◌*◌, ◌≤◌, ◌<◌, ◌≡◌, cond, List, [], ◌∷◌, eqb, get_or}
use Rattle.time.specs.declared.date_time.Kind.{Kind}
use Rattle.values.specs.declared.time_lists.Kinds.{Kinds}
use Rattle.values.specs.declared.given.Given.{Given}
use Rattle.identities.specs.declared.RecurrenceId.{RecurrenceId}
use Rattle.identities.specs.declared.rows.Link.{Link}

-- ---- what a row of 32-bit numbers can hold

abbrev pub UidSmall : Given ℕ → Type 0
UidSmall Given.None = Unit {0}
UidSmall (Given.One n) = n < 4294967296
UidSmall Given.Several = Unit {0}

abbrev pub RecurrenceSmall : Given RecurrenceId → Type 0
RecurrenceSmall Given.None = Unit {0}
RecurrenceSmall (Given.One t) = t.second < 4294967296
RecurrenceSmall Given.Several = Unit {0}

pub record LinkSmall (l : Link) : Type 0 where
  pub uid_small : UidSmall l.uid
  pub recurrence_small : RecurrenceSmall l.recurrence
  pub from_small : l.from < 4294967296
  pub to_small : l.to < 4294967296

-- ---- as numbers

unfoldable pub kind_tag : Kind → ℕ
kind_tag Kind.Utc = 1
kind_tag Kind.Floating = 2
kind_tag Kind.Date = 3

-- 0 where there is no time, 1 to 3 the kind of all, 4 where they have several
unfoldable pub kinds_tag : Kinds → ℕ
kinds_tag Kinds.None = 0
kinds_tag (Kinds.One k) = kind_tag k
kinds_tag Kinds.Several = 4

-- whether it is given, and its line
unfoldable pub uid_numbers : Given ℕ → ℕ × ℕ
uid_numbers Given.None = (0, 0)
uid_numbers (Given.One n) = (1, n)
uid_numbers Given.Several = (2, 0)

-- 0 where none is given, 1 to 3 the kind of one, 4 where there are several; and the second of one
unfoldable pub recurrence_numbers : Given RecurrenceId → ℕ × ℕ
recurrence_numbers Given.None = (0, 0)
recurrence_numbers (Given.One t) = (kind_tag t.kind, t.second)
recurrence_numbers Given.Several = (4, 0)

-- the row of a link
unfoldable pub link_row : Link → List ℕ
link_row l =
    (uid_numbers l.uid).0
    ∷ (uid_numbers l.uid).1
    ∷ (recurrence_numbers l.recurrence).0
    ∷ (recurrence_numbers l.recurrence).1
    ∷ kinds_tag l.kinds
    ∷ l.from
    ∷ l.to
    ∷ cond l.broken 1 0
    ∷ []

-- ---- by its numbers

unfoldable pub kind_of : ℕ → Kind
kind_of tag = cond (eqb tag 1) Kind.Utc (cond (eqb tag 2) Kind.Floating Kind.Date)

unfoldable pub kinds_of : ℕ → Kinds
kinds_of tag = cond (eqb tag 0) Kinds.None (cond (eqb tag 4) Kinds.Several (Kinds.One (kind_of tag)))

unfoldable pub uid_of : ℕ → ℕ → Given ℕ
uid_of tag number = cond (eqb tag 0) Given.None (cond (eqb tag 1) (Given.One number) Given.Several)

unfoldable pub recurrence_of : ℕ → ℕ → Given RecurrenceId
recurrence_of tag number =
    cond (eqb tag 0) Given.None
    (cond (eqb tag 4) Given.Several (Given.One (record { kind = kind_of tag; second = number })))

-- ---- in a column

-- the link of row k
unfoldable pub link_at : List ℕ → ℕ → Link
link_at links k =
    record {
      uid = uid_of (get_or links (8 * k) 0) (get_or links (8 * k + 1) 0);
      recurrence = recurrence_of (get_or links (8 * k + 2) 0) (get_or links (8 * k + 3) 0);
      kinds = kinds_of (get_or links (8 * k + 4) 0);
      from = get_or links (8 * k + 5) 0;
      to = get_or links (8 * k + 6) 0;
      broken = eqb (get_or links (8 * k + 7) 0) 1;
    }

-- row k of the column became this row, and all other numbers are as they were
pub record LinkPut (old : List ℕ) (k : ℕ) (row new : List ℕ) : Type 0 where
  pub here : (p : ℕ) → p < 8 → get_or new (8 * k + p) 0 ≡ get_or row p 0
  pub before : (p : ℕ) → p < 8 * k → get_or new p 0 ≡ get_or old p 0
  pub behind : (p : ℕ) → 8 * k + 8 ≤ p → get_or new p 0 ≡ get_or old p 0
