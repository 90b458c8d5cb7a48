-- How nesting and rows are read: one walk over the line numbers of an index.
use Rattle.std.specs.Prelude.{ℕ, ◌+◌, ◌*◌, ◌≤◌, ◌<◌, ◌≡◌, List, ◌∷◌, length, get_or, Err, None, Ok, Option, Result, Some}
use Rattle.nesting.specs.declared.StructureError.{StructureError}
use Rattle.line.specs.WellFormed.{line_check, bad_line}
use Rattle.delimiters.specs.declared.Delimiter.TheVariants.{Ends}
use Rattle.nesting.specs.Nesting.{inside, outside}
use Rattle.nesting.specs.Files.{nesting_from, nesting_in, structure_by}
use Rattle.index.specs.Index.{Lines}
use Rattle.structure.specs.Rows.{lines_after, LineIs, ItemRows, FileRows}

-- the walk stands at line `first`, and `begun` components have begun
pub record Ready (s index rows : List ℕ) (n first begun : ℕ) : Type 0 where
  pub lines : Lines s index n
  pub many : n ≤ 16384
  pub inside : first ≤ n
  pub few : begun ≤ 256
  pub room : length rows ≡ 1024

-- the component whose lines begin at `first` ends before line j; the rows of those in it, from row `begun` up to m, were written, and those before are as they were
pub record Walks (s old new : List ℕ) (n first begun j m : ℕ) : Type 0 where
  pub stop : ℕ
  pub behind : j ≡ stop + 1
  pub inside : j ≤ n
  pub few : m ≤ 256
  pub items : ItemRows s new first begun stop m
  pub closes : LineIs s stop Ends
  pub kept : (p : ℕ) → p < 4 * begun → get_or new p 0 ≡ get_or old p 0

-- and, whatever is open around it, the file's outcome is decided by the lines from there on
pub record Closes (s name old new : List ℕ) (n first begun left j m : ℕ) : Type 0 where
  pub walks : Walks s old new n first begun j m
  pub decided : (o : List (List ℕ)) → length o + left ≡ 8
      → nesting_from (first + 1) (inside (name ∷ o) begun) (lines_after s first) ≡ nesting_from (j + 1) (outside o m) (lines_after s j)

-- the file breaks at line b, counted from 1, before the component ends, whatever is open around it
pub record Breaks (s name : List ℕ) (first begun left b : ℕ) : Type 0 where
  pub decided : (o : List (List ℕ)) → length o + left ≡ 8 → nesting_from (first + 1) (inside (name ∷ o) begun) (lines_after s first) ≡ bad_line b

-- what reading a component answers
unfoldable pub ClosesTo : List ℕ → List ℕ → List ℕ → List ℕ → ℕ → ℕ → ℕ → ℕ → Result (ℕ × ℕ) ℕ → Type 0
ClosesTo s name old new n first begun left (Ok (j, m)) = Closes s name old new n first begun left j m
ClosesTo s name old new n first begun left (Err b) = Breaks s name first begun left b

-- what reading the structure answers: the first badly formed line, else the line that breaks the nesting, else index and rows know the file
pub record StructureRead (s index rows : List ℕ) (r : Result (Unit {0}) StructureError) : Type 0 where
  pub structure_is : r ≡ structure_by (line_check s) (nesting_in s)
  pub known : r ≡ Ok tt → FileRows s index rows

-- the same with an index that may be too short, and then has room for too few bytes
unfoldable pub FoundBy : List ℕ → List ℕ → List ℕ → Option (Result (Unit {0}) StructureError) → Type 0
FoundBy s index rows (Some x) = StructureRead s index rows x
FoundBy s index rows None = 4 * length index ≤ length s
