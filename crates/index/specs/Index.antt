-- The index of lines: where each line of a file starts and how long its name is, and behind the last where the file ends. Lines are counted from 0.
use Rattle.std.specs.Prelude.{ℕ, ◌+◌, ◌-◌, ◌*◌, ◌/◌, ◌%◌, ◌≤◌, ◌<◌, ◌≡◌, true, List, [], length, drop, get_or, Err, Ok, Result}
use Rattle.index.specs.declared.IndexError.{IndexError}
use Rattle.text.specs.Lines.{line, cut, part, content_lines}
use Rattle.line.specs.Scanner.{is_well_formed}
use Rattle.line.specs.Reading.{name_of}
use Rattle.line.specs.WellFormed.{line_check, all_good, bad_line}

-- line i of a file; no bytes, where there are not so many lines
unfoldable pub line_bytes : List ℕ → ℕ → List ℕ
line_bytes s i = get_or (content_lines s) i []

-- line i starts at place a, and the line after it at place b
pub record Between (s : List ℕ) (i a b : ℕ) : Type 0 where
  pub order : a + 4 ≤ b
  pub inside : b ≤ length s
  pub good : is_well_formed (part s a (b - 2)) ≡ true
  pub cut_there : cut (drop a s) ≡ line (part s a (b - 2)) (cut (drop b s))
  pub place : content_lines (drop a s) ≡ drop i (content_lines s)

-- what an entry says: where the line starts, and how long its name is
unfoldable pub start_in : ℕ → ℕ
start_in v = v % 131072

unfoldable pub name_in : ℕ → ℕ
name_in v = v / 131072

-- the index knows line i
pub record Entry (s index : List ℕ) (i : ℕ) : Type 0 where
  pub between : Between s i (start_in (get_or index i 0)) (start_in (get_or index (i + 1) 0))
  pub named : name_in (get_or index i 0) ≡ length (name_of (line_bytes s i))

-- the index knows every line, and each is well formed
pub record Indexed (s index : List ℕ) : Type 0 where
  pub entries : (i : ℕ) → i < length (content_lines s) → Entry s index i
  pub good : line_check s ≡ all_good

-- it was filled, and there are n lines
pub record Lines (s index : List ℕ) (n : ℕ) : Type 0 where
  pub indexed : Indexed s index
  pub count : n ≡ length (content_lines s)
  pub few : 4 * n ≤ length s

-- what filling it answers
unfoldable pub FilledBy : List ℕ → List ℕ → Result ℕ IndexError → Type 0
FilledBy s index (Ok n) = Lines s index n
FilledBy s index (Err (IndexError.BadLine k)) = bad_line k ≡ line_check s
FilledBy s index (Err IndexError.Full) = 4 * length index ≤ length s
