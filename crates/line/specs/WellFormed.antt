-- Are all lines of a file well formed (document 01, Lines)? If not, which is the first that is not, counted from 1?
use Rattle.std.specs.Prelude.{ℕ, ◌+◌, ◌≤◌, ◌<◌, ◌≡◌, Bool, true, false, cond, not, List, [], ◌∷◌, length, drop, get_or, Option, Some, None}
use Rattle.ascii.specs.Bytes.{is_control}
use Rattle.text.specs.Unfolding.{Nowhere}
use Rattle.text.specs.Lines.{CutLines, end, unended, line, cut, part, LineAt, NothingAt, lines_of, content_lines, every_line}
use Rattle.line.specs.Scanner.{is_well_formed}
use Rattle.line.specs.Reading.{name_of}
use Rattle.line.specs.declared.check.Next.{Next}

-- what a check of lines answers: all pass, or this one is the first that does not; lines are counted from 1
pub data LineCheck : Type 0 where
  all_good : LineCheck
  bad_line : ℕ → LineCheck

-- the length of the name of a well formed line; none, where the line is badly formed
unfoldable pub well_formed_name : List ℕ → Option ℕ
well_formed_name l = cond (is_well_formed l) (Some (length (name_of l))) None

-- piece by piece, the first with number n; what no CR LF ends is badly formed
unfoldable pub line_check_from : ℕ → CutLines → LineCheck
line_check_from n end = all_good
line_check_from n (unended t) = bad_line n
line_check_from n (line l p) = elim (is_well_formed l) [ true ↦ line_check_from (n + 1) p | false ↦ bad_line n ]

-- is some line badly formed, and which is the first?
unfoldable pub line_check : List ℕ → LineCheck
line_check s = line_check_from 1 (cut s)

-- CR LF ends every line of the file, and each is well formed
pub record AllGood (s : List ℕ) : Type 0 where
  pub ended : cut s ≡ lines_of (content_lines s)
  pub good : every_line is_well_formed (content_lines s) ≡ true

-- lines, each ended, and then pieces
unfoldable pub lines_then : List (List ℕ) → CutLines → CutLines
lines_then [] p = p
lines_then (l ∷ ls) p = line l (lines_then ls p)

-- the first piece is badly formed
unfoldable pub begins_badly : CutLines → Bool
begins_badly end = false
begins_badly (unended t) = true
begins_badly (line l p) = not (is_well_formed l)

-- k is the number of the first badly formed piece, where the first of all has number n: those before it are well formed, and it is not
pub record FirstBad (n : ℕ) (p : CutLines) (k : ℕ) : Type 0 where
  pub earlier : List (List ℕ)
  pub rest : CutLines
  pub whole : p ≡ lines_then earlier rest
  pub number : k ≡ n + length earlier
  pub good : every_line is_well_formed earlier ≡ true
  pub bad : begins_badly rest ≡ true

-- ---- how the code goes over the lines: from a place in the bytes

-- the line at `from` ends at place e and is well formed
pub record GoodLineAt (s : List ℕ) (from e : ℕ) : Type 0 where
  pub line : LineAt s from e
  pub good : is_well_formed (part s from e) ≡ true

-- and its name is n bytes long
pub record NamedLineAt (s : List ℕ) (from e n : ℕ) : Type 0 where
  pub good : GoodLineAt s from e
  pub name : n ≡ length (name_of (part s from e))

-- the line at `from` is badly formed
pub record BadLineAt (s : List ℕ) (from : ℕ) : Type 0 where
  pub bad : begins_badly (cut (drop from s)) ≡ true

-- a control stands at place i
unfoldable pub control_at : List ℕ → ℕ → Bool
control_at s i = is_control (get_or s i 0)

-- no control stands from `from` up to e, and at e one does, or the bytes end there
pub record NextControl (s : List ℕ) (from e : ℕ) : Type 0 where
  pub before : Nowhere control_at s from e
  pub there : e < length s → control_at s e ≡ true

-- what a look at the line at `from` answers
unfoldable pub NextAt : List ℕ → ℕ → Next → Type 0
NextAt s from (Next.Line e n) = NamedLineAt s from e n
NextAt s from Next.Bad = BadLineAt s from
NextAt s from Next.End = NothingAt s from

-- the lines before `from` are well formed, so the check of the lines there, the first of them number n, is that of the file
pub record Checked (s : List ℕ) (n from : ℕ) : Type 0 where
  pub inside : from ≤ length s
  pub few : n ≤ from + 1
  pub rest : line_check_from n (cut (drop from s)) ≡ line_check s
