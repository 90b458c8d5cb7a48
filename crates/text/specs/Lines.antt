-- Content lines (document 01, Lines): the unfolded bytes cut at each CR LF.
use Rattle.std.specs.Prelude.{ℕ, suc, ◌+◌, ◌-◌, ◌≤◌, ◌<◌, ◌≡◌, Bool, true, false, not, ◌&&◌, List, [], ◌∷◌, ◌++◌, eqb, length, take, drop, get_or, None, Option, Some}
use Rattle.ascii.specs.Names.{every}
use Rattle.text.specs.Unfolding.{is_break, is_blank}

-- the pieces of a file in order: lines that CR LF ends, then perhaps a last piece that it does not end, which is badly formed
pub data CutLines : Type 0 where
  end : CutLines
  unended : List ℕ → CutLines
  line : List ℕ → CutLines → CutLines

-- one byte more in front of the first piece
abbrev pub grow : ℕ → CutLines → CutLines
grow b end = unended (b ∷ [])
grow b (unended t) = unended (b ∷ t)
grow b (line t p) = line (b ∷ t) p

-- a line ends at each CR LF; zero bytes are zero lines, and bytes that end in CR LF have no piece after it
unfoldable pub cut : List ℕ → CutLines
cut [] = end
cut (b ∷ []) = unended (b ∷ [])
cut (b ∷ c ∷ s) = elim (is_break b c) [ true ↦ line [] (cut s) | false ↦ grow b (cut (c ∷ s)) ]

-- CR LF stands at place i; past the end stand zeros
unfoldable pub break_at : List ℕ → ℕ → Bool
break_at s i = is_break (get_or s i 0) (get_or s (i + 1) 0)

-- the bytes from place a up to place e, as a slice of the source has them
abbrev pub part : List ℕ → ℕ → ℕ → List ℕ
part s a e = take (e - a) (drop a s)

-- the line that starts at `from` ends at place e, where its CR LF stands, and the rest is cut after it
pub record LineAt (s : List ℕ) (from e : ℕ) : Type 0 where
  pub starts : from ≤ e
  pub inside : e + 2 ≤ length s
  pub cuts : cut (drop from s) ≡ line (part s from e) (cut (drop (e + 2) s))

-- what stands from `from` on is one piece without CR LF
pub record UnendedAt (s : List ℕ) (from : ℕ) : Type 0 where
  pub starts : from < length s
  pub cuts : cut (drop from s) ≡ unended (drop from s)

-- nothing stands at `from` or after it
pub record NothingAt (s : List ℕ) (from : ℕ) : Type 0 where
  pub past : length s ≤ from
  pub cuts : cut (drop from s) ≡ end

-- every line of a file in order, a last piece that CR LF does not end among them
abbrev pub all_lines : CutLines → List (List ℕ)
all_lines end = []
all_lines (unended t) = t ∷ []
all_lines (line l p) = l ∷ all_lines p

unfoldable pub content_lines : List ℕ → List (List ℕ)
content_lines s = all_lines (cut s)

-- the line at `from` ends before e, and the lines after it begin at `next`
pub record LineFrom (s : List ℕ) (from e next : ℕ) : Type 0 where
  pub starts : from ≤ e
  pub ends : e ≤ next
  pub goes_on : from < next
  pub inside : next ≤ length s
  pub lines : content_lines (drop from s) ≡ part s from e ∷ content_lines (drop next s)

-- no line stands at `from` or after it
pub record NoLineFrom (s : List ℕ) (from : ℕ) : Type 0 where
  pub past : length s ≤ from
  pub lines : content_lines (drop from s) ≡ []

-- what a step from line to line answers
unfoldable pub StepsTo : List ℕ → ℕ → Option (ℕ × ℕ) → Type 0
StepsTo s from (Some (e, next)) = LineFrom s from e next
StepsTo s from None = NoLineFrom s from

-- how many lines end in CR LF
abbrev pub line_count : CutLines → ℕ
line_count end = 0
line_count (unended t) = 0
line_count (line l p) = suc (line_count p)

-- the bytes that pieces were cut from
abbrev pub bytes_of : CutLines → List ℕ
bytes_of end = []
bytes_of (unended t) = t
bytes_of (line l p) = l ++ (13 ∷ 10 ∷ bytes_of p)

-- each line followed by CR LF
abbrev pub joined : List (List ℕ) → List ℕ
joined [] = []
joined (l ∷ ls) = l ++ (13 ∷ 10 ∷ joined ls)

-- lines, each ended, as pieces
abbrev pub lines_of : List (List ℕ) → CutLines
lines_of [] = end
lines_of (l ∷ ls) = line l (lines_of ls)

-- the test holds of every line
abbrev pub every_line : (List ℕ → Bool) → List (List ℕ) → Bool
every_line f [] = true
every_line f (l ∷ ls) = f l && every_line f ls

-- no byte is CR
abbrev pub holds_no_cr : List ℕ → Bool
holds_no_cr l = every (λ b. not (eqb b 13)) l

-- the first byte, if there is one, is no blank
abbrev pub no_leading_blank : List ℕ → Bool
no_leading_blank [] = true
no_leading_blank (b ∷ l) = not (is_blank b)

-- a line that stands in a file as it is: unfolding leaves it, and cutting finds it whole
abbrev pub is_whole_line : List ℕ → Bool
is_whole_line l = holds_no_cr l && no_leading_blank l
