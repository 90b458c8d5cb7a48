-- Right nesting (document 01, Nesting), as one walk over the content lines that knows the components still open.
-- The line where the walk breaks is the first after which no continuation keeps the rules.
use Rattle.std.specs.Prelude.{ℕ, suc, ◌+◌, cond, List, [], ◌∷◌, length}
use Rattle.ascii.specs.Names.{same_name}
use Rattle.line.specs.Grammar.{ContentLine}
use Rattle.line.specs.WellFormed.{LineCheck, all_good, bad_line}
use Rattle.delimiters.specs.Delimiters.{delimiter_of}
use Rattle.delimiters.specs.Innermost.{is_calendar, may_begin}
use Rattle.delimiters.specs.declared.Delimiter.{Delimiter}
use Rattle.delimiters.specs.declared.Delimiter.TheVariants.{Begins, Ends, Property, Wrong}

-- how far the walk is
pub data Walk : Type 0 where
  -- no line was read
  start : Walk
  -- the names of the open components, innermost first, and how many components have begun
  inside : List (List ℕ) → ℕ → Walk
  -- VCALENDAR has ended
  closed : Walk
  -- this line broke the nesting
  broken : ℕ → Walk

-- line number i begins a component of name n
unfoldable pub after_begin : ℕ → List ℕ → Walk → Walk
after_begin i n start = cond (is_calendar n) (inside (n ∷ []) 1) (broken i)
after_begin i n (inside o k) = cond (may_begin n (length o + 1) (k + 1)) (inside (n ∷ o) (k + 1)) (broken i)
after_begin i n closed = broken i
after_begin i n (broken j) = broken j

-- what is open once the innermost component has ended
abbrev pub outside : List (List ℕ) → ℕ → Walk
outside [] k = closed
outside (n ∷ o) k = inside (n ∷ o) k

-- line number i ends a component of name n: it must be the innermost open one
unfoldable pub after_end : ℕ → List ℕ → Walk → Walk
after_end i n start = broken i
after_end i n (inside [] k) = broken i
after_end i n (inside (m ∷ o) k) = cond (same_name n m) (outside o k) (broken i)
after_end i n closed = broken i
after_end i n (broken j) = broken j

-- line number i is a property: it stands in a component
unfoldable pub after_property : ℕ → Walk → Walk
after_property i start = broken i
after_property i (inside o k) = inside o k
after_property i closed = broken i
after_property i (broken j) = broken j

-- line number i is a BEGIN or END line that is not as such lines are
unfoldable pub after_wrong : ℕ → Walk → Walk
after_wrong i start = broken i
after_wrong i (inside o k) = broken i
after_wrong i closed = broken i
after_wrong i (broken j) = broken j

abbrev pub after_delimiter : Delimiter → ℕ → ContentLine → Walk → Walk
after_delimiter Begins i x w = after_begin i x.value w
after_delimiter Ends i x w = after_end i x.value w
after_delimiter Property i x w = after_property i w
after_delimiter Wrong i x w = after_wrong i w

-- the lines from number i on
unfoldable pub walk : ℕ → Walk → List ContentLine → Walk
walk i w [] = w
walk i w (x ∷ xs) = walk (suc i) (after_delimiter (delimiter_of x) i x w) xs

-- a file that just stops breaks at the line after its last
unfoldable pub outcome : ℕ → Walk → LineCheck
outcome n start = bad_line n
outcome n (inside o k) = bad_line n
outcome n closed = all_good
outcome n (broken j) = bad_line j

-- lines are counted from 1
unfoldable pub nesting_of : List ContentLine → LineCheck
nesting_of xs = outcome (length xs + 1) (walk 1 start xs)
