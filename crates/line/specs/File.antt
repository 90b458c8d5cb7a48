-- The grammar of a file, for the reader (document 01, Lines): lines of the grammar, CR LF after each.
use Rattle.std.specs.Prelude.{ℕ, ◌≡◌, List, [], ◌∷◌, ◌++◌, map}
use Rattle.text.specs.Unfolding.{unfolded}
use Rattle.text.specs.Lines.{cut, lines_of, content_lines}
use Rattle.line.specs.Grammar.{ContentLine, LineGrammar}
use Rattle.line.specs.Reading.{line_of}
use Rattle.line.specs.WellFormed.{line_check, all_good}

-- the bytes s are the lines xs
pub data FileGrammar : List ℕ → List ContentLine → Type 0 where
  done : FileGrammar [] []
  next : {l r : List ℕ} {x : ContentLine} {xs : List ContentLine} → LineGrammar l x → FileGrammar r xs
      → FileGrammar (l ++ (13 ∷ 10 ∷ r)) (x ∷ xs)

-- unfolding leaves the bytes as they are, each line that they are cut into is ended and well formed, and they are read as the lines xs
pub record ReadBack (s : List ℕ) (xs : List ContentLine) : Type 0 where
  pub unfolds : unfolded s ≡ s
  pub ended : cut s ≡ lines_of (content_lines s)
  pub good : line_check s ≡ all_good
  pub read : map line_of (content_lines s) ≡ xs
