-- A file of the grammar is read back: it unfolds to itself, is cut into its lines, and each reads as what it says; and what is good is such a file.
use Prim.Native.Nat.{ℕ}
use mathlib.Core.Path.{◌≡◌, refl, sym, ap, ◌∙◌, subst}
use mathlib.Core.Bool.{true}
use mathlib.Core.List.{List, [], ◌∷◌, ◌++◌, map}
use mathlib.Core.Logic.{◌↔◌}
use Rattle.ascii.proofs.Bools.{and_left, and_right, and_both}
use Rattle.text.specs.Unfolding.{unfolded}
use Rattle.text.specs.Lines.{cut, bytes_of, joined, lines_of, all_lines, content_lines, every_line, is_whole_line}
use Rattle.text.proofs.Lines.{bytes_of_cut, unfolded_joined, cut_unfolded_joined}
use Rattle.line.specs.Grammar.{ContentLine}
use Rattle.line.specs.Scanner.{is_well_formed}
use Rattle.line.specs.Reading.{line_of}
use Rattle.line.specs.WellFormed.{line_check, AllGood, all_good}
use Rattle.line.specs.Rendering.{rendered, AllRenderable, no_line, one_more}
use Rattle.line.specs.File.{FileGrammar, done, next, ReadBack}
use Rattle.line.proofs.Grammar.{grammar_well_formed}
use Rattle.line.proofs.Reading.{grammar_read, line_iff}
use Rattle.line.proofs.Rendering.{rendered_grammar}
use Rattle.line.proofs.WellFormed.{lines_good, good_iff}
use Rattle.line.proofs.Scanner.{every_plain}

-- ---- a file of the grammar is read back

all_lines_lines_of : (ls : List (List ℕ)) → all_lines (lines_of ls) ≡ ls
all_lines_lines_of [] = refl
all_lines_lines_of (l ∷ ls) = ap (λ (r : List (List ℕ)). l ∷ r) (all_lines_lines_of ls)

pub content_lines_cut : (s : List ℕ) (ls : List (List ℕ)) → cut s ≡ lines_of ls → content_lines s ≡ ls
unfolding content_lines
content_lines_cut s ls e = ap all_lines e ∙ all_lines_lines_of ls

-- the lines as they are written
record Written (s : List ℕ) (xs : List ContentLine) : Type 0 where
  lines : List (List ℕ)
  bytes : s ≡ joined lines
  good : every_line is_well_formed lines ≡ true
  read : map line_of lines ≡ xs

written : {s : List ℕ} {xs : List ContentLine} → FileGrammar s xs → Written s xs
written done = record { lines = []; bytes = refl; good = refl; read = refl }
written (next {l} {r} {x} {xs} g f) =
    let w : Written r xs = written f in
    record {
      lines = l ∷ w.lines;
      bytes = ap (λ (u : List ℕ). l ++ (13 ∷ 10 ∷ u)) w.bytes;
      good = and_both (grammar_well_formed g) w.good;
      read = ap (λ (y : ContentLine). y ∷ map line_of w.lines) (grammar_read g) ∙ ap (λ (ys : List ContentLine). x ∷ ys) w.read;
    }

-- THE THEOREM of reading back
pub file_read : {s : List ℕ} {xs : List ContentLine} → FileGrammar s xs → ReadBack s xs
file_read {s} {xs} f =
    let w : Written s xs = written f in
    let plain : every_line is_whole_line w.lines ≡ true = every_plain w.lines w.good in
    let whole : cut s ≡ lines_of w.lines =
    ap cut (w.bytes ∙ sym (unfolded_joined w.lines plain)) ∙ cut_unfolded_joined w.lines plain in
    let lines : content_lines s ≡ w.lines = content_lines_cut s w.lines whole in
    record {
      unfolds = ap unfolded w.bytes ∙ unfolded_joined w.lines plain ∙ sym w.bytes;
      ended = whole ∙ ap lines_of (sym lines);
      good = lines_good s w.lines whole w.good;
      read = ap (map line_of) lines ∙ w.read;
    }

-- ---- what is good is a file of the grammar

joined_file : (ls : List (List ℕ)) → every_line is_well_formed ls ≡ true → FileGrammar (joined ls) (map line_of ls)
joined_file [] e = done
joined_file (l ∷ ls) e = next ((line_iff l (line_of l)).0 (and_left (is_well_formed l) _ e, refl)) (joined_file ls (and_right (is_well_formed l) _ e))

bytes_of_lines_of : (ls : List (List ℕ)) → bytes_of (lines_of ls) ≡ joined ls
bytes_of_lines_of [] = refl
bytes_of_lines_of (l ∷ ls) = ap (λ (u : List ℕ). l ++ (13 ∷ 10 ∷ u)) (bytes_of_lines_of ls)

good_file : (s : List ℕ) → line_check s ≡ all_good → FileGrammar s (map line_of (content_lines s))
good_file s e =
    let k : AllGood s = (good_iff s).0 e in
    let bytes : joined (content_lines s) ≡ s = sym (bytes_of_lines_of (content_lines s)) ∙ sym (ap bytes_of k.ended) ∙ bytes_of_cut s in
    subst (λ (u : List ℕ). FileGrammar u (map line_of (content_lines s))) bytes (joined_file (content_lines s) k.good)

-- the check finds every line well formed, and their readings are xs, exactly where the grammar says that the bytes are the lines xs
pub file_iff : (s : List ℕ) (xs : List ContentLine) → ((line_check s ≡ all_good) × (map line_of (content_lines s) ≡ xs)) ↔ FileGrammar s xs
file_iff s xs = (
  λ h. subst (λ (ys : List ContentLine). FileGrammar s ys) h.1 (good_file s h.0),
  λ f. ((file_read f).good, (file_read f).read),
)

-- ---- rendered lines are a file of the grammar

pub rendered_file : {xs : List ContentLine} → AllRenderable xs → FileGrammar (joined (map rendered xs)) xs
rendered_file no_line = done
rendered_file (one_more r k) = next (rendered_grammar r) (rendered_file k)

pub rendered_back : {xs : List ContentLine} → AllRenderable xs → ReadBack (joined (map rendered xs)) xs
rendered_back k = file_read (rendered_file k)
