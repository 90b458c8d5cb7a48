-- Bytes written in hex: pairs of digits, blanks and line ends between pairs, and comments from # to the end of the line.
use Rattle.std.specs.Prelude.{ℕ, Option, Some, None, Result, Ok, Err, ◌+◌, ◌-◌, ◌*◌, ◌≡◌, Bool, true, false, cond, ◌||◌, List, [], ◌∷◌, ltb, eqb, length, take}
use Rattle.std.proofs.lemmas.List.Edits.{sets}
use Rattle.ascii.specs.Bytes.{between}
use Rattle.ascii.specs.Words.{ascii}
use Rattle.cli.specs.declared.hex.Place.{Place}
use Rattle.cli.specs.declared.hex.Step.{Step}
use Rattle.cli.specs.declared.hex.HexError.{HexError}

-- a digit's value in either case
unfoldable pub hex_digit : ℕ → Option ℕ
hex_digit b =
    cond (between 48 57 b) (Some (b - 48)) (cond (between 65 70 b) (Some (b - 55)) (cond (between 97 102 b) (Some (b - 87)) None))

-- space, tab, LF or CR
unfoldable pub is_blank : ℕ → Bool
is_blank b = eqb b 32 || eqb b 9 || eqb b 10 || eqb b 13

-- what a byte does between pairs, behind the first digit of a pair, and in a comment; none where it is wrong
unfoldable pub begun : Option ℕ → Option Step
begun (Some d) = Some (Step.To (Place.Half d))
begun None = None

unfoldable pub from_between : ℕ → Option Step
from_between b = cond (eqb b 35) (Some (Step.To Place.Comment)) (cond (is_blank b) (Some (Step.To Place.Between)) (begun (hex_digit b)))

unfoldable pub completed : ℕ → Option ℕ → Option Step
completed h (Some d) = cond (ltb h 16) (Some (Step.Byte (h * 16 + d))) None
completed h None = None

unfoldable pub from_half : ℕ → ℕ → Option Step
from_half h b = completed h (hex_digit b)

unfoldable pub from_comment : ℕ → Step
from_comment b = cond (eqb b 10) (Step.To Place.Between) (Step.To Place.Comment)

unfoldable pub step_of : Place → ℕ → Option Step
step_of Place.Between b = from_between b
step_of (Place.Half h) b = from_half h b
step_of Place.Comment b = Some (from_comment b)

-- the bytes that a text writes, up to what is wrong in it
unfoldable pub bytes_from : Place → List ℕ → List ℕ
bytes_from p [] = []
bytes_from p (b ∷ s) =
    elim (step_of p b) [ Some t ↦ elim t [ Step.To q ↦ bytes_from q s | Step.Byte x ↦ x ∷ bytes_from Place.Between s ] | None ↦ [] ]

-- a text ends well where no pair is begun
unfoldable pub whole : Place → Bool
whole Place.Between = true
whole (Place.Half h) = false
whole Place.Comment = true

-- nothing in the text is wrong
unfoldable pub good_from : Place → List ℕ → Bool
good_from p [] = whole p
good_from p (b ∷ s) =
    elim (step_of p b) [ Some t ↦ elim t [ Step.To q ↦ good_from q s | Step.Byte x ↦ good_from Place.Between s ] | None ↦ false ]

-- the answer at the end of a text, n bytes being decoded
unfoldable pub at_end : Place → ℕ → Result ℕ HexError
at_end p n = cond (whole p) (Ok n) (Err HexError.Bad)

-- too long where the bytes before any fault have no room, else their number, or bad
unfoldable pub decoded_of : List ℕ → ℕ → Result ℕ HexError
decoded_of s room =
    cond (ltb room (length (bytes_from Place.Between s))) (Err HexError.TooLong)
    (cond (good_from Place.Between s) (Ok (length (bytes_from Place.Between s))) (Err HexError.Bad))

-- the answer, and the output: the bytes that have room stand first, later bytes are as they were
pub record Decodes (s o o' : List ℕ) (r : Result ℕ HexError) : Type 0 where
  pub answer : r ≡ decoded_of s (length o)
  pub output : o' ≡ sets o 0 (take (length o) (bytes_from Place.Between s))

-- what is said of a text that was not decoded
unfoldable pub error_words : HexError → List ℕ
error_words HexError.Bad = ascii "a .hex query is pairs of hex digits"
error_words HexError.TooLong = ascii "a .hex query writes no more bytes than there is room for"
