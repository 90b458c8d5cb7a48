-- What the refusals mean, in words.
use Rattle.std.specs.Prelude.{ℕ, List, [], ◌∷◌, get_or}
use Rattle.ascii.specs.Words.{ascii}

unfoldable pub unknown : List ℕ
unknown = ascii "a number that is no refusal's"

-- by number, from 0
unfoldable pub meanings : List (List ℕ)
meanings =
    unknown
    ∷ ascii "a range, stamp or offset out of bounds"
    ∷ ascii "the calendar is longer than 65,536 bytes"
    ∷ ascii "the work buffer is shorter than the calendar"
    ∷ ascii "the query is badly formed"
    ∷ ascii "a time range where none can be"
    ∷ ascii "a line is badly formed"
    ∷ ascii "the nesting is wrong"
    ∷ ascii "something that is not supported"
    ∷ ascii "a bad value"
    ∷ ascii "a component rule is broken"
    ∷ ascii "more than 512 busy pieces"
    ∷ ascii "the output buffer is shorter than the report"
    ∷ []

unfoldable pub refusal_words : ℕ → List ℕ
refusal_words n = get_or meanings n unknown
