-- Bytes cut at a separator: outside double quotes, as a line is taken apart at `:` `;` `=` `,`, or wherever it stands,
-- as the values of RRULE and FREEBUSY are. Where g is false, quotes are bytes like any other.
use Rattle.std.specs.Prelude.{ℕ, suc, ◌+◌, ◌-◌, Bool, true, false, cond, not, ◌&&◌, List, [], ◌∷◌, eqb, ltb, length, take, drop}

-- inside quotes after the byte b? g: do quotes count at all?
abbrev pub quoted_after : Bool → Bool → ℕ → Bool
quoted_after g q b = cond (g && eqb b 34) (not q) q

-- is b the separator, outside quotes?
abbrev pub cuts_at : ℕ → Bool → ℕ → Bool
cuts_at sep q b = eqb b sep && not q

-- how many bytes stand before the first separator outside quotes; all, where there is none. q: the list begins inside quotes
unfoldable pub first_outside : Bool → ℕ → Bool → List ℕ → ℕ
first_outside g sep q [] = 0
first_outside g sep q (b ∷ s) = elim (cuts_at sep q b) [ true ↦ 0 | false ↦ suc (first_outside g sep (quoted_after g q b) s) ]

-- the place of the first separator outside quotes from `from` on, or the end; `from` stands outside quotes
unfoldable pub next_place : Bool → ℕ → List ℕ → ℕ → ℕ
next_place g sep s from = from + first_outside g sep false (drop from s)

-- the bytes before the first separator outside quotes, and those after it (none, where there is no separator)
unfoldable pub before : Bool → ℕ → List ℕ → List ℕ
before g sep s = take (first_outside g sep false s) s

unfoldable pub after : Bool → ℕ → List ℕ → List ℕ
after g sep s = drop (first_outside g sep false s + 1) s

-- b put in front of the first piece
abbrev pub glue : ℕ → List (List ℕ) → List (List ℕ)
glue b [] = (b ∷ []) ∷ []
glue b (p ∷ ps) = (b ∷ p) ∷ ps

-- all the pieces: one more than there are separators outside quotes
unfoldable pub split_parts : Bool → ℕ → Bool → List ℕ → List (List ℕ)
split_parts g sep q [] = [] ∷ []
split_parts g sep q (b ∷ s) = elim (cuts_at sep q b) [ true ↦ [] ∷ split_parts g sep q s | false ↦ glue b (split_parts g sep (quoted_after g q b) s) ]

-- the pieces behind the separator at place i; none, where i is the end
unfoldable pub split_after : Bool → ℕ → List ℕ → ℕ → List (List ℕ)
split_after g sep s i = cond (ltb i (length s)) (split_parts g sep false (drop (i + 1) s)) []

-- a value between quotes without them, any other as it stands
unfoldable pub quotes_off : List ℕ → List ℕ
quotes_off [] = []
quotes_off (b ∷ s) = cond (eqb b 34) (take (length s - 1) s) (b ∷ s)

-- the pieces, wherever the separator stands
unfoldable pub plain_split : ℕ → List ℕ → List (List ℕ)
plain_split sep s = split_parts false sep false s
