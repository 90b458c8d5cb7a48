-- Kinds of bytes and ASCII case (document 01, Lines): what the grammar of a content line is made of.
use Rattle.std.specs.Prelude.{ℕ, ◌-◌, Bool, cond, not, ◌&&◌, ◌||◌, ltb, leb, eqb}

-- lo ≤ b ≤ hi
abbrev pub between : ℕ → ℕ → ℕ → Bool
between lo hi b = leb lo b && leb b hi

-- 0 to 9
unfoldable pub is_digit : ℕ → Bool
is_digit b = between 48 57 b

-- A to Z, a to z
unfoldable pub is_letter : ℕ → Bool
is_letter b = between 65 90 b || between 97 122 b

-- the bytes of a name: a letter, a digit or a hyphen
unfoldable pub is_name_byte : ℕ → Bool
is_name_byte b = is_letter b || is_digit b || eqb b 45

-- a control: below 32 but not tab, or 127
unfoldable pub is_control : ℕ → Bool
is_control b = ltb b 32 && not (eqb b 9) || eqb b 127

-- a to z read as A to Z, every other byte as it stands
unfoldable pub upper : ℕ → ℕ
upper b = cond (between 97 122 b) (b - 32) b
