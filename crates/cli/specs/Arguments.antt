-- What an argument means: a command, a second, an offset, a file name.
use Rattle.std.specs.Prelude.{ℕ, ℤ, Option, Some, None, ◌+◌, ◌-◌, ◌*◌, Bool, true, false, cond, ◌&&◌, List, [], ◌∷◌, leb, eqb, pos, neg_ℤ, length, take, drop, get_or}
use Rattle.ascii.specs.Bytes.{is_digit}
use Rattle.ascii.specs.Names.{every, not_empty, same_name}
use Rattle.ascii.specs.Words.{ascii}
use Rattle.time.specs.declared.date_time.Kind.{Kind}
use Rattle.time.specs.declared.date_time.DateTime.{DateTime}
use Rattle.time.specs.DateTime.{read_date_time}
use Rattle.time.specs.Limits.{utc_second}
use Rattle.cli.specs.declared.arguments.Command.{Command}

-- the four commands, ASCII case disregarded
unfoldable pub command_of : List ℕ → Option Command
command_of s =
    cond (same_name s (ascii "report")) (Some Command.Report)
    (cond (same_name s (ascii "verify")) (Some Command.Verify)
    (cond (same_name s (ascii "match")) (Some Command.Match)
    (cond (same_name s (ascii "batch")) (Some Command.Batch) None)))

-- the largest number of 64 bits, and the largest with a sign
unfoldable pub most : ℕ
most = 18446744073709551615

unfoldable pub most_signed : ℕ
most_signed = 9223372036854775807

-- the number n with the digits behind it
unfoldable pub onto : ℕ → List ℕ → ℕ
onto n [] = n
onto n (b ∷ s) = onto (n * 10 + (b - 48)) s

unfoldable pub decimal_onto : ℕ → List ℕ → Option ℕ
decimal_onto n s = cond (every is_digit s && leb (onto n s) most) (Some (onto n s)) None

-- one digit behind n
unfoldable pub with_digit : ℕ → ℕ → Option ℕ
with_digit n b = decimal_onto n (b ∷ [])

-- decimal digits, one at least, that 64 bits hold
unfoldable pub decimal_of : List ℕ → Option ℕ
decimal_of s = cond (not_empty s) (decimal_onto 0 s) None

-- the first, or the second where the first is bad
unfoldable pub or_else : Option ℕ → Option ℕ → Option ℕ
or_else (Some n) b = Some n
or_else None b = b

unfoldable pub in_limits : Option ℕ → Option ℕ
in_limits (Some t) = Some t
in_limits None = None

unfoldable pub utc_clock : Kind → ℕ → Option ℕ
utc_clock Kind.Utc clock = in_limits (utc_second Kind.Utc clock 50400)
utc_clock Kind.Floating clock = None
utc_clock Kind.Date clock = None

unfoldable pub utc_read : Option DateTime → Option ℕ
utc_read (Some d) = utc_clock d.kind d.clock
utc_read None = None

-- a UTC DATE-TIME within the limits
unfoldable pub utc_of : List ℕ → Option ℕ
utc_of s = utc_read (read_date_time s)

-- a second: decimal digits, or a UTC DATE-TIME
unfoldable pub second_of : List ℕ → Option ℕ
second_of s = or_else (decimal_of s) (utc_of s)

-- hours up to 99 and minutes up to 59, as seconds
unfoldable pub hours_minutes : Option ℕ → Option ℕ → Option ℕ
hours_minutes None m = None
hours_minutes (Some h) None = None
hours_minutes (Some h) (Some m) = cond (leb h 99 && leb m 59) (Some (h * 3600 + m * 60)) None

-- HH:MM
unfoldable pub clock_of : List ℕ → Option ℕ
clock_of s =
    cond (eqb (length s) 5 && eqb (get_or s 2 0) 58) (hours_minutes (decimal_of (take 2 s)) (decimal_of (take 2 (drop 3 s)))) None

-- seconds in decimal, or HH:MM
unfoldable pub size_of : List ℕ → Option ℕ
size_of s = or_else (decimal_of s) (clock_of s)

-- a number below or above zero, where 64 bits hold it
unfoldable pub signed : Bool → ℕ → Option ℤ
signed true n = cond (leb n (most_signed + 1)) (Some (neg_ℤ (pos n))) None
signed false n = cond (leb n most_signed) (Some (pos n)) None

unfoldable pub with_sign : Bool → Option ℕ → Option ℤ
with_sign minus (Some n) = signed minus n
with_sign minus None = None

-- an offset: a sign or none, then seconds in decimal or HH:MM
unfoldable pub offset_of : List ℕ → Option ℤ
offset_of [] = None
offset_of (b ∷ s) =
    cond (eqb b 45) (with_sign true (size_of s))
    (cond (eqb b 43) (with_sign false (size_of s)) (with_sign false (size_of (b ∷ s))))

-- a name whose last four bytes are .hex, ASCII case disregarded
unfoldable pub is_hex_name : List ℕ → Bool
is_hex_name s = same_name (drop (length s - 4) s) (ascii ".hex")
