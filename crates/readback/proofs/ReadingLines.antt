-- A report's lines are rendered content lines, so its bytes unfold to themselves, are well formed, and read as these lines.
use Prim.Native.Nat.{ℕ, ◌+◌, ◌≤◌}
use mathlib.Core.Path.{◌≡◌, refl, sym, ap, ◌∙◌, subst}
use mathlib.Core.Bool.{Bool, true, false, ◌&&◌, ◌||◌}
use mathlib.Core.List.{List, [], ◌∷◌, ◌++◌, map}
use native.Mathlib.Omega.{arith}
use lib.Dec.{eqb, leb}
use lib.ListN.{length, length-append}
use borrow.Author.Tests.{le-ltb, leb-true, eqb-true, ne_eqb}
use Rattle.ascii.specs.Bytes.{is_letter, is_digit, is_name_byte, is_control}
use Rattle.ascii.specs.Names.{every, is_name}
use Rattle.ascii.specs.Words.{ascii}
use Rattle.ascii.proofs.Bools.{and_left, and_right, and_both}
use Rattle.ascii.proofs.Names.{every_append}
use Rattle.text.specs.Unfolding.{unfolded}
use Rattle.text.specs.Lines.{joined}
use Rattle.time.specs.Writing.{utc_text, is_utc_byte}
use Rattle.time.proofs.WritingLaws.{utc_text_length, utc_text_bytes}
use Rattle.line.specs.Grammar.{ContentLine, parameter, content_line, is_quotable, is_unquoted, is_value_byte}
use Rattle.line.specs.WellFormed.{line_check, all_good}
use Rattle.line.specs.Rendering.{rendered_value, rendered_values, rendered_parameters, rendered, can_render, can_render_all, Renderable, AllRenderable, no_line, one_more}
use Rattle.line.specs.File.{ReadBack}
use Rattle.line.proofs.Rendering.{renderable_append}
use Rattle.line.proofs.File.{rendered_back}
use Rattle.periods.specs.declared.Period.{Period}
use Rattle.periods.specs.declared.BusyType.{BusyType}
use Rattle.report.specs.Bytes.{Report, period_head, period_text, period_lines, busy_lines, report_lines, report_bytes}
use Rattle.periods.specs.BusyTypes.{BusyPeriod, typed}
use Rattle.calendar.specs.Meaning.{file_lines}
use Rattle.readback.specs.Reading.{report_periods}

-- ---- the report as content lines

-- the word of FBTYPE for a type
unfoldable pub type_word : BusyType → List ℕ
type_word BusyType.Busy = ascii "BUSY"
type_word BusyType.Tentative = ascii "BUSY-TENTATIVE"
type_word BusyType.Unavailable = ascii "BUSY-UNAVAILABLE"
type_word BusyType.Free = ascii "FREE"

-- a line without parameters
abbrev pub plain_line : List ℕ → List ℕ → ContentLine
plain_line n v = content_line n [] v

unfoldable pub period_line : BusyPeriod → ContentLine
period_line t = content_line (ascii "FREEBUSY") (parameter (ascii "FBTYPE") (type_word t.busy ∷ []) ∷ []) (period_text t.period)

-- what stands in the block
unfoldable pub block_content : Report → List ContentLine
block_content r =
    plain_line (ascii "DTSTAMP") (utc_text r.stamp)
    ∷ plain_line (ascii "DTSTART") (utc_text r.start)
    ∷ plain_line (ascii "DTEND") (utc_text r.end)
    ∷ map period_line (report_periods r)

-- what stands around it
abbrev pub calendar_begin : ContentLine
calendar_begin = plain_line (ascii "BEGIN") (ascii "VCALENDAR")

abbrev pub version_line : ContentLine
version_line = plain_line (ascii "VERSION") (ascii "2.0")

abbrev pub product_line : ContentLine
product_line = plain_line (ascii "PRODID") (ascii "-//Cover Desk//Free Busy//EN")

abbrev pub block_begin : ContentLine
block_begin = plain_line (ascii "BEGIN") (ascii "VFREEBUSY")

abbrev pub block_end : ContentLine
block_end = plain_line (ascii "END") (ascii "VFREEBUSY")

abbrev pub calendar_end : ContentLine
calendar_end = plain_line (ascii "END") (ascii "VCALENDAR")

unfoldable pub report_content : Report → List ContentLine
report_content r = calendar_begin ∷ version_line ∷ product_line ∷ block_begin ∷ (block_content r ++ (block_end ∷ calendar_end ∷ []))

-- ---- the lines are these, rendered

period_rendered : (b : BusyType) (p : Period) → period_head b ++ period_text p ≡ rendered (period_line (record { busy = b; period = p }))
unfolding period_head period_line type_word rendered rendered_parameters rendered_values rendered_value is_unquoted is_control
period_rendered BusyType.Busy p = refl
period_rendered BusyType.Tentative p = refl
period_rendered BusyType.Unavailable p = refl
period_rendered BusyType.Free p = refl

map_append : {A B : Type 0} (f : A → B) (xs ys : List A) → map f (xs ++ ys) ≡ map f xs ++ map f ys
map_append f [] ys = refl
map_append {A} {B} f (x ∷ xs) ys = ap (λ (l : List B). f x ∷ l) (map_append f xs ys)

type_rendered : (b : BusyType) (ps : List Period) → period_lines (period_head b) ps ≡ map rendered (map period_line (typed b ps))
unfolding period_lines
type_rendered b [] = refl
type_rendered b (p ∷ ps) =
    ap (λ (l : List ℕ). l ∷ period_lines (period_head b) ps) (period_rendered b p)
    ∙ ap (λ (ls : List (List ℕ)). rendered (period_line (record { busy = b; period = p })) ∷ ls) (type_rendered b ps)

twice_append : (xs ys : List BusyPeriod)
    → map rendered (map period_line (xs ++ ys)) ≡ map rendered (map period_line xs) ++ map rendered (map period_line ys)
twice_append xs ys = ap (map rendered) (map_append period_line xs ys) ∙ map_append rendered (map period_line xs) (map period_line ys)

busy_rendered : (r : Report) → busy_lines r.periods ≡ map rendered (map period_line (report_periods r))
unfolding busy_lines report_periods
busy_rendered r =
    let f : BusyType → List BusyPeriod = λ b. typed b (r.periods b) in
    rw (type_rendered BusyType.Busy (r.periods BusyType.Busy), type_rendered BusyType.Tentative (r.periods BusyType.Tentative), type_rendered BusyType.Unavailable (r.periods BusyType.Unavailable))
    (sym (twice_append (f BusyType.Busy) (f BusyType.Tentative ++ f BusyType.Unavailable)
    ∙ ap (λ (ls : List (List ℕ)). map rendered (map period_line (f BusyType.Busy)) ++ ls) (twice_append (f BusyType.Tentative) (f BusyType.Unavailable))))

pub lines_rendered : (r : Report) → report_lines r ≡ map rendered (report_content r)
unfolding report_lines report_content block_content rendered rendered_parameters
lines_rendered r = rw (busy_rendered r, map_append rendered (map period_line (report_periods r)) (block_end ∷ calendar_end ∷ []))

-- ---- they can be rendered

-- a byte of a written time lies between the digit 0 and the letter Z
utc_range : (b : ℕ) → is_utc_byte b ≡ true → (48 ≤ b) × (b ≤ 90)
unfolding is_utc_byte is_digit
utc_range b h = go (is_digit b) (eqb b 84) refl refl h
  where
    go : (t u : Bool) → is_digit b ≡ t → eqb b 84 ≡ u → (t || u || eqb b 90) ≡ true → (48 ≤ b) × (b ≤ 90)
    go true u e f k = (leb-true 48 b (and_left (leb 48 b) _ e), let z : b ≤ 57 = leb-true b 57 (and_right (leb 48 b) _ e) in omega arith)
    go false true e f k = let z : b ≡ 84 = eqb-true b 84 f in (omega arith, omega arith)
    go false false e f k = let z : b ≡ 90 = eqb-true b 90 k in (omega arith, omega arith)

-- so it is no control
utc_calm : (b : ℕ) → is_utc_byte b ≡ true → is_value_byte b ≡ true
unfolding is_value_byte is_control
utc_calm b h =
    let k : (48 ≤ b) × (b ≤ 90) = utc_range b h in
    rw (le-ltb b 32 (omega (arith, k.0)), ne_eqb b 127 (λ e. omega (arith, k.1)))

every_implies : (f g : ℕ → Bool) → ((b : ℕ) → f b ≡ true → g b ≡ true) → (s : List ℕ) → every f s ≡ true → every g s ≡ true
every_implies f g h [] e = refl
every_implies f g h (b ∷ s) e = and_both (h b (and_left (f b) _ e)) (every_implies f g h s (and_right (f b) _ e))

time_calm : (t : ℕ) → every is_value_byte (utc_text t) ≡ true
time_calm t = every_implies is_utc_byte is_value_byte utc_calm (utc_text t) (utc_text_bytes t)

period_calm : (p : Period) → every is_value_byte (period_text p) ≡ true
unfolding period_text is_value_byte is_control
period_calm p = every_append is_value_byte (utc_text p.start) (47 ∷ utc_text p.end) (time_calm p.start) (time_calm p.end)

period_length : (p : Period) → length (period_text p) ≡ 33
unfolding period_text
period_length p = rw length-append (omega (arith, utc_text_length p.start, utc_text_length p.end))

type_named : (b : BusyType) → can_render_all (parameter (ascii "FBTYPE") (type_word b ∷ []) ∷ []) ≡ true
unfolding can_render_all can_render is_name is_name_byte is_letter is_digit is_quotable is_control type_word
type_named BusyType.Busy = refl
type_named BusyType.Tentative = refl
type_named BusyType.Unavailable = refl
type_named BusyType.Free = refl

head_short : (b : BusyType) → length (period_head b) ≤ 33
unfolding period_head
head_short BusyType.Busy = omega arith
head_short BusyType.Tentative = omega arith
head_short BusyType.Unavailable = omega arith
head_short BusyType.Free = omega arith

period_fits : (t : BusyPeriod) → length (rendered (period_line t)) ≤ 1024
period_fits t =
    subst (λ (l : List ℕ). length l ≤ 1024) (period_rendered t.busy t.period)
    (rw length-append (omega (arith, head_short t.busy, period_length t.period)))

period_renderable : (t : BusyPeriod) → Renderable (period_line t)
unfolding period_line is_name is_name_byte is_letter is_digit
period_renderable t = record { name = refl; parameters = type_named t.busy; value = period_calm t.period; fits = period_fits t }

-- any number of them
periods_renderable : (ts : List BusyPeriod) → AllRenderable (map period_line ts)
periods_renderable [] = no_line
periods_renderable (t ∷ ts) = one_more (period_renderable t) (periods_renderable ts)

-- a short line without parameters
plain_renderable : (n v : List ℕ) → is_name n ≡ true → every is_value_byte v ≡ true → length n + length v ≤ 1000 → Renderable (plain_line n v)
unfolding rendered rendered_parameters can_render_all
plain_renderable n v h e k = record { name = h; parameters = refl; value = e; fits = rw length-append (omega arith) }

-- with a time as its value
time_renderable : (n : List ℕ) (t : ℕ) → (is_name n && leb (length n) 900) ≡ true → Renderable (plain_line n (utc_text t))
time_renderable n t h =
    plain_renderable n (utc_text t) (and_left (is_name n) _ h) (time_calm t)
    (omega (arith, utc_text_length t, leb-true (length n) 900 (and_right (is_name n) _ h)))

-- with words
word_renderable : (n v : List ℕ) → (is_name n && (every is_value_byte v && leb (length n + length v) 1000)) ≡ true → Renderable (plain_line n v)
word_renderable n v h =
    let k : (every is_value_byte v && leb (length n + length v) 1000) ≡ true = and_right (is_name n) _ h in
    plain_renderable n v (and_left (is_name n) _ h) (and_left (every is_value_byte v) _ k)
    (leb-true (length n + length v) 1000 (and_right (every is_value_byte v) _ k))

pub content_renderable : (r : Report) → AllRenderable (report_content r)
unfolding report_content block_content is_name is_name_byte is_letter is_digit is_value_byte is_control
content_renderable r =
    one_more (word_renderable _ _ refl)
    (one_more (word_renderable _ _ refl)
    (one_more (word_renderable _ _ refl)
    (one_more (word_renderable _ _ refl)
    (one_more (time_renderable _ r.stamp refl)
    (one_more (time_renderable _ r.start refl)
    (one_more (time_renderable _ r.end refl)
    (renderable_append (periods_renderable (report_periods r)) (one_more (word_renderable _ _ refl) (one_more (word_renderable _ _ refl) no_line)))))))))

-- ---- so its bytes read as these lines

pub report_back : (r : Report) → ReadBack (report_bytes r) (report_content r)
unfolding report_bytes
report_back r = subst (λ (ls : List (List ℕ)). ReadBack (joined ls) (report_content r)) (sym (lines_rendered r)) (rendered_back (content_renderable r))

-- unfolding leaves the bytes as they are
pub report_unfolds : (r : Report) → unfolded (report_bytes r) ≡ report_bytes r
report_unfolds r = (report_back r).unfolds

-- every line is well formed
pub report_lines_good : (r : Report) → line_check (report_bytes r) ≡ all_good
report_lines_good r = (report_back r).good

-- and they are read as the lines that were written
pub report_lines_read : (r : Report) → file_lines (report_bytes r) ≡ report_content r
unfolding file_lines
report_lines_read r = (report_back r).read
