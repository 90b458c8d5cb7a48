-- Laws of a fixed string at a place: where it stands, the loop that compares it, and that a report's heads stand in a report.
use Prim.Native.Nat.{ℕ, zero, suc, ◌-◌, ◌≤◌, ◌<◌}
use mathlib.Core.Path.{◌≡◌, refl, sym, ap, ◌∙◌}
use mathlib.Core.Bool.{Bool, true, false, cond, true≢false, ◌&&◌, ◌||◌, not, and-false}
use mathlib.Core.Logic.{◌↔◌}
use mathlib.Core.List.{List, [], ◌∷◌, ◌++◌, append_assoc}
use native.Mathlib.Omega.{arith}
use lib.Dec.{eqb}
use Rattle.std.specs.List.{starts_with}
use lib.ListN.{length, take, drop, get_or, length-drop, length-append}
use lib.Seq.{drop_at, take_at, take-length}
use borrow.Author.Tests.{eqb-true, eqb-false, eq-eqb, ne_eqb, le-leb, lt-leb}
use Rattle.ascii.proofs.Bools.{and_left, and_right, and_both, apart}
use Rattle.ascii.proofs.Lists.{drop_end, suffix}
use Rattle.ascii.proofs.Names.{every_append}
use Rattle.ascii.specs.Names.{every}
use Rattle.ascii.specs.Bytes.{is_digit}
use Rattle.text.specs.Lines.{joined, part, every_line, content_lines, all_lines, holds_no_cr, LineFrom, NoLineFrom}
use Rattle.text.proofs.Lines.{cut_line, content_lines_none}
use Rattle.time.specs.Writing.{utc_text, date_text, time_text, is_utc_byte}
use Rattle.time.proofs.WritingLaws.{utc_text_bytes}
use Rattle.periods.specs.declared.Period.{Period}
use Rattle.periods.specs.declared.BusyType.{BusyType}
use Rattle.periods.specs.BusyTypes.{is_busy}
use Rattle.report.specs.Bytes.{Report, period_head, period_text, period_lines, busy_lines, report_bytes}
use Rattle.report.specs.Heads.{begins, has_bytes_at, stamp_head, start_head, end_head, timed, opening, closing, opens_report, closes_report, is_busy_line, all_busy_lines, BusyLines, none, then, heads_match}
use Rattle.report.proofs.Bytes.{report_parts, parts_length, opening_length, closing_length}

-- beginning with a string is being it, as far as it goes
begins_take : (s h : List ℕ) → begins s h ≡ true → take (length h) s ≡ h
unfolding begins
begins_take s [] e = refl
begins_take [] (b ∷ h) e = absurd (true≢false (sym e))
begins_take (a ∷ s) (b ∷ h) e =
    let p : a ≡ b = eqb-true a b (and_left (eqb a b) (begins s h) e) in
    let q : take (length h) s ≡ h = begins_take s h (and_right (eqb a b) (begins s h) e) in
    cc

pub begins_append : (h s : List ℕ) → begins (h ++ s) h ≡ true
unfolding begins
begins_append [] s = refl
begins_append (b ∷ h) s = and_both (eq-eqb b b refl) (begins_append h s)

begins_of_take : (s h : List ℕ) → take (length h) s ≡ h → begins s h ≡ true
unfolding begins
begins_of_take s [] e = refl
begins_of_take [] (b ∷ h) e = absurd (let z : 0 ≡ suc (length h) = ap length e in omega arith)
begins_of_take (a ∷ s) (b ∷ h) e =
    let p : a ≡ b = cc in
    let q : take (length h) s ≡ h = cc in
    and_both (eq-eqb a b p) (begins_of_take s h q)

-- a fixed string stands at a place exactly where the bytes from there on are it
pub has_bytes_at_iff : (s h : List ℕ) (at : ℕ) → (has_bytes_at s h at ≡ true) ↔ (take (length h) (drop at s) ≡ h)
unfolding has_bytes_at
has_bytes_at_iff s h at = (λ e. begins_take (drop at s) h e, λ e. begins_of_take (drop at s) h e)

-- not where it does not fit
pub begins_short : (s h : List ℕ) → length s < length h → begins s h ≡ false
unfolding begins
begins_short s [] l = absurd (omega arith)
begins_short [] (b ∷ h) l = refl
begins_short (a ∷ s) (b ∷ h) l = rw (begins_short s h (omega arith)) (and-false (eqb a b))

-- past the end stands the empty string alone
pub has_bytes_at_past : (s h : List ℕ) (at : ℕ) → length s < at → eqb (length h) 0 ≡ has_bytes_at s h at
unfolding has_bytes_at begins
has_bytes_at_past s [] at l = refl
has_bytes_at_past s (b ∷ h) at l = ne_eqb (suc (length h)) 0 (omega arith) ∙ sym (ap (λ (k : List ℕ). begins k (b ∷ h)) (drop_end s at (omega arith)))

eqb_swap : (a b : ℕ) → eqb a b ≡ eqb b a
eqb_swap a b = go (eqb a b) refl
  where
    go : (t : Bool) → eqb a b ≡ t → t ≡ eqb b a
    go true q = sym (eq-eqb b a (sym (eqb-true a b q)))
    go false q = sym (ne_eqb b a (λ e. eqb-false a b q (sym e)))

-- from a place on
pub has_bytes_at_from : (s h : List ℕ) (at : ℕ) → begins (take (length s - at) (drop at s)) h ≡ has_bytes_at s h at
unfolding has_bytes_at
has_bytes_at_from s h at = ap (λ (k : List ℕ). begins k h) (suffix s at)

-- the library's test is the same, pair by pair
pub starts_begins : (s h : List ℕ) → starts_with eqb s h ≡ begins s h
unfolding begins
starts_begins s [] = refl
starts_begins [] (b ∷ h) = refl
starts_begins (a ∷ s) (b ∷ h) = rw (eqb_swap b a, starts_begins s h)

-- each head where a report has it
pub opens_report_by : (s : List ℕ) {a b c : Bool} → a ≡ has_bytes_at s stamp_head 0 → b ≡ has_bytes_at s start_head 108 → c ≡ has_bytes_at s end_head 134
    → (a && b && c) ≡ opens_report s
unfolding opens_report
opens_report_by s p q r = rw (p, q, r)

pub closes_report_short : (s : List ℕ) → length s < 30 → closes_report s ≡ false
unfolding closes_report has_bytes_at
closes_report_short s h = begins_short (drop (length s - 30) s) closing (simp length-drop (omega (arith, closing_length)))

-- what was put last stands last
pub has_last : (f h : List ℕ) → has_bytes_at (f ++ h) h (length (f ++ h) - length h) ≡ true
unfolding has_bytes_at
has_last f h =
    let z : length (f ++ h) - length h ≡ length f = simp length-append (omega arith) in
    let d : drop (length (f ++ h) - length h) (f ++ h) ≡ h = rw z (drop_at f h (length f) refl) in
    rw d (begins_of_take h h (take-length h))

-- every report opens and closes as one
pub report_opens : (r : Report) → opens_report (report_bytes r) ≡ true
unfolding opens_report has_bytes_at begins opening timed stamp_head start_head end_head utc_text date_text time_text
report_opens r = rw (report_parts r)

pub report_closes : (r : Report) → closes_report (report_bytes r) ≡ true
unfolding closes_report
report_closes r =
    let f : List ℕ = opening r.start r.end r.stamp ++ joined (busy_lines r.periods) in
    let e : report_bytes r ≡ f ++ closing = report_parts r ∙ sym (append_assoc (opening r.start r.end r.stamp) (joined (busy_lines r.periods)) closing) in
    ap closes_report e ∙ ap (λ (n : ℕ). has_bytes_at (f ++ closing) closing (length (f ++ closing) - n)) (sym closing_length) ∙ has_last f closing

-- by the type that is asked for
pub has_head : (s : List ℕ) (at : ℕ) (b : BusyType) {k : BusyType} {t : Bool} → k ≡ b → t ≡ has_bytes_at s (period_head b) at → t ≡ has_bytes_at s (period_head k) at
has_head s at b e f = f ∙ ap (λ (c : BusyType). has_bytes_at s (period_head c) at) (sym e)

-- what stands at a place, byte by byte
begins_byte : (s h : List ℕ) (i : ℕ) → begins s h ≡ true → i < length h → get_or s i 0 ≡ get_or h i 0
unfolding begins
begins_byte s [] i e l = absurd (omega arith)
begins_byte [] (b ∷ h) i e l = absurd (true≢false (sym e))
begins_byte (a ∷ s) (b ∷ h) zero e l = eqb-true a b (and_left (eqb a b) (begins s h) e)
begins_byte (a ∷ s) (b ∷ h) (suc i) e l = begins_byte s h i (and_right (eqb a b) (begins s h) e) (omega arith)

-- which type's line begins here, where one does: F of FREE, then the colon or hyphen behind BUSY, then T or U
kind_of : List ℕ → BusyType
kind_of s =
    cond (eqb (get_or s 16 0) 70) BusyType.Free (cond (eqb (get_or s 20 0) 58) BusyType.Busy (cond (eqb (get_or s 21 0) 84) BusyType.Tentative BusyType.Unavailable))

kind_of_same : (s h : List ℕ) → begins s h ≡ true → 21 < length h → kind_of s ≡ kind_of h
unfolding kind_of
kind_of_same s h e l = rw (begins_byte s h 16 e (omega arith), begins_byte s h 20 e (omega arith), begins_byte s h 21 e (omega arith))

kind_of_head : (s : List ℕ) (b : BusyType) → begins s (period_head b) ≡ true → kind_of s ≡ b
unfolding period_head kind_of
kind_of_head s BusyType.Busy e = rw (begins_byte s (period_head BusyType.Busy) 16 e (omega arith), begins_byte s (period_head BusyType.Busy) 20 e (omega arith))
kind_of_head s BusyType.Tentative e = kind_of_same s (period_head BusyType.Tentative) e (omega arith)
kind_of_head s BusyType.Unavailable e = kind_of_same s (period_head BusyType.Unavailable) e (omega arith)
kind_of_head s BusyType.Free e = rw (begins_byte s (period_head BusyType.Free) 16 e (omega arith))

-- the line of one type begins at a place, and of no other
pub heads_apart : (s : List ℕ) (at : ℕ) (b c : BusyType) → has_bytes_at s (period_head b) at ≡ true → has_bytes_at s (period_head c) at ≡ true → b ≡ c
unfolding has_bytes_at
heads_apart s at b c p q = sym (kind_of_head (drop at s) b p) ∙ kind_of_head (drop at s) c q

-- the head stands before the first period of its type, whatever stands before and behind
pub period_at_line : (f h z : List ℕ) (p : Period) (ps : List Period) → has_bytes_at (f ++ (joined (period_lines h (p ∷ ps)) ++ z)) h (length f) ≡ true
unfolding has_bytes_at period_lines
period_at_line f h z p ps =
    let more : List ℕ = 13 ∷ 10 ∷ joined (period_lines h ps) in
    rw (drop_at f (joined (period_lines h (p ∷ ps)) ++ z) (length f) refl, append_assoc (h ++ period_text p) more z, append_assoc h (period_text p) (more ++ z))
    (begins_append h (period_text p ++ (more ++ z)))

-- ---- the lines between the opening and the closing

-- by the three types
pub is_busy_line_by : (l : List ℕ) {a b c : Bool} → a ≡ has_bytes_at l (period_head BusyType.Busy) 0 → b ≡ has_bytes_at l (period_head BusyType.Tentative) 0
    → c ≡ has_bytes_at l (period_head BusyType.Unavailable) 0 → (a || b || c) ≡ is_busy_line l
unfolding is_busy_line has_bytes_at
is_busy_line_by l p q r = rw (p, q, r)

-- a line of busy time is one of a busy type
busy_line : (l : List ℕ) (ls : List (List ℕ)) (x y z : Bool) → begins l (period_head BusyType.Busy) ≡ x → begins l (period_head BusyType.Tentative) ≡ y
    → begins l (period_head BusyType.Unavailable) ≡ z → (x || y || z) ≡ true → BusyLines ls → BusyLines (l ∷ ls)
unfolding is_busy
busy_line l ls true y z p q r e k = then BusyType.Busy refl p k
busy_line l ls false true z p q r e k = then BusyType.Tentative refl q k
busy_line l ls false false z p q r e k = then BusyType.Unavailable refl (r ∙ e) k

or_true : (x : Bool) → (x || true) ≡ true
or_true true = refl
or_true false = refl

line_busy : (l : List ℕ) (b : BusyType) → is_busy b ≡ true → begins l (period_head b) ≡ true → is_busy_line l ≡ true
unfolding is_busy_line is_busy
line_busy l BusyType.Busy h e = rw e
line_busy l BusyType.Tentative h e = rw (e, or_true (begins l (period_head BusyType.Busy)))
line_busy l BusyType.Unavailable h e = rw (e, or_true (begins l (period_head BusyType.Busy) || begins l (period_head BusyType.Tentative)))
line_busy l BusyType.Free h e = absurd (true≢false (sym h))

lines_of_types : (ls : List (List ℕ)) → every_line is_busy_line ls ≡ true → BusyLines ls
unfolding is_busy_line
lines_of_types [] e = none
lines_of_types (l ∷ ls) e = busy_line l ls _ _ _ refl refl refl (and_left (is_busy_line l) _ e) (lines_of_types ls (and_right (is_busy_line l) _ e))

types_of_lines : {ls : List (List ℕ)} → BusyLines ls → every_line is_busy_line ls ≡ true
types_of_lines none = refl
types_of_lines (then b h e k) = and_both (line_busy _ b h e) (types_of_lines k)

pub all_busy_lines_iff : (s : List ℕ) → (all_busy_lines s ≡ true) ↔ BusyLines (content_lines s)
unfolding all_busy_lines
all_busy_lines_iff s = (λ e. lines_of_types (content_lines s) e, λ k. types_of_lines k)

-- the loop: the lines that are left decide
pub record HeadsLeft (s : List ℕ) (at : ℕ) : Type 0 where
  pub inside : at ≤ length s
  pub left_decide : every_line is_busy_line (content_lines (drop at s)) ≡ all_busy_lines s

pub heads_start : (s : List ℕ) → HeadsLeft s 0
unfolding all_busy_lines
heads_start s = record { inside = omega arith; left_decide = refl }

module _ {s : List ℕ} {at e next : ℕ} (p : HeadsLeft s at) (l : LineFrom s at e next) where
  line_decides : (is_busy_line (part s at e) && every_line is_busy_line (content_lines (drop next s))) ≡ all_busy_lines s
  line_decides = sym (ap (every_line is_busy_line) l.lines) ∙ p.left_decide

  pub heads_next : is_busy_line (part s at e) ≡ true → HeadsLeft s next
  heads_next h = record {
    inside = l.inside;
    left_decide = sym (ap (λ (t : Bool). t && every_line is_busy_line (content_lines (drop next s))) h) ∙ line_decides;
  }

  pub heads_stop : is_busy_line (part s at e) ≡ false → false ≡ all_busy_lines s
  heads_stop h = sym (ap (λ (t : Bool). t && every_line is_busy_line (content_lines (drop next s))) h) ∙ line_decides

pub heads_end : {s : List ℕ} {at : ℕ} → HeadsLeft s at → NoLineFrom s at → true ≡ all_busy_lines s
heads_end p l = sym (ap (every_line is_busy_line) l.lines) ∙ p.left_decide

-- by its parts
pub heads_match_short : (s : List ℕ) → length s < 190 → heads_match s ≡ false
unfolding heads_match
heads_match_short s h = rw (lt-leb 190 (length s) h)

pub heads_match_by : (s : List ℕ) {a b c : Bool} → 190 ≤ length s → a ≡ opens_report s → b ≡ closes_report s → c ≡ all_busy_lines (part s 160 (length s - 30))
    → (a && b && c) ≡ heads_match s
unfolding heads_match
heads_match_by s h p q r = rw (le-leb 190 (length s) h, p, q, r)

-- lines without CR, each written with CR LF, are the content lines of what they make
lines_joined : (ls : List (List ℕ)) → every_line holds_no_cr ls ≡ true → content_lines (joined ls) ≡ ls
unfolding content_lines
lines_joined [] e = content_lines_none
lines_joined (l ∷ ls) e =
    ap all_lines (cut_line l (joined ls) (and_left (holds_no_cr l) _ e)) ∙ ap (λ (ms : List (List ℕ)). l ∷ ms) (lines_joined ls (and_right (holds_no_cr l) _ e))

every_line_append : (f : List ℕ → Bool) (ls ms : List (List ℕ)) → every_line f ls ≡ true → every_line f ms ≡ true → every_line f (ls ++ ms) ≡ true
every_line_append f [] ms p q = q
every_line_append f (l ∷ ls) ms p q = and_both (and_left (f l) _ p) (every_line_append f ls ms (and_right (f l) _ p) q)

-- no byte of a time is CR
utc_no_cr : (s : List ℕ) → every is_utc_byte s ≡ true → holds_no_cr s ≡ true
unfolding is_utc_byte is_digit
utc_no_cr [] e = refl
utc_no_cr (b ∷ s) e =
    and_both (ap not (ne_eqb b 13 (apart is_utc_byte b 13 (and_left (is_utc_byte b) _ e) refl))) (utc_no_cr s (and_right (is_utc_byte b) _ e))

period_no_cr : (p : Period) → holds_no_cr (period_text p) ≡ true
unfolding period_text
period_no_cr p =
    every_append (λ b. not (eqb b 13)) (utc_text p.start) (47 ∷ utc_text p.end)
    (utc_no_cr (utc_text p.start) (utc_text_bytes p.start))
    (utc_no_cr (utc_text p.end) (utc_text_bytes p.end))

-- what holds of the line of any period behind each of the three heads holds of every line between
each_line : (f : List ℕ → Bool) (h : List ℕ) → ((p : Period) → f (h ++ period_text p) ≡ true) → (ps : List Period) → every_line f (period_lines h ps) ≡ true
unfolding period_lines
each_line f h k [] = refl
each_line f h k (p ∷ ps) = and_both (k p) (each_line f h k ps)

each_busy_line : (f : List ℕ → Bool) → ((p : Period) → f (period_head BusyType.Busy ++ period_text p) ≡ true)
    → ((p : Period) → f (period_head BusyType.Tentative ++ period_text p) ≡ true)
    → ((p : Period) → f (period_head BusyType.Unavailable ++ period_text p) ≡ true)
    → (g : BusyType → List Period) → every_line f (busy_lines g) ≡ true
unfolding busy_lines
each_busy_line f x y z g =
    every_line_append f (period_lines (period_head BusyType.Busy) (g BusyType.Busy)) _
    (each_line f (period_head BusyType.Busy) x (g BusyType.Busy))
    (every_line_append f (period_lines (period_head BusyType.Tentative) (g BusyType.Tentative)) _
    (each_line f (period_head BusyType.Tentative) y (g BusyType.Tentative))
    (each_line f (period_head BusyType.Unavailable) z (g BusyType.Unavailable)))

busy_no_cr : (g : BusyType → List Period) → every_line holds_no_cr (busy_lines g) ≡ true
unfolding period_head
busy_no_cr g = each_busy_line holds_no_cr period_no_cr period_no_cr period_no_cr g

busy_headed : (g : BusyType → List Period) → every_line is_busy_line (busy_lines g) ≡ true
unfolding period_head is_busy_line begins
busy_headed g = each_busy_line is_busy_line (λ p. refl) (λ p. refl) (λ p. refl) g

pub busy_lines_match : (g : BusyType → List Period) → all_busy_lines (joined (busy_lines g)) ≡ true
unfolding all_busy_lines
busy_lines_match g = ap (every_line is_busy_line) (lines_joined (busy_lines g) (busy_no_cr g)) ∙ busy_headed g

-- between the opening and the closing stand the lines of the periods
report_between : (r : Report) → part (report_bytes r) 160 (length (report_bytes r) - 30) ≡ joined (busy_lines r.periods)
report_between r =
    let j : List ℕ = joined (busy_lines r.periods) in
    let n : length (report_bytes r) - 30 - 160 ≡ length j = omega (arith, parts_length r) in
    let d : drop 160 (report_bytes r) ≡ j ++ closing =
    ap (drop 160) (report_parts r) ∙ drop_at (opening r.start r.end r.stamp) (j ++ closing) 160 (opening_length _ _ _) in
    rw (d, n) (take_at j closing (length j) refl)

-- every line of every report has its head
pub report_heads_match : (r : Report) → heads_match (report_bytes r) ≡ true
report_heads_match r =
    sym
    (heads_match_by (report_bytes r) (omega (arith, parts_length r)) (sym (report_opens r)) (sym (report_closes r))
    (sym (ap all_busy_lines (report_between r) ∙ busy_lines_match r.periods)))
