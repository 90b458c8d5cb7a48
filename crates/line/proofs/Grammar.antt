-- The scanner holds exactly of the lines of the grammar. One way, each phrase of the grammar leads the scanner from state to state;
-- the other, what the scanner accepts from a state is what the grammar allows there, byte by byte.
use Prim.Native.Nat.{ℕ, ◌≤◌, ◌<◌}
use mathlib.Core.Path.{◌≡◌, refl, sym, ap, ◌∙◌, subst}
use mathlib.Core.Bool.{Bool, true, false, cond, not, ◌&&◌, ◌||◌}
use mathlib.Core.List.{List, [], ◌∷◌, ◌++◌, append_assoc, append-nil}
use lib.Dec.{eqb, leb}
use lib.ListN.{length}
use native.Mathlib.Omega.{arith}
use borrow.Author.Tests.{eqb-true, leb-true, le-leb, le-ltb, ne_eqb}
use Rattle.ascii.specs.Bytes.{is_name_byte, is_control}
use Rattle.ascii.specs.Names.{is_name, every}
use Rattle.ascii.proofs.Bools.{and_left, and_right, and_both, or_neither, clash}
use Rattle.line.specs.Grammar.{Parameter, ContentLine, content_line, parameter, is_quotable, is_unquoted, is_value_byte, ParameterValue, ParameterValues, Parameters}
use Rattle.line.specs.Grammar.{LineGrammar, quoted, unquoted, one, comma, none, semicolon, colon}
use Rattle.line.specs.Scanner.{after_value, step, scan, is_well_formed}
use Rattle.line.specs.declared.scan.State.{State}
use Rattle.line.specs.declared.scan.State.TheVariants.{Start, Name, ParameterStart, ParameterName, ValueStart, Unquoted, Quoted, AfterQuoted, Value, Wrong}
use Rattle.line.proofs.Scanner.{scan_step, scan_stays, or_none, name_stays, parameter_name_stays, Ends, at_comma, at_semicolon, at_colon, ends_start}
use Rattle.line.proofs.Scanner.{ends_unquoted, ends_quoted, quote_opens, quote_closes, starts_name, starts_parameter_name, scan_name, semicolon_ends, colon_ends}
use Rattle.line.proofs.Scanner.{equals_ends, value_ends, wrong_stays, ending_value}

-- ---- the classes of bytes

-- of the bytes above the separators, 127 alone is a control
high_control : (b : ℕ) → 34 < b → is_control b ≡ eqb b 127
unfolding is_control
high_control b h = ap (λ (t : Bool). t && not (eqb b 9) || eqb b 127) (le-ltb b 32 (omega arith))

pub high_quotable : (b : ℕ) → 34 < b → not (eqb b 127) ≡ is_quotable b
unfolding is_quotable
high_quotable b h = sym (rw (ne_eqb b 34 (λ e. omega arith), high_control b h))

pub high_unquoted : (b : ℕ) → 59 < b → not (eqb b 127) ≡ is_unquoted b
unfolding is_unquoted
high_unquoted b h =
    sym (rw (ne_eqb b 34 (λ e. omega arith), ne_eqb b 59 (λ e. omega arith), ne_eqb b 58 (λ e. omega arith), ne_eqb b 44 (λ e. omega arith), high_control b (omega arith)))

-- ---- from the grammar to the scanner

pub quoted_stays : (b : ℕ) → is_quotable b ≡ true → step Quoted b ≡ Quoted
unfolding step is_quotable
quoted_stays b e = let h = or_none (eqb b 34) (is_control b) e in rw (h.0, h.1)

value_stays : (b : ℕ) → is_value_byte b ≡ true → step Value b ≡ Value
unfolding step is_value_byte
value_stays b e = go (is_control b) refl e
  where
    go : (t : Bool) → is_control b ≡ t → not t ≡ true → cond (is_control b) Wrong Value ≡ Value
    go true p h = clash h refl
    go false p h = rw p

-- a byte without quotes goes on with the value, from its start and inside it
unquoted_apart : (b : ℕ) → is_unquoted b ≡ true
    → (eqb b 34 ≡ false) × (eqb b 59 ≡ false) × (eqb b 58 ≡ false) × (eqb b 44 ≡ false) × (is_control b ≡ false)
unfolding is_unquoted
unquoted_apart b e =
    let h = or_none (eqb b 34 || eqb b 59 || eqb b 58 || eqb b 44) (is_control b) e in
    let i = or_none (eqb b 34 || eqb b 59 || eqb b 58) (eqb b 44) (ap not h.0) in
    let j = or_none (eqb b 34 || eqb b 59) (eqb b 58) (ap not i.0) in
    let k = or_none (eqb b 34) (eqb b 59) (ap not j.0) in
    (k.0, k.1, j.1, i.1, h.1)

pub unquoted_starts : (b : ℕ) → is_unquoted b ≡ true → step ValueStart b ≡ Unquoted
unfolding step after_value
unquoted_starts b e = let h = unquoted_apart b e in rw (h.0, h.3, h.1, h.2, h.4)

pub unquoted_stays : (b : ℕ) → is_unquoted b ≡ true → step Unquoted b ≡ Unquoted
unfolding step after_value
unquoted_stays b e = let h = unquoted_apart b e in rw (h.0, h.3, h.1, h.2, h.4)

scan_value : {t v : List ℕ} → ParameterValue t v → {d : ℕ} {q : State} → Ends d q → (r : List ℕ)
    → scan ValueStart (t ++ (d ∷ r)) ≡ scan q r
scan_value (quoted v e) {d} w r =
    scan_step _ _ (quote_opens) ((v ++ (34 ∷ [])) ++ (d ∷ r))
    ∙ ap (λ (l : List ℕ). scan Quoted l) (append_assoc v (34 ∷ []) (d ∷ r))
    ∙ scan_stays Quoted is_quotable quoted_stays v (34 ∷ (d ∷ r)) e
    ∙ scan_step _ _ quote_closes (d ∷ r)
    ∙ scan_step _ _ (ends_quoted w) r
scan_value (unquoted [] e) w r = scan_step _ _ (ends_start w) r
scan_value (unquoted (b ∷ v) e) {d} w r =
    scan_step _ _ (unquoted_starts b (and_left (is_unquoted b) _ e)) (v ++ (d ∷ r))
    ∙ scan_stays Unquoted is_unquoted unquoted_stays v (d ∷ r) (and_right (is_unquoted b) _ e)
    ∙ scan_step _ _ (ends_unquoted w) r

scan_values : {t : List ℕ} {vs : List (List ℕ)} → ParameterValues t vs → {d : ℕ} {q : State} → Ends d q → (r : List ℕ)
    → scan ValueStart (t ++ (d ∷ r)) ≡ scan q r
scan_values (one x) w r = scan_value x w r
scan_values (comma {t = t} {r = u} x xs) {d} w r =
    ap (λ (l : List ℕ). scan ValueStart l) (append_assoc t (44 ∷ u) (d ∷ r)) ∙ scan_value x at_comma (u ++ (d ∷ r)) ∙ scan_values xs w r

-- one parameter after its semicolon, where what follows its equals sign leads to the value
scan_parameter : (n t r v : List ℕ) → is_name n ≡ true → scan ValueStart (t ++ (r ++ (58 ∷ v))) ≡ scan Value v
    → scan ParameterStart ((n ++ (61 ∷ (t ++ r))) ++ (58 ∷ v)) ≡ scan Value v
scan_parameter n t r v e k =
    ap (λ (l : List ℕ). scan ParameterStart l) (append_assoc n (61 ∷ (t ++ r)) (58 ∷ v))
    ∙ scan_name ParameterStart ParameterName starts_parameter_name parameter_name_stays n (61 ∷ ((t ++ r) ++ (58 ∷ v))) e
    ∙ scan_step _ _ equals_ends ((t ++ r) ++ (58 ∷ v))
    ∙ ap (λ (l : List ℕ). scan ValueStart l) (append_assoc t r (58 ∷ v))
    ∙ k

-- values, the parameters after them, and the colon
scan_rest : {r : List ℕ} {ps : List Parameter} → Parameters r ps → {t : List ℕ} {vs : List (List ℕ)} → ParameterValues t vs → (v : List ℕ)
    → scan ValueStart (t ++ (r ++ (58 ∷ v))) ≡ scan Value v
scan_rest none xs v = scan_values xs at_colon v
scan_rest (semicolon {n} {t = u} {r} e ys p) xs v =
    scan_values xs at_semicolon ((n ++ (61 ∷ (u ++ r))) ++ (58 ∷ v)) ∙ scan_parameter n u r v e (scan_rest p ys v)

scan_parameters : {p : List ℕ} {ps : List Parameter} → Parameters p ps → (v : List ℕ) → scan Name (p ++ (58 ∷ v)) ≡ scan Value v
scan_parameters none v = scan_step _ _ colon_ends v
scan_parameters (semicolon {n} {t} {r} e xs p) v =
    scan_step _ _ semicolon_ends ((n ++ (61 ∷ (t ++ r))) ++ (58 ∷ v)) ∙ scan_parameter n t r v e (scan_rest p xs v)

pub scan_line : {l : List ℕ} {x : ContentLine} → LineGrammar l x → scan Start l ≡ true
scan_line (colon {n} {p} {v} e ps h k) =
    scan_name Start Name starts_name name_stays n (p ++ (58 ∷ v)) e
    ∙ scan_parameters ps v
    ∙ ap (λ (l : List ℕ). scan Value l) (sym (append-nil v))
    ∙ scan_stays Value is_value_byte value_stays v [] h
    ∙ value_ends

-- ---- from the scanner to the grammar

-- a fact of a choice, from the fact of each side
by_test : {A : Type 0} (P : A → Type 0) (t : Bool) (a b : A) → (t ≡ true → P a) → (t ≡ false → P b) → P (cond t a b)
by_test P true a b h k = h refl
by_test P false a b h k = k refl

-- what follows a name or the last value of a parameter
abbrev Tail : List ℕ → Type 0
Tail s = (p : List ℕ) × (ps : List Parameter) × (v : List ℕ) × (s ≡ p ++ (58 ∷ v)) × Parameters p ps × (every is_value_byte v ≡ true)

-- what follows one value: nothing more of its parameter, or a comma and more values
data MoreValues : List ℕ → List (List ℕ) → Type 0 where
  no_more : MoreValues [] []
  more : {t : List ℕ} {vs : List (List ℕ)} → ParameterValues t vs → MoreValues (44 ∷ t) vs

with_more : {t v r : List ℕ} {vs : List (List ℕ)} → ParameterValue t v → MoreValues r vs → ParameterValues (t ++ r) (v ∷ vs)
with_more {t} {v} x no_more = subst (λ (u : List ℕ). ParameterValues u (v ∷ [])) (sym (append-nil t)) (one x)
with_more x (more xs) = comma x xs

abbrev AfterValue : List ℕ → Type 0
AfterValue s = (t : List ℕ) × (vs : List (List ℕ)) × (r : List ℕ) × (s ≡ t ++ r) × MoreValues t vs × Tail r

abbrev AfterEquals : List ℕ → Type 0
AfterEquals s = (t : List ℕ) × (vs : List (List ℕ)) × (r : List ℕ) × (s ≡ t ++ r) × ParameterValues t vs × Tail r

-- what the grammar allows from each state on
abbrev Allowed : State → List ℕ → Type 0
Allowed Start s = (n : List ℕ) × (r : List ℕ) × (s ≡ n ++ r) × (is_name n ≡ true) × Tail r
Allowed Name s = (n : List ℕ) × (r : List ℕ) × (s ≡ n ++ r) × (every is_name_byte n ≡ true) × Tail r
Allowed ParameterStart s = (n : List ℕ) × (r : List ℕ) × (s ≡ n ++ (61 ∷ r)) × (is_name n ≡ true) × AfterEquals r
Allowed ParameterName s = (n : List ℕ) × (r : List ℕ) × (s ≡ n ++ (61 ∷ r)) × (every is_name_byte n ≡ true) × AfterEquals r
Allowed ValueStart s = AfterEquals s
Allowed Unquoted s = (v : List ℕ) × (r : List ℕ) × (s ≡ v ++ r) × (every is_unquoted v ≡ true) × AfterValue r
Allowed Quoted s = (v : List ℕ) × (r : List ℕ) × (s ≡ v ++ (34 ∷ r)) × (every is_quotable v ≡ true) × AfterValue r
Allowed AfterQuoted s = AfterValue s
Allowed Value s = every is_value_byte s ≡ true
Allowed Wrong s = ⊥

cons_eq : (b : ℕ) {s t : List ℕ} → s ≡ t → (b ∷ s) ≡ (b ∷ t)
cons_eq b e = ap (λ (l : List ℕ). b ∷ l) e

-- one parameter and the tail behind it are a tail
tail_more : (n r : List ℕ) → is_name n ≡ true → AfterEquals r → Tail (59 ∷ (n ++ (61 ∷ r)))
tail_more n r e w =
    let (t, vs, u, q, xs, x) = w in
    let (p, ps, v, k, h, g) = x in (
      59 ∷ (n ++ (61 ∷ (t ++ p))),
      parameter n vs ∷ ps,
      v,
      cons_eq 59
          (ap (λ (l : List ℕ). n ++ (61 ∷ l)) (q ∙ ap (λ (l : List ℕ). t ++ l) k ∙ sym (append_assoc t p (58 ∷ v)))
          ∙ sym (append_assoc n (61 ∷ (t ++ p)) (58 ∷ v))),
      semicolon e xs h,
      g,
    )

-- a value and what follows it, after the equals sign
equals_value : {t v : List ℕ} → ParameterValue t v → (r : List ℕ) → AfterValue r → AfterEquals (t ++ r)
equals_value {t} {v} x r w =
    let (u, vs, z, q, xs, y) = w in
    (t ++ u, v ∷ vs, z, ap (λ (l : List ℕ). t ++ l) q ∙ sym (append_assoc t u z), with_more x xs, y)

-- the phrases that may follow a value, with their first byte
comma_allowed : (s : List ℕ) → AfterEquals s → AfterValue (44 ∷ s)
comma_allowed s w = let (t, vs, r, e, xs, y) = w in (44 ∷ t, vs, r, cons_eq 44 e, more xs, y)

tail_allowed : (s : List ℕ) → Tail s → AfterValue s
tail_allowed s w = ([], [], s, refl, no_more, w)

semicolon_tail : (s : List ℕ) → Allowed ParameterStart s → Tail (59 ∷ s)
semicolon_tail s w = let (n, r, e, h, x) = w in subst (λ (l : List ℕ). Tail (59 ∷ l)) (sym e) (tail_more n r h x)

colon_tail : (s : List ℕ) → every is_value_byte s ≡ true → Tail (58 ∷ s)
colon_tail s h = ([], [], s, refl, none, h)

unquoted_allowed : (s : List ℕ) → Allowed Unquoted s → AfterEquals s
unquoted_allowed s w = let (v, r, e, h, x) = w in subst (λ (l : List ℕ). AfterEquals l) (sym e) (equals_value (unquoted v h) r x)

quoted_allowed : (s : List ℕ) → Allowed Quoted s → AfterEquals (34 ∷ s)
quoted_allowed s w =
    let (v, r, e, h, x) = w in
    subst (λ (l : List ℕ). AfterEquals (34 ∷ l)) (append_assoc v (34 ∷ []) r ∙ sym e) (equals_value (quoted v h) r x)

-- a byte known to be a number
at_byte : (P : List ℕ → Type 0) (b n : ℕ) (s : List ℕ) → eqb b n ≡ true → P (n ∷ s) → P (b ∷ s)
at_byte P b n s e x = subst (λ (k : ℕ). P (k ∷ s)) (sym (eqb-true b n e)) x

is_unquoted_lem : (b : ℕ) → eqb b 34 ≡ false → eqb b 44 ≡ false → eqb b 59 ≡ false → eqb b 58 ≡ false → is_control b ≡ false → is_unquoted b ≡ true
unfolding is_unquoted
is_unquoted_lem b p q r u v = rw (p, q, r, u, v)

module _ (b : ℕ) (s : List ℕ) (allowed : (q : State) → scan q s ≡ true → Allowed q s) where
  -- after a value: a comma, a semicolon, a colon, or a state that the caller answers for
  after_allowed : (P : List ℕ → Type 0) → ((l : List ℕ) → AfterValue l → P l) → (q : State)
      → (eqb b 44 ≡ false → eqb b 59 ≡ false → eqb b 58 ≡ false → scan q s ≡ true → P (b ∷ s))
      → scan (after_value q b) s ≡ true → P (b ∷ s)
  unfolding after_value
  after_allowed P k q other =
      by_test (λ (x : State). scan x s ≡ true → P (b ∷ s)) (eqb b 44) _ _
      (λ e h. at_byte P b 44 s e (k (44 ∷ s) (comma_allowed s (allowed ValueStart h))))
      (λ e. by_test (λ (x : State). scan x s ≡ true → P (b ∷ s)) (eqb b 59) _ _
      (λ f h. at_byte P b 59 s f (k (59 ∷ s) (tail_allowed (59 ∷ s) (semicolon_tail s (allowed ParameterStart h)))))
      (λ f. by_test (λ (x : State). scan x s ≡ true → P (b ∷ s)) (eqb b 58) _ _
      (λ g h. at_byte P b 58 s g (k (58 ∷ s) (tail_allowed (58 ∷ s) (colon_tail s (allowed Value h)))))
      (λ g h. other e f g h)))

  wrong_absurd : {A : Type 0} → scan Wrong s ≡ true → A
  wrong_absurd h = clash h (wrong_stays s)

  -- inside a value without quotes, and at its first byte
  unquoted_byte : eqb b 34 ≡ false → scan (after_value (cond (is_control b) Wrong Unquoted) b) s ≡ true → Allowed Unquoted (b ∷ s)
  unquoted_byte p =
      after_allowed (λ l. Allowed Unquoted l) (λ l w. ([], l, refl, refl, w)) (cond (is_control b) Wrong Unquoted)
      (λ e f g. by_test (λ (x : State). scan x s ≡ true → Allowed Unquoted (b ∷ s)) (is_control b) _ _
      (λ c h. wrong_absurd h)
      (λ c h.
      let (v, r, w, k, x) = allowed Unquoted h in
      (b ∷ v, r, cons_eq b w, and_both (is_unquoted_lem b p e f g c) k, x)))

  start_byte : scan (step Start b) s ≡ true → Allowed Start (b ∷ s)
  unfolding step is_name
  start_byte =
      by_test (λ (x : State). scan x s ≡ true → Allowed Start (b ∷ s)) (is_name_byte b) _ _
      (λ e h. let (n, r, w, k, x) = allowed Name h in (b ∷ n, r, cons_eq b w, and_both e k, x))
      (λ e h. wrong_absurd h)

  name_byte : scan (step Name b) s ≡ true → Allowed Name (b ∷ s)
  unfolding step
  name_byte =
      by_test (λ (x : State). scan x s ≡ true → Allowed Name (b ∷ s)) (is_name_byte b) _ _
      (λ e h. let (n, r, w, k, x) = allowed Name h in (b ∷ n, r, cons_eq b w, and_both e k, x))
      (λ e. by_test (λ (x : State). scan x s ≡ true → Allowed Name (b ∷ s)) (eqb b 59) _ _
      (λ f h. ([], b ∷ s, refl, refl, at_byte (λ l. Tail l) b 59 s f (semicolon_tail s (allowed ParameterStart h))))
      (λ f. by_test (λ (x : State). scan x s ≡ true → Allowed Name (b ∷ s)) (eqb b 58) _ _
      (λ g h. ([], b ∷ s, refl, refl, at_byte (λ l. Tail l) b 58 s g (colon_tail s (allowed Value h))))
      (λ g h. wrong_absurd h)))

  parameter_start_byte : scan (step ParameterStart b) s ≡ true → Allowed ParameterStart (b ∷ s)
  unfolding step is_name
  parameter_start_byte =
      by_test (λ (x : State). scan x s ≡ true → Allowed ParameterStart (b ∷ s)) (is_name_byte b) _ _
      (λ e h. let (n, r, w, k, x) = allowed ParameterName h in (b ∷ n, r, cons_eq b w, and_both e k, x))
      (λ e h. wrong_absurd h)

  parameter_name_byte : scan (step ParameterName b) s ≡ true → Allowed ParameterName (b ∷ s)
  unfolding step
  parameter_name_byte =
      by_test (λ (x : State). scan x s ≡ true → Allowed ParameterName (b ∷ s)) (is_name_byte b) _ _
      (λ e h. let (n, r, w, k, x) = allowed ParameterName h in (b ∷ n, r, cons_eq b w, and_both e k, x))
      (λ e. by_test (λ (x : State). scan x s ≡ true → Allowed ParameterName (b ∷ s)) (eqb b 61) _ _
      (λ f h. ([], s, ap (λ (k : ℕ). k ∷ s) (eqb-true b 61 f), refl, allowed ValueStart h))
      (λ f h. wrong_absurd h))

  value_start_byte : scan (step ValueStart b) s ≡ true → Allowed ValueStart (b ∷ s)
  unfolding step
  value_start_byte =
      by_test (λ (x : State). scan x s ≡ true → Allowed ValueStart (b ∷ s)) (eqb b 34) _ _
      (λ e h. at_byte (λ l. AfterEquals l) b 34 s e (quoted_allowed s (allowed Quoted h)))
      (λ e h. unquoted_allowed (b ∷ s) (unquoted_byte e h))

  inside_byte : scan (step Unquoted b) s ≡ true → Allowed Unquoted (b ∷ s)
  unfolding step
  inside_byte =
      by_test (λ (x : State). scan x s ≡ true → Allowed Unquoted (b ∷ s)) (eqb b 34) _ _ (λ e h. wrong_absurd h) (λ e h. unquoted_byte e h)

  quoted_byte : scan (step Quoted b) s ≡ true → Allowed Quoted (b ∷ s)
  unfolding step is_quotable
  quoted_byte =
      by_test (λ (x : State). scan x s ≡ true → Allowed Quoted (b ∷ s)) (eqb b 34) _ _
      (λ e h. ([], s, ap (λ (k : ℕ). k ∷ s) (eqb-true b 34 e), refl, allowed AfterQuoted h))
      (λ e. by_test (λ (x : State). scan x s ≡ true → Allowed Quoted (b ∷ s)) (is_control b) _ _
      (λ f h. wrong_absurd h)
      (λ f h.
      let (v, r, w, k, x) = allowed Quoted h in
      (b ∷ v, r, cons_eq b w, and_both (ap not (or_neither e f)) k, x)))

  after_quoted_byte : scan (step AfterQuoted b) s ≡ true → Allowed AfterQuoted (b ∷ s)
  unfolding step
  after_quoted_byte = after_allowed (λ l. AfterValue l) (λ l w. w) Wrong (λ e f g h. wrong_absurd h)

  value_byte : scan (step Value b) s ≡ true → Allowed Value (b ∷ s)
  unfolding step is_value_byte
  value_byte =
      by_test (λ (x : State). scan x s ≡ true → Allowed Value (b ∷ s)) (is_control b) _ _
      (λ e h. wrong_absurd h)
      (λ e h. and_both (ap not e) (allowed Value h))

  allowed_byte : (q : State) → scan q (b ∷ s) ≡ true → Allowed q (b ∷ s)
  unfolding scan
  allowed_byte Start h = start_byte h
  allowed_byte Name h = name_byte h
  allowed_byte ParameterStart h = parameter_start_byte h
  allowed_byte ParameterName h = parameter_name_byte h
  allowed_byte ValueStart h = value_start_byte h
  allowed_byte Unquoted h = inside_byte h
  allowed_byte Quoted h = quoted_byte h
  allowed_byte AfterQuoted h = after_quoted_byte h
  allowed_byte Value h = value_byte h
  allowed_byte Wrong h = clash h (wrong_stays (b ∷ s))

allowed_end : (q : State) → scan q [] ≡ true → Allowed q []
unfolding scan
allowed_end q h = subst (λ (p : State). Allowed p []) (sym (ending_value q h)) refl

scan_allowed : (s : List ℕ) (q : State) → scan q s ≡ true → Allowed q s
scan_allowed [] q h = allowed_end q h
scan_allowed (b ∷ s) q h = allowed_byte b s (scan_allowed s) q h

-- ---- the theorem

-- what the scanner takes is a line of the grammar
pub well_formed_grammar : (l : List ℕ) → is_well_formed l ≡ true → (x : ContentLine) × LineGrammar l x
unfolding is_well_formed
well_formed_grammar l h =
    let (n, r, e, k, w) = scan_allowed l Start (and_right (leb (length l) 1024) _ h) in
    let (p, ps, v, f, xs, g) = w in
    let i : l ≡ n ++ (p ++ (58 ∷ v)) = e ∙ ap (λ (u : List ℕ). n ++ u) f in
    let fits : length l ≤ 1024 = leb-true _ _ (and_left (leb (length l) 1024) _ h) in (
      content_line n ps v,
      subst (λ (u : List ℕ). LineGrammar u (content_line n ps v)) (sym i)
          (colon k xs g (subst (λ (u : List ℕ). length u ≤ 1024) i fits)),
    )

line_short : {l : List ℕ} {x : ContentLine} → LineGrammar l x → length l ≤ 1024
line_short (colon e ps h k) = k

-- and the other way round
pub grammar_well_formed : {l : List ℕ} {x : ContentLine} → LineGrammar l x → is_well_formed l ≡ true
unfolding is_well_formed
grammar_well_formed g = and_both (le-leb _ _ (line_short g)) (scan_line g)
