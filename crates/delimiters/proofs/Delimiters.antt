-- What a line is to the nesting: a BEGIN line, an END line, or a property.
use Prim.Native.Nat.{ℕ, ◌+◌, ◌-◌}
use mathlib.Core.Path.{◌≡◌, refl, sym, ap, ◌∙◌}
use mathlib.Core.Bool.{Bool, true, false, cond, not, ◌&&◌}
use mathlib.Core.List.{List, [], ◌∷◌, map}
use native.Mathlib.Omega.{arith}
use lib.Dec.{eqb}
use lib.ListN.{length, take, drop, get_or, length-map}
use borrow.Author.Tests.{ne_eqb, eqb-false, not-true}
use Rattle.ascii.specs.Names.{same_name, is_name}
use Rattle.ascii.specs.Words.{ascii}
use Rattle.ascii.specs.Bytes.{upper}
use Rattle.ascii.proofs.Bools.{and_left, and_right}
use Rattle.line.specs.Grammar.{ContentLine}
use Rattle.line.specs.Reading.{line_of, name_of, value_of, parameter_texts, parameter_of, Plain}
use Rattle.ascii.proofs.Lists.{suffix}
use Rattle.line.proofs.Reading.{other_first}
use Rattle.delimiters.specs.Delimiters.{delimiter_of, delimited_by, no_parameters}
use Rattle.delimiters.specs.declared.Delimiter.{Delimiter}
use Rattle.delimiters.specs.declared.Delimiter.TheVariants.{Begins, Ends, Property, Wrong}

-- ---- what a line is

no_parameters_holds : (ts : List (List ℕ)) → no_parameters (map parameter_of ts) ≡ eqb (length ts) 0
no_parameters_holds [] = refl
no_parameters_holds (t ∷ ts) = sym (ne_eqb (length (t ∷ ts)) 0 (λ e. omega arith))

-- the code's test is the rule's
delimited_test : (l : List ℕ) (n : ℕ) (b : Bool) → n ≡ length (parameter_texts l) → b ≡ is_name (value_of l)
    → (no_parameters (line_of l).parameters && is_name (line_of l).value) ≡ (eqb n 0 && b)
unfolding line_of
delimited_test l n b p q = rw (no_parameters_holds (parameter_texts l), p, q)

pub delimited_tested : (l : List ℕ) (m : Delimiter) (n : ℕ) (b : Bool) → n ≡ length (parameter_texts l) → b ≡ is_name (value_of l)
    → {t : Bool} → (eqb n 0 && b) ≡ t → cond t m Wrong ≡ delimited_by (line_of l) m
delimited_tested l m n b p q e = sym (ap (λ (t : Bool). cond t m Wrong) (delimited_test l n b p q ∙ e))

-- where the colon stands right behind the name, the value is what is left
module _ {l : List ℕ} {n : ℕ} (p : Plain l n) (m : Delimiter) (b : Bool) (q : b ≡ is_name (take (length l - (n + 1)) (drop (n + 1) l))) where
  plain_count : 0 ≡ length (parameter_texts l)
  unfolding line_of
  plain_count = sym (ap length p.no_parameters_holds) ∙ length-map (parameter_texts l) parameter_of

  plain_named : b ≡ is_name (value_of l)
  plain_named = q ∙ ap is_name (suffix l (n + 1) ∙ sym p.value_behind)

  pub plain_tested : {t : Bool} → b ≡ t → cond t m Wrong ≡ delimited_by (line_of l) m
  plain_tested e = delimited_tested l m 0 b plain_count plain_named e

-- the delimiter that a line is, whose name is BEGIN, or is END
abbrev pub delimiting : ContentLine → Bool → Bool → Delimiter
delimiting x a b = cond a (delimited_by x Begins) (cond b (delimited_by x Ends) Property)

module _ (l : List ℕ) (t : Bool) (q : t ≡ same_name (name_of l) (ascii "BEGIN")) where
  delimiter_is : (u : Bool) → u ≡ same_name (name_of l) (ascii "END") → delimiter_of (line_of l) ≡ delimiting (line_of l) t u
  unfolding delimiter_of line_of
  delimiter_is u v = rw (q, v)

  pub delimiter_begin : (r : Delimiter) → t ≡ true → r ≡ delimited_by (line_of l) Begins → r ≡ delimiter_of (line_of l)
  delimiter_begin r e h = h ∙ sym (delimiter_is (same_name (name_of l) (ascii "END")) refl ∙ ap (λ (a : Bool). delimiting (line_of l) a (same_name (name_of l) (ascii "END"))) e)

  module _ (u : Bool) (v : u ≡ same_name (name_of l) (ascii "END")) (e : t ≡ false) where
    pub delimiter_later : (b : Bool) → u ≡ b → delimiter_of (line_of l) ≡ delimiting (line_of l) false b
    delimiter_later b f = delimiter_is u v ∙ ap (λ (a : Bool). delimiting (line_of l) a u) e ∙ ap (delimiting (line_of l) false) f

    pub delimiter_end : (r : Delimiter) → u ≡ true → r ≡ delimited_by (line_of l) Ends → r ≡ delimiter_of (line_of l)
    delimiter_end r f h = h ∙ sym (delimiter_later true f)

    pub delimiter_property : u ≡ false → Property ≡ delimiter_of (line_of l)
    delimiter_property f = sym (delimiter_later false f)

-- a line that begins with neither B nor E is a property
pub delimiter_other : (l : List ℕ) (b : ℕ) → b ≡ upper (get_or l 0 0) → (not (eqb b 66) && not (eqb b 69)) ≡ true → Property ≡ delimiter_of (line_of l)
unfolding upper
delimiter_other l b e h =
    delimiter_property l false
    (sym (other_first l (ascii "BEGIN") (omega arith) (λ q. eqb-false b 66 (not-true _ (and_left _ _ h)) (e ∙ q))))
    false
    (sym (other_first l (ascii "END") (omega arith) (λ q. eqb-false b 69 (not-true _ (and_right (not (eqb b 66)) _ h)) (e ∙ q))))
    refl
    refl
