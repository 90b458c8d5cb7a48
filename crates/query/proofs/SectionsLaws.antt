-- Laws of places: a byte past the end, and each way out of a section.
use Rattle.std.specs.Prelude.{None, Option, Some}
use Prim.Native.Nat.{ℕ, zero, suc, ◌+◌, ◌*◌, ◌-◌, ◌≤◌, ◌<◌}
use mathlib.Core.Path.{◌≡◌, refl, sym, ap, ◌∙◌}
use mathlib.Core.Bool.{Bool, true, false, ◌&&◌}
use mathlib.Core.List.{List, [], ◌∷◌}
use native.Mathlib.Omega.{arith}
use native.Mathlib.Nat.{mul-le-mul}
use lib.Dec.{ltb, leb}
use lib.ListN.{length}
use borrow.Author.Tests.{ltb-true, leb-true, leb-false, lt-ltb, le-ltb, le-leb, lt-leb}
use Rattle.ascii.proofs.Bools.{and_left, and_right}
use Rattle.query.specs.Layout.{Reached}
use Rattle.query.specs.Sections.{byte_at, count_fits, place_within, behind_records, behind_text, behind_texts, behind_text_section, section_at, sections_of}
use Rattle.query.specs.declared.Section.{Section}

-- past the end a byte reads as 0
pub byte_past : (s : List ℕ) (i : ℕ) → length s ≤ i → byte_at s i ≡ 0
unfolding byte_at
byte_past [] i h = refl
byte_past (a ∷ s) zero h = absurd (omega arith)
byte_past (a ∷ s) (suc i) h = byte_past s i (omega arith)

module _ (s : List ℕ) where
  -- a place that the bytes reach, and one that they do not
  pub place_within_reached : (p : ℕ) → p ≤ length s → place_within s p ≡ Some p
  unfolding place_within
  place_within_reached p h = rw (le-leb p (length s) h)

  pub place_within_short : (p : ℕ) → length s < p → place_within s p ≡ None
  unfolding place_within
  place_within_short p h = rw (lt-leb p (length s) h)

  -- n texts: one is behind, or it does not fit
  pub texts_next : (n at p : ℕ) → 0 < n → behind_text s at ≡ Some p → behind_texts s (n - 1) p ≡ behind_texts s n at
  unfolding behind_texts
  texts_next zero at p h e = absurd (omega arith)
  texts_next (suc n) at p h e = let k : suc n - 1 ≡ n = omega arith in rw (k, e)

  pub texts_stop : (n at : ℕ) → 0 < n → behind_text s at ≡ None → behind_texts s n at ≡ None
  unfolding behind_texts
  texts_stop zero at h e = absurd (omega arith)
  texts_stop (suc n) at h e = rw e

  pub texts_none : (n at : ℕ) → n ≤ 0 → behind_texts s n at ≡ Some at
  unfolding behind_texts
  texts_none zero at h = refl
  texts_none (suc n) at h = absurd (omega arith)

-- a count that fits is a byte of the query, within its limits
module _ (s : List ℕ) (at least most : ℕ) (e : count_fits s at least most ≡ true) where
  pub count_inside : at < length s
  unfolding count_fits
  count_inside = ltb-true at (length s) (and_left _ (leb least (byte_at s at)) (and_left _ (leb (byte_at s at) most) e))

  pub count_least : least ≤ byte_at s at
  unfolding count_fits
  count_least = leb-true least (byte_at s at) (and_right (ltb at (length s)) _ (and_left _ (leb (byte_at s at) most) e))

  pub count_most : byte_at s at ≤ most
  unfolding count_fits
  count_most = leb-true (byte_at s at) most (and_right (ltb at (length s) && leb least (byte_at s at)) _ e)

-- a byte times the width of a record
pub product_fits : (n w : ℕ) → n < 256 → w ≤ 16 → n * w ≤ 4080
product_fits n w h k = let j : n ≤ 255 = omega arith in mul-le-mul j k

-- a section of records, by its count
module _ (s : List ℕ) (at least most width : ℕ) where
  pub behind_yes : {n : ℕ} {r : Option ℕ} → count_fits s at least most ≡ true → n ≡ byte_at s at → r ≡ place_within s (at + 1 + n * width)
      → r ≡ behind_records s at least most width
  unfolding behind_records
  behind_yes e k h = rw e (h ∙ ap (λ (m : ℕ). place_within s (at + 1 + m * width)) k)

  pub behind_no : count_fits s at least most ≡ false → behind_records s at least most width ≡ None
  unfolding behind_records
  behind_no e = rw e

-- one text, by its length byte
module _ (s : List ℕ) (at : ℕ) where
  pub text_yes : {n : ℕ} {r : Option ℕ} → at < length s → n ≡ byte_at s at → r ≡ place_within s (at + 1 + n) → r ≡ behind_text s at
  unfolding behind_text
  text_yes e k h = rw (lt-ltb at (length s) e) (h ∙ ap (λ (m : ℕ). place_within s (at + 1 + m)) k)

  pub text_no : length s ≤ at → behind_text s at ≡ None
  unfolding behind_text
  text_no e = rw (le-ltb at (length s) e)

  -- the section of texts, by its count
  pub text_section_yes : {n : ℕ} {r : Option ℕ} → count_fits s at 0 32 ≡ true → n ≡ byte_at s at → r ≡ behind_texts s n (at + 1)
      → r ≡ behind_text_section s at
  unfolding behind_text_section
  text_section_yes e k h = rw e (h ∙ ap (λ (m : ℕ). behind_texts s m (at + 1)) k)

  pub text_section_no : count_fits s at 0 32 ≡ false → behind_text_section s at ≡ None
  unfolding behind_text_section
  text_section_no e = rw e

-- a section from its two fields
abbrev pub section : ℕ → ℕ → Section
section n p = record { count = n; at = p }

-- a place and no place are apart
pub no_place : {A : Type 0} {r : Option ℕ} {p : ℕ} → r ≡ Some p → r ≡ None → A
no_place e k = let z : ◌≡◌ {A = ℕ} 0 1 = cc in absurd (omega arith)

-- a place that was answered is reached
pub reached : (s : List ℕ) (x p : ℕ) → place_within s x ≡ Some p → Reached s x p
reached s x p e = go (leb x (length s)) refl
  where
    go : (t : Bool) → leb x (length s) ≡ t → Reached s x p
    go true k =
        let h : x ≤ length s = leb-true x (length s) k in
        let j : Some p ≡ Some x = sym e ∙ place_within_reached s x h in
        record { is = cc; inside = h }
    go false k = no_place e (place_within_short s x (leb-false x (length s) k))

-- a section that fits: its count, and the place behind it
module _ (s : List ℕ) (at : ℕ) {p : ℕ} where
  module _ (least most width : ℕ) (e : behind_records s at least most width ≡ Some p) where
    pub records_count : count_fits s at least most ≡ true
    records_count = go (count_fits s at least most) refl
      where
        go : (t : Bool) → count_fits s at least most ≡ t → count_fits s at least most ≡ true
        go true k = k
        go false k = no_place e (behind_no s at least most width k)

    pub records_end : Reached s (at + 1 + byte_at s at * width) p
    records_end = reached s _ p (behind_yes s at least most width records_count refl refl ∙ e)

    pub records_inside : at < length s
    records_inside = count_inside s at least most records_count

  module _ (e : behind_text_section s at ≡ Some p) where
    pub texts_count : count_fits s at 0 32 ≡ true
    texts_count = go (count_fits s at 0 32) refl
      where
        go : (t : Bool) → count_fits s at 0 32 ≡ t → count_fits s at 0 32 ≡ true
        go true k = k
        go false k = no_place e (text_section_no s at k)

    pub texts_end : behind_texts s (byte_at s at) (at + 1) ≡ Some p
    texts_end = text_section_yes s at texts_count refl refl ∙ e

    pub texts_inside : at < length s
    texts_inside = count_inside s at 0 32 texts_count

-- the five sections, one behind the other, and each way not to be there
module _ (s : List ℕ) where
  pub no_first : behind_records s 0 0 8 16 ≡ None → sections_of s ≡ None
  unfolding sections_of
  no_first e = rw e

  module _ {t : ℕ} (one : behind_records s 0 0 8 16 ≡ Some t) where
    pub no_second : behind_text_section s t ≡ None → sections_of s ≡ None
    unfolding sections_of
    no_second e = rw (one, e)

    module _ {c : ℕ} (two : behind_text_section s t ≡ Some c) where
      pub no_third : behind_records s c 1 16 4 ≡ None → sections_of s ≡ None
      unfolding sections_of
      no_third e = rw (one, two, e)

      module _ {p : ℕ} (three : behind_records s c 1 16 4 ≡ Some p) where
        pub no_fourth : behind_records s p 0 32 6 ≡ None → sections_of s ≡ None
        unfolding sections_of
        no_fourth e = rw (one, two, three, e)

        module _ {q : ℕ} (four : behind_records s p 0 32 6 ≡ Some q) where
          pub no_fifth : behind_records s q 0 32 5 ≡ None → sections_of s ≡ None
          unfolding sections_of
          no_fifth e = rw (one, two, three, four, e)

          pub all_five : {e : ℕ} {r1 r2 r3 r4 r5 : Section} → behind_records s q 0 32 5 ≡ Some e → r1 ≡ section_at s 0
              → r2 ≡ section_at s t
              → r3 ≡ section_at s c
              → r4 ≡ section_at s p
              → r5 ≡ section_at s q
              → Some (record { ranges = r1; texts = r2; components = r3; properties = r4; parameters = r5; end = e }) ≡ sections_of s
          unfolding sections_of
          all_five five e1 e2 e3 e4 e5 = rw (one, two, three, four, five, e1, e2, e3, e4, e5)
