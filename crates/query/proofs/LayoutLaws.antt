-- The sections that are read are those that stand in the bytes as the layout says, and no others; so they lie inside.
use Rattle.std.specs.Prelude.{None, Option, Some}
use Prim.Native.Nat.{ℕ, zero, suc, ◌+◌, ◌*◌, ◌≤◌, ◌<◌}
use mathlib.Core.Path.{◌≡◌, refl, sym, ap, ◌∙◌, subst}
use mathlib.Core.Bool.{Bool, true, false}
use mathlib.Core.List.{List}
use native.Mathlib.Omega.{arith}
use lib.Dec.{ltb}
use lib.ListN.{length}
use borrow.Author.Tests.{lt-ltb, le-leb, ltb-true, ltb-false}
use Rattle.ascii.proofs.Bools.{and_both}
use Rattle.query.specs.Fits.{Fits}
use Rattle.query.specs.Layout.{Reached, CountedAt, Layout}
use Rattle.query.specs.Records.{text_place}
use Rattle.query.specs.Sections.{byte_at, count_fits, place_within, behind_records, behind_text, behind_texts, behind_text_section, section_at, sections_of}
use Rattle.query.specs.declared.Section.{Section}
use Rattle.query.specs.declared.Sections.{Sections}
use Rattle.query.proofs.Records.{start_below}
use Rattle.query.proofs.Fits.{layout_fits}
use Rattle.query.proofs.SectionsLaws.{no_place, reached, place_within_reached, texts_stop, count_least, count_most, behind_yes, text_yes, text_no, text_section_yes, records_count, records_end, texts_count, texts_end, no_first, no_second, no_third, no_fourth, no_fifth, all_five}

-- read sections and none are apart
no_sections : {A : Type 0} {r : Option Sections} {q : Sections} → r ≡ Some q → r ≡ None → A
no_sections e k = let z : ◌≡◌ {A = ℕ} 0 1 = cc in absurd (omega arith)

module _ (s : List ℕ) where
  text_end : (at p : ℕ) → behind_text s at ≡ Some p → Reached s (at + 1 + byte_at s at) p
  text_end at p e = go (ltb at (length s)) refl
    where
      go : (t : Bool) → ltb at (length s) ≡ t → Reached s (at + 1 + byte_at s at) p
      go true k = reached s _ p (text_yes s at (ltb-true at (length s) k) refl refl ∙ e)
      go false k = no_place e (text_no s at (ltb-false at (length s) k))

  -- behind n texts stands the place of text number n
  texts_step : (n at p : ℕ) → ((x : ℕ) → behind_texts s n x ≡ Some p → text_place s n x ≡ p) → (r : Option ℕ) → behind_text s at ≡ r
      → behind_texts s (suc n) at ≡ Some p
      → text_place s (suc n) at ≡ p
  unfolding behind_texts text_place
  texts_step n at p ih (Some x) k e = ap (text_place s n) (text_end at x k).is ∙ ih x (rw k at e)
  texts_step n at p ih None k e = no_place e (texts_stop s (suc n) at (omega arith) k)

  texts_reached : (n at p : ℕ) → behind_texts s n at ≡ Some p → text_place s n at ≡ p
  unfolding behind_texts text_place
  texts_reached zero at p e = cc
  texts_reached (suc n) at p e = texts_step n at p (λ x k. texts_reached n x p k) (behind_text s at) refl e

  -- texts that the bytes reach are read
  texts_reach : (n at : ℕ) → text_place s n at ≤ length s → behind_texts s n at ≡ Some (text_place s n at)
  unfolding behind_texts text_place
  texts_reach zero at h = refl
  texts_reach (suc n) at h =
      let p = at + 1 + byte_at s at in
      let g : p ≤ text_place s n p = start_below s n p in
      let k : behind_text s at ≡ Some p = sym (text_yes s at (omega arith) refl refl) ∙ place_within_reached s p (omega arith) in
      rw k (texts_reach n p h)

  -- a section that was read stands so
  counted : (least most place at : ℕ) → place ≡ at → count_fits s at least most ≡ true → CountedAt s place least most (section_at s at)
  counted least most place at e k =
      record {
        begins = ap (λ (n : ℕ). n + 1) (sym e);
        counts = ap (byte_at s) (sym e);
        least_holds = count_least s at least most k;
        most_holds = count_most s at least most k;
      }

  laid_out : (t c p r e : ℕ) → behind_records s 0 0 8 16 ≡ Some t → behind_text_section s t ≡ Some c
      → behind_records s c 1 16 4 ≡ Some p
      → behind_records s p 0 32 6 ≡ Some r
      → behind_records s r 0 32 5 ≡ Some e
      → Layout s
      (record {
        ranges = section_at s 0;
        texts = section_at s t;
        components = section_at s c;
        properties = section_at s p;
        parameters = section_at s r;
        end = e;
      })
  laid_out t c p r e one two three four five =
      record {
        ranges_laid = counted 0 8 0 0 refl (records_count s 0 0 8 16 one);
        texts_laid = counted 0 32 _ t (records_end s 0 0 8 16 one).is (texts_count s t two);
        components_laid = counted 1 16 _ c (texts_reached _ _ c (texts_end s t two)) (records_count s c 1 16 4 three);
        properties_laid = counted 0 32 _ p (records_end s c 1 16 4 three).is (records_count s p 0 32 6 four);
        parameters_laid = counted 0 32 _ r (records_end s p 0 32 6 four).is (records_count s r 0 32 5 five);
        ends = sym (records_end s r 0 32 5 five).is;
        inside = omega (arith, (records_end s r 0 32 5 five).is, (records_end s r 0 32 5 five).inside);
      }

  module _ (q : Sections) where
    -- what was read is laid out
    module _ (h : sections_of s ≡ Some q) where
      fifth : (t c p r : ℕ) → behind_records s 0 0 8 16 ≡ Some t → behind_text_section s t ≡ Some c
          → behind_records s c 1 16 4 ≡ Some p
          → behind_records s p 0 32 6 ≡ Some r
          → (x : Option ℕ)
          → behind_records s r 0 32 5 ≡ x
          → Layout s q
      fifth t c p r one two three four None k = no_sections h (no_fifth s one two three four k)
      fifth t c p r one two three four (Some e) k =
          let m = all_five s one two three four k refl refl refl refl refl ∙ h in
          subst (Layout s) (cc m) (laid_out t c p r e one two three four k)

      fourth : (t c p : ℕ) → behind_records s 0 0 8 16 ≡ Some t → behind_text_section s t ≡ Some c
          → behind_records s c 1 16 4 ≡ Some p
          → (x : Option ℕ)
          → behind_records s p 0 32 6 ≡ x
          → Layout s q
      fourth t c p one two three None k = no_sections h (no_fourth s one two three k)
      fourth t c p one two three (Some r) k = fifth t c p r one two three k (behind_records s r 0 32 5) refl

      third : (t c : ℕ) → behind_records s 0 0 8 16 ≡ Some t → behind_text_section s t ≡ Some c → (x : Option ℕ)
          → behind_records s c 1 16 4 ≡ x
          → Layout s q
      third t c one two None k = no_sections h (no_third s one two k)
      third t c one two (Some p) k = fourth t c p one two k (behind_records s p 0 32 6) refl

      second : (t : ℕ) → behind_records s 0 0 8 16 ≡ Some t → (x : Option ℕ) → behind_text_section s t ≡ x → Layout s q
      second t one None k = no_sections h (no_second s one k)
      second t one (Some c) k = third t c one k (behind_records s c 1 16 4) refl

      first : (x : Option ℕ) → behind_records s 0 0 8 16 ≡ x → Layout s q
      first None k = no_sections h (no_first s k)
      first (Some t) k = second t k (behind_text_section s t) refl

      pub layout_of : Layout s q
      layout_of = first (behind_records s 0 0 8 16) refl

    -- so what was read lies inside
    pub sections_fit : sections_of s ≡ Some q → Fits s q
    sections_fit e = layout_fits s q (layout_of e)

    -- and what is laid out is read
    module _ (l : Layout s q) where
      count_tests : {c : Section} (place least most : ℕ) → CountedAt s place least most c → place < length s → count_fits s place least most ≡ true
      unfolding count_fits
      count_tests place least most g h =
          let k = g.counts in
          and_both
          (and_both (lt-ltb place (length s) h) (le-leb least (byte_at s place) (omega (arith, g.least_holds))))
          (le-leb (byte_at s place) most (omega (arith, g.most_holds)))

      section_is : (c : Section) (place least most : ℕ) → CountedAt s place least most c → c ≡ section_at s place
      section_is c place least most g = rw (← g.counts, ← g.begins)

      records_at : (c : Section) (place least most width : ℕ) → CountedAt s place least most c → c.at + c.count * width ≤ length s
          → behind_records s place least most width ≡ Some (c.at + c.count * width)
      records_at c place least most width g h =
          let e : place + 1 + c.count * width ≡ c.at + c.count * width = ap (λ (n : ℕ). n + c.count * width) (sym g.begins) in
          sym (behind_yes s place least most width (count_tests place least most g (omega (arith, g.begins))) g.counts (ap (place_within s) (sym e)))
          ∙ place_within_reached s (c.at + c.count * width) h

      texts_at : behind_text_section s (q.ranges.at + q.ranges.count * 16) ≡ Some (text_place s q.texts.count q.texts.at)
      texts_at =
          let f = layout_fits s q l in
          let g = l.texts_laid in
          let h = l.components_laid in
          sym (text_section_yes s (q.ranges.at + q.ranges.count * 16)
          (count_tests _ 0 32 g (omega (arith, start_below s q.texts.count q.texts.at)))
          g.counts
          (sym (texts_reach q.texts.count q.texts.at (omega arith)) ∙ ap (behind_texts s q.texts.count) g.begins))

      pub layout_sections : sections_of s ≡ Some q
      layout_sections =
          let f = layout_fits s q l in
          let g = l.ends in
          sym (all_five s (records_at q.ranges 0 0 8 16 l.ranges_laid f.ranges_inside) texts_at
          (records_at q.components _ 1 16 4 l.components_laid f.components_inside)
          (records_at q.properties _ 0 32 6 l.properties_laid f.properties_inside)
          (records_at q.parameters _ 0 32 5 l.parameters_laid f.parameters_inside ∙ ap Some (sym g))
          (section_is q.ranges 0 0 8 l.ranges_laid)
          (section_is q.texts _ 0 32 l.texts_laid)
          (section_is q.components _ 1 16 l.components_laid)
          (section_is q.properties _ 0 32 l.properties_laid)
          (section_is q.parameters _ 0 32 l.parameters_laid))
