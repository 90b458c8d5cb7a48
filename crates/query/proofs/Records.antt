-- Laws of records read in place: from the bytes that were read to the record, the number or the text.
use Prim.Native.Nat.{ℕ, zero, suc, ◌+◌, ◌*◌, ◌-◌, ◌≤◌, ◌<◌}
use mathlib.Core.Path.{◌≡◌, refl, ap, ◌∙◌}
use mathlib.Core.List.{List}
use native.Mathlib.Numerals.{add-one}
use native.Mathlib.Omega.{arith}
use lib.ListN.{length, take, drop}
use Rattle.query.specs.Fits.{Fits}
use Rattle.query.specs.Sections.{byte_at}
use Rattle.query.specs.Records.{text_place, text_from, text_of, component_at, property_at, parameter_at}
use Rattle.query.specs.declared.Sections.{Sections}
use Rattle.query.specs.declared.ComponentRecord.{ComponentRecord}
use Rattle.query.specs.declared.PropertyRecord.{PropertyRecord}
use Rattle.query.specs.declared.ParameterRecord.{ParameterRecord}
use Rattle.query.proofs.Counting.{below_suc}

module _ (s : List ℕ) where
  -- the place of the next text
  pub place_suc : (n at : ℕ) → text_place s (suc n) at ≡ text_place s n at + 1 + byte_at s (text_place s n at)
  unfolding text_place
  place_suc zero at = refl
  place_suc (suc n) at = place_suc n (at + 1 + byte_at s at)

  pub place_start : (at : ℕ) → at ≡ text_place s 0 at
  unfolding text_place
  place_start at = refl

  pub place_next : {p b : ℕ} (n at : ℕ) → p ≡ text_place s n at → b ≡ byte_at s p → p + 1 + b ≡ text_place s (n + 1) at
  place_next {p} {b} n at e k =
      rw (add-one n, place_suc n at) (ap (λ (m : ℕ). p + 1 + m) k ∙ ap (λ (m : ℕ). m + 1 + byte_at s m) e)

  pub place_end : {p : ℕ} (i n at : ℕ) → i ≤ n → n ≤ i → p ≡ text_place s i at → p ≡ text_place s n at
  place_end i n at h k e = let j : i ≡ n = omega arith in e ∙ ap (λ (m : ℕ). text_place s m at) j

  -- later texts stand further on
  pub place_grows : (n m at : ℕ) → m ≤ n → text_place s m at ≤ text_place s n at
  place_grows zero m at h = let e : m ≡ 0 = omega arith in omega (arith, ap (λ (k : ℕ). text_place s k at) e)
  place_grows (suc n) m at h =
      below_suc (λ (k : ℕ). text_place s k at ≤ text_place s (suc n) at) (suc n) m (omega arith)
      (λ k. omega (arith, place_grows n m at (omega arith), place_suc n at))
      (omega arith)

  -- and none before the first
  pub start_below : (n at : ℕ) → at ≤ text_place s n at
  unfolding text_place
  start_below zero at = omega arith
  start_below (suc n) at = omega (arith, start_below n (at + 1 + byte_at s at))

  module _ (q : Sections) where
    -- a text that is there lies inside
    pub place_inside : {p b : ℕ} (n : ℕ) → Fits s q → n < q.texts.count → p ≡ text_place s n q.texts.at → b ≡ byte_at s p
        → p + 1 + b ≤ length s
    place_inside {p} {b} n f h e k =
        let j : b ≡ byte_at s (text_place s n q.texts.at) = k ∙ ap (byte_at s) e in
        omega (arith, f.texts_inside n h)

    pub text_is : {p b : ℕ} (n : ℕ) → p ≡ text_place s n q.texts.at → b ≡ byte_at s p
        → take (p + 1 + b - (p + 1)) (drop (p + 1) s) ≡ text_of s q n
    unfolding text_of text_from
    text_is {p} {b} n e k =
        let j : p + 1 + b - (p + 1) ≡ b = omega arith in
        rw (j, k) (ap (λ (m : ℕ). take (byte_at s m) (drop (m + 1) s)) e)

    -- a record from its bytes
    module _ (i : ℕ) where
      pub component_is : {a b c d : ℕ} → a ≡ byte_at s (q.components.at + i * 4) → b ≡ byte_at s (q.components.at + i * 4 + 1)
          → c ≡ byte_at s (q.components.at + i * 4 + 2)
          → d ≡ byte_at s (q.components.at + i * 4 + 3)
          → ◌≡◌ {A = ComponentRecord} (record { parent = a; name = b; range = c; flag = d }) (component_at s q i)
      unfolding component_at
      component_is e1 e2 e3 e4 = rw (e1, e2, e3, e4)

      pub property_is : {a b c d e f : ℕ} → a ≡ byte_at s (q.properties.at + i * 6) → b ≡ byte_at s (q.properties.at + i * 6 + 1)
          → c ≡ byte_at s (q.properties.at + i * 6 + 2)
          → d ≡ byte_at s (q.properties.at + i * 6 + 3)
          → e ≡ byte_at s (q.properties.at + i * 6 + 4)
          → f ≡ byte_at s (q.properties.at + i * 6 + 5)
          → ◌≡◌ {A = PropertyRecord} (record { component = a; name = b; range = c; text = d; collation = e; flag = f }) (property_at s q i)
      unfolding property_at
      property_is e1 e2 e3 e4 e5 e6 = rw (e1, e2, e3, e4, e5, e6)

      pub parameter_is : {a b c d e : ℕ} → a ≡ byte_at s (q.parameters.at + i * 5) → b ≡ byte_at s (q.parameters.at + i * 5 + 1)
          → c ≡ byte_at s (q.parameters.at + i * 5 + 2)
          → d ≡ byte_at s (q.parameters.at + i * 5 + 3)
          → e ≡ byte_at s (q.parameters.at + i * 5 + 4)
          → ◌≡◌ {A = ParameterRecord} (record { property = a; name = b; text = c; collation = d; flag = e }) (parameter_at s q i)
      unfolding parameter_at
      parameter_is e1 e2 e3 e4 e5 = rw (e1, e2, e3, e4, e5)
