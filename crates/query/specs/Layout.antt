-- How the five sections stand in the bytes, said in plain equations (document 01, The query paper).
use Rattle.std.specs.Prelude.{ℕ, ◌+◌, ◌*◌, ◌≤◌, ◌≡◌, List, length}
use Rattle.query.specs.Sections.{byte_at}
use Rattle.query.specs.Records.{text_place}
use Rattle.query.specs.declared.Section.{Section}
use Rattle.query.specs.declared.Sections.{Sections}

-- the place x is p, and the bytes reach so far
pub record Reached (s : List ℕ) (x p : ℕ) : Type 0 where
  pub is : x ≡ p
  pub inside : x ≤ length s

-- a section: its count byte stands at a place, its records right behind it
pub record CountedAt (s : List ℕ) (place : ℕ) (least most : ℕ) (c : Section) : Type 0 where
  pub begins : c.at ≡ place + 1
  pub counts : c.count ≡ byte_at s place
  pub least_holds : least ≤ c.count
  pub most_holds : c.count ≤ most

-- the sections one behind the other, a byte that counts its records before each, and all inside the bytes
pub record Layout (s : List ℕ) (q : Sections) : Type 0 where
  pub ranges_laid : CountedAt s 0 0 8 q.ranges
  pub texts_laid : CountedAt s (q.ranges.at + q.ranges.count * 16) 0 32 q.texts
  pub components_laid : CountedAt s (text_place s q.texts.count q.texts.at) 1 16 q.components
  pub properties_laid : CountedAt s (q.components.at + q.components.count * 4) 0 32 q.properties
  pub parameters_laid : CountedAt s (q.properties.at + q.properties.count * 6) 0 32 q.parameters
  pub ends : q.end ≡ q.parameters.at + q.parameters.count * 5
  pub inside : q.end ≤ length s
