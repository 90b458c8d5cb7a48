-- What the readers of single records ask of sections, and what a read byte is.
use Rattle.std.specs.Prelude.{ℕ, ◌+◌, ◌*◌, ◌≤◌, ◌<◌, ◌≡◌, List, length}
use Rattle.query.specs.Sections.{byte_at}
use Rattle.query.specs.Records.{text_place}
use Rattle.query.specs.declared.Sections.{Sections}

-- the byte at a place, as a number
pub record ByteOf (s : List ℕ) (i r : ℕ) : Type 0 where
  pub is : r ≡ byte_at s i
  pub small : r < 256

-- the sections lie inside the bytes, and each has no more records than it may have
pub record Fits (s : List ℕ) (q : Sections) : Type 0 where
  pub ranges_inside : q.ranges.at + q.ranges.count * 16 ≤ length s
  pub texts_inside : (n : ℕ) → n < q.texts.count → text_place s n q.texts.at + 1 + byte_at s (text_place s n q.texts.at) ≤ length s
  pub components_inside : q.components.at + q.components.count * 4 ≤ length s
  pub properties_inside : q.properties.at + q.properties.count * 6 ≤ length s
  pub parameters_inside : q.parameters.at + q.parameters.count * 5 ≤ length s
  pub ranges_few : q.ranges.count ≤ 8
  pub texts_few : q.texts.count ≤ 32
  pub components_some : 1 ≤ q.components.count
  pub components_few : q.components.count ≤ 16
  pub properties_few : q.properties.count ≤ 32
  pub parameters_few : q.parameters.count ≤ 32
