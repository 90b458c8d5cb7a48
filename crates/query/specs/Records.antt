-- The records of a query (document 01, The query paper), each field one byte, and what the numbers in them refer to.
use Rattle.std.specs.Prelude.{ℕ, zero, suc, ◌+◌, ◌*◌, List, take, drop}
use Rattle.query.specs.Sections.{byte_at}
use Rattle.query.specs.declared.Sections.{Sections}
use Rattle.query.specs.declared.ComponentRecord.{ComponentRecord}
use Rattle.query.specs.declared.PropertyRecord.{PropertyRecord}
use Rattle.query.specs.declared.ParameterRecord.{ParameterRecord}

-- eight bytes, high byte first
unfoldable pub number8 : List ℕ → ℕ → ℕ
number8 s at =
    ((((((byte_at s at * 256 + byte_at s (at + 1)) * 256 + byte_at s (at + 2)) * 256 + byte_at s (at + 3)) * 256 + byte_at s (at + 4)) * 256 + byte_at s (at + 5))
    * 256
    + byte_at s (at + 6))
    * 256
    + byte_at s (at + 7)

-- range number i
unfoldable pub range_start : List ℕ → Sections → ℕ → ℕ
range_start s q i = number8 s (q.ranges.at + i * 16)

unfoldable pub range_end : List ℕ → Sections → ℕ → ℕ
range_end s q i = number8 s (q.ranges.at + i * 16 + 8)

-- where text number n begins, its length byte first
unfoldable pub text_place : List ℕ → ℕ → ℕ → ℕ
text_place s zero at = at
text_place s (suc n) at = text_place s n (at + 1 + byte_at s at)

unfoldable pub text_from : List ℕ → ℕ → List ℕ
text_from s p = take (byte_at s p) (drop (p + 1) s)

-- text number n
unfoldable pub text_of : List ℕ → Sections → ℕ → List ℕ
text_of s q n = text_from s (text_place s n q.texts.at)

-- component number i: parent, name, range, flag
unfoldable pub component_at : List ℕ → Sections → ℕ → ComponentRecord
component_at s q i =
    record {
      parent = byte_at s (q.components.at + i * 4);
      name = byte_at s (q.components.at + i * 4 + 1);
      range = byte_at s (q.components.at + i * 4 + 2);
      flag = byte_at s (q.components.at + i * 4 + 3);
    }

-- property number i: component, name, range, text, collation, flag
unfoldable pub property_at : List ℕ → Sections → ℕ → PropertyRecord
property_at s q i =
    record {
      component = byte_at s (q.properties.at + i * 6);
      name = byte_at s (q.properties.at + i * 6 + 1);
      range = byte_at s (q.properties.at + i * 6 + 2);
      text = byte_at s (q.properties.at + i * 6 + 3);
      collation = byte_at s (q.properties.at + i * 6 + 4);
      flag = byte_at s (q.properties.at + i * 6 + 5);
    }

-- parameter number i: property, name, text, collation, flag
unfoldable pub parameter_at : List ℕ → Sections → ℕ → ParameterRecord
parameter_at s q i =
    record {
      property = byte_at s (q.parameters.at + i * 5);
      name = byte_at s (q.parameters.at + i * 5 + 1);
      text = byte_at s (q.parameters.at + i * 5 + 2);
      collation = byte_at s (q.parameters.at + i * 5 + 3);
      flag = byte_at s (q.parameters.at + i * 5 + 4);
    }
