-- The sections of a query (document 01, The query paper): where the records of each begin, read in place from the bytes.
use Rattle.std.specs.Prelude.{ℕ, zero, suc, ◌+◌, ◌*◌, Bool, cond, ◌&&◌, List, ltb, leb, length, get_or, None, Option, Some}
use Rattle.query.specs.declared.Sections.{Sections}
use Rattle.query.specs.declared.Section.{Section}

-- a byte; past the end it reads as 0
unfoldable pub byte_at : List ℕ → ℕ → ℕ
byte_at s i = get_or s i 0

-- a one-byte count at a place, from least to most
unfoldable pub count_fits : List ℕ → ℕ → ℕ → ℕ → Bool
count_fits s at least most = ltb at (length s) && leb least (byte_at s at) && leb (byte_at s at) most

-- the place, where the bytes reach so far
unfoldable pub place_within : List ℕ → ℕ → Option ℕ
place_within s p = cond (leb p (length s)) (Some p) None

-- a section of records of one width: the place behind it
unfoldable pub behind_records : List ℕ → ℕ → ℕ → ℕ → ℕ → Option ℕ
behind_records s at least most width = cond (count_fits s at least most) (place_within s (at + 1 + byte_at s at * width)) None

-- one text: a length byte, then as many bytes
unfoldable pub behind_text : List ℕ → ℕ → Option ℕ
behind_text s at = cond (ltb at (length s)) (place_within s (at + 1 + byte_at s at)) None

abbrev pub and_then : Option ℕ → (ℕ → Option ℕ) → Option ℕ
and_then (Some p) f = f p
and_then None f = None

-- n texts, one behind the other
unfoldable pub behind_texts : List ℕ → ℕ → ℕ → Option ℕ
behind_texts s zero at = Some at
behind_texts s (suc n) at = and_then (behind_text s at) (λ p. behind_texts s n p)

-- the section of texts: 0 to 32
unfoldable pub behind_text_section : List ℕ → ℕ → Option ℕ
behind_text_section s at = cond (count_fits s at 0 32) (behind_texts s (byte_at s at) (at + 1)) None

abbrev pub sections_then : Option ℕ → (ℕ → Option Sections) → Option Sections
sections_then (Some p) f = f p
sections_then None f = None

-- a section whose count byte stands at a place
abbrev pub section_at : List ℕ → ℕ → Section
section_at s at = record { count = byte_at s at; at = at + 1 }

-- the five sections: 0 to 8 ranges of 16 bytes, texts, 1 to 16 components of 4 bytes, 0 to 32 properties of 6, 0 to 32
-- parameters of 5; where the last ends is part of the answer, and whether anything follows is asked apart
unfoldable pub sections_of : List ℕ → Option Sections
sections_of s =
    sections_then (behind_records s 0 0 8 16)
    (λ t. sections_then (behind_text_section s t)
    (λ c. sections_then (behind_records s c 1 16 4)
    (λ p. sections_then (behind_records s p 0 32 6)
    (λ q. sections_then (behind_records s q 0 32 5)
    (λ e. Some
    (record {
      ranges = section_at s 0;
      texts = section_at s t;
      components = section_at s c;
      properties = section_at s p;
      parameters = section_at s q;
      end = e;
    }))))))
