-- `property_tests::property_holds` meets its contract: the flag decides which of the two questions is asked; the record's texts are looked up first.
use Rattle.property_tests.proofs.PropertyTests.{property_name_lem, property_text, property_absent, property_there}
use Rattle.property_tests.proofs.property_holds.Goals as goal

pub text_of-name-requires : goal.text_of-name-requires
text_of-name-requires c =
    let read = c.property_at-r.ensures in
    property_name_lem _ _ _ read c.requires.q_value c.requires.i_lt_count

pub some_named-requires : goal.some_named-requires
some_named-requires c =
    record {
      indexed = c.requires.indexed;
      row_of = c.requires.row_of;
    }

pub returns-then-r-eq1 : goal.returns-then-r-eq1
returns-then-r-eq1 c = property_absent _ _ _ c.property_at-r.ensures _ c.text_of-name.ensures c.if-r-eq1.true c.some_named.ensures

pub text_or-text-requires : goal.text_or-text-requires
text_or-text-requires c =
    property_text _ _ _ c.property_at-r.ensures c.requires.q_value c.requires.i_lt_count

pub some_line-requires : goal.some_line-requires
some_line-requires c =
    record {
      q_value = c.requires.q_value;
      name_value = c.text_of-name.ensures;
      text_value = c.text_or-text.ensures;
      indexed = c.requires.indexed;
      row_of = c.requires.row_of;
    }

pub returns : goal.returns
returns c = property_there _ _ _ c.property_at-r.ensures _ c.if-r-eq1.false c.some_line.ensures
