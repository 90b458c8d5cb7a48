-- `property_tests::property_passes` meets its contract: a record of another component asks nothing of these lines.
use Rattle.property_tests.proofs.PropertyTests.{property_asked, property_unasked}
use Rattle.property_tests.proofs.property_passes.Goals as goal

pub property_holds-requires : goal.property_holds-requires
property_holds-requires c =
    record {
      q_value = c.requires.q_value;
      i_lt_count = c.requires.i_lt_count;
      indexed = c.requires.indexed;
      row_of = c.requires.row_of;
    }

pub returns-then-r-j : goal.returns-then-r-j
returns-then-r-j c = property_asked _ _ _ c.property_at-r.ensures _ _ c.if-r-j.true c.property_holds.ensures

pub returns-else-r-j : goal.returns-else-r-j
returns-else-r-j c = property_unasked _ _ _ c.property_at-r.ensures _ _ c.if-r-j.false
