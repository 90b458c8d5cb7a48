-- `property_tests::parameters::parameter_passes` meets its contract: a record of another property asks nothing of the line.
use Rattle.property_tests.proofs.PropertyTests.{parameter_name_lem, parameter_text, parameter_asked, parameter_unasked}
use Rattle.property_tests.proofs.parameters.parameter_passes.Goals as goal

pub parameter_holds-requires : goal.parameter_holds-requires
parameter_holds-requires c =
    record {
      name_lt_count = parameter_name_lem _ _ _ c.requires.q_value c.requires.k_lt_count c.parameter_at-r.ensures;
      text_le_count = parameter_text _ _ _ c.requires.q_value c.requires.k_lt_count c.parameter_at-r.ensures;
    }

pub returns-then-r-i : goal.returns-then-r-i
returns-then-r-i c = parameter_asked _ _ _ _ _ c.parameter_at-r.ensures c.if-r-i.true c.parameter_holds.ensures

pub returns-else-r-i : goal.returns-else-r-i
returns-else-r-i c = parameter_unasked _ _ _ _ _ c.parameter_at-r.ensures c.if-r-i.false
