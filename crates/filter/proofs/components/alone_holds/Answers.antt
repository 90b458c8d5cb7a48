-- `filter::components::alone_holds` meets its contract: the name is asked first, then what the row rules out, then the component's own lines.
use Rattle.filter.proofs.Tests.{component_range}
use Rattle.filter.proofs.TrialsLaws.{alone_other, alone_out, alone_lines}
use Rattle.filter.proofs.components.alone_holds.Goals as goal

pub is_called-requires : goal.is_called-requires
is_called-requires c =
    record {
      indexed = c.requires.indexed;
      row_of = c.requires.row_of;
    }

pub returns-then-not-is_called : goal.returns-then-not-is_called
returns-then-not-is_called c = alone_other _ _ _ _ _ _ _ c.requires.name_value c.is_called.ensures c.if-not-is_called.true

pub component_at-r-requires : goal.component_at-r-requires
component_at-r-requires c =
    c.requires.j_lt_count

pub ruled_out-requires : goal.ruled_out-requires
ruled_out-requires c =
    record {
      q_value = c.requires.q_value;
      r_le_count = component_range _ _ _ c.requires.q_value c.requires.j_lt_count c.component_at-r.ensures;
      row_small = c.requires.row_small;
    }

pub returns-then-ruled_out : goal.returns-then-ruled_out
returns-then-ruled_out c =
    alone_out _ _ _ _ _ _ _
    c.requires.name_value
    c.is_called.ensures
    c.component_at-r.ensures
    c.ruled_out.ensures c.if-ruled_out.true

pub properties_hold-requires : goal.properties_hold-requires
properties_hold-requires c =
    record {
      q_value = c.requires.q_value;
      indexed = c.requires.indexed;
      row_of = c.requires.row_of;
    }

pub returns : goal.returns
returns c =
    alone_lines _ _ _ _ _ _ _
    c.requires.name_value
    c.is_called.ensures
    c.if-not-is_called.false
    c.properties_hold.ensures
