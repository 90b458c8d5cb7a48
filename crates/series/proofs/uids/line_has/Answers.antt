-- `series::uids::line_has` meets its contract: a line is a UID or none, and of a UID the bytes of its value count.
use Rattle.index.proofs.Index.{entry_here, entry_name}
use Rattle.series.proofs.UidLaws.{line_uid, line_no_uid}
use Rattle.series.proofs.uids.line_has.Goals as goal

pub name_length-length-requires : goal.name_length-length-requires
name_length-length-requires c = entry_here c.requires.entry

pub property_value-requires : goal.property_value-requires
property_value-requires c =
    record {
      context_good = c.requires.context_good;
      n_value = entry_name c.requires.entry c.name_length-length.ensures c.line_at-line.ensures;
    }

pub value_behind-requires : goal.value_behind-requires
value_behind-requires c = entry_name c.requires.entry c.name_length-length.ensures c.line_at-line.ensures

pub returns-then-is_uid : goal.returns-then-is_uid
returns-then-is_uid c =
    let line_at_told = c.line_at-line in
    let property_value_told = c.property_value in
    let is_uid_told = c.is_uid in
    line_uid _ _ _ _ line_at_told.ensures property_value_told.ensures is_uid_told.ensures c.if-is_uid.true c.value_behind.ensures c.same_bytes.ensures

pub returns : goal.returns
returns c = line_no_uid _ _ _ _ c.line_at-line.ensures c.property_value.ensures c.is_uid.ensures c.if-is_uid.false
