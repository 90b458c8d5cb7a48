-- `contents::read_entry` meets its contract: what a component is decides how it is read, and of any other nothing is.
use Rattle.contents.proofs.RowKinds.{row_event, row_block, row_other}
use Rattle.contents.proofs.Contents.{other_good}
use Rattle.contents.proofs.read_entry.Goals as goal

pub kind_at-requires : goal.kind_at-requires
kind_at-requires c = c.requires.row_of.room

pub read_event-requires : goal.read_event-requires
read_event-requires c =
    let kind_at_told = c.kind_at in
    record {
      room = c.requires.room;
      n_bound = c.requires.n_bound;
      entries_len = c.requires.entries_len;
      links_len = c.requires.links_len;
      excluded_room = c.requires.excluded_room;
      context_good = c.requires.context_good;
      indexed = c.requires.indexed;
      row_of = c.requires.row_of;
      k_value = row_event c.requires.row_of kind_at_told.ensures c.in-1.is;
      a_lt_b = c.requires.a_lt_b;
    }

pub read_block-requires : goal.read_block-requires
read_block-requires c =
    let kind_at_told = c.kind_at in
    record {
      room = c.requires.room;
      n_bound = c.requires.n_bound;
      entries_len = c.requires.entries_len;
      links_len = c.requires.links_len;
      excluded_room = c.requires.excluded_room;
      context_good = c.requires.context_good;
      indexed = c.requires.indexed;
      row_of = c.requires.row_of;
      k_value = row_block c.requires.row_of kind_at_told.ensures c.in-2.is;
      a_lt_b = c.requires.a_lt_b;
    }

pub returns-in-1 : goal.returns-in-1
returns-in-1 c = c.read_event.ensures

pub returns-in-2 : goal.returns-in-2
returns-in-2 c = c.read_block.ensures

pub returns-in_default : goal.returns-in_default
returns-in_default c = other_good _ _ _ _ (row_other c.requires.row_of c.kind_at.ensures c.in_default.in_default-own.rest.0.1 c.in_default.in_default-own.rest.1) _ _ c.requires.row_of c.requires.excluded_room
