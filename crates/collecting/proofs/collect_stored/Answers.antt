-- `collecting::collect_stored` meets its contract, for at most 513 pieces are stored: with 513 there are more than 512, with fewer they are all.
use Rattle.contents.proofs.WalksLaws.{walks_pass, walks_refuse}
use Rattle.collecting.proofs.CollectStages.{contents_refuse, stated_room, contents_many, contents_few}
use native.Mathlib.Omega.{arith}
use Rattle.collecting.proofs.collect_stored.Goals as goal

pub read_components-requires : goal.read_components-requires
read_components-requires c =
    record {
      room = c.requires.room;
      entries_len = c.requires.entries_len;
      links_len = c.requires.links_len;
      s_len_bound = (c.requires.s_len_bound.0, omega (arith, c.requires.s_len_bound.1));
      context_good = c.requires.context_good;
      file_rows = c.requires.file_rows;
      a_lt_b = c.requires.start_lt_end;
    }

pub store_instances-n-requires : goal.store_instances-n-requires
store_instances-n-requires c =
    let told = walks_pass c.read_components.ensures _ c.in_ok-stated.was in
    let room = stated_room told c.requires.room in
    record {
      room = room.0;
      first_bound = room.1;
      exceptions_len_bound = omega (arith, c.exceptions-1.given, c.requires.s_len_bound.1);
      file_rows = c.requires.file_rows;
      entry_rows = told.entries;
      removable = told.removable;
      a_lt_b = c.requires.start_lt_end;
    }

pub tables_of-requires : goal.tables_of-requires
tables_of-requires c =
    let few = c.if-n-gt512.false in
    let room = stated_room (walks_pass c.read_components.ensures _ c.in_ok-stated.was) c.requires.room in
    record {
      spans_len = c.requires.spans_len;
      n_bound = few;
      n_in_bounds = omega (arith, room.0, few);
    }

pub returns-in_err-stated : goal.returns-in_err-stated
returns-in_err-stated c = contents_refuse _ _ _ _ (walks_refuse c.read_components.ensures _ c.in_err-stated.was) c.from_residual.ensures.1

pub returns-then-n-gt512 : goal.returns-then-n-gt512
returns-then-n-gt512 c = contents_many (walks_pass c.read_components.ensures _ c.in_ok-stated.was) c.store_instances-n.ensures c.if-n-gt512.true

pub returns : goal.returns
returns c =
    contents_few (walks_pass c.read_components.ensures _ c.in_ok-stated.was) c.store_instances-n.ensures c.if-n-gt512.false c.requires.room c.requires.start_lt_end.0 c.tables_of.ensures
