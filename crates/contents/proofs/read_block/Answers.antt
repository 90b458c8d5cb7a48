-- `contents::read_block` meets its contract: as for an event, and its pieces are stored already.
use Rattle.component_lines.proofs.Lines.{lines_of, lines_tie, lines_refused}
use Rattle.contents.proofs.Contents.{entry_up, lines_fault_lem, block_good, block_broken_lem}
use native.Mathlib.Omega.{arith}
use Rattle.contents.proofs.read_block.Goals as goal

pub read_lines-requires : goal.read_lines-requires
read_lines-requires c =
    record {
      room = c.requires.room;
      first_bound = c.requires.n_bound;
      context_good = c.requires.context_good;
      indexed = c.requires.indexed;
      row_of = c.requires.row_of;
      b_le_last_second = c.requires.a_lt_b.1;
      s_len_bound = c.requires.excluded_room.long;
      room_from = c.requires.excluded_room.room;
      held_in_bounds = c.requires.excluded_room.few;
    }

pub put_block-requires : goal.put_block-requires
put_block-requires c = omega (arith, c.requires.row_of.few, c.requires.entries_len)

pub returns-in-Some : goal.returns-in-Some
returns-in-Some c =
    let read_lines_told = c.read_lines in
    let block_by_told = c.block_by in
    block_good _ _ _ _ c.requires.k_value (lines_of read_lines_told.ensures _ c.in_ok-read.was) (lines_tie read_lines_told.ensures _ c.in_ok-read.was) block_by_told.ensures _ c.in-Some.is c.put_block.ensures

pub returns-in-None : goal.returns-in-None
returns-in-None c =
    let read_lines_told = c.read_lines in
    block_broken_lem _ _ _ _ c.requires.k_value (lines_of read_lines_told.ensures _ c.in_ok-read.was) (lines_tie read_lines_told.ensures _ c.in_ok-read.was) c.block_by.ensures _ _ _ c.in-None.is

pub returns-in_err-read : goal.returns-in_err-read
returns-in_err-read c = entry_up (lines_fault_lem _ _ c.requires.k_value (lines_refused c.read_lines.ensures _ c.in_err-read.was)) c.from_residual.ensures.1
