-- `contents::read_event` meets its contract: what the lines say together is the event of the component, or breaks a rule.
use mathlib.Core.Path.{refl}
use mathlib.Core.Bool.{true}
use Rattle.contents.specs.Contents.{IdentitySmall}
use Rattle.component_lines.proofs.Lines.{lines_of, lines_tie, lines_refused}
use Rattle.contents.proofs.Contents.{entry_up, identity_fits, lines_fault_lem, event_entered, event_broken}
use native.Mathlib.Omega.{arith}
use Rattle.contents.proofs.read_event.Goals as goal

pub read_lines-requires : goal.read_lines-requires
read_lines-requires c =
    record {
      room = c.requires.room;
      first_bound = c.requires.n_bound;
      context_good = c.requires.context_good;
      indexed = c.requires.indexed;
      row_of = c.requires.row_of;
      b_le_last_second = c.requires.a_lt_b.1;
      s_len_bound = c.requires.excluded_room.long;
      room_from = c.requires.excluded_room.room;
      held_in_bounds = c.requires.excluded_room.few;
    }

pub enter_event-requires : goal.enter_event-requires
enter_event-requires c =
    let read_lines_told = c.read_lines in
    record {
      k_in_bounds = omega (arith, c.requires.row_of.few, c.requires.entries_len);
      k_in_bounds_2 = omega (arith, c.requires.row_of.few, c.requires.links_len);
      identity_small = identity_fits _ c.requires.k_value (lines_tie read_lines_told.ensures _ c.in_ok-read.was) refl c.requires.excluded_room.short c.requires.excluded_room.few;
    }

pub put_identity-requires : goal.put_identity-requires
unfolding IdentitySmall
put_identity-requires c =
    let read_lines_told = c.read_lines in
    record {
      k_in_bounds = omega (arith, c.requires.row_of.few, c.requires.links_len);
      link_small = identity_fits _ c.requires.k_value (lines_tie read_lines_told.ensures _ c.in_ok-read.was) refl c.requires.excluded_room.short c.requires.excluded_room.few true;
    }

pub returns-in-Some : goal.returns-in-Some
returns-in-Some c =
    let read_lines_told = c.read_lines in
    let event_by_told = c.event_by in
    let enter_event_told = c.enter_event in
    event_entered _ _ _ _ c.requires.k_value (lines_of read_lines_told.ensures _ c.in_ok-read.was) (lines_tie read_lines_told.ensures _ c.in_ok-read.was) event_by_told.ensures _ c.in-Some.is enter_event_told.ensures

pub returns-in-None : goal.returns-in-None
returns-in-None c =
    let read_lines_told = c.read_lines in
    let event_by_told = c.event_by in
    let put_identity_told = c.put_identity in
    event_broken _ _ _ _ c.requires.k_value (lines_of read_lines_told.ensures _ c.in_ok-read.was) (lines_tie read_lines_told.ensures _ c.in_ok-read.was) event_by_told.ensures _ c.in-None.is put_identity_told.ensures

pub returns-in_err-read : goal.returns-in_err-read
returns-in_err-read c = entry_up (lines_fault_lem _ _ c.requires.k_value (lines_refused c.read_lines.ensures _ c.in_err-read.was)) c.from_residual.ensures.1
