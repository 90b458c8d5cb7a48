-- `vectors::calendars::fault_of` is safe and ends: without refusal 6 or 7 index and rows know the calendar.
use Rattle.vectors.proofs.calendars.fault_of.Goals as goal

pub contents_fault-requires-clause-file_rows : goal.contents_fault-requires-clause-file_rows
contents_fault-requires-clause-file_rows c = c.read_structure.ensures.known c.in_ok-read_structure.was
