-- `contents::read_contents` meets its contract: the components before a row have no value at fault, and with those from it on they make the answer, the links, the pieces and the rows of all.
use mathlib.Core.Path.{refl}
use Rattle.structure.proofs.RowsLaws.{file_next}
use Rattle.contents.proofs.Contents.{contents_start, here, contents_good, contents_broken, contents_fault, fault_told, contents_end}
use native.Mathlib.Omega.{arith}
use Rattle.contents.proofs.read_contents.Goals as goal
use Rattle.contents.proofs.read_contents.Goals.{in-Some, in-None}

pub next_row-m-requires : goal.next_row-m-requires
next_row-m-requires c = (file_next c.requires.file_rows).row.room

pub loop-k-init : goal.loop-k-init
loop-k-init c = (contents_start _ _ _ c.requires.file_rows c.requires.room c.requires.entries_len c.requires.links_len c.requires.s_len_bound c.next_row-m.ensures, refl)

pub read_entry-requires-clause-row_of : goal.read_entry-requires-clause-row_of
read_entry-requires-clause-row_of c = (here c.loop-k.invariant.0 c.loop-k-test.true).here.row

pub returns-in_err-entry : goal.returns-in_err-entry
returns-in_err-entry c =
    let whole = contents_fault c.loop-k.invariant.0 c.loop-k-test.true _ c.read_entry.ensures (omega arith) (omega arith) (omega arith) _ c.in_err-entry.was in
    fault_told c.requires.file_rows c.next_row-m.ensures whole c.from_residual.ensures.1

pub loop-k-smaller : goal.loop-k-smaller
loop-k-smaller c =
    let z = (here c.loop-k.invariant.0 c.loop-k-test.true).here in
    omega (arith, z.onward, z.within, c.next_row-k.ensures)

pub loop-k-preserved : goal.loop-k-preserved
loop-k-preserved c =
    let inv = c.loop-k.invariant in
    let test = c.loop-k-test.true in
    let read = c.read_entry.ensures in
    let next = c.next_row-k.ensures in (
      elim c.match-entry.branch [
        | in-Some w ↦ rw (w.rules-is, w.n-is) (contents_good inv.0 test _ read (omega arith) (omega arith) (omega arith) _ _ c.in_ok-entry.was w.in-Some.is next)
        | in-None w ↦ rw (w.rules-is, w.n-is) (contents_broken inv.0 test _ read (omega arith) (omega arith) (omega arith) _ c.in_ok-entry.was w.in-None.is next w.first_line.ensures w.broken_else-rules.ensures)
      ],
      omega (arith, inv.1),
    )

pub returns : goal.returns
returns c = contents_end c.requires.file_rows c.next_row-m.ensures c.loop-k.invariant.0 c.loop-k-test.false
