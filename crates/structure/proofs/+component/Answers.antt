-- `structure::component` meets its contract: the lines read so far are items whose rows stand, and leave the outcome to the lines that are left;
-- an inner component is read by the same function with one level less, and its row is written when it has ended.
use native.Mathlib.Omega.{arith}
use Rattle.structure.proofs.Reading.{stepped, reading_start, reading_end, reading_stays, reading_closes, reading_breaks}
use Rattle.structure.proofs.Reading.{reading_opens, opened_ready, opened_closes, opened_breaks, opened_row}
use Rattle.structure.proofs.+component.Goals as goal

pub loop-i-init : goal.loop-i-init
loop-i-init t c = reading_start _ _ c.requires.ready

pub overflow_sub-left-in-Opens : goal.overflow_sub-left-in-Opens
overflow_sub-left-in-Opens t c =
    let step = stepped c.loop-i.invariant c.loop-i-test.true c.line_at-line.ensures c.nesting_step.ensures in
    let opened = reading_opens step c.in-Opens.is c.value-inner.ensures in
    omega (arith, opened.room.some)

pub component-requires : goal.component-requires
component-requires t c =
    let step = stepped c.loop-i.invariant c.loop-i-test.true c.line_at-line.ensures c.nesting_step.ensures in
    let opened = reading_opens step c.in-Opens.is c.value-inner.ensures in
    (omega (arith, opened.room.some, c.decreases), (opened_ready opened, omega (arith, c.requires.left_bound)))

pub overflow_cast-j : goal.overflow_cast-j
overflow_cast-j t c =
    let step = stepped c.loop-i.invariant c.loop-i-test.true c.line_at-line.ensures c.nesting_step.ensures in
    let opened = reading_opens step c.in-Opens.is c.value-inner.ensures in
    let row = opened_row opened _ c.component.ensures _ _ c.in-Ok.is (omega arith) in
    omega (arith, row.2, c.requires.ready.many)

pub overflow_cast-m : goal.overflow_cast-m
overflow_cast-m t c =
    let step = stepped c.loop-i.invariant c.loop-i-test.true c.line_at-line.ensures c.nesting_step.ensures in
    let opened = reading_opens step c.in-Opens.is c.value-inner.ensures in
    let row = opened_row opened _ c.component.ensures _ _ c.in-Ok.is (omega arith) in
    omega (arith, row.3)

pub put_row-requires : goal.put_row-requires
put_row-requires t c =
    let step = stepped c.loop-i.invariant c.loop-i-test.true c.line_at-line.ensures c.nesting_step.ensures in
    let opened = reading_opens step c.in-Opens.is c.value-inner.ensures in
    (opened_row opened _ c.component.ensures _ _ c.in-Ok.is (omega arith)).0

pub loop-i-smaller-in-Ok : goal.loop-i-smaller-in-Ok
loop-i-smaller-in-Ok t c =
    let step = stepped c.loop-i.invariant c.loop-i-test.true c.line_at-line.ensures c.nesting_step.ensures in
    let opened = reading_opens step c.in-Opens.is c.value-inner.ensures in
    let row = opened_row opened _ c.component.ensures _ _ c.in-Ok.is (omega arith) in
    omega (arith, c.loop-i-test.true, row.1)

pub loop-i-preserved-in-Ok : goal.loop-i-preserved-in-Ok
loop-i-preserved-in-Ok t c =
    let step = stepped c.loop-i.invariant c.loop-i-test.true c.line_at-line.ensures c.nesting_step.ensures in
    let opened = reading_opens step c.in-Opens.is c.value-inner.ensures in
    opened_closes opened c.component.ensures _ _ c.in-Ok.is (omega arith) (omega arith) c.kind_of-kind.ensures c.put_row.ensures

pub returns-in-Err : goal.returns-in-Err
returns-in-Err t c =
    let step = stepped c.loop-i.invariant c.loop-i-test.true c.line_at-line.ensures c.nesting_step.ensures in
    let opened = reading_opens step c.in-Opens.is c.value-inner.ensures in
    opened_breaks opened _ _ c.component.ensures _ c.in-Err.is

pub loop-i-preserved : goal.loop-i-preserved
loop-i-preserved t c = reading_stays (stepped c.loop-i.invariant c.loop-i-test.true c.line_at-line.ensures c.nesting_step.ensures) c.in-Stays.is

pub returns-in-Closes : goal.returns-in-Closes
returns-in-Closes t c = reading_closes (stepped c.loop-i.invariant c.loop-i-test.true c.line_at-line.ensures c.nesting_step.ensures) c.in-Closes.is

pub returns-in-Breaks : goal.returns-in-Breaks
returns-in-Breaks t c = reading_breaks (stepped c.loop-i.invariant c.loop-i-test.true c.line_at-line.ensures c.nesting_step.ensures) _ c.in-Breaks.is

pub returns : goal.returns
returns t c = reading_end c.loop-i.invariant _ c.loop-i-test.false
