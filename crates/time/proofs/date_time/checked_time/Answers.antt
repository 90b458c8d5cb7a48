-- `time::date_time::checked_time` meets its contract: the test that was taken bounds hour, minute and second; the second 60 has its own way out.
use Rattle.time.proofs.DateTime.{time_parts, checked_time_last, checked_time_of, checked_time_bad}
use native.Mathlib.Omega.{arith}
use Rattle.time.proofs.date_time.checked_time.Goals as goal

pub overflow_mul-result : goal.overflow_mul-result
overflow_mul-result c = omega (arith, time_parts c.args.h c.args.m c.args.s c.if-h-m.true)

pub overflow_mul-result-then-s-eq60 : goal.overflow_mul-result-then-s-eq60
overflow_mul-result-then-s-eq60 c = omega (arith, time_parts c.args.h c.args.m c.args.s c.if-h-m.true)

pub overflow_add-result : goal.overflow_add-result
overflow_add-result c = omega (arith, time_parts c.args.h c.args.m c.args.s c.if-h-m.true)

pub overflow_add-result-then-s-eq60 : goal.overflow_add-result-then-s-eq60
overflow_add-result-then-s-eq60 c = omega (arith, time_parts c.args.h c.args.m c.args.s c.if-h-m.true)

pub returns-then-s-eq60 : goal.returns-then-s-eq60
returns-then-s-eq60 c = checked_time_last _ _ _ c.if-h-m.true c.if-s-eq60.true

pub overflow_mul-result-then-h-m : goal.overflow_mul-result-then-h-m
overflow_mul-result-then-h-m c = omega (arith, time_parts c.args.h c.args.m c.args.s c.if-h-m.true)

pub overflow_mul-result-then-h-m-2 : goal.overflow_mul-result-then-h-m-2
overflow_mul-result-then-h-m-2 c = omega (arith, time_parts c.args.h c.args.m c.args.s c.if-h-m.true)

pub overflow_add-result-then-h-m : goal.overflow_add-result-then-h-m
overflow_add-result-then-h-m c = omega (arith, time_parts c.args.h c.args.m c.args.s c.if-h-m.true)

pub overflow_add-result-then-h-m-2 : goal.overflow_add-result-then-h-m-2
overflow_add-result-then-h-m-2 c = omega (arith, time_parts c.args.h c.args.m c.args.s c.if-h-m.true)

pub returns-then-h-m : goal.returns-then-h-m
returns-then-h-m c = checked_time_of _ _ _ c.if-h-m.true c.if-s-eq60.false

pub returns : goal.returns
returns c = checked_time_bad _ _ _ c.if-h-m.false
