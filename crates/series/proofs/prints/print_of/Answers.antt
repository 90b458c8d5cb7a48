-- `series::prints::print_of` meets its contract: what is no longer than 1,024 bytes is its own start.
use lib.Seq.{length-take-le}
use mathlib.Core.Path.{sym}
use Rattle.series.proofs.PrintLaws.{print_long, print_short}
use native.Mathlib.Omega.{arith}
use Rattle.series.proofs.prints.print_of.Goals as goal

pub slice_bounds-fingerprint-end : goal.slice_bounds-fingerprint-end
slice_bounds-fingerprint-end c = sym (length-take-le 1024 c.args.u.now (omega (arith, c.if-u-gt1024.true)))

pub fingerprint-requires : goal.fingerprint-requires
fingerprint-requires c = omega (arith, length-take-le 1024 c.args.u.now (omega (arith, c.if-u-gt1024.true)))

pub returns-then-u-gt1024 : goal.returns-then-u-gt1024
returns-then-u-gt1024 c = print_long _ c.fingerprint.ensures

pub fingerprint-requires-2 : goal.fingerprint-requires-2
fingerprint-requires-2 c = c.if-u-gt1024.false

pub returns : goal.returns
returns c = print_short _ c.if-u-gt1024.false c.fingerprint-2.ensures
