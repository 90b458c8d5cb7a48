-- `line::read::is_called` meets its contract: names of two lengths differ, and so many bytes of the line are its name.
use mathlib.Core.List.{List}
use Prim.Native.Nat.{ℕ}
use lib.Seq.{length-take-le}
use Rattle.ascii.specs.Names.{same_name}
use Rattle.ascii.proofs.Names.{same_name_length}
use Rattle.line.specs.Reading.{name_of}
use Rattle.line.proofs.Reading.{name_take, name_fits}
use mathlib.Core.Path.{sym, ap, ◌∙◌}
use native.Mathlib.Omega.{arith}
use Rattle.line.proofs.read.is_called.Goals as goal

pub returns-then-n-name : goal.returns-then-n-name
returns-then-n-name c = sym (same_name_length (name_of c.args.line.now) c.args.name.now (λ e. c.if-n-name.true (c.requires ∙ e)))

pub slice_bounds-same_name-end : goal.slice_bounds-same_name-end
slice_bounds-same_name-end c = sym (length-take-le _ _ (omega (arith, c.requires, name_fits c.args.line.now)))

pub returns : goal.returns
returns c =
    let name = c.args.name.now in
    let line = c.args.line.now in
    let size = c.requires in
    c.same_name.ensures ∙ ap (λ (x : List ℕ). same_name x name) (name_take line _ size)
