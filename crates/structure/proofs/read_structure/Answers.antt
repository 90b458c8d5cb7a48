-- `structure::read_structure` meets its contract: the index has room for every line, so what is found is the structure.
use Rattle.structure.proofs.Reading.{found_structure, found_full}
use native.Mathlib.Omega.{arith}
use Rattle.structure.proofs.read_structure.Goals as goal

pub returns-in-Some : goal.returns-in-Some
returns-in-Some c = found_structure _ _ _ c.find_structure.ensures c.in-Some.is

pub returns-in-None : goal.returns-in-None
returns-in-None c =
    let find_structure = c.find_structure.ensures in
    absurd (omega (arith, c.requires.s_len_bound, found_full _ _ _ find_structure c.in-None.is))
