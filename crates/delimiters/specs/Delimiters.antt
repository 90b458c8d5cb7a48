-- What a line is to the nesting (document 01, Nesting): a BEGIN line, an END line, or a property.
use Rattle.std.specs.Prelude.{Bool, true, false, cond, ◌&&◌, List, [], ◌∷◌}
use Rattle.ascii.specs.Names.{same_name, is_name}
use Rattle.ascii.specs.Words.{ascii}
use Rattle.line.specs.Grammar.{ContentLine, Parameter}
use Rattle.delimiters.specs.declared.Delimiter.{Delimiter}
use Rattle.delimiters.specs.declared.Delimiter.TheVariants.{Begins, Ends, Property, Wrong}

abbrev pub no_parameters : List Parameter → Bool
no_parameters [] = true
no_parameters (p ∷ ps) = false

-- BEGIN and END lines have no parameters, and a name as value
abbrev pub delimited_by : ContentLine → Delimiter → Delimiter
delimited_by x m = cond (no_parameters x.parameters && is_name x.value) m Wrong

unfoldable pub delimiter_of : ContentLine → Delimiter
delimiter_of x =
    cond (same_name x.name (ascii "BEGIN")) (delimited_by x Begins) (cond (same_name x.name (ascii "END")) (delimited_by x Ends) Property)
