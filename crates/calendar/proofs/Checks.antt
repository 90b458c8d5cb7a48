-- The first fault of some lines and of those behind them.
use Rattle.std.specs.Prelude.{Err, Ok, Result}
use Prim.Native.Nat.{ℕ}
use Rattle.calendar.specs.declared.LineError.{LineError}
use mathlib.Core.Path.{◌≡◌, refl, sym, ap, ◌∙◌}
use mathlib.Core.List.{List, [], ◌∷◌}
use Rattle.values.specs.declared.times.Context.{Context}
use Rattle.property.specs.Facts.{Reading, unread, fault, of, unsupported, bad}
use Rattle.property.specs.Properties.{property_value_of}
use Rattle.property.specs.declared.Scope.{Scope}
use Rattle.nesting.specs.Components.{Numbered}
use Rattle.calendar.specs.Checks.{fault_else}
use Rattle.calendar.specs.Meaning.{fault_or, fault_in}

fault_else_twice : (a b r : Result (Unit {0}) LineError) → fault_else (fault_else a b) r ≡ fault_else a (fault_else b r)
unfolding fault_else
fault_else_twice (Ok _) b r = refl
fault_else_twice (Err f) b r = refl

fault_or_else : (n : ℕ) (x : Reading) (r : Result (Unit {0}) LineError) → fault_or n x r ≡ fault_else (fault_or n x (Ok tt)) r
unfolding fault_or fault_else
fault_or_else n unread r = refl
fault_or_else n (fault unsupported) r = refl
fault_or_else n (fault bad) r = refl
fault_or_else n (of f) r = refl

pub fault_in_else : (c : Context) (o : Scope) (xs : List Numbered) (r : Result (Unit {0}) LineError) → fault_in c o xs r ≡ fault_else (fault_in c o xs (Ok tt)) r
unfolding fault_in fault_else
fault_in_else c o [] r = refl
fault_in_else c o (x ∷ xs) r =
    let n = x.number in
    let y = property_value_of c o x.line in
    fault_or_else n y (fault_in c o xs r)
    ∙ ap (fault_else (fault_or n y (Ok tt))) (fault_in_else c o xs r)
    ∙ sym (fault_else_twice (fault_or n y (Ok tt)) (fault_in c o xs (Ok tt)) r)
    ∙ ap (λ (a : Result (Unit {0}) LineError). fault_else a r) (sym (fault_or_else n y (fault_in c o xs (Ok tt))))
