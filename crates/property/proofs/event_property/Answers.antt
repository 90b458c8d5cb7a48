-- `property::event_property` meets its contract: the length of the name decides which words are tried.
use mathlib.Core.Path.{refl}
use Rattle.property.proofs.Properties.{words_of_length, word_last, event_unread}
use Rattle.property.proofs.event_property.Goals as goal

pub returns-in-3 : goal.returns-in-3
returns-in-3 c = word_last c.same_name.ensures (words_of_length 3 c.in-3.is) c.then_some.ensures

pub returns-in-7 : goal.returns-in-7
returns-in-7 c = word_last c.same_name-in-7.ensures (words_of_length 7 c.in-7.is) c.then_some-in-7.ensures

pub returns-in-8 : goal.returns-in-8
returns-in-8 c = word_last c.same_name-in-8.ensures (words_of_length 8 c.in-8.is) c.then_some-in-8.ensures

pub returns-in-13 : goal.returns-in-13
returns-in-13 c = word_last c.same_name-in-13.ensures (words_of_length 13 c.in-13.is) c.then_some-in-13.ensures

pub returns-in_default : goal.returns-in_default
returns-in_default c =
    let name = c.args.name.now in
    let lengths = c.in_default.in_default-own.rest in
    event_unread name _ refl lengths.0.0.0.0.0.1 lengths.0.0.0.0.1 lengths.0.0.0.1 lengths.0.0.1 lengths.0.1 lengths.1
