-- `property::free_busy_property` meets its contract: the length of the name decides which words are tried.
use mathlib.Core.Path.{refl}
use Rattle.property.proofs.Properties.{words_of_length, word_last, free_busy_unread}
use Rattle.property.proofs.free_busy_property.Goals as goal

pub returns-in-5 : goal.returns-in-5
returns-in-5 c = word_last c.same_name.ensures (words_of_length 5 c.in-5.is) c.then_some.ensures

pub returns-in-7 : goal.returns-in-7
returns-in-7 c = word_last c.same_name-in-7.ensures (words_of_length 7 c.in-7.is) c.then_some-in-7.ensures

pub returns-in-8 : goal.returns-in-8
returns-in-8 c = word_last c.same_name-in-8.ensures (words_of_length 8 c.in-8.is) c.then_some-in-8.ensures

pub returns-in_default : goal.returns-in_default
returns-in_default c = free_busy_unread c.args.name.now _ refl c.in_default.in_default-own.rest.0.0.1 c.in_default.in_default-own.rest.0.1 c.in_default.in_default-own.rest.1
