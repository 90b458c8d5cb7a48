-- `property::event_of_five` meets its contract. Only the words as long as the name can be meant: those are tried in their order.
use Rattle.property.proofs.Properties.{words_of_length, word_found, word_other, word_last}
use Rattle.property.proofs.event_of_five.Goals as goal

pub returns-then-same_name : goal.returns-then-same_name
returns-then-same_name c = word_found c.same_name.ensures (words_of_length 5 c.requires) c.if-same_name.true

pub returns-then-same_name-2 : goal.returns-then-same_name-2
returns-then-same_name-2 c = word_found c.same_name-2.ensures (word_other c.same_name.ensures (words_of_length 5 c.requires) c.if-same_name.false) c.if-same_name-2.true

pub returns : goal.returns
returns c = word_last c.same_name-3.ensures (word_other c.same_name-2.ensures (word_other c.same_name.ensures (words_of_length 5 c.requires) c.if-same_name.false) c.if-same_name-2.false) c.then_some.ensures
