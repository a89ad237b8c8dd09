use Rattle.value_domain.proofs.values.member.Goals as goal

pub returns-in-Set : goal.returns-in-Set
returns-in-Set c = rw c.in-Set.is (rw c.as_slice.ensures.items at c.is_word_of_set.ensures)
