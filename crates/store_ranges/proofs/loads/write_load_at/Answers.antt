use Rattle.std.proofs.Common.{[], ◌∷◌, ap, ◌∙◌, sym}
use Rattle.value_domain.specs.Values.{cover}
use Rattle.value_domain.proofs.RangeLaws.{one_value}
use Rattle.store_ranges.specs.Loads.{device_of_loads, loaded_word_or_answers}
use Rattle.store_ranges.proofs.loads.write_load_at.Goals as goal

pub set_words-requires : goal.set_words-requires
set_words-requires c = (one_value c.args.b.now c.extend_loaded_number.result c.most_words-most_words.ensures.limits c.extend_loaded_number.type_inv).well

pub returns-in-Some-clause-loaded : goal.returns-in-Some-clause-loaded
returns-in-Some-clause-loaded c =
    c.set_words.ensures
    ∙ sym (one_value c.args.b.now c.extend_loaded_number.result c.most_words-most_words.ensures.limits c.extend_loaded_number.type_inv).own
    ∙ rw c.extend_loaded_number.ensures (ap (λ o. cover c.args.b.now (loaded_word_or_answers c.args.load.size c.args.load.signed (device_of_loads c.args.plan.now c.args.load.size (c.args.x ∷ [])) o)) c.in-Some.ensures.value)

pub returns-in-Some-clause-value : goal.returns-in-Some-clause-value
returns-in-Some-clause-value c = rw c.set_words.ensures (one_value c.args.b.now c.extend_loaded_number.result c.most_words-most_words.ensures.limits c.extend_loaded_number.type_inv)
