use Rattle.std.proofs.Common.{[], ◌∷◌, ◌++◌, ap, ◌∙◌}
use Rattle.value_domain.specs.Values.{cover, members}
use Rattle.store_ranges.specs.Loads.{device_of_loads, loaded_word_or_answers}
use Rattle.store_ranges.proofs.loads.join_load_at.Goals as goal

pub returns-in-Some-clause-loaded : goal.returns-in-Some-clause-loaded
returns-in-Some-clause-loaded c =
    c.join_word_list.ensures.cover
    ∙ rw c.extend_loaded_number.ensures (ap (λ o. cover c.args.b.now (members c.args.out.now ++ loaded_word_or_answers c.args.load.size c.args.load.signed (device_of_loads c.args.plan.now c.args.load.size (c.args.x ∷ [])) o)) c.in-Some.ensures.value)
