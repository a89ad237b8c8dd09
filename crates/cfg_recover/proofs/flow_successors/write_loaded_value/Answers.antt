use Rattle.std.proofs.Common.{ap, ◌∙◌}
use Rattle.value_domain.specs.declared.values.Val.{Val}
use Rattle.value_domain.proofs.RangeLaws.{any_value}
use Rattle.store_ranges.specs.Loads.{load_value_of}
use Rattle.cfg_recover.proofs.StepChanges.{any_loaded}
use Rattle.cfg_recover.proofs.flow_successors.write_loaded_value.Goals as goal

pub returns-in-Load-clause-loaded : goal.returns-in-Load-clause-loaded
returns-in-Load-clause-loaded c s e =
    rw c.in-Load.is
    (c.write_load.ensures.loaded ∙ ap (λ (v : Val). load_value_of c.args.b.now c.args.image.now c.args.plan.now v c.in-Load.size c.in-Load.signed) (rw c.in-Load.is at e))

pub returns-in_default : goal.returns-in_default
returns-in_default c =
    rw c.write_any.ensures
    (record {
      loaded = λ s e. any_loaded c.args.b.now c.args.image.now c.args.plan.now s c.args.shape c.in_default.not-Load;
      value = any_value c.args.b.now c.most_words-most_words.ensures.limits;
    })
