use Rattle.std.proofs.Common.{◌∙◌}
use Rattle.store_ranges.specs.Loads.{answers_to_load}
use Rattle.store_ranges.proofs.LoadLaws.{cover_both}
use Rattle.store_ranges.proofs.loads.join_peripheral_answers.Goals as goal

pub returns-clause-cover : goal.returns-clause-cover
returns-clause-cover c =
    c.join_into.ensures.cover
    ∙ cover_both c.args.b.now c.args.out.now c.write_peripheral_answers.new.out (answers_to_load c.args.load.size c.args.load.signed c.args.device) c.requires.value.well c.requires.value.own c.write_peripheral_answers.ensures.some c.write_peripheral_answers.ensures.cover
