use Rattle.std.proofs.Common.{arith}
use Rattle.tcd_plan.proofs.Tables.{slice_get-texts}
use Rattle.tcd_plan.proofs.printed_keys.key_text.Goals as goal

pub returns : goal.returns
returns c =
    slice_get-texts c.printed_key_texts.result.now _ c.args.key.0 _ c.printed_key_texts.ensures.texts (omega (arith, c.printed_key_texts.ensures.count))
