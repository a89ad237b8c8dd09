use Rattle.tc_object.proofs.NameLaws.{name_utf8, text_ok}
use Rattle.tc_object.proofs.names.object_name_text.Goals as goal

pub unwrap-requires : goal.unwrap-requires
unwrap-requires c = text_ok c.from_utf8.result _ _ _ c.from_utf8.ensures.cases (name_utf8 c.args.bytes.now c.requires)
