use Rattle.tc_stmt.specs.Items.{reference_of}
use Rattle.tc_asm.proofs.KnownSymbols.{use_named, use_unnamed}
use Rattle.tc_asm.proofs.draft.Draft.add_use_of_known_symbol.Goals as goal

pub returns-in_ok-add_reloc_use : goal.returns-in_ok-add_reloc_use
returns-in_ok-add_reloc_use c = use_named c.args.self.now _ c.args.size (reference_of c.args.r) c.is_source_name.result c.is_source_name.ensures c.if-is_source_name.true c.in_ok-add_reloc_use.ensures

pub returns-else-is_source_name : goal.returns-else-is_source_name
returns-else-is_source_name c = use_unnamed c.args.self.now c.args.size (reference_of c.args.r) c.is_source_name.result c.is_source_name.ensures c.if-is_source_name.false
