use Rattle.std.proofs.Common.{refl, ap}
use Rattle.std.specs.Prelude.{option_map}
use Rattle.tc_isa.specs.Relocations.{is_relocation_kind}
use Rattle.tc_stmt.specs.Items.{reference_of}
use Rattle.tc_asm.proofs.AlikeDrafts.{data_alike}
use Rattle.tc_asm.proofs.draft.Draft.scan_data.Goals as goal

pub add_zeros_for_bytes-requires : goal.add_zeros_for_bytes-requires
add_zeros_for_bytes-requires c = λ r e. c.requires.good.named r e (ap is_relocation_kind (c.requires.kind r e))

pub returns : goal.returns
returns c = λ d h. data_alike c.args.self.now d _ c.args.bytes.now (option_map reference_of c.args.r.now) _ c.in_ok-add_zeros_for_bytes.ensures refl h
