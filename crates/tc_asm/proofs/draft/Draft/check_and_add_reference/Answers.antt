use Rattle.std.proofs.Common.{Some}
use Rattle.tc_stmt.specs.Items.{reference_of}
use Rattle.tc_asm.proofs.KnownSymbols.{use_bytes}
use Rattle.tc_asm.proofs.draft.Draft.check_and_add_reference.Goals as goal

pub returns-clause-draft : goal.returns-clause-draft
returns-clause-draft c = use_bytes c.args.self.now _ _ c.args.bytes.now (Some (reference_of c.args.r)) c.in_ok-add_use_of_known_symbol.ensures c.in_ok-add_bytes_if_room.ensures
