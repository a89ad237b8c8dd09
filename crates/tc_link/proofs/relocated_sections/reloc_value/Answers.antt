use Rattle.std.proofs.Common.{◌∙◌, ◌+◌, ◌%◌, ◌^◌, ap}
use Rattle.tc_link.proofs.AddressLaws.{address_of}
use Rattle.tc_link.proofs.relocated_sections.reloc_value.Goals as goal

pub returns : goal.returns
returns c = λ all p e.
    ap (λ k. (k + c.args.reloc.now.addend) % 2 ^ 32) (c.symbol_address_at.ensures ∙ address_of all p c.args.addresses.now c.args.reloc.now.symbol e)
