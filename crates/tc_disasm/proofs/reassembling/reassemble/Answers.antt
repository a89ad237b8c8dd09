use Rattle.std.proofs.Common.{◌∙◌}
use Rattle.elf_image.specs.Images.{image_data}
use Rattle.tc_disasm.proofs.Whole.{reads_back-of, short_source, holds_of, never_of}
use Rattle.tc_disasm.proofs.reassembling.reassemble.Goals as goal

pub assemble-requires : goal.assemble-requires
assemble-requires c =
    short_source c.args.image.now
    (reads_back-of (image_data c.image.inside) c.args.image.now c.image.view_is c.image.invariant)
    c.as_bytes.result.now (c.as_bytes.ensures.value ∙ c.in-Ok.ensures)

pub returns-in-Ok-clause-holds : goal.returns-in-Ok-clause-holds
returns-in-Ok-clause-holds c =
    holds_of c.args.image.now
    (reads_back-of (image_data c.image.inside) c.args.image.now c.image.view_is c.image.invariant)
    c.as_bytes.result.now (c.as_bytes.ensures.value ∙ c.in-Ok.ensures)
    c.assemble.result c.assemble.ensures.ok

pub returns-in-Ok-clause-never : goal.returns-in-Ok-clause-never
returns-in-Ok-clause-never c =
    never_of c.args.image.now
    (reads_back-of (image_data c.image.inside) c.args.image.now c.image.view_is c.image.invariant)
    c.as_bytes.result.now (c.as_bytes.ensures.value ∙ c.in-Ok.ensures)
    c.assemble.result c.assemble.ensures.bad
