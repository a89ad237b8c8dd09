use Rattle.tc_asm.proofs.CodeLaws.{spells-bytes_of, unlisted-bytes_of}
use Rattle.tc_asm.proofs.encode.assembled_code.Goals as goal

pub returns-in-Some : goal.returns-in-Some
returns-in-Some c = spells-bytes_of c.args.row c.args.f.now c.in-Some.inst _ c.in-Some.ensures.fields c.encode.ensures.spells

pub returns-in-None : goal.returns-in-None
returns-in-None c = unlisted-bytes_of c.args.row c.args.f.now (λ i. let s = c.in-None.ensures.listed.1 i in cc)
