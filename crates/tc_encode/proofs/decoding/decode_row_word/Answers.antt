use Rattle.std.proofs.Common.{◌∙◌, sym, subst, refl}
use Rattle.tc_isa.specs.Rows.{row_of}
use Rattle.tc_isa.specs.Insts.{IsInst}
use Rattle.tc_isa.proofs.TableFacts.{row_at}
use Rattle.tc_encode.proofs.Finds.{makes_listed, makes_by}
use Rattle.tc_encode.proofs.decoding.decode_row_word.Goals as goal

pub returns-in_default-clause-none : goal.returns-in_default-clause-none
returns-in_default-clause-none c = λ i m same. let x = c.in_default.ensures.listed.1 (makes_listed c.args.place c.args.w (row_of c.args.row.now) c.fields_of_word-f.result c.requires c.fields_of_word-f.ensures i m same).0 in cc

pub word_of_fields-requires-clause-second : goal.word_of_fields-requires-clause-second
word_of_fields-requires-clause-second c = (row_at c.args.place _ c.requires).second

pub returns-then-word_of_fields-w-clause-none : goal.returns-then-word_of_fields-w-clause-none
returns-then-word_of_fields-w-clause-none c = λ i m same. c.if-word_of_fields-w.true (c.word_of_fields.ensures ∙ (makes_listed c.args.place c.args.w (row_of c.args.row.now) c.fields_of_word-f.result c.requires c.fields_of_word-f.ensures i m same).1)

pub returns-clause-some : goal.returns-clause-some
returns-clause-some c = makes_by c.args.place c.args.w (row_of c.args.row.now) c.fields_of_word-f.result c.in-Some.found c.requires c.in-Some.ensures.fields (subst IsInst (sym c.in-Some.ensures.fields) (c.in-Some.ensures.listed.0 refl)) (sym c.word_of_fields.ensures ∙ c.if-word_of_fields-w.false)
