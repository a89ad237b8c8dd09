use Rattle.tc_lex.proofs.LineLaws.{cut_reads, fault_reads}
use Rattle.tc_lex.proofs.cutting.tokens.Goals as goal

pub returns-in-Ok-clause-read : goal.returns-in-Ok-clause-read
returns-in-Ok-clause-read c = cut_reads c.args.line.now c.tokens_into.new.out.items c.in-Ok.ensures

pub returns-in-Err-clause-read : goal.returns-in-Err-clause-read
returns-in-Err-clause-read c = fault_reads c.args.line.now c.in-Err.at c.in-Err.ensures
