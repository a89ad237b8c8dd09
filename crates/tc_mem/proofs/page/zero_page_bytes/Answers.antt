use Rattle.std.proofs.lemmas.List.{get_or-replicate}
use Rattle.tc_mem.proofs.Small.{zeros_small}
use Rattle.tc_mem.proofs.page.zero_page_bytes.Goals as goal

pub returns-clause-zeros : goal.returns-clause-zeros
returns-clause-zeros c = λ k h. get_or-replicate 4096 k 0 0 h

pub returns-clause-small : goal.returns-clause-small
returns-clause-small c = zeros_small 4096
