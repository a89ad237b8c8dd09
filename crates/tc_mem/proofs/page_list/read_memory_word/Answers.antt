use Rattle.std.proofs.Common.{◌+◌, ◌%◌, ◌≤◌, arith}
use Rattle.tc_mem.proofs.Accesses.{is_at}
use Rattle.tc_mem.proofs.Blocks.{word_none, word_found}
use Rattle.tc_mem.proofs.Small.{HasBytes-mem}
use Rattle.tc_mem.proofs.page_list.read_memory_word.Goals as goal

pub returns-then-addr-gt60-clause-bytes : goal.returns-then-addr-gt60-clause-bytes
returns-then-addr-gt60-clause-bytes c = HasBytes-mem c.args.pages.now c.requires

pub returns-in_default-clause-word : goal.returns-in_default-clause-word
returns-in_default-clause-word c = word_none c.args.pages.now c.args.addr c.requires.pages c.in_default.ensures.none

pub returns-in_default-clause-bytes : goal.returns-in_default-clause-bytes
returns-in_default-clause-bytes c = HasBytes-mem c.args.pages.now c.requires

pub returns-clause-word : goal.returns-clause-word
returns-clause-word c =
    let at = is_at c.args.pages.now c.in-Some.i _ c.requires.pages c.in-Some.ensures.within c.in-Some.ensures.found in
    let fits : c.args.addr % 64 + 4 ≤ 64 = omega arith in
    word_found c.args.pages.now c.in-Some.i c.args.addr at fits c.mapped_page_word.result c.mapped_page_word.ensures.mapped c.mapped_page_word.ensures.word

pub returns-clause-bytes : goal.returns-clause-bytes
returns-clause-bytes c = HasBytes-mem c.args.pages.now c.requires
