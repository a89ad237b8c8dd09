use Rattle.std.proofs.Common.{◌+◌, ◌%◌, ◌≤◌, arith}
use Rattle.tc_mem.proofs.Accesses.{is_at}
use Rattle.tc_mem.proofs.Blocks.{half_none, half_found}
use Rattle.tc_mem.proofs.Small.{HasBytes-mem}
use Rattle.tc_mem.proofs.page_list.read_memory_half.Goals as goal

pub returns-then-addr-gt62-clause-bytes : goal.returns-then-addr-gt62-clause-bytes
returns-then-addr-gt62-clause-bytes c = HasBytes-mem c.args.pages.now c.requires

pub returns-in_default-clause-half : goal.returns-in_default-clause-half
returns-in_default-clause-half c = half_none c.args.pages.now c.args.addr c.requires.pages c.in_default.ensures.none

pub returns-in_default-clause-bytes : goal.returns-in_default-clause-bytes
returns-in_default-clause-bytes c = HasBytes-mem c.args.pages.now c.requires

pub returns-clause-half : goal.returns-clause-half
returns-clause-half c =
    let at = is_at c.args.pages.now c.in-Some.i _ c.requires.pages c.in-Some.ensures.within c.in-Some.ensures.found in
    let fits : c.args.addr % 64 + 2 ≤ 64 = omega arith in
    half_found c.args.pages.now c.in-Some.i c.args.addr at fits c.mapped_page_half.result c.mapped_page_half.ensures.mapped c.mapped_page_half.ensures.half

pub returns-clause-bytes : goal.returns-clause-bytes
returns-clause-bytes c = HasBytes-mem c.args.pages.now c.requires
