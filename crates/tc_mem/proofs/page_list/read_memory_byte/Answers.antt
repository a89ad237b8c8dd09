use Rattle.std.proofs.Common.{◌∙◌}
use Rattle.tc_mem.proofs.Accesses.{is_at, read_none, read_found}
use Rattle.tc_mem.proofs.Small.{HasBytes-mem}
use Rattle.tc_mem.proofs.page_list.read_memory_byte.Goals as goal

pub returns-in_default-clause-byte : goal.returns-in_default-clause-byte
returns-in_default-clause-byte c = read_none c.args.pages.now c.args.addr c.requires.pages c.in_default.ensures.none

pub returns-clause-byte : goal.returns-clause-byte
returns-clause-byte c =
    let at = is_at c.args.pages.now c.in-Some.i _ c.requires.pages c.in-Some.ensures.within c.in-Some.ensures.found in
    c.page_byte_at.ensures ∙ read_found c.args.pages.now c.in-Some.i c.args.addr at

pub returns-in_default-clause-bytes : goal.returns-in_default-clause-bytes
returns-in_default-clause-bytes c = HasBytes-mem c.args.pages.now c.requires

pub returns-clause-bytes : goal.returns-clause-bytes
returns-clause-bytes c = HasBytes-mem c.args.pages.now c.requires
