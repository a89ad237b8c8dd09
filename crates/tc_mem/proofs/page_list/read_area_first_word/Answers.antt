use Rattle.tc_mem.proofs.Accesses.{is_at}
use Rattle.tc_mem.proofs.Blocks.{first_none, first_found}
use Rattle.tc_mem.proofs.Small.{HasBytes-mem}
use Rattle.tc_mem.proofs.page_list.read_area_first_word.Goals as goal

pub returns-in_default-clause-word : goal.returns-in_default-clause-word
returns-in_default-clause-word c = first_none c.args.pages.now c.args.addr c.requires.pages.pages c.in_default.ensures.none

pub returns-in_default-clause-bytes : goal.returns-in_default-clause-bytes
returns-in_default-clause-bytes c = HasBytes-mem c.args.pages.now c.requires.pages

pub returns-clause-word : goal.returns-clause-word
returns-clause-word c =
    let at = is_at c.args.pages.now c.in-Some.i _ c.requires.pages.pages c.in-Some.ensures.within c.in-Some.ensures.found in
    first_found c.args.pages.now c.in-Some.i c.args.addr c.area_first_word_in_page.result (record { at = at; aligned = c.requires.aligned; fits = c.area_first_word_in_page.ensures.fits }) c.area_first_word_in_page.ensures.mapped c.area_first_word_in_page.ensures.word

pub returns-clause-bytes : goal.returns-clause-bytes
returns-clause-bytes c = HasBytes-mem c.args.pages.now c.requires.pages
