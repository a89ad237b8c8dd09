use Rattle.tc_mem.proofs.Accesses.{is_at, read_area_none, read_area_found}
use Rattle.tc_mem.proofs.Small.{HasBytes-mem}
use Rattle.tc_mem.proofs.page_list.read_area.Goals as goal

pub returns-in_default-clause-words : goal.returns-in_default-clause-words
returns-in_default-clause-words c = read_area_none c.args.pages.now c.args.addr c.requires.pages.pages c.in_default.ensures.none

pub returns-clause-words : goal.returns-clause-words
returns-clause-words c =
    let at = is_at c.args.pages.now c.in-Some.i _ c.requires.pages.pages c.in-Some.ensures.within c.in-Some.ensures.found in
    read_area_found c.args.pages.now c.in-Some.i c.args.addr c.area_in_page.result (record { at = at; aligned = c.requires.aligned; fits = c.area_in_page.ensures.fits }) c.area_in_page.ensures.mapped c.area_in_page.ensures.size c.area_in_page.ensures.words

pub returns-in_default-clause-bytes : goal.returns-in_default-clause-bytes
returns-in_default-clause-bytes c = HasBytes-mem c.args.pages.now c.requires.pages

pub returns-clause-bytes : goal.returns-clause-bytes
returns-clause-bytes c = HasBytes-mem c.args.pages.now c.requires.pages
