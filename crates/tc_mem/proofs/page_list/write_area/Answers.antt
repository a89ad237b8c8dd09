use Rattle.std.proofs.Common.{◌%◌, set, get_or, subst, sym, ap, ◌∙◌}
use Rattle.tc_mem.specs.Pages.{memory_of, AreOrderedPages, ArePageBytesSmall, page_bytes_with_words}
use Rattle.tc_mem.specs.declared.page.Page.{Page}
use Rattle.std.proofs.lemmas.List.Elements.{All-get_or}
use Rattle.tc_mem.proofs.Small.{HasBytes-mem, IsSmall, AreSmall-put, bytes_with_small}
use Rattle.tc_mem.proofs.Search.{no_page}
use Rattle.tc_mem.proofs.Stored.{length-bytes_with}
use Rattle.tc_mem.proofs.AreaLaws.{area_none}
use Rattle.tc_mem.proofs.Accesses.{IsArea, is_at, write_area_none, area_is, write_area_found, write_keeps}
use Rattle.tc_mem.proofs.page_list.write_area.Goals as goal

pub returns-in_default-clause-mapped : goal.returns-in_default-clause-mapped
returns-in_default-clause-mapped c = sym (area_none c.args.pages.now c.args.addr c.requires.pages.pages c.in_default.ensures.none)

pub returns-in_default-clause-written : goal.returns-in_default-clause-written
returns-in_default-clause-written c = write_area_none c.args.pages.now c.args.addr c.args.words.now c.requires.pages.pages c.in_default.ensures.none

pub returns-clause-mapped : goal.returns-clause-mapped
returns-clause-mapped c =
    let at = is_at c.args.pages.now c.in-Some.i _ c.requires.pages.pages c.in-Some.ensures.within c.in-Some.ensures.found in
    let area : IsArea c.args.pages.now c.in-Some.i c.args.addr = record { at = at; aligned = c.requires.aligned; fits = c.write_area_in_page.ensures.fits } in
    c.write_area_in_page.ensures.mapped ∙ area_is c.args.pages.now c.in-Some.i c.args.addr area

pub returns-clause-written : goal.returns-clause-written
returns-clause-written c =
    let at = is_at c.args.pages.now c.in-Some.i _ c.requires.pages.pages c.in-Some.ensures.within c.in-Some.ensures.found in
    let area : IsArea c.args.pages.now c.in-Some.i c.args.addr = record { at = at; aligned = c.requires.aligned; fits = c.write_area_in_page.ensures.fits } in
    ap (λ (p : Page). memory_of (set c.args.pages.now c.in-Some.i p)) c.write_area_in_page.ensures.written
    ∙ write_area_found c.args.pages.now c.in-Some.i c.args.addr c.args.words.now area c.told-words c.write_area_in_page.result c.write_area_in_page.ensures.mapped

kept_pages : (c : goal.After-write_area_in_page) → AreOrderedPages (set c.args.pages.now c.in-Some.i c.write_area_in_page.new.page)
kept_pages c =
    let at = is_at c.args.pages.now c.in-Some.i _ c.requires.pages.pages c.in-Some.ensures.within c.in-Some.ensures.found in
    subst (λ (p : Page). AreOrderedPages (set c.args.pages.now c.in-Some.i p)) (sym c.write_area_in_page.ensures.written)
    (write_keeps c.args.pages.now c.in-Some.i _ (page_bytes_with_words (get_or c.args.pages.now c.in-Some.i no_page).bytes (c.args.addr % 4096) c.args.words.now) at (length-bytes_with _ _ _) c.write_area_in_page.result)

kept_small : (c : goal.After-write_area_in_page) → ArePageBytesSmall (set c.args.pages.now c.in-Some.i c.write_area_in_page.new.page)
kept_small c =
    let small = c.requires.pages.small in
    let old = All-get_or IsSmall c.args.pages.now c.in-Some.i no_page c.in-Some.ensures.within small in
    subst (λ (p : Page). ArePageBytesSmall (set c.args.pages.now c.in-Some.i p)) (sym c.write_area_in_page.ensures.written)
    (AreSmall-put c.args.pages.now c.in-Some.i _ c.write_area_in_page.result (bytes_with_small (get_or c.args.pages.now c.in-Some.i no_page).bytes (c.args.addr % 4096) c.args.words.now old) old small)

pub returns-clause-pages : goal.returns-clause-pages
returns-clause-pages c = record { pages = kept_pages c; small = kept_small c }

pub returns-in_default-clause-bytes : goal.returns-in_default-clause-bytes
returns-in_default-clause-bytes c = HasBytes-mem c.args.pages.now c.requires.pages

pub returns-clause-bytes : goal.returns-clause-bytes
returns-clause-bytes c = HasBytes-mem _ (returns-clause-pages c)
