use Rattle.std.proofs.Common.{◌%◌, set, get_or, subst, sym, ap, ◌∙◌, length-set}
use Rattle.tc_mem.specs.Pages.{memory_of, AreOrderedPages, ArePageBytesSmall}
use Rattle.tc_mem.specs.declared.page.Page.{Page}
use Rattle.std.proofs.Common.{arith}
use Rattle.std.proofs.lemmas.List.Elements.{All-get_or}
use Rattle.tc_mem.proofs.Small.{HasBytes-mem, IsSmall, AreSmall-put, set_small}
use Rattle.tc_mem.proofs.Search.{no_page}
use Rattle.tc_mem.proofs.Accesses.{is_at, unmapped, write_none, mapped_is, write_found, write_kept, write_keeps}
use Rattle.tc_mem.proofs.page_list.write_memory_byte.Goals as goal

pub returns-in_default-clause-mapped : goal.returns-in_default-clause-mapped
returns-in_default-clause-mapped c = sym (unmapped c.args.pages.now c.args.addr c.requires.pages c.in_default.ensures.none)

pub returns-in_default-clause-written : goal.returns-in_default-clause-written
returns-in_default-clause-written c = write_none c.args.pages.now c.args.addr c.args.byte c.requires.pages c.in_default.ensures.none

pub returns-clause-mapped : goal.returns-clause-mapped
returns-clause-mapped c =
    let at = is_at c.args.pages.now c.in-Some.i _ c.requires.pages c.in-Some.ensures.within c.in-Some.ensures.found in
    c.write_page_byte.ensures.mapped ∙ mapped_is c.args.pages.now c.in-Some.i c.args.addr at

pub returns-clause-written : goal.returns-clause-written
returns-clause-written c =
    let at = is_at c.args.pages.now c.in-Some.i _ c.requires.pages c.in-Some.ensures.within c.in-Some.ensures.found in
    ap (λ (p : Page). memory_of (set c.args.pages.now c.in-Some.i p)) c.write_page_byte.ensures.written
    ∙ write_found c.args.pages.now c.in-Some.i c.args.addr c.args.byte at c.write_page_byte.result c.write_page_byte.ensures.mapped

kept_pages : (c : goal.After-write_page_byte) → AreOrderedPages (set c.args.pages.now c.in-Some.i c.write_page_byte.new.page)
kept_pages c =
    let at = is_at c.args.pages.now c.in-Some.i _ c.requires.pages c.in-Some.ensures.within c.in-Some.ensures.found in
    subst (λ (p : Page). AreOrderedPages (set c.args.pages.now c.in-Some.i p)) (sym c.write_page_byte.ensures.written)
    (write_keeps c.args.pages.now c.in-Some.i _ (set (get_or c.args.pages.now c.in-Some.i no_page).bytes (c.args.addr % 4096) c.args.byte) at (length-set _ _ _) c.write_page_byte.result)

pub returns-clause-kept : goal.returns-clause-kept
returns-clause-kept c = write_kept (memory_of c.args.pages.now) _ c.args.addr c.args.byte c.write_page_byte.result (returns-clause-mapped c) (returns-clause-written c)

kept_small : (c : goal.After-write_page_byte) → ArePageBytesSmall (set c.args.pages.now c.in-Some.i c.write_page_byte.new.page)
kept_small c =
    let small = c.requires.small in
    let old = All-get_or IsSmall c.args.pages.now c.in-Some.i no_page c.in-Some.ensures.within small in
    subst (λ (p : Page). ArePageBytesSmall (set c.args.pages.now c.in-Some.i p)) (sym c.write_page_byte.ensures.written)
    (AreSmall-put c.args.pages.now c.in-Some.i _ c.write_page_byte.result (set_small (get_or c.args.pages.now c.in-Some.i no_page).bytes (c.args.addr % 4096) c.args.byte old (omega arith)) old small)

pub returns-clause-pages : goal.returns-clause-pages
returns-clause-pages c = record { pages = kept_pages c; small = kept_small c }

pub returns-in_default-clause-bytes : goal.returns-in_default-clause-bytes
returns-in_default-clause-bytes c = HasBytes-mem c.args.pages.now c.requires

pub returns-clause-bytes : goal.returns-clause-bytes
returns-clause-bytes c = HasBytes-mem _ (returns-clause-pages c)
