use Rattle.std.proofs.Common.{◌+◌, ◌%◌, ◌≤◌, [], ◌∷◌, set, get_or, subst, sym, ap, ◌∙◌, arith}
use Rattle.std.proofs.lemmas.List.Elements.{All-get_or}
use Rattle.tc_mem.specs.Pages.{memory_of, page_bytes_with_words, AreOrderedPages, ArePageBytesSmall}
use Rattle.tc_mem.specs.declared.page.Page.{Page}
use Rattle.tc_mem.proofs.Accesses.{is_at, write_keeps}
use Rattle.tc_mem.proofs.Blocks.{block_none, block_is, word_unwritten, word_written}
use Rattle.tc_mem.proofs.Search.{no_page}
use Rattle.tc_mem.proofs.Small.{HasBytes-mem, IsSmall, AreSmall-put, bytes_with_small}
use Rattle.tc_mem.proofs.Stored.{length-bytes_with}
use Rattle.tc_mem.proofs.page_list.write_memory_word.Goals as goal

pub returns-then-addr-gt60-clause-bytes : goal.returns-then-addr-gt60-clause-bytes
returns-then-addr-gt60-clause-bytes c = HasBytes-mem c.args.pages.now c.requires

pub returns-in_default-clause-mapped : goal.returns-in_default-clause-mapped
returns-in_default-clause-mapped c = sym (block_none c.args.pages.now c.args.addr 4 c.requires.pages c.in_default.ensures.none (omega arith))

pub returns-in_default-clause-written : goal.returns-in_default-clause-written
returns-in_default-clause-written c = word_unwritten c.args.pages.now c.args.addr c.args.word c.requires.pages c.in_default.ensures.none

pub returns-in_default-clause-bytes : goal.returns-in_default-clause-bytes
returns-in_default-clause-bytes c = HasBytes-mem c.args.pages.now c.requires

pub returns-clause-mapped : goal.returns-clause-mapped
returns-clause-mapped c =
    let at = is_at c.args.pages.now c.in-Some.i _ c.requires.pages c.in-Some.ensures.within c.in-Some.ensures.found in
    let fits : c.args.addr % 64 + 4 ≤ 64 = omega arith in
    c.write_mapped_page_word.ensures.mapped ∙ block_is c.args.pages.now c.in-Some.i c.args.addr 4 at fits

pub returns-clause-written : goal.returns-clause-written
returns-clause-written c =
    let at = is_at c.args.pages.now c.in-Some.i _ c.requires.pages c.in-Some.ensures.within c.in-Some.ensures.found in
    let fits : c.args.addr % 64 + 4 ≤ 64 = omega arith in
    ap (λ (p : Page). memory_of (set c.args.pages.now c.in-Some.i p)) c.write_mapped_page_word.ensures.written
    ∙ word_written c.args.pages.now c.in-Some.i c.args.addr at fits c.args.word c.write_mapped_page_word.result c.write_mapped_page_word.ensures.mapped

kept_pages : (c : goal.After-write_mapped_page_word) → AreOrderedPages (set c.args.pages.now c.in-Some.i c.write_mapped_page_word.new.page)
kept_pages c =
    let at = is_at c.args.pages.now c.in-Some.i _ c.requires.pages c.in-Some.ensures.within c.in-Some.ensures.found in
    subst (λ (p : Page). AreOrderedPages (set c.args.pages.now c.in-Some.i p)) (sym c.write_mapped_page_word.ensures.written)
    (write_keeps c.args.pages.now c.in-Some.i _ (page_bytes_with_words (get_or c.args.pages.now c.in-Some.i no_page).bytes (c.args.addr % 4096) (c.args.word ∷ [])) at (length-bytes_with _ _ _) c.write_mapped_page_word.result)

kept_small : (c : goal.After-write_mapped_page_word) → ArePageBytesSmall (set c.args.pages.now c.in-Some.i c.write_mapped_page_word.new.page)
kept_small c =
    let small = c.requires.small in
    let old = All-get_or IsSmall c.args.pages.now c.in-Some.i no_page c.in-Some.ensures.within small in
    subst (λ (p : Page). ArePageBytesSmall (set c.args.pages.now c.in-Some.i p)) (sym c.write_mapped_page_word.ensures.written)
    (AreSmall-put c.args.pages.now c.in-Some.i (page_bytes_with_words (get_or c.args.pages.now c.in-Some.i no_page).bytes (c.args.addr % 4096) (c.args.word ∷ [])) c.write_mapped_page_word.result (bytes_with_small (get_or c.args.pages.now c.in-Some.i no_page).bytes (c.args.addr % 4096) (c.args.word ∷ []) old) old small)

pub returns-clause-pages : goal.returns-clause-pages
returns-clause-pages c = record { pages = kept_pages c; small = kept_small c }

pub returns-clause-bytes : goal.returns-clause-bytes
returns-clause-bytes c = HasBytes-mem _ (returns-clause-pages c)
