use Rattle.std.proofs.Common.{◌+◌, ◌%◌, ◌≤◌, length, set, get_or, subst, sym, ◌∙◌, arith}
use Rattle.std.proofs.lemmas.List.Elements.{All-get_or, All-set}
use Rattle.tc_mem.specs.Pages.{memory_of, page_bytes_with, AreMemoryPages}
use Rattle.tc_mem.specs.Written.{IsMemoryWritten}
use Rattle.tc_mem.specs.declared.page.Page.{Page}
use Rattle.tc_mem.proofs.Search.{no_page}
use Rattle.tc_mem.proofs.Small.{IsSmall}
use Rattle.tc_mem.proofs.Stored.{with_bytes, ArePages-changed, page_at}
use Rattle.tc_mem.proofs.Accesses.{is_at}
use Rattle.tc_mem.proofs.WrittenLaws.{page_written, none_written, put_size, put_small}
use Rattle.tc_mem.proofs.page_list.write_bytes_in_page.Goals as goal

pub returns-in_default-clause-written : goal.returns-in_default-clause-written
returns-in_default-clause-written c = none_written c.args.pages.now c.args.addr c.args.bytes.now c.requires.pages.pages c.in_default.ensures.none c.requires.within

pub returns-clause-written : goal.returns-clause-written
returns-clause-written c =
    let at = is_at c.args.pages.now c.in-Some.i _ c.requires.pages.pages c.in-Some.ensures.within c.in-Some.ensures.found in
    subst (λ (p : Page). IsMemoryWritten (memory_of c.args.pages.now) c.args.addr c.args.bytes.now (memory_of (set c.args.pages.now c.in-Some.i p))) (sym c.write_page_bytes.ensures.written)
    (page_written c.args.pages.now c.in-Some.i c.args.addr c.args.bytes.now at c.requires.within)

pub returns-clause-pages : goal.returns-clause-pages
returns-clause-pages c =
    let p : Page = get_or c.args.pages.now c.in-Some.i no_page in
    let size = (page_at c.args.pages.now c.in-Some.i c.requires.pages.pages c.in-Some.ensures.within).bytes in
    let fits : c.args.addr % 4096 + length c.args.bytes.now ≤ length p.bytes = omega (arith, size, c.requires.within) in
    let new = page_bytes_with p.bytes (c.args.addr % 4096) c.args.bytes.now in
    let old = All-get_or IsSmall c.args.pages.now c.in-Some.i no_page c.in-Some.ensures.within c.requires.pages.small in
    subst (λ (q : Page). AreMemoryPages (set c.args.pages.now c.in-Some.i q)) (sym c.write_page_bytes.ensures.written) (record {
      pages = ArePages-changed c.args.pages.now c.in-Some.i new c.requires.pages.pages c.in-Some.ensures.within (put_size p.bytes (c.args.addr % 4096) c.args.bytes.now fits ∙ size);
      small = All-set IsSmall c.args.pages.now c.in-Some.i (with_bytes p new) (put_small p.bytes (c.args.addr % 4096) c.args.bytes.now fits old c.write_page_bytes.ensures.small) c.requires.pages.small;
    })
