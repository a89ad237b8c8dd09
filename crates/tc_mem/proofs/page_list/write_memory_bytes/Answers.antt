use Rattle.std.proofs.Common.{arith}
use Rattle.tc_mem.specs.Pages.{memory_of}
use Rattle.tc_mem.proofs.Small.{HasBytes-mem}
use Rattle.tc_mem.proofs.WrittenLaws.{nothing_written, more_written}
use Rattle.tc_mem.proofs.page_list.write_memory_bytes.Goals as goal

pub loop-done-init : goal.loop-done-init
loop-done-init c = record { within = omega arith; written = nothing_written (memory_of c.args.pages.now) c.args.addr c.args.bytes.now; pages = c.requires.pages }

pub loop-done-preserved : goal.loop-done-preserved
loop-done-preserved c = record {
  within = omega (arith, c.min-end.ensures, c.loop-done.invariant.within);
  written = more_written (memory_of c.args.pages.now) (memory_of c.loop-done.pages) _ c.args.addr _ c.loop-done.done c.min-end.result c.args.bytes.now
      c.loop-done.invariant.written c.write_bytes_in_page.ensures.written
      (omega (arith, c.loop-done-test.true, c.requires.fits)) (omega (arith, c.min-end.ensures, c.loop-done-test.true)) (omega (arith, c.min-end.ensures, c.loop-done.invariant.within));
  pages = c.write_bytes_in_page.ensures.pages;
}

pub returns-clause-bytes : goal.returns-clause-bytes
returns-clause-bytes c = HasBytes-mem c.loop-done.pages c.loop-done.invariant.pages
