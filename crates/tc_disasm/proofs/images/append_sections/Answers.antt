use Rattle.std.proofs.Common.{◌++◌, ap, ◌∙◌, map}
use Rattle.std.specs.Prelude.{string_bytes}
use Rattle.tc_disasm.specs.Listing.{section_text}
use Rattle.tc_disasm.specs.LentSegments.{borrowed_segment_data}
use Rattle.tc_disasm.proofs.Appending.{sections_on, sections_end}
use Rattle.tc_disasm.proofs.Placing.{ends_at, lent_here, long_lent, past_lent}
use Rattle.tc_disasm.proofs.images.append_sections.Goals as goal

pub append_section-requires : goal.append_section-requires
append_section-requires c = ends_at c.args.segments.now c.loop-i.i c.index-segments-i.result c.loop-i-test.true c.index-segments-i.is c.requires.segments

pub loop-i-preserved : goal.loop-i-preserved
loop-i-preserved c =
    sections_on (map borrowed_segment_data c.args.segments.now) c.loop-i.i (borrowed_segment_data c.index-segments-i.result) _ (string_bytes c.loop-i.text) _ (long_lent c.args.segments.now c.loop-i.i c.loop-i-test.true) c.loop-i.invariant
    (c.in_ok-append_section.ensures ∙ ap (λ s. string_bytes c.loop-i.text ++ section_text c.loop-i.i s) (lent_here c.args.segments.now c.loop-i.i c.index-segments-i.result c.loop-i-test.true c.index-segments-i.is))

pub returns : goal.returns
returns c = sections_end (map borrowed_segment_data c.args.segments.now) c.loop-i.i _ (string_bytes c.loop-i.text) (past_lent c.args.segments.now c.loop-i.i c.loop-i-test.false) c.loop-i.invariant
