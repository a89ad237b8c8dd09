use Rattle.std.proofs.Common.{◌∙◌, ℕ, List, [], ap, arith}
use Rattle.tc_object.specs.Objects.{SectionData}
use Rattle.tc_asm.specs.DraftViews.{draft_section_of}
use Rattle.tc_asm.specs.Objects.{section_of}
use Rattle.tc_stmt.proofs.LoopLaws.{pushed_seen}
use Rattle.tc_asm.proofs.finished_object.emit_sections.Goals as goal

pub loop-i-preserved : goal.loop-i-preserved
loop-i-preserved c =
    let section : List ℕ → List ℕ → SectionData = λ n b. record { name = n; bytes = b } in
    pushed_seen draft_section_of section_of [] c.args.parts.now c.loop-i.i c.index-parts-i.result _ _ _ (omega arith) c.index-parts-i.is c.in_ok-push.ensures.items
    (ap (λ n. section n c.in_ok-bytes.bytes.items) c.in_ok-name.ensures ∙ ap (section (draft_section_of c.index-parts-i.result).name) c.in_ok-bytes.ensures) c.loop-i.invariant
