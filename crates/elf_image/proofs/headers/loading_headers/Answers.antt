use Rattle.std.proofs.Common.{inr, subst, sym, refl, ap, ◌∙◌, arith, List, Vec, Global}
use Rattle.elf_image.specs.declared.headers.Header.{Header}
use Rattle.elf_image.specs.ReadElf.{exceeds_image_limits}
use Rattle.elf_image.proofs.Good.{headers_whole}
use Rattle.elf_image.proofs.Loads.{LoadsSoFar, loads_none, loads_pass, loads_more, loads_many, loads_long, loads_all, loads_fit, loads_same}
use Rattle.elf_image.proofs.headers.loading_headers.Goals as goal
use Rattle.elf_image.proofs.headers.loading_headers.Goals.{then-len-eq64-via-then-len-eq64, then-len-eq64-via-else-len-eq64+then-header-total, then-loads_file_bytes+else-len-eq64+else-header-total+in_ok-push, else-loads_file_bytes}

pub loop-number-init : goal.loop-number-init
loop-number-init c = subst (λ (hs : List Header). LoadsSoFar c.args.bytes.now 0 c.elf_half_at-count.result hs 0) (sym c.new-loads.ensures.items) (loads_none c.args.bytes.now c.elf_half_at-count.result c.elf_half_at-count.ensures)

pub program_header_at-header-requires-clause-whole : goal.program_header_at-header-requires-clause-whole
program_header_at-header-requires-clause-whole c = headers_whole c.args.bytes.now c.loop-number.number c.requires.good (omega (arith, c.elf_half_at-count.ensures))

pub returns-then-len-eq64-clause-err : goal.returns-then-len-eq64-clause-err
returns-then-len-eq64-clause-err c =
    let has = sym c.loads_file_bytes.ensures ∙ c.if-loads_file_bytes.true in
    elim c.then-len-eq64.branch [
      | then-len-eq64-via-then-len-eq64 w ↦ inr (refl, loads_many _ c.loop-number.number c.elf_half_at-count.result _ c.loop-number.loads.items c.loop-number.total c.loop-number.invariant (omega arith) c.program_header_at-header.ensures has (omega (arith, c.loop-number.loads.ok.0)))
      | then-len-eq64-via-else-len-eq64+then-header-total w ↦ inr (refl, loads_long _ c.loop-number.number c.elf_half_at-count.result _ c.loop-number.loads.items c.loop-number.total c.loop-number.invariant (omega arith) c.program_header_at-header.ensures has (omega arith))
    ]

pub loop-number-preserved : goal.loop-number-preserved
loop-number-preserved c =
    let bytes = c.args.bytes.now in
    let i = c.loop-number.number in
    let n = c.elf_half_at-count.result in
    let before = c.loop-number.loads in
    elim c.if-loads_file_bytes.branch [
      | then-loads_file_bytes+else-len-eq64+else-header-total+in_ok-push w ↦
          let more = loads_more bytes i n c.program_header_at-header.result before.items c.loop-number.total c.loop-number.invariant (omega arith) c.program_header_at-header.ensures (sym c.loads_file_bytes.ensures ∙ w.if-loads_file_bytes.true) (λ e. w.if-len-eq64.false (omega (arith, before.ok.0))) (omega arith) in
          loads_same _ _ _ _ _ _ _ (ap (λ (v : Vec Header Global). v.items) w.loads-is ∙ w.in_ok-push.ensures.items) w.total-is more
      | else-loads_file_bytes w ↦
          let pass = loads_pass bytes i n c.program_header_at-header.result before.items c.loop-number.total c.loop-number.invariant (omega arith) c.program_header_at-header.ensures (sym c.loads_file_bytes.ensures ∙ w.if-loads_file_bytes.false) in
          loads_same _ _ _ _ _ _ _ (ap (λ (v : Vec Header Global). v.items) w.loads-is) w.total-is pass
    ]

pub returns-clause-ok : goal.returns-clause-ok
returns-clause-ok c =
    let inv = c.loop-number.invariant in
    let all = loads_all c.args.bytes.now c.loop-number.number c.elf_half_at-count.result c.loop-number.loads.items c.loop-number.total inv (omega arith) in
    (all, ap exceeds_image_limits (sym all) ∙ loads_fit c.loop-number.loads.items c.loop-number.total inv.sum inv.few inv.small)
