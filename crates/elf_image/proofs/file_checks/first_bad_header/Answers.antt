use Rattle.std.proofs.Common.{find, Some, sym, ap, ◌∙◌, arith}
use Rattle.std.specs.Option.{option_map}
use Rattle.elf_image.specs.declared.headers.Header.{Header}
use Rattle.elf_image.specs.ReadElf.{is_bad_header}
use Rattle.elf_image.proofs.Rest.{rest_of, rest_of-start, rest_of-end, number-header_at, find_bad-now, find_bad-later}
use Rattle.elf_image.proofs.file_checks.first_bad_header.Goals as goal

pub loop-number-init : goal.loop-number-init
loop-number-init c = ap (λ n. find (is_bad_header c.args.bytes.now) (rest_of c.args.bytes.now 0 n)) c.elf_half_at-count.ensures ∙ ap (find (is_bad_header c.args.bytes.now)) (rest_of-start c.args.bytes.now)

pub returns-then-is_bad_header : goal.returns-then-is_bad_header
returns-then-is_bad_header c =
    let bytes = c.args.bytes.now in
    let i = c.loop-number.number in
    let found = sym c.loop-number.invariant ∙ find_bad-now bytes i c.elf_half_at-count.result (omega arith) (sym c.is_bad_header.ensures ∙ c.if-is_bad_header.true) in
    ap Some c.from.ensures ∙ sym (ap (option_map (λ (h : Header). h.number)) found ∙ ap Some (number-header_at bytes i))

pub loop-number-preserved : goal.loop-number-preserved
loop-number-preserved c =
    let bytes = c.args.bytes.now in
    sym (find_bad-later bytes c.loop-number.number c.elf_half_at-count.result (omega arith) (sym c.is_bad_header.ensures ∙ c.if-is_bad_header.false)) ∙ c.loop-number.invariant

pub returns : goal.returns
returns c =
    let bytes = c.args.bytes.now in
    let none = sym c.loop-number.invariant ∙ ap (find (is_bad_header bytes)) (rest_of-end bytes c.loop-number.number c.elf_half_at-count.result (omega arith)) in
    sym (ap (option_map (λ (h : Header). h.number)) none)
