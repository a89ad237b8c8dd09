use Rattle.std.proofs.Common.{◌≡◌, find}
use Rattle.elf_image.specs.ReadElf.{is_bad_header, program_headers_of}
use Rattle.elf_image.proofs.Rest.{rest_of}
use Rattle.elf_image.proofs.file_checks.first_bad_header.Given as goal

-- the first bad header is in the rest
abbrev pub invariant-loop-number : goal.invariant-loop-number
invariant-loop-number l = find (is_bad_header l.bytes) (rest_of l.bytes l.number l.count) ≡ find (is_bad_header l.bytes) (program_headers_of l.bytes)
