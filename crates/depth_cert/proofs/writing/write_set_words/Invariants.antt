use Rattle.std.proofs.Common.{◌≡◌, ◌++◌, take}
use Rattle.std.specs.List.{flat_map}
use Rattle.tcd_base.specs.Bytes.{bytes_of_word}
use Rattle.depth_cert.proofs.writing.write_set_words.Given as goal

abbrev pub invariant-loop-w : goal.invariant-loop-w
invariant-loop-w l = l.out.items ≡ l.initial.out.items ++ flat_map bytes_of_word (take l.w-index l.words)
