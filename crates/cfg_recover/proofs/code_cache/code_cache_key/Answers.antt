use Rattle.std.proofs.Common.{arith}
use Rattle.cfg_recover.proofs.KnownCodeLaws.{half_word, whole_word}
use Rattle.cfg_recover.proofs.code_cache.code_cache_key.Goals as goal

pub returns-then-word-eq1 : goal.returns-then-word-eq1
returns-then-word-eq1 c = whole_word c.from_le_bytes-word.result c.args.bytes (omega arith) (λ k. c.code_bytes_below_256.ensures k) c.from_le_bytes-word.ensures

pub returns-else-word-eq1 : goal.returns-else-word-eq1
returns-else-word-eq1 c = half_word c.from_le_bytes-word.result c.args.bytes (omega arith) (λ k. c.code_bytes_below_256.ensures k) c.from_le_bytes-word.ensures (omega arith)
