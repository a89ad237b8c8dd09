use Rattle.std.proofs.Common.{ap, arith, get_or, ◌∙◌}
use Rattle.cfg_recover.specs.Code.{FindsShapeAndSize}
use Rattle.cfg_recover.specs.KnownCodes.{shape_and_size_of_word}
use Rattle.cfg_recover.proofs.KnownCodeLaws.{located_there, located_bounded}
use Rattle.cfg_recover.proofs.code_cache.KnownCodes.decode_cached.Goals as goal
use Rattle.cfg_recover.proofs.code_cache.KnownCodes.decode_cached.Goals.{Then-known-word}

known_before : (c : goal.Then-known-word) → FindsShapeAndSize c.args.image.now c.args.plan.now c.args.addr (get_or c.args.self.now.codes c.code_cache_slot-place.result c.index-self-place.result).found
known_before c =
    located_there c.args.image.now c.args.plan.now c.args.addr c.code_cache_key-word.result c.in-Some.bytes _ (omega arith) c.in-Some.ensures c.code_cache_key-word.ensures
    ((get_or c.args.self.now.codes c.code_cache_slot-place.result c.index-self-place.result).known ∙ ap shape_and_size_of_word c.if-known-word.true)

pub returns-then-known-word-clause-code : goal.returns-then-known-word-clause-code
returns-then-known-word-clause-code c = known_before c

pub returns-then-known-word-clause-shape : goal.returns-then-known-word-clause-shape
returns-then-known-word-clause-shape c = located_bounded c.args.image.now c.args.plan.now c.args.addr _ (known_before c)

pub returns-clause-code : goal.returns-clause-code
returns-clause-code c =
    located_there c.args.image.now c.args.plan.now c.args.addr c.code_cache_key-word.result c.in-Some.bytes _ (omega arith) c.in-Some.ensures c.code_cache_key-word.ensures
    (c.decode_word-code.result.known ∙ ap shape_and_size_of_word c.decode_word-code.ensures)

pub returns-clause-shape : goal.returns-clause-shape
returns-clause-shape c =
    located_bounded c.args.image.now c.args.plan.now c.args.addr _
    (located_there c.args.image.now c.args.plan.now c.args.addr c.code_cache_key-word.result c.in-Some.bytes _ (omega arith) c.in-Some.ensures c.code_cache_key-word.ensures
    (c.decode_word-code.result.known ∙ ap shape_and_size_of_word c.decode_word-code.ensures))
