use Rattle.std.proofs.Common.{arith}
use Rattle.std.proofs.lemmas.List.Elements.{All-set}
use Rattle.tc_script.specs.KnownWords.{IsCorrectCacheEntry}
use Rattle.tc_script.proofs.KnownLaws.{known_of, put_stands}
use Rattle.tc_script.proofs.known_words.KnownWords.decode_into.Goals as goal

pub returns-clause-known : goal.returns-clause-known
returns-clause-known c =
    All-set IsCorrectCacheEntry c.args.self.now.words c.args.place _
    (known_of c.args.word _ _ c.requires.word (c.shape_at_pc-found.ensures.shape, c.shape_at_pc-found.ensures.bounded)) c.requires.known

pub returns-clause-stands : goal.returns-clause-stands
returns-clause-stands c = put_stands c.args.self.now.words c.args.place _ _ (omega arith) (c.shape_at_pc-found.ensures.shape, c.shape_at_pc-found.ensures.bounded)
