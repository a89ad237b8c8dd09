use Rattle.std.proofs.lemmas.List.Elements.{All-replicate}
use Rattle.tc_script.specs.KnownWords.{IsCorrectCacheEntry}
use Rattle.tc_script.proofs.known_words.KnownWords.new.Goals as goal

pub returns : goal.returns
returns c = All-replicate IsCorrectCacheEntry 1024 _ tt
