-- What is known of the word at an address.
use Rattle.std.proofs.Common.{◌≡◌, ℕ, ◌<◌, ◌^◌, true, nat_eq, List, length, get_or, set, All, Option, Some, None, Result, refl, sym, ap, subst}
use Rattle.std.specs.Prelude.{IfSome}
use Rattle.std.specs.Option.{option_eq}
use Rattle.std.proofs.lemmas.Bool.{eqb-true, false≢true}
use Rattle.std.proofs.lemmas.List.{get_or_default}
use Rattle.std.proofs.lemmas.Grind.{get_or-set_at}
use Rattle.csa_chain.specs.MemoryBytes.{Memory, HasOnlyBytes}
use Rattle.tcd_base.specs.Bytes.{bytes_of_word}
use Rattle.tc_isa.specs.declared.shapes.Shape.{Shape}
use Rattle.tc_mem.specs.Blocks.{mapped_word_in_block}
use Rattle.tc_machine.specs.declared.events.Cause.{Cause}
use Rattle.tc_machine.specs.Fetching.{mapped_bytes}
use Rattle.tc_machine.proofs.WholeAccesses.{mapped_word}
use Rattle.tc_script.specs.declared.known_words.KnownWord.{KnownWord}
use Rattle.tc_script.specs.KnownWords.{IsDecodedShapeOf, IsCorrectCacheEntry, HasDecodedShapeAt}

-- an entry that equals one of some word is that word's
pub named : (o : Option ℕ) (w : ℕ) → true ≡ option_eq nat_eq o (Some w) → o ≡ Some w
named None w is = absurd (false≢true (sym is))
named (Some v) w is = ap Some (eqb-true v w (sym is))

-- what bytes do is known of the word that they are
pub known_of : (word : Option ℕ) (found : Result (Shape × ℕ) Cause) (bytes : List ℕ) → IfSome word (λ w. bytes_of_word w ≡ bytes) → IsDecodedShapeOf found bytes → IfSome word (λ w. IsDecodedShapeOf found (bytes_of_word w))
known_of None found bytes is does = tt
known_of (Some w) found bytes is does = subst (λ bs. IsDecodedShapeOf found bs) (sym is) does

-- what is written to a place is there
pub put_stands : (words : List KnownWord) (place : ℕ) (k : KnownWord) (bytes : List ℕ) → place < length words → IsDecodedShapeOf k.found bytes → HasDecodedShapeAt (set words place k) place bytes
put_stands words place k bytes within does behind = subst (λ (it : KnownWord). IsDecodedShapeOf it.found bytes) (sym (get_or-set_at words place place k behind refl within)) does

-- the word at an address is known at a place, so the place has what the bytes there do
pub known_there : (words : List KnownWord) (place : ℕ) (d : KnownWord) (m : Memory) (x w : ℕ) → All IsCorrectCacheEntry words → place < length words → (get_or words place d).word ≡ Some w → HasOnlyBytes m → x < 2 ^ 32 →
    Some w ≡ mapped_word_in_block m x → HasDecodedShapeAt words place (mapped_bytes 4 m x)
known_there words place d m x w known within is bytes small there behind =
    let k = get_or words place d in
    let does = subst (λ o. IfSome o (λ v. IsDecodedShapeOf k.found (bytes_of_word v))) is (known place d within) in
    subst (λ (it : KnownWord). IsDecodedShapeOf it.found (mapped_bytes 4 m x)) (get_or_default words place d behind within)
    (subst (λ bs. IsDecodedShapeOf k.found bs) (mapped_word m x w bytes small there) does)
