-- How a chain is counted, link after link.
use Rattle.std.proofs.Common.{◌≡◌, ℕ, zero, suc, ◌+◌, ◌-◌, ◌≤◌, ◌≢◌, Bool, true, false, cond, List, [], ◌∷◌, length, Option, Some, None, refl, sym, ap, ◌∙◌, arith}
use Rattle.std.proofs.lemmas.Bool.{eq-eqb, ne_eqb}
use Rattle.std.proofs.lemmas.Option.{cond_some}
use Rattle.std.specs.Option.{option_map}
use Rattle.csa_chain.specs.MemoryBytes.{Memory}
use Rattle.csa_chain.specs.Chain.{link_in, is_area_mapped, area_word, chain_within, chain}

-- the length of a chain of at most `most` links, plus n
abbrev pub counted : ℕ → ℕ → Memory → ℕ → Option ℕ
counted most n m word = option_map (λ ls. n + length ls) (chain_within most m word)

more : (n l : ℕ) (r : Option (List ℕ)) → option_map (λ ls. n + length ls) (option_map (λ rest. l ∷ rest) r) ≡ option_map (λ ls. n + 1 + length ls) r
more n l None = refl
more n l (Some ls) = let e : n + suc (length ls) ≡ n + 1 + length ls = omega arith in ap Some e

whole : (r : Option (List ℕ)) → option_map (λ ls. 0 + length ls) r ≡ option_map length r
whole None = refl
whole (Some ls) = let e : 0 + length ls ≡ length ls = omega arith in ap Some e

-- all of it
pub counted_whole : (m : Memory) (word : ℕ) → counted 4096 0 m word ≡ option_map length (chain m word)
counted_whole m word = whole (chain_within 4096 m word)

none_more : (n : ℕ) → n + length {A = ℕ} [] ≡ n
none_more n = omega arith

-- a link 0 ends it
pub counted_end : (most n : ℕ) (m : Memory) (word : ℕ) → link_in word ≡ 0 → counted most n m word ≡ Some n
unfolding chain_within
counted_end zero n m word e = rw (eq-eqb (link_in word) 0 e) (ap Some (none_more n))
counted_end (suc most) n m word e = rw (eq-eqb (link_in word) 0 e) (ap Some (none_more n))

-- a chain with more links than it may have
pub counted_long : (most n : ℕ) (m : Memory) (word : ℕ) → most ≡ 0 → link_in word ≢ 0 → counted most n m word ≡ None
unfolding chain_within
counted_long zero n m word e ne = rw (ne_eqb (link_in word) 0 ne) refl
counted_long (suc most) n m word e ne = absurd (omega arith)

-- an area that isn't mapped
pub counted_unmapped : (most n : ℕ) (m : Memory) (word : ℕ) → link_in word ≢ 0 → is_area_mapped m (link_in word) ≡ false → counted most n m word ≡ None
unfolding chain_within
counted_unmapped zero n m word ne unmapped = rw (ne_eqb (link_in word) 0 ne) refl
counted_unmapped (suc most) n m word ne unmapped = rw (ne_eqb (link_in word) 0 ne, unmapped) refl

-- a link, and the rest of the chain
pub counted_more : (most rest n : ℕ) (m : Memory) (word : ℕ) → most ≡ rest + 1 → link_in word ≢ 0 → is_area_mapped m (link_in word) ≡ true →
    counted most n m word ≡ counted rest (n + 1) m (area_word m (link_in word) 0)
unfolding chain_within
counted_more zero rest n m word e ne mapped = absurd (omega arith)
counted_more (suc most) rest n m word e ne mapped =
    let same : most ≡ rest = omega arith in
    rw (ne_eqb (link_in word) 0 ne, mapped) (more n (link_in word) (chain_within most m (area_word m (link_in word) 0)))
    ∙ ap (λ k. counted k (n + 1) m (area_word m (link_in word) 0)) same

-- ---- by the word that is next in the chain, if its area is mapped
none_false : (b : Bool) (x : ℕ) → cond b (Some x) None ≡ None → b ≡ false
none_false true x e = cc
none_false false x e = refl

pub counted_stops : (most n : ℕ) (m : Memory) (word : ℕ) (next : Option ℕ) → next ≡ cond (is_area_mapped m (link_in word)) (Some (area_word m (link_in word) 0)) None →
    next ≡ None → link_in word ≢ 0 → counted most n m word ≡ None
counted_stops most n m word next is none ne = counted_unmapped most n m word ne (none_false (is_area_mapped m (link_in word)) (area_word m (link_in word) 0) (sym is ∙ none))

pub counted_goes_on : (n w : ℕ) (m : Memory) (word : ℕ) (next : Option ℕ) → next ≡ cond (is_area_mapped m (link_in word)) (Some (area_word m (link_in word) 0)) None →
    next ≡ Some w → n ≤ 4096 → n ≢ 4096 → link_in word ≢ 0 → counted (4096 - n) n m word ≡ counted (4096 - (n + 1)) (n + 1) m w
counted_goes_on n w m word next is some few other ne =
    let parts = cond_some (is_area_mapped m (link_in word)) (area_word m (link_in word) 0) w (sym is ∙ some) in
    counted_more (4096 - n) (4096 - (n + 1)) n m word (omega arith) ne parts.0 ∙ ap (counted (4096 - (n + 1)) (n + 1) m) parts.1
