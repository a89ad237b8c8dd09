-- Texts that are written one piece after another.
use Rattle.std.proofs.Common.{◌≡◌, ◌<◌, ◌≤◌, ◌+◌, ◌-◌, zero, suc, ℕ, List, [], ◌∷◌, ◌++◌, length, take, drop, get_or, refl, ap, sym, ◌∙◌, arith, append_assoc, append-nil, add-zero, add-one, length-drop, drop-cons}
use Rattle.std.specs.List.{flat_map}
use Rattle.std.proofs.lemmas.List.{drop-drop, drop_all, take_more, flat_map_more}
use Rattle.elf_image.specs.Images.{SegmentData}
use Rattle.tc_disasm.specs.Listing.{instruction_or_data_size, listing_line_at, listing_lines_from, section_text, listing_sections_from}

-- a further item
pub flat_map_on : {X : Type 0} (f : X → List ℕ) (xs : List X) (i : ℕ) (d : X) (start before after : List ℕ) → i < length xs
    → before ≡ start ++ flat_map f (take i xs) → after ≡ before ++ f (get_or xs i d) → after ≡ start ++ flat_map f (take (i + 1) xs)
flat_map_on f xs i d start before after h inv is =
    is ∙ ap (λ t. t ++ f (get_or xs i d)) inv
    ∙ flat_map_more f start (take i xs) (get_or xs i d)
    ∙ ap (λ us. start ++ flat_map f us) (sym (take_more xs i d h))

-- bytes that are passed over
lines-skip : (address : ℕ) (bs : List ℕ) (n : ℕ) → listing_lines_from address bs n ≡ listing_lines_from (address + n) (drop n bs) 0
unfolding listing_lines_from
lines-skip address [] zero = refl
lines-skip address [] (suc n) = refl
lines-skip address (b ∷ bs) zero = rw add-zero refl
lines-skip address (b ∷ bs) (suc n) = lines-skip (address + 1) bs n ∙ ap (λ a. listing_lines_from a (drop n bs) 0) (omega arith)

-- the line at the front, and the others
pub lines-front : (address : ℕ) (bs : List ℕ) (n : ℕ) → 0 < length bs → 0 < n → n ≡ instruction_or_data_size bs → listing_lines_from address bs 0 ≡ listing_line_at address bs ++ listing_lines_from (address + n) (drop n bs) 0
unfolding listing_lines_from
lines-front address [] n some more e = absurd (omega arith)
lines-front address (b ∷ bs) zero some more e = absurd (omega arith)
lines-front address (b ∷ bs) (suc n) some more e =
    let one : instruction_or_data_size (b ∷ bs) - 1 ≡ n = omega arith in
    ap (λ m. listing_line_at address (b ∷ bs) ++ listing_lines_from (address + 1) bs m) one
    ∙ ap (λ ls. listing_line_at address (b ∷ bs) ++ ls) (lines-skip (address + 1) bs n ∙ ap (λ a. listing_lines_from a (drop n bs) 0) (omega arith))

-- a further line
pub lines_on : (address at n : ℕ) (bs start before after : List ℕ) → at < length bs → 0 < n → n ≡ instruction_or_data_size (drop at bs)
    → before ++ listing_lines_from (address + at) (drop at bs) 0 ≡ start
    → after ≡ before ++ listing_line_at (address + at) (drop at bs)
    → after ++ listing_lines_from (address + (at + n)) (drop (at + n) bs) 0 ≡ start
lines_on address at n bs start before after within some size inv is =
    let left : 0 < length (drop at bs) = omega (arith, length-drop at bs) in
    let place : address + (at + n) ≡ address + at + n = omega arith in
    ap (λ a. a ++ listing_lines_from (address + (at + n)) (drop (at + n) bs) 0) is
    ∙ append_assoc before (listing_line_at (address + at) (drop at bs)) (listing_lines_from (address + (at + n)) (drop (at + n) bs) 0)
    ∙ ap (λ ls. before ++ (listing_line_at (address + at) (drop at bs) ++ ls)) (ap (λ a. listing_lines_from a (drop (at + n) bs) 0) place ∙ ap (λ ds. listing_lines_from (address + at + n) ds 0) (sym (drop-drop n at bs)))
    ∙ ap (λ ls. before ++ ls) (sym (lines-front (address + at) (drop at bs) n left some size))
    ∙ inv

-- no line is left
pub lines_end : (address at : ℕ) (bs start text : List ℕ) → length bs ≤ at → text ++ listing_lines_from (address + at) (drop at bs) 0 ≡ start → text ≡ start
unfolding listing_lines_from
lines_end address at bs start text h inv =
    sym (append-nil text) ∙ sym (ap (λ ds. text ++ listing_lines_from (address + at) ds 0) (drop_all at bs h)) ∙ inv

-- a further section
pub sections_on : (ss : List SegmentData) (i : ℕ) (d : SegmentData) (start before after : List ℕ) → i < length ss
    → before ++ listing_sections_from i (drop i ss) ≡ start
    → after ≡ before ++ section_text i (get_or ss i d)
    → after ++ listing_sections_from (i + 1) (drop (i + 1) ss) ≡ start
unfolding listing_sections_from
sections_on ss i d start before after h inv is =
    ap (λ a. a ++ listing_sections_from (i + 1) (drop (i + 1) ss)) is
    ∙ append_assoc before (section_text i (get_or ss i d)) (listing_sections_from (i + 1) (drop (i + 1) ss))
    ∙ ap (λ us. before ++ (section_text i (get_or ss i d) ++ listing_sections_from (i + 1) us)) (rw add-one refl)
    ∙ ap (λ us. before ++ listing_sections_from i us) (sym (drop-cons ss i d h))
    ∙ inv

-- no section is left
pub sections_end : (ss : List SegmentData) (i : ℕ) (start text : List ℕ) → length ss ≤ i → text ++ listing_sections_from i (drop i ss) ≡ start → text ≡ start
unfolding listing_sections_from
sections_end ss i start text h inv =
    sym (append-nil text) ∙ sym (ap (λ us. text ++ listing_sections_from i us) (drop_all i ss h)) ∙ inv
