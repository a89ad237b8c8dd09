-- Hex digits and the bytes before and after them.
use Rattle.std.proofs.Common.{◌≡◌, ◌<◌, ◌^◌, ◌∷◌, ◌++◌, [], ℕ, List, Result, Ok, Err, get_or, ap, ◌∙◌, arith}
use Rattle.std.specs.Prelude.{codes, OnOk}
use Rattle.std.specs.Str.{IsAscii}
use Rattle.std.proofs.lemmas.Str.Ascii.{IsAscii-nil, IsAscii-cons}
use Rattle.tcd_text.specs.HexNumbers.{hex_byte, hex_word}
use Rattle.tcd_text.proofs.DigitLaws.{hex_byte-front, hex_word-front}

-- an address after its mark
pub address_line : (x : ℕ) (w : List ℕ) → w ≡ hex_word x
    → 32 ∷ 35 ∷ 32 ∷ get_or w 0 0 ∷ get_or w 1 0 ∷ get_or w 2 0 ∷ get_or w 3 0 ∷ get_or w 4 0 ∷ get_or w 5 0 ∷ get_or w 6 0 ∷ get_or w 7 0 ∷ 32 ∷ []
    ≡ codes " # " ++ (hex_word x ++ (32 ∷ []))
unfolding hex_byte hex_word
address_line x w e = ap (λ (l : List ℕ). 32 ∷ 35 ∷ 32 ∷ get_or l 0 0 ∷ get_or l 1 0 ∷ get_or l 2 0 ∷ get_or l 3 0 ∷ get_or l 4 0 ∷ get_or l 5 0 ∷ get_or l 6 0 ∷ get_or l 7 0 ∷ 32 ∷ []) e

pub address_ascii : (x : ℕ) → x < 2 ^ 32 → IsAscii (codes " # " ++ (hex_word x ++ (32 ∷ [])))
address_ascii x h =
    let line : List ℕ = hex_word x ++ (32 ∷ []) in
    IsAscii-cons 32 (35 ∷ 32 ∷ line) (omega arith) (IsAscii-cons 35 (32 ∷ line) (omega arith) (IsAscii-cons 32 line (omega arith)
    (hex_word-front x (32 ∷ []) h (IsAscii-cons 32 [] (omega arith) IsAscii-nil))))

-- two bytes and a line feed
half_line : (x y : ℕ) (a b : List ℕ) → a ≡ hex_byte x → b ≡ hex_byte y → get_or a 0 0 ∷ get_or a 1 0 ∷ get_or b 0 0 ∷ get_or b 1 0 ∷ 10 ∷ [] ≡ hex_byte x ++ (hex_byte y ++ (10 ∷ []))
unfolding hex_byte
half_line x y a b e f =
    ap (λ (l : List ℕ). get_or l 0 0 ∷ get_or l 1 0 ∷ get_or b 0 0 ∷ get_or b 1 0 ∷ 10 ∷ []) e
    ∙ ap (λ (l : List ℕ). hex_byte x ++ (get_or l 0 0 ∷ get_or l 1 0 ∷ 10 ∷ [])) f

half_ascii : (x y : ℕ) → x < 256 → y < 256 → IsAscii (hex_byte x ++ (hex_byte y ++ (10 ∷ [])))
half_ascii x y h g = hex_byte-front x _ h (hex_byte-front y _ g (IsAscii-cons 10 [] (omega arith) IsAscii-nil))

-- four bytes and a line feed
four_line : (x y z u : ℕ) (a b c d : List ℕ) → a ≡ hex_byte x → b ≡ hex_byte y → c ≡ hex_byte z → d ≡ hex_byte u
    → get_or a 0 0 ∷ get_or a 1 0 ∷ get_or b 0 0 ∷ get_or b 1 0 ∷ get_or c 0 0 ∷ get_or c 1 0 ∷ get_or d 0 0 ∷ get_or d 1 0 ∷ 10 ∷ []
    ≡ hex_byte x ++ (hex_byte y ++ (hex_byte z ++ (hex_byte u ++ (10 ∷ []))))
unfolding hex_byte
four_line x y z u a b c d e f g h =
    ap (λ (l : List ℕ). get_or l 0 0 ∷ get_or l 1 0 ∷ get_or b 0 0 ∷ get_or b 1 0 ∷ get_or c 0 0 ∷ get_or c 1 0 ∷ get_or d 0 0 ∷ get_or d 1 0 ∷ 10 ∷ []) e
    ∙ ap (λ (l : List ℕ). hex_byte x ++ (get_or l 0 0 ∷ get_or l 1 0 ∷ get_or c 0 0 ∷ get_or c 1 0 ∷ get_or d 0 0 ∷ get_or d 1 0 ∷ 10 ∷ [])) f
    ∙ ap (λ (l : List ℕ). hex_byte x ++ (hex_byte y ++ (get_or l 0 0 ∷ get_or l 1 0 ∷ get_or d 0 0 ∷ get_or d 1 0 ∷ 10 ∷ []))) g
    ∙ ap (λ (l : List ℕ). hex_byte x ++ (hex_byte y ++ (hex_byte z ++ (get_or l 0 0 ∷ get_or l 1 0 ∷ 10 ∷ [])))) h

four_ascii : (x y z u : ℕ) → x < 256 → y < 256 → z < 256 → u < 256 → IsAscii (hex_byte x ++ (hex_byte y ++ (hex_byte z ++ (hex_byte u ++ (10 ∷ [])))))
four_ascii x y z u a b c d = hex_byte-front x _ a (hex_byte-front y _ b (half_ascii z u c d))

-- an address after its mark, and what follows
address_front : (x : ℕ) (w t : List ℕ) → w ≡ hex_word x
    → 32 ∷ 35 ∷ 32 ∷ get_or w 0 0 ∷ get_or w 1 0 ∷ get_or w 2 0 ∷ get_or w 3 0 ∷ get_or w 4 0 ∷ get_or w 5 0 ∷ get_or w 6 0 ∷ get_or w 7 0 ∷ 32 ∷ t
    ≡ codes " # " ++ (hex_word x ++ (32 ∷ t))
unfolding hex_byte hex_word
address_front x w t e = ap (λ (l : List ℕ). 32 ∷ 35 ∷ 32 ∷ get_or l 0 0 ∷ get_or l 1 0 ∷ get_or l 2 0 ∷ get_or l 3 0 ∷ get_or l 4 0 ∷ get_or l 5 0 ∷ get_or l 6 0 ∷ get_or l 7 0 ∷ 32 ∷ t) e

front_ascii : (x : ℕ) (t : List ℕ) → x < 2 ^ 32 → IsAscii t → IsAscii (codes " # " ++ (hex_word x ++ (32 ∷ t)))
front_ascii x t h ascii =
    let line : List ℕ = hex_word x ++ (32 ∷ t) in
    IsAscii-cons 32 (35 ∷ 32 ∷ line) (omega arith) (IsAscii-cons 35 (32 ∷ line) (omega arith) (IsAscii-cons 32 line (omega arith)
    (hex_word-front x (32 ∷ t) h (IsAscii-cons 32 t (omega arith) ascii))))

-- then two bytes and a line feed
pub half_remark : (p x y : ℕ) (w a b : List ℕ) → w ≡ hex_word p → a ≡ hex_byte x → b ≡ hex_byte y
    → 32 ∷ 35 ∷ 32 ∷ get_or w 0 0 ∷ get_or w 1 0 ∷ get_or w 2 0 ∷ get_or w 3 0 ∷ get_or w 4 0 ∷ get_or w 5 0 ∷ get_or w 6 0 ∷ get_or w 7 0 ∷ 32
    ∷ get_or a 0 0 ∷ get_or a 1 0 ∷ get_or b 0 0 ∷ get_or b 1 0 ∷ 10 ∷ []
    ≡ codes " # " ++ (hex_word p ++ (32 ∷ (hex_byte x ++ (hex_byte y ++ (10 ∷ [])))))
half_remark p x y w a b e f g =
    address_front p w _ e ∙ ap (λ (l : List ℕ). codes " # " ++ (hex_word p ++ (32 ∷ l))) (half_line x y a b f g)

pub half_remark_ascii : (p x y : ℕ) → p < 2 ^ 32 → x < 256 → y < 256 → IsAscii (codes " # " ++ (hex_word p ++ (32 ∷ (hex_byte x ++ (hex_byte y ++ (10 ∷ []))))))
half_remark_ascii p x y h f g = front_ascii p _ h (half_ascii x y f g)

-- then four bytes and a line feed
pub four_remark : (p x y z u : ℕ) (w a b c d : List ℕ) → w ≡ hex_word p → a ≡ hex_byte x → b ≡ hex_byte y → c ≡ hex_byte z → d ≡ hex_byte u
    → 32 ∷ 35 ∷ 32 ∷ get_or w 0 0 ∷ get_or w 1 0 ∷ get_or w 2 0 ∷ get_or w 3 0 ∷ get_or w 4 0 ∷ get_or w 5 0 ∷ get_or w 6 0 ∷ get_or w 7 0 ∷ 32
    ∷ get_or a 0 0 ∷ get_or a 1 0 ∷ get_or b 0 0 ∷ get_or b 1 0 ∷ get_or c 0 0 ∷ get_or c 1 0 ∷ get_or d 0 0 ∷ get_or d 1 0 ∷ 10 ∷ []
    ≡ codes " # " ++ (hex_word p ++ (32 ∷ (hex_byte x ++ (hex_byte y ++ (hex_byte z ++ (hex_byte u ++ (10 ∷ [])))))))
four_remark p x y z u w a b c d e f g h i =
    address_front p w _ e ∙ ap (λ (l : List ℕ). codes " # " ++ (hex_word p ++ (32 ∷ l))) (four_line x y z u a b c d f g h i)

pub four_remark_ascii : (p x y z u : ℕ) → p < 2 ^ 32 → x < 256 → y < 256 → z < 256 → u < 256
    → IsAscii (codes " # " ++ (hex_word p ++ (32 ∷ (hex_byte x ++ (hex_byte y ++ (hex_byte z ++ (hex_byte u ++ (10 ∷ []))))))))
four_remark_ascii p x y z u h e f g i = front_ascii p _ h (four_ascii x y z u e f g i)

-- an appended text can be written in another way
pub on_text : {T E : Type 0} (r : Result T E) (old new xs ys : List ℕ) → xs ≡ ys → OnOk r (new ≡ old ++ xs) → OnOk r (new ≡ old ++ ys)
on_text (Ok x) old new xs ys e h = h ∙ ap (λ (l : List ℕ). old ++ l) e
on_text (Err x) old new xs ys e h = tt
