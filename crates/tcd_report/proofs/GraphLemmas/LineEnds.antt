-- The ends of lines.
use Rattle.std.proofs.Common.{◌≡◌, ◌+◌, ◌*◌, add_comm, ◌<◌, ◌≤◌, ◌^◌, ◌∷◌, ◌++◌, [], ℕ, suc, List, Result, Ok, Err, get_or, length, length-take-le, take, drop, refl, sym, ap, ◌∙◌, arith, append_assoc, append-nil, length-append, add-one, drop-cons}
use Rattle.std.proofs.Math.Seq.{take-append_seam, drop-append_seam}
use Rattle.std.proofs.Math.Nat.{suc-mul}
use Rattle.std.proofs.lemmas.Grind.{flat_map-append}
use Rattle.std.proofs.lemmas.List.{take_all, drop_all, take_more}
use Rattle.std.proofs.lemmas.Str.{IsAscii-append}
use Rattle.std.specs.Prelude.{codes, OnOk}
use Rattle.std.specs.Str.{IsAscii}
use Rattle.std.proofs.lemmas.Str.Ascii.{IsAscii-nil, IsAscii-cons}
use Rattle.tcd_text.specs.HexNumbers.{hex_byte, hex_word}
use Rattle.tcd_text.proofs.DigitLaws.{hex_word-front}
use Rattle.tcd_report.specs.Graphs.{line_end_to, lines_to}
use Rattle.tcd_report.specs.Graphs.KnownHandlers.{with_line_prefix}

-- an address and a line feed
pub address_line : (x : ℕ) (w : List ℕ) → w ≡ hex_word x
    → get_or w 0 0 ∷ get_or w 1 0 ∷ get_or w 2 0 ∷ get_or w 3 0 ∷ get_or w 4 0 ∷ get_or w 5 0 ∷ get_or w 6 0 ∷ get_or w 7 0 ∷ 10 ∷ []
    ≡ hex_word x ++ 10 ∷ []
unfolding hex_byte hex_word
address_line x w e = ap (λ (l : List ℕ). get_or l 0 0 ∷ get_or l 1 0 ∷ get_or l 2 0 ∷ get_or l 3 0 ∷ get_or l 4 0 ∷ get_or l 5 0 ∷ get_or l 6 0 ∷ get_or l 7 0 ∷ 10 ∷ []) e

pub address_ascii : (x : ℕ) → x < 2 ^ 32 → IsAscii (hex_word x ++ 10 ∷ [])
address_ascii x h = hex_word-front x (10 ∷ []) h (IsAscii-cons 10 [] (omega arith) IsAscii-nil)

-- the end of a handler's line
pub handler_line : (x : ℕ) (w : List ℕ) → w ≡ hex_word x
    → 105 ∷ 114 ∷ 113 ∷ 32 ∷ get_or w 0 0 ∷ get_or w 1 0 ∷ get_or w 2 0 ∷ get_or w 3 0 ∷ get_or w 4 0 ∷ get_or w 5 0 ∷ get_or w 6 0 ∷ get_or w 7 0 ∷ 10 ∷ []
    ≡ line_end_to (codes "irq ") x
handler_line x w e = ap (λ (l : List ℕ). 105 ∷ 114 ∷ 113 ∷ 32 ∷ l) (address_line x w e)

pub handler_ascii : (x : ℕ) → x < 2 ^ 32 → IsAscii (line_end_to (codes "irq ") x)
handler_ascii x h =
    let line : List ℕ = hex_word x ++ 10 ∷ [] in
    IsAscii-cons 105 (114 ∷ 113 ∷ 32 ∷ line) (omega arith) (IsAscii-cons 114 (113 ∷ 32 ∷ line) (omega arith)
    (IsAscii-cons 113 (32 ∷ line) (omega arith) (IsAscii-cons 32 line (omega arith) (address_ascii x h))))

-- each end has thirteen bytes
end_size : (q : ℕ) → length (line_end_to (codes "irq ") q) ≡ 13
unfolding hex_byte hex_word
end_size q = refl

line_size : (front : List ℕ) (q : ℕ) → length (front ++ line_end_to (codes "irq ") q) ≡ length front + 13
line_size front q = length-append front (line_end_to (codes "irq ") q) ∙ ap (λ n. length front + n) (end_size q)

next_size : (n k : ℕ) → k + n * k ≡ suc n * k
next_size n k = add_comm k (n * k) ∙ sym (suc-mul n k)

pub next_place : (n k : ℕ) → n * k + k ≡ (n + 1) * k
next_place n k = sym (suc-mul n k) ∙ ap (λ m. m * k) (sym (add-one n))

pub no_place : (k : ℕ) → 0 ≡ 0 * k
no_place k = omega arith

-- the lines together
pub lines_size : (front entries : List ℕ) → length (lines_to front (codes "irq ") entries) ≡ length entries * (length front + 13)
lines_size front [] = omega arith
lines_size front (q ∷ qs) =
    let one : length (lines_to front (codes "irq ") (q ∷ qs)) ≡ length (front ++ line_end_to (codes "irq ") q) + length (lines_to front (codes "irq ") qs) =
    length-append (front ++ line_end_to (codes "irq ") q) (lines_to front (codes "irq ") qs) in
    one ∙ ap (λ n. n + length (lines_to front (codes "irq ") qs)) (line_size front q) ∙ ap (λ n. (length front + 13) + n) (lines_size front qs) ∙ next_size (length qs) (length front + 13)

-- an ASCII front gives ASCII lines
pub lines_ascii : (front entries : List ℕ) → IsAscii front → ((k : ℕ) → get_or entries k 0 < 2 ^ 32) → IsAscii (lines_to front (codes "irq ") entries)
lines_ascii front [] is below = IsAscii-nil
lines_ascii front (q ∷ qs) is below =
    IsAscii-append (front ++ line_end_to (codes "irq ") q) (lines_to front (codes "irq ") qs) (IsAscii-append front (line_end_to (codes "irq ") q) is (handler_ascii q (below 0))) (lines_ascii front qs is (λ k. below (suc k)))

-- a front that is written over another between lines before it and lines after it
front_between : (a old front e b lines : List ℕ) (at : ℕ) → lines ≡ a ++ ((old ++ e) ++ b) → length a ≡ at → length old ≡ length front → with_line_prefix lines at front ≡ a ++ ((front ++ e) ++ b)
front_between a old front e b lines at are size same =
    let flat : lines ≡ a ++ (old ++ (e ++ b)) = are ∙ ap (λ l. a ++ l) (append_assoc old e b) in
    let head : take at lines ≡ a = ap (take at) flat ∙ ap (λ n. take n (a ++ (old ++ (e ++ b)))) (sym size) ∙ take-append_seam a (old ++ (e ++ b)) in
    let long : at + length front ≡ length (a ++ old) = sym (length-append a old ∙ ap (λ n. n + length old) size ∙ ap (λ n. at + n) same) in
    let tail : drop (at + length front) lines ≡ e ++ b =
    ap (drop (at + length front)) (flat ∙ sym (append_assoc a old (e ++ b))) ∙ ap (λ n. drop n ((a ++ old) ++ (e ++ b))) long ∙ drop-append_seam (a ++ old) (e ++ b) in
    ap (λ l. l ++ (front ++ drop (at + length front) lines)) head ∙ ap (λ l. a ++ (front ++ l)) tail ∙ ap (λ l. a ++ l) (sym (append_assoc front e b))

-- the front is written over that of one line more
pub front_more : (front old entries lines : List ℕ) (i at : ℕ) → length old ≡ length front → at ≡ i * (length front + 13) → i < length entries
    → lines ≡ lines_to front (codes "irq ") (take i entries) ++ lines_to old (codes "irq ") (drop i entries)
    → with_line_prefix lines at front ≡ lines_to front (codes "irq ") (take (i + 1) entries) ++ lines_to old (codes "irq ") (drop (i + 1) entries)
front_more front old entries lines i at same place lt are =
    let q : ℕ = get_or entries i 0 in
    let e : List ℕ = line_end_to (codes "irq ") q in
    let before : List ℕ = lines_to front (codes "irq ") (take i entries) in
    let after : List ℕ = lines_to old (codes "irq ") (drop (i + 1) entries) in
    let size : length before ≡ at = lines_size front (take i entries) ∙ ap (λ n. n * (length front + 13)) (length-take-le i entries (omega (arith, lt))) ∙ sym place in
    let rest : lines_to old (codes "irq ") (drop i entries) ≡ (old ++ e) ++ after =
    ap (lines_to old (codes "irq ")) (drop-cons entries i 0 lt) ∙ ap (λ n. (old ++ e) ++ lines_to old (codes "irq ") (drop n entries)) (sym (add-one i)) in
    let whole : before ++ ((front ++ e) ++ after) ≡ lines_to front (codes "irq ") (take (i + 1) entries) ++ after =
    sym (append_assoc before (front ++ e) after)
    ∙ ap (λ l. l ++ after) (ap (λ l. before ++ l) (sym (append-nil (front ++ e))) ∙ sym (flat_map-append (λ p. front ++ line_end_to (codes "irq ") p) (take i entries) (q ∷ [])) ∙ ap (lines_to front (codes "irq ")) (sym (take_more entries i 0 lt))) in
    front_between before old front e after lines at (are ∙ ap (λ l. before ++ l) rest) size same ∙ whole

-- all fronts are written
pub all_written : (front old entries : List ℕ) (i : ℕ) → length entries ≤ i
    → lines_to front (codes "irq ") (take i entries) ++ lines_to old (codes "irq ") (drop i entries) ≡ lines_to front (codes "irq ") entries
all_written front old entries i ge =
    ap (λ l. lines_to front (codes "irq ") l ++ lines_to old (codes "irq ") (drop i entries)) (take_all i entries ge)
    ∙ ap (λ l. lines_to front (codes "irq ") entries ++ lines_to old (codes "irq ") l) (drop_all i entries ge)
    ∙ append-nil (lines_to front (codes "irq ") entries)

pub on_text : {T E : Type 0} (r : Result T E) (old new xs ys : List ℕ) → xs ≡ ys → OnOk r (new ≡ old ++ xs) → OnOk r (new ≡ old ++ ys)
on_text (Ok x) old new xs ys e h = h ∙ ap (λ (l : List ℕ). old ++ l) e
on_text (Err x) old new xs ys e h = tt
