-- The instruction of a word of code, and the code at an address with that word.
use Rattle.std.proofs.Common.{◌≡◌, ℕ, ◌+◌, ◌*◌, ◌/◌, ◌%◌, ◌<◌, List, [], ◌∷◌, ◌++◌, length, take, drop, get_or, Option, Some, None, Result, Ok, Err, refl, sym, ap, ◌∙◌, subst, arith, length-take}
use Rattle.std.specs.Prelude.{IfSome}
use Rattle.std.specs.Int.{from_le_bytes, w32}
use Rattle.std.proofs.lemmas.List.{take-append-drop}
use Rattle.elf_image.specs.Images.{ImageData}
use Rattle.tcd_base.specs.Bytes.{bytes_of_word}
use Rattle.tcd_plan.specs.PlanData.{PlanData}
use Rattle.tc_isa.specs.Insts.{InstData, inst_fields}
use Rattle.tc_isa.specs.Spelling.{spelling, Spells}
use Rattle.tc_isa.specs.InBounds.{IsShapeInBounds}
use Rattle.tc_encode.specs.Decoding.{decoded_of}
use Rattle.tc_encode.specs.declared.errors.DecodeErr.{DecodeErr}
use Rattle.tc_encode.proofs.DecodeProofs.{decode_laws}
use Rattle.tc_encode.proofs.Wholes.{even_need, length_of_spelling}
use Rattle.cfg_recover.specs.declared.local_rules.Located.{Located}
use Rattle.cfg_recover.specs.HeldBytes.{FindsRomBytes}
use Rattle.cfg_recover.specs.Code.{FindsCodeInBytes, FindsShapeAndSize, shape_and_size_of}
use Rattle.cfg_recover.specs.KnownCodes.{shape_and_size_of_word}
use Rattle.cfg_recover.proofs.CodeLaws.{by_four, IsCode-bounded}

-- ---- if the first byte is even, only the first two count
-- the instruction has two bytes
two_long : (a b n : ℕ) (r : List ℕ) (i : InstData) → a % 2 ≡ 0 → decoded_of (a ∷ b ∷ r) ≡ Ok (i, n) → n ≡ 2
two_long a b n r i even e =
    let xs : List ℕ = a ∷ b ∷ r in
    let begins = (decode_laws.begins xs i n).0 e in
    let spells = begins.spells in
    let whole : xs ≡ spelling spells.inst.row (inst_fields i) ++ drop n xs = sym (take-append-drop n xs) ∙ ap (λ (front : List ℕ). front ++ drop n xs) spells.is in
    let size = length_of_spelling i spells.inst a (b ∷ r) (drop n xs) whole in
    let same : length (take n xs) ≡ length (spelling spells.inst.row (inst_fields i)) = ap (λ (l : List ℕ). length l) spells.is in
    omega (arith, begins.within, size, even_need a even, same, length-take n xs)

same_ok : (a b n : ℕ) (r s : List ℕ) (i : InstData) → a % 2 ≡ 0 → decoded_of (a ∷ b ∷ r) ≡ Ok (i, n) → decoded_of (a ∷ b ∷ s) ≡ Ok (i, n)
same_ok a b n r s i even e =
    let two = two_long a b n r i even e in
    let spells : Spells (a ∷ b ∷ []) i = subst (λ (m : ℕ). Spells (take m (a ∷ b ∷ r)) i) two (decode_laws.decoded (a ∷ b ∷ r) i n e) in
    decode_laws.spelled (a ∷ b ∷ []) s i spells ∙ ap (λ (m : ℕ). Ok (i, m)) (sym two)

ok_err : (p : InstData × ℕ) (e : DecodeErr) (r : Result (InstData × ℕ) DecodeErr) → r ≡ Ok p → r ≡ Err e → ⊥
ok_err p e r x y = cc

same_located : (x y : Result (InstData × ℕ) DecodeErr) → ((i : InstData) (n : ℕ) → x ≡ Ok (i, n) → y ≡ Ok (i, n)) → ((i : InstData) (n : ℕ) → y ≡ Ok (i, n) → x ≡ Ok (i, n)) → shape_and_size_of x ≡ shape_and_size_of y
same_located (Ok (i, n)) y there back = ap shape_and_size_of (sym (there i n refl))
same_located (Err e) (Ok (i, n)) there back = absurd (ok_err (i, n) e (Err e) (back i n refl) refl)
same_located (Err e) (Err f) there back = refl

pub low_two : (a b : ℕ) (r s : List ℕ) → a % 2 ≡ 0 → shape_and_size_of (decoded_of (a ∷ b ∷ r)) ≡ shape_and_size_of (decoded_of (a ∷ b ∷ s))
low_two a b r s even = same_located _ _ (λ i n e. same_ok a b n r s i even e) (λ i n e. same_ok a b n s r i even e)

-- ---- the word of four bytes
-- four bytes are those of the number that they make
four_of : (w : ℕ) (bs : List ℕ) → length bs ≡ 4 → ((k : ℕ) → get_or bs k 0 < 256) → w ≡ from_le_bytes w32 bs → bytes_of_word w ≡ bs
four_of w [] long small is = absurd (omega (arith, long))
four_of w (a ∷ []) long small is = absurd (omega (arith, long))
four_of w (a ∷ b ∷ []) long small is = absurd (omega (arith, long))
four_of w (a ∷ b ∷ c ∷ []) long small is = absurd (omega (arith, long))
four_of w (a ∷ b ∷ c ∷ d ∷ []) long small is =
    let la : a < 256 = small 0 in let lb : b < 256 = small 1 in let lc : c < 256 = small 2 in let ld : d < 256 = small 3 in
    let sum : w ≡ a + b * 256 + c * 65536 + d * 16777216 = is in
    let e0 : w % 256 ≡ a = omega arith in
    let e1 : w / 256 % 256 ≡ b = omega arith in
    let e2 : w / 65536 % 256 ≡ c = omega arith in
    let e3 : w / 16777216 % 256 ≡ d = omega arith in
    rw (e0, e1, e2, e3) refl
four_of w (a ∷ b ∷ c ∷ d ∷ e ∷ rest) long small is = absurd (omega (arith, long))

pub whole_word : (w : ℕ) (bs : List ℕ) → length bs ≡ 4 → ((k : ℕ) → get_or bs k 0 < 256) → w ≡ from_le_bytes w32 bs → shape_and_size_of_word w ≡ shape_and_size_of (decoded_of bs)
whole_word w bs long small is = ap (λ (l : List ℕ). shape_and_size_of (decoded_of l)) (four_of w bs long small is)

-- if the first byte is even, the low half is enough
pub half_word : (w : ℕ) (bs : List ℕ) → length bs ≡ 4 → ((k : ℕ) → get_or bs k 0 < 256) → w ≡ from_le_bytes w32 bs → w % 2 ≡ 0 → shape_and_size_of_word (w % 65536) ≡ shape_and_size_of (decoded_of bs)
half_word w [] long small is even = absurd (omega (arith, long))
half_word w (a ∷ []) long small is even = absurd (omega (arith, long))
half_word w (a ∷ b ∷ rest) long small is even =
    let whole : bytes_of_word w ≡ a ∷ b ∷ rest = four_of w (a ∷ b ∷ rest) long small is in
    let first : w % 256 ≡ a = ap (λ (l : List ℕ). get_or l 0 0) whole in
    let second : w / 256 % 256 ≡ b = ap (λ (l : List ℕ). get_or l 1 0) whole in
    let e0 : w % 65536 % 256 ≡ a = omega arith in
    let e1 : w % 65536 / 256 % 256 ≡ b = omega arith in
    let e2 : w % 65536 / 65536 % 256 ≡ 0 = omega arith in
    let e3 : w % 65536 / 16777216 % 256 ≡ 0 = omega arith in
    let same : bytes_of_word (w % 65536) ≡ a ∷ b ∷ 0 ∷ 0 ∷ [] = rw (e0, e1, e2, e3) refl in
    ap (λ (l : List ℕ). shape_and_size_of (decoded_of l)) same ∙ low_two a b (0 ∷ 0 ∷ []) rest (omega arith)

-- ---- the instruction at an address with these bytes
none_of : (bs : List ℕ) (e : DecodeErr) → decoded_of bs ≡ Err e → FindsCodeInBytes bs None
none_of bs e is inst n ok = ok_err (inst, n) e (decoded_of bs) ok is

located_by : (image : ImageData) (plan : PlanData) (x : ℕ) (bs : List ℕ) (r : Result (InstData × ℕ) DecodeErr) → decoded_of bs ≡ r → x % 2 ≡ 0 → FindsRomBytes image plan x 4 (Some bs) → FindsShapeAndSize image plan x (shape_and_size_of r)
located_by image plan x bs (Ok (i, n)) is even at = by_four image plan x bs (Some (i, n)) even at is
located_by image plan x bs (Err e) is even at = by_four image plan x bs None even at (none_of bs e is)

pub located_there : (image : ImageData) (plan : PlanData) (x w : ℕ) (bs : List ℕ) (found : Option Located) → x % 2 ≡ 0 → FindsRomBytes image plan x 4 (Some bs) → shape_and_size_of_word w ≡ shape_and_size_of (decoded_of bs) → found ≡ shape_and_size_of_word w → FindsShapeAndSize image plan x found
located_there image plan x w bs found even at word known =
    subst (λ (o : Option Located). FindsShapeAndSize image plan x o) (sym (known ∙ word)) (located_by image plan x bs (decoded_of bs) refl even at)

-- registers and words of the instruction are registers and words
pub located_bounded : (image : ImageData) (plan : PlanData) (x : ℕ) (found : Option Located) → FindsShapeAndSize image plan x found → IfSome found (λ l. IsShapeInBounds l.shape)
located_bounded image plan x (Some l) code = IsCode-bounded image plan x l.shape l.size code
located_bounded image plan x None code = tt
