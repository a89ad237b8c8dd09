-- The code at an address: from its bytes, and back. There is at most one instruction.
use Rattle.std.proofs.Common.{◌≡◌, ℕ, zero, suc, ◌+◌, ◌%◌, ◌<◌, ◌≤◌, ◌⊎◌, inl, inr, List, [], ◌∷◌, ◌++◌, length, take, drop, Option, Some, None, Result, Ok, refl, sym, ap, ◌∙◌, subst, arith, add-zero}
use Rattle.std.specs.Prelude.{slice_index, option_and_then}
use Rattle.std.specs.Option.{option_map}
use Rattle.std.proofs.lemmas.List.{get_or-take, length-take, append-nil, take-append-drop}
use Rattle.elf_image.specs.Images.{ImageData, image_byte}
use Rattle.tcd_plan.specs.PlanData.{PlanData}
use Rattle.tc_isa.specs.Insts.{InstData}
use Rattle.tc_isa.specs.Spelling.{Spells}
use Rattle.tc_isa.specs.Meanings.{shape_of}
use Rattle.tc_isa.specs.InBounds.{IsShapeInBounds}
use Rattle.tc_isa.specs.declared.shapes.Shape.{Shape}
use Rattle.tc_isa.proofs.ShapeBounds.{shape_is}
use Rattle.tc_encode.specs.Decoding.{decoded_of}
use Rattle.tc_encode.specs.declared.errors.DecodeErr.{DecodeErr}
use Rattle.tc_encode.proofs.DecodeProofs.{decode_laws}
use Rattle.tcd_base.specs.declared.range.Range.{Range}
use Rattle.tcd_base.specs.Ranges.{IsInOneRange}
use Rattle.tc_machine.specs.Safe.{SpellsAt}
use Rattle.tc_machine.proofs.ShapeWords as machine
use Rattle.cfg_recover.specs.Code.{IsCode, HasCode, FindsCodeInBytes, FindsCode}
use Rattle.cfg_recover.specs.HeldBytes.{image_bytes_at, FindsRomBytes}

-- the bytes from x on are these
abbrev Holds : ImageData → ℕ → List ℕ → Type 0
Holds image x bs = (i : ℕ) → i < length bs → image_byte image (x + i) ≡ Some (slice_index bs i)

-- bytes that are held are found
held_from : (image : ImageData) (x : ℕ) (bs : List ℕ) → Holds image x bs → image_bytes_at image x (length bs) ≡ Some bs
held_from image x [] h = refl
held_from image x (b ∷ bs) h =
    let first : image_byte image x ≡ Some b = ap (λ (y : ℕ). image_byte image y) (sym (add-zero x)) ∙ h 0 (omega arith) in
    let rest : image_bytes_at image (x + 1) (length bs) ≡ Some bs = held_from image (x + 1) bs (λ i lt. ap (λ (y : ℕ). image_byte image y) (omega arith) ∙ h (suc i) (omega arith)) in
    rw (first, rest) refl

held_by_length : (image : ImageData) (x n : ℕ) (bs : List ℕ) → length bs ≡ n → Holds image x bs → image_bytes_at image x n ≡ Some bs
held_by_length image x n bs e h = let P : ℕ → Type 0 = λ m. image_bytes_at image x m ≡ Some bs in subst P e (held_from image x bs h)

-- bytes that are found are held
parts : (o : Option ℕ) (r : Option (List ℕ)) (bs : List ℕ) → option_and_then (λ b. option_map (λ t. b ∷ t) r) o ≡ Some bs → (b : ℕ) × (t : List ℕ) × (o ≡ Some b) × (r ≡ Some t) × (bs ≡ b ∷ t)
parts None r bs e = cc
parts (Some b) None bs e = cc
parts (Some b) (Some t) bs e = (b, t, refl, refl, cc)

held_next : (image : ImageData) (x b : ℕ) (t bs : List ℕ) → bs ≡ b ∷ t → image_byte image x ≡ Some b → Holds image (x + 1) t → Holds image x bs
held_next image x b t bs e first rest zero lt = ap (λ (y : ℕ). image_byte image y) (add-zero x) ∙ first ∙ ap (λ (l : List ℕ). Some (slice_index l 0)) (sym e)
held_next image x b t bs e first rest (suc i) lt =
    let within : i < length t = omega (arith, ap (λ (l : List ℕ). length l) e) in
    ap (λ (y : ℕ). image_byte image y) (omega arith) ∙ rest i within ∙ ap (λ (l : List ℕ). Some (slice_index l (suc i))) (sym e)

held_to : (image : ImageData) (x n : ℕ) (bs : List ℕ) → image_bytes_at image x n ≡ Some bs → (length bs ≡ n) × Holds image x bs
held_to image x zero [] e = (refl, λ i lt. absurd (omega arith))
held_to image x zero (b ∷ bs) e = cc
held_to image x (suc n) bs e =
    let p = parts (image_byte image x) (image_bytes_at image (x + 1) n) bs e in
    let r = held_to image (x + 1) n p.1 p.3 in
    let l : length bs ≡ suc (length p.1) = ap (λ (l : List ℕ). length l) p.4 in
    (omega arith, held_next image x p.0 p.1 bs p.4 p.2 r.1)

-- so is a front of them
front_held : (image : ImageData) (x n : ℕ) (bs : List ℕ) → n ≤ length bs → Holds image x bs → Holds image x (take n bs)
front_held image x n bs le h i lt =
    let within : i < n = omega (arith, length-take n bs) in
    h i (omega arith) ∙ ap Some (sym (get_or-take n bs i 0 within))

-- fewer bytes are in the range, too
in_one_fewer : (x n m : ℕ) (rs : List Range) → m ≤ n → IsInOneRange x n rs → IsInOneRange x m rs
in_one_fewer x n m [] le h = absurd h
in_one_fewer x n m (r ∷ rs) le (inl w) = inl (w.0, omega arith)
in_one_fewer x n m (r ∷ rs) le (inr h) = inr (in_one_fewer x n m rs le h)

-- an instruction that they begin with is there
pub code_found : (image : ImageData) (plan : PlanData) (x m : ℕ) (bs : List ℕ) (inst : InstData) (n : ℕ) → x % 2 ≡ 0 → FindsRomBytes image plan x m (Some bs) → FindsCodeInBytes bs (Some (inst, n)) → IsCode image plan x (shape_of inst) n
code_found image plan x m bs inst n even at finds =
    let held = held_to image x m bs at.1 in
    let lengths = decode_laws.lengths bs inst n finds in
    record {
      even = even;
      bytes = take n bs;
      inst = inst;
      spells = record {
        spelled = decode_laws.decoded bs inst n finds;
        in_rom = in_one_fewer x m (length (take n bs)) plan.rom (omega (arith, lengths.0, held.0, length-take n bs)) at.0;
        held = front_held image x n bs lengths.0 held.1;
      };
      shaped = refl;
      sized = omega (arith, length-take n bs, lengths.0);
    }

-- the spelling of an instruction has two or four bytes
two_or_four : (bs : List ℕ) (inst : InstData) → Spells bs inst → (length bs ≡ 2) ⊎ (length bs ≡ 4)
two_or_four bs inst s = (decode_laws.lengths (bs ++ []) inst (length bs) (decode_laws.spelled bs [] inst s)).2

-- no instruction is spelled by a front of bytes that begin with none
begins_none : (bs front rest : List ℕ) (inst : InstData) → FindsCodeInBytes bs None → bs ≡ front ++ rest → Spells front inst → ⊥
begins_none bs front rest inst none e s = none inst (length front) (ap (λ (l : List ℕ). decoded_of l) e ∙ decode_laws.spelled front rest inst s)

some_same : (o : Option (List ℕ)) (a b : List ℕ) → o ≡ Some a → o ≡ Some b → a ≡ b
some_same o a b e f = cc

none_some : (o : Option (List ℕ)) (a : List ℕ) → o ≡ None → o ≡ Some a → ⊥
none_some o a e f = cc

held_of : (image : ImageData) (plan : PlanData) (x n : ℕ) (bytes : List ℕ) (inst : InstData) → SpellsAt image plan x bytes inst → length bytes ≡ n → image_bytes_at image x n ≡ Some bytes
held_of image plan x n bytes inst at e = held_by_length image x n bytes e at.held

in_rom_of : (image : ImageData) (plan : PlanData) (x n : ℕ) (bytes : List ℕ) (inst : InstData) → SpellsAt image plan x bytes inst → length bytes ≡ n → IsInOneRange x n plan.rom
in_rom_of image plan x n bytes inst at e = let P : ℕ → Type 0 = λ m. IsInOneRange x m plan.rom in subst P e at.in_rom

-- no instruction is spelled at x
abbrev SpellsNone : ImageData → PlanData → ℕ → Type 0
SpellsNone image plan x = (bytes : List ℕ) (inst : InstData) → SpellsAt image plan x bytes inst → ⊥

has_none : (image : ImageData) (plan : PlanData) (x : ℕ) → SpellsNone image plan x → HasCode image plan x → ⊥
has_none image plan x none has = none (has.code).bytes (has.code).inst (has.code).spells

-- if four bytes are there that begin with no instruction, there is none
none_in_four : (image : ImageData) (plan : PlanData) (x : ℕ) (bs : List ℕ) → FindsRomBytes image plan x 4 (Some bs) → FindsCodeInBytes bs None → SpellsNone image plan x
none_in_four image plan x bs at none bytes inst code =
    let held = held_to image x 4 bs at.1 in
    elim (two_or_four bytes inst code.spelled) [
      | inl two ↦
          let size : length (take 2 bs) ≡ 2 = omega (arith, length-take 2 bs, held.0) in
          let front = held_by_length image x 2 (take 2 bs) size (front_held image x 2 bs (omega (arith, held.0)) held.1) in
          let same : take 2 bs ≡ bytes = some_same _ _ _ front (held_of image plan x 2 bytes inst code two) in
          begins_none bs bytes (drop 2 bs) inst none (sym (take-append-drop 2 bs) ∙ ap (λ (l : List ℕ). l ++ drop 2 bs) same) code.spelled
      | inr four ↦
          let same : bs ≡ bytes = some_same _ _ _ at.1 (held_of image plan x 4 bytes inst code four) in
          begins_none bs bytes [] inst none (same ∙ sym (append-nil bytes)) code.spelled
    ]

-- if no four bytes are there, and two that begin with no instruction, there is none
none_in_two : (image : ImageData) (plan : PlanData) (x : ℕ) (bs : List ℕ) → FindsRomBytes image plan x 4 None → FindsRomBytes image plan x 2 (Some bs) → FindsCodeInBytes bs None → SpellsNone image plan x
none_in_two image plan x bs no_four at none bytes inst code =
    elim (two_or_four bytes inst code.spelled) [
      | inl two ↦
          let same : bs ≡ bytes = some_same _ _ _ at.1 (held_of image plan x 2 bytes inst code two) in
          begins_none bs bytes [] inst none (same ∙ sym (append-nil bytes)) code.spelled
      | inr four ↦ none_some _ bytes (no_four (in_rom_of image plan x 4 bytes inst code four)) (held_of image plan x 4 bytes inst code four)
    ]

-- if neither four nor two bytes are there, there is no instruction
pub none_there : (image : ImageData) (plan : PlanData) (x : ℕ) → FindsRomBytes image plan x 4 None → FindsRomBytes image plan x 2 None → FindsCode image plan x None
none_there image plan x no_four no_two = has_none image plan x (λ bytes inst code.
    elim (two_or_four bytes inst code.spelled) [
      | inl two ↦ none_some _ bytes (no_two (in_rom_of image plan x 2 bytes inst code two)) (held_of image plan x 2 bytes inst code two)
      | inr four ↦ none_some _ bytes (no_four (in_rom_of image plan x 4 bytes inst code four)) (held_of image plan x 4 bytes inst code four)
    ])

-- the code at an even address, by four bytes
pub by_four : (image : ImageData) (plan : PlanData) (x : ℕ) (bs : List ℕ) (found : Option (InstData × ℕ)) → x % 2 ≡ 0 → FindsRomBytes image plan x 4 (Some bs) → FindsCodeInBytes bs found → FindsCode image plan x found
by_four image plan x bs (Some (inst, n)) even at finds = code_found image plan x 4 bs inst n even at finds
by_four image plan x bs None even at finds = has_none image plan x (none_in_four image plan x bs at finds)

-- the code at an even address, by two bytes
pub by_two : (image : ImageData) (plan : PlanData) (x : ℕ) (bs : List ℕ) (found : Option (InstData × ℕ)) → x % 2 ≡ 0 → FindsRomBytes image plan x 4 None → FindsRomBytes image plan x 2 (Some bs) → FindsCodeInBytes bs found → FindsCode image plan x found
by_two image plan x bs (Some (inst, n)) even no_four at finds = code_found image plan x 2 bs inst n even at finds
by_two image plan x bs None even no_four at finds = has_none image plan x (none_in_two image plan x bs no_four at finds)

-- ---- one code at an address
found_same : (i j : InstData) (m n : ℕ) (r : Result (InstData × ℕ) DecodeErr) → r ≡ Ok (i, m) → r ≡ Ok (j, n) → (i ≡ j) × (m ≡ n)
found_same i j m n r e f = let p : (i, m) ≡ (j, n) = cc in (ap (λ (q : InstData × ℕ). q.0) p, ap (λ (q : InstData × ℕ). q.1) p)

-- two instructions that the same bytes begin with are equal
begin_same : (a b r s : List ℕ) (i j : InstData) → a ++ r ≡ b ++ s → Spells a i → Spells b j → (i ≡ j) × (length a ≡ length b)
begin_same a b r s i j e x y = found_same i j (length a) (length b) (decoded_of (a ++ r)) (decode_laws.spelled a r i x) (ap (λ (l : List ℕ). decoded_of l) e ∙ decode_laws.spelled b s j y)

same_size : (image : ImageData) (plan : PlanData) (x m : ℕ) (a b : List ℕ) (i j : InstData) → SpellsAt image plan x a i → SpellsAt image plan x b j → length a ≡ m → length b ≡ m → (i ≡ j) × (length a ≡ length b)
same_size image plan x m a b i j c d e f =
    let same : a ≡ b = some_same _ _ _ (held_of image plan x m a i c e) (held_of image plan x m b j d f) in
    begin_same a b [] [] i j (ap (λ (l : List ℕ). l ++ []) same) c.spelled d.spelled

two_and_four : (image : ImageData) (plan : PlanData) (x : ℕ) (a b : List ℕ) (i j : InstData) → SpellsAt image plan x a i → SpellsAt image plan x b j → length a ≡ 2 → length b ≡ 4 → (i ≡ j) × (length a ≡ length b)
two_and_four image plan x a b i j c d e f =
    let size : length (take 2 b) ≡ 2 = omega (arith, length-take 2 b) in
    let front = held_by_length image x 2 (take 2 b) size (front_held image x 2 b (omega arith) d.held) in
    let same : a ≡ take 2 b = some_same _ _ _ (held_of image plan x 2 a i c e) front in
    begin_same a b (drop 2 b) [] i j (ap (λ (l : List ℕ). l ++ drop 2 b) same ∙ take-append-drop 2 b ∙ sym (append-nil b)) c.spelled d.spelled

one_spelling : (image : ImageData) (plan : PlanData) (x : ℕ) (a b : List ℕ) (i j : InstData) → SpellsAt image plan x a i → SpellsAt image plan x b j → (i ≡ j) × (length a ≡ length b)
one_spelling image plan x a b i j c d =
    elim (two_or_four a i c.spelled) [
      | inl two ↦ elim (two_or_four b j d.spelled) [
        | inl two' ↦ same_size image plan x 2 a b i j c d two two'
        | inr four ↦ two_and_four image plan x a b i j c d two four
      ]
      | inr four ↦ elim (two_or_four b j d.spelled) [
        | inl two ↦ let s = two_and_four image plan x b a j i d c two four in (sym s.0, sym s.1)
        | inr four' ↦ same_size image plan x 4 a b i j c d four four'
      ]
    ]

-- the code at an address has one shape and one size
pub IsCode-one : (image : ImageData) (plan : PlanData) (x : ℕ) (s t : Shape) (m n : ℕ) → IsCode image plan x s m → IsCode image plan x t n → (s ≡ t) × (m ≡ n)
IsCode-one image plan x s t m n a b =
    let same = one_spelling image plan x a.bytes b.bytes a.inst b.inst a.spells b.spells in
    (sym a.shaped ∙ ap shape_of same.0 ∙ b.shaped, sym a.sized ∙ same.1 ∙ b.sized)

-- its registers and words are registers and words
pub IsCode-bounded : (image : ImageData) (plan : PlanData) (x : ℕ) (s : Shape) (n : ℕ) → IsCode image plan x s n → IsShapeInBounds s
IsCode-bounded image plan x s n a = subst IsShapeInBounds a.shaped (shape_is a.inst ((a.spells).spelled).inst)

-- the numbers that it may write to registers are words
pub IsCode-suits : (image : ImageData) (plan : PlanData) (x : ℕ) (s : Shape) (n : ℕ) → IsCode image plan x s n → machine.IsShape s
IsCode-suits image plan x s n a = subst (λ (t : Shape). machine.IsShape t) a.shaped (machine.shape_of-suits a.inst ((a.spells).spelled).inst)

-- it has two or four bytes
pub IsCode-sized : (image : ImageData) (plan : PlanData) (x : ℕ) (s : Shape) (n : ℕ) → IsCode image plan x s n → (n ≡ 2) ⊎ (n ≡ 4)
IsCode-sized image plan x s n a = subst (λ (m : ℕ). (m ≡ 2) ⊎ (m ≡ 4)) a.sized (two_or_four a.bytes a.inst ((a.spells).spelled))
