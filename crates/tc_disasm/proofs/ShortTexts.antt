-- Listings aren't long.
use Rattle.std.proofs.Common.{◌≡◌, ◌<◌, ◌≤◌, ◌+◌, ◌-◌, ◌*◌, ◌^◌, min, zero, suc, ℕ, Bool, true, false, cond, List, [], ◌∷◌, ◌++◌, length, take, drop, Result, Ok, Err, ◌⊎◌, inl, inr, refl, ap, sym, subst, ◌∙◌, arith, length-append, length-drop}
use Rattle.std.proofs.lemmas.Bool.{and_parts}
use Rattle.std.specs.Prelude.{codes, nat_le}
use Rattle.std.specs.List.{list_all, flat_map}
use Rattle.std.specs.Fmt.{decimal}
use Rattle.std.proofs.lemmas.Fmt.{length-decimal-le}
use Rattle.std.proofs.lemmas.List.{length-take-le}
use Rattle.elf_image.specs.Images.{SegmentData}
use Rattle.tc_isa.specs.Rows.{RowData}
use Rattle.tc_isa.specs.declared.fields.Fields.{Fields}
use Rattle.tc_isa.specs.Forms.{field_bounds}
use Rattle.tc_isa.specs.InBounds.{AreFieldsBelow}
use Rattle.tc_isa.specs.Insts.{InstData, IsInst, inst_fields}
use Rattle.tc_encode.specs.declared.errors.DecodeErr.{DecodeErr}
use Rattle.tc_encode.specs.Decoding.{decoded_of}
use Rattle.tc_encode.proofs.DecodeProofs.{decode_laws}
use Rattle.tc_stmt.specs.declared.want.Want.{Want}
use Rattle.tc_stmt.specs.declared.want.Want.TheVariants.{Reg, A10, Number, Target, Absolute, Memory}
use Rattle.tc_stmt.specs.Wants.{wants_of}
use Rattle.tc_stmt.specs.RowFields.{field_of}
use Rattle.tcd_text.specs.HexNumbers.{hex_byte, hex_word}
use Rattle.tc_disasm.specs.Texts.{is_printed_negative, register_text, number_text, target_text, absolute_text, base_register_text, operand_text, operands_text, row_text, instruction_text}
use Rattle.tc_stmt.specs.Displacements.{can_jump_back}
use Rattle.tc_disasm.specs.Listing.{instruction_or_data_text, instruction_or_data_size, listing_comment, listing_line_at, listing_lines_from, listing_section_line, section_text, listing_sections_from}
use Rattle.tc_disasm.proofs.Appending.{lines-front}
use Rattle.tc_disasm.proofs.Bounds.{field_of-below}
use Rattle.tc_disasm.proofs.Suits.{suits, wants_suit, is_bound}
use Rattle.tc_disasm.proofs.OwnFields.{small_of, at_most}
use Rattle.tc_disasm.proofs.OperandTexts.{other_texts}
use Rattle.tc_disasm.proofs.RowNames.{named_at}
use Rattle.tc_disasm.proofs.RowLines.{text_is}
use Rattle.tc_disasm.proofs.LineAt.{is_byte, here, text_at-is, size_at-is}
use Rattle.tc_disasm.proofs.Contents.{total_of, total-more, are_bytes, all-drop}

-- ---- operands
decimal-8 : (n : ℕ) → n < 10 ^ 8 → length (decimal n) ≤ 8
decimal-8 n h = length-decimal-le 8 n (omega arith) h (omega arith)

decimal-2 : (n : ℕ) → n < 10 ^ 2 → length (decimal n) ≤ 2
decimal-2 n h = length-decimal-le 2 n (omega arith) h (omega arith)

short-register : (bank : Bool) (n : ℕ) → n < 16 → length (register_text bank n) ≤ 3
unfolding register_text
short-register true n h = let d = decimal-2 n (omega arith) in omega arith
short-register false n h = let d = decimal-2 n (omega arith) in omega arith

short-number : (signed : Bool) (bound v : ℕ) → v < bound → bound ≤ 2 ^ 24 → length (number_text signed bound v) ≤ 9
unfolding number_text
short-number signed bound v h small = by_sign (is_printed_negative signed bound v)
  where
    by_sign : (b : Bool) → length (cond b (45 ∷ decimal (bound - v)) (decimal v)) ≤ 9
    by_sign true = let d = decimal-8 (bound - v) (omega arith) in omega arith
    by_sign false = let d = decimal-8 v (omega arith) in omega arith

short-target : (ways : Bool) (bound k : ℕ) → k < bound → bound ≤ 2 ^ 24 → length (target_text ways bound k) ≤ 10
unfolding target_text
short-target ways bound k h small = by_sign (is_printed_negative ways bound k)
  where
    by_sign : (b : Bool) → length (46 ∷ cond b (45 ∷ decimal (2 * (bound - k))) (43 ∷ decimal (2 * k))) ≤ 10
    by_sign true = let d = decimal-8 (2 * (bound - k)) (omega arith) in omega arith
    by_sign false = let d = decimal-8 (2 * k) (omega arith) in omega arith

short-base : (plus : Bool) (n : ℕ) → n < 16 → length (base_register_text plus n) ≤ 6
unfolding base_register_text
short-base true n h = let d = short-register true n h in omega (arith, length-append (register_text true n) (codes "+]"))
short-base false n h = let d = short-register true n h in omega (arith, length-append (register_text true n) (codes "]"))

pub length-hex_word : (x : ℕ) → length (hex_word x) ≡ 8
unfolding hex_word hex_byte
length-hex_word x = omega arith

within_16 : (n b : ℕ) → n < b → b ≤ 16 → n < 16
within_16 n b h most = omega arith

short-operand : (r : RowData) (f : Fields) (w : Want) → suits r.form w ≡ true → AreFieldsBelow f (field_bounds r.form) → length (operand_text r.form f w) ≤ 17
unfolding suits operand_text
short-operand r f (Reg bank field) s h =
    let d = short-register bank (field_of field f) (within_16 (field_of field f) (field_of field (field_bounds r.form)) (field_of-below field f (field_bounds r.form) h) (at_most (field_of field (field_bounds r.form)) 16 s)) in
    omega arith
short-operand r f A10 s h = omega arith
short-operand r f (Number signed field) s h =
    let bound = field_of field (field_bounds r.form) in
    let d = short-number signed bound (field_of field f) (field_of-below field f (field_bounds r.form) h) (small_of bound s) in
    omega arith
short-operand r f Target s h = let d = short-target (can_jump_back r.form) (field_bounds r.form).k f.k h.k (small_of (field_bounds r.form).k s) in omega arith
short-operand r f Absolute s h = unfold absolute_text in omega (arith, length-hex_word)
short-operand r f (Memory plus true) s h =
    let two = and_parts (nat_le (field_bounds r.form).s2 16) (is_bound (field_bounds r.form).k) s in
    let base = short-base plus f.s2 (within_16 f.s2 (field_bounds r.form).s2 h.s2 (at_most (field_bounds r.form).s2 16 two.0)) in
    let d = short-number true (field_bounds r.form).k f.k h.k (small_of (field_bounds r.form).k two.1) in
    omega (arith, length-append (base_register_text plus f.s2) (number_text true (field_bounds r.form).k f.k))
short-operand r f (Memory plus false) s h =
    let base = short-base plus f.s2 (within_16 f.s2 (field_bounds r.form).s2 h.s2 (at_most (field_bounds r.form).s2 16 s)) in
    omega (arith, length-append (base_register_text plus f.s2) [])

short-others : (r : RowData) (f : Fields) (ws : List Want) → list_all (suits r.form) ws ≡ true → AreFieldsBelow f (field_bounds r.form) → length (other_texts r f ws) ≤ 19 * length ws
short-others r f [] s h = omega arith
short-others r f (w ∷ ws) s h =
    let two = and_parts (suits r.form w) (list_all (suits r.form) ws) s in
    let first = short-operand r f w two.0 h in
    let rest = short-others r f ws two.1 h in
    omega (arith, length-append (operand_text r.form f w) (other_texts r f ws))

short-operands : (r : RowData) (f : Fields) (ws : List Want) → list_all (suits r.form) ws ≡ true → AreFieldsBelow f (field_bounds r.form) → length (operands_text r.form f ws) ≤ 19 * length ws
unfolding operands_text
short-operands r f [] s h = omega arith
short-operands r f (w ∷ ws) s h =
    let two = and_parts (suits r.form w) (list_all (suits r.form) ws) s in
    let first = short-operand r f w two.0 h in
    let rest = short-others r f ws two.1 h in
    omega (arith, length-append (operand_text r.form f w) (other_texts r f ws))

short-row : (r : RowData) (f : Fields) → length r.name ≤ 16 → length (wants_of r) ≤ 4 → list_all (suits r.form) (wants_of r) ≡ true → AreFieldsBelow f (field_bounds r.form) → length (row_text r f) ≤ 92
unfolding row_text
short-row r f name few s h =
    let operands = short-operands r f (wants_of r) s h in
    omega (arith, length-append r.name (operands_text r.form f (wants_of r)))

short-inst : (i : InstData) → IsInst i → length (instruction_text i) ≤ 92
short-inst i is =
    let n = named_at i.row is.row is.at in
    subst (λ (t : List ℕ). length t ≤ 92) (sym (text_is i is)) (short-row is.row (inst_fields i) n.short n.few (wants_suit i.row is.row is.at) is.fits.below)

-- ---- lines
length-bytes : (bs : List ℕ) → length (flat_map hex_byte bs) ≡ 2 * length bs
unfolding hex_byte
length-bytes [] = omega arith
length-bytes (b ∷ bs) = let rest = length-bytes bs in omega arith

length-remark : (address : ℕ) (bs : List ℕ) → length (listing_comment address bs) ≡ 13 + 2 * length bs
unfolding listing_comment
length-remark address bs =
    let word = length-hex_word address in
    let list = length-bytes bs in
    omega (arith, length-append (hex_word address) (32 ∷ (flat_map hex_byte bs ++ 10 ∷ [])), length-append (flat_map hex_byte bs) (10 ∷ []))

short-line : (address : ℕ) (bs text : List ℕ) (n : ℕ) → instruction_or_data_text bs ≡ text → instruction_or_data_size bs ≡ n → n ≤ length bs → length text + 13 + 2 * n ≤ 60 * n → length (listing_line_at address bs) ≤ 60 * instruction_or_data_size bs
unfolding listing_line_at
short-line address bs text n t s within h =
    let size = length-take-le (instruction_or_data_size bs) bs (omega arith) in
    let text_size : length (instruction_or_data_text bs) ≡ length text = ap (λ (x : List ℕ). length x) t in
    omega (arith, length-append (instruction_or_data_text bs) (listing_comment address (take (instruction_or_data_size bs) bs)), length-remark address (take (instruction_or_data_size bs) bs))

length-hex_byte : (b : ℕ) → length (hex_byte b) ≡ 2
unfolding hex_byte
length-hex_byte b = omega arith

pub short-here : (address : ℕ) (bs : List ℕ) → 0 < length bs → length (listing_line_at address bs) ≤ 60 * instruction_or_data_size bs
short-here address bs some = by_decoded bs some (decoded_of bs) refl
  where
    big : (n : ℕ) → (n ≡ 2) ⊎ (n ≡ 4) → 92 + 13 + 2 * n ≤ 60 * n
    big n (inl two) = omega arith
    big n (inr four) = omega arith

    by_decoded : (bs : List ℕ) → 0 < length bs → (d : Result (InstData × ℕ) DecodeErr) → decoded_of bs ≡ d → length (listing_line_at address bs) ≤ 60 * instruction_or_data_size bs
    by_decoded bs some (Ok found) e =
        let lengths = decode_laws.lengths bs found.0 found.1 e in
        let spells = decode_laws.decoded bs found.0 found.1 e in
        let text = short-inst found.0 spells.inst in
        let room = big found.1 lengths.2 in
        short-line address bs (instruction_text found.0) found.1 (text_at-is bs (Ok found) e) (size_at-is bs (Ok found) e) lengths.0 (omega arith)
    by_decoded [] some (Err x) e = absurd (omega arith)
    by_decoded (a ∷ []) some (Err x) e =
        short-line address (a ∷ []) (codes ".byte 0x" ++ hex_byte a) 1 (text_at-is (a ∷ []) (Err x) e) (size_at-is (a ∷ []) (Err x) e) (omega arith) (omega (arith, length-hex_byte a))
    by_decoded (a ∷ b ∷ rest) some (Err x) e =
        let size : min 2 (length (a ∷ b ∷ rest)) ≡ 2 = omega arith in
        short-line address (a ∷ b ∷ rest) (codes ".half 0x" ++ (hex_byte b ++ hex_byte a)) 2 (text_at-is (a ∷ b ∷ rest) (Err x) e) (size_at-is (a ∷ b ∷ rest) (Err x) e ∙ size) (omega arith)
        (omega (arith, length-hex_byte a, length-hex_byte b, length-append (hex_byte b) (hex_byte a)))

-- ---- segments
short-lines : (fuel address : ℕ) (bs : List ℕ) → length bs ≤ fuel → list_all is_byte bs ≡ true → length (listing_lines_from address bs 0) ≤ 60 * length bs
unfolding listing_lines_from
short-lines fuel address [] few small = omega arith
short-lines zero address (b ∷ bs) few small = absurd (omega arith)
short-lines (suc fuel) address (b ∷ bs) few small =
    let h = here address (b ∷ bs) (omega arith) small in
    let n = instruction_or_data_size (b ∷ bs) in
    let some : 0 < n = h.some in
    let within : n ≤ length (b ∷ bs) = h.within in
    let left : length (drop n (b ∷ bs)) ≡ length (b ∷ bs) - n = length-drop n (b ∷ bs) in
    let first = short-here address (b ∷ bs) (omega arith) in
    let rest = short-lines fuel (address + n) (drop n (b ∷ bs)) (omega arith) (all-drop is_byte n (b ∷ bs) small) in
    let parts = ap (λ (t : List ℕ). length t) (lines-front address (b ∷ bs) n (omega arith) h.some refl) in
    omega (arith, length-append (listing_line_at address (b ∷ bs)) (listing_lines_from (address + n) (drop n (b ∷ bs)) 0))

short-section_line : (n address : ℕ) → n < 64 → length (listing_section_line n address) ≤ 30
unfolding listing_section_line
short-section_line n address small =
    let number = decimal-2 n (omega arith) in
    omega (arith, length-append (decimal n) (codes " # " ++ (hex_word address ++ 10 ∷ [])), length-append (hex_word address) (10 ∷ []), length-hex_word address)

pub short-sections : (n : ℕ) (ss : List SegmentData) → n + length ss ≤ 64 → list_all are_bytes ss ≡ true → length (listing_sections_from n ss) ≤ 60 * total_of ss + 30 * length ss
unfolding listing_sections_from section_text
short-sections n [] few small = omega arith
short-sections n (s ∷ ss) few small =
    let two = and_parts (are_bytes s) (list_all are_bytes ss) small in
    let line = short-section_line n s.at (omega arith) in
    let lines = short-lines (length s.bytes) s.at s.bytes (omega arith) two.0 in
    let rest = short-sections (n + 1) ss (omega arith) two.1 in
    let sum = total-more s ss in
    omega (arith, length-append (listing_section_line n s.at ++ listing_lines_from s.at s.bytes 0) (listing_sections_from (n + 1) ss), length-append (listing_section_line n s.at) (listing_lines_from s.at s.bytes 0))
