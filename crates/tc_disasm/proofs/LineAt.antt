-- Each line of a listing is a line of a source, which adds the bytes that it lists.
use Rattle.std.proofs.Common.{◌≡◌, ◌<◌, ◌≤◌, ◌+◌, ◌/◌, ◌%◌, ◌^◌, ◌==◌, ◌&&◌, min, ℕ, Bool, true, false, cond, List, [], ◌∷◌, ◌++◌, length, take, Result, Ok, Err, None, refl, ap, sym, subst, ◌∙◌, arith, append_assoc, append-nil, ◌⊎◌, inl, inr}
use Rattle.std.specs.Prelude.{codes, not, nat_lt}
use Rattle.std.specs.List.{list_all, flat_map}
use Rattle.std.specs.Fmt.{decimal}
use Rattle.std.proofs.lemmas.Bool.Decides.{nat_tests}
use Rattle.std.proofs.lemmas.Bool.{ltb-true, and_parts}
use Rattle.tc_isa.specs.Insts.{InstData, inst_fields}
use Rattle.tc_encode.specs.declared.errors.DecodeErr.{DecodeErr}
use Rattle.tc_encode.specs.Decoding.{decoded_of}
use Rattle.tc_encode.proofs.DecodeProofs.{decode_laws}
use Rattle.tc_stmt.specs.Items.{bytes, section, code}
use Rattle.tc_stmt.specs.Lines.{LineData, line_data}
use Rattle.tcd_base.specs.NameBytes.{is_name_byte, is_name_start}
use Rattle.tc_lex.specs.Bytes.{is_digit}
use Rattle.tcd_text.specs.HexNumbers.{hex_digit, hex_byte, hex_word}
use Rattle.tc_disasm.specs.Texts.{instruction_text}
use Rattle.tc_disasm.specs.Listing.{decoded_or_data_text, decoded_or_data_size, instruction_or_data_text, instruction_or_data_size, listing_comment, listing_line_at, listing_section_line}
use Rattle.tc_disasm.specs.Lexed.{IsTokenEnd}
use Rattle.tc_disasm.proofs.LineTokens.{Lexes, Reads, is_plain, lexes-blank, lexes-comment}
use Rattle.tc_disasm.proofs.RowLines.{reads-row}
use Rattle.tc_disasm.proofs.DataLines.{reads-half, reads-byte, reads-section}
use Rattle.tc_disasm.proofs.Runs.{Adds, adds-bytes, adds-code}

-- ---- after a text: an address and bytes, as a comment
hex_digit-plain : (n : ℕ) → is_plain (hex_digit n) ≡ true
unfolding hex_digit
hex_digit-plain n = by_test (nat_lt n 10)
  where
    by_test : (b : Bool) → not (cond b (48 + n) (55 + n) == 10) ≡ true
    by_test true = grind (arith, nat_tests)
    by_test false = grind (arith, nat_tests)

hex_byte-plain : (b : ℕ) (rest : List ℕ) → list_all is_plain rest ≡ true → list_all is_plain (hex_byte b ++ rest) ≡ true
unfolding hex_byte
hex_byte-plain b rest e = rw (hex_digit-plain (b / 16), hex_digit-plain (b % 16)) e

hex_word-plain : (x : ℕ) (rest : List ℕ) → list_all is_plain rest ≡ true → list_all is_plain (hex_word x ++ rest) ≡ true
unfolding hex_word hex_byte
hex_word-plain x rest e =
    rw (
      hex_digit-plain (x / 2 ^ 24 / 16),
      hex_digit-plain (x / 2 ^ 24 % 16),
      hex_digit-plain (x / 2 ^ 16 % 256 / 16),
      hex_digit-plain (x / 2 ^ 16 % 256 % 16),
      hex_digit-plain (x / 2 ^ 8 % 256 / 16),
      hex_digit-plain (x / 2 ^ 8 % 256 % 16),
      hex_digit-plain (x % 256 / 16),
      hex_digit-plain (x % 256 % 16),
    ) e

bytes-plain : (bs : List ℕ) → list_all is_plain (flat_map hex_byte bs) ≡ true
bytes-plain [] = refl
bytes-plain (b ∷ bs) = hex_byte-plain b (flat_map hex_byte bs) (bytes-plain bs)

-- a comment without the line feed
abbrev pub comment : ℕ → List ℕ → List ℕ
comment address more = codes " # " ++ (hex_word address ++ more)

comment-lexes : (address : ℕ) (more : List ℕ) → list_all is_plain more ≡ true → Lexes (comment address more) []
comment-lexes address more e = lexes-blank (35 ∷ 32 ∷ (hex_word address ++ more)) [] (lexes-comment (32 ∷ (hex_word address ++ more)) (hex_word-plain address more e))

comment-stops : (address : ℕ) (more : List ℕ) → IsTokenEnd (comment address more)
unfolding is_name_byte is_name_start is_digit
comment-stops address more = refl

-- a line of a source, with its line feed
pub record IsLine (text : List ℕ) (l : LineData) : Type 0 where
  pub body : List ℕ
  pub whole : text ≡ body ++ 10 ∷ []
  pub reads : Reads body l

module _ (address : ℕ) (text bs : List ℕ) where
  abbrev list : List ℕ
  list = 32 ∷ flat_map hex_byte bs

  ended : text ++ listing_comment address bs ≡ (text ++ comment address list) ++ 10 ∷ []
  unfolding listing_comment
  ended =
      ap (λ t. text ++ (32 ∷ 35 ∷ 32 ∷ t)) (sym (append_assoc (hex_word address) list (10 ∷ [])))
      ∙ sym (append_assoc text (comment address list) (10 ∷ []))

  is_line : (l : LineData) → ((rest : List ℕ) → IsTokenEnd rest → Lexes rest [] → Reads (text ++ rest) l) → IsLine (text ++ listing_comment address bs) l
  is_line l reads = record {
    body = text ++ comment address list;
    whole = ended;
    reads = reads (comment address list) (comment-stops address list) (comment-lexes address list (bytes-plain bs));
  }

-- ---- the line that the bytes begin with
pub record Here (address : ℕ) (bs : List ℕ) : Type 0 where
  pub line : LineData
  pub is : IsLine (listing_line_at address bs) line
  pub adds : Adds line (take (instruction_or_data_size bs) bs)
  pub some : 0 < instruction_or_data_size bs
  pub within : instruction_or_data_size bs ≤ length bs

made : (address : ℕ) (bs text : List ℕ) (n : ℕ) (l : LineData) → instruction_or_data_text bs ≡ text → instruction_or_data_size bs ≡ n → 0 < n → n ≤ length bs
    → ((rest : List ℕ) → IsTokenEnd rest → Lexes rest [] → Reads (text ++ rest) l) → Adds l (take n bs) → Here address bs
unfolding listing_line_at
made address bs text n l t s some within reads adds = record {
  line = l;
  is = subst (λ (x : List ℕ). IsLine (x ++ listing_comment address (take (instruction_or_data_size bs) bs)) l) (sym t) (is_line address text (take (instruction_or_data_size bs) bs) l reads);
  adds = subst (λ (m : ℕ). Adds l (take m bs)) (sym s) adds;
  some = omega arith;
  within = omega arith;
}

pub text_at-is : (bs : List ℕ) (d : Result (InstData × ℕ) DecodeErr) → decoded_of bs ≡ d → instruction_or_data_text bs ≡ decoded_or_data_text d bs
unfolding instruction_or_data_text
text_at-is bs d e = ap (λ x. decoded_or_data_text x bs) e

pub size_at-is : (bs : List ℕ) (d : Result (InstData × ℕ) DecodeErr) → decoded_of bs ≡ d → instruction_or_data_size bs ≡ decoded_or_data_size d bs
unfolding instruction_or_data_size
size_at-is bs d e = ap (λ x. decoded_or_data_size x bs) e

below : (b : ℕ) → nat_lt b 256 ≡ true → b < 256
below b e = ltb-true b 256 e

abbrev pub is_byte : ℕ → Bool
is_byte b = nat_lt b 256

here-data : (address : ℕ) (bs : List ℕ) (x : DecodeErr) → 0 < length bs → list_all is_byte bs ≡ true → decoded_of bs ≡ Err x → Here address bs
here-data address [] x some small e = absurd (omega arith)
here-data address (a ∷ []) x some small e =
    let one = and_parts (is_byte a) true small in
    made address (a ∷ []) (codes ".byte 0x" ++ hex_byte a) 1 (line_data 15 (bytes (a ∷ []) None ∷ [])) (text_at-is (a ∷ []) (Err x) e) (size_at-is (a ∷ []) (Err x) e) (omega arith) (omega arith)
    (λ rest stop h. reads-byte a rest (below a one.0) stop h) (adds-bytes (a ∷ []))
here-data address (a ∷ b ∷ bs) x some small e =
    let one = and_parts (is_byte a) (is_byte b && list_all is_byte bs) small in
    let two = and_parts (is_byte b) (list_all is_byte bs) one.1 in
    let size : min 2 (length (a ∷ b ∷ bs)) ≡ 2 = omega arith in
    made address (a ∷ b ∷ bs) (codes ".half 0x" ++ (hex_byte b ++ hex_byte a)) 2 (line_data 15 (bytes (a ∷ b ∷ []) None ∷ [])) (text_at-is (a ∷ b ∷ bs) (Err x) e) (size_at-is (a ∷ b ∷ bs) (Err x) e ∙ size) (omega arith) (omega arith)
    (λ rest stop h. reads-half a b rest (below a one.0) (below b two.0) stop h) (adds-bytes (a ∷ b ∷ []))

here-inst : (address : ℕ) (bs : List ℕ) (found : InstData × ℕ) → decoded_of bs ≡ Ok found → Here address bs
here-inst address bs found e =
    let spells = decode_laws.decoded bs found.0 found.1 e in
    let lengths = decode_laws.lengths bs found.0 found.1 e in
    made address bs (instruction_text found.0) found.1 (line_data 15 (code found.0.row (inst_fields found.0) None ∷ [])) (text_at-is bs (Ok found) e) (size_at-is bs (Ok found) e) (some lengths.2) lengths.0
    (λ rest stop h. reads-row found.0 spells.inst rest stop h) (adds-code found.0 spells.inst (take found.1 bs) spells.is)
  where
    some : (found.1 ≡ 2) ⊎ (found.1 ≡ 4) → 0 < found.1
    some (inl two) = omega arith
    some (inr four) = omega arith

pub here : (address : ℕ) (bs : List ℕ) → 0 < length bs → list_all is_byte bs ≡ true → Here address bs
here address bs some small = by_decoded (decoded_of bs) refl
  where
    by_decoded : (d : Result (InstData × ℕ) DecodeErr) → decoded_of bs ≡ d → Here address bs
    by_decoded (Ok found) e = here-inst address bs found e
    by_decoded (Err x) e = here-data address bs x some small e

-- ---- the line that begins a section
pub section-is_line : (n address : ℕ) → n < 2 ^ 64 → IsLine (listing_section_line n address) (line_data 15 (section (115 ∷ decimal n) ∷ []))
unfolding listing_section_line
section-is_line n address small = record {
  body = codes ".section s" ++ (decimal n ++ comment address []);
  whole =
      ap (λ t. codes ".section s" ++ (decimal n ++ (32 ∷ 35 ∷ 32 ∷ t))) (sym (ap (λ t. t ++ 10 ∷ []) (append-nil (hex_word address))))
      ∙ ap (λ t. codes ".section s" ++ t) (sym (append_assoc (decimal n) (comment address []) (10 ∷ [])));
  reads = reads-section n (comment address []) small (comment-stops address []) (comment-lexes address [] refl);
}
