-- The listing of an image.
use Rattle.std.specs.Prelude.{ℕ, zero, suc, ◌+◌, ◌-◌, nat_lt, min, if◌then◌else◌, List, ◌∷◌, ◌++◌, length, take, codes, fold, Result, Ok, Err, []}
use Rattle.std.specs.Fmt.{decimal}
use Rattle.std.specs.List.{flat_map}
use Rattle.elf_image.specs.Images.{ImageData, SegmentData}
use Rattle.tc_isa.specs.Insts.{InstData}
use Rattle.tc_encode.specs.declared.errors.DecodeErr.{DecodeErr}
use Rattle.tc_encode.specs.Decoding.{decoded_of}
use Rattle.tcd_text.specs.HexNumbers.{hex_byte, hex_word}
use Rattle.tc_disasm.specs.Texts.{instruction_text, data_text}

-- the text in a listing of the instruction that was decoded from the start of the bytes, or of data
-- if none was
abbrev pub decoded_or_data_text : Result (InstData × ℕ) DecodeErr → List ℕ → List ℕ
decoded_or_data_text (Ok found) bytes = instruction_text found.0
decoded_or_data_text (Err e) bytes = data_text bytes

-- the number of bytes of the instruction that was decoded from the start of the bytes, or of data
-- if none was
abbrev pub decoded_or_data_size : Result (InstData × ℕ) DecodeErr → List ℕ → ℕ
decoded_or_data_size (Ok found) bytes = found.1
decoded_or_data_size (Err e) bytes = min 2 (length bytes)

-- the text of the instruction or data at the start of the bytes
unfoldable pub instruction_or_data_text : List ℕ → List ℕ
instruction_or_data_text bytes = decoded_or_data_text (decoded_of bytes) bytes

-- the size in bytes of the instruction or data at the start of the bytes
unfoldable pub instruction_or_data_size : List ℕ → ℕ
instruction_or_data_size bytes = decoded_or_data_size (decoded_of bytes) bytes

-- the start of a line's comment: ` # `, the address in eight hex digits, and a blank
abbrev pub comment_start : ℕ → List ℕ
comment_start address = codes " # " ++ (hex_word address ++ (32 ∷ []))

-- the comment of a line of two bytes: ` # `, the address, a blank, the bytes in hex, a line feed
abbrev pub two_byte_comment : ℕ → ℕ → ℕ → List ℕ
two_byte_comment address a b = codes " # " ++ (hex_word address ++ (32 ∷ (hex_byte a ++ (hex_byte b ++ (10 ∷ [])))))

-- the comment of a line of four bytes: ` # `, the address, a blank, the bytes in hex, a line feed
abbrev pub four_byte_comment : ℕ → ℕ → ℕ → ℕ → ℕ → List ℕ
four_byte_comment address a b c d = codes " # " ++ (hex_word address ++ (32 ∷ (hex_byte a ++ (hex_byte b ++ (hex_byte c ++ (hex_byte d ++ (10 ∷ [])))))))

-- the comment of a line: an address, its bytes, and a line feed
unfoldable pub listing_comment : ℕ → List ℕ → List ℕ
listing_comment address bytes = codes " # " ++ (hex_word address ++ (32 ∷ (flat_map hex_byte bytes ++ 10 ∷ [])))

-- the line of the instruction or data at the start of the bytes, which begin at an address
unfoldable pub listing_line_at : ℕ → List ℕ → List ℕ
listing_line_at address bytes = instruction_or_data_text bytes ++ listing_comment address (take (instruction_or_data_size bytes) bytes)

-- the lines of bytes that begin at an address, after the first `skip` bytes
unfoldable pub listing_lines_from : ℕ → List ℕ → ℕ → List ℕ
listing_lines_from address [] skip = []
listing_lines_from address (b ∷ bs) zero = listing_line_at address (b ∷ bs) ++ listing_lines_from (address + 1) bs (instruction_or_data_size (b ∷ bs) - 1)
listing_lines_from address (b ∷ bs) (suc skip) = listing_lines_from (address + 1) bs skip

-- the lines of bytes that begin at an address
abbrev pub listing_lines : ℕ → List ℕ → List ℕ
listing_lines address bytes = listing_lines_from address bytes 0

-- the line that begins the section of this number
unfoldable pub listing_section_line : ℕ → ℕ → List ℕ
listing_section_line number address = codes ".section s" ++ (decimal number ++ (codes " # " ++ (hex_word address ++ 10 ∷ [])))

-- the lines of a segment: the line of its section, and those of its bytes
unfoldable pub section_text : ℕ → SegmentData → List ℕ
section_text number s = listing_section_line number s.at ++ listing_lines_from s.at s.bytes 0

-- the text of these sections of a listing, numbered from this number on
unfoldable pub listing_sections_from : ℕ → List SegmentData → List ℕ
listing_sections_from number [] = []
listing_sections_from number (s ∷ ss) = section_text number s ++ listing_sections_from (number + 1) ss

-- the segments of a listing, in ascending order of addresses, with a further one in its place
unfoldable pub with_inserted_segment : SegmentData → List SegmentData → List SegmentData
with_inserted_segment s [] = s ∷ []
with_inserted_segment s (t ∷ ts) = if nat_lt s.at t.at then s ∷ t ∷ ts else t ∷ with_inserted_segment s ts

-- the segments in ascending order of their addresses
abbrev pub segments_in_listing_order : List SegmentData → List SegmentData
segments_in_listing_order ss = fold (λ sorted s. with_inserted_segment s sorted) [] ss

-- the listing: the segments in ascending order of addresses, numbered from 0
unfoldable pub listing_of : ImageData → List ℕ
listing_of i = listing_sections_from 0 (segments_in_listing_order i.segments)
