-- The generated image of n functions. Its main program calls functions of a table and makes system
-- calls. It has the handlers of sixteen nested interrupts and of system calls. The functions call
-- each other as the places of a binary heap.
pub mod Planned
use Rattle.std.specs.Prelude.{ℕ, ◌+◌, ◌-◌, ◌*◌, ◌/◌, ◌%◌, ◌^◌, List, ◌∷◌, ◌++◌, codes, nat_lt, if◌then◌else◌, length, replicate, []}
use Rattle.std.specs.List.{find, flat_map, range_with_len}
use Rattle.std.specs.Option.{option_map_or}
use Rattle.std.specs.Str.{bytes_eq}
use Rattle.tcd_base.specs.Bytes.{bytes_of_word}
use Rattle.tc_isa.specs.declared.fields.Fields.{Fields}
use Rattle.tc_isa.specs.Forms.{fields}
use Rattle.tc_isa.specs.Rows.{table_rows}
use Rattle.tc_isa.specs.Spelling.{spelling}
use Rattle.elf_image.specs.Images.{ImageData, SegmentData}

-- ---- instructions
-- the bytes of the instruction of this name and these fields c, s1, s2, n, k; none without a row
unfoldable pub generated_code : List ℕ → Fields → List ℕ
generated_code name f = option_map_or (λ r. spelling r f) (find (λ r. bytes_eq r.name name) table_rows) []

-- the address of function i of a generated image: each function has 32 bytes
abbrev pub generated_function_address : ℕ → ℕ
generated_function_address i = 0x80008000 + 32 * i

-- the call instruction at an address of the generated image that calls later code in it: the
-- displacement is in halfwords
abbrev pub call_from : ℕ → ℕ → List ℕ
call_from at to = generated_code (codes "call") (fields 0 0 0 0 ((to - at) / 2))

-- ---- the main program, at 80000000
-- a15 is the address of the peripheral, F0000000. Its word d15 is the number of a word in the
-- table, 256 bytes after the start of the program. That function is called, then a system call is
-- made, and then all again.
unfoldable pub generated_main_code : List ℕ
generated_main_code =
    generated_code (codes "movh.a") (fields 15 0 0 0 0xf000) ++ generated_code (codes "ld.w.l") (fields 0 15 15 0 0)
    ++ generated_code (codes "movh.a") (fields 14 0 0 0 0x8000) ++ generated_code (codes "addsc.a") (fields 14 15 14 2 0)
    ++ generated_code (codes "ld.a.l") (fields 0 14 14 0 256) ++ generated_code (codes "calli") (fields 0 14 0 0 0)
    ++ generated_code (codes "syscall") (fields 0 0 0 0 1) ++ generated_code (codes "j") (fields 0 0 0 0 (2 ^ 24 - 14))

-- ---- the table, at 80000100
-- sixteen addresses of functions; after the last function comes the first
unfoldable pub generated_function_table : ℕ → List ℕ
generated_function_table n = flat_map (λ j. bytes_of_word (generated_function_address (j % n))) (range_with_len 0 16)

-- ---- the vectors
-- the address of the handler of interrupt p in a generated image: BIV with the priority in bits
-- 12:5
abbrev pub generated_handler_address : ℕ → ℕ
generated_handler_address p = 0x80002000 + 32 * p

-- the handler of interrupt p: it saves the lower context, enables interrupts of higher priority,
-- and calls the last function
unfoldable pub generated_handler : ℕ → ℕ → List ℕ
generated_handler n p =
    generated_code (codes "bisr16") (fields 0 0 0 0 p)
    ++ (call_from (generated_handler_address p + 2) (generated_function_address (n - 1)) ++ (generated_code (codes "rslcx") (fields 0 0 0 0 0) ++ generated_code (codes "rfe16") (fields 0 0 0 0 0)))

-- the bytes of a function or handler of a generated image, with zeros up to this length, where the
-- next one begins
abbrev pub zero_padded_bytes : ℕ → List ℕ → List ℕ
zero_padded_bytes size bytes = bytes ++ replicate (size - length bytes) 0

-- the handlers of the interrupts 10, 20 .. 160; their addresses are 320 bytes apart
unfoldable pub generated_vectors : ℕ → List ℕ
generated_vectors n = flat_map (λ j. zero_padded_bytes 320 (generated_handler n (10 * j + 10))) (range_with_len 0 15) ++ generated_handler n 160

-- the handler of system calls in a generated image: it only returns
unfoldable pub generated_system_call_handler : List ℕ
generated_system_call_handler = generated_code (codes "rfe16") (fields 0 0 0 0 0)

-- ---- functions
-- in a generated image of n functions, a call of function i, if i is below n
abbrev pub call_if_any : ℕ → ℕ → ℕ → List ℕ
call_if_any n at i = if nat_lt i n then call_from at (generated_function_address i) else []

-- function i of a generated image: reserves stack, stores a word there, and calls functions 2i + 1
-- and 2i + 2, if any
unfoldable pub generated_function_code : ℕ → ℕ → List ℕ
generated_function_code n i =
    generated_code (codes "sub16.a") (fields 0 0 0 0 8)
    ++ (generated_code (codes "st16.w") (fields 0 15 10 0 0)
    ++ (call_if_any n (generated_function_address i + 4) (2 * i + 1)
    ++ (call_if_any n (generated_function_address i + 8) (2 * i + 2) ++ generated_code (codes "ret16") (fields 0 0 0 0 0))))

-- the functions of a generated image, each except the last with zeros up to 32 bytes
unfoldable pub generated_functions : ℕ → List ℕ
generated_functions n = flat_map (λ i. zero_padded_bytes 32 (generated_function_code n i)) (range_with_len 0 (n - 1)) ++ generated_function_code n (n - 1)

-- ---- the image
-- a segment of a generated image: these bytes at an address
abbrev pub generated_segment : ℕ → List ℕ → SegmentData
generated_segment at bytes = record { at = at; bytes = bytes }

-- the segments of a generated image: the main program, the table, the vectors, the handler of
-- system calls, and the functions
abbrev pub generated_segments : ℕ → List SegmentData
generated_segments n =
    generated_segment 0x80000000 generated_main_code ∷ generated_segment 0x80000100 (generated_function_table n) ∷ generated_segment 0x80002140 (generated_vectors n) ∷ generated_segment 0x800040c0 generated_system_call_handler ∷
    generated_segment 0x80008000 (generated_functions n) ∷ []

-- the image of n functions; its entry is the main program
abbrev pub generated_image : ℕ → ImageData
generated_image n = record { entry = 0x80000000; segments = generated_segments n }
