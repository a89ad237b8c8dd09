-- Instructions by their names and operands, and the halves of a word, for code that the project
-- itself gives. The first number of an instruction is its row, counted from 0 in the order of
-- `listed`. The row's fields follow, with 0 for those that it doesn't have.
use Rattle.std.specs.Prelude.{◌+◌, ◌/◌, ◌%◌, ◌^◌, ℕ}
use Rattle.tc_isa.specs.Insts.{InstData}

-- the instruction of a row with the fields c, s1, s2, n and k
abbrev pub instruction : ℕ → ℕ → ℕ → ℕ → ℕ → ℕ → InstData
instruction row c s1 s2 n k = record { row = row; c = c; s1 = s1; s2 = s2; n = n; k = k }

-- the instruction of a row without operands
abbrev pub bare_instruction : ℕ → InstData
bare_instruction row = instruction row 0 0 0 0 0

-- ---- constants and registers
-- addi Dc, Ds1, k: the sum with a signed constant of 16 bits
abbrev pub addi : ℕ → ℕ → ℕ → InstData
addi c s1 k = instruction 0 c s1 0 0 k

-- mov Dc, k: a signed constant of 16 bits
abbrev pub mov : ℕ → ℕ → InstData
mov c k = instruction 3 c 0 0 0 k

-- movh Dc, k: the constant in the upper half
abbrev pub movh : ℕ → ℕ → InstData
movh c k = instruction 5 c 0 0 0 k

-- movh.a Ac, k: the constant in the upper half of an address register
abbrev pub movh_a : ℕ → ℕ → InstData
movh_a c k = instruction 6 c 0 0 0 k

-- mov.a Ac, Ds2: a data register to an address register
abbrev pub mov_a : ℕ → ℕ → InstData
mov_a c s2 = instruction 48 c 0 s2 0 0

-- addsc.a Ac, As2, Ds1, n: the sum of an address and an index that is shifted left by n bits
abbrev pub addsc_a : ℕ → ℕ → ℕ → ℕ → InstData
addsc_a c s2 s1 n = instruction 47 c s1 s2 n 0

-- lea As1, [As2]k with an offset of 16 bits
abbrev pub lea_l : ℕ → ℕ → ℕ → InstData
lea_l s1 s2 k = instruction 84 0 s1 s2 0 k

-- ---- core registers
-- mfcr Dc, number: the core register of that number to a data register
abbrev pub mfcr : ℕ → ℕ → InstData
mfcr c number = instruction 7 c 0 0 0 number

-- mtcr number, Ds1: a data register to the core register of that number
abbrev pub mtcr : ℕ → ℕ → InstData
mtcr number s1 = instruction 8 0 s1 0 0 number

-- isync: what was written to core registers holds from here on
abbrev pub isync : InstData
isync = bare_instruction 59

-- disable: interrupts are off from here on
abbrev pub disable : InstData
disable = bare_instruction 57

-- ---- memory
-- ld.w Ds1, [As2]k with an offset of 16 bits
abbrev pub ld_w_l : ℕ → ℕ → ℕ → InstData
ld_w_l s1 s2 k = instruction 81 0 s1 s2 0 k

-- st.w [As2]k, Ds1 with an offset of 16 bits
abbrev pub st_w_l : ℕ → ℕ → ℕ → InstData
st_w_l s2 k s1 = instruction 83 0 s1 s2 0 k

-- st.w [As2+]k, Ds1: a word is stored, and the constant added to its address register
abbrev pub st_w_after : ℕ → ℕ → ℕ → InstData
st_w_after s2 k s1 = instruction 74 0 s1 s2 0 k

-- svlcx: the lower context is saved
abbrev pub svlcx : InstData
svlcx = bare_instruction 54

-- rslcx: the lower context is restored
abbrev pub rslcx : InstData
rslcx = bare_instruction 55

-- ---- what comes next
-- nop: goes on, and changes nothing else
abbrev pub nop : InstData
nop = bare_instruction 51

-- jne Ds1, constant, k: a jump by twice the signed field k unless the register is the signed
-- constant of 4 bits
abbrev pub jne : ℕ → ℕ → ℕ → InstData
jne s1 constant k = instruction 102 0 s1 constant 0 k

-- loop As2: subtracts one from a register, and jumps by twice the signed field k unless the
-- register was 0
abbrev pub loop_at : ℕ → ℕ → InstData
loop_at s2 k = instruction 100 0 0 s2 0 k

-- ji As1: a jump to the address in a register
abbrev pub ji : ℕ → InstData
ji s1 = instruction 50 0 s1 0 0 0

-- ret: a return from a call
abbrev pub ret : InstData
ret = bare_instruction 52

-- ---- words in halves
-- the lower half of a word, as the constant of a named instruction addi or lea that adds it to the
-- upper half
abbrev pub lower_half : ℕ → ℕ
lower_half x = x % 2 ^ 16

-- the constant of the named instructions movh and movh.a: a word's upper half, plus 1 if the lower
-- half is negative as a signed number
abbrev pub adjusted_upper_half : ℕ → ℕ
adjusted_upper_half x = (x + 0x8000) / 2 ^ 16 % 2 ^ 16
