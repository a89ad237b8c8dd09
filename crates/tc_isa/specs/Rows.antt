-- The rows of the instruction table, in their order. Printed by tools/rows.py.
use Rattle.std.specs.Prelude.{ℕ, List, ◌∷◌, codes, ◌%◌, ◌==◌, Bool, []}
use Rattle.tc_isa.specs.declared.table.Row.{Row}
use Rattle.tc_isa.specs.declared.table.Form.{Form}
use Rattle.tc_isa.specs.declared.table.Form.TheVariants.{Rlc, Rr, Rc, Bol, Bo, Brr, Brc, B, Abs, Sys, Sr, Sc, Sb, Sbr, Src, Srr, Slr, Ssr}

-- a row of the instruction table: the name and the operands' text as bytes, the form, and the
-- operation codes op1 and op2
pub record RowData : Type 0 where
  pub name : List ℕ
  pub operands : List ℕ
  pub form : Form
  pub op1 : ℕ
  pub op2 : ℕ

-- a row of the code, with its texts as bytes
abbrev pub row_of : Row → RowData
row_of r = record { name = r.name.now; operands = r.operands.now; form = r.form; op1 = r.op1; op2 = r.op2 }

-- builds a row from its name, its operands' text, its form, and its codes
abbrev pub row : List ℕ → List ℕ → Form → ℕ → ℕ → RowData
row name operands form op1 op2 = record { name = name; operands = operands; form = form; op1 = op1; op2 = op2 }

-- the rows of the instruction table, with the codes of the TriCore 1 Architecture Manual V1.3,
-- volume 2, instruction set
abbrev pub table_rows : List RowData
table_rows =
    row (codes "addi") (codes "Dc, Ds1, sk") Rlc 0x1b 0x00 ∷
    row (codes "addih") (codes "Dc, Ds1, uk") Rlc 0x9b 0x00 ∷
    row (codes "addih.a") (codes "Ac, As1, uk") Rlc 0x11 0x00 ∷
    row (codes "mov") (codes "Dc, sk") Rlc 0x3b 0x00 ∷
    row (codes "mov.u") (codes "Dc, uk") Rlc 0xbb 0x00 ∷
    row (codes "movh") (codes "Dc, uk") Rlc 0x7b 0x00 ∷
    row (codes "movh.a") (codes "Ac, uk") Rlc 0x91 0x00 ∷
    row (codes "mfcr") (codes "Dc, uk") Rlc 0x4d 0x00 ∷
    row (codes "mtcr") (codes "uk, Ds1") Rlc 0xcd 0x00 ∷
    row (codes "add") (codes "Dc, Ds1, Ds2") Rr 0x0b 0x00 ∷
    row (codes "sub") (codes "Dc, Ds1, Ds2") Rr 0x0b 0x08 ∷
    row (codes "eq") (codes "Dc, Ds1, Ds2") Rr 0x0b 0x10 ∷
    row (codes "ne") (codes "Dc, Ds1, Ds2") Rr 0x0b 0x11 ∷
    row (codes "lt") (codes "Dc, Ds1, Ds2") Rr 0x0b 0x12 ∷
    row (codes "lt.u") (codes "Dc, Ds1, Ds2") Rr 0x0b 0x13 ∷
    row (codes "ge") (codes "Dc, Ds1, Ds2") Rr 0x0b 0x14 ∷
    row (codes "ge.u") (codes "Dc, Ds1, Ds2") Rr 0x0b 0x15 ∷
    row (codes "mov") (codes "Dc, Ds2") Rr 0x0b 0x1f ∷
    row (codes "sh") (codes "Dc, Ds1, Ds2") Rr 0x0f 0x00 ∷
    row (codes "sha") (codes "Dc, Ds1, Ds2") Rr 0x0f 0x01 ∷
    row (codes "and") (codes "Dc, Ds1, Ds2") Rr 0x0f 0x08 ∷
    row (codes "nand") (codes "Dc, Ds1, Ds2") Rr 0x0f 0x09 ∷
    row (codes "or") (codes "Dc, Ds1, Ds2") Rr 0x0f 0x0a ∷
    row (codes "nor") (codes "Dc, Ds1, Ds2") Rr 0x0f 0x0b ∷
    row (codes "xor") (codes "Dc, Ds1, Ds2") Rr 0x0f 0x0c ∷
    row (codes "xnor") (codes "Dc, Ds1, Ds2") Rr 0x0f 0x0d ∷
    row (codes "andn") (codes "Dc, Ds1, Ds2") Rr 0x0f 0x0e ∷
    row (codes "orn") (codes "Dc, Ds1, Ds2") Rr 0x0f 0x0f ∷
    row (codes "add") (codes "Dc, Ds1, sk") Rc 0x8b 0x00 ∷
    row (codes "rsub") (codes "Dc, Ds1, sk") Rc 0x8b 0x08 ∷
    row (codes "eq") (codes "Dc, Ds1, sk") Rc 0x8b 0x10 ∷
    row (codes "ne") (codes "Dc, Ds1, sk") Rc 0x8b 0x11 ∷
    row (codes "lt") (codes "Dc, Ds1, sk") Rc 0x8b 0x12 ∷
    row (codes "lt.u") (codes "Dc, Ds1, uk") Rc 0x8b 0x13 ∷
    row (codes "ge") (codes "Dc, Ds1, sk") Rc 0x8b 0x14 ∷
    row (codes "ge.u") (codes "Dc, Ds1, uk") Rc 0x8b 0x15 ∷
    row (codes "sh") (codes "Dc, Ds1, sk") Rc 0x8f 0x00 ∷
    row (codes "sha") (codes "Dc, Ds1, sk") Rc 0x8f 0x01 ∷
    row (codes "and") (codes "Dc, Ds1, uk") Rc 0x8f 0x08 ∷
    row (codes "or") (codes "Dc, Ds1, uk") Rc 0x8f 0x0a ∷
    row (codes "xor") (codes "Dc, Ds1, uk") Rc 0x8f 0x0c ∷
    row (codes "bisr") (codes "uk") Rc 0xad 0x00 ∷
    row (codes "syscall") (codes "uk") Rc 0xad 0x04 ∷
    row (codes "mov.aa") (codes "Ac, As2") Rr 0x01 0x00 ∷
    row (codes "add.a") (codes "Ac, As1, As2") Rr 0x01 0x01 ∷
    row (codes "sub.a") (codes "Ac, As1, As2") Rr 0x01 0x02 ∷
    row (codes "mov.d") (codes "Dc, As2") Rr 0x01 0x4c ∷
    row (codes "addsc.a") (codes "Ac, As2, Ds1, n") Rr 0x01 0x60 ∷
    row (codes "mov.a") (codes "Ac, Ds2") Rr 0x01 0x63 ∷
    row (codes "calli") (codes "As1") Rr 0x2d 0x00 ∷
    row (codes "ji") (codes "As1") Rr 0x2d 0x03 ∷
    row (codes "nop") [] Sys 0x0d 0x00 ∷
    row (codes "ret") [] Sys 0x0d 0x06 ∷
    row (codes "rfe") [] Sys 0x0d 0x07 ∷
    row (codes "svlcx") [] Sys 0x0d 0x08 ∷
    row (codes "rslcx") [] Sys 0x0d 0x09 ∷
    row (codes "enable") [] Sys 0x0d 0x0c ∷
    row (codes "disable") [] Sys 0x0d 0x0d ∷
    row (codes "dsync") [] Sys 0x0d 0x12 ∷
    row (codes "isync") [] Sys 0x0d 0x13 ∷
    row (codes "ld.b") (codes "Ds1, [As2+]sk") Bo 0x09 0x00 ∷
    row (codes "ld.bu") (codes "Ds1, [As2+]sk") Bo 0x09 0x01 ∷
    row (codes "ld.h") (codes "Ds1, [As2+]sk") Bo 0x09 0x02 ∷
    row (codes "ld.hu") (codes "Ds1, [As2+]sk") Bo 0x09 0x03 ∷
    row (codes "ld.w") (codes "Ds1, [As2+]sk") Bo 0x09 0x04 ∷
    row (codes "ld.a") (codes "As1, [As2+]sk") Bo 0x09 0x06 ∷
    row (codes "ld.b") (codes "Ds1, [As2]sk") Bo 0x09 0x20 ∷
    row (codes "ld.bu") (codes "Ds1, [As2]sk") Bo 0x09 0x21 ∷
    row (codes "ld.h") (codes "Ds1, [As2]sk") Bo 0x09 0x22 ∷
    row (codes "ld.hu") (codes "Ds1, [As2]sk") Bo 0x09 0x23 ∷
    row (codes "ld.w") (codes "Ds1, [As2]sk") Bo 0x09 0x24 ∷
    row (codes "ld.a") (codes "As1, [As2]sk") Bo 0x09 0x26 ∷
    row (codes "st.b") (codes "[As2+]sk, Ds1") Bo 0x89 0x00 ∷
    row (codes "st.h") (codes "[As2+]sk, Ds1") Bo 0x89 0x02 ∷
    row (codes "st.w") (codes "[As2+]sk, Ds1") Bo 0x89 0x04 ∷
    row (codes "st.a") (codes "[As2+]sk, As1") Bo 0x89 0x06 ∷
    row (codes "st.b") (codes "[As2]sk, Ds1") Bo 0x89 0x20 ∷
    row (codes "st.h") (codes "[As2]sk, Ds1") Bo 0x89 0x22 ∷
    row (codes "st.w") (codes "[As2]sk, Ds1") Bo 0x89 0x24 ∷
    row (codes "st.a") (codes "[As2]sk, As1") Bo 0x89 0x26 ∷
    row (codes "lea") (codes "As1, [As2]sk") Bo 0x49 0x28 ∷
    row (codes "ld.w.l") (codes "Ds1, [As2]sk") Bol 0x19 0x00 ∷
    row (codes "ld.a.l") (codes "As1, [As2]sk") Bol 0x99 0x00 ∷
    row (codes "st.w.l") (codes "[As2]sk, Ds1") Bol 0x59 0x00 ∷
    row (codes "lea.l") (codes "As1, [As2]sk") Bol 0xd9 0x00 ∷
    row (codes "ld.w") (codes "Ds1, U") Abs 0x85 0x00 ∷
    row (codes "ld.a") (codes "As1, U") Abs 0x85 0x02 ∷
    row (codes "st.w") (codes "U, Ds1") Abs 0xa5 0x00 ∷
    row (codes "st.a") (codes "U, As1") Abs 0xa5 0x02 ∷
    row (codes "lea") (codes "As1, U") Abs 0xc5 0x00 ∷
    row (codes "jeq") (codes "Ds1, Ds2, T") Brr 0x5f 0x00 ∷
    row (codes "jne") (codes "Ds1, Ds2, T") Brr 0x5f 0x01 ∷
    row (codes "jlt") (codes "Ds1, Ds2, T") Brr 0x3f 0x00 ∷
    row (codes "jlt.u") (codes "Ds1, Ds2, T") Brr 0x3f 0x01 ∷
    row (codes "jge") (codes "Ds1, Ds2, T") Brr 0x7f 0x00 ∷
    row (codes "jge.u") (codes "Ds1, Ds2, T") Brr 0x7f 0x01 ∷
    row (codes "jeq.a") (codes "As1, As2, T") Brr 0x7d 0x00 ∷
    row (codes "jne.a") (codes "As1, As2, T") Brr 0x7d 0x01 ∷
    row (codes "jz.a") (codes "As1, T") Brr 0xbd 0x00 ∷
    row (codes "jnz.a") (codes "As1, T") Brr 0xbd 0x01 ∷
    row (codes "loop") (codes "As2, T") Brr 0xfd 0x00 ∷
    row (codes "jeq") (codes "Ds1, sk4, T") Brc 0xdf 0x00 ∷
    row (codes "jne") (codes "Ds1, sk4, T") Brc 0xdf 0x01 ∷
    row (codes "jlt") (codes "Ds1, sk4, T") Brc 0xbf 0x00 ∷
    row (codes "jge") (codes "Ds1, sk4, T") Brc 0xff 0x00 ∷
    row (codes "jlt.u") (codes "Ds1, uk4, T") Brc 0xbf 0x01 ∷
    row (codes "jge.u") (codes "Ds1, uk4, T") Brc 0xff 0x01 ∷
    row (codes "call") (codes "T") B 0x6d 0x00 ∷
    row (codes "calla") (codes "U") B 0xed 0x00 ∷
    row (codes "j") (codes "T") B 0x1d 0x00 ∷
    row (codes "ja") (codes "U") B 0x9d 0x00 ∷
    row (codes "nop16") [] Sr 0x00 0x00 ∷
    row (codes "rfe16") [] Sr 0x00 0x08 ∷
    row (codes "ret16") [] Sr 0x00 0x09 ∷
    row (codes "ji16") (codes "As1") Sr 0xdc 0x00 ∷
    row (codes "bisr16") (codes "uk") Sc 0xe0 0x00 ∷
    row (codes "mov16.d15") (codes "uk") Sc 0xda 0x00 ∷
    row (codes "sub16.a") (codes "a10, uk") Sc 0x20 0x00 ∷
    row (codes "call16") (codes "T") Sb 0x5c 0x00 ∷
    row (codes "j16") (codes "T") Sb 0x3c 0x00 ∷
    row (codes "jz16.d15") (codes "T") Sb 0x6e 0x00 ∷
    row (codes "jnz16.d15") (codes "T") Sb 0xee 0x00 ∷
    row (codes "jz16") (codes "Ds2, T") Sbr 0x76 0x00 ∷
    row (codes "jnz16") (codes "Ds2, T") Sbr 0xf6 0x00 ∷
    row (codes "mov16") (codes "Ds1, Ds2") Srr 0x02 0x00 ∷
    row (codes "add16") (codes "Ds1, Ds2") Srr 0x42 0x00 ∷
    row (codes "sub16") (codes "Ds1, Ds2") Srr 0xa2 0x00 ∷
    row (codes "and16") (codes "Ds1, Ds2") Srr 0x26 0x00 ∷
    row (codes "or16") (codes "Ds1, Ds2") Srr 0xa6 0x00 ∷
    row (codes "xor16") (codes "Ds1, Ds2") Srr 0xc6 0x00 ∷
    row (codes "mov16.aa") (codes "As1, As2") Srr 0x40 0x00 ∷
    row (codes "mov16.a") (codes "As1, Ds2") Srr 0x60 0x00 ∷
    row (codes "mov16.d") (codes "Ds1, As2") Srr 0x80 0x00 ∷
    row (codes "add16.a") (codes "As1, As2") Srr 0x30 0x00 ∷
    row (codes "mov16") (codes "Ds1, sk") Src 0x82 0x00 ∷
    row (codes "add16") (codes "Ds1, sk") Src 0xc2 0x00 ∷
    row (codes "mov16.a") (codes "As1, uk") Src 0xa0 0x00 ∷
    row (codes "add16.a") (codes "As1, sk") Src 0xb0 0x00 ∷
    row (codes "ld16.w") (codes "Ds1, [As2]") Slr 0x54 0x00 ∷
    row (codes "ld16.a") (codes "As1, [As2]") Slr 0xd4 0x00 ∷
    row (codes "st16.w") (codes "[As2], Ds1") Ssr 0x74 0x00 ∷
    row (codes "st16.a") (codes "[As2], As1") Ssr 0xf4 0x00 ∷
    []

-- the instructions of a row have 32 bits, not 16: their first byte, op1, is odd
abbrev pub is_32_bit_row : RowData → Bool
is_32_bit_row r = r.op1 % 2 == 1
