-- What each instruction does (manual, volume 2, instruction set).
use Rattle.std.specs.Prelude.{◌%◌, ◌^◌, ℕ, Bool, true, false, List, ◌∷◌, codes, Option, Some, None, slice_get, []}
use Rattle.tc_isa.specs.declared.fields.Fields.{Fields}
use Rattle.tc_isa.specs.declared.shapes.Op.{Op}
use Rattle.tc_isa.specs.declared.shapes.Op.TheVariants.{Second, Add, Sub, And, Nand, Or, Nor, Xor, Xnor, Andn, Orn, Eq, Ne, Lt, LtU, Ge, GeU, Sh, Sha}
use Rattle.tc_isa.specs.declared.shapes.Cond.{Cond}
use Rattle.tc_isa.specs.declared.shapes.Cond.TheVariants as cond
use Rattle.tc_isa.specs.declared.shapes.Arg.TheVariants.{Reg, Word}
use Rattle.tc_isa.specs.declared.shapes.Target.TheVariants as target
use Rattle.tc_isa.specs.declared.shapes.Shape.{Shape}
use Rattle.tc_isa.specs.declared.shapes.Shape.TheVariants.{Compute, Scaled, Load, Store, Branch, Jump, Call, Ret, Rfe, Svlcx, Rslcx, Bisr, Enable, Disable, Syscall, Mfcr, Mtcr, Nothing}
use Rattle.tc_isa.specs.Arithmetic.{sign_extended}
use Rattle.tc_isa.specs.Insts.{InstData, inst_fields}
use Rattle.tc_isa.specs.FromFields.{a, address_in_constant, forward_distance, code_address_in_constant, d, doubled_displacement, high_constant, sk, uk}

-- a meaning: what an instruction with given fields does
abbrev pub Meaning : Type 0
Meaning = Fields → Shape

-- the meaning of a row with three register operands: Dc = the operation on Ds1 and Ds2
abbrev pub registers : Op → Meaning
registers op f = Compute op (d f.c) (Reg (d f.s1)) (Reg (d f.s2))

-- the meaning of a row: Dc = the operation on Ds1 and the signed constant
abbrev pub signed : Op → Meaning
signed op f = Compute op (d f.c) (Reg (d f.s1)) (Word (sk 9 f))

-- the meaning of a row: Dc = the operation on Ds1 and the unsigned constant
abbrev pub unsigned : Op → Meaning
unsigned op f = Compute op (d f.c) (Reg (d f.s1)) (Word (uk f))

-- the meaning of a row with two register operands: Ds1 = the operation on Ds1 and Ds2
abbrev pub own : Op → Meaning
own op f = Compute op (d f.s1) (Reg (d f.s1)) (Reg (d f.s2))

-- a load of `size` bytes, signed or not, from the base As2 plus k to a data register; with `after`
-- by post-increment
abbrev pub load : ℕ → Bool → Bool → Meaning
load size sign after f = Load (d f.s1) (Reg (a f.s2)) (sk 10 f) size sign after

-- a load of an address register from the base As2 plus k; with `after` by post-increment
abbrev pub load_address : Bool → Meaning
load_address after f = Load (a f.s1) (Reg (a f.s2)) (sk 10 f) 4 false after

-- a store of a data register's low `size` bytes to As2 plus k; with `after` by post-increment
abbrev pub store : ℕ → Bool → Meaning
store size after f = Store (d f.s1) (Reg (a f.s2)) (sk 10 f) size after

-- a store of an address register to the base As2 plus k; with `after` by post-increment
abbrev pub store_address : Bool → Meaning
store_address after f = Store (a f.s1) (Reg (a f.s2)) (sk 10 f) 4 after

-- a branch on two data registers
abbrev pub branch : Cond → Meaning
branch c f = Branch c (d f.s1) (Reg (d f.s2)) (doubled_displacement 15 f) false

-- a branch on a data register and a signed constant of four bits
abbrev pub branch_signed : Cond → Meaning
branch_signed c f = Branch c (d f.s1) (Word (sign_extended 4 (f.s2 % 2 ^ 4))) (doubled_displacement 15 f) false

-- a branch on a data register and an unsigned constant of four bits
abbrev pub branch_unsigned : Cond → Meaning
branch_unsigned c f = Branch c (d f.s1) (Word f.s2) (doubled_displacement 15 f) false

-- a row's name, and its meaning
pub record MeaningLine : Type 0 where
  pub name : List ℕ
  pub shape : Meaning

-- a line of the table of meanings: the name of a row, and its meaning
abbrev pub line : List ℕ → Meaning → MeaningLine
line name shape = record { name = name; shape = shape }

-- the meaning of each row, in the order of the rows
abbrev pub meanings : List MeaningLine
meanings =
    line (codes "addi") (λ f. Compute Add (d f.c) (Reg (d f.s1)) (Word (sk 16 f))) ∷
    line (codes "addih") (λ f. Compute Add (d f.c) (Reg (d f.s1)) (Word (high_constant f))) ∷
    line (codes "addih.a") (λ f. Compute Add (a f.c) (Reg (a f.s1)) (Word (high_constant f))) ∷
    line (codes "mov") (λ f. Compute Second (d f.c) (Word 0) (Word (sk 16 f))) ∷
    line (codes "mov.u") (λ f. Compute Second (d f.c) (Word 0) (Word (uk f))) ∷
    line (codes "movh") (λ f. Compute Second (d f.c) (Word 0) (Word (high_constant f))) ∷
    line (codes "movh.a") (λ f. Compute Second (a f.c) (Word 0) (Word (high_constant f))) ∷
    line (codes "mfcr") (λ f. Mfcr (d f.c) (uk f % 2 ^ 16)) ∷
    line (codes "mtcr") (λ f. Mtcr (d f.s1) (uk f % 2 ^ 16)) ∷
    line (codes "add") (registers Add) ∷
    line (codes "sub") (registers Sub) ∷
    line (codes "eq") (registers Eq) ∷
    line (codes "ne") (registers Ne) ∷
    line (codes "lt") (registers Lt) ∷
    line (codes "lt.u") (registers LtU) ∷
    line (codes "ge") (registers Ge) ∷
    line (codes "ge.u") (registers GeU) ∷
    line (codes "mov") (λ f. Compute Second (d f.c) (Word 0) (Reg (d f.s2))) ∷
    line (codes "sh") (registers Sh) ∷
    line (codes "sha") (registers Sha) ∷
    line (codes "and") (registers And) ∷
    line (codes "nand") (registers Nand) ∷
    line (codes "or") (registers Or) ∷
    line (codes "nor") (registers Nor) ∷
    line (codes "xor") (registers Xor) ∷
    line (codes "xnor") (registers Xnor) ∷
    line (codes "andn") (registers Andn) ∷
    line (codes "orn") (registers Orn) ∷
    line (codes "add") (signed Add) ∷
    line (codes "rsub") (λ f. Compute Sub (d f.c) (Word (sk 9 f)) (Reg (d f.s1))) ∷
    line (codes "eq") (signed Eq) ∷
    line (codes "ne") (signed Ne) ∷
    line (codes "lt") (signed Lt) ∷
    line (codes "lt.u") (unsigned LtU) ∷
    line (codes "ge") (signed Ge) ∷
    line (codes "ge.u") (unsigned GeU) ∷
    line (codes "sh") (signed Sh) ∷
    line (codes "sha") (signed Sha) ∷
    line (codes "and") (unsigned And) ∷
    line (codes "or") (unsigned Or) ∷
    line (codes "xor") (unsigned Xor) ∷
    line (codes "bisr") (λ f. Bisr (uk f % 256)) ∷
    line (codes "syscall") (λ f. Syscall (uk f % 256)) ∷
    line (codes "mov.aa") (λ f. Compute Second (a f.c) (Word 0) (Reg (a f.s2))) ∷
    line (codes "add.a") (λ f. Compute Add (a f.c) (Reg (a f.s1)) (Reg (a f.s2))) ∷
    line (codes "sub.a") (λ f. Compute Sub (a f.c) (Reg (a f.s1)) (Reg (a f.s2))) ∷
    line (codes "mov.d") (λ f. Compute Second (d f.c) (Word 0) (Reg (a f.s2))) ∷
    line (codes "addsc.a") (λ f. Scaled (a f.c) (a f.s2) (d f.s1) f.n) ∷
    line (codes "mov.a") (λ f. Compute Second (a f.c) (Word 0) (Reg (d f.s2))) ∷
    line (codes "calli") (λ f. Call (target.Reg (a f.s1))) ∷
    line (codes "ji") (λ f. Jump (target.Reg (a f.s1))) ∷
    line (codes "nop") (λ f. Nothing) ∷
    line (codes "ret") (λ f. Ret) ∷
    line (codes "rfe") (λ f. Rfe) ∷
    line (codes "svlcx") (λ f. Svlcx) ∷
    line (codes "rslcx") (λ f. Rslcx) ∷
    line (codes "enable") (λ f. Enable) ∷
    line (codes "disable") (λ f. Disable) ∷
    line (codes "dsync") (λ f. Nothing) ∷
    line (codes "isync") (λ f. Nothing) ∷
    line (codes "ld.b") (load 1 true true) ∷
    line (codes "ld.bu") (load 1 false true) ∷
    line (codes "ld.h") (load 2 true true) ∷
    line (codes "ld.hu") (load 2 false true) ∷
    line (codes "ld.w") (load 4 false true) ∷
    line (codes "ld.a") (load_address true) ∷
    line (codes "ld.b") (load 1 true false) ∷
    line (codes "ld.bu") (load 1 false false) ∷
    line (codes "ld.h") (load 2 true false) ∷
    line (codes "ld.hu") (load 2 false false) ∷
    line (codes "ld.w") (load 4 false false) ∷
    line (codes "ld.a") (load_address false) ∷
    line (codes "st.b") (store 1 true) ∷
    line (codes "st.h") (store 2 true) ∷
    line (codes "st.w") (store 4 true) ∷
    line (codes "st.a") (store_address true) ∷
    line (codes "st.b") (store 1 false) ∷
    line (codes "st.h") (store 2 false) ∷
    line (codes "st.w") (store 4 false) ∷
    line (codes "st.a") (store_address false) ∷
    line (codes "lea") (λ f. Compute Add (a f.s1) (Reg (a f.s2)) (Word (sk 10 f))) ∷
    line (codes "ld.w.l") (λ f. Load (d f.s1) (Reg (a f.s2)) (sk 16 f) 4 false false) ∷
    line (codes "ld.a.l") (λ f. Load (a f.s1) (Reg (a f.s2)) (sk 16 f) 4 false false) ∷
    line (codes "st.w.l") (λ f. Store (d f.s1) (Reg (a f.s2)) (sk 16 f) 4 false) ∷
    line (codes "lea.l") (λ f. Compute Add (a f.s1) (Reg (a f.s2)) (Word (sk 16 f))) ∷
    line (codes "ld.w") (λ f. Load (d f.s1) (Word (address_in_constant f)) 0 4 false false) ∷
    line (codes "ld.a") (λ f. Load (a f.s1) (Word (address_in_constant f)) 0 4 false false) ∷
    line (codes "st.w") (λ f. Store (d f.s1) (Word (address_in_constant f)) 0 4 false) ∷
    line (codes "st.a") (λ f. Store (a f.s1) (Word (address_in_constant f)) 0 4 false) ∷
    line (codes "lea") (λ f. Compute Second (a f.s1) (Word 0) (Word (address_in_constant f))) ∷
    line (codes "jeq") (branch cond.Eq) ∷
    line (codes "jne") (branch cond.Ne) ∷
    line (codes "jlt") (branch cond.Lt) ∷
    line (codes "jlt.u") (branch cond.LtU) ∷
    line (codes "jge") (branch cond.Ge) ∷
    line (codes "jge.u") (branch cond.GeU) ∷
    line (codes "jeq.a") (λ f. Branch cond.Eq (a f.s1) (Reg (a f.s2)) (doubled_displacement 15 f) false) ∷
    line (codes "jne.a") (λ f. Branch cond.Ne (a f.s1) (Reg (a f.s2)) (doubled_displacement 15 f) false) ∷
    line (codes "jz.a") (λ f. Branch cond.Eq (a f.s1) (Word 0) (doubled_displacement 15 f) false) ∷
    line (codes "jnz.a") (λ f. Branch cond.Ne (a f.s1) (Word 0) (doubled_displacement 15 f) false) ∷
    line (codes "loop") (λ f. Branch cond.Ne (a f.s2) (Word 0) (doubled_displacement 15 f) true) ∷
    line (codes "jeq") (branch_signed cond.Eq) ∷
    line (codes "jne") (branch_signed cond.Ne) ∷
    line (codes "jlt") (branch_signed cond.Lt) ∷
    line (codes "jge") (branch_signed cond.Ge) ∷
    line (codes "jlt.u") (branch_unsigned cond.LtU) ∷
    line (codes "jge.u") (branch_unsigned cond.GeU) ∷
    line (codes "call") (λ f. Call (target.Rel (doubled_displacement 24 f))) ∷
    line (codes "calla") (λ f. Call (target.Abs (code_address_in_constant f))) ∷
    line (codes "j") (λ f. Jump (target.Rel (doubled_displacement 24 f))) ∷
    line (codes "ja") (λ f. Jump (target.Abs (code_address_in_constant f))) ∷
    line (codes "nop16") (λ f. Nothing) ∷
    line (codes "rfe16") (λ f. Rfe) ∷
    line (codes "ret16") (λ f. Ret) ∷
    line (codes "ji16") (λ f. Jump (target.Reg (a f.s1))) ∷
    line (codes "bisr16") (λ f. Bisr (uk f % 256)) ∷
    line (codes "mov16.d15") (λ f. Compute Second (d 15) (Word 0) (Word (uk f))) ∷
    line (codes "sub16.a") (λ f. Compute Sub (a 10) (Reg (a 10)) (Word (uk f))) ∷
    line (codes "call16") (λ f. Call (target.Rel (doubled_displacement 8 f))) ∷
    line (codes "j16") (λ f. Jump (target.Rel (doubled_displacement 8 f))) ∷
    line (codes "jz16.d15") (λ f. Branch cond.Eq (d 15) (Word 0) (doubled_displacement 8 f) false) ∷
    line (codes "jnz16.d15") (λ f. Branch cond.Ne (d 15) (Word 0) (doubled_displacement 8 f) false) ∷
    line (codes "jz16") (λ f. Branch cond.Eq (d f.s2) (Word 0) (forward_distance f) false) ∷
    line (codes "jnz16") (λ f. Branch cond.Ne (d f.s2) (Word 0) (forward_distance f) false) ∷
    line (codes "mov16") (λ f. Compute Second (d f.s1) (Word 0) (Reg (d f.s2))) ∷
    line (codes "add16") (own Add) ∷
    line (codes "sub16") (own Sub) ∷
    line (codes "and16") (own And) ∷
    line (codes "or16") (own Or) ∷
    line (codes "xor16") (own Xor) ∷
    line (codes "mov16.aa") (λ f. Compute Second (a f.s1) (Word 0) (Reg (a f.s2))) ∷
    line (codes "mov16.a") (λ f. Compute Second (a f.s1) (Word 0) (Reg (d f.s2))) ∷
    line (codes "mov16.d") (λ f. Compute Second (d f.s1) (Word 0) (Reg (a f.s2))) ∷
    line (codes "add16.a") (λ f. Compute Add (a f.s1) (Reg (a f.s1)) (Reg (a f.s2))) ∷
    line (codes "mov16") (λ f. Compute Second (d f.s1) (Word 0) (Word (sk 4 f))) ∷
    line (codes "add16") (λ f. Compute Add (d f.s1) (Reg (d f.s1)) (Word (sk 4 f))) ∷
    line (codes "mov16.a") (λ f. Compute Second (a f.s1) (Word 0) (Word (uk f))) ∷
    line (codes "add16.a") (λ f. Compute Add (a f.s1) (Reg (a f.s1)) (Word (sk 4 f))) ∷
    line (codes "ld16.w") (λ f. Load (d f.s1) (Reg (a f.s2)) 0 4 false false) ∷
    line (codes "ld16.a") (λ f. Load (a f.s1) (Reg (a f.s2)) 0 4 false false) ∷
    line (codes "st16.w") (λ f. Store (d f.s1) (Reg (a f.s2)) 0 4 false) ∷
    line (codes "st16.a") (λ f. Store (a f.s1) (Reg (a f.s2)) 0 4 false) ∷
    []

-- the meaning of a line with these fields; Nothing if there is no line
abbrev pub meaning_by_line : Option MeaningLine → Fields → Shape
meaning_by_line None f = Nothing
meaning_by_line (Some l) f = l.shape f

-- what an instruction does, by the table of meanings: the meaning of its row, with its fields
unfoldable pub shape_of : InstData → Shape
shape_of i = meaning_by_line (slice_get meanings i.row) (inst_fields i)
