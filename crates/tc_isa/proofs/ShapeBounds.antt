-- What an instruction does is within bounds.
use Rattle.std.proofs.Common.{◌≡◌, inl, inr, ◌-◌, ◌%◌, ◌^◌, ◌<◌, ℕ, Bool, true, false, map, length, get_or, sym, subst, arith, refl, ◌==◌}
use Rattle.std.specs.Prelude.{◌||◌}
use Rattle.std.specs.List.{list_all}
use Rattle.std.proofs.lemmas.Bool.{cases_lt, lt-ltb, le-ltb, or_cases, eqb-true}
use Rattle.std.proofs.lemmas.List.Sums.{AllPass-from_list_all}
use Rattle.tcd_base.specs.BitFields.{sext_of}
use Rattle.tc_isa.specs.declared.fields.Fields.{Fields}
use Rattle.tc_isa.specs.declared.meaning.RegField.{RegField}
use Rattle.tc_isa.specs.declared.meaning.RegField.TheVariants.{Dc}
use Rattle.tc_isa.specs.declared.meaning.Immediate.{Immediate}
use Rattle.tc_isa.specs.declared.meaning.Immediate.TheVariants.{Signed4, Signed9, Signed10, Signed16, SignedS2}
use Rattle.tc_isa.specs.declared.meaning.Operand.{Operand}
use Rattle.tc_isa.specs.declared.meaning.Operand.TheVariants.{At, Of}
use Rattle.tc_isa.specs.declared.meaning.Displacement.{Displacement}
use Rattle.tc_isa.specs.declared.meaning.Displacement.TheVariants.{Ahead8}
use Rattle.tc_isa.specs.declared.meaning.Destination.{Destination}
use Rattle.tc_isa.specs.declared.meaning.Destination.TheVariants.{By, Code, In}
use Rattle.tc_isa.specs.declared.meaning.Meaning.{Meaning}
use Rattle.tc_isa.specs.declared.meaning.Meaning.TheVariants.{Computes, Scales, Loads, Stores, Branches, Jumps, Calls, Masks, ReadsCore, WritesCore, Always}
use Rattle.tc_isa.specs.declared.row_meanings.TheConstants.{MEANINGS}
use Rattle.tc_isa.specs.declared.table.TheConstants.{ROW_COUNT}
use Rattle.tc_isa.specs.declared.shapes.Shape.{Shape}
use Rattle.tc_isa.specs.declared.shapes.Shape.TheVariants.{Ret, Rfe, Svlcx, Rslcx, Enable, Disable, Nothing}
use Rattle.tc_isa.specs.Insts.{InstData, IsInst, inst_fields}
use Rattle.tc_isa.specs.Rows.{table_rows}
use Rattle.tc_isa.specs.Meanings.{meanings, shape_of}
use Rattle.tc_isa.specs.InBounds.{IsRegister, IsArgInBounds, IsTargetInBounds, IsOneTwoOrFour, IsShapeInBounds, FieldsFitTheirBits}
use Rattle.tcd_base.specs.Bytes.{IsWord}
use Rattle.tc_isa.specs.FromFields.{register_from_fields, constant_from_fields, operand_from_fields, distance_from_fields, target_from_fields, shape_from_fields}
use Rattle.tc_isa.proofs.Shaped.{small, row_below, shaped}

sext_lt : (x n : ℕ) → x < 2 ^ n → x < 2 ^ 32 → sext_of x n < 2 ^ 32
sext_lt x n low word = elim (cases_lt x (2 ^ (n - 1))) [
  | inl plus ↦ rw (lt-ltb x (2 ^ (n - 1)) plus) word
  | inr minus ↦ rw (le-ltb x (2 ^ (n - 1)) minus) (omega arith)
]

register_is : (p : RegField) (f : Fields) → FieldsFitTheirBits f → IsRegister (register_from_fields p f)
register_is Dc f s = omega arith
register_is _ f s = omega arith

word_is : (c : Immediate) (f : Fields) → FieldsFitTheirBits f → IsWord (constant_from_fields c f)
word_is Signed4 f s = sext_lt (f.k % 2 ^ 4) 4 (omega arith) (omega arith)
word_is Signed9 f s = sext_lt (f.k % 2 ^ 9) 9 (omega arith) (omega arith)
word_is Signed10 f s = sext_lt (f.k % 2 ^ 10) 10 (omega arith) (omega arith)
word_is Signed16 f s = sext_lt (f.k % 2 ^ 16) 16 (omega arith) (omega arith)
word_is SignedS2 f s = sext_lt (f.s2 % 2 ^ 4) 4 (omega arith) (omega arith)
word_is _ f s = omega arith

operand_is : (o : Operand) (f : Fields) → FieldsFitTheirBits f → IsArgInBounds (operand_from_fields o f)
operand_is (At p) f s = register_is p f s
operand_is (Of c) f s = word_is c f s

distance_is : (b : Displacement) (f : Fields) → FieldsFitTheirBits f → IsWord (distance_from_fields b f)
distance_is Ahead8 f s = omega arith
distance_is _ f s = omega arith

target_is : (g : Destination) (f : Fields) → FieldsFitTheirBits f → IsTargetInBounds (target_from_fields g f)
target_is (By b) f s = distance_is b f s
target_is Code f s = omega arith
target_is (In p) f s = register_is p f s

-- the sizes of the table's accesses, and the shapes that have no parts
is_size : ℕ → Bool
is_size n = n == 1 || (n == 2 || n == 4)

has_no_parts : Shape → Bool
has_no_parts Ret = true
has_no_parts Rfe = true
has_no_parts Svlcx = true
has_no_parts Rslcx = true
has_no_parts Enable = true
has_no_parts Disable = true
has_no_parts Nothing = true
has_no_parts _ = false

is_sound : Meaning → Bool
is_sound (Loads dst base offset size sign after) = is_size size
is_sound (Stores src base offset size after) = is_size size
is_sound (Always s) = has_no_parts s
is_sound _ = true

size_is : (n : ℕ) → is_size n ≡ true → IsOneTwoOrFour n
unfolding is_size
size_is n e = elim (or_cases (n == 1) (n == 2 || n == 4) e) [
  | inl a ↦ inl (eqb-true _ _ a)
  | inr b ↦ elim (or_cases (n == 2) (n == 4) b) [ inl c ↦ inr (inl (eqb-true _ _ c)) | inr d ↦ inr (inr (eqb-true _ _ d)) ]
]

plain_is : (s : Shape) → has_no_parts s ≡ true → IsShapeInBounds s
unfolding has_no_parts
plain_is Ret e = tt
plain_is Rfe e = tt
plain_is Svlcx e = tt
plain_is Rslcx e = tt
plain_is Enable e = tt
plain_is Disable e = tt
plain_is Nothing e = tt
plain_is _ e = cc

meant_is : (m : Meaning) (f : Fields) → FieldsFitTheirBits f → is_sound m ≡ true → IsShapeInBounds (shape_from_fields m f)
unfolding is_sound
meant_is (Computes op dst x y) f s e = (register_is dst f s, operand_is x f s, operand_is y f s)
meant_is (Scales dst base index) f s e = (register_is dst f s, register_is base f s, register_is index f s, s.n)
meant_is (Loads dst base offset size sign after) f s e = (register_is dst f s, operand_is base f s, word_is offset f s, size_is size e)
meant_is (Stores src base offset size after) f s e = (register_is src f s, operand_is base f s, word_is offset f s, size_is size e)
meant_is (Branches cond x y by lowers) f s e = (register_is x f s, operand_is y f s, distance_is by f s)
meant_is (Jumps to) f s e = target_is to f s
meant_is (Calls to) f s e = target_is to f s
meant_is (ReadsCore dst) f s e = (register_is dst f s, omega arith)
meant_is (WritesCore src) f s e = (register_is src f s, omega arith)
meant_is (Always shape) f s e = plain_is shape e
meant_is _ f s e = omega arith

all_sound : list_all is_sound MEANINGS ≡ true
unfolding is_sound is_size has_no_parts
all_sound = refl

are_listed : map shape_from_fields MEANINGS ≡ map (λ l. l.shape) meanings
are_listed = refl

count : length MEANINGS ≡ ROW_COUNT
count = refl

pub shape_is : (i : InstData) → IsInst i → IsShapeInBounds (shape_of i)
shape_is i is =
    let within : i.row < length MEANINGS = subst (λ n. i.row < n) (sym count) (row_below i is) in
    subst IsShapeInBounds (shaped MEANINGS i.row Masks i are_listed refl is)
    (meant_is (get_or MEANINGS i.row Masks) (inst_fields i) (small i is) (AllPass-from_list_all is_sound MEANINGS all_sound i.row Masks within))

pub names_listed : map (λ l. l.name) meanings ≡ map (λ r. r.name) table_rows
names_listed = refl
