-- The registers of a state: D0..D15, A2..A7, A10 and A12..A15 have a value each.
-- A0, A1, A8 and A9 are the plan's, and A11 is unknown. Registers are numbered 0 to 15 for D and
-- 16 to 31 for A.
use Rattle.std.specs.Prelude.{◌-◌, ℕ, Bool, not, ◌&&◌, ◌||◌, ◌==◌, nat_lt, nat_le, if◌then◌else◌, Option, Some, None, slice_index_or, slice_set, IsSome, IsTrue, false}
use Rattle.tcd_plan.specs.PlanData.{PlanData, global_of}
use Rattle.tc_isa.specs.declared.shapes.Arg.{Arg}
use Rattle.tc_isa.specs.declared.shapes.Arg.TheVariants.{Reg, Word}
use Rattle.value_domain.specs.declared.values.Val.{Val}
use Rattle.value_domain.specs.declared.states.State.{State}
use Rattle.value_domain.specs.Values.{any_val, word_val}
use Rattle.tc_isa.specs.declared.shapes.Shape.{Shape}
use Rattle.tc_isa.specs.declared.shapes.Shape.TheVariants.{Compute, Scaled, Load, Store, Branch, Mfcr, Mtcr}

-- the slot of a register, its index among the 27 values of a state, if there is one
unfoldable pub register_slot : ℕ → Option ℕ
register_slot r =
    if nat_lt r 16 then Some r
    else if nat_le 18 r && nat_le r 23 then Some (r - 2)
    else if r == 26 then Some 22
    else if nat_le 28 r && nat_le r 31 then Some (r - 5)
    else None

-- the value of a register without a slot in states: the plan's word for A0, A1, A8 and A9, any word
-- for A11
abbrev pub fixed_register_value : PlanData → ℕ → Val
fixed_register_value p r = if r == 27 then any_val else word_val (global_of p r)

-- the value of a register by its slot in a state, or its fixed value if it has no slot
abbrev pub register_value_at : PlanData → State → ℕ → Option ℕ → Val
register_value_at p s r (Some i) = slice_index_or s.regs i any_val
register_value_at p s r None = fixed_register_value p r

-- the abstract value of a register: the state's, or the fixed one
abbrev pub reg_of : PlanData → State → ℕ → Val
reg_of p s r = register_value_at p s r (register_slot r)

-- the abstract value of an instruction's operand: a register's, or the Set of the constant
abbrev pub arg_of : PlanData → State → Arg → Val
arg_of p s (Reg r) = reg_of p s r
arg_of p s (Word w) = word_val w

-- the state with a value in this slot; unchanged without a slot
abbrev pub with_slot_value : State → Val → Option ℕ → State
with_slot_value s v (Some i) = record s { regs = slice_set s.regs i v }
with_slot_value s v None = s

-- the state with a value in register r; unchanged if states have no slot for r
abbrev pub with_reg_value : State → ℕ → Val → State
with_reg_value s r v = with_slot_value s v (register_slot r)

-- the register of a state with this number, 0 to 15 for D and 16 to 31 for A, is a lower one:
-- D0..D7 or A2..A7
abbrev pub is_lower_register : ℕ → Bool
is_lower_register r = nat_lt r 8 || (nat_le 18 r && nat_le r 23)

-- the state after an instruction wrote register r; a lower one clears `lower`
abbrev pub state_after_reg_write : State → ℕ → Val → State
state_after_reg_write s r v = record (with_reg_value s r v) { lower = s.lower && not (is_lower_register r) }

-- r, 0 to 15 for D and 16 to 31 for A, is none of the fixed A0, A1, A8, A9 and A11: states have a
-- value for the register
abbrev pub IsNotFixedRegister : ℕ → Type 0
IsNotFixedRegister r = IsSome (register_slot r)

-- the state with a value in the register that an operand names; unchanged for a constant
abbrev pub with_arg_value : State → Arg → Val → State
with_arg_value s (Reg r) v = with_reg_value s r v
with_arg_value s (Word w) v = s

-- the slot of an operand's register in a state; none for a constant, or without a slot
abbrev pub arg_slot : Arg → Option ℕ
arg_slot (Reg r) = register_slot r
arg_slot (Word w) = None

-- if the access increases its base register, as `after` says, states have a value for it
abbrev pub IncreasesNoFixedRegister : Arg → Bool → Type 0
IncreasesNoFixedRegister (Reg r) after = IsTrue after → IsNotFixedRegister r
IncreasesNoFixedRegister (Word w) after = Unit {0}

-- states have a value for each register that the instruction writes, and the instruction isn't MTCR
abbrev pub WritesNoFixedRegister : Shape → Type 0
WritesNoFixedRegister (Compute op dst x y) = IsNotFixedRegister dst
WritesNoFixedRegister (Scaled dst base index n) = IsNotFixedRegister dst
WritesNoFixedRegister (Load dst base offset size signed after) = IsNotFixedRegister dst × IncreasesNoFixedRegister base after
WritesNoFixedRegister (Store src base offset size after) = IncreasesNoFixedRegister base after
WritesNoFixedRegister (Branch cond x y by lowers) = IsTrue lowers → IsNotFixedRegister x
WritesNoFixedRegister (Mfcr dst number) = IsNotFixedRegister dst
WritesNoFixedRegister (Mtcr src number) = ⊥
WritesNoFixedRegister _ = Unit {0}

-- the operand y of a comparison is the register x itself
abbrev pub is_same_register : ℕ → Arg → Bool
is_same_register x (Reg y) = x == y
is_same_register x (Word w) = false

-- the value of the register A10, the stack pointer, in a state: in slot 22
abbrev pub a10_of : State → Val
a10_of s = slice_index_or s.regs 22 any_val
