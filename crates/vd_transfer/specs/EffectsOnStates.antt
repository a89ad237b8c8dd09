-- What an instruction does to a state.
use Rattle.std.specs.Prelude.{◌+◌, ◌-◌, ◌<◌, ◌≤◌, ℕ, Bool, true, false, if◌then◌else◌, List, ◌∷◌, ◌++◌, length, take, slice_index_or, []}
use Rattle.tcd_plan.specs.PlanData.{PlanData}
use Rattle.tc_isa.specs.declared.shapes.Op.{Op}
use Rattle.tc_isa.specs.declared.shapes.Op.TheVariants.{Add, Sh}
use Rattle.tc_isa.specs.declared.shapes.Arg.{Arg}
use Rattle.tc_isa.specs.declared.shapes.Arg.TheVariants.{Reg, Word}
use Rattle.tc_isa.specs.declared.shapes.Shape.{Shape}
use Rattle.tc_isa.specs.declared.shapes.Shape.TheVariants.{Compute, Scaled, Load, Store, Branch, Jump, Call, Ret, Rfe, Svlcx, Rslcx, Bisr, Enable, Disable, Syscall, Mfcr, Mtcr, Nothing}
use Rattle.value_domain.specs.declared.values.Val.{Val}
use Rattle.value_domain.specs.declared.states.State.{State}
use Rattle.value_domain.specs.Values.{any_val, IsInLattice, word_val}
use Rattle.value_domain.specs.Limits.{Limits}
use Rattle.vd_transfer.specs.Operations.{operation_value}
use Rattle.vd_transfer.specs.Registers.{reg_of, arg_of, state_after_reg_write}
use Rattle.value_domain.specs.State.{is_lower_slot}

-- the abstract value of an operation on the operands x and y in a state
abbrev pub operation_in_state : Limits → PlanData → State → Op → Arg → Arg → Val
operation_in_state b p s op x y = operation_value b op (arg_of p s x) (arg_of p s y)

-- the abstract value of a scaled address: a base register plus an index register shifted left by n
abbrev pub scaled_address_of : Limits → PlanData → State → ℕ → ℕ → ℕ → Val
scaled_address_of b p s base index n = operation_value b Add (reg_of p s base) (operation_value b Sh (reg_of p s index) (word_val n))

-- the state after the access increased its base register by the offset, if the access does that
abbrev pub state_with_increased_base : Limits → PlanData → State → Arg → ℕ → Bool → State
state_with_increased_base b p s (Reg r) offset after = if after then state_after_reg_write s r (operation_value b Add (reg_of p s r) (word_val offset)) else s
state_with_increased_base b p s (Word w) offset after = s

-- the addresses of an access by its addressing mode: base plus offset, or the base alone with
-- post-increment (after)
abbrev pub address_by_mode : Limits → PlanData → State → Arg → ℕ → Bool → Val
address_by_mode b p s base offset after = if after then arg_of p s base else operation_value b Add (arg_of p s base) (word_val offset)

-- a lower context is saved: the mark that the lower registers are those of the entry becomes a
-- local
abbrev pub state_after_lower_save : State → State
state_after_lower_save s = record s { locals = record { items = s.locals.items ++ s.lower ∷ [] } }

-- a state's values from slot i on, with those of lower registers unknown, as after a lower context
-- is restored
unfoldable pub with_lower_unknown_from : ℕ → List Val → List Val
with_lower_unknown_from i [] = []
with_lower_unknown_from i (v ∷ vs) = (if is_lower_slot i then any_val else v) ∷ with_lower_unknown_from (i + 1) vs

-- a state's 27 values, with those of lower registers unknown, as after a lower context is restored
abbrev pub with_lower_unknown : List Val → List Val
with_lower_unknown vs = with_lower_unknown_from 0 vs

-- the last lower context is restored: the lower registers are unknown, and they are those of the
-- entry if its local says so
abbrev pub state_after_lower_restore : State → State
state_after_lower_restore s = record s {
  regs = with_lower_unknown s.regs;
  lower = slice_index_or s.locals.items (length s.locals.items - 1) false;
  locals = record { items = take (length s.locals.items - 1) s.locals.items };
}

-- the state after an instruction that isn't a branch and goes on to the next one; a load writes the
-- value that was loaded
unfoldable pub transfer_of : Limits → PlanData → Shape → State → Val → State
transfer_of b p (Compute op dst x y) s loaded = state_after_reg_write s dst (operation_in_state b p s op x y)
transfer_of b p (Scaled dst base index n) s loaded = state_after_reg_write s dst (scaled_address_of b p s base index n)
transfer_of b p (Load dst base offset size signed after) s loaded = state_after_reg_write (state_with_increased_base b p s base offset after) dst loaded
transfer_of b p (Store src base offset size after) s loaded = state_with_increased_base b p s base offset after
transfer_of b p (Branch cond x y by lowers) s loaded = s
transfer_of b p (Jump to) s loaded = s
transfer_of b p (Call to) s loaded = s
transfer_of b p Ret s loaded = s
transfer_of b p Rfe s loaded = s
transfer_of b p Svlcx s loaded = state_after_lower_save s
transfer_of b p Rslcx s loaded = state_after_lower_restore s
transfer_of b p (Bisr c) s loaded = record (state_after_lower_save s) { ie = true; ccpn = c }
transfer_of b p Enable s loaded = record s { ie = true }
transfer_of b p Disable s loaded = record s { ie = false }
transfer_of b p (Syscall tin) s loaded = s
transfer_of b p (Mfcr dst number) s loaded = state_after_reg_write s dst any_val
transfer_of b p (Mtcr src number) s loaded = s
transfer_of b p Nothing s loaded = s

-- the addresses that a load or a store may access in a state; any word for other instructions
unfoldable pub address_of_access : Limits → PlanData → Shape → State → Val
address_of_access b p (Load dst base offset size signed after) s = address_by_mode b p s base offset after
address_of_access b p (Store src base offset size after) s = address_by_mode b p s base offset after
address_of_access b p _ s = any_val

-- a state has room for another saved lower context if the instruction saves one, and has one if the
-- instruction restores one
abbrev pub LocalsFitInstruction : Limits → Shape → State → Type 0
LocalsFitInstruction b Svlcx s = length s.locals.items < b.most_locals
LocalsFitInstruction b (Bisr c) s = length s.locals.items < b.most_locals
LocalsFitInstruction b Rslcx s = 1 ≤ length s.locals.items
LocalsFitInstruction b _ s = Unit {0}

-- what was loaded is a value in the lattice of these limits, if the instruction is a load
abbrev pub LoadedIsInLattice : Limits → Shape → Val → Type 0
LoadedIsInLattice b (Load dst base offset size signed after) loaded = IsInLattice b loaded
LoadedIsInLattice b _ loaded = Unit {0}
