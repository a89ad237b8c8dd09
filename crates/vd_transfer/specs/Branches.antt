-- What a branch does to a state on each of its sides.
use Rattle.std.specs.Prelude.{ℕ, Bool, true, false, if◌then◌else◌, Option, Some, None, not}
use Rattle.tcd_plan.specs.PlanData.{PlanData}
use Rattle.tc_isa.specs.declared.shapes.Op.TheVariants.{Sub}
use Rattle.tc_isa.specs.declared.shapes.Cond.{Cond}
use Rattle.tc_isa.specs.declared.shapes.Arg.{Arg}
use Rattle.tc_isa.specs.declared.shapes.Shape.{Shape}
use Rattle.tc_isa.specs.declared.shapes.Shape.TheVariants.{Branch}
use Rattle.value_domain.specs.declared.values.Val.{Val}
use Rattle.value_domain.specs.declared.states.State.{State}
use Rattle.value_domain.specs.Values.{members, word_val}
use Rattle.value_domain.specs.Limits.{Limits}
use Rattle.vd_transfer.specs.Operations.{operation_value}
use Rattle.vd_transfer.specs.Refinement.{kept_left_words, kept_right_words, kept_self_compared_words}
use Rattle.value_domain.specs.Meets.{cover_if_any}
use Rattle.vd_transfer.specs.Registers.{reg_of, arg_of, with_reg_value, state_after_reg_write, with_arg_value, is_same_register}
use Rattle.tc_isa.specs.declared.shapes.Cond.TheVariants as cond

-- the state on a side of a branch, or none if the side isn't possible
abbrev pub state_if_possible : Bool → State → Option State
state_if_possible true s = Some s
state_if_possible false s = None

-- on a side of a branch, the state with this value in the narrowed register x; none if no member is
-- possible
abbrev pub state_with_narrowed_register : State → ℕ → Option Val → Option State
state_with_narrowed_register s x None = None
state_with_narrowed_register s x (Some z) = Some (with_reg_value s x z)

-- on a side of a branch, the state with these values in both narrowed operands; none if one has no
-- possible member
abbrev pub state_with_narrowed_operands : State → ℕ → Arg → Option Val → Option Val → Option State
state_with_narrowed_operands s x y None w = None
state_with_narrowed_operands s x y (Some v) None = None
state_with_narrowed_operands s x y (Some v) (Some w) = Some (with_arg_value (with_reg_value s x v) y w)

-- of two compared values v and w, the cover of the left one's members that are possible on a side
-- of the branch; none if there are none
abbrev pub narrowed_left_value : Limits → Cond → Bool → Val → Val → Option Val
narrowed_left_value b cond side v w = cover_if_any b (kept_left_words cond side (members v) (members w))

-- of two compared values v and w, the cover of the right one's members that are possible on a side
-- of the branch; none if there are none
abbrev pub narrowed_right_value : Limits → Cond → Bool → Val → Val → Option Val
narrowed_right_value b cond side v w = cover_if_any b (kept_right_words cond side (members v) (members w))

-- on a side of a branch, the state with both operands x and y narrowed from their values v and w;
-- none if one has no possible member
abbrev pub state_narrowed_by_values : Limits → Cond → Bool → ℕ → Arg → State → Val → Val → Option State
state_narrowed_by_values b cond side x y s v w =
    state_with_narrowed_operands s x y (narrowed_left_value b cond side v w) (narrowed_right_value b cond side v w)

-- the state on a side of a branch, its operands narrowed; none if the side isn't possible
abbrev pub state_on_side : Limits → PlanData → Cond → ℕ → Arg → State → Bool → Option State
state_on_side b p cond x y s side =
    if is_same_register x y
    then state_with_narrowed_register s x (cover_if_any b (kept_self_compared_words cond side (members (reg_of p s x))))
    else state_narrowed_by_values b cond side x y s (reg_of p s x) (arg_of p s y)

-- the state after the register x was decremented by 1
abbrev pub with_decremented_register : Limits → PlanData → ℕ → State → State
with_decremented_register b p x s = state_after_reg_write s x (operation_value b Sub (reg_of p s x) (word_val 1))

-- the state, if any, with the counter register x decremented by 1 if `lowers`, as for loop
abbrev pub with_decremented_counter : Limits → PlanData → ℕ → Bool → Option State → Option State
with_decremented_counter b p x lowers None = None
with_decremented_counter b p x lowers (Some s) = Some (if lowers then with_decremented_register b p x s else s)

-- the state after a branch that is taken (true) or isn't; none if impossible, or no branch
unfoldable pub refine_of : Limits → PlanData → Shape → State → Bool → Option State
refine_of b p (Branch cond x y by lowers) s side = with_decremented_counter b p x lowers (state_on_side b p cond x y s side)
refine_of b p _ s side = None

-- a branch that compares a word with itself goes to this side: to its target if the side is true
unfoldable pub is_side_taken_by_equal_words : Cond → Bool → Bool
is_side_taken_by_equal_words cond.Eq side = side
is_side_taken_by_equal_words cond.Ne side = not side
is_side_taken_by_equal_words cond.Lt side = not side
is_side_taken_by_equal_words cond.LtU side = not side
is_side_taken_by_equal_words cond.Ge side = side
is_side_taken_by_equal_words cond.GeU side = side
