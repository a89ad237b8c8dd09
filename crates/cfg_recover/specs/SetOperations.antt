-- Operations on two sets of many words, and a cache of their results.
use Rattle.std.specs.Prelude.{◌≡◌, ◌<◌, ℕ, List, Some, IfSome}
use Rattle.tcd_plan.specs.PlanData.{PlanData}
use Rattle.tc_isa.specs.declared.shapes.Op.{Op}
use Rattle.tc_isa.specs.declared.shapes.Arg.{Arg}
use Rattle.tc_isa.specs.declared.shapes.Shape.TheVariants.{Compute}
use Rattle.value_domain.specs.declared.values.Val.TheVariants.{Set}
use Rattle.value_domain.specs.declared.states.State.{State}
use Rattle.value_domain.specs.Sets.{AreSetWords}
use Rattle.value_domain.specs.Limits.{Limits}
use Rattle.value_domain.specs.Values.{IsInLattice}
use Rattle.vd_transfer.specs.Operations.{operation_value}
use Rattle.vd_transfer.specs.Registers.{arg_of}
use Rattle.cfg_recover.specs.declared.operation_cache.SetOperation.{SetOperation}
use Rattle.cfg_recover.specs.declared.operation_cache.CachedOperation.{CachedOperation}
use Rattle.cfg_recover.specs.declared.operation_cache.OperationCache.{OperationCache}

-- an operand's value in a state is the set of these words
pub record IsSetOperand (s : State) (r : Arg) (ws : List ℕ) : Type 0 where
  pub value : (plan : PlanData) → arg_of plan s r ≡ Set ws
  pub words : AreSetWords ws

-- the instruction computes the operation on two operands whose values in the state are these sets,
-- and writes a data register
pub record IsSetOperation (s : State) (o : SetOperation) : Type 0 where
  pub left : Arg
  pub right : Arg
  pub is : o.shape ≡ Compute o.op o.dst left right
  pub x : IsSetOperand s left o.x.now
  pub y : IsSetOperand s right o.y.now
  pub small : o.dst < 16

-- an entry of the cache has this operation on these sets
pub record IsSameOperation (k : CachedOperation) (o : SetOperation) : Type 0 where
  pub op : k.op ≡ Some o.op
  pub x : k.x ≡ Set o.x.now
  pub y : k.y ≡ Set o.y.now

-- the entry's result is that of this operation on the entry's operands, and a value of the limits
pub record HasResultOf (b : Limits) (k : CachedOperation) (op : Op) : Type 0 where
  pub gives : k.result ≡ operation_value b op k.x k.y
  pub value : IsInLattice b k.result

-- an entry of the cache of operations is empty, or has the result of its operation
abbrev pub IsCorrectEntry : Limits → CachedOperation → Type 0
IsCorrectEntry b k = IfSome k.op (HasResultOf b k)

-- each entry of the cache of operations is empty, or has the result of its operation
pub record IsCorrectCache (b : Limits) (cache : OperationCache) : Type 0 where
  pub zero : IsCorrectEntry b cache.zero
  pub one : IsCorrectEntry b cache.one
  pub two : IsCorrectEntry b cache.two
  pub three : IsCorrectEntry b cache.three
