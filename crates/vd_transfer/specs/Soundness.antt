-- States hold the machine's words: the statements of the laws of effects.
use Rattle.std.specs.Prelude.{◌≡◌, ◌<◌, ◌^◌, ℕ, Bool, false, length, IsSomeAnd}
use Rattle.tcd_plan.specs.PlanData.{PlanData, IsPlan}
use Rattle.tc_isa.specs.declared.shapes.Arg.{Arg}
use Rattle.tc_isa.specs.declared.shapes.Cond.{Cond}
use Rattle.tc_isa.specs.declared.shapes.Shape.{Shape}
use Rattle.tc_isa.specs.declared.shapes.Shape.TheVariants.{Load, Store, Branch, Jump, Call, Ret, Rfe, Rslcx, Syscall}
use Rattle.tc_isa.specs.Arithmetic.{taken_of}
use Rattle.tc_isa.specs.InBounds.{IsShapeInBounds, IsArgInBounds}
use Rattle.value_domain.specs.declared.values.Val.{Val}
use Rattle.value_domain.specs.declared.states.State.{State}
use Rattle.value_domain.specs.Limits.{Limits, AreLimits}
use Rattle.value_domain.specs.Values.{IsMember}
use Rattle.value_domain.specs.State.{AreInLattice}
use Rattle.vd_transfer.specs.Registers.{is_lower_register, WritesNoFixedRegister}
use Rattle.vd_transfer.specs.EffectsOnStates.{transfer_of, address_of_access, state_after_lower_restore}
use Rattle.vd_transfer.specs.EffectsOnWords.{ie_after, operand_word, accessed_address, words_after, ccpn_after}
use Rattle.vd_transfer.specs.Branches.{refine_of}
use Rattle.vd_transfer.specs.Holding.{Holds}

-- the premises of the laws of soundness: limits, a plan, and a state whose 27 registers have values
-- in the lattice
pub record MeetSoundnessPremises (b : Limits) (p : PlanData) (s : State) : Type 0 where
  pub limits : AreLimits b
  pub plan : IsPlan p
  pub regs : length s.regs ≡ 27
  pub values : AreInLattice b s.regs

-- the instruction goes on to the next one and restores no context: a premise of the law that
-- effects are sound
abbrev pub IsStraightLine : Shape → Type 0
IsStraightLine (Branch cond x y by lowers) = ⊥
IsStraightLine (Jump to) = ⊥
IsStraightLine (Call to) = ⊥
IsStraightLine Ret = ⊥
IsStraightLine Rfe = ⊥
IsStraightLine (Syscall tin) = ⊥
IsStraightLine Rslcx = ⊥
IsStraightLine _ = Unit {0}

-- if the instruction is a load, the word that was read is a member of the value that was loaded
abbrev pub LoadedIsMember : Shape → ℕ → Val → Type 0
LoadedIsMember (Load dst base offset size signed after) input loaded = IsMember input loaded
LoadedIsMember _ input loaded = Unit {0}

-- after an instruction that restores nothing, the changed state holds the words
abbrev pub TransferIsSound : Type 0
TransferIsSound =
    (b : Limits) (p : PlanData) (shape : Shape) (s : State) (loaded : Val) (word : ℕ → ℕ) (ie : Bool) (ccpn input : ℕ) → MeetSoundnessPremises b p s
    → IsShapeInBounds shape → WritesNoFixedRegister shape → IsStraightLine shape → input < 2 ^ 32 → LoadedIsMember shape input loaded → Holds p word ie ccpn s
    → Holds p (words_after shape input word) (ie_after shape ie) (ccpn_after shape ccpn) (transfer_of b p shape s loaded)

-- after a lower context was restored, the changed state holds the words, whatever the context had
abbrev pub RestoreIsSound : Type 0
RestoreIsSound =
    (p : PlanData) (s : State) (word word2 : ℕ → ℕ) (ie : Bool) (ccpn : ℕ) → length s.regs ≡ 27 → ((r : ℕ) → r < 32 → word2 r < 2 ^ 32)
    → ((r : ℕ) → r < 32 → is_lower_register r ≡ false → word2 r ≡ word r) → Holds p word ie ccpn s → Holds p word2 ie ccpn (state_after_lower_restore s)

-- the side that a branch takes is possible, and its state holds the words
abbrev pub BranchIsSound : Type 0
BranchIsSound =
    (b : Limits) (p : PlanData) (cond : Cond) (x : ℕ) (y : Arg) (by : ℕ) (lowers : Bool) (s : State) (side : Bool) (word : ℕ → ℕ) (ie : Bool) (ccpn : ℕ)
    → MeetSoundnessPremises b p s → IsShapeInBounds (Branch cond x y by lowers) → WritesNoFixedRegister (Branch cond x y by lowers) → Holds p word ie ccpn s
    → taken_of cond (word x) (operand_word word y) ≡ side
    → IsSomeAnd (refine_of b p (Branch cond x y by lowers) s side) (Holds p (words_after (Branch cond x y by lowers) 0 word) ie ccpn)

-- the address of an access is one of its addresses
pub record AddressIsSound : Type 0 where
  pub load :
      (b : Limits) (p : PlanData) (dst : ℕ) (base : Arg) (offset size : ℕ) (signed after : Bool) (s : State) (word : ℕ → ℕ) (ie : Bool) (ccpn : ℕ)
      → MeetSoundnessPremises b p s → IsArgInBounds base → offset < 2 ^ 32 → Holds p word ie ccpn s
      → IsMember (accessed_address word base offset after) (address_of_access b p (Load dst base offset size signed after) s)
  pub store :
      (b : Limits) (p : PlanData) (src : ℕ) (base : Arg) (offset size : ℕ) (after : Bool) (s : State) (word : ℕ → ℕ) (ie : Bool) (ccpn : ℕ)
      → MeetSoundnessPremises b p s → IsArgInBounds base → offset < 2 ^ 32 → Holds p word ie ccpn s
      → IsMember (accessed_address word base offset after) (address_of_access b p (Store src base offset size after) s)
