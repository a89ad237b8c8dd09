-- What instructions that stay in their frame do to the machine: registers, pc, IE and memory.
use Rattle.std.proofs.Common.{◌≡◌, ◌≢◌, ℕ, ◌+◌, ◌-◌, ◌*◌, ◌%◌, ◌^◌, ◌<◌, inl, inr, Bool, true, false, cond, List, length, get_or, set, length-set, get_or-set_same, get_or-set_other, ltb, eqb, refl, ap, ◌∙◌, subst, arith}
use Rattle.std.proofs.lemmas.Bool.{cases_eq, cases_lt, lt-ltb, le-ltb, eq-eqb, ne_eqb}
use Rattle.csa_chain.specs.MemoryBytes.{Memory, loaded_number, with_bytes, load_result}
use Rattle.tc_isa.specs.declared.shapes.Arg.{Arg}
use Rattle.tc_isa.specs.declared.shapes.Arg.TheVariants.{Reg, Word}
use Rattle.tc_isa.specs.declared.shapes.Cond.{Cond}
use Rattle.tc_isa.specs.declared.shapes.Op.{Op}
use Rattle.tc_isa.specs.declared.shapes.Shape.TheVariants.{Compute, Scaled, Load, Store, Branch, Jump, Enable, Disable, Mfcr, Nothing}
use Rattle.tc_isa.specs.declared.shapes.Target.{Target}
use Rattle.tc_isa.specs.Arithmetic.{alu_of, taken_of}
use Rattle.tc_isa.specs.InBounds.{IsArgInBounds}
use Rattle.tc_machine.specs.declared.events.Event.{Event}
use Rattle.tc_machine.specs.declared.state.Machine.{Machine}
use Rattle.tc_machine.specs.Machine.{reg, with_reg, IsMachine, core_register}
use Rattle.tc_machine.specs.Instructions.{wrapping_sum, operand_value, with_pc_advanced, access_address, with_base_incremented, is_trapping_access, with_register_decremented, target_address, after_instruction}
use Rattle.vd_transfer.specs.EffectsOnWords.{words_with_register, operand_word, accessed_address, words_with_increased_base, words_after}

-- ---- registers
-- the word of a register, in the two lists of registers
abbrev pub reg_in : List ℕ → List ℕ → ℕ → ℕ
reg_in d a r = cond (ltb r 16) (get_or d r 0) (get_or a (r - 16) 0)

abbrev d_with : List ℕ → ℕ → ℕ → List ℕ
d_with d r w = cond (ltb r 16) (set d r w) d

abbrev a_with : List ℕ → ℕ → ℕ → List ℕ
a_with a r w = cond (ltb r 16) a (set a (r - 16) w)

-- n is m with other registers, whose words are these
pub record Registers (m n : Machine) (word : ℕ → ℕ) : Type 0 where
  pub d : List ℕ
  pub a : List ℕ
  pub d_count : length d ≡ 16
  pub a_count : length a ≡ 16
  pub is : n ≡ record m { d = d; a = a }
  pub words : (r : ℕ) → reg_in d a r ≡ word r

with_reg-is : (m : Machine) (r w : ℕ) → with_reg m r w ≡ record m { d = d_with m.d r w; a = a_with m.a r w }
with_reg-is m r w = either m r w (ltb r 16)
  where
    either : (m : Machine) (r w : ℕ) (t : Bool) → cond t (record m { d = set m.d r w }) (record m { a = set m.a (r - 16) w }) ≡ record m { d = cond t (set m.d r w) m.d; a = cond t m.a (set m.a (r - 16) w) }
    either m r w true = refl
    either m r w false = refl

pub set_word-other : (word : ℕ → ℕ) (r w q : ℕ) → q ≢ r → words_with_register word r w q ≡ word q
set_word-other word r w q apart = rw (ne_eqb q r apart) refl

d_word : (d : List ℕ) (r w q : ℕ) → r < length d → get_or (set d r w) q 0 ≡ words_with_register (λ i. get_or d i 0) r w q
d_word d r w q lt =
    elim (cases_eq q r) [
      | inl same ↦ rw (eq-eqb q r same) (ap (λ i. get_or (set d r w) i 0) same ∙ get_or-set_same d r w 0 lt)
      | inr apart ↦ rw (ne_eqb q r apart) (get_or-set_other d r q w 0 apart)
    ]

-- a register that is set
reg_in-with : (d a : List ℕ) (r w q : ℕ) → length d ≡ 16 → length a ≡ 16 → r < 32 → reg_in (d_with d r w) (a_with a r w) q ≡ words_with_register (reg_in d a) r w q
reg_in-with d a r w q dl al lt =
    elim (cases_lt r 16) [
      | inl dr ↦ elim (cases_lt q 16) [
        | inl dq ↦ rw (lt-ltb r 16 dr, lt-ltb q 16 dq) (d_word d r w q (omega arith))
        | inr aq ↦ rw (lt-ltb r 16 dr, le-ltb q 16 aq, ne_eqb q r (λ e. omega arith)) refl
      ]
      | inr ar ↦ elim (cases_lt q 16) [
        | inl dq ↦ rw (le-ltb r 16 ar, lt-ltb q 16 dq, ne_eqb q r (λ e. omega arith)) refl
        | inr aq ↦ elim (cases_eq q r) [
          | inl same ↦ rw (le-ltb r 16 ar, le-ltb q 16 aq, eq-eqb q r same) (ap (λ i. get_or (set a (r - 16) w) (i - 16) 0) same ∙ get_or-set_same a (r - 16) w 0 (omega arith))
          | inr apart ↦ rw (le-ltb r 16 ar, le-ltb q 16 aq, ne_eqb q r apart) (get_or-set_other a (r - 16) (q - 16) w 0 (λ e. apart (omega arith)))
        ]
      ]
    ]

with_count : (t : Bool) (ws : List ℕ) (i w : ℕ) → length ws ≡ 16 → length (cond t (set ws i w) ws) ≡ 16
with_count true ws i w e = length-set ws i w ∙ e
with_count false ws i w e = e

without_count : (t : Bool) (ws : List ℕ) (i w : ℕ) → length ws ≡ 16 → length (cond t ws (set ws i w)) ≡ 16
without_count true ws i w e = e
without_count false ws i w e = length-set ws i w ∙ e

pub registers_same : (m : Machine) → IsMachine m → Registers m m (reg m)
registers_same m k = record { d = m.d; a = m.a; d_count = (k.d).count; a_count = (k.a).count; is = refl; words = λ r. refl }

set_word_agrees : (f g : ℕ → ℕ) (r w q : ℕ) → f q ≡ g q → words_with_register f r w q ≡ words_with_register g r w q
set_word_agrees f g r w q e = ap (λ u. cond (eqb q r) w u) e

pub registers_with : (m n : Machine) (word : ℕ → ℕ) (r w : ℕ) → r < 32 → Registers m n word → Registers m (with_reg n r w) (words_with_register word r w)
registers_with m n word r w lt h = record {
  d = d_with h.d r w;
  a = a_with h.a r w;
  d_count = with_count (ltb r 16) h.d r w h.d_count;
  a_count = without_count (ltb r 16) h.a (r - 16) w h.a_count;
  is = ap (λ x. with_reg x r w) h.is ∙ with_reg-is (record m { d = h.d; a = h.a }) r w;
  words = λ q. reg_in-with h.d h.a r w q h.d_count h.a_count lt ∙ set_word_agrees (reg_in h.d h.a) word r w q (h.words q);
}

-- ---- operands
pub arg-is : (m : Machine) (x : Arg) → operand_value m x ≡ operand_word (reg m) x
arg-is m (Reg r) = refl
arg-is m (Word w) = refl

pub address-is : (m : Machine) (base : Arg) (offset : ℕ) (after : Bool) → access_address m base offset after ≡ accessed_address (reg m) base offset after
address-is m base offset after = ap (λ x. cond after x ((x + offset) % 2 ^ 32)) (arg-is m base)

registers_base : (m : Machine) → IsMachine m → (base : Arg) (offset : ℕ) (after : Bool) → IsArgInBounds base → Registers m (with_base_incremented m base offset after) (words_with_increased_base (reg m) base offset after)
registers_base m k (Word w) offset after lt = registers_same m k
registers_base m k (Reg r) offset false lt = registers_same m k
registers_base m k (Reg r) offset true lt = registers_with m m (reg m) r (wrapping_sum (reg m r) offset) lt (registers_same m k)

registers_lowered : (m : Machine) → IsMachine m → (x : ℕ) (lowers : Bool) → x < 32 → Registers m (with_register_decremented m x lowers) (cond lowers (words_with_register (reg m) x ((reg m x + (2 ^ 32 - 1)) % 2 ^ 32)) (reg m))
registers_lowered m k x false lt = registers_same m k
registers_lowered m k x true lt = registers_with m m (reg m) x (wrapping_sum (reg m x) (2 ^ 32 - 1)) lt (registers_same m k)

-- ---- instructions
-- m with other registers, pc, IE and memory
abbrev pub changed : Machine → List ℕ → List ℕ → ℕ → Bool → Memory → Machine
changed m d a pc ie mem = record m { d = d; a = a; pc = pc; ie = ie; mem = mem }

-- n is m with registers of these words, and with this pc, IE and memory
pub record Went (m n : Machine) (word : ℕ → ℕ) (pc : ℕ) (ie : Bool) (mem : Memory) : Type 0 where
  pub d : List ℕ
  pub a : List ℕ
  pub is : n ≡ changed m d a pc ie mem
  pub words : (r : ℕ) → reg_in d a r ≡ word r

-- a change of a machine with other registers
went_by : (m k : Machine) (word word2 : ℕ → ℕ) (pc : ℕ) (ie : Bool) (mem : Memory) (f : Machine → Machine) → ((d a : List ℕ) → f (record m { d = d; a = a }) ≡ changed m d a pc ie mem) → word ≡ word2 → Registers m k word
    → Went m (f k) word2 pc ie mem
went_by m k word word2 pc ie mem f gives same h = record { d = h.d; a = h.a; is = ap f h.is ∙ gives h.d h.a; words = λ r. h.words r ∙ ap (λ g. g r) same }

module _ (m : Machine) (k : IsMachine m) (e : Event) (n : ℕ) where
  -- on to the next instruction, after register r was set
  went_set : (word word2 : ℕ → ℕ) (base : Machine) (r w : ℕ) → r < 32 → words_with_register word r w ≡ word2 → Registers m base word → Went m (with_pc_advanced n (with_reg base r w)) word2 (wrapping_sum m.pc n) m.ie m.mem
  went_set word word2 base r w lt same h = went_by m (with_reg base r w) (words_with_register word r w) word2 (wrapping_sum m.pc n) m.ie m.mem (with_pc_advanced n) (λ d a. refl) same (registers_with m base word r w lt h)

  pub does-compute : (op : Op) (dst : ℕ) (x y : Arg) (input : ℕ) → dst < 32 → Went m (after_instruction m e (Compute op dst x y) n) (words_after (Compute op dst x y) input (reg m)) (wrapping_sum m.pc n) m.ie m.mem
  unfolding after_instruction words_after
  does-compute op dst x y input lt =
      went_set (reg m) _ m dst (alu_of op (operand_value m x) (operand_value m y)) lt
      (ap (λ u. words_with_register (reg m) dst (alu_of op u (operand_value m y))) (arg-is m x) ∙ ap (λ u. words_with_register (reg m) dst (alu_of op (operand_word (reg m) x) u)) (arg-is m y)) (registers_same m k)

  pub does-scaled : (dst base index j input : ℕ) → dst < 32 → Went m (after_instruction m e (Scaled dst base index j) n) (words_after (Scaled dst base index j) input (reg m)) (wrapping_sum m.pc n) m.ie m.mem
  unfolding after_instruction words_after
  does-scaled dst base index j input lt = went_set (reg m) _ m dst (wrapping_sum (reg m base) (reg m index * 2 ^ j)) lt refl (registers_same m k)

  pub does-mfcr : (dst number : ℕ) → dst < 32 → Went m (after_instruction m e (Mfcr dst number) n) (words_after (Mfcr dst number) (core_register m e number) (reg m)) (wrapping_sum m.pc n) m.ie m.mem
  unfolding after_instruction words_after
  does-mfcr dst number lt = went_set (reg m) _ m dst (core_register m e number) lt refl (registers_same m k)

  pub does-enable : (input : ℕ) → Went m (after_instruction m e Enable n) (words_after Enable input (reg m)) (wrapping_sum m.pc n) true m.mem
  unfolding after_instruction words_after
  does-enable input = went_by m m (reg m) (reg m) (wrapping_sum m.pc n) true m.mem (λ x. record (with_pc_advanced n x) { ie = true }) (λ d a. refl) refl (registers_same m k)

  pub does-disable : (input : ℕ) → Went m (after_instruction m e Disable n) (words_after Disable input (reg m)) (wrapping_sum m.pc n) false m.mem
  unfolding after_instruction words_after
  does-disable input = went_by m m (reg m) (reg m) (wrapping_sum m.pc n) false m.mem (λ x. record (with_pc_advanced n x) { ie = false }) (λ d a. refl) refl (registers_same m k)

  pub does-nop : (input : ℕ) → Went m (after_instruction m e Nothing n) (words_after Nothing input (reg m)) (wrapping_sum m.pc n) m.ie m.mem
  unfolding after_instruction words_after
  does-nop input = went_by m m (reg m) (reg m) (wrapping_sum m.pc n) m.ie m.mem (with_pc_advanced n) (λ d a. refl) refl (registers_same m k)

  pub does-goto : (to : Target) → Went m (after_instruction m e (Jump to) n) (reg m) (target_address m to) m.ie m.mem
  unfolding after_instruction
  does-goto to = went_by m m (reg m) (reg m) (target_address m to) m.ie m.mem (λ x. record x { pc = target_address m to }) (λ d a. refl) refl (registers_same m k)

  module _ (base : Arg) (offset size : ℕ) (after : Bool) (is_arg : IsArgInBounds base) (quiet : is_trapping_access e (access_address m base offset after) size ≡ false) where
    pub does-load : (dst : ℕ) (signed : Bool) → dst < 32
        → Went m (after_instruction m e (Load dst base offset size signed after) n) (words_after (Load dst base offset size signed after) (load_result signed size (loaded_number m.mem e.input (access_address m base offset after) size)) (reg m)) (wrapping_sum m.pc n) m.ie m.mem
    unfolding after_instruction words_after
    does-load dst signed lt =
        let w = load_result signed size (loaded_number m.mem e.input (access_address m base offset after) size) in
        rw quiet (went_set (words_with_increased_base (reg m) base offset after) _ (with_base_incremented m base offset after) dst w lt refl (registers_base m k base offset after is_arg))

    pub does-store : (src input : ℕ)
        → Went m (after_instruction m e (Store src base offset size after) n) (words_after (Store src base offset size after) input (reg m)) (wrapping_sum m.pc n) m.ie (with_bytes m.mem (access_address m base offset after) (reg m src) size)
    unfolding after_instruction words_after
    does-store src input =
        let mem = with_bytes m.mem (access_address m base offset after) (reg m src) size in
        rw quiet
        (went_by m (with_base_incremented m base offset after) (words_with_increased_base (reg m) base offset after) _ (wrapping_sum m.pc n) m.ie mem (λ x. with_pc_advanced n (record x { mem = mem })) (λ d a. refl) refl (registers_base m k base offset after is_arg))

  pub does-branch : (test : Cond) (x : ℕ) (y : Arg) (by : ℕ) (lowers : Bool) → x < 32
      → Went m (after_instruction m e (Branch test x y by lowers) n) (words_after (Branch test x y by lowers) 0 (reg m)) (cond (taken_of test (reg m x) (operand_word (reg m) y)) (wrapping_sum m.pc by) (wrapping_sum m.pc n)) m.ie m.mem
  unfolding after_instruction words_after
  does-branch test x y by lowers lt =
      subst (λ u. Went m (record (with_register_decremented m x lowers) { pc = cond (taken_of test (reg m x) (operand_value m y)) (wrapping_sum m.pc by) (wrapping_sum m.pc n) }) (words_after (Branch test x y by lowers) 0 (reg m)) (cond (taken_of test (reg m x) u) (wrapping_sum m.pc by) (wrapping_sum m.pc n)) m.ie m.mem)
      (arg-is m y)
      (let pc = cond (taken_of test (reg m x) (operand_value m y)) (wrapping_sum m.pc by) (wrapping_sum m.pc n) in
      went_by m (with_register_decremented m x lowers) _ _ pc m.ie m.mem (λ z. record z { pc = pc }) (λ d a. refl) refl (registers_lowered m k x lowers lt))
