-- The accesses of the routine: words of the block, and what the view does instead.
use Rattle.std.proofs.Common.{◌≡◌, ◌≢◌, ℕ, ◌+◌, ◌*◌, ◌/◌, ◌%◌, ◌^◌, ◌<◌, ◌≤◌, inl, inr, true, false, cond, Option, Some, None, refl, ap, ◌∙◌, subst, arith}
use Rattle.std.proofs.lemmas.Bool.{false≢true, cases_order}
use Rattle.std.specs.Prelude.{is_some, unwrap_or}
use Rattle.std.specs.FinMap as map
use Rattle.csa_chain.specs.MemoryBytes.{Memory, is_mapped, word_at, with_byte, with_word, loaded_number, with_bytes}
use Rattle.csa_chain.proofs.MemoryLaws.{word_at-with_word_same, word_at-with_word_other}
use Rattle.tc_isa.specs.declared.shapes.Arg.TheVariants.{Reg}
use Rattle.tc_isa.specs.declared.shapes.Shape.TheVariants.{Load, Store, Mfcr, Nothing}
use Rattle.tc_machine.specs.declared.events.Event.{Event}
use Rattle.tc_machine.specs.declared.state.Machine.{Machine}
use Rattle.tc_machine.specs.Machine.{reg, with_reg, core_register}
use Rattle.tc_machine.specs.Instructions.{wrapping_sum, with_pc_advanced, is_trapping_access, misaligned_access_trap, after_instruction}
use Rattle.task_chains.specs.Tasks.{TasksData, count, block_size}
use Rattle.task_chains.specs.TaskStarts.{block_word}
use Rattle.task_chains.proofs.Alike.{seen_as}
use Rattle.task_chains.proofs.Plain.{Plainly, set_one}

-- ---- words in memory
mapped_byte : (o : Option ℕ) (d : ℕ) → is_some o ≡ true → unwrap_or o d ≡ unwrap_or o 0
mapped_byte (Some b) d h = refl
mapped_byte None d h = absurd (false≢true h)

-- a load gives the word whose bytes are mapped
pub loaded_word_at : (m : Memory) (input x : ℕ) → x + 4 ≤ 2 ^ 32 → ((i : ℕ) → i < 4 → is_mapped m (x + i) ≡ true) → loaded_number m input x 4 ≡ word_at m x
unfolding loaded_number word_at
loaded_word_at m input x fits here =
    let n1 : (x + 1) % 2 ^ 32 ≡ x + 1 = omega arith in
    let n2 : ((x + 1) % 2 ^ 32 + 1) % 2 ^ 32 ≡ x + 2 = omega arith in
    let n3 : (((x + 1) % 2 ^ 32 + 1) % 2 ^ 32 + 1) % 2 ^ 32 ≡ x + 3 = omega arith in
    let h0 : is_mapped m x ≡ true = subst (λ y. is_mapped m y ≡ true) (let e : x + 0 ≡ x = omega arith in e) (here 0 (omega arith)) in
    let b1 : unwrap_or (map.get m ((x + 1) % 2 ^ 32)) (input / 2 ^ 8 % 2 ^ 8) ≡ unwrap_or (map.get m (x + 1)) 0 = ap (λ y. unwrap_or (map.get m y) (input / 2 ^ 8 % 2 ^ 8)) n1 ∙ mapped_byte (map.get m (x + 1)) (input / 2 ^ 8 % 2 ^ 8) (here 1 (omega arith)) in
    let b2 : unwrap_or (map.get m (((x + 1) % 2 ^ 32 + 1) % 2 ^ 32)) (input / 2 ^ 8 / 2 ^ 8 % 2 ^ 8) ≡ unwrap_or (map.get m (x + 2)) 0 =
    ap (λ y. unwrap_or (map.get m y) (input / 2 ^ 8 / 2 ^ 8 % 2 ^ 8)) n2 ∙ mapped_byte (map.get m (x + 2)) (input / 2 ^ 8 / 2 ^ 8 % 2 ^ 8) (here 2 (omega arith))
    in
    let b3 : unwrap_or (map.get m ((((x + 1) % 2 ^ 32 + 1) % 2 ^ 32 + 1) % 2 ^ 32)) (input / 2 ^ 8 / 2 ^ 8 / 2 ^ 8 % 2 ^ 8) ≡ unwrap_or (map.get m (x + 3)) 0 =
    ap (λ y. unwrap_or (map.get m y) (input / 2 ^ 8 / 2 ^ 8 / 2 ^ 8 % 2 ^ 8)) n3 ∙ mapped_byte (map.get m (x + 3)) (input / 2 ^ 8 / 2 ^ 8 / 2 ^ 8 % 2 ^ 8) (here 3 (omega arith))
    in
    (λ i. (mapped_byte (map.get m x) (input % 2 ^ 8) h0) i + 2 ^ 8 * (b1 i + 2 ^ 8 * (b2 i + 2 ^ 8 * (b3 i + 2 ^ 8 * 0))))
    ∙ shape (unwrap_or (map.get m x) 0) (unwrap_or (map.get m (x + 1)) 0) (unwrap_or (map.get m (x + 2)) 0) (unwrap_or (map.get m (x + 3)) 0)
  where
    shape : (a b c d : ℕ) → a + 2 ^ 8 * (b + 2 ^ 8 * (c + 2 ^ 8 * (d + 2 ^ 8 * 0))) ≡ a + 2 ^ 8 * b + 2 ^ 16 * c + 2 ^ 24 * d
    shape a b c d = omega arith

-- a store of four bytes that doesn't wrap at 2^32 is that of a word
pub stored_word_at : (m : Memory) (x w : ℕ) → x + 4 ≤ 2 ^ 32 → with_bytes m x w 4 ≡ with_word m x w
unfolding with_bytes with_word
stored_word_at m x w fits =
    let n1 : (x + 1) % 2 ^ 32 ≡ x + 1 = omega arith in
    let n2 : ((x + 1) % 2 ^ 32 + 1) % 2 ^ 32 ≡ x + 2 = omega arith in
    let n3 : (((x + 1) % 2 ^ 32 + 1) % 2 ^ 32 + 1) % 2 ^ 32 ≡ x + 3 = omega arith in
    let d2 : w / 2 ^ 8 / 2 ^ 8 % 2 ^ 8 ≡ w / 2 ^ 16 % 2 ^ 8 = omega arith in
    let d3 : w / 2 ^ 8 / 2 ^ 8 / 2 ^ 8 % 2 ^ 8 ≡ w / 2 ^ 24 % 2 ^ 8 = omega arith in
    (λ i. with_byte (with_byte (with_byte (with_byte m x (w % 2 ^ 8)) (n1 i) (w / 2 ^ 8 % 2 ^ 8)) (n2 i) (d2 i)) (n3 i) (d3 i))

-- ---- the block
module _ (tasks : TasksData) (mem : Memory) (fits : tasks.block + block_size tasks ≤ 2 ^ 32) (here : (i : ℕ) → i < block_size tasks → is_mapped mem (tasks.block + i) ≡ true) where
  word_here : (u : ℕ) → u ≤ count tasks → (i : ℕ) → i < 4 → is_mapped mem (tasks.block + 4 * u + i) ≡ true
  word_here u le i lt = subst (λ y. is_mapped mem y ≡ true) (let e : tasks.block + (4 * u + i) ≡ tasks.block + 4 * u + i = omega arith in e) (here (4 * u + i) (omega arith))

  -- a word of the block is read
  pub block_read : (input u : ℕ) → u ≤ count tasks → loaded_number mem input (tasks.block + 4 * u) 4 ≡ block_word tasks mem u
  block_read input u le = loaded_word_at mem input (tasks.block + 4 * u) (omega arith) (word_here u le)

  -- a word of the block is written: it is there, and the others are unchanged
  pub block_written : (u w : ℕ) → u ≤ count tasks → w < 2 ^ 32 → block_word tasks (with_bytes mem (tasks.block + 4 * u) w 4) u ≡ w
  block_written u w le lt =
      let h0 : is_mapped mem (tasks.block + 4 * u) ≡ true = subst (λ y. is_mapped mem y ≡ true) (let e : tasks.block + 4 * u + 0 ≡ tasks.block + 4 * u = omega arith in e) (word_here u le 0 (omega arith)) in
      ap (λ (m : Memory). word_at m (tasks.block + 4 * u)) (stored_word_at mem (tasks.block + 4 * u) w (omega arith))
      ∙ word_at-with_word_same mem (tasks.block + 4 * u) w h0 (word_here u le 1 (omega arith)) (word_here u le 2 (omega arith)) (word_here u le 3 (omega arith))
      ∙ (let e : w % 2 ^ 32 ≡ w = omega arith in e)

  pub block_kept : (u w j : ℕ) → u ≤ count tasks → j ≢ u → block_word tasks (with_bytes mem (tasks.block + 4 * u) w 4) j ≡ block_word tasks mem j
  block_kept u w j le apart =
      ap (λ (m : Memory). word_at m (tasks.block + 4 * j)) (stored_word_at mem (tasks.block + 4 * u) w (omega arith))
      ∙ word_at-with_word_other mem (tasks.block + 4 * u) w (tasks.block + 4 * j)
      (elim (cases_order j u) [
        | inl same ↦ absurd (apart same)
        | inr (inl below) ↦ inl (omega arith)
        | inr (inr above) ↦ inr (omega arith)
      ])

-- ---- instructions of which the view has others
module _ (m : Machine) (view : Memory) (pcxi fcx : ℕ) (e e2 : Event) where
  abbrev v : Machine
  v = seen_as m view pcxi fcx

  -- the machine loads a word; the view reads a core register that is an input
  pub plain-taken : (dst r offset number k : ℕ) → is_trapping_access e (wrapping_sum (reg m r) offset) 4 ≡ false → core_register v e2 number ≡ loaded_number m.mem e.input (wrapping_sum (reg m r) offset) 4
      → Plainly m v (after_instruction m e (Load dst (Reg r) offset 4 false false) k) (after_instruction v e2 (Mfcr dst number) k) m.mem view
  unfolding after_instruction
  plain-taken dst r offset number k none same =
      let p = set_one m view pcxi fcx e e2 k dst (loaded_number m.mem e.input (wrapping_sum (reg m r) offset) 4) (core_register v e2 number) same in
      record {
        d = p.d;
        a = p.a;
        pc = p.pc;
        ie = p.ie;
        is = ap (λ t. cond t (misaligned_access_trap m) (with_pc_advanced k (with_reg m dst (loaded_number m.mem e.input (wrapping_sum (reg m r) offset) 4)))) none ∙ p.is;
        view_is = p.view_is;
      }

  -- the machine reads PCXI; the view reads a core register that is an input
  pub plain-pcxi : (dst number k : ℕ) → core_register v e2 number ≡ m.pcxi → Plainly m v (after_instruction m e (Mfcr dst 0xfe00) k) (after_instruction v e2 (Mfcr dst number) k) m.mem view
  unfolding after_instruction
  plain-pcxi dst number k same = set_one m view pcxi fcx e e2 k dst m.pcxi (core_register v e2 number) same

  -- the machine stores a word; the view does nothing
  pub plain-put : (src r offset k : ℕ) → is_trapping_access e (wrapping_sum (reg m r) offset) 4 ≡ false
      → Plainly m v (after_instruction m e (Store src (Reg r) offset 4 false) k) (after_instruction v e2 Nothing k) (with_bytes m.mem (wrapping_sum (reg m r) offset) (reg m src) 4) view
  unfolding after_instruction
  plain-put src r offset k none = record {
    d = m.d;
    a = m.a;
    pc = wrapping_sum m.pc k;
    ie = m.ie;
    is = ap (λ t. cond t (misaligned_access_trap m) (with_pc_advanced k (record m { mem = with_bytes m.mem (wrapping_sum (reg m r) offset) (reg m src) 4 }))) none;
    view_is = refl;
  }
