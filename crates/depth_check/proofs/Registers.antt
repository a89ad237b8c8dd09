-- Registers one after another, and which of them saves and restores keep.
use Rattle.std.proofs.Common.{◌≡◌, ◌≢◌, ℕ, zero, suc, ◌+◌, ◌-◌, ◌^◌, ◌<◌, ◌≤◌, true, false, List, get_or, inl, inr, refl, sym, ap, ◌∙◌, subst, arith, set}
use Rattle.std.proofs.lemmas.Bool.{cond_both, cases_lt, le-ltb, lt-ltb, le-leb, lt-leb}
use Rattle.std.proofs.lemmas.List.{get_or-set_other}
use Rattle.std.specs.Prelude.{nat_lt}
use Rattle.csa_chain.specs.ContextWords.{d_after_upper_restore, a_after_upper_restore, d_after_lower_restore, a_after_lower_restore}
use Rattle.csa_chain.proofs.ContextLaws.{reg_of, upper_regs, lower_regs, global_regs, below_14, below_16, upper_leaves_lower, lower_leaves_upper}
use Rattle.tc_machine.specs.Machine.{AreRegisters}
use Rattle.tc_machine.proofs.Words.{register_lt}
use Rattle.vd_transfer.specs.Registers.{is_lower_register}
use Rattle.depth_check.proofs.Frames.{LowerSame, UpperSame}

pub lower_is_lower : (j : ℕ) → j < 14 → is_lower_register (get_or lower_regs j 0) ≡ true
lower_is_lower = below_14 (λ j. is_lower_register (get_or lower_regs j 0) ≡ true) refl refl refl refl refl refl refl refl refl refl refl refl refl refl

-- true isn't false
no : {A : Type 0} → true ≡ false → A
no e = absurd (let f : true ≡ false = e in cc)

no' : {A : Type 0} → false ≡ true → A
no' e = absurd (let f : false ≡ true = e in cc)

high_not_lower : (r : ℕ) → 24 ≤ r → is_lower_register r ≡ false
high_not_lower r h = rw (le-ltb r 8 (omega arith), le-leb 18 r (omega arith), lt-leb r 23 (omega arith)) refl

-- a fact of each lower register
pub each_lower : (P : ℕ → Type 0) → ((j : ℕ) → j < 14 → P (get_or lower_regs j 0)) → (r : ℕ) → is_lower_register r ≡ true → P r
each_lower P at r low =
    elim (cases_lt r 16) [
      | inl first ↦
          below_16 (λ r. is_lower_register r ≡ true → P r) (λ e. at 2 (omega arith)) (λ e. at 3 (omega arith)) (λ e. at 4 (omega arith)) (λ e. at 5 (omega arith)) (λ e. at 10 (omega arith)) (λ e. at 11 (omega arith))
          (λ e. at 12 (omega arith)) (λ e. at 13 (omega arith)) no' no' no' no' no' no' no' no' r first low
      | inr past ↦ elim (cases_lt r 32) [
        | inl second ↦
            let same : 16 + (r - 16) ≡ r = omega arith in
            subst P same
            (below_16 (λ k. is_lower_register (16 + k) ≡ true → P (16 + k)) no' no' (λ e. at 0 (omega arith)) (λ e. at 1 (omega arith)) (λ e. at 6 (omega arith)) (λ e. at 7 (omega arith)) (λ e. at 8 (omega arith)) (λ e. at 9 (omega arith))
            no' no' no' no' no' no' no' no' (r - 16) (omega arith) (ap is_lower_register same ∙ low))
        | inr far ↦ no (sym low ∙ high_not_lower r (omega arith))
      ]
    ]

-- a fact of each other register except A11
pub each_upper : (P : ℕ → Type 0) → ((j : ℕ) → j < 14 → j ≢ 1 → P (get_or upper_regs j 0)) → ((j : ℕ) → j < 4 → P (get_or global_regs j 0)) → (r : ℕ) → r < 32 → is_lower_register r ≡ false → r ≢ 27 → P r
each_upper P at global r small high other =
    elim (cases_lt r 16) [
      | inl first ↦
          below_16 (λ r. is_lower_register r ≡ false → P r) no no no no no no no no (λ e. at 2 (omega arith) (omega arith)) (λ e. at 3 (omega arith) (omega arith)) (λ e. at 4 (omega arith) (omega arith)) (λ e. at 5 (omega arith) (omega arith))
          (λ e. at 10 (omega arith) (omega arith)) (λ e. at 11 (omega arith) (omega arith)) (λ e. at 12 (omega arith) (omega arith)) (λ e. at 13 (omega arith) (omega arith)) r first high
      | inr past ↦
          let same : 16 + (r - 16) ≡ r = omega arith in
          subst P same
          (below_16 (λ k. is_lower_register (16 + k) ≡ false → 16 + k ≢ 27 → P (16 + k)) (λ e n. global 0 (omega arith)) (λ e n. global 1 (omega arith)) (λ e n. no e) (λ e n. no e) (λ e n. no e) (λ e n. no e) (λ e n. no e) (λ e n. no e)
          (λ e n. global 2 (omega arith)) (λ e n. global 3 (omega arith)) (λ e n. at 0 (omega arith) (omega arith)) (λ e n. absurd (n refl)) (λ e n. at 6 (omega arith) (omega arith)) (λ e n. at 7 (omega arith) (omega arith))
          (λ e n. at 8 (omega arith) (omega arith)) (λ e n. at 9 (omega arith) (omega arith)) (r - 16) (omega arith) (ap is_lower_register same ∙ high) (λ e. other (sym same ∙ e)))
    ]

module _ (words d a : List ℕ) where
  -- globals stay when an upper context is restored, and when a lower one is
  pub upper_leaves_globals : (j : ℕ) → j < 4 → reg_of (d_after_upper_restore words d) (a_after_upper_restore words a) (get_or global_regs j 0) ≡ reg_of d a (get_or global_regs j 0)
  upper_leaves_globals zero lt = refl
  upper_leaves_globals (suc zero) lt = refl
  upper_leaves_globals (suc (suc zero)) lt = refl
  upper_leaves_globals (suc (suc (suc zero))) lt = refl
  upper_leaves_globals (suc (suc (suc (suc j)))) lt = absurd (omega arith)

  pub lower_leaves_globals : (j : ℕ) → j < 4 → reg_of (d_after_lower_restore words d) (a_after_lower_restore words a) (get_or global_regs j 0) ≡ reg_of d a (get_or global_regs j 0)
  lower_leaves_globals zero lt = refl
  lower_leaves_globals (suc zero) lt = refl
  lower_leaves_globals (suc (suc zero)) lt = refl
  lower_leaves_globals (suc (suc (suc zero))) lt = refl
  lower_leaves_globals (suc (suc (suc (suc j)))) lt = absurd (omega arith)

  -- when an upper context is restored, the lower registers stay
  pub upper-LowerSame : LowerSame (reg_of d a) (reg_of (d_after_upper_restore words d) (a_after_upper_restore words a))
  upper-LowerSame = each_lower (λ r. reg_of (d_after_upper_restore words d) (a_after_upper_restore words a) r ≡ reg_of d a r) (upper_leaves_lower words d a)

  -- when a lower context is restored, all others except A11 stay
  pub lower-UpperSame : UpperSame (reg_of d a) (reg_of (d_after_lower_restore words d) (a_after_lower_restore words a))
  lower-UpperSame = each_upper (λ r. reg_of (d_after_lower_restore words d) (a_after_lower_restore words a) r ≡ reg_of d a r) (lower_leaves_upper words d a) lower_leaves_globals

-- ---- registers that an entry sets
module _ (d a : List ℕ) where
  -- A11
  pub set_a11 : (back : ℕ) (r : ℕ) → r ≢ 27 → reg_of d (set a 11 back) r ≡ reg_of d a r
  set_a11 back r other =
      elim (cases_lt r 16) [
        | inl first ↦ rw (lt-ltb r 16 first) refl
        | inr past ↦ rw (le-ltb r 16 past) (get_or-set_other a 11 (r - 16) back 0 (λ e. other (let f : r - 16 ≡ 11 = e in omega arith)))
      ]

  -- A10
  pub set_a10 : (sp : ℕ) (r : ℕ) → r ≢ 26 → reg_of d (set a 10 sp) r ≡ reg_of d a r
  set_a10 sp r other =
      elim (cases_lt r 16) [
        | inl first ↦ rw (lt-ltb r 16 first) refl
        | inr past ↦ rw (le-ltb r 16 past) (get_or-set_other a 10 (r - 16) sp 0 (λ e. other (let f : r - 16 ≡ 10 = e in omega arith)))
      ]

  -- D15
  pub set_d15 : (w : ℕ) (r : ℕ) → r ≢ 15 → reg_of (set d 15 w) a r ≡ reg_of d a r
  set_d15 w r other =
      elim (cases_lt r 16) [
        | inl first ↦ rw (lt-ltb r 16 first) (get_or-set_other d 15 r w 0 (λ e. other e))
        | inr past ↦ rw (le-ltb r 16 past) refl
      ]

-- registers are words
pub reg_of_lt : (d a : List ℕ) → AreRegisters d → AreRegisters a → (r : ℕ) → reg_of d a r < 2 ^ 32
reg_of_lt d a ds ars r = cond_both (nat_lt r 16) (get_or d r 0) (get_or a (r - 16) 0) (λ w. w < 2 ^ 32) (λ _. register_lt d ds r) (λ _. register_lt a ars (r - 16))
