-- Which events leave the areas in use as they are.
use Rattle.std.proofs.Common.{◌≡◌, ◌-◌, ◌≤◌, ℕ, suc, ◌%◌, ◌==◌, ◌&&◌, Bool, true, false, cond, set, Ok, Err, refl, sym, ap, ◌∙◌, arith, nat_lt}
use Rattle.std.specs.Bool.{OnTrue}
use Rattle.std.proofs.lemmas.Bool.{lt-leb}
use Rattle.std.specs.Prelude.{not, length}
use Rattle.std.specs.Option.{option_map}
use Rattle.csa_chain.specs.MemoryBytes.{Memory}
use Rattle.csa_chain.specs.Chain.{chain}
use Rattle.tc_isa.specs.declared.shapes.Arg.{Arg}
use Rattle.tc_isa.specs.declared.shapes.Arg.TheVariants.{Reg, Word}
use Rattle.tc_isa.specs.declared.shapes.Shape.{Shape}
use Rattle.tc_isa.specs.declared.shapes.Shape.TheVariants.{Compute, Scaled, Load, Branch, Jump, Enable, Disable, Mfcr, Nothing}
use Rattle.tc_encode.specs.Decoding.{decoded_of}
use Rattle.tc_machine.specs.declared.events.Cause.TheVariants.{NoCode}
use Rattle.tc_machine.specs.declared.events.Event.{Event}
use Rattle.tc_machine.specs.declared.events.End.{End}
use Rattle.tc_machine.specs.declared.events.End.TheVariants.{Running, Dead}
use Rattle.tc_machine.specs.declared.state.Machine.{Machine}
use Rattle.tc_machine.specs.Machine.{with_reg, if_running, if_end_running, psw_with_status}
use Rattle.tc_machine.specs.Instructions.{after_instruction, with_base_incremented, with_register_decremented, access_address}
use Rattle.tc_machine.specs.Fetching.{fetched_instruction, mapped_bytes, fetched_shape}
use Rattle.tc_machine.specs.Stepping.{is_interrupt_taken, after_fetch_result, machine_after_event, step, used_area_count}
use Rattle.tc_machine.specs.InstructionKinds.{is_area_preserving_shape}

-- two states with equal memory and PCXI
pub record Same (m n : Machine) : Type 0 where
  pub mem : n.mem ≡ m.mem
  pub pcxi : n.pcxi ≡ m.pcxi

itself : (m : Machine) → Same m m
itself m = record { mem = refl; pcxi = refl }

through : (m n k : Machine) → Same m n → Same n k → Same m k
through m n k a b = record { mem = b.mem ∙ a.mem; pcxi = b.pcxi ∙ a.pcxi }

-- they have as many areas in use
pub same_used : (m n : Machine) → Same m n → used_area_count n ≡ used_area_count m
same_used m n s = ap (λ (mem : Memory). option_map length (chain mem n.pcxi)) s.mem ∙ ap (λ (w : ℕ). option_map length (chain m.mem w)) s.pcxi

of_cond : (m a b : Machine) (t : Bool) → Same m a → Same m b → Same m (cond t a b)
of_cond m a b true x y = x
of_cond m a b false x y = y

same_reg : (m : Machine) (r w : ℕ) → Same m (with_reg m r w)
same_reg m r w = of_cond m (record m { d = set m.d r w }) (record m { a = set m.a (r - 16) w }) (nat_lt r 16) (record { mem = refl; pcxi = refl }) (record { mem = refl; pcxi = refl })

same_pc : (m n : Machine) (pc : ℕ) → Same m n → Same m (record n { pc = pc })
same_pc m n pc s = record { mem = s.mem; pcxi = s.pcxi }

same_base : (m : Machine) (base : Arg) (offset : ℕ) (after : Bool) → Same m (with_base_incremented m base offset after)
same_base m (Reg r) offset true = same_reg m r _
same_base m (Reg r) offset false = itself m
same_base m (Word w) offset after = itself m

same_lowered : (m : Machine) (x : ℕ) (lowers : Bool) → Same m (with_register_decremented m x lowers)
same_lowered m x true = same_reg m x _
same_lowered m x false = itself m

no_trap : (a b : Bool) → not a ≡ true → (a && b) ≡ false
no_trap true b h = cc
no_trap false b h = refl

-- what such an instruction does
pub same_does : (e : Event) (s : Shape) → is_area_preserving_shape e s ≡ true → (m : Machine) (n : ℕ) → Same m (after_instruction m e s n)
unfolding after_instruction
same_does e (Compute op dst x y) k m n = same_pc m _ _ (same_reg m dst _)
same_does e (Scaled dst base index i) k m n = same_pc m _ _ (same_reg m dst _)
same_does e (Load dst base offset size signed after) k m n =
    rw (no_trap e.aln (not (access_address m base offset after % size == 0)) k) (same_pc m _ _ (through m _ _ (same_base m base offset after) (same_reg _ dst _)))
same_does e (Branch cond x y by lowers) k m n = same_pc m _ _ (same_lowered m x lowers)
same_does e (Jump to) k m n = record { mem = refl; pcxi = refl }
same_does e (Mfcr dst number) k m n = same_pc m _ _ (same_reg m dst _)
same_does e Enable k m n = record { mem = refl; pcxi = refl }
same_does e Disable k m n = record { mem = refl; pcxi = refl }
same_does e Nothing k m n = record { mem = refl; pcxi = refl }
same_does e _ k m n = cc

-- ---- an event that does it
same_executed : (m : Machine) (e : Event) (shape : Shape) (n : ℕ) (even : Bool) → is_area_preserving_shape e shape ≡ true → Same m (after_fetch_result m e (cond even (Ok (shape, n)) (Err NoCode)))
same_executed m e shape n true k = same_does e shape k m n
same_executed m e shape n false k = record { mem = refl; pcxi = refl }

same_done : (m : Machine) (e : Event) (shape : Shape) (n : ℕ) → is_interrupt_taken m e ≡ false → Ok (shape, n) ≡ fetched_shape (decoded_of (mapped_bytes 4 m.mem m.pc)) → is_area_preserving_shape e shape ≡ true → Same m (machine_after_event m e)
unfolding fetched_instruction
same_done m e shape n free at k =
    rw (free, ← at) (same_executed m e shape n (m.pc % 2 == 0) k)

status_set : (n : Machine) (e : Event) (end : End) → Same n (if_end_running end n (λ n. record n { psw = psw_with_status n.psw e.status }))
status_set n e Running = record { mem = refl; pcxi = refl }
status_set n e (Dead cause) = itself n

same_then : (m : Machine) (end : End) (next : Machine → Machine) → Same m (next m) → Same m (if_end_running end m next)
same_then m Running next s = s
same_then m (Dead cause) next s = itself m

pub kept_areas : (m : Machine) (e : Event) (shape : Shape) (n : ℕ) → is_interrupt_taken m e ≡ false → Ok (shape, n) ≡ fetched_shape (decoded_of (mapped_bytes 4 m.mem m.pc)) → is_area_preserving_shape e shape ≡ true → used_area_count (step m e) ≡ used_area_count m
unfolding step
kept_areas m e shape n free at k =
    same_used m _ (same_then m m.end (λ m. if_running (machine_after_event m e) (λ n. record n { psw = psw_with_status n.psw e.status })) (through m (machine_after_event m e) _ (same_done m e shape n free at k) (status_set (machine_after_event m e) e (machine_after_event m e).end)))

-- no interrupt is taken if interrupts are disabled, or its priority isn't above the current one
pub none_when_off : (m : Machine) (e : Event) → m.ie ≡ false → is_interrupt_taken m e ≡ false
none_when_off m e off = ap (λ (t : Bool). t && nat_lt m.ccpn e.irq) off

and_false : (b : Bool) → (b && false) ≡ false
and_false true = refl
and_false false = refl

pub none_when_low : (m : Machine) (e : Event) → e.irq ≤ m.ccpn → is_interrupt_taken m e ≡ false
none_when_low m e low = ap (λ (t : Bool). m.ie && t) (lt-leb (suc m.ccpn) e.irq (omega arith)) ∙ and_false m.ie

pub kept_where : (m : Machine) (e : Event) (shape : Shape) (n : ℕ) (t : Bool) → is_interrupt_taken m e ≡ false → Ok (shape, n) ≡ fetched_shape (decoded_of (mapped_bytes 4 m.mem m.pc)) → t ≡ is_area_preserving_shape e shape → OnTrue t (used_area_count (step m e) ≡ used_area_count m)
kept_where m e shape n true free at is = kept_areas m e shape n free at (sym is)
kept_where m e shape n false free at is = tt
