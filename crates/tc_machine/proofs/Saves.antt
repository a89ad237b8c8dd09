-- Saves and restores that succeed.
use Rattle.std.proofs.Common.{◌≡◌, ◌≢◌, ℕ, ◌^◌, ◌<◌, Bool, true, false, cond, length, refl, ap, ◌∙◌, arith, ◌==◌}
use Rattle.std.proofs.lemmas.Bool.{ne_eqb}
use Rattle.csa_chain.specs.Chain.{link_in, is_area_mapped}
use Rattle.tc_machine.specs.declared.events.End.TheVariants.{Running}
use Rattle.tc_machine.specs.declared.events.Cause.TheVariants.{Fcd, Fcu, Csu, Ctyp, NoArea}
use Rattle.tc_machine.specs.declared.state.Machine.{Machine}
use Rattle.tc_machine.specs.Machine.{dead_machine, if_end_running, if_running}
use Rattle.tc_machine.specs.Instructions.{wrapping_sum}
use Rattle.tc_machine.specs.SavesAndRestores.{context_of, with_context_saved, save, is_last_context_of_kind, with_context_restored, restore}

-- a save succeeds if the first free area is mapped and isn't the limit of the list
pub save-is : (m : Machine) (upper : Bool) → link_in m.fcx ≢ 0 → is_area_mapped m.mem (link_in m.fcx) ≡ true → link_in m.fcx ≢ link_in m.lcx → save m upper ≡ with_context_saved m upper
unfolding save
save-is m upper some here last =
    ap (λ t. cond t (dead_machine Fcu m) (cond (is_area_mapped m.mem (link_in m.fcx)) (cond (link_in m.fcx == link_in m.lcx) (dead_machine Fcd (with_context_saved m upper)) (with_context_saved m upper)) (dead_machine NoArea m))) (ne_eqb _ _ some)
    ∙ ap (λ t. cond t (cond (link_in m.fcx == link_in m.lcx) (dead_machine Fcd (with_context_saved m upper)) (with_context_saved m upper)) (dead_machine NoArea m)) here
    ∙ ap (λ t. cond t (dead_machine Fcd (with_context_saved m upper)) (with_context_saved m upper)) (ne_eqb _ _ last)

-- a restore succeeds if PCXI names a mapped area with a context of its kind
pub restore-is : (m : Machine) (upper : Bool) → link_in m.pcxi ≢ 0 → is_last_context_of_kind m upper ≡ true → is_area_mapped m.mem (link_in m.pcxi) ≡ true → restore m upper ≡ with_context_restored m upper
unfolding restore
restore-is m upper some kind here =
    ap (λ t. cond t (dead_machine Csu m) (cond (is_last_context_of_kind m upper) (cond (is_area_mapped m.mem (link_in m.pcxi)) (with_context_restored m upper) (dead_machine NoArea m)) (dead_machine Ctyp m))) (ne_eqb _ _ some)
    ∙ ap (λ t. cond t (cond (is_area_mapped m.mem (link_in m.pcxi)) (with_context_restored m upper) (dead_machine NoArea m)) (dead_machine Ctyp m)) kind
    ∙ ap (λ t. cond t (with_context_restored m upper) (dead_machine NoArea m)) here

pub then_-running : (m : Machine) (next : Machine → Machine) → m.end ≡ Running → if_running m next ≡ next m
then_-running m next e = ap (λ end. if_end_running end m next) e

-- a context has 16 words
pub length-context_of : (m : Machine) (upper : Bool) → length (context_of m upper) ≡ 16
length-context_of m true = refl
length-context_of m false = refl

pub moved-lt : (at by : ℕ) → wrapping_sum at by < 2 ^ 32
moved-lt at by = omega arith
