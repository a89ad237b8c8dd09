-- Effects of events on the areas in use, if these are consecutive.
use Rattle.std.proofs.Common.{◌≡◌, ◌≢◌, ℕ, zero, suc, ◌+◌, ◌-◌, ◌%◌, ◌^◌, ◌<◌, ◌≤◌, ◌⊎◌, inl, inr, Bool, true, false, cond, set, List, [], ◌∷◌, length, get_or, Option, Some, Ok, Err, unwrap_or, refl, sym, ap, subst, ◌∙◌, arith, add-one, ◌==◌, nat_lt}
use Rattle.std.specs.Bool.{OnTrue}
use Rattle.std.specs.Option.{option_map}
use Rattle.std.proofs.lemmas.Bool.{cond_both, cond-true, cond-false, eqb-false}
use Rattle.csa_chain.specs.MemoryBytes.{Memory, with_words, with_bytes, loaded_number, load_result}
use Rattle.csa_chain.specs.Chain.{link_in, link_address, is_area_mapped, area_word, chain}
use Rattle.csa_chain.specs.ChainLaws.{MissesAreas}
use Rattle.csa_chain.specs.ContextWords.{pcxi_word_of}
use Rattle.csa_chain.proofs.ChainLaws.{Links, Avoids, chain_within-Links, Links-chain_within, used_after_save, used_after_restore}
use Rattle.csa_chain.proofs.ContextLaws.{link_in-pcxi_word, link_in-lt}
use Rattle.csa_chain.proofs.ChainMoves.{store_misses}
use Rattle.tc_isa.specs.declared.shapes.Arg.{Arg}
use Rattle.tc_isa.specs.declared.shapes.Arg.TheVariants.{Reg, Word}
use Rattle.tc_isa.specs.declared.shapes.Target.{Target}
use Rattle.tc_isa.specs.declared.shapes.Shape.{Shape}
use Rattle.tc_isa.specs.declared.shapes.Shape.TheVariants.{Load, Store, Call, Ret, Rfe, Svlcx, Rslcx, Bisr, Syscall}
use Rattle.tc_encode.specs.Decoding.{decoded_of}
use Rattle.tc_machine.specs.declared.events.Cause.{Cause}
use Rattle.tc_machine.specs.declared.events.Cause.TheVariants.{Fcd, Fcu, Csu, Ctyp, NoArea, NoCode}
use Rattle.tc_machine.specs.declared.events.Event.{Event}
use Rattle.tc_machine.specs.declared.events.End.{End}
use Rattle.tc_machine.specs.declared.events.End.TheVariants.{Running, Dead}
use Rattle.tc_machine.specs.declared.state.Machine.{Machine}
use Rattle.tc_machine.specs.Machine.{reg, with_reg, dead_machine, if_running, if_end_running, psw_with_status}
use Rattle.tc_machine.specs.Instructions.{with_pc_advanced, after_instruction, misaligned_access_trap, with_base_incremented, access_address, is_trapping_access}
use Rattle.tc_machine.specs.Stepping.{is_interrupt_taken, after_fetch_result, machine_after_event, step, used_area_count}
use Rattle.tc_machine.specs.Handlers.{after_interrupt}
use Rattle.tc_machine.specs.SavesAndRestores.{context_of, with_context_saved, save, is_last_context_of_kind, with_context_restored, restore}
use Rattle.tc_machine.specs.Fetching.{fetched_instruction, mapped_bytes, fetched_shape}
use Rattle.tc_machine.specs.InstructionKinds.{is_area_preserving_shape}
use Rattle.tc_machine.proofs.Kept.{Same, same_does}
use Rattle.tc_machine.proofs.Saves.{then_-running, length-context_of}
use Rattle.tc_script.specs.declared.area_counts.AreasUsed.{AreasUsed}
use Rattle.tc_script.specs.declared.area_counts.Effect.{Effect}
use Rattle.tc_script.specs.declared.area_counts.Effect.TheVariants.{Stays, Saves, Restores, Unknown}
use Rattle.tc_script.specs.AreasInSequence.{links_in_sequence, AreAreasInSequence, CountsAreasInUse, SavesContext, RestoresContext, StoresBytes, KeepsMemoryAndPcxi, AreaEffectHolds, IsAreaEffectOf}

-- ---- rows
row_length : (first n : ℕ) → length (links_in_sequence first n) ≡ n
row_length first zero = refl
row_length first (suc n) = omega (arith, row_length first n)

pub used_in_row : (m : Machine) (first n : ℕ) → AreAreasInSequence first n m → n ≡ unwrap_or (used_area_count m) 0
used_in_row m first n row = sym (ap (λ (o : Option (List ℕ)). unwrap_or (option_map length o) 0) row ∙ row_length first n)

on_true : {P : Type 0} (b : Bool) → P → OnTrue b P
on_true true p = p
on_true false p = tt

pub from_true : {P : Type 0} (b : Bool) → b ≡ true → OnTrue b P → P
from_true true e p = p
from_true false e p = cc

-- such a row is counted
pub counted_row : (u : AreasUsed) (m : Machine) → u.first < 2 ^ 20 → AreAreasInSequence u.first u.count m → CountsAreasInUse u m
counted_row u m small row = record { count = used_in_row m u.first u.count row; first = small; row = on_true u.in_row row }

-- the row that is counted
pub the_row : (u : AreasUsed) (m : Machine) → CountsAreasInUse u m → u.in_row ≡ true → AreAreasInSequence u.first u.count m
the_row u m h is = from_true u.in_row is h.row

-- no area is in use if PCXI has no link
pub none_used : (m : Machine) → link_in m.pcxi ≡ 0 → chain m.mem m.pcxi ≡ Some []
none_used m e = chain_within-Links m.mem 4096 m.pcxi [] e (omega arith)

pub counted_anew : (m : Machine) (u : AreasUsed) → u.count ≡ unwrap_or (used_area_count m) 0 → u.first ≡ m.fcx % 2 ^ 20 → (u.in_row ≡ true → link_in m.pcxi ≡ 0) → CountsAreasInUse u m
counted_anew m u count first none = record {
  count = count;
  first = (let e = first in omega arith);
  row = elim u.in_row as (λ b. (b ≡ true → link_in m.pcxi ≡ 0) → OnTrue b (AreAreasInSequence u.first u.count m)) [
    | true ↦ λ h.
        let empty = none_used m (h refl) in
        let zero_count : u.count ≡ 0 = count ∙ ap (λ (o : Option (List ℕ)). unwrap_or (option_map length o) 0) empty in
        empty ∙ ap (λ n. Some (links_in_sequence u.first n)) (sym zero_count)
    | false ↦ λ h. tt
  ] none;
}

-- machines with equal memory and PCXI have equal counts
pub counted_same : (u : AreasUsed) (m n : Machine) → Same m n → CountsAreasInUse u m → CountsAreasInUse u n
counted_same u m n s h =
    let e : chain n.mem n.pcxi ≡ chain m.mem m.pcxi = ap (λ (mem : Memory). chain mem n.pcxi) s.mem ∙ ap (λ (w : ℕ). chain m.mem w) s.pcxi in
    record {
      count = h.count ∙ ap (λ (o : Option (List ℕ)). unwrap_or (option_map length o) 0) (sym e);
      first = h.first;
      row = elim u.in_row as (λ b. OnTrue b (AreAreasInSequence u.first u.count m) → OnTrue b (AreAreasInSequence u.first u.count n)) [ true ↦ λ r. e ∙ r | false ↦ λ r. tt ] h.row;
    }

pub told_same : (effect : Effect) (u : AreasUsed) (m n : Machine) → Same m n → AreaEffectHolds effect u m → AreaEffectHolds effect u n
told_same Stays u m n s h = counted_same u m n s h
told_same Unknown u m n s h = tt
told_same _ u m n s h = (h.0, counted_same _ m n s h.1)

pub as_told : (effect other : Effect) (u : AreasUsed) (n : Machine) → effect ≡ other → AreaEffectHolds effect u n → AreaEffectHolds other u n
as_told effect other u n is h = subst (λ x. AreaEffectHolds x u n) is h

-- ---- saves and restores
avoids_row : (first k n : ℕ) → n ≤ k → Avoids (first + k) (links_in_sequence first n)
avoids_row first k zero h = tt
avoids_row first k (suc n) h = ((λ e. omega arith), avoids_row first k n (omega arith))

first_word : (m : Machine) (upper : Bool) → get_or (context_of m upper) 0 0 ≡ m.pcxi
first_word m true = refl
first_word m false = refl

pub told_save : (u : AreasUsed) (m after : Machine) → CountsAreasInUse u m → u.in_row ≡ true → m.pcxi < 2 ^ 32 → u.count < 4096 → m.fcx % 2 ^ 20 ≡ u.first + u.count → SavesContext m after → AreaEffectHolds Saves u after
told_save u m after h is small few next s =
    let f = link_in m.fcx in
    let at : f ≡ u.first + u.count = next in
    let used = links_in_sequence u.first u.count in
    let links = (Links-chain_within m.mem 4096 m.pcxi used (the_row u m h is)).0 in
    let avoids : Avoids f used = subst (λ l. Avoids l used) (sym at) (avoids_row u.first u.count u.count (omega arith)) in
    let word = pcxi_word_of m.core m.ccpn m.ie s.upper f in
    let more : Links (with_context_saved m s.upper).mem word (f ∷ used) =
    used_after_save m.mem m.pcxi f used (context_of m s.upper) word links s.some s.area avoids (length-context_of m s.upper) (first_word m s.upper) small (link_in-pcxi_word m.core m.ccpn m.ie s.upper f (link_in-lt m.fcx))
    in
    let long = row_length u.first u.count in
    let row : chain (with_context_saved m s.upper).mem word ≡ Some (f ∷ used) = chain_within-Links _ 4096 word (f ∷ used) more (omega arith) in
    let there : chain after.mem after.pcxi ≡ Some (f ∷ used) = ap (λ (mem : Memory). chain mem after.pcxi) s.mem ∙ ap (λ (w : ℕ). chain (with_context_saved m s.upper).mem w) s.pcxi ∙ row in
    let whole : AreAreasInSequence u.first (suc u.count) after = there ∙ ap (λ l. Some (l ∷ used)) at in
    (few, counted_row (record u { count = u.count + 1 }) after h.first (subst (λ n. AreAreasInSequence u.first n after) (sym (add-one u.count)) whole))

restored_row : (m after : Machine) (first n : ℕ) (s : RestoresContext m after) → AreAreasInSequence first (suc n) m → AreAreasInSequence first n after
restored_row m after first n s row =
    let used = links_in_sequence first n in
    let both = Links-chain_within m.mem 4096 m.pcxi ((first + n) ∷ used) row in
    let links = both.0 in
    let few : suc (length used) ≤ 4096 = both.1 in
    let l = link_in m.pcxi in
    let at : l ≡ first + n = links.1 in
    let links' : Links m.mem m.pcxi (l ∷ used) = subst (λ x. Links m.mem m.pcxi (x ∷ used)) (sym at) links in
    let avoids : Avoids l used = subst (λ x. Avoids x used) (sym at) (avoids_row first n n (omega arith)) in
    let rest = used_after_restore m.mem m.pcxi l used m.fcx links' avoids in
    let is = chain_within-Links (with_words m.mem (link_address l) (m.fcx ∷ [])) 4096 (area_word m.mem l 0) used rest (omega arith) in
    elim s.upper as (λ b. after.mem ≡ (with_context_restored m b).mem → after.pcxi ≡ (with_context_restored m b).pcxi → AreAreasInSequence first n after) [
      | true ↦ λ mem pcxi. ap (λ (x : Memory). chain x after.pcxi) mem ∙ ap (λ (w : ℕ). chain (with_words m.mem (link_address l) (m.fcx ∷ [])) w) pcxi ∙ is
      | false ↦ λ mem pcxi. ap (λ (x : Memory). chain x after.pcxi) mem ∙ ap (λ (w : ℕ). chain (with_words m.mem (link_address l) (m.fcx ∷ [])) w) pcxi ∙ is
    ] s.mem s.pcxi

less_row : (m after : Machine) (first n : ℕ) → RestoresContext m after → 1 ≤ n → AreAreasInSequence first n m → AreAreasInSequence first (n - 1) after
less_row m after first zero s some row = absurd (omega arith)
less_row m after first (suc n) s some row = let e : n ≡ suc n - 1 = omega arith in subst (λ k. AreAreasInSequence first k after) e (restored_row m after first n s row)

pub told_restore : (u : AreasUsed) (m after : Machine) → CountsAreasInUse u m → u.in_row ≡ true → 1 ≤ u.count → RestoresContext m after → AreaEffectHolds Restores u after
told_restore u m after h is some s = (some, counted_row (record u { count = u.count - 1 }) after h.first (less_row m after u.first u.count s some (the_row u m h is)))

-- ---- stores
address_up : (l k : ℕ) → l ≤ k → link_address l ≤ link_address k
address_up l k h = omega arith

below_row : (x size first n : ℕ) → x + size ≤ link_address first → MissesAreas x size (links_in_sequence first n)
below_row x size first zero h = tt
below_row x size first (suc n) h = let up = address_up first (first + n) (omega arith) in (inl (omega arith), below_row x size first n h)

above_row : (x size first n last : ℕ) → n ≤ last → link_address (first + last) + 64 ≤ x → MissesAreas x size (links_in_sequence first n)
above_row x size first zero last le h = tt
above_row x size first (suc n) last le h = let up = address_up (first + n) (first + last) (omega arith) in (inr (omega arith), above_row x size first n last (omega arith) h)

-- the row ends with the area that PCXI names
last_link : (m : Machine) (first n : ℕ) → AreAreasInSequence first (suc n) m → link_in m.pcxi ≡ first + n
last_link m first n row = (Links-chain_within m.mem 4096 m.pcxi ((first + n) ∷ links_in_sequence first n) row).0.1

misses : (x size first n : ℕ) (m : Machine) → AreAreasInSequence first n m → (n ≡ 0) ⊎ ((x + size ≤ link_address first) ⊎ (link_address (link_in m.pcxi) + 64 ≤ x)) → MissesAreas x size (links_in_sequence first n)
misses x size first zero m row out = tt
misses x size first (suc n) m row (inl none) = absurd (omega arith)
misses x size first (suc n) m row (inr (inl below)) = below_row x size first (suc n) below
misses x size first (suc n) m row (inr (inr above)) =
    let at = last_link m first n row in
    let high = subst (λ l. link_address l + 64 ≤ x) at above in
    (inr high, above_row x size first n n (omega arith) high)

pub told_store : (u : AreasUsed) (m after : Machine) (x size : ℕ) → CountsAreasInUse u m → u.in_row ≡ true → x + size ≤ 2 ^ 32 → (u.count ≡ 0) ⊎ ((x + size ≤ link_address u.first) ⊎ (link_address (link_in m.pcxi) + 64 ≤ x)) → StoresBytes x size m after → AreaEffectHolds Stays u after
told_store u m after x size h is fits out s =
    let row = the_row u m h is in
    let miss = misses x size u.first u.count m row out in
    let same = (store_misses m.mem x s.word size m.pcxi m.pcxi (links_in_sequence u.first u.count) (links_in_sequence u.first u.count) fits row row miss miss).0 in
    counted_row u after h.first (ap (λ (mem : Memory). chain mem after.pcxi) s.mem ∙ ap (λ (w : ℕ). chain (with_bytes m.mem x s.word size) w) s.pcxi ∙ same)

-- ---- instructions
dead_running : {P : Type 0} (cause : Cause) → Dead cause ≡ Running → P
dead_running cause e = cc

-- what follows from a machine that must run
from_running : (m : Machine) (next : Machine → Machine) → (if_running m next).end ≡ Running → (m.end ≡ Running) × (if_running m next ≡ next m)
from_running m next run =
    elim m.end as (λ end. m.end ≡ end → (if_end_running end m next).end ≡ Running → (m.end ≡ Running) × (if_end_running end m next ≡ next m)) [
      | Running ↦ λ is h. (is, refl)
      | Dead cause ↦ λ is h. dead_running cause (sym is ∙ h)
    ] refl run

record DoesSave (m : Machine) (upper : Bool) : Type 0 where
  some : link_in m.fcx ≢ 0
  area : is_area_mapped m.mem (link_in m.fcx) ≡ true
  is : save m upper ≡ with_context_saved m upper

save_running : (m : Machine) (upper : Bool) → (save m upper).end ≡ Running → DoesSave m upper
unfolding save
save_running m upper run =
    let f = link_in m.fcx in
    let full = cond (f == link_in m.lcx) (dead_machine Fcd (with_context_saved m upper)) (with_context_saved m upper) in
    elim (f == 0) as (λ t. f == 0 ≡ t → (cond t (dead_machine Fcu m) (cond (is_area_mapped m.mem f) full (dead_machine NoArea m))).end ≡ Running → DoesSave m upper) [
      | true ↦ λ e h. dead_running Fcu h
      | false ↦ λ e.
          elim (is_area_mapped m.mem f) as (λ t. is_area_mapped m.mem f ≡ t → (cond t full (dead_machine NoArea m)).end ≡ Running → DoesSave m upper) [
            | true ↦ λ here.
                elim (f == link_in m.lcx) as (λ t. f == link_in m.lcx ≡ t → (cond t (dead_machine Fcd (with_context_saved m upper)) (with_context_saved m upper)).end ≡ Running → DoesSave m upper) [
                  | true ↦ λ last h. dead_running Fcd h
                  | false ↦ λ last h. record {
                    some = eqb-false _ _ e;
                    area = here;
                    is =
                        ap (λ t. cond t (dead_machine Fcu m) (cond (is_area_mapped m.mem f) full (dead_machine NoArea m))) e
                        ∙ ap (λ t. cond t full (dead_machine NoArea m)) here
                        ∙ ap (λ t. cond t (dead_machine Fcd (with_context_saved m upper)) (with_context_saved m upper)) last;
                  }
                ] refl
            | false ↦ λ gone h. dead_running NoArea h
          ] refl
    ] refl run

-- a save, and then what keeps the memory and PCXI
saves_then : (m : Machine) (upper : Bool) (next : Machine → Machine) → ((s : Machine) → Same s (next s)) → (if_running (save m upper) next).end ≡ Running → SavesContext m (if_running (save m upper) next)
saves_then m upper next keeps run =
    let both = from_running (save m upper) next run in
    let s = save_running m upper both.0 in
    let same = keeps (save m upper) in
    record {
      upper = upper;
      some = s.some;
      area = s.area;
      mem = ap (λ (n : Machine). n.mem) both.1 ∙ same.mem ∙ ap (λ (n : Machine). n.mem) s.is;
      pcxi = ap (λ (n : Machine). n.pcxi) both.1 ∙ same.pcxi ∙ ap (λ (n : Machine). n.pcxi) s.is;
    }

record DoesRestore (m : Machine) (upper : Bool) : Type 0 where
  some : link_in m.pcxi ≢ 0
  is : restore m upper ≡ with_context_restored m upper

restore_running : (m : Machine) (upper : Bool) → (restore m upper).end ≡ Running → DoesRestore m upper
unfolding restore
restore_running m upper run =
    let l = link_in m.pcxi in
    let there = cond (is_area_mapped m.mem l) (with_context_restored m upper) (dead_machine NoArea m) in
    elim (l == 0) as (λ t. l == 0 ≡ t → (cond t (dead_machine Csu m) (cond (is_last_context_of_kind m upper) there (dead_machine Ctyp m))).end ≡ Running → DoesRestore m upper) [
      | true ↦ λ e h. dead_running Csu h
      | false ↦ λ e.
          elim (is_last_context_of_kind m upper) as (λ t. is_last_context_of_kind m upper ≡ t → (cond t there (dead_machine Ctyp m)).end ≡ Running → DoesRestore m upper) [
            | true ↦ λ kind.
                elim (is_area_mapped m.mem l) as (λ t. is_area_mapped m.mem l ≡ t → (cond t (with_context_restored m upper) (dead_machine NoArea m)).end ≡ Running → DoesRestore m upper) [
                  | true ↦ λ here h. record {
                    some = eqb-false _ _ e;
                    is =
                        ap (λ t. cond t (dead_machine Csu m) (cond (is_last_context_of_kind m upper) there (dead_machine Ctyp m))) e
                        ∙ ap (λ t. cond t there (dead_machine Ctyp m)) kind
                        ∙ ap (λ t. cond t (with_context_restored m upper) (dead_machine NoArea m)) here;
                  }
                  | false ↦ λ gone h. dead_running NoArea h
                ] refl
            | false ↦ λ other h. dead_running Ctyp h
          ] refl
    ] refl run

restores_then : (m : Machine) (upper : Bool) (next : Machine → Machine) → ((s : Machine) → Same s (next s)) → (if_running (restore m upper) next).end ≡ Running → RestoresContext m (if_running (restore m upper) next)
restores_then m upper next keeps run =
    let both = from_running (restore m upper) next run in
    let s = restore_running m upper both.0 in
    let same = keeps (restore m upper) in
    record {
      upper = upper;
      some = s.some;
      mem = ap (λ (n : Machine). n.mem) both.1 ∙ same.mem ∙ ap (λ (n : Machine). n.mem) s.is;
      pcxi = ap (λ (n : Machine). n.pcxi) both.1 ∙ same.pcxi ∙ ap (λ (n : Machine). n.pcxi) s.is;
    }

pub interrupt_saves : (m : Machine) (irq : ℕ) → (after_interrupt m irq).end ≡ Running → SavesContext m (after_interrupt m irq)
interrupt_saves m irq run = saves_then m true _ (λ s. record { mem = refl; pcxi = refl }) run

misaligned_saves : (m : Machine) → (misaligned_access_trap m).end ≡ Running → SavesContext m (misaligned_access_trap m)
misaligned_saves m run = saves_then m true _ (λ s. record { mem = refl; pcxi = refl }) run

module _ (m : Machine) (e : Event) where
  pub load_traps : (dst : ℕ) (base : Arg) (offset size : ℕ) (signed after : Bool) (n : ℕ) → is_trapping_access e (access_address m base offset after) size ≡ true → (after_instruction m e (Load dst base offset size signed after) n).end ≡ Running → SavesContext m (after_instruction m e (Load dst base offset size signed after) n)
  unfolding after_instruction
  load_traps dst base offset size signed after n t run =
      let is : after_instruction m e (Load dst base offset size signed after) n ≡ misaligned_access_trap m = cond-true _ _ _ t in
      subst (SavesContext m) (sym is) (misaligned_saves m (subst (λ (k : Machine). k.end ≡ Running) is run))

  pub store_traps : (src : ℕ) (base : Arg) (offset size : ℕ) (after : Bool) (n : ℕ) → is_trapping_access e (access_address m base offset after) size ≡ true → (after_instruction m e (Store src base offset size after) n).end ≡ Running → SavesContext m (after_instruction m e (Store src base offset size after) n)
  unfolding after_instruction
  store_traps src base offset size after n t run =
      let is : after_instruction m e (Store src base offset size after) n ≡ misaligned_access_trap m = cond-true _ _ _ t in
      subst (SavesContext m) (sym is) (misaligned_saves m (subst (λ (k : Machine). k.end ≡ Running) is run))

  same_reg : (k : Machine) (r w : ℕ) → Same k (with_reg k r w)
  same_reg k r w = cond_both (nat_lt r 16) (record k { d = set k.d r w }) (record k { a = set k.a (r - 16) w }) (Same k) (λ _. record { mem = refl; pcxi = refl }) (λ _. record { mem = refl; pcxi = refl })

  same_base : (base : Arg) (offset : ℕ) (after : Bool) → Same m (with_base_incremented m base offset after)
  same_base (Reg r) offset true = same_reg m r _
  same_base (Reg r) offset false = record { mem = refl; pcxi = refl }
  same_base (Word w) offset after = record { mem = refl; pcxi = refl }

  pub load_same : (dst : ℕ) (base : Arg) (offset size : ℕ) (signed after : Bool) (n : ℕ) → is_trapping_access e (access_address m base offset after) size ≡ false → Same m (after_instruction m e (Load dst base offset size signed after) n)
  unfolding after_instruction
  load_same dst base offset size signed after n t =
      let b = same_base base offset after in
      let loaded = load_result signed size (loaded_number m.mem e.input (access_address m base offset after) size) in
      let r = same_reg (with_base_incremented m base offset after) dst loaded in
      let is : after_instruction m e (Load dst base offset size signed after) n ≡ with_pc_advanced n (with_reg (with_base_incremented m base offset after) dst loaded) = cond-false _ _ _ t in
      subst (Same m) (sym is) (record { mem = r.mem ∙ b.mem; pcxi = r.pcxi ∙ b.pcxi })

  pub store_stores : (src : ℕ) (base : Arg) (offset size : ℕ) (after : Bool) (n : ℕ) → is_trapping_access e (access_address m base offset after) size ≡ false → StoresBytes (access_address m base offset after) size m (after_instruction m e (Store src base offset size after) n)
  unfolding after_instruction
  store_stores src base offset size after n t =
      let b = same_base base offset after in
      let x = access_address m base offset after in
      let is : after_instruction m e (Store src base offset size after) n ≡ with_pc_advanced n (record (with_base_incremented m base offset after) { mem = with_bytes m.mem x (reg m src) size }) = cond-false _ _ _ t in
      subst (StoresBytes x size m) (sym is) (record { word = reg m src; mem = refl; pcxi = b.pcxi })

  pub call_saves : (to : Target) (n : ℕ) → (after_instruction m e (Call to) n).end ≡ Running → SavesContext m (after_instruction m e (Call to) n)
  unfolding after_instruction
  call_saves to n run = saves_then m true _ (λ s. record { mem = refl; pcxi = refl }) run

  pub svlcx_saves : (n : ℕ) → (after_instruction m e Svlcx n).end ≡ Running → SavesContext m (after_instruction m e Svlcx n)
  unfolding after_instruction
  svlcx_saves n run = saves_then m false _ (λ s. record { mem = refl; pcxi = refl }) run

  pub bisr_saves : (c n : ℕ) → (after_instruction m e (Bisr c) n).end ≡ Running → SavesContext m (after_instruction m e (Bisr c) n)
  unfolding after_instruction
  bisr_saves c n run = saves_then m false _ (λ s. record { mem = refl; pcxi = refl }) run

  pub syscall_saves : (tin n : ℕ) → (after_instruction m e (Syscall tin) n).end ≡ Running → SavesContext m (after_instruction m e (Syscall tin) n)
  unfolding after_instruction
  syscall_saves tin n run = saves_then m true _ (λ s. record { mem = refl; pcxi = refl }) run

  pub ret_restores : (n : ℕ) → (after_instruction m e Ret n).end ≡ Running → RestoresContext m (after_instruction m e Ret n)
  unfolding after_instruction
  ret_restores n run = restores_then m true _ (λ s. record { mem = refl; pcxi = refl }) run

  pub rfe_restores : (n : ℕ) → (after_instruction m e Rfe n).end ≡ Running → RestoresContext m (after_instruction m e Rfe n)
  unfolding after_instruction
  rfe_restores n run = restores_then m true _ (λ s. record { mem = refl; pcxi = refl }) run

  pub rslcx_restores : (n : ℕ) → (after_instruction m e Rslcx n).end ≡ Running → RestoresContext m (after_instruction m e Rslcx n)
  unfolding after_instruction
  rslcx_restores n run = restores_then m false _ (λ s. record { mem = refl; pcxi = refl }) run

-- ---- what an effect says of an instruction
module _ (effect : Effect) (u : AreasUsed) (m : Machine) (e : Event) where
  pub told_call : (s : Shape) {to : Target} → s ≡ Call to → ((k : Machine) → SavesContext m k → AreaEffectHolds effect u k) → IsAreaEffectOf effect u m e s
  told_call s {to = to} is tells = subst (λ x. IsAreaEffectOf effect u m e x) (sym is) (λ n run. tells (after_instruction m e (Call to) n) (call_saves m e to n run))

  pub told_svlcx : (s : Shape) → s ≡ Svlcx → ((k : Machine) → SavesContext m k → AreaEffectHolds effect u k) → IsAreaEffectOf effect u m e s
  told_svlcx s is tells = subst (λ x. IsAreaEffectOf effect u m e x) (sym is) (λ n run. tells (after_instruction m e Svlcx n) (svlcx_saves m e n run))

  pub told_bisr : (s : Shape) {c : ℕ} → s ≡ Bisr c → ((k : Machine) → SavesContext m k → AreaEffectHolds effect u k) → IsAreaEffectOf effect u m e s
  told_bisr s {c = c} is tells = subst (λ x. IsAreaEffectOf effect u m e x) (sym is) (λ n run. tells (after_instruction m e (Bisr c) n) (bisr_saves m e c n run))

  pub told_syscall : (s : Shape) {tin : ℕ} → s ≡ Syscall tin → ((k : Machine) → SavesContext m k → AreaEffectHolds effect u k) → IsAreaEffectOf effect u m e s
  told_syscall s {tin = tin} is tells = subst (λ x. IsAreaEffectOf effect u m e x) (sym is) (λ n run. tells (after_instruction m e (Syscall tin) n) (syscall_saves m e tin n run))

  pub told_ret : (s : Shape) → s ≡ Ret → ((k : Machine) → RestoresContext m k → AreaEffectHolds effect u k) → IsAreaEffectOf effect u m e s
  told_ret s is tells = subst (λ x. IsAreaEffectOf effect u m e x) (sym is) (λ n run. tells (after_instruction m e Ret n) (ret_restores m e n run))

  pub told_rfe : (s : Shape) → s ≡ Rfe → ((k : Machine) → RestoresContext m k → AreaEffectHolds effect u k) → IsAreaEffectOf effect u m e s
  told_rfe s is tells = subst (λ x. IsAreaEffectOf effect u m e x) (sym is) (λ n run. tells (after_instruction m e Rfe n) (rfe_restores m e n run))

  pub told_rslcx : (s : Shape) → s ≡ Rslcx → ((k : Machine) → RestoresContext m k → AreaEffectHolds effect u k) → IsAreaEffectOf effect u m e s
  told_rslcx s is tells = subst (λ x. IsAreaEffectOf effect u m e x) (sym is) (λ n run. tells (after_instruction m e Rslcx n) (rslcx_restores m e n run))

  pub told_load : (s : Shape) {dst : ℕ} {base : Arg} {offset size : ℕ} {signed after : Bool} (x : ℕ) → s ≡ Load dst base offset size signed after → x ≡ access_address m base offset after →
      ((k : Machine) → (is_trapping_access e x size ≡ true → SavesContext m k) → (is_trapping_access e x size ≡ false → KeepsMemoryAndPcxi m k) → AreaEffectHolds effect u k) → IsAreaEffectOf effect u m e s
  told_load s {dst = dst} {base = base} {offset = offset} {size = size} {signed = signed} {after = after} x is at tells =
      subst (λ y. IsAreaEffectOf effect u m e y) (sym is)
      (λ n run.
      let traps : is_trapping_access e (access_address m base offset after) size ≡ is_trapping_access e x size = ap (λ (y : ℕ). is_trapping_access e y size) (sym at) in
      tells (after_instruction m e (Load dst base offset size signed after) n)
      (λ t. load_traps m e dst base offset size signed after n (traps ∙ t) run)
      (λ t. let same = load_same m e dst base offset size signed after n (traps ∙ t) in record { mem = same.mem; pcxi = same.pcxi }))

  pub told_any_store : (s : Shape) {src : ℕ} {base : Arg} {offset size : ℕ} {after : Bool} (x : ℕ) → s ≡ Store src base offset size after → x ≡ access_address m base offset after →
      ((k : Machine) → (is_trapping_access e x size ≡ true → SavesContext m k) → (is_trapping_access e x size ≡ false → StoresBytes x size m k) → AreaEffectHolds effect u k) → IsAreaEffectOf effect u m e s
  told_any_store s {src = src} {base = base} {offset = offset} {size = size} {after = after} x is at tells =
      subst (λ y. IsAreaEffectOf effect u m e y) (sym is)
      (λ n run.
      let traps : is_trapping_access e (access_address m base offset after) size ≡ is_trapping_access e x size = ap (λ (y : ℕ). is_trapping_access e y size) (sym at) in
      tells (after_instruction m e (Store src base offset size after) n)
      (λ t. store_traps m e src base offset size after n (traps ∙ t) run)
      (λ t. subst (λ y. StoresBytes y size m (after_instruction m e (Store src base offset size after) n)) (sym at) (store_stores m e src base offset size after n (traps ∙ t))))

-- what leaves the memory and PCXI
pub told_stayed : (u : AreasUsed) (m n : Machine) → CountsAreasInUse u m → KeepsMemoryAndPcxi m n → AreaEffectHolds Stays u n
told_stayed u m n h s = counted_same u m n (record { mem = s.mem; pcxi = s.pcxi }) h

pub told_plain : (u : AreasUsed) (m : Machine) (e : Event) (s t : Shape) → s ≡ t → is_area_preserving_shape e t ≡ true → CountsAreasInUse u m → IsAreaEffectOf Stays u m e s
told_plain u m e s t is k h = subst (λ x. IsAreaEffectOf Stays u m e x) (sym is) (λ n run. counted_same u m (after_instruction m e t n) (same_does e t k m n) h)

-- ---- events
end_same : (k : Machine) (e : Event) (end : End) → k.end ≡ end → Same k (if_end_running end k (λ n. record n { psw = psw_with_status n.psw e.status }))
end_same k e Running is = record { mem = refl; pcxi = refl }
end_same k e (Dead cause) is = record { mem = refl; pcxi = refl }

-- the effect of an event on a machine that runs before and after it
record Went (m : Machine) (e : Event) : Type 0 where
  running : (machine_after_event m e).end ≡ Running
  same : Same (machine_after_event m e) (step m e)

went : (m : Machine) (e : Event) → m.end ≡ Running → (step m e).end ≡ Running → Went m e
unfolding step
went m e here run =
    let next = λ (n : Machine). record n { psw = psw_with_status n.psw e.status } in
    let is : step m e ≡ if_running (machine_after_event m e) next = then_-running m (λ m. if_running (machine_after_event m e) next) here in
    let both = from_running (machine_after_event m e) next (subst (λ (k : Machine). k.end ≡ Running) is run) in
    record { running = both.0; same = subst (Same (machine_after_event m e)) (sym is) (end_same (machine_after_event m e) e (machine_after_event m e).end refl) }

-- an interrupt
pub told_interrupt : (effect : Effect) (u : AreasUsed) (m : Machine) (e : Event) → m.end ≡ Running → is_interrupt_taken m e ≡ true → ((after : Machine) → SavesContext m after → AreaEffectHolds effect u after) → (step m e).end ≡ Running → AreaEffectHolds effect u (step m e)
told_interrupt effect u m e here taken tells run =
    let w = went m e here run in
    let is : machine_after_event m e ≡ after_interrupt m e.irq = cond-true _ _ _ taken in
    told_same effect u (machine_after_event m e) (step m e) w.same (tells (machine_after_event m e) (subst (SavesContext m) (sym is) (interrupt_saves m e.irq (subst (λ (k : Machine). k.end ≡ Running) is w.running))))

-- the instruction at pc
pub told_found : (effect : Effect) (u : AreasUsed) (m : Machine) (e : Event) (shape : Shape) (n : ℕ) → m.end ≡ Running → is_interrupt_taken m e ≡ false → Ok (shape, n) ≡ fetched_shape (decoded_of (mapped_bytes 4 m.mem m.pc)) → ((after_instruction m e shape n).end ≡ Running → AreaEffectHolds effect u (after_instruction m e shape n)) → (step m e).end ≡ Running → AreaEffectHolds effect u (step m e)
unfolding fetched_instruction
told_found effect u m e shape n here free at tells run =
    let w = went m e here run in
    let found = fetched_shape (decoded_of (mapped_bytes 4 m.mem m.pc)) in
    elim (m.pc % 2 == 0) as (λ t. m.pc % 2 == 0 ≡ t → AreaEffectHolds effect u (step m e)) [
      | true ↦ λ even.
          let is : machine_after_event m e ≡ after_instruction m e shape n = cond-false _ _ _ free ∙ ap (λ t. after_fetch_result m e (cond t found (Err NoCode))) even ∙ ap (after_fetch_result m e) (sym at) in
          told_same effect u (machine_after_event m e) (step m e) w.same (subst (AreaEffectHolds effect u) (sym is) (tells (subst (λ (k : Machine). k.end ≡ Running) is w.running)))
      | false ↦ λ odd.
          let is : machine_after_event m e ≡ dead_machine NoCode m = cond-false _ _ _ free ∙ ap (λ t. after_fetch_result m e (cond t found (Err NoCode))) odd in
          dead_running NoCode (ap (λ (k : Machine). k.end) (sym is) ∙ w.running)
    ] refl

-- if the areas in use aren't known to be consecutive, their number alone stays
pub told_kept : (u : AreasUsed) (m n : Machine) → CountsAreasInUse u m → u.in_row ≡ false → used_area_count n ≡ used_area_count m → AreaEffectHolds Stays u n
told_kept u m n h off same = record {
  count = h.count ∙ ap (λ (o : Option ℕ). unwrap_or o 0) (sym same);
  first = h.first;
  row = subst (λ b. OnTrue b (AreAreasInSequence u.first u.count n)) (sym off) tt;
}
