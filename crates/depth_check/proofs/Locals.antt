-- Lower contexts that a frame saves and restores.
use Rattle.std.proofs.Common.{◌≡◌, ℕ, suc, ◌-◌, ◌^◌, ◌<◌, ◌≤◌, inl, inr, Bool, true, false, not, List, [], ◌∷◌, ◌++◌, length, get_or, take, refl, sym, ap, ◌∙◌, subst, arith, IsTrue}
use Rattle.std.proofs.lemmas.Bool.{cases_eq}
use Rattle.csa_chain.specs.MemoryBytes.{Memory, with_words}
use Rattle.csa_chain.specs.Chain.{link_in, link_address, area_word, word_with_link}
use Rattle.csa_chain.specs.ContextWords.{pcxi_word_of, d_after_lower_restore, a_after_lower_restore}
use Rattle.csa_chain.proofs.ChainLaws.{Links, SameAreas-written, area_word-written, is_area-written}
use Rattle.csa_chain.proofs.ContextLaws.{reg_of, lower_regs, lower_word, lower_back, link_in-pcxi_word, ul_of-pcxi_word, link_in-lt}
use Rattle.elf_image.specs.Images.{ImageData}
use Rattle.tcd_base.specs.declared.core_version.Core.{Core}
use Rattle.tcd_plan.specs.PlanData.{PlanData, IsPlan}
use Rattle.tc_machine.specs.declared.events.End.TheVariants.{Running}
use Rattle.tc_machine.specs.declared.state.Machine.{Machine}
use Rattle.tc_machine.specs.Machine.{reg, a11, IsMachine}
use Rattle.tc_machine.specs.SavesAndRestores.{context_of, with_context_saved, last_context, with_context_restored, restore}
use Rattle.tc_machine.proofs.Words.{register_lt}
use Rattle.tc_machine.proofs.PlanLaws.{HoldsRom-written}
use Rattle.tc_machine.proofs.Saves.{restore-is}
use Rattle.tc_machine.proofs.Stays.{stays_restore}
use Rattle.tc_machine.proofs.Areas.{Areas, HasFree, Areas-saved, Areas-restored, is_freed}
use Rattle.value_domain.specs.declared.states.State.{State}
use Rattle.value_domain.specs.State.{FlagsImply}
use Rattle.vd_transfer.specs.EffectsOnStates as effects
use Rattle.vd_transfer.specs.Holding.{Holds}
use Rattle.vd_transfer.proofs.HoldLaws.{restore_holds}
use Rattle.vd_transfer.proofs.RegisterLaws.{length-forgotten}
use Rattle.depth_cert.specs.Certs.{CertData}
use Rattle.cfg_recover.proofs.EntryLaws.{holds_covered, reg_lt}
use Rattle.depth_check.proofs.Frames.{Frame, oldest_first, Local, Locals, under, Frames, used_by, Invariant, Frames-same, Links-Frames, Frames-moved, own_locals, ImpliedBy-trans}
use Rattle.depth_check.proofs.Registers.{each_lower, lower_is_lower, lower-UpperSame}
use Rattle.depth_check.proofs.Enter.{IsPlanMemory-written, counted}
use Rattle.depth_check.proofs.Leave.{area_words-at}
use Rattle.depth_check.proofs.Entries.{PointFor}

-- ---- flags
ImpliedBy-push : (fs gs : List Bool) (x : Bool) → FlagsImply fs gs → FlagsImply (fs ++ x ∷ []) (gs ++ x ∷ [])
ImpliedBy-push [] [] x h = (λ e. e, tt)
ImpliedBy-push (f ∷ fs) (g ∷ gs) x h = (h.0, ImpliedBy-push fs gs x h.1)
ImpliedBy-push [] (g ∷ gs) x h = absurd h
ImpliedBy-push (f ∷ fs) [] x h = absurd h

ImpliedBy-pop : (xs ys : List Bool) (f : Bool) → FlagsImply xs (ys ++ f ∷ []) → FlagsImply (take (length xs - 1) xs) ys × (IsTrue (get_or xs (length xs - 1) false) → IsTrue f)
ImpliedBy-pop [] [] f h = absurd h
ImpliedBy-pop [] (y ∷ ys) f h = absurd h
ImpliedBy-pop (x ∷ []) [] f h = (tt, h.0)
ImpliedBy-pop (x ∷ []) (y ∷ []) f h = absurd h.1
ImpliedBy-pop (x ∷ []) (y ∷ z ∷ ys) f h = absurd h.1
ImpliedBy-pop (x ∷ w ∷ xs) [] f h = absurd h.1
ImpliedBy-pop (x ∷ w ∷ xs) (y ∷ ys) f h =
    let rest = ImpliedBy-pop (w ∷ xs) ys f h.1 in
    let e : length (x ∷ w ∷ xs) - 1 ≡ suc (length (w ∷ xs) - 1) = omega arith in
    rw e ((h.0, rest.0), rest.1)

-- the newest lower context
pub record Newest (core : Core) (mem : Memory) (pcxi back : ℕ) (word0 : ℕ → ℕ) (fs : List Bool) (ls : List ℕ) : Type 0 where
  pub area : ℕ
  pub areas : List ℕ
  pub flag : Bool
  pub flags : List Bool
  pub same_areas : ls ≡ area ∷ areas
  pub same_flags : fs ≡ flag ∷ flags
  pub local : Local core mem pcxi back area flag word0
  pub others : Locals core mem (area_word mem area 0) back word0 flags areas

newest : (core : Core) (mem : Memory) (pcxi back : ℕ) (word0 : ℕ → ℕ) (fs : List Bool) (ls : List ℕ) → Locals core mem pcxi back word0 fs ls → 1 ≤ length ls → Newest core mem pcxi back word0 fs ls
newest core mem pcxi back word0 fs [] h some = absurd (omega arith)
newest core mem pcxi back word0 [] (l ∷ ls) h some = absurd h
newest core mem pcxi back word0 (f ∷ fs) (l ∷ ls) h some = record { area = l; areas = ls; flag = f; flags = fs; same_areas = refl; same_flags = refl; local = h.0; others = h.1 }

-- a frame with other lower contexts
abbrev pub with_locals : Frame → List ℕ → List Bool → Frame
with_locals frame locals flags = record frame { locals = locals; flags = flags }

used_pushed : (frame : Frame) (below : List Frame) (l : ℕ) (flags : List Bool) → used_by (with_locals frame (l ∷ frame.locals) flags) below ≡ l ∷ used_by frame below
used_pushed frame [] l flags = refl
used_pushed frame (s ∷ below) l flags = refl

used_popped : (frame : Frame) (below : List Frame) (l : ℕ) (rest : List ℕ) (flags : List Bool) → frame.locals ≡ l ∷ rest → used_by frame below ≡ l ∷ used_by (with_locals frame rest flags) below
used_popped frame [] l rest flags e = e
used_popped frame (s ∷ below) l rest flags e = ap (λ ls. ls ++ frame.area ∷ used_by s below) e

module _ (image : ImageData) (plan : PlanData) (ok : IsPlan plan) (cert : CertData) (most : ℕ) (few : most ≤ plan.areas - plan.reserve) where
  module _ (m : Machine) (words : IsMachine m) (frame : Frame) (below : List Frame) (k : Invariant image plan cert most m frame below) where
    -- ---- a save of the lower context
    module _ (free : HasFree plan m.mem m.fcx m.lcx (used_by frame below)) where
      -- a word of the new area
      word : (i : ℕ) → i < 16 → get_or (context_of m false) i 0 < 2 ^ 32 → area_word (with_words m.mem (link_address (link_in m.fcx)) (context_of m false)) (link_in m.fcx) i ≡ get_or (context_of m false) i 0
      word i lt fits = area_word-written m.mem (link_in m.fcx) (context_of m false) i (omega arith) free.area lt fits

      lower_saved : (j : ℕ) → j < 14 → area_word (with_words m.mem (link_address (link_in m.fcx)) (context_of m false)) (link_in m.fcx) (suc (suc j)) ≡ reg m (get_or lower_regs j 0)
      lower_saved j lt =
          let e : get_or (context_of m false) (suc (suc j)) 0 ≡ reg m (get_or lower_regs j 0) = lower_word m.pcxi m.psw m.d m.a j lt in
          word (suc (suc j)) (omega arith) (subst (λ x. x < 2 ^ 32) (sym e) (reg_lt m words (get_or lower_regs j 0))) ∙ e

      pub lower_pushed : (pc : ℕ) (ie : Bool) (ccpn : ℕ) (t : State) → t.locals.items ≡ ((k.point).state).locals.items ++ ((k.point).state).lower ∷ [] → t.lower ≡ ((k.point).state).lower → length t.regs ≡ 27 → Holds plan (reg m) ie ccpn t → PointFor frame.node pc t →
          Invariant image plan cert most (record (with_context_saved m false) { pc = pc; ie = ie; ccpn = ccpn; end = Running }) (with_locals frame (link_in m.fcx ∷ frame.locals) (((k.point).state).lower ∷ frame.flags)) below
      lower_pushed pc ie ccpn t pushed same_lower long holds at =
          let stay = Frames-same plan cert most m.core m.mem (with_words m.mem (link_address (link_in m.fcx)) (context_of m false)) m.pcxi (a11 m) frame below
          (SameAreas-written m.mem (link_in m.fcx) (used_by frame below) (context_of m false) (omega arith) free.avoids_used) k.frames in
          let link_small = link_in-lt m.fcx in
          record {
            stands = k.stands;
            point = at.point;
            found = at.found;
            inside = holds_covered plan (at.point).state t (reg m) ie ccpn at.covers long holds;
            flags =
                ImpliedBy-trans _ (((k.point).state).locals.items ++ ((k.point).state).lower ∷ []) _ (subst (λ fs. FlagsImply ((at.point).state).locals.items fs) pushed (at.covers).locals)
                (ImpliedBy-push ((k.point).state).locals.items (oldest_first frame.flags) ((k.point).state).lower k.flags);
            is = k.is;
            lower_kept = λ e. k.lower_kept (sym same_lower ∙ ((at.covers).context).2 e);
            frames = Frames-moved plan cert most m.core (with_words m.mem (link_address (link_in m.fcx)) (context_of m false)) m.pcxi (pcxi_word_of m.core m.ccpn m.ie false (link_in m.fcx)) (a11 m) frame below (link_in m.fcx ∷ frame.locals) (((k.point).state).lower ∷ frame.flags)
                (ap (λ w. under (with_words m.mem (link_address (link_in m.fcx)) (context_of m false)) w frame.locals) (word 0 (omega arith) words.pcxi)) (
                  record {
                    some = free.some;
                    named = link_in-pcxi_word m.core m.ccpn m.ie false (link_in m.fcx) link_small;
                    ul = ul_of-pcxi_word m.core m.ccpn m.ie false (link_in m.fcx) link_small;
                    area = is_area-written m.mem (link_in m.fcx) (link_in m.fcx) (context_of m false) ∙ free.area;
                    a11_is = word 1 (omega arith) (register_lt m.a words.a 11);
                    kept = λ e j lt. lower_saved j lt ∙ k.lower_kept e (get_or lower_regs j 0) (lower_is_lower j lt);
                  },
                  rw (word 0 (omega arith) words.pcxi) (own_locals plan cert most m.core (with_words m.mem (link_address (link_in m.fcx)) (context_of m false)) m.pcxi (a11 m) frame below stay),
                )
                stay;
            free = free.rest;
            areas = subst (λ us. Areas plan (with_words m.mem (link_address (link_in m.fcx)) (context_of m false)) (word_with_link m.fcx (link_in (area_word m.mem (link_in m.fcx) 0))) m.lcx us free.rest)
                (sym (used_pushed frame below (link_in m.fcx) (((k.point).state).lower ∷ frame.flags))) (Areas-saved m.mem m.fcx m.lcx (used_by frame below) k.free free k.areas (context_of m false) refl);
            rom = HoldsRom-written image m.mem ok (link_in m.fcx) (length (used_by frame below)) (context_of m false) free.place free.within (omega arith) k.rom;
            memory = IsPlanMemory-written plan m.mem (link_address (link_in m.fcx)) (context_of m false) k.memory;
            biv = k.biv;
            btv = k.btv;
            isp = k.isp;
            running = refl;
          }

    -- ---- a restore of the lower context
    pub record Popped (pc : ℕ) : Type 0 where
      pub restores : restore m false ≡ with_context_restored m false
      pub areas : List ℕ
      pub flags : List Bool
      pub kept : Invariant image plan cert most (record (with_context_restored m false) { pc = pc; end = Running }) (with_locals frame areas flags) below

    pub lower_popped : (pc : ℕ) → 1 ≤ length ((k.point).state).locals.items → length ((k.point).state).regs ≡ 27 → PointFor frame.node pc (effects.state_after_lower_restore (k.point).state) → Popped pc
    lower_popped pc some long at =
        let count = counted image plan ok cert most few m frame below k in
        let top : Newest m.core m.mem m.pcxi (a11 m) frame.word0 frame.flags frame.locals =
        newest m.core m.mem m.pcxi (a11 m) frame.word0 frame.flags frame.locals (own_locals plan cert most m.core m.mem m.pcxi (a11 m) frame below k.frames) (omega arith) in
        let local : Local m.core m.mem m.pcxi (a11 m) top.area top.flag frame.word0 = top.local in
        let used : used_by frame below ≡ top.area ∷ used_by (with_locals frame top.areas top.flags) below = used_popped frame below top.area top.areas top.flags top.same_areas in
        let areas : Areas plan m.mem m.fcx m.lcx (top.area ∷ used_by (with_locals frame top.areas top.flags) below) k.free = subst (λ us. Areas plan m.mem m.fcx m.lcx us k.free) used k.areas in
        let links : Links m.mem m.pcxi (top.area ∷ used_by (with_locals frame top.areas top.flags) below) = subst (Links m.mem m.pcxi) used (Links-Frames plan cert most m.core m.mem m.pcxi (a11 m) frame below k.frames) in
        let freed = is_freed m.mem m.fcx m.lcx top.area (used_by (with_locals frame top.areas top.flags) below) k.free areas in
        let small : top.area < 2 ^ 20 = subst (λ l. l < 2 ^ 20) local.named (link_in-lt m.pcxi) in
        let restores : restore m false ≡ with_context_restored m false = restore-is m false (λ z. local.some (sym local.named ∙ z)) (ap not local.ul) (rw local.named local.area) in
        let after_words : IsMachine (with_context_restored m false) = subst IsMachine restores (stays_restore m words false) in
        let same_a11 : area_word m.mem (link_in m.pcxi) 1 ≡ a11 m = rw local.named local.a11_is in
        let flags = ImpliedBy-pop ((k.point).state).locals.items (oldest_first top.flags) top.flag (subst (λ fs. FlagsImply ((k.point).state).locals.items (oldest_first fs)) top.same_flags k.flags) in
        let popped : Frames plan cert most m.core m.mem (area_word m.mem top.area 0) (a11 m) (with_locals frame top.areas top.flags) below =
        Frames-moved plan cert most m.core m.mem m.pcxi (area_word m.mem top.area 0) (a11 m) frame below top.areas top.flags (sym (ap (under m.mem m.pcxi) top.same_areas)) top.others k.frames in
        record {
          restores = restores;
          areas = top.areas;
          flags = top.flags;
          kept = record {
            stands = k.stands;
            point = at.point;
            found = at.found;
            inside =
                holds_covered plan (at.point).state (effects.state_after_lower_restore (k.point).state) (reg_of (d_after_lower_restore (last_context m) m.d) (a_after_lower_restore (last_context m) m.a)) m.ie m.ccpn at.covers (length-forgotten 0 ((k.point).state).regs ∙ long)
                (restore_holds plan (k.point).state (reg m) (reg_of (d_after_lower_restore (last_context m) m.d) (a_after_lower_restore (last_context m) m.a)) m.ie m.ccpn long (λ r lt. reg_lt (with_context_restored m false) after_words r)
                (λ r lt high. elim (cases_eq r 27) [
                  | inl is ↦ subst (λ r. reg_of (d_after_lower_restore (last_context m) m.d) (a_after_lower_restore (last_context m) m.a) r ≡ reg m r) (sym is) same_a11
                  | inr other ↦ lower-UpperSame (last_context m) m.d m.a r lt high other
                ]) k.inside);
            flags = ImpliedBy-trans _ (take (length ((k.point).state).locals.items - 1) ((k.point).state).locals.items) _ (at.covers).locals flags.0;
            is = k.is;
            lower_kept = λ e.
                let flag : top.flag ≡ true = flags.1 (((at.covers).context).2 e) in
                each_lower (λ r. reg_of (d_after_lower_restore (last_context m) m.d) (a_after_lower_restore (last_context m) m.a) r ≡ frame.word0 r)
                (λ j lt. lower_back (last_context m) m.d m.a j lt ∙ area_words-at m.mem (link_in m.pcxi) (suc (suc j)) (omega arith) ∙ ap (λ l. area_word m.mem l (suc (suc j))) local.named ∙ local.kept flag j lt);
            frames =
                subst (λ w. Frames plan cert most m.core (with_words m.mem (link_address (link_in m.pcxi)) (m.fcx ∷ [])) (area_word m.mem (link_in m.pcxi) 0) w (with_locals frame top.areas top.flags) below) (sym same_a11)
                (subst (λ l. Frames plan cert most m.core (with_words m.mem (link_address l) (m.fcx ∷ [])) (area_word m.mem l 0) (a11 m) (with_locals frame top.areas top.flags) below) (sym local.named)
                (Frames-same plan cert most m.core m.mem (with_words m.mem (link_address top.area) (m.fcx ∷ [])) (area_word m.mem top.area 0) (a11 m) (with_locals frame top.areas top.flags) below
                (SameAreas-written m.mem top.area (used_by (with_locals frame top.areas top.flags) below) (m.fcx ∷ []) (omega arith) freed.avoids_used) popped));
            free = top.area ∷ k.free;
            areas = rw local.named (Areas-restored m.mem m.pcxi m.fcx m.lcx top.area (used_by (with_locals frame top.areas top.flags) below) k.free links areas small);
            rom = rw local.named (HoldsRom-written image m.mem ok top.area (length (used_by (with_locals frame top.areas top.flags) below)) (m.fcx ∷ []) freed.place freed.within (omega arith) k.rom);
            memory = IsPlanMemory-written plan m.mem (link_address (link_in m.pcxi)) (m.fcx ∷ []) k.memory;
            biv = k.biv;
            btv = k.btv;
            isp = k.isp;
            running = refl;
          };
        }
