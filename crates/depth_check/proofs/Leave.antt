-- A restore of the upper context ends a frame, and the suspended frame goes on.
use Rattle.std.proofs.Common.{◌≡◌, ℕ, zero, suc, ◌-◌, ◌*◌, ◌/◌, ◌^◌, ◌<◌, ◌≤◌, inl, inr, Bool, true, List, [], ◌∷◌, ◌++◌, length, get_or, refl, sym, ap, ◌∙◌, subst, arith}
use Rattle.csa_chain.specs.MemoryBytes.{Memory, with_words}
use Rattle.csa_chain.specs.Chain.{link_in, link_address, area_word}
use Rattle.csa_chain.specs.ContextWords.{pie_of, pcpn_of, d_after_upper_restore, a_after_upper_restore}
use Rattle.csa_chain.proofs.WordLaws.{area_word-lt}
use Rattle.csa_chain.proofs.ChainLaws.{Links, SameAreas-written}
use Rattle.csa_chain.proofs.ContextLaws.{reg_of, global_regs, below_16, upper_back, link_in-lt}
use Rattle.elf_image.specs.Images.{ImageData}
use Rattle.tcd_plan.specs.PlanData.{PlanData, IsPlan, global_of}
use Rattle.tc_machine.specs.declared.events.End.TheVariants.{Running}
use Rattle.tc_machine.specs.declared.state.Machine.{Machine}
use Rattle.tc_machine.specs.Machine.{reg, a11, IsMachine}
use Rattle.tc_machine.specs.SavesAndRestores.{saved_area_words, last_context, with_context_restored, restore}
use Rattle.tc_machine.proofs.PlanLaws.{HoldsRom-written}
use Rattle.tc_machine.proofs.Saves.{restore-is}
use Rattle.tc_machine.proofs.Areas.{Areas, Areas-restored, is_freed}
use Rattle.value_domain.specs.declared.states.State.{State}
use Rattle.vd_transfer.specs.Holding.{Holds}
use Rattle.vd_transfer.specs.Registers.{register_slot}
use Rattle.depth_cert.specs.declared.points.Exit.{Exit}
use Rattle.depth_cert.specs.Nodes.{NodeData}
use Rattle.depth_cert.specs.Certs.{CertData}
use Rattle.cfg_recover.proofs.EntryLaws.{HoldsExit}
use Rattle.depth_check.proofs.Frames.{Frame, LowerSame, UpperSame, Leaves, by_return, from_system, from_handler, under, Entry, used_by, Invariant, Frames-same, Links-Frames, no_locals}
use Rattle.depth_check.proofs.Registers.{each_upper, upper_leaves_globals, upper-LowerSame}
use Rattle.depth_check.proofs.Enter.{IsPlanMemory-written, counted}

-- the globals are the plan's if the registers are in a state
pub globals_held : (plan : PlanData) (word : ℕ → ℕ) (ie : Bool) (ccpn : ℕ) (s : State) → Holds plan word ie ccpn s → (j : ℕ) → j < 4 → word (get_or global_regs j 0) ≡ global_of plan (get_or global_regs j 0)
unfolding register_slot
globals_held plan word ie ccpn s h zero lt = elim (h.regs 16 (omega arith)) [ inl e ↦ e | inr n ↦ absurd n ]
globals_held plan word ie ccpn s h (suc zero) lt = elim (h.regs 17 (omega arith)) [ inl e ↦ e | inr n ↦ absurd n ]
globals_held plan word ie ccpn s h (suc (suc zero)) lt = elim (h.regs 24 (omega arith)) [ inl e ↦ e | inr n ↦ absurd n ]
globals_held plan word ie ccpn s h (suc (suc (suc zero))) lt = elim (h.regs 25 (omega arith)) [ inl e ↦ e | inr n ↦ absurd n ]
globals_held plan word ie ccpn s h (suc (suc (suc (suc j)))) lt = absurd (omega arith)

-- the words of an area
pub area_words-at : (mem : Memory) (l : ℕ) (i : ℕ) → i < 16 → get_or (saved_area_words mem l) i 0 ≡ area_word mem l i
area_words-at mem l = below_16 (λ i. get_or (saved_area_words mem l) i 0 ≡ area_word mem l i) refl refl refl refl refl refl refl refl refl refl refl refl refl refl refl refl

-- the lower registers at the end of a frame
HoldsExit-same : (word word' : ℕ → ℕ) (ie : Bool) (ccpn : ℕ) (x : Exit) → LowerSame word word' → HoldsExit word ie ccpn x → HoldsExit word' ie ccpn x
HoldsExit-same word word' ie ccpn x same h = record { lower = λ r low. rw (same r low) (h.lower r low); enabled = h.enabled; priority = h.priority }

pub Leaves-same : {pie : Bool} {pcpn : ℕ} (node : NodeData) (word0 word word' : ℕ → ℕ) (ie : Bool) (ccpn : ℕ) → LowerSame word word' → Leaves pie pcpn node word0 word ie ccpn → Leaves pie pcpn node word0 word' ie ccpn
Leaves-same node word0 word word' ie ccpn same (by_return x is kind h) = by_return x is kind (HoldsExit-same word word' ie ccpn x same h)
Leaves-same node word0 word word' ie ccpn same (from_system x ie2 ccpn2 is kind h enabled priority) =
    from_system x ie2 ccpn2 is kind (HoldsExit-same word word' ie2 ccpn2 x same h) enabled priority
Leaves-same node word0 word word' ie ccpn same (from_handler kind lower enabled priority) =
    from_handler kind (λ r low. same r low ∙ lower r low) enabled priority

module _ (image : ImageData) (plan : PlanData) (ok : IsPlan plan) (cert : CertData) (most : ℕ) (few : most ≤ plan.areas - plan.reserve) where
  module _ (m : Machine) (words : IsMachine m) (frame suspended : Frame) (below : List Frame) (k : Invariant image plan cert most m frame (suspended ∷ below)) (none : frame.locals ≡ []) where
    entry : Entry plan cert m.core m.mem m.pcxi (a11 m) frame.node frame.area frame.back frame.word0 suspended
    entry = subst (λ ls. Entry plan cert m.core m.mem (under m.mem m.pcxi ls) (a11 m) frame.node frame.area frame.back frame.word0 suspended) none (k.frames).1

    -- the registers that come back
    upper : UpperSame frame.word0 (reg_of (d_after_upper_restore (last_context m) m.d) (a_after_upper_restore (last_context m) m.a))
    upper =
        each_upper (λ r. reg_of (d_after_upper_restore (last_context m) m.d) (a_after_upper_restore (last_context m) m.a) r ≡ frame.word0 r)
        (λ j lt ne.
        upper_back (last_context m) m.d m.a j lt ∙ area_words-at m.mem (link_in m.pcxi) (suc (suc j)) (omega arith) ∙ ap (λ l. area_word m.mem l (suc (suc j))) entry.named ∙ entry.upper j lt ne)
        (λ j lt. upper_leaves_globals (last_context m) m.d m.a j lt ∙ globals_held plan (reg m) m.ie m.ccpn (k.point).state k.inside j lt ∙ sym (entry.globals j lt))

    pub record Back (ie : Bool) (ccpn : ℕ) : Type 0 where
      pub at : a11 m / 2 * 2 ≡ frame.back
      pub kept : Invariant image plan cert most (record (with_context_restored m true) { pc = a11 m / 2 * 2; ie = ie; ccpn = ccpn; end = Running }) suspended below

    pub comes_back : (ie : Bool) (ccpn : ℕ) → Leaves (pie_of m.core m.pcxi) (pcpn_of m.core m.pcxi) frame.node frame.word0 (reg m) ie ccpn → Back ie ccpn
    comes_back ie ccpn leaves =
        let e = entry in
        let lower = upper-LowerSame (last_context m) m.d m.a in
        let goes = e.goes_on (reg_of (d_after_upper_restore (last_context m) m.d) (a_after_upper_restore (last_context m) m.a)) ie ccpn upper (area_word-lt m.mem words.bytes (link_in m.pcxi) 3)
        (Leaves-same frame.node frame.word0 (reg m) (reg_of (d_after_upper_restore (last_context m) m.d) (a_after_upper_restore (last_context m) m.a)) ie ccpn lower leaves) in
        let areas : Areas plan m.mem m.fcx m.lcx (frame.area ∷ used_by suspended below) k.free = subst (λ ls. Areas plan m.mem m.fcx m.lcx (ls ++ frame.area ∷ used_by suspended below) k.free) none k.areas in
        let links : Links m.mem m.pcxi (frame.area ∷ used_by suspended below) =
        subst (λ ls. Links m.mem m.pcxi (ls ++ frame.area ∷ used_by suspended below)) none (Links-Frames plan cert most m.core m.mem m.pcxi (a11 m) frame (suspended ∷ below) k.frames) in
        let freed = is_freed m.mem m.fcx m.lcx frame.area (used_by suspended below) k.free areas in
        let small : frame.area < 2 ^ 20 = subst (λ l. l < 2 ^ 20) e.named (link_in-lt m.pcxi) in
        record {
          at = goes.even ∙ e.same_back;
          kept = record {
            stands = e.stands;
            point = goes.point;
            found = goes.found;
            inside = goes.inside;
            flags = goes.flags;
            is = rw e.named e.is;
            lower_kept = goes.lower_kept;
            frames = rw e.named (Frames-same plan cert most m.core m.mem (with_words m.mem (link_address frame.area) (m.fcx ∷ [])) (area_word m.mem frame.area 0) (area_word m.mem frame.area 3) suspended below
                (SameAreas-written m.mem frame.area (used_by suspended below) (m.fcx ∷ []) (omega arith) freed.avoids_used) (k.frames).2);
            free = frame.area ∷ k.free;
            areas = rw e.named (Areas-restored m.mem m.pcxi m.fcx m.lcx frame.area (used_by suspended below) k.free links areas small);
            rom = rw e.named (HoldsRom-written image m.mem ok frame.area (length (used_by suspended below)) (m.fcx ∷ []) freed.place freed.within (omega arith) k.rom);
            memory = IsPlanMemory-written plan m.mem (link_address (link_in m.pcxi)) (m.fcx ∷ []) k.memory;
            biv = k.biv;
            btv = k.btv;
            isp = k.isp;
            running = refl;
          };
        }

    pub restores : restore m true ≡ with_context_restored m true
    restores = restore-is m true (λ z. (entry).some (sym (entry).named ∙ z)) (entry).ul (rw (entry).named (entry).area)

  pub none_held : (m : Machine) (frame : Frame) (below : List Frame) (k : Invariant image plan cert most m frame below) → length ((k.point).state).locals.items ≡ 0 → frame.locals ≡ []
  none_held m frame below k e = no_locals frame.locals (sym (counted image plan ok cert most few m frame below k) ∙ e)
