-- A save of the upper context begins a frame.
use Rattle.std.proofs.Common.{◌≡◌, ℕ, suc, ◌+◌, ◌-◌, ◌^◌, ◌<◌, ◌≤◌, ◌↔◌, Bool, true, List, [], ◌∷◌, length, get_or, Some, refl, sym, ap, ◌∙◌, subst, arith}
use Rattle.csa_chain.specs.MemoryBytes.{Memory, with_words}
use Rattle.csa_chain.specs.Chain.{link_in, link_address, area_word}
use Rattle.csa_chain.specs.ContextWords.{pcxi_word_of, pcpn_of}
use Rattle.csa_chain.proofs.MemoryLaws.{is_mapped-with_words}
use Rattle.csa_chain.proofs.ChainLaws.{SameAreas-written, area_word-written, is_area-written}
use Rattle.csa_chain.proofs.ContextLaws.{reg_of, upper_regs, global_regs, upper_word, link_in-pcxi_word, ul_of-pcxi_word, pie_of-pcxi_word, pcpn_of-pcxi_word, link_in-lt}
use Rattle.elf_image.specs.Images.{ImageData}
use Rattle.tcd_plan.specs.PlanData.{PlanData, IsPlan, global_of}
use Rattle.tc_machine.specs.declared.events.End.TheVariants.{Running}
use Rattle.tc_machine.specs.declared.state.Machine.{Machine}
use Rattle.tc_machine.specs.Machine.{reg, a11, is_interrupt_stack_used, IsMachine}
use Rattle.tc_machine.specs.SavesAndRestores.{context_of, with_context_saved, save}
use Rattle.tcd_plan.specs.MappedAddresses.{IsMappedBy}
use Rattle.tc_machine.proofs.Words.{register_lt}
use Rattle.tc_machine.proofs.PlanLaws.{HoldsRom-written}
use Rattle.tc_machine.proofs.Saves.{save-is}
use Rattle.tc_machine.proofs.Areas.{HasFree, has_free, Areas-saved}
use Rattle.value_domain.specs.declared.states.State.{State}
use Rattle.value_domain.specs.State.{FlagsImply}
use Rattle.vd_transfer.specs.Holding.{Holds}
use Rattle.depth_cert.specs.declared.keys.Key.{Key}
use Rattle.depth_cert.specs.declared.points.Point.{Point}
use Rattle.depth_cert.specs.Points.{find_point}
use Rattle.depth_cert.specs.Nodes.{NodeData}
use Rattle.depth_cert.specs.Certs.{CertData}
use Rattle.cfg_recover.proofs.PointLaws.{Stands}
use Rattle.depth_check.proofs.Frames.{Frame, oldest_first, LowerSame, UpperSame, Leaves, Resumed, used_by, Invariant, Frames-same, need-Frames, own_locals, length-Locals, length-oldest_first}
use Rattle.tc_mem.specs.PlanMemory.{IsPlanMemory}
use Rattle.value_domain.proofs.RegLaws.{implied_length}
use Rattle.cfg_recover.proofs.EntryLaws.{reg_lt}

-- the machine after a save of its upper context, with these registers, address and status
abbrev pub begun : Machine → List ℕ → List ℕ → ℕ → ℕ → Bool → ℕ → Machine
begun m d a pc psw ie ccpn = record (with_context_saved m true) { d = d; a = a; pc = pc; psw = psw; ie = ie; ccpn = ccpn }

-- the frame that begins there
abbrev pub entered : Machine → NodeData → ℕ → Frame
entered m node back = record { node = node; area = link_in m.fcx; back = back; word0 = reg m; locals = []; flags = [] }

-- What a frame that begins at a point with this state asks of the certificate: the node with its
-- point, room for it, and where the suspended frame goes on.
pub record Begins (plan : PlanData) (cert : CertData) (m : Machine) (frame : Frame) (s : State) (d a : List ℕ) (pc psw : ℕ) (ie : Bool) (ccpn back : ℕ) (key : Key) : Type 0 where
  pub node : NodeData
  pub stands : Stands cert node
  pub key_is : node.key ≡ key
  pub a11_is : get_or a 11 0 ≡ back
  pub need : length s.locals.items + 1 + node.need ≤ (frame.node).need
  pub point : Point
  pub found : find_point pc node.points ≡ Some point
  pub inside : Holds plan (reg_of d a) ie ccpn point.state
  pub none : length (point.state).locals.items ≡ 0
  pub is : is_interrupt_stack_used psw ≡ (node.key).is
  pub lower : LowerSame (reg m) (reg_of d a)
  pub goes_on :
      (word : ℕ → ℕ) (ie : Bool) (ccpn : ℕ) → UpperSame (reg m) word → word 27 < 2 ^ 32 → Leaves m.ie m.ccpn node (reg m) word ie ccpn
      → Resumed plan frame back word ie ccpn

abbrev saved_mem : Machine → Memory
saved_mem m = with_words m.mem (link_address (link_in m.fcx)) (context_of m true)

abbrev saved_pcxi : Machine → ℕ
saved_pcxi m = pcxi_word_of m.core m.ccpn m.ie true (link_in m.fcx)

pub IsPlanMemory-written : (plan : PlanData) (mem : Memory) (x : ℕ) (ws : List ℕ) → IsPlanMemory plan mem → IsPlanMemory plan (with_words mem x ws)
IsPlanMemory-written plan mem x ws h = λ y. subst (λ b. (b ≡ true) ↔ IsMappedBy plan y) (sym (is_mapped-with_words mem x ws y)) (h y)

pub implied_none : (fs : List Bool) → length fs ≡ 0 → FlagsImply fs []
implied_none [] h = tt
implied_none (f ∷ fs) h = absurd (omega arith)

module _ (image : ImageData) (plan : PlanData) (ok : IsPlan plan) (cert : CertData) (most : ℕ) (few : most ≤ plan.areas - plan.reserve) where
  module _ (m : Machine) (frame : Frame) (below : List Frame) (k : Invariant image plan cert most m frame below) where
    -- the state has as many lower contexts as the frame
    pub counted : length ((k.point).state).locals.items ≡ length frame.locals
    counted =
        implied_length ((k.point).state).locals.items (oldest_first frame.flags) k.flags ∙ length-oldest_first frame.flags
        ∙ length-Locals m.core m.mem m.pcxi (a11 m) frame.word0 frame.flags frame.locals (own_locals plan cert most m.core m.mem m.pcxi (a11 m) frame below k.frames)

    -- if the need has room for another area, there is a free one
    pub room : (need : ℕ) → length ((k.point).state).locals.items + 1 + need ≤ (frame.node).need → HasFree plan m.mem m.fcx m.lcx (used_by frame below)
    room need fits =
        let within = need-Frames plan cert most m.core m.mem m.pcxi (a11 m) frame below k.frames in
        has_free ok most few m.mem m.fcx m.lcx (used_by frame below) k.free k.areas (omega (arith, counted))

    -- a word of the new area
    word : IsMachine m → (free : HasFree plan m.mem m.fcx m.lcx (used_by frame below)) (i : ℕ) → i < 16 → get_or (context_of m true) i 0 < 2 ^ 32 → area_word (saved_mem m) (link_in m.fcx) i ≡ get_or (context_of m true) i 0
    word words free i lt fits = area_word-written m.mem (link_in m.fcx) (context_of m true) i (omega arith) free.area lt fits

    upper_saved : IsMachine m → (free : HasFree plan m.mem m.fcx m.lcx (used_by frame below)) (j : ℕ) → j < 14 → area_word (saved_mem m) (link_in m.fcx) (suc (suc j)) ≡ reg m (get_or upper_regs j 0)
    upper_saved words free j lt =
        let e : get_or (context_of m true) (suc (suc j)) 0 ≡ reg m (get_or upper_regs j 0) = upper_word m.pcxi m.psw m.d m.a j lt in
        word words free (suc (suc j)) (omega arith) (subst (λ x. x < 2 ^ 32) (sym e) (reg_lt m words (get_or upper_regs j 0))) ∙ e

    pub begins : IsMachine m → (d a : List ℕ) (pc psw : ℕ) (ie : Bool) (ccpn back : ℕ) (key : Key) (b : Begins plan cert m frame (k.point).state d a pc psw ie ccpn back key) → HasFree plan m.mem m.fcx m.lcx (used_by frame below) →
        ((j : ℕ) → j < 4 → reg m (get_or global_regs j 0) ≡ global_of plan (get_or global_regs j 0)) →
        Invariant image plan cert most (record (begun m d a pc psw ie ccpn) { end = Running }) (entered m b.node back) (frame ∷ below)
    begins words d a pc psw ie ccpn back key b free globals =
        let count = counted in
        let need = b.need in
        let link_small = link_in-lt m.fcx in
        record {
          stands = b.stands;
          point = b.point;
          found = b.found;
          inside = b.inside;
          flags = implied_none _ b.none;
          is = b.is;
          lower_kept = λ _. b.lower;
          frames = (
            tt,
            record {
              some = free.some;
              named = link_in-pcxi_word m.core m.ccpn m.ie true (link_in m.fcx) link_small;
              ul = ul_of-pcxi_word m.core m.ccpn m.ie true (link_in m.fcx) link_small;
              area = is_area-written m.mem (link_in m.fcx) (link_in m.fcx) (context_of m true) ∙ free.area;
              stands = k.stands;
              same_back = b.a11_is;
              need = omega arith;
              is = ap is_interrupt_stack_used (word words free 1 (omega arith) words.psw) ∙ k.is;
              upper = λ j lt ne. upper_saved words free j lt;
              globals = globals;
              goes_on = λ w ie2 ccpn2 upper small leaves.
                  subst (λ x. Resumed plan frame x w ie2 ccpn2) (sym b.a11_is)
                  (b.goes_on w ie2 ccpn2 upper small
                  (subst (λ p. Leaves m.ie p b.node (reg m) w ie2 ccpn2) (pcpn_of-pcxi_word m.core m.ccpn m.ie true (link_in m.fcx) link_small words.ccpn)
                  (subst (λ t. Leaves t (pcpn_of m.core (saved_pcxi m)) b.node (reg m) w ie2 ccpn2) (pie_of-pcxi_word m.core m.ccpn m.ie true (link_in m.fcx) link_small) leaves)));
            },
            rw (word words free 0 (omega arith) words.pcxi, word words free 3 (omega arith) (register_lt m.a words.a 11))
                (Frames-same plan cert most m.core m.mem (saved_mem m) m.pcxi (a11 m) frame below (SameAreas-written m.mem (link_in m.fcx) (used_by frame below) (context_of m true) (omega arith) free.avoids_used) k.frames),
          );
          free = free.rest;
          areas = Areas-saved m.mem m.fcx m.lcx (used_by frame below) k.free free k.areas (context_of m true) refl;
          rom = HoldsRom-written image m.mem ok (link_in m.fcx) (length (used_by frame below)) (context_of m true) free.place free.within (omega arith) k.rom;
          memory = IsPlanMemory-written plan m.mem (link_address (link_in m.fcx)) (context_of m true) k.memory;
          biv = k.biv;
          btv = k.btv;
          isp = k.isp;
          running = refl;
        }

    pub saves : HasFree plan m.mem m.fcx m.lcx (used_by frame below) → (upper : Bool) → save m upper ≡ with_context_saved m upper
    saves free upper = save-is m upper free.some free.area free.not_last
