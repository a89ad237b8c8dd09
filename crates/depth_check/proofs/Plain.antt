-- A step inside a frame keeps the frames.
use Rattle.std.specs.FinMap as map
use Rattle.std.proofs.Common.{◌≡◌, ℕ, zero, suc, ◌+◌, ◌<◌, List, [], ◌∷◌, length, Some, sym, ap, ◌∙◌, subst, arith}
use Rattle.csa_chain.specs.MemoryBytes.{Memory}
use Rattle.csa_chain.specs.Chain.{link_address}
use Rattle.csa_chain.proofs.ChainLaws.{SameArea, SameAreas, Links-same, reverse_onto}
use Rattle.elf_image.specs.Images.{ImageData}
use Rattle.tcd_plan.specs.PlanData.{PlanData, IsPlan}
use Rattle.tc_machine.specs.declared.state.Machine.{Machine}
use Rattle.tc_machine.specs.Machine.{reg, a11, is_interrupt_stack_used}
use Rattle.tcd_plan.specs.MappedAddresses.{IsInAreas}
use Rattle.tc_machine.proofs.PlanLaws.{link_address-area}
use Rattle.tc_machine.proofs.Areas.{Areas}
use Rattle.value_domain.specs.declared.states.State.{State}
use Rattle.value_domain.specs.State.{Covers, FlagsImply}
use Rattle.depth_cert.specs.declared.points.Point.{Point}
use Rattle.depth_cert.specs.Points.{find_point}
use Rattle.depth_cert.specs.Certs.{CertData}
use Rattle.cfg_recover.specs.MovesAreOwed.{MovesTo}
use Rattle.cfg_recover.proofs.EntryLaws.{holds_covered}
use Rattle.depth_check.proofs.Frames.{Frame, Frames, used_by, Invariant, Frames-same, ImpliedBy-trans}
use Rattle.tc_machine.specs.PlanAreas.{consecutive_links, first_link, plan_areas}

-- areas of two lists, one after the other
SameAreas-onto : (m n : Memory) (xs ys : List ℕ) → SameAreas m n (reverse_onto xs ys) → SameAreas m n xs × SameAreas m n ys
SameAreas-onto m n [] ys h = (tt, h)
SameAreas-onto m n (x ∷ xs) ys h = let rest = SameAreas-onto m n xs (x ∷ ys) h in ((rest.1.0, rest.0), rest.1.1)

next_one : (l i : ℕ) → l + (i + 1) ≡ l + i + 1
next_one l i = omega arith

plus_zero : (n : ℕ) → n + 0 ≡ n
plus_zero n = omega arith

module _ (plan : PlanData) (ok : IsPlan plan) (m n : Memory) (same : (x : ℕ) → IsInAreas plan x → map.get n x ≡ map.get m x) where
  area_same : (i : ℕ) → i < plan.areas → SameArea m n (first_link plan + i)
  area_same i lt = let at = link_address-area ok i lt in record { bytes = λ j small. same (link_address (first_link plan + i) + j) (omega arith, omega arith) }

  areas_from : (i k : ℕ) → i + k ≡ plan.areas → SameAreas m n (consecutive_links (first_link plan + i) k)
  areas_from i zero e = tt
  areas_from i (suc k) e =
      (area_same i (omega arith), subst (λ l. SameAreas m n (consecutive_links l k)) (next_one (first_link plan) i) (areas_from (i + 1) k (omega arith)))

  -- all areas of the plan are the same, so are those in use and the free ones
  pub all_same : (used free : List ℕ) → reverse_onto used free ≡ plan_areas plan → SameAreas m n used × SameAreas m n free
  all_same used free whole =
      SameAreas-onto m n used free
      (subst (SameAreas m n) (sym whole) (subst (λ l. SameAreas m n (consecutive_links l plan.areas)) (plus_zero (first_link plan)) (areas_from 0 plan.areas (omega arith))))

module _ (image : ImageData) (plan : PlanData) (ok : IsPlan plan) (cert : CertData) (most : ℕ) where
  pub Invariant-moved : (m n : Machine) (frame : Frame) (below : List Frame) (k : Invariant image plan cert most m frame below) (t : State) → MovesTo image plan m n (k.point).state t → length t.regs ≡ 27 →
      (point : Point) → find_point n.pc (frame.node).points ≡ Some point → Covers point.state t → Invariant image plan cert most n frame below
  Invariant-moved m n frame below k t moves long point found covers =
      let same = all_same plan ok m.mem n.mem moves.areas (used_by frame below) k.free (k.areas).whole in
      let areas = k.areas in
      record {
        stands = k.stands;
        point = point;
        found = found;
        inside = holds_covered plan point.state t (reg n) n.ie n.ccpn covers long moves.inside;
        flags = ImpliedBy-trans _ ((k.point).state).locals.items _ (subst (λ fs. FlagsImply (point.state).locals.items fs) moves.locals covers.locals) k.flags;
        is = ap is_interrupt_stack_used moves.psw ∙ k.is;
        lower_kept = λ e r low. let l = moves.lower ((covers.context).2 e) in l.1 r low ∙ k.lower_kept l.0 r low;
        frames =
            subst (λ c. Frames plan cert most c n.mem n.pcxi (a11 n) frame below) (sym moves.core)
            (subst (λ w. Frames plan cert most m.core n.mem w (a11 n) frame below) (sym moves.pcxi)
            (subst (λ w. Frames plan cert most m.core n.mem m.pcxi w frame below) (sym moves.a11)
            (Frames-same plan cert most m.core m.mem n.mem m.pcxi (a11 m) frame below same.0 k.frames)));
        free = k.free;
        areas =
            subst (λ w. Areas plan n.mem w n.lcx (used_by frame below) k.free) (sym moves.fcx)
            (subst (λ w. Areas plan n.mem m.fcx w (used_by frame below) k.free) (sym moves.lcx)
            (record { links = Links-same m.mem n.mem m.fcx k.free same.1 areas.links; whole = areas.whole; fcx_word = areas.fcx_word; lcx_is = areas.lcx_is }));
        rom = moves.rom;
        memory = moves.memory;
        biv = moves.biv ∙ k.biv;
        btv = moves.btv ∙ k.btv;
        isp = moves.isp ∙ k.isp;
        running = moves.end;
      }
