-- The frames that calls, interrupts and traps begin.
use Rattle.std.proofs.Common.{◌≡◌, ◌≢◌, ℕ, ◌+◌, ◌^◌, ◌<◌, ◌≤◌, inl, inr, Bool, true, false, List, [], length, get_or, set, Some, refl, sym, ap, ◌∙◌, subst, arith}
use Rattle.std.proofs.lemmas.Bool.{cases_Bool, cases_eq}
use Rattle.std.proofs.lemmas.List.{get_or-set_same}
use Rattle.std.specs.Prelude.{Option, None, IsSomeAnd, IfSome}
use Rattle.csa_chain.proofs.ContextLaws.{reg_of}
use Rattle.elf_image.specs.Images.{ImageData}
use Rattle.tcd_plan.specs.PlanData.{PlanData}
use Rattle.tc_machine.specs.declared.state.Machine.{Machine}
use Rattle.tc_machine.specs.Machine.{reg, IsMachine}
use Rattle.value_domain.specs.declared.states.State.{State}
use Rattle.value_domain.specs.Values.{IsMember}
use Rattle.value_domain.specs.State.{Covers}
use Rattle.vd_transfer.specs.Registers.{register_slot, is_lower_register}
use Rattle.vd_transfer.specs.Registers as registers
use Rattle.vd_transfer.specs.Holding.{Holds}
use Rattle.depth_cert.specs.declared.points.Exit.{Exit}
use Rattle.depth_cert.specs.declared.points.Point.{Point}
use Rattle.depth_cert.specs.Points.{find_point}
use Rattle.depth_cert.specs.Nodes.{NodeData}
use Rattle.depth_cert.specs.Certs.{CertData, IsCert}
use Rattle.cfg_recover.specs.Entries.{call_key, call_entry}
use Rattle.depth_cert.specs.Exits.{state_after_return}
use Rattle.cfg_recover.specs.RulesHoldOrFail.{Accepts}
use Rattle.cfg_recover.proofs.EntryLaws.{holds_covered, holds_same, holds_call, holds_after_call, after_length}
use Rattle.depth_check.proofs.Frames.{Frame, LowerSame, UpperSame, Leaves, by_return, from_system, from_handler, Resumed, Invariant, ImpliedBy-trans}
use Rattle.depth_check.proofs.Registers.{set_a11}
use Rattle.depth_check.proofs.Enter.{Begins}
use Rattle.cfg_recover.proofs.PointLaws.{even_at, Found}
use Rattle.value_domain.proofs.RegLaws.{implied_length}

-- ---- registers
pub lower_not : (r q : ℕ) → is_lower_register q ≡ false → is_lower_register r ≡ true → r ≢ q
lower_not r q not low e = absurd (let f : true ≡ false = sym low ∙ ap is_lower_register e ∙ not in cc)

any_a11 : (plan : PlanData) (s : State) (w : ℕ) → w < 2 ^ 32 → IsMember w (registers.reg_of plan s 27)
unfolding register_slot
any_a11 plan s w small = (omega arith, omega arith, omega arith)

-- a node's point that covers a state
pub record PointFor (node : NodeData) (q : ℕ) (s : State) : Type 0 where
  pub point : Point
  pub found : find_point q node.points ≡ Some point
  pub covers : Covers point.state s

pub point_for : (node : NodeData) (q : ℕ) (s : State) (o : Option Point) → find_point q node.points ≡ o → IsSomeAnd o (λ p. Covers p.state s) → PointFor node q s
point_for node q s None e h = absurd h
point_for node q s (Some p) e h = record { point = p; found = e; covers = h }

-- an exit that exists covers what an exit must cover
pub if_some : {A : Type 0} (P : A → Type 0) (o : Option A) (x : A) → IfSome o P → o ≡ Some x → P x
if_some P None x h e = absurd (let f : None ≡ Some x = e in cc)
if_some P (Some y) x h e = let same : y ≡ x = cc in subst P same h

module _ (image : ImageData) (plan : PlanData) (cert : CertData) (most : ℕ) (is_cert : IsCert cert) (accepted : Accepts image plan cert) where
  module _ (m : Machine) (words : IsMachine m) (frame : Frame) (below : List Frame) (k : Invariant image plan cert most m frame below) (regs : length ((k.point).state).regs ≡ 27) where
    -- ---- the point at which a frame goes on
    -- the restored upper registers are in the state
    pub upper_in : (word : ℕ → ℕ) → UpperSame (reg m) word → word 27 < 2 ^ 32 → (r : ℕ) → r < 32 → is_lower_register r ≡ false → IsMember (word r) (registers.reg_of plan (k.point).state r)
    upper_in word upper small r lt high =
        elim (cases_eq r 27) [
          | inl is ↦ subst (λ n. IsMember (word n) (registers.reg_of plan (k.point).state n)) (sym is) (any_a11 plan (k.point).state (word 27) small)
          | inr other ↦ rw (upper r lt high other) ((k.inside).regs r lt)
        ]

    -- after a call or a system call, at the point for the exit
    pub after : (x : Exit) (kind back : ℕ) (word : ℕ → ℕ) (ie : Bool) (ccpn : ℕ) → PointFor frame.node back (state_after_return (k.point).state x kind) → Holds plan word ie ccpn (state_after_return (k.point).state x kind)
        → Resumed plan frame back word ie ccpn
    after x kind back word ie ccpn at holds = record {
      point = at.point;
      even = even_at image plan cert is_cert accepted frame.node back at.point k.stands at.found;
      found = subst (λ q. find_point q (frame.node).points ≡ Some at.point) (sym (even_at image plan cert is_cert accepted frame.node back at.point k.stands at.found)) at.found;
      flags = ImpliedBy-trans _ ((k.point).state).locals.items _ (at.covers).locals k.flags;
      inside = holds_covered plan (at.point).state (state_after_return (k.point).state x kind) word ie ccpn at.covers (after_length (k.point).state x kind ∙ regs) holds;
      lower_kept = λ e. absurd (let f : false ≡ true = ((at.covers).context).2 e in cc);
    }

    -- after a handler, at the same point with the same registers
    pub again : (word : ℕ → ℕ) (ie : Bool) (ccpn : ℕ) → UpperSame (reg m) word → word 27 < 2 ^ 32 → LowerSame (reg m) word → ie ≡ m.ie → ccpn ≡ m.ccpn → Resumed plan frame m.pc word ie ccpn
    again word ie ccpn upper small lower same_ie same_ccpn = record {
      point = k.point;
      even = even_at image plan cert is_cert accepted frame.node m.pc k.point k.stands k.found;
      found = subst (λ q. find_point q (frame.node).points ≡ Some k.point) (sym (even_at image plan cert is_cert accepted frame.node m.pc k.point k.stands k.found)) k.found;
      flags = k.flags;
      inside =
          holds_same plan (k.point).state (k.point).state (reg m) word m.ie ie m.ccpn ccpn refl (λ t. (k.inside).enabled (sym same_ie ∙ t)) (rw same_ccpn (k.inside).priority) small
          (λ r lt other. elim (cases_Bool (is_lower_register r)) [ inl low ↦ lower r low | inr high ↦ upper r lt high other ]) k.inside;
      lower_kept = λ e r low. lower r low ∙ k.lower_kept e r low;
    }

    -- ---- a call
    module _ (target back : ℕ) (small : back < 2 ^ 32) (node : NodeData) (found : Found image plan cert is_cert accepted (call_key (frame.node).key target) node)
        (at : PointFor node target (call_entry (k.point).state)) (exits : IfSome node.exit (λ x. PointFor frame.node back (state_after_return (k.point).state x 1)))
        (room : length ((k.point).state).locals.items + 1 + node.need ≤ (frame.node).need) where
      call_back : get_or (set m.a 11 back) 11 0 ≡ back
      call_back = let long = (words.a).count in get_or-set_same m.a 11 back 0 (omega arith)

      call_kind : (node.key).kind ≡ 1
      call_kind = ap (λ k. k.kind) found.key

      call_goes_on : (word : ℕ → ℕ) (ie : Bool) (ccpn : ℕ) → UpperSame (reg m) word → word 27 < 2 ^ 32 → Leaves m.ie m.ccpn node (reg m) word ie ccpn → Resumed plan frame back word ie ccpn
      call_goes_on word ie ccpn upper a11_small (by_return x is kind h) =
          after x 1 back word ie ccpn (if_some (λ x. PointFor frame.node back (state_after_return (k.point).state x 1)) node.exit x exits is)
          (holds_after_call plan (k.point).state x 1 word regs (upper_in word upper a11_small) ie ccpn refl h)
      call_goes_on word ie ccpn upper a11_small (from_system x ie2 ccpn2 is kind h enabled priority) = let one = call_kind in absurd (omega arith)
      call_goes_on word ie ccpn upper a11_small (from_handler kind lower enabled priority) =
          let one = call_kind in elim kind [ inl two ↦ absurd (omega arith) | inr four ↦ absurd (omega arith) ]

      pub call_begins : Begins plan cert m frame (k.point).state m.d (set m.a 11 back) target m.psw m.ie m.ccpn back (call_key (frame.node).key target)
      call_begins = record {
        node = node;
        stands = found.stands;
        key_is = found.key;
        a11_is = call_back;
        need = room;
        point = at.point;
        found = at.found;
        inside =
            holds_covered plan (at.point).state (call_entry (k.point).state) (reg_of m.d (set m.a 11 back)) m.ie m.ccpn at.covers regs
            (holds_call plan (k.point).state (reg m) (reg_of m.d (set m.a 11 back)) m.ie m.ccpn (rw call_back small) (λ r lt other. set_a11 m.d m.a back r other) k.inside);
        none = implied_length ((at.point).state).locals.items [] (at.covers).locals;
        is = k.is ∙ sym (ap (λ k. k.is) found.key);
        lower = λ r low. set_a11 m.d m.a back r (lower_not r 27 refl low);
        goes_on = call_goes_on;
      }
