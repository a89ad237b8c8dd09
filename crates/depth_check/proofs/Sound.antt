-- An accepted certificate: every state of every run is safe.
use Rattle.std.proofs.Common.{◌≡◌, ℕ, ◌-◌, ◌^◌, ◌<◌, ◌≤◌, false, List, [], ◌∷◌, Some, refl, sym, ap, ◌∙◌, subst, arith}
use Rattle.std.specs.Prelude.{Option, None, IsSomeAnd}
use Rattle.csa_chain.specs.Chain.{link_in}
use Rattle.elf_image.specs.Images.{ImageData}
use Rattle.tcd_plan.specs.PlanData.{PlanData, IsPlan}
use Rattle.tc_machine.specs.declared.events.Event.{Event}
use Rattle.tc_machine.specs.declared.state.Machine.{Machine}
use Rattle.tc_machine.specs.Machine.{reg, a11, IsMachine}
use Rattle.tc_machine.specs.Stepping.{step, run}
use Rattle.tc_machine.specs.PlanAreas.{plan_areas}
use Rattle.tc_machine.specs.Safe.{AllFit, IsSafeAt}
use Rattle.tc_machine.specs.Starting.{Starts}
use Rattle.tc_machine.proofs.Fetched.{IsAtCode-from}
use Rattle.tc_machine.proofs.Stays.{irq_lt, stays_step, stays_run}
use Rattle.tc_machine.proofs.Areas.{Areas-start, ChainsAreWhole-from}
use Rattle.value_domain.specs.Values.{word_val}
use Rattle.depth_cert.specs.Keys.{IsKey}
use Rattle.depth_cert.specs.Points.{find_point}
use Rattle.depth_cert.specs.Nodes.{NodeData, need_or_zero, find_node}
use Rattle.depth_cert.specs.Certs.{CertData, IsCert}
use Rattle.cfg_recover.specs.Entries.{start_key, start_state}
use Rattle.cfg_recover.specs.Frames.{RunFrame, frames_after_step, frames_from, frames}
use Rattle.cfg_recover.specs.RulesHoldOrFail.{limits_of_cert, HasCoveringPoint, Accepts, certified_need}
use Rattle.cfg_recover.proofs.MoveLaws.{stores_held}
use Rattle.cfg_recover.proofs.EntryLaws.{holds_covered, holds_start, entry_length}
use Rattle.depth_check.specs.AcceptedPromises.{AcceptedIsSafe}
use Rattle.depth_check.proofs.Frames.{Frame, used_by, Invariant, Links-Frames, need-Frames}
use Rattle.depth_check.proofs.Enter.{implied_none, counted}
use Rattle.cfg_recover.proofs.PointLaws.{rules_at, Found, node_found}
use Rattle.depth_check.proofs.Entries.{PointFor, point_for}
use Rattle.depth_check.proofs.Handlers.{entry_none}
use Rattle.depth_check.proofs.Step.{Goes, at_point, step-kept}
use Rattle.value_domain.proofs.RegLaws.{implied_length}

-- the frame of the start
abbrev pub oldest : Machine → NodeData → Frame
oldest m node = record { node = node; area = 0; back = 0; word0 = reg m; locals = []; flags = [] }

module _ (image : ImageData) (plan : PlanData) (ok : IsPlan plan) (cert : CertData) (is_cert : IsCert cert) (accepted : Accepts image plan cert) where
  -- the start's node of an accepted certificate
  record Begun (most : ℕ) : Type 0 where
    pub node : NodeData
    pub found : Found image plan cert is_cert accepted (start_key image plan) node
    pub at : PointFor node image.entry (start_state plan)
    pub need : most ≡ node.need

  begun : IsKey (start_key image plan) → (o : Option NodeData) → find_node (start_key image plan) cert.nodes ≡ o → IsSomeAnd o (λ n. HasCoveringPoint n image.entry (start_state plan)) → Begun (need_or_zero o)
  begun small None e h = absurd h
  begun small (Some n) e h = record { node = n; found = node_found image plan cert is_cert accepted (start_key image plan) n small e; at = point_for n image.entry (start_state plan) (find_point image.entry n.points) refl h; need = refl }

  -- the invariant holds of every start state
  Invariant-start : (m : Machine) → Starts image plan m → (most : ℕ) (b : Begun most) → Invariant image plan cert most m (oldest m b.node) []
  Invariant-start m start most b =
      let at = b.at in
      let need = b.need in
      let found = b.found in
      record {
        stands = found.stands;
        point = at.point;
        found = subst (λ q. find_point q (b.node).points ≡ Some at.point) (sym start.pc) at.found;
        inside = holds_covered plan (at.point).state (start_state plan) (reg m) m.ie m.ccpn at.covers (entry_length (word_val plan.sp) plan.start_ie plan.start_ccpn false) (holds_start image plan m start);
        flags = implied_none _ (implied_length ((at.point).state).locals.items ((start_state plan).locals.items) (at.covers).locals ∙ entry_none (word_val plan.sp) plan.start_ie plan.start_ccpn false);
        is = start.is ∙ sym (ap (λ k. k.is) found.key);
        lower_kept = λ _ r low. refl;
        frames = (tt, record { ends = ap link_in start.pcxi; kind = ap (λ k. k.kind) found.key; need = omega arith });
        free = plan_areas plan;
        areas = Areas-start image plan ok m start;
        rom = start.rom;
        memory = start.memory;
        biv = start.biv;
        btv = start.btv;
        isp = start.isp;
        running = start.end;
      }

  -- the start's need leaves the reserve
  few_at_start : (most : ℕ) → Begun most → most ≤ plan.areas - plan.reserve
  few_at_start most b =
      let at = b.at in
      let found = b.found in
      omega (arith, b.need, ((rules_at image plan cert is_cert accepted b.node image.entry at.point found.stands at.found).holds).start found.key refl)

  module _ (most : ℕ) (few : most ≤ plan.areas - plan.reserve) where
    run-kept : (m : Machine) (es : List Event) → IsMachine m → (now : List RunFrame) → Goes image plan cert most m now → AllFit plan m es → Goes image plan cert most (run m es) (frames_from m es now)
    run-kept m [] words now g fits = g
    run-kept m (e ∷ es) words now g fits =
        run-kept (step m e) es (stays_step m e words (irq_lt ok m e fits.0) (fits.0).input (fits.0).status) (frames_after_step m e now)
        (step-kept image plan ok cert most few is_cert accepted m words e fits.0 now g) fits.1

    -- the state is safe by the invariant
    safe-kept : (m : Machine) (e : Event) → IsMachine m → (frame : Frame) (below : List Frame) → Invariant image plan cert most m frame below → IsSafeAt image plan most m e
    safe-kept m e words frame below k =
        let r = rules_at image plan cert is_cert accepted frame.node m.pc k.point k.stands k.found in
        let code = (r.holds).code in
        let within = need-Frames plan cert most m.core m.mem m.pcxi (a11 m) frame below k.frames in
        let locals = (r.holds).locals in
        let count = counted image plan ok cert most few m frame below k in
        record {
          running = k.running;
          chains = ChainsAreWhole-from ok most m (used_by frame below) k.free (Links-Frames plan cert most m.core m.mem m.pcxi (a11 m) frame below k.frames) k.areas (omega arith);
          code_in_rom = IsAtCode-from image ok m k.rom code.bytes code.inst code.spells;
          stores_in_range = stores_held (limits_of_cert plan cert) image plan (frame.node).key m e (k.point).state r.shape r.size
              (at_point image plan ok cert most few is_cert accepted m words frame below k r.shape r.size r.holds);
        }

-- ---- the theorems
module _ (image : ImageData) (plan : PlanData) (ok : IsPlan plan) (cert : CertData) (is_cert : IsCert cert) (accepted : Accepts image plan cert) (m : Machine) (es : List Event) (start : Starts image plan m) (all_fit : AllFit plan m es) where
  small : IsKey (start_key image plan)
  small = record { kind = omega arith; entry = subst (λ p. p < 2 ^ 32) start.pc (start.machine).pc; prio = omega arith }

  first : Begun image plan ok cert is_cert accepted (certified_need image plan cert)
  first = begun image plan ok cert is_cert accepted small (find_node (start_key image plan) cert.nodes) refl accepted.start

  pub few : certified_need image plan cert ≤ plan.areas - plan.reserve
  few = few_at_start image plan ok cert is_cert accepted (certified_need image plan cert) first

  -- the invariant holds after a run, with the run's frames
  pub held : Goes image plan cert (certified_need image plan cert) (run m es) (frames image plan m es)
  held =
      run-kept image plan ok cert is_cert accepted (certified_need image plan cert) few m es start.machine (record { key = start_key image plan; at = m.pc } ∷ [])
      (record {
        frame = oldest m (first).node;
        below = [];
        kept = Invariant-start image plan ok cert is_cert accepted m start (certified_need image plan cert) first;
        stands = ap (λ j. record { key = j; at = m.pc } ∷ []) ((first).found).key;
      }) all_fit

pub accepted_is_safe : AcceptedIsSafe
accepted_is_safe image plan cert ok is_cert accepted m es e start all_fit fits =
    let g = held image plan ok cert is_cert accepted m es start all_fit in
    safe-kept image plan ok cert is_cert accepted (certified_need image plan cert) (few image plan ok cert is_cert accepted m es start all_fit) (run m es) e (stays_run ok m es start.machine all_fit) g.frame g.below g.kept
