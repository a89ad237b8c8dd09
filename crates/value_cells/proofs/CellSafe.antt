-- If an accepted certificate keeps the cells, the image is safe under the plan itself.
use Rattle.std.proofs.Common.{◌≡◌, ℕ, suc, ◌+◌, ◌%◌, inl, inr, Bool, true, false, cond, List, [], ◌∷◌, ◌++◌, length, Option, Some, None, Ok, Err, refl, sym, ap, ◌∙◌, subst, arith, ◌==◌, All, Contains}
use Rattle.std.proofs.lemmas.Bool.{eq-eqb, eqb-true}
use Rattle.std.proofs.lemmas.List.Elements.{All-contains}
use Rattle.std.specs.Prelude.{IfSome, IsSomeAnd}
use Rattle.csa_chain.specs.MemoryBytes.{Memory}
use Rattle.elf_image.specs.Images.{ImageData}
use Rattle.tcd_plan.specs.PlanData.{PlanData, IsPlan}
use Rattle.tc_isa.specs.Meanings.{shape_of}
use Rattle.tc_isa.specs.InBounds.{IsShapeInBounds}
use Rattle.tc_isa.specs.declared.shapes.Shape.{Shape}
use Rattle.tc_isa.specs.declared.shapes.Shape.TheVariants.{Store}
use Rattle.tc_isa.proofs.ShapeBounds.{shape_is}
use Rattle.tc_encode.specs.Decoding.{decoded_of}
use Rattle.tc_encode.proofs.DecodeProofs.{decode_laws}
use Rattle.tc_machine.specs.declared.events.Cause.TheVariants.{NoCode}
use Rattle.tc_machine.specs.declared.events.Event.{Event}
use Rattle.tc_machine.specs.declared.state.Machine.{Machine}
use Rattle.tc_machine.specs.Machine.{reg, IsMachine}
use Rattle.tc_machine.specs.Fetching.{mapped_bytes, fetched_shape, fetched_instruction}
use Rattle.tc_machine.specs.Instructions.{access_address, is_trapping_access}
use Rattle.tc_machine.specs.Stepping.{is_interrupt_taken, step, run, load_of_fetched, load_at_pc, store_of_fetched, none_if_dead, stored}
use Rattle.tc_machine.specs.Safe.{Fits, AllFit, IsAtCode, IsSafeAt}
use Rattle.tc_mem.specs.PlanMemory.{IsPlanMemory}
use Rattle.tcd_plan.specs.MappedAddresses.{IsStoreInRange}
use Rattle.tcd_plan.proofs.ApartLaws.{rom_fits}
use Rattle.tc_machine.proofs.Fetched.{mapped_bytes-front}
use Rattle.tc_machine.proofs.Stays.{irq_lt, stays_step}
use Rattle.tc_machine.proofs.Steps.{stored-is}
use Rattle.value_domain.specs.declared.values.Val.{Val}
use Rattle.value_domain.specs.Values.{IsMember}
use Rattle.value_domain.specs.State.{AreInLattice}
use Rattle.vd_transfer.specs.Registers.{reg_of}
use Rattle.vd_transfer.specs.EffectsOnStates.{address_of_access}
use Rattle.vd_transfer.specs.Soundness.{MeetSoundnessPremises}
use Rattle.vd_transfer.proofs.HoldLaws.{address_holds}
use Rattle.depth_cert.specs.declared.points.Point.{Point}
use Rattle.depth_cert.specs.Keys.{number_of_key}
use Rattle.depth_cert.specs.Points.{IsPoint, find_point}
use Rattle.depth_cert.specs.Nodes.{NodeData, IsNode, find_node}
use Rattle.depth_cert.specs.Certs.{CertData, IsCert}
use Rattle.cfg_recover.specs.Code.{IsCode, HasCode}
use Rattle.cfg_recover.specs.Entries.{start_key}
use Rattle.cfg_recover.specs.RulesHoldOrFail.{limits_of_cert, RuleHolds, RulesHoldAtNode, Accepts}
use Rattle.cfg_recover.specs.Frames.{RunFrame, frames_after_step, frames_from, AreAllFramesHeld}
use Rattle.cfg_recover.specs.MovesAreOwed.{IsInState}
use Rattle.cfg_recover.proofs.EntryLaws.{reg_lt}
use Rattle.depth_cert.proofs.KeyLaws.{found_in}
use Rattle.cfg_recover.proofs.PointLaws.{limits_are}
use Rattle.cfg_recover.proofs.Went.{address-is}
use Rattle.value_cells.specs.declared.cells.Cell.{Cell}
use Rattle.value_cells.specs.Cells.{with_cells, IsCell}
use Rattle.value_cells.specs.Keeping.{AccessKeepsAllCellBounds, CertKeepsCellBounds}
use Rattle.value_cells.specs.Safe.{IsSafeWithCellsAt}
use Rattle.value_cells.specs.Laws.{AcceptedIsSafeWithCells}
use Rattle.value_cells.specs.BesideCells.{machine_without_cells, event_with_cell_load, event_without_cells, AreListHeadsOffCells}
use Rattle.value_cells.proofs.WithoutCells.{get-without}
use Rattle.value_cells.proofs.CellSteps.{address-hidden, status_of_taken, hidden-step}
use Rattle.value_cells.proofs.CellCode.{fetched-more, chain_there, names_areas}
use Rattle.value_cells.proofs.CellRanges.{store_there, cell_in_ram}
use Rattle.value_cells.proofs.CellStarts.{hidden_starts}
use Rattle.value_cells.proofs.CellEvents.{AreMapped, hidden_fits}
use Rattle.value_cells.proofs.CellPlan.{IsPlan-with_cells}
use Rattle.value_cells.proofs.CellKeeps.{AreKept, KeepsWritten, StoreKeeps, kept_step}

-- ---- options
if_some : {X : Type 0} (o : Option X) (P Q : X → Type 0) → IfSome o P → ((x : X) → P x → Q x) → IfSome o Q
if_some None P Q h f = tt
if_some (Some x) P Q h f = f x h

some_byte : (t : Bool) (o : Option ℕ) (b : ℕ) → cond t None o ≡ Some b → o ≡ Some b
some_byte true o b e = absurd (let f : None ≡ Some b = e in cc)
some_byte false o b e = e

-- ---- code
-- the code at pc is what is fetched
fetched_there : (image : ImageData) {plan : PlanData} → IsPlan plan → (m : Machine) → m.pc % 2 ≡ 0 → (c : IsAtCode image plan m) → fetched_instruction m ≡ Ok (shape_of c.inst, length c.bytes)
unfolding fetched_instruction
fetched_there image ok m even c =
    let s = c.spells in
    let short = (decode_laws.lengths (c.bytes ++ []) c.inst (length c.bytes) (decode_laws.spelled c.bytes [] c.inst s.spelled)).1 in
    let front = mapped_bytes-front 4 m.mem m.pc c.bytes short (rom_fits ok m.pc (length c.bytes) s.in_rom) c.there in
    ap (λ t. cond t (fetched_shape (decoded_of (mapped_bytes 4 m.mem m.pc))) (Err NoCode)) (eq-eqb _ _ even)
    ∙ ap (λ bs. fetched_shape (decoded_of bs)) front.1
    ∙ ap fetched_shape (decode_laws.spelled c.bytes front.0 c.inst s.spelled)

-- ---- what a step stores
store_hidden : (cells : List Cell) (m : Machine) (e : Event) (shape : Shape) (n : ℕ) → store_of_fetched (machine_without_cells cells m) (event_with_cell_load cells m e (load_of_fetched m (Ok (shape, n)))) (Ok (shape, n)) ≡ store_of_fetched m e (Ok (shape, n))
store_hidden cells m e (Store src base offset size after) n = ap (λ x. cond (is_trapping_access e x size) None (Some (x, size))) (address-hidden cells m base offset after)
store_hidden cells m e _ n = refl

stored_same : (cells : List Cell) (m : Machine) (e : Event) (shape : Shape) (n : ℕ) → fetched_instruction m ≡ Ok (shape, n) → fetched_instruction (machine_without_cells cells m) ≡ Ok (shape, n) → stored (machine_without_cells cells m) (event_without_cells cells m e) ≡ stored m e
unfolding stored
stored_same cells m e shape n here there =
    ap (λ t. none_if_dead m.end (cond t None (store_of_fetched (machine_without_cells cells m) (event_without_cells cells m e) (fetched_instruction (machine_without_cells cells m))))) (status_of_taken cells m e (load_at_pc m))
    ∙ ap (λ f. none_if_dead m.end (cond (is_interrupt_taken m e) None (store_of_fetched (machine_without_cells cells m) (event_without_cells cells m e) f))) there
    ∙ ap (λ f. none_if_dead m.end (cond (is_interrupt_taken m e) None (store_of_fetched (machine_without_cells cells m) (event_with_cell_load cells m e (load_of_fetched m f)) (Ok (shape, n))))) here
    ∙ ap (λ o. none_if_dead m.end (cond (is_interrupt_taken m e) None o)) (store_hidden cells m e shape n)
    ∙ ap (λ f. none_if_dead m.end (cond (is_interrupt_taken m e) None (store_of_fetched m e f))) (sym here)

module _ (image : ImageData) {plan : PlanData} (ok : IsPlan plan) (cells : List Cell) (each : All (IsCell plan) cells) (ok2 : IsPlan (with_cells plan cells)) (cert : CertData) (is_cert : IsCert cert)
    (accepted : Accepts image (with_cells plan cells) cert) (keeps : CertKeepsCellBounds image (with_cells plan cells) cells cert) (most : ℕ) where
  abbrev other : PlanData
  other = with_cells plan cells

  -- ---- what holds of all that comes after a state without the cells' bytes
  abbrev SafeFrom : Machine → Type 0
  SafeFrom h = (es : List Event) (e : Event) → AllFit other h es → Fits other (run h es) e → IsSafeAt image other most (run h es) e

  abbrev HeldFrom : Machine → List RunFrame → Type 0
  HeldFrom h fs = (es : List Event) → AllFit other h es → AreAllFramesHeld other cert (run h es) (frames_from h es fs)

  -- the machine with the cells takes the steps of the machine without them
  pub record GoesBeside (m : Machine) (fs : List RunFrame) : Type 0 where
    pub words : IsMachine m
    pub kept : AreKept cells m.mem
    pub safe : SafeFrom (machine_without_cells cells m)
    pub held : HeldFrom (machine_without_cells cells m) fs

  -- ---- the point of a state
  pub record AtPoint (m : Machine) : Type 0 where
    pub node : NodeData
    pub point : Point
    pub in_cert : Contains cert.nodes node
    pub in_node : Contains node.points point
    pub addr : point.addr ≡ m.pc
    pub inside : IsInState other m point.state
    pub even : m.pc % 2 ≡ 0
    pub setting : MeetSoundnessPremises (limits_of_cert other cert) other point.state

  at_found : (m : Machine) (f : RunFrame) → f.at ≡ m.pc → (o : Option NodeData) → find_node f.key cert.nodes ≡ o → IsSomeAnd o (λ n. IsSomeAnd (find_point f.at n.points) (λ p. IsInState other m p.state)) → AtPoint m
  at_found m f at None e h = absurd h
  at_found m f at (Some node) e h = at_point (find_point f.at node.points) refl h
    where
      in_cert : Contains cert.nodes node
      in_cert = (found_in (λ n. number_of_key n.key == number_of_key f.key) cert.nodes node e).0

      rules : RulesHoldAtNode image other cert node
      rules = All-contains (RulesHoldAtNode image other cert) cert.nodes node accepted.nodes in_cert

      is_node : IsNode cert.version node
      is_node = All-contains (IsNode cert.version) cert.nodes node is_cert.nodes in_cert

      at_point : (o : Option Point) → find_point f.at node.points ≡ o → IsSomeAnd o (λ p. IsInState other m p.state) → AtPoint m
      at_point None g k = absurd k
      at_point (Some point) g k =
          let there = found_in (λ p. p.addr == f.at) node.points point g in
          let all : (r : ℕ) → RuleHolds image other cert node point r = All-contains (λ p. (r : ℕ) → RuleHolds image other cert node p r) node.points point rules.points there.0 in
          let values : AreInLattice (limits_of_cert other cert) (point.state).regs = (all 2).values refl in
          let code : HasCode image other point.addr = ((all 3).own values).code refl in
          let is : IsPoint cert.version point = All-contains (IsPoint cert.version) node.points point is_node.points there.0 in
          let addr : point.addr ≡ m.pc = eqb-true _ _ there.1 ∙ at in
          record {
            node = node;
            point = point;
            in_cert = in_cert;
            in_node = there.0;
            addr = addr;
            inside = k;
            even = ap (λ p. p % 2) (sym addr) ∙ (code.code).even;
            setting = record { limits = limits_are other cert.version; plan = ok2; regs = (is.state).regs; values = values };
          }

  at_held : (m : Machine) (fs : List RunFrame) → AreAllFramesHeld other cert m fs → AtPoint m
  at_held m [] h = absurd h
  at_held m (f ∷ fs) h = at_found m f h.at (find_node f.key cert.nodes) refl h.point

  -- ---- one event
  -- if each possible access keeps the cells, what is written does
  written_keeps : (v : Val) (size x w : ℕ) (cs : List Cell) → IsMember w v → AccessKeepsAllCellBounds v size x cs → KeepsWritten x size w cs
  written_keeps v size x w [] member k = tt
  written_keeps v size x w (c ∷ cs) member k = (
    λ touches. let kept = k 0 c (omega arith) touches in let b = kept.bounds w member in (kept.word, kept.at, b.0, b.1),
    written_keeps v size x w cs member (λ i d lt. k (suc i) d (omega arith)),
  )

  module _ (m : Machine) (fs : List RunFrame) (e : Event) (b : GoesBeside m fs) (f : Fits plan m e) where
    fits2 : Fits other (machine_without_cells cells m) (event_without_cells cells m e)
    fits2 = hidden_fits ok cells each m e b.words (b.kept).mapped (b.kept).bounds f

    safe2 : IsSafeAt image other most (machine_without_cells cells m) (event_without_cells cells m e)
    safe2 = b.safe [] (event_without_cells cells m e) tt fits2

    names : AreListHeadsOffCells cells m
    names = let c = (safe2).chains in names_areas cells m c.used c.free c.used_chain c.free_chain

    point : AtPoint (machine_without_cells cells m)
    point = at_held (machine_without_cells cells m) fs (b.held [] tt)

    there : fetched_instruction (machine_without_cells cells m) ≡ Ok (shape_of (safe2).code_in_rom.inst, length (safe2).code_in_rom.bytes)
    there = fetched_there image ok2 (machine_without_cells cells m) (point).even (safe2).code_in_rom

    here : fetched_instruction m ≡ Ok (shape_of (safe2).code_in_rom.inst, length (safe2).code_in_rom.bytes)
    here = fetched-more cells m (shape_of (safe2).code_in_rom.inst) (length (safe2).code_in_rom.bytes) there

    code : IsCode image other (point).point.addr (shape_of (safe2).code_in_rom.inst) (length (safe2).code_in_rom.bytes)
    code = subst (λ p. IsCode image other p (shape_of (safe2).code_in_rom.inst) (length (safe2).code_in_rom.bytes)) (sym (point).addr)
        (record { even = (point).even; bytes = (safe2).code_in_rom.bytes; inst = (safe2).code_in_rom.inst; spells = (safe2).code_in_rom.spells; shaped = refl; sized = refl })

    -- the store of an instruction keeps the cells
    store_keeps : (shape : Shape) (n : ℕ) → is_interrupt_taken m e ≡ false → fetched_instruction m ≡ Ok (shape, n) → fetched_instruction (machine_without_cells cells m) ≡ Ok (shape, n) → IsShapeInBounds shape → IsCode image other (point).point.addr shape n → StoreKeeps cells m e shape
    store_keeps (Store src base offset size after) n none h t is c = λ quiet.
        let x = access_address m base offset after in
        let s = ((point).point).state in
        let in_it : IsMember x (address_of_access (limits_of_cert other cert) other (Store src base offset size after) s) =
        rw (address-is m base offset after) (address_holds.store (limits_of_cert other cert) other src base offset size after s (reg m) m.ie m.ccpn (point).setting is.1 is.2 (point).inside) in
        let there_is : stored m e ≡ Some (x, size) =
        stored-is m e (Ok (Store src base offset size after, n)) (safe2).running none h ∙ ap (λ z. cond z None (Some (x, size))) quiet in
        let range : IfSome (stored m e) (IsStoreInRange other) = subst (λ o. IfSome o (IsStoreInRange other)) (stored_same cells m e (Store src base offset size after) n h t) (safe2).stores_in_range in
        let range2 : IsStoreInRange other (x, size) = subst (λ o. IfSome o (IsStoreInRange other)) there_is range in
        (range2.0, reg_lt m b.words src, written_keeps (reg_of other s src) size x (reg m src) cells (((point).inside).regs src is.0) (keeps (point).node (point).point (point).in_cert (point).in_node (Store src base offset size after) n c x in_it))
    store_keeps _ n none h t is c = tt

    -- the next states of the two machines match
    pub beside_next : GoesBeside (step m e) (frames_after_step (machine_without_cells cells m) (event_without_cells cells m e) fs)
    beside_next =
        let shape = shape_of (safe2).code_in_rom.inst in
        let n = length (safe2).code_in_rom.bytes in
        let is : step (machine_without_cells cells m) (event_without_cells cells m e) ≡ machine_without_cells cells (step m e) = hidden-step cells m e (b.words).bytes names shape n here there in
        record {
          words = stays_step m e b.words (irq_lt ok m e f) f.input f.status;
          kept = kept_step cells m e names b.kept shape n here (λ none. store_keeps shape n none here there (shape_is (safe2).code_in_rom.inst (((safe2).code_in_rom.spells).spelled).inst) code);
          safe = subst SafeFrom is (λ es e2 fit g. b.safe (event_without_cells cells m e ∷ es) e2 (fits2, fit) g);
          held = subst (λ h. HeldFrom h (frames_after_step (machine_without_cells cells m) (event_without_cells cells m e) fs)) is (λ es fit. b.held (event_without_cells cells m e ∷ es) (fits2, fit));
        }

    -- and the state is safe
    pub beside_safe : IsSafeWithCellsAt image plan cells most m e
    beside_safe =
        let s = safe2 in
        let c = s.chains in
        let k = s.code_in_rom in
        let p = k.spells in
        record {
          safe = record {
            running = s.running;
            chains = record {
              used = c.used;
              free = c.free;
              used_chain = chain_there cells m.mem m.pcxi c.used c.used_chain;
              free_chain = chain_there cells m.mem m.fcx c.free c.free_chain;
              areas_partition = c.areas_partition;
              within_need = c.within_need;
            };
            code_in_rom = record {
              bytes = k.bytes;
              inst = k.inst;
              spells = record { spelled = p.spelled; in_rom = p.in_rom; held = p.held };
              there = λ i lt. some_byte _ _ _ (sym (get-without cells m.mem (m.pc + i)) ∙ k.there i lt);
            };
            stores_in_range = if_some (stored m e) (IsStoreInRange other) (IsStoreInRange plan)
                (subst (λ o. IfSome o (IsStoreInRange other)) (stored_same cells m e (shape_of k.inst) (length k.bytes) here there) s.stores_in_range)
                (λ at h. store_there plan cells at each h);
          };
          bounds = (b.kept).bounds;
        }

  -- ---- runs
  pub run_beside : (m : Machine) (fs : List RunFrame) (es : List Event) (e : Event) → GoesBeside m fs → AllFit plan m es → Fits plan (run m es) e → IsSafeWithCellsAt image plan cells most (run m es) e
  run_beside m fs [] e b fits f = beside_safe m fs e b f
  run_beside m fs (d ∷ es) e b fits f = run_beside (step m d) (frames_after_step (machine_without_cells cells m) (event_without_cells cells m d) fs) es e (beside_next m fs d b fits.0) fits.1 f

-- ---- the theorem
mapped_cells : {plan : PlanData} → (cells : List Cell) → All (IsCell plan) cells → (mem : Memory) → IsPlanMemory plan mem → AreMapped mem cells
mapped_cells {plan = plan} cells each mem memory x h = (memory x).1 (inr (inl (cell_in_ram plan cells x each h)))

pub cells_keep : AcceptedIsSafeWithCells
cells_keep image plan cells cert most ok are is_cert accepted safe held keeps m es e start bounds fits f =
    let ok2 = IsPlan-with_cells ok cells are in
    let start2 = hidden_starts ok cells are.each image m start in
    run_beside image ok cells are.each ok2 cert is_cert accepted keeps most m (record { key = start_key image (with_cells plan cells); at = m.pc } ∷ []) es e
    (record {
      words = start.machine;
      kept = record { mapped = mapped_cells cells are.each m.mem start.memory; bounds = bounds };
      safe = λ ds d fit g. safe (machine_without_cells cells m) ds d start2 fit g;
      held = λ ds fit. held (machine_without_cells cells m) ds start2 fit;
    }) fits f
