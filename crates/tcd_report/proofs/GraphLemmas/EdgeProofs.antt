-- The edges of steps are on the graph's lines.
use Rattle.std.proofs.Common.{◌≡◌, ◌==◌, ℕ, zero, suc, ◌%◌, ◌^◌, ◌<◌, true, false, cond, List, [], ◌∷◌, ◌++◌, map, length, get_or, Result, Ok, Err, inl, inr, refl, sym, ap, ◌∙◌, subst, arith, lit≤, lit<}
use Rattle.std.specs.Prelude.{Contains, if◌then◌else◌}
use Rattle.std.proofs.lemmas.Bool.{cases_Bool, eqb-true, eq-eqb}
use Rattle.std.proofs.lemmas.List.Elements.{Contains-append_right}
use Rattle.elf_image.specs.Images.{ImageData}
use Rattle.tcd_plan.specs.PlanData.{PlanData, IsPlan}
use Rattle.tcd_plan.proofs.ApartLaws.{rom_fits}
use Rattle.tc_isa.specs.declared.shapes.Shape.{Shape}
use Rattle.tc_isa.specs.declared.shapes.Shape.TheVariants as shape
use Rattle.tc_isa.specs.Meanings.{shape_of}
use Rattle.tc_encode.specs.Decoding.{decoded_of}
use Rattle.tc_encode.proofs.DecodeProofs.{decode_laws}
use Rattle.tc_machine.specs.declared.events.Cause.{Cause}
use Rattle.tc_machine.specs.declared.events.Cause.TheVariants.{NoCode}
use Rattle.tc_machine.specs.declared.events.Event.{Event}
use Rattle.tc_machine.specs.declared.state.Machine.{Machine}
use Rattle.tc_machine.specs.Machine.{IsMachine}
use Rattle.tc_machine.specs.Instructions.{wrapping_sum, is_trapping_instruction}
use Rattle.tc_machine.specs.Fetching.{mapped_bytes, fetched_shape, fetched_instruction, fetched_size}
use Rattle.tc_machine.specs.Stepping.{is_interrupt_taken, step, run}
use Rattle.tc_machine.specs.Safe.{AllFit, IsAtCode}
use Rattle.tc_machine.proofs.Fetched.{mapped_bytes-front}
use Rattle.tc_machine.proofs.Stays.{irq_lt, stays_step}
use Rattle.value_domain.specs.declared.states.State.{State}
use Rattle.depth_cert.specs.declared.keys.Key.{Key}
use Rattle.depth_cert.specs.declared.points.Point.{Point}
use Rattle.depth_cert.specs.Keys.{IsKey, number_of_key}
use Rattle.depth_cert.specs.Nodes.{NodeData, IsNode}
use Rattle.depth_cert.specs.Certs.{CertData, IsCert}
use Rattle.cfg_recover.specs.Code.{IsCode}
use Rattle.cfg_recover.specs.Entries.{start_key, call_key, handler_key}
use Rattle.cfg_recover.specs.Duties.{Owed, duties_of}
use Rattle.cfg_recover.specs.RulesHoldOrFail.{limits_of_cert}
use Rattle.cfg_recover.specs.Frames.{RunFrame, frames_after_edge, frames_after_step, frames_from, frames}
use Rattle.cfg_recover.specs.EdgesAreOwed.{IsEdgeWayOwed, IsEdgeOwedByFrames}
use Rattle.cfg_recover.specs.StepEdges.{EdgeWay, to, call, irq, sys, aln, ret, rfe, edge_way_of_shape, edge_way_by_trap, edge_way_in_fetch, edge_way_of_step}
use Rattle.cfg_recover.proofs.CodeLaws.{IsCode-one}
use Rattle.cfg_recover.proofs.Members.{contains_first, contains_map, contains_flat}
use Rattle.tcd_report.specs.Graphs.{Arrow, goes, graph_line, arrows_of, ArePointLines, AreLineParts, AreJoinedLines, AreNodeLines, AreGraphLines, return_arrow_of}
use Rattle.tcd_report.specs.Graphs.EdgeLaws.{IsEdgeOnLine, LinesHaveAllEdgesLaw}
use Rattle.tcd_report.proofs.GraphLemmas.Arrows.{to_there, call_there, irq_there, sys_there, aln_there, leaving_there}
use Rattle.depth_cert.proofs.KeyLaws.{found_in, one_number}

-- ---- a step with the way of a return has a return instruction
shape_ret : (s : Shape) (q : ℕ) → edge_way_of_shape s q ≡ ret → s ≡ shape.Ret
shape_ret (shape.Call t) q e = absurd (let f : call q ≡ ret = e in cc)
shape_ret shape.Ret q e = refl
shape_ret shape.Rfe q e = absurd (let f : rfe ≡ ret = e in cc)
shape_ret (shape.Syscall tin) q e = absurd (let f : sys q ≡ ret = e in cc)
shape_ret _ q e = absurd (let f : to q ≡ ret = e in cc)

shape_rfe : (s : Shape) (q : ℕ) → edge_way_of_shape s q ≡ rfe → s ≡ shape.Rfe
shape_rfe (shape.Call t) q e = absurd (let f : call q ≡ rfe = e in cc)
shape_rfe shape.Ret q e = absurd (let f : ret ≡ rfe = e in cc)
shape_rfe shape.Rfe q e = refl
shape_rfe (shape.Syscall tin) q e = absurd (let f : sys q ≡ rfe = e in cc)
shape_rfe _ q e = absurd (let f : to q ≡ rfe = e in cc)

-- without an interrupt and a misaligned trap, the way is that of the instruction
way_ret : (m : Machine) (e : Event) (s : Shape) (n : ℕ) → fetched_instruction m ≡ Ok (s, n) → edge_way_of_step m e ≡ ret → s ≡ shape.Ret
way_ret m e s n f w =
    elim (cases_Bool (is_interrupt_taken m e)) [
      | inl taken ↦ absurd (let g : irq (step m e).pc ≡ ret = sym (ap (λ b. if b then irq (step m e).pc else edge_way_in_fetch m e (fetched_instruction m) (step m e).pc) taken) ∙ w in cc)
      | inr not_taken ↦
          let by : edge_way_by_trap m e s (step m e).pc ≡ ret = sym (ap (λ b. if b then irq (step m e).pc else edge_way_in_fetch m e (fetched_instruction m) (step m e).pc) not_taken ∙ ap (λ r. edge_way_in_fetch m e r (step m e).pc) f) ∙ w in
          elim (cases_Bool (is_trapping_instruction m e s)) [
            | inl trapped ↦ absurd (let g : aln (step m e).pc ≡ ret = sym (ap (λ b. if b then aln (step m e).pc else edge_way_of_shape s (step m e).pc) trapped) ∙ by in cc)
            | inr goes_on ↦ shape_ret s (step m e).pc (sym (ap (λ b. if b then aln (step m e).pc else edge_way_of_shape s (step m e).pc) goes_on) ∙ by)
          ]
    ]

way_rfe : (m : Machine) (e : Event) (s : Shape) (n : ℕ) → fetched_instruction m ≡ Ok (s, n) → edge_way_of_step m e ≡ rfe → s ≡ shape.Rfe
way_rfe m e s n f w =
    elim (cases_Bool (is_interrupt_taken m e)) [
      | inl taken ↦ absurd (let g : irq (step m e).pc ≡ rfe = sym (ap (λ b. if b then irq (step m e).pc else edge_way_in_fetch m e (fetched_instruction m) (step m e).pc) taken) ∙ w in cc)
      | inr not_taken ↦
          let by : edge_way_by_trap m e s (step m e).pc ≡ rfe = sym (ap (λ b. if b then irq (step m e).pc else edge_way_in_fetch m e (fetched_instruction m) (step m e).pc) not_taken ∙ ap (λ r. edge_way_in_fetch m e r (step m e).pc) f) ∙ w in
          elim (cases_Bool (is_trapping_instruction m e s)) [
            | inl trapped ↦ absurd (let g : aln (step m e).pc ≡ rfe = sym (ap (λ b. if b then aln (step m e).pc else edge_way_of_shape s (step m e).pc) trapped) ∙ by in cc)
            | inr goes_on ↦ shape_rfe s (step m e).pc (sym (ap (λ b. if b then aln (step m e).pc else edge_way_of_shape s (step m e).pc) goes_on) ∙ by)
          ]
    ]

-- ---- the keys of frames are valid keys
AllKeys : List RunFrame → Type 0
AllKeys [] = Unit {0}
AllKeys (f ∷ fs) = IsKey f.key × AllKeys fs

IsBelow : EdgeWay → Type 0
IsBelow (call q) = q < 2 ^ 32
IsBelow (irq q) = q < 2 ^ 32
IsBelow (sys q) = q < 2 ^ 32
IsBelow (aln q) = q < 2 ^ 32
IsBelow _ = Unit {0}

shape_below : (s : Shape) (q : ℕ) → q < 2 ^ 32 → IsBelow (edge_way_of_shape s q)
unfolding IsBelow
shape_below (shape.Call t) q h = h
shape_below (shape.Syscall tin) q h = h
shape_below _ q h = tt

in_below : (m : Machine) (e : Event) (r : Result (Shape × ℕ) Cause) (q : ℕ) → q < 2 ^ 32 → IsBelow (edge_way_in_fetch m e r q)
unfolding IsBelow
in_below m e (Ok found) q h = elim (is_trapping_instruction m e found.0) as (λ b. IsBelow (if b then aln q else edge_way_of_shape found.0 q)) [ true ↦ h | false ↦ shape_below found.0 q h ]
in_below m e (Err cause) q h = tt

step_below : (m : Machine) (e : Event) → (step m e).pc < 2 ^ 32 → IsBelow (edge_way_of_step m e)
unfolding IsBelow
step_below m e h = elim (is_interrupt_taken m e) as (λ b. IsBelow (if b then irq (step m e).pc else edge_way_in_fetch m e (fetched_instruction m) (step m e).pc)) [ true ↦ h | false ↦ in_below m e (fetched_instruction m) (step m e).pc h ]

keys_by : (p next prio : ℕ) (w : EdgeWay) (fs : List RunFrame) → prio < 2 ^ 8 → IsBelow w → AllKeys fs → AllKeys (frames_after_edge p next prio w fs)
unfolding AllKeys IsBelow
keys_by p next prio (to q) [] small h k = k
keys_by p next prio (to q) (f ∷ fs) small h k = k
keys_by p next prio (call q) [] small h k = k
keys_by p next prio (call q) (f ∷ fs) small h k = (record { kind = lit≤ tt; entry = h; prio = (k.0).prio }, k)
keys_by p next prio (irq q) [] small h k = k
keys_by p next prio (irq q) (f ∷ fs) small h k = (record { kind = lit≤ tt; entry = h; prio = small }, k)
keys_by p next prio (sys q) [] small h k = k
keys_by p next prio (sys q) (f ∷ fs) small h k = (record { kind = lit≤ tt; entry = h; prio = (k.0).prio }, k)
keys_by p next prio (aln q) [] small h k = k
keys_by p next prio (aln q) (f ∷ fs) small h k = (record { kind = lit≤ tt; entry = h; prio = (k.0).prio }, k)
keys_by p next prio ret [] small h k = k
keys_by p next prio ret (f ∷ fs) small h k = k.1
keys_by p next prio rfe [] small h k = k
keys_by p next prio rfe (f ∷ fs) small h k = k.1

keys_from : {plan : PlanData} → IsPlan plan → (m : Machine) (es : List Event) (fs : List RunFrame) → IsMachine m → AllFit plan m es → AllKeys fs → AllKeys (frames_from m es fs)
keys_from ok m [] fs is fit k = k
keys_from ok m (e ∷ es) fs is fit k =
    let small : e.irq < 2 ^ 8 = irq_lt ok m e fit.0 in
    let after : IsMachine (step m e) = stays_step m e is small fit.0.input fit.0.status in
    keys_from ok (step m e) es (frames_after_step m e fs) after fit.1 (keys_by m.pc (wrapping_sum m.pc (fetched_size (fetched_instruction m))) e.irq (edge_way_of_step m e) fs small (step_below m e after.pc) k)

-- ---- the parts of joined lines
part_at : {A : Type 0} (Has : A → List (List ℕ) → Type 0) (xs : List A) (ps : List (List (List ℕ))) (x : A) (k : ℕ) → AreLineParts Has xs ps → k < length xs → get_or xs k x ≡ x → (p : List (List ℕ)) × (Has x p × Contains ps p)
part_at Has [] ps x k h lt e = absurd (omega arith)
part_at Has (y ∷ ys) [] x k h lt e = absurd h
part_at Has (y ∷ ys) (p ∷ ps) x zero h lt e = (p, (subst (λ z. Has z p) e h.0, contains_first p ps))
part_at Has (y ∷ ys) (p ∷ ps) x (suc k) h lt e =
    let r = part_at Has ys ps x k h.1 (omega arith) e in
    (r.0, ((r.1).0, Contains-append_right (p ∷ []) ps r.0 (r.1).1))

part_of : {A : Type 0} (Has : A → List (List ℕ) → Type 0) (xs : List A) (lines : List (List ℕ)) (x : A) → AreJoinedLines Has xs lines → Contains xs x → (p : List (List ℕ)) × (Has x p × ((l : List ℕ) → Contains p l → Contains lines l))
part_of Has xs lines x j c =
    let r = part_at Has xs j.parts x c.0 j.each c.1 c.2 in
    (r.0, ((r.1).0, λ l at. subst (λ ls. Contains ls l) (sym j.are) (contains_flat (λ p. p) l r.0 j.parts (r.1).1 at)))

-- ---- a point's lines
arrow_there : (cert : CertData) (ds : List Owed) (s : Shape) (key : Key) (prio : ℕ) (fs : List RunFrame) (q : ℕ) (w : EdgeWay) → (w ≡ ret → s ≡ shape.Ret) → (w ≡ rfe → s ≡ shape.Rfe) → IsEdgeWayOwed ds key prio fs q w → Contains (arrows_of cert ds s) (goes w)
arrow_there cert ds s key prio fs q (to x) r x_r o = to_there cert ds s x o
arrow_there cert ds s key prio fs q (call x) r x_r o = call_there cert ds s (call_key key x) o
arrow_there cert ds s key prio fs q (irq x) r x_r o = irq_there cert ds s (handler_key 2 x prio) o
arrow_there cert ds s key prio fs q (sys x) r x_r o = sys_there cert ds s (handler_key 3 x key.prio) o
arrow_there cert ds s key prio fs q (aln x) r x_r o = aln_there cert ds s (handler_key 4 x key.prio) o
arrow_there cert ds s key prio fs q ret r x_r o = leaving_there cert ds s (goes ret) (subst (λ t. Contains (return_arrow_of t) (goes ret)) (sym (r refl)) (contains_first (goes ret) []))
arrow_there cert ds s key prio fs q rfe r x_r o = leaving_there cert ds s (goes rfe) (subst (λ t. Contains (return_arrow_of t) (goes rfe)) (sym (x_r refl)) (contains_first (goes rfe) []))

module _ (image : ImageData) (plan : PlanData) (cert : CertData) where
  lines_for : Key → ℕ → State → Shape → ℕ → List (List ℕ)
  lines_for key p st s n = map (graph_line key p) (arrows_of cert (duties_of (limits_of_cert plan cert) image plan key p st s n) s)

  lines_same : (j k : Key) (x p : ℕ) (st : State) (t s : Shape) (l n : ℕ) → j ≡ k → x ≡ p → t ≡ s → l ≡ n → lines_for j x st t l ≡ lines_for k p st s n
  lines_same j k x p st t s l n a b c d =
      ap (λ y. lines_for y x st t l) a ∙ ap (λ y. lines_for k y st t l) b ∙ ap (λ y. lines_for k p st y l) c ∙ ap (λ y. lines_for k p st s y) d

  line_there : (node : NodeData) (point : Point) (lines : List (List ℕ)) (key : Key) (p : ℕ) (s : Shape) (n : ℕ) (a : Arrow) → ArePointLines image plan cert node.key point lines → node.key ≡ key → point.addr ≡ p → IsCode image plan p s n
      → Contains (arrows_of cert (duties_of (limits_of_cert plan cert) image plan key p point.state s n) s) a → Contains lines (graph_line key p a)
  unfolding lines_for
  line_there node point lines key p s n a h same at code there =
      let one = IsCode-one image plan p h.shape s h.size n (subst (λ x. IsCode image plan x h.shape h.size) at h.code) code in
      let all : lines ≡ lines_for key p point.state s n = h.are ∙ lines_same node.key key point.addr p point.state h.shape s h.size n same at one.0 one.1 in
      subst (λ ls. Contains ls (graph_line key p a)) (sym all) (contains_map (graph_line key p) _ a there)

  -- the machine fetches the instruction at its pc
  fetched_there : IsPlan plan → (m : Machine) (at : IsAtCode image plan m) → m.pc % 2 ≡ 0 → fetched_instruction m ≡ Ok (shape_of at.inst, length at.bytes)
  unfolding fetched_instruction
  fetched_there ok m at even =
      let spelled = (at.spells).spelled in
      let short = (decode_laws.lengths (at.bytes ++ []) at.inst (length at.bytes) (decode_laws.spelled at.bytes [] at.inst spelled)).1 in
      let front = mapped_bytes-front 4 m.mem m.pc at.bytes short (rom_fits ok m.pc (length at.bytes) (at.spells).in_rom) at.there in
      ap (λ t. cond t (fetched_shape (decoded_of (mapped_bytes 4 m.mem m.pc))) (Err NoCode)) (eq-eqb _ _ even)
      ∙ ap (λ bs. fetched_shape (decoded_of bs)) front.1
      ∙ ap fetched_shape (decode_laws.spelled at.bytes front.0 at.inst spelled)

  on_line : IsPlan plan → IsCert cert → (lines : List (List ℕ)) → AreGraphLines image plan cert lines → (m : Machine) (e : Event) → IsAtCode image plan m → (fs : List RunFrame) → AllKeys fs → IsEdgeOwedByFrames image plan cert m e fs → IsEdgeOnLine lines m e fs
  unfolding AllKeys
  on_line ok is_cert lines joined m e at [] keys o = o
  on_line ok is_cert lines joined m e at (f ∷ fs) keys o =
      let node_in = found_in (λ (n : NodeData). number_of_key n.key == number_of_key f.key) cert.nodes o.node o.stands in
      let is_node : IsNode cert.version o.node = subst (IsNode cert.version) ((node_in.0).2) (is_cert.nodes (node_in.0).0 o.node (node_in.0).1) in
      let same : (o.node).key ≡ f.key = one_number (o.node).key f.key is_node.key keys.0 (eqb-true _ _ node_in.1) in
      let point_in = found_in (λ (p : Point). p.addr == m.pc) (o.node).points o.point o.found in
      let here : (o.point).addr ≡ m.pc = eqb-true _ _ point_in.1 in
      let nodes = part_of (AreNodeLines image plan cert) cert.nodes lines o.node joined node_in.0 in
      let points = part_of (ArePointLines image plan cert (o.node).key) (o.node).points nodes.0 o.point (nodes.1).0 point_in.0 in
      let even : m.pc % 2 ≡ 0 = (o.code).even in
      let there : IsCode image plan m.pc (shape_of at.inst) (length at.bytes) = record { even = even; bytes = at.bytes; inst = at.inst; spells = at.spells; shaped = refl; sized = refl } in
      let one : shape_of at.inst ≡ o.shape = (IsCode-one image plan m.pc (shape_of at.inst) o.shape (length at.bytes) o.size there o.code).0 in
      let gets = fetched_there ok m at even in
      let ds : List Owed = duties_of (limits_of_cert plan cert) image plan f.key m.pc (o.point).state o.shape o.size in
      let arrow : Contains (arrows_of cert ds o.shape) (goes (edge_way_of_step m e)) =
      arrow_there cert ds o.shape f.key e.irq (f ∷ fs) (step m e).pc (edge_way_of_step m e) (λ w. sym one ∙ way_ret m e (shape_of at.inst) (length at.bytes) gets w) (λ w. sym one ∙ way_rfe m e (shape_of at.inst) (length at.bytes) gets w) o.owed in
      (nodes.1).1 _ ((points.1).1 _ (line_there o.node o.point points.0 f.key m.pc o.shape o.size (goes (edge_way_of_step m e)) (points.1).0 same here o.code arrow))

pub edges_stand : LinesHaveAllEdgesLaw
unfolding AllKeys
edges_stand image plan cert lines ok is_cert entry safe owed joined m es e start fit fits =
    on_line image plan cert ok is_cert lines joined (run m es) e (safe m es e start fit fits).code_in_rom (frames image plan m es)
    (keys_from ok m es (record { key = start_key image plan; at = m.pc } ∷ []) start.machine fit (record { kind = lit≤ tt; entry = entry; prio = lit< tt }, tt))
    (owed m es e start fit fits)
