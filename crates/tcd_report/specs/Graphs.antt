-- The graph of a certificate: one line for each way on from a point, in the order of keys and
-- addresses.
pub mod EdgeLaws
pub mod KnownHandlers
use Rattle.std.specs.Prelude.{◌≡◌, ◌==◌, ℕ, false, not, List, ◌∷◌, ◌++◌, map, filter, codes, is_some, if◌then◌else◌, unwrap_or, []}
use Rattle.std.specs.List.{flat_map, list_any}
use Rattle.std.specs.Option.{option_map_or}
use Rattle.elf_image.specs.Images.{ImageData}
use Rattle.tcd_plan.specs.PlanData.{PlanData}
use Rattle.tc_isa.specs.declared.shapes.Shape.{Shape}
use Rattle.tc_isa.specs.declared.shapes.Shape.TheVariants as shape
use Rattle.value_domain.specs.Sets.{sorted_set_of}
use Rattle.depth_cert.specs.declared.keys.Key.{Key}
use Rattle.depth_cert.specs.declared.points.Point.{Point}
use Rattle.depth_cert.specs.Nodes.{NodeData, find_node}
use Rattle.depth_cert.specs.Certs.{CertData}
use Rattle.cfg_recover.specs.Code.{IsCode}
use Rattle.cfg_recover.specs.Duties.{Duty, jump, enter, resume, Owed, duties_of, successor_duties_of}
use Rattle.cfg_recover.specs.RulesHoldOrFail.{limits_of_cert}
use Rattle.cfg_recover.specs.StepEdges.{EdgeWay, to, call, irq, sys, aln, ret, rfe}
use Rattle.tcd_text.specs.HexNumbers.{hex_word}
use Rattle.tcd_report.specs.Texts.{frame_name}
use Rattle.tc_isa.specs.declared.shapes.Shape.TheVariants.{Call, Ret, Rfe}
use Rattle.value_domain.specs.declared.states.State.{State}
use Rattle.cfg_recover.specs.LocalRules.{targets_of}
use Rattle.tcd_report.specs.declared.graphs.edges.Edges.{Edges}
use Rattle.cfg_recover.specs.declared.local_rules.Located.{Located}
use Rattle.tcd_report.specs.declared.judged.Judged.{Judged}

-- ---- lines
-- what a line of the graph says: the way of a step, or the address where a point goes on after an
-- entered frame returns
pub data Arrow : Type 0 where
  goes : EdgeWay → Arrow
  back : ℕ → Arrow

-- the prefix of each line of a node in the graph: its key, a colon and a blank
abbrev pub node_line_prefix : Key → List ℕ
node_line_prefix key = frame_name key ++ codes ": "

-- the prefix of each line of a point in the graph: that of its node, the point's address and a
-- blank
abbrev pub point_line_prefix : Key → ℕ → List ℕ
point_line_prefix key p = node_line_prefix key ++ (hex_word p ++ 32 ∷ [])

-- the end of a line of the graph: its word, and an address
abbrev pub line_end_to : List ℕ → ℕ → List ℕ
line_end_to word q = word ++ (hex_word q ++ 10 ∷ [])

-- the end of the graph's line for the way of a step: its word and an address, or the word alone for
-- a return
abbrev pub way_end : EdgeWay → List ℕ
way_end (to q) = line_end_to (codes "to ") q
way_end (call q) = line_end_to (codes "call ") q
way_end (irq q) = line_end_to (codes "irq ") q
way_end (sys q) = line_end_to (codes "sys ") q
way_end (aln q) = line_end_to (codes "aln ") q
way_end ret = codes "ret" ++ 10 ∷ []
way_end rfe = codes "rfe" ++ 10 ∷ []

-- the end of the graph's line for an arrow
abbrev pub arrow_end : Arrow → List ℕ
arrow_end (goes w) = way_end w
arrow_end (back q) = line_end_to (codes "back ") q

-- a line of the graph: the key, the point's address, and the arrow
abbrev pub graph_line : Key → ℕ → Arrow → List ℕ
graph_line key p a = point_line_prefix key p ++ arrow_end a

-- ---- the arrows of a point
-- the address in the frame that a duty leads to, as a list, for the graph's `to` lines; else none
abbrev pub jump_target_of_duty : Duty → List ℕ
jump_target_of_duty (jump q t) = q ∷ []
jump_target_of_duty _ = []

-- for the graph's lines: the entry of the frame that a duty asks to enter; none for other duties
abbrev pub entry_of_duty : Duty → List ℕ
entry_of_duty (enter k t) = k.entry ∷ []
entry_of_duty _ = []

-- for the graph's lines: the number of the rule that asks for the entries of called functions
abbrev pub call_rule : ℕ
call_rule = 5

-- the number of the rule whose duties give the `aln` lines of a graph: they ask for the entry of
-- the handler of misaligned accesses
abbrev pub misaligned_rule : ℕ
misaligned_rule = 10

-- the number of the rule whose duties give the `irq` lines of a graph: they ask for the entries of
-- the handlers of interrupts
abbrev pub interrupt_rule : ℕ
interrupt_rule = 11

-- for the graph's lines: the entries that the duties of a rule ask for, in their order
abbrev pub entries_by_rule : ℕ → List Owed → List ℕ
entries_by_rule rule ds = flat_map (λ d. if d.rule == rule then entry_of_duty d.duty else []) ds

-- for the graph's `back` lines: the address where the frame goes on after the node of a key, if
-- that node has an exit
abbrev pub return_address_of_duty : CertData → Duty → List ℕ
return_address_of_duty cert (resume k q) = if option_map_or (λ n. is_some n.exit) (find_node k cert.nodes) false then q ∷ [] else []
return_address_of_duty cert _ = []

-- addresses in the order of their first places, each once, as no line of the graph is there twice
abbrev pub unique_addresses : List ℕ → List ℕ
unique_addresses [] = []
unique_addresses (x ∷ xs) = x ∷ filter (λ y. not (y == x)) (unique_addresses xs)

-- the arrow `ret` or `rfe` of a point, as a list: empty unless the instruction is a return
abbrev pub return_arrow_of : Shape → List Arrow
return_arrow_of shape.Ret = goes ret ∷ []
return_arrow_of shape.Rfe = goes rfe ∷ []
return_arrow_of _ = []

-- the addresses on the graph's `to` lines of a point, by its duties: those in the frame that they
-- lead to, ascending
abbrev pub sorted_jump_targets_of : List Owed → List ℕ
sorted_jump_targets_of ds = sorted_set_of (flat_map (λ d. jump_target_of_duty d.duty) ds)

-- the addresses on the graph's `call` lines of a point, by its duties: the entries of the called
-- functions, ascending
abbrev pub called_entries_of : List Owed → List ℕ
called_entries_of ds = sorted_set_of (entries_by_rule call_rule ds)

-- the addresses on the graph's `back` lines of a point, by its duties: where the frame goes on
-- after an entered frame returns, each once
abbrev pub unique_return_addresses_of : CertData → List Owed → List ℕ
unique_return_addresses_of cert ds = unique_addresses (flat_map (λ d. return_address_of_duty cert d.duty) ds)

-- the number of the rule whose duties give the `sys` lines of a graph: they ask for the entry of
-- the handler of system calls
abbrev pub system_call_rule : ℕ
system_call_rule = 12

-- the address on the graph's `sys` line of a point, by its duties: the entry of the handler of
-- system calls
abbrev pub system_call_entries_of : List Owed → List ℕ
system_call_entries_of ds = unique_addresses (entries_by_rule system_call_rule ds)

-- the address on the graph's `aln` line of a point, by its duties: the entry of the handler of
-- misaligned accesses that they ask for, if any
abbrev pub misaligned_entries_of : List Owed → List ℕ
misaligned_entries_of ds = unique_addresses (entries_by_rule misaligned_rule ds)

-- the addresses on the graph's `irq` lines of a point, by its duties: the entries of the interrupts
-- by ascending priority; a vector that two of them share is there once
abbrev pub interrupt_entries_of : List Owed → List ℕ
interrupt_entries_of ds = unique_addresses (entries_by_rule interrupt_rule ds)

-- the arrows of a point in the graph, by its duties and its instruction
unfoldable pub arrows_of : CertData → List Owed → Shape → List Arrow
arrows_of cert ds shape =
    map (λ q. goes (to q)) (sorted_jump_targets_of ds)
    ++ (map (λ q. goes (call q)) (called_entries_of ds)
    ++ (map back (unique_return_addresses_of cert ds)
    ++ (map (λ q. goes (sys q)) (system_call_entries_of ds)
    ++ (map (λ q. goes (aln q)) (misaligned_entries_of ds)
    ++ (map (λ q. goes (irq q)) (interrupt_entries_of ds) ++ return_arrow_of shape)))))

-- ---- the graph
-- the lines of a point in the graph: one for each of its arrows
pub record ArePointLines (image : ImageData) (plan : PlanData) (cert : CertData) (key : Key) (point : Point) (lines : List (List ℕ)) : Type 0 where
  pub shape : Shape
  pub size : ℕ
  pub code : IsCode image plan point.addr shape size
  pub are : lines ≡ map (graph_line key point.addr) (arrows_of cert (duties_of (limits_of_cert plan cert) image plan key point.addr point.state shape size) shape)

-- each element of a list, as a node or a point, has its part of the graph's lines, in order
abbrev pub AreLineParts : {A : Type 0} → (A → List (List ℕ) → Type 0) → List A → List (List (List ℕ)) → Type 0
AreLineParts Has [] [] = Unit {0}
AreLineParts Has [] (p ∷ ps) = ⊥
AreLineParts Has (x ∷ xs) [] = ⊥
AreLineParts Has (x ∷ xs) (p ∷ ps) = Has x p × AreLineParts Has xs ps

-- the lines of the graph: those of its nodes, or of a node's points, one after another
pub record AreJoinedLines {A : Type 0} (Has : A → List (List ℕ) → Type 0) (xs : List A) (lines : List (List ℕ)) : Type 0 where
  pub parts : List (List (List ℕ))
  pub each : AreLineParts Has xs parts
  pub are : lines ≡ flat_map (λ p. p) parts

-- the lines of a node in the graph: those of its points
abbrev pub AreNodeLines : ImageData → PlanData → CertData → NodeData → List (List ℕ) → Type 0
AreNodeLines image plan cert node lines = AreJoinedLines (ArePointLines image plan cert node.key) node.points lines

-- the lines of the graph of a certificate: those of its nodes
abbrev pub AreGraphLines : ImageData → PlanData → CertData → List (List ℕ) → Type 0
AreGraphLines image plan cert lines = AreJoinedLines (AreNodeLines image plan cert) cert.nodes lines

-- the text is the graph of a certificate: the lines of its nodes, one after another
pub record IsGraph (image : ImageData) (plan : PlanData) (cert : CertData) (text : List ℕ) : Type 0 where
  pub lines : List (List ℕ)
  pub are : AreGraphLines image plan cert lines
  pub text_is : text ≡ flat_map (λ l. l) lines

-- the addresses for the lines of the graph with one more at their end, unless it is there already,
-- as no line is there twice
abbrev pub with_unique_address : List ℕ → ℕ → List ℕ
with_unique_address xs x = if list_any (λ y. y == x) xs then xs else xs ++ x ∷ []

-- the addresses for the `to` lines of a point in the graph, in the order of the duties that lead to
-- them in the frame
abbrev pub jump_targets_of : List Owed → List ℕ
jump_targets_of ds = flat_map (λ d. jump_target_of_duty d.duty) ds

-- for the graph's `back` lines: the address where the frame goes on after an entered frame returns,
-- once for each entered node with an exit
abbrev pub return_addresses_of : CertData → List Owed → List ℕ
return_addresses_of cert ds = flat_map (λ d. return_address_of_duty cert d.duty) ds

-- for the graph's `call` lines: the functions that an instruction of this shape calls
abbrev pub call_targets_of : PlanData → State → ℕ → Shape → List ℕ
call_targets_of plan s p (Call target) = unwrap_or (targets_of plan s p target) []
call_targets_of plan s p _ = []

-- the entries of the frames of a kind, for the lines of the graph with its word
abbrev pub entries_of_kind : ℕ → List Key → List ℕ
entries_of_kind kind keys = flat_map (λ k. if k.kind == kind then k.entry ∷ [] else []) keys

-- for the graph's `back` lines: the address where a frame goes on after these frames, once for each
-- whose node has an exit
abbrev pub return_addresses_after : CertData → ℕ → List Key → List ℕ
return_addresses_after cert q keys = flat_map (λ k. return_address_of_duty cert (resume k q)) keys

-- for the graph: the addresses where a point goes on, by the words of its lines, are those that its
-- duties give
pub record AreEdges (cert : CertData) (ds : List Owed) (w : Edges) : Type 0 where
  pub to : w.to.items ≡ sorted_jump_targets_of ds
  pub call : w.call.items ≡ called_entries_of ds
  pub back : w.back.items ≡ unique_return_addresses_of cert ds
  pub sys : w.sys.items ≡ system_call_entries_of ds
  pub aln : w.aln.items ≡ misaligned_entries_of ds
  pub irq : w.irq.entries.items ≡ interrupt_entries_of ds

-- lines of the graph with this prefix and word, one for each address
abbrev pub lines_to : List ℕ → List ℕ → List ℕ → List ℕ
lines_to front word targets = flat_map (λ q. front ++ line_end_to word q) targets

-- the graph's `irq` lines with this front, one for each of these entries of handlers
abbrev pub irq_lines : List ℕ → List ℕ → List ℕ
irq_lines front entries = lines_to front (codes "irq ") entries

-- the text of a point's lines in the graph with this front, except one of `ret` or `rfe`
abbrev pub edge_lines_text : List ℕ → Edges → List ℕ
edge_lines_text front w =
    lines_to front (codes "to ") w.to.items
    ++ (lines_to front (codes "call ") w.call.items
    ++ (lines_to front (codes "back ") w.back.items
    ++ (lines_to front (codes "sys ") w.sys.items
    ++ (lines_to front (codes "aln ") w.aln.items
    ++ lines_to front (codes "irq ") w.irq.entries.items))))

-- the text of the graph's line that ends with `ret` or `rfe`, if the instruction is a return
abbrev pub return_line_text : List ℕ → Shape → List ℕ
return_line_text front Ret = front ++ (codes "ret" ++ 10 ∷ [])
return_line_text front Rfe = front ++ (codes "rfe" ++ 10 ∷ [])
return_line_text front _ = []

-- the successors of a point in its frame, by its instruction, as duties for the graph
abbrev pub successors_at : Judged → Point → Located → List Owed
successors_at j point found = successor_duties_of j.bounds.now j.image.now j.plan.now point.addr point.state found.shape found.size
