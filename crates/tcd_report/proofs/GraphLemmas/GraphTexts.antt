-- The text of a point's lines, by the addresses where it goes on.
use Rattle.std.proofs.Common.{◌≡◌, ℕ, List, [], ◌∷◌, ◌++◌, map, refl, sym, ap, ◌∙◌, subst, append_assoc, append-nil}
use Rattle.std.specs.Prelude.{codes}
use Rattle.std.specs.List.{flat_map}
use Rattle.std.proofs.lemmas.Grind.{flat_map-append}
use Rattle.elf_image.specs.Images.{ImageData}
use Rattle.tcd_plan.specs.PlanData.{PlanData}
use Rattle.tc_isa.specs.declared.shapes.Shape.{Shape}
use Rattle.tc_isa.specs.declared.shapes.Shape.TheVariants as shape
use Rattle.value_domain.specs.Limits.{Limits}
use Rattle.depth_cert.specs.declared.keys.Key.{Key}
use Rattle.depth_cert.specs.declared.points.Point.{Point}
use Rattle.depth_cert.specs.Certs.{CertData}
use Rattle.cfg_recover.specs.Duties.{Owed, duties_of}
use Rattle.cfg_recover.specs.Code.{IsCode}
use Rattle.cfg_recover.specs.RulesHoldOrFail.{limits_of_cert}
use Rattle.cfg_recover.specs.StepEdges.{to, call, irq, sys, aln, ret, rfe}
use Rattle.tcd_report.specs.declared.graphs.edges.Edges.{Edges}
use Rattle.tcd_report.specs.Graphs.{Arrow, goes, back, line_end_to, point_line_prefix, graph_line, return_arrow_of, sorted_jump_targets_of, called_entries_of, unique_return_addresses_of, system_call_entries_of, misaligned_entries_of, interrupt_entries_of, arrows_of, ArePointLines, AreEdges, lines_to, edge_lines_text, return_line_text}
use Rattle.tcd_report.specs.Texts.{GrowsByLines}

-- lines that are made of a list, one after another
lines_joined : {A : Type 0} (f : A → List ℕ) (xs : List A) → flat_map (λ l. l) (map f xs) ≡ flat_map f xs
lines_joined f [] = refl
lines_joined f (x ∷ xs) = ap (λ l. f x ++ l) (lines_joined f xs)

-- one line with this word for each address
lines_with : (key : Key) (p : ℕ) (word : List ℕ) (arrow : ℕ → Arrow) → ((q : ℕ) → graph_line key p (arrow q) ≡ point_line_prefix key p ++ line_end_to word q) → (qs : List ℕ) → flat_map (graph_line key p) (map arrow qs) ≡ lines_to (point_line_prefix key p) word qs
lines_with key p word arrow e [] = refl
lines_with key p word arrow e (q ∷ qs) = ap (λ l. l ++ flat_map (graph_line key p) (map arrow qs)) (e q) ∙ ap (λ l. (point_line_prefix key p ++ line_end_to word q) ++ l) (lines_with key p word arrow e qs)

leaving_is : (key : Key) (p : ℕ) (s : Shape) → flat_map (graph_line key p) (return_arrow_of s) ≡ return_line_text (point_line_prefix key p) s
leaving_is key p shape.Ret = append-nil (graph_line key p (goes ret))
leaving_is key p shape.Rfe = append-nil (graph_line key p (goes rfe))
leaving_is key p s = refl

joined_six : (a b c d e f g : List ℕ) → a ++ (b ++ (c ++ (d ++ (e ++ (f ++ g))))) ≡ (a ++ (b ++ (c ++ (d ++ (e ++ f))))) ++ g
joined_six a b c d e f g =
    sym (
    append_assoc a (b ++ (c ++ (d ++ (e ++ f)))) g
    ∙ ap (λ l. a ++ l) (append_assoc b (c ++ (d ++ (e ++ f))) g ∙ ap (λ l. b ++ l) (append_assoc c (d ++ (e ++ f)) g ∙ ap (λ l. c ++ l) (append_assoc d (e ++ f) g ∙ ap (λ l. d ++ l) (append_assoc e f g))))
    )

module _ (key : Key) (p : ℕ) (cert : CertData) (ds : List Owed) (s : Shape) (w : Edges) where
  pub point_text : AreEdges cert ds w → flat_map (λ l. l) (map (graph_line key p) (arrows_of cert ds s)) ≡ edge_lines_text (point_line_prefix key p) w ++ return_line_text (point_line_prefix key p) s
  unfolding arrows_of
  point_text h =
      let g : Arrow → List ℕ = graph_line key p in
      let a1 : List Arrow = map (λ q. goes (to q)) (sorted_jump_targets_of ds) in
      let a2 : List Arrow = map (λ q. goes (call q)) (called_entries_of ds) in
      let a3 : List Arrow = map back (unique_return_addresses_of cert ds) in
      let a4 : List Arrow = map (λ q. goes (sys q)) (system_call_entries_of ds) in
      let a5 : List Arrow = map (λ q. goes (aln q)) (misaligned_entries_of ds) in
      let a6 : List Arrow = map (λ q. goes (irq q)) (interrupt_entries_of ds) in
      let a7 : List Arrow = return_arrow_of s in
      let split : flat_map g (arrows_of cert ds s) ≡ flat_map g a1 ++ (flat_map g a2 ++ (flat_map g a3 ++ (flat_map g a4 ++ (flat_map g a5 ++ (flat_map g a6 ++ flat_map g a7))))) =
      flat_map-append g a1 (a2 ++ (a3 ++ (a4 ++ (a5 ++ (a6 ++ a7)))))
      ∙ ap (λ l. flat_map g a1 ++ l) (flat_map-append g a2 (a3 ++ (a4 ++ (a5 ++ (a6 ++ a7))))
      ∙ ap (λ l. flat_map g a2 ++ l) (flat_map-append g a3 (a4 ++ (a5 ++ (a6 ++ a7)))
      ∙ ap (λ l. flat_map g a3 ++ l) (flat_map-append g a4 (a5 ++ (a6 ++ a7))
      ∙ ap (λ l. flat_map g a4 ++ l) (flat_map-append g a5 (a6 ++ a7) ∙ ap (λ l. flat_map g a5 ++ l) (flat_map-append g a6 a7))))) in
      let l1 : flat_map g a1 ≡ lines_to (point_line_prefix key p) (codes "to ") w.to.items = lines_with key p (codes "to ") (λ q. goes (to q)) (λ q. refl) (sorted_jump_targets_of ds) ∙ ap (lines_to (point_line_prefix key p) (codes "to ")) (sym h.to) in
      let l2 : flat_map g a2 ≡ lines_to (point_line_prefix key p) (codes "call ") w.call.items = lines_with key p (codes "call ") (λ q. goes (call q)) (λ q. refl) (called_entries_of ds) ∙ ap (lines_to (point_line_prefix key p) (codes "call ")) (sym h.call) in
      let l3 : flat_map g a3 ≡ lines_to (point_line_prefix key p) (codes "back ") w.back.items = lines_with key p (codes "back ") back (λ q. refl) (unique_return_addresses_of cert ds) ∙ ap (lines_to (point_line_prefix key p) (codes "back ")) (sym h.back) in
      let l4 : flat_map g a4 ≡ lines_to (point_line_prefix key p) (codes "sys ") w.sys.items = lines_with key p (codes "sys ") (λ q. goes (sys q)) (λ q. refl) (system_call_entries_of ds) ∙ ap (lines_to (point_line_prefix key p) (codes "sys ")) (sym h.sys) in
      let l5 : flat_map g a5 ≡ lines_to (point_line_prefix key p) (codes "aln ") w.aln.items = lines_with key p (codes "aln ") (λ q. goes (aln q)) (λ q. refl) (misaligned_entries_of ds) ∙ ap (lines_to (point_line_prefix key p) (codes "aln ")) (sym h.aln) in
      let l6 : flat_map g a6 ≡ lines_to (point_line_prefix key p) (codes "irq ") w.irq.entries.items = lines_with key p (codes "irq ") (λ q. goes (irq q)) (λ q. refl) (interrupt_entries_of ds) ∙ ap (lines_to (point_line_prefix key p) (codes "irq ")) (sym h.irq) in
      let l7 : flat_map g a7 ≡ return_line_text (point_line_prefix key p) s = leaving_is key p s in
      lines_joined g (arrows_of cert ds s)
      ∙ split
      ∙ ap (λ l. l ++ (flat_map g a2 ++ (flat_map g a3 ++ (flat_map g a4 ++ (flat_map g a5 ++ (flat_map g a6 ++ flat_map g a7)))))) l1
      ∙ ap (λ l. lines_to (point_line_prefix key p) (codes "to ") w.to.items ++ (l ++ (flat_map g a3 ++ (flat_map g a4 ++ (flat_map g a5 ++ (flat_map g a6 ++ flat_map g a7)))))) l2
      ∙ ap (λ l. lines_to (point_line_prefix key p) (codes "to ") w.to.items ++ (lines_to (point_line_prefix key p) (codes "call ") w.call.items ++ (l ++ (flat_map g a4 ++ (flat_map g a5 ++ (flat_map g a6 ++ flat_map g a7)))))) l3
      ∙ ap (λ l. lines_to (point_line_prefix key p) (codes "to ") w.to.items ++ (lines_to (point_line_prefix key p) (codes "call ") w.call.items ++ (lines_to (point_line_prefix key p) (codes "back ") w.back.items ++ (l ++ (flat_map g a5 ++ (flat_map g a6 ++ flat_map g a7)))))) l4
      ∙ ap (λ l. lines_to (point_line_prefix key p) (codes "to ") w.to.items ++ (lines_to (point_line_prefix key p) (codes "call ") w.call.items ++ (lines_to (point_line_prefix key p) (codes "back ") w.back.items ++ (lines_to (point_line_prefix key p) (codes "sys ") w.sys.items ++ (l ++ (flat_map g a6 ++ flat_map g a7)))))) l5
      ∙ ap (λ l. lines_to (point_line_prefix key p) (codes "to ") w.to.items ++ (lines_to (point_line_prefix key p) (codes "call ") w.call.items ++ (lines_to (point_line_prefix key p) (codes "back ") w.back.items ++ (lines_to (point_line_prefix key p) (codes "sys ") w.sys.items ++ (lines_to (point_line_prefix key p) (codes "aln ") w.aln.items ++ (l ++ flat_map g a7)))))) l6
      ∙ ap (λ l. lines_to (point_line_prefix key p) (codes "to ") w.to.items ++ (lines_to (point_line_prefix key p) (codes "call ") w.call.items ++ (lines_to (point_line_prefix key p) (codes "back ") w.back.items ++ (lines_to (point_line_prefix key p) (codes "sys ") w.sys.items ++ (lines_to (point_line_prefix key p) (codes "aln ") w.aln.items ++ (lines_to (point_line_prefix key p) (codes "irq ") w.irq.entries.items ++ l)))))) l7
      ∙ joined_six (lines_to (point_line_prefix key p) (codes "to ") w.to.items) (lines_to (point_line_prefix key p) (codes "call ") w.call.items) (lines_to (point_line_prefix key p) (codes "back ") w.back.items) (lines_to (point_line_prefix key p) (codes "sys ") w.sys.items)
      (lines_to (point_line_prefix key p) (codes "aln ") w.aln.items) (lines_to (point_line_prefix key p) (codes "irq ") w.irq.entries.items) (return_line_text (point_line_prefix key p) s)

-- a text that grows by these grows by the point's lines
pub point_lines :
    (image : ImageData) (plan : PlanData) (cert : CertData) (key : Key) (point : Point) (shape : Shape) (size : ℕ) (b : Limits) (w : Edges) (before text after : List ℕ) → b ≡ limits_of_cert plan cert → IsCode image plan point.addr shape size
    → AreEdges cert (duties_of b image plan key point.addr point.state shape size) w → text ≡ before ++ edge_lines_text (point_line_prefix key point.addr) w → after ≡ text ++ return_line_text (point_line_prefix key point.addr) shape → GrowsByLines (ArePointLines image plan cert key point) before after
point_lines image plan cert key point shape size b w before text after same code are front whole =
    let ds : List Owed = duties_of (limits_of_cert plan cert) image plan key point.addr point.state shape size in
    let ways : AreEdges cert ds w = subst (λ x. AreEdges cert (duties_of x image plan key point.addr point.state shape size) w) same are in
    record {
      lines = map (graph_line key point.addr) (arrows_of cert ds shape);
      are = record { shape = shape; size = size; code = code; are = refl };
      grown =
          whole
          ∙ ap (λ l. l ++ return_line_text (point_line_prefix key point.addr) shape) front
          ∙ append_assoc before (edge_lines_text (point_line_prefix key point.addr) w) (return_line_text (point_line_prefix key point.addr) shape)
          ∙ ap (λ l. before ++ l) (sym (point_text key point.addr cert ds shape w ways));
    }
