-- The row of a point that enters no frame.
use Rattle.std.proofs.Common.{◌≡◌, ℕ, Bool, true, false, not, List, ◌++◌, length, Some, refl, sym, ap, ◌∙◌, subst, Contains}
use Rattle.std.specs.Prelude.{map}
use Rattle.std.specs.Option.{option_map}
use Rattle.indexmap.specs.IndexMap.{get}
use Rattle.tc_isa.specs.declared.shapes.Arg.{Arg}
use Rattle.tc_isa.specs.declared.shapes.Shape.{Shape}
use Rattle.tc_isa.specs.declared.shapes.Shape.TheVariants.{Load, Store}
use Rattle.elf_image.specs.Images.{ImageData}
use Rattle.tcd_plan.specs.PlanData.{PlanData}
use Rattle.value_domain.specs.Limits.{Limits}
use Rattle.value_domain.specs.declared.states.State.{State}
use Rattle.depth_cert.specs.declared.keys.Key.{Key}
use Rattle.depth_cert.specs.Known.{Known, state}
use Rattle.cfg_recover.specs.Duties.{duties_of, interrupt_duties_of, misaligned_duties_of, entered_keys}
use Rattle.cfg_recover.specs.LocalFaults.{IsFaultlessShape, IsFaultless}
use Rattle.cfg_recover.specs.declared.local_rules.Located.{Located}
use Rattle.frame_places.specs.Marks.{value_of_place}
use Rattle.frame_places.specs.Numbers.{frame_number_in}
use Rattle.frame_places.specs.Spots.{spot_eq}
use Rattle.frame_places.specs.declared.places.Mark.{Mark}
use Rattle.frame_places.specs.declared.places.Mark.TheVariants.{Plain}
use Rattle.frame_places.specs.declared.places.Marked.{Marked}
use Rattle.frame_places.specs.declared.places.Spot.TheVariants.{Point}
use Rattle.small_states.specs.CompactForms.{IsOutline}
use Rattle.small_states.specs.declared.known.Outline.{Outline}
use Rattle.frame_places.specs.declared.needs.row.NeedRow.{NeedRow}
use Rattle.depth_maker.specs.EnteredFrames.{ShapeEntersNoFrame, InstructionEntersNoFrame}
use Rattle.depth_maker.specs.InterruptHandlers.{handler_nodes_if_enabled}
use Rattle.depth_maker.proofs.HandlerLaws.{nodes_taken-is}
use Rattle.depth_maker.specs.SpotsAsPlaces.{place_of_spot}
use Rattle.depth_maker.specs.Rows.{IsRowOfOutline, IsRowOfTablePoint, HasFinishedTable}
use Rattle.depth_maker.specs.TableView.{view_of_table}
use Rattle.depth_maker.specs.declared.inputs_and_limits.Ground.{Ground}
use Rattle.depth_maker.specs.declared.rows.Source.{Source}
use Rattle.cfg_recover.proofs.AccessDuties.{owes_no_access}
use Rattle.depth_maker.proofs.EnteredLemmas.{entered_whole}
use Rattle.depth_maker.proofs.RowLaws.{enters_of, entered_frame}
use Rattle.depth_maker.proofs.RowSteps.{done_state}

pub off_of : (t : Bool) → not t ≡ true → t ≡ false
off_of true e = cc
off_of false e = refl

pub load_enters_none : (plan : PlanData) (shape : Shape) → plan.aln ≡ false → (dst : ℕ) (base : Arg) (offset size : ℕ) (signed after : Bool) → shape ≡ Load dst base offset size signed after → ShapeEntersNoFrame plan shape
load_enters_none plan shape off dst base offset size signed after is = subst (ShapeEntersNoFrame plan) (sym is) at where
  at : ShapeEntersNoFrame plan (Load dst base offset size signed after)
  at b k p u n rule = (refl, ap entered_keys (owes_no_access b plan k u (Load dst base offset size signed after) (rule.accesses refl) off))

pub store_enters_none : (plan : PlanData) (shape : Shape) → plan.aln ≡ false → (src : ℕ) (base : Arg) (offset size : ℕ) (after : Bool) → shape ≡ Store src base offset size after → ShapeEntersNoFrame plan shape
store_enters_none plan shape off src base offset size after is = subst (ShapeEntersNoFrame plan) (sym is) at where
  at : ShapeEntersNoFrame plan (Store src base offset size after)
  at b k p u n rule = (refl, ap entered_keys (owes_no_access b plan k u (Store src base offset size after) (rule.accesses refl) off))

-- only interrupts enter a frame if the instruction enters none
pub entered_plain : (b : Limits) (image : ImageData) (plan : PlanData) (k : Key) (p : ℕ) (u : State) → IsFaultless b image plan k p u → (at : InstructionEntersNoFrame image plan p)
    → entered_keys (duties_of b image plan k p u at.shape at.size) ≡ entered_keys (interrupt_duties_of plan k u)
entered_plain b image plan k p u faultless at =
    let shape = at.shape in
    let n = at.size in
    let entered = at.enters b k p u n ((faultless 10).own shape n at.code) in
    let ds = entered_keys (misaligned_duties_of b plan k u shape) in
    let es = entered_keys (interrupt_duties_of plan k u) in
    entered_whole b image plan k p u shape n
    ∙ ap (λ (l : List Key). (l ++ ds) ++ es) entered.0
    ∙ ap (λ (l : List Key). l ++ es) entered.1

-- the instruction of a plain place
pub plain_found : (image : ImageData) (plan : PlanData) (p : ℕ) → InstructionEntersNoFrame image plan p → Located
plain_found image plan p at = record { shape = at.shape; size = at.size }

pub plain_stands : (g : Ground) (k : Key) (p : ℕ) (u : State) → IsFaultless g.bounds.now g.image.now g.plan.now k p u → (at : InstructionEntersNoFrame g.image.now g.plan.now p)
    → IsFaultlessShape g.bounds.now g.image.now g.plan.now k p u (plain_found g.image.now g.plan.now p at)
unfolding plain_found
plain_stands g k p u faultless at = record { faultless = faultless; code = at.code; shape = at.shaped }

-- the row of a plain point has the handlers of the interrupts that may be taken
pub plain_point : (s : Source) → HasFinishedTable s → (k : Key) (p : ℕ) (m : Marked Known) (o : Outline) (row : NeedRow) → get spot_eq (s.table.now).places (Point k p) ≡ Some m → m.mark ≡ Plain → IsOutline m.value o
    → IsRowOfOutline s (frame_number_in (s.table.now).frames.items k) o row → IsRowOfTablePoint s k p row
unfolding view_of_table plain_found
plain_point s source k p m o row at mark is plain =
    let g = s.ground.now in
    let t = s.table.now in
    let done = source.done in
    let frames = t.frames.items in
    let value : value_of_place t.places (Point k p) ≡ Some m.value = ap (option_map (λ (m : Marked Known). m.value)) at in
    let plain_at : InstructionEntersNoFrame g.image.now g.plan.now p = done.plain (Point k p) (ap (option_map (λ (m : Marked Known). m.mark)) at ∙ ap (λ (z : Mark). Some z) mark) in
    let e = done_state g t done k p m.value value in
    let u = e.0 in
    let there : value_of_place t.places (Point k p) ≡ Some (state u) = value ∙ ap (λ (z : Known). Some z) e.1 in
    let own : (u.ie ≡ o.ie) × (u.ccpn ≡ o.ccpn) × (length u.locals.items ≡ o.held) = subst (λ (z : Known). IsOutline z o) e.1 is in
    let faultless = done.faultless k p u there in
    let found = plain_found g.image.now g.plan.now p plain_at in
    let stands = plain_stands g k p u faultless plain_at in
    let parts = entered_plain g.bounds.now g.image.now g.plan.now k p u faultless plain_at in
    let counted = (done.counted).each in
    let known = λ (l : Key) (i : Contains (entered_keys (interrupt_duties_of g.plan.now k u)) l).
    entered_frame _ _ _ (view_of_table t).cells done.closed (map place_of_spot t.points.items) frames counted k p u l
    (enters_of _ _ _ (view_of_table t).cells done.closed (map place_of_spot t.points.items) frames counted k p u found l there stands (subst (λ (z : List Key). Contains z l) (sym parts) i)) in (
      u,
      there,
      record {
        found = found;
        stands = stands;
        node = plain.node;
        held = plain.held ∙ sym own.2;
        into =
            plain.into ∙ sym (λ i. handler_nodes_if_enabled (own.0 i) (own.1 i) s.handlers.now)
            ∙ nodes_taken-is g.plan.now frames k u s.handlers.now source.handlers known
            ∙ sym (ap (λ (l : List Key). map (frame_number_in frames) l) parts);
      },
    )
