-- The view of a task, put together from its parts.
use Rattle.std.proofs.Common.{◌≡◌, ℕ, ◌≤◌, Bool, false, cond, List, [], length, map, take, ap, ◌∙◌, ◌==◌}
use Rattle.std.proofs.lemmas.List.{take_all}
use Rattle.elf_image.specs.Images.{ImageData, SegmentData, segment_data}
use Rattle.elf_image.specs.declared.segments.Segment.{Segment}
use Rattle.tcd_base.specs.declared.range.Range.{Range}
use Rattle.tcd_plan.specs.declared.plans.Device.{Device}
use Rattle.tcd_plan.specs.PlanData.{PlanData}
use Rattle.task_chains.specs.Tasks.{TasksData, task_at}
use Rattle.task_chains.specs.Views.{view_segment, view_image_of, view_plan_of}
use Rattle.task_chains.specs.Devices.{view_devices}

-- ---- the plan
abbrev with_parts : PlanData → List Range → List Range → List Device → List ℕ → ℕ → Bool → PlanData
with_parts p rom ram devices irqs sp ie = record p { rom = rom; ram = ram; devices = devices; irqs = irqs; sp = sp; start_ie = ie }

pub plan_parts : (p plan : PlanData) (tasks : TasksData) (u : ℕ) (rom ram : List Range) (devices : List Device) (irqs : List ℕ) (sp : ℕ) (ie : Bool) → p ≡ plan → rom ≡ plan.rom → ram ≡ [] → devices ≡ view_devices plan tasks → irqs ≡ plan.irqs
    → sp ≡ (task_at tasks u).sp → ie ≡ cond (u == 0) plan.start_ie false → with_parts p rom ram devices irqs sp ie ≡ view_plan_of plan tasks u
plan_parts p plan tasks u rom ram devices irqs sp ie p_is rom_is ram_is devices_is irqs_is sp_is ie_is =
    let off = cond (u == 0) plan.start_ie false in
    ap (λ (x : PlanData). with_parts x rom ram devices irqs sp ie) p_is
    ∙ ap (λ (l : List Range). with_parts plan l ram devices irqs sp ie) rom_is
    ∙ ap (λ (l : List Range). with_parts plan plan.rom l devices irqs sp ie) ram_is
    ∙ ap (λ (l : List Device). with_parts plan plan.rom [] l irqs sp ie) devices_is
    ∙ ap (λ (l : List ℕ). with_parts plan plan.rom [] (view_devices plan tasks) l sp ie) irqs_is
    ∙ ap (λ (x : ℕ). with_parts plan plan.rom [] (view_devices plan tasks) plan.irqs x ie) sp_is
    ∙ ap (λ (b : Bool). with_parts plan plan.rom [] (view_devices plan tasks) plan.irqs (task_at tasks u).sp b) ie_is

-- ---- the image
abbrev image_of : ℕ → List SegmentData → ImageData
image_of entry segments = record { entry = entry; segments = segments }

pub image_parts : (image : ImageData) (tasks : TasksData) (u entry : ℕ) (made items : List Segment) (i : ℕ) → entry ≡ (task_at tasks u).entry → map segment_data items ≡ image.segments → length items ≤ i
    → map segment_data made ≡ map (view_segment tasks) (map segment_data (take i items)) → image_of entry (map segment_data made) ≡ view_image_of image tasks u
image_parts image tasks u entry made items i entry_is items_are past made_are =
    let whole = take_all i items past in
    ap (λ (x : ℕ). image_of x (map segment_data made)) entry_is
    ∙ ap (λ (l : List SegmentData). image_of (task_at tasks u).entry l) (made_are ∙ ap (λ (l : List Segment). map (view_segment tasks) (map segment_data l)) whole ∙ ap (λ (l : List SegmentData). map (view_segment tasks) l) items_are)
