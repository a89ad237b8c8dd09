-- What `cert`, `ship`, `cfg` and `gen` claim of the certificate that they make, and what it means
-- that they refuse to make one.
use Rattle.std.specs.Prelude.{◌≡◌, ◌≢◌, ◌≤◌, ◌-◌, ◌^◌, ◌⊎◌, ℕ, List, [], ◌∷◌, ◌++◌, codes, length, map, Ok, Some}
use Rattle.std.specs.Fmt.{decimal}
use Rattle.std.specs.FinMap.{get}
use Rattle.std.specs.List.{flat_map}
use Rattle.tcd_base.specs.Files.{FileMap}
use Rattle.elf_image.specs.Images.{ImageData}
use Rattle.elf_image.specs.ReadElf.{image_of_file}
use Rattle.elf_image.specs.WrittenElf.{elf_file}
use Rattle.tcd_plan.specs.PlanData.{PlanData}
use Rattle.tc_stmt.specs.Lines.{lines_in}
use Rattle.tc_asm.specs.DraftedSources.{draft_in}
use Rattle.tc_asm.specs.Objects.{object_of_draft}
use Rattle.tc_asm.specs.Rules.{AllLinesKeepRules}
use Rattle.tc_link.specs.Layouts.{LayoutData}
use Rattle.tc_link.specs.LayoutFaults.{layout_of}
use Rattle.tc_link.specs.Linked.{image_of_objects}
use Rattle.tc_program.specs.Placed.{Placed}
use Rattle.tc_machine.specs.declared.state.Machine.{Machine}
use Rattle.tc_machine.specs.declared.events.Event.{Event}
use Rattle.tc_machine.specs.Starting.{Starts}
use Rattle.tc_machine.specs.Safe.{AllFit, Fits}
use Rattle.tc_machine.specs.Stepping.{run}
use Rattle.tc_script.specs.Numbers.{script_number}
use Rattle.depth_cert.specs.declared.keys.Key.{Key}
use Rattle.depth_cert.specs.Nodes.{count_points}
use Rattle.depth_cert.specs.Certs.{CertData, IsCert}
use Rattle.depth_cert.specs.Grammar.{certificate_of}
use Rattle.depth_cert.specs.Spelling.{bytes_of_cert}
use Rattle.cfg_recover.specs.RulesHoldOrFail.{Accepts}
use Rattle.cfg_recover.specs.Frames.{frames}
use Rattle.tcd_report.specs.Graphs.{AreGraphLines}
use Rattle.tcd_report.specs.Graphs.EdgeLaws.{IsEdgeOnLine}
use Rattle.tcd_report.specs.Generated.{generated_image}
use Rattle.tcd_report.specs.Generated.Planned.{generated_plan}
use Rattle.tcd_reading.specs.declared.status.Status.TheVariants.{Done, Refused}
use Rattle.tcd_forms.specs.Forms.{SourceData}
use Rattle.tcd_driver.specs.Tool.{ToolCall}
use Rattle.tcd_laws.specs.Claims.{EachCallClaims, PrintsText, FilesStay, WritesFile, Held, HeldImage, HeldPlan, HeldEach, RunsMeetSafetyEquations, IsAcceptedWith, IsLeast, IsSmallest, NoneIsAccepted, RefusedAt, certified_line, refused_line}

-- ---- certificates
-- Claims C1 to C4 hold with the need of the best certificate, which reads back from its bytes. Its
-- format is 1, or 2 if none of format 1 is accepted, and none of its format is smaller.
pub record IsBest (image : ImageData) (plan : PlanData) (cert : CertData) (most : ℕ) : Type 0 where
  pub accepted : IsAcceptedWith image plan cert most
  pub safe : RunsMeetSafetyEquations image plan most
  pub format : (cert.version ≡ 1) ⊎ ((cert.version ≡ 2) × NoneIsAccepted image plan 1)
  pub least : IsLeast image plan cert
  pub smallest : IsSmallest image plan cert most
  pub reads : certificate_of (bytes_of_cert cert) ≡ Ok cert

-- no certificate is accepted, and this is what is wrong at the place where the making of one of
-- format 2 ended
pub record NoneCanBeMade (image : ImageData) (plan : PlanData) (rule : ℕ) (frame : Key) (address : ℕ) : Type 0 where
  pub none : (cert : CertData) → IsCert cert → Accepts image plan cert → ⊥
  pub why : RefusedAt image plan 2 rule frame address

-- ---- cert
-- `cert` is done: CERT holds the best certificate for the executable and the plan, each other name
-- what it held, and the need is printed
pub record CertClaims (elf_name plan_name cert_name : List ℕ) (call : ToolCall) (before : FileMap) : Type 0 where
  pub image : ImageData
  pub plan : PlanData
  pub cert : CertData
  pub most : ℕ
  pub image_held : HeldImage before elf_name image
  pub plan_held : HeldPlan before plan_name plan
  pub best : IsBest image plan cert most
  pub writes : WritesFile call before cert_name (bytes_of_cert cert)
  pub prints : PrintsText call (certified_line most (plan.areas - plan.reserve))

-- `cert` or `cfg` refuses: no certificate is accepted for the executable and the plan, the reason
-- is printed, and nothing is written
pub record CertRefuses (elf_name plan_name : List ℕ) (call : ToolCall) (before : FileMap) : Type 0 where
  pub image : ImageData
  pub plan : PlanData
  pub rule : ℕ
  pub frame : Key
  pub address : ℕ
  pub image_held : HeldImage before elf_name image
  pub plan_held : HeldPlan before plan_name plan
  pub none : NoneCanBeMade image plan rule frame address
  pub prints : PrintsText call (refused_line rule frame address)
  pub stays : FilesStay call before

-- ---- ship
-- what a source's bytes are: this text, each line of which keeps the rules, and the object of it
pub record IsAssembled (bytes : List ℕ) (source : SourceData) : Type 0 where
  pub text : source.text ≡ bytes
  pub keeps : AllLinesKeepRules (lines_in bytes)
  pub object : source.object ≡ object_of_draft (draft_in bytes)

-- Files are a plan, a layout and sources. The image is what the sources' objects are linked to by
-- the layout, and each of their statements is in it.
pub record IsBuiltOf (before : FileMap) (plan_name layout_name : List ℕ) (source_names : List (List ℕ)) (plan : PlanData) (image : ImageData) : Type 0 where
  pub layout : LayoutData
  pub sources : List SourceData
  pub plan_held : HeldPlan before plan_name plan
  pub layout_held : Held before layout_name (2 ^ 24) (λ bytes. layout_of bytes ≡ Ok layout)
  pub sources_held : HeldEach before (2 ^ 24) IsAssembled source_names sources
  pub linked : image_of_objects (map (λ source. source.object) sources) layout ≡ Ok image
  pub placed : Placed (map (λ source. source.text) sources) layout image

-- `ship` is done: ELF and CERT, two names, hold the image of the sources, which reads back, and the
-- best certificate for it. Each other name holds what it held, and the need is printed.
pub record ShipClaims (plan_name layout_name elf_name cert_name : List ℕ) (source_names : List (List ℕ)) (call : ToolCall) (before : FileMap) : Type 0 where
  pub plan : PlanData
  pub image : ImageData
  pub cert : CertData
  pub most : ℕ
  pub after : FileMap
  pub built : IsBuiltOf before plan_name layout_name source_names plan image
  pub image_reads : image_of_file (elf_file image) ≡ Ok image
  pub best : IsBest image plan cert most
  pub apart : elf_name ≢ cert_name
  pub after_held : (call.files_after).held ≡ Some after
  pub elf_written : get after elf_name ≡ Some (elf_file image)
  pub cert_written : get after cert_name ≡ Some (bytes_of_cert cert)
  pub others : (other : List ℕ) → other ≢ elf_name → other ≢ cert_name → get after other ≡ get before other
  pub prints : PrintsText call (certified_line most (plan.areas - plan.reserve))

-- `ship` refuses: no certificate is accepted for the image of the sources, the reason is printed,
-- and nothing is written
pub record ShipRefuses (plan_name layout_name : List ℕ) (source_names : List (List ℕ)) (call : ToolCall) (before : FileMap) : Type 0 where
  pub plan : PlanData
  pub image : ImageData
  pub rule : ℕ
  pub frame : Key
  pub address : ℕ
  pub built : IsBuiltOf before plan_name layout_name source_names plan image
  pub none : NoneCanBeMade image plan rule frame address
  pub prints : PrintsText call (refused_line rule frame address)
  pub stays : FilesStay call before

-- ---- cfg
-- `cfg` is done: it prints the lines of the best certificate's graph, which have the edge of each
-- step of each run, with its address and its frame; nothing is written
pub record CfgClaims (elf_name plan_name : List ℕ) (call : ToolCall) (before : FileMap) : Type 0 where
  pub image : ImageData
  pub plan : PlanData
  pub cert : CertData
  pub most : ℕ
  pub lines : List (List ℕ)
  pub image_held : HeldImage before elf_name image
  pub plan_held : HeldPlan before plan_name plan
  pub best : IsBest image plan cert most
  pub graph : AreGraphLines image plan cert lines
  pub edges :
      (m : Machine) (es : List Event) (e : Event) → Starts image plan m → AllFit plan m es → Fits plan (run m es) e
      → IsEdgeOnLine lines (run m es) e (frames image plan m es)
  pub prints : PrintsText call (flat_map (λ line. line) lines)
  pub stays : FilesStay call before

-- ---- gen
-- the word is this number of functions, 1 to 500
pub record IsFunctionCount (word : List ℕ) (functions : ℕ) : Type 0 where
  pub number : script_number word ≡ Some functions
  pub some : 1 ≤ functions
  pub few : functions ≤ 500

-- `gen` is done: claims C1 to C4 hold of the image of so many functions, with the need of its least
-- certificate of format 1, whose size is printed; nothing is written
pub record GenClaims (word : List ℕ) (call : ToolCall) (before : FileMap) : Type 0 where
  pub functions : ℕ
  pub cert : CertData
  pub most : ℕ
  pub counted : IsFunctionCount word functions
  pub accepted : IsAcceptedWith (generated_image functions) generated_plan cert most
  pub safe : RunsMeetSafetyEquations (generated_image functions) generated_plan most
  pub format : cert.version ≡ 1
  pub least : IsLeast (generated_image functions) generated_plan cert
  pub smallest : IsSmallest (generated_image functions) generated_plan cert most
  pub prints :
      PrintsText call
      (codes "functions " ++ (decimal functions ++ (codes " nodes " ++ (decimal (length cert.nodes) ++ (codes " points " ++ (decimal (count_points cert.nodes)
      ++ (codes " " ++ certified_line most (generated_plan.areas - generated_plan.reserve))))))))
  pub stays : FilesStay call before

-- `gen` refuses: no certificate of format 1 is accepted for the image of so many functions, the
-- reason is printed, and nothing is written
pub record GenRefuses (word : List ℕ) (call : ToolCall) (before : FileMap) : Type 0 where
  pub functions : ℕ
  pub rule : ℕ
  pub frame : Key
  pub address : ℕ
  pub counted : IsFunctionCount word functions
  pub none : NoneIsAccepted (generated_image functions) generated_plan 1
  pub why : RefusedAt (generated_image functions) generated_plan 1 rule frame address
  pub prints : PrintsText call (refused_line rule frame address)
  pub stays : FilesStay call before

-- ---- the laws
-- claims C1 to C4 of each `cert` with status 0, and that no certificate of its format is smaller
abbrev pub CertClaimsHold : Type 0
CertClaimsHold = (elf plan cert : List ℕ) → EachCallClaims (codes "cert" ∷ elf ∷ plan ∷ cert ∷ []) Done (CertClaims elf plan cert)

-- what each `cert` with status 1 says
abbrev pub CertRefusalsHold : Type 0
CertRefusalsHold = (elf plan cert : List ℕ) → EachCallClaims (codes "cert" ∷ elf ∷ plan ∷ cert ∷ []) Refused (CertRefuses elf plan)

-- claims C1 to C4 of each `ship` with status 0, of the very image that it wrote
abbrev pub ShipClaimsHold : Type 0
ShipClaimsHold =
    (plan layout elf cert : List ℕ) (sources : List (List ℕ))
    → EachCallClaims (codes "ship" ∷ plan ∷ layout ∷ elf ∷ cert ∷ sources) Done (ShipClaims plan layout elf cert sources)

-- what each `ship` with status 1 says
abbrev pub ShipRefusalsHold : Type 0
ShipRefusalsHold =
    (plan layout elf cert : List ℕ) (sources : List (List ℕ))
    → EachCallClaims (codes "ship" ∷ plan ∷ layout ∷ elf ∷ cert ∷ sources) Refused (ShipRefuses plan layout sources)

-- what each `cfg` with status 0 says of the graph, and claims C1 to C4
abbrev pub CfgClaimsHold : Type 0
CfgClaimsHold = (elf plan : List ℕ) → EachCallClaims (codes "cfg" ∷ elf ∷ plan ∷ []) Done (CfgClaims elf plan)

-- what each `cfg` with status 1 says
abbrev pub CfgRefusalsHold : Type 0
CfgRefusalsHold = (elf plan : List ℕ) → EachCallClaims (codes "cfg" ∷ elf ∷ plan ∷ []) Refused (CertRefuses elf plan)

-- claims C1 to C4 of each `gen` with status 0, of the image that it made
abbrev pub GenClaimsHold : Type 0
GenClaimsHold = (word : List ℕ) → EachCallClaims (codes "gen" ∷ word ∷ []) Done (GenClaims word)

-- what each `gen` with status 1 says
abbrev pub GenRefusalsHold : Type 0
GenRefusalsHold = (word : List ℕ) → EachCallClaims (codes "gen" ∷ word ∷ []) Refused (GenRefuses word)
