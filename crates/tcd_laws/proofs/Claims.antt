-- What the claims of all commands share: from the records of the driver to plain equations.
pub mod Checking
pub mod Making
pub mod Running
pub mod Building
pub mod Booting
pub mod CellsAndTasks
pub mod Endings
use Rattle.std.proofs.Common.{◌≡◌, ◌≤◌, ◌==◌, ◌^◌, ℕ, zero, suc, List, [], ◌∷◌, ◌++◌, length, slice_get, Option, Some, None, sym, ap, subst, ◌∙◌, arith}
use Rattle.std.proofs.lemmas.Bool.{eqb-true}
use Rattle.std.proofs.lemmas.List.Elements.{All-contains}
use Rattle.std.specs.List.{find}
use Rattle.tcd_base.specs.Files.{FileMap}
use Rattle.elf_image.specs.Images.{ImageData}
use Rattle.tcd_plan.specs.PlanData.{PlanData}
use Rattle.tc_machine.specs.Safe.{Safe}
use Rattle.tc_machine.proofs.Guards.{safe_says}
use Rattle.depth_cert.specs.declared.keys.Key.{Key}
use Rattle.depth_cert.specs.Known.{Known, CoversKnown, state, leaving}
use Rattle.depth_cert.specs.Keys.{number_of_key}
use Rattle.depth_cert.proofs.KeyLaws.{found_in}
use Rattle.depth_cert.specs.Nodes.{NodeData, IsNode, find_node, need_or_zero}
use Rattle.depth_cert.specs.Certs.{CertData, IsCert}
use Rattle.cfg_recover.specs.Entries.{start_key}
use Rattle.cfg_recover.specs.RulesHoldOrFail.{IsFirstFault}
use Rattle.cfg_recover.specs.Assignments.{point, exit}
use Rattle.cfg_recover.specs.CertRefusals.{IsRefusal}
use Rattle.cfg_recover.proofs.RefusalLaws.{refusals_say}
use Rattle.value_domain.specs.VersionLimits.{limits_for}
use Rattle.depth_maker.specs.LeastCertMade.{need_in_cert}
use Rattle.depth_maker.proofs.Accepted.{at_point, at_exit, find_agrees}
use Rattle.tcd_driver.specs.Tool.{ToolCall}
use Rattle.tcd_driver.specs.Headlines.{HoldsFile, HoldEachFile, IsOnlyFileWritten, IsAcceptedWithNeed}
use Rattle.tcd_driver.specs.BestCert.{IsLeastOfItsFormat}
use Rattle.tcd_laws.specs.Claims.{PrintsText, FilesStay, WritesFile, Held, HeldEach, RunsMeetSafetyEquations, IsAcceptedWith, IsLeast, IsSmallest, FailsFirstAt, RefusedAt}

-- ---- calls
-- the text by which the sink grew, as it is printed
pub prints_text : (call : ToolCall) (printed said : List ℕ) → PrintsText call printed → printed ≡ said → PrintsText call said
prints_text call printed said grows is text written = grows text written ∙ ap (λ (p : List ℕ). Some (text ++ p)) is

pub files_stay : (call : ToolCall) (before after : FileMap) → (call.files_after).held ≡ Some after → after ≡ before → FilesStay call before
files_stay call before after held is = held ∙ ap Some is

pub writes_file : (call : ToolCall) (before after : FileMap) (name bytes : List ℕ) → (call.files_after).held ≡ Some after → IsOnlyFileWritten before after name bytes → WritesFile call before name bytes
writes_file call before after name bytes held w = (after, held, w.written, w.others)

-- ---- files that are read
pub held : {m : FileMap} {name : List ℕ} {most : ℕ} {Is : List ℕ → Type 0} → HoldsFile m name most Is → Held m name most Is
held h = (h.bytes, h.held, h.short, h.form)

held_count : {A : Type 0} (m : FileMap) (most : ℕ) (Is : List ℕ → A → Type 0) (names : List (List ℕ)) (xs : List A) → HoldEachFile m most Is names xs → length names ≡ length xs
held_count m most Is [] [] h = omega arith
held_count m most Is [] (x ∷ xs) h = absurd h
held_count m most Is (name ∷ names) [] h = absurd h
held_count m most Is (name ∷ names) (x ∷ xs) h = ap suc (held_count m most Is names xs h.1)

held_at : {A : Type 0} (m : FileMap) (most : ℕ) (Is : List ℕ → A → Type 0) (names : List (List ℕ)) (xs : List A) → HoldEachFile m most Is names xs
    → (k : ℕ) (name : List ℕ) (x : A) → slice_get names k ≡ Some name → slice_get xs k ≡ Some x → HoldsFile m name most (λ bytes. Is bytes x)
held_at m most Is [] [] h k name x a b = absurd (let e : None ≡ Some name = a in cc)
held_at m most Is [] (y ∷ ys) h k name x a b = absurd h
held_at m most Is (n ∷ names) [] h k name x a b = absurd h
held_at {A} m most Is (n ∷ names) (y ∷ ys) h zero name x a b =
    let e : n ≡ name = let here : Some n ≡ Some name = a in cc in
    let f : y ≡ x = let here : Some y ≡ Some x = b in cc in
    subst (λ (z : A). HoldsFile m name most (λ bytes. Is bytes z)) f (subst (λ (z : List ℕ). HoldsFile m z most (λ bytes. Is bytes y)) e h.0)
held_at m most Is (n ∷ names) (y ∷ ys) h (suc k) name x a b = held_at m most Is names ys h.1 k name x a b

pub held_each : {A : Type 0} (m : FileMap) (most : ℕ) (Is : List ℕ → A → Type 0) (names : List (List ℕ)) (xs : List A) → HoldEachFile m most Is names xs → HeldEach m most Is names xs
held_each m most Is names xs h = (held_count m most Is names xs h, λ k name x a b. held (held_at m most Is names xs h k name x a b))

-- ---- runs
pub runs_meet : (image : ImageData) (plan : PlanData) (most : ℕ) → Safe image plan most → RunsMeetSafetyEquations image plan most
runs_meet image plan most safe states events n e walk starts fits last = safe_says image plan most states events n e safe walk starts fits last

-- ---- certificates
pub accepted_with : (image : ImageData) (plan : PlanData) (cert : CertData) (most : ℕ) → IsAcceptedWithNeed image plan cert most → IsAcceptedWith image plan cert most
accepted_with image plan cert most h = record { accepted = h.accepted; start = h.start; start_is = h.start_is; need = h.need_is }

pub least : (image : ImageData) (plan : PlanData) (cert : CertData) → IsLeastOfItsFormat image plan cert → IsLeast image plan cert
least image plan cert h = (
  h.is_cert,
  λ other is same accepted. record {
    needs = λ frame. h.needs other frame is same accepted;
    points = λ frame address s at.
        let c = h.states other is same accepted (point frame address) (state s) at in
        let there = at_point other frame address c.known c.at in
        (there.0, c.at ∙ ap Some there.1, subst (λ (w : Known). CoversKnown w (state s)) there.1 c.covers);
    exits = λ frame x at.
        let c = h.states other is same accepted (exit frame) (leaving x) at in
        let there = at_exit other frame c.known c.at in
        (there.0, c.at ∙ ap Some there.1, subst (λ (w : Known). CoversKnown w (leaving x)) there.1 c.covers);
  },
)

-- a list is searched alike by keys of one number
start_need : (c d : CertData) (start : Key) (n : NodeData) → IsCert c → IsCert d → ((k : Key) → need_in_cert c k ≤ need_in_cert d k) → find_node start c.nodes ≡ Some n → n.need ≤ need_or_zero (find_node start d.nodes)
start_need c d start n is_c is_d less e =
    let found = found_in (λ m. number_of_key m.key == number_of_key start) c.nodes n e in
    let same : number_of_key n.key ≡ number_of_key start = eqb-true _ _ found.1 in
    let key = (All-contains (IsNode c.version) c.nodes n is_c.nodes found.0).key in
    let here : need_in_cert c n.key ≡ need_or_zero (find_node start c.nodes) =
    ap need_or_zero (find_agrees c.version n.key c.nodes key is_c.nodes) ∙ ap (λ (x : ℕ). need_or_zero (find (λ (m : NodeData). number_of_key m.key == x) c.nodes)) same in
    let there : need_in_cert d n.key ≡ need_or_zero (find_node start d.nodes) =
    ap need_or_zero (find_agrees d.version n.key d.nodes key is_d.nodes) ∙ ap (λ (x : ℕ). need_or_zero (find (λ (m : NodeData). number_of_key m.key == x) d.nodes)) same in
    let le : need_in_cert c n.key ≤ need_in_cert d n.key = less n.key in
    let is : need_or_zero (find_node start c.nodes) ≡ n.need = ap need_or_zero e in
    omega arith

pub smallest : (image : ImageData) (plan : PlanData) (cert : CertData) (most : ℕ) → IsAcceptedWithNeed image plan cert most → IsLeastOfItsFormat image plan cert → IsSmallest image plan cert most
smallest image plan cert most h l other need is same by =
    let le = start_need cert other (start_key image plan) h.start l.is_cert is (λ k. l.needs other k is same by.accepted) h.start_is in
    let mine = h.need_is in
    let its = by.need in
    let found : need_or_zero (find_node (start_key image plan) other.nodes) ≡ (by.start).need = ap need_or_zero by.start_is in
    omega arith

pub fails_first_at : (image : ImageData) (plan : PlanData) (cert : CertData) (rule : ℕ) (frame : Key) (address : ℕ) → IsFirstFault image plan cert rule frame address → FailsFirstAt image plan cert rule frame address
fails_first_at image plan cert rule frame address h = record { fails = h.fails; start = h.start; first = h.least }

pub refused_at : (image : ImageData) (plan : PlanData) (version rule : ℕ) (frame : Key) (address : ℕ) → IsRefusal image plan version rule frame address → RefusedAt image plan version rule frame address
refused_at image plan version rule frame address h = refusals_say (limits_for plan version) image plan rule frame address h
