-- The call chains that begin at a point, by its instruction.
use Rattle.std.proofs.Common.{◌≡◌, ℕ, List, map, sym, ap, ◌∙◌, subst, Contains}
use Rattle.std.specs.HashMap.{HashMap}
use Rattle.elf_image.specs.Images.{ImageData}
use Rattle.tcd_plan.specs.PlanData.{PlanData}
use Rattle.tc_isa.specs.declared.shapes.Shape.{Shape}
use Rattle.depth_cert.specs.declared.keys.Key.{Key}
use Rattle.depth_cert.specs.declared.points.Point.{Point}
use Rattle.depth_cert.specs.Certs.{CertData}
use Rattle.cfg_recover.specs.Duties.{Owed, duties_of}
use Rattle.cfg_recover.specs.Code.{IsCode}
use Rattle.depth_cert.specs.Keys.{call_kind}
use Rattle.cfg_recover.specs.Entries.{entered_key}
use Rattle.cfg_recover.specs.RulesHoldOrFail.{limits_of_cert}
use Rattle.cfg_recover.proofs.CodeLaws.{IsCode-one}
use Rattle.cfg_recover.proofs.Members.{contains_map}
use Rattle.tcd_report.specs.Reports.Calls.{called_keys_of, CallsAt}
use Rattle.tcd_report.specs.Graphs.{call_targets_of}
use Rattle.tcd_report.specs.Reports.Heights.{IsGreatestHeight, IsGreatestHeightInList, IsHeightThroughCallee, IsHeightThroughCall}
use Rattle.tcd_report.proofs.GraphLemmas.DutyLists.{keys_told}
use Rattle.tcd_report.proofs.ReportLemmas.NodeLaws.{map_contains}
use Rattle.tcd_report.proofs.ReportLemmas.MostLaws.{most_same}

pub rows_told :
    {S : Type 0} (image : ImageData) (plan : PlanData) (cert : CertData) (heights : HashMap Key ℕ S) (key : Key) (point : Point) (shape : Shape) (size : ℕ) (ts : List ℕ) (n : ℕ) → IsCode image plan point.addr shape size
    → ts ≡ call_targets_of plan point.state point.addr shape → IsGreatestHeightInList (λ t. IsHeightThroughCallee heights (entered_key key call_kind t)) ts n → IsGreatestHeight (IsHeightThroughCall image plan cert heights key point) n
rows_told image plan cert heights key point shape size ts n code ts_is most =
    let owed_at : Shape → ℕ → List Owed = λ s l. duties_of (limits_of_cert plan cert) image plan key point.addr point.state s l in
    let keys : called_keys_of (owed_at shape size) ≡ map (entered_key key call_kind) ts = keys_told (limits_of_cert plan cert) image plan cert key point.addr point.state shape size ∙ ap (map (entered_key key call_kind)) (sym ts_is) in
    most_same _ (IsHeightThroughCall image plan cert heights key point) n
    (λ m h.
    let t : ℕ = h.0 in
    let there : Contains (called_keys_of (owed_at shape size)) (entered_key key call_kind t) = subst (λ ks. Contains ks (entered_key key call_kind t)) (sym keys) (contains_map (entered_key key call_kind) ts t (h.1).0) in
    (entered_key key 1 t, (record { shape = shape; size = size; code = code; called = there }, (h.1).1)))
    (λ m h.
    let k : Key = h.0 in
    let at : CallsAt image plan cert key point k = (h.1).0 in
    let one = IsCode-one image plan point.addr at.shape shape at.size size at.code code in
    let same_duties : owed_at at.shape at.size ≡ owed_at shape size = ap (λ s. owed_at s at.size) one.0 ∙ ap (λ l. owed_at shape l) one.1 in
    let it = map_contains (entered_key key call_kind) ts k (subst (λ ks. Contains ks k) (ap called_keys_of same_duties ∙ keys) at.called) in
    (it.0, ((it.1).0, subst (λ j. IsHeightThroughCallee heights j m) (sym (it.1).1) (h.1).1)))
    most
