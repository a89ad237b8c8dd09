-- From the written bytes and the faults to the maker's result.
use Rattle.std.proofs.Common.{◌≡◌, ℕ, ◌≤◌, ◌^◌, List, length, Some, None, sym, ap, ◌∙◌, subst}
use Rattle.std.specs.Prelude.{map, Result, Ok, Err}
use Rattle.std.specs.declared.alloc.Global.{Global}
use Rattle.std.specs.declared.vec.Vec.{Vec}
use Rattle.tcd_base.specs.declared.errors.FormErr.{FormErr}
use Rattle.elf_image.specs.Images.{ImageData}
use Rattle.tcd_plan.specs.PlanData.{PlanData}
use Rattle.value_domain.specs.Limits.{Limits}
use Rattle.depth_cert.specs.declared.keys.Key.{Key}
use Rattle.depth_cert.specs.Certs.{CertData}
use Rattle.depth_cert.specs.Grammar.{certificate_of}
use Rattle.depth_cert.proofs.BackLaws.{written_is_read}
use Rattle.depth_cert.proofs.SizeLaws.{cert_most}
use Rattle.cfg_recover.specs.Entries.{start_key}
use Rattle.cfg_recover.specs.Assignments.{point, exit}
use Rattle.cfg_recover.specs.CertRefusals.{IsRefusalFault, IsLeastAssignment, IsRefusal, IsRefusalWithLimits, fault, recursion, need}
use Rattle.depth_maker.specs.DutiesMonotone.{AreMakerInputs}
use Rattle.depth_maker.specs.Answers.{HasLimitsOfFormat, IsRightMakeErr, MakeErrNamesRefusal, NamesDerivedFault}
use Rattle.depth_maker.specs.LeastCertMade.{AreLeastCertBytes, IsLeastCert}
use Rattle.depth_maker.specs.SpelledCert.{AreFixpointCertBytesForInputs}
use Rattle.depth_maker.specs.Needs.{AreLeastNeedsOrTooMany, AreLeastTableNeeds}
use Rattle.depth_maker.specs.Recursing.{IsFirstRecursion}
use Rattle.depth_maker.specs.Rows.{HasFinishedTable}
use Rattle.depth_maker.specs.SpotsAsPlaces.{place_of_spot}
use Rattle.depth_maker.specs.TableView.{view_of_table}
use Rattle.depth_maker.specs.declared.inputs_and_limits.Ground.{Ground}
use Rattle.depth_maker.specs.declared.answering.MakeErr.{MakeErr}
use Rattle.depth_maker.specs.declared.answering.MakeErr.TheVariants.{Refused, NoMemory}
use Rattle.frame_places.specs.declared.places.Spot.TheVariants.{Point, Exit}
use Rattle.frame_places.specs.declared.refusals.Refusal.TheVariants.{Fault}
use Rattle.depth_maker.specs.declared.rows.Source.{Source}
use Rattle.depth_maker.proofs.CountLaws.{counted_within}
use Rattle.depth_maker.proofs.Lawful.{lawful}
use Rattle.depth_maker.proofs.LeastStands.{least_stands}
use Rattle.depth_maker.proofs.MadeLaws.{made, refused}

-- ---- refusals
pub fault_refuses : (g : Ground) (rule : ℕ) (k : Key) (p : ℕ) → NamesDerivedFault g (Fault rule (Point k p)) → MakeErrNamesRefusal g (Refused rule k p)
fault_refuses g rule k p a =
    let e : point k p ≡ point a.0 a.1 = a.2 in
    let key : a.0 ≡ k = cc in
    let addr : a.1 ≡ p = cc in
    fault rule k p (subst (λ (n : ℕ). IsRefusalFault g.bounds.now g.image.now g.plan.now rule k n) addr (subst (λ (z : Key). IsRefusalFault g.bounds.now g.image.now g.plan.now rule z a.1) key a.3))

pub no_exit_refuses : (g : Ground) (rule : ℕ) (k : Key) → NamesDerivedFault g (Fault rule (Exit k)) → ⊥
no_exit_refuses g rule k a = absurd (let e : exit k ≡ point a.0 a.1 = a.2 in cc)

-- the table's assignment is the least
pub least_of : (s : Source) → HasFinishedTable s → IsLeastAssignment (s.ground.now).bounds.now (s.ground.now).image.now (s.ground.now).plan.now (view_of_table s.table.now).cells
unfolding view_of_table
least_of s source =
    let done = source.done in
    least_stands _ _ _ (lawful _ _ _ (s.ground.now).sound) (view_of_table s.table.now).cells done.derived done.closed done.faultless
    (counted_within (view_of_table s.table.now).cells (map place_of_spot (s.table.now).points.items) (s.table.now).frames.items (done.counted).each (done.counted).few)

pub recursion_refuses : (s : Source) (k : Key) (p : ℕ) → HasFinishedTable s → IsFirstRecursion s (Some (k, p)) → MakeErrNamesRefusal s.ground.now (Refused 14 k p)
recursion_refuses s k p source first = recursion (view_of_table s.table.now).cells k p (least_of s source) first

pub need_refuses : (s : Source) (k : Key) → k ≡ start_key (s.ground.now).image.now (s.ground.now).plan.now → HasFinishedTable s → IsFirstRecursion s None → AreLeastNeedsOrTooMany s None → MakeErrNamesRefusal s.ground.now (Refused 14 k k.entry)
need_refuses s k is source ends above =
    subst (λ (z : Key). MakeErrNamesRefusal s.ground.now (Refused 14 z z.entry)) (sym is) (need (view_of_table s.table.now).cells (least_of s source) (record { ends = ends; above = above }))

-- ---- what is made
pub are_made : (g : Ground) (version : ℕ) (bytes : List ℕ) → HasLimitsOfFormat g version → AreFixpointCertBytesForInputs g version bytes → AreLeastCertBytes g.image.now g.plan.now version bytes
are_made g version bytes limits w = record {
  cert = w.0;
  spell = w.1;
  is_cert = w.2.is_cert;
  made = made g.image.now g.plan.now version w.0 (subst (λ (b : Limits). AreMakerInputs b g.image.now g.plan.now) limits g.sound) ((g.sound).is_image).entry w.2;
}

pub is_refused : (g : Ground) (version : ℕ) (e : MakeErr) → HasLimitsOfFormat g version → MakeErrNamesRefusal g e → IsRightMakeErr g.image.now g.plan.now version e
is_refused g version (Refused rule key addr) limits r =
    let is : IsRefusal g.image.now g.plan.now version rule key addr = subst (λ (b : Limits). IsRefusalWithLimits b g.image.now g.plan.now rule key addr) limits r in
    (is, refused g.image.now g.plan.now version rule key addr (subst (λ (b : Limits). AreMakerInputs b g.image.now g.plan.now) limits g.sound) ((g.sound).is_image).entry is)
is_refused g version NoMemory limits r = tt

-- ---- the certificate that the bytes spell
pub made_small : (image : ImageData) (plan : PlanData) (version : ℕ) (bytes : List ℕ) → AreLeastCertBytes image plan version bytes → length bytes ≤ 2 ^ 30
made_small image plan version bytes m = subst (λ (l : List ℕ). length l ≤ 2 ^ 30) (sym m.spell) (cert_most m.cert m.is_cert)

ok_or_err : (r : Result CertData FormErr) (c : CertData) (f : FormErr) → r ≡ Ok c → r ≡ Err f → ⊥
ok_or_err r c f e g = cc

-- the bytes are read
pub made_is_read : (image : ImageData) (plan : PlanData) (version : ℕ) (bytes : List ℕ) (f : FormErr) → AreLeastCertBytes image plan version bytes → certificate_of bytes ≡ Err f → ⊥
made_is_read image plan version bytes f m bad = ok_or_err (certificate_of bytes) m.cert f (ap certificate_of m.spell ∙ written_is_read m.cert m.is_cert) bad

-- the certificate that is read
abbrev value_or : CertData → Result CertData FormErr → CertData
value_or c (Ok x) = x
value_or c (Err e) = c

pub made_read : (image : ImageData) (plan : PlanData) (version : ℕ) (bytes : List ℕ) (c : CertData) → AreLeastCertBytes image plan version bytes → certificate_of bytes ≡ Ok c → IsLeastCert image plan version c
made_read image plan version bytes c m read =
    let same : m.cert ≡ c = ap (value_or m.cert) (sym (written_is_read m.cert m.is_cert) ∙ ap certificate_of (sym m.spell) ∙ read) in
    subst (IsLeastCert image plan version) same m.made

-- ---- parts of the code
pub needs_are : (s : Source) (v : Vec ℕ Global) → AreLeastNeedsOrTooMany s (Some v) → AreLeastTableNeeds s v.items
needs_are s v h = record { least = h.0; few = h.1 }
