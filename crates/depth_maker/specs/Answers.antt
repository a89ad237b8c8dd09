-- What the maker's functions return.
use Rattle.std.specs.Prelude.{◌≡◌, ℕ, List}
use Rattle.elf_image.specs.Images.{ImageData}
use Rattle.tcd_plan.specs.PlanData.{PlanData}
use Rattle.value_domain.specs.VersionLimits.{limits_for}
use Rattle.cfg_recover.specs.CertRefusals.{IsRefusal, IsRefusalWithLimits, IsRefusalFault}
use Rattle.depth_maker.specs.LeastCertMade.{AreLeastCertBytes}
use Rattle.depth_maker.specs.declared.inputs_and_limits.Ground.{Ground}
use Rattle.depth_maker.specs.declared.answering.MakeErr.{MakeErr}
use Rattle.depth_maker.specs.declared.answering.MakeErr.TheVariants.{Refused, NoMemory}
use Rattle.value_domain.specs.Limits.{Limits}
use Rattle.depth_cert.specs.declared.keys.Key.{Key}
use Rattle.cfg_recover.specs.Assignments.{point}
use Rattle.frame_places.specs.declared.refusals.Refusal.{Refusal}
use Rattle.frame_places.specs.declared.refusals.Refusal.TheVariants as refusal
use Rattle.depth_maker.specs.SpotsAsPlaces.{place_of_spot}
use Rattle.depth_cert.specs.Certs.{CertData, IsCert}
use Rattle.cfg_recover.specs.RulesHoldOrFail.{Accepts}

-- the checker accepts no certificate of this format for the image under the plan
abbrev pub IsNoCertAccepted : ImageData → PlanData → ℕ → Type 0
IsNoCertAccepted image plan version = (cert : CertData) → IsCert cert → cert.version ≡ version → Accepts image plan cert → ⊥

-- the maker's error is right: its rule fails at its place, and no certificate of the format is
-- accepted; nothing is said of NoMemory
abbrev pub IsRightMakeErr : ImageData → PlanData → ℕ → MakeErr → Type 0
IsRightMakeErr image plan version (Refused rule key addr) = IsRefusal image plan version rule key addr × IsNoCertAccepted image plan version
IsRightMakeErr image plan version NoMemory = Unit {0}

-- ---- by the types of the code
-- the ground of the maker's answer has the limits of this certificate format
abbrev pub HasLimitsOfFormat : Ground → ℕ → Type 0
HasLimitsOfFormat g version = g.bounds.now ≡ limits_for g.plan.now version

-- the maker's error names a rule and a place by which no certificate can be made; nothing is said
-- of NoMemory
abbrev pub MakeErrNamesRefusal : Ground → MakeErr → Type 0
MakeErrNamesRefusal g (Refused rule key addr) = IsRefusalWithLimits g.bounds.now g.image.now g.plan.now rule key addr
MakeErrNamesRefusal g NoMemory = Unit {0}

-- what the maker returns for its image and plan is right: the bytes spell the least certificate of
-- this format
abbrev pub AreLeastCertBytesForInputs : Ground → ℕ → List ℕ → Type 0
AreLeastCertBytesForInputs g version bytes = AreLeastCertBytes g.image.now g.plan.now version bytes

-- the maker's error is right for the image and the plan at hand, and no certificate of the format
-- is accepted; of NoMemory nothing is said
abbrev pub IsRightMakeErrForInputs : Ground → ℕ → MakeErr → Type 0
IsRightMakeErrForInputs g version e = IsRightMakeErr g.image.now g.plan.now version e

-- the refusal names a fault of a derived assignment within these limits; nothing is said of
-- NoMemory
abbrev pub RefusalNamesFault : Limits → ImageData → PlanData → Refusal → Type 0
RefusalNamesFault b image plan (refusal.Fault rule x) = (k : Key) × (p : ℕ) × (place_of_spot x ≡ point k p) × IsRefusalFault b image plan rule k p
RefusalNamesFault b image plan refusal.NoMemory = Unit {0}

-- the refusal names a fault of a derived assignment, for the image, plan and limits at hand;
-- nothing is said of NoMemory
abbrev pub NamesDerivedFault : Ground → Refusal → Type 0
NamesDerivedFault g e = RefusalNamesFault g.bounds.now g.image.now g.plan.now e
