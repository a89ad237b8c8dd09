-- What an accepted certificate promises about the runs of an image under a plan.
use Rattle.elf_image.specs.Images.{ImageData}
use Rattle.tcd_plan.specs.PlanData.{PlanData, IsPlan}
use Rattle.tc_machine.specs.Safe.{Safe}
use Rattle.depth_cert.specs.Certs.{CertData, IsCert}
use Rattle.cfg_recover.specs.RulesHoldOrFail.{Accepts, certified_need}
use Rattle.cfg_recover.specs.EdgeAndFrameLaws.{FramesHeld}
use Rattle.cfg_recover.specs.EdgesAreOwed.{EdgesOwed}

-- a promise holds for every image, plan and certificate that the rules accept
abbrev pub HoldsForAccepted : (ImageData → PlanData → CertData → Type 0) → Type 0
HoldsForAccepted Promise =
    (image : ImageData) (plan : PlanData) (cert : CertData) → IsPlan plan → IsCert cert → Accepts image plan cert → Promise image plan cert

-- each run is safe, with the need of the start's node
abbrev pub AcceptedIsSafe : Type 0
AcceptedIsSafe = HoldsForAccepted (λ image plan cert. Safe image plan (certified_need image plan cert))

-- the frames of each run are at points whose states hold the machine
abbrev pub AcceptedHoldsFrames : Type 0
AcceptedHoldsFrames = HoldsForAccepted FramesHeld

-- each step's edge, in every run, is a duty of the point of the newest frame, or the return to the
-- frame before
abbrev pub AcceptedOwesEdges : Type 0
AcceptedOwesEdges = HoldsForAccepted EdgesOwed
