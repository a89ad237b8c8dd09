-- What an answer says, in the words of the printed line. It is the statement of the law that guards
-- the answer's definition.
use Rattle.std.specs.Prelude.{◌≡◌, ◌+◌, ◌^◌, ◌<◌, ◌≤◌, ℕ, Some}
use Rattle.elf_image.specs.Images.{ImageData}
use Rattle.tcd_plan.specs.PlanData.{PlanData, IsPlan}
use Rattle.tc_machine.specs.Safe.{Safe}
use Rattle.depth_cert.specs.declared.keys.Key.{Key}
use Rattle.depth_cert.specs.Nodes.{NodeData, find_node}
use Rattle.depth_cert.specs.Certs.{CertData, IsCert}
use Rattle.cfg_recover.specs.RulesHoldOrFail.{RuleFails, Accepts, IsFirstFault}
use Rattle.cfg_recover.specs.FirstFaultLaws.{FirstFaultNamesFirstFailure}
use Rattle.depth_check.specs.declared.verdicts.Verdict.TheVariants.{Yes, No}
use Rattle.depth_check.specs.CheckAnswers.{IsCheckAnswer, IfAnswerIsYes}

-- the number is the need of the start's node, the areas have room for it and the reserve, and no
-- rule fails
pub record YesSays (image : ImageData) (plan : PlanData) (cert : CertData) (n : ℕ) : Type 0 where
  pub node : NodeData
  pub stands : find_node (record { kind = 0; entry = image.entry; prio = 0; is = plan.start_is }) cert.nodes ≡ Some node
  pub need : n ≡ node.need
  pub room : n + plan.reserve ≤ plan.areas
  pub holds : (r : ℕ) (k : Key) (p : ℕ) → RuleFails image plan cert r k p → ⊥

-- a yes says this, and what is promised for a yes holds of its number; a no names the first fault
pub record AnswerSays (image : ImageData) (plan : PlanData) (cert : CertData) : Type 0 where
  pub yes : (n : ℕ) → IsCheckAnswer image plan cert (Yes n) → YesSays image plan cert n
  pub safe : (n : ℕ) → IfAnswerIsYes (Yes n) (Safe image plan) → Safe image plan n
  pub no : (r : ℕ) (k : Key) (p : ℕ) → IsCheckAnswer image plan cert (No r k p) → FirstFaultNamesFirstFailure image plan cert r k p

-- for every image, plan and certificate: a yes says that no rule fails and gives the start's need,
-- and a no names the first fault
abbrev pub AnswersSayNeedOrFirstFault : Type 0
AnswersSayNeedOrFirstFault =
    (image : ImageData) (plan : PlanData) (cert : CertData) → image.entry < 2 ^ 32 → IsPlan plan → IsCert cert → AnswerSays image plan cert

-- the law that a check's answers are exact both ways: a certificate with a first fault isn't
-- accepted
abbrev pub FirstFaultExcludesAcceptance : Type 0
FirstFaultExcludesAcceptance = (image : ImageData) (plan : PlanData) (cert : CertData) (r : ℕ) (k : Key) (p : ℕ) → IsFirstFault image plan cert r k p → Accepts image plan cert → ⊥
