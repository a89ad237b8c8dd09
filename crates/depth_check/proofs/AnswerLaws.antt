-- What an answer of a check says.
use Rattle.std.proofs.Common.{◌≡◌, ℕ, ◌-◌, ◌≤◌, refl, ap, ◌∙◌, arith, Option, Some, None}
use Rattle.std.specs.Prelude.{IsSomeAnd}
use Rattle.elf_image.specs.Images.{ImageData}
use Rattle.tcd_plan.specs.PlanData.{PlanData, IsPlan}
use Rattle.depth_cert.specs.Nodes.{NodeData, need_or_zero, find_node}
use Rattle.depth_cert.specs.Certs.{CertData}
use Rattle.cfg_recover.specs.Entries.{start_key, start_state}
use Rattle.cfg_recover.specs.RulesHoldOrFail.{HasCoveringPoint, Accepts, certified_need}
use Rattle.cfg_recover.proofs.FaultLaws.{fails_refutes, first_faults_say}
use Rattle.depth_check.specs.AnswerLaws.{YesSays, AnswersSayNeedOrFirstFault}

yes_says : (image : ImageData) (plan : PlanData) (cert : CertData) (n : ℕ) (o : Option NodeData) → IsPlan plan → Accepts image plan cert → n ≡ certified_need image plan cert → n ≤ plan.areas - plan.reserve
    → find_node (start_key image plan) cert.nodes ≡ o → IsSomeAnd o (λ n. HasCoveringPoint n image.entry (start_state plan)) → YesSays image plan cert n
yes_says image plan cert n None is_plan accepts need room found start = absurd start
yes_says image plan cert n (Some node) is_plan accepts need room found start = record {
  node = node;
  stands = found;
  need = need ∙ ap need_or_zero found;
  room = omega (arith, (is_plan.areas).reserve_within);
  holds = λ r k p fails. fails_refutes image plan cert r k p fails accepts;
}

pub answers_say : AnswersSayNeedOrFirstFault
answers_say image plan cert entry is_plan is_cert = record {
  yes = λ n h. yes_says image plan cert n (find_node (start_key image plan) cert.nodes) is_plan h.0 h.1 h.2 refl (h.0).start;
  safe = λ n h. h;
  no = λ r k p h. first_faults_say image plan cert r k p entry is_cert h;
}
