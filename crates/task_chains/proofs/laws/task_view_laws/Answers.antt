use Rattle.task_chains.proofs.ViewPlan.{view_is_plan, view_store}
use Rattle.task_chains.proofs.ViewImage.{view_byte_outside}
use Rattle.task_chains.proofs.laws.task_view_laws.Goals as goal

pub returns : goal.returns
returns c = record {
  plans = λ plan tasks u ok are fit lt. view_is_plan ok tasks are fit u lt;
  stores = λ plan tasks u x n ok are fit some range. view_store ok tasks are fit u x n some range;
  bytes = view_byte_outside;
}
