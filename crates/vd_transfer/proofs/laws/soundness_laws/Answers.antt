use Rattle.vd_transfer.proofs.HoldLaws.{transfer_holds, restore_holds, branch_holds, address_holds}
use Rattle.vd_transfer.proofs.laws.soundness_laws.Goals as goal

pub returns-clause-transfer : goal.returns-clause-transfer
returns-clause-transfer c = transfer_holds

pub returns-clause-restore : goal.returns-clause-restore
returns-clause-restore c = restore_holds

pub returns-clause-branch : goal.returns-clause-branch
returns-clause-branch c = branch_holds

pub returns-clause-address : goal.returns-clause-address
returns-clause-address c = address_holds
