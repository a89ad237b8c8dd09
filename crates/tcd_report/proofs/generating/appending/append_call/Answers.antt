use Rattle.std.proofs.Common.{◌≡◌, ◌++◌, List, ℕ, subst, arith}
use Rattle.std.specs.Prelude.{OnOk}
use Rattle.tcd_report.proofs.ImageLemmas.Instructions.{call_bytes}
use Rattle.tcd_report.proofs.generating.appending.append_call.Goals as goal

pub returns : goal.returns
returns c =
    subst (λ (bs : List ℕ). OnOk c.put_u32.result (c.put_u32.new.out.items ≡ c.args.out.now.items ++ bs))
    (call_bytes c.args.at c.args.to (omega arith)) c.put_u32.ensures.ok
