use Rattle.std.proofs.Common.{◌∙◌, ◌≡◌, sym, ap, subst, ◌++◌, ◌∷◌, [], List, ℕ, refl, append-nil}
use Rattle.std.specs.Prelude.{OnOk}
use Rattle.std.specs.List.{flat_map}
use Rattle.depth_cert.specs.declared.keys.Key.{Key}
use Rattle.cfg_recover.specs.Entries.{call_key}
use Rattle.cfg_recover.specs.Duties.{Owed, keys_entered_by_duty}
use Rattle.cfg_recover.proofs.DutyLists.{calls_are, only_calls_enter}
use Rattle.cfg_recover.proofs.entered.push_entered_keys.Goals as goal

pub returns-in-Call : goal.returns-in-Call
returns-in-Call c size =
    let key = c.args.key.now in
    rw c.in-Call.is
    (subst (λ (l : List Key). OnOk c.push_called_keys.result (c.push_called_keys.new.keys.items ≡ c.args.keys.now.items ++ l))
    (sym (calls_are (λ (d : Owed). keys_entered_by_duty d.duty) (λ t. call_key key t ∷ []) c.args.plan.now key c.args.addr c.args.s.now _ size (λ t. refl)))
    (subst (λ (l : List ℕ). OnOk c.push_called_keys.result (c.push_called_keys.new.keys.items ≡ c.args.keys.now.items ++ flat_map (λ t. call_key key t ∷ []) l)) (c.as_slice.ensures.value ∙ c.targets-targets.ensures) c.push_called_keys.ensures))

pub returns-in_ok-push-in-Syscall : goal.returns-in_ok-push-in-Syscall
returns-in_ok-push-in-Syscall c size = rw c.in-Syscall.is (c.in_ok-push-in-Syscall.ensures.items ∙ ap (λ (k : Key). c.args.keys.now.items ++ k ∷ []) c.sys_key.ensures)

pub returns-in_default : goal.returns-in_default
returns-in_default c size =
    sym (ap (λ (l : List Key). c.args.keys.now.items ++ l) (only_calls_enter c.args.plan.now c.args.key.now c.args.addr c.args.s.now c.args.shape size c.in_default.not-Call c.in_default.not-Syscall) ∙ append-nil c.args.keys.now.items)
