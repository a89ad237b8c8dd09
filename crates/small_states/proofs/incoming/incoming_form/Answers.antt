use Rattle.std.proofs.Common.{◌∙◌, List, sym, ap}
use Rattle.value_domain.specs.declared.values.Val.{Val}
use Rattle.depth_cert.specs.Known.{state, leaving}
use Rattle.small_states.specs.CompactForms.{all_values}
use Rattle.small_states.specs.Incoming.{incoming_state_with, incoming_exit_with}
use Rattle.small_states.proofs.IncomingLemmas.{incoming_exit, incoming_state}
use Rattle.small_states.proofs.incoming.incoming_form.Goals as goal

pub returns-then-is_incoming_exit : goal.returns-then-is_incoming_exit
returns-then-is_incoming_exit c =
    ap (λ (vs : List Val). leaving (incoming_exit_with vs c.incoming_context-k.result)) c.requires
    ∙ sym (incoming_exit c.args.incoming.now c.incoming_context-k.result c.is_incoming_exit.result c.is_incoming_exit.ensures c.incoming_context-k.ensures c.if-is_incoming_exit.true)

pub returns : goal.returns
returns c =
    let k = c.incoming_context-k.result in
    ap (λ locals. state (record { regs = all_values c.args.values.value; ie = k.ie; ccpn = k.ccpn; lower = k.lower; locals = locals })) c.copy_locals.ensures
    ∙ ap (λ (vs : List Val). state (incoming_state_with vs k)) c.requires
    ∙ sym (incoming_state c.args.incoming.now k c.is_incoming_exit.result c.is_incoming_exit.ensures c.incoming_context-k.ensures c.if-is_incoming_exit.false)
