use Rattle.std.proofs.Common.{◌++◌, ◌∙◌, ap, sym}
use Rattle.std.proofs.lemmas.Result.{on_ok_weaker}
use Rattle.value_domain.specs.Sets.{sorted_set_of}
use Rattle.tcd_report.specs.Graphs.{unique_addresses, entries_of_kind, successors_at, jump_targets_of, return_addresses_after}
use Rattle.tc_machine.specs.Instructions.{wrapping_sum}
use Rattle.depth_cert.specs.Points.{point_of}
use Rattle.cfg_recover.specs.Duties.{entered_keys, entry_duties_of}
use Rattle.tcd_report.proofs.GraphLemmas.DutyLists.{jumps_told, calls_told, systems_told, misaligned_told, interrupts_told, returns_told, misaligned_once}
use Rattle.tcd_report.proofs.graphs.edges.find_edges.Goals as goal

pub returns-clause-edges : goal.returns-clause-edges
returns-clause-edges c =
    let j = c.args.judged.now in
    let b = j.bounds.now in
    let image = j.image.now in
    let plan = j.plan.now in
    let cert = j.cert.now in
    let key = c.args.key.now in
    let point = point_of c.args.addr c.args.s.now in
    let found = c.args.found.now in
    let s = point.state in
    let keys = c.in_ok-push_entered_keys.ensures found.size ∙ ap (λ l. l ++ entered_keys (entry_duties_of plan key point.addr s found.shape found.size)) c.clear-2.ensures.items in
    on_ok_weaker c.find_handlers.result
    (λ irq.
    record {
      to =
          c.in_ok-set_sorted_addresses.ensures
          ∙ ap sorted_set_of (
          c.deref.ensures.value
          ∙ c.in_ok-push_successors.ensures
          ∙ ap (λ l. l ++ jump_targets_of (successors_at j point found)) c.clear.ensures.items
          ∙ sym (jumps_told b image plan cert key point.addr s found.shape found.size)
          );
      call = c.in_ok-set_sorted_addresses-2.ensures ∙ ap sorted_set_of (c.deref-3.ensures.value ∙ c.in_ok-set_kind_entries.ensures ∙ ap (entries_of_kind 1) (c.deref-2.ensures.value ∙ keys) ∙ sym (calls_told b image plan cert key point.addr s found.shape found.size));
      sys =
          c.in_ok-set_unique_addresses.ensures
          ∙ ap unique_addresses (c.deref-5.ensures.value ∙ c.in_ok-set_kind_entries-2.ensures ∙ ap (entries_of_kind 3) (c.deref-4.ensures.value ∙ keys) ∙ sym (systems_told b image plan cert key point.addr s found.shape found.size));
      back =
          c.in_ok-set_unique_addresses-2.ensures
          ∙ ap unique_addresses (
          c.deref-7.ensures.value
          ∙ c.in_ok-set_return_addresses.ensures
          ∙ ap (return_addresses_after cert (wrapping_sum point.addr found.size)) (c.deref-6.ensures.value ∙ keys)
          ∙ sym (returns_told b image plan cert key point.addr s found.shape found.size)
          );
      aln = c.in_ok-set_misaligned_entry.ensures ∙ sym (misaligned_once b plan key s found.shape) ∙ ap unique_addresses (sym (misaligned_told b image plan cert key point.addr s found.shape found.size));
      irq = irq ∙ ap unique_addresses (sym (interrupts_told b image plan cert key point.addr s found.shape found.size));
    })
    c.find_handlers.ensures.entries
