use Rattle.std.proofs.Common.{◌∙◌, ◌++◌, sym, ap, subst, ℕ, List, Contains}
use Rattle.std.specs.Prelude.{map}
use Rattle.std.proofs.lemmas.List.{map-append}
use Rattle.std.proofs.lemmas.List.Elements.{Contains-append_left, Contains-append_right}
use Rattle.depth_cert.specs.declared.keys.Key.{Key}
use Rattle.frame_places.specs.Numbers.{frame_number_in}
use Rattle.cfg_recover.specs.Duties.{entered_keys}
use Rattle.depth_maker.specs.InterruptHandlers.{handler_nodes_if_enabled}
use Rattle.depth_maker.specs.VisitDuties.{misaligned_duties, entry_duties, interrupt_duties}
use Rattle.depth_maker.proofs.EnteredLemmas.{entered_whole}
use Rattle.depth_maker.proofs.HandlerLaws.{nodes_taken-is}
use Rattle.depth_maker.proofs.rows.visited_point_row.Goals as goal

pub returns : goal.returns
returns c frames are all node =
    let v = c.args.v.now in
    let f = c.args.found.now in
    let g = v.ground.now in
    let own = entered_keys (entry_duties v f.shape f.size) ++ entered_keys (misaligned_duties v f) in
    let irqs = entered_keys (interrupt_duties v) in
    let whole = entered_whole g.bounds.now g.image.now g.plan.now v.key v.addr v.state.now f.shape f.size in
    let keys = c.as_slice.ensures.value ∙ c.in_ok-keys.ensures in
    let first =
    c.in_ok-into.ensures frames are.all
    (λ k i. all.entered f c.requires.found k (subst (λ (l : List Key). Contains l k) (sym whole) (Contains-append_left own irqs k (subst (λ (l : List Key). Contains l k) keys i))))
    ∙ ap (λ (l : List Key). map (frame_number_in frames) l) keys in
    let second = nodes_taken-is g.plan.now frames v.key v.state.now c.args.source.now.handlers.now are.taken (λ k i. all.entered f c.requires.found k (subst (λ (l : List Key). Contains l k) (sym whole) (Contains-append_right own irqs k i))) in
    record {
      found = f;
      stands = c.requires.found;
      node = node;
      held = c.len.ensures.value;
      into =
          c.in_ok-append_handlers_if_enabled.ensures
          ∙ ap (λ (l : List ℕ). l ++ handler_nodes_if_enabled (v.state.now).ie (v.state.now).ccpn c.args.source.now.handlers.now) first
          ∙ ap (λ (l : List ℕ). map (frame_number_in frames) own ++ l) second
          ∙ sym (ap (map (frame_number_in frames)) whole ∙ map-append (frame_number_in frames) own irqs);
    }
