use Rattle.std.proofs.Common.{subst, sym}
use Rattle.std.proofs.lemmas.List.{get_or_default}
use Rattle.value_domain.specs.Values.{IsWellFormed, any_val}
use Rattle.depth_cert.specs.WellFormed.{IsWellFormedState}
use Rattle.small_states.specs.CompactForms.{all_values, whole_state}
use Rattle.small_states.proofs.known.SmallKnown.append_state.Goals as goal

pub append_bytes-requires : goal.append_bytes-requires
append_bytes-requires c k d lt =
    let values = all_values c.in-Point.s.regs.value in
    let well_formed : IsWellFormedState c.args._b.now (whole_state c.in-Point.s) = rw (← c.self.view_is, c.in-Point.is) at c.requires in
    subst IsWellFormed (sym (get_or_default values k d any_val lt)) (well_formed.values k lt).well
