use Rattle.std.proofs.Common.{◌≡◌, ◌∙◌, sym, ap, subst}
use Rattle.depth_cert.specs.Known.{CoversKnown, Known, state}
use Rattle.small_states.specs.CompactForms.{whole_known, whole_state}
use Rattle.small_states.proofs.known.SmallKnown.covers_with_same_gaps.Goals as goal

pub returns : goal.returns
returns c t =
    let upper = c.in-Point.upper in
    let s = c.in-Point-form.s in
    let u : c.args.self.now ≡ state (whole_state upper) = sym c.self.view_is ∙ ap whole_known c.in-Point.is in
    let l : c.args.low.now ≡ state (whole_state s) = sym c.low.view_is ∙ ap whole_known c.in-Point-form.is in
    let regs = rw (c.as_ref.ensures, c.as_ref-2.ensures) at (c.are_all_below.ensures t) in
    let locals = rw (c.as_slice.ensures.value, c.as_slice-2.ensures.value) at (c.flags_imply.ensures.0 c.if-not-flags_imply.false) in
    subst (λ (w : Known). CoversKnown w c.args.low.now) (sym u)
    (subst (λ (w : Known). CoversKnown (state (whole_state upper)) w) (sym l)
    (record { regs = regs; context = c.covers_context.ensures.0 c.if-not-covers_context.false; locals = locals }))
