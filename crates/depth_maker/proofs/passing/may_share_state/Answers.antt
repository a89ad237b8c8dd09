use Rattle.std.proofs.Common.{ap, sym, ◌∙◌, ◌≡◌, arith, subst, ℕ}
use Rattle.std.proofs.lemmas.Option.{same_Some}
use Rattle.std.specs.Option.{option_map}
use Rattle.depth_cert.specs.Known.{Known, state}
use Rattle.frame_places.specs.declared.places.Marked.{Marked}
use Rattle.frame_places.specs.declared.places.Spot.TheVariants.{Point}
use Rattle.frame_places.proofs.NearbyLemmas.{had_at}
use Rattle.depth_maker.specs.InterruptHandlers.{HasCoveringContextForCcpn}
use Rattle.depth_maker.proofs.PassingLaws.{quiet_noted, quiet_off}
use Rattle.depth_maker.proofs.PlainRows.{off_of}
use Rattle.depth_maker.proofs.passing.may_share_state.Goals as goal

pub returns-then-not-outline : goal.returns-then-not-outline
returns-then-not-outline c t u at =
    let v = c.args.site.now in
    let s = c.args.table.now in
    let own = c.in-Some.own.now in
    let had = had_at s.places s.near (Point v.key v.addr) _ own (sym c.in-Some.ensures.entry) c.in-Some.ensures.value c.requires.near in
    let is : own.value ≡ state u = same_Some own.value (state u) (sym (ap (option_map (λ (m : Marked Known). m.value)) had) ∙ at) in
    let outline = rw (c.in-Some-outline.is, is) at c.outline.ensures in
    let byte = c.ccpn_fits_byte.ensures in
    (quiet_off _ _ _ v.key v.addr u s c.requires.fine (outline.0 ∙ off_of c.in-Some-outline.outline.ie c.if-not-outline.true), omega (arith, outline.1, byte))

pub returns-else-not-outline : goal.returns-else-not-outline
returns-else-not-outline c t u at =
    let v = c.args.site.now in
    let s = c.args.table.now in
    let own = c.in-Some.own.now in
    let had = had_at s.places s.near (Point v.key v.addr) _ own (sym c.in-Some.ensures.entry) c.in-Some.ensures.value c.requires.near in
    let is : own.value ≡ state u = same_Some own.value (state u) (sym (ap (option_map (λ (m : Marked Known). m.value)) had) ∙ at) in
    let outline = rw (c.in-Some-outline.is, is) at c.outline.ensures in
    let byte = c.ccpn_fits_byte.ensures in
    (quiet_noted _ _ _ v.key v.addr u s c.requires.fine (subst (λ (n : ℕ). HasCoveringContextForCcpn s v.key.is n) (sym outline.1) (c.has_covering_context_for_ccpn.ensures t)), omega (arith, outline.1, byte))
