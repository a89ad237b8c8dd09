use Rattle.std.proofs.Common.{◌<◌, ◌∙◌, ap, sym, subst, length, get_or, arith}
use Rattle.tc_link.specs.Layouts.{PlaceData, LayoutData, IsLayout}
use Rattle.std.specs.Str.{bytes_eq}
use Rattle.tc_link.proofs.PlaceLaws.{named_position}
use Rattle.tc_link.proofs.layouts.find_place.Goals as goal

pub returns-then-eq-clause-value : goal.returns-then-eq-clause-value
returns-then-eq-clause-value c =
    let p : PlaceData = c.index.result.now in
    let turn = (subst IsLayout c.layout.view_is c.layout.invariant).places in
    let is = c.index.ensures ∙ ap (λ (l : LayoutData). get_or l.places c.args.near p) c.layout.view_is in
    let name = c.as_str.ensures.value ∙ ap (λ (q : PlaceData). q.section) (c.behind-places.view_is ∙ is) in
    named_position c.args.name.now c.args.layout.now.places c.args.near p turn
    (subst (λ (l : LayoutData). c.args.near < length l.places) c.layout.view_is (omega (arith, c.len.ensures, c.layout.inside.places.ok)))
    (ap (bytes_eq c.args.name.now) (sym name) ∙ sym c.eq.ensures ∙ c.if-eq.true)
