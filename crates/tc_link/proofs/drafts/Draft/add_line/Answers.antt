use Rattle.std.proofs.Common.{◌≡◌, [], ◌∷◌, ℕ, List, length, sym, subst, ap, arith, length-append}
use Rattle.std.specs.Prelude.{string_bytes}
use Rattle.tc_link.specs.Layouts.{PlaceData, IsPlaceAfter}
use Rattle.tc_link.specs.LayoutDrafts.{LayoutDraftData}
use Rattle.tc_link.proofs.TurnLaws.{turn_push}
use Rattle.tc_link.proofs.drafts.Draft.add_line.Goals as goal

pub invariant_of-self-in-Region : goal.invariant_of-self-in-Region
invariant_of-self-in-Region c =
    let old : List PlaceData = c.self.inside.places.items in
    let new : PlaceData = record { section = string_bytes c.in_ok-section-in-Region.section; at = c.in-Region.at; most = c.in-Region.most } in
    let same : old ≡ c.args.self.now.places = ap (λ (d : LayoutDraftData). d.places) c.self.view_is in
    let after : IsPlaceAfter old new =
    subst (λ (name : List ℕ). IsPlaceAfter old (record { section = name; at = c.in-Region.at; most = c.in-Region.most })) (sym c.in_ok-section-in-Region.ensures.ok)
    (subst (λ (ps : List PlaceData). IsPlaceAfter ps (record { section = c.in-Region.section.now; at = c.in-Region.at; most = c.in-Region.most })) (sym same) c.in_default-place_fault.ensures.after) in
    rw c.in_ok-push-in-Region.ensures.items (record {
      entries = c.self.invariant.entries;
      few = omega (arith, length-append old (new ∷ []), ap length same, c.in_default-place_fault.ensures.few);
      places = turn_push IsPlaceAfter old new c.self.invariant.places after;
    })
