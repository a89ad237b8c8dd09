use Rattle.std.proofs.Common.{◌≡◌, ◌<◌, ◌&&◌, ◌||◌, ◌∙◌, not, get_or, Bool, true, false, Some, None, refl, sym, ap, subst, ℕ, List, length, ltb, arith}
use Rattle.std.specs.Bool.{then_some}
use Rattle.std.proofs.lemmas.Bool.Decides.{nat_tests}
use Rattle.std.proofs.lemmas.List.{take_all}
use Rattle.tc_object.specs.Objects.{SectionData, SymbolData, ObjectData}
use Rattle.tc_link.specs.Layouts.{PlaceData, has_place_for}
use Rattle.tc_link.specs.Refusals.{first_refusal_from, no_place, no_place_refusal, has_symbol_in_section}
use Rattle.tc_link.proofs.FirstLaws.{more_item, found_item}
use Rattle.tc_link.proofs.PlaceLaws.{not_found, is_found}
use Rattle.tc_link.proofs.section_checks.first_unplaced_section.Goals as goal
use Rattle.tc_link.proofs.section_checks.first_unplaced_section.Goals.{then-not-is_empty-via-then-not-is_empty, then-not-is_empty-via-else-not-is_empty+then-index, in-Some, in_default+else-not-is_empty+else-index}

pub loop-number-init : goal.loop-number-init
unfolding first_refusal_from
loop-number-init c = refl

-- a place is there
not_needed : {A : Type 0} (a b : Bool) (x : A) → b ≡ true → then_some (a && not b) x ≡ None
not_needed {A} true b x e = ap (λ c. then_some {T = A} (not c) x) e
not_needed false b x e = refl

pub returns-then-not-is_empty-clause-ok : goal.returns-then-not-is_empty-clause-ok
returns-then-not-is_empty-clause-ok c =
    let places : List PlaceData = c.args.layout.now.places in
    let o : ObjectData = c.args.object.now in
    let i : ℕ = c.loop-number.number in
    let x : SectionData = c.section-item.result in
    let e : c.deref-section-items.result.now ≡ o.sections = c.deref-section-items.ensures.value ∙ ap (λ (y : ObjectData). y.sections) c.object.view_is in
    let within = subst (λ (l : List SectionData). i < length l) e c.loop-number-test.true in
    let at = c.section-item.is ∙ ap (λ (l : List SectionData). get_or l i x) e in
    let many : length c.deref-symbol-items.result.now ≡ length o.symbols = ap (λ (l : List SymbolData). length l) (c.deref-symbol-items.ensures.value ∙ ap (λ (y : ObjectData). y.symbols) c.object.view_is) in
    let held = λ (d : Bool). c.loop-symbol.invariant.held i d within ∙ ap (λ (l : List SymbolData). has_symbol_in_section l i) (take_all c.loop-symbol.symbol-index o.symbols (omega (arith, c.loop-symbol-test.false, many))) in
    let size : length c.section.inside.bytes.now ≡ length x.bytes = ap (λ (y : SectionData). length y.bytes) c.section.view_is in
    let none = subst (λ (y : SectionData). has_place_for places y.name ≡ false) c.section.view_is (not_found c.section.inside.name.now places (sym c.find_place.ensures.value ∙ c.in_default.is)) in
    let some : (ltb 0 (length x.bytes) || has_symbol_in_section o.symbols i) ≡ true =
    elim c.then-not-is_empty.branch [
      | then-not-is_empty-via-then-not-is_empty w ↦ grind (arith, nat_tests)
      | then-not-is_empty-via-else-not-is_empty+then-index w ↦ grind (arith, nat_tests, held w.index.result.now)
    ] in
    found_item (no_place_refusal places o.symbols) o.sections i x (no_place x.name) within at c.loop-number.invariant
    (ap (λ b. then_some (b && not (has_place_for places x.name)) (no_place x.name)) some ∙ ap (λ b. then_some (not b) (no_place x.name)) none)
    ∙ ap (λ (y : SectionData). Some (no_place y.name)) (sym c.section.view_is)

pub loop-number-preserved : goal.loop-number-preserved
loop-number-preserved c =
    let places : List PlaceData = c.args.layout.now.places in
    let o : ObjectData = c.args.object.now in
    let i : ℕ = c.loop-number.number in
    let x : SectionData = c.section-item.result in
    let e : c.deref-section-items.result.now ≡ o.sections = c.deref-section-items.ensures.value ∙ ap (λ (y : ObjectData). y.sections) c.object.view_is in
    let within = subst (λ (l : List SectionData). i < length l) e c.loop-number-test.true in
    let at = c.section-item.is ∙ ap (λ (l : List SectionData). get_or l i x) e in
    let many : length c.deref-symbol-items.result.now ≡ length o.symbols = ap (λ (l : List SymbolData). length l) (c.deref-symbol-items.ensures.value ∙ ap (λ (y : ObjectData). y.symbols) c.object.view_is) in
    let held = λ (d : Bool). c.loop-symbol.invariant.held i d within ∙ ap (λ (l : List SymbolData). has_symbol_in_section l i) (take_all c.loop-symbol.symbol-index o.symbols (omega (arith, c.loop-symbol-test.false, many))) in
    let size : length c.section.inside.bytes.now ≡ length x.bytes = ap (λ (y : SectionData). length y.bytes) c.section.view_is in
    more_item (no_place_refusal places o.symbols) o.sections i x within at c.loop-number.invariant
    (elim c.match-find_place.branch [
      | in-Some w ↦ not_needed (ltb 0 (length x.bytes) || has_symbol_in_section o.symbols i) _ (no_place x.name)
          (subst (λ (y : SectionData). has_place_for places y.name ≡ true) c.section.view_is (is_found c.section.inside.name.now places w.in-Some.place (sym c.find_place.ensures.value ∙ w.in-Some.is)))
      | in_default+else-not-is_empty+else-index w ↦
          (let none : (ltb 0 (length x.bytes) || has_symbol_in_section o.symbols i) ≡ false = grind (arith, nat_tests, held w.index.result.now) in
          ap (λ b. then_some (b && not (has_place_for places x.name)) (no_place x.name)) none)
    ])
