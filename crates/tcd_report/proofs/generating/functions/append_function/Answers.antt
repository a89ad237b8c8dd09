use Rattle.std.proofs.Common.{◌≡◌, ◌+◌, ◌*◌, ◌++◌, List, [], ◌∷◌, ℕ, ap, sym, ◌∙◌, subst}
use Rattle.std.specs.Prelude.{OnOk}
use Rattle.tcd_report.specs.Generated.{call_if_any, generated_function_address, generated_function_code}
use Rattle.tcd_report.proofs.ImageLemmas.Instructions.{function_bytes}
use Rattle.tcd_report.proofs.ImageLemmas.Ranges.{joined_four}
use Rattle.tcd_report.proofs.generating.functions.append_function.Goals as goal

pub returns : goal.returns
returns c =
    let n : ℕ = c.args.n in
    let i : ℕ = c.args.i in
    let before : List ℕ = c.args.out.now.items in
    let head : List ℕ = 0x20 ∷ 0x08 ∷ 0x74 ∷ 0xaf ∷ [] in
    let tail : List ℕ = 0x00 ∷ 0x90 ∷ [] in
    let left : ℕ → List ℕ = λ a. call_if_any n (a + 4) (2 * i + 1) in
    let right : ℕ → List ℕ = λ a. call_if_any n (a + 8) (2 * i + 2) in
    let at : ℕ = c.generated_function_address-at.result in
    let there : c.append_call_if_any-2.new.out.items ≡ ((before ++ head) ++ left (generated_function_address i)) ++ right (generated_function_address i) =
    c.in_ok-append_call_if_any-2.ensures
    ∙ ap (λ l. l ++ right at) (c.in_ok-append_call_if_any.ensures ∙ ap (λ l. l ++ left at) c.in_ok-append_segment_bytes.ensures)
    ∙ ap (λ a. ((before ++ head) ++ left a) ++ right a) c.generated_function_address-at.ensures in
    let whole : c.append_call_if_any-2.new.out.items ++ tail ≡ before ++ generated_function_code n i =
    ap (λ l. l ++ tail) there ∙ joined_four before head (left (generated_function_address i)) (right (generated_function_address i)) tail ∙ ap (λ l. before ++ l) (sym (function_bytes n i)) in
    subst (λ (l : List ℕ). OnOk c.append_segment_bytes-2.result (c.append_segment_bytes-2.new.out.items ≡ l)) whole c.append_segment_bytes-2.ensures
