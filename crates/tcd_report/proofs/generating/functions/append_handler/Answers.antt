use Rattle.std.proofs.Common.{◌≡◌, ◌+◌, ◌-◌, ◌*◌, ◌++◌, List, [], ◌∷◌, ℕ, ap, sym, ◌∙◌, subst}
use Rattle.std.specs.Prelude.{OnOk}
use Rattle.tcd_report.specs.Generated.{call_from, generated_function_address, generated_handler}
use Rattle.tcd_report.proofs.ImageLemmas.Instructions.{handler_bytes}
use Rattle.tcd_report.proofs.ImageLemmas.Ranges.{joined_three}
use Rattle.tcd_report.proofs.generating.functions.append_handler.Goals as goal

pub returns : goal.returns
returns c =
    let n : ℕ = c.args.n in
    let p : ℕ = c.args.p in
    let before : List ℕ = c.args.out.now.items in
    let head : List ℕ = 0xe0 ∷ p ∷ [] in
    let tail : List ℕ = 0x0d ∷ 0x00 ∷ 0x40 ∷ 0x02 ∷ 0x00 ∷ 0x80 ∷ [] in
    let middle : ℕ → ℕ → List ℕ = λ x f. call_from (0x80002002 + 32 * x) f in
    let there : c.append_call.new.out.items ≡ (before ++ head) ++ middle p (generated_function_address (n - 1)) =
    c.in_ok-append_call.ensures
    ∙ ap (λ l. l ++ middle c.from.result c.generated_function_address.result) c.in_ok-append_segment_bytes.ensures
    ∙ ap (λ x. (before ++ head) ++ middle x c.generated_function_address.result) c.from.ensures
    ∙ ap (λ f. (before ++ head) ++ middle p f) c.generated_function_address.ensures in
    let whole : c.append_call.new.out.items ++ tail ≡ before ++ generated_handler n p =
    ap (λ l. l ++ tail) there ∙ joined_three before head (middle p (generated_function_address (n - 1))) tail ∙ ap (λ l. before ++ l) (sym (handler_bytes n p)) in
    subst (λ (l : List ℕ). OnOk c.append_segment_bytes-2.result (c.append_segment_bytes-2.new.out.items ≡ l)) whole c.append_segment_bytes-2.ensures
