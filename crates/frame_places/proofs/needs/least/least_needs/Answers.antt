use Rattle.std.proofs.Common.{sym, subst, ℕ, ◌<◌, ◌≤◌, ◌≡◌, length, arith, take, drop, ◌++◌, ◌∙◌}
use Rattle.std.specs.Prelude.{slice_index, List}
use Rattle.frame_places.specs.RowNeeds.{MeetsRows, AreLowerBounds}
use Rattle.frame_places.proofs.RowLemmas.{answered_none, answered_some, take_front}
use Rattle.frame_places.proofs.needs.least.least_needs.Goals as goal

pub returns-in-None : goal.returns-in-None
returns-in-None c =
    let S = c.raise_needs_until_met.new.needs in
    let n : c.in_ok-needs.needs.len ≡ length S = omega (arith, c.raise_needs_until_met.auto.needs, c.deref_mut.ensures.len) in
    let e : take c.in_ok-needs.needs.len (S ++ drop (length S) c.in_ok-needs.needs.items) ≡ S = take_front c.in_ok-needs.needs.len S (drop (length S) c.in_ok-needs.needs.items) n in
    let l : length S ≡ c.args.nodes = omega (arith, c.raise_needs_until_met.auto.needs, c.deref_mut.ensures.len, c.in_ok-needs.ensures.len) in
    let each : (k : ℕ) → k < length S → slice_index S k ≤ c.args.cap = subst (λ (x : List ℕ). (k : ℕ) → k < length x → slice_index x k ≤ c.args.cap) (c.deref.ensures.value ∙ e) c.in-None.ensures in
    subst (λ (l : List ℕ). (length l ≡ c.args.nodes) × MeetsRows (λ k. slice_index l k) c.args.rows.now × AreLowerBounds l c.args.rows.now × ((k : ℕ) → slice_index l k ≤ c.args.cap)) (sym e)
    (answered_none c.args.nodes c.args.cap c.args.rows.now S l c.raise_needs_until_met.ensures.low c.raise_needs_until_met.ensures.met each)

pub returns-in-Some : goal.returns-in-Some
returns-in-Some c =
    let S = c.raise_needs_until_met.new.needs in
    let n : c.in_ok-needs.needs.len ≡ length S = omega (arith, c.raise_needs_until_met.auto.needs, c.deref_mut.ensures.len) in
    let e : take c.in_ok-needs.needs.len (S ++ drop (length S) c.in_ok-needs.needs.items) ≡ S = take_front c.in_ok-needs.needs.len S (drop (length S) c.in_ok-needs.needs.items) n in
    let l : length S ≡ c.args.nodes = omega (arith, c.raise_needs_until_met.auto.needs, c.deref_mut.ensures.len, c.in_ok-needs.ensures.len) in
    let h : (c.in-Some.field-0 < length S) × (c.args.cap < slice_index S c.in-Some.field-0) = subst (λ (x : List ℕ). (c.in-Some.field-0 < length x) × (c.args.cap < slice_index x c.in-Some.field-0)) (c.deref.ensures.value ∙ e) c.in-Some.ensures in
    answered_some c.args.nodes c.args.cap c.in-Some.field-0 c.args.rows.now S l c.raise_needs_until_met.ensures.low h.0 h.1
