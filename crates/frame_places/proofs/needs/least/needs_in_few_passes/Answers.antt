use Rattle.std.proofs.Common.{sym, subst, ℕ, ◌<◌, ◌≤◌, ◌≡◌, length, arith, take, drop, ◌++◌, ◌∙◌}
use Rattle.std.specs.Prelude.{slice_index, List}
use Rattle.frame_places.specs.RowNeeds.{MeetsRows, AreLowerBounds}
use Rattle.frame_places.proofs.RowLemmas.{answered_none, take_front}
use Rattle.frame_places.proofs.needs.least.needs_in_few_passes.Goals as goal

pub returns-in-None : goal.returns-in-None
returns-in-None c =
    let S = c.raise_needs_in_few_passes.new.needs in
    let n : c.in_ok-needs.needs.len ≡ length S = omega (arith, c.raise_needs_in_few_passes.auto.needs, c.deref_mut.ensures.len) in
    let e : take c.in_ok-needs.needs.len (S ++ drop (length S) c.in_ok-needs.needs.items) ≡ S = take_front c.in_ok-needs.needs.len S (drop (length S) c.in_ok-needs.needs.items) n in
    let l : length S ≡ c.args.nodes = omega (arith, c.raise_needs_in_few_passes.auto.needs, c.deref_mut.ensures.len, c.in_ok-needs.ensures.len) in
    let each : (k : ℕ) → k < length S → slice_index S k ≤ c.args.cap = subst (λ (x : List ℕ). (k : ℕ) → k < length x → slice_index x k ≤ c.args.cap) (c.deref.ensures.value ∙ e) c.in-None.ensures in
    subst (λ (l : List ℕ). (length l ≡ c.args.nodes) × MeetsRows (λ k. slice_index l k) c.args.rows.now × AreLowerBounds l c.args.rows.now × ((k : ℕ) → slice_index l k ≤ c.args.cap)) (sym e)
    (answered_none c.args.nodes c.args.cap c.args.rows.now S l c.raise_needs_in_few_passes.ensures.low (c.raise_needs_in_few_passes.ensures.met c.if-not-raise_needs_in_few_passes.false) each)
