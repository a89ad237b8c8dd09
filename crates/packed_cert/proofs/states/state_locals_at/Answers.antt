use Rattle.std.proofs.Common.{◌≡◌, ℕ, ◌+◌, ◌-◌, ◌<◌, List, [], ◌∷◌, ◌++◌, get_or, Bool, suc, sym, ap, ◌∙◌, arith, eqb, append_assoc}
use Rattle.packed_cert.specs.PointsInBytes.{flags_in_bytes}
use Rattle.packed_cert.proofs.states.state_locals_at.Goals as goal

flags_more : (bytes : List ℕ) (place n i : ℕ) (before all : List Bool) → i < n → before ++ flags_in_bytes bytes (place + i) (n - i) ≡ all
    → (before ++ eqb (get_or bytes (place + i) 0) 1 ∷ []) ++ flags_in_bytes bytes (place + (i + 1)) (n - (i + 1)) ≡ all
flags_more bytes place n i before all h e =
    let left : n - i ≡ suc (n - (i + 1)) = omega arith in
    let next : place + (i + 1) ≡ place + i + 1 = omega arith in
    let b : Bool = eqb (get_or bytes (place + i) 0) 1 in
    append_assoc before (b ∷ []) (flags_in_bytes bytes (place + (i + 1)) (n - (i + 1)))
    ∙ ap (λ (k : ℕ). before ++ (b ∷ flags_in_bytes bytes k (n - (i + 1)))) next
    ∙ ap (λ (k : ℕ). before ++ flags_in_bytes bytes (place + i) k) (sym left)
    ∙ e

pub loop-i-preserved : goal.loop-i-preserved
loop-i-preserved c = record {
  read = rw c.push.ensures.items (flags_more c.args.bytes.now c.args.place c.args.count c.loop-i.i c.loop-i.flags.items _ c.loop-i-test.true c.loop-i.invariant.read);
  count = omega (arith, c.push.ensures.len, c.loop-i.invariant.count);
}
