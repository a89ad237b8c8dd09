use Rattle.std.proofs.Common.{◌≡◌, ◌∙◌, ◌+◌, ℕ, length, ap, arith}
use Rattle.packed_cert.specs.ValuesInBytes.{place_in_bytes}
use Rattle.packed_cert.proofs.PointPlaces.{took}
use Rattle.packed_cert.proofs.NodeReads.{whole_exit}
use Rattle.packed_cert.proofs.exits.ExitAt.to_exit.Goals as goal

pub returns : goal.returns
returns c =
    let bytes = c.self.inside.bytes.now in
    let x = c.self.inside.place in
    let h = c.self.invariant.exit in
    let moved = took c.take-front.result _ x (length bytes) (rw c.new-c.ensures at c.take-front.ensures.there) (rw c.new-c.ensures at c.take-front.ensures.moved) (omega (arith, c.self.invariant.room)) in
    let there : 0 + x ≡ x = omega arith in
    whole_exit c.self.inside.version bytes x c.read_exit-read.result c.read_exit-read.new.out c.take-front.new.self _ (moved ∙ ap (λ (k : ℕ). place_in_bytes bytes k) there) h c.read_exit-read.ensures.ok c.read_exit-read.ensures.err
    ∙ c.self.view_is
