-- States that stand at two places in the same bytes.
use Rattle.std.proofs.Common.{◌≡◌, ℕ, ◌+◌, ◌≤◌, List, length, Ok, sym, ap, ◌∙◌, arith, take, drop}
use Rattle.tcd_base.specs.Place.{Place}
use Rattle.value_domain.specs.declared.states.State.{State}
use Rattle.depth_cert.specs.Grammar.{state_at}
use Rattle.depth_cert.specs.Spelling.{bytes_of_state}
use Rattle.depth_cert.proofs.CertLaws.{state_passed}
use Rattle.depth_cert.proofs.BackLaws.{state_read}
use Rattle.packed_cert.specs.declared.places.StatePlaces.{StatePlaces}
use Rattle.packed_cert.specs.ValuesInBytes.{place_in_bytes}
use Rattle.packed_cert.specs.RepeatedBytes.{SkipsRepeatedBytes}
use Rattle.packed_cert.specs.PointsInBytes.{AreStatePlaces}
use Rattle.packed_cert.proofs.SameBytes.{Small, split, small_rest, StandsFrom, stands_from, read_again, read_there}

pub state_stands : (version : ℕ) (bytes : List ℕ) (x e : ℕ) (s : State) → Small bytes → x ≤ length bytes → state_at version (place_in_bytes bytes x) ≡ Ok (s, place_in_bytes bytes e) → StandsFrom (state_at version) bytes x e s
state_stands version bytes x e s small h read =
    let p = state_passed version (take x bytes) (drop x bytes) s (place_in_bytes bytes e) (small_rest bytes x small) (ap (state_at version) (sym (split bytes x h)) ∙ read) in
    stands_from (state_at version) (bytes_of_state s) s bytes x e h (state_read version s p.1) p.0

-- where the same bytes come again, the same state is read
pub state_again : (version n : ℕ) (bytes : List ℕ) (s : State) (p : StatePlaces) (c d : Place) → Small bytes → AreStatePlaces version bytes s p → c.bytes ≡ bytes → p.start + n ≡ p.end → SkipsRepeatedBytes bytes p.start n c d → state_at version c ≡ Ok (s, d)
state_again version n bytes s p c d small h b len m =
    read_again (state_at version) s n bytes p.start p.end c d (state_stands version bytes p.start p.end s small (omega (arith, h.order, h.within)) h.read) b len m

-- what was read stands where it was read
pub stands_where : (version : ℕ) (bytes : List ℕ) (c d : Place) (s : State) (p : StatePlaces) → Small bytes → c.bytes ≡ bytes → d.bytes ≡ bytes → p.start ≡ c.place → p.end ≡ d.place → p.start ≤ length bytes
    → state_at version c ≡ Ok (s, d) → (state_at version (place_in_bytes bytes p.start) ≡ Ok (s, place_in_bytes bytes p.end)) × (p.start ≤ p.end) × (p.end ≤ length bytes)
stands_where version bytes c d s p small b f x e h read =
    let whole = read_there (state_at version) s bytes p.start p.end c d b f x e read in
    let from = state_stands version bytes p.start p.end s small h whole in
    (whole, from.order, from.within)
