-- Exits that stand at two places in the same bytes.
use Rattle.std.proofs.Common.{◌≡◌, ℕ, ◌+◌, ◌≤◌, List, ◌∷◌, length, take, drop, Ok, Result, sym, ap, ◌∙◌, arith}
use Rattle.std.specs.List.{flat_map}
use Rattle.tcd_base.specs.declared.errors.FormErr.{FormErr}
use Rattle.tcd_base.specs.Place.{Place}
use Rattle.depth_cert.specs.declared.points.Exit.{Exit}
use Rattle.depth_cert.specs.Keys.{cert_flag_byte}
use Rattle.depth_cert.specs.Exits.{no_exit}
use Rattle.depth_cert.specs.Grammar.{exit_at}
use Rattle.depth_cert.specs.Spelling.{bytes_of_value}
use Rattle.depth_cert.proofs.WholeLaws.{exit_passed}
use Rattle.depth_cert.proofs.BackLaws.{exit_read}
use Rattle.packed_cert.specs.declared.places.ExitPlaces.{ExitPlaces}
use Rattle.packed_cert.specs.ValuesInBytes.{place_in_bytes, read_from_bytes_or}
use Rattle.packed_cert.specs.RepeatedBytes.{SkipsRepeatedBytes}
use Rattle.packed_cert.specs.NodesInBytes.{exit_in_bytes, IsExitBetween, AreExitPlaces}
use Rattle.packed_cert.proofs.SameBytes.{Small, split, small_rest, StandsFrom, stands_from, read_again, read_there}

exit_from : (version : ℕ) (bytes : List ℕ) (x e : ℕ) (s : Exit) → Small bytes → x ≤ length bytes → exit_at version (place_in_bytes bytes x) ≡ Ok (s, place_in_bytes bytes e) → StandsFrom (exit_at version) bytes x e s
exit_from version bytes x e s small h read =
    let p = exit_passed version (take x bytes) (drop x bytes) s (place_in_bytes bytes e) (small_rest bytes x small) (ap (exit_at version) (sym (split bytes x h)) ∙ read) in
    stands_from (exit_at version) (cert_flag_byte s.ie ∷ s.ccpn ∷ flat_map bytes_of_value s.lower) s bytes x e h (exit_read version s p.1) p.0

-- where the same bytes come again, the same exit is read
pub exit_again : (version n : ℕ) (bytes : List ℕ) (p : ExitPlaces) (c d : Place) → Small bytes → AreExitPlaces version bytes p → c.bytes ≡ bytes → p.start + n ≡ p.end → SkipsRepeatedBytes bytes p.start n c d → exit_at version c ≡ Ok (exit_in_bytes version bytes p.start, d)
exit_again version n bytes p c d small h b len m =
    let s : Exit = h.read.0 in
    let own : s ≡ exit_in_bytes version bytes p.start = sym (ap (read_from_bytes_or no_exit) h.read.1) in
    read_again (exit_at version) s n bytes p.start p.end c d (exit_from version bytes p.start p.end s small (omega (arith, h.order, h.within)) h.read.1) b len m
    ∙ ap (λ (x : Exit). let r : Result (Exit × Place) FormErr = Ok (x, d) in r) own

-- what was read stands where it was read
pub exit_where : (version : ℕ) (bytes : List ℕ) (c d : Place) (p : ExitPlaces) → Small bytes → c.bytes ≡ bytes → d.bytes ≡ bytes → p.start ≡ c.place → p.end ≡ d.place → p.start ≤ length bytes → IsExitBetween version c d → AreExitPlaces version bytes p
exit_where version bytes c d p small b f x e h r =
    let whole = read_there (exit_at version) r.0 bytes p.start p.end c d b f x e r.1 in
    let from = exit_from version bytes p.start p.end r.0 small h whole in
    record { order = from.order; within = from.within; read = (r.0, whole) }
