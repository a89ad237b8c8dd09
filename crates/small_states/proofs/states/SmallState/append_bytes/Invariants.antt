use Rattle.std.proofs.Common.{◌≡◌, ◌+◌, ◌∷◌, length, map, take}
use Rattle.depth_cert.specs.Keys.{cert_flag_byte}
use Rattle.small_states.proofs.states.SmallState.append_bytes.Given as goal

abbrev pub invariant-loop-flag : goal.invariant-loop-flag
invariant-loop-flag l =
    (l.out.items ≡ l.initial.out.items)
    × (length l.gathered ≡ 4 + l.flag-index)
    × (l.gathered ≡ cert_flag_byte l.self.ie ∷ l.self.ccpn ∷ cert_flag_byte l.self.lower ∷ length l.locals ∷ map cert_flag_byte (take l.flag-index l.locals))
