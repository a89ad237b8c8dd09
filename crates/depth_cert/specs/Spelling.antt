-- The only bytes that spell a certificate.
use Rattle.std.specs.Prelude.{◌+◌, if◌then◌else◌, ℕ, List, [], ◌∷◌, ◌++◌, length, map, Option, Some, None}
use Rattle.std.specs.List.{flat_map}
use Rattle.tcd_base.specs.Bytes.{bytes_of_half, bytes_of_word}
use Rattle.value_domain.specs.declared.values.Val.{Val}
use Rattle.value_domain.specs.declared.values.Val.TheVariants.{Set, Span}
use Rattle.value_domain.specs.declared.states.State.{State}
use Rattle.depth_cert.specs.declared.keys.Key.{Key}
use Rattle.depth_cert.specs.declared.points.Exit.{Exit}
use Rattle.depth_cert.specs.declared.points.Point.{Point}
use Rattle.depth_cert.specs.Keys.{cert_flag_byte}
use Rattle.depth_cert.specs.Nodes.{NodeData}
use Rattle.depth_cert.specs.Certs.{CertData}
use Rattle.value_domain.specs.Values.{is_span_of_all_words}

-- a value's bytes in a certificate: a Set's number of words and these; 0 for any word; a Span's
-- step plus 240 and its ends
unfoldable pub bytes_of_value : Val → List ℕ
bytes_of_value (Set ws) = length ws ∷ flat_map bytes_of_word ws
bytes_of_value (Span lo last step) = if is_span_of_all_words lo last step then 0 ∷ [] else (240 + step) ∷ bytes_of_word lo ++ bytes_of_word last

-- the bytes of a state in a certificate: ie, ccpn, lower, the number of locals and the locals, and
-- the registers' values
unfoldable pub bytes_of_state : State → List ℕ
bytes_of_state s =
    cert_flag_byte s.ie ∷ s.ccpn ∷ cert_flag_byte s.lower ∷ length s.locals.items ∷ map cert_flag_byte s.locals.items ++ flat_map bytes_of_value s.regs

-- the bytes of a point in a certificate: the address and the state
unfoldable pub bytes_of_point : Point → List ℕ
bytes_of_point p = bytes_of_word p.addr ++ bytes_of_state p.state

-- the bytes of a key in a certificate: the kind, the entry, the priority, and PSW.IS
unfoldable pub bytes_of_key : Key → List ℕ
bytes_of_key k = k.kind ∷ bytes_of_word k.entry ++ (k.prio ∷ cert_flag_byte k.is ∷ [])

-- the bytes of a node's exit in a certificate: 0 for no exit; else 1, ie, ccpn, and the values of
-- the lower registers
unfoldable pub bytes_of_exit : Option Exit → List ℕ
bytes_of_exit None = 0 ∷ []
bytes_of_exit (Some e) = 1 ∷ cert_flag_byte e.ie ∷ e.ccpn ∷ flat_map bytes_of_value e.lower

-- the bytes of a node in a certificate: the key, the need, the exit, the number of points and the
-- points
unfoldable pub bytes_of_node : NodeData → List ℕ
bytes_of_node n =
    bytes_of_key n.key ++ (bytes_of_half n.need ++ (bytes_of_exit n.exit ++ (bytes_of_word (length n.points) ++ flat_map bytes_of_point n.points)))

-- the only bytes that spell a certificate: the magic word, the format, the number of nodes and the
-- nodes
unfoldable pub bytes_of_cert : CertData → List ℕ
bytes_of_cert c = bytes_of_word 0x43444354 ++ (bytes_of_half c.version ++ (bytes_of_half (length c.nodes) ++ flat_map bytes_of_node c.nodes))
