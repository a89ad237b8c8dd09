-- The grammar of certificates: fields read from left to right, and the first fault.
-- Its kinds are SHORT, BAD_MAGIC, BAD_ORDER, BAD_VALUE, ABOVE_LIMIT and TRAILING of tcd_base.
use Rattle.std.specs.Prelude.{◌+◌, ◌-◌, ◌^◌, ◌==◌, ◌&&◌, ◌||◌, not, nat_lt, nat_le, if◌then◌else◌, ℕ, Bool, true, List, length, slice_get, Option, Some, None, Result, Ok, []}
use Rattle.depth_cert.specs.Keys.{call_kind, sys_kind, key_number}
use Rattle.tcd_base.specs.declared.errors.FormErr.{FormErr}
use Rattle.tcd_base.specs.Place.{Place}
use Rattle.tcd_base.specs.FieldReaders.{◌>>=◌, u8_at, u16_at, u32_at, many_fields_at, field_fault_at}
use Rattle.value_domain.specs.declared.values.Val.{Val}
use Rattle.value_domain.specs.declared.values.Val.TheVariants.{Set, Span}
use Rattle.value_domain.specs.declared.states.State.{State}
use Rattle.value_domain.specs.Values.{any_val, span_len, is_span_of_all_words}
use Rattle.value_domain.specs.VersionLimits.{most_words_of, most_locals_of}
use Rattle.depth_cert.specs.declared.keys.Key.{Key}
use Rattle.depth_cert.specs.declared.points.Exit.{Exit}
use Rattle.depth_cert.specs.declared.points.Point.{Point}
use Rattle.depth_cert.specs.Points.{addresses}
use Rattle.depth_cert.specs.Nodes.{NodeData, count_points, key_numbers}
use Rattle.depth_cert.specs.Certs.{CertData}

-- ---- fields
-- a field of a certificate that was read: its number if that is valid, else a fault of this kind at
-- the field
abbrev pub valid_field_or_fault : ℕ → Bool → Place → ℕ × Place → Result (ℕ × Place) FormErr
valid_field_or_fault kind good p x = if good then Ok x else field_fault_at kind p

-- the last number of a list, if the list isn't empty
abbrev pub last_number : List ℕ → Option ℕ
last_number xs = slice_get xs (length xs - 1)

-- a number is above the last one of an ascending list; true if there is no last one
abbrev pub is_above_last : Option ℕ → ℕ → Bool
is_above_last None x = true
is_above_last (Some last) x = nat_lt last x

-- a truth value of a certificate: a byte 0 or 1
unfoldable pub flag_at : Place → Result (Bool × Place) FormErr
flag_at p = u8_at p >>= λ b. if nat_lt 1 b.0 then field_fault_at 4 p else Ok (b.0 == 1, b.1)

-- n truth values of a certificate, one after another
abbrev pub flags_at : ℕ → Place → Result (List Bool × Place) FormErr
flags_at n p = many_fields_at (λ before. flag_at) n [] p

-- ---- values
-- a word of a Set in a certificate, above those before
unfoldable pub set_word_after : List ℕ → Place → Result (ℕ × Place) FormErr
set_word_after before p = u32_at p >>= λ w. valid_field_or_fault 4 (is_above_last (last_number before) w.0) p w

-- a Set of n words in a certificate, each word above the one before
unfoldable pub set_at : ℕ → Place → Result (Val × Place) FormErr
set_at n p = many_fields_at set_word_after n [] p >>= λ ws. Ok (Set ws.0, ws.1)

-- a certificate may spell this Span: more members than a Set can have (so lo isn't above last), but
-- not all words
abbrev pub is_cert_span : ℕ → ℕ → ℕ → ℕ → Bool
is_cert_span version lo last step = nat_lt (most_words_of version) (span_len lo last step) && not (is_span_of_all_words lo last step)

-- a Span in a certificate, whose step was read at start
unfoldable pub span_at : ℕ → ℕ → Place → Place → Result (Val × Place) FormErr
span_at version step start p =
    u32_at p >>= λ lo. u32_at lo.1 >>= λ last. if is_cert_span version lo.0 last.0 step then Ok (Span lo.0 last.0 step, last.1) else field_fault_at 4 start

-- an abstract value in a certificate: any word, a Set within the format's width, or a Span
unfoldable pub value_at : ℕ → Place → Result (Val × Place) FormErr
value_at version p =
    u8_at p >>= λ b.
    if b.0 == 0 then Ok (any_val, b.1)
    else if nat_le b.0 (most_words_of version) then set_at b.0 b.1
    else if nat_le 240 b.0 && nat_le b.0 242 then span_at version (b.0 - 240) p b.1
    else field_fault_at 4 p

-- n abstract values in a certificate, one after another
unfoldable pub values_at : ℕ → ℕ → Place → Result (List Val × Place) FormErr
values_at version n p = many_fields_at (λ before. value_at version) n [] p

-- ---- points
-- the flags of a state's saved lower contexts in a certificate: how many, at most the format's
-- limit, and each flag
unfoldable pub locals_at : ℕ → Place → Result (List Bool × Place) FormErr
locals_at version p =
    u8_at p >>= λ n. valid_field_or_fault 5 (nat_le n.0 (most_locals_of version)) p n >>= λ n. flags_at n.0 n.1

-- a point's state in a certificate: ie, ccpn, lower, the locals, and the values of its 27 registers
unfoldable pub state_at : ℕ → Place → Result (State × Place) FormErr
state_at version p =
    flag_at p >>= λ ie. u8_at ie.1 >>= λ ccpn. flag_at ccpn.1 >>= λ lower. locals_at version lower.1 >>= λ locals. values_at version 27 locals.1 >>= λ regs.
    Ok (record { regs = regs.0; ie = ie.0; ccpn = ccpn.0; lower = lower.0; locals = record { items = locals.0 } }, regs.1)

-- a point's address in a certificate, above the last one
unfoldable pub address_after : Option ℕ → Place → Result (ℕ × Place) FormErr
address_after last p = u32_at p >>= λ addr. valid_field_or_fault 3 (is_above_last last addr.0) p addr

-- a point of a certificate: an address above those before, and the state
unfoldable pub point_after : ℕ → List Point → Place → Result (Point × Place) FormErr
point_after version before p =
    address_after (last_number (addresses before)) p >>= λ addr. state_at version addr.1 >>= λ s. Ok (record { addr = addr.0; state = s.0 }, s.1)

-- ---- nodes
-- a key whose number is above the last; a fault of the order is at the kind, after `is` was read
unfoldable pub key_after : Option ℕ → Place → Result (Key × Place) FormErr
key_after last p =
    u8_at p >>= λ kind. valid_field_or_fault 4 (nat_le kind.0 4) p kind >>= λ kind. u32_at kind.1 >>= λ entry. u8_at entry.1 >>= λ prio. u8_at prio.1 >>= λ is.
    valid_field_or_fault 3 (is_above_last last (key_number kind.0 entry.0 prio.0 is.0)) p is >>= λ is. valid_field_or_fault 4 (nat_le is.0 1) prio.1 is >>= λ is.
    Ok (record { kind = kind.0; entry = entry.0; prio = prio.0; is = is.0 == 1 }, is.1)

-- a node's need in a certificate, at most 4,096 areas
unfoldable pub need_at : Place → Result (ℕ × Place) FormErr
need_at p = u16_at p >>= λ need. valid_field_or_fault 5 (nat_le need.0 4096) p need

-- the flag whether a certificate's node has an exit: only calls and system calls can have one
unfoldable pub exit_flag_at : ℕ → Place → Result (Bool × Place) FormErr
exit_flag_at kind p = flag_at p >>= λ exit. if exit.0 && not (kind == call_kind || kind == sys_kind) then field_fault_at 4 p else Ok exit

-- a node's exit in a certificate: ie, ccpn, and the values of the 14 lower registers
unfoldable pub exit_at : ℕ → Place → Result (Exit × Place) FormErr
exit_at version p =
    flag_at p >>= λ ie. u8_at ie.1 >>= λ ccpn. values_at version 14 ccpn.1 >>= λ lower. Ok (record { ie = ie.0; ccpn = ccpn.0; lower = lower.0 }, lower.1)

-- a node's exit, if it has one
unfoldable pub optional_exit_at : ℕ → ℕ → Place → Result (Option Exit × Place) FormErr
optional_exit_at version kind p =
    exit_flag_at kind p >>= λ has. if has.0 then (exit_at version has.1 >>= λ exit. Ok (Some exit.0, exit.1)) else Ok (None, has.1)

-- the number of a node's points, which with those of the nodes before are at most 65,536
unfoldable pub point_count_at : ℕ → Place → Result (ℕ × Place) FormErr
point_count_at used p = u32_at p >>= λ n. valid_field_or_fault 5 (nat_le (used + n.0) (2 ^ 16)) p n

-- a node's points: their number, and each one after those before
unfoldable pub points_at : ℕ → ℕ → Place → Result (List Point × Place) FormErr
points_at version used p = point_count_at used p >>= λ n. many_fields_at (point_after version) n.0 [] n.1

-- a node whose key is above those before: the key, the need, the exit, and the points
unfoldable pub node_after : ℕ → List NodeData → Place → Result (NodeData × Place) FormErr
node_after version before p =
    key_after (last_number (key_numbers before)) p >>= λ key. need_at key.1 >>= λ need. optional_exit_at version key.0.kind need.1 >>= λ exit. points_at version (count_points before) exit.1 >>= λ points.
    Ok (record { key = key.0; need = need.0; exit = exit.0; points = points.0 }, points.1)

-- ---- certificates
-- the magic bytes of a certificate, 54 43 44 43
unfoldable pub magic_at : Place → Result (ℕ × Place) FormErr
magic_at p = u32_at p >>= λ magic. valid_field_or_fault 2 (magic.0 == 0x43444354) p magic

-- the format of a certificate, 1 or 2
unfoldable pub version_at : Place → Result (ℕ × Place) FormErr
version_at p = u16_at p >>= λ version. valid_field_or_fault 2 (version.0 == 1 || version.0 == 2) p version

-- the number of a certificate's nodes, at most 2,048
unfoldable pub node_count_at : Place → Result (ℕ × Place) FormErr
node_count_at p = u16_at p >>= λ n. valid_field_or_fault 5 (nat_le n.0 2048) p n

-- a certificate as its bytes are read: the magic bytes, the format, and the nodes
unfoldable pub cert_at : Place → Result (CertData × Place) FormErr
cert_at p =
    magic_at p >>= λ magic. version_at magic.1 >>= λ version. node_count_at version.1 >>= λ n. many_fields_at (node_after version.0) n.0 [] n.1 >>= λ nodes.
    Ok (record { version = version.0; nodes = nodes.0 }, nodes.1)

-- the certificate that the bytes spell, or their first fault
unfoldable pub certificate_of : List ℕ → Result CertData FormErr
certificate_of bytes = cert_at (record { bytes = bytes; place = 0 }) >>= λ c. if c.1.place == length bytes then Ok c.0 else field_fault_at 6 c.1
