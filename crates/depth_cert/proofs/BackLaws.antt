-- A certificate that was written is read back: points, nodes and the whole.
use Rattle.std.proofs.Common.{◌≡◌, ℕ, ◌+◌, ◌<◌, ◌≤◌, ◌^◌, ◌⊎◌, inl, inr, List, [], ◌∷◌, ◌++◌, length, map, Bool, true, false, Option, Some, None, Result, Ok, refl, sym, ap, ◌∙◌, subst, arith, leb, eqb, not, ◌||◌, eq-eqb}
use Rattle.std.specs.Prelude.{IfSome}
use Rattle.std.proofs.lemmas.Bool.{le-leb}
use Rattle.std.proofs.lemmas.List.{append-nil}
use Rattle.std.proofs.lemmas.List.Sums.{sum_by-append, sum_by-cons}
use Rattle.std.specs.List.{All, flat_map}
use Rattle.std.specs.List.Sorted.{IsStrictlyIncreasing}
use Rattle.tcd_base.specs.declared.errors.FormErr.{FormErr}
use Rattle.tcd_base.specs.Bytes.{bytes_of_half, bytes_of_word}
use Rattle.tcd_base.specs.Place.{Place, place_between}
use Rattle.tcd_base.specs.FieldReaders.{u8_at, u16_at, u32_at, many_fields_at}
use Rattle.value_domain.specs.declared.states.State.{State}
use Rattle.value_domain.specs.VersionLimits.{most_locals_of}
use Rattle.depth_cert.specs.declared.keys.Key.{Key}
use Rattle.depth_cert.specs.declared.points.Exit.{Exit}
use Rattle.depth_cert.specs.declared.points.Point.{Point}
use Rattle.depth_cert.specs.Keys.{cert_flag_byte, key_number, number_of_key, IsKey}
use Rattle.depth_cert.specs.Points.{IsState, IsPoint, AreAscendingPoints, addresses}
use Rattle.depth_cert.specs.Exits.{IsExit}
use Rattle.depth_cert.specs.Nodes.{NodeData, IsNode, count_points, key_numbers}
use Rattle.depth_cert.specs.Certs.{CertData, IsCert}
use Rattle.depth_cert.specs.Grammar.{valid_field_or_fault, is_above_last, last_number, flag_at, values_at, locals_at, state_at, address_after, point_after, key_after, need_at, exit_flag_at, exit_at, optional_exit_at, point_count_at, points_at, node_after, magic_at, version_at, node_count_at, cert_at, certificate_of}
use Rattle.depth_cert.specs.Spelling.{bytes_of_value, bytes_of_state, bytes_of_point, bytes_of_key, bytes_of_exit, bytes_of_node, bytes_of_cert}
use Rattle.depth_cert.proofs.WrittenLaws.{IsRead, done, seq, test, byte, half, word, many_read, one_of, above_map, flag, values_read}

-- a part with nothing after it
at_end : {A : Type 0} (read : Place → Result (A × Place) FormErr) (a b : List ℕ) (x : A) → IsRead read (a ++ (b ++ [])) x → IsRead read (a ++ b) x
at_end read a b x h = subst (λ (l : List ℕ). IsRead read (a ++ l) x) (append-nil b) h

alone : {A : Type 0} (read : Place → Result (A × Place) FormErr) (a : List ℕ) (x : A) → IsRead read (a ++ []) x → IsRead read a x
alone read a x h = subst (λ (l : List ℕ). IsRead read l x) (append-nil a) h

-- ---- points
flags_read : (all : List Bool) → IsRead (many_fields_at (λ before. flag_at) (length all) []) (map cert_flag_byte all) all
flags_read all = subst (λ (l : List ℕ). IsRead (many_fields_at (λ before. flag_at) (length all) []) l all) (singles all) (many_read (λ before. flag_at) (λ x. cert_flag_byte x ∷ []) all (λ before x after e. flag x) [] all (length all) refl refl)
  where
    singles : (xs : List Bool) → flat_map (λ x. cert_flag_byte x ∷ []) xs ≡ map cert_flag_byte xs
    singles [] = refl
    singles (x ∷ xs) = ap (λ (l : List ℕ). cert_flag_byte x ∷ l) (singles xs)

locals_read : (version : ℕ) (ls : List Bool) → length ls ≤ most_locals_of version → IsRead (locals_at version) (length ls ∷ map cert_flag_byte ls) ls
unfolding locals_at
locals_read version ls few =
    seq u8_at _ (length ls ∷ []) (map cert_flag_byte ls) (length ls) ls (byte (length ls))
    (λ start. seq (λ p. valid_field_or_fault 5 (leb (length ls) (most_locals_of version)) start (length ls, p)) _ [] (map cert_flag_byte ls) (length ls) ls (test 5 (leb (length ls) (most_locals_of version)) start (length ls) (le-leb _ _ few)) (λ p0. flags_read ls))

pub state_read : (version : ℕ) (s : State) → IsState version s → IsRead (state_at version) (bytes_of_state s) s
unfolding state_at bytes_of_state
state_read version s h =
    let regs : List ℕ = flat_map bytes_of_value s.regs in
    let ls : List Bool = s.locals.items in
    subst (λ (l : List ℕ). IsRead (state_at version) (cert_flag_byte s.ie ∷ s.ccpn ∷ cert_flag_byte s.lower ∷ length ls ∷ map cert_flag_byte ls ++ l) s) (append-nil regs)
    (seq flag_at _ (cert_flag_byte s.ie ∷ []) _ s.ie s (flag s.ie)
    (λ p0. seq u8_at _ (s.ccpn ∷ []) _ s.ccpn s (byte s.ccpn)
    (λ p1. seq flag_at _ (cert_flag_byte s.lower ∷ []) _ s.lower s (flag s.lower)
    (λ p2. seq (locals_at version) _ (length ls ∷ map cert_flag_byte ls) (regs ++ []) ls s (locals_read version ls h.locals)
    (λ p3. seq (values_at version 27) _ regs [] s.regs s (values_read version 27 s.regs h.values h.regs) (λ p4. done s))))))

pub point_read : (version : ℕ) (all before : List Point) (x : Point) (after : List Point) → AreAscendingPoints all → All (IsPoint version) all → all ≡ before ++ (x ∷ after) → IsRead (point_after version before) (bytes_of_point x) x
unfolding point_after address_after bytes_of_point
point_read version all before x after rising each e =
    let good : IsPoint version x = one_of (IsPoint version) all before x after each e in
    let above : is_above_last (last_number (addresses before)) x.addr ≡ true = above_map (λ p. p.addr) all before x after rising e in
    at_end (point_after version before) (bytes_of_word x.addr) (bytes_of_state x.state) x
    (seq (address_after (last_number (addresses before))) _ (bytes_of_word x.addr) (bytes_of_state x.state ++ []) x.addr x
    (alone (address_after (last_number (addresses before))) (bytes_of_word x.addr) x.addr
    (seq u32_at (λ p a. valid_field_or_fault 3 (is_above_last (last_number (addresses before)) a.0) p a) (bytes_of_word x.addr) [] x.addr x.addr (word x.addr good.addr) (λ p0. test 3 (is_above_last (last_number (addresses before)) x.addr) p0 x.addr above)))
    (λ p1. seq (state_at version) _ (bytes_of_state x.state) [] x.state x (state_read version x.state good.state) (λ p2. done x)))

pub points_read : (version used : ℕ) (ps : List Point) → AreAscendingPoints ps → All (IsPoint version) ps → used + length ps ≤ 2 ^ 16 → IsRead (points_at version used) (bytes_of_word (length ps) ++ flat_map bytes_of_point ps) ps
unfolding points_at point_count_at
points_read version used ps rising each few =
    seq (point_count_at used) _ (bytes_of_word (length ps)) (flat_map bytes_of_point ps) (length ps) ps
    (alone (point_count_at used) (bytes_of_word (length ps)) (length ps)
    (seq u32_at (λ p n. valid_field_or_fault 5 (leb (used + n.0) (2 ^ 16)) p n) (bytes_of_word (length ps)) [] (length ps) (length ps) (word (length ps) (omega arith))
    (λ p0. test 5 (leb (used + length ps) (2 ^ 16)) p0 (length ps) (le-leb _ _ few))))
    (λ p1. many_read (point_after version) bytes_of_point ps (λ before x after e. point_read version ps before x after rising each e) [] ps (length ps) refl refl)

-- ---- nodes
flag_byte : (b : Bool) → (cert_flag_byte b ≤ 1) × (eqb (cert_flag_byte b) 1 ≡ b)
flag_byte true = (omega arith, refl)
flag_byte false = (omega arith, refl)

pub key_read : (last : Option ℕ) (k : Key) → IsKey k → is_above_last last (number_of_key k) ≡ true → IsRead (key_after last) (bytes_of_key k) k
unfolding key_after bytes_of_key
key_read last k good above =
    let bit = flag_byte k.is in
    let made : Key = record { kind = k.kind; entry = k.entry; prio = k.prio; is = eqb (cert_flag_byte k.is) 1 } in
    let same : made ≡ k = ap (λ (b : Bool). record { kind = k.kind; entry = k.entry; prio = k.prio; is = b }) bit.1 in
    seq u8_at _ (k.kind ∷ []) _ k.kind k (byte k.kind)
    (λ p0. seq (λ p. valid_field_or_fault 4 (leb k.kind 4) p0 (k.kind, p)) _ [] _ k.kind k (test 4 (leb k.kind 4) p0 k.kind (le-leb _ _ good.kind))
    (λ p1. seq u32_at _ (bytes_of_word k.entry) _ k.entry k (word k.entry good.entry)
    (λ p2. seq u8_at _ (k.prio ∷ []) _ k.prio k (byte k.prio)
    (λ p3. seq u8_at _ (cert_flag_byte k.is ∷ []) [] (cert_flag_byte k.is) k (byte (cert_flag_byte k.is))
    (λ p4. seq (λ p. valid_field_or_fault 3 (is_above_last last (key_number k.kind k.entry k.prio (cert_flag_byte k.is))) p0 (cert_flag_byte k.is, p)) _ [] [] (cert_flag_byte k.is) k
    (test 3 (is_above_last last (key_number k.kind k.entry k.prio (cert_flag_byte k.is))) p0 (cert_flag_byte k.is) above)
    (λ p5. seq (λ p. valid_field_or_fault 4 (leb (cert_flag_byte k.is) 1) p4 (cert_flag_byte k.is, p)) _ [] [] (cert_flag_byte k.is) k (test 4 (leb (cert_flag_byte k.is) 1) p4 (cert_flag_byte k.is) (le-leb _ _ bit.0))
    (λ p6. subst (λ (x : Key). IsRead (λ p. Ok (made, p)) [] x) same (done made))))))))

pub exit_read : (version : ℕ) (x : Exit) → IsExit version x → IsRead (exit_at version) (cert_flag_byte x.ie ∷ x.ccpn ∷ flat_map bytes_of_value x.lower) x
unfolding exit_at
exit_read version x good =
    at_end (exit_at version) (cert_flag_byte x.ie ∷ x.ccpn ∷ []) (flat_map bytes_of_value x.lower) x
    (seq flag_at _ (cert_flag_byte x.ie ∷ []) _ x.ie x (flag x.ie)
    (λ p0. seq u8_at _ (x.ccpn ∷ []) _ x.ccpn x (byte x.ccpn)
    (λ p1. seq (values_at version 14) _ (flat_map bytes_of_value x.lower) [] x.lower x (values_read version 14 x.lower good.values good.lower) (λ p2. done x))))

exits_read : (version kind : ℕ) (x : Option Exit) → IfSome x (λ e. ((kind ≡ 1) ⊎ (kind ≡ 3)) × IsExit version e) → IsRead (optional_exit_at version kind) (bytes_of_exit x) x
unfolding optional_exit_at exit_flag_at bytes_of_exit
exits_read version kind None good =
    seq (exit_flag_at kind) _ (0 ∷ []) [] false None
    (seq flag_at _ (0 ∷ []) [] false false (flag false) (λ p0. done false))
    (λ p1. done None)
exits_read version kind (Some e) good =
    let may : not (eqb kind 1 || eqb kind 3) ≡ false = kinds kind good.0 in
    at_end (optional_exit_at version kind) (1 ∷ []) (cert_flag_byte e.ie ∷ e.ccpn ∷ flat_map bytes_of_value e.lower) (Some e)
    (seq (exit_flag_at kind) _ (1 ∷ []) _ true (Some e)
    (seq flag_at _ (1 ∷ []) [] true true (flag true) (λ p0. record { at = λ front rest. rw may ((done true).at front rest) }))
    (λ p1. seq (exit_at version) _ (cert_flag_byte e.ie ∷ e.ccpn ∷ flat_map bytes_of_value e.lower) [] e (Some e) (exit_read version e good.1) (λ p2. done (Some e))))
  where
    kinds : (kind : ℕ) → (kind ≡ 1) ⊎ (kind ≡ 3) → not (eqb kind 1 || eqb kind 3) ≡ false
    kinds kind h = elim h [ inl a ↦ rw a refl | inr b ↦ rw b refl ]

node_read : (version : ℕ) (all before : List NodeData) (x : NodeData) (after : List NodeData) → IsStrictlyIncreasing (key_numbers all) → All (IsNode version) all → count_points all ≤ 2 ^ 16 → all ≡ before ++ (x ∷ after)
    → IsRead (node_after version before) (bytes_of_node x) x
unfolding node_after need_at bytes_of_node
node_read version all before x after rising each few e =
    let good : IsNode version x = one_of (IsNode version) all before x after each e in
    let above : is_above_last (last_number (key_numbers before)) (number_of_key x.key) ≡ true = above_map (λ n. number_of_key n.key) all before x after rising e in
    let sum = ap count_points e ∙ sum_by-append (λ (n : NodeData). length n.points) before (x ∷ after) in
    let own = sum_by-cons (λ (n : NodeData). length n.points) x after in
    let room : count_points before + length x.points ≤ 2 ^ 16 = omega arith in
    let points : List ℕ = bytes_of_word (length x.points) ++ flat_map bytes_of_point x.points in
    subst (λ (l : List ℕ). IsRead (node_after version before) (bytes_of_key x.key ++ (bytes_of_half x.need ++ (bytes_of_exit x.exit ++ l))) x) (append-nil points)
    (seq (key_after (last_number (key_numbers before))) _ (bytes_of_key x.key) _ x.key x (key_read (last_number (key_numbers before)) x.key good.key above)
    (λ p0. seq need_at _ (bytes_of_half x.need) _ x.need x
    (alone need_at (bytes_of_half x.need) x.need
    (seq u16_at (λ p n. valid_field_or_fault 5 (leb n.0 4096) p n) (bytes_of_half x.need) [] x.need x.need (half x.need (omega (arith, good.need))) (λ p1. test 5 (leb x.need 4096) p1 x.need (le-leb _ _ good.need))))
    (λ p2. seq (optional_exit_at version x.key.kind) _ (bytes_of_exit x.exit) _ x.exit x (exits_read version x.key.kind x.exit good.exit)
    (λ p3. seq (points_at version (count_points before)) _ points [] x.points x (points_read version (count_points before) x.points good.rising good.points room) (λ p4. done x)))))

-- ---- certificates
known_version : (n : ℕ) → (n ≡ 1) ⊎ (n ≡ 2) → ((eqb n 1 || eqb n 2) ≡ true) × (n < 2 ^ 16)
known_version n h = elim h [ inl a ↦ (rw a refl, omega arith) | inr b ↦ (rw b refl, omega arith) ]

cert_read : (c : CertData) → IsCert c → IsRead cert_at (bytes_of_cert c) c
unfolding cert_at magic_at version_at node_count_at bytes_of_cert
cert_read c good =
    let known = known_version c.version good.version in
    let count : ℕ = length c.nodes in
    let few : count ≤ 2048 = good.few in
    let nodes : List ℕ = flat_map bytes_of_node c.nodes in
    subst (λ (l : List ℕ). IsRead cert_at (bytes_of_word 0x43444354 ++ (bytes_of_half c.version ++ (bytes_of_half count ++ l))) c) (append-nil nodes)
    (seq magic_at _ (bytes_of_word 0x43444354) _ 0x43444354 c
    (alone magic_at (bytes_of_word 0x43444354) 0x43444354
    (seq u32_at (λ p m. valid_field_or_fault 2 (eqb m.0 0x43444354) p m) (bytes_of_word 0x43444354) [] 0x43444354 0x43444354 (word 0x43444354 (omega arith)) (λ p0. test 2 (eqb 0x43444354 0x43444354) p0 0x43444354 refl)))
    (λ p1. seq version_at _ (bytes_of_half c.version) _ c.version c
    (alone version_at (bytes_of_half c.version) c.version
    (seq u16_at (λ p v. valid_field_or_fault 2 (eqb v.0 1 || eqb v.0 2) p v) (bytes_of_half c.version) [] c.version c.version (half c.version known.1) (λ p0. test 2 (eqb c.version 1 || eqb c.version 2) p0 c.version known.0)))
    (λ p2. seq node_count_at _ (bytes_of_half count) _ count c
    (alone node_count_at (bytes_of_half count) count
    (seq u16_at (λ p n. valid_field_or_fault 5 (leb n.0 2048) p n) (bytes_of_half count) [] count count (half count (omega arith)) (λ p0. test 5 (leb count 2048) p0 count (le-leb _ _ few))))
    (λ p3. seq (many_fields_at (node_after c.version) count []) _ nodes [] c.nodes c
    (many_read (node_after c.version) bytes_of_node c.nodes (λ before x after e. node_read c.version c.nodes before x after good.rising good.nodes good.points e) [] c.nodes count refl refl)
    (λ p4. done c)))))

-- the certificate is what its spelling spells
pub written_is_read : (c : CertData) → IsCert c → certificate_of (bytes_of_cert c) ≡ Ok c
unfolding certificate_of
written_is_read c good =
    let start : cert_at (place_between [] (bytes_of_cert c)) ≡ Ok (c, place_between (bytes_of_cert c) []) =
    ap (λ (l : List ℕ). cert_at (place_between [] l)) (sym (append-nil (bytes_of_cert c))) ∙ (cert_read c good).at [] [] in
    let end : eqb (length (bytes_of_cert c)) (length (bytes_of_cert c)) ≡ true = eq-eqb _ _ refl in
    rw start (rw end refl)
