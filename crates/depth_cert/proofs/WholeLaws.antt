-- What the grammar gives of nodes and whole certificates.
use Rattle.std.proofs.Common.{◌≡◌, ℕ, ◌<◌, ◌≤◌, ◌^◌, ◌⊎◌, inl, inr, List, [], ◌∷◌, ◌++◌, length, get_or, Bool, true, false, cond, Option, Some, None, Ok, Err, refl, sym, ap, ◌∙◌, subst, arith, length-append, leb, eqb, not, ◌&&◌, ◌||◌}
use Rattle.std.specs.Prelude.{IfSome}
use Rattle.std.proofs.lemmas.Bool.{leb-true, eqb-true, or_cases}
use Rattle.std.proofs.lemmas.List.{append-nil}
use Rattle.std.proofs.lemmas.List.Elements.{All-nil, All-push}
use Rattle.std.proofs.lemmas.List.Sums.{sum_by-append}
use Rattle.std.specs.List.{All, flat_map}
use Rattle.std.specs.List.Sorted.{IsStrictlyIncreasing}
use Rattle.tcd_base.specs.declared.errors.FormErr.{FormErr}
use Rattle.tcd_base.specs.Bytes.{bytes_of_half, bytes_of_word}
use Rattle.tcd_base.specs.Place.{Place, place_between}
use Rattle.tcd_base.specs.FieldReaders.{◌>>=◌, u8_at, u16_at, u32_at, many_fields_at}
use Rattle.tcd_base.proofs.FieldReads.{bind_ok}
use Rattle.depth_cert.specs.declared.points.Exit.{Exit}
use Rattle.depth_cert.specs.Keys.{cert_flag_byte, number_of_key}
use Rattle.depth_cert.specs.Exits.{IsExit}
use Rattle.depth_cert.specs.Nodes.{NodeData, IsNode, count_points, key_numbers}
use Rattle.depth_cert.specs.Certs.{CertData, IsCert}
use Rattle.depth_cert.specs.Grammar.{last_number, flag_at, values_at, key_after, need_at, exit_flag_at, exit_at, optional_exit_at, points_at, node_after, magic_at, version_at, node_count_at, cert_at, certificate_of}
use Rattle.depth_cert.specs.Spelling.{bytes_of_value, bytes_of_point, bytes_of_key, bytes_of_exit, bytes_of_node, bytes_of_cert}
use Rattle.depth_cert.proofs.ManyLaws.{rising_map_push}
use Rattle.tcd_base.proofs.PassedLaws.{AreBytes, bytes_from, Passed, passed_bytes, passed_both, ok_pair, passed_test, byte_passed, half_passed, word_passed, many_passed}
use Rattle.depth_cert.proofs.GrammarLaws.{next, checked_passed, flag_passed, values_passed}
use Rattle.depth_cert.proofs.CertLaws.{key_passed, points_passed}

-- ---- exits
exit_bytes : (e : Exit) → 1 ∷ cert_flag_byte e.ie ∷ e.ccpn ∷ flat_map bytes_of_value e.lower ≡ bytes_of_exit (Some e)
unfolding bytes_of_exit
exit_bytes e = refl

none_bytes : 0 ∷ [] ≡ bytes_of_exit None
unfolding bytes_of_exit
none_bytes = refl

pub exit_passed : (version : ℕ) (front rest : List ℕ) (x : Exit) (q : Place) → AreBytes rest → exit_at version (place_between front rest) ≡ Ok (x, q)
    → Passed (cert_flag_byte x.ie ∷ x.ccpn ∷ flat_map bytes_of_value x.lower) front rest q × IsExit version x
unfolding exit_at
exit_passed version front rest x q bytes e =
    let ie = bind_ok (flag_at (place_between front rest)) _ _ e in
    let h1 = flag_passed front rest ie.0.0 ie.0.1 bytes ie.1 in
    let b1 = passed_bytes h1 bytes in
    let ccpn = bind_ok (u8_at ie.0.1) _ _ ie.2 in
    let h2 = byte_passed _ h1.after ccpn.0.0 ccpn.0.1 b1 (next u8_at _ h1 ccpn.1) in
    let b2 = passed_bytes h2.0 b1 in
    let lower = bind_ok (values_at version 14 ccpn.0.1) _ _ ccpn.2 in
    let h3 = values_passed version 14 _ h2.0.after lower.0.0 lower.0.1 b2 (next (values_at version 14) _ h2.0 lower.1) in
    let made : Exit = record { ie = ie.0.0; ccpn = ccpn.0.0; lower = lower.0.0 } in
    let f = ok_pair made x lower.0.1 q lower.2 in
    let all : Passed (cert_flag_byte made.ie ∷ made.ccpn ∷ flat_map bytes_of_value made.lower) front rest lower.0.1 = passed_both h1 (passed_both h2.0 h3.0) in (
      subst (λ (r : Place). Passed (cert_flag_byte x.ie ∷ x.ccpn ∷ flat_map bytes_of_value x.lower) front rest r) f.1
          (subst (λ (t : Exit). Passed (cert_flag_byte t.ie ∷ t.ccpn ∷ flat_map bytes_of_value t.lower) front rest lower.0.1) f.0 all),
      subst (IsExit version) f.0 (record { lower = h3.1; values = h3.2; ccpn = h2.1 }),
    )

-- a flag with an exit is one of a call or a system call
allowed : (b : Bool) (kind : ℕ) (e : FormErr) (x y : Bool × Place) → cond (b && not (eqb kind 1 || eqb kind 3)) (Err e) (Ok x) ≡ Ok y → (x ≡ y) × (b ≡ true → (kind ≡ 1) ⊎ (kind ≡ 3))
allowed false kind e x y h = (cc, λ f. absurd (let g : false ≡ true = f in cc))
allowed true kind e x y h = by_kinds (eqb kind 1 || eqb kind 3) kind e x y refl h
  where
    by_kinds : (good : Bool) (kind : ℕ) (e : FormErr) (x y : Bool × Place) → (eqb kind 1 || eqb kind 3) ≡ good → cond (not good) (Err e) (Ok x) ≡ Ok y → (x ≡ y) × (true ≡ true → (kind ≡ 1) ⊎ (kind ≡ 3))
    by_kinds true kind e x y g h = (cc, λ f. elim (or_cases (eqb kind 1) (eqb kind 3) g) [ inl i ↦ inl (eqb-true _ _ i) | inr j ↦ inr (eqb-true _ _ j) ])
    by_kinds false kind e x y g h = cc

abbrev pub IsExitOf : ℕ → ℕ → Option Exit → Type 0
IsExitOf version kind exit = IfSome exit (λ e. ((kind ≡ 1) ⊎ (kind ≡ 3)) × IsExit version e)

exit_or_none : (b : Bool) (version kind : ℕ) (front rest : List ℕ) (x : Option Exit) (at q : Place) → Passed (cert_flag_byte b ∷ []) front rest at → AreBytes rest → (b ≡ true → (kind ≡ 1) ⊎ (kind ≡ 3))
    → cond b (◌>>=◌ {A = Exit × Place} {B = Option Exit × Place} (exit_at version at) (λ exit. Ok (Some exit.0, exit.1))) (Ok (None, at)) ≡ Ok (x, q) → Passed (bytes_of_exit x) front rest q × IsExitOf version kind x
exit_or_none false version kind front rest x at q h bytes may e =
    let f = ok_pair None x at q e in (
      subst (λ (r : Place). Passed (bytes_of_exit x) front rest r) f.1 (subst (λ (t : Option Exit). Passed (bytes_of_exit t) front rest at) f.0 (subst (λ (l : List ℕ). Passed l front rest at) none_bytes h)),
      subst (IsExitOf version kind) f.0 tt,
    )
exit_or_none true version kind front rest x at q h bytes may e =
    let exit = bind_ok (exit_at version at) _ _ e in
    let k = exit_passed version _ h.after exit.0.0 exit.0.1 (passed_bytes h bytes) (next (exit_at version) _ h exit.1) in
    let f = ok_pair (Some exit.0.0) x exit.0.1 q exit.2 in
    let all : Passed (bytes_of_exit (Some exit.0.0)) front rest exit.0.1 = subst (λ (l : List ℕ). Passed l front rest exit.0.1) (exit_bytes exit.0.0) (passed_both h k.0) in (
      subst (λ (r : Place). Passed (bytes_of_exit x) front rest r) f.1 (subst (λ (t : Option Exit). Passed (bytes_of_exit t) front rest exit.0.1) f.0 all),
      subst (IsExitOf version kind) f.0 (may refl, k.1),
    )

exits_passed : (version kind : ℕ) (front rest : List ℕ) (x : Option Exit) (q : Place) → AreBytes rest → optional_exit_at version kind (place_between front rest) ≡ Ok (x, q) → Passed (bytes_of_exit x) front rest q × IsExitOf version kind x
unfolding optional_exit_at exit_flag_at
exits_passed version kind front rest x q bytes e =
    let has = bind_ok (exit_flag_at kind (place_between front rest)) _ _ e in
    let flag = bind_ok (flag_at (place_between front rest)) _ _ has.1 in
    let a = allowed flag.0.0 kind (record { kind = 4; at = length front }) flag.0 has.0 flag.2 in
    let h = flag_passed front rest has.0.0 has.0.1 bytes (flag.1 ∙ ap (λ (v : Bool × Place). Ok v) a.0) in
    exit_or_none has.0.0 version kind front rest x has.0.1 q h bytes (λ t. a.1 (ap (λ (v : Bool × Place). v.0) a.0 ∙ t)) has.2

-- ---- nodes
node_bytes : (n : NodeData) → bytes_of_key n.key ++ (bytes_of_half n.need ++ (bytes_of_exit n.exit ++ (bytes_of_word (length n.points) ++ flat_map bytes_of_point n.points))) ≡ bytes_of_node n
unfolding bytes_of_node
node_bytes n = refl

pub record AreNodesOf (version : ℕ) (ns : List NodeData) : Type 0 where
  pub rising : IsStrictlyIncreasing (key_numbers ns)
  pub each : All (IsNode version) ns
  pub points : count_points ns ≤ 2 ^ 16

node_passed : (version : ℕ) (before : List NodeData) (front rest : List ℕ) (n : NodeData) (q : Place) → AreBytes rest → AreNodesOf version before → node_after version before (place_between front rest) ≡ Ok (n, q)
    → Passed (bytes_of_node n) front rest q × AreNodesOf version (before ++ n ∷ [])
unfolding node_after need_at
node_passed version before front rest n q bytes good e =
    let key = bind_ok (key_after (last_number (key_numbers before)) (place_between front rest)) _ _ e in
    let h1 = key_passed (last_number (key_numbers before)) front rest key.0.0 key.0.1 bytes key.1 in
    let b1 = passed_bytes h1.0 bytes in
    let need = bind_ok (need_at key.0.1) _ _ key.2 in
    let half = bind_ok (u16_at key.0.1) _ _ need.1 in
    let t = checked_passed 5 (leb half.0.0 4096) key.0.1 half.0 need.0 half.2 in
    let h2 = half_passed _ h1.0.after need.0.0 need.0.1 b1 (next u16_at _ h1.0 (half.1 ∙ ap (λ (v : ℕ × Place). Ok v) t.1)) in
    let b2 = passed_bytes h2.0 b1 in
    let few : need.0.0 ≤ 4096 = leb-true _ _ (subst (λ (v : ℕ × Place). leb v.0 4096 ≡ true) t.1 t.0) in
    let exit = bind_ok (optional_exit_at version key.0.0.kind need.0.1) _ _ need.2 in
    let h3 = exits_passed version key.0.0.kind _ h2.0.after exit.0.0 exit.0.1 b2 (next (optional_exit_at version key.0.0.kind) _ h2.0 exit.1) in
    let b3 = passed_bytes h3.0 b2 in
    let points = bind_ok (points_at version (count_points before) exit.0.1) _ _ exit.2 in
    let h4 = points_passed version (count_points before) _ h3.0.after points.0.0 points.0.1 b3 (next (points_at version (count_points before)) _ h3.0 points.1) in
    let made : NodeData = record { key = key.0.0; need = need.0.0; exit = exit.0.0; points = points.0.0 } in
    let f = ok_pair made n points.0.1 q points.2 in
    let all : Passed (bytes_of_node made) front rest points.0.1 = subst (λ (l : List ℕ). Passed l front rest points.0.1) (node_bytes made) (passed_both h1.0 (passed_both h2.0 (passed_both h3.0 h4.0))) in
    let sum = sum_by-append (λ (n : NodeData). length n.points) before (made ∷ []) in (
      subst (λ (r : Place). Passed (bytes_of_node n) front rest r) f.1 (subst (λ (t : NodeData). Passed (bytes_of_node t) front rest points.0.1) f.0 all),
      subst (λ (t : NodeData). AreNodesOf version (before ++ t ∷ [])) f.0 (record {
        rising = rising_map_push (λ n. number_of_key n.key) before made good.rising h1.2;
        each = All-push (IsNode version) before made good.each (record { key = h1.1; need = few; exit = h3.1; rising = h4.1.rising; points = h4.1.each });
        points = omega (arith, sum, h4.2);
      }),
    )

-- ---- certificates
cert_bytes : (c : CertData) → bytes_of_word 0x43444354 ++ (bytes_of_half c.version ++ (bytes_of_half (length c.nodes) ++ flat_map bytes_of_node c.nodes)) ≡ bytes_of_cert c
unfolding bytes_of_cert
cert_bytes c = refl

version_known : (n : ℕ) → (eqb n 1 || eqb n 2) ≡ true → (n ≡ 1) ⊎ (n ≡ 2)
version_known n h = elim (or_cases (eqb n 1) (eqb n 2) h) [ inl i ↦ inl (eqb-true _ _ i) | inr j ↦ inr (eqb-true _ _ j) ]

cert_passed : (front rest : List ℕ) (c : CertData) (q : Place) → AreBytes rest → cert_at (place_between front rest) ≡ Ok (c, q) → Passed (bytes_of_cert c) front rest q × IsCert c
unfolding cert_at magic_at version_at node_count_at
cert_passed front rest c q bytes e =
    let magic = bind_ok (magic_at (place_between front rest)) _ _ e in
    let word = bind_ok (u32_at (place_between front rest)) _ _ magic.1 in
    let t1 = checked_passed 2 (eqb word.0.0 0x43444354) (place_between front rest) word.0 magic.0 word.2 in
    let h1 = word_passed front rest magic.0.0 magic.0.1 bytes (word.1 ∙ ap (λ (v : ℕ × Place). Ok v) t1.1) in
    let b1 = passed_bytes h1.0 bytes in
    let is_magic : magic.0.0 ≡ 0x43444354 = eqb-true _ _ (subst (λ (v : ℕ × Place). eqb v.0 0x43444354 ≡ true) t1.1 t1.0) in
    let version = bind_ok (version_at magic.0.1) _ _ magic.2 in
    let half = bind_ok (u16_at magic.0.1) _ _ version.1 in
    let t2 = checked_passed 2 (eqb half.0.0 1 || eqb half.0.0 2) magic.0.1 half.0 version.0 half.2 in
    let h2 = half_passed _ h1.0.after version.0.0 version.0.1 b1 (next u16_at _ h1.0 (half.1 ∙ ap (λ (v : ℕ × Place). Ok v) t2.1)) in
    let b2 = passed_bytes h2.0 b1 in
    let known = version_known version.0.0 (subst (λ (v : ℕ × Place). (eqb v.0 1 || eqb v.0 2) ≡ true) t2.1 t2.0) in
    let count = bind_ok (node_count_at version.0.1) _ _ version.2 in
    let half2 = bind_ok (u16_at version.0.1) _ _ count.1 in
    let t3 = checked_passed 5 (leb half2.0.0 2048) version.0.1 half2.0 count.0 half2.2 in
    let h3 = half_passed _ h2.0.after count.0.0 count.0.1 b2 (next u16_at _ h2.0 (half2.1 ∙ ap (λ (v : ℕ × Place). Ok v) t3.1)) in
    let b3 = passed_bytes h3.0 b2 in
    let few : count.0.0 ≤ 2048 = leb-true _ _ (subst (λ (v : ℕ × Place). leb v.0 2048 ≡ true) t3.1 t3.0) in
    let nodes = bind_ok (many_fields_at (node_after version.0.0) count.0.0 [] count.0.1) _ _ count.2 in
    let m = many_passed (node_after version.0.0) bytes_of_node (AreNodesOf version.0.0) (node_passed version.0.0) count.0.0 [] nodes.0.0 _ h3.0.after nodes.0.1 b3
    (record { rising = λ k h. absurd (omega arith); each = All-nil (IsNode version.0.0); points = omega arith }) (next (many_fields_at (node_after version.0.0) count.0.0 []) _ h3.0 nodes.1) in
    let made : CertData = record { version = version.0.0; nodes = nodes.0.0 } in
    let f = ok_pair made c nodes.0.1 q nodes.2 in
    let len : length nodes.0.0 ≡ count.0.0 = ap length m.is ∙ m.count in
    let parts = passed_both h1.0 (passed_both h2.0 (passed_both h3.0 m.passed)) in
    let spelled : bytes_of_word magic.0.0 ++ (bytes_of_half version.0.0 ++ (bytes_of_half count.0.0 ++ flat_map bytes_of_node m.items)) ≡ bytes_of_cert made =
    ap (λ n. bytes_of_word n ++ (bytes_of_half version.0.0 ++ (bytes_of_half count.0.0 ++ flat_map bytes_of_node m.items))) is_magic
    ∙ ap (λ n. bytes_of_word 0x43444354 ++ (bytes_of_half version.0.0 ++ (bytes_of_half n ++ flat_map bytes_of_node m.items))) (sym len)
    ∙ ap (λ (l : List NodeData). bytes_of_word 0x43444354 ++ (bytes_of_half version.0.0 ++ (bytes_of_half (length nodes.0.0) ++ flat_map bytes_of_node l))) (sym m.is)
    ∙ cert_bytes made in (
      subst (λ (r : Place). Passed (bytes_of_cert c) front rest r) f.1 (subst (λ (t : CertData). Passed (bytes_of_cert t) front rest nodes.0.1) f.0 (subst (λ (l : List ℕ). Passed l front rest nodes.0.1) spelled parts)),
      subst IsCert f.0 (record { version = known; few = omega arith; rising = m.good.rising; nodes = m.good.each; points = m.good.points }),
    )

-- the bytes of a certificate that was read are its spelling, and it keeps the order and the limits
pub read_is_cert : (bytes : List ℕ) (c : CertData) → ((k : ℕ) → get_or bytes k 0 < 2 ^ 8) → certificate_of bytes ≡ Ok c → (bytes_of_cert c ≡ bytes) × IsCert c
unfolding certificate_of
read_is_cert bytes c small e =
    let b = bind_ok (cert_at (place_between [] bytes)) _ _ e in
    let h = cert_passed [] bytes b.0.0 b.0.1 (bytes_from bytes small) b.1 in
    let t = passed_test (eqb b.0.1.place (length bytes)) b.0.0 c _ b.2 in
    let end : length (bytes_of_cert b.0.0) ≡ length bytes = sym (ap (λ (p : Place). p.place) h.0.at) ∙ eqb-true _ _ t.0 in
    let none : h.0.after ≡ [] = nothing h.0.after (omega (arith, ap length h.0.is, length-append (bytes_of_cert b.0.0) h.0.after)) in
    (ap bytes_of_cert (sym t.1) ∙ sym (append-nil (bytes_of_cert b.0.0)) ∙ ap (λ (l : List ℕ). bytes_of_cert b.0.0 ++ l) (sym none) ∙ sym h.0.is, subst IsCert t.1 h.1)
  where
    nothing : (xs : List ℕ) → length xs ≤ 0 → xs ≡ []
    nothing [] h = refl
    nothing (x ∷ xs) h = absurd (omega arith)
