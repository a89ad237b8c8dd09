-- What is known at places of certificates. If one certificate is below another, a place of the
-- upper one covers each place of the lower one.
use Rattle.std.proofs.Common.{◌≡◌, ℕ, zero, suc, ◌<◌, inl, inr, Bool, true, false, cond, List, [], ◌∷◌, length, map, get_or, Option, Some, None, refl, sym, ap, ◌∙◌, subst, arith, eqb, ◌&&◌}
use Rattle.std.specs.Prelude.{find, option_map, option_and_then, Contains}
use Rattle.std.specs.List.Sorted.{IsStrictlyIncreasing}
use Rattle.std.proofs.lemmas.Bool.{cases_lt, and_parts, eqb-true, eq-eqb}
use Rattle.std.proofs.lemmas.List.{get_or-map, length-map}
use Rattle.std.proofs.lemmas.List.Elements.{All-contains}
use Rattle.std.proofs.lemmas.List.Kept.{AllPairs-from_increasing}
use Rattle.elf_image.specs.Images.{ImageData}
use Rattle.tcd_plan.specs.PlanData.{PlanData, IsPlan}
use Rattle.value_domain.specs.declared.states.State.{State}
use Rattle.value_domain.specs.State.{Covers, AreInLattice}
use Rattle.vd_transfer.specs.Soundness.{MeetSoundnessPremises}
use Rattle.depth_cert.specs.declared.keys.Key.{Key}
use Rattle.depth_cert.specs.declared.points.Point.{Point}
use Rattle.depth_cert.specs.Keys.{cert_flag_byte, number_of_key, is_same_key}
use Rattle.depth_cert.specs.Points.{find_point, IsPoint}
use Rattle.depth_cert.specs.Nodes.{NodeData, IsNode}
use Rattle.depth_cert.specs.Certs.{CertData, IsCert}
use Rattle.depth_cert.specs.Known.{Known, state, leaving, CoversKnown}
use Rattle.depth_cert.proofs.KeyLaws.{found_in}
use Rattle.cfg_recover.specs.RulesHoldOrFail.{limits_of_cert, Accepts}
use Rattle.cfg_recover.specs.Assignments.{point, known_by_node, assignment_of_cert, IsAssignmentBelow}
use Rattle.cfg_recover.proofs.PointLaws.{limits_are}
use Rattle.cfg_recover.proofs.FirstFault.{accepted_values}

-- ---- what is found
-- a member of a list is the first or one of the others
in_rest : {X : Type 0} (p : X → Bool) (ys : List X) (x y : X) (k : ℕ) → k < length (y ∷ ys) → get_or (y ∷ ys) k x ≡ x → p x ≡ true → p y ≡ false → Contains ys x
in_rest p ys x y zero lt at t f = absurd (let g : true ≡ false = sym t ∙ ap p (sym at) ∙ f in cc)
in_rest {X = X} p ys x y (suc k) lt at t f = (k, (let l : k < length {A = X} ys = omega arith in l), at)

find_by : {X : Type 0} (r : Bool) (x y : X) (o : Option X) → (r ≡ true → y ≡ x) → (r ≡ false → o ≡ Some x) → cond r (Some y) o ≡ Some x
find_by true x y o first rest = ap Some (first refl)
find_by false x y o first rest = rest refl

find_of : {X : Type 0} (p : X → Bool) (xs : List X) (x : X) → Contains xs x → p x ≡ true → ((y : X) → Contains xs y → p y ≡ true → y ≡ x) → find p xs ≡ Some x
find_of p [] x (k, lt, at) t one = absurd (omega arith)
find_of {X = X} p (y ∷ ys) x has t one =
    find_by (p y) x y (find p ys) (λ e. one y (0, omega arith, refl) e)
    (λ e. find_of p ys x (in_rest p ys x y has.0 has.1 has.2 t e) t (λ z in_it. one z (suc in_it.0, (let l : in_it.0 < length {A = X} ys = in_it.1 in omega arith), in_it.2)))

same_place : {X : Type 0} (xs : List X) (j : ℕ) (d e : X) → j < length xs → get_or xs j d ≡ get_or xs j e
same_place [] j d e lt = absurd (omega arith)
same_place (z ∷ zs) zero d e lt = refl
same_place (z ∷ zs) (suc j) d e lt = same_place zs j d e (omega arith)

-- elements with the same number are equal
one_of : {X : Type 0} (f : X → ℕ) (xs : List X) (x y : X) → IsStrictlyIncreasing (map f xs) → Contains xs x → Contains xs y → f x ≡ f y → x ≡ y
one_of f xs x y rising (i, lt, at) (j, less, is) same =
    elim (cases_lt i j) [
      | inl before ↦
          let up = AllPairs-from_increasing (map f xs) rising i j 0 before (omega (arith, length-map xs f)) in
          absurd (omega (arith, up, get_or-map f xs i x 0 lt, get_or-map f xs j y 0 less, ap f at, ap f is))
      | inr from ↦ elim (cases_lt j i) [
        | inl behind ↦
            let up = AllPairs-from_increasing (map f xs) rising j i 0 behind (omega (arith, length-map xs f)) in
            absurd (omega (arith, up, get_or-map f xs i x 0 lt, get_or-map f xs j y 0 less, ap f at, ap f is))
        | inr past ↦ let e : i ≡ j = omega arith in sym at ∙ ap (λ n. get_or xs n x) e ∙ same_place xs j x y less ∙ is
      ]
    ]

same_flag : (a b : Bool) → eqb (cert_flag_byte a) (cert_flag_byte b) ≡ true → a ≡ b
same_flag false false e = refl
same_flag true true e = refl
same_flag false true e = cc
same_flag true false e = cc

flag_same : (a : Bool) → eqb (cert_flag_byte a) (cert_flag_byte a) ≡ true
flag_same false = refl
flag_same true = refl

key_tells : (k j : Key) → is_same_key k j ≡ true → k ≡ j
key_tells k j e =
    let h = and_parts (eqb k.kind j.kind && eqb k.entry j.entry && eqb k.prio j.prio) (eqb (cert_flag_byte k.is) (cert_flag_byte j.is)) e in
    let g = and_parts (eqb k.kind j.kind && eqb k.entry j.entry) (eqb k.prio j.prio) h.0 in
    let f = and_parts (eqb k.kind j.kind) (eqb k.entry j.entry) g.0 in
    let kind : k.kind ≡ j.kind = eqb-true k.kind j.kind f.0 in
    let entry : k.entry ≡ j.entry = eqb-true k.entry j.entry f.1 in
    let prio : k.prio ≡ j.prio = eqb-true k.prio j.prio g.1 in
    let is : k.is ≡ j.is = same_flag k.is j.is h.1 in
    λ i. record { kind = kind i; entry = entry i; prio = prio i; is = is i }

key_same : (k : Key) → is_same_key k k ≡ true
key_same k = rw (eq-eqb k.kind k.kind refl, eq-eqb k.entry k.entry refl, eq-eqb k.prio k.prio refl, flag_same k.is) refl

and_then_some : {A B : Type 0} (f : A → Option B) (o : Option A) (r : B) → option_and_then f o ≡ Some r → (x : A) × (o ≡ Some x) × (f x ≡ Some r)
and_then_some f None r e = absurd (let g : None ≡ Some r = e in cc)
and_then_some f (Some x) r e = (x, refl, e)

map_some : {A B : Type 0} (f : A → B) (o : Option A) (r : B) → option_map f o ≡ Some r → (x : A) × (o ≡ Some x) × (f x ≡ r)
map_some f None r e = absurd (let g : None ≡ Some r = e in cc)
map_some f (Some x) r e = (x, refl, (let g : Some (f x) ≡ Some r = e in cc))

-- ---- the places of a certificate
module _ (cert : CertData) (is_cert : IsCert cert) where
  node_found : (node : NodeData) → Contains cert.nodes node → find (λ n. is_same_key n.key node.key) cert.nodes ≡ Some node
  node_found node has =
      find_of (λ n. is_same_key n.key node.key) cert.nodes node has (key_same node.key)
      (λ n in_it t. one_of (λ (z : NodeData). number_of_key z.key) cert.nodes n node is_cert.rising in_it has (ap number_of_key (key_tells n.key node.key t)))

  point_found : (node : NodeData) (q : Point) → Contains cert.nodes node → Contains node.points q → find_point q.addr node.points ≡ Some q
  point_found node q has stands =
      let is = All-contains (IsNode cert.version) cert.nodes node is_cert.nodes has in
      find_of (λ (z : Point). eqb z.addr q.addr) node.points q stands (eq-eqb q.addr q.addr refl) (λ z in_it t. one_of (λ (y : Point). y.addr) node.points z q is.rising in_it stands (eqb-true z.addr q.addr t))

  -- what is known at a point of a node
  pub known_there : (node : NodeData) (q : Point) → Contains cert.nodes node → Contains node.points q → assignment_of_cert cert (point node.key q.addr) ≡ Some (state q.state)
  known_there node q has stands =
      ap (option_and_then (known_by_node (point node.key q.addr))) (node_found node has) ∙ ap (option_map (λ (z : Point). state z.state)) (point_found node q has stands)

-- a point at which this is known
pub record AtPoint (cert : CertData) (k : Key) (p : ℕ) (s : State) : Type 0 where
  pub node : NodeData
  pub place : Point
  pub member : Contains cert.nodes node
  pub stands : Contains node.points place
  pub key : node.key ≡ k
  pub addr : place.addr ≡ p
  pub is : place.state ≡ s

pub known_from : (cert : CertData) (k : Key) (p : ℕ) (s : State) → assignment_of_cert cert (point k p) ≡ Some (state s) → AtPoint cert k p s
known_from cert k p s e =
    let a = and_then_some (known_by_node (point k p)) (find (λ n. is_same_key n.key k) cert.nodes) (state s) e in
    let m = map_some (λ (q : Point). state q.state) (find_point p (a.0).points) (state s) a.2 in
    let n = found_in (λ n. is_same_key n.key k) cert.nodes a.0 a.1 in
    let q = found_in (λ (z : Point). eqb z.addr p) (a.0).points m.0 m.1 in
    record {
      node = a.0;
      place = m.0;
      member = n.0;
      stands = q.0;
      key = key_tells (a.0).key k n.1;
      addr = eqb-true (m.0).addr p q.1;
      is = (let f : state (m.0).state ≡ state s = m.2 in cc);
    }

pub over_state : (w : Known) (s : State) → CoversKnown w (state s) → (t : State) × (w ≡ state t) × Covers t s
over_state (state t) s c = (t, refl, c)
over_state (leaving x) s c = absurd c

-- the point of the upper certificate that covers this one
pub record Above (cert : CertData) (k : Key) (q : Point) : Type 0 where
  pub node : NodeData
  pub place : Point
  pub member : Contains cert.nodes node
  pub stands : Contains node.points place
  pub key : node.key ≡ k
  pub addr : place.addr ≡ q.addr
  pub covers : Covers place.state q.state

-- ---- one certificate below another
module _ (lower upper : CertData) (low_cert : IsCert lower) (below : IsAssignmentBelow (assignment_of_cert lower) (assignment_of_cert upper)) where
  pub above : (node : NodeData) (q : Point) → Contains lower.nodes node → Contains node.points q → Above upper node.key q
  above node q has stands =
      let c = below (point node.key q.addr) (state q.state) (known_there lower low_cert node q has stands) in
      let o = over_state c.known q.state c.covers in
      let a = known_from upper node.key q.addr o.0 (c.at ∙ ap Some o.1) in
      record { node = a.node; place = a.place; member = a.member; stands = a.stands; key = a.key; addr = a.addr; covers = subst (λ t. Covers t q.state) (sym a.is) o.2 }

-- certificates of one format have the same limits
pub limits_same : (plan : PlanData) (lower upper : CertData) → lower.version ≡ upper.version → limits_of_cert plan upper ≡ limits_of_cert plan lower
limits_same plan lower upper same = sym (ap (λ v. limits_of_cert plan (record lower { version = v })) same)

-- a state of an accepted certificate is a setting of the plan
pub setting : (image : ImageData) (plan : PlanData) (cert : CertData) → IsPlan plan → IsCert cert → Accepts image plan cert → (node : NodeData) (q : Point) → Contains cert.nodes node → Contains node.points q
    → MeetSoundnessPremises (limits_of_cert plan cert) plan q.state
setting image plan cert ok is accepted node q has stands =
    let in_node = All-contains (IsNode cert.version) cert.nodes node is.nodes has in
    record {
      limits = limits_are plan cert.version;
      plan = ok;
      regs = ((All-contains (IsPoint cert.version) node.points q in_node.points stands).state).regs;
      values = All-contains (λ (z : Point). AreInLattice (limits_of_cert plan cert) (z.state).regs) node.points q (accepted_values image plan cert node accepted has) stands;
    }
