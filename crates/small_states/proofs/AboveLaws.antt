-- A value that covers another is the least that covers both.
use Rattle.std.proofs.Common.{◌≡◌, ◌∙◌, ◌++◌, ◌∷◌, [], ◌&&◌, ◌||◌, Bool, true, false, List, length, suc, Some, inl, inr, refl, ap, sym, arith}
use Rattle.std.specs.Prelude.{IsTrue, min}
use Rattle.std.proofs.lemmas.Bool.{eq-eqb}
use Rattle.std.specs.Option.{option_map}
use Rattle.value_domain.specs.declared.values.Val.{Val}
use Rattle.value_domain.specs.declared.states.State.{State}
use Rattle.value_domain.specs.Limits.{Limits}
use Rattle.value_domain.specs.Values.{IsBelow, IsInLattice, IsWellFormed, members, join_of}
use Rattle.value_domain.specs.State.{AreBelow, AreInLattice, AreWellFormed, Covers, FlagsImply, joined_locals, joined_regs, state_join_if_any}
use Rattle.value_domain.proofs.CoverLaws.{among_member, cover-same, has_step, member_among}
use Rattle.value_domain.proofs.ExtentLaws.{among_append, append_right}
use Rattle.value_domain.proofs.RegLaws.{implied_length}
use Rattle.depth_cert.specs.declared.points.Exit.{Exit}
use Rattle.depth_cert.specs.Exits.{ExitCovers, joined_exit}
use Rattle.depth_cert.specs.Known.{CoversKnown, Known, joined_known, leaving, state}
use Rattle.depth_cert.specs.WellFormed.{IsWellFormedState, IsWellFormedExit, IsWellFormedKnown}
use Rattle.small_states.proofs.IncomingLemmas.{values_well}

-- ---- values
pub join_above : (b : Limits) (v w : Val) → IsWellFormed v → IsInLattice b w → IsBelow v w → join_of b v w ≡ w
join_above b v w well value below =
    cover-same b (members v ++ members w) (members w)
    (λ z i. elim (among_append z (members v) (members w) i) [ inl j ↦ among_member w z (has_step w value.well) (below z (member_among v z (has_step v well) j)) | inr j ↦ j ])
    (λ z i. append_right z (members v) (members w) i)
    ∙ value.own

pub regs_above : (b : Limits) (vs ws : List Val) → length vs ≡ length ws → AreWellFormed vs → AreInLattice b ws → AreBelow vs ws → joined_regs b vs ws ≡ ws
unfolding joined_regs
regs_above b [] [] same well values below = refl
regs_above b [] (w ∷ ws) same well values below = absurd (omega arith)
regs_above b (v ∷ vs) [] same well values below = absurd (omega arith)
regs_above b (v ∷ vs) (w ∷ ws) same well values below =
    ap (λ (u : Val). u ∷ joined_regs b vs ws) (join_above b v w (well 0 (omega arith)) (values 0 (omega arith)) (below 0 (omega arith)))
    ∙ ap (λ (l : List Val). w ∷ l)
    (regs_above b vs ws (omega arith) (λ r lt. well (suc r) (omega arith)) (λ r lt. values (suc r) (omega arith)) (λ r lt. below (suc r) (omega arith)))

-- ---- contexts
and_above : (x y : Bool) → (IsTrue y → IsTrue x) → (x && y) ≡ y
and_above true y h = refl
and_above false true h = absurd (let e : false ≡ true = h refl in cc)
and_above false false h = refl

or_above : (x y : Bool) → (IsTrue x → IsTrue y) → (x || y) ≡ y
or_above false y h = refl
or_above true true h = refl
or_above true false h = absurd (let e : false ≡ true = h refl in cc)

locals_above : (xs ys : List Bool) → FlagsImply ys xs → joined_locals xs ys ≡ ys
locals_above [] [] h = refl
locals_above [] (y ∷ ys) h = absurd h
locals_above (x ∷ xs) [] h = refl
locals_above (x ∷ xs) (y ∷ ys) h = ap (λ (z : Bool). z ∷ joined_locals xs ys) (and_above x y h.0) ∙ ap (λ (l : List Bool). y ∷ l) (locals_above xs ys h.1)

-- ---- states, exits
state_above : (b : Limits) (s t : State) → IsWellFormedState b s → IsWellFormedState b t → Covers t s → state_join_if_any b s t ≡ Some t
state_above b s t ps pt covers =
    let least : min s.ccpn t.ccpn ≡ t.ccpn = (let h = covers.context.1 in omega (arith, h)) in
    rw (
      eq-eqb (length s.locals.items) (length t.locals.items) (sym (implied_length t.locals.items s.locals.items covers.locals)),
      regs_above b s.regs t.regs (ps.regs ∙ sym pt.regs) (values_well b s.regs ps.values) pt.values covers.regs,
      or_above s.ie t.ie covers.context.0,
      least,
      and_above s.lower t.lower covers.context.2,
      locals_above s.locals.items t.locals.items covers.locals,
    )
    refl

exit_above : (b : Limits) (x y : Exit) → IsWellFormedExit b x → IsWellFormedExit b y → ExitCovers y x → joined_exit b x y ≡ y
exit_above b x y px py covers =
    let least : min x.ccpn y.ccpn ≡ y.ccpn = (let h = covers.priority in omega (arith, h)) in
    rw (regs_above b x.lower y.lower (px.regs ∙ sym py.regs) (values_well b x.lower px.values) py.values covers.lower, or_above x.ie y.ie covers.enabled, least) refl

-- if one covers the other, it is the least that covers both
pub known_above : (b : Limits) (v w : Known) → IsWellFormedKnown b v → IsWellFormedKnown b w → CoversKnown w v → joined_known b v w ≡ Some w
known_above b (state s) (state t) pv pw covers = ap (option_map state) (state_above b s t pv pw covers)
known_above b (leaving x) (leaving y) pv pw covers = ap (λ (z : Exit). Some (leaving z)) (exit_above b x y pv pw covers)
known_above b (state s) (leaving y) pv pw covers = absurd covers
known_above b (leaving x) (state t) pv pw covers = absurd covers
