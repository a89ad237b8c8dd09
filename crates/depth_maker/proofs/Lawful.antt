-- The laws hold of every plan and image.
use Rattle.std.proofs.Common.{◌≡◌, ℕ, zero, suc, ◌<◌, false, List, [], ◌∷◌, length, get_or, Option, Some, None, refl, sym, ap, ◌∙◌, subst, inl, inr, arith, eqb, eq-eqb}
use Rattle.std.specs.Prelude.{option_map, replicate}
use Rattle.std.proofs.lemmas.Bool.{cases_Bool, eqb-true, or_left, or_right, or_cases}
use Rattle.elf_image.specs.Images.{ImageData}
use Rattle.tcd_plan.specs.PlanData.{PlanData}
use Rattle.value_domain.specs.declared.values.Val.{Val}
use Rattle.value_domain.specs.declared.states.State.{State}
use Rattle.value_domain.specs.Limits.{Limits, AreLimits}
use Rattle.value_domain.specs.Values.{any_val, word_val, join_of}
use Rattle.value_domain.specs.State.{Covers, state_join_if_any, state_join_of, joined_regs}
use Rattle.value_domain.proofs.JoinLaws.{join_least, joined_least}
use Rattle.value_domain.proofs.RegLaws.{get_or-joined, length-joined, length-and}
use Rattle.depth_cert.specs.declared.points.Exit.{Exit}
use Rattle.cfg_recover.specs.Entries.{start_state}
use Rattle.depth_cert.specs.Exits.{ExitCovers, joined_exit}
use Rattle.depth_cert.specs.Known.{Known, state, leaving, CoversKnown, joined_known}
use Rattle.depth_cert.specs.WellFormed.{IsWellFormedState, IsWellFormedExit, IsWellFormedKnown}
use Rattle.cfg_recover.proofs.EntryLaws.{entry_length}
use Rattle.cfg_recover.proofs.FlowStates.{entry_values}
use Rattle.depth_maker.specs.DutiesMonotone.{AreMakerInputs}
use Rattle.depth_maker.proofs.StateGrowth.{below_same, below_through, covers_same, covers_through, same_locals, set_locals}
use Rattle.depth_maker.proofs.EffectGrowth.{word_value}
use Rattle.depth_maker.proofs.OwnGrowth.{faults_fall}
use Rattle.depth_maker.proofs.DutyGrowth.{after_grows, duties_grow}
use Rattle.depth_maker.proofs.WellFormedDuties.{after_well_formed, duties_well_formed}
use Rattle.depth_maker.specs.MakerLaws.{AreMakerLaws}

-- ---- coverings
known_same : (v : Known) → CoversKnown v v
known_same (state s) = covers_same s
known_same (leaving x) = record { lower = below_same x.lower; enabled = λ e. e; priority = omega arith }

known_through : (b : Limits) (v w u : Known) → IsWellFormedKnown b v → IsWellFormedKnown b w → CoversKnown u w → CoversKnown w v → CoversKnown u v
known_through b (state s) (state t) (state u) ps pt h k = covers_through u t s (ps.regs ∙ sym pt.regs) h k
known_through b (leaving x) (leaving y) (leaving z) px py h k = record {
  lower = below_through x.lower y.lower z.lower (px.regs ∙ sym py.regs) k.lower h.lower;
  enabled = λ e. h.enabled (k.enabled e);
  priority = omega (arith, h.priority, k.priority);
}
known_through b (state s) (state t) (leaving z) ps pt h k = absurd h
known_through b (state s) (leaving y) u ps pt h k = absurd k
known_through b (leaving x) (state t) u ps pt h k = absurd k
known_through b (leaving x) (leaving y) (state u) ps pt h k = absurd h

-- ---- states
joined_parts : (b : Limits) (s t u : State) → state_join_if_any b s t ≡ Some u → (length s.locals.items ≡ length t.locals.items) × (state_join_of b s t ≡ u)
joined_parts b s t u e =
    elim (cases_Bool (eqb (length s.locals.items) (length t.locals.items))) [
      | inl same ↦ (eqb-true _ _ same, (let f : Some (state_join_of b s t) ≡ Some u = rw same at e in cc))
      | inr other ↦ absurd (let f : None ≡ Some u = rw other at e in cc)
    ]

module _ (b : Limits) (limits : AreLimits b) where
  state_join : (s t : State) → IsWellFormedState b s → IsWellFormedState b t → length s.locals.items ≡ length t.locals.items → IsWellFormedState b (state_join_of b s t) × Covers (state_join_of b s t) s × Covers (state_join_of b s t) t
  state_join s t ps pt same =
      let j = joined_least b s t limits (ps.regs ∙ sym pt.regs) same ps.values pt.values in (
        record {
          regs = length-joined b s.regs t.regs (ps.regs ∙ sym pt.regs) ∙ ps.regs;
          values = j.values;
          few = omega (arith, length-and s.locals.items t.locals.items same, ps.few);
        },
        j.left,
        j.right,
      )

  state_least : (s t d : State) → IsWellFormedState b s → IsWellFormedState b t → IsWellFormedState b d → Covers d s → Covers d t → (u : Known) × (joined_known b (state s) (state t) ≡ Some u) × CoversKnown (state d) u
  state_least s t d ps pt pd h k =
      let same : length s.locals.items ≡ length t.locals.items = sym (same_locals d s h) ∙ same_locals d t k in
      let j = joined_least b s t limits (ps.regs ∙ sym pt.regs) same ps.values pt.values in
      (state (state_join_of b s t), rw (eq-eqb (length s.locals.items) (length t.locals.items) same) refl, j.least d (pd.regs ∙ sym ps.regs) pd.values h k)

  -- ---- exits
  exit_at : (xs ys : List Val) (r : ℕ) → r < length xs → length xs ≡ length ys → get_or (joined_regs b xs ys) r any_val ≡ join_of b (get_or xs r any_val) (get_or ys r any_val)
  exit_at xs ys r lt same =
      get_or-joined b xs ys r (get_or xs r any_val) (get_or ys r any_val) any_val lt (omega arith) (any_default xs r any_val (get_or xs r any_val) lt) (any_default ys r any_val (get_or ys r any_val) (omega arith))
    where
      any_default : (vs : List Val) (i : ℕ) (d e : Val) → i < length vs → get_or vs i d ≡ get_or vs i e
      any_default [] i d e h = absurd (omega arith)
      any_default (v ∷ vs) zero d e h = refl
      any_default (v ∷ vs) (suc i) d e h = any_default vs i d e (omega arith)

  module _ (x y : Exit) (px : IsWellFormedExit b x) (py : IsWellFormedExit b y) where
    same : length x.lower ≡ length y.lower
    same = px.regs ∙ sym py.regs

    long : length (joined_regs b x.lower y.lower) ≡ length x.lower
    long = length-joined b x.lower y.lower same

    exit_join : IsWellFormedExit b (joined_exit b x y) × ExitCovers (joined_exit b x y) x × ExitCovers (joined_exit b x y) y
    exit_join = (
      record {
        regs = long ∙ px.regs;
        values = λ r lt. rw (exit_at x.lower y.lower r (omega (arith, long)) same) (join_least b _ _ limits (px.values r (omega (arith, long))) (py.values r (omega (arith, long, same)))).value;
      },
      record {
        lower = λ r lt. rw (exit_at x.lower y.lower r lt same) (join_least b _ _ limits (px.values r lt) (py.values r (omega (arith, same)))).left;
        enabled = λ e. or_left x.ie y.ie e;
        priority = omega arith;
      },
      record {
        lower = λ r lt. rw (exit_at x.lower y.lower r (omega (arith, same)) same) (join_least b _ _ limits (px.values r (omega (arith, same))) (py.values r lt)).right;
        enabled = λ e. or_right x.ie y.ie e;
        priority = omega arith;
      },
    )

    exit_least : (z : Exit) → IsWellFormedExit b z → ExitCovers z x → ExitCovers z y → ExitCovers z (joined_exit b x y)
    exit_least z pz h k = record {
      lower = λ r lt.
          rw (exit_at x.lower y.lower r (omega (arith, long)) same)
          ((join_least b _ _ limits (px.values r (omega (arith, long))) (py.values r (omega (arith, long, same)))).least (get_or z.lower r any_val) (pz.values r (omega (arith, long, px.regs, pz.regs)))
          (h.lower r (omega (arith, long))) (k.lower r (omega (arith, long, same))));
      enabled = λ e. elim (or_cases x.ie y.ie e) [ inl t ↦ h.enabled t | inr t ↦ k.enabled t ];
      priority = omega (arith, h.priority, k.priority);
    }

  -- ---- both
  known_join : (v w u : Known) → IsWellFormedKnown b v → IsWellFormedKnown b w → joined_known b v w ≡ Some u → IsWellFormedKnown b u × CoversKnown u v × CoversKnown u w
  known_join (state s) (state t) u pv pw e = at (state_join_if_any b s t) refl e where
    at : (o : Option State) → state_join_if_any b s t ≡ o → option_map state o ≡ Some u → IsWellFormedKnown b u × CoversKnown u (state s) × CoversKnown u (state t)
    at None f g = absurd (let h : None ≡ Some u = g in cc)
    at (Some j) f g =
        let k = joined_parts b s t j f in
        let h = state_join s t pv pw k.0 in
        let is : state (state_join_of b s t) ≡ u = ap state k.1 ∙ (let i : Some (state j) ≡ Some u = g in cc) in
        subst (λ (z : Known). IsWellFormedKnown b z × CoversKnown z (state s) × CoversKnown z (state t)) is h
  known_join (leaving x) (leaving y) u pv pw e =
      let f : leaving (joined_exit b x y) ≡ u = (let g : Some (leaving (joined_exit b x y)) ≡ Some u = e in cc) in
      subst (λ (z : Known). IsWellFormedKnown b z × CoversKnown z (leaving x) × CoversKnown z (leaving y)) f (exit_join x y pv pw)
  known_join (state s) (leaving y) u pv pw e = absurd (let f : None ≡ Some u = e in cc)
  known_join (leaving x) (state t) u pv pw e = absurd (let f : None ≡ Some u = e in cc)

  known_least : (v w d : Known) → IsWellFormedKnown b v → IsWellFormedKnown b w → IsWellFormedKnown b d → CoversKnown d v → CoversKnown d w → (u : Known) × (joined_known b v w ≡ Some u) × CoversKnown d u
  known_least (state s) (state t) (state d) pv pw pd h k = state_least s t d pv pw pd h k
  known_least (leaving x) (leaving y) (leaving z) pv pw pd h k = (leaving (joined_exit b x y), refl, exit_least x y pv pw z pd h k)
  known_least (state s) (state t) (leaving z) pv pw pd h k = absurd h
  known_least (state s) (leaving y) (state d) pv pw pd h k = absurd k
  known_least (state s) (leaving y) (leaving z) pv pw pd h k = absurd h
  known_least (leaving x) (state t) (state d) pv pw pd h k = absurd h
  known_least (leaving x) (state t) (leaving z) pv pw pd h k = absurd k
  known_least (leaving x) (leaving y) (state d) pv pw pd h k = absurd h

start_well_formed : (b : Limits) (image : ImageData) (plan : PlanData) → AreMakerInputs b image plan → IsWellFormedState b (start_state plan)
start_well_formed b image plan ground =
    let small = (ground.is_plan).words.sp in
    record {
      regs = entry_length (word_val plan.sp) plan.start_ie plan.start_ccpn false;
      values = entry_values b (word_val plan.sp) plan.start_ie plan.start_ccpn false ground.limits (word_value b plan.sp ground.limits small);
      few = omega (arith, ap length (set_locals (record { regs = replicate 27 any_val; ie = plan.start_ie; ccpn = plan.start_ccpn; lower = false; locals = record { items = [] } }) 26 (word_val plan.sp)));
    }

pub lawful : (b : Limits) (image : ImageData) (plan : PlanData) → AreMakerInputs b image plan → AreMakerLaws b image plan
lawful b image plan ground = record {
  covers_same = known_same;
  covers_through = known_through b;
  joined_above = λ v w u pv pw e. let k = known_join b ground.limits v w u pv pw e in (k.1, k.2);
  joined_well_formed = λ v w u pv pw e. (known_join b ground.limits v w u pv pw e).0;
  joined_least = known_least b ground.limits;
  start_well_formed = start_well_formed b image plan ground;
  faults_fall = λ key p s t ps pt c h. faults_fall b image plan key p s t ground ps pt c h;
  duties_grow = λ key p s t shape n d ps pt c h code i. duties_grow b image plan key p s t shape n d ground ps pt c h code i;
  duties_well_formed = λ key p s shape n d ps h code i. duties_well_formed b image plan key p s shape n d ground ps h code i;
  after_grows = after_grows b;
  after_well_formed = after_well_formed b;
}
