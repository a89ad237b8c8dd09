-- What covers something and isn't covered by it has a higher rank. Ranks and levels have a bound.
use Rattle.std.proofs.Common.{◌≡◌, inl, inr, ℕ, zero, suc, ◌+◌, ◌*◌, ◌^◌, ◌<◌, ◌≤◌, Bool, true, false, cond, not, IsTrue, List, [], ◌∷◌, length, get_or, Option, Some, None, refl, sym, ◌∙◌, subst, arith}
use Rattle.std.specs.List.{count_by}
use Rattle.std.proofs.lemmas.Bool.{cases_lt}
use Rattle.std.proofs.lemmas.List.Sums.{count_by-le-length, sum_by-cons, sum_by-le}
use Rattle.elf_image.specs.Images.{ImageData}
use Rattle.tcd_plan.specs.PlanData.{PlanData}
use Rattle.value_domain.specs.declared.values.Val.{Val}
use Rattle.value_domain.specs.declared.values.Val.TheVariants.{Set, Span}
use Rattle.value_domain.specs.declared.states.State.{State}
use Rattle.value_domain.specs.Limits.{Limits, AreLimits}
use Rattle.value_domain.specs.Sets.{Among, AreAmong, IsAscending}
use Rattle.value_domain.specs.Values.{IsBelow, IsWellFormed, span_len, first_member_quotient, members}
use Rattle.value_domain.specs.State.{AreBelow, AreWellFormed, Covers, FlagsImply}
use Rattle.value_domain.proofs.CoverLaws.{among_member, has_step, length-multiples, member_among, step_cases}
use Rattle.value_domain.proofs.SetLaws.{length_within}
use Rattle.depth_cert.specs.Keys.{cert_flag_byte}
use Rattle.depth_cert.specs.declared.points.Exit as exits
use Rattle.cfg_recover.specs.Assignments.{joined_at_place}
use Rattle.depth_cert.specs.Known.{Known, state, leaving, CoversKnown, known_ccpn}
use Rattle.depth_cert.specs.WellFormed.{IsWellFormedState, IsWellFormedExit, IsWellFormedKnown}
use Rattle.depth_maker.specs.TableLevels.{level_of_place, level_of_known, level_of_values}
use Rattle.depth_maker.specs.MakerLaws.{AreMakerLaws}
use Rattle.vd_transfer.proofs.OpLaws.{rising_members}
use Rattle.small_states.proofs.IncomingLemmas.{values_well}

-- ---- values
-- an ascending list within another that is no longer has all that the other has
within_back : (xs ys : List ℕ) → IsAscending xs → IsAscending ys → AreAmong xs ys → length ys ≤ length xs → AreAmong ys xs
within_back xs [] rx ry w le z i = absurd i
within_back [] (y ∷ ys) rx ry w le z i = absurd (omega arith)
within_back (x ∷ xs) (y ∷ ys) rx ry w le z i =
    elim (w x (inl refl)) [
      | inl e ↦ elim i [ inl f ↦ inl (f ∙ sym e) | inr j ↦ inr (within_back xs ys rx.1 ry.1 (rest e) (omega arith) z j) ]
      | inr j ↦ absurd (omega (arith, length_within (x ∷ xs) ys rx ry.1 (later j)))
    ] where
      rest : x ≡ y → AreAmong xs ys
      rest e u h = elim (w u (inr h)) [ inl f ↦ absurd (let lt = rx.0 u h in omega arith) | inr k ↦ k ]

      later : Among x ys → AreAmong (x ∷ xs) ys
      later j u h =
          elim h [
            | inl f ↦ subst (λ (n : ℕ). Among n ys) (sym f) j
            | inr k ↦ elim (w u (inr k)) [ inl f ↦ absurd (let a = rx.0 u k in let c = ry.0 x j in omega arith) | inr m ↦ m ]
          ]

members_within : (v w : Val) → IsWellFormed v → IsWellFormed w → IsBelow v w → AreAmong (members v) (members w)
members_within v w wv ww h z i = among_member w z (has_step w ww) (h z (member_among v z (has_step v wv) i))

size_below : (v w : Val) → IsWellFormed v → IsWellFormed w → IsBelow v w → length (members v) ≤ length (members w)
size_below v w wv ww h = length_within (members v) (members w) (rising_members v wv) (rising_members w ww) (members_within v w wv ww h)

size_back : (v w : Val) → IsWellFormed v → IsWellFormed w → IsBelow v w → length (members w) ≤ length (members v) → IsBelow w v
size_back v w wv ww h le z m =
    member_among v z (has_step v wv)
    (within_back (members v) (members w) (rising_members v wv) (rising_members w ww) (members_within v w wv ww h) le z (among_member w z (has_step w ww) m))

count_most : (s : ℕ) → s ≤ 2 → (lo last : ℕ) → last < 2 ^ 32 → span_len lo last s ≤ 2 ^ 32
count_most =
    step_cases (λ s. (lo last : ℕ) → last < 2 ^ 32 → span_len lo last s ≤ 2 ^ 32)
    (λ lo last h. omega arith)
    (λ lo last h. omega arith)
    (λ lo last h. omega arith)

size_most : (v : Val) → IsWellFormed v → length (members v) ≤ 2 ^ 32
size_most (Set ws) w = omega (arith, w.few)
size_most (Span lo last step) w = omega (arith, length-multiples (span_len lo last step) (first_member_quotient lo step) (2 ^ step), count_most step w.0 lo last w.2)

-- ---- registers
head : (v : Val) (vs : List Val) → AreWellFormed (v ∷ vs) → IsWellFormed v
head v vs h = h 0 (omega arith)

tail : (v : Val) (vs : List Val) → AreWellFormed (v ∷ vs) → AreWellFormed vs
tail v vs h r lt = h (suc r) (omega arith)

below_tail : (v w : Val) (vs ws : List Val) → AreBelow (v ∷ vs) (w ∷ ws) → AreBelow vs ws
below_tail v w vs ws h r lt = h (suc r) (omega arith)

size_cons : (v : Val) (vs : List Val) → level_of_values (v ∷ vs) ≡ length (members v) + level_of_values vs
size_cons v vs = sum_by-cons (λ (x : Val). length (members x)) v vs

regs_below : (vs ws : List Val) → length vs ≡ length ws → AreWellFormed vs → AreWellFormed ws → AreBelow vs ws → level_of_values vs ≤ level_of_values ws
regs_below [] [] e wv ww h = omega arith
regs_below [] (w ∷ ws) e wv ww h = absurd (omega arith)
regs_below (v ∷ vs) [] e wv ww h = absurd (omega arith)
regs_below (v ∷ vs) (w ∷ ws) e wv ww h =
    let first = size_below v w (head v vs wv) (head w ws ww) (h 0 (omega arith)) in
    let rest = regs_below vs ws (omega arith) (tail v vs wv) (tail w ws ww) (below_tail v w vs ws h) in
    omega (arith, size_cons v vs, size_cons w ws, first, rest)

regs_back : (vs ws : List Val) → length vs ≡ length ws → AreWellFormed vs → AreWellFormed ws → AreBelow vs ws → level_of_values ws ≤ level_of_values vs → AreBelow ws vs
regs_back [] [] e wv ww h le r lt = absurd (omega arith)
regs_back [] (w ∷ ws) e wv ww h le r lt = absurd (omega arith)
regs_back (v ∷ vs) [] e wv ww h le r lt = absurd (omega arith)
regs_back (v ∷ vs) (w ∷ ws) e wv ww h le zero lt =
    let rest = regs_below vs ws (omega arith) (tail v vs wv) (tail w ws ww) (below_tail v w vs ws h) in
    size_back v w (head v vs wv) (head w ws ww) (h 0 (omega arith)) (omega (arith, le, size_cons v vs, size_cons w ws, rest))
regs_back (v ∷ vs) (w ∷ ws) e wv ww h le (suc r) lt =
    let first = size_below v w (head v vs wv) (head w ws ww) (h 0 (omega arith)) in
    regs_back vs ws (omega arith) (tail v vs wv) (tail w ws ww) (below_tail v w vs ws h) (omega (arith, le, size_cons v vs, size_cons w ws, first)) r (omega arith)

regs_most : (vs : List Val) → AreWellFormed vs → level_of_values vs ≤ length vs * 2 ^ 32
regs_most vs w = sum_by-le (λ (x : Val). length (members x)) (2 ^ 32) vs (λ k d lt. at vs w k d lt) where
  at : (us : List Val) → AreWellFormed us → (k : ℕ) (d : Val) → k < length us → length (members (get_or us k d)) ≤ 2 ^ 32
  at [] h k d lt = absurd (omega arith)
  at (u ∷ us) h zero d lt = size_most u (head u us h)
  at (u ∷ us) h (suc k) d lt = at us (tail u us h) k d (omega arith)

-- ---- flags
flag_below : (x y : Bool) → (IsTrue x → IsTrue y) → cert_flag_byte x ≤ cert_flag_byte y
flag_below false y h = omega arith
flag_below true true h = omega arith
flag_below true false h = absurd (let no : false ≡ true = h refl in cc)

flag_back : (x y : Bool) → cert_flag_byte y ≤ cert_flag_byte x → IsTrue y → IsTrue x
flag_back true y le t = refl
flag_back false true le t = absurd (omega arith)
flag_back false false le t = t

clear_below : (x y : Bool) → (IsTrue y → IsTrue x) → cert_flag_byte (not x) ≤ cert_flag_byte (not y)
clear_below true y h = omega arith
clear_below false true h = absurd (let no : false ≡ true = h refl in cc)
clear_below false false h = omega arith

clear_back : (x y : Bool) → cert_flag_byte (not y) ≤ cert_flag_byte (not x) → IsTrue x → IsTrue y
clear_back x true le t = refl
clear_back true false le t = absurd (omega arith)
clear_back false false le t = t

count_cons : (x : Bool) (xs : List Bool) → count_by not (x ∷ xs) ≡ cert_flag_byte (not x) + count_by not xs
count_cons true xs = sum_by-cons (λ (y : Bool). cond (not y) 1 0) true xs
count_cons false xs = sum_by-cons (λ (y : Bool). cond (not y) 1 0) false xs

locals_below : (us xs : List Bool) → FlagsImply us xs → count_by not xs ≤ count_by not us
locals_below [] [] h = omega arith
locals_below [] (x ∷ xs) h = absurd h
locals_below (u ∷ us) [] h = absurd h
locals_below (u ∷ us) (x ∷ xs) h = omega (arith, count_cons u us, count_cons x xs, clear_below x u h.0, locals_below us xs h.1)

locals_back : (us xs : List Bool) → FlagsImply us xs → count_by not us ≤ count_by not xs → FlagsImply xs us
locals_back [] [] h le = tt
locals_back [] (x ∷ xs) h le = absurd h
locals_back (u ∷ us) [] h le = absurd h
locals_back (u ∷ us) (x ∷ xs) h le = (
  clear_back x u (omega (arith, le, count_cons u us, count_cons x xs, locals_below us xs h.1)),
  locals_back us xs h.1 (omega (arith, le, count_cons u us, count_cons x xs, clear_below x u h.0)),
)

-- ---- what is known
state_back : (b : Limits) (s u : State) → IsWellFormedState b s → IsWellFormedState b u → Covers u s → u.ccpn < 256 → level_of_known (state u) ≤ level_of_known (state s) → Covers s u
state_back b s u ps pu c small le =
    let same = ps.regs ∙ sym pu.regs in
    let ws = values_well b s.regs ps.values in
    let wu = values_well b u.regs pu.values in
    let regs = regs_below s.regs u.regs same ws wu c.regs in
    let ie = flag_below s.ie u.ie c.context.0 in
    let lower = clear_below s.lower u.lower c.context.2 in
    let locals = locals_below u.locals.items s.locals.items c.locals in
    let prio = c.context.1 in
    record {
      regs = regs_back s.regs u.regs same ws wu c.regs (omega (arith, le, regs, ie, lower, locals, prio));
      context = (
        flag_back s.ie u.ie (omega (arith, le, regs, ie, lower, locals, prio)),
        omega (arith, le, regs, ie, lower, locals, prio, small),
        clear_back s.lower u.lower (omega (arith, le, regs, ie, lower, locals, prio)),
      );
      locals = locals_back u.locals.items s.locals.items c.locals (omega (arith, le, regs, ie, lower, locals, prio));
    }

exit_back : (b : Limits) (x y : exits.Exit) → IsWellFormedExit b x → IsWellFormedExit b y → CoversKnown (leaving y) (leaving x) → y.ccpn < 256 → level_of_known (leaving y) ≤ level_of_known (leaving x) → CoversKnown (leaving x) (leaving y)
exit_back b x y px py c small le =
    let same = px.regs ∙ sym py.regs in
    let wx = values_well b x.lower px.values in
    let wy = values_well b y.lower py.values in
    let regs = regs_below x.lower y.lower same wx wy c.lower in
    let ie = flag_below x.ie y.ie c.enabled in
    let prio = c.priority in
    record {
      lower = regs_back x.lower y.lower same wx wy c.lower (omega (arith, le, regs, ie, prio));
      enabled = flag_back x.ie y.ie (omega (arith, le, regs, ie, prio));
      priority = omega (arith, le, regs, ie, prio, small);
    }

known_back : (b : Limits) (w u : Known) → IsWellFormedKnown b w → IsWellFormedKnown b u → CoversKnown u w → known_ccpn u < 256 → level_of_known u ≤ level_of_known w → CoversKnown w u
known_back b (state s) (state u) ps pu c small le = state_back b s u ps pu c small le
known_back b (leaving x) (leaving y) px py c small le = exit_back b x y px py c small le
known_back b (state s) (leaving y) ps py c small le = absurd c
known_back b (leaving x) (state u) px pu c small le = absurd c

priority_falls : (u v : Known) → CoversKnown u v → known_ccpn u ≤ known_ccpn v
priority_falls (state u) (state s) c = c.context.1
priority_falls (leaving y) (leaving x) c = c.priority
priority_falls (state u) (leaving x) c = absurd c
priority_falls (leaving y) (state s) c = absurd c

-- the join of something that isn't covered has a higher rank
pub rank_rises : (b : Limits) (image : ImageData) (plan : PlanData) → AreMakerLaws b image plan → (o : Option Known) (v u : Known) → ((w : Known) → o ≡ Some w → IsWellFormedKnown b w) → IsWellFormedKnown b v → joined_at_place b o v ≡ Some u
    → ((w : Known) → o ≡ Some w → CoversKnown w v → ⊥) → known_ccpn v < 256 → level_of_place o < level_of_place (Some u)
rank_rises b image plan laws None v u po pv is new small = omega arith
rank_rises b image plan laws (Some w) v u po pv is new small =
    let pw = po w refl in
    let pu = laws.joined_well_formed w v u pw pv is in
    let above = laws.joined_above w v u pw pv is in
    elim (cases_lt (level_of_known w) (level_of_known u)) [
      | inl lt ↦ omega (arith, lt)
      | inr ge ↦ absurd (new w refl (laws.covers_through v u w pv pu (known_back b w u pw pu above.0 (omega (arith, small, priority_falls u v above.1)) (omega (arith, ge))) above.1))
    ]

-- ---- bounds
abbrev pub most_rank : ℕ
most_rank = 2 ^ 37

state_most : (b : Limits) (s : State) → AreLimits b → IsWellFormedState b s → level_of_known (state s) ≤ most_rank
state_most b s limits p =
    let regs = regs_most s.regs (values_well b s.regs p.values) in
    let e = subst (λ (n : ℕ). level_of_values s.regs ≤ n * 2 ^ 32) p.regs regs in
    omega (arith, e, byte_most s.ie, byte_most (not s.lower), count_by-le-length not s.locals.items, p.few, limits.few_locals)
  where
    byte_most : (x : Bool) → cert_flag_byte x ≤ 1
    byte_most true = omega arith
    byte_most false = omega arith

exit_most : (b : Limits) (x : exits.Exit) → IsWellFormedExit b x → level_of_known (leaving x) ≤ most_rank
exit_most b x p =
    let regs = regs_most x.lower (values_well b x.lower p.values) in
    let e = subst (λ (n : ℕ). level_of_values x.lower ≤ n * 2 ^ 32) p.regs regs in
    omega (arith, e, byte_most x.ie)
  where
    byte_most : (y : Bool) → cert_flag_byte y ≤ 1
    byte_most true = omega arith
    byte_most false = omega arith

known_most : (b : Limits) (v : Known) → AreLimits b → IsWellFormedKnown b v → level_of_known v ≤ most_rank
known_most b (state s) limits p = state_most b s limits p
known_most b (leaving x) limits p = exit_most b x p

pub at_most : (b : Limits) (o : Option Known) → AreLimits b → ((v : Known) → o ≡ Some v → IsWellFormedKnown b v) → level_of_place o ≤ 1 + most_rank
at_most b None limits p = omega arith
at_most b (Some v) limits p = omega (arith, known_most b v limits (p v refl))
