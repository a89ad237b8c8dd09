-- Numbers that meet the rows of a closed assignment are its needs, and its needs meet the rows.
use Rattle.std.proofs.Common.{◌≡◌, inl, inr, ℕ, zero, suc, ◌+◌, ◌<◌, ◌≤◌, true, false, List, [], ◌∷◌, length, get_or, Option, Some, None, IsSome, refl, sym, ap, ◌∙◌, subst, arith, Contains}
use Rattle.std.specs.Prelude.{map, slice_index}
use Rattle.std.proofs.lemmas.Bool.{cases_lt}
use Rattle.std.proofs.lemmas.List.{get_or_past}
use Rattle.std.proofs.lemmas.List.Elements.{Contains-get_or}
use Rattle.elf_image.specs.Images.{ImageData}
use Rattle.tcd_plan.specs.PlanData.{PlanData}
use Rattle.tc_isa.specs.declared.shapes.Shape.{Shape}
use Rattle.value_domain.specs.declared.states.State.{State}
use Rattle.value_domain.specs.Limits.{Limits, AreLimits}
use Rattle.depth_cert.specs.declared.keys.Key.{Key}
use Rattle.cfg_recover.specs.declared.local_rules.Located.{Located}
use Rattle.cfg_recover.specs.LocalFaults.{IsFaultlessShape}
use Rattle.cfg_recover.specs.Duties.{enter, duties_of, entered_keys}
use Rattle.cfg_recover.specs.Entries.{start_key}
use Rattle.cfg_recover.specs.Assignments.{Place, point, Assignment, key_of_place, Closed, Derived, ArePointsFaultless, EntersInAssignment}
use Rattle.depth_cert.specs.Known.{Known, state}
use Rattle.cfg_recover.specs.CertRefusals.{AreSufficientNeeds}
use Rattle.depth_maker.specs.LeastCertMade.{AreLeastNeeds}
use Rattle.cfg_recover.proofs.CodeLaws.{IsCode-one}
use Rattle.cfg_recover.proofs.Members.{contains_map}
use Rattle.depth_maker.specs.AssignmentCounts.{ListsPointsAndFrames}
use Rattle.frame_places.specs.Numbers.{frame_number_in}
use Rattle.depth_maker.specs.WellFormedAssignments.{AllWellFormed}
use Rattle.depth_maker.specs.MakerLaws.{AreMakerLaws}
use Rattle.frame_places.specs.RowNeeds.{MeetsRows, AreLowerBounds, AreRowsWithin}
use Rattle.depth_maker.specs.Rows.{AreRowsOfPoints}
use Rattle.depth_maker.specs.Needs.{need_of_frame}
use Rattle.frame_places.specs.declared.needs.row.NeedRow.{NeedRow}
use Rattle.depth_maker.proofs.Reached.{needs_at_most}
use Rattle.depth_maker.proofs.EnteredLemmas.{entered_owed, owed_entered}
use Rattle.frame_places.proofs.NumberLemmas.{numbered_at, number_below}

-- the elements of a mapped list
mapped : {X : Type 0} (f : X → ℕ) (xs : List X) (y : ℕ) → Contains (map f xs) y → (x : X) × Contains xs x × (f x ≡ y)
mapped f [] y c = absurd (omega (arith, c.1))
mapped {X} f (x ∷ xs) y c = at (λ h. mapped f xs y h) c.0 c.1 c.2 where
  at : (Contains (map f xs) y → (z : X) × Contains xs z × (f z ≡ y)) → (i : ℕ) → i < length (map f (x ∷ xs)) → get_or (map f (x ∷ xs)) i y ≡ y → (z : X) × Contains (x ∷ xs) z × (f z ≡ y)
  at more zero lt e = (x, (0, omega arith, refl), e)
  at more (suc i) lt e = let r = more (i, omega arith, e) in (r.0, (suc (r.1).0, omega (arith, (r.1).1), (r.1).2), r.2)

module _ (b : Limits) (image : ImageData) (plan : PlanData) (a : Assignment) (closed : Closed b image plan a) (ps : List Place) (ks : List Key) (counted : ListsPointsAndFrames a ps ks) where
  -- known frames have numbers
  pub known_frame : (y : Place) (v : Known) → a y ≡ Some v → Contains ks (key_of_place y)
  known_frame y v at = counted.frames y (subst (λ (o : Option Known). IsSome o) (sym at) refl)

  -- the frames that a point enters, from the duties of its row
  pub enters_of : (k : Key) (p : ℕ) (u : State) (found : Located) (l : Key) → a (point k p) ≡ Some (state u) → IsFaultlessShape b image plan k p u found
      → Contains (entered_keys (duties_of b image plan k p u found.shape found.size)) l → EntersInAssignment b image plan a k p u l
  enters_of k p u found l at stands c =
      let o = entered_owed (duties_of b image plan k p u found.shape found.size) l c in
      record {
        entered = o.0;
        has = record { at = at; faultless = stands.faultless; shape = found.shape; size = found.size; code = stands.code; owed = (o.1).0; listed = (o.1).1; is = (o.1).2 };
      }

  -- an entered frame is known
  pub entered_frame : (k : Key) (p : ℕ) (u : State) (l : Key) → EntersInAssignment b image plan a k p u l → Contains ks l
  entered_frame k p u l e =
      let c = closed.duties (point l l.entry) (state e.entered) (record { key = k; addr = p; before = u; duty = enter l e.entered; has = e.has; asks = refl }) in
      known_frame (point l l.entry) c.known c.at

module _ (b : Limits) (image : ImageData) (plan : PlanData) (a : Assignment) (closed : Closed b image plan a) (ps : List Place) (ks : List Key) (counted : ListsPointsAndFrames a ps ks) (rows : List NeedRow)
    (are : AreRowsOfPoints b image plan a ks rows) where
  pub first : Key
  first = start_key image plan

  known : (y : Place) (v : Known) → a y ≡ Some v → Contains ks (key_of_place y)
  known y v at = known_frame b image plan a closed ps ks counted y v at

  -- ---- needs meet the rows
  pub meets_rows : (need : Key → ℕ) → AreSufficientNeeds b image plan a need → MeetsRows (λ i. need (get_or ks i first)) rows
  meets_rows need m row c =
      let s = are.sound row c in
      let k = s.0 in
      let p = s.1 in
      let u = s.2 in
      let r = s.4 in
      let has = known (point k p) (state u) s.3 in
      let own : get_or ks row.node first ≡ k = ap (λ i. get_or ks i first) r.node ∙ (numbered_at ks k first has).1 in
      record {
        held = subst (λ (n : ℕ). n ≤ need (get_or ks row.node first)) (sym r.held) (subst (λ (z : Key). length u.locals.items ≤ need z) (sym own) (m.locals k p u s.3));
        into = λ t i.
            let x = mapped (frame_number_in ks) (entered_keys (duties_of b image plan k p u (r.found).shape (r.found).size)) t (subst (λ (l : List ℕ). Contains l t) r.into i) in
            let e = enters_of b image plan a closed ps ks counted k p u r.found x.0 s.3 r.stands x.1 in
            let there : get_or ks t first ≡ x.0 = ap (λ n. get_or ks n first) (sym x.2) ∙ (numbered_at ks x.0 first (entered_frame b image plan a closed ps ks counted k p u x.0 e)).1 in
            let h = m.entered k p u x.0 e in
            subst (λ (z : Key). row.held + 1 + need z ≤ need (get_or ks row.node first)) (sym there)
            (subst (λ (z : Key). row.held + 1 + need x.0 ≤ need z) (sym own) (subst (λ (n : ℕ). n + 1 + need x.0 ≤ need k) (sym r.held) h));
      }

  -- ---- numbers that meet the rows are needs
  pub meets_needs : (needs : List ℕ) → MeetsRows (λ i. slice_index needs i) rows → AreSufficientNeeds b image plan a (need_of_frame ks needs)
  meets_needs needs m = record {
    locals = λ k p u at.
        let c = are.complete k p u at in
        let h = (m c.0 c.1).held in
        subst (λ (n : ℕ). n ≤ need_of_frame ks needs k) ((c.2).held) (subst (λ (i : ℕ). (c.0).held ≤ slice_index needs i) ((c.2).node) h);
    entered = λ k p u l e.
        let c = are.complete k p u (e.has).at in
        let r = c.2 in
        let one = IsCode-one image plan p (e.has).shape (r.found).shape (e.has).size (r.found).size (e.has).code (r.stands).code in
        let listed = subst (λ (z : Shape). Contains (duties_of b image plan k p u z (r.found).size) (e.has).owed) one.0 (subst (λ (z : ℕ). Contains (duties_of b image plan k p u (e.has).shape z) (e.has).owed) one.1 (e.has).listed) in
        let there = owed_entered (duties_of b image plan k p u (r.found).shape (r.found).size) (e.has).owed l e.entered listed (e.has).is in
        let i = subst (λ (z : List ℕ). Contains z (frame_number_in ks l)) (sym r.into) (contains_map (frame_number_in ks) (entered_keys (duties_of b image plan k p u (r.found).shape (r.found).size)) l there) in
        let h = (m c.0 c.1).into (frame_number_in ks l) i in
        subst (λ (n : ℕ). n + 1 + need_of_frame ks needs l ≤ need_of_frame ks needs k) r.held (subst (λ (j : ℕ). (c.0).held + 1 + need_of_frame ks needs l ≤ slice_index needs j) r.node h);
  }

  -- least numbers are least needs
  pub least_by : (needs : List ℕ) → length needs ≡ length ks → MeetsRows (λ i. slice_index needs i) rows → AreLowerBounds needs rows → AreLeastNeeds b image plan a (need_of_frame ks needs)
  least_by needs len m low = record {
    meets = meets_needs needs m;
    least = λ other o k.
        elim (cases_lt (frame_number_in ks k) (length ks)) [
          | inl lt ↦ subst (λ (z : Key). need_of_frame ks needs k ≤ other z) (number_below ks k first lt) (low (λ i. other (get_or ks i first)) (meets_rows other o) (frame_number_in ks k) (omega arith))
          | inr ge ↦ (let z = get_or_past needs (frame_number_in ks k) 0 (omega arith) in omega (arith, z))
        ];
  }

  -- the rows are about these frames
  pub rows_within : AllWellFormed b a → AreLimits b → AreRowsWithin rows (length ks)
  rows_within well_formed limits = record {
    node = λ row c. let s = are.sound row c in subst (λ (n : ℕ). n < length ks) (sym (s.4).node) (numbered_at ks s.0 first (known (point s.0 s.1) (state s.2) s.3)).0;
    held = λ row c. let s = are.sound row c in let f = (well_formed (point s.0 s.1) (state s.2) s.3).few in omega (arith, (s.4).held, f, limits.few_locals);
    into = λ row t c i.
        let s = are.sound row c in
        let r = s.4 in
        let x = mapped (frame_number_in ks) (entered_keys (duties_of b image plan s.0 s.1 s.2 (r.found).shape (r.found).size)) t (subst (λ (l : List ℕ). Contains l t) r.into i) in
        let e = enters_of b image plan a closed ps ks counted s.0 s.1 s.2 r.found x.0 s.3 r.stands x.1 in
        subst (λ (n : ℕ). n < length ks) x.2 (numbered_at ks x.0 first (entered_frame b image plan a closed ps ks counted s.0 s.1 s.2 x.0 e)).0;
  }

  some_of : (o : Option Known) → IsSome o → (v : Known) × (o ≡ Some v)
  some_of None h = absurd (let f : false ≡ true = h in cc)
  some_of (Some v) h = (v, refl)

  -- if some number of each choice is above the cap, the start's is
  pub above_by : (laws : AreMakerLaws b image plan) (derived : Derived b image plan a) (faultless : ArePointsFaultless b image plan a) (well_formed : AllWellFormed b a) (cap : ℕ)
      → ((other : ℕ → ℕ) → MeetsRows other rows → (i : ℕ) × (i < length ks) × (cap < other i)) → (need : Key → ℕ) → AreSufficientNeeds b image plan a need → cap < need (start_key image plan)
  above_by laws derived faultless well_formed cap none need m =
      let h = none (λ i. need (get_or ks i first)) (meets_rows need m) in
      let k = get_or ks h.0 first in
      let e = some_of (a (point k k.entry)) (counted.entered k (Contains-get_or ks h.0 first h.1)) in
      let most = needs_at_most b image plan laws a closed faultless well_formed a derived need m (point k k.entry) e.0 e.1 in
      omega (arith, h.2, most)
