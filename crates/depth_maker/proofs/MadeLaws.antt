-- The certificate that is written is the one to make.
use Rattle.std.proofs.Common.{◌≡◌, ℕ, ◌<◌, ◌^◌, refl, sym, ap, ◌∙◌, ◌≤◌, subst, arith, Some}
use Rattle.elf_image.specs.Images.{ImageData}
use Rattle.tcd_plan.specs.PlanData.{PlanData}
use Rattle.value_domain.specs.VersionLimits.{limits_for}
use Rattle.depth_cert.specs.declared.keys.Key.{Key}
use Rattle.value_domain.specs.Limits.{Limits}
use Rattle.depth_cert.specs.Keys.{IsKey}
use Rattle.depth_cert.specs.Nodes.{IsNode, need_or_zero, find_node}
use Rattle.depth_cert.specs.Certs.{CertData, IsCert}
use Rattle.cfg_recover.specs.Duties.{enter}
use Rattle.cfg_recover.specs.Entries.{start_key}
use Rattle.cfg_recover.specs.RulesHoldOrFail.{Accepts, limits_of_cert}
use Rattle.cfg_recover.specs.Assignments.{Place, point, exit, Assignment, key_of_place, Derived, Closed, IsAssignmentBelow, assignment_of_cert}
use Rattle.depth_cert.specs.Known.{Known, state, leaving, CoversKnown}
use Rattle.cfg_recover.specs.CertRefusals.{AreSufficientNeeds, IsRefusal}
use Rattle.depth_maker.specs.DutiesMonotone.{AreMakerInputs}
use Rattle.depth_maker.specs.MakerLaws.{IsMakerSolution, MakeErrExcludesCerts, LeastFixpointIsLeastCert, RefusalMeansNoCertAccepted, LeastCertIsLeastAccepted}
use Rattle.depth_maker.specs.LeastCertMade.{need_in_cert, IsNoWorse, IsLeastCert, IsLeastFixpointCert}
use Rattle.depth_maker.proofs.Lawful.{lawful}
use Rattle.depth_maker.proofs.Below.{derived_below}
use Rattle.depth_maker.proofs.TableLaws.{derived_well_formed}
use Rattle.depth_maker.proofs.Accepted.{accepted_closed, accepted_faultless, accepted_well_formed, at_point, at_exit, All-at, find_agrees}
use Rattle.depth_maker.proofs.Sizes.{cert_within}
use Rattle.depth_maker.proofs.NeedLaws.{derived_needs, refusal_refuted}
use Rattle.depth_maker.proofs.Solved.{solution_accepted}
use Rattle.depth_maker.proofs.LeastStands.{least_stands}

-- a known place of a certificate has a key
known_key : (cert : CertData) → IsCert cert → (y : Place) (v : Known) → assignment_of_cert cert y ≡ Some v → IsKey (key_of_place y)
known_key cert is_cert (point k p) v e = let a = (at_point cert k p v e).2 in subst IsKey a.key (All-at (IsNode cert.version) cert.nodes a.node is_cert.nodes a.member).key
known_key cert is_cert (exit k) v e = let a = (at_exit cert k v e).2 in subst IsKey a.key (All-at (IsNode cert.version) cert.nodes a.node is_cert.nodes a.member).key

-- numbers that agree at the known frames meet the same needs
pub meets_alike : (b : Limits) (image : ImageData) (plan : PlanData) (a : Assignment) (f g : Key → ℕ) → Closed b image plan a → ((y : Place) (v : Known) → a y ≡ Some v → f (key_of_place y) ≡ g (key_of_place y))
    → AreSufficientNeeds b image plan a f → AreSufficientNeeds b image plan a g
meets_alike b image plan a f g closed same m = record {
  locals = λ k p s at. let le = m.locals k p s at in omega (arith, le, same (point k p) (state s) at);
  entered = λ k p s t e.
      let le = m.entered k p s t e in
      let c = closed.duties (point t t.entry) (state e.entered) (record { key = k; addr = p; before = s; duty = enter t e.entered; has = e.has; asks = refl }) in
      omega (arith, le, same (point k p) (state s) (e.has).at, same (point t t.entry) c.known c.at);
}

-- a node is found by its key's number as by its key
numbers_agree : (cert : CertData) → IsCert cert → (k : Key) → IsKey k → need_or_zero (find_node k cert.nodes) ≡ need_in_cert cert k
numbers_agree cert is_cert k key = ap need_or_zero (sym (find_agrees cert.version k cert.nodes key is_cert.nodes))

module _ (image : ImageData) (plan : PlanData) (cert : CertData) (ground : AreMakerInputs (limits_of_cert plan cert) image plan) (entry : image.entry < 2 ^ 32) (w : IsLeastFixpointCert image plan cert.version cert) where
  -- needs of any certificate, by numbers and by keys
  by_keys : (other : CertData) → IsCert other → AreSufficientNeeds (limits_of_cert plan cert) image plan (assignment_of_cert cert) (λ k. need_or_zero (find_node k other.nodes)) → AreSufficientNeeds (limits_of_cert plan cert) image plan (assignment_of_cert cert) (need_in_cert other)
  by_keys other is_other m =
      meets_alike (limits_of_cert plan cert) image plan (assignment_of_cert cert) (λ k. need_or_zero (find_node k other.nodes)) (need_in_cert other) w.closed (λ y v at. numbers_agree other is_other (key_of_place y) (known_key cert w.is_cert y v at)) m

  start_is : IsKey (start_key image plan)
  start_is = record { kind = omega arith; entry = entry; prio = omega arith }

  solution : IsMakerSolution (limits_of_cert plan cert) image plan (assignment_of_cert cert) (λ k. need_or_zero (find_node k cert.nodes))
  solution = record {
    closed = w.closed;
    faultless = w.faultless;
    well_formed = derived_well_formed (limits_of_cert plan cert) image plan (lawful (limits_of_cert plan cert) image plan ground) (assignment_of_cert cert) w.derived;
    within = cert_within cert w.is_cert;
    needs =
        meets_alike (limits_of_cert plan cert) image plan (assignment_of_cert cert) (need_in_cert cert) (λ k. need_or_zero (find_node k cert.nodes)) w.closed
        (λ y v at. sym (numbers_agree cert w.is_cert (key_of_place y) (known_key cert w.is_cert y v at))) (w.needs).meets;
    start = let le = w.start in omega (arith, le, numbers_agree cert w.is_cert (start_key image plan) start_is);
  }

  least_below : (other : CertData) → AreMakerInputs (limits_of_cert plan other) image plan → Derived (limits_of_cert plan other) image plan (assignment_of_cert cert) → IsCert other → Accepts image plan other
      → IsAssignmentBelow (assignment_of_cert cert) (assignment_of_cert other)
  least_below other above d is_cert accepted =
      (derived_below (limits_of_cert plan other) image plan (lawful (limits_of_cert plan other) image plan above) (assignment_of_cert other) (accepted_closed image plan other above entry is_cert accepted)
      (accepted_faultless image plan other above entry is_cert accepted) (accepted_well_formed image plan other above entry is_cert accepted) (assignment_of_cert cert) d).0

  least_needs : (other : CertData) → other.version ≡ cert.version → AreMakerInputs (limits_of_cert plan other) image plan → Derived (limits_of_cert plan other) image plan (assignment_of_cert cert) → IsCert other → Accepts image plan other
      → (k : Key) → need_in_cert cert k ≤ need_in_cert other k
  least_needs other same above d is_cert accepted k =
      (w.needs).least (need_in_cert other)
      (by_keys other is_cert
      (subst (λ n. AreSufficientNeeds (limits_for plan n) image plan (assignment_of_cert cert) (λ k. need_or_zero (find_node k other.nodes))) same
      (derived_needs image plan other above entry is_cert accepted (assignment_of_cert cert) d)))
      k

  no_worse : (other : CertData) → other.version ≡ cert.version → AreMakerInputs (limits_of_cert plan other) image plan → Derived (limits_of_cert plan other) image plan (assignment_of_cert cert) → IsCert other → Accepts image plan other
      → IsNoWorse image plan cert other
  no_worse other same above d is_cert accepted = record {
    below = least_below other above d is_cert accepted;
    needs = least_needs other same above d is_cert accepted;
  }

  written_made : IsLeastCert image plan cert.version cert
  written_made = record {
    of_version = refl;
    accepted = solution_accepted image plan cert ground entry w.is_cert solution w.entries;
    least = least_stands (limits_of_cert plan cert) image plan (lawful (limits_of_cert plan cert) image plan ground) (assignment_of_cert cert) w.derived w.closed w.faultless (cert_within cert w.is_cert);
    needs = w.needs;
    best = λ other is_cert same accepted.
        no_worse other same
        (subst (λ n. AreMakerInputs (limits_for plan n) image plan) (sym same) ground)
        (subst (λ n. Derived (limits_for plan n) image plan (assignment_of_cert cert)) (sym same) w.derived)
        is_cert accepted;
  }

-- a made certificate in plain words
pub made_is_least : LeastCertIsLeastAccepted
made_is_least image plan version cert m = record {
  its_version = m.of_version;
  accepts = m.accepted;
  frames = λ other k is v a. (m.best other is v a).needs k;
  points = λ other k p s is v a e.
      let c = (m.best other is v a).below (point k p) (state s) e in
      let at = at_point other k p c.known c.at in
      (at.0, c.at ∙ ap Some at.1, subst (λ (w : Known). CoversKnown w (state s)) at.1 c.covers);
  exits = λ other k x is v a e.
      let c = (m.best other is v a).below (exit k) (leaving x) e in
      let at = at_exit other k c.known c.at in
      (at.0, c.at ∙ ap Some at.1, subst (λ (w : Known). CoversKnown w (leaving x)) at.1 c.covers);
}

-- a refusal in plain words
pub none_accepted : MakeErrExcludesCerts
none_accepted image plan version rule key addr cert r is v a = r.1 cert is v a

pub made : LeastFixpointIsLeastCert
made image plan version cert ground entry w =
    subst (λ n. IsLeastCert image plan n cert) w.of_version
    (written_made image plan cert (subst (λ n. AreMakerInputs (limits_for plan n) image plan) (sym w.of_version) ground) entry
    (subst (λ n. IsLeastFixpointCert image plan n cert) (sym w.of_version) w))

pub refused : RefusalMeansNoCertAccepted
refused image plan version r k p ground entry refusal cert is_cert same accepted =
    refusal_refuted image plan cert (subst (λ n. AreMakerInputs (limits_for plan n) image plan) (sym same) ground) entry is_cert accepted r k p
    (subst (λ n. IsRefusal image plan n r k p) (sym same) refusal)
