-- The arrows of a point have one for each of its duties.
use Rattle.std.proofs.Common.{◌≡◌, ◌==◌, ℕ, zero, suc, ◌<◌, Bool, true, not, List, [], ◌∷◌, ◌++◌, map, length, get_or, inl, inr, refl, sym, ap, subst, arith}
use Rattle.std.specs.Prelude.{filter, Contains, if◌then◌else◌}
use Rattle.std.specs.List.{flat_map}
use Rattle.std.proofs.lemmas.Bool.{cases_Bool, eqb-true}
use Rattle.std.proofs.lemmas.List.Elements.{Contains-append_left, Contains-append_right}
use Rattle.tc_isa.specs.declared.shapes.Shape.{Shape}
use Rattle.value_domain.specs.Sets.{Among, sorted_set_of}
use Rattle.value_domain.proofs.SetLaws.{distinct_has}
use Rattle.depth_cert.specs.declared.keys.Key.{Key}
use Rattle.depth_cert.specs.Certs.{CertData}
use Rattle.cfg_recover.specs.Duties.{Owed, owed, jump, enter}
use Rattle.cfg_recover.specs.EdgesAreOwed.{OwesJump, OwesEntry}
use Rattle.cfg_recover.specs.StepEdges.{to, call, irq, sys, aln}
use Rattle.cfg_recover.proofs.Members.{contains_first, contains_among, contains_map, contains_flat, contains_filter}
use Rattle.tcd_report.specs.Graphs.{Arrow, goes, back, jump_target_of_duty, entry_of_duty, entries_by_rule, unique_addresses, return_arrow_of, sorted_jump_targets_of, called_entries_of, unique_return_addresses_of, system_call_entries_of, misaligned_entries_of, interrupt_entries_of, arrows_of}

among_at : (xs : List ℕ) (x k : ℕ) → k < length xs → get_or xs k x ≡ x → Among x xs
among_at [] x k lt e = absurd (omega arith)
among_at (y ∷ ys) x zero lt e = inl (sym e)
among_at (y ∷ ys) x (suc k) lt e = inr (among_at ys x k (omega arith) e)

among_of : (xs : List ℕ) (x : ℕ) → Contains xs x → Among x xs
among_of xs x c = among_at xs x c.0 c.1 c.2

contains_distinct : (xs : List ℕ) (x : ℕ) → Contains xs x → Contains (sorted_set_of xs) x
contains_distinct xs x c = contains_among (sorted_set_of xs) x (distinct_has x xs (among_of xs x c))

once_has : (xs : List ℕ) (x : ℕ) → Among x xs → Contains (unique_addresses xs) x
once_has [] x h = absurd h
once_has (y ∷ ys) x (inl e) = subst (λ z. Contains (y ∷ filter (λ w. not (w == y)) (unique_addresses ys)) z) (sym e) (contains_first y (filter (λ w. not (w == y)) (unique_addresses ys)))
once_has (y ∷ ys) x (inr h) =
    let rest = once_has ys x h in
    elim (cases_Bool (x == y)) [
      | inl same ↦ subst (λ z. Contains (y ∷ filter (λ w. not (w == y)) (unique_addresses ys)) z) (sym (eqb-true x y same)) (contains_first y (filter (λ w. not (w == y)) (unique_addresses ys)))
      | inr other ↦ Contains-append_right (y ∷ []) (filter (λ w. not (w == y)) (unique_addresses ys)) x (contains_filter (λ w. not (w == y)) x (unique_addresses ys) rest (ap not other))
    ]

contains_once : (xs : List ℕ) (x : ℕ) → Contains xs x → Contains (unique_addresses xs) x
contains_once xs x c = once_has xs x (among_of xs x c)

jump_there : (ds : List Owed) (q : ℕ) → OwesJump ds q → Contains (flat_map (λ d. jump_target_of_duty d.duty) ds) q
jump_there ds q o = contains_flat (λ d. jump_target_of_duty d.duty) q (owed 4 (jump q o.0)) ds o.1 (contains_first q [])

entry_there : (ds : List Owed) (rule : ℕ) (key : Key) → rule == rule ≡ true → OwesEntry ds rule key → Contains (entries_by_rule rule ds) key.entry
entry_there ds rule key same o =
    contains_flat (λ d. if d.rule == rule then entry_of_duty d.duty else []) key.entry (owed rule (enter key o.0)) ds o.1
    (subst (λ (b : Bool). Contains (if b then key.entry ∷ [] else []) key.entry) (sym same) (contains_first key.entry []))

module _ (cert : CertData) (ds : List Owed) (shape : Shape) where
  to_s : List Arrow
  to_s = map (λ q. goes (to q)) (sorted_jump_targets_of ds)

  call_s : List Arrow
  call_s = map (λ q. goes (call q)) (called_entries_of ds)

  back_s : List Arrow
  back_s = map back (unique_return_addresses_of cert ds)

  sys_s : List Arrow
  sys_s = map (λ q. goes (sys q)) (system_call_entries_of ds)

  aln_s : List Arrow
  aln_s = map (λ q. goes (aln q)) (misaligned_entries_of ds)

  irq_s : List Arrow
  irq_s = map (λ q. goes (irq q)) (interrupt_entries_of ds)

  from_irq : (a : Arrow) → Contains (irq_s ++ return_arrow_of shape) a → Contains (arrows_of cert ds shape) a
  unfolding arrows_of to_s call_s back_s sys_s aln_s irq_s
  from_irq a c =
      let r5 = Contains-append_right aln_s (irq_s ++ return_arrow_of shape) a c in
      let r3 = Contains-append_right back_s (sys_s ++ (aln_s ++ (irq_s ++ return_arrow_of shape))) a (Contains-append_right sys_s (aln_s ++ (irq_s ++ return_arrow_of shape)) a r5) in
      let r2 = Contains-append_right call_s (back_s ++ (sys_s ++ (aln_s ++ (irq_s ++ return_arrow_of shape)))) a r3 in
      Contains-append_right to_s (call_s ++ (back_s ++ (sys_s ++ (aln_s ++ (irq_s ++ return_arrow_of shape))))) a r2

  from_aln : (a : Arrow) → Contains aln_s a → Contains (arrows_of cert ds shape) a
  unfolding arrows_of to_s call_s back_s sys_s aln_s irq_s
  from_aln a c =
      let r5 = Contains-append_left aln_s (irq_s ++ return_arrow_of shape) a c in
      let r3 = Contains-append_right back_s (sys_s ++ (aln_s ++ (irq_s ++ return_arrow_of shape))) a (Contains-append_right sys_s (aln_s ++ (irq_s ++ return_arrow_of shape)) a r5) in
      let r2 = Contains-append_right call_s (back_s ++ (sys_s ++ (aln_s ++ (irq_s ++ return_arrow_of shape)))) a r3 in
      Contains-append_right to_s (call_s ++ (back_s ++ (sys_s ++ (aln_s ++ (irq_s ++ return_arrow_of shape))))) a r2

  from_sys : (a : Arrow) → Contains sys_s a → Contains (arrows_of cert ds shape) a
  unfolding arrows_of to_s call_s back_s sys_s aln_s irq_s
  from_sys a c =
      let r3 = Contains-append_right back_s (sys_s ++ (aln_s ++ (irq_s ++ return_arrow_of shape))) a (Contains-append_left sys_s (aln_s ++ (irq_s ++ return_arrow_of shape)) a c) in
      let r2 = Contains-append_right call_s (back_s ++ (sys_s ++ (aln_s ++ (irq_s ++ return_arrow_of shape)))) a r3 in
      Contains-append_right to_s (call_s ++ (back_s ++ (sys_s ++ (aln_s ++ (irq_s ++ return_arrow_of shape))))) a r2

  from_call : (a : Arrow) → Contains call_s a → Contains (arrows_of cert ds shape) a
  unfolding arrows_of to_s call_s back_s sys_s aln_s irq_s
  from_call a c =
      let r2 = Contains-append_left call_s (back_s ++ (sys_s ++ (aln_s ++ (irq_s ++ return_arrow_of shape)))) a c in
      Contains-append_right to_s (call_s ++ (back_s ++ (sys_s ++ (aln_s ++ (irq_s ++ return_arrow_of shape))))) a r2

  from_to : (a : Arrow) → Contains to_s a → Contains (arrows_of cert ds shape) a
  unfolding arrows_of to_s call_s back_s sys_s aln_s irq_s
  from_to a c = Contains-append_left to_s (call_s ++ (back_s ++ (sys_s ++ (aln_s ++ (irq_s ++ return_arrow_of shape))))) a c

  pub to_there : (q : ℕ) → OwesJump ds q → Contains (arrows_of cert ds shape) (goes (to q))
  unfolding to_s
  to_there q o = from_to (goes (to q)) (contains_map (λ x. goes (to x)) (sorted_jump_targets_of ds) q (contains_distinct (flat_map (λ d. jump_target_of_duty d.duty) ds) q (jump_there ds q o)))

  pub call_there : (key : Key) → OwesEntry ds 5 key → Contains (arrows_of cert ds shape) (goes (call key.entry))
  unfolding call_s
  call_there key o = from_call (goes (call key.entry)) (contains_map (λ x. goes (call x)) (called_entries_of ds) key.entry (contains_distinct (entries_by_rule 5 ds) key.entry (entry_there ds 5 key refl o)))

  pub sys_there : (key : Key) → OwesEntry ds 12 key → Contains (arrows_of cert ds shape) (goes (sys key.entry))
  unfolding sys_s
  sys_there key o = from_sys (goes (sys key.entry)) (contains_map (λ x. goes (sys x)) (system_call_entries_of ds) key.entry (contains_once (entries_by_rule 12 ds) key.entry (entry_there ds 12 key refl o)))

  pub aln_there : (key : Key) → OwesEntry ds 10 key → Contains (arrows_of cert ds shape) (goes (aln key.entry))
  unfolding aln_s
  aln_there key o = from_aln (goes (aln key.entry)) (contains_map (λ x. goes (aln x)) (misaligned_entries_of ds) key.entry (contains_once (entries_by_rule 10 ds) key.entry (entry_there ds 10 key refl o)))

  pub irq_there : (key : Key) → OwesEntry ds 11 key → Contains (arrows_of cert ds shape) (goes (irq key.entry))
  unfolding irq_s
  irq_there key o =
      from_irq (goes (irq key.entry))
      (Contains-append_left irq_s (return_arrow_of shape) (goes (irq key.entry)) (contains_map (λ x. goes (irq x)) (interrupt_entries_of ds) key.entry (contains_once (entries_by_rule 11 ds) key.entry (entry_there ds 11 key refl o))))

  pub leaving_there : (a : Arrow) → Contains (return_arrow_of shape) a → Contains (arrows_of cert ds shape) a
  leaving_there a c = from_irq a (Contains-append_right irq_s (return_arrow_of shape) a c)
