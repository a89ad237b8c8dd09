-- What `run` and `dis` claim, and that the peak of a run is needed.
use Rattle.std.proofs.Common.{◌≡◌, ◌<◌, ◌≤◌, ℕ, zero, suc, List, [], ◌∷◌, ◌++◌, length, Option, Some, None, Ok, Err, refl, sym, ap, subst, ◌∙◌, arith}
use Rattle.std.specs.Prelude.{codes, max, unwrap_or}
use Rattle.std.specs.Option.{option_map, option_map_or}
use Rattle.std.specs.Fmt.{decimal}
use Rattle.csa_chain.specs.Chain.{area_word, chain}
use Rattle.csa_chain.specs.MemoryBytes.{Memory}
use Rattle.csa_chain.proofs.ChainLaws.{Links, Links-chain_within}
use Rattle.elf_image.specs.Images.{ImageData}
use Rattle.tcd_plan.specs.PlanData.{PlanData, IsPlan}
use Rattle.tcd_plan.specs.PlanReader.{GivesPlan, plan_refusal, unchecked_plan_of}
use Rattle.tcd_plan.specs.declared.plans.PlanErr.{PlanErr}
use Rattle.tcd_plan.proofs.TellsPlan.{tells_plan}
use Rattle.serde_json.specs.Data.{Data}
use Rattle.tc_disasm.specs.Listing.{listing_of}
use Rattle.tc_machine.specs.declared.state.Machine.{Machine}
use Rattle.tc_machine.specs.declared.events.Event.{Event}
use Rattle.tc_machine.specs.MachineLaws.{IsAreaWalk, MeetsSafetyEquations}
use Rattle.tc_machine.specs.Safe.{AllFit, Fits}
use Rattle.tc_machine.specs.Starting.{Starts, IsZeroFilledStart}
use Rattle.tc_machine.specs.Stepping.{IsRun, run, step, used_area_count}
use Rattle.tc_script.specs.DrivenRuns.{driven_peak}
use Rattle.task_chains.proofs.Fitting.{fitting}
use Rattle.tcd_forms.specs.Lines.{run_end_text}
use Rattle.tcd_laws.specs.Claims.{RunsMeetSafetyEquations}
use Rattle.tcd_laws.specs.Claims.Running.{StartsInZeros, RunClaimsHold, DisClaimsHold, PeaksAreNeeded}
use Rattle.tcd_laws.proofs.Claims.{prints_text, files_stay, held}

-- ---- a list of events, and then one event again and again, as a run
abbrev stepped : Machine → Event → ℕ → Machine
stepped m e zero = m
stepped m e (suc k) = step (stepped m e k) e

abbrev states_from : Machine → List Event → Event → ℕ → Machine
states_from m [] last k = stepped m last k
states_from m (e ∷ es) last zero = m
states_from m (e ∷ es) last (suc k) = states_from (step m e) es last k

abbrev events_from : List Event → Event → ℕ → Event
events_from [] last k = last
events_from (e ∷ es) last zero = e
events_from (e ∷ es) last (suc k) = events_from es last k

begins : (m : Machine) (es : List Event) (last : Event) → states_from m es last 0 ≡ m
begins m [] last = refl
begins m (e ∷ es) last = refl

is_run : (m : Machine) (es : List Event) (last : Event) → IsRun (states_from m es last) (events_from es last)
is_run m [] last k = refl
is_run m (e ∷ es) last zero = begins (step m e) es last
is_run m (e ∷ es) last (suc k) = is_run (step m e) es last k

comes_to : (m : Machine) (es : List Event) (last : Event) → states_from m es last (length es) ≡ run m es
comes_to m [] last = refl
comes_to m (e ∷ es) last = comes_to (step m e) es last

fit_each : (plan : PlanData) (m : Machine) (es : List Event) (last : Event) → AllFit plan m es → (k : ℕ) → k < length es → Fits plan (states_from m es last k) (events_from es last k)
fit_each plan m [] last fit k lt = absurd (omega arith)
fit_each plan m (e ∷ es) last fit zero lt = fit.0
fit_each plan m (e ∷ es) last fit (suc k) lt = fit_each plan (step m e) es last fit.1 k (omega arith)

meets_after : (image : ImageData) (plan : PlanData) (most : ℕ) (m : Machine) → RunsMeetSafetyEquations image plan most → Starts image plan m
    → (es : List Event) (e : Event) → AllFit plan m es → Fits plan (run m es) e → MeetsSafetyEquations image plan most (run m es) e
meets_after image plan most m safe starts es e fit last =
    let there = comes_to m es e in
    subst (λ (s : Machine). MeetsSafetyEquations image plan most s e) there
    (safe (states_from m es e) (events_from es e) (length es) e (is_run m es e) (subst (λ (s : Machine). Starts image plan s) (sym (begins m es e)) starts)
    (fit_each plan m es e fit) (subst (λ (s : Machine). Fits plan s e) (sym there) last))

-- ---- peaks
-- from one word there is one walk
as_long : (mem : Memory) (word : ℕ) (xs ys : List ℕ) → IsAreaWalk mem word xs → Links mem word ys → length ys ≡ length xs
as_long mem word [] [] h k = refl
as_long mem word [] (y ∷ ys) h k = absurd (k.0 (sym k.1 ∙ h))
as_long mem word (x ∷ xs) [] h k = absurd (h.0 (sym h.1 ∙ k))
as_long mem word (x ∷ xs) (y ∷ ys) h k =
    let same : y ≡ x = sym k.1 ∙ h.1 in
    ap suc (as_long mem (area_word mem x 0) xs ys h.3 (subst (λ (l : ℕ). Links mem (area_word mem l 0) ys) same k.3))

counted_within : (mem : Memory) (word most : ℕ) (used : List ℕ) → IsAreaWalk mem word used → length used ≤ most → (o : Option (List ℕ)) → chain mem word ≡ o → unwrap_or (option_map length o) 0 ≤ most
counted_within mem word most used walk within None is = omega arith
counted_within mem word most used walk within (Some ls) is =
    subst (λ (n : ℕ). n ≤ most) (sym (as_long mem word used ls walk (Links-chain_within mem 4096 word ls is).0)) within

used_within : (image : ImageData) (plan : PlanData) (most : ℕ) (m : Machine) (e : Event) → MeetsSafetyEquations image plan most m e → unwrap_or (used_area_count m) 0 ≤ most
used_within image plan most m e at = counted_within m.mem m.pcxi most at.used at.used_walk at.within_need (chain m.mem m.pcxi) refl

max_le : (a b n : ℕ) → a ≤ n → b ≤ n → max a b ≤ n
max_le a b n f g = omega arith

peak_from : (image : ImageData) (plan : PlanData) (most : ℕ) (m : Machine) → IsPlan plan
    → ((es : List Event) (e : Event) → AllFit plan m es → Fits plan (run m es) e → MeetsSafetyEquations image plan most (run m es) e)
    → (es : List Event) → AllFit plan m es → driven_peak m es ≤ most
peak_from image plan most m ok meets [] fit = let last = fitting ok m in used_within image plan most m last.0 (meets [] last.0 fit last.1)
peak_from image plan most m ok meets (x ∷ es) fit =
    max_le (unwrap_or (used_area_count m) 0) (driven_peak (step m x) es) most (used_within image plan most m x (meets [] x tt fit.0))
    (peak_from image plan most (step m x) ok (λ ys y f l. meets (x ∷ ys) y (fit.0, f) l) es fit.1)

pub peaks_are_needed : PeaksAreNeeded
peaks_are_needed image plan most m es ok safe starts fit = peak_from image plan most m ok (meets_after image plan most m safe starts) es fit

-- ---- run
-- what is read as a plan has the limits of plans
read_plan : (d : Data) (plan : PlanData) (o : Option PlanErr) → plan_refusal d ≡ o → option_map_or Err o (Ok (unchecked_plan_of d)) ≡ Ok plan → IsPlan plan
read_plan d plan None sound is = subst IsPlan (cc) (tells_plan d sound)
read_plan d plan (Some e) sound is = cc

pub plan_told : (bytes : List ℕ) (plan : PlanData) → GivesPlan bytes (Ok plan) → IsPlan plan
plan_told bytes plan h = read_plan h.0 plan (plan_refusal h.0) refl h.3

in_zeros : (image : ImageData) (plan : PlanData) (m : Machine) → IsZeroFilledStart image plan m → StartsInZeros image plan m
in_zeros image plan m h = record { starts = h.starts; d = h.d; a = h.a; psw = h.psw; ram = h.ram; rom = h.rom; words = h.words }

pub run_claims : RunClaimsHold
run_claims elf plan script call before says words status known =
    let means = (says.run elf plan script).done before words status known in
    let h = means.4 in
    let ok = plan_told h.files.plan_file.bytes h.plan h.files.plan_file.form in
    record {
      image = h.image;
      plan = h.plan;
      script = h.script;
      start = h.start;
      events = h.events;
      last = h.last;
      image_held = held h.files.elf_file;
      plan_held = held h.files.plan_file;
      script_held = held h.script_file;
      starts = h.starts;
      in_zeros = in_zeros h.image h.plan h.start h.in_zeros;
      scripted = h.events_are;
      fits = h.fits;
      last_is = h.last_is;
      prints =
          prints_text call means.1
          (codes "events " ++ (decimal (length h.events) ++ (codes " peak " ++ (decimal (driven_peak h.start h.events) ++ (codes " " ++ run_end_text h.last.end h.last.pc)))))
          means.3 h.prints;
      stays = files_stay call before means.0 means.2 h.stays;
      needed = λ most safe. peaks_are_needed h.image h.plan most h.start h.events ok safe h.starts h.fits;
    }

-- ---- dis
pub dis_claims : DisClaimsHold
dis_claims elf call before says words status known =
    let means = (says.dis elf).done before words status known in
    let h = means.4 in
    record {
      image = h.image;
      image_held = held h.elf_file;
      prints = prints_text call means.1 (listing_of h.image) means.3 h.prints;
      stays = files_stay call before means.0 means.2 h.stays;
    }
