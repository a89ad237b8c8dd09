-- How calls end.
use Rattle.std.proofs.Common.{◌≡◌, ◌<◌, ◌≤◌, ◌-◌, ◌^◌, inl, inr, ℕ, zero, suc, List, [], ◌∷◌, ◌++◌, length, slice_get, Option, Some, IsSomeAnd, refl, sym, ap, subst, ◌∙◌, arith}
use Rattle.std.specs.Prelude.{codes}
use Rattle.std.specs.Option.{option_map}
use Rattle.std.specs.Fmt.{decimal}
use Rattle.tcd_base.specs.Files.{FileMap}
use Rattle.tcd_base.specs.Sink.{SinkSeen, HasRoomFor, sink_with_appended}
use Rattle.tc_object.specs.Objects.{ObjectData}
use Rattle.tcd_forms.specs.Forms.{IsSource}
use Rattle.tcd_reading.specs.declared.status.Status.{Status}
use Rattle.tcd_reading.specs.declared.status.Status.TheVariants.{Done, Refused, BadInput, Fault, BadWords}
use Rattle.tcd_reading.specs.Endings.{PrintsWithStatus, whole, cut}
use Rattle.tcd_base.specs.Files.{FilesSeen}
use Rattle.tcd_driver.specs.BadInputLines.{bad_words_line, IsNoImage, IsNoPlan, IsNoCert, IsNoScript, IsNoLayout, IsNoObject, AreNoCells, AreNoTasks, SourceBreaksRule}
use Rattle.tcd_driver.specs.Headlines.{HoldsFile, IsBadFile, too_long, faulty}
use Rattle.tcd_driver.specs.Headlines.Builds.{AreObjectBytes, IsSourceText}
use Rattle.tcd_driver.specs.Headlines.Asks.{InputRequirement, is_elf, is_plan, is_cert, is_layout, is_object, is_source, is_script, are_cells, are_tasks, are_linked, are_linked_sources, is_cert_per_task, IsGoodInput, IsBadInputWithLine, IsInputPresent, AreInputsPresent, IsFirstBadInput, BadInputOf}
use Rattle.tcd_driver.specs.Tool.{ToolCall, CommandSays, CallCannotFail, MayPrintText, of_bad_words, when_done, when_refused, when_bad, IsDecidedStatus}
use Rattle.tcd_laws.specs.Claims.Endings.{HeldSource, IsMet, IsUnfit, IsUnmet, IsThere, NothingFails, StatusFollows, CommandEnds, CommandEndsHold, SaysBadWords, BadWordsAreSaid}
use Rattle.tcd_laws.proofs.Claims.{files_stay, held, held_each}
use Rattle.tcd_laws.proofs.Claims.Making.{all_assembled}

-- ---- requirements
held_source : (m : FileMap) (name : List ℕ) (object : ObjectData) → HoldsFile m name (2 ^ 24) (λ bytes. IsSource bytes object) → HeldSource m name
held_source m name object h = (object, (h.bytes, h.held, h.short, (h.form.keeps, h.form.is)))

met : (m : FileMap) (ask : InputRequirement) → IsGoodInput m ask → IsMet m ask
met m (is_elf name) h = (h.0, held h.1)
met m (is_plan name) h = (h.0, held h.1)
met m (is_cert name) h = (h.0, held h.1)
met m (is_layout name) h = (h.0, held h.1)
met m (is_object place name) h = (h.0, held h.1)
met m (is_source place name) h = held_source m name h.0 h.1
met m (is_script plan_name name) h = (h.0, h.1, held h.2, held h.3)
met m (are_cells plan_name name) h = (h.0, h.1, held h.2, held h.3)
met m (are_tasks plan_name name) h = (h.0, h.1, held h.2, held h.3)
met m (are_linked layout_name names) h = (h.0, h.1, h.2, held h.3.layout_file, held_each m (2 ^ 24) AreObjectBytes names h.1 h.3.object_files, h.4)
met m (are_linked_sources layout_name names) h = (h.0, h.1, h.2, held h.3.0, all_assembled m names h.1 (held_each m (2 ^ 24) IsSourceText names h.1 h.3.1), h.4)
met m (is_cert_per_task plan_name tasks_name names) h = (h.0, h.1, held h.2, held h.3, h.4)

unfit : (m : FileMap) (name : List ℕ) (most : ℕ) (long : List ℕ) (HasFault : List ℕ → List ℕ → Type 0) (line : List ℕ) → IsBadFile m name most (long ++ 10 ∷ []) HasFault line → IsUnfit m name most long line (λ bytes. HasFault bytes line)
unfit m name most long HasFault line (too_long bytes held more is) = (bytes, held, inl (more, is))
unfit m name most long HasFault line (faulty f) = (f.bytes, f.held, inr (f.short, f.form))

unmet : (m : FileMap) (ask : InputRequirement) (line : List ℕ) → IsBadInputWithLine m ask line → IsUnmet m ask line
unmet m (is_elf name) line h = unfit m name (2 ^ 24) (codes "bad elf 0") IsNoImage line h
unmet m (is_plan name) line h = unfit m name (2 ^ 24) (codes "bad plan 0") IsNoPlan line h
unmet m (is_cert name) line h = unfit m name (2 ^ 30) (codes "bad cert 0") IsNoCert line h
unmet m (is_layout name) line h = unfit m name (2 ^ 24) (codes "bad layout 0") IsNoLayout line h
unmet m (is_object place name) line h = unfit m name (2 ^ 24) (codes "bad object 0 at " ++ decimal place) (IsNoObject place) line h
unmet m (is_source place name) line h = unfit m name (2 ^ 24) (codes "bad source 0 at " ++ decimal place) (SourceBreaksRule place) line h
unmet m (is_script plan_name name) line h = (h.0, held h.1, unfit m name (2 ^ 24) (codes "bad script 0") (IsNoScript h.0) line h.2)
unmet m (are_cells plan_name name) line h = (h.0, held h.1, unfit m name (2 ^ 24) (codes "bad cells 0") (AreNoCells h.0) line h.2)
unmet m (are_tasks plan_name name) line h = (h.0, held h.1, unfit m name (2 ^ 24) (codes "bad tasks 0") (AreNoTasks h.0) line h.2)
unmet m (are_linked layout_name names) line h = (h.0, h.1, h.2, held h.3.layout_file, held_each m (2 ^ 24) AreObjectBytes names h.1 h.3.object_files, h.4, h.5)
unmet m (are_linked_sources layout_name names) line h = (h.0, h.1, h.2, held h.3.0, all_assembled m names h.1 (held_each m (2 ^ 24) IsSourceText names h.1 h.3.1), h.4, h.5)
unmet m (is_cert_per_task plan_name tasks_name names) line h = (h.0, h.1, held h.2, held h.3, h.4, h.5)

-- the requirements before the one that isn't met
earlier : (m : FileMap) (ask : InputRequirement) (asks : List InputRequirement) (place : ℕ) → IsMet m ask → ((i : ℕ) (other : InputRequirement) → i < place → slice_get asks i ≡ Some other → IsMet m other)
    → (i : ℕ) (other : InputRequirement) → i < suc place → slice_get (ask ∷ asks) i ≡ Some other → IsMet m other
earlier m ask asks place good all zero other lt at = subst (IsMet m) (cc) good
earlier m ask asks place good all (suc i) other lt at = all i other (omega arith) at

found : (m : FileMap) (asks : List InputRequirement) (line : List ℕ) → IsFirstBadInput m asks line
    → (place : ℕ) × (ask : InputRequirement) × (slice_get asks place ≡ Some ask) × IsUnmet m ask line × ((i : ℕ) (other : InputRequirement) → i < place → slice_get asks i ≡ Some other → IsMet m other)
found m [] line h = absurd h
found m (ask ∷ asks) line (inl bad) = (0, ask, refl, unmet m ask line bad, λ i other lt at. absurd (omega arith))
found m (ask ∷ asks) line (inr good) =
    let rest = found m asks line good.1 in
    (suc rest.0, rest.1, rest.2, rest.3, earlier m ask asks rest.0 (met m ask good.0) rest.4)

-- ---- calls in which nothing can fail
is_there : (m : FileMap) (ask : InputRequirement) → IsThere m ask → IsInputPresent m ask
is_there m (are_linked layout names) h = tt
is_there m (are_linked_sources layout names) h = tt
is_there m (is_cert_per_task plan tasks names) h = tt
is_there m _ h = h

are_there : (m : FileMap) (asks : List InputRequirement) → ((k : ℕ) (ask : InputRequirement) → slice_get asks k ≡ Some ask → IsThere m ask) → AreInputsPresent m asks
are_there m [] all = tt
are_there m (ask ∷ asks) all = (is_there m ask (all 0 ask refl), are_there m asks (λ k a at. all (suc k) a at))

cannot_fail : (call : ToolCall) (before : FileMap) (asks : List InputRequirement) (D R B : FileMap → List ℕ → Type 0) → (call.files).held ≡ Some before → NothingFails call before asks D R B → CallCannotFail call before asks (MayPrintText D R B)
cannot_fail call before asks D R B known h = record {
  held = known;
  steady = h.steady;
  there = are_there before asks h.there;
  room = h.room;
  room_is = h.room_is;
  fits = fits;
} where
  fits : (text : List ℕ) → MayPrintText D R B text → length text ≤ h.room
  fits text (of_bad_words is) = subst (λ (t : List ℕ). length t ≤ h.room) (sym is) h.bad_words
  fits text (when_done after is) = h.done after text is
  fits text (when_refused after is) = h.refused after text is
  fits text (when_bad after is) = h.bad_input after text is

done_refused : Done ≡ Refused → ⊥
done_refused e = cc

done_bad : Done ≡ BadInput → ⊥
done_bad e = cc

refused_bad : Refused ≡ BadInput → ⊥
refused_bad e = cc

follows : (status : Status) (D R B : FileMap → List ℕ → Type 0) → IsDecidedStatus status D R B → StatusFollows status D R B
follows status D R B h = record {
  one = h.one;
  done = λ after text d. h.done.1 (after, text, d);
  refused = λ after text r. h.refused.1 (after, text, r);
  bad_input = λ after text b. h.bad_input.1 (after, text, b);
  if_done = h.done.0;
  if_refused = h.refused.0;
  if_bad_input = h.bad_input.0;
  not_refused = λ a b s t d r. done_refused (sym (h.done.1 (a, s, d)) ∙ h.refused.1 (b, t, r));
  not_done = λ a b s t d i. done_bad (sym (h.done.1 (a, s, d)) ∙ h.bad_input.1 (b, t, i));
  not_both = λ a b s t r i. refused_bad (sym (h.refused.1 (a, s, r)) ∙ h.bad_input.1 (b, t, i));
}

-- ---- each command
ends : (call : ToolCall) (before : FileMap) {words : List (List ℕ)} {asks : List InputRequirement} {D R : FileMap → FileMap → List ℕ → Type 0} → (call.files).held ≡ Some before → CommandSays call words asks D R → call.words ≡ words
    → CommandEnds call before asks (D before) (R before)
ends call before {words} {asks} {D} {R} known says is = record {
  bad_input = λ status.
      let means = says.bad_input before is status known in
      let first = found before asks means.1 means.4.first in
      record {
        place = first.0;
        ask = first.1;
        line = means.1;
        one = first.2;
        unmet = first.3;
        earlier = first.4;
        prints = means.3;
        stays = files_stay call before means.0 means.2 means.4.stays;
      };
  decided = λ sure some_memory good_words.
      follows call.status (D before) (R before) (BadInputOf asks before)
      (says.decided before is (cannot_fail call before asks (D before) (R before) (BadInputOf asks before) known sure) some_memory good_words);
}

pub command_ends : CommandEndsHold
command_ends call before says known = record {
  check = λ elf plan cert. ends call before known (says.check elf plan cert);
  cert = λ elf plan cert. ends call before known (says.cert elf plan cert);
  ship = λ plan layout elf cert sources. ends call before known (says.ship plan layout elf cert sources);
  run = λ elf plan script. ends call before known (says.run elf plan script);
  report = λ elf plan cert. ends call before known (says.report elf plan cert);
  cfg = λ elf plan. ends call before known (says.cfg elf plan);
  dis = λ elf. ends call before known (says.dis elf);
  gen = λ word. ends call before known (says.gen word);
  asm = λ source object. ends call before known (says.asm source object);
  link = λ layout elf objects. ends call before known (says.link layout elf objects);
  boot = λ elf plan cert at. ends call before known (says.boot elf plan cert at);
  bootgen = λ plan entry at source. ends call before known (says.bootgen plan entry at source);
  cells = λ elf plan list cert. ends call before known (says.cells elf plan list cert);
  cellcert = λ elf plan list cert. ends call before known (says.cellcert elf plan list cert);
  tasks = λ elf plan list certs. ends call before known (says.tasks elf plan list certs);
  taskcert = λ elf plan list certs. ends call before known (says.taskcert elf plan list certs);
}

-- ---- arguments that are no command
words_fault : BadWords ≡ Fault → ⊥
words_fault e = cc

abbrev line : List ℕ
line = codes "bad words" ++ 10 ∷ []

has_room : (sink : SinkSeen) (room : ℕ) → sink.room ≡ Some room → 10 ≤ room → HasRoomFor sink line
has_room sink room at enough = subst (λ (o : Option ℕ). IsSomeAnd o (λ n. length line ≤ n)) (sym at) enough

said : (files files' : FilesSeen) (sink sink' : SinkSeen) (status : Status) → files' ≡ files → sink.faults ≤ sink'.faults → PrintsWithStatus BadWords line sink sink' status → SaysBadWords files files' sink sink' status
said files files' sink sink' status stay later (whole is p) = record {
  files_stay = stay;
  one = inl is;
  printed = λ text other at. p.written ∙ ap (λ (o : Option (List ℕ)). sink_with_appended o line) at;
  cut = λ text fault at. absurd (words_fault (sym is ∙ fault));
  counted = λ fault. absurd (words_fault (sym is ∙ fault));
  later = later;
  sure = λ room at enough.
      let has = has_room sink room at enough in
      (is, p.faults has, p.room has ∙ ap (option_map (λ n. n - 10)) at);
}
said files files' sink sink' status stay later (cut is part counted full) = record {
  files_stay = stay;
  one = inr is;
  printed = λ text words at. absurd (words_fault (sym words ∙ is));
  cut = λ text fault at. (part.0, part.1, part.2, part.3 ∙ ap (λ (o : Option (List ℕ)). sink_with_appended o part.0) at);
  counted = λ fault. counted;
  later = later;
  sure = λ room at enough. absurd (full (has_room sink room at enough));
}

pub bad_words_are_said : BadWordsAreSaid
unfolding bad_words_line
bad_words_are_said files files' sink sink' status h = said files files' sink sink' status h.files_stay h.later h.prints
