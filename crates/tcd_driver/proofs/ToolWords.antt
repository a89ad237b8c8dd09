-- The commands that arguments ask for, and how a call of the tool with these arguments ends.
use Rattle.std.proofs.Common.{◌≡◌, ◌≢◌, ◌≤◌, ◌+◌, ◌^◌, ◌&&◌, ℕ, Bool, true, false, not, nat_le, if◌then◌else◌, List, [], ◌∷◌, ◌++◌, length, Option, Some, None, inl, inr, refl, sym, ap, subst, ◌∙◌, arith}
use Rattle.std.specs.Prelude.{codes, IfSome, IfNone, IsSomeAnd}
use Rattle.std.specs.Bool.{then_some}
use Rattle.std.specs.Option.{option_or, option_map, option_and_then}
use Rattle.std.specs.Str.{bytes_eq}
use Rattle.std.proofs.lemmas.Bool.{leb-true, and_parts, not-true}
use Rattle.std.proofs.lemmas.Slice.Eq.{bytes_eq-Decides}
use Rattle.tcd_text.specs.HexNumbers.{hex_number_of}
use Rattle.tc_script.specs.Numbers.{script_number}
use Rattle.tcd_base.specs.Files.{FileMap, FilesSeen}
use Rattle.tcd_base.specs.Sink.{SinkSeen, HasRoomFor, sink_with_appended}
use Rattle.tcd_reading.specs.Reports.{Report, ReportFile, IsReportStatus, with_report_files}
use Rattle.tcd_reading.specs.Inputs.{Reading, ReadingSays, HoldsNeededInputs, HasAllInputs}
use Rattle.tcd_reading.specs.Endings.{PrintsWithStatus, whole, cut, HasEnded, Ends}
use Rattle.tcd_reading.specs.Endings as ending
use Rattle.tcd_reading.specs.declared.status.Status.{Status}
use Rattle.tcd_reading.specs.declared.status.Status.TheVariants.{Done, Refused, BadInput, Fault, NoMemory, BadWords}
use Rattle.tcd_driver.specs.BadInputLines.{bad_words_line}
use Rattle.tcd_driver.specs.Commands as asked
use Rattle.tcd_driver.specs.Commands.{Command, command, reading_of, is_link, is_ship, is_tasks, is_taskcert}
use Rattle.tcd_driver.specs.DistinctNames.{are_distinct_names}
use Rattle.tcd_driver.specs.Tool.{ToolCall, ToolCallMeans, EndsWithBadWords, CallCannotFail, CallCanEnd, IsDecidedStatus, MayPrintText, of_bad_words, when_done, when_refused, when_bad, CommandSays, ToolSays, NeverRefuses}
use Rattle.tcd_driver.specs.Headlines.Asks.{InputRequirement, BadInputOf}
use Rattle.tcd_driver.proofs.Headlines.{Means, is_bad, is_done, is_refused}
use Rattle.tcd_driver.proofs.Headlines.Asks.{never_bad}
use Rattle.tcd_driver.proofs.ToolEnds.{Answers, check_ends, cert_ends, cfg_ends, report_ends, run_ends, dis_ends, asm_ends, link_ends, ship_ends, boot_ends, bootgen_ends, cells_ends, cellcert_ends, gen_ends, tasks_end, taskcert_ends}

-- ---- a call that ends with the status of a report
-- with this status a call ends by a report, and not by a failure or by running out of memory
record IsTold (status : Status) : Type 0 where
  no_fault : status ≢ Fault
  some_memory : status ≢ NoMemory
  good_words : status ≢ BadWords

done_told : IsTold Done
done_told = record { no_fault = λ e. cc; some_memory = λ e. cc; good_words = λ e. cc }

refused_told : IsTold Refused
refused_told = record { no_fault = λ e. cc; some_memory = λ e. cc; good_words = λ e. cc }

bad_told : IsTold BadInput
bad_told = record { no_fault = λ e. cc; some_memory = λ e. cc; good_words = λ e. cc }

-- the files after a report's files were written, and what holds for them
abbrev Leaves : FileMap → Report → (FileMap → FileMap → List ℕ → Type 0) → Type 0
Leaves m r Holds = (after : FileMap) × (with_report_files (Some m) r.writes ≡ Some after) × Holds m after r.text

module _ (reading : Reading) (files files' : FilesSeen) (sink sink' : SinkSeen) (status : Status) (is_told : IsTold status) (Holds : Status → FileMap → FileMap → List ℕ → Type 0) (m : FileMap) (held : files.held ≡ Some m)
    (leaves : (r : Report) → ReadingSays reading (Some m) r → Leaves m r (Holds r.status)) where
  -- the files after a call, if they reveal their contents
  left : HasEnded reading files files' sink sink' status →
      (after : FileMap) × (printed : List ℕ) × (files'.held ≡ Some after) × ((text : List ℕ) → sink.written ≡ Some text → sink'.written ≡ Some (text ++ printed)) × Holds status m after printed
  left (ending.reported r said (ending.printed is (whole e p))) =
      let l = leaves r (subst (λ (o : Option FileMap). ReadingSays reading o r) held said) in
      (l.0, r.text, is ∙ ap (λ (o : Option FileMap). with_report_files o r.writes) held ∙ l.1, (λ text written. p.written ∙ ap (λ (o : Option (List ℕ)). sink_with_appended o r.text) written), subst (λ (s : Status). Holds s m l.0 r.text) (sym e) l.2)
  left (ending.reported r said (ending.printed is (cut e front counted full))) = absurd (is_told.no_fault e)
  left (ending.reported r said (ending.unwritten e quiet stopped counted unsteady)) = absurd (is_told.no_fault e)
  left (ending.reported r said (ending.no_memory e quiet stopped)) = absurd (is_told.some_memory e)
  left (ending.unread e stays quiet counted unsure) = absurd (is_told.no_fault e)
  left (ending.no_memory e stays quiet) = absurd (is_told.some_memory e)

-- ---- what a status means
abbrev Meant : List InputRequirement → (FileMap → FileMap → List ℕ → Type 0) → (FileMap → FileMap → List ℕ → Type 0) → Status → FileMap → FileMap → List ℕ → Type 0
Meant asks D R Done = D
Meant asks D R Refused = R
Meant asks D R BadInput = BadInputOf asks
Meant asks D R _ = NeverRefuses

leaves_as : (m : FileMap) (asks : List InputRequirement) (D R : FileMap → FileMap → List ℕ → Type 0) (r : Report) → Means m asks D R r → Leaves m r (Meant asks D R r.status)
leaves_as m asks D R r (is_done after e w h) = (after, w, subst (λ (s : Status). Meant asks D R s m after r.text) (sym e) h)
leaves_as m asks D R r (is_refused e w h) = (m, ap (λ (ws : List ReportFile). with_report_files (Some m) ws) w, subst (λ (s : Status). Meant asks D R s m m r.text) (sym e) h)
leaves_as m asks D R r (is_bad e w h) = (m, ap (λ (ws : List ReportFile). with_report_files (Some m) ws) w, subst (λ (s : Status). Meant asks D R s m m r.text) (sym e) (record { first = h; stays = refl }))

bad_words_is : bad_words_line ≡ codes "bad words" ++ 10 ∷ []
unfolding bad_words_line
bad_words_is = refl

-- arguments that are no command don't end with such a status
by_prints : (text : List ℕ) (sink sink' : SinkSeen) (status : Status) → IsTold status → PrintsWithStatus BadWords text sink sink' status → ⊥
by_prints text sink sink' status is_told (whole e p) = is_told.good_words e
by_prints text sink sink' status is_told (cut e front counted full) = is_told.no_fault e

pub bad_end : (files files' : FilesSeen) (sink sink' : SinkSeen) (status : Status) (line : List ℕ) → files' ≡ files → line ≡ bad_words_line → PrintsWithStatus BadWords line sink sink' status → sink.faults ≤ sink'.faults → EndsWithBadWords files files' sink sink' status
bad_end files files' sink sink' status line same is prints later = record { files_stay = same; prints = subst (λ (t : List ℕ). PrintsWithStatus BadWords t sink sink' status) is prints; later = later }

-- ---- words
-- a command that arguments ask for if a test holds
or_none : (b : Bool) (c : Command) → option_or (if b then Some c else None) None ≡ (if b then Some c else None)
or_none true c = refl
or_none false c = refl

asked_if : (b : Bool) (c : Command) (P : Command → Type 0) (Q : Type 0) → (Q → ⊥) → IfSome (if b then Some c else None) P → IfNone (if b then Some c else None) Q → (b ≡ true) × P c
asked_if true c P Q never some none = (refl, some)
asked_if false c P Q never some none = absurd (never none)

link_asks : (layout image : List ℕ) (objects : List (List ℕ)) → command (codes "link" ∷ layout ∷ image ∷ objects)
    ≡ (if is_link (codes "link") objects then Some (asked.link (record { layout = layout; image = image; objects = objects })) else None)
link_asks layout image [] = or_none (is_link (codes "link") []) (asked.link (record { layout = layout; image = image; objects = [] }))
link_asks layout image (a ∷ []) = or_none (is_link (codes "link") (a ∷ [])) (asked.link (record { layout = layout; image = image; objects = a ∷ [] }))
link_asks layout image (a ∷ b ∷ []) = or_none (is_link (codes "link") (a ∷ b ∷ [])) (asked.link (record { layout = layout; image = image; objects = a ∷ b ∷ [] }))
link_asks layout image (a ∷ b ∷ c ∷ rest) = or_none (is_link (codes "link") (a ∷ b ∷ c ∷ rest)) (asked.link (record { layout = layout; image = image; objects = a ∷ b ∷ c ∷ rest }))

ship_asks : (plan layout elf cert : List ℕ) (sources : List (List ℕ)) → command (codes "ship" ∷ plan ∷ layout ∷ elf ∷ cert ∷ sources)
    ≡ (if is_ship (codes "ship") elf cert sources then Some (asked.ship (record { plan = plan; layout = layout; elf = elf; cert = cert; sources = sources })) else None)
ship_asks plan layout elf cert [] = or_none (is_ship (codes "ship") elf cert []) (asked.ship (record { plan = plan; layout = layout; elf = elf; cert = cert; sources = [] }))
ship_asks plan layout elf cert (a ∷ rest) = or_none (is_ship (codes "ship") elf cert (a ∷ rest)) (asked.ship (record { plan = plan; layout = layout; elf = elf; cert = cert; sources = a ∷ rest }))

tasks_asks : (elf plan list : List ℕ) (certs : List (List ℕ)) → command (codes "tasks" ∷ elf ∷ plan ∷ list ∷ certs)
    ≡ (if is_tasks (codes "tasks") certs then Some (asked.tasks (record { elf = elf; plan = plan; tasks = list; certs = certs })) else None)
tasks_asks elf plan list [] = or_none (is_tasks (codes "tasks") []) (asked.tasks (record { elf = elf; plan = plan; tasks = list; certs = [] }))
tasks_asks elf plan list (a ∷ []) = or_none (is_tasks (codes "tasks") (a ∷ [])) (asked.tasks (record { elf = elf; plan = plan; tasks = list; certs = a ∷ [] }))
tasks_asks elf plan list (a ∷ b ∷ rest) = or_none (is_tasks (codes "tasks") (a ∷ b ∷ rest)) (asked.tasks (record { elf = elf; plan = plan; tasks = list; certs = a ∷ b ∷ rest }))

taskcert_asks : (elf plan list : List ℕ) (certs : List (List ℕ)) → command (codes "taskcert" ∷ elf ∷ plan ∷ list ∷ certs)
    ≡ (if is_taskcert (codes "taskcert") certs then Some (asked.taskcert (record { elf = elf; plan = plan; tasks = list; certs = certs })) else None)
taskcert_asks elf plan list [] = or_none (is_taskcert (codes "taskcert") []) (asked.taskcert (record { elf = elf; plan = plan; tasks = list; certs = [] }))
taskcert_asks elf plan list (a ∷ []) = or_none (is_taskcert (codes "taskcert") (a ∷ [])) (asked.taskcert (record { elf = elf; plan = plan; tasks = list; certs = a ∷ [] }))
taskcert_asks elf plan list (a ∷ b ∷ rest) = or_none (is_taskcert (codes "taskcert") (a ∷ b ∷ rest)) (asked.taskcert (record { elf = elf; plan = plan; tasks = list; certs = a ∷ b ∷ rest }))

-- the two names that `ship` writes differ
names_differ : (elf cert : List ℕ) (sources : List (List ℕ)) → is_ship (codes "ship") elf cert sources ≡ true → elf ≢ cert
names_differ elf cert sources e same =
    let some = and_parts (bytes_eq (codes "ship") (codes "ship") && not (bytes_eq elf cert) && nat_le 1 (length sources)) (nat_le (length sources) 65530) e in
    let two = and_parts (bytes_eq (codes "ship") (codes "ship") && not (bytes_eq elf cert)) (nat_le 1 (length sources)) some.0 in
    let apart = and_parts (bytes_eq (codes "ship") (codes "ship")) (not (bytes_eq elf cert)) two.0 in
    let f : true ≡ false = sym ((bytes_eq-Decides elf cert).1 same) ∙ not-true (bytes_eq elf cert) apart.1 in
    cc

-- the names that `taskcert` writes differ
all_differ : (certs : List (List ℕ)) → is_taskcert (codes "taskcert") certs ≡ true → are_distinct_names certs ≡ true
all_differ certs e = (and_parts (bytes_eq (codes "taskcert") (codes "taskcert") && nat_le 1 (length certs) && nat_le (length certs) 65531) (are_distinct_names certs) e).1

module _ (P : Command → Type 0) (Q : Type 0) (never : Q → ⊥) where
  -- an argument for an address
  boot_asked : (elf plan cert : List ℕ) (o : Option ℕ) → IfSome (option_map (λ x. asked.boot (record { elf = elf; plan = plan; cert = cert; at = x })) o) P →
      IfNone (option_map (λ x. asked.boot (record { elf = elf; plan = plan; cert = cert; at = x })) o) Q → (at : ℕ) × (o ≡ Some at) × P (asked.boot (record { elf = elf; plan = plan; cert = cert; at = at }))
  boot_asked elf plan cert None some none = absurd (never none)
  boot_asked elf plan cert (Some at) some none = (at, refl, some)

  -- a test, and the command if it holds
  then_asked : (b : Bool) (c : Command) → IfSome (then_some b c) P → IfNone (then_some b c) Q → (b ≡ true) × P c
  then_asked true c some none = (refl, some)
  then_asked false c some none = absurd (never none)

  at_asked : (plan source : List ℕ) (entry : ℕ) (o : Option ℕ) → IfSome (option_and_then (λ x. then_some (nat_le x 0xffffff20) (asked.bootgen (record { plan = plan; entry = entry; at = x; source = source }))) o) P →
      IfNone (option_and_then (λ x. then_some (nat_le x 0xffffff20) (asked.bootgen (record { plan = plan; entry = entry; at = x; source = source }))) o) Q →
      (at : ℕ) × (o ≡ Some at) × (at + 224 ≤ 2 ^ 32) × P (asked.bootgen (record { plan = plan; entry = entry; at = at; source = source }))
  at_asked plan source entry None some none = absurd (never none)
  at_asked plan source entry (Some at) some none =
      let t = then_asked (nat_le at 0xffffff20) (asked.bootgen (record { plan = plan; entry = entry; at = at; source = source })) some none in
      let few : at ≤ 0xffffff20 = leb-true at 0xffffff20 t.0 in
      (at, refl, omega (arith, few), t.1)

  bootgen_asked : (plan source : List ℕ) (o at_word : Option ℕ) →
      IfSome (option_and_then (λ e. option_and_then (λ x. then_some (nat_le x 0xffffff20) (asked.bootgen (record { plan = plan; entry = e; at = x; source = source }))) at_word) o) P →
      IfNone (option_and_then (λ e. option_and_then (λ x. then_some (nat_le x 0xffffff20) (asked.bootgen (record { plan = plan; entry = e; at = x; source = source }))) at_word) o) Q →
      (entry at : ℕ) × (o ≡ Some entry) × (at_word ≡ Some at) × (at + 224 ≤ 2 ^ 32) × P (asked.bootgen (record { plan = plan; entry = entry; at = at; source = source }))
  bootgen_asked plan source None at_word some none = absurd (never none)
  bootgen_asked plan source (Some entry) at_word some none =
      let a = at_asked plan source entry at_word some none in
      (entry, a.0, refl, a.1, a.2, a.3)

  -- an argument for a number of functions
  some_asked : (b : Bool) (n : ℕ) → IfSome (option_map asked.generate (then_some b n)) P → IfNone (option_map asked.generate (then_some b n)) Q → (b ≡ true) × P (asked.generate n)
  some_asked true n some none = (refl, some)
  some_asked false n some none = absurd (never none)

  gen_asked : (o : Option ℕ) → IfSome (option_map asked.generate (option_and_then (λ n. then_some (nat_le 1 n && nat_le n 500) n) o)) P →
      IfNone (option_map asked.generate (option_and_then (λ n. then_some (nat_le 1 n && nat_le n 500) n) o)) Q → (n : ℕ) × (o ≡ Some n) × (1 ≤ n) × (n ≤ 500) × P (asked.generate n)
  gen_asked None some none = absurd (never none)
  gen_asked (Some n) some none =
      let t = some_asked (nat_le 1 n && nat_le n 500) n some none in
      let parts = and_parts (nat_le 1 n) (nat_le n 500) t.0 in
      (n, refl, leb-true 1 n parts.0, leb-true n 500 parts.1, t.1)

-- ---- a call
module _ (call : ToolCall) where
  -- the call ends as this command says
  abbrev Ended : Command → Type 0
  Ended c = Ends (reading_of c) call.files call.files_after call.sink call.sink_after call.status

  abbrev BadEnd : Type 0
  BadEnd = EndsWithBadWords call.files call.files_after call.sink call.sink_after call.status

  module _ (some : IfSome (command call.words) Ended) (none : IfNone (command call.words) BadEnd) where
    no_bad_end : (status : Status) → IsTold status → call.status ≡ status → BadEnd → ⊥
    no_bad_end status is_told is bad = by_prints bad_words_line call.sink call.sink_after status is_told (subst (λ (s : Status). PrintsWithStatus BadWords bad_words_line call.sink call.sink_after s) is bad.prints)

    some_by : (words : List (List ℕ)) → call.words ≡ words → IfSome (command words) Ended
    some_by words is = subst (λ (ws : List (List ℕ)). IfSome (command ws) Ended) is some

    none_by : (words : List (List ℕ)) → call.words ≡ words → IfNone (command words) BadEnd
    none_by words is = subst (λ (ws : List (List ℕ)). IfNone (command ws) BadEnd) is none

    -- the command that arguments ask for, and how the call ended as it
    record Found (asks : List InputRequirement) (IfDone IfRefused : FileMap → FileMap → List ℕ → Type 0) : Type 0 where
      c : Command
      answers : Answers c asks IfDone IfRefused
      ended : Ended c

    module _ (words : List (List ℕ)) (asks : List InputRequirement) (IfDone IfRefused : FileMap → FileMap → List ℕ → Type 0) (found : call.words ≡ words → (BadEnd → ⊥) → Found asks IfDone IfRefused) where
      means : (status : Status) → IsTold status → ToolCallMeans call words status (Meant asks IfDone IfRefused status)
      means status is_told m are is held =
          let f = found are (no_bad_end status is_told is) in
          left (reading_of f.c) call.files call.files_after call.sink call.sink_after status is_told (Meant asks IfDone IfRefused) m held
          (λ r said. leaves_as m asks IfDone IfRefused r (((f.answers).follows m).means r said))
          (subst (λ (s : Status). HasEnded (reading_of f.c) call.files call.files_after call.sink call.sink_after s) is (f.ended).ended)

      module _ (m : FileMap) (are : call.words ≡ words) (sure : CallCannotFail call m asks (MayPrintText (IfDone m) (IfRefused m) (BadInputOf asks m))) (some_memory : call.status ≢ NoMemory) (good_words : call.status ≢ BadWords) where
        has_room : (text : List ℕ) → MayPrintText (IfDone m) (IfRefused m) (BadInputOf asks m) text → HasRoomFor call.sink text
        has_room text may = subst (λ (o : Option ℕ). IsSomeAnd o (λ n. length text ≤ n)) (sym sure.room_is) (sure.fits text may)

        no_end : PrintsWithStatus BadWords bad_words_line call.sink call.sink_after call.status → ⊥
        no_end (whole e p) = good_words e
        no_end (cut e front counted full) = full (has_room bad_words_line (of_bad_words bad_words_is))

        here : Found asks IfDone IfRefused
        here = found are (λ b. no_end b.prints)

        held_there : (r : Report) → ReadingSays (reading_of here.c) (call.files).held r → ReadingSays (reading_of here.c) (Some m) r
        held_there r said = subst (λ (o : Option FileMap). ReadingSays (reading_of here.c) o r) sure.held said

        may_print : (r : Report) → Means m asks IfDone IfRefused r → MayPrintText (IfDone m) (IfRefused m) (BadInputOf asks m) r.text
        may_print r (is_done after e w h) = when_done after h
        may_print r (is_refused e w h) = when_refused m h
        may_print r (is_bad e w h) = when_bad m (record { first = h; stays = refl })

        asks_are : HasAllInputs (reading_of here.c) call.files
        asks_are = record { steady = sure.steady; hold = subst (λ (o : Option FileMap). HoldsNeededInputs (reading_of here.c) o) (sym sure.held) (((here.answers).follows m).asked sure.there) }

        by_ended : HasEnded (reading_of here.c) call.files call.files_after call.sink call.sink_after call.status → IsReportStatus call.status
        by_ended (ending.reported r said h) =
            elim ((here.ended).complete asks_are (λ q says. has_room q.text (may_print q (((here.answers).follows m).means q (held_there q says)))) r said) [
              | inl e ↦ subst IsReportStatus (sym e) ((here.ended).statuses r said)
              | inr e ↦ absurd (some_memory e)
            ]
        by_ended (ending.unread e held quiet counted unsure) = absurd (unsure asks_are)
        by_ended (ending.no_memory e held quiet) = absurd (some_memory e)

        -- what an end with this status means
        can : (status : Status) → IsTold status → call.status ≡ status → CallCanEnd (Meant asks IfDone IfRefused status m)
        can status is_told is = let e = means status is_told m are is sure.held in (e.0, e.1, e.4)

        end_is_done : CallCanEnd (IfDone m) → IsReportStatus call.status → call.status ≡ Done
        end_is_done d (inl e) = e
        end_is_done d (inr (inl e)) = let k = can Refused refused_told e in absurd ((here.answers).apart m d.0 k.0 d.1 k.1 d.2 k.2)
        end_is_done d (inr (inr e)) = let b = can BadInput bad_told e in absurd (never_bad m asks b.1 ((here.answers).good m d.0 d.1 (inl d.2)) (b.2).first)

        end_is_refused : CallCanEnd (IfRefused m) → IsReportStatus call.status → call.status ≡ Refused
        end_is_refused k (inl e) = let d = can Done done_told e in absurd ((here.answers).apart m d.0 k.0 d.1 k.1 d.2 k.2)
        end_is_refused k (inr (inl e)) = e
        end_is_refused k (inr (inr e)) = let b = can BadInput bad_told e in absurd (never_bad m asks b.1 ((here.answers).good m k.0 k.1 (inr k.2)) (b.2).first)

        end_is_bad : CallCanEnd (BadInputOf asks m) → IsReportStatus call.status → call.status ≡ BadInput
        end_is_bad b (inl e) = let d = can Done done_told e in absurd (never_bad m asks b.1 ((here.answers).good m d.0 d.1 (inl d.2)) (b.2).first)
        end_is_bad b (inr (inl e)) = let k = can Refused refused_told e in absurd (never_bad m asks b.1 ((here.answers).good m k.0 k.1 (inr k.2)) (b.2).first)
        end_is_bad b (inr (inr e)) = e

        one_end : IsDecidedStatus call.status (IfDone m) (IfRefused m) (BadInputOf asks m)
        one_end =
            let one = by_ended (here.ended).ended in
            record {
              one = one;
              done = (λ e. can Done done_told e, λ d. end_is_done d one);
              refused = (λ e. can Refused refused_told e, λ k. end_is_refused k one);
              bad_input = (λ e. can BadInput bad_told e, λ b. end_is_bad b one);
            }

      says : CommandSays call words asks IfDone IfRefused
      says = record {
        done = means Done done_told;
        refused = means Refused refused_told;
        bad_input = means BadInput bad_told;
        decided = one_end;
      }

    -- arguments that are this command for all names
    fixed : (words : List (List ℕ)) (c : Command) (asks : List InputRequirement) (IfDone IfRefused : FileMap → FileMap → List ℕ → Type 0) → Answers c asks IfDone IfRefused → (IfSome (command words) Ended → Ended c) → CommandSays call words asks IfDone IfRefused
    fixed words c asks IfDone IfRefused answers is = says words asks IfDone IfRefused (λ are no_bad. record { c = c; answers = answers; ended = is (some_by words are) })

    -- arguments that are a command if a test holds
    tested : (words : List (List ℕ)) (c : Command) (b : Bool) (asks : List InputRequirement) (IfDone IfRefused : FileMap → FileMap → List ℕ → Type 0) → command words ≡ (if b then Some c else None) → (b ≡ true → Answers c asks IfDone IfRefused) →
        CommandSays call words asks IfDone IfRefused
    tested words c b asks IfDone IfRefused is answers = says words asks IfDone IfRefused
        (λ are no_bad.
        let a = asked_if b c Ended BadEnd no_bad (subst (λ (o : Option Command). IfSome o Ended) is (some_by words are)) (subst (λ (o : Option Command). IfNone o BadEnd) is (none_by words are)) in
        record { c = c; answers = answers a.0; ended = a.1 })

    pub tool_says : ToolSays call
    tool_says = record {
      check = λ elf plan cert. fixed _ _ _ _ _ (check_ends (record { elf = elf; plan = plan; cert = cert })) (λ k. k);
      cert = λ elf plan cert. fixed _ _ _ _ _ (cert_ends (record { elf = elf; plan = plan; cert = cert })) (λ k. k);
      ship = λ plan layout elf cert sources. tested _ _ _ _ _ _ (ship_asks plan layout elf cert sources) (λ b. ship_ends (record { plan = plan; layout = layout; elf = elf; cert = cert; sources = sources }) (names_differ elf cert sources b));
      run = λ elf plan script. fixed _ _ _ _ _ (run_ends (record { elf = elf; plan = plan; script = script })) (λ k. k);
      report = λ elf plan cert. fixed _ _ _ _ _ (report_ends (record { elf = elf; plan = plan; cert = cert })) (λ k. k);
      cfg = λ elf plan. fixed _ _ _ _ _ (cfg_ends (record { elf = elf; plan = plan })) (λ k. k);
      dis = λ elf. fixed _ _ _ _ _ (dis_ends elf) (λ k. k);
      gen = λ word. says _ _ _ _ (λ are no_bad.
          let n = gen_asked Ended BadEnd no_bad (script_number word) (some_by _ are) (none_by _ are) in
          record { c = asked.generate n.0; answers = gen_ends word n.0 (record { is = n.1; some = n.2; few = n.3 }); ended = n.4 });
      asm = λ source object. fixed _ _ _ _ _ (asm_ends (record { source = source; object = object })) (λ k. k);
      link = λ layout elf objects. tested _ _ _ _ _ _ (link_asks layout elf objects) (λ b. link_ends (record { layout = layout; image = elf; objects = objects }));
      boot = λ elf plan cert at. says _ _ _ _ (λ are no_bad.
          let n = boot_asked Ended BadEnd no_bad elf plan cert (hex_number_of at) (some_by _ are) (none_by _ are) in
          record { c = asked.boot (record { elf = elf; plan = plan; cert = cert; at = n.0 }); answers = boot_ends (record { elf = elf; plan = plan; cert = cert; at = n.0 }) at n.1; ended = n.2 });
      bootgen = λ plan entry at source. says _ _ _ _ (λ are no_bad.
          let n = bootgen_asked Ended BadEnd no_bad plan source (hex_number_of entry) (hex_number_of at) (some_by _ are) (none_by _ are) in
          record {
            c = asked.bootgen (record { plan = plan; entry = n.0; at = n.1; source = source });
            answers = bootgen_ends (record { plan = plan; entry = n.0; at = n.1; source = source }) entry at n.2 n.3 n.4;
            ended = n.5;
          });
      cells = λ elf plan list cert. fixed _ _ _ _ _ (cells_ends (record { elf = elf; plan = plan; cells = list; cert = cert })) (λ k. k);
      cellcert = λ elf plan list cert. fixed _ _ _ _ _ (cellcert_ends (record { elf = elf; plan = plan; cells = list; cert = cert })) (λ k. k);
      tasks = λ elf plan list certs. tested _ _ _ _ _ _ (tasks_asks elf plan list certs) (λ b. tasks_end (record { elf = elf; plan = plan; tasks = list; certs = certs }));
      taskcert = λ elf plan list certs. tested _ _ _ _ _ _ (taskcert_asks elf plan list certs) (λ b. taskcert_ends (record { elf = elf; plan = plan; tasks = list; certs = certs }) (all_differ certs b));
    }
