-- The guard laws on how a command ends.
use Rattle.std.proofs.Common.{◌≡◌, ◌≢◌, ℕ, zero, suc, ◌-◌, ◌<◌, ◌≤◌, ◌⊎◌, inl, inr, Bool, true, false, cond, List, [], ◌∷◌, ◌++◌, length, slice_get, Option, Some, None, refl, sym, ap, subst, ◌∙◌, arith}
use Rattle.std.specs.Prelude.{IsSome, IsSomeAnd, IsTrue}
use Rattle.std.specs.Option.{option_map}
use Rattle.std.specs.FinMap.{get, insert, get-insert}
use Rattle.std.specs.Str.{bytes_eq}
use Rattle.std.specs.Cmp.Lexicographic.{nat_list_cmp_total}
use Rattle.std.proofs.lemmas.Bool.{cases_lt}
use Rattle.std.proofs.lemmas.Map.Text.{is_eq-slice_cmp}
use Rattle.std.proofs.lemmas.Slice.Eq.{bytes_eq-Decides}
use Rattle.tcd_base.specs.Files.{FileMap, FilesSeen, OtherFilesStay}
use Rattle.tcd_base.specs.Sink.{SinkSeen, HasRoomFor}
use Rattle.tcd_reading.specs.Reports.{ReportFile, Report, IsReportStatus, with_report_files, RejectsInput}
use Rattle.tcd_reading.specs.Endings.{ReportWritingStopped, whole, cut, IsEndingWithReport, printed, unwritten, no_memory, HasEnded, Ends}
use Rattle.tcd_reading.specs.Inputs.{FormSeen, HoldsInput, IsInputRejection, Reading, answer, input, ReadingSays, HoldsNeededInputs, HasAllInputs, MapHoldsInput, MapHoldsBadInput}
use Rattle.tcd_reading.specs.Inputs as inputs
use Rattle.tcd_reading.proofs.Decided.{never_fault}
use Rattle.tcd_reading.specs.Endings as ending
use Rattle.tcd_reading.specs.EndingLaws.{HoldsLastWritten, WritingBreaksOff, HasEndedByLaw, EndsByLaw, EndingLaw, EndsInAllCasesByLaw, EndingLawInAllCases}
use Rattle.tcd_base.specs.FailingCalls.{IsFaultCounted}
use Rattle.tcd_reading.specs.ReportLaws.{ReportLaw, NeededInputsLaw}
use Rattle.tcd_reading.specs.EndingLaws as so
use Rattle.tcd_reading.specs.declared.status.Status.{Status}
use Rattle.tcd_reading.specs.declared.status.Status.TheVariants.{Fault, NoMemory}

-- ---- files that are written one after another
-- what a name holds after one file is written
pub get_here : (m : FileMap) (k v q : List ℕ) → k ≡ q → get (insert m k v) q ≡ Some v
get_here m k v q same =
    get-insert nat_list_cmp_total m k v q ∙ ap (λ t. cond t (Some v) (get m q)) (is_eq-slice_cmp q k ∙ (bytes_eq-Decides q k).1 (sym same))

pub get_apart : (m : FileMap) (k v q : List ℕ) → k ≢ q → get (insert m k v) q ≡ get m q
get_apart m k v q apart =
    get-insert nat_list_cmp_total m k v q ∙ ap (λ t. cond t (Some v) (get m q)) (is_eq-slice_cmp q k ∙ differs (bytes_eq q k) refl)
  where
    differs : (t : Bool) → bytes_eq q k ≡ t → t ≡ false
    differs true e = absurd (apart (sym ((bytes_eq-Decides q k).0 e)))
    differs false e = refl

-- the map once these files are written
abbrev map_after : FileMap → List ReportFile → FileMap
map_after m [] = m
map_after m (w ∷ ws) = map_after (insert m w.name w.bytes) ws

after_is : (m : FileMap) (ws : List ReportFile) → with_report_files (Some m) ws ≡ Some (map_after m ws)
after_is m [] = refl
after_is m (w ∷ ws) = after_is (insert m w.name w.bytes) ws

after_others : (m : FileMap) (ws : List ReportFile) (q : List ℕ) → ((i : ℕ) (w : ReportFile) → slice_get ws i ≡ Some w → w.name ≢ q) → get (map_after m ws) q ≡ get m q
after_others m [] q none = refl
after_others m (w ∷ ws) q none = after_others (insert m w.name w.bytes) ws q (λ i v is. none (suc i) v is) ∙ get_apart m w.name w.bytes q (none 0 w refl)

after_last : (m : FileMap) (ws : List ReportFile) (q : List ℕ) (i : ℕ) (bytes : List ℕ) → slice_get ws i ≡ Some (record { name = q; bytes = bytes })
    → ((j : ℕ) (w : ReportFile) → i < j → slice_get ws j ≡ Some w → w.name ≢ q) → get (map_after m ws) q ≡ Some bytes
after_last m [] q i bytes is later = absurd (let none : let o : Option ReportFile = None in o ≡ Some (record { name = q; bytes = bytes }) = is in cc)
after_last m (w ∷ ws) q zero bytes is later =
    let here : w ≡ record { name = q; bytes = bytes } = cc in
    after_others (insert m w.name w.bytes) ws q (λ j v at. later (suc j) v (omega arith) at)
    ∙ get_here m w.name w.bytes q (ap (λ (v : ReportFile). v.name) here) ∙ ap Some (ap (λ (v : ReportFile). v.bytes) here)
after_last m (w ∷ ws) q (suc i) bytes is later = after_last (insert m w.name w.bytes) ws q i bytes is (λ j v lt at. later (suc j) v (omega arith) at)

after_holds : (m : FileMap) (ws : List ReportFile) (q : List ℕ) → HoldsLastWritten m (map_after m ws) ws q
after_holds m ws q = record { last = λ i bytes is later. after_last m ws q i bytes is later; other = λ none. after_others m ws q none }

-- another map that holds the same under a name
holds_as : (m n n' : FileMap) (ws : List ReportFile) (q : List ℕ) → get n' q ≡ get n q → HoldsLastWritten m n ws q → HoldsLastWritten m n' ws q
holds_as m n n' ws q same h = record { last = λ i bytes is later. same ∙ h.last i bytes is later; other = λ none. same ∙ h.other none }

-- ---- a write that failed
some_of : (o : Option FileMap) (P : FileMap → Type 0) → IsSomeAnd o P → (n : FileMap) × (o ≡ Some n) × P n
some_of None P h = absurd h
some_of (Some n) P h = (n, refl, h)

breaks_off : (m : FileMap) (held' : Option FileMap) (ws : List ReportFile) → ReportWritingStopped (Some m) held' ws → (n : FileMap) × (held' ≡ Some n) × WritingBreaksOff m n ws
breaks_off m held' ws h =
    let others : OtherFilesStay h.at.name (Some (map_after m h.front)) held' = subst (λ (o : Option FileMap). OtherFilesStay h.at.name o held') (after_is m h.front) h.others in
    let p = some_of held' (λ n. (q : List ℕ) → q ≢ h.at.name → get n q ≡ get (map_after m h.front) q) others in (
      p.0,
      p.1,
      record {
        front = h.front;
        at = h.at;
        behind = h.rest;
        are = h.are;
        others = λ q apart. holds_as m (map_after m h.front) p.0 h.front q (p.2 q apart) (after_holds m h.front q);
      },
    )

none_written : (ws : List ReportFile) → with_report_files None ws ≡ None
none_written [] = refl
none_written (w ∷ ws) = none_written ws

none_stopped : (ws : List ReportFile) (held held' : Option FileMap) → held ≡ None → ReportWritingStopped held held' ws → held' ≡ None
none_stopped ws held held' none h =
    subst (λ (o : Option FileMap). OtherFilesStay h.at.name o held') (ap (λ (o : Option FileMap). with_report_files o h.front) none ∙ none_written h.front) h.others

-- ---- the sink
room_for : (sink : SinkSeen) (text : List ℕ) (n : ℕ) → sink.room ≡ Some n → length text ≤ n → HasRoomFor sink text
room_for sink text n is fits = subst (λ (o : Option ℕ). IsSomeAnd o (λ k. length text ≤ k)) (sym is) fits

no_room : (sink : SinkSeen) (text : List ℕ) → (HasRoomFor sink text → ⊥) → (n : ℕ) → sink.room ≡ Some n → n < length text
no_room sink text full n is = elim (cases_lt n (length text)) [ inl lt ↦ lt | inr fits ↦ absurd (full (room_for sink text n is (omega arith))) ]

not_steady : (t : Bool) → (IsTrue t → ⊥) → t ≡ false
not_steady true h = absurd (h refl)
not_steady false h = refl

-- ---- how it ended
module _ (reading : Reading) (files files' : FilesSeen) (sink sink' : SinkSeen) (result : Status) (m : FileMap) (text : List ℕ) (holds : files.held ≡ Some m) (prints : sink.written ≡ Some text) where
  -- the files and the text after a command that ended so
  record Ended : Type 0 where
    pub after : FileMap
    pub held : files'.held ≡ Some after
    pub printed : List ℕ
    pub written : sink'.written ≡ Some printed
    pub ended : HasEndedByLaw reading files files' sink sink' m after text printed result

  said : (report : Report) → ReadingSays reading files.held report → ReadingSays reading (Some m) report
  said report h = subst (λ (o : Option FileMap). ReadingSays reading o report) holds h

  appended_is : (more : List ℕ) → option_map (λ w. w ++ more) sink.written ≡ Some (text ++ more)
  appended_is more = ap (λ (o : Option (List ℕ)). option_map (λ w. w ++ more) o) prints

  wrote : (ws : List ReportFile) → with_report_files files.held ws ≡ Some (map_after m ws)
  wrote ws = ap (λ (o : Option FileMap). with_report_files o ws) holds ∙ after_is m ws

  same_sink : sink' ≡ sink → sink'.written ≡ Some text
  same_sink quiet = ap (λ (s : SinkSeen). s.written) quiet ∙ prints

  by_report : (report : Report) → ReadingSays reading files.held report → IsEndingWithReport report files files' sink sink' result → Ended
  by_report report says (printed is (whole e p)) = record {
    after = map_after m report.writes;
    held = is ∙ wrote report.writes;
    printed = text ++ report.text;
    written = p.written ∙ appended_is report.text;
    ended = so.told report (said report says) e (after_holds m report.writes) refl (λ n room fits. p.room (room_for sink report.text n room fits) ∙ ap (λ (o : Option ℕ). option_map (λ k. k - length report.text) o) room);
  }
  by_report report says (printed is (cut e front counted full)) = record {
    after = map_after m report.writes;
    held = is ∙ wrote report.writes;
    printed = text ++ front.0;
    written = front.3 ∙ appended_is front.0;
    ended = so.cut report (said report says) e (after_holds m report.writes) front.0 front.1 front.2 refl counted (no_room sink report.text full);
  }
  by_report report says (unwritten e quiet stopped counted unsteady) =
      let b = breaks_off m files'.held report.writes (subst (λ (o : Option FileMap). ReportWritingStopped o files'.held report.writes) holds stopped) in
      record {
        after = b.0;
        held = b.1;
        printed = text;
        written = same_sink quiet;
        ended = so.unwritten report (said report says) e b.2 refl counted (not_steady files.steady unsteady);
      }
  by_report report says (no_memory e quiet stopped) =
      let b = breaks_off m files'.held report.writes (subst (λ (o : Option FileMap). ReportWritingStopped o files'.held report.writes) holds stopped) in
      record { after = b.0; held = b.1; printed = text; written = same_sink quiet; ended = so.unfinished report (said report says) e b.2 refl }

  ended_so : HasEnded reading files files' sink sink' result → Ended
  ended_so (ending.reported report says h) = by_report report says h
  ended_so (ending.unread e held quiet counted unsure) = record {
    after = m;
    held = held ∙ holds;
    printed = text;
    written = same_sink quiet;
    ended = so.unread e (λ q. refl) refl counted (λ steady asked. unsure (record { steady = steady; hold = subst (λ (o : Option FileMap). HoldsNeededInputs reading o) (sym holds) asked }));
  }
  ended_so (ending.no_memory e held quiet) = record { after = m; held = held ∙ holds; printed = text; written = same_sink quiet; ended = so.no_memory e (λ q. refl) refl }

  same_map : (n k : FileMap) (o : Option FileMap) → o ≡ Some n → o ≡ Some k → n ≡ k
  same_map n k o a b = cc

  pub ends_so : Ends reading files files' sink sink' result → EndsByLaw reading files files' sink sink' m text result
  ends_so h =
      let e = ended_so h.ended in
      let here : (report : Report) → ReadingSays reading (Some m) report → ReadingSays reading files.held report = λ report s. subst (λ (o : Option FileMap). ReadingSays reading o report) (sym holds) s in
      let sure : files.steady ≡ true → HoldsNeededInputs reading (Some m) → HasAllInputs reading files =
      λ steady asked. record { steady = steady; hold = subst (λ (o : Option FileMap). HoldsNeededInputs reading o) (sym holds) asked }
      in
      record {
        after = e.after;
        held = e.held;
        printed = e.printed;
        written = e.written;
        ended = e.ended;
        some_words = h.no_bad_words;
        statuses = λ report s. h.statuses report (here report s);
        only_done = λ report s. h.only_done report (here report s);
        stays = λ r q. ap (λ (n : FileMap). get n q) (same_map e.after m files'.held e.held (h.stays r ∙ holds));
        steady = h.steady;
        files_sure = λ steady asked. h.files_sure (sure steady asked);
        sink_sure = λ n room fits. h.sink_sure (λ report s. room_for sink report.text n room (fits report (said report s)));
        complete = λ n steady asked room fits report s.
            h.complete (sure steady asked) (λ r s. room_for sink r.text n room (fits r (said r s))) report (here report s);
      }

-- ---- files and sinks in general
module _ (reading : Reading) (files files' : FilesSeen) (sink sink' : SinkSeen) (result : Status) where
  status_of : HasEnded reading files files' sink sink' result → result ≢ Fault → result ≢ NoMemory → (report : Report) × ReadingSays reading files.held report × (result ≡ report.status)
  status_of (ending.reported report says (printed is (whole e p))) fault memory = (report, says, e)
  status_of (ending.reported report says (printed is (cut e front counted full))) fault memory = absurd (fault e)
  status_of (ending.reported report says (unwritten e quiet stopped counted unsteady)) fault memory = absurd (fault e)
  status_of (ending.reported report says (no_memory e quiet stopped)) fault memory = absurd (memory e)
  status_of (ending.unread e held quiet counted unsure) fault memory = absurd (fault e)
  status_of (ending.no_memory e held quiet) fault memory = absurd (memory e)

  fault_of : ((report : Report) → ReadingSays reading files.held report → IsReportStatus report.status) → HasEnded reading files files' sink sink' result → result ≡ Fault
      → IsFaultCounted files.faults files'.faults ⊎ IsFaultCounted sink.faults sink'.faults
  fault_of statuses (ending.reported report says (printed is (whole e p))) f = absurd (never_fault report.status (statuses report says) (sym e ∙ f))
  fault_of statuses (ending.reported report says (printed is (cut e front counted full))) f = inr counted
  fault_of statuses (ending.reported report says (unwritten e quiet stopped counted unsteady)) f = inl counted
  fault_of statuses (ending.reported report says (no_memory e quiet stopped)) f = absurd (let both : NoMemory ≡ Fault = sym e ∙ f in cc)
  fault_of statuses (ending.unread e held quiet counted unsure) f = inl counted
  fault_of statuses (ending.no_memory e held quiet) f = absurd (let both : NoMemory ≡ Fault = sym e ∙ f in cc)

  untold_of : HasEnded reading files files' sink sink' result → files.held ≡ None → files'.held ≡ None
  untold_of (ending.reported report says (printed is prints)) none = is ∙ ap (λ (o : Option FileMap). with_report_files o report.writes) none ∙ none_written report.writes
  untold_of (ending.reported report says (unwritten e quiet stopped counted unsteady)) none = none_stopped report.writes files.held files'.held none stopped
  untold_of (ending.reported report says (no_memory e quiet stopped)) none = none_stopped report.writes files.held files'.held none stopped
  untold_of (ending.unread e held quiet counted unsure) none = held ∙ none
  untold_of (ending.no_memory e held quiet) none = held ∙ none

  unseen_of : HasEnded reading files files' sink sink' result → sink.written ≡ None → sink'.written ≡ None
  unseen_of (ending.reported report says (printed is (whole e p))) none = p.written ∙ ap (λ (o : Option (List ℕ)). option_map (λ w. w ++ report.text) o) none
  unseen_of (ending.reported report says (printed is (cut e front counted full))) none = front.3 ∙ ap (λ (o : Option (List ℕ)). option_map (λ w. w ++ front.0) o) none
  unseen_of (ending.reported report says (unwritten e quiet stopped counted unsteady)) none = ap (λ (s : SinkSeen). s.written) quiet ∙ none
  unseen_of (ending.reported report says (no_memory e quiet stopped)) none = ap (λ (s : SinkSeen). s.written) quiet ∙ none
  unseen_of (ending.unread e held quiet counted unsure) none = ap (λ (s : SinkSeen). s.written) quiet ∙ none
  unseen_of (ending.no_memory e held quiet) none = ap (λ (s : SinkSeen). s.written) quiet ∙ none

  pub ends_anyhow : Ends reading files files' sink sink' result → EndsInAllCasesByLaw reading files files' sink sink' result
  ends_anyhow h = record {
    some_words = h.no_bad_words;
    statuses = h.statuses;
    status = status_of h.ended;
    fault = fault_of h.statuses h.ended;
    untold = untold_of h.ended;
    unseen = unseen_of h.ended;
    only_done = h.only_done;
    stays = h.stays;
    steady = h.steady;
    files_later = h.files_later;
    sink_later = h.sink_later;
    files_sure = λ steady asked. h.files_sure (record { steady = steady; hold = asked });
    sink_sure = λ n room fits. h.sink_sure (λ report s. room_for sink report.text n room (fits report s));
    complete = λ n steady asked room fits. h.complete (record { steady = steady; hold = asked }) (λ report s. room_for sink report.text n room (fits report s));
  }

pub anyhow_say : (reading : Reading) → EndingLawInAllCases reading
anyhow_say reading files files' sink sink' result h = ends_anyhow reading files files' sink sink' result h

pub ends_say : (reading : Reading) → EndingLaw reading
ends_say reading files files' sink sink' result m text holds prints h = ends_so reading files files' sink sink' result m text holds prints h

-- ---- reports on files that are read in turn
held_as : {A : Type 0} (form : FormSeen A) (m : FileMap) (name : List ℕ) (x : A) → HoldsInput form (Some m) name x → MapHoldsInput form m name x
held_as form m name x h = record { bytes = h.0; held = h.1; short = h.2; is = h.3 }

long_of : (o : Option (List ℕ)) (limit : ℕ) → IsSomeAnd o (λ b. limit < length b) → (bytes : List ℕ) × (o ≡ Some bytes) × (limit < length bytes)
long_of None limit h = absurd h
long_of (Some bytes) limit h = (bytes, refl, h)

held_bad : {A : Type 0} (form : FormSeen A) (m : FileMap) (name line : List ℕ) → IsInputRejection form (Some m) name line → MapHoldsBadInput form m name line
held_bad form m name line (inputs.long too is) = let l = long_of (get m name) form.limit too in inputs.above_limit l.0 l.1 l.2 is
held_bad form m name line (inputs.bad bytes reads short is) = inputs.without_value bytes reads short is

line_of : {A : Type 0} (form : FormSeen A) (m : FileMap) (name : List ℕ) (report : Report) → RejectsInput (IsInputRejection form (Some m) name) report → RejectsInput (MapHoldsBadInput form m name) report
line_of form m name report h = record { status = h.status; line = held_bad form m name report.text h.line; nothing = h.nothing }

pub says_say : (reading : Reading) → ReportLaw reading
says_say (answer IsReport) m report h = h
says_say (input A form name next) m report (inl h) = inl (line_of form m name report h)
says_say (input A form name next) m report (inr h) = inr (h.0, held_as form m name h.0 h.1, says_say (next h.0) m report h.2)

-- ---- the needed inputs
is_some_by : (o : Option (List ℕ)) (bytes : List ℕ) → o ≡ Some bytes → IsSome o
is_some_by o bytes e = let P : Option (List ℕ) → Type 0 = λ x. IsSome x in subst P (sym e) refl

pub asks_say : (reading : Reading) → NeededInputsLaw reading
asks_say (answer IsReport) m h = tt
asks_say (input A form name next) m h = (is_some_by (get m name) (h.0).0 (h.0).1, λ x is. asks_say (next x) m (h.1 x (held_as form m name x is)))
