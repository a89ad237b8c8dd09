-- Commands one after another, over steady files with room.
use Rattle.std.proofs.Common.{◌≡◌, ◌≤◌, ◌-◌, ◌⊎◌, inl, inr, ℕ, List, [], ◌∷◌, ◌++◌, length, Option, Some, None, refl, sym, ap, subst, ◌∙◌, arith, append-nil, append_assoc, length-append}
use Rattle.std.specs.Prelude.{IsTrue, IsSomeAnd}
use Rattle.std.specs.Option.{option_map}
use Rattle.tcd_base.specs.Files.{FileMap, FilesSeen, files_after_write}
use Rattle.tcd_base.specs.Sink.{SinkSeen, sink_with_appended, HasRoomFor, IsPrinted}
use Rattle.tcd_reading.specs.Reports.{Report, ReportFile, with_report_files}
use Rattle.tcd_laws.specs.Sequences.{all_report_texts, EndInSequence, ReportsSurely, ReportSurelyInSequence, all_sequence_files, IsSequenceDone, RanOutOfMemoryInSequence, SequenceEndsWithoutFault, SureSequencesEndWithoutFault}
use Rattle.tcd_reading.specs.Endings.{ReportWritingStopped, PrintsWithStatus, whole, cut, IsEndingWithReport, HasRoomForReports, HasEnded, Ends}
use Rattle.tcd_reading.specs.Inputs.{Reading, ReadingSays, HasAllInputs}
use Rattle.tcd_reading.specs.Endings as ending
use Rattle.tcd_reading.specs.declared.status.Status.{Status}
use Rattle.tcd_reading.specs.declared.status.Status.TheVariants.{Done, Fault, NoMemory}
use Rattle.tcd_driver.specs.Commands.{reading_of}

-- ---- one command
-- its report was written and printed
record HasDone (q : Report) (files files' : FilesSeen) (sink sink' : SinkSeen) : Type 0 where
  held : files'.held ≡ with_report_files files.held q.writes
  printed : IsPrinted q.text sink sink'

-- memory ran out in it: nothing was printed, and one of its files may hold anything
record HasRunOut (q : Report) (files files' : FilesSeen) (sink sink' : SinkSeen) : Type 0 where
  held : (files'.held ≡ files.held) ⊎ ReportWritingStopped files.held files'.held q.writes
  quiet : sink' ≡ sink

record EndsOne (q : Report) (files files' : FilesSeen) (sink sink' : SinkSeen) (result : Status) : Type 0 where
  status : (result ≡ Done) ⊎ (result ≡ NoMemory)
  steady : files'.steady ≡ files.steady
  files_faults : files'.faults ≡ files.faults
  sink_faults : sink'.faults ≡ sink.faults
  done : result ≡ Done → HasDone q files files' sink sink'
  memory : result ≡ NoMemory → HasRunOut q files files' sink sink'

no_fault : (s : Status) → s ≡ Done → s ≡ Fault → ⊥
no_fault s e f = let g : Done ≡ Fault = sym e ∙ f in cc

no_fault_either : (s : Status) → s ≡ NoMemory → s ≡ Fault → ⊥
no_fault_either s e f = let g : NoMemory ≡ Fault = sym e ∙ f in cc

some_memory : (s : Status) → s ≡ Done → s ≡ NoMemory → ⊥
some_memory s e f = let g : Done ≡ NoMemory = sym e ∙ f in cc

module _ (q : Report) (files files' : FilesSeen) (sink sink' : SinkSeen) (result : Status) (e : result ≡ Done) where
  done_printed : files'.held ≡ with_report_files files.held q.writes → PrintsWithStatus q.status q.text sink sink' result → HasDone q files files' sink sink'
  done_printed held (whole is p) = record { held = held; printed = p }
  done_printed held (cut f front counted full) = absurd (no_fault result e f)

  done_reported : IsEndingWithReport q files files' sink sink' result → HasDone q files files' sink sink'
  done_reported (ending.printed held prints) = done_printed held prints
  done_reported (ending.unwritten f quiet stopped counted unsteady) = absurd (no_fault result e f)
  done_reported (ending.no_memory f quiet stopped) = absurd (some_memory result e f)

  done_ended : (reading : Reading) → ((other : Report) → ReadingSays reading files.held other → other ≡ q) → HasEnded reading files files' sink sink' result → HasDone q files files' sink sink'
  done_ended reading only (ending.reported r says h) = done_reported (subst (λ (x : Report). IsEndingWithReport x files files' sink sink' result) (only r says) h)
  done_ended reading only (ending.unread f held quiet counted unsure) = absurd (no_fault result e f)
  done_ended reading only (ending.no_memory f held quiet) = absurd (some_memory result e f)

module _ (q : Report) (files files' : FilesSeen) (sink sink' : SinkSeen) (result : Status) (is_done : q.status ≡ Done) (e : result ≡ NoMemory) where
  memory_printed : PrintsWithStatus q.status q.text sink sink' result → HasRunOut q files files' sink sink'
  memory_printed (whole is p) = absurd (some_memory result (is ∙ is_done) e)
  memory_printed (cut f front counted full) = absurd (no_fault_either result e f)

  memory_reported : IsEndingWithReport q files files' sink sink' result → HasRunOut q files files' sink sink'
  memory_reported (ending.printed held prints) = memory_printed prints
  memory_reported (ending.unwritten f quiet stopped counted unsteady) = absurd (no_fault_either result e f)
  memory_reported (ending.no_memory f quiet stopped) = record { held = inr stopped; quiet = quiet }

  memory_ended : (reading : Reading) → ((other : Report) → ReadingSays reading files.held other → other ≡ q) → HasEnded reading files files' sink sink' result → HasRunOut q files files' sink sink'
  memory_ended reading only (ending.reported r says h) = memory_reported (subst (λ (x : Report). IsEndingWithReport x files files' sink sink' result) (only r says) h)
  memory_ended reading only (ending.unread f held quiet counted unsure) = absurd (no_fault_either result e f)
  memory_ended reading only (ending.no_memory f held quiet) = record { held = inl held; quiet = quiet }

said_status : (q : Report) (result : Status) → q.status ≡ Done → (result ≡ q.status) ⊎ (result ≡ NoMemory) → (result ≡ Done) ⊎ (result ≡ NoMemory)
said_status q result e (inl h) = inl (h ∙ e)
said_status q result e (inr h) = inr h

sure_ends : (reading : Reading) (q : Report) (files files' : FilesSeen) (sink sink' : SinkSeen) (result : Status) → IsTrue files.steady → ReportsSurely reading files.held q → HasRoomFor sink q.text → Ends reading files files' sink sink' result →
    EndsOne q files files' sink sink' result
sure_ends reading q files files' sink sink' result steady s room ends =
    let sure : HasAllInputs reading files = record { steady = steady; hold = s.asked } in
    let fits : HasRoomForReports reading files.held sink = λ r says. subst (λ (x : Report). HasRoomFor sink x.text) (sym (s.only r says)) room in
    record {
      status = said_status q result s.done (ends.complete sure fits q s.said);
      steady = ends.steady;
      files_faults = ends.files_sure sure;
      sink_faults = ends.sink_sure fits;
      done = λ e. done_ended q files files' sink sink' result e reading s.only ends.ended;
      memory = λ e. memory_ended q files files' sink sink' result s.done e reading s.only ends.ended;
    }

-- ---- rooms and texts
room_first : (o : Option ℕ) (xs ys : List ℕ) → IsSomeAnd o (λ n. length (xs ++ ys) ≤ n) → IsSomeAnd o (λ n. length xs ≤ n)
room_first None xs ys h = h
room_first (Some n) xs ys h = omega (arith, length-append xs ys)

room_rest : (o : Option ℕ) (xs ys : List ℕ) → IsSomeAnd o (λ n. length (xs ++ ys) ≤ n) → IsSomeAnd (option_map (λ n. n - length xs) o) (λ n. length ys ≤ n)
room_rest None xs ys h = h
room_rest (Some n) xs ys h = omega (arith, length-append xs ys)

room_none : (o : Option ℕ) → o ≡ option_map (λ n. n - 0) o
room_none None = refl
room_none (Some n) = let same : n ≡ n - 0 = omega arith in ap (λ (k : ℕ). Some k) same

room_both : (o : Option ℕ) (xs ys : List ℕ) → option_map (λ n. n - length ys) (option_map (λ n. n - length xs) o) ≡ option_map (λ n. n - length (xs ++ ys)) o
room_both None xs ys = refl
room_both (Some n) xs ys = let same : n - length xs - length ys ≡ n - length (xs ++ ys) = omega (arith, length-append xs ys) in ap (λ (k : ℕ). Some k) same

text_none : (o : Option (List ℕ)) → o ≡ sink_with_appended o []
text_none None = refl
text_none (Some w) = ap (λ (x : List ℕ). Some x) (sym (append-nil w))

text_both : (o : Option (List ℕ)) (xs ys : List ℕ) → sink_with_appended (sink_with_appended o xs) ys ≡ sink_with_appended o (xs ++ ys)
text_both None xs ys = refl
text_both (Some w) xs ys = ap (λ (x : List ℕ). Some x) (append_assoc w xs ys)

written_both : (held : Option FileMap) (ws vs : List ReportFile) → with_report_files held (ws ++ vs) ≡ with_report_files (with_report_files held ws) vs
written_both held [] vs = refl
written_both held (w ∷ ws) vs = written_both (files_after_write held w.name w.bytes) ws vs

-- ---- the sequence
none_end : (files files' : FilesSeen) (sink sink' : SinkSeen) (result : Status) → EndInSequence [] files files' sink sink' result → SequenceEndsWithoutFault [] files files' sink sink' result
none_end files files' sink sink' result h = record {
  status = inl h.1;
  steady = ap (λ (f : FilesSeen). f.steady) (h.0).files_stay;
  files_faults = ap (λ (f : FilesSeen). f.faults) (h.0).files_stay;
  sink_faults = ap (λ (s : SinkSeen). s.faults) (h.0).sink_stays;
  whole = λ e. record {
    held = ap (λ (f : FilesSeen). f.held) (h.0).files_stay;
    written = ap (λ (s : SinkSeen). s.written) (h.0).sink_stays ∙ text_none sink.written;
    room = ap (λ (s : SinkSeen). s.room) (h.0).sink_stays ∙ room_none sink.room;
  };
  ran_out = λ e. absurd (some_memory result h.1 e);
}

whole_more : (q : Report) (qs : List Report) (files mid files' : FilesSeen) (sink between sink' : SinkSeen) → HasRoomFor sink q.text → HasDone q files mid sink between → IsSequenceDone qs mid files' between sink' → IsSequenceDone (q ∷ qs) files files' sink sink'
whole_more q qs files mid files' sink between sink' room one rest = record {
  held = rest.held ∙ ap (λ (m : Option FileMap). with_report_files m (all_sequence_files qs)) one.held ∙ sym (written_both files.held q.writes (all_sequence_files qs));
  written = rest.written ∙ ap (λ (o : Option (List ℕ)). sink_with_appended o (all_report_texts qs)) (one.printed).written ∙ text_both sink.written q.text (all_report_texts qs);
  room = rest.room ∙ ap (λ (o : Option ℕ). option_map (λ n. n - length (all_report_texts qs)) o) ((one.printed).room room) ∙ room_both sink.room q.text (all_report_texts qs);
}

-- memory ran out in the first, or in a later one
out_here : (q : Report) (qs : List Report) (files files' : FilesSeen) (sink sink' : SinkSeen) → HasRunOut q files files' sink sink' → RanOutOfMemoryInSequence (q ∷ qs) files files' sink sink'
out_here q qs files files' sink sink' h = record {
  before = [];
  at = q;
  behind = qs;
  are = refl;
  held = h.held;
  written = ap (λ (s : SinkSeen). s.written) h.quiet ∙ text_none sink.written;
  room = ap (λ (s : SinkSeen). s.room) h.quiet ∙ room_none sink.room;
}

out_later : (q : Report) (qs : List Report) (files mid files' : FilesSeen) (sink between sink' : SinkSeen) → HasRoomFor sink q.text → HasDone q files mid sink between → RanOutOfMemoryInSequence qs mid files' between sink' → RanOutOfMemoryInSequence (q ∷ qs) files files' sink sink'
out_later q qs files mid files' sink between sink' room one rest =
    let ws : List ReportFile = all_sequence_files rest.before in
    let text : List ℕ = all_report_texts rest.before in
    let same : with_report_files mid.held ws ≡ with_report_files files.held (q.writes ++ ws) = ap (λ (m : Option FileMap). with_report_files m ws) one.held ∙ sym (written_both files.held q.writes ws) in
    record {
      before = q ∷ rest.before;
      at = rest.at;
      behind = rest.behind;
      are = ap (λ (xs : List Report). q ∷ xs) rest.are;
      held = subst (λ (m : Option FileMap). (files'.held ≡ m) ⊎ ReportWritingStopped m files'.held (rest.at).writes) same rest.held;
      written = rest.written ∙ ap (λ (o : Option (List ℕ)). sink_with_appended o text) (one.printed).written ∙ text_both sink.written q.text text;
      room = rest.room ∙ ap (λ (o : Option ℕ). option_map (λ n. n - length text) o) ((one.printed).room room) ∙ room_both sink.room q.text text;
    }

pub sure_sequences_end : SureSequencesEndWithoutFault
sure_sequences_end [] [] files files' sink sink' result steady sure room h = none_end files files' sink sink' result h
sure_sequences_end [] (q ∷ qs) files files' sink sink' result steady sure room h = absurd sure
sure_sequences_end (c ∷ cs) [] files files' sink sink' result steady sure room h = absurd sure
sure_sequences_end (c ∷ cs) (q ∷ qs) files files' sink sink' result steady sure room (inl last) =
    let one = sure_ends (reading_of c) q files files' sink sink' result steady sure.0 (room_first sink.room q.text (all_report_texts qs) room) last.ended in
    record {
      status = one.status;
      steady = one.steady;
      files_faults = one.files_faults;
      sink_faults = one.sink_faults;
      whole = λ e. absurd (last.undone e);
      ran_out = λ e. out_here q qs files files' sink sink' (one.memory e);
    }
sure_sequences_end (c ∷ cs) (q ∷ qs) files files' sink sink' result steady sure room (inr on) =
    let mid = on.files_between in
    let between = on.sink_between in
    let fits : HasRoomFor sink q.text = room_first sink.room q.text (all_report_texts qs) room in
    let one = sure_ends (reading_of c) q files mid sink between Done steady sure.0 fits on.ended in
    let done = one.done refl in
    let left : HasRoomFor between (all_report_texts qs) = subst (λ (o : Option ℕ). IsSomeAnd o (λ n. length (all_report_texts qs) ≤ n)) (sym ((done.printed).room fits)) (room_rest sink.room q.text (all_report_texts qs) room) in
    let more : ReportSurelyInSequence cs mid.held qs = subst (λ (m : Option FileMap). ReportSurelyInSequence cs m qs) (sym done.held) sure.1 in
    let rest = sure_sequences_end cs qs mid files' between sink' result (subst IsTrue (sym one.steady) steady) more left on.rest in
    record {
      status = rest.status;
      steady = rest.steady ∙ one.steady;
      files_faults = rest.files_faults ∙ one.files_faults;
      sink_faults = rest.sink_faults ∙ one.sink_faults;
      whole = λ e. whole_more q qs files mid files' sink between sink' fits done (rest.whole e);
      ran_out = λ e. out_later q qs files mid files' sink between sink' fits done (rest.ran_out e);
    }
