-- How a command ends, from its outcome.
use Rattle.std.proofs.Common.{◌≡◌, ◌≢◌, ◌≤◌, ◌⊎◌, ℕ, inl, inr, List, [], Option, Ok, Err, sym, ap, subst, ◌∙◌, arith}
use Rattle.std.specs.Prelude.{IsTrue}
use Rattle.tcd_base.specs.Files.{FileMap, FilesSeen, KeepsFaultsIfSteady}
use Rattle.tcd_base.specs.Sink.{SinkSeen}
use Rattle.tcd_reading.specs.Reports.{ReportFile, Report, with_report_files, text_report}
use Rattle.tcd_reading.specs.Endings.{ReportWritingStopped, FilesAndSinkStay, whole, cut, IsEndingWithReport, printed, unwritten, no_memory, EndsWithOutcome, HasRoomForReports, Ends}
use Rattle.tcd_reading.specs.Inputs.{Reading, ReadingSays, HasAllInputs, HasFailedToReadInput}
use Rattle.tcd_reading.specs.Outcomes.{Outcome, IsCommandOutcome}
use Rattle.tcd_reading.specs.Endings as ending
use Rattle.tcd_reading.specs.declared.status.Status.{Status}
use Rattle.tcd_reading.specs.declared.status.Status.TheVariants.{Done, Refused, BadInput, Fault, NoMemory, BadWords}
use Rattle.tcd_reading.specs.declared.outcome.Stop.TheVariants as stop
use Rattle.tcd_reading.proofs.Told.{counted_later}
use Rattle.tcd_reading.proofs.Decided.{IsDecided, never_words, said_told, said_done, said_one}

-- the files between the reading and the writing are as before
reported_since : (r : Report) (reading : Reading) (old mid new : FilesSeen) (sink sink' : SinkSeen) (o : Outcome) (result : Status) → IsCommandOutcome reading old mid o → IsEndingWithReport r mid new sink sink' result → IsEndingWithReport r old new sink sink' result
reported_since r reading old mid new sink sink' o result comes (printed is prints) = printed (is ∙ ap (λ (m : Option FileMap). with_report_files m r.writes) comes.held) prints
reported_since r reading old mid new sink sink' o result comes (unwritten e quiet stopped counted unsteady) =
    unwritten e quiet (subst (λ (m : Option FileMap). ReportWritingStopped m new.held r.writes) comes.held stopped) (counted_later old.faults mid.faults new.faults comes.later counted) (λ s. unsteady (subst IsTrue (sym comes.steady) s))
reported_since r reading old mid new sink sink' o result comes (no_memory e quiet stopped) = no_memory e quiet (subst (λ (m : Option FileMap). ReportWritingStopped m new.held r.writes) comes.held stopped)

-- ---- a report
module _ (reading : Reading) (decided : IsDecided reading) (r : Report) (old new : FilesSeen) (sink sink' : SinkSeen) (result : Status) (said : ReadingSays reading old.held r) where
  words_here : IsEndingWithReport r old new sink sink' result → result ≡ BadWords → ⊥
  words_here (printed is (whole e p)) b = never_words r.status (said_told reading old.held r decided said) (sym e ∙ b)
  words_here (printed is (cut e front counted full)) b = let f : Fault ≡ BadWords = sym e ∙ b in cc
  words_here (unwritten e quiet stopped counted unsteady) b = let f : Fault ≡ BadWords = sym e ∙ b in cc
  words_here (no_memory e quiet stopped) b = let f : NoMemory ≡ BadWords = sym e ∙ b in cc

  stays_by : IsEndingWithReport r old new sink sink' result → result ≢ Done → result ≢ Fault → result ≢ NoMemory → new.held ≡ old.held
  stays_by (printed is (whole e p)) done fault memory = is ∙ ap (λ (w : List ReportFile). with_report_files old.held w) (said_done reading old.held r decided said (λ d. done (e ∙ d)))
  stays_by (printed is (cut e front counted full)) done fault memory = absurd (fault e)
  stays_by (unwritten e quiet stopped counted unsteady) done fault memory = absurd (fault e)
  stays_by (no_memory e quiet stopped) done fault memory = absurd (memory e)

  stays_here : IsEndingWithReport r old new sink sink' result → (result ≡ Refused) ⊎ (result ≡ BadInput) → new.held ≡ old.held
  stays_here h (inl e) = stays_by h (λ f. cc) (λ f. cc) (λ f. cc)
  stays_here h (inr e) = stays_by h (λ f. cc) (λ f. cc) (λ f. cc)

  sink_here : IsEndingWithReport r old new sink sink' result → HasRoomForReports reading old.held sink → sink'.faults ≡ sink.faults
  sink_here (printed is (whole e p)) room = p.faults (room r said)
  sink_here (printed is (cut e front counted full)) room = absurd (full (room r said))
  sink_here (unwritten e quiet stopped counted unsteady) room = ap (λ (s : SinkSeen). s.faults) quiet
  sink_here (no_memory e quiet stopped) room = ap (λ (s : SinkSeen). s.faults) quiet

  complete_here : IsEndingWithReport r old new sink sink' result → HasAllInputs reading old → HasRoomForReports reading old.held sink → (q : Report) → ReadingSays reading old.held q → (result ≡ q.status) ⊎ (result ≡ NoMemory)
  complete_here (printed is (whole e p)) sure room q other = inl (e ∙ said_one reading old.held r q decided sure.hold said other)
  complete_here (printed is (cut e front counted full)) sure room q other = absurd (full (room r said))
  complete_here (unwritten e quiet stopped counted unsteady) sure room q other = absurd (unsteady sure.steady)
  complete_here (no_memory e quiet stopped) sure room q other = inr e

-- only a report that is done has files to write
only_done_by : (reading : Reading) (held : Option FileMap) → IsDecided reading → (q : Report) → ReadingSays reading held q → q.status ≢ Done → q.writes ≡ []
only_done_by reading held decided q says apart = said_done reading held q decided says apart

-- counts of faults don't fall
same_count : (m n : ℕ) → n ≡ m → m ≤ n
same_count m n e = omega (arith, e)

later_count : (l m n : ℕ) → l ≤ m → m ≤ n → l ≤ n
later_count l m n a b = omega (arith, a, b)

quiet_files : (old mid new : FilesSeen) (sink sink' : SinkSeen) → old.faults ≤ mid.faults → FilesAndSinkStay mid new sink sink' → old.faults ≤ new.faults
quiet_files old mid new sink sink' later quiet = later_count old.faults mid.faults new.faults later (same_count mid.faults new.faults (ap (λ (f : FilesSeen). f.faults) quiet.files_stay))

quiet_sink : (mid new : FilesSeen) (sink sink' : SinkSeen) → FilesAndSinkStay mid new sink sink' → sink.faults ≤ sink'.faults
quiet_sink mid new sink sink' quiet = same_count sink.faults sink'.faults (ap (λ (s : SinkSeen). s.faults) quiet.sink_stays)

-- ---- by the outcome
reported_ends : (reading : Reading) (old mid new : FilesSeen) (sink sink' : SinkSeen) (o : Outcome) (r : Report) (result : Status) → IsDecided reading → IsCommandOutcome reading old mid o → ReadingSays reading old.held r →
    IsEndingWithReport r mid new sink sink' result → KeepsFaultsIfSteady mid new → mid.faults ≤ new.faults → sink.faults ≤ sink'.faults → Ends reading old new sink sink' result
reported_ends reading old mid new sink sink' o r result decided comes said h leaves files_later sink_later =
    let here : IsEndingWithReport r old new sink sink' result = reported_since r reading old mid new sink sink' o result comes h in
    record {
      ended = ending.reported r said here;
      no_bad_words = words_here reading decided r old new sink sink' result said here;
      statuses = λ q says. said_told reading old.held q decided says;
      only_done = only_done_by reading old.held decided;
      stays = stays_here reading decided r old new sink sink' result said here;
      steady = leaves.steady ∙ comes.steady;
      files_later = later_count old.faults mid.faults new.faults comes.later files_later;
      sink_later = sink_later;
      files_sure = λ s. leaves.sure (subst IsTrue (sym comes.steady) s.steady) ∙ comes.sure s;
      sink_sure = sink_here reading decided r old new sink sink' result said here;
      complete = complete_here reading decided r old new sink sink' result said here;
    }

unread_ends : (reading : Reading) (old mid new : FilesSeen) (sink sink' : SinkSeen) (o : Outcome) (result : Status) → IsDecided reading → IsCommandOutcome reading old mid o → HasFailedToReadInput reading old mid → FilesAndSinkStay mid new sink sink' → result ≡ Fault → Ends reading old new sink sink' result
unread_ends reading old mid new sink sink' o result decided comes failed quiet e =
    let held : new.held ≡ old.held = ap (λ (f : FilesSeen). f.held) quiet.files_stay ∙ comes.held in
    record {
      ended = ending.unread e held quiet.sink_stays (subst (λ (f : FilesSeen). HasFailedToReadInput reading old f) (sym quiet.files_stay) failed).counted failed.unsure;
      no_bad_words = λ f. cc;
      statuses = λ q says. said_told reading old.held q decided says;
      only_done = only_done_by reading old.held decided;
      stays = λ s. held;
      steady = ap (λ (f : FilesSeen). f.steady) quiet.files_stay ∙ comes.steady;
      files_later = quiet_files old mid new sink sink' comes.later quiet;
      sink_later = quiet_sink mid new sink sink' quiet;
      files_sure = λ s. absurd (failed.unsure s);
      sink_sure = λ room. ap (λ (s : SinkSeen). s.faults) quiet.sink_stays;
      complete = λ s. absurd (failed.unsure s);
    }

memory_ends : (reading : Reading) (old mid new : FilesSeen) (sink sink' : SinkSeen) (o : Outcome) (result : Status) → IsDecided reading → IsCommandOutcome reading old mid o → FilesAndSinkStay mid new sink sink' → result ≡ NoMemory → Ends reading old new sink sink' result
memory_ends reading old mid new sink sink' o result decided comes quiet e =
    let held : new.held ≡ old.held = ap (λ (f : FilesSeen). f.held) quiet.files_stay ∙ comes.held in
    record {
      ended = ending.no_memory e held quiet.sink_stays;
      no_bad_words = λ f. cc;
      statuses = λ q says. said_told reading old.held q decided says;
      only_done = only_done_by reading old.held decided;
      stays = λ s. held;
      steady = ap (λ (f : FilesSeen). f.steady) quiet.files_stay ∙ comes.steady;
      files_later = quiet_files old mid new sink sink' comes.later quiet;
      sink_later = quiet_sink mid new sink sink' quiet;
      files_sure = λ s. ap (λ (f : FilesSeen). f.faults) quiet.files_stay ∙ comes.sure s;
      sink_sure = λ room. ap (λ (s : SinkSeen). s.faults) quiet.sink_stays;
      complete = λ s room q other. inr e;
    }

pub ends : (reading : Reading) (old mid new : FilesSeen) (sink sink' : SinkSeen) (o : Outcome) (result : Status) → IsDecided reading → IsCommandOutcome reading old mid o → EndsWithOutcome o mid new sink sink' result → Ends reading old new sink sink' result
ends reading old mid new sink sink' (Ok r) result decided comes f = reported_ends reading old mid new sink sink' (Ok r) r result decided comes comes.told f.0 f.1 f.2 f.3
ends reading old mid new sink sink' (Err (stop.BadInput line)) result decided comes f =
    reported_ends reading old mid new sink sink' (Err (stop.BadInput line)) (text_report BadInput line.items) result decided comes comes.told f.0 f.1 f.2 f.3
ends reading old mid new sink sink' (Err stop.Unread) result decided comes f = unread_ends reading old mid new sink sink' (Err stop.Unread) result decided comes comes.told f.0 f.1
ends reading old mid new sink sink' (Err stop.NoMemory) result decided comes f = memory_ends reading old mid new sink sink' (Err stop.NoMemory) result decided comes f.0 f.1
