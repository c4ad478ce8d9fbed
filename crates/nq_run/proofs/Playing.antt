-- A replay over a disk, from what it does over the store of that disk.
use Rattle.std.proofs.Common.{◌≡◌, ◌<◌, ◌≤◌, ℕ, List, Bool, true, false, Option, Some, Err, inl, inr, refl, subst, length}
use Rattle.nq_service.specs.Emptying.{EmptiesNot}
use Rattle.nq_run.specs.Running.{PlaysOn, ReplaysOn}
use Rattle.nq_base.specs.declared.Event.{Event}
use Rattle.nq_base.proofs.Ends.{one_end}
use Rattle.nq_base.specs.Status.{status_of}
use Rattle.nq_base.specs.declared.ending.ending.Ending.{Ending}
use Rattle.nq_model.specs.protocol.Kept.{Kept}
use Rattle.nq_replay.specs.AsidesPlaying.{Ended, ran, stopped}
use Rattle.nq_replay.specs.Playing.{play}
use Rattle.nq_replay.proofs.Outcomes.{memory_before}
use Rattle.nq_replay.specs.Ending.{CountsKeeper, CountsSink, CountsSource, IsFault}
use Rattle.nq_replay.specs.Reading.{IsReadAs, RefusedUnlessFault, Refuses}
use Rattle.nq_replay.specs.Replay.{OfInput}
use Rattle.nq_replay.specs.Schedules.{EndsOver, KeepsPlayed}
use Rattle.nq_run.proofs.Hiding.{hides_not, hides_store, hides_untouched}
use Rattle.nq_run.proofs.ReplayPromises.{refused_for, replay_usage, replays_for}
use Rattle.nq_script.specs.Schedule.{FirstBadLine, SpellsSchedule}
use Rattle.nq_script.specs.declared.heads.Head.{Head}
use Rattle.nq_script.specs.declared.lines.Line.{Line}
use Rattle.nq_script.specs.declared.scripts.Script.{Script}
use Rattle.nq_store.specs.Storing.{GoesOn, IsFresh, StoredStore, content_of, content_while, faults_of, kept_told}

-- ---- what a store tells

-- what a store tells, its disk stands for
pub kept_while : (ended : Bool) (bytes : Option (List ℕ)) (kept : Kept) → content_while ended bytes ≡ Some kept → kept_told bytes ≡ Some kept
kept_while true bytes kept is = absurd (cc)
kept_while false bytes kept is = is

keeps-on : (head : Head) (due : Ended (List Event)) (ended : Bool) (bytes : Option (List ℕ)) → KeepsPlayed head due (content_while ended bytes)
    → KeepsPlayed head due (kept_told bytes)
keeps-on head (ran events) ended bytes keeps = kept_while ended bytes _ keeps
keeps-on head (stopped line answer) ended bytes keeps = absurd keeps

-- ---- where no empty store was made

ends-not : (end : Ending) (head : Head) (due : Ended (List Event)) (held : Option (List ℕ)) (w before count : ℕ) → EmptiesNot end before count
    → EndsOver end head due held held w w
ends-not Ending.KeepFault head due held w before count fails = inr (refl, refl)
ends-not Ending.Memory head due held w before count fails = inl (memory_before head due held w)
ends-not other head due held w before count fails = absurd fails

never-done : (end : Ending) (before count : ℕ) → EmptiesNot end before count → end ≡ Ending.Done → ⊥
never-done end before count fails done = subst (λ e. EmptiesNot e before count) done fails

counts-not : (end : Ending) (before count : ℕ) → EmptiesNot end before count → CountsKeeper end before count
counts-not Ending.KeepFault before count fails = fails
counts-not Ending.Memory before count fails = fails
counts-not other before count fails = absurd fails

sinks-not : (end : Ending) (w before count : ℕ) → EmptiesNot end before count → CountsSink end w w
sinks-not Ending.KeepFault w before count fails = refl
sinks-not Ending.Memory w before count fails = refl
sinks-not other w before count fails = absurd fails

pub plays_not : (end : Ending) (code : ℕ) (head : Head) (due : Ended (List Event)) (held : Option (List ℕ)) (w before count : ℕ) (bytes : Option (List ℕ))
    → code ≡ status_of end
    → EmptiesNot end before count → PlaysOn head due code held held w w before count bytes
plays_not end code head due held w before count bytes status fails = record {
  end = end;
  status = status;
  ends = ends-not end head due held w before count fails;
  keeps = λ done. absurd (never-done end before count fails done);
  sink = sinks-not end w before count fails;
  first = before;
  last = count;
  counts = counts-not end before count fails;
  hides = hides_not end code before count status fails;
}

-- ---- over a store

module _ {D : Type 0} (told : D → Option (List ℕ)) (faults : D → ℕ) (follows : D → D → Type 0) where
  pub plays_store : (end : Ending) (code : ℕ) (head : Head) (due : Ended (List Event)) (held now : Option (List ℕ)) (w w' : ℕ) (disk : D)
      (store served : StoredStore D)
      → code ≡ status_of end → ((first last : D) → follows first last → faults first ≤ faults last) → IsFresh store → faults store.disk ≡ faults disk
      → GoesOn faults follows store served → EndsOver end head due held now w w' → (end ≡ Ending.Done → KeepsPlayed head due (content_of told served))
      → CountsKeeper end (faults_of faults store) (faults_of faults served) → CountsSink end w w'
      → PlaysOn head due code held now w w' (faults disk) (faults served.disk) (told served.disk)
  plays_store end code head due held now w w' disk store served status rises fresh same goes ends keeps counts sink = record {
    end = end;
    status = status;
    ends = ends;
    keeps = λ done. keeps-on head due served.ended (told served.disk) (keeps done);
    sink = sink;
    first = faults_of faults store;
    last = faults_of faults served;
    counts = counts;
    hides = hides_store faults follows end code disk store served status rises fresh same goes counts;
  }

-- ---- with the reading

never-unread : (head : Head) (due : Ended (List Event)) (held now : Option (List ℕ)) (w w' : ℕ) → EndsOver Ending.ReadFault head due held now w w' → ⊥
never-unread head (ran events) held now w w' (inl ends) = absurd ends
never-unread head (ran events) held now w w' (inr failed) = let is = failed.0 in absurd (cc)
never-unread head (stopped line answer) held now w w' (inl ends) = absurd ends
never-unread head (stopped line answer) held now w w' (inr failed) = let is = failed.0 in absurd (cc)

-- playing a schedule counts no fault of the source
played-source : (end : Ending) (head : Head) (due : Ended (List Event)) (held now : Option (List ℕ)) (r r' w w' : ℕ) → EndsOver end head due held now w w'
    → r' ≡ r → CountsSource end r r'
played-source Ending.ReadFault head due held now r r' w w' ends same = absurd (never-unread head due held now w w' ends)
played-source other head due held now r r' w w' ends same = same

-- a schedule that was read
pub replays_on : {D : Type 0} (script : Script) (limit code : ℕ) (left rest held now : Option (List ℕ)) (r r' w w' before count : ℕ)
    (bytes : Option (List ℕ)) (disk disk' : D)
    → OfInput limit left rest (λ text. IsReadAs script text) → r' ≡ r
    → PlaysOn script.head (play script.head script.lines) code held now w w' before count bytes
    → ((text : List ℕ) → left ≡ Some text → limit < length text → ⊥)
    → ((text : List ℕ) → left ≡ Some text → length text ≤ limit → (number : ℕ) → FirstBadLine text number → ⊥)
    → ReplaysOn limit code left rest held now r r' w w' before count bytes disk disk'
replays_on script limit code left rest held now r r' w w' before count bytes disk disk' read same p over bad = record {
  replays = record {
    first = p.first;
    last = p.last;
    does = replays_for p.end script limit code left rest held now r r' w w' p.first p.last (kept_told bytes) p.status read p.ends p.keeps p.counts
        (played-source p.end script.head (play script.head script.lines) held now r r' w w' p.ends same) p.sink;
    hides = p.hides;
  };
  over = λ text is more. absurd (over text is more);
  bad = λ text is fits number line. absurd (bad text is fits number line);
  unread = λ four. absurd (never-unread script.head (play script.head script.lines) held now w w'
      (subst (λ e. EndsOver e script.head (play script.head script.lines) held now w w') (one_end p.end Ending.ReadFault code p.status four) p.ends));
}

-- none was read
pub refused_on : {D : Type 0} (end : Ending) (limit code : ℕ) (left rest held now : Option (List ℕ)) (r r' w w' before : ℕ)
    (bytes : Option (List ℕ)) (disk : D) → code ≡ status_of end
    → Refuses end limit left rest held now r r' w w'
    → ((text : List ℕ) → left ≡ Some text → limit < length text → RefusedUnlessFault (Err end) Ending.Limit r r' w w')
    → ((text : List ℕ) → left ≡ Some text → length text ≤ limit → (number : ℕ) → FirstBadLine text number → RefusedUnlessFault (Err end) Ending.Script
    r r' w w')
    → ((text : List ℕ) → left ≡ Some text → length text ≤ limit → (head : Head) (lines : List Line) → SpellsSchedule head lines text → IsFault end r r' w w')
    → CountsSource end r r' → CountsSink end w w' → ReplaysOn limit code left rest held now r r' w w' before before bytes disk disk
refused_on end limit code left rest held now r r' w w' before bytes disk status refuses over bad spelled source sink = record {
  replays = record {
    first = 0;
    last = 0;
    does = refused_for end limit code left rest held now r r' w w' 0 (kept_told bytes) status refuses over bad spelled source sink;
    hides = hides_untouched code before 0 (λ six. absurd (subst (λ e. Refuses e limit left rest held now r r' w w')
        (one_end end Ending.KeepFault code status six) refuses));
  };
  over = λ text is more. refl;
  bad = λ text is fits number line. refl;
  unread = λ four. refl;
}

-- a replay does not end with usage
pub replays_usage : {D : Type 0} (limit code : ℕ) (left rest held now : Option (List ℕ)) (r r' w w' before count : ℕ) (bytes : Option (List ℕ))
    (disk disk' : D)
    → ReplaysOn limit code left rest held now r r' w w' before count bytes disk disk' → code ≡ status_of Ending.Usage → ⊥
replays_usage limit code left rest held now r r' w w' before count bytes disk disk' does none =
    replay_usage limit code left rest held now r r' w w' does.replays.first does.replays.last (kept_told bytes) does.replays.does none
