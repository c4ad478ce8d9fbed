-- What the commands of replays and of judgements promise.
use Rattle.std.proofs.Common.{◌≡◌, ◌<◌, ◌≤◌, ℕ, List, Option, Some, Err, length, subst}
use Rattle.nq_base.proofs.Ends.{one_end}
use Rattle.nq_base.specs.Status.{status_of}
use Rattle.nq_base.specs.declared.ending.ending.Ending.{Ending}
use Rattle.nq_model.specs.protocol.Kept.{Kept}
use Rattle.nq_replay.specs.Playing.{play}
use Rattle.nq_replay.proofs.Whole.{over_by_input, over_ends, over_within, refused_by_input, refused_counts, refused_ends, refused_not_done}
use Rattle.nq_replay.specs.Ending.{CountsKeeper, CountsSink, CountsSource, Ends, IsFault}
use Rattle.nq_judge.specs.Judging.{Judges}
use Rattle.nq_replay.specs.Reading.{IsReadAs, RefusedUnlessFault, Refuses}
use Rattle.nq_replay.specs.Replay.{OfInput}
use Rattle.nq_replay.specs.Schedules.{EndsOver, KeepsPlayed}
use Rattle.nq_run.proofs.Promises.{input_lawful, input_sound}
use Rattle.nq_run.specs.Checking.{ChecksFor}
use Rattle.nq_run.specs.Replaying.{ReplaysFor}
use Rattle.nq_script.specs.Schedule.{FirstBadLine, SpellsSchedule}
use Rattle.nq_script.specs.declared.heads.Head.{Head}
use Rattle.nq_script.specs.declared.lines.Line.{Line}
use Rattle.nq_script.specs.declared.scripts.Script.{Script}

-- a schedule that was read, and replayed
pub replays_for : (end : Ending) (script : Script) (limit code : ℕ) (left rest held now : Option (List ℕ)) (r r' w w' k k' : ℕ) (told : Option Kept)
    → code ≡ status_of end
    → OfInput limit left rest (λ text. IsReadAs script text) → EndsOver end script.head (play script.head script.lines) held now w w'
    → (end ≡ Ending.Done → KeepsPlayed script.head (play script.head script.lines) told) → CountsKeeper end k k' → CountsSource end r r'
    → CountsSink end w w' → ReplaysFor limit code left rest held now r r' w w' k k' told
replays_for end script limit code left rest held now r r' w w' k k' told status read ends keeps counts source sink = record {
  end = end;
  status = status;
  ends = over_ends end script limit left rest held now r r' w w' read ends;
  by_input = over_by_input end script limit left rest held now r r' w w' k k' read ends counts;
  counts = counts;
  source = source;
  sink = sink;
  headline = λ done. input_lawful limit left rest held now told (over_within end script limit left rest held now told w w' read ends keeps done);
  sound = λ done. input_sound limit left rest held now told (over_within end script limit left rest held now told w w' read ends keeps done);
}

-- no schedule was read
pub refused_for : (end : Ending) (limit code : ℕ) (left rest held now : Option (List ℕ)) (r r' w w' k : ℕ) (told : Option Kept) → code ≡ status_of end
    → Refuses end limit left rest held now r r' w w'
    → ((text : List ℕ) → left ≡ Some text → limit < length text → RefusedUnlessFault (Err end) Ending.Limit r r' w w')
    → ((text : List ℕ) → left ≡ Some text → length text ≤ limit → (number : ℕ) → FirstBadLine text number → RefusedUnlessFault (Err end) Ending.Script
    r r' w w')
    → ((text : List ℕ) → left ≡ Some text → length text ≤ limit → (head : Head) (lines : List Line) → SpellsSchedule head lines text → IsFault end r r' w w')
    → CountsSource end r r' → CountsSink end w w' → ReplaysFor limit code left rest held now r r' w w' k k told
refused_for end limit code left rest held now r r' w w' k told status refuses over bad spelled source sink = record {
  end = end;
  status = status;
  ends = refused_ends end limit left rest held now r r' w w' refuses;
  by_input = refused_by_input end limit left r r' w w' k k over bad spelled;
  counts = refused_counts end limit left rest held now r r' w w' k refuses;
  source = source;
  sink = sink;
  headline = λ done. absurd (refused_not_done end limit left rest held now r r' w w' refuses done);
  sound = λ done. absurd (refused_not_done end limit left rest held now r r' w w' refuses done);
}

-- a replay does not end with usage
pub replay_usage : (limit code : ℕ) (left rest held now : Option (List ℕ)) (r r' w w' k k' : ℕ) (told : Option Kept) → ReplaysFor limit code left rest
    held now r r' w w' k k' told → code ≡ status_of Ending.Usage → ⊥
replay_usage limit code left rest held now r r' w w' k k' told does none =
    subst (λ e. Ends e limit left rest held now r r' w w') (one_end does.end Ending.Usage code does.status none) does.ends

-- a judgement does not either
pub check_usage : (limit code : ℕ) (left rest held now : Option (List ℕ)) (r r' w w' : ℕ) → ChecksFor limit code left rest held now r r' w w'
    → code ≡ status_of Ending.Usage → ⊥
check_usage limit code left rest held now r r' w w' does none =
    subst (λ e. Judges e limit left rest held now r r' w w') (one_end does.end Ending.Usage code does.status none) does.judges
