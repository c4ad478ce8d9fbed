-- How a loop ends.
use Rattle.std.proofs.Common.{◌≡◌, ◌⊎◌, ℕ, List, [], map, Option, Result, Ok, Err, inl, inr, refl, subst, sym}
use Rattle.std.proofs.lemmas.List.{reverse-reverse}
use Rattle.std.specs.List.{AllByRecursion}
use Rattle.std.specs.Prelude.{reverse}
use Rattle.nq_clock.specs.Clocks.{ClockTold}
use Rattle.nq_base.specs.declared.Event.{Event}
use Rattle.nq_base.specs.declared.ending.ending.Ending.{Ending}
use Rattle.nq_loop.proofs.Playing.{plays-taken}
use Rattle.nq_loop.proofs.Takings.{now_at}
use Rattle.nq_loop.specs.Counting.{Counts}
use Rattle.nq_loop.specs.Holding.{CountsKeep, IsLooped, IsLooping, Loop, Stands}
use Rattle.nq_loop.specs.Looped.{HasEnded, IsWhole, KeepsLoop, LoopEnds, MayLack, PrintsLoop, StopsSilently, TellsEnd, TellsStopped, between}
use Rattle.nq_loop.specs.Printed.{PrintsRan, PrintsSpelled, loop_text}
use Rattle.nq_loop.specs.Turning.{Between, Ran, Stops, TakesTurns}
use Rattle.nq_loop.specs.Whole.{loop_head}
use Rattle.nq_loop.specs.declared.turns.Halt.{Halt}
use Rattle.nq_model.specs.protocol.World.{Head as Beginning}
use Rattle.nq_link.specs.Links.{LinkTold}
use Rattle.nq_replay.proofs.Lawfully.{played-runs-are-lawful}
use Rattle.nq_replay.specs.Delivering.{Marks}
use Rattle.nq_replay.specs.Playing.{beginning}
use Rattle.nq_replay.proofs.Printings.{bytes_end}
use Rattle.nq_replay.specs.Ending.{CountsKeeper}
use Rattle.nq_replay.specs.Schedules.{TellsStop}
use Rattle.nq_script.specs.Lines.{once}
use Rattle.nq_script.specs.Schedule.{SpellsSchedule}
use Rattle.nq_script.specs.declared.heads.Head.{Head}
use Rattle.nq_world.specs.Playing.{Plays}
use Rattle.nq_world.specs.declared.Limit.{Limit}
use Rattle.nq_world.specs.declared.Stepped.{Stepped}

-- ---- what is told

pub limited-tells : (end : Ending) (limit : Limit) (held now : Option (List ℕ)) (w w' : ℕ) → TellsStop end 0 (Stepped.Limit limit) held now w w'
    → TellsStopped end (Err (Halt.Limit limit)) held now w w'
limited-tells Ending.Limit limit held now w w' tells = inr (inr (inl (refl, record { limit = limit; reached = refl; printed = tells })))
limited-tells Ending.Memory limit held now w w' tells = inr (inr (inr (refl, tt, tells)))
limited-tells other limit held now w w' tells = absurd tells

-- ---- the loop as a whole

ran-all : (last : Result Unit Halt) (head : Beginning) (turns : ℕ) (at after : Between) → HasEnded last → TakesTurns head turns last at after
    → Ran head turns at after
ran-all (Ok done) head turns at after ended takes = takes
ran-all (Err why) head turns at after ended takes = absurd ended

is-looping : {K : Type 0} (last : Result Unit Halt) (head : Beginning) (l : Loop K) → HasEnded last → Stands head last l → IsLooping head l
is-looping (Ok done) head l ended stands = stands
is-looping (Err why) head l ended stands = absurd ended

-- the events are of a loop, however it stands
pub are-looped : {K : Type 0} (last : Result Unit Halt) (head : Beginning) (l : Loop K) → Stands head last l → AllByRecursion (IsLooped head.hosts) l.ran
are-looped (Ok done) head l stands = stands.looped
are-looped (Err Halt.Link) head l stands = stands.looped
are-looped (Err Halt.Keep) head l stands = stands.looped
are-looped (Err Halt.Memory) head l stands = stands.looped
are-looped (Err (Halt.Limit limit)) head l stands = stands.looped

is-whole : {K : Type 0} (hosts turns : ℕ) (text : List ℕ) (clock clock' : ClockTold) (links : List LinkTold) (l : Loop K)
    → Ran (beginning (loop_head hosts)) turns (between [] links clock) (now_at l clock') → IsLooping (beginning (loop_head hosts)) l
    → SpellsSchedule (loop_head hosts) (map once l.ran) text → IsWhole hosts turns text (reverse l.ran) clock clock' links l.links
is-whole hosts turns text clock clock' links l turned looping spelled =
    let played = plays-taken (loop_head hosts) l.ran looping.taken in
    record {
      turned = turned;
      spelled = subst (λ es. SpellsSchedule (loop_head hosts) (map once es) text) (sym (reverse-reverse l.ran)) spelled;
      runs = record { lines = map once l.ran; spelled = spelled; played = played };
      lawful = played-runs-are-lawful (loop_head hosts) (map once l.ran) text (reverse l.ran) spelled played;
    }

prints-loop : {K : Type 0} (end : Ending) (hosts turns : ℕ) (clock clock' : ClockTold) (links : List LinkTold) (l : Loop K)
    (held now : Option (List ℕ)) (w w' : ℕ) → Ran (beginning (loop_head hosts)) turns (between [] links clock) (now_at l clock')
    → IsLooping (beginning (loop_head hosts)) l → PrintsSpelled end (loop_head hosts) l.ran held now w w' → PrintsLoop end hosts turns clock clock'
    links l.links held now w w'
prints-loop end hosts turns clock clock' links l held now w w' turned looping prints = record {
  text = prints.text;
  events = reverse l.ran;
  whole = is-whole hosts turns prints.text clock clock' links l turned looping prints.spelled;
  printed = prints.printed;
}

by-end : (end : Ending) (hosts turns : ℕ) (clock clock' : ClockTold) (links links' : List LinkTold) (held now : Option (List ℕ)) (w w' : ℕ)
    → PrintsLoop end hosts turns clock clock' links links' held now w w' → (end ≡ Ending.Done) ⊎ ((end ≡ Ending.WriteFault) ⊎ (end ≡ Ending.Memory))
    → LoopEnds end hosts turns clock clock' links links' held now w w'
by-end end hosts turns clock clock' links links' held now w w' printed (inl done) =
    subst (λ e. LoopEnds e hosts turns clock clock' links links' held now w w') (sym done) (subst (λ e. PrintsLoop e hosts turns clock clock' links
    links' held now w w') done printed)
by-end end hosts turns clock clock' links links' held now w w' printed (inr (inl failed)) =
    subst (λ e. LoopEnds e hosts turns clock clock' links links' held now w w') (sym failed) (subst (λ e. PrintsLoop e hosts turns clock clock' links
    links' held now w w') failed printed)
by-end end hosts turns clock clock' links links' held now w w' printed (inr (inr wanting)) =
    subst (λ e. LoopEnds e hosts turns clock clock' links links' held now w w') (sym wanting)
    (inr (inr (subst (λ e. PrintsLoop e hosts turns clock clock' links links' held now w w') wanting printed)))

prints-by : (end : Ending) (hosts turns : ℕ) (clock clock' : ClockTold) (links links' : List LinkTold) (held now : Option (List ℕ)) (w w' : ℕ)
    → PrintsLoop end hosts turns clock clock' links links' held now w w' → LoopEnds end hosts turns clock clock' links links' held now w w'
prints-by end hosts turns clock clock' links links' held now w w' printed =
    by-end end hosts turns clock clock' links links' held now w w' printed (bytes_end end (loop_text (loop_head hosts) printed.text printed.events)
    held now w w' printed.printed)

lacks : {K : Type 0} (end : Ending) (last : Result Unit Halt) (hosts turns : ℕ) (clock clock' : ClockTold) (links : List LinkTold) (l : Loop K)
    (held now : Option (List ℕ)) (w w' : ℕ) → TakesTurns (beginning (loop_head hosts)) turns last (between [] links clock) (now_at l clock')
    → end ≡ Ending.Memory → MayLack last → now ≡ held → LoopEnds end hosts turns clock clock' links l.links held now w w'
lacks end last hosts turns clock clock' links l held now w w' takes wanting may none =
    subst (λ e. LoopEnds e hosts turns clock clock' links l.links held now w w') (sym wanting)
    (inr (inl (record { last = last; lacking = may; events = reverse l.ran; taken = takes; silent = none })))

may-lack : (last : Result Unit Halt) → HasEnded last → MayLack last
may-lack (Ok done) ended = tt
may-lack (Err why) ended = absurd ended

stops-silently : {K : Type 0} (why : Halt) (hosts turns : ℕ) (clock clock' : ClockTold) (links : List LinkTold) (l : Loop K)
    (held now : Option (List ℕ)) (w w' : ℕ)
    → Stops (beginning (loop_head hosts)) turns why (between [] links clock) (now_at l clock') → now ≡ held → w' ≡ w → StopsSilently why hosts turns
    clock clock' links l.links held now w w'
stops-silently why hosts turns clock clock' links l held now w w' stops none same = record {
  events = reverse l.ran;
  stops = stops;
  silent =
      none;
  count = same;
}

pub ends : {K : Type 0} (end : Ending) (last : Result Unit Halt) (hosts turns : ℕ) (clock clock' : ClockTold) (links : List LinkTold) (l : Loop K)
    (held now : Option (List ℕ)) (w w' : ℕ) → TakesTurns (beginning (loop_head hosts)) turns last (between [] links clock) (now_at l clock')
    → Stands (beginning (loop_head hosts)) last l → TellsEnd end last (loop_head hosts) l.world l.kept l.ran held now w w'
    → LoopEnds end hosts turns clock clock' links l.links held now w w'
ends end last hosts turns clock clock' links l held now w w' takes stands (inl printed) =
    let head = beginning (loop_head hosts) in
    let looping = is-looping last head l printed.0 stands in
    let turned = ran-all last head turns (between [] links clock) (now_at l clock') printed.0 takes in
    elim (printed.1 looping.plays) [
      | inl some ↦
          prints-by end hosts turns clock clock' links l.links held now w w' (prints-loop end hosts turns clock clock' links l held now w w' turned
          looping some)
      | inr none ↦ lacks end last hosts turns clock clock' links l held now w w' takes none.0 (may-lack last printed.0) none.1
    ]
ends end last hosts turns clock clock' links l held now w w' takes stands (inr (inl failed)) =
    let head = beginning (loop_head hosts) in
    let stops = subst (λ t. TakesTurns head turns t (between [] links clock) (now_at l clock')) failed.1 takes in
    subst (λ e. LoopEnds e hosts turns clock clock' links l.links held now w w') (sym failed.0)
    (stops-silently Halt.Link hosts turns clock clock' links l held now w w' stops failed.2 failed.3)
ends end last hosts turns clock clock' links l held now w w' takes stands (inr (inr (inl failed))) =
    let head = beginning (loop_head hosts) in
    let stops = subst (λ t. TakesTurns head turns t (between [] links clock) (now_at l clock')) failed.1 takes in
    subst (λ e. LoopEnds e hosts turns clock clock' links l.links held now w w') (sym failed.0)
    (inr (stops-silently Halt.Keep hosts turns clock clock' links l held now w w' stops failed.2 failed.3))
ends end last hosts turns clock clock' links l held now w w' takes stands (inr (inr (inr (inl reached)))) =
    let head = beginning (loop_head hosts) in
    let stops = subst (λ t. TakesTurns head turns t (between [] links clock) (now_at l clock')) reached.1.reached takes in
    subst (λ e. LoopEnds e hosts turns clock clock' links l.links held now w w') (sym reached.0)
    (record { events = reverse l.ran; limit = reached.1.limit; stops = stops; printed = reached.1.printed })
ends end last hosts turns clock clock' links l held now w w' takes stands (inr (inr (inr (inr wanting)))) =
    lacks end last hosts turns clock clock' links l held now w w' takes wanting.0 wanting.1 wanting.2

-- ---- what is kept at the end

keeps-ran : {K : Type 0} (hosts turns : ℕ) (clock clock' : ClockTold) (links : List LinkTold) (l : Loop K) (held now : Option (List ℕ)) (w w' : ℕ)
    → Ran (beginning (loop_head hosts)) turns (between [] links clock) (now_at l clock')
    → IsLooping (beginning (loop_head hosts)) l → PrintsSpelled Ending.Done (loop_head hosts) l.ran held now w w' → KeepsLoop hosts turns clock clock'
    links l.links held now l.kept
keeps-ran hosts turns clock clock' links l held now w w' turned looping prints = record {
  text = prints.text;
  events = reverse l.ran;
  whole = is-whole hosts turns prints.text clock clock' links l turned looping prints.spelled;
  printed = prints.printed;
  keeps = looping.plays.keeps;
}

pub keeps-loop : {K : Type 0} (end : Ending) (last : Result Unit Halt) (hosts turns : ℕ) (clock clock' : ClockTold) (links : List LinkTold) (l : Loop K)
    (held now : Option (List ℕ)) (w w' : ℕ) → TakesTurns (beginning (loop_head hosts)) turns last (between [] links clock) (now_at l clock')
    → Stands (beginning (loop_head hosts)) last l → TellsEnd end last (loop_head hosts) l.world l.kept l.ran held now w w' → end ≡ Ending.Done
    → KeepsLoop hosts turns clock clock' links l.links held now l.kept
keeps-loop end last hosts turns clock clock' links l held now w w' takes stands (inl printed) done =
    let head = beginning (loop_head hosts) in
    let looping = is-looping last head l printed.0 stands in
    let turned = ran-all last head turns (between [] links clock) (now_at l clock') printed.0 takes in
    elim (printed.1 looping.plays) [
      | inl some ↦
          keeps-ran hosts turns clock clock' links l held now w w' turned looping (subst (λ e. PrintsSpelled e (loop_head hosts) l.ran held now w w')
          done some)
      | inr none ↦ let wanting = none.0 in absurd (cc)
    ]
keeps-loop end last hosts turns clock clock' links l held now w w' takes stands (inr (inl failed)) done = let is = failed.0 in absurd (cc)
keeps-loop end last hosts turns clock clock' links l held now w w' takes stands (inr (inr (inl failed))) done = let is = failed.0 in absurd (cc)
keeps-loop end last hosts turns clock clock' links l held now w w' takes stands (inr (inr (inr (inl reached)))) done = let is = reached.0 in absurd (cc)
keeps-loop end last hosts turns clock clock' links l held now w w' takes stands (inr (inr (inr (inr wanting)))) done = let is = wanting.0 in absurd (cc)

-- ---- the keeper's faults

same-ended : (last : Result Unit Halt) (before count : ℕ) → HasEnded last → CountsKeep last before count → count ≡ before
same-ended (Ok done) before count ended counts = counts
same-ended (Err why) before count ended counts = absurd ended

same-lacking : (last : Result Unit Halt) (before count : ℕ) → MayLack last → CountsKeep last before count → count ≡ before
same-lacking (Ok done) before count may counts = counts
same-lacking (Err Halt.Link) before count may counts = counts
same-lacking (Err Halt.Keep) before count may counts = absurd may
same-lacking (Err Halt.Memory) before count may counts = counts
same-lacking (Err (Halt.Limit limit)) before count may counts = counts

counts-by : (end : Ending) (before count : ℕ) → count ≡ before → (end ≡ Ending.Done) ⊎ ((end ≡ Ending.WriteFault) ⊎ (end ≡ Ending.Memory))
    → CountsKeeper end before count
counts-by end before count same (inl is) = rw is same
counts-by end before count same (inr (inl is)) = rw is same
counts-by end before count same (inr (inr is)) = rw is same

counts-printed : (end : Ending) (head : Head) (ran : List Event) (held now : Option (List ℕ)) (w w' before count : ℕ) → PrintsRan end head ran held
    now w w' → count ≡ before → CountsKeeper end before count
counts-printed end head ran held now w w' before count (inl printed) same =
    counts-by end before count same (bytes_end end (loop_text head printed.text (reverse ran)) held now w w' printed.printed)
counts-printed end head ran held now w w' before count (inr none) same = counts-by end before count same (inr (inr none.0))

pub counts-loop : {K : Type 0} (end : Ending) (last : Result Unit Halt) (hosts : ℕ) (l : Loop K) (held now : Option (List ℕ)) (w w' before count : ℕ)
    → Stands (beginning (loop_head hosts)) last l
    → TellsEnd end last (loop_head hosts) l.world l.kept l.ran held now w w' → CountsKeep last before count → CountsKeeper end before count
counts-loop end last hosts l held now w w' before count stands (inl printed) counts =
    let looping = is-looping last (beginning (loop_head hosts)) l printed.0 stands in
    counts-printed end (loop_head hosts) l.ran held now w w' before count (printed.1 looping.plays) (same-ended last before count printed.0 counts)
counts-loop end last hosts l held now w w' before count stands (inr (inl failed)) counts =
    subst (λ e. CountsKeeper e before count) (sym failed.0) (subst (λ t. CountsKeep t before count) failed.1 counts)
counts-loop end last hosts l held now w w' before count stands (inr (inr (inl failed))) counts =
    subst (λ e. CountsKeeper e before count) (sym failed.0) (subst (λ t. CountsKeep t before count) failed.1 counts)
counts-loop end last hosts l held now w w' before count stands (inr (inr (inr (inl reached)))) counts =
    subst (λ e. CountsKeeper e before count) (sym reached.0) (subst (λ t. CountsKeep t before count) reached.1.reached counts)
counts-loop end last hosts l held now w w' before count stands (inr (inr (inr (inr wanting)))) counts =
    subst (λ e. CountsKeeper e before count) (sym wanting.0) (same-lacking last before count wanting.1 counts)

-- ---- before the first turn

pub begins : {K : Type 0} (head : Beginning) (l : Loop K) → l.ran ≡ [] → Plays head [] l.world l.kept → Marks l.state.flags [] → Counts l.state.begun
    [] → IsLooping head l
begins head l none plays marks counts = record {
  plays = rw none plays;
  marks = rw none marks;
  counts = rw none counts;
  taken = rw none tt;
  looped = rw none tt;
}
