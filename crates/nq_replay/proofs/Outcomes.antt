-- What running a schedule that was read comes to.
use Rattle.std.proofs.Common.{◌≡◌, ◌⊎◌, inl, inr, ℕ, List, Option, refl, sym, subst}
use Rattle.nq_base.specs.declared.Event.{Event}
use Rattle.nq_base.specs.declared.SkewBroken.{SkewBroken}
use Rattle.nq_base.specs.declared.ending.ending.Ending.{Ending}
use Rattle.nq_model.specs.protocol.Stepped.{Stepped as Answer, done, no_packet, out_of_skew, too_many_events, too_many_packets}
use Rattle.nq_replay.specs.AsidesGoing.{Comes, StoppedAt}
use Rattle.nq_replay.specs.AsidesPlaying.{Ended, ran, stopped}
use Rattle.nq_replay.specs.Playing.{play}
use Rattle.nq_replay.specs.declared.play.played.Played.{Played}
use Rattle.nq_replay.specs.Ending.{EndsText, IsUnlessFault}
use Rattle.nq_replay.specs.Replay.{FaultyLine, Passes, Runs, Stops}
use Rattle.nq_replay.specs.Schedules.{EndsPlayed, TellsStop}
use Rattle.nq_replay.specs.declared.printing.Bound.{Bound}
use Rattle.nq_script.specs.Faults.{Names}
use Rattle.nq_script.specs.Schedule.{FirstBadLine, SpellsSchedule}
use Rattle.nq_script.specs.declared.faults.ScriptFault.{ScriptFault}
use Rattle.nq_script.specs.declared.heads.Head.{Head}
use Rattle.nq_script.specs.declared.lines.Line.{Line}
use Rattle.nq_world.specs.Answering.{told as answer_of}
use Rattle.nq_world.specs.declared.stepped.Limit.{Limit}
use Rattle.nq_world.specs.declared.stepped.Stepped.{Stepped}

-- ---- what was printed

text_of_run : (end : Ending) (head : Head) (events : List Event) (text : List ℕ) (held now : Option (List ℕ)) (w w' : ℕ) → Runs text head events
    → EndsPlayed end head (ran events) held now w w' → EndsText end text held now w w'
text_of_run Ending.Done head events text held now w w' runs prints = record { head = head; events = events; runs = runs; printed = prints }
text_of_run Ending.WriteFault head events text held now w w' runs prints =
    (record { head = head; events = events; runs = runs; printed = prints.0 }, prints.1)
text_of_run Ending.Memory head events text held now w w' runs (inl same) = inl same
text_of_run Ending.Memory head events text held now w w' runs (inr front) = inr (record { head = head; events = events; runs = runs; printed = front })
text_of_run other head events text held now w w' runs prints = absurd prints

text_of_packet : (end : Ending) (line : ℕ) (text : List ℕ) (held now : Option (List ℕ)) (w w' : ℕ) → FaultyLine text line
    → TellsStop end line Stepped.NoPacket held now w w' → EndsText end text held now w w'
text_of_packet Ending.Script line text held now w w' faulty tells = record { number = line; faulty = faulty; printed = tells }
text_of_packet Ending.Memory line text held now w w' faulty tells = inl tells
text_of_packet other line text held now w w' faulty tells = absurd tells

text_of_skew : (end : Ending) (line : ℕ) (broken : SkewBroken) (text : List ℕ) (held now : Option (List ℕ)) (w w' : ℕ)
    → Stops text line (out_of_skew broken) → TellsStop end line (Stepped.SkewBroken broken) held now w w' → EndsText end text held now w w'
text_of_skew Ending.Skew line broken text held now w w' stops tells = record { number = line; broken = broken; breaks = stops; printed = tells }
text_of_skew Ending.Memory line broken text held now w w' stops tells = inl tells
text_of_skew other line broken text held now w w' stops tells = absurd tells

text_of_events : (end : Ending) (line : ℕ) (text : List ℕ) (held now : Option (List ℕ)) (w w' : ℕ) → Stops text line too_many_events
    → TellsStop end line (Stepped.Limit Limit.Events) held now w w' → EndsText end text held now w w'
text_of_events Ending.Memory line text held now w w' stops tells = inl tells
text_of_events Ending.Limit line text held now w w' stops tells = record { number = line; bound = Bound.Events; passes = stops; printed = tells }
text_of_events other line text held now w w' stops tells = absurd tells

text_of_packets : (end : Ending) (line : ℕ) (text : List ℕ) (held now : Option (List ℕ)) (w w' : ℕ) → Stops text line too_many_packets
    → TellsStop end line (Stepped.Limit Limit.Packets) held now w w' → EndsText end text held now w w'
text_of_packets Ending.Memory line text held now w w' stops tells = inl tells
text_of_packets Ending.Limit line text held now w w' stops tells = record { number = line; bound = Bound.Packets; passes = stops; printed = tells }
text_of_packets other line text held now w w' stops tells = absurd tells

text_of_done : (end : Ending) (line : ℕ) (text : List ℕ) (held now : Option (List ℕ)) (w w' : ℕ) → TellsStop end line Stepped.Done held now w w'
    → EndsText end text held now w w'
text_of_done Ending.Memory line text held now w w' tells = inl tells
text_of_done other line text held now w w' tells = absurd tells

text_of_stop : (end : Ending) (head : Head) (line : ℕ) (answer : Answer) (text : List ℕ) (held now : Option (List ℕ)) (w w' : ℕ)
    → Stops text line answer → TellsStop end line (answer_of answer) held now w w' → EndsText end text held now w w'
text_of_stop end head line done text held now w w' stops tells = text_of_done end line text held now w w' tells
text_of_stop end head line no_packet text held now w w' stops tells = text_of_packet end line text held now w w' (inr stops) tells
text_of_stop end head line (out_of_skew broken) text held now w w' stops tells = text_of_skew end line broken text held now w w' stops tells
text_of_stop end head line too_many_events text held now w w' stops tells = text_of_events end line text held now w w' stops tells
text_of_stop end head line too_many_packets text held now w w' stops tells = text_of_packets end line text held now w w' stops tells

-- a schedule that was read
text_of_due : (end : Ending) (head : Head) (lines : List Line) (due : Ended (List Event)) (text : List ℕ) (held now : Option (List ℕ)) (w w' : ℕ)
    → SpellsSchedule head lines text → play head lines ≡ due → EndsPlayed end head due held now w w' → EndsText end text held now w w'
text_of_due end head lines (ran events) text held now w w' spelled is ends = text_of_run end head events text held now w w'
    (record { lines = lines; spelled = spelled; played = is }) ends
text_of_due end head lines (stopped line answer) text held now w w' spelled is ends = text_of_stop end head line answer text held now w w'
    (record { head = head; lines = lines; spelled = spelled; stopped = is }) ends

pub text_of_schedule : (end : Ending) (head : Head) (lines : List Line) (text : List ℕ) (held now : Option (List ℕ)) (w w' : ℕ)
    → SpellsSchedule head lines text → EndsPlayed end head (play head lines) held now w w' → EndsText end text held now w w'
text_of_schedule end head lines text held now w w' spelled ends = text_of_due end head lines (play head lines) text held now w w' spelled refl ends

-- ---- which end comes

-- the end that tells an answer
ending_of : Answer → Ending
ending_of done = Ending.Memory
ending_of no_packet = Ending.Script
ending_of (out_of_skew broken) = Ending.Skew
ending_of too_many_events = Ending.Limit
ending_of too_many_packets = Ending.Limit

pub script_unless : (end : Ending) (line : ℕ) (held now : Option (List ℕ)) (w w' : ℕ) → TellsStop end line Stepped.NoPacket held now w w'
    → IsUnlessFault end Ending.Script 0 0 w w'
script_unless Ending.Script line held now w w' tells = inl refl
script_unless Ending.Memory line held now w w' tells = inr tt
script_unless other line held now w w' tells = absurd tells

skew_unless : (end : Ending) (line : ℕ) (broken : SkewBroken) (held now : Option (List ℕ)) (w w' : ℕ) → TellsStop end line (Stepped.SkewBroken broken)
    held now w w' → IsUnlessFault end Ending.Skew 0 0 w w'
skew_unless Ending.Skew line broken held now w w' tells = inl refl
skew_unless Ending.Memory line broken held now w w' tells = inr tt
skew_unless other line broken held now w w' tells = absurd tells

limit_unless : (end : Ending) (line : ℕ) (limit : Limit) (held now : Option (List ℕ)) (w w' : ℕ) → TellsStop end line (Stepped.Limit limit) held now w
    w' → IsUnlessFault end Ending.Limit 0 0 w w'
limit_unless Ending.Limit line limit held now w w' tells = inl refl
limit_unless Ending.Memory line limit held now w w' tells = inr tt
limit_unless other line limit held now w w' tells = absurd tells

done_unless : (end : Ending) (head : Head) (events : List Event) (held now : Option (List ℕ)) (w w' : ℕ) → EndsPlayed end head (ran events) held now w
    w' → IsUnlessFault end Ending.Done 0 0 w w'
done_unless Ending.Done head events held now w w' prints = inl refl
done_unless Ending.Memory head events held now w w' prints = inr tt
done_unless Ending.WriteFault head events held now w w' prints = inr prints.1
done_unless other head events held now w w' prints = absurd prints

-- the schedule that was read is the one that is spelled
pub is_due : (head h : Head) (lines ls : List Line) (due : Ended (List Event)) → (head ≡ h) × (lines ≡ ls) → play h ls ≡ due → play head lines ≡ due
is_due head h lines ls due same is = rw (same.0, same.1) is

pub ends_script : (end : Ending) (head : Head) (lines : List Line) (number : ℕ) (held now : Option (List ℕ)) (w w' : ℕ)
    → EndsPlayed end head (play head lines) held now w w' → play head lines ≡ stopped number no_packet → IsUnlessFault end Ending.Script 0 0 w w'
ends_script end head lines number held now w w' ends is = script_unless end number held now w w'
    (subst (λ due. EndsPlayed end head due held now w w') is ends)

pub ends_skew : (end : Ending) (head : Head) (lines : List Line) (number : ℕ) (broken : SkewBroken) (held now : Option (List ℕ)) (w w' : ℕ)
    → EndsPlayed end head (play head lines) held now w w' → play head lines ≡ stopped number (out_of_skew broken) → IsUnlessFault end Ending.Skew 0 0 w w'
ends_skew end head lines number broken held now w w' ends is = skew_unless end number broken held now w w'
    (subst (λ due. EndsPlayed end head due held now w w') is ends)

pub ends_passing : (end : Ending) (head : Head) (lines : List Line) (text : List ℕ) (number : ℕ) (bound : Bound) (held now : Option (List ℕ))
    (w w' : ℕ) → EndsPlayed end head (play head lines) held now w w'
    → ((h : Head) (ls : List Line) → SpellsSchedule h ls text → (head ≡ h) ×
    (lines ≡ ls)) → Passes text number bound → IsUnlessFault end Ending.Limit 0 0 w w'
ends_passing end head lines text number Bound.Bytes held now w w' ends only passes = absurd passes
ends_passing end head lines text number Bound.Events held now w w' ends only passes =
    limit_unless end number Limit.Events held now w w' (subst (λ due. EndsPlayed end head due held now w w') (is_due head passes.head lines
    passes.lines _ (only passes.head passes.lines passes.spelled) passes.stopped) ends)
ends_passing end head lines text number Bound.Packets held now w w' ends only passes =
    limit_unless end number Limit.Packets held now w w' (subst (λ due. EndsPlayed end head due held now w w') (is_due head passes.head lines
    passes.lines _ (only passes.head passes.lines passes.spelled) passes.stopped) ends)

pub ends_faulty : (end : Ending) (head : Head) (lines : List Line) (text : List ℕ) (number : ℕ) (held now : Option (List ℕ)) (w w' : ℕ)
    → EndsPlayed end head (play head lines) held now w w'
    → ((h : Head) (ls : List Line) → SpellsSchedule h ls text → (head ≡ h) × (lines ≡ ls)) → (FirstBadLine text number → ⊥) → FaultyLine text number
    → IsUnlessFault end Ending.Script 0 0 w w'
ends_faulty end head lines text number held now w w' ends only bad (inl is) = absurd (bad is)
ends_faulty end head lines text number held now w w' ends only bad (inr stops) =
    ends_script end head lines number held now w w' ends (is_due head stops.head lines stops.lines _
    (only stops.head stops.lines stops.spelled) stops.stopped)

pub ends_done : (end : Ending) (head : Head) (lines : List Line) (h : Head) (ls : List Line) (events : List Event) (held now : Option (List ℕ))
    (w w' : ℕ) → EndsPlayed end head (play head lines) held now w w' → (head ≡ h) × (lines ≡ ls) → play h ls ≡ ran events
    → IsUnlessFault end Ending.Done 0 0 w w'
ends_done end head lines h ls events held now w w' ends same is =
    done_unless end head events held now w w' (subst (λ due. EndsPlayed end head due held now w w') (is_due head h lines ls _ same is) ends)

-- a fault that names a line
pub names_bad : (fault : ScriptFault) (number : ℕ) (P : ℕ → Type 0) → fault ≡ ScriptFault.Bad number → Names fault P → P number
names_bad fault number P is names = subst (λ e. Names e P) is names

-- ---- what was played

-- where memory was wanting before anything was printed
pub memory_before : (head : Head) (due : Ended (List Event)) (held : Option (List ℕ)) (w : ℕ) → EndsPlayed Ending.Memory head due held held w w
memory_before head (ran events) held w = inl refl
memory_before head (stopped line answer) held w = refl

-- where it stopped
stop_memory : (end : Ending) (head : Head) (line : ℕ) (said : Stepped) (due : Ended (List Event)) (held now : Option (List ℕ)) (w w' : ℕ) →
    (end ≡ Ending.Memory)
    × (now ≡ held) → EndsPlayed end head due held now w w'
stop_memory end head line said (ran events) held now w w' is = rw is.0 (inl is.1)
stop_memory end head line said (stopped number answer) held now w w' is = rw is.0 is.1

silent : (end : Ending) (line : ℕ) (said : Stepped) (held now : Option (List ℕ)) (w w' : ℕ) → (said ≡ Stepped.Fault) ⊎ (said ≡ Stepped.Memory)
    → TellsStop end line said held now w w' → (end ≡ Ending.Memory) × (now ≡ held)
silent Ending.Memory line said held now w w' which tells = (refl, tells)
silent Ending.Script line Stepped.Fault held now w w' which tells = absurd tells
silent Ending.Script line Stepped.Memory held now w w' which tells = absurd tells
silent Ending.Script line Stepped.Done held now w w' which tells = absurd tells
silent Ending.Script line Stepped.NoPacket held now w w' (inl e) tells = absurd (cc)
silent Ending.Script line Stepped.NoPacket held now w w' (inr e) tells = absurd (cc)
silent Ending.Script line (Stepped.SkewBroken b) held now w w' which tells = absurd tells
silent Ending.Script line (Stepped.Limit l) held now w w' which tells = absurd tells
silent Ending.Skew line Stepped.Fault held now w w' which tells = absurd tells
silent Ending.Skew line Stepped.Memory held now w w' which tells = absurd tells
silent Ending.Skew line Stepped.Done held now w w' which tells = absurd tells
silent Ending.Skew line Stepped.NoPacket held now w w' which tells = absurd tells
silent Ending.Skew line (Stepped.SkewBroken b) held now w w' (inl e) tells = absurd (cc)
silent Ending.Skew line (Stepped.SkewBroken b) held now w w' (inr e) tells = absurd (cc)
silent Ending.Skew line (Stepped.Limit l) held now w w' which tells = absurd tells
silent Ending.Limit line Stepped.Fault held now w w' which tells = absurd tells
silent Ending.Limit line Stepped.Memory held now w w' which tells = absurd tells
silent Ending.Limit line Stepped.Done held now w w' which tells = absurd tells
silent Ending.Limit line Stepped.NoPacket held now w w' which tells = absurd tells
silent Ending.Limit line (Stepped.SkewBroken b) held now w w' which tells = absurd tells
silent Ending.Limit line (Stepped.Limit l) held now w w' (inl e) tells = absurd (cc)
silent Ending.Limit line (Stepped.Limit l) held now w w' (inr e) tells = absurd (cc)
silent other line said held now w w' which tells = absurd tells

stop_at : (end : Ending) (head : Head) (line : ℕ) (said : Stepped) (due : Ended (List Event)) (held now : Option (List ℕ))
    (w w' : ℕ) → StoppedAt due line said
    → TellsStop end line said held now w w' → EndsPlayed end head due held now w w'
stop_at end head line said (ran events) held now w w' is tells = absurd is
stop_at end head line said (stopped number answer) held now w w' is tells =
    subst (λ s. TellsStop end number s held now w w') (sym is.1) (subst (λ n. TellsStop end n said held now w w') is.0 tells)

pub stop_ends : (end : Ending) (head : Head) (line : ℕ) (said : Stepped) (due : Ended (List Event)) (P : List Event → Type 0) (held now : Option (List ℕ))
    (w w' : ℕ) → Comes (Played.Stopped line said) due P → TellsStop end line said held now w w' → EndsPlayed end head due held now w w'
stop_ends end head line Stepped.Done due P held now w w' comes tells = absurd comes
stop_ends end head line Stepped.NoPacket due P held now w w' comes tells = stop_at end head line Stepped.NoPacket due held now w w' comes tells
stop_ends end head line (Stepped.SkewBroken broken) due P held now w w' comes tells = stop_at end head line (Stepped.SkewBroken broken) due held now w
    w' comes tells
stop_ends end head line (Stepped.Limit limit) due P held now w w' comes tells = stop_at end head line (Stepped.Limit limit) due held now w w' comes tells
stop_ends end head line Stepped.Fault due P held now w w' comes tells = stop_memory end head line Stepped.Fault due held now w w'
    (silent end line Stepped.Fault held now w w' (inl refl) tells)
stop_ends end head line Stepped.Memory due P held now w w' comes tells = stop_memory end head line Stepped.Memory due held now w w'
    (silent end line Stepped.Memory held now w w' (inr refl) tells)

-- where it was played to its end
pub run_ends : (end : Ending) (head : Head) (due : Ended (List Event)) (P : List Event → Type 0) (held now : Option (List ℕ))
    (w w' : ℕ) → Comes Played.All due P
    → ((events : List Event) → P events → EndsPlayed end head (ran events) held now w w') → EndsPlayed end head due held now w w'
run_ends end head (ran events) P held now w w' comes prints = prints events comes
run_ends end head (stopped number answer) P held now w w' comes prints = absurd comes
