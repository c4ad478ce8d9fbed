-- What a command comes to that plays texts of some kind. The names are those of `specs/Running`.
use Rattle.std.proofs.Common.{◌≡◌, ◌<◌, ◌≤◌, inl, inr, ℕ, List, length, Option, Some, refl, sym, ap, subst, arith}
use Rattle.std.specs.Prelude.{IfSome}
use Rattle.nq_base.specs.declared.SkewBroken.{SkewBroken}
use Rattle.nq_base.specs.declared.ending.ending.Ending.{Ending}
use Rattle.nq_io.specs.Whole.{IsAll, IsOver}
use Rattle.nq_model.specs.protocol.Stepped.{Stepped as Answer, done, no_packet, out_of_skew, too_many_events, too_many_packets}
use Rattle.nq_replay.proofs.Endings.{over_unless, told_text}
use Rattle.nq_replay.proofs.Outcomes.{script_unless}
use Rattle.nq_replay.specs.AsidesGoing.{Comes, StoppedAt}
use Rattle.nq_replay.specs.AsidesPlaying.{Ended, ran, stopped}
use Rattle.nq_played.specs.Running.{Ends, EndsByInput, EndsPlayed, EndsText, Faulty, Passes, Runs, Stops, TellsText}
use Rattle.nq_replay.specs.Ending.{CountsSink, CountsSource, IsFault, IsUnlessFault, TellsOver}
use Rattle.nq_replay.specs.Schedules.{TellsStop}
use Rattle.nq_replay.specs.declared.play.played.Played.{Played}
use Rattle.nq_replay.specs.declared.Bound.{Bound}
use Rattle.nq_script.specs.declared.heads.Head.{Head}
use Rattle.nq_world.specs.Answering.{told as answer_of}
use Rattle.nq_world.specs.declared.Limit.{Limit}
use Rattle.nq_world.specs.declared.Stepped.{Stepped}

skew_unless : (end : Ending) (line : ℕ) (broken : SkewBroken) (held now : Option (List ℕ)) (w w' : ℕ)
    → TellsStop end line (Stepped.SkewBroken broken) held now w w' → IsUnlessFault end Ending.Skew 0 0 w w'
skew_unless Ending.Skew line broken held now w w' tells = inl refl
skew_unless Ending.Memory line broken held now w w' tells = inr tt
skew_unless other line broken held now w w' tells = absurd tells

limit_unless : (end : Ending) (line : ℕ) (limit : Limit) (held now : Option (List ℕ)) (w w' : ℕ) → TellsStop end line (Stepped.Limit limit) held now w w'
    → IsUnlessFault end Ending.Limit 0 0 w w'
limit_unless Ending.Limit line limit held now w w' tells = inl refl
limit_unless Ending.Memory line limit held now w w' tells = inr tt
limit_unless other line limit held now w w' tells = absurd tells

module _ {L S : Type 0} (spells : Head → L → List ℕ → Type 0) (bad : List ℕ → ℕ → Type 0) (play : Head → L → Ended S)
    (prints : Head → S → List ℕ → Type 0) where
  -- ---- what was printed

  text_of_run : (end : Ending) (head : Head) (m : S) (text : List ℕ) (held now : Option (List ℕ)) (w w' : ℕ) → Runs spells bad play prints text head m
      → EndsPlayed spells bad play prints end head (ran m) held now w w' → EndsText spells bad play prints end text held now w w'
  text_of_run Ending.Done head m text held now w w' runs (inl p) = record {
    head = head;
    reached = m;
    runs = runs;
    bytes = p.bytes;
    are = p.are;
    printed = p.printed;
  }
  text_of_run Ending.Done head m text held now w w' runs (inr none) = let e = none.0 in absurd (cc)
  text_of_run Ending.WriteFault head m text held now w w' runs (inl p) = (
    record {
      head = head;
      reached = m;
      runs = runs;
      bytes = p.bytes;
      are = p.are;
      printed = p.printed.0;
    },
    p.printed.1,
  )
  text_of_run Ending.WriteFault head m text held now w w' runs (inr none) = let e = none.0 in absurd (cc)
  text_of_run Ending.Memory head m text held now w w' runs (inl p) = inr (record {
    head = head;
    reached = m;
    runs = runs;
    bytes = p.bytes;
    are = p.are;
    printed = p.printed;
  })
  text_of_run Ending.Memory head m text held now w w' runs (inr none) = inl none.1
  text_of_run other head m text held now w w' runs (inl p) = absurd p.printed
  text_of_run other head m text held now w w' runs (inr none) = let e = none.0 in absurd (cc)

  text_of_packet : (end : Ending) (line : ℕ) (text : List ℕ) (held now : Option (List ℕ)) (w w' : ℕ) → Faulty spells bad play prints text line
      → TellsStop end line Stepped.NoPacket held now w w' → EndsText spells bad play prints end text held now w w'
  text_of_packet Ending.Script line text held now w w' faulty tells = record { number = line; faulty = faulty; printed = tells }
  text_of_packet Ending.Memory line text held now w w' faulty tells = inl tells
  text_of_packet other line text held now w w' faulty tells = absurd tells

  text_of_skew : (end : Ending) (line : ℕ) (broken : SkewBroken) (text : List ℕ) (held now : Option (List ℕ)) (w w' : ℕ)
      → Stops spells bad play prints text line (out_of_skew broken) → TellsStop end line (Stepped.SkewBroken broken) held now w w'
      → EndsText spells bad play prints end text held now w w'
  text_of_skew Ending.Skew line broken text held now w w' stops tells = record { number = line; broken = broken; breaks = stops; printed = tells }
  text_of_skew Ending.Memory line broken text held now w w' stops tells = inl tells
  text_of_skew other line broken text held now w w' stops tells = absurd tells

  text_of_events : (end : Ending) (line : ℕ) (text : List ℕ) (held now : Option (List ℕ)) (w w' : ℕ)
      → Stops spells bad play prints text line too_many_events → TellsStop end line (Stepped.Limit Limit.Events) held now w w'
      → EndsText spells bad play prints end text held now w w'
  text_of_events Ending.Memory line text held now w w' stops tells = inl tells
  text_of_events Ending.Limit line text held now w w' stops tells = record { number = line; bound = Bound.Events; passes = stops; printed = tells }
  text_of_events other line text held now w w' stops tells = absurd tells

  text_of_packets : (end : Ending) (line : ℕ) (text : List ℕ) (held now : Option (List ℕ)) (w w' : ℕ)
      → Stops spells bad play prints text line too_many_packets → TellsStop end line (Stepped.Limit Limit.Packets) held now w w'
      → EndsText spells bad play prints end text held now w w'
  text_of_packets Ending.Memory line text held now w w' stops tells = inl tells
  text_of_packets Ending.Limit line text held now w w' stops tells = record { number = line; bound = Bound.Packets; passes = stops; printed = tells }
  text_of_packets other line text held now w w' stops tells = absurd tells

  text_of_done : (end : Ending) (line : ℕ) (text : List ℕ) (held now : Option (List ℕ)) (w w' : ℕ) → TellsStop end line Stepped.Done held now w w'
      → EndsText spells bad play prints end text held now w w'
  text_of_done Ending.Memory line text held now w w' tells = inl tells
  text_of_done other line text held now w w' tells = absurd tells

  text_of_stop : (end : Ending) (head : Head) (line : ℕ) (answer : Answer) (text : List ℕ) (held now : Option (List ℕ)) (w w' : ℕ)
      → Stops spells bad play prints text line answer → TellsStop end line (answer_of answer) held now w w'
      → EndsText spells bad play prints end text held now w w'
  text_of_stop end head line done text held now w w' stops tells = text_of_done end line text held now w w' tells
  text_of_stop end head line no_packet text held now w w' stops tells = text_of_packet end line text held now w w' (inr stops) tells
  text_of_stop end head line (out_of_skew broken) text held now w w' stops tells = text_of_skew end line broken text held now w w' stops tells
  text_of_stop end head line too_many_events text held now w w' stops tells = text_of_events end line text held now w w' stops tells
  text_of_stop end head line too_many_packets text held now w w' stops tells = text_of_packets end line text held now w w' stops tells

  -- a schedule that was read
  text_of_due : (end : Ending) (head : Head) (lines : L) (due : Ended S) (text : List ℕ) (held now : Option (List ℕ)) (w w' : ℕ) → spells head lines text
      → play head lines ≡ due → EndsPlayed spells bad play prints end head due held now w w' → EndsText spells bad play prints end text held now w w'
  text_of_due end head lines (ran m) text held now w w' spelled is ends = text_of_run end head m text held now w w'
      (record { lines = lines; spelled = spelled; played = is }) ends
  text_of_due end head lines (stopped line answer) text held now w w' spelled is ends = text_of_stop end head line answer text held now w w'
      (record { head = head; lines = lines; spelled = spelled; stopped = is }) ends

  pub text_of_schedule : (end : Ending) (head : Head) (lines : L) (text : List ℕ) (held now : Option (List ℕ)) (w w' : ℕ) → spells head lines text
      → EndsPlayed spells bad play prints end head (play head lines) held now w w' → EndsText spells bad play prints end text held now w w'
  text_of_schedule end head lines text held now w w' spelled ends = text_of_due end head lines (play head lines) text held now w w' spelled refl ends

  -- a text outside the grammar
  pub text_of_fault : (end : Ending) (line : ℕ) (text : List ℕ) (held now : Option (List ℕ)) (w w' : ℕ) → bad text line
      → TellsStop end line Stepped.NoPacket held now w w' → EndsText spells bad play prints end text held now w w'
  text_of_fault end line text held now w w' is tells = text_of_packet end line text held now w w' (inl is) tells

  -- ---- which end comes

  done_unless : (end : Ending) (head : Head) (m : S) (held now : Option (List ℕ)) (w w' : ℕ)
      → EndsPlayed spells bad play prints end head (ran m) held now w w' → IsUnlessFault end Ending.Done 0 0 w w'
  done_unless Ending.Done head m held now w w' p = inl refl
  done_unless Ending.Memory head m held now w w' p = inr tt
  done_unless Ending.WriteFault head m held now w w' (inl p) = inr p.printed.1
  done_unless Ending.WriteFault head m held now w w' (inr none) = let e = none.0 in absurd (cc)
  done_unless other head m held now w w' (inl p) = absurd p.printed
  done_unless other head m held now w w' (inr none) = let e = none.0 in absurd (cc)

  -- the schedule that was read is the one that is spelled
  pub is_due : (head h : Head) (lines ls : L) (due : Ended S) → (head ≡ h) × (lines ≡ ls) → play h ls ≡ due → play head lines ≡ due
  is_due head h lines ls due same is = rw (same.0, same.1) is

  pub ends_script : (end : Ending) (head : Head) (lines : L) (number : ℕ) (held now : Option (List ℕ)) (w w' : ℕ)
      → EndsPlayed spells bad play prints end head (play head lines) held now w w' → play head lines ≡ stopped number no_packet
      → IsUnlessFault end Ending.Script 0 0 w w'
  ends_script end head lines number held now w w' ends is = script_unless end number held now w w'
      (subst (λ due. EndsPlayed spells bad play prints end head due held now w w') is ends)

  pub ends_skew : (end : Ending) (head : Head) (lines : L) (number : ℕ) (broken : SkewBroken) (held now : Option (List ℕ)) (w w' : ℕ)
      → EndsPlayed spells bad play prints end head (play head lines) held now w w' → play head lines ≡ stopped number (out_of_skew broken)
      → IsUnlessFault end Ending.Skew 0 0 w w'
  ends_skew end head lines number broken held now w w' ends is = skew_unless end number broken held now w w'
      (subst (λ due. EndsPlayed spells bad play prints end head due held now w w') is ends)

  pub ends_passing : (end : Ending) (head : Head) (lines : L) (text : List ℕ) (number : ℕ) (bound : Bound) (held now : Option (List ℕ)) (w w' : ℕ)
      → EndsPlayed spells bad play prints end head (play head lines) held now w w' → ((h : Head) (ls : L) → spells h ls text → (head ≡ h) × (lines ≡ ls))
      → Passes spells bad play prints text number bound → IsUnlessFault end Ending.Limit 0 0 w w'
  ends_passing end head lines text number Bound.Bytes held now w w' ends only passes = absurd passes
  ends_passing end head lines text number Bound.Events held now w w' ends only passes = limit_unless end number Limit.Events held now w w'
      (subst (λ due. EndsPlayed spells bad play prints end head due held now w w')
      (is_due head passes.head lines passes.lines _ (only passes.head passes.lines passes.spelled) passes.stopped) ends)
  ends_passing end head lines text number Bound.Packets held now w w' ends only passes = limit_unless end number Limit.Packets held now w w'
      (subst (λ due. EndsPlayed spells bad play prints end head due held now w w')
      (is_due head passes.head lines passes.lines _ (only passes.head passes.lines passes.spelled) passes.stopped) ends)

  pub ends_faulty : (end : Ending) (head : Head) (lines : L) (text : List ℕ) (number : ℕ) (held now : Option (List ℕ)) (w w' : ℕ)
      → EndsPlayed spells bad play prints end head (play head lines) held now w w' → ((h : Head) (ls : L) → spells h ls text → (head ≡ h) × (lines ≡ ls))
      → (bad text number → ⊥) → Faulty spells bad play prints text number → IsUnlessFault end Ending.Script 0 0 w w'
  ends_faulty end head lines text number held now w w' ends only none (inl is) = absurd (none is)
  ends_faulty end head lines text number held now w w' ends only none (inr stops) = ends_script end head lines number held now w w' ends
      (is_due head stops.head lines stops.lines _ (only stops.head stops.lines stops.spelled) stops.stopped)

  pub ends_done : (end : Ending) (head : Head) (lines : L) (h : Head) (ls : L) (m : S) (held now : Option (List ℕ)) (w w' : ℕ)
      → EndsPlayed spells bad play prints end head (play head lines) held now w w' → (head ≡ h) × (lines ≡ ls) → play h ls ≡ ran m
      → IsUnlessFault end Ending.Done 0 0 w w'
  ends_done end head lines h ls m held now w w' ends same is = done_unless end head m held now w w'
      (subst (λ due. EndsPlayed spells bad play prints end head due held now w w') (is_due head h lines ls _ same is) ends)

  pub passes_none : (text : List ℕ) (number : ℕ) (bound : Bound) → ((h : Head) (ls : L) → spells h ls text → ⊥)
      → Passes spells bad play prints text number bound → ⊥
  passes_none text number Bound.Bytes none passes = passes
  passes_none text number Bound.Events none passes = none passes.head passes.lines passes.spelled
  passes_none text number Bound.Packets none passes = none passes.head passes.lines passes.spelled

  -- ---- what was played

  -- where memory was wanting before anything was printed
  pub memory_before : (head : Head) (due : Ended S) (held : Option (List ℕ)) (w : ℕ) → EndsPlayed spells bad play prints Ending.Memory head due held held w w
  memory_before head (ran m) held w = inr (refl, refl)
  memory_before head (stopped line answer) held w = refl

  -- where it stopped
  stop_memory : (end : Ending) (head : Head) (due : Ended S) (held now : Option (List ℕ)) (w w' : ℕ) → (end ≡ Ending.Memory) × (now ≡ held)
      → EndsPlayed spells bad play prints end head due held now w w'
  stop_memory end head (ran m) held now w w' is = inr is
  stop_memory end head (stopped number answer) held now w w' is = rw is.0 is.1

  silent-fault : (end : Ending) (line : ℕ) (held now : Option (List ℕ)) (w w' : ℕ) → TellsStop end line Stepped.Fault held now w w'
      → (end ≡ Ending.Memory) × (now ≡ held)
  silent-fault Ending.Memory line held now w w' tells = (refl, tells)
  silent-fault other line held now w w' tells = absurd tells

  silent-memory : (end : Ending) (line : ℕ) (held now : Option (List ℕ)) (w w' : ℕ) → TellsStop end line Stepped.Memory held now w w'
      → (end ≡ Ending.Memory) × (now ≡ held)
  silent-memory Ending.Memory line held now w w' tells = (refl, tells)
  silent-memory other line held now w w' tells = absurd tells

  stop_at : (end : Ending) (head : Head) (line : ℕ) (said : Stepped) (due : Ended S) (held now : Option (List ℕ)) (w w' : ℕ) → StoppedAt due line said
      → TellsStop end line said held now w w' → EndsPlayed spells bad play prints end head due held now w w'
  stop_at end head line said (ran m) held now w w' is tells = absurd is
  stop_at end head line said (stopped number answer) held now w w' is tells = subst (λ s. TellsStop end number s held now w w') (sym is.1)
      (subst (λ n. TellsStop end n said held now w w') is.0 tells)

  pub stop_ends : (end : Ending) (head : Head) (line : ℕ) (said : Stepped) (due : Ended S) (P : S → Type 0) (held now : Option (List ℕ)) (w w' : ℕ)
      → Comes (Played.Stopped line said) due P → TellsStop end line said held now w w' → EndsPlayed spells bad play prints end head due held now w w'
  stop_ends end head line Stepped.Done due P held now w w' comes tells = absurd comes
  stop_ends end head line Stepped.NoPacket due P held now w w' comes tells = stop_at end head line Stepped.NoPacket due held now w w' comes tells
  stop_ends end head line (Stepped.SkewBroken broken) due P held now w w' comes tells = stop_at end head line
      (Stepped.SkewBroken broken) due held now w w' comes tells
  stop_ends end head line (Stepped.Limit limit) due P held now w w' comes tells = stop_at end head line (Stepped.Limit limit) due held now w w' comes tells
  stop_ends end head line Stepped.Fault due P held now w w' comes tells = stop_memory end head due held now w w' (silent-fault end line held now w w' tells)
  stop_ends end head line Stepped.Memory due P held now w w' comes tells = stop_memory end head due held now w w' (silent-memory end line held now w w' tells)

  -- where it was played to its end
  pub run_ends : (end : Ending) (head : Head) (due : Ended S) (P : S → Type 0) (held now : Option (List ℕ)) (w w' : ℕ) → Comes Played.All due P
      → ((m : S) → P m → EndsPlayed spells bad play prints end head (ran m) held now w w') → EndsPlayed spells bad play prints end head due held now w w'
  run_ends end head (ran m) P held now w w' comes says = says m comes
  run_ends end head (stopped number answer) P held now w w' comes says = absurd comes

  -- ---- of an input

  -- running a text that was read meets no fault of the source
  still_fault : (end : Ending) (text : List ℕ) (held now : Option (List ℕ)) (r r' w w' : ℕ) → EndsText spells bad play prints end text held now w w'
      → IsFault end 0 0 w w' → IsFault end r r' w w'
  still_fault Ending.ReadFault text held now r r' w w' ends fault = absurd ends
  still_fault Ending.WriteFault text held now r r' w w' ends fault = fault
  still_fault Ending.Memory text held now r r' w w' ends fault = tt
  still_fault other text held now r r' w w' ends fault = absurd fault

  pub still_unless : (end wanted : Ending) (text : List ℕ) (held now : Option (List ℕ)) (r r' w w' : ℕ)
      → EndsText spells bad play prints end text held now w w' → IsUnlessFault end wanted 0 0 w w' → IsUnlessFault end wanted r r' w w'
  still_unless end wanted text held now r r' w w' ends (inl same) = inl same
  still_unless end wanted text held now r r' w w' ends (inr fault) = inr (still_fault end text held now r r' w w' ends fault)

  -- nor does it count one
  pub still_counts : (end : Ending) (text : List ℕ) (held now : Option (List ℕ)) (w w' before count : ℕ)
      → EndsText spells bad play prints end text held now w w' → count ≡ before → CountsSource end before count
  still_counts Ending.ReadFault text held now w w' before count ends same = absurd ends
  still_counts other text held now w w' before count ends same = same

  -- what was printed of a text that was read is what was printed of the input
  pub ends_text : (end : Ending) (text : List ℕ) (limit : ℕ) (left rest held now : Option (List ℕ)) (r r' w w' : ℕ) → IsAll text limit left rest
      → EndsText spells bad play prints end text held now w w' → Ends spells bad play prints end limit left rest held now r r' w w'
  ends_text Ending.Done text limit left rest held now r r' w w' read ends = record { text = text; read = read; so = ends }
  ends_text Ending.Script text limit left rest held now r r' w w' read ends = record { text = text; read = read; so = ends }
  ends_text Ending.Skew text limit left rest held now r r' w w' read ends = record { text = text; read = read; so = ends }
  ends_text Ending.WriteFault text limit left rest held now r r' w w' read ends = record { text = text; read = read; so = ends }
  ends_text Ending.Memory text limit left rest held now r r' w w' read ends = elim ends [
    | inl none ↦ inl (none, inr (inl (text, read)))
    | inr part ↦ inr (record { text = text; read = read; so = part })
  ]
  ends_text Ending.Limit text limit left rest held now r r' w w' read ends = inr (record { text = text; read = read; so = ends })
  ends_text other text limit left rest held now r r' w w' read ends = absurd ends

  -- what was told of an input that passes the limit
  pub ends_over : (end : Ending) (front : List ℕ) (limit : ℕ) (left rest held now : Option (List ℕ)) (r r' w w' : ℕ) → IsOver front limit left rest
      → TellsOver end front held now w w' → Ends spells bad play prints end limit left rest held now r r' w w'
  ends_over Ending.Memory front limit left rest held now r r' w w' over tells = inl (tells, inr (inr (front, over)))
  ends_over Ending.Limit front limit left rest held now r r' w w' over tells = inl (record { front = front; passes = over; printed = tells })
  ends_over other front limit left rest held now r r' w w' over tells = absurd tells

  -- ---- a text that was run

  -- one that was read
  pub tells_read : (end : Ending) (head : Head) (lines : L) (text : List ℕ) (held now : Option (List ℕ)) (w w' : ℕ) → spells head lines text
      → ((h : Head) (ls : L) → spells h ls text → (head ≡ h) × (lines ≡ ls)) → ((number : ℕ) → bad text number → ⊥)
      → EndsPlayed spells bad play prints end head (play head lines) held now w w' → CountsSink end w w'
      → TellsText spells bad play prints end text held now w w'
  tells_read end head lines text held now w w' spelled only none ends sink = record {
    ends = text_of_schedule end head lines text held now w w' spelled ends;
    script = λ number faulty. ends_faulty end head lines text number held now w w' ends only (none number) faulty;
    skew = λ number broken breaks. ends_skew end head lines number broken held now w w' ends
        (is_due head breaks.head lines breaks.lines _ (only breaks.head breaks.lines breaks.spelled) breaks.stopped);
    passes = λ number bound passes. ends_passing end head lines text number bound held now w w' ends only passes;
    done = λ h m runs. ends_done end head lines h runs.lines m held now w w' ends (only h runs.lines runs.spelled) runs.played;
    sink = sink;
  }

  -- one that is outside the grammar
  pub tells_bad : (end : Ending) (line : ℕ) (text : List ℕ) (held now : Option (List ℕ)) (w w' : ℕ) → bad text line
      → ((h : Head) (ls : L) → spells h ls text → ⊥) → TellsStop end line Stepped.NoPacket held now w w' → CountsSink end w w'
      → TellsText spells bad play prints end text held now w w'
  tells_bad end line text held now w w' is none tells sink = record {
    ends = text_of_fault end line text held now w w' is tells;
    script = λ number faulty. script_unless end line held now w w' tells;
    skew = λ number broken breaks. absurd (none breaks.head breaks.lines breaks.spelled);
    passes = λ number bound passes. absurd (passes_none text number bound none passes);
    done = λ head m runs. absurd (none head runs.lines runs.spelled);
    sink = sink;
  }

  -- one for which memory was wanting
  pub tells_none : (text : List ℕ) (held : Option (List ℕ)) (w : ℕ) → TellsText spells bad play prints Ending.Memory text held held w w
  tells_none text held w = record {
    ends = inl refl;
    script = λ number faulty. inr tt;
    skew = λ number broken breaks. inr tt;
    passes = λ number bound passes. inr tt;
    done = λ head m runs. inr tt;
    sink = refl;
  }

  -- ---- which end comes by an input

  too-long : (limit : ℕ) (left : Option (List ℕ)) (text : List ℕ) → IfSome left (λ input. limit < length input) → left ≡ Some text
      → length text ≤ limit → ⊥
  too-long limit left text longer told within =
      let more : limit < length text = subst (λ l. IfSome l (λ input. limit < length input)) told longer in omega arith

  not-over : (bytes text : List ℕ) (limit : ℕ) → bytes ≡ text → length bytes ≤ limit → limit < length text → ⊥
  not-over bytes text limit same within longer = let long = ap length same in omega arith

  -- one that was read to its end
  pub by_text : (end : Ending) (bytes : List ℕ) (limit : ℕ) (left rest held now : Option (List ℕ)) (r r' w w' : ℕ) → IsAll bytes limit left rest
      → TellsText spells bad play prints end bytes held now w w' → EndsByInput spells bad play prints end limit left r r' w w'
  by_text end bytes limit left rest held now r r' w w' read tells = record {
    over = λ text told longer. absurd (not-over bytes text limit (told_text bytes limit left rest text read told) read.within longer);
    script = λ text told within number faulty. still_unless end Ending.Script bytes held now r r' w w' tells.ends
        (tells.script number (subst (λ t. Faulty spells bad play prints t number) (sym (told_text bytes limit left rest text read told)) faulty));
    skew = λ text told within number broken breaks. still_unless end Ending.Skew bytes held now r r' w w' tells.ends
        (tells.skew number broken (subst (λ t. Stops spells bad play prints t number (out_of_skew broken))
        (sym (told_text bytes limit left rest text read told)) breaks));
    passes = λ text told within number bound passes. still_unless end Ending.Limit bytes held now r r' w w' tells.ends
        (tells.passes number bound (subst (λ t. Passes spells bad play prints t number bound)
        (sym (told_text bytes limit left rest text read told)) passes));
    done = λ text told within head m runs. still_unless end Ending.Done bytes held now r r' w w' tells.ends
        (tells.done head m (subst (λ t. Runs spells bad play prints t head m) (sym (told_text bytes limit left rest text read told)) runs));
  }

  -- one that passes the limit
  pub by_over : (end : Ending) (front : List ℕ) (limit : ℕ) (left rest held now : Option (List ℕ)) (r r' w w' : ℕ) → IsOver front limit left rest
      → TellsOver end front held now w w' → EndsByInput spells bad play prints end limit left r r' w w'
  by_over end front limit left rest held now r r' w w' over tells = record {
    over = λ text told longer. over_unless end front held now r r' w w' tells;
    script = λ text told within number faulty. absurd (too-long limit left text over.longer told within);
    skew = λ text told within number broken breaks. absurd (too-long limit left text over.longer told within);
    passes = λ text told within number bound passes. absurd (too-long limit left text over.longer told within);
    done = λ text told within head m runs. absurd (too-long limit left text over.longer told within);
  }

  -- one of which a fault came before it was read
  pub by_fault : (end : Ending) (limit : ℕ) (left : Option (List ℕ)) (r r' w w' : ℕ) → IsFault end r r' w w'
      → EndsByInput spells bad play prints end limit left r r' w w'
  by_fault end limit left r r' w w' fault = record {
    over = λ text told longer. inr fault;
    script = λ text told within number faulty. inr fault;
    skew = λ text told within number broken breaks. inr fault;
    passes = λ text told within number bound passes. inr fault;
    done = λ text told within head m runs. inr fault;
  }
