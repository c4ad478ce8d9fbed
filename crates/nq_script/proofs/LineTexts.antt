-- The lines of events: they have no line feed, and one text is of one list of them.
use Rattle.std.proofs.Common.{◌≡◌, ℕ, ◌<◌, ◌^◌, List, [], ◌∷◌, ◌++◌, length, Bool, true, false, ◌==◌, ◌≤◌, if◌then◌else◌, refl, sym, ◌∙◌, arith, lit<}
use Rattle.std.proofs.Common.{subst, codes, Some}
use Rattle.std.specs.Fmt.{decimal}
use Rattle.std.specs.List.{AllByRecursion}
use Rattle.nq_base.specs.declared.Call.{Call}
use Rattle.nq_base.specs.declared.Event.{Event}
use Rattle.nq_script.specs.Calls.{HasCall, FitsCall, call_words}
use Rattle.nq_script.specs.Lines.{IsRepeat, HasEvent, FitsEvent, TellsTimes, SpellsLine, event_words, longest_words}
use Rattle.nq_script.specs.Reading.{told_line, clock_line, word_line}
use Rattle.nq_script.specs.Schedule.{SpellsLines, NamesEvents}
use Rattle.nq_script.specs.Text.{Lacks, spaced}
use Rattle.nq_script.specs.declared.heads.Head.{Head}
use Rattle.nq_script.specs.declared.lines.Line.{Line}
use Rattle.nq_script.specs.declared.lines.ToldLine.{ToldLine}
use Rattle.nq_script.proofs.CallReading.{filled-same}
use Rattle.nq_script.proofs.LineReading.{line-again, line-same}
use Rattle.nq_script.proofs.NameBytes.{name-lacks}
use Rattle.nq_script.proofs.Numbers.{decimal-lacks}
use Rattle.nq_script.proofs.Splitting.{first-same, rest-same, nil-cons, not-nil, lacks-tested, lacks-append}

decimal-line : (n : ℕ) → n < 2 ^ 64 → Lacks 10 (decimal n)
decimal-line n low = decimal-lacks 10 n refl low

decimal32-line : (n : ℕ) → n < 2 ^ 32 → Lacks 10 (decimal n)
decimal32-line n low = decimal-line n (omega arith)

times-line : (times : ℕ) → IsRepeat times → Lacks 10 (decimal times)
times-line times is = let few : times ≤ 1000 = is.1 in decimal-line times (omega arith)

-- words with blanks between them lack what each of them lacks
spaced-lacks : (words : List (List ℕ)) → AllByRecursion (Lacks 10) words → Lacks 10 (spaced words)
spaced-lacks [] each = tt
spaced-lacks (word ∷ []) each = each.0
spaced-lacks (word ∷ next ∷ words) each =
    lacks-append 10 word (32 ∷ spaced (next ∷ words)) each.0
    (lacks-append 10 (32 ∷ []) (spaced (next ∷ words)) (lacks-tested 10 (32 ∷ []) refl) (spaced-lacks (next ∷ words) each.1))

-- the words of a call have no line feed
call-lacks : (version : ℕ) (call : Call) → HasCall version call → FitsCall call → AllByRecursion (Lacks 10) (call_words call)
call-lacks version (Call.Create name blocks) has fits =
    (lacks-tested 10 (codes "create") refl, (name-lacks 10 name (lit< tt) fits.0, (decimal32-line blocks fits.1, tt)))
call-lacks version (Call.Lookup name) has fits = (lacks-tested 10 (codes "lookup") refl, (name-lacks 10 name (lit< tt) fits, tt))
call-lacks version (Call.Attr file) has fits = (lacks-tested 10 (codes "attr") refl, (decimal32-line file fits, tt))
call-lacks version (Call.Read file block) has fits = (lacks-tested 10 (codes "read") refl, (decimal32-line file fits.0, (decimal32-line block fits.1, tt)))
call-lacks version (Call.Fetch file block) has fits = (lacks-tested 10 (codes "fetch") refl, (decimal32-line file fits.0, (decimal32-line block fits.1, tt)))
call-lacks version (Call.Write file block body) has fits =
    (lacks-tested 10 (codes "write") refl, (decimal32-line file fits.0, (decimal32-line block fits.1, (decimal32-line _ (filled-same body has).0, tt))))
call-lacks version (Call.Put file block body) has fits =
    (lacks-tested 10 (codes "put") refl, (decimal32-line file fits.0, (decimal32-line block fits.1, (decimal32-line _ (filled-same body has).0, tt))))
call-lacks version (Call.Sync file) has fits = (lacks-tested 10 (codes "sync") refl, (decimal32-line file fits, tt))
call-lacks version (Call.Resize file blocks) has fits = (
  lacks-tested 10 (codes "resize") refl,
  (
    decimal32-line file fits.0,
    (decimal32-line blocks fits.1, tt),
  ),
)
call-lacks version (Call.Remove file) has fits = (lacks-tested 10 (codes "remove") refl, (decimal32-line file fits, tt))

crash-lacks : (version longest : ℕ) → longest < 2 ^ 32 → AllByRecursion (Lacks 10) (longest_words version longest)
crash-lacks version longest low = by_test (version == 2) where
  by_test : (test : Bool) → AllByRecursion (Lacks 10) (if test then decimal longest ∷ [] else [])
  by_test true = (decimal32-line longest low, tt)
  by_test false = tt

-- the words of an event have no line feed
event-lacks : (version : ℕ) (event : Event) (times : ℕ) → HasEvent version event → FitsEvent event → TellsTimes event times
    → AllByRecursion (Lacks 10) (event_words version event times)
event-lacks version (Event.Call host call) times has fits count =
    (lacks-tested 10 (codes "call") refl, (decimal32-line host fits.0, call-lacks version call has fits.1))
event-lacks version (Event.Deliver packet) times has fits count = (lacks-tested 10 (codes "deliver") refl, (decimal-line packet fits, tt))
event-lacks version Event.ServerTick times has fits count =
    (lacks-tested 10 (codes "tick") refl, (lacks-tested 10 (codes "s") refl, (times-line times count, tt)))
event-lacks version (Event.ClientTick host) times has fits count =
    (lacks-tested 10 (codes "tick") refl, (decimal32-line host fits, (times-line times count, tt)))
event-lacks version (Event.Restart host) times has fits count = (lacks-tested 10 (codes "restart") refl, (decimal32-line host fits, tt))
event-lacks version (Event.Crash longest) times has fits count = (lacks-tested 10 (codes "crash") refl, crash-lacks version longest fits)

-- a line has no line feed
pub line-lacks : (head : Head) (line : Line) (text : List ℕ) → SpellsLine head line text → Lacks 10 text
line-lacks head (Line.Events event times) text s =
    subst (Lacks 10) (sym s.1.3) (spaced-lacks (event_words head.version event times) (event-lacks head.version event times s.1.0 s.1.1 s.1.2))
line-lacks head (Line.Round times) text s =
    subst (Lacks 10) (sym s.1.1) (spaced-lacks (codes "round" ∷ decimal times ∷ []) (lacks-tested 10 (codes "round") refl, (times-line times s.1.0, tt)))
line-lacks head Line.Flow text s = subst (Lacks 10) (sym s.1) (lacks-tested 10 (codes "flow") refl)
line-lacks head Line.End text s = subst (Lacks 10) (sym s.1) (lacks-tested 10 (codes "end") refl)

-- no line of a list has a line feed
pub lines-lack : (head : Head) (lines : List Line) (texts : List (List ℕ)) → SpellsLines head lines texts → AllByRecursion (Lacks 10) texts
lines-lack head [] [] s = tt
lines-lack head [] (text ∷ texts) s = absurd s
lines-lack head (line ∷ lines) [] s = absurd s
lines-lack head (line ∷ lines) (text ∷ texts) s = (line-lacks head line text s.1, lines-lack head lines texts s.2)

end-told : (head : Head) → told_line head (codes "end") ≡ Some ToldLine.End
unfolding told_line clock_line word_line
end-told head = refl

-- `end` spells no line that names events
pub end-names-none : (head : Head) (line : Line) → NamesEvents line → SpellsLine head line (codes "end") → ⊥
end-names-none head line events s = subst NamesEvents (sym (line-same head (codes "end") ToldLine.End line (end-told head) s)) events

-- one text is of one line
pub one-line-spelled : (head : Head) (a b : Line) (text : List ℕ) → SpellsLine head a text → SpellsLine head b text → a ≡ b
one-line-spelled head a b text s t =
    let told = line-again head a text s in sym told.2 ∙ line-same head text told.0 b told.1 t

-- texts are of one list of lines
pub one-list-spelled : (head : Head) (ls ms : List Line) (texts : List (List ℕ)) → SpellsLines head ls texts → SpellsLines head ms texts → ls ≡ ms
one-list-spelled head [] [] [] s t = refl
one-list-spelled head [] (b ∷ ms) [] s t = absurd t
one-list-spelled head (a ∷ ls) [] [] s t = absurd s
one-list-spelled head (a ∷ ls) (b ∷ ms) [] s t = absurd s
one-list-spelled head [] ms (text ∷ texts) s t = absurd s
one-list-spelled head (a ∷ ls) [] (text ∷ texts) s t = absurd t
one-list-spelled head (a ∷ ls) (b ∷ ms) (text ∷ texts) s t =
    rw (one-line-spelled head a b text s.1 t.1, one-list-spelled head ls ms texts s.2 t.2) refl

-- there are as many texts as lines
pub as-many : (head : Head) (lines : List Line) (texts : List (List ℕ)) → SpellsLines head lines texts → length texts ≡ length lines
as-many head [] [] s = refl
as-many head [] (text ∷ texts) s = absurd s
as-many head (line ∷ lines) [] s = absurd s
as-many head (line ∷ lines) (text ∷ texts) s = let shorter = as-many head lines texts s.2 in omega arith

-- one more line
pub lines-more : (head : Head) (lines : List Line) (texts : List (List ℕ)) (line : Line) (text : List ℕ) → SpellsLines head lines texts → NamesEvents line
    → SpellsLine head line text → SpellsLines head (lines ++ line ∷ []) (texts ++ text ∷ [])
lines-more head [] [] line text s events spelled = (events, spelled, tt)
lines-more head [] (t ∷ texts) line text s events spelled = absurd s
lines-more head (l ∷ lines) [] line text s events spelled = absurd s
lines-more head (l ∷ lines) (t ∷ texts) line text s events spelled = (s.0, s.1, lines-more head lines texts line text s.2 events spelled)

-- what stands behind lines of events in a schedule is a line
pub line-next : (head : Head) (ls ms : List Line) (texts texts' : List (List ℕ)) (line : List ℕ) (more : List (List ℕ)) → SpellsLines head ls texts
    → SpellsLines head ms texts' → texts ++ line ∷ more ≡ texts' ++ codes "end" ∷ [] → (spelled : Line) × SpellsLine head spelled line
line-next head [] [] [] [] line more s t e = (Line.End, (tt, first-same e))
line-next head ls (b ∷ ms) [] (text ∷ texts') line more s t e = (b, subst (SpellsLine head b) (sym (first-same e)) t.1)
line-next head (a ∷ ls) [] (text ∷ texts) [] line more s t e = absurd (not-nil texts line more (rest-same e))
line-next head (a ∷ ls) (b ∷ ms) (text ∷ texts) (text' ∷ texts') line more s t e = line-next head ls ms texts texts' line more s.2 t.2 (rest-same e)
line-next head ls [] texts (text ∷ texts') line more s t e = absurd t
line-next head ls (b ∷ ms) texts [] line more s t e = absurd t
line-next head [] ms (text ∷ texts) texts' line more s t e = absurd s
line-next head (a ∷ ls) ms [] texts' line more s t e = absurd s

-- in a schedule nothing stands behind `end`
pub nothing-next : (head : Head) (ls ms : List Line) (texts texts' : List (List ℕ)) (line : List ℕ) (more : List (List ℕ)) → SpellsLines head ls texts
    → SpellsLines head ms texts' → texts ++ codes "end" ∷ line ∷ more ≡ texts' ++ codes "end" ∷ [] → ⊥
nothing-next head [] [] [] [] line more s t e = nil-cons (sym (rest-same e))
nothing-next head [] (b ∷ ms) [] (text ∷ texts') line more s t e = end-names-none head b t.0 (subst (SpellsLine head b) (sym (first-same e)) t.1)
nothing-next head (a ∷ ls) [] (text ∷ texts) [] line more s t e = not-nil texts (codes "end") (line ∷ more) (rest-same e)
nothing-next head (a ∷ ls) (b ∷ ms) (text ∷ texts) (text' ∷ texts') line more s t e = nothing-next head ls ms texts texts' line more s.2 t.2 (rest-same e)
nothing-next head ls [] texts (text ∷ texts') line more s t e = absurd t
nothing-next head ls (b ∷ ms) texts [] line more s t e = absurd t
nothing-next head [] ms (text ∷ texts) texts' line more s t e = absurd s
nothing-next head (a ∷ ls) ms [] texts' line more s t e = absurd s

-- lines of events are not such lines and `end`
pub not-ended : (head : Head) (ls ms : List Line) (texts texts' : List (List ℕ)) → SpellsLines head ls texts → SpellsLines head ms texts'
    → texts ≡ texts' ++ codes "end" ∷ [] → ⊥
not-ended head [] ms [] [] s t e = nil-cons e
not-ended head ls ms [] (text ∷ texts') s t e = nil-cons e
not-ended head (a ∷ ls) [] (text ∷ texts) [] s t e = end-names-none head a s.0 (subst (SpellsLine head a) (first-same e) s.1)
not-ended head (a ∷ ls) (b ∷ ms) (text ∷ texts) (text' ∷ texts') s t e = not-ended head ls ms texts texts' s.2 t.2 (rest-same e)
not-ended head ls [] texts (text ∷ texts') s t e = absurd t
not-ended head ls (b ∷ ms) texts [] s t e = absurd t
not-ended head [] ms (text ∷ texts) texts' s t e = absurd s
not-ended head (a ∷ ls) ms [] texts' s t e = absurd s
