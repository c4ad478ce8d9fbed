-- Why a run of calls ends as it does.
use Rattle.std.proofs.Common.{◌≡◌, ◌∙◌, ℕ, zero, suc, Bool, true, false, List, [], ◌∷◌, ◌++◌, Option, Some, None, Result, Ok, Err, inl, inr, length}
use Rattle.std.proofs.Common.{refl, sym, ap, subst, arith, append_assoc, length-append}
use Rattle.std.proofs.lemmas.Option.{same_Some}
use Rattle.std.specs.List.{AllByRecursion}
use Rattle.nq_hosts.specs.Answers.{answers_text}
use Rattle.nq_hosts.specs.Telling.{TellsEnd, TellsSo, TellsStop, events_line, noanswer_line, script_line}
use Rattle.nq_hosts.specs.declared.answers.ending.Stop.{Stop}
use Rattle.nq_base.specs.declared.Answer.{Answer}
use Rattle.nq_base.specs.declared.Call.{Call}
use Rattle.nq_base.specs.declared.Entry.{Entry}
use Rattle.nq_base.specs.declared.Who.{Who}
use Rattle.nq_base.specs.Entries.{EntryList}
use Rattle.nq_hosts.specs.Lines.{AreCalls, IsCall, Tells}
use Rattle.nq_client.specs.Counted.{Counted}
use Rattle.nq_base.specs.declared.ending.ending.Ending.{Ending}
use Rattle.nq_base.specs.declared.ending.fault.Fault.{Fault}
use Rattle.nq_io.specs.Faults.{Rose}
use Rattle.nq_link.specs.Link.{Letters}
use Rattle.nq_hosts.specs.ClientTurn.{CountsLink}
use Rattle.nq_clock.specs.Clocks.{ClockTold}
use Rattle.nq_link.specs.Links.{LinkTold}
use Rattle.nq_hosts.proofs.ClientCounts.{turn_link}
use Rattle.nq_script.specs.Text.{text_of}
use Rattle.nq_script.proofs.Cuts.{cut-again}
use Rattle.nq_script.specs.WordsReading.{cut as cut_at}
use Rattle.nq_hosts.specs.Calling as calling
use Rattle.nq_hosts.specs.Calling.{FollowsUp, RunsCall, SendsOut, Waits, refusal_of}
use Rattle.nq_hosts.specs.Running as running
use Rattle.nq_hosts.specs.Running.{AnswersAll, AttendsFrom, Begins, Runs, RunsLine, RunsText}
use Rattle.nq_hosts.specs.UserTurning as turning
use Rattle.nq_hosts.specs.UserTurning.{Between, EndsWithin, Goes, TakesTurn, TakesTurns, Turns}
use Rattle.nq_hosts.specs.Using.{EndsBy, UsesText}
use Rattle.nq_hosts.specs.declared.user.aims.Aim.{Aim}

-- the count of the link's faults rises where it stopped for the link, and stays otherwise; no keeper ever stops it
abbrev Counts : {X : Type 0} → Result X Fault → (before now : ℕ) → Type 0
Counts (Ok done) before now = now ≡ before
Counts (Err Fault.Link) before now = Rose before now
Counts (Err Fault.Keep) before now = ⊥
Counts (Err other) before now = now ≡ before

-- the same of calls
abbrev CallCounts : Result Unit Stop → (before now : ℕ) → Type 0
CallCounts (Ok done) before now = now ≡ before
CallCounts (Err stop) before now = Counts {X = Unit} (Err stop.why) before now

-- why one stopped is why the other does
same-why : (X Y : Type 0) (why : Fault) (before now : ℕ) → Counts {X = X} (Err why) before now → Counts {X = Y} (Err why) before now
same-why X Y Fault.Link before now c = c
same-why X Y Fault.Keep before now c = absurd c
same-why X Y Fault.Memory before now c = c
same-why X Y Fault.Spent before now c = c
same-why X Y Fault.NoAnswer before now c = c

-- ---- one turn

turn-counts : (ended : Result (Option Answer) Fault) (at after : Between) → turning.Attends ended at after → CountsLink ended at.link.faults after.link.faults
turn-counts ended at after t = turn_link ended at.next after.next at.clock after.clock at.link after.link at.client after.client at.log after.log t

turns-same : (aim : Aim) (done : Bool) (at after : Between) → Turns aim done at after → after.link.faults ≡ at.link.faults
turns-same aim done at after t = turn-counts (Ok t.answer) at after t.took

-- a turn that stopped did so for the link, or for what the client itself stops for
pub stops : (why : Fault) (at after : Between) → turning.Attends (Err why) at after → turning.Stops why at after
stops Fault.Link at after t = t
stops Fault.Keep at after t = turn-counts (Err Fault.Keep) at after t
stops Fault.Memory at after t = t
stops Fault.Spent at after t = t
stops Fault.NoAnswer at after t = turn-counts (Err Fault.NoAnswer) at after t

goes-same : (aim : Aim) (count : ℕ) (at after : Between) → Goes aim count at after → after.link.faults ≡ at.link.faults
goes-same aim zero at after g = ap (λ (b : Between). b.link.faults) g
goes-same aim (suc count) at after g = turns-same aim false g.0 after g.2 ∙ goes-same aim count at g.0 g.1

-- ---- turns

turn-outcome : (aim : Aim) (outcome : Result Bool Fault) (at after : Between) → TakesTurn aim outcome at after
    → Counts outcome at.link.faults after.link.faults
turn-outcome aim (Ok done) at after t = turns-same aim done at after t
turn-outcome aim (Err Fault.Link) at after t = turn-counts (Err Fault.Link) at after t
turn-outcome aim (Err Fault.Memory) at after t = turn-counts (Err Fault.Memory) at after t
turn-outcome aim (Err Fault.Spent) at after t = turn-counts (Err Fault.Spent) at after t
turn-outcome aim (Err Fault.Keep) at after t = absurd t
turn-outcome aim (Err Fault.NoAnswer) at after t = absurd t

ends-within : (aim : Aim) (turns : ℕ) (outcome : Result Bool Fault) (at after : Between) → EndsWithin aim turns outcome at after
    → Counts outcome at.link.faults after.link.faults
ends-within aim turns outcome at after e =
    subst (λ n. Counts outcome n after.link.faults) (goes-same aim e.count at e.between e.before) (turn-outcome aim outcome e.between after e.last)

turns-counts : (aim : Aim) (turns : ℕ) (result : Result Unit Fault) (at after : Between) → TakesTurns aim turns result at after
    → Counts result at.link.faults after.link.faults
turns-counts aim turns (Ok done) at after t = ends-within aim turns (Ok true) at after t
turns-counts aim turns (Err Fault.NoAnswer) at after t = goes-same aim turns at after t
turns-counts aim turns (Err Fault.Link) at after t = ends-within aim turns (Err Fault.Link) at after t
turns-counts aim turns (Err Fault.Memory) at after t = ends-within aim turns (Err Fault.Memory) at after t
turns-counts aim turns (Err Fault.Spent) at after t = ends-within aim turns (Err Fault.Spent) at after t
turns-counts aim turns (Err Fault.Keep) at after t = absurd t.last

-- ---- calls

sent-counts : (letters : Letters) (result : Result Unit Fault) (link link' : LinkTold) → SendsOut letters result link link'
    → Counts result link.faults link'.faults
sent-counts letters (Ok done) link link' s = s.2.1
sent-counts letters (Err Fault.Link) link link' s = s.2.1
sent-counts letters (Err Fault.Keep) link link' s = absurd s
sent-counts letters (Err Fault.Memory) link link' s = absurd s
sent-counts letters (Err Fault.Spent) link link' s = absurd s
sent-counts letters (Err Fault.NoAnswer) link link' s = absurd s

follow-counts : (answer : Answer) (letters : Letters) (result : Result Unit Fault) (link link' : LinkTold) → FollowsUp (refusal_of answer) letters
    result link link'
    → Counts result link.faults link'.faults
follow-counts Answer.Memory letters result link link' f = rw (f.0, f.1) refl
follow-counts Answer.Spent letters result link link' f = rw (f.0, f.1) refl
follow-counts other letters result link link' f = sent-counts letters result link link' f

waits-counts : (turns : ℕ) (answered : Bool) (result : Result Unit Fault) (at after : Between) → Waits turns answered result at after
    → Counts result at.link.faults after.link.faults
waits-counts turns true result at after w = rw (w.0, w.1) refl
waits-counts turns false result at after w = turns-counts Aim.Answered turns result at after w

rest-counts : (turns : ℕ) (made result : Result Unit Fault) (at after : Between) (before : ℕ) → calling.GoesOn turns made result at after
    → Counts made before at.link.faults → Counts result before after.link.faults
rest-counts turns (Err why) result at after before g counts = rw (g.0, g.1) counts
rest-counts turns (Ok done) result at after before g counts =
    subst (λ n. Counts result n after.link.faults) counts
    (waits-counts turns (turning.reached Aim.Answered at.client.client) result at after g)

call-counts : (turns : ℕ) (call : Call) (result : Result Unit Fault) (at after : Between) → RunsCall turns call result at after
    → Counts result at.link.faults after.link.faults
call-counts turns call result at after r =
    rest-counts turns r.made result (record { client = r.client; log = r.log; next = at.next; clock = at.clock; link = r.link }) after at.link.faults r.rest
    (follow-counts r.makes.answer r.makes.out'.datagrams r.made at.link r.link r.makes.sends)

line-counts : (turns : ℕ) (line : List ℕ) (result : Result Unit Fault) (at after : Between) → RunsLine turns line result at after
    → Counts result at.link.faults after.link.faults
line-counts turns line result at after r = call-counts turns r.0 result at after r.2

-- ---- lines

all-same : (turns : ℕ) (lines : List (List ℕ)) (at after : Between) → AnswersAll turns lines at after → after.link.faults ≡ at.link.faults
all-same turns [] at after a = ap (λ (b : Between). b.link.faults) a
all-same turns (line ∷ lines) at after a = all-same turns lines a.0 after a.2 ∙ line-counts turns line (Ok tt) at a.0 a.1

text-counts : (turns : ℕ) (text : List ℕ) (result : Result Unit Stop) (at after : Between) → RunsText turns text result at after
    → CallCounts result at.link.faults after.link.faults
text-counts turns text (Ok done) at after r = all-same turns r.0 at after r.2
text-counts turns text (Err stop) at after r =
    let s = r.2 in
    subst (λ n. Counts {X = Unit} (Err stop.why) n after.link.faults) (all-same turns s.before at s.between s.answered)
    (line-counts turns s.line (Err stop.why) s.between after s.last)

-- ---- attaching

from-counts : (turns : ℕ) (text : List ℕ) (attached : Result Unit Fault) (result : Result Unit Stop) (at after : Between) (before : ℕ)
    → AttendsFrom turns text attached result at after → Counts attached before at.link.faults → CallCounts result before after.link.faults
from-counts turns text (Err why) result at after before f counts = rw (f.0, f.1) counts
from-counts turns text (Ok done) result at after before f counts =
    subst (λ n. CallCounts result n after.link.faults) counts (text-counts turns text result at after f)

attend-counts : (turns : ℕ) (text : List ℕ) (result : Result Unit Stop) (at after : Between) → running.Attends turns text result at after
    → CallCounts result at.link.faults after.link.faults
attend-counts turns text result at after a =
    from-counts turns text a.0 result a.1 after at.link.faults a.3 (turns-counts Aim.Attached turns a.0 at a.1 a.2)

begun-counts : (who : Who) (time : ℕ) (begun : Result Counted Fault) (link link' : LinkTold) → Begins who time begun link link'
    → Counts begun link.faults link'.faults
begun-counts who time (Ok client) link link' b = b.2.2.1
begun-counts who time (Err Fault.Memory) link link' b = ap (λ (l : LinkTold). l.faults) b
begun-counts who time (Err Fault.Link) link link' b = b.2.1
begun-counts who time (Err Fault.Keep) link link' b = absurd b
begun-counts who time (Err Fault.Spent) link link' b = absurd b
begun-counts who time (Err Fault.NoAnswer) link link' b = absurd b

behind-counts : (turns : ℕ) (begun : Result Counted Fault) (text : List ℕ) (result : Result Unit Stop) (log log' : EntryList) (clock clock' : ClockTold)
    (link link' : LinkTold) (before : ℕ) → running.GoesOn turns begun text result log log' clock clock' link link' → Counts begun before link.faults
    → CallCounts result before link'.faults
behind-counts turns (Err why) text result log log' clock clock' link link' before g counts = rw (g.0, g.3) (same-why Counted Unit why before
    link.faults counts)
behind-counts turns (Ok client) text result log log' clock clock' link link' before g counts =
    rw g.links (subst (λ n. CallCounts result n g.last.link.faults) counts
    (attend-counts turns text result (record { client = client; log = log; next = 0; clock = clock; link = link }) g.last g.attends))

run-counts : (turns : ℕ) (who : Who) (text : List ℕ) (result : Result Unit Stop) (log log' : EntryList) (clock clock' : ClockTold) (link link' : LinkTold)
    → Runs turns who text result log log' clock clock' link link' → CallCounts result link.faults link'.faults
run-counts turns who text result log log' clock clock' link link' r =
    behind-counts turns r.begun text result log log' r.clock_read clock' r.link_begun link' link.faults r.rest
    (begun-counts who r.time r.begun link r.link_begun r.begins)

-- ---- telling

so-by : (due : Ending) (text : List ℕ) (result : Ending) (held now : Option (List ℕ)) (s s' w w' link link' : ℕ) → TellsSo due text result held now w w'
    → EndsBy due s s' w w' link link' → EndsBy result s s' w w' link link'
so-by due text result held now s s' w w' link link' (inl t) by = rw t.0 by
so-by due text result held now s s' w w' link link' (inr t) by = rw t.0 tt

stop-by : (why : Fault) (line : ℕ) (entries : List Entry) (result : Ending) (held now : Option (List ℕ)) (s s' w w' link link' : ℕ)
    → TellsStop why line entries result held now w w' → Counts {X = Unit} (Err why) link link' → EndsBy result s s' w w' link link'
stop-by Fault.Link line entries result held now s s' w w' link link' t counts = rw t.0 counts
stop-by Fault.Keep line entries result held now s s' w w' link link' t counts = absurd counts
stop-by Fault.Memory line entries result held now s s' w w' link link' t counts = rw t.0 tt
stop-by Fault.Spent line entries result held now s s' w w' link link' t counts = so-by Ending.Limit (answers_text entries ++ events_line line) result
    held now s s' w w' link link' t tt
stop-by Fault.NoAnswer line entries result held now s s' w w' link link' t counts = so-by Ending.NoAnswer (answers_text entries ++ noanswer_line line)
    result held now s s' w w' link link' t tt

end-by : (ended : Result Unit Stop) (entries : List Entry) (result : Ending) (held now : Option (List ℕ)) (s s' w w' link link' : ℕ)
    → TellsEnd ended entries result held now w w' → CallCounts ended link link' → EndsBy result s s' w w' link link'
end-by (Ok done) entries Ending.Done held now s s' w w' link link' t counts = tt
end-by (Ok done) entries Ending.WriteFault held now s s' w w' link link' t counts = t.1
end-by (Ok done) entries Ending.Memory held now s s' w w' link link' t counts = tt
end-by (Ok done) entries other held now s s' w w' link link' t counts = absurd t
end-by (Err stop) entries result held now s s' w w' link link' t counts = stop-by stop.why stop.line entries result held now s s' w w' link link' t counts

-- the end of calls that were run, or of a text with a fault, has its cause
pub text_by : (fault : Option ℕ) (turns : ℕ) (who : Who) (text : List ℕ) (result : Ending) (held now : Option (List ℕ)) (s s' w w' : ℕ)
    (clock clock' : ClockTold) (link link' : LinkTold) → UsesText fault turns who text result held now w w' clock clock' link link'
    → EndsBy result s s' w w' link.faults link'.faults
text_by (Some number) turns who text result held now s s' w w' clock clock' link link' u =
    so-by Ending.Script (script_line number) result held now s s' w w' link.faults link'.faults u.0 tt
text_by None turns who text result held now s s' w w' clock clock' link link' u =
    end-by u.ended u.log'.entries result held now s s' w w' link.faults link'.faults u.tells
    (run-counts turns who text u.ended u.log u.log' clock clock' link link' u.runs)

-- the end of an input that passes its limit has its cause
pub bytes_by : (text : List ℕ) (result : Ending) (held now : Option (List ℕ)) (s s' w w' link link' : ℕ) → TellsSo Ending.Limit text result held now w w'
    → EndsBy result s s' w w' link link'
bytes_by text result held now s s' w w' link link' t = so-by Ending.Limit text result held now s s' w w' link link' t tt

-- ---- lawful texts

-- a line that is cut off two texts that are the same is the same
same-line : (line line' rest rest' : List ℕ) → IsCall line → IsCall line' → line ++ 10 ∷ rest ≡ line' ++ 10 ∷ rest' → (line ≡ line') × (rest ≡ rest')
same-line line line' rest rest' call call' same =
    let both = sym (cut-again 10 line rest call.0) ∙ ap (cut_at 10) same ∙ cut-again 10 line' rest' call'.0 in
    let pair = same_Some (line, rest) (line', rest') both in
    (ap (λ (p : List ℕ × List ℕ). p.0) pair, ap (λ (p : List ℕ × List ℕ). p.1) pair)

-- a text whose lines all spell calls has no fault
no-fault : (lines before : List (List ℕ)) (rest : List ℕ) → AllByRecursion IsCall lines → AllByRecursion IsCall before → text_of lines ≡ text_of before ++ rest
    → (rest ≡ [] → ⊥) → ((line after : List ℕ) → rest ≡ line ++ 10 ∷ after → IsCall line → ⊥) → ⊥
no-fault [] [] rest each calls same more stuck = more (sym same)
no-fault (line ∷ lines) [] rest each calls same more stuck = stuck line (text_of lines) (sym same) each.0
no-fault [] (first ∷ before) rest each calls same more stuck =
    let whole = ap length same in
    let long = length-append (first ++ 10 ∷ text_of before) rest in
    let longer = length-append first (10 ∷ text_of before) in absurd (omega arith)
no-fault (line ∷ lines) (first ∷ before) rest each calls same more stuck =
    let again = same-line line first (text_of lines) (text_of before ++ rest) each.0 calls.0 (same ∙ append_assoc first (10 ∷ text_of before) rest) in
    no-fault lines before rest each.1 calls.1 again.1 more stuck

so-not-script : (due : Ending) (text : List ℕ) (result : Ending) (held now : Option (List ℕ)) (w w' : ℕ) → TellsSo due text result held now w w'
    → (due ≡ Ending.Script → ⊥) → result ≡ Ending.Script → ⊥
so-not-script due text result held now w w' (inl t) not is = not (sym t.0 ∙ is)
so-not-script due text result held now w w' (inr t) not is = let memory = sym t.0 ∙ is in absurd (cc)

stop-not-script : (why : Fault) (line : ℕ) (entries : List Entry) (result : Ending) (held now : Option (List ℕ)) (w w' : ℕ)
    → TellsStop why line entries result held now w w' → result ≡ Ending.Script → ⊥
stop-not-script Fault.Link line entries result held now w w' t is = let other = sym t.0 ∙ is in absurd (cc)
stop-not-script Fault.Keep line entries result held now w w' t is = let other = sym t.0 ∙ is in absurd (cc)
stop-not-script Fault.Memory line entries result held now w w' t is = let other = sym t.0 ∙ is in absurd (cc)
stop-not-script Fault.Spent line entries result held now w w' t is = so-not-script Ending.Limit (answers_text entries ++ events_line line) result held
    now w w' t (λ same. absurd (cc)) is
stop-not-script Fault.NoAnswer line entries result held now w w' t is = so-not-script Ending.NoAnswer (answers_text entries ++ noanswer_line line)
    result held now w w' t (λ same. absurd (cc)) is

end-not-script : (ended : Result Unit Stop) (entries : List Entry) (result : Ending) (held now : Option (List ℕ)) (w w' : ℕ)
    → TellsEnd ended entries result held now w w' → result ≡ Ending.Script → ⊥
end-not-script (Ok done) entries result held now w w' t is = subst (λ end. TellsEnd (Ok done) entries end held now w w') is t
end-not-script (Err stop) entries result held now w w' t is = stop-not-script stop.why stop.line entries result held now w w' t is

-- a text whose lines all spell calls is never at fault
pub lawful_text : (fault : Option ℕ) (turns : ℕ) (who : Who) (text : List ℕ) (lines : List (List ℕ)) (result : Ending) (held now : Option (List ℕ)) (w w' : ℕ)
    (clock clock' : ClockTold) (link link' : LinkTold) → Tells fault text → UsesText fault turns who text result held now w w' clock clock' link link'
    → AreCalls lines text → result ≡ Ending.Script → ⊥
lawful_text (Some number) turns who text lines result held now w w' clock clock' link link' first u are is =
    no-fault lines first.before first.rest are.each first.each (sym are.split ∙ first.split) first.more first.stuck
lawful_text None turns who text lines result held now w w' clock clock' link link' none u are is =
    end-not-script u.ended u.log'.entries result held now w w' u.tells is

-- an input that passes its limit is not told to be at fault
pub lawful_bytes : (text : List ℕ) (result : Ending) (held now : Option (List ℕ)) (w w' : ℕ) → TellsSo Ending.Limit text result held now w w'
    → result ≡ Ending.Script → ⊥
lawful_bytes text result held now w w' t is = so-not-script Ending.Limit text result held now w w' t (λ same. absurd (cc)) is
