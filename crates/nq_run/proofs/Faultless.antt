-- A run that ends with status 0 counted no fault of its input or its output.
use Rattle.std.proofs.Common.{◌≡◌, ℕ, List, Option, Some, None, Result, Ok, Err, inl, inr, subst, sym, ◌∙◌, ⊎_elim, arith}
use Rattle.nq_base.proofs.Ends.{one_end}
use Rattle.nq_base.specs.Status.{status_of}
use Rattle.nq_base.specs.declared.Entry.{Entry}
use Rattle.nq_base.specs.declared.Who.{Who}
use Rattle.nq_base.specs.declared.ending.ending.Ending.{Ending}
use Rattle.nq_base.specs.declared.ending.fault.Fault.{Fault}
use Rattle.nq_clock.specs.Clocks.{ClockTold}
use Rattle.nq_hosts.specs.Telling.{TellsEnd, TellsSo, TellsStop}
use Rattle.nq_hosts.specs.Using.{UsesInput, UsesText}
use Rattle.nq_hosts.specs.declared.answers.ending.Stop.{Stop}
use Rattle.nq_io.specs.Whole.{CountsWhole}
use Rattle.nq_io.specs.declared.Whole.{Whole}
use Rattle.nq_link.specs.Links.{LinkTold}
use Rattle.nq_replay.specs.Ending.{CountsSink, CountsSource}
use Rattle.nq_run.specs.Checking.{ChecksFor}
use Rattle.nq_run.specs.Fates.{FateTold}
use Rattle.nq_run.specs.Hosting.{Attends}
use Rattle.nq_run.specs.Naming.{NamesFor}
use Rattle.nq_run.specs.Running.{LoopsOn, ReplaysOn, StormsOn}
use Rattle.nq_run.specs.Staging.{StagesFor}
use Rattle.nq_service.specs.Serving.{IsNotOpened, PrintsBehind, ServesDisk}
use Rattle.nq_serving.specs.Serving.{Tells}
use Rattle.nq_storm.specs.Rules.{Rule}

-- ---- runs

still-source : (end : Ending) (code before count : ℕ) → code ≡ status_of end → code ≡ status_of Ending.Done → CountsSource end before count
    → count ≡ before
still-source end code before count status done counts = subst (λ e. CountsSource e before count) (one_end end Ending.Done code status done) counts

still-sink : (end : Ending) (code before count : ℕ) → code ≡ status_of end → code ≡ status_of Ending.Done → CountsSink end before count → count ≡ before
still-sink end code before count status done counts = subst (λ e. CountsSink e before count) (one_end end Ending.Done code status done) counts

pub replays_faultless : {D : Type 0} (limit code : ℕ) (left rest held now : Option (List ℕ)) (r r' w w' before count : ℕ)
    (bytes : Option (List ℕ)) (disk disk' : D) → ReplaysOn limit code left rest held now r r' w w' before count bytes disk disk'
    → code ≡ status_of Ending.Done → (r' ≡ r) × (w' ≡ w)
replays_faultless limit code left rest held now r r' w w' before count bytes disk disk' over done =
    let does = over.replays.does in
    (still-source does.end code r r' does.status done does.source, still-sink does.end code w w' does.status done does.sink)

pub storms_faultless : (code kind start count : ℕ) (rules : List (Option Rule)) (old new : List FateTold) (held now : Option (List ℕ))
    (w w' before faults : ℕ) (bytes : Option (List ℕ)) → StormsOn code kind start count rules old new held now w w' before faults bytes
    → code ≡ status_of Ending.Done → w' ≡ w
storms_faultless code kind start count rules old new held now w w' before faults bytes (inl left) done = left.0.quiet.1
storms_faultless code kind start count rules old new held now w w' before faults bytes (inr over) done =
    let does = over.does in
    still-sink does.end code w w' does.status done does.sink

pub loops_faultless : (code hosts turns : ℕ) (clock clock' : ClockTold) (links links' : List LinkTold) (held now : Option (List ℕ))
    (w w' before count : ℕ) (bytes : Option (List ℕ)) → LoopsOn code hosts turns clock clock' links links' held now w w' before count bytes
    → code ≡ status_of Ending.Done → w' ≡ w
loops_faultless code hosts turns clock clock' links links' held now w w' before count bytes (inl left) done = left.0.quiet.1
loops_faultless code hosts turns clock clock' links links' held now w w' before count bytes (inr over) done =
    let does = over.does in
    still-sink does.end code w w' does.status done does.sink

pub checks_faultless : (limit code : ℕ) (left rest held now : Option (List ℕ)) (r r' w w' : ℕ) → ChecksFor limit code left rest held now r r' w w'
    → code ≡ status_of Ending.Done → (r' ≡ r) × (w' ≡ w)
checks_faultless limit code left rest held now r r' w w' does done =
    (still-source does.end code r r' does.status done does.source, still-sink does.end code w w' does.status done does.sink)

pub stages_faultless : (limit code : ℕ) (left rest held now : Option (List ℕ)) (r r' w w' : ℕ) → StagesFor limit code left rest held now r r' w w'
    → code ≡ status_of Ending.Done → (r' ≡ r) × (w' ≡ w)
stages_faultless limit code left rest held now r r' w w' does done =
    (still-source does.end code r r' does.status done does.source, still-sink does.end code w w' does.status done does.sink)

pub names_faultless : (limit code : ℕ) (left rest held now : Option (List ℕ)) (r r' w w' : ℕ) → NamesFor limit code left rest held now r r' w w'
    → code ≡ status_of Ending.Done → (r' ≡ r) × (w' ≡ w)
names_faultless limit code left rest held now r r' w w' does done =
    (still-source does.end code r r' does.status done does.source, still-sink does.end code w w' does.status done does.sink)

-- ---- a server

not-done : {D : Type 0} (told : D → Option (List ℕ)) (faults : D → ℕ) (code : ℕ) (disk left : D) (held now : Option (List ℕ)) (w w' : ℕ)
    → IsNotOpened told faults code disk left held now w w' → code ≡ status_of Ending.Done → ⊥
not-done told faults code disk left held now w w' (inl refuses) done =
    ⊎_elim (λ tells. let no = sym tells.0 ∙ done in absurd (omega arith)) (λ lacks. let no = sym lacks.0 ∙ done in absurd (omega arith)) refuses.tells
not-done told faults code disk left held now w w' (inr (inl fails)) done = let no = sym fails.status ∙ done in absurd (omega arith)
not-done told faults code disk left held now w w' (inr (inr lacks)) done = let no = sym lacks.status ∙ done in absurd (omega arith)

behind-turns : (end : Ending) (code turns : ℕ) (P : Result Unit Fault → Type 0) (held between now : Option (List ℕ)) (w count w' : ℕ)
    → Tells end turns P held between w count → PrintsBehind end code between now count w' → code ≡ status_of Ending.Done → w' ≡ w
behind-turns Ending.Done code turns P held between now w count w' tells prints done = prints.2 ∙ tells.2
behind-turns Ending.WriteFault code turns P held between now w count w' tells prints done = let no = sym prints.0 ∙ done in absurd (omega arith)
behind-turns Ending.KeepFault code turns P held between now w count w' tells prints done = let no = sym prints.0 ∙ done in absurd (omega arith)
behind-turns Ending.Memory code turns P held between now w count w' tells prints done = let no = sym prints.0 ∙ done in absurd (omega arith)
behind-turns Ending.LinkFault code turns P held between now w count w' tells prints done = let no = sym prints.0 ∙ done in absurd (omega arith)
behind-turns Ending.NoAnswer code turns P held between now w count w' tells prints done = let no = sym prints.0 ∙ done in absurd (omega arith)
behind-turns Ending.Spent code turns P held between now w count w' tells prints done =
    ⊎_elim (λ told. let no = sym told.0 ∙ done in absurd (omega arith)) (λ lacks. let no = sym lacks.0 ∙ done in absurd (omega arith)) prints
behind-turns other code turns P held between now w count w' tells prints done = absurd tells

pub serves_faultless : {D : Type 0} (told : D → Option (List ℕ)) (faults : D → ℕ) (may_leave : D → List ℕ → Type 0) (follows : D → D → Type 0)
    (leaves : D → D → List ℕ → Type 0) (code longest turns : ℕ) (disk left : D) (clock clock' : ClockTold) (link link' : LinkTold)
    (held now : Option (List ℕ)) (w w' : ℕ)
    → ServesDisk told faults may_leave follows leaves code longest turns disk left clock clock' link link' held now w w'
    → code ≡ status_of Ending.Done → w' ≡ w
serves_faultless told faults may_leave follows leaves code longest turns disk left clock clock' link link' held now w w' (inl opens) done =
    absurd (not-done told faults code disk left held now w w' opens.why done)
serves_faultless told faults may_leave follows leaves code longest turns disk left clock clock' link link' held now w w' (inr serves) done =
    let s = serves.serves in
    behind-turns s.end code turns _ held s.between now w s.count w' s.tells s.prints done

-- ---- a client

not-told : (due : Ending) (text : List ℕ) (held now : Option (List ℕ)) (w w' : ℕ) → (Ending.Done ≡ due → ⊥) → TellsSo due text Ending.Done held now w w' → ⊥
not-told due text held now w w' other (inl so) = other so.0
not-told due text held now w w' other (inr lacks) = let is = lacks.0 in absurd (cc)

not-stopped : (why : Fault) (line : ℕ) (entries : List Entry) (held now : Option (List ℕ)) (w w' : ℕ)
    → TellsStop why line entries Ending.Done held now w w' → ⊥
not-stopped Fault.Link line entries held now w w' tells = let is = tells.0 in absurd (cc)
not-stopped Fault.Keep line entries held now w w' tells = let is = tells.0 in absurd (cc)
not-stopped Fault.Memory line entries held now w w' tells = let is = tells.0 in absurd (cc)
not-stopped Fault.Spent line entries held now w w' tells = not-told Ending.Limit _ held now w w' (λ is. absurd (cc)) tells
not-stopped Fault.NoAnswer line entries held now w w' tells = not-told Ending.NoAnswer _ held now w w' (λ is. absurd (cc)) tells

all-told : (ended : Result Unit Stop) (entries : List Entry) (held now : Option (List ℕ)) (w w' : ℕ)
    → TellsEnd ended entries Ending.Done held now w w' → w' ≡ w
all-told (Ok done) entries held now w w' tells = tells.1
all-told (Err stop) entries held now w w' tells = absurd (not-stopped stop.why stop.line entries held now w w' tells)

text-used : (fault : Option ℕ) (turns : ℕ) (who : Who) (text : List ℕ) (held now : Option (List ℕ)) (w w' : ℕ) (clock clock' : ClockTold)
    (link link' : LinkTold) → UsesText fault turns who text Ending.Done held now w w' clock clock' link link' → w' ≡ w
text-used (Some number) turns who text held now w w' clock clock' link link' uses =
    absurd (not-told Ending.Script _ held now w w' (λ is. absurd (cc)) uses.0)
text-used None turns who text held now w w' clock clock' link link' uses = all-told uses.ended uses.log'.entries held now w w' uses.tells

input-used : (whole : Whole) (turns : ℕ) (who : Who) (s s' : ℕ) (held now : Option (List ℕ)) (w w' : ℕ) (clock clock' : ClockTold)
    (link link' : LinkTold) → CountsWhole whole s s' → UsesInput whole turns who Ending.Done held now w w' clock clock' link link'
    → (s' ≡ s) × (w' ≡ w)
input-used (Whole.All text) turns who s s' held now w w' clock clock' link link' counts uses =
    (counts, text-used uses.0 turns who text.items held now w w' clock clock' link link' uses.2)
input-used (Whole.Over front) turns who s s' held now w w' clock clock' link link' counts uses =
    absurd (not-told Ending.Limit _ held now w w' (λ is. absurd (cc)) uses.0)
input-used Whole.Failed turns who s s' held now w w' clock clock' link link' counts uses = let is = uses.0 in absurd (cc)
input-used Whole.Memory turns who s s' held now w w' clock clock' link link' counts uses = let is = uses.0 in absurd (cc)

pub attends_faultless : (turns : ℕ) (who : Who) (limit code : ℕ) (left rest : Option (List ℕ)) (s s' : ℕ) (held now : Option (List ℕ)) (w w' : ℕ)
    (clock clock' : ClockTold) (link link' : LinkTold)
    → Attends turns who limit code left rest s s' held now w w' clock clock' link link' → code ≡ status_of Ending.Done → (s' ≡ s) × (w' ≡ w)
attends_faultless turns who limit code left rest s s' held now w w' clock clock' link link' a done =
    let u = a.uses in
    input-used u.whole turns who s s' held now w w' clock clock' link link' u.counts
    (subst (λ e. UsesInput u.whole turns who e held now w w' clock clock' link link') (one_end a.end Ending.Done code a.status done) u.uses)
