-- What a step of a world means for what is played by its rules.
use Rattle.std.proofs.Common.{◌≡◌, ℕ, ◌<◌, ◌≤◌, Bool, List, ◌∷◌, Option, Some, None, refl, sym, ap, subst, ◌∙◌, arith}
use Rattle.nq_base.specs.declared.Event.{Event}
use Rattle.nq_model.specs.protocol.Stepped.{Stepped as Answer, done, no_packet, out_of_skew, too_many_events, too_many_packets}
use Rattle.nq_model.specs.protocol.World.{Head}
use Rattle.nq_replay.specs.AsidesGoing.{Goes, WasRefused}
use Rattle.nq_replay.specs.AsidesPlaying.{Played as Due, answered, refused, took}
use Rattle.nq_replay.specs.Delivering.{Marks, least_undelivered}
use Rattle.nq_replay.specs.Rules.{Rules, next_packet, packet_of, play_event, with_event}
use Rattle.nq_replay.specs.RulesGoing.{IsFlagged, IsAt, StepsBy}
use Rattle.nq_world.specs.Answering.{told as answer_of}
use Rattle.nq_world.specs.declared.stepped.Stepped.{Stepped}

-- the packet that is delivered next is the least that has no flag
pub next-is : {E A S : Type 0} (rules : Rules E A S) (head : Head) (moment : S) (flags : List Bool) (sent : ℕ) (next : Option ℕ)
    → Marks flags (rules.scheduled moment) → sent ≡ rules.sent head moment
    → ((es : List Event) → Marks flags es → next ≡ least_undelivered 0 sent es) → next_packet rules head moment ≡ next
unfolding next_packet
next-is rules head moment flags sent next marks many least =
    sym (least (rules.scheduled moment) marks ∙ ap (λ n. least_undelivered 0 n (rules.scheduled moment)) many)

-- ---- flags

-- an event that delivers nothing leaves the flags
unmarked : (flags : List Bool) (e : Option Event) (events : List Event) → packet_of e ≡ None → Marks flags events → Marks flags (with_event e events)
unmarked flags None events none marks = marks
unmarked flags (Some (Event.Call host op)) events none marks = marks
unmarked flags (Some (Event.Deliver packet)) events none marks = absurd (cc)
unmarked flags (Some Event.ServerTick) events none marks = marks
unmarked flags (Some (Event.ClientTick host)) events none marks = marks
unmarked flags (Some (Event.Restart host)) events none marks = marks
unmarked flags (Some (Event.Crash longest)) events none marks = marks

marked : (flags : List Bool) (e : Option Event) (packet : ℕ) (events : List Event) → packet_of e ≡ Some packet
    → Marks flags (Event.Deliver packet ∷ events) → Marks flags (with_event e events)
marked flags None packet events some marks = absurd (cc)
marked flags (Some (Event.Call host op)) packet events some marks = absurd (cc)
marked flags (Some (Event.Deliver k)) packet events some marks = let same : packet ≡ k = cc in subst (λ p. Marks flags (Event.Deliver p ∷ events)) same marks
marked flags (Some Event.ServerTick) packet events some marks = absurd (cc)
marked flags (Some (Event.ClientTick host)) packet events some marks = absurd (cc)
marked flags (Some (Event.Restart host)) packet events some marks = absurd (cc)
marked flags (Some (Event.Crash longest)) packet events some marks = absurd (cc)

pub marks-none : {E A S : Type 0} (rules : Rules E A S) (flags : List Bool) (event : E) (moment : S)
    → rules.scheduled (rules.more moment event) ≡ with_event (rules.in_schedule event) (rules.scheduled moment)
    → packet_of (rules.in_schedule event) ≡ None → Marks flags (rules.scheduled moment) → Marks flags (rules.scheduled (rules.more moment event))
marks-none rules flags event moment more none marks =
    subst (λ es. Marks flags es) (sym more) (unmarked flags (rules.in_schedule event) (rules.scheduled moment) none marks)

pub marks-some : {E A S : Type 0} (rules : Rules E A S) (flags : List Bool) (event : E) (packet : ℕ) (moment : S)
    → rules.scheduled (rules.more moment event) ≡ with_event (rules.in_schedule event) (rules.scheduled moment)
    → packet_of (rules.in_schedule event) ≡ Some packet → Marks flags (Event.Deliver packet ∷ rules.scheduled moment)
    → Marks flags (rules.scheduled (rules.more moment event))
marks-some rules flags event packet moment more some marks =
    subst (λ es. Marks flags es) (sym more) (marked flags (rules.in_schedule event) packet (rules.scheduled moment) some marks)

-- ---- steps

-- an event that was taken
pub taken : {E A S W : Type 0} (rules : Rules E A S) (plays : Head → S → W → Type 0) (head : Head) (moment : S) (event : E) (w : W) (flags : List Bool)
    → rules.answer head moment event ≡ done → plays head (rules.more moment event) w → Marks flags (rules.scheduled (rules.more moment event))
    → Goes Stepped.Done (play_event rules head event moment) (λ next. IsAt rules plays head next w flags)
unfolding play_event
taken rules plays head moment event w flags is playing marks = rw is (record { playing = playing; marks = marks })

-- an event that was refused
was-refused : {S : Type 0} (next : S) (answer : Answer) (said : Stepped) → answer_of answer ≡ said → (said ≡ Stepped.Done → ⊥)
    → WasRefused (answered next answer) said
was-refused next done said is other = absurd (other (sym is))
was-refused next no_packet said is other = is
was-refused next (out_of_skew broken) said is other = is
was-refused next too_many_events said is other = is
was-refused next too_many_packets said is other = is

pub not-taken : {E A S W : Type 0} (rules : Rules E A S) (plays : Head → S → W → Type 0) (head : Head) (moment : S) (event : E) (said : Stepped) (w : W)
    (P : S → Type 0) → StepsBy rules plays head moment event said w → (said ≡ Stepped.Done → ⊥) → Goes said (play_event rules head event moment) P
unfolding play_event
not-taken rules plays head moment event Stepped.Done w P steps other = absurd (other refl)
not-taken rules plays head moment event Stepped.NoPacket w P steps other =
    was-refused (rules.more moment event) (rules.answer head moment event) Stepped.NoPacket steps other
not-taken rules plays head moment event (Stepped.SkewBroken broken) w P steps other =
    was-refused (rules.more moment event) (rules.answer head moment event) (Stepped.SkewBroken broken) steps other
not-taken rules plays head moment event (Stepped.Limit limit) w P steps other =
    was-refused (rules.more moment event) (rules.answer head moment event) (Stepped.Limit limit) steps other
not-taken rules plays head moment event Stepped.Fault w P steps other = tt
not-taken rules plays head moment event Stepped.Memory w P steps other = tt

-- an event that is given to a world by an aside
pub steps-go : {E A S W : Type 0} (rules : Rules E A S) (plays : Head → S → W → Type 0) (head : Head) (moment : S) (event : E) (said : Stepped) (w : W)
    → StepsBy rules plays head moment event said w → Goes said (play_event rules head event moment) (λ next. plays head next w)
unfolding play_event
steps-go rules plays head moment event Stepped.Done w steps = rw steps.0 (steps.1)
steps-go rules plays head moment event Stepped.NoPacket w steps =
    was-refused (rules.more moment event) (rules.answer head moment event) Stepped.NoPacket steps (λ is. absurd (cc))
steps-go rules plays head moment event (Stepped.SkewBroken broken) w steps =
    was-refused (rules.more moment event) (rules.answer head moment event) (Stepped.SkewBroken broken) steps (λ is. absurd (cc))
steps-go rules plays head moment event (Stepped.Limit limit) w steps =
    was-refused (rules.more moment event) (rules.answer head moment event) (Stepped.Limit limit) steps (λ is. absurd (cc))
steps-go rules plays head moment event Stepped.Fault w steps = tt
steps-go rules plays head moment event Stepped.Memory w steps = tt

-- a world that only sent what was due
pub at-sent : {E A S W : Type 0} (rules : Rules E A S) (plays : Head → S → W → Type 0) (head : Head) (moment : S) (old new : W) (flags flags' : List Bool)
    → IsAt rules plays head moment old flags → (plays head moment old → plays head moment new) → flags' ≡ flags
    → IsAt rules plays head moment new flags'
at-sent rules plays head moment old new flags flags' at same is = record {
  playing = same at.playing;
  marks = subst (λ f. Marks f (rules.scheduled moment)) (sym is) at.marks;
}

-- a packet that was delivered has a flag
pub has-flag : (o : Option ℕ) (sent room : ℕ) → ((packet : ℕ) → o ≡ Some packet → packet < sent) → sent ≤ room → IsFlagged room o
has-flag None sent room below reached = tt
has-flag (Some packet) sent room below reached = let low = below packet refl in omega arith

-- ---- asides

went-beside : {S : Type 0} (due : Due S) (said : Stepped) (P Q : S → Type 0) →
    ((next : S) → due ≡ took next → P next → Q next) → Goes said due P → Goes said due Q
went-beside (took next) Stepped.Done P Q on goes = on next refl goes
went-beside (refused answer) Stepped.Done P Q on goes = goes
went-beside due Stepped.NoPacket P Q on goes = goes
went-beside due (Stepped.SkewBroken broken) P Q on goes = goes
went-beside due (Stepped.Limit limit) P Q on goes = goes
went-beside due Stepped.Fault P Q on goes = goes
went-beside due Stepped.Memory P Q on goes = goes

-- an aside leaves the flags
pub acts-at : {E A S W : Type 0} (rules : Rules E A S) (plays : Head → S → W → Type 0) (head : Head) (aside : A) (moment : S) (said : Stepped) (w : W)
    (flags : List Bool) → ((next : S) → rules.aside head aside moment ≡ took next → rules.scheduled next ≡ rules.scheduled moment)
    → Marks flags (rules.scheduled moment) → Goes said (rules.aside head aside moment) (λ next. plays head next w)
    → Goes said (rules.aside head aside moment) (λ next. IsAt rules plays head next w flags)
acts-at rules plays head aside moment said w flags beside marks goes =
    went-beside (rules.aside head aside moment) said (λ next. plays head next w) (λ next. IsAt rules plays head next w flags)
    (λ next is playing. record { playing = playing; marks = subst (λ es. Marks flags es) (sym (beside next is)) marks }) goes
