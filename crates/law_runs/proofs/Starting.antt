-- An incarnation that is not attached answers its calls `busy` and nothing else.
use Rattle.std.proofs.Common.{◌≡◌, ◌⊎◌, ℕ, ◌+◌, Bool, true, false, List, [], ◌∷◌, ◌++◌, Option, Some, None, refl, sym, subst, ap, ◌∙◌, inl, inr, arith}
use Rattle.std.specs.Prelude.{◌≤◌}
use Rattle.nq_base.specs.declared.Call.{Call}
use Rattle.nq_base.specs.declared.Entry.{Entry}
use Rattle.nq_base.specs.declared.Tag.{Tag}
use Rattle.nq_base.specs.declared.Who.{Who}
use Rattle.nq_model.specs.laws.BusyIsSaidAtOnce.{IsBusyOnly, IsStarting, IsStartOf}
use Rattle.nq_model.specs.protocol.Client.{Client, ClientStep, Job, attaching, begun, UnderWay}
use Rattle.nq_model.specs.protocol.ClientStep.{begins_call, says_busy, client_call, at_time, sends_again, client_tick, next_incarnation}
use Rattle.nq_model.specs.protocol.Hear.{hear, spends, attached, vacates_lease, notes_notice, cancels, evicted, goes_on, replied}
use Rattle.nq_model.specs.laws.Journal.{Each}
use Rattle.nq_model.specs.protocol.Message.{Message}
use Rattle.nq_model.specs.protocol.Send.{sends_request, after_seq, after_number, takes_push, gives_up, send_next}
use Rattle.nq_model.specs.protocol.Settle.{settle, settle_under_way}
use Rattle.nq_model.proofs.Lists.{each-append, exists-right}
use Rattle.walk_files.proofs.CallsFit.{entry_who}
use Rattle.walk_steps.proofs.ClientFacts.{Alone, IsWaiting}
use Rattle.walk_steps.proofs.ClientMoves.{some-same, none-some}
use Rattle.walk_steps.proofs.Packets.{In}
use Rattle.walk_steps.proofs.RepliedCases.{replied-cases}
use Rattle.walk_steps.proofs.SendCases.{send-moves}
use Rattle.walk_steps.proofs.StepCases.{call-cases, tick-cases, evicted-cases, heard-cases}
use Rattle.law_runs.proofs.OkMoves.{IsMild}

-- ---- entries of others

pub all-idle : (who : Who) (es : List Entry) → ((e : Entry) → In es e → IsMild who e) → Each (IsBusyOnly who) es
all-idle who [] mild = tt
all-idle who (e ∷ es) mild = (at e (mild e (inl refl)), all-idle who es (λ x i. mild x (inr i)))
  where
    at : (x : Entry) → IsMild who x → IsBusyOnly who x
    at (Entry.A by q said) m = λ same. absurd (m.no_answer q (same, refl))
    at other m = tt

-- entries that answer nothing but `busy` leave it starting
pub still-starting : (who : Who) (es journal : List Entry) → Each (IsBusyOnly who) es → IsStarting who journal → IsStarting who (es ++ journal)
still-starting who es journal idle s = record {
  started = exists-right (IsStartOf who) es journal s.started;
  idle = each-append (IsBusyOnly who) es journal idle s.idle;
}

-- no entry is of the next incarnation
pub next-idle : (c : Client) (journal : List Entry)
    → ((e : Entry) (w : Who) → In journal e → entry_who e ≡ Some w → w.host ≡ c.who.host → w.inc ≤ c.who.inc)
    → Each (IsBusyOnly (next_incarnation c.who)) journal
next-idle c [] past = tt
next-idle c (e ∷ journal) past = (at e (λ w. past e w (inl refl)), next-idle c journal (λ x w i. past x w (inr i)))
  where
    at : (x : Entry) → ((w : Who) → entry_who x ≡ Some w → w.host ≡ c.who.host → w.inc ≤ c.who.inc) → IsBusyOnly (next_incarnation c.who) x
    at (Entry.A by q said) f = λ same.
        let few : (next_incarnation c.who).inc ≤ c.who.inc = f (next_incarnation c.who) (ap Some same) refl in
        absurd (omega arith)
    at other f = tt

-- ---- the steps of a client that is not attached

abbrev Idles : Client → ClientStep → Type 0
Idles c t = Each (IsBusyOnly c.who) t.entries

pub call-idles : (c : Client) (op : Call) → c.attached ≡ false → Idles c (client_call c op)
unfolding says_busy begins_call
call-idles c op off = call-cases c op (λ t. Idles c t) (record {
  busy = λ why. ((λ same. refl), (tt, tt));
  telling = λ file loss losses none on changes has. clash on;
  going = λ none on unlost. clash on;
})
  where
    clash : {X : Type 0} → c.attached ≡ true → X
    clash on = let bad : true ≡ false = sym on ∙ off in absurd (cc)

pub tick-idles : (c : Client) (now : ℕ) → Alone c → c.attached ≡ false → Idles c (client_tick c now)
unfolding at_time sends_again
tick-idles c now alone off =
    let waits = alone.asking.waiting off in
    tick-cases c now (λ t. Idles c t) (record {
      again = λ ticket is due. tt;
      quiet = λ ticket is soon. tt;
      free = λ none. none-some waits.request (sym none ∙ waits.asks);
    })

sent-entries : (in_tick : Bool) (t : ClientStep) → (send_next in_tick t).entries ≡ t.entries
unfolding sends_request after_seq after_number takes_push gives_up
sent-entries in_tick t = send-moves in_tick t (λ v. v.entries ≡ t.entries) (record {
  kept = refl;
  pushes = λ file p first. refl;
  asks = λ job request. refl;
  decides = λ request. refl;
  writes = λ file block body. refl;
  changes = λ file request. refl;
})

-- a step that has told nothing, of a client that has no call
record IsQuiet (t : ClientStep) : Type 0 where
  entries : t.entries ≡ []
  idle : t.client.call ≡ None

went-on : (who : Who) (t : ClientStep) → IsQuiet t → Each (IsBusyOnly who) (goes_on t).entries
went-on who t q =
    let same : settle t ≡ t = ap (λ (o : Option UnderWay). settle_under_way t o) q.idle in
    subst (Each (IsBusyOnly who)) (sym (sent-entries false (settle t) ∙ ap (λ (v : ClientStep). v.entries) same ∙ q.entries)) tt

attached-quiet : (c : Client) → c.call ≡ None → IsQuiet (attached (spends (begun c)))
unfolding attached spends
attached-quiet c idle = record { entries = refl; idle = idle }

evicted-quiet : (c : Client) (file : ℕ) (tag : Tag) → c.call ≡ None → IsQuiet (evicted (cancels (begun c) file) file tag)
unfolding vacates_lease notes_notice cancels
evicted-quiet c file tag idle = evicted-cases (cancels (begun c) file) file tag IsQuiet (record {
  clean = λ clean. record { entries = refl; idle = idle };
  waiting = λ dirty. record { entries = refl; idle = idle };
})

pub hear-idles : (c : Client) (k : ℕ) (m : Message) (t : ClientStep) → Alone c → c.attached ≡ false → hear c k m ≡ Some t → Idles c t
hear-idles c k m t alone off hears = heard-cases c k m t (λ v. Idles c v) hears (record {
  answered = λ xid r ticket is has same inc counts.
      let job : ticket.job ≡ attaching = ap (λ z. z.job) (some-same ticket waits.request (sym has ∙ waits.asks)) ∙ waits.job in
      went-on c.who (replied (begun c) k ticket r)
      (replied-cases c k ticket r IsQuiet (alone.asking.ticketed ticket has).fits counts (record {
        attaching = λ who i own asks told. attached-quiet c waits.idle;
        named = λ answer own told. other own job (λ e. absurd (cc));
        reading = λ who q file block want i rev body grant of told. other of.job job (λ e. absurd (cc));
        leasing = λ who file want i grant of told. other of.job job (λ e. absurd (cc));
        writing = λ who seq file block first last body i rev of told. other of.job job (λ e. absurd (cc));
        resizing = λ who seq q file blocks i rev of told. other of.job job (λ e. absurd (cc));
        removing = λ who seq q file i of told. other of.job job (λ e. absurd (cc));
        renewing = λ who file want i grant own asks told. other own job (λ e. absurd (cc));
        pushed = λ who seq file block first last base body i rev own asks told. other own job (λ e. absurd (cc));
        putting_off = λ i status own told late. put-off own job;
        refusing = λ i status own told counted final. other own job (λ e. absurd (cc));
        renewal_refused = λ i status own told final. other own job (λ e. absurd (cc));
        push_refused = λ who seq file block first last base body i status own asks told final. other own job (λ e. absurd (cc));
      }));
  noticed = λ xid file tag is early. went-on c.who (evicted (cancels (begun c) file) file tag) (evicted-quiet c file tag waits.idle);
})
  where
    waits : IsWaiting c.call c.ticket c.leases c.notices
    waits = alone.asking.waiting off

    -- a request is for one thing
    other : {X : Type 0} {a b j : Job} → j ≡ a → j ≡ b → (a ≡ b → X) → X
    other is also clash = clash (sym is ∙ also)

    put-off : {X : Type 0} {j : Job} → (j ≡ Job.for_call) ⊎ (j ≡ Job.renewing) → j ≡ attaching → X
    put-off (inl is) also = other is also (λ e. absurd (cc))
    put-off (inr is) also = other is also (λ e. absurd (cc))
