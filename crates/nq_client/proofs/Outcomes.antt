-- What comes of a step.
use Rattle.std.proofs.Common.{◌≡◌, ◌≤◌, ◌<◌, ◌+◌, ◌*◌, ◌^◌, ◌++◌, ℕ, Bool, true, false, List, [], Option, Some, None, map, refl, sym, ap, subst, ◌∙◌, arith}
use Rattle.std.specs.Option.{option_map}
use Rattle.std.proofs.lemmas.Bool.{false≢true}
use Rattle.nq_base.specs.Plain.{plain_answer}
use Rattle.nq_base.specs.declared.Answer.{Answer}
use Rattle.nq_base.specs.declared.Entry.{Entry}
use Rattle.nq_base.specs.declared.Who.{Who}
use Rattle.nq_base.specs.declared.Call.{Call}
use Rattle.nq_client.proofs.Calls.{Within, called, ticked}
use Rattle.nq_client.proofs.Counts.{within}
use Rattle.nq_client.proofs.Received.{heard-within}
use Rattle.nq_client.proofs.Settled.{is_given}
use Rattle.nq_client.proofs.Spent.{silent}
use Rattle.nq_client.specs.Counted.{Counted, IsWithin}
use Rattle.nq_client_parts.specs.Entries.{Tells}
use Rattle.nq_client.specs.Finishing.{Grows, to_server}
use Rattle.nq_client.specs.Outcome.{Called, Gives, or_pending}
use Rattle.nq_client.specs.Receiving.{IsHeeded, most_entries, on_heard}
use Rattle.nq_client.specs.State.{client_of}
use Rattle.nq_client.specs.Step.{IsBegun, request_message, step_of, vacated_message}
use Rattle.nq_client.specs.Tied.{Tied}
use Rattle.nq_client.specs.declared.state.State.{State}
use Rattle.nq_client.specs.declared.step.Step.{Step}
use Rattle.nq_client.specs.declared.step.Vacated.{Vacated}
use Rattle.nq_datagrams.specs.declared.Heard.{Heard}
use Rattle.nq_base.specs.Entries.{EntryList}
use Rattle.nq_model.specs.protocol.Client.{Client, ClientStep, Ticket, begun}
use Rattle.nq_model.specs.protocol.ClientStep.{at_time, client_call, client_tick}
use Rattle.nq_model.specs.protocol.Message.{Message}
use Rattle.nq_model.specs.protocol.Profile.{most_taken_by_client}
use Rattle.nq_wire.specs.Outbox.{Datagrams}

nothing-sent : (who : Who) (v : Option Vacated) (b : Bool) (o : Option Ticket) → v ≡ None → b ≡ false → vacated_message who v ++ request_message b o ≡ []
nothing-sent who None false o p q = silent o
nothing-sent who (Some v) b o p q = absurd cc
nothing-sent who None true o p q = absurd cc

begun-as : (c : Client) (m : List Message) (es : List Entry) (a : Option Answer) (k : Bool) → m ≡ [] → es ≡ [] → a ≡ None → k ≡ false
    → record { client = c; sends = m; entries = es; answer = a; cached = k } ≡ begun c
begun-as c m es a k p q r t = rw (p, q, r, t) refl

-- between steps a step is begun
pub begins : (s : Step) → IsBegun s → step_of s ≡ begun (client_of s.state)
begins s h =
    begun-as (client_of s.state) _ s.entries.items (option_map plain_answer s.answer) s.cached
    (nothing-sent s.state.who s.vacated s.asks s.state.asked h.vacated h.silent)
    h.entries
    (ap (option_map plain_answer) h.answer)
    h.cached

-- the numbers of the same client
pub within_same : (s s' : State) (taken : ℕ) → client_of s' ≡ client_of s → IsWithin s taken → IsWithin s' taken
within_same s s' taken e h = within s' (client_of s) taken e h.taken_few h.time h.calls h.seq h.number h.xid h.tied

-- the numbers after a step
pub within_after : (entries : ℕ) (s' : State) (c : Client) (t : ClientStep) (taken : ℕ) → client_of s' ≡ t.client → Within entries c t
    → taken < most_taken_by_client → c.now < 2 ^ 62 → c.calls ≤ taken → c.seq ≤ 2 * taken + 1 → c.number ≤ 2 * taken + 1 → c.xid ≤ 2 * taken + 2
    → Tied c.ticket c.push → IsWithin s' (taken + 1)
within_after entries s' c t taken e x few now calls seq number xid tied =
    let n = x.now in
    let a = x.calls in
    let b = x.seq in
    let d = x.number in
    let f = x.xid in
    within s' t.client (taken + 1) e (omega arith) (subst (λ m. m < 2 ^ 62) (sym x.now) now) (omega arith) (omega arith) (omega arith) (omega arith)
    (x.tied tied)

abbrev is_refused : Answer → Bool
is_refused Answer.Memory = true
is_refused Answer.Spent = true
is_refused other = false

not-given : (a : Answer) → is_refused a ≡ true → is_given (Some a) ≡ true → ⊥
not-given Answer.Memory r h = cc
not-given Answer.Spent r h = cc
not-given (Answer.Ok value) r h = cc
not-given Answer.Pending r h = cc
not-given Answer.Busy r h = cc
not-given (Answer.Lost losses) r h = cc
not-given Answer.Stale r h = cc
not-given Answer.NoEntry r h = cc
not-given Answer.Exists r h = cc
not-given Answer.NoSpace r h = cc
not-given Answer.Range r h = cc
not-given Answer.DirtyFull r h = cc

not-refused : (a : Answer) (o : Option Answer) → is_refused a ≡ true → a ≡ or_pending o → is_given o ≡ true → ⊥
not-refused a None r e h = false≢true (subst (λ x. is_refused x ≡ true) e r)
not-refused a (Some b) r e h = not-given b (subst (λ x. is_refused x ≡ true) e r) h

-- a call was answered, or is to be
pub called_as : (a : Answer) (t : ClientStep) (old new : Counted) (out outs : Datagrams) (log logs : EntryList) → Gives t old new out outs log logs
    → is_given t.answer ≡ true → plain_answer a ≡ or_pending t.answer → Called a t old new out outs log logs
called_as Answer.Memory t old new out outs log logs g h e = absurd (not-refused Answer.Memory t.answer refl e h)
called_as Answer.Spent t old new out outs log logs g h e = absurd (not-refused Answer.Spent t.answer refl e h)
called_as (Answer.Ok value) t old new out outs log logs g h e = (g, e)
called_as Answer.Pending t old new out outs log logs g h e = (g, e)
called_as Answer.Busy t old new out outs log logs g h e = (g, e)
called_as (Answer.Lost losses) t old new out outs log logs g h e = (g, e)
called_as Answer.Stale t old new out outs log logs g h e = (g, e)
called_as Answer.NoEntry t old new out outs log logs g h e = (g, e)
called_as Answer.Exists t old new out outs log logs g h e = (g, e)
called_as Answer.NoSpace t old new out outs log logs g h e = (g, e)
called_as Answer.Range t old new out outs log logs g h e = (g, e)
called_as Answer.DirtyFull t old new out outs log logs g h e = (g, e)

-- a call that was taken in is not answered by its end
pub not_spent : (a : Answer) (o : Option Answer) → is_given o ≡ true → plain_answer a ≡ or_pending o → a ≡ Answer.Spent → ⊥
not_spent a o h e s = not-refused Answer.Spent o refl (sym (ap plain_answer s) ∙ e) h

-- an outbox and a journal grew, seen from before room was made in them
pub grows_from : (t : ClientStep) (out out1 outs : Datagrams) (log log1 logs : EntryList) → out1.first ≡ out.first → out1.datagrams ≡ out.datagrams
    → log1.entries ≡ log.entries → Grows t out1 outs log1 logs → Grows t out outs log logs
grows_from t out out1 outs log log1 logs f d l g = record {
  first = g.first ∙ f;
  sends = g.sends ∙ ap (λ ds. ds ++ map to_server t.sends) d;
  fit = g.fit;
  entries = subst (λ es. Tells t.entries es logs.entries) l g.entries;
}

-- a step of the same client
pub gives_from : (F : Client → ClientStep) (old new : Counted) (c : Client) (out outs : Datagrams) (log logs : EntryList) → c ≡ old.client
    → new.client ≡ (F c).client → new.taken ≡ old.taken + 1 → Grows (F c) out outs log logs → Gives (F old.client) old new out outs log logs
gives_from F old new c out outs log logs e n k g = record {
  client = n ∙ ap (λ x. (F x).client) e;
  taken = k;
  grows = subst (λ x. Grows (F x) out outs log logs) e g;
}

-- the numbers after a call
pub call_within : (s0 s1 s2 : State) (op : Call) (taken : ℕ) → client_of s1 ≡ client_of s0 → client_of s2 ≡ (client_call (client_of s1) op).client
    → IsWithin s0 taken → taken < most_taken_by_client → IsWithin s2 (taken + 1)
call_within s0 s1 s2 op taken e f w lt =
    let h = within_same s0 s1 taken e w in
    within_after 3 s2 (client_of s1) (client_call (client_of s1) op) taken f (called (client_of s1) op) lt h.time h.calls h.seq h.number h.xid h.tied

-- the numbers after a tick
pub tick_within : (s0 s1 s2 : State) (now taken : ℕ) → client_of s1 ≡ client_of s0 → client_of s2 ≡ (client_tick (client_of s1) now).client
    → IsWithin s0 taken → taken < most_taken_by_client → now < 2 ^ 62 → IsWithin s2 (taken + 1)
unfolding at_time
tick_within s0 s1 s2 now taken e f w lt early =
    let h = within_same s0 s1 taken e w in
    within_after 2 s2 (at_time (client_of s1) now) (client_tick (client_of s1) now) taken f (ticked (client_of s1) now) lt early h.calls h.seq
    h.number h.xid h.tied

below : (n m : ℕ) → n ≤ m → (n ≡ m → ⊥) → n < m
below n m le ne = grind arith

-- not all was taken in
pub not_all : (s : State) (taken : ℕ) → IsWithin s taken → (taken ≡ most_taken_by_client → ⊥) → taken < most_taken_by_client
not_all s taken w ne = let few = w.taken_few in below taken most_taken_by_client few ne

-- ---- datagrams

-- the numbers after what counts
pub heard_within : (s0 s2 : State) (number : ℕ) (heard : Heard) (taken : ℕ) → client_of s2 ≡ (on_heard (client_of s0) number heard).client
    → IsHeeded s0.asked heard → IsWithin s0 taken → taken < most_taken_by_client → IsWithin s2 (taken + 1)
heard_within s0 s2 number heard taken f h w lt =
    within_after (most_entries (client_of s0)) s2 (client_of s0) (on_heard (client_of s0) number heard) taken f (heard-within (client_of s0) number
    heard h) lt w.time w.calls w.seq w.number w.xid w.tied
