-- What a client hears costs it a turn, but for notices that it answers by VACATED alone, or by VACATED and the same request.
use Rattle.std.proofs.Common.{◌≡◌, ◌≤◌, ◌<◌, ◌⊎◌, ℕ, ◌+◌, nat_lt, Bool, true, false, List, [], ◌∷◌, Option, Some, None, is_some, refl, sym, ap, ◌∙◌}
use Rattle.std.proofs.Common.{arith, inl, inr}
use Rattle.std.specs.Prelude.{slice_get}
use Rattle.std.proofs.lemmas.Bool.{and_parts}
use Rattle.nq_base.specs.declared.Event.{Event}
use Rattle.nq_base.specs.declared.Mode.{Mode}
use Rattle.nq_base.specs.declared.Push.{Push}
use Rattle.nq_base.specs.declared.Reply.{Reply}
use Rattle.nq_base.specs.declared.Request.{Request}
use Rattle.nq_base.specs.declared.Tag.{Tag}
use Rattle.nq_model.specs.protocol.Client.{Client, ClientStep, begun, Ticket, UnderWay, for_call}
use Rattle.nq_model.specs.protocol.Hear.{hear, replied, cancels, cancelled, wants_of, vacates_lease, notes_notice, evicted, goes_on, reply_counts}
use Rattle.nq_model.specs.protocol.Message.{Message, call, reply}
use Rattle.nq_model.specs.protocol.Send.{sends_request, after_seq, after_number, takes_push, gives_up, base_of, want_of, read_want, noticed_file, ending_file}
use Rattle.nq_model.specs.protocol.Send.{is_asking, then_pushes, then_ending, then_calls, send_next}
use Rattle.nq_model.specs.protocol.Settle.{answers, after_read, reads_cached, after_write, marks_written, is_for_call, settle}
use Rattle.nq_model.specs.protocol.Table.{is_writing}
use Rattle.nq_model.specs.protocol.World.{Head, run}
use Rattle.walk_steps.proofs.ClientFacts.{Alone}
use Rattle.walk_steps.proofs.ClientMoves.{none-some}
use Rattle.walk_steps.proofs.SendCases.{send-cases}
use Rattle.walk_steps.proofs.SettleCases.{settle-cases}
use Rattle.walk_steps.proofs.StepCases.{evicted-cases, heard-cases}
use Rattle.walk_steps.proofs.Worlds.{run-holds}
use Rattle.walk_steps.proofs.Tests.{is-not-below, there-is}
use Rattle.law_rounds.specs.SendsAgain.{is_cancelled}
use Rattle.law_rounds.specs.Efforts.{effort, requests_left}
use Rattle.law_rounds.specs.SendsAgain.{SendsAgain, the_same, delayed_writes, nothing_now}
use Rattle.law_rounds.specs.Turns.{asking_turns, IsOfUse, IsOfUseTo, TakesTurn, fewer, again, silent, TurnsFall}
use Rattle.law_rounds.proofs.EffortParts.{settle-cheap, send-cheap}
use Rattle.law_rounds.proofs.EffortCalls.{replied-lean}
use Rattle.law_rounds.proofs.EffortReplies.{CancelCosts, cancels-cost, cancel-costs, uncancelled-costs}
use Rattle.law_rounds.proofs.Efforts.{total, total-more, lease_weight, reply_weight, want_weight, weight, sent_weight, cost}
use Rattle.law_rounds.proofs.GoingOn.{calls-go-on}
use Rattle.law_rounds.proofs.Meant.{replied-free}
use Rattle.law_rounds.proofs.SendsAgain.{sends-again}

-- ---- what the next request weighs

-- nothing is sent; or delayed writes are; or the call's request is, where the client does not pause
data Sends (s v : ClientStep) : Type 0 where
  nothing_sent : v ≡ s → Sends s v
  push_sent : sent_weight 2 2 s + 3 ≤ sent_weight 2 2 v → Sends s v
  call_sent : (u : UnderWay) → s.client.call ≡ Some u → s.client.pause ≤ s.client.now → sent_weight 2 2 s + 2 ≤ sent_weight 2 2 v → v.client.push
      ≡ s.client.push → Sends s v

next-sent : (s : ClientStep) → s.client.ticket ≡ None → Sends s (send_next false s)
unfolding sends_request after_seq after_number takes_push gives_up
next-sent s free = send-cases false s (Sends s) (record {
  stays_asking = λ ticket is. nothing_sent refl;
  stays = λ none nothing. nothing_sent refl;
  pushing = λ file p none first same. push_sent (let more = total-more (weight 2 2) s.sends
      (call s.client.xid (Request.Write s.client.who s.client.seq p.file p.block p.first p.last (Some (base_of s.client p.file)) p.body)) in omega arith);
  creating = λ u name blocks f is. call_sent u f.called f.unpaused (let more = total-more (weight 2 2) s.sends
      (call s.client.xid (Request.Create s.client.who s.client.seq name blocks)) in omega arith) refl;
  looking_up = λ u name f is. call_sent u f.called f.unpaused (let more = total-more (weight 2 2) s.sends
      (call s.client.xid (Request.Lookup s.client.who name)) in omega arith) refl;
  getting_attributes = λ u file f is. call_sent u f.called f.unpaused (let more = total-more (weight 2 2) s.sends
      (call s.client.xid (Request.GetAttr s.client.who file)) in omega arith) refl;
  reading = λ u file block f is. call_sent u f.called f.unpaused (let more = total-more (weight 2 2) s.sends
      (call s.client.xid (Request.Read s.client.who u.q file block (read_want s.client file))) in omega arith) refl;
  fetching = λ u file block f is. call_sent u f.called f.unpaused (let more = total-more (weight 2 2) s.sends
      (call s.client.xid (Request.Read s.client.who u.q file block None)) in omega arith) refl;
  writing = λ u file block body f is through. call_sent u f.called f.unpaused (let more = total-more (weight 2 2) s.sends
      (call s.client.xid (Request.Write s.client.who s.client.seq file block s.client.number s.client.number None body)) in omega arith) refl;
  leasing = λ u file block body f is through shares. call_sent u f.called f.unpaused (let more = total-more (weight 2 2) s.sends
      (call s.client.xid (Request.GetLease s.client.who file (want_of s.client Mode.Writing))) in omega arith) refl;
  putting = λ u file block body f is written. call_sent u f.called f.unpaused (let more = total-more (weight 2 2) s.sends
      (call s.client.xid (Request.Write s.client.who s.client.seq file block s.client.number s.client.number None body)) in omega arith) refl;
  resizing = λ u file blocks f is clean. call_sent u f.called f.unpaused (let more = total-more (weight 2 2) s.sends
      (call s.client.xid (Request.Resize s.client.who s.client.seq u.q file blocks)) in omega arith) refl;
  removing = λ u file f is clean. call_sent u f.called f.unpaused (let more = total-more (weight 2 2) s.sends
      (call s.client.xid (Request.Remove s.client.who s.client.seq u.q file)) in omega arith) refl;
  renewing = λ file lease ticks none nothing unpaused due held same clean unnoticed. absurd (cc);
})

-- what settling leaves as it was
record Kept (t v : ClientStep) : Type 0 where
  ticket : v.client.ticket ≡ t.client.ticket
  push : v.client.push ≡ t.client.push
  now : v.client.now ≡ t.client.now
  pause : v.client.pause ≡ t.client.pause
  sends : v.sends ≡ t.sends
  call : (u : UnderWay) → v.client.call ≡ Some u → is_some t.client.call ≡ true

settle-kept : (t : ClientStep) → Kept t (settle t)
unfolding answers after_read reads_cached after_write marks_written
settle-kept t = settle-cases t (Kept t) (record {
  idle = λ none. same;
  asking = λ u has own. same;
  read_out = λ u file block lease is read can out. record { ticket = refl; push = refl; now = refl; pause = refl; sends = refl; call = λ w e. none-some w e };
  reading = λ u file block lease body is read can below has. record {
    ticket = refl;
    push = refl;
    now = refl;
    pause = refl;
    sends = refl;
    call =
        λ w e. none-some w e;
  };
  read_waits = λ u file block is read waits. same;
  write_out = λ u sync file block body lease is write can out. record {
    ticket = refl;
    push = refl;
    now = refl;
    pause = refl;
    sends = refl;
    call =
        λ w e. none-some w e;
  };
  write_full = λ u sync file block body lease is write can below full. record {
    ticket = refl;
    push = refl;
    now = refl;
    pause = refl;
    sends = refl;
    call = λ w e. none-some w e;
  };
  writing = λ u file block body lease is write can below room. record {
    ticket = refl;
    push = refl;
    now = refl;
    pause = refl;
    sends = refl;
    call =
        λ w e. none-some w e;
  };
  putting = λ u file block body lease is put first can below room. record {
    ticket = refl;
    push = refl;
    now = refl;
    pause = refl;
    sends = refl;
    call =
        λ w e. ap is_some is.called;
  };
  write_waits = λ u sync file block body is write waits. same;
  syncing = λ u file is sync clean. record { ticket = refl; push = refl; now = refl; pause = refl; sends = refl; call = λ w e. none-some w e };
  sync_waits = λ u file is sync dirty. same;
  others = λ u is needs. same;
})
  where
    same : Kept t t
    same = record { ticket = refl; push = refl; now = refl; pause = refl; sends = refl; call = λ u e. ap is_some e }

-- ---- a reply

pub asking-most : (o : Option Ticket) → asking_turns o ≤ 2
asking-most None = omega arith
asking-most (Some t) = omega arith

of-use : (m : Message) (xid : ℕ) (r : Reply) → m ≡ reply xid r → IsOfUse m → weight 2 2 m ≡ 2
of-use m xid r is useful = ap (weight 2 2) is ∙ by r is
  where
    by : (a : Reply) → m ≡ reply xid a → reply_weight 2 a ≡ 2
    by (Reply.GetLease inc grant) e = ap (lease_weight 2) (useful xid inc grant e)
    by Reply.Null e = refl
    by (Reply.Attach inc) e = refl
    by (Reply.Lookup inc file blocks) e = refl
    by (Reply.Create inc file) e = refl
    by (Reply.GetAttr inc blocks rev) e = refl
    by (Reply.Read inc rev body grant) e = refl
    by (Reply.Write inc rev) e = refl
    by (Reply.Resize inc rev) e = refl
    by (Reply.Remove inc) e = refl
    by (Reply.Refused inc status) e = refl

reply-turn : (c : Client) (k : ℕ) (m : Message) (xid : ℕ) (r : Reply) (ticket : Ticket) → Alone c → m ≡ reply xid r → c.ticket ≡ Some ticket
    → reply_counts r ticket ≡ true → hear c k m ≡ Some (goes_on (replied (begun c) k ticket r)) → IsOfUseTo c m
    → TakesTurn c m (goes_on (replied (begun c) k ticket r))
reply-turn c k m xid r ticket alone is asks counts hears useful = by (next-sent (settle s) (kept.ticket ∙ free))
  where
    s : ClientStep
    s = replied (begun c) k ticket r

    t : ClientStep
    t = send_next false (settle s)

    free : s.client.ticket ≡ None
    free = replied-free c k ticket r asks counts alone

    kept : Kept s (settle s)
    kept = settle-kept s

    two : asking_turns c.ticket ≡ 2
    two = ap asking_turns asks

    two_at_most : (ticket.job ≡ for_call) → reply_weight 2 r ≡ 2
    two_at_most mine = let whole = of-use m xid r is (useful ticket asks mine) in sym (ap (weight 2 2) is) ∙ whole

    less : cost 2 2 t + 1 ≤ effort 2 c + 2
    less =
        let lean = replied-lean 2 2 c k ticket r asks counts alone two_at_most in
        let next = send-cheap 2 2 (settle s) in
        omega arith

    by : Sends (settle s) t → TakesTurn c m t
    by (nothing_sent e) =
        let none : asking_turns t.client.ticket ≡ 0 = ap (λ (v : ClientStep). asking_turns v.client.ticket) e ∙ ap asking_turns (kept.ticket ∙ free) in
        let n = less in let a = two in
        fewer (omega arith)
    by (push_sent more) = let n = less in let a = two in let b = asking-most t.client.ticket in fewer (omega arith)
    by (call_sent u has unpaused more same) = let n = less in let a = two in let b = asking-most t.client.ticket in fewer (omega arith)

begun-weight : (c : Client) (file : ℕ) → sent_weight 2 2 (cancels (begun c) file) ≡ 0
unfolding cancels
begun-weight c file = refl

-- ---- a notice

module _ (c : Client) (file : ℕ) (tag : Tag) where
  cut : ClientStep
  cut = cancels (begun c) file

  -- what is sent before the next request: VACATED, or nothing
  data GivesUp (v : ClientStep) : Type 0 where
    gives : sent_weight 2 2 v ≡ 1 → v.sends ≡ call c.xid (Request.Vacated c.who file tag) ∷ [] → GivesUp v
    holds_on : sent_weight 2 2 v ≡ 0 → v.sends ≡ [] → GivesUp v

  record Noticed (v : ClientStep) : Type 0 where
    ticket : v.client.ticket ≡ cancelled file c.ticket
    push : v.client.push ≡ c.push
    now : v.client.now ≡ c.now
    pause : v.client.pause ≡ c.pause
    call : v.client.call ≡ c.call
    costs : effort 2 v.client ≡ effort 2 cut.client
    gives_up : GivesUp v

  noticed : Noticed (evicted (cancels (begun c) file) file tag)
  unfolding cut cancels vacates_lease notes_notice
  noticed = evicted-cases (cancels (begun c) file) file tag Noticed (record {
    clean = λ e. record { ticket = refl; push = refl; now = refl; pause = refl; call = refl; costs = refl; gives_up = gives refl refl };
    waiting = λ e. record { ticket = refl; push = refl; now = refl; pause = refl; call = refl; costs = refl; gives_up = holds_on refl refl };
  })

-- what is left of the client is no more than of one whose request was cancelled, less what was sent beside VACATED
left : (c : Client) (file : ℕ) (tag : Tag) (rise : ℕ) → CancelCosts 2 2 rise c file → cost 2 2 (goes_on (evicted (cancels (begun c) file) file tag))
    ≤ (effort 2 c + rise) + sent_weight 2 2 (evicted (cancels (begun c) file) file tag)
unfolding cut
left c file tag rise costs =
    let a = cancels-cost 2 2 rise c file costs in
    let b = (noticed c file tag).costs in
    let d = settle-cheap 2 2 (evicted (cancels (begun c) file) file tag) in
    let e = send-cheap 2 2 (settle (evicted (cancels (begun c) file) file tag)) in
    let none = begun-weight c file in
    omega arith

-- where no request is under way, and none can be sent, only delayed writes are
quiet-sends : (v w : ClientStep) → ((u : UnderWay) → v.client.call ≡ Some u → v.client.pause ≤ v.client.now → ⊥) → Sends v w → (w ≡ v)
    ⊎ (sent_weight 2 2 v + 3 ≤ sent_weight 2 2 w)
quiet-sends v w none (nothing_sent e) = inl e
quiet-sends v w none (push_sent more) = inr more
quiet-sends v w none (call_sent u has unpaused more same) = absurd (none u has unpaused)

-- something was sent, or nothing
sends-more : (v w : ClientStep) → Sends v w → (w ≡ v) ⊎ (sent_weight 2 2 v + 2 ≤ sent_weight 2 2 w)
sends-more v w (nothing_sent e) = inl e
sends-more v w (push_sent more) = inr (omega arith)
sends-more v w (call_sent u has unpaused more same) = inr more

-- where a request is under way nothing more is sent
asking-stays : (t : ClientStep) → is_asking t ≡ true → send_next false t ≡ t
asking-stays t e =
    let first : then_pushes t (noticed_file t.client) ≡ t = rw e refl in
    let second : then_pushes t (ending_file t.client) ≡ t = rw e refl in
    let third : then_calls t ≡ t = rw e refl in
    ap (λ x. then_calls (then_ending x)) first ∙ ap then_calls second ∙ third

-- a request that wants a lease weighs two at the least
wants-weight : (file : ℕ) (r : Request) (xid : ℕ) → wants_of file r ≡ true → 2 ≤ weight 2 2 (call xid r)
wants-weight file (Request.Read who q f block want) xid e = omega arith
wants-weight file (Request.GetLease who f want) xid e = by (is_writing want.mode)
  where
    by : (b : Bool) → 2 ≤ want_weight 2 b
    by true = omega arith
    by false = omega arith
wants-weight file other xid e = absurd (cc)

-- who pauses loses nothing
paused-costs : (c : Client) (file : ℕ) → c.now < c.pause → CancelCosts 2 2 0 c file
paused-costs c file late = by (nat_lt c.now c.pause) refl
  where
    by : (b : Bool) → nat_lt c.now c.pause ≡ b → requests_left 2 c.now b c.call (cancelled file c.ticket) ≤ requests_left 2 c.now b c.call c.ticket + 0
    by true is = omega arith
    by false is = let runs = is-not-below c.now c.pause is in absurd (omega arith)

module _ (head : Head) (events : List Event) (host : ℕ) (c : Client) (k : ℕ) (m : Message) (xid file : ℕ) (tag : Tag)
    (at : slice_get (run head events).clients host ≡ Some c) (is : m ≡ call xid (Request.Evicted c.who file tag)) (hears : hear c k m
    ≡ Some (goes_on (evicted (cancels (begun c) file) file tag))) where
  abbrev v : ClientStep
  v = evicted (cancels (begun c) file) file tag

  abbrev s : ClientStep
  s = settle v

  abbrev t : ClientStep
  t = send_next false s

  n : Noticed c file tag (evicted (cancels (begun c) file) file tag)
  n = noticed c file tag

  kept : Kept (evicted (cancels (begun c) file) file tag) (settle (evicted (cancels (begun c) file) file tag))
  kept = settle-kept (evicted (cancels (begun c) file) file tag)

  same-weight : sent_weight 2 2 s ≡ sent_weight 2 2 v
  same-weight = ap (total (weight 2 2)) kept.sends

  s-ticket : s.client.ticket ≡ cancelled file c.ticket
  s-ticket = kept.ticket ∙ n.ticket

  light : sent_weight 2 2 v ≤ 1
  light = by n.gives_up
    where
      by : GivesUp c file tag (evicted (cancels (begun c) file) file tag) → sent_weight 2 2 (evicted (cancels (begun c) file) file tag) ≤ 1
      by (gives w e) = omega arith
      by (holds_on w e) = omega arith

  shape : t ≡ s → (t.sends ≡ []) ⊎ (t.sends ≡ call c.xid (Request.Vacated c.who file tag) ∷ [])
  shape e = by n.gives_up
    where
      all : t.sends ≡ v.sends
      all = ap (λ (x : ClientStep). x.sends) e ∙ kept.sends

      by : GivesUp c file tag (evicted (cancels (begun c) file) file tag) → (t.sends ≡ []) ⊎ (t.sends ≡ call c.xid (Request.Vacated c.who file tag) ∷ [])
      by (gives w given) = inr (all ∙ given)
      by (holds_on w none) = inl (all ∙ none)

  -- with no request under way in the middle of the step: a turn less, where one was under way before
  spent-turn : s.client.ticket ≡ None → asking_turns c.ticket ≡ 2 → CancelCosts 2 2 0 c file → TakesTurn c m t
  spent-turn none two costs = by (sends-more s t (next-sent s none))
    where
      by : (t ≡ s) ⊎ (sent_weight 2 2 s + 2 ≤ sent_weight 2 2 t) → TakesTurn c m t
      by (inl e) =
          let all = left c file tag 0 costs in
          let w = same-weight in
          let x = two in
          let same : sent_weight 2 2 t ≡ sent_weight 2 2 s = ap (sent_weight 2 2) e in
          let zero_turns : asking_turns t.client.ticket ≡ 0 = ap (λ (y : ClientStep). asking_turns y.client.ticket) e ∙ ap asking_turns none in
          fewer (omega arith)
      by (inr more) =
          let all = left c file tag 0 costs in
          let w = same-weight in
          let x = two in
          let most = asking-most t.client.ticket in
          fewer (omega arith)

  -- a notice that cancels the request of a call
  cancelled-turn : (ticket : Ticket) → c.ticket ≡ Some ticket → is_cancelled file (Some ticket) ≡ true → TakesTurn c m t
  cancelled-turn ticket asks cut_it = by (sends-again head events host c ticket k xid file tag t at asks cut_it (ap (hear c k) (sym is) ∙ hears))
    where
      two : asking_turns c.ticket ≡ 2
      two = ap asking_turns asks

      wants : wants_of file ticket.request ≡ true
      wants = (and_parts (is_for_call ticket.job) (wants_of file ticket.request) cut_it).1

      gone : cancelled file c.ticket ≡ None
      gone = ap (cancelled file) asks ∙ one
        where
          one : cancelled file (Some ticket) ≡ None
          one = rw wants refl

      none : s.client.ticket ≡ None
      none = s-ticket ∙ gone

      pushes : (p : Push) → c.push ≡ None → t.client.push ≡ Some p → Sends s t → TakesTurn c m t
      pushes p idle some (nothing_sent e) = none-some p (sym (ap (λ (x : ClientStep). x.client.push) e ∙ kept.push ∙ n.push ∙ idle) ∙ some)
      pushes p idle some (push_sent more) =
          let all = left c file tag 2 (cancel-costs 2 2 c file) in
          let w = same-weight in
          let x = two in
          let most = asking-most t.client.ticket in
          fewer (omega arith)
      pushes p idle some (call_sent u has unpaused more same) = none-some p (sym (same ∙ kept.push ∙ n.push ∙ idle) ∙ some)

      by : SendsAgain c ticket file tag t → TakesTurn c m t
      by (the_same sends asked) = again xid file tag ticket is asks cut_it sends asked
          (let all = left c file tag 2 (cancel-costs 2 2 c file) in
          let w = light in
          let x = two in
          let y : asking_turns t.client.ticket ≡ 2 = ap asking_turns asked in
          let heavy = wants-weight file ticket.request (c.xid + 1) wants in
          let both : sent_weight 2 2 t ≡ 1 + (weight 2 2 (call (c.xid + 1) ticket.request) + 0) = ap (total (weight 2 2)) sends in
          omega arith)
      by (delayed_writes p idle some) = pushes p idle some (next-sent s none)
      by (nothing_now late) = spent-turn none two (paused-costs c file late)

  -- one that does not
  other-turn : is_cancelled file c.ticket ≡ false → TakesTurn c m t
  other-turn off = by c.ticket refl
    where
      costs : CancelCosts 2 2 0 c file
      costs = uncancelled-costs 2 2 c file off

      idle : c.ticket ≡ None → (u : UnderWay) → s.client.call ≡ Some u → s.client.pause ≤ s.client.now → ⊥
      idle free u has unpaused =
          let some : is_some c.call ≡ true = ap is_some (sym n.call) ∙ kept.call u has in
          let w = there-is c.call some in
          which ((calls-go-on head events host c at).busy w.0 w.1)
        where
          which : (is_some c.ticket ≡ true) ⊎ (c.now < c.pause) → ⊥
          which (inl asks) = let no : is_some c.ticket ≡ false = ap is_some free in let bad : true ≡ false = sym asks ∙ no in cc
          which (inr late) = let a = kept.pause in let b = n.pause in let d = kept.now in let f = n.now in omega arith

      free-turn : c.ticket ≡ None → TakesTurn c m t
      free-turn free = which (quiet-sends s t (idle free) (next-sent s (s-ticket ∙ ap (cancelled file) free)))
        where
          which : (t ≡ s) ⊎ (sent_weight 2 2 s + 3 ≤ sent_weight 2 2 t) → TakesTurn c m t
          which (inl e) = silent xid file tag is (ap (λ (x : ClientStep). x.client.ticket) e ∙ s-ticket ∙ ap (cancelled file) free ∙ sym free) off (shape e)
              (let all = left c file tag 0 costs in
              let w = same-weight in
              let same : sent_weight 2 2 t ≡ sent_weight 2 2 s = ap (sent_weight 2 2) e in
              let zero_turns : asking_turns t.client.ticket ≡ 0 = ap (λ (y : ClientStep). asking_turns y.client.ticket) e ∙ ap asking_turns (s-ticket
              ∙ ap (cancelled file) free) in
              omega arith)
          which (inr more) =
              let all = left c file tag 0 costs in
              let w = same-weight in
              let most = asking-most t.client.ticket in
              fewer (omega arith)

      asking-turn : (ticket : Ticket) → c.ticket ≡ Some ticket → (b : Bool) → wants_of file ticket.request ≡ b → TakesTurn c m t
      asking-turn ticket asks true wants =
          let one : cancelled file (Some ticket) ≡ None = rw wants refl in
          spent-turn (s-ticket ∙ ap (cancelled file) asks ∙ one) (ap asking_turns asks) costs
      asking-turn ticket asks false wants =
          let one : cancelled file (Some ticket) ≡ Some ticket = rw wants refl in
          let there : s.client.ticket ≡ Some ticket = s-ticket ∙ ap (cancelled file) asks ∙ one in
          let e : t ≡ s = asking-stays s (ap is_some there) in
          silent xid file tag is (ap (λ (x : ClientStep). x.client.ticket) e ∙ there ∙ sym asks) off (shape e)
          (let all = left c file tag 0 costs in
          let w = same-weight in
          let same : sent_weight 2 2 t ≡ sent_weight 2 2 s = ap (sent_weight 2 2) e in
          let turns : asking_turns t.client.ticket ≡ asking_turns c.ticket = ap (λ (y : ClientStep). asking_turns y.client.ticket) e
          ∙ ap asking_turns (there ∙ sym asks) in
          omega arith)

      by : (o : Option Ticket) → c.ticket ≡ o → TakesTurn c m t
      by None e = free-turn e
      by (Some ticket) e = asking-turn ticket e (wants_of file ticket.request) refl

  notice-turn : (b : Bool) → is_cancelled file c.ticket ≡ b → TakesTurn c m t
  notice-turn false e = other-turn e
  notice-turn true e = by c.ticket refl
    where
      by : (o : Option Ticket) → c.ticket ≡ o → TakesTurn c m t
      by None has = let no : is_cancelled file c.ticket ≡ false = ap (is_cancelled file) has in let bad : true ≡ false = sym e ∙ no in absurd (cc)
      by (Some ticket) has = cancelled-turn ticket has (ap (is_cancelled file) (sym has) ∙ e)

pub turns-fall : TurnsFall
turns-fall head events host c k m t at hears useful = heard-cases c k m t (λ x. hear c k m ≡ Some x → TakesTurn c m x) hears (record {
  answered = λ xid r ticket is asks own inc counts now. reply-turn c k m xid r ticket ((run-holds head events).clients host c at).alone is asks counts
      now useful;
  noticed = λ xid file tag is older now. notice-turn head events host c k m xid file tag at is now (is_cancelled file c.ticket) refl;
}) hears
