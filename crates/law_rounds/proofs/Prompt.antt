-- No pause of a client is longer than 2 ticks, and its request under way was sent less than 2 ticks ago.
use Rattle.std.proofs.Common.{◌≡◌, ◌≤◌, ◌<◌, ℕ, ◌+◌, Bool, true, false, Option, Some, None, refl, sym, ap, ◌∙◌, arith}
use Rattle.nq_base.specs.declared.Answer.{Answer}
use Rattle.nq_base.specs.declared.Call.{Call}
use Rattle.nq_base.specs.declared.Reply.{Reply}
use Rattle.nq_base.specs.declared.Value.{Value}
use Rattle.nq_model.specs.protocol.Client.{Client, ClientStep, begun, Ticket}
use Rattle.nq_model.specs.protocol.ClientStep.{begins_call, is_called, says_busy, client_call, at_time, sends_again, client_tick, starts, fresh_client, restart}
use Rattle.nq_model.specs.protocol.Hear.{hear, spends, answers_call, takes_optional, then_caches, knows_revision, caches_write, marks_through, push_done}
use Rattle.nq_model.specs.protocol.Hear.{push_refused, attached, pauses, replied, cancels, evicted, reply_counts}
use Rattle.nq_model.specs.protocol.Message.{Message}
use Rattle.nq_model.specs.protocol.Profile.{patience}
use Rattle.nq_model.specs.protocol.Send.{sends_request, after_seq, after_number, takes_push, gives_up, send_next}
use Rattle.nq_model.specs.protocol.Settle.{answers, after_read, reads_cached, after_write, marks_written, settle}
use Rattle.walk_steps.proofs.ClientFacts.{Alone}
use Rattle.walk_steps.proofs.ClientMoves.{some-same, none-some, keeps-or-cancels}
use Rattle.walk_steps.proofs.PartCases.{answers-call-cases, lease-done-cases}
use Rattle.walk_steps.proofs.RepliedCases.{replied-cases}
use Rattle.walk_steps.proofs.SendCases.{send-moves}
use Rattle.walk_steps.proofs.SettleCases.{settle-cases}
use Rattle.walk_steps.proofs.StepCases.{call-cases, unless-cached-cases, tick-cases, heard-cases}
use Rattle.law_rounds.proofs.EffortHeard.{Goes, start, start-same, known-goes, optional-goes, pushed-goes, refused-goes}
use Rattle.law_rounds.proofs.EffortCalls.{read-goes, write-goes}
use Rattle.law_rounds.proofs.EffortCalls.{attached-goes}
use Rattle.law_rounds.proofs.EffortReplies.{evicted-goes}

pub record Prompt (c : Client) : Type 0 where
  pub short : c.pause ≤ c.now + patience
  pub recent : (t : Ticket) → c.ticket ≡ Some t → c.now < t.last + patience

-- a client with the same times and the same request
prompt-same : (c d : Client) → d.now ≡ c.now → d.pause ≡ c.pause → d.ticket ≡ c.ticket → Prompt c → Prompt d
prompt-same c d now pause ticket p = record { short = let a = p.short in omega arith; recent = λ t is. let b = p.recent t (sym ticket ∙ is) in omega arith }

-- or with none
prompt-free : (c d : Client) → d.now ≡ c.now → d.pause ≡ c.pause → d.ticket ≡ None → Prompt c → Prompt d
prompt-free c d now pause none p = record { short = let a = p.short in omega arith; recent = λ t is. none-some t (sym none ∙ is) }

-- or with one that was sent now
prompt-sent : (c d : Client) (k : Ticket) → d.now ≡ c.now → d.pause ≡ c.pause → d.ticket ≡ Some k → k.last ≡ c.now → Prompt c → Prompt d
prompt-sent c d k now pause asks sent p = record {
  short = let a = p.short in omega arith;
  recent = λ t is. let same : k.last ≡ t.last = ap (λ (x : Ticket). x.last) (some-same k t (sym asks ∙ is)) in omega arith;
}

module _ (t : ClientStep) (p : Prompt t.client) where
  answered : (q : ℕ) (answer : Answer) (by : Option ℕ) → Prompt (answers t q answer by).client
  unfolding answers
  answered q answer by = prompt-same t.client _ refl refl refl p

  settles : Prompt (settle t).client
  unfolding answers after_read reads_cached after_write marks_written
  settles = settle-cases t (λ u. Prompt u.client) (record {
    idle = λ none. p;
    asking = λ u called own. p;
    read_out = λ u file block lease is read can out. prompt-same t.client _ refl refl refl p;
    reading = λ u file block lease body is read can below has. prompt-same t.client _ refl refl refl p;
    read_waits = λ u file block is read waits. p;
    write_out = λ u sync file block body lease is write can out. prompt-same t.client _ refl refl refl p;
    write_full = λ u sync file block body lease is write can below full. prompt-same t.client _ refl refl refl p;
    writing = λ u file block body lease is write can below room. prompt-same t.client _ refl refl refl p;
    putting = λ u file block body lease is put first can below room. prompt-same t.client _ refl refl refl p;
    write_waits = λ u sync file block body is write waits. p;
    syncing = λ u file is sync clean. prompt-same t.client _ refl refl refl p;
    sync_waits = λ u file is sync dirty. p;
    others = λ u is needs. p;
  })

  sends : (in_tick : Bool) → Prompt (send_next in_tick t).client
  unfolding sends_request after_seq after_number takes_push gives_up
  sends in_tick = send-moves in_tick t (λ u. Prompt u.client) (record {
    kept = p;
    pushes = λ file q first. prompt-sent t.client _ _ refl refl refl refl p;
    asks = λ job request. prompt-sent t.client _ _ refl refl refl refl p;
    decides = λ request. prompt-sent t.client _ _ refl refl refl refl p;
    writes = λ file block body. prompt-sent t.client _ _ refl refl refl refl p;
    changes = λ file request. prompt-sent t.client _ _ refl refl refl refl p;
  })

  through : (on : Bool) → Prompt (marks_through on t).client
  unfolding marks_through
  through on = prompt-same t.client _ refl refl refl p

  called : (answer : Answer) (by : Option ℕ) → Prompt (answers_call t answer by).client
  called answer by = answers-call-cases t answer by (λ u. Prompt u.client) (λ none. p) (λ u is. answered u.q answer by)

goes-prompt : (t u : ClientStep) (n : ℕ) → Goes 3 5 n t u → Prompt t.client → Prompt u.client
goes-prompt t u n g p = prompt-same t.client u.client g.now g.pause g.ticket p

paused-prompt : (c : Client) → Prompt (pauses (start c)).client
unfolding pauses marks_through spends
paused-prompt c = record { short = omega arith; recent = λ t is. none-some t is }

module _ (c : Client) (p : Prompt c) where
  begins : Prompt (start c).client
  begins = let e = start-same 3 5 c in prompt-free c (start c).client e.2 e.3 e.1 p

  goes : (u : ClientStep) (n : ℕ) → Goes 3 5 n (start c) u → Prompt u.client
  goes u n g = goes-prompt (start c) u n g begins

  replied-prompt : (number : ℕ) (ticket : Ticket) (r : Reply) → c.ticket ≡ Some ticket → reply_counts r ticket ≡ true → Alone c
      → Prompt (replied (begun c) number ticket r).client
  replied-prompt number ticket r asks counts alone = replied-cases c number ticket r (λ u. Prompt u.client) (alone.asking.ticketed ticket asks).fits
      counts (record {
        attaching = λ who inc job request is. goes (attached (start c)) 1 (attached-goes 3 5 c);
        named = λ answer job is. called (start c) begins answer None;
        reading = λ who q file block want inc rev body grant of is. called (then_caches (takes_optional (start c) file grant ticket.first) file block body
            grant) (goes (then_caches (takes_optional (start c) file grant ticket.first) file block body grant) 1 (read-goes 3 5 (start c) file block body
            grant ticket.first)) (Answer.Ok (Value.Body body)) (Some number);
        leasing = λ who file want inc grant of is.
            let taken = goes (takes_optional (start c) file grant ticket.first) 1 (optional-goes 3 5 (start c) file grant ticket.first) in
            lease-done-cases (start c) file grant ticket.first (λ u. Prompt u.client) (λ caching. taken)
            (λ other. through (takes_optional (start c) file grant ticket.first) taken true);
        writing = λ who seq file block first last body inc rev of is. called (knows_revision (caches_write (start c) file block body rev) file rev)
            (goes (knows_revision (caches_write (start c) file block body rev) file rev) 1 (write-goes 3 5 (start c) file block body rev))
            (Answer.Ok Value.Nothing) None;
        resizing = λ who seq q file blocks inc rev of is. called (knows_revision (start c) file rev) (goes (knows_revision (start c) file rev) 0
            (known-goes 3 5 (start c) file rev)) (Answer.Ok Value.Nothing) None;
        removing = λ who seq q file inc of is. called (start c) begins (Answer.Ok Value.Nothing) None;
        renewing = λ who file want inc grant job request is. goes (takes_optional (start c) file grant ticket.first) 1 (optional-goes 3 5 (start c) file
            grant ticket.first);
        pushed = λ who seq file block first last base body inc rev job request is. goes (push_done (start c) file block body rev) 1
            (pushed-goes 3 5 (start c) file block body rev);
        putting_off = λ inc status of is off. paused-prompt c;
        refusing = λ inc status job is counted final. called (start c) begins _ None;
        renewal_refused = λ inc status job is final. begins;
        push_refused = λ who seq file block first last base body inc status job request is final. goes (push_refused (start c) file) 1
            (refused-goes 3 5 (start c) file);
      })

  cut : (file : ℕ) → Prompt (cancels (begun c) file).client
  unfolding cancels
  cut file = record { short = p.short; recent = λ t is. p.recent t (keeps-or-cancels file c.ticket t is).0 }

  pub hear-prompt : (k : ℕ) (m : Message) (t : ClientStep) → Alone c → hear c k m ≡ Some t → Prompt t.client
  hear-prompt k m t alone hears = heard-cases c k m t (λ u. Prompt u.client) hears (record {
    answered = λ xid r ticket is asks own inc counts.
        let done = replied-prompt k ticket r asks counts alone in
        sends (settle (replied (begun c) k ticket r)) (settles (replied (begun c) k ticket r) done) false;
    noticed = λ xid file tag is older.
        let gone = evicted (cancels (begun c) file) file tag in
        let left : Prompt gone.client = goes-prompt (cancels (begun c) file) gone 1 (evicted-goes 3 5 (cancels (begun c) file) file tag) (cut file) in
        sends (settle gone) (settles gone left) false;
  })

  pub call-prompt : (op : Call) → Prompt (client_call c op).client
  unfolding says_busy begins_call is_called answers
  call-prompt op = call-cases c op (λ u. Prompt u.client) (record {
    busy = λ why. prompt-same c _ refl refl refl p;
    telling = λ file loss losses idle on changes has. prompt-same c _ refl refl refl p;
    going = λ idle on none.
        let asked : Prompt (is_called (begins_call c op) op).client = prompt-same c _ refl refl refl p in
        let settled = settles (is_called (begins_call c op) op) asked in
        unless-cached-cases (settle (is_called (begins_call c op) op)) (λ u. Prompt u.client) (λ cached. settled)
        (λ other. sends (settle (is_called (begins_call c op) op)) settled false);
  })

  pub tick-prompt : Prompt (client_tick c (c.now + 1)).client
  unfolding at_time sends_again
  tick-prompt = tick-cases c (c.now + 1) (λ u. Prompt u.client) (record {
    again = λ ticket is late. record {
      short = let a = p.short in omega arith;
      recent = λ t e. let same : c.now + 1 ≡ t.last =
          ap (λ (x : Ticket). x.last) (some-same (record ticket { last = c.now + 1 }) t e) in omega arith;
    };
    quiet = λ ticket is soon. record {
      short = let a = p.short in omega arith;
      recent = λ t e. let same : ticket.last ≡ t.last =
          ap (λ (x : Ticket). x.last) (some-same ticket t (sym is ∙ e)) in omega arith;
    };
    free = λ none.
        let timed : Prompt (begun (at_time c (c.now + 1))).client = record {
          short = let a = p.short in omega arith;
          recent = λ t e.
              none-some t (sym none ∙ e);
        } in
        sends (settle (begun (at_time c (c.now + 1)))) (settles (begun (at_time c (c.now + 1))) timed) true;
  })

pub restart-prompt : (c : Client) → Prompt (restart c).client
unfolding starts fresh_client
restart-prompt c = record { short = omega arith; recent = λ t e. let same : c.now ≡ t.last = ap (λ (x : Ticket). x.last) (some-same _ t e) in omega arith }
