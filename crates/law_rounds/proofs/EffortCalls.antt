-- What a reply costs and what it pays, for the call that it answers.
use Rattle.std.proofs.Common.{◌≡◌, ◌≤◌, ◌⊎◌, ℕ, ◌+◌, ◌==◌, ◌&&◌, Bool, true, false, not, nat_lt, List, Option, Some, None, refl, sym, ap}
use Rattle.std.proofs.Common.{◌∙◌, arith, inl, inr}
use Rattle.std.proofs.lemmas.Bool.{and_parts}
use Rattle.std.proofs.lemmas.Bool.Decides.{nat_tests}
use Rattle.nq_base.specs.declared.Answer.{Answer}
use Rattle.nq_base.specs.declared.Call.{Call}
use Rattle.nq_base.specs.declared.Grant.{Grant}
use Rattle.nq_base.specs.declared.Reply.{Reply}
use Rattle.nq_base.specs.declared.Request.{Request}
use Rattle.nq_base.specs.declared.Value.{Value}
use Rattle.nq_base.specs.declared.Want.{Want}
use Rattle.nq_base.specs.declared.Who.{Who}
use Rattle.nq_model.proofs.ClientLists.{put-lease-found}
use Rattle.nq_model.specs.protocol.Client.{Client, ClientStep, begun, attaching, for_call, renewing, Notice, Ticket, UnderWay, lease_on}
use Rattle.nq_model.specs.protocol.Client.{notice_on, is_clean, lets_write}
use Rattle.nq_model.specs.protocol.Hear.{answers_call, answer_of, vacates_noticed, loses, waits_for, reports_to, reports, push_refused}
use Rattle.nq_model.specs.protocol.Hear.{granted_lease, breaks, breaks_chain, if_broken, holds, takes_grant, takes_optional, grant_caches}
use Rattle.nq_model.specs.protocol.Hear.{knows_revision, then_caches, with_through, marks_through, lease_done}
use Rattle.nq_model.specs.protocol.Hear.{caches_write, push_done, spends, attached, pauses, replied, wants_of}
use Rattle.nq_model.specs.protocol.Hear.{reply_counts}
use Rattle.nq_model.specs.protocol.Profile.{patience}
use Rattle.nq_model.specs.protocol.Settle.{answers, names_losses, ticket_is_for_call, settle}
use Rattle.nq_model.specs.protocol.Table.{is_writing}
use Rattle.walk_steps.proofs.ClientFacts.{Alone}
use Rattle.walk_steps.proofs.ClientMoves.{none-some}
use Rattle.walk_steps.proofs.PartCases.{lease-done-cases}
use Rattle.walk_steps.proofs.RepliedCases.{IsNamed, looked_up, created, attributes, OfCall, replied-cases}
use Rattle.walk_steps.proofs.SettleCases.{CanWrite, IsSettling}
use Rattle.walk_steps.proofs.Rows.{choice, same-number, number-same}
use Rattle.walk_steps.proofs.Tests.{is-not-below}
use Rattle.law_rounds.specs.Efforts.{write_price, put_price, fresh_for, fresh_left, writes_to, lease_left, sent_left, job_left}
use Rattle.law_rounds.specs.Efforts.{requests_left, delays_left, is_idle, writes_left, calls_left, effort}
use Rattle.law_rounds.proofs.Efforts.{lease_weight, reply_weight, cost}
use Rattle.law_rounds.proofs.EffortParts.{none-left, called-left, settle-cheap, settle-saves}
use Rattle.law_rounds.proofs.EffortHeard.{Goes, answered-cost, caches-write-goes, fresh_calls, goes-calls, goes-then, known-goes, optional-goes, other-job, pushed-goes, refused-goes, same-goes, start, start-rest, start-same, taken-goes, then-caches-goes, wider}

module _ (price note : ℕ) where
  kept-cost : (c : Client) (ticket : Ticket) (t : ClientStep) → c.ticket ≡ Some ticket → (ticket.job ≡ for_call → ⊥) → Goes price note 1 (start c) t
      → cost price note t ≤ effort price c + 1
  kept-cost c ticket t asks other g =
      let rest = g.rest in
      let from = (start-rest price note) c in
      let left = (goes-calls price note) 1 c t g in
      let same : calls_left price c ≡ (fresh_calls price note) c = ap (requests_left price c.now (nat_lt c.now c.pause) c.call) asks
      ∙ (other-job price note) c.now (nat_lt c.now c.pause) c.call ticket other in
      omega arith

  -- a client that pauses
  waits : (now : ℕ) → nat_lt now (now + patience) ≡ true
  waits now = grind (arith, nat_tests)

  through-delays : (on : Bool) (o : Option UnderWay) → delays_left (with_through on o) ≡ delays_left o
  through-delays on None = refl
  through-delays on (Some u) = refl

  paused-cost : (c : Client) → cost price note (pauses (start c)) ≤ writes_left c
  unfolding spends pauses marks_through
  paused-cost c =
      let off : requests_left price c.now (nat_lt c.now (c.now + patience)) (with_through false c.call) None ≡ 0 =
      ap (λ b. requests_left price c.now b (with_through false c.call) None) (waits c.now) in
      let same = through-delays false c.call in
      omega arith

  -- ---- the call's lease was granted, or is not needed

  -- what a write may send once it is to go through
  through-left : (now : ℕ) (paused : Bool) (o : Option UnderWay) → requests_left price now paused (with_through true o) None ≤ price
  through-left now true o = omega arith
  through-left now false None = omega arith
  through-left now false (Some u) = by u.call
    where
      put : (b : Bool) → put_price price b ≤ price
      put true = omega arith
      put false = omega arith

      by : (op : Call) → fresh_for price (record u { through = true }) op ≤ price
      by (Call.Write file block body) = omega arith
      by (Call.Put file block body) = put u.written
      by (Call.Sync file) = omega arith
      by (Call.Create name blocks) = omega arith
      by (Call.Lookup name) = omega arith
      by (Call.Attr file) = omega arith
      by (Call.Read file block) = omega arith
      by (Call.Fetch file block) = omega arith
      by (Call.Resize file blocks) = omega arith
      by (Call.Remove file) = omega arith

  -- at most two requests of a call are left
  pub two-left : (u : UnderWay) → fresh_left price u ≤ price + price
  two-left u = by u.call
    where
      put : (b : Bool) → put_price price b ≤ price
      put true = omega arith
      put false = omega arith

      write : (b : Bool) → write_price price b ≤ price + price
      write true = omega arith
      write false = omega arith

      by : (op : Call) → fresh_for price u op ≤ price + price
      by (Call.Write file block body) = write u.through
      by (Call.Put file block body) = let less = put u.written in omega arith
      by (Call.Sync file) = omega arith
      by (Call.Create name blocks) = omega arith
      by (Call.Lookup name) = omega arith
      by (Call.Attr file) = omega arith
      by (Call.Read file block) = omega arith
      by (Call.Fetch file block) = omega arith
      by (Call.Resize file blocks) = omega arith
      by (Call.Remove file) = omega arith

  -- ---- the call's lease was granted

  -- what is left of a call whose lease was asked for
  abbrev lease_calls : (now first file : ℕ) (paused : Bool) → Option UnderWay → ℕ
  lease_calls now first file true called = 0
  lease_calls now first file false None = 0
  lease_calls now first file false (Some u) = lease_left price (first == now && writes_to file u.call)

  pub lease-least : (b : Bool) → price ≤ lease_left price b
  lease-least true = omega arith
  lease-least false = omega arith

  through-below : (now first file : ℕ) (paused : Bool) (o : Option UnderWay) → requests_left price now paused (with_through true o) None ≤ lease_calls
      now first file paused o
  through-below now first file true o = omega arith
  through-below now first file false None = omega arith
  through-below now first file false (Some u) = let least = lease-least (first == now && writes_to file u.call) in let most = through-left now false
      (Some u) in omega arith

  fresh-below : (now first file : ℕ) (paused : Bool) (o : Option UnderWay) → requests_left price now paused o None ≤ lease_calls now first file paused
      o + price
  fresh-below now first file true o = omega arith
  fresh-below now first file false None = omega arith
  fresh-below now first file false (Some u) = let least = lease-least (first == now && writes_to file u.call) in let most = two-left u in omega arith

  -- a call that writes to a file
  written-call : (file : ℕ) (op : Call) → writes_to file op ≡ true → (block : ℕ) × (body : List ℕ) × (op ≡ Call.Write file block body)
  written-call file (Call.Write f block body) e = (block, body, ap (λ g. Call.Write g block body) (same-number f file e))
  written-call file (Call.Put f block body) e = absurd (cc)
  written-call file (Call.Sync f) e = absurd (cc)
  written-call file (Call.Create name blocks) e = absurd (cc)
  written-call file (Call.Lookup name) e = absurd (cc)
  written-call file (Call.Attr f) e = absurd (cc)
  written-call file (Call.Read f block) e = absurd (cc)
  written-call file (Call.Fetch f block) e = absurd (cc)
  written-call file (Call.Resize f blocks) e = absurd (cc)
  written-call file (Call.Remove f) e = absurd (cc)

  -- where no notice waits for the file, a grant leaves the notices
  reported-notices : (t : ClientStep) (file : ℕ) (o : Option UnderWay) → (reports_to t file o).client.notices ≡ t.client.notices
  unfolding answers
  reported-notices t file None = refl
  reported-notices t file (Some u) = choice (λ (v : ClientStep). v.client.notices ≡ t.client.notices) (waits_for file u.written u.call)
      (names_losses t u.q file) t (λ e. refl) (λ e. refl)

  lost-notices : (t : ClientStep) (file : ℕ) → (loses t file).client.notices ≡ t.client.notices
  unfolding loses
  lost-notices t file = refl

  broken-notices : (t : ClientStep) (file : ℕ) (o : Option Notice) → o ≡ None → (reports (vacates_noticed (loses t file) file o) file).client.notices
      ≡ t.client.notices
  broken-notices t file None none = reported-notices (loses t file) file (loses t file).client.call ∙ lost-notices t file
  broken-notices t file (Some n) none = none-some n (sym none)

  granted-notices : (t : ClientStep) (file : ℕ) (g : Grant) (sent : ℕ) → notice_on file t.client.notices ≡ None
      → (takes_grant t file g sent).client.notices ≡ t.client.notices
  unfolding holds
  granted-notices t file g sent none = choice (λ (v : ClientStep). v.client.notices ≡ t.client.notices) (breaks g (lease_on file t.client.leases)
      && not (is_clean t.client file)) (breaks_chain t file) t (λ e. broken-notices t file (notice_on file t.client.notices) none) (λ e. refl)

  granted-held : (t : ClientStep) (file : ℕ) (g : Grant) (sent : ℕ) → lease_on file (takes_grant t file g sent).client.leases
      ≡ Some (granted_lease file g sent)
  unfolding holds granted_lease
  granted-held t file g sent = put-lease-found (granted_lease file g sent) file (if_broken t file g).client.leases refl

  granted-lets : (now file : ℕ) (g : Grant) (sent : ℕ) → sent ≡ now → is_writing g.mode ≡ true → nat_lt 0 g.term ≡ true
      → lets_write now (granted_lease file g sent) ≡ true
  unfolding granted_lease
  granted-lets now file g sent same writing some = let live : nat_lt now (sent + g.term) ≡ true = later now sent g.term same some in rw (writing, live) refl
    where
      later : (a b n : ℕ) → b ≡ a → nat_lt 0 n ≡ true → nat_lt a (b + n) ≡ true
      later a b n same some = grind (arith, nat_tests)

  module _ (c : Client) (ticket : Ticket) (who : Who) (file : ℕ) (want : Want) (asks : c.ticket ≡ Some ticket)
      (of : OfCall ticket (Request.GetLease who file want)) (alone : Alone c) where
    unnoticed : notice_on file c.notices ≡ None
    unnoticed = by (notice_on file c.notices) refl
      where
        by : (o : Option Notice) → notice_on file c.notices ≡ o → notice_on file c.notices ≡ None
        by None is = is
        by (Some n) is =
            let unwanted : wants_of file ticket.request ≡ false = alone.asking.unwanted file n ticket is asks in
            let wanted : wants_of file ticket.request ≡ true = ap (wants_of file) of.asks ∙ number-same file file refl in
            absurd (cc)

    left-before : calls_left price c ≡ lease_calls c.now ticket.first file (nat_lt c.now c.pause) c.call
    left-before = ap (requests_left price c.now (nat_lt c.now c.pause) c.call) asks ∙ by (nat_lt c.now c.pause) c.call
      where
        by : (b : Bool) (o : Option UnderWay) → requests_left price c.now b o (Some ticket) ≡ lease_calls c.now ticket.first file b o
        by true o = refl
        by false None = refl
        by false (Some u) = ap (job_left price c.now u ticket.first ticket.request) of.job ∙ ap (sent_left price c.now u ticket.first) of.asks

    -- no lease that caches: the write goes through
    through-cost : (w : ClientStep) → Goes price note 1 (start c) w → cost price note (marks_through true w) ≤ effort price c + 1
    unfolding marks_through
    through-cost w g =
        let s = (start-same price note) c in
        let rest = g.rest in
        let from = (start-rest price note) c in
        let same = through-delays true w.client.call in
        let before = left-before in
        let after : requests_left price w.client.now (nat_lt w.client.now w.client.pause) (with_through true w.client.call) w.client.ticket
        ≡ requests_left price c.now (nat_lt c.now c.pause) (with_through true w.client.call) None = rw (g.ticket ∙ s.1, g.now ∙ s.2, g.pause ∙ s.3) refl in
        let below = by s.0 g.call in
        omega arith
      where
        by : (start c).client.call ≡ c.call → (w.client.call ≡ (start c).client.call) ⊎ (w.client.call ≡ None) → requests_left price c.now
            (nat_lt c.now c.pause) (with_through true w.client.call) None ≤ lease_calls c.now ticket.first file (nat_lt c.now c.pause) c.call
        by s (inl is) =
            let at : requests_left price c.now (nat_lt c.now c.pause) (with_through true w.client.call) None ≡ requests_left price c.now
            (nat_lt c.now c.pause) (with_through true c.call) None = ap (λ o. requests_left price c.now (nat_lt c.now c.pause)
            (with_through true o) None) (is ∙ s) in
            let below = through-below c.now ticket.first file (nat_lt c.now c.pause) c.call in
            omega arith
        by s (inr none) =
            let at : requests_left price c.now (nat_lt c.now c.pause) (with_through true w.client.call) None ≡ 0 =
            ap (λ o. requests_left price c.now (nat_lt c.now c.pause) (with_through true o) None) none ∙ none-left price note c.now
            (nat_lt c.now c.pause) None in
            omega arith

    -- a lease that caches and is of no use
    idle-cost : (w : ClientStep) → Goes price note 1 (start c) w → cost price note (settle w) ≤ effort price c + (price + 1)
    idle-cost w g =
        let rest = g.rest in
        let from = (start-rest price note) c in
        let cheap = settle-cheap price note w in
        let left = (goes-calls price note) 1 c w g in
        let before = left-before in
        let below = fresh-below c.now ticket.first file (nat_lt c.now c.pause) c.call in
        omega arith

    -- a lease that lets the write be delayed
    module _ (g : Grant) (writing : is_writing g.mode ≡ true) (some : nat_lt 0 g.term ≡ true) where
      abbrev w : ClientStep
      w = takes_grant (start c) file g ticket.first

      gone : Goes price note 1 (start c) w
      gone = (taken-goes price note) (start c) file g ticket.first

      abbrev Used : Type 0
      Used = cost price note (settle w) ≤ effort price c + 1

      -- where so much is left before as after
      enough : requests_left price c.now (nat_lt c.now c.pause) c.call None ≤ calls_left price c → Used
      enough all =
          let rest = gone.rest in
          let from = (start-rest price note) c in
          let cheap = settle-cheap price note w in
          let left = (goes-calls price note) 1 c w gone in
          omega arith

      can-write : (u : UnderWay) → u.through ≡ false → ticket.first ≡ c.now → CanWrite w.client u file (granted_lease file g ticket.first)
      can-write u off first =
          let s = (start-same price note) c in
          record {
            held = granted-held (start c) file g ticket.first;
            lets = granted-lets w.client.now file g ticket.first (first ∙ sym (gone.now ∙ s.2)) writing some;
            unnoticed = ap (notice_on file) (granted-notices (start c) file g ticket.first (ap (notice_on file) s.4 ∙ unnoticed) ∙ s.4) ∙ unnoticed;
            delayed = off;
          }

      -- the write is delayed at once
      saved : (u : UnderWay) (block : ℕ) (body : List ℕ) → c.call ≡ Some u → w.client.call ≡ Some u → u.call ≡ Call.Write file block body → u.through
          ≡ false → ticket.first ≡ c.now → c.pause ≤ c.now → Used
      saved u block body called still writes off first unpaused =
          let s = (start-same price note) c in
          let now : w.client.now ≡ c.now = gone.now ∙ s.2 in
          let pause : w.client.pause ≡ c.pause = gone.pause ∙ s.3 in
          let free : w.client.ticket ≡ None = gone.ticket ∙ s.1 in
          let settles : IsSettling w u = record { called = still; idle = ap ticket_is_for_call free } in
          let less = settle-saves price note w u file block body (granted_lease file g ticket.first) settles writes (can-write u off first) (omega arith) in
          let rest = gone.rest in
          let from = (start-rest price note) c in
          let left = (goes-calls price note) 1 c w gone in
          let most : (fresh_calls price note) c ≡ fresh_left price u = called-left price note c.now c.pause c.call u None unpaused called in
          let two = two-left u in
          omega arith

      by-through : (u : UnderWay) (block : ℕ) (body : List ℕ) → c.call ≡ Some u → u.call ≡ Call.Write file block body → ticket.first ≡ c.now
          → c.pause ≤ c.now → price ≤ calls_left price c → (b : Bool) → u.through ≡ b → (w.client.call ≡ (start c).client.call) ⊎ (w.client.call ≡ None) → Used
      by-through u block body called writes first unpaused least true on which =
          let most : (fresh_calls price note) c ≡ price = called-left price note c.now c.pause c.call u None unpaused called ∙ ap (fresh_for price u) writes
          ∙ ap (write_price price) on in
          enough (omega arith)
      by-through u block body called writes first unpaused least false off (inl is) = saved u block body called (is ∙ ((start-same price note) c).0 ∙ called)
          writes off first unpaused
      by-through u block body called writes first unpaused least false off (inr none) =
          let rest = gone.rest in
          let from = (start-rest price note) c in
          let cheap = settle-cheap price note w in
          let left : calls_left price w.client ≡ 0 = ap (λ o. requests_left price w.client.now (nat_lt w.client.now w.client.pause) o w.client.ticket)
          none ∙ none-left price note w.client.now (nat_lt w.client.now w.client.pause) w.client.ticket in
          omega arith

      by-call : (paused : Bool) → nat_lt c.now c.pause ≡ paused → (o : Option UnderWay) → c.call ≡ o → Used
      by-call true is o called = enough (let none : requests_left price c.now (nat_lt c.now c.pause) c.call None ≡ 0 =
          ap (λ b. requests_left price c.now b c.call None) is in omega arith)
      by-call false is None called = enough (let none : requests_left price c.now (nat_lt c.now c.pause) c.call None ≡ 0 =
          ap (λ o. requests_left price c.now (nat_lt c.now c.pause) o None) called ∙ none-left price note c.now (nat_lt c.now c.pause) None in omega arith)
      by-call false is (Some u) called = fresh (ticket.first == c.now && writes_to file u.call) refl
        where
          unpaused : c.pause ≤ c.now
          unpaused = is-not-below c.now c.pause is

          before : calls_left price c ≡ lease_left price (ticket.first == c.now && writes_to file u.call)
          before = left-before ∙ ap (λ b. lease_calls c.now ticket.first file b c.call) is ∙ ap (lease_calls c.now ticket.first file false) called

          fresh : (b : Bool) → (ticket.first == c.now && writes_to file u.call) ≡ b → Used
          fresh false e =
              let two = two-left u in
              let all : calls_left price c ≡ price + price = before ∙ ap (lease_left price) e in
              let most : (fresh_calls price note) c ≡ fresh_left price u = called-left price note c.now c.pause c.call u None unpaused called in
              enough (omega arith)
          fresh true e =
              let a = and_parts _ _ e in
              let written = written-call file u.call a.1 in
              let one : calls_left price c ≡ price = before ∙ ap (lease_left price) e in
              by-through u written.0 written.1 called written.2 (same-number ticket.first c.now a.0) unpaused (omega arith) u.through refl gone.call

      used : Used
      used = by-call (nat_lt c.now c.pause) refl c.call refl

  -- ---- all that a reply may bring

  pub attached-goes : (c : Client) → Goes price note 1 (start c) (attached (start c))
  unfolding attached
  attached-goes c = record { rest = omega arith; call = inl refl; ticket = refl; now = refl; pause = refl }

  named-weight : (request : Request) (r : Reply) (answer : Answer) → IsNamed request r answer → reply_weight price r ≡ 2
  named-weight request r answer (looked_up who name inc file blocks asks is) = ap (reply_weight price) is
  named-weight request r answer (created who seq name blocks inc file asks is) = ap (reply_weight price) is
  named-weight request r answer (attributes who file inc blocks rev asks is) = ap (reply_weight price) is

  -- a reply costs its weight less one
  abbrev Pays : Client → Reply → ClientStep → Type 0
  Pays c r v = cost price note (settle v) + 1 ≤ effort price c + reply_weight price r

  by-cost : (c : Client) (r : Reply) (v : ClientStep) → cost price note v ≤ effort price c + 1 → reply_weight price r ≡ 2 → Pays c r v
  by-cost c r v few two = let cheap = settle-cheap price note v in omega arith

  by-answer : (c : Client) (r : Reply) (t : ClientStep) (answer : Answer) (by : Option ℕ) → Goes price note 1 (start c) t → reply_weight price r ≡ 2
      → Pays c r (answers_call t answer by)
  by-answer c r t answer by g two = by-cost c r (answers_call t answer by) (let few = (answered-cost price note) c t answer by g in omega arith) two

  pub read-goes : (t : ClientStep) (file block : ℕ) (body : List ℕ) (g : Option Grant) (sent : ℕ)
      → Goes price note 1 t (then_caches (takes_optional t file g sent) file block body g)
  read-goes t file block body g sent = (goes-then price note) 1 0 1 t (takes_optional t file g sent) _ (omega arith) ((optional-goes price note) t file g sent)
      ((then-caches-goes price note) (takes_optional t file g sent) file block body g)

  pub write-goes : (t : ClientStep) (file block : ℕ) (body : List ℕ) (rev : ℕ)
      → Goes price note 1 t (knows_revision (caches_write t file block body rev) file rev)
  write-goes t file block body rev = (goes-then price note) 0 0 1 t (caches_write t file block body rev) _ (omega arith) ((caches-write-goes price note) t file block body rev)
      ((known-goes price note) (caches_write t file block body rev) file rev)

  lease-pays : (c : Client) (ticket : Ticket) (who : Who) (file : ℕ) (want : Want) (inc : ℕ) (grant : Option Grant) (r : Reply) → c.ticket
      ≡ Some ticket → OfCall ticket (Request.GetLease who file want) → Alone c → r ≡ Reply.GetLease inc grant
      → Pays c r (lease_done (start c) file grant ticket.first)
  lease-pays c ticket who file want inc grant r asks of alone is =
      lease-done-cases (start c) file grant ticket.first (Pays c r)
      (λ caching. caches-it grant caching is)
      (λ other.
      let few = through-cost c ticket who file want asks of alone (takes_optional (start c) file grant ticket.first) ((optional-goes price note) (start c) file
      grant ticket.first) in
      let two : reply_weight price r ≡ 2 = ap (reply_weight price) is ∙ ap (lease_weight price) (unused grant other) in
      by-cost c r (marks_through true (takes_optional (start c) file grant ticket.first)) few two)
    where
      unused : (o : Option Grant) → grant_caches o ≡ false → is_idle o ≡ false
      unused None e = refl
      unused (Some g) e = rw e refl

      caches-it : (o : Option Grant) → grant_caches o ≡ true → r ≡ Reply.GetLease inc o → Pays c r (takes_optional (start c) file o ticket.first)
      caches-it None e is = absurd (cc)
      caches-it (Some g) e is = useful (is_writing g.mode && nat_lt 0 g.term) refl
        where
          useful : (b : Bool) → (is_writing g.mode && nat_lt 0 g.term) ≡ b → Pays c r (takes_grant (start c) file g ticket.first)
          useful true f =
              let a = and_parts _ _ f in
              let few = used c ticket who file want asks of alone g a.0 a.1 in
              let idle : is_idle (Some g) ≡ false = rw (e, f) refl in
              let two : reply_weight price r ≡ 2 = ap (reply_weight price) is ∙ ap (lease_weight price) idle in
              omega arith
          useful false f =
              let few = idle-cost c ticket who file want asks of alone (takes_grant (start c) file g ticket.first) ((taken-goes price note) (start c) file g
              ticket.first) in
              let idle : is_idle (Some g) ≡ true = rw (e, f) refl in
              let more : reply_weight price r ≡ price + 2 = ap (reply_weight price) is ∙ ap (lease_weight price) idle in
              omega arith

  -- no idle lease for a call is heard: then a reply costs no more than any other
  abbrev pub Lean : Client → Ticket → Reply → ClientStep → Type 0
  Lean c ticket r v = (ticket.job ≡ for_call → reply_weight price r ≡ 2) → cost price note (settle v) + 1 ≤ effort price c + 2

  lean-by : (c : Client) (ticket : Ticket) (r : Reply) (v : ClientStep) → Pays c r v → reply_weight price r ≡ 2 → Lean c ticket r v
  lean-by c ticket r v pays two = λ mine. omega arith

  pub replied-lean : (c : Client) (number : ℕ) (ticket : Ticket) (r : Reply) → c.ticket ≡ Some ticket → reply_counts r ticket ≡ true → Alone c
      → Lean c ticket r (replied (begun c) number ticket r)
  replied-lean c number ticket r asks counts alone = replied-cases c number ticket r (Lean c ticket r) (alone.asking.ticketed ticket asks).fits counts
      (record {
        attaching = λ who inc job request is. lean-by c ticket r (attached (start c)) (by-cost c r (attached (start c))
            (kept-cost c ticket (attached (start c)) asks (λ e. let two = sym job ∙ e in cc) (attached-goes c)) (ap (reply_weight price) is))
            (ap (reply_weight price) is);
        named = λ answer job is. lean-by c ticket r (answers_call (start c) answer None) (by-answer c r (start c) answer None
            ((wider price note) 0 1 (start c) (start c) (omega arith) ((same-goes price note) (start c))) (named-weight ticket.request r answer is)) (named-weight ticket.request r
            answer is);
        reading = λ who q file block want inc rev body grant of is. lean-by c ticket r
            (answers_call (then_caches (takes_optional (start c) file grant ticket.first) file block body grant) (Answer.Ok (Value.Body body))
            (Some number)) (by-answer c r (then_caches (takes_optional (start c) file grant ticket.first) file block body grant)
            (Answer.Ok (Value.Body body)) (Some number) (read-goes (start c) file block body grant ticket.first) (ap (reply_weight price) is))
            (ap (reply_weight price) is);
        leasing = λ who file want inc grant of is. λ mine. lean-by c ticket r (lease_done (start c) file grant ticket.first) (lease-pays c ticket who file
            want inc grant r asks of alone is) (mine of.job) mine;
        writing = λ who seq file block first last body inc rev of is. lean-by c ticket r
            (answers_call (knows_revision (caches_write (start c) file block body rev) file rev) (Answer.Ok Value.Nothing) None)
            (by-answer c r (knows_revision (caches_write (start c) file block body rev) file rev) (Answer.Ok Value.Nothing) None
            (write-goes (start c) file block body rev) (ap (reply_weight price) is)) (ap (reply_weight price) is);
        resizing = λ who seq q file blocks inc rev of is. lean-by c ticket r (answers_call (knows_revision (start c) file rev) (Answer.Ok Value.Nothing)
            None) (by-answer c r (knows_revision (start c) file rev) (Answer.Ok Value.Nothing) None
            ((wider price note) 0 1 (start c) (knows_revision (start c) file rev) (omega arith) ((known-goes price note) (start c) file rev)) (ap (reply_weight price) is))
            (ap (reply_weight price) is);
        removing = λ who seq q file inc of is. lean-by c ticket r (answers_call (start c) (Answer.Ok Value.Nothing) None)
            (by-answer c r (start c) (Answer.Ok Value.Nothing) None ((wider price note) 0 1 (start c) (start c) (omega arith) ((same-goes price note) (start c)))
            (ap (reply_weight price) is)) (ap (reply_weight price) is);
        renewing = λ who file want inc grant job request is. λ mine.
            let few = kept-cost c ticket (takes_optional (start c) file grant ticket.first) asks (λ e. let two = sym job ∙ e in cc)
            ((optional-goes price note) (start c) file grant ticket.first) in
            let cheap = settle-cheap price note (takes_optional (start c) file grant ticket.first) in
            omega arith;
        pushed = λ who seq file block first last base body inc rev job request is. lean-by c ticket r (push_done (start c) file block body rev)
            (by-cost c r (push_done (start c) file block body rev) (kept-cost c ticket (push_done (start c) file block body rev) asks (λ e. let two =
            sym job ∙ e in cc) ((pushed-goes price note) (start c) file block body rev)) (ap (reply_weight price) is)) (ap (reply_weight price) is);
        putting_off = λ inc status of is off. lean-by c ticket r (pauses (start c)) (by-cost c r (pauses (start c)) (let few = paused-cost c in
            omega arith) (ap (reply_weight price) is)) (ap (reply_weight price) is);
        refusing = λ inc status job is counted final. lean-by c ticket r (answers_call (start c) (answer_of status) None)
            (by-answer c r (start c) (answer_of status) None ((wider price note) 0 1 (start c) (start c) (omega arith) ((same-goes price note) (start c)))
            (ap (reply_weight price) is)) (ap (reply_weight price) is);
        renewal_refused = λ inc status job is final. lean-by c ticket r (start c) (by-cost c r (start c) (kept-cost c ticket (start c) asks
            (λ e. let two = sym job ∙ e in cc) ((wider price note) 0 1 (start c) (start c) (omega arith) ((same-goes price note) (start c)))) (ap (reply_weight price) is))
            (ap (reply_weight price) is);
        push_refused = λ who seq file block first last base body inc status job request is final. lean-by c ticket r (push_refused (start c) file)
            (by-cost c r (push_refused (start c) file) (kept-cost c ticket (push_refused (start c) file) asks (λ e. let two = sym job ∙ e in cc)
            ((refused-goes price note) (start c) file)) (ap (reply_weight price) is)) (ap (reply_weight price) is);
      })
