-- Whom a notice makes cancel his call's request gives the lease up and sends the same request again, right behind.
use Rattle.std.proofs.Common.{◌≡◌, ◌≤◌, ℕ, ◌+◌, ◌==◌, ◌&&◌, ◌||◌, ◌++◌, nat_le, Bool, true, false, List, [], ◌∷◌, Option, Some, None, is_some, refl}
use Rattle.std.proofs.Common.{sym, ap, subst, ◌∙◌, arith}
use Rattle.std.proofs.lemmas.Bool.{and_parts}
use Rattle.nq_base.specs.declared.Call.{Call}
use Rattle.nq_base.specs.declared.Grant.{Grant}
use Rattle.nq_base.specs.declared.Mode.{Mode}
use Rattle.nq_base.specs.declared.Push.{Push}
use Rattle.nq_base.specs.declared.Request.{Request}
use Rattle.nq_base.specs.declared.Tag.{Tag}
use Rattle.nq_model.proofs.ClientLists.{lease-before-drop, notice-before-drop, put-notice-found}
use Rattle.nq_model.specs.protocol.Client.{Client, ClientStep, begun, Job, for_call, pushing, Lease, Notice, Ticket, UnderWay, lease_on, drop_lease, notice_on}
use Rattle.nq_model.specs.protocol.Client.{first_dirty, is_push_of, is_clean_in}
use Rattle.nq_model.specs.protocol.Hear.{vacates_lease, notes_notice, noticed_tag, evicted, cancels, cancelled, wants_of, goes_on}
use Rattle.nq_model.specs.protocol.Message.{Message, call}
use Rattle.nq_model.specs.protocol.Send.{sends_request, after_seq, after_number, takes_push, gives_up, want_of, read_want, shares_live, noticed_in, is_asking}
use Rattle.nq_model.specs.protocol.Send.{send_next}
use Rattle.nq_model.specs.protocol.Settle.{answers, after_read, reads_cached, after_write, marks_written, is_for_call, settle}
use Rattle.walk_steps.proofs.ClientCases.{Core, Closed}
use Rattle.walk_steps.proofs.ClientFacts.{Alone, DelayingOf}
use Rattle.walk_steps.proofs.ClientMoves.{some-same, none-some}
use Rattle.walk_steps.proofs.ClientWalk.{notice-keeps}
use Rattle.walk_steps.proofs.SendCases.{NothingToPush, noticed-one, no-noticed, send-cases}
use Rattle.walk_steps.proofs.SettleCases.{settle-moves, settle-settles, Settled}
use Rattle.walk_steps.proofs.StepCases.{evicted-cases, heard-cases}
use Rattle.walk_steps.proofs.Worlds.{run-holds}
use Rattle.walk_steps.proofs.Rows.{same-number}
use Rattle.walk_steps.proofs.Tests.{is-at-most, is-not-at-most, there-is}
use Rattle.law_rounds.specs.RequestsAreMeant.{wanted, IsMeant}
use Rattle.law_rounds.specs.SendsAgain.{SendsAgain, the_same, delayed_writes, nothing_now, NoticesAreAnsweredAtOnce}
use Rattle.law_rounds.proofs.Busy.{any-found, dirty-listed, asks-next}
use Rattle.law_rounds.proofs.Meant.{requests-are-meant}

-- nothing is asked of the walk but what it keeps by itself
any-closed : Closed (λ (file : ℕ) (tag : Tag). Unit {0}) (λ (file : ℕ) (g : Grant) (sent : ℕ). ⊥) (λ (k : Core). Unit {0})
any-closed = record {
  uses = λ k file g. tt;
  drops = λ k file g. tt;
  vacates = λ k file tag can g. tt;
  asks = λ k job request no_seq can g. tt;
  decides = λ k job request seq can g. tt;
  again = λ k t is g. tt;
  holds = λ k file gr sent given free unnoticed g. tt;
  cancels = λ k file g. tt;
  notes = λ k file tag heard g. tt;
}

-- a lease that was dropped is not there
no-lease : (file : ℕ) (leases : List Lease) → lease_on file (drop_lease file leases) ≡ None
no-lease file leases = by (lease_on file (drop_lease file leases)) refl
  where
    by : (o : Option Lease) → lease_on file (drop_lease file leases) ≡ o → o ≡ None
    by None e = refl
    by (Some l) e = absurd ((lease-before-drop file file leases l e).0 refl)

-- where a notice waits, something is to be pushed
noticed-pushes : (notices : List Notice) (dirty : List Push) (push : Option Push) (file : ℕ) (n : Notice) → notice_on file notices ≡ Some n
    → push ≡ None → ((f : ℕ) (m : Notice) → notice_on f notices ≡ Some m → is_clean_in f dirty push ≡ false) → ((f : ℕ) → noticed_in notices ≡ Some f
    → first_dirty f dirty ≡ None) → ⊥
noticed-pushes notices dirty push file n has none unclean nothing = by (noticed_in notices) refl
  where
    by : (o : Option ℕ) → noticed_in notices ≡ o → ⊥
    by None e = no-noticed notices e file n has
    by (Some f) e = let m = noticed-one notices f e in any-found (is_push_of f) dirty (dirty-listed f dirty push none (unclean f m.0 m.1)) (nothing f e)

-- a push under way is the request under way
no-push : (d : Client) → Alone d → ((k : Ticket) → d.ticket ≡ Some k → k.job ≡ pushing → ⊥) → d.push ≡ None
no-push d alone other = by d.push refl
  where
    by : (o : Option Push) → d.push ≡ o → o ≡ None
    by None e = refl
    by (Some p) e = let k = alone.delaying.under_way p e in absurd (other k.request k.asks k.job)

module _ (c : Client) (ticket : Ticket) (u : UnderWay) (file : ℕ) (tag : Tag) (alone : Alone c) (asks : c.ticket ≡ Some ticket) (job : ticket.job
    ≡ for_call) (wants : wants_of file ticket.request ≡ true) (has : c.call ≡ Some u) (meant : IsMeant c ticket u) (unpaused : c.pause ≤ c.now) where
  Result : ClientStep → Type 0
  Result t = SendsAgain c ticket file tag t

  free-push : c.push ≡ None
  free-push = no-push c alone (λ k e p. let same = some-same ticket k (sym asks ∙ e) in let two : for_call ≡ pushing = sym job
      ∙ ap (λ (x : Ticket). x.job) same ∙ p in cc)

  gone : cancelled file c.ticket ≡ None
  gone = ap (cancelled file) asks ∙ one
    where
      one : cancelled file (Some ticket) ≡ None
      one = rw wants refl

  -- the request that is sent is the one that was cancelled
  same-request : (v : ClientStep) (r : Request) → v.client.xid ≡ c.xid + 1 → v.client.now ≡ c.now → v.sends ≡ call c.xid (Request.Vacated c.who file
      tag) ∷ [] → r ≡ ticket.request → Result (sends_request v for_call r)
  unfolding Result sends_request
  same-request v r xid now sends same = the_same
      (ap (λ ms. ms ++ call v.client.xid r ∷ []) sends ∙ ap (λ n. call c.xid (Request.Vacated c.who file tag) ∷ call n r ∷ []) xid
      ∙ ap (λ q. call c.xid (Request.Vacated c.who file tag) ∷ call (c.xid + 1) q ∷ []) same)
      (ap (λ n. Some (record { xid = n; first = v.client.now; last = v.client.now; request = r; job = for_call })) xid
      ∙ ap (λ n. Some (record { xid = c.xid + 1; first = n; last = n; request = r; job = for_call })) now
      ∙ ap (λ q. Some (record { xid = c.xid + 1; first = c.now; last = c.now; request = q; job = for_call })) same)

  -- ---- a clean file: the lease is given up

  module _ (v : ClientStep) (lease : lease_on file v.client.leases ≡ None) (calls : v.client.call ≡ Some u) (none : v.client.ticket ≡ None)
      (mine : v.client.who ≡ c.who) (term : v.client.term ≡ c.term) (xid : v.client.xid ≡ c.xid + 1) (now : v.client.now ≡ c.now)
      (pause : v.client.pause ≡ c.pause) (sends : v.sends ≡ call c.xid (Request.Vacated c.who file tag) ∷ []) (delaying : DelayingOf v.client) where
    one : (w : UnderWay) → v.client.call ≡ Some w → w ≡ u
    one w is = some-same w u (sym is ∙ calls)

    op-of : (w : UnderWay) → v.client.call ≡ Some w → w.call ≡ u.call
    op-of w is = ap (λ (x : UnderWay). x.call) (one w is)

    -- the call waits, since no lease is held
    read-settled : (block : ℕ) → u.call ≡ Call.Read file block → settle v ≡ v
    read-settled block is = rw (calls, none, is, lease) refl

    write-settled : (block : ℕ) (body : List ℕ) → u.call ≡ Call.Write file block body → settle v ≡ v
    write-settled block body is = rw (calls, none, is, lease) refl

    wants-read : (q block : ℕ) → ticket.request ≡ Request.Read c.who q file block (Some (wanted c Mode.Reading)) → Request.Read v.client.who q file
        block (read_want v.client file) ≡ ticket.request
    wants-read q block is =
        let some : read_want v.client file ≡ Some (want_of v.client Mode.Reading) = rw lease refl in
        ap (λ w. Request.Read v.client.who q file block w) some ∙ ap (λ n. Request.Read v.client.who q file block
        (Some (record { mode = Mode.Reading; term = n }))) term ∙ ap (λ w. Request.Read w q file block (Some (wanted c Mode.Reading))) mine ∙ sym is

    wants-lease : ticket.request ≡ Request.GetLease c.who file (wanted c Mode.Writing) → Request.GetLease v.client.who file
        (want_of v.client Mode.Writing) ≡ ticket.request
    wants-lease is = ap (λ n. Request.GetLease v.client.who file (record { mode = Mode.Writing; term = n })) term
        ∙ ap (λ w. Request.GetLease w file (wanted c Mode.Writing)) mine ∙ sym is

    Sent : ClientStep → Type 0
    Sent t = is_asking t ≡ true → Result t

    pushed-now : (t : ClientStep) (p : Push) → t.client.push ≡ Some p → Sent t
    unfolding Sent Result
    pushed-now t p is asking = delayed_writes p free-push is

    reads-again : (block : ℕ) → u.call ≡ Call.Read file block → ticket.request ≡ Request.Read c.who u.q file block (Some (wanted c Mode.Reading))
        → Sent (send_next false v)
    unfolding Sent takes_push after_seq sends_request
    reads-again block is request = send-cases false v Sent (record {
      stays_asking = λ k e. none-some k (sym none ∙ e);
      stays = λ free nothing asking. let no : is_asking v ≡ false = ap is_some free in absurd (cc);
      pushing = λ f p free first same. pushed-now _ p refl;
      creating = λ w name blocks free e asking. absurd (let a = sym e ∙ op-of w free.called ∙ is in cc);
      looking_up = λ w name free e asking. absurd (let a = sym e ∙ op-of w free.called ∙ is in cc);
      getting_attributes = λ w f free e asking. absurd (let a = sym e ∙ op-of w free.called ∙ is in cc);
      reading = λ w f b free e asking. again w f b (sym e ∙ op-of w free.called ∙ is) (ap (λ (x : UnderWay). x.q) (one w free.called));
      fetching = λ w f b free e asking. absurd (let a = sym e ∙ op-of w free.called ∙ is in cc);
      writing = λ w f b bytes free e through asking. absurd (let a = sym e ∙ op-of w free.called ∙ is in cc);
      leasing = λ w f b bytes free e through shares asking. absurd (let a = sym e ∙ op-of w free.called ∙ is in cc);
      putting = λ w f b bytes free e written asking. absurd (let a = sym e ∙ op-of w free.called ∙ is in cc);
      resizing = λ w f blocks free e clean asking. absurd (let a = sym e ∙ op-of w free.called ∙ is in cc);
      removing = λ w f free e clean asking. absurd (let a = sym e ∙ op-of w free.called ∙ is in cc);
      renewing = λ f l ticks free nothing idle due held same clean unnoticed asking. absurd (cc);
    })
      where
        again : (w : UnderWay) (f b : ℕ) → Call.Read f b ≡ Call.Read file block → w.q ≡ u.q
            → Result (sends_request v for_call (Request.Read v.client.who w.q f b (read_want v.client f)))
        again w f b e q =
            let same_file : f ≡ file = cc in
            let same_block : b ≡ block = cc in
            same-request v _ xid now sends (ap (λ n. Request.Read v.client.who n f b (read_want v.client f)) q
            ∙ ap (λ g. Request.Read v.client.who u.q g b (read_want v.client g)) same_file ∙ ap (λ n. Request.Read v.client.who u.q file n
            (read_want v.client file)) same_block ∙ wants-read u.q block request)

    writes-again : (block : ℕ) (body : List ℕ) → u.call ≡ Call.Write file block body → u.through ≡ false → ticket.request ≡ Request.GetLease c.who
        file (wanted c Mode.Writing) → Sent (send_next false v)
    unfolding Sent takes_push after_seq sends_request
    writes-again block body is delayed request = send-cases false v Sent (record {
      stays_asking = λ k e. none-some k (sym none ∙ e);
      stays = λ free nothing asking. let no : is_asking v ≡ false = ap is_some free in absurd (cc);
      pushing = λ f p free first same. pushed-now _ p refl;
      creating = λ w name blocks free e asking. absurd (let a = sym e ∙ op-of w free.called ∙ is in cc);
      looking_up = λ w name free e asking. absurd (let a = sym e ∙ op-of w free.called ∙ is in cc);
      getting_attributes = λ w f free e asking. absurd (let a = sym e ∙ op-of w free.called ∙ is in cc);
      reading = λ w f b free e asking. absurd (let a = sym e ∙ op-of w free.called ∙ is in cc);
      fetching = λ w f b free e asking. absurd (let a = sym e ∙ op-of w free.called ∙ is in cc);
      writing = λ w f b bytes free e through asking. absurd (not-through w f b bytes (one w free.called) (sym e ∙ op-of w free.called ∙ is) through);
      leasing = λ w f b bytes free e through shares asking. again f b bytes (sym e ∙ op-of w free.called ∙ is);
      putting = λ w f b bytes free e written asking. absurd (let a = sym e ∙ op-of w free.called ∙ is in cc);
      resizing = λ w f blocks free e clean asking. absurd (let a = sym e ∙ op-of w free.called ∙ is in cc);
      removing = λ w f free e clean asking. absurd (let a = sym e ∙ op-of w free.called ∙ is in cc);
      renewing = λ f l ticks free nothing idle due held same clean unnoticed asking. absurd (cc);
    })
      where
        not-through : (w : UnderWay) (f b : ℕ) (bytes : List ℕ) → w ≡ u → Call.Write f b bytes ≡ Call.Write file block body
            → (w.through || shares_live v.client.now (lease_on f v.client.leases)) ≡ true → ⊥
        not-through w f b bytes same e through =
            let same_file : f ≡ file = cc in
            let off : w.through ≡ false = ap (λ (x : UnderWay). x.through) same ∙ delayed in
            let held : lease_on f v.client.leases ≡ None = ap (λ g. lease_on g v.client.leases) same_file ∙ lease in
            let no : (w.through || shares_live v.client.now (lease_on f v.client.leases)) ≡ false = rw (off, held) refl in
            let bad : true ≡ false = sym through ∙ no in
            cc

        again : (f b : ℕ) (bytes : List ℕ) → Call.Write f b bytes ≡ Call.Write file block body
            → Result (sends_request v for_call (Request.GetLease v.client.who f (want_of v.client Mode.Writing)))
        again f b bytes e =
            let same_file : f ≡ file = cc in
            same-request v _ xid now sends (ap (λ g. Request.GetLease v.client.who g (want_of v.client Mode.Writing)) same_file ∙ wants-lease request)

    sent-of : settle v ≡ v → Sent (send_next false v) → Result (send_next false (settle v))
    unfolding Sent
    sent-of same sent =
        let calm : v.client.pause ≤ v.client.now = let n = now in let w = pause in let u = unpaused in omega arith in
        let asking : is_asking (send_next false v) ≡ true = asks-next false v u calls calm (subst (λ x. Settled x) same (settle-settles v)) delaying in
        subst (λ x. Result (send_next false x)) (sym same) (sent asking)

    reads-on : (block : ℕ) → u.call ≡ Call.Read file block → ticket.request ≡ Request.Read c.who u.q file block (Some (wanted c Mode.Reading))
        → Result (send_next false (settle v))
    reads-on block is request = sent-of (read-settled block is) (reads-again block is request)

    writes-on : (block : ℕ) (body : List ℕ) → u.call ≡ Call.Write file block body → u.through ≡ false → ticket.request ≡ Request.GetLease c.who file
        (wanted c Mode.Writing) → Result (send_next false (settle v))
    writes-on block body is delayed request = sent-of (write-settled block body is) (writes-again block body is delayed request)

    -- the call is a `read` or a `write`, as the request says
    by-request : (r : Request) → ticket.request ≡ r → wants_of file r ≡ true → Result (send_next false (settle v))
    by-request (Request.Read w q f b (Some want)) is e =
        let k = meant.reads w q f b want is in
        let same : f ≡ file = same-number f file (and_parts _ _ e).0 in
        let again : Request.Read w q f b (Some want) ≡ Request.Read c.who u.q f b (Some (wanted c Mode.Reading)) = sym is ∙ k.1 in
        reads-on b (subst (λ g. u.call ≡ Call.Read g b) same k.0) (subst (λ g. ticket.request ≡ Request.Read c.who u.q g b
        (Some (wanted c Mode.Reading))) same k.1)
    by-request (Request.Read w q f b None) is e = let no : wants_of file (Request.Read w q f b None) ≡ false = and-false (f == file) in
        absurd (let bad : true ≡ false = sym e ∙ no in cc)
      where
        and-false : (b : Bool) → (b && false) ≡ false
        and-false true = refl
        and-false false = refl
    by-request (Request.GetLease w f want) is e =
        let k = meant.leases w f want is in
        let same : f ≡ file = same-number f file e in
        writes-on k.0.block k.0.body (subst (λ g. u.call ≡ Call.Write g k.0.block k.0.body) same k.0.is) k.0.delayed
        (subst (λ g. ticket.request ≡ Request.GetLease c.who g (wanted c Mode.Writing)) same k.1)
    by-request other is e = absurd (cc)

  -- ---- a file with delayed writes: they are pushed first

  module _ (v : ClientStep) (n : Notice) (none : v.client.ticket ≡ None) (waits : notice_on file v.client.notices ≡ Some n) where
    kept : (t : ClientStep) → t ≡ v → ((settle t).client.ticket ≡ t.client.ticket) × ((settle t).client.notices ≡ t.client.notices)
    unfolding answers after_read reads_cached after_write marks_written
    kept t same = settle-moves t (λ x. (x.client.ticket ≡ t.client.ticket) × (x.client.notices ≡ t.client.notices)) (record {
      kept = (refl, refl);
      answered = λ x q answer so. so;
      read = λ w f b bytes. (refl, refl);
      delayed = λ f b bytes. (refl, refl);
      marked = λ x w so. so;
    })

    Pushes : ClientStep → Type 0
    Pushes t = (d : Client) → d ≡ t.client → Alone d → Result t

    stuck : (d : Client) → d.notices ≡ (settle v).client.notices → d.dirty ≡ (settle v).client.dirty → d.push ≡ (settle v).client.push → Alone d
        → ((k : Ticket) → d.ticket ≡ Some k → k.job ≡ pushing → ⊥) → NothingToPush (settle v).client → ⊥
    stuck d notices dirty push own other nothing =
        let idle = no-push d own other in
        let has_notice : notice_on file (settle v).client.notices ≡ Some n = ap (notice_on file) (kept v refl).1 ∙ waits in
        noticed-pushes (settle v).client.notices (settle v).client.dirty (settle v).client.push file n has_notice (sym push ∙ idle)
        (λ f m e. subst (λ q. is_clean_in f (settle v).client.dirty q ≡ false) push (subst (λ ps. is_clean_in f ps d.push ≡ false) dirty
        (own.delaying.noticed f m (ap (notice_on f) notices ∙ e))))
        nothing.noticed

    asked : (d : Client) (k : Ticket) → d.ticket ≡ Some k → k.job ≡ for_call → (x : Ticket) → d.ticket ≡ Some x → x.job ≡ pushing → ⊥
    asked d k is mine x e p = let same = some-same k x (sym is ∙ e) in let two : for_call ≡ pushing = sym mine ∙ ap (λ (y : Ticket). y.job) same ∙ p in cc

    pushes-first : Pushes (send_next false (settle v))
    unfolding Pushes Result takes_push after_seq after_number gives_up sends_request
    pushes-first = send-cases false (settle v) Pushes (record {
      stays_asking = λ k e d at own. none-some k (sym none ∙ sym (kept v refl).0 ∙ e);
      stays = λ free nothing d at own. absurd (stuck d (ap (λ (x : Client). x.notices) at) (ap (λ (x : Client). x.dirty) at)
          (ap (λ (x : Client). x.push) at) own (λ k e p. none-some k (sym free ∙ sym (ap (λ (x : Client). x.ticket) at) ∙ e)) nothing);
      pushing = λ f p free first same d at own. delayed_writes p free-push refl;
      creating = λ w name blocks free e d at own. absurd (stuck d (ap (λ (x : Client). x.notices) at) (ap (λ (x : Client). x.dirty) at)
          (ap (λ (x : Client). x.push) at) own (asked d _ (ap (λ (x : Client). x.ticket) at) refl) free.nothing);
      looking_up = λ w name free e d at own. absurd (stuck d (ap (λ (x : Client). x.notices) at) (ap (λ (x : Client). x.dirty) at)
          (ap (λ (x : Client). x.push) at) own (asked d _ (ap (λ (x : Client). x.ticket) at) refl) free.nothing);
      getting_attributes = λ w f free e d at own. absurd (stuck d (ap (λ (x : Client). x.notices) at) (ap (λ (x : Client). x.dirty) at)
          (ap (λ (x : Client). x.push) at) own (asked d _ (ap (λ (x : Client). x.ticket) at) refl) free.nothing);
      reading = λ w f b free e d at own. absurd (stuck d (ap (λ (x : Client). x.notices) at) (ap (λ (x : Client). x.dirty) at)
          (ap (λ (x : Client). x.push) at) own (asked d _ (ap (λ (x : Client). x.ticket) at) refl) free.nothing);
      fetching = λ w f b free e d at own. absurd (stuck d (ap (λ (x : Client). x.notices) at) (ap (λ (x : Client). x.dirty) at)
          (ap (λ (x : Client). x.push) at) own (asked d _ (ap (λ (x : Client). x.ticket) at) refl) free.nothing);
      writing = λ w f b bytes free e through d at own. absurd (stuck d (ap (λ (x : Client). x.notices) at) (ap (λ (x : Client). x.dirty) at)
          (ap (λ (x : Client). x.push) at) own (asked d _ (ap (λ (x : Client). x.ticket) at) refl) free.nothing);
      leasing = λ w f b bytes free e through shares d at own. absurd (stuck d (ap (λ (x : Client). x.notices) at) (ap (λ (x : Client). x.dirty) at)
          (ap (λ (x : Client). x.push) at) own (asked d _ (ap (λ (x : Client). x.ticket) at) refl) free.nothing);
      putting = λ w f b bytes free e written d at own. absurd (stuck d (ap (λ (x : Client). x.notices) at) (ap (λ (x : Client). x.dirty) at)
          (ap (λ (x : Client). x.push) at) own (asked d _ (ap (λ (x : Client). x.ticket) at) refl) free.nothing);
      resizing = λ w f blocks free e clean d at own. absurd (stuck d (ap (λ (x : Client). x.notices) at) (ap (λ (x : Client). x.dirty) at)
          (ap (λ (x : Client). x.push) at) own (asked d _ (ap (λ (x : Client). x.ticket) at) refl) free.nothing);
      removing = λ w f free e clean d at own. absurd (stuck d (ap (λ (x : Client). x.notices) at) (ap (λ (x : Client). x.dirty) at)
          (ap (λ (x : Client). x.push) at) own (asked d _ (ap (λ (x : Client). x.ticket) at) refl) free.nothing);
      renewing = λ f l ticks free nothing idle due held same clean unnoticed d at own. absurd (cc);
    })

  -- ---- both

  vacated-result : cancelled file c.ticket ≡ None → Result (goes_on (vacates_lease (cancels (begun c) file) file tag))
  unfolding vacates_lease cancels
  vacated-result none = by-request (vacates_lease (cancels (begun c) file) file tag) (no-lease file c.leases) has none refl refl refl refl refl refl
      (record {
        noticed = λ f n e. alone.delaying.noticed f n (notice-before-drop file f c.notices n e).1;
        under_way = λ p e.
            none-some p (sym free-push ∙ e);
        empty = alone.delaying.empty;
      })
      ticket.request refl wants

  noted-result : cancelled file c.ticket ≡ None → Alone (goes_on (notes_notice (cancels (begun c) file) file tag)).client
      → Result (goes_on (notes_notice (cancels (begun c) file) file tag))
  unfolding notes_notice cancels Pushes
  noted-result none after = pushes-first (notes_notice (cancels (begun c) file) file tag)
      (record { file = file; tag = noticed_tag tag (notice_on file c.notices) }) none
      (put-notice-found (record { file = file; tag = noticed_tag tag (notice_on file c.notices) }) file c.notices refl) _ refl after

  after-notice : Alone (goes_on (evicted (cancels (begun c) file) file tag)).client → Result (goes_on (evicted (cancels (begun c) file) file tag))
  after-notice own = evicted-cases (cancels (begun c) file) file tag (λ x. Alone (goes_on x).client → Result (goes_on x)) (record {
    clean = λ e after. vacated-result gone;
    waiting = λ e after. noted-result gone after;
  }) own

-- ---- in every run

pub sends-again : NoticesAreAnsweredAtOnce
unfolding Result
sends-again head events host c ticket k xid file tag t at asks cut hears = heard-cases c k (call xid (Request.Evicted c.who file tag)) t
    (SendsAgain c ticket file tag) hears (record {
      answered = λ x r s is sent own inc counts. absurd (let bad : call xid (Request.Evicted c.who file tag) ≡ Message.reply x r = is in cc);
      noticed = λ x f g is older. by x f g is;
    })
  where
    alone : Alone c
    alone = ((run-holds head events).clients host c at).alone

    parts : (is_for_call ticket.job ≡ true) × (wants_of file ticket.request ≡ true)
    parts = and_parts _ _ cut

    job-of : (j : Job) → is_for_call j ≡ true → j ≡ for_call
    job-of Job.for_call e = refl
    job-of Job.attaching e = let bad : false ≡ true = e in absurd (cc)
    job-of Job.renewing e = let bad : false ≡ true = e in absurd (cc)
    job-of Job.pushing e = let bad : false ≡ true = e in absurd (cc)

    job : ticket.job ≡ for_call
    job = job-of ticket.job parts.0

    called : (u : UnderWay) × (c.call ≡ Some u)
    called = there-is c.call (alone.asking.called ticket asks job)

    result : SendsAgain c ticket file tag (goes_on (evicted (cancels (begun c) file) file tag))
    result = paused (nat_le c.pause c.now) refl
      where
        paused : (b : Bool) → nat_le c.pause c.now ≡ b → SendsAgain c ticket file tag (goes_on (evicted (cancels (begun c) file) file tag))
        paused true e = after-notice c ticket called.0 file tag alone asks job parts.1 called.1 (requests-are-meant head events host c ticket called.0
            at asks job called.1) (is-at-most c.pause c.now e) (notice-keeps any-closed c file tag tt (λ g sent bad. bad) alone tt).alone
        paused false e = nothing_now (is-not-at-most c.pause c.now e)

    by : (x f : ℕ) (g : Tag) → call xid (Request.Evicted c.who file tag) ≡ call x (Request.Evicted c.who f g) → SendsAgain c ticket file tag
        (goes_on (evicted (cancels (begun c) f) f g))
    by x f g is =
        let a : file ≡ f = cc in
        let b : tag ≡ g = cc in
        subst (λ x. SendsAgain c ticket file tag (goes_on (evicted (cancels (begun c) x) x g))) a
        (subst (λ y. SendsAgain c ticket file tag (goes_on (evicted (cancels (begun c) file) file y))) b result)
