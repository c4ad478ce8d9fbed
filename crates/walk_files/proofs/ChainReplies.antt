-- What is known of chained leases is kept where a client hears the reply to its request, or a notice.
use Rattle.std.proofs.Common.{◌≡◌, ◌≢◌, ℕ, ◌+◌, Bool, true, false, ◌&&◌, ◌==◌, List, Option, Some, None, refl, sym, subst, ap, ◌∙◌}
use Rattle.std.proofs.lemmas.Bool.{and_from}
use Rattle.nq_base.specs.declared.Answer.{Answer}
use Rattle.nq_base.specs.declared.Grant.{Grant}
use Rattle.nq_base.specs.declared.HostRow.{HostRow}
use Rattle.nq_base.specs.declared.PushBase.{PushBase}
use Rattle.nq_base.specs.declared.Refusal.{Refusal}
use Rattle.nq_base.specs.declared.Reply.{Reply}
use Rattle.nq_base.specs.declared.Request.{Request}
use Rattle.nq_base.specs.declared.Tag.{Tag}
use Rattle.nq_base.specs.declared.Value.{Value}
use Rattle.nq_base.specs.declared.Verdict.{Verdict}
use Rattle.nq_base.specs.declared.Who.{Who}
use Rattle.walk_files.proofs.ChainFacts.{line_for, done_at, rev_at, VerdictFits}
use Rattle.walk_files.proofs.ChainHears.{mid-tells}
use Rattle.walk_files.proofs.ChainLists.{unclean-ended, plain-undone}
use Rattle.walk_files.proofs.ChainMoves.{Ready, NotDone, mid-spent, mid-cancels}
use Rattle.walk_files.proofs.ChainSends.{view_of, MidOf}
use Rattle.nq_model.specs.laws.Chained.{is_done, has_done, due}
use Rattle.walk_steps.proofs.PartCases.{caches-write-cases}
use Rattle.walk_steps.proofs.RepliedCases.{OfCall, IsNamed, looked_up, created, attributes, replied-cases}
use Rattle.walk_steps.proofs.StepCases.{evicted-cases}
use Rattle.walk_steps.proofs.ClientFacts.{Alone, changes_file}
use Rattle.walk_steps.proofs.ClientMoves.{none-some}
use Rattle.nq_model.specs.protocol.Client.{Client, ClientStep, begun, Ticket, lease_on, is_clean}
use Rattle.nq_model.specs.protocol.Decide.{verdict_reply}
use Rattle.nq_model.specs.protocol.Hear.{answers_call, caches_block, purges, knows_revision, write_done, ends_push, spends, attached, replied, reply_counts}
use Rattle.nq_model.specs.protocol.Hear.{cancels, notes_notice, evicted}
use Rattle.nq_model.specs.laws.LeaseInterval.{grant_in, requested_file}
use Rattle.nq_model.specs.protocol.Message.{Packet, sequence_of}
use Rattle.nq_model.specs.protocol.Server.{Server}
use Rattle.walk_steps.proofs.Rows.{number-same}
use Rattle.nq_model.proofs.Finding.{number-other}
use Rattle.walk_files.proofs.ChainGrants.{mid-answered, mid-leased, mid-pauses, mid-pushed, mid-read, mid-refused, mid-takes-optional, mid-vacates}

-- ---- the reply to the request under way

-- a reply that tells a revision is that of a verdict that the write was done, with this value
tells-done : (inc i rev value : ℕ) (v : Verdict) (w : Who) (n file block first last : ℕ) (push : Option PushBase) (body : List ℕ)
    → Reply.Write i rev ≡ verdict_reply inc v value (Request.Write w n file block first last push body) → (is_done v ≡ true) × (rev ≡ value)
tells-done inc i rev value Verdict.Done w n file block first last push body e = (refl, cc)
tells-done inc i rev value Verdict.Fenced w n file block first last push body e = absurd (cc)
tells-done inc i rev value Verdict.Exist w n file block first last push body e = absurd (cc)
tells-done inc i rev value Verdict.NoSpace w n file block first last push body e = absurd (cc)
tells-done inc i rev value Verdict.Invalid w n file block first last push body e = absurd (cc)
tells-done inc i rev value Verdict.Stale w n file block first last push body e = absurd (cc)
tells-done inc i rev value Verdict.TryLater w n file block first last push body e = absurd (cc)

-- a refusal is that of another verdict
refused-undone : (inc i value : ℕ) (status : Refusal) (v : Verdict) (r : Request) (n : ℕ) → sequence_of r ≡ Some n
    → Reply.Refused i status ≡ verdict_reply inc v value r → is_done v ≡ false
refused-undone inc i value status Verdict.Done (Request.Create w seq name blocks) n sq e = absurd (cc)
refused-undone inc i value status Verdict.Done (Request.Write w seq file block first last push body) n sq e = absurd (cc)
refused-undone inc i value status Verdict.Done (Request.Resize w seq q file blocks) n sq e = absurd (cc)
refused-undone inc i value status Verdict.Done (Request.Remove w seq q file) n sq e = absurd (cc)
refused-undone inc i value status Verdict.Done other n sq e = absurd (cc)
refused-undone inc i value status Verdict.Fenced r n sq e = refl
refused-undone inc i value status Verdict.Exist r n sq e = refl
refused-undone inc i value status Verdict.NoSpace r n sq e = refl
refused-undone inc i value status Verdict.Invalid r n sq e = refl
refused-undone inc i value status Verdict.Stale r n sq e = refl
refused-undone inc i value status Verdict.TryLater r n sq e = refl

-- what is not done is done to no file
pub undone-file : (line : HostRow) (inc file : ℕ) (r : Request) → is_done line.verdict ≡ false → has_done line inc file r ≡ false
undone-file line inc file (Request.Write w seq f block first last push body) e =
    last-false (f == file) (line.inc == inc) (line.seq == seq) (is_done line.verdict) e
  where
    last-false : (a b c d : Bool) → d ≡ false → (a && b && c && d) ≡ false
    last-false true true true d e = e
    last-false true true false d e = refl
    last-false true false c d e = refl
    last-false false b c d e = refl
undone-file line inc file other e = refl

-- what was done to one file was done to no other
done-here : (line : HostRow) (inc seq file block first last : ℕ) (w : Who) (push : Option PushBase) (body : List ℕ) → line.inc ≡ inc → line.seq ≡ seq
    → is_done line.verdict ≡ true → has_done line inc file (Request.Write w seq file block first last push body) ≡ true
done-here line inc seq file block first last w push body same kept done =
    and_from _ _ (and_from _ _ (and_from _ _ (number-same file file refl) (number-same line.inc inc same)) (number-same line.seq seq kept)) done

done-there : (line : HostRow) (inc seq file g block first last : ℕ) (w : Who) (push : Option PushBase) (body : List ℕ) → g ≢ file
    → has_done line inc g (Request.Write w seq file block first last push body) ≡ false
done-there line inc seq file g block first last w push body apart =
    let differs : (file == g) ≡ false = number-other file g (λ e. apart (sym e)) in rw differs refl

-- what is known of the reply
pub record Answered (s : Server) (ps : List Packet) (c : Client) (ticket : Ticket) (r : Reply) : Type 0 where
  pub asked : c.ticket ≡ Some ticket
  pub alone : Alone c
  pub counts : reply_counts r ticket ≡ true
  pub decided : (n : ℕ) → sequence_of ticket.request ≡ Some n
      → ((line_for s.kept c.who).inc ≡ c.who.inc) × ((line_for s.kept c.who).seq ≡ n)
      × (r ≡ verdict_reply c.who.inc (line_for s.kept c.who).verdict (line_for s.kept c.who).value ticket.request)
  pub ready : (file : ℕ) (g : Grant) → requested_file ticket.request ≡ Some file → grant_in r ≡ Some g → Ready s (view_of (begun c)) file g ticket.first

module _ (s : Server) (ps : List Packet) (c : Client) (number : ℕ) (ticket : Ticket) (r : Reply) (h : MidOf s ps (begun c))
    (k : Answered s ps c ticket r) where
  abbrev line : HostRow
  line = line_for s.kept c.who

  -- the request was not done to any file
  undone-as : (q : Request) → ticket.request ≡ q → ((file : ℕ) → has_done line c.who.inc file q ≡ false) → NotDone s ps (view_of (begun c))
  undone-as q is undone file = ap (λ o. done_at s.kept c.who o file) k.asked ∙ ap (has_done line c.who.inc file) is ∙ undone file

  mid-unasked : NotDone s ps (view_of (begun c)) → MidOf s ps (spends (begun c))
  unfolding spends
  mid-unasked undone = mid-spent s ps (view_of (begun c)) undone h

  spent-free : (spends (begun c)).client.ticket ≡ None
  unfolding spends
  spent-free = refl

  plain : (q : Request) → ticket.request ≡ q → sequence_of q ≡ None → MidOf s ps (spends (begun c))
  plain q is none = mid-unasked (undone-as q is (λ file. plain-undone line c.who.inc file q none))

  -- a refusal
  refused-plain : (inc : ℕ) (status : Refusal) → r ≡ Reply.Refused inc status → MidOf s ps (spends (begun c))
  refused-plain inc status is = mid-unasked (undone-as ticket.request refl (λ file. step (sequence_of ticket.request) refl file))
    where
      step : (o : Option ℕ) → sequence_of ticket.request ≡ o → (file : ℕ) → has_done line c.who.inc file ticket.request ≡ false
      step None e file = plain-undone line c.who.inc file ticket.request e
      step (Some n) e file =
          let d = k.decided n e in undone-file line c.who.inc file ticket.request
          (refused-undone c.who.inc inc line.value status line.verdict ticket.request n e (sym is ∙ d.2))

  ready-spent : (file : ℕ) (g : Grant) → requested_file ticket.request ≡ Some file → grant_in r ≡ Some g
      → Ready s (view_of (spends (begun c))) file g ticket.first
  unfolding spends
  ready-spent file g on gives = let y = k.ready file g on gives in record { fits = y.fits; live = y.live }

  -- a write that went through
  mid-wrote : (w : Who) (seq file block first last : ℕ) (body : List ℕ) (inc rev : ℕ)
      → OfCall ticket (Request.Write w seq file block first last None body) → r ≡ Reply.Write inc rev
      → MidOf s ps (knows_revision (spends (begun c)) file rev)
  unfolding spends knows_revision
  mid-wrote w seq file block first last body inc rev of is = mid-tells s ps (view_of (begun c)) file rev c.push (record {
    chained = λ l row e caching chained.
        let f = h.held.chained file l row e caching chained in
        told.1 ∙ f.value done ∙ f.revision;
    unclean = λ dirty. let clean = h.writes.through ticket w seq file block first last body k.asked of.job of.asks in absurd (cc);
    others =
        λ g apart. ap (λ o. done_at s.kept c.who o g) k.asked ∙ ap (has_done line c.who.inc g) of.asks
        ∙ done-there line c.who.inc seq file g block first last w None body apart;
    fewer = λ g u. u;
  }) h
    where
      d : ((line_for s.kept c.who).inc ≡ c.who.inc) × ((line_for s.kept c.who).seq ≡ seq)
          × (r ≡ verdict_reply c.who.inc (line_for s.kept c.who).verdict (line_for s.kept c.who).value ticket.request)
      d = k.decided seq (ap sequence_of of.asks)

      told : (is_done line.verdict ≡ true) × (rev ≡ line.value)
      told =
          tells-done c.who.inc inc rev line.value line.verdict w seq file block first last None body
          (sym is ∙ d.2 ∙ ap (verdict_reply c.who.inc line.verdict line.value) of.asks)

      done : done_at s.kept c.who c.ticket file ≡ true
      done =
          ap (λ o. done_at s.kept c.who o file) k.asked ∙ ap (has_done line c.who.inc file) of.asks
          ∙ done-here line c.who.inc seq file block first last w None body d.0 d.1 told.0

  fits-done : (w : Who) (seq file block first last : ℕ) (base : PushBase) (body : List ℕ) (v : Verdict) (value : ℕ) → is_done v ≡ true
      → VerdictFits (Request.Write w seq file block first last (Some base) body) v value → value ≡ base.base + 1
  fits-done w seq file block first last base body Verdict.Done value d fits = fits
  fits-done w seq file block first last base body other value d fits = absurd (cc)

  -- a push that was done
  mid-stored : (w : Who) (seq file block first last : ℕ) (base : PushBase) (body : List ℕ) (inc rev : ℕ)
      → ticket.request ≡ Request.Write w seq file block first last (Some base) body → r ≡ Reply.Write inc rev
      → MidOf s ps (knows_revision (ends_push (spends (begun c))) file rev)
  unfolding spends knows_revision ends_push
  mid-stored w seq file block first last base body inc rev asks is = mid-tells s ps (view_of (begun c)) file rev None (record {
    chained = λ l row e caching chained. next;
    unclean = λ dirty. next;
    others =
        λ g apart. ap (λ o. done_at s.kept c.who o g) k.asked ∙ ap (has_done line c.who.inc g) asks
        ∙ done-there line c.who.inc seq file g block first last w (Some base) body apart;
    fewer = λ g u. unclean-ended g c.dirty c.push u;
  }) h
    where
      d : ((line_for s.kept c.who).inc ≡ c.who.inc) × ((line_for s.kept c.who).seq ≡ seq)
          × (r ≡ verdict_reply c.who.inc (line_for s.kept c.who).verdict (line_for s.kept c.who).value ticket.request)
      d = k.decided seq (ap sequence_of asks)

      told : (is_done line.verdict ≡ true) × (rev ≡ line.value)
      told =
          tells-done c.who.inc inc rev line.value line.verdict w seq file block first last (Some base) body
          (sym is ∙ d.2 ∙ ap (verdict_reply c.who.inc line.verdict line.value) asks)

      done : done_at s.kept c.who c.ticket file ≡ true
      done =
          ap (λ o. done_at s.kept c.who o file) k.asked ∙ ap (has_done line c.who.inc file) asks
          ∙ done-here line c.who.inc seq file block first last w (Some base) body d.0 d.1 told.0

      value : line.value ≡ base.base + 1
      value =
          fits-done w seq file block first last base body line.verdict line.value told.0
          (subst (λ q. VerdictFits q line.verdict line.value) asks (h.line.decided ticket seq k.asked (ap sequence_of asks) d.0 d.1))

      next : rev ≡ due (done_at s.kept c.who c.ticket file) (rev_at c.revisions file)
      next =
          let p = h.writes.pushed ticket w seq file block first last base body k.asked asks in
          told.1 ∙ value ∙ ap (λ n. n + 1) p.rev ∙ sym (ap (λ b. due b (rev_at c.revisions file)) done)

  -- a file got another length
  mid-resized : (w : Who) (seq q file blocks rev : ℕ) → ticket.request ≡ Request.Resize w seq q file blocks
      → MidOf s ps (knows_revision (spends (begun c)) file rev)
  unfolding spends knows_revision
  mid-resized w seq q file blocks rev asks = mid-tells s ps (view_of (begun c)) file rev c.push (record {
    chained = λ l row e caching chained. none-some l (sym none ∙ e);
    unclean = λ dirty. let l = h.writes.held file dirty in none-some l.0 (sym none ∙ l.1);
    others = λ g apart. ap (λ o. done_at s.kept c.who o g) k.asked ∙ ap (has_done line c.who.inc g) asks;
    fewer = λ g u. u;
  }) h
    where
      none : lease_on file c.leases ≡ None
      none = k.alone.asking.changed ticket file k.asked (ap changes_file asks)

  spent-call : (spends (begun c)).client.call ≡ c.call
  unfolding spends
  spent-call = refl

  spent-clean : (file : ℕ) → is_clean (spends (begun c)).client file ≡ is_clean c file
  unfolding spends
  spent-clean file = refl

  known-free : (file rev : ℕ) → (knows_revision (spends (begun c)) file rev).client.ticket ≡ None
  unfolding spends knows_revision
  known-free file rev = refl

  attached-mid : (t : ClientStep) → MidOf s ps t → MidOf s ps (attached t)
  unfolding attached
  attached-mid t h = h

  wrote-mid : (t : ClientStep) (file block : ℕ) (body : List ℕ) (rev : ℕ) → MidOf s ps (knows_revision t file rev)
      → (knows_revision t file rev).client.ticket ≡ None → MidOf s ps (write_done t file block body rev)
  unfolding knows_revision caches_block purges
  wrote-mid t file block body rev h free =
      caches-write-cases t file block body rev (λ u. MidOf s ps (answers_call (knows_revision u file rev) (Answer.Ok Value.Nothing) None))
      (λ caching before. mid-answered s ps (knows_revision (caches_block t file block body) file rev) (Answer.Ok Value.Nothing) None free h)
      (mid-answered s ps (knows_revision (purges t file) file rev) (Answer.Ok Value.Nothing) None free h)

  named-undone : (answer : Answer) → IsNamed ticket.request r answer → MidOf s ps (spends (begun c))
  named-undone answer (looked_up w name inc file blocks asks is) = plain _ asks refl
  named-undone answer (created w seq name blocks inc file asks is) = mid-unasked (undone-as _ asks (λ file. refl))
  named-undone answer (attributes w file inc blocks rev asks is) = plain _ asks refl

  given : (grant : Option Grant) (file : ℕ) → requested_file ticket.request ≡ Some file → grant_in r ≡ grant → (g : Grant) → grant ≡ Some g
      → Ready s (view_of (spends (begun c))) file g ticket.first
  given grant file on is g e = ready-spent file g on (is ∙ e)

  -- what is known is known after the reply
  pub mid-replied : MidOf s ps (replied (begun c) number ticket r)
  mid-replied = replied-cases c number ticket r (MidOf s ps) (k.alone.asking.ticketed ticket k.asked).fits k.counts (record {
    attaching = λ w inc job asks is. attached-mid (spends (begun c)) (plain _ asks refl);
    named = λ answer job named. mid-answered s ps (spends (begun c)) answer None spent-free (named-undone answer named);
    reading =
        λ w q file block want inc rev body grant of is. mid-read s ps (spends (begun c)) file block body grant ticket.first number spent-free
        (given grant file (ap requested_file of.asks) (ap grant_in is)) (plain _ of.asks refl);
    leasing = λ w file want inc grant of is.
        let l = h.writes.leased ticket w file want k.asked of.job of.asks in
        mid-leased s ps (spends (begun c)) file grant ticket.first l.0 spent-free (given grant file (ap requested_file of.asks) (ap grant_in is))
        (spent-call ∙ l.1) l.2 (spent-clean file ∙ l.3) (plain _ of.asks refl);
    writing =
        λ w seq file block first last body inc rev of is. wrote-mid (spends (begun c)) file block body rev
        (mid-wrote w seq file block first last body inc rev of is) (known-free file rev);
    resizing =
        λ w seq q file blocks inc rev of is. mid-answered s ps (knows_revision (spends (begun c)) file rev) _ None (known-free file rev)
        (mid-resized w seq q file blocks rev of.asks);
    removing = λ w seq q file inc of is. mid-answered s ps (spends (begun c)) _ None spent-free (mid-unasked (undone-as _ of.asks (λ file. refl)));
    renewing =
        λ w file want inc grant job asks is.
        (mid-takes-optional s ps (spends (begun c)) file grant ticket.first spent-free (given grant file (ap requested_file asks) (ap grant_in is))
        (plain _ asks refl)).mid;
    pushed =
        λ w seq file block first last base body inc rev job asks is. mid-pushed s ps (spends (begun c)) file block body rev
        (mid-stored w seq file block first last base body inc rev asks is);
    putting_off = λ inc status job is off. mid-pauses s ps (spends (begun c)) spent-free (refused-plain inc status is);
    refusing = λ inc status job is counts on. mid-answered s ps (spends (begun c)) _ None spent-free (refused-plain inc status is);
    renewal_refused = λ inc status job is off. refused-plain inc status is;
    push_refused =
        λ w seq file block first last base body inc status job asks is off. mid-refused s ps (spends (begun c)) file spent-free
        (refused-plain inc status is);
  })

-- ---- a notice

module _ (s : Server) (ps : List Packet) where
  cancelled-mid : (t : ClientStep) (file : ℕ) → MidOf s ps t → MidOf s ps (cancels t file)
  unfolding cancels
  cancelled-mid t file h = mid-cancels s ps (view_of t) file h

  noted-mid : (t : ClientStep) (file : ℕ) (tag : Tag) → MidOf s ps t → MidOf s ps (notes_notice t file tag)
  unfolding notes_notice
  noted-mid t file tag h = h

  pub mid-evicted : (t : ClientStep) (file : ℕ) (tag : Tag) → MidOf s ps t → MidOf s ps (evicted (cancels t file) file tag)
  mid-evicted t file tag h = evicted-cases (cancels t file) file tag (MidOf s ps) (record {
    clean = λ clean. mid-vacates s ps (cancels t file) file tag clean (cancelled-mid t file h);
    waiting = λ dirty. noted-mid (cancels t file) file tag (cancelled-mid t file h);
  })
