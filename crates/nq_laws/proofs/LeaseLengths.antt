-- In every run a lease that runs tells the length that its file has at the server, and so does a grant of which the lease would run.
use Rattle.std.proofs.Common.{◌≡◌, ◌<◌, ℕ, ◌+◌, ◌==◌, true, Some, refl, sym, subst, ap, ◌∙◌}
use Rattle.std.proofs.lemmas.Bool.{and_parts, and_from}
use Rattle.std.specs.Prelude.{◌-◌, ◌&&◌, Bool, List, nat_lt}
use Rattle.nq_base.specs.declared.Event.{Event}
use Rattle.nq_base.specs.declared.Grant.{Grant}
use Rattle.nq_base.specs.declared.HostRow.{HostRow}
use Rattle.nq_base.specs.declared.Mode.{Mode}
use Rattle.nq_base.specs.declared.Reply.{Reply}
use Rattle.nq_base.specs.declared.Request.{Request}
use Rattle.nq_base.specs.declared.Row.{Row}
use Rattle.nq_base.specs.declared.Tag.{Tag}
use Rattle.nq_base.specs.declared.Who.{Who}
use Rattle.law_runs.proofs.ChainWorlds.{chains-know}
use Rattle.law_runs.proofs.CachedReads.{covered-chained}
use Rattle.nq_laws.proofs.RunTells.{HadSo, IsTrue, all-true}
use Rattle.nq_model.specs.laws.AnswersTellWhatWas.{HasLength}
use Rattle.nq_model.specs.laws.Bounds.{KeepsBounds}
use Rattle.nq_model.specs.laws.Chained.{IsChained, KnowsFile}
use Rattle.nq_model.specs.protocol.Client.{Client, Ticket, lease_on, lets_read, is_live}
use Rattle.nq_model.specs.protocol.Hear.{granted_lease, inc_of, is_of_procedure, is_reply_to, reply_counts}
use Rattle.nq_model.specs.laws.LeaseInterval.{CanTake, IsCovered, claim_of, cover_end, grant_in, requested_file}
use Rattle.nq_model.specs.protocol.Message.{reply}
use Rattle.nq_model.specs.laws.RepliesTellWhatWas.{Once}
use Rattle.nq_model.specs.protocol.Server.{standing, to_host}
use Rattle.nq_model.specs.protocol.Skew.{IsWithinSkew}
use Rattle.nq_model.specs.protocol.Table.{caches}
use Rattle.nq_model.specs.protocol.World.{Head, World, run}
use Rattle.walk_steps.proofs.ClientEntries.{IsGranting, by_read, by_lease, IsLending}
use Rattle.walk_steps.proofs.LeaseIntervals.{kept-in-every-run}
use Rattle.walk_steps.proofs.Packets.{Asked, Told as ToldTo}
use Rattle.walk_steps.proofs.Places.{in-place}
use Rattle.walk_steps.proofs.Rows.{same-number, number-same, find-passes}
use Rattle.walk_steps.proofs.RunCases.{client_at}
use Rattle.walk_steps.proofs.RunningLeases.{Lent}
use Rattle.walk_steps.proofs.Tests.{is-below}
use Rattle.walk_steps.proofs.Worlds.{IsAt, run-holds}

-- the reply to a client's request
pub own-reply : (head : Head) (events : List Event) (host xid : ℕ) (c : Client) (r : Reply) (ticket : Ticket) → client_at head events host ≡ Some c
    → ToldTo (run head events).packets host (reply xid r) → c.ticket ≡ Some ticket → xid ≡ ticket.xid → inc_of r ≡ c.who.inc
    → Once (HadSo host xid r ticket.request) head events
own-reply head events host xid c r ticket is sent has same inc =
    subst (λ q. Once (HadSo host xid r q) head events) (sym own) true_reply.was
  where
    at : IsAt host c (run head events).packets
    at = (run-holds head events).clients host c is

    true_reply : IsTrue head events host xid r
    true_reply = (all-true head events).replies host xid r sent

    own : ticket.request ≡ true_reply.asks
    own =
        (at.mail.asked xid true_reply.asks true_reply.who (subst (λ h. Asked (run head events).packets h xid true_reply.asks) (sym at.here)
        true_reply.sent) true_reply.by).same (sym true_reply.inc ∙ inc) ticket has (sym same)

-- the length of a file that somebody knows is kept
length-kept : (w : World) (line : HostRow) (held mode : Mode) (file rev blocks : ℕ) (done : Bool)
    → KnowsFile w.server.kept line held mode file rev blocks done → HasLength file blocks w
length-kept w line held mode file rev blocks done k =
    (k.f.rev, record { file = k.f; found = k.found; has_length = k.length; has_rev = refl })

-- a reply that brings a grant counts
granting-counts : (ticket : Ticket) (r : Reply) (file : ℕ) (g : Grant) → IsGranting ticket.request r file g → reply_counts r ticket ≡ true
granting-counts ticket r file g (by_read who q block want inc rev body is e) =
    subst (λ b. reply_counts b ticket ≡ true) (sym e) (ap (is_of_procedure (Reply.Read inc rev body (Some g))) is)
granting-counts ticket r file g (by_lease who want inc is e) =
    subst (λ b. reply_counts b ticket ≡ true) (sym e) (ap (is_of_procedure (Reply.GetLease inc (Some g))) is)

granting-brings : (asks : Request) (r : Reply) (file : ℕ) (g : Grant) → IsGranting asks r file g
    → (grant_in r ≡ Some g) × (requested_file asks ≡ Some file)
granting-brings asks r file g (by_read who q block want inc rev body is e) = (ap grant_in e, ap requested_file is)
granting-brings asks r file g (by_lease who want inc is e) = (ap grant_in e, ap requested_file is)

counts-to : (c : Client) (xid : ℕ) (r : Reply) (ticket : Ticket) → xid ≡ ticket.xid → inc_of r ≡ c.who.inc → reply_counts r ticket ≡ true
    → is_reply_to c xid r ticket ≡ true
counts-to c xid r ticket same inc counts =
    let a : (xid == ticket.xid) ≡ true = number-same xid ticket.xid same in
    let b : (inc_of r == c.who.inc) ≡ true = number-same (inc_of r) c.who.inc inc in
    and_from ((xid == ticket.xid) && (inc_of r == c.who.inc)) (reply_counts r ticket) (and_from (xid == ticket.xid) (inc_of r == c.who.inc) a b) counts

-- a lease that would run
lending-runs : (now sent file : ℕ) (g : Grant) → lets_read now (granted_lease file g sent) ≡ true → (caches g.mode ≡ true) × (now < sent + g.term)
unfolding granted_lease
lending-runs now sent file g lets =
    let both = and_parts (caches g.mode) (nat_lt now (sent + g.term)) lets in (both.0, is-below now (sent + g.term) both.1)

module _ (most : ℕ) (head : Head) (events : List Event) (bounds : KeepsBounds most head events) (within : IsWithinSkew head.hosts most events) where
  abbrev w : World
  w = run head events

  -- what a client's lease or grant claims stands in a row
  chained : (who : Who) (file : ℕ) (mode : Mode) (tag : Tag) (until : ℕ) → IsCovered w.server w.server.phase (claim_of who file mode tag until)
      → (row : Row) × IsChained (standing w.server) who file tag row
  chained who file mode tag until covers = covered-chained w.server w.server.phase who file mode tag until covers

  -- a lease that runs tells the length of its file
  pub leases-lent : (host : ℕ) (c : Client) → client_at head events host ≡ Some c → Lent (λ file blocks. HasLength file blocks w) c.now c.leases
  leases-lent host c is file l found lets =
      let of : l.file ≡ file = same-number l.file file (find-passes (λ z. z.file == file) l c.leases found) in
      let own : lease_on l.file c.leases ≡ Some l = ap (λ n. lease_on n c.leases) of ∙ found in
      let both = and_parts (caches l.mode) (is_live c.now l) lets in
      let row = chained c.who l.file l.mode l.tag (cover_end host (l.expiry - l.term) l.term events)
      ((kept-in-every-run most head events bounds within).held host c l is own both.0 (is-below c.now l.expiry both.1)) in
      let k = ((chains-know most head events bounds within).held host c l row.0 is own both.0 row.1).knows in
      subst (λ n. HasLength n l.blocks w) of (length-kept w _ _ _ l.file _ l.blocks _ k)

  -- the reply to the request under way, which brings a grant, can be taken
  takes : (host xid : ℕ) (c : Client) (r : Reply) (ticket : Ticket) (file : ℕ) (g : Grant) → ToldTo w.packets host (reply xid r)
      → c.ticket ≡ Some ticket → xid ≡ ticket.xid → inc_of r ≡ c.who.inc → IsGranting ticket.request r file g → CanTake w host c ticket file g
  takes host xid c r ticket file g sent has same inc by =
      let at = in-place w.packets (to_host host (reply xid r)) sent in
      let brings = granting-brings ticket.request r file g by in
      record {
        k = at.0;
        packet = to_host host (reply xid r);
        xid = xid;
        answer = r;
        sent = at.2;
        for_host = refl;
        brings = refl;
        asked = has;
        counts = counts-to c xid r ticket same inc (granting-counts ticket r file g by);
        grants = brings.0;
        on_file = brings.1;
      }

  -- where the lease would run, the grant tells the length of its file
  pub grant-lent : (host xid : ℕ) (c : Client) (r : Reply) (ticket : Ticket) (file : ℕ) (g : Grant) → client_at head events host ≡ Some c
      → ToldTo w.packets host (reply xid r) → c.ticket ≡ Some ticket → xid ≡ ticket.xid → inc_of r ≡ c.who.inc
      → IsLending c.now ticket.first ticket.request r file g → HasLength file g.blocks w
  grant-lent host xid c r ticket file g is sent has same inc lends =
      let can : CanTake w host c ticket file g = takes host xid c r ticket file g sent has same inc lends.0 in
      let runs = lending-runs c.now ticket.first file g lends.1 in
      let row = chained c.who file g.mode g.tag (cover_end host ticket.first g.term events)
      ((kept-in-every-run most head events bounds within).takeable host c ticket file g is can runs.0 runs.1) in
      let k = (chains-know most head events bounds within).takeable host c ticket file g row.0 is can runs.0 row.1 in
      length-kept w _ _ _ file _ g.blocks _ k
