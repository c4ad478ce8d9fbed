-- What is known of a client before a step, as its delayed writes need it.
use Rattle.std.proofs.Common.{◌≡◌, ◌<◌, ℕ, ◌+◌, ◌-◌, true, false, nat_lt, List, Some, refl, sym, subst, ap, ◌∙◌, arith}
use Rattle.std.proofs.lemmas.Bool.{and_parts}
use Rattle.nq_base.specs.declared.Entry.{Entry}
use Rattle.nq_base.specs.declared.Event.{Event}
use Rattle.nq_base.specs.declared.Grant.{Grant}
use Rattle.nq_base.specs.declared.Mode.{Mode}
use Rattle.nq_base.specs.declared.Mode.TheVariants.{NonCaching, Reading, Writing}
use Rattle.nq_base.specs.declared.Push.{Push}
use Rattle.nq_base.specs.declared.Refusal.{Refusal}
use Rattle.nq_base.specs.declared.Reply.{Reply}
use Rattle.nq_base.specs.declared.Verdict.{Verdict}
use Rattle.walk_files.proofs.ChainFacts.{ChainFits}
use Rattle.walk_steps.proofs.ClientFacts.{push_in}
use Rattle.walk_files.proofs.FromChains.{takes-fit}
use Rattle.walk_files.proofs.RefusedPushes.{PushShape, push-shape}
use Rattle.walk_files.proofs.BoundRows.{IsBound, covered-bound}
use Rattle.walk_files.proofs.HoldingCalls.{HearsFit}
use Rattle.walk_files.proofs.Holdings.{IsHeldBound}
use Rattle.nq_model.specs.protocol.Client.{Client, Lease, Ticket, lease_on, lets_write}
use Rattle.nq_model.specs.protocol.Decide.{verdict_reply}
use Rattle.nq_model.specs.protocol.Hear.{inc_of, granted_lease, is_put_off}
use Rattle.nq_model.specs.protocol.Kept.{host_row}
use Rattle.nq_model.specs.laws.LeaseInterval.{claim_of, IsCovered, cover_end, grant_in, requested_file}
use Rattle.nq_model.specs.protocol.Message.{Packet, reply, sequence_of}
use Rattle.nq_model.specs.protocol.Server.{Server}
use Rattle.nq_model.specs.protocol.Table.{is_writing}
use Rattle.walk_steps.proofs.ClientSteps.{KnowsOf}
use Rattle.walk_steps.proofs.CoverFacts.{IsTakeable}
use Rattle.walk_steps.proofs.Packets.{Told}
use Rattle.walk_steps.proofs.Worlds.{IsAt}
use Rattle.walk_steps.proofs.ServerTables.{BootsFitOf, StandingFitsOf}
use Rattle.walk_steps.proofs.Modes.{writing-caches}
use Rattle.walk_steps.proofs.Tests.{is-below}

is-writing : (mode : Mode) → is_writing mode ≡ true → mode ≡ Writing
is-writing Writing e = refl
is-writing Reading e = absurd (cc)
is-writing NonCaching e = absurd (cc)

module _ (s : Server) (events : List Event) (host : ℕ) (c : Client) (ps : List Packet) (a : IsAt host c ps)
    (knows : KnowsOf (host_row s.kept host) s events c ps) where
  -- a writing lease that runs is bound
  pub live-bound : (file : ℕ) (l : Lease) → lease_on file c.leases ≡ Some l → lets_write c.now l ≡ true → IsBound s s.phase c.who file l.tag
  live-bound file l held lets =
      let both = and_parts (is_writing l.mode) (nat_lt c.now l.expiry) lets in
      let term = (a.alone.asking.leased file l held).term in
      let below : c.now < l.expiry = is-below c.now l.expiry both.1 in
      let until : ℕ = cover_end c.who.host (l.expiry - l.term) l.term events in
      covered-bound s s.phase c.who file l.tag until
      (subst (λ m. IsCovered s s.phase (claim_of c.who file m l.tag until)) (is-writing l.mode both.0)
      (knows.covered.held file l held (writing-caches l.mode both.0) (omega arith)))

  module _ (k : ChainFits s c ps) (boots : BootsFitOf s) (stands : StandingFitsOf s) (xid : ℕ) (r : Reply) (ticket : Ticket)
      (told : Told ps host (reply xid r)) (asked : c.ticket ≡ Some ticket) (same : xid ≡ ticket.xid) (inc : inc_of r ≡ c.who.inc) where
    takeable : (file : ℕ) (g : Grant) → requested_file ticket.request ≡ Some file → grant_in r ≡ Some g → IsTakeable ps c.who c.ticket file g ticket
    takeable file g on gives =
        record {
          x = xid;
          a = r;
          told = subst (λ n. Told ps n (reply xid r)) (sym a.here) told;
          inc = inc;
          asked = asked;
          number = sym same;
          on_file = on;
          gives = gives;
        }

    given-bound : (file : ℕ) (g : Grant) → IsTakeable ps c.who c.ticket file g ticket → lets_write c.now (granted_lease file g ticket.first) ≡ true
        → IsBound s s.phase c.who file g.tag
    unfolding granted_lease
    given-bound file g takes lets =
        let both = and_parts (is_writing g.mode) (nat_lt c.now (ticket.first + g.term)) lets in
        let below : c.now < ticket.first + g.term = is-below c.now (ticket.first + g.term) both.1 in
        let until : ℕ = cover_end c.who.host ticket.first g.term events in
        covered-bound s s.phase c.who file g.tag until
        (subst (λ m. IsCovered s s.phase (claim_of c.who file m g.tag until)) (is-writing g.mode both.0)
        (knows.covered.given file g ticket takes (writing-caches g.mode both.0) below))

    not-refused : (v : Verdict) (value inc status-inc : ℕ) (status : Refusal) (p : Push) (sh : PushShape ticket.request p) → v ≡ Verdict.Done
        → Reply.Refused status-inc status ≡ verdict_reply inc v value ticket.request → ⊥
    not-refused v value inc status-inc status p sh done e =
        let f : Reply.Refused status-inc status ≡ Reply.Write inc value = e ∙ ap (λ d. verdict_reply inc d value ticket.request) done
        ∙ ap (verdict_reply inc Verdict.Done value) sh.is in
        absurd (cc)

    module _ (h : (p : Push) → push_in ticket.request ≡ Some p → (n : ℕ) → sequence_of ticket.request ≡ Some n
        → (host_row s.kept c.who.host).inc ≡ c.who.inc → (host_row s.kept c.who.host).seq ≡ n
        → ((host_row s.kept c.who.host).verdict ≡ Verdict.Done → ⊥) → IsHeldBound s c.who c.leases p.file → ⊥) where
      unbound : (p : Push) (status-inc : ℕ) (status : Refusal) → push_in ticket.request ≡ Some p → r ≡ Reply.Refused status-inc status
          → is_put_off status ≡ false → IsHeldBound s c.who c.leases p.file → ⊥
      unbound p status-inc status pushes is off =
          let sh = push-shape ticket.request p pushes in
          let draws : sequence_of ticket.request ≡ Some sh.seq = ap sequence_of sh.is in
          let mine : Told ps c.who.host (reply xid r) = subst (λ n. Told ps n (reply xid r)) (sym a.here) told in
          let lined = subst (λ n. KnowsOf (host_row s.kept n) s events c ps) (sym a.here) knows in
          let decided = lined.lined.answered xid r mine inc ticket asked (sym same) sh.seq draws in
          let line_inc = decided.inc in
          let at_least = decided.decided in
          let drawn = k.line.drawn line_inc in
          let last = k.line.last ticket sh.seq asked draws in
          let says = k.line.replied xid r ticket sh.seq mine inc asked (sym same) draws in
          h p pushes sh.seq draws line_inc (omega arith)
          (λ done. not-refused (host_row s.kept c.who.host).verdict (host_row s.kept c.who.host).value c.who.inc status-inc status p sh done
          (sym is ∙ says))

      -- what is known of a reply that is heard
      pub hears-fit : (journal : List Entry) → HearsFit s journal c ticket r
      hears-fit journal = record {
        takes = λ file g on gives. let t = takeable file g on gives in takes-fit s c ps k boots stands file g ticket t (given-bound file g t);
        unbound = unbound;
      }
