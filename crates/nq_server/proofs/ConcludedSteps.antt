-- A request that was decided is answered.
use Rattle.std.proofs.Common.{◌≡◌, ℕ, Bool, true, false, List, [], ◌∷◌, ◌++◌, Some, None, map, refl, sym, ap, subst, ◌∙◌, append-nil}
use Rattle.std.proofs.lemmas.List.Elements.{All-nil, All-push}
use Rattle.std.specs.Prelude.{All, reverse}
use Rattle.nq_base.specs.declared.Decided.{Decided}
use Rattle.nq_base.specs.declared.Decided.TheVariants.{Fresh, Again, Old, OldIncarnation, NotAttached, OutOfBounds}
use Rattle.nq_base.specs.declared.Reply.{Reply as Answer}
use Rattle.nq_base.specs.declared.Request.{Request}
use Rattle.nq_base.specs.declared.Verdict.{Verdict}
use Rattle.nq_base.specs.declared.Who.{Who}
use Rattle.nq_datagrams.specs.Messages.{FitsMessage}
use Rattle.nq_datagrams.specs.Sent.{FitsPacket, sent}
use Rattle.nq_base.specs.Entries.{EntryList}
use Rattle.nq_model.specs.protocol.Decided.{aside, decided_answer, decided_step, fresh_step}
use Rattle.nq_model.specs.protocol.Message.{Packet, reply}
use Rattle.nq_model.specs.protocol.Server.{Phase, Server, says, drops, to_host}
use Rattle.nq_model.specs.protocol.Table.{Table}
use Rattle.nq_server.proofs.DecidedSteps.{warned}
use Rattle.nq_server.proofs.PushedPackets.{behind-notices, one-sent}
use Rattle.nq_server.specs.declared.received.EventTaken.TheVariants as took
use Rattle.nq_server.specs.Deciding.{DoesAside, DoesIfFresh, Concludes, answer_to, is_later, is_put_off, dropped_for, warnings, warnings_if}
use Rattle.nq_server.specs.State.{Beside, beside}
use Rattle.nq_server.specs.Stepping.{Sends}
use Rattle.nq_wire.specs.Outbox.{Datagrams}

-- a server's state is that of its parts
beside-is : (a : Beside) (phase : Phase) (table : Table) (longest notice time : ℕ) → a.phase ≡ phase → a.table ≡ table → a.longest ≡ longest
    → a.notice ≡ notice → a.time ≡ time → a ≡ record { phase = phase; table = table; longest = longest; notice = notice; time = time }
beside-is a phase table longest notice time p t l n m =
    ap (λ x. record { phase = x; table = a.table; longest = a.longest; notice = a.notice; time = a.time }) p
    ∙ ap (λ x. record { phase = phase; table = x; longest = a.longest; notice = a.notice; time = a.time }) t
    ∙ ap (λ x. record { phase = phase; table = table; longest = x; notice = a.notice; time = a.time }) l
    ∙ ap (λ x. record { phase = phase; table = table; longest = longest; notice = x; time = a.time }) n
    ∙ ap (λ x. record { phase = phase; table = table; longest = longest; notice = notice; time = x }) m

-- one that is fresh
concluded-fresh : (s : Server) (who : Who) (xid : ℕ) (r : Request) (verdict : Verdict) (value : ℕ) (after : Beside) (out out' : Datagrams)
    (entries log log' : EntryList) → DoesAside (aside s who r verdict) (beside s) after log log' → log.entries ≡ entries.entries
    → Sends (warnings_if (is_later verdict) (warnings s who r) ++ to_host who.host (reply xid (decided_answer who.inc verdict value r)) ∷ []) out out'
    → Concludes (decided_step s who xid r (Fresh verdict value)) took.Done after out out' entries log'
unfolding fresh_step
concluded-fresh s who xid r verdict value after out out' entries log log' does same said = record {
  outcome = refl;
  makes = record {
    holds = beside-is after (aside s who r verdict).phase (aside s who r verdict).table s.longest (aside s who r verdict).notice s.now does.phase
        does.table does.longest does.notice does.time;
    sends = subst (λ packets. Sends (packets ++ to_host who.host (reply xid (decided_answer who.inc verdict value r)) ∷ []) out out')
        (sym (warned s who r verdict)) said;
    enters = does.entries ∙ ap (λ l. l ++ reverse (aside s who r verdict).entries) same;
  };
}

-- one that is not, and is answered alone
concluded-says : (s : Server) (host xid : ℕ) (answer : Answer) (out out' : Datagrams) (entries log : EntryList) → log.entries ≡ entries.entries
    → Sends (to_host host (reply xid answer) ∷ []) out out' → Concludes (says s host (reply xid answer)) took.Done (beside s) out out' entries log
unfolding says
concluded-says s host xid answer out out' entries log same said = record {
  outcome = refl;
  makes = record { holds = refl; sends = said; enters = same ∙ sym (append-nil _) };
}

-- one that is dropped
pub concluded-drop : (s : Server) (who : Who) (xid : ℕ) (r : Request) (d : Decided) (out out' : Datagrams) (entries log : EntryList)
    → answer_to who r d ≡ None → out'.first ≡ out.first → out'.datagrams ≡ out.datagrams ++ map sent (warnings_if (is_put_off d) (warnings s who r))
    → log.entries ≡ entries.entries → Concludes (decided_step s who xid r d) (took.Dropped (dropped_for d)) (beside s) out out' entries log
unfolding drops
concluded-drop s who xid r (Fresh verdict value) out out' entries log none first sends same = absurd (cc)
concluded-drop s who xid r (Again verdict value) out out' entries log none first sends same = absurd (cc)
concluded-drop s who xid r Old out out' entries log none first sends same = absurd (cc)
concluded-drop s who xid r NotAttached out out' entries log none first sends same = absurd (cc)
concluded-drop s who xid r OldIncarnation out out' entries log none first sends same = record {
  outcome = refl;
  makes = record { holds = refl; sends = record { first = first; added = sends; fit = All-nil FitsPacket }; enters = same ∙ sym (append-nil _) };
}
concluded-drop s who xid r OutOfBounds out out' entries log none first sends same = record {
  outcome = refl;
  makes = record { holds = refl; sends = record { first = first; added = sends; fit = All-nil FitsPacket }; enters = same ∙ sym (append-nil _) };
}

-- notices fit where they may be sent
warnings-fit : (b : Bool) (packets : List Packet) → All FitsPacket packets → All FitsPacket (warnings_if b packets)
warnings-fit true packets fit = fit
warnings-fit false packets fit = All-nil FitsPacket

-- a request is not fresh
abbrev pub IsPast : Decided → Type 0
IsPast (Fresh verdict value) = ⊥
IsPast other = Unit {0}

module _ (s : Server) (who : Who) (xid : ℕ) (r : Request) (said : Answer) (out between out' : Datagrams) (entries log : EntryList) (first : out'.first
    ≡ out.first) (pushed : out'.datagrams ≡ between.datagrams ++ sent (to_host who.host (reply xid said)) ∷ []) (same : log.entries ≡ entries.entries)
    (fits : FitsMessage (reply xid said)) where
  -- a fresh one, by what was done beside the kept state
  pub fresh-answered : (verdict : Verdict) (value : ℕ) (after : Beside) (log' : EntryList) → answer_to who r (Fresh verdict value) ≡ Some said
      → between.datagrams ≡ out.datagrams ++ map sent (warnings_if (is_put_off (Fresh verdict value)) (warnings s who r))
      → All FitsPacket (warnings s who r) → DoesAside (aside s who r verdict) (beside s) after log log'
      → Concludes (decided_step s who xid r (Fresh verdict value)) took.Done after out out' entries log'
  fresh-answered verdict value after log' is warns fit does =
      let own : decided_answer who.inc verdict value r ≡ said = cc in
      concluded-fresh s who xid r verdict value after out out' entries log log' does same
      (subst (λ a. Sends (warnings_if (is_later verdict) (warnings s who r) ++ to_host who.host (reply xid a) ∷ []) out out') (sym own)
      (record {
        first = first;
        added = behind-notices out.datagrams between.datagrams out'.datagrams (warnings_if (is_later verdict) (warnings s who r))
            (to_host who.host (reply xid said)) warns pushed;
        fit = All-push FitsPacket (warnings_if (is_later verdict) (warnings s who r)) (to_host who.host (reply xid said))
            (warnings-fit (is_later verdict) (warnings s who r) fit) fits;
      }))

  alone : between.datagrams ≡ out.datagrams ++ [] → Sends (to_host who.host (reply xid said) ∷ []) out out'
  alone e =
      one-sent (to_host who.host (reply xid said)) out out' fits first (pushed ∙ ap (λ d. d ++ sent (to_host who.host (reply xid said)) ∷ [])
      (e ∙ append-nil _))

  is-alone : (answer : Answer) → Some answer ≡ Some said → between.datagrams ≡ out.datagrams ++ [] → Concludes (says s who.host (reply xid answer))
      took.Done (beside s) out out' entries log
  is-alone answer is e =
      let own : said ≡ answer = cc in
      subst (λ a. Concludes (says s who.host (reply xid a)) took.Done (beside s) out out' entries log) own (concluded-says s who.host xid said out
      out' entries log same (alone e))

  unchanged : (d : Decided) (after : Beside) (log' : EntryList) → (after ≡ beside s) × (log'.entries ≡ log.entries)
      → Concludes (decided_step s who xid r d) took.Done (beside s) out out' entries log → Concludes (decided_step s who xid r d) took.Done after out
      out' entries log'
  unchanged d after log' h made = record {
    outcome = made.outcome;
    makes = record { holds = h.0 ∙ made.makes.holds; sends = made.makes.sends; enters = h.1 ∙ made.makes.enters };
  }

  -- one that is not fresh
  pub again-answered : (d : Decided) → IsPast d → answer_to who r d ≡ Some said → between.datagrams ≡ out.datagrams
      ++ map sent (warnings_if (is_put_off d) (warnings s who r)) → Concludes (decided_step s who xid r d) took.Done (beside s) out out' entries log
  again-answered (Fresh verdict value) stale is e = absurd stale
  again-answered (Again verdict value) stale is e = is-alone (decided_answer who.inc verdict value r) is e
  again-answered Old stale is e = is-alone _ is e
  again-answered NotAttached stale is e = is-alone _ is e
  again-answered OldIncarnation stale is e = absurd (cc)
  again-answered OutOfBounds stale is e = absurd (cc)

  -- each, by what was done beside the kept state
  pub concluded : (d : Decided) (after : Beside) (log' : EntryList) → answer_to who r d ≡ Some said → between.datagrams ≡ out.datagrams
      ++ map sent (warnings_if (is_put_off d) (warnings s who r)) → All FitsPacket (warnings s who r) → DoesIfFresh s who r d (beside s) after log
      log' → Concludes (decided_step s who xid r d) took.Done after out out' entries log'
  concluded (Fresh verdict value) after log' is warns fit does = fresh-answered verdict value after log' is warns fit does
  concluded (Again verdict value) after log' is warns fit does = unchanged (Again verdict value) after log' does (again-answered (Again verdict value)
      tt is warns)
  concluded Old after log' is warns fit does = unchanged Old after log' does (again-answered Old tt is warns)
  concluded OldIncarnation after log' is warns fit does = absurd (cc)
  concluded OutOfBounds after log' is warns fit does = absurd (cc)
  concluded NotAttached after log' is warns fit does = unchanged NotAttached after log' does (again-answered NotAttached tt is warns)
