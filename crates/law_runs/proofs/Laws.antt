-- The laws of contents.
use Rattle.std.proofs.Common.{◌≡◌, ℕ, Option, Some, None, sym, subst, ap, ◌∙◌, inl, inr}
use Rattle.std.specs.Prelude.{slice_get}
use Rattle.std.proofs.lemmas.Bool.{and_parts}
use Rattle.nq_base.specs.Block.{value_of}
use Rattle.nq_base.specs.declared.Grant.{Grant}
use Rattle.nq_base.specs.declared.HostRow.{HostRow}
use Rattle.nq_base.specs.declared.Reply.{Reply}
use Rattle.nq_base.specs.declared.Request.{Request}
use Rattle.nq_base.specs.declared.Verdict.{Verdict}
use Rattle.walk_files.proofs.KnownContents.{IsOverKnown}
use Rattle.walk_files.proofs.Facts.{History, SetsBlock, Changed, GrantTells, Tells, LineTells}
use Rattle.law_runs.proofs.RunContents.{run-fits}
use Rattle.law_runs.proofs.WorldFacts.{history_now, Fits}
use Rattle.nq_model.specs.laws.Told.{GrantFits, SetsOne, TellsContents, HasChanged, IsDoneAs}
use Rattle.nq_model.specs.laws.RevisionsHaveOneContent.{first_length, FilesAreTheirHistoryInEveryRun, CleanBlocksHaveTheirRevisionInEveryRun}
use Rattle.nq_model.specs.laws.RevisionsHaveOneContent.{DoneRequestsAreChangesInEveryRun, PushesCarryTheirLastWriteInEveryRun}
use Rattle.nq_model.specs.laws.Contents.{delayed_value}
use Rattle.nq_model.specs.protocol.Client.{Client, Ticket, is_push_at}
use Rattle.nq_model.specs.protocol.Kept.{host_row}
use Rattle.nq_model.specs.protocol.Message.{call, reply, sequence_of}
use Rattle.nq_model.specs.protocol.Server.{to_host}
use Rattle.nq_model.specs.protocol.World.{World, from_host, run}
use Rattle.walk_steps.proofs.WorldSequences.{Draws, run-draws}
use Rattle.walk_steps.proofs.Members.{find-in}
use Rattle.walk_steps.proofs.Packets.{Asked, Told, in-get}
use Rattle.walk_steps.proofs.Worlds.{Holds, run-holds}
use Rattle.walk_steps.proofs.Incarnations.{one-who}
use Rattle.walk_steps.proofs.Rows.{same-number, find-passes}

pub files-in-every-run : FilesAreTheirHistoryInEveryRun
files-in-every-run most head events bounds within =
    let h : Fits (first_length head events) (run head events) = run-fits most head events bounds within in
    record {
      revision = λ id f found. (h.files id f found).revision;
      content = λ id f found. (h.files id f found).content;
    }

grant-fits : (h : History) (file : ℕ) (o : Option Grant) → GrantTells h file o → GrantFits h.first h.journal file o
grant-fits h file None k = tt
grant-fits h file (Some g) k = k.had

sets-one : (h : History) (file rev block v : ℕ) → SetsBlock h file rev block v → SetsOne h.first h.journal file rev block v
sets-one h file rev block v k = record {
  this = k.value.had;
  others = λ old other w next apart had. (k.others old other w next apart (record { drawn = k.value.drawn; had = had })).had;
}

has-changed : (h : History) (value : ℕ) (r : Request) → Changed h value r → HasChanged h.first h.journal value r
has-changed h value (Request.Write who seq file block f l push body) k = sets-one h file value block (value_of body) k
has-changed h value (Request.Resize who seq q file blocks) k = k.had
has-changed h value other k = tt

tells-contents : (h : History) (r : Request) (a : Reply) → Tells h r a → TellsContents h.first h.journal r a
tells-contents h (Request.Read who q file block want) (Reply.Read inc rev body grant) k = (k.0.had, grant-fits h file grant k.1, k.2)
tells-contents h (Request.GetLease who file want) (Reply.GetLease inc grant) k = grant-fits h file grant k
tells-contents h (Request.Write who seq file block f l push body) (Reply.Write inc rev) k = sets-one h file rev block (value_of body) k.0
tells-contents h (Request.Resize who seq q file blocks) (Reply.Resize inc rev) k = k.had
tells-contents h other a k = tt

pub clean-in-every-run : CleanBlocksHaveTheirRevisionInEveryRun
clean-in-every-run most head events bounds within =
    let w : World = run head events in
    let first : ℕ → ℕ = first_length head events in
    let h : Fits first w = run-fits most head events bounds within in
    record {
      known = λ host c file r is e. ((h.clients host c is).known file r e).reached;
      clean =
          λ host c file block k is e. let b = (h.clients host c is).clean file block k e in
          record { revision = b.revision; known = b.known; has = b.had.had };
      based = λ host c t who seq file block f l push body is has asks. subst (IsOverKnown c.revisions) asks ((h.clients host c is).base t has);
      told = λ host c t place a is has sent inc.
          let here = ((run-holds head events).clients host c is).here in
          tells-contents (history_now first w) t.request a
          ((h.clients host c is).told t a has
          (subst (λ n. Told w.packets n (reply t.xid a)) (sym here) (in-get w.packets place (to_host host (reply t.xid a)) sent)) inc);
    }

-- the request that was decided last is the one under way
same-request : (first : ℕ → ℕ) (w : World) → Holds w → Draws w → Fits first w → (host : ℕ) (c : Client) (t : Ticket) → slice_get w.clients host ≡ Some c
    → c.ticket ≡ Some t → (line : HostRow) → line.inc ≡ c.who.inc → sequence_of t.request ≡ Some line.seq → line.verdict ≡ Verdict.Done
    → LineTells (history_now first w) w.packets host line → IsDoneAs first w.journal line.value t.request
same-request first w held draws h host c t is has line inc sq done (inl none) =
    let own = (held.clients host c is).mail.own t has in
    absurd ((h.fair c.who.host t.xid t.request own.sent).1 (sq ∙ ap Some none))
same-request first w held draws h host c t is has line inc sq done (inr k) =
    let at = held.clients host c is in
    let own = at.mail.own t has in
    let one : k.who ≡ c.who = one-who k.who c.who (k.home ∙ sym at.here) (k.inc ∙ inc) in
    let same : k.asks ≡ t.request = ((draws.clients host c is).once k.xid t.xid k.asks t.request c.who line.seq
    (subst (λ n. Asked w.packets n k.xid k.asks) (sym at.here) k.sent) own.sent (k.by ∙ ap Some one) own.asks k.sequence sq).1 in
    let d = k.done done in
    subst (IsDoneAs first w.journal line.value) same (record { change = d.change; content = has-changed (history_now first w) line.value k.asks d.changed })

pub done-in-every-run : DoneRequestsAreChangesInEveryRun
done-in-every-run most head events bounds within host c t is has inc sq done =
    let w : World = run head events in
    let h : Fits (first_length head events) w = run-fits most head events bounds within in
    same-request (first_length head events) w (run-holds head events) (run-draws head events) h host c t is has (host_row w.server.kept host) inc sq
    done (h.lines host)

pub pushes-in-every-run : PushesCarryTheirLastWriteInEveryRun
pushes-in-every-run most head events bounds within =
    let w : World = run head events in
    let h : Fits (first_length head events) w = run-fits most head events bounds within in
    record {
      waiting = λ host c file block p is e.
          let at = and_parts _ _ (find-passes (is_push_at file block) p c.dirty e) in
          subst (λ n. delayed_value w.journal c.who n block p.last ≡ Some (value_of p.body)) (same-number _ _ at.0)
          (subst (λ n. delayed_value w.journal c.who p.file n p.last ≡ Some (value_of p.body)) (same-number _ _ at.1)
          ((h.clients host c is).dirty p (find-in (is_push_at file block) c.dirty p e)));
      sent =
          λ place host xid who seq file block f l push body e.
          (h.fair host xid (Request.Write who seq file block f l (Some push) body)
          (in-get w.packets place (from_host host (call xid (Request.Write who seq file block f l (Some push) body))) e)).0;
    }
