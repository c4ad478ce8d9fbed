-- What the server sends to a client that asks: one reply, which counts for the request.
use Rattle.std.proofs.Common.{◌≡◌, ◌≤◌, ℕ, ◌++◌, true, List, [], ◌∷◌, Some, None, refl, sym, subst, ap, ◌∙◌, arith, inl}
use Rattle.nq_base.specs.declared.Refusal.{Refusal}
use Rattle.nq_base.specs.declared.Reply.{Reply}
use Rattle.nq_base.specs.declared.Request.{Request}
use Rattle.nq_base.specs.declared.Row.{Row}
use Rattle.nq_base.specs.declared.Tag.{Tag}
use Rattle.nq_base.specs.declared.Verdict.{Verdict}
use Rattle.nq_base.specs.declared.Who.{Who}
use Rattle.nq_model.specs.protocol.Client.{Job, attaching}
use Rattle.nq_model.specs.protocol.Decide.{decides, creates, writes_through, stores, wrote, stores_recovering, resizes, removes, puts_off, commits}
use Rattle.nq_model.specs.protocol.Decide.{verdict_reply}
use Rattle.nq_model.specs.protocol.Hear.{inc_of}
use Rattle.nq_model.specs.protocol.Kept.{blocks_of}
use Rattle.nq_model.specs.laws.LeaseInterval.{requested_file}
use Rattle.nq_model.specs.protocol.Message.{Packet, request, reply, asker, sequence_of}
use Rattle.nq_model.specs.protocol.Server.{Server, ServerStep, to_host, quiet, drops, says, notices}
use Rattle.nq_model.specs.protocol.ServerStep.{receive, attaches, tells_later, serves, leases, vacates}
use Rattle.nq_model.specs.protocol.Table.{Table}
use Rattle.walk_steps.proofs.ClientFacts.{fits_job}
use Rattle.walk_steps.proofs.ClientMoves.{some-same, none-some}
use Rattle.walk_steps.proofs.Packets.{In, in-right}
use Rattle.walk_steps.proofs.ServerCases.{server-hears}
use Rattle.walk_steps.proofs.ServerOutcomes.{IsPlain, unattached, attached_again, not_yet, no_entry, entry, no_attributes, attributes, no_file}
use Rattle.walk_steps.proofs.ServerOutcomes.{no_block, decided_again, is_old, line_of}
use Rattle.law_rounds.proofs.Fair.{counts_for, fair, fair-counts, verdict-inc, fair-later, declined-fair, later-counts, requested-asks, stale-counts}
use Rattle.law_rounds.proofs.Fair.{lookup-counts, attributes-count, block-counts, no-attach, no-vacated}

-- the step sends a reply to the request, which counts for it
pub record Answers (who : Who) (xid : ℕ) (r : Request) (job : Job) (sends : List Packet) : Type 0 where
  pub answer : Reply
  pub sent : In sends (to_host who.host (reply xid answer))
  pub inc : inc_of answer ≡ who.inc
  pub counts : counts_for answer r job ≡ true

same-xid : (x y : ℕ) (r q : Request) → request x r ≡ request y q → x ≡ y
same-xid x y r q e = cc

same-request : (x y : ℕ) (r q : Request) → request x r ≡ request y q → r ≡ q
same-request x y r q e = cc

module _ (s : Server) (sender next xid : ℕ) (r : Request) (who : Who) (job : Job) (asks : asker r ≡ Some who) (own : job ≡ attaching → ⊥)
    (fits : fits_job job r ≡ true) (current : (line_of s who).inc ≡ who.inc) (ordered : (n : ℕ) → sequence_of r ≡ Some n → (line_of s who).seq ≤ n)
    (kept : (n : ℕ) → sequence_of r ≡ Some n → n ≡ (line_of s who).seq → fair r (line_of s who).verdict ≡ true) where
  abbrev Answered : ServerStep → Type 0
  Answered t = (t.sends ≡ [] → ⊥) → Answers who xid r job t.sends

  -- the request that the server takes is this one
  module _ (x : ℕ) (w : Who) (q : Request) (e : request xid r ≡ request x q) (by : asker q ≡ Some w) where
    is_r : q ≡ r
    is_r = sym (same-request xid x r q e)

    is_who : w ≡ who
    is_who = some-same w who (sym by ∙ ap asker is_r ∙ asks)

    fits-it : fits_job job q ≡ true
    fits-it = subst (λ z. fits_job job z ≡ true) (sym is_r) fits

    -- so is its reply
    one : (sends before : List Packet) (a : Reply) → sends ≡ before ++ to_host w.host (reply x a) ∷ [] → inc_of a ≡ w.inc → counts_for a q job ≡ true
        → Answers who xid r job sends
    one sends before a is inc counts =
        let host : to_host w.host (reply x a) ≡ to_host who.host (reply xid a) = ap (λ (v : Who). to_host v.host (reply x a)) is_who
        ∙ ap (λ n. to_host who.host (reply n a)) (sym (same-xid xid x r q e)) in
        record {
          answer = a;
          sent = subst (λ ps. In ps (to_host who.host (reply xid a))) (sym is) (in-right before (to_host w.host (reply x a) ∷ [])
              (to_host who.host (reply xid a)) (inl host));
          inc = inc ∙ ap (λ (v : Who). v.inc) is_who;
          counts = subst (λ z. counts_for a z job ≡ true) is_r counts;
        }

    replied : (sends : List Packet) (a : Reply) → sends ≡ to_host w.host (reply x a) ∷ [] → inc_of a ≡ w.inc → counts_for a q job ≡ true
        → Answers who xid r job sends
    replied sends a is inc counts = one sends [] a is inc counts

    decided : (sends before : List Packet) (n value : ℕ) (v : Verdict) → sequence_of q ≡ Some n → fair q v ≡ true → sends ≡ before ++ to_host w.host
        (reply x (verdict_reply w.inc v value q)) ∷ [] → Answers who xid r job sends
    decided sends before n value v sq f is = one sends before (verdict_reply w.inc v value q) is (verdict-inc w.inc value n v q sq)
        (fair-counts job q n w.inc value v fits-it sq f)

    same-inc : (line_of s w).inc ≡ w.inc
    same-inc = subst (λ v. (line_of s v).inc ≡ v.inc) (sym is_who) current

    plain : (a : Reply) → IsPlain s w q a → (sends : List Packet) → sends ≡ to_host w.host (reply x a) ∷ [] → Answers who xid r job sends
    plain a (unattached later other is) sends sent = let same = same-inc in absurd (omega arith)
    plain a (attached_again attach same is) sends sent = absurd (no-attach job w own (subst (λ z. fits_job job z ≡ true) attach fits-it))
    plain a (not_yet same rec only is) sends sent = replied sends a sent (ap inc_of is) (ap (λ b. counts_for b q job) is ∙ later-counts job q w.inc
        fits-it only)
    plain a (no_entry name same p on none is) sends sent = replied sends a sent (ap inc_of is) (ap (λ b. counts_for b q job) is
        ∙ ap (λ z. counts_for (Reply.Refused w.inc Refusal.NoEnt) z job) on ∙ lookup-counts job w name w.inc (subst (λ z. fits_job job z ≡ true) on fits-it))
    plain a (entry name f same p on found is) sends sent = replied sends a sent (ap inc_of is) (ap (λ b. counts_for b q job) is
        ∙ ap (λ z. counts_for (Reply.Lookup w.inc f.id (blocks_of f)) z job) on)
    plain a (no_attributes file same p on none is) sends sent = replied sends a sent (ap inc_of is) (ap (λ b. counts_for b q job) is
        ∙ ap (λ z. counts_for (Reply.Refused w.inc Refusal.Stale) z job) on ∙ attributes-count job w file w.inc (subst (λ z. fits_job job z ≡ true) on
        fits-it))
    plain a (attributes file f same p on found is) sends sent = replied sends a sent (ap inc_of is) (ap (λ b. counts_for b q job) is
        ∙ ap (λ z. counts_for (Reply.GetAttr w.inc (blocks_of f) f.rev) z job) on)
    plain a (no_file file same p wants none is) sends sent = replied sends a sent (ap inc_of is) (ap (λ b. counts_for b q job) is ∙ stale-counts job q
        w.inc file fits-it wants)
    plain a (no_block n file block want f same p on found none is) sends sent = replied sends a sent (ap inc_of is) (ap (λ b. counts_for b q job) is
        ∙ ap (λ z. counts_for (Reply.Refused w.inc Refusal.Inval) z job) on ∙ block-counts job w n file block w.inc want
        (subst (λ z. fits_job job z ≡ true) on fits-it))
    plain a (decided_again n same sq again is) sends sent =
        decided sends [] n (line_of s w).value (line_of s w).verdict sq
        (subst (λ v. fair q (line_of s v).verdict ≡ true) (sym is_who) (subst (λ z. fair z (line_of s who).verdict ≡ true) (sym is_r)
        (kept n (ap sequence_of (sym is_r) ∙ sq) (again ∙ ap (λ (v : Who). (line_of s v).seq) is_who))))
        (sent ∙ ap (λ b. to_host w.host (reply x b) ∷ []) is)
    plain a (is_old n same sq below is) sends sent =
        let first = ordered n (ap sequence_of (sym is_r) ∙ sq) in
        let line : (line_of s w).seq ≡ (line_of s who).seq = ap (λ (v : Who). (line_of s v).seq) is_who in
        absurd (omega arith)

    put-off : (file : ℕ) → requested_file q ≡ Some file → (table : Table) (rows : List Row) → Answers who xid r job (tells_later s w x table rows).sends
    unfolding tells_later
    put-off file wants table rows = one (tells_later s w x table rows).sends (notices s.notice rows) (Reply.Refused w.inc Refusal.TryLater) refl refl
        (later-counts job q w.inc fits-it (requested-asks q file wants))

  no-null : (x : ℕ) → request xid r ≡ request x Request.Null → ⊥
  no-null x e = none-some who (sym (ap asker (same-request xid x r Request.Null e)) ∙ asks)

  vacates-not : (x file : ℕ) (w : Who) (tag : Tag) → request xid r ≡ request x (Request.Vacated w file tag) → ⊥
  vacates-not x file w tag e = no-vacated job w file tag (subst (λ z. fits_job job z ≡ true) (same-request xid x r (Request.Vacated w file tag) e) fits)

  pub answers-it : Answered (receive s sender next (request xid r))
  unfolding quiet drops says attaches vacates serves leases decides creates writes_through stores wrote stores_recovering resizes removes puts_off commits
  answers-it = server-hears s sender next (request xid r) Answered (record {
    stays = λ some. absurd (some refl);
    dropping = λ reason some. absurd (some refl);
    erring = λ m e some. none-some m e;
    answers_null = λ x e some. absurd (no-null x e);
    replying = λ x w q a e by from is some. plain x w q e by a is _ refl;
    attaching = λ x w e from later some. let same = same-inc x w (Request.Attach w) e refl in absurd (omega arith);
    vacating = λ x w file tag e now some. absurd (vacates-not x file w tag e);
    putting_off = λ x w q f clash e by wants asking c some. put-off x w q e by f.id wants _ _;
    putting_off_waiting = λ x w q f clash want e by file wants asking c none room some. put-off x w q e by f.id file _ _;
    putting_off_by_own = λ x w q f want row e by file wants asking c o evicting some. put-off x w q e by f.id file _ _;
    reading = λ x w q block f body e asking there c some. replied x w (Request.Read w q f.id block None) e refl _ (Reply.Read w.inc f.rev body None)
        refl refl refl;
    reading_full = λ x w q block want f body e asking there c none room some. replied x w (Request.Read w q f.id block (Some want)) e refl _
        (Reply.Read w.inc f.rev body None) refl refl refl;
    reading_granted = λ x w q block want f body row term e asking there c g some. replied x w (Request.Read w q f.id block (Some want)) e refl _
        (Reply.Read w.inc f.rev body _) refl refl refl;
    leasing_full = λ x w want f e asking c none room some. replied x w (Request.GetLease w f.id want) e refl _ (Reply.GetLease w.inc None) refl refl refl;
    leasing = λ x w want f row term e asking c g some. replied x w (Request.GetLease w f.id want) e refl _ (Reply.GetLease w.inc _) refl refl refl;
    declining = λ x w seq q v e by sq fresh declined some. decided x w q e by _ [] seq 0 v sq (declined-fair s w q v declined) refl;
    putting_off_change = λ x w seq q f clash e by sq file base changing c some. decided x w q e by _ _ seq 0 Verdict.TryLater sq (fair-later q base) refl;
    creating = λ x w seq blocks name e fresh serves can some. decided x w (Request.Create w seq name blocks) e refl _ [] seq _ Verdict.Done refl refl refl;
    writing_through = λ x w seq block first last body f e changing below c some. decided x w (Request.Write w seq f.id block first last None body) e
        refl _ [] seq _ Verdict.Done refl refl refl;
    storing = λ x w seq block first last base body f row e changing below can some. decided x w (Request.Write w seq f.id block first last (Some base)
        body) e refl _ [] seq _ Verdict.Done refl refl refl;
    storing_recovering =
        λ x w seq block first final base body f until heard last e fresh recovers found below boot rev some.
        decided x w (Request.Write w seq f.id block first final (Some base) body) e refl _ [] seq _ Verdict.Done refl refl refl;
    resizing = λ x w seq q blocks f e changing can c some. decided x w (Request.Resize w seq q f.id blocks) e refl _ [] seq _ Verdict.Done refl refl refl;
    removing = λ x w seq q f e changing c some. decided x w (Request.Remove w seq q f.id) e refl _ [] seq 0 Verdict.Done refl refl refl;
  })
