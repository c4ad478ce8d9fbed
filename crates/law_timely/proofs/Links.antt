-- A refusal that the server sends answers the datagram of its step.
use Rattle.std.proofs.Common.{◌≡◌, ◌⊎◌, ℕ, ◌+◌, ◌-◌, ◌++◌, List, [], ◌∷◌, Some, refl, sym, subst, ap, ◌∙◌}
use Rattle.std.proofs.Common.{inl, inr}
use Rattle.nq_base.specs.declared.Refusal.{Refusal}
use Rattle.nq_base.specs.declared.Reply.{Reply}
use Rattle.nq_base.specs.declared.Request.{Request}
use Rattle.nq_base.specs.declared.Row.{Row}
use Rattle.nq_base.specs.declared.Who.{Who}
use Rattle.nq_model.specs.protocol.Decide.{verdict_reply, decides, creates, writes_through, stores, stores_recovering, wrote, resizes, removes, puts_off}
use Rattle.nq_model.specs.protocol.Decide.{commits}
use Rattle.nq_model.specs.protocol.Hear.{inc_of}
use Rattle.nq_model.specs.protocol.Message.{Message, Packet, reply, Datagram, request, asker}
use Rattle.nq_model.specs.protocol.Server.{Server, to_host, notices, after_notices, keeping, keeping_with, with_table, quiet, drops, says}
use Rattle.nq_model.specs.protocol.ServerStep.{attaches, vacates, tells_later, serves, leases, receive}
use Rattle.walk_steps.proofs.Packets.{In, in-last, reply-same, told-same}
use Rattle.walk_steps.proofs.ServerCases.{server-hears}
use Rattle.walk_steps.proofs.ServerOutcomes.{error-no-reply}
use Rattle.walk_steps.proofs.ServerSays.{notices-no-reply, plain-inc, verdict-inc}

-- a refusal answers a request that this datagram is
pub record Link (s : Server) (sender : ℕ) (d : Datagram) (host x inc : ℕ) : Type 0 where
  pub asks : Request
  pub who : Who
  pub is : d ≡ request x asks
  pub by : asker asks ≡ Some who
  pub same_inc : who.inc ≡ inc
  pub same_host : who.host ≡ host
  pub from : who.host ≡ sender

abbrev pub AllLinked : Server → (sender : ℕ) → Datagram → List Packet → Type 0
AllLinked s sender d sends =
    (host x inc : ℕ) (st : Refusal) → In sends (to_host host (reply x (Reply.Refused inc st))) → Link s sender d host x inc

module _ (s : Server) (sender next : ℕ) (d : Datagram) where
  none : AllLinked s sender d []
  none host x inc st i = absurd i

  -- a message that is no refusal
  other : (h x : ℕ) (a : Reply) → ((inc : ℕ) (st : Refusal) → a ≡ Reply.Refused inc st → ⊥) → AllLinked s sender d (to_host h (reply x a) ∷ [])
  other h x a never host y inc st (inl e) =
      absurd (never inc st (reply-same x y a (Reply.Refused inc st) (told-same h host (reply x a) (reply y (Reply.Refused inc st)) e).1).1)
  other h x a never host y inc st (inr bad) = absurd bad

  behind : (n : ℕ) (rows : List Row) (p : Packet) → AllLinked s sender d (p ∷ []) → AllLinked s sender d (notices n rows ++ p ∷ [])
  behind n rows p h host x inc st i = by (in-last (notices n rows) p (to_host host (reply x (Reply.Refused inc st))) i)
    where
      by : In (notices n rows) (to_host host (reply x (Reply.Refused inc st))) ⊎ (p ≡ to_host host (reply x (Reply.Refused inc st)))
          → Link s sender d host x inc
      by (inl j) = absurd (notices-no-reply n rows host x (Reply.Refused inc st) j)
      by (inr same) = h host x inc st (inl same)

  answered : (x : ℕ) (w : Who) (z : Request) (a : Reply) → d ≡ request x z → asker z ≡ Some w → w.host ≡ sender → inc_of a ≡ w.inc
      → AllLinked s sender d (to_host w.host (reply x a) ∷ [])
  answered x w z a e by from own host y inc st (inl same) =
      let t = told-same w.host host (reply x a) (reply y (Reply.Refused inc st)) same in
      let r = reply-same x y a (Reply.Refused inc st) t.1 in
      record {
        asks = z;
        who = w;
        is = subst (λ n. d ≡ request n z) r.0 e;
        by = by;
        same_inc = sym own ∙ ap inc_of r.1;
        same_host = t.0;
        from = from;
      }
  answered x w z a e by from own host y inc st (inr bad) = absurd bad

  later : (x n : ℕ) (rows : List Row) (w : Who) (z : Request) → d ≡ request x z → asker z ≡ Some w → w.host ≡ sender
      → AllLinked s sender d (notices n rows ++ to_host w.host (reply x (Reply.Refused w.inc Refusal.TryLater)) ∷ [])
  later x n rows w z e by from = behind n rows _ (answered x w z (Reply.Refused w.inc Refusal.TryLater) e by from refl)

  no-error : (m : Message) (host x inc : ℕ) (st : Refusal) → In (to_host sender m ∷ []) (to_host host (reply x (Reply.Refused inc st)))
      → m ≡ reply x (Reply.Refused inc st)
  no-error m host x inc st (inl e) = (told-same sender host m (reply x (Reply.Refused inc st)) e).1
  no-error m host x inc st (inr bad) = absurd bad

  pub all-linked : AllLinked s sender d (receive s sender next d).sends
  unfolding quiet drops says attaches vacates serves leases tells_later decides creates writes_through stores stores_recovering wrote resizes removes
      puts_off commits after_notices keeping keeping_with with_table
  all-linked = server-hears s sender next d (λ t. AllLinked s sender d t.sends) (record {
    stays = none;
    dropping = λ reason. none;
    erring = λ m e host x inc st i. absurd (error-no-reply d m x (Reply.Refused inc st) e (no-error m host x inc st i));
    answers_null = λ x e. other sender x Reply.Null (λ inc st f. cc);
    replying = λ x w z a e by from is. answered x w z a e by from.host (plain-inc s w z a is);
    attaching = λ x w e from later_one. other w.host x (Reply.Attach w.inc) (λ inc st f. cc);
    vacating = λ x w file tag e current. none;
    putting_off = λ x w z f clash e by file asking c. later x s.notice _ w z e by asking.current.from.host;
    putting_off_waiting = λ x w z f clash want e by file wants asking c own room. later x s.notice _ w z e by asking.current.from.host;
    putting_off_by_own = λ x w z f want own e by file wants asking c o evicting. later x s.notice (own ∷ []) w z e by asking.current.from.host;
    reading = λ x w q block f body e asking there c. other w.host x _ (λ inc st g. cc);
    reading_full = λ x w q block want f body e asking there c own room. other w.host x _ (λ inc st g. cc);
    reading_granted = λ x w q block want f body row term e asking there c g. other w.host x _ (λ inc st h. cc);
    leasing_full = λ x w want f e asking c own room. other w.host x _ (λ inc st g. cc);
    leasing = λ x w want f row term e asking c g. other w.host x _ (λ inc st h. cc);
    declining = λ x w seq z verdict e by sq fresh is. answered x w z (verdict_reply w.inc verdict 0 z) e by fresh.current.from.host
        (verdict-inc w.inc verdict 0 z seq sq);
    putting_off_change = λ x w seq z f clash e by sq file base changing c. later x s.notice _ w z e by changing.fresh.current.from.host;
    creating = λ x w seq blocks name e fresh serves can. other w.host x _ (λ inc st f. cc);
    writing_through = λ x w seq block first last body f e changing below c. other w.host x _ (λ inc st g. cc);
    storing = λ x w seq block first last base body f row e changing below can. other w.host x _ (λ inc st g. cc);
    storing_recovering = λ x w seq block first final base body f until heard last e fresh recovers_now found below boot rev. other w.host x _
        (λ inc st g. cc);
    resizing = λ x w seq q blocks f e changing can c. other w.host x _ (λ inc st g. cc);
    removing = λ x w seq q f e changing c. other w.host x _ (λ inc st g. cc);
  })
