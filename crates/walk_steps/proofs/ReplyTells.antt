-- Each reply that the server sends in a step answers the request of the datagram, and is what a reply to that request is to be.
use Rattle.std.proofs.Common.{◌≡◌, ◌⊎◌, ℕ, List, [], ◌∷◌, ◌++◌, Option, Some, None, refl, sym, subst, inl, inr}
use Rattle.nq_base.specs.declared.Access.{Access}
use Rattle.nq_base.specs.declared.Grant.{Grant}
use Rattle.nq_base.specs.declared.Question.{Question}
use Rattle.nq_base.specs.declared.Refusal.{Refusal}
use Rattle.nq_base.specs.declared.Reply.{Reply}
use Rattle.nq_base.specs.declared.Request.{Request}
use Rattle.nq_base.specs.declared.Row.{Row}
use Rattle.nq_base.specs.declared.Verdict.{Verdict}
use Rattle.nq_base.specs.declared.Want.{Want}
use Rattle.nq_base.specs.declared.Who.{Who}
use Rattle.nq_model.specs.protocol.Ask.{grant_of}
use Rattle.nq_model.specs.protocol.Decide.{Decision, in_the_way, verdict_reply, decides, creates, writes_through, stores, stores_recovering, resizes, removes}
use Rattle.nq_model.specs.protocol.Decide.{puts_off, commits}
use Rattle.nq_model.specs.protocol.Hear.{inc_of}
use Rattle.nq_model.specs.protocol.Kept.{blocks_of}
use Rattle.nq_model.specs.protocol.Message.{Message, Packet, reply, asker, Datagram, request, sequence_of}
use Rattle.nq_model.specs.protocol.Server.{Server, to_host, says, quiet, drops, notices}
use Rattle.nq_model.specs.protocol.ServerStep.{to_read, attaches, vacates, tells_later, serves, leases, receive}
use Rattle.nq_model.specs.protocol.Table.{Table}
use Rattle.walk_steps.proofs.Packets.{In, in-append, told-same, reply-same}
use Rattle.walk_steps.proofs.ServerSays.{notices-no-reply, verdict-inc, plain-inc}
use Rattle.walk_steps.proofs.AskCases.{IsGranted}
use Rattle.walk_steps.proofs.ServerCases.{server-hears}
use Rattle.walk_steps.proofs.ServerOutcomes.{error-no-reply, IsPlain, unattached, attached_again, not_yet, no_entry, entry, no_attributes, attributes}
use Rattle.walk_steps.proofs.ServerOutcomes.{no_file, no_block, decided_again, is_old}

-- what a reply to a request is to be, with a proof for each reply that the server makes
pub record Kind (Is : Reply → Request → Type 0) : Type 0 where
  pub refused : (inc : ℕ) (status : Refusal) (r : Request) → Is (Reply.Refused inc status) r
  pub attached : (who : Who) → Is (Reply.Attach who.inc) (Request.Attach who)
  pub looked_up : (who : Who) (name : List ℕ) (file blocks : ℕ) → Is (Reply.Lookup who.inc file blocks) (Request.Lookup who name)
  pub attributes : (who : Who) (file blocks rev : ℕ) → Is (Reply.GetAttr who.inc blocks rev) (Request.GetAttr who file)
  pub done : (inc value : ℕ) (r : Request) (n : ℕ) → sequence_of r ≡ Some n → Is (verdict_reply inc Verdict.Done value r) r
  pub has_read : (who : Who) (q file block : ℕ) (want : Option Want) (rev : ℕ) (body : List ℕ) (grant : Option Grant)
      → Is (Reply.Read who.inc rev body grant) (Request.Read who q file block want)
  pub not_leased : (who : Who) (file : ℕ) (want : Want) → Is (Reply.GetLease who.inc None) (Request.GetLease who file want)
  pub leased : (who : Who) (file : ℕ) (table : Table) (q : Question) (want : Want) (row : Row) (term : ℕ) → IsGranted table q want row term
      → Is (Reply.GetLease who.inc (Some (grant_of q row term))) (Request.GetLease who file want)

-- a reply to a host answers the request of this datagram, and is of this kind
pub record Tells (Is : Reply → Request → Type 0) (d : Datagram) (sender host xid : ℕ) (a : Reply) : Type 0 where
  pub asks : Request
  pub who : Who
  pub is : d ≡ request xid asks
  pub by : asker asks ≡ Some who
  pub to : host ≡ sender
  pub inc : inc_of a ≡ who.inc
  pub of : Is a asks

module _ {Is : Reply → Request → Type 0} (kind : Kind Is) where
  refuses-it : (a : Reply) (r : Request) (inc : ℕ) (status : Refusal) → a ≡ Reply.Refused inc status → Is a r
  refuses-it a r inc status e = subst (λ b. Is b r) (sym e) (kind.refused inc status r)

  both-of : (a b : Reply) (r q : Request) → a ≡ b → r ≡ q → Is b q → Is a r
  both-of a b r q e f is = subst (λ x. Is x r) (sym e) (subst (λ x. Is b x) (sym f) is)

  verdict-of : (inc : ℕ) (v : Verdict) (value : ℕ) (r : Request) (n : ℕ) → sequence_of r ≡ Some n → Is (verdict_reply inc v value r) r
  verdict-of inc Verdict.Done value r n e = kind.done inc value r n e
  verdict-of inc Verdict.Fenced value r n e = kind.refused inc Refusal.Fenced r
  verdict-of inc Verdict.Exist value r n e = kind.refused inc Refusal.Exist r
  verdict-of inc Verdict.NoSpace value r n e = kind.refused inc Refusal.NoSpc r
  verdict-of inc Verdict.Invalid value r n e = kind.refused inc Refusal.Inval r
  verdict-of inc Verdict.Stale value r n e = kind.refused inc Refusal.Stale r
  verdict-of inc Verdict.TryLater value r n e = kind.refused inc Refusal.TryLater r

  plain-of : (s : Server) (who : Who) (r : Request) (a : Reply) → IsPlain s who r a → Is a r
  plain-of s who r a (unattached above other e) = refuses-it a r _ _ e
  plain-of s who r a (attached_again is same e) = both-of a (Reply.Attach who.inc) r (Request.Attach who) e is (kind.attached who)
  plain-of s who r a (not_yet same rec only e) = refuses-it a r _ _ e
  plain-of s who r a (no_entry name same p is none e) = refuses-it a r _ _ e
  plain-of s who r a (entry name f same p is some e) =
      both-of a (Reply.Lookup who.inc f.id (blocks_of f)) r (Request.Lookup who name) e is (kind.looked_up who name f.id (blocks_of f))
  plain-of s who r a (no_attributes file same p is none e) = refuses-it a r _ _ e
  plain-of s who r a (attributes file f same p is some e) =
      both-of a (Reply.GetAttr who.inc (blocks_of f) f.rev) r (Request.GetAttr who file) e is (kind.attributes who file (blocks_of f) f.rev)
  plain-of s who r a (no_file file same p on none e) = refuses-it a r _ _ e
  plain-of s who r a (no_block q file block want f same p is some none e) = refuses-it a r _ _ e
  plain-of s who r a (decided_again seq same sq eq e) = both-of a _ r r e refl (verdict-of who.inc _ _ r seq sq)
  plain-of s who r a (is_old seq same sq below e) = refuses-it a r _ _ e

  module _ (s : Server) (sender next : ℕ) (d : Datagram) (no_null : (xid : ℕ) → d ≡ request xid Request.Null → ⊥) where
    -- each reply among some packets does
    abbrev Tell : List Packet → Type 0
    Tell sends = (host xid : ℕ) (a : Reply) → In sends (to_host host (reply xid a)) → Tells Is d sender host xid a

    no-packets : Tell []
    no-packets host xid a i = absurd i

    one-reply : (h x : ℕ) (b : Reply) → Tells Is d sender h x b → Tell (to_host h (reply x b) ∷ [])
    one-reply h x b t host xid a (inr i) = absurd i
    one-reply h x b t host xid a (inl e) =
        let same = told-same h host (reply x b) (reply xid a) e in
        let parts = reply-same x xid b a same.1 in
        subst (λ k. Tells Is d sender k xid a) same.0 (subst (λ k. Tells Is d sender h k a) parts.0 (subst (λ k. Tells Is d sender h x k) parts.1 t))

    after-notices : (number : ℕ) (rows : List Row) (h x : ℕ) (b : Reply) → Tells Is d sender h x b → Tell (notices number rows ++ to_host h (reply x b) ∷ [])
    after-notices number rows h x b t host xid a i = by (in-append (notices number rows) (to_host h (reply x b) ∷ []) (to_host host (reply xid a)) i)
      where
        by : In (notices number rows) (to_host host (reply xid a)) ⊎ In (to_host h (reply x b) ∷ []) (to_host host (reply xid a))
            → Tells Is d sender host xid a
        by (inl note) = absurd (notices-no-reply number rows host xid a note)
        by (inr own) = one-reply h x b t host xid a own

    answers : (xid : ℕ) (who : Who) (r : Request) (a : Reply) → d ≡ request xid r → asker r ≡ Some who → who.host ≡ sender → inc_of a ≡ who.inc
        → Is a r → Tells Is d sender who.host xid a
    answers xid who r a e by from inc of = record { asks = r; who = who; is = e; by = by; to = from; inc = inc; of = of }

    committed : (xid : ℕ) (who : Who) (seq : ℕ) (r : Request) (v : Verdict) (value : ℕ) → d ≡ request xid r → asker r ≡ Some who
        → sequence_of r ≡ Some seq → who.host ≡ sender → Tells Is d sender who.host xid (verdict_reply who.inc v value r)
    committed xid who seq r v value e by sq from =
        answers xid who r (verdict_reply who.inc v value r) e by from (verdict-inc who.inc v value r seq sq) (verdict-of who.inc v value r seq sq)

    commits-one : (xid : ℕ) (who : Who) (seq : ℕ) (r : Request) (c : Decision) → d ≡ request xid r → asker r ≡ Some who → sequence_of r ≡ Some seq
        → who.host ≡ sender → c.sends ≡ [] → Tell (commits who seq xid r c).sends
    unfolding commits
    commits-one xid who seq r c e by sq from none =
        let b = verdict_reply who.inc c.verdict c.value r in
        subst (λ xs. Tell (xs ++ to_host who.host (reply xid b) ∷ [])) (sym none)
        (one-reply who.host xid b (committed xid who seq r c.verdict c.value e by sq from))

    puts-off-one : (xid : ℕ) (who : Who) (seq file : ℕ) (r : Request) (table : Table) → d ≡ request xid r → asker r ≡ Some who → sequence_of r ≡ Some seq
        → who.host ≡ sender → Tell (commits who seq xid r (puts_off s who file table)).sends
    unfolding commits puts_off
    puts-off-one xid who seq file r table e by sq from =
        after-notices s.notice (in_the_way s file who.host Access.Write) who.host xid (verdict_reply who.inc Verdict.TryLater 0 r)
        (committed xid who seq r Verdict.TryLater 0 e by sq from)

    later : (xid : ℕ) (who : Who) (r : Request) (table : Table) (rows : List Row) → d ≡ request xid r → asker r ≡ Some who → who.host ≡ sender
        → Tell (tells_later s who xid table rows).sends
    unfolding tells_later
    later xid who r table rows e by from =
        after-notices s.notice rows who.host xid (Reply.Refused who.inc Refusal.TryLater)
        (answers xid who r (Reply.Refused who.inc Refusal.TryLater) e by from refl (kind.refused who.inc Refusal.TryLater r))

    error-tells : (m : Message) → ((x : ℕ) (a : Reply) → m ≡ reply x a → ⊥) → Tell (to_host sender m ∷ [])
    error-tells m none host xid a (inr i) = absurd i
    error-tells m none host xid a (inl e) = absurd (none xid a (told-same sender host m (reply xid a) e).1)

    pub receive-tells : Tell (receive s sender next d).sends
    unfolding quiet drops says attaches vacates serves leases decides creates writes_through stores stores_recovering resizes removes
    receive-tells = server-hears s sender next d (λ t. Tell t.sends) (record {
      stays = no-packets;
      dropping = λ reason. no-packets;
      erring = λ m e. error-tells m (λ x a is. error-no-reply d m x a e is);
      answers_null = λ xid e. absurd (no_null xid e);
      replying =
          λ xid who r a e by from plain. one-reply who.host xid a (answers xid who r a e by from.host (plain-inc s who r a plain) (plain-of s who r a plain));
      attaching =
          λ xid who e from above. one-reply who.host xid (Reply.Attach who.inc)
          (answers xid who (Request.Attach who) (Reply.Attach who.inc) e refl from.host refl (kind.attached who));
      vacating = λ xid who file tag e current. no-packets;
      putting_off = λ xid who r f clash e by file asking c. later xid who r _ _ e by asking.current.from.host;
      putting_off_waiting = λ xid who r f clash want e by file wants asking c own room. later xid who r _ _ e by asking.current.from.host;
      putting_off_by_own = λ xid who r f want own e by file wants asking c o evicting. later xid who r _ _ e by asking.current.from.host;
      reading =
          λ xid who q block f body e asking there c. one-reply who.host xid _
          (answers xid who _ (Reply.Read who.inc f.rev body None) e refl asking.current.from.host refl (kind.has_read who q f.id block None f.rev body None));
      reading_full =
          λ xid who q block want f body e asking there c own room. one-reply who.host xid _
          (answers xid who _ (Reply.Read who.inc f.rev body None) e refl asking.current.from.host refl (kind.has_read who q f.id block (Some want)
          f.rev body None));
      reading_granted =
          λ xid who q block want f body row term e asking there c g. one-reply who.host xid _
          (answers xid who _ (Reply.Read who.inc f.rev body (Some (grant_of (to_read s who f (Some want)) row term))) e refl asking.current.from.host refl
          (kind.has_read who q f.id block (Some want) f.rev body (Some (grant_of (to_read s who f (Some want)) row term))));
      leasing_full =
          λ xid who want f e asking c own room. one-reply who.host xid _
          (answers xid who _ (Reply.GetLease who.inc None) e refl asking.current.from.host refl (kind.not_leased who f.id want));
      leasing =
          λ xid who want f row term e asking c g. one-reply who.host xid _
          (answers xid who _ (Reply.GetLease who.inc (Some (grant_of (to_read s who f (Some want)) row term))) e refl asking.current.from.host refl
          (kind.leased who f.id s.table (to_read s who f (Some want)) want row term g));
      declining = λ xid who seq r verdict e by sq fresh declined. commits-one xid who seq r (decides s verdict) e by sq fresh.current.from.host refl;
      putting_off_change = λ xid who seq r f clash e by sq file base changing c. puts-off-one xid who seq f.id r _ e by sq changing.fresh.current.from.host;
      creating = λ xid who seq blocks name e fresh serves can. commits-one xid who seq _ (creates s name blocks) e refl refl fresh.current.from.host refl;
      writing_through =
          λ xid who seq block first last body f e changing below c. commits-one xid who seq _ (writes_through s who f block first body) e refl refl
          changing.fresh.current.from.host refl;
      storing =
          λ xid who seq block first last base body f row e changing below can. commits-one xid who seq _ (stores s who f row block first last body) e refl
          refl changing.fresh.current.from.host refl;
      storing_recovering =
          λ xid who seq block first final base body f until heard last e fresh recovers found below boot rev. commits-one xid who seq _
          (stores_recovering s until last who f block first final body) e refl refl fresh.current.from.host refl;
      resizing =
          λ xid who seq q blocks f e changing can c. commits-one xid who seq _ (resizes s who q f blocks) e refl refl changing.fresh.current.from.host refl;
      removing = λ xid who seq q f e changing c. commits-one xid who seq _ (removes s who q f) e refl refl changing.fresh.current.from.host refl;
    })
