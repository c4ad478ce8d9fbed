-- What the server replies to a datagram: grants of rows that were put, and what the kept verdict gives.
use Rattle.std.proofs.Common.{◌≡◌, ◌<◌, ◌⊎◌, ℕ, true, false, List, [], ◌∷◌, ◌++◌, Some, None, length, refl, sym, subst, ap, ◌∙◌, arith, inl, inr}
use Rattle.nq_base.specs.declared.Access.{Access}
use Rattle.nq_base.specs.declared.Grant.{Grant}
use Rattle.nq_base.specs.declared.Mode.{Mode}
use Rattle.nq_base.specs.declared.Question.{Question}
use Rattle.nq_base.specs.declared.Refusal.{Refusal}
use Rattle.nq_base.specs.declared.Reply.{Reply}
use Rattle.nq_base.specs.declared.Request.{Request}
use Rattle.nq_base.specs.declared.Row.{Row}
use Rattle.nq_base.specs.declared.Want.{Want}
use Rattle.nq_base.specs.declared.Who.{Who}
use Rattle.walk_files.proofs.ServerChains.{NewGrant, NewReply}
use Rattle.walk_steps.proofs.ClientMoves.{some-same, none-some}
use Rattle.walk_steps.proofs.Covers.{granted-key}
use Rattle.walk_steps.proofs.TermsDrawn.{standing-serving}
use Rattle.walk_steps.proofs.Sequences.{reads-no-seq}
use Rattle.nq_model.specs.protocol.Ask.{marked, grant_of, sharing_row, caching_row, shared_again, renewed_row}
use Rattle.nq_model.specs.protocol.Decide.{Decision, commits, row_after, decides, creates, writes_through, stores, wrote, stores_recovering, resizes, removes}
use Rattle.nq_model.specs.protocol.Decide.{puts_off, in_the_way, verdict_reply}
use Rattle.nq_model.specs.protocol.Hear.{inc_of}
use Rattle.nq_model.specs.protocol.Kept.{File, Kept, host_row, with_row, with_files, with_new_file}
use Rattle.nq_model.specs.laws.LeaseInterval.{is_at_least, grant_in, requested_file}
use Rattle.nq_model.specs.protocol.Message.{Message, Packet, reply, Datagram, request, asker, sequence_of}
use Rattle.nq_model.specs.protocol.Profile.{most_hosts}
use Rattle.nq_model.specs.protocol.Server.{serving, Server, ServerStep, standing, to_host, quiet, drops, says, notices, keeping, keeping_with, with_table}
use Rattle.nq_model.specs.protocol.Server.{after_notices}
use Rattle.nq_model.specs.protocol.ServerStep.{attaches, vacates, tells_later, serves, leases, to_read, access_of, receive}
use Rattle.nq_model.specs.protocol.Table.{Table, caches, find_row, put_row, next_tag, with_rows, after_draw}
use Rattle.walk_steps.proofs.Packets.{In, in-append, Asked, Told, told-same, reply-same}
use Rattle.walk_steps.proofs.ServerSays.{verdict-inc, verdict-grant, plain-inc, plain-grant, notices-no-reply}
use Rattle.walk_steps.proofs.LogGrants.{granted-tag}
use Rattle.walk_steps.proofs.ServerNumbers.{LinesFitOf}
use Rattle.walk_steps.proofs.AskCases.{own_in, IsGranted, shares_again, begins_sharing, begins_caching, renews_row}
use Rattle.walk_steps.proofs.KeptChanges.{own-line}
use Rattle.walk_steps.proofs.Modes.{at-least-more, greater-caches}
use Rattle.walk_steps.proofs.RowChanges.{find-put-same}
use Rattle.walk_steps.proofs.ServerCases.{server-hears}
use Rattle.walk_steps.proofs.ServerOutcomes.{only_asks, wanted_by, line_of, IsFrom, IsFresh, IsAsking, IsPlain, unattached, attached_again, not_yet}
use Rattle.walk_steps.proofs.ServerOutcomes.{no_entry, entry, no_attributes, attributes, no_file, no_block, decided_again, is_old, ServerCases}
use Rattle.walk_steps.proofs.ServerOutcomes.{error-no-reply}

-- ---- grants

granted-alone : (table : Table) (q : Question) (want : Want) (row : Row) (term : ℕ) → IsGranted table q want row term → caches row.mode ≡ false
    → row.since ≡ row.tag
unfolding sharing_row caching_row shared_again renewed_row
granted-alone table q want row term (shares_again own found stays shares is lasts) c = ap (λ r. r.since) is ∙ sym (ap (λ r. r.tag) is)
granted-alone table q want row term (begins_sharing none room shared is lasts) c = ap (λ r. r.since) is ∙ sym (ap (λ r. r.tag) is)
granted-alone table q want row term (begins_caching none room shared is lasts) c = ap (λ r. r.since) is ∙ sym (ap (λ r. r.tag) is)
granted-alone table q want row term (renews_row own found stays caching is lasts) c =
    let still : caches row.mode ≡ true = ap (λ r. caches r.mode) is ∙ greater-caches own.mode want.mode caching in
    absurd (cc)

granted-origin : (table : Table) (q : Question) (want : Want) (row : Row) (term : ℕ) → IsGranted table q want row term
    → (row.since ≡ next_tag table) ⊎
    ((own : Row) × (own_in table q ≡ Some own) × (row.since ≡ own.since)
    × ((mode : Mode) → is_at_least own.mode mode ≡ true → is_at_least row.mode mode ≡ true))
unfolding sharing_row caching_row shared_again renewed_row
granted-origin table q want row term (shares_again own found stays shares is lasts) = inl (ap (λ r. r.since) is)
granted-origin table q want row term (begins_sharing none room shared is lasts) = inl (ap (λ r. r.since) is)
granted-origin table q want row term (begins_caching none room shared is lasts) = inl (ap (λ r. r.since) is)
granted-origin table q want row term (renews_row own found stays caching is lasts) =
    inr (own, found, ap (λ r. r.since) is, λ mode h. subst (λ r. is_at_least r.mode mode ≡ true) (sym is) (at-least-more own.mode want.mode mode h))

-- a grant of a row that was put
new-grant : (s t : Server) (w : Who) (f : File) (want : Want) (row : Row) (term : ℕ) (sender : ℕ) → IsAsking s sender w f
    → IsGranted s.table (to_read s w f (Some want)) want row term → t.phase ≡ serving → t.kept ≡ s.kept → t.table.rows ≡ put_row row s.table.rows
    → NewGrant s t w f.id (grant_of (to_read s w f (Some want)) row term)
unfolding grant_of
new-grant s t w f want row term sender asking g q same rows =
    let p = asking.serves in
    let question : Question = to_read s w f (Some want) in
    let key = granted-key s.table question want row term g in
    record {
      serves = p;
      same = same;
      f = f;
      found = asking.found;
      rev = refl;
      blocks = refl;
      tag = granted-tag s.table question want row term g;
      row = row;
      stands =
          subst (λ x. find_row f.id w.host x.rows ≡ Some row) (sym (standing-serving t q))
          (ap (find_row f.id w.host) rows
          ∙ subst (λ n. find_row n w.host (put_row row s.table.rows) ≡ Some row) key.0
          (subst (λ n. find_row row.file n (put_row row s.table.rows) ≡ Some row) key.1 (find-put-same row s.table.rows)));
      row_tag = refl;
      row_since = refl;
      row_mode = refl;
      alone = granted-alone s.table question want row term g;
      origin = step (granted-origin s.table question want row term g);
    }
  where
    step : (row.since ≡ next_tag s.table)
        ⊎ ((own : Row) × (own_in s.table (to_read s w f (Some want)) ≡ Some own) × (row.since ≡ own.since)
        × ((mode : Mode) → is_at_least own.mode mode ≡ true → is_at_least row.mode mode ≡ true))
        → (row.since ≡ next_tag s.table)
        ⊎ ((own : Row) × (find_row f.id w.host (standing s).rows ≡ Some own) × (row.since ≡ own.since)
        × ((mode : Mode) → is_at_least own.mode mode ≡ true → is_at_least row.mode mode ≡ true))
    step (inl fresh) = inl fresh
    step (inr own) = inr (own.0, subst (λ x. find_row f.id w.host x.rows ≡ Some own.0) (sym (standing-serving s asking.serves)) own.1, own.2, own.3)

-- ---- replies

module _ (ps : List Packet) (s : Server) (sender next : ℕ) (d : Datagram) (was_sent : (x : ℕ) (r : Request) → d ≡ request x r → Asked ps sender x r)
    (no_null : (x : ℕ) → d ≡ request x Request.Null → ⊥) (lines : LinesFitOf s) where
  abbrev Replies : ServerStep → Type 0
  Replies t = (host x : ℕ) (a : Reply) → Told t.sends host (reply x a) → NewReply ps s t.server host x a

  one : (t : Server) (host' : ℕ) (m : Message) → ((x : ℕ) (a : Reply) → m ≡ reply x a → NewReply ps s t host' x a) → (host x : ℕ) (a : Reply)
      → Told (to_host host' m ∷ []) host (reply x a) → NewReply ps s t host x a
  one t host' m new host x a (inl e) = let k = told-same host' host m (reply x a) e in subst (λ n. NewReply ps s t n x a) k.0 (new x a k.1)
  one t host' m new host x a (inr bad) = absurd bad

  after-notices : (t : Server) (y : ℕ) (rows : List Row) (sends : List Packet)
      → ((host x : ℕ) (a : Reply) → Told sends host (reply x a) → NewReply ps s t host x a) → (host x : ℕ) (a : Reply)
      → Told (notices y rows ++ sends) host (reply x a) → NewReply ps s t host x a
  after-notices t y rows sends new host x a i = step (in-append (notices y rows) sends (to_host host (reply x a)) i)
    where
      step : In (notices y rows) (to_host host (reply x a)) ⊎ In sends (to_host host (reply x a)) → NewReply ps s t host x a
      step (inl bad) = absurd (notices-no-reply y rows host x a bad)
      step (inr there) = new host x a there

  sent-to : (x : ℕ) (r : Request) (w : Who) → d ≡ request x r → w.host ≡ sender → Asked ps w.host x r
  sent-to x r w e from = subst (λ n. Asked ps n x r) (sym from) (was_sent x r e)

  -- a reply to a request without a sequence, with or without a grant
  plain-new : (t : Server) (x : ℕ) (r : Request) (w : Who) (a : Reply) → d ≡ request x r → asker r ≡ Some w → w.host ≡ sender → inc_of a ≡ w.inc
      → sequence_of r ≡ None → ((g : Grant) → grant_in a ≡ Some g → (file : ℕ) → requested_file r ≡ Some file → NewGrant s t w file g)
      → (host y : ℕ) (k : Reply) → Told (to_host w.host (reply x a) ∷ []) host (reply y k) → NewReply ps s t host y k
  plain-new t x r w a e by from inc none grants = one t w.host (reply x a) (λ y k is.
      let m = reply-same x y a k is in
      subst (λ n. NewReply ps s t w.host n k) m.0 (subst (λ z. NewReply ps s t w.host x z) m.1 (record {
        asks = r;
        who = w;
        sent = sent-to x r w e from;
        by = by;
        same_host = refl;
        inc = inc;
        verdict = λ n sq. none-some n (sym none ∙ sq);
        grants = grants;
      })))

  asks-plain : (r : Request) → only_asks r ≡ true → sequence_of r ≡ None
  asks-plain (Request.Lookup w name) e = refl
  asks-plain (Request.GetAttr w file) e = refl
  asks-plain (Request.Read w q file block want) e = refl
  asks-plain (Request.GetLease w file want) e = refl
  asks-plain r e = absurd (cc)

  -- what a plain reply is to a request with a sequence
  plain-verdict : (w : Who) (r : Request) (a : Reply) → IsPlain s w r a → (n : ℕ) → sequence_of r ≡ Some n
      → ((line_of s w).seq ≡ n × (a ≡ verdict_reply w.inc (line_of s w).verdict (line_of s w).value r))
      ⊎ ((n < (line_of s w).seq) ⊎ ((line_of s w).inc < w.inc))
  plain-verdict w r a (unattached later other is) n sq = inr (inr later)
  plain-verdict w r a (attached_again asks inc is) n sq = none-some n (ap sequence_of (sym asks) ∙ sq)
  plain-verdict w r a (not_yet inc recovers only is) n sq = none-some n (sym (asks-plain r only) ∙ sq)
  plain-verdict w r a (no_entry name inc p asks none is) n sq = none-some n (ap sequence_of (sym asks) ∙ sq)
  plain-verdict w r a (entry name f inc p asks found is) n sq = none-some n (ap sequence_of (sym asks) ∙ sq)
  plain-verdict w r a (no_attributes file inc p asks none is) n sq = none-some n (ap sequence_of (sym asks) ∙ sq)
  plain-verdict w r a (attributes file f inc p asks found is) n sq = none-some n (ap sequence_of (sym asks) ∙ sq)
  plain-verdict w r a (no_file file inc p on none is) n sq = none-some n (sym (reads-no-seq r file on) ∙ sq)
  plain-verdict w r a (no_block q file block want f inc p asks found none is) n sq = none-some n (ap sequence_of (sym asks) ∙ sq)
  plain-verdict w r a (decided_again seq inc drawn same is) n sq = inl (sym same ∙ some-same seq n (sym drawn ∙ sq), is)
  plain-verdict w r a (is_old seq inc drawn below is) n sq = let one : seq ≡ n = some-same seq n (sym drawn ∙ sq) in inr (inl (omega arith))

  plain-replies : (x : ℕ) (w : Who) (r : Request) (a : Reply) → d ≡ request x r → asker r ≡ Some w → IsFrom sender w → IsPlain s w r a
      → (host y : ℕ) (k : Reply) → Told (to_host w.host (reply x a) ∷ []) host (reply y k) → NewReply ps s s host y k
  plain-replies x w r a e by from plain = one s w.host (reply x a) (λ y k is.
      let m = reply-same x y a k is in
      subst (λ n. NewReply ps s s w.host n k) m.0 (subst (λ z. NewReply ps s s w.host x z) m.1 (record {
        asks = r;
        who = w;
        sent = sent-to x r w e from.host;
        by = by;
        same_host = refl;
        inc = plain-inc s w r a plain;
        verdict = plain-verdict w r a plain;
        grants = λ g gives. none-some g (sym (plain-grant s w r a plain) ∙ gives);
      })))

  -- the reply to a request that is decided
  decided-replies : (kept : Kept) (t : Server) (x seq : ℕ) (w : Who) (r : Request) (k : Decision) → t.kept ≡ with_row kept w.host (row_after w seq k)
      → kept.hosts ≡ s.kept.hosts → d ≡ request x r → asker r ≡ Some w → sequence_of r ≡ Some seq → IsFresh s sender w seq → (host y : ℕ) (a : Reply)
      → Told (to_host w.host (reply x (verdict_reply w.inc k.verdict k.value r)) ∷ []) host (reply y a) → NewReply ps s t host y a
  decided-replies kept t x seq w r k is same e by sq fresh = one t w.host (reply x (verdict_reply w.inc k.verdict k.value r)) (λ y a eq.
      let m = reply-same x y (verdict_reply w.inc k.verdict k.value r) a eq in
      subst (λ n. NewReply ps s t w.host n a) m.0 (subst (λ z. NewReply ps s t w.host x z) m.1 (record {
        asks = r;
        who = w;
        sent = sent-to x r w e fresh.current.from.host;
        by = by;
        same_host = refl;
        inc = verdict-inc w.inc k.verdict k.value r seq sq;
        verdict = λ n q. inl (ap (λ l. l.seq) line ∙ some-same seq n (sym sq ∙ q), ap (λ l. verdict_reply w.inc l.verdict l.value r) (sym line));
        grants = λ g gives. none-some g (sym (verdict-grant w.inc k.verdict k.value r) ∙ gives);
      })))
    where
      line : host_row t.kept w.host ≡ row_after w seq k
      line =
          ap (λ z. host_row z w.host) is ∙ own-line kept w.host (row_after w seq k)
          (let few = fresh.current.from.possible in let all : length kept.hosts ≡ most_hosts = ap length same ∙ lines in omega arith)

  replies-cases : ServerCases s sender next d Replies
  unfolding quiet drops says attaches vacates tells_later serves leases commits decides creates writes_through stores wrote stores_recovering
      resizes removes puts_off keeping keeping_with with_table after_notices with_files with_new_file after_draw
  replies-cases = record {
    stays = λ host x a bad. absurd bad;
    dropping = λ reason host x a bad. absurd bad;
    erring = λ m e. one s sender m (λ x a is. absurd (error-no-reply d m x a e is));
    answers_null = λ x e. absurd (no_null x e);
    replying = λ x w r a e by from plain. plain-replies x w r a e by from plain;
    attaching = λ x w e from later. plain-new _ x (Request.Attach w) w _ e refl from.host refl refl (λ g gives. none-some g gives);
    vacating = λ x w file tag e current host y a bad. absurd bad;
    putting_off =
        λ x w r f clash e by on asking k. after-notices _ s.notice (in_the_way s f.id w.host (access_of (wanted_by r))) _
        (plain-new _ x r w _ e by asking.current.from.host refl (reads-no-seq r f.id on) (λ g gives. none-some g gives));
    putting_off_waiting =
        λ x w r f clash want e by on wants asking k own room. after-notices _ s.notice (in_the_way s f.id w.host (access_of (Some want))) _
        (plain-new _ x r w _ e by asking.current.from.host refl (reads-no-seq r f.id on) (λ g gives. none-some g gives));
    putting_off_by_own =
        λ x w r f want own e by on wants asking k o ev. after-notices _ s.notice (own ∷ [])
        (to_host w.host (reply x (Reply.Refused w.inc Refusal.TryLater)) ∷ [])
        (plain-new _ x r w (Reply.Refused w.inc Refusal.TryLater) e by asking.current.from.host refl (reads-no-seq r f.id on)
        (λ g gives. none-some g gives));
    reading = λ x w q block f body e asking there k. plain-new _ x _ w _ e refl asking.current.from.host refl refl (λ g gives. none-some g gives);
    reading_full =
        λ x w q block want f body e asking there k own room. plain-new _ x _ w _ e refl asking.current.from.host refl refl (λ g gives. none-some g gives);
    reading_granted =
        λ x w q block want f body row term e asking there k g. plain-new
        (serves s w x next q f block body (after_draw s.table (put_row row s.table.rows)) (Some (grant_of (to_read s w f (Some want)) row term))).server
        x (Request.Read w q f.id block (Some want)) w (Reply.Read w.inc f.rev body (Some (grant_of (to_read s w f (Some want)) row term))) e
        refl asking.current.from.host refl refl
        (λ gr gives file on. subst (λ n. NewGrant s
        (serves s w x next q f block body (after_draw s.table (put_row row s.table.rows))
        (Some (grant_of (to_read s w f (Some want)) row term))).server w n gr) (some-same f.id file on)
        (subst
        (λ z. NewGrant s (serves s w x next q f block body (after_draw s.table (put_row row s.table.rows))
        (Some (grant_of (to_read s w f (Some want)) row term))).server w f.id z) (some-same _ gr gives)
        (new-grant s _ w f want row term sender asking g asking.serves refl refl)));
    leasing_full = λ x w want f e asking k own room. plain-new _ x _ w _ e refl asking.current.from.host refl refl (λ g gives. none-some g gives);
    leasing =
        λ x w want f row term e asking k g. plain-new
        (leases s w x f.id (after_draw s.table (put_row row s.table.rows)) (Some (grant_of (to_read s w f (Some want)) row term))).server x
        (Request.GetLease w f.id want) w (Reply.GetLease w.inc (Some (grant_of (to_read s w f (Some want)) row term))) e refl asking.current.from.host
        refl refl
        (λ gr gives file on. subst (λ n. NewGrant s
        (leases s w x f.id (after_draw s.table (put_row row s.table.rows)) (Some (grant_of (to_read s w f (Some want)) row term))).server w n gr)
        (some-same f.id file on) (subst
        (λ z. NewGrant s (leases s w x f.id (after_draw s.table (put_row row s.table.rows))
        (Some (grant_of (to_read s w f (Some want)) row term))).server w f.id z) (some-same _ gr gives)
        (new-grant s _ w f want row term sender asking g asking.serves refl refl)));
    declining = λ x w seq r v e by sq fresh declined. decided-replies s.kept _ x seq w r (decides s v) refl refl e by sq fresh;
    putting_off_change =
        λ x w seq r f clash e by sq changes base changing k. after-notices _ s.notice (in_the_way s f.id w.host Access.Write) _
        (decided-replies s.kept _ x seq w r (puts_off s w f.id (with_rows s.table (marked f.id w.host Access.Write s.table.rows))) refl refl e by sq
        changing.fresh);
    creating = λ x w seq blocks name e fresh serves can. decided-replies _ _ x seq w _ (creates s name blocks) refl refl e refl refl fresh;
    writing_through =
        λ x w seq block first last body f e changing below k. decided-replies _ _ x seq w _ (writes_through s w f block first body) refl refl e refl
        refl changing.fresh;
    storing =
        λ x w seq block first last base body f row e changing below can. decided-replies _ _ x seq w _ (stores s w f row block first last body) refl
        refl e refl refl changing.fresh;
    storing_recovering =
        λ x w seq block first final base body f until heard last e fresh p found below boot rev. decided-replies _ _ x seq w _
        (stores_recovering s until last w f block first final body) refl refl e refl refl fresh;
    resizing = λ x w seq q blocks f e changing can k. decided-replies _ _ x seq w _ (resizes s w q f blocks) refl refl e refl refl changing.fresh;
    removing = λ x w seq q f e changing k. decided-replies _ _ x seq w _ (removes s w q f) refl refl e refl refl changing.fresh;
  }

  -- all replies to a datagram
  pub replies-received : (host x : ℕ) (a : Reply) → Told (receive s sender next d).sends host (reply x a)
      → NewReply ps s (receive s sender next d).server host x a
  replies-received = server-hears s sender next d Replies replies-cases
