-- What is known of kept files before a step of the server, and the steps that leave kept files as they are: what they reply is true.
use Rattle.std.proofs.Common.{◌≡◌, ◌≤◌, ◌<◌, ◌⊎◌, ℕ, ◌+◌, List, [], ◌∷◌, ◌++◌, Option, Some, None, refl, sym, subst, ap, ◌∙◌, arith, inl, inr}
use Rattle.std.specs.Prelude.{slice_get}
use Rattle.nq_base.specs.Block.{value_of}
use Rattle.nq_base.specs.declared.Entry.{Entry}
use Rattle.nq_base.specs.declared.Grant.{Grant}
use Rattle.nq_base.specs.declared.PushBase.{PushBase}
use Rattle.nq_base.specs.declared.Refusal.{Refusal}
use Rattle.nq_base.specs.declared.Reply.{Reply}
use Rattle.nq_base.specs.declared.Request.{Request}
use Rattle.nq_base.specs.declared.Row.{Row}
use Rattle.nq_base.specs.declared.Verdict.{Verdict}
use Rattle.nq_base.specs.declared.Want.{Want}
use Rattle.nq_base.specs.declared.Who.{Who}
use Rattle.walk_files.proofs.Facts.{History, Follows, follows, tells-follows, HadLength, GrantTells, Tells, LineTells, line-follows, IsFile}
use Rattle.walk_files.proofs.Facts.{FilesFit, UnusedFit}
use Rattle.walk_files.proofs.FileMoves.{files-idle, unused-idle}
use Rattle.walk_files.proofs.Histories.{NoChanges}
use Rattle.walk_files.proofs.ServerDoes.{file-value, file-length, IsTrue, history_of, Shows, refused-tells, verdict-tells}
use Rattle.nq_model.specs.laws.Contents.{delayed_value}
use Rattle.nq_model.specs.laws.Told.{GrantIsOf}
use Rattle.nq_model.specs.protocol.Decide.{verdict_reply}
use Rattle.nq_model.specs.protocol.Hear.{inc_of}
use Rattle.nq_model.specs.protocol.Kept.{File, blocks_of, find_file, host_row, with_row}
use Rattle.nq_model.specs.protocol.Message.{Message, reply, Packet, Datagram, Reason, request, asker, sequence_of}
use Rattle.nq_model.specs.protocol.Server.{Server, ServerStep, to_host, says, quiet, drops, notices, keeping_with, with_table, after_notices}
use Rattle.nq_model.specs.protocol.ServerStep.{attaches, tells_later, serves, leases, grants}
use Rattle.nq_model.specs.protocol.Table.{Table}
use Rattle.walk_steps.proofs.Packets.{In, in-append, Asked, told-same, reply-same}
use Rattle.walk_steps.proofs.ServerSays.{plain-inc, notices-no-reply}
use Rattle.walk_steps.proofs.Incarnations.{one-who}
use Rattle.walk_steps.proofs.KeptChanges.{line-as}
use Rattle.walk_steps.proofs.ServerOutcomes.{error_for, IsFrom, IsPlain, unattached, attached_again, not_yet, no_entry, entry}
use Rattle.walk_steps.proofs.ServerOutcomes.{no_attributes, attributes, no_file, no_block, decided_again, is_old, error-no-reply}

-- ---- what is known before

-- the lengths with which files were made, after a step that draws ids from this one on
pub record IsFirst (first after : ℕ → ℕ) (next : ℕ) (files : List File) : Type 0 where
  pub same : (id : ℕ) → id < next → after id ≡ first id
  pub made : (id : ℕ) (f : File) → next ≤ id → find_file id files ≡ Some f → after id ≡ blocks_of f

pub record Hearing (journal : List Entry) (first : ℕ → ℕ) (ps : List Packet) (s : Server) (sender : ℕ) (d : Datagram) : Type 0 where
  pub files : FilesFit (history_of journal first s) s.kept.files
  pub unused : UnusedFit (history_of journal first s)
  pub lines : (host : ℕ) → LineTells (history_of journal first s) ps host (host_row s.kept host)
  pub sent : (xid : ℕ) (r : Request) → d ≡ request xid r → Asked ps sender xid r
  pub no_null : (xid : ℕ) → d ≡ request xid Request.Null → ⊥
  pub once : (x y : ℕ) (r t : Request) (w : Who) (n : ℕ) → Asked ps sender x r → Asked ps sender y t → asker r ≡ Some w → asker t ≡ Some w
      → sequence_of r ≡ Some n → sequence_of t ≡ Some n → r ≡ t
  pub positive : (x : ℕ) (r : Request) → Asked ps sender x r → sequence_of r ≡ Some 0 → ⊥
  pub pushed : (x : ℕ) (who : Who) (seq file block f l : ℕ) (base : PushBase) (body : List ℕ)
      → Asked ps sender x (Request.Write who seq file block f l (Some base) body) → delayed_value journal who file block l ≡ Some (value_of body)

module _ (journal : List Entry) (first after : ℕ → ℕ) (ps : List Packet) (s : Server) (sender next : ℕ) (d : Datagram)
    (h : Hearing journal first ps s sender d) where
  abbrev pub before : History
  before = history_of journal first s

  abbrev pub ShowsIf : ServerStep → Type 0
  ShowsIf t = IsFirst first after s.kept.next t.server.kept.files → Shows journal first after ps s t

  -- ---- the kept state stays

  pub idle : (t : ServerStep) → t.server.kept ≡ s.kept → NoChanges t.entries
      → (IsFirst first after s.kept.next s.kept.files → (host xid : ℕ) (a : Reply) → In t.sends (to_host host (reply xid a))
      → IsTrue (record { journal = t.entries ++ journal; first = after; next = s.kept.next }) ps host xid a) → ShowsIf t
  idle t same none replies is =
      let was : IsFirst first after s.kept.next s.kept.files = subst (λ k. IsFirst first after s.kept.next k.files) same is in
      let g : History = record { journal = t.entries ++ journal; first = after; next = s.kept.next } in
      let follow : Follows before g = follows before t.entries after s.kept.next (omega arith) was.same in
      record {
        follow = subst (λ k. Follows before (record { journal = t.entries ++ journal; first = after; next = k.next })) (sym same) follow;
        files =
            subst (λ k. FilesFit (record { journal = t.entries ++ journal; first = after; next = k.next }) k.files) (sym same)
            (files-idle before t.entries after none was.same s.kept.files h.files);
        unused =
            subst (λ k. UnusedFit (record { journal = t.entries ++ journal; first = after; next = k.next })) (sym same)
            (unused-idle before t.entries after s.kept.next none (omega arith) h.unused);
        replies =
            subst (λ k. (host xid : ℕ) (a : Reply) → In t.sends (to_host host (reply xid a))
            → IsTrue (record { journal = t.entries ++ journal; first = after; next = k.next }) ps host xid a) (sym same) (replies was);
        lines =
            subst (λ k. (host : ℕ) → LineTells (record { journal = t.entries ++ journal; first = after; next = k.next }) ps host (host_row k host))
            (sym same) (λ host. line-follows ps ps host (host_row s.kept host) follow (λ x r a. a) (h.lines host));
      }

  -- a reply to the request of the datagram
  pub is-true : (g : History) (xid : ℕ) (who : Who) (r : Request) (a : Reply) → d ≡ request xid r → asker r ≡ Some who → who.host ≡ sender
      → inc_of a ≡ who.inc → Tells g r a → IsTrue g ps who.host xid a
  is-true g xid who r a e by from inc tells =
      record { asks = r; who = who; sent = subst (λ n. Asked ps n xid r) (sym from) (h.sent xid r e); by = by; inc = inc; tells = tells }

  one-true : (g : History) (host xid : ℕ) (a : Reply) → IsTrue g ps host xid a → (other y : ℕ) (b : Reply)
      → to_host host (reply xid a) ≡ to_host other (reply y b) → IsTrue g ps other y b
  one-true g host xid a k other y b e =
      let t = told-same host other (reply xid a) (reply y b) e in
      let p = reply-same xid y a b t.1 in
      subst (λ n. IsTrue g ps n y b) t.0 (subst (λ n. IsTrue g ps host n b) p.0 (subst (λ z. IsTrue g ps host xid z) p.1 k))

  only-true : (g : History) (host xid : ℕ) (a : Reply) → IsTrue g ps host xid a → (other y : ℕ) (b : Reply)
      → In (to_host host (reply xid a) ∷ []) (to_host other (reply y b)) → IsTrue g ps other y b
  only-true g host xid a k other y b (inl e) = one-true g host xid a k other y b e
  only-true g host xid a k other y b (inr bad) = absurd bad

  pub last-true : (g : History) (more : List Packet) → ((other y : ℕ) (b : Reply) → In more (to_host other (reply y b)) → ⊥) → (host xid : ℕ) (a : Reply)
      → IsTrue g ps host xid a → (other y : ℕ) (b : Reply) → In (more ++ to_host host (reply xid a) ∷ []) (to_host other (reply y b))
      → IsTrue g ps other y b
  last-true g more none host xid a k other y b i = case (in-append more (to_host host (reply xid a) ∷ []) (to_host other (reply y b)) i)
    where
      case : In more (to_host other (reply y b)) ⊎ In (to_host host (reply xid a) ∷ []) (to_host other (reply y b)) → IsTrue g ps other y b
      case (inl bad) = absurd (none other y b bad)
      case (inr one) = only-true g host xid a k other y b one

  pub stays : ShowsIf (quiet s)
  unfolding quiet
  stays = idle (quiet s) refl tt (λ is host xid a bad. absurd bad)

  pub dropping : (reason : Reason) → ShowsIf (drops s reason)
  unfolding drops
  dropping reason = idle (drops s reason) refl tt (λ is host xid a bad. absurd bad)

  pub erring : (m : Message) → error_for d ≡ Some m → ShowsIf (says s sender m)
  unfolding says
  erring m e = idle (says s sender m) refl tt (λ is host xid a i. absurd (none host xid a i))
    where
      none : (host xid : ℕ) (a : Reply) → In (to_host sender m ∷ []) (to_host host (reply xid a)) → ⊥
      none host xid a (inl f) = error-no-reply d m xid a e (told-same sender host m (reply xid a) f).1
      none host xid a (inr bad) = bad

  -- the reply that was given before
  again-tells : (who : Who) (r : Request) (xid seq : ℕ) → d ≡ request xid r → asker r ≡ Some who → who.host ≡ sender
      → who.inc ≡ (host_row s.kept who.host).inc → sequence_of r ≡ Some seq → seq ≡ (host_row s.kept who.host).seq
      → LineTells before ps who.host (host_row s.kept who.host)
      → Tells before r (verdict_reply who.inc (host_row s.kept who.host).verdict (host_row s.kept who.host).value r)
  again-tells who r xid seq e by from inc sq same (inl none) = absurd (h.positive xid r (h.sent xid r e) (sq ∙ ap Some (same ∙ none)))
  again-tells who r xid seq e by from inc sq same (inr k) =
      let one : k.who ≡ who = one-who k.who who k.home (k.inc ∙ sym inc) in
      let it : k.asks ≡ r = h.once k.xid xid k.asks r who (host_row s.kept who.host).seq (subst (λ n. Asked ps n k.xid k.asks) from k.sent)
      (h.sent xid r e) (k.by ∙ ap Some one) by k.sequence (sq ∙ ap Some same) in
      subst (λ z. Tells before z (verdict_reply who.inc (host_row s.kept who.host).verdict (host_row s.kept who.host).value z)) it
      (verdict-tells before who.inc (host_row s.kept who.host).verdict (host_row s.kept who.host).value k.asks k.done)

  -- a plain reply tells nothing of contents, but for one that was given before
  plain-tells : (xid : ℕ) (who : Who) (r : Request) (a : Reply) → d ≡ request xid r → asker r ≡ Some who → IsFrom sender who → IsPlain s who r a
      → Tells before r a
  plain-tells xid who r a e by from (unattached above other is) = subst (λ z. Tells before r z) (sym is) (refused-tells before r who.inc _)
  plain-tells xid who r a e by from (attached_again asks same is) =
      subst (λ q. Tells before q a) (sym asks) (subst (λ z. Tells before (Request.Attach who) z) (sym is) tt)
  plain-tells xid who r a e by from (not_yet same rec only is) = subst (λ z. Tells before r z) (sym is) (refused-tells before r who.inc _)
  plain-tells xid who r a e by from (no_entry name same p asks none is) = subst (λ z. Tells before r z) (sym is) (refused-tells before r who.inc _)
  plain-tells xid who r a e by from (entry name f same p asks some is) =
      subst (λ q. Tells before q a) (sym asks) (subst (λ z. Tells before (Request.Lookup who name) z) (sym is) tt)
  plain-tells xid who r a e by from (no_attributes file same p asks none is) = subst (λ z. Tells before r z) (sym is) (refused-tells before r who.inc _)
  plain-tells xid who r a e by from (attributes file f same p asks some is) =
      subst (λ q. Tells before q a) (sym asks) (subst (λ z. Tells before (Request.GetAttr who file) z) (sym is) tt)
  plain-tells xid who r a e by from (no_file file same p on none is) = subst (λ z. Tells before r z) (sym is) (refused-tells before r who.inc _)
  plain-tells xid who r a e by from (no_block q file block want f same p asks some none is) =
      subst (λ z. Tells before r z) (sym is) (refused-tells before r who.inc _)
  plain-tells xid who r a e by from (decided_again seq inc sq same is) =
      subst (λ z. Tells before r z) (sym is) (again-tells who r xid seq e by from.host inc sq same (h.lines who.host))
  plain-tells xid who r a e by from (is_old seq inc sq below is) = subst (λ z. Tells before r z) (sym is) (refused-tells before r who.inc _)

  pub replying : (xid : ℕ) (who : Who) (r : Request) (a : Reply) → d ≡ request xid r → asker r ≡ Some who → IsFrom sender who → IsPlain s who r a
      → ShowsIf (says s who.host (reply xid a))
  unfolding says
  replying xid who r a e by from p =
      idle (says s who.host (reply xid a)) refl tt
      (λ is. only-true _ who.host xid a
      (is-true _ xid who r a e by from.host (plain-inc s who r a p)
      (tells-follows r a (follows before [] after s.kept.next (omega arith) is.same) (plain-tells xid who r a e by from p))))

  -- a grant of a kept file
  grant-tells : (g : History) (f : File) (o : Option Grant) → IsFile g f.id f → ((x : Grant) → o ≡ Some x → (x.rev ≡ f.rev) × (x.blocks ≡ blocks_of f))
      → GrantTells g f.id o × GrantIsOf f.rev o
  grant-tells g f None k grants = (tt, tt)
  grant-tells g f (Some x) k grants =
      let same = grants x refl in
      (subst (λ n. HadLength g f.id n x.blocks) (sym same.0) (subst (λ n. HadLength g f.id f.rev n) (sym same.1) (file-length f.id f k)), same.0)

  no-changes-granted : (who : Who) (file : ℕ) (o : Option Grant) → NoChanges (grants s who file o)
  no-changes-granted who file None = tt
  no-changes-granted who file (Some g) = ((λ n. refl), tt)

  -- a kept file after entries that change none
  still-file : (es : List Entry) → NoChanges es → IsFirst first after s.kept.next s.kept.files → (f : File) → find_file f.id s.kept.files ≡ Some f
      → IsFile (record { journal = es ++ journal; first = after; next = s.kept.next }) f.id f
  still-file es none is f found = files-idle before es after none is.same s.kept.files h.files f.id f found

  pub serving : (xid : ℕ) (who : Who) (q block : ℕ) (f : File) (body : List ℕ) (want : Option Want) (table : Table) (grant : Option Grant)
      → d ≡ request xid (Request.Read who q f.id block want) → who.host ≡ sender → find_file f.id s.kept.files ≡ Some f
      → slice_get f.bodies block ≡ Some body → ((g : Grant) → grant ≡ Some g → (g.rev ≡ f.rev) × (g.blocks ≡ blocks_of f))
      → ShowsIf (serves s who xid next q f block body table grant)
  unfolding serves with_table
  serving xid who q block f body want table grant e from found there granted =
      let none : NoChanges (Entry.R who q f.id block (value_of body) (Some next) ∷ grants s who f.id grant) =
      ((λ n. refl), no-changes-granted who f.id grant) in
      idle (serves s who xid next q f block body table grant) refl none (λ is.
      let k = still-file (Entry.R who q f.id block (value_of body) (Some next) ∷ grants s who f.id grant) none is f found in
      let t = grant-tells _ f grant k granted in
      only-true _ who.host xid (Reply.Read who.inc f.rev body grant)
      (is-true _ xid who (Request.Read who q f.id block want) (Reply.Read who.inc f.rev body grant) e refl from refl
      (file-value f.id f block body k there, t.0, t.1)))

  pub leasing : (xid : ℕ) (who : Who) (f : File) (want : Want) (table : Table) (grant : Option Grant) → d ≡ request xid (Request.GetLease who f.id want)
      → who.host ≡ sender → find_file f.id s.kept.files ≡ Some f → ((g : Grant) → grant ≡ Some g → (g.rev ≡ f.rev) × (g.blocks ≡ blocks_of f))
      → ShowsIf (leases s who xid f.id table grant)
  unfolding leases with_table
  leasing xid who f want table grant e from found granted =
      let none : NoChanges (grants s who f.id grant) = no-changes-granted who f.id grant in
      idle (leases s who xid f.id table grant) refl none (λ is.
      let k = still-file (grants s who f.id grant) none is f found in
      let t = grant-tells _ f grant k granted in
      only-true _ who.host xid (Reply.GetLease who.inc grant)
      (is-true _ xid who (Request.GetLease who f.id want) (Reply.GetLease who.inc grant) e refl from refl t.0))

  pub later : (xid : ℕ) (who : Who) (r : Request) (table : Table) (rows : List Row) → d ≡ request xid r → asker r ≡ Some who → who.host ≡ sender
      → ShowsIf (tells_later s who xid table rows)
  unfolding tells_later after_notices
  later xid who r table rows e by from =
      idle (tells_later s who xid table rows) refl tt (λ is.
      last-true _ (notices s.notice rows) (λ other y b. notices-no-reply s.notice rows other y b) who.host xid (Reply.Refused who.inc Refusal.TryLater)
      (is-true _ xid who r (Reply.Refused who.inc Refusal.TryLater) e by from refl (refused-tells _ r who.inc Refusal.TryLater)))

  pub attaching : (xid : ℕ) (who : Who) → d ≡ request xid (Request.Attach who) → who.host ≡ sender → ShowsIf (attaches s who xid)
  unfolding attaches keeping_with with_row
  attaching xid who e from is =
      let g : History = record { journal = journal; first = after; next = s.kept.next } in
      let follow : Follows before g = follows before [] after s.kept.next (omega arith) is.same in
      record {
        follow = follow;
        files = files-idle before [] after tt is.same s.kept.files h.files;
        unused = unused-idle before [] after s.kept.next tt (omega arith) h.unused;
        replies = only-true g who.host xid (Reply.Attach who.inc) (is-true g xid who (Request.Attach who) (Reply.Attach who.inc) e refl from refl tt);
        lines =
            λ host. line-as s.kept who.host host (record { inc = who.inc; seq = 0; verdict = Verdict.Done; value = 0 }) (LineTells g ps host)
            (line-follows ps ps host (host_row s.kept host) follow (λ x r a. a) (h.lines host)) (λ same. inl refl);
      }
