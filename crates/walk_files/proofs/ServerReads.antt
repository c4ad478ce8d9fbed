-- What a server's step reads, and what its replies tell of blocks.
use Rattle.std.proofs.Common.{◌≡◌, ◌⊎◌, ℕ, ◌+◌, ◌%◌, Bool, true, false, List, [], ◌∷◌, ◌++◌, Option, Some, None, refl, sym, subst, ap, ◌∙◌, inl, inr}
use Rattle.std.specs.Prelude.{slice_get}
use Rattle.nq_base.specs.declared.Entry.{Entry}
use Rattle.nq_base.specs.declared.Entry.TheVariants.{A, R}
use Rattle.nq_base.specs.declared.Grant.{Grant}
use Rattle.nq_base.specs.declared.Reply.{Reply}
use Rattle.nq_base.specs.declared.Request.{Request}
use Rattle.nq_base.specs.declared.Row.{Row}
use Rattle.nq_base.specs.declared.Verdict.{Verdict}
use Rattle.nq_base.specs.declared.Want.{Want}
use Rattle.nq_base.specs.declared.Who.{Who}
use Rattle.nq_model.specs.protocol.Decide.{Decision, decides, creates, writes_through, stores, stores_recovering, wrote, resizes, removes, puts_off}
use Rattle.nq_model.specs.protocol.Decide.{verdict_reply, done_reply, commits}
use Rattle.nq_model.specs.laws.Journal.{Each}
use Rattle.nq_model.specs.protocol.Kept.{File, find_file}
use Rattle.nq_model.specs.protocol.Message.{Message, Packet, Datagram, call, reply, request}
use Rattle.nq_model.specs.protocol.Profile.{xid_end}
use Rattle.nq_model.specs.protocol.Server.{Server, ServerStep, to_host, quiet, drops, says, notices}
use Rattle.nq_model.specs.protocol.ServerStep.{attaches, vacates, tells_later, serves, leases, grants, receive, tick, opens, ends_writing, crash}
use Rattle.nq_model.specs.protocol.Table.{Table}
use Rattle.walk_steps.proofs.Packets.{In, in-append, Asked, told-same, reply-same}
use Rattle.walk_steps.proofs.ServerCases.{server-hears, server-ticks}
use Rattle.walk_steps.proofs.ServerOutcomes.{error_for, IsPlain, unattached, attached_again, not_yet, no_entry, entry, no_attributes, attributes}
use Rattle.walk_steps.proofs.ServerOutcomes.{no_file, no_block, decided_again, is_old, error-no-reply}

-- an entry that is no read and no answer
abbrev pub IsUnread : Entry → Type 0
IsUnread (R who q file block value served) = ⊥
IsUnread (A who q said) = ⊥
IsUnread other = Unit {0}

abbrev pub is_read_reply : Reply → Bool
is_read_reply (Reply.Read inc rev body grant) = true
is_read_reply other = false

-- none of the packets tells a block
abbrev pub TellsNone : List Packet → Type 0
TellsNone sends = (host x inc rev : ℕ) (body : List ℕ) (grant : Option Grant) → In sends (to_host host (reply x (Reply.Read inc rev body grant))) → ⊥

pub data ServesRead (ps : List Packet) (s : Server) (next : ℕ) (t : ServerStep) : Type 0 where
  reads_none : TellsNone t.sends → Each IsUnread t.entries → ServesRead ps s next t
  reads_one : (who : Who) (xid q block : ℕ) (f : File) (body : List ℕ) (want : Option Want) (table : Table) (g : Option Grant)
      → t ≡ serves s who xid next q f block body table g → Asked ps who.host xid (Request.Read who q f.id block want)
      → find_file f.id s.kept.files ≡ Some f → slice_get f.bodies block ≡ Some body → ServesRead ps s next t

-- ---- replies

one-told : (host x : ℕ) (a : Reply) → is_read_reply a ≡ false → TellsNone (to_host host (reply x a) ∷ [])
one-told host x a other h y inc rev body grant (inl e) =
    let t = told-same host h (reply x a) (reply y (Reply.Read inc rev body grant)) e in
    let same : a ≡ Reply.Read inc rev body grant = (reply-same x y a _ t.1).1 in
    let yes : is_read_reply a ≡ true = ap is_read_reply same in
    cc
one-told host x a other h y inc rev body grant (inr bad) = bad

last-told : (more : List Packet) (host x : ℕ) (a : Reply) → TellsNone more → is_read_reply a ≡ false → TellsNone (more ++ to_host host (reply x a) ∷ [])
last-told more host x a none other h y inc rev body grant i = case (in-append more (to_host host (reply x a) ∷ []) _ i)
  where
    case : In more (to_host h (reply y (Reply.Read inc rev body grant)))
        ⊎ In (to_host host (reply x a) ∷ []) (to_host h (reply y (Reply.Read inc rev body grant))) → ⊥
    case (inl j) = none h y inc rev body grant j
    case (inr j) = one-told host x a other h y inc rev body grant j

none-told : TellsNone []
none-told h y inc rev body grant i = i

notices-told : (n : ℕ) (rows : List Row) → TellsNone (notices n rows)
notices-told n [] h y inc rev body grant i = i
notices-told n (row ∷ rows) h y inc rev body grant (inl e) = apart (told-same row.who.host h _ (reply y (Reply.Read inc rev body grant)) e).1
  where
    apart : call n (Request.Evicted row.who row.file row.tag) ≡ reply y (Reply.Read inc rev body grant) → ⊥
    apart f = cc
notices-told n (row ∷ rows) h y inc rev body grant (inr i) = notices-told ((n + 1) % xid_end) rows h y inc rev body grant i

error-told : (d : Datagram) (m : Message) (host : ℕ) → error_for d ≡ Some m → TellsNone (to_host host m ∷ [])
error-told d m host is h y inc rev body grant (inl e) =
    error-no-reply d m y (Reply.Read inc rev body grant) is (told-same host h m (reply y (Reply.Read inc rev body grant)) e).1
error-told d m host is h y inc rev body grant (inr bad) = bad

done-unread : (inc value : ℕ) (r : Request) → is_read_reply (done_reply inc value r) ≡ false
done-unread inc value (Request.Create w seq name blocks) = refl
done-unread inc value (Request.Write w seq file block first last push body) = refl
done-unread inc value (Request.Resize w seq q file blocks) = refl
done-unread inc value (Request.Remove w seq q file) = refl
done-unread inc value other = refl

verdict-unread : (inc : ℕ) (v : Verdict) (value : ℕ) (r : Request) → is_read_reply (verdict_reply inc v value r) ≡ false
verdict-unread inc Verdict.Done value r = done-unread inc value r
verdict-unread inc Verdict.Fenced value r = refl
verdict-unread inc Verdict.Exist value r = refl
verdict-unread inc Verdict.NoSpace value r = refl
verdict-unread inc Verdict.Invalid value r = refl
verdict-unread inc Verdict.Stale value r = refl
verdict-unread inc Verdict.TryLater value r = refl

plain-unread : (s : Server) (who : Who) (r : Request) (a : Reply) → IsPlain s who r a → is_read_reply a ≡ false
plain-unread s who r a (unattached above other is) = ap is_read_reply is
plain-unread s who r a (attached_again asks same is) = ap is_read_reply is
plain-unread s who r a (not_yet same rec only is) = ap is_read_reply is
plain-unread s who r a (no_entry name same p asks none is) = ap is_read_reply is
plain-unread s who r a (entry name f same p asks some is) = ap is_read_reply is
plain-unread s who r a (no_attributes file same p asks none is) = ap is_read_reply is
plain-unread s who r a (attributes file f same p asks some is) = ap is_read_reply is
plain-unread s who r a (no_file file same p on none is) = ap is_read_reply is
plain-unread s who r a (no_block q file block want f same p asks some none is) = ap is_read_reply is
plain-unread s who r a (decided_again seq inc sq same is) = ap is_read_reply is ∙ verdict-unread who.inc _ _ r
plain-unread s who r a (is_old seq inc sq below is) = ap is_read_reply is

module _ (ps : List Packet) (s : Server) (sender next : ℕ) (d : Datagram) (sent : (xid : ℕ) (r : Request) → d ≡ request xid r → Asked ps sender xid r) where
  abbrev Q : ServerStep → Type 0
  Q t = ServesRead ps s next t

  grants-unread : (who : Who) (file : ℕ) (o : Option Grant) → Each IsUnread (grants s who file o)
  grants-unread who file None = tt
  grants-unread who file (Some g) = (tt, tt)

  says-one : (host x : ℕ) (a : Reply) → is_read_reply a ≡ false → Q (says s host (reply x a))
  unfolding says
  says-one host x a other = reads_none (one-told host x a other) tt

  says-error : (m : Message) → error_for d ≡ Some m → Q (says s sender m)
  unfolding says
  says-error m is = reads_none (error-told d m sender is) tt

  later : (who : Who) (xid : ℕ) (table : Table) (rows : List Row) → Q (tells_later s who xid table rows)
  unfolding tells_later
  later who xid table rows = reads_none (last-told (notices s.notice rows) who.host xid (Reply.Refused who.inc _) (notices-told s.notice rows) refl) tt

  serving-one : (who : Who) (xid q block : ℕ) (f : File) (body : List ℕ) (want : Option Want) (table : Table) (g : Option Grant) → who.host ≡ sender
      → d ≡ request xid (Request.Read who q f.id block want) → find_file f.id s.kept.files ≡ Some f → slice_get f.bodies block ≡ Some body
      → Q (serves s who xid next q f block body table g)
  serving-one who xid q block f body want table g home e found there =
      reads_one who xid q block f body want table g refl (subst (λ n. Asked ps n xid (Request.Read who q f.id block want)) (sym home) (sent xid _ e))
      found there

  leases-none : (who : Who) (xid file : ℕ) (table : Table) (g : Option Grant) → Q (leases s who xid file table g)
  unfolding leases
  leases-none who xid file table g = reads_none (one-told who.host xid (Reply.GetLease who.inc g) refl) (grants-unread who file g)

  committed : (who : Who) (seq xid : ℕ) (r : Request) (c : Decision) → TellsNone c.sends → Each IsUnread c.entries → Q (commits who seq xid r c)
  unfolding commits
  committed who seq xid r c none unread =
      reads_none (last-told c.sends who.host xid (verdict_reply who.inc c.verdict c.value r) none (verdict-unread who.inc c.verdict c.value r)) unread

  pub receive-reads : Q (receive s sender next d)
  unfolding quiet drops attaches vacates decides creates writes_through stores wrote stores_recovering resizes removes puts_off
  receive-reads = server-hears s sender next d Q (record {
    stays = reads_none none-told tt;
    dropping = λ reason. reads_none none-told tt;
    erring = says-error;
    answers_null = λ xid e. says-one sender xid Reply.Null refl;
    replying = λ xid who r a e by from plain. says-one who.host xid a (plain-unread s who r a plain);
    attaching = λ xid who e from above. reads_none (one-told who.host xid (Reply.Attach who.inc) refl) tt;
    vacating = λ xid who file tag e current. reads_none none-told tt;
    putting_off = λ xid who r f clash e by of asking c. later who xid _ _;
    putting_off_waiting = λ xid who r f clash want e by of w asking c own room. later who xid _ _;
    putting_off_by_own = λ xid who r f want own e by of w asking c o evicting. later who xid _ _;
    reading = λ xid who q block f body e asking there c. serving-one who xid q block f body None _ _ asking.current.from.host e asking.found there;
    reading_full =
        λ xid who q block want f body e asking there c own room. serving-one who xid q block f body (Some want) _ _ asking.current.from.host
        e asking.found there;
    reading_granted =
        λ xid who q block want f body row term e asking there c g. serving-one who xid q block f body (Some want) _ _ asking.current.from.host
        e asking.found there;
    leasing_full = λ xid who want f e asking c own room. leases-none who xid f.id _ _;
    leasing = λ xid who want f row term e asking c g. leases-none who xid f.id _ _;
    declining = λ xid who seq r verdict e by sq fresh declined. committed who seq xid r _ none-told tt;
    putting_off_change = λ xid who seq r f clash e by sq changes base changing c. committed who seq xid r _ (notices-told s.notice _) tt;
    creating = λ xid who seq blocks name e fresh serves can. committed who seq xid _ _ none-told tt;
    writing_through = λ xid who seq block first last body f e changing below none. committed who seq xid _ _ none-told (tt, tt);
    storing = λ xid who seq block first last base body f row e changing below can. committed who seq xid _ _ none-told (tt, tt);
    storing_recovering =
        λ xid who seq block first final base body f until heard last e fresh p found below boot rev. committed who seq xid _ _ none-told (tt, tt);
    resizing = λ xid who seq q blocks f e changing can none. committed who seq xid _ _ none-told (tt, tt);
    removing = λ xid who seq q f e changing none. committed who seq xid _ _ none-told (tt, tt);
  })

pub tick-reads : (ps : List Packet) (s : Server) (next now : ℕ) → ServesRead ps s next (tick s now)
unfolding quiet opens ends_writing
tick-reads ps s next now = server-ticks s now (ServesRead ps s next) (record {
  waits = λ until heard last p goes_on. reads_none none-told tt;
  opening = λ until heard last p over. reads_none none-told (tt, tt);
  ends_reading = λ p none. reads_none none-told tt;
  ending_writing = λ row p due. reads_none none-told (tt, tt);
})

pub crash-reads : (ps : List Packet) (s : Server) (next longest : ℕ) → ServesRead ps s next (crash s longest)
unfolding crash
crash-reads ps s next longest = reads_none none-told (tt, tt)
