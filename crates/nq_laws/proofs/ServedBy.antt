-- What a request of an attached client does at a server that serves, where its sequence was not decided yet.
use Rattle.std.proofs.Common.{◌≡◌, ◌≢◌, ◌<◌, ◌⊎◌, ℕ, ◌+◌, ◌==◌, ◌%◌, ◌++◌, Bool, true, false, not, List, [], ◌∷◌, Some, None, refl, sym, subst, ap}
use Rattle.std.proofs.Common.{◌∙◌, arith, inl, inr}
use Rattle.std.specs.Prelude.{find}
use Rattle.nq_base.specs.declared.Access.{Access}
use Rattle.nq_base.specs.declared.Refusal.{Refusal}
use Rattle.nq_base.specs.declared.Reply.{Reply}
use Rattle.nq_base.specs.declared.Request.{Request}
use Rattle.nq_base.specs.declared.Row.{Row}
use Rattle.nq_base.specs.declared.Tag.{Tag}
use Rattle.nq_base.specs.declared.Verdict.{Verdict}
use Rattle.nq_base.specs.declared.Want.{Want}
use Rattle.nq_base.specs.declared.Who.{Who}
use Rattle.nq_model.specs.protocol.Ask.{conflicts, marked, mode_conflicts, term_of, sharing_row, caching_row, shared_again, renewed_row}
use Rattle.nq_model.specs.protocol.Decide.{in_the_way, verdict_reply, decides, creates, writes_through, stores, stores_recovering, wrote, resizes, removes}
use Rattle.nq_model.specs.protocol.Decide.{puts_off, commits, done_reply}
use Rattle.nq_model.specs.protocol.Hear.{is_put_off, wants_of}
use Rattle.nq_model.specs.laws.LeaseInterval.{requested_file}
use Rattle.nq_model.specs.protocol.Message.{Message, Packet, call, reply, Datagram, request, datagram_of, asker, sequence_of}
use Rattle.nq_model.specs.protocol.Profile.{most_hosts, xid_end}
use Rattle.nq_model.specs.protocol.Server.{serving, recovering, Server, ServerStep, to_host, notices, after_notices, keeping, keeping_with, with_table}
use Rattle.nq_model.specs.protocol.Server.{quiet as rests, drops, says}
use Rattle.nq_model.specs.protocol.ServerStep.{access_of, to_read, attaches, vacates, tells_later, serves, leases, receive}
use Rattle.nq_model.specs.protocol.Table.{caches, find_row, is_row_of, put_row, with_rows, after_draw}
use Rattle.walk_steps.proofs.ClientMoves.{some-same, none-some}
use Rattle.walk_steps.proofs.Packets.{In, in-left, in-last, told-same, reply-same}
use Rattle.walk_steps.proofs.AskCases.{shares_again, begins_sharing, begins_caching, renews_row}
use Rattle.walk_steps.proofs.RowChanges.{HasUniqueKeys, of-key, mark-is, found-marked, found-put, found-any, is-clash, no-clash}
use Rattle.walk_steps.proofs.Rows.{found-row, find-passes, number-same, same-number}
use Rattle.walk_steps.proofs.ServerCases.{server-hears}
use Rattle.walk_steps.proofs.ServerOutcomes.{error-no-reply, line_of, wanted_by, IsRecovering, IsPlain, unattached, attached_again, not_yet, no_entry}
use Rattle.walk_steps.proofs.ServerOutcomes.{entry, no_attributes, attributes, no_file, no_block, decided_again, is_old, IsDeclined, bad_length}
use Rattle.walk_steps.proofs.ServerOutcomes.{name_taken, no_room, not_kept, outside, no_row, not_under, not_over, not_while_recovering, bad_size}
use Rattle.walk_steps.proofs.ServerOutcomes.{no_room_to_grow}
use Rattle.walk_steps.proofs.Replies.{replies-are}
use Rattle.walk_steps.proofs.RowFacts.{vacated-takes, in-the-way, holder-told}
use Rattle.walk_steps.proofs.RowsAfter.{GoesOn, RowIs, goes_on, waits, granted, rows-are, rows-go, RowGoes, stays as stands_on, vacated, attached, removed}
use Rattle.nq_laws.proofs.InLine.{came}
use Rattle.nq_laws.specs.PutOff.{file_of, access_by}
use Rattle.nq_laws.proofs.Hope.{InWay}
use Rattle.nq_laws.proofs.Served.{IsStill, IsWant, by_read, by_lease, RowFrom, stays, shares, begins, renews, OnlyStays, AreTold, Outcome, quiet}
use Rattle.nq_laws.proofs.Served.{by_own, by_others, IsServed}
use Rattle.nq_laws.proofs.PutOffs.{asked-file, changed-file}

-- ---- requests

-- a lease that is wanted
want-is : (r : Request) (f : ℕ) (want : Want) → requested_file r ≡ Some f → wanted_by r ≡ Some want → IsWant r f want
want-is (Request.Read who q file block None) f want on wants = none-some want wants
want-is (Request.Read who q file block (Some w)) f want on wants =
    by_read who q block (ap (λ g. Request.Read who q g block (Some w)) (some-same file f on) ∙ ap (λ v. Request.Read who q f block (Some v))
    (some-same w want wants))
want-is (Request.GetLease who file w) f want on wants =
    by_lease who (ap (λ g. Request.GetLease who g w) (some-same file f on) ∙ ap (Request.GetLease who f) (some-same w want wants))
want-is other f want on wants = none-some f on

wanted-file : (r : Request) (f : ℕ) (want : Want) → requested_file r ≡ Some f → wanted_by r ≡ Some want → wants_of f r ≡ true
wanted-file (Request.Read who q file block None) f want on wants = none-some want wants
wanted-file (Request.Read who q file block (Some w)) f want on wants = let same : (file == f) ≡ true = number-same file f (some-same file f on) in rw same refl
wanted-file (Request.GetLease who file w) f want on wants = number-same file f (some-same file f on)
wanted-file other f want on wants = none-some f on

-- ---- replies

status-of : (i j : ℕ) (a b : Refusal) → Reply.Refused i a ≡ Reply.Refused j b → a ≡ b
status-of i j a b e = cc

not-off : (i j : ℕ) (a b : Refusal) → is_put_off a ≡ false → Reply.Refused i a ≡ Reply.Refused j b → is_put_off b ≡ true → ⊥
not-off i j a b final e off = let same : is_put_off a ≡ is_put_off b = ap is_put_off (status-of i j a b e) in let bad : true ≡ false =
    sym off ∙ sym same ∙ final in cc

done-not : (i value inc : ℕ) (st : Refusal) (z : Request) → done_reply i value z ≡ Reply.Refused inc st → ⊥
done-not i value inc st (Request.Create who seq name blocks) e = cc
done-not i value inc st (Request.Write who seq file block first last push body) e = cc
done-not i value inc st (Request.Resize who seq q file blocks) e = cc
done-not i value inc st (Request.Remove who seq q file) e = cc
done-not i value inc st other e = cc

-- no verdict but TRYLATER puts a request off
verdict-off : (i value inc : ℕ) (st : Refusal) (v : Verdict) (z : Request) → verdict_reply i v value z ≡ Reply.Refused inc st → is_put_off st ≡ true
    → v ≡ Verdict.TryLater
verdict-off i value inc st Verdict.Done z e off = absurd (done-not i value inc st z e)
verdict-off i value inc st Verdict.Fenced z e off = absurd (not-off i inc Refusal.Fenced st refl e off)
verdict-off i value inc st Verdict.Exist z e off = absurd (not-off i inc Refusal.Exist st refl e off)
verdict-off i value inc st Verdict.NoSpace z e off = absurd (not-off i inc Refusal.NoSpc st refl e off)
verdict-off i value inc st Verdict.Invalid z e off = absurd (not-off i inc Refusal.Inval st refl e off)
verdict-off i value inc st Verdict.Stale z e off = absurd (not-off i inc Refusal.Stale st refl e off)
verdict-off i value inc st Verdict.TryLater z e off = refl

serves-not : (s : Server) → s.phase ≡ serving → IsRecovering s → ⊥
serves-not s serves rec = let two : serving ≡ recovering rec.until rec.heard rec.last = sym serves ∙ rec.phase in cc

-- where the server serves, no request is declined for later
declined-not : (s : Server) (w : Who) (z : Request) (v : Verdict) → s.phase ≡ serving → IsDeclined s w z v → v ≡ Verdict.TryLater → ⊥
declined-not s w z v serves (not_while_recovering rec free is) f = serves-not s serves rec
declined-not s w z v serves (bad_length seq blocks name p on bad is) f = let two : Verdict.Invalid ≡ Verdict.TryLater = sym is ∙ f in cc
declined-not s w z v serves (name_taken seq blocks name p on taken is) f = let two : Verdict.Exist ≡ Verdict.TryLater = sym is ∙ f in cc
declined-not s w z v serves (no_room seq blocks name p on full is) f = let two : Verdict.NoSpace ≡ Verdict.TryLater = sym is ∙ f in cc
declined-not s w z v serves (not_kept file on missing is) f = let two : Verdict.Stale ≡ Verdict.TryLater = sym is ∙ f in cc
declined-not s w z v serves (outside seq file block first last push body g on found out is) f = let two : Verdict.Invalid ≡ Verdict.TryLater = sym is ∙ f in cc
declined-not s w z v serves (no_row seq file block first last base body g p on found missing is) f = let two : Verdict.Fenced ≡ Verdict.TryLater =
    sym is ∙ f in cc
declined-not s w z v serves (not_under seq file block first last base body g row p on found some bars is) f = let two : Verdict.Fenced ≡ Verdict.TryLater =
    sym is ∙ f in cc
declined-not s w z v serves (not_over seq file block first last base body g rec on found bars is) f = let two : Verdict.Fenced ≡ Verdict.TryLater =
    sym is ∙ f in cc
declined-not s w z v serves (bad_size seq q file blocks g p on found bad is) f = let two : Verdict.Invalid ≡ Verdict.TryLater = sym is ∙ f in cc
declined-not s w z v serves (no_room_to_grow seq q file blocks g p on found full is) f = let two : Verdict.NoSpace ≡ Verdict.TryLater = sym is ∙ f in cc

-- ---- what is sent is for hosts

ForHosts : List Packet → Type 0
ForHosts sends = (z : Packet) → In sends z → (h : ℕ) × (m : Message) × (z ≡ to_host h m)

no-packets : ForHosts []
unfolding ForHosts
no-packets z i = absurd i

one-packet : (h : ℕ) (m : Message) → ForHosts (to_host h m ∷ [])
unfolding ForHosts
one-packet h m z (inl e) = (h, m, sym e)
one-packet h m z (inr bad) = absurd bad

notices-for : (n : ℕ) (rows : List Row) → ForHosts (notices n rows)
unfolding ForHosts
notices-for n [] z i = absurd i
notices-for n (row ∷ rows) z (inl e) = (row.who.host, call n (Request.Evicted row.who row.file row.tag), sym e)
notices-for n (row ∷ rows) z (inr i) = notices-for ((n + 1) % xid_end) rows z i

behind-notices : (n : ℕ) (rows : List Row) (h : ℕ) (m : Message) → ForHosts (notices n rows ++ to_host h m ∷ [])
unfolding ForHosts
behind-notices n rows h m z i = by (in-last (notices n rows) (to_host h m) z i)
  where
    by : In (notices n rows) z ⊎ (to_host h m ≡ z) → (h : ℕ) × (m : Message) × (z ≡ to_host h m)
    by (inl j) = notices-for n rows z j
    by (inr e) = (h, m, sym e)

for-hosts : (s : Server) (sender next : ℕ) (d : Datagram) → ForHosts (receive s sender next d).sends
unfolding rests drops says attaches vacates serves leases tells_later decides creates writes_through stores stores_recovering wrote resizes removes puts_off
    commits after_notices keeping keeping_with with_table
for-hosts s sender next d = server-hears s sender next d (λ t. ForHosts t.sends) (record {
  stays = no-packets;
  dropping = λ reason. no-packets;
  erring = λ m e. one-packet sender m;
  answers_null = λ x e. one-packet sender _;
  replying = λ x w z a e by from is. one-packet w.host _;
  attaching = λ x w e from later. one-packet w.host _;
  vacating = λ x w file tag e current. no-packets;
  putting_off = λ x w z f clash e by file asking c. behind-notices s.notice _ w.host _;
  putting_off_waiting = λ x w z f clash want e by file wants asking c own room. behind-notices s.notice _ w.host _;
  putting_off_by_own = λ x w z f want own e by file wants asking c o evicting. behind-notices s.notice (own ∷ []) w.host _;
  reading = λ x w q block f body e asking there c. one-packet w.host _;
  reading_full = λ x w q block want f body e asking there c own room. one-packet w.host _;
  reading_granted = λ x w q block want f body row term e asking there c g. one-packet w.host _;
  leasing_full = λ x w want f e asking c own room. one-packet w.host _;
  leasing = λ x w want f row term e asking c g. one-packet w.host _;
  declining = λ x w seq z verdict e by sq fresh is. one-packet w.host _;
  putting_off_change = λ x w seq z f clash e by sq file base changing c. behind-notices s.notice _ w.host _;
  creating = λ x w seq blocks name e fresh serves can. one-packet w.host _;
  writing_through = λ x w seq block first last body f e changing below c. one-packet w.host _;
  storing = λ x w seq block first last base body f row e changing below can. one-packet w.host _;
  storing_recovering = λ x w seq block first final base body f until heard last e fresh recovers found below boot rev. one-packet w.host _;
  resizing = λ x w seq q blocks f e changing can c. one-packet w.host _;
  removing = λ x w seq q f e changing c. one-packet w.host _;
})

-- ---- a request

module _ (s : Server) (b x next : ℕ) (r : Request) (who : Who) (unique : HasUniqueKeys s.table.rows) (serving_now : s.phase ≡ serving)
    (asks : asker r ≡ Some who) (from : who.host ≡ b) (inc : (line_of s who).inc ≡ who.inc)
    (new : (n : ℕ) → sequence_of r ≡ Some n → (line_of s who).seq < n) where
  same-asker : (y : ℕ) (z : Request) (w : Who) → datagram_of (call x r) ≡ request y z → asker z ≡ Some w → w ≡ who
  same-asker y z w e by = some-same w who (sym by ∙ ap asker (sym (came x y r z e).1) ∙ asks)

  still : (was row : Row) → GoesOn was row → IsStill was row
  still was row g = record { who = g.who; mode = g.mode; tag = g.tag; evicts = g.going }

  -- where each row comes from
  rows-from : (f h : ℕ) (row : Row) → find_row f h (receive s b next (datagram_of (call x r))).server.table.rows ≡ Some row → RowFrom s.table.rows b r f h row
  unfolding shared_again sharing_row caching_row renewed_row
  rows-from f h row found = by (rows-are s b (datagram_of (call x r)) unique next f h row found)
    where
      by : RowIs s b (datagram_of (call x r)) f h row → RowFrom s.table.rows b r f h row
      by (goes_on was there same) = stays was there (still was row same)
      by (waits w clash c own is) = shares (ap (λ (y : Row). caches y.mode) is)
      by (granted w term c (shares_again own has going kind is t)) = shares (ap (λ (y : Row). caches y.mode) is ∙ kind)
      by (granted w term c (begins_sharing none room some is t)) = shares (ap (λ (y : Row). caches y.mode) is)
      by (granted w term c (begins_caching none room some is t)) =
          let same : r ≡ w.asks = (came x w.xid r w.asks w.is).1 in
          let host : h ≡ b = w.from ∙ w.asking.current.from.host in
          let want : IsWant r f w.want = subst (λ z. IsWant z f w.want) (sym same)
          (subst (λ g. IsWant w.asks g w.want) (sym w.at) (want-is w.asks w.of.id w.want w.on w.wants)) in
          begins w.want host want (subst (λ g. find_row g h s.table.rows ≡ None) (sym w.at)
          (subst (λ n. find_row w.of.id n s.table.rows ≡ None) (sym w.from) none)) (ap (λ (y : Row). y.mode) is)
      by (granted w term c (renews_row own has going kind is t)) =
          let same : r ≡ w.asks = (came x w.xid r w.asks w.is).1 in
          let host : h ≡ b = w.from ∙ w.asking.current.from.host in
          let want : IsWant r f w.want = subst (λ z. IsWant z f w.want) (sym same)
          (subst (λ g. IsWant w.asks g w.want) (sym w.at) (want-is w.asks w.of.id w.want w.on w.wants)) in
          renews w.want own host want (subst (λ g. find_row g h s.table.rows ≡ Some own) (sym w.at)
          (subst (λ n. find_row w.of.id n s.table.rows ≡ Some own) (sym w.from) has)) going (ap (λ (y : Row). y.mode) is)

  -- ---- nobody is put off

  abbrev NoneOff : List Packet → Type 0
  NoneOff sends = (z : Packet) → In sends z → (h n i : ℕ) (st : Refusal) → z ≡ to_host h (reply n (Reply.Refused i st)) → is_put_off st ≡ true → ⊥

  none-off : NoneOff []
  none-off z j h n i st is off = j

  one-off : (g m : ℕ) (a : Reply) → ((i : ℕ) (st : Refusal) → a ≡ Reply.Refused i st → is_put_off st ≡ true → ⊥) → NoneOff (to_host g (reply m a) ∷ [])
  one-off g m a never z (inr bad) h n i st is off = bad
  one-off g m a never z (inl e) h n i st is off =
      never i st (reply-same m n a (Reply.Refused i st) (told-same g h (reply m a) (reply n (Reply.Refused i st)) (e ∙ is)).1).1 off

  error-off : (m : Message) → ((y : ℕ) (a : Reply) → m ≡ reply y a → ⊥) → NoneOff (to_host b m ∷ [])
  error-off m never z (inr bad) h n i st is off = bad
  error-off m never z (inl e) h n i st is off = never n (Reply.Refused i st) (told-same b h m (reply n (Reply.Refused i st)) (e ∙ is)).1

  plain : (y : ℕ) (w : Who) (z : Request) (a : Reply) → datagram_of (call x r) ≡ request y z → asker z ≡ Some w → IsPlain s w z a → (i : ℕ) (st : Refusal)
      → a ≡ Reply.Refused i st → is_put_off st ≡ true → ⊥
  plain y w z a e by (unattached later never is) i st f off = let one = same-asker y z w e by in let low : (line_of s who).inc < who.inc =
      subst (λ v. (line_of s v).inc < v.inc) one later in absurd (omega arith)
  plain y w z a e by (attached_again at same is) i st f off = let two : Reply.Attach w.inc ≡ Reply.Refused i st = sym is ∙ f in cc
  plain y w z a e by (not_yet same rec only is) i st f off = serves-not s serving_now rec
  plain y w z a e by (no_entry name same p at found is) i st f off = not-off w.inc i Refusal.NoEnt st refl (sym is ∙ f) off
  plain y w z a e by (entry name g same p at found is) i st f off = let two : Reply.Lookup w.inc _ _ ≡ Reply.Refused i st = sym is ∙ f in cc
  plain y w z a e by (no_attributes file same p at found is) i st f off = not-off w.inc i Refusal.Stale st refl (sym is ∙ f) off
  plain y w z a e by (attributes file g same p at found is) i st f off = let two : Reply.GetAttr w.inc _ _ ≡ Reply.Refused i st = sym is ∙ f in cc
  plain y w z a e by (no_file file same p at found is) i st f off = not-off w.inc i Refusal.Stale st refl (sym is ∙ f) off
  plain y w z a e by (no_block q file block want g same p at found missing is) i st f off = not-off w.inc i Refusal.Inval st refl (sym is ∙ f) off
  plain y w z a e by (decided_again seq same sq last is) i st f off =
      let one = same-asker y z w e by in
      let up = new seq (ap sequence_of (came x y r z e).1 ∙ sq) in
      let now : seq ≡ (line_of s who).seq = subst (λ v. seq ≡ (line_of s v).seq) one last in
      absurd (omega arith)
  plain y w z a e by (is_old seq same sq low is) i st f off =
      let one = same-asker y z w e by in
      let up = new seq (ap sequence_of (came x y r z e).1 ∙ sq) in
      let now : seq < (line_of s who).seq = subst (λ v. seq < (line_of s v).seq) one low in
      absurd (omega arith)

  -- ---- somebody is in the way

  module _ (f : ℕ) (access : Access) (clash : Row) (way : access_by r ≡ access) (on : file_of r ≡ Some f)
      (c : find (conflicts f who.host access) s.table.rows ≡ Some clash) where
    in-way : InWay s.table.rows b f (access_by r) clash.who.host clash
    in-way =
        let k = is-clash f who.host access clash (find-passes (conflicts f who.host access) clash s.table.rows c) in
        let there = found-any (conflicts f who.host access) s.table.rows clash unique c in
        record {
          found = subst (λ g. find_row g clash.who.host s.table.rows ≡ Some clash) k.of_file there;
          other = λ same. k.other (same ∙ sym from);
          conflicts = ap (λ z. mode_conflicts z clash.mode) way ∙ k.kind;
        }

    only-marked : OnlyStays s.table.rows (marked f who.host access s.table.rows)
    only-marked g h row found =
        let m = found-marked f who.host access g h s.table.rows row found in
        let k = mark-is f who.host access m.was in
        inl (
          m.was,
          m.found,
          record {
            who = ap (λ (y : Row). y.who) m.is ∙ k.who;
            mode = ap (λ (y : Row). y.mode) m.is ∙ k.mode;
            tag = ap (λ (y : Row). y.tag) m.is ∙ k.tag;
            evicts = λ e. ap (λ (y : Row). y.evicting) m.is ∙ k.evicts e;
          },
        )

    -- a row of another host that conflicts is marked, and its holder told
    told-marked : (n : ℕ) (last : Packet) → AreTold (marked f who.host access s.table.rows) (notices n (in_the_way s f who.host access) ++ last ∷ []) b f r
    told-marked n last h row w =
        let m = found-marked f who.host access f h s.table.rows row w.found in
        let k = mark-is f who.host access m.was in
        let key = found-row f h s.table.rows m.was m.found in
        let same_mode : row.mode ≡ m.was.mode = ap (λ (y : Row). y.mode) m.is ∙ k.mode in
        let kind : mode_conflicts access m.was.mode ≡ true =
        ap (mode_conflicts access) (sym same_mode) ∙ ap (λ z. mode_conflicts z row.mode) (sym way) ∙ w.conflicts in
        let one : (m.was.file == f) ≡ true = number-same m.was.file f key.0 in
        let two : not (m.was.who.host == who.host) ≡ true = other-host m.was.who.host who.host (λ e. w.other (sym key.1 ∙ e ∙ from)) in
        let clashes : conflicts f who.host access m.was ≡ true = rw (one, two, kind) refl in
        let going : row.evicting ≡ true = ap (λ (y : Row). y.evicting) m.is ∙ rw clashes refl in
        let told = holder-told n (in_the_way s f who.host access) m.was (in-the-way s f who.host f h access m.was m.found clashes) in
        let named : to_host m.was.who.host (call told.0 (Request.Evicted m.was.who m.was.file m.was.tag)) ≡ to_host h
        (call told.0 (Request.Evicted row.who f row.tag)) =
        ap (λ g. to_host g (call told.0 (Request.Evicted m.was.who m.was.file m.was.tag))) key.1
        ∙ ap (λ g. to_host h (call told.0 (Request.Evicted m.was.who g m.was.tag))) key.0
        ∙ ap (λ v. to_host h (call told.0 (Request.Evicted v f m.was.tag))) (sym (ap (λ (y : Row). y.who) m.is ∙ k.who))
        ∙ ap (λ u. to_host h (call told.0 (Request.Evicted row.who f u))) (sym (ap (λ (y : Row). y.tag) m.is ∙ k.tag)) in (
          going,
          told.0,
          in-left (notices n (in_the_way s f who.host access)) (last ∷ []) _
              (subst (λ z. In (notices n (in_the_way s f who.host access)) z) named told.1),
        )
      where
        other-host : (m n : ℕ) → (m ≡ n → ⊥) → not (m == n) ≡ true
        other-host m n apart = by (m == n) refl
          where
            by : (e : Bool) → (m == n) ≡ e → not e ≡ true
            by false e = refl
            by true e = absurd (apart (same-number m n e))

    marks : (n : ℕ) (last : Packet) → Outcome s.table.rows (marked f who.host access s.table.rows)
        (notices n (in_the_way s f who.host access) ++ last ∷ []) b who x r
    marks n last = by_others f clash.who.host clash on in-way (told-marked n last) only-marked

    -- the same, where the asker gets a row that waits
    marks-waiting : (n : ℕ) (last : Packet) (row : Row) → row.who.host ≡ who.host → caches row.mode ≡ false
        → Outcome s.table.rows (put_row row (marked f who.host access s.table.rows)) (notices n (in_the_way s f who.host access) ++ last ∷ []) b who x r
    marks-waiting n last row own kind = by_others f clash.who.host clash on in-way told only
      where
        told : AreTold (put_row row (marked f who.host access s.table.rows)) (notices n (in_the_way s f who.host access) ++ last ∷ []) b f r
        told h z w = by (found-put f h row z (marked f who.host access s.table.rows) w.found)
          where
            by : ((is_row_of f h row ≡ true) × (z ≡ row)) ⊎ ((is_row_of f h row ≡ false) × (find_row f h (marked f who.host access s.table.rows) ≡ Some z))
                → (z.evicting ≡ true) × (m : ℕ) × In (notices n (in_the_way s f who.host access) ++ last ∷ [])
                (to_host h (call m (Request.Evicted z.who f z.tag)))
            by (inl k) = let host = (of-key f h row k.0).1 in absurd (w.other (sym host ∙ own ∙ from))
            by (inr k) = told-marked n last h z (record { found = k.1; other = w.other; conflicts = w.conflicts })

        only : OnlyStays s.table.rows (put_row row (marked f who.host access s.table.rows))
        only g h z found = by (found-put g h row z (marked f who.host access s.table.rows) found)
          where
            by : ((is_row_of g h row ≡ true) × (z ≡ row)) ⊎ ((is_row_of g h row ≡ false) × (find_row g h (marked f who.host access s.table.rows) ≡ Some z))
                → ((was : Row) × (find_row g h s.table.rows ≡ Some was) × IsStill was z) ⊎ (caches z.mode ≡ false)
            by (inl k) = inr (ap (λ (y : Row). caches y.mode) k.1 ∙ kind)
            by (inr k) = only-marked g h z k.1

  -- ---- the outcome

  -- what is so of the rows after the whole step
  abbrev After : ServerStep → Type 0
  After t = ((f h : ℕ) (row : Row) → find_row f h t.server.table.rows ≡ Some row → RowFrom s.table.rows b r f h row)
      → Outcome s.table.rows t.server.table.rows t.sends b who x r

  own-first : (n : ℕ) (f : ℕ) (own : Row) (want : Want) (z : Request) (y : ℕ) (w : Who) → datagram_of (call x r) ≡ request y z → asker z ≡ Some w
      → requested_file z ≡ Some f → wanted_by z ≡ Some want → find_row f w.host s.table.rows ≡ Some own
      → Outcome s.table.rows s.table.rows (notices n (own ∷ []) ++ to_host w.host (reply y (Reply.Refused w.inc Refusal.TryLater)) ∷ []) b who x r
  own-first n f own want z y w e by on wants has =
      let t = came x y r z e in
      let one : w ≡ who = same-asker y z w e by in
      let key = found-row f w.host s.table.rows own has in
      let host : w.host ≡ b = ap (λ (v : Who). v.host) one ∙ from in
      let first : to_host own.who.host (call n (Request.Evicted own.who own.file own.tag)) ≡ to_host b (call n (Request.Evicted own.who f own.tag)) =
      ap (λ g. to_host g (call n (Request.Evicted own.who own.file own.tag))) (key.1 ∙ host) ∙ ap
      (λ g. to_host b (call n (Request.Evicted own.who g own.tag))) key.0 in
      let second : to_host w.host (reply y (Reply.Refused w.inc Refusal.TryLater)) ≡ to_host b (reply x (Reply.Refused who.inc Refusal.TryLater)) =
      ap (λ g. to_host g (reply y (Reply.Refused w.inc Refusal.TryLater))) host ∙ ap (λ m. to_host b (reply m (Reply.Refused w.inc Refusal.TryLater)))
      (sym t.0) ∙ ap (λ (v : Who). to_host b (reply x (Reply.Refused v.inc Refusal.TryLater))) one in
      by_own f n own (subst (λ q. wants_of f q ≡ true) (sym t.1) (wanted-file z f want on wants)) (subst (λ h. find_row f h s.table.rows ≡ Some own) host has)
      (ap (λ p. p ∷ to_host w.host (reply y (Reply.Refused w.inc Refusal.TryLater)) ∷ []) first ∙ ap
      (λ p. to_host b (call n (Request.Evicted own.who f own.tag)) ∷ p ∷ []) second) refl

  -- a clash by the names of the outcome is one by those of the request
  clash-is : (w : Who) → w ≡ who → (f : ℕ) (access : Access) (clash : Row) → find (conflicts f w.host access) s.table.rows ≡ Some clash
      → find (conflicts f who.host access) s.table.rows ≡ Some clash
  clash-is w one f access clash c = subst (λ v. find (conflicts f v.host access) s.table.rows ≡ Some clash) one c

  outcome : After (receive s b next (datagram_of (call x r)))
  unfolding rests drops says attaches vacates serves leases tells_later decides creates writes_through stores stores_recovering wrote resizes removes
      puts_off commits after_notices keeping keeping_with with_table with_rows after_draw sharing_row
  outcome = server-hears s b next (datagram_of (call x r)) After (record {
    stays = λ rows. quiet none-off rows;
    dropping = λ reason rows. quiet none-off rows;
    erring = λ m e rows. quiet (error-off m (λ y a is. error-no-reply (datagram_of (call x r)) m y a e is)) rows;
    answers_null = λ y e rows. quiet (one-off b y Reply.Null (λ i st f off. cc)) rows;
    replying = λ y w z a e by from_w is rows. quiet (one-off w.host y a (plain y w z a e by is)) rows;
    attaching = λ y w e from_w later rows. let one = same-asker y (Request.Attach w) w e refl in let low : (line_of s who).inc < who.inc =
        subst (λ v. (line_of s v).inc < v.inc) one later in absurd (omega arith);
    vacating = λ y w file tag e current rows. quiet none-off rows;
    putting_off = λ y w z f clash e by file asking c rows.
        let t = came x y r z e in
        let one = same-asker y z w e by in
        let k = asked-file z f.id file in
        subst (λ (v : Who). Outcome s.table.rows (marked f.id v.host (access_of (wanted_by z)) s.table.rows)
        (notices s.notice (in_the_way s f.id v.host (access_of (wanted_by z))) ++ to_host w.host (reply y (Reply.Refused w.inc Refusal.TryLater)) ∷ [])
        b who x r) (sym one)
        (marks f.id (access_of (wanted_by z)) clash (ap access_by t.1 ∙ k.1) (ap file_of t.1 ∙ k.0)
        (clash-is w one f.id (access_of (wanted_by z)) clash c) s.notice (to_host w.host (reply y (Reply.Refused w.inc Refusal.TryLater))));
    putting_off_waiting = λ y w z f clash want e by file wants asking c own room rows.
        let t = came x y r z e in
        let one = same-asker y z w e by in
        let k = asked-file z f.id file in
        subst (λ (v : Who). Outcome s.table.rows
        (put_row (sharing_row (record s.table { rows = marked f.id w.host (access_of (Some want)) s.table.rows }) (to_read s w f (Some want))
        (term_of (to_read s w f (Some want)) want)) (marked f.id v.host (access_of (Some want)) s.table.rows))
        (notices s.notice (in_the_way s f.id v.host (access_of (Some want))) ++ to_host w.host (reply y (Reply.Refused w.inc Refusal.TryLater)) ∷ []) b
        who x r) (sym one)
        (marks-waiting f.id (access_of (Some want)) clash (ap access_by t.1 ∙ k.1 ∙ ap access_of wants) (ap file_of t.1 ∙ k.0)
        (clash-is w one f.id (access_of (Some want)) clash c) s.notice (to_host w.host (reply y (Reply.Refused w.inc Refusal.TryLater))) _
        (ap (λ (v : Who). v.host) one) refl);
    putting_off_by_own = λ y w z f want own e by file wants asking c o evicting rows. own-first s.notice f.id own want z y w e by file wants o;
    reading = λ y w q block f body e asking there c rows. quiet (one-off w.host y _ (λ i st g off. cc)) rows;
    reading_full = λ y w q block want f body e asking there c own room rows. quiet (one-off w.host y _ (λ i st g off. cc)) rows;
    reading_granted = λ y w q block want f body row term e asking there c g rows. quiet (one-off w.host y _ (λ i st h off. cc)) rows;
    leasing_full = λ y w want f e asking c own room rows. quiet (one-off w.host y _ (λ i st g off. cc)) rows;
    leasing = λ y w want f row term e asking c g rows. quiet (one-off w.host y _ (λ i st h off. cc)) rows;
    declining = λ y w seq z verdict e by sq fresh is rows. quiet
        (one-off w.host y (verdict_reply w.inc verdict 0 z)
        (λ i st f off. declined-not s w z verdict serving_now is (verdict-off w.inc 0 i st verdict z f off))) rows;
    putting_off_change = λ y w seq z f clash e by sq file base changing c rows.
        let t = came x y r z e in
        let one = same-asker y z w e by in
        let k = changed-file z f.id file in
        subst (λ (v : Who). Outcome s.table.rows (marked f.id v.host Access.Write s.table.rows)
        (notices s.notice (in_the_way s f.id v.host Access.Write) ++ to_host w.host (reply y (Reply.Refused w.inc Refusal.TryLater)) ∷ []) b who x r)
        (sym one)
        (marks f.id Access.Write clash (ap access_by t.1 ∙ k.1) (ap file_of t.1 ∙ k.0) (clash-is w one f.id Access.Write clash c) s.notice
        (to_host w.host (reply y (Reply.Refused w.inc Refusal.TryLater))));
    creating = λ y w seq blocks name e fresh now can rows. quiet (one-off w.host y _ (λ i st f off. cc)) rows;
    writing_through = λ y w seq block first last body f e changing below c rows. quiet (one-off w.host y _ (λ i st g off. cc)) rows;
    storing = λ y w seq block first last base body f row e changing below can rows. quiet (one-off w.host y _ (λ i st g off. cc)) rows;
    storing_recovering = λ y w seq block first final base body f until heard last e fresh recovers found below boot rev rows. quiet
        (one-off w.host y _ (λ i st g off. cc)) rows;
    resizing = λ y w seq q blocks f e changing can c rows. quiet (one-off w.host y _ (λ i st g off. cc)) rows;
    removing = λ y w seq q f e changing c rows. quiet (one-off w.host y _ (λ i st g off. cc)) rows;
  })

  -- ---- what else

  replies : (z : Packet) → In (receive s b next (datagram_of (call x r))).sends z → (h n : ℕ) (a : Reply) → z ≡ to_host h (reply n a) → (h ≡ b) × (n ≡ x)
  replies z i h n a is =
      let k = replies-are s b next (datagram_of (call x r)) h n a (subst (λ q. In (receive s b next (datagram_of (call x r))).sends q) is i) in
      (k.to, sym (came x n r k.asks k.is).0)

  -- a row of another host that caches is taken by nothing
  keeps : (f h : ℕ) (row : Row) → h ≢ b → find_row f h s.table.rows ≡ Some row → caches row.mode ≡ true
      → (now : Row) × (find_row f h (receive s b next (datagram_of (call x r))).server.table.rows ≡ Some now) × IsStill row now
  keeps f h row other found kind = by (rows-go s b (datagram_of (call x r)) unique next f h row found)
    where
      same-row : (now : Row) → RowIs s b (datagram_of (call x r)) f h now → IsStill row now
      same-row now (goes_on was there same) = subst (λ (y : Row). IsStill y now) (some-same was row (sym there ∙ found)) (still was now same)
      same-row now (waits w clash c own is) = absurd (other (w.from ∙ w.asking.current.from.host))
      same-row now (granted w term c g) = absurd (other (w.from ∙ w.asking.current.from.host))

      by : RowGoes s b (datagram_of (call x r)) unique f h row (receive s b next (datagram_of (call x r))).server.table.rows
          → (now : Row) × (find_row f h (receive s b next (datagram_of (call x r))).server.table.rows ≡ Some now) × IsStill row now
      by (stands_on now there) = (now, there, same-row now (rows-are s b (datagram_of (call x r)) unique next f h now there))
      by (vacated y w tag is current at one same none) = absurd (other (sym at ∙ current.from.host))
      by (attached y w is from_w at later none) = absurd (other (sym at ∙ from_w.host))
      by (removed y seq q w is fresh free none) =
          let no : mode_conflicts Access.Write row.mode ≡ false =
          no-clash f w.host Access.Write h s.table.rows row free found (λ e. other (e ∙ fresh.current.from.host)) in
          let bad : true ≡ false = sym kind ∙ no in
          absurd (cc)

  takes : who.host < most_hosts → (f : ℕ) (tag : Tag) (row : Row) → r ≡ Request.Vacated who f tag → find_row f b s.table.rows ≡ Some row → row.who ≡ who
      → row.tag ≡ tag → find_row f b (receive s b next (datagram_of (call x r))).server.table.rows ≡ None
  takes possible f tag row is found holder latest =
      subst (λ z. find_row f b (receive s b next (datagram_of (call x z))).server.table.rows ≡ None) (sym is)
      (subst (λ h. find_row f h (receive s b next (request x (Request.Vacated who f tag))).server.table.rows ≡ None) from
      (vacated-takes s b next x f who tag row from possible (sym inc) (subst (λ h. find_row f h s.table.rows ≡ Some row) (sym from) found)
      (ap (λ (v : Who). v.inc) holder) latest))

  pub served-by : who.host < most_hosts → IsServed s.table.rows (receive s b next (datagram_of (call x r))).server.table.rows
      (receive s b next (datagram_of (call x r))).sends b who x r
  unfolding ForHosts
  served-by possible = record {
    outcome = outcome rows-from;
    for_hosts = for-hosts s b next (datagram_of (call x r));
    replies = replies;
    keeps = keeps;
    takes = takes possible;
  }
