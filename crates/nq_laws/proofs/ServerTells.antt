-- What the server tells of files in a step, and what it keeps of the request that it decided.
use Rattle.std.proofs.Common.{◌≡◌, ◌⊎◌, ◌<◌, ℕ, ◌%◌, true, List, [], ◌∷◌, ◌++◌, Some, None, refl, sym, subst, ap, ◌∙◌, inl, inr, arith}
use Rattle.std.specs.Prelude.{replicate}
use Rattle.std.proofs.lemmas.List.{length-replicate}
use Rattle.std.proofs.lemmas.List.Folds.{find-append}
use Rattle.nq_base.specs.Block.{zeros}
use Rattle.nq_base.specs.declared.Access.{Access}
use Rattle.nq_base.specs.declared.HostRow.{HostRow}
use Rattle.nq_base.specs.declared.Refusal.{Refusal}
use Rattle.nq_base.specs.declared.Reply.{Reply}
use Rattle.nq_base.specs.declared.Request.{Request}
use Rattle.nq_base.specs.declared.Row.{Row}
use Rattle.nq_base.specs.declared.Verdict.{Verdict}
use Rattle.nq_base.specs.declared.Who.{Who}
use Rattle.nq_model.specs.protocol.Ask.{grant_of}
use Rattle.nq_model.specs.protocol.Decide.{Decision, in_the_way, verdict_reply, row_after, decides, creates, writes_through, stores, wrote, stores_recovering}
use Rattle.nq_model.specs.protocol.Decide.{resizes, removes, puts_off, commits}
use Rattle.nq_model.specs.protocol.Hear.{inc_of}
use Rattle.nq_model.specs.protocol.Kept.{File, Kept, blocks_of, find_file, find_name, new_file, host_row, with_row, with_files, with_new_file}
use Rattle.nq_model.specs.protocol.Message.{Message, Packet, reply, asker, Datagram, request, sequence_of}
use Rattle.nq_model.specs.protocol.Profile.{same_bytes}
use Rattle.nq_model.specs.protocol.Server.{Server, ServerStep, to_host, says, quiet, drops, notices, keeping, keeping_with, with_table, after_notices}
use Rattle.nq_model.specs.protocol.ServerStep.{attaches, vacates, tells_later, serves, leases, receive}
use Rattle.nq_model.specs.protocol.Table.{Table}
use Rattle.nq_model.specs.laws.RepliesTellWhatWas.{KeepsAt, KeepsNamed}
use Rattle.nq_laws.specs.RefusalsHaveCauses.{IsCause}
use Rattle.nq_laws.proofs.Causes.{IsTold, refused-told, none-beyond, requested-lacks, declined-told}
use Rattle.walk_steps.proofs.Packets.{In, in-append, told-same, reply-same}
use Rattle.walk_steps.proofs.ServerSays.{notices-no-reply, verdict-inc, plain-inc}
use Rattle.walk_steps.proofs.KeptChanges.{line-as}
use Rattle.walk_steps.proofs.Rows.{number-same}
use Rattle.walk_steps.proofs.ServerCases.{server-hears}
use Rattle.walk_steps.proofs.ServerOutcomes.{line_of, IsFrom, CanCreate, error-no-reply, IsDeclined, IsPlain, unattached, attached_again, not_yet}
use Rattle.walk_steps.proofs.ServerOutcomes.{no_entry, entry, no_attributes, attributes, no_file, no_block, decided_again, is_old}

-- ---- a new file is found by its name

same-bytes-self : (name : List ℕ) → same_bytes name name ≡ true
same-bytes-self [] = refl
same-bytes-self (x ∷ xs) = rw (number-same x x refl) (same-bytes-self xs)

find-named-added : (name : List ℕ) (file : File) (files : List File) → file.name ≡ name → find_name name files ≡ None
    → find_name name (files ++ file ∷ []) ≡ Some file
find-named-added name file files is free =
    let own : same_bytes file.name name ≡ true = subst (λ n. same_bytes file.name n ≡ true) is (same-bytes-self file.name) in
    find-append (λ f. same_bytes f.name name) files (file ∷ []) ∙ rw (free, own) refl

made-named : (kept : Kept) (name : List ℕ) (blocks : ℕ) → find_name name kept.files ≡ None → kept.next < 2147483648
    → KeepsNamed (kept.files ++ new_file kept.next name blocks ∷ []) name (kept.next % 4294967296) blocks
unfolding new_file
made-named kept name blocks free low = record {
  file = record { id = kept.next; name = name; rev = 0; bodies = replicate blocks zeros };
  found = find-named-added name (record { id = kept.next; name = name; rev = 0; bodies = replicate blocks zeros }) kept.files refl free;
  has_id = omega arith;
  has_length = length-replicate blocks zeros;
}

-- ---- why a reply is true

-- what is told was so before the step, is so after it, or was kept of the request that was decided last
pub data Reason (s : Server) (after : List File) (next : ℕ) (who : Who) (r : Request) (a : Reply) : Type 0 where
  so_before : IsTold s.kept.files s.kept.next a r → Reason s after next who r a
  so_after : IsTold after next a r → Reason s after next who r a
  again : (seq : ℕ) → sequence_of r ≡ Some seq → (line_of s who).inc ≡ who.inc → (line_of s who).seq ≡ seq
      → a ≡ verdict_reply who.inc (line_of s who).verdict (line_of s who).value r → Reason s after next who r a

-- a reply to a host answers the request of this datagram, and is true
pub record Tells (s : Server) (after : List File) (next : ℕ) (d : Datagram) (sender host xid : ℕ) (a : Reply) : Type 0 where
  pub asks : Request
  pub who : Who
  pub is : d ≡ request xid asks
  pub by : asker asks ≡ Some who
  pub to : host ≡ sender
  pub home : host ≡ who.host
  pub inc : inc_of a ≡ who.inc
  pub why : Reason s after next who asks a

-- a host's row stays, begins anew, or is that of a request which was decided; what its reply tells is so after the step
pub data RowMove (s : Server) (after : List File) (next : ℕ) (d : Datagram) (sender k : ℕ) (line : HostRow) : Type 0 where
  row_stays : line ≡ host_row s.kept k → RowMove s after next d sender k line
  row_begins : line.seq ≡ 0 → RowMove s after next d sender k line
  row_decided : (xid : ℕ) (r : Request) (who : Who) → d ≡ request xid r → asker r ≡ Some who → who.host ≡ sender → k ≡ who.host → line.inc ≡ who.inc
      → sequence_of r ≡ Some line.seq → IsTold after next (verdict_reply line.inc line.verdict line.value r) r → RowMove s after next d sender k line

plain-told : (s : Server) (after : List File) (next : ℕ) (who : Who) (r : Request) (a : Reply) → IsPlain s who r a → Reason s after next who r a
plain-told s after next who r a (unattached above other e) = so_before (refused-told s.kept.files s.kept.next r a _ _ e tt)
plain-told s after next who r a (attached_again is same e) = so_before (subst (λ b. IsTold s.kept.files s.kept.next b r) (sym e) (tt, tt))
plain-told s after next who r a (not_yet same rec only e) = so_before (refused-told s.kept.files s.kept.next r a _ _ e tt)
plain-told s after next who r a (no_entry name same p is none e) =
    so_before (refused-told s.kept.files s.kept.next r a _ _ e (subst (λ q. IsCause s.kept.files s.kept.next Refusal.NoEnt q) (sym is) none))
plain-told s after next who r a (entry name f same p is some e) =
    so_before (subst (λ b. IsTold s.kept.files s.kept.next b r) (sym e)
    (subst (λ q. IsTold s.kept.files s.kept.next (Reply.Lookup who.inc f.id (blocks_of f)) q) (sym is)
    (record { file = f; found = some; has_id = refl; has_length = refl }, tt)))
plain-told s after next who r a (no_attributes file same p is none e) =
    so_before (refused-told s.kept.files s.kept.next r a _ _ e (subst (λ q. IsCause s.kept.files s.kept.next Refusal.Stale q) (sym is) none))
plain-told s after next who r a (attributes file f same p is some e) =
    so_before (subst (λ b. IsTold s.kept.files s.kept.next b r) (sym e)
    (subst (λ q. IsTold s.kept.files s.kept.next (Reply.GetAttr who.inc (blocks_of f) f.rev) q) (sym is)
    (record { file = f; found = some; has_length = refl; has_rev = refl }, tt)))
plain-told s after next who r a (no_file file same p on none e) =
    so_before (refused-told s.kept.files s.kept.next r a _ _ e (requested-lacks s.kept.files r file on none))
plain-told s after next who r a (no_block q file block want f same p is some none e) =
    so_before (refused-told s.kept.files s.kept.next r a _ _ e
    (subst (λ z. IsCause s.kept.files s.kept.next Refusal.Inval z) (sym is) (record { file = f; found = some; beyond = none-beyond f.bodies block none })))
plain-told s after next who r a (decided_again seq same sq eq e) = again seq sq (sym same) (sym eq) e
plain-told s after next who r a (is_old seq same sq below e) = so_before (refused-told s.kept.files s.kept.next r a _ _ e tt)

-- ---- the step

module _ (s : Server) (sender next : ℕ) (d : Datagram) (no_null : (xid : ℕ) → d ≡ request xid Request.Null → ⊥) where
  -- each reply among some packets is true, where this is kept after the step
  abbrev Tell : Kept → List Packet → Type 0
  Tell after sends = (host xid : ℕ) (a : Reply) → In sends (to_host host (reply xid a)) → Tells s after.files after.next d sender host xid a

  abbrev Rows : Kept → Type 0
  Rows after = (k : ℕ) → RowMove s after.files after.next d sender k (host_row after k)

  abbrev Both : ServerStep → Type 0
  Both t = Tell t.server.kept t.sends × Rows t.server.kept

  no-packets : (after : Kept) → Tell after []
  no-packets after host xid a i = absurd i

  same-rows : Rows s.kept
  same-rows k = row_stays refl

  one-reply : (after : Kept) (h x : ℕ) (b : Reply) → Tells s after.files after.next d sender h x b → Tell after (to_host h (reply x b) ∷ [])
  one-reply after h x b t host xid a (inr i) = absurd i
  one-reply after h x b t host xid a (inl e) =
      let same = told-same h host (reply x b) (reply xid a) e in
      let parts = reply-same x xid b a same.1 in
      subst (λ k. Tells s after.files after.next d sender k xid a) same.0
      (subst (λ k. Tells s after.files after.next d sender h k a) parts.0 (subst (λ k. Tells s after.files after.next d sender h x k) parts.1 t))

  behind-notices : (after : Kept) (number : ℕ) (rows : List Row) (h x : ℕ) (b : Reply) → Tells s after.files after.next d sender h x b
      → Tell after (notices number rows ++ to_host h (reply x b) ∷ [])
  behind-notices after number rows h x b t host xid a i = by (in-append (notices number rows) (to_host h (reply x b) ∷ []) (to_host host (reply xid a)) i)
    where
      by : In (notices number rows) (to_host host (reply xid a)) ⊎ In (to_host h (reply x b) ∷ []) (to_host host (reply xid a))
          → Tells s after.files after.next d sender host xid a
      by (inl note) = absurd (notices-no-reply number rows host xid a note)
      by (inr own) = one-reply after h x b t host xid a own

  answers : (after : Kept) (xid : ℕ) (who : Who) (r : Request) (a : Reply) → d ≡ request xid r → asker r ≡ Some who → IsFrom sender who
      → inc_of a ≡ who.inc → Reason s after.files after.next who r a → Tells s after.files after.next d sender who.host xid a
  answers after xid who r a e by from inc why = record { asks = r; who = who; is = e; by = by; to = from.host; home = refl; inc = inc; why = why }

  later : (xid : ℕ) (who : Who) (r : Request) (table : Table) (rows : List Row) → d ≡ request xid r → asker r ≡ Some who → IsFrom sender who
      → Both (tells_later s who xid table rows)
  unfolding tells_later after_notices
  later xid who r table rows e by from = (
    behind-notices s.kept s.notice rows who.host xid (Reply.Refused who.inc Refusal.TryLater)
        (answers s.kept xid who r (Reply.Refused who.inc Refusal.TryLater) e by from refl (so_before (tt, tt))),
    same-rows,
  )

  -- what is told without a file's id, length and revision
  replied : (xid : ℕ) (who : Who) (r : Request) (a : Reply) → d ≡ request xid r → asker r ≡ Some who → IsFrom sender who → inc_of a ≡ who.inc
      → IsTold s.kept.files s.kept.next a r → Tell s.kept (to_host who.host (reply xid a) ∷ [])
  replied xid who r a e by from inc so = one-reply s.kept who.host xid a (answers s.kept xid who r a e by from inc (so_before so))

  -- a request that is decided now
  committed : (xid : ℕ) (who : Who) (seq : ℕ) (r : Request) (c : Decision) (number : ℕ) (rows : List Row) → d ≡ request xid r → asker r ≡ Some who
      → sequence_of r ≡ Some seq → IsFrom sender who → c.server.kept.hosts ≡ s.kept.hosts → c.sends ≡ notices number rows
      → IsTold c.server.kept.files c.server.kept.next (verdict_reply who.inc c.verdict c.value r) r → Both (commits who seq xid r c)
  unfolding commits keeping with_row
  committed xid who seq r c number rows e by sq from hosts sent so =
      let answer : Reply = verdict_reply who.inc c.verdict c.value r in
      let after : Kept = c.server.kept in (
        subst (λ xs. Tell after (xs ++ to_host who.host (reply xid answer) ∷ [])) (sym sent)
            (behind-notices after number rows who.host xid answer
            (answers after xid who r answer e by from (verdict-inc who.inc c.verdict c.value r seq sq) (so_after so))),
        λ k. line-as c.server.kept who.host k (row_after who seq c) (RowMove s after.files after.next d sender k)
            (row_stays (ap (λ hs. host_row (record s.kept { hosts = hs }) k) hosts))
            (λ here. row_decided xid r who e by from.host here refl sq so),
      )

  declined : (xid : ℕ) (who : Who) (seq : ℕ) (r : Request) (v : Verdict) → d ≡ request xid r → asker r ≡ Some who → sequence_of r ≡ Some seq
      → IsFrom sender who → IsDeclined s who r v → Both (commits who seq xid r (decides s v))
  unfolding decides
  declined xid who seq r v e by sq from declines =
      committed xid who seq r (decides s v) 0 [] e by sq from refl refl (declined-told s who r v declines)

  put-off : (xid : ℕ) (who : Who) (seq : ℕ) (r : Request) (file : ℕ) (table : Table) → d ≡ request xid r → asker r ≡ Some who → sequence_of r ≡ Some seq
      → IsFrom sender who → Both (commits who seq xid r (puts_off s who file table))
  unfolding puts_off after_notices
  put-off xid who seq r file table e by sq from =
      committed xid who seq r (puts_off s who file table) s.notice (in_the_way s file who.host Access.Write) e by sq from refl refl (tt, tt)

  created : (xid : ℕ) (who : Who) (seq blocks : ℕ) (name : List ℕ) → d ≡ request xid (Request.Create who seq name blocks) → IsFrom sender who
      → CanCreate s name blocks → Both (commits who seq xid (Request.Create who seq name blocks) (creates s name blocks))
  unfolding creates keeping with_new_file
  created xid who seq blocks name e from can =
      committed xid who seq (Request.Create who seq name blocks) (creates s name blocks) 0 [] e refl refl from refl refl
      (made-named s.kept name blocks can.free can.id_room, tt)

  error-tells : (m : Message) → ((x : ℕ) (a : Reply) → m ≡ reply x a → ⊥) → Tell s.kept (to_host sender m ∷ [])
  error-tells m none host xid a (inr i) = absurd i
  error-tells m none host xid a (inl e) = absurd (none xid a (told-same sender host m (reply xid a) e).1)

  attached : (xid : ℕ) (who : Who) → d ≡ request xid (Request.Attach who) → IsFrom sender who → Both (attaches s who xid)
  unfolding attaches keeping_with with_row
  attached xid who e from = (
    one-reply s.kept who.host xid (Reply.Attach who.inc)
        (answers s.kept xid who (Request.Attach who) (Reply.Attach who.inc) e refl from refl (so_before (tt, tt))),
    λ k. line-as s.kept who.host k (record { inc = who.inc; seq = 0; verdict = Verdict.Done; value = 0 }) (RowMove s s.kept.files s.kept.next d sender k)
        (row_stays refl) (λ here. row_begins refl),
  )

  -- a grant tells the length of its file
  told-length : (f : File) → find_file f.id s.kept.files ≡ Some f → KeepsAt s.kept.files f.id (blocks_of f) f.rev
  told-length f found = record { file = f; found = found; has_length = refl; has_rev = refl }

  pub receive-tells : Both (receive s sender next d)
  unfolding grant_of quiet drops says vacates serves leases with_table writes_through stores wrote stores_recovering resizes removes keeping
      keeping_with with_files
  receive-tells = server-hears s sender next d Both (record {
    stays = (no-packets s.kept, same-rows);
    dropping = λ reason. (no-packets s.kept, same-rows);
    erring = λ m e. (error-tells m (λ x a is. error-no-reply d m x a e is), same-rows);
    answers_null = λ xid e. absurd (no_null xid e);
    replying =
        λ xid who r a e by from plain. (
          one-reply s.kept who.host xid a
              (answers s.kept xid who r a e by from (plain-inc s who r a plain) (plain-told s s.kept.files s.kept.next who r a plain)),
          same-rows,
        );
    attaching = λ xid who e from above. attached xid who e from;
    vacating = λ xid who file tag e current. (no-packets s.kept, same-rows);
    putting_off = λ xid who r f clash e by file asking c. later xid who r _ _ e by asking.current.from;
    putting_off_waiting = λ xid who r f clash want e by file wants asking c own room. later xid who r _ _ e by asking.current.from;
    putting_off_by_own = λ xid who r f want own e by file wants asking c o evicting. later xid who r _ _ e by asking.current.from;
    reading =
        λ xid who q block f body e asking there c.
        (replied xid who (Request.Read who q f.id block None) (Reply.Read who.inc f.rev body None) e refl asking.current.from refl (tt, tt), same-rows);
    reading_full =
        λ xid who q block want f body e asking there c own room.
        (replied xid who (Request.Read who q f.id block (Some want)) (Reply.Read who.inc f.rev body None) e refl asking.current.from refl (tt, tt), same-rows);
    reading_granted =
        λ xid who q block want f body row term e asking there c g. (
          replied xid who (Request.Read who q f.id block (Some want)) (Reply.Read who.inc f.rev body _) e refl asking.current.from refl
              (tt, told-length f asking.found),
          same-rows,
        );
    leasing_full =
        λ xid who want f e asking c own room.
        (replied xid who (Request.GetLease who f.id want) (Reply.GetLease who.inc None) e refl asking.current.from refl (tt, tt), same-rows);
    leasing =
        λ xid who want f row term e asking c g. (
          replied xid who (Request.GetLease who f.id want) (Reply.GetLease who.inc _) e refl asking.current.from refl (tt, told-length f asking.found),
          same-rows,
        );
    declining = λ xid who seq r verdict e by sq fresh declines. declined xid who seq r verdict e by sq fresh.current.from declines;
    putting_off_change = λ xid who seq r f clash e by sq file base changing c. put-off xid who seq r f.id _ e by sq changing.fresh.current.from;
    creating = λ xid who seq blocks name e fresh serves can. created xid who seq blocks name e fresh.current.from can;
    writing_through =
        λ xid who seq block first last body f e changing below c. committed xid who seq _ (writes_through s who f block first body) 0 [] e refl refl
        changing.fresh.current.from refl refl (tt, tt);
    storing =
        λ xid who seq block first last base body f row e changing below can. committed xid who seq _ (stores s who f row block first last body) 0 [] e
        refl refl changing.fresh.current.from refl refl (tt, tt);
    storing_recovering =
        λ xid who seq block first final base body f until heard last e fresh recovers found below boot rev. committed xid who seq _
        (stores_recovering s until last who f block first final body) 0 [] e refl refl fresh.current.from refl refl (tt, tt);
    resizing =
        λ xid who seq q blocks f e changing can c. committed xid who seq _ (resizes s who q f blocks) 0 [] e refl refl changing.fresh.current.from refl
        refl (tt, tt);
    removing = λ xid who seq q f e changing c. committed xid who seq _ (removes s who q f) 0 [] e refl refl changing.fresh.current.from refl refl (tt, tt);
  })
