-- Each step of the server keeps kept files to their history, and what it replies of them is true.
use Rattle.std.proofs.Common.{◌≡◌, ◌<◌, ℕ, ◌+◌, true, List, [], ◌∷◌, ◌++◌, Option, Some, None, map, refl, sym, subst, ap, ◌∙◌, arith, inr}
use Rattle.std.specs.Prelude.{slice_set, unwrap_or}
use Rattle.std.proofs.lemmas.Bool.Decides.{nat_tests}
use Rattle.std.proofs.lemmas.List.{length-replicate}
use Rattle.nq_base.specs.Block.{value_of, zeros}
use Rattle.nq_base.specs.declared.Entry.{Entry}
use Rattle.nq_base.specs.declared.PushBase.{PushBase}
use Rattle.nq_base.specs.declared.Reply.{Reply}
use Rattle.nq_base.specs.declared.Request.{Request}
use Rattle.nq_base.specs.declared.Row.{Row}
use Rattle.nq_base.specs.declared.Verdict.{Verdict}
use Rattle.nq_base.specs.declared.Who.{Who}
use Rattle.walk_steps.proofs.ClientMoves.{some-same, none-some}
use Rattle.walk_files.proofs.Facts.{History, Follows, follows, IsDone, LineTells, line-follows}
use Rattle.walk_files.proofs.Facts.{FilesFit, UnusedFit}
use Rattle.walk_files.proofs.FileMoves.{ChangesOnly, files-idle, unused-idle, files-changed, unused-changed, files-removed, files-made}
use Rattle.walk_files.proofs.FileMoves.{written-values, resized-values}
use Rattle.walk_files.proofs.Histories.{delayed-more}
use Rattle.walk_files.proofs.ServerDoes.{sets-block, sets-length, is-change, history_of, verdict-tells}
use Rattle.nq_model.specs.laws.Contents.{delayed_value, after_change}
use Rattle.nq_model.specs.protocol.Ask.{grant_of}
use Rattle.nq_model.specs.protocol.Decide.{Decision, decides, creates, writes_through, stores, wrote, stores_recovering, resizes, removes, puts_off}
use Rattle.nq_model.specs.protocol.Decide.{verdict_reply, row_after, commits}
use Rattle.nq_model.specs.protocol.Kept.{File, blocks_of, find_file, host_row, with_row, with_files, with_new_file, written_file, resized_file, new_file}
use Rattle.nq_model.specs.protocol.Kept.{replace_file}
use Rattle.nq_model.specs.protocol.Message.{reply, Packet, Datagram, request, asker, sequence_of}
use Rattle.nq_model.specs.protocol.Server.{Server, ServerStep, to_host, quiet, keeping, keeping_with, with_table, after_notices}
use Rattle.nq_model.specs.protocol.ServerStep.{vacates, serves, grants, to_read, receive}
use Rattle.nq_model.specs.protocol.Table.{Table}
use Rattle.walk_steps.proofs.Packets.{In, Asked}
use Rattle.walk_steps.proofs.ServerSays.{verdict-inc, notices-no-reply}
use Rattle.walk_steps.proofs.KeptChanges.{find-new-added, line-as}
use Rattle.walk_steps.proofs.Rows.{number-same}
use Rattle.walk_steps.proofs.ServerCases.{server-hears}
use Rattle.walk_steps.proofs.ServerOutcomes.{IsDeclined}
use Rattle.walk_steps.proofs.ServerOutcomes.{declined-not}
use Rattle.walk_files.proofs.UnchangedContents.{IsFirst, Hearing, idle, is-true, last-true, stays, dropping, erring, replying, serving, leasing, later}
use Rattle.walk_files.proofs.UnchangedContents.{attaching}
use Rattle.walk_files.proofs.UnchangedContents as unchanged

module _ (journal : List Entry) (first after : ℕ → ℕ) (ps : List Packet) (s : Server) (sender next : ℕ) (d : Datagram)
    (h : Hearing journal first ps s sender d) where
  abbrev before : History
  before = history_of journal first s

  abbrev ShowsIf : ServerStep → Type 0
  ShowsIf = unchanged.ShowsIf journal first after ps s sender next d h

  -- ---- a decision

  -- what a decision does
  record Decides (c : Decision) : Type 0 where
    lines : (host : ℕ) → host_row c.server.kept host ≡ host_row s.kept host
    silent : (other y : ℕ) (b : Reply) → In c.sends (to_host other (reply y b)) → ⊥
    follow : IsFirst first after s.kept.next c.server.kept.files
        → Follows before (record { journal = c.entries ++ journal; first = after; next = c.server.kept.next })
    files : IsFirst first after s.kept.next c.server.kept.files
        → FilesFit (record { journal = c.entries ++ journal; first = after; next = c.server.kept.next }) c.server.kept.files
    unused : IsFirst first after s.kept.next c.server.kept.files
        → UnusedFit (record { journal = c.entries ++ journal; first = after; next = c.server.kept.next })

  committed : (xid : ℕ) (who : Who) (seq : ℕ) (r : Request) (c : Decision) → d ≡ request xid r → asker r ≡ Some who → sequence_of r ≡ Some seq
      → who.host ≡ sender → Decides c →
      (IsFirst first after s.kept.next c.server.kept.files → c.verdict ≡ Verdict.Done
      → IsDone (record { journal = c.entries ++ journal; first = after; next = c.server.kept.next }) c.value r) → ShowsIf (commits who seq xid r c)
  unfolding commits keeping with_row
  committed xid who seq r c e by sq from does done is =
      let g : History = record { journal = c.entries ++ journal; first = after; next = c.server.kept.next } in
      let a : Reply = verdict_reply who.inc c.verdict c.value r in
      record {
        follow = does.follow is;
        files = does.files is;
        unused = does.unused is;
        replies =
            last-true journal first after ps s sender next d h g c.sends does.silent who.host xid a
            (is-true journal first after ps s sender next d h g xid who r a e by from (verdict-inc who.inc c.verdict c.value r seq sq) (verdict-tells g
            who.inc c.verdict c.value r (done is)));
        lines = λ host. line-as c.server.kept who.host host (row_after who seq c) (LineTells g ps host)
            (subst (LineTells g ps host) (sym (does.lines host)) (line-follows ps ps host (host_row s.kept host) (does.follow is) (λ x q b. b) (h.lines host)))
            (λ same. inr (record {
              xid = xid;
              asks = r;
              who = who;
              sent = subst (λ n. Asked ps n xid r) (sym (same ∙ from)) (h.sent xid r e);
              by = by;
              home = sym same;
              inc = refl;
              sequence = sq;
              done = done is;
            }));
      }

  no-packets : (other y : ℕ) (b : Reply) → In [] (to_host other (reply y b)) → ⊥
  no-packets other y b bad = bad

  -- nothing is decided
  no-effect : (c : Decision) → c.server.kept ≡ s.kept → c.entries ≡ [] → ((other y : ℕ) (b : Reply) → In c.sends (to_host other (reply y b)) → ⊥) → Decides c
  no-effect c same none silent = record {
    lines = λ host. ap (λ k. host_row k host) same;
    silent = silent;
    follow =
        λ is. subst (λ es. Follows before (record { journal = es ++ journal; first = after; next = c.server.kept.next })) (sym none)
        (subst (λ k. Follows before (record { journal = journal; first = after; next = k.next })) (sym same)
        (follows before [] after s.kept.next (omega arith) (was is).same));
    files =
        λ is. subst (λ es. FilesFit (record { journal = es ++ journal; first = after; next = c.server.kept.next }) c.server.kept.files) (sym none)
        (subst (λ k. FilesFit (record { journal = journal; first = after; next = k.next }) k.files) (sym same)
        (files-idle before [] after tt (was is).same s.kept.files h.files));
    unused =
        λ is. subst (λ es. UnusedFit (record { journal = es ++ journal; first = after; next = c.server.kept.next })) (sym none)
        (subst (λ k. UnusedFit (record { journal = journal; first = after; next = k.next })) (sym same)
        (unused-idle before [] after s.kept.next tt (omega arith) h.unused));
  } where
    was : IsFirst first after s.kept.next c.server.kept.files → IsFirst first after s.kept.next s.kept.files
    was is = subst (λ k. IsFirst first after s.kept.next k.files) same is

  declining : (xid : ℕ) (who : Who) (seq : ℕ) (r : Request) (v : Verdict) → d ≡ request xid r → asker r ≡ Some who → sequence_of r ≡ Some seq
      → who.host ≡ sender → IsDeclined s who r v → ShowsIf (commits who seq xid r (decides s v))
  unfolding decides
  declining xid who seq r v e by sq from declined =
      committed xid who seq r (decides s v) e by sq from (no-effect (decides s v) refl refl no-packets)
      (λ is done. absurd (declined-not s who r v declined done))

  putting-off : (xid : ℕ) (who : Who) (seq file : ℕ) (r : Request) (table : Table) → d ≡ request xid r → asker r ≡ Some who → sequence_of r ≡ Some seq
      → who.host ≡ sender → ShowsIf (commits who seq xid r (puts_off s who file table))
  unfolding puts_off after_notices
  putting-off xid who seq file r table e by sq from =
      committed xid who seq r (puts_off s who file table) e by sq from
      (no-effect (puts_off s who file table) refl refl (λ other y b. notices-no-reply s.notice _ other y b)) (λ is done. absurd (cc))

  creating : (xid : ℕ) (who : Who) (seq : ℕ) (name : List ℕ) (blocks : ℕ) → d ≡ request xid (Request.Create who seq name blocks) → who.host ≡ sender
      → ShowsIf (commits who seq xid (Request.Create who seq name blocks) (creates s name blocks))
  unfolding creates keeping with_new_file new_file
  creating xid who seq name blocks e from = committed xid who seq (Request.Create who seq name blocks) (creates s name blocks) e refl refl from (record {
    lines = λ host. refl;
    silent = no-packets;
    follow = λ is. follows before [] after (s.kept.next + 1) (omega arith) is.same;
    files = λ is. files-made before after name blocks is.same (made is) s.kept.files h.unused h.files;
    unused = λ is. unused-idle before [] after (s.kept.next + 1) tt (omega arith) h.unused;
  }) (λ is done. record { changed = tt; change = tt })
    where
      -- the new file is found under the next id
      made : IsFirst first after s.kept.next (s.kept.files ++ new_file s.kept.next name blocks ∷ []) → after s.kept.next ≡ blocks
      made is =
          is.made s.kept.next (new_file s.kept.next name blocks) (omega arith)
          (find-new-added (new_file s.kept.next name blocks) s.kept.files (none (find_file s.kept.next s.kept.files) refl))
          ∙ length-replicate {A = List ℕ} blocks zeros
        where
          none : (o : Option File) → find_file s.kept.next s.kept.files ≡ o → find_file s.kept.next s.kept.files ≡ None
          none None n = n
          none (Some f) n = let drawn = (h.files s.kept.next f n).drawn in absurd (omega arith)

  -- a file is changed by one entry
  changing : (c : Decision) (e : Entry) (f g : File) → ((host : ℕ) → host_row c.server.kept host ≡ host_row s.kept host)
      → ((other y : ℕ) (b : Reply) → In c.sends (to_host other (reply y b)) → ⊥) → c.entries ≡ e ∷ [] → c.server.kept.next ≡ s.kept.next
      → c.server.kept.files ≡ replace_file g s.kept.files → find_file f.id s.kept.files ≡ Some f → g.id ≡ f.id → ChangesOnly e f.id → g.rev ≡ f.rev + 1
      → map value_of g.bodies ≡ after_change e journal (map value_of f.bodies) → Decides c
  changing c e f g lines silent entries ids files found one only rev bodies = record {
    lines = lines;
    silent = silent;
    follow =
        λ is. subst (λ es. Follows before (record { journal = es ++ journal; first = after; next = c.server.kept.next })) (sym entries)
        (subst (λ n. Follows before (record { journal = e ∷ journal; first = after; next = n })) (sym ids)
        (follows before (e ∷ []) after s.kept.next (omega arith) is.same));
    files =
        λ is. subst (λ fs. FilesFit (record { journal = c.entries ++ journal; first = after; next = c.server.kept.next }) fs) (sym files)
        (subst (λ es. FilesFit (record { journal = es ++ journal; first = after; next = c.server.kept.next }) (replace_file g s.kept.files))
        (sym entries) (subst (λ n. FilesFit (record { journal = e ∷ journal; first = after; next = n }) (replace_file g s.kept.files)) (sym ids)
        (files-changed before e after is.same s.kept.files f g found one only rev bodies h.files)));
    unused =
        λ is. subst (λ es. UnusedFit (record { journal = es ++ journal; first = after; next = c.server.kept.next })) (sym entries)
        (subst (λ n. UnusedFit (record { journal = e ∷ journal; first = after; next = n })) (sym ids)
        (unused-changed before e f.id after only (h.files f.id f found).drawn h.unused));
  }

  only-through : (who : Who) (f : File) (block number v : ℕ) → ChangesOnly (Entry.W who f.id block number v true) f.id
  only-through who f block number v = record { this = number-same f.id f.id refl; others = λ other apart. grind (arith, nat_tests) }

  only-stored : (who : Who) (f : File) (block a b now : ℕ) → ChangesOnly (Entry.S who f.id block a b now) f.id
  only-stored who f block a b now = record { this = number-same f.id f.id refl; others = λ other apart. grind (arith, nat_tests) }

  only-resized : (who : Who) (q : ℕ) (f : File) (from to : ℕ) → ChangesOnly (Entry.Z who q f.id from to) f.id
  only-resized who q f from to = record { this = number-same f.id f.id refl; others = λ other apart. grind (arith, nat_tests) }

  writing-through : (xid : ℕ) (who : Who) (seq block a b : ℕ) (body : List ℕ) (f : File)
      → d ≡ request xid (Request.Write who seq f.id block a b None body) → who.host ≡ sender → find_file f.id s.kept.files ≡ Some f
      → block < blocks_of f → ShowsIf (commits who seq xid (Request.Write who seq f.id block a b None body) (writes_through s who f block a body))
  unfolding writes_through keeping with_files written_file
  writing-through xid who seq block a b body f e from found below =
      let w : Entry = Entry.W who f.id block a (value_of body) true in
      let only : ChangesOnly w f.id = only-through who f block a (value_of body) in
      committed xid who seq (Request.Write who seq f.id block a b None body) (writes_through s who f block a body) e refl refl from
      (changing (writes_through s who f block a body) w f (written_file f block body) (λ host. refl) no-packets refl refl refl found refl only refl
      (written-values w journal f block (value_of body) body refl (λ values. refl)))
      (λ is done. record {
        changed = sets-block before w after is.same f (h.files f.id f found) only block (value_of body) (λ values. refl) below;
        change = is-change before w after is.same f (h.files f.id f found) only;
      })

  -- the value of stored writes
  stored-value : (who : Who) (f : File) (block a b now : ℕ) (body : List ℕ) → delayed_value journal who f.id block b ≡ Some (value_of body)
      → (values : List ℕ) → after_change (Entry.S who f.id block a b now) journal values ≡ slice_set values block (value_of body)
  stored-value who f block a b now body is values = ap (λ o. slice_set values block (unwrap_or o 0)) is

  storing : (xid : ℕ) (who : Who) (seq block a b : ℕ) (base : PushBase) (body : List ℕ) (f : File) (row : Row)
      → d ≡ request xid (Request.Write who seq f.id block a b (Some base) body) → who.host ≡ sender → find_file f.id s.kept.files ≡ Some f
      → block < blocks_of f → base.base ≡ f.rev
      → ShowsIf (commits who seq xid (Request.Write who seq f.id block a b (Some base) body) (stores s who f row block a b body))
  unfolding stores keeping_with with_files written_file
  storing xid who seq block a b base body f row e from found below over =
      let w : Entry = Entry.S who f.id block a b s.now in
      let only : ChangesOnly w f.id = only-stored who f block a b s.now in
      let value = h.pushed xid who seq f.id block a b base body (h.sent xid (Request.Write who seq f.id block a b (Some base) body) e) in
      let sets = stored-value who f block a b s.now body value in
      committed xid who seq (Request.Write who seq f.id block a b (Some base) body) (stores s who f row block a b body) e refl refl from
      (changing (stores s who f row block a b body) w f (written_file f block body) (λ host. refl) no-packets refl refl refl found refl only refl
      (written-values w journal f block (value_of body) body refl sets))
      (λ is done. record {
        changed = sets-block before w after is.same f (h.files f.id f found) only block (value_of body) sets below;
        change = (
          ap (λ n. n + 1) (sym over),
          delayed-more (w ∷ []) journal who f.id block b (value_of body) value,
          record
              { some = s.now; change = is-change before w after is.same f (h.files f.id f found) only },
        );
      })

  storing-recovering : (xid : ℕ) (who : Who) (seq block a b : ℕ) (base : PushBase) (body : List ℕ) (f : File) (until : ℕ) (last : Option Table)
      → d ≡ request xid (Request.Write who seq f.id block a b (Some base) body) → who.host ≡ sender → find_file f.id s.kept.files ≡ Some f
      → block < blocks_of f → base.base ≡ f.rev
      → ShowsIf (commits who seq xid (Request.Write who seq f.id block a b (Some base) body) (stores_recovering s until last who f block a b body))
  unfolding stores_recovering wrote keeping with_files written_file
  storing-recovering xid who seq block a b base body f until last e from found below over =
      let w : Entry = Entry.S who f.id block a b s.now in
      let only : ChangesOnly w f.id = only-stored who f block a b s.now in
      let value = h.pushed xid who seq f.id block a b base body (h.sent xid (Request.Write who seq f.id block a b (Some base) body) e) in
      let sets = stored-value who f block a b s.now body value in
      committed xid who seq (Request.Write who seq f.id block a b (Some base) body) (stores_recovering s until last who f block a b body) e refl refl from
      (changing (stores_recovering s until last who f block a b body) w f (written_file f block body) (λ host. refl) no-packets refl refl refl found
      refl only refl (written-values w journal f block (value_of body) body refl sets))
      (λ is done. record {
        changed = sets-block before w after is.same f (h.files f.id f found) only block (value_of body) sets below;
        change = (
          ap (λ n. n + 1) (sym over),
          delayed-more (w ∷ []) journal who f.id block b (value_of body) value,
          record
              { some = s.now; change = is-change before w after is.same f (h.files f.id f found) only },
        );
      })

  resizing : (xid : ℕ) (who : Who) (seq q blocks : ℕ) (f : File) → d ≡ request xid (Request.Resize who seq q f.id blocks) → who.host ≡ sender
      → find_file f.id s.kept.files ≡ Some f → ShowsIf (commits who seq xid (Request.Resize who seq q f.id blocks) (resizes s who q f blocks))
  unfolding resizes keeping with_files resized_file
  resizing xid who seq q blocks f e from found =
      let z : Entry = Entry.Z who q f.id (blocks_of f) blocks in
      let only : ChangesOnly z f.id = only-resized who q f (blocks_of f) blocks in
      committed xid who seq (Request.Resize who seq q f.id blocks) (resizes s who q f blocks) e refl refl from
      (changing (resizes s who q f blocks) z f (resized_file f blocks) (λ host. refl) no-packets refl refl refl found refl only refl (resized-values f blocks))
      (λ is done. record {
        changed = sets-length before z after is.same f (h.files f.id f found) only blocks (λ values. refl);
        change = record { some = blocks_of f; change = is-change before z after is.same f (h.files f.id f found) only };
      })

  removing : (xid : ℕ) (who : Who) (seq q : ℕ) (f : File) → d ≡ request xid (Request.Remove who seq q f.id) → who.host ≡ sender
      → find_file f.id s.kept.files ≡ Some f → ShowsIf (commits who seq xid (Request.Remove who seq q f.id) (removes s who q f))
  unfolding removes keeping_with with_files
  removing xid who seq q f e from found =
      let z : Entry = Entry.Z who q f.id (blocks_of f) 0 in
      let only : ChangesOnly z f.id = only-resized who q f (blocks_of f) 0 in
      committed xid who seq (Request.Remove who seq q f.id) (removes s who q f) e refl refl from (record {
        lines = λ host. refl;
        silent = no-packets;
        follow = λ is. follows before (z ∷ []) after s.kept.next (omega arith) is.same;
        files = λ is. files-removed before z after is.same s.kept.files f.id only h.files;
        unused = λ is. unused-changed before z f.id after only (h.files f.id f found).drawn h.unused;
      }) (λ is done. record { changed = tt; change = tt })

  -- ---- all outcomes

  pub hears : ShowsIf (receive s sender next d)
  unfolding grant_of vacates quiet with_table
  hears = server-hears s sender next d ShowsIf (record {
    stays = stays journal first after ps s sender next d h;
    dropping = dropping journal first after ps s sender next d h;
    erring = erring journal first after ps s sender next d h;
    answers_null = λ xid e. absurd (h.no_null xid e);
    replying = replying journal first after ps s sender next d h;
    attaching = λ xid who e from above. attaching journal first after ps s sender next d h xid who e from.host;
    vacating = λ xid who file tag e current. idle journal first after ps s sender next d h (vacates s who file tag) refl tt (λ is host x a bad. absurd bad);
    putting_off = λ xid who r f clash e by on asking c. later journal first after ps s sender next d h xid who r _ _ e by asking.current.from.host;
    putting_off_waiting = λ xid who r f clash want e by on w asking c own room. later journal first after ps s sender next d h xid who r _ _ e by
        asking.current.from.host;
    putting_off_by_own = λ xid who r f want own e by on w asking c o ev. later journal first after ps s sender next d h xid who r _ _ e by
        asking.current.from.host;
    reading =
        λ xid who q block f body e asking there c. serving journal first after ps s sender next d h xid who q block f body None s.table None e
        asking.current.from.host asking.found there
        (λ g grants. none-some g grants);
    reading_full =
        λ xid who q block want f body e asking there c own room. serving journal first after ps s sender next d h xid who q block f body (Some want) s.table
        None
        e asking.current.from.host asking.found there (λ g grants. none-some g grants);
    reading_granted =
        λ xid who q block want f body row term e asking there c granted. serving journal first after ps s sender next d h xid who q block f body (Some want) _
        (Some (grant_of (to_read s who f (Some want)) row term)) e asking.current.from.host asking.found there
        (λ g grants. let one = some-same (grant_of (to_read s who f (Some want)) row term) g grants in
        (ap (λ x. x.rev) (sym one), ap (λ x. x.blocks) (sym one)));
    leasing_full =
        λ xid who want f e asking c own room. leasing journal first after ps s sender next d h xid who f want s.table None e asking.current.from.host
        asking.found (λ g grants. none-some g grants);
    leasing =
        λ xid who want f row term e asking c granted. leasing journal first after ps s sender next d h xid who f want _ (Some (grant_of (to_read s who f
        (Some want)) row term))
        e asking.current.from.host asking.found
        (λ g grants. let one = some-same (grant_of (to_read s who f (Some want)) row term) g grants in
        (ap (λ x. x.rev) (sym one), ap (λ x. x.blocks) (sym one)));
    declining = λ xid who seq r v e by sq fresh declined. declining xid who seq r v e by sq fresh.current.from.host declined;
    putting_off_change = λ xid who seq r f clash e by sq changes base changing c. putting-off xid who seq f.id r _ e by sq changing.fresh.current.from.host;
    creating = λ xid who seq blocks name e fresh serves can. creating xid who seq name blocks e fresh.current.from.host;
    writing_through =
        λ xid who seq block a b body f e changing below c. writing-through xid who seq block a b body f e changing.fresh.current.from.host
        changing.found below;
    storing =
        λ xid who seq block a b base body f row e changing below can. storing xid who seq block a b base body f row e changing.fresh.current.from.host
        changing.found below can.rev;
    storing_recovering =
        λ xid who seq block a b base body f until heard last e fresh p found below boot rev. storing-recovering xid who seq block a b base body f until
        last e fresh.current.from.host found below rev;
    resizing = λ xid who seq q blocks f e changing can c. resizing xid who seq q blocks f e changing.fresh.current.from.host changing.found;
    removing = λ xid who seq q f e changing c. removing xid who seq q f e changing.fresh.current.from.host changing.found;
  })
