-- In every run a file stays under its id and name until it is removed.
use Rattle.std.proofs.Common.{◌≡◌, ◌≢◌, ◌⊎◌, ℕ, ◌+◌, ◌==◌, Bool, true, false, List, [], ◌∷◌, ◌++◌, Option, Some, None, length, refl, sym, subst, ap}
use Rattle.std.proofs.Common.{◌∙◌, inl, inr, append_assoc}
use Rattle.std.specs.Prelude.{slice_get}
use Rattle.nq_base.specs.declared.Entry.{Entry}
use Rattle.nq_base.specs.declared.Event.{Event}
use Rattle.nq_base.specs.declared.Party.{Party}
use Rattle.nq_base.specs.declared.Request.{Request}
use Rattle.nq_base.specs.declared.Who.{Who}
use Rattle.nq_model.specs.protocol.Client.{Client, ClientStep}
use Rattle.nq_model.specs.protocol.ClientStep.{client_call, client_tick, restart}
use Rattle.nq_model.specs.protocol.Decide.{Decision, decides, creates, writes_through, stores, wrote, stores_recovering, resizes, removes, puts_off, commits}
use Rattle.nq_model.specs.protocol.Hear.{hear}
use Rattle.nq_model.specs.laws.Journal.{Exists}
use Rattle.nq_model.specs.protocol.Kept.{File, Kept, find_file, replace_file, drop_file, new_file, written_file, resized_file, fenced_file, with_files}
use Rattle.nq_model.specs.protocol.Kept.{with_new_file, with_row}
use Rattle.nq_model.specs.protocol.Message.{Datagram, Message, Packet, datagram_of}
use Rattle.nq_model.specs.protocol.Server.{Server, ServerStep, quiet, drops, says, keeping, keeping_with, with_table, after_notices}
use Rattle.nq_model.specs.protocol.ServerStep.{receive, tick, crash, boot, booted, fence, at_time, opens, ends_writing, attaches, vacates, tells_later, serves}
use Rattle.nq_model.specs.protocol.ServerStep.{leases}
use Rattle.nq_model.specs.protocol.World.{Head, World, after_server, after_client, at_client, after_hearing, sending_host, deliver_to_client, deliver_to}
use Rattle.nq_model.specs.protocol.World.{deliver, step, run}
use Rattle.walk_steps.proofs.KeptChanges.{find-own-replaced, find-other-replaced, find-not-removed, find-added}
use Rattle.walk_steps.proofs.Rows.{same-number, number-same}
use Rattle.walk_steps.proofs.DecideCases.{found-file}
use Rattle.walk_steps.proofs.ServerCases.{server-hears, server-ticks}
use Rattle.law_runs.specs.Staying.{KeepsUnder, IsRemoval, WasRemoved, FilesStayUntilRemoved}

-- ---- the files of a server

-- a file of the same id and name takes the place of one that is kept
replaced-keeps : (id : ℕ) (name : List ℕ) (f g : File) (files : List File) → find_file f.id files ≡ Some f → g.id ≡ f.id → g.name ≡ f.name
    → KeepsUnder id name files
    → KeepsUnder id name (replace_file g files)
replaced-keeps id name f g files found same_id same_name k = by (id == g.id) refl
  where
    there : find_file g.id files ≡ Some f
    there = subst (λ n. find_file n files ≡ Some f) (sym same_id) found

    by : (b : Bool) → (id == g.id) ≡ b → KeepsUnder id name (replace_file g files)
    by true e =
        let same : id ≡ g.id = same-number id g.id e in
        let own : find_file g.id files ≡ Some k.file = subst (λ n. find_file n files ≡ Some k.file) same k.found in
        let one : f ≡ k.file = cc (there, own) in
        record {
          file = g;
          found = subst (λ n. find_file n (replace_file g files) ≡ Some g) (sym same) (find-own-replaced g f files there);
          named = same_name ∙ ap (λ x. x.name) one ∙ k.named;
        }
    by false e =
        let apart : id ≢ g.id = λ same. let yes : (id == g.id) ≡ true = number-same id g.id same in absurd (cc) in
        record { file = k.file; found = find-other-replaced id g files apart ∙ k.found; named = k.named }

added-keeps : (id : ℕ) (name : List ℕ) (g : File) (files : List File) → KeepsUnder id name files → KeepsUnder id name (files ++ g ∷ [])
added-keeps id name g files k = record { file = k.file; found = find-added id g k.file files k.found; named = k.named }

fence-keeps : (id : ℕ) (name : List ℕ) (kept : Kept) (file : ℕ) (o : Option File) → find_file file kept.files ≡ o → KeepsUnder id name kept.files
    → KeepsUnder id name (fence kept o).files
unfolding with_files fenced_file
fence-keeps id name kept file None is k = k
fence-keeps id name kept file (Some f) is k =
    let own : f.id ≡ file = found-file file kept.files f is in
    replaced-keeps id name f (fenced_file f) kept.files (subst (λ n. find_file n kept.files ≡ Some f) (sym own) is) refl refl k

boot-keeps : (id : ℕ) (name : List ℕ) (kept : Kept) (longest : ℕ) → KeepsUnder id name kept.files → KeepsUnder id name (booted kept longest).files
boot-keeps id name kept longest k = by (kept.opened == 0) refl
  where
    by : (b : Bool) → (kept.opened == 0) ≡ b → KeepsUnder id name (booted kept longest).files
    by true e = rw e k
    by false e = rw e k

-- ---- a step of the server

module _ (s : Server) (id : ℕ) (name : List ℕ) (k : KeepsUnder id name s.kept.files) where
  -- the file is still kept, or is removed in this step
  abbrev Stays : ServerStep → Type 0
  Stays t = KeepsUnder id name t.server.kept.files ⊎ Exists (IsRemoval id) t.entries

  committed : (who : Who) (seq xid : ℕ) (r : Request) (c : Decision) → KeepsUnder id name c.server.kept.files ⊎ Exists (IsRemoval id) c.entries
      → Stays (commits who seq xid r c)
  unfolding commits keeping with_row
  committed who seq xid r c stays = stays

  removed : (who : Who) (seq xid q : ℕ) (f : File) → Stays (commits who seq xid (Request.Remove who seq q f.id) (removes s who q f))
  unfolding removes keeping_with with_files
  removed who seq xid q f = committed who seq xid (Request.Remove who seq q f.id) (removes s who q f) (by (id == f.id) refl)
    where
      by : (b : Bool) → (id == f.id) ≡ b → KeepsUnder id name (drop_file f.id s.kept.files) ⊎ Exists (IsRemoval id) (removes s who q f).entries
      by true e = inr (inl (sym (same-number id f.id e), refl))
      by false e =
          let apart : id ≢ f.id = λ same. let yes : (id == f.id) ≡ true = number-same id f.id same in absurd (cc) in
          inl (record { file = k.file; found = find-not-removed f.id id s.kept.files apart ∙ k.found; named = k.named })

  receive-stays : (sender next : ℕ) (d : Datagram) → Stays (receive s sender next d)
  unfolding quiet drops says vacates serves leases with_table attaches tells_later after_notices keeping_with with_row decides creates with_new_file
      keeping puts_off writes_through stores wrote stores_recovering resizes with_files written_file resized_file
  receive-stays sender next d = server-hears s sender next d Stays (record {
    stays = inl k;
    dropping = λ reason. inl k;
    erring = λ m e. inl k;
    answers_null = λ xid e. inl k;
    replying = λ xid who r a e by from plain. inl k;
    attaching = λ xid who e from above. inl k;
    vacating = λ xid who file tag e current. inl k;
    putting_off = λ xid who r f clash e by file asking c. inl k;
    putting_off_waiting = λ xid who r f clash want e by file wants asking c own room. inl k;
    putting_off_by_own = λ xid who r f want own e by file wants asking c o evicting. inl k;
    reading = λ xid who q block f body e asking there c. inl k;
    reading_full = λ xid who q block want f body e asking there c own room. inl k;
    reading_granted = λ xid who q block want f body row term e asking there c g. inl k;
    leasing_full = λ xid who want f e asking c own room. inl k;
    leasing = λ xid who want f row term e asking c g. inl k;
    declining = λ xid who seq r verdict e by sq fresh declines. committed who seq xid r (decides s verdict) (inl k);
    putting_off_change = λ xid who seq r f clash e by sq file base changing c. committed who seq xid r (puts_off s who f.id _) (inl k);
    creating =
        λ xid who seq blocks file e fresh serving can. committed who seq xid _ (creates s file blocks)
        (inl (added-keeps id name (new_file s.kept.next file blocks) s.kept.files k));
    writing_through =
        λ xid who seq block first last body f e changing below c. committed who seq xid _ (writes_through s who f block first body)
        (inl (replaced-keeps id name f (written_file f block body) s.kept.files changing.found refl refl k));
    storing =
        λ xid who seq block first last base body f row e changing below can. committed who seq xid _ (stores s who f row block first last body)
        (inl (replaced-keeps id name f (written_file f block body) s.kept.files changing.found refl refl k));
    storing_recovering =
        λ xid who seq block first final base body f until heard last e fresh recovers found below boot rev. committed who seq xid _
        (stores_recovering s until last who f block first final body)
        (inl (replaced-keeps id name f (written_file f block body) s.kept.files found refl refl k));
    resizing =
        λ xid who seq q blocks f e changing can c. committed who seq xid _ (resizes s who q f blocks)
        (inl (replaced-keeps id name f (resized_file f blocks) s.kept.files changing.found refl refl k));
    removing = λ xid who seq q f e changing c. removed who seq xid q f;
  })

  tick-stays : (now : ℕ) → Stays (tick s now)
  unfolding quiet at_time opens ends_writing keeping_with with_table
  tick-stays now = server-ticks s now Stays (record {
    waits = λ until heard last p goes_on. inl k;
    opening = λ until heard last p over. inl k;
    ends_reading = λ p none. inl k;
    ending_writing = λ row p due. inl (fence-keeps id name s.kept row.file (find_file row.file s.kept.files) refl k);
  })

  crash-stays : (longest : ℕ) → Stays (crash s longest)
  unfolding crash boot
  crash-stays longest = inl (boot-keeps id name s.kept longest k)

-- ---- an event

-- an event adds to the journal, and after it a file that was kept is still kept, or was removed in it
record Goes (id : ℕ) (name : List ℕ) (before after : World) : Type 0 where
  more : List Entry
  grows : after.journal ≡ more ++ before.journal
  so : KeepsUnder id name before.server.kept.files → KeepsUnder id name after.server.kept.files ⊎ Exists (IsRemoval id) more

module _ (w : World) (id : ℕ) (name : List ℕ) where
  still : Goes id name w w
  still = record { more = []; grows = refl; so = λ k. inl k }

  of-client : (host : ℕ) (t : ClientStep) → Goes id name w (after_client w host t)
  unfolding after_client
  of-client host t = record { more = t.entries; grows = refl; so = λ k. inl k }

  of-server : (t : ServerStep) → (KeepsUnder id name w.server.kept.files → KeepsUnder id name t.server.kept.files ⊎ Exists (IsRemoval id) t.entries)
      → Goes id name w (after_server w t)
  unfolding after_server
  of-server t so = record { more = t.entries; grows = refl; so = so }

  at-host : (host : ℕ) (f : Client → ClientStep) (o : Option Client) → Goes id name w (at_client w host f o)
  at-host host f None = still
  at-host host f (Some c) = of-client host (f c)

  hearing : (host : ℕ) (o : Option ClientStep) → Goes id name w (after_hearing w host o)
  hearing host None = still
  hearing host (Some t) = of-client host t

  to-client : (n host : ℕ) (m : Message) (o : Option Client) → Goes id name w (deliver_to_client w n host m o)
  to-client n host m None = still
  to-client n host m (Some c) = hearing host (hear c n m)

  to-party : (n : ℕ) (p : Packet) (to : Party) → Goes id name w (deliver_to w n p to)
  to-party n p Party.Server =
      of-server (receive w.server (sending_host p.sender) (length w.packets) (datagram_of p.message))
      (λ k. receive-stays w.server id name k (sending_host p.sender) (length w.packets) (datagram_of p.message))
  to-party n p (Party.Client host) = to-client n host p.message (slice_get w.clients host)

  delivered : (n : ℕ) (o : Option Packet) → Goes id name w (deliver w n o)
  delivered n None = still
  delivered n (Some p) = to-party n p p.to

  stepped : (event : Event) → Goes id name w (step w event)
  stepped (Event.Call host op) = at-host host (λ c. client_call c op) (slice_get w.clients host)
  stepped (Event.Deliver n) = delivered n (slice_get w.packets n)
  stepped Event.ServerTick = of-server (tick w.server (w.server.now + 1)) (λ k. tick-stays w.server id name k (w.server.now + 1))
  stepped (Event.ClientTick host) = at-host host (λ c. client_tick c (c.now + 1)) (slice_get w.clients host)
  stepped (Event.Restart host) = at-host host restart (slice_get w.clients host)
  stepped (Event.Crash longest) = of-server (crash w.server longest) (λ k. crash-stays w.server id name k longest)

-- ---- runs

exists-left : (Fact : Entry → Type 0) (more rest : List Entry) → Exists Fact more → Exists Fact (more ++ rest)
exists-left Fact [] rest some = absurd some
exists-left Fact (e ∷ more) rest (inl this) = inl this
exists-left Fact (e ∷ more) rest (inr some) = inr (exists-left Fact more rest some)

exists-right : (Fact : Entry → Type 0) (more rest : List Entry) → Exists Fact rest → Exists Fact (more ++ rest)
exists-right Fact [] rest some = some
exists-right Fact (e ∷ more) rest some = inr (exists-right Fact more rest some)

-- one event more
goes-on : (id : ℕ) (name : List ℕ) (u v w : World) → Goes id name u v → Goes id name v w → Goes id name u w
goes-on id name u v w first second = record {
  more = second.more ++ first.more;
  grows = second.grows ∙ ap (λ es. second.more ++ es) first.grows ∙ sym (append_assoc second.more first.more u.journal);
  so = λ k. behind (first.so k);
} where
  now : KeepsUnder id name w.server.kept.files ⊎ Exists (IsRemoval id) second.more
      → KeepsUnder id name w.server.kept.files ⊎ Exists (IsRemoval id) (second.more ++ first.more)
  now (inl kept) = inl kept
  now (inr gone) = inr (exists-left (IsRemoval id) second.more first.more gone)

  behind : KeepsUnder id name v.server.kept.files ⊎ Exists (IsRemoval id) first.more
      → KeepsUnder id name w.server.kept.files ⊎ Exists (IsRemoval id) (second.more ++ first.more)
  behind (inl kept) = now (second.so kept)
  behind (inr gone) = inr (exists-right (IsRemoval id) second.more first.more gone)

stays : (head : Head) (later earlier : List Event) (id : ℕ) (name : List ℕ) → Goes id name (run head earlier) (run head (later ++ earlier))
stays head [] earlier id name = still (run head earlier) id name
stays head (event ∷ later) earlier id name =
    goes-on id name (run head earlier) (run head (later ++ earlier)) (step (run head (later ++ earlier)) event)
    (stays head later earlier id name) (stepped (run head (later ++ earlier)) id name event)

pub files-stay-until-removed : FilesStayUntilRemoved
files-stay-until-removed head later earlier id name k = by (g.so k)
  where
    g : Goes id name (run head earlier) (run head (later ++ earlier))
    g = stays head later earlier id name

    by : KeepsUnder id name (run head (later ++ earlier)).server.kept.files ⊎ Exists (IsRemoval id) g.more
        → KeepsUnder id name (run head (later ++ earlier)).server.kept.files ⊎ WasRemoved id head later earlier
    by (inl kept) = inl kept
    by (inr gone) = inr (record { more = g.more; grows = g.grows; removal = gone })
