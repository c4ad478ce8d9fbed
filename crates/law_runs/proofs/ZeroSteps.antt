-- What no write has touched stays zeros over each step of the server and of a client.
use Rattle.std.proofs.Common.{◌≡◌, ℕ, Bool, true, false, ◌==◌, List, [], ◌∷◌, ◌++◌, Option, Some, None, reverse, map, refl, sym, subst, ap, ◌∙◌, append_assoc}
use Rattle.std.proofs.lemmas.Grind.{reverse_onto}
use Rattle.nq_base.specs.Block.{value_of}
use Rattle.nq_base.specs.declared.Entry.{Entry}
use Rattle.nq_base.specs.declared.Grant.{Grant}
use Rattle.nq_base.specs.declared.Push.{Push}
use Rattle.nq_base.specs.declared.Request.{Request}
use Rattle.nq_base.specs.declared.Row.{Row}
use Rattle.nq_base.specs.declared.Tag.{Tag}
use Rattle.nq_base.specs.declared.Verdict.{Verdict}
use Rattle.nq_base.specs.declared.Who.{Who}
use Rattle.law_runs.proofs.Books.{Book, unsaved_on, after_loss, after_names, after_report, Closed}
use Rattle.nq_model.specs.laws.UntouchedAreZeros.{AreZeros}
use Rattle.law_runs.proofs.ZeroFiles.{NoCut, Untouched, zeros-idle, zeros-written, zeros-fenced, zeros-resized, zeros-made, zeros-removed}
use Rattle.nq_model.proofs.Finding.{number-same}
use Rattle.nq_model.specs.protocol.Client.{UnderWay}
use Rattle.nq_model.specs.protocol.Decide.{Decision, decides, creates, writes_through, stores, wrote, stores_recovering, resizes, removes, puts_off, commits}
use Rattle.nq_model.specs.protocol.Hear.{loss_entry, waits_for}
use Rattle.nq_model.specs.laws.Journal.{Each}
use Rattle.nq_model.specs.protocol.Kept.{File, find_file, with_row, with_files, with_new_file}
use Rattle.nq_model.specs.protocol.Message.{Message, Datagram, Reason}
use Rattle.nq_model.specs.protocol.Server.{Server, ServerStep, says, quiet, drops, keeping, keeping_with, with_table, after_notices}
use Rattle.nq_model.specs.protocol.ServerStep.{attaches, vacates, tells_later, grants, serves, leases, receive, tick, crash, boot, booted, opens, ends_writing}
use Rattle.nq_model.specs.protocol.ServerStep.{fence, at_time}
use Rattle.nq_model.specs.protocol.Table.{Table, with_rows}
use Rattle.walk_steps.proofs.Rows.{choice}
use Rattle.walk_steps.proofs.DecideCases.{found-file}
use Rattle.walk_steps.proofs.ServerCases.{server-hears, server-ticks}

-- ---- a step of the server

module _ (j : List Entry) (s : Server) (h : AreZeros s.kept.files j) where
  abbrev Keeps : ServerStep → Type 0
  Keeps t = AreZeros t.server.kept.files (t.entries ++ j)

  stays : Keeps (quiet s)
  unfolding quiet
  stays = h

  dropping : (reason : Reason) → Keeps (drops s reason)
  unfolding drops
  dropping reason = h

  saying : (host : ℕ) (m : Message) → Keeps (says s host m)
  unfolding says
  saying host m = h

  attaching : (who : Who) (xid : ℕ) → Keeps (attaches s who xid)
  unfolding attaches keeping_with with_row
  attaching who xid = h

  vacating : (who : Who) (file : ℕ) (tag : Tag) → Keeps (vacates s who file tag)
  unfolding vacates quiet with_table
  vacating who file tag = h

  later : (who : Who) (xid : ℕ) (table : Table) (rows : List Row) → Keeps (tells_later s who xid table rows)
  unfolding tells_later after_notices with_table
  later who xid table rows = h

  granting : (who : Who) (file : ℕ) (o : Option Grant) → Each NoCut (grants s who file o)
  granting who file None = tt
  granting who file (Some g) = ((λ f b. refl), tt)

  serving : (who : Who) (xid next q : ℕ) (f : File) (block : ℕ) (body : List ℕ) (table : Table) (o : Option Grant)
      → Keeps (serves s who xid next q f block body table o)
  unfolding serves with_table
  serving who xid next q f block body table o =
      zeros-idle s.kept.files (Entry.R who q f.id block (value_of body) (Some next) ∷ grants s who f.id o) j ((λ g b. refl), granting who f.id o) h

  leasing : (who : Who) (xid file : ℕ) (table : Table) (o : Option Grant) → Keeps (leases s who xid file table o)
  unfolding leases with_table
  leasing who xid file table o = zeros-idle s.kept.files (grants s who file o) j (granting who file o) h

  committing : (who : Who) (seq xid : ℕ) (r : Request) (d : Decision) → AreZeros d.server.kept.files (d.entries ++ j) → Keeps (commits who seq xid r d)
  unfolding commits keeping with_row
  committing who seq xid r d k = k

  declining : (v : Verdict) → AreZeros (decides s v).server.kept.files ((decides s v).entries ++ j)
  unfolding decides
  declining v = h

  putting-off : (who : Who) (file : ℕ) (table : Table) → AreZeros (puts_off s who file table).server.kept.files ((puts_off s who file table).entries ++ j)
  unfolding puts_off after_notices with_table
  putting-off who file table = h

  creating : (name : List ℕ) (blocks : ℕ) → AreZeros (creates s name blocks).server.kept.files ((creates s name blocks).entries ++ j)
  unfolding creates keeping with_new_file
  creating name blocks = zeros-made s.kept.files j s.kept.next name blocks h

  writing-through : (who : Who) (f : File) (block number : ℕ) (body : List ℕ) → find_file f.id s.kept.files ≡ Some f
      → AreZeros (writes_through s who f block number body).server.kept.files ((writes_through s who f block number body).entries ++ j)
  unfolding writes_through keeping with_files
  writing-through who f block number body found =
      zeros-written s.kept.files j (Entry.W who f.id block number (value_of body) true) f block body (λ g b. refl)
      (rw (number-same f.id f.id refl, number-same block block refl) refl) found h

  storing : (who : Who) (f : File) (row : Row) (block a b : ℕ) (body : List ℕ) → find_file f.id s.kept.files ≡ Some f
      → AreZeros (stores s who f row block a b body).server.kept.files ((stores s who f row block a b body).entries ++ j)
  unfolding stores keeping_with with_files
  storing who f row block a b body found =
      zeros-written s.kept.files j (Entry.S who f.id block a b s.now) f block body (λ g n. refl)
      (rw (number-same f.id f.id refl, number-same block block refl) refl) found h

  storing-recovering : (until : ℕ) (last : Option Table) (who : Who) (f : File) (block a b : ℕ) (body : List ℕ) → find_file f.id s.kept.files ≡ Some f
      → AreZeros (stores_recovering s until last who f block a b body).server.kept.files
      ((stores_recovering s until last who f block a b body).entries ++ j)
  unfolding stores_recovering wrote keeping with_files
  storing-recovering until last who f block a b body found =
      zeros-written s.kept.files j (Entry.S who f.id block a b s.now) f block body (λ g n. refl)
      (rw (number-same f.id f.id refl, number-same block block refl) refl) found h

  resizing : (who : Who) (q : ℕ) (f : File) (blocks : ℕ) → find_file f.id s.kept.files ≡ Some f
      → AreZeros (resizes s who q f blocks).server.kept.files ((resizes s who q f blocks).entries ++ j)
  unfolding resizes keeping with_files
  resizing who q f blocks found = zeros-resized s.kept.files j who q _ blocks f found h

  removing : (who : Who) (q : ℕ) (f : File) → AreZeros (removes s who q f).server.kept.files ((removes s who q f).entries ++ j)
  unfolding removes keeping_with with_files
  removing who q f = zeros-removed s.kept.files j who q _ f.id h

  pub received : (sender next : ℕ) (d : Datagram) → Keeps (receive s sender next d)
  received sender next d = server-hears s sender next d Keeps (record {
    stays = stays;
    dropping = dropping;
    erring = λ m e. saying sender m;
    answers_null = λ xid e. saying sender _;
    replying = λ xid who r a e by from plain. saying who.host _;
    attaching = λ xid who e from above. attaching who xid;
    vacating = λ xid who file tag e now. vacating who file tag;
    putting_off = λ xid who r f clash e by on asking c. later who xid _ _;
    putting_off_waiting = λ xid who r f clash want e by on w asking c own room. later who xid _ _;
    putting_off_by_own = λ xid who r f want own e by on w asking c o ev. later who xid _ _;
    reading = λ xid who q block f body e asking there c. serving who xid next q f block body _ None;
    reading_full = λ xid who q block want f body e asking there c own room. serving who xid next q f block body _ None;
    reading_granted = λ xid who q block want f body row term e asking there c granted. serving who xid next q f block body _ _;
    leasing_full = λ xid who want f e asking c own room. leasing who xid f.id _ None;
    leasing = λ xid who want f row term e asking c granted. leasing who xid f.id _ _;
    declining = λ xid who seq r v e by sq fresh declined. committing who seq xid r (decides s v) (declining v);
    putting_off_change = λ xid who seq r f clash e by sq changes base changing c. committing who seq xid r _ (putting-off who f.id _);
    creating = λ xid who seq blocks name e fresh serves can. committing who seq xid _ (creates s name blocks) (creating name blocks);
    writing_through =
        λ xid who seq block first last body f e changing below c. committing who seq xid _ _ (writing-through who f block first body changing.found);
    storing =
        λ xid who seq block first last base body f row e changing below can. committing who seq xid _ _
        (storing who f row block first last body changing.found);
    storing_recovering =
        λ xid who seq block first final base body f until heard last e fresh p found below boot rev. committing who seq xid _ _
        (storing-recovering until last who f block first final body found);
    resizing = λ xid who seq q blocks f e changing can c. committing who seq xid _ _ (resizing who q f blocks changing.found);
    removing = λ xid who seq q f e changing c. committing who seq xid _ _ (removing who q f);
  })

  -- ---- a tick and a crash

  waiting : (now : ℕ) → Keeps (quiet (at_time s now))
  unfolding quiet at_time
  waiting now = h

  opening : (now until heard : ℕ) → Keeps (opens (at_time s now) until heard)
  unfolding opens at_time
  opening now until heard = zeros-idle s.kept.files (Entry.O s.kept.boot until heard now ∷ []) j ((λ f b. refl), tt) h

  ending-reading : (now : ℕ) (rows : List Row) → Keeps (quiet (with_table (at_time s now) (with_rows s.table rows)))
  unfolding quiet at_time with_table
  ending-reading now rows = h

  ending : (now : ℕ) (rows : List Row) (row : Row) (o : Option File) → find_file row.file s.kept.files ≡ o → Keeps (ends_writing (at_time s now) rows row)
  unfolding ends_writing at_time keeping_with with_files
  ending now rows row None found =
      subst (λ k. AreZeros k.files (Entry.F row.who row.file row.until row.heard now ∷ j)) (sym (ap (fence s.kept) found))
      (zeros-idle s.kept.files (Entry.F row.who row.file row.until row.heard now ∷ []) j ((λ f b. refl), tt) h)
  ending now rows row (Some f) found =
      subst (λ k. AreZeros k.files (Entry.F row.who row.file row.until row.heard now ∷ j)) (sym (ap (fence s.kept) found))
      (zeros-fenced s.kept.files j (Entry.F row.who row.file row.until row.heard now) f (λ g b. refl)
      (ap (λ n. find_file n s.kept.files) (found-file row.file s.kept.files f found) ∙ found) h)

  pub ticked : (now : ℕ) → Keeps (tick s now)
  ticked now = server-ticks s now Keeps (record {
    waits = λ until heard last p goes_on. waiting now;
    opening = λ until heard last p over. opening now until heard;
    ends_reading = λ p none. ending-reading now _;
    ending_writing = λ row p due. ending now _ row (find_file row.file s.kept.files) refl;
  })

  booted-files : (longest : ℕ) (b : Bool) → (s.kept.opened == 0) ≡ b → (booted s.kept longest).files ≡ s.kept.files
  booted-files longest true e = rw e refl
  booted-files longest false e = rw e refl

  pub crashed : (longest : ℕ) → Keeps (crash s longest)
  unfolding crash boot
  crashed longest =
      subst (λ fs. AreZeros fs ((crash s longest).entries ++ j)) (sym (booted-files longest (s.kept.opened == 0) refl))
      (zeros-idle s.kept.files (crash s longest).entries j ((λ f b. refl), tt) h)

-- ---- a step of a client

module _ (old : List Entry) (file block : ℕ) where
  -- a block that is untouched in the journal with the step's entries was so before
  abbrev pub Was : Book → Type 0
  Was b = Untouched b.journal file block → Untouched old file block

  was-lost : (who : Who) (ps : List Push) (j : List Entry) → (Untouched j file block → Untouched old file block)
      → Untouched (reverse (map (loss_entry who) ps) ++ j) file block → Untouched old file block
  was-lost who [] j was none = was none
  was-lost who (p ∷ ps) j was none = was-lost who ps (loss_entry who p ∷ j) was (subst (λ es. Untouched es file block) turned none)
    where
      turned : reverse (map (loss_entry who) (p ∷ ps)) ++ j ≡ reverse (map (loss_entry who) ps) ++ (loss_entry who p ∷ j)
      turned =
          ap (λ z. z ++ j) (reverse_onto (map (loss_entry who) ps) (loss_entry who p) [])
          ∙ append_assoc (reverse (map (loss_entry who) ps)) (loss_entry who p ∷ []) j

  was-report : (b : Book) (on : ℕ) (o : Option UnderWay) → Was b → Was (after_report b on o)
  was-report b on None h = h
  was-report b on (Some u) h = choice Was (waits_for on u.written u.call) (after_names b u.q on) b (λ e. h) (λ e. h)

  pub was-closed : Closed Was
  was-closed = record {
    marks = λ b u v is q same h. h;
    answers = λ b u answer by is plain h. h;
    loses = λ b on h. was-report (after_loss b on) on b.call (was-lost b.who (unsaved_on on b.push b.dirty) b.journal h);
    takes = λ b on p is h. h;
    ends = λ b h. h;
    writes = λ b on at value body h. h;
    numbers = λ b h. h;
    reads = λ b q on at value h. h;
    busy = λ b op h. h;
    names = λ b op on is h. h;
    begins = λ b op free h. h;
  }
