-- The bodies that the server keeps and sends stay filled over each of its steps.
use Rattle.std.proofs.Common.{◌≡◌, ℕ, ◌+◌, ◌%◌, ◌==◌, Bool, true, false, List, [], ◌∷◌, ◌++◌, Option, Some, None, if◌then◌else◌, replicate, refl, sym, subst}
use Rattle.std.specs.Prelude.{slice_get}
use Rattle.nq_base.specs.Block.{filled, zeros}
use Rattle.nq_base.specs.declared.Grant.{Grant}
use Rattle.nq_base.specs.declared.Reply.{Reply}
use Rattle.nq_base.specs.declared.Request.{Request}
use Rattle.nq_base.specs.declared.Row.{Row}
use Rattle.nq_base.specs.declared.Tag.{Tag}
use Rattle.nq_base.specs.declared.Verdict.{Verdict}
use Rattle.nq_base.specs.declared.Who.{Who}
use Rattle.law_runs.proofs.EachOf.{each-get, each-find, each-filter, each-through, each-set, each-take, each-replicate}
use Rattle.nq_model.proofs.Lists.{each-append}
use Rattle.nq_model.specs.protocol.Decide.{Decision, decides, creates, writes_through, stores, wrote, stores_recovering, resizes, removes, puts_off}
use Rattle.nq_model.specs.protocol.Decide.{verdict_reply, commits}
use Rattle.nq_model.specs.laws.Journal.{Each}
use Rattle.nq_model.specs.protocol.Kept.{File, find_file, replace_file, new_file, written_file, resized_file, fenced_file, with_row, with_files, with_new_file}
use Rattle.nq_model.specs.protocol.Message.{Message, Packet, Datagram, other_rpc, other_program, other_version, unknown_procedure, garbage, request, Reason}
use Rattle.nq_model.specs.protocol.Profile.{xid_end}
use Rattle.nq_model.specs.protocol.Server.{Server, ServerStep, says, quiet, drops, keeping, keeping_with, with_table, after_notices, notices}
use Rattle.nq_model.specs.protocol.ServerStep.{attaches, vacates, tells_later, serves, leases, receive, tick, crash, boot, booted, opens, ends_writing, fence}
use Rattle.nq_model.specs.protocol.ServerStep.{at_time}
use Rattle.nq_model.specs.protocol.Table.{Table, with_rows}
use Rattle.nq_model.specs.laws.BodiesAreFilled.{IsFilled, AsksFilled, TellsFilled, HasFilledBody}
use Rattle.walk_steps.proofs.ClientMoves.{some-same, none-some}
use Rattle.walk_steps.proofs.ServerCases.{server-hears, server-ticks}
use Rattle.walk_steps.proofs.ServerOutcomes.{error_for, IsPlain, unattached, attached_again, not_yet, no_entry, entry, no_attributes, attributes}
use Rattle.walk_steps.proofs.ServerOutcomes.{no_file, no_block, decided_again, is_old}

-- the blocks of a file are filled
abbrev pub FileFilled : File → Type 0
FileFilled f = Each IsFilled f.bodies

-- a packet has a filled body, or none
abbrev pub PacketFilled : Packet → Type 0
PacketFilled p = HasFilledBody p.message

pub zeros-filled : IsFilled zeros
unfolding zeros filled
zeros-filled = refl

-- ---- files

replaced : (file : File) (files : List File) → FileFilled file → Each FileFilled files → Each FileFilled (replace_file file files)
replaced file files new h = each-through FileFilled (λ f. if f.id == file.id then file else f) files (λ f old. step (f.id == file.id) f old) h
  where
    step : (b : Bool) (f : File) → FileFilled f → FileFilled (if b then file else f)
    step true f old = new
    step false f old = old

pub new-filled : (id : ℕ) (name : List ℕ) (blocks : ℕ) → FileFilled (new_file id name blocks)
unfolding new_file
new-filled id name blocks = each-replicate IsFilled blocks zeros zeros-filled

written : (f : File) (block : ℕ) (body : List ℕ) → IsFilled body → FileFilled f → FileFilled (written_file f block body)
unfolding written_file
written f block body new h = each-set IsFilled f.bodies block body new h

resized-filled : (f : File) (blocks : ℕ) → FileFilled f → FileFilled (resized_file f blocks)
unfolding resized_file
resized-filled f blocks h =
    each-take IsFilled blocks (f.bodies ++ replicate blocks zeros)
    (each-append IsFilled f.bodies (replicate blocks zeros) h (each-replicate IsFilled blocks zeros zeros-filled))

fenced : (f : File) → FileFilled f → FileFilled (fenced_file f)
unfolding fenced_file
fenced f h = h

found-filled : (id : ℕ) (files : List File) (f : File) → find_file id files ≡ Some f → Each FileFilled files → FileFilled f
found-filled id files f found h = each-find FileFilled (λ g. g.id == id) files f found h

-- ---- what is sent

notices-filled : (xid : ℕ) (rows : List Row) → Each PacketFilled (notices xid rows)
notices-filled xid [] = tt
notices-filled xid (row ∷ rows) = (tt, notices-filled ((xid + 1) % xid_end) rows)

verdict-filled : (inc : ℕ) (v : Verdict) (value : ℕ) (r : Request) → TellsFilled (verdict_reply inc v value r)
verdict-filled inc Verdict.Done value (Request.Create w seq name blocks) = tt
verdict-filled inc Verdict.Done value (Request.Write w seq file block first last push body) = tt
verdict-filled inc Verdict.Done value (Request.Resize w seq q file blocks) = tt
verdict-filled inc Verdict.Done value (Request.Remove w seq q file) = tt
verdict-filled inc Verdict.Done value other = tt
verdict-filled inc Verdict.Fenced value r = tt
verdict-filled inc Verdict.Exist value r = tt
verdict-filled inc Verdict.NoSpace value r = tt
verdict-filled inc Verdict.Invalid value r = tt
verdict-filled inc Verdict.Stale value r = tt
verdict-filled inc Verdict.TryLater value r = tt

error-filled : (d : Datagram) (m : Message) → error_for d ≡ Some m → HasFilledBody m
error-filled (other_rpc xid) m e = subst HasFilledBody (some-same _ m e) tt
error-filled (other_program xid) m e = subst HasFilledBody (some-same _ m e) tt
error-filled (other_version xid) m e = subst HasFilledBody (some-same _ m e) tt
error-filled (unknown_procedure xid) m e = subst HasFilledBody (some-same _ m e) tt
error-filled (garbage xid) m e = subst HasFilledBody (some-same _ m e) tt
error-filled other m e = none-some m e

plain-filled : (s : Server) (who : Who) (r : Request) (a : Reply) → IsPlain s who r a → TellsFilled a
plain-filled s who r a (unattached below off is) = subst TellsFilled (sym is) tt
plain-filled s who r a (attached_again asks same is) = subst TellsFilled (sym is) tt
plain-filled s who r a (not_yet same rec only is) = subst TellsFilled (sym is) tt
plain-filled s who r a (no_entry name same p asks none is) = subst TellsFilled (sym is) tt
plain-filled s who r a (entry name f same p asks found is) = subst TellsFilled (sym is) tt
plain-filled s who r a (no_attributes file same p asks none is) = subst TellsFilled (sym is) tt
plain-filled s who r a (attributes file f same p asks found is) = subst TellsFilled (sym is) tt
plain-filled s who r a (no_file file same p asks none is) = subst TellsFilled (sym is) tt
plain-filled s who r a (no_block q file block want f same p asks found none is) = subst TellsFilled (sym is) tt
plain-filled s who r a (decided_again seq same sq one is) = subst TellsFilled (sym is) (verdict-filled _ _ _ r)
plain-filled s who r a (is_old seq same sq below is) = subst TellsFilled (sym is) tt

-- ---- a step

pub record StepFilled (t : ServerStep) : Type 0 where
  pub kept : Each FileFilled t.server.kept.files
  pub sent : Each PacketFilled t.sends

module _ (s : Server) (h : Each FileFilled s.kept.files) where
  stays : StepFilled (quiet s)
  unfolding quiet
  stays = record { kept = h; sent = tt }

  dropping : (reason : Reason) → StepFilled (drops s reason)
  unfolding drops
  dropping reason = record { kept = h; sent = tt }

  saying : (host : ℕ) (m : Message) → HasFilledBody m → StepFilled (says s host m)
  unfolding says
  saying host m filled = record { kept = h; sent = (filled, tt) }

  attaching : (who : Who) (xid : ℕ) → StepFilled (attaches s who xid)
  unfolding attaches keeping_with with_row
  attaching who xid = record { kept = h; sent = (tt, tt) }

  vacating : (who : Who) (file : ℕ) (tag : Tag) → StepFilled (vacates s who file tag)
  unfolding vacates quiet with_table
  vacating who file tag = record { kept = h; sent = tt }

  later : (who : Who) (xid : ℕ) (table : Table) (rows : List Row) → StepFilled (tells_later s who xid table rows)
  unfolding tells_later after_notices with_table
  later who xid table rows = record { kept = h; sent = each-append PacketFilled (notices s.notice rows) _ (notices-filled s.notice rows) (tt, tt) }

  serving : (who : Who) (xid next q : ℕ) (f : File) (block : ℕ) (body : List ℕ) (table : Table) (o : Option Grant)
      → find_file f.id s.kept.files ≡ Some f → slice_get f.bodies block ≡ Some body → StepFilled (serves s who xid next q f block body table o)
  unfolding serves with_table
  serving who xid next q f block body table o found there =
      record { kept = h; sent = (each-get IsFilled f.bodies block body there (found-filled f.id s.kept.files f found h), tt) }

  leasing : (who : Who) (xid file : ℕ) (table : Table) (o : Option Grant) → StepFilled (leases s who xid file table o)
  unfolding leases with_table
  leasing who xid file table o = record { kept = h; sent = (tt, tt) }

  committing : (who : Who) (seq xid : ℕ) (r : Request) (d : Decision) → Each FileFilled d.server.kept.files → Each PacketFilled d.sends
      → StepFilled (commits who seq xid r d)
  unfolding commits keeping with_row
  committing who seq xid r d kept sent = record {
    kept = kept;
    sent = each-append PacketFilled d.sends _ sent (
      verdict-filled who.inc d.verdict
          d.value r,
      tt,
    );
  }

  declining : (who : Who) (seq xid : ℕ) (r : Request) (v : Verdict) → StepFilled (commits who seq xid r (decides s v))
  unfolding decides
  declining who seq xid r v = committing who seq xid r (decides s v) h tt

  putting-off : (who : Who) (seq xid : ℕ) (r : Request) (file : ℕ) (table : Table) → StepFilled (commits who seq xid r (puts_off s who file table))
  unfolding puts_off after_notices with_table
  putting-off who seq xid r file table = committing who seq xid r (puts_off s who file table) h (notices-filled s.notice _)

  creating : (who : Who) (seq xid : ℕ) (r : Request) (name : List ℕ) (blocks : ℕ) → StepFilled (commits who seq xid r (creates s name blocks))
  unfolding creates keeping with_new_file
  creating who seq xid r name blocks =
      committing who seq xid r (creates s name blocks) (each-append FileFilled s.kept.files _ h (new-filled s.kept.next name blocks, tt)) tt

  writing-through : (who : Who) (seq xid : ℕ) (r : Request) (f : File) (block number : ℕ) (body : List ℕ) → IsFilled body
      → find_file f.id s.kept.files ≡ Some f → StepFilled (commits who seq xid r (writes_through s who f block number body))
  unfolding writes_through keeping with_files
  writing-through who seq xid r f block number body new found =
      committing who seq xid r (writes_through s who f block number body)
      (replaced (written_file f block body) s.kept.files (written f block body new (found-filled f.id s.kept.files f found h)) h) tt

  storing : (who : Who) (seq xid : ℕ) (r : Request) (f : File) (row : Row) (block a b : ℕ) (body : List ℕ) → IsFilled body
      → find_file f.id s.kept.files ≡ Some f → StepFilled (commits who seq xid r (stores s who f row block a b body))
  unfolding stores keeping_with with_files
  storing who seq xid r f row block a b body new found =
      committing who seq xid r (stores s who f row block a b body)
      (replaced (written_file f block body) s.kept.files (written f block body new (found-filled f.id s.kept.files f found h)) h) tt

  storing-recovering : (until : ℕ) (last : Option Table) (who : Who) (seq xid : ℕ) (r : Request) (f : File) (block a b : ℕ) (body : List ℕ)
      → IsFilled body → find_file f.id s.kept.files ≡ Some f → StepFilled (commits who seq xid r (stores_recovering s until last who f block a b body))
  unfolding stores_recovering wrote keeping with_files
  storing-recovering until last who seq xid r f block a b body new found =
      committing who seq xid r (stores_recovering s until last who f block a b body)
      (replaced (written_file f block body) s.kept.files (written f block body new (found-filled f.id s.kept.files f found h)) h) tt

  resizing : (who : Who) (seq xid : ℕ) (r : Request) (q : ℕ) (f : File) (blocks : ℕ) → find_file f.id s.kept.files ≡ Some f
      → StepFilled (commits who seq xid r (resizes s who q f blocks))
  unfolding resizes keeping with_files
  resizing who seq xid r q f blocks found =
      committing who seq xid r (resizes s who q f blocks)
      (replaced (resized_file f blocks) s.kept.files (resized-filled f blocks (found-filled f.id s.kept.files f found h)) h) tt

  removing : (who : Who) (seq xid : ℕ) (r : Request) (q : ℕ) (f : File) → StepFilled (commits who seq xid r (removes s who q f))
  unfolding removes keeping_with with_files
  removing who seq xid r q f = committing who seq xid r (removes s who q f) (each-filter FileFilled _ s.kept.files h) tt

  -- a datagram, whose request has a filled body
  pub received : (sender next : ℕ) (d : Datagram) → ((xid : ℕ) (r : Request) → d ≡ request xid r → AsksFilled r) → StepFilled (receive s sender next d)
  received sender next d asked = server-hears s sender next d StepFilled (record {
    stays = stays;
    dropping = dropping;
    erring = λ m e. saying sender m (error-filled d m e);
    answers_null = λ xid e. saying sender _ tt;
    replying = λ xid who r a e by from plain. saying who.host _ (plain-filled s who r a plain);
    attaching = λ xid who e from above. attaching who xid;
    vacating = λ xid who file tag e now. vacating who file tag;
    putting_off = λ xid who r f clash e by on asking c. later who xid _ _;
    putting_off_waiting = λ xid who r f clash want e by on w asking c own room. later who xid _ _;
    putting_off_by_own = λ xid who r f want own e by on w asking c o ev. later who xid _ _;
    reading = λ xid who q block f body e asking there c. serving who xid next q f block body _ None asking.found there;
    reading_full = λ xid who q block want f body e asking there c own room. serving who xid next q f block body _ None asking.found there;
    reading_granted = λ xid who q block want f body row term e asking there c granted. serving who xid next q f block body _ _ asking.found there;
    leasing_full = λ xid who want f e asking c own room. leasing who xid f.id _ None;
    leasing = λ xid who want f row term e asking c granted. leasing who xid f.id _ _;
    declining = λ xid who seq r v e by sq fresh declined. declining who seq xid r v;
    putting_off_change = λ xid who seq r f clash e by sq changes base changing c. putting-off who seq xid r f.id _;
    creating = λ xid who seq blocks name e fresh serves can. creating who seq xid _ name blocks;
    writing_through =
        λ xid who seq block first last body f e changing below c. writing-through who seq xid _ f block first body
        (asked xid (Request.Write who seq f.id block first last None body) e) changing.found;
    storing =
        λ xid who seq block first last base body f row e changing below can. storing who seq xid _ f row block first last body
        (asked xid (Request.Write who seq f.id block first last (Some base) body) e) changing.found;
    storing_recovering =
        λ xid who seq block first final base body f until heard last e fresh p found below boot rev. storing-recovering until last who seq xid _ f block
        first final body (asked xid (Request.Write who seq f.id block first final (Some base) body) e) found;
    resizing = λ xid who seq q blocks f e changing can c. resizing who seq xid _ q f blocks changing.found;
    removing = λ xid who seq q f e changing c. removing who seq xid _ q f;
  })

  -- ---- a tick and a crash

  waiting : (now : ℕ) → StepFilled (quiet (at_time s now))
  unfolding quiet at_time
  waiting now = record { kept = h; sent = tt }

  opening : (now until heard : ℕ) → StepFilled (opens (at_time s now) until heard)
  unfolding opens at_time
  opening now until heard = record { kept = h; sent = tt }

  ending-reading : (now : ℕ) (rows : List Row) → StepFilled (quiet (with_table (at_time s now) (with_rows s.table rows)))
  unfolding quiet at_time with_table
  ending-reading now rows = record { kept = h; sent = tt }

  fence-filled : (o : Option File) → ((f : File) → o ≡ Some f → FileFilled f) → Each FileFilled (fence s.kept o).files
  unfolding with_files
  fence-filled None old = h
  fence-filled (Some f) old = replaced (fenced_file f) s.kept.files (fenced f (old f refl)) h

  ending : (now : ℕ) (rows : List Row) (row : Row) → StepFilled (ends_writing (at_time s now) rows row)
  unfolding ends_writing at_time keeping_with
  ending now rows row = record { kept = fence-filled (find_file row.file s.kept.files) (λ f found. found-filled row.file s.kept.files f found h); sent = tt }

  pub ticked : (now : ℕ) → StepFilled (tick s now)
  ticked now = server-ticks s now StepFilled (record {
    waits = λ until heard last p goes_on. waiting now;
    opening = λ until heard last p over. opening now until heard;
    ends_reading = λ p none. ending-reading now _;
    ending_writing = λ row p due. ending now _ row;
  })

  booted-filled : (longest : ℕ) (b : Bool) → (s.kept.opened == 0) ≡ b → (booted s.kept longest).files ≡ s.kept.files
  booted-filled longest true e = rw e refl
  booted-filled longest false e = rw e refl

  pub crashed : (longest : ℕ) → StepFilled (crash s longest)
  unfolding crash boot
  crashed longest = record { kept = subst (Each FileFilled) (sym (booted-filled longest (s.kept.opened == 0) refl)) h; sent = tt }
