-- What holds of each form of entry that a server makes holds of all entries of its step.
use Rattle.std.proofs.Common.{ℕ, true, List, Option, Some, None}
use Rattle.nq_base.specs.Block.{value_of}
use Rattle.nq_base.specs.declared.Entry.{Entry}
use Rattle.nq_base.specs.declared.Grant.{Grant}
use Rattle.nq_base.specs.declared.Mode.{Mode}
use Rattle.nq_base.specs.declared.Request.{Request}
use Rattle.nq_base.specs.declared.Row.{Row}
use Rattle.nq_base.specs.declared.Tag.{Tag}
use Rattle.nq_base.specs.declared.Verdict.{Verdict}
use Rattle.nq_base.specs.declared.Who.{Who}
use Rattle.nq_model.specs.protocol.Decide.{Decision, decides, creates, writes_through, stores, stores_recovering, resizes, removes, puts_off, commits}
use Rattle.nq_model.specs.laws.Journal.{Each}
use Rattle.nq_model.specs.protocol.Kept.{File, blocks_of}
use Rattle.nq_model.specs.protocol.Message.{Message, Datagram, Reason}
use Rattle.nq_model.specs.protocol.Server.{Server, says, quiet, drops}
use Rattle.nq_model.specs.protocol.ServerStep.{attaches, vacates, tells_later, grants, serves, leases, receive, tick, opens, ends_writing}
use Rattle.nq_model.specs.protocol.Table.{Table}
use Rattle.walk_steps.proofs.ServerCases.{server-hears, server-ticks}

-- the forms: what a server makes of a datagram, and in a tick of its clock
pub record OfServer (P : Entry → Type 0) : Type 0 where
  -- a block was read, in the reply of this packet
  pub served : (who : Who) (q file block value packet : ℕ) → P (Entry.R who q file block value (Some packet))
  pub granted : (who : Who) (file : ℕ) (mode : Mode) (tag : Tag) (term now : ℕ) → P (Entry.G who file mode tag term now)
  -- a write went through
  pub wrote : (who : Who) (file block number value : ℕ) → P (Entry.W who file block number value true)
  -- delayed writes were stored
  pub stored : (who : Who) (file block first last now : ℕ) → P (Entry.S who file block first last now)
  pub resized : (who : Who) (q file from to : ℕ) → P (Entry.Z who q file from to)
  -- a writing lease ended in silence
  pub fenced : (who : Who) (file until heard now : ℕ) → P (Entry.F who file until heard now)
  -- a recovery ended
  pub opened : (boot until heard now : ℕ) → P (Entry.O boot until heard now)

module _ (P : Entry → Type 0) (o : OfServer P) where
  quiet-each : (s : Server) → Each P (quiet s).entries
  unfolding quiet
  quiet-each s = tt

  drops-each : (s : Server) (reason : Reason) → Each P (drops s reason).entries
  unfolding drops
  drops-each s reason = tt

  says-each : (s : Server) (host : ℕ) (m : Message) → Each P (says s host m).entries
  unfolding says
  says-each s host m = tt

  attaches-each : (s : Server) (who : Who) (xid : ℕ) → Each P (attaches s who xid).entries
  unfolding attaches
  attaches-each s who xid = tt

  vacates-each : (s : Server) (who : Who) (file : ℕ) (tag : Tag) → Each P (vacates s who file tag).entries
  unfolding vacates quiet
  vacates-each s who file tag = tt

  later-each : (s : Server) (who : Who) (xid : ℕ) (table : Table) (rows : List Row) → Each P (tells_later s who xid table rows).entries
  unfolding tells_later
  later-each s who xid table rows = tt

  grants-each : (s : Server) (who : Who) (file : ℕ) (g : Option Grant) → Each P (grants s who file g)
  grants-each s who file None = tt
  grants-each s who file (Some g) = (o.granted who file g.mode g.tag g.term s.now, tt)

  serves-each : (s : Server) (who : Who) (xid next q : ℕ) (f : File) (block : ℕ) (body : List ℕ) (table : Table) (g : Option Grant)
      → Each P (serves s who xid next q f block body table g).entries
  unfolding serves
  serves-each s who xid next q f block body table g = (o.served who q f.id block (value_of body) next, grants-each s who f.id g)

  leases-each : (s : Server) (who : Who) (xid file : ℕ) (table : Table) (g : Option Grant) → Each P (leases s who xid file table g).entries
  unfolding leases
  leases-each s who xid file table g = grants-each s who file g

  committed : (who : Who) (seq xid : ℕ) (r : Request) (d : Decision) → Each P d.entries → Each P (commits who seq xid r d).entries
  unfolding commits
  committed who seq xid r d h = h

  declines-each : (s : Server) (v : Verdict) → Each P (decides s v).entries
  unfolding decides
  declines-each s v = tt

  puts-off-each : (s : Server) (who : Who) (file : ℕ) (table : Table) → Each P (puts_off s who file table).entries
  unfolding puts_off
  puts-off-each s who file table = tt

  creates-each : (s : Server) (name : List ℕ) (blocks : ℕ) → Each P (creates s name blocks).entries
  unfolding creates
  creates-each s name blocks = tt

  through-each : (s : Server) (who : Who) (f : File) (block number : ℕ) (body : List ℕ) → Each P (writes_through s who f block number body).entries
  unfolding writes_through
  through-each s who f block number body = (o.wrote who f.id block number (value_of body), tt)

  stores-each : (s : Server) (who : Who) (f : File) (row : Row) (block first last : ℕ) (body : List ℕ)
      → Each P (stores s who f row block first last body).entries
  unfolding stores
  stores-each s who f row block first last body = (o.stored who f.id block first last s.now, tt)

  recovering-each : (s : Server) (until : ℕ) (last : Option Table) (who : Who) (f : File) (block first final : ℕ) (body : List ℕ)
      → Each P (stores_recovering s until last who f block first final body).entries
  unfolding stores_recovering
  recovering-each s until last who f block first final body = (o.stored who f.id block first final s.now, tt)

  resizes-each : (s : Server) (who : Who) (q : ℕ) (f : File) (blocks : ℕ) → Each P (resizes s who q f blocks).entries
  unfolding resizes
  resizes-each s who q f blocks = (o.resized who q f.id (blocks_of f) blocks, tt)

  removes-each : (s : Server) (who : Who) (q : ℕ) (f : File) → Each P (removes s who q f).entries
  unfolding removes
  removes-each s who q f = (o.resized who q f.id (blocks_of f) 0, tt)

  -- of a datagram
  pub receive-each : (s : Server) (sender next : ℕ) (d : Datagram) → Each P (receive s sender next d).entries
  receive-each s sender next d = server-hears s sender next d (λ t. Each P t.entries) (record {
    stays = quiet-each s;
    dropping = λ reason. drops-each s reason;
    erring = λ m e. says-each s sender m;
    answers_null = λ xid e. says-each s sender _;
    replying = λ xid who r a e by from plain. says-each s who.host _;
    attaching = λ xid who e from above. attaches-each s who xid;
    vacating = λ xid who file tag e now. vacates-each s who file tag;
    putting_off = λ xid who r f clash e by on asking c. later-each s who xid _ _;
    putting_off_waiting = λ xid who r f clash want e by on w asking c own room. later-each s who xid _ _;
    putting_off_by_own = λ xid who r f want own e by on w asking c o ev. later-each s who xid _ _;
    reading = λ xid who q block f body e asking there c. serves-each s who xid next q f block body _ None;
    reading_full = λ xid who q block want f body e asking there c own room. serves-each s who xid next q f block body _ None;
    reading_granted = λ xid who q block want f body row term e asking there c granted. serves-each s who xid next q f block body _ _;
    leasing_full = λ xid who want f e asking c own room. leases-each s who xid f.id _ None;
    leasing = λ xid who want f row term e asking c granted. leases-each s who xid f.id _ _;
    declining = λ xid who seq r v e by sq fresh declined. committed who seq xid r (decides s v) (declines-each s v);
    putting_off_change = λ xid who seq r f clash e by sq changes base changing c. committed who seq xid r _ (puts-off-each s who f.id _);
    creating = λ xid who seq blocks name e fresh serves can. committed who seq xid _ (creates s name blocks) (creates-each s name blocks);
    writing_through = λ xid who seq block first last body f e changing below c. committed who seq xid _ _ (through-each s who f block first body);
    storing = λ xid who seq block first last base body f row e changing below can. committed who seq xid _ _ (stores-each s who f row block first last body);
    storing_recovering =
        λ xid who seq block first final base body f until heard last e fresh p found below boot rev. committed who seq xid _ _
        (recovering-each s until last who f block first final body);
    resizing = λ xid who seq q blocks f e changing can c. committed who seq xid _ _ (resizes-each s who q f blocks);
    removing = λ xid who seq q f e changing c. committed who seq xid _ _ (removes-each s who q f);
  })

  opens-each : (s : Server) (until heard : ℕ) → Each P (opens s until heard).entries
  unfolding opens
  opens-each s until heard = (o.opened s.kept.boot until heard s.now, tt)

  ends-each : (s : Server) (rows : List Row) (row : Row) → Each P (ends_writing s rows row).entries
  unfolding ends_writing
  ends-each s rows row = (o.fenced row.who row.file row.until row.heard s.now, tt)

  -- of a tick
  pub tick-each : (s : Server) (now : ℕ) → Each P (tick s now).entries
  tick-each s now = server-ticks s now (λ t. Each P t.entries) (record {
    waits = λ until heard last p goes_on. quiet-each _;
    opening = λ until heard last p over. opens-each _ until heard;
    ends_reading = λ p none. quiet-each _;
    ending_writing = λ row p due. ends-each _ _ row;
  })
