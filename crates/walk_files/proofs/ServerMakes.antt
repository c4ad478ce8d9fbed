-- What a server's step writes and stores, and what it rests on.
use Rattle.std.proofs.Common.{◌≡◌, ◌<◌, ℕ, true, List, [], ◌∷◌, Option, Some, None, refl, sym, subst, ap, ◌∙◌, arith}
use Rattle.nq_base.specs.Block.{value_of}
use Rattle.nq_base.specs.declared.Entry.{Entry}
use Rattle.nq_base.specs.declared.Entry.TheVariants.{W, S}
use Rattle.nq_base.specs.declared.Grant.{Grant}
use Rattle.nq_base.specs.declared.PushBase.{PushBase}
use Rattle.nq_base.specs.declared.Request.{Request}
use Rattle.nq_base.specs.declared.Who.{Who}
use Rattle.walk_files.proofs.ChainFacts.{IsFenced, gone, ahead, earlier}
use Rattle.walk_steps.proofs.ClientMoves.{none-some, some-same}
use Rattle.walk_files.proofs.Entries.{IsIdle}
use Rattle.nq_model.specs.protocol.Decide.{decides, creates, writes_through, stores, stores_recovering, wrote, resizes, removes, puts_off, commits}
use Rattle.nq_model.specs.laws.Journal.{Each}
use Rattle.nq_model.specs.protocol.Kept.{File, Kept, blocks_of, find_file, host_row}
use Rattle.nq_model.specs.protocol.Message.{Packet, Datagram, request}
use Rattle.nq_model.specs.protocol.Server.{serving, Server, ServerStep, quiet, drops, says}
use Rattle.nq_model.specs.protocol.ServerStep.{attaches, vacates, tells_later, serves, leases, grants, receive, tick, opens, ends_writing, crash}
use Rattle.walk_steps.proofs.Packets.{Asked}
use Rattle.walk_steps.proofs.ServerTables.{BootsFit, BootsFitOf}
use Rattle.walk_steps.proofs.ServerCases.{server-hears, server-ticks}

-- delayed writes are stored: of a kept file's block, as an open push asks that is not fenced
pub record MakesStore (ps : List Packet) (s : Server) (f : File) (who : Who) (block first last : ℕ) : Type 0 where
  pub xid : ℕ
  pub seq : ℕ
  pub base : PushBase
  pub body : List ℕ
  pub found : find_file f.id s.kept.files ≡ Some f
  pub below : block < blocks_of f
  pub asked : Asked ps who.host xid (Request.Write who seq f.id block first last (Some base) body)
  pub inc : who.inc ≡ (host_row s.kept who.host).inc
  pub above : (host_row s.kept who.host).seq < seq
  pub free : IsFenced s.kept f.id base.boot base.base → ⊥

pub data Makes (ps : List Packet) (s : Server) (entries : List Entry) : Type 0 where
  idle : Each IsIdle entries → Makes ps s entries
  writes : (f : File) (who : Who) (block n v : ℕ) → find_file f.id s.kept.files ≡ Some f → block < blocks_of f
      → entries ≡ W who f.id block n v true ∷ [] → Makes ps s entries
  stored : (f : File) (who : Who) (block first last now : ℕ) → MakesStore ps s f who block first last → entries ≡ S who f.id block first last now ∷ []
      → Makes ps s entries

-- a push over the opened boot and the kept revision is not fenced
not-fenced : (kept : Kept) (f : File) (base : PushBase) → find_file f.id kept.files ≡ Some f → base.boot ≡ kept.opened → base.base ≡ f.rev
    → IsFenced kept f.id base.boot base.base → ⊥
not-fenced kept f base found boot rev (gone none) = none-some f (sym none ∙ found)
not-fenced kept f base found boot rev (ahead g is above) = let one : g.rev ≡ f.rev = ap (λ z. z.rev) (some-same g f (sym is ∙ found)) in omega arith
not-fenced kept f base found boot rev (earlier below) = omega arith

served-boot : (s : Server) → s.phase ≡ serving → BootsFitOf s → s.kept.opened ≡ s.kept.boot
served-boot s p boots = (subst (λ q. BootsFit s.kept.boot s.kept.opened q s.table) p boots).opened_now

grants-idle : (s : Server) (who : Who) (file : ℕ) (o : Option Grant) → Each IsIdle (grants s who file o)
grants-idle s who file None = tt
grants-idle s who file (Some g) = (tt, tt)

module _ (ps : List Packet) (s : Server) (sender next : ℕ) (d : Datagram) (sent : (xid : ℕ) (r : Request) → d ≡ request xid r → Asked ps sender xid r)
    (boots : BootsFitOf s) where
  abbrev MakesOf : ServerStep → Type 0
  MakesOf t = Makes ps s t.entries

  serves-makes : (who : Who) (xid q block : ℕ) (f : File) (body : List ℕ) (table : _) (g : Option Grant)
      → MakesOf (serves s who xid next q f block body table g)
  unfolding serves
  serves-makes who xid q block f body table g = idle (tt, grants-idle s who f.id g)

  leases-makes : (who : Who) (xid file : ℕ) (table : _) (g : Option Grant) → MakesOf (leases s who xid file table g)
  unfolding leases
  leases-makes who xid file table g = idle (grants-idle s who file g)

  from-sender : (who : Who) (xid : ℕ) (r : Request) → who.host ≡ sender → d ≡ request xid r → Asked ps who.host xid r
  from-sender who xid r home e = subst (λ n. Asked ps n xid r) (sym home) (sent xid r e)

  pub receive-makes : MakesOf (receive s sender next d)
  unfolding quiet drops says attaches vacates tells_later decides creates writes_through stores wrote stores_recovering resizes removes puts_off commits
  receive-makes = server-hears s sender next d MakesOf (record {
    stays = idle tt;
    dropping = λ reason. idle tt;
    erring = λ m e. idle tt;
    answers_null = λ xid e. idle tt;
    replying = λ xid who r reply e by from plain. idle tt;
    attaching = λ xid who e from above. idle tt;
    vacating = λ xid who file tag e current. idle tt;
    putting_off = λ xid who r f clash e by of asking c. idle tt;
    putting_off_waiting = λ xid who r f clash want e by of w asking c own room. idle tt;
    putting_off_by_own = λ xid who r f want own e by of w asking c o evicting. idle tt;
    reading = λ xid who q block f body e asking there c. serves-makes who xid q block f body s.table None;
    reading_full = λ xid who q block want f body e asking there c own room. serves-makes who xid q block f body s.table None;
    reading_granted = λ xid who q block want f body row term e asking there c g. serves-makes who xid q block f body _ _;
    leasing_full = λ xid who want f e asking c own room. leases-makes who xid f.id s.table None;
    leasing = λ xid who want f row term e asking c g. leases-makes who xid f.id _ _;
    declining = λ xid who seq r verdict e by sq fresh declined. idle tt;
    putting_off_change = λ xid who seq r f clash e by sq changes base changing c. idle tt;
    creating = λ xid who seq blocks name e fresh serves can. idle tt;
    writing_through = λ xid who seq block first last body f e changing below none. writes f who block first (value_of body) changing.found below refl;
    storing = λ xid who seq block first last base body f row e changing below can. stored f who block first last _ (record {
      xid = xid;
      seq = seq;
      base = base;
      body = body;
      found = changing.found;
      below = below;
      asked = from-sender who xid _ changing.fresh.current.from.host e;
      inc = changing.fresh.current.inc;
      above = changing.fresh.above;
      free = not-fenced s.kept f base changing.found (can.boot ∙ sym (served-boot s changing.serves boots)) can.rev;
    }) refl;
    storing_recovering = λ xid who seq block first final base body f until heard last e fresh p found below boot rev. stored f who block first final _
        (record {
          xid = xid;
          seq = seq;
          base = base;
          body = body;
          found = found;
          below = below;
          asked = from-sender who xid _ fresh.current.from.host e;
          inc = fresh.current.inc;
          above = fresh.above;
          free = not-fenced s.kept f base found boot rev;
        }) refl;
    resizing = λ xid who seq q blocks f e changing can none. idle (tt, tt);
    removing = λ xid who seq q f e changing none. idle (tt, tt);
  })

pub tick-makes : (ps : List Packet) (s : Server) (now : ℕ) → Makes ps s (tick s now).entries
unfolding quiet opens ends_writing
tick-makes ps s now = server-ticks s now (λ t. Makes ps s t.entries) (record {
  waits = λ until heard last p goes_on. idle tt;
  opening = λ until heard last p over. idle (tt, tt);
  ends_reading = λ p none. idle tt;
  ending_writing = λ row p due. idle (tt, tt);
})

pub crash-makes : (ps : List Packet) (s : Server) (longest : ℕ) → Makes ps s (crash s longest).entries
unfolding crash
crash-makes ps s longest = idle (tt, tt)
