-- What a step of the server makes in the journal: no answer, loss or delayed write; and what a request that was done asks.
use Rattle.std.proofs.Common.{◌≡◌, ◌<◌, ℕ, ◌==◌, Bool, true, false, List, [], ◌∷◌, Option, Some, None, length, refl, sym, subst, ap, ◌∙◌, arith, inl, inr}
use Rattle.std.specs.Prelude.{⊤}
use Rattle.nq_base.specs.Block.{value_of}
use Rattle.nq_base.specs.declared.Entry.{Entry}
use Rattle.nq_base.specs.declared.Entry.TheVariants.{W, Z}
use Rattle.nq_base.specs.declared.Grant.{Grant}
use Rattle.nq_base.specs.declared.HostRow.{HostRow}
use Rattle.nq_base.specs.declared.PushBase.{PushBase}
use Rattle.nq_base.specs.declared.Request.{Request}
use Rattle.nq_base.specs.declared.Row.{Row}
use Rattle.nq_base.specs.declared.Tag.{Tag}
use Rattle.nq_base.specs.declared.Verdict.{Verdict}
use Rattle.nq_base.specs.declared.Who.{Who}
use Rattle.nq_model.specs.protocol.Decide.{Decision, decides, creates, writes_through, stores, wrote, stores_recovering, resizes, removes, puts_off, commits}
use Rattle.nq_model.specs.protocol.Decide.{row_after}
use Rattle.nq_model.specs.protocol.Kept.{File, Kept, find_file, host_row, with_row, with_files, with_new_file}
use Rattle.nq_model.specs.protocol.Message.{Message, Packet, asker, Datagram, Reason, request, sequence_of}
use Rattle.nq_model.specs.protocol.Profile.{most_hosts}
use Rattle.nq_model.specs.protocol.Server.{Server, ServerStep, quiet, drops, says, after_notices, keeping, keeping_with, with_table}
use Rattle.nq_model.specs.protocol.ServerStep.{attaches, vacates, tells_later, serves, leases, grants, receive, tick, crash, boot, opens, ends_writing, at_time}
use Rattle.nq_model.specs.protocol.Table.{Table, with_rows}
use Rattle.walk_steps.proofs.Packets.{In, Asked}
use Rattle.walk_steps.proofs.ServerFacts.{fence-lines}
use Rattle.walk_steps.proofs.ServerNumbers.{LinesFitOf}
use Rattle.walk_steps.proofs.KeptChanges.{other-line, own-line, same-lines, booted-line}
use Rattle.walk_steps.proofs.Rows.{same-number, number-same}
use Rattle.walk_steps.proofs.ServerCases.{server-hears, server-ticks}
use Rattle.walk_steps.proofs.ServerOutcomes.{line_of, IsFrom, IsFresh, IsDeclined, declined-not}
use Rattle.law_runs.proofs.OkMoves.{IsMild}

-- no entry is an answer, a loss or a delayed write
abbrev pub AllMild : List Entry → Type 0
AllMild entries = (e : Entry) → In entries e → (who : Who) → IsMild who e

none-mild : AllMild []
none-mild e i = absurd i

more-mild : (first : Entry) (entries : List Entry) → ((who : Who) → IsMild who first) → AllMild entries → AllMild (first ∷ entries)
more-mild first entries q all e (inl same) who = subst (IsMild who) same (q who)
more-mild first entries q all e (inr i) who = all e i who

one-mild : (first : Entry) → ((who : Who) → IsMild who first) → AllMild (first ∷ [])
one-mild first q = more-mild first [] q none-mild

-- what a request that was done makes
abbrev pub Shape : Who → Request → List Entry → Type 0
Shape w (Request.Write by seq file block first last None body) entries = (value : ℕ) × (entries ≡ W w file block first value true ∷ [])
Shape w (Request.Resize by seq q file blocks) entries = (from : ℕ) × (to : ℕ) × (entries ≡ Z w q file from to ∷ [])
Shape w (Request.Remove by seq q file) entries = (from : ℕ) × (to : ℕ) × (entries ≡ Z w q file from to ∷ [])
Shape w other entries = ⊤

-- a later incarnation of a host begins
pub record IsAttached (old new : HostRow) (host : ℕ) : Type 0 where
  pub who : Who
  pub here : who.host ≡ host
  pub above : old.inc < who.inc
  pub after : new.inc ≡ who.inc

-- a fresh request of a host was decided
pub record IsDecided (ps : List Packet) (old new : HostRow) (host : ℕ) (entries : List Entry) : Type 0 where
  pub xid : ℕ
  pub seq : ℕ
  pub who : Who
  pub asks : Request
  pub here : who.host ≡ host
  pub sent : Asked ps host xid asks
  pub by : asker asks ≡ Some who
  pub draws : sequence_of asks ≡ Some seq
  pub inc : old.inc ≡ who.inc
  pub above : old.seq < seq
  pub after : new.inc ≡ who.inc
  pub decided : new.seq ≡ seq
  pub made : new.verdict ≡ Verdict.Done → Shape who asks entries

pub data LineMoves (ps : List Packet) (old new : HostRow) (host : ℕ) (entries : List Entry) : Type 0 where
  stays : new ≡ old → LineMoves ps old new host entries
  attached : IsAttached old new host → LineMoves ps old new host entries
  decided : IsDecided ps old new host entries → LineMoves ps old new host entries

pub record ServerMakes (ps : List Packet) (s : Server) (t : ServerStep) : Type 0 where
  pub mild : AllMild t.entries
  pub moves : (host : ℕ) → LineMoves ps (host_row s.kept host) (host_row t.server.kept host) host t.entries

-- what the server does where no line changes
no-move : (ps : List Packet) (s : Server) (t : ServerStep) → ((host : ℕ) → host_row t.server.kept host ≡ host_row s.kept host) → AllMild t.entries
    → ServerMakes ps s t
no-move ps s t same mild = record { mild = mild; moves = λ host. stays (same host) }

module _ (ps : List Packet) (s : Server) (sender next : ℕ) (d : Datagram)
    (was_sent : (xid : ℕ) (r : Request) → d ≡ request xid r → Asked ps sender xid r) (lines : LinesFitOf s) where
  quiet-makes : ServerMakes ps s (quiet s)
  unfolding quiet
  quiet-makes = no-move ps s (quiet s) (λ host. refl) none-mild

  says-makes : (host : ℕ) (m : Message) → ServerMakes ps s (says s host m)
  unfolding says
  says-makes host m = no-move ps s (says s host m) (λ h. refl) none-mild

  grants-mild : (w : Who) (file : ℕ) (grant : Option Grant) → AllMild (grants s w file grant)
  grants-mild w file None = none-mild
  grants-mild w file (Some g) = one-mild _ (λ who. record { no_answer = λ q a. a; no_loss = λ f b m n e. cc; no_write = λ f b n v e. cc })

  reading : (xid : ℕ) (w : Who) (q block : ℕ) (f : File) (body : List ℕ) (table : Table) (grant : Option Grant)
      → ServerMakes ps s (serves s w xid next q f block body table grant)
  unfolding serves with_table
  reading xid w q block f body table grant =
      no-move ps s _ (λ h. refl) (more-mild _ (grants s w f.id grant)
      (λ who. record { no_answer = λ n a. a; no_loss = λ f b m n e. cc; no_write = λ f b n v e. cc }) (grants-mild w f.id grant))

  leasing : (xid : ℕ) (w : Who) (file : ℕ) (table : Table) (grant : Option Grant) → ServerMakes ps s (leases s w xid file table grant)
  unfolding leases with_table
  leasing xid w file table grant = no-move ps s _ (λ h. refl) (grants-mild w file grant)

  attaching : (xid : ℕ) (w : Who) → IsFrom sender w → (line_of s w).inc < w.inc → ServerMakes ps s (attaches s w xid)
  unfolding attaches keeping_with
  attaching xid w from above = record { mild = none-mild; moves = λ host. move host (host == w.host) refl }
    where
      row : HostRow
      row = record { inc = w.inc; seq = 0; verdict = Verdict.Done; value = 0 }

      own : host_row (with_row s.kept w.host row) w.host ≡ row
      own = own-line s.kept w.host row (let few = from.possible in omega arith)

      move : (host : ℕ) (b : Bool) → (host == w.host) ≡ b → LineMoves ps (host_row s.kept host) (host_row (with_row s.kept w.host row) host) host []
      move host true e =
          let same : w.host ≡ host = sym (same-number host w.host e) in
          attached
          (record {
            who = w;
            here = same;
            above = subst (λ n. (host_row s.kept n).inc < w.inc) same above;
            after = ap
                (λ n. (host_row (with_row s.kept w.host row) n).inc) (sym same) ∙ ap (λ l. l.inc) own;
          })
      move host false e = stays (other-line s.kept w.host host row (λ same. let yes : (host == w.host) ≡ true = number-same host w.host same in absurd (cc)))

  committed : (xid : ℕ) (w : Who) (seq : ℕ) (r : Request) (k : Decision) → d ≡ request xid r → asker r ≡ Some w → sequence_of r ≡ Some seq
      → IsFresh s sender w seq → k.server.kept.hosts ≡ s.kept.hosts → AllMild k.entries → (k.verdict ≡ Verdict.Done → Shape w r k.entries)
      → ServerMakes ps s (commits w seq xid r k)
  unfolding commits keeping
  committed xid w seq r k e by sq fresh same mild made = record { mild = mild; moves = λ host. move host (host == w.host) refl }
    where
      after : Kept
      after = with_row k.server.kept w.host (row_after w seq k)

      own : host_row after w.host ≡ row_after w seq k
      own =
          own-line k.server.kept w.host (row_after w seq k)
          (let few = fresh.current.from.possible in let all : length k.server.kept.hosts ≡ most_hosts = ap length same ∙ lines in omega arith)

      here : IsDecided ps (host_row s.kept w.host) (host_row after w.host) w.host k.entries
      here = record {
        xid = xid;
        seq = seq;
        who = w;
        asks = r;
        here = refl;
        sent = subst (λ n. Asked ps n xid r) (sym fresh.current.from.host) (was_sent xid r e);
        by = by;
        draws = sq;
        inc = sym fresh.current.inc;
        above = fresh.above;
        after = ap (λ l. l.inc) own;
        decided = ap (λ l. l.seq) own;
        made = λ done. made (sym (ap (λ l. l.verdict) own) ∙ done);
      }

      move : (host : ℕ) (b : Bool) → (host == w.host) ≡ b → LineMoves ps (host_row s.kept host) (host_row after host) host k.entries
      move host true e =
          let same_host : w.host ≡ host = sym (same-number host w.host e) in
          subst (λ n. LineMoves ps (host_row s.kept n) (host_row after n) n k.entries) same_host (decided here)
      move host false e =
          stays (other-line k.server.kept w.host host (row_after w seq k)
          (λ eq. let yes : (host == w.host) ≡ true = number-same host w.host eq in absurd (cc)) ∙ same-lines s.kept k.server.kept host same)

  declining : (xid : ℕ) (w : Who) (seq : ℕ) (r : Request) (v : Verdict) → d ≡ request xid r → asker r ≡ Some w → sequence_of r ≡ Some seq
      → IsFresh s sender w seq → IsDeclined s w r v → ServerMakes ps s (commits w seq xid r (decides s v))
  unfolding decides
  declining xid w seq r v e by sq fresh declined =
      committed xid w seq r (decides s v) e by sq fresh refl none-mild (λ done. absurd (declined-not s w r v declined done))

  putting-off-change : (xid : ℕ) (w : Who) (seq : ℕ) (r : Request) (file : ℕ) (table : Table) → d ≡ request xid r → asker r ≡ Some w
      → sequence_of r ≡ Some seq → IsFresh s sender w seq → ServerMakes ps s (commits w seq xid r (puts_off s w file table))
  unfolding puts_off after_notices
  putting-off-change xid w seq r file table e by sq fresh = committed xid w seq r (puts_off s w file table) e by sq fresh refl none-mild (λ done. absurd (cc))

  putting-off : (xid : ℕ) (w : Who) (table : Table) (rows : List Row) → ServerMakes ps s (tells_later s w xid table rows)
  unfolding tells_later after_notices
  putting-off xid w table rows = no-move ps s _ (λ h. refl) none-mild

  vacating : (w : Who) (file : ℕ) (tag : Tag) → ServerMakes ps s (vacates s w file tag)
  unfolding vacates quiet with_table with_rows
  vacating w file tag = no-move ps s _ (λ h. refl) none-mild

  drops-makes : (reason : Reason) → ServerMakes ps s (drops s reason)
  unfolding drops
  drops-makes reason = no-move ps s _ (λ h. refl) none-mild

  creating : (xid : ℕ) (w : Who) (seq blocks : ℕ) (name : List ℕ) → d ≡ request xid (Request.Create w seq name blocks) → IsFresh s sender w seq
      → ServerMakes ps s (commits w seq xid (Request.Create w seq name blocks) (creates s name blocks))
  unfolding creates keeping with_new_file
  creating xid w seq blocks name e fresh =
      committed xid w seq (Request.Create w seq name blocks) (creates s name blocks) e refl refl fresh refl none-mild (λ done. tt)

  writing-through : (xid : ℕ) (w : Who) (seq block first last : ℕ) (body : List ℕ) (f : File)
      → d ≡ request xid (Request.Write w seq f.id block first last None body) → IsFresh s sender w seq
      → ServerMakes ps s (commits w seq xid (Request.Write w seq f.id block first last None body) (writes_through s w f block first body))
  unfolding writes_through keeping with_files
  writing-through xid w seq block first last body f e fresh =
      committed xid w seq (Request.Write w seq f.id block first last None body) (writes_through s w f block first body) e refl refl fresh refl
      (one-mild _ (λ who. record { no_answer = λ q a. a; no_loss = λ f b m n e. cc; no_write = λ f b n v e. cc }))
      (λ done. (value_of body, refl))

  storing : (xid : ℕ) (w : Who) (seq block first last : ℕ) (base : PushBase) (body : List ℕ) (f : File) (row : Row)
      → d ≡ request xid (Request.Write w seq f.id block first last (Some base) body) → IsFresh s sender w seq
      → ServerMakes ps s (commits w seq xid (Request.Write w seq f.id block first last (Some base) body) (stores s w f row block first last body))
  unfolding stores keeping_with with_files with_rows
  storing xid w seq block first last base body f row e fresh =
      committed xid w seq (Request.Write w seq f.id block first last (Some base) body) (stores s w f row block first last body) e refl refl fresh refl
      (one-mild _ (λ who. record { no_answer = λ q a. a; no_loss = λ f b m n e. cc; no_write = λ f b n v e. cc }))
      (λ done. tt)

  storing-recovering : (xid : ℕ) (w : Who) (seq block first final : ℕ) (base : PushBase) (body : List ℕ) (f : File) (until : ℕ) (last : Option Table)
      → d ≡ request xid (Request.Write w seq f.id block first final (Some base) body) → IsFresh s sender w seq
      → ServerMakes ps s (commits w seq xid (Request.Write w seq f.id block first final (Some base) body)
      (stores_recovering s until last w f block first final body))
  unfolding stores_recovering keeping wrote with_files
  storing-recovering xid w seq block first final base body f until last e fresh =
      committed xid w seq (Request.Write w seq f.id block first final (Some base) body) (stores_recovering s until last w f block first final body) e
      refl refl fresh refl
      (one-mild _ (λ who. record { no_answer = λ q a. a; no_loss = λ f b m n e. cc; no_write = λ f b n v e. cc }))
      (λ done. tt)

  resizing : (xid : ℕ) (w : Who) (seq q blocks : ℕ) (f : File) → d ≡ request xid (Request.Resize w seq q f.id blocks) → IsFresh s sender w seq
      → ServerMakes ps s (commits w seq xid (Request.Resize w seq q f.id blocks) (resizes s w q f blocks))
  unfolding resizes keeping with_files
  resizing xid w seq q blocks f e fresh =
      committed xid w seq (Request.Resize w seq q f.id blocks) (resizes s w q f blocks) e refl refl fresh refl
      (one-mild _ (λ who. record { no_answer = λ q a. a; no_loss = λ f b m n e. cc; no_write = λ f b n v e. cc }))
      (λ done. (_, _, refl))

  removing : (xid : ℕ) (w : Who) (seq q : ℕ) (f : File) → d ≡ request xid (Request.Remove w seq q f.id) → IsFresh s sender w seq
      → ServerMakes ps s (commits w seq xid (Request.Remove w seq q f.id) (removes s w q f))
  unfolding removes keeping_with with_files with_rows
  removing xid w seq q f e fresh =
      committed xid w seq (Request.Remove w seq q f.id) (removes s w q f) e refl refl fresh refl
      (one-mild _ (λ who. record { no_answer = λ q a. a; no_loss = λ f b m n e. cc; no_write = λ f b n v e. cc }))
      (λ done. (_, _, refl))

  -- all outcomes of a datagram
  pub hears-makes : ServerMakes ps s (receive s sender next d)
  hears-makes = server-hears s sender next d (λ t. ServerMakes ps s t) (record {
    stays = quiet-makes;
    dropping = drops-makes;
    erring = λ m e. says-makes sender m;
    answers_null = λ xid e. says-makes sender _;
    replying = λ xid w r a e by from plain. says-makes w.host _;
    attaching = λ xid w e from above. attaching xid w from above;
    vacating = λ xid w file tag e now. vacating w file tag;
    putting_off = λ xid w r f clash e by on asking c. putting-off xid w _ _;
    putting_off_waiting = λ xid w r f clash want e by on wants asking c own room. putting-off xid w _ _;
    putting_off_by_own = λ xid w r f want own e by on wants asking c o ev. putting-off xid w _ _;
    reading = λ xid w q block f body e asking there c. reading xid w q block f body _ _;
    reading_full = λ xid w q block want f body e asking there c own room. reading xid w q block f body _ _;
    reading_granted = λ xid w q block want f body row term e asking there c granted. reading xid w q block f body _ _;
    leasing_full = λ xid w want f e asking c own room. leasing xid w f.id _ _;
    leasing = λ xid w want f row term e asking c granted. leasing xid w f.id _ _;
    declining = declining;
    putting_off_change = λ xid w seq r f clash e by sq changes base changing c. putting-off-change xid w seq r f.id _ e by sq changing.fresh;
    creating = λ xid w seq blocks name e fresh serves can. creating xid w seq blocks name e fresh;
    writing_through = λ xid w seq block first last body f e changing below c. writing-through xid w seq block first last body f e changing.fresh;
    storing = λ xid w seq block first last base body f row e changing below can. storing xid w seq block first last base body f row e changing.fresh;
    storing_recovering =
        λ xid w seq block first final base body f until heard last e fresh p found below boot rev. storing-recovering xid w seq block first final base
        body f until last e fresh;
    resizing = λ xid w seq q blocks f e changing can c. resizing xid w seq q blocks f e changing.fresh;
    removing = λ xid w seq q f e changing c. removing xid w seq q f e changing.fresh;
  })

-- ---- the server's other steps

waits-makes : (ps : List Packet) (s : Server) (now : ℕ) → ServerMakes ps s (quiet (at_time s now))
unfolding quiet at_time
waits-makes ps s now = no-move ps s _ (λ host. refl) none-mild

opens-makes : (ps : List Packet) (s : Server) (now until heard : ℕ) → ServerMakes ps s (opens (at_time s now) until heard)
unfolding opens at_time
opens-makes ps s now until heard =
    no-move ps s _ (λ host. refl) (one-mild _ (λ who. record { no_answer = λ q a. a; no_loss = λ f b m n e. cc; no_write = λ f b n v e. cc }))

ends-makes : (ps : List Packet) (s : Server) (now : ℕ) (rows : List Row) → ServerMakes ps s (quiet (with_table (at_time s now) (with_rows s.table rows)))
unfolding quiet at_time with_table with_rows
ends-makes ps s now rows = no-move ps s _ (λ host. refl) none-mild

ends-writing-makes : (ps : List Packet) (s : Server) (now : ℕ) (rows : List Row) (row : Row) → ServerMakes ps s (ends_writing (at_time s now) rows row)
unfolding ends_writing at_time keeping_with with_rows
ends-writing-makes ps s now rows row =
    no-move ps s _ (λ host. fence-lines s.kept (find_file row.file s.kept.files) host)
    (one-mild _ (λ who. record { no_answer = λ q a. a; no_loss = λ f b m n e. cc; no_write = λ f b n v e. cc }))

pub tick-makes : (ps : List Packet) (s : Server) (now : ℕ) → ServerMakes ps s (tick s now)
tick-makes ps s now = server-ticks s now (ServerMakes ps s) (record {
  waits = λ until heard last p goes_on. waits-makes ps s now;
  opening = λ until heard last p over. opens-makes ps s now until heard;
  ends_reading = λ p none. ends-makes ps s now _;
  ending_writing = λ row p due. ends-writing-makes ps s now _ row;
})

pub crash-makes : (ps : List Packet) (s : Server) (longest : ℕ) → ServerMakes ps s (crash s longest)
unfolding crash boot
crash-makes ps s longest =
    no-move ps s _ (λ host. booted-line s.kept longest host (s.kept.opened == 0) refl)
    (one-mild _ (λ who. record { no_answer = λ q a. a; no_loss = λ f b m n e. cc; no_write = λ f b n v e. cc }))
