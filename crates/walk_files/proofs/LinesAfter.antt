-- What a datagram does to the kept line of a host, as one who waits for a decision sees it.
use Rattle.std.proofs.Common.{◌≡◌, ◌≢◌, ◌<◌, ℕ, ◌==◌, Bool, true, false, Some, None, length, refl, sym, ap, ◌∙◌, arith}
use Rattle.nq_base.specs.declared.HostRow.{HostRow}
use Rattle.nq_base.specs.declared.Request.{Request}
use Rattle.nq_base.specs.declared.Verdict.{Verdict}
use Rattle.nq_base.specs.declared.Who.{Who}
use Rattle.nq_model.specs.protocol.Decide.{Decision, decides, creates, writes_through, stores, wrote, stores_recovering, resizes, removes, puts_off, commits}
use Rattle.nq_model.specs.protocol.Decide.{row_after}
use Rattle.nq_model.specs.protocol.Kept.{Kept, host_row, with_row, with_files, with_new_file}
use Rattle.nq_model.specs.protocol.Message.{Datagram, asker, request, sequence_of}
use Rattle.nq_model.specs.protocol.Profile.{most_hosts}
use Rattle.nq_model.specs.protocol.Server.{Server, ServerStep, quiet, drops, says, after_notices, keeping, keeping_with, with_table}
use Rattle.nq_model.specs.protocol.ServerStep.{attaches, vacates, tells_later, serves, leases, receive}
use Rattle.walk_steps.proofs.ServerNumbers.{LinesFitOf}
use Rattle.walk_steps.proofs.KeptChanges.{other-line, own-line}
use Rattle.walk_steps.proofs.Rows.{same-number}
use Rattle.walk_steps.proofs.ServerCases.{server-hears}
use Rattle.walk_steps.proofs.ServerOutcomes.{ServerCases, IsFresh, IsFrom, IsDeclined, base_in, line_of}
use Rattle.walk_steps.proofs.Tests.{is-other}

-- a fresh request of the host was decided
pub record IsDecided (s : Server) (sender : ℕ) (d : Datagram) (host : ℕ) (after : HostRow) (x seq : ℕ) (w : Who) (r : Request) : Type 0 where
  pub sent : d ≡ request x r
  pub by : asker r ≡ Some w
  pub draws : sequence_of r ≡ Some seq
  pub fresh : IsFresh s sender w seq
  pub at : w.host ≡ host

-- the line of a host after a datagram: as before, of a later incarnation, done, or decided without effect
pub data LineAfter (s : Server) (sender : ℕ) (d : Datagram) (host : ℕ) (after : HostRow) : Type 0 where
  line_same : after ≡ host_row s.kept host → LineAfter s sender d host after
  line_rises : (host_row s.kept host).inc < after.inc → LineAfter s sender d host after
  line_done : after.verdict ≡ Verdict.Done → LineAfter s sender d host after
  line_put_off : (x seq : ℕ) (w : Who) (r : Request) → IsDecided s sender d host after x seq w r → base_in r ≡ None → LineAfter s sender d host after
  line_declined : (x seq : ℕ) (w : Who) (r : Request) (verdict : Verdict) → IsDecided s sender d host after x seq w r → IsDeclined s w r verdict
      → LineAfter s sender d host after

module _ (s : Server) (sender next : ℕ) (d : Datagram) (host : ℕ) (lines : LinesFitOf s) where
  abbrev After : ServerStep → Type 0
  After t = LineAfter s sender d host (host_row t.server.kept host)

  -- the line of the asker's host is the one that was decided, and others are as before
  by-host : (kept : Kept) (w : Who) (line : HostRow) → kept.hosts ≡ s.kept.hosts → w.host < most_hosts
      → ((after : HostRow) → w.host ≡ host → after ≡ line → LineAfter s sender d host after)
      → LineAfter s sender d host (host_row (with_row kept w.host line) host)
  by-host kept w line same few own = case (w.host == host) refl
    where
      case : (b : Bool) → (w.host == host) ≡ b → LineAfter s sender d host (host_row (with_row kept w.host line) host)
      case true e =
          let at : w.host ≡ host = same-number w.host host e in
          own (host_row (with_row kept w.host line) host) at
          (ap (λ n. host_row (with_row kept w.host line) n) (sym at)
          ∙ own-line kept w.host line (let all : length kept.hosts ≡ most_hosts = ap length same ∙ lines in omega arith))
      case false e =
          let apart : w.host ≢ host = is-other w.host host e in
          line_same (other-line kept w.host host line (λ at. apart (sym at)) ∙ ap (λ hosts. host_row (record kept { hosts = hosts }) host) same)

  committed : (xid : ℕ) (w : Who) (seq : ℕ) (r : Request) (k : Decision) → IsFresh s sender w seq → k.server.kept.hosts ≡ s.kept.hosts
      → ((after : HostRow) → w.host ≡ host → after ≡ row_after w seq k → LineAfter s sender d host after) → After (commits w seq xid r k)
  unfolding commits keeping
  committed xid w seq r k fresh same own = by-host k.server.kept w (row_after w seq k) same fresh.current.from.possible own

  is-done : (w : Who) (seq : ℕ) (k : Decision) → k.verdict ≡ Verdict.Done → (after : HostRow) → w.host ≡ host → after ≡ row_after w seq k
      → LineAfter s sender d host after
  is-done w seq k done after at is = line_done (ap (λ l. l.verdict) is ∙ done)

  attached : (xid : ℕ) (w : Who) → IsFrom sender w → (line_of s w).inc < w.inc → After (attaches s w xid)
  unfolding attaches keeping_with
  attached xid w from later =
      by-host s.kept w _ refl from.possible
      (λ after at is. line_rises (let inc : after.inc ≡ w.inc = ap (λ l. l.inc) is in
      let same : (host_row s.kept host).inc ≡ (line_of s w).inc = ap (λ n. (host_row s.kept n).inc) (sym at) in omega arith))

  cases : ServerCases s sender next d After
  unfolding quiet drops says vacates tells_later serves leases decides creates writes_through stores wrote stores_recovering resizes removes
      puts_off keeping keeping_with with_table after_notices with_files with_new_file
  cases = record {
    stays = line_same refl;
    dropping = λ reason. line_same refl;
    erring = λ m e. line_same refl;
    answers_null = λ xid e. line_same refl;
    replying = λ xid w r reply e by from plain. line_same refl;
    attaching = λ xid w e from later. attached xid w from later;
    vacating = λ xid w file tag e current. line_same refl;
    putting_off = λ xid w r f clash e by file asking c. line_same refl;
    putting_off_waiting = λ xid w r f clash want e by file wants asking c own room. line_same refl;
    putting_off_by_own = λ xid w r f want own e by file wants asking c o evicting. line_same refl;
    reading = λ xid w q block f body e asking there c. line_same refl;
    reading_full = λ xid w q block want f body e asking there c own room. line_same refl;
    reading_granted = λ xid w q block want f body row term e asking there c g. line_same refl;
    leasing_full = λ xid w want f e asking c own room. line_same refl;
    leasing = λ xid w want f row term e asking c g. line_same refl;
    declining =
        λ xid w seq r verdict e by sq fresh declined. committed xid w seq r _ fresh refl
        (λ after at is. line_declined xid seq w r verdict (record { sent = e; by = by; draws = sq; fresh = fresh; at = at }) declined);
    putting_off_change =
        λ xid w seq r f clash e by sq file base changing c. committed xid w seq r _ changing.fresh refl
        (λ after at is. line_put_off xid seq w r (record { sent = e; by = by; draws = sq; fresh = changing.fresh; at = at }) base);
    creating =
        λ xid w seq blocks name e fresh serves can. committed xid w seq _ (creates s name blocks) fresh refl (is-done w seq (creates s name blocks) refl);
    writing_through =
        λ xid w seq block first last body f e changing below c. committed xid w seq _ (writes_through s w f block first body) changing.fresh refl
        (is-done w seq (writes_through s w f block first body) refl);
    storing =
        λ xid w seq block first last base body f row e changing below can. committed xid w seq _ (stores s w f row block first last body) changing.fresh
        refl (is-done w seq (stores s w f row block first last body) refl);
    storing_recovering =
        λ xid w seq block first final base body f until heard last e fresh recovers found below boot rev. committed xid w seq _
        (stores_recovering s until last w f block first final body) fresh refl
        (is-done w seq (stores_recovering s until last w f block first final body) refl);
    resizing =
        λ xid w seq q blocks f e changing can c. committed xid w seq _ (resizes s w q f blocks) changing.fresh refl
        (is-done w seq (resizes s w q f blocks) refl);
    removing = λ xid w seq q f e changing c. committed xid w seq _ (removes s w q f) changing.fresh refl (is-done w seq (removes s w q f) refl);
  }

  -- the line of a host after a datagram
  pub line-after : LineAfter s sender d host (host_row (receive s sender next d).server.kept host)
  line-after = server-hears s sender next d After cases
