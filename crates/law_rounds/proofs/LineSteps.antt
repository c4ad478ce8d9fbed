-- What a datagram makes of the line of a host: a request was decided, with a verdict that it can have; or a later incarnation begins.
use Rattle.std.proofs.Common.{◌≡◌, ◌≢◌, ◌<◌, ℕ, ◌==◌, Bool, true, false, List, Some, length, refl, sym, ap, ◌∙◌, arith}
use Rattle.nq_base.specs.declared.Access.{Access}
use Rattle.nq_base.specs.declared.HostRow.{HostRow}
use Rattle.nq_base.specs.declared.Request.{Request}
use Rattle.nq_base.specs.declared.Verdict.{Verdict}
use Rattle.nq_base.specs.declared.Who.{Who}
use Rattle.nq_model.specs.protocol.Ask.{marked}
use Rattle.nq_model.specs.protocol.Decide.{Decision, decides, creates, writes_through, stores, wrote, stores_recovering, resizes, removes, puts_off, commits}
use Rattle.nq_model.specs.protocol.Decide.{row_after}
use Rattle.nq_model.specs.protocol.Kept.{Kept, host_row, with_row, with_files, with_new_file}
use Rattle.nq_model.specs.protocol.Message.{Datagram, request, asker, sequence_of}
use Rattle.nq_model.specs.protocol.Profile.{most_hosts}
use Rattle.nq_model.specs.protocol.Server.{Server, ServerStep, quiet, drops, says, after_notices, keeping, keeping_with, with_table}
use Rattle.nq_model.specs.protocol.ServerStep.{receive, row_of_attach, attaches, tells_later, serves, leases, vacates}
use Rattle.nq_model.specs.protocol.Table.{with_rows}
use Rattle.walk_steps.proofs.KeptChanges.{own-line, other-line, same-lines}
use Rattle.walk_steps.proofs.Rows.{same-number, number-same}
use Rattle.walk_steps.proofs.ServerCases.{server-hears}
use Rattle.walk_steps.proofs.ServerOutcomes.{IsFrom, IsFresh}
use Rattle.law_rounds.proofs.Fair.{fair, fair-later, declined-fair}

pub data LineGoes (s : Server) (sender : ℕ) (d : Datagram) (host : ℕ) (after : HostRow) : Type 0 where
  line_same : after ≡ host_row s.kept host → LineGoes s sender d host after
  line_attached : (who : Who) → host ≡ who.host → (host_row s.kept host).inc < who.inc → after ≡ row_of_attach who → LineGoes s sender d host after
  line_decided :
      (xid seq value : ℕ) (who : Who) (r : Request) (v : Verdict)
      → d ≡ request xid r
      → asker r ≡ Some who
      → sequence_of r ≡ Some seq
      → host ≡ who.host
      → who.host ≡ sender
      → who.inc ≡ (host_row s.kept host).inc
      → (host_row s.kept host).seq < seq
      → after ≡ record { inc = who.inc; seq = seq; verdict = v; value = value }
      → fair r v ≡ true
      → LineGoes s sender d host after

module _ (s : Server) (sender next : ℕ) (d : Datagram) (host : ℕ) (long : length s.kept.hosts ≡ most_hosts) where
  abbrev Goes : Kept → Type 0
  Goes kept = LineGoes s sender d host (host_row kept host)

  apart : (who : Who) → (host == who.host) ≡ false → host ≢ who.host
  apart who differs same = let yes : (host == who.host) ≡ true = number-same host who.host same in absurd (cc)

  goes-decided : (kept : Kept) (d' : Decision) (xid seq : ℕ) (who : Who) (r : Request) → kept.hosts ≡ s.kept.hosts → d ≡ request xid r → asker r
      ≡ Some who → sequence_of r ≡ Some seq → IsFresh s sender who seq → fair r d'.verdict ≡ true → Goes (with_row kept who.host (row_after who seq d'))
  goes-decided kept d' xid seq who r same e by sq fresh f = step (host == who.host) refl
    where
      step : (b : Bool) → (host == who.host) ≡ b → Goes (with_row kept who.host (row_after who seq d'))
      step true is =
          let here : host ≡ who.host = same-number host who.host is in
          let few = fresh.current.from.possible in
          let own : host_row (with_row kept who.host (row_after who seq d')) who.host ≡ row_after who seq d' = own-line kept who.host
          (row_after who seq d') (let all : length kept.hosts ≡ most_hosts = ap (λ (hs : List HostRow). length hs) same ∙ long in omega arith) in
          line_decided xid seq d'.value who r d'.verdict e by sq here fresh.current.from.host
          (fresh.current.inc ∙ ap (λ n. (host_row s.kept n).inc) (sym here))
          (let above = fresh.above in let line : (host_row s.kept host).seq ≡ (host_row s.kept who.host).seq = ap (λ n. (host_row s.kept n).seq)
          here in omega arith)
          (ap (host_row (with_row kept who.host (row_after who seq d'))) here ∙ own) f
      step false differs = line_same (other-line kept who.host host (row_after who seq d') (apart who differs) ∙ same-lines s.kept kept host same)

  goes-attached : (xid : ℕ) (who : Who) → IsFrom sender who → (host_row s.kept who.host).inc < who.inc → Goes (with_row s.kept who.host (row_of_attach who))
  goes-attached xid who from later = step (host == who.host) refl
    where
      step : (b : Bool) → (host == who.host) ≡ b → Goes (with_row s.kept who.host (row_of_attach who))
      step true is =
          let here : host ≡ who.host = same-number host who.host is in
          let few = from.possible in
          let line : (host_row s.kept host).inc ≡ (host_row s.kept who.host).inc = ap (λ n. (host_row s.kept n).inc) here in
          line_attached who here (omega arith) (ap (host_row (with_row s.kept who.host (row_of_attach who))) here ∙ own-line s.kept who.host
          (row_of_attach who) (omega arith))
      step false differs = line_same (other-line s.kept who.host host (row_of_attach who) (apart who differs))

  pub line-goes : Goes (receive s sender next d).server.kept
  unfolding quiet drops says attaches vacates tells_later serves leases decides creates writes_through stores wrote stores_recovering resizes
      removes puts_off commits keeping keeping_with with_table after_notices with_files with_new_file
  line-goes = server-hears s sender next d (λ (t : ServerStep). Goes t.server.kept) (record {
    stays = line_same refl;
    dropping = λ reason. line_same refl;
    erring = λ m e. line_same refl;
    answers_null = λ x e. line_same refl;
    replying = λ x w r reply e by from plain. line_same refl;
    attaching = λ x w e from later. goes-attached x w from later;
    vacating = λ x w file tag e now. line_same refl;
    putting_off = λ x w r f clash e by file asking c. line_same refl;
    putting_off_waiting = λ x w r f clash want e by file wants asking c none room. line_same refl;
    putting_off_by_own = λ x w r f want row e by file wants asking c o evicting. line_same refl;
    reading = λ x w q block f body e asking there c. line_same refl;
    reading_full = λ x w q block want f body e asking there c none room. line_same refl;
    reading_granted = λ x w q block want f body row term e asking there c g. line_same refl;
    leasing_full = λ x w want f e asking c none room. line_same refl;
    leasing = λ x w want f row term e asking c g. line_same refl;
    declining = λ x w seq r v e by sq fresh declined. goes-decided s.kept (decides s v) x seq w r refl e by sq fresh (declined-fair s w r v declined);
    putting_off_change = λ x w seq r f clash e by sq file base changing c. goes-decided s.kept
        (puts_off s w f.id (with_rows s.table (marked f.id w.host Access.Write s.table.rows))) x seq w r refl e by sq changing.fresh (fair-later r base);
    creating = λ x w seq blocks name e fresh serves can. goes-decided _ (creates s name blocks) x seq w _ refl e refl refl fresh refl;
    writing_through = λ x w seq block first last body f e changing below c. goes-decided _ (writes_through s w f block first body) x seq w _ refl e
        refl refl changing.fresh refl;
    storing = λ x w seq block first last base body f row e changing below can. goes-decided _ (stores s w f row block first last body) x seq w _ refl
        e refl refl changing.fresh refl;
    storing_recovering =
        λ x w seq block first final base body f until heard last e fresh recovers found below boot rev.
        goes-decided _ (stores_recovering s until last w f block first final body) x seq w _ refl e refl refl fresh refl;
    resizing = λ x w seq q blocks f e changing can c. goes-decided _ (resizes s w q f blocks) x seq w _ refl e refl refl changing.fresh refl;
    removing = λ x w seq q f e changing c. goes-decided _ (removes s w q f) x seq w _ refl e refl refl changing.fresh refl;
  })
