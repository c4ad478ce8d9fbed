-- While a server recovers, each write that it stored since it booted was heard by the time that it has for that.
use Rattle.std.proofs.Common.{◌≡◌, ◌≤◌, ℕ, zero, suc, List, [], ◌∷◌, ◌++◌, Some, sym, subst, arith, Option}
use Rattle.std.specs.List.{slice_get}
use Rattle.nq_base.specs.declared.Entry.{Entry}
use Rattle.nq_base.specs.declared.Who.{Who}
use Rattle.nq_model.specs.protocol.Decide.{decides, creates, writes_through, stores, wrote, stores_recovering, resizes, removes, puts_off, commits}
use Rattle.nq_model.specs.protocol.Message.{Datagram}
use Rattle.nq_model.specs.protocol.Server.{Phase, serving, recovering, Server, quiet, drops, says, after_notices, keeping, keeping_with, with_table}
use Rattle.nq_model.specs.protocol.ServerStep.{attaches, vacates, tells_later, serves, leases, receive, tick, at_time, opens, ends_writing}
use Rattle.nq_model.specs.protocol.Table.{Table}
use Rattle.nq_model.specs.laws.RecoveriesWait.{WasStoredAt}
use Rattle.walk_steps.proofs.ServerCases.{server-hears, server-ticks}
use Rattle.walk_steps.proofs.ServerNumbers.{PhaseWaits, PhaseWaitsOf, Waits}
use Rattle.walk_steps.proofs.ServerOutcomes.{ServerCases}

-- each delayed write that was stored was stored by this time
abbrev pub StoredBy : ℕ → List Entry → Type 0
StoredBy heard [] = Unit {0}
StoredBy heard (Entry.S who file block first last at ∷ entries) = (at ≤ heard) × StoredBy heard entries
StoredBy heard (other ∷ entries) = StoredBy heard entries

-- while the server recovers
abbrev pub HeardWrites : Phase → List Entry → Type 0
HeardWrites serving entries = Unit {0}
HeardWrites (recovering until heard last) entries = StoredBy heard entries

stored-later : (heard later : ℕ) (entries : List Entry) → heard ≤ later → StoredBy heard entries → StoredBy later entries
stored-later heard later [] h s = tt
stored-later heard later (Entry.S who file block first last at ∷ entries) h s = (omega (arith, s.0), stored-later heard later entries h s.1)
stored-later heard later (other ∷ entries) h s = stored-later heard later entries h s

-- what the entries say of each of them
stored-at : (heard : ℕ) (entries : List Entry) (place : ℕ) (who : Who) (file block first last at : ℕ) → StoredBy heard entries
    → slice_get entries place ≡ Some (Entry.S who file block first last at) → at ≤ heard
stored-at heard [] place who file block first last at s e = absurd (cc)
stored-at heard (Entry.S w f b m n time ∷ entries) zero who file block first last at s e = let same : time ≡ at = cc in omega (arith, s.0)
stored-at heard (Entry.S w f b m n time ∷ entries) (suc place) who file block first last at s e =
    stored-at heard entries place who file block first last at s.1 e
stored-at heard (other ∷ entries) zero who file block first last at s e = absurd (cc)
stored-at heard (other ∷ entries) (suc place) who file block first last at s e = stored-at heard entries place who file block first last at s e

pub hears-writes : (heard : ℕ) (entries : List Entry) → StoredBy heard entries → (at : ℕ) → WasStoredAt entries at → at ≤ heard
hears-writes heard entries s at w = stored-at heard entries w.place w.who w.file w.block w.first w.last at s w.there

served-writes : (phase : Phase) (entries : List Entry) → phase ≡ serving → HeardWrites phase entries
served-writes phase entries p = subst (λ p. HeardWrites p entries) (sym p) tt

module _ (booted : ℕ) (s : Server) (before : List Entry) (h : HeardWrites s.phase before) (w : PhaseWaitsOf booted s) where
  more-writes : (until heard : ℕ) (last : Option Table) → s.phase ≡ recovering until heard last → StoredBy s.now before
  more-writes until heard last p =
      let waits : Waits booted s.now s.kept.longest until heard = subst (PhaseWaits booted s.now s.kept.longest) p w in
      stored-later heard s.now before waits.heard_by_now (subst (λ p. HeardWrites p before) p h)

  writes-cases : (sender next : ℕ) (d : Datagram) → ServerCases s sender next d (λ t. HeardWrites t.server.phase (t.entries ++ before))
  unfolding quiet drops says attaches vacates tells_later serves leases decides creates writes_through stores wrote stores_recovering resizes
      removes puts_off commits keeping keeping_with with_table after_notices
  writes-cases sender next d = record {
    stays = h;
    dropping = λ reason. h;
    erring = λ m e. h;
    answers_null = λ xid e. h;
    replying = λ xid who r reply e by from plain. h;
    attaching = λ xid who e from later. h;
    vacating = λ xid who file tag e current. h;
    putting_off = λ xid who r f clash e by file asking c. h;
    putting_off_waiting = λ xid who r f clash want e by file wants asking c own room. h;
    putting_off_by_own = λ xid who r f want own e by file wants asking c o evicting. h;
    reading = λ xid who q block f body e asking there c. served-writes s.phase _ asking.serves;
    reading_full = λ xid who q block want f body e asking there c own room. served-writes s.phase _ asking.serves;
    reading_granted = λ xid who q block want f body row term e asking there c g. served-writes s.phase _ asking.serves;
    leasing_full = λ xid who want f e asking c own room. served-writes s.phase _ asking.serves;
    leasing = λ xid who want f row term e asking c g. served-writes s.phase _ asking.serves;
    declining = λ xid who seq r verdict e by sq fresh declined. h;
    putting_off_change = λ xid who seq r f clash e by sq file base changing c. h;
    creating = λ xid who seq blocks name e fresh serves can. h;
    writing_through = λ xid who seq block first last body f e changing below c. served-writes s.phase _ changing.serves;
    storing = λ xid who seq block first last base body f row e changing below can. served-writes s.phase _ changing.serves;
    storing_recovering =
        λ xid who seq block first final base body f until heard last e fresh recovers found below boot rev.
        (omega arith, more-writes until heard last recovers);
    resizing = λ xid who seq q blocks f e changing can c. served-writes s.phase _ changing.serves;
    removing = λ xid who seq q f e changing c. served-writes s.phase _ changing.serves;
  }

  pub writes-receive : (sender next : ℕ) (d : Datagram) → HeardWrites (receive s sender next d).server.phase ((receive s sender next d).entries ++ before)
  writes-receive sender next d = server-hears s sender next d (λ t. HeardWrites t.server.phase (t.entries ++ before)) (writes-cases sender next d)

  pub writes-tick : (now : ℕ) → HeardWrites (tick s now).server.phase ((tick s now).entries ++ before)
  unfolding quiet at_time opens ends_writing keeping_with with_table
  writes-tick now = server-ticks s now (λ t. HeardWrites t.server.phase (t.entries ++ before)) (record {
    waits = λ until heard last p goes_on. h;
    opening = λ until heard last p over. tt;
    ends_reading = λ p none. h;
    ending_writing = λ row p due. served-writes s.phase _ p;
  })
