-- Each packet of a step of the server is its own, and its entries are plain.
use Rattle.std.proofs.Common.{◌≡◌, ℕ, ◌+◌, ◌%◌, List, [], ◌∷◌, ◌++◌, Option, Some, None, map, refl}
use Rattle.std.proofs.lemmas.List.Elements.{All-nil, All-cons, All-append}
use Rattle.std.specs.List.{All}
use Rattle.nq_base.specs.Plain.{plain}
use Rattle.nq_base.specs.declared.Entry.{Entry}
use Rattle.nq_base.specs.declared.Grant.{Grant}
use Rattle.nq_base.specs.declared.Party.{Party}
use Rattle.nq_base.specs.declared.Refusal.{Refusal}
use Rattle.nq_base.specs.declared.Reply.{Reply as Answer}
use Rattle.nq_base.specs.declared.Request.{Request}
use Rattle.nq_base.specs.declared.Row.{Row}
use Rattle.nq_base.specs.declared.Who.{Who}
use Rattle.nq_model.specs.protocol.Decide.{decides, creates, writes_through, stores, stores_recovering, resizes, removes, puts_off, commits}
use Rattle.nq_model.specs.protocol.Message.{Message, Packet, Datagram, call, reply}
use Rattle.nq_model.specs.protocol.Profile.{xid_end}
use Rattle.nq_model.specs.protocol.Server.{Server, to_host, notices, quiet, drops, says}
use Rattle.nq_model.specs.protocol.ServerStep.{grants, attaches, vacates, tells_later, serves, leases, receive, ends_writing, opens, tick, crash}
use Rattle.walk_steps.proofs.ServerCases.{server-hears, server-ticks}
use Rattle.walk_steps.specs.Says.{SaysPlainly, ServerSaysPlainly}

-- packets of the server
abbrev AreOwn : List Packet → Type 0
AreOwn sends = All (λ p. p.sender ≡ Party.Server) sends

none-own : AreOwn []
none-own = All-nil (λ p. p.sender ≡ Party.Server)

one-own : (host : ℕ) (m : Message) → AreOwn (to_host host m ∷ [])
one-own host m = All-cons (λ p. p.sender ≡ Party.Server) (to_host host m) [] refl none-own

notices-own : (xid : ℕ) (rows : List Row) → AreOwn (notices xid rows)
notices-own xid [] = none-own
notices-own xid (row ∷ rows) =
    All-cons (λ p. p.sender ≡ Party.Server) (to_host row.who.host (call xid (Request.Evicted row.who row.file row.tag)))
    (notices ((xid + 1) % xid_end) rows) refl
    (notices-own ((xid + 1) % xid_end) rows)

noticed-own : (xid : ℕ) (rows : List Row) (host : ℕ) (m : Message) → AreOwn (notices xid rows ++ to_host host m ∷ [])
noticed-own xid rows host m =
    All-append (λ p. p.sender ≡ Party.Server) (notices xid rows) (to_host host m ∷ []) (notices-own xid rows) (one-own host m)

read-plain : (s : Server) (who : Who) (file : ℕ) (grant : Option Grant) (entry : Entry) → plain entry ≡ entry
    → map plain (entry ∷ grants s who file grant) ≡ entry ∷ grants s who file grant
read-plain s who file None entry same = cc
read-plain s who file (Some g) entry same = cc

module _ (s : Server) where
  pub receive-says : (sender next : ℕ) (d : Datagram) → SaysPlainly (receive s sender next d)
  unfolding quiet drops says attaches vacates tells_later serves leases decides creates writes_through stores stores_recovering resizes removes
      puts_off commits
  receive-says sender next d = server-hears s sender next d SaysPlainly (record {
    stays = record { own = none-own; plain = refl };
    dropping = λ reason. record { own = none-own; plain = refl };
    erring = λ m e. record { own = one-own sender m; plain = refl };
    answers_null = λ xid e. record { own = one-own sender _; plain = refl };
    replying = λ xid who r reply e by from plain. record { own = one-own who.host _; plain = refl };
    attaching = λ xid who e from above. record { own = one-own who.host _; plain = refl };
    vacating = λ xid who file tag e current. record { own = none-own; plain = refl };
    putting_off = λ xid who r f clash e by file asking c. record { own = noticed-own s.notice _ who.host _; plain = refl };
    putting_off_waiting = λ xid who r f clash want e by file wants asking c own room. record { own = noticed-own s.notice _ who.host _; plain = refl };
    putting_off_by_own =
        λ xid who r f want own e by file wants asking c o evicting. record
        { own = noticed-own s.notice (own ∷ []) who.host (reply xid (Answer.Refused who.inc Refusal.TryLater)); plain = refl };
    reading = λ xid who q block f body e asking there c. record { own = one-own who.host _; plain = read-plain s who f.id None _ refl };
    reading_full = λ xid who q block want f body e asking there c own room. record { own = one-own who.host _; plain = read-plain s who f.id None _ refl };
    reading_granted = λ xid who q block want f body row term e asking there c g. record { own = one-own who.host _; plain = refl };
    leasing_full = λ xid who want f e asking c own room. record { own = one-own who.host _; plain = refl };
    leasing = λ xid who want f row term e asking c g. record { own = one-own who.host _; plain = refl };
    declining = λ xid who seq r verdict e by sq fresh declined. record { own = one-own who.host _; plain = refl };
    putting_off_change = λ xid who seq r f clash e by sq file base changing c. record { own = noticed-own s.notice _ who.host _; plain = refl };
    creating = λ xid who seq blocks name e fresh serves can. record { own = one-own who.host _; plain = refl };
    writing_through = λ xid who seq block first last body f e changing below c. record { own = one-own who.host _; plain = refl };
    storing = λ xid who seq block first last base body f row e changing below can. record { own = one-own who.host _; plain = refl };
    storing_recovering =
        λ xid who seq block first final base body f until heard last e fresh recovers found below boot rev. record
        { own = one-own who.host _; plain = refl };
    resizing = λ xid who seq q blocks f e changing can c. record { own = one-own who.host _; plain = refl };
    removing = λ xid who seq q f e changing c. record { own = one-own who.host _; plain = refl };
  })

  pub tick-says : (now : ℕ) → SaysPlainly (tick s now)
  unfolding quiet opens ends_writing
  tick-says now = server-ticks s now SaysPlainly (record {
    waits = λ until heard last p goes_on. record { own = none-own; plain = refl };
    opening = λ until heard last p over. record { own = none-own; plain = refl };
    ends_reading = λ p none. record { own = none-own; plain = refl };
    ending_writing = λ row p due. record { own = none-own; plain = refl };
  })

  pub crash-says : (longest : ℕ) → SaysPlainly (crash s longest)
  unfolding crash
  crash-says longest = record { own = none-own; plain = refl }

pub server-says-plainly : ServerSaysPlainly
server-says-plainly = record {
  receives = λ s sender next d. receive-says s sender next d;
  ticks = λ s now. tick-says s now;
  crashes = λ s longest. crash-says s longest;
}
