-- A file is created in a run whose numbers stay within their bounds.
use Rattle.std.proofs.Common.{◌≡◌, ◌+◌, List, [], ◌∷◌, Some, length, refl, sym, subst, ◌∙◌, arith}
use Rattle.std.proofs.lemmas.List.Elements.{All-nil, All-cons}
use Rattle.std.specs.Prelude.{slice_get}
use Rattle.nq_base.specs.Block.{filled, zeros}
use Rattle.nq_base.specs.Name.{IsName, IsNameByte}
use Rattle.nq_base.specs.declared.Call.{Call}
use Rattle.nq_base.specs.declared.Event.{Event}
use Rattle.nq_base.specs.declared.Request.{Request}
use Rattle.nq_model.specs.protocol.Message.{Packet, call}
use Rattle.nq_model.specs.protocol.World.{Head, from_host, start, run}
use Rattle.walk_steps.proofs.ClientMoves.{some-same}
use Rattle.walk_steps.specs.Within.{CarriesText, NumbersAreMet}
use Rattle.walk_steps.proofs.GivenRuns.{given-run}

-- one host, and no file
abbrev one-host : Head
one-host = record { hosts = 1; term = 30; longest = 60; files = [] }

-- it asks for a file of one block
abbrev asks-once : List Event
asks-once = Event.Call 0 (Call.Create (98 ∷ []) 1) ∷ []

abbrev packet : Packet
packet = from_host 0 (call 1 (Request.Create (record { host = 0; inc = 1 }) 1 (98 ∷ []) 1))

named : IsName (98 ∷ [])
named = (omega arith, omega arith, All-cons IsNameByte 98 [] (omega arith, omega arith, λ e. absurd (omega arith)) (All-nil IsNameByte))

sent : slice_get (run one-host asks-once).packets 0 ≡ Some packet
unfolding filled zeros given-run
sent = refl

one-packet : length (run one-host asks-once).packets ≡ 1
unfolding filled zeros given-run
one-packet = refl

no-packet : length (run one-host []).packets ≡ 0
unfolding start
no-packet = refl

made : (run one-host (Event.Deliver 0 ∷ asks-once)).server.kept.next ≡ (run one-host []).server.kept.next + 1
unfolding filled zeros given-run
made = refl

given-text : (p : Packet) → slice_get (run one-host asks-once).packets 0 ≡ Some p → CarriesText p.message
given-text p e = subst (λ q. CarriesText q.message) (some-same packet p (sym sent ∙ e)) named

pub numbers-are-met : NumbersAreMet
numbers-are-met = record {
  head = one-host;
  events = Event.Deliver 0 ∷ asks-once;
  within = record {
    hosts = omega arith;
    long = omega arith;
    short = omega arith;
    files = tt;
    few_files = omega arith;
    few_blocks = omega arith;
    distinct = tt;
  };
  given = (let one = one-packet in omega arith, given-text, (let none = no-packet in omega arith, tt, tt));
  few = omega arith;
  made = made;
}
