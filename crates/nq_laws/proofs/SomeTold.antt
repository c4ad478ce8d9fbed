-- A client makes a file, looks it up and asks for its attributes; another is refused.
use Rattle.std.proofs.Common.{◌≡◌, ℕ, List, [], ◌∷◌, Some, refl, arith}
use Rattle.std.specs.Prelude.{slice_get, zero, suc}
use Rattle.nq_base.specs.Block.{filled, zeros}
use Rattle.nq_base.specs.declared.Call.{Call}
use Rattle.nq_base.specs.declared.Entry.TheVariants.{C, A}
use Rattle.nq_base.specs.declared.Event.{Event}
use Rattle.nq_base.specs.declared.Refusal.{Refusal}
use Rattle.nq_base.specs.declared.Reply.{Reply}
use Rattle.nq_base.specs.declared.Said.{Said}
use Rattle.nq_base.specs.declared.Told.{Told}
use Rattle.nq_base.specs.declared.Who.{Who}
use Rattle.nq_model.proofs.SkewTest.{skew-test-is-sound}
use Rattle.nq_model.specs.protocol.Message.{reply}
use Rattle.nq_model.specs.protocol.Server.{to_host}
use Rattle.nq_model.specs.protocol.World.{Head, run}
use Rattle.nq_laws.specs.ToldMet.{TellingsAreMet, NoRoomIsMet, RefusalsAreMet}
use Rattle.walk_steps.proofs.GivenRuns.{given-run}
use Rattle.walk_steps.proofs.NoCrash.{no-crash-within}

-- one host, and no file
abbrev one-host : Head
one-host = record { hosts = 1; term = 30; longest = 60; files = [] }

-- the newest event first
abbrev asks-all : List Event
asks-all =
    Event.Deliver 4 ∷ Event.Call 0 (Call.Attr 1) ∷ Event.Deliver 3 ∷ Event.Deliver 2 ∷ Event.Call 0 (Call.Lookup (98 ∷ []))
    ∷ Event.Deliver 1 ∷ Event.Deliver 0 ∷ Event.Call 0 (Call.Create (98 ∷ []) 1) ∷ []

made : slice_get (run one-host asks-all).packets 1 ≡ Some (to_host 0 (reply 1 (Reply.Create 1 1)))
unfolding filled zeros given-run
made = refl

named : slice_get (run one-host asks-all).packets 3 ≡ Some (to_host 0 (reply 2 (Reply.Lookup 1 1 1)))
unfolding filled zeros given-run
named = refl

measured : slice_get (run one-host asks-all).packets 5 ≡ Some (to_host 0 (reply 3 (Reply.GetAttr 1 1 0)))
unfolding filled zeros given-run
measured = refl

pub tellings-are-met : TellingsAreMet
tellings-are-met = record { head = one-host; events = asks-all; id = 1; made = made; named = named; measured = measured }

-- ---- no room

-- so many files of one block, each of another name
abbrev files-of-one : ℕ → List (List ℕ × ℕ)
files-of-one zero = []
files-of-one (suc count) = (count ∷ [], 1) ∷ files-of-one count

abbrev all-files : Head
all-files = record { hosts = 1; term = 30; longest = 60; files = files-of-one 256 }

-- a file more is asked for
abbrev asks-for-more : List Event
asks-for-more = Event.Deliver 0 ∷ Event.Call 0 (Call.Create (98 ∷ 98 ∷ []) 1) ∷ []

no-room : slice_get (run all-files asks-for-more).packets 1 ≡ Some (to_host 0 (reply 1 (Reply.Refused 1 Refusal.NoSpc)))
unfolding filled zeros given-run
no-room = refl

pub no-room-is-met : NoRoomIsMet
no-room-is-met = record { head = all-files; events = asks-for-more; files = refl; no_room = no-room }

-- ---- refusals

abbrev holder : Who
holder = record { host = 0; inc = 1 }

-- the newest event first: a name that is not there, a file that is not, a file that is made and is made again, and one of no block
abbrev asks-in-vain : List Event
asks-in-vain =
    Event.Deliver 9 ∷ Event.Deliver 8 ∷ Event.Call 0 (Call.Create (98 ∷ []) 0) ∷ Event.Deliver 7 ∷ Event.Deliver 6
    ∷ Event.Call 0 (Call.Create (98 ∷ []) 1) ∷ Event.Deliver 5 ∷ Event.Deliver 4 ∷ Event.Call 0 (Call.Create (98 ∷ []) 1)
    ∷ Event.Deliver 3 ∷ Event.Deliver 2 ∷ Event.Call 0 (Call.Attr 1) ∷ Event.Deliver 1 ∷ Event.Deliver 0
    ∷ Event.Call 0 (Call.Lookup (98 ∷ [])) ∷ []

no-name : slice_get (run one-host asks-in-vain).packets 1 ≡ Some (to_host 0 (reply 1 (Reply.Refused 1 Refusal.NoEnt)))
unfolding filled zeros given-run
no-name = refl

no-file : slice_get (run one-host asks-in-vain).packets 3 ≡ Some (to_host 0 (reply 2 (Reply.Refused 1 Refusal.Stale)))
unfolding filled zeros given-run
no-file = refl

a-name : slice_get (run one-host asks-in-vain).packets 7 ≡ Some (to_host 0 (reply 4 (Reply.Refused 1 Refusal.Exist)))
unfolding filled zeros given-run
a-name = refl

no-length : slice_get (run one-host asks-in-vain).packets 9 ≡ Some (to_host 0 (reply 5 (Reply.Refused 1 Refusal.Inval)))
unfolding filled zeros given-run
no-length = refl

answered :
    (run one-host asks-in-vain).journal
    ≡ A holder 5 Said.Range ∷ C holder 5 (Told.Create (98 ∷ []) 0) ∷ A holder 4 Said.Exists ∷ C holder 4 (Told.Create (98 ∷ []) 1)
    ∷ A holder 3 (Said.OkValue 1) ∷ C holder 3 (Told.Create (98 ∷ []) 1) ∷ A holder 2 Said.Stale ∷ C holder 2 (Told.Attr 1)
    ∷ A holder 1 Said.NoEntry ∷ C holder 1 (Told.Lookup (98 ∷ [])) ∷ []
unfolding filled zeros given-run
answered = refl

pub refusals-are-met : RefusalsAreMet
refusals-are-met = record {
  most = 60;
  head = one-host;
  events = asks-in-vain;
  bounds = record { hosts = omega arith; first_long = omega arith; first_short = omega arith; boots = no-crash-within 60 asks-in-vain refl };
  within = skew-test-is-sound 1 60 asks-in-vain refl;
  who = holder;
  name = 98 ∷ [];
  no_name = no-name;
  no_file = no-file;
  a_name = a-name;
  no_length = no-length;
  answered = answered;
}
