-- What stands beside a server and answers datagrams that are none of the protocol proper, from what is kept. Below, `content` is what a keeper
-- tells of what it keeps, `faults` is its count of faults, `follows` says that a keeper is another one after some of its calls, and `leaves` what a
-- stop between two moments of it may leave.
use Rattle.std.specs.Option.{ForSome}
use Rattle.std.specs.Prelude.{◌≡◌, ℕ, Bool, false, List, [], ◌∷◌, ◌++◌, Option, Some, None, Result, Ok, Err}
use Rattle.nq_base.specs.declared.Party.{Party}
use Rattle.nq_keeper.specs.Keeping.{LeavesOne, Reads}
use Rattle.nq_keeper.specs.declared.KeepFault.{KeepFault}
use Rattle.nq_link.specs.Link.{Letters}
use Rattle.nq_model.specs.protocol.Kept.{Kept}
use Rattle.nq_model.specs.protocol.Server.{Server}
use Rattle.nq_server.specs.Holding.{Holding, IsUntouched}

-- an extension: which datagrams are its own, and what it replies to one of a host, if anything, by the server that it stands beside
pub record Extension : Type 0 where
  pub owns : List ℕ → Bool
  pub replies : Server → (host : ℕ) → (bytes : List ℕ) → Option (List ℕ)

-- an extension as it is told
abbrev pub extension_told : (owns : List ℕ → Bool) → (replies : Server → ℕ → List ℕ → Option (List ℕ)) → Extension
extension_told owns replies = record { owns = owns; replies = replies }

-- no datagram is answered beside the server
abbrev pub no_extension : Extension
no_extension = record { owns = λ bytes. false; replies = λ server host bytes. None }

-- the datagrams that reply to a host, if it gets a reply
abbrev pub reply_to : (host : ℕ) → Option (List ℕ) → Letters
reply_to host None = []
reply_to host (Some bytes) = (Party.Client host, bytes) ∷ []

-- What was added to the datagrams that are to be sent, by an answer: the reply to a host, if it gets one by what is kept; nothing where it failed
abbrev pub AddsReply : Result Unit KeepFault → (told : Option Kept) → (reply : Kept → Option (List ℕ)) → (host : ℕ) → (before now : Letters) → Type 0
AddsReply (Ok done) told reply host before now = ForSome told (λ kept. now ≡ before ++ reply_to host (reply kept))
AddsReply (Err why) told reply host before now = now ≡ before

-- a server was read: it is as before but for its keeper, which keeps and tells the same as long as it did not fail
pub record ReadsOnly {K A : Type 0} (content : K → Option Kept) (faults : K → ℕ) (follows : K → K → Type 0) (leaves : K → K → Option Kept → Type 0)
    (result : Result A KeepFault) (old new : Holding K) : Type 0 where
  pub untouched : IsUntouched old new
  pub reads : Reads result (content old.keeper) (content new.keeper) (faults old.keeper) (faults new.keeper)
  pub same : follows old.keeper new.keeper
  pub left : LeavesOne (content old.keeper) (leaves old.keeper new.keeper)
