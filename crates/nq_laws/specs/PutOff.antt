-- While the server serves nobody is put off but for a row, and whoever holds it is told first.
use Rattle.std.specs.Prelude.{◌≡◌, ℕ, true, List, [], ◌∷◌, ◌++◌, Option, Some, None, find, slice_get}
use Rattle.nq_base.specs.declared.Access.{Access}
use Rattle.nq_base.specs.declared.Refusal.{Refusal}
use Rattle.nq_base.specs.declared.Reply.{Reply}
use Rattle.nq_base.specs.declared.Request.{Request}
use Rattle.nq_base.specs.declared.Row.{Row}
use Rattle.nq_base.specs.declared.Who.{Who}
use Rattle.nq_model.specs.protocol.Ask.{conflicts}
use Rattle.nq_model.specs.protocol.Decide.{in_the_way}
use Rattle.nq_model.specs.protocol.Kept.{host_row}
use Rattle.nq_model.specs.protocol.Message.{Packet, reply, request, asker, sequence_of}
use Rattle.nq_model.specs.protocol.Server.{serving, Server, to_host, notices}
use Rattle.nq_model.specs.protocol.ServerStep.{access_of, receive}
use Rattle.nq_model.specs.protocol.Table.{find_row}

-- the file that a request reads, changes, or wants a lease on
abbrev pub file_of : Request → Option ℕ
file_of (Request.Read who q file block want) = Some file
file_of (Request.GetLease who file want) = Some file
file_of (Request.Write who seq file block first last push body) = Some file
file_of (Request.Resize who seq q file blocks) = Some file
file_of (Request.Remove who seq q file) = Some file
file_of other = None

-- what its sender is about to do with it
abbrev pub access_by : Request → Access
access_by (Request.Read who q file block want) = access_of want
access_by (Request.GetLease who file want) = access_of (Some want)
access_by other = Access.Write

-- a request is to be made anew
abbrev pub put_off_reply : Who → (xid : ℕ) → Packet
put_off_reply who xid = to_host who.host (reply xid (Reply.Refused who.inc Refusal.TryLater))

-- why a request was put off: a row of another host conflicts with it, or the asker's own row of the file is to go. Each holder of such a row
-- is told to give it up, and then the asker is put off
pub data IsPutOff (s : Server) (who : Who) (xid : ℕ) (r : Request) (sends : List Packet) : Type 0 where
  by_others :
      (file : ℕ) (row : Row)
      → file_of r ≡ Some file
      → find (conflicts file who.host (access_by r)) s.table.rows ≡ Some row
      → sends ≡ notices s.notice (in_the_way s file who.host (access_by r)) ++ put_off_reply who xid ∷ []
      → IsPutOff s who xid r sends
  by_own :
      (file : ℕ) (own : Row)
      → file_of r ≡ Some file
      → find_row file who.host s.table.rows ≡ Some own
      → own.evicting ≡ true
      → sends ≡ notices s.notice (own ∷ []) ++ put_off_reply who xid ∷ []
      → IsPutOff s who xid r sends

-- in every state of a server that serves: so it is with each request that is put off, unless a request of its sequence was decided before
abbrev pub PutOffForRows : Type 0
PutOffForRows =
    (s : Server) (sender next xid i : ℕ) (r : Request) (who : Who)
    → s.phase ≡ serving
    → asker r ≡ Some who
    → ((seq : ℕ) → sequence_of r ≡ Some seq → seq ≡ (host_row s.kept who.host).seq → ⊥)
    → slice_get (receive s sender next (request xid r)).sends i ≡ Some (to_host sender (reply xid (Reply.Refused who.inc Refusal.TryLater)))
    → IsPutOff s who xid r (receive s sender next (request xid r)).sends
