-- There is a schedule after which a push was done: the premises of the laws are met.
use Rattle.std.specs.Prelude.{◌≡◌, ℕ, List, ◌∷◌, Some, slice_get}
use Rattle.nq_base.specs.Block.{value_of}
use Rattle.nq_base.specs.declared.Event.{Event}
use Rattle.nq_base.specs.declared.PushBase.{PushBase}
use Rattle.nq_base.specs.declared.Reply.{Reply}
use Rattle.nq_base.specs.declared.Request.TheVariants.{Write}
use Rattle.nq_base.specs.declared.Verdict.{Verdict}
use Rattle.nq_model.specs.laws.Bounds.{KeepsBounds}
use Rattle.nq_model.specs.protocol.Client.{Client, Clean, Ticket, clean_at, revision_of}
use Rattle.nq_model.specs.protocol.Kept.{File, find_file, host_row}
use Rattle.nq_model.specs.protocol.Message.{reply}
use Rattle.nq_model.specs.protocol.Server.{to_host}
use Rattle.nq_model.specs.protocol.Skew.{IsWithinSkew}
use Rattle.nq_model.specs.protocol.World.{Head, run}

-- after some schedule within skew a client's push under way was decided and done; its kept value is the revision of the
-- kept file, and its reply can be taken; once it was, the block is clean at that revision, with the value of the last write
pub record IsContentSometime : Type 0 where
  pub most : ℕ
  pub head : Head
  pub events : List Event
  pub host : ℕ
  pub client : Client
  pub ticket : Ticket
  pub seq : ℕ
  pub block : ℕ
  pub number : ℕ
  pub push : PushBase
  pub body : List ℕ
  pub file : File
  pub place : ℕ
  pub after : Client
  pub kept : Clean
  pub bounds : KeepsBounds most head (Event.Deliver place ∷ events)
  pub within : IsWithinSkew head.hosts most (Event.Deliver place ∷ events)
  pub runs : slice_get (run head events).clients host ≡ Some client
  pub has : client.ticket ≡ Some ticket
  pub asks : ticket.request ≡ Write client.who seq file.id block number number (Some push) body
  pub inc : (host_row (run head events).server.kept host).inc ≡ client.who.inc
  pub decided : (host_row (run head events).server.kept host).seq ≡ seq
  pub done : (host_row (run head events).server.kept host).verdict ≡ Verdict.Done
  pub found : find_file file.id (run head events).server.kept.files ≡ Some file
  pub value : (host_row (run head events).server.kept host).value ≡ file.rev
  pub changed : file.rev ≡ 1
  pub told : slice_get (run head events).packets place ≡ Some (to_host host (reply ticket.xid (Reply.Write client.who.inc file.rev)))
  pub hears : slice_get (run head (Event.Deliver place ∷ events)).clients host ≡ Some after
  pub clean : clean_at file.id block after.clean ≡ Some kept
  pub known : revision_of file.id after.revisions ≡ Some (record { file = file.id; rev = file.rev })
  pub of_last : value_of kept.body ≡ value_of body
  pub not_zero : value_of body ≡ 5
