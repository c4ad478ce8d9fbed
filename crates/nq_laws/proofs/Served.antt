-- What a request does at a server that serves: to rows, and what is sent. And what is known of who sent it.
use Rattle.std.proofs.Common.{◌≡◌, ◌≢◌, ◌≤◌, ◌⊎◌, ℕ, true, false, List, [], ◌∷◌, Some, None}
use Rattle.nq_base.specs.declared.Call.{Call}
use Rattle.nq_base.specs.declared.Mode.{Mode}
use Rattle.nq_base.specs.declared.Refusal.{Refusal}
use Rattle.nq_base.specs.declared.Reply.{Reply}
use Rattle.nq_base.specs.declared.Request.{Request}
use Rattle.nq_base.specs.declared.Row.{Row}
use Rattle.nq_base.specs.declared.Tag.{Tag}
use Rattle.nq_base.specs.declared.Want.{Want}
use Rattle.nq_base.specs.declared.Who.{Who}
use Rattle.nq_model.specs.protocol.Client.{Client, UnderWay}
use Rattle.nq_model.specs.protocol.Hear.{is_put_off, wants_of}
use Rattle.nq_model.specs.protocol.Message.{Message, Packet, call, reply}
use Rattle.nq_model.specs.protocol.Server.{to_host}
use Rattle.nq_model.specs.protocol.Table.{caches, greater_mode, find_row}
use Rattle.walk_steps.proofs.Packets.{In}
use Rattle.nq_laws.specs.PutOff.{file_of, access_by}
use Rattle.nq_laws.proofs.Hope.{InWay}

-- a row is the one that was there, but for its mark and times
pub record IsStill (was row : Row) : Type 0 where
  pub who : row.who ≡ was.who
  pub mode : row.mode ≡ was.mode
  pub tag : row.tag ≡ was.tag
  pub evicts : was.evicting ≡ true → row.evicting ≡ true

-- a request wants a lease on a file
pub data IsWant (r : Request) (f : ℕ) (want : Want) : Type 0 where
  by_read : (who : Who) (q block : ℕ) → r ≡ Request.Read who q f block (Some want) → IsWant r f want
  by_lease : (who : Who) → r ≡ Request.GetLease who f want → IsWant r f want

-- where a row comes from
pub data RowFrom (rows : List Row) (b : ℕ) (r : Request) (f h : ℕ) (row : Row) : Type 0 where
  stays : (was : Row) → find_row f h rows ≡ Some was → IsStill was row → RowFrom rows b r f h row
  shares : caches row.mode ≡ false → RowFrom rows b r f h row
  begins : (want : Want) → h ≡ b → IsWant r f want → find_row f h rows ≡ None → row.mode ≡ want.mode → RowFrom rows b r f h row
  renews : (want : Want) (own : Row) → h ≡ b → IsWant r f want → find_row f h rows ≡ Some own → own.evicting ≡ false
      → row.mode ≡ greater_mode own.mode want.mode → RowFrom rows b r f h row

-- a row is in the way no more, or it was there
abbrev pub OnlyStays : (rows after : List Row) → Type 0
OnlyStays rows after = (f h : ℕ) (row : Row) → find_row f h after ≡ Some row → ((was : Row) × (find_row f h rows ≡ Some was) × IsStill was row)
    ⊎ (caches row.mode ≡ false)

-- each row that conflicts is to go, and its holder is told
abbrev pub AreTold : (after : List Row) (sends : List Packet) (b f : ℕ) → Request → Type 0
AreTold after sends b f r = (h : ℕ) (row : Row) → InWay after b f (access_by r) h row → (row.evicting ≡ true) × (n : ℕ)
    × In sends (to_host h (call n (Request.Evicted row.who f row.tag)))

-- what a request of a host comes to: nobody is put off; or the host is, for its own row, or for one of another
pub data Outcome (rows after : List Row) (sends : List Packet) (b : ℕ) (who : Who) (x : ℕ) (r : Request) : Type 0 where
  quiet :
      ((z : Packet) → In sends z → (h n inc : ℕ) (st : Refusal) → z ≡ to_host h (reply n (Reply.Refused inc st)) → is_put_off st ≡ true → ⊥)
      → ((f h : ℕ) (row : Row) → find_row f h after ≡ Some row → RowFrom rows b r f h row)
      → Outcome rows after sends b who x r
  by_own :
      (f n : ℕ) (own : Row)
      → wants_of f r ≡ true
      → find_row f b rows ≡ Some own
      → sends ≡ to_host b (call n (Request.Evicted own.who f own.tag)) ∷ to_host b (reply x (Reply.Refused who.inc Refusal.TryLater)) ∷ []
      → after ≡ rows
      → Outcome rows after sends b who x r
  by_others :
      (f ch : ℕ) (clash : Row)
      → file_of r ≡ Some f
      → InWay rows b f (access_by r) ch clash
      → AreTold after sends b f r
      → OnlyStays rows after
      → Outcome rows after sends b who x r

pub record IsServed (rows after : List Row) (sends : List Packet) (b : ℕ) (who : Who) (x : ℕ) (r : Request) : Type 0 where
  pub outcome : Outcome rows after sends b who x r
  -- all that is sent is for hosts, and replies are for the host that asked
  pub for_hosts : (z : Packet) → In sends z → (h : ℕ) × (m : Message) × (z ≡ to_host h m)
  pub replies : (z : Packet) → In sends z → (h n : ℕ) (a : Reply) → z ≡ to_host h (reply n a) → (h ≡ b) × (n ≡ x)
  -- a row of another host that caches stays
  pub keeps : (f h : ℕ) (row : Row) → h ≢ b → find_row f h rows ≡ Some row → caches row.mode ≡ true → (now : Row) × (find_row f h after ≡ Some now)
      × IsStill row now
  -- a VACATED takes the row of its tag
  pub takes : (f : ℕ) (tag : Tag) (row : Row) → r ≡ Request.Vacated who f tag → find_row f b rows ≡ Some row → row.who ≡ who → row.tag ≡ tag
      → find_row f b after ≡ None

-- what a call may want of a file
pub data Fits (u : UnderWay) (f : ℕ) (want : Want) : Type 0 where
  read_fits : (block : ℕ) → u.call ≡ Call.Read f block → Fits u f want
  write_fits : (block : ℕ) (body : List ℕ) → u.call ≡ Call.Write f block body → want.mode ≡ Mode.Writing → Fits u f want

-- a request that wants a lease is of the open call of a client that does not pause; or it renews a row that stands, and no call is open
pub data Wanting (rows : List Row) (b : ℕ) (c : Client) (f : ℕ) (want : Want) : Type 0 where
  by_call : (u : UnderWay) → c.call ≡ Some u → c.pause ≤ c.now → Fits u f want → Wanting rows b c f want
  by_renewal : c.call ≡ None → (row : Row) → find_row f b rows ≡ Some row → greater_mode row.mode want.mode ≡ row.mode → Wanting rows b c f want
