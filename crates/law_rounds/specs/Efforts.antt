-- What a client may still send: so much for each delayed write, and a price for each request that its call may need.
use Rattle.std.specs.Prelude.{ℕ, ◌+◌, ◌*◌, ◌==◌, ◌&&◌, Bool, true, false, not, Option, Some, None, length, nat_lt}
use Rattle.nq_base.specs.declared.Call.{Call}
use Rattle.nq_base.specs.declared.Grant.{Grant}
use Rattle.nq_base.specs.declared.Request.{Request}
use Rattle.nq_model.specs.protocol.Client.{Client, Job, attaching, for_call, renewing, pushing, Ticket, UnderWay}
use Rattle.nq_model.specs.protocol.Table.{caches, is_writing}

-- the requests of a call that may be sent from now on, where none is under way
abbrev pub write_price : (price : ℕ) (through : Bool) → ℕ
write_price price true = price
write_price price false = price + price

abbrev pub put_price : (price : ℕ) (written : Bool) → ℕ
put_price price true = 0
put_price price false = price

abbrev pub fresh_for : (price : ℕ) → UnderWay → Call → ℕ
fresh_for price u (Call.Write file block body) = write_price price u.through
fresh_for price u (Call.Put file block body) = put_price price u.written
fresh_for price u (Call.Sync file) = 0
fresh_for price u other = price

abbrev pub fresh_left : (price : ℕ) → UnderWay → ℕ
fresh_left price u = fresh_for price u u.call

-- whether a call writes to a file by `write`
abbrev pub writes_to : (file : ℕ) → Call → Bool
writes_to file (Call.Write f block body) = f == file
writes_to file other = false

-- those of a call of which one is under way. A lease that was asked for now lets a write be delayed as soon as it is granted
abbrev pub read_left : (price : ℕ) → UnderWay → Call → ℕ
read_left price u (Call.Read file block) = 0
read_left price u other = fresh_left price u

abbrev pub lease_left : (price : ℕ) → Bool → ℕ
lease_left price true = price
lease_left price false = price + price

abbrev pub sent_left : (price now : ℕ) → UnderWay → (first : ℕ) → Request → ℕ
sent_left price now u first (Request.GetLease who file want) = lease_left price (first == now && writes_to file u.call)
sent_left price now u first (Request.Read who q file block (Some want)) = read_left price u u.call
sent_left price now u first other = 0

abbrev pub job_left : (price now : ℕ) → UnderWay → (first : ℕ) → Request → Job → ℕ
job_left price now u first request for_call = sent_left price now u first request
job_left price now u first request attaching = fresh_left price u
job_left price now u first request renewing = fresh_left price u
job_left price now u first request pushing = fresh_left price u

abbrev pub asked_left : (price now : ℕ) → UnderWay → Option Ticket → ℕ
asked_left price now u None = fresh_left price u
asked_left price now u (Some t) = job_left price now u t.first t.request t.job

abbrev pub call_left : (price now : ℕ) → Option UnderWay → Option Ticket → ℕ
call_left price now None ticket = 0
call_left price now (Some u) ticket = asked_left price now u ticket

-- a client that pauses sends no request of its call
abbrev pub requests_left : (price now : ℕ) (pauses : Bool) → Option UnderWay → Option Ticket → ℕ
requests_left price now true called ticket = 0
requests_left price now false called ticket = call_left price now called ticket

-- whether a call may still delay its write
abbrev pub put_delays : (written : Bool) → ℕ
put_delays true = 0
put_delays false = 1

abbrev pub may_delay : (written : Bool) → Call → ℕ
may_delay written (Call.Write file block body) = 1
may_delay written (Call.Put file block body) = put_delays written
may_delay written other = 0

abbrev pub delays_left : Option UnderWay → ℕ
delays_left None = 0
delays_left (Some u) = may_delay u.written u.call

-- but for the requests of its call: its delayed writes
abbrev pub writes_left : Client → ℕ
writes_left c = 3 * (delays_left c.call + length c.dirty)

abbrev pub calls_left : (price : ℕ) → Client → ℕ
calls_left price c = requests_left price c.now (nat_lt c.now c.pause) c.call c.ticket

abbrev pub effort : (price : ℕ) → Client → ℕ
effort price c = calls_left price c + writes_left c

-- a grant that a call cannot use: it caches, and lets no write be delayed
abbrev pub is_idle : Option Grant → Bool
is_idle None = false
is_idle (Some g) = caches g.mode && not (is_writing g.mode && nat_lt 0 g.term)
