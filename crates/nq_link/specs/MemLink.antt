-- A link in memory.
use Rattle.std.specs.Prelude.{ℕ, ◌-◌, ◌||◌, nat_lt, List, [], ◌∷◌, ◌++◌, length, drop, min, map, if◌then◌else◌}
use Rattle.nq_base.specs.declared.Party.{Party}
use Rattle.nq_io.specs.Calls.{CallCounts, is_next_listed, after_call, after_fault}
use Rattle.nq_io.specs.Faults.{count_up}
use Rattle.nq_link.specs.Link.{Letters}
use Rattle.nq_link.specs.declared.link.Came.{Came}
use Rattle.nq_link.specs.declared.link.Sent.{Sent}
use Rattle.nq_link.specs.Packets.{Datagram}

-- whose link it is, what it sent, for how many more datagrams and bytes it has room, what waits, the calls, and how many of them
-- were receives
pub record StoredLink : Type 0 where
  pub me : Party
  pub sent : List Datagram
  pub room : ℕ
  pub room_bytes : ℕ
  pub waiting : Letters
  pub calls : CallCounts
  pub receives : ℕ

-- a datagram that was sent, with its receiver
abbrev pub letter_of : Datagram → Party × List ℕ
letter_of d = (d.to, d.bytes)

-- what was sent over the link, each datagram with its receiver
abbrev pub letters_sent : StoredLink → Letters
letters_sent link = map letter_of link.sent

-- what a send of these bytes answers: it fails where the call is listed and where the datagram does not fit
abbrev pub answer_of : StoredLink → List ℕ → Sent
answer_of link bytes =
    if is_next_listed link.calls || (nat_lt link.room 1 || nat_lt link.room_bytes (length bytes)) then Sent.Failed else Sent.All

-- the link after a send of these bytes with this answer
abbrev pub after_send : StoredLink → Party → List ℕ → Sent → StoredLink
after_send link to bytes Sent.All = record link {
  sent = link.sent ++ record { sender = link.me; to = to; bytes = bytes } ∷ [];
  room = link.room - 1;
  room_bytes = link.room_bytes - length bytes;
  calls = after_call link.calls;
}
after_send link to bytes Sent.Failed = record link { calls = after_fault link.calls }

-- what the first of these datagrams is to a buffer of this length
abbrev pub first_came : Letters → (room : ℕ) → Came
first_came [] room = Came.Nothing
first_came (d ∷ later) room = Came.Datagram (min (length d.1) room) d.0

-- what a receive into a buffer of this length answers: a listed call fails, and any other gives the first that waits
abbrev pub came_of : StoredLink → (room : ℕ) → Came
came_of link room = if is_next_listed link.calls then Came.Failed else first_came link.waiting room

-- the link after a receive that was counted as this call
abbrev pub received : StoredLink → CallCounts → StoredLink
received link calls = record link { calls = calls; receives = count_up link.receives }

-- the link after a receive with this answer
abbrev pub after_receive : StoredLink → Came → StoredLink
after_receive link (Came.Datagram _ _) = received (record link { waiting = drop 1 link.waiting }) (after_call link.calls)
after_receive link Came.Nothing = received link (after_call link.calls)
after_receive link Came.Failed = received link (after_fault link.calls)
