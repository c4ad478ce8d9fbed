-- What a step of the client does to what it is lent.
use Rattle.std.specs.Prelude.{◌≡◌, ◌+◌, Option, Some, None}
use Rattle.nq_base.specs.Plain.{plain_answer}
use Rattle.nq_base.specs.declared.Answer.{Answer}
use Rattle.nq_client.specs.Counted.{Counted}
use Rattle.nq_client.specs.Finishing.{Grows}
use Rattle.nq_client.specs.declared.reaction.Reaction.{Reaction}
use Rattle.nq_base.specs.Entries.{EntryList}
use Rattle.nq_model.specs.protocol.Client.{ClientStep}
use Rattle.nq_wire.specs.Outbox.{Datagrams}

-- a client, an outbox and a journal are those after a step, which was counted
pub record Gives (t : ClientStep) (old new : Counted) (out outs : Datagrams) (log logs : EntryList) : Type 0 where
  pub client : new.client ≡ t.client
  pub taken : new.taken ≡ old.taken + 1
  pub grows : Grows t out outs log logs

-- a client, an outbox and a journal are as before
pub record Stays (old new : Counted) (out outs : Datagrams) (log logs : EntryList) : Type 0 where
  pub client : new ≡ old
  pub first : outs.first ≡ out.first
  pub datagrams : outs.datagrams ≡ out.datagrams
  pub entries : logs.entries ≡ log.entries

-- the answer of a call, which comes later where its step gave none
abbrev pub or_pending : Option Answer → Answer
or_pending None = Answer.Pending
or_pending (Some a) = a

-- what comes of a call: nothing where memory is wanting or all was taken in, else the step and its answer
abbrev pub Called : Answer → ClientStep → (old new : Counted) (out outs : Datagrams) (log logs : EntryList) → Type 0
Called Answer.Memory t old new out outs log logs = Stays old new out outs log logs
Called Answer.Spent t old new out outs log logs = Stays old new out outs log logs
Called answer t old new out outs log logs =
    Gives t old new out outs log logs × (plain_answer answer ≡ or_pending t.answer)

-- what is told of a step's answer
abbrev pub IsHeard : Reaction → Option Answer → Type 0
IsHeard Reaction.Nothing answer = answer ≡ None
IsHeard (Reaction.Answered a) answer = answer ≡ Some (plain_answer a)
IsHeard other answer = ⊥

-- what comes of a tick, or of a datagram that counts: likewise, and the answer to the call under way if the step gave it
abbrev pub Heeded : Reaction → ClientStep → (old new : Counted) (out outs : Datagrams) (log logs : EntryList) → Type 0
Heeded Reaction.Memory t old new out outs log logs = Stays old new out outs log logs
Heeded Reaction.Spent t old new out outs log logs = Stays old new out outs log logs
Heeded heard t old new out outs log logs =
    Gives t old new out outs log logs × IsHeard heard t.answer

-- a client counted what it took in; the outbox and the journal are as before
pub record Counts (old new : Counted) (out outs : Datagrams) (log logs : EntryList) : Type 0 where
  pub client : new.client ≡ old.client
  pub taken : new.taken ≡ old.taken + 1
  pub first : outs.first ≡ out.first
  pub datagrams : outs.datagrams ≡ out.datagrams
  pub entries : logs.entries ≡ log.entries

-- what comes of a datagram that makes no step: it is counted, unless all was taken in
abbrev pub Ignores : Reaction → (old new : Counted) (out outs : Datagrams) (log logs : EntryList) → Type 0
Ignores Reaction.Ignored old new out outs log logs = Counts old new out outs log logs
Ignores Reaction.Spent old new out outs log logs = Stays old new out outs log logs
Ignores other old new out outs log logs = ⊥

-- what comes of a datagram, by the step that it makes, if it makes one
abbrev pub Received : Reaction → Option ClientStep → (old new : Counted) (out outs : Datagrams) (log logs : EntryList) → Type 0
Received heard None old new out outs log logs = Ignores heard old new out outs log logs
Received heard (Some t) old new out outs log logs = Heeded heard t old new out outs log logs
