-- A step of the client, as a step of the model.
use Rattle.std.specs.Prelude.{◌≡◌, ◌<◌, ◌≤◌, ◌+◌, ◌^◌, ℕ, Bool, false, List, [], ◌∷◌, ◌++◌, Option, Some, None, if◌then◌else◌}
use Rattle.std.specs.Option.{option_map}
use Rattle.nq_base.specs.Plain.{plain_answer}
use Rattle.nq_base.specs.declared.Request.{Request}
use Rattle.nq_base.specs.declared.Who.{Who}
use Rattle.nq_client.specs.State.{client_of}
use Rattle.nq_client.specs.declared.state.State.{State}
use Rattle.nq_client.specs.declared.step.Step.{Step}
use Rattle.nq_client.specs.declared.step.Vacated.{Vacated}
use Rattle.nq_model.specs.protocol.Client.{ClientStep, Ticket}
use Rattle.nq_model.specs.protocol.Message.{Message, call}

-- the vacated message, if there is one
abbrev pub vacated_message : Who → Option Vacated → List Message
vacated_message who None = []
vacated_message who (Some v) = call v.xid (Request.Vacated who v.vacancy.file v.vacancy.tag) ∷ []

-- the request under way as a message, if it is sent
abbrev pub request_message : Bool → Option Ticket → List Message
request_message asks None = []
request_message asks (Some t) = if asks then call t.xid t.request ∷ [] else []

-- what a step sends
abbrev pub sends_of : Step → List Message
sends_of s = vacated_message s.state.who s.vacated ++ request_message s.asks s.state.asked

-- the step
abbrev pub step_of : Step → ClientStep
step_of s = record {
  client = client_of s.state;
  sends = sends_of s;
  entries = s.entries.items;
  answer = option_map plain_answer s.answer;
  cached = s.cached;
}

-- between steps nothing is given
pub record IsBegun (s : Step) : Type 0 where
  pub vacated : s.vacated ≡ None
  pub silent : s.asks ≡ false
  pub entries : s.entries.items ≡ []
  pub answer : s.answer ≡ None
  pub cached : s.cached ≡ false

-- so many more sequences, numbers of writes and numbers of requests are left
pub record HasNumbers (left : ℕ) (s : State) : Type 0 where
  pub time : s.time < 2 ^ 62
  pub seq : s.seq + left < 2 ^ 64
  pub number : s.number + left < 2 ^ 64
  pub xid : s.xid + left < 2 ^ 32

-- at most so many numbers of each kind were taken
pub record Takes (most : ℕ) (old new : State) : Type 0 where
  pub seq : new.seq ≤ old.seq + most
  pub number : new.number ≤ old.number + most
  pub xid : new.xid ≤ old.xid + most

-- there is room for what a call under way may need: two entries, and a block that becomes dirty
pub record HasRoom (s : Step) : Type 0 where
  pub entries : 2 ≤ s.entries.spare
  pub block : 1 ≤ s.state.dirty.spare
