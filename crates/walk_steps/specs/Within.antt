-- The numbers of a run stay within their bounds.
use Rattle.std.specs.List.{AllByRecursion, sum_by}
use Rattle.std.specs.Prelude.{◌≡◌, ◌≤◌, ℕ, ◌+◌, false, List, [], ◌∷◌, Some, All, length, slice_get}
use Rattle.nq_base.specs.Name.{AreDistinct, IsName}
use Rattle.nq_base.specs.declared.Event.{Event}
use Rattle.nq_base.specs.declared.Party.{Party}
use Rattle.nq_base.specs.declared.Request.{Request}
use Rattle.nq_base.specs.declared.Who.{Who}
use Rattle.nq_model.specs.protocol.Change.{IsWithinBounds}
use Rattle.nq_model.specs.protocol.Decided.{HasText}
use Rattle.nq_model.specs.protocol.Kept.{File, Kept, host_row}
use Rattle.nq_model.specs.protocol.Message.{Message, Packet, call, request, datagram_of, asker}
use Rattle.nq_model.specs.protocol.Profile.{shortest_term, longest_term, most_hosts, most_files, most_blocks, most_blocks_of_file}
use Rattle.nq_model.specs.protocol.Server.{Server}
use Rattle.nq_model.specs.protocol.Stepped.{most_events, most_sent}
use Rattle.nq_model.specs.protocol.World.{Head, World, run}
use Rattle.nq_model.specs.laws.RepliesAreOwed.{is_out_of_bounds}

-- if a message is a request, its name is a name, and its body a block of bytes
abbrev pub CarriesText : Message → Type 0
CarriesText (call xid r) = HasText r
CarriesText other = Unit {0}

-- a packet that is delivered carries such a message, and a boot has a longest term that there can be
abbrev pub IsGiven : World → Event → Type 0
IsGiven w (Event.Deliver k) = (p : Packet) → slice_get w.packets k ≡ Some p → CarriesText p.message
IsGiven w (Event.Crash longest) = (shortest_term ≤ longest) × (longest ≤ longest_term)
IsGiven w other = Unit {0}

-- no revision is above this number
abbrev pub RevisionsUpTo : ℕ → List File → Type 0
RevisionsUpTo most files = All (λ f. f.rev ≤ most) files

-- after so many events no revision, boot or id has grown faster than the events
pub record GrewTo (events : ℕ) (kept : Kept) : Type 0 where
  pub revisions : RevisionsUpTo events kept.files
  pub boots : kept.boot ≤ events + 1
  pub ids : kept.next ≤ events + most_files + 1

-- a server after so many events: what is kept is within its bounds
pub record IsServerAfter (events : ℕ) (s : Server) : Type 0 where
  pub within : IsWithinBounds s.kept
  pub grew : GrewTo events s.kept
  pub long : shortest_term ≤ s.longest
  pub short : s.longest ≤ longest_term

-- a file that there may be from the start: its name, and 1 to 1024 blocks
abbrev pub IsFirstFile : List ℕ × ℕ → Type 0
IsFirstFile f = IsName f.0 × (1 ≤ f.1) × (f.1 ≤ most_blocks_of_file)

-- a head whose numbers are within their bounds
pub record IsHeadWithin (head : Head) : Type 0 where
  pub hosts : head.hosts ≤ most_hosts
  pub long : shortest_term ≤ head.longest
  pub short : head.longest ≤ longest_term
  pub files : AllByRecursion IsFirstFile head.files
  pub few_files : length head.files ≤ most_files
  pub few_blocks : sum_by (λ f. f.1) head.files ≤ most_blocks
  pub distinct : AreDistinct head.files

-- before each event of a schedule there were at most so many packets, and what it brings is given so; the newest event is
-- told first
abbrev pub AreGiven : Head → List Event → Type 0
AreGiven head [] = Unit {0}
AreGiven head (event ∷ earlier) =
    (length (run head earlier).packets ≤ most_sent) × IsGiven (run head earlier) event × AreGiven head earlier

-- in every run of so few events the server's numbers are within their bounds
abbrev pub NumbersStayWithin : Type 0
NumbersStayWithin =
    (head : Head) (events : List Event)
    → IsHeadWithin head
    → AreGiven head events
    → length events ≤ most_events
    → IsServerAfter (length events) (run head events).server

-- in every run of so few events, no request that was sent to the server goes out of bounds: it drops none for its numbers
abbrev pub NoneGoesOut : Type 0
NoneGoesOut =
    (head : Head) (events : List Event)
    → IsHeadWithin head
    → AreGiven head events
    → length events ≤ most_events
    → length (run head events).packets ≤ most_sent
    → (k : ℕ) (p : Packet) (xid : ℕ) (r : Request) (who : Who)
    → slice_get (run head events).packets k ≡ Some p
    → p.to ≡ Party.Server
    → datagram_of p.message ≡ request xid r
    → asker r ≡ Some who
    → is_out_of_bounds (run head events).server who r (host_row (run head events).server.kept who.host) ≡ false

-- that these laws speak of something: there is a schedule that is given so, after which a file was made
pub record NumbersAreMet : Type 0 where
  pub head : Head
  pub events : List Event
  pub within : IsHeadWithin head
  pub given : AreGiven head events
  pub few : length events ≤ most_events
  pub made : (run head events).server.kept.next ≡ (run head []).server.kept.next + 1
