-- There are schedules after which replies tell of a file, and refuse: the laws speak of something.
use Rattle.std.specs.Prelude.{◌≡◌, ℕ, List, [], ◌∷◌, Some, length, slice_get}
use Rattle.nq_base.specs.declared.Entry.TheVariants.{C, A}
use Rattle.nq_base.specs.declared.Event.{Event}
use Rattle.nq_base.specs.declared.Refusal.{Refusal}
use Rattle.nq_base.specs.declared.Reply.{Reply}
use Rattle.nq_base.specs.declared.Said.{Said}
use Rattle.nq_base.specs.declared.Told.{Told}
use Rattle.nq_base.specs.declared.Who.{Who}
use Rattle.nq_model.specs.protocol.Message.{reply}
use Rattle.nq_model.specs.protocol.Profile.{most_files}
use Rattle.nq_model.specs.protocol.Server.{to_host}
use Rattle.nq_model.specs.protocol.Skew.{IsWithinSkew}
use Rattle.nq_model.specs.protocol.World.{Head, run}
use Rattle.nq_model.specs.laws.Bounds.{KeepsBounds}

-- after some schedule a file was made, and was found by its name; its length and revision were told
pub record TellingsAreMet : Type 0 where
  pub head : Head
  pub events : List Event
  pub id : ℕ
  pub made : slice_get (run head events).packets 1 ≡ Some (to_host 0 (reply 1 (Reply.Create 1 id)))
  pub named : slice_get (run head events).packets 3 ≡ Some (to_host 0 (reply 2 (Reply.Lookup 1 id 1)))
  pub measured : slice_get (run head events).packets 5 ≡ Some (to_host 0 (reply 3 (Reply.GetAttr 1 1 0)))

-- after some schedule CREATE was answered that there is no room: there are as many files as can be kept
pub record NoRoomIsMet : Type 0 where
  pub head : Head
  pub events : List Event
  pub files : length head.files ≡ most_files
  pub no_room : slice_get (run head events).packets 1 ≡ Some (to_host 0 (reply 1 (Reply.Refused 1 Refusal.NoSpc)))

-- after some schedule within skew LOOKUP was answered that there is no such name, GETATTR that there is no such file, CREATE that there
-- is one of that name, and CREATE with the length 0 that no file can have it; and the calls were answered so
pub record RefusalsAreMet : Type 0 where
  pub most : ℕ
  pub head : Head
  pub events : List Event
  pub bounds : KeepsBounds most head events
  pub within : IsWithinSkew head.hosts most events
  pub who : Who
  pub name : List ℕ
  pub no_name : slice_get (run head events).packets 1 ≡ Some (to_host 0 (reply 1 (Reply.Refused 1 Refusal.NoEnt)))
  pub no_file : slice_get (run head events).packets 3 ≡ Some (to_host 0 (reply 2 (Reply.Refused 1 Refusal.Stale)))
  pub a_name : slice_get (run head events).packets 7 ≡ Some (to_host 0 (reply 4 (Reply.Refused 1 Refusal.Exist)))
  pub no_length : slice_get (run head events).packets 9 ≡ Some (to_host 0 (reply 5 (Reply.Refused 1 Refusal.Inval)))
  pub answered :
      (run head events).journal
      ≡ A who 5 Said.Range
      ∷ C who 5 (Told.Create name 0)
      ∷ A who 4 Said.Exists
      ∷ C who 4 (Told.Create name 1)
      ∷ A who 3 (Said.OkValue 1)
      ∷ C who 3 (Told.Create name 1)
      ∷ A who 2 Said.Stale
      ∷ C who 2 (Told.Attr 1)
      ∷ A who 1 Said.NoEntry
      ∷ C who 1 (Told.Lookup name)
      ∷ []
