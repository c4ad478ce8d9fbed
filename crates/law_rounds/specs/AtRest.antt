-- A client that is done: its calls are answered, and its writes stored.
use Rattle.std.specs.Prelude.{◌≡◌, true, [], None}
use Rattle.nq_model.specs.protocol.Client.{Client}

-- a client is attached, and no call of it is open
pub record IsAnswered (c : Client) : Type 0 where
  pub attached : c.attached ≡ true
  pub answered : c.call ≡ None

-- a client has no delayed writes, neither in its list nor under way
pub record HasStored (c : Client) : Type 0 where
  pub none_delayed : c.dirty ≡ []
  pub none_under_way : c.push ≡ None
