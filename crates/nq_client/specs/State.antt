-- What a client knows, as the client of the model.
use Rattle.std.specs.Option.{option_map}
use Rattle.nq_base.specs.declared.Call.{Call}
use Rattle.nq_client.specs.declared.state.State.{State}
use Rattle.nq_client.specs.declared.state.UnderWay as calls
use Rattle.nq_model.specs.protocol.Client.{Client, UnderWay}

-- the call under way
abbrev pub under_way : calls.UnderWay → UnderWay
under_way u = record { q = u.q; call = u.call; through = u.through; written = u.written }

-- what is called
abbrev pub call_of : UnderWay → Call
call_of u = u.call

-- the client
abbrev pub client_of : State → Client
client_of s = record {
  who = s.who;
  term = s.term;
  now = s.time;
  attached = s.attached;
  calls = s.calls;
  call = option_map under_way s.call;
  ticket = s.asked;
  pause = s.pause;
  seq = s.seq;
  xid = s.xid;
  number = s.number;
  leases = s.leases.items;
  notices = s.notices.items;
  losses = s.losses.items;
  dirty = s.dirty.dirty;
  push = s.dirty.push;
  clean = s.cache.clean;
  revisions = s.cache.revisions;
}
