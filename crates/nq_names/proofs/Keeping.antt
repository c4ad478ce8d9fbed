-- Reading what is kept, call by call.
use Rattle.std.proofs.Common.{◌≡◌, ℕ, Option, refl, ◌∙◌}
use Rattle.nq_model.specs.protocol.Kept.{Kept}
use Rattle.nq_world.specs.Playing.{IsAsBefore, WorldOver}
use Rattle.nq_names.specs.Playing.{NamesOver}
use Rattle.nq_names.specs.Taking.{IsAsBeforeOutside}

-- a keeper was read and did not fail
pub record StillReads {K : Type 0} (content : K → Option Kept) (faults : K → ℕ) (follows : K → K → Type 0) (old new : NamesOver K) : Type 0 where
  pub before : IsAsBeforeOutside old new
  pub tells : content new.inner.server.keeper ≡ content old.inner.server.keeper
  pub count : faults new.inner.server.keeper ≡ faults old.inner.server.keeper
  pub goes : follows old.inner.server.keeper new.inner.server.keeper

as-before : {K : Type 0} (w : WorldOver K) → IsAsBefore w w
as-before w = record {
  server = record { beside = refl; taken = refl };
  clients = refl;
  datagrams = refl;
  entries = refl;
  skew = refl;
  events = refl;
  term = refl;
}

before-on : {K : Type 0} (a b c : WorldOver K) → IsAsBefore a b → IsAsBefore b c → IsAsBefore a c
before-on a b c x y = record {
  server = record { beside = y.server.beside ∙ x.server.beside; taken = y.server.taken ∙ x.server.taken };
  clients = y.clients ∙ x.clients;
  datagrams = y.datagrams ∙ x.datagrams;
  entries = y.entries ∙ x.entries;
  skew = y.skew ∙ x.skew;
  events = y.events ∙ x.events;
  term = y.term ∙ x.term;
}

pub reads-nothing : {K : Type 0} (content : K → Option Kept) (faults : K → ℕ) (follows : K → K → Type 0) (w : NamesOver K) → ((a : K) → follows a a)
    → StillReads content faults follows w w
reads-nothing content faults follows w itself = record {
  before = record { inner = as-before w.inner; around = refl; ran = refl; events = refl };
  tells = refl;
  count = refl;
  goes = itself w.inner.server.keeper;
}

outside-on : {K : Type 0} (a b c : NamesOver K) → IsAsBeforeOutside a b → IsAsBeforeOutside b c → IsAsBeforeOutside a c
outside-on a b c x y = record {
  inner = before-on a.inner b.inner c.inner x.inner y.inner;
  around = y.around ∙ x.around;
  ran = y.ran ∙ x.ran;
  events =
      y.events ∙ x.events;
}

-- what a call that did not fail says
abbrev pub SaysRead : {K : Type 0} → (content : K → Option Kept) → (faults : K → ℕ) → (follows : K → K → Type 0) → (old new : NamesOver K) → Type 0
SaysRead content faults follows old new =
    IsAsBeforeOutside old new
    × ((content new.inner.server.keeper ≡ content old.inner.server.keeper) × (faults new.inner.server.keeper ≡ faults old.inner.server.keeper))
    × follows old.inner.server.keeper new.inner.server.keeper

pub reads-on : {K : Type 0} (content : K → Option Kept) (faults : K → ℕ) (follows : K → K → Type 0) (old mid new : NamesOver K)
    → ((a b c : K) → follows a b → follows b c → follows a c)
    → StillReads content faults follows old mid → SaysRead content faults follows mid new → StillReads content faults follows old new
reads-on content faults follows old mid new on still said = record {
  before = outside-on old mid new still.before said.0;
  tells = said.1.0 ∙ still.tells;
  count = said.1.1 ∙ still.count;
  goes = on _ _ _ still.goes said.2;
}
