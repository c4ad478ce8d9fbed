-- What holds of a client's delayed writes between the events of a run.
use Rattle.std.proofs.Common.{◌≡◌, ◌≢◌, ◌<◌, ◌⊎◌, ℕ, true, false, List, [], ◌∷◌, ◌++◌, Some, refl, sym, subst, ap, ◌∙◌, inl, inr}
use Rattle.nq_base.specs.declared.Entry.{Entry}
use Rattle.nq_base.specs.declared.Push.{Push}
use Rattle.nq_base.specs.declared.Who.{Who}
use Rattle.walk_files.proofs.BoundRows.{IsBound}
use Rattle.walk_files.proofs.Cuts.{IsPlain, ArePlain, IsOf, IsExcusedIn, excused-more, excused-past, AreCut}
use Rattle.walk_files.proofs.HoldingSteps.{Between}
use Rattle.walk_files.proofs.Holdings.{IsHeldBound, IsPastLoss, RefusedUnbound}
use Rattle.walk_files.proofs.Waiting.{IsWaiting}
use Rattle.nq_model.specs.protocol.Client.{Client, ClientStep, Lease, begun, lease_on, lets_write}
use Rattle.nq_model.specs.laws.Journal.{IsWithin, Each}
use Rattle.nq_model.specs.protocol.Kept.{host_row}
use Rattle.nq_model.specs.protocol.Server.{Server}
use Rattle.walk_steps.proofs.Packets.{In}

pub record ClientExcused (s : Server) (c : Client) (journal : List Entry) : Type 0 where
  -- the file of delayed writes is bound, or they are excused
  pub waiting : (p : Push) → IsWaiting c.dirty c.push p → IsHeldBound s c.who c.leases p.file ⊎ IsExcusedIn journal c.who p
  -- delayed writes are within the length of their lease, and have earlier numbers than the next one
  pub blocks : (p : Push) (l : Lease) → IsWaiting c.dirty c.push p → lease_on p.file c.leases ≡ Some l → p.block < l.blocks
  pub numbers : (p : Push) → IsWaiting c.dirty c.push p → p.last < c.number
  -- losses are of earlier writes
  pub past : (e : Entry) → In journal e → IsPastLoss c.who c.number e
  -- the file of a push that was decided, and not done, is not bound
  pub refused : RefusedUnbound s c.who c.ticket c.leases

-- before a client's step
pub begun-holding : (s : Server) (c : Client) (journal : List Entry)
    → ((file : ℕ) (l : Lease) → lease_on file c.leases ≡ Some l → lets_write c.now l ≡ true → IsBound s s.phase c.who file l.tag)
    → ((host_row s.kept c.who.host).inc ≡ c.who.inc → (host_row s.kept c.who.host).seq < c.seq) → AreCut journal → ClientExcused s c journal
    → Between s journal (begun c)
begun-holding s c journal live drawn cut h = record {
  live = live;
  waiting = h.waiting;
  blocks = h.blocks;
  numbers = h.numbers;
  past = h.past;
  cut = cut;
  untimed = refl;
  own = tt;
  drawn = drawn;
  refused = h.refused;
}

-- and after it
pub ended-excused : (s : Server) (journal : List Entry) (t : ClientStep) → Between s journal t → ClientExcused s t.client (t.entries ++ journal)
ended-excused s journal t h = record { waiting = h.waiting; blocks = h.blocks; numbers = h.numbers; past = h.past; refused = h.refused }

-- ---- another host's client

of-other : (who other : Who) (file block first last : ℕ) (e : Entry) → other.host ≢ who.host → IsOf who e → IsWithin other file block first last e → ⊥
of-other who other file block first last (Entry.W by f b number value false) apart own within = apart (ap (λ z. z.host) (sym within.0) ∙ ap (λ z. z.host) own)
of-other who other file block first last (Entry.W by f b number value true) apart own within = within
of-other who other file block first last e apart own within = within

past-other : (who other : Who) (number : ℕ) (e : Entry) → other.host ≢ who.host → IsOf who e → IsPastLoss other number e
past-other who other number (Entry.L w file block first last) apart own = λ host. absurd (apart (sym host ∙ ap (λ z. z.host) own))
past-other who other number e apart own = tt

excused-other : (who other : Who) (p : Push) (entries journal : List Entry) → other.host ≢ who.host → Each (IsOf who) entries
    → IsExcusedIn journal other p → IsExcusedIn (entries ++ journal) other p
excused-other who other p [] journal apart own h = h
excused-other who other p (e ∷ entries) journal apart own h =
    excused-past other p e (entries ++ journal) (of-other who other p.file p.block p.first p.last e apart own.0)
    (excused-other who other p entries journal apart own.1 h)

all-past-other : (who other : Who) (number : ℕ) (entries journal : List Entry) → other.host ≢ who.host → Each (IsOf who) entries
    → ((e : Entry) → In journal e → IsPastLoss other number e) → (e : Entry) → In (entries ++ journal) e → IsPastLoss other number e
all-past-other who other number [] journal apart own past e there = past e there
all-past-other who other number (x ∷ entries) journal apart own past e (inl same) =
    subst (IsPastLoss other number) same (past-other who other number x apart own.0)
all-past-other who other number (x ∷ entries) journal apart own past e (inr there) = all-past-other who other number entries journal apart own.1 past e there

pub other-excused : (s : Server) (who : Who) (c : Client) (entries journal : List Entry) → c.who.host ≢ who.host → Each (IsOf who) entries
    → ClientExcused s c journal → ClientExcused s c (entries ++ journal)
other-excused s who c entries journal apart own h = record {
  waiting = λ p waits. case p (h.waiting p waits);
  blocks = h.blocks;
  numbers = h.numbers;
  past = all-past-other who c.who c.number entries journal apart own h.past;
  refused = h.refused;
} where
  case : (p : Push) → IsHeldBound s c.who c.leases p.file ⊎ IsExcusedIn journal c.who p
      → IsHeldBound s c.who c.leases p.file ⊎ IsExcusedIn (entries ++ journal) c.who p
  case p (inl bound) = inl bound
  case p (inr excused) = inr (excused-other who c.who p entries journal apart own excused)

-- ---- a step of the server

plain-past : (who : Who) (number : ℕ) (e : Entry) → IsPlain e → IsPastLoss who number e
plain-past who number (Entry.L w file block first last) plain = absurd plain
plain-past who number e plain = tt

all-past-plain : (who : Who) (number : ℕ) (entries journal : List Entry) → ArePlain entries → ((e : Entry) → In journal e → IsPastLoss who number e)
    → (e : Entry) → In (entries ++ journal) e → IsPastLoss who number e
all-past-plain who number [] journal plain past e there = past e there
all-past-plain who number (x ∷ entries) journal plain past e (inl same) = subst (IsPastLoss who number) same (plain-past who number x plain.0)
all-past-plain who number (x ∷ entries) journal plain past e (inr there) = all-past-plain who number entries journal plain.1 past e there

-- after a step of the server, where what was bound is bound, or excused now
pub server-excused : (s t : Server) (c : Client) (entries journal : List Entry) → ArePlain entries
    → ((p : Push) → IsWaiting c.dirty c.push p → IsHeldBound s c.who c.leases p.file
    → IsHeldBound t c.who c.leases p.file ⊎ IsExcusedIn (entries ++ journal) c.who p) → RefusedUnbound t c.who c.ticket c.leases
    → ClientExcused s c journal → ClientExcused t c (entries ++ journal)
server-excused s t c entries journal plain bound refused h = record {
  waiting = λ p waits. case p waits (h.waiting p waits);
  blocks = h.blocks;
  numbers = h.numbers;
  past = all-past-plain c.who c.number entries journal plain h.past;
  refused = refused;
} where
  case : (p : Push) → IsWaiting c.dirty c.push p → IsHeldBound s c.who c.leases p.file ⊎ IsExcusedIn journal c.who p
      → IsHeldBound t c.who c.leases p.file ⊎ IsExcusedIn (entries ++ journal) c.who p
  case p waits (inl b) = bound p waits b
  case p waits (inr e) = inr (excused-more c.who p entries journal plain e)
