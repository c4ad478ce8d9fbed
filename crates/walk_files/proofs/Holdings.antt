-- What holds of a client's delayed writes between the parts of its step, and the small changes that keep it.
use Rattle.std.proofs.Common.{◌≡◌, ◌≢◌, ◌<◌, ◌≤◌, ◌⊎◌, ℕ, ◌==◌, ◌&&◌, Bool, true, false, nat_lt, List, [], ◌∷◌, ◌++◌, Option, Some, None}
use Rattle.std.proofs.Common.{if◌then◌else◌, refl, sym, subst, ap, ◌∙◌, arith, inl, inr}
use Rattle.std.specs.Option.{option_map}
use Rattle.nq_base.specs.declared.Entry.{Entry}
use Rattle.nq_base.specs.declared.Grant.{Grant}
use Rattle.nq_base.specs.declared.Push.{Push}
use Rattle.nq_base.specs.declared.Verdict.{Verdict}
use Rattle.nq_base.specs.declared.Who.{Who}
use Rattle.walk_steps.proofs.ClientFacts.{push_in}
use Rattle.nq_model.proofs.ClientLists.{marked-before, marked-tag, marked-mode, marked-expiry, used-lease-found, lease-before-drop}
use Rattle.nq_model.proofs.ClientLists.{other-lease-dropped, lease-after-put, put-lease-found, other-lease-put, marked-blocks}
use Rattle.walk_steps.proofs.ClientMoves.{none-some}
use Rattle.walk_files.proofs.BoundRows.{IsBound}
use Rattle.walk_files.proofs.Waiting.{IsWaiting}
use Rattle.walk_files.proofs.Cuts.{IsPlain, IsOf, plain-of, IsExcusedIn, excused-more, AreCut, cut-more}
use Rattle.nq_model.specs.protocol.Client.{ClientStep, Lease, Ticket, lease_on, drop_lease, put_lease, used_lease, marked_used, lets_write}
use Rattle.nq_model.specs.protocol.Hear.{granted_lease}
use Rattle.nq_model.specs.laws.Journal.{Each}
use Rattle.nq_model.specs.protocol.Kept.{host_row}
use Rattle.nq_model.specs.protocol.Message.{sequence_of}
use Rattle.nq_model.specs.protocol.Server.{Server}
use Rattle.nq_model.specs.protocol.Table.{is_writing}
use Rattle.walk_steps.proofs.Packets.{In}
use Rattle.walk_steps.proofs.Rows.{same-number}
use Rattle.walk_steps.proofs.LogMoves.{is_timed, timed}
use Rattle.walk_steps.proofs.Tests.{is-other}

-- what of a client's step its delayed writes rest on
pub record View : Type 0 where
  pub ticket : Option Ticket
  pub seq : ℕ
  pub leases : List Lease
  pub dirty : List Push
  pub push : Option Push
  pub number : ℕ
  pub entries : List Entry

abbrev pub view_of : ClientStep → View
view_of t = record {
  ticket = t.client.ticket;
  seq = t.client.seq;
  leases = t.client.leases;
  dirty = t.client.dirty;
  push = t.client.push;
  number = t.client.number;
  entries = t.entries;
}

-- a file is held writing, and bound
pub record IsHeldBound (s : Server) (who : Who) (leases : List Lease) (file : ℕ) : Type 0 where
  pub lease : Lease
  pub held : lease_on file leases ≡ Some lease
  pub writes : is_writing lease.mode ≡ true
  pub bound : IsBound s s.phase who file lease.tag

-- a loss of an incarnation is of writes before its next one, and no loss is of a later incarnation
abbrev pub IsPastLoss : Who → (number : ℕ) → Entry → Type 0
IsPastLoss who number (Entry.L w file block first last) = w.host ≡ who.host → (w.inc < who.inc) ⊎ ((w.inc ≡ who.inc) × (last < number))
IsPastLoss who number other = Unit {0}

-- a request that pushes was decided, and not done: its file is not bound
abbrev pub RefusedUnbound : Server → Who → Option Ticket → List Lease → Type 0
RefusedUnbound s who ticket leases =
    (t : Ticket) (p : Push) (n : ℕ)
    → ticket ≡ Some t
    → push_in t.request ≡ Some p
    → sequence_of t.request ≡ Some n
    → (host_row s.kept who.host).inc ≡ who.inc
    → (host_row s.kept who.host).seq ≡ n
    → ((host_row s.kept who.host).verdict ≡ Verdict.Done → ⊥)
    → IsHeldBound s who leases p.file
    → ⊥

pub record Holding (s : Server) (who : Who) (now : ℕ) (journal : List Entry) (v : View) : Type 0 where
  -- what is held for writing, and runs, is bound
  pub live : (file : ℕ) (l : Lease) → lease_on file v.leases ≡ Some l → lets_write now l ≡ true → IsBound s s.phase who file l.tag
  -- the file of delayed writes is bound, or they are excused
  pub waiting : (p : Push) → IsWaiting v.dirty v.push p → IsHeldBound s who v.leases p.file ⊎ IsExcusedIn (v.entries ++ journal) who p
  pub blocks : (p : Push) (l : Lease) → IsWaiting v.dirty v.push p → lease_on p.file v.leases ≡ Some l → p.block < l.blocks
  pub numbers : (p : Push) → IsWaiting v.dirty v.push p → p.last < v.number
  pub past : (e : Entry) → In (v.entries ++ journal) e → IsPastLoss who v.number e
  pub cut : AreCut (v.entries ++ journal)
  pub untimed : timed v.entries ≡ []
  -- delayed writes and losses are its own
  pub own : Each (IsOf who) v.entries
  -- the kept sequence was drawn
  pub drawn : (host_row s.kept who.host).inc ≡ who.inc → (host_row s.kept who.host).seq < v.seq
  pub refused : RefusedUnbound s who v.ticket v.leases

-- ---- leases

-- a file that is held bound stays so where its lease is marked as used
pub held-used : {s : Server} {who : Who} (f file : ℕ) (leases : List Lease) → IsHeldBound s who leases file → IsHeldBound s who (used_lease f leases) file
held-used {s = s} {who = who} f file leases h = record {
  lease = marked_used f h.lease;
  held = used-lease-found file f leases ∙ ap (λ o. option_map (marked_used f) o) h.held;
  writes = ap is_writing (marked-mode f h.lease) ∙ h.writes;
  bound = subst (λ tag. IsBound s s.phase who file tag) (sym (marked-tag f h.lease)) h.bound;
}

pub used-held : {s : Server} {who : Who} (f file : ℕ) (leases : List Lease) → IsHeldBound s who (used_lease f leases) file → IsHeldBound s who leases file
used-held {s = s} {who = who} f file leases h =
    let m = marked-before file f leases h.lease h.held in
    record {
      lease = m.before;
      held = m.found;
      writes = ap is_writing (sym (marked-mode f m.before)) ∙ ap (λ l. is_writing l.mode) (sym m.same) ∙ h.writes;
      bound = subst (λ tag. IsBound s s.phase who file tag) (ap (λ l. l.tag) m.same ∙ marked-tag f m.before) h.bound;
    }

lets-same : (now : ℕ) (l m : Lease) → l.mode ≡ m.mode → l.expiry ≡ m.expiry → lets_write now l ≡ lets_write now m
lets-same now l m mode expiry = ap (λ k. is_writing k && nat_lt now l.expiry) mode ∙ ap (λ n. is_writing m.mode && nat_lt now n) expiry

module _ (s : Server) (who : Who) (now : ℕ) (journal : List Entry) where
  -- a lease is marked as used
  pub uses : (f : ℕ) (v : View) → Holding s who now journal v → Holding s who now journal (record v { leases = used_lease f v.leases })
  uses f v h = record {
    live = λ file l held lets.
        let m = marked-before file f v.leases l held in
        subst (λ tag. IsBound s s.phase who file tag) (sym (ap (λ z. z.tag) m.same ∙ marked-tag f m.before))
        (h.live file m.before m.found (sym
        (lets-same now l m.before (ap (λ z. z.mode) m.same ∙ marked-mode f m.before) (ap (λ z. z.expiry) m.same ∙ marked-expiry f m.before)) ∙ lets));
    waiting = λ p waits. case p (h.waiting p waits);
    blocks = λ p l waits held.
        let m = marked-before p.file f v.leases l held in
        let below = h.blocks p m.before waits m.found in
        let same : l.blocks ≡ m.before.blocks = ap (λ z. z.blocks) m.same ∙ marked-blocks f m.before in
        omega arith;
    numbers = h.numbers;
    past = h.past;
    cut = h.cut;
    untimed = h.untimed;
    own = h.own;
    drawn = h.drawn;
    refused = λ t p n asks pushes seq inc same not_done held. h.refused t p n asks pushes seq inc same not_done (used-held f p.file v.leases held);
  } where
    case : (p : Push) → IsHeldBound s who v.leases p.file ⊎ IsExcusedIn (v.entries ++ journal) who p
        → IsHeldBound s who (used_lease f v.leases) p.file ⊎ IsExcusedIn (v.entries ++ journal) who p
    case p (inl bound) = inl (held-used f p.file v.leases bound)
    case p (inr excused) = inr excused

  -- the lease of a file without delayed writes is given up
  pub drops : (f : ℕ) (v : View) → ((p : Push) → IsWaiting v.dirty v.push p → p.file ≡ f → ⊥) → Holding s who now journal v
      → Holding s who now journal (record v { leases = drop_lease f v.leases })
  drops f v none h = record {
    live = λ file l held lets. h.live file l (lease-before-drop f file v.leases l held).1 lets;
    waiting = λ p waits. case p (none p waits) (h.waiting p waits);
    blocks = λ p l waits held. h.blocks p l waits (lease-before-drop f p.file v.leases l held).1;
    numbers = h.numbers;
    past = h.past;
    cut = h.cut;
    untimed = h.untimed;
    own = h.own;
    drawn = h.drawn;
    refused =
        λ t p n asks pushes seq inc same not_done held. h.refused t p n asks pushes seq inc same not_done
        (record { lease = held.lease; held = (lease-before-drop f p.file v.leases held.lease held.held).1; writes = held.writes; bound = held.bound });
  } where
    case : (p : Push) → p.file ≢ f → IsHeldBound s who v.leases p.file ⊎ IsExcusedIn (v.entries ++ journal) who p
        → IsHeldBound s who (drop_lease f v.leases) p.file ⊎ IsExcusedIn (v.entries ++ journal) who p
    case p apart (inl bound) =
        inl (record { lease = bound.lease; held = other-lease-dropped f p.file v.leases apart ∙ bound.held; writes = bound.writes; bound = bound.bound })
    case p apart (inr excused) = inr excused

  -- a grant is taken, where none is under way
  pub holds : (file : ℕ) (g : Grant) (sent : ℕ) (v : View) → v.ticket ≡ None
      → (lets_write now (granted_lease file g sent) ≡ true → IsBound s s.phase who file g.tag)
      → ((p : Push) → IsWaiting v.dirty v.push p → p.file ≡ file
      → (p.block < g.blocks) × (IsHeldBound s who v.leases file → (is_writing g.mode ≡ true) × IsBound s s.phase who file g.tag))
      → Holding s who now journal v → Holding s who now journal (record v { leases = put_lease (granted_lease file g sent) v.leases })
  unfolding granted_lease
  holds file g sent v free covered fits h = record {
    live = λ f l held lets. live f l lets (lease-after-put lease f v.leases l held);
    waiting = λ p waits. by p waits (p.file == file) refl (h.waiting p waits);
    blocks = λ p l waits held. below p l waits (lease-after-put lease p.file v.leases l held);
    numbers = h.numbers;
    past = h.past;
    cut = h.cut;
    untimed = h.untimed;
    own = h.own;
    drawn = h.drawn;
    refused = λ t p n asks. none-some t (sym free ∙ asks);
  } where
    lease : Lease
    lease = granted_lease file g sent

    live : (f : ℕ) (l : Lease) → lets_write now l ≡ true → ((f ≡ file) × (l ≡ lease)) ⊎ ((f ≢ file) × (lease_on f v.leases ≡ Some l))
        → IsBound s s.phase who f l.tag
    live f l lets (inl k) =
        subst (λ n. IsBound s s.phase who n l.tag) (sym k.0)
        (subst (λ z. IsBound s s.phase who file z.tag) (sym k.1) (covered (ap (lets_write now) (sym k.1) ∙ lets)))
    live f l lets (inr k) = h.live f l k.1 lets

    bound-after : (p : Push) → IsWaiting v.dirty v.push p → p.file ≡ file → IsHeldBound s who v.leases p.file
        → IsHeldBound s who (put_lease lease v.leases) p.file
    bound-after p waits on bound =
        let k = (fits p waits on).1 (subst (IsHeldBound s who v.leases) on bound) in
        record {
          lease = lease;
          held = put-lease-found lease p.file v.leases on;
          writes = k.0;
          bound = subst (λ n. IsBound s s.phase who n g.tag)
              (sym on) k.1;
        }

    other-after : (p : Push) → p.file ≢ file → IsHeldBound s who v.leases p.file → IsHeldBound s who (put_lease lease v.leases) p.file
    other-after p apart bound =
        record { lease = bound.lease; held = other-lease-put lease p.file v.leases apart ∙ bound.held; writes = bound.writes; bound = bound.bound }

    by : (p : Push) → IsWaiting v.dirty v.push p → (b : Bool) → (p.file == file) ≡ b
        → IsHeldBound s who v.leases p.file ⊎ IsExcusedIn (v.entries ++ journal) who p
        → IsHeldBound s who (put_lease lease v.leases) p.file ⊎ IsExcusedIn (v.entries ++ journal) who p
    by p waits b e (inr excused) = inr excused
    by p waits true e (inl bound) = inl (bound-after p waits (same-number p.file file e) bound)
    by p waits false e (inl bound) = inl (other-after p (is-other p.file file e) bound)

    below : (p : Push) (l : Lease) → IsWaiting v.dirty v.push p
        → ((p.file ≡ file) × (l ≡ lease)) ⊎ ((p.file ≢ file) × (lease_on p.file v.leases ≡ Some l)) → p.block < l.blocks
    below p l waits (inl k) = let small = (fits p waits k.0).0 in let same : l.blocks ≡ g.blocks = ap (λ z. z.blocks) k.1 in omega arith
    below p l waits (inr k) = h.blocks p l waits k.1

  -- fewer delayed writes wait, later numbers are next, and the request under way is spent, sent again, or new
  pub fewer : (v : View) (ticket : Option Ticket) (seq number : ℕ) (dirty : List Push) (push : Option Push)
      → ((p : Push) → IsWaiting dirty push p → IsWaiting v.dirty v.push p)
      → v.number ≤ number → v.seq ≤ seq
      → ((t : Ticket) (n : ℕ) → ticket ≡ Some t → sequence_of t.request ≡ Some n
      → ((host_row s.kept who.host).inc ≡ who.inc → (host_row s.kept who.host).seq < n)
      ⊎ ((u : Ticket) × (v.ticket ≡ Some u) × (u.request ≡ t.request)))
      → Holding s who now journal v → Holding s who now journal (record v { ticket = ticket; seq = seq; number = number; dirty = dirty; push = push })
  fewer v ticket seq number dirty push less later drawn from h = record {
    live = h.live;
    waiting = λ p waits. h.waiting p (less p waits);
    blocks = λ p l waits held. h.blocks p l (less p waits) held;
    numbers = λ p waits. let below = h.numbers p (less p waits) in omega arith;
    past = λ e there. past-later e (h.past e there);
    cut = h.cut;
    untimed = h.untimed;
    own = h.own;
    drawn = λ inc. let below = h.drawn inc in omega arith;
    refused = λ t p n asks pushes sequence inc same not_done held. case t p n pushes sequence inc same not_done held (from t n asks sequence);
  } where
    past-later : (e : Entry) → IsPastLoss who v.number e → IsPastLoss who number e
    past-later (Entry.L w file block first last) k = λ host. step (k host)
      where
        step : (w.inc < who.inc) ⊎ ((w.inc ≡ who.inc) × (last < v.number)) → (w.inc < who.inc) ⊎ ((w.inc ≡ who.inc) × (last < number))
        step (inl before) = inl before
        step (inr own) = let below = own.1 in inr (own.0, omega arith)
    past-later other k = tt

    case : (t : Ticket) (p : Push) (n : ℕ) → push_in t.request ≡ Some p → sequence_of t.request ≡ Some n → (host_row s.kept who.host).inc ≡ who.inc
        → (host_row s.kept who.host).seq ≡ n → ((host_row s.kept who.host).verdict ≡ Verdict.Done → ⊥) → IsHeldBound s who v.leases p.file
        → ((host_row s.kept who.host).inc ≡ who.inc → (host_row s.kept who.host).seq < n)
        ⊎ ((u : Ticket) × (v.ticket ≡ Some u) × (u.request ≡ t.request)) → ⊥
    case t p n pushes sequence inc same not_done held (inl fresh) = let below = fresh inc in absurd (omega arith)
    case t p n pushes sequence inc same not_done held (inr u) =
        h.refused u.0 p n u.1 (ap push_in u.2 ∙ pushes) (ap sequence_of u.2 ∙ sequence) inc same not_done held

  -- a plain entry is made
  pub notes : (v : View) (e : Entry) → IsPlain e → is_timed e ≡ false → Holding s who now journal v
      → Holding s who now journal (record v { entries = e ∷ v.entries })
  notes v e plain quiet h = record {
    live = h.live;
    waiting = λ p waits. case p (h.waiting p waits);
    blocks = h.blocks;
    numbers = h.numbers;
    past = λ x there. past x there;
    cut = cut-more (e ∷ []) (v.entries ++ journal) (plain, tt) h.cut;
    untimed = ap (λ b. if b then e ∷ timed v.entries else timed v.entries) quiet ∙ h.untimed;
    own = (plain-of who e plain, h.own);
    drawn = h.drawn;
    refused = h.refused;
  } where
    case : (p : Push) → IsHeldBound s who v.leases p.file ⊎ IsExcusedIn (v.entries ++ journal) who p
        → IsHeldBound s who v.leases p.file ⊎ IsExcusedIn (e ∷ v.entries ++ journal) who p
    case p (inl bound) = inl bound
    case p (inr excused) = inr (excused-more who p (e ∷ []) (v.entries ++ journal) (plain, tt) excused)

    plain-past : (x : Entry) → IsPlain x → IsPastLoss who v.number x
    plain-past (Entry.L w file block first last) p = absurd p
    plain-past other p = tt

    past : (x : Entry) → (e ≡ x) ⊎ In (v.entries ++ journal) x → IsPastLoss who v.number x
    past x (inl same) = subst (IsPastLoss who v.number) same (plain-past e plain)
    past x (inr there) = h.past x there
