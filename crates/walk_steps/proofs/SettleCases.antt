-- What a call under way needs no packet for, walked once: each outcome with what led to it.
use Rattle.std.proofs.Common.{◌≡◌, ◌<◌, ◌≤◌, ◌⊎◌, ℕ, Bool, true, false, ◌&&◌, ◌||◌, ◌==◌, not, List, [], ◌∷◌, ◌++◌, Option, Some, None, is_some}
use Rattle.std.proofs.Common.{nat_le, if◌then◌else◌, refl, sym, subst, ap, ◌∙◌, inl, inr}
use Rattle.std.specs.List.{list_any}
use Rattle.std.proofs.lemmas.Bool.{and_parts, not-true}
use Rattle.nq_base.specs.declared.Answer.{Answer}
use Rattle.nq_base.specs.declared.Call.{Call}
use Rattle.nq_base.specs.declared.Push.{Push}
use Rattle.nq_base.specs.declared.Value.{Value}
use Rattle.nq_model.proofs.ClientLists.{any-written}
use Rattle.walk_steps.proofs.ClientMoves.{some-same, none-some}
use Rattle.nq_model.specs.protocol.Client.{Client, ClientStep, Lease, UnderWay, lease_on, lets_read, lets_write, notice_on, is_clean, is_push_of, is_push_at}
use Rattle.nq_model.specs.protocol.Client.{dirty_at}
use Rattle.nq_model.specs.protocol.Settle.{answers, reads_cached, settle_body, cached_body, settle_read, after_write, delays, marks_written, after_delay}
use Rattle.nq_model.specs.protocol.Settle.{settle_write_in, settle_write, settle_sync, settle_put, settle_call, ticket_is_for_call, settle_under_way, settle}
use Rattle.nq_model.specs.protocol.Settle.{is_full, with_write}
use Rattle.walk_steps.proofs.Rows.{choice, number-same}
use Rattle.walk_steps.proofs.Tests.{is-at-most, is-not-at-most, none-there}

-- a call is under way, and its own request is not
pub record IsSettling (t : ClientStep) (u : UnderWay) : Type 0 where
  pub called : t.client.call ≡ Some u
  pub idle : ticket_is_for_call t.client.ticket ≡ false

-- a call reads a block
abbrev pub IsRead : Call → (file block : ℕ) → Type 0
IsRead op file block = (op ≡ Call.Read file block) ⊎ (op ≡ Call.Fetch file block)

-- a call writes a block, and its write was not delayed yet; `sync` tells a put from a write
abbrev pub IsWrite : UnderWay → (sync : Bool) → (file block : ℕ) → (body : List ℕ) → Type 0
IsWrite u false file block body = u.call ≡ Call.Write file block body
IsWrite u true file block body = (u.call ≡ Call.Put file block body) × (u.written ≡ false)

-- a call waits until a file is clean: a sync, or a put whose write was delayed
pub data IsSync (u : UnderWay) (file : ℕ) : Type 0 where
  of_sync : u.call ≡ Call.Sync file → IsSync u file
  of_put : (block : ℕ) (body : List ℕ) → u.call ≡ Call.Put file block body → u.written ≡ true → IsSync u file

-- a call that always needs a packet
abbrev pub needs_packet : Call → Bool
needs_packet (Call.Create name blocks) = true
needs_packet (Call.Lookup name) = true
needs_packet (Call.Attr file) = true
needs_packet (Call.Resize file blocks) = true
needs_packet (Call.Remove file) = true
needs_packet other = false

-- the lease on a file lets a client read what it has
pub record CanRead (c : Client) (file : ℕ) (lease : Lease) : Type 0 where
  pub held : lease_on file c.leases ≡ Some lease
  pub lets : lets_read c.now lease ≡ true

-- the lease on a file lets a client delay the call's write
pub record CanWrite (c : Client) (u : UnderWay) (file : ℕ) (lease : Lease) : Type 0 where
  pub held : lease_on file c.leases ≡ Some lease
  pub lets : lets_write c.now lease ≡ true
  pub unnoticed : notice_on file c.notices ≡ None
  pub delayed : u.through ≡ false

-- a read waits for a reply: no lease lets it, or the client has no such block
pub data ReadWaits (c : Client) (file block : ℕ) : Type 0 where
  no_lease : ((lease : Lease) → CanRead c file lease → ⊥) → ReadWaits c file block
  no_block : (lease : Lease) → CanRead c file lease → block < lease.blocks → cached_body c file block ≡ None → ReadWaits c file block

-- a write waits for a reply: no lease lets it be delayed
abbrev pub WriteWaits : Client → UnderWay → (file : ℕ) → Type 0
WriteWaits c u file = (lease : Lease) → CanWrite c u file lease → ⊥

-- the outcomes
pub record SettleCases (t : ClientStep) (Q : ClientStep → Type 0) : Type 0 where
  -- no call is under way
  pub idle : t.client.call ≡ None → Q t
  -- the call's own request is under way
  pub asking : (u : UnderWay) → t.client.call ≡ Some u → ticket_is_for_call t.client.ticket ≡ true → Q t
  -- a read past the end of the file
  pub read_out : (u : UnderWay) (file block : ℕ) (lease : Lease) → IsSettling t u → IsRead u.call file block → CanRead t.client file lease
      → lease.blocks ≤ block → Q (answers t u.q Answer.Range None)
  -- a read of what the client has
  pub reading : (u : UnderWay) (file block : ℕ) (lease : Lease) (body : List ℕ) → IsSettling t u → IsRead u.call file block
      → CanRead t.client file lease → block < lease.blocks → cached_body t.client file block ≡ Some body → Q (reads_cached t u file block body)
  -- a read that waits
  pub read_waits : (u : UnderWay) (file block : ℕ) → IsSettling t u → IsRead u.call file block → ReadWaits t.client file block → Q t
  -- a write past the end of the file
  pub write_out : (u : UnderWay) (sync : Bool) (file block : ℕ) (body : List ℕ) (lease : Lease) → IsSettling t u → IsWrite u sync file block body
      → CanWrite t.client u file lease → lease.blocks ≤ block → Q (answers t u.q Answer.Range None)
  -- a write that finds no room
  pub write_full : (u : UnderWay) (sync : Bool) (file block : ℕ) (body : List ℕ) (lease : Lease) → IsSettling t u → IsWrite u sync file block body
      → CanWrite t.client u file lease → block < lease.blocks → is_full t.client file block ≡ true → Q (answers t u.q Answer.DirtyFull None)
  -- a write is delayed, and answered
  pub writing : (u : UnderWay) (file block : ℕ) (body : List ℕ) (lease : Lease) → IsSettling t u → u.call ≡ Call.Write file block body
      → CanWrite t.client u file lease → block < lease.blocks → is_full t.client file block ≡ false
      → Q (answers (delays t file block body) u.q (Answer.Ok Value.Nothing) None)
  -- a put's write is delayed, and the put waits until the file is clean
  pub putting : (u : UnderWay) (file block : ℕ) (body : List ℕ) (lease : Lease) → IsSettling t u → u.call ≡ Call.Put file block body
      → u.written ≡ false → CanWrite t.client u file lease → block < lease.blocks → is_full t.client file block ≡ false
      → Q (marks_written (delays t file block body) u)
  -- a write or a put that waits
  pub write_waits : (u : UnderWay) (sync : Bool) (file block : ℕ) (body : List ℕ) → IsSettling t u → IsWrite u sync file block body
      → WriteWaits t.client u file → Q t
  -- a sync, or a put whose write was delayed, of a clean file
  pub syncing : (u : UnderWay) (file : ℕ) → IsSettling t u → IsSync u file → is_clean t.client file ≡ true → Q (answers t u.q (Answer.Ok Value.Nothing) None)
  -- a sync, or a put whose write was delayed, that waits
  pub sync_waits : (u : UnderWay) (file : ℕ) → IsSettling t u → IsSync u file → is_clean t.client file ≡ false → Q t
  -- any other call
  pub others : (u : UnderWay) → IsSettling t u → needs_packet u.call ≡ true → Q t

-- what a settled step's call waits for, where its own request is not under way
pub record Settled (t : ClientStep) : Type 0 where
  pub reads : (u : UnderWay) (file block : ℕ) → IsSettling t u → IsRead u.call file block → ReadWaits t.client file block
  pub writes : (u : UnderWay) (sync : Bool) (file block : ℕ) (body : List ℕ) → IsSettling t u → IsWrite u sync file block body → WriteWaits t.client u file
  pub syncs : (u : UnderWay) (file : ℕ) → IsSettling t u → IsSync u file → is_clean t.client file ≡ false

-- what is shown of each outcome holds of the settled step
pub settle-cases : (t : ClientStep) (Q : ClientStep → Type 0) → SettleCases t Q → Q (settle t)
settle-cases t Q cases = under-way t.client.call refl
  where
    reads : (u : UnderWay) (file block : ℕ) → IsSettling t u → IsRead u.call file block → (o : Option Lease) → lease_on file t.client.leases ≡ o
        → Q (settle_read t u file block o)
    reads u file block is read None e = cases.read_waits u file block is read (no_lease (λ lease can. none-some lease (sym e ∙ can.held)))
    reads u file block is read (Some lease) e =
        choice
        Q
        (lets_read t.client.now lease)
        (if nat_le lease.blocks block then answers t u.q Answer.Range None else settle_body t u file block (cached_body t.client file block))
        t
        (λ lets. within (record { held = e; lets = lets }))
        (λ refuses. cases.read_waits u file block is read (no_lease (λ other can. refused other can refuses)))
      where
        refused : (other : Lease) → CanRead t.client file other → lets_read t.client.now lease ≡ false → ⊥
        refused other can refuses =
            let one : lease ≡ other = some-same lease other (sym e ∙ can.held) in
            let yes : lets_read t.client.now lease ≡ true = subst (λ l. lets_read t.client.now l ≡ true) (sym one) can.lets in absurd (cc)

        has : CanRead t.client file lease → block < lease.blocks → (o : Option (List ℕ)) → cached_body t.client file block ≡ o
            → Q (settle_body t u file block o)
        has can below None none = cases.read_waits u file block is read (no_block lease can below none)
        has can below (Some body) some = cases.reading u file block lease body is read can below some

        within : CanRead t.client file lease
            → Q (if nat_le lease.blocks block then answers t u.q Answer.Range None else settle_body t u file block (cached_body t.client file block))
        within can =
            choice
            Q
            (nat_le lease.blocks block)
            (answers t u.q Answer.Range None)
            (settle_body t u file block (cached_body t.client file block))
            (λ out. cases.read_out u file block lease is read can (is-at-most _ _ out))
            (λ below. has can (is-not-at-most _ _ below) (cached_body t.client file block) refl)

    delayed : (u : UnderWay) (sync : Bool) (file block : ℕ) (body : List ℕ) (lease : Lease) → IsSettling t u → IsWrite u sync file block body
        → CanWrite t.client u file lease → block < lease.blocks → is_full t.client file block ≡ false → Q (after_delay (delays t file block body) u sync)
    delayed u true file block body lease is write can below room = cases.putting u file block body lease is write.0 write.1 can below room
    delayed u false file block body lease is write can below room = cases.writing u file block body lease is write can below room

    writes : (u : UnderWay) (sync : Bool) (file block : ℕ) (body : List ℕ) → IsSettling t u → IsWrite u sync file block body → (o : Option Lease)
        → lease_on file t.client.leases ≡ o → Q (settle_write t u sync file block body o)
    writes u sync file block body is write None e = cases.write_waits u sync file block body is write (λ lease can. none-some lease (sym e ∙ can.held))
    writes u sync file block body is write (Some lease) e =
        choice
        Q
        (lets_write t.client.now lease && not (is_some (notice_on file t.client.notices)) && not u.through)
        (settle_write_in t u sync file block body lease)
        t
        (λ lets. within (let a = and_parts _ _ lets in let b = and_parts _ _ a.0 in
        record { held = e; lets = b.0; unnoticed = none-there _ (not-true _ b.1); delayed = not-true _ a.1 }))
        (λ refuses. cases.write_waits u sync file block body is write (λ other can. refused other can refuses))
      where
        refused : (other : Lease) → CanWrite t.client u file other
            → (lets_write t.client.now lease && not (is_some (notice_on file t.client.notices)) && not u.through) ≡ false → ⊥
        refused other can refuses =
            let one : lease ≡ other = some-same lease other (sym e ∙ can.held) in
            let lets : lets_write t.client.now lease ≡ true = subst (λ l. lets_write t.client.now l ≡ true) (sym one) can.lets in
            let unnoticed : is_some (notice_on file t.client.notices) ≡ false = ap is_some can.unnoticed in
            let through : u.through ≡ false = can.delayed in
            all (lets_write t.client.now lease) (is_some (notice_on file t.client.notices)) u.through lets unnoticed through refuses
          where
            all : (a b d : Bool) → a ≡ true → b ≡ false → d ≡ false → (a && not b && not d) ≡ false → ⊥
            all true false false x y z w = absurd (cc)
            all true false true x y z w = absurd (cc)
            all true true d x y z w = absurd (cc)
            all false b d x y z w = absurd (cc)

        within : CanWrite t.client u file lease → Q (settle_write_in t u sync file block body lease)
        within can =
            choice
            Q
            (nat_le lease.blocks block)
            (answers t u.q Answer.Range None)
            (if is_full t.client file block then answers t u.q Answer.DirtyFull None else after_delay (delays t file block body) u sync)
            (λ out. cases.write_out u sync file block body lease is write can (is-at-most _ _ out))
            (λ below.
            choice
            Q
            (is_full t.client file block)
            (answers t u.q Answer.DirtyFull None)
            (after_delay (delays t file block body) u sync)
            (λ full. cases.write_full u sync file block body lease is write can (is-not-at-most _ _ below) full)
            (λ room. delayed u sync file block body lease is write can (is-not-at-most _ _ below) room))

    syncs : (u : UnderWay) (file : ℕ) → IsSettling t u → IsSync u file → Q (settle_sync t u file)
    syncs u file is sync =
        choice Q (is_clean t.client file) (answers t u.q (Answer.Ok Value.Nothing) None) t (cases.syncing u file is sync) (cases.sync_waits u file is sync)

    puts : (u : UnderWay) (file block : ℕ) (body : List ℕ) → IsSettling t u → u.call ≡ Call.Put file block body → (written : Bool)
        → u.written ≡ written → Q (settle_put t u written file block body)
    puts u file block body is put true written = syncs u file is (of_put block body put written)
    puts u file block body is put false written = writes u true file block body is (put, written) (lease_on file t.client.leases) refl

    calls : (u : UnderWay) → IsSettling t u → (op : Call) → u.call ≡ op → Q (settle_call t u op)
    calls u is (Call.Create name blocks) e = cases.others u is (ap needs_packet e)
    calls u is (Call.Lookup name) e = cases.others u is (ap needs_packet e)
    calls u is (Call.Attr file) e = cases.others u is (ap needs_packet e)
    calls u is (Call.Read file block) e = reads u file block is (inl e) (lease_on file t.client.leases) refl
    calls u is (Call.Fetch file block) e = reads u file block is (inr e) (lease_on file t.client.leases) refl
    calls u is (Call.Write file block body) e = writes u false file block body is e (lease_on file t.client.leases) refl
    calls u is (Call.Put file block body) e = puts u file block body is e u.written refl
    calls u is (Call.Sync file) e = syncs u file is (of_sync e)
    calls u is (Call.Resize file blocks) e = cases.others u is (ap needs_packet e)
    calls u is (Call.Remove file) e = cases.others u is (ap needs_packet e)

    under-way : (o : Option UnderWay) → t.client.call ≡ o → Q (settle_under_way t o)
    under-way None e = cases.idle e
    under-way (Some u) e =
        choice
        Q
        (ticket_is_for_call t.client.ticket)
        t
        (settle_call t u u.call)
        (cases.asking u e)
        (λ idle. calls u (record { called = e; idle = idle }) u.call refl)

-- what a call is, it is of one file and block
pub same-read : (op : Call) (f b g d : ℕ) → IsRead op f b → IsRead op g d → (f ≡ g) × (b ≡ d)
same-read op f b g d (inl x) (inl y) = let e : Call.Read f b ≡ Call.Read g d = sym x ∙ y in (cc, cc)
same-read op f b g d (inl x) (inr y) = let e : Call.Read f b ≡ Call.Fetch g d = sym x ∙ y in absurd (cc)
same-read op f b g d (inr x) (inl y) = let e : Call.Fetch f b ≡ Call.Read g d = sym x ∙ y in absurd (cc)
same-read op f b g d (inr x) (inr y) = let e : Call.Fetch f b ≡ Call.Fetch g d = sym x ∙ y in (cc, cc)

pub same-write : (u : UnderWay) (s r : Bool) (f b g d : ℕ) (x y : List ℕ) → IsWrite u s f b x → IsWrite u r g d y → (f ≡ g) × (b ≡ d)
same-write u false false f b g d x y k l = let e : Call.Write f b x ≡ Call.Write g d y = sym k ∙ l in (cc, cc)
same-write u false true f b g d x y k l = let e : Call.Write f b x ≡ Call.Put g d y = sym k ∙ l.0 in absurd (cc)
same-write u true false f b g d x y k l = let e : Call.Put f b x ≡ Call.Write g d y = sym k.0 ∙ l in absurd (cc)
same-write u true true f b g d x y k l = let e : Call.Put f b x ≡ Call.Put g d y = sym k.0 ∙ l.0 in (cc, cc)

pub same-sync : (u : UnderWay) (f g : ℕ) → IsSync u f → IsSync u g → f ≡ g
same-sync u f g (of_sync k) (of_sync l) = let e : Call.Sync f ≡ Call.Sync g = sym k ∙ l in cc
same-sync u f g (of_sync k) (of_put d y l w) = let e : Call.Sync f ≡ Call.Put g d y = sym k ∙ l in absurd (cc)
same-sync u f g (of_put b x k v) (of_sync l) = let e : Call.Put f b x ≡ Call.Sync g = sym k ∙ l in absurd (cc)
same-sync u f g (of_put b x k v) (of_put d y l w) = let e : Call.Put f b x ≡ Call.Put g d y = sym k ∙ l in cc

-- and of one kind
pub read-no-write : (u : UnderWay) (s : Bool) (f b g d : ℕ) (y : List ℕ) → IsRead u.call f b → IsWrite u s g d y → ⊥
read-no-write u false f b g d y (inl k) l = let e : Call.Read f b ≡ Call.Write g d y = sym k ∙ l in absurd (cc)
read-no-write u false f b g d y (inr k) l = let e : Call.Fetch f b ≡ Call.Write g d y = sym k ∙ l in absurd (cc)
read-no-write u true f b g d y (inl k) l = let e : Call.Read f b ≡ Call.Put g d y = sym k ∙ l.0 in absurd (cc)
read-no-write u true f b g d y (inr k) l = let e : Call.Fetch f b ≡ Call.Put g d y = sym k ∙ l.0 in absurd (cc)

pub read-no-sync : (u : UnderWay) (f b g : ℕ) → IsRead u.call f b → IsSync u g → ⊥
read-no-sync u f b g (inl k) (of_sync l) = let e : Call.Read f b ≡ Call.Sync g = sym k ∙ l in absurd (cc)
read-no-sync u f b g (inl k) (of_put d y l w) = let e : Call.Read f b ≡ Call.Put g d y = sym k ∙ l in absurd (cc)
read-no-sync u f b g (inr k) (of_sync l) = let e : Call.Fetch f b ≡ Call.Sync g = sym k ∙ l in absurd (cc)
read-no-sync u f b g (inr k) (of_put d y l w) = let e : Call.Fetch f b ≡ Call.Put g d y = sym k ∙ l in absurd (cc)

pub write-no-sync : (u : UnderWay) (s : Bool) (f b g : ℕ) (x : List ℕ) → IsWrite u s f b x → IsSync u g → ⊥
write-no-sync u false f b g x k (of_sync l) = let e : Call.Write f b x ≡ Call.Sync g = sym k ∙ l in absurd (cc)
write-no-sync u false f b g x k (of_put d y l w) = let e : Call.Write f b x ≡ Call.Put g d y = sym k ∙ l in absurd (cc)
write-no-sync u true f b g x k (of_sync l) = let e : Call.Put f b x ≡ Call.Sync g = sym k.0 ∙ l in absurd (cc)
write-no-sync u true f b g x k (of_put d y l w) = let e : true ≡ false = sym w ∙ k.1 in absurd (cc)

pub needs-no-read : (u : UnderWay) (f b : ℕ) → needs_packet u.call ≡ true → IsRead u.call f b → ⊥
needs-no-read u f b n (inl k) = let e : true ≡ false = sym n ∙ ap needs_packet k in absurd (cc)
needs-no-read u f b n (inr k) = let e : true ≡ false = sym n ∙ ap needs_packet k in absurd (cc)

pub needs-no-write : (u : UnderWay) (s : Bool) (f b : ℕ) (x : List ℕ) → needs_packet u.call ≡ true → IsWrite u s f b x → ⊥
needs-no-write u false f b x n k = let e : true ≡ false = sym n ∙ ap needs_packet k in absurd (cc)
needs-no-write u true f b x n k = let e : true ≡ false = sym n ∙ ap needs_packet k.0 in absurd (cc)

pub needs-no-sync : (u : UnderWay) (f : ℕ) → needs_packet u.call ≡ true → IsSync u f → ⊥
needs-no-sync u f n (of_sync k) = let e : true ≡ false = sym n ∙ ap needs_packet k in absurd (cc)
needs-no-sync u f n (of_put b x k v) = let e : true ≡ false = sym n ∙ ap needs_packet k in absurd (cc)

-- the call under way is one
pub one-settling : (t : ClientStep) (u v : UnderWay) → IsSettling t u → IsSettling t v → u ≡ v
one-settling t u v a b = some-same u v (sym a.called ∙ b.called)

-- ---- a settled step

no-call : (t : ClientStep) → t.client.call ≡ None → Settled t
no-call t none = record {
  reads = λ u file block is reads. none-some u (sym none ∙ is.called);
  writes = λ u sync file block body is write. none-some u (sym none ∙ is.called);
  syncs = λ u file is sync. none-some u (sym none ∙ is.called);
}

asks : (t : ClientStep) → ticket_is_for_call t.client.ticket ≡ true → Settled t
asks t own = record {
  reads = λ u file block is reads. let idle = is.idle in absurd (cc);
  writes = λ u sync file block body is write. let idle = is.idle in absurd (cc);
  syncs = λ u file is sync. let idle = is.idle in absurd (cc);
}

answered : (t : ClientStep) (q : ℕ) (answer : Answer) → Settled (answers t q answer None)
unfolding answers
answered t q answer = no-call (answers t q answer None) refl

read-cached : (t : ClientStep) (u : UnderWay) (file block : ℕ) (body : List ℕ) → Settled (reads_cached t u file block body)
unfolding reads_cached answers
read-cached t u file block body = no-call (reads_cached t u file block body) refl

read-waits : (t : ClientStep) (u : UnderWay) (file block : ℕ) → IsSettling t u → IsRead u.call file block → ReadWaits t.client file block → Settled t
read-waits t u file block is read waits = record {
  reads = λ v f b other reads.
      let one = subst (λ w. IsRead w.call f b) (sym (one-settling t u v is other)) reads in
      let same = same-read u.call file block f b read one in
      subst (λ n. ReadWaits t.client n b) same.0 (subst (λ n. ReadWaits t.client file n) same.1 waits);
  writes = λ v s f b x other write. absurd (read-no-write u s file block f b x read (subst (λ w. IsWrite w s f b x)
      (sym (one-settling t u v is other)) write));
  syncs = λ v f other sync. absurd (read-no-sync u file block f read (subst (λ w. IsSync w f) (sym (one-settling t u v is other)) sync));
}

write-waits : (t : ClientStep) (u : UnderWay) (sync : Bool) (file block : ℕ) (body : List ℕ) → IsSettling t u → IsWrite u sync file block body
    → WriteWaits t.client u file → Settled t
write-waits t u sync file block body is write waits = record {
  reads =
      λ v f b other reads. absurd (read-no-write u sync f b file block body (subst (λ w. IsRead w.call f b) (sym (one-settling t u v is other)) reads)
      write);
  writes = λ v s f b x other writes.
      let one = one-settling t u v is other in
      let same = same-write u sync s file block f b body x write (subst (λ w. IsWrite w s f b x) (sym one) writes) in
      subst (λ w. WriteWaits t.client w f) one (subst (λ n. WriteWaits t.client u n) same.0 waits);
  syncs = λ v f other syncs. absurd (write-no-sync u sync file block f body write (subst (λ w. IsSync w f) (sym (one-settling t u v is other)) syncs));
}

sync-waits : (t : ClientStep) (u : UnderWay) (file : ℕ) → IsSettling t u → IsSync u file → is_clean t.client file ≡ false → Settled t
sync-waits t u file is sync dirty = record {
  reads = λ v f b other reads. absurd (read-no-sync u f b file (subst (λ w. IsRead w.call f b) (sym (one-settling t u v is other)) reads) sync);
  writes = λ v s f b x other write. absurd (write-no-sync u s f b file x (subst (λ w. IsWrite w s f b x) (sym (one-settling t u v is other)) write) sync);
  syncs = λ v f other syncs.
      let same = same-sync u file f sync (subst (λ w. IsSync w f) (sym (one-settling t u v is other)) syncs) in
      subst (λ n. is_clean t.client n ≡ false) same dirty;
}

needs-reply : (t : ClientStep) (u : UnderWay) → IsSettling t u → needs_packet u.call ≡ true → Settled t
needs-reply t u is needs = record {
  reads = λ v f b other reads. absurd (needs-no-read u f b needs (subst (λ w. IsRead w.call f b) (sym (one-settling t u v is other)) reads));
  writes = λ v s f b x other write. absurd (needs-no-write u s f b x needs (subst (λ w. IsWrite w s f b x) (sym (one-settling t u v is other)) write));
  syncs = λ v f other sync. absurd (needs-no-sync u f needs (subst (λ w. IsSync w f) (sym (one-settling t u v is other)) sync));
}

-- a file with a delayed write is not clean
found-any-step : (file block : ℕ) (p x : Push) (xs : List Push) (b : Bool) → is_push_at file block x ≡ b
    → (dirty_at file block xs ≡ Some p → list_any (is_push_of file) xs ≡ true) → (if b then Some x else dirty_at file block xs) ≡ Some p
    → (is_push_of file x || list_any (is_push_of file) xs) ≡ true
found-any-step file block p x xs true e rest found = let a = and_parts _ _ e in let of : is_push_of file x ≡ true = a.0 in rw of refl
found-any-step file block p x xs false e rest found = either (is_push_of file x) (list_any (is_push_of file) xs) (rest found)
  where
    either : (a b : Bool) → b ≡ true → (a || b) ≡ true
    either true b h = refl
    either false b h = h

-- a block with delayed writes is of a file that has some
pub found-any : (file block : ℕ) (p : Push) (dirty : List Push) → dirty_at file block dirty ≡ Some p → list_any (is_push_of file) dirty ≡ true
found-any file block p [] found = absurd (cc)
found-any file block p (x ∷ xs) found = found-any-step file block p x xs (is_push_at file block x) refl (found-any file block p xs) found

any-last : (file : ℕ) (y : Push) (xs : List Push) → y.file ≡ file → list_any (is_push_of file) (xs ++ y ∷ []) ≡ true
any-last file y [] e = let is : (y.file == file) ≡ true = number-same y.file file e in rw is refl
any-last file y (x ∷ xs) e = either (is_push_of file x) (list_any (is_push_of file) (xs ++ y ∷ [])) (any-last file y xs e)
  where
    either : (a b : Bool) → b ≡ true → (a || b) ≡ true
    either true b h = refl
    either false b h = h

dirty-any : (file block number : ℕ) (body : List ℕ) (dirty : List Push) (o : Option Push) → dirty_at file block dirty ≡ o
    → list_any (is_push_of file) (with_write file block number body dirty o) ≡ true
dirty-any file block number body dirty None e = any-last file (record { file = file; block = block; first = number; last = number; body = body }) dirty refl
dirty-any file block number body dirty (Some p) e = any-written file file block number body dirty (Some p) (found-any file block p dirty e)

pub delayed-dirty : (t : ClientStep) (file block : ℕ) (body : List ℕ) → is_clean (delays t file block body).client file ≡ false
unfolding after_write
delayed-dirty t file block body =
    let dirty = dirty-any file block t.client.number body t.client.dirty (dirty_at file block t.client.dirty) refl in rw dirty refl

-- a put whose write was delayed waits, since its file is not clean
put-waits : (t : ClientStep) (u : UnderWay) (file block : ℕ) (body : List ℕ) → IsSettling t u → u.call ≡ Call.Put file block body
    → Settled (marks_written (delays t file block body) u)
unfolding marks_written after_write
put-waits t u file block body is put =
    sync-waits (marks_written (delays t file block body) u) (record u { written = true }) file settles (of_put block body put refl)
    (is-dirty ∙ delayed-dirty t file block body)
  where
    settles : IsSettling (marks_written (delays t file block body) u) (record u { written = true })
    settles = record { called = refl; idle = is.idle }

    is-dirty : is_clean (marks_written (delays t file block body) u).client file ≡ is_clean (delays t file block body).client file
    is-dirty = refl

-- a settled step is settled
pub settle-settles : (t : ClientStep) → Settled (settle t)
settle-settles t = settle-cases t Settled (record {
  idle = λ none. no-call t none;
  asking = λ u is own. asks t own;
  read_out = λ u file block lease is read can out. answered t u.q Answer.Range;
  reading = λ u file block lease body is read can below has. read-cached t u file block body;
  read_waits = λ u file block is read waits. read-waits t u file block is read waits;
  write_out = λ u sync file block body lease is write can out. answered t u.q Answer.Range;
  write_full = λ u sync file block body lease is write can below full. answered t u.q Answer.DirtyFull;
  writing = λ u file block body lease is write can below room. answered (delays t file block body) u.q (Answer.Ok Value.Nothing);
  putting = λ u file block body lease is put written can below room. put-waits t u file block body is put;
  write_waits = λ u sync file block body is write waits. write-waits t u sync file block body is write waits;
  syncing = λ u file is sync clean. answered t u.q (Answer.Ok Value.Nothing);
  sync_waits = λ u file is sync dirty. sync-waits t u file is sync dirty;
  others = λ u is needs. needs-reply t u is needs;
})

-- the small changes of which the outcomes are made, for what they keep whatever led to them
pub record SettleMoves (t : ClientStep) (Q : ClientStep → Type 0) : Type 0 where
  pub kept : Q t
  pub answered : (v : ClientStep) (q : ℕ) (answer : Answer) → Q v → Q (answers v q answer None)
  pub read : (u : UnderWay) (file block : ℕ) (body : List ℕ) → Q (reads_cached t u file block body)
  pub delayed : (file block : ℕ) (body : List ℕ) → Q (delays t file block body)
  pub marked : (v : ClientStep) (u : UnderWay) → Q v → Q (marks_written v u)

pub settle-moves : (t : ClientStep) (Q : ClientStep → Type 0) → SettleMoves t Q → Q (settle t)
settle-moves t Q m = settle-cases t Q (record {
  idle = λ none. m.kept;
  asking = λ u is own. m.kept;
  read_out = λ u file block lease is read can out. m.answered t u.q Answer.Range m.kept;
  reading = λ u file block lease body is read can within has. m.read u file block body;
  read_waits = λ u file block is read waits. m.kept;
  write_out = λ u sync file block body lease is write can out. m.answered t u.q Answer.Range m.kept;
  write_full = λ u sync file block body lease is write can within full. m.answered t u.q Answer.DirtyFull m.kept;
  writing = λ u file block body lease is write can within room. m.answered (delays t file block body) u.q (Answer.Ok Value.Nothing)
      (m.delayed file block body);
  putting = λ u file block body lease is write unwritten can within room. m.marked (delays t file block body) u (m.delayed file block body);
  write_waits = λ u sync file block body is write waits. m.kept;
  syncing = λ u file is sync clean. m.answered t u.q (Answer.Ok Value.Nothing) m.kept;
  sync_waits = λ u file is sync dirty. m.kept;
  others = λ u is needs. m.kept;
})
