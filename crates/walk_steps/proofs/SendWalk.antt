-- What each small change of a client keeps is kept where the next request is sent.
use Rattle.std.proofs.Common.{◌≡◌, ◌<◌, ◌⊎◌, ℕ, ◌+◌, Bool, true, false, ◌||◌, List, [], ◌∷◌, Option, Some, None, is_some, if◌then◌else◌, refl, sym}
use Rattle.std.proofs.Common.{subst, ap, ◌∙◌, arith, inl, inr}
use Rattle.std.specs.List.{find, list_any}
use Rattle.nq_base.specs.declared.Grant.{Grant}
use Rattle.nq_base.specs.declared.Mode.{Mode}
use Rattle.nq_base.specs.declared.Push.{Push}
use Rattle.nq_base.specs.declared.Request.{Request}
use Rattle.nq_base.specs.declared.Tag.{Tag}
use Rattle.nq_base.specs.declared.Who.{Who}
use Rattle.walk_steps.proofs.ClientCases.{Core, core_of, Closed, Both, CanSend}
use Rattle.walk_steps.proofs.ClientFacts.{Asking, Delaying, AskingOf, DelayingOf, changes_file, fits_job}
use Rattle.nq_model.proofs.ClientLists.{dropped-lease}
use Rattle.walk_steps.proofs.ClientMoves.{some-same, none-some, attached-with-call, IsNext, draws, sends, drops}
use Rattle.walk_steps.proofs.SendCases.{NothingToPush, IsFree, noticed-one, no-noticed, send-cases}
use Rattle.walk_steps.proofs.ClientWrites.{has-writes, pushes as pushes_write, asks as asks_delaying, no-push}
use Rattle.nq_model.specs.protocol.Client.{Client, ClientStep, Job, attaching, for_call, renewing, pushing, Lease, Notice, Ticket, UnderWay, lease_on}
use Rattle.nq_model.specs.protocol.Client.{notice_on, is_push_of, first_dirty, drop_dirty, drop_lease, push_passes}
use Rattle.nq_model.specs.protocol.Hear.{wants_of}
use Rattle.nq_model.specs.protocol.Message.{asker, sequence_of}
use Rattle.nq_model.specs.protocol.Send.{sends_request, after_seq, after_number, base_of, takes_push, pushes_these, noticed_file, read_want, want_of}
use Rattle.nq_model.specs.protocol.Send.{sends_write, gives_up, send_next}
use Rattle.nq_model.proofs.Finding.{number-other}

-- a fact of a flag that is known
pub at-true : (F : Bool → Type 0) (b : Bool) → b ≡ true → F b → F true
at-true F b e h = subst F e h

pub from-true : (F : Bool → Type 0) (b : Bool) → b ≡ true → F true → F b
from-true F b e h = subst F (sym e) h

-- a client with delayed writes is attached
attached-with-writes : {attached : Bool} {ticket : Option Ticket} {notices : List Notice} {dirty : List Push} {push : Option Push}
    → Delaying attached ticket notices dirty push → (file : ℕ) (p : Push) → first_dirty file dirty ≡ Some p → attached ≡ true
attached-with-writes {attached = true} h file p e = refl
attached-with-writes {attached = false} {dirty = dirty} h file p e =
    let gone : first_dirty file dirty ≡ None = ap (first_dirty file) (h.empty refl) in none-some p (sym gone ∙ e)

-- no push is under way where no request is
free-push : (c : Client) → c.ticket ≡ None → DelayingOf c → c.push ≡ None
free-push c free h = no-push c.push h (λ t e. none-some t (sym free ∙ e))

-- a push is sent
sent-push : {Heard : ℕ → Tag → Type 0} {Given : ℕ → Grant → ℕ → Type 0} {P : Core → Type 0} → Closed Heard Given P
    → (t : ClientStep) (file : ℕ) (p : Push) → t.client.ticket ≡ None → first_dirty file t.client.dirty ≡ Some p → Both P t
    → Both P (pushes_these t (Some p))
unfolding sends_request after_seq takes_push
sent-push {P = P} closed t file p free first b = record {
  alone = record {
    asking =
        from-true (λ a. Asking c.who c.now a c.call (Some ticket) (c.xid + 1) (c.seq + 1) c.leases c.notices) c.attached attached
        (sends pushing request (draws c.xid (c.seq + 1) (omega arith) (omega arith)
        (at-true (λ a. Asking c.who c.now a c.call c.ticket c.xid c.seq c.leases c.notices) c.attached attached b.alone.asking)) next);
    delaying =
        from-true (λ a. Delaying a (Some ticket) c.notices (drop_dirty p.file p.block c.dirty) (Some p)) c.attached attached
        (pushes_write ticket p refl refl before);
  };
  core = closed.decides (core_of t) pushing request refl can b.core;
} where
  c : Client
  c = t.client

  request : Request
  request = Request.Write c.who c.seq p.file p.block p.first p.last (Some (base_of c p.file)) p.body

  ticket : Ticket
  ticket = record { xid = c.xid; first = c.now; last = c.now; request = request; job = pushing }

  attached : c.attached ≡ true
  attached = attached-with-writes b.alone.delaying file p first

  drawn : (n : ℕ) → Some c.seq ≡ Some n → n < c.seq + 1
  drawn n e = let same : c.seq ≡ n = some-same c.seq n e in omega arith

  next : IsNext c.who c.call (c.seq + 1) c.leases c.notices pushing request
  next =
      record {
        asks = refl;
        fits = refl;
        drawn = drawn;
        no_attach = λ e. cc;
        called = λ e. absurd (cc);
        unwanted = λ f n e. refl;
        changed = λ f e.
            none-some f e;
      }

  can : CanSend (core_of t) pushing request
  can = record { free = free; attached = attached; asks = refl; fits = refl; no_attach = λ e. cc; unwanted = λ f n e. refl; changed = λ f e. none-some f e }

  before : Delaying true None c.notices c.dirty None
  before =
      at-true (λ a. Delaying a None c.notices c.dirty None) c.attached attached
      (subst (λ o. Delaying c.attached None c.notices c.dirty o) (free-push c free b.alone.delaying)
      (subst (λ o. Delaying c.attached o c.notices c.dirty c.push) free b.alone.delaying))

-- delayed writes where a request is sent that is no push
sent-delaying : (c : Client) (ticket : Ticket) → c.ticket ≡ None → c.attached ≡ true → DelayingOf c → Delaying c.attached (Some ticket) c.notices
    c.dirty c.push
sent-delaying c ticket free attached h =
    subst
    (λ o. Delaying c.attached (Some ticket) c.notices c.dirty o)
    (sym none)
    (from-true (λ a. Delaying a (Some ticket) c.notices c.dirty None) c.attached attached (asks_delaying before))
  where
    none : c.push ≡ None
    none = free-push c free h

    before : Delaying true None c.notices c.dirty None
    before =
        at-true (λ a. Delaying a None c.notices c.dirty None) c.attached attached
        (subst (λ o. Delaying c.attached None c.notices c.dirty o) none (subst (λ o. Delaying c.attached o c.notices c.dirty c.push) free h))

-- a request that is not decided once is sent by the call or for a renewal
pub record IsPlain (t : ClientStep) (job : Job) (request : Request) : Type 0 where
  pub asks : asker request ≡ Some t.client.who
  pub fits : fits_job job request ≡ true
  pub no_attach : job ≡ attaching → ⊥
  pub called : job ≡ for_call → is_some t.client.call ≡ true
  pub changes : changes_file request ≡ None

pub plain-keeps : {Heard : ℕ → Tag → Type 0} {Given : ℕ → Grant → ℕ → Type 0} {P : Core → Type 0} → Closed Heard Given P
    → (t : ClientStep) (job : Job) (request : Request) → t.client.ticket ≡ None
    → ((file : ℕ) (n : Notice) → notice_on file t.client.notices ≡ Some n → wants_of file request ≡ false) → t.client.attached ≡ true
    → sequence_of request ≡ None → IsPlain t job request → Both P t → Both P (sends_request t job request)
unfolding sends_request
plain-keeps {P = P} closed t job request free unwanted attached no_seq plain b = record {
  alone = record {
    asking =
        from-true (λ a. Asking c.who c.now a c.call (Some ticket) (c.xid + 1) c.seq c.leases c.notices) c.attached attached
        (sends job request (at-true (λ a. Asking c.who c.now a c.call c.ticket c.xid c.seq c.leases c.notices) c.attached attached b.alone.asking) next);
    delaying = sent-delaying c ticket free attached b.alone.delaying;
  };
  core = closed.asks (core_of t) job request no_seq can b.core;
} where
  c : Client
  c = t.client

  ticket : Ticket
  ticket = record { xid = c.xid; first = c.now; last = c.now; request = request; job = job }

  next : IsNext c.who c.call c.seq c.leases c.notices job request
  next =
      record {
        asks = plain.asks;
        fits = plain.fits;
        drawn = λ n e. none-some n (sym no_seq ∙ e);
        no_attach = plain.no_attach;
        called = plain.called;
        unwanted = unwanted;
        changed = λ f e. none-some f (sym plain.changes ∙ e);
      }

  can : CanSend (core_of t) job request
  can =
      record {
        free = free;
        attached = attached;
        asks = plain.asks;
        fits = plain.fits;
        no_attach = plain.no_attach;
        unwanted = unwanted;
        changed = λ f e. none-some f (sym plain.changes ∙ e);
      }

-- a request that is decided once is sent by the call
pub record IsDecided (t : ClientStep) (request : Request) : Type 0 where
  pub asks : asker request ≡ Some t.client.who
  pub fits : fits_job for_call request ≡ true
  pub numbered : sequence_of request ≡ Some t.client.seq
  pub wants : (file : ℕ) → wants_of file request ≡ false
  pub changed : (file : ℕ) → changes_file request ≡ Some file → lease_on file t.client.leases ≡ None

decided-next : (t : ClientStep) (request : Request) → is_some t.client.call ≡ true → IsDecided t request
    → IsNext t.client.who t.client.call (t.client.seq + 1) t.client.leases t.client.notices for_call request
decided-next t request called d = record {
  asks = d.asks;
  fits = d.fits;
  drawn = λ n e. let same : t.client.seq ≡ n = some-same t.client.seq n (sym d.numbered ∙ e) in omega arith;
  no_attach = λ e. cc;
  called = λ e. called;
  unwanted = λ f n e. d.wants f;
  changed = d.changed;
}

decided-can : (t : ClientStep) (request : Request) → t.client.ticket ≡ None → t.client.attached ≡ true → IsDecided t request
    → CanSend (core_of t) for_call request
decided-can t request free attached d =
    record { free = free; attached = attached; asks = d.asks; fits = d.fits; no_attach = λ e. cc; unwanted = λ f n e. d.wants f; changed = d.changed }

decided-asking : (t : ClientStep) (request : Request) → t.client.attached ≡ true → is_some t.client.call ≡ true → IsDecided t request
    → AskingOf t.client → Asking t.client.who t.client.now t.client.attached t.client.call
    (Some (record { xid = t.client.xid; first = t.client.now; last = t.client.now; request = request; job = for_call })) (t.client.xid + 1)
    (t.client.seq + 1) t.client.leases t.client.notices
decided-asking t request attached called d h =
    from-true (λ a. Asking c.who c.now a c.call (Some ticket) (c.xid + 1) (c.seq + 1) c.leases c.notices) c.attached attached
    (sends for_call request (draws c.xid (c.seq + 1) (omega arith) (omega arith)
    (at-true (λ a. Asking c.who c.now a c.call c.ticket c.xid c.seq c.leases c.notices) c.attached attached h)) (decided-next t request called d))
  where
    c : Client
    c = t.client

    ticket : Ticket
    ticket = record { xid = c.xid; first = c.now; last = c.now; request = request; job = for_call }

pub decided-keeps : {Heard : ℕ → Tag → Type 0} {Given : ℕ → Grant → ℕ → Type 0} {P : Core → Type 0} → Closed Heard Given P
    → (t : ClientStep) (request : Request) → t.client.ticket ≡ None → t.client.attached ≡ true → is_some t.client.call ≡ true → IsDecided t request
    → Both P t → Both P (sends_request (after_seq t) for_call request)
unfolding sends_request after_seq
decided-keeps closed t request free attached called d b = record {
  alone = record {
    asking = decided-asking t request attached called d b.alone.asking;
    delaying =
        sent-delaying t.client (record { xid = t.client.xid; first = t.client.now; last = t.client.now; request = request; job = for_call }) free
        attached b.alone.delaying;
  };
  core = closed.decides (core_of t) for_call request d.numbered (decided-can t request free attached d) b.core;
}

pub numbered-keeps : {Heard : ℕ → Tag → Type 0} {Given : ℕ → Grant → ℕ → Type 0} {P : Core → Type 0} → Closed Heard Given P
    → (t : ClientStep) (request : Request) → t.client.ticket ≡ None → t.client.attached ≡ true → is_some t.client.call ≡ true → IsDecided t request
    → Both P t → Both P (sends_request (after_number t) for_call request)
unfolding sends_request after_number
numbered-keeps closed t request free attached called d b = record {
  alone = record {
    asking = decided-asking t request attached called d b.alone.asking;
    delaying =
        sent-delaying t.client (record { xid = t.client.xid; first = t.client.now; last = t.client.now; request = request; job = for_call }) free
        attached b.alone.delaying;
  };
  core = closed.decides (core_of t) for_call request d.numbered (decided-can t request free attached d) b.core;
}

-- the lease is given up before a file is changed
gives-up-keeps : {Heard : ℕ → Tag → Type 0} {Given : ℕ → Grant → ℕ → Type 0} {P : Core → Type 0} → Closed Heard Given P → (t : ClientStep) (file : ℕ)
    → Both P t → Both P (gives_up t file)
unfolding gives_up
gives-up-keeps closed t file b =
    record { alone = record { asking = drops file b.alone.asking; delaying = b.alone.delaying }; core = closed.drops (core_of t) file b.core }

gives-up-same : (t : ClientStep) (file : ℕ)
    → ((gives_up t file).client.ticket ≡ t.client.ticket) × ((gives_up t file).client.attached ≡ t.client.attached)
    × ((gives_up t file).client.call ≡ t.client.call) × ((gives_up t file).client.who ≡ t.client.who) × ((gives_up t file).client.seq ≡ t.client.seq)
    × ((gives_up t file).client.leases ≡ drop_lease file t.client.leases)
unfolding gives_up
gives-up-same t file = (refl, refl, refl, refl, refl, refl)

-- a call that changes a file
pub record IsChange (t : ClientStep) (file : ℕ) (request : Request) : Type 0 where
  pub asks : asker request ≡ Some t.client.who
  pub fits : fits_job for_call request ≡ true
  pub numbered : sequence_of request ≡ Some t.client.seq
  pub wants : (f : ℕ) → wants_of f request ≡ false
  pub changes : changes_file request ≡ Some file

change-sent : {Heard : ℕ → Tag → Type 0} {Given : ℕ → Grant → ℕ → Type 0} {P : Core → Type 0} → Closed Heard Given P
    → (t : ClientStep) (file : ℕ) (request : Request) → t.client.ticket ≡ None → t.client.attached ≡ true → is_some t.client.call ≡ true
    → IsChange t file request → Both P t → Both P (sends_request (after_seq (gives_up t file)) for_call request)
change-sent closed t file request free attached called d b =
    decided-keeps closed (gives_up t file) request ((gives-up-same t file).0 ∙ free) ((gives-up-same t file).1 ∙ attached)
    (ap is_some (gives-up-same t file).2 ∙ called) goes (gives-up-keeps closed t file b)
  where
    goes : IsDecided (gives_up t file) request
    goes = record {
      asks = d.asks ∙ ap Some (sym (gives-up-same t file).3);
      fits = d.fits;
      numbered = d.numbered ∙ ap Some (sym (gives-up-same t file).4);
      wants = d.wants;
      changed =
          λ f e. let one : file ≡ f = some-same file f (sym d.changes ∙ e) in
          ap (lease_on f) (gives-up-same t file).5
          ∙ subst (λ g. lease_on g (drop_lease file t.client.leases) ≡ None) one (dropped-lease file t.client.leases);
    }

write-sent : {Heard : ℕ → Tag → Type 0} {Given : ℕ → Grant → ℕ → Type 0} {P : Core → Type 0} → Closed Heard Given P
    → (t : ClientStep) (file block : ℕ) (body : List ℕ) → t.client.ticket ≡ None → t.client.attached ≡ true → is_some t.client.call ≡ true → Both P t
    → Both P (sends_write t file block body)
write-sent closed t file block body free attached called b =
    numbered-keeps closed t (Request.Write t.client.who t.client.seq file block t.client.number t.client.number None body) free attached called
    (record { asks = refl; fits = refl; numbered = refl; wants = λ f. refl; changed = λ f e. none-some f e }) b

-- where a list has one that passes, the first is found
any-found : (p : Push → Bool) (xs : List Push) → list_any p xs ≡ true → (x : Push) × (find p xs ≡ Some x)
any-found p [] h = absurd (cc)
any-found p (y ∷ xs) h = step (p y) h (any-found p xs)
  where
    step : (b : Bool) → (b || list_any p xs) ≡ true → (list_any p xs ≡ true → (x : Push) × (find p xs ≡ Some x))
        → (x : Push) × ((if b then Some y else find p xs) ≡ Some x)
    step true e rest = (y, refl)
    step false e rest = rest e

-- a file for which a notice waits has delayed writes to push, where no request is under way
to-push : (c : Client) (file : ℕ) (n : Notice) → c.ticket ≡ None → notice_on file c.notices ≡ Some n → DelayingOf c
    → (p : Push) × (first_dirty file c.dirty ≡ Some p)
to-push c file n free waits h = case (has-writes file c.dirty c.push (h.noticed file n waits))
  where
    case : (list_any (is_push_of file) c.dirty ≡ true) ⊎ (push_passes (is_push_of file) c.push ≡ true) → (p : Push) × (first_dirty file c.dirty ≡ Some p)
    case (inl some) = any-found (is_push_of file) c.dirty some
    case (inr some) = let none : push_passes (is_push_of file) c.push ≡ false = rw (free-push c free h) refl in absurd (cc)

-- a client with a lease is attached
attached-with-lease : {who : Who} {now xid seq : ℕ} {attached : Bool} {call : Option UnderWay} {ticket : Option Ticket} {leases : List Lease}
    {notices : List Notice} → Asking who now attached call ticket xid seq leases notices → (file : ℕ) (l : Lease) → lease_on file leases ≡ Some l
    → attached ≡ true
attached-with-lease {attached = true} h file l e = refl
attached-with-lease {attached = false} {leases = leases} h file l e =
    let gone : lease_on file leases ≡ None = ap (lease_on file) (h.waiting refl).no_lease in none-some l (sym gone ∙ e)

-- where nothing is to push no notice waits
no-notice : (c : Client) → c.ticket ≡ None → NothingToPush c → DelayingOf c → (file : ℕ) (n : Notice) → notice_on file c.notices ≡ Some n → ⊥
no-notice c free nothing h file n e = case (noticed_file c) refl
  where
    case : (o : Option ℕ) → noticed_file c ≡ o → ⊥
    case None is = no-noticed c.notices is file n e
    case (Some f) is =
        let one = noticed-one c.notices f is in
        let p = to-push c f one.0 free one.1 h in
        none-some p.0 (sym (nothing.noticed f is) ∙ p.1)

-- the next request
pub send-next-keeps : {Heard : ℕ → Tag → Type 0} {Given : ℕ → Grant → ℕ → Type 0} {P : Core → Type 0} → Closed Heard Given P
    → (in_tick : Bool) (t : ClientStep) → Both P t → Both P (send_next in_tick t)
send-next-keeps {P = P} closed in_tick t b = send-cases in_tick t (Both P) (record {
  stays_asking = λ ticket is. b;
  stays = λ free nothing. b;
  pushing = λ file p free first same. sent-push closed t file p free first b;
  creating =
      λ u name blocks f is. decided-keeps closed t (Request.Create t.client.who t.client.seq name blocks) f.free (attached u f) (ap is_some f.called)
      (record { asks = refl; fits = refl; numbered = refl; wants = λ g. refl; changed = λ g e. none-some g e }) b;
  looking_up =
      λ u name f is. asked u f (Request.Lookup t.client.who name) refl
      (record { asks = refl; fits = refl; no_attach = λ e. cc; called = λ e. ap is_some f.called; changes = refl });
  getting_attributes =
      λ u file f is. asked u f (Request.GetAttr t.client.who file) refl
      (record { asks = refl; fits = refl; no_attach = λ e. cc; called = λ e. ap is_some f.called; changes = refl });
  reading =
      λ u file block f is. asked u f (Request.Read t.client.who u.q file block (read_want t.client file)) refl
      (record { asks = refl; fits = refl; no_attach = λ e. cc; called = λ e. ap is_some f.called; changes = refl });
  fetching =
      λ u file block f is. asked u f (Request.Read t.client.who u.q file block None) refl
      (record { asks = refl; fits = refl; no_attach = λ e. cc; called = λ e. ap is_some f.called; changes = refl });
  writing = λ u file block body f is through. write-sent closed t file block body f.free (attached u f) (ap is_some f.called) b;
  leasing =
      λ u file block body f is through shares. asked u f (Request.GetLease t.client.who file (want_of t.client Mode.Writing)) refl
      (record { asks = refl; fits = refl; no_attach = λ e. cc; called = λ e. ap is_some f.called; changes = refl });
  putting = λ u file block body f is written. write-sent closed t file block body f.free (attached u f) (ap is_some f.called) b;
  resizing =
      λ u file blocks f is clean. change-sent closed t file (Request.Resize t.client.who t.client.seq u.q file blocks) f.free (attached u f)
      (ap is_some f.called) (record { asks = refl; fits = refl; numbered = refl; wants = λ g. refl; changes = refl }) b;
  removing =
      λ u file f is clean. change-sent closed t file (Request.Remove t.client.who t.client.seq u.q file) f.free (attached u f) (ap is_some f.called)
      (record { asks = refl; fits = refl; numbered = refl; wants = λ g. refl; changes = refl }) b;
  renewing = λ file l ticks free nothing unpaused due held of_file clean unnoticed.
      plain-keeps closed t renewing (Request.GetLease t.client.who l.file (want_of t.client l.mode)) free
      (λ f n e. number-other l.file f (λ same. none-some n (sym unnoticed ∙ subst (λ g. notice_on g t.client.notices ≡ Some n) (sym same ∙ of_file) e)))
      (attached-with-lease b.alone.asking file l held) refl
      (record { asks = refl; fits = refl; no_attach = λ e. cc; called = λ e. absurd (cc); changes = refl }) b;
}) where
  attached : (u : UnderWay) → IsFree t u → t.client.attached ≡ true
  attached u f = attached-with-call b.alone.asking u f.called

  asked : (u : UnderWay) → IsFree t u → (request : Request) → sequence_of request ≡ None → IsPlain t for_call request
      → Both P (sends_request t for_call request)
  asked u f request no_seq plain =
      plain-keeps closed t for_call request f.free (λ g n e. absurd (no-notice t.client f.free f.nothing b.alone.delaying g n e)) (attached u f) no_seq
      plain b
