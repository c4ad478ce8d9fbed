-- The next request, walked once: each outcome with what led to it.
use Rattle.std.proofs.Common.{◌≡◌, ◌≤◌, ◌⊎◌, ℕ, Bool, true, false, ◌||◌, List, [], ◌∷◌, Option, Some, None, is_some, map, nat_le, if◌then◌else◌, refl}
use Rattle.std.proofs.Common.{sym, subst, ap, ◌∙◌, nat_lt, ◌==◌, inl, inr}
use Rattle.std.specs.List.{filter}
use Rattle.std.proofs.lemmas.Bool.{and_parts, not-true, or_parts}
use Rattle.nq_base.specs.declared.Call.{Call}
use Rattle.nq_base.specs.declared.Mode.{Mode}
use Rattle.nq_base.specs.declared.Push.{Push}
use Rattle.nq_base.specs.declared.Request.{Request}
use Rattle.nq_model.proofs.ClientLists.{lease-file, first-is-of}
use Rattle.walk_steps.proofs.ClientMoves.{some-same, none-some}
use Rattle.nq_model.specs.protocol.Client.{Client, ClientStep, Job, for_call, renewing, Lease, Notice, Ticket, UnderWay, lease_on, notice_on, is_clean}
use Rattle.nq_model.specs.protocol.Client.{first_dirty, file_of_lease, file_of_notice}
use Rattle.nq_model.specs.protocol.Send.{least_with, sends_request, after_seq, pushes_these, pushes, noticed_file, ending_file, read_want, want_of}
use Rattle.nq_model.specs.protocol.Send.{sends_write, next_write, next_put, gives_up, next_change, asks, next_of_call, next_of_under_way, renews_lease, renews}
use Rattle.nq_model.specs.protocol.Send.{renewed_file, is_to_renew, is_asking, then_renews, then_calls, pushes_due, then_pushes, then_ending, send_next}
use Rattle.nq_model.specs.protocol.Send.{shares_live, least}
use Rattle.walk_steps.proofs.Rows.{choice, number-same}
use Rattle.walk_steps.proofs.Tests.{is-at-most, none-there}

-- neither the file of the first notice nor the first file whose lease is about to end has delayed writes to be pushed
pub record NothingToPush (c : Client) : Type 0 where
  pub noticed : (file : ℕ) → noticed_file c ≡ Some file → first_dirty file c.dirty ≡ None
  pub ending : (file : ℕ) → ending_file c ≡ Some file → first_dirty file c.dirty ≡ None

-- the call under way may send its request: none is under way, nothing is to be pushed first, and the client does not pause
pub record IsFree (t : ClientStep) (u : UnderWay) : Type 0 where
  pub free : t.client.ticket ≡ None
  pub called : t.client.call ≡ Some u
  pub nothing : NothingToPush t.client
  pub unpaused : t.client.pause ≤ t.client.now

-- delayed writes are pushed
abbrev pub pushed : ClientStep → Push → ClientStep
pushed t p = pushes_these t (Some p)

-- the outcomes
pub record SendCases (in_tick : Bool) (t : ClientStep) (Q : ClientStep → Type 0) : Type 0 where
  -- nothing is sent, since a request is under way
  pub stays_asking : (ticket : Ticket) → t.client.ticket ≡ Some ticket → Q t
  -- nothing is sent
  pub stays : t.client.ticket ≡ None → NothingToPush t.client → Q t
  -- the first delayed writes of a file are pushed
  pub pushing : (file : ℕ) (p : Push) → t.client.ticket ≡ None → first_dirty file t.client.dirty ≡ Some p → p.file ≡ file → Q (pushed t p)
  -- the call's request is sent
  pub creating : (u : UnderWay) (name : List ℕ) (blocks : ℕ) → IsFree t u → u.call ≡ Call.Create name blocks
      → Q (sends_request (after_seq t) for_call (Request.Create t.client.who t.client.seq name blocks))
  pub looking_up : (u : UnderWay) (name : List ℕ) → IsFree t u → u.call ≡ Call.Lookup name → Q (sends_request t for_call (Request.Lookup t.client.who name))
  pub getting_attributes : (u : UnderWay) (file : ℕ) → IsFree t u → u.call ≡ Call.Attr file → Q (sends_request t for_call (Request.GetAttr t.client.who file))
  pub reading : (u : UnderWay) (file block : ℕ) → IsFree t u → u.call ≡ Call.Read file block
      → Q (sends_request t for_call (Request.Read t.client.who u.q file block (read_want t.client file)))
  pub fetching : (u : UnderWay) (file block : ℕ) → IsFree t u → u.call ≡ Call.Fetch file block
      → Q (sends_request t for_call (Request.Read t.client.who u.q file block None))
  -- a write goes through, where it is to or where a non-caching lease runs
  pub writing : (u : UnderWay) (file block : ℕ) (body : List ℕ) → IsFree t u → u.call ≡ Call.Write file block body
      → (u.through || shares_live t.client.now (lease_on file t.client.leases)) ≡ true → Q (sends_write t file block body)
  -- else a lease is wanted
  pub leasing : (u : UnderWay) (file block : ℕ) (body : List ℕ) → IsFree t u → u.call ≡ Call.Write file block body → u.through ≡ false
      → shares_live t.client.now (lease_on file t.client.leases) ≡ false
      → Q (sends_request t for_call (Request.GetLease t.client.who file (want_of t.client Mode.Writing)))
  -- a put goes through
  pub putting : (u : UnderWay) (file block : ℕ) (body : List ℕ) → IsFree t u → u.call ≡ Call.Put file block body → u.written ≡ false
      → Q (sends_write t file block body)
  -- a clean file is changed, and its lease is given up before
  pub resizing : (u : UnderWay) (file blocks : ℕ) → IsFree t u → u.call ≡ Call.Resize file blocks → is_clean t.client file ≡ true
      → Q (sends_request (after_seq (gives_up t file)) for_call (Request.Resize t.client.who t.client.seq u.q file blocks))
  pub removing : (u : UnderWay) (file : ℕ) → IsFree t u → u.call ≡ Call.Remove file → is_clean t.client file ≡ true
      → Q (sends_request (after_seq (gives_up t file)) for_call (Request.Remove t.client.who t.client.seq u.q file))
  -- a lease is renewed, in a tick's step: its file is clean, and no notice waits for it
  pub renewing : (file : ℕ) (lease : Lease) → in_tick ≡ true → t.client.ticket ≡ None → NothingToPush t.client → t.client.pause ≤ t.client.now
      → renewed_file t.client ≡ Some file → lease_on file t.client.leases ≡ Some lease → lease.file ≡ file → is_clean t.client file ≡ true
      → notice_on file t.client.notices ≡ None → Q (sends_request t renewing (Request.GetLease t.client.who lease.file (want_of t.client lease.mode)))

-- ---- where a request is under way nothing more is sent

asking-renews : (in_tick : Bool) (t : ClientStep) → is_asking t ≡ true → then_renews in_tick t ≡ t
asking-renews false t e = refl
asking-renews true t e = rw e refl

asking-calls : (t : ClientStep) → is_asking t ≡ true → then_calls t ≡ t
asking-calls t e = rw e refl

asking-pushes : (t : ClientStep) (o : Option ℕ) → is_asking t ≡ true → then_pushes t o ≡ t
asking-pushes t o e = rw e refl

sent-asks : (t : ClientStep) (job : Job) (request : Request) → is_asking (sends_request t job request) ≡ true
unfolding sends_request
sent-asks t job request = refl

-- ---- the least of some files

-- the least of some numbers is one of them, and there is one where there are some
pub least-with-some : (n : ℕ) (o : Option ℕ) → least_with n o ≡ None → ⊥
least-with-some n None h = cc
least-with-some n (Some m) h = cc

pub least-with-one : (n : ℕ) (o : Option ℕ) (k : ℕ) → least_with n o ≡ Some k → (n ≡ k) ⊎ (o ≡ Some k)
least-with-one n None k h = inl (some-same n k h)
least-with-one n (Some m) k h = step (nat_lt m n) h
  where
    step : (b : Bool) → Some (if b then m else n) ≡ Some k → (n ≡ k) ⊎ (Some m ≡ Some k)
    step true e = inr e
    step false e = inl (some-same n k e)

-- a file for which a notice waits has one
pub noticed-one : (notices : List Notice) (file : ℕ) → least (map file_of_notice notices) ≡ Some file → (n : Notice) × (notice_on file notices ≡ Some n)
noticed-one [] file h = none-some file h
noticed-one (n ∷ notices) file h = step (n.file == file) refl (least-with-one n.file (least (map file_of_notice notices)) file h) (noticed-one notices file)
  where
    step : (b : Bool) → (n.file == file) ≡ b → (n.file ≡ file) ⊎ (least (map file_of_notice notices) ≡ Some file)
        → (least (map file_of_notice notices) ≡ Some file → (m : Notice) × (notice_on file notices ≡ Some m))
        → (m : Notice) × ((if b then Some n else notice_on file notices) ≡ Some m)
    step true e which rest = (n, refl)
    step false e (inl same) rest = let is : (n.file == file) ≡ true = number-same n.file file same in absurd (cc)
    step false e (inr less) rest = rest less

pub no-noticed : (notices : List Notice) → least (map file_of_notice notices) ≡ None → (file : ℕ) (n : Notice) → notice_on file notices ≡ Some n → ⊥
no-noticed [] h file n e = none-some n e
no-noticed (m ∷ notices) h file n e = absurd (least-with-some m.file (least (map file_of_notice notices)) h)

-- ---- the lease to renew

-- the least file of the leases that pass a test is the file of one that passes
pub least-passes : (p : Lease → Bool) (leases : List Lease) (file : ℕ) → least (map file_of_lease (filter p leases)) ≡ Some file
    → (l : Lease) × (l.file ≡ file) × (p l ≡ true)
least-passes p [] file h = none-some file h
least-passes p (l ∷ leases) file h = step (p l) refl h (least-passes p leases file)
  where
    step : (b : Bool) → p l ≡ b → least (map file_of_lease (if b then l ∷ filter p leases else filter p leases)) ≡ Some file
        → (least (map file_of_lease (filter p leases)) ≡ Some file → (m : Lease) × (m.file ≡ file) × (p m ≡ true))
        → (m : Lease) × (m.file ≡ file) × (p m ≡ true)
    step true e g rest = which (least-with-one l.file (least (map file_of_lease (filter p leases))) file g)
      where
        which : (l.file ≡ file) ⊎ (least (map file_of_lease (filter p leases)) ≡ Some file) → (m : Lease) × (m.file ≡ file) × (p m ≡ true)
        which (inl same) = (l, same, e)
        which (inr less) = rest less
    step false e g rest = rest g

renewed-facts : (c : Client) (file : ℕ) → renewed_file c ≡ Some file → (is_clean c file ≡ true) × (notice_on file c.notices ≡ None)
renewed-facts c file h =
    let m = least-passes (is_to_renew c) c.leases file h in
    let a = and_parts _ _ m.2 in
    (subst (λ f. is_clean c f ≡ true) m.1 (and_parts _ _ a.0).1, subst (λ f. notice_on f c.notices ≡ None) m.1 (none-there _ (not-true _ a.1)))

-- ---- the walk

module _ (in_tick : Bool) (t : ClientStep) (Q : ClientStep → Type 0) (cases : SendCases in_tick t Q) (free : t.client.ticket ≡ None) where
  -- what was sent stays so
  sent : (s : ClientStep) (job : Job) (request : Request) → Q (sends_request s job request) → Q (then_renews in_tick (sends_request s job request))
  sent s job request q = subst Q (sym (asking-renews in_tick (sends_request s job request) (sent-asks s job request))) q

  these : (R : ClientStep → Type 0) (file : ℕ) (o : Option Push) → first_dirty file t.client.dirty ≡ o
      → ((p : Push) → first_dirty file t.client.dirty ≡ Some p → R (pushed t p)) → (first_dirty file t.client.dirty ≡ None → R t) → R (pushes_these t o)
  these R file None e pushes stays = stays e
  these R file (Some p) e pushes stays = pushes p e

  due : (R : ClientStep → Type 0) (o : Option ℕ) → ((file : ℕ) (p : Push) → o ≡ Some file → first_dirty file t.client.dirty ≡ Some p → R (pushed t p))
      → (((file : ℕ) → o ≡ Some file → first_dirty file t.client.dirty ≡ None) → R t) → R (pushes_due t o)
  due R None pushes stays = stays (λ file e. none-some file e)
  due R (Some file) pushes stays =
      these R file (first_dirty file t.client.dirty) refl (λ p e. pushes file p refl e)
      (λ e. stays (λ g same. subst (λ f. first_dirty f t.client.dirty ≡ None) (some-same file g same) e))

  then-due : (R : ClientStep → Type 0) (o : Option ℕ)
      → ((file : ℕ) (p : Push) → o ≡ Some file → first_dirty file t.client.dirty ≡ Some p → R (pushed t p))
      → (((file : ℕ) → o ≡ Some file → first_dirty file t.client.dirty ≡ None) → R t) → R (then_pushes t o)
  then-due R o pushes stays = choice R (is_asking t) t (pushes_due t o) (λ e. absurd (cc)) (λ e. due R o pushes stays)

  push : (file : ℕ) (p : Push) → first_dirty file t.client.dirty ≡ Some p → Q (pushed t p)
  push file p e = cases.pushing file p free e (first-is-of file t.client.dirty p e)

  push-then : (file : ℕ) (p : Push) → first_dirty file t.client.dirty ≡ Some p → Q (then_renews in_tick (pushed t p))
  push-then file p e = subst Q (sym (asking-renews in_tick (pushed t p) (sent-asks _ _ _))) (push file p e)

  renews-one : NothingToPush t.client → t.client.pause ≤ t.client.now → in_tick ≡ true → (file : ℕ) → renewed_file t.client ≡ Some file
      → (o : Option Lease) → lease_on file t.client.leases ≡ o → Q (renews_lease t o)
  renews-one nothing unpaused ticks file is None e = cases.stays free nothing
  renews-one nothing unpaused ticks file is (Some lease) e =
      let f = renewed-facts t.client file is in
      cases.renewing file lease ticks free nothing unpaused is e (lease-file file t.client.leases lease e) f.0 f.1

  renews-due : NothingToPush t.client → t.client.pause ≤ t.client.now → in_tick ≡ true → (o : Option ℕ) → renewed_file t.client ≡ o → Q (renews t o)
  renews-due nothing unpaused ticks None is = cases.stays free nothing
  renews-due nothing unpaused ticks (Some file) is = renews-one nothing unpaused ticks file is (lease_on file t.client.leases) refl

  then-renewed : NothingToPush t.client → (b : Bool) → in_tick ≡ b → Q (then_renews b t)
  then-renewed nothing false ticks = cases.stays free nothing
  then-renewed nothing true ticks =
      choice
      Q
      (is_asking t)
      t
      (if nat_le t.client.pause t.client.now then renews t (renewed_file t.client) else t)
      (λ e. absurd (cc))
      (λ e.
      choice
      Q
      (nat_le t.client.pause t.client.now)
      (renews t (renewed_file t.client))
      t
      (λ f. renews-due nothing (is-at-most _ _ f) ticks (renewed_file t.client) refl)
      (λ f. cases.stays free nothing))

  -- what stays may be followed by a renewal
  abbrev R : ClientStep → Type 0
  R s = Q (then_renews in_tick s)

  pushes-or : NothingToPush t.client → (file : ℕ) → R (pushes t file)
  pushes-or nothing file = these R file (first_dirty file t.client.dirty) refl (λ p e. push-then file p e) (λ e. then-renewed nothing in_tick refl)

  asked : NothingToPush t.client → (b : Bool) (request : Request) → (b ≡ true → Q (sends_request t for_call request)) → R (asks t b request)
  asked nothing true request goes = sent t for_call request (goes refl)
  asked nothing false request goes = then-renewed nothing in_tick refl

  change : NothingToPush t.client → (b : Bool) (file : ℕ) (request : Request)
      → (b ≡ true → is_clean t.client file ≡ true → Q (sends_request (after_seq (gives_up t file)) for_call request)) → R (next_change t b file request)
  change nothing b file request goes =
      choice
      R
      (is_clean t.client file)
      (if b then sends_request (after_seq (gives_up t file)) for_call request else t)
      (pushes t file)
      (λ clean. choice R b (sends_request (after_seq (gives_up t file)) for_call request) t
      (λ may. sent (after_seq (gives_up t file)) for_call request (goes may clean)) (λ pauses. then-renewed nothing in_tick refl))
      (λ dirty. pushes-or nothing file)

  next-call : (u : UnderWay) → t.client.call ≡ Some u → NothingToPush t.client → (b : Bool) → nat_le t.client.pause t.client.now ≡ b → (op : Call)
      → u.call ≡ op → R (next_of_call t u b op)
  next-call u called nothing b may op is = go op is
    where
      is_free : nat_le t.client.pause t.client.now ≡ true → IsFree t u
      is_free e = record { free = free; called = called; nothing = nothing; unpaused = is-at-most _ _ e }

      goes : b ≡ true → IsFree t u
      goes e = is_free (may ∙ e)

      writes : (file block : ℕ) (body : List ℕ) → u.call ≡ Call.Write file block body → b ≡ true → R (next_write t u file block body)
      writes file block body is e =
          choice
          R
          (u.through || shares_live t.client.now (lease_on file t.client.leases))
          (sends_write t file block body)
          (sends_request t for_call (Request.GetLease t.client.who file (want_of t.client Mode.Writing)))
          (λ through. sent _ _ _ (cases.writing u file block body (goes e) is through))
          (λ wants. let a = or_parts _ _ wants in sent _ _ _ (cases.leasing u file block body (goes e) is a.0 a.1))

      puts : (file block : ℕ) (body : List ℕ) → u.call ≡ Call.Put file block body → (written may_ask : Bool) → u.written ≡ written → b ≡ may_ask
          → R (next_put t written may_ask file block body)
      puts file block body is true may_ask w e = pushes-or nothing file
      puts file block body is false true w e = sent _ _ _ (cases.putting u file block body (goes e) is w)
      puts file block body is false false w e = then-renewed nothing in_tick refl

      go : (op : Call) → u.call ≡ op → R (next_of_call t u b op)
      go (Call.Create name blocks) is =
          choice
          R
          b
          (sends_request (after_seq t) for_call (Request.Create t.client.who t.client.seq name blocks))
          t
          (λ e. sent _ _ _ (cases.creating u name blocks (goes e) is))
          (λ e. then-renewed nothing in_tick refl)
      go (Call.Lookup name) is = asked nothing b _ (λ e. cases.looking_up u name (goes e) is)
      go (Call.Attr file) is = asked nothing b _ (λ e. cases.getting_attributes u file (goes e) is)
      go (Call.Read file block) is = asked nothing b _ (λ e. cases.reading u file block (goes e) is)
      go (Call.Fetch file block) is = asked nothing b _ (λ e. cases.fetching u file block (goes e) is)
      go (Call.Write file block body) is =
          choice R b (next_write t u file block body) t (λ e. writes file block body is e) (λ e. then-renewed nothing in_tick refl)
      go (Call.Put file block body) is = puts file block body is u.written b refl refl
      go (Call.Sync file) is = pushes-or nothing file
      go (Call.Resize file blocks) is = change nothing b file _ (λ e clean. cases.resizing u file blocks (goes e) is clean)
      go (Call.Remove file) is = change nothing b file _ (λ e clean. cases.removing u file (goes e) is clean)

  next-under-way : NothingToPush t.client → (o : Option UnderWay) → t.client.call ≡ o → R (next_of_under_way t (nat_le t.client.pause t.client.now) o)
  next-under-way nothing None is = then-renewed nothing in_tick refl
  next-under-way nothing (Some u) is = next-call u is nothing (nat_le t.client.pause t.client.now) refl u.call refl

  then-called : NothingToPush t.client → R (then_calls t)
  then-called nothing =
      choice
      R
      (is_asking t)
      t
      (next_of_under_way t (nat_le t.client.pause t.client.now) t.client.call)
      (λ e. absurd (cc))
      (λ e. next-under-way nothing t.client.call refl)

  -- what was pushed stays so
  pushed-calls : (p : Push) → Q (pushed t p) → R (then_calls (pushed t p))
  pushed-calls p q = subst R (sym (asking-calls (pushed t p) (sent-asks _ _ _))) (subst Q (sym (asking-renews in_tick (pushed t p) (sent-asks _ _ _))) q)

  pushed-ending : (p : Push) → Q (pushed t p) → R (then_calls (then_ending (pushed t p)))
  pushed-ending p q = subst (λ s. R (then_calls s)) (sym (asking-pushes (pushed t p) (ending_file (pushed t p).client) (sent-asks _ _ _))) (pushed-calls p q)

  free-send : Q (send_next in_tick t)
  free-send =
      then-due
      (λ s. R (then_calls (then_ending s)))
      (noticed_file t.client)
      (λ file p is e. pushed-ending p (push file p e))
      (λ unnoticed.
      then-due
      (λ s. R (then_calls s))
      (ending_file t.client)
      (λ file p is e. pushed-calls p (push file p e))
      (λ unending. then-called (record { noticed = unnoticed; ending = unending })))

asking-send : (in_tick : Bool) (t : ClientStep) → is_asking t ≡ true → send_next in_tick t ≡ t
asking-send in_tick t e =
    ap (λ s. then_renews in_tick (then_calls (then_ending s))) (asking-pushes t (noticed_file t.client) e)
    ∙ ap (λ s. then_renews in_tick (then_calls s)) (asking-pushes t (ending_file t.client) e) ∙ ap (then_renews in_tick) (asking-calls t e)
    ∙ asking-renews in_tick t e

-- what is shown of each outcome holds of the step after the next request was sent
pub send-cases : (in_tick : Bool) (t : ClientStep) (Q : ClientStep → Type 0) → SendCases in_tick t Q → Q (send_next in_tick t)
send-cases in_tick t Q cases = case t.client.ticket refl
  where
    case : (o : Option Ticket) → t.client.ticket ≡ o → Q (send_next in_tick t)
    case (Some ticket) e = subst Q (sym (asking-send in_tick t (ap is_some e))) (cases.stays_asking ticket e)
    case None e = free-send in_tick t Q cases e

-- the small changes of which the outcomes are made, for what they keep whatever led to them
pub record SendMoves (t : ClientStep) (Q : ClientStep → Type 0) : Type 0 where
  pub kept : Q t
  pub pushes : (file : ℕ) (p : Push) → first_dirty file t.client.dirty ≡ Some p → Q (pushed t p)
  pub asks : (job : Job) (request : Request) → Q (sends_request t job request)
  pub decides : (request : Request) → Q (sends_request (after_seq t) for_call request)
  pub writes : (file block : ℕ) (body : List ℕ) → Q (sends_write t file block body)
  pub changes : (file : ℕ) (request : Request) → Q (sends_request (after_seq (gives_up t file)) for_call request)

pub send-moves : (in_tick : Bool) (t : ClientStep) (Q : ClientStep → Type 0) → SendMoves t Q → Q (send_next in_tick t)
send-moves in_tick t Q m = send-cases in_tick t Q (record {
  stays_asking = λ ticket is. m.kept;
  stays = λ free nothing. m.kept;
  pushing = λ file p free first same. m.pushes file p first;
  creating = λ u name blocks free is. m.decides _;
  looking_up = λ u name free is. m.asks for_call _;
  getting_attributes = λ u file free is. m.asks for_call _;
  reading = λ u file block free is. m.asks for_call _;
  fetching = λ u file block free is. m.asks for_call _;
  writing = λ u file block body free is through. m.writes file block body;
  leasing = λ u file block body free is through shares. m.asks for_call _;
  putting = λ u file block body free is written. m.writes file block body;
  resizing = λ u file blocks free is clean. m.changes file _;
  removing = λ u file free is clean. m.changes file _;
  renewing = λ file lease ticks free nothing unpaused due held same clean unnoticed. m.asks renewing _;
})
