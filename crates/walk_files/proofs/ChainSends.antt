-- What is known of chained leases is kept where a client settles its call and sends its next request.
use Rattle.std.proofs.Common.{◌≡◌, ◌<◌, ℕ, ◌+◌, Bool, true, false, not, ◌||◌, ◌&&◌, ◌==◌, List, [], ◌∷◌, Option, Some, None, nat_le, nat_lt, map}
use Rattle.std.proofs.Common.{if◌then◌else◌, refl, sym, subst, ap, ◌∙◌, arith}
use Rattle.std.proofs.lemmas.Bool.Decides.{nat_tests}
use Rattle.std.specs.List.{filter, list_any}
use Rattle.std.proofs.lemmas.Bool.{and_parts, not-true}
use Rattle.nq_base.specs.declared.Answer.{Answer}
use Rattle.nq_base.specs.declared.Call.{Call}
use Rattle.nq_base.specs.declared.Mode.{Mode}
use Rattle.nq_base.specs.declared.Mode.TheVariants.{NonCaching, Reading, Writing}
use Rattle.nq_base.specs.declared.Push.{Push}
use Rattle.nq_base.specs.declared.PushBase.{PushBase}
use Rattle.nq_base.specs.declared.Request.{Request}
use Rattle.nq_base.specs.declared.Want.{Want}
use Rattle.nq_base.specs.declared.Who.{Who}
use Rattle.walk_files.proofs.ChainFacts.{line_for, rev_at, file_written, IsPushed}
use Rattle.walk_files.proofs.ChainHears.{mid-delays}
use Rattle.walk_files.proofs.ChainLists.{any-found, none-found, unclean-pushed, fresh-undone, plain-undone}
use Rattle.walk_files.proofs.ChainMoves.{View, Mid, mid-uses, mid-drops, mid-calls, CanAsk, mid-sends}
use Rattle.walk_steps.proofs.SendCases.{NothingToPush, IsFree, least-passes, send-cases, pushed, noticed-one, no-noticed, least-with-some}
use Rattle.walk_steps.proofs.SettleCases.{IsSettling, IsWrite, CanWrite, Settled, settle-cases, settle-settles}
use Rattle.walk_steps.proofs.ClientFacts.{DelayingOf, push_in}
use Rattle.walk_steps.proofs.ClientMoves.{some-same, none-some}
use Rattle.walk_steps.proofs.ClientWrites.{writes-in-list, no-push}
use Rattle.nq_model.specs.protocol.Client.{Client, ClientStep, Job, for_call, renewing, pushing, Lease, Notice, Ticket, UnderWay, lease_on, notice_on}
use Rattle.nq_model.specs.protocol.Client.{is_clean, is_push_of, first_dirty, drop_dirty, is_live, is_clean_in, file_of_lease}
use Rattle.nq_model.specs.laws.LeaseInterval.{requested_file}
use Rattle.nq_model.specs.protocol.Message.{Packet, sequence_of}
use Rattle.nq_model.specs.protocol.Profile.{renewal}
use Rattle.nq_model.specs.protocol.Send.{boot_of, sends_request, after_seq, after_number, base_of, takes_push, noticed_file, ending_file, is_to_push, least}
use Rattle.nq_model.specs.protocol.Send.{sends_write, gives_up, want_of, shares_live, send_next}
use Rattle.nq_model.specs.protocol.Server.{Server}
use Rattle.nq_model.specs.protocol.Settle.{answers, reads_cached, after_read, after_write, delays, marks_written, settle, ticket_is_for_call}
use Rattle.nq_model.specs.protocol.Table.{caches, is_writing}
use Rattle.walk_steps.proofs.Rows.{find-passes, same-number}
use Rattle.walk_steps.proofs.ServerOutcomes.{base_in, file_changed_by}

-- the view of a client in the middle of a step
abbrev pub view_of : ClientStep → View
view_of t = record {
  who = t.client.who;
  now = t.client.now;
  ticket = t.client.ticket;
  call = t.client.call;
  xid = t.client.xid;
  seq = t.client.seq;
  leases = t.client.leases;
  revisions = t.client.revisions;
  dirty = t.client.dirty;
  push = t.client.push;
}

-- what holds in the middle of a step
abbrev pub MidOf : Server → List Packet → ClientStep → Type 0
MidOf s ps t = Mid s ps (view_of t)

module _ (s : Server) (ps : List Packet) where
  -- the call under way is answered
  pub mid-answers : (t : ClientStep) (q : ℕ) (answer : Answer) (by : Option ℕ) → ticket_is_for_call t.client.ticket ≡ false → MidOf s ps t
      → MidOf s ps (answers t q answer by)
  unfolding answers
  mid-answers t q answer by other h = mid-calls s ps (view_of t) None other (λ u e. none-some u e) h

  -- a block is read
  mid-reads : (t : ClientStep) (u : UnderWay) (file block : ℕ) (body : List ℕ) → ticket_is_for_call t.client.ticket ≡ false → MidOf s ps t
      → MidOf s ps (reads_cached t u file block body)
  unfolding reads_cached after_read answers
  mid-reads t u file block body other h =
      mid-calls s ps (record (view_of t) { leases = _ }) None other (λ u e. none-some u e) (mid-uses s ps (view_of t) file h)

  -- a write is delayed
  mid-writes : (t : ClientStep) (u : UnderWay) (file block : ℕ) (body : List ℕ) (lease : Lease) → IsSettling t u → CanWrite t.client u file lease
      → MidOf s ps t → MidOf s ps (delays t file block body)
  unfolding after_write
  mid-writes t u file block body lease is can h =
      let lets = and_parts _ _ can.lets in
      mid-delays s ps (view_of t) file block t.client.number body _ lease is.idle can.held lets.0 (runs lets.1)
      (λ v e on. let one : u ≡ v = some-same u v (sym is.called ∙ e) in let off : v.through ≡ false = subst (λ z. z.through ≡ false) one can.delayed in
      absurd (cc)) h
    where
      runs : nat_lt t.client.now lease.expiry ≡ true → t.client.now < lease.expiry
      runs e = grind (arith, nat_tests)

  mid-put : (t : ClientStep) (u : UnderWay) (file block : ℕ) (body : List ℕ) → u.through ≡ false → ticket_is_for_call t.client.ticket ≡ false
      → MidOf s ps (delays t file block body) → MidOf s ps (marks_written (delays t file block body) u)
  unfolding marks_written after_write
  mid-put t u file block body off other h =
      mid-calls s ps (view_of (delays t file block body)) (Some (record u { written = true })) other
      (λ v e on. let one : record u { written = true } ≡ v = some-same (record u { written = true }) v e in
      let bad : v.through ≡ false = subst (λ z. z.through ≡ false) one off in absurd (cc)) h

  same-ticket : (t : ClientStep) (file block : ℕ) (body : List ℕ) → (delays t file block body).client.ticket ≡ t.client.ticket
  unfolding after_write
  same-ticket t file block body = refl

  pub mid-settles : (t : ClientStep) → MidOf s ps t → MidOf s ps (settle t)
  mid-settles t h = settle-cases t (MidOf s ps) (record {
    idle = λ none. h;
    asking = λ u is own. h;
    read_out = λ u file block lease is read can out. mid-answers t u.q _ None is.idle h;
    reading = λ u file block lease body is read can below has. mid-reads t u file block body is.idle h;
    read_waits = λ u file block is read waits. h;
    write_out = λ u sync file block body lease is write can out. mid-answers t u.q _ None is.idle h;
    write_full = λ u sync file block body lease is write can below full. mid-answers t u.q _ None is.idle h;
    writing =
        λ u file block body lease is write can below room. mid-answers (delays t file block body) u.q _ None
        (ap ticket_is_for_call (same-ticket t file block body) ∙ is.idle) (mid-writes t u file block body lease is can h);
    putting =
        λ u file block body lease is put written can below room. mid-put t u file block body can.delayed is.idle
        (mid-writes t u file block body lease is can h);
    write_waits = λ u sync file block body is write waits. h;
    syncing = λ u file is sync clean. mid-answers t u.q _ None is.idle h;
    sync_waits = λ u file is sync dirty. h;
    others = λ u is needs. h;
  })

-- ---- where nothing is to be pushed first

passing-step : (p : Lease → Bool) (y l : Lease) (leases : List Lease) (b c : Bool) → p y ≡ c
    → (lease_on l.file leases ≡ Some l → least (map file_of_lease (filter p leases)) ≡ None → ⊥) → p l ≡ true
    → (if b then Some y else lease_on l.file leases) ≡ Some l → least (map file_of_lease (if c then y ∷ filter p leases else filter p leases)) ≡ None → ⊥
passing-step p y l leases b true e rest passes found none = least-with-some y.file (least (map file_of_lease (filter p leases))) none
passing-step p y l leases true false e rest passes found none =
    let one : y ≡ l = some-same y l found in let yes : p y ≡ true = subst (λ z. p z ≡ true) (sym one) passes in absurd (cc)
passing-step p y l leases false false e rest passes found none = rest found none

-- where a lease that is held passes, there is a least file of those that do
passing : (p : Lease → Bool) (leases : List Lease) (l : Lease) → lease_on l.file leases ≡ Some l → p l ≡ true
    → least (map file_of_lease (filter p leases)) ≡ None → ⊥
passing p [] l found passes none = none-some l found
passing p (y ∷ leases) l found passes none = passing-step p y l leases (y.file == l.file) (p y) refl (λ e n. passing p leases l e passes n) passes found none

all-three : (a b c : Bool) → a ≡ true → b ≡ false → c ≡ true → (a && not b && c) ≡ true
all-three true false true x y z = refl
all-three true false false x y z = cc
all-three true true c x y z = cc
all-three false b c x y z = cc

expired : (now expiry : ℕ) → nat_lt now expiry ≡ false → nat_le expiry (now + 3) ≡ true
expired now expiry h = grind (arith, nat_tests)

module _ (t : ClientStep) (noticed : (file : ℕ) (n : Notice) → notice_on file t.client.notices ≡ Some n → is_clean t.client file ≡ false)
    (pushless : t.client.push ≡ None) (free : t.client.ticket ≡ None) (nothing : NothingToPush t.client) where
  -- a file that is not clean has a first delayed write
  has-first : (file : ℕ) → is_clean t.client file ≡ false → first_dirty file t.client.dirty ≡ None → ⊥
  has-first file u none = step (none-found file t.client.dirty none)
    where
      step : list_any (is_push_of file) t.client.dirty ≡ false → ⊥
      step empty = let yes : is_clean t.client file ≡ true = rw (empty, pushless) refl in cc

  unnoticed : (file : ℕ) → notice_on file t.client.notices ≡ None
  unnoticed file = step (notice_on file t.client.notices) refl
    where
      least-step : (o : Option ℕ) → noticed_file t.client ≡ o → (n : Notice) → notice_on file t.client.notices ≡ Some n → ⊥
      least-step None is n e = no-noticed t.client.notices is file n e
      least-step (Some g) is n e = let m = noticed-one t.client.notices g is in has-first g (noticed g m.0 m.1) (nothing.noticed g is)

      step : (o : Option Notice) → notice_on file t.client.notices ≡ o → notice_on file t.client.notices ≡ None
      step None e = e
      step (Some n) e = absurd (least-step (noticed_file t.client) refl n e)

  -- a lease over delayed writes is not about to end
  unending : (file : ℕ) (l : Lease) → lease_on file t.client.leases ≡ Some l → is_to_push t.client l ≡ true → ⊥
  unending file l e due = step (ending_file t.client) refl
    where
      of-file : l.file ≡ file
      of-file = same-number l.file file (find-passes (λ z. z.file == file) l t.client.leases e)

      step : (o : Option ℕ) → ending_file t.client ≡ o → ⊥
      step None is = passing (is_to_push t.client) t.client.leases l (subst (λ n. lease_on n t.client.leases ≡ Some l) (sym of-file) e) due is
      step (Some g) is =
          let m = least-passes (is_to_push t.client) t.client.leases g is in
          let k = and_parts _ _ m.2 in
          let j = and_parts _ _ k.0 in
          has-first g (subst (λ n. is_clean t.client n ≡ false) m.1 (not-true _ j.1)) (nothing.ending g is)

  -- a settled write that is not to go through is to a clean file
  waits-clean : Settled t → (s : Server) (ps : List Packet) → MidOf s ps t → (u : UnderWay) (sync : Bool) (file block : ℕ) (body : List ℕ)
      → t.client.call ≡ Some u → IsWrite u sync file block body → u.through ≡ false → is_clean t.client file ≡ true
  waits-clean settled s ps h u sync file block body called write off = step (is_clean t.client file) refl
    where
      unclean : is_clean t.client file ≡ false → ⊥
      unclean e =
          let l = h.writes.held file e in
          lives l.0 l.1 l.2 (is_live t.client.now l.0) refl
        where
          idle : ticket_is_for_call t.client.ticket ≡ false
          idle = ap ticket_is_for_call free

          lives : (l : Lease) → lease_on file t.client.leases ≡ Some l → is_writing l.mode ≡ true → (b : Bool) → is_live t.client.now l ≡ b → ⊥
          lives l held writes true runs =
              settled.writes u sync file block body (record { called = called; idle = idle }) write l
              (record { held = held; lets = rw (writes, runs) refl; unnoticed = unnoticed file; delayed = off })
          lives l held writes false over = unending file l held (ends l held writes over)
            where
              ends : (l : Lease) → lease_on file t.client.leases ≡ Some l → is_writing l.mode ≡ true → is_live t.client.now l ≡ false
                  → is_to_push t.client l ≡ true
              ends l held writes over =
                  let of : l.file ≡ file = same-number l.file file (find-passes (λ z. z.file == file) l t.client.leases held) in
                  all-three (is_writing l.mode) (is_clean t.client l.file) (nat_le l.expiry (t.client.now + renewal)) writes
                  (subst (λ n. is_clean t.client n ≡ false) (sym of) e) (expired t.client.now l.expiry over)

      step : (b : Bool) → is_clean t.client file ≡ b → is_clean t.client file ≡ true
      step true e = e
      step false e = absurd (unclean e)

-- ---- requests

-- a shared file is clean: one with delayed writes is held for writing
shares-clean : (s : Server) (ps : List Packet) (t : ClientStep) (file : ℕ) → MidOf s ps t
    → shares_live t.client.now (lease_on file t.client.leases) ≡ true → is_clean t.client file ≡ true
shares-clean s ps t file h shares = step (is_clean t.client file) refl
  where
    writing-shares : (mode : Mode) (b : Bool) → is_writing mode ≡ true → (not (caches mode) && b) ≡ true → ⊥
    writing-shares NonCaching b x y = cc
    writing-shares Reading b x y = cc
    writing-shares Writing b x y = cc

    step : (b : Bool) → is_clean t.client file ≡ b → is_clean t.client file ≡ true
    step true e = e
    step false e =
        let l = h.writes.held file e in
        absurd (writing-shares l.0.mode (is_live t.client.now l.0) l.2 (ap (shares_live t.client.now) (sym l.1) ∙ shares))

module _ (s : Server) (ps : List Packet) where
  -- a request without a sequence
  mid-asks : (t : ClientStep) (job : Job) (request : Request) → t.client.ticket ≡ None → sequence_of request ≡ None
      → ((w : Who) (file : ℕ) (want : Want) → job ≡ for_call → request ≡ Request.GetLease w file want
      → (u : UnderWay) × (t.client.call ≡ Some u) × (file_written u.call ≡ Some file) × (is_clean t.client file ≡ true)) → MidOf s ps t
      → MidOf s ps (sends_request t job request)
  unfolding sends_request
  mid-asks t job request free plain leased h = mid-sends s ps (view_of t) job request t.client.seq t.client.dirty t.client.push (record {
    free = free;
    no_fewer = omega arith;
    undone = λ file. plain-undone (line_for s.kept t.client.who) t.client.who.inc file request plain;
    last = λ n sq. none-some n (sym plain ∙ sq);
    above = λ n sq. none-some n (sym plain ∙ sq);
    unclean = λ file u. u;
    pushed = λ w n file block first last base body is. none-some n (sym plain ∙ ap sequence_of is);
    through = λ w n file block first last body j is. none-some n (sym plain ∙ ap sequence_of is);
    leased = leased;
    marked = h.writes.marked;
  }) h

  -- a request with a sequence that is no push
  decides : (t : ClientStep) (request : Request) → sequence_of request ≡ Some t.client.seq → base_in request ≡ None → t.client.ticket ≡ None
      → ((w : Who) (n file block first last : ℕ) (body : List ℕ) → request ≡ Request.Write w n file block first last None body
      → is_clean t.client file ≡ true) → MidOf s ps t → CanAsk s ps (view_of t) for_call request (t.client.seq + 1) t.client.dirty t.client.push
  decides t request seq base free through h = record {
    free = free;
    no_fewer = omega arith;
    undone = λ file. fresh-undone (line_for s.kept t.client.who) t.client.who.inc file t.client.seq request seq h.line.drawn;
    last = λ n sq. let one : t.client.seq ≡ n = some-same _ _ (sym seq ∙ sq) in omega arith;
    above = λ n sq kept. let one : t.client.seq ≡ n = some-same _ _ (sym seq ∙ sq) in let below = h.line.drawn kept in omega arith;
    unclean = λ file u. u;
    pushed = λ w n file block first last b body is. none-some b (sym base ∙ ap base_in is);
    through = λ w n file block first last body j is. through w n file block first last body is;
    leased = λ w file want j is. none-some t.client.seq (sym (ap sequence_of is) ∙ seq);
    marked = h.writes.marked;
  }

  mid-decides : (t : ClientStep) (request : Request) → sequence_of request ≡ Some t.client.seq → base_in request ≡ None → t.client.ticket ≡ None
      → ((w : Who) (n file block first last : ℕ) (body : List ℕ) → request ≡ Request.Write w n file block first last None body
      → is_clean t.client file ≡ true) → MidOf s ps t → MidOf s ps (sends_request (after_seq t) for_call request)
  unfolding sends_request after_seq
  mid-decides t request seq base free through h =
      mid-sends s ps (view_of t) for_call request (t.client.seq + 1) t.client.dirty t.client.push (decides t request seq base free through h) h

  -- a write that goes through
  mid-through : (t : ClientStep) (file block : ℕ) (body : List ℕ) → t.client.ticket ≡ None → is_clean t.client file ≡ true → MidOf s ps t
      → MidOf s ps (sends_write t file block body)
  unfolding sends_request after_number
  mid-through t file block body free clean h =
      let request : Request = Request.Write t.client.who t.client.seq file block t.client.number t.client.number None body in
      mid-sends s ps (view_of t) for_call request (t.client.seq + 1) t.client.dirty t.client.push
      (decides t request refl refl free
      (λ w n g b first last more is. subst (λ f. is_clean t.client f ≡ true) (some-same file g (ap file_changed_by is)) clean) h) h

  -- a lease is given up before its file is changed
  mid-gives-up : (t : ClientStep) (file : ℕ) → is_clean t.client file ≡ true → MidOf s ps t → MidOf s ps (gives_up t file)
  unfolding gives_up
  mid-gives-up t file clean h = mid-drops s ps (view_of t) file clean h

  mid-changes : (t : ClientStep) (file : ℕ) (request : Request) → sequence_of request ≡ Some t.client.seq → base_in request ≡ None
      → t.client.ticket ≡ None → is_clean t.client file ≡ true
      → ((w : Who) (n g block first last : ℕ) (body : List ℕ) → request ≡ Request.Write w n g block first last None body → ⊥) → MidOf s ps t
      → MidOf s ps (sends_request (after_seq (gives_up t file)) for_call request)
  unfolding gives_up
  mid-changes t file request seq base free clean other h =
      mid-decides (gives_up t file) request seq base free (λ w n g block first last body is. absurd (other w n g block first last body is))
      (mid-gives-up t file clean h)

  -- delayed writes are pushed
  is-pushed : (c : Client) (p : Push) (l : Lease) (w : Who) (n file block first last : ℕ) (base : PushBase) (body : List ℕ)
      → lease_on p.file c.leases ≡ Some l
      → Request.Write c.who c.seq p.file p.block p.first p.last (Some (base_of c p.file)) p.body ≡ Request.Write w n file block first last (Some base)
      body → IsPushed c.leases c.revisions (Some p) file base (record { file = file; block = block; first = first; last = last; body = body })
  is-pushed c p l w n file block first last base body held is =
      let same : p.file ≡ file = some-same p.file file (ap file_changed_by is) in
      let rests : base_of c p.file ≡ base = some-same (base_of c p.file) base (ap base_in is) in
      record {
        under_way = ap push_in is;
        of_file = refl;
        lease = l;
        held = subst (λ f. lease_on f c.leases ≡ Some l) same held;
        boot = ap (λ b. b.boot) (sym rests) ∙ ap boot_of held;
        rev = ap (λ b. b.base) (sym rests) ∙ ap (rev_at c.revisions) same;
      }

  clean-after : (before after : Bool) → (after ≡ false → before ≡ false) → before ≡ true → after ≡ true
  clean-after before true h was = refl
  clean-after before false h was = let bad = h refl in absurd (cc)

  mid-pushes : (t : ClientStep) (p : Push) → t.client.ticket ≡ None → first_dirty p.file t.client.dirty ≡ Some p → MidOf s ps t → MidOf s ps (pushed t p)
  unfolding sends_request after_seq takes_push
  mid-pushes t p free first h =
      let request : Request = Request.Write t.client.who t.client.seq p.file p.block p.first p.last (Some (base_of t.client p.file)) p.body in
      mid-sends s ps (view_of t) pushing request (t.client.seq + 1) _ (Some p) (record {
        free = free;
        no_fewer = omega arith;
        undone = λ file. fresh-undone (line_for s.kept t.client.who) t.client.who.inc file t.client.seq request refl h.line.drawn;
        last = λ n sq. let one : t.client.seq ≡ n = some-same _ _ sq in omega arith;
        above = λ n sq kept. let one : t.client.seq ≡ n = some-same _ _ sq in let below = h.line.drawn kept in omega arith;
        unclean = λ file u. unclean-pushed file p t.client.dirty t.client.push first u;
        pushed =
            λ w n file block a b base body is. let l = h.writes.held p.file
            (writes-in-list p.file t.client.dirty t.client.push (any-found p.file t.client.dirty p first)) in
            is-pushed t.client p l.0 w n file block a b base body l.1 is;
        through = λ w n file block first last body j is. absurd (cc);
        leased = λ w file want j is. absurd (cc);
        marked =
            λ u e on. let m = h.writes.marked u e on in (
              m.0,
              m.1,
              clean-after (is_clean t.client m.0) (is_clean_in m.0 (drop_dirty p.file p.block t.client.dirty) (Some p))
                  (unclean-pushed m.0 p t.client.dirty t.client.push first) m.2,
            );
      }) h

  -- what is known of delayed writes after a request of the call was sent was so before
  call-noticed : (t : ClientStep) (request : Request) → DelayingOf (sends_request t for_call request).client → (file : ℕ) (n : Notice)
      → notice_on file t.client.notices ≡ Some n → is_clean t.client file ≡ false
  unfolding sends_request
  call-noticed t request d = d.noticed

  call-pushless : (t : ClientStep) (request : Request) → DelayingOf (sends_request t for_call request).client → t.client.push ≡ None
  unfolding sends_request
  call-pushless t request d = no-push t.client.push d (λ u e job. not-pushing u e job)
    where
      not-pushing : (u : Ticket) → Some
          (record { xid = t.client.xid; first = t.client.now; last = t.client.now; request = request; job = for_call }) ≡ Some u → u.job ≡ pushing → ⊥
      not-pushing u e job = let one : for_call ≡ u.job = ap (λ z. z.job) (some-same _ u e) in absurd (cc)

  write-noticed : (t : ClientStep) (file block : ℕ) (body : List ℕ) → DelayingOf (sends_write t file block body).client → (f : ℕ) (n : Notice)
      → notice_on f t.client.notices ≡ Some n → is_clean t.client f ≡ false
  unfolding sends_request after_number
  write-noticed t file block body d = d.noticed

  write-pushless : (t : ClientStep) (file block : ℕ) (body : List ℕ) → DelayingOf (sends_write t file block body).client → t.client.push ≡ None
  unfolding after_number
  write-pushless t file block body d = call-pushless (after_number t) _ d

  -- the next request is sent, if there is one
  pub nexts : (in_tick : Bool) (t : ClientStep) → Settled t → MidOf s ps t → DelayingOf (send_next in_tick t).client → MidOf s ps (send_next in_tick t)
  nexts in_tick t settled h = send-cases in_tick t (λ u. DelayingOf u.client → MidOf s ps u) (record {
    stays_asking = λ ticket e d. h;
    stays = λ free nothing d. h;
    pushing = λ file p free first of d. mid-pushes t p free (subst (λ f. first_dirty f t.client.dirty ≡ Some p) (sym of) first) h;
    creating = λ u name blocks is call d. mid-decides t _ refl refl is.free (λ w n g b x y z e. absurd (cc)) h;
    looking_up = λ u name is call d. mid-asks t for_call _ is.free refl (λ w file want j e. absurd (cc)) h;
    getting_attributes = λ u file is call d. mid-asks t for_call _ is.free refl (λ w file want j e. absurd (cc)) h;
    reading = λ u file block is call d. mid-asks t for_call _ is.free refl (λ w file want j e. absurd (cc)) h;
    fetching = λ u file block is call d. mid-asks t for_call _ is.free refl (λ w file want j e. absurd (cc)) h;
    writing = λ u file block body is call through d. mid-through t file block body is.free (through-clean u file block body is call (u.through) refl
        through) h;
    leasing =
        λ u file block body is call off shares d. mid-asks t for_call _ is.free refl (λ w g want j e. leased u file block body is call off d w g want e) h;
    putting = λ u file block body is call off d. mid-through t file block body is.free (put-clean u file block body is call off d (u.through) refl) h;
    resizing = λ u file blocks is call clean d. mid-changes t file _ refl refl is.free clean (λ w n g b x y z e. absurd (cc)) h;
    removing = λ u file is call clean d. mid-changes t file _ refl refl is.free clean (λ w n g b x y z e. absurd (cc)) h;
    renewing = λ file lease tick free nothing unpaused renewed held of clean unnoticed d. mid-asks t renewing _ free refl (λ w g want j e. absurd (cc)) h;
  })
    where
      marked-clean : (u : UnderWay) (file : ℕ) → t.client.call ≡ Some u → file_written u.call ≡ Some file → u.through ≡ true → is_clean t.client file ≡ true
      marked-clean u file called writes on =
          let m = h.writes.marked u called on in subst (λ f. is_clean t.client f ≡ true) (some-same m.0 file (sym m.1 ∙ writes)) m.2

      through-clean : (u : UnderWay) (file block : ℕ) (body : List ℕ) → IsFree t u → u.call ≡ Call.Write file block body → (b : Bool) → u.through ≡ b
          → (b || shares_live t.client.now (lease_on file t.client.leases)) ≡ true → is_clean t.client file ≡ true
      through-clean u file block body is call true on e = marked-clean u file is.called (ap file_written call) on
      through-clean u file block body is call false off shares = shares-clean s ps t file h shares

      leased : (u : UnderWay) (file block : ℕ) (body : List ℕ) → IsFree t u → u.call ≡ Call.Write file block body → u.through ≡ false
          → DelayingOf (sends_request t for_call (Request.GetLease t.client.who file (want_of t.client Mode.Writing))).client
          → (w : Who) (g : ℕ) (want : Want) → Request.GetLease t.client.who file (want_of t.client Mode.Writing) ≡ Request.GetLease w g want
          → (v : UnderWay) × (t.client.call ≡ Some v) × (file_written v.call ≡ Some g) × (is_clean t.client g ≡ true)
      leased u file block body is call off d w g want e =
          let same : file ≡ g = some-same file g (ap requested_file e) in (
            u,
            is.called,
            ap file_written call
                ∙ ap Some same,
            subst (λ f. is_clean t.client f ≡ true) same
                (waits-clean t (call-noticed t _ d) (call-pushless t _ d) is.free is.nothing settled s ps h u false file block body is.called call off),
          )

      put-clean : (u : UnderWay) (file block : ℕ) (body : List ℕ) → IsFree t u → u.call ≡ Call.Put file block body → u.written ≡ false
          → DelayingOf (sends_write t file block body).client → (b : Bool) → u.through ≡ b → is_clean t.client file ≡ true
      put-clean u file block body is call off d true on = marked-clean u file is.called (ap file_written call) on
      put-clean u file block body is call off d false through =
          waits-clean t (write-noticed t file block body d) (write-pushless t file block body d) is.free is.nothing settled s ps h u true file block
          body is.called (call, off) through

  -- calls that need no packet, and the next request
  pub mid-goes-on : (in_tick : Bool) (t : ClientStep) → MidOf s ps t → DelayingOf (send_next in_tick (settle t)).client
      → MidOf s ps (send_next in_tick (settle t))
  mid-goes-on in_tick t h d = nexts in_tick (settle t) (settle-settles t) (mid-settles s ps t h) d
