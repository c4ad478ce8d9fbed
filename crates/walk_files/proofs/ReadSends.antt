-- What settling and sending add of reads.
use Rattle.std.proofs.Common.{◌≡◌, ◌⊎◌, ℕ, Bool, true, false, List, ◌∷◌, Option, Some, None, refl, sym, subst, ap, ◌∙◌, inl, inr}
use Rattle.nq_base.specs.Block.{value_of}
use Rattle.nq_base.specs.declared.Answer.{Answer}
use Rattle.nq_base.specs.declared.Entry.{Entry}
use Rattle.nq_base.specs.declared.Entry.TheVariants.{A, W, R}
use Rattle.nq_base.specs.declared.Request.{Request}
use Rattle.nq_base.specs.declared.Said.{Said}
use Rattle.nq_base.specs.declared.Said.TheVariants.{OkValue}
use Rattle.nq_base.specs.declared.Value.{Value}
use Rattle.nq_base.specs.declared.Want.{Want}
use Rattle.nq_base.specs.declared.Who.{Who}
use Rattle.walk_steps.proofs.SendCases.{send-cases, IsFree}
use Rattle.walk_steps.proofs.SettleCases.{settle-moves, settle-cases, IsSettling, IsRead, Settled, ReadWaits, no_lease, no_block, settle-settles}
use Rattle.walk_steps.proofs.ClientMoves.{none-some, some-same}
use Rattle.walk_files.proofs.ReadParts.{IsDull, is_read, ReadsNothing, MadeFor, TicketOfCall, MadeOf}
use Rattle.nq_model.specs.protocol.Client.{Client, ClientStep, Job, for_call, renewing, pushing, Lease, Ticket, UnderWay, lease_on, lets_read, first_dirty}
use Rattle.nq_model.specs.protocol.Message.{Message, call}
use Rattle.nq_model.specs.protocol.Send.{ending_file, sends_request, after_seq, after_number, takes_push, gives_up, send_next}
use Rattle.nq_model.specs.protocol.Settle.{answers, reads_cached, after_read, after_write, delays, marks_written, settle, said, cached_body}
use Rattle.nq_model.specs.protocol.Settle.{ticket_is_for_call, is_for_call}
use Rattle.walk_steps.proofs.Packets.{In, in-last, call-same}

-- the entry is a cached read, or the answer to one of these
abbrev pub IsCachedIn : List Entry → Entry → Type 0
IsCachedIn es (R who q file block v None) = Unit {0}
IsCachedIn es (A who q (OkValue v)) = (file : ℕ) × (block : ℕ) × In es (R who q file block v None)
IsCachedIn es other = ⊥

pub cached-more : (e x : Entry) (es : List Entry) → IsCachedIn es x → IsCachedIn (e ∷ es) x
cached-more e (R who q file block v None) es h = h
cached-more e (A who q (OkValue v)) es h = (h.0, h.1, inr h.2)
cached-more e other es h = absurd h

-- a step so far
pub record Told (c : Client) (Valued : Entry → Type 0) (who : Who) (under : Option UnderWay) (ticket : Option Ticket) (entries : List Entry) : Type 0 where
  pub who_is : who ≡ c.who
  pub fine : (e : Entry) → In entries e → IsDull e ⊎ Valued e ⊎ IsCachedIn entries e
  pub asks : TicketOfCall ticket under

abbrev pub Quiet : List Message → Type 0
Quiet sends = (x : ℕ) (r : Request) → In sends (call x r) → is_read r ≡ false

abbrev pub ToldOf : Client → (Entry → Type 0) → ClientStep → Type 0
ToldOf c Valued t = Told c Valued t.client.who t.client.call t.client.ticket t.entries

-- a READ that was made in this step waits: its block is nowhere at the client under a lease that runs
pub record NewRead (t : ClientStep) (who : Who) (q file block : ℕ) (want : Option Want) : Type 0 where
  pub u : UnderWay
  pub called : t.client.call ≡ Some u
  pub number : u.q ≡ q
  pub of : IsRead u.call file block
  pub ticket : Ticket
  pub has : t.client.ticket ≡ Some ticket
  pub asks : ticket.request ≡ Request.Read who q file block want
  pub waits : (lease : Lease) → lease_on file t.client.leases ≡ Some lease → lets_read t.client.now lease ≡ true → cached_body t.client file block ≡ None
  pub nothing : (f : ℕ) → ending_file t.client ≡ Some f → first_dirty f t.client.dirty ≡ None

-- a READ that was under way before
pub record OldRead (c : Client) (x : ℕ) (r : Request) : Type 0 where
  pub ticket : Ticket
  pub has : c.ticket ≡ Some ticket
  pub number : ticket.xid ≡ x
  pub asks : ticket.request ≡ r

-- a whole step
pub record Done (c : Client) (Valued : Entry → Type 0) (t : ClientStep) : Type 0 where
  pub tells : ToldOf c Valued t
  pub reads : (x : ℕ) (who : Who) (q file block : ℕ) (want : Option Want) → In t.sends (call x (Request.Read who q file block want))
      → OldRead c x (Request.Read who q file block want) ⊎ NewRead t who q file block want

-- ---- settling

told-adds : {c : Client} {Valued : Entry → Type 0} {who : Who} {under after : Option UnderWay} {ticket : Option Ticket} {entries : List Entry}
    (e : Entry) → IsDull e → TicketOfCall ticket after → Told c Valued who under ticket entries → Told c Valued who after ticket (e ∷ entries)
told-adds {Valued = Valued} {entries = entries} e dull asks h = record { who_is = h.who_is; fine = fine; asks = asks }
  where
    more : (x : Entry) → IsDull x ⊎ Valued x ⊎ IsCachedIn entries x → IsDull x ⊎ Valued x ⊎ IsCachedIn (e ∷ entries) x
    more x (inl d) = inl d
    more x (inr (inl v)) = inr (inl v)
    more x (inr (inr k)) = inr (inr (cached-more e x entries k))

    fine : (x : Entry) → (e ≡ x) ⊎ In entries x → IsDull x ⊎ Valued x ⊎ IsCachedIn (e ∷ entries) x
    fine x (inl same) = inl (subst IsDull same dull)
    fine x (inr i) = more x (h.fine x i)

told-cached : {c : Client} {Valued : Entry → Type 0} {who : Who} {under after : Option UnderWay} {ticket : Option Ticket} {entries : List Entry}
    (q file block v : ℕ) → TicketOfCall ticket after → Told c Valued who under ticket entries
    → Told c Valued who after ticket (A who q (OkValue v) ∷ R who q file block v None ∷ entries)
told-cached {Valued = Valued} {who = who} {entries = entries} q file block v asks h = record { who_is = h.who_is; fine = fine; asks = asks }
  where
    more : (x : Entry) → IsDull x ⊎ Valued x ⊎ IsCachedIn entries x
        → IsDull x ⊎ Valued x ⊎ IsCachedIn (A who q (OkValue v) ∷ R who q file block v None ∷ entries) x
    more x (inl d) = inl d
    more x (inr (inl y)) = inr (inl y)
    more x (inr (inr k)) = inr (inr (cached-more _ x (R who q file block v None ∷ entries) (cached-more _ x entries k)))

    fine : (x : Entry) → (A who q (OkValue v) ≡ x) ⊎ ((R who q file block v None ≡ x) ⊎ In entries x)
        → IsDull x ⊎ Valued x ⊎ IsCachedIn (A who q (OkValue v) ∷ R who q file block v None ∷ entries) x
    fine x (inl same) = inr (inr (subst (IsCachedIn (A who q (OkValue v) ∷ R who q file block v None ∷ entries)) same (file, block, inr (inl refl))))
    fine x (inr (inl same)) = inr (inr (subst (IsCachedIn (A who q (OkValue v) ∷ R who q file block v None ∷ entries)) same tt))
    fine x (inr (inr i)) = more x (h.fine x i)

no-call-ticket : (ticket : Option Ticket) (under : Option UnderWay) → ticket_is_for_call ticket ≡ false → TicketOfCall ticket under
no-call-ticket ticket under other t is job = bad t.job job (sym (ap ticket_is_for_call is) ∙ other)
  where
    bad : (j : Job) → j ≡ for_call → is_for_call j ≡ false → (u : UnderWay) × (under ≡ Some u) × MadeFor t.request u
    bad j same e = let yes : is_for_call j ≡ true = ap is_for_call same in absurd (cc)

module _ (c : Client) (Valued : Entry → Type 0) where
  abbrev T : ClientStep → Type 0
  T = ToldOf c Valued

  pub told-made : (t : ClientStep) → MadeOf c Valued t → T t
  told-made t h = record { who_is = h.who_is; fine = λ e i. step e (h.fine e i); asks = λ k is. none-some k (sym h.free ∙ is) }
    where
      step : (e : Entry) → IsDull e ⊎ Valued e → IsDull e ⊎ Valued e ⊎ IsCachedIn t.entries e
      step e (inl d) = inl d
      step e (inr v) = inr (inl v)

  settled-answer : (t : ClientStep) (u : UnderWay) (a : Answer) → IsDull (A t.client.who u.q (said a None)) → IsSettling t u → T t → T (answers t u.q a None)
  unfolding answers
  settled-answer t u a dull is h = told-adds (A t.client.who u.q (said a None)) dull (no-call-ticket t.client.ticket None is.idle) h

  settled-read : (t : ClientStep) (u : UnderWay) (file block : ℕ) (body : List ℕ) → IsSettling t u → T t → T (reads_cached t u file block body)
  unfolding reads_cached answers after_read
  settled-read t u file block body is h = told-cached u.q file block (value_of body) (no-call-ticket t.client.ticket None is.idle) h

  settled-write : (t : ClientStep) (u : UnderWay) (file block : ℕ) (body : List ℕ) → IsSettling t u → T t
      → T (answers (delays t file block body) u.q (Answer.Ok Value.Nothing) None)
  unfolding answers after_write
  settled-write t u file block body is h =
      told-adds (A t.client.who u.q Said.Ok) tt (no-call-ticket t.client.ticket None is.idle)
      (told-adds {after = None} (W t.client.who file block t.client.number (value_of body) false) tt (no-call-ticket t.client.ticket None is.idle) h)

  settled-put : (t : ClientStep) (u : UnderWay) (file block : ℕ) (body : List ℕ) → IsSettling t u → T t → T (marks_written (delays t file block body) u)
  unfolding marks_written after_write
  settled-put t u file block body is h =
      told-adds (W t.client.who file block t.client.number (value_of body) false) tt (no-call-ticket t.client.ticket _ is.idle) h

  pub told-settles : (t : ClientStep) → T t → T (settle t)
  told-settles t h = settle-cases t T (record {
    idle = λ e. h;
    asking = λ u e f. h;
    read_out = λ u file block lease is r can out. settled-answer t u Answer.Range tt is h;
    reading = λ u file block lease body is r can within has. settled-read t u file block body is h;
    read_waits = λ u file block is r waits. h;
    write_out = λ u sync file block body lease is w can out. settled-answer t u Answer.Range tt is h;
    write_full = λ u sync file block body lease is w can within full. settled-answer t u Answer.DirtyFull tt is h;
    writing = λ u file block body lease is w can within room. settled-write t u file block body is h;
    putting = λ u file block body lease is w unwritten can within room. settled-put t u file block body is h;
    write_waits = λ u sync file block body is w waits. h;
    syncing = λ u file is s clean. settled-answer t u (Answer.Ok Value.Nothing) tt is h;
    sync_waits = λ u file is s dirty. h;
    others = λ u is n. h;
  })

  pub settled-quiet : (t : ClientStep) → Quiet t.sends → Quiet (settle t).sends
  unfolding answers reads_cached marks_written
  settled-quiet t h =
      settle-moves t (λ s. Quiet s.sends)
      (record { kept = h; answered = λ v q answer k. k; read = λ u file block body. h; delayed = λ file block body. h; marked = λ v u k. k })

  -- ---- sending

  quiet-read : (sends : List Message) (x : ℕ) (who : Who) (q file block : ℕ) (want : Option Want) → Quiet sends
      → In sends (call x (Request.Read who q file block want)) → ⊥
  quiet-read sends x who q file block want h i = let no = h x (Request.Read who q file block want) i in cc

  pub done-quiet : (t : ClientStep) → T t → Quiet t.sends → Done c Valued t
  done-quiet t h quiet = record { tells = h; reads = λ x who q file block want i. absurd (quiet-read t.sends x who q file block want quiet i) }

  done-sends : (t : ClientStep) (job : Job) (r : Request) → T t → Quiet t.sends
      → (job ≡ for_call → (u : UnderWay) × (t.client.call ≡ Some u) × MadeFor r u)
      → ((who : Who) (q file block : ℕ) (want : Option Want) → r ≡ Request.Read who q file block want
      → NewRead (sends_request t job r) who q file block want) → Done c Valued (sends_request t job r)
  unfolding sends_request
  done-sends t job r h quiet made new = record {
    tells = record { who_is = h.who_is; fine = h.fine; asks = λ k is same. fits k (some-same _ k is) same };
    reads = λ x who q file block want i. case x who q file block want (in-last t.sends (call t.client.xid r) (call x (Request.Read who q file block want)) i);
  } where
    fits : (k : Ticket) → record { xid = t.client.xid; first = t.client.now; last = t.client.now; request = r; job = job } ≡ k → k.job ≡ for_call
        → (u : UnderWay) × (t.client.call ≡ Some u) × MadeFor k.request u
    fits k one same = let m = made (ap (λ z. z.job) one ∙ same) in (m.0, m.1, subst (λ q. MadeFor q m.0) (ap (λ z. z.request) one) m.2)

    case : (x : ℕ) (who : Who) (q file block : ℕ) (want : Option Want)
        → In t.sends (call x (Request.Read who q file block want)) ⊎ (call t.client.xid r ≡ call x (Request.Read who q file block want))
        → OldRead c x (Request.Read who q file block want) ⊎ NewRead (sends_request t job r) who q file block want
    case x who q file block want (inl old) = absurd (quiet-read t.sends x who q file block want quiet old)
    case x who q file block want (inr same) = inr (new who q file block want (call-same t.client.xid x r _ same).1)

  told-seq : (t : ClientStep) → T t → T (after_seq t)
  unfolding after_seq
  told-seq t h = h

  quiet-seq : (t : ClientStep) → Quiet t.sends → Quiet (after_seq t).sends
  unfolding after_seq
  quiet-seq t h = h

  called-seq : (t : ClientStep) (u : UnderWay) → t.client.call ≡ Some u → (after_seq t).client.call ≡ Some u
  unfolding after_seq
  called-seq t u h = h

  told-number : (t : ClientStep) → T t → T (after_number t)
  unfolding after_number
  told-number t h = h

  quiet-number : (t : ClientStep) → Quiet t.sends → Quiet (after_number t).sends
  unfolding after_number
  quiet-number t h = h

  called-number : (t : ClientStep) (u : UnderWay) → t.client.call ≡ Some u → (after_number t).client.call ≡ Some u
  unfolding after_number
  called-number t u h = h

  told-takes : (t : ClientStep) (p : _) → T t → T (after_seq (takes_push t p))
  unfolding after_seq takes_push
  told-takes t p h = h

  quiet-takes : (t : ClientStep) (p : _) → Quiet t.sends → Quiet (after_seq (takes_push t p)).sends
  unfolding after_seq takes_push
  quiet-takes t p h = h

  told-gives : (t : ClientStep) (file : ℕ) → T t → T (after_seq (gives_up t file))
  unfolding after_seq gives_up
  told-gives t file h = h

  quiet-gives : (t : ClientStep) (file : ℕ) → Quiet t.sends → Quiet (after_seq (gives_up t file)).sends
  unfolding after_seq gives_up
  quiet-gives t file h = h

  called-gives : (t : ClientStep) (file : ℕ) (u : UnderWay) → t.client.call ≡ Some u → (after_seq (gives_up t file)).client.call ≡ Some u
  unfolding after_seq gives_up
  called-gives t file u h = h

  -- a READ
  read-waits : (d : Client) (file block : ℕ) → ReadWaits d file block → (lease : Lease) → lease_on file d.leases ≡ Some lease
      → lets_read d.now lease ≡ true → cached_body d file block ≡ None
  read-waits d file block (no_lease none) lease held lets = absurd (none lease (record { held = held; lets = lets }))
  read-waits d file block (no_block other can within none) lease held lets = none

  abbrev ReadFor : ClientStep → Request → Type 0
  ReadFor t (Request.Read who q file block want) = NewRead t who q file block want
  ReadFor t other = Unit {0}

  this-read : (t : ClientStep) (u : UnderWay) (file block : ℕ) (asked : Option Want) → Settled t → IsFree t u → IsRead u.call file block
      → NewRead (sends_request t for_call (Request.Read t.client.who u.q file block asked)) t.client.who u.q file block asked
  unfolding sends_request
  this-read t u file block asked s is r = record {
    u = u;
    called = is.called;
    number = refl;
    of = r;
    ticket = _;
    has = refl;
    asks = refl;
    waits = read-waits t.client file block (s.reads u file block (record { called = is.called; idle = ap ticket_is_for_call is.free }) r);
    nothing = is.nothing.ending;
  }

  new-read : (t : ClientStep) (u : UnderWay) (file block : ℕ) (asked : Option Want) → Settled t → IsFree t u → IsRead u.call file block
      → (who : Who) (q f b : ℕ) (want : Option Want) → Request.Read t.client.who u.q file block asked ≡ Request.Read who q f b want
      → NewRead (sends_request t for_call (Request.Read t.client.who u.q file block asked)) who q f b want
  new-read t u file block asked s is r who q f b want same =
      subst (ReadFor (sends_request t for_call (Request.Read t.client.who u.q file block asked))) same (this-read t u file block asked s is r)

  nothing-read : {Goal : Type 0} (a : Request) → is_read a ≡ false → (who : Who) (q file block : ℕ) (want : Option Want)
      → a ≡ Request.Read who q file block want → Goal
  nothing-read a other who q file block want same = let yes : is_read a ≡ true = ap is_read same in absurd (cc)

  pub told-sends : (in_tick : Bool) (t : ClientStep) → Settled t → T t → Quiet t.sends → Done c Valued (send_next in_tick t)
  told-sends in_tick t s h quiet = send-cases in_tick t (Done c Valued) (record {
    stays_asking = λ ticket e. done-quiet t h quiet;
    stays = λ free nothing. done-quiet t h quiet;
    pushing =
        λ file p free first of. done-sends (after_seq (takes_push t p)) pushing _ (told-takes t p h) (quiet-takes t p quiet) (λ e. absurd (cc))
        (λ w q f b n e. nothing-read _ refl w q f b n e);
    creating =
        λ u name blocks is e. done-sends (after_seq t) for_call _ (told-seq t h) (quiet-seq t quiet)
        (λ j. (u, called-seq t u is.called, subst ReadsNothing (sym e) tt)) (λ w q f b n e. nothing-read _ refl w q f b n e);
    looking_up =
        λ u name is e. done-sends t for_call _ h quiet (λ j. (u, is.called, subst ReadsNothing (sym e) tt))
        (λ w q f b n e. nothing-read _ refl w q f b n e);
    getting_attributes =
        λ u file is e. done-sends t for_call _ h quiet (λ j. (u, is.called, subst ReadsNothing (sym e) tt))
        (λ w q f b n e. nothing-read _ refl w q f b n e);
    reading =
        λ u file block is e. done-sends t for_call _ h quiet (λ j. (u, is.called, (refl, inl e)))
        (λ w q f b n same. new-read t u file block _ s is (inl e) w q f b n same);
    fetching =
        λ u file block is e. done-sends t for_call _ h quiet (λ j. (u, is.called, (refl, inr e)))
        (λ w q f b n same. new-read t u file block _ s is (inr e) w q f b n same);
    writing =
        λ u file block body is e f. done-sends (after_number t) for_call _ (told-number t h) (quiet-number t quiet)
        (λ j. (u, called-number t u is.called, tt)) (λ w q g b n e. nothing-read _ refl w q g b n e);
    leasing = λ u file block body is e f g. done-sends t for_call _ h quiet (λ j. (u, is.called, tt)) (λ w q g b n e. nothing-read _ refl w q g b n e);
    putting =
        λ u file block body is e f. done-sends (after_number t) for_call _ (told-number t h) (quiet-number t quiet)
        (λ j. (u, called-number t u is.called, tt)) (λ w q g b n e. nothing-read _ refl w q g b n e);
    resizing =
        λ u file blocks is e clean. done-sends (after_seq (gives_up t file)) for_call _ (told-gives t file h) (quiet-gives t file quiet)
        (λ j. (u, called-gives t file u is.called, tt)) (λ w q g b n e. nothing-read _ refl w q g b n e);
    removing =
        λ u file is e clean. done-sends (after_seq (gives_up t file)) for_call _ (told-gives t file h) (quiet-gives t file quiet)
        (λ j. (u, called-gives t file u is.called, tt)) (λ w q g b n e. nothing-read _ refl w q g b n e);
    renewing =
        λ file lease tick free nothing unpaused due held of clean unnoticed. done-sends t renewing _ h quiet (λ e. absurd (cc))
        (λ w q g b n e. nothing-read _ refl w q g b n e);
  })

  pub told-goes-on : (in_tick : Bool) (t : ClientStep) → T t → Quiet t.sends → Done c Valued (send_next in_tick (settle t))
  told-goes-on in_tick t h quiet = told-sends in_tick (settle t) (settle-settles t) (told-settles t h) (settled-quiet t quiet)
