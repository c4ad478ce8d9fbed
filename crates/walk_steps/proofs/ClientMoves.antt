-- What holds of one client alone is kept by each small change of it.
use Rattle.std.proofs.Common.{◌≡◌, ◌≢◌, ◌<◌, ◌≤◌, ◌⊎◌, ℕ, ◌+◌, Bool, true, false, List, [], Option, Some, None, is_some, if◌then◌else◌, option_map}
use Rattle.std.proofs.Common.{refl, sym, subst, ap, ◌∙◌, arith, inl, inr}
use Rattle.nq_base.specs.declared.Request.{Request}
use Rattle.nq_base.specs.declared.Who.{Who}
use Rattle.walk_steps.proofs.ClientFacts.{changes_file, fits_job, IsTicket, IsLease, Asking}
use Rattle.nq_model.proofs.ClientLists.{marked-before, marked-term, marked-expiry, lease-before-drop, lease-after-put, used-lease-found}
use Rattle.nq_model.proofs.ClientLists.{notice-before-drop, notice-after-put}
use Rattle.nq_model.specs.protocol.Client.{Job, attaching, for_call, Lease, Notice, Ticket, UnderWay, lease_on, drop_lease, put_lease, notice_on, drop_notice}
use Rattle.nq_model.specs.protocol.Client.{put_notice, marked_used, used_lease}
use Rattle.nq_model.specs.protocol.Hear.{wants_of, cancelled}
use Rattle.nq_model.specs.protocol.Message.{asker, sequence_of}
use Rattle.nq_model.specs.protocol.Settle.{ticket_is_for_call}

pub some-same : {A : Type 0} (x y : A) → Some x ≡ Some y → x ≡ y
some-same x y h = cc

pub none-some : {A : Type 0} {B : Type 0} (x : A) → None ≡ Some x → B
none-some x h = cc

-- a client with a call, a lease or a notice is attached
pub attached-with-call : {who : Who} {now xid seq : ℕ} {attached : Bool} {call : Option UnderWay} {ticket : Option Ticket} {leases : List Lease}
    {notices : List Notice} → Asking who now attached call ticket xid seq leases notices → (u : UnderWay) → call ≡ Some u → attached ≡ true
attached-with-call {attached = true} h u e = refl
attached-with-call {attached = false} h u e = let w = h.waiting refl in none-some u (sym w.idle ∙ e)

-- a client whose request is not to attach, or that has none, is attached
pub attached-with-ticket : {who : Who} {now xid seq : ℕ} {attached : Bool} {call : Option UnderWay} {ticket : Option Ticket} {leases : List Lease}
    {notices : List Notice} → Asking who now attached call ticket xid seq leases notices → (t : Ticket) → ticket ≡ Some t → (t.job ≡ attaching → ⊥)
    → attached ≡ true
attached-with-ticket {attached = true} h t e other = refl
attached-with-ticket {attached = false} h t e other =
    let w = h.waiting refl in
    let one : w.request ≡ t = some-same w.request t (sym w.asks ∙ e) in
    absurd (other (subst (λ z. z.job ≡ attaching) one w.job))

-- the call under way is answered, while the request under way is not the call's
pub ends-call : {who : Who} {now xid seq : ℕ} {attached : Bool} {call : Option UnderWay} {ticket : Option Ticket} {leases : List Lease}
    {notices : List Notice} → Asking who now attached call ticket xid seq leases notices → ticket_is_for_call ticket ≡ false
    → Asking who now attached None ticket xid seq leases notices
ends-call h other = record {
  ticketed = h.ticketed;
  waiting = λ e. let w = h.waiting e in record {
    request = w.request;
    asks = w.asks;
    job = w.job;
    idle = refl;
    no_lease = w.no_lease;
    no_notice =
        w.no_notice;
  };
  attaching = h.attaching;
  called =
      λ t e f. let bad : ticket_is_for_call (Some t) ≡ true = rw f refl in
      let not_it : ticket_is_for_call (Some t) ≡ false = subst (λ o. ticket_is_for_call o ≡ false) e other in cc;
  leased = h.leased;
  unwanted = h.unwanted;
  changed = h.changed;
}

-- another call is under way at an attached client
pub begins : {who : Who} {now xid seq : ℕ} {call : Option UnderWay} {ticket : Option Ticket} {leases : List Lease} {notices : List Notice}
    (u : UnderWay) → Asking who now true call ticket xid seq leases notices → Asking who now true (Some u) ticket xid seq leases notices
begins u h = record {
  ticketed = h.ticketed;
  waiting = λ e. absurd (cc);
  attaching = h.attaching;
  called = λ t e f. refl;
  leased = h.leased;
  unwanted = h.unwanted;
  changed = h.changed;
}

-- a lease is marked as used
marked-lease : (now f : ℕ) (l : Lease) → IsLease now l → IsLease now (marked_used f l)
marked-lease now f l h = record { term = rw (marked-term f l, marked-expiry f l) h.term; past = rw (marked-term f l, marked-expiry f l) h.past }

pub uses : {who : Who} {now xid seq : ℕ} {attached : Bool} {call : Option UnderWay} {ticket : Option Ticket} {leases : List Lease}
    {notices : List Notice} (f : ℕ) → Asking who now attached call ticket xid seq leases notices → Asking who now attached call ticket xid seq
    (used_lease f leases) notices
uses {now = now} {leases = leases} f h = record {
  ticketed = h.ticketed;
  waiting =
      λ e. let w = h.waiting e in record
      { request = w.request; asks = w.asks; job = w.job; idle = w.idle; no_lease = ap (used_lease f) w.no_lease; no_notice = w.no_notice };
  attaching = h.attaching;
  called = h.called;
  leased =
      λ file l e. let m = marked-before file f leases l e in
      subst (λ z. IsLease now z) (sym m.same) (marked-lease now f m.before (h.leased file m.before m.found));
  unwanted = h.unwanted;
  changed = λ t file e c. used-lease-found file f leases ∙ ap (option_map (marked_used f)) (h.changed t file e c);
}

-- a lease is dropped
pub drops : {who : Who} {now xid seq : ℕ} {attached : Bool} {call : Option UnderWay} {ticket : Option Ticket} {leases : List Lease}
    {notices : List Notice} (f : ℕ) → Asking who now attached call ticket xid seq leases notices
    → Asking who now attached call ticket xid seq (drop_lease f leases) notices
drops {leases = leases} f h = record {
  ticketed = h.ticketed;
  waiting =
      λ e. let w = h.waiting e in record
      { request = w.request; asks = w.asks; job = w.job; idle = w.idle; no_lease = ap (drop_lease f) w.no_lease; no_notice = w.no_notice };
  attaching = h.attaching;
  called = h.called;
  leased = λ file l e. h.leased file l (lease-before-drop f file leases l e).1;
  unwanted = h.unwanted;
  changed = λ t file e c. still-none file (lease_on file (drop_lease f leases)) refl (h.changed t file e c);
} where
  still-none : (file : ℕ) (o : Option Lease) → lease_on file (drop_lease f leases) ≡ o → lease_on file leases ≡ None
      → lease_on file (drop_lease f leases) ≡ None
  still-none file None e n = e
  still-none file (Some l) e n = none-some l (sym n ∙ (lease-before-drop f file leases l e).1)

-- a notice is dropped
pub drops-notice : {who : Who} {now xid seq : ℕ} {attached : Bool} {call : Option UnderWay} {ticket : Option Ticket} {leases : List Lease}
    {notices : List Notice} (f : ℕ) → Asking who now attached call ticket xid seq leases notices
    → Asking who now attached call ticket xid seq leases (drop_notice f notices)
drops-notice {notices = notices} f h = record {
  ticketed = h.ticketed;
  waiting =
      λ e. let w = h.waiting e in record
      { request = w.request; asks = w.asks; job = w.job; idle = w.idle; no_lease = w.no_lease; no_notice = ap (drop_notice f) w.no_notice };
  attaching = h.attaching;
  called = h.called;
  leased = h.leased;
  unwanted = λ file n t e. h.unwanted file n t (notice-before-drop f file notices n e).1;
  changed = h.changed;
}

-- numbers are drawn
pub draws : {who : Who} {now xid seq : ℕ} {attached : Bool} {call : Option UnderWay} {ticket : Option Ticket} {leases : List Lease}
    {notices : List Notice} (xid' seq' : ℕ) → xid ≤ xid' → seq ≤ seq' → Asking who now attached call ticket xid seq leases notices
    → Asking who now attached call ticket xid' seq' leases notices
draws {xid = xid} {seq = seq} xid' seq' more more' h = record {
  ticketed = λ t e. let k = h.ticketed t e in record {
    number = let below = k.number in omega arith;
    sent = k.sent;
    past = k.past;
    asks = k.asks;
    fits = k.fits;
    drawn = λ n s. let below = k.drawn n s in omega arith;
  };
  waiting = h.waiting;
  attaching = h.attaching;
  called = h.called;
  leased = h.leased;
  unwanted = h.unwanted;
  changed = h.changed;
}

-- the client is attached, and its request is spent
pub attaches : {who : Who} {now xid seq : ℕ} {attached : Bool} {call : Option UnderWay} {ticket : Option Ticket} {leases : List Lease}
    {notices : List Notice} → Asking who now attached call ticket xid seq leases notices → Asking who now true call None xid seq leases notices
attaches h = record {
  ticketed = λ t e. none-some t e;
  waiting = λ e. absurd (cc);
  attaching = λ t e. none-some t e;
  called = λ t e. none-some t e;
  leased = h.leased;
  unwanted = λ file n t a e. none-some t e;
  changed = λ t file e. none-some t e;
}

-- the request under way is spent by an attached client
pub spends : {who : Who} {now xid seq : ℕ} {call : Option UnderWay} {ticket : Option Ticket} {leases : List Lease} {notices : List Notice}
    → Asking who now true call ticket xid seq leases notices → Asking who now true call None xid seq leases notices
spends h = attaches h

-- a request that is sent by an attached client with none under way
pub record IsNext (who : Who) (call : Option UnderWay) (seq : ℕ) (leases : List Lease) (notices : List Notice) (job : Job) (request : Request) : Type 0 where
  pub asks : asker request ≡ Some who
  pub fits : fits_job job request ≡ true
  pub drawn : (n : ℕ) → sequence_of request ≡ Some n → n < seq
  pub no_attach : job ≡ attaching → ⊥
  pub called : job ≡ for_call → is_some call ≡ true
  pub unwanted : (file : ℕ) (n : Notice) → notice_on file notices ≡ Some n → wants_of file request ≡ false
  pub changed : (file : ℕ) → changes_file request ≡ Some file → lease_on file leases ≡ None

pub sends : {who : Who} {now xid seq : ℕ} {call : Option UnderWay} {ticket : Option Ticket} {leases : List Lease} {notices : List Notice} (job : Job)
    (request : Request) → Asking who now true call ticket xid seq leases notices → IsNext who call seq leases notices job request
    → Asking who now true call (Some (record { xid = xid; first = now; last = now; request = request; job = job })) (xid + 1) seq leases notices
sends {who = who} {now = now} {xid = xid} {seq = seq} {call = call} {leases = leases} job request h k = record {
  ticketed =
      λ t e. subst (λ z. IsTicket who now (xid + 1) seq z) (some-same new t e)
      (record { number = omega arith; sent = omega arith; past = omega arith; asks = k.asks; fits = k.fits; drawn = k.drawn });
  waiting = λ e. absurd (cc);
  attaching = λ t e j. absurd (k.no_attach (subst (λ z. z.job ≡ attaching) (sym (some-same new t e)) j));
  called = λ t e j. k.called (subst (λ z. z.job ≡ for_call) (sym (some-same new t e)) j);
  leased = h.leased;
  unwanted = λ file n t a e. subst (λ z. wants_of file z.request ≡ false) (some-same new t e) (k.unwanted file n a);
  changed = λ t file e c. k.changed file (subst (λ z. changes_file z.request ≡ Some file) (sym (some-same new t e)) c);
} where
  new : Ticket
  new = record { xid = xid; first = now; last = now; request = request; job = job }

-- the request under way is sent again
pub sends-again : {who : Who} {now xid seq : ℕ} {attached : Bool} {call : Option UnderWay} {ticket : Option Ticket} {leases : List Lease}
    {notices : List Notice} (t : Ticket) → ticket ≡ Some t → Asking who now attached call ticket xid seq leases notices
    → Asking who now attached call (Some (record t { last = now })) xid seq leases notices
sends-again {who = who} {now = now} {xid = xid} {seq = seq} {attached = attached} {call = call} {leases = leases} {notices = notices} t is h = record {
  ticketed =
      λ s e. subst (λ z. IsTicket who now xid seq z) (some-same again s e)
      (let k = h.ticketed t is in record
      { number = k.number; sent = let a = k.sent in let b = k.past in omega arith; past = omega arith; asks = k.asks; fits = k.fits; drawn = k.drawn });
  waiting =
      λ e. let w = h.waiting e in let one : w.request ≡ t = some-same w.request t (sym w.asks ∙ is) in
      record {
        request = again;
        asks = refl;
        job = subst (λ z. z.job ≡ attaching) one w.job;
        idle = w.idle;
        no_lease = w.no_lease;
        no_notice = w.no_notice;
      };
  attaching = λ s e j. h.attaching t is (subst (λ z. z.job ≡ attaching) (sym (some-same again s e)) j);
  called = λ s e j. h.called t is (subst (λ z. z.job ≡ for_call) (sym (some-same again s e)) j);
  leased = h.leased;
  unwanted = λ file n s a e. subst (λ z. wants_of file z.request ≡ false) (some-same again s e) (h.unwanted file n t a is);
  changed = λ s file e c. h.changed t file is (subst (λ z. changes_file z.request ≡ Some file) (sym (some-same again s e)) c);
} where
  again : Ticket
  again = record t { last = now }

-- a request that wants a lease on a file is cancelled
pub keeps-or-cancels : (f : ℕ) (ticket : Option Ticket) (t : Ticket) → cancelled f ticket ≡ Some t → (ticket ≡ Some t) × (wants_of f t.request ≡ false)
keeps-or-cancels f None t e = none-some t e
keeps-or-cancels f (Some s) t e = step (wants_of f s.request) refl e
  where
    step : (b : Bool) → wants_of f s.request ≡ b → (if b then None else Some s) ≡ Some t → (Some s ≡ Some t) × (wants_of f t.request ≡ false)
    step true w g = none-some t g
    step false w g = (g, subst (λ z. wants_of f z.request ≡ false) (some-same s t g) w)

attach-wants-none : (f : ℕ) (r : Request) → fits_job attaching r ≡ true → wants_of f r ≡ false
attach-wants-none f (Request.Attach who) h = refl
attach-wants-none f Request.Null h = refl
attach-wants-none f (Request.Lookup who name) h = refl
attach-wants-none f (Request.Create who seq name blocks) h = refl
attach-wants-none f (Request.GetAttr who file) h = refl
attach-wants-none f (Request.Read who q file block want) h = cc
attach-wants-none f (Request.Write who seq file block first last push body) h = refl
attach-wants-none f (Request.GetLease who file want) h = cc
attach-wants-none f (Request.Vacated who file tag) h = refl
attach-wants-none f (Request.Evicted who file tag) h = refl
attach-wants-none f (Request.Resize who seq q file blocks) h = refl
attach-wants-none f (Request.Remove who seq q file) h = refl

pub cancels : {who : Who} {now xid seq : ℕ} {attached : Bool} {call : Option UnderWay} {ticket : Option Ticket} {leases : List Lease}
    {notices : List Notice} (f : ℕ) → Asking who now attached call ticket xid seq leases notices
    → Asking who now attached call (cancelled f ticket) xid seq leases notices
cancels {attached = attached} {call = call} {ticket = ticket} {leases = leases} {notices = notices} f h = record {
  ticketed = λ t e. h.ticketed t (keeps-or-cancels f ticket t e).0;
  waiting = λ e. let w = h.waiting e in record {
    request = w.request;
    asks =
        kept w.request (wants_of f w.request.request) refl w.asks
        (attach-wants-none f w.request.request (subst (λ j. fits_job j w.request.request ≡ true) w.job (h.ticketed w.request w.asks).fits));
    job = w.job;
    idle = w.idle;
    no_lease = w.no_lease;
    no_notice = w.no_notice;
  };
  attaching = λ t e. h.attaching t (keeps-or-cancels f ticket t e).0;
  called = λ t e. h.called t (keeps-or-cancels f ticket t e).0;
  leased = h.leased;
  unwanted = λ file n t a e. h.unwanted file n t a (keeps-or-cancels f ticket t e).0;
  changed = λ t file e. h.changed t file (keeps-or-cancels f ticket t e).0;
} where
  kept : (t : Ticket) (b : Bool) → wants_of f t.request ≡ b → ticket ≡ Some t → wants_of f t.request ≡ false → cancelled f ticket ≡ Some t
  kept t b e is not_wanted = rw (is, not_wanted) refl

-- a notice waits for a file that the request under way does not want
pub notes : {who : Who} {now xid seq : ℕ} {call : Option UnderWay} {ticket : Option Ticket} {leases : List Lease} {notices : List Notice} (n : Notice)
    → ((t : Ticket) → ticket ≡ Some t → wants_of n.file t.request ≡ false) → Asking who now true call ticket xid seq leases notices
    → Asking who now true call ticket xid seq leases (put_notice n notices)
notes {ticket = ticket} {notices = notices} n spared h = record {
  ticketed = h.ticketed;
  waiting = λ e. absurd (cc);
  attaching = h.attaching;
  called = h.called;
  leased = h.leased;
  unwanted = λ file m t a e. case file m t e (notice-after-put n file notices m a);
  changed = h.changed;
} where
  case : (file : ℕ) (m : Notice) (t : Ticket) → ticket ≡ Some t → ((file ≡ n.file) × (m ≡ n)) ⊎ ((file ≢ n.file) × (notice_on file notices ≡ Some m))
      → wants_of file t.request ≡ false
  case file m t e (inl p) = subst (λ f. wants_of f t.request ≡ false) (sym p.0) (spared t e)
  case file m t e (inr p) = h.unwanted file m t p.1 e

-- a lease is held that was asked for in the past
pub holds : {who : Who} {now xid seq : ℕ} {call : Option UnderWay} {ticket : Option Ticket} {leases : List Lease} {notices : List Notice} (l : Lease)
    → IsLease now l → ((t : Ticket) → ticket ≡ Some t → changes_file t.request ≡ Some l.file → ⊥)
    → Asking who now true call ticket xid seq leases notices → Asking who now true call ticket xid seq (put_lease l leases) notices
holds {now = now} {ticket = ticket} {leases = leases} l past spared h = record {
  ticketed = h.ticketed;
  waiting = λ e. absurd (cc);
  attaching = h.attaching;
  called = h.called;
  leased = λ file m e. case file m (lease-after-put l file leases m e);
  unwanted = h.unwanted;
  changed = λ t file e c. none file t e c (lease_on file (put_lease l leases)) refl;
} where
  case : (file : ℕ) (m : Lease) → ((file ≡ l.file) × (m ≡ l)) ⊎ ((file ≢ l.file) × (lease_on file leases ≡ Some m)) → IsLease now m
  case file m (inl p) = subst (λ z. IsLease now z) (sym p.1) past
  case file m (inr p) = h.leased file m p.1

  none : (file : ℕ) (t : Ticket) → ticket ≡ Some t → changes_file t.request ≡ Some file → (o : Option Lease) → lease_on file (put_lease l leases) ≡ o
      → lease_on file (put_lease l leases) ≡ None
  none file t e c None f = f
  none file t e c (Some m) f = which (lease-after-put l file leases m f)
    where
      which : ((file ≡ l.file) × (m ≡ l)) ⊎ ((file ≢ l.file) × (lease_on file leases ≡ Some m)) → lease_on file (put_lease l leases) ≡ None
      which (inl p) = absurd (spared t e (c ∙ ap Some p.0))
      which (inr p) = none-some m (sym (h.changed t file e c) ∙ p.1)

-- time passes
pub passes : {who : Who} {now xid seq : ℕ} {attached : Bool} {call : Option UnderWay} {ticket : Option Ticket} {leases : List Lease}
    {notices : List Notice} (later : ℕ) → now ≤ later → Asking who now attached call ticket xid seq leases notices
    → Asking who later attached call ticket xid seq leases notices
passes {now = now} later more h = record {
  ticketed =
      λ t e. let k = h.ticketed t e in
      record { number = k.number; sent = k.sent; past = let a = k.past in omega arith; asks = k.asks; fits = k.fits; drawn = k.drawn };
  waiting = h.waiting;
  attaching = h.attaching;
  called = h.called;
  leased = λ file l e. let k = h.leased file l e in record { term = k.term; past = let a = k.past in omega arith };
  unwanted = h.unwanted;
  changed = h.changed;
}

-- a client that is to be attached
pub waits : (who : Who) (now : ℕ)
    → Asking who now false None (Some (record { xid = 1; first = now; last = now; request = Request.Attach who; job = attaching })) 2 1 [] []
waits who now = record {
  ticketed =
      λ t e. subst (λ z. IsTicket who now 2 1 z) (some-same first t e)
      (record { number = omega arith; sent = omega arith; past = omega arith; asks = refl; fits = refl; drawn = λ n d. none-some n d });
  waiting = λ e. record { request = first; asks = refl; job = refl; idle = refl; no_lease = refl; no_notice = refl };
  attaching = λ t e j. refl;
  called = λ t e j. let other : attaching ≡ for_call = subst (λ z. z.job ≡ for_call) (sym (some-same first t e)) j in absurd (cc);
  leased = λ file l e. none-some l e;
  unwanted = λ file n t a e. none-some n a;
  changed = λ t file e c. refl;
} where
  first : Ticket
  first = record { xid = 1; first = now; last = now; request = Request.Attach who; job = attaching }

-- a client that is attached from the start
pub starts : (who : Who) → Asking who 0 true None None 1 1 [] []
starts who = record {
  ticketed = λ t e. none-some t e;
  waiting = λ e. absurd (cc);
  attaching = λ t e. none-some t e;
  called = λ t e. none-some t e;
  leased = λ file l e. none-some l e;
  unwanted = λ file n t a e. none-some t e;
  changed = λ t file e. none-some t e;
}
