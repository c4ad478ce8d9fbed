-- What is known of chained leases is kept by each small change of a client.
use Rattle.std.proofs.Common.{◌≡◌, ◌≢◌, ◌<◌, ◌≤◌, ◌⊎◌, ℕ, ◌+◌, Bool, true, false, List, Option, Some, None, is_some, if◌then◌else◌, refl, sym, subst}
use Rattle.std.proofs.Common.{ap, ◌∙◌, arith, inl, inr}
use Rattle.nq_base.specs.declared.Grant.{Grant}
use Rattle.nq_base.specs.declared.Push.{Push}
use Rattle.nq_base.specs.declared.PushBase.{PushBase}
use Rattle.nq_base.specs.declared.Reply.{Reply}
use Rattle.nq_base.specs.declared.Request.{Request}
use Rattle.nq_base.specs.declared.Row.{Row}
use Rattle.nq_base.specs.declared.Want.{Want}
use Rattle.nq_base.specs.declared.Who.{Who}
use Rattle.walk_files.proofs.ChainFacts.{VerdictFits, line_for, done_at, rev_at, HeldChains, GrantFits, GivenChains, IsBoundOrFenced, IsPushed}
use Rattle.walk_files.proofs.ChainFacts.{file_written, WriteChains, LineChains}
use Rattle.walk_files.proofs.ChainLists.{WasLease, was-used, was-dropped, StillLease, still-used, still-dropped}
use Rattle.nq_model.specs.laws.Chained.{IsChained, has_done, due, KnowsFile}
use Rattle.walk_steps.proofs.ClientMoves.{some-same, none-some}
use Rattle.walk_steps.proofs.ClientWrites.{writes-under-way}
use Rattle.nq_model.specs.protocol.Client.{Job, for_call, Lease, Revision, Ticket, UnderWay, lease_on, drop_lease, used_lease, is_push_of, push_passes}
use Rattle.nq_model.specs.protocol.Client.{revision_of, is_clean_in}
use Rattle.nq_model.specs.protocol.Decide.{verdict_reply}
use Rattle.nq_model.specs.protocol.Hear.{wants_of, inc_of, cancelled}
use Rattle.nq_model.specs.protocol.Kept.{Kept}
use Rattle.nq_model.specs.laws.LeaseInterval.{is_at_least, requested_file}
use Rattle.nq_model.specs.protocol.Message.{Packet, reply, sequence_of}
use Rattle.nq_model.specs.protocol.Server.{Server, standing}
use Rattle.nq_model.specs.protocol.Settle.{ticket_is_for_call}
use Rattle.nq_model.specs.protocol.Table.{Table, caches, is_writing, tag_below}
use Rattle.walk_steps.proofs.CoverFacts.{IsTakeable}
use Rattle.walk_steps.proofs.Packets.{Told}
use Rattle.walk_steps.proofs.Rows.{number-same}

-- what of a client its chains speak of
pub record View : Type 0 where
  pub who : Who
  pub now : ℕ
  pub ticket : Option Ticket
  pub call : Option UnderWay
  pub xid : ℕ
  pub seq : ℕ
  pub leases : List Lease
  pub revisions : List Revision
  pub dirty : List Push
  pub push : Option Push

-- in the middle of a client's step, with the packets from before it
pub record Mid (s : Server) (ps : List Packet) (v : View) : Type 0 where
  pub held : HeldChains (standing s) s.kept v.who v.ticket v.leases v.revisions
  pub given : GivenChains (standing s) s.kept v.who v.ticket v.leases v.revisions ps
  pub writes : WriteChains (standing s) s.kept v.who v.ticket v.call v.leases v.revisions v.dirty v.push
  pub line : LineChains s.kept v.who v.seq v.ticket ps
  -- a caching lease that runs is chained
  pub live : (file : ℕ) (l : Lease) → lease_on file v.leases ≡ Some l → caches l.mode ≡ true → v.now < l.expiry
      → (row : Row) × IsChained (standing s) v.who file l.tag row
  -- no reply is there to a request that is not sent yet
  pub fresh : (x : ℕ) (a : Reply) → Told ps v.who.host (reply x a) → inc_of a ≡ v.who.inc → x < v.xid

-- a grant that is about to be taken, with a term that counts from this time
pub record Ready (s : Server) (v : View) (file : ℕ) (g : Grant) (sent : ℕ) : Type 0 where
  pub fits : GrantFits (standing s) s.kept v.who v.leases v.revisions file g
  pub live : caches g.mode ≡ true → v.now < sent + g.term → (row : Row) × IsChained (standing s) v.who file g.tag row

-- ---- leases that go, or are marked

pub grant-leases : {table : Table} {kept : Kept} {who : Who} {leases : List Lease} {revisions : List Revision} {file : ℕ} {g : Grant}
    (less : List Lease) → ((l : Lease) → lease_on file less ≡ Some l → WasLease leases file l) → GrantFits table kept who leases revisions file g
    → GrantFits table kept who less revisions file g
grant-leases {revisions = revisions} {file = file} {g = g} less from h = record {
  numbered = h.numbered;
  ordered = h.ordered;
  chained = h.chained;
  goes_on = λ l c e d began.
      let m = from l e in
      let k = h.goes_on m.before c m.found (ap caches (sym m.mode) ∙ d) (subst (λ t. tag_below t g.since ≡ false) m.tag began) in
      record { kind = subst (λ mode. is_at_least g.mode mode ≡ true) (sym m.mode) k.kind; revision = k.revision; length = k.length ∙ sym m.blocks };
  above = λ l e. let m = from l e in subst (λ t. tag_below t g.tag ≡ true) (sym m.tag) (h.above m.before m.found);
  below = h.below;
}

module _ (s : Server) (ps : List Packet) where
  table : Table
  table = standing s

  mid-leases : (v : View) (less : List Lease) → ((file : ℕ) (l : Lease) → lease_on file less ≡ Some l → WasLease v.leases file l)
      → ((file : ℕ) (l : Lease) → is_clean_in file v.dirty v.push ≡ false → lease_on file v.leases ≡ Some l → StillLease less file l) → Mid s ps v
      → Mid s ps (record v { leases = less })
  mid-leases v less from still h = record {
    held = record {
      known = λ file l e. let m = from file l e in h.held.known file m.before m.found;
      numbered = λ file l e. let m = from file l e in h.held.numbered file m.before m.found;
      chained = λ file l row e c k.
          let m = from file l e in
          subst (λ mode. KnowsFile s.kept (line_for s.kept v.who) row.mode mode file (rev_at v.revisions file) l.blocks
          (done_at s.kept v.who v.ticket file)) (sym m.mode)
          (subst (λ b. KnowsFile s.kept (line_for s.kept v.who) row.mode m.before.mode file (rev_at v.revisions file) b
          (done_at s.kept v.who v.ticket file)) (sym m.blocks)
          (h.held.chained file m.before row m.found (ap caches (sym m.mode) ∙ c) (subst (λ t. IsChained (standing s) v.who file t row) m.tag k)));
      below = λ file l row e o. let m = from file l e in subst (λ t. tag_below row.tag t ≡ false) (sym m.tag) (h.held.below file m.before row m.found o);
    };
    given = record { fits = λ file g t k. grant-leases less (from file) (h.given.fits file g t k) };
    writes = record {
      held =
          λ file u. let l = h.writes.held file u in let m = still file l.0 u l.1 in
          (m.after, m.found, subst (λ mode. is_writing mode ≡ true) (sym m.mode) l.2);
      bound =
          λ file l u e. let m = from file l e in
          subst (λ t. IsBoundOrFenced (standing s) s.kept v.who file t (due (done_at s.kept v.who v.ticket file) (rev_at v.revisions file))) (sym m.tag)
          (h.writes.bound file m.before u m.found);
      pushed = λ t w n file block first last base body e r.
          let p = h.writes.pushed t w n file block first last base body e r in
          let m = still file p.lease (pushed-unclean file _ v.push p.under_way) p.held in
          record { under_way = p.under_way; of_file = p.of_file; lease = m.after; held = m.found; boot = p.boot ∙ ap (λ t. t.boot) (sym m.tag); rev = p.rev };
      through = h.writes.through;
      leased = h.writes.leased;
      marked = h.writes.marked;
    };
    line = h.line;
    live =
        λ file l e c runs. let m = from file l e in
        let k = h.live file m.before m.found (ap caches (sym m.mode) ∙ c) (let same = m.expiry in omega arith) in
        (k.0, subst (λ t. IsChained (standing s) v.who file t k.0) (sym m.tag) k.1);
    fresh = h.fresh;
  } where
    pushed-unclean : (file : ℕ) (p : Push) (push : Option Push) → push ≡ Some p → is_clean_in p.file v.dirty push ≡ false
    pushed-unclean file p push e =
        writes-under-way p.file v.dirty push (subst (λ o. push_passes (is_push_of p.file) o ≡ true) (sym e) (number-same p.file p.file refl))

  -- a lease is marked as used
  pub mid-uses : (v : View) (f : ℕ) → Mid s ps v → Mid s ps (record v { leases = used_lease f v.leases })
  mid-uses v f h = mid-leases v (used_lease f v.leases) (was-used f v.leases) (λ file l u e. still-used f v.leases file l e) h

  -- the lease of a clean file goes
  pub mid-drops : (v : View) (f : ℕ) → is_clean_in f v.dirty v.push ≡ true → Mid s ps v → Mid s ps (record v { leases = drop_lease f v.leases })
  mid-drops v f clean h = mid-leases v (drop_lease f v.leases) (was-dropped f v.leases) (λ file l u e. still-dropped f v.leases file l (apart file u) e) h
    where
      apart : (file : ℕ) → is_clean_in file v.dirty v.push ≡ false → file ≢ f
      apart file u same = let yes : is_clean_in file v.dirty v.push ≡ true = subst (λ n. is_clean_in n v.dirty v.push ≡ true) (sym same) clean in absurd (cc)

  -- ---- the call under way

  -- another call, or none, is under way, while the request under way is not the call's
  pub mid-calls : (v : View) (call : Option UnderWay) → ticket_is_for_call v.ticket ≡ false
      → ((u : UnderWay) → call ≡ Some u → u.through ≡ true → (file : ℕ) × (file_written u.call ≡ Some file) × (is_clean_in file v.dirty v.push ≡ true))
      → Mid s ps v → Mid s ps (record v { call = call })
  mid-calls v call other marked h = record {
    held = h.held;
    given = h.given;
    writes = record {
      held = h.writes.held;
      bound = h.writes.bound;
      pushed = h.writes.pushed;
      through = h.writes.through;
      leased = λ t w file want e job r. absurd (not-own t e job);
      marked = marked;
    };
    line = h.line;
    live = h.live;
    fresh = h.fresh;
  } where
    not-own : (t : Ticket) → v.ticket ≡ Some t → t.job ≡ for_call → ⊥
    not-own t e job = let yes : ticket_is_for_call v.ticket ≡ true = rw (e, job) refl in absurd (cc)

  -- ---- the request under way

  -- a view without a request under way, of the same leases, with other revisions and delayed writes
  pub record Spends (v : View) (revisions : List Revision) (dirty : List Push) (push : Option Push) : Type 0 where
    pub some : (file : ℕ) (l : Lease) → lease_on file v.leases ≡ Some l → is_some (revision_of file revisions) ≡ true
    pub knows : (file : ℕ) (l : Lease) (row : Row) → lease_on file v.leases ≡ Some l → caches l.mode ≡ true
        → IsChained (standing s) v.who file l.tag row → rev_at revisions file ≡ due (done_at s.kept v.who v.ticket file) (rev_at v.revisions file)
    pub unclean : (file : ℕ) → is_clean_in file dirty push ≡ false → is_clean_in file v.dirty v.push ≡ false
    pub bound : (file : ℕ) → is_clean_in file dirty push ≡ false → rev_at revisions file ≡ due (done_at s.kept v.who v.ticket file) (rev_at v.revisions file)
    pub marked : (u : UnderWay) → v.call ≡ Some u → u.through ≡ true → (file : ℕ) × (file_written u.call ≡ Some file) × (is_clean_in file dirty push ≡ true)

  pub mid-spends : (v : View) (revisions : List Revision) (dirty : List Push) (push : Option Push) → Spends v revisions dirty push → Mid s ps v
      → Mid s ps (record v { ticket = None; revisions = revisions; dirty = dirty; push = push })
  mid-spends v revisions dirty push k h = record {
    held = record {
      known = k.some;
      numbered = h.held.numbered;
      chained = λ file l row e c chained.
          let was = h.held.chained file l row e c chained in
          record {
            kind = was.kind;
            f = was.f;
            found = was.found;
            revision = was.revision
                ∙ sym (k.knows file l row e c chained);
            length = was.length;
            value = λ bad. absurd (cc);
          };
      below = h.held.below;
    };
    given = record { fits = λ file g t takes. none-takes file g t takes };
    writes = record {
      held = λ file u. h.writes.held file (k.unclean file u);
      bound =
          λ file l u e. subst (λ r. IsBoundOrFenced (standing s) s.kept v.who file l.tag r) (sym (k.bound file u))
          (h.writes.bound file l (k.unclean file u) e);
      pushed = λ t w n file block first last base body e. none-some t e;
      through = λ t w n file block first last body e. none-some t e;
      leased = λ t w file want e. none-some t e;
      marked = k.marked;
    };
    line =
        record {
          above = h.line.above;
          drawn = h.line.drawn;
          last = λ t n e. none-some t e;
          replied = λ x a t n told inc e. none-some t e;
          decided = λ t n e. none-some t e;
        };
    live = h.live;
    fresh = h.fresh;
  } where
    none-takes : (file : ℕ) (g : Grant) (t : Ticket) → IsTakeable ps v.who None file g t → GrantFits (standing s) s.kept v.who v.leases revisions file g
    none-takes file g t k = none-some t k.asked

  -- a request was not done to any file
  abbrev pub NotDone : View → Type 0
  NotDone v = (file : ℕ) → done_at s.kept v.who v.ticket file ≡ false

  -- the request under way is spent, and was not done
  pub mid-spent : (v : View) → NotDone v → Mid s ps v → Mid s ps (record v { ticket = None })
  mid-spent v undone h = mid-spends v v.revisions v.dirty v.push (record {
    some = h.held.known;
    knows = λ file l row e c k. sym (ap (λ b. due b (rev_at v.revisions file)) (undone file));
    unclean = λ file u. u;
    bound = λ file u. sym (ap (λ b. due b (rev_at v.revisions file)) (undone file));
    marked = h.writes.marked;
  }) h

  -- a request that wants a lease is cancelled
  wants-undone : (f : ℕ) (r : Request) (who : Who) → wants_of f r ≡ true → (file : ℕ) → has_done (line_for s.kept who) who.inc file r ≡ false
  wants-undone f (Request.Write w n file block first last push body) who wants g = absurd (cc)
  wants-undone f other who wants g = refl

  cancelled-or : (f : ℕ) (who : Who) (o : Option Ticket) → (cancelled f o ≡ o) ⊎ ((cancelled f o ≡ None) × ((file : ℕ) → done_at s.kept who o file ≡ false))
  cancelled-or f who None = inl refl
  cancelled-or f who (Some t) = step (wants_of f t.request) refl
    where
      step : (b : Bool) → wants_of f t.request ≡ b
          → ((if b then None else Some t) ≡ Some t) ⊎ (((if b then None else Some t) ≡ None) × ((file : ℕ) → done_at s.kept who (Some t) file ≡ false))
      step true e = inr (refl, wants-undone f t.request who e)
      step false e = inl refl

  pub mid-cancels : (v : View) (f : ℕ) → Mid s ps v → Mid s ps (record v { ticket = cancelled f v.ticket })
  mid-cancels v f h = step (cancelled-or f v.who v.ticket)
    where
      step : (cancelled f v.ticket ≡ v.ticket) ⊎ ((cancelled f v.ticket ≡ None) × NotDone v) → Mid s ps (record v { ticket = cancelled f v.ticket })
      step (inl same) = subst (λ o. Mid s ps (record v { ticket = o })) (sym same) h
      step (inr gone) = subst (λ o. Mid s ps (record v { ticket = o })) (sym gone.0) (mid-spent v gone.1 h)

  -- the request under way is sent again
  again : (v : View) (t u : Ticket) → u.xid ≡ t.xid → u.request ≡ t.request → u.job ≡ t.job → Mid s ps (record v { ticket = Some t })
      → Mid s ps (record v { ticket = Some u })
  again v t u xid request job h = record {
    held = record {
      known = h.held.known;
      numbered = h.held.numbered;
      chained =
          λ file l row e c k. subst (λ r. KnowsFile s.kept (line_for s.kept v.who) row.mode l.mode file (rev_at v.revisions file) l.blocks
          (has_done (line_for s.kept v.who) v.who.inc file r)) (sym request) (h.held.chained file l row e c k);
      below = h.held.below;
    };
    given =
        record {
          fits = λ file g w k. h.given.fits file g t
              (record {
                x = k.x;
                a = k.a;
                told = k.told;
                inc = k.inc;
                asked = refl;
                number = sym xid ∙ ap (λ z. z.xid) (some-same u w k.asked)
                    ∙ k.number;
                on_file = ap requested_file (sym request) ∙ ap (λ z. requested_file z.request) (some-same u w k.asked)
                    ∙ k.on_file;
                gives = k.gives;
              });
        };
    writes = record {
      held = h.writes.held;
      bound =
          λ file l n e. subst (λ r. IsBoundOrFenced (standing s) s.kept v.who file l.tag
          (due (has_done (line_for s.kept v.who) v.who.inc file r) (rev_at v.revisions file))) (sym request) (h.writes.bound file l n e);
      pushed =
          λ w x n file block first last base body e r. h.writes.pushed t x n file block first last base body refl
          (sym request ∙ ap (λ z. z.request) (some-same u w e) ∙ r);
      through =
          λ w x n file block first last body e j r. h.writes.through t x n file block first last body refl
          (sym job ∙ ap (λ z. z.job) (some-same u w e) ∙ j) (sym request ∙ ap (λ z. z.request) (some-same u w e) ∙ r);
      leased =
          λ w x file want e j r. h.writes.leased t x file want refl (sym job ∙ ap (λ z. z.job) (some-same u w e) ∙ j)
          (sym request ∙ ap (λ z. z.request) (some-same u w e) ∙ r);
      marked = h.writes.marked;
    };
    line = record {
      above = h.line.above;
      drawn = h.line.drawn;
      last = λ w n e sq. h.line.last t n refl (ap sequence_of (sym request ∙ ap (λ z. z.request) (some-same u w e)) ∙ sq);
      replied = λ x a w n told inc e number sq.
          let same = sym request ∙ ap (λ z. z.request) (some-same u w e) in
          h.line.replied x a t n told inc refl (sym xid ∙ ap (λ z. z.xid) (some-same u w e) ∙ number) (ap sequence_of same ∙ sq)
          ∙ ap (λ r. verdict_reply v.who.inc (line_for s.kept v.who).verdict (line_for s.kept v.who).value r) same;
      decided = λ w n e sq kept is.
          let same = sym request ∙ ap (λ z. z.request) (some-same u w e) in
          subst (λ r. VerdictFits r (line_for s.kept v.who).verdict (line_for s.kept v.who).value) same
          (h.line.decided t n refl (ap sequence_of same ∙ sq) kept is);
    };
    live = h.live;
    fresh = h.fresh;
  }

  pub mid-again : (v : View) (t : Ticket) → v.ticket ≡ Some t → Mid s ps v → Mid s ps (record v { ticket = Some (record t { last = v.now }) })
  mid-again v t is h = again v t (record t { last = v.now }) refl refl refl (subst (λ o. Mid s ps (record v { ticket = o })) is h)

  -- time passes
  pub mid-passes : (v : View) (later : ℕ) → v.now ≤ later → Mid s ps v → Mid s ps (record v { now = later })
  mid-passes v later more h =
      record {
        held = h.held;
        given = h.given;
        writes = h.writes;
        line = h.line;
        live = λ file l e c runs. h.live file l e c (omega arith);
        fresh = h.fresh;
      }

  -- ---- requests

  -- the ticket of a request that is sent
  abbrev pub new_ticket : View → Job → Request → Ticket
  new_ticket v job request = record { xid = v.xid; first = v.now; last = v.now; request = request; job = job }

  -- what a new request needs
  pub record CanAsk (v : View) (job : Job) (request : Request) (seq : ℕ) (dirty : List Push) (push : Option Push) : Type 0 where
    pub free : v.ticket ≡ None
    pub no_fewer : v.seq ≤ seq
    pub undone : (file : ℕ) → has_done (line_for s.kept v.who) v.who.inc file request ≡ false
    pub last : (n : ℕ) → sequence_of request ≡ Some n → n + 1 ≡ seq
    pub above : (n : ℕ) → sequence_of request ≡ Some n → (line_for s.kept v.who).inc ≡ v.who.inc → (line_for s.kept v.who).seq < n
    pub unclean : (file : ℕ) → is_clean_in file dirty push ≡ false → is_clean_in file v.dirty v.push ≡ false
    pub pushed : (w : Who) (n file block first last : ℕ) (base : PushBase) (body : List ℕ)
        → request ≡ Request.Write w n file block first last (Some base) body
        → IsPushed v.leases v.revisions push file base (record { file = file; block = block; first = first; last = last; body = body })
    pub through : (w : Who) (n file block first last : ℕ) (body : List ℕ) → job ≡ for_call → request ≡ Request.Write w n file block first last None body
        → is_clean_in file dirty push ≡ true
    pub leased : (w : Who) (file : ℕ) (want : Want) → job ≡ for_call → request ≡ Request.GetLease w file want
        → (u : UnderWay) × (v.call ≡ Some u) × (file_written u.call ≡ Some file) × (is_clean_in file dirty push ≡ true)
    pub marked : (u : UnderWay) → v.call ≡ Some u → u.through ≡ true → (file : ℕ) × (file_written u.call ≡ Some file) × (is_clean_in file dirty push ≡ true)

  pub mid-sends : (v : View) (job : Job) (request : Request) (seq : ℕ) (dirty : List Push) (push : Option Push) → CanAsk v job request seq dirty push
      → Mid s ps v → Mid s ps (record v { ticket = Some (new_ticket v job request); xid = v.xid + 1; seq = seq; dirty = dirty; push = push })
  mid-sends v job request seq dirty push k h = record {
    held = record {
      known = h.held.known;
      numbered = h.held.numbered;
      chained =
          λ file l row e c chained. subst (λ b. KnowsFile s.kept (line_for s.kept v.who) row.mode l.mode file (rev_at v.revisions file) l.blocks b)
          (undone-before file ∙ sym (k.undone file)) (h.held.chained file l row e c chained);
      below = h.held.below;
    };
    given = record { fits = λ file g u takes. absurd (unanswered u takes.asked takes.x takes.a takes.told takes.inc takes.number) };
    writes = record {
      held = λ file u. h.writes.held file (k.unclean file u);
      bound =
          λ file l u e. subst (λ b. IsBoundOrFenced (standing s) s.kept v.who file l.tag (due b (rev_at v.revisions file)))
          (undone-before file ∙ sym (k.undone file)) (h.writes.bound file l (k.unclean file u) e);
      pushed =
          λ t w n file block first last base body e r. k.pushed w n file block first last base body
          (ap (λ z. z.request) (some-same (new_ticket v job request) t e) ∙ r);
      through =
          λ t w n file block first last body e j r. k.through w n file block first last body
          (ap (λ z. z.job) (some-same (new_ticket v job request) t e) ∙ j) (ap (λ z. z.request) (some-same (new_ticket v job request) t e) ∙ r);
      leased =
          λ t w file want e j r. k.leased w file want (ap (λ z. z.job) (some-same (new_ticket v job request) t e) ∙ j)
          (ap (λ z. z.request) (some-same (new_ticket v job request) t e) ∙ r);
      marked = k.marked;
    };
    line = record {
      above = let some = h.line.above in let more = k.no_fewer in omega arith;
      drawn = λ kept. let below = h.line.drawn kept in let more = k.no_fewer in omega arith;
      last = λ t n e sq. k.last n (ap (λ z. sequence_of z.request) (some-same (new_ticket v job request) t e) ∙ sq);
      replied = λ x a t n told inc e number sq. absurd (unanswered t e x a told inc number);
      decided =
          λ t n e sq kept is. let above = k.above n (ap (λ z. sequence_of z.request) (some-same (new_ticket v job request) t e) ∙ sq) kept in
          absurd (omega arith);
    };
    live = h.live;
    fresh = λ x a told inc. let below = h.fresh x a told inc in omega arith;
  } where
    undone-before : (file : ℕ) → done_at s.kept v.who v.ticket file ≡ false
    undone-before file = ap (λ o. done_at s.kept v.who o file) k.free

    unanswered : (t : Ticket) → Some (new_ticket v job request) ≡ Some t → (x : ℕ) (a : Reply) → Told ps v.who.host (reply x a) → inc_of a ≡ v.who.inc
        → t.xid ≡ x → ⊥
    unanswered t e x a told inc number =
        let below = h.fresh x a told inc in let one : v.xid ≡ t.xid = ap (λ z. z.xid) (some-same (new_ticket v job request) t e) in omega arith
