-- What is known of chained leases is kept where a write is delayed, a grant is taken, or a write was answered.
use Rattle.std.proofs.Common.{◌≡◌, ◌≢◌, ◌<◌, ◌⊎◌, ℕ, Bool, true, false, ◌==◌, List, Option, Some, None, is_some, refl, sym, subst, ap, ◌∙◌, arith, inl, inr}
use Rattle.std.proofs.lemmas.Bool.Decides.{nat_tests}
use Rattle.nq_base.specs.declared.Grant.{Grant}
use Rattle.nq_base.specs.declared.Mode.{Mode}
use Rattle.nq_base.specs.declared.Mode.TheVariants.{NonCaching, Reading, Writing}
use Rattle.nq_base.specs.declared.Push.{Push}
use Rattle.nq_base.specs.declared.Row.{Row}
use Rattle.nq_base.specs.declared.Tag.{Tag}
use Rattle.nq_base.specs.declared.Who.{Who}
use Rattle.walk_files.proofs.ChainFacts.{line_for, done_at, rev_at, GoesOnAs, IsFenced, gone, ahead, earlier, IsBoundOrFenced, bound, fenced}
use Rattle.walk_files.proofs.ChainLists.{rev-put, known-put, known-put-other, some-put, unclean-wrote, unclean-lost}
use Rattle.walk_files.proofs.ChainMoves.{View, Mid, Ready, mid-uses, mid-spends}
use Rattle.nq_model.specs.laws.Chained.{OwnRow, IsChained, due, KnowsFile}
use Rattle.nq_model.proofs.ClientLists.{lease-after-put, put-lease-found, other-lease-put}
use Rattle.walk_steps.proofs.ClientMoves.{some-same, none-some}
use Rattle.nq_model.specs.protocol.Client.{for_call, Lease, Ticket, UnderWay, lease_on, put_lease, used_lease, other_dirty, revision_of, put_revision}
use Rattle.nq_model.specs.protocol.Client.{is_clean_in}
use Rattle.nq_model.specs.protocol.Hear.{other_push, granted_lease}
use Rattle.nq_model.specs.laws.LeaseInterval.{is_at_least}
use Rattle.nq_model.specs.protocol.Message.{Packet}
use Rattle.nq_model.specs.protocol.Server.{Server, standing}
use Rattle.nq_model.specs.protocol.Settle.{with_write, ticket_is_for_call}
use Rattle.nq_model.specs.protocol.Table.{caches, is_writing, tag_below}
use Rattle.walk_steps.proofs.Modes.{writing-caches}
use Rattle.walk_steps.proofs.Rows.{same-number}
use Rattle.walk_steps.proofs.Tests.{is-other}

module _ (s : Server) (ps : List Packet) where
  -- a write is delayed under a writing lease that runs
  pub mid-delays : (v : View) (f block number : ℕ) (body : List ℕ) (o : Option Push) (lease : Lease) → ticket_is_for_call v.ticket ≡ false
      → lease_on f v.leases ≡ Some lease → is_writing lease.mode ≡ true → v.now < lease.expiry
      → ((u : UnderWay) → v.call ≡ Some u → u.through ≡ true → ⊥) → Mid s ps v
      → Mid s ps (record v { leases = used_lease f v.leases; dirty = with_write f block number body v.dirty o })
  mid-delays v f block number body o lease other held writes runs through h =
      mid-uses s ps (record v { dirty = with_write f block number body v.dirty o }) f
      (record {
        held = h.held;
        given = h.given;
        writes = record {
          held = λ file u. held-by file (file == f) refl u;
          bound = λ file l u e. bound-by file l (file == f) refl u e;
          pushed = h.writes.pushed;
          through = λ t w n file b x y z e job r. absurd (not-own t e job);
          leased = λ t w file want e job r. absurd (not-own t e job);
          marked = λ u e on. absurd (through u e on);
        };
        line = h.line;
        live = h.live;
        fresh = h.fresh;
      })
    where
      not-own : (t : Ticket) → v.ticket ≡ Some t → t.job ≡ for_call → ⊥
      not-own t e job = let yes : ticket_is_for_call v.ticket ≡ true = rw (e, job) refl in absurd (cc)

      before : (file : ℕ) → (file == f) ≡ false → is_clean_in file (with_write f block number body v.dirty o) v.push ≡ false
          → is_clean_in file v.dirty v.push ≡ false
      before file differs u = unclean-wrote file f block number body v.dirty o v.push (is-other file f differs) u

      held-by : (file : ℕ) (b : Bool) → (file == f) ≡ b → is_clean_in file (with_write f block number body v.dirty o) v.push ≡ false
          → (l : Lease) × (lease_on file v.leases ≡ Some l) × (is_writing l.mode ≡ true)
      held-by file true same u = (lease, subst (λ n. lease_on n v.leases ≡ Some lease) (sym (same-number file f same)) held, writes)
      held-by file false differs u = h.writes.held file (before file differs u)

      bound-by : (file : ℕ) (l : Lease) (b : Bool) → (file == f) ≡ b → is_clean_in file (with_write f block number body v.dirty o) v.push ≡ false
          → lease_on file v.leases ≡ Some l
          → IsBoundOrFenced (standing s) s.kept v.who file l.tag (due (done_at s.kept v.who v.ticket file) (rev_at v.revisions file))
      bound-by file l true same u e =
          let one : lease ≡ l = some-same lease l (sym held ∙ subst (λ n. lease_on n v.leases ≡ Some l) (same-number file f same) e) in
          let k = h.live file l e (writing-caches l.mode (subst (λ z. is_writing z.mode ≡ true) one writes)) (subst (λ z. v.now < z.expiry) one runs) in
          bound k.0 k.1
      bound-by file l false differs u e = h.writes.bound file l (before file differs u) e

  -- ---- a grant is taken

  -- a fenced file stays so under a lease of a later tag whose chain began no later than that of the lease that was held
  fenced-on : (v : View) (file : ℕ) (l : Lease) (g : Grant) (rev : ℕ) → tag_below l.tag g.since ≡ false → g.since.boot ≡ g.tag.boot
      → IsFenced s.kept file l.tag.boot rev → IsFenced s.kept file g.tag.boot rev
  fenced-on v file l g rev began same (gone none) = gone none
  fenced-on v file l g rev began same (ahead f found below) = ahead f found below
  fenced-on v file l g rev began same (earlier below) = earlier (boots l.tag g.since g.tag.boot s.kept.opened began same below)
    where
      boots : (a b : Tag) (boot opened : ℕ) → tag_below a b ≡ false → b.boot ≡ boot → a.boot < opened → boot < opened
      boots a b boot opened h e below = grind (arith, nat_tests)

  -- a later tag chains where an earlier one does
  still-chained : (who : Who) (file : ℕ) (a b : Tag) (row : Row) → tag_below a b ≡ true → IsChained (standing s) who file a row
      → IsChained (standing s) who file b row
  still-chained who file a b row later k = record { own = k.own; began = after a b row.since later k.began }
    where
      after : (a b since : Tag) → tag_below a b ≡ true → tag_below a since ≡ false → tag_below b since ≡ false
      after a b since x y = grind (arith, nat_tests)

  -- where a file has delayed writes, a grant that is taken goes on with the chain of the held lease
  pub mid-holds : (v : View) (f : ℕ) (g : Grant) (sent : ℕ) → v.ticket ≡ None → Ready s v f g sent
      → (is_clean_in f v.dirty v.push ≡ false → (l : Lease) → lease_on f v.leases ≡ Some l → tag_below l.tag g.since ≡ false) → Mid s ps v
      → Mid s ps (record v { leases = put_lease (granted_lease f g sent) v.leases; revisions = put_revision f g.rev v.revisions })
  unfolding granted_lease
  mid-holds v f g sent free ready whole h = record {
    held = record {
      known = λ file l e. known file l (lease-after-put m file v.leases l e);
      numbered = λ file l e. numbered file l (lease-after-put m file v.leases l e);
      chained = λ file l row e. chained file l row (lease-after-put m file v.leases l e);
      below = λ file l row e. below file l row (lease-after-put m file v.leases l e);
    };
    given = record { fits = λ file g t takes. none-some t (sym free ∙ takes.asked) };
    writes = record {
      held = λ file u. held-by file (file == f) refl u;
      bound = λ file l u e. bound-by file l u (lease-after-put m file v.leases l e);
      pushed = λ t w n file block first last base body e. none-some t (sym free ∙ e);
      through = λ t w n file b x y z e. none-some t (sym free ∙ e);
      leased = λ t w file want e. none-some t (sym free ∙ e);
      marked = h.writes.marked;
    };
    line = h.line;
    live = λ file l e. live file l (lease-after-put m file v.leases l e);
    fresh = h.fresh;
  } where
    m : Lease
    m = granted_lease f g sent

    undone : (file : ℕ) → done_at s.kept v.who v.ticket file ≡ false
    undone file = ap (λ o. done_at s.kept v.who o file) free

    known : (file : ℕ) (l : Lease) → ((file ≡ m.file) × (l ≡ m)) ⊎ ((file ≢ m.file) × (lease_on file v.leases ≡ Some l))
        → is_some (revision_of file (put_revision f g.rev v.revisions)) ≡ true
    known file l (inl p) = subst (λ n. is_some (revision_of n (put_revision f g.rev v.revisions)) ≡ true) (sym p.0) (ap is_some (rev-put f g.rev v.revisions))
    known file l (inr p) = some-put f g.rev file v.revisions (h.held.known file l p.1)

    numbered : (file : ℕ) (l : Lease) → ((file ≡ m.file) × (l ≡ m)) ⊎ ((file ≢ m.file) × (lease_on file v.leases ≡ Some l)) → file < s.kept.next
    numbered file l (inl p) = subst (λ n. n < s.kept.next) (sym p.0) ready.fits.numbered
    numbered file l (inr p) = h.held.numbered file l p.1

    chained : (file : ℕ) (l : Lease) (row : Row) → ((file ≡ m.file) × (l ≡ m)) ⊎ ((file ≢ m.file) × (lease_on file v.leases ≡ Some l))
        → caches l.mode ≡ true → IsChained (standing s) v.who file l.tag row
        → KnowsFile s.kept (line_for s.kept v.who) row.mode l.mode file (rev_at (put_revision f g.rev v.revisions) file) l.blocks
        (done_at s.kept v.who v.ticket file)
    chained file l row (inl p) c k =
        subst (λ z. KnowsFile s.kept (line_for s.kept v.who) row.mode z.mode file (rev_at (put_revision f g.rev v.revisions) file) z.blocks
        (done_at s.kept v.who v.ticket file)) (sym p.1)
        (subst (λ n. KnowsFile s.kept (line_for s.kept v.who) row.mode g.mode n (rev_at (put_revision f g.rev v.revisions) n) g.blocks
        (done_at s.kept v.who v.ticket n)) (sym p.0)
        (subst (λ r. KnowsFile s.kept (line_for s.kept v.who) row.mode g.mode f r g.blocks (done_at s.kept v.who v.ticket f))
        (sym (known-put f g.rev v.revisions))
        (subst (λ b. KnowsFile s.kept (line_for s.kept v.who) row.mode g.mode f g.rev g.blocks b) (sym (undone f))
        (ready.fits.chained row (ap (λ z. caches z.mode) (sym p.1) ∙ c)
        (subst (λ n. IsChained (standing s) v.who n g.tag row) p.0 (subst (λ z. IsChained (standing s) v.who file z.tag row) p.1 k))))))
    chained file l row (inr p) c k =
        subst (λ r. KnowsFile s.kept (line_for s.kept v.who) row.mode l.mode file r l.blocks (done_at s.kept v.who v.ticket file))
        (sym (known-put-other f g.rev file v.revisions p.0)) (h.held.chained file l row p.1 c k)

    below : (file : ℕ) (l : Lease) (row : Row) → ((file ≡ m.file) × (l ≡ m)) ⊎ ((file ≢ m.file) × (lease_on file v.leases ≡ Some l))
        → OwnRow (standing s) v.who file row → tag_below row.tag l.tag ≡ false
    below file l row (inl p) o =
        subst (λ z. tag_below row.tag z.tag ≡ false) (sym p.1) (ready.fits.below row (subst (λ n. OwnRow (standing s) v.who n row) p.0 o)).0
    below file l row (inr p) o = h.held.below file l row p.1 o

    live : (file : ℕ) (l : Lease) → ((file ≡ m.file) × (l ≡ m)) ⊎ ((file ≢ m.file) × (lease_on file v.leases ≡ Some l)) → caches l.mode ≡ true
        → v.now < l.expiry → (row : Row) × IsChained (standing s) v.who file l.tag row
    live file l (inl p) c runs =
        let k = ready.live (ap (λ z. caches z.mode) (sym p.1) ∙ c) (subst (λ z. v.now < z.expiry) p.1 runs) in
        (k.0, subst (λ z. IsChained (standing s) v.who file z.tag k.0) (sym p.1) (subst (λ n. IsChained (standing s) v.who n g.tag k.0) (sym p.0) k.1))
    live file l (inr p) c runs = h.live file l p.1 c runs

    -- the lease that was held over delayed writes
    was : is_clean_in f v.dirty v.push ≡ false → (l : Lease) × (lease_on f v.leases ≡ Some l) × (is_writing l.mode ≡ true)
    was u = h.writes.held f u

    granted-caches : is_clean_in f v.dirty v.push ≡ false → (b : Bool) → caches g.mode ≡ b → b ≡ true
    granted-caches u true c = refl
    granted-caches u false c =
        let l = was u in
        let one = ready.fits.ordered.alone c in
        let above = ready.fits.above l.0 l.1 in
        let began = whole u l.0 l.1 in
        let same : tag_below l.0.tag g.tag ≡ false = subst (λ t. tag_below l.0.tag t ≡ false) one began in
        absurd (cc)

    goes-on : (u : is_clean_in f v.dirty v.push ≡ false) → GoesOnAs g (was u).0 (rev_at v.revisions f)
    goes-on u = let l = was u in ready.fits.goes_on l.0 (granted-caches u (caches g.mode) refl) l.1 (writing-caches l.0.mode l.2) (whole u l.0 l.1)

    writes-still : (a b : Mode) → is_at_least a b ≡ true → is_writing b ≡ true → is_writing a ≡ true
    writes-still a NonCaching x y = cc
    writes-still a Reading x y = cc
    writes-still a Writing x y = x

    held-by : (file : ℕ) (b : Bool) → (file == f) ≡ b → is_clean_in file v.dirty v.push ≡ false
        → (l : Lease) × (lease_on file (put_lease m v.leases) ≡ Some l) × (is_writing l.mode ≡ true)
    held-by file true same u =
        let one : file ≡ f = same-number file f same in
        let v' : is_clean_in f v.dirty v.push ≡ false = subst (λ n. is_clean_in n v.dirty v.push ≡ false) one u in
        (m, put-lease-found m file v.leases one, writes-still g.mode (was v').0.mode (goes-on v').kind (was v').2)
    held-by file false differs u = let l = h.writes.held file u in (l.0, other-lease-put m file v.leases (is-other file f differs) ∙ l.1, l.2)

    bound-there : (u : is_clean_in f v.dirty v.push ≡ false)
        → IsBoundOrFenced (standing s) s.kept v.who f (was u).0.tag (due (done_at s.kept v.who v.ticket f) (rev_at v.revisions f))
        → IsBoundOrFenced (standing s) s.kept v.who f g.tag (due (done_at s.kept v.who v.ticket f) (rev_at v.revisions f))
    bound-there u (bound row k) = bound row (still-chained v.who f (was u).0.tag g.tag row (ready.fits.above (was u).0 (was u).1) k)
    bound-there u (fenced k) = fenced (fenced-on v f (was u).0 g _ (whole u (was u).0 (was u).1) ready.fits.ordered.boot k)

    bound-by : (file : ℕ) (l : Lease) → is_clean_in file v.dirty v.push ≡ false
        → ((file ≡ m.file) × (l ≡ m)) ⊎ ((file ≢ m.file) × (lease_on file v.leases ≡ Some l))
        → IsBoundOrFenced (standing s) s.kept v.who file l.tag (due (done_at s.kept v.who v.ticket file) (rev_at (put_revision f g.rev v.revisions) file))
    bound-by file l u (inl p) =
        let v' : is_clean_in f v.dirty v.push ≡ false = subst (λ n. is_clean_in n v.dirty v.push ≡ false) p.0 u in
        subst (λ z. IsBoundOrFenced (standing s) s.kept v.who file z.tag
        (due (done_at s.kept v.who v.ticket file) (rev_at (put_revision f g.rev v.revisions) file))) (sym p.1)
        (subst (λ n. IsBoundOrFenced (standing s) s.kept v.who n g.tag
        (due (done_at s.kept v.who v.ticket n) (rev_at (put_revision f g.rev v.revisions) n))) (sym p.0)
        (subst (λ r. IsBoundOrFenced (standing s) s.kept v.who f g.tag (due (done_at s.kept v.who v.ticket f) r))
        (sym (goes-on v').revision ∙ sym (known-put f g.rev v.revisions))
        (bound-there v' (h.writes.bound f (was v').0 v' (was v').1))))
    bound-by file l u (inr p) =
        subst (λ r. IsBoundOrFenced (standing s) s.kept v.who file l.tag (due (done_at s.kept v.who v.ticket file) r))
        (sym (known-put-other f g.rev file v.revisions p.0)) (h.writes.bound file l u p.1)

  -- ---- delayed writes are lost, and replies tell revisions

  clean-stays : (before after : Bool) → (after ≡ false → before ≡ false) → before ≡ true → after ≡ true
  clean-stays before true h was = refl
  clean-stays before false h was = let bad = h refl in absurd (cc)

  -- delayed writes of a file are lost, while no request is under way
  pub mid-loses : (v : View) (f : ℕ) → v.ticket ≡ None → Mid s ps v
      → Mid s ps (record v { ticket = None; dirty = other_dirty f v.dirty; push = other_push f v.push })
  mid-loses v f free h = mid-spends s ps v v.revisions (other_dirty f v.dirty) (other_push f v.push) (record {
    some = h.held.known;
    knows = λ file l row e c k. sym (ap (λ b. due b (rev_at v.revisions file)) (undone file));
    unclean = λ file u. unclean-lost f file v.dirty v.push u;
    bound = λ file u. sym (ap (λ b. due b (rev_at v.revisions file)) (undone file));
    marked =
        λ u e on. let k = h.writes.marked u e on in (
          k.0,
          k.1,
          clean-stays (is_clean_in k.0 v.dirty v.push) (is_clean_in k.0 (other_dirty f v.dirty) (other_push f v.push))
              (unclean-lost f k.0 v.dirty v.push) k.2,
        );
  }) h
    where
      undone : (file : ℕ) → done_at s.kept v.who v.ticket file ≡ false
      undone file = ap (λ o. done_at s.kept v.who o file) free

  -- what a reply that tells a file's revision must tell
  pub record Tells (v : View) (f rev : ℕ) (push : Option Push) : Type 0 where
    pub chained : (l : Lease) (row : Row) → lease_on f v.leases ≡ Some l → caches l.mode ≡ true → IsChained (standing s) v.who f l.tag row
        → rev ≡ due (done_at s.kept v.who v.ticket f) (rev_at v.revisions f)
    pub unclean : is_clean_in f v.dirty push ≡ false → rev ≡ due (done_at s.kept v.who v.ticket f) (rev_at v.revisions f)
    pub others : (file : ℕ) → file ≢ f → done_at s.kept v.who v.ticket file ≡ false
    pub fewer : (file : ℕ) → is_clean_in file v.dirty push ≡ false → is_clean_in file v.dirty v.push ≡ false

  pub mid-tells : (v : View) (f rev : ℕ) (push : Option Push) → Tells v f rev push → Mid s ps v
      → Mid s ps (record v { ticket = None; revisions = put_revision f rev v.revisions; push = push })
  mid-tells v f rev push k h = mid-spends s ps v (put_revision f rev v.revisions) v.dirty push (record {
    some = λ file l e. some-put f rev file v.revisions (h.held.known file l e);
    knows = λ file l row e c chained. knows file l row e c chained (file == f) refl;
    unclean = k.fewer;
    bound = λ file u. bounds file u (file == f) refl;
    marked =
        λ u e on. let m = h.writes.marked u e on in
        (m.0, m.1, clean-stays (is_clean_in m.0 v.dirty v.push) (is_clean_in m.0 v.dirty push) (k.fewer m.0) m.2);
  }) h
    where
      other : (file : ℕ) → file ≢ f → rev_at (put_revision f rev v.revisions) file ≡ due (done_at s.kept v.who v.ticket file) (rev_at v.revisions file)
      other file apart = known-put-other f rev file v.revisions apart ∙ sym (ap (λ b. due b (rev_at v.revisions file)) (k.others file apart))

      knows : (file : ℕ) (l : Lease) (row : Row) → lease_on file v.leases ≡ Some l → caches l.mode ≡ true → IsChained (standing s) v.who file l.tag row
          → (b : Bool) → (file == f) ≡ b → rev_at (put_revision f rev v.revisions) file ≡ due (done_at s.kept v.who v.ticket file) (rev_at v.revisions file)
      knows file l row e c chained true same =
          let one : file ≡ f = same-number file f same in
          subst (λ n. rev_at (put_revision f rev v.revisions) n ≡ due (done_at s.kept v.who v.ticket n) (rev_at v.revisions n)) (sym one)
          (known-put f rev v.revisions ∙ k.chained l row (subst (λ n. lease_on n v.leases ≡ Some l) one e) c
          (subst (λ n. IsChained (standing s) v.who n l.tag row) one chained))
      knows file l row e c chained false differs = other file (is-other file f differs)

      bounds : (file : ℕ) → is_clean_in file v.dirty push ≡ false → (b : Bool) → (file == f) ≡ b
          → rev_at (put_revision f rev v.revisions) file ≡ due (done_at s.kept v.who v.ticket file) (rev_at v.revisions file)
      bounds file u true same =
          let one : file ≡ f = same-number file f same in
          subst (λ n. rev_at (put_revision f rev v.revisions) n ≡ due (done_at s.kept v.who v.ticket n) (rev_at v.revisions n)) (sym one)
          (known-put f rev v.revisions ∙ k.unclean (subst (λ n. is_clean_in n v.dirty push ≡ false) one u))
      bounds file u false differs = other file (is-other file f differs)
