-- What chained leases know of their files, as delayed writes need it.
use Rattle.std.proofs.Common.{◌≡◌, ℕ, Bool, true, false, List, Some, refl, sym, subst, ap, ◌∙◌, arith}
use Rattle.std.proofs.lemmas.Bool.Decides.{nat_tests}
use Rattle.nq_base.specs.declared.Grant.{Grant}
use Rattle.nq_base.specs.declared.Mode.TheVariants.{Writing}
use Rattle.nq_base.specs.declared.Row.{Row}
use Rattle.nq_base.specs.declared.Tag.{Tag}
use Rattle.walk_files.proofs.ChainFacts.{ChainFits, GrantFits, GoesOnAs, line_for, done_at, rev_at}
use Rattle.nq_model.specs.laws.Chained.{OwnRow, KnowsFile}
use Rattle.walk_steps.proofs.ClientMoves.{some-same}
use Rattle.walk_steps.proofs.BoundBefore.{Stood}
use Rattle.walk_files.proofs.BoundRows.{IsBound, bound-fitting, fitting-bound}
use Rattle.walk_files.proofs.HoldingReplies.{TakesFit}
use Rattle.walk_files.proofs.Holdings.{IsHeldBound}
use Rattle.nq_model.specs.protocol.Client.{Client, Lease, Ticket, is_clean, lease_on, lets_write}
use Rattle.nq_model.specs.protocol.Hear.{granted_lease}
use Rattle.nq_model.specs.laws.LeaseInterval.{claim_of, HasFitting}
use Rattle.nq_model.specs.protocol.Message.{Packet}
use Rattle.nq_model.specs.protocol.Server.{Server, standing}
use Rattle.nq_model.specs.protocol.Table.{caches, is_writing, tag_below}
use Rattle.walk_steps.proofs.CoverFacts.{IsTakeable}
use Rattle.walk_steps.proofs.ServerTables.{BootsFitOf, StandingFitsOf}
use Rattle.walk_steps.proofs.Modes.{writing-caches, at-least-writing}
use Rattle.walk_steps.proofs.Rows.{found-row}

-- the order of tags
later-not : (held since row : Tag) → tag_below held since ≡ true → tag_below row since ≡ false → tag_below held row ≡ false → ⊥
later-not held since row a b c = order held.boot held.number since.boot since.number row.boot row.number a b c
  where
    order : (a m b n d k : ℕ) → tag_below (record { boot = a; number = m }) (record { boot = b; number = n }) ≡ true
        → tag_below (record { boot = d; number = k }) (record { boot = b; number = n }) ≡ false
        → tag_below (record { boot = a; number = m }) (record { boot = d; number = k }) ≡ false → ⊥
    order a m b n d k x y z = absurd (grind (arith, nat_tests))

still-above : (held given row : Tag) → tag_below held given ≡ true → tag_below held row ≡ false → tag_below given row ≡ false
still-above held given row a b = order held.boot held.number given.boot given.number row.boot row.number a b
  where
    order : (a m b n d k : ℕ) → tag_below (record { boot = a; number = m }) (record { boot = b; number = n }) ≡ true
        → tag_below (record { boot = a; number = m }) (record { boot = d; number = k }) ≡ false
        → tag_below (record { boot = b; number = n }) (record { boot = d; number = k }) ≡ false
    order a m b n d k x y = grind (arith, nat_tests)

module _ (s : Server) (c : Client) (ps : List Packet) (k : ChainFits s c ps) (boots : BootsFitOf s) (stands : StandingFitsOf s) where
  -- the own row of a bound file
  own-row : (file : ℕ) (tag : Tag) → IsBound s s.phase c.who file tag
      → (row : Row) × OwnRow (standing s) c.who file row × (tag_below tag row.since ≡ false) × (is_writing row.mode ≡ true)
  own-row file tag b =
      let f : HasFitting (claim_of c.who file Writing tag 0) (standing s) = bound-fitting s s.phase c.who file tag b in
      (f.row, record { stands = f.stands; holder = f.fits.holder }, f.fits.began, f.fits.kind)

  -- a file that is held writing is bound where its row stands with a chain that began no later
  pub stood-bound : (file : ℕ) (l : Lease) → lease_on file c.leases ≡ Some l → is_writing l.mode ≡ true → Stood c.who file l.tag (standing s).rows
      → IsHeldBound s c.who c.leases file
  stood-bound file l held writes stood =
      let own : OwnRow (standing s) c.who file stood.row = record { stands = stood.stands; holder = stood.holder } in
      let knows = k.held.chained file l stood.row held (writing-caches l.mode writes) (record { own = own; began = stood.began }) in
      record {
        lease = l;
        held = held;
        writes = writes;
        bound = fitting-bound s s.phase c.who file l.tag boots stands (record {
          row = stood.row;
          stands = stood.stands;
          fits = record {
            holder = stood.holder;
            of_file = (found-row file c.who.host (standing s).rows stood.row stood.stands).0;
            kind = at-least-writing stood.row.mode l.mode writes knows.kind;
            began = stood.began;
            goes_on = k.held.below file l stood.row held own;
            ends = omega arith;
          };
        });
      }

  -- a bound file is kept, at the due revision, with the length of its lease
  pub bound-knows : (file : ℕ) (b : IsHeldBound s c.who c.leases file)
      → (row : Row) × OwnRow (standing s) c.who file row × (is_writing row.mode ≡ true)
      × KnowsFile s.kept (line_for s.kept c.who) row.mode b.lease.mode file (rev_at c.revisions file) b.lease.blocks (done_at s.kept c.who c.ticket file)
  bound-knows file b =
      let o = own-row file b.lease.tag b.bound in
      (o.0, o.1, o.3, k.held.chained file b.lease o.0 b.held (writing-caches b.lease.mode b.writes) (record { own = o.1; began = o.2 }))

  module _ (file : ℕ) (g : Grant) (t : Ticket) (takes : IsTakeable ps c.who c.ticket file g t)
      (covered : lets_write c.now (granted_lease file g t.first) ≡ true → IsBound s s.phase c.who file g.tag) where
    fits : GrantFits (standing s) s.kept c.who c.leases c.revisions file g
    fits = k.given.fits file g t takes

    broken : (l : Lease) → lease_on file c.leases ≡ Some l → tag_below l.tag g.since ≡ true → IsHeldBound s c.who c.leases file → ⊥
    broken l held below b =
        let one : b.lease ≡ l = some-same b.lease l (sym b.held ∙ held) in
        let o = own-row file l.tag (subst (λ z. IsBound s s.phase c.who file z.tag) one b.bound) in
        later-not l.tag g.since o.0.since below (fits.below o.0 o.1).1 o.2

    -- one that goes on with a chain lets its holder cache
    caching : (l : Lease) → lease_on file c.leases ≡ Some l → tag_below l.tag g.since ≡ false → caches g.mode ≡ true
    caching l held before = case (caches g.mode) refl
      where
        case : (b : Bool) → caches g.mode ≡ b → caches g.mode ≡ true
        case true e = e
        case false e =
            let above : tag_below l.tag g.since ≡ true = subst (λ z. tag_below l.tag z ≡ true) (sym (fits.ordered.alone e)) (fits.above l held) in
            absurd (cc)

    whole : (l : Lease) → is_clean c file ≡ false → lease_on file c.leases ≡ Some l → tag_below l.tag g.since ≡ false
        → (g.blocks ≡ l.blocks) × (IsHeldBound s c.who c.leases file → (is_writing g.mode ≡ true) × IsBound s s.phase c.who file g.tag)
    whole l dirty held before = (goes.length, λ b. bound b)
      where
        w : (m : Lease) × (lease_on file c.leases ≡ Some m) × (is_writing m.mode ≡ true)
        w = k.writes.held file dirty

        writes : is_writing l.mode ≡ true
        writes = ap (λ z. is_writing z.mode) (some-same l w.0 (sym held ∙ w.1)) ∙ w.2

        goes : GoesOnAs g l (rev_at c.revisions file)
        goes = fits.goes_on l (caching l held before) held (writing-caches l.mode writes) before

        bound : IsHeldBound s c.who c.leases file → (is_writing g.mode ≡ true) × IsBound s s.phase c.who file g.tag
        bound b =
            let one : b.lease ≡ l = some-same b.lease l (sym b.held ∙ held) in
            let f : HasFitting (claim_of c.who file Writing l.tag 0) (standing s) = bound-fitting s s.phase c.who file l.tag
            (subst (λ z. IsBound s s.phase c.who file z.tag) one b.bound) in
            let own : OwnRow (standing s) c.who file f.row = record { stands = f.stands; holder = f.fits.holder } in (
              at-least-writing g.mode l.mode writes goes.kind,
              fitting-bound s s.phase c.who file g.tag boots stands (record {
                row = f.row;
                stands = f.stands;
                fits = record {
                  holder = f.fits.holder;
                  of_file = f.fits.of_file;
                  kind = f.fits.kind;
                  began = still-above l.tag g.tag f.row.since (fits.above l held) f.fits.began;
                  goes_on = (fits.below f.row own).0;
                  ends = omega arith;
                };
              }),
            )

    -- what is known of a grant that is taken
    pub takes-fit : TakesFit s c file g t.first
    takes-fit = record {
      covered = covered;
      held = λ dirty. let w = k.writes.held file dirty in (w.0, w.1);
      broken = broken;
      whole = whole;
    }
