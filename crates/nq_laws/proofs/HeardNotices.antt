-- A notice that names a row as it stands is not ignored by its holder.
use Rattle.std.proofs.Common.{◌≡◌, ℕ, ◌-◌, ◌==◌, true, false, List, Option, Some, None, refl, sym, subst, ◌∙◌, arith}
use Rattle.std.specs.Prelude.{slice_get}
use Rattle.std.proofs.lemmas.Bool.{and_from}
use Rattle.nq_base.specs.declared.Event.{Event}
use Rattle.nq_base.specs.declared.Row.{Row}
use Rattle.nq_model.specs.protocol.Client.{Client, Lease, begun, lease_on}
use Rattle.nq_model.specs.protocol.Hear.{cancels, evicted, goes_on, holds_later}
use Rattle.nq_model.specs.laws.LeaseInterval.{HasFitting, IsCovered, claim_of, cover_end}
use Rattle.nq_model.specs.protocol.Server.{serving}
use Rattle.nq_model.specs.protocol.Skew.{IsWithinSkew}
use Rattle.nq_model.specs.protocol.Table.{same_who, tag_below, find_row}
use Rattle.nq_model.specs.protocol.World.{Head, run}
use Rattle.nq_model.specs.laws.Bounds.{KeepsBounds}
use Rattle.walk_steps.proofs.LeaseIntervals.{run-runs}
use Rattle.walk_steps.proofs.ClientMoves.{some-same}
use Rattle.walk_steps.proofs.Worlds.{run-holds}
use Rattle.walk_steps.proofs.Rows.{found-row, number-same}
use Rattle.walk_steps.proofs.ServerFacts.{IncsFit, AreCurrent}
use Rattle.nq_laws.specs.NoticesAreHeard.{RunsOn, NoticesAreHeard}

module _ (most : ℕ) (head : Head) (events : List Event) (bounds : KeepsBounds most head events) (within : IsWithinSkew head.hosts most events)
    (host file : ℕ) (c : Client) (row : Row) (serves : (run head events).server.phase ≡ serving) (at : slice_get (run head events).clients host
    ≡ Some c) (found : find_row file host (run head events).server.table.rows ≡ Some row) where
  here : c.who.host ≡ host
  here = ((run-holds head events).clients host c at).here

  -- the row is this incarnation's
  holder : c.attached ≡ true → same_who row.who c.who ≡ true
  holder on =
      let r = run-runs most head events bounds within in
      let current : AreCurrent (run head events).server.kept (run head events).server.table.rows = subst (λ ph. IncsFit (run head events).server.kept
      ph (run head events).server.table) serves r.served.incs in
      let inc = current file host row found ∙ (r.known.clients host c at).lined.current on in
      let same = (found-row file host (run head events).server.table.rows row found).1 ∙ sym here in
      and_from (row.who.host == c.who.host) (row.who.inc == c.who.inc) (number-same row.who.host c.who.host same) (number-same row.who.inc c.who.inc inc)

  -- and its latest tag is no earlier than that of a lease that runs
  no-later : ((l : Lease) → lease_on file c.leases ≡ Some l → RunsOn c.now l) → holds_later row.tag (lease_on file c.leases) ≡ false
  no-later runs = by (lease_on file c.leases) refl
    where
      by : (o : Option Lease) → lease_on file c.leases ≡ o → holds_later row.tag o ≡ false
      by None none = refl
      by (Some l) on =
          let r = run-runs most head events bounds within in
          let k = (r.known.clients host c at).covered in
          let a = ((run-holds head events).clients host c at).alone.asking.leased file l on in
          let first = a.term in
          let live = (runs l on).live in
          let covered = k.held file l on (runs l on).caching (omega arith) in
          let h : HasFitting (claim_of c.who file l.mode l.tag (cover_end c.who.host (l.expiry - l.term) l.term events))
          (run head events).server.table = subst (λ ph. IsCovered (run head events).server ph (claim_of c.who file l.mode l.tag
          (cover_end c.who.host (l.expiry - l.term) l.term events))) serves covered in
          let one : h.row ≡ row = some-same h.row row (sym (subst (λ n. find_row file n (run head events).server.table.rows ≡ Some h.row) here
          h.stands) ∙ found) in
          subst (λ (x : Row). tag_below x.tag l.tag ≡ false) one h.fits.goes_on

pub notices-are-heard : NoticesAreHeard
notices-are-heard most head events bounds within host file k xid c row serves at on found runs =
    let same = holder most head events bounds within host file c row serves at found on in
    let later = no-later most head events bounds within host file c row serves at found runs in
    (goes_on (evicted (cancels (begun c) file) file row.tag), rw (same, later) refl)
