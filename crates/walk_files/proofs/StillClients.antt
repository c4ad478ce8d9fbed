-- A client's step keeps undisturbed what can still be stored, its own and that of all others.
use Rattle.std.proofs.Common.{◌≡◌, ◌≢◌, ◌<◌, ◌⊎◌, ℕ, suc, ◌==◌, Bool, true, false, ◌&&◌, List, [], ◌∷◌, ◌++◌, Some, map, refl, sym, subst, ap, ◌∙◌}
use Rattle.std.proofs.Common.{arith, inl, inr}
use Rattle.std.specs.Prelude.{slice_get}
use Rattle.nq_base.specs.declared.Entry.{Entry}
use Rattle.nq_base.specs.declared.Entry.TheVariants.{W}
use Rattle.nq_base.specs.declared.Event.{Event}
use Rattle.nq_base.specs.declared.HostRow.{HostRow}
use Rattle.nq_base.specs.declared.Push.{Push}
use Rattle.nq_base.specs.declared.PushBase.{PushBase}
use Rattle.nq_base.specs.declared.Request.{Request}
use Rattle.nq_base.specs.declared.Row.{Row}
use Rattle.nq_base.specs.declared.Who.{Who}
use Rattle.walk_files.proofs.ChainFacts.{IsFenced, gone, ahead, earlier, IsBoundOrFenced, bound, fenced, done_at, rev_at}
use Rattle.nq_model.specs.laws.Chained.{IsChained, has_done, has_done_write, is_done, due}
use Rattle.walk_steps.proofs.ClientMoves.{some-same}
use Rattle.walk_files.proofs.WritesFit.{WritesFit, IsClear, IsBehind}
use Rattle.nq_model.specs.protocol.Client.{Client, ClientStep, Lease, lease_on}
use Rattle.nq_model.specs.laws.Journal.{Each}
use Rattle.nq_model.specs.protocol.Kept.{host_row}
use Rattle.nq_model.specs.protocol.Message.{Message, Packet, call, asker}
use Rattle.nq_model.specs.protocol.Server.{standing}
use Rattle.nq_model.specs.protocol.World.{World, after_client, from_host}
use Rattle.nq_model.specs.laws.OneRequestPerSequence.{IsOpenRequest, IsUnderWay}
use Rattle.walk_steps.proofs.RunCases.{OfClients, clients-after}
use Rattle.walk_steps.proofs.Mail.{other-asked}
use Rattle.walk_steps.proofs.Packets.{In, in-append, Asked, message-same, call-same}
use Rattle.walk_steps.proofs.Worlds.{set-there}
use Rattle.walk_steps.proofs.Incarnations.{one-who}
use Rattle.walk_steps.proofs.Rows.{same-number, number-same}
use Rattle.walk_files.proofs.Accesses.{Accesses}
use Rattle.walk_files.proofs.Holders.{KnownOf, chained-writes, step-leaves}
use Rattle.walk_files.proofs.Journals.{undisturbed-more}
use Rattle.walk_files.proofs.Marks.{clear-less}
use Rattle.walk_files.proofs.OwnSends.{IsBy, AllOwn}
use Rattle.walk_files.proofs.ServerLeaves.{HasWriting}
use Rattle.walk_files.proofs.StillFits.{StillFits, Takes, push-writes, push-sequence, own-unsaved}
use Rattle.walk_files.proofs.Tags.{IsEntry, unclean-entry, Follows}
use Rattle.nq_model.specs.laws.Undisturbed.{LeavesAlone, IsUndisturbed}

-- ---- lists by place

pub in-place : {Y : Type 0} (xs : List Y) (x : Y) → In xs x → (k : ℕ) × (slice_get xs k ≡ Some x)
in-place [] x h = absurd h
in-place (y ∷ xs) x (inl e) = (0, ap Some e)
in-place (y ∷ xs) x (inr h) = let k = in-place xs x h in (suc k.0, k.1)

-- ---- what stands behind an entry

behind-of : (line : HostRow) (c : Client) (ps : List Packet) (journal : List Entry) → WritesFit line c ps journal → (p : Push) → IsEntry c p
    → IsBehind c.who journal p
behind-of line c ps journal f p (inl i) = (f.list.listed p i).behind
behind-of line c ps journal f p (inr e) =
    let k = f.under_way p e in let n = push-sequence k.request.request p k.pushes in (f.pushed p k.request n.0 e k.asks n.1).behind

-- ---- a push of the running incarnation that is not fenced is the push under way, of a chained file

pub running-sent : (hosts most : ℕ) (w : World) (events : List Event) → KnownOf hosts most w events → (host : ℕ) (c : Client)
    → slice_get w.clients host ≡ Some c → c.who.host ≡ host
    → ((p : Push) → IsEntry c p → IsClear w.journal c.who p.file p.block p.first p.last → (l : Lease) (row : Row) → lease_on p.file c.leases ≡ Some l
    → IsChained (standing w.server) c.who p.file l.tag row → IsUndisturbed c.who p.file p.block p.first w.journal)
    → (x n file block first last : ℕ) (base : PushBase) (body : List ℕ)
    → Asked w.packets c.who.host x (Request.Write c.who n file block first last (Some base) body) → c.who.inc ≡ (host_row w.server.kept c.who.host).inc
    → (host_row w.server.kept c.who.host).seq < n → (IsFenced w.server.kept file base.boot base.base → ⊥) → IsUndisturbed c.who file block first w.journal
running-sent hosts most w events k host c is here unsaved x n file block first last base body asked inc above free = by
    (k.opens.under_way host place.0 x c r n is opened)
  where
    r : Request
    r = Request.Write c.who n file block first last (Some base) body

    p : Push
    p = record { file = file; block = block; first = first; last = last; body = body }

    place : (i : ℕ) × (slice_get w.packets i ≡ Some (from_host host (call x r)))
    place = in-place w.packets (from_host host (call x r)) (subst (λ h. Asked w.packets h x r) here asked)

    opened : IsOpenRequest w host place.0 x r c.who n
    opened = record {
      asks = record { sent = place.1; by = refl; sequence = refl };
      kept = subst (λ h. (host_row w.server.kept h).inc ≡ c.who.inc) here (sym inc);
      above = subst (λ h. (host_row w.server.kept h).seq < n) here above;
    }

    clear : IsClear w.journal c.who file block first last
    clear = (k.writes host c is).sent.clear c.who p (record {
      xid = x;
      seq = n;
      base = base;
      home = refl;
      asked = asked;
      kept = subst (λ h. (host_row w.server.kept h).inc ≡ c.who.inc) here (sym inc);
      above = subst (λ h. (host_row w.server.kept h).seq < n) here above;
    })

    by : IsUnderWay c x r → IsUndisturbed c.who file block first w.journal
    by u =
        let f = k.chains host c is in
        let q = f.writes.pushed u.ticket c.who n file block first last base body u.has u.request in
        let entry : IsEntry c p = inr q.under_way in
        chained entry q.lease q.held q.boot q.rev (f.writes.bound file q.lease (unclean-entry c p entry) q.held)
      where
        undone : done_at w.server.kept c.who c.ticket file ≡ false
        undone =
            ap (has_done_write (host_row w.server.kept c.who.host) c.who.inc file) u.has
            ∙ ap (has_done (host_row w.server.kept c.who.host) c.who.inc file) u.request
            ∙ later (file == file) ((host_row w.server.kept c.who.host).inc == c.who.inc) ((host_row w.server.kept c.who.host).seq == n) (grind arith)
          where
            later : (a b d : Bool) → d ≡ false → (a && b && d && is_done (host_row w.server.kept c.who.host).verdict) ≡ false
            later true true false e = refl
            later true false d e = refl
            later false b d e = refl
            later true true true e = absurd (cc)

        chained : IsEntry c p → (l : Lease) → lease_on file c.leases ≡ Some l → base.boot ≡ l.tag.boot → base.base ≡ rev_at c.revisions file
            → IsBoundOrFenced (standing w.server) w.server.kept c.who file l.tag
            (due (done_at w.server.kept c.who c.ticket file) (rev_at c.revisions file)) → IsUndisturbed c.who file block first w.journal
        chained entry l held boot rev (bound row z) = unsaved p entry clear l row held z
        chained entry l held boot rev (fenced (gone none)) = absurd (free (gone none))
        chained entry l held boot rev (fenced (earlier below)) = absurd (free (earlier (omega arith)))
        chained entry l held boot rev (fenced (ahead g found more)) =
            absurd
            (free
            (ahead g found (let less : due false (rev_at c.revisions file) < g.rev = subst (λ b. due b (rev_at c.revisions file) < g.rev) undone more in
            omega arith)))

-- ---- the step

abbrev pub F : ℕ → Client → World → Type 0
F host c w = StillFits w.server c w.packets w.journal

-- the world after a client's step
pub record Stepped (hosts most : ℕ) (w : World) (e : Event) (events : List Event) (host : ℕ) (c : Client) (t : ClientStep) : Type 0 where
  pub before : KnownOf hosts most w events
  pub after : KnownOf hosts most (after_client w host t) (e ∷ events)
  pub is : slice_get w.clients host ≡ Some c
  pub who : t.client.who ≡ c.who
  pub accesses : Accesses c.who t
  pub own : AllOwn c.who t
  pub follows : (q : Push) (lease : Lease) → IsEntry c q → lease_on q.file c.leases ≡ Some lease → Follows c q lease.tag (Takes c w.packets q) t

module _ (hosts most : ℕ) (w : World) (e : Event) (events : List Event) (host : ℕ) (c : Client) (t : ClientStep)
    (z : Stepped hosts most w e events host c t) (g : OfClients F w) where
  own-is : slice_get (after_client w host t).clients host ≡ Some t.client
  unfolding after_client
  own-is = set-there w.clients host t.client c z.is

  -- what was read and written in the step
  leaves : (who : Who) (file : ℕ) → HasWriting (standing w.server) who file → Each (LeavesAlone who file) t.entries
  unfolding after_client
  leaves who file h = step-leaves hosts most (after_client w host t) (e ∷ events) z.after host t own-is c.who z.who z.accesses who file h

  -- the entries of the client that stepped
  own-entries : (p : Push) → IsEntry t.client p → IsClear (t.entries ++ w.journal) t.client.who p.file p.block p.first p.last → (l : Lease) (row : Row)
      → lease_on p.file t.client.leases ≡ Some l → IsChained (standing w.server) t.client.who p.file l.tag row
      → IsUndisturbed t.client.who p.file p.block p.first (t.entries ++ w.journal)
  unfolding after_client
  own-entries p entry clear l row held chained =
      let b : IsBehind t.client.who (t.entries ++ w.journal) p = behind-of (host_row w.server.kept host) t.client
      (w.packets ++ map (from_host host) t.sends) (t.entries ++ w.journal) (z.after.writes host t.client own-is) p entry in
      let has : HasWriting (standing w.server) t.client.who p.file = chained-writes w.server t.client (w.packets ++ map (from_host host) t.sends)
      (z.after.chains host t.client own-is) p entry l row held chained in
      subst (λ v. IsUndisturbed v p.file p.block p.first (t.entries ++ w.journal)) (sym z.who)
      (own-unsaved w.server (host_row w.server.kept host) c w.packets w.journal (z.before.chains host c z.is) z.before.runs.served.stood
      z.before.runs.served.boots (z.before.writes host c z.is) z.before.journal.rising (g host c z.is).unsaved t z.accesses z.follows p b.first_there.0
      (subst (λ v. In (t.entries ++ w.journal) (W v p.file p.block p.first b.first_there.0 false)) z.who b.first_there.1) b.ordered
      (subst (λ v. IsClear (t.entries ++ w.journal) v p.file p.block p.first p.last) z.who clear)
      (leaves c.who p.file (subst (λ v. HasWriting (standing w.server) v p.file) z.who has)) l row held
      (subst (λ v. IsChained (standing w.server) v p.file l.tag row) z.who chained))

  here-now : t.client.who.host ≡ host
  here-now = ap (λ v. v.host) z.who ∙ (z.before.holds.clients host c z.is).here

  -- a push of another incarnation of its host
  other-sent : (x : ℕ) (v : Who) (n file block first last : ℕ) (base : PushBase) (body : List ℕ)
      → Asked w.packets c.who.host x (Request.Write v n file block first last (Some base) body) → v.host ≡ c.who.host
      → v.inc ≡ (host_row w.server.kept c.who.host).inc → (host_row w.server.kept c.who.host).seq < n
      → (IsFenced w.server.kept file base.boot base.base → ⊥) → IsUndisturbed v file block first (t.entries ++ w.journal)
  other-sent x v n file block first last base body asked of inc above free =
      let here = (z.before.holds.clients host c z.is).here in
      undisturbed-more v file block first t.entries w.journal
      (leaves v file (push-writes w.server host w.packets (z.before.pushes host c z.is) x v n file block first last base body
      (subst (λ h. Asked w.packets h x (Request.Write v n file block first last (Some base) body)) here asked) (of ∙ here)
      (subst (λ h. v.inc ≡ (host_row w.server.kept h).inc) here inc) (subst (λ h. (host_row w.server.kept h).seq < n) here above) free))
      ((g host c z.is).sent x v n file block first last base body asked of inc above free)

  -- what a client asked before and now
  was-asked : (x : ℕ) (r : Request) (v : Who) → asker r ≡ Some v → Asked (w.packets ++ map (from_host host) t.sends) t.client.who.host x r
      → (v.inc ≡ t.client.who.inc → ⊥) → v.host ≡ t.client.who.host → Asked w.packets c.who.host x r
  was-asked x r v by asked apart at =
      subst (λ h. Asked w.packets h x r) (ap (λ u. u.host) z.who)
      (case (in-append w.packets (map (from_host host) t.sends) (from_host t.client.who.host (call x r)) asked))
    where
      mine : (sends : List Message) → ((m : Message) → In sends m → IsBy c.who m) → In (map (from_host host) sends) (from_host t.client.who.host
          (call x r)) → ⊥
      mine [] all i = i
      mine (m ∷ sends) all (inr i) = mine sends (λ n j. all n (inr j)) i
      mine (m ∷ sends) all (inl e) =
          let b = all m (inl refl) in
          let same : call b.xid b.asks ≡ call x r = sym b.is ∙ (message-same host t.client.who.host m (call x r) e).1 in
          let one : c.who ≡ v = some-same c.who v (sym b.by ∙ ap asker (call-same b.xid x b.asks r same).1 ∙ by) in
          apart (ap (λ u. u.inc) (sym one) ∙ ap (λ u. u.inc) (sym z.who))

      case : In w.packets (from_host t.client.who.host (call x r)) ⊎ In (map (from_host host) t.sends) (from_host t.client.who.host (call x r))
          → Asked w.packets t.client.who.host x r
      case (inl old) = old
      case (inr new) = absurd (mine t.sends z.own new)

  own-fits : StillFits (after_client w host t).server t.client (after_client w host t).packets (after_client w host t).journal
  unfolding after_client
  own-fits = record {
    unsaved = own-entries;
    sent =
        λ x v n file block first last base body asked of inc above free. case x v n file block first last base body asked of inc above free
        (v.inc == t.client.who.inc) refl;
  } where
    case : (x : ℕ) (v : Who) (n file block first last : ℕ) (base : PushBase) (body : List ℕ)
        → Asked (w.packets ++ map (from_host host) t.sends) t.client.who.host x (Request.Write v n file block first last (Some base) body)
        → v.host ≡ t.client.who.host → v.inc ≡ (host_row w.server.kept t.client.who.host).inc → (host_row w.server.kept t.client.who.host).seq < n
        → (IsFenced w.server.kept file base.boot base.base → ⊥) → (b : Bool) → (v.inc == t.client.who.inc) ≡ b
        → IsUndisturbed v file block first (t.entries ++ w.journal)
    case x v n file block first last base body asked of inc above free true now =
        let one : t.client.who ≡ v = one-who t.client.who v (sym of) (sym (same-number _ _ now)) in
        subst (λ u. IsUndisturbed u file block first (t.entries ++ w.journal)) one
        (running-sent hosts most (after_client w host t) (e ∷ events) z.after host t.client own-is here-now own-entries x n file block first last base body
        (subst (λ u. Asked (w.packets ++ map (from_host host) t.sends) t.client.who.host x (Request.Write u n file block first last (Some base) body))
        (sym one) asked)
        (subst (λ u. u.inc ≡ (host_row w.server.kept t.client.who.host).inc) (sym one) inc) above free)
    case x v n file block first last base body asked of inc above free false now =
        let same : t.client.who.host ≡ c.who.host = ap (λ u. u.host) z.who in
        other-sent x v n file block first last base body
        (was-asked x (Request.Write v n file block first last (Some base) body) v refl asked
        (λ i. let yes : (v.inc == t.client.who.inc) ≡ true = number-same _ _ i in absurd (cc)) of)
        (of ∙ same) (subst (λ h. v.inc ≡ (host_row w.server.kept h).inc) same inc) (subst (λ h. (host_row w.server.kept h).seq < n) same above) free

  -- the clients of other hosts
  other-fits : (other : ℕ) (d : Client) → other ≢ host → slice_get w.clients other ≡ Some d
      → StillFits (after_client w host t).server d (after_client w host t).packets (after_client w host t).journal
  unfolding after_client
  other-fits other d apart there = record {
    unsaved = λ p entry clear l row held chained.
        undisturbed-more d.who p.file p.block p.first t.entries w.journal
        (leaves d.who p.file (chained-writes w.server d w.packets (z.before.chains other d there) p entry l row held chained))
        ((g other d there).unsaved p entry (clear-less t.entries w.journal d.who p.file p.block p.first p.last clear) l row held chained);
    sent = λ x v n file block first last base body asked of inc above free.
        let here = (z.before.holds.clients other d there).here in
        let old = other-asked w.packets host d.who.host t.sends x (Request.Write v n file block first last (Some base) body)
        (λ same. apart (sym here ∙ same)) asked in
        undisturbed-more v file block first t.entries w.journal
        (leaves v file (push-writes w.server other w.packets (z.before.pushes other d there) x v n file block first last base body
        (subst (λ h. Asked w.packets h x (Request.Write v n file block first last (Some base) body)) here old) (of ∙ here)
        (subst (λ h. v.inc ≡ (host_row w.server.kept h).inc) here inc) (subst (λ h. (host_row w.server.kept h).seq < n) here above) free))
        ((g other d there).sent x v n file block first last base body old of inc above free);
  }

  pub step-still : OfClients F (after_client w host t)
  step-still = clients-after F w host t own-fits other-fits
