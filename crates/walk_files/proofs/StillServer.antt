-- A server's step keeps undisturbed what can still be stored.
use Rattle.std.proofs.Common.{◌≡◌, ◌<◌, ℕ, ◌==◌, Bool, true, false, List, ◌∷◌, ◌++◌, Some, None, is_some, refl, sym, subst, ap, ◌∙◌, arith}
use Rattle.std.specs.Prelude.{slice_get}
use Rattle.nq_base.specs.declared.Event.{Event}
use Rattle.nq_base.specs.declared.Push.{Push}
use Rattle.nq_base.specs.declared.PushBase.{PushBase}
use Rattle.nq_base.specs.declared.Request.{Request}
use Rattle.nq_base.specs.declared.Row.{Row}
use Rattle.nq_base.specs.declared.Tag.{Tag}
use Rattle.nq_base.specs.declared.Who.{Who}
use Rattle.walk_files.proofs.ChainFacts.{IsFenced}
use Rattle.nq_model.specs.laws.Chained.{IsChained}
use Rattle.walk_steps.proofs.ClientFacts.{changes_file, fits_job, fits_attach, fits_renewal, push_in}
use Rattle.walk_steps.proofs.ClientMoves.{none-some, some-same}
use Rattle.walk_steps.proofs.BoundBefore.{Stood, StandsWriting}
use Rattle.walk_files.proofs.ServerTells.{ServerTells, Moves, same_lines, attaches_one, decides_one}
use Rattle.walk_files.proofs.WritesFit.{IsClear}
use Rattle.nq_model.specs.protocol.Client.{Client, Job, Lease, Ticket, lease_on, is_clean_in}
use Rattle.nq_model.specs.laws.Journal.{Each}
use Rattle.nq_model.specs.protocol.Kept.{host_row}
use Rattle.nq_model.specs.protocol.Message.{call, asker, sequence_of}
use Rattle.nq_model.specs.protocol.Server.{ServerStep, standing}
use Rattle.nq_model.specs.protocol.Table.{is_writing}
use Rattle.nq_model.specs.protocol.World.{World, after_server, from_host}
use Rattle.walk_steps.proofs.Sequences.{asked-before-server}
use Rattle.nq_model.specs.laws.OneRequestPerSequence.{IsOpenRequest, IsUnderWay}
use Rattle.walk_steps.proofs.RunCases.{OfClients}
use Rattle.walk_steps.proofs.Packets.{Asked}
use Rattle.walk_steps.proofs.ServerSays.{AllSaid}
use Rattle.walk_steps.proofs.TagFacts.{IsDrawn}
use Rattle.walk_steps.proofs.Rows.{same-number, number-same}
use Rattle.walk_steps.proofs.ServerOutcomes.{file_changed_by, base_in}
use Rattle.walk_files.proofs.Holders.{KnownOf, chained-writes}
use Rattle.walk_files.proofs.Journals.{undisturbed-more}
use Rattle.walk_files.proofs.Marks.{clear-less}
use Rattle.walk_files.proofs.ServerLeaves.{HasWriting}
use Rattle.walk_files.proofs.StillClients.{F, in-place}
use Rattle.walk_files.proofs.StillFits.{StillFits, push-writes}
use Rattle.walk_files.proofs.Tags.{IsEntry, unclean-entry}
use Rattle.nq_model.specs.laws.Undisturbed.{LeavesAlone, IsUndisturbed}

-- an incarnation has no open request that changes a file in another way than by a push
abbrev pub ChangesNothing : World → Who → (file : ℕ) → Type 0
ChangesNothing w who file =
    (x : ℕ) (r : Request) (n : ℕ)
    → Asked w.packets who.host x r
    → asker r ≡ Some who
    → sequence_of r ≡ Some n
    → who.inc ≡ (host_row w.server.kept who.host).inc
    → (host_row w.server.kept who.host).seq < n
    → file_changed_by r ≡ Some file
    → base_in r ≡ None
    → ⊥

-- the step of the server, and what is known of it
pub record Served (hosts most : ℕ) (w : World) (e : Event) (events : List Event) (t : ServerStep) : Type 0 where
  pub before : KnownOf hosts most w events
  pub after : KnownOf hosts most (after_server w t) (e ∷ events)
  pub said : AllSaid w.packets t.sends
  pub tells : ServerTells w.packets w.server t
  pub fenced : (file boot rev : ℕ) → file < w.server.kept.next → IsFenced w.server.kept file boot rev → IsFenced t.server.kept file boot rev
  pub stood : (who : Who) (file : ℕ) (tag : Tag) → IsDrawn (standing w.server).boot (standing w.server).drawn tag
      → StandsWriting who file tag (standing t.server).rows → Stood who file tag (standing w.server).rows
  pub alone : (who : Who) (file : ℕ) → HasWriting (standing w.server) who file → HasWriting (standing t.server) who file → ChangesNothing w who file
      → Each (LeavesAlone who file) t.entries

-- a WRITE that goes through is the call's
for-call : (job : Job) (r : Request) (v : Who) (m file block first last : ℕ) (body : List ℕ) → r ≡ Request.Write v m file block first last None body
    → fits_job job r ≡ true → job ≡ Job.for_call
for-call Job.for_call r v m file block first last body e fits = refl
for-call Job.attaching r v m file block first last body e fits = let no = ap fits_attach e in absurd (cc)
for-call Job.renewing r v m file block first last body e fits = let no = ap fits_renewal e in absurd (cc)
for-call Job.pushing r v m file block first last body e fits = let no = ap (λ z. is_some (push_in z)) e in absurd (cc)

module _ (hosts most : ℕ) (w : World) (e : Event) (events : List Event) (t : ServerStep) (z : Served hosts most w e events t) (g : OfClients F w)
    (host : ℕ) (c : Client) (is : slice_get w.clients host ≡ Some c) where
  is-after : slice_get (after_server w t).clients host ≡ Some c
  unfolding after_server
  is-after = is

  here : c.who.host ≡ host
  here = (z.before.holds.clients host c is).here

  -- an open request at its place
  opened : (x : ℕ) (r : Request) (who : Who) (n : ℕ) → who.host ≡ host → Asked w.packets who.host x r → asker r ≡ Some who → sequence_of r ≡ Some n
      → who.inc ≡ (host_row w.server.kept who.host).inc → (host_row w.server.kept who.host).seq < n → (place : ℕ) × IsOpenRequest w host place x r who n
  opened x r who n at asked by sq inc above =
      let place = in-place w.packets (from_host host (call x r)) (subst (λ h. Asked w.packets h x r) at asked) in (
        place.0,
        record {
          asks = record { sent = place.1; by = by; sequence = sq };
          kept = subst (λ h. (host_row w.server.kept h).inc ≡ who.inc) at (sym inc);
          above = subst (λ h. (host_row w.server.kept h).seq < n) at above;
        },
      )

  -- where a file has delayed writes its client changes it in no other way
  changes-nothing : (p : Push) → IsEntry c p → (l : Lease) → lease_on p.file c.leases ≡ Some l → ChangesNothing w c.who p.file
  changes-nothing p entry l held x r n asked by sq inc above changes base =
      let o = opened x r c.who n here asked by sq inc above in
      under (z.before.opens.under_way host o.0 x c r n is o.1)
    where
      case : (u : Ticket) → c.ticket ≡ Some u → (s : Request) → u.request ≡ s → file_changed_by s ≡ Some p.file → base_in s ≡ None → ⊥
      case u has (Request.Write v m file block first last None body) asks changed none =
          let same : file ≡ p.file = some-same file p.file changed in
          let clean : is_clean_in p.file c.dirty c.push ≡ true = subst (λ f. is_clean_in f c.dirty c.push ≡ true) same
          ((z.before.chains host c is).writes.through u v m file block first last body has
          (for-call u.job u.request v m file block first last body asks ((z.before.holds.clients host c is).alone.asking.ticketed u has).fits) asks) in
          let dirty : is_clean_in p.file c.dirty c.push ≡ false = unclean-entry c p entry in
          absurd (cc)
      case u has (Request.Write v m file block first last (Some b) body) asks changed none = absurd (cc)
      case u has (Request.Resize v m q file blocks) asks changed none =
          let same : file ≡ p.file = some-same file p.file changed in
          none-some l (sym ((z.before.holds.clients host c is).alone.asking.changed u p.file has (ap changes_file asks ∙ ap Some same)) ∙ held)
      case u has (Request.Remove v m q file) asks changed none =
          let same : file ≡ p.file = some-same file p.file changed in
          none-some l (sym ((z.before.holds.clients host c is).alone.asking.changed u p.file has (ap changes_file asks ∙ ap Some same)) ∙ held)
      case u has s asks changed none = absurd (cc)

      under : IsUnderWay c x r → ⊥
      under u = case u.ticket u.has r u.request changes base

  -- one who has an open push asks nothing else that is open
  push-alone : (y m file block first last : ℕ) (v : Who) (b : PushBase) (body : List ℕ) → v.host ≡ host
      → Asked w.packets v.host y (Request.Write v m file block first last (Some b) body) → v.inc ≡ (host_row w.server.kept v.host).inc
      → (host_row w.server.kept v.host).seq < m → (f : ℕ) → ChangesNothing w v f
  push-alone y m file block first last v b body at pushed inc more f x r n asked by sq same above changes base =
      let o = opened x r v n at asked by sq same above in
      let q = opened y (Request.Write v m file block first last (Some b) body) v m at pushed refl refl inc more in
      let one = (z.before.opens.one host o.0 q.0 x y r (Request.Write v m file block first last (Some b) body) v v n m o.1 q.1).1 in
      some-base (sym base ∙ ap base_in one)
    where
      some-base : None ≡ Some b → ⊥
      some-base h = absurd (cc)

  -- ---- lines

  -- what was sent before and is open now was open before
  was-open : (v : Who) (n : ℕ) (x : ℕ) (r : Request) → Asked w.packets host x r → asker r ≡ Some v → sequence_of r ≡ Some n → v.host ≡ host
      → v.inc ≡ (host_row t.server.kept host).inc → (host_row t.server.kept host).seq < n
      → (v.inc ≡ (host_row w.server.kept host).inc) × ((host_row w.server.kept host).seq < n)
  was-open v n x r asked by sq at inc above = case z.tells.moves
    where
      no-attach : (s : Request) → s ≡ Request.Attach v → sequence_of s ≡ Some n → ⊥
      no-attach s same q = none-some n (ap sequence_of (sym same) ∙ q)

      case : Moves w.packets w.server t → (v.inc ≡ (host_row w.server.kept host).inc) × ((host_row w.server.kept host).seq < n)
      case (same_lines quiet same) = (inc ∙ ap (λ l. l.inc) (same host), subst (λ l. l.seq < n) (same host) above)
      case (attaches_one quiet a) = pick (host == a.w.host) refl
        where
          pick : (b : Bool) → (host == a.w.host) ≡ b → (v.inc ≡ (host_row w.server.kept host).inc) × ((host_row w.server.kept host).seq < n)
          pick true i =
              let one : host ≡ a.w.host = same-number _ _ i in
              let later : (host_row w.server.kept host).inc < v.inc = subst (λ k. (host_row w.server.kept host).inc < k)
              (sym (inc ∙ ap (λ h. (host_row t.server.kept h).inc) one ∙ a.inc_after))
              (subst (λ h. (host_row w.server.kept h).inc < a.w.inc) (sym one) a.above) in
              let lined = (z.before.runs.known.clients host c is).lined in
              absurd (no-attach r (lined.above x r v (subst (λ h. Asked w.packets h x r) (sym here) asked) by later) sq)
          pick false i =
              let same = a.others host (λ k. let yes : (host == a.w.host) ≡ true = number-same _ _ k in absurd (cc)) in
              (inc ∙ ap (λ l. l.inc) same, subst (λ l. l.seq < n) same above)
      case (decides_one d) = pick (host == d.w.host) refl
        where
          pick : (b : Bool) → (host == d.w.host) ≡ b → (v.inc ≡ (host_row w.server.kept host).inc) × ((host_row w.server.kept host).seq < n)
          pick true i =
              let one : host ≡ d.w.host = same-number _ _ i in
              let inc_one : (host_row t.server.kept host).inc ≡ (host_row w.server.kept host).inc = ap (λ h. (host_row t.server.kept h).inc) one
              ∙ d.inc_after ∙ sym d.inc ∙ ap (λ h. (host_row w.server.kept h).inc) (sym one) in
              let seq_one : (host_row t.server.kept host).seq ≡ d.seq = ap (λ h. (host_row t.server.kept h).seq) one ∙ d.seq_after in
              let rose : (host_row w.server.kept host).seq < d.seq = subst (λ h. (host_row w.server.kept h).seq < d.seq) (sym one) d.above in
              (inc ∙ inc_one, omega arith)
          pick false i =
              let same = d.others host (λ k. let yes : (host == d.w.host) ≡ true = number-same _ _ k in absurd (cc)) in
              (inc ∙ ap (λ l. l.inc) same, subst (λ l. l.seq < n) same above)

  -- ---- the client

  still-unsaved : (p : Push) → IsEntry c p → IsClear (t.entries ++ w.journal) c.who p.file p.block p.first p.last → (l : Lease) (row : Row)
      → lease_on p.file c.leases ≡ Some l → IsChained (standing t.server) c.who p.file l.tag row
      → IsUndisturbed c.who p.file p.block p.first (t.entries ++ w.journal)
  unfolding after_server
  still-unsaved p entry clear l row held chained =
      let now : HasWriting (standing t.server) c.who p.file = chained-writes t.server c (w.packets ++ t.sends) (z.after.chains host c is-after) p entry
      l row held chained in
      let drawn : IsDrawn (standing w.server).boot (standing w.server).drawn l.tag = (z.before.runs.known.clients host c is).tagged.held p.file l held in
      let writing : StandsWriting c.who p.file l.tag (standing t.server).rows = writes-too now row chained in
      let s : Stood c.who p.file l.tag (standing w.server).rows = z.stood c.who p.file l.tag drawn writing in
      let was : IsChained (standing w.server) c.who p.file l.tag s.row = record { own = record { stands = s.stands; holder = s.holder }; began = s.began } in
      let before : HasWriting (standing w.server) c.who p.file = chained-writes w.server c w.packets (z.before.chains host c is) p entry l s.row held was in
      undisturbed-more c.who p.file p.block p.first t.entries w.journal (z.alone c.who p.file before now (changes-nothing p entry l held))
      ((g host c is).unsaved p entry (clear-less t.entries w.journal c.who p.file p.block p.first p.last clear) l s.row held was)
    where
      writes-too : HasWriting (standing t.server) c.who p.file → (row : Row) → IsChained (standing t.server) c.who p.file l.tag row
          → StandsWriting c.who p.file l.tag (standing t.server).rows
      writes-too h row k =
          record {
            row = row;
            stands = k.own.stands;
            holder = k.own.holder;
            began = k.began;
            writes = let one : h.row ≡ row = some-same h.row row
                (sym h.stands ∙ k.own.stands) in subst (λ r. is_writing r.mode ≡ true) one h.writes;
          }

  still-sent : (x : ℕ) (v : Who) (n file block first last : ℕ) (base : PushBase) (body : List ℕ)
      → Asked (w.packets ++ t.sends) c.who.host x (Request.Write v n file block first last (Some base) body) → v.host ≡ c.who.host
      → v.inc ≡ (host_row t.server.kept c.who.host).inc → (host_row t.server.kept c.who.host).seq < n
      → (IsFenced t.server.kept file base.boot base.base → ⊥) → IsUndisturbed v file block first (t.entries ++ w.journal)
  unfolding after_server
  still-sent x v n file block first last base body asked at inc above free =
      undisturbed-more v file block first t.entries w.journal
      (z.alone v file before now (push-alone x n file block first last v base body (at ∙ here) (subst (λ h. Asked w.packets h x r) (sym at) old)
      (subst (λ h. v.inc ≡ (host_row w.server.kept h).inc) (sym (at ∙ here)) was.0)
      (subst (λ h. (host_row w.server.kept h).seq < n) (sym (at ∙ here)) was.1) file))
      ((g host c is).sent x v n file block first last base body old at (subst (λ h. v.inc ≡ (host_row w.server.kept h).inc) (sym here) was.0)
      (subst (λ h. (host_row w.server.kept h).seq < n) (sym here) was.1) unfenced)
    where
      r : Request
      r = Request.Write v n file block first last (Some base) body

      old : Asked w.packets c.who.host x r
      old = asked-before-server w.packets t.sends z.said c.who.host x r asked

      at-host : Asked w.packets host x r
      at-host = subst (λ h. Asked w.packets h x r) here old

      was : (v.inc ≡ (host_row w.server.kept host).inc) × ((host_row w.server.kept host).seq < n)
      was =
          was-open v n x r at-host refl refl (at ∙ here) (subst (λ h. v.inc ≡ (host_row t.server.kept h).inc) here inc)
          (subst (λ h. (host_row t.server.kept h).seq < n) here above)

      numbered : file < w.server.kept.next
      numbered = (z.before.pushes host c is x v n file block first last base body at-host (at ∙ here) was.0 was.1).numbered

      unfenced : IsFenced w.server.kept file base.boot base.base → ⊥
      unfenced k = free (z.fenced file base.boot base.base numbered k)

      before : HasWriting (standing w.server) v file
      before = push-writes w.server host w.packets (z.before.pushes host c is) x v n file block first last base body at-host (at ∙ here) was.0 was.1 unfenced

      now : HasWriting (standing t.server) v file
      now =
          push-writes t.server host (w.packets ++ t.sends) (z.after.pushes host c is-after) x v n file block first last base body
          (subst (λ h. Asked (w.packets ++ t.sends) h x r) here asked) (at ∙ here) (subst (λ h. v.inc ≡ (host_row t.server.kept h).inc) here inc)
          (subst (λ h. (host_row t.server.kept h).seq < n) here above) free

  pub served-still : StillFits (after_server w t).server c (after_server w t).packets (after_server w t).journal
  unfolding after_server
  served-still = record { unsaved = still-unsaved; sent = still-sent }
