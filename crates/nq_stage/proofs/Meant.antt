-- Every packet that travels in a staged run means what it says.
use Rattle.std.proofs.Common.{◌≡◌, ◌≤◌, ◌<◌, ◌^◌, ℕ, zero, suc, ◌+◌, ◌*◌, ◌==◌, min, Bool, true, false, List, [], ◌∷◌, Option, Some, None}
use Rattle.std.proofs.Common.{if◌then◌else◌, length, drop, map, is_some, refl, sym, subst, ap, ◌∙◌, inl, inr, arith}
use Rattle.std.specs.Prelude.{slice_get, slice_set}
use Rattle.nq_base.specs.declared.Event.{Event}
use Rattle.nq_base.specs.declared.Party.{Party}
use Rattle.nq_base.specs.declared.Push.{Push}
use Rattle.nq_base.specs.declared.Who.{Who}
use Rattle.nq_datagrams.specs.Messages.{bytes_of}
use Rattle.law_runs.proofs.EachOf.{each-at, each-get, each-filter, each-take}
use Rattle.nq_stage.proofs.Datagrams.{request-no-stage, commit-no-stage}
use Rattle.nq_stage.proofs.KnownBodies.{Bodies, Carries}
use Rattle.nq_stage.proofs.Apart.{AreApart, there-at}
use Rattle.nq_stage.proofs.KnownRuns.{PacketKnown, Knowing, step-knows, start-knows, call-who, delivery-who, tick-who, server-tick-who, crash-who}
use Rattle.nq_model.proofs.Lists.{each-map}
use Rattle.nq_model.specs.protocol.Client.{Client}
use Rattle.nq_model.specs.laws.Journal.{Each}
use Rattle.nq_model.specs.protocol.Message.{Packet}
use Rattle.nq_model.specs.protocol.Profile.{most_hosts}
use Rattle.nq_model.specs.protocol.Settle.{dirty_body, pushed_body, held_body}
use Rattle.nq_model.specs.protocol.Stepped.{most_events}
use Rattle.nq_model.specs.protocol.World.{Head, World, start, step}
use Rattle.nq_stage.specs.Answering.{Answer, write, unstaged, own_stage, own_commit, stage_if_own, staged, answered}
use Rattle.nq_stage.specs.Bodies.{others, with_body}
use Rattle.nq_stage.specs.declared.messages.Commit.{Commit}
use Rattle.nq_stage.specs.declared.messages.Written.{Written}
use Rattle.nq_stage.specs.Reading.{Stage, stage_in, is_unstaged_in}
use Rattle.nq_stage.proofs.Again.{stages-are-read}
use Rattle.nq_stage.specs.declared.run.event.StagedEvent.{StagedEvent}
use Rattle.nq_stage.specs.Outer.{Outer, Side, Outside, outside_start}
use Rattle.nq_stage.specs.Outside.{beside, renewed, inner, inner_delivery, takes_stage, takes_commit, served_commit, served_stage, to_server}
use Rattle.nq_stage.specs.Outside.{told_side, heard_by, to_host as to_host_outside, takes, delivers, sends_stage, offers_body, offers, outside_step}
use Rattle.nq_stage.specs.Outside.{outside_run}
use Rattle.nq_stage.specs.Theorem.{EventBrings, StagedBrings}
use Rattle.nq_stage.proofs.Inner.{ran}
use Rattle.nq_stage.specs.declared.stager.stager.Shortened.{Shortened}
use Rattle.nq_stage.specs.Acknowledged.{verifier_of}
use Rattle.nq_stage.specs.Hearing.{Told, acknowledged, again, other, told_by, told_as, acknowledging, again_from, kept_by}
use Rattle.nq_stage.specs.Offering.{written_by, first_unknown, with_body as with_body_there, body_among, offer_of, offered}
use Rattle.nq_stage.specs.Staged.{Staged, new_stager}
use Rattle.walk_steps.proofs.ClientMoves.{some-same, none-some}
use Rattle.walk_steps.proofs.Packets.{In}
use Rattle.walk_steps.proofs.Steps.{step-changes}
use Rattle.walk_steps.proofs.Worlds.{Holds, step-holds, run-holds}
use Rattle.nq_stage.proofs.Meaning.{IsInner, IsMeant, KeepsWell, SomeMeant, IsRequest, AllKeep, AreOwn, MeantIn, whole, short, ahead, replied, stays}
use Rattle.nq_stage.proofs.Meaning.{more-meant, more-keep, adds, fresh-keeps, set-keep, set-own, moved-own, restarted-own, same-meant, crashed-meant}
use Rattle.nq_stage.proofs.Meaning.{restarted-meant, says-request, sends-meant, all-meant}

-- an inner event was run, and what it sent went out
module _ (g : Bodies) (most : ℕ) (small : most < 2 ^ 32) where
  renewed-meant : (o : Outside) (event : Event) (now : Bodies) → EventBrings event → MeantIn g most o → Knowing now (most + 1 + 1)
      (step o.world event) → Holds (step o.world event) → Each (λ b. In now (b.0, b.1)) o.pool.bodies
      → Each (IsMeant now (step o.world event).packets) o.sent → AllKeep (step o.world event).packets o.sides → MeantIn now (most + 1 + 1)
      (renewed o event (step o.world event))
  renewed-meant o (Event.Call host op) now brings m knowing holds pooled travels keeps =
      same-meant now (most + 1 + 1) o (step o.world (Event.Call host op)) knowing holds pooled travels keeps (moved-own o.sides o.world
      (step o.world (Event.Call host op)) (call-who g most small o.world m.knowing host op brings) m.own)
  renewed-meant o (Event.Deliver k) now brings m knowing holds pooled travels keeps =
      same-meant now (most + 1 + 1) o (step o.world (Event.Deliver k)) knowing holds pooled travels keeps (moved-own o.sides o.world
      (step o.world (Event.Deliver k)) (delivery-who g most small o.world m.knowing m.holds k) m.own)
  renewed-meant o Event.ServerTick now brings m knowing holds pooled travels keeps =
      same-meant now (most + 1 + 1) o (step o.world Event.ServerTick) knowing holds pooled travels keeps (moved-own o.sides o.world
      (step o.world Event.ServerTick) (server-tick-who o.world) m.own)
  renewed-meant o (Event.ClientTick host) now brings m knowing holds pooled travels keeps =
      same-meant now (most + 1 + 1) o (step o.world (Event.ClientTick host)) knowing holds pooled travels keeps (moved-own o.sides o.world
      (step o.world (Event.ClientTick host)) (tick-who g most small o.world m.knowing host) m.own)
  renewed-meant o (Event.Restart host) now brings m knowing holds pooled travels keeps =
      restarted-meant now (most + 1 + 1) o (step o.world (Event.Restart host)) knowing holds pooled travels keeps host (restarted-own o.sides o.world
      host m.own)
  renewed-meant o (Event.Crash longest) now brings m knowing holds pooled travels keeps =
      crashed-meant now (most + 1 + 1) o (step o.world (Event.Crash longest)) knowing holds pooled travels keeps (moved-own o.sides o.world
      (step o.world (Event.Crash longest)) (crash-who o.world longest) m.own)

  inner-meant : (o : Outside) (event : Event) → EventBrings event → MeantIn g most o → SomeMeant (most + 1 + 1) (inner o event)
  inner-meant o event brings m =
      let w = step o.world event in
      let k = step-knows g most small o.world m.holds m.knowing event brings in
      let a = adds o.world w (step-changes o.world event) in
      let lifted = each-map (IsMeant g o.world.packets) (IsMeant k.now w.packets) o.sent (λ p old. subst (λ ps. IsMeant k.now ps p) (sym a.is)
      (more-meant g k.now o.world.packets a.more k.more p old)) m.travels in
      let pool = each-map (λ b. In g (b.0, b.1)) (λ b. In k.now (b.0, b.1)) o.pool.bodies (λ b old. k.more b.0 b.1 old) m.pooled in
      let keeps : AllKeep w.packets o.sides = subst (λ ps. AllKeep ps o.sides) (sym a.is) (more-keep o.world.packets a.more o.sides m.keeps) in
      let here : (renewed o event w).world ≡ w = ap (λ i. i.0) (ran o event w) in
      let packets : (renewed o event w).world.packets ≡ w.packets = ap (λ (u : World). u.packets) here in
      let r = renewed-meant o event k.now brings m k.knowing (step-holds o.world event m.holds) pool lifted keeps in
      record {
        bodies = k.now;
        meant = all-meant k.now (most + 1 + 1) (renewed o event w) (length o.world.packets) (drop (length o.world.packets) w.packets)
            (ap (drop (length o.world.packets)) packets) r;
      }

  -- ---- deliveries

  delivery-meant : (o : Outside) (stands : Option ℕ) → MeantIn g most o → SomeMeant (most + 1 + 1) (inner_delivery o stands)
  delivery-meant o None m = stays g most o m
  delivery-meant o (Some number) m = inner-meant o (Event.Deliver number) tt m

  with-pooled : (w : Written) (body : List ℕ) (bodies : List (Written × List ℕ)) → In g (w, body) → Each (λ b. In g (b.0, b.1)) bodies
      → Each (λ b. In g (b.0, b.1)) (with_body w body bodies)
  unfolding with_body
  with-pooled w body bodies new h = each-take (λ b. In g (b.0, b.1)) 1024 ((w, body) ∷ others w bodies) (new, each-filter (λ b. In g (b.0, b.1)) _ bodies h)

  staging : (o : Outside) (host : ℕ) (s : Stage) → In g (s.written, s.body) → MeantIn g most o → MeantIn g most (takes_stage o host (staged o.pool s))
  unfolding takes_stage
  staging o host s known m =
      let o' = record o { pool = (staged o.pool s).1; counts = record o.counts { staged = o.counts.staged + 1 } } in
      let m' : MeantIn g most o' = record {
        knowing = m.knowing;
        holds = m.holds;
        pooled = with-pooled s.written s.body o.pool.bodies known m.pooled;
        travels = m.travels;
        keeps = m.keeps;
        own = m.own;
      } in
      sends-meant g most o' (beside Party.Server (Party.Client host) (staged o.pool s).0) (replied refl refl) m'

  committing : (o : Outside) (host : ℕ) (stands : Option ℕ) (a : Answer) → MeantIn g most o → SomeMeant (most + 1 + 1) (takes_commit o host stands a)
  committing o host stands (write bytes) m = delivery-meant (record o { counts = record o.counts { commits = o.counts.commits + 1 } }) stands m
  committing o host stands (unstaged bytes) m =
      let o' = record o { counts = record o.counts { unstaged = o.counts.unstaged + 1 } } in
      stays g most _ (sends-meant g most o' (beside Party.Server (Party.Client host) bytes) (replied refl refl) m)

  serving-commit : (o : Outside) (host : ℕ) (p : Outer) (c : Option Commit) → MeantIn g most o → SomeMeant (most + 1 + 1) (served_commit o host p c)
  serving-commit o host p None m = delivery-meant o p.stands m
  serving-commit o host p (Some c) m = committing o host p.stands (answered o.pool c) m

  -- an inner packet of a host is neither a STAGE nor a COMMIT
  inner-request : (w : World) (number host : ℕ) (p : Outer) (q : Packet) → Knowing g most w → IsInner w.packets number p q → p.sender ≡ Party.Client
      host → IsRequest g q.message
  inner-request w number host p q knowing i by = says-request g q.message (each-get (PacketKnown g) w.packets number q i.is knowing.packets host
      (sym i.sender ∙ by))

  -- a STAGE that is read has the body of its write
  reads-stage : (w : World) (host : ℕ) (p : Outer) (s : Stage) → Knowing g most w → p.sender ≡ Party.Client host → IsMeant g w.packets p
      → stage_in p.bytes ≡ Some s → In g (s.written, s.body)
  reads-stage w host p s knowing by (whole number q i is) e =
      let r = inner-request w number host p q knowing i by in
      let none : None ≡ Some s = sym (ap stage_in (is ∙ ap bytes_of r.is) ∙ request-no-stage r.xid r.request) ∙ e in
      absurd cc
  reads-stage w host p s knowing by (short number q push verifier body i is fits same known) e = let none : None ≡ Some s =
      sym (ap stage_in is ∙ commit-no-stage push verifier) ∙ e in absurd cc
  reads-stage w host p s knowing by (ahead xid v body none is small known) e =
      let b = knowing.fit v body known in
      let same = some-same _ s (sym (ap stage_in is ∙ stages-are-read xid v body small b.written b.size) ∙ e) in
      subst (λ (z : Stage). In g (z.written, z.body)) same known
  reads-stage w host p s knowing by (replied none own) e = let bad : Party.Server ≡ Party.Client host = sym own ∙ by in absurd cc

  own-read : (host : ℕ) (bytes : List ℕ) (s : Stage) → own_stage host bytes ≡ Some s → stage_in bytes ≡ Some s
  own-read host bytes s e = case (stage_in bytes) refl e
    where
      if-own : (t : Stage) (b : Bool) → (if b then Some t else None) ≡ Some s → Some t ≡ Some s
      if-own t true e = e
      if-own t false e = none-some s e

      case : (o : Option Stage) → stage_in bytes ≡ o → stage_if_own host o ≡ Some s → stage_in bytes ≡ Some s
      case None is e = none-some s e
      case (Some t) is e = is ∙ if-own t (t.written.host == host) e

  serving-stage : (o : Outside) (host : ℕ) (p : Outer) (s : Option Stage) → own_stage host p.bytes ≡ s → p.sender ≡ Party.Client host
      → IsMeant g o.world.packets p → MeantIn g most o → SomeMeant (most + 1 + 1) (served_stage o host p s)
  serving-stage o host p None is by meant m = serving-commit o host p (own_commit host p.bytes) m
  serving-stage o host p (Some s) is by meant m = stays g most _ (staging o host s (reads-stage o.world host p s m.knowing by meant
      (own-read host p.bytes s is)) m)

  at-server : (o : Outside) (p : Outer) (from : Party) → p.sender ≡ from → IsMeant g o.world.packets p → MeantIn g most o → SomeMeant (most + 1 + 1)
      (to_server o p from)
  at-server o p Party.Server by meant m = delivery-meant o p.stands m
  at-server o p (Party.Client host) by meant m = serving-stage o host p (own_stage host p.bytes) refl by meant m

  -- what a side keeps of what it is told is what it kept
  kept-well : (ps : List Packet) (host : ℕ) (side : Side) (t : Told) → KeepsWell ps host side
      → KeepsWell ps host (record side { stager = kept_by side.stager t })
  kept-well ps host side (acknowledged w verifier) h = record { next = h.next; kept = h.kept }
  kept-well ps host side (again bytes) h = record { next = h.next; kept = h.kept }
  kept-well ps host side other h = record { next = h.next; kept = h.kept }

  side-meant : (o : Outside) (host : ℕ) (old side : Side) → slice_get o.sides host ≡ Some old → side.stager.who ≡ old.stager.who
      → KeepsWell o.world.packets host side → MeantIn g most o → MeantIn g most (record o { sides = slice_set o.sides host side })
  side-meant o host old side at same new m = record {
    knowing = m.knowing;
    holds = m.holds;
    pooled = m.pooled;
    travels = m.travels;
    keeps =
        set-keep o.world.packets o.sides host side new m.keeps;
    own = set-own o.sides o.world.clients host old side at same m.own;
  }

  -- the WRITE that is to be sent again is the one that was kept
  told-again : (s : Staged) (bytes w : List ℕ) → told_by s bytes ≡ again w → (k : Shortened) × (s.shortened ≡ Some k) × (w ≡ k.write)
  told-again s bytes w e = first (acknowledging s.who.inc s.offered bytes) e
    where
      third : (k : Shortened) (b : Bool) → s.shortened ≡ Some k → told_as None (if b then Some k.write else None) ≡ again w → (k : Shortened)
          × (s.shortened ≡ Some k) × (w ≡ k.write)
      third k true is e = let same : w ≡ k.write = cc in (k, is, same)
      third k false is e = absurd cc

      second : (o : Option Shortened) → s.shortened ≡ o → told_as None (again_from s.who.inc o bytes) ≡ again w → (k : Shortened)
          × (s.shortened ≡ Some k) × (w ≡ k.write)
      second None is e = absurd cc
      second (Some k) is e = third k (is_unstaged_in k.xid s.who.inc bytes) is e

      first : (a : Option (Written × ℕ)) → told_as a (again_from s.who.inc s.shortened bytes) ≡ again w → (k : Shortened) × (s.shortened ≡ Some k)
          × (w ≡ k.write)
      first (Some a) e = absurd cc
      first None e = second s.shortened refl e

  telling : (o : Outside) (host : ℕ) (side : Side) (bytes : List ℕ) (t : Told) → told_by side.stager bytes ≡ t → slice_get o.sides host ≡ Some side
      → MeantIn g most o → MeantIn g most (told_side o host side t)
  telling o host side bytes (again w) is at m =
      let k = told-again side.stager bytes w is in
      let keeps = m.keeps host side at in
      let kept = keeps.kept k.0 k.1 in
      let new = record side { stager = kept_by side.stager (again w) } in
      let o' = record o { sides = slice_set o.sides host new } in
      let m' = side-meant o host side new at refl (kept-well o.world.packets host side (again w) keeps) m in
      let i : IsInner o.world.packets kept.number (record { sender = Party.Client host; to = Party.Server; bytes = w; stands = side.last })
      kept.packet = record { is = kept.is; stands = kept.number_is; sender = sym kept.sender; to = sym kept.to } in
      sends-meant g most o' (record { sender = Party.Client host; to = Party.Server; bytes = w; stands = side.last }) (whole kept.number kept.packet i
      (k.2 ∙ kept.same)) m'
  telling o host side bytes (acknowledged w verifier) is at m = side-meant o host side
      (record side { stager = kept_by side.stager (acknowledged w verifier) }) at refl (kept-well o.world.packets host side (acknowledged w verifier)
      (m.keeps host side at)) m
  telling o host side bytes other is at m = side-meant o host side (record side { stager = kept_by side.stager other }) at refl
      (kept-well o.world.packets host side other (m.keeps host side at)) m

  hearing : (o : Outside) (host : ℕ) (p : Outer) (side : Option Side) → slice_get o.sides host ≡ side → MeantIn g most o
      → MeantIn g most (heard_by o host p side)
  hearing o host p None is m = m
  hearing o host p (Some side) is m = telling o host side p.bytes (told_by side.stager p.bytes) refl is m

  at-host : (o : Outside) (host : ℕ) (p : Outer) (stands : Option ℕ) → MeantIn g most o → SomeMeant (most + 1 + 1) (to_host_outside o host p stands)
  at-host o host p (Some number) m = inner-meant o (Event.Deliver number) tt m
  at-host o host p None m = stays g most _ (hearing o host p (slice_get o.sides host) refl m)

  taking : (o : Outside) (p : Outer) (to : Party) → IsMeant g o.world.packets p → MeantIn g most o → SomeMeant (most + 1 + 1) (takes o p to)
  taking o p Party.Server meant m = at-server o p p.sender refl meant m
  taking o p (Party.Client host) meant m = at-host o host p p.stands m

  delivering : (o : Outside) (k : ℕ) (p : Option Outer) → slice_get o.sent k ≡ p → MeantIn g most o → SomeMeant (most + 1 + 1) (delivers o p)
  delivering o k None is m = stays g most o m
  delivering o k (Some p) is m = taking o p p.to (each-get (IsMeant g o.world.packets) o.sent k p is m.travels) m

  -- ---- an offer

  -- the write that is offered is the last one of delayed writes in the list
  unknown-in : (who : Who) (acked : List (Written × ℕ)) (dirty : List Push) (w : Written) → first_unknown who acked dirty ≡ Some w → (p : Push)
      × In dirty p × (written_by who p ≡ w)
  unknown-in who acked [] w e = none-some w e
  unknown-in who acked (p ∷ dirty) w e = step (is_some (verifier_of (written_by who p) acked)) (unknown-in who acked dirty w) e
    where
      step : (b : Bool) → (first_unknown who acked dirty ≡ Some w → (q : Push) × In dirty q × (written_by who q ≡ w))
          → (if b then first_unknown who acked dirty else Some (written_by who p)) ≡ Some w → (q : Push) × In (p ∷ dirty) q × (written_by who q ≡ w)
      step true rest e = let k = rest e in (k.0, inr k.1, k.2)
      step false rest e = (p, inl refl, some-same (written_by who p) w e)

  -- its body is the one of those delayed writes
  body-there : (dirty : List Push) (push : Option Push) (p : Push) → AreApart dirty → In dirty p → dirty_body p.file p.block dirty push ≡ Some p.body
  body-there dirty push p apart i = ap (λ o. held_body o (pushed_body p.file p.block push) None) (there-at dirty p apart i)

  offers-known : (s : Staged) (dirty : List Push) (push : Option Push) (b : Written × List ℕ) → Each (Carries g s.who) dirty → AreApart dirty
      → offer_of s dirty push ≡ Some b → In g (b.0, b.1)
  offers-known s dirty push b carry apart e = case (first_unknown s.who s.acknowledged dirty) refl e
    where
      case : (o : Option Written) → first_unknown s.who s.acknowledged dirty ≡ o → body_among dirty push o ≡ Some b → In g (b.0, b.1)
      case None is e = none-some b e
      case (Some w) is e =
          let k = unknown-in s.who s.acknowledged dirty w is in
          let p = k.0 in
          let known : In g (written_by s.who p, p.body) = each-at (Carries g s.who) dirty p k.1 carry in
          let there : body_among dirty push (Some (written_by s.who p)) ≡ Some (written_by s.who p, p.body) =
          ap (with_body_there (written_by s.who p)) (body-there dirty push p apart k.1) in
          let one : (written_by s.who p, p.body) ≡ b = some-same _ b (sym there ∙ subst (λ z. body_among dirty push (Some z) ≡ Some b) (sym k.2) e) in
          subst (λ z. In g (z.0, z.1)) one known

  below-end : (n : ℕ) → min n 4294967295 < 2 ^ 32
  below-end n = omega arith

  offering-body : (o : Outside) (host : ℕ) (side : Side) (b : Option (Written × List ℕ)) → ((v : Written × List ℕ) → b ≡ Some v → In g (v.0, v.1))
      → slice_get o.sides host ≡ Some side → MeantIn g most o → MeantIn g most (offers_body o host side b)
  unfolding sends_stage
  offering-body o host side None known at m = m
  offering-body o host side (Some b) known at m =
      let side' = record side { stager = (offered side.stager b.0 b.1).1 } in
      let keeps = m.keeps host side at in
      let keeps' : KeepsWell o.world.packets host side' = record { next = below-end (side.stager.next + 1); kept = keeps.kept } in
      let m' = side-meant o host side side' at refl keeps' m in
      sends-meant g most (record o { sides = slice_set o.sides host side' }) (beside (Party.Client host) Party.Server (offered side.stager b.0 b.1).0)
      (ahead side.stager.next b.0 b.1 refl refl keeps.next (known b refl)) m'

  offering : (o : Outside) (host : ℕ) (side : Option Side) (c : Option Client) → slice_get o.sides host ≡ side → slice_get o.world.clients host ≡ c
      → MeantIn g most o → MeantIn g most (offers o host side c)
  offering o host None c is at m = m
  offering o host (Some side) None is at m = m
  offering o host (Some side) (Some c) is at m =
      let k = m.knowing.clients host c at in
      let who : side.stager.who ≡ c.who = m.own host side c is at in
      let carry : Each (Carries g side.stager.who) c.dirty = subst (λ (w : Who). Each (Carries g w) c.dirty) (sym who) k.listed in
      offering-body o host side (offer_of side.stager c.dirty c.push) (λ b e. offers-known side.stager c.dirty c.push b carry k.apart e) is m

  -- ---- an event of a staged schedule

  stepping : (o : Outside) (event : StagedEvent) → StagedBrings event → MeantIn g most o → SomeMeant (most + 1 + 1) (outside_step o event)
  stepping o (StagedEvent.Stage host) brings m = stays g most _ (offering o host (slice_get o.sides host) (slice_get o.world.clients host) refl refl m)
  stepping o (StagedEvent.Plain (Event.Deliver number)) brings m = delivering o number (slice_get o.sent number) refl m
  stepping o (StagedEvent.Plain (Event.Call host op)) brings m = inner-meant o (Event.Call host op) brings m
  stepping o (StagedEvent.Plain Event.ServerTick) brings m = inner-meant o Event.ServerTick tt m
  stepping o (StagedEvent.Plain (Event.ClientTick host)) brings m = inner-meant o (Event.ClientTick host) tt m
  stepping o (StagedEvent.Plain (Event.Restart host)) brings m = inner-meant o (Event.Restart host) tt m
  stepping o (StagedEvent.Plain (Event.Crash longest)) brings m = inner-meant o (Event.Crash longest) tt m

-- ---- a staged schedule

all-fresh : (ps : List Packet) (cs : List Client) (host n : ℕ) (side : Side) → slice_get (map (λ c. record { stager = new_stager c.who; last = None })
    cs) n ≡ Some side → KeepsWell ps host side
all-fresh ps [] host n side at = none-some side at
all-fresh ps (c ∷ cs) host zero side at = subst (KeepsWell ps host) (some-same _ side at) (fresh-keeps ps host c.who)
all-fresh ps (c ∷ cs) host (suc n) side at = all-fresh ps cs host n side at

fresh-own : (cs : List Client) → AreOwn (map (λ c. record { stager = new_stager c.who; last = None }) cs) cs
fresh-own [] host side c at there = none-some c there
fresh-own (b ∷ cs) zero side c at there = ap (λ (s : Side). s.stager.who) (sym (some-same _ side at)) ∙ ap (λ (z : Client). z.who) (some-same b c there)
fresh-own (b ∷ cs) (suc host) side c at there = fresh-own cs host side c at there

start-meant : (head : Head) → head.hosts ≤ most_hosts → MeantIn [] 1 (outside_start head)
unfolding outside_start
start-meant head few = record {
  knowing = start-knows head few;
  holds = run-holds head [];
  pooled = tt;
  travels = tt;
  keeps = λ host side at. all-fresh (start head).packets (start head).clients host host side at;
  own = fresh-own (start head).clients;
}

-- each event gives two numbers at most
pub run-meant : (head : Head) (events : List StagedEvent) → head.hosts ≤ most_hosts → length events ≤ most_events → Each StagedBrings events
    → SomeMeant (2 * length events + 1) (outside_run head events)
run-meant head [] hosts few brings = record { bodies = []; meant = start-meant head hosts }
run-meant head (event ∷ earlier) hosts few brings =
    let before = run-meant head earlier hosts (omega arith) brings.1 in
    let after = stepping before.bodies (2 * length earlier + 1) (omega arith) (outside_run head earlier) event brings.0 before.meant in
    subst (λ n. SomeMeant n (outside_run head (event ∷ earlier))) (omega arith) after
