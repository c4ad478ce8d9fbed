-- So what the pool rebuilds is what was meant, and each packet stands for what it carries.
use Rattle.std.proofs.Common.{◌≡◌, ◌⊎◌, ℕ, ◌+◌, ◌*◌, ◌==◌, Bool, true, false, List, [], ◌∷◌, Option, Some, None, if◌then◌else◌, length, refl, sym}
use Rattle.std.proofs.Common.{subst, ap, ◌∙◌, inl, inr}
use Rattle.std.specs.Prelude.{slice_get}
use Rattle.nq_base.specs.declared.Event.{Event}
use Rattle.nq_base.specs.declared.Party.{Party}
use Rattle.nq_datagrams.specs.Messages.{bytes_of}
use Rattle.law_runs.proofs.EachOf.{each-get}
use Rattle.nq_stage.proofs.Datagrams.{request-no-stage, request-no-commit, stage-no-commit, commit-no-stage, reads-commit}
use Rattle.nq_stage.proofs.KnownBodies.{Bodies}
use Rattle.nq_stage.proofs.KnownRuns.{PacketKnown, Knowing}
use Rattle.nq_model.specs.laws.Journal.{Each}
use Rattle.nq_model.specs.protocol.World.{World, step}
use Rattle.nq_stage.specs.Answering.{Answer, write, unstaged, own_stage, own_commit, commit_if_own, stage_if_own, answered, answered_as}
use Rattle.nq_stage.specs.Bodies.{Bodies as Pool, body_of}
use Rattle.nq_stage.specs.declared.messages.Commit.{Commit}
use Rattle.nq_stage.specs.declared.messages.Pushed.{Pushed}
use Rattle.nq_stage.specs.declared.messages.Written.{Written}
use Rattle.nq_stage.specs.Messages.{write_bytes, written_of}
use Rattle.nq_stage.specs.Reading.{stage_in, commit_in}
use Rattle.nq_stage.specs.Writes.{is_same}
use Rattle.nq_stage.proofs.Writes.{same_write}
use Rattle.nq_stage.specs.Outer.{Outer, Outside}
use Rattle.nq_stage.specs.Outside.{inner_delivery, takes_commit, served_commit, served_stage, to_server, to_host as to_host_outside, takes, delivers}
use Rattle.nq_stage.specs.Outside.{outside_run}
use Rattle.nq_stage.specs.Theorem.{StandsFor, EachStandsForItsPacket, IsUnstaged, EachIsDeliveredAsItsPacket, IsInnerPacket, RebuildsWhatWasMeant}
use Rattle.nq_stage.proofs.Inner.{inner-ran}
use Rattle.walk_steps.proofs.ClientMoves.{some-same, none-some}
use Rattle.walk_steps.proofs.Packets.{In}
use Rattle.nq_stage.proofs.Meaning.{IsMeant, whole, short, ahead, replied, says-request}
use Rattle.nq_stage.proofs.Meant.{run-meant}

-- ---- what is rebuilt

-- the body that a pool has of a write is the one of that write
pooled-body : (g : Bodies) (w : Written) (bodies : List (Written × List ℕ)) (body : List ℕ) → Each (λ b. In g (b.0, b.1)) bodies → body_of w bodies
    ≡ Some body → In g (w, body)
pooled-body g w [] body h e = none-some body e
pooled-body g w (b ∷ bodies) body h e = step (is_same w b.0) refl (pooled-body g w bodies body h.1) e
  where
    step : (on : Bool) → is_same w b.0 ≡ on → (body_of w bodies ≡ Some body → In g (w, body)) → (if on then Some b.1 else body_of w bodies)
        ≡ Some body → In g (w, body)
    step true same rest e =
        let one : w ≡ b.0 = same_write w b.0 same in
        let it : b.1 ≡ body = some-same b.1 body e in
        subst (λ z. In g (w, z)) it (subst (λ z. In g (z, b.1)) (sym one) h.0)
    step false same rest e = rest e

record Rebuilt (g : Bodies) (c : Commit) (bytes : List ℕ) : Type 0 where
  body : List ℕ
  known : In g (written_of c.pushed, body)
  is : bytes ≡ write_bytes c.pushed body

rebuilt : (g : Bodies) (pool : Pool) (c : Commit) (bytes : List ℕ) → Each (λ b. In g (b.0, b.1)) pool.bodies → answered pool c ≡ write bytes
    → Rebuilt g c bytes
rebuilt g pool c bytes h e = by-boot (c.verifier == pool.boot) e
  where
    by-body : (o : Option (List ℕ)) → body_of (written_of c.pushed) pool.bodies ≡ o → answered_as c o ≡ write bytes → Rebuilt g c bytes
    by-body None is e = absurd cc
    by-body (Some body) is e = record {
      body = body;
      known = pooled-body g (written_of c.pushed) pool.bodies body h is;
      is = (let same : bytes ≡ write_bytes c.pushed body = cc in same);
    }

    by-boot : (b : Bool) → answered_as c (if b then body_of (written_of c.pushed) pool.bodies else None) ≡ write bytes → Rebuilt g c bytes
    by-boot true e = by-body (body_of (written_of c.pushed) pool.bodies) refl e
    by-boot false e = absurd cc

own-commit-read : (host : ℕ) (bytes : List ℕ) (c : Commit) → own_commit host bytes ≡ Some c → commit_in bytes ≡ Some c
own-commit-read host bytes c e = case (commit_in bytes) refl e
  where
    if-own : (d : Commit) (b : Bool) → (if b then Some d else None) ≡ Some c → Some d ≡ Some c
    if-own d true e = e
    if-own d false e = none-some c e

    case : (o : Option Commit) → commit_in bytes ≡ o → commit_if_own host o ≡ Some c → commit_in bytes ≡ Some c
    case None is e = none-some c e
    case (Some d) is e = is ∙ if-own d (d.pushed.who.host == host) e

-- a COMMIT that travels stands for a push with the body that its write has
meant-rebuilt : (g : Bodies) (most : ℕ) (w : World) (host : ℕ) (p : Outer) (c : Commit) (bytes : List ℕ) → Knowing g most w → p.sender ≡ Party.Client
    host → IsMeant g w.packets p → commit_in p.bytes ≡ Some c → Rebuilt g c bytes → IsInnerPacket w host p bytes
meant-rebuilt g most w host p c bytes knowing by (whole number q i is) read r =
    let asked = says-request g q.message (each-get (PacketKnown g) w.packets number q i.is knowing.packets host (sym i.sender ∙ by)) in
    let none : None ≡ Some c = sym (ap commit_in (is ∙ ap bytes_of asked.is) ∙ request-no-commit asked.xid asked.request) ∙ read in
    absurd cc
meant-rebuilt g most w host p c bytes knowing by (ahead xid v body none is small known) read r = let none : None ≡ Some c =
    sym (ap commit_in is ∙ stage-no-commit xid v body) ∙ read in absurd cc
meant-rebuilt g most w host p c bytes knowing by (replied none own) read r = let bad : Party.Server ≡ Party.Client host = sym own ∙ by in absurd cc
meant-rebuilt g most w host p c bytes knowing by (short number q push verifier body i is fits same known) read r =
    let pushed : c.pushed ≡ push = reads-commit push verifier c fits (sym (ap commit_in is) ∙ read) in
    let k : In g (written_of push, r.body) = subst (λ (z : Pushed). In g (written_of z, r.body)) pushed r.known in
    let alike : r.body ≡ body = knowing.one (written_of push) r.body body k known in
    record {
      number = number;
      packet = q;
      stands = i.stands;
      is = i.is;
      sender = sym i.sender ∙ by;
      same = r.is ∙ ap (λ (z : Pushed). write_bytes z r.body) pushed ∙ ap (write_bytes push) alike ∙ sym same;
    }

pub rebuilds-what-was-meant : RebuildsWhatWasMeant
rebuilds-what-was-meant head events schedule k host p c bytes travels answers =
    let o = outside_run head events in
    let s = run-meant head events schedule.hosts schedule.few schedule.brings in
    let meant = each-get (IsMeant s.bodies o.world.packets) o.sent k p travels.is s.meant.travels in
    meant-rebuilt s.bodies (2 * length events + 1) o.world host p c bytes s.meant.knowing travels.sender meant (own-commit-read host p.bytes c
    travels.commit) (rebuilt s.bodies o.pool c bytes s.meant.pooled answers)

-- ---- what each packet stands for

meant-stands : (g : Bodies) (w : World) (number : ℕ) (p : Outer) → p.stands ≡ Some number → IsMeant g w.packets p → StandsFor w number p
meant-stands g w number p at (whole n q i is) =
    let same : n ≡ number = some-same n number (sym i.stands ∙ at) in
    record { packet = q; is = subst (λ k. slice_get w.packets k ≡ Some q) same i.is; sender = i.sender; to = i.to; carries = inl is }
meant-stands g w number p at (short n q push verifier body i is fits whole-bytes known) =
    let same : n ≡ number = some-same n number (sym i.stands ∙ at) in
    record {
      packet = q;
      is = subst (λ k. slice_get w.packets k ≡ Some q) same i.is;
      sender = i.sender;
      to = i.to;
      carries = inr (record { push = push; verifier = verifier; body = body; commit = is; whole = whole-bytes });
    }
meant-stands g w number p at (ahead xid v body none is small known) = none-some number (sym none ∙ at)
meant-stands g w number p at (replied none own) = none-some number (sym none ∙ at)

pub each-stands : EachStandsForItsPacket
each-stands head events schedule k number p is at =
    let o = outside_run head events in
    let s = run-meant head events schedule.hosts schedule.few schedule.brings in
    meant-stands s.bodies o.world number p at (each-get (IsMeant s.bodies o.world.packets) o.sent k p is s.meant.travels)

-- ---- what each delivery is

-- the delivery of a packet leads to this world, or was that of a COMMIT without its body
abbrev Delivers : Outside → (number : ℕ) → Outer → World → Type 0
Delivers o number p w = (w ≡ step o.world (Event.Deliver number)) ⊎ IsUnstaged o p

-- the inner delivery
goes : (o : Outside) (number : ℕ) (p : Outer) (stands : Option ℕ) → stands ≡ Some number → Delivers o number p (inner_delivery o stands).world
goes o number p stands at = inl (subst (λ s. (inner_delivery o s).world ≡ step o.world (Event.Deliver number)) (sym at)
    (ap (λ i. i.0) (inner-ran o (Event.Deliver number))))

module _ (o : Outside) (number host : ℕ) (p : Outer) (at : p.stands ≡ Some number) (by : p.sender ≡ Party.Client host) where
  commit-goes : (c : Commit) (a : Answer) → own_commit host p.bytes ≡ Some c → answered o.pool c ≡ a
      → Delivers o number p (takes_commit o host p.stands a).world
  commit-goes c (write bytes) read answers = again-there (goes (record o { counts = record o.counts { commits = o.counts.commits + 1 } }) number p p.stands at)
    where
      again-there : Delivers (record o { counts = record o.counts { commits = o.counts.commits + 1 } }) number p (takes_commit o host p.stands
          (write bytes)).world → Delivers o number p (takes_commit o host p.stands (write bytes)).world
      again-there (inl same) = inl same
      again-there (inr u) = inr (record { host = u.host; commit = u.commit; bytes = u.bytes; sender = u.sender; read = u.read; answers = u.answers })
  commit-goes c (unstaged bytes) read answers = inr (record { host = host; commit = c; bytes = bytes; sender = by; read = read; answers = answers })

  served-goes : (c : Option Commit) → own_commit host p.bytes ≡ c → Delivers o number p (served_commit o host p c).world
  served-goes None read = goes o number p p.stands at
  served-goes (Some c) read = commit-goes c (answered o.pool c) read refl

  stage-goes : own_stage host p.bytes ≡ None → Delivers o number p (to_server o p (Party.Client host)).world
  stage-goes none = subst (λ s. Delivers o number p (served_stage o host p s).world) (sym none) (served-goes (own_commit host p.bytes) refl)

-- what is no STAGE is none of this host
no-own-stage : (host : ℕ) (bytes : List ℕ) → stage_in bytes ≡ None → own_stage host bytes ≡ None
no-own-stage host bytes none = ap (stage_if_own host) none

no-stage : (g : Bodies) (most : ℕ) (w : World) (number host : ℕ) (p : Outer) → Knowing g most w → p.stands ≡ Some number → p.sender ≡ Party.Client
    host → IsMeant g w.packets p → stage_in p.bytes ≡ None
no-stage g most w number host p knowing at by (whole n q i is) =
    let asked = says-request g q.message (each-get (PacketKnown g) w.packets n q i.is knowing.packets host (sym i.sender ∙ by)) in
    ap stage_in (is ∙ ap bytes_of asked.is) ∙ request-no-stage asked.xid asked.request
no-stage g most w number host p knowing at by (short n q push verifier body i is fits same known) = ap stage_in is ∙ commit-no-stage push verifier
no-stage g most w number host p knowing at by (ahead xid v body none is small known) = none-some number (sym none ∙ at)
no-stage g most w number host p knowing at by (replied none own) = none-some number (sym none ∙ at)

module _ (g : Bodies) (most : ℕ) (o : Outside) (knowing : Knowing g most o.world) (number : ℕ) (p : Outer) (at : p.stands ≡ Some number)
    (meant : IsMeant g o.world.packets p) where
  server-goes : (from : Party) → p.sender ≡ from → Delivers o number p (to_server o p from).world
  server-goes Party.Server by = goes o number p p.stands at
  server-goes (Party.Client host) by = stage-goes o number host p at by (no-own-stage host p.bytes (no-stage g most o.world number host p knowing at by meant))

  host-goes : (host : ℕ) → Delivers o number p (to_host_outside o host p p.stands).world
  host-goes host = subst (λ s. Delivers o number p (to_host_outside o host p s).world) (sym at) (inl (ap (λ i. i.0) (inner-ran o (Event.Deliver number))))

  taken-goes : (to : Party) → Delivers o number p (takes o p to).world
  taken-goes Party.Server = server-goes p.sender refl
  taken-goes (Party.Client host) = host-goes host

pub each-is-delivered : EachIsDeliveredAsItsPacket
each-is-delivered head events schedule k number p is at =
    let o = outside_run head events in
    let s = run-meant head events schedule.hosts schedule.few schedule.brings in
    let meant = each-get (IsMeant s.bodies o.world.packets) o.sent k p is s.meant.travels in
    subst (λ q. Delivers o number p (delivers o q).world) (sym is) (taken-goes s.bodies (2 * length events + 1) o s.meant.knowing number p at meant p.to)
