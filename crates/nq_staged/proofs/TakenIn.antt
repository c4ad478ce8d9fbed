-- What comes of a packet that is taken in, from what the pool and the sides said.
use Rattle.std.proofs.Common.{◌≡◌, ℕ, ◌+◌, List, Option, Some, None, Vec, refl, sym, ap, ◌∙◌}
use Rattle.std.specs.Global.{Global}
use Rattle.std.specs.Option.{option_map}
use Rattle.std.specs.Prelude.{slice_get, slice_set}
use Rattle.nq_base.specs.declared.Event.{Event}
use Rattle.nq_base.specs.declared.Party.{Party}
use Rattle.nq_base.specs.declared.Push.{Push}
use Rattle.nq_model.specs.protocol.Client.{Client}
use Rattle.nq_model.specs.protocol.World.{World}
use Rattle.nq_stage.specs.Answering.{own_stage, staged}
use Rattle.nq_stage.specs.Bodies.{Bodies}
use Rattle.nq_stage.specs.declared.Written.{Written}
use Rattle.nq_stage.specs.Reading.{Stage}
use Rattle.nq_stage.specs.Hearing.{acknowledged}
use Rattle.nq_stage.specs.Offering.{body_among, first_unknown, offer_of, offered}
use Rattle.nq_stage.specs.Staged.{Staged}
use Rattle.nq_stage.specs.Outer.{Outer, Side, Outside}
use Rattle.nq_stage.specs.Outside.{beside, offers, offers_body, sends_stage, served_stage, takes_stage}
use Rattle.nq_staged.specs.Around.{AroundOver, offers_at, once_sent, over, side_offers, side_offers_as}
use Rattle.nq_staged.specs.Taking.{IsTakenIn}
use Rattle.nq_staged.specs.declared.commit.taking.PacketTaken.{PacketTaken}
use Rattle.nq_staged.proofs.Sending.{set-same}

-- ---- STAGE

stage-as : (o : Outside) (host : ℕ) (p : Outer) (s : Option Stage) (reply : List ℕ) (pool : Bodies) → option_map (staged o.pool) s
    ≡ Some (reply, pool) → takes_stage o host (reply, pool) ≡ served_stage o host p s
stage-as o host p None reply pool is = absurd (cc)
stage-as o host p (Some s) reply pool is =
    let e : staged o.pool s ≡ (reply, pool) = cc in
    ap (takes_stage o host) (sym e)

pub stage_taken : (a : AroundOver) (host : ℕ) (p : Outer) (reply : List ℕ) (pool : Bodies) → option_map (staged a.pool) (own_stage host p.bytes)
    ≡ Some (reply, pool)
    → IsTakenIn PacketTaken.Beside p.stands a (record a {
      pool = pool;
      counts = record a.counts { staged = a.counts.staged + 1 };
      due = Some (beside Party.Server (Party.Client host) reply);
    })
    (λ w ran. served_stage (over w ran a) host p (own_stage host p.bytes))
unfolding takes_stage
stage_taken a host p reply pool is = (refl, λ w ran. stage-as (over w ran a) host p (own_stage host p.bytes) reply pool is)

-- ---- COMMIT

-- ---- an offer

some-as : (side : Side) (b : Option (Written × List ℕ)) (stage : List ℕ) (kept : Staged) → option_map (λ x. offered side.stager x.0 x.1) b
    ≡ Some (stage, kept) → (Some stage, record side { stager = kept }) ≡ side_offers_as side b
some-as side None stage kept is = absurd (cc)
some-as side (Some b) stage kept is =
    let e : offered side.stager b.0 b.1 ≡ (stage, kept) = cc in
    ap (λ (g : List ℕ × Staged). let r : Option (List ℕ) × Side = (Some g.0, record side { stager = g.1 }) in r) (sym e)

pub offers_some : (side : Side) (dirty : List Push) (push : Option Push) (stage : List ℕ) (kept : Staged)
    → option_map (λ x. offered side.stager x.0 x.1) (offer_of side.stager dirty push) ≡ Some (stage, kept)
    → (Some stage, record side { stager = kept }) ≡ side_offers side dirty push
offers_some side dirty push stage kept is = some-as side (offer_of side.stager dirty push) stage kept is

pub offers_nothing : (side : Side) (dirty : List Push) (push : Option Push) (kept : Staged) → first_unknown side.stager.who side.stager.acknowledged
    dirty ≡ None → kept ≡ side.stager → (let r : Option (List ℕ) × Side = (None, record side { stager = kept }) in r) ≡ side_offers side dirty push
offers_nothing side dirty push kept none same =
    ap (λ (k : Staged). let r : Option (List ℕ) × Side = (None, record side { stager = k }) in r) same
    ∙ ap (λ w. side_offers_as side (body_among dirty push w)) (sym none)

-- what is due behind an offer
abbrev pub stage_due : (host : ℕ) → Option (List ℕ) → Option Outer
stage_due host None = None
stage_due host (Some stage) = Some (beside (Party.Client host) Party.Server stage)

body-shown : (w : World) (ran : List Event) (a : AroundOver) (host : ℕ) (side : Side) (b : Option (Written × List ℕ)) → a.due ≡ None
    → slice_get a.sides host ≡ Some side
    → once_sent w ran (record a { sides = slice_set a.sides host (side_offers_as side b).1; due = stage_due host (side_offers_as side b).0 })
    ≡ offers_body (over w ran a) host side b
unfolding sends_stage
body-shown w ran a host side None none there = ap (λ sides. record (over w ran a) { sides = sides }) (set-same a.sides host side there)
body-shown w ran a host side (Some b) none there = refl

side-shown : (w : World) (ran : List Event) (a : AroundOver) (host : ℕ) (c : Client) (o : Option Side) → a.due ≡ None → slice_get a.sides host ≡ o
    → once_sent w ran (record a {
      sides = (offers_at a.sides host c.dirty c.push o).1;
      due = stage_due host (offers_at a.sides host c.dirty c.push
          o).0;
    }) ≡ offers (over w ran a) host o (Some c)
side-shown w ran a host c None none there = refl
side-shown w ran a host c (Some side) none there = body-shown w ran a host side (offer_of side.stager c.dirty c.push) none there

pub offers_shown : (w : World) (ran : List Event) (a : AroundOver) (host : ℕ) (c : Client) (dirty : List Push) (push : Option Push)
    (stage : Option (List ℕ)) (sides : List Side) → a.due ≡ None → c.dirty ≡ dirty → c.push ≡ push
    → (stage, sides) ≡ offers_at a.sides host dirty push (slice_get a.sides host)
    → once_sent w ran (record a { sides = sides; due = stage_due host stage }) ≡ offers (over w ran a) host (slice_get a.sides host) (Some c)
offers_shown w ran a host c dirty push stage sides none d p is =
    let same : (stage, sides) ≡ offers_at a.sides host c.dirty c.push (slice_get a.sides host) = is
    ∙ ap (λ l. offers_at a.sides host l push (slice_get a.sides host)) (sym d)
    ∙ ap (λ q. offers_at a.sides host c.dirty q (slice_get a.sides host)) (sym p) in
    ap (λ (g : Option (List ℕ) × List Side). once_sent w ran (record a { sides = g.1; due = stage_due host g.0 })) same
    ∙ side-shown w ran a host c (slice_get a.sides host) none refl

-- where a STAGE is due
pub offer-put : (w : World) (ran : List Event) (a b : AroundOver) (host : ℕ) (c : Client) (dirty : List Push) (push : Option Push)
    (o : Option (Vec ℕ Global)) (v : Vec ℕ Global) (sides : List Side) (made : Outer) → a.due ≡ None → c.dirty ≡ dirty → c.push ≡ push
    → (option_map (λ x. x.items) o, sides) ≡ offers_at a.sides host dirty push (slice_get a.sides host) → o ≡ Some v
    → made ≡ beside (Party.Client host) Party.Server v.items → b ≡ record a { sides = sides; due = Some made }
    → once_sent w ran b ≡ offers (over w ran a) host (slice_get a.sides host) (Some c)
offer-put w ran a b host c dirty push o v sides made none d p is some beside-is b-is =
    ap (once_sent w ran) (b-is ∙ ap (λ m. record a { sides = sides; due = Some m }) beside-is)
    ∙ ap (λ x. once_sent w ran (record a { sides = sides; due = stage_due host (option_map (λ (y : Vec ℕ Global). y.items) x) })) (sym some)
    ∙ offers_shown w ran a host c dirty push (option_map (λ x. x.items) o) sides none d p is

-- where there was nothing to offer
pub offer-none : (w : World) (ran : List Event) (a : AroundOver) (host : ℕ) (c : Client) (dirty : List Push) (push : Option Push)
    (o : Option (Vec ℕ Global)) (sides : List Side) → a.due ≡ None → c.dirty ≡ dirty → c.push ≡ push
    → (option_map (λ x. x.items) o, sides) ≡ offers_at a.sides host dirty push (slice_get a.sides host) → o ≡ None
    → once_sent w ran (record a { sides = sides }) ≡ offers (over w ran a) host (slice_get a.sides host) (Some c)
offer-none w ran a host c dirty push o sides none d p is nothing =
    ap (λ x. once_sent w ran (record a { sides = sides; due = x })) none
    ∙ ap (λ x. once_sent w ran (record a { sides = sides; due = stage_due host (option_map (λ (y : Vec ℕ Global). y.items) x) })) (sym nothing)
    ∙ offers_shown w ran a host c dirty push (option_map (λ x. x.items) o) sides none d p is
