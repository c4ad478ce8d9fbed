-- What a packet that travels outside means: each STAGE and each body in the pool carries the body of its write, each COMMIT stands for a
-- push that carries it, and all else that stands for an inner packet is that packet. What is sent has this meaning.
use Rattle.std.proofs.Common.{◌≡◌, ◌<◌, ◌^◌, ℕ, zero, suc, ◌+◌, ◌==◌, Bool, true, false, List, [], ◌∷◌, ◌++◌, Option, Some, None, drop, map}
use Rattle.std.proofs.Common.{refl, sym, subst, ap, ◌∙◌, arith}
use Rattle.std.specs.Prelude.{slice_get, slice_set}
use Rattle.nq_base.specs.declared.Event.{Event}
use Rattle.nq_base.specs.declared.Party.{Party}
use Rattle.nq_base.specs.declared.Request.{Request}
use Rattle.nq_base.specs.declared.Who.{Who}
use Rattle.nq_datagrams.specs.Messages.{bytes_of}
use Rattle.law_runs.proofs.EachOf.{each-get}
use Rattle.nq_stage.proofs.Datagrams.{IsPushOf, reads-push}
use Rattle.nq_stage.proofs.KnownBodies.{Bodies, Asks, Says, More}
use Rattle.nq_stage.proofs.KnownRuns.{PacketKnown, Knowing, SameWho, later-knowing}
use Rattle.nq_model.proofs.Lists.{each-append}
use Rattle.nq_model.specs.protocol.Client.{Client, ClientStep}
use Rattle.nq_model.specs.protocol.ClientStep.{restart}
use Rattle.nq_model.specs.laws.Journal.{Each}
use Rattle.nq_model.specs.protocol.Message.{Message, Packet, call, reply, error}
use Rattle.nq_model.specs.protocol.World.{World, after_server, after_client, at_client, from_host, step}
use Rattle.nq_stage.specs.declared.messages.Pushed.{Pushed}
use Rattle.nq_stage.specs.declared.messages.Written.{Written}
use Rattle.nq_stage.specs.Messages.{stage_bytes, commit_bytes, write_bytes, written_of, IsPushed}
use Rattle.nq_stage.specs.Reading.{push_in}
use Rattle.nq_stage.specs.Outer.{Outer, Side, Outside}
use Rattle.nq_stage.specs.Outside.{sends, standing, sends_whole, side_of, sends_short, sends_as, sends_by, sends_from, sends_all, new_side}
use Rattle.nq_stage.proofs.Inner.{sent-from}
use Rattle.nq_stage.specs.declared.stager.stager.Shortened.{Shortened}
use Rattle.nq_stage.specs.Acknowledged.{verifier_of}
use Rattle.nq_stage.specs.Shortening.{with_verifier, acknowledged_push, shortening, shortened}
use Rattle.nq_stage.specs.Staged.{Staged, new_stager}
use Rattle.walk_steps.proofs.ClientMoves.{some-same, none-some}
use Rattle.walk_steps.proofs.Packets.{In, in-get}
use Rattle.walk_steps.proofs.Steps.{Changes, nothing, by_client, by_server}
use Rattle.walk_steps.proofs.Worlds.{Holds, IsSent, get-set-same, get-set-other, set-there}
use Rattle.walk_steps.proofs.Rows.{same-number}
use Rattle.walk_steps.proofs.Tests.{is-other}

-- ---- what a packet that travels means

-- this inner packet goes between the same two
pub record IsInner (ps : List Packet) (number : ℕ) (p : Outer) (q : Packet) : Type 0 where
  pub is : slice_get ps number ≡ Some q
  pub stands : p.stands ≡ Some number
  pub sender : p.sender ≡ q.sender
  pub to : p.to ≡ q.to

-- a packet that travels: an inner packet as it is, a COMMIT that stands for a push with a known body, a STAGE with one, or a reply of
-- the server's side
pub data IsMeant (g : Bodies) (ps : List Packet) (p : Outer) : Type 0 where
  whole : (number : ℕ) (q : Packet) → IsInner ps number p q → p.bytes ≡ bytes_of q.message → IsMeant g ps p
  short : (number : ℕ) (q : Packet) (push : Pushed) (verifier : ℕ) (body : List ℕ) → IsInner ps number p q → p.bytes ≡ commit_bytes push verifier
      → IsPushed push → bytes_of q.message ≡ write_bytes push body → In g (written_of push, body) → IsMeant g ps p
  ahead : (xid : ℕ) (w : Written) (body : List ℕ) → p.stands ≡ None → p.bytes ≡ stage_bytes xid w body → xid < 2 ^ 32 → In g (w, body) → IsMeant g ps p
  replied : p.stands ≡ None → p.sender ≡ Party.Server → IsMeant g ps p

-- the WRITE that a side keeps is the inner packet that it shortened last
pub record IsKept (ps : List Packet) (host : ℕ) (last : Option ℕ) (s : Shortened) : Type 0 where
  pub number : ℕ
  pub packet : Packet
  pub number_is : last ≡ Some number
  pub is : slice_get ps number ≡ Some packet
  pub sender : packet.sender ≡ Party.Client host
  pub to : packet.to ≡ Party.Server
  pub same : s.write ≡ bytes_of packet.message

-- the number of a side's next STAGE is a word
pub record KeepsWell (ps : List Packet) (host : ℕ) (side : Side) : Type 0 where
  pub next : side.stager.next < 2 ^ 32
  pub kept : (s : Shortened) → side.stager.shortened ≡ Some s → IsKept ps host side.last s

abbrev pub AllKeep : List Packet → List Side → Type 0
AllKeep ps sides = (host : ℕ) (side : Side) → slice_get sides host ≡ Some side → KeepsWell ps host side

-- the side at each host is of its client's incarnation
abbrev pub AreOwn : List Side → List Client → Type 0
AreOwn sides clients = (host : ℕ) (side : Side) (c : Client) → slice_get sides host ≡ Some side → slice_get clients host ≡ Some c → side.stager.who ≡ c.who

pub record Meant (g : Bodies) (most : ℕ) (w : World) (pool : List (Written × List ℕ)) (sent : List Outer) (sides : List Side) : Type 0 where
  pub knowing : Knowing g most w
  pub holds : Holds w
  pub pooled : Each (λ b. In g (b.0, b.1)) pool
  pub travels : Each (IsMeant g w.packets) sent
  pub keeps : AllKeep w.packets sides
  pub own : AreOwn sides w.clients

abbrev pub MeantIn : Bodies → (most : ℕ) → Outside → Type 0
MeantIn g most o = Meant g most o.world o.pool.bodies o.sent o.sides

pub record SomeMeant (most : ℕ) (o : Outside) : Type 0 where
  pub bodies : Bodies
  pub meant : MeantIn bodies most o

-- nothing inner happened
pub stays : (g : Bodies) (most : ℕ) (o : Outside) → MeantIn g most o → SomeMeant (most + 1 + 1) o
stays g most o m = record {
  bodies = g;
  meant = record {
    knowing = later-knowing g most o.world m.knowing;
    holds = m.holds;
    pooled = m.pooled;
    travels = m.travels;
    keeps = m.keeps;
    own = m.own;
  };
}

-- ---- more packets and more bodies

pub get-left : {X : Type 0} (xs ys : List X) (n : ℕ) (x : X) → slice_get xs n ≡ Some x → slice_get (xs ++ ys) n ≡ Some x
get-left [] ys n x e = none-some x e
get-left (y ∷ xs) ys zero x e = e
get-left (y ∷ xs) ys (suc n) x e = get-left xs ys n x e

pub drop-head : {X : Type 0} (xs : List X) (n : ℕ) (y : X) (ys : List X) → drop n xs ≡ y ∷ ys → slice_get xs n ≡ Some y
drop-head [] zero y ys e = absurd cc
drop-head [] (suc n) y ys e = absurd cc
drop-head (x ∷ xs) zero y ys e = let same : x ≡ y = cc in ap Some same
drop-head (x ∷ xs) (suc n) y ys e = drop-head xs n y ys e

pub drop-tail : {X : Type 0} (xs : List X) (n : ℕ) (y : X) (ys : List X) → drop n xs ≡ y ∷ ys → drop (n + 1) xs ≡ ys
drop-tail [] zero y ys e = absurd cc
drop-tail [] (suc n) y ys e = absurd cc
drop-tail (x ∷ xs) zero y ys e = let same : xs ≡ ys = cc in same
drop-tail (x ∷ xs) (suc n) y ys e =
    let one : suc n + 1 ≡ suc (n + 1) = omega arith in
    subst (λ k. drop k (x ∷ xs) ≡ ys) (sym one) (drop-tail xs n y ys e)

pub inner-more : (ps more : List Packet) (number : ℕ) (p : Outer) (q : Packet) → IsInner ps number p q → IsInner (ps ++ more) number p q
inner-more ps more number p q i = record { is = get-left ps more number q i.is; stands = i.stands; sender = i.sender; to = i.to }

pub more-meant : (g g' : Bodies) (ps more : List Packet) → More g g' → (p : Outer) → IsMeant g ps p → IsMeant g' (ps ++ more) p
more-meant g g' ps more wider p (whole number q i is) = whole number q (inner-more ps more number p q i) is
more-meant g g' ps more wider p (short number q push verifier body i is fits same known) =
    short number q push verifier body (inner-more ps more number p q i) is fits same (wider (written_of push) body known)
more-meant g g' ps more wider p (ahead xid w body none is small known) = ahead xid w body none is small (wider w body known)
more-meant g g' ps more wider p (replied none own) = replied none own

pub more-keep : (ps more : List Packet) (sides : List Side) → AllKeep ps sides → AllKeep (ps ++ more) sides
more-keep ps more sides h host side at =
    let k = h host side at in
    record {
      next = k.next;
      kept = λ s e. let i = k.kept s e in record {
        number = i.number;
        packet = i.packet;
        number_is = i.number_is;
        is = get-left ps more i.number
            i.packet i.is;
        sender = i.sender;
        to = i.to;
        same = i.same;
      };
    }

-- ---- an inner event

pub record Adds (w v : World) : Type 0 where
  pub more : List Packet
  pub is : v.packets ≡ w.packets ++ more

pub adds : (w v : World) → Changes w v → Adds w v
unfolding after_client after_server
adds w v (nothing is) = record { more = []; is = ap (λ (u : World). u.packets) is ∙ none w.packets }
  where
    none : (ps : List Packet) → ps ≡ ps ++ []
    none [] = refl
    none (p ∷ ps) = ap (λ rest. p ∷ rest) (none ps)
adds w v (by_client host c t at acts to) = record { more = map (from_host host) t.sends; is = ap (λ (u : World). u.packets) to }
adds w v (by_server t acts to) = record { more = t.sends; is = ap (λ (u : World). u.packets) to }

-- a side that begins anew keeps no WRITE
pub fresh-keeps : (ps : List Packet) (host : ℕ) (who : Who) → KeepsWell ps host (record { stager = new_stager who; last = None })
fresh-keeps ps host who = record { next = omega arith; kept = λ s e. none-some s e }

-- a side in place of another
pub set-keep : (ps : List Packet) (sides : List Side) (host : ℕ) (new : Side) → KeepsWell ps host new → AllKeep ps sides
    → AllKeep ps (slice_set sides host new)
set-keep ps sides host new keeps h n side at = case (n == host) refl
  where
    case : (b : Bool) → (n == host) ≡ b → KeepsWell ps n side
    case true e =
        let here : n ≡ host = same-number n host e in
        let it : side ≡ new = get-set-same sides host new side (subst (λ k. slice_get (slice_set sides host new) k ≡ Some side) here at) in
        subst (λ k. KeepsWell ps k side) (sym here) (subst (KeepsWell ps host) (sym it) keeps)
    case false e = h n side (sym (get-set-other sides host n new (λ k. is-other n host e k)) ∙ at)

pub new-keep : (ps : List Packet) (c : Option Client) (sides : List Side) (host : ℕ) → AllKeep ps sides → AllKeep ps (new_side c sides host)
new-keep ps None sides host h = h
new-keep ps (Some c) sides host h = set-keep ps sides host _ (fresh-keeps ps host c.who) h

-- a side in place of another of the same incarnation
pub set-own : (sides : List Side) (clients : List Client) (host : ℕ) (old new : Side) → slice_get sides host ≡ Some old → new.stager.who
    ≡ old.stager.who → AreOwn sides clients → AreOwn (slice_set sides host new) clients
set-own sides clients host old new is same own n side c at there = case (n == host) refl
  where
    case : (b : Bool) → (n == host) ≡ b → side.stager.who ≡ c.who
    case true e =
        let here : n ≡ host = same-number n host e in
        let it : side ≡ new = get-set-same sides host new side (subst (λ k. slice_get (slice_set sides host new) k ≡ Some side) here at) in
        ap (λ (s : Side). s.stager.who) it ∙ same ∙ own host old c is (subst (λ k. slice_get clients k ≡ Some c) here there)
    case false e = own n side c (sym (get-set-other sides host n new (λ k. is-other n host e k)) ∙ at) there

-- clients that are the ones that they were
pub moved-own : (sides : List Side) (w v : World) → SameWho w v → AreOwn sides w.clients → AreOwn sides v.clients
moved-own sides w v same own host side c at there = let k = same host c there in own host side k.0 at k.1 ∙ sym k.2

-- a client that is restarted, with its new side
pub restarted-own : (sides : List Side) (w : World) (host : ℕ) → AreOwn sides w.clients
    → AreOwn (new_side (slice_get (step w (Event.Restart host)).clients host) sides host) (step w (Event.Restart host)).clients
unfolding after_client
restarted-own sides w host own = case (slice_get w.clients host) refl
  where
    after : (t : ClientStep) (c : Client) → slice_get w.clients host ≡ Some c → (o : Option Client) → slice_get (after_client w host t).clients host
        ≡ o → AreOwn (new_side o sides host) (after_client w host t).clients
    after t c is None none n side d at there = none-some t.client (sym none ∙ set-there w.clients host t.client c is)
    after t c is (Some b) some n side d at there = split (n == host) refl
      where
        split : (x : Bool) → (n == host) ≡ x → side.stager.who ≡ d.who
        split true e =
            let here : n ≡ host = same-number n host e in
            let it = get-set-same sides host (record { stager = new_stager b.who; last = None }) side
            (subst (λ k. slice_get (slice_set sides host (record { stager = new_stager b.who; last = None })) k ≡ Some side) here at) in
            let one : b ≡ d = some-same b d (sym some ∙ subst (λ k. slice_get (slice_set w.clients host t.client) k ≡ Some d) here there) in
            ap (λ (s : Side). s.stager.who) it ∙ ap (λ (z : Client). z.who) one
        split false e =
            own n side d
            (sym (get-set-other sides host n (record { stager = new_stager b.who; last = None }) (λ k. is-other n host e k)) ∙ at)
            (sym (get-set-other w.clients host n t.client (λ k. is-other n host e k)) ∙ there)

    case : (o : Option Client) → slice_get w.clients host ≡ o → AreOwn (new_side (slice_get (at_client w host restart o).clients host) sides host)
        (at_client w host restart o).clients
    case None is = subst (λ o. AreOwn (new_side o sides host) w.clients) (sym is) own
    case (Some c) is = after (restart c) c is (slice_get (after_client w host (restart c)).clients host) refl

module _ (g : Bodies) (most : ℕ) (o : Outside) (w : World) (knowing : Knowing g most w) (holds : Holds w) (pooled : Each (λ b. In g (b.0, b.1))
    o.pool.bodies) (travels : Each (IsMeant g w.packets) o.sent) (keeps : AllKeep w.packets o.sides) where
  -- an event that renews neither the pool nor a side
  pub same-meant : AreOwn o.sides w.clients → Meant g most w o.pool.bodies o.sent o.sides
  same-meant own = record { knowing = knowing; holds = holds; pooled = pooled; travels = travels; keeps = keeps; own = own }

  pub crashed-meant : AreOwn o.sides w.clients → Meant g most w [] o.sent o.sides
  crashed-meant own = record { knowing = knowing; holds = holds; pooled = tt; travels = travels; keeps = keeps; own = own }

  pub restarted-meant : (host : ℕ) → AreOwn (new_side (slice_get w.clients host) o.sides host) w.clients → Meant g most w o.pool.bodies o.sent
      (new_side (slice_get w.clients host) o.sides host)
  restarted-meant host own = record {
    knowing = knowing;
    holds = holds;
    pooled = pooled;
    travels = travels;
    keeps = new-keep w.packets
        (slice_get w.clients host) o.sides host keeps;
    own = own;
  }

-- ---- sending

-- a message that says something is a request
pub record IsRequest (g : Bodies) (m : Message) : Type 0 where
  pub xid : ℕ
  pub request : Request
  pub is : m ≡ call xid request
  pub asks : Asks g request

pub says-request : (g : Bodies) (m : Message) → Says g m → IsRequest g m
says-request g (call xid r) h = record { xid = xid; request = r; is = refl; asks = h }
says-request g (reply xid r) h = absurd h
says-request g (error xid e) h = absurd h

-- a packet of a host goes to the server
pub sent-to : (p : Packet) (host : ℕ) → IsSent p → p.sender ≡ Party.Client host → p.to ≡ Party.Server
sent-to p host (IsSent.by_host h xid r w is asks) by = ap (λ (q : Packet). q.to) is
sent-to p host (IsSent.by_server h m is) by = let bad : Party.Server ≡ Party.Client host = sym (ap (λ (q : Packet). q.sender) is) ∙ by in absurd cc

module _ (g : Bodies) (most : ℕ) where
  pub sends-meant : (o : Outside) (p : Outer) → IsMeant g o.world.packets p → MeantIn g most o → MeantIn g most (sends o p)
  unfolding sends
  sends-meant o p new m = record {
    knowing = m.knowing;
    holds = m.holds;
    pooled = m.pooled;
    travels = each-append (IsMeant g o.world.packets) o.sent _
        m.travels (new, tt);
    keeps = m.keeps;
    own = m.own;
  }

  pub whole-meant : (o : Outside) (number : ℕ) (p : Packet) → slice_get o.world.packets number ≡ Some p → MeantIn g most o
      → MeantIn g most (sends_whole o number p)
  whole-meant o number p there m = sends-meant o (standing number p.sender p.to (bytes_of p.message))
      (whole number p (record { is = there; stands = refl; sender = refl; to = refl }) refl) m

  -- the push that a side shortens, with the verifier
  pub push-read : (s : Staged) (bytes : List ℕ) (push : Pushed × ℕ) → shortening s bytes ≡ Some push → push_in bytes ≡ Some push.0
  push-read s bytes push e = case (push_in bytes) refl e
    where
      found : (p : Pushed) (o : Option ℕ) → with_verifier p o ≡ Some push → Some p ≡ Some push.0
      found p None e = none-some push e
      found p (Some v) e = ap Some (ap (λ z. z.0) (some-same (p, v) push e))

      case : (o : Option Pushed) → push_in bytes ≡ o → acknowledged_push s.acknowledged o ≡ Some push → push_in bytes ≡ Some push.0
      case None is e = none-some push e
      case (Some p) is e = is ∙ found p (verifier_of (written_of p) s.acknowledged) e

  pub short-meant : (o : Outside) (number host : ℕ) (p : Packet) (side : Side) (push : Pushed × ℕ) → slice_get o.sides host ≡ Some side → p.sender
      ≡ Party.Client host → slice_get o.world.packets number ≡ Some p → shortening side.stager (bytes_of p.message) ≡ Some push → MeantIn g most o
      → MeantIn g most (sends_short o number host p (shortened side.stager push.0 push.1 (bytes_of p.message)))
  short-meant o number host p side push at by there e m =
      let says : Says g p.message = each-get (PacketKnown g) o.world.packets number p there m.knowing.packets host by in
      let r = says-request g p.message says in
      let read = push-read side.stager (bytes_of p.message) push e in
      let is : IsPushOf g (bytes_of p.message) push.0 =
      subst (λ (z : Message). IsPushOf g (bytes_of z) push.0) (sym r.is) (reads-push g r.xid r.request push.0 m.knowing.fit r.asks
      (sym (ap (λ (z : Message). push_in (bytes_of z)) r.is) ∙ read))
      in
      let new = side_of number (shortened side.stager push.0 push.1 (bytes_of p.message)).1 in
      let keeps : KeepsWell o.world.packets host new = record {
        next = (m.keeps host side at).next;
        kept = λ s same. record {
          number = number;
          packet = p;
          number_is = refl;
          is = there;
          sender = by;
          to = sent-to p host (m.holds.sent p (in-get o.world.packets number p there)) by;
          same = ap (λ (z : Shortened). z.write)
              (sym (some-same _ s same));
        };
      } in
      let o' = record o { sides = slice_set o.sides host new } in
      let m' : MeantIn g most o' = record {
        knowing = m.knowing;
        holds = m.holds;
        pooled = m.pooled;
        travels = m.travels;
        keeps =
            set-keep o.world.packets o.sides host new keeps m.keeps;
        own = set-own o.sides o.world.clients host side new at refl m.own;
      } in
      sends-meant o' (standing number p.sender p.to (commit_bytes push.0 push.1)) (short number p push.0 push.1 is.body
      (record { is = there; stands = refl; sender = refl; to = refl }) refl is.fits is.is is.known) m'

  pub as-meant : (o : Outside) (number host : ℕ) (p : Packet) (side : Side) (short : Option (Pushed × ℕ)) → slice_get o.sides host ≡ Some side
      → p.sender ≡ Party.Client host → slice_get o.world.packets number ≡ Some p → shortening side.stager (bytes_of p.message) ≡ short
      → MeantIn g most o → MeantIn g most (sends_as o number host p side short)
  as-meant o number host p side None at by there e m = whole-meant o number p there m
  as-meant o number host p side (Some push) at by there e m = short-meant o number host p side push at by there e m

  pub by-meant : (o : Outside) (number host : ℕ) (p : Packet) (side : Option Side) → slice_get o.sides host ≡ side → p.sender ≡ Party.Client host
      → slice_get o.world.packets number ≡ Some p → MeantIn g most o → MeantIn g most (sends_by o number host p side)
  by-meant o number host p None at by there m = whole-meant o number p there m
  by-meant o number host p (Some side) at by there m = as-meant o number host p side (shortening side.stager (bytes_of p.message)) at by there refl m

  pub from-meant : (o : Outside) (number : ℕ) (p : Packet) (from : Party) → p.sender ≡ from → slice_get o.world.packets number ≡ Some p
      → MeantIn g most o → MeantIn g most (sends_from o number p from)
  from-meant o number p Party.Server by there m = whole-meant o number p there m
  from-meant o number p (Party.Client host) by there m = by-meant o number host p (slice_get o.sides host) refl by there m

  pub from-world : (o : Outside) (number : ℕ) (p : Packet) (from : Party) → (sends_from o number p from).world ≡ o.world
  from-world o number p from = ap (λ i. i.0) (sent-from o number p from)

  pub all-meant : (o : Outside) (number : ℕ) (ps : List Packet) → drop number o.world.packets ≡ ps → MeantIn g most o → MeantIn g most (sends_all o number ps)
  all-meant o number [] rest m = m
  all-meant o number (p ∷ ps) rest m =
      let there = drop-head o.world.packets number p ps rest in
      let o' = sends_from o number p p.sender in
      let same : o'.world ≡ o.world = from-world o number p p.sender in
      let packets : o'.world.packets ≡ o.world.packets = ap (λ (w : World). w.packets) same in
      all-meant o' (number + 1) ps (ap (drop (number + 1)) packets ∙ drop-tail o.world.packets number p ps rest) (from-meant o number p p.sender refl there m)
