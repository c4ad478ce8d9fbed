-- In every run within skew each tag was drawn, and what was given up is past.
use Rattle.std.proofs.Common.{◌≡◌, ◌≢◌, ◌<◌, ◌≤◌, ◌⊎◌, ℕ, zero, suc, ◌+◌, ◌==◌, Bool, true, false, List, [], ◌∷◌, ◌++◌, Option, Some, None, map}
use Rattle.std.proofs.Common.{length, refl, sym, subst, ap, ◌∙◌, arith, inl, inr}
use Rattle.std.specs.Prelude.{slice_get, slice_set}
use Rattle.nq_base.specs.declared.Event.{Event}
use Rattle.nq_base.specs.declared.Grant.{Grant}
use Rattle.nq_base.specs.declared.Party.{Party}
use Rattle.nq_base.specs.declared.Reply.{Reply}
use Rattle.nq_base.specs.declared.Request.{Request}
use Rattle.nq_base.specs.declared.Row.{Row}
use Rattle.nq_base.specs.declared.Tag.{Tag}
use Rattle.nq_base.specs.declared.Who.{Who}
use Rattle.walk_steps.proofs.ClientMoves.{none-some}
use Rattle.walk_steps.proofs.Clocks.{within-before}
use Rattle.walk_steps.proofs.Mail.{sent-host}
use Rattle.law_runs.proofs.GrantRows.{IsBacked, all-backed}
use Rattle.walk_steps.proofs.KnownWorlds.{takeable}
use Rattle.walk_steps.proofs.Runs.{Runs, none-served}
use Rattle.walk_steps.proofs.LeaseIntervals.{run-runs, hearing, tick-sends, crash-sends}
use Rattle.walk_steps.proofs.NoCrash.{bounds-before}
use Rattle.walk_steps.proofs.Packets.{In, in-append, in-get, Told, Asked, not-both}
use Rattle.law_runs.proofs.RowNumbers.{row-numbered}
use Rattle.walk_steps.proofs.Rows.{same-number, number-same}
use Rattle.walk_steps.proofs.TermsDrawn.{standing-serving}
use Rattle.walk_steps.proofs.ServerHears.{hears-effect}
use Rattle.walk_steps.proofs.ServerKnows.{IsNew, new_reply, new_error, new_notice, Effect}
use Rattle.walk_steps.proofs.ServerTables.{StandingFitsOf, NoneRecovering}
use Rattle.walk_steps.proofs.TagFacts.{TagsFit}
use Rattle.law_runs.proofs.TagOrder.{standing-grows, drawn-later, below-later}
use Rattle.law_runs.proofs.TagSources.{AllIn, AllHeld, Leaves, LeavesIf, call-told, tick-told, restart-told, hear-told}
use Rattle.walk_steps.proofs.Worlds.{IsAt, Holds, IsSent, by_host, by_server, run-holds, to-told, get-set-same, get-set-other, first-client}
use Rattle.nq_model.specs.laws.Bounds.{KeepsBounds}
use Rattle.nq_model.specs.laws.TagsAreInOrder.{IsKnown, of_lease, of_notice, of_vacated, of_evicted, of_grant, of_grant_chain, of_row, of_chain, WasDrawn}
use Rattle.nq_model.specs.laws.TagsAreInOrder.{IsUpTo, TagsAreDrawnInOrder, VacatedTagsArePast}
use Rattle.nq_model.specs.protocol.Client.{Client, ClientStep}
use Rattle.nq_model.specs.protocol.ClientStep.{client_call, client_tick, restart, attached_client, fresh_client}
use Rattle.nq_model.specs.protocol.Hear.{hear}
use Rattle.nq_model.specs.laws.LeaseInterval.{grant_in}
use Rattle.nq_model.specs.protocol.Message.{Message, Packet, call, reply, error, datagram_of}
use Rattle.nq_model.specs.protocol.Server.{Phase, serving, recovering, Server, ServerStep, standing, standing_in}
use Rattle.nq_model.specs.protocol.ServerStep.{receive, tick, crash}
use Rattle.nq_model.specs.protocol.Skew.{IsWithinSkew}
use Rattle.nq_model.specs.protocol.Table.{Table, find_row}
use Rattle.nq_model.specs.protocol.World.{Head, World, after_server, after_client, at_client, after_hearing, deliver_to_client, deliver_to, deliver, step}
use Rattle.nq_model.specs.protocol.World.{start, run, sending_host, from_host}

-- ---- all tags of a world's clients and packets

record AllTold (T : Tag → Type 0) (w : World) : Type 0 where
  clients : (host : ℕ) (c : Client) → slice_get w.clients host ≡ Some c → AllHeld T c.leases c.notices
  packets : (p : Packet) → In w.packets p → AllIn T p.message
  senders : (host : ℕ) (m : Message) → In w.packets (from_host host m) → (c : Client) × (slice_get w.clients host ≡ Some c)

more-in : (T U : Tag → Type 0) → ((tag : Tag) → T tag → U tag) → (m : Message) → AllIn T m → AllIn U m
more-in T U more m h = record {
  vacated = λ x w file tag e. more tag (h.vacated x w file tag e);
  evicted = λ x w file tag e. more tag (h.evicted x w file tag e);
  granted = λ x a g e gives. let k = h.granted x a g e gives in (more g.tag k.0, more g.since k.1);
}

more-told : (T U : Tag → Type 0) → ((tag : Tag) → T tag → U tag) → (w : World) → AllTold T w → AllTold U w
more-told T U more w h = record {
  clients =
      λ host c is. let k = h.clients host c is in
      record { leased = λ file l e. more l.tag (k.leased file l e); noticed = λ file n e. more n.tag (k.noticed file n e) };
  packets = λ p i. more-in T U more p.message (h.packets p i);
  senders = h.senders;
}

-- a client that is there stays
stays-there : (xs : List Client) (i j : ℕ) (x y : Client) → slice_get xs j ≡ Some y → (z : Client) × (slice_get (slice_set xs i x) j ≡ Some z)
stays-there [] i j x y e = none-some y e
stays-there (c ∷ xs) zero zero x y e = (x, refl)
stays-there (c ∷ xs) zero (suc j) x y e = (y, e)
stays-there (c ∷ xs) (suc i) zero x y e = (c, refl)
stays-there (c ∷ xs) (suc i) (suc j) x y e = stays-there xs i j x y e

mapped : (T : Tag → Type 0) (host : ℕ) (ms : List Message) → ((m : Message) → In ms m → AllIn T m) → (p : Packet) → In (map (from_host host) ms) p
    → AllIn T p.message
mapped T host [] all p i = absurd i
mapped T host (m ∷ ms) all p (inl e) = subst (λ q. AllIn T q.message) e (all m (inl refl))
mapped T host (m ∷ ms) all p (inr i) = mapped T host ms (λ n j. all n (inr j)) p i

client-told : (T : Tag → Type 0) (w : World) (host : ℕ) (c : Client) (t : ClientStep) → slice_get w.clients host ≡ Some c → Leaves T t → AllTold T w
    → AllTold T (after_client w host t)
unfolding after_client
client-told T w host c t is l h = record {
  clients = λ other d e. case other d (other == host) refl e;
  packets = λ p i. from p (in-append w.packets (map (from_host host) t.sends) p i);
  senders = λ other m i. sender other m (in-append w.packets (map (from_host host) t.sends) (from_host other m) i);
} where
  case : (other : ℕ) (d : Client) (b : Bool) → (other == host) ≡ b → slice_get (slice_set w.clients host t.client) other ≡ Some d
      → AllHeld T d.leases d.notices
  case other d true same e =
      let one : other ≡ host = same-number other host same in
      let new : d ≡ t.client = get-set-same w.clients host t.client d (subst (λ n. slice_get (slice_set w.clients host t.client) n ≡ Some d) one e) in
      subst (λ z. AllHeld T z.leases z.notices) (sym new) l.held
  case other d false differs e =
      let apart : other ≢ host = λ same. let yes : (other == host) ≡ true = number-same other host same in absurd (cc) in
      h.clients other d (sym (get-set-other w.clients host other t.client apart) ∙ e)

  from : (p : Packet) → In w.packets p ⊎ In (map (from_host host) t.sends) p → AllIn T p.message
  from p (inl old) = h.packets p old
  from p (inr new) = mapped T host t.sends l.sends p new

  sender : (other : ℕ) (m : Message) → In w.packets (from_host other m) ⊎ In (map (from_host host) t.sends) (from_host other m)
      → (d : Client) × (slice_get (slice_set w.clients host t.client) other ≡ Some d)
  sender other m (inl old) = let k = h.senders other m old in stays-there w.clients host other t.client k.0 k.1
  sender other m (inr new) = stays-there w.clients host other t.client c (subst (λ n. slice_get w.clients n ≡ Some c) (sent-host host other t.sends m new) is)

at-told : (T : Tag → Type 0) (w : World) (host : ℕ) (f : Client → ClientStep) (o : Option Client) → slice_get w.clients host ≡ o
    → ((c : Client) → IsAt host c w.packets → AllHeld T c.leases c.notices → Leaves T (f c)) → Holds w → AllTold T w → AllTold T (at_client w host f o)
at-told T w host f None is leaves held h = h
at-told T w host f (Some c) is leaves held h = client-told T w host c (f c) is (leaves c (held.clients host c is) (h.clients host c is)) h

hearing-told : (T : Tag → Type 0) (w : World) (host : ℕ) (c : Client) (o : Option ClientStep) → slice_get w.clients host ≡ Some c → LeavesIf T o
    → AllTold T w → AllTold T (after_hearing w host o)
hearing-told T w host c None is l h = h
hearing-told T w host c (Some t) is l h = client-told T w host c t is l h

to-client-told : (T : Tag → Type 0) (w : World) (k host : ℕ) (m : Message) (o : Option Client) → slice_get w.clients host ≡ o → Told w.packets host m
    → AllIn T m → Holds w → AllTold T w → AllTold T (deliver_to_client w k host m o)
to-client-told T w k host m None is sent names held h = h
to-client-told T w k host m (Some c) is sent names held h =
    hearing-told T w host c (hear c k m) is (hear-told T host c w.packets k m names (held.clients host c is) sent (h.clients host c is)) h

-- ---- a step of the server

server-told : (T : Tag → Type 0) (w : World) (t : ServerStep)
    → ((q : Packet) → In t.sends q → AllIn T q.message × ((host : ℕ) (m : Message) → q ≡ from_host host m → ⊥)) → AllTold T w → AllTold T (after_server w t)
unfolding after_server
server-told T w t said h = record {
  clients = h.clients;
  packets = λ p i. from p (in-append w.packets t.sends p i);
  senders = λ host m i. sender host m (in-append w.packets t.sends (from_host host m) i);
} where
  from : (p : Packet) → In w.packets p ⊎ In t.sends p → AllIn T p.message
  from p (inl old) = h.packets p old
  from p (inr new) = (said p new).0

  sender : (host : ℕ) (m : Message) → In w.packets (from_host host m) ⊎ In t.sends (from_host host m) → (c : Client) × (slice_get w.clients host ≡ Some c)
  sender host m (inl old) = h.senders host m old
  sender host m (inr new) = absurd ((said (from_host host m) new).1 host m refl)

-- a tag is of the boot of a table, and among those that it has drawn, which are numbered from 1 on
abbrev IsOf : Table → Tag → Type 0
IsOf table tag = (table.boot ≡ tag.boot) × (1 ≤ tag.number) × (tag.number ≤ table.drawn)

-- each row that stands is numbered so
abbrev AreNumbered : Server → Type 0
AreNumbered s = (file host : ℕ) (row : Row) → find_row file host (standing s).rows ≡ Some row → (0 < row.tag.number) × (0 < row.since.number)

row-of : (s : Server) → StandingFitsOf s → AreNumbered s → (file host : ℕ) (row : Row) → find_row file host (standing s).rows ≡ Some row
    → IsOf (standing s) row.tag
row-of s stood numbered file host row found =
    let r = stood.fits file host row found in
    let n = (numbered file host row found).0 in
    (sym r.tag_boot, omega arith, r.drawn_before)

since-of : (s : Server) → StandingFitsOf s → AreNumbered s → (file host : ℕ) (row : Row) → find_row file host (standing s).rows ≡ Some row
    → IsOf (standing s) row.since
since-of s stood numbered file host row found =
    let r = stood.fits file host row found in
    let n = (numbered file host row found).1 in
    (sym r.since_boot, omega arith, let a = r.in_order in let c = r.drawn_before in omega arith)

-- a row of the server's own table stands
own-stands : (s : Server) (phase : Phase) → NoneRecovering phase s.table → (file host : ℕ) (row : Row) → find_row file host s.table.rows ≡ Some row
    → find_row file host (standing_in phase s.table).rows ≡ Some row
own-stands s serving none file host row found = found
own-stands s (recovering until heard last) none file host row found = none-some row (ap (find_row file host) (sym none) ∙ found)

new-told : (U : Tag → Type 0) (ps : List Packet) (s t : Server) (q : Packet)
    → ((file host : ℕ) (row : Row) → find_row file host s.table.rows ≡ Some row → U row.tag)
    → ((file host : ℕ) (row : Row) → t.phase ≡ serving → find_row file host t.table.rows ≡ Some row → U row.tag × U row.since) → IsBacked t q
    → IsNew ps s t q → AllIn U q.message × ((host : ℕ) (m : Message) → q ≡ from_host host m → ⊥)
new-told U ps s t q before after backed (new_reply host x a e k) = (
  subst (λ z. AllIn U z.message) (sym e) (record {
    vacated = λ y w file tag bad. absurd (cc);
    evicted = λ y w file tag bad. absurd (cc);
    granted = λ y b g same gives. granted g (subst (λ z. grant_in z ≡ Some g) (sym (same-reply y b same)) gives);
  }),
  λ h m bad. absurd (not-both h host m (reply x a) (sym bad ∙ e)),
)
  where
    same-reply : (y : ℕ) (b : Reply) → reply x a ≡ reply y b → a ≡ b
    same-reply y b same = cc

    granted : (g : Grant) → grant_in a ≡ Some g → U g.tag × U g.since
    granted g gives =
        let f = backed x a g (ap (λ z. z.message) e) gives in
        let u = after f.file f.host f.row f.serves f.stands in
        (subst U f.tag u.0, subst U f.since u.1)
new-told U ps s t q before after backed (new_error host x r e) = (
  subst (λ z. AllIn U z.message) (sym e) (record {
    vacated = λ y w file tag bad. absurd (cc);
    evicted = λ y w file tag bad. absurd (cc);
    granted = λ y b g bad. absurd (cc);
  }),
  λ h m bad. absurd (not-both h host m (error x r) (sym bad ∙ e)),
)
new-told U ps s t q before after backed (new_notice x row e stands inc drawn) = (
  subst (λ z. AllIn U z.message) (sym e) (record {
    vacated = λ y w file tag bad. absurd (cc);
    evicted = λ y w file tag same. subst U (same-tag y w file tag same) (before row.file row.who.host row stands);
    granted = λ y b g bad. absurd (cc);
  }),
  λ h m bad. absurd (not-both h row.who.host m (call x (Request.Evicted row.who row.file row.tag)) (sym bad ∙ e)),
)
  where
    same-tag : (y : ℕ) (w : Who) (file : ℕ) (tag : Tag) → call x (Request.Evicted row.who row.file row.tag) ≡ call y (Request.Evicted w file tag)
        → row.tag ≡ tag
    same-tag y w file tag same = cc

-- ---- each event

-- the tags that are such before an event are such after it, and so is each that the table that stands then has drawn
record Grows (T U : Tag → Type 0) (s t : Server) : Type 0 where
  more : (tag : Tag) → T tag → U tag
  before : (tag : Tag) → IsOf (standing s) tag → U tag
  now : (tag : Tag) → IsOf (standing t) tag → U tag
  stood : StandingFitsOf t
  numbered_before : AreNumbered s
  numbered : AreNumbered t

received-told : (T U : Tag → Type 0) (hosts most : ℕ) (w : World) (events : List Event) (p : Packet) → In w.packets p → p.to ≡ Party.Server → IsSent p
    → Holds w → Runs hosts most w events
    → Grows T U w.server (receive w.server (sending_host p.sender) (length w.packets) (datagram_of p.message)).server → AllTold T w
    → AllTold U (after_server w (receive w.server (sending_host p.sender) (length w.packets) (datagram_of p.message)))
received-told T U hosts most w events p i to (by_server host m e) held r g h =
    let other : Party.Client host ≡ Party.Server = ap (λ q. q.to) (sym e) ∙ to in absurd (cc)
received-told T U hosts most w events p i to (by_host host xid q who e asks) held r g h =
    server-told U w t (λ q new. new-told U w.packets w.server t.server q before after
    (all-backed w.server (sending_host p.sender) (length w.packets) (datagram_of p.message) q new) (effect.said q new)) (more-told T U g.more w h)
  where
    t : ServerStep
    t = receive w.server (sending_host p.sender) (length w.packets) (datagram_of p.message)

    there : (c : Client) × (slice_get w.clients host ≡ Some c)
    there = h.senders host (call xid q) (subst (λ z. In w.packets z) e i)

    before : (file host : ℕ) (row : Row) → find_row file host w.server.table.rows ≡ Some row → U row.tag
    before file host row found =
        g.before row.tag (row-of w.server r.served.stood g.numbered_before file host row
        (own-stands w.server w.server.phase (none-served most w.server r.served) file host row found))

    after : (file host : ℕ) (row : Row) → t.server.phase ≡ serving → find_row file host t.server.table.rows ≡ Some row → U row.tag × U row.since
    after file host row serves found =
        let stands : find_row file host (standing t.server).rows ≡ Some row = ap (λ z. find_row file host z.rows) (standing-serving t.server serves) ∙ found in
        (g.now row.tag (row-of t.server g.stood g.numbered file host row stands), g.now row.since (since-of t.server g.stood g.numbered file host row stands))

    effect : Effect w.packets w.server t there.0.who there.0.ticket there.0.leases
    effect =
        hears-effect w.packets w.server most (sending_host p.sender) (length w.packets) (datagram_of p.message) events there.0.who there.0.now
        there.0.xid there.0.attached there.0.ticket there.0.leases there.0.notices (hearing hosts most w events p host there.0 there.1 i to held r)

delivered-told : (T U : Tag → Type 0) (hosts most : ℕ) (w : World) (events : List Event) (k : ℕ) (p : Packet) (to : Party) → p.to ≡ to → In w.packets p
    → Holds w → Runs hosts most w events → Grows T U w.server (deliver_to w k p to).server → AllTold T w → AllTold U (deliver_to w k p to)
unfolding after_server
delivered-told T U hosts most w events k p Party.Server to i held r g h = received-told T U hosts most w events p i to (held.sent p i) held r g h
delivered-told T U hosts most w events k p (Party.Client host) to i held r g h =
    more-told T U g.more (deliver_to_client w k host p.message (slice_get w.clients host))
    (to-client-told T w k host p.message (slice_get w.clients host) refl (to-told w.packets p host (held.sent p i) to i) (h.packets p i) held h)

deliver-told : (T U : Tag → Type 0) (hosts most : ℕ) (w : World) (events : List Event) (k : ℕ) (o : Option Packet) → slice_get w.packets k ≡ o → Holds w
    → Runs hosts most w events → Grows T U w.server (deliver w k o).server → AllTold T w → AllTold U (deliver w k o)
deliver-told T U hosts most w events k None is held r g h = more-told T U g.more w h
deliver-told T U hosts most w events k (Some p) is held r g h = delivered-told T U hosts most w events k p p.to refl (in-get w.packets k p is) held r g h

silent-told : (U : Tag → Type 0) (w : World) (t : ServerStep) → t.sends ≡ [] → AllTold U w → AllTold U (after_server w t)
silent-told U w t silent h = server-told U w t (λ q i. absurd (subst (λ qs. In qs q) silent i)) h

step-told : (T U : Tag → Type 0) (hosts most : ℕ) (w : World) (e : Event) (events : List Event) → Holds w → Runs hosts most w events
    → Grows T U w.server (step w e).server → AllTold T w → AllTold U (step w e)
step-told T U hosts most w (Event.Call host op) events held r g h =
    more-told T U g.more _ (at-told T w host (λ c. client_call c op) (slice_get w.clients host) refl (λ c a k. call-told T c op a.alone k) held h)
step-told T U hosts most w (Event.Deliver k) events held r g h = deliver-told T U hosts most w events k (slice_get w.packets k) refl held r g h
step-told T U hosts most w Event.ServerTick events held r g h =
    silent-told U w (tick w.server (w.server.now + 1)) (tick-sends w.server (w.server.now + 1)) (more-told T U g.more w h)
step-told T U hosts most w (Event.ClientTick host) events held r g h =
    more-told T U g.more _ (at-told T w host (λ c. client_tick c (c.now + 1)) (slice_get w.clients host) refl (λ c a k. tick-told T c a.alone k) held h)
step-told T U hosts most w (Event.Restart host) events held r g h =
    more-told T U g.more _ (at-told T w host restart (slice_get w.clients host) refl (λ c a k. restart-told T c) held h)
step-told T U hosts most w (Event.Crash longest) events held r g h =
    silent-told U w (crash w.server longest) (crash-sends w.server longest) (more-told T U g.more w h)

-- ---- every run

start-held : (T : Tag → Type 0) (who : Who) (term : ℕ) → AllHeld T (attached_client who term 0).leases (attached_client who term 0).notices
unfolding attached_client fresh_client
start-held T who term = record { leased = λ file l e. none-some l e; noticed = λ file n e. none-some n e }

start-told : (T : Tag → Type 0) (head : Head) → AllTold T (start head)
unfolding start
start-told T head = record {
  clients = λ host c is. subst (λ z. AllHeld T z.leases z.notices) (sym (first-client head.term 0 head.hosts host c is)) (start-held T _ head.term);
  packets = λ p i. absurd i;
  senders = λ host m i. absurd i;
}

drawn-now : (head : Head) (events : List Event) (tag : Tag) → IsOf (standing (run head events).server) tag → WasDrawn head events tag
drawn-now head events tag h = record { later = []; earlier = events; moment = refl; by_boot = h.0; counted = h.1; among = h.2 }

drawn-before : (head : Head) (e : Event) (events : List Event) (tag : Tag) → WasDrawn head events tag → WasDrawn head (e ∷ events) tag
drawn-before head e events tag h =
    record { later = e ∷ h.later; earlier = h.earlier; moment = ap (λ es. e ∷ es) h.moment; by_boot = h.by_boot; counted = h.counted; among = h.among }

run-told : (most : ℕ) (head : Head) (events : List Event) → KeepsBounds most head events → IsWithinSkew head.hosts most events
    → AllTold (WasDrawn head events) (run head events)
run-told most head [] b within = start-told (WasDrawn head []) head
run-told most head (e ∷ earlier) b within =
    let b' = bounds-before most head e earlier b in
    let within' : IsWithinSkew head.hosts most earlier = within-before head.hosts most e earlier within in
    step-told (WasDrawn head earlier) (WasDrawn head (e ∷ earlier)) head.hosts most (run head earlier) e earlier (run-holds head earlier)
    (run-runs most head earlier b' within')
    (record {
      more = drawn-before head e earlier;
      before = λ tag h. drawn-before head e earlier tag (drawn-now head earlier tag h);
      now = drawn-now head (e ∷ earlier);
      stood = (run-runs most head (e ∷ earlier) b within).served.stood;
      numbered_before = row-numbered head earlier;
      numbered = row-numbered head (e ∷ earlier);
    })
    (run-told most head earlier b' within')

known-drawn : (most : ℕ) (head : Head) (events : List Event) (tag : Tag) → KeepsBounds most head events → IsWithinSkew head.hosts most events
    → IsKnown (run head events) tag → WasDrawn head events tag
known-drawn most head events tag b within known = case known
  where
    told : AllTold (WasDrawn head events) (run head events)
    told = run-told most head events b within

    stood : StandingFitsOf (run head events).server
    stood = (run-runs most head events b within).served.stood

    case : IsKnown (run head events) tag → WasDrawn head events tag
    case (of_lease host file c lease is held same) = subst (WasDrawn head events) same ((told.clients host c is).leased file lease held)
    case (of_notice host file c n is waits same) = subst (WasDrawn head events) same ((told.clients host c is).noticed file n waits)
    case (of_vacated k p xid who file sent says) = (told.packets p (in-get (run head events).packets k p sent)).vacated xid who file tag says
    case (of_evicted k p xid who file sent says) = (told.packets p (in-get (run head events).packets k p sent)).evicted xid who file tag says
    case (of_grant k p xid answer g sent says gives same) =
        subst (WasDrawn head events) same ((told.packets p (in-get (run head events).packets k p sent)).granted xid answer g says gives).0
    case (of_grant_chain k p xid answer g sent says gives same) =
        subst (WasDrawn head events) same ((told.packets p (in-get (run head events).packets k p sent)).granted xid answer g says gives).1
    case (of_row file host row stands same) =
        subst (WasDrawn head events) same
        (drawn-now head events row.tag (row-of (run head events).server stood (row-numbered head events) file host row stands))
    case (of_chain file host row stands same) =
        subst (WasDrawn head events) same
        (drawn-now head events row.since (since-of (run head events).server stood (row-numbered head events) file host row stands))

-- what was drawn is no later than the table that stands
up-to-now : (head : Head) (events : List Event) (tag : Tag) → WasDrawn head events tag → IsUpTo (standing (run head events).server) tag
up-to-now head events tag d =
    subst (λ es. IsUpTo (standing (run head es).server) tag) (sym d.moment)
    (drawn-later (standing (run head d.earlier).server) (standing (run head (d.later ++ d.earlier)).server) tag (standing-grows head d.later d.earlier)
    (inr (sym d.by_boot, d.among)))

-- in every run within skew
pub drawn-in-order : TagsAreDrawnInOrder
drawn-in-order most head events tag b within known =
    let d = known-drawn most head events tag b within known in
    let u = up-to-now head events tag d in
    record { drawn = d; up_to_now = u; below_next = below-later head events tag u }

-- a packet of a client is one that was sent from its host
from-client : (ps : List Packet) (p : Packet) (host : ℕ) → IsSent p → p.sender ≡ Party.Client host → In ps p → In ps (from_host host p.message)
from-client ps p host (by_host h x r who e asks) by i =
    let same : h ≡ host = client-same h host (ap (λ q. q.sender) (sym e) ∙ by) in
    subst (λ z. In ps z) (e ∙ ap (from_host h) (ap (λ q. q.message) (sym e)) ∙ ap (λ n. from_host n p.message) same) i
  where
    client-same : (a b : ℕ) → Party.Client a ≡ Party.Client b → a ≡ b
    client-same a b f = cc
from-client ps p host (by_server h m e) by i = let other : Party.Server ≡ Party.Client host = ap (λ q. q.sender) (sym e) ∙ by in absurd (cc)

pub vacated-are-past : VacatedTagsArePast
vacated-are-past most head events host c file tag b within is gave = record {
  held = λ lease holds. t.past_held gave.xid gave.who file tag lease sent gave.running holds;
  takeable = λ ticket g can.
      let k = takeable (run head events) host c ticket file g a (run-holds head events) can in
      t.past_given gave.xid gave.who file tag k.x k.a g ticket sent gave.running k.told k.inc k.asked k.number k.on_file k.gives;
  below_next = below-later head events tag (t.vacates gave.xid gave.who file tag sent);
} where
  a : IsAt host c (run head events).packets
  a = (run-holds head events).clients host c is

  t : TagsFit c.who c.ticket c.leases c.notices (standing (run head events).server).boot (standing (run head events).server).drawn (run head events).packets
  t = ((run-runs most head events b within).known.clients host c is).tagged

  there : In (run head events).packets gave.packet
  there = in-get (run head events).packets gave.k gave.packet gave.sent

  sent : Asked (run head events).packets c.who.host gave.xid (Request.Vacated gave.who file tag)
  sent =
      subst (λ n. In (run head events).packets (from_host n (call gave.xid (Request.Vacated gave.who file tag)))) (sym a.here)
      (subst (λ m. In (run head events).packets (from_host host m)) gave.says
      (from-client (run head events).packets gave.packet host ((run-holds head events).sent gave.packet there) gave.by there))
