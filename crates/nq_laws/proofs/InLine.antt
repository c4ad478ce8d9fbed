-- The queue of one host in a calm delivery: its packets stand in the order of their numbers, each reply under way answers one that stood before all of
-- them, and all behind the request under way is VACATED.
use Rattle.std.proofs.Common.{◌≡◌, ◌≤◌, ◌<◌, ◌⊎◌, ℕ, ◌+◌, ◌++◌, List, [], Some, length, refl, sym, subst, ap, ◌∙◌, arith, inl, inr}
use Rattle.std.specs.Prelude.{map, slice_get}
use Rattle.nq_base.specs.declared.Event.{Event}
use Rattle.nq_base.specs.declared.HostRow.{HostRow}
use Rattle.nq_base.specs.declared.Party.{Party}
use Rattle.nq_base.specs.declared.Reply.{Reply}
use Rattle.nq_base.specs.declared.Request.{Request}
use Rattle.nq_base.specs.declared.Who.{Who}
use Rattle.nq_model.specs.protocol.Client.{Client, ClientStep, Ticket}
use Rattle.nq_model.specs.protocol.Hear.{inc_of}
use Rattle.nq_model.specs.protocol.Kept.{host_row}
use Rattle.nq_model.specs.protocol.Lines.{Play, play, delivered}
use Rattle.nq_model.specs.protocol.Message.{Packet, call, reply, request, datagram_of, asker, sequence_of}
use Rattle.nq_model.specs.protocol.Server.{Server, ServerStep, to_host}
use Rattle.nq_model.specs.protocol.ServerStep.{receive}
use Rattle.nq_model.specs.protocol.World.{World, from_host, after_client, after_server, sending_host, step}
use Rattle.law_rounds.proofs.CalmEnds.{IsRising}
use Rattle.law_rounds.proofs.PacketsCome.{Comes}
use Rattle.law_rounds.proofs.LineSteps.{LineGoes, line_same, line_attached, line_decided}
use Rattle.law_rounds.proofs.Next.{IsNext, next-in}
use Rattle.walk_steps.proofs.Packets.{In, in-get, Asked, Told, message-same, not-both}
use Rattle.walk_steps.proofs.Sequences.{Seqs}
use Rattle.walk_steps.proofs.ServerSays.{AllSaid, IsSaid, said_reply, said_error, said_notice}
use Rattle.walk_steps.proofs.Worlds.{IsAt, IsSent, by_host, by_server, get-set-same}
use Rattle.walk_steps.proofs.Replies.{replies-are}
use Rattle.nq_laws.proofs.NewPackets.{get-mapped, WasOrNew, was, new, was-or-new, lower, behind-next}
use Rattle.nq_laws.proofs.StepNumbers.{NoVacated, Sent}

-- what the client of a host asks is under way
abbrev pub Asks : Play → (host x : ℕ) → Request → Type 0
Asks p host x r = Comes p (from_host host (call x r))

-- what it is answered is under way
abbrev pub Replies : Play → (host x : ℕ) → Reply → Type 0
Replies p host x a = Comes p (to_host host (reply x a))

pub record InLine (host : ℕ) (p : Play) : Type 0 where
  -- all is of the incarnation that runs
  pub own : (c : Client) → slice_get p.world.clients host ≡ Some c → (x : ℕ) (r : Request) → Asks p host x r → asker r ≡ Some c.who
  pub told : (c : Client) → slice_get p.world.clients host ≡ Some c → (x : ℕ) (a : Reply) → Replies p host x a → inc_of a ≡ c.who.inc
  -- numbers and sequences rise
  pub rising : (x y : ℕ) (r s : Request) (a : Asks p host x r) (b : Asks p host y s) → a.number < b.number → x < y
  pub drawing : (x y m n : ℕ) (r s : Request) (a : Asks p host x r) (b : Asks p host y s) → a.number < b.number → sequence_of r ≡ Some m
      → sequence_of s ≡ Some n → m < n
  -- what was answered stood before
  pub behind : (x y : ℕ) (a : Reply) (s : Request) → Replies p host x a → Asks p host y s → x < y
  -- and behind the request under way stands VACATED alone
  pub last : (c : Client) → slice_get p.world.clients host ≡ Some c → (t : Ticket) → c.ticket ≡ Some t → (y : ℕ) (s : Request) → Asks p host y s
      → NoVacated s → y ≤ t.xid
  -- what is decided once was not decided yet
  pub undecided : (x n : ℕ) (r : Request) → Asks p host x r → sequence_of r ≡ Some n → (host_row p.world.server.kept host).seq < n

-- where nothing is under way
pub empty-line : (host : ℕ) (p : Play) → p.fresh ≡ [] → InLine host p
empty-line host p none = record {
  own = λ c at x r a. absurd (gone _ a);
  told = λ c at x a b. absurd (gone _ b);
  rising = λ x y r s a b less. absurd (gone _ a);
  drawing = λ x y m n r s a b less. absurd (gone _ a);
  behind = λ x y a s b d. absurd (gone _ b);
  last = λ c at t has y s a. absurd (gone _ a);
  undecided = λ x n r a. absurd (gone _ a);
}
  where
    gone : (q : Packet) → Comes p q → ⊥
    gone q a = subst (λ ns. In ns a.number) none a.fresh

-- so no reply to the request under way is, while a request other than VACATED is
pub not-answered-yet : (host : ℕ) (p : Play) → InLine host p → (c : Client) → slice_get p.world.clients host ≡ Some c → (t : Ticket) → c.ticket ≡ Some t
    → (a : Reply) → Replies p host t.xid a → (y : ℕ) (s : Request) → Asks p host y s → NoVacated s → ⊥
not-answered-yet host p line c at t has a replied y s asked other =
    let before = line.behind t.xid y a s replied asked in
    let after = line.last c at t has y s asked other in
    omega arith

-- ---- nothing of the host is sent

-- what an event sends is of no interest to this line
abbrev OtherPackets : (host : ℕ) → List Packet → Type 0
OtherPackets host more = (q : Packet) (i : ℕ) → slice_get more i ≡ Some q
    → ((x : ℕ) (r : Request) → q ≡ from_host host (call x r) → ⊥) × ((x : ℕ) (a : Reply) → q ≡ to_host host (reply x a) → ⊥)

module _ (host : ℕ) (p : Play) (e : Event) (rises : IsRising p) (line : InLine host p) where
  module _ (more : List Packet) (is : (step p.world e).packets ≡ p.world.packets ++ more) where
    -- a request under way after an event that adds none of the host's
    old-asks : ((q : Packet) (i : ℕ) → slice_get more i ≡ Some q → (x : ℕ) (r : Request) → q ≡ from_host host (call x r) → ⊥)
        → (x : ℕ) (r : Request) (a : Asks (play p e) host x r) → (b : Asks p host x r) × (b.number ≡ a.number) × In (delivered e p.fresh) a.number
    old-asks none x r a = by (was-or-new p e more rises is _ a)
      where
        by : WasOrNew p e more (from_host host (call x r)) a → (b : Asks p host x r) × (b.number ≡ a.number) × In (delivered e p.fresh) a.number
        by (was b same i) = (b, same, i)
        by (new i at there) = absurd (none _ i there x r refl)

    old-replies : ((q : Packet) (i : ℕ) → slice_get more i ≡ Some q → (x : ℕ) (a : Reply) → q ≡ to_host host (reply x a) → ⊥) → (x : ℕ) (a : Reply)
        → Replies (play p e) host x a → Replies p host x a
    old-replies none x a c = by (was-or-new p e more rises is _ c)
      where
        by : WasOrNew p e more (to_host host (reply x a)) c → Replies p host x a
        by (was b same i) = b
        by (new i at there) = absurd (none _ i there x a refl)

    -- an event that leaves the host alone
    pub other-line : OtherPackets host more → ((c : Client) → slice_get (step p.world e).clients host ≡ Some c → slice_get p.world.clients host ≡ Some c)
        → host_row (step p.world e).server.kept host ≡ host_row p.world.server.kept host → InLine host (play p e)
    other-line others before kept = record {
      own = λ c at x r a. line.own c (before c at) x r (asks x r a).0;
      told = λ c at x a b. line.told c (before c at) x a (replied x a b);
      rising = λ x y r s a b less. let m = asks x r a in let n = asks y s b in line.rising x y r s m.0 n.0 (let i = m.1 in let j = n.1 in omega arith);
      drawing = λ x y u v r s a b less. let m = asks x r a in let n = asks y s b in
          line.drawing x y u v r s m.0 n.0 (let i = m.1 in let j = n.1 in omega arith);
      behind = λ x y a s b d. line.behind x y a s (replied x a b) (asks y s d).0;
      last = λ c at t has y s a. line.last c (before c at) t has y s (asks y s a).0;
      undecided = λ x n r a sq. let low = line.undecided x n r (asks x r a).0 sq in
          let same : (host_row (step p.world e).server.kept host).seq ≡ (host_row p.world.server.kept host).seq = ap (λ (l : HostRow). l.seq) kept in
          omega arith;
    }
      where
        asks : (x : ℕ) (r : Request) (a : Asks (play p e) host x r) → (b : Asks p host x r) × (b.number ≡ a.number) × In (delivered e p.fresh) a.number
        asks = old-asks (λ q i there x r. (others q i there).0 x r)

        replied : (x : ℕ) (a : Reply) → Replies (play p e) host x a → Replies p host x a
        replied = old-replies (λ q i there x a. (others q i there).1 x a)

  -- ---- a step of the host's client

  module _ (c : Client) (t : ClientStep) (at : slice_get p.world.clients host ≡ Some c) (is : step p.world e ≡ after_client p.world host t)
      (a : IsAt host c p.world.packets) (seqs : Seqs c.who c.seq p.world.packets) (sent : Sent c t)
      (low : (host_row p.world.server.kept host).seq < c.seq) where
    packets : (step p.world e).packets ≡ p.world.packets ++ map (from_host host) t.sends
    unfolding after_client
    packets = ap (λ (w : World). w.packets) is

    server : (step p.world e).server ≡ p.world.server
    unfolding after_client
    server = ap (λ (w : World). w.server) is

    mine : (d : Client) → slice_get (step p.world e).clients host ≡ Some d → d ≡ t.client
    unfolding after_client
    mine d there = get-set-same p.world.clients host t.client d (subst (λ (w : World). slice_get w.clients host ≡ Some d) is there)

    -- a request under way: it was, with the number of before, or is sent now
    data AsksNow (x : ℕ) (r : Request) (b : Asks (play p e) host x r) : Type 0 where
      before : (d : Asks p host x r) → d.number ≡ b.number → AsksNow x r b
      now : (i : ℕ) → b.number ≡ length p.world.packets + i → slice_get t.sends i ≡ Some (call x r) → AsksNow x r b

    asks-now : (x : ℕ) (r : Request) (b : Asks (play p e) host x r) → AsksNow x r b
    asks-now x r b = by (was-or-new p e (map (from_host host) t.sends) rises packets _ b)
      where
        by : WasOrNew p e (map (from_host host) t.sends) (from_host host (call x r)) b → AsksNow x r b
        by (was d same i) = before d same
        by (new i number there) =
            let m = get-mapped (from_host host) t.sends (from_host host (call x r)) i there in
            now i number (m.1 ∙ ap Some (message-same host host m.0 (call x r) m.2).1)

    replied : (x : ℕ) (r : Reply) → Replies (play p e) host x r → Replies p host x r
    replied = old-replies (map (from_host host) t.sends) packets
        (λ q i there x r same. let m = get-mapped (from_host host) t.sends q i there in not-both host host m.0 (reply x r) (m.2 ∙ same))

    asked-in : (x : ℕ) (r : Request) → Asks p host x r → Asked p.world.packets c.who.host x r
    asked-in x r d = subst (λ h. Asked p.world.packets h x r) (sym a.here) (in-get p.world.packets d.number (from_host host (call x r)) d.is)

    -- what was asked before has a lower number, and a lower sequence
    low-number : (x : ℕ) (r : Request) → Asks p host x r → x < c.xid
    low-number x r d = (a.mail.asked x r c.who (asked-in x r d) (line.own c at x r d)).number refl

    low-sequence : (x n : ℕ) (r : Request) → Asks p host x r → sequence_of r ≡ Some n → n < c.seq
    low-sequence x n r d sq = seqs.drawn x r c.who n (asked-in x r d) (line.own c at x r d) refl sq

    low-reply : (x : ℕ) (r : Reply) → Replies p host x r → x < c.xid
    low-reply x r d =
        let there : Told p.world.packets c.who.host (reply x r) =
        subst (λ h. Told p.world.packets h (reply x r)) (sym a.here) (in-get p.world.packets d.number (to_host host (reply x r)) d.is) in
        (a.mail.replied x r there (line.told c at x r d)).number

    old-below : (q : Packet) (b : Comes p q) → b.number < length p.world.packets
    old-below = lower p rises

    pub client-line : InLine host (play p e)
    client-line = record {
      own = λ d there x r b. own d there x r (asks-now x r b);
      told = λ d there x r b. line.told c at x r (replied x r b) ∙ ap (λ (w : Who). w.inc) (sym sent.who) ∙ ap (λ (y : Client). y.who.inc)
          (sym (mine d there));
      rising = λ x y r s b d less. rising x y r s b d less (asks-now x r b) (asks-now y s d);
      drawing = λ x y m n r s b d less sq also. drawing x y m n r s b d less sq also (asks-now x r b) (asks-now y s d);
      behind = λ x y r s b d. behind x y r s (replied x r b) (asks-now y s d);
      last = λ d there k has y s b other. last k (ap (λ (z : Client). z.ticket) (sym (mine d there)) ∙ has) y s other (asks-now y s b)
          (sent.last k (ap (λ (z : Client). z.ticket) (sym (mine d there)) ∙ has));
      undecided = λ x n r b sq. undecided x n r sq (asks-now x r b);
    }
      where
        own : (d : Client) → slice_get (step p.world e).clients host ≡ Some d → (x : ℕ) (r : Request) {b : Asks (play p e) host x r} → AsksNow x r b
            → asker r ≡ Some d.who
        own d there x r (before o same) = line.own c at x r o ∙ ap Some (sym sent.who ∙ ap (λ (z : Client). z.who) (sym (mine d there)))
        own d there x r (now i number says) = (sent.numbers i x r says).1 ∙ ap Some (sym sent.who ∙ ap (λ (z : Client). z.who) (sym (mine d there)))

        rising : (x y : ℕ) (r s : Request) (b : Asks (play p e) host x r) (d : Asks (play p e) host y s) → b.number < d.number → AsksNow x r b
            → AsksNow y s d → x < y
        rising x y r s b d less (before o same) (before u also) = line.rising x y r s o u (omega arith)
        rising x y r s b d less (before o same) (now j number says) = let small = low-number x r o in let large = (sent.numbers j y s says).0 in omega arith
        rising x y r s b d less (now i number says) (before u also) = let small = old-below _ u in absurd (omega arith)
        rising x y r s b d less (now i first says) (now j second tells) = let m = (sent.numbers i x r says).0 in let n = (sent.numbers j y s tells).0 in
            omega arith

        drawing : (x y m n : ℕ) (r s : Request) (b : Asks (play p e) host x r) (d : Asks (play p e) host y s) → b.number < d.number → sequence_of r ≡ Some m
            → sequence_of s ≡ Some n → AsksNow x r b → AsksNow y s d → m < n
        drawing x y m n r s b d less sq also (before o same) (before u too) = line.drawing x y m n r s o u (omega arith) sq also
        drawing x y m n r s b d less sq also (before o same) (now j number says) = let small = low-sequence x m r o sq in let large =
            sent.drawn j y s n says also in omega arith
        drawing x y m n r s b d less sq also (now i number says) (before u too) = let small = old-below _ u in absurd (omega arith)
        drawing x y m n r s b d less sq also (now i first says) (now j second tells) = let one = sent.once i j x y r s m n says tells sq also in
            absurd (omega arith)

        behind : (x y : ℕ) (r : Reply) (s : Request) → Replies p host x r → {d : Asks (play p e) host y s} → AsksNow y s d → x < y
        behind x y r s o (before u same) = line.behind x y r s o u
        behind x y r s o (now j number says) = let small = low-reply x r o in let large = (sent.numbers j y s says).0 in omega arith

        last : (k : Ticket) → t.client.ticket ≡ Some k → (y : ℕ) (s : Request) → NoVacated s → {b : Asks (play p e) host y s} → AsksNow y s b
            → ((c.ticket ≡ Some k) × ((i z : ℕ) (u : Request) → slice_get t.sends i ≡ Some (call z u) → NoVacated u → ⊥)) ⊎
            ((c.xid ≤ k.xid) × ((i z : ℕ) (u : Request) → slice_get t.sends i ≡ Some (call z u) → NoVacated u → z ≡ k.xid)) → y ≤ k.xid
        last k has y s other (before o same) (inl old) = line.last c at k old.0 y s o other
        last k has y s other (before o same) (inr fresh) = let small = low-number y s o in let large = fresh.0 in omega arith
        last k has y s other (now j number says) (inl old) = absurd (old.1 j y s says other)
        last k has y s other (now j number says) (inr fresh) = let one = fresh.1 j y s says other in omega arith

        undecided : (x n : ℕ) (r : Request) → sequence_of r ≡ Some n → {b : Asks (play p e) host x r} → AsksNow x r b
            → (host_row (step p.world e).server.kept host).seq < n
        undecided x n r sq (before o same) = let small = line.undecided x n r o sq in
            let kept : (host_row (step p.world e).server.kept host).seq ≡ (host_row p.world.server.kept host).seq =
            ap (λ (s : Server). (host_row s.kept host).seq) server in omega arith
        undecided x n r sq (now i number says) = let large = sent.drawn i x r n says sq in let small = low in
            let kept : (host_row (step p.world e).server.kept host).seq ≡ (host_row p.world.server.kept host).seq =
            ap (λ (s : Server). (host_row s.kept host).seq) server in omega arith

-- ---- a packet comes to the server

-- a datagram that is a request is that of a call
pub came : (x y : ℕ) (r z : Request) → datagram_of (call x r) ≡ request y z → (x ≡ y) × (r ≡ z)
came x y (Request.Evicted who file tag) z e = absurd (cc)
came x y Request.Null z e = (cc, cc)
came x y (Request.Attach who) z e = (cc, cc)
came x y (Request.Lookup who name) z e = (cc, cc)
came x y (Request.Create who seq name blocks) z e = (cc, cc)
came x y (Request.GetAttr who file) z e = (cc, cc)
came x y (Request.Read who q file block want) z e = (cc, cc)
came x y (Request.Write who seq file block first last push body) z e = (cc, cc)
came x y (Request.GetLease who file want) z e = (cc, cc)
came x y (Request.Vacated who file tag) z e = (cc, cc)
came x y (Request.Resize who seq q file blocks) z e = (cc, cc)
came x y (Request.Remove who seq q file) z e = (cc, cc)

-- a request that came is the packet that was sent
pub came-is : (q : Packet) (x : ℕ) (r : Request) → IsSent q → q.to ≡ Party.Server → datagram_of q.message ≡ request x r
    → q ≡ from_host (sending_host q.sender) (call x r)
came-is q x r (by_host h y s w e asks) to is =
    let at : sending_host q.sender ≡ h = ap (λ (z : Packet). sending_host z.sender) e in
    let same = came y x s r (ap (λ (z : Packet). datagram_of z.message) (sym e) ∙ is) in
    e ∙ ap (λ n. from_host h (call n s)) same.0 ∙ ap (λ z. from_host h (call x z)) same.1 ∙ ap (λ n. from_host n (call x r)) (sym at)
came-is q x r (by_server h m e) to is = let other : Party.Client h ≡ Party.Server = ap (λ (z : Packet). z.to) (sym e) ∙ to in absurd (cc)

-- what the server says is from no host
pub said-no-call : (ps : List Packet) (q : Packet) (host x : ℕ) (r : Request) → IsSaid ps q → q ≡ from_host host (call x r) → ⊥
said-no-call ps q host x r (said_reply h y a e k) is = not-both host h _ _ (sym is ∙ e)
said-no-call ps q host x r (said_error h y a e) is = not-both host h _ _ (sym is ∙ e)
said-no-call ps q host x r (said_notice y row e) is = not-both host row.who.host _ _ (sym is ∙ e)

module _ (host : ℕ) (p : Play) (k : ℕ) (next : IsNext p k) (rises : IsRising p) (line : InLine host p) (q0 : Packet)
    (sent : slice_get p.world.packets k ≡ Some q0) (is_sent : IsSent q0) (to : q0.to ≡ Party.Server)
    (is : step p.world (Event.Deliver k) ≡ after_server p.world
    (receive p.world.server (sending_host q0.sender) (length p.world.packets) (datagram_of q0.message)))
    (said : AllSaid p.world.packets (receive p.world.server (sending_host q0.sender) (length p.world.packets) (datagram_of q0.message)).sends)
    (goes : LineGoes p.world.server (sending_host q0.sender) (datagram_of q0.message) host
    (host_row (receive p.world.server (sending_host q0.sender) (length p.world.packets) (datagram_of q0.message)).server.kept host))
    (stays : (host_row (receive p.world.server (sending_host q0.sender) (length p.world.packets) (datagram_of q0.message)).server.kept host).inc ≡
    (host_row p.world.server.kept host).inc) where
  t : ServerStep
  t = receive p.world.server (sending_host q0.sender) (length p.world.packets) (datagram_of q0.message)

  e : Event
  e = Event.Deliver k

  server-packets : (step p.world (Event.Deliver k)).packets ≡ p.world.packets ++
      (receive p.world.server (sending_host q0.sender) (length p.world.packets) (datagram_of q0.message)).sends
  unfolding after_server
  server-packets = ap (λ (w : World). w.packets) is

  server-clients : (step p.world (Event.Deliver k)).clients ≡ p.world.clients
  unfolding after_server
  server-clients = ap (λ (w : World). w.clients) is

  server-kept : host_row (step p.world (Event.Deliver k)).server.kept host ≡ host_row
      (receive p.world.server (sending_host q0.sender) (length p.world.packets) (datagram_of q0.message)).server.kept host
  unfolding after_server
  server-kept = ap (λ (w : World). host_row w.server.kept host) is

  -- the delivered packet, if it is the host's
  delivered-one : (x : ℕ) (r : Request) → q0 ≡ from_host host (call x r) → Asks p host x r
  delivered-one x r same = record { number = k; fresh = next-in p k next; is = sent ∙ ap Some same }

  first-number : (x : ℕ) (r : Request) (same : q0 ≡ from_host host (call x r)) → (delivered-one x r same).number ≡ k
  unfolding delivered-one
  first-number x r same = refl

  asks-then : (x : ℕ) (r : Request) (a : Asks (play p (Event.Deliver k)) host x r)
      → (b : Asks p host x r) × (b.number ≡ a.number) × In (delivered (Event.Deliver k) p.fresh) a.number
  asks-then = old-asks host p (Event.Deliver k) rises line
      (receive p.world.server (sending_host q0.sender) (length p.world.packets) (datagram_of q0.message)).sends server-packets
      (λ q i there x r same. said-no-call p.world.packets q host x r (said q (in-get _ i q there)) same)

  -- it was sent before all others of the host
  sent-before : (x y : ℕ) (r s : Request) (same : q0 ≡ from_host host (call x r)) (b : Asks (play p (Event.Deliver k)) host y s)
      → k < (asks-then y s b).0.number
  sent-before x y r s same b =
      let o = asks-then y s b in
      behind-next p k next rises o.0.number (from_host host (call y s)) q0 o.0.is sent
      (record { sender = ap (λ (z : Packet). z.sender) (sym same); to = ap (λ (z : Packet). z.to) (sym same) })
      (subst (λ n. In (delivered (Event.Deliver k) p.fresh) n) (sym o.1) o.2)

  stood-first : (x y : ℕ) (r s : Request) (same : q0 ≡ from_host host (call x r)) (b : Asks (play p (Event.Deliver k)) host y s) → x < y
  stood-first x y r s same b =
      line.rising x y r s (delivered-one x r same) (asks-then y s b).0
      (let at = first-number x r same in let above = sent-before x y r s same b in omega arith)

  -- a reply under way: it was, or it answers the delivered packet
  data RepliesThen (x : ℕ) (a : Reply) : Type 0 where
    before : Replies p host x a → RepliesThen x a
    now : (r : Request) → q0 ≡ from_host host (call x r) → ((who : Who) → asker r ≡ Some who → inc_of a ≡ who.inc) → RepliesThen x a

  replies-then : (x : ℕ) (a : Reply) → Replies (play p (Event.Deliver k)) host x a → RepliesThen x a
  replies-then x a b = by (was-or-new p (Event.Deliver k)
      (receive p.world.server (sending_host q0.sender) (length p.world.packets) (datagram_of q0.message)).sends rises server-packets _ b)
    where
      by : WasOrNew p (Event.Deliver k) (receive p.world.server (sending_host q0.sender) (length p.world.packets) (datagram_of q0.message)).sends
          (to_host host (reply x a)) b → RepliesThen x a
      by (was o same i) = before o
      by (new i number there) =
          let r = replies-are p.world.server (sending_host q0.sender) (length p.world.packets) (datagram_of q0.message) host x a (in-get _ i _ there) in
          now r.asks (came-is q0 x r.asks is_sent to r.is ∙ ap (λ h. from_host h (call x r.asks)) (sym r.to)) r.inc

  pub server-line : InLine host (play p (Event.Deliver k))
  server-line = record {
    own = λ c at x r a. line.own c (client c at) x r (asks-then x r a).0;
    told = λ c at x a b. told c (client c at) x a (replies-then x a b);
    rising = λ x y r s a b less. let m = asks-then x r a in let n = asks-then y s b in line.rising x y r s m.0 n.0 (let i = m.1 in let j = n.1 in omega arith);
    drawing = λ x y u v r s a b less. let m = asks-then x r a in let n = asks-then y s b in
        line.drawing x y u v r s m.0 n.0 (let i = m.1 in let j = n.1 in omega arith);
    behind = λ x y a s b d. behind x y a s d (replies-then x a b);
    last = λ c at tk has y s a. line.last c (client c at) tk has y s (asks-then y s a).0;
    undecided = λ x n r a sq. let low = undecided x n r a sq goes in
        let same : (host_row (step p.world (Event.Deliver k)).server.kept host).seq ≡
        (host_row (receive p.world.server (sending_host q0.sender) (length p.world.packets) (datagram_of q0.message)).server.kept host).seq =
        ap (λ (l : HostRow). l.seq) server-kept in omega arith;
  }
    where
      client : (c : Client) → slice_get (step p.world (Event.Deliver k)).clients host ≡ Some c → slice_get p.world.clients host ≡ Some c
      client c at = ap (λ cs. slice_get cs host) (sym server-clients) ∙ at

      told : (c : Client) → slice_get p.world.clients host ≡ Some c → (x : ℕ) (a : Reply) → RepliesThen x a → inc_of a ≡ c.who.inc
      told c at x a (before o) = line.told c at x a o
      told c at x a (now r same inc) = inc c.who (line.own c at x r (delivered-one x r same))

      behind : (x y : ℕ) (a : Reply) (s : Request) → Asks (play p (Event.Deliver k)) host y s → RepliesThen x a → x < y
      behind x y a s d (before o) = line.behind x y a s o (asks-then y s d).0
      behind x y a s d (now r same inc) = stood-first x y r s same d

      undecided : (x n : ℕ) (r : Request) (a : Asks (play p (Event.Deliver k)) host x r) → sequence_of r ≡ Some n
          → LineGoes p.world.server (sending_host q0.sender) (datagram_of q0.message) host
          (host_row (receive p.world.server (sending_host q0.sender) (length p.world.packets) (datagram_of q0.message)).server.kept host)
          → (host_row (receive p.world.server (sending_host q0.sender) (length p.world.packets) (datagram_of q0.message)).server.kept host).seq < n
      undecided x n r a sq (line_same same) = let low = line.undecided x n r (asks-then x r a).0 sq in
          let seq : (host_row (receive p.world.server (sending_host q0.sender) (length p.world.packets) (datagram_of q0.message)).server.kept host).seq ≡
          (host_row p.world.server.kept host).seq = ap (λ (l : HostRow). l.seq) same in omega arith
      undecided x n r a sq (line_attached who here later same) =
          let inc : (host_row (receive p.world.server (sending_host q0.sender) (length p.world.packets) (datagram_of q0.message)).server.kept host).inc ≡
          who.inc = ap (λ (l : HostRow). l.inc) same in let kept = stays in absurd (omega arith)
      undecided x n r a sq (line_decided xid seq value who z v d by also here from inc above same fair) =
          let q_is : q0 ≡ from_host host (call xid z) = came-is q0 xid z is_sent to d ∙ ap (λ h. from_host h (call xid z)) (sym from ∙ sym here) in
          let less = line.drawing xid x seq n z r (delivered-one xid z q_is) (asks-then x r a).0
          (let at = first-number xid z q_is in let up = sent-before xid x z r q_is a in omega arith) also sq in
          let seq_is : (host_row (receive p.world.server (sending_host q0.sender) (length p.world.packets) (datagram_of q0.message)).server.kept host).seq ≡
          seq = ap (λ (l : HostRow). l.seq) same in
          omega arith
