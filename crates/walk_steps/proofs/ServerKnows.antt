-- What a client and the server know of each other is kept by a step of the server.
use Rattle.std.proofs.Common.{◌≡◌, ◌<◌, ◌≤◌, ◌⊎◌, ℕ, ◌+◌, ◌-◌, Bool, true, false, List, ◌∷◌, ◌++◌, Option, Some, refl, sym, subst, ap, ◌∙◌, arith, inl, inr}
use Rattle.std.proofs.lemmas.Bool.Decides.{nat_tests}
use Rattle.nq_base.specs.declared.Event.{Event}
use Rattle.nq_base.specs.declared.Grant.{Grant}
use Rattle.nq_base.specs.declared.HostRow.{HostRow}
use Rattle.nq_base.specs.declared.Mode.{Mode}
use Rattle.nq_base.specs.declared.Reply.{Reply}
use Rattle.nq_base.specs.declared.Request.{Request}
use Rattle.nq_base.specs.declared.Row.{Row}
use Rattle.nq_base.specs.declared.Tag.{Tag}
use Rattle.nq_base.specs.declared.Who.{Who}
use Rattle.walk_steps.proofs.ClientFacts.{IsLease}
use Rattle.walk_steps.proofs.ClientKnows.{Knows}
use Rattle.walk_steps.proofs.ClientMoves.{none-some}
use Rattle.walk_steps.proofs.Clocks.{same-cover, moment-past}
use Rattle.walk_steps.proofs.CoverFacts.{IsCoveredWhile, IsShort, IsTakeable, CoverFits}
use Rattle.walk_steps.proofs.HostLine.{LineFits, IsSettled, IsDecidedBy}
use Rattle.walk_steps.proofs.Packets.{In, in-append, Asked, Told, told-same, not-both, call-same, reply-same, Mail}
use Rattle.walk_steps.proofs.TagFacts.{IsDrawn, TagsFit}
use Rattle.nq_model.specs.protocol.Client.{Lease, Notice, Ticket, lease_on}
use Rattle.nq_model.specs.protocol.Hear.{inc_of}
use Rattle.nq_model.specs.protocol.Kept.{host_row}
use Rattle.nq_model.specs.laws.LeaseInterval.{claim_of, is_at_least, IsCovered, cover_end, grant_in, requested_file}
use Rattle.nq_model.specs.protocol.Message.{Packet, call, reply, error, RpcError, asker, sequence_of}
use Rattle.nq_model.specs.protocol.Profile.{skew}
use Rattle.nq_model.specs.protocol.Server.{serving, Server, ServerStep, standing, to_host}
use Rattle.nq_model.specs.protocol.ServerStep.{is_attach}
use Rattle.nq_model.specs.protocol.Skew.{server_ticks, ticks_of}
use Rattle.nq_model.specs.protocol.Table.{caches, tag_below, find_row}
use Rattle.nq_model.specs.protocol.World.{from_host}

-- nothing is heard or given between steps
abbrev pub NoneHeard : ℕ → Tag → Type 0
NoneHeard file tag = ⊥

abbrev pub NoneGiven : ℕ → Grant → ℕ → Type 0
NoneGiven file g sent = ⊥

-- a grant that a step makes: its tag is fresh, and where it lets its holder cache its row stands until the term and the
-- skew are over
pub record IsFreshGrant (s t : Server) (w : Who) (file : ℕ) (g : Grant) : Type 0 where
  pub serves : t.phase ≡ serving
  pub above : (v : Tag) → IsDrawn (standing s).boot (standing s).drawn v → tag_below v g.tag ≡ true
  pub drawn : IsDrawn (standing t).boot (standing t).drawn g.tag
  pub row : Row
  pub stands : find_row file w.host t.table.rows ≡ Some row
  pub holder : caches g.mode ≡ true → row.who ≡ w
  pub of_file : row.file ≡ file
  pub mode : row.mode ≡ g.mode
  pub tag : row.tag ≡ g.tag
  pub began : caches g.mode ≡ true → tag_below g.tag row.since ≡ false
  pub lasts : caches g.mode ≡ true → s.now + g.term + skew ≤ row.until
  pub short : caches g.mode ≡ true → g.term ≤ s.kept.longest

-- what a reply to a request says of the line of its host after the step
pub record IsNewReply (ps : List Packet) (s t : Server) (host x : ℕ) (a : Reply) : Type 0 where
  pub asks : Request
  pub who : Who
  pub sent : Asked ps host x asks
  pub by : asker asks ≡ Some who
  pub same_host : who.host ≡ host
  pub inc : inc_of a ≡ who.inc
  pub attached : (i : ℕ) → a ≡ Reply.Attach i → (host_row t.kept host).inc ≡ i
  pub decided : (n : ℕ) → sequence_of asks ≡ Some n
      → ((host_row t.kept host).inc ≡ who.inc × (n ≤ (host_row t.kept host).seq)) ⊎ (((host_row s.kept host).inc < who.inc) × (is_attach asks ≡ false))
  pub fresh : (g : Grant) → grant_in a ≡ Some g → (file : ℕ) → requested_file asks ≡ Some file → IsFreshGrant s t who file g
  pub files : (g : Grant) → grant_in a ≡ Some g → (file : ℕ) × (requested_file asks ≡ Some file)

-- what the server sends in a step
pub data IsNew (ps : List Packet) (s t : Server) (q : Packet) : Type 0 where
  new_reply : (host x : ℕ) (a : Reply) → q ≡ to_host host (reply x a) → IsNewReply ps s t host x a → IsNew ps s t q
  new_error : (host x : ℕ) (e : RpcError) → q ≡ to_host host (error x e) → IsNew ps s t q
  new_notice : (x : ℕ) (row : Row) → q ≡ to_host row.who.host (call x (Request.Evicted row.who row.file row.tag))
      → find_row row.file row.who.host s.table.rows ≡ Some row → row.who.inc ≡ (host_row s.kept row.who.host).inc
      → IsDrawn (standing t).boot (standing t).drawn row.tag → IsNew ps s t q

-- what a step does to the line of a host
pub data LineMoves (ps : List Packet) (host : ℕ) (before after : HostRow) : Type 0 where
  line_stays : after ≡ before → LineMoves ps host before after
  line_decides : after.inc ≡ before.inc → before.seq ≤ after.seq → LineMoves ps host before after
  line_attaches : before.inc < after.inc → (x : ℕ) (w : Who) → Asked ps host x (Request.Attach w) → w.inc ≡ after.inc → LineMoves ps host before after

-- a tag that a client holds or can take on a file
abbrev pub IsClaimed : (ps : List Packet) (who : Who) (ticket : Option Ticket) (leases : List Lease) (file : ℕ) → Tag → Type 0
IsClaimed ps who ticket leases file tag =
    ((l : Lease) × (lease_on file leases ≡ Some l) × (l.tag ≡ tag)) ⊎ ((g : Grant) × (t : Ticket) × IsTakeable ps who ticket file g t × (g.tag ≡ tag))

-- what a step of the server does, as one client sees it
pub record Effect (ps : List Packet) (s : Server) (t : ServerStep) (who : Who) (ticket : Option Ticket) (leases : List Lease) : Type 0 where
  pub line : LineMoves ps who.host (host_row s.kept who.host) (host_row t.server.kept who.host)
  pub grows : (tag : Tag) → IsDrawn (standing s).boot (standing s).drawn tag → IsDrawn (standing t.server).boot (standing t.server).drawn tag
  pub opened : t.server.kept.opened ≡ s.kept.opened
  pub longest : t.server.kept.longest ≡ s.kept.longest
  pub covers : (file : ℕ) (mode : Mode) (tag : Tag) (until : ℕ) → IsClaimed ps who ticket leases file tag → caches mode ≡ true
      → IsCovered s s.phase (claim_of who file mode tag until) → IsCovered t.server t.server.phase (claim_of who file mode tag until)
  pub said : (q : Packet) → In t.sends q → IsNew ps s t.server q

-- when the client asked, by its clock and the server's
pub record Timely (s : Server) (events : List Event) (who : Who) (now : ℕ) (ticket : Option Ticket) (leases : List Lease) : Type 0 where
  pub client : now ≡ ticks_of who.host events
  pub server : s.now ≡ server_ticks events
  pub leased : (file : ℕ) (l : Lease) → lease_on file leases ≡ Some l → IsLease now l
  pub asked : (t : Ticket) → ticket ≡ Some t → t.first ≤ now

module _ (ps : List Packet) (s : Server) (events : List Event) (e : Event) (t : ServerStep) (who : Who) (now xid : ℕ) (attached : Bool)
    (ticket : Option Ticket) (leases : List Lease) (notices : List Notice)
    (h : Knows NoneHeard NoneGiven (host_row s.kept who.host) s events who now attached ticket leases notices ps)
    (m : Mail who xid ticket ps) (times : Timely s events who now ticket leases)
    (unrowed : attached ≡ false → (file : ℕ) (row : Row) → find_row file who.host s.table.rows ≡ Some row → row.who.inc ≡ who.inc → ⊥)
    (f : Effect ps s t who ticket leases) where
  after : List Packet
  after = ps ++ t.sends

  line : HostRow
  line = host_row s.kept who.host

  -- requests are those from before
  asked-before : (x : ℕ) (r : Request) → Asked (ps ++ t.sends) who.host x r → Asked ps who.host x r
  asked-before x r i = case (in-append ps t.sends (from_host who.host (call x r)) i)
    where
      not-new : IsNew ps s t.server (from_host who.host (call x r)) → ⊥
      not-new (new_reply host y a eq n) = not-both who.host host (call x r) (reply y a) eq
      not-new (new_error host y er eq) = not-both who.host host (call x r) (error y er) eq
      not-new (new_notice y row eq stands inc drawn) = not-both who.host row.who.host (call x r) (call y (Request.Evicted row.who row.file row.tag)) eq

      case : In ps (from_host who.host (call x r)) ⊎ In t.sends (from_host who.host (call x r)) → Asked ps who.host x r
      case (inl old) = old
      case (inr new) = absurd (not-new (f.said (from_host who.host (call x r)) new))

  -- a reply is one from before, or new
  reply-new : (x : ℕ) (a : Reply) → IsNew ps s t.server (to_host who.host (reply x a)) → IsNewReply ps s t.server who.host x a
  reply-new x a (new_reply host y b eq n) =
      let d = told-same who.host host (reply x a) (reply y b) eq in
      let p = reply-same x y a b d.1 in
      subst (λ k. IsNewReply ps s t.server k x a) (sym d.0)
      (subst (λ k. IsNewReply ps s t.server host k a) (sym p.0) (subst (λ k. IsNewReply ps s t.server host y k) (sym p.1) n))
  reply-new x a (new_error host y er eq) = let d = told-same who.host host (reply x a) (error y er) eq in absurd (cc)
  reply-new x a (new_notice y row eq stands inc drawn) =
      let d = told-same who.host row.who.host (reply x a) (call y (Request.Evicted row.who row.file row.tag)) eq in absurd (cc)

  reply-told : (x : ℕ) (a : Reply) → Told (ps ++ t.sends) who.host (reply x a) → Told ps who.host (reply x a) ⊎ IsNewReply ps s t.server who.host x a
  reply-told x a i = case (in-append ps t.sends (to_host who.host (reply x a)) i)
    where
      case : In ps (to_host who.host (reply x a)) ⊎ In t.sends (to_host who.host (reply x a))
          → Told ps who.host (reply x a) ⊎ IsNewReply ps s t.server who.host x a
      case (inl old) = inl old
      case (inr new) = inr (reply-new x a (f.said (to_host who.host (reply x a)) new))

  -- a notice is one from before, or new
  pub record NewNotice (w : Who) (file : ℕ) (tag : Tag) : Type 0 where
    pub row : Row
    pub stands : find_row file who.host s.table.rows ≡ Some row
    pub is_who : row.who ≡ w
    pub inc : w.inc ≡ (host_row s.kept who.host).inc
    pub drawn : IsDrawn (standing t.server).boot (standing t.server).drawn tag

  notice-new : (x : ℕ) (w : Who) (file : ℕ) (tag : Tag) → IsNew ps s t.server (to_host who.host (call x (Request.Evicted w file tag))) → NewNotice w file tag
  notice-new x w file tag (new_reply host y b eq n) = let d = told-same who.host host (call x (Request.Evicted w file tag)) (reply y b) eq in absurd (cc)
  notice-new x w file tag (new_error host y er eq) = let d = told-same who.host host (call x (Request.Evicted w file tag)) (error y er) eq in absurd (cc)
  notice-new x w file tag (new_notice y row eq stands inc drawn) =
      let d = told-same who.host row.who.host (call x (Request.Evicted w file tag)) (call y (Request.Evicted row.who row.file row.tag)) eq in
      let c = call-same x y (Request.Evicted w file tag) (Request.Evicted row.who row.file row.tag) d.1 in
      let k = parts w row.who file row.file tag row.tag c.1 in
      record {
        row = row;
        stands = subst (λ n. find_row n who.host s.table.rows ≡ Some row) (sym k.1) (subst (λ n. find_row row.file n s.table.rows ≡ Some row)
            (sym d.0) stands);
        is_who = sym k.0;
        inc = ap (λ z. z.inc) k.0 ∙ inc ∙ ap (λ n. (host_row s.kept n).inc) (sym d.0);
        drawn = subst (λ g. IsDrawn (standing t.server).boot (standing t.server).drawn g) (sym k.2) drawn;
      }
    where
      parts : (w w' : Who) (a b : ℕ) (g k : Tag) → Request.Evicted w a g ≡ Request.Evicted w' b k → (w ≡ w') × (a ≡ b) × (g ≡ k)
      parts w w' a b g k eq = (cc, cc, cc)

  notice-told : (x : ℕ) (w : Who) (file : ℕ) (tag : Tag) → Told (ps ++ t.sends) who.host (call x (Request.Evicted w file tag))
      → Told ps who.host (call x (Request.Evicted w file tag)) ⊎ NewNotice w file tag
  notice-told x w file tag i = case (in-append ps t.sends (to_host who.host (call x (Request.Evicted w file tag))) i)
    where
      case : In ps (to_host who.host (call x (Request.Evicted w file tag))) ⊎ In t.sends (to_host who.host (call x (Request.Evicted w file tag)))
          → Told ps who.host (call x (Request.Evicted w file tag)) ⊎ NewNotice w file tag
      case (inl old) = inl old
      case (inr new) = inr (notice-new x w file tag (f.said (to_host who.host (call x (Request.Evicted w file tag))) new))

  -- the kept incarnation never falls
  line-past : (host_row s.kept who.host).inc ≤ (host_row t.server.kept who.host).inc
  line-past = case f.line
    where
      case : LineMoves ps who.host (host_row s.kept who.host) (host_row t.server.kept who.host)
          → (host_row s.kept who.host).inc ≤ (host_row t.server.kept who.host).inc
      case (line_stays same) = let e : (host_row t.server.kept who.host).inc ≡ (host_row s.kept who.host).inc = ap (λ z. z.inc) same in omega arith
      case (line_decides inc seq) = omega arith
      case (line_attaches later x w sent inc) = omega arith

  line-below : (host_row t.server.kept who.host).inc ≤ who.inc
  line-below = case f.line
    where
      case : LineMoves ps who.host (host_row s.kept who.host) (host_row t.server.kept who.host) → (host_row t.server.kept who.host).inc ≤ who.inc
      case (line_stays same) =
          let e : (host_row t.server.kept who.host).inc ≡ (host_row s.kept who.host).inc = ap (λ z. z.inc) same in let p = h.lined.past in omega arith
      case (line_decides inc seq) = let p = h.lined.past in omega arith
      case (line_attaches later x w sent inc) = let k = (m.asked x (Request.Attach w) w sent refl).inc in omega arith

  -- where the running incarnation was the kept one, it stays so, and what was decided stays so
  pub record Stayed : Type 0 where
    pub inc : (host_row t.server.kept who.host).inc ≡ who.inc
    pub seq : (host_row s.kept who.host).seq ≤ (host_row t.server.kept who.host).seq

  stayed : (host_row s.kept who.host).inc ≡ who.inc → Stayed
  stayed kept = case f.line
    where
      case : LineMoves ps who.host (host_row s.kept who.host) (host_row t.server.kept who.host) → Stayed
      case (line_stays same) =
          record {
            inc = ap (λ z. z.inc) same
                ∙ kept;
            seq = let e : (host_row t.server.kept who.host).seq ≡ (host_row s.kept who.host).seq = ap (λ z. z.seq) same in omega arith;
          }
      case (line_decides inc seq) = record { inc = inc ∙ kept; seq = seq }
      case (line_attaches later x w sent inc) = let k = (m.asked x (Request.Attach w) w sent refl).inc in absurd (omega arith)

  -- a request of an incarnation above the kept one is ATTACH
  no-seq-above : (x : ℕ) (r : Request) (w : Who) (n : ℕ) → Asked ps who.host x r → asker r ≡ Some w → (host_row s.kept who.host).inc < w.inc
      → sequence_of r ≡ Some n → ⊥
  no-seq-above x r w n sent by later seq = none-some n (ap sequence_of (sym (h.lined.above x r w sent by later)) ∙ seq)

  settled : (host_row t.server.kept who.host).inc ≡ who.inc → (x : ℕ) (r : Request) (w : Who) (n : ℕ) → Asked ps who.host x r → asker r ≡ Some w
      → w.inc ≡ who.inc → sequence_of r ≡ Some n → IsSettled ticket (host_row t.server.kept who.host).seq x n
  settled kept x r w n sent by inc seq = case f.line
    where
      more : (host_row s.kept who.host).inc ≡ who.inc → (host_row s.kept who.host).seq ≤ (host_row t.server.kept who.host).seq
          → IsSettled ticket (host_row s.kept who.host).seq x n → IsSettled ticket (host_row t.server.kept who.host).seq x n
      more k up (inl below) = inl (omega arith)
      more k up (inr u) = inr u

      case : LineMoves ps who.host (host_row s.kept who.host) (host_row t.server.kept who.host) → IsSettled ticket (host_row t.server.kept who.host).seq x n
      case (line_stays same) =
          let k : (host_row s.kept who.host).inc ≡ who.inc = ap (λ z. z.inc) (sym same) ∙ kept in
          more k (stayed k).seq (h.lined.settled k x r w n sent by inc seq)
      case (line_decides same up) = let k : (host_row s.kept who.host).inc ≡ who.inc = sym same ∙ kept in more k up (h.lined.settled k x r w n sent by inc seq)
      case (line_attaches later y v asked same) = absurd (no-seq-above x r w n sent by (omega arith) seq)

  answered-old : (x : ℕ) (a : Reply) → Told ps who.host (reply x a) → inc_of a ≡ who.inc → (u : Ticket) → ticket ≡ Some u → u.xid ≡ x → (n : ℕ)
      → sequence_of u.request ≡ Some n → IsDecidedBy who (host_row t.server.kept who.host) n
  answered-old x a told inc u is number n seq =
      let d = h.lined.answered x a told inc u is number n seq in
      let k = stayed d.inc in
      record { inc = k.inc; decided = let below = d.decided in let up = k.seq in omega arith }

  answered-new : (x : ℕ) (a : Reply) → IsNewReply ps s t.server who.host x a → inc_of a ≡ who.inc → (u : Ticket) → ticket ≡ Some u → u.xid ≡ x → (n : ℕ)
      → sequence_of u.request ≡ Some n → IsDecidedBy who (host_row t.server.kept who.host) n
  answered-new x a k inc u is number n seq = case (k.decided n (ap sequence_of (sym same) ∙ seq))
    where
      running : k.who.inc ≡ who.inc
      running = sym k.inc ∙ inc

      same : u.request ≡ k.asks
      same = (m.asked x k.asks k.who k.sent k.by).same running u is number

      case : (((host_row t.server.kept who.host).inc ≡ k.who.inc) × (n ≤ (host_row t.server.kept who.host).seq))
          ⊎ (((host_row s.kept who.host).inc < k.who.inc) × (is_attach k.asks ≡ false)) → IsDecidedBy who (host_row t.server.kept who.host) n
      case (inl d) = record { inc = d.0 ∙ running; decided = d.1 }
      case (inr d) = absurd (no-seq-above x k.asks k.who n k.sent k.by d.0 (ap sequence_of (sym same) ∙ seq))

  lined-after : LineFits who attached ticket notices (host_row t.server.kept who.host) (ps ++ t.sends)
  lined-after = record {
    past = line-below;
    current = λ e. (stayed (h.lined.current e)).inc;
    told = λ x i sent same. told x i same (reply-told x (Reply.Attach i) sent);
    above = λ x r w sent by later. h.lined.above x r w (asked-before x r sent) by (let p = line-past in omega arith);
    waiting = λ e x r w sent. h.lined.waiting e x r w (asked-before x r sent);
    unnoticed = h.lined.unnoticed;
    evicted_past = λ x w file tag sent. evicted-past x w file tag (notice-told x w file tag sent);
    unheard = λ e x w file tag sent inc. unheard e x w file tag inc (notice-told x w file tag sent);
    settled = λ kept x r w n sent. settled kept x r w n (asked-before x r sent);
    answered = λ x a sent inc u is number n seq. answered x a inc u is number n seq (reply-told x a sent);
  } where
    told : (x i : ℕ) → i ≡ who.inc → Told ps who.host (reply x (Reply.Attach i)) ⊎ IsNewReply ps s t.server who.host x (Reply.Attach i)
        → (host_row t.server.kept who.host).inc ≡ who.inc
    told x i same (inl old) = (stayed (h.lined.told x i old same)).inc
    told x i same (inr new) = new.attached i refl ∙ same

    evicted-past : (x : ℕ) (w : Who) (file : ℕ) (tag : Tag) → Told ps who.host (call x (Request.Evicted w file tag)) ⊎ NewNotice w file tag → w.inc ≤ who.inc
    evicted-past x w file tag (inl old) = h.lined.evicted_past x w file tag old
    evicted-past x w file tag (inr new) = let k = new.inc in let p = h.lined.past in omega arith

    unheard : attached ≡ false → (x : ℕ) (w : Who) (file : ℕ) (tag : Tag) → w.inc ≡ who.inc
        → Told ps who.host (call x (Request.Evicted w file tag)) ⊎ NewNotice w file tag → ⊥
    unheard e x w file tag inc (inl old) = h.lined.unheard e x w file tag old inc
    unheard e x w file tag inc (inr new) = unrowed e file new.row new.stands (ap (λ z. z.inc) new.is_who ∙ inc)

    answered : (x : ℕ) (a : Reply) → inc_of a ≡ who.inc → (u : Ticket) → ticket ≡ Some u → u.xid ≡ x → (n : ℕ) → sequence_of u.request ≡ Some n
        → Told ps who.host (reply x a) ⊎ IsNewReply ps s t.server who.host x a → IsDecidedBy who (host_row t.server.kept who.host) n
    answered x a inc u is number n seq (inl old) = answered-old x a old inc u is number n seq
    answered x a inc u is number n seq (inr new) = answered-new x a new inc u is number n seq

  -- ---- tags

  tagged-after : TagsFit who ticket leases notices (standing t.server).boot (standing t.server).drawn (ps ++ t.sends)
  tagged-after = record {
    held = λ file l e. f.grows l.tag (h.tagged.held file l e);
    noticed = λ file n e. f.grows n.tag (h.tagged.noticed file n e);
    evicts = λ x w file tag sent. evicts x w file tag (notice-told x w file tag sent);
    vacates = λ x w file tag sent. f.grows tag (h.tagged.vacates x w file tag (asked-before x (Request.Vacated w file tag) sent));
    grants = λ x a g sent gives. grants x a g gives (reply-told x a sent);
    past_held = λ x w file tag l sent. h.tagged.past_held x w file tag l (asked-before x (Request.Vacated w file tag) sent);
    past_given =
        λ x w file tag y a g u sent inc told i is number on gives. given x w file tag y a g u (asked-before x (Request.Vacated w file tag) sent) inc i
        is number on gives (reply-told y a told);
  } where
    evicts : (x : ℕ) (w : Who) (file : ℕ) (tag : Tag) → Told ps who.host (call x (Request.Evicted w file tag)) ⊎ NewNotice w file tag
        → IsDrawn (standing t.server).boot (standing t.server).drawn tag
    evicts x w file tag (inl old) = f.grows tag (h.tagged.evicts x w file tag old)
    evicts x w file tag (inr new) = new.drawn

    grants : (x : ℕ) (a : Reply) (g : Grant) → grant_in a ≡ Some g → Told ps who.host (reply x a) ⊎ IsNewReply ps s t.server who.host x a
        → IsDrawn (standing t.server).boot (standing t.server).drawn g.tag
    grants x a g gives (inl old) = f.grows g.tag (h.tagged.grants x a g old gives)
    grants x a g gives (inr new) = let file = new.files g gives in (new.fresh g gives file.0 file.1).drawn

    given : (x : ℕ) (w : Who) (file : ℕ) (tag : Tag) (y : ℕ) (a : Reply) (g : Grant) (u : Ticket) → Asked ps who.host x (Request.Vacated w file tag)
        → w.inc ≡ who.inc → inc_of a ≡ who.inc → ticket ≡ Some u → u.xid ≡ y → requested_file u.request ≡ Some file → grant_in a ≡ Some g
        → Told ps who.host (reply y a) ⊎ IsNewReply ps s t.server who.host y a → tag_below tag g.tag ≡ true
    given x w file tag y a g u sent inc i is number on gives (inl old) = h.tagged.past_given x w file tag y a g u sent inc old i is number on gives
    given x w file tag y a g u sent inc i is number on gives (inr new) =
        let k = new.files g gives in (new.fresh g gives k.0 k.1).above tag (h.tagged.vacates x w file tag sent)

  -- ---- covers

  same-held : (file : ℕ) (l : Lease) → lease_on file leases ≡ Some l
      → cover_end who.host (l.expiry - l.term) l.term (e ∷ events) ≡ cover_end who.host (l.expiry - l.term) l.term events
  same-held file l is =
      same-cover who.host (l.expiry - l.term) l.term e events
      (let k = times.leased file l is in let a = k.term in let b = k.past in let c = times.client in omega arith)

  same-asked : (u : Ticket) (term : ℕ) → ticket ≡ Some u → cover_end who.host u.first term (e ∷ events) ≡ cover_end who.host u.first term events
  same-asked u term is = same-cover who.host u.first term e events (let a = times.asked u is in let c = times.client in omega arith)

  held-after : (file : ℕ) (l : Lease) → lease_on file leases ≡ Some l → caches l.mode ≡ true
      → IsCoveredWhile t.server (e ∷ events) who now file l.mode l.tag (l.expiry - l.term) l.term
  held-after file l is c runs =
      subst (λ n. IsCovered t.server t.server.phase (claim_of who file l.mode l.tag n)) (sym (same-held file l is))
      (f.covers file l.mode l.tag (cover_end who.host (l.expiry - l.term) l.term events) (inl (l, is, refl)) c (h.covered.held file l is c runs))

  pub data Taken (file : ℕ) (g : Grant) (u : Ticket) : Type 0 where
    taken_old : IsTakeable ps who ticket file g u → Taken file g u
    taken_new : (x : ℕ) (a : Reply) → IsNewReply ps s t.server who.host x a → inc_of a ≡ who.inc → ticket ≡ Some u → u.xid ≡ x
        → requested_file u.request ≡ Some file → grant_in a ≡ Some g → Taken file g u

  taken : (file : ℕ) (g : Grant) (u : Ticket) → IsTakeable (ps ++ t.sends) who ticket file g u → Taken file g u
  taken file g u k = case (reply-told k.x k.a k.told)
    where
      case : Told ps who.host (reply k.x k.a) ⊎ IsNewReply ps s t.server who.host k.x k.a → Taken file g u
      case (inl old) =
          taken_old (record { x = k.x; a = k.a; told = old; inc = k.inc; asked = k.asked; number = k.number; on_file = k.on_file; gives = k.gives })
      case (inr new) = taken_new k.x k.a new k.inc k.asked k.number k.on_file k.gives

  new-grant : (file : ℕ) (g : Grant) (u : Ticket) (x : ℕ) (a : Reply) (n : IsNewReply ps s t.server who.host x a) → inc_of a ≡ who.inc → ticket ≡ Some u
      → u.xid ≡ x → requested_file u.request ≡ Some file → grant_in a ≡ Some g → IsFreshGrant s t.server n.who file g
  new-grant file g u x a n inc is number on gives =
      let same : u.request ≡ n.asks = (m.asked x n.asks n.who n.sent n.by).same (sym n.inc ∙ inc) u is number in
      n.fresh g gives file (ap requested_file (sym same) ∙ on)

  -- a fresh grant is covered
  fresh-covered : (file : ℕ) (g : Grant) (u : Ticket) (w : Who) → w ≡ who → ticket ≡ Some u → IsFreshGrant s t.server w file g → caches g.mode ≡ true
      → IsCovered t.server t.server.phase (claim_of who file g.mode g.tag (cover_end who.host u.first g.term (e ∷ events)))
  fresh-covered file g u w same is k c =
      subst (λ p. IsCovered t.server p (claim_of who file g.mode g.tag (cover_end who.host u.first g.term (e ∷ events)))) (sym k.serves)
      (record {
        row = k.row;
        stands = subst (λ z. find_row file z.host t.server.table.rows ≡ Some k.row) same k.stands;
        fits = record {
          holder = k.holder c ∙ same;
          of_file = k.of_file;
          kind = subst (λ md. is_at_least md g.mode ≡ true) (sym k.mode) (itself g.mode);
          began = k.began c;
          goes_on = subst (λ tg. tag_below tg g.tag ≡ false) (sym k.tag) (not-below g.tag);
          ends =
              let lasts = k.lasts c in let past = moment-past who.host u.first events (let a = times.asked u is in let b = times.client in omega arith)
              in let now_is = times.server in let q = same-asked u g.term is in omega arith;
        };
      })
    where
      itself : (md : Mode) → is_at_least md md ≡ true
      itself Mode.NonCaching = refl
      itself Mode.Reading = refl
      itself Mode.Writing = refl

      not-below : (tg : Tag) → tag_below tg tg ≡ false
      not-below tg = grind (arith, nat_tests)

  running-who : (x : ℕ) (a : Reply) (n : IsNewReply ps s t.server who.host x a) → inc_of a ≡ who.inc → n.who ≡ who
  running-who x a n inc = both-same n.who who n.same_host (sym n.inc ∙ inc)
    where
      both-same : (v w : Who) → v.host ≡ w.host → v.inc ≡ w.inc → v ≡ w
      both-same v w a b = let make : ℕ → ℕ → Who = λ p q. record { host = p; inc = q } in ap (λ p. make p v.inc) a ∙ ap (λ q. make w.host q) b

  given-after : (file : ℕ) (g : Grant) (u : Ticket) → IsTakeable (ps ++ t.sends) who ticket file g u → caches g.mode ≡ true
      → IsCoveredWhile t.server (e ∷ events) who now file g.mode g.tag u.first g.term
  given-after file g u k c runs = case (taken file g u k)
    where
      case : Taken file g u → IsCovered t.server t.server.phase (claim_of who file g.mode g.tag (cover_end who.host u.first g.term (e ∷ events)))
      case (taken_old o) =
          subst (λ n. IsCovered t.server t.server.phase (claim_of who file g.mode g.tag n)) (sym (same-asked u g.term o.asked))
          (f.covers file g.mode g.tag (cover_end who.host u.first g.term events) (inr (g, u, o, refl)) c (h.covered.given file g u o c runs))
      case (taken_new x a n inc is number on gives) =
          fresh-covered file g u n.who (running-who x a n inc) is (new-grant file g u x a n inc is number on gives) c

  given-short-after : (file : ℕ) (g : Grant) (u : Ticket) → IsTakeable (ps ++ t.sends) who ticket file g u → caches g.mode ≡ true
      → IsShort t.server g.tag g.term
  given-short-after file g u k c b = case (taken file g u k)
    where
      case : Taken file g u → g.term ≤ t.server.kept.longest
      case (taken_old o) = let short = h.covered.given_short file g u o c (b ∙ f.opened) in let same = f.longest in omega arith
      case (taken_new x a n inc is number on gives) =
          let short = (new-grant file g u x a n inc is number on gives).short c in let same = f.longest in omega arith

  covered-after : CoverFits t.server (e ∷ events) who now ticket leases (ps ++ t.sends)
  covered-after = record {
    held = held-after;
    held_short = λ file l is c b. let short = h.covered.held_short file l is c (b ∙ f.opened) in let same = f.longest in omega arith;
    given = given-after;
    given_short = given-short-after;
  }

  pub knows-after : Knows NoneHeard NoneGiven (host_row t.server.kept who.host) t.server (e ∷ events) who now attached ticket leases notices (ps ++ t.sends)
  knows-after =
      record {
        lined = lined-after;
        tagged = tagged-after;
        covered = covered-after;
        heard = λ file tag bad. absurd bad;
        pending = λ file g sent bad.
            absurd bad;
      }
