-- What a client that hears a packet leaves of hopes, and of the rows in the way of calls; and what one leaves that ignores it.
use Rattle.std.proofs.Common.{◌≡◌, ◌≢◌, ◌≤◌, ◌⊎◌, ℕ, ◌==◌, ◌++◌, Bool, true, false, List, [], ◌∷◌, Some, refl, sym, subst, ap, ◌∙◌, arith, inl, inr}
use Rattle.std.specs.Prelude.{map, slice_get, slice_set}
use Rattle.nq_base.specs.declared.Mode.{Mode}
use Rattle.nq_base.specs.declared.Request.{Request}
use Rattle.nq_base.specs.declared.Row.{Row}
use Rattle.nq_base.specs.declared.Tag.{Tag}
use Rattle.nq_model.specs.protocol.Client.{Client, ClientStep, Notice, Ticket, UnderWay, lease_on, notice_on}
use Rattle.nq_model.specs.protocol.Hear.{holds_later, wants_of}
use Rattle.nq_model.specs.protocol.Message.{Message, Packet, call}
use Rattle.nq_model.specs.protocol.Server.{to_host}
use Rattle.nq_model.specs.protocol.Table.{find_row}
use Rattle.nq_model.specs.protocol.World.{from_host}
use Rattle.walk_steps.proofs.ClientMoves.{some-same}
use Rattle.walk_steps.proofs.Packets.{In, in-left, in-right, told-same, not-both}
use Rattle.walk_steps.proofs.Worlds.{set-there, get-set-other}
use Rattle.walk_steps.proofs.Rows.{same-number, number-same}
use Rattle.law_rounds.proofs.Coming.{in-map}
use Rattle.nq_laws.proofs.Hope.{file_of_call, access_of_call, Cancels, PutsOff, Safe, Hopeful, IsWished, by_read, by_write, Goes, told, waits}
use Rattle.nq_laws.proofs.Hope.{vacated, Passes, goes, hoped, InWay, Clear, safe-rest, safe-append, safe-none, safe-fewer}

pub map-in : {A B : Type 0} (f : A → B) (xs : List A) (z : B) → In (map f xs) z → (x : A) × In xs x × (z ≡ f x)
map-in f [] z i = absurd i
map-in f (x ∷ xs) z (inl e) = (x, inl refl, sym e)
map-in f (x ∷ xs) z (inr i) = let m = map-in f xs z i in (m.0, inr m.1, m.2)

none-puts-off : (h : ℕ) (c : Client) (t : Ticket) (h0 : ℕ) (ms : List Message) (z : Packet) → In (map (from_host h0) ms) z → PutsOff h c t z → ⊥
none-puts-off h c t h0 ms z i o = let m = map-in (from_host h0) ms z i in not-both h0 h m.0 _ (sym m.2 ∙ o.is)

none-cancels : (h : ℕ) (c : Client) (t : Ticket) (h0 : ℕ) (m : Message) (y : Packet) → y ≡ to_host h0 m → h ≢ h0 → Cancels h c t y → ⊥
none-cancels h c t h0 m y is apart k = apart (told-same h h0 _ m (sym k.is ∙ is)).0

wish-call : (u v : UnderWay) (f : ℕ) (m : Mode) → v.call ≡ u.call → IsWished u f m → IsWished v f m
wish-call u v f m e (by_read block is) = by_read block (e ∙ is)
wish-call u v f m e (by_write block body is writes) = by_write block body (e ∙ is) writes

-- where the request under way is the one of before, or a new one
pub data TicketNow (h : ℕ) (c : Client) (t : ClientStep) (y : Packet) (ys : List Packet) (k : Ticket) : Type 0 where
  same :
      (n f : ℕ) (tag : Tag)
      → c.ticket ≡ Some k
      → y ≡ to_host h (call n (Request.Evicted c.who f tag))
      → wants_of f k.request ≡ false
      → ((g : ℕ) (other : Tag) → holds_later other (lease_on g c.leases) ≡ false → holds_later other (lease_on g t.client.leases) ≡ false)
      → TicketNow h c t y ys k
  new : ((z : Packet) → In ys z → PutsOff h t.client k z → ⊥) → TicketNow h c t y ys k

-- a row that was to go still goes
pub data Leaves (c : Client) (t : ClientStep) (f : ℕ) (row : Row) : Type 0 where
  gives_up : (n : ℕ) → In t.sends (call n (Request.Vacated row.who f row.tag)) → Leaves c t f row
  notes : (n : Notice) → notice_on f t.client.notices ≡ Some n → n.tag ≡ row.tag → Leaves c t f row

-- what is known of the client that heard
pub record Hearer (rows : List Row) (y : Packet) (ys : List Packet) (h : ℕ) (c : Client) (t : ClientStep) : Type 0 where
  pub who : t.client.who ≡ c.who
  pub now : t.client.now ≡ c.now
  pub opens : (u : UnderWay) → c.call ≡ Some u → (v : UnderWay) × (t.client.call ≡ Some v) × (v.call ≡ u.call)
  pub before : (v : UnderWay) → t.client.call ≡ Some v → (u : UnderWay) × (c.call ≡ Some u) × (v.call ≡ u.call)
  pub pause : ((k : Ticket) → c.ticket ≡ Some k → PutsOff h c k y → ⊥) → t.client.pause ≡ c.pause
  -- what it hears is a notice, or a reply to the request under way
  pub ticket : (l : Ticket) → t.client.ticket ≡ Some l → TicketNow h c t y ys l
  pub told_on : (n f : ℕ) (row : Row) → find_row f h rows ≡ Some row → y ≡ to_host h (call n (Request.Evicted row.who f row.tag)) → Leaves c t f row
  pub waits_on : (n : Notice) (f : ℕ) (row : Row) → find_row f h rows ≡ Some row → notice_on f c.notices ≡ Some n → n.tag ≡ row.tag → Leaves c t f row

module _ (rows : List Row) (clients : List Client) (y : Packet) (ys : List Packet) (h0 : ℕ) (m : Message) (c : Client) (t : ClientStep)
    (at : slice_get clients h0 ≡ Some c) (is : y ≡ to_host h0 m) (a : Hearer rows y ys h0 c t) where
  abbrev later : List Client
  later = slice_set clients h0 t.client

  abbrev more : List Packet
  more = map (from_host h0) t.sends

  other-client : (h : ℕ) → h ≢ h0 → slice_get later h ≡ slice_get clients h
  other-client h apart = get-set-other clients h0 h t.client apart

  own-client : slice_get later h0 ≡ Some t.client
  own-client = set-there clients h0 t.client c at

  other-hopes : (h : ℕ) → h ≢ h0 → Hopeful clients (y ∷ ys) h → Hopeful later (ys ++ more) h
  other-hopes h apart k = record {
    client = k.client;
    under = k.under;
    at = other-client h apart ∙ k.at;
    opened = k.opened;
    unpaused = k.unpaused;
    safe = λ t asks. safe-append h k.client t ys more (safe-rest h k.client t y ys (none-cancels h k.client t h0 m y is apart) (k.safe t asks))
        (safe-none h k.client t more (λ z i o. none-puts-off h k.client t h0 _ z i o));
  }

  -- its own request stays safe
  own-safe : (k : Hopeful clients (y ∷ ys) h0) → k.client ≡ c → (l : Ticket) → t.client.ticket ≡ Some l → TicketNow h0 c t y ys l → Safe h0 t.client l ys
  own-safe k one l asks (new never) = safe-none h0 t.client l ys never
  own-safe k one l asks (same n f tag had says other less) =
      let s : Safe h0 c l (y ∷ ys) = subst (λ (d : Client). Safe h0 d l (y ∷ ys)) one (k.safe l (ap (λ (d : Client). d.ticket) one ∙ had)) in
      safe-fewer h0 c t.client l ys a.who (λ g v wants e. less g v e) (safe-rest h0 c l y ys not s)
    where
      not : Cancels h0 c l y → ⊥
      not x =
          let e : call x.number (Request.Evicted c.who x.file x.tag) ≡ call n (Request.Evicted c.who f tag) = (told-same h0 h0 _ _ (sym x.is ∙ says)).1 in
          let on : x.file ≡ f = cc in
          let yes : wants_of f l.request ≡ true = subst (λ g. wants_of g l.request ≡ true) on x.wants in
          cc

  own-hopes : Hopeful clients (y ∷ ys) h0 → Hopeful later (ys ++ more) h0
  own-hopes k =
      let one : k.client ≡ c = some-same k.client c (sym k.at ∙ at) in
      let opened : c.call ≡ Some k.under = ap (λ (d : Client). d.call) (sym one) ∙ k.opened in
      let v = a.opens k.under opened in
      let paused : t.client.pause ≡ c.pause = a.pause (λ l asks o. not-off one l asks o) in
      let time = a.now in
      let early : c.pause ≤ c.now = subst (λ (d : Client). d.pause ≤ d.now) one k.unpaused in
      record {
        client = t.client;
        under = v.0;
        at = own-client;
        opened = v.1;
        unpaused = omega arith;
        safe = λ l asks. safe-append h0 t.client l ys more (own-safe k one l asks (a.ticket l asks)) (safe-none h0 t.client l more
            (λ z i o. none-puts-off h0 t.client l h0 _ z i o));
      }
    where
      not-off : k.client ≡ c → (l : Ticket) → c.ticket ≡ Some l → PutsOff h0 c l y → ⊥
      not-off one l asks o = by (subst (λ (d : Client). Safe h0 d l (y ∷ ys)) one (k.safe l (ap (λ (d : Client). d.ticket) one ∙ asks)))
        where
          by : Cancels h0 c l y ⊎ ((PutsOff h0 c l y → ⊥) × Safe h0 c l ys) → ⊥
          by (inl x) = let e = (told-same h0 h0 _ _ (sym x.is ∙ o.is)).1 in cc
          by (inr s) = s.0 o

  pub hopes-on : (h : ℕ) → Hopeful clients (y ∷ ys) h → Hopeful later (ys ++ more) h
  hopes-on h k = whose (h == h0) refl
    where
      whose : (e : Bool) → (h == h0) ≡ e → Hopeful later (ys ++ more) h
      whose false e = other-hopes h (λ same. let yes : (h == h0) ≡ true = number-same h h0 same in absurd (cc)) k
      whose true e =
          let same : h ≡ h0 = same-number h h0 e in
          subst (λ n. Hopeful later (ys ++ more) n) (sym same) (own-hopes (subst (λ n. Hopeful clients (y ∷ ys) n) same k))

  -- a call is the one of before
  under-same : (h : ℕ) (k : Hopeful clients (y ∷ ys) h) (n : Hopeful later (ys ++ more) h) → n.under.call ≡ k.under.call
  under-same h k n = whose (h == h0) refl
    where
      whose : (e : Bool) → (h == h0) ≡ e → n.under.call ≡ k.under.call
      whose false e =
          let one : k.client ≡ n.client = some-same k.client n.client (sym k.at ∙ sym (other-client h (λ same. let yes : (h == h0) ≡ true =
          number-same h h0 same in absurd (cc))) ∙ n.at) in
          ap (λ (v : UnderWay). v.call) (some-same n.under k.under (sym n.opened ∙ ap (λ (d : Client). d.call) (sym one) ∙ k.opened))
      whose true e =
          let same : h ≡ h0 = same-number h h0 e in
          let old : k.client ≡ c = some-same k.client c (sym k.at ∙ subst (λ i. slice_get clients i ≡ Some c) (sym same) at) in
          let now : n.client ≡ t.client = some-same n.client t.client (sym n.at ∙ subst (λ i. slice_get later i ≡ Some t.client) (sym same) own-client) in
          let v = a.opens k.under (ap (λ (d : Client). d.call) (sym old) ∙ k.opened) in
          ap (λ (w : UnderWay). w.call) (some-same n.under v.0 (sym n.opened ∙ ap (λ (d : Client). d.call) now ∙ v.1)) ∙ v.2

  left : (f : ℕ) (row : Row) → Leaves c t f row → Goes later (ys ++ more) f h0 row
  left f row (gives_up n i) = vacated n (in-right ys more _ (in-map (from_host h0) t.sends _ i))
  left f row (notes n noted tag) = waits t.client n own-client noted tag

  -- a row that was to go still goes
  goes-on : (f h : ℕ) (row : Row) → find_row f h rows ≡ Some row → Goes clients (y ∷ ys) f h row → Goes later (ys ++ more) f h row
  goes-on f h row found (told n (inr i)) = told n (in-left ys more _ i)
  goes-on f h row found (told n (inl e)) =
      let same : h0 ≡ h = (told-same h0 h m _ (sym is ∙ e)).0 in
      subst (λ i. Goes later (ys ++ more) f i row) same
      (left f row (a.told_on n f row (subst (λ i. find_row f i rows ≡ Some row) (sym same) found) (e
      ∙ ap (λ i. to_host i (call n (Request.Evicted row.who f row.tag))) (sym same))))
  goes-on f h row found (vacated n (inr i)) = vacated n (in-left ys more _ i)
  goes-on f h row found (vacated n (inl e)) = absurd (not-both h h0 _ m (sym e ∙ is))
  goes-on f h row found (waits d n there noted tag) = whose (h == h0) refl
    where
      whose : (e : Bool) → (h == h0) ≡ e → Goes later (ys ++ more) f h row
      whose false e = waits d n (other-client h (λ same. let yes : (h == h0) ≡ true = number-same h h0 same in absurd (cc)) ∙ there) noted tag
      whose true e =
          let same : h ≡ h0 = same-number h h0 e in
          let one : d ≡ c = some-same d c (sym (subst (λ i. slice_get clients i ≡ Some d) same there) ∙ at) in
          subst (λ i. Goes later (ys ++ more) f i row) (sym same)
          (left f row (a.waits_on n f row (subst (λ i. find_row f i rows ≡ Some row) same found) (ap (λ (z : Client). notice_on f z.notices) (sym one)
          ∙ noted) tag))

  pub clear-on : (going : Bool) (host : ℕ) → Clear going rows clients (y ∷ ys) host → Clear going rows later (ys ++ more) host
  clear-on going host before d u f there opened file h row w = by (same-call (host == h0) refl)
    where
      same-call : (e : Bool) → (host == h0) ≡ e → (z : Client) × (v : UnderWay) × (slice_get clients host ≡ Some z) × (z.call ≡ Some v) × (u.call ≡ v.call)
      same-call false e = (
        d,
        u,
        sym (other-client host (λ same. let yes : (host == h0) ≡ true = number-same host h0 same in absurd (cc)))
            ∙ there,
        opened,
        refl,
      )
      same-call true e =
          let same : host ≡ h0 = same-number host h0 e in
          let now : d ≡ t.client = some-same d t.client (sym there ∙ subst (λ i. slice_get later i ≡ Some t.client) (sym same) own-client) in
          let v = a.before u (ap (λ (z : Client). z.call) (sym now) ∙ opened) in
          (c, v.0, subst (λ i. slice_get clients i ≡ Some c) (sym same) at, v.1, v.2)

      passes : Passes going clients (y ∷ ys) f h row → Passes going later (ys ++ more) f h row
      passes (goes may to_go way) = goes may to_go (goes-on f h row w.found way)
      passes (hoped k) = let n = hopes-on h k.hope in hoped (record {
        hope = n;
        wished = wish-call k.hope.under n.under f row.mode
            (under-same h k.hope n) k.wished;
      })

      by : (z : Client) × (v : UnderWay) × (slice_get clients host ≡ Some z) × (z.call ≡ Some v) × (u.call ≡ v.call) → Passes going later (ys ++ more) f h row
      by s = passes (before s.0 s.1 f s.2 s.3 (ap file_of_call (sym s.4) ∙ file) h row (subst (λ z. InWay rows host f z h row) (ap access_of_call s.4) w))

-- ---- a packet that is ignored

module _ (rows : List Row) (clients : List Client) (y : Packet) (ys : List Packet) (h0 : ℕ) (m : Message) (is : y ≡ to_host h0 m) (deaf : (c : Client)
    → slice_get clients h0 ≡ Some c → (l : Ticket) → Cancels h0 c l y → ⊥) (unnamed : (n f : ℕ) (row : Row) → find_row f h0 rows ≡ Some row
    → y ≡ to_host h0 (call n (Request.Evicted row.who f row.tag)) → ⊥) where
  pub ignored-hopes : (h : ℕ) → Hopeful clients (y ∷ ys) h → Hopeful clients ys h
  ignored-hopes h k = record {
    client = k.client;
    under = k.under;
    at = k.at;
    opened = k.opened;
    unpaused = k.unpaused;
    safe = λ l asks. safe-rest h k.client l y ys (not l) (k.safe l asks);
  }
    where
      not : (l : Ticket) → Cancels h k.client l y → ⊥
      not l x =
          let same : h ≡ h0 = (told-same h h0 _ m (sym x.is ∙ is)).0 in
          deaf k.client (subst (λ i. slice_get clients i ≡ Some k.client) same k.at) l (subst (λ i. Cancels i k.client l y) same x)

  ignored-goes : (f h : ℕ) (row : Row) → find_row f h rows ≡ Some row → Goes clients (y ∷ ys) f h row → Goes clients ys f h row
  ignored-goes f h row found (waits d n there noted tag) = waits d n there noted tag
  ignored-goes f h row found (told n (inr i)) = told n i
  ignored-goes f h row found (vacated n (inr i)) = vacated n i
  ignored-goes f h row found (vacated n (inl e)) = absurd (not-both h h0 _ m (sym e ∙ is))
  ignored-goes f h row found (told n (inl e)) =
      let same : h0 ≡ h = (told-same h0 h m _ (sym is ∙ e)).0 in
      absurd (unnamed n f row (subst (λ i. find_row f i rows ≡ Some row) (sym same) found) (e
      ∙ ap (λ i. to_host i (call n (Request.Evicted row.who f row.tag))) (sym same)))

  pub ignored-clear : (going : Bool) (host : ℕ) → Clear going rows clients (y ∷ ys) host → Clear going rows clients ys host
  unfolding ignored-hopes
  ignored-clear going host before d u f there opened file h row w = by (before d u f there opened file h row w)
    where
      by : Passes going clients (y ∷ ys) f h row → Passes going clients ys f h row
      by (goes may to_go way) = goes may to_go (ignored-goes f h row w.found way)
      by (hoped k) = hoped (record { hope = ignored-hopes h k.hope; wished = k.wished })
