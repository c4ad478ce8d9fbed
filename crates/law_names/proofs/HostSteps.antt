-- A host asks for lists, and hears: what holds of every outer world is kept.
use Rattle.std.proofs.Common.{◌≡◌, ◌≢◌, ◌<◌, ◌≤◌, ◌^◌, ◌⊎◌, ℕ, ◌+◌, ◌==◌, Bool, true, false, List, [], ◌∷◌, ◌++◌, Some, None, length, refl, sym}
use Rattle.std.proofs.Common.{subst, ap, ◌∙◌, arith, inl, inr}
use Rattle.std.specs.Prelude.{slice_get, slice_set}
use Rattle.nq_base.specs.declared.Event.{Event}
use Rattle.nq_base.specs.declared.Party.{Party}
use Rattle.nq_base.specs.declared.Tag.{Tag}
use Rattle.nq_base.specs.declared.Who.{Who}
use Rattle.nq_directory.specs.declared.listing.messages.DirTag.{DirTag}
use Rattle.nq_directory.specs.declared.listing.messages.ReadDir.{ReadDir}
use Rattle.nq_directory.specs.Messages.{Answer, page, read_dir_bytes}
use Rattle.nq_directory.specs.Reading.{read_dir_in}
use Rattle.nq_model.specs.protocol.Client.{Client, UnderWay}
use Rattle.nq_model.specs.protocol.Stepped.{most_events}
use Rattle.nq_model.specs.protocol.World.{World}
use Rattle.nq_directory.specs.NameCacheNames.{DirList, Names, Request, first_number, number_after}
use Rattle.nq_name_server.specs.Served.{Served}
use Rattle.nq_name_server.specs.Outer.{Outer}
use Rattle.nq_name_server.specs.Outside.{beside}
use Rattle.walk_steps.proofs.ClientMoves.{some-same, none-some}
use Rattle.walk_steps.proofs.Packets.{In, in-append}
use Rattle.walk_steps.proofs.Worlds.{get-set-same, get-set-other}
use Rattle.walk_steps.proofs.Rows.{same-number, number-same}
use Rattle.law_names.proofs.Chains.{IsServed, WasDrawn, same-leads}
use Rattle.law_names.proofs.Claims.{AskedFor, GaveUp, HostFits, IsClaimed, IsForgotten, ListFits, PartFits, Shift, ToldTo, host-shifted}
use Rattle.law_names.proofs.Codec.{IsAsking, IsCodec, IsRead}
use Rattle.law_names.proofs.OuterFits.{Inv, IsBeside, IsInner, IsOwn, IsSide, SideFits, ground}

-- ---- packets more

-- packets that a host sends beside those of the inner world
pub record AreFrom (host : ℕ) (more : List Outer) : Type 0 where
  pub to : (p : Outer) → In more p → p.to ≡ Party.Server
  pub sender : (p : Outer) → In more p → p.sender ≡ Party.Client host
  pub beside : (p : Outer) → In more p → p.is ≡ None

server-no-client : (host : ℕ) → Party.Server ≡ Party.Client host → ⊥
server-no-client host e = cc

client-same : (a b : ℕ) → Party.Client a ≡ Party.Client b → a ≡ b
client-same a b e = cc

module _ (host : ℕ) (sent more : List Outer) (from : AreFrom host more) where
  pub told-before : (h xid inc : ℕ) (a : Answer) → ToldTo (sent ++ more) h xid inc a → ToldTo sent h xid inc a
  told-before h xid inc a t = step (in-append sent more t.packet t.there)
    where
      step : In sent t.packet ⊎ In more t.packet → ToldTo sent h xid inc a
      step (inl i) = record { packet = t.packet; there = i; to = t.to; beside = t.beside; reads = t.reads }
      step (inr i) = absurd (server-no-client h (sym (from.to t.packet i) ∙ t.to))

  pub gave-before : (h : ℕ) (t : DirTag) → h ≢ host → GaveUp (sent ++ more) h t → GaveUp sent h t
  gave-before h t apart g = step (in-append sent more g.packet g.there)
    where
      step : In sent g.packet ⊎ In more g.packet → GaveUp sent h t
      step (inl i) = record { packet = g.packet; there = i; sender = g.sender; beside = g.beside; no_request = g.no_request; reads = g.reads }
      step (inr i) = absurd (apart (client-same h host (sym g.sender ∙ from.sender g.packet i)))

  pub asked-before : (h : ℕ) (r : ReadDir) → h ≢ host → AskedFor (sent ++ more) h r → AskedFor sent h r
  asked-before h r apart g = step (in-append sent more g.packet g.there)
    where
      step : In sent g.packet ⊎ In more g.packet → AskedFor sent h r
      step (inl i) = record { packet = g.packet; there = i; sender = g.sender; beside = g.beside; reads = g.reads }
      step (inr i) = absurd (apart (client-same h host (sym g.sender ∙ from.sender g.packet i)))

-- the ground shifts by packets alone
pub sent-shift : (w : World) (standing : Served) (sent after : List Outer) (ran : List Event) (host : ℕ) (who : Who) (now : ℕ) (prefix : List ℕ) (tag : Tag)
    → IsServed standing → ((t : DirTag) → GaveUp after host t → t.prefix ≡ prefix → GaveUp sent host t)
    → Shift (ground w standing sent ran) (ground w standing after ran) host who now now prefix tag
sent-shift w standing sent after ran host who now prefix tag fits gave = record {
  leads = same-leads standing standing refl refl fits;
  time = omega arith;
  inc = λ e. e;
  same = λ e c. refl;
  runs = λ asked term past runs inc above r. record { short = r.short; covered = r.covered; waits = r.waits };
  gave = gave;
}

-- ---- a host has other names, and sent packets

pub record HostAfter (w : World) (standing : Served) (sent more : List Outer) (ran : List Event) (bound host : ℕ) (c : Client) (n after : Names) : Type 0 where
  pub who : after.who ≡ n.who
  pub fits : HostFits (ground w standing (sent ++ more) ran) host after c.now
  pub calls : (u : UnderWay) → c.call ≡ Some u → IsForgotten after u.call
  pub mail : SideFits (sent ++ more) host after
  pub next : after.next ≤ first_number + (bound + 1)
  pub behind : (q : Request) → after.asked ≡ Some q → (q.after < 2 ^ 32) × (length q.part.prefix ≤ 64)
  pub from : AreFrom host more
  pub besides : (p : Outer) → In more p → IsBeside standing p
  pub gave : (t : DirTag) → GaveUp (sent ++ more) host t → WasDrawn standing t.tag

module _ (w : World) (served : Served) (sides : List Names) (sent : List Outer) (ran : List Event) (bound : ℕ) (standing : Served)
    (inv : Inv w served sides sent ran bound standing) (host : ℕ) (n : Names) (mine : slice_get sides host ≡ Some n) where
  abbrev own : IsSide w standing sent ran bound host n
  own = inv.hosts host n mine

  other-side : (more : List Outer) → AreFrom host more → (h : ℕ) (m : Names) → h ≢ host → IsSide w standing sent ran bound h m
      → IsSide w standing (sent ++ more) ran (bound + 1) h m
  other-side more from h m apart s = record {
    client = s.client;
    there = s.there;
    same = s.same;
    fits = host-shifted (ground w standing sent ran) (ground w standing (sent ++ more) ran) h m s.client.now s.client.now
        (λ prefix tag claimed. sent-shift w standing sent (sent ++ more) ran h m.who s.client.now prefix tag inv.fits
        (λ t g of. gave-before host sent more from h t apart g))
        (omega arith) (λ xid a t. told-before host sent more from h xid m.who.inc a t) s.fits;
    calls = s.calls;
    mail = record {
      asked = λ r a. s.mail.asked r (asked-before host sent more from h r apart a);
      told = λ xid inc a t. s.mail.told xid inc a (told-before host sent more from h xid inc a t);
    };
    next = let k = s.next in omega arith;
    after = s.after;
  }

  pub host-inv : (more : List Outer) (after : Names) → HostAfter w standing sent more ran bound host own.client n after
      → Inv w served (slice_set sides host after) (sent ++ more) ran (bound + 1) standing
  host-inv more after k = record {
    fits = inv.fits;
    stands = inv.stands;
    time = inv.time;
    longest = inv.longest;
    boot = inv.boot;
    drawn = (let d = inv.drawn.0 in omega arith, let d = inv.drawn.1 in omega arith);
    prefixes = inv.prefixes;
    hosts = λ h m is. side h m is (h == host) refl;
    gave = λ h t g. gave h t g (h == host) refl;
    besides = λ p i alone. beside p alone (in-append sent more p i);
    inners = λ p number i is. inner p number is (in-append sent more p i);
  } where
    apart : (h : ℕ) → (h == host) ≡ false → h ≢ host
    apart h e same = let yes = number-same h host same in absurd (cc)

    side : (h : ℕ) (m : Names) → slice_get (slice_set sides host after) h ≡ Some m → (b : Bool) → (h == host) ≡ b
        → IsSide w standing (sent ++ more) ran (bound + 1) h m
    side h m is true e =
        let one : h ≡ host = same-number h host e in
        let new : m ≡ after = get-set-same sides host after m (subst (λ i. slice_get (slice_set sides host after) i ≡ Some m) one is) in
        subst (λ i. IsSide w standing (sent ++ more) ran (bound + 1) i m) (sym one)
        (subst (λ x. IsSide w standing (sent ++ more) ran (bound + 1) host x) (sym new)
        (record {
          client = own.client;
          there = own.there;
          same = own.same ∙ sym k.who;
          fits = k.fits;
          calls = k.calls;
          mail = k.mail;
          next = k.next;
          after = k.behind;
        }))
    side h m is false e =
        other-side more k.from h m (apart h e) (inv.hosts h m (sym (get-set-other sides host h after (apart h e)) ∙ is))

    gave : (h : ℕ) (t : DirTag) → GaveUp (sent ++ more) h t → (b : Bool) → (h == host) ≡ b → WasDrawn standing t.tag
    gave h t g true e = k.gave t (subst (λ i. GaveUp (sent ++ more) i t) (same-number h host e) g)
    gave h t g false e = inv.gave h t (gave-before host sent more k.from h t (apart h e) g)

    beside : (p : Outer) → p.is ≡ None → In sent p ⊎ In more p → IsBeside standing p
    beside p alone (inl i) = inv.besides p i alone
    beside p alone (inr i) = k.besides p i

    inner : (p : Outer) (number : ℕ) → p.is ≡ Some number → In sent p ⊎ In more p → IsInner w number p
    inner p number is (inl i) = inv.inners p number i is
    inner p number is (inr i) = none-some number (sym (k.from.beside p i) ∙ is)

  -- ---- nothing is sent

  silent-from : AreFrom host []
  silent-from = record { to = λ p i. absurd i; sender = λ p i. absurd i; beside = λ p i. absurd i }

  told-same : (xid inc : ℕ) (a : Answer) → ToldTo (sent ++ []) host xid inc a → ToldTo sent host xid inc a
  told-same xid inc a t = told-before host sent [] silent-from host xid inc a t

  gave-same : (t : DirTag) → GaveUp (sent ++ []) host t → GaveUp sent host t
  gave-same t g = step (in-append sent [] g.packet g.there)
    where
      step : In sent g.packet ⊎ ⊥ → GaveUp sent host t
      step (inl i) = record { packet = g.packet; there = i; sender = g.sender; beside = g.beside; no_request = g.no_request; reads = g.reads }
      step (inr i) = absurd i

  asked-same : (r : ReadDir) → AskedFor (sent ++ []) host r → AskedFor sent host r
  asked-same r g = step (in-append sent [] g.packet g.there)
    where
      step : In sent g.packet ⊎ ⊥ → AskedFor sent host r
      step (inl i) = record { packet = g.packet; there = i; sender = g.sender; beside = g.beside; reads = g.reads }
      step (inr i) = absurd i

  -- what a host has is right on the same ground
  pub grown-fits : (more : List Outer) (after : Names) → AreFrom host more
      → ((prefix : List ℕ) → IsClaimed after prefix → (t : DirTag) → GaveUp (sent ++ more) host t → t.prefix ≡ prefix → GaveUp sent host t)
      → HostFits (ground w standing sent ran) host after own.client.now → HostFits (ground w standing (sent ++ more) ran) host after own.client.now
  grown-fits more after from gave h =
      host-shifted (ground w standing sent ran) (ground w standing (sent ++ more) ran) host after own.client.now own.client.now
      (λ prefix tag claimed. sent-shift w standing sent (sent ++ more) ran host after.who own.client.now prefix tag inv.fits (gave prefix claimed))
      (omega arith) (λ xid a t. told-before host sent more from host xid after.who.inc a t) h

  -- a host that keeps what fits, or less, and sends nothing
  pub silent-inv : (after : Names) → after.who ≡ n.who → after.next ≡ n.next → HostFits (ground w standing sent ran) host after own.client.now
      → ((u : UnderWay) → own.client.call ≡ Some u → IsForgotten after u.call) → ((r : Request) → after.asked ≡ Some r → n.asked ≡ Some r)
      → Inv w served (slice_set sides host after) (sent ++ []) ran (bound + 1) standing
  silent-inv after who next fits calls asked = host-inv [] after (record {
    who = who;
    fits = grown-fits [] after silent-from (λ prefix claimed t g of. gave-same t g) fits;
    calls = calls;
    mail = record {
      asked = λ r a.
          let o = own.mail.asked r (asked-same r a) in
          record {
            who = o.who;
            inc = subst (λ x. r.who.inc ≤ x.inc) (sym who) o.inc;
            below = λ e. subst (λ x. r.xid < x) (sym next) (o.below (e ∙ ap (λ x. x.inc) who));
            mine = λ q is e same. o.mine q (asked q is) (e ∙ ap (λ x. x.inc) who) same;
            fits = o.fits;
          };
      told = λ xid inc a t.
          let o = own.mail.told xid inc a (told-same xid inc a t) in
          (subst (λ x. inc ≤ x.inc) (sym who) o.0, λ e. subst (λ x. xid < x) (sym next) (o.1 (e ∙ ap (λ x. x.inc) who)));
    };
    next = let k = own.next in omega arith;
    behind = λ q is. own.after q (asked q is);
    from = silent-from;
    besides = λ p i. absurd i;
    gave = λ t g. inv.gave host t (gave-same t g);
  })

  -- ---- a page is asked for

  pub asking-inv : IsCodec → bound ≤ most_events → own.client.who.host ≡ host → (before : Names) (r : ReadDir) (part : Request) → before.who ≡ n.who
      → before.next ≡ n.next
      → ((l : DirList) → In before.lists l → ListFits (ground w standing sent ran) host n.who own.client.now l)
      → IsAsking r → r.who ≡ n.who → r.xid ≡ n.next → r.prefix ≡ part.part.prefix → r.after ≡ part.after → part.xid ≡ n.next → part.sent ≡ own.client.now
      → PartFits (ground w standing sent ran) host n.who own.client.now part part.part.lease
      → ((u : UnderWay) → own.client.call ≡ Some u → IsForgotten (record before { next = number_after n.next; asked = Some part }) u.call)
      → Inv w served (slice_set sides host (record before { next = number_after n.next; asked = Some part }))
      (sent ++ beside (Party.Client host) Party.Server (read_dir_bytes r) ∷ []) ran (bound + 1) standing
  asking-inv codec short here before r part who next lists fits r_who r_xid r_prefix r_after xid at has calls = host-inv (p ∷ []) after (record {
    who = who;
    fits = grown-fits (p ∷ []) after from (λ prefix claimed t g of. gave t g) (record {
      lists = λ l i. subst (λ x. ListFits (ground w standing sent ran) host x own.client.now l) (sym who) (lists l i);
      part = λ q is. subst (λ x. (x.sent ≤ own.client.now) × PartFits (ground w standing sent ran) host before.who own.client.now x x.part.lease)
          (some-same part q is)
          (omega arith, subst (λ x. PartFits (ground w standing sent ran) host x own.client.now part part.part.lease) (sym who) has);
      pages = λ q l g is t grant reads. absurd (untold q (page l) is t);
    });
    calls = calls;
    mail = record {
      asked = λ q a. own-asked q a;
      told = λ x inc a t.
          let o = own.mail.told x inc a (told-before host sent (p ∷ []) from host x inc a t) in (
            subst (λ y. inc ≤ y.inc) (sym who) o.0,
            λ e. let k = o.1 (e ∙ ap (λ y. y.inc) who) in let one = one-more in omega arith,
          );
    };
    next = let k = own.next in let one = one-more in omega arith;
    behind = λ q is. subst (λ x. (x.after < 2 ^ 32) × (length x.part.prefix ≤ 64)) (some-same part q is)
        (subst (λ x. x < 2 ^ 32) r_after fits.after, subst (λ x. length x ≤ 64) r_prefix fits.prefix);
    from = from;
    besides = λ q i. of-packet q i;
    gave = λ t g. inv.gave host t (gave t g);
  }) where
    p : Outer
    p = beside (Party.Client host) Party.Server (read_dir_bytes r)

    after : Names
    after = record before { next = number_after n.next; asked = Some part }

    one-more : number_after n.next ≡ n.next + 1
    one-more = let k = own.next in omega arith

    from : AreFrom host (p ∷ [])
    from = record { to = λ q i. to q i; sender = λ q i. sender q i; beside = λ q i. alone q i }
      where
        to : (q : Outer) → (beside (Party.Client host) Party.Server (read_dir_bytes r) ≡ q) ⊎ ⊥ → q.to ≡ Party.Server
        to q (inl e) = ap (λ x. x.to) (sym e)
        to q (inr bad) = absurd bad

        sender : (q : Outer) → (beside (Party.Client host) Party.Server (read_dir_bytes r) ≡ q) ⊎ ⊥ → q.sender ≡ Party.Client host
        sender q (inl e) = ap (λ x. x.sender) (sym e)
        sender q (inr bad) = absurd bad

        alone : (q : Outer) → (beside (Party.Client host) Party.Server (read_dir_bytes r) ≡ q) ⊎ ⊥ → q.is ≡ None
        alone q (inl e) = ap (λ x. x.is) (sym e)
        alone q (inr bad) = absurd bad

    of-packet : (q : Outer) → (p ≡ q) ⊎ ⊥ → IsBeside standing q
    of-packet q (inl e) = IsBeside.asking host r fits (ap (λ x. x.host) r_who ∙ ap (λ x. x.host) (sym own.same) ∙ here) (sym e)
    of-packet q (inr bad) = absurd bad

    read : IsRead r
    read = codec.asks r fits

    -- the new packet is a request, and gives nothing up
    gave : (t : DirTag) → GaveUp (sent ++ p ∷ []) host t → GaveUp sent host t
    gave t g = step (in-append sent (p ∷ []) g.packet g.there)
      where
        new : (q : Outer) → (p ≡ q) ⊎ ⊥ → read_dir_in q.bytes ≡ None → ⊥
        new q (inl e) none = let bad = sym (ap (λ x. read_dir_in x.bytes) e ∙ none) ∙ read.reads in absurd (cc)
        new q (inr bad) none = bad

        step : In sent g.packet ⊎ ((p ≡ g.packet) ⊎ ⊥) → GaveUp sent host t
        step (inl i) = record { packet = g.packet; there = i; sender = g.sender; beside = g.beside; no_request = g.no_request; reads = g.reads }
        step (inr i) = absurd (new g.packet i g.no_request)

    untold : (q : Request) (a : Answer) → Some part ≡ Some q → ToldTo sent host q.xid before.who.inc a → ⊥
    untold q a is t =
        let o = own.mail.told q.xid before.who.inc a t in
        let low = o.1 (ap (λ y. y.inc) who) in
        let number : part.xid ≡ q.xid = ap (λ x. x.xid) (some-same part q is) in
        omega arith

    older : (q : ReadDir) → IsOwn host n q → IsOwn host after q
    older q o = record {
      who = o.who;
      inc = subst (λ x. q.who.inc ≤ x.inc) (sym who) o.inc;
      below = λ e. let low = o.below (e ∙ ap (λ x. x.inc) who) in let one = one-more in omega arith;
      mine = λ x is e same.
          let low = o.below (e ∙ ap (λ y. y.inc) who) in
          let number : part.xid ≡ x.xid = ap (λ y. y.xid) (some-same part x is) in
          absurd (omega arith);
      fits = o.fits;
    }

    newer : (q : ReadDir) → record r { term = read.term } ≡ q → IsOwn host after q
    newer q one = subst (IsOwn host after) one (record {
      who = ap (λ x. x.host) r_who ∙ ap (λ x. x.host) (sym own.same) ∙ here;
      inc = let same : r.who.inc ≡ before.who.inc = ap (λ x. x.inc) (r_who ∙ sym who) in omega arith;
      below = λ e. let one = one-more in omega arith;
      mine = λ x is e same.
          let which = some-same part x is in
          (r_prefix ∙ ap (λ y. y.part.prefix) which, r_after ∙ ap (λ y. y.after) which);
      fits = read.fits;
    })

    own-asked : (q : ReadDir) → AskedFor (sent ++ p ∷ []) host q → IsOwn host after q
    own-asked q a = step (in-append sent (p ∷ []) a.packet a.there)
      where
        new : (x : Outer) → (p ≡ x) ⊎ ⊥ → read_dir_in x.bytes ≡ Some q → IsOwn host after q
        new x (inl e) reads = newer q (some-same (record r { term = read.term }) q (sym read.reads ∙ ap (λ y. read_dir_in y.bytes) e ∙ reads))
        new x (inr bad) reads = absurd bad

        step : In sent a.packet ⊎ ((p ≡ a.packet) ⊎ ⊥) → IsOwn host after q
        step (inl i) = older q (own.mail.asked q (record { packet = a.packet; there = i; sender = a.sender; beside = a.beside; reads = a.reads }))
        step (inr i) = new a.packet i a.reads
