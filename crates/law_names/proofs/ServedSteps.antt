-- The server's side of leased directories moves: what holds of every outer world is kept.
use Rattle.std.proofs.Common.{◌≡◌, ◌<◌, ◌≤◌, ◌⊎◌, ℕ, ◌+◌, true, List, ◌++◌, Some, None, length, refl, sym, ◌∙◌, arith, inl, inr}
use Rattle.std.specs.Prelude.{slice_get}
use Rattle.nq_base.specs.declared.Event.{Event}
use Rattle.nq_base.specs.declared.Grant.{Grant}
use Rattle.nq_base.specs.declared.Party.{Party}
use Rattle.nq_base.specs.declared.Tag.{Tag}
use Rattle.nq_directory.specs.declared.listing.messages.DirTag.{DirTag}
use Rattle.nq_directory.specs.declared.listing.messages.ReadDir.{ReadDir}
use Rattle.nq_directory.specs.Messages.{Answer, Listing, page}
use Rattle.nq_model.specs.protocol.Kept.{host_row}
use Rattle.nq_model.specs.laws.LeaseInterval.{cover_end}
use Rattle.nq_model.specs.protocol.Table.{tag_below}
use Rattle.nq_model.specs.protocol.World.{World}
use Rattle.nq_directory.specs.Asking.{is_reading}
use Rattle.nq_directory.specs.NameCacheNames.{Names, Request}
use Rattle.nq_name_server.specs.Served.{Served}
use Rattle.nq_name_server.specs.Outer.{Outer}
use Rattle.walk_steps.proofs.ClientMoves.{none-some}
use Rattle.walk_steps.proofs.Packets.{In, in-append}
use Rattle.law_names.proofs.Chains.{HasFit, Leads, WasDrawn}
use Rattle.law_names.proofs.Claims.{AskedFor, GaveUp, PageFits, Shift, ToldTo, list-shifted, page-shifted, part-shifted}
use Rattle.law_names.proofs.OuterFits.{Inv, IsBeside, IsInner, IsSide, Stands, asking, giving, ground, noticing, telling}

-- packets that the server's side sends beside those of the inner world
pub record AreServed (more : List Outer) : Type 0 where
  pub sender : (p : Outer) → In more p → p.sender ≡ Party.Server
  pub beside : (p : Outer) → In more p → p.is ≡ None

client-no-server : (host : ℕ) → Party.Client host ≡ Party.Server → ⊥
client-no-server host e = cc

module _ (sent more : List Outer) (from : AreServed more) where
  pub gave-served : (h : ℕ) (t : DirTag) → GaveUp (sent ++ more) h t → GaveUp sent h t
  gave-served h t g = step (in-append sent more g.packet g.there)
    where
      step : In sent g.packet ⊎ In more g.packet → GaveUp sent h t
      step (inl i) = record { packet = g.packet; there = i; sender = g.sender; beside = g.beside; no_request = g.no_request; reads = g.reads }
      step (inr i) = absurd (client-no-server h (sym g.sender ∙ from.sender g.packet i))

  asked-served : (h : ℕ) (r : ReadDir) → AskedFor (sent ++ more) h r → AskedFor sent h r
  asked-served h r g = step (in-append sent more g.packet g.there)
    where
      step : In sent g.packet ⊎ In more g.packet → AskedFor sent h r
      step (inl i) = record { packet = g.packet; there = i; sender = g.sender; beside = g.beside; reads = g.reads }
      step (inr i) = absurd (client-no-server h (sym g.sender ∙ from.sender g.packet i))

-- a packet beside the others stays one where more tags are drawn
pub beside-on : (standing after : Served) → ((tag : Tag) → WasDrawn standing tag → WasDrawn after tag) → (p : Outer) → IsBeside standing p → IsBeside after p
beside-on standing after grows p (asking host r fits who is) = asking host r fits who is
beside-on standing after grows p (giving host t fits drawn is) = giving host t fits (grows t.tag drawn) is
beside-on standing after grows p (telling host xid inc a low small fits is) = telling host xid inc a low small fits is
beside-on standing after grows p (noticing host t fits drawn is) = noticing host t fits (grows t.tag drawn) is

-- ---- a step of the server's side

pub record ServedAfter (w : World) (standing after now : Served) (sides : List Names) (sent more : List Outer) (ran : List Event) (bound : ℕ) : Type 0 where
  pub stands : Stands w.server.phase now after
  pub leads : Leads standing after
  pub longest : now.longest ≡ w.server.longest
  pub time : now.time ≡ w.server.now
  pub boot : now.table.boot ≡ w.server.kept.boot
  pub drawn : (after.table.drawn ≤ bound + 1) × (now.table.drawn ≤ bound + 1)
  pub prefixes : (prefix : List ℕ) → In after.directories prefix → length prefix ≤ 64
  -- a claim of an attached incarnation stays covered
  pub fit : (host : ℕ) (n : Names) → slice_get sides host ≡ Some n → n.who.host ≡ host → (prefix : List ℕ) (tag : Tag) (end : ℕ)
      → (host_row w.server.kept host).inc ≡ n.who.inc
      → ((t : DirTag) → GaveUp sent host t → t.who.inc ≡ n.who.inc → t.prefix ≡ prefix → tag_below t.tag tag ≡ true)
      → HasFit standing prefix n.who tag end → HasFit after prefix n.who tag end
  pub from : AreServed more
  pub besides : (p : Outer) → In more p → IsBeside after p
  -- what is told is told to a request of that host
  pub told : (host xid inc : ℕ) (a : Answer) → ToldTo more host xid inc a → (r : ReadDir) × AskedFor sent host r × (r.xid ≡ xid) × (r.who.inc ≡ inc)
  pub pages : (host : ℕ) (n : Names) → slice_get sides host ≡ Some n → (s : IsSide w standing sent ran bound host n) → (r : Request) (l : Listing)
      (g : Grant) → n.asked ≡ Some r
      → ToldTo more host r.xid n.who.inc (page l) → l.grant ≡ Some g → is_reading g.mode ≡ true
      → PageFits (ground w after (sent ++ more) ran) host n.who s.client.now r l g

module _ (w : World) (served : Served) (sides : List Names) (sent : List Outer) (ran : List Event) (bound : ℕ) (standing : Served)
    (inv : Inv w served sides sent ran bound standing)
    (here : (host : ℕ) (n : Names) → slice_get sides host ≡ Some n → n.who.host ≡ host) where
  pub served-inv : (more : List Outer) (after now : Served) → ServedAfter w standing after now sides sent more ran bound
      → Inv w now sides (sent ++ more) ran (bound + 1) after
  served-inv more after now k = record {
    fits = k.leads.fits;
    stands = k.stands;
    time = k.time;
    longest = k.longest;
    boot = k.boot;
    drawn = k.drawn;
    prefixes = k.prefixes;
    hosts = λ host n is. side host n is (inv.hosts host n is);
    gave = λ host t g. k.leads.drawn t.tag (inv.gave host t (gave-served sent more k.from host t g));
    besides = λ p i alone. beside p alone (in-append sent more p i);
    inners = λ p number i is. inner p number is (in-append sent more p i);
  } where
    beside : (p : Outer) → p.is ≡ None → In sent p ⊎ In more p → IsBeside after p
    beside p alone (inl i) = beside-on standing after k.leads.drawn p (inv.besides p i alone)
    beside p alone (inr i) = k.besides p i

    inner : (p : Outer) (number : ℕ) → p.is ≡ Some number → In sent p ⊎ In more p → IsInner w number p
    inner p number is (inl i) = inv.inners p number i is
    inner p number is (inr i) = none-some number (sym (k.from.beside p i) ∙ is)

    either-told : (host xid inc : ℕ) (a : Answer) → ToldTo (sent ++ more) host xid inc a → ToldTo sent host xid inc a ⊎ ToldTo more host xid inc a
    either-told host xid inc a t = step (in-append sent more t.packet t.there)
      where
        step : In sent t.packet ⊎ In more t.packet → ToldTo sent host xid inc a ⊎ ToldTo more host xid inc a
        step (inl i) = inl (record { packet = t.packet; there = i; to = t.to; beside = t.beside; reads = t.reads })
        step (inr i) = inr (record { packet = t.packet; there = i; to = t.to; beside = t.beside; reads = t.reads })

    shift : (host : ℕ) (n : Names) → slice_get sides host ≡ Some n → (clock : ℕ) (prefix : List ℕ) (tag : Tag)
        → Shift (ground w standing sent ran) (ground w after (sent ++ more) ran) host n.who clock clock prefix tag
    shift host n is clock prefix tag = record {
      leads = k.leads;
      time = omega arith;
      inc = λ e. e;
      same = λ e c. refl;
      runs = λ asked term past runs inc above r. record {
        short = r.short;
        covered = k.fit host n is (here host n is) prefix tag (cover_end host asked term ran) inc above r.covered;
        waits = r.waits;
      };
      gave = λ t g of. gave-served sent more k.from host t g;
    }

    -- a host on the same ground but for what it is told now
    side : (host : ℕ) (n : Names) → slice_get sides host ≡ Some n → IsSide w standing sent ran bound host n → IsSide w after (sent ++ more) ran
        (bound + 1) host n
    side host n is s = record {
      client = s.client;
      there = s.there;
      same = s.same;
      fits = record {
        lists = λ l i.
            list-shifted (ground w standing sent ran) (ground w after (sent ++ more) ran) host n.who s.client.now s.client.now l
            (λ tag. shift host n is s.client.now l.prefix tag) (s.fits.lists l i);
        part = λ r a.
            let p = s.fits.part r a in (
              p.0,
              part-shifted (ground w standing sent ran) (ground w after (sent ++ more) ran) host n.who s.client.now s.client.now r
                  (λ tag. shift host n is s.client.now r.part.prefix tag) r.part.lease p.1,
            );
        pages = λ r l g a t has reads. pages r l g a has reads (either-told host r.xid n.who.inc (page l) t);
      };
      calls = s.calls;
      mail = record {
        asked = λ r a. s.mail.asked r (asked-served sent more k.from host r a);
        told = λ xid inc a t. told xid inc a (either-told host xid inc a t);
      };
      next = let x = s.next in omega arith;
      after = s.after;
    } where
      pages : (r : Request) (l : Listing) (g : Grant) → n.asked ≡ Some r → l.grant ≡ Some g → is_reading g.mode ≡ true
          → ToldTo sent host r.xid n.who.inc (page l) ⊎ ToldTo more host r.xid n.who.inc (page l)
          → PageFits (ground w after (sent ++ more) ran) host n.who s.client.now r l g
      pages r l g a has reads (inl t) =
          page-shifted (ground w standing sent ran) (ground w after (sent ++ more) ran) host n.who s.client.now s.client.now r l g
          (shift host n is s.client.now r.part.prefix g.tag) (s.fits.pages r l g a t has reads)
      pages r l g a has reads (inr t) = k.pages host n is s r l g a t has reads

      told : (xid inc : ℕ) (a : Answer) → ToldTo sent host xid inc a ⊎ ToldTo more host xid inc a → (inc ≤ n.who.inc) × (inc ≡ n.who.inc → xid < n.next)
      told xid inc a (inl t) = s.mail.told xid inc a t
      told xid inc a (inr t) =
          let q = k.told host xid inc a t in
          let o = s.mail.asked q.0 q.1 in
          let i = o.inc in
          let one : q.0.who.inc ≡ inc = q.3 in
          (omega arith, λ e. let low = o.below (one ∙ e) in let number : q.0.xid ≡ xid = q.2 in omega arith)
