-- An event of the inner world: what holds of every outer world is kept, where each host's claims shift with it.
use Rattle.std.proofs.Common.{◌≡◌, ◌<◌, ◌≤◌, ◌⊎◌, ℕ, ◌+◌, List, [], ◌++◌, Some, None, length, sym, subst, ap, ◌∙◌, arith, inl, inr}
use Rattle.std.specs.Prelude.{slice_get}
use Rattle.nq_base.specs.declared.Event.{Event}
use Rattle.nq_base.specs.declared.Tag.{Tag}
use Rattle.nq_directory.specs.declared.listing.messages.DirTag.{DirTag}
use Rattle.nq_directory.specs.declared.listing.messages.ReadDir.{ReadDir}
use Rattle.nq_directory.specs.Messages.{Answer}
use Rattle.nq_model.specs.protocol.Client.{Client, UnderWay}
use Rattle.nq_model.specs.protocol.World.{World}
use Rattle.nq_directory.specs.NameCacheNames.{Names, first_number}
use Rattle.nq_name_server.specs.Served.{Served}
use Rattle.nq_name_server.specs.Outer.{Outer}
use Rattle.walk_steps.proofs.ClientMoves.{none-some, some-same}
use Rattle.walk_steps.proofs.Packets.{In, in-append}
use Rattle.law_names.proofs.Chains.{IsServed, WasDrawn}
use Rattle.law_names.proofs.Claims.{AskedFor, GaveUp, HostFits, IsClaimed, IsForgotten, Shift, ToldTo, host-shifted}
use Rattle.law_names.proofs.HostMoves.{KeepsFewer, fewer-fits, no-names}
use Rattle.law_names.proofs.OuterFits.{Inv, IsInner, IsSide, Stands, ground}
use Rattle.law_names.proofs.HostSteps.{sent-shift}
use Rattle.law_names.proofs.ServedSteps.{beside-on}

-- packets of the inner world
abbrev pub AreInner : World → List Outer → Type 0
AreInner w more = (p : Outer) → In more p → (number : ℕ) × (p.is ≡ Some number) × IsInner w number p

module _ (w : World) (sent more : List Outer) (inner : AreInner w more) where
  lone : (p : Outer) → p.is ≡ None → In sent p ⊎ In more p → In sent p
  lone p alone (inl i) = i
  lone p alone (inr i) = let k = inner p i in none-some k.0 (sym alone ∙ k.1)

  told-old : (h xid inc : ℕ) (a : Answer) → ToldTo (sent ++ more) h xid inc a → ToldTo sent h xid inc a
  told-old h xid inc a t = record {
    packet = t.packet;
    there = lone t.packet t.beside (in-append sent more t.packet t.there);
    to = t.to;
    beside = t.beside;
    reads = t.reads;
  }

  gave-old : (h : ℕ) (t : DirTag) → GaveUp (sent ++ more) h t → GaveUp sent h t
  gave-old h t g = record {
    packet = g.packet;
    there = lone g.packet g.beside (in-append sent more g.packet g.there);
    sender = g.sender;
    beside = g.beside;
    no_request = g.no_request;
    reads = g.reads;
  }

  asked-old : (h : ℕ) (r : ReadDir) → AskedFor (sent ++ more) h r → AskedFor sent h r
  asked-old h r g = record {
    packet = g.packet;
    there = lone g.packet g.beside (in-append sent more g.packet g.there);
    sender = g.sender;
    beside = g.beside;
    reads = g.reads;
  }

-- what a host has after the event: nothing, since it started again, or no more than before, and its claims shift
pub data HostGoes (w after : World) (standing later : Served) (sides : List Names) (sent : List Outer) (ran next : List Event) (host : ℕ)
    (n : Names) : Type 0 where
  anew : (old : Names) (c : Client) → slice_get sides host ≡ Some old → slice_get after.clients host ≡ Some c → n.lists ≡ [] → n.asked ≡ None
      → n.next ≡ first_number → c.who ≡ n.who → old.who.inc < n.who.inc → c.call ≡ None → HostGoes w after standing later sides sent ran next host n
  goes : (old : Names) (c d : Client) → slice_get sides host ≡ Some old → slice_get w.clients host ≡ Some c → slice_get after.clients host ≡ Some d
      → KeepsFewer old n → n.next ≡ old.next → d.who ≡ c.who → c.now ≤ d.now
      → ((prefix : List ℕ) (tag : Tag) → IsClaimed n prefix
      → Shift (ground w standing sent ran) (ground after later sent next) host n.who c.now d.now prefix tag)
      → ((u : UnderWay) → d.call ≡ Some u → IsForgotten n u.call) → HostGoes w after standing later sides sent ran next host n

pub record InnerAfter (w after : World) (standing later : Served) (served : Served) (sides names : List Names) (sent more : List Outer) (ran next : List Event)
    (bound : ℕ) : Type 0 where
  pub fits : IsServed later
  pub stands : Stands after.server.phase served later
  pub time : served.time ≡ after.server.now
  pub longest : served.longest ≡ after.server.longest
  pub boot : served.table.boot ≡ after.server.kept.boot
  pub drawn : (later.table.drawn ≤ bound + 1) × (served.table.drawn ≤ bound + 1)
  pub prefixes : (prefix : List ℕ) → In later.directories prefix → length prefix ≤ 64
  pub grows : (tag : Tag) → WasDrawn standing tag → WasDrawn later tag
  pub hosts : (host : ℕ) (n : Names) → slice_get names host ≡ Some n → HostGoes w after standing later sides sent ran next host n
  pub inner : AreInner after more
  pub stays : (number : ℕ) (p : Outer) → IsInner w number p → IsInner after number p

module _ (w : World) (served : Served) (sides : List Names) (sent : List Outer) (ran : List Event) (bound : ℕ) (standing : Served)
    (inv : Inv w served sides sent ran bound standing) (after : World) (later now : Served) (names : List Names) (more : List Outer) (next : List Event)
    (k : InnerAfter w after standing later now sides names sent more ran next bound) where
  -- the same packets beside
  ground-on : (host : ℕ) (n : Names) (time : ℕ) → HostFits (ground after later sent next) host n time
      → HostFits (ground after later (sent ++ more) next) host n time
  ground-on host n time h =
      host-shifted (ground after later sent next) (ground after later (sent ++ more) next) host n time time
      (λ prefix tag claimed. sent-shift after later sent (sent ++ more) next host n.who time prefix tag k.fits
      (λ t g of. gave-old after sent more k.inner host t g)) (omega arith)
      (λ xid a t. told-old after sent more k.inner host xid n.who.inc a t) h

  side : (host : ℕ) (n : Names) → HostGoes w after standing later sides sent ran next host n → IsSide after later (sent ++ more) next (bound + 1) host n
  side host n (anew old c before there lists asked number same later-inc idle) =
      let o = inv.hosts host old before in
      record {
        client = c;
        there = there;
        same = same;
        fits = no-names _ host c.now n lists asked;
        calls = λ u is. none-some u (sym idle ∙ is);
        mail = record {
          asked = λ r a.
              let x = o.mail.asked r (asked-old after sent more k.inner host r a) in
              let i = x.inc in
              record {
                who = x.who;
                inc = omega arith;
                below = λ e. absurd (omega arith);
                mine = λ q is. none-some q (sym asked ∙ is);
                fits = x.fits;
              };
          told = λ xid inc a t.
              let x = o.mail.told xid inc a (told-old after sent more k.inner host xid inc a t) in
              let i = x.0 in
              (omega arith, λ e. absurd (omega arith));
        };
        next = omega arith;
        after = λ q is. none-some q (sym asked ∙ is);
      }
  side host n (goes old c d before was there fewer number same time shift calls) =
      let o = inv.hosts host old before in
      let one : o.client ≡ c = some-same o.client c (sym o.there ∙ was) in
      let held : HostFits (ground w standing sent ran) host n c.now =
      fewer-fits (ground w standing sent ran) host c.now old n fewer (subst (λ x. HostFits (ground w standing sent ran) host old x.now) one o.fits) in
      record {
        client = d;
        there = there;
        same = same ∙ sym (ap (λ x. x.who) one) ∙ o.same ∙ sym fewer.who;
        fits = ground-on host n d.now (host-shifted (ground w standing sent ran) (ground after later sent next) host n c.now d.now shift time
            (λ xid a t. t) held);
        calls = calls;
        mail = record {
          asked = λ r a.
              let x = o.mail.asked r (asked-old after sent more k.inner host r a) in
              record {
                who = x.who;
                inc = subst (λ y. r.who.inc ≤ y.inc) (sym fewer.who) x.inc;
                below = λ e. subst (λ y. r.xid < y) (sym number) (x.below (e ∙ ap (λ y. y.inc) fewer.who));
                mine = λ q is e f. x.mine q (fewer.asked q is) (e ∙ ap (λ y. y.inc) fewer.who) f;
                fits = x.fits;
              };
          told = λ xid inc a t.
              let x = o.mail.told xid inc a (told-old after sent more k.inner host xid inc a t) in
              (subst (λ y. inc ≤ y.inc) (sym fewer.who) x.0, λ e. subst (λ y. xid < y) (sym number) (x.1 (e ∙ ap (λ y. y.inc) fewer.who)));
        };
        next = let low = o.next in omega arith;
        after = λ q is. o.after q (fewer.asked q is);
      }

  pub inner-inv : Inv after now names (sent ++ more) next (bound + 1) later
  inner-inv = record {
    fits = k.fits;
    stands = k.stands;
    time = k.time;
    longest = k.longest;
    boot = k.boot;
    drawn = k.drawn;
    prefixes = k.prefixes;
    hosts = λ host n is. side host n (k.hosts host n is);
    gave = λ host t g. k.grows t.tag (inv.gave host t (gave-old after sent more k.inner host t g));
    besides = λ p i alone. beside-on standing later k.grows p (inv.besides p (lone after sent more k.inner p alone (in-append sent more p i)) alone);
    inners = λ p number i is. inner p number is (in-append sent more p i);
  } where
    inner : (p : Outer) (number : ℕ) → p.is ≡ Some number → In sent p ⊎ In more p → IsInner after number p
    inner p number is (inl i) = k.stays number p (inv.inners p number i is)
    inner p number is (inr i) =
        let x = k.inner p i in
        subst (λ m. IsInner after m p) (some-same x.0 number (sym x.1 ∙ is)) x.2
