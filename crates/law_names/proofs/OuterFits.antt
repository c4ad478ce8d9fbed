-- What holds of every outer world, and what a host finds by it.
use Rattle.std.proofs.Common.{◌≡◌, ◌≢◌, ◌<◌, ◌≤◌, ◌^◌, ℕ, ◌+◌, ◌-◌, Bool, true, false, List, [], Option, Some, None, length, refl, sym, subst, ap, ◌∙◌, arith}
use Rattle.std.specs.Prelude.{slice_get}
use Rattle.std.proofs.lemmas.Bool.Decides.{nat_tests}
use Rattle.nq_base.specs.declared.Event.{Event}
use Rattle.nq_base.specs.declared.Party.{Party}
use Rattle.nq_directory.specs.Names.{named}
use Rattle.nq_directory.specs.Prefix.{directory}
use Rattle.nq_directory.proofs.Called.{same-name}
use Rattle.nq_directory.specs.declared.listing.messages.DirTag.{DirTag}
use Rattle.nq_directory.specs.declared.listing.messages.ReadDir.{ReadDir}
use Rattle.nq_directory.specs.Messages.{Answer, IsReadDir, answer_bytes, dir_evicted_bytes, dir_vacated_bytes, read_dir_bytes}
use Rattle.nq_model.proofs.Finding.{find-passes}
use Rattle.nq_model.specs.protocol.Client.{Client, Lease, UnderWay, is_live}
use Rattle.nq_model.specs.protocol.Kept.{File, find_name}
use Rattle.nq_model.specs.laws.LeaseInterval.{cover_end}
use Rattle.nq_model.specs.protocol.Message.{Packet}
use Rattle.nq_model.specs.protocol.Profile.{same_bytes}
use Rattle.nq_model.specs.protocol.Server.{Phase, serving, recovering}
use Rattle.nq_model.specs.protocol.World.{World}
use Rattle.nq_client_parts.specs.HoldingLeases.{passes}
use Rattle.nq_directory.specs.declared.name_cache.found.Found.{Found}
use Rattle.nq_directory.specs.NameCacheNames.{DirList, Names, Request, first_number, found_as, found_in, list_of}
use Rattle.nq_name_server.specs.Served.{Served}
use Rattle.nq_name_server.specs.Lasting.{IsCovered, IsLive, Lasts, id_of}
use Rattle.nq_name_server.specs.Outer.{Outer, Outside}
use Rattle.nq_name_server.specs.Outside.{beside, found_by, inside}
use Rattle.nq_name_server.specs.Theorem.{FindsWhatIsKept, kept_as}
use Rattle.walk_steps.proofs.Packets.{In}
use Rattle.law_names.proofs.Chains.{HasFit, IsServed, WasDrawn, fit-chains}
use Rattle.law_names.proofs.Claims.{AskedFor, GaveUp, Ground, HostFits, IsForgotten, ListFits, Outlasts, ToldTo}
use Rattle.law_names.proofs.Codec.{IsAsking, IsNoticing, IsTold}
use Rattle.law_names.proofs.Pages.{IsWhole}
use Rattle.law_names.proofs.ServedMoves.{found-in}

-- ---- packets

-- a packet beside those of the inner world is one of four
pub data IsBeside (standing : Served) (p : Outer) : Type 0 where
  asking : (host : ℕ) (r : ReadDir) → IsAsking r → r.who.host ≡ host → p ≡ beside (Party.Client host) Party.Server (read_dir_bytes r) → IsBeside standing p
  giving : (host : ℕ) (t : DirTag) → IsNoticing t → WasDrawn standing t.tag → p ≡ beside (Party.Client host) Party.Server (dir_vacated_bytes t)
      → IsBeside standing p
  telling : (host xid inc : ℕ) (a : Answer) → xid < 2 ^ 32 → inc < 2 ^ 32 → IsTold a → p ≡ beside Party.Server (Party.Client host) (answer_bytes xid inc a)
      → IsBeside standing p
  noticing : (host : ℕ) (t : DirTag) → IsNoticing t → WasDrawn standing t.tag → p ≡ beside Party.Server (Party.Client host) (dir_evicted_bytes t)
      → IsBeside standing p

-- a packet is one of the inner world
pub record IsInner (w : World) (number : ℕ) (p : Outer) : Type 0 where
  pub packet : Packet
  pub there : slice_get w.packets number ≡ Some packet
  pub is : p ≡ inside number packet

-- ---- one host

-- what a host asked for
pub record IsOwn (host : ℕ) (n : Names) (r : ReadDir) : Type 0 where
  pub who : r.who.host ≡ host
  pub inc : r.who.inc ≤ n.who.inc
  pub below : r.who.inc ≡ n.who.inc → r.xid < n.next
  pub mine : (q : Request) → n.asked ≡ Some q → r.who.inc ≡ n.who.inc → r.xid ≡ q.xid → (r.prefix ≡ q.part.prefix) × (r.after ≡ q.after)
  pub fits : IsReadDir r

-- the mail of a host
pub record SideFits (sent : List Outer) (host : ℕ) (n : Names) : Type 0 where
  pub asked : (r : ReadDir) → AskedFor sent host r → IsOwn host n r
  pub told : (xid inc : ℕ) (a : Answer) → ToldTo sent host xid inc a → (inc ≤ n.who.inc) × (inc ≡ n.who.inc → xid < n.next)

abbrev pub ground : World → Served → List Outer → List Event → Ground
ground w standing sent ran = record { served = standing; kept = w.server.kept; phase = w.server.phase; ran = ran; sent = sent }

pub record IsSide (w : World) (standing : Served) (sent : List Outer) (ran : List Event) (bound host : ℕ) (n : Names) : Type 0 where
  pub client : Client
  pub there : slice_get w.clients host ≡ Some client
  pub same : client.who ≡ n.who
  pub fits : HostFits (ground w standing sent ran) host n client.now
  pub calls : (u : UnderWay) → client.call ≡ Some u → IsForgotten n u.call
  pub mail : SideFits sent host n
  pub next : n.next ≤ first_number + bound
  pub after : (q : Request) → n.asked ≡ Some q → (q.after < 2 ^ 32) × (length q.part.prefix ≤ 64)

-- ---- the whole

-- the leases that stand: those of the boot that serves, or those of the last one, where none was granted since
pub record IsNew (now standing : Served) : Type 0 where
  pub rows : now.table.rows ≡ []
  pub directories : now.directories ≡ []
  pub earlier : standing.table.boot < now.table.boot

abbrev pub Stands : Phase → (now standing : Served) → Type 0
Stands serving now standing = standing ≡ now
Stands (recovering until heard last) now standing = IsNew now standing

pub record Inv (w : World) (served : Served) (sides : List Names) (sent : List Outer) (ran : List Event) (bound : ℕ) (standing : Served) : Type 0 where
  pub fits : IsServed standing
  pub stands : Stands w.server.phase served standing
  pub time : served.time ≡ w.server.now
  pub longest : served.longest ≡ w.server.longest
  pub boot : served.table.boot ≡ w.server.kept.boot
  pub drawn : (standing.table.drawn ≤ bound) × (served.table.drawn ≤ bound)
  pub prefixes : (prefix : List ℕ) → In standing.directories prefix → length prefix ≤ 64
  pub hosts : (host : ℕ) (n : Names) → slice_get sides host ≡ Some n → IsSide w standing sent ran bound host n
  pub gave : (host : ℕ) (t : DirTag) → GaveUp sent host t → WasDrawn standing t.tag
  pub besides : (p : Outer) → In sent p → p.is ≡ None → IsBeside standing p
  pub inners : (p : Outer) (number : ℕ) → In sent p → p.is ≡ Some number → IsInner w number p

-- so it is of an outer world
abbrev pub InvOf : Outside → (bound : ℕ) → Served → Type 0
InvOf o bound standing = Inv o.world o.served o.sides o.sent o.ran bound standing

-- ---- what is found

kept-found : (o : Option File) → found_as (id_of o) ≡ kept_as o
kept-found None = refl
kept-found (Some f) = refl

module _ (o : Outside) (bound : ℕ) (standing : Served) (inv : InvOf o bound standing) (host : ℕ) (name : List ℕ) where
  of-list : (n : Names) (now : ℕ) (l : DirList) → ListFits (ground o.world standing o.sent o.ran) host n.who now l → l.prefix ≡ directory name
      → found_in name now (Some l) ≢ Found.Unknown → found_in name now (Some l) ≡ kept_as (find_name name o.world.server.kept.files)
  of-list n now l f of known = by (is_live now f.lease) refl
    where
      live : passes (is_live now) l.lease ≡ is_live now f.lease
      live = ap (passes (is_live now)) f.has

      by : (b : Bool) → is_live now f.lease ≡ b → found_in name now (Some l) ≡ kept_as (find_name name o.world.server.kept.files)
      by false e =
          let no : passes (is_live now) l.lease ≡ false = live ∙ e in
          absurd (known (rw no refl))
      by true e =
          let yes : passes (is_live now) l.lease ≡ true = live ∙ e in
          let expires = f.expires in
          let runs : now < f.lease.expiry = grind (arith, nat_tests) in
          let right : IsWhole l.prefix l.names o.world.server.kept.files =
          f.good.right (fit-chains standing l.prefix n.who f.lease.tag _ (f.good.covered (omega arith))) in
          rw yes (ap found_as (right name (sym of)) ∙ kept-found (find_name name o.world.server.kept.files))

  of-lists : (n : Names) (now : ℕ) → HostFits (ground o.world standing o.sent o.ran) host n now → (l : Option DirList) → list_of (directory name) n.lists ≡ l
      → found_in name now l ≢ Found.Unknown → found_in name now l ≡ kept_as (find_name name o.world.server.kept.files)
  of-lists n now h None e known = absurd (known refl)
  of-lists n now h (Some l) e known =
      of-list n now l (h.lists l (found-in (λ x. same_bytes x.prefix (directory name)) l n.lists e))
      (same-name l.prefix (directory name) (find-passes (λ x. same_bytes x.prefix (directory name)) l n.lists e)) known

  of-side : (side : Option Names) (client : Option Client) → slice_get o.sides host ≡ side → slice_get o.world.clients host ≡ client
      → found_by name side client ≢ Found.Unknown → found_by name side client ≡ kept_as (find_name name o.world.server.kept.files)
  of-side None client e f known = absurd (known refl)
  of-side (Some n) None e f known = absurd (known refl)
  of-side (Some n) (Some c) e f known =
      let s = inv.hosts host n e in
      let one : s.client ≡ c = cc-some s.client c (sym s.there ∙ f) in
      of-lists n c.now (subst (λ x. HostFits (ground o.world standing o.sent o.ran) host n x.now) one s.fits) (list_of (directory name) n.lists) refl known
    where
      cc-some : (a b : Client) → Some a ≡ Some b → a ≡ b
      cc-some a b h = cc

pub finds-kept : (o : Outside) (bound : ℕ) (standing : Served) → InvOf o bound standing → FindsWhatIsKept o
finds-kept o bound standing inv host name known =
    of-side o bound standing inv host name (slice_get o.sides host) (slice_get o.world.clients host) refl refl known

-- ---- what lasts

-- a live list fits
module _ (o : Outside) (bound : ℕ) (standing : Served) (inv : InvOf o bound standing) (host : ℕ) (n : Names) (c : Client) (l : DirList) (lease : Lease)
    (live : IsLive o host n c l lease) where
  list-fits : ListFits (ground o.world standing o.sent o.ran) host n.who c.now l
  list-fits =
      let s = inv.hosts host n live.side in
      let one : s.client ≡ c = same-client s.client c (sym s.there ∙ live.client) in
      subst (λ x. ListFits (ground o.world standing o.sent o.ran) host n.who x.now l) one
      (s.fits.lists l (found-in (λ x. same_bytes x.prefix l.prefix) l n.lists live.listed))
    where
      same-client : (a b : Client) → Some a ≡ Some b → a ≡ b
      same-client a b h = cc

  lease-is : list-fits.lease ≡ lease
  lease-is = same-lease list-fits.lease lease (sym list-fits.has ∙ live.held)
    where
      same-lease : (a b : Lease) → Some a ≡ Some b → a ≡ b
      same-lease a b h = cc

  asked-is : list-fits.asked ≡ lease.expiry - lease.term
  asked-is =
      let e = list-fits.expires in
      let a = ap (λ x. x.expiry) lease-is in
      let b = ap (λ x. x.term) lease-is in
      omega arith

  runs-still : c.now < list-fits.asked + list-fits.lease.term
  runs-still =
      let e = list-fits.expires in
      let a = ap (λ x. x.expiry) lease-is in
      let r = live.runs in
      omega arith

  -- until it is covered no longer
  end-is : cover_end host list-fits.asked list-fits.lease.term o.ran ≡ cover_end host (lease.expiry - lease.term) lease.term o.ran
  end-is = ap (λ a. cover_end host a list-fits.lease.term o.ran) asked-is ∙ ap (λ x. cover_end host (lease.expiry - lease.term) x.term o.ran) lease-is

  has-fit : HasFit standing l.prefix n.who lease.tag (cover_end host (lease.expiry - lease.term) lease.term o.ran)
  has-fit = subst (λ x. HasFit standing l.prefix n.who x.tag (cover_end host (lease.expiry - lease.term) lease.term o.ran)) lease-is
      (subst (HasFit standing l.prefix n.who list-fits.lease.tag) end-is (list-fits.good.covered runs-still))

  list-covered : (phase : Phase) → o.world.server.phase ≡ phase → IsCovered o l.prefix host n.who lease phase
  list-covered serving p =
      let one : standing ≡ o.served = subst (λ x. Stands x o.served standing) p inv.stands in
      let f = subst (λ s. HasFit s l.prefix n.who lease.tag (cover_end host (lease.expiry - lease.term) lease.term o.ran)) one has-fit in
      record { number = f.number; numbered = f.numbered; fitting = f.fitting }
  list-covered (recovering until heard last) p =
      let waits = subst (λ x. Outlasts x (cover_end host list-fits.asked list-fits.lease.term o.ran)) p (list-fits.good.waits runs-still) in
      let same = end-is in
      omega arith

  list-kept : (name : List ℕ) → directory name ≡ l.prefix → named name l.names ≡ id_of (find_name name o.world.server.kept.files)
  list-kept name of =
      list-fits.good.right (fit-chains standing l.prefix n.who list-fits.lease.tag _ (list-fits.good.covered runs-still)) name of

pub lasts : (o : Outside) (bound : ℕ) (standing : Served) → InvOf o bound standing → Lasts o
lasts o bound standing inv = record {
  covered = λ host n c l lease live. list-covered o bound standing inv host n c l lease live o.world.server.phase refl;
  kept = λ host n c l lease name live of. list-kept o bound standing inv host n c l lease live name of;
}
