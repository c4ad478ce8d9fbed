-- Each event of a run with lists keeps what holds of every outer world.
use Rattle.std.proofs.Common.{◌≡◌, ◌<◌, ◌≤◌, ◌^◌, ℕ, ◌+◌, ◌==◌, ◌&&◌, Bool, true, false, not, List, [], ◌∷◌, ◌++◌, Option, Some, None, if◌then◌else◌}
use Rattle.std.proofs.Common.{drop, length, refl, sym, subst, ap, ◌∙◌, arith, inl, inr, append-nil}
use Rattle.std.specs.Prelude.{All, slice_get, slice_set}
use Rattle.std.proofs.lemmas.List.Elements.{All-head, All-tail}
use Rattle.std.proofs.lemmas.Bool.{and_parts, not-true}
use Rattle.nq_base.specs.Name.{IsName}
use Rattle.nq_base.specs.declared.Event.{Event}
use Rattle.nq_base.specs.declared.Party.{Party}
use Rattle.nq_base.specs.declared.Request.{Request}
use Rattle.nq_base.specs.declared.Tag.{Tag}
use Rattle.nq_base.specs.declared.Who.{Who}
use Rattle.nq_datagrams.specs.Incoming.{datagram_in}
use Rattle.nq_datagrams.specs.Messages.{bytes_of}
use Rattle.nq_directory.specs.Prefix.{IsPrefix, directory}
use Rattle.nq_directory.specs.declared.listing.messages.DirTag.{DirTag}
use Rattle.nq_directory.specs.declared.listing.messages.ReadDir.{ReadDir}
use Rattle.nq_directory.specs.Messages.{IsReadDir}
use Rattle.nq_directory.specs.Reading.{dir_vacated_in, read_dir_in}
use Rattle.walk_steps.specs.Within.{CarriesText}
use Rattle.walk_steps.proofs.OneHost.{of-one-host}
use Rattle.nq_model.specs.protocol.Change.{IsFileWithin}
use Rattle.nq_model.specs.protocol.Client.{Client}
use Rattle.nq_model.specs.protocol.Kept.{File, find_file, find_name, host_row}
use Rattle.nq_model.specs.protocol.Message.{Packet, call, datagram_of}
use Rattle.nq_model.specs.protocol.Profile.{most_ids, same_bytes}
use Rattle.nq_model.specs.protocol.Server.{Phase, serving, recovering}
use Rattle.nq_model.specs.protocol.Stepped.{most_events}
use Rattle.nq_model.specs.protocol.World.{Head, sending_host, step}
use Rattle.nq_directory.specs.Asking.{Asks, heard, lists_dir}
use Rattle.nq_directory.specs.NameCacheNames.{Names, before_call}
use Rattle.nq_name_server.specs.Served.{Served, leaf_behind}
use Rattle.nq_name_server.specs.Serving.{Serves, ToHost, holds_up, puts_off, reads_dir, vacates}
use Rattle.nq_name_server.proofs.Inner.{inner-ran}
use Rattle.nq_name_server.specs.declared.run.event.NameEvent.{NameEvent}
use Rattle.nq_name_server.specs.Outer.{Outer, Outside}
use Rattle.nq_name_server.specs.Outside.{Changes, asks_as, at_side, beside, changes_as, delivers, heard_by, held_or, inner, is_changing, lists}
use Rattle.nq_name_server.specs.Outside.{new_side, outside_step, passes, reads, reads_in, renewed, sends, sends_all, sends_from, sends_these}
use Rattle.nq_name_server.specs.Outside.{served_as, served_read, served_vacated, serves, takes, to_host, to_server}
use Rattle.nq_name_server.specs.Theorem.{BringsPrefix}
use Rattle.walk_steps.proofs.ClientMoves.{none-some, some-same}
use Rattle.walk_steps.proofs.Packets.{In, in-get}
use Rattle.nq_model.specs.laws.StepsAreOfOneHost.{receiver_of}
use Rattle.walk_steps.proofs.Rows.{decided, same-number}
use Rattle.law_names.proofs.Chains.{Chained}
use Rattle.law_names.proofs.Codec.{IsChange, IsCodec}
use Rattle.law_names.proofs.EventHosts.{called-names, same-names}
use Rattle.law_names.proofs.EventShifts.{ChangesIn, by_create, by_remove, sent-as}
use Rattle.law_names.proofs.EventPackets.{insides, sent-all}
use Rattle.law_names.proofs.EventSteps.{client-event, crash-event, receive-event, restart-names}
use Rattle.law_names.proofs.TickSteps.{tick-event}
use Rattle.law_names.proofs.HearSteps.{heard-after, lists-after, sending}
use Rattle.law_names.proofs.HostMoves.{AreKept}
use Rattle.law_names.proofs.InnerRuns.{IsKnown}
use Rattle.law_names.proofs.OuterFits.{Inv, InvOf, IsBeside, IsInner, Stands, asking, giving, noticing, telling}
use Rattle.law_names.proofs.ServedMoves.{found-in, unheld}
use Rattle.law_names.proofs.ServerSteps.{delays-inv, held-inv, packets_of, quiet-inv, reads-inv, vacating-inv}

-- ---- what is sent

these-sent : (o : Outside) (ds : List ToHost) → sends_these o ds ≡ record o { sent = o.sent ++ packets_of ds }
unfolding sends
these-sent o [] = ap (λ l. record o { sent = l }) (sym (append-nil o.sent))
these-sent o (d ∷ ds) =
    these-sent (record o { sent = o.sent ++ beside Party.Server (Party.Client d.host) d.bytes ∷ [] }) ds
    ∙ ap (λ l. record o { sent = l }) (again o.sent (beside Party.Server (Party.Client d.host) d.bytes) (packets_of ds))
  where
    again : (xs : List Outer) (x : Outer) (ys : List Outer) → (xs ++ x ∷ []) ++ ys ≡ xs ++ x ∷ ys
    again [] x ys = refl
    again (z ∷ xs) x ys = ap (λ l. z ∷ l) (again xs x ys)

served-is : (o : Outside) (s : Serves) → served_as o s ≡ record o { served = s.served; sent = o.sent ++ packets_of s.sends }
unfolding served_as
served-is o s = these-sent (record o { served = s.served }) s.sends

from-is : (o : Outside) (host : ℕ) (bytes : Option (List ℕ)) → sends_from o host bytes ≡ record o { sent = o.sent ++ sending host bytes }
unfolding sends
from-is o host None = ap (λ l. record o { sent = l }) (sym (append-nil o.sent))
from-is o host (Some bytes) = refl

asked-is : (o : Outside) (host : ℕ) (a : Asks) → asks_as o host a ≡ record o { sides = slice_set o.sides host a.names; sent = o.sent ++ sending host a.sends }
unfolding asks_as
asked-is o host a = from-is (record o { sides = slice_set o.sides host a.names }) host a.sends

found-first : {A : Type 0} (b : Bool) (x y : A) (rest : Option A) → b ≡ true → (if b then Some x else rest) ≡ Some y → x ≡ y
found-first true x y rest e h = cc
found-first false x y rest e h = absurd (cc)

found-later : {A : Type 0} (b : Bool) (x y : A) (rest : Option A) → b ≡ false → (if b then Some x else rest) ≡ Some y → rest ≡ Some y
found-later true x y rest e h = absurd (cc)
found-later false x y rest e h = h

-- the same holds with a bound that is greater by one
abbrev Later : Outside → (bound : ℕ) → Type 0
Later o bound = (standing : Served) × InvOf o (bound + 1) standing

module _ (codec : IsCodec) (most : ℕ) (head : Head) (o : Outside) (bound : ℕ) (standing : Served) (inv : InvOf o bound standing)
    (known : IsKnown most head o.world o.ran) (short : bound ≤ most_events) where
  here : (host : ℕ) (n : Names) → slice_get o.sides host ≡ Some n → n.who.host ≡ host
  here host n is =
      let s = inv.hosts host n is in
      ap (λ x. x.host) (sym s.same) ∙ (known.holds.clients host s.client s.there).here

  quiet : Later o bound
  quiet = (
    standing,
    subst (λ l. Inv o.world o.served o.sides l o.ran (bound + 1) standing) (append-nil o.sent)
        (quiet-inv codec most head o.world o.served o.sides o.sent o.ran bound standing inv known short here),
  )

  words : (host : ℕ) (n : Names) → slice_get o.sides host ≡ Some n → (n.who.host < 2 ^ 32) × (n.who.inc < 2 ^ 32)
  words host n is =
      let s = inv.hosts host n is in
      let low = known.runs.few host s.client s.there in
      let hosts = known.bounds.hosts in
      let at = here host n is in
      let inc = known.drawn.inc host s.client s.there in
      let few = known.few in
      let same : s.client.who.inc ≡ n.who.inc = ap (λ x. x.inc) s.same in
      (omega arith, omega arith)

  kept : AreKept o.world.server.kept.files
  kept = record {
    apart = known.within.within.apart;
    from_one = λ name f is. first o.world.server.kept.next o.world.server.kept.files name f known.within.within.files is;
  } where
    first : (next : ℕ) (files : List File) (name : List ℕ) (f : File) → All (IsFileWithin next) files → find_name name files ≡ Some f → 1 ≤ f.id
    first next [] name f each is = absurd (cc)
    first next (g ∷ files) name f each is = elim (decided (same_bytes g.name name)) [
      | inl e ↦ subst (λ x. 1 ≤ x.id) (found-first (same_bytes g.name name) g f (find_name name files) e is) (All-head (IsFileWithin next) g files
          each).from_one
      | inr e ↦ first next files name f (All-tail (IsFileWithin next) g files each) (found-later (same_bytes g.name name) g f (find_name name files) e is)
    ]

  -- ---- a host

  as-asked : (host : ℕ) (a : Asks) → Inv o.world o.served (slice_set o.sides host a.names) (o.sent ++ sending host a.sends) o.ran (bound + 1) standing
      → Later (asks_as o host a) bound
  as-asked host a h = (standing, subst (λ x. InvOf x (bound + 1) standing) (sym (asked-is o host a)) h)

  own-host : (host : ℕ) (n : Names) (is : slice_get o.sides host ≡ Some n) → (inv.hosts host n is).client.who.host ≡ host
  own-host host n is = (known.holds.clients host (inv.hosts host n is).client (inv.hosts host n is).there).here

  hearing : (host : ℕ) (p : Outer) → In o.sent p → p.to ≡ Party.Client host → p.is ≡ None → (side : Option Names) (client : Option Client)
      → slice_get o.sides host ≡ side → slice_get o.world.clients host ≡ client → Later (heard_by o host p.bytes side client) bound
  hearing host p there to alone None client e f = quiet
  hearing host p there to alone (Some n) None e f = quiet
  hearing host p there to alone (Some n) (Some c) e f =
      let s = inv.hosts host n e in
      let one : s.client ≡ c = some-same s.client c (sym s.there ∙ f) in
      subst (λ x. Later (asks_as o host (heard n p.bytes c.term x)) bound) (ap (λ x. x.now) one)
      (as-asked host (heard n p.bytes c.term s.client.now)
      (heard-after codec o.world o.served o.sides o.sent o.ran bound standing inv host n e short (own-host host n e) (words host n e) kept p there to
      alone c.term))

  listing : (host : ℕ) (prefix : List ℕ) → IsPrefix prefix → (side : Option Names) (client : Option Client)
      → slice_get o.sides host ≡ side → slice_get o.world.clients host ≡ client → Later (lists o host prefix side client) bound
  listing host prefix fits None client e f = quiet
  listing host prefix fits (Some n) None e f = quiet
  listing host prefix fits (Some n) (Some c) e f = by (c.attached && not (is_changing c.call)) refl
    where
      asked : (c.attached && not (is_changing c.call)) ≡ true → Later (asks_as o host (lists_dir n prefix c.term c.now)) bound
      asked g =
          let s = inv.hosts host n e in
          let one : s.client ≡ c = some-same s.client c (sym s.there ∙ f) in
          let idle : is_changing s.client.call ≡ false = ap (λ x. is_changing x.call) one ∙ not-true (is_changing c.call)
          (and_parts c.attached (not (is_changing c.call)) g).1 in
          subst (λ x. Later (asks_as o host (lists_dir n prefix c.term x)) bound) (ap (λ x. x.now) one)
          (as-asked host (lists_dir n prefix c.term s.client.now)
          (lists-after codec o.world o.served o.sides o.sent o.ran bound standing inv host n e short (own-host host n e) (words host n e) kept prefix
          c.term fits idle))

      by : (b : Bool) → (c.attached && not (is_changing c.call)) ≡ b → Later (if b then asks_as o host (lists_dir n prefix c.term c.now) else o) bound
      by true g = asked g
      by false g = quiet

  -- ---- an event of the inner world

  as-inner : (u : Outside) (number : ℕ) (ps : List Packet) (b : ℕ) (later : Served) → Inv u.world u.served u.sides (u.sent ++ insides number ps) u.ran b later
      → InvOf (sends_all u number ps) b later
  as-inner u number ps b later h = subst (λ x. InvOf x b later) (sym (sent-all u number ps)) h

  no-server : (host : ℕ) → Party.Server ≡ Party.Client host → ⊥
  no-server host e = cc

  -- a delivery to a host, or of no packet
  to-client : (number host : ℕ) (q : Packet) → slice_get o.world.packets number ≡ Some q → q.to ≡ Party.Client host
      → Later (inner o (Event.Deliver number)) bound
  to-client number host q there to =
      let same : (step o.world (Event.Deliver number)).server ≡ o.world.server =
      (of-one-host o.world (Event.Deliver number)).server (λ e. no-server host (e ∙ ap receiver_of there ∙ to)) in (
        standing,
        as-inner (renewed o (Event.Deliver number) (step o.world (Event.Deliver number))) (length o.world.packets)
            (drop (length o.world.packets) (step o.world (Event.Deliver number)).packets) (bound + 1) standing
            (client-event most head o.world o.ran known o.served o.sides o.sent bound standing inv (Event.Deliver number) o.sides same
            (λ h n is. same-names o.world o.sides (Event.Deliver number) h n is (λ e. absurd (cc)) refl)),
      )

  -- a kept file's id is a word
  file-low : (f : File) → find_file f.id o.world.server.kept.files ≡ Some f → f.id < 2 ^ 32
  file-low f found =
      low o.world.server.kept.next o.world.server.kept.files f known.within.within.few_ids known.within.within.files
      (found-in (λ x. x.id == f.id) f o.world.server.kept.files found)
    where
      low : (next : ℕ) (files : List File) (g : File) → next ≤ most_ids → All (IsFileWithin next) files → In files g → g.id < 2 ^ 32
      low next [] g few each i = absurd i
      low next (x ∷ files) g few each (inl same) =
          subst (λ y. y.id < 2 ^ 32) same (let b = (All-head (IsFileWithin next) x files each).below_next in omega arith)
      low next (x ∷ files) g few each (inr i) = low next files g few (All-tail (IsFileWithin next) x files each) i

  -- a request is not held up
  abbrev IsFree : (host number : ℕ) → List ℕ → Type 0
  IsFree host number bytes = (c : Changes) → changes_as o.world.server.kept host (datagram_in bytes) ≡ Some c → holds_up o.served c.who c.prefix ≡ None

  to-serve : (number host : ℕ) (q : Packet) → slice_get o.world.packets number ≡ Some q → q.sender ≡ Party.Client host → q.to ≡ Party.Server
      → CarriesText q.message → IsKnown most head (step o.world (Event.Deliver number)) (Event.Deliver number ∷ o.ran)
      → IsFree host number (bytes_of q.message)
      → Later (inner o (Event.Deliver number)) bound
  to-serve number host q there sender to text latter free = (
    standing,
    as-inner (renewed o (Event.Deliver number) (step o.world (Event.Deliver number))) (length o.world.packets)
        (drop (length o.world.packets) (step o.world (Event.Deliver number)).packets) (bound + 1) standing
        (receive-event most head o.world o.ran known o.served o.sides o.sent bound standing inv number q there to
        (λ prefix changes x tag chained. alone prefix changes x tag chained) latter
        (λ h n is. same-names o.world o.sides (Event.Deliver number) h n is (λ e. absurd (cc)) refl)),
  )
    where
      from : sending_host q.sender ≡ host
      from = ap sending_host sender

      passing : (prefix : List ℕ) → o.world.server.phase ≡ serving → IsChange o.world.server.kept host prefix (bytes_of q.message) → (x : Who) (tag : Tag)
          → Chained standing prefix x tag → x.host ≡ sending_host q.sender
      passing prefix p change x tag chained =
          let one : standing ≡ o.served = subst (λ y. Stands y o.served standing) p inv.stands in
          unheld o.served change.who prefix (free (record { who = change.who; prefix = prefix }) change.changes) x tag
          (subst (λ y. Chained y prefix x tag) one chained)
          ∙ change.same ∙ sym from

      alone : (prefix : List ℕ) → ChangesIn o.world.server (sending_host q.sender) (datagram_of q.message) prefix → (x : Who) (tag : Tag)
          → Chained standing prefix x tag
          → x.host ≡ sending_host q.sender
      alone prefix (by_create xid who seq blocks name is of owner serves) x tag chained =
          let s = sent-as q xid (Request.Create who seq name blocks) (known.holds.sent q (in-get o.world.packets number q there)) to is in
          let message : q.message ≡ call xid (Request.Create who seq name blocks) = ap (λ y. y.message) s.is in
          let low = owner.possible in
          let named : IsName name = subst CarriesText message text in
          passing prefix serves
          (subst (λ y. IsChange o.world.server.kept host y (bytes_of q.message)) (sym of)
          (subst (λ y. IsChange o.world.server.kept host (directory name) (bytes_of y)) (sym message)
          (codec.creates o.world.server.kept host xid who seq name blocks named (omega arith) (owner.host ∙ from)))) x tag chained
      alone prefix (by_remove xid who seq asked f is found of owner serves) x tag chained =
          let s = sent-as q xid (Request.Remove who seq asked f.id) (known.holds.sent q (in-get o.world.packets number q there)) to is in
          let message : q.message ≡ call xid (Request.Remove who seq asked f.id) = ap (λ y. y.message) s.is in
          let low = owner.possible in
          let id = file-low f found in
          passing prefix serves
          (subst (λ y. IsChange o.world.server.kept host y (bytes_of q.message)) (sym of)
          (subst (λ y. IsChange o.world.server.kept host (directory f.name) (bytes_of y)) (sym message)
          (codec.removes o.world.server.kept host xid who seq asked f.id f found id (omega arith) (owner.host ∙ from)))) x tag chained

  -- ---- a delivery

  -- what was not sent beside the inner world is one of its packets
  to-inner : (number : ℕ) (p : Outer) → In o.sent p → p.is ≡ Some number → IsInner o.world number p
  to-inner number p there is = inv.inners p number there is

  -- what is known after the event, where it is one of the inner world
  abbrev KnownAfter : Outside → Type 0
  KnownAfter u = IsKnown most head u.world u.ran

  inner-known : (number : ℕ) → KnownAfter (inner o (Event.Deliver number))
      → IsKnown most head (step o.world (Event.Deliver number)) (Event.Deliver number ∷ o.ran)
  inner-known number k = subst (λ i. IsKnown most head i.0 i.1) (inner-ran o (Event.Deliver number)) k

  text-of : (number : ℕ) (q : Packet) → slice_get o.world.packets number ≡ Some q → KnownAfter (inner o (Event.Deliver number)) → CarriesText q.message
  text-of number q there k = (inner-known number k).given.1 q (ap (λ x. slice_get x.packets number) (sym known.is) ∙ there)

  inner-server : (number host : ℕ) (p : Outer) → In o.sent p → p.is ≡ Some number → p.sender ≡ Party.Client host → p.to ≡ Party.Server
      → KnownAfter (inner o (Event.Deliver number)) → IsFree host number p.bytes → Later (inner o (Event.Deliver number)) bound
  inner-server number host p there is sender to k free =
      let i = to-inner number p there is in
      to-serve number host i.packet i.there (sym (ap (λ x. x.sender) i.is) ∙ sender) (sym (ap (λ x. x.to) i.is) ∙ to) (text-of number i.packet i.there k)
      (inner-known number k) (subst (λ b. IsFree host number b) (ap (λ x. x.bytes) i.is) free)

  inner-client : (number host : ℕ) (p : Outer) → In o.sent p → p.is ≡ Some number → p.to ≡ Party.Client host → Later (inner o (Event.Deliver number)) bound
  inner-client number host p there is to =
      let i = to-inner number p there is in
      to-client number host i.packet i.there (sym (ap (λ x. x.to) i.is) ∙ to)

  as-served : (s : Serves) (later : Served) → Inv o.world s.served o.sides (o.sent ++ packets_of s.sends) o.ran (bound + 1) later → Later (served_as o s) bound
  as-served s later h = (later, subst (λ x. InvOf x (bound + 1) later) (sym (served-is o s)) h)

  passing : (number host : ℕ) (p : Outer) → In o.sent p → p.is ≡ Some number → p.sender ≡ Party.Client host → p.to ≡ Party.Server → (x : Option Changes)
      → changes_as o.world.server.kept host (datagram_in p.bytes) ≡ x → KnownAfter (passes o number x) → Later (passes o number x) bound
  passing number host p there is sender to None e k = inner-server number host p there is sender to k (λ c f. none-some c (sym e ∙ f))
  passing number host p there is sender to (Some c) e k = by (holds_up o.served c.who c.prefix) refl k
    where
      by : (h : Option Serves) → holds_up o.served c.who c.prefix ≡ h → KnownAfter (held_or o number h) → Later (held_or o number h) bound
      by None g m =
          inner-server number host p there is sender to m
          (λ d f. let one : c ≡ d = some-same c d (sym e ∙ f) in subst (λ y. holds_up o.served y.who y.prefix ≡ None) one g)
      by (Some s) g m =
          as-served s s.served (held-inv codec most head o.world o.served o.sides o.sent o.ran bound standing inv known short here c.who c.prefix s g)

  -- a READDIRLOOK that is read is one that a host sent
  read-fits : (host : ℕ) (p : Outer) (r : ReadDir) → In o.sent p → p.sender ≡ Party.Client host → p.is ≡ None → read_dir_in p.bytes ≡ Some r → IsReadDir r
  read-fits host p r there sender alone reads = by (inv.besides p there alone)
    where
      by : IsBeside standing p → IsReadDir r
      by (asking h q fits who is) =
          let k = codec.asks q fits in
          subst IsReadDir (some-same (record q { term = k.term }) r (sym k.reads ∙ ap (λ x. read_dir_in x.bytes) (sym is) ∙ reads)) k.fits
      by (giving h t fits drawn is) =
          none-some r (sym (codec.gives t fits).no_request ∙ ap (λ x. read_dir_in x.bytes) (sym is) ∙ reads)
      by (telling h xid inc a low small fits is) = absurd (no-server host (sym (ap (λ x. x.sender) is) ∙ sender))
      by (noticing h t fits drawn is) = absurd (no-server host (sym (ap (λ x. x.sender) is) ∙ sender))

  reading : (host : ℕ) (p : Outer) (r : ReadDir) → In o.sent p → p.sender ≡ Party.Client host → p.is ≡ None → read_dir_in p.bytes ≡ Some r
      → r.who.host ≡ host → r.who.inc ≡ (host_row o.world.server.kept host).inc → (phase : Phase) → o.world.server.phase ≡ phase
      → Later (reads_in o r phase) bound
  reading host p r there sender alone reads own inc serving e =
      as-served (reads_dir o.served r (leaf_behind r.prefix r.after o.world.server.kept.files)) _
      (reads-inv codec most head o.world o.served o.sides o.sent o.ran bound standing inv known short here host r
      (record { packet = p; there = there; sender = sender; beside = alone; reads = reads }) (read-fits host p r there sender alone reads) own inc e)
  reading host p r there sender alone reads own inc (recovering until heard last) e =
      as-served (record { served = o.served; sends = puts_off r ∷ [] }) standing
      (delays-inv codec most head o.world o.served o.sides o.sent o.ran bound standing inv known short here host r
      (record { packet = p; there = there; sender = sender; beside = alone; reads = reads }) (read-fits host p r there sender alone reads) own)

  vacating : (host : ℕ) (p : Outer) → In o.sent p → p.sender ≡ Party.Client host → p.is ≡ None → read_dir_in p.bytes ≡ None → (t : Option DirTag)
      → dir_vacated_in p.bytes ≡ t → Later (served_vacated o host t) bound
  vacating host p there sender alone none None e = quiet
  vacating host p there sender alone none (Some t) e = by (t.who.host == host) refl
    where
      by : (b : Bool) → (t.who.host == host) ≡ b → Later (if b then record o { served = vacates o.served t } else o) bound
      by true g =
          let v = vacating-inv codec most head o.world o.served o.sides o.sent o.ran bound standing inv known short here host t
          (record { packet = p; there = there; sender = sender; beside = alone; no_request = none; reads = e }) (same-number t.who.host host g) in
          (v.0, subst (λ l. Inv o.world (vacates o.served t) o.sides l o.ran (bound + 1) v.0) (append-nil o.sent) v.1)
      by false g = quiet

  reading-own : (host : ℕ) (p : Outer) → In o.sent p → p.sender ≡ Party.Client host → p.is ≡ None → (r : Option ReadDir) → read_dir_in p.bytes ≡ r
      → Later (served_read o host p.bytes r) bound
  reading-own host p there sender alone None e = vacating host p there sender alone e (dir_vacated_in p.bytes) refl
  reading-own host p there sender alone (Some r) e = by (r.who.host == host && r.who.inc == (host_row o.world.server.kept host).inc) refl
    where
      by : (b : Bool) → (r.who.host == host && r.who.inc == (host_row o.world.server.kept host).inc) ≡ b
          → Later (if b then reads_in o r o.world.server.phase else o) bound
      by true g =
          let both = and_parts (r.who.host == host) (r.who.inc == (host_row o.world.server.kept host).inc) g in
          reading host p r there sender alone e (same-number r.who.host host both.0) (same-number r.who.inc (host_row o.world.server.kept host).inc both.1)
          o.world.server.phase refl
      by false g = quiet

  delivering : (p : Option Outer) → (k : ℕ) → slice_get o.sent k ≡ p → KnownAfter (delivers o p) → Later (delivers o p) bound
  delivering None k e after = quiet
  delivering (Some p) k e after = taking p.to refl after
    where
      there : In o.sent p
      there = in-get o.sent k p e

      at-server : (host : ℕ) → p.sender ≡ Party.Client host → p.to ≡ Party.Server → (is : Option ℕ) → p.is ≡ is → KnownAfter (serves o host p is)
          → Later (serves o host p is) bound
      at-server host sender to None f m = reading-own host p there sender f (read_dir_in p.bytes) refl
      at-server host sender to (Some number) f m =
          passing number host p there f sender to (changes_as o.world.server.kept host (datagram_in p.bytes)) refl m

      from : (sender : Party) → p.sender ≡ sender → p.to ≡ Party.Server → KnownAfter (to_server o p sender) → Later (to_server o p sender) bound
      from Party.Server f to m = quiet
      from (Party.Client host) f to m = at-server host f to p.is refl m

      at-host : (host : ℕ) → p.to ≡ Party.Client host → (is : Option ℕ) → p.is ≡ is → Later (to_host o host p is) bound
      at-host host to None f = hearing host p there to f (slice_get o.sides host) (slice_get o.world.clients host) refl refl
      at-host host to (Some number) f = inner-client number host p there f to

      taking : (to : Party) → p.to ≡ to → KnownAfter (takes o p to) → Later (takes o p to) bound
      taking Party.Server f m = from p.sender refl f m
      taking (Party.Client host) f m = at-host host f p.is refl

  -- ---- every event

  inner-after : (e : Event) → KnownAfter (inner o e) → IsKnown most head (step o.world e) (e ∷ o.ran)
  inner-after e k = subst (λ i. IsKnown most head i.0 i.1) (inner-ran o e) k

  pub step-inv : (event : NameEvent) → BringsPrefix event → KnownAfter (outside_step o event) → Later (outside_step o event) bound
  step-inv (NameEvent.List host prefix) fits k = listing host prefix fits (slice_get o.sides host) (slice_get o.world.clients host) refl refl
  step-inv (NameEvent.Plain (Event.Deliver number)) fits k = delivering (slice_get o.sent number) number refl k
  step-inv (NameEvent.Plain (Event.Call host op)) fits k =
      let e = Event.Call host op in
      let w = step o.world e in (
        standing,
        as-inner (renewed o e w) (length o.world.packets) (drop (length o.world.packets) w.packets) (bound + 1) standing
            (client-event most head o.world o.ran known o.served o.sides o.sent bound standing inv e (at_side (λ n. before_call n op) o.sides host
            (slice_get o.sides host))
            ((of-one-host o.world e).server (λ same. no-server host same)) (λ h n is. called-names o.world o.sides host op h n is)),
      )
  step-inv (NameEvent.Plain Event.ServerTick) fits k =
      let w = step o.world Event.ServerTick in
      let t = tick-event most head o.world o.ran known o.served o.sides o.sent bound standing inv (inner-after Event.ServerTick k)
      (λ h n is. same-names o.world o.sides Event.ServerTick h n is (λ same. absurd (cc)) refl) in
      (t.0, as-inner (renewed o Event.ServerTick w) (length o.world.packets) (drop (length o.world.packets) w.packets) (bound + 1) t.0 t.1)
  step-inv (NameEvent.Plain (Event.ClientTick host)) fits k =
      let e = Event.ClientTick host in
      let w = step o.world e in (
        standing,
        as-inner (renewed o e w) (length o.world.packets) (drop (length o.world.packets) w.packets) (bound + 1) standing
            (client-event most head o.world o.ran known o.served o.sides o.sent bound standing inv e o.sides
            ((of-one-host o.world e).server (λ same. no-server host same)) (λ h n is. same-names o.world o.sides e h n is (λ same. absurd (cc)) refl)),
      )
  step-inv (NameEvent.Plain (Event.Restart host)) fits k =
      let e = Event.Restart host in
      let w = step o.world e in (
        standing,
        as-inner (renewed o e w) (length o.world.packets) (drop (length o.world.packets) w.packets) (bound + 1) standing
            (client-event most head o.world o.ran known o.served o.sides o.sent bound standing inv e (new_side (slice_get w.clients host) o.sides host)
            ((of-one-host o.world e).server (λ same. no-server host same))
            (λ h n is. restart-names o.world o.served o.sides o.sent o.ran bound standing inv host h n is)),
      )
  step-inv (NameEvent.Plain (Event.Crash longest)) fits k =
      let e = Event.Crash longest in
      let w = step o.world e in (
        standing,
        as-inner (renewed o e w) (length o.world.packets) (drop (length o.world.packets) w.packets) (bound + 1) standing
            (crash-event most head o.world o.ran known o.served o.sides o.sent bound standing inv longest
            (λ h n is. same-names o.world o.sides e h n is (λ same. absurd (cc)) refl)),
      )
