-- What is still to go out shows in the same way before it goes and after.
use Rattle.std.proofs.Common.{◌≡◌, ℕ, zero, suc, ◌+◌, ◌≤◌, ◌<◌, List, [], ◌∷◌, length, drop, map, Option, Some, None, refl, sym, ap, ◌∙◌, arith}
use Rattle.std.proofs.lemmas.List.{drop_all, drop_more, set-get_or}
use Rattle.std.proofs.lemmas.Option.{get_or_from_slice_get, slice_get_within, slice_get-map}
use Rattle.std.specs.Option.{option_map}
use Rattle.std.specs.Prelude.{Result, Ok, Err, OnErr, OnOk, slice_get, slice_set}
use Rattle.nq_base.specs.declared.Event.{Event}
use Rattle.nq_base.specs.declared.Party.{Party}
use Rattle.nq_datagrams.specs.Messages.{bytes_of}
use Rattle.nq_model.specs.protocol.Message.{Packet}
use Rattle.nq_model.specs.protocol.World.{World}
use Rattle.nq_link.specs.Packets.{Datagram}
use Rattle.nq_stage.specs.declared.Pushed.{Pushed}
use Rattle.nq_stage.specs.Shortening.{shortening, shortened}
use Rattle.nq_stage.specs.Staged.{Staged}
use Rattle.nq_stage.specs.Outer.{Outer, Side, Outside}
use Rattle.nq_stage.specs.Outside.{sends, sends_all, sends_as, sends_by, sends_from, side_of, standing}
use Rattle.nq_world.specs.Shown.{datagram}
use Rattle.nq_staged.specs.Around.{AroundOver, IsSettled, due_as, flushed, flushed_as, once_sent, over, passed, passed_as, passed_at, prepared}
use Rattle.nq_staged.specs.Around.{prepared_from, shown, with_due}

-- ---- lists

pub set-same : {X : Type 0} (xs : List X) (i : ℕ) (x : X) → slice_get xs i ≡ Some x → slice_set xs i x ≡ xs
set-same xs i x there = ap (λ y. slice_set xs i y) (sym (get_or_from_slice_get xs i x x there)) ∙ set-get_or xs i x

pub drop-at : {X : Type 0} (xs : List X) (i : ℕ) (x : X) → slice_get xs i ≡ Some x → drop i xs ≡ x ∷ drop (i + 1) xs
drop-at xs i x there = drop_more xs i x (slice_get_within xs i x there) ∙ ap (λ y. y ∷ drop (i + 1) xs) (get_or_from_slice_get xs i x x there)

-- a packet of which a datagram tells
pub record OfDatagram (packets : List Packet) (k : ℕ) (d : Datagram) : Type 0 where
  pub packet : Packet
  pub there : slice_get packets k ≡ Some packet
  pub tells : datagram packet ≡ d

of-option : (o : Option Packet) (d : Datagram) → option_map datagram o ≡ Some d → (p : Packet) × ((o ≡ Some p) × (datagram p ≡ d))
of-option None d is = absurd (cc)
of-option (Some p) d is = (p, (refl, (let e : datagram p ≡ d = cc in e)))

pub of-datagram : (packets : List Packet) (datagrams : List Datagram) (k : ℕ) (d : Datagram) → datagrams ≡ map datagram packets
    → slice_get datagrams k ≡ Some d → OfDatagram packets k d
of-datagram packets datagrams k d are there =
    let found = of-option (slice_get packets k) d (sym (slice_get-map datagram packets k) ∙ ap (λ l. slice_get l k) (sym are) ∙ there) in
    record { packet = found.0; there = found.1.0; tells = found.1.1 }

-- ---- what is due

pub none-due : (w : World) (ran : List Event) (a : AroundOver) → a.due ≡ None → once_sent w ran a ≡ over w ran a
none-due w ran a none = ap (λ d. with_due d (over w ran a)) none

flushes : (w : World) (ran : List Event) (a : AroundOver) (due : Option Outer) → a.due ≡ due → shown w ran (flushed_as due a) ≡ shown w ran a
unfolding sends
flushes w ran a None is = refl
flushes w ran a (Some p) is = ap (λ d. sends_all (with_due d (over w ran a)) a.gone (drop a.gone w.packets)) (sym is)

pub flush-shows : (w : World) (ran : List Event) (a : AroundOver) → shown w ran (flushed a) ≡ shown w ran a
flush-shows w ran a = flushes w ran a a.due refl

flushed-none : (a : AroundOver) (due : Option Outer) → a.due ≡ due → (flushed_as due a).due ≡ None
flushed-none a None is = is
flushed-none a (Some p) is = refl

flushed-gone : (a : AroundOver) (due : Option Outer) → (flushed_as due a).gone ≡ a.gone
flushed-gone a None = refl
flushed-gone a (Some p) = refl

pub flush-none : (a : AroundOver) → (flushed a).due ≡ None
flush-none a = flushed-none a a.due refl

pub flush-gone : (a : AroundOver) → (flushed a).gone ≡ a.gone
flush-gone a = flushed-gone a a.due

-- ---- through a side

-- a push that a side shortened
short-as : (number : ℕ) (side : Side) (bytes commit : List ℕ) (new : Staged) (o : Option (Pushed × ℕ))
    → option_map (λ s. shortened side.stager s.0 s.1 bytes) o ≡ Some (commit, new) → (commit, side_of number new) ≡ passed_as number side bytes o
short-as number side bytes commit new None is = absurd (cc)
short-as number side bytes commit new (Some push) is =
    let e : shortened side.stager push.0 push.1 bytes ≡ (commit, new) = cc in
    ap (λ (s : List ℕ × Staged). let r : List ℕ × Side = (s.0, side_of number s.1) in r) (sym e)

pub passes_short : (number : ℕ) (side : Side) (bytes commit : List ℕ) (new : Staged) → option_map (λ s. shortened side.stager s.0 s.1 bytes)
    (shortening side.stager bytes) ≡ Some (commit, new) → (commit, side_of number new) ≡ passed number side bytes
passes_short number side bytes commit new is = short-as number side bytes commit new (shortening side.stager bytes) is

-- bytes that it does not shorten
pub passes_whole : (number : ℕ) (side new : Side) (bytes : List ℕ) → shortening side.stager bytes ≡ None → new ≡ side → (bytes, new) ≡ passed number side bytes
passes_whole number side new bytes none same = ap (λ s. let r : List ℕ × Side = (bytes, s) in r) same ∙ ap (passed_as number side bytes) (sym none)

-- ---- the next inner packet

abbrev Is : World → List Event → AroundOver → Packet → AroundOver → Outside → Type 0
Is w ran a p made o = (once_sent w ran made ≡ o) × (made.gone ≡ a.gone + 1)

due-short : (w : World) (ran : List Event) (a : AroundOver) (p : Packet) (host : ℕ) (side : Side) (o : Option (Pushed × ℕ)) → slice_get a.sides host
    ≡ Some side
    → Is w ran a p (due_as a (datagram p) (passed_as a.gone side (bytes_of p.message) o).0
    (slice_set a.sides host (passed_as a.gone side (bytes_of p.message) o).1))
    (sends_as (over w ran a) a.gone host p side o)
due-short w ran a p host side None there = (
  ap (λ sides. sends (record (over w ran a) { sides = sides }) (standing a.gone p.sender p.to (bytes_of p.message))) (set-same a.sides host side
      there),
  refl,
)
due-short w ran a p host side (Some push) there = (refl, refl)

due-side : (w : World) (ran : List Event) (a : AroundOver) (p : Packet) (host : ℕ) (o : Option Side) → slice_get a.sides host ≡ o
    → Is w ran a p (due_as a (datagram p) (passed_at a.gone a.sides host (bytes_of p.message) o).0 (passed_at a.gone a.sides host (bytes_of p.message) o).1)
    (sends_by (over w ran a) a.gone host p o)
due-side w ran a p host None there = (refl, refl)
due-side w ran a p host (Some side) there = due-short w ran a p host side (shortening side.stager (bytes_of p.message)) there

due-from : (w : World) (ran : List Event) (a : AroundOver) (p : Packet) (from : Party) → Is w ran a p (prepared_from a (datagram p) from)
    (sends_from (over w ran a) a.gone p from)
due-from w ran a p Party.Server = (refl, refl)
due-from w ran a p (Party.Client host) = due-side w ran a p host (slice_get a.sides host) refl

pub prepare-shows : (w : World) (ran : List Event) (a : AroundOver) (p : Packet) → a.due ≡ None → slice_get w.packets a.gone ≡ Some p
    → shown w ran (prepared a (datagram p)) ≡ shown w ran a
prepare-shows w ran a p none there =
    let next = due-from w ran a p p.sender in
    let made = prepared a (datagram p) in
    ap (λ o. sends_all o made.gone (drop made.gone w.packets)) next.0
    ∙ ap (λ n. sends_all (sends_from (over w ran a) a.gone p p.sender) n (drop n w.packets)) next.1
    ∙ ap (λ ps. sends_all (over w ran a) a.gone ps) (sym (drop-at w.packets a.gone p there))
    ∙ ap (λ o. sends_all o a.gone (drop a.gone w.packets)) (sym (none-due w ran a none))

-- ---- all has gone out

pub settled-shows : (w : World) (ran : List Event) (a : AroundOver) (n : ℕ) → IsSettled n a → n ≡ length w.packets → shown w ran a ≡ over w ran a
settled-shows w ran a n settled many =
    let all : length w.packets ≤ a.gone = (let e = settled.all_gone in omega arith) in
    ap (λ ps. sends_all (once_sent w ran a) a.gone ps) (drop_all a.gone w.packets all) ∙ none-due w ran a settled.none_due

-- ---- step by step

pub there : {X : Type 0} (xs : List X) (i : ℕ) → i < length xs → (x : X) × (slice_get xs i ≡ Some x)
there [] i less = absurd (omega arith)
there (x ∷ xs) zero less = (x, refl)
there (x ∷ xs) (suc i) less = there xs i (omega arith)

gone-from : (a : AroundOver) (d : Datagram) (from : Party) → (prepared_from a d from).gone ≡ a.gone + 1
gone-from a d Party.Server = refl
gone-from a d (Party.Client host) = refl

-- the next packet was made due
pub prepared-gone : (packets : List Datagram) (a b : AroundOver) → a.gone < length packets → ((d : Datagram) → slice_get packets a.gone ≡ Some d
    → b ≡ prepared a d) → b.gone ≡ a.gone + 1
prepared-gone packets a b less is =
    let x = there packets a.gone less in
    ap (λ (c : AroundOver). c.gone) (is x.0 x.1) ∙ gone-from a x.0 x.0.sender

pub prepared-shows : (packets : List Datagram) (a b : AroundOver) → a.due ≡ None → a.gone < length packets
    → ((d : Datagram) → slice_get packets a.gone ≡ Some d → b ≡ prepared a d)
    → (w : World) (ran : List Event) → packets ≡ map datagram w.packets → shown w ran b ≡ shown w ran a
prepared-shows packets a b none less is w ran are =
    let x = there packets a.gone less in
    let p = of-datagram w.packets packets a.gone x.0 are x.1 in
    ap (shown w ran) (is x.0 x.1 ∙ ap (prepared a) (sym p.tells)) ∙ prepare-shows w ran a p.packet none p.there

-- a host's packet that went through its side
pub due_passed : (a b : AroundOver) (d : Datagram) (host : ℕ) (bytes : List ℕ) (sides : List Side) → (bytes, sides) ≡ passed_at a.gone a.sides host
    d.bytes (slice_get a.sides host) → b ≡ due_as (record a { sides = sides }) (record d { bytes = bytes }) bytes sides → b ≡ prepared_from a d
    (Party.Client host)
due_passed a b d host bytes sides went is = is ∙ ap (λ (g : List ℕ × List Side). due_as a d g.0 g.1) went

-- ---- by whether there was memory

pub flush_all : {A E : Type 0} (r : Result A E) (a b : AroundOver) → OnOk r (b ≡ flushed a) → OnErr r (b ≡ a) → (w : World) (ran : List Event)
    → shown w ran b ≡ shown w ran a
flush_all (Ok x) a b sent refused w ran = ap (shown w ran) sent ∙ flush-shows w ran a
flush_all (Err e) a b sent refused w ran = ap (shown w ran) refused

pub flush_due : {A E : Type 0} (r : Result A E) (a b : AroundOver) → OnOk r (b ≡ flushed a) → OnOk r (b.due ≡ None)
flush_due (Ok x) a b sent = ap (λ (c : AroundOver). c.due) sent ∙ flush-none a
flush_due (Err e) a b sent = tt

pub flush_same : {A E : Type 0} (r : Result A E) (a b : AroundOver) → OnOk r (b ≡ flushed a) → OnErr r (b ≡ a) → b.gone ≡ a.gone
flush_same (Ok x) a b sent refused = ap (λ (c : AroundOver). c.gone) sent ∙ flush-gone a
flush_same (Err e) a b sent refused = ap (λ (c : AroundOver). c.gone) refused

pub prepare_all : {A E : Type 0} (r : Result A E) (packets : List Datagram) (a b : AroundOver) → a.due ≡ None → a.gone < length packets
    → ((d : Datagram) → slice_get packets a.gone ≡ Some d → OnOk r (b ≡ prepared a d)) → OnErr r (b ≡ a)
    → (w : World) (ran : List Event) → packets ≡ map datagram w.packets → shown w ran b ≡ shown w ran a
prepare_all (Ok x) packets a b none less made refused w ran are = prepared-shows packets a b none less made w ran are
prepare_all (Err e) packets a b none less made refused w ran are = ap (shown w ran) refused

pub prepare_one : {A E : Type 0} (r : Result A E) (packets : List Datagram) (a b : AroundOver) → a.gone < length packets
    → ((d : Datagram) → slice_get packets a.gone ≡ Some d → OnOk r (b ≡ prepared a d)) → OnOk r (b.gone ≡ a.gone + 1)
prepare_one (Ok x) packets a b less made = prepared-gone packets a b less made
prepare_one (Err e) packets a b less made = tt
