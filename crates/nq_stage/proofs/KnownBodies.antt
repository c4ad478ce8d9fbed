-- Which bodies a client's dirty blocks and packets carry, and what stays of it as writes come.
use Rattle.std.proofs.Common.{◌≡◌, ◌≤◌, ◌<◌, ◌^◌, ℕ, ◌+◌, Bool, true, false, List, [], ◌∷◌, Option, Some, None, if◌then◌else◌, length, map}
use Rattle.std.proofs.Common.{refl, sym, subst, ap, ◌∙◌, inl, inr, arith}
use Rattle.std.proofs.lemmas.Bool.{and_parts}
use Rattle.nq_base.specs.declared.Push.{Push}
use Rattle.nq_base.specs.declared.Request.{Request}
use Rattle.nq_base.specs.declared.Who.{Who}
use Rattle.nq_stage.proofs.Apart.{AreApart}
use Rattle.nq_model.proofs.Lists.{each-append, each-map}
use Rattle.nq_model.specs.protocol.Client.{Client, ClientStep, Ticket, UnderWay, begun, is_push_at}
use Rattle.nq_model.specs.laws.Journal.{Each}
use Rattle.nq_model.specs.protocol.Message.{Message, call, reply, error}
use Rattle.nq_model.specs.protocol.Settle.{overwritten, overwritten_at, with_write}
use Rattle.nq_stage.specs.declared.messages.Written.{Written}
use Rattle.nq_stage.specs.Messages.{IsWritten}
use Rattle.nq_stage.specs.Theorem.{BringsBlock}
use Rattle.nq_stage.specs.Offering.{written_by}
use Rattle.walk_steps.proofs.Packets.{In}
use Rattle.walk_steps.proofs.Rows.{same-number}

-- ---- bodies of writes

-- writes with their bodies
abbrev pub Bodies : Type 0
Bodies = List (Written × List ℕ)

-- delayed writes carry the body of their last one
abbrev pub Carries : Bodies → Who → Push → Type 0
Carries g who p = In g (written_by who p, p.body)

-- so does a push
abbrev pub Asks : Bodies → Request → Type 0
Asks g (Request.Write who seq file block first last (Some base) body) =
    In g (record { host = who.host; inc = who.inc; file = file; block = block; last = last }, body)
Asks g other = Unit {0}

-- a message is a request, which carries it if it is a push
abbrev pub Says : Bodies → Message → Type 0
Says g (call xid r) = Asks g r
Says g other = ⊥

-- a body of a write is a block, and the numbers of the write are words and hyper integers
pub record IsBody (v : Written) (b : List ℕ) : Type 0 where
  pub written : IsWritten v
  pub size : length b ≡ 4096

abbrev pub AllFit : Bodies → Type 0
AllFit g = (v : Written) (b : List ℕ) → In g (v, b) → IsBody v b

-- a write has one body
abbrev pub HasOne : Bodies → Type 0
HasOne g = (v : Written) (b c : List ℕ) → In g (v, b) → In g (v, c) → b ≡ c

-- more bodies are known
abbrev pub More : Bodies → Bodies → Type 0
More g g' = (v : Written) (b : List ℕ) → In g (v, b) → In g' (v, b)

-- no write of this incarnation has this number yet, and there are none of later incarnations
abbrev pub IsFresh : Bodies → Who → (number : ℕ) → Type 0
IsFresh g who number = (v : Written) (b : List ℕ) → In g (v, b) → v.host ≡ who.host → (v.inc ≤ who.inc) × (v.inc ≡ who.inc → v.last < number)

pub more-asks : (g g' : Bodies) → More g g' → (r : Request) → Asks g r → Asks g' r
more-asks g g' more (Request.Write who seq file block first last (Some base) body) h = more _ body h
more-asks g g' more (Request.Write who seq file block first last None body) h = tt
more-asks g g' more Request.Null h = tt
more-asks g g' more (Request.Attach who) h = tt
more-asks g g' more (Request.Lookup who name) h = tt
more-asks g g' more (Request.Create who seq name blocks) h = tt
more-asks g g' more (Request.GetAttr who file) h = tt
more-asks g g' more (Request.Read who q file block want) h = tt
more-asks g g' more (Request.GetLease who file want) h = tt
more-asks g g' more (Request.Vacated who file tag) h = tt
more-asks g g' more (Request.Evicted who file tag) h = tt
more-asks g g' more (Request.Resize who seq q file blocks) h = tt
more-asks g g' more (Request.Remove who seq q file) h = tt

pub more-says : (g g' : Bodies) → More g g' → (m : Message) → Says g m → Says g' m
more-says g g' more (call xid r) h = more-asks g g' more r h
more-says g g' more (reply xid r) h = absurd h
more-says g g' more (error xid e) h = absurd h

-- ---- what is known in the middle of a step

-- `g` were known before the step, and only this host's writes may have come to them. The step is of this incarnation, which gave no
-- number above `most`
pub record Knows (g : Bodies) (old : Who) (most : ℕ) (who : Who) (number : ℕ) (call : Option UnderWay) (ticket : Option Ticket) (dirty : List Push)
    (push : Option Push) (sends : List Message) : Type 0 where
  pub kept : who ≡ old
  pub host : who.host < 2 ^ 32
  pub inc : who.inc ≤ most
  pub few : number ≤ most
  pub now : Bodies
  pub more : More g now
  pub others : (v : Written) (b : List ℕ) → In now (v, b) → (v.host ≡ who.host → ⊥) → In g (v, b)
  pub one : HasOne now
  pub fit : AllFit now
  pub fresh : IsFresh now who number
  pub called : (u : UnderWay) → call ≡ Some u → BringsBlock u.call
  pub listed : Each (Carries now who) dirty
  pub apart : AreApart dirty
  pub pushes : (p : Push) → push ≡ Some p → Carries now who p
  pub asked : (t : Ticket) → ticket ≡ Some t → Asks now t.request
  pub sent : Each (Says now) sends

abbrev pub KnowsIn : Bodies → Who → (most : ℕ) → ClientStep → Type 0
KnowsIn g old most t = Knows g old most t.client.who t.client.number t.client.call t.client.ticket t.client.dirty t.client.push t.sends

-- what is known of a client before a step
pub record IsKnown (g : Bodies) (most : ℕ) (c : Client) : Type 0 where
  pub host : c.who.host < 2 ^ 32
  pub inc : c.who.inc ≤ most
  pub few : c.number ≤ most
  pub fresh : IsFresh g c.who c.number
  pub called : (u : UnderWay) → c.call ≡ Some u → BringsBlock u.call
  pub listed : Each (Carries g c.who) c.dirty
  pub apart : AreApart c.dirty
  pub pushes : (p : Push) → c.push ≡ Some p → Carries g c.who p
  pub asked : (t : Ticket) → c.ticket ≡ Some t → Asks g t.request

pub begun-knows : (g : Bodies) (most : ℕ) (c : Client) → HasOne g → AllFit g → IsKnown g most c → KnowsIn g c.who most (begun c)
begun-knows g most c one fit h = record {
  kept = refl;
  host = h.host;
  inc = h.inc;
  few = h.few;
  now = g;
  more = λ v b i. i;
  others = λ v b i other. i;
  one = one;
  fit = fit;
  fresh = h.fresh;
  called = h.called;
  listed = h.listed;
  apart = h.apart;
  pushes = h.pushes;
  asked = h.asked;
  sent = tt;
}

-- ---- a write is delayed

-- the write of this number to a block
abbrev pub written-at : Who → (file block number : ℕ) → Written
written-at who file block number = record { host = who.host; inc = who.inc; file = file; block = block; last = number }

same-key : (who : Who) (file block number : ℕ) (p : Push) → is_push_at file block p ≡ true → written-at who file block number ≡ written-at who p.file
    p.block number
same-key who file block number p on =
    let a = and_parts _ _ on in
    let f : p.file ≡ file = same-number p.file file a.0 in
    let b : p.block ≡ block = same-number p.block block a.1 in
    rw (f, b) refl

module _ (g : Bodies) (who : Who) (file block number : ℕ) (body : List ℕ) where
  abbrev pub grown : Bodies
  grown = (written-at who file block number, body) ∷ g

  over-carries : (p : Push) → Carries g who p → Carries grown who (overwritten_at file block number body p)
  over-carries p old = step (is_push_at file block p) refl
    where
      step : (b : Bool) → is_push_at file block p ≡ b → Carries grown who (if b then overwritten number body p else p)
      step true on = inl (ap (λ v. (v, body)) (same-key who file block number p on))
      step false off = inr old

  overs-carry : (dirty : List Push) → Each (Carries g who) dirty → Each (Carries grown who) (map (overwritten_at file block number body) dirty)
  overs-carry [] h = tt
  overs-carry (p ∷ dirty) h = (over-carries p h.0, overs-carry dirty h.1)

  pub write-carries : (dirty : List Push) (o : Option Push) → Each (Carries g who) dirty → Each (Carries grown who) (with_write file block number body dirty o)
  write-carries dirty (Some p) h = overs-carry dirty h
  write-carries dirty None h = each-append (Carries grown who) dirty _ (each-map (Carries g who) (Carries grown who) dirty (λ p old. inr old) h) (inl refl, tt)

  -- the number is new, so no body was known of the write
  unknown : IsFresh g who number → (c : List ℕ) → In g (written-at who file block number, c) → ⊥
  unknown fresh c i = let early : number < number = (fresh _ c i refl).1 refl in omega arith

  pub grown-one : IsFresh g who number → HasOne g → HasOne grown
  grown-one fresh one v b c (inl x) (inl y) = ap (λ z. z.1) (sym x ∙ y)
  grown-one fresh one v b c (inl x) (inr j) = absurd (unknown fresh c (subst (λ w. In g (w, c)) (sym (ap (λ z. z.0) x)) j))
  grown-one fresh one v b c (inr i) (inl y) = absurd (unknown fresh b (subst (λ w. In g (w, b)) (sym (ap (λ z. z.0) y)) i))
  grown-one fresh one v b c (inr i) (inr j) = one v b c i j

  pub grown-fresh : IsFresh g who number → IsFresh grown who (number + 1)
  grown-fresh fresh v b (inl x) own =
      let inc : who.inc ≡ v.inc = ap (λ z. z.0.inc) x in
      let last : number ≡ v.last = ap (λ z. z.0.last) x in
      (omega arith, λ e. omega arith)
  grown-fresh fresh v b (inr i) own = let f = fresh v b i own in (f.0, λ e. let early = f.1 e in omega arith)

pub grown-fit : (g : Bodies) (who : Who) (file block number : ℕ) (body : List ℕ) → IsBody (written-at who file block number) body → AllFit g
    → AllFit (grown g who file block number body)
grown-fit g who file block number body new fit v b (inl x) = subst (λ z. IsBody z.0 z.1) x new
grown-fit g who file block number body new fit v b (inr i) = fit v b i

pub later-fresh : (g : Bodies) (who : Who) (number : ℕ) → IsFresh g who number → IsFresh g who (number + 1)
later-fresh g who number fresh v b i own = let f = fresh v b i own in (f.0, λ e. let early = f.1 e in omega arith)

pub others-known : (g now : Bodies) (who : Who) (file block number : ℕ) (body : List ℕ) → ((v : Written) (b : List ℕ) → In now (v, b)
    → (v.host ≡ who.host → ⊥) → In g (v, b)) → (v : Written) (b : List ℕ) → In (grown now who file block number body) (v, b) → (v.host ≡ who.host → ⊥)
    → In g (v, b)
others-known g now who file block number body others v b (inl x) other = absurd (other (sym (ap (λ z. z.0.host) x)))
others-known g now who file block number body others v b (inr i) other = others v b i other
