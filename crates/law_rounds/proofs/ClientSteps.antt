-- A packet is delivered to a client: it takes a turn, or gives a lease up, or gives it up and sends its request again, or does nothing.
use Rattle.std.proofs.Common.{◌≡◌, ◌≤◌, ◌<◌, ℕ, ◌+◌, ◌==◌, ◌++◌, Bool, true, false, zero, suc, List, [], ◌∷◌, Option, Some, None, length, refl, sym}
use Rattle.std.proofs.Common.{ap, subst, ◌∙◌, arith, inl, inr}
use Rattle.std.specs.Prelude.{map, slice_get, slice_set}
use Rattle.std.proofs.lemmas.List.{append-nil}
use Rattle.nq_base.specs.declared.Request.{Request}
use Rattle.nq_base.specs.declared.Tag.{Tag}
use Rattle.nq_base.specs.declared.Who.{Who}
use Rattle.nq_model.specs.protocol.Client.{Client, ClientStep}
use Rattle.nq_model.specs.protocol.Hear.{hear, wants_of}
use Rattle.nq_model.specs.protocol.Message.{Message, Packet, call}
use Rattle.nq_model.specs.protocol.Server.{to_host}
use Rattle.nq_model.specs.protocol.World.{World, from_host, after_client, after_hearing, deliver, deliver_to_client}
use Rattle.walk_steps.proofs.ClientMoves.{some-same, none-some}
use Rattle.walk_steps.proofs.Worlds.{get-set-same, get-set-other}
use Rattle.walk_steps.proofs.Rows.{same-number, number-same}
use Rattle.law_rounds.proofs.Facts.{asked_for, wants_in, Takes, fewer, again, silent, Facts}
use Rattle.law_rounds.proofs.Forms.{Agree}
use Rattle.law_rounds.proofs.Items.{Item, one, pair, Adds, adds-none, adds-ones, adds-pair}

pub get-below : {A : Type 0} (xs : List A) (i : ℕ) (x : A) → slice_get xs i ≡ Some x → i < length xs
get-below [] i x is = none-some x is
get-below (y ∷ xs) zero x is = omega arith
get-below (y ∷ xs) (suc i) x is = let rest = get-below xs i x is in omega arith

abbrev pub sum_of : (Client → ℕ) → List Client → ℕ
sum_of turns [] = 0
sum_of turns (c ∷ clients) = turns c + sum_of turns clients

sum-set : (turns : Client → ℕ) (xs : List Client) (i : ℕ) (x y : Client) → slice_get xs i ≡ Some x → sum_of turns (slice_set xs i y) + turns x
    ≡ sum_of turns xs + turns y
sum-set turns [] i x y is = none-some x is
sum-set turns (z ∷ xs) zero x y is = let same : turns z ≡ turns x = ap turns (some-same z x is) in omega arith
sum-set turns (z ∷ xs) (suc i) x y is = let rest = sum-set turns xs i x y is in omega arith

module _ (hosts few : ℕ) (turns : Client → ℕ) (asks : ℕ → Option Request) (w : World) (facts : Facts hosts few turns w) (agree : Agree hosts asks w) where
  -- what a client sends without a turn
  pub data CameOf (host : ℕ) (m : Message) (new : List Item) : Type 0 where
    nothing : new ≡ [] → CameOf host m new
    gives_up : (n x z file : ℕ) (who : Who) (tag : Tag) → m ≡ call z (Request.Evicted who file tag)
        → new ≡ one n (from_host host (call x (Request.Vacated who file tag))) ∷ [] → who.host ≡ host → host < hosts → wants_in file (asks host)
        ≡ false → CameOf host m new
    asks_again : (n x y z file : ℕ) (who : Who) (tag : Tag) (r : Request) → m ≡ call z (Request.Evicted who file tag) → new ≡ pair n host x y file who
        tag r ∷ [] → who.host ≡ host → host < hosts → asks host ≡ Some r → wants_of file r ≡ true → CameOf host m new

  pub data ClientOut (host : ℕ) (m : Message) (v : World) : Type 0 where
    turned : (more : List Packet) → v.packets ≡ w.packets ++ more → sum_of turns v.clients < sum_of turns w.clients → ClientOut host m v
    went_on : (more : List Packet) (new : List Item) → v.packets ≡ w.packets ++ more → Adds w.packets more new → v.server ≡ w.server
        → Agree hosts asks v → sum_of turns v.clients ≤ sum_of turns w.clients → CameOf host m new → ClientOut host m v

  stays : (host : ℕ) (m : Message) → ClientOut host m w
  stays host m = went_on [] [] (sym (append-nil w.packets)) (adds-none w.packets) refl agree (omega arith) (nothing refl)

  agree-after : (host : ℕ) (c : Client) (t : ClientStep) → asked_for t.client.ticket ≡ asks host → Agree hosts asks (after_client w host t)
  unfolding after_client
  agree-after host c t same h d is = by (h == host) refl
    where
      by : (b : Bool) → (h == host) ≡ b → asked_for d.ticket ≡ asks h
      by true e =
          let at : h ≡ host = same-number h host e in
          let one_is : d ≡ t.client = get-set-same w.clients host t.client d (subst (λ n. slice_get (slice_set w.clients host t.client) n ≡ Some d) at is) in
          ap (λ (x : Client). asked_for x.ticket) one_is ∙ same ∙ ap asks (sym at)
      by false e = agree h d (sym (get-set-other w.clients host h t.client (λ at. let sure : (h == host) ≡ true = number-same h host at in
          let bad : true ≡ false = sym sure ∙ e in cc)) ∙ is)

  module _ (host k : ℕ) (m : Message) (sent : slice_get w.packets k ≡ Some (to_host host m)) (c : Client) (at : slice_get w.clients host ≡ Some c) where
    here : c.who.host ≡ host
    here = (facts.holds.clients host c at).here

    below : host < hosts
    below = let small = get-below w.clients host c at in let all = facts.count in omega arith

    mine : asked_for c.ticket ≡ asks host
    mine = agree host c at

    taken : (t : ClientStep) → Takes turns c m t → ClientOut host m (after_client w host t)
    unfolding after_client
    taken t (fewer less) = turned (map (from_host host) t.sends) refl (let set = sum-set turns w.clients host c t.client at in omega arith)
    taken t (again x file tag r is asked wants sends then no_more) =
        went_on _ _ (ap (λ ms. w.packets ++ map (from_host host) ms) sends) (adds-pair w.packets host c.xid (c.xid + 1) file c.who tag r) refl
        (agree-after host c t (then ∙ sym asked ∙ mine)) (let set = sum-set turns w.clients host c t.client at in omega arith)
        (asks_again (length w.packets) c.xid (c.xid + 1) x file c.who tag r is refl here below (sym mine ∙ asked) wants)
    taken t (silent x file tag is off then (inl none) no_more) =
        went_on [] [] (ap (λ ms. w.packets ++ map (from_host host) ms) none) (adds-none w.packets) refl (agree-after host c t (then ∙ mine))
        (let set = sum-set turns w.clients host c t.client at in omega arith) (nothing refl)
    taken t (silent x file tag is off then (inr gave) no_more) =
        went_on _ _ (ap (λ ms. w.packets ++ map (from_host host) ms) gave)
        (adds-ones w.packets (from_host host (call c.xid (Request.Vacated c.who file tag)) ∷ [])) refl (agree-after host c t (then ∙ mine))
        (let set = sum-set turns w.clients host c t.client at in omega arith)
        (gives_up (length w.packets) c.xid x file c.who tag is refl here below (ap (wants_in file) (sym mine) ∙ off))

    heard : (o : Option ClientStep) → hear c k m ≡ o → ClientOut host m (after_hearing w host o)
    heard None e = stays host m
    heard (Some t) e = taken t (facts.takes host k c m t at sent e)

  found : (host k : ℕ) (m : Message) → slice_get w.packets k ≡ Some (to_host host m) → (o : Option Client) → slice_get w.clients host ≡ o
      → ClientOut host m (deliver_to_client w k host m o)
  found host k m sent None e = stays host m
  found host k m sent (Some c) e = heard host k m sent c e (hear c k m) refl

  pub client-delivered : (host k : ℕ) (m : Message) → slice_get w.packets k ≡ Some (to_host host m) → ClientOut host m (deliver w k (Some (to_host host m)))
  client-delivered host k m sent = found host k m sent (slice_get w.clients host) refl
