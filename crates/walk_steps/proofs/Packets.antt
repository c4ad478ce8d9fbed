-- The packets that were sent, and what holds of the mail of one client.
use Rattle.std.proofs.Common.{◌≡◌, ◌<◌, ◌≤◌, ◌⊎◌, ℕ, zero, suc, ◌+◌, true, List, [], ◌∷◌, ◌++◌, Option, Some, None, sym, subst, ap, ◌∙◌, arith, inl, inr}
use Rattle.std.specs.Prelude.{slice_get}
use Rattle.nq_base.specs.declared.Grant.{Grant}
use Rattle.nq_base.specs.declared.Party.{Party}
use Rattle.nq_base.specs.declared.Reply.{Reply}
use Rattle.nq_base.specs.declared.Request.{Request}
use Rattle.nq_base.specs.declared.Who.{Who}
use Rattle.walk_steps.proofs.ClientMoves.{some-same, none-some}
use Rattle.nq_model.specs.protocol.Client.{Ticket}
use Rattle.nq_model.specs.protocol.Hear.{wants_of, inc_of}
use Rattle.nq_model.specs.laws.LeaseInterval.{grant_in, requested_file}
use Rattle.nq_model.specs.protocol.Message.{Message, Packet, call, reply, asker}
use Rattle.nq_model.specs.protocol.Server.{to_host}
use Rattle.nq_model.specs.protocol.World.{from_host}

-- an element is in a list
abbrev pub In : {A : Type 0} → List A → A → Type 0
In [] x = ⊥
In (y ∷ ys) x = (y ≡ x) ⊎ In ys x

pub in-left : {A : Type 0} (xs ys : List A) (x : A) → In xs x → In (xs ++ ys) x
in-left [] ys x h = absurd h
in-left (y ∷ xs) ys x (inl e) = inl e
in-left (y ∷ xs) ys x (inr h) = inr (in-left xs ys x h)

pub in-right : {A : Type 0} (xs ys : List A) (x : A) → In ys x → In (xs ++ ys) x
in-right [] ys x h = h
in-right (y ∷ xs) ys x h = inr (in-right xs ys x h)

pub in-append : {A : Type 0} (xs ys : List A) (x : A) → In (xs ++ ys) x → In xs x ⊎ In ys x
in-append [] ys x h = inr h
in-append (y ∷ xs) ys x (inl e) = inl (inl e)
in-append (y ∷ xs) ys x (inr h) = step (in-append xs ys x h)
  where
    step : In xs x ⊎ In ys x → ((y ≡ x) ⊎ In xs x) ⊎ In ys x
    step (inl a) = inl (inr a)
    step (inr b) = inr b

pub in-last : {A : Type 0} (xs : List A) (y x : A) → In (xs ++ y ∷ []) x → In xs x ⊎ (y ≡ x)
in-last xs y x h = step (in-append xs (y ∷ []) x h)
  where
    step : In xs x ⊎ ((y ≡ x) ⊎ ⊥) → In xs x ⊎ (y ≡ x)
    step (inl a) = inl a
    step (inr (inl e)) = inr e
    step (inr (inr bad)) = absurd bad

pub in-get : {A : Type 0} (xs : List A) (k : ℕ) (x : A) → slice_get xs k ≡ Some x → In xs x
in-get [] k x h = none-some x h
in-get (y ∷ xs) zero x h = inl (some-same y x h)
in-get (y ∷ xs) (suc k) x h = inr (in-get xs k x h)

-- a request that was sent from a host, and a message that was sent to it
abbrev pub Asked : List Packet → (host xid : ℕ) → Request → Type 0
Asked ps host xid r = In ps (from_host host (call xid r))

abbrev pub Told : List Packet → (host : ℕ) → Message → Type 0
Told ps host m = In ps (to_host host m)

-- packets of two kinds are two
pub message-same : (h h' : ℕ) (m m' : Message) → from_host h m ≡ from_host h' m' → (h ≡ h') × (m ≡ m')
message-same h h' m m' e = (client-same (ap (λ p. p.sender) e), ap (λ p. p.message) e)
  where
    client-same : Party.Client h ≡ Party.Client h' → h ≡ h'
    client-same f = cc

pub told-same : (h h' : ℕ) (m m' : Message) → to_host h m ≡ to_host h' m' → (h ≡ h') × (m ≡ m')
told-same h h' m m' e = (client-same (ap (λ p. p.to) e), ap (λ p. p.message) e)
  where
    client-same : Party.Client h ≡ Party.Client h' → h ≡ h'
    client-same f = cc

pub not-both : (h h' : ℕ) (m m' : Message) → from_host h m ≡ to_host h' m' → ⊥
not-both h h' m m' e = other (ap (λ p. p.sender) e)
  where
    other : Party.Client h ≡ Party.Server → ⊥
    other f = cc

pub call-same : (x y : ℕ) (r s : Request) → call x r ≡ call y s → (x ≡ y) × (r ≡ s)
call-same x y r s e = (cc, cc)

pub reply-same : (x y : ℕ) (a b : Reply) → reply x a ≡ reply y b → (x ≡ y) × (a ≡ b)
reply-same x y a b e = (cc, cc)

-- a request of a host's client: it is of an incarnation up to the running one, its number was drawn, and one that has
-- the number of the request under way is that
pub record IsAsked (who : Who) (xid : ℕ) (ticket : Option Ticket) (x : ℕ) (r : Request) (w : Who) : Type 0 where
  pub host : w.host ≡ who.host
  pub inc : w.inc ≤ who.inc
  pub number : w.inc ≡ who.inc → x < xid
  pub same : w.inc ≡ who.inc → (t : Ticket) → ticket ≡ Some t → t.xid ≡ x → t.request ≡ r

-- a reply to the running incarnation: its number was drawn, and where it answers the request under way it brings a grant
-- only if one was wanted
pub record IsReplied (xid : ℕ) (ticket : Option Ticket) (x : ℕ) (a : Reply) : Type 0 where
  pub number : x < xid
  pub wants : (t : Ticket) → ticket ≡ Some t → t.xid ≡ x → (g : Grant) → grant_in a ≡ Some g → (file : ℕ) → requested_file t.request ≡ Some file
      → wants_of file t.request ≡ true

-- the request under way was sent
pub record IsOwn (who : Who) (xid : ℕ) (ps : List Packet) (t : Ticket) : Type 0 where
  pub number : t.xid < xid
  pub asks : asker t.request ≡ Some who
  pub sent : Asked ps who.host t.xid t.request

-- the mail of one client
pub record Mail (who : Who) (xid : ℕ) (ticket : Option Ticket) (ps : List Packet) : Type 0 where
  pub asked : (x : ℕ) (r : Request) (w : Who) → Asked ps who.host x r → asker r ≡ Some w → IsAsked who xid ticket x r w
  pub replied : (x : ℕ) (a : Reply) → Told ps who.host (reply x a) → inc_of a ≡ who.inc → IsReplied xid ticket x a
  pub past : (x : ℕ) (a : Reply) → Told ps who.host (reply x a) → inc_of a ≤ who.inc
  pub own : (t : Ticket) → ticket ≡ Some t → IsOwn who xid ps t

-- the request under way is one of those that were, but for its sending times, or none
abbrev pub IsFewer : Option Ticket → Option Ticket → Type 0
IsFewer less more = (t : Ticket) → less ≡ Some t → (u : Ticket) × (more ≡ Some u) × (u.xid ≡ t.xid) × (u.request ≡ t.request)

pub fewer : {who : Who} {xid : ℕ} {ticket : Option Ticket} {ps : List Packet} (less : Option Ticket) → IsFewer less ticket → Mail who xid ticket ps
    → Mail who xid less ps
fewer {who = who} {xid = xid} {ps = ps} less few m = record {
  asked =
      λ x r w sent by. let k = m.asked x r w sent by in
      record { host = k.host; inc = k.inc; number = k.number; same = λ i t e n. let f = few t e in sym f.3 ∙ k.same i f.0 f.1 (f.2 ∙ n) };
  replied =
      λ x a sent i. let k = m.replied x a sent i in
      record {
        number = k.number;
        wants = λ t e n g grants file on. let f = few t e in
            subst (λ r. wants_of file r ≡ true) f.3 (k.wants f.0 f.1 (f.2 ∙ n) g grants file (ap requested_file f.3 ∙ on));
      };
  past = m.past;
  own =
      λ t e. let f = few t e in let k = m.own f.0 f.1 in
      record {
        number = subst (λ n. n < xid) f.2 k.number;
        asks = ap asker (sym f.3)
            ∙ k.asks;
        sent = subst (λ r. Asked ps who.host t.xid r) f.3 (subst (λ n. Asked ps who.host n f.0.request) f.2 k.sent);
      };
}

-- a request is sent, and is under way
pub mail-sends : {who : Who} {xid : ℕ} {ps : List Packet} (t : Ticket) → t.xid ≡ xid → asker t.request ≡ Some who → Mail who xid None ps
    → Mail who (xid + 1) (Some t) (ps ++ from_host who.host (call xid t.request) ∷ [])
mail-sends {who = who} {xid = xid} {ps = ps} t numbered asks m = record {
  asked = λ x r w sent by. case x r w by (in-last ps (from_host who.host (call xid t.request)) (from_host who.host (call x r)) sent);
  replied = λ x a sent i. told x a i (in-last ps (from_host who.host (call xid t.request)) (to_host who.host (reply x a)) sent);
  past = λ x a sent. m.past x a (gone x a (in-last ps (from_host who.host (call xid t.request)) (to_host who.host (reply x a)) sent));
  own =
      λ u e. let one : t ≡ u = some-same t u e in
      subst (λ z. IsOwn who (xid + 1) (ps ++ from_host who.host (call xid t.request) ∷ []) z) one
      (record {
        number = omega arith;
        asks = asks;
        sent = in-right ps (from_host who.host (call xid t.request) ∷ [])
            (from_host who.host (call t.xid t.request)) (inl (ap (λ n. from_host who.host (call n t.request)) (sym numbered)));
      });
} where
  gone : (x : ℕ) (a : Reply) → In ps (to_host who.host (reply x a)) ⊎ (from_host who.host (call xid t.request) ≡ to_host who.host (reply x a))
      → In ps (to_host who.host (reply x a))
  gone x a (inl old) = old
  gone x a (inr bad) = absurd (not-both who.host who.host (call xid t.request) (reply x a) bad)

  case : (x : ℕ) (r : Request) (w : Who) → asker r ≡ Some w
      → In ps (from_host who.host (call x r)) ⊎ (from_host who.host (call xid t.request) ≡ from_host who.host (call x r))
      → IsAsked who (xid + 1) (Some t) x r w
  case x r w by (inl old) = let k = m.asked x r w old by in record {
    host = k.host;
    inc = k.inc;
    number = λ i. let below = k.number i in omega arith;
    same = λ i u e n. let below = k.number i in let one : t ≡ u = some-same t u e in let first : t.xid ≡ x = ap (λ z. z.xid) one ∙ n in absurd (omega arith);
  }
  case x r w by (inr new) =
      let m = call-same xid x t.request r (message-same who.host who.host (call xid t.request) (call x r) new).1 in
      let same_who : who ≡ w = some-same who w (sym asks ∙ ap asker m.1 ∙ by) in
      record {
        host = ap (λ z. z.host) (sym same_who);
        inc = let e : who.inc ≡ w.inc = ap (λ z. z.inc) same_who in omega arith;
        number = λ i. let e = m.0 in omega arith;
        same = λ i u e n. ap (λ z. z.request) (sym (some-same t u e)) ∙ m.1;
      }

  told : (x : ℕ) (a : Reply) → inc_of a ≡ who.inc
      → In ps (to_host who.host (reply x a)) ⊎ (from_host who.host (call xid t.request) ≡ to_host who.host (reply x a)) → IsReplied (xid + 1) (Some t) x a
  told x a i (inl old) = let k = m.replied x a old i in record {
    number = let below = k.number in omega arith;
    wants =
        λ u e n g grants file on. let below = k.number in let one : t ≡ u = some-same t u e in let first : t.xid ≡ x = ap (λ z. z.xid) one ∙ n in
        absurd (omega arith);
  }
  told x a i (inr bad) = absurd (not-both who.host who.host (call xid t.request) (reply x a) bad)

-- a message is sent that is not the request under way, with the next number
pub mail-adds : {who : Who} {xid : ℕ} {ticket : Option Ticket} {ps : List Packet} (request : Request) → asker request ≡ Some who
    → Mail who xid ticket ps → Mail who (xid + 1) ticket (ps ++ from_host who.host (call xid request) ∷ [])
mail-adds {who = who} {xid = xid} {ticket = ticket} {ps = ps} request asks m = record {
  asked = λ x r w sent by. case x r w by (in-last ps (from_host who.host (call xid request)) (from_host who.host (call x r)) sent);
  replied = λ x a sent i. told x a i (in-last ps (from_host who.host (call xid request)) (to_host who.host (reply x a)) sent);
  past = λ x a sent. m.past x a (gone x a (in-last ps (from_host who.host (call xid request)) (to_host who.host (reply x a)) sent));
  own =
      λ u e. let k = m.own u e in record {
        number = let below = k.number in
            omega arith;
        asks = k.asks;
        sent = in-left ps (from_host who.host (call xid request) ∷ []) (from_host who.host (call u.xid u.request)) k.sent;
      };
} where
  gone : (x : ℕ) (a : Reply) → In ps (to_host who.host (reply x a)) ⊎ (from_host who.host (call xid request) ≡ to_host who.host (reply x a))
      → In ps (to_host who.host (reply x a))
  gone x a (inl old) = old
  gone x a (inr bad) = absurd (not-both who.host who.host (call xid request) (reply x a) bad)

  case : (x : ℕ) (r : Request) (w : Who) → asker r ≡ Some w
      → In ps (from_host who.host (call x r)) ⊎ (from_host who.host (call xid request) ≡ from_host who.host (call x r)) → IsAsked who (xid + 1) ticket x r w
  case x r w by (inl old) =
      let k = m.asked x r w old by in record { host = k.host; inc = k.inc; number = λ i. let below = k.number i in omega arith; same = k.same }
  case x r w by (inr new) =
      let c = call-same xid x request r (message-same who.host who.host (call xid request) (call x r) new).1 in
      let same_who : who ≡ w = some-same who w (sym asks ∙ ap asker c.1 ∙ by) in
      record {
        host = ap (λ z. z.host) (sym same_who);
        inc = let e : who.inc ≡ w.inc = ap (λ z. z.inc) same_who in omega arith;
        number = λ i. let e = c.0 in omega arith;
        same = λ i u e n. let below = (m.own u e).number in let g = c.0 in absurd (omega arith);
      }

  told : (x : ℕ) (a : Reply) → inc_of a ≡ who.inc
      → In ps (to_host who.host (reply x a)) ⊎ (from_host who.host (call xid request) ≡ to_host who.host (reply x a)) → IsReplied (xid + 1) ticket x a
  told x a i (inl old) = let k = m.replied x a old i in record { number = let below = k.number in omega arith; wants = k.wants }
  told x a i (inr bad) = absurd (not-both who.host who.host (call xid request) (reply x a) bad)

-- the request under way is sent again
pub mail-again : {who : Who} {xid : ℕ} {ticket : Option Ticket} {ps : List Packet} (t : Ticket) → ticket ≡ Some t → Mail who xid ticket ps
    → Mail who xid ticket (ps ++ from_host who.host (call t.xid t.request) ∷ [])
mail-again {who = who} {xid = xid} {ticket = ticket} {ps = ps} t is m = record {
  asked = λ x r w sent by. m.asked x r w (case x r (in-last ps (from_host who.host (call t.xid t.request)) (from_host who.host (call x r)) sent)) by;
  replied = λ x a sent i. m.replied x a (told x a (in-last ps (from_host who.host (call t.xid t.request)) (to_host who.host (reply x a)) sent)) i;
  past = λ x a sent. m.past x a (gone x a (in-last ps (from_host who.host (call t.xid t.request)) (to_host who.host (reply x a)) sent));
  own =
      λ u e. let k = m.own u e in record {
        number = k.number;
        asks = k.asks;
        sent = in-left ps (from_host who.host (call t.xid t.request) ∷ []) (from_host who.host (call u.xid u.request))
            k.sent;
      };
} where
  gone : (x : ℕ) (a : Reply) → In ps (to_host who.host (reply x a)) ⊎ (from_host who.host (call t.xid t.request) ≡ to_host who.host (reply x a))
      → In ps (to_host who.host (reply x a))
  gone x a (inl old) = old
  gone x a (inr bad) = absurd (not-both who.host who.host (call t.xid t.request) (reply x a) bad)

  case : (x : ℕ) (r : Request) → In ps (from_host who.host (call x r)) ⊎ (from_host who.host (call t.xid t.request) ≡ from_host who.host (call x r))
      → In ps (from_host who.host (call x r))
  case x r (inl old) = old
  case x r (inr new) = subst (λ p. In ps p) new (m.own t is).sent

  told : (x : ℕ) (a : Reply) → In ps (to_host who.host (reply x a)) ⊎ (from_host who.host (call t.xid t.request) ≡ to_host who.host (reply x a))
      → In ps (to_host who.host (reply x a))
  told x a (inl old) = old
  told x a (inr bad) = absurd (not-both who.host who.host (call t.xid t.request) (reply x a) bad)
