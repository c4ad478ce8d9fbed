-- The line of a host's decided calls, and what is under way for it: what holds of both for each client.
use Rattle.std.proofs.Common.{◌≡◌, ◌<◌, ◌≤◌, ◌⊎◌, ℕ, Bool, true, false, List, [], ◌∷◌, ◌++◌, Option, Some, None, refl, sym, subst, ap, ◌∙◌, arith, inl, inr}
use Rattle.std.proofs.lemmas.Bool.{both_ways}
use Rattle.nq_base.specs.declared.HostRow.{HostRow}
use Rattle.nq_base.specs.declared.Reply.{Reply}
use Rattle.nq_base.specs.declared.Request.{Request}
use Rattle.nq_base.specs.declared.Tag.{Tag}
use Rattle.nq_base.specs.declared.Who.{Who}
use Rattle.walk_steps.proofs.ClientMoves.{some-same, none-some}
use Rattle.walk_steps.proofs.Packets.{In, in-last, Asked, Told, message-same, not-both, call-same, Mail}
use Rattle.nq_model.specs.protocol.Client.{Ticket, Notice}
use Rattle.nq_model.specs.protocol.Hear.{inc_of}
use Rattle.nq_model.specs.protocol.Message.{Packet, call, reply, asker, sequence_of}
use Rattle.nq_model.specs.protocol.Server.{to_host}
use Rattle.nq_model.specs.protocol.World.{from_host}

-- a request that is decided once was decided, or is under way
abbrev pub IsSettled : (ticket : Option Ticket) (decided x n : ℕ) → Type 0
IsSettled ticket decided x n = (n ≤ decided) ⊎ ((t : Ticket) × (ticket ≡ Some t) × (t.xid ≡ x))

-- a reply to the request under way comes only where the request was decided, if it is one that is
pub record IsDecidedBy (who : Who) (line : HostRow) (n : ℕ) : Type 0 where
  pub inc : line.inc ≡ who.inc
  pub decided : n ≤ line.seq

-- the kept line of a client's host fits the client and its packets
pub record LineFits (who : Who) (attached : Bool) (ticket : Option Ticket) (notices : List Notice) (line : HostRow) (ps : List Packet) : Type 0 where
  -- the kept incarnation is no later than the running one, and the same where the client is attached
  pub past : line.inc ≤ who.inc
  pub current : attached ≡ true → line.inc ≡ who.inc
  -- an incarnation that was told that it is attached is the kept one
  pub told : (x inc : ℕ) → Told ps who.host (reply x (Reply.Attach inc)) → inc ≡ who.inc → line.inc ≡ who.inc
  -- all that an incarnation after the kept one sent is ATTACH
  pub above : (x : ℕ) (r : Request) (w : Who) → Asked ps who.host x r → asker r ≡ Some w → line.inc < w.inc → r ≡ Request.Attach w
  -- and so it is for a running one that is not attached, which no notice was sent to
  pub waiting : attached ≡ false → (x : ℕ) (r : Request) (w : Who) → Asked ps who.host x r → asker r ≡ Some w → w.inc ≡ who.inc → r ≡ Request.Attach w
  pub unnoticed : attached ≡ false → notices ≡ []
  pub evicted_past : (x : ℕ) (w : Who) (file : ℕ) (tag : Tag) → Told ps who.host (call x (Request.Evicted w file tag)) → w.inc ≤ who.inc
  pub unheard : attached ≡ false → (x : ℕ) (w : Who) (file : ℕ) (tag : Tag) → Told ps who.host (call x (Request.Evicted w file tag)) → w.inc ≡ who.inc → ⊥
  -- each request of the running incarnation was decided, or is under way
  pub settled : line.inc ≡ who.inc → (x : ℕ) (r : Request) (w : Who) (n : ℕ) → Asked ps who.host x r → asker r ≡ Some w → w.inc ≡ who.inc
      → sequence_of r ≡ Some n → IsSettled ticket line.seq x n
  -- a reply to the one under way comes once it was decided
  pub answered : (x : ℕ) (a : Reply) → Told ps who.host (reply x a) → inc_of a ≡ who.inc → (t : Ticket) → ticket ≡ Some t → t.xid ≡ x → (n : ℕ)
      → sequence_of t.request ≡ Some n → IsDecidedBy who line n

-- a request is sent by an attached client with none under way
pub line-sends : {who : Who} {attached : Bool} {notices : List Notice} {line : HostRow} {ps : List Packet} (xid : ℕ) (t : Ticket) → t.xid ≡ xid
    → attached ≡ true → asker t.request ≡ Some who → Mail who xid None ps → LineFits who attached None notices line ps
    → LineFits who attached (Some t) notices line (ps ++ from_host who.host (call xid t.request) ∷ [])
line-sends {who = who} {attached = attached} {notices = notices} {line = line} {ps = ps} xid t numbered is_attached asks m h = record {
  past = h.past;
  current = h.current;
  told = λ x inc sent. h.told x inc (old x (Reply.Attach inc) sent);
  above = λ x r w sent by later. above x r w by later (in-last ps mine (from_host who.host (call x r)) sent);
  waiting = λ e. absurd (both_ways attached e is_attached);
  unnoticed = h.unnoticed;
  evicted_past =
      λ x w file tag sent. h.evicted_past x w file tag (older x w file tag (in-last ps mine (to_host who.host (call x (Request.Evicted w file tag))) sent));
  unheard = λ e. absurd (both_ways attached e is_attached);
  settled = λ kept x r w n sent by inc seq. settled kept x r w n by inc seq (in-last ps mine (from_host who.host (call x r)) sent);
  answered =
      λ x a sent inc u e same n seq. let fresh = (m.replied x a (old x a sent) inc).number in let one : t ≡ u = some-same t u e in
      let number : t.xid ≡ x = ap (λ z. z.xid) one ∙ same in absurd (omega arith);
} where
  mine : Packet
  mine = from_host who.host (call xid t.request)

  older : (x : ℕ) (w : Who) (file : ℕ) (tag : Tag)
      → In ps (to_host who.host (call x (Request.Evicted w file tag))) ⊎ (mine ≡ to_host who.host (call x (Request.Evicted w file tag)))
      → In ps (to_host who.host (call x (Request.Evicted w file tag)))
  older x w file tag (inl there) = there
  older x w file tag (inr bad) = absurd (not-both who.host who.host (call xid t.request) (call x (Request.Evicted w file tag)) bad)

  old : (x : ℕ) (a : Reply) → In (ps ++ mine ∷ []) (to_host who.host (reply x a)) → In ps (to_host who.host (reply x a))
  old x a sent = step (in-last ps mine (to_host who.host (reply x a)) sent)
    where
      step : In ps (to_host who.host (reply x a)) ⊎ (mine ≡ to_host who.host (reply x a)) → In ps (to_host who.host (reply x a))
      step (inl there) = there
      step (inr bad) = absurd (not-both who.host who.host (call xid t.request) (reply x a) bad)

  above : (x : ℕ) (r : Request) (w : Who) → asker r ≡ Some w → line.inc < w.inc
      → In ps (from_host who.host (call x r)) ⊎ (mine ≡ from_host who.host (call x r)) → r ≡ Request.Attach w
  above x r w by later (inl there) = h.above x r w there by later
  above x r w by later (inr new) =
      let c = call-same xid x t.request r (message-same who.host who.host (call xid t.request) (call x r) new).1 in
      let one : who ≡ w = some-same who w (sym asks ∙ ap asker c.1 ∙ by) in
      let inc : who.inc ≡ w.inc = ap (λ z. z.inc) one in
      let kept = h.current is_attached in
      absurd (omega arith)

  settled : line.inc ≡ who.inc → (x : ℕ) (r : Request) (w : Who) (n : ℕ) → asker r ≡ Some w → w.inc ≡ who.inc → sequence_of r ≡ Some n
      → In ps (from_host who.host (call x r)) ⊎ (mine ≡ from_host who.host (call x r)) → IsSettled (Some t) line.seq x n
  settled kept x r w n by inc seq (inl there) = case (h.settled kept x r w n there by inc seq)
    where
      case : IsSettled None line.seq x n → IsSettled (Some t) line.seq x n
      case (inl below) = inl below
      case (inr u) = none-some u.0 u.1
  settled kept x r w n by inc seq (inr new) =
      let c = call-same xid x t.request r (message-same who.host who.host (call xid t.request) (call x r) new).1 in
      inr (t, refl, numbered ∙ c.0)

-- a message is sent that is no request to be decided, by an attached client
pub line-adds : {who : Who} {attached : Bool} {ticket : Option Ticket} {notices : List Notice} {line : HostRow} {ps : List Packet} (xid : ℕ)
    (request : Request) → attached ≡ true → asker request ≡ Some who → sequence_of request ≡ None → LineFits who attached ticket notices line ps
    → LineFits who attached ticket notices line (ps ++ from_host who.host (call xid request) ∷ [])
line-adds {who = who} {attached = attached} {ticket = ticket} {notices = notices} {line = line} {ps = ps} xid request is_attached asks no_seq h = record {
  past = h.past;
  current = h.current;
  told = λ x inc sent. h.told x inc (old x (Reply.Attach inc) sent);
  above = λ x r w sent by later. above x r w by later (in-last ps mine (from_host who.host (call x r)) sent);
  waiting = λ e. absurd (both_ways attached e is_attached);
  unnoticed = h.unnoticed;
  evicted_past =
      λ x w file tag sent. h.evicted_past x w file tag (older x w file tag (in-last ps mine (to_host who.host (call x (Request.Evicted w file tag))) sent));
  unheard = λ e. absurd (both_ways attached e is_attached);
  settled = λ kept x r w n sent by inc seq. settled kept x r w n by inc seq (in-last ps mine (from_host who.host (call x r)) sent);
  answered = λ x a sent. h.answered x a (old x a sent);
} where
  mine : Packet
  mine = from_host who.host (call xid request)

  older : (x : ℕ) (w : Who) (file : ℕ) (tag : Tag)
      → In ps (to_host who.host (call x (Request.Evicted w file tag))) ⊎ (mine ≡ to_host who.host (call x (Request.Evicted w file tag)))
      → In ps (to_host who.host (call x (Request.Evicted w file tag)))
  older x w file tag (inl there) = there
  older x w file tag (inr bad) = absurd (not-both who.host who.host (call xid request) (call x (Request.Evicted w file tag)) bad)

  old : (x : ℕ) (a : Reply) → In (ps ++ mine ∷ []) (to_host who.host (reply x a)) → In ps (to_host who.host (reply x a))
  old x a sent = step (in-last ps mine (to_host who.host (reply x a)) sent)
    where
      step : In ps (to_host who.host (reply x a)) ⊎ (mine ≡ to_host who.host (reply x a)) → In ps (to_host who.host (reply x a))
      step (inl there) = there
      step (inr bad) = absurd (not-both who.host who.host (call xid request) (reply x a) bad)

  above : (x : ℕ) (r : Request) (w : Who) → asker r ≡ Some w → line.inc < w.inc
      → In ps (from_host who.host (call x r)) ⊎ (mine ≡ from_host who.host (call x r)) → r ≡ Request.Attach w
  above x r w by later (inl there) = h.above x r w there by later
  above x r w by later (inr new) =
      let c = call-same xid x request r (message-same who.host who.host (call xid request) (call x r) new).1 in
      let one : who ≡ w = some-same who w (sym asks ∙ ap asker c.1 ∙ by) in
      let inc : who.inc ≡ w.inc = ap (λ z. z.inc) one in
      let kept = h.current is_attached in
      absurd (omega arith)

  settled : line.inc ≡ who.inc → (x : ℕ) (r : Request) (w : Who) (n : ℕ) → asker r ≡ Some w → w.inc ≡ who.inc → sequence_of r ≡ Some n
      → In ps (from_host who.host (call x r)) ⊎ (mine ≡ from_host who.host (call x r)) → IsSettled ticket line.seq x n
  settled kept x r w n by inc seq (inl there) = h.settled kept x r w n there by inc seq
  settled kept x r w n by inc seq (inr new) =
      let c = call-same xid x request r (message-same who.host who.host (call xid request) (call x r) new).1 in
      none-some n (sym no_seq ∙ ap sequence_of c.1 ∙ seq)

-- a packet that was sent is sent again
pub line-again : {who : Who} {attached : Bool} {ticket : Option Ticket} {notices : List Notice} {line : HostRow} {ps : List Packet} (p : Packet)
    → In ps p → LineFits who attached ticket notices line ps → LineFits who attached ticket notices line (ps ++ p ∷ [])
line-again {who = who} {ps = ps} p there h = record {
  past = h.past;
  current = h.current;
  told = λ x inc sent. h.told x inc (old (to_host who.host (reply x (Reply.Attach inc))) (in-last ps p (to_host who.host (reply x (Reply.Attach inc))) sent));
  above = λ x r w sent. h.above x r w (old (from_host who.host (call x r)) (in-last ps p (from_host who.host (call x r)) sent));
  waiting = λ e x r w sent. h.waiting e x r w (old (from_host who.host (call x r)) (in-last ps p (from_host who.host (call x r)) sent));
  unnoticed = h.unnoticed;
  evicted_past =
      λ x w file tag sent. h.evicted_past x w file tag
      (old (to_host who.host (call x (Request.Evicted w file tag))) (in-last ps p (to_host who.host (call x (Request.Evicted w file tag))) sent));
  unheard =
      λ e x w file tag sent. h.unheard e x w file tag
      (old (to_host who.host (call x (Request.Evicted w file tag))) (in-last ps p (to_host who.host (call x (Request.Evicted w file tag))) sent));
  settled = λ kept x r w n sent. h.settled kept x r w n (old (from_host who.host (call x r)) (in-last ps p (from_host who.host (call x r)) sent));
  answered = λ x a sent. h.answered x a (old (to_host who.host (reply x a)) (in-last ps p (to_host who.host (reply x a)) sent));
} where
  old : (q : Packet) → In ps q ⊎ (p ≡ q) → In ps q
  old q (inl i) = i
  old q (inr e) = subst (λ z. In ps z) e there

-- the request under way is another of the same number and content, or none where none is to be decided
pub line-ticket : {who : Who} {attached : Bool} {ticket : Option Ticket} {notices : List Notice} {line : HostRow} {ps : List Packet}
    (less : Option Ticket) → ((t : Ticket) → less ≡ Some t → (u : Ticket) × (ticket ≡ Some u) × (u.xid ≡ t.xid) × (u.request ≡ t.request))
    → ((x n : ℕ) → line.inc ≡ who.inc → IsSettled ticket line.seq x n → (r : Request) (w : Who) → Asked ps who.host x r → asker r ≡ Some w
    → w.inc ≡ who.inc → sequence_of r ≡ Some n → IsSettled less line.seq x n) → LineFits who attached ticket notices line ps
    → LineFits who attached less notices line ps
line-ticket less few keeps h = record {
  past = h.past;
  current = h.current;
  told = h.told;
  above = h.above;
  waiting = h.waiting;
  unnoticed = h.unnoticed;
  evicted_past = h.evicted_past;
  unheard = h.unheard;
  settled = λ kept x r w n sent by inc seq. keeps x n kept (h.settled kept x r w n sent by inc seq) r w sent by inc seq;
  answered = λ x a sent inc t e same n seq. let f = few t e in h.answered x a sent inc f.0 f.1 (f.2 ∙ same) n (ap sequence_of f.3 ∙ seq);
}
