-- What was stored of a block are earlier writes than those that a client or its host can still store.
use Rattle.std.proofs.Common.{◌≡◌, ◌≢◌, ◌<◌, ◌≤◌, ◌⊎◌, ℕ, false, List, ◌++◌, Some, None, map, sym, subst, ◌∙◌, arith, inl, inr}
use Rattle.nq_base.specs.Block.{value_of}
use Rattle.nq_base.specs.declared.Entry.{Entry}
use Rattle.nq_base.specs.declared.Entry.TheVariants.{W}
use Rattle.nq_base.specs.declared.HostRow.{HostRow}
use Rattle.nq_base.specs.declared.Push.{Push}
use Rattle.nq_base.specs.declared.Request.{Request}
use Rattle.nq_base.specs.declared.Who.{Who}
use Rattle.walk_steps.proofs.ClientFacts.{push_in}
use Rattle.walk_steps.proofs.ClientMoves.{none-some, some-same}
use Rattle.walk_files.proofs.JournalMoves.{store-covers, covers-more}
use Rattle.walk_files.proofs.WritesFit.{CoversNumber, IsClear, IsRising, IsBehind, PushStands, waits, stored, LiesWithin, in_list, under_way}
use Rattle.walk_files.proofs.WritesFit.{IsOpenPush, WritesFit}
use Rattle.walk_files.proofs.Entries.{IsIdle, stored-skip, stored-covered, rising-split}
use Rattle.walk_files.proofs.Held.{stored-drawn}
use Rattle.walk_files.proofs.Stores.{StoresNumber, Rests}
use Rattle.nq_model.specs.protocol.Client.{Client, ClientStep}
use Rattle.nq_model.specs.laws.Journal.{Throughout, Each}
use Rattle.nq_model.specs.protocol.Message.{Message, Packet, call, asker}
use Rattle.nq_model.specs.protocol.World.{from_host}
use Rattle.walk_steps.proofs.Mail.{sent-calls, sent-host}
use Rattle.walk_steps.proofs.Packets.{In, in-append, Asked}
use Rattle.walk_files.proofs.StillFits.{push-sequence}

-- what was stored of the block are earlier writes
abbrev pub IsAfterStores : (journal : List Entry) (who : Who) (file block first : ℕ) → Type 0
IsAfterStores journal who file block first = (n : ℕ) → StoresNumber journal who file block n → n < first

-- of each push that can still be stored, and of the push under way where it waits
pub record Earlier (line : HostRow) (c : Client) (ps : List Packet) (journal : List Entry) : Type 0 where
  pub sent : (v : Who) (p : Push) → IsOpenPush line ps c.who.host v p → IsAfterStores journal v p.file p.block p.first
  pub under_way : (p : Push) → c.push ≡ Some p → IsClear journal c.who p.file p.block p.first p.last → IsAfterStores journal c.who p.file p.block p.first

below-or-not : (m n : ℕ) → (m < n) ⊎ (n ≤ m)
below-or-not m n = grind arith

module _ (line : HostRow) (c : Client) (ps : List Packet) (j : List Entry) (facts : WritesFit line c ps j) where
  -- the writes of the push under way wait, or were stored
  pub push-stands : (p : Push) → c.push ≡ Some p → (n : ℕ) × PushStands line c.who n j p
  push-stands p is =
      let k = facts.under_way p is in
      let n = push-sequence k.request.request p k.pushes in
      (n.0, (facts.pushed p k.request n.0 is k.asks n.1).stands)

  pub push-behind : (p : Push) → c.push ≡ Some p → IsBehind c.who j p
  push-behind p is =
      let k = facts.under_way p is in
      let n = push-sequence k.request.request p k.pushes in
      (facts.pushed p k.request n.0 is k.asks n.1).behind

module _ (line : HostRow) (c : Client) (ps : List Packet) (j : List Entry) (facts : WritesFit line c ps j) (rests : Throughout Rests j) where
  module _ (es : List Entry) (rising : Throughout IsRising (es ++ j)) (idle : Each IsIdle es) (earlier : Earlier line c ps j) where
    -- an uncovered write that stood before, and a stored one of the block above it
    none-above : (file block last v m : ℕ) → In j (W c.who file block last v false) → (CoversNumber (es ++ j) c.who file block last → ⊥)
        → StoresNumber j c.who file block m → last < m → ⊥
    none-above file block last v m there free stores above = case (facts.list.unsaved file block last v there)
      where
        within : LiesWithin c.dirty c.push file block last → ⊥
        within (in_list q i f b low high) =
            let past : m < q.first = (facts.list.listed q i).above m
            (subst (λ z. CoversNumber j c.who z q.block m) (sym f)
            (subst (λ z. CoversNumber j c.who file z m) (sym b) (stored-covered j c.who file block m 0 stores))) in
            omega arith
        within (under_way q is f b low high) = stands (push-stands line c ps j facts q is).1
          where
            stands : {n : ℕ} → PushStands line c.who n j q → ⊥
            stands (stored now d i) =
                free (covers-more es j c.who file block last
                (subst (λ z. CoversNumber j c.who z block last) f
                (subst (λ z. CoversNumber j c.who q.file z last) b (store-covers j c.who q.file q.block q.first q.last now last i low high))))
            stands (waits undone clear) =
                let past : m < q.first = earlier.under_way q is clear m
                (subst (λ z. StoresNumber j c.who z q.block m) (sym f) (subst (λ z. StoresNumber j c.who file z m) (sym b) stores)) in
                omega arith

        case : CoversNumber j c.who file block last ⊎ LiesWithin c.dirty c.push file block last → ⊥
        case (inl covered) = free (covers-more es j c.who file block last covered)
        case (inr w) = within w

    -- after a step of the client: where its writes wait, what was stored of their block are earlier ones
    pub own-after : (file block first last v : ℕ) → first ≤ last → In (es ++ j) (W c.who file block last v false)
        → IsClear (es ++ j) c.who file block first last → IsAfterStores (es ++ j) c.who file block first
    own-after file block first last v ordered there clear m s = case (below-or-not m first) (below-or-not last m)
      where
        before : StoresNumber j c.who file block m
        before = stored-skip es j (W c.who file block m 0 false) idle s

        drawn : (k : ℕ) × (u : ℕ) × (m ≤ k) × In j (W c.who file block k u false)
        drawn = stored-drawn j c.who file block m 0 rests before

        place : last < m → In es (W c.who file block last v false) ⊎ In j (W c.who file block last v false) → m < first
        place above (inl new) =
            let at = rising-split es j c.who file block last v file block drawn.0 drawn.1 rising new drawn.3 in let most = drawn.2 in absurd (omega arith)
        place above (inr old) = absurd (none-above file block last v m old (λ covered. clear last ordered (omega arith) covered) before above)

        case : (m < first) ⊎ (first ≤ m) → (last < m) ⊎ (m ≤ last) → m < first
        case (inl below) other = below
        case (inr low) (inr high) = absurd (clear m low high (stored-covered (es ++ j) c.who file block m 0 s))
        case (inr low) (inl above) = place above (in-append es j (W c.who file block last v false) there)

-- ---- a step of a client

-- what the step's messages ask: it is of the incarnation that goes on, or no push
pub data Goes (c : Client) (t : ClientStep) : Type 0 where
  goes_on : t.client.who ≡ c.who → ((x : ℕ) (r : Request) → In t.sends (call x r) → asker r ≡ Some c.who) → Goes c t
  begins : t.client.push ≡ None → ((x : ℕ) (r : Request) → In t.sends (call x r) → push_in r ≡ None) → Goes c t

module _ (line : HostRow) (c : Client) (t : ClientStep) (ps : List Packet) (j : List Entry) (facts : WritesFit line c ps j) (rests : Throughout Rests j)
    (rising : Throughout IsRising (t.entries ++ j)) (idle : Each IsIdle t.entries) (earlier : Earlier line c ps j) (goes : Goes c t)
    (home : t.client.who.host ≡ c.who.host) (after : WritesFit line t.client (ps ++ map (from_host c.who.host) t.sends) (t.entries ++ j)) where
  abbrev Packets : List Packet
  Packets = ps ++ map (from_host c.who.host) t.sends

  new-sent : (v : Who) (p : Push) → IsOpenPush line Packets c.who.host v p → v ≡ c.who → IsAfterStores (t.entries ++ j) v p.file p.block p.first
  new-sent v p o same =
      let here : IsOpenPush line Packets t.client.who.host v p = subst (λ n. IsOpenPush line Packets n v p) (sym home) o in
      let behind = after.sent.behind v p here in
      let clear = after.sent.clear v p here in
      subst (λ z. IsAfterStores (t.entries ++ j) z p.file p.block p.first) (sym same)
      (own-after line c ps j facts rests t.entries rising idle earlier p.file p.block p.first p.last (value_of p.body) behind.ordered
      (subst (λ z. In (t.entries ++ j) (W z p.file p.block p.last (value_of p.body) false)) same behind.last_there)
      (subst (λ z. IsClear (t.entries ++ j) z p.file p.block p.first p.last) same clear))

  sent-after : (v : Who) (p : Push) → IsOpenPush line Packets c.who.host v p → IsAfterStores (t.entries ++ j) v p.file p.block p.first
  sent-after v p o = case (in-append ps (map (from_host c.who.host) t.sends) (from_host c.who.host (call o.xid asks)) o.asked) goes
    where
      asks : Request
      asks = Request.Write v o.seq p.file p.block p.first p.last (Some o.base) p.body

      case : Asked ps c.who.host o.xid asks ⊎ In (map (from_host c.who.host) t.sends) (from_host c.who.host (call o.xid asks)) → Goes c t
          → IsAfterStores (t.entries ++ j) v p.file p.block p.first
      case (inl old) g =
          λ n s. earlier.sent v p (record { xid = o.xid; seq = o.seq; base = o.base; home = o.home; asked = old; kept = o.kept; above = o.above }) n
          (stored-skip t.entries j (W v p.file p.block n 0 false) idle s)
      case (inr new) (goes_on same own) = new-sent v p o (some-same v c.who (own o.xid asks (sent-calls c.who.host c.who.host t.sends o.xid asks new)))
      case (inr new) (begins none no_push) = none-some p (sym (no_push o.xid asks (sent-calls c.who.host c.who.host t.sends o.xid asks new)))

  pushed-after : (p : Push) → t.client.push ≡ Some p → IsClear (t.entries ++ j) t.client.who p.file p.block p.first p.last
      → IsAfterStores (t.entries ++ j) t.client.who p.file p.block p.first
  pushed-after p is clear = case goes
    where
      behind : IsBehind t.client.who (t.entries ++ j) p
      behind = push-behind line t.client Packets (t.entries ++ j) after p is

      case : Goes c t → IsAfterStores (t.entries ++ j) t.client.who p.file p.block p.first
      case (begins none no_push) = none-some p (sym none ∙ is)
      case (goes_on same own) =
          subst (λ z. IsAfterStores (t.entries ++ j) z p.file p.block p.first) (sym same)
          (own-after line c ps j facts rests t.entries rising idle earlier p.file p.block p.first p.last (value_of p.body) behind.ordered
          (subst (λ z. In (t.entries ++ j) (W z p.file p.block p.last (value_of p.body) false)) same behind.last_there)
          (subst (λ z. IsClear (t.entries ++ j) z p.file p.block p.first p.last) same clear))

  pub earlier-own : Earlier line t.client Packets (t.entries ++ j)
  earlier-own = record {
    sent = λ v p o. sent-after v p (subst (λ n. IsOpenPush line Packets n v p) home o);
    under_way = pushed-after;
  }

-- another client's step
pub earlier-other : (line : HostRow) (c : Client) (host : ℕ) (sends : List Message) (es : List Entry) (ps : List Packet) (j : List Entry)
    → host ≢ c.who.host → Each IsIdle es → Earlier line c ps j → Earlier line c (ps ++ map (from_host host) sends) (es ++ j)
earlier-other line c host sends es ps j apart idle h = record {
  sent =
      λ v p o n s. h.sent v p (was v p o
      (in-append ps (map (from_host host) sends)
      (from_host c.who.host (call o.xid (Request.Write v o.seq p.file p.block p.first p.last (Some o.base) p.body))) o.asked)) n
      (stored-skip es j (W v p.file p.block n 0 false) idle s);
  under_way =
      λ p is clear n s. h.under_way p is (λ m a b covered. clear m a b (covers-more es j c.who p.file p.block m covered)) n
      (stored-skip es j (W c.who p.file p.block n 0 false) idle s);
} where
  was : (v : Who) (p : Push) (o : IsOpenPush line (ps ++ map (from_host host) sends) c.who.host v p)
      → Asked ps c.who.host o.xid (Request.Write v o.seq p.file p.block p.first p.last (Some o.base) p.body)
      ⊎ In (map (from_host host) sends) (from_host c.who.host (call o.xid (Request.Write v o.seq p.file p.block p.first p.last (Some o.base) p.body)))
      → IsOpenPush line ps c.who.host v p
  was v p o (inl old) = record { xid = o.xid; seq = o.seq; base = o.base; home = o.home; asked = old; kept = o.kept; above = o.above }
  was v p o (inr new) =
      absurd (apart (sent-host host c.who.host sends (call o.xid (Request.Write v o.seq p.file p.block p.first p.last (Some o.base) p.body)) new))
