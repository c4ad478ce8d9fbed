-- What the journal has of a client's delayed writes is kept by each step of the server.
use Rattle.std.proofs.Common.{◌≡◌, ◌<◌, ◌≤◌, ◌⊎◌, ℕ, Bool, true, false, ◌==◌, List, [], ◌∷◌, ◌++◌, Option, Some, None, refl, sym, subst, ap, ◌∙◌}
use Rattle.std.proofs.Common.{arith, inl, inr}
use Rattle.nq_base.specs.Block.{value_of}
use Rattle.nq_base.specs.declared.Entry.{Entry}
use Rattle.nq_base.specs.declared.Entry.TheVariants.{W, S}
use Rattle.nq_base.specs.declared.HostRow.{HostRow}
use Rattle.nq_base.specs.declared.Push.{Push}
use Rattle.nq_base.specs.declared.PushBase.{PushBase}
use Rattle.nq_base.specs.declared.Request.{Request}
use Rattle.nq_base.specs.declared.Verdict.{Verdict}
use Rattle.nq_base.specs.declared.Who.{Who}
use Rattle.walk_steps.proofs.ClientFacts.{push_in}
use Rattle.walk_steps.proofs.ClientMoves.{some-same, none-some}
use Rattle.walk_files.proofs.FactMoves.{IsOfOther, quiet-other, behind-more, facts-others, facts-packets}
use Rattle.walk_files.proofs.JournalMoves.{covers-before}
use Rattle.walk_files.proofs.ServerTells.{DecidedAt, decided-at, AllQuiet, Effects, without, goes_through, pushes, Decides, Attaches, Moves}
use Rattle.walk_files.proofs.ServerTells.{same_lines, attaches_one, decides_one}
use Rattle.walk_files.proofs.WritesFit.{CoversNumber, IsDirty, IsDecidedAs, PushStands, waits, stored, IsPushed, LiesWithin, ListFits, IsOpenPush, Facts}
use Rattle.nq_model.specs.protocol.Client.{Ticket}
use Rattle.nq_model.specs.laws.Journal.{Covers}
use Rattle.nq_model.specs.protocol.Kept.{host_row}
use Rattle.nq_model.specs.protocol.Message.{Packet, asker, sequence_of}
use Rattle.nq_model.specs.protocol.Server.{Server, ServerStep}
use Rattle.walk_steps.proofs.OpenAt.{IsOpenAt, OneOpenAt}
use Rattle.walk_steps.proofs.HostLine.{IsSettled}
use Rattle.walk_steps.proofs.Packets.{In, Asked, Mail}
use Rattle.walk_steps.proofs.Incarnations.{one-who}
use Rattle.walk_steps.proofs.Rows.{same-number, number-same}

-- ---- one more entry, and another line

-- what one more entry may be for a client
pub record Adds (who : Who) (number : ℕ) (dirty : List Push) (push : Option Push) (e : Entry) : Type 0 where
  -- a write of it went through, with a number that was drawn
  pub writes : (f b n v : ℕ) (t : Bool) → e ≡ W who f b n v t → (n < number) × (t ≡ true)
  -- it covers numbers that were drawn, below those that are dirty
  pub covers : (f b n : ℕ) → Covers e (W who f b n 0 false) → (n < number) × ((q : Push) → In dirty q → q.file ≡ f → q.block ≡ b → n < q.first)
  -- and no later than those of a push under way
  pub tops : (f b n : ℕ) → Covers e (W who f b n 0 false) → (p : Push) → push ≡ Some p → p.file ≡ f → p.block ≡ b → n ≤ p.last

list-adds : {who : Who} {number : ℕ} {dirty : List Push} {push : Option Push} {j : List Entry} (e : Entry) → Adds who number dirty push e
    → ListFits who number dirty push j → ListFits who number dirty push (e ∷ j)
list-adds {who = who} {number = number} {dirty = dirty} {push = push} {j = j} e a h = record {
  listed = λ p i. let d = h.listed p i in record { behind = behind-more e d.behind; below = d.below; above = above p i d };
  apart = h.apart;
  distinct = h.distinct;
  earlier = h.earlier;
  top = top;
  numbers = numbers;
  covered = covered;
  unsaved = unsaved;
} where
  above : (p : Push) → In dirty p → IsDirty who number j p → (n : ℕ) → CoversNumber (e ∷ j) who p.file p.block n → n < p.first
  above p i d n (inl c) = (a.covers p.file p.block n c).1 p i refl refl
  above p i d n (inr c) = d.above n c

  numbers : (f b n v : ℕ) (t : Bool) → In (e ∷ j) (W who f b n v t) → n < number
  numbers f b n v t (inl same) = (a.writes f b n v t same).0
  numbers f b n v t (inr i) = h.numbers f b n v t i

  top : (p : Push) → push ≡ Some p → (n : ℕ) → CoversNumber (e ∷ j) who p.file p.block n → n ≤ p.last
  top p is n (inl c) = a.tops p.file p.block n c p is refl refl
  top p is n (inr c) = h.top p is n c

  covered : (f b n : ℕ) → CoversNumber (e ∷ j) who f b n → n < number
  covered f b n (inl c) = (a.covers f b n c).0
  covered f b n (inr c) = h.covered f b n c

  more : (f b n : ℕ) → CoversNumber j who f b n ⊎ LiesWithin dirty push f b n → CoversNumber (e ∷ j) who f b n ⊎ LiesWithin dirty push f b n
  more f b n (inl c) = inl (inr c)
  more f b n (inr l) = inr l

  unsaved : (f b n v : ℕ) → In (e ∷ j) (W who f b n v false) → CoversNumber (e ∷ j) who f b n ⊎ LiesWithin dirty push f b n
  unsaved f b n v (inl same) = let k = (a.writes f b n v false same).1 in absurd (cc)
  unsaved f b n v (inr i) = more f b n (h.unsaved f b n v i)

-- ---- a step of the server

all-of-other : (host : ℕ) (es : List Entry) → AllQuiet es → (e : Entry) → In es e → IsOfOther host e
all-of-other host es quiet e i = quiet-other host e (quiet e i)

one-of-other : (host : ℕ) (x : Entry) → IsOfOther host x → (e : Entry) → In (x ∷ []) e → IsOfOther host e
one-of-other host x o e (inl same) = subst (IsOfOther host) same o
one-of-other host x o e (inr bad) = absurd bad

-- what is known of a client, the kept line of its host and the packets before a step, and of the line after it
pub record Before (line after : HostRow) (who : Who) (xid number seq : ℕ) (ticket : Option Ticket) (dirty : List Push) (push : Option Push)
    (ps : List Packet) (j : List Entry) : Type 0 where
  pub facts : Facts line who number seq ticket dirty push ps j
  pub mail : Mail who xid ticket ps
  pub above : (x : ℕ) (r : Request) (w : Who) → Asked ps who.host x r → asker r ≡ Some w → line.inc < w.inc → r ≡ Request.Attach w
  pub settled : line.inc ≡ who.inc → (x : ℕ) (r : Request) (w : Who) (n : ℕ) → Asked ps who.host x r → asker r ≡ Some w → w.inc ≡ who.inc
      → sequence_of r ≡ Some n → IsSettled ticket line.seq x n
  pub pushing : (p : Push) → push ≡ Some p → line.inc ≡ who.inc
  pub one : OneOpenAt line ps who.host
  pub drawn : after.inc ≡ who.inc → after.seq < seq

module _ (s : Server) (t : ServerStep) (who : Who) (xid number seq : ℕ) (ticket : Option Ticket) (dirty : List Push) (push : Option Push)
    (ps : List Packet) (j : List Entry)
    (old : (x : ℕ) (r : Request) → Asked (ps ++ t.sends) who.host x r → Asked ps who.host x r)
    (b : Before (host_row s.kept who.host) (host_row t.server.kept who.host) who xid number seq ticket dirty push ps j) where
  abbrev line : HostRow
  line = host_row s.kept who.host

  abbrev after : HostRow
  after = host_row t.server.kept who.host

  abbrev Result : List Entry → Type 0
  Result es = Facts after who number seq ticket dirty push (ps ++ t.sends) (es ++ j)

  -- the line stays, and the entries are of others
  stays : after ≡ line → ((e : Entry) → In t.entries e → IsOfOther who.host e) → Result t.entries
  stays same others =
      subst (λ l. Facts l who number seq ticket dirty push (ps ++ t.sends) (t.entries ++ j)) (sym same)
      (facts-packets (ps ++ t.sends) old (facts-others t.entries j others b.facts))

  -- ---- a later incarnation begins

  attaches : (k : Attaches ps s t) → AllQuiet t.entries → who.host ≡ k.w.host → Result t.entries
  attaches k quiet same = record {
    list = f.list;
    pushed = λ p u n is has sq. absurd (no-push p is);
    sent = record {
      behind = λ w p o. absurd (none-open w p o);
      clear = λ w p o. absurd (none-open w p o);
      top = λ w p o. absurd (none-open w p o);
      drawn = f.sent.drawn;
      earlier = f.sent.earlier;
    };
    under_way = f.under_way;
    drawn = b.drawn;
    past = f.past;
    past_covers = f.past_covers;
  } where
    f : Facts line who number seq ticket dirty push (ps ++ t.sends) (t.entries ++ j)
    f = facts-packets (ps ++ t.sends) old (facts-others t.entries j (all-of-other who.host t.entries quiet) b.facts)

    inc : after.inc ≡ k.w.inc
    inc = ap (λ n. (host_row t.server.kept n).inc) same ∙ k.inc_after

    up : line.inc < k.w.inc
    up = let a = k.above in let e : line.inc ≡ (host_row s.kept k.w.host).inc = ap (λ n. (host_row s.kept n).inc) same in omega arith

    no-push : (p : Push) → push ≡ Some p → ⊥
    no-push p is =
        let below = (b.mail.asked k.x (Request.Attach k.w) k.w (subst (λ n. Asked ps n k.x (Request.Attach k.w)) (sym same) k.asked) refl).inc in
        let kept = b.pushing p is in
        let a = up in
        omega arith

    none-open : (w : Who) (p : Push) → IsOpenPush after (ps ++ t.sends) who.host w p → ⊥
    none-open w p o =
        let a = up in
        let e = inc in
        let kept = o.kept in
        let attaching = b.above o.xid (Request.Write w o.seq p.file p.block p.first p.last (Some o.base) p.body) w (old o.xid _ o.asked) refl (omega arith) in
        cc

  attached : (k : Attaches ps s t) → AllQuiet t.entries → (bool : Bool) → (who.host == k.w.host) ≡ bool → Result t.entries
  attached k quiet true e = attaches k quiet (same-number _ _ e)
  attached k quiet false e =
      stays (k.others who.host (λ same. let yes : (who.host == k.w.host) ≡ true = number-same _ _ same in absurd (cc)))
      (all-of-other who.host t.entries quiet)

  -- ---- a request of this host is decided

  module _ (k : Decides ps s t) (same : who.host ≡ k.w.host) where
    here : DecidedAt ps s t k who.host
    here = decided-at ps s t k who.host same

    -- then no request of the host is open
    none-open : (w : Who) (p : Push) → IsOpenPush after (ps ++ t.sends) who.host w p → ⊥
    none-open w p o =
        let r : Request = Request.Write w o.seq p.file p.block p.first p.last (Some o.base) p.body in
        let e = here.is_inc in
        let n = here.is_seq in
        let i = here.was_inc in
        let below = here.was_below in
        let up = o.above in
        let kept = o.kept in
        let mine : IsOpenAt line ps who.host k.x k.r = record
        { who = k.w; seq = k.seq; asked = here.asked; by = k.by; kept = here.was_inc; draws = k.draws; above = here.was_below } in
        let other : IsOpenAt line ps who.host o.xid r = record
        { who = w; seq = o.seq; asked = old o.xid r o.asked; by = refl; kept = omega arith; draws = refl; above = omega arith } in
        let one = (b.one k.x o.xid k.r r mine other).1 in
        let number : k.seq ≡ o.seq = some-same k.seq o.seq (sym k.draws ∙ ap sequence_of one) in
        omega arith

    -- a push under way is what is decided
    is-it : (p : Push) → push ≡ Some p → (w : k.w ≡ who) × (push_in k.r ≡ Some p)
    is-it p is = (one-who k.w who (sym same) mine, case (b.settled kept k.x k.r k.w k.seq here.asked k.by mine k.draws))
      where
        kept : line.inc ≡ who.inc
        kept = b.pushing p is

        mine : k.w.inc ≡ who.inc
        mine = sym here.was_inc ∙ kept

        case : IsSettled ticket line.seq k.x k.seq → push_in k.r ≡ Some p
        case (inl below) = let up = here.was_below in absurd (omega arith)
        case (inr u) =
            let h = b.facts.under_way p is in
            let one : h.request ≡ u.0 = some-same h.request u.0 (sym h.asks ∙ u.1) in
            let asks : u.0.request ≡ k.r = (b.mail.asked k.x k.r k.w here.asked k.by).same mine u.0 u.1 u.2 in
            ap push_in (sym asks ∙ ap (λ z. z.request) (sym one)) ∙ h.pushes

    seq-is : (p : Push) (u : Ticket) (n : ℕ) → push ≡ Some p → ticket ≡ Some u → sequence_of u.request ≡ Some n → n ≡ k.seq
    seq-is p u n is has sq = case (b.settled (b.pushing p is) k.x k.r k.w k.seq here.asked k.by mine k.draws)
      where
        mine : k.w.inc ≡ who.inc
        mine = sym here.was_inc ∙ b.pushing p is

        case : IsSettled ticket line.seq k.x k.seq → n ≡ k.seq
        case (inl below) = let up = here.was_below in absurd (omega arith)
        case (inr v) =
            let one : v.0 ≡ u = some-same v.0 u (sym v.1 ∙ has) in
            let asks : v.0.request ≡ k.r = (b.mail.asked k.x k.r k.w here.asked k.by).same mine v.0 v.1 v.2 in
            some-same n k.seq (sym sq ∙ ap (λ z. sequence_of z.request) (sym one) ∙ ap sequence_of asks ∙ k.draws)

    -- no later incarnation
    record PastFits (journal : List Entry) : Type 0 where
      writes : (w : Who) → w.host ≡ who.host → who.inc < w.inc → (file block n value : ℕ) (through : Bool) → In journal (W w file block n value through) → ⊥
      covers : (w : Who) → w.host ≡ who.host → who.inc < w.inc → (file block n : ℕ) → CoversNumber journal w file block n → ⊥

    inc-past : k.w.inc ≤ who.inc
    inc-past = (b.mail.asked k.x k.r k.w here.asked k.by).inc

    -- the facts after it, but for the push under way
    decides : (e : List Entry) → PastFits (e ++ j) → ListFits who number dirty push (e ++ j)
        → ((p : Push) (u : Ticket) (n : ℕ) → push ≡ Some p → ticket ≡ Some u → sequence_of u.request ≡ Some n → IsPushed line who number n j p
        → IsPushed after who number n (e ++ j) p) → Result e
    decides e past list pushed = record {
      list = list;
      pushed = λ p u n is has sq. pushed p u n is has sq (b.facts.pushed p u n is has sq);
      sent = record {
        behind = λ w p o. absurd (none-open w p o);
        clear = λ w p o. absurd (none-open w p o);
        top = λ w p o. absurd (none-open w p o);
        drawn = λ x sq f bl first last base bd asked. b.facts.sent.drawn x sq f bl first last base bd (old x _ asked);
        earlier = λ x sq f bl first last base bd q asked. b.facts.sent.earlier x sq f bl first last base bd q (old x _ asked);
      };
      under_way = b.facts.under_way;
      drawn = b.drawn;
      past = past.writes;
      past_covers = past.covers;
    }

    verdict-is : (host_row t.server.kept k.w.host).verdict ≡ after.verdict
    verdict-is = ap (λ n. (host_row t.server.kept n).verdict) (sym same)

    -- without effect
    quiets : (es : List Entry) → AllQuiet es → (push_in k.r ≡ None) ⊎ ((host_row t.server.kept k.w.host).verdict ≡ Verdict.Done → ⊥) → Result es
    quiets es quiet why =
        decides es (record { writes = f.past; covers = f.past_covers }) f.list
        (λ p u n is has sq d. let g = f.pushed p u n is has sq in
        record { behind = g.behind; below = g.below; stands = stands p n is (seq-is p u n is has sq) g.stands })
      where
        f : Facts line who number seq ticket dirty push ps (es ++ j)
        f = facts-others es j (all-of-other who.host es quiet) b.facts

        not-done : (p : Push) (n : ℕ) → push ≡ Some p → (push_in k.r ≡ None) ⊎ ((host_row t.server.kept k.w.host).verdict ≡ Verdict.Done → ⊥)
            → IsDecidedAs after who n Verdict.Done → ⊥
        not-done p n is (inl none) d = none-some p (sym none ∙ (is-it p is).1)
        not-done p n is (inr other) d = other (verdict-is ∙ d.told)

        stands : (p : Push) (n : ℕ) → push ≡ Some p → n ≡ k.seq → PushStands line who n (es ++ j) p → PushStands after who n (es ++ j) p
        stands p n is number (waits undone clear) = waits (not-done p n is why) clear
        stands p n is number (stored now d i) = let at = d.decided in let below = here.was_below in absurd (omega arith)

    -- a write goes through
    through : (sq f bl first last : ℕ) (bd : List ℕ) → k.r ≡ Request.Write k.w sq f bl first last None bd → Result (W k.w f bl first (value_of bd) true ∷ [])
    through sq f bl first last bd asks =
        decides (entry ∷ [])
        (record { writes = late; covers = λ w home later g c n h. b.facts.past_covers w home later g c n (covers-before entry j w g c n tt h) })
        (list-adds entry adds b.facts.list) (λ p u n is has sn d. none-some p (sym (ap push_in asks) ∙ (is-it p is).1))
      where
        entry : Entry
        entry = W k.w f bl first (value_of bd) true

        late : (w : Who) → w.host ≡ who.host → who.inc < w.inc → (g c n v : ℕ) (th : Bool) → In (W k.w f bl first (value_of bd) true ∷ j) (W w g c n v th) → ⊥
        late w home later g c n v th (inl same) =
            let one : k.w ≡ w = cc in let inc : k.w.inc ≡ w.inc = ap (λ z. z.inc) one in let below = inc-past in omega arith
        late w home later g c n v th (inr i) = b.facts.past w home later g c n v th i

        writes : (g c n v : ℕ) (th : Bool) → W k.w f bl first (value_of bd) true ≡ W who g c n v th → (n < number) × (th ≡ true)
        writes g c n v th e =
            let w : k.w ≡ who = cc in
            let m : first ≡ n = cc in
            let drawn = b.facts.sent.drawn k.x sq f bl first last None bd
            (subst (λ z. Asked ps who.host k.x (Request.Write z sq f bl first last None bd)) w
            (subst (λ r. Asked ps who.host k.x r) asks here.asked)) in
            let a = drawn.0 in
            let z = drawn.1 in
            (omega arith, cc)

        adds : Adds who number dirty push (W k.w f bl first (value_of bd) true)
        adds = record { writes = writes; covers = λ g c n bad. absurd bad; tops = λ g c n bad. absurd bad }

    -- delayed writes are stored
    stores : (sq f bl first last now : ℕ) (base : PushBase) (bd : List ℕ) → k.r ≡ Request.Write k.w sq f bl first last (Some base) bd
        → (host_row t.server.kept k.w.host).verdict ≡ Verdict.Done → Result (S k.w f bl first last now ∷ [])
    stores sq f bl first last now base bd asks done =
        decides (S k.w f bl first last now ∷ []) (record { writes = late; covers = late-covers })
        (list-adds (S k.w f bl first last now) adds b.facts.list) pushed
      where
        late : (w : Who) → w.host ≡ who.host → who.inc < w.inc → (g c n v : ℕ) (th : Bool) → In (S k.w f bl first last now ∷ j) (W w g c n v th) → ⊥
        late w home later g c n v th (inl same) = cc
        late w home later g c n v th (inr i) = b.facts.past w home later g c n v th i

        late-covers : (w : Who) → w.host ≡ who.host → who.inc < w.inc → (g c n : ℕ) → CoversNumber (S k.w f bl first last now ∷ j) w g c n → ⊥
        late-covers w home later g c n (inl h) = let inc : w.inc ≡ k.w.inc = ap (λ z. z.inc) h.0 in let below = inc-past in omega arith
        late-covers w home later g c n (inr h) = b.facts.past_covers w home later g c n h

        asked-by : k.w ≡ who → Asked ps who.host k.x (Request.Write who sq f bl first last (Some base) bd)
        asked-by w =
            subst (λ z. Asked ps who.host k.x (Request.Write z sq f bl first last (Some base) bd)) w (subst (λ r. Asked ps who.host k.x r) asks here.asked)

        covers : (g c n : ℕ) → Covers (S k.w f bl first last now) (W who g c n 0 false)
            → (n < number) × ((q : Push) → In dirty q → q.file ≡ g → q.block ≡ c → n < q.first)
        covers g c n k' =
            let asked = asked-by (sym k'.0) in
            let drawn = (b.facts.sent.drawn k.x sq f bl first last (Some base) bd asked).1 in
            let m = k'.4 in
            (omega arith, λ q i h d. let below = b.facts.sent.earlier k.x sq f bl first last base bd q asked i (h ∙ k'.1) (d ∙ k'.2) in omega arith)

        one-push : (p : Push) → push ≡ Some p → record { file = f; block = bl; first = first; last = last; body = bd } ≡ p
        one-push p is = some-same _ p (ap push_in (sym asks) ∙ (is-it p is).1)

        tops : (g c n : ℕ) → Covers (S k.w f bl first last now) (W who g c n 0 false) → (p : Push) → push ≡ Some p → p.file ≡ g → p.block ≡ c → n ≤ p.last
        tops g c n k' p is d e = let below = k'.4 in subst (λ z. n ≤ z.last) (one-push p is) below

        adds : Adds who number dirty push (S k.w f bl first last now)
        adds = record { writes = λ g c n v th e. absurd (cc); covers = covers; tops = tops }

        pushed : (p : Push) (u : Ticket) (n : ℕ) → push ≡ Some p → ticket ≡ Some u → sequence_of u.request ≡ Some n → IsPushed line who number n j p
            → IsPushed after who number n (S k.w f bl first last now ∷ j) p
        pushed p u n is has sn d =
            let it = is-it p is in
            let one : record { file = f; block = bl; first = first; last = last; body = bd } ≡ p = some-same _ p (ap push_in (sym asks) ∙ it.1) in
            let own : In (S k.w f bl first last now ∷ j) (S who p.file p.block p.first p.last now) = subst
            (λ w. In (S k.w f bl first last now ∷ j) (S w p.file p.block p.first p.last now)) it.0
            (subst (λ z. In (S k.w f bl first last now ∷ j) (S k.w z.file z.block z.first z.last now)) one (inl refl)) in
            record {
              behind = behind-more (S k.w f bl first last now) d.behind;
              below = d.below;
              stands =
                  stored now
                  (record {
                    inc = here.is_inc ∙ ap (λ z. z.inc) it.0;
                    decided = here.is_seq ∙ sym (seq-is p u n is has sn);
                    told = sym verdict-is
                        ∙ done;
                  }) own;
            }

    effects : Effects k.w k.r (host_row t.server.kept k.w.host).verdict t.entries → Result t.entries
    effects (without quiet why) = quiets t.entries quiet why
    effects (goes_through sq f bl first last bd asks is) = subst Result (sym is) (through sq f bl first last bd asks)
    effects (pushes sq f bl first last now base bd asks done is) = subst Result (sym is) (stores sq f bl first last now base bd asks done)

  -- a request of another host is decided
  elsewhere : (k : Decides ps s t) → (who.host ≡ k.w.host → ⊥) → Effects k.w k.r (host_row t.server.kept k.w.host).verdict t.entries → (e : Entry)
      → In t.entries e → IsOfOther who.host e
  elsewhere k other (without quiet why) = all-of-other who.host t.entries quiet
  elsewhere k other (goes_through sq f bl first last bd asks is) =
      subst (λ es. (e : Entry) → In es e → IsOfOther who.host e) (sym is) (one-of-other who.host _ (λ e. other (sym e)))
  elsewhere k other (pushes sq f bl first last now base bd asks done is) =
      subst (λ es. (e : Entry) → In es e → IsOfOther who.host e) (sym is) (one-of-other who.host _ (λ e. other (sym e)))

  decided : (k : Decides ps s t) → (bool : Bool) → (who.host == k.w.host) ≡ bool → Result t.entries
  decided k true e = effects k (same-number _ _ e) k.effects
  decided k false e =
      let other : who.host ≡ k.w.host → ⊥ = λ same. let yes : (who.host == k.w.host) ≡ true = number-same _ _ same in absurd (cc) in
      stays (k.others who.host other) (elsewhere k other k.effects)

  pub server-facts : Moves ps s t → Result t.entries
  server-facts (same_lines quiet same) = stays (same who.host) (all-of-other who.host t.entries quiet)
  server-facts (attaches_one quiet k) = attached k quiet (who.host == k.w.host) refl
  server-facts (decides_one k) = decided k (who.host == k.w.host) refl
