-- What was stored of a block are earlier writes still, after a step of the server.
use Rattle.std.proofs.Common.{◌≡◌, ◌<◌, ℕ, ◌==◌, Bool, true, false, List, [], ◌∷◌, ◌++◌, Some, refl, sym, subst, ap, ◌∙◌, arith, inl, inr}
use Rattle.nq_base.specs.Block.{value_of}
use Rattle.nq_base.specs.declared.Entry.{Entry}
use Rattle.nq_base.specs.declared.Entry.TheVariants.{W, S}
use Rattle.nq_base.specs.declared.HostRow.{HostRow}
use Rattle.nq_base.specs.declared.Push.{Push}
use Rattle.nq_base.specs.declared.PushBase.{PushBase}
use Rattle.nq_base.specs.declared.Request.{Request}
use Rattle.nq_base.specs.declared.Who.{Who}
use Rattle.walk_steps.proofs.ClientFacts.{push_in}
use Rattle.walk_steps.proofs.ClientMoves.{some-same}
use Rattle.walk_files.proofs.JournalMoves.{covers-more}
use Rattle.walk_files.proofs.ServerTells.{DecidedAt, decided-at, IsQuiet, AllQuiet, Effects, without, goes_through, pushes, Decides, Attaches, Moves}
use Rattle.walk_files.proofs.ServerTells.{same_lines, attaches_one, decides_one}
use Rattle.walk_files.proofs.WritesFit.{IsClear, IsOpenPush, WritesFit}
use Rattle.walk_files.proofs.EarlierStores.{Earlier, push-behind}
use Rattle.nq_model.specs.protocol.Client.{Client}
use Rattle.nq_model.specs.laws.Journal.{Stores, IsStored}
use Rattle.nq_model.specs.protocol.Kept.{host_row}
use Rattle.nq_model.specs.protocol.Message.{Packet, asker, sequence_of}
use Rattle.nq_model.specs.protocol.Server.{Server, ServerStep}
use Rattle.walk_steps.proofs.OpenAt.{IsOpenAt, OneOpenAt}
use Rattle.walk_steps.proofs.HostLine.{IsSettled}
use Rattle.walk_steps.proofs.Packets.{In, Asked, Mail}
use Rattle.walk_steps.proofs.Rows.{same-number, number-same}

-- entries that store nothing of a write
pub stored-old : (es j : List Entry) (w : Entry) → ((e : Entry) → In es e → Stores e w → ⊥) → IsStored (es ++ j) w → IsStored j w
stored-old [] j w none s = s
stored-old (e ∷ es) j w none (inl c) = absurd (none e (inl refl) c)
stored-old (e ∷ es) j w none (inr s) = stored-old es j w (λ x i. none x (inr i)) s

quiet-stores : (e w : Entry) → IsQuiet e → Stores e w → ⊥
quiet-stores (S who file block first last now) w q c = q
quiet-stores other w q c = c

-- what is known of a client, of its host's packets and of the kept line
pub record Around (line : HostRow) (c : Client) (ps : List Packet) (j : List Entry) : Type 0 where
  pub facts : WritesFit line c ps j
  pub mail : Mail c.who c.xid c.ticket ps
  pub above : (x : ℕ) (r : Request) (w : Who) → Asked ps c.who.host x r → asker r ≡ Some w → line.inc < w.inc → r ≡ Request.Attach w
  pub settled : line.inc ≡ c.who.inc → (x : ℕ) (r : Request) (w : Who) (n : ℕ) → Asked ps c.who.host x r → asker r ≡ Some w → w.inc ≡ c.who.inc
      → sequence_of r ≡ Some n → IsSettled c.ticket line.seq x n
  pub pushing : (p : Push) → c.push ≡ Some p → line.inc ≡ c.who.inc
  pub one : OneOpenAt line ps c.who.host

module _ (s : Server) (t : ServerStep) (c : Client) (ps : List Packet) (j : List Entry)
    (old : (x : ℕ) (r : Request) → Asked (ps ++ t.sends) c.who.host x r → Asked ps c.who.host x r) (b : Around (host_row s.kept c.who.host) c ps j)
    (h : Earlier (host_row s.kept c.who.host) c ps j) where
  abbrev line : HostRow
  line = host_row s.kept c.who.host

  abbrev after : HostRow
  after = host_row t.server.kept c.who.host

  abbrev Result : List Entry → Type 0
  Result es = Earlier after c (ps ++ t.sends) (es ++ j)

  was-open : after ≡ line → (v : Who) (p : Push) → IsOpenPush after (ps ++ t.sends) c.who.host v p → IsOpenPush line ps c.who.host v p
  was-open same v p o =
      record {
        xid = o.xid;
        seq = o.seq;
        base = o.base;
        home = o.home;
        asked = old o.xid _ o.asked;
        kept = ap (λ l. l.inc) (sym same)
            ∙ o.kept;
        above = subst (λ l. l.seq < o.seq) same o.above;
      }

  -- the line stays, and nothing of this host is stored
  stays : (es : List Entry) → after ≡ line
      → ((e : Entry) → In es e → (v : Who) (file block n : ℕ) → v.host ≡ c.who.host → Stores e (W v file block n 0 false) → ⊥) → Result es
  stays es same none = record {
    sent = λ v p o n st. h.sent v p (was-open same v p o) n (stored-old es j (W v p.file p.block n 0 false) (λ e i. none e i v p.file p.block n o.home) st);
    under_way =
        λ p is clear n st. h.under_way p is (λ m x y covered. clear m x y (covers-more es j c.who p.file p.block m covered)) n
        (stored-old es j (W c.who p.file p.block n 0 false) (λ e i. none e i c.who p.file p.block n refl) st);
  }

  -- no push is open, and nothing but the push under way is stored
  closed : (es : List Entry) → ((v : Who) (p : Push) → IsOpenPush after (ps ++ t.sends) c.who.host v p → ⊥)
      → ((p : Push) → c.push ≡ Some p → IsClear (es ++ j) c.who p.file p.block p.first p.last → (e : Entry) → In es e → (n : ℕ)
      → Stores e (W c.who p.file p.block n 0 false) → ⊥) → Result es
  closed es none_open none = record {
    sent = λ v p o. absurd (none_open v p o);
    under_way =
        λ p is clear n st. h.under_way p is (λ m x y covered. clear m x y (covers-more es j c.who p.file p.block m covered)) n
        (stored-old es j (W c.who p.file p.block n 0 false) (λ e i. none p is clear e i n) st);
  }

  -- ---- a later incarnation begins

  attaches : (k : Attaches ps s t) → AllQuiet t.entries → c.who.host ≡ k.w.host → Result t.entries
  attaches k quiet same = closed t.entries none-open (λ p is clear e i n. quiet-stores e (W c.who p.file p.block n 0 false) (quiet e i))
    where
      inc : after.inc ≡ k.w.inc
      inc = ap (λ n. (host_row t.server.kept n).inc) same ∙ k.inc_after

      up : line.inc < k.w.inc
      up = let a = k.above in let e : line.inc ≡ (host_row s.kept k.w.host).inc = ap (λ n. (host_row s.kept n).inc) same in omega arith

      none-open : (w : Who) (p : Push) → IsOpenPush after (ps ++ t.sends) c.who.host w p → ⊥
      none-open w p o =
          let a = up in
          let e = inc in
          let kept = o.kept in
          let attaching = b.above o.xid (Request.Write w o.seq p.file p.block p.first p.last (Some o.base) p.body) w (old o.xid _ o.asked) refl
          (omega arith) in
          cc

  quiet-apart : AllQuiet t.entries → (e : Entry) → In t.entries e → (v : Who) (file block n : ℕ) → v.host ≡ c.who.host
      → Stores e (W v file block n 0 false) → ⊥
  quiet-apart quiet e i v file block n home = quiet-stores e (W v file block n 0 false) (quiet e i)

  attached : (k : Attaches ps s t) → AllQuiet t.entries → (bool : Bool) → (c.who.host == k.w.host) ≡ bool → Result t.entries
  attached k quiet true e = attaches k quiet (same-number _ _ e)
  attached k quiet false e =
      stays t.entries (k.others c.who.host (λ same. let yes : (c.who.host == k.w.host) ≡ true = number-same _ _ same in absurd (cc))) (quiet-apart quiet)

  -- ---- a request of this host is decided

  module _ (k : Decides ps s t) (same : c.who.host ≡ k.w.host) where
    here : DecidedAt ps s t k c.who.host
    here = decided-at ps s t k c.who.host same

    none-open : (w : Who) (p : Push) → IsOpenPush after (ps ++ t.sends) c.who.host w p → ⊥
    none-open w p o =
        let r : Request = Request.Write w o.seq p.file p.block p.first p.last (Some o.base) p.body in
        let e = here.is_inc in
        let n = here.is_seq in
        let i = here.was_inc in
        let below = here.was_below in
        let up = o.above in
        let kept = o.kept in
        let mine : IsOpenAt line ps c.who.host k.x k.r = record
        { who = k.w; seq = k.seq; asked = here.asked; by = k.by; kept = here.was_inc; draws = k.draws; above = here.was_below } in
        let other : IsOpenAt line ps c.who.host o.xid r = record
        { who = w; seq = o.seq; asked = old o.xid r o.asked; by = refl; kept = omega arith; draws = refl; above = omega arith } in
        let one = (b.one k.x o.xid k.r r mine other).1 in
        let number : k.seq ≡ o.seq = some-same k.seq o.seq (sym k.draws ∙ ap sequence_of one) in
        omega arith

    -- a push under way is what is decided
    is-it : (p : Push) → c.push ≡ Some p → push_in k.r ≡ Some p
    is-it p is = case (b.settled kept k.x k.r k.w k.seq here.asked k.by mine k.draws)
      where
        kept : line.inc ≡ c.who.inc
        kept = b.pushing p is

        mine : k.w.inc ≡ c.who.inc
        mine = sym here.was_inc ∙ kept

        case : IsSettled c.ticket line.seq k.x k.seq → push_in k.r ≡ Some p
        case (inl below) = let up = here.was_below in absurd (omega arith)
        case (inr u) =
            let g = b.facts.under_way p is in
            let one : g.request ≡ u.0 = some-same g.request u.0 (sym g.asks ∙ u.1) in
            let asks : u.0.request ≡ k.r = (b.mail.asked k.x k.r k.w here.asked k.by).same mine u.0 u.1 u.2 in
            ap push_in (sym asks ∙ ap (λ z. z.request) (sym one)) ∙ g.pushes

    stores-own : (sq f bl first last now : ℕ) (base : PushBase) (bd : List ℕ) → k.r ≡ Request.Write k.w sq f bl first last (Some base) bd → (p : Push)
        → c.push ≡ Some p → IsClear (S k.w f bl first last now ∷ j) c.who p.file p.block p.first p.last → (n : ℕ)
        → Stores (S k.w f bl first last now) (W c.who p.file p.block n 0 false) → ⊥
    stores-own sq f bl first last now base bd asks p is clear n st =
        let one : record { file = f; block = bl; first = first; last = last; body = bd } ≡ p = some-same _ p (ap push_in (sym asks) ∙ is-it p is) in
        let ordered = (push-behind line c ps j b.facts p is).ordered in
        let from : first ≡ p.first = ap (λ z. z.first) one in
        let to : last ≡ p.last = ap (λ z. z.last) one in
        clear p.first (omega arith) ordered (inl (st.0, st.1, st.2, omega arith, omega arith))

    effects : Effects k.w k.r (host_row t.server.kept k.w.host).verdict t.entries → Result t.entries
    effects (without quiet why) = closed t.entries none-open (λ p is clear e i n. quiet-stores e (W c.who p.file p.block n 0 false) (quiet e i))
    effects (goes_through sq f bl first last bd asks is) = subst Result (sym is) (closed (W k.w f bl first (value_of bd) true ∷ []) none-open none)
      where
        none : (p : Push) → c.push ≡ Some p → IsClear (W k.w f bl first (value_of bd) true ∷ j) c.who p.file p.block p.first p.last → (e : Entry)
            → In (W k.w f bl first (value_of bd) true ∷ []) e → (n : ℕ) → Stores e (W c.who p.file p.block n 0 false) → ⊥
        none p has clear e (inl same_entry) n st = subst (λ x. Stores x (W c.who p.file p.block n 0 false)) (sym same_entry) st
        none p has clear e (inr bad) n st = bad
    effects (pushes sq f bl first last now base bd asks done is) = subst Result (sym is) (closed (S k.w f bl first last now ∷ []) none-open none)
      where
        none : (p : Push) → c.push ≡ Some p → IsClear (S k.w f bl first last now ∷ j) c.who p.file p.block p.first p.last → (e : Entry)
            → In (S k.w f bl first last now ∷ []) e → (n : ℕ) → Stores e (W c.who p.file p.block n 0 false) → ⊥
        none p has clear e (inl same_entry) n st =
            stores-own sq f bl first last now base bd asks p has clear n (subst (λ x. Stores x (W c.who p.file p.block n 0 false)) (sym same_entry) st)
        none p has clear e (inr bad) n st = bad

  -- ---- a request of another host is decided

  elsewhere : (k : Decides ps s t) → (c.who.host ≡ k.w.host → ⊥) → Effects k.w k.r (host_row t.server.kept k.w.host).verdict t.entries → (e : Entry)
      → In t.entries e → (v : Who) (file block n : ℕ) → v.host ≡ c.who.host → Stores e (W v file block n 0 false) → ⊥
  elsewhere k other (without quiet why) = quiet-apart quiet
  elsewhere k other (goes_through sq f bl first last bd asks is) =
      subst (λ es. (e : Entry) → In es e → (v : Who) (file block n : ℕ) → v.host ≡ c.who.host → Stores e (W v file block n 0 false) → ⊥) (sym is) none
    where
      none : (e : Entry) → In (W k.w f bl first (value_of bd) true ∷ []) e → (v : Who) (file block n : ℕ) → v.host ≡ c.who.host
          → Stores e (W v file block n 0 false) → ⊥
      none e (inl same) v file block n home st = subst (λ x. Stores x (W v file block n 0 false)) (sym same) st
      none e (inr bad) v file block n home st = bad
  elsewhere k other (pushes sq f bl first last now base bd asks done is) =
      subst (λ es. (e : Entry) → In es e → (v : Who) (file block n : ℕ) → v.host ≡ c.who.host → Stores e (W v file block n 0 false) → ⊥) (sym is) none
    where
      own : (v : Who) (file block n : ℕ) → v.host ≡ c.who.host → Stores (S k.w f bl first last now) (W v file block n 0 false) → ⊥
      own v file block n home st = other (sym home ∙ ap (λ z. z.host) st.0)

      none : (e : Entry) → In (S k.w f bl first last now ∷ []) e → (v : Who) (file block n : ℕ) → v.host ≡ c.who.host → Stores e (W v file block n 0 false) → ⊥
      none e (inl same) v file block n home st = own v file block n home (subst (λ x. Stores x (W v file block n 0 false)) (sym same) st)
      none e (inr bad) v file block n home st = bad

  decided : (k : Decides ps s t) → (bool : Bool) → (c.who.host == k.w.host) ≡ bool → Result t.entries
  decided k true e = effects k (same-number _ _ e) k.effects
  decided k false e =
      let other : c.who.host ≡ k.w.host → ⊥ = λ same. let yes : (c.who.host == k.w.host) ≡ true = number-same _ _ same in absurd (cc) in
      stays t.entries (k.others c.who.host other) (elsewhere k other k.effects)

  pub earlier-server : Moves ps s t → Result t.entries
  earlier-server (same_lines quiet same) = stays t.entries (same c.who.host) (quiet-apart quiet)
  earlier-server (attaches_one quiet k) = attached k quiet (c.who.host == k.w.host) refl
  earlier-server (decides_one k) = decided k (c.who.host == k.w.host) refl
