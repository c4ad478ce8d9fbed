-- What the journal has of a client's delayed writes is kept where they are pushed, where a push was stored, and where they are lost.
use Rattle.std.specs.Prelude.{reverse}
use Rattle.std.proofs.lemmas.List.{reverse-append}
use Rattle.std.proofs.Common.{map, append_assoc, ◌≡◌, ◌<◌, ◌≤◌, ◌⊎◌, ℕ, ◌+◌, Bool, true, false, List, [], ◌∷◌, ◌++◌, Option, Some, None}
use Rattle.std.proofs.Common.{if◌then◌else◌, refl, sym, subst, ap, ◌∙◌, arith, inl, inr}
use Rattle.nq_base.specs.Block.{value_of}
use Rattle.nq_base.specs.declared.Entry.{Entry}
use Rattle.nq_base.specs.declared.Entry.TheVariants.{W, S}
use Rattle.nq_base.specs.declared.HostRow.{HostRow}
use Rattle.nq_base.specs.declared.Push.{Push}
use Rattle.nq_base.specs.declared.PushBase.{PushBase}
use Rattle.nq_base.specs.declared.Request.{Request}
use Rattle.nq_base.specs.declared.Who.{Who}
use Rattle.walk_steps.proofs.ClientFacts.{push_in}
use Rattle.walk_steps.proofs.ClientMoves.{some-same, none-some}
use Rattle.walk_files.proofs.FactMoves.{behind-more, journal-more}
use Rattle.walk_files.proofs.JournalMoves.{store-covers}
use Rattle.walk_files.proofs.PushLists.{in-dropped, dropped-in, in-other, other-in, left-push, is-at, apart-filter}
use Rattle.walk_files.proofs.WritesFit.{CoversNumber, IsClear, JournalFits, IsBehind, IsDirty, PushStands, waits, stored, IsPushed, LiesWithin}
use Rattle.walk_files.proofs.WritesFit.{in_list, under_way, IsOpenPush, Facts}
use Rattle.nq_model.specs.protocol.Client.{Ticket, pushing, is_push_of, is_push_at, drop_dirty, other_dirty}
use Rattle.nq_model.specs.protocol.Hear.{other_push, loss_entry}
use Rattle.nq_model.specs.protocol.Message.{Packet, call, sequence_of}
use Rattle.nq_model.specs.protocol.World.{from_host}
use Rattle.walk_steps.proofs.Packets.{In, Asked}
use Rattle.walk_steps.proofs.TagFacts.{asked-before}
use Rattle.walk_steps.proofs.Rows.{same-number}

-- what is covered of a block is no later
abbrev IsTop : List Entry → Who → (file block last : ℕ) → Type 0
IsTop j who file block last = (n : ℕ) → CoversNumber j who file block n → n ≤ last

-- what a dirty entry covers is clear
pub dirty-clear : {who : Who} {number : ℕ} {j : List Entry} {p : Push} → IsDirty who number j p → IsClear j who p.file p.block p.first p.last
dirty-clear d n above below c = let under = d.above n c in omega arith

-- ---- the first delayed writes of a file are pushed

module _ {line : HostRow} {who : Who} {number seq : ℕ} {ticket : Option Ticket} {dirty : List Push} {push : Option Push} {packets : List Packet}
    {j : List Entry} (p : Push) (xid : ℕ) (base : PushBase) (t : Ticket) (there : In dirty p) (none : push ≡ None) (job : t.job ≡ pushing)
    (asks : t.request ≡ Request.Write who seq p.file p.block p.first p.last (Some base) p.body)
    (h : Facts line who number seq ticket dirty push packets j) where
  abbrev request : Request
  request = Request.Write who seq p.file p.block p.first p.last (Some base) p.body

  abbrev less : List Push
  less = drop_dirty p.file p.block dirty

  abbrev more : List Packet
  more = packets ++ from_host who.host (call xid request) ∷ []

  mine : IsDirty who number j p
  mine = h.list.listed p there

  within : (f b n : ℕ) → CoversNumber j who f b n ⊎ LiesWithin dirty push f b n → CoversNumber j who f b n ⊎ LiesWithin less (Some p) f b n
  within f b n (inl c) = inl c
  within f b n (inr (under_way q is g c above below)) = none-some q (sym none ∙ is)
  within f b n (inr (in_list q i g c above below)) = case (is_push_at p.file p.block q) refl
    where
      case : (bool : Bool) → is_push_at p.file p.block q ≡ bool → CoversNumber j who f b n ⊎ LiesWithin less (Some p) f b n
      case true e =
          let k = is-at p.file p.block q e in
          let one : q ≡ p = h.list.distinct q p i there k.0 k.1 in
          inr (under_way p refl (ap (λ z. z.file) (sym one) ∙ g) (ap (λ z. z.block) (sym one) ∙ c) (subst (λ z. z.first ≤ n) one above)
          (subst (λ z. n ≤ z.last) one below))
      case false e = inr (in_list q (dropped-in p.file p.block dirty q e i) g c above below)

  mine-top : IsTop j who p.file p.block p.last
  mine-top n c = let under = mine.above n c in let o = mine.behind.ordered in omega arith

  same-push : (w : Who) (q : Push) (sq : ℕ) (b : PushBase) → request ≡ Request.Write w sq q.file q.block q.first q.last (Some b) q.body → (who ≡ w) × (p ≡ q)
  same-push w q sq b e = (cc, some-same p q (ap push_in e))

  behind : (w : Who) (q : Push) (k : IsOpenPush line more who.host w q)
      → Asked packets who.host k.xid (Request.Write w k.seq q.file q.block q.first q.last (Some k.base) q.body)
      ⊎ ((xid ≡ k.xid) × (request ≡ Request.Write w k.seq q.file q.block q.first q.last (Some k.base) q.body))
      → IsBehind w j q × IsClear j w q.file q.block q.first q.last × IsTop j w q.file q.block q.last
  behind w q k (inl old) =
      let before : IsOpenPush line packets who.host w q = record
      { xid = k.xid; seq = k.seq; base = k.base; home = k.home; asked = old; kept = k.kept; above = k.above } in
      (h.sent.behind w q before, h.sent.clear w q before, h.sent.top w q before)
  behind w q k (inr new) =
      let e = same-push w q k.seq k.base new.1 in
      subst (λ v. IsBehind v j q × IsClear j v q.file q.block q.first q.last × IsTop j v q.file q.block q.last) e.0
      (subst (λ z. IsBehind who j z × IsClear j who z.file z.block z.first z.last × IsTop j who z.file z.block z.last) e.1
      (mine.behind, dirty-clear mine, mine-top))

  drawn : (x sq f b first last : ℕ) (o : Option PushBase) (bd : List ℕ)
      → Asked packets who.host x (Request.Write who sq f b first last o bd) ⊎ ((xid ≡ x) × (request ≡ Request.Write who sq f b first last o bd))
      → (first ≤ last) × (last < number)
  drawn x sq f b first last o bd (inl old) = h.sent.drawn x sq f b first last o bd old
  drawn x sq f b first last o bd (inr new) =
      let e = new.1 in
      let a : p.first ≡ first = cc in
      let z : p.last ≡ last = cc in
      let k = mine.behind.ordered in
      let l = mine.below in
      (omega arith, omega arith)

  earlier : (x sq f b first last : ℕ) (bs : PushBase) (bd : List ℕ) (q : Push) → In less q → q.file ≡ f → q.block ≡ b
      → Asked packets who.host x (Request.Write who sq f b first last (Some bs) bd)
      ⊎ ((xid ≡ x) × (request ≡ Request.Write who sq f b first last (Some bs) bd)) → last < q.first
  earlier x sq f b first last bs bd q i g c (inl old) = h.sent.earlier x sq f b first last bs bd q old (in-dropped p.file p.block dirty q i).0 g c
  earlier x sq f b first last bs bd q i g c (inr new) =
      let e = new.1 in
      let d : f ≡ p.file = cc in
      let k : b ≡ p.block = cc in
      absurd ((in-dropped p.file p.block dirty q i).1 (g ∙ d) (c ∙ k))

  pub facts-pushes : Facts line who number (seq + 1) (Some t) less (Some p) more j
  facts-pushes = record {
    list = record {
      listed = λ q i. h.list.listed q (in-dropped p.file p.block dirty q i).0;
      apart = apart-filter _ dirty h.list.apart;
      distinct = λ q r i k. h.list.distinct q r (in-dropped p.file p.block dirty q i).0 (in-dropped p.file p.block dirty r k).0;
      earlier =
          λ q r is i f b. let one : p ≡ q = some-same p q is in
          absurd ((in-dropped p.file p.block dirty r i).1 (sym f ∙ ap (λ z. z.file) (sym one)) (sym b ∙ ap (λ z. z.block) (sym one)));
      top = λ q is n c. subst (λ z. IsTop j who z.file z.block z.last) (some-same p q is) mine-top n c;
      numbers = h.list.numbers;
      covered = h.list.covered;
      unsaved = λ f b n v i. within f b n (h.list.unsaved f b n v i);
    };
    pushed = λ q u n is has sq.
        let one : p ≡ q = some-same p q is in
        let tick : t ≡ u = some-same t u has in
        let last : seq ≡ n = some-same seq n (ap sequence_of (sym asks) ∙ ap (λ z. sequence_of z.request) tick ∙ sq) in
        subst (λ z. IsPushed line who number n j z) one (record {
          behind = mine.behind;
          below = mine.below;
          stands = waits (λ d. let below = h.drawn d.inc in let at = d.decided in absurd (omega arith)) (dirty-clear mine);
        });
    sent = record {
      behind = λ w q k. (behind w q k (asked-before packets who.host xid k.xid request _ k.asked)).0;
      clear = λ w q k. (behind w q k (asked-before packets who.host xid k.xid request _ k.asked)).1;
      top = λ w q k. (behind w q k (asked-before packets who.host xid k.xid request _ k.asked)).2;
      drawn = λ x sq f b first last o bd asked. drawn x sq f b first last o bd (asked-before packets who.host xid x request _ asked);
      earlier = λ x sq f b first last bs bd q asked i g c. earlier x sq f b first last bs bd q i g c (asked-before packets who.host xid x request _ asked);
    };
    under_way = λ q is. record { request = t; asks = refl; job = job; pushes = ap push_in asks ∙ is };
    drawn = λ e. let below = h.drawn e in omega arith;
    past = h.past;
    past_covers = h.past_covers;
  }

-- ---- the push under way was stored

pub facts-stored : {line : HostRow} {who : Who} {number seq : ℕ} {ticket : Option Ticket} {dirty : List Push} {push : Option Push}
    {packets : List Packet} {j : List Entry} → ((p : Push) → push ≡ Some p → (now : ℕ) × In j (S who p.file p.block p.first p.last now))
    → Facts line who number seq ticket dirty push packets j → Facts line who number seq None dirty None packets j
facts-stored {who = who} {dirty = dirty} {push = push} {j = j} stands h = record {
  list = record {
    listed = h.list.listed;
    apart = h.list.apart;
    distinct = h.list.distinct;
    earlier = λ q r is. none-some q is;
    top = λ q is. none-some q is;
    numbers = h.list.numbers;
    covered = h.list.covered;
    unsaved = λ f b n v i. within f b n (h.list.unsaved f b n v i);
  };
  pushed = λ q u n is. none-some q is;
  sent = h.sent;
  under_way = λ q is. none-some q is;
  drawn = h.drawn;
  past = h.past;
  past_covers = h.past_covers;
} where
  within : (f b n : ℕ) → CoversNumber j who f b n ⊎ LiesWithin dirty push f b n → CoversNumber j who f b n ⊎ LiesWithin dirty None f b n
  within f b n (inl c) = inl c
  within f b n (inr (in_list q i g c above below)) = inr (in_list q i g c above below)
  within f b n (inr (under_way q is g c above below)) =
      let k = stands q is in
      inl (subst (λ z. CoversNumber j who z b n) g
      (subst (λ z. CoversNumber j who q.file z n) c (store-covers j who q.file q.block q.first q.last k.0 n k.1 above below)))

-- ---- delayed writes are lost

-- the journal after these were lost, the first one first
abbrev pub lost : Who → List Push → List Entry → List Entry
lost who [] j = j
lost who (p ∷ ps) j = lost who ps (loss_entry who p ∷ j)

pub lost-is : (who : Who) (ps : List Push) (j : List Entry) → reverse (map (loss_entry who) ps) ++ j ≡ lost who ps j
lost-is who [] j = refl
lost-is who (p ∷ ps) j =
    ap (λ es. es ++ j) (reverse-append (loss_entry who p ∷ []) (map (loss_entry who) ps))
    ∙ append_assoc (reverse (map (loss_entry who) ps)) (loss_entry who p ∷ []) j
    ∙ lost-is who ps (loss_entry who p ∷ j)

-- delayed writes that can be lost: they stand, and none of their numbers is covered
pub record IsLosable (who : Who) (number : ℕ) (j : List Entry) (p : Push) : Type 0 where
  pub behind : IsBehind who j p
  pub below : p.last < number
  pub clear : IsClear j who p.file p.block p.first p.last

-- they are of another block, or all of them are before
abbrev pub IsBefore : Push → Push → Type 0
IsBefore p q = p.file ≡ q.file → p.block ≡ q.block → p.last < q.first

abbrev pub AllLosable : Who → (number : ℕ) → List Entry → List Push → Type 0
AllLosable who number j [] = Unit {0}
AllLosable who number j (p ∷ ps) = IsLosable who number j p × ((q : Push) → In ps q → IsBefore p q) × AllLosable who number j ps

loss-covers : (who : Who) (p : Push) (j : List Entry) (w : Who) (f b n : ℕ) → CoversNumber (loss_entry who p ∷ j) w f b n
    → CoversNumber j w f b n ⊎ ((w ≡ who) × (f ≡ p.file) × (b ≡ p.block) × (p.first ≤ n) × (n ≤ p.last))
loss-covers who p j w f b n (inl c) = inr c
loss-covers who p j w f b n (inr c) = inl c

losable-more : (who : Who) (number : ℕ) (p q : Push) (j : List Entry) → IsBefore p q → IsLosable who number j q → IsLosable who number (loss_entry who p ∷ j) q
losable-more who number p q j before l = record {
  behind = behind-more (loss_entry who p) l.behind;
  below = l.below;
  clear = λ n above below c. clear n above below (loss-covers who p j who q.file q.block n c);
} where
  clear : (n : ℕ) → q.first ≤ n → n ≤ q.last
      → CoversNumber j who q.file q.block n ⊎ ((who ≡ who) × (q.file ≡ p.file) × (q.block ≡ p.block) × (p.first ≤ n) × (n ≤ p.last)) → ⊥
  clear n above below (inl c) = l.clear n above below c
  clear n above below (inr k) = let under = before (sym k.1) (sym k.2) in let m = k.4 in omega arith

all-losable-more : (who : Who) (number : ℕ) (p : Push) (ps : List Push) (j : List Entry) → ((q : Push) → In ps q → IsBefore p q)
    → AllLosable who number j ps → AllLosable who number (loss_entry who p ∷ j) ps
all-losable-more who number p [] j before all = tt
all-losable-more who number p (q ∷ qs) j before all =
    (losable-more who number p q j (before q (inl refl)) all.0, all.1, all-losable-more who number p qs j (λ r i. before r (inr i)) all.2)

pub lost-fits : (who : Who) (number : ℕ) (ps : List Push) (j : List Entry) → AllLosable who number j ps → JournalFits j → JournalFits (lost who ps j)
lost-fits who number [] j all fits = fits
lost-fits who number (p ∷ ps) j all fits =
    lost-fits who number ps (loss_entry who p ∷ j) (all-losable-more who number p ps j all.1 all.2)
    (journal-more (loss_entry who p) j (all.0.clear, all.0.behind.ordered, all.0.behind.first_there)
    (all.0.behind.ordered, all.0.behind.first_there, (value_of p.body, all.0.behind.last_there)) tt fits)

-- what is covered then
pub record IsLostAt (who : Who) (ps : List Push) (w : Who) (f b n : ℕ) : Type 0 where
  pub p : Push
  pub there : In ps p
  pub who_is : w ≡ who
  pub file : f ≡ p.file
  pub block : b ≡ p.block
  pub above : p.first ≤ n
  pub below : n ≤ p.last

pub lost-covers : (who : Who) (ps : List Push) (j : List Entry) (w : Who) (f b n : ℕ) → CoversNumber (lost who ps j) w f b n
    → CoversNumber j w f b n ⊎ IsLostAt who ps w f b n
lost-covers who [] j w f b n c = inl c
lost-covers who (p ∷ ps) j w f b n c = step (lost-covers who ps (loss_entry who p ∷ j) w f b n c)
  where
    first : CoversNumber j w f b n ⊎ ((w ≡ who) × (f ≡ p.file) × (b ≡ p.block) × (p.first ≤ n) × (n ≤ p.last))
        → CoversNumber j w f b n ⊎ IsLostAt who (p ∷ ps) w f b n
    first (inl old) = inl old
    first (inr k) = inr (record { p = p; there = inl refl; who_is = k.0; file = k.1; block = k.2; above = k.3; below = k.4 })

    step : CoversNumber (loss_entry who p ∷ j) w f b n ⊎ IsLostAt who ps w f b n → CoversNumber j w f b n ⊎ IsLostAt who (p ∷ ps) w f b n
    step (inl old) = first (loss-covers who p j w f b n old)
    step (inr k) = inr (record { p = k.p; there = inr k.there; who_is = k.who_is; file = k.file; block = k.block; above = k.above; below = k.below })

lost-more : (who : Who) (ps : List Push) (j : List Entry) (w : Who) (f b n : ℕ) → CoversNumber j w f b n → CoversNumber (lost who ps j) w f b n
lost-more who [] j w f b n c = c
lost-more who (p ∷ ps) j w f b n c = lost-more who ps (loss_entry who p ∷ j) w f b n (inr c)

lost-there : (who : Who) (ps : List Push) (j : List Entry) (p : Push) (n : ℕ) → In ps p → p.first ≤ n → n ≤ p.last
    → CoversNumber (lost who ps j) who p.file p.block n
lost-there who [] j p n i above below = absurd i
lost-there who (q ∷ qs) j p n (inl e) above below =
    lost-more who qs (loss_entry who q ∷ j) who p.file p.block n
    (inl (refl, ap (λ z. z.file) (sym e), ap (λ z. z.block) (sym e), subst (λ z. z.first ≤ n) (sym e) above, subst (λ z. n ≤ z.last) (sym e) below))
lost-there who (q ∷ qs) j p n (inr i) above below = lost-there who qs (loss_entry who q ∷ j) p n i above below

in-lost : (who : Who) (ps : List Push) (j : List Entry) (e : Entry) → In j e → In (lost who ps j) e
in-lost who [] j e i = i
in-lost who (p ∷ ps) j e i = in-lost who ps (loss_entry who p ∷ j) e (inr i)

lost-write : (who : Who) (ps : List Push) (j : List Entry) (w : Who) (f b n v : ℕ) (t : Bool) → In (lost who ps j) (W w f b n v t) → In j (W w f b n v t)
lost-write who [] j w f b n v t i = i
lost-write who (p ∷ ps) j w f b n v t i = step (lost-write who ps (loss_entry who p ∷ j) w f b n v t i)
  where
    step : (loss_entry who p ≡ W w f b n v t) ⊎ In j (W w f b n v t) → In j (W w f b n v t)
    step (inl bad) = absurd (cc)
    step (inr i) = i

lost-behind : {w : Who} {q : Push} (who : Who) (ps : List Push) (j : List Entry) → IsBehind w j q → IsBehind w (lost who ps j) q
lost-behind who ps j b =
    record { ordered = b.ordered; first_there = (b.first_there.0, in-lost who ps j _ b.first_there.1); last_there = in-lost who ps j _ b.last_there }

-- the delayed writes of a file are lost, of which the list and the push under way had these
module _ {line : HostRow} {who : Who} {number seq : ℕ} {ticket : Option Ticket} {dirty : List Push} {push : Option Push} {packets : List Packet}
    {j : List Entry} (file : ℕ) (ps : List Push)
    (of_file : (p : Push) → In ps p → (p.file ≡ file) × (In dirty p ⊎ (push ≡ Some p)))
    (all_there : (p : Push) → In dirty p ⊎ (push ≡ Some p) → p.file ≡ file → In ps p)
    (drawn_all : (p : Push) → In ps p → p.last < number)
    (over : (w : Who) (q : Push) → IsOpenPush line packets who.host w q → w ≡ who → ⊥)
    (h : Facts line who number seq ticket dirty push packets j) where
  abbrev after : List Entry
  after = lost who ps j

  -- of other files nothing more is covered
  elsewhere : (f b n : ℕ) → (f ≡ file → ⊥) → CoversNumber after who f b n → CoversNumber j who f b n
  elsewhere f b n other c = case (lost-covers who ps j who f b n c)
    where
      case : CoversNumber j who f b n ⊎ IsLostAt who ps who f b n → CoversNumber j who f b n
      case (inl old) = old
      case (inr k) = absurd (other (k.file ∙ (of_file k.p k.there).0))

  covered : (f b n : ℕ) → CoversNumber j who f b n ⊎ IsLostAt who ps who f b n → n < number
  covered f b n (inl old) = h.list.covered f b n old
  covered f b n (inr k) = let below = drawn_all k.p k.there in let m = k.below in omega arith

  gone : (p : Push) (f b n : ℕ) → In ps p → p.file ≡ f → p.block ≡ b → p.first ≤ n → n ≤ p.last → CoversNumber after who f b n
  gone p f b n i g c above below =
      subst (λ z. CoversNumber after who z b n) g (subst (λ z. CoversNumber after who p.file z n) c (lost-there who ps j p n i above below))

  left : (f b n : ℕ) → CoversNumber j who f b n ⊎ LiesWithin dirty push f b n
      → CoversNumber after who f b n ⊎ LiesWithin (other_dirty file dirty) (other_push file push) f b n
  left f b n (inl c) = inl (lost-more who ps j who f b n c)
  left f b n (inr (in_list p i g c above below)) = case (is_push_of file p) refl
    where
      case : (bool : Bool) → is_push_of file p ≡ bool → CoversNumber after who f b n ⊎ LiesWithin (other_dirty file dirty) (other_push file push) f b n
      case true e = inl (gone p f b n (all_there p (inl i) (same-number p.file file e)) g c above below)
      case false e = inr (in_list p (other-in file dirty p e i) g c above below)
  left f b n (inr (under_way p is g c above below)) = case (is_push_of file p) refl
    where
      case : (bool : Bool) → is_push_of file p ≡ bool → CoversNumber after who f b n ⊎ LiesWithin (other_dirty file dirty) (other_push file push) f b n
      case true e = inl (gone p f b n (all_there p (inr is) (same-number p.file file e)) g c above below)
      case false e = inr (under_way p (ap (other_push file) is ∙ ap (λ z. if z then None else Some p) e) g c above below)

  stands : {m : ℕ} {p : Push} → (p.file ≡ file → ⊥) → PushStands line who m j p → PushStands line who m after p
  stands {p = p} other (waits not_done clear) = waits not_done (λ n above below c. clear n above below (elsewhere p.file p.block n other c))
  stands other (stored now done i) = stored now done (in-lost who ps j _ i)

  pub facts-loses : Facts line who number seq ticket (other_dirty file dirty) (other_push file push) packets after
  facts-loses = record {
    list = record {
      listed =
          λ q i. let k = in-other file dirty q i in let d = h.list.listed q k.0 in
          record { behind = lost-behind who ps j d.behind; below = d.below; above = λ n c. d.above n (elsewhere q.file q.block n k.1 c) };
      apart = apart-filter _ dirty h.list.apart;
      distinct = λ q r i k. h.list.distinct q r (in-other file dirty q i).0 (in-other file dirty r k).0;
      earlier = λ q r is i. h.list.earlier q r (left-push file push q is).0 (in-other file dirty r i).0;
      top = λ q is n c. let k = left-push file push q is in h.list.top q k.0 n (elsewhere q.file q.block n k.1 c);
      numbers = λ f b n v t i. h.list.numbers f b n v t (lost-write who ps j who f b n v t i);
      covered = λ f b n c. covered f b n (lost-covers who ps j who f b n c);
      unsaved = λ f b n v i. left f b n (h.list.unsaved f b n v (lost-write who ps j who f b n v false i));
    };
    pushed =
        λ q u n is has sq. let k = left-push file push q is in let d = h.pushed q u n k.0 has sq in
        record { behind = lost-behind who ps j d.behind; below = d.below; stands = stands k.1 d.stands };
    sent = record {
      behind = λ w q k. lost-behind who ps j (h.sent.behind w q k);
      clear = λ w q k n above below c. clear w q k n above below (lost-covers who ps j w q.file q.block n c);
      top = λ w q k n c. top w q k n (lost-covers who ps j w q.file q.block n c);
      drawn = h.sent.drawn;
      earlier = λ x sq f b first last bs bd q asked i. h.sent.earlier x sq f b first last bs bd q asked (in-other file dirty q i).0;
    };
    under_way = λ q is. h.under_way q (left-push file push q is).0;
    drawn = h.drawn;
    past = λ w home later f b n v t i. h.past w home later f b n v t (lost-write who ps j w f b n v t i);
    past_covers = λ w home later f b n c. late w home later f b n (lost-covers who ps j w f b n c);
  } where
    late : (w : Who) → w.host ≡ who.host → who.inc < w.inc → (f b n : ℕ) → CoversNumber j w f b n ⊎ IsLostAt who ps w f b n → ⊥
    late w home later f b n (inl old) = h.past_covers w home later f b n old
    late w home later f b n (inr k) = let inc : w.inc ≡ who.inc = ap (λ z. z.inc) k.who_is in omega arith

    clear : (w : Who) (q : Push) → IsOpenPush line packets who.host w q → (n : ℕ) → q.first ≤ n → n ≤ q.last
        → CoversNumber j w q.file q.block n ⊎ IsLostAt who ps w q.file q.block n → ⊥
    clear w q k n above below (inl old) = h.sent.clear w q k n above below old
    clear w q k n above below (inr l) = over w q k l.who_is

    top : (w : Who) (q : Push) → IsOpenPush line packets who.host w q → (n : ℕ) → CoversNumber j w q.file q.block n ⊎ IsLostAt who ps w q.file q.block n
        → n ≤ q.last
    top w q k n (inl old) = h.sent.top w q k n old
    top w q k n (inr l) = absurd (over w q k l.who_is)
