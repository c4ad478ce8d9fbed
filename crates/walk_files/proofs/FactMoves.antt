-- What the journal has of a client's delayed writes is kept by entries of others, and by each small change of the client.
use Rattle.std.proofs.Common.{◌≡◌, ◌<◌, ◌≤◌, ◌⊎◌, ℕ, ◌+◌, Bool, false, List, [], ◌∷◌, ◌++◌, Option, Some, None, refl, sym, subst, ap, ◌∙◌, arith, inl, inr}
use Rattle.nq_base.specs.Block.{value_of}
use Rattle.nq_base.specs.declared.Entry.{Entry}
use Rattle.nq_base.specs.declared.Entry.TheVariants.{C, W, R, S, L, G, F, O, B, X, Z, A}
use Rattle.nq_base.specs.declared.HostRow.{HostRow}
use Rattle.nq_base.specs.declared.Push.{Push}
use Rattle.nq_base.specs.declared.PushBase.{PushBase}
use Rattle.nq_base.specs.declared.Request.{Request}
use Rattle.nq_base.specs.declared.Who.{Who}
use Rattle.walk_steps.proofs.ClientFacts.{push_in}
use Rattle.walk_steps.proofs.ClientMoves.{some-same, none-some}
use Rattle.walk_files.proofs.JournalMoves.{covers-before}
use Rattle.walk_files.proofs.PushLists.{InWritten, is_other, is_longer, is_new, in-written, written-in, written-there, apart-written}
use Rattle.walk_files.proofs.ServerTells.{IsQuiet, AllQuiet}
use Rattle.walk_files.proofs.WritesFit.{CoversNumber, IsApart, IsOfWrites, IsRising, JournalFits, IsBehind, IsDirty, PushStands, waits, stored}
use Rattle.walk_files.proofs.WritesFit.{IsPushed, LiesWithin, in_list, under_way, ListFits, IsOpenPush, PushesFit, Facts}
use Rattle.nq_model.specs.protocol.Client.{Ticket, pushing, dirty_at}
use Rattle.nq_model.specs.laws.Journal.{Covers}
use Rattle.nq_model.specs.protocol.Message.{Packet, call, sequence_of}
use Rattle.nq_model.specs.protocol.Settle.{with_write, overwritten}
use Rattle.nq_model.specs.protocol.World.{from_host}
use Rattle.walk_steps.proofs.Packets.{In, Asked}
use Rattle.walk_steps.proofs.TagFacts.{asked-before}

-- ---- entries of others

-- the entry is no write of this host, and covers none
abbrev pub IsOfOther : (host : ℕ) → Entry → Type 0
IsOfOther host (W who file block number value through) = who.host ≡ host → ⊥
IsOfOther host (S who file block first last now) = who.host ≡ host → ⊥
IsOfOther host (L who file block first last) = who.host ≡ host → ⊥
IsOfOther host other = Unit {0}

pub quiet-other : (host : ℕ) (e : Entry) → IsQuiet e → IsOfOther host e
quiet-other host (W who file block number value through) q = absurd q
quiet-other host (S who file block first last now) q = absurd q
quiet-other host (L who file block first last) q = absurd q
quiet-other host (C who q' told) q = tt
quiet-other host (R who q' file block value served) q = tt
quiet-other host (G who file mode tag term now) q = tt
quiet-other host (F who file until heard now) q = tt
quiet-other host (O boot until heard now) q = tt
quiet-other host (B who) q = tt
quiet-other host (X boot now longest) q = tt
quiet-other host (Z who q' file from to) q = tt
quiet-other host (A who q' said) q = tt

other-covers : (host : ℕ) (e : Entry) (who : Who) (file block n : ℕ) → IsOfOther host e → who.host ≡ host → Covers e (W who file block n 0 false) → ⊥
other-covers host (S w f b x y now) who file block n o home c = o (ap (λ z. z.host) (sym c.0) ∙ home)
other-covers host (L w f b x y) who file block n o home c = o (ap (λ z. z.host) (sym c.0) ∙ home)
other-covers host (W w f b m v t) who file block n o home c = c
other-covers host (C w q told) who file block n o home c = c
other-covers host (R w q f b v served) who file block n o home c = c
other-covers host (G w f mode tag term now) who file block n o home c = c
other-covers host (F w f until heard now) who file block n o home c = c
other-covers host (O boot until heard now) who file block n o home c = c
other-covers host (B w) who file block n o home c = c
other-covers host (X boot now longest) who file block n o home c = c
other-covers host (Z w q f from to) who file block n o home c = c
other-covers host (A w q said) who file block n o home c = c

covers-other : (host : ℕ) (e : Entry) (j : List Entry) (who : Who) (file block n : ℕ) → IsOfOther host e → who.host ≡ host
    → CoversNumber (e ∷ j) who file block n → CoversNumber j who file block n
covers-other host e j who file block n o home (inl c) = absurd (other-covers host e who file block n o home c)
covers-other host e j who file block n o home (inr c) = c

other-write : (host : ℕ) (e : Entry) (who : Who) (file block n value : ℕ) (through : Bool) → IsOfOther host e → who.host ≡ host
    → e ≡ W who file block n value through → ⊥
other-write host e who file block n value through o home same = subst (λ z. IsOfOther host z) same o home

pub write-before : (host : ℕ) (e : Entry) (j : List Entry) (who : Who) (file block n value : ℕ) (through : Bool) → IsOfOther host e → who.host ≡ host
    → In (e ∷ j) (W who file block n value through) → In j (W who file block n value through)
write-before host e j who file block n value through o home (inl same) = absurd (other-write host e who file block n value through o home same)
write-before host e j who file block n value through o home (inr i) = i

-- ---- one more entry

pub behind-more : {who : Who} {j : List Entry} {p : Push} (e : Entry) → IsBehind who j p → IsBehind who (e ∷ j) p
behind-more e b = record { ordered = b.ordered; first_there = (b.first_there.0, inr b.first_there.1); last_there = inr b.last_there }

module _ (who : Who) (e : Entry) (j : List Entry) (o : IsOfOther who.host e) where
  other-dirty : {number : ℕ} {p : Push} → IsDirty who number j p → IsDirty who number (e ∷ j) p
  other-dirty {p = p} d =
      record { behind = behind-more e d.behind; below = d.below; above = λ n c. d.above n (covers-other who.host e j who p.file p.block n o refl c) }

  other-stands : {line : HostRow} {seq : ℕ} {p : Push} → PushStands line who seq j p → PushStands line who seq (e ∷ j) p
  other-stands {p = p} (waits not_done clear) =
      waits not_done (λ n above below c. clear n above below (covers-other who.host e j who p.file p.block n o refl c))
  other-stands (stored now done i) = stored now done (inr i)

  other-pushed : {line : HostRow} {number seq : ℕ} {p : Push} → IsPushed line who number seq j p → IsPushed line who number seq (e ∷ j) p
  other-pushed d = record { behind = behind-more e d.behind; below = d.below; stands = other-stands d.stands }

  more-unsaved : {dirty : List Push} {push : Option Push} (file block n : ℕ) → CoversNumber j who file block n ⊎ LiesWithin dirty push file block n
      → CoversNumber (e ∷ j) who file block n ⊎ LiesWithin dirty push file block n
  more-unsaved file block n (inl c) = inl (inr c)
  more-unsaved file block n (inr h) = inr h

  other-list : {number : ℕ} {dirty : List Push} {push : Option Push} → ListFits who number dirty push j → ListFits who number dirty push (e ∷ j)
  other-list h = record {
    listed = λ p i. other-dirty (h.listed p i);
    apart = h.apart;
    distinct = h.distinct;
    earlier = h.earlier;
    top = λ p is n c. h.top p is n (covers-other who.host e j who p.file p.block n o refl c);
    numbers = λ file block n value through i. h.numbers file block n value through (write-before who.host e j who file block n value through o refl i);
    covered = λ file block n c. h.covered file block n (covers-other who.host e j who file block n o refl c);
    unsaved =
        λ file block n value i. more-unsaved file block n (h.unsaved file block n value (write-before who.host e j who file block n value false o refl i));
  }

  other-sent : {line : HostRow} {number : ℕ} {dirty : List Push} {packets : List Packet} → PushesFit line who number dirty packets j
      → PushesFit line who number dirty packets (e ∷ j)
  other-sent h = record {
    behind = λ w p k. behind-more e (h.behind w p k);
    clear = λ w p k n above below c. h.clear w p k n above below (covers-other who.host e j w p.file p.block n o k.home c);
    top = λ w p k n c. h.top w p k n (covers-other who.host e j w p.file p.block n o k.home c);
    drawn = h.drawn;
    earlier = h.earlier;
  }

  -- an entry of another host, or one that is no write and covers none
  pub facts-other : {line : HostRow} {number seq : ℕ} {ticket : Option Ticket} {dirty : List Push} {push : Option Push} {packets : List Packet}
      → Facts line who number seq ticket dirty push packets j → Facts line who number seq ticket dirty push packets (e ∷ j)
  facts-other h = record {
    list = other-list h.list;
    pushed = λ p t n is asks sq. other-pushed (h.pushed p t n is asks sq);
    sent = other-sent h.sent;
    under_way = h.under_way;
    drawn = h.drawn;
    past = λ w home later f b n v t i. h.past w home later f b n v t (write-before who.host e j w f b n v t o home i);
    past_covers = λ w home later f b n c. h.past_covers w home later f b n (covers-other who.host e j w f b n o home c);
  }

-- more of them
pub facts-others : {line : HostRow} {who : Who} {number seq : ℕ} {ticket : Option Ticket} {dirty : List Push} {push : Option Push}
    {packets : List Packet} (es j : List Entry) → ((e : Entry) → In es e → IsOfOther who.host e) → Facts line who number seq ticket dirty push packets j
    → Facts line who number seq ticket dirty push packets (es ++ j)
facts-others [] j all h = h
facts-others {who = who} (e ∷ es) j all h = facts-other who e (es ++ j) (all e (inl refl)) (facts-others es j (λ x i. all x (inr i)) h)

-- ---- the journal

pub quiet-apart : (e : Entry) (j : List Entry) → IsQuiet e → IsApart e j × IsOfWrites e j × IsRising e j
quiet-apart (W who file block number value through) j q = absurd q
quiet-apart (S who file block first last now) j q = absurd q
quiet-apart (L who file block first last) j q = absurd q
quiet-apart (C who q' told) j q = (tt, tt, tt)
quiet-apart (R who q' file block value served) j q = (tt, tt, tt)
quiet-apart (G who file mode tag term now) j q = (tt, tt, tt)
quiet-apart (F who file until heard now) j q = (tt, tt, tt)
quiet-apart (O boot until heard now) j q = (tt, tt, tt)
quiet-apart (B who) j q = (tt, tt, tt)
quiet-apart (X boot now longest) j q = (tt, tt, tt)
quiet-apart (Z who q' file from to) j q = (tt, tt, tt)
quiet-apart (A who q' said) j q = (tt, tt, tt)

pub journal-more : (e : Entry) (j : List Entry) → IsApart e j → IsOfWrites e j → IsRising e j → JournalFits j → JournalFits (e ∷ j)
journal-more e j apart writes rising h = record { apart = (apart, h.apart); of_writes = (writes, h.of_writes); rising = (rising, h.rising) }

pub journal-quiet : (e : Entry) (j : List Entry) → IsQuiet e → JournalFits j → JournalFits (e ∷ j)
journal-quiet e j q h = let k = quiet-apart e j q in journal-more e j k.0 k.1 k.2 h

pub journal-quiets : (es j : List Entry) → AllQuiet es → JournalFits j → JournalFits (es ++ j)
journal-quiets [] j all h = h
journal-quiets (e ∷ es) j all h = journal-quiet e (es ++ j) (all e (inl refl)) (journal-quiets es j (λ x i. all x (inr i)) h)

-- ---- a write is delayed

module _ {line : HostRow} {who : Who} {number seq : ℕ} {ticket : Option Ticket} {dirty : List Push} {push : Option Push} {packets : List Packet}
    {j : List Entry} (file block : ℕ) (body : List ℕ) (h : Facts line who number seq ticket dirty push packets j) where
  abbrev delayed : Entry
  delayed = W who file block number (value_of body) false

  abbrev longer : List Push
  longer = with_write file block number body dirty (dirty_at file block dirty)

  listed : (q : Push) → InWritten file block number body dirty q → IsDirty who (number + 1) (delayed ∷ j) q
  listed q (is_other i apart) =
      let d = h.list.listed q i in
      record {
        behind = behind-more delayed d.behind;
        below = let below = d.below in
            omega arith;
        above = λ n c. d.above n (covers-before delayed j who q.file q.block n tt c);
      }
  listed q (is_longer p i f b same) =
      let d = h.list.listed p i in
      subst (λ z. IsDirty who (number + 1) (delayed ∷ j) z) same (record {
        behind = record {
          ordered = let o = d.behind.ordered in let below = d.below in omega arith;
          first_there = (d.behind.first_there.0, inr d.behind.first_there.1);
          last_there = inl (ap (λ z. W who z block number (value_of body) false) (sym f) ∙ ap (λ z. W who p.file z number (value_of body) false) (sym b));
        };
        below = omega arith;
        above = λ n c. d.above n (covers-before delayed j who p.file p.block n tt c);
      })
  listed q (is_new absent same) = subst (λ z. IsDirty who (number + 1) (delayed ∷ j) z) same (record {
    behind = record { ordered = omega arith; first_there = (value_of body, inl refl); last_there = inl refl };
    below = omega arith;
    above = λ n c. h.list.covered file block n (covers-before delayed j who file block n tt c);
  })

  distinct : (p q : Push) → InWritten file block number body dirty p → InWritten file block number body dirty q → p.file ≡ q.file → p.block ≡ q.block → p ≡ q
  distinct p q (is_other i apart) (is_other k other) f b = h.list.distinct p q i k f b
  distinct p q (is_other i apart) (is_longer r k g c same) f b = absurd (apart (f ∙ ap (λ z. z.file) (sym same) ∙ g) (b ∙ ap (λ z. z.block) (sym same) ∙ c))
  distinct p q (is_other i apart) (is_new absent same) f b = absurd (apart (f ∙ ap (λ z. z.file) (sym same)) (b ∙ ap (λ z. z.block) (sym same)))
  distinct p q (is_longer r i g c same) (is_other k other) f b =
      absurd (other (sym f ∙ ap (λ z. z.file) (sym same) ∙ g) (sym b ∙ ap (λ z. z.block) (sym same) ∙ c))
  distinct p q (is_longer r i g c same) (is_longer s k d e also) f b =
      sym same ∙ ap (overwritten number body) (h.list.distinct r s i k (g ∙ sym d) (c ∙ sym e)) ∙ also
  distinct p q (is_longer r i g c same) (is_new absent also) f b = absurd (absent r i g c)
  distinct p q (is_new absent same) (is_other k other) f b = absurd (other (sym f ∙ ap (λ z. z.file) (sym same)) (sym b ∙ ap (λ z. z.block) (sym same)))
  distinct p q (is_new absent same) (is_longer s k d e also) f b = absurd (absent s k d e)
  distinct p q (is_new absent same) (is_new none also) f b = sym same ∙ also

  -- the push under way is of earlier writes
  push-below : (p : Push) → push ≡ Some p → p.last < number
  push-below p is =
      let k = h.under_way p is in
      let sq = seq-of-push k.request.request p k.pushes in
      (h.pushed p k.request sq.0 is k.asks sq.1).below
    where
      seq-of-push : (r : Request) (p : Push) → push_in r ≡ Some p → (n : ℕ) × (sequence_of r ≡ Some n)
      seq-of-push (Request.Write w n f b x y (Some base) bd) p e = (n, refl)
      seq-of-push r p e = none-some p e

  -- where delayed writes are of numbers below
  earlier : (x f b : ℕ) → x < number → ((q : Push) → In dirty q → q.file ≡ f → q.block ≡ b → x < q.first) → (q : Push)
      → InWritten file block number body dirty q → q.file ≡ f → q.block ≡ b → x < q.first
  earlier x f b below old q (is_other i apart) g c = old q i g c
  earlier x f b below old q (is_longer p i d e same) g c = subst (λ z. x < z.first) same (old p i (ap (λ z. z.file) same ∙ g) (ap (λ z. z.block) same ∙ c))
  earlier x f b below old q (is_new absent same) g c = subst (λ z. x < z.first) same below

  inside : (q : Push) → In longer q → InWritten file block number body dirty q
  inside q i = in-written file block number body dirty (dirty_at file block dirty) refl q i

  numbers : (f b n value : ℕ) (through : Bool) → In (delayed ∷ j) (W who f b n value through) → n < number + 1
  numbers f b n value through (inl same) = let one : number ≡ n = cc in omega arith
  numbers f b n value through (inr i) = let below = h.list.numbers f b n value through i in omega arith

  still-within : (f b n : ℕ) → CoversNumber j who f b n ⊎ LiesWithin dirty push f b n → CoversNumber (delayed ∷ j) who f b n ⊎ LiesWithin longer push f b n
  still-within f b n (inl c) = inl (inr c)
  still-within f b n (inr (under_way p is g c above below)) = inr (under_way p is g c above below)
  still-within f b n (inr (in_list p i g c above below)) =
      let k = written-in file block number body dirty (dirty_at file block dirty) p i in
      inr (step k.0 k.1 k.2)
    where
      step : (q : Push) → In longer q → (q ≡ p) ⊎ (q ≡ overwritten number body p) → LiesWithin longer push f b n
      step q there (inl e) =
          in_list q there (ap (λ z. z.file) e ∙ g) (ap (λ z. z.block) e ∙ c) (subst (λ z. z.first ≤ n) (sym e) above)
          (subst (λ z. n ≤ z.last) (sym e) below)
      step q there (inr e) =
          let d = (h.list.listed p i).below in
          in_list q there (ap (λ z. z.file) e ∙ g) (ap (λ z. z.block) e ∙ c) (subst (λ z. z.first ≤ n) (sym e) above)
          (subst (λ z. n ≤ z.last) (sym e) (omega arith))

  new-within : (f b n value : ℕ) → W who f b n value false ≡ delayed → LiesWithin longer push f b n
  new-within f b n value same =
      let k = written-there file block number body dirty (dirty_at file block dirty) refl in
      let g : f ≡ file = cc in
      let c : b ≡ block = cc in
      let m : n ≡ number = cc in
      in_list k.0 k.1 (k.2 ∙ sym g) (k.3 ∙ sym c) (first k.0 m k.5) (let e = k.4 in omega arith)
    where
      first : (q : Push) → n ≡ number → (q.first ≡ number) ⊎ ((p : Push) × In dirty p × (p.file ≡ file) × (p.block ≡ block) × (q.first ≡ p.first))
          → q.first ≤ n
      first q m (inl e) = omega arith
      first q m (inr k) =
          let d = h.list.listed k.0 k.1 in
          let o = d.behind.ordered in
          let below = d.below in
          let e = k.4 in
          omega arith

  unsaved : (f b n value : ℕ) → In (delayed ∷ j) (W who f b n value false) → CoversNumber (delayed ∷ j) who f b n ⊎ LiesWithin longer push f b n
  unsaved f b n value (inl same) = inr (new-within f b n value (sym same))
  unsaved f b n value (inr i) = still-within f b n (h.list.unsaved f b n value i)

  stands : {m : ℕ} {p : Push} → PushStands line who m j p → PushStands line who m (delayed ∷ j) p
  stands {p = p} (waits not_done clear) = waits not_done (λ n above below c. clear n above below (covers-before delayed j who p.file p.block n tt c))
  stands (stored now done i) = stored now done (inr i)

  past : (w : Who) → who.inc < w.inc → w.host ≡ who.host → (f b n v : ℕ) (t : Bool) → In (delayed ∷ j) (W w f b n v t) → ⊥
  past w later home f b n v t (inl same) = let one : who ≡ w = cc in let inc : who.inc ≡ w.inc = ap (λ z. z.inc) one in omega arith
  past w later home f b n v t (inr i) = h.past w home later f b n v t i

  pub facts-delays : Facts line who (number + 1) seq ticket longer push packets (delayed ∷ j)
  facts-delays = record {
    list = record {
      listed = λ q i. listed q (inside q i);
      apart = apart-written file block number body dirty (dirty_at file block dirty) refl h.list.apart;
      distinct = λ p q i k f b. distinct p q (inside p i) (inside q k) f b;
      earlier =
          λ p q is i f b. earlier p.last p.file p.block (push-below p is) (λ r k g c. h.list.earlier p r is k (sym g) (sym c)) q (inside q i) (sym f)
          (sym b);
      top = λ p is n c. h.list.top p is n (covers-before delayed j who p.file p.block n tt c);
      numbers = numbers;
      covered = λ f b n c. let below = h.list.covered f b n (covers-before delayed j who f b n tt c) in omega arith;
      unsaved = unsaved;
    };
    pushed =
        λ p t n is asks sq. let k = h.pushed p t n is asks sq in
        record { behind = behind-more delayed k.behind; below = let below = k.below in omega arith; stands = stands k.stands };
    sent = record {
      behind = λ w p k. behind-more delayed (h.sent.behind w p k);
      clear = λ w p k n above below c. h.sent.clear w p k n above below (covers-before delayed j w p.file p.block n tt c);
      top = λ w p k n c. h.sent.top w p k n (covers-before delayed j w p.file p.block n tt c);
      drawn = λ x sq f b first last base bd asked. let k = h.sent.drawn x sq f b first last base bd asked in let below = k.1 in (k.0, omega arith);
      earlier =
          λ x sq f b first last base bd q asked i g c. earlier last f b (h.sent.drawn x sq f b first last (Some base) bd asked).1
          (λ r k d e. h.sent.earlier x sq f b first last base bd r asked k d e) q (inside q i) g c;
    };
    under_way = h.under_way;
    drawn = h.drawn;
    past = λ w home later f b n v t i. past w later home f b n v t i;
    past_covers = λ w home later f b n c. h.past_covers w home later f b n (covers-before delayed j w f b n tt c);
  }

  pub journal-delays : JournalFits j → JournalFits (delayed ∷ j)
  journal-delays fits = journal-more delayed j tt tt (λ f b n v i. h.list.numbers f b n v false i) fits

-- ---- packets, tickets and numbers

-- all that is asked was asked
pub facts-packets : {line : HostRow} {who : Who} {number seq : ℕ} {ticket : Option Ticket} {dirty : List Push} {push : Option Push}
    {packets : List Packet} {j : List Entry} (after : List Packet) → ((x : ℕ) (r : Request) → Asked after who.host x r → Asked packets who.host x r)
    → Facts line who number seq ticket dirty push packets j → Facts line who number seq ticket dirty push after j
facts-packets {line = line} {who = who} {packets = packets} after old h = record {
  list = h.list;
  pushed = h.pushed;
  sent = record {
    behind = λ w p k. h.sent.behind w p (before w p k);
    clear = λ w p k. h.sent.clear w p (before w p k);
    top = λ w p k. h.sent.top w p (before w p k);
    drawn = λ x sq f b first last base bd asked. h.sent.drawn x sq f b first last base bd (old x _ asked);
    earlier = λ x sq f b first last base bd q asked i g c. h.sent.earlier x sq f b first last base bd q (old x _ asked) i g c;
  };
  under_way = h.under_way;
  drawn = h.drawn;
  past = h.past;
  past_covers = h.past_covers;
} where
  before : (w : Who) (p : Push) → IsOpenPush line after who.host w p → IsOpenPush line packets who.host w p
  before w p k = record { xid = k.xid; seq = k.seq; base = k.base; home = k.home; asked = old k.xid _ k.asked; kept = k.kept; above = k.above }

-- more numbers were drawn
pub facts-numbers : {line : HostRow} {who : Who} {number seq : ℕ} {ticket : Option Ticket} {dirty : List Push} {push : Option Push}
    {packets : List Packet} {j : List Entry} (m n : ℕ) → number ≤ m → seq ≤ n → Facts line who number seq ticket dirty push packets j
    → Facts line who m n ticket dirty push packets j
facts-numbers m n more later h = record {
  list = record {
    listed = λ p i. let d = h.list.listed p i in record { behind = d.behind; below = let below = d.below in omega arith; above = d.above };
    apart = h.list.apart;
    distinct = h.list.distinct;
    earlier = h.list.earlier;
    top = h.list.top;
    numbers = λ f b k v t i. let below = h.list.numbers f b k v t i in omega arith;
    covered = λ f b k c. let below = h.list.covered f b k c in omega arith;
    unsaved = h.list.unsaved;
  };
  pushed = λ p t k is asks sq. let d = h.pushed p t k is asks sq in record {
    behind = d.behind;
    below = let below = d.below in omega arith;
    stands =
        d.stands;
  };
  sent = record {
    behind = h.sent.behind;
    clear = h.sent.clear;
    top = h.sent.top;
    drawn = λ x sq f b first last base bd asked. let k = h.sent.drawn x sq f b first last base bd asked in let below = k.1 in (k.0, omega arith);
    earlier = h.sent.earlier;
  };
  under_way = h.under_way;
  drawn = λ e. let below = h.drawn e in omega arith;
  past = h.past;
  past_covers = h.past_covers;
}

-- the request under way is another, but where a push is under way of the same job and content
pub facts-ticket : {line : HostRow} {who : Who} {number seq : ℕ} {ticket : Option Ticket} {dirty : List Push} {push : Option Push}
    {packets : List Packet} {j : List Entry} (after : Option Ticket)
    → ((p : Push) (t : Ticket) → push ≡ Some p → ticket ≡ Some t → push_in t.request ≡ Some p
    → (u : Ticket) × (after ≡ Some u) × (u.job ≡ t.job) × (u.request ≡ t.request)) → Facts line who number seq ticket dirty push packets j
    → Facts line who number seq after dirty push packets j
facts-ticket after same h = record {
  list = h.list;
  pushed = λ p u n is asks sq.
      let k = h.under_way p is in
      let s = same p k.request is k.asks k.pushes in
      let one : s.0 ≡ u = some-same s.0 u (sym s.1 ∙ asks) in
      h.pushed p k.request n is k.asks (ap sequence_of (sym s.3) ∙ ap (λ z. sequence_of z.request) one ∙ sq);
  sent = h.sent;
  under_way = λ p is.
      let k = h.under_way p is in
      let s = same p k.request is k.asks k.pushes in
      record { request = s.0; asks = s.1; job = s.2 ∙ k.job; pushes = ap push_in s.3 ∙ k.pushes };
  drawn = h.drawn;
  past = h.past;
  past_covers = h.past_covers;
}

-- none is under way
pub no-push : {line : HostRow} {who : Who} {number seq : ℕ} {ticket : Option Ticket} {dirty : List Push} {push : Option Push} {packets : List Packet}
    {j : List Entry} → ((t : Ticket) → ticket ≡ Some t → t.job ≡ pushing → ⊥) → Facts line who number seq ticket dirty push packets j → push ≡ None
no-push {push = None} other h = refl
no-push {push = Some p} other h = let k = h.under_way p refl in absurd (other k.request k.asks k.job)

-- a message is sent that is no WRITE of a push, and of numbers that were drawn
pub facts-sends : {line : HostRow} {who : Who} {number seq : ℕ} {ticket : Option Ticket} {dirty : List Push} {push : Option Push}
    {packets : List Packet} {j : List Entry} (xid : ℕ) (r : Request) → push_in r ≡ None
    → ((sq f b first last : ℕ) (base : Option PushBase) (bd : List ℕ) → r ≡ Request.Write who sq f b first last base bd
    → (first ≤ last) × (last < number)) → Facts line who number seq ticket dirty push packets j
    → Facts line who number seq ticket dirty push (packets ++ from_host who.host (call xid r) ∷ []) j
facts-sends {line = line} {who = who} {number = number} {dirty = dirty} {packets = packets} {j = j} xid r no_push bounds h = record {
  list = h.list;
  pushed = h.pushed;
  sent = record {
    behind = λ w p k. h.sent.behind w p (before w p k (asked-before packets who.host xid k.xid r _ k.asked));
    clear = λ w p k. h.sent.clear w p (before w p k (asked-before packets who.host xid k.xid r _ k.asked));
    top = λ w p k. h.sent.top w p (before w p k (asked-before packets who.host xid k.xid r _ k.asked));
    drawn = λ x sq f b first last base bd asked. drawn x sq f b first last base bd (asked-before packets who.host xid x r _ asked);
    earlier = λ x sq f b first last base bd q asked i g c. earlier x sq f b first last base bd q i g c (asked-before packets who.host xid x r _ asked);
  };
  under_way = h.under_way;
  drawn = h.drawn;
  past = h.past;
  past_covers = h.past_covers;
} where
  before : (w : Who) (p : Push) (k : IsOpenPush line (packets ++ from_host who.host (call xid r) ∷ []) who.host w p)
      → Asked packets who.host k.xid (Request.Write w k.seq p.file p.block p.first p.last (Some k.base) p.body)
      ⊎ ((xid ≡ k.xid) × (r ≡ Request.Write w k.seq p.file p.block p.first p.last (Some k.base) p.body)) → IsOpenPush line packets who.host w p
  before w p k (inl there) = record { xid = k.xid; seq = k.seq; base = k.base; home = k.home; asked = there; kept = k.kept; above = k.above }
  before w p k (inr new) = none-some _ (sym no_push ∙ ap push_in new.1)

  drawn : (x sq f b first last : ℕ) (base : Option PushBase) (bd : List ℕ)
      → Asked packets who.host x (Request.Write who sq f b first last base bd) ⊎ ((xid ≡ x) × (r ≡ Request.Write who sq f b first last base bd))
      → (first ≤ last) × (last < number)
  drawn x sq f b first last base bd (inl there) = h.sent.drawn x sq f b first last base bd there
  drawn x sq f b first last base bd (inr new) = bounds sq f b first last base bd new.1

  earlier : (x sq f b first last : ℕ) (base : PushBase) (bd : List ℕ) (q : Push) → In dirty q → q.file ≡ f → q.block ≡ b
      → Asked packets who.host x (Request.Write who sq f b first last (Some base) bd)
      ⊎ ((xid ≡ x) × (r ≡ Request.Write who sq f b first last (Some base) bd)) → last < q.first
  earlier x sq f b first last base bd q i g c (inl there) = h.sent.earlier x sq f b first last base bd q there i g c
  earlier x sq f b first last base bd q i g c (inr new) = none-some _ (sym no_push ∙ ap push_in new.1)
