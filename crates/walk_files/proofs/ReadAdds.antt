-- What a call, a tick or a datagram adds to the reads of a client and their answers.
use Rattle.std.proofs.Common.{◌≡◌, ◌⊎◌, ℕ, true, false, List, ◌∷◌, ◌++◌, Option, Some, None, map, refl, sym, subst, ap, ◌∙◌, inl, inr}
use Rattle.std.specs.Prelude.{slice_get}
use Rattle.nq_base.specs.Block.{value_of}
use Rattle.nq_base.specs.declared.Entry.{Entry}
use Rattle.nq_base.specs.declared.Entry.TheVariants.{A, W, R}
use Rattle.nq_base.specs.declared.Grant.{Grant}
use Rattle.nq_base.specs.declared.Reply.{Reply}
use Rattle.nq_base.specs.declared.Request.{Request}
use Rattle.nq_base.specs.declared.Said.{Said}
use Rattle.nq_base.specs.declared.Said.TheVariants.{OkValue, OkBy}
use Rattle.nq_base.specs.declared.Want.{Want}
use Rattle.nq_base.specs.declared.Who.{Who}
use Rattle.walk_files.proofs.CallsEntries.{IsOpenAsTold}
use Rattle.walk_files.proofs.Placed.{Placed, IsServedInOrder, reads-on, call-later, reads-called}
use Rattle.walk_files.proofs.CallWorlds.{CallsKnown}
use Rattle.walk_files.proofs.WritesFit.{IsRising}
use Rattle.walk_files.proofs.ReadClient.{Adds, accesses-writes, put-reads-nothing, told-reads-nothing, plain-reads}
use Rattle.walk_files.proofs.ReadFacts.{IsServed, IsBacked, reads_nothing, counted_read, IsGood, ReadsOf, ReadsFit, placed-append, served-once}
use Rattle.walk_files.proofs.ReadFacts.{waits-more, standing-before}
use Rattle.walk_files.proofs.Places.{IsPlaced, placed-in, throughout-at, before-exists}
use Rattle.walk_files.proofs.ReaderValues.{NoneWaits}
use Rattle.walk_files.proofs.ReadSends.{Done, NewRead, OldRead}
use Rattle.walk_files.proofs.ReadSteps.{ValuedBy, IsServedAnswer, IsNamedAnswer}
use Rattle.walk_files.proofs.Stores.{Rests, standing-more}
use Rattle.nq_model.proofs.Lists.{exists-right}
use Rattle.nq_model.specs.protocol.Client.{Client, ClientStep, Lease, UnderWay, lets_read}
use Rattle.nq_base.specs.Calls.{told}
use Rattle.nq_model.specs.laws.Journal.{Exists, Throughout, IsCall, IsAnswer, IsAnswerBy, call_of}
use Rattle.nq_model.specs.laws.Legal.{GivesValue, IsAnswerWith, IsCountedWith}
use Rattle.nq_model.specs.protocol.Message.{Message, call, reply}
use Rattle.nq_model.specs.laws.OfTheirCall.{Reads}
use Rattle.nq_model.specs.protocol.Server.{to_host}
use Rattle.nq_model.specs.protocol.Settle.{cached_body}
use Rattle.nq_model.specs.laws.Stands.{IsStandingValue}
use Rattle.nq_model.specs.protocol.World.{World, from_host}
use Rattle.walk_steps.proofs.Mail.{sent-calls}
use Rattle.walk_steps.proofs.Members.{in-exists, exists-in}
use Rattle.walk_steps.proofs.Packets.{In, in-append, in-left, Asked, in-right}
use Rattle.walk_steps.proofs.Worlds.{IsAt, Holds}
use Rattle.walk_steps.proofs.Incarnations.{one-who}
use Rattle.walk_files.proofs.Accesses.{Accesses, neither, read, wrote, IsHeld, IsCalm}

-- what an entry that is a read has
abbrev GoodFor : List Entry → List Entry → Entry → Type 0
GoodFor journal before (R who q file block v by) = IsGood journal before who q file block v
GoodFor journal before other = Unit {0}

asked-same : (w v : Who) (p q f file b block : ℕ) (o s : Option Want) → Request.Read w p f b o ≡ Request.Read v q file block s → p ≡ q
asked-same w v p q f file b block o s e = cc

module _ (w : World) (host : ℕ) (c : Client) (t : ClientStep) (k : ℕ) (m : Message)
    (there : slice_get w.clients host ≡ Some c) (held : Holds w) (calls : CallsKnown w)
    (after : (u : UnderWay) → t.client.call ≡ Some u → IsOpenAsTold t.client.who t.client.calls u (t.entries ++ w.journal))
    (rising : Throughout IsRising (t.entries ++ w.journal)) (rests : Throughout Rests (t.entries ++ w.journal))
    (accesses : Accesses c.who t) (done : Done c (ValuedBy c k m) t)
    (heard : (x inc rev : ℕ) (body : List ℕ) (grant : Option Grant) → m ≡ reply x (Reply.Read inc rev body grant)
    → slice_get w.packets k ≡ Some (to_host host (reply x (Reply.Read inc rev body grant))))
    (cached_stands : (file block : ℕ) (lease : Lease) (body : List ℕ) → IsHeld t.client file block lease → lets_read t.client.now lease ≡ true
    → cached_body t.client file block ≡ Some body → t.client.call ≡ None
    → IsStandingValue (t.entries ++ w.journal) (t.entries ++ w.journal) c.who file block (value_of body))
    (fresh : (who : Who) (q file block : ℕ) (want : Option Want) → NewRead t who q file block want → NoneWaits (t.entries ++ w.journal) c.who file block)
    (h : ReadsFit w) where
  abbrev Now : List Entry
  Now = t.entries ++ w.journal

  a : IsAt host c w.packets
  a = held.clients host c there

  this : ReadsOf w.packets w.journal c
  this = h.clients host c there

  same : t.client.who ≡ c.who
  same = done.tells.who_is

  -- a call that goes on was under way before, if it had begun
  before-too : (u : UnderWay) → t.client.call ≡ Some u → Exists (IsCall c.who u.q) w.journal → (v : UnderWay) × (c.call ≡ Some v) × (v.q ≡ u.q)
  before-too u is began =
      (calls.clients host c there).calls_fit.alone u.q (
        began,
        λ answered. (after u is).is_open.1
            (exists-right (IsAnswer t.client.who u.q) t.entries w.journal (subst (λ z. Exists (IsAnswer z u.q) w.journal) (sym same) answered)),
      )

  own-old : (u : UnderWay) → t.client.call ≡ Some u → (x file block : ℕ) (want : Option Want)
      → Asked w.packets c.who.host x (Request.Read c.who u.q file block want) → NoneWaits Now c.who file block
  own-old u is x file block want asked =
      let reads : Reads file block (call_of w.journal c.who u.q) = calls.reads c.who.host x (Request.Read c.who u.q file block want) asked in
      let v = before-too u is (reads-called w.journal c.who u.q file block reads) in
      waits-more t.entries w.journal c.who file block (λ n val i. none reads n val i)
      (this.waits v.0 v.1 x file block want (subst (λ q. Asked w.packets c.who.host x (Request.Read c.who q file block want)) (sym v.2) asked))
    where
      none : Reads file block (call_of w.journal c.who u.q) → (n v : ℕ) → In t.entries (W c.who file block n v false) → ⊥
      none reads n v i =
          let d = accesses-writes c.who t accesses c.who file block n v i in
          let tells : call_of Now c.who u.q ≡ Some (told u.call) = subst (λ z. call_of Now z u.q ≡ Some (told u.call)) same (after u is).tells in
          put-reads-nothing file block u (subst IsCalm is d.calm) (subst (Reads file block) tells (reads-on t.entries w.journal c.who u.q file block reads))

  own-waits : (u : UnderWay) → t.client.call ≡ Some u → (x file block : ℕ) (want : Option Want)
      → Asked (w.packets ++ map (from_host host) t.sends) c.who.host x (Request.Read c.who u.q file block want) → NoneWaits Now c.who file block
  own-waits u is x file block want asked =
      case (in-append w.packets (map (from_host host) t.sends) (from_host c.who.host (call x (Request.Read c.who u.q file block want))) asked)
    where
      either : OldRead c x (Request.Read c.who u.q file block want) ⊎ NewRead t c.who u.q file block want → NoneWaits Now c.who file block
      either (inl o) =
          own-old u is x file block want (subst (λ r. Asked w.packets c.who.host x r) o.asks
          (subst (λ n. Asked w.packets c.who.host n o.ticket.request) o.number (a.mail.own o.ticket o.has).sent))
      either (inr new) = fresh c.who u.q file block want new

      case : Asked w.packets c.who.host x (Request.Read c.who u.q file block want)
          ⊎ In (map (from_host host) t.sends) (from_host c.who.host (call x (Request.Read c.who u.q file block want))) → NoneWaits Now c.who file block
      case (inl old) = own-old u is x file block want old
      case (inr new) = either (done.reads x c.who u.q file block want (sent-calls host c.who.host t.sends x _ new))

  unserved : (who : Who) (q file block v n : ℕ) → In t.entries (R who q file block v (Some n)) → ⊥
  unserved who q file block v n i = none (done.tells.fine (R who q file block v (Some n)) i)
    where
      none : ⊥ ⊎ ⊥ ⊎ ⊥ → ⊥
      none (inl x) = x
      none (inr (inl x)) = x
      none (inr (inr x)) = x

  own-standing : (u : UnderWay) → t.client.call ≡ Some u → (file block v n : ℕ) (before : List Entry)
      → IsPlaced (R c.who u.q file block v (Some n)) before Now → IsStandingValue Now before c.who file block v
  own-standing u is file block v n before p = case (placed-append (R c.who u.q file block v (Some n)) before t.entries w.journal p)
    where
      case : In t.entries (R c.who u.q file block v (Some n)) ⊎ IsPlaced (R c.who u.q file block v (Some n)) before w.journal
          → IsStandingValue Now before c.who file block v
      case (inl new) = absurd (unserved c.who u.q file block v n new)
      case (inr old) =
          let o : IsServedInOrder before c.who u.q file block n = throughout-at Placed (R c.who u.q file block v (Some n)) before w.journal
          calls.journal.placed old in
          let x = before-too u is (before-exists (IsCall c.who u.q) (R c.who u.q file block v (Some n)) before w.journal old o.called) in
          standing-more t.entries w.journal rising rests c.who u.q file block v (Some n) before old
          (this.standing x.0 x.1 file block v n before (subst (λ q. IsPlaced (R c.who q file block v (Some n)) before w.journal) (sym x.2) old))

  -- ---- a cached read

  cached-good : (who : Who) (q file block v : ℕ) (before : List Entry) → IsPlaced (R who q file block v None) before Now
      → In t.entries (R who q file block v None) → IsGood Now before who q file block v ⊎ IsPlaced (R who q file block v None) before w.journal
  cached-good who q file block v before p i = case accesses
    where
      case : Accesses c.who t → IsGood Now before who q file block v ⊎ IsPlaced (R who q file block v None) before w.journal
      case (neither plain) = absurd (plain-reads t.entries plain who q file block v None i)
      case (wrote f b n u lease more rest es plain others hold lets calm) =
          absurd (none (in-append more (W c.who f b n u false ∷ rest) (R who q file block v None) (subst (λ zs. In zs (R who q file block v None)) es i)))
        where
          none : In more (R who q file block v None) ⊎ In (W c.who f b n u false ∷ rest) (R who q file block v None) → ⊥
          none (inl j) = plain-reads more plain who q file block v None j
          none (inr (inl e)) = cc
          none (inr (inr j)) = plain-reads rest others who q file block v None j
      case (read n f b lease body rest es plain hold lets has idle) = at (subst (λ zs. IsPlaced (R who q file block v None) before (zs ++ w.journal)) es p)
        where
          first : Entry
          first = A c.who n (OkValue (value_of body))

          second : Entry
          second = R c.who n f b (value_of body) None

          good : IsGood Now (rest ++ w.journal) c.who n f b (value_of body)
          good = record {
            standing =
                standing-before Now (R c.who n f b (value_of body) None) (rest ++ w.journal) c.who f b (value_of body) tt
                (standing-before Now (A c.who n (OkValue (value_of body))) (R c.who n f b (value_of body) None ∷ rest ++ w.journal) c.who f b
                (value_of body) tt
                (subst (λ zs. IsStandingValue Now (zs ++ w.journal) c.who f b (value_of body)) es (cached_stands f b lease body hold lets has idle)));
            answer = subst (λ zs. Exists (IsAnswerWith c.who n (value_of body)) (zs ++ w.journal)) (sym es) (inl (refl, refl, refl));
          }

          later : In rest (R who q file block v None) ⊎ IsPlaced (R who q file block v None) before w.journal
              → IsGood Now before who q file block v ⊎ IsPlaced (R who q file block v None) before w.journal
          later (inl j) = absurd (plain-reads rest plain who q file block v None j)
          later (inr old) = inr old

          at : IsPlaced (R who q file block v None) before
              (A c.who n (OkValue (value_of body)) ∷ R c.who n f b (value_of body) None ∷ rest ++ w.journal)
              → IsGood Now before who q file block v ⊎ IsPlaced (R who q file block v None) before w.journal
          at (inl e) = absurd (cc)
          at (inr (inl e)) = inl (subst (λ z. IsGood Now z who q file block v) e.1 (subst (GoodFor Now (rest ++ w.journal)) e.0 good))
          at (inr (inr e)) = later (placed-append (R who q file block v None) before rest w.journal e)

  -- ---- an answer by a READ's reply

  was-served : (who : Who) (q v n : ℕ) (sv : IsServedAnswer c k m who q v n) → IsServed w.packets w.journal k host sv.ticket.xid sv.inc sv.body
  was-served who q v n sv = h.served k host sv.ticket.xid sv.inc sv.rev sv.body sv.grant (heard sv.ticket.xid sv.inc sv.rev sv.body sv.grant sv.is)

  served-good : (who : Who) (q file block v n : ℕ) (before : List Entry) → IsPlaced (R who q file block v (Some n)) before w.journal
      → Exists (IsAnswerBy who q n) t.entries → IsGood Now before who q file block v
  served-good who q file block v n before p ans = let x = exists-in (IsAnswerBy who q n) t.entries ans in case x.0 x.1 x.2
    where
      by-answer : (who2 : Who) (q2 v2 n2 : ℕ) → In t.entries (A who2 q2 (OkBy v2 n2)) → who2 ≡ who → q2 ≡ q → n2 ≡ n
          → ⊥ ⊎ IsServedAnswer c k m who2 q2 v2 n2 ⊎ ⊥ → IsGood Now before who q file block v
      by-answer who2 q2 v2 n2 i e f g (inl bad) = absurd bad
      by-answer who2 q2 v2 n2 i e f g (inr (inr bad)) = absurd bad
      by-answer who2 q2 v2 n2 i e f g (inr (inl sv)) =
          let mine : who ≡ c.who = sym e ∙ sv.who_is in
          let number : q ≡ sv.u.q = sym f ∙ sym sv.number in
          let packet : n ≡ k = sym g ∙ sv.packet_is in
          let s = was-served who2 q2 v2 n2 sv in
          let value : v ≡ value_of sv.body = served-once w.journal k who q file block v s.by s.q s.file s.block (value_of sv.body) calls.journal.placed
          (subst (λ z. In w.journal (R who q file block v (Some z))) packet (placed-in (R who q file block v (Some n)) before w.journal p)) s.there in
          record {
            standing = standing-more t.entries w.journal rising rests who q file block v (Some n) before p
                (subst (λ z. IsStandingValue w.journal before z file block v) (sym mine)
                (this.standing sv.u sv.called file block v n before
                (subst (λ z. IsPlaced (R z sv.u.q file block v (Some n)) before w.journal) mine
                (subst (λ z. IsPlaced (R who z file block v (Some n)) before w.journal) number p))));
            answer =
                in-exists (IsAnswerWith who q v) Now (A who2 q2 (OkBy v2 n2)) (in-left t.entries w.journal (A who2 q2 (OkBy v2 n2)) i)
                (e, f, sv.value ∙ sym value);
          }

      case : (x : Entry) → In t.entries x → IsAnswerBy who q n x → IsGood Now before who q file block v
      case (A who2 q2 (OkBy v2 n2)) i fact = by-answer who2 q2 v2 n2 i fact.0 fact.1 fact.2 (done.tells.fine (A who2 q2 (OkBy v2 n2)) i)
      case x i fact = absurd fact

  -- ---- answers

  named-backed : (who : Who) (q v : ℕ) → IsNamedAnswer c who q → IsBacked Now who q v
  named-backed who q v nm =
      let tells : call_of w.journal c.who nm.u.q ≡ Some (told nm.u.call) = ((calls.clients host c there).calls_fit.under_way nm.u nm.called).tells in
      let here : call_of w.journal who q ≡ Some (told nm.u.call) = subst (λ z. call_of w.journal z q ≡ Some (told nm.u.call)) (sym nm.who_is)
      (subst (λ z. call_of w.journal c.who z ≡ Some (told nm.u.call)) nm.number tells) in
      reads_nothing (told nm.u.call) (call-later t.entries w.journal who q (told nm.u.call) here) (told-reads-nothing nm.u.call nm.nothing)

  served-backed : (who : Who) (q u v n : ℕ) → In t.entries (A who q (OkBy u n)) → u ≡ v → IsServedAnswer c k m who q u n → IsBacked Now who q v
  served-backed who q u v n i gives sv =
      let s = was-served who q u n sv in
      let inc : s.by.inc ≡ c.who.inc = s.inc_is ∙ sv.inc_is in
      let mine : s.by ≡ who = one-who s.by c.who (s.home ∙ sym a.here) inc ∙ sym sv.who_is in
      let asked : Asked w.packets c.who.host sv.ticket.xid (Request.Read s.by s.q s.file s.block s.want) = subst
      (λ z. Asked w.packets z sv.ticket.xid (Request.Read s.by s.q s.file s.block s.want)) (sym a.here) s.asked in
      let one : sv.ticket.request ≡ Request.Read s.by s.q s.file s.block
      s.want = (a.mail.asked sv.ticket.xid (Request.Read s.by s.q s.file s.block s.want) s.by asked refl).same inc sv.ticket sv.has refl in
      let number : s.q ≡ q = asked-same s.by sv.by s.q q s.file sv.file s.block sv.block s.want sv.want (sym one ∙ sv.asks) in
      counted_read (in-exists (IsCountedWith Now who q v) Now (R s.by s.q s.file s.block (value_of sv.body) (Some k)) (in-right t.entries w.journal _
      s.there) (
        sym sv.value ∙ gives,
        (
          (mine, number),
          in-exists (IsAnswerBy s.by s.q k) Now (A who q (OkBy u n)) (in-left t.entries w.journal _ i)
              (sym mine, sym number, sv.packet_is),
        ),
      ))

  answered-backed : (who : Who) (q v : ℕ) (said : Said) → In t.entries (A who q said) → GivesValue v said → IsBacked Now who q v
  answered-backed who q v (OkValue u) i gives = case (done.tells.fine (A who q (OkValue u)) i)
    where
      case : ⊥ ⊎ IsNamedAnswer c who q ⊎ ((file : ℕ) × (block : ℕ) × In t.entries (R who q file block u None)) → IsBacked Now who q v
      case (inl bad) = absurd bad
      case (inr (inl nm)) = named-backed who q v nm
      case (inr (inr x)) =
          counted_read (in-exists (IsCountedWith Now who q v) Now (R who q x.0 x.1 u None) (in-left t.entries w.journal _ x.2) (gives, ((refl, refl), tt)))
  answered-backed who q v (OkBy u n) i gives = case (done.tells.fine (A who q (OkBy u n)) i)
    where
      case : ⊥ ⊎ IsServedAnswer c k m who q u n ⊎ ⊥ → IsBacked Now who q v
      case (inl bad) = absurd bad
      case (inr (inl sv)) = served-backed who q u v n i gives sv
      case (inr (inr bad)) = absurd bad
  answered-backed who q v other i gives = absurd gives

  pub step-adds : Adds w host t
  step-adds = record {
    own = record {
      ticketed = done.tells.asks;
      waits =
          λ u is x file block want asked. subst (λ z. NoneWaits Now z file block) (sym same)
          (own-waits u is x file block want
          (subst (λ z. Asked (w.packets ++ map (from_host host) t.sends) z.host x (Request.Read z u.q file block want)) same asked));
      standing =
          λ u is file block v n before p. subst (λ z. IsStandingValue Now before z file block v) (sym same)
          (own-standing u is file block v n before (subst (λ z. IsPlaced (R z u.q file block v (Some n)) before Now) same p));
    };
    unserved = unserved;
    delayed = λ who file block n v i. ap (λ z. z.host) (accesses-writes c.who t accesses who file block n v i).mine ∙ a.here;
    cached = cached-good;
    served = served-good;
    answers = answered-backed;
  }
