-- Reads and their answers are kept by a server's step.
use Rattle.std.proofs.Common.{◌≡◌, ◌<◌, ◌⊎◌, ℕ, zero, suc, ◌+◌, ◌==◌, ◌&&◌, true, false, List, [], ◌∷◌, ◌++◌, Option, Some, None, length, refl, sym}
use Rattle.std.proofs.Common.{subst, ap, ◌∙◌, arith, inl, inr}
use Rattle.std.specs.Prelude.{slice_get}
use Rattle.nq_base.specs.Block.{value_of}
use Rattle.nq_base.specs.declared.Entry.{Entry}
use Rattle.nq_base.specs.declared.Entry.TheVariants.{A, W, R, G}
use Rattle.nq_base.specs.declared.Grant.{Grant}
use Rattle.nq_base.specs.declared.Reply.{Reply}
use Rattle.nq_base.specs.declared.Request.{Request}
use Rattle.nq_base.specs.declared.Said.{Said}
use Rattle.nq_base.specs.declared.Want.{Want}
use Rattle.nq_base.specs.declared.Who.{Who}
use Rattle.walk_files.proofs.ClientMoves.{IsBelow}
use Rattle.walk_files.proofs.CallWorlds.{CallsKnown}
use Rattle.walk_steps.proofs.ClientMoves.{none-some, some-same}
use Rattle.walk_files.proofs.ServerDelays.{Never}
use Rattle.nq_model.specs.laws.Contents.{delayed_by}
use Rattle.walk_files.proofs.WritesFit.{IsRising}
use Rattle.walk_files.proofs.ReadClient.{good-more}
use Rattle.walk_files.proofs.ReadFacts.{IsServed, IsBacked, IsGood, ReadsFit, placed-append, get-append, served-more, backed-more, waits-more, standing-after}
use Rattle.walk_files.proofs.ServerReads.{IsUnread, TellsNone, ServesRead, reads_none, reads_one}
use Rattle.walk_files.proofs.Held.{HasHeld}
use Rattle.walk_files.proofs.Places.{IsPlaced}
use Rattle.walk_files.proofs.ReaderValues.{NoneWaits, held-stands}
use Rattle.walk_files.proofs.Stores.{Rests, standing-other, standing-more, StoresNone}
use Rattle.nq_model.proofs.JournalTests.{tells_who}
use Rattle.nq_model.proofs.Lists.{exists-append}
use Rattle.nq_model.proofs.Telling.{tells_4, tells_same}
use Rattle.nq_model.specs.protocol.Client.{Client, UnderWay}
use Rattle.nq_model.specs.laws.Journal.{Each, Exists, Throughout, IsAnswerBy, IsCounted}
use Rattle.nq_model.specs.protocol.Kept.{File, find_file}
use Rattle.nq_model.specs.laws.Legal.{GivesValue}
use Rattle.nq_model.specs.protocol.Message.{reply}
use Rattle.nq_model.specs.protocol.Server.{Server, ServerStep, to_host}
use Rattle.nq_model.specs.protocol.ServerStep.{serves, grants}
use Rattle.nq_model.specs.laws.Stands.{IsStandingValue}
use Rattle.nq_model.specs.protocol.Table.{Table, same_who}
use Rattle.nq_model.specs.laws.Tests.{Tells}
use Rattle.nq_model.specs.protocol.World.{World, after_server}
use Rattle.walk_steps.proofs.Sequences.{asked-before-server}
use Rattle.walk_steps.proofs.Members.{exists-in}
use Rattle.walk_steps.proofs.Packets.{In, in-append, in-left, in-get, Asked, told-same, reply-same}
use Rattle.walk_steps.proofs.ServerSays.{AllSaid}

-- ---- entries of the server

tells-this : (who : Who) (file block n : ℕ)
    → Tells (same_who who who && file == file && block == block && n == n) ((who ≡ who) × (file ≡ file) × (block ≡ block) × (n ≡ n))
tells-this who file block n = tells_4 tells_who tells_same tells_same tells_same

delayed-this : (who : Who) (file block n v : ℕ) → delayed_by (W who file block n v false) who file block n ≡ Some v
delayed-this who file block n v =
    let same : same_who who who && file == file && block == block && n == n ≡ true = (tells-this who file block n).complete (refl, refl, refl, refl) in
    rw same refl

never-in : (es : List Entry) → Never es → (who : Who) (file block n v : ℕ) → In es (W who file block n v false) → ⊥
never-in [] never who file block n v i = i
never-in (e ∷ es) never who file block n v (inl same) =
    none-some v (sym (subst (λ x. delayed_by x who file block n ≡ None) same (never.0 who file block n)) ∙ delayed-this who file block n v)
never-in (e ∷ es) never who file block n v (inr i) = never-in es never.1 who file block n v i

unread-in : (es : List Entry) (e : Entry) → Each IsUnread es → In es e → IsUnread e
unread-in [] e all i = absurd i
unread-in (x ∷ es) e all (inl same) = subst IsUnread same all.0
unread-in (x ∷ es) e all (inr i) = unread-in es e all.1 i

unanswered : (es : List Entry) → Each IsUnread es → (who : Who) (q k : ℕ) → Exists (IsAnswerBy who q k) es → ⊥
unanswered es all who q k h = let x = exists-in (IsAnswerBy who q k) es h in case x.0 (unread-in es x.0 all x.1) x.2
  where
    case : (e : Entry) → IsUnread e → IsAnswerBy who q k e → ⊥
    case (A by n said) unread fact = unread
    case e unread fact = absurd fact

below-answer : (limit : ℕ) (j : List Entry) (who : Who) (q k : ℕ) → Each (IsBelow limit) j → Exists (IsAnswerBy who q k) j → k < limit
below-answer limit [] who q k each h = absurd h
below-answer limit (e ∷ j) who q k each (inr h) = below-answer limit j who q k each.1 h
below-answer limit (A by n (Said.OkBy v p) ∷ j) who q k each (inl h) = let below : p < limit = each.0 in let same : p ≡ k = h.2 in omega arith
below-answer limit (e ∷ j) who q k each (inl h) = absurd h

-- ---- a step

-- what a step adds
record Adds (w : World) (t : ServerStep) : Type 0 where
  served : (n host x inc rev : ℕ) (body : List ℕ) (grant : Option Grant)
      → slice_get t.sends n ≡ Some (to_host host (reply x (Reply.Read inc rev body grant)))
      → IsServed (w.packets ++ t.sends) (t.entries ++ w.journal) (length w.packets + n) host x inc body
  standing : (host : ℕ) (c : Client) (u : UnderWay) → slice_get w.clients host ≡ Some c → c.call ≡ Some u → (file block v k : ℕ) (before : List Entry)
      → IsPlaced (R c.who u.q file block v (Some k)) before (t.entries ++ w.journal) → IsStandingValue (t.entries ++ w.journal) before c.who file block v
  uncounted : (who : Who) (q file block v : ℕ) (by : Option ℕ) → In t.entries (R who q file block v by)
      → IsCounted (t.entries ++ w.journal) (R who q file block v by) → ⊥
  unsaid : (who : Who) (q k : ℕ) → Exists (IsAnswerBy who q k) t.entries → ⊥
  unanswered_now : (who : Who) (q : ℕ) (said : Said) → In t.entries (A who q said) → ⊥

module _ (w : World) (t : ServerStep) (said : AllSaid w.packets t.sends) (never : Never t.entries)
    (rising : Throughout IsRising (t.entries ++ w.journal)) (rests : Throughout Rests (t.entries ++ w.journal)) (h : ReadsFit w) where
  after-adds : Adds w t → ReadsFit (after_server w t)
  unfolding after_server
  after-adds adds = record {
    served =
        λ k host x inc rev body grant at. served k host x inc rev body grant
        (get-append w.packets t.sends k (to_host host (reply x (Reply.Read inc rev body grant))) at);
    clients = λ host c is. let k = h.clients host c is in record {
      ticketed = k.ticketed;
      waits =
          λ u called x file block want asked. waits-more t.entries w.journal c.who file block (λ n v i. never-in t.entries never c.who file block n v i)
          (k.waits u called x file block want (asked-before-server w.packets t.sends said c.who.host x _ asked));
      standing = λ u called file block v k before p. adds.standing host c u is called file block v k before p;
    };
    counted = λ who q file block v by before p counted. good who q file block v by before p counted;
    answered = λ who q v said i gives. backed who q v said gives (in-append t.entries w.journal (A who q said) i);
  } where
    served : (k host x inc rev : ℕ) (body : List ℕ) (grant : Option Grant)
        → (slice_get w.packets k ≡ Some (to_host host (reply x (Reply.Read inc rev body grant))))
        ⊎ ((n : ℕ) × (k ≡ length w.packets + n) × (slice_get t.sends n ≡ Some (to_host host (reply x (Reply.Read inc rev body grant)))))
        → IsServed (w.packets ++ t.sends) (t.entries ++ w.journal) k host x inc body
    served k host x inc rev body grant (inl old) =
        served-more w.packets t.sends t.entries w.journal k host x inc body (h.served k host x inc rev body grant old)
    served k host x inc rev body grant (inr new) =
        subst (λ n. IsServed (w.packets ++ t.sends) (t.entries ++ w.journal) n host x inc body) (sym new.1)
        (adds.served new.0 host x inc rev body grant new.2)

    good-old : (who : Who) (q file block v : ℕ) (by : Option ℕ) (before : List Entry) → IsPlaced (R who q file block v by) before w.journal
        → IsCounted w.journal (R who q file block v by) → IsGood (t.entries ++ w.journal) before who q file block v
    good-old who q file block v by before p counted =
        good-more t.entries w.journal before rising rests who q file block v by p (h.counted who q file block v by before p counted)

    was-counted : (who : Who) (q file block v : ℕ) (by : Option ℕ) → IsCounted (t.entries ++ w.journal) (R who q file block v by)
        → IsCounted w.journal (R who q file block v by)
    was-counted who q file block v None counted = tt
    was-counted who q file block v (Some k) counted = case (exists-append (IsAnswerBy who q k) t.entries w.journal counted)
      where
        case : Exists (IsAnswerBy who q k) t.entries ⊎ Exists (IsAnswerBy who q k) w.journal → Exists (IsAnswerBy who q k) w.journal
        case (inl now) = absurd (adds.unsaid who q k now)
        case (inr was) = was

    good : (who : Who) (q file block v : ℕ) (by : Option ℕ) (before : List Entry) → IsPlaced (R who q file block v by) before (t.entries ++ w.journal)
        → IsCounted (t.entries ++ w.journal) (R who q file block v by) → IsGood (t.entries ++ w.journal) before who q file block v
    good who q file block v by before p counted = case (placed-append (R who q file block v by) before t.entries w.journal p)
      where
        case : In t.entries (R who q file block v by) ⊎ IsPlaced (R who q file block v by) before w.journal
            → IsGood (t.entries ++ w.journal) before who q file block v
        case (inl new) = absurd (adds.uncounted who q file block v by new counted)
        case (inr old) = good-old who q file block v by before old (was-counted who q file block v by counted)

    backed : (who : Who) (q v : ℕ) (said : Said) → GivesValue v said → In t.entries (A who q said) ⊎ In w.journal (A who q said)
        → IsBacked (t.entries ++ w.journal) who q v
    backed who q v said gives (inl new) = absurd (adds.unanswered_now who q said new)
    backed who q v said gives (inr old) = backed-more t.entries w.journal who q v (h.answered who q v said old gives)

  -- nothing is read
  none-adds : TellsNone t.sends → Each IsUnread t.entries → Adds w t
  none-adds none unread = record {
    served = λ n host x inc rev body grant at. absurd (none host x inc rev body grant (in-get t.sends n _ at));
    standing =
        λ host c u is called file block v k before p. stands host c u is called file block v k before
        (placed-append (R c.who u.q file block v (Some k)) before t.entries w.journal p);
    uncounted = λ who q file block v by i counted. unread-in t.entries (R who q file block v by) unread i;
    unsaid = λ who q k i. unanswered t.entries unread who q k i;
    unanswered_now = λ who q said i. unread-in t.entries (A who q said) unread i;
  } where
    stands : (host : ℕ) (c : Client) (u : UnderWay) → slice_get w.clients host ≡ Some c → c.call ≡ Some u → (file block v k : ℕ) (before : List Entry)
        → In t.entries (R c.who u.q file block v (Some k)) ⊎ IsPlaced (R c.who u.q file block v (Some k)) before w.journal
        → IsStandingValue (t.entries ++ w.journal) before c.who file block v
    stands host c u is called file block v k before (inl new) = absurd (unread-in t.entries (R c.who u.q file block v (Some k)) unread new)
    stands host c u is called file block v k before (inr old) =
        standing-more t.entries w.journal rising rests c.who u.q file block v (Some k) before old
        ((h.clients host c is).standing u called file block v k before old)

-- ---- a block is read

abbrev StandsFor : List Entry → List Entry → Entry → Type 0
StandsFor whole before (R who q file block v by) = IsStandingValue whole before who file block v
StandsFor whole before other = Unit {0}

-- whose a read is
read-who : (w v : Who) (p q f file b block u x : ℕ) (o s : Option ℕ) → R w p f b u o ≡ R v q file block x s → (w ≡ v) × (p ≡ q)
read-who w v p q f file b block u x o s e = (cc, cc)

granted-stands : (s : Server) (by : Who) (file_of : ℕ) (g : Option Grant) (first : Entry) (j : List Entry) (reader : Who) (file block v : ℕ)
    → StoresNone first → IsStandingValue j j reader file block v
    → IsStandingValue (first ∷ grants s by file_of g ++ j) (grants s by file_of g ++ j) reader file block v
granted-stands s by file_of None first j reader file block v none h = standing-other first j j reader file block v none h
granted-stands s by file_of (Some g) first j reader file block v none h =
    standing-other first (G by file_of g.mode g.tag g.term s.now ∷ j) (G by file_of g.mode g.tag g.term s.now ∷ j) reader file block v none
    (standing-after (G by file_of g.mode g.tag g.term s.now ∷ j) (G by file_of g.mode g.tag g.term s.now) j reader file block v tt
    (standing-other (G by file_of g.mode g.tag g.term s.now) j j reader file block v tt h))

granted-unread : (s : Server) (who : Who) (file : ℕ) (o : Option Grant) → Each IsUnread (grants s who file o)
granted-unread s who file None = tt
granted-unread s who file (Some g) = (tt, tt)

module _ (w : World) (who : Who) (xid q block : ℕ) (f : File) (body : List ℕ) (want : Option Want) (table : Table) (g : Option Grant)
    (asked : Asked w.packets who.host xid (Request.Read who q f.id block want)) (value_held : HasHeld w.journal f.id block (value_of body))
    (calls : CallsKnown w) (h : ReadsFit w) where
  abbrev Step : ServerStep
  Step = serves w.server who xid (length w.packets) q f block body table g

  abbrev Granted : List Entry
  Granted = grants w.server who f.id g

  abbrev Read : Entry
  Read = R who q f.id block (value_of body) (Some (length w.packets))

  one-adds : Throughout IsRising (Read ∷ Granted ++ w.journal) → Throughout Rests (Read ∷ Granted ++ w.journal) → Adds w Step
  unfolding serves
  one-adds rising rests = record {
    served = λ n host x inc rev told grant at. served n host x inc rev told grant at;
    standing = λ host c u is called file b v k before p. stands host c u is called file b v k before p;
    uncounted = λ by n file b v k i counted. uncounted by n file b v k i counted;
    unsaid = λ by n k i. unsaid by n k i;
    unanswered_now = λ by n said i. unanswered_now by n said i;
  } where
    served : (n host x inc rev : ℕ) (told : List ℕ) (grant : Option Grant)
        → slice_get (to_host who.host (reply xid (Reply.Read who.inc f.rev body g)) ∷ []) n ≡ Some
        (to_host host (reply x (Reply.Read inc rev told grant)))
        → IsServed (w.packets ++ to_host who.host (reply xid (Reply.Read who.inc f.rev body g)) ∷ []) (Read ∷ Granted ++ w.journal)
        (length w.packets + n) host x inc told
    served (suc n) host x inc rev told grant at = none-some _ at
    served zero host x inc rev told grant at =
        let t = told-same who.host host (reply xid (Reply.Read who.inc f.rev body g)) (reply x (Reply.Read inc rev told grant)) (some-same _ _ at) in
        let r = reply-same xid x (Reply.Read who.inc f.rev body g) (Reply.Read inc rev told grant) t.1 in
        let inc_same : who.inc ≡ inc = reply-inc who.inc inc f.rev rev body told g grant r.1 in
        let body_same : body ≡ told = reply-body who.inc inc f.rev rev body told g grant r.1 in
        let index : length w.packets ≡ length w.packets + 0 = omega arith in
        record {
          by = who;
          q = q;
          file = f.id;
          block = block;
          want = want;
          asked =
              in-left w.packets _ _ (subst (λ n. Asked w.packets n x (Request.Read who q f.id block want)) t.0
              (subst (λ n. Asked w.packets who.host n (Request.Read who q f.id block want)) r.0 asked));
          home = t.0;
          inc_is = inc_same;
          there =
              inl (ap (λ z. R who q f.id block (value_of z) (Some (length w.packets))) body_same
              ∙ ap (λ n. R who q f.id block (value_of told) (Some n)) index);
        }
      where
        reply-inc : (a b m n : ℕ) (x y : List ℕ) (g o : Option Grant) → Reply.Read a m x g ≡ Reply.Read b n y o → a ≡ b
        reply-inc a b m n x y g o e = cc

        reply-body : (a b m n : ℕ) (x y : List ℕ) (g o : Option Grant) → Reply.Read a m x g ≡ Reply.Read b n y o → x ≡ y
        reply-body a b m n x y g o e = cc

    stands-now : (host : ℕ) (c : Client) (u : UnderWay) → slice_get w.clients host ≡ Some c → c.call ≡ Some u → who ≡ c.who → q ≡ u.q
        → IsStandingValue (Read ∷ Granted ++ w.journal) (Granted ++ w.journal) who f.id block (value_of body)
    stands-now host c u is called mine number =
        let mine_asked : Asked w.packets c.who.host xid (Request.Read c.who u.q f.id block want) = subst
        (λ n. Asked w.packets c.who.host xid (Request.Read c.who n f.id block want)) number
        (subst (λ z. Asked w.packets z.host xid (Request.Read z q f.id block want)) mine asked) in
        let none : NoneWaits w.journal who f.id block = subst (λ z. NoneWaits w.journal z f.id block) (sym mine)
        ((h.clients host c is).waits u called xid f.id block want mine_asked) in
        granted-stands w.server who f.id g Read w.journal who f.id block (value_of body) tt
        (held-stands w.journal who f.id block (value_of body) none value_held)

    stands : (host : ℕ) (c : Client) (u : UnderWay) → slice_get w.clients host ≡ Some c → c.call ≡ Some u → (file b v k : ℕ) (before : List Entry)
        → IsPlaced (R c.who u.q file b v (Some k)) before (Read ∷ Granted ++ w.journal)
        → IsStandingValue (Read ∷ Granted ++ w.journal) before c.who file b v
    stands host c u is called file b v k before (inl p) =
        let k2 = read-who who c.who q u.q f.id file block b (value_of body) v (Some (length w.packets)) (Some k) p.0 in
        subst (λ z. IsStandingValue (Read ∷ Granted ++ w.journal) z c.who file b v) p.1
        (subst (StandsFor (Read ∷ Granted ++ w.journal) (Granted ++ w.journal)) p.0 (stands-now host c u is called k2.0 k2.1))
    stands host c u is called file b v k before (inr p) = later (placed-append (R c.who u.q file b v (Some k)) before Granted w.journal p)
      where
        later : In Granted (R c.who u.q file b v (Some k)) ⊎ IsPlaced (R c.who u.q file b v (Some k)) before w.journal
            → IsStandingValue (Read ∷ Granted ++ w.journal) before c.who file b v
        later (inl new) = absurd (unread-in Granted (R c.who u.q file b v (Some k)) (granted-unread w.server who f.id g) new)
        later (inr old) =
            standing-more (Read ∷ Granted) w.journal rising rests c.who u.q file b v (Some k) before old
            ((h.clients host c is).standing u called file b v k before old)

    unsaid : (by : Who) (n k : ℕ) → Exists (IsAnswerBy by n k) (Read ∷ Granted) → ⊥
    unsaid by n k (inl bad) = bad
    unsaid by n k (inr i) = unanswered Granted (granted-unread w.server who f.id g) by n k i

    unanswered_now : (by : Who) (n : ℕ) (said : Said) → In (Read ∷ Granted) (A by n said) → ⊥
    unanswered_now by n said (inl e) = cc
    unanswered_now by n said (inr i) = unread-in Granted (A by n said) (granted-unread w.server who f.id g) i

    past : (by : Who) (n k : ℕ) → k ≡ length w.packets → Exists (IsAnswerBy by n k) (Read ∷ Granted ++ w.journal) → ⊥
    past by n k same counted = either (exists-append (IsAnswerBy by n k) (Read ∷ Granted) w.journal counted)
      where
        either : Exists (IsAnswerBy by n k) (Read ∷ Granted) ⊎ Exists (IsAnswerBy by n k) w.journal → ⊥
        either (inl now) = unsaid by n k now
        either (inr was) = let below = below-answer (length w.packets) w.journal by n k calls.below was in omega arith

    read-packet : (by : Who) (n file b v : ℕ) (k : Option ℕ) → Read ≡ R by n file b v k → k ≡ Some (length w.packets)
    read-packet by n file b v k e = cc

    uncounted : (by : Who) (n file b v : ℕ) (k : Option ℕ) → In (Read ∷ Granted) (R by n file b v k)
        → IsCounted (Read ∷ Granted ++ w.journal) (R by n file b v k) → ⊥
    uncounted by n file b v k (inr i) counted = unread-in Granted (R by n file b v k) (granted-unread w.server who f.id g) i
    uncounted by n file b v None (inl e) counted = let bad = read-packet by n file b v None e in absurd (cc)
    uncounted by n file b v (Some k) (inl e) counted = past by n k (some-same k (length w.packets) (read-packet by n file b v (Some k) e)) counted

pub reads-after-server : (w : World) (t : ServerStep) → AllSaid w.packets t.sends → Never t.entries → Throughout IsRising (t.entries ++ w.journal)
    → Throughout Rests (t.entries ++ w.journal) → CallsKnown w
    → ((id : ℕ) (f : File) (block : ℕ) (body : List ℕ) → find_file id w.server.kept.files ≡ Some f → slice_get f.bodies block ≡ Some body
    → HasHeld w.journal id block (value_of body)) → ServesRead w.packets w.server (length w.packets) t → ReadsFit w → ReadsFit (after_server w t)
unfolding serves
reads-after-server w t said never rising rests calls held (reads_none none unread) h =
    after-adds w t said never rising rests h (none-adds w t said never rising rests h none unread)
reads-after-server w t said never rising rests calls held (reads_one who xid q block f body want table g is asked found there) h =
    after-adds w t said never rising rests h
    (subst (Adds w) (sym is) (one-adds w who xid q block f body want table g asked (held f.id f block body found there) calls h
    (subst (λ z. Throughout IsRising (z.entries ++ w.journal)) is rising) (subst (λ z. Throughout Rests (z.entries ++ w.journal)) is rests)))
