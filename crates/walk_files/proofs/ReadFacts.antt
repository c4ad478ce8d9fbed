-- What a world's reads and their answers keep.
use Rattle.std.proofs.Common.{◌≡◌, ◌⊎◌, ℕ, zero, suc, ◌+◌, Bool, true, false, List, [], ◌∷◌, ◌++◌, Option, Some, None, length, if◌then◌else◌, refl}
use Rattle.std.proofs.Common.{sym, subst, ap, ◌∙◌, arith, inl, inr}
use Rattle.std.specs.Prelude.{slice_get}
use Rattle.nq_base.specs.Block.{value_of}
use Rattle.nq_base.specs.declared.Entry.{Entry}
use Rattle.nq_base.specs.declared.Entry.TheVariants.{A, W, R, L, Z}
use Rattle.nq_base.specs.declared.Grant.{Grant}
use Rattle.nq_base.specs.declared.Party.{Party}
use Rattle.nq_base.specs.declared.Reply.{Reply}
use Rattle.nq_base.specs.declared.Request.{Request}
use Rattle.nq_base.specs.declared.Said.{Said}
use Rattle.nq_base.specs.declared.Told.{Told}
use Rattle.nq_base.specs.declared.Want.{Want}
use Rattle.nq_base.specs.declared.Who.{Who}
use Rattle.walk_files.proofs.Placed.{Placed, IsServedIn, IsServedInOrder, call-later}
use Rattle.walk_files.proofs.JournalMoves.{covers-more}
use Rattle.walk_files.proofs.WritesFit.{CoversNumber}
use Rattle.walk_files.proofs.Places.{IsPlaced, last-same}
use Rattle.walk_files.proofs.ReaderValues.{NoneWaits}
use Rattle.walk_files.proofs.ReadParts.{TicketOfCall}
use Rattle.nq_model.proofs.Lists.{exists-right, exists-map}
use Rattle.nq_model.specs.protocol.Client.{Client, UnderWay}
use Rattle.nq_model.specs.laws.Journal.{Exists, Throughout, IsAnswerBy, IsCounted, IsWriteOn, IsLost, cuts, since_cut, IsLastValue, call_of, Loses}
use Rattle.nq_model.specs.laws.Legal.{IsReading, GivesValue, IsAnswerWith, IsCountedWith}
use Rattle.nq_model.specs.protocol.Message.{Packet, reply}
use Rattle.nq_model.specs.protocol.Server.{to_host}
use Rattle.nq_model.specs.laws.Stands.{Stands, IsStandingValue}
use Rattle.nq_model.specs.protocol.World.{World}
use Rattle.walk_steps.proofs.Members.{in-exists}
use Rattle.walk_steps.proofs.Packets.{In, in-append, in-left, in-right, Asked}
use Rattle.walk_steps.proofs.Worlds.{IsSent, by_host, by_server}

-- the block that a reply in packet k tells was read for a request that was sent
pub record IsServed (packets : List Packet) (journal : List Entry) (k host x inc : ℕ) (body : List ℕ) : Type 0 where
  pub by : Who
  pub q : ℕ
  pub file : ℕ
  pub block : ℕ
  pub want : Option Want
  pub asked : Asked packets host x (Request.Read by q file block want)
  pub home : by.host ≡ host
  pub inc_is : by.inc ≡ inc
  pub there : In journal (R by q file block (value_of body) (Some k))

-- an answer with a value is to a call that reads nothing, or a counted read gave it
pub data IsBacked (journal : List Entry) (who : Who) (q v : ℕ) : Type 0 where
  reads_nothing : (t : Told) → call_of journal who q ≡ Some t → (IsReading (Some t) → ⊥) → IsBacked journal who q v
  counted_read : Exists (IsCountedWith journal who q v) journal → IsBacked journal who q v

-- what a counted read has
pub record IsGood (journal before : List Entry) (who : Who) (q file block v : ℕ) : Type 0 where
  pub standing : IsStandingValue journal before who file block v
  pub answer : Exists (IsAnswerWith who q v) journal

-- a client, and what its host sent
pub record ReadsOf (packets : List Packet) (journal : List Entry) (c : Client) : Type 0 where
  -- its call's request is made for its call
  pub ticketed : TicketOfCall c.ticket c.call
  -- where a READ of the call under way was sent, no own write on the block waits
  pub waits : (u : UnderWay) → c.call ≡ Some u → (x file block : ℕ) (want : Option Want)
      → Asked packets c.who.host x (Request.Read c.who u.q file block want) → NoneWaits journal c.who file block
  -- and what was read for it stands
  pub standing : (u : UnderWay) → c.call ≡ Some u → (file block v k : ℕ) (before : List Entry)
      → IsPlaced (R c.who u.q file block v (Some k)) before journal → IsStandingValue journal before c.who file block v

pub record ReadsFit (w : World) : Type 0 where
  pub served : (k host x inc rev : ℕ) (body : List ℕ) (grant : Option Grant)
      → slice_get w.packets k ≡ Some (to_host host (reply x (Reply.Read inc rev body grant))) → IsServed w.packets w.journal k host x inc body
  pub clients : (host : ℕ) (c : Client) → slice_get w.clients host ≡ Some c → ReadsOf w.packets w.journal c
  pub counted : (who : Who) (q file block v : ℕ) (by : Option ℕ) (before : List Entry) → IsPlaced (R who q file block v by) before w.journal
      → IsCounted w.journal (R who q file block v by) → IsGood w.journal before who q file block v
  pub answered : (who : Who) (q v : ℕ) (said : Said) → In w.journal (A who q said) → GivesValue v said → IsBacked w.journal who q v

-- ---- places

pub placed-append : (e : Entry) (before es j : List Entry) → IsPlaced e before (es ++ j) → In es e ⊎ IsPlaced e before j
placed-append e before [] j p = inr p
placed-append e before (x ∷ es) j (inl p) = inl (inl p.0)
placed-append e before (x ∷ es) j (inr p) = step (placed-append e before es j p)
  where
    step : In es e ⊎ IsPlaced e before j → ((x ≡ e) ⊎ In es e) ⊎ IsPlaced e before j
    step (inl i) = inl (inr i)
    step (inr q) = inr q

-- ---- calls that go on

-- ---- packets

pub get-append : {Y : Type 0} (xs ys : List Y) (k : ℕ) (x : Y) → slice_get (xs ++ ys) k ≡ Some x
    → (slice_get xs k ≡ Some x) ⊎ ((n : ℕ) × (k ≡ length xs + n) × (slice_get ys n ≡ Some x))
get-append [] ys k x h = inr (k, (omega arith), h)
get-append (y ∷ xs) ys zero x h = inl h
get-append (y ∷ xs) ys (suc k) x h = step (get-append xs ys k x h)
  where
    step : (slice_get xs k ≡ Some x) ⊎ ((n : ℕ) × (k ≡ length xs + n) × (slice_get ys n ≡ Some x))
        → (slice_get xs k ≡ Some x) ⊎ ((n : ℕ) × (suc k ≡ suc (length xs) + n) × (slice_get ys n ≡ Some x))
    step (inl a) = inl a
    step (inr b) = inr (b.0, (let e = b.1 in omega arith), b.2)

pub told-packet : (p : Packet) (host : ℕ) → IsSent p → p.to ≡ Party.Client host → p ≡ to_host host p.message
told-packet p host (by_host h x r w e a) to = let bad : Party.Server ≡ Party.Client host = sym (ap (λ z. z.to) e) ∙ to in absurd (cc)
told-packet p host (by_server h m e) to =
    let at : Party.Client h ≡ Party.Client host = sym (ap (λ z. z.to) e) ∙ to in
    let one : h ≡ host = cc in
    e ∙ ap (λ n. to_host n m) one ∙ ap (to_host host) (sym (ap (λ z. z.message) e))

pub served-more : (packets more : List Packet) (es j : List Entry) (k host x inc : ℕ) (body : List ℕ) → IsServed packets j k host x inc body
    → IsServed (packets ++ more) (es ++ j) k host x inc body
served-more packets more es j k host x inc body h =
    record {
      by = h.by;
      q = h.q;
      file = h.file;
      block = h.block;
      want = h.want;
      asked = in-left packets more _ h.asked;
      home = h.home;
      inc_is = h.inc_is;
      there = in-right es j _ h.there;
    }

-- reads of one packet are one
served-in : (k : ℕ) (who : Who) (q file block v : ℕ) (before : List Entry) → In before (R who q file block v (Some k)) → Exists (IsServedIn k) before
served-in k who q file block v before i = in-exists (IsServedIn k) before (R who q file block v (Some k)) i refl

pub served-once : (j : List Entry) (k : ℕ) (who : Who) (q file block v : ℕ) (other : Who) (n f b u : ℕ) → Throughout Placed j
    → In j (R who q file block v (Some k)) → In j (R other n f b u (Some k)) → v ≡ u
served-once [] k who q file block v other n f b u t i h = absurd i
served-once (e ∷ j) k who q file block v other n f b u t (inl i) (inl h) = cc_value (sym i ∙ h)
  where
    cc_value : R who q file block v (Some k) ≡ R other n f b u (Some k) → v ≡ u
    cc_value same = cc
served-once (e ∷ j) k who q file block v other n f b u t (inl i) (inr h) =
    let p : IsServedInOrder j who q file block k = subst (λ x. Placed x j) i t.0 in
    absurd (p.fresh (served-in k other n f b u j h))
served-once (e ∷ j) k who q file block v other n f b u t (inr i) (inl h) =
    let p : IsServedInOrder j other n f b k = subst (λ x. Placed x j) h t.0 in
    absurd (p.fresh (served-in k who q file block v j i))
served-once (e ∷ j) k who q file block v other n f b u t (inr i) (inr h) = served-once j k who q file block v other n f b u t.1 i h

-- ---- more entries

counted-with-more : (es j : List Entry) (who : Who) (q v : ℕ) (e : Entry) → IsCountedWith j who q v e → IsCountedWith (es ++ j) who q v e
counted-with-more es j who q v (R by n file block u None) h = h
counted-with-more es j who q v (R by n file block u (Some k)) h = (h.0, (h.1.0, exists-right (IsAnswerBy by n k) es j h.1.1))
counted-with-more es j who q v other h = absurd h

pub backed-more : (es j : List Entry) (who : Who) (q v : ℕ) → IsBacked j who q v → IsBacked (es ++ j) who q v
backed-more es j who q v (reads_nothing t told none) = reads_nothing t (call-later es j who q t told) none
backed-more es j who q v (counted_read h) =
    counted_read (exists-right (IsCountedWith (es ++ j) who q v) es j
    (exists-map (IsCountedWith j who q v) (IsCountedWith (es ++ j) who q v) j (counted-with-more es j who q v) h))

pub waits-more : (es j : List Entry) (who : Who) (file block : ℕ) → ((n v : ℕ) → In es (W who file block n v false) → ⊥) → NoneWaits j who file block
    → NoneWaits (es ++ j) who file block
waits-more es j who file block none h n v i = case (in-append es j (W who file block n v false) i)
  where
    case : In es (W who file block n v false) ⊎ In j (W who file block n v false) → CoversNumber (es ++ j) who file block n
    case (inl new) = absurd (none n v new)
    case (inr old) = covers-more es j who file block n (h n v old)

-- an entry that is no write, cuts nothing and loses nothing does not change what stands before it
abbrev pub IsStill : Entry → Type 0
IsStill (W who file block n v through) = ⊥
IsStill (Z who q file from to) = ⊥
IsStill (L who file block first last) = ⊥
IsStill other = Unit {0}

still-uncut : (e : Entry) (file block : ℕ) → IsStill e → cuts e file block ≡ false
still-uncut (Z who q f from to) file block h = absurd h
still-uncut other file block h = refl

still-unwritten : (e : Entry) (file block : ℕ) → IsStill e → IsWriteOn file block e → ⊥
still-unwritten (W who f b n v through) file block h on = h
still-unwritten other file block h on = on

still-unlost : (e w : Entry) → IsStill e → Loses e w → ⊥
still-unlost (L who f b first last) w h c = h
still-unlost other w h c = c

module _ (whole : List Entry) (e : Entry) (before : List Entry) (reader : Who) (file block v : ℕ) (still : IsStill e) where
  stands-after : (w : Entry) → Stands whole before reader file block w → Stands whole (e ∷ before) reader file block w
  stands-after w (on, inl t) = (on, inl t)
  stands-after w (on, inr (inl s)) = (on, inr (inl s))
  stands-after w (on, inr (inr own)) = (on, inr (inr (own.0, λ lost. unlost lost)))
    where
      unlost : IsLost (e ∷ before) w → ⊥
      unlost (inl c) = still-unlost e w still c
      unlost (inr h) = own.1 h

  stands-before : (w : Entry) → Stands whole (e ∷ before) reader file block w → Stands whole before reader file block w
  stands-before w (on, inl t) = (on, inl t)
  stands-before w (on, inr (inl s)) = (on, inr (inl s))
  stands-before w (on, inr (inr own)) = (on, inr (inr (own.0, λ lost. own.1 (inr lost))))

  tail-value : (b : Bool) → cuts e file block ≡ b → b ≡ false
      → IsLastValue (Stands whole (e ∷ before) reader file block) (if b then [] else e ∷ since_cut before file block) v
      → IsLastValue (Stands whole (e ∷ before) reader file block) (since_cut before file block) v
  tail-value true is other h = absurd (cc)
  tail-value false is other h = h.1 (λ f. still-unwritten e file block still f.0)

  pub standing-after : IsStandingValue whole before reader file block v → IsStandingValue whole (e ∷ before) reader file block v
  standing-after h =
      rw (still-uncut e file block still) (
        λ f. absurd (still-unwritten e file block still f.0),
        λ none. last-same (Stands whole before reader file block)
            (Stands whole (e ∷ before) reader file block) (since_cut before file block) v (λ w i. stands-after w) (λ w i. stands-before w) h,
      )

  pub standing-before : IsStandingValue whole (e ∷ before) reader file block v → IsStandingValue whole before reader file block v
  standing-before h =
      last-same (Stands whole (e ∷ before) reader file block) (Stands whole before reader file block) (since_cut before file block) v
      (λ w i. stands-before w) (λ w i. stands-after w) (tail-value (cuts e file block) refl (still-uncut e file block still) h)
