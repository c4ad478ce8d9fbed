-- Reads and their answers are kept by a client's step.
use Rattle.std.proofs.Common.{◌≡◌, ◌≢◌, ◌⊎◌, ℕ, ◌+◌, false, List, [], ◌∷◌, ◌++◌, Option, Some, None, map, length, sym, subst, ◌∙◌, inl, inr}
use Rattle.std.specs.Prelude.{slice_get}
use Rattle.nq_base.specs.Block.{value_of}
use Rattle.nq_base.specs.declared.Call.{Call}
use Rattle.nq_base.specs.declared.Entry.{Entry}
use Rattle.nq_base.specs.declared.Entry.TheVariants.{A, W, R}
use Rattle.nq_base.specs.declared.Grant.{Grant}
use Rattle.nq_base.specs.declared.Reply.{Reply}
use Rattle.nq_base.specs.declared.Request.{Request}
use Rattle.nq_base.specs.declared.Said.{Said}
use Rattle.nq_base.specs.declared.Who.{Who}
use Rattle.walk_files.proofs.WritesFit.{IsRising}
use Rattle.walk_files.proofs.ReadFacts.{IsServed, IsBacked, IsGood, ReadsOf, ReadsFit, placed-append, get-append, served-more, backed-more, waits-more}
use Rattle.walk_files.proofs.Places.{IsPlaced}
use Rattle.walk_files.proofs.ReadParts.{ReadsNothing}
use Rattle.walk_files.proofs.Stores.{Rests, standing-more}
use Rattle.nq_model.proofs.Lists.{exists-right, exists-append}
use Rattle.nq_model.specs.protocol.Client.{Client, ClientStep, UnderWay}
use Rattle.nq_base.specs.Calls.{told}
use Rattle.nq_model.specs.laws.Journal.{Exists, Throughout, IsAnswerBy, IsCounted, Each}
use Rattle.nq_model.specs.laws.Legal.{IsReading, GivesValue, IsAnswerWith}
use Rattle.nq_model.specs.protocol.Message.{Message, Packet, call, reply}
use Rattle.nq_model.specs.laws.OfTheirCall.{Reads}
use Rattle.nq_model.specs.protocol.Server.{to_host}
use Rattle.nq_model.specs.laws.Stands.{IsStandingValue}
use Rattle.nq_model.specs.protocol.World.{World, from_host, after_client}
use Rattle.walk_steps.proofs.RunCases.{clients-after}
use Rattle.walk_steps.proofs.Mail.{none-to-host}
use Rattle.walk_steps.proofs.Packets.{In, in-append, in-get, Asked, message-same}
use Rattle.walk_steps.proofs.Worlds.{Holds}
use Rattle.walk_files.proofs.Accesses.{Accesses, neither, read, wrote, IsCalm}
use Rattle.walk_files.proofs.Marks.{plain-no-write}
use Rattle.walk_files.proofs.PlainParts.{IsPlain}

-- ---- what a step adds

pub record Adds (w : World) (host : ℕ) (t : ClientStep) : Type 0 where
  pub own : ReadsOf (w.packets ++ map (from_host host) t.sends) (t.entries ++ w.journal) t.client
  pub unserved : (who : Who) (q file block v k : ℕ) → In t.entries (R who q file block v (Some k)) → ⊥
  pub delayed : (who : Who) (file block n v : ℕ) → In t.entries (W who file block n v false) → who.host ≡ host
  pub cached : (who : Who) (q file block v : ℕ) (before : List Entry) → IsPlaced (R who q file block v None) before (t.entries ++ w.journal)
      → In t.entries (R who q file block v None)
      → IsGood (t.entries ++ w.journal) before who q file block v ⊎ IsPlaced (R who q file block v None) before w.journal
  pub served : (who : Who) (q file block v k : ℕ) (before : List Entry) → IsPlaced (R who q file block v (Some k)) before w.journal
      → Exists (IsAnswerBy who q k) t.entries → IsGood (t.entries ++ w.journal) before who q file block v
  pub answers : (who : Who) (q v : ℕ) (said : Said) → In t.entries (A who q said) → GivesValue v said → IsBacked (t.entries ++ w.journal) who q v

pub good-more : (es j before : List Entry) → Throughout IsRising (es ++ j) → Throughout Rests (es ++ j)
    → (who : Who) (q file block v : ℕ) (by : Option ℕ) → IsPlaced (R who q file block v by) before j → IsGood j before who q file block v
    → IsGood (es ++ j) before who q file block v
good-more es j before rising rests who q file block v by p g = record {
  standing = standing-more es j rising rests who q file block v by before p g.standing;
  answer = exists-right (IsAnswerWith who q v) es j g.answer;
}

asked-other : (ps : List Packet) (host : ℕ) (ms : List Message) (other x : ℕ) (r : Request) → host ≢ other
    → Asked (ps ++ map (from_host host) ms) other x r → Asked ps other x r
asked-other ps host ms other x r apart i = case (in-append ps (map (from_host host) ms) (from_host other (call x r)) i)
  where
    none : (ns : List Message) → In (map (from_host host) ns) (from_host other (call x r)) → ⊥
    none [] bad = bad
    none (n ∷ ns) (inl e) = apart (message-same host other n (call x r) e).0
    none (n ∷ ns) (inr j) = none ns j

    case : Asked ps other x r ⊎ In (map (from_host host) ms) (from_host other (call x r)) → Asked ps other x r
    case (inl old) = old
    case (inr new) = absurd (none ms new)

pub reads-after : (w : World) (host : ℕ) (t : ClientStep) → Holds w → Throughout IsRising (t.entries ++ w.journal)
    → Throughout Rests (t.entries ++ w.journal) → Adds w host t → ReadsFit w → ReadsFit (after_client w host t)
unfolding after_client
reads-after w host t held rising rests adds h = record {
  served =
      λ k other x inc rev body grant at. served k other x inc rev body grant at
      (get-append w.packets (map (from_host host) t.sends) k (to_host other (reply x (Reply.Read inc rev body grant))) at);
  clients = clients-after (λ n d v. ReadsOf v.packets v.journal d) w host t adds.own others;
  counted = λ who q file block v by before p counted. good who q file block v by before p counted;
  answered = λ who q v said i gives. backed who q v said gives (in-append t.entries w.journal (A who q said) i);
} where
  served : (k other x inc rev : ℕ) (body : List ℕ) (grant : Option Grant)
      → slice_get (w.packets ++ map (from_host host) t.sends) k ≡ Some (to_host other (reply x (Reply.Read inc rev body grant)))
      → (slice_get w.packets k ≡ Some (to_host other (reply x (Reply.Read inc rev body grant))))
      ⊎ ((n : ℕ) × (k ≡ length w.packets + n)
      × (slice_get (map (from_host host) t.sends) n ≡ Some (to_host other (reply x (Reply.Read inc rev body grant)))))
      → IsServed (w.packets ++ map (from_host host) t.sends) (t.entries ++ w.journal) k other x inc body
  served k other x inc rev body grant at (inl old) =
      served-more w.packets (map (from_host host) t.sends) t.entries w.journal k other x inc body (h.served k other x inc rev body grant old)
  served k other x inc rev body grant at (inr new) =
      absurd (none-to-host host other t.sends (reply x (Reply.Read inc rev body grant)) (in-get (map (from_host host) t.sends) new.0 _ new.2))

  others : (other : ℕ) (d : Client) → other ≢ host → slice_get w.clients other ≡ Some d
      → ReadsOf (w.packets ++ map (from_host host) t.sends) (t.entries ++ w.journal) d
  others other d apart is =
      let k = h.clients other d is in
      let here : d.who.host ≡ other = (held.clients other d is).here in
      record {
        ticketed = k.ticketed;
        waits =
            λ u called x file block want asked. waits-more t.entries w.journal d.who file block
            (λ n v i. apart (sym here ∙ adds.delayed d.who file block n v i))
            (k.waits u called x file block want (asked-other w.packets host t.sends d.who.host x _ (λ e. apart (sym here ∙ sym e)) asked));
        standing = λ u called file block v n before p. old u d called is file block v n before (placed-append _ before t.entries w.journal p);
      }
    where
      old : (u : UnderWay) (d : Client) → d.call ≡ Some u → slice_get w.clients other ≡ Some d → (file block v n : ℕ) (before : List Entry)
          → In t.entries (R d.who u.q file block v (Some n)) ⊎ IsPlaced (R d.who u.q file block v (Some n)) before w.journal
          → IsStandingValue (t.entries ++ w.journal) before d.who file block v
      old u d called is file block v n before (inl new) = absurd (adds.unserved d.who u.q file block v n new)
      old u d called is file block v n before (inr p) =
          standing-more t.entries w.journal rising rests d.who u.q file block v (Some n) before p
          ((h.clients other d is).standing u called file block v n before p)

  good-old : (who : Who) (q file block v : ℕ) (by : Option ℕ) (before : List Entry) → IsPlaced (R who q file block v by) before w.journal
      → IsCounted w.journal (R who q file block v by) → IsGood (t.entries ++ w.journal) before who q file block v
  good-old who q file block v by before p counted =
      good-more t.entries w.journal before rising rests who q file block v by p (h.counted who q file block v by before p counted)

  good : (who : Who) (q file block v : ℕ) (by : Option ℕ) (before : List Entry) → IsPlaced (R who q file block v by) before (t.entries ++ w.journal)
      → IsCounted (t.entries ++ w.journal) (R who q file block v by) → IsGood (t.entries ++ w.journal) before who q file block v
  good who q file block v None before p counted = case (placed-append _ before t.entries w.journal p)
    where
      either : IsGood (t.entries ++ w.journal) before who q file block v ⊎ IsPlaced (R who q file block v None) before w.journal
          → IsGood (t.entries ++ w.journal) before who q file block v
      either (inl g) = g
      either (inr old) = good-old who q file block v None before old tt

      case : In t.entries (R who q file block v None) ⊎ IsPlaced (R who q file block v None) before w.journal
          → IsGood (t.entries ++ w.journal) before who q file block v
      case (inl new) = either (adds.cached who q file block v before p new)
      case (inr old) = good-old who q file block v None before old tt
  good who q file block v (Some k) before p counted =
      case (placed-append _ before t.entries w.journal p) (exists-append (IsAnswerBy who q k) t.entries w.journal counted)
    where
      case : In t.entries (R who q file block v (Some k)) ⊎ IsPlaced (R who q file block v (Some k)) before w.journal
          → Exists (IsAnswerBy who q k) t.entries ⊎ Exists (IsAnswerBy who q k) w.journal → IsGood (t.entries ++ w.journal) before who q file block v
      case (inl new) other = absurd (adds.unserved who q file block v k new)
      case (inr old) (inl now) = adds.served who q file block v k before old now
      case (inr old) (inr was) = good-old who q file block v (Some k) before old was

  backed : (who : Who) (q v : ℕ) (said : Said) → GivesValue v said → In t.entries (A who q said) ⊎ In w.journal (A who q said)
      → IsBacked (t.entries ++ w.journal) who q v
  backed who q v said gives (inl new) = adds.answers who q v said new gives
  backed who q v said gives (inr old) = backed-more t.entries w.journal who q v (h.answered who q v said old gives)

-- ---- what a call, a tick or a datagram adds

pub plain-reads : (es : List Entry) → Each IsPlain es → (who : Who) (q file block v : ℕ) (by : Option ℕ) → In es (R who q file block v by) → ⊥
plain-reads [] plain who q file block v by i = i
plain-reads (e ∷ es) plain who q file block v by (inl same) = subst IsPlain same plain.0
plain-reads (e ∷ es) plain who q file block v by (inr i) = plain-reads es plain.1 who q file block v by i

-- a write that a step delays is by its incarnation, and then no call goes on but a put
pub record IsDelaying (who by : Who) (t : ClientStep) : Type 0 where
  pub mine : who ≡ by
  pub calm : IsCalm t.client.call

pub accesses-writes : (by : Who) (t : ClientStep) → Accesses by t → (who : Who) (file block n v : ℕ) → In t.entries (W who file block n v false)
    → IsDelaying who by t
accesses-writes by t (neither plain) who file block n v i = absurd (plain-no-write t.entries who file block n v plain i)
accesses-writes by t (read q f b lease body rest es plain held lets has idle) who file block n v i =
    absurd (none (subst (λ zs. In zs (W who file block n v false)) es i))
  where
    none : In (A by q (Said.OkValue (value_of body)) ∷ R by q f b (value_of body) None ∷ rest) (W who file block n v false) → ⊥
    none (inl e) = cc
    none (inr (inl e)) = cc
    none (inr (inr j)) = plain-no-write rest who file block n v plain j
accesses-writes by t (wrote f b m u lease more rest es plain others held lets calm) who file block n v i =
    record {
      mine = mine (in-append more (W by f b m u false ∷ rest) (W who file block n v false) (subst (λ zs. In zs (W who file block n v false)) es i));
      calm = calm;
    }
  where
    mine : In more (W who file block n v false) ⊎ In (W by f b m u false ∷ rest) (W who file block n v false) → who ≡ by
    mine (inl j) = absurd (plain-no-write more who file block n v plain j)
    mine (inr (inl e)) = cc
    mine (inr (inr j)) = absurd (plain-no-write rest who file block n v others j)

pub put-reads-nothing : (file block : ℕ) (u : UnderWay) → IsCalm (Some u) → Reads file block (Some (told u.call)) → ⊥
put-reads-nothing file block u calm reads = subst (λ o. Reads file block (Some (told o))) calm.3 reads

pub told-reads-nothing : (op : Call) → ReadsNothing op → IsReading (Some (told op)) → ⊥
told-reads-nothing (Call.Read file block) none r = none
told-reads-nothing (Call.Fetch file block) none r = none
told-reads-nothing (Call.Create name blocks) none r = r
told-reads-nothing (Call.Lookup name) none r = r
told-reads-nothing (Call.Attr file) none r = r
told-reads-nothing (Call.Write file block body) none r = r
told-reads-nothing (Call.Put file block body) none r = r
told-reads-nothing (Call.Sync file) none r = r
told-reads-nothing (Call.Resize file blocks) none r = r
told-reads-nothing (Call.Remove file) none r = r
