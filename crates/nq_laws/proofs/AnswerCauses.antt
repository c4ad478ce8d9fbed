-- What an answer says was so at the server between the call and the answer: what it tells of a file, and the cause where it refuses.
use Rattle.std.proofs.Common.{◌≡◌, ◌⊎◌, ℕ, List, [], ◌∷◌, Option, Some, None, refl, sym, subst, ap, ◌∙◌, inl, inr}
use Rattle.std.specs.Prelude.{⊤}
use Rattle.nq_base.specs.Calls.{told}
use Rattle.nq_base.specs.declared.Answer.{Answer}
use Rattle.nq_base.specs.declared.Call.{Call}
use Rattle.nq_base.specs.declared.Entry.{Entry}
use Rattle.nq_base.specs.declared.Event.{Event}
use Rattle.nq_base.specs.declared.Push.{Push}
use Rattle.nq_base.specs.declared.Refusal.{Refusal}
use Rattle.nq_base.specs.declared.Reply.{Reply}
use Rattle.nq_base.specs.declared.Request.{Request}
use Rattle.nq_base.specs.declared.Said.{Said}
use Rattle.nq_base.specs.declared.Told.{Told}
use Rattle.nq_base.specs.declared.Who.{Who}
use Rattle.nq_model.specs.protocol.Client.{UnderWay}
use Rattle.nq_model.specs.protocol.Hear.{answer_of, inc_of}
use Rattle.nq_model.specs.laws.Journal.{SpeaksOf, call_of}
use Rattle.nq_model.specs.protocol.Settle.{said}
use Rattle.nq_model.specs.protocol.World.{Head, World}
use Rattle.nq_model.specs.laws.AnswersHaveCauses.{LacksName, HasName, LacksFile, HasNoRoom, CannotGrow, LacksBlock, IsNoLength, HadNoBlock, IsAnsweredSo}
use Rattle.nq_model.specs.laws.AnswersTellWhatWas.{Meanwhile, HasNamed, HasLength, ToldSo}
use Rattle.nq_model.specs.laws.RepliesTellWhatWas.{KeepsNamed}
use Rattle.law_rounds.specs.RequestsAreMeant.{IsWriteTo}
use Rattle.law_runs.proofs.OkFacts.{IsFor}
use Rattle.nq_laws.proofs.Anchors.{meanwhile-map}
use Rattle.nq_laws.proofs.RunTells.{HadSo}
use Rattle.walk_steps.proofs.RepliedCases.{IsNamed, looked_up, created, attributes}
use Rattle.walk_steps.proofs.SettleCases.{IsRead}
use Rattle.walk_steps.proofs.ClientEntries.{IsOfBlock, IsTelling, names, refuses}

-- what an answer to this call says was so
abbrev pub Says : Head → List Event → (who : Who) (q : ℕ) → Said → Option Told → Type 0
Says head events who q (Said.OkValue value) told = ToldSo head events who q value told
Says head events who q other told = IsAnsweredSo head events who q other told

-- what is asked of an A at its place
abbrev pub SaysAt : Head → List Event → Entry → (before : List Entry) → Type 0
SaysAt head events (Entry.A who q answer) before = Says head events who q answer (call_of before who q)
SaysAt head events other before = ⊤

-- ---- facts of later schedules

later-told : (head : Head) (event : Event) (earlier : List Event) (who : Who) (q value : ℕ) (o : Option Told) → ToldSo head earlier who q value o
    → ToldSo head (event ∷ earlier) who q value o
later-told head event earlier who q value (Some (Told.Lookup name)) so = inr so
later-told head event earlier who q value (Some (Told.Create name blocks)) so = inr so
later-told head event earlier who q value (Some (Told.Attr file)) so = inr so
later-told head event earlier who q value other so = tt

pub later-says : (head : Head) (event : Event) (earlier : List Event) (who : Who) (q : ℕ) (answer : Said) (o : Option Told)
    → Says head earlier who q answer o
    → Says head (event ∷ earlier) who q answer o
later-says head event earlier who q (Said.OkValue value) o so = later-told head event earlier who q value o so
later-says head event earlier who q Said.NoEntry (Some (Told.Lookup name)) so = inr so
later-says head event earlier who q Said.NoEntry other so = absurd so
later-says head event earlier who q Said.Stale o so = (so.0, so.1, inr so.2)
later-says head event earlier who q Said.Exists (Some (Told.Create name blocks)) so = inr so
later-says head event earlier who q Said.Exists other so = absurd so
later-says head event earlier who q Said.NoSpace (Some (Told.Create name blocks)) so = inr so
later-says head event earlier who q Said.NoSpace (Some (Told.Resize file blocks)) so = inr so
later-says head event earlier who q Said.NoSpace other so = absurd so
later-says head event earlier who q Said.Range (Some (Told.Create name blocks)) so = so
later-says head event earlier who q Said.Range (Some (Told.Resize file blocks)) so = so
later-says head event earlier who q Said.Range (Some (Told.Read file block)) so = inr so
later-says head event earlier who q Said.Range (Some (Told.Fetch file block)) so = inr so
later-says head event earlier who q Said.Range (Some (Told.Write file block value)) so = inr so
later-says head event earlier who q Said.Range (Some (Told.Put file block value)) so = inr so
later-says head event earlier who q Said.Range other so = absurd so
later-says head event earlier who q answer o so = tt

same-block : (head : Head) (events : List Event) (who : Who) (q file block f b : ℕ) → (f ≡ file) × (b ≡ block)
    → HadNoBlock head events who q file block → HadNoBlock head events who q f b
same-block head events who q file block f b same had =
    subst (λ n. HadNoBlock head events who q n b) (sym same.0) (subst (λ n. HadNoBlock head events who q file n) (sym same.1) had)

-- `range` is said to a call that reads or writes a block which its file had not
pub range-of-block : (head : Head) (events : List Event) (who : Who) (q file block : ℕ) (op : Call) → IsOfBlock file block op
    → HadNoBlock head events who q file block
    → Says head events who q Said.Range (Some (told op))
range-of-block head events who q file block (Call.Read f b) of_block had = same-block head events who q file block f b of_block had
range-of-block head events who q file block (Call.Fetch f b) of_block had = same-block head events who q file block f b of_block had
range-of-block head events who q file block (Call.Write f b body) of_block had = same-block head events who q file block f b of_block had
range-of-block head events who q file block (Call.Put f b body) of_block had = same-block head events who q file block f b of_block had
range-of-block head events who q file block other of_block had = absurd of_block

-- ---- the refusal that is answered with

never : (who : Who) (q : ℕ) (head : Head) (events : List Event) → Meanwhile (λ w. ⊥) who q head events → ⊥
never who q head [] bad = bad
never who q head (event ∷ earlier) (inl bad) = bad.0
never who q head (event ∷ earlier) (inr before) = never who q head earlier before

-- what is of no moment
at-no-moment : (X : Type 0) (who : Who) (q : ℕ) (head : Head) (events : List Event) → Meanwhile (λ w. X) who q head events → X
at-no-moment X who q head [] bad = absurd bad
at-no-moment X who q head (event ∷ earlier) (inl so) = so.0
at-no-moment X who q head (event ∷ earlier) (inr before) = at-no-moment X who q head earlier before

module _ (head : Head) (events : List Event) (by : Who) (n : ℕ) (host xid inc : ℕ) (u : UnderWay) (dirty : List Push) (push : Option Push) where
  mapped : (P Q : World → Type 0) → ((w : World) → P w → Q w) → Meanwhile P by n head events → Meanwhile Q by n head events
  mapped P Q f had = meanwhile-map P Q by n head events f had

  -- when this request had been sent, the cause of its refusal stood
  abbrev Had : Refusal → Request → Type 0
  Had status r = Meanwhile (HadSo host xid (Reply.Refused inc status) r) by n head events

  abbrev Answered : Refusal → Type 0
  Answered status = Says head events by n (said (answer_of status) None) (Some (told u.call))

  -- where a status has no cause it is not said
  causeless : (status : Refusal) (r : Request) → ((w : World) → HadSo host xid (Reply.Refused inc status) r w → ⊥) → Had status r → ⊥
  causeless status r none had = never by n head events (mapped (HadSo host xid (Reply.Refused inc status) r) (λ w. ⊥) none had)

  no-entry : (r : Request) → IsFor u dirty push r → Had Refusal.NoEnt r → Answered Refusal.NoEnt
  no-entry (Request.Lookup who name) is had =
      subst (λ k. Says head events by n Said.NoEntry (Some (told k))) (sym is)
      (mapped (HadSo host xid (Reply.Refused inc Refusal.NoEnt) (Request.Lookup who name)) (λ w. LacksName w.server.kept.files name)
      (λ w so. so.1.1) had)
  no-entry r is had = absurd (causeless Refusal.NoEnt r (λ w so. so.1.1) had)

  exists : (r : Request) → IsFor u dirty push r → Had Refusal.Exist r → Answered Refusal.Exist
  exists (Request.Create who seq name blocks) is had =
      subst (λ k. Says head events by n Said.Exists (Some (told k))) (sym is)
      (mapped (HadSo host xid (Reply.Refused inc Refusal.Exist) (Request.Create who seq name blocks)) (λ w. HasName w.server.kept.files name)
      (λ w so. so.1.1) had)
  exists r is had = absurd (causeless Refusal.Exist r (λ w so. so.1.1) had)

  no-space : (r : Request) → IsFor u dirty push r → Had Refusal.NoSpc r → Answered Refusal.NoSpc
  no-space (Request.Create who seq name blocks) is had =
      subst (λ k. Says head events by n Said.NoSpace (Some (told k))) (sym is)
      (mapped (HadSo host xid (Reply.Refused inc Refusal.NoSpc) (Request.Create who seq name blocks)) (λ w. HasNoRoom w.server.kept.files
      w.server.kept.next blocks) (λ w so. so.1.1) had)
  no-space (Request.Resize who seq q file blocks) is had =
      subst (λ k. Says head events by n Said.NoSpace (Some (told k))) (sym is.0)
      (mapped (HadSo host xid (Reply.Refused inc Refusal.NoSpc) (Request.Resize who seq q file blocks))
      (λ w. CannotGrow w.server.kept.files file blocks) (λ w so. so.1.1) had)
  no-space r is had = absurd (causeless Refusal.NoSpc r (λ w so. so.1.1) had)

  no-length : (r : Request) (blocks : ℕ) → ((w : World) → HadSo host xid (Reply.Refused inc Refusal.Inval) r w → IsNoLength blocks) → Had Refusal.Inval r
      → IsNoLength blocks
  no-length r blocks f had =
      at-no-moment (IsNoLength blocks) by n head events
      (mapped (HadSo host xid (Reply.Refused inc Refusal.Inval) r) (λ w. IsNoLength blocks) f had)

  of-block : (r : Request) (file block : ℕ) (op : Call) → u.call ≡ op → IsOfBlock file block op
      → ((w : World) → HadSo host xid (Reply.Refused inc Refusal.Inval) r w → LacksBlock w.server.kept.files file block) → Had Refusal.Inval r
      → Answered Refusal.Inval
  of-block r file block op is of_block lacks had =
      range-of-block head events by n file block u.call (subst (IsOfBlock file block) (sym is) of_block)
      (mapped (HadSo host xid (Reply.Refused inc Refusal.Inval) r) (λ w. LacksBlock w.server.kept.files file block) lacks had)

  out-of-range : (r : Request) → IsFor u dirty push r → Had Refusal.Inval r → Answered Refusal.Inval
  out-of-range (Request.Create who seq name blocks) is had =
      subst (λ k. Says head events by n Said.Range (Some (told k))) (sym is)
      (no-length (Request.Create who seq name blocks) blocks (λ w so. so.1.1) had)
  out-of-range (Request.Resize who seq q file blocks) is had =
      subst (λ k. Says head events by n Said.Range (Some (told k))) (sym is.0)
      (no-length (Request.Resize who seq q file blocks) blocks (λ w so. so.1.1) had)
  out-of-range (Request.Read who q file block want) (inl is) had =
      of-block (Request.Read who q file block want) file block (Call.Read file block) is (refl, refl) (λ w so. so.1.1) had
  out-of-range (Request.Read who q file block want) (inr is) had =
      of-block (Request.Read who q file block want) file block (Call.Fetch file block) is (refl, refl) (λ w so. so.1.1) had
  out-of-range (Request.Write who seq file block first last base body) (inl is) had =
      of-block (Request.Write who seq file block first last base body) file block (Call.Write file block body) is (refl, refl) (λ w so. so.1.1) had
  out-of-range (Request.Write who seq file block first last base body) (inr is) had =
      of-block (Request.Write who seq file block first last base body) file block (Call.Put file block body) is (refl, refl) (λ w so. so.1.1) had
  out-of-range r is had = absurd (causeless Refusal.Inval r (λ w so. so.1.1) had)

  -- ---- what a reply names

  pub named-says : (request : Request) (r : Reply) (a : Answer) → IsNamed request r a → IsFor u dirty push request
      → Meanwhile (HadSo host xid r request) by n head events → Says head events by n (said a None) (Some (told u.call))
  named-says request r a (looked_up who name i file blocks asks e) for had =
      let is_call : u.call ≡ Call.Lookup name = subst (IsFor u dirty push) asks for in
      subst (λ k. ToldSo head events by n file (Some (told k))) (sym is_call)
      (mapped (HadSo host xid (Reply.Lookup i file blocks) (Request.Lookup who name)) (HasNamed name file) (λ w so. (blocks, so.1.0))
      (subst (λ b. Meanwhile (HadSo host xid b (Request.Lookup who name)) by n head events) e
      (subst (λ q. Meanwhile (HadSo host xid r q) by n head events) asks had)))
  named-says request r a (created who seq name blocks i file asks e) for had =
      let is_call : u.call ≡ Call.Create name blocks = subst (IsFor u dirty push) asks for in
      subst (λ k. ToldSo head events by n file (Some (told k))) (sym is_call)
      (mapped (HadSo host xid (Reply.Create i file) (Request.Create who seq name blocks)) (λ w. KeepsNamed w.server.kept.files name file blocks)
      (λ w so. so.1.0)
      (subst (λ b. Meanwhile (HadSo host xid b (Request.Create who seq name blocks)) by n head events) e
      (subst (λ q. Meanwhile (HadSo host xid r q) by n head events) asks had)))
  named-says request r a (attributes who file i blocks rev asks e) for had =
      let is_call : u.call ≡ Call.Attr file = subst (IsFor u dirty push) asks for in
      subst (λ k. ToldSo head events by n blocks (Some (told k))) (sym is_call)
      (mapped (HadSo host xid (Reply.GetAttr i blocks rev) (Request.GetAttr who file)) (HasLength file blocks) (λ w so. (rev, so.1.0))
      (subst (λ b. Meanwhile (HadSo host xid b (Request.GetAttr who file)) by n head events) e
      (subst (λ q. Meanwhile (HadSo host xid r q) by n head events) asks had)))

  -- ---- what a reply refuses

  -- the call speaks of this file
  of-call : (file : ℕ) (op : Call) → u.call ≡ op → SpeaksOf file (Some (told op)) → SpeaksOf file (Some (told u.call))
  of-call file op is speaks = subst (λ k. SpeaksOf file (Some (told k))) (sym is) speaks

  of-read : (file block : ℕ) → IsRead u.call file block → SpeaksOf file (Some (told u.call))
  of-read file block (inl is) = of-call file (Call.Read file block) is refl
  of-read file block (inr is) = of-call file (Call.Fetch file block) is refl

  of-write : (file block : ℕ) (body : List ℕ) → (u.call ≡ Call.Write file block body) ⊎ (u.call ≡ Call.Put file block body)
      → SpeaksOf file (Some (told u.call))
  of-write file block body (inl is) = of-call file (Call.Write file block body) is refl
  of-write file block body (inr is) = of-call file (Call.Put file block body) is refl

  stale-on : (r : Request) (file : ℕ) → SpeaksOf file (Some (told u.call))
      → ((w : World) → HadSo host xid (Reply.Refused inc Refusal.Stale) r w → LacksFile w.server.kept.files file) → Had Refusal.Stale r
      → Answered Refusal.Stale
  stale-on r file speaks lacks had =
      (file, speaks, mapped (HadSo host xid (Reply.Refused inc Refusal.Stale) r) (λ w. LacksFile w.server.kept.files file) lacks had)

  -- a GETLEASE of the call is for its file
  abbrev pub Leases : Request → Type 0
  Leases (Request.GetLease who file want) = IsWriteTo file u
  Leases other = ⊤

  stale : (r : Request) → IsFor u dirty push r → Leases r → Had Refusal.Stale r → Answered Refusal.Stale
  stale (Request.GetAttr who file) is leases had =
      stale-on (Request.GetAttr who file) file (of-call file (Call.Attr file) is refl) (λ w so. so.1.1) had
  stale (Request.Read who q file block want) is leases had =
      stale-on (Request.Read who q file block want) file (of-read file block is) (λ w so. so.1.1) had
  stale (Request.Write who seq file block first last base body) is leases had =
      stale-on (Request.Write who seq file block first last base body) file (of-write file block body is) (λ w so. so.1.1) had
  stale (Request.GetLease who file want) is leases had =
      stale-on (Request.GetLease who file want) file (of-write file leases.block leases.body (inl leases.is)) (λ w so. so.1.1) had
  stale (Request.Resize who seq q file blocks) is leases had =
      stale-on (Request.Resize who seq q file blocks) file (of-call file (Call.Resize file blocks) is.0 refl) (λ w so. so.1.1) had
  stale (Request.Remove who seq q file) is leases had =
      stale-on (Request.Remove who seq q file) file (of-call file (Call.Remove file) is.0 refl) (λ w so. so.1.1) had
  stale r is leases had = absurd (causeless Refusal.Stale r (λ w so. so.1.1) had)

  refused-says : (status : Refusal) (r : Request) → IsFor u dirty push r → Leases r → Had status r → Answered status
  refused-says Refusal.NoEnt r is leases had = no-entry r is had
  refused-says Refusal.Exist r is leases had = exists r is had
  refused-says Refusal.Stale r is leases had = stale r is leases had
  refused-says Refusal.NoSpc r is leases had = no-space r is had
  refused-says Refusal.Inval r is leases had = out-of-range r is had
  refused-says other r is leases had = tt

  -- an answer says what the reply to the call's request says
  pub telling-says : (request : Request) (r : Reply) (a : Answer) → IsTelling request r a → inc_of r ≡ inc → IsFor u dirty push request
      → Leases request → Meanwhile (HadSo host xid r request) by n head events → Says head events by n (said a None) (Some (told u.call))
  telling-says request r a (names answer named) same for leases had = named-says request r answer named for had
  telling-says request r a (refuses i status e counts) same for leases had =
      let one : i ≡ inc = ap inc_of (sym e) ∙ same in
      refused-says status request for leases
      (subst (λ m. Meanwhile (HadSo host xid (Reply.Refused m status) request) by n head events) one
      (subst (λ b. Meanwhile (HadSo host xid b request) by n head events) e had))
