-- How what is kept of a client and the journal changes with each entry, and with the lists of delayed writes.
use Rattle.std.proofs.Common.{◌≡◌, ◌≢◌, ◌<◌, ◌≤◌, ◌⊎◌, ℕ, ◌+◌, Bool, true, false, List, [], ◌∷◌, Option, Some, None, map, if◌then◌else◌, refl, sym}
use Rattle.std.proofs.Common.{subst, ap, ◌∙◌, arith, inl, inr}
use Rattle.std.specs.Prelude.{reverse}
use Rattle.std.specs.List.{filter}
use Rattle.nq_base.specs.declared.Entry.{Entry}
use Rattle.nq_base.specs.declared.Entry.TheVariants.{W, L, A}
use Rattle.nq_base.specs.declared.Push.{Push}
use Rattle.nq_base.specs.declared.Request.{Request}
use Rattle.nq_base.specs.declared.Who.{Who}
use Rattle.walk_files.proofs.Placed.{call-later}
use Rattle.walk_files.proofs.CallsFit.{entry_who}
use Rattle.walk_steps.proofs.ClientMoves.{some-same, none-some}
use Rattle.nq_model.proofs.Lists.{each-map}
use Rattle.nq_model.specs.protocol.Client.{UnderWay, is_push_of, is_push_at, first_dirty, drop_dirty, dirty_at}
use Rattle.nq_base.specs.Calls.{told}
use Rattle.nq_model.specs.protocol.Hear.{loss_entry, push_of}
use Rattle.nq_model.specs.laws.Journal.{Exists, Somewhere, IsAnswer}
use Rattle.nq_model.specs.protocol.Settle.{overwritten, overwritten_at, with_write}
use Rattle.nq_model.specs.laws.Synchronized.{IsSettledResize, IsDelayedOn}
use Rattle.law_runs.proofs.Books.{unsaved_on}
use Rattle.walk_steps.proofs.Members.{in-filtered, in-filter, in-map, find-in, in-reverse}
use Rattle.walk_steps.proofs.Packets.{In, in-append, in-last}
use Rattle.law_runs.proofs.KeptPlaces.{somewhere-more, settled-later, settled-answered}
use Rattle.law_runs.proofs.OkFacts.{PutWaits, Made, IsOpenAs, Numbered}

-- ---- lists

-- ---- entries

-- the entry is no answer, loss or delayed write of an incarnation
pub record IsMild (who : Who) (e : Entry) : Type 0 where
  pub no_answer : (q : ℕ) → IsAnswer who q e → ⊥
  pub no_loss : (file block first last : ℕ) → e ≡ L who file block first last → ⊥
  pub no_write : (file block n value : ℕ) → e ≡ W who file block n value false → ⊥

-- an entry of another incarnation is so
pub foreign-mild : (who w : Who) (e : Entry) → entry_who e ≡ Some w → w ≢ who → IsMild who e
foreign-mild who w e is other = record {
  no_answer = λ q a. answer q e is a;
  no_loss = λ file block first last same. other (some-same w who (sym is ∙ ap entry_who same));
  no_write = λ file block n value same. other (some-same w who (sym is ∙ ap entry_who same));
} where
  answer : (q : ℕ) (x : Entry) → entry_who x ≡ Some w → IsAnswer who q x → ⊥
  answer q (A by n said) s a = other (sym (some-same by w s) ∙ a.0)
  answer q x s a = a

-- ---- what is open, waits or was made

pub open-more : (who : Who) (u : UnderWay) (e : Entry) (journal : List Entry) → (IsAnswer who u.q e → ⊥) → IsOpenAs who u journal
    → IsOpenAs who u (e ∷ journal)
open-more who u e journal none h = record {
  is_open = (inr h.is_open.0, λ a. answered a);
  tells = call-later (e ∷ []) journal who u.q (told u.call) h.tells;
} where
  answered : IsAnswer who u.q e ⊎ Exists (IsAnswer who u.q) journal → ⊥
  answered (inl now) = none now
  answered (inr before) = h.is_open.1 before

pub put-more : (who : Who) (q file block : ℕ) (e : Entry) (journal : List Entry) → ((first last : ℕ) → e ≡ L who file block first last → ⊥)
    → PutWaits who q file block journal → PutWaits who q file block (e ∷ journal)
put-more who q file block e journal none h = record {
  number = h.number;
  value = h.value;
  stands = inr h.stands;
  unlost = λ first last i. case first last i;
} where
  case : (first last : ℕ) → (e ≡ L who file block first last) ⊎ In journal (L who file block first last) → first ≤ h.number → h.number ≤ last → ⊥
  case first last (inl same) a b = none first last same
  case first last (inr i) a b = h.unlost first last i a b

-- whether an entry is a delayed write of an incarnation on a file
no-delayed : (who : Who) (file : ℕ) (e : Entry) → ((block n value : ℕ) → e ≡ W who file block n value false → ⊥) → IsDelayedOn who file e → ⊥
no-delayed who file (W by f block n value false) none d =
    none block n value (subst (λ w. W by f block n value false ≡ W w file block n value false) d.0 (ap (λ g. W by g block n value false) d.1))
no-delayed who file other none d = d

pub resize-more : (who : Who) (q file : ℕ) (e : Entry) (journal : List Entry) → ((block n value : ℕ) → e ≡ W who file block n value false → ⊥)
    → Somewhere (IsSettledResize journal journal who q file) journal → Somewhere (IsSettledResize (e ∷ journal) (e ∷ journal) who q file) (e ∷ journal)
resize-more who q file e journal none h =
    inr (somewhere-more (IsSettledResize journal journal who q file) (IsSettledResize (e ∷ journal) (e ∷ journal) who q file) journal more h)
  where
    more : (z : Entry) (before : List Entry) → IsSettledResize journal journal who q file z before
        → IsSettledResize (e ∷ journal) (e ∷ journal) who q file z before
    more (Entry.Z by n f from to) before r = (
      r.0,
      r.1,
      (
        λ d. absurd (no-delayed who file e none d),
        each-map _ _ journal
            (λ write s. settled-answered (e ∷ journal) before journal (e ∷ []) who file write
            (settled-later (e ∷ []) journal before [] journal who file write s)) r.2,
      ),
    )
    more other before r = absurd r

pub made-more : (who : Who) (q : ℕ) (r : Request) (e : Entry) (journal : List Entry)
    → ((file block n value : ℕ) → e ≡ W who file block n value false → ⊥) → Made who q r journal → Made who q r (e ∷ journal)
made-more who q (Request.Write w seq file block first last None body) e journal none h = inr h
made-more who q (Request.Resize w seq n file blocks) e journal none h = resize-more who q file e journal (none file) h
made-more who q (Request.Remove w seq n file) e journal none h = resize-more who q file e journal (none file) h
made-more who q (Request.Write w seq file block first last (Some base) body) e journal none h = tt
made-more who q Request.Null e journal none h = tt
made-more who q (Request.Attach w) e journal none h = tt
made-more who q (Request.Lookup w name) e journal none h = tt
made-more who q (Request.Create w seq name blocks) e journal none h = tt
made-more who q (Request.GetAttr w file) e journal none h = tt
made-more who q (Request.Read w n file block want) e journal none h = tt
made-more who q (Request.GetLease w file want) e journal none h = tt
made-more who q (Request.Vacated w file tag) e journal none h = tt
made-more who q (Request.Evicted w file tag) e journal none h = tt

-- ---- numbers

pub numbered-more : {who : Who} {number : ℕ} {dirty : List Push} {push : Option Push} {journal : List Entry} (e : Entry)
    → ((file block first last : ℕ) → e ≡ L who file block first last → ⊥) → Numbered who number dirty push journal
    → Numbered who number dirty push (e ∷ journal)
numbered-more {who = who} {number = number} {journal = journal} e none h = record {
  listed = h.listed;
  pushed = h.pushed;
  lost = λ file block first last i. case file block first last i;
} where
  case : (file block first last : ℕ) → (e ≡ L who file block first last) ⊎ In journal (L who file block first last) → last < number
  case file block first last (inl same) = absurd (none file block first last same)
  case file block first last (inr i) = h.lost file block first last i

pub numbered-raised : {who : Who} {number : ℕ} {dirty : List Push} {push : Option Push} {journal : List Entry} → Numbered who number dirty push journal
    → Numbered who (number + 1) dirty push journal
numbered-raised h = record {
  listed = λ p i. let k = h.listed p i in omega arith;
  pushed = λ p e. let k = h.pushed p e in omega arith;
  lost = λ file block first last i. let k = h.lost file block first last i in omega arith;
}

overwritten-in : (file block number : ℕ) (body : List ℕ) (dirty : List Push) (p : Push) → In (map (overwritten_at file block number body) dirty) p
    → In dirty p ⊎ (p.last ≡ number)
overwritten-in file block number body [] p i = absurd i
overwritten-in file block number body (x ∷ xs) p (inl e) = step (is_push_at file block x) e
  where
    step : (b : Bool) → (if b then overwritten number body x else x) ≡ p → ((x ≡ p) ⊎ In xs p) ⊎ (p.last ≡ number)
    step true same = inr (ap (λ z. z.last) (sym same))
    step false same = inl (inl same)
overwritten-in file block number body (x ∷ xs) p (inr i) = later (overwritten-in file block number body xs p i)
  where
    later : In xs p ⊎ (p.last ≡ number) → ((x ≡ p) ⊎ In xs p) ⊎ (p.last ≡ number)
    later (inl there) = inl (inr there)
    later (inr new) = inr new

written-in : (file block number : ℕ) (body : List ℕ) (dirty : List Push) (o : Option Push) (p : Push) → In (with_write file block number body dirty o) p
    → In dirty p ⊎ (p.last ≡ number)
written-in file block number body dirty (Some x) p i = overwritten-in file block number body dirty p i
written-in file block number body dirty None p i = case (in-last dirty (record { file = file; block = block; first = number; last = number; body = body }) p i)
  where
    case : In dirty p ⊎ (record { file = file; block = block; first = number; last = number; body = body } ≡ p) → In dirty p ⊎ (p.last ≡ number)
    case (inl there) = inl there
    case (inr same) = inr (ap (λ z. z.last) (sym same))

-- a write is delayed
pub numbered-written : {who : Who} {number : ℕ} {dirty : List Push} {push : Option Push} {journal : List Entry} (file block value : ℕ) (body : List ℕ)
    → Numbered who number dirty push journal
    → Numbered who (number + 1) (with_write file block number body dirty (dirty_at file block dirty)) push (W who file block number value false ∷ journal)
numbered-written {who = who} {number = number} {dirty = dirty} {push = push} {journal = journal} file block value body h = record {
  listed = λ p i. listed p (written-in file block number body dirty (dirty_at file block dirty) p i);
  pushed = raised.pushed;
  lost = raised.lost;
} where
  raised : Numbered who (number + 1) dirty push (W who file block number value false ∷ journal)
  raised = numbered-raised (numbered-more (W who file block number value false) (λ f b m n e. absurd (cc)) h)

  listed : (p : Push) → In dirty p ⊎ (p.last ≡ number) → p.last < number + 1
  listed p (inl there) = raised.listed p there
  listed p (inr new) = omega arith

-- delayed writes are under way
pub numbered-taken : {who : Who} {number : ℕ} {dirty : List Push} {push : Option Push} {journal : List Entry} (file : ℕ) (p : Push)
    → first_dirty file dirty ≡ Some p → Numbered who number dirty push journal → Numbered who number (drop_dirty p.file p.block dirty) (Some p) journal
numbered-taken {number = number} {dirty = dirty} file p first h = record {
  listed = λ q i. h.listed q (in-filtered _ dirty q i);
  pushed = λ q e. subst (λ z. z.last < number) (some-same p q e) (h.listed p (find-in (is_push_of file) dirty p first));
  lost = h.lost;
}

pub numbered-stored : {who : Who} {number : ℕ} {dirty : List Push} {push : Option Push} {journal : List Entry} → Numbered who number dirty push journal
    → Numbered who number dirty None journal
numbered-stored h = record { listed = h.listed; pushed = λ p e. none-some p e; lost = h.lost }

-- ---- losses

-- each is of the file, and was there
pub writes-there : (file : ℕ) (push : Option Push) (dirty : List Push) (p : Push) → In (unsaved_on file push dirty) p
    → ((push ≡ Some p) ⊎ In dirty p) × (is_push_of file p ≡ true)
writes-there file push dirty p i = case (in-append (push_of file push) (filter (is_push_of file) dirty) p i)
  where
    under-way : (o : Option Push) → In (push_of file o) p → (o ≡ Some p) × (is_push_of file p ≡ true)
    under-way None h = absurd h
    under-way (Some x) h = step (is_push_of file x) refl h
      where
        step : (b : Bool) → is_push_of file x ≡ b → In (if b then x ∷ [] else []) p → (Some x ≡ Some p) × (is_push_of file p ≡ true)
        step true e (inl same) = (ap Some same, subst (λ z. is_push_of file z ≡ true) same e)
        step true e (inr bad) = absurd bad
        step false e bad = absurd bad

    case : In (push_of file push) p ⊎ In (filter (is_push_of file) dirty) p → ((push ≡ Some p) ⊎ In dirty p) × (is_push_of file p ≡ true)
    case (inl h) = let k = under-way push h in (inl k.0, k.1)
    case (inr h) = let k = in-filter (is_push_of file) dirty p h in (inr k.0, k.1)

-- an entry of the losses is an L of one of the writes
pub loss-there : (who : Who) (ps : List Push) (e : Entry) → In (reverse (map (loss_entry who) ps)) e → (p : Push) × In ps p × (loss_entry who p ≡ e)
loss-there who ps e i = in-map (loss_entry who) ps e (in-reverse (map (loss_entry who) ps) e i)
