-- A client's calls, losses and delayed writes fit the journal in the middle of each step.
use Rattle.std.proofs.Common.{◌≡◌, ◌≤◌, ℕ, ◌+◌, Bool, true, false, ◌==◌, List, [], ◌∷◌, ◌++◌, Option, Some, None, map, filter, reverse, is_some}
use Rattle.std.proofs.Common.{if◌then◌else◌, refl, subst, ap, ◌∙◌, arith}
use Rattle.std.proofs.lemmas.Bool.{and_from}
use Rattle.nq_base.specs.declared.Answer.{Answer}
use Rattle.nq_base.specs.declared.Entry.{Entry}
use Rattle.nq_base.specs.declared.Loss.{Loss}
use Rattle.nq_base.specs.declared.Push.{Push}
use Rattle.nq_base.specs.declared.Said.{Said}
use Rattle.nq_base.specs.declared.Told.{Told}
use Rattle.nq_base.specs.declared.Value.{Value}
use Rattle.nq_base.specs.declared.Who.{Who}
use Rattle.walk_steps.proofs.ClientMoves.{some-same, none-some}
use Rattle.walk_steps.proofs.Rows.{choice, same-number, number-same}
use Rattle.law_runs.proofs.Books.{Book, unsaved_on, after_loss, after_names, after_report, tells_losses, Closed}
use Rattle.law_runs.proofs.Tallies.{IsOne, tally, tally-nil, tally-cons, tally-append, tally-reverse, tally-map, tally-split, tally-one, tally-taken}
use Rattle.law_runs.proofs.Tallies.{tally-added, one-added, added-one, one-found}
use Rattle.law_runs.proofs.Told.{Grows, grows}
use Rattle.law_runs.proofs.Journals.{Journals, call-begun}
use Rattle.law_runs.proofs.JournalMoves.{journals-quiet, is_lost, journals-answer, journals-busy, journals-begin, loss_at, waits-speaks}
use Rattle.law_runs.proofs.JournalMoves.{journals-names, journals-tell}
use Rattle.law_runs.proofs.LossMoves.{journals-lose, journals-same, lost_at, push_at, lost-counts, loss-of-counts, named-lost}
use Rattle.nq_model.specs.protocol.Client.{UnderWay, file_of_loss, other_losses, add_losses, dirty_at, drop_dirty, other_dirty, is_push_of, is_push_at}
use Rattle.nq_base.specs.Calls.{told}
use Rattle.nq_model.specs.protocol.Hear.{loss_of, loss_entry, push_of, other_push, waits_for}
use Rattle.nq_model.specs.laws.Journal.{Exists, call_of}
use Rattle.nq_model.specs.laws.Reported.{Names}
use Rattle.nq_model.specs.protocol.Settle.{said, with_write, overwritten_at}

-- ---- first numbers are used once

abbrev pub push_list : Option Push → List Push
push_list None = []
push_list (Some p) = p ∷ []

pub record Counted (who : Who) (number : ℕ) (dirty : List Push) (push : Option Push) (losses : List Loss) (j : List Entry) : Type 0 where
  pub once : (n : ℕ) → tally (lost_at who n) j + (tally (push_at n) (push_list push) + tally (push_at n) dirty) ≤ 1
  pub below : (n : ℕ) → number ≤ n → tally (lost_at who n) j + (tally (push_at n) (push_list push) + tally (push_at n) dirty) ≡ 0
  pub waiting : (n : ℕ) → tally (loss_at n) losses ≤ tally (lost_at who n) j

-- an entry that is no L
pub counted-entry : {who : Who} {number : ℕ} {dirty : List Push} {push : Option Push} {losses : List Loss} {j : List Entry} (e : Entry)
    → ((n : ℕ) → lost_at who n e ≡ 0) → Counted who number dirty push losses j → Counted who number dirty push losses (e ∷ j)
counted-entry {who = who} {j = j} e none h = record {
  once = λ n. let here = none n in let split = tally-cons (lost_at who n) e j in let before = h.once n in omega arith;
  below = λ n above. let here = none n in let split = tally-cons (lost_at who n) e j in let before = h.below n above in omega arith;
  waiting = λ n. let here = none n in let split = tally-cons (lost_at who n) e j in let before = h.waiting n in omega arith;
}

counted-fewer : {who : Who} {number : ℕ} {dirty : List Push} {push : Option Push} {losses : List Loss} {j : List Entry} (file : ℕ)
    → Counted who number dirty push losses j → Counted who number dirty push (other_losses file losses) j
counted-fewer {losses = losses} file h = record {
  once = h.once;
  below = h.below;
  waiting = λ n. let split = tally-split (loss_at n) (λ l. l.file == file) losses in let before = h.waiting n in omega arith;
}

counted-number : {who : Who} {number : ℕ} {dirty : List Push} {push : Option Push} {losses : List Loss} {j : List Entry}
    → Counted who number dirty push losses j → Counted who (number + 1) dirty push losses j
counted-number h = record { once = h.once; below = λ n above. h.below n (omega arith); waiting = h.waiting }

counted-ends : {who : Who} {number : ℕ} {dirty : List Push} {push : Option Push} {losses : List Loss} {j : List Entry}
    → Counted who number dirty push losses j → Counted who number dirty None losses j
counted-ends h = record {
  once = λ n. let before = h.once n in let none = tally-nil (push_at n) in omega arith;
  below = λ n above. let before = h.below n above in let none = tally-nil (push_at n) in omega arith;
  waiting = h.waiting;
}

counted-takes : {who : Who} {number : ℕ} {dirty : List Push} {push : Option Push} {losses : List Loss} {j : List Entry} (p : Push) → IsOne dirty p
    → Counted who number dirty push losses j → Counted who number (drop_dirty p.file p.block dirty) (Some p) losses j
counted-takes {dirty = dirty} p there h = record {
  once = λ n. let before = h.once n in let less = taken n in let single = one n in omega arith;
  below = λ n above. let before = h.below n above in let less = taken n in let single = one n in omega arith;
  waiting = h.waiting;
} where
  taken : (n : ℕ) → tally (push_at n) (drop_dirty p.file p.block dirty) + push_at n p ≤ tally (push_at n) dirty
  taken n = tally-taken (push_at n) (is_push_at p.file p.block) p dirty there (and_from _ _ (number-same p.file p.file refl)
      (number-same p.block p.block refl))

  one : (n : ℕ) → tally (push_at n) (p ∷ []) ≡ push_at n p
  one n = let split = tally-cons (push_at n) p [] in let none = tally-nil (push_at n) in omega arith

-- a write is delayed
overwritten-counts : (file block number n : ℕ) (body : List ℕ) (p : Push) → push_at n (overwritten_at file block number body p) ≡ push_at n p
overwritten-counts file block number n body p = step (is_push_at file block p)
  where
    step : (b : Bool) → push_at n (if b then record p { last = number; body = body } else p) ≡ push_at n p
    step true = refl
    step false = refl

abbrev one_if : Bool → ℕ
one_if b = if b then 1 else 0

test-other : (m n : ℕ) → (m ≡ n → ⊥) → one_if (m == n) ≡ 0
test-other m n apart = step (m == n) refl
  where
    step : (b : Bool) → (m == n) ≡ b → one_if b ≡ 0
    step true e = absurd (apart (same-number m n e))
    step false e = refl

test-same : (m n : ℕ) → m ≡ n → one_if (m == n) ≡ 1
test-same m n same = let e : (m == n) ≡ true = number-same m n same in rw e refl

-- with the number that is next a sum stays within one
next-once : (number n sum : ℕ) → sum ≤ 1 → (number ≤ n → sum ≡ 0) → sum + one_if (number == n) ≤ 1
next-once number n sum few none = step (number == n) refl
  where
    step : (b : Bool) → (number == n) ≡ b → sum + one_if b ≤ 1
    step true e = let same : number ≡ n = same-number number n e in let zero_sum = none (omega arith) in omega arith
    step false e = omega arith

counted-writes : {who : Who} {number : ℕ} {dirty : List Push} {push : Option Push} {losses : List Loss} {j : List Entry} (file block : ℕ)
    (body : List ℕ) (o : Option Push) → Counted who number dirty push losses j
    → Counted who (number + 1) (with_write file block number body dirty o) push losses j
counted-writes {number = number} {dirty = dirty} file block body (Some p) h = record {
  once = λ n. let before = h.once n in let same = kept n in omega arith;
  below = λ n above. let before = h.below n (omega arith) in let same = kept n in omega arith;
  waiting = h.waiting;
} where
  kept : (n : ℕ) → tally (push_at n) (map (overwritten_at file block number body) dirty) ≡ tally (push_at n) dirty
  kept n = tally-map (push_at n) (push_at n) (overwritten_at file block number body) dirty (overwritten-counts file block number n body)
counted-writes {who = who} {number = number} {dirty = dirty} {push = push} {j = j} file block body None h = record {
  once =
      λ n. let more = grown n in let few = next-once number n (tally (lost_at who n) j + (tally (push_at n) (push_list push) + tally (push_at n) dirty))
      (h.once n) (h.below n) in omega arith;
  below = λ n above. let before = h.below n (omega arith) in let more = grown n in let other = test-other number n (λ e. omega arith) in omega arith;
  waiting = h.waiting;
} where
  p : Push
  p = record { file = file; block = block; first = number; last = number; body = body }

  grown : (n : ℕ) → tally (push_at n) (dirty ++ p ∷ []) ≡ tally (push_at n) dirty + one_if (number == n)
  grown n = let split = tally-append (push_at n) dirty (p ∷ []) in let single = tally-cons (push_at n) p [] in let none = tally-nil (push_at n) in omega arith

-- all delayed writes of a file are lost
push-split : (n file : ℕ) (push : Option Push)
    → tally (push_at n) (push_of file push) + tally (push_at n) (push_list (other_push file push)) ≡ tally (push_at n) (push_list push)
push-split n file None = let none = tally-nil (push_at n) in omega arith
push-split n file (Some p) = step (is_push_of file p)
  where
    step : (b : Bool) → tally (push_at n) (if b then p ∷ [] else []) + tally (push_at n) (push_list (if b then None else Some p)) ≡ tally (push_at n) (p ∷ [])
    step true = let none = tally-nil (push_at n) in omega arith
    step false = let none = tally-nil (push_at n) in omega arith

unsaved-counts : (n file : ℕ) (push : Option Push) (dirty : List Push)
    → tally (push_at n) (unsaved_on file push dirty) +
    (tally (push_at n) (push_list (other_push file push)) + tally (push_at n) (other_dirty file dirty)) ≡ tally (push_at n) (push_list push) + tally
    (push_at n) dirty
unsaved-counts n file push dirty =
    let both = tally-append (push_at n) (push_of file push) (filter (is_push_of file) dirty) in
    let a = push-split n file push in
    let b = tally-split (push_at n) (is_push_of file) dirty in
    omega arith

counted-loses : {who : Who} {number : ℕ} {dirty : List Push} {push : Option Push} {losses : List Loss} {j : List Entry} (file : ℕ)
    → Counted who number dirty push losses j
    → Counted who number (other_dirty file dirty) (other_push file push) (add_losses file (map loss_of (unsaved_on file push dirty)) losses)
    (reverse (map (loss_entry who) (unsaved_on file push dirty)) ++ j)
counted-loses {who = who} {dirty = dirty} {push = push} {losses = losses} {j = j} file h = record {
  once = λ n. let before = h.once n in let all = unsaved-counts n file push dirty in let more = longer n in omega arith;
  below = λ n above. let before = h.below n above in let all = unsaved-counts n file push dirty in let more = longer n in omega arith;
  waiting = λ n. let before = h.waiting n in let more = longer n in let wait = waits n in omega arith;
} where
  ps : List Push
  ps = unsaved_on file push dirty

  longer : (n : ℕ) → tally (lost_at who n) (reverse (map (loss_entry who) ps) ++ j) ≡ tally (push_at n) ps + tally (lost_at who n) j
  longer n =
      let split = tally-append (lost_at who n) (reverse (map (loss_entry who) ps)) j in
      let turned = tally-reverse (lost_at who n) (map (loss_entry who) ps) in
      let counts = tally-map (lost_at who n) (push_at n) (loss_entry who) ps (λ p. lost-counts who p n) in
      omega arith

  waits : (n : ℕ) → tally (loss_at n) (add_losses file (map loss_of ps) losses) ≡ tally (loss_at n) losses + tally (push_at n) ps
  waits n =
      let split = tally-added (loss_at n) file_of_loss file (map loss_of ps) losses in
      let counts = tally-map (loss_at n) (push_at n) loss_of ps (loss-of-counts n) in
      omega arith

-- ---- all of it

pub record Fits (b : Book) : Type 0 where
  pub journals : Journals b.who b.calls b.losses b.journal
  pub under_way : (u : UnderWay) → b.call ≡ Some u → call_of b.journal b.who u.q ≡ Some (told u.call)
  pub counted : Counted b.who b.number b.dirty b.push b.losses b.journal

pub still-called : {old new : List Entry} → Grows old new → (who : Who) (q : ℕ) (tells : Told) → call_of old who q ≡ Some tells → call_of new who q
    ≡ Some tells
still-called g who q tells is = g.calls who q (ap is_some is) ∙ is

plain-said : (answer : Answer) (by : Option ℕ) → tells_losses answer ≡ false → is_lost (said answer by) ≡ false
plain-said (Answer.Lost losses) by h = absurd (cc)
plain-said (Answer.Ok Value.Nothing) by h = refl
plain-said (Answer.Ok (Value.File file)) by h = refl
plain-said (Answer.Ok (Value.Blocks blocks)) by h = refl
plain-said (Answer.Ok (Value.Body body)) None h = refl
plain-said (Answer.Ok (Value.Body body)) (Some packet) h = refl
plain-said other by h = refl

fits-names : (b : Book) (u : UnderWay) (file : ℕ) → b.call ≡ Some u → waits_for file u.written u.call ≡ true → Fits b → Fits (after_names b u.q file)
fits-names b u file is waits f = record {
  journals =
      journals-names u.q file (told u.call) (f.under_way u is) (waits-speaks u.call file u.written waits)
      (λ n. let a = f.counted.waiting n in let c = f.counted.once n in omega arith) f.journals;
  under_way = λ v e. none-some v e;
  counted = counted-entry (Entry.A b.who u.q _) (λ n. refl) (counted-fewer file f.counted);
}

fits-loss : (b : Book) (file : ℕ) → Fits b → Fits (after_loss b file)
fits-loss b file f = record {
  journals =
      journals-same (add_losses file (map loss_of ps) b.losses) (added-one file_of_loss file (map loss_of ps) b.losses)
      (one-added file_of_loss file (map loss_of ps) b.losses) (journals-lose ps new f.journals);
  under_way = λ u is. still-called (grows (reverse (map (loss_entry b.who) ps)) b.journal) b.who u.q (told u.call) (f.under_way u is);
  counted = counted-loses file f.counted;
} where
  ps : List Push
  ps = unsaved_on file b.push b.dirty

  new : (p : Push) → IsOne ps p → Exists (Names b.journal b.who (loss_of p)) b.journal → ⊥
  new p one n =
      let named = named-lost b.journal b.who b.losses (loss_of p) [] b.journal f.journals.told n in
      let there = tally-one (push_at p.first) p ps one in
      let counts = test-same p.first p.first refl in
      let all = unsaved-counts p.first file b.push b.dirty in
      let once = f.counted.once p.first in
      omega arith

fits-report : (b : Book) (file : ℕ) (o : Option UnderWay) → b.call ≡ o → Fits b → Fits (after_report b file o)
fits-report b file None is f = f
fits-report b file (Some u) is f = choice Fits (waits_for file u.written u.call) (after_names b u.q file) b (λ e. fits-names b u file is e f) (λ e. f)

pub fits-closed : Closed Fits
fits-closed = record {
  marks = λ b u v is q same f. record {
    journals = f.journals;
    under_way = λ w e. let one : v ≡ w = some-same v w e in subst (λ z. call_of b.journal b.who z.q ≡ Some (told z.call)) one
        (rw (q, same) (f.under_way u is));
    counted = f.counted;
  };
  answers = λ b u answer by is plain f. record {
    journals = journals-answer u.q (said answer by) (told u.call) (f.under_way u is) (plain-said answer by plain) f.journals;
    under_way = λ v e. none-some v e;
    counted = counted-entry (Entry.A b.who u.q (said answer by)) (λ n. refl) f.counted;
  };
  loses = λ b file f. fits-report (after_loss b file) file b.call refl (fits-loss b file f);
  takes =
      λ b file p is f. record {
        journals = f.journals;
        under_way = f.under_way;
        counted = counted-takes p (one-found (is_push_of file) p b.dirty is)
            f.counted;
      };
  ends = λ b f. record { journals = f.journals; under_way = f.under_way; counted = counted-ends f.counted };
  writes = λ b file block value body f. record {
    journals = journals-quiet (Entry.W b.who file block b.number value false) tt f.journals;
    under_way = λ u is. still-called (grows (Entry.W b.who file block b.number value false ∷ []) b.journal) b.who u.q (told u.call) (f.under_way u is);
    counted =
        counted-entry (Entry.W b.who file block b.number value false) (λ n. refl) (counted-writes file block body (dirty_at file block b.dirty) f.counted);
  };
  numbers = λ b f. record { journals = f.journals; under_way = f.under_way; counted = counted-number f.counted };
  reads = λ b q file block value f. record {
    journals = journals-quiet (Entry.R b.who q file block value None) tt f.journals;
    under_way = λ u is. still-called (grows (Entry.R b.who q file block value None ∷ []) b.journal) b.who u.q (told u.call) (f.under_way u is);
    counted = counted-entry (Entry.R b.who q file block value None) (λ n. refl) f.counted;
  };
  busy = λ b op f. record {
    journals = journals-busy (told op) f.journals;
    under_way =
        λ u is. still-called (grows (Entry.A b.who (b.calls + 1) Said.Busy ∷ Entry.C b.who (b.calls + 1) (told op) ∷ []) b.journal) b.who u.q
        (told u.call) (f.under_way u is);
    counted = counted-entry (Entry.A b.who (b.calls + 1) Said.Busy) (λ n. refl) (counted-entry (Entry.C b.who (b.calls + 1) (told op)) (λ n. refl) f.counted);
  };
  names = λ b op file is f. record {
    journals = journals-tell file op is (λ n. let a = f.counted.waiting n in let c = f.counted.once n in omega arith) f.journals;
    under_way = λ v e. none-some v e;
    counted = counted-entry _ (λ n. refl) (counted-entry (Entry.C b.who (b.calls + 1) (told op)) (λ n. refl) (counted-fewer file f.counted));
  };
  begins = λ b op free f. record {
    journals = journals-begin op free f.journals;
    under_way = λ u e.
        let one = some-same _ u e in
        subst (λ z. call_of (Entry.C b.who (b.calls + 1) (told op) ∷ b.journal) b.who z.q ≡ Some (told z.call)) one
        (call-begun b.journal b.who b.calls (told op) f.journals.numbered);
    counted = counted-entry (Entry.C b.who (b.calls + 1) (told op)) (λ n. refl) f.counted;
  };
}
