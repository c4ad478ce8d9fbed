-- What is told of a journal up to a place is told up to a later one, where no entry between them matters.
use Rattle.std.proofs.Common.{◌≡◌, ◌<◌, ◌≤◌, ℕ, zero, suc, ◌+◌, ◌-◌, List, ◌∷◌, length, take, reverse, Option, Some, None, true, false, ◌&&◌, inl}
use Rattle.std.proofs.Common.{inr, refl, sym, ◌∙◌, ap, subst, arith}
use Rattle.std.specs.Prelude.{if◌then◌else◌, nat_eq, nat_le}
use Rattle.std.specs.List.{slice_get}
use Rattle.std.specs.Option.{option_or}
use Rattle.std.proofs.lemmas.Bool.{and_parts, and_from, cases_Bool, eqb-true, eq-eqb}
use Rattle.std.proofs.lemmas.Option.{slice_get_cases}
use Rattle.nq_base.specs.declared.Entry.{Entry}
use Rattle.nq_base.specs.declared.Entry.TheVariants.{C, W, S, L, Z, A}
use Rattle.nq_base.specs.declared.Said.TheVariants.{OkBy, Busy as SaidBusy}
use Rattle.nq_base.specs.declared.Told.{Told}
use Rattle.nq_base.specs.declared.Who.{Who}
use Rattle.nq_rules.specs.declared.keys.KeyKind.{KeyKind}
use Rattle.nq_rules.specs.declared.keys.KeyKind.TheVariants.{Calls, Covers, Cuts, Own}
use Rattle.nq_rules.specs.declared.sought.Sought.{Sought}
use Rattle.nq_rules.specs.declared.sought.Sought.TheVariants.{Call, Answer, AnswerBy, AnswerWith, Busy, Resize, Cut, Cover, Store, Loss, Covered, Lost}
use Rattle.nq_check.specs.Links.{IsFree, is_link}
use Rattle.nq_rules.specs.Keys.{block_spot, own_spot}
use Rattle.nq_rules.specs.Marks.{Spot, same_spot, spot}
use Rattle.nq_rules.specs.Sought.{kind_sought, passes, spot_sought}
use Rattle.nq_rules.proofs.Places.{taken_here}
use Rattle.nq_model.specs.laws.Journal.{call_of, cuts, told_by}
use Rattle.nq_model.specs.laws.JournalTest.{covers, is_answer, is_answer_by, is_call, is_within, loss_covers, store_covers}
use Rattle.nq_model.specs.laws.LegalTest.{gives_value, is_answer_with}
use Rattle.nq_model.specs.laws.OrderedTest.{is_resize_by}
use Rattle.nq_model.specs.laws.ReportedTest.{is_busy_answer}
use Rattle.nq_model.specs.protocol.Table.{same_who}

-- a fact of a journal up to a place holds up to a later one, where each entry between them keeps it
climb_by : (Q : List Entry → Type 0) (whole : List Entry) (n from : ℕ) → from + n ≤ length whole → Q (reverse (take from whole))
    → ((place : ℕ) (entry : Entry) (before : List Entry) → from ≤ place → place < from + n → slice_get whole place ≡ Some entry → Q before
    → Q (entry ∷ before)) → Q (reverse (take (from + n) whole))
climb_by Q whole zero from l q step = let same : from + 0 ≡ from = omega arith in subst (λ k. Q (reverse (take k whole))) (sym same) q
climb_by Q whole (suc n) from l q step =
    let below : Q (reverse (take (from + n) whole)) = climb_by Q whole n from (omega arith) q
    (λ place entry before a b. step place entry before a (omega arith)) in
    elim (slice_get_cases whole (from + n)).1 [
      | inl h ↦
          let next : from + suc n ≡ (from + n) + 1 = omega arith in
          subst (λ k. Q (reverse (take k whole))) (sym next)
          (subst (λ l. Q l) (sym (taken_here whole (from + n) h.0 h.2))
          (step (from + n) h.0 (reverse (take (from + n) whole)) (omega arith) (omega arith) h.2 below))
      | inr h ↦ absurd (omega arith)
    ]

pub climb : (Q : List Entry → Type 0) (whole : List Entry) (from to : ℕ) → from ≤ to → to ≤ length whole → Q (reverse (take from whole))
    → ((place : ℕ) (entry : Entry) (before : List Entry) → from ≤ place → place < to → slice_get whole place ≡ Some entry → Q before
    → Q (entry ∷ before)) → Q (reverse (take to whole))
climb Q whole from to a b q step =
    let up : from + (to - from) ≡ to = omega arith in
    subst (λ k. Q (reverse (take k whole))) up
    (climb_by Q whole (to - from) from (omega arith) q (λ place entry before c d. step place entry before c (omega arith)))

pub link_call : (by who : Who) (n q : ℕ) → (same_who by who && nat_eq n q) ≡ true → same_spot (spot by n 0) (spot who q 0) ≡ true
link_call by who n q e =
    let p = and_parts (same_who by who) (nat_eq n q) e in
    and_from (same_who by who) (nat_eq n q && nat_eq 0 0) p.0 (and_from (nat_eq n q) (nat_eq 0 0) p.1 refl)

told_none : (who : Who) (q : ℕ) (entry : Entry) → is_link Calls (spot who q 0) entry ≡ false → told_by entry who q ≡ None
told_none who q (C by n told) h =
    elim (cases_Bool (same_who by who && nat_eq n q)) [
      | inl y ↦ absurd (let t = link_call by who n q y in cc)
      | inr f ↦ ap (λ b. if b then Some told else None) f
    ]
told_none who q other h = refl

pub or_none : {X : Type 0} (o : Option X) → option_or o None ≡ o
or_none (Some x) = refl
or_none None = refl

-- nor does an entry between them tell of the call
pub skip_told : (key : Spot) (who : Who) (q : ℕ) (whole : List Entry) (from to : ℕ) → key ≡ spot who q 0 → from ≤ to → to ≤ length whole
    → IsFree Calls key whole from to → call_of (reverse (take to whole)) who q ≡ call_of (reverse (take from whole)) who q
skip_told key who q whole from to e a b free =
    climb (λ l. call_of l who q ≡ call_of (reverse (take from whole)) who q) whole from to a b refl
    (λ place entry before c d there h.
    ap (λ t. option_or (call_of before who q) t) (told_none who q entry (subst (λ k. is_link Calls k entry ≡ false) e (free place entry c d there)))
    ∙ or_none (call_of before who q) ∙ h)

-- what was told later is behind what was told earlier
pub told_more : (o p r : Option Told) → option_or (option_or o p) r ≡ option_or o (option_or p r)
told_more (Some x) p r = refl
told_more None p r = refl

-- ---- what is looked for is linked

turned : (a b : ℕ) → nat_eq a b ≡ true → nat_eq b a ≡ true
turned a b h = eq-eqb b a (sym (eqb-true a b h))

turned_who : (a b : Who) → same_who a b ≡ true → same_who b a ≡ true
turned_who a b h =
    let p = and_parts (nat_eq a.host b.host) (nat_eq a.inc b.inc) h in
    and_from (nat_eq b.host a.host) (nat_eq b.inc a.inc) (turned a.host b.host p.0) (turned a.inc b.inc p.1)

tells_within : (who : Who) (file block first last : ℕ) (by : Who) (f b n v : ℕ) → is_within who file block first last (W by f b n v false) ≡ true
    → (same_who by who ≡ true) × (nat_eq f file ≡ true) × (nat_eq b block ≡ true)
tells_within who file block first last by f b n v h =
    let p = and_parts (same_who by who && nat_eq f file && nat_eq b block && nat_le first n) (nat_le n last) h in
    let r = and_parts (same_who by who && nat_eq f file && nat_eq b block) (nat_le first n) p.0 in
    let t = and_parts (same_who by who && nat_eq f file) (nat_eq b block) r.0 in
    let w = and_parts (same_who by who) (nat_eq f file) t.0 in
    (w.0, w.1, t.1)

within_linked : (who : Who) (file block first last : ℕ) (write : Entry) → is_within who file block first last write ≡ true
    → same_spot (spot who file block) (own_spot write) ≡ true
within_linked who file block first last (W by f b n v false) h =
    let p = tells_within who file block first last by f b n v h in
    and_from (same_who who by) (nat_eq file f && nat_eq block b) (turned_who by who p.0)
    (and_from (nat_eq file f) (nat_eq block b) (turned f file p.1) (turned b block p.2))
within_linked who file block first last other h = absurd (cc)

store_linked : (write entry : Entry) → store_covers entry write ≡ true → is_link Covers (own_spot write) entry ≡ true
store_linked write (S who file block first last now) h = within_linked who file block first last write h
store_linked write other h = absurd (cc)

loss_linked : (write entry : Entry) → loss_covers entry write ≡ true → is_link Covers (own_spot write) entry ≡ true
loss_linked write (L who file block first last) h = within_linked who file block first last write h
loss_linked write other h = absurd (cc)

called_linked : (who : Who) (q : ℕ) (entry : Entry) → is_call who q entry ≡ true → is_link Calls (spot who q 0) entry ≡ true
called_linked who q (C by n told) h = link_call by who n q h
called_linked who q other h = absurd (cc)

answered_linked : (who : Who) (q : ℕ) (entry : Entry) → is_answer who q entry ≡ true → is_link Calls (spot who q 0) entry ≡ true
answered_linked who q (A by n said) h = link_call by who n q h
answered_linked who q other h = absurd (cc)

by_linked : (who : Who) (q k : ℕ) (entry : Entry) → is_answer_by who q k entry ≡ true → is_link Calls (spot who q 0) entry ≡ true
by_linked who q k (A by n (OkBy v p)) h = link_call by who n q (and_parts (same_who by who && nat_eq n q) (nat_eq p k) h).0
by_linked who q k other h = absurd (cc)

with_linked : (who : Who) (q v : ℕ) (entry : Entry) → is_answer_with who q v entry ≡ true → is_link Calls (spot who q 0) entry ≡ true
with_linked who q v (A by n said) h = link_call by who n q (and_parts (same_who by who && nat_eq n q) (gives_value v said) h).0
with_linked who q v other h = absurd (cc)

covered_linked : (who : Who) (file block first last : ℕ) (write : Entry) → is_within who file block first last write ≡ true
    → is_link Own (spot who file block) write ≡ true
covered_linked who file block first last (W by f b n v false) h =
    let p = tells_within who file block first last by f b n v h in
    and_from (same_who by who) (nat_eq f file && nat_eq b block) p.0 (and_from (nat_eq f file) (nat_eq b block) p.1 p.2)
covered_linked who file block first last other h = absurd (cc)

lost_linked : (loss entry : Entry) → loss_covers loss entry ≡ true → is_link Own (own_spot loss) entry ≡ true
lost_linked (L who file block first last) entry h = covered_linked who file block first last entry h
lost_linked other entry h = absurd (cc)

busy_linked : (who : Who) (q : ℕ) (entry : Entry) → is_busy_answer who q entry ≡ true → is_link Calls (spot who q 0) entry ≡ true
busy_linked who q (A by n SaidBusy) h = link_call by who n q h
busy_linked who q other h = absurd (cc)

resize_linked : (who : Who) (q : ℕ) (entry : Entry) → is_resize_by who q entry ≡ true → is_link Calls (spot who q 0) entry ≡ true
resize_linked who q (Z by n file from to) h = link_call by who n q h
resize_linked who q other h = absurd (cc)

-- a Z that cuts a block has the key of its file
cut_linked : (file block : ℕ) (entry : Entry) → cuts entry file block ≡ true → is_link Cuts (block_spot file 0) entry ≡ true
cut_linked file block (Z who q on from to) h =
    let p = and_parts (nat_eq on file) (nat_le to block) h in
    and_from (nat_eq on file) (nat_eq 0 0) p.0 refl
cut_linked file block other h = absurd (cc)

cover_linked : (write entry : Entry) → covers entry write ≡ true → is_link Covers (own_spot write) entry ≡ true
cover_linked write (S who file block first last now) h = within_linked who file block first last write h
cover_linked write (L who file block first last) h = within_linked who file block first last write h
cover_linked write other h = absurd (cc)

by_cover_linked : (cover entry : Entry) → covers cover entry ≡ true → is_link Own (own_spot cover) entry ≡ true
by_cover_linked (S who file block first last now) entry h = covered_linked who file block first last entry h
by_cover_linked (L who file block first last) entry h = covered_linked who file block first last entry h
by_cover_linked other entry h = absurd (cc)

pub sought_linked : (sought : Sought) (entry : Entry) → passes sought entry ≡ true → is_link (kind_sought sought) (spot_sought sought) entry ≡ true
sought_linked (Call who q) entry h = called_linked who.now q entry h
sought_linked (Answer who q) entry h = answered_linked who.now q entry h
sought_linked (AnswerBy who q packet) entry h = by_linked who.now q packet entry h
sought_linked (AnswerWith who q value) entry h = with_linked who.now q value entry h
sought_linked (Busy who q) entry h = busy_linked who.now q entry h
sought_linked (Resize who q) entry h = resize_linked who.now q entry h
sought_linked (Cut file block) entry h = cut_linked file.now block.now entry h
sought_linked (Cover write) entry h = cover_linked write.now entry h
sought_linked (Store write) entry h = store_linked write.now entry h
sought_linked (Loss write) entry h = loss_linked write.now entry h
sought_linked (Covered cover) entry h = by_cover_linked cover.now entry h
sought_linked (Lost loss) entry h = lost_linked loss.now entry h

-- the same, where key and kind are known by what they are equal to
pub sought_here : (sought : Sought) (kind : KeyKind) (key : Spot) → kind ≡ kind_sought sought → key ≡ spot_sought sought → (entry : Entry)
    → passes sought entry ≡ true → is_link kind key entry ≡ true
sought_here sought kind key k e entry h =
    subst (λ z. is_link z key entry ≡ true) (sym k) (subst (λ z. is_link (kind_sought sought) z entry ≡ true) (sym e) (sought_linked sought entry h))
