-- The test of ordered journals is right.
use Rattle.std.proofs.Common.{◌≡◌, ℕ, Bool, true, false, ◌||◌, List, [], ◌∷◌, refl, sym, subst}
use Rattle.std.specs.Prelude.{Option, Some, None, IsTrue, ⊤, if◌then◌else◌}
use Rattle.nq_base.specs.declared.Entry.{Entry}
use Rattle.nq_base.specs.declared.Entry.TheVariants.{C, W, R, Z, A}
use Rattle.nq_base.specs.declared.Said.TheVariants.{Busy}
use Rattle.nq_base.specs.declared.Told.{Told}
use Rattle.nq_base.specs.declared.Told.TheVariants.{Write, Put, Resize, Remove}
use Rattle.nq_base.specs.declared.Who.{Who}
use mathlib.Core.Logic.{inl, inr}
use Rattle.nq_model.specs.laws.Journal.{Each, Exists, Throughout, IsCall, IsOpen, call_of}
use Rattle.nq_model.specs.laws.JournalTest.{each}
use Rattle.nq_model.specs.laws.Ordered.{IsCallBelow, IsOpenCall, HasOpen, IsBusyNext, IsCallInOrder, Writes, IsBeforeCall, IsNumbered, IsWriteOf}
use Rattle.nq_model.specs.laws.Ordered.{IsWriteInOrder, Resizes, IsResizeBy, IsResizeInOrder, IsReadInOrder, IsInOrder, IsOrdered}
use Rattle.nq_model.specs.laws.OrderedTest.{is_call_below, is_open_call, has_open, is_busy_next, is_call_in_order, writes, is_before_call, is_numbered}
use Rattle.nq_model.specs.laws.OrderedTest.{is_write_of, is_write_in_order, is_no_other, open_call, call_resizes, is_resize_by, is_resize_in_order}
use Rattle.nq_model.specs.laws.OrderedTest.{is_read_in_order, is_in_order, is_ordered}
use Rattle.nq_model.specs.laws.Tests.{Tells, TellsLaw}
use Rattle.nq_model.proofs.Telling.{yes, no, tells_alike, tells_and, tells_3, tells_4, tells_not, tells_implies, tells_same, tells_lt, not_told}
use Rattle.nq_model.proofs.JournalTests.{tells_each, tells_exists, tells_throughout, tells_at_each_place, tells_who, tells_call, tells_answer}
use Rattle.nq_model.proofs.JournalTests.{tells_open, tells_counted}
use Rattle.nq_model.proofs.LegalTest.{tells_counted_by}

-- ---- calls

tells_call_below : (who : Who) (q : ℕ) (entry : Entry) → Tells (is_call_below who q entry) (IsCallBelow who q entry)
tells_call_below who q (C by n told) = tells_implies tells_who tells_lt
tells_call_below who q other = yes

pub tells_open_call : (before : List Entry) (who : Who) (entry : Entry) → Tells (is_open_call before who entry) (IsOpenCall before who entry)
tells_open_call before who (C by q told) = tells_and tells_who (tells_open before who q)
tells_open_call before who other = no

pub tells_has_open : (before : List Entry) (who : Who) → Tells (has_open before who) (HasOpen before who)
tells_has_open before who = tells_exists (tells_open_call before who) before

tells_busy_next : (who : Who) (q : ℕ) (after : List Entry) → Tells (is_busy_next who q after) (IsBusyNext who q after)
tells_busy_next who q (A by n Busy ∷ after) = tells_and tells_who tells_same
tells_busy_next who q other = no

or_implies : (b : Bool) {c : Bool} {Q R : Type 0} → Tells b Q → Tells c R → Tells (b || c) (¬ Q → R)
or_implies true q r = record { sound = λ e h. absurd (h (q.sound refl)); complete = λ h. refl }
or_implies false q r = record { sound = λ e h. r.sound e; complete = λ h. r.complete (h (not_told q refl)) }

pub tells_unless : {b c : Bool} {Q R : Type 0} → Tells b Q → Tells c R → Tells (b || c) (¬ Q → R)
tells_unless {b} q r = or_implies b q r

tells_call_in_order : (after before : List Entry) (who : Who) (q : ℕ) → Tells (is_call_in_order after before who q) (IsCallInOrder after before who q)
tells_call_in_order after before who q =
    tells_alike
    (λ h. record { rises = h.0; alone = h.1 })
    (λ h. (h.rises, h.alone))
    (tells_and (tells_each (tells_call_below who q) before) (tells_implies (tells_has_open before who)
    (tells_unless (tells_exists (tells_answer who q) before) (tells_busy_next who q after))))

-- ---- writes

tells_writes : (file block value : ℕ) (call : Option Told) → Tells (writes file block value call) (Writes file block value call)
tells_writes file block value (Some (Write f b v)) = tells_3 tells_same tells_same tells_same
tells_writes file block value (Some (Put f b v)) = tells_3 tells_same tells_same tells_same
tells_writes file block value other = no

tells_before_call : (who : Who) (q : ℕ) (entry : Entry) (before : List Entry) → Tells (is_before_call who q entry before) (IsBeforeCall who q entry before)
tells_before_call who q (W by file block number value through) before = tells_implies tells_who (tells_not (tells_exists (tells_call who q) before))
tells_before_call who q other before = yes

tells_numbered : (who : Who) (number : ℕ) (entry : Entry) → Tells (is_numbered who number entry) (IsNumbered who number entry)
tells_numbered who number (W by file block n value through) = tells_and tells_who tells_same
tells_numbered who number other = no

-- where the entry is a C of the incarnation whose call is open at a place, it is call q
abbrev IsNoOther : List Entry → Who → ℕ → Entry → Type 0
IsNoOther before who q (C by n told) = IsOpenCall before who (C by n told) → n ≡ q
IsNoOther before who q other = ⊤

tells_no_other : (before : List Entry) (who : Who) (q : ℕ) (entry : Entry) → Tells (is_no_other before who q entry) (IsNoOther before who q entry)
tells_no_other before who q (C by n told) = tells_implies (tells_open_call before who (C by n told)) tells_same
tells_no_other before who q other = yes

same_call : (before : List Entry) (who : Who) (q other : ℕ) (entry : Entry) → IsOpen before who other → IsNoOther before who q entry
    → IsCall who other entry → other ≡ q
same_call before who q other (C by n told) is_open none call =
    let here : IsOpen before who n = subst (λ (m : ℕ). IsOpen before who m) (sym call.1) is_open in
    let same : n ≡ q = none (call.0, here) in
    cc
same_call before who q other entry is_open none call = absurd call

only_from : (before : List Entry) (who : Who) (q other : ℕ) (entries : List Entry) → IsOpen before who other → Each (IsNoOther before who q) entries
    → Exists (IsCall who other) entries → other ≡ q
only_from before who q other [] is_open none call = absurd call
only_from before who q other (entry ∷ entries) is_open none (inl call) = same_call before who q other entry is_open none.0 call
only_from before who q other (entry ∷ entries) is_open none (inr call) = only_from before who q other entries is_open none.1 call

no_other_at : (before : List Entry) (who : Who) (q : ℕ) (entry : Entry) → ((other : ℕ) → IsOpen before who other → other ≡ q) → IsNoOther before who q entry
no_other_at before who q (C by n told) only = λ h. only n h.1
no_other_at before who q entry only = tt

no_others : (before : List Entry) (who : Who) (q : ℕ) (entries : List Entry) → ((other : ℕ) → IsOpen before who other → other ≡ q)
    → Each (IsNoOther before who q) entries
no_others before who q [] only = tt
no_others before who q (entry ∷ entries) only = (no_other_at before who q entry only, no_others before who q entries only)

tells_only : (before : List Entry) (who : Who) (q : ℕ) → Tells (each (is_no_other before who q) before) ((other : ℕ) → IsOpen before who other → other ≡ q)
tells_only before who q =
    tells_alike
    (λ none other is_open. only_from before who q other before is_open none is_open.0)
    (no_others before who q before)
    (tells_each (tells_no_other before who q) before)

-- what the search for an open call finds is open, and where it finds nothing none is
record Finds (before : List Entry) (who : Who) (entries : List Entry) (found : Option ℕ) : Type 0 where
  finds : (q : ℕ) → found ≡ Some q → IsOpen before who q
  misses : (q : ℕ) → found ≡ None → Exists (IsCall who q) entries → ¬ IsOpen before who q

found_at : (before : List Entry) (who by : Who) (n : ℕ) (told : Told) (entries : List Entry) (rest : Option ℕ) (b : Bool)
    → Tells b (IsOpenCall before who (C by n told)) → Finds before who entries rest → Finds before who (C by n told ∷ entries) (if b then Some n else rest)
found_at before who by n told entries rest true here there = record {
  finds = λ q e. let same : n ≡ q = cc in subst (λ (m : ℕ). IsOpen before who m) same (here.sound refl).1;
  misses = λ q e call. absurd (cc);
}
found_at before who by n told entries rest false here there = record {
  finds = there.finds;
  misses = λ q e. elim [
    | inl call ↦ λ is_open. not_told here refl (call.0, subst (λ (m : ℕ). IsOpen before who m) (sym call.1) is_open)
    | inr call ↦ there.misses q e call
  ];
}

found_past : (before : List Entry) (who : Who) (entry : Entry) (entries : List Entry) (rest : Option ℕ) → ((q : ℕ) → ¬ IsCall who q entry)
    → Finds before who entries rest → Finds before who (entry ∷ entries) rest
found_past before who entry entries rest none there = record {
  finds = there.finds;
  misses = λ q e. elim [ inl call ↦ absurd (none q call) | inr call ↦ there.misses q e call ];
}

open_call_finds : (before : List Entry) (who : Who) (entries : List Entry) → Finds before who entries (open_call before who entries)
open_call_finds before who [] = record { finds = λ q e. absurd (cc); misses = λ q e call. absurd call }
open_call_finds before who (C by n told ∷ entries) =
    found_at before who by n told entries (open_call before who entries) (is_open_call before who (C by n told)) (tells_open_call before who
    (C by n told)) (open_call_finds before who entries)
open_call_finds before who (entry ∷ entries) = found_past before who entry entries (open_call before who entries) (λ q call. call)
    (open_call_finds before who entries)

-- the facts of a write's call, but that it is open
abbrev WritesOnce : List Entry → Who → ℕ → ℕ → ℕ → ℕ → ℕ → Type 0
WritesOnce before who file block number value q =
    ((other : ℕ) → IsOpen before who other → other ≡ q) × Writes file block value (call_of before who q) × Throughout (IsBeforeCall who q) before
    × ¬ Exists (IsNumbered who number) before

tells_writes_once : (before : List Entry) (who : Who) (file block number value q : ℕ) → Tells (is_write_of before who file block number value
    (Some q)) (WritesOnce before who file block number value q)
tells_writes_once before who file block number value q =
    tells_4 (tells_only before who q) (tells_writes file block value (call_of before who q)) (tells_throughout (tells_before_call who q) before)
    (tells_not (tells_exists (tells_numbered who number) before))

write_sound : (before : List Entry) (who : Who) (file block number value : ℕ) (found : Option ℕ) → Finds before who before found
    → IsTrue (is_write_of before who file block number value found) → IsWriteInOrder before who file block number value
write_sound before who file block number value None finds e = absurd (cc)
write_sound before who file block number value (Some q) finds e =
    let h = (tells_writes_once before who file block number value q).sound e in
    (q, record { is_open = finds.finds q refl; only = h.0; call = h.1; first = h.2; fresh = h.3 })

write_complete : (before : List Entry) (who : Who) (file block number value : ℕ) (found : Option ℕ) → Finds before who before found → (q : ℕ)
    → IsWriteOf before who file block number value q → IsTrue (is_write_of before who file block number value found)
write_complete before who file block number value None finds q h = absurd (finds.misses q refl h.is_open.0 h.is_open)
write_complete before who file block number value (Some p) finds q h =
    subst (λ (m : ℕ). IsTrue (is_write_of before who file block number value (Some m))) (sym (h.only p (finds.finds p refl)))
    ((tells_writes_once before who file block number value q).complete (h.only, h.call, h.first, h.fresh))

tells_write_in_order : (before : List Entry) (who : Who) (file block number value : ℕ) → Tells (is_write_in_order before who file block number value)
    (IsWriteInOrder before who file block number value)
tells_write_in_order before who file block number value = record {
  sound = write_sound before who file block number value (open_call before who before) (open_call_finds before who before);
  complete = λ h. write_complete before who file block number value (open_call before who before) (open_call_finds before who before) h.0 h.1;
}

-- ---- resizes and removals, reads

tells_resizes : (file to : ℕ) (call : Option Told) → Tells (call_resizes file to call) (Resizes file to call)
tells_resizes file to (Some (Resize f blocks)) = tells_and tells_same tells_same
tells_resizes file to (Some (Remove f)) = tells_and tells_same tells_same
tells_resizes file to other = no

tells_resize_by : (who : Who) (q : ℕ) (entry : Entry) → Tells (is_resize_by who q entry) (IsResizeBy who q entry)
tells_resize_by who q (Z by n file from to) = tells_and tells_who tells_same
tells_resize_by who q other = no

tells_resize_in_order : (before : List Entry) (who : Who) (q file to : ℕ) → Tells (is_resize_in_order before who q file to)
    (IsResizeInOrder before who q file to)
tells_resize_in_order before who q file to =
    tells_alike
    (λ h. record { is_open = h.0; call = h.1; first = h.2 })
    (λ h. (h.is_open, h.call, h.first))
    (tells_3 (tells_open before who q) (tells_resizes file to (call_of before who q)) (tells_not (tells_exists (tells_resize_by who q) before)))

tells_read_in_order : (whole before : List Entry) (who : Who) (q : ℕ) → Tells (is_read_in_order whole before who q) (IsReadInOrder whole before who q)
tells_read_in_order whole before who q =
    tells_alike
    (λ h. record { is_open = h.0; first = h.1 })
    (λ h. (h.is_open, h.first))
    (tells_and (tells_open before who q) (tells_not (tells_exists (tells_counted_by whole who q) before)))

-- ---- the law

pub tells_in_order : (whole after : List Entry) (entry : Entry) (before : List Entry) → Tells (is_in_order whole after entry before)
    (IsInOrder whole after entry before)
tells_in_order whole after (C who q told) before = tells_call_in_order after before who q
tells_in_order whole after (W who file block number value through) before = tells_write_in_order before who file block number value
tells_in_order whole after (Z who q file from to) before = tells_resize_in_order before who q file to
tells_in_order whole after (R who q file block value served) before = tells_implies (tells_counted whole (R who q file block value served))
    (tells_read_in_order whole before who q)
tells_in_order whole after (A who q said) before = tells_not (tells_exists (tells_answer who q) before)
tells_in_order whole after other before = yes

pub tells_ordered : TellsLaw is_ordered IsOrdered
tells_ordered journal = tells_at_each_place (tells_in_order journal) [] journal
