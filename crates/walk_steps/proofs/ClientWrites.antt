-- What holds of a client's delayed writes is kept by each small change of them.
use Rattle.std.proofs.Common.{◌≡◌, ◌≢◌, ◌⊎◌, ℕ, Bool, true, false, ◌&&◌, not, ◌==◌, List, Option, Some, None, if◌then◌else◌, refl, sym, subst, ap}
use Rattle.std.proofs.Common.{◌∙◌, inl, inr}
use Rattle.std.specs.List.{list_any}
use Rattle.nq_base.specs.declared.Push.{Push}
use Rattle.walk_steps.proofs.ClientFacts.{push_in, Delaying}
use Rattle.nq_model.proofs.ClientLists.{any-dropped, any-others, any-written, notice-before-drop, notice-after-put}
use Rattle.walk_steps.proofs.ClientMoves.{none-some}
use Rattle.walk_steps.proofs.Rows.{same-number}
use Rattle.nq_model.specs.protocol.Client.{pushing, Notice, Ticket, is_push_of, notice_on, drop_notice, put_notice, push_passes, drop_dirty, other_dirty}
use Rattle.nq_model.specs.protocol.Client.{is_clean_in}
use Rattle.nq_model.specs.protocol.Hear.{other_push}
use Rattle.nq_model.specs.protocol.Settle.{with_write}
use Rattle.walk_steps.proofs.Tests.{is-other}

-- a file is not clean where the list has writes of it, or those under way are of it
not-clean-list : (a b : Bool) → a ≡ true → (not a && b) ≡ false
not-clean-list true b h = refl
not-clean-list false b h = cc

not-clean-push : (a b : Bool) → b ≡ true → (a && not b) ≡ false
not-clean-push true true h = refl
not-clean-push false true h = refl
not-clean-push a false h = cc

dirty-or-push : (a b : Bool) → (not a && not b) ≡ false → (a ≡ true) ⊎ (b ≡ true)
dirty-or-push true b h = inl refl
dirty-or-push false true h = inr refl
dirty-or-push false false h = cc

-- a file with writes in the list or under way
pub has-writes : (file : ℕ) (dirty : List Push) (push : Option Push) → is_clean_in file dirty push ≡ false
    → (list_any (is_push_of file) dirty ≡ true) ⊎ (push_passes (is_push_of file) push ≡ true)
has-writes file dirty push h = dirty-or-push _ _ h

pub writes-in-list : (file : ℕ) (dirty : List Push) (push : Option Push) → list_any (is_push_of file) dirty ≡ true → is_clean_in file dirty push ≡ false
writes-in-list file dirty push h = not-clean-list _ _ h

pub writes-under-way : (file : ℕ) (dirty : List Push) (push : Option Push) → push_passes (is_push_of file) push ≡ true → is_clean_in file dirty push ≡ false
writes-under-way file dirty push h = not-clean-push _ _ h

-- a write is delayed
pub delays : {attached : Bool} {ticket : Option Ticket} {notices : List Notice} {dirty : List Push} {push : Option Push} (file block number : ℕ)
    (body : List ℕ) (o : Option Push) → attached ≡ true → Delaying attached ticket notices dirty push
    → Delaying attached ticket notices (with_write file block number body dirty o) push
delays {dirty = dirty} {push = push} file block number body o is_attached h = record {
  noticed = λ f n e. case f (has-writes f dirty push (h.noticed f n e));
  under_way = h.under_way;
  empty = λ e. absurd (cc);
} where
  case : (f : ℕ) → (list_any (is_push_of f) dirty ≡ true) ⊎ (push_passes (is_push_of f) push ≡ true)
      → is_clean_in f (with_write file block number body dirty o) push ≡ false
  case f (inl some) = writes-in-list f _ push (any-written f file block number body dirty o some)
  case f (inr some) = writes-under-way f _ push some

-- delayed writes are taken from the list and sent
pub pushes : {notices : List Notice} {dirty : List Push} (ticket : Ticket) (p : Push) → ticket.job ≡ pushing → push_in ticket.request ≡ Some p
    → Delaying true None notices dirty None → Delaying true (Some ticket) notices (drop_dirty p.file p.block dirty) (Some p)
pushes {dirty = dirty} ticket p job is h = record {
  noticed = λ f n e. case f (p.file == f) refl (has-writes f dirty None (h.noticed f n e));
  under_way = λ q e. record { request = ticket; asks = refl; job = job; pushes = is ∙ e };
  empty = λ e. absurd (cc);
} where
  case : (f : ℕ) (b : Bool) → (p.file == f) ≡ b → (list_any (is_push_of f) dirty ≡ true) ⊎ (false ≡ true)
      → is_clean_in f (drop_dirty p.file p.block dirty) (Some p) ≡ false
  case f true e some = writes-under-way f (drop_dirty p.file p.block dirty) (Some p) e
  case f false e (inl some) = writes-in-list f _ (Some p) (any-dropped f p.file p.block dirty (is-other p.file f e) ∙ some)
  case f false e (inr bad) = absurd (cc)

-- a request that is no push is under way from now on, or none
pub asks : {notices : List Notice} {dirty : List Push} {ticket : Option Ticket} → Delaying true None notices dirty None
    → Delaying true ticket notices dirty None
asks h = record { noticed = h.noticed; under_way = λ p e. none-some p e; empty = λ e. absurd (cc) }

-- no push is under way where no request is, or one that is no push
pub no-push : {attached : Bool} {ticket : Option Ticket} {notices : List Notice} {dirty : List Push} (push : Option Push)
    → Delaying attached ticket notices dirty push → ((t : Ticket) → ticket ≡ Some t → t.job ≡ pushing → ⊥) → push ≡ None
no-push None h other = refl
no-push (Some p) h other = let k = h.under_way p refl in absurd (other k.request k.asks k.job)

-- a notice is dropped
pub drops-notice : {attached : Bool} {ticket : Option Ticket} {notices : List Notice} {dirty : List Push} {push : Option Push} (file : ℕ)
    → Delaying attached ticket notices dirty push → Delaying attached ticket (drop_notice file notices) dirty push
drops-notice {notices = notices} file h =
    record { noticed = λ f n e. h.noticed f n (notice-before-drop file f notices n e).1; under_way = h.under_way; empty = h.empty }

-- a notice waits for a file that is not clean
pub notes : {attached : Bool} {ticket : Option Ticket} {notices : List Notice} {dirty : List Push} {push : Option Push} (n : Notice)
    → is_clean_in n.file dirty push ≡ false → Delaying attached ticket notices dirty push → Delaying attached ticket (put_notice n notices) dirty push
notes {notices = notices} {dirty = dirty} {push = push} n unclean h =
    record { noticed = λ f m e. case f m (notice-after-put n f notices m e); under_way = h.under_way; empty = h.empty }
  where
    case : (f : ℕ) (m : Notice) → ((f ≡ n.file) × (m ≡ n)) ⊎ ((f ≢ n.file) × (notice_on f notices ≡ Some m)) → is_clean_in f dirty push ≡ false
    case f m (inl p) = subst (λ g. is_clean_in g dirty push ≡ false) (sym p.0) unclean
    case f m (inr p) = h.noticed f m p.1

-- all delayed writes of a file are lost, and its notice is answered
other-push-passes : (file f : ℕ) (push : Option Push) → f ≢ file → push_passes (is_push_of f) push ≡ true
    → push_passes (is_push_of f) (other_push file push) ≡ true
other-push-passes file f None apart h = cc
other-push-passes file f (Some p) apart h = step (is_push_of file p) refl
  where
    step : (b : Bool) → is_push_of file p ≡ b → push_passes (is_push_of f) (if b then None else Some p) ≡ true
    step true e = absurd (apart (sym (same-number p.file f h) ∙ same-number p.file file e))
    step false e = h

pub still-unclean : (file f : ℕ) (dirty : List Push) (push : Option Push) → f ≢ file → is_clean_in f dirty push ≡ false
    → is_clean_in f (other_dirty file dirty) (other_push file push) ≡ false
still-unclean file f dirty push apart h = case (has-writes f dirty push h)
  where
    case : (list_any (is_push_of f) dirty ≡ true) ⊎ (push_passes (is_push_of f) push ≡ true)
        → is_clean_in f (other_dirty file dirty) (other_push file push) ≡ false
    case (inl some) = writes-in-list f _ (other_push file push) (any-others f file dirty (λ g. apart (sym g)) ∙ some)
    case (inr some) = writes-under-way f (other_dirty file dirty) _ (other-push-passes file f push apart some)

-- the push that is left is the one that was there
pub left-push : (file : ℕ) (push : Option Push) (p : Push) → other_push file push ≡ Some p → push ≡ Some p
left-push file None p h = none-some p h
left-push file (Some q) p h = step (is_push_of file q) h
  where
    step : (b : Bool) → (if b then None else Some q) ≡ Some p → Some q ≡ Some p
    step true e = none-some p e
    step false e = e

pub loses : {attached : Bool} {ticket : Option Ticket} {notices : List Notice} {dirty : List Push} {push : Option Push} (file : ℕ)
    → Delaying attached ticket notices dirty push → Delaying attached ticket (drop_notice file notices) (other_dirty file dirty) (other_push file push)
loses {notices = notices} {dirty = dirty} {push = push} file h = record {
  noticed = λ f n e. let before = notice-before-drop file f notices n e in still-unclean file f dirty push before.0 (h.noticed f n before.1);
  under_way = λ p e. h.under_way p (left-push file push p e);
  empty = λ e. ap (other_dirty file) (h.empty e);
}

-- all delayed writes are lost of a file for which no notice waits
pub loses-unnoticed : {attached : Bool} {ticket : Option Ticket} {notices : List Notice} {dirty : List Push} {push : Option Push} (file : ℕ)
    → notice_on file notices ≡ None → Delaying attached ticket notices dirty push
    → Delaying attached ticket notices (other_dirty file dirty) (other_push file push)
loses-unnoticed {notices = notices} {dirty = dirty} {push = push} file none h = record {
  noticed = λ f n e. still-unclean file f dirty push (λ same. none-some n (sym none ∙ subst (λ g. notice_on g notices ≡ Some n) same e)) (h.noticed f n e);
  under_way = λ p e. h.under_way p (left-push file push p e);
  empty = λ e. ap (other_dirty file) (h.empty e);
}
