-- After each step a client that has an open call and does not pause has a request under way.
use Rattle.std.proofs.Common.{◌≡◌, ◌≤◌, ◌<◌, ◌⊎◌, ℕ, ◌||◌, ◌&&◌, not, Bool, true, false, List, [], ◌∷◌, Option, Some, None, is_some, nat_le}
use Rattle.std.proofs.Common.{if◌then◌else◌, refl, sym, ap, subst, ◌∙◌, arith, inl, inr}
use Rattle.std.specs.List.{find, list_any}
use Rattle.nq_base.specs.declared.Call.{Call}
use Rattle.nq_base.specs.declared.Mode.{Mode}
use Rattle.nq_base.specs.declared.Push.{Push}
use Rattle.nq_base.specs.declared.Request.{Request}
use Rattle.nq_model.specs.protocol.Client.{ClientStep, Job, UnderWay, lease_on, first_dirty, is_push_of, is_clean_in, is_clean}
use Rattle.nq_model.specs.protocol.Send.{sends_request, after_seq, gives_up, want_of, pushes_these, pushes, noticed_file, sends_write, next_write, next_put}
use Rattle.nq_model.specs.protocol.Send.{next_change, asks, next_of_call, next_of_under_way, is_asking, then_renews, then_calls, pushes_due, then_pushes}
use Rattle.nq_model.specs.protocol.Send.{then_ending, send_next, ending_file, shares_live}
use Rattle.nq_model.specs.protocol.Settle.{ticket_is_for_call}
use Rattle.walk_steps.proofs.ClientFacts.{DelayingOf}
use Rattle.walk_steps.proofs.ClientMoves.{some-same, none-some}
use Rattle.walk_steps.proofs.SettleCases.{IsSettling, Settled, IsSync, of_sync, of_put}
use Rattle.walk_steps.proofs.Rows.{choice}
use Rattle.walk_steps.proofs.Tests.{is-not-at-most, none-there}

-- a call is under way, and then a request, or a pause
abbrev pub Busy : ClientStep → Type 0
Busy t = (u : UnderWay) → t.client.call ≡ Some u → (is_some t.client.ticket ≡ true) ⊎ (t.client.now < t.client.pause)

pub any-found : {A : Type 0} (p : A → Bool) (xs : List A) → list_any p xs ≡ true → find p xs ≡ None → ⊥
any-found p [] any none = let bad : false ≡ true = any in cc
any-found p (x ∷ xs) any none = by (p x) (λ a n. any-found p xs a n) any none
  where
    by : (b : Bool) → (list_any p xs ≡ true → find p xs ≡ None → ⊥) → (b || list_any p xs) ≡ true → (if b then Some x else find p xs) ≡ None → ⊥
    by true rest any none = let bad : Some x ≡ None = none in cc
    by false rest any none = rest any none

-- a file that is not clean has delayed writes in the list, where none is under way
pub dirty-listed : (file : ℕ) (dirty : List Push) (push : Option Push) → push ≡ None → is_clean_in file dirty push ≡ false
    → list_any (is_push_of file) dirty ≡ true
dirty-listed file dirty push none unclean = by (list_any (is_push_of file) dirty) refl (subst (λ o. is_clean_in file dirty o ≡ false) none unclean)
  where
    by : (b : Bool) → list_any (is_push_of file) dirty ≡ b → (not b && true) ≡ false → b ≡ true
    by true e h = refl
    by false e h = let bad : true ≡ false = h in absurd (cc)

sent : (t : ClientStep) (job : Job) (request : Request) → is_asking (sends_request t job request) ≡ true
unfolding sends_request
sent t job request = refl

pushed : (t : ClientStep) (file : ℕ) → list_any (is_push_of file) t.client.dirty ≡ true → is_asking (pushes t file) ≡ true
pushed t file any = by (first_dirty file t.client.dirty) refl
  where
    by : (o : Option Push) → first_dirty file t.client.dirty ≡ o → is_asking (pushes_these t o) ≡ true
    by None e = absurd (any-found (is_push_of file) t.client.dirty any e)
    by (Some p) e = sent _ _ _

-- where nothing is under way, and all is settled, the call sends its next request
module _ (t : ClientStep) (u : UnderWay) (called : t.client.call ≡ Some u) (free : t.client.ticket ≡ None) (settled : Settled t)
    (delaying : DelayingOf t.client) where
  settling : IsSettling t u
  settling = record { called = called; idle = ap ticket_is_for_call free }

  no-push : t.client.push ≡ None
  no-push = by t.client.push refl
    where
      by : (o : Option Push) → t.client.push ≡ o → o ≡ None
      by None e = refl
      by (Some p) e = let k = delaying.under_way p e in none-some k.request (sym free ∙ k.asks)

  synced : (file : ℕ) → IsSync u file → is_asking (pushes t file) ≡ true
  synced file is = pushed t file (dirty-listed file t.client.dirty t.client.push no-push (settled.syncs u file settling is))

  changed : (file : ℕ) (request : Request) → is_asking (next_change t true file request) ≡ true
  changed file request =
      choice (λ s. is_asking s ≡ true) (is_clean t.client file) (sends_request (after_seq (gives_up t file)) Job.for_call request) (pushes t file)
      (λ e. sent _ _ _)
      (λ e. pushed t file (dirty-listed file t.client.dirty t.client.push no-push e))

  written : (file block : ℕ) (body : List ℕ) → is_asking (next_write t u file block body) ≡ true
  unfolding sends_request
  written file block body =
      choice (λ s. is_asking s ≡ true) (u.through || shares_live t.client.now (lease_on file t.client.leases)) (sends_write t file block body)
      (sends_request t Job.for_call (Request.GetLease t.client.who file (want_of t.client Mode.Writing)))
      (λ e. refl)
      (λ e. refl)

  put : (file block : ℕ) (body : List ℕ) → u.call ≡ Call.Put file block body → (b : Bool) → u.written ≡ b
      → is_asking (next_put t b true file block body) ≡ true
  unfolding sends_request
  put file block body is true e = synced file (of_put block body is e)
  put file block body is false e = refl

  goes : (op : Call) → u.call ≡ op → is_asking (next_of_call t u true op) ≡ true
  unfolding sends_request
  goes (Call.Create name blocks) is = refl
  goes (Call.Lookup name) is = refl
  goes (Call.Attr file) is = refl
  goes (Call.Read file block) is = refl
  goes (Call.Fetch file block) is = refl
  goes (Call.Write file block body) is = written file block body
  goes (Call.Put file block body) is = put file block body is u.written refl
  goes (Call.Sync file) is = synced file (of_sync is)
  goes (Call.Resize file blocks) is = changed file (Request.Resize t.client.who t.client.seq u.q file blocks)
  goes (Call.Remove file) is = changed file (Request.Remove t.client.who t.client.seq u.q file)

  calls : t.client.pause ≤ t.client.now → is_asking (next_of_under_way t (nat_le t.client.pause t.client.now) t.client.call) ≡ true
  calls unpaused = by (nat_le t.client.pause t.client.now) refl t.client.call called
    where
      by : (b : Bool) → nat_le t.client.pause t.client.now ≡ b → (o : Option UnderWay) → o ≡ Some u → is_asking (next_of_under_way t b o) ≡ true
      by b e None is = none-some u is
      by true e (Some v) is = subst (λ w. is_asking (next_of_call t w true w.call) ≡ true) (sym (some-same v u is)) (goes u.call refl)
      by false e (Some v) is = let late = is-not-at-most t.client.pause t.client.now e in absurd (omega arith)

-- ---- nothing is taken back

pub keeps-renewing : (in_tick : Bool) (t : ClientStep) → is_asking t ≡ true → is_asking (then_renews in_tick t) ≡ true
keeps-renewing false t e = e
keeps-renewing true t e = let same : then_renews true t ≡ t = rw e refl in ap is_asking same ∙ e

keeps-calling : (t : ClientStep) → is_asking t ≡ true → is_asking (then_calls t) ≡ true
keeps-calling t e = let same : then_calls t ≡ t = rw e refl in ap is_asking same ∙ e

keeps-pushing : (t : ClientStep) (o : Option ℕ) → is_asking t ≡ true → is_asking (then_pushes t o) ≡ true
keeps-pushing t o e = let same : then_pushes t o ≡ t = rw e refl in ap is_asking same ∙ e

-- a push that is due is sent, or nothing happens
pushes-or-stays : (t : ClientStep) (o : Option ℕ) → (is_asking (then_pushes t o) ≡ true) ⊎ (then_pushes t o ≡ t)
pushes-or-stays t o = choice (λ s. (is_asking s ≡ true) ⊎ (s ≡ t)) (is_asking t) t (pushes_due t o) (λ e. inr refl) (λ e. due o)
  where
    these : (q : Option Push) → (is_asking (pushes_these t q) ≡ true) ⊎ (pushes_these t q ≡ t)
    these None = inr refl
    these (Some p) = inl (sent _ _ _)

    due : (q : Option ℕ) → (is_asking (pushes_due t q) ≡ true) ⊎ (pushes_due t q ≡ t)
    due None = inr refl
    due (Some file) = these (first_dirty file t.client.dirty)

module _ (in_tick : Bool) (t : ClientStep) (u : UnderWay) (called : t.client.call ≡ Some u) (unpaused : t.client.pause ≤ t.client.now)
    (settled : Settled t) (delaying : DelayingOf t.client) where
  then-called : is_asking (then_calls t) ≡ true
  then-called =
      choice (λ s. is_asking s ≡ true) (is_asking t) t (next_of_under_way t (nat_le t.client.pause t.client.now) t.client.call)
      (λ e. e)
      (λ e. calls t u called (none-there t.client.ticket e) settled delaying unpaused)

  ended : (s : ClientStep) → (is_asking s ≡ true) ⊎ (s ≡ t) → is_asking (then_calls s) ≡ true
  ended s (inl asks) = keeps-calling s asks
  ended s (inr same) = subst (λ x. is_asking (then_calls x) ≡ true) (sym same) then-called

  either : (s : ClientStep) (o : Option ℕ) → (is_asking s ≡ true) ⊎ (s ≡ t) → (is_asking (then_pushes s o) ≡ true) ⊎ (then_pushes s o ≡ t)
  either s o (inl asks) = inl (keeps-pushing s o asks)
  either s o (inr same) = subst (λ x. (is_asking (then_pushes x o) ≡ true) ⊎ (then_pushes x o ≡ t)) (sym same) (pushes-or-stays t o)

  pub asks-next : is_asking (send_next in_tick t) ≡ true
  asks-next =
      let noticed = then_pushes t (noticed_file t.client) in
      let first = either t (noticed_file t.client) (inr refl) in
      let second = either noticed (ending_file noticed.client) first in
      keeps-renewing in_tick (then_calls (then_ending noticed)) (ended (then_ending noticed) second)
