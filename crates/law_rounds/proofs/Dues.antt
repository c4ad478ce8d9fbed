-- A client that has no request under way has nothing to push: no notice waits, and no lease over delayed writes is about to end.
use Rattle.std.proofs.Common.{◌≡◌, ◌≢◌, ◌<◌, ◌⊎◌, ℕ, ◌+◌, ◌==◌, ◌&&◌, ◌||◌, not, nat_le, nat_lt, Bool, true, false, List, [], ◌∷◌, Option, Some, None}
use Rattle.std.proofs.Common.{is_some, if◌then◌else◌, refl, sym, ap, subst, ◌∙◌, arith, inl, inr}
use Rattle.std.specs.List.{find, list_any}
use Rattle.std.specs.Prelude.{map, filter, slice_get, slice_set}
use Rattle.std.proofs.lemmas.Bool.{and_from, and_parts}
use Rattle.nq_base.specs.declared.Call.{Call}
use Rattle.nq_base.specs.declared.Event.{Event}
use Rattle.nq_base.specs.declared.Push.{Push}
use Rattle.nq_base.specs.declared.Request.{Request}
use Rattle.nq_model.specs.protocol.Client.{UnderWay, Client, ClientStep, Job, Lease, Notice, begun, lease_on, notice_on, file_of_lease, file_of_notice}
use Rattle.nq_model.specs.protocol.Client.{first_dirty, is_push_of, is_clean_in, used_lease}
use Rattle.nq_model.specs.protocol.ClientStep.{begins_call, is_called, says_busy, client_call, at_time, sends_again, client_tick, attached_client, starts}
use Rattle.nq_model.specs.protocol.ClientStep.{fresh_client, restart}
use Rattle.nq_model.specs.protocol.Hear.{hear, replied, cancels, evicted}
use Rattle.nq_model.specs.protocol.Message.{Message}
use Rattle.nq_model.specs.protocol.Profile.{renewal}
use Rattle.nq_model.specs.protocol.Send.{next_put, next_of_call, next_of_under_way, send_next, is_asking, sends_request, pushes, pushes_these, least_with}
use Rattle.nq_model.specs.protocol.Send.{least, noticed_file, noticed_in, is_to_push_in, ending_in, ending_file, then_calls, then_pushes, then_ending}
use Rattle.nq_model.specs.protocol.Send.{pushes_due}
use Rattle.nq_model.specs.protocol.Settle.{ticket_is_for_call, answers, after_read, reads_cached, after_write, marks_written, settle}
use Rattle.nq_model.specs.protocol.Table.{is_writing}
use Rattle.nq_model.specs.protocol.World.{Head, World, after_server, after_client, start, run}
use Rattle.nq_model.proofs.ClientLists.{marked-before, marked-mode, marked-expiry}
use Rattle.walk_steps.proofs.ClientFacts.{Alone, DelayingOf}
use Rattle.walk_steps.proofs.ClientMoves.{some-same, none-some}
use Rattle.walk_steps.proofs.SendCases.{send-moves}
use Rattle.walk_steps.proofs.SettleCases.{settle-cases, settle-settles, Settled, IsSync, of_sync, of_put}
use Rattle.walk_steps.proofs.StepCases.{call-cases, unless-cached-cases, tick-cases, heard-cases}
use Rattle.walk_steps.proofs.Packets.{In}
use Rattle.walk_steps.proofs.Steps.{Changes, nothing, by_client, by_server, ClientActs, called, ticked, restarted, heard, step-changes}
use Rattle.walk_steps.proofs.Worlds.{Holds, run-holds, get-set-same, get-set-other, set-there, first-client}
use Rattle.walk_steps.proofs.Rows.{choice, same-number, number-same, find-passes}
use Rattle.walk_steps.proofs.Tests.{is-not-at-most}
use Rattle.law_rounds.proofs.Busy.{keeps-renewing}

-- nothing is due
pub record NoneDue (c : Client) : Type 0 where
  pub noticed : (file : ℕ) (n : Notice) → notice_on file c.notices ≡ Some n → ⊥
  pub ending : (file : ℕ) (l : Lease) → lease_on file c.leases ≡ Some l → is_writing l.mode ≡ true → is_clean_in file c.dirty c.push ≡ false
      → c.now + renewal < l.expiry

-- no sync waits, nor a put whose write was delayed
abbrev pub NoneSyncs : Client → Type 0
NoneSyncs c = (u : UnderWay) (file : ℕ) → c.call ≡ Some u → IsSync u file → ⊥

abbrev pub DueOnce : Client → Type 0
DueOnce c = c.ticket ≡ None → NoneDue c × NoneSyncs c

-- ---- lists

found-in : {A : Type 0} (p : A → Bool) (xs : List A) (x : A) → find p xs ≡ Some x → In xs x
found-in p [] x is = none-some x is
found-in p (y ∷ xs) x is = by (p y) (found-in p xs x) is
  where
    by : (b : Bool) → (find p xs ≡ Some x → In xs x) → (if b then Some y else find p xs) ≡ Some x → In (y ∷ xs) x
    by true rest e = inl (some-same y x e)
    by false rest e = inr (rest e)

in-found : {A : Type 0} (p : A → Bool) (xs : List A) (x : A) → In xs x → p x ≡ true → (y : A) × (find p xs ≡ Some y)
in-found p [] x i e = absurd i
in-found {A = A} p (y ∷ xs) x i e = by (λ j. in-found p xs x j e) (p y) refl i
  where
    by : (In xs x → (z : A) × (find p xs ≡ Some z)) → (b : Bool) → p y ≡ b → (y ≡ x) ⊎ In xs x → (z : A) × ((if b then Some y else find p xs) ≡ Some z)
    by rest true is j = (y, refl)
    by rest false is (inl same) = let yes : p y ≡ true = ap p same ∙ e in absurd (cc)
    by rest false is (inr j) = rest j

in-filtered : {A : Type 0} (p : A → Bool) (xs : List A) (x : A) → In xs x → p x ≡ true → In (filter p xs) x
in-filtered p [] x i e = absurd i
in-filtered p (y ∷ xs) x i e = by (λ j. in-filtered p xs x j e) (p y) refl i
  where
    by : (In xs x → In (filter p xs) x) → (b : Bool) → p y ≡ b → (y ≡ x) ⊎ In xs x → In (if b then y ∷ filter p xs else filter p xs) x
    by rest true is (inl same) = inl same
    by rest true is (inr j) = inr (rest j)
    by rest false is (inl same) = let yes : p y ≡ true = ap p same ∙ e in absurd (cc)
    by rest false is (inr j) = rest j

filtered-in : {A : Type 0} (p : A → Bool) (xs : List A) (x : A) → In (filter p xs) x → In xs x × (p x ≡ true)
filtered-in p [] x i = absurd i
filtered-in p (y ∷ xs) x i = by (λ j. filtered-in p xs x j) (p y) refl i
  where
    later : In xs x × (p x ≡ true) → In (y ∷ xs) x × (p x ≡ true)
    later (j, e) = (inr j, e)

    by : (In (filter p xs) x → In xs x × (p x ≡ true)) → (b : Bool) → p y ≡ b → In (if b then y ∷ filter p xs else filter p xs) x → In (y ∷ xs) x
        × (p x ≡ true)
    by rest true is (inl same) = (inl same, ap p (sym same) ∙ is)
    by rest true is (inr j) = later (rest j)
    by rest false is j = later (rest j)

mapped-in : {A B : Type 0} (f : A → B) (xs : List A) (y : B) → In (map f xs) y → (x : A) × In xs x × (f x ≡ y)
mapped-in f [] y i = absurd i
mapped-in f (x ∷ xs) y (inl e) = (x, inl refl, e)
mapped-in f (x ∷ xs) y (inr i) = let r = mapped-in f xs y i in (r.0, inr r.1, r.2)

in-mapped : {A B : Type 0} (f : A → B) (xs : List A) (x : A) → In xs x → In (map f xs) (f x)
in-mapped f [] x i = absurd i
in-mapped f (y ∷ xs) x (inl e) = inl (ap f e)
in-mapped f (y ∷ xs) x (inr i) = inr (in-mapped f xs x i)

-- the least of some numbers is one of them
least-is : (xs : List ℕ) (x : ℕ) → In xs x → (y : ℕ) × (least xs ≡ Some y)
least-is [] x i = absurd i
least-is (n ∷ ns) x i = by (least ns)
  where
    by : (o : Option ℕ) → (y : ℕ) × (least_with n o ≡ Some y)
    by None = (n, refl)
    by (Some m) = (if nat_lt m n then m else n, refl)

least-in : (xs : List ℕ) (y : ℕ) → least xs ≡ Some y → In xs y
least-in [] y is = none-some y is
least-in (n ∷ ns) y is = by (λ m of. least-in ns m of) (least ns) refl is
  where
    lesser : ((m : ℕ) → least ns ≡ Some m → In ns m) → (b : Bool) (m : ℕ) → least ns ≡ Some m → (if b then m else n) ≡ y → In (n ∷ ns) y
    lesser rest true m of e = inr (subst (In ns) e (rest m of))
    lesser rest false m of e = inl e

    by : ((m : ℕ) → least ns ≡ Some m → In ns m) → (o : Option ℕ) → least ns ≡ o → least_with n o ≡ Some y → In (n ∷ ns) y
    by rest None of e = inl (some-same n y e)
    by rest (Some m) of e = lesser rest (nat_lt m n) m of (some-same (if nat_lt m n then m else n) y e)

-- ---- a push that is due is sent

any-there : {A : Type 0} (p : A → Bool) (xs : List A) → list_any p xs ≡ true → find p xs ≡ None → ⊥
any-there p [] any none = let bad : false ≡ true = any in cc
any-there p (x ∷ xs) any none = by (p x) (λ a n. any-there p xs a n) any none
  where
    by : (b : Bool) → (list_any p xs ≡ true → find p xs ≡ None → ⊥) → (b || list_any p xs) ≡ true → (if b then Some x else find p xs) ≡ None → ⊥
    by true rest any none = let bad : Some x ≡ None = none in cc
    by false rest any none = rest any none

in-list : (file : ℕ) (dirty : List Push) (push : Option Push) → push ≡ None → is_clean_in file dirty push ≡ false → list_any (is_push_of file) dirty ≡ true
in-list file dirty push none unclean = by (list_any (is_push_of file) dirty) refl (subst (λ o. is_clean_in file dirty o ≡ false) none unclean)
  where
    by : (b : Bool) → list_any (is_push_of file) dirty ≡ b → (not b && true) ≡ false → b ≡ true
    by true e h = refl
    by false e h = let bad : true ≡ false = h in absurd (cc)

sent-one : (t : ClientStep) (job : Job) (request : Request) → is_asking (sends_request t job request) ≡ true
unfolding sends_request
sent-one t job request = refl

pushed-file : (t : ClientStep) (file : ℕ) → list_any (is_push_of file) t.client.dirty ≡ true → is_asking (pushes t file) ≡ true
pushed-file t file any = by (first_dirty file t.client.dirty) refl
  where
    by : (o : Option Push) → first_dirty file t.client.dirty ≡ o → is_asking (pushes_these t o) ≡ true
    by None e = absurd (any-there (is_push_of file) t.client.dirty any e)
    by (Some p) e = sent-one _ _ _

keeps-calling : (t : ClientStep) → is_asking t ≡ true → is_asking (then_calls t) ≡ true
keeps-calling t e = let same : then_calls t ≡ t = rw e refl in ap is_asking same ∙ e

keeps-pushing : (t : ClientStep) (o : Option ℕ) → is_asking t ≡ true → is_asking (then_pushes t o) ≡ true
keeps-pushing t o e = let same : then_pushes t o ≡ t = rw e refl in ap is_asking same ∙ e

module _ (t : ClientStep) (free : t.client.ticket ≡ None) (delaying : DelayingOf t.client) where
  no-push : t.client.push ≡ None
  no-push = by t.client.push refl
    where
      by : (o : Option Push) → t.client.push ≡ o → o ≡ None
      by None e = refl
      by (Some p) e = let k = delaying.under_way p e in none-some k.request (sym free ∙ k.asks)

  -- a file that is not clean is pushed
  pushes-it : (file : ℕ) → is_clean_in file t.client.dirty t.client.push ≡ false → is_asking (then_pushes t (Some file)) ≡ true
  pushes-it file unclean =
      choice (λ s. is_asking s ≡ true) (is_asking t) t (pushes_due t (Some file))
      (λ e. e)
      (λ e. pushed-file t file (in-list file t.client.dirty t.client.push no-push unclean))

  noticed-unclean : (file : ℕ) → noticed_in t.client.notices ≡ Some file → is_clean_in file t.client.dirty t.client.push ≡ false
  noticed-unclean file is =
      let r = mapped-in file_of_notice t.client.notices file (least-in (map file_of_notice t.client.notices) file is) in
      let n = in-found (λ (n : Notice). n.file == file) t.client.notices r.0 r.1 (number-same r.0.file file r.2) in
      delaying.noticed file n.0 n.1

  ending-unclean : (file : ℕ) → ending_in t.client.now t.client.leases t.client.dirty t.client.push ≡ Some file → is_clean_in file t.client.dirty
      t.client.push ≡ false
  ending-unclean file is =
      let p = is_to_push_in t.client.now t.client.dirty t.client.push in
      let r = mapped-in file_of_lease (filter p t.client.leases) file (least-in (map file_of_lease (filter p t.client.leases)) file is) in
      let f = filtered-in p t.client.leases r.0 r.1 in
      let a = and_parts _ _ f.1 in
      let b = and_parts _ _ a.0 in
      ap (λ g. is_clean_in g t.client.dirty t.client.push) (sym r.2) ∙ not-false (is_clean_in r.0.file t.client.dirty t.client.push) b.1
    where
      not-false : (b : Bool) → not b ≡ true → b ≡ false
      not-false true e = let bad : false ≡ true = e in absurd (cc)
      not-false false e = refl

  asks-noticed : (in_tick : Bool) (file : ℕ) → noticed_file t.client ≡ Some file → is_asking (send_next in_tick t) ≡ true
  asks-noticed in_tick file is =
      let noticed = then_pushes t (noticed_file t.client) in
      let first : is_asking (then_pushes t (noticed_file t.client)) ≡ true = ap (λ o. is_asking (then_pushes t o)) is
      ∙ pushes-it file (noticed-unclean file is) in
      keeps-renewing in_tick (then_calls (then_ending noticed)) (keeps-calling (then_ending noticed)
      (keeps-pushing noticed (ending_file noticed.client) first))

  asks-ending : (in_tick : Bool) (file : ℕ) → noticed_file t.client ≡ None → ending_file t.client ≡ Some file → is_asking (send_next in_tick t) ≡ true
  asks-ending in_tick file none is =
      let noticed = then_pushes t (noticed_file t.client) in
      let same : then_pushes t (noticed_file t.client) ≡ t = ap (then_pushes t) none ∙ stays in
      let first : is_asking (then_ending t) ≡ true = ap (λ o. is_asking (then_pushes t o)) is ∙ pushes-it file (ending-unclean file is) in
      let ended : is_asking (then_ending noticed) ≡ true = ap (λ s. is_asking (then_ending s)) same ∙ first in
      keeps-renewing in_tick (then_calls (then_ending noticed)) (keeps-calling (then_ending noticed) ended)
    where
      stays : then_pushes t None ≡ t
      stays = choice (λ s. s ≡ t) (is_asking t) t t (λ e. refl) (λ e. refl)

  asks-sync : (in_tick : Bool) (u : UnderWay) (file : ℕ) → t.client.call ≡ Some u → IsSync u file → is_clean_in file t.client.dirty t.client.push
      ≡ false → noticed_file t.client ≡ None → ending_file t.client ≡ None → is_asking (send_next in_tick t) ≡ true
  asks-sync in_tick u file has_call is unclean no_notice no_end =
      let noticed = then_pushes t (noticed_file t.client) in
      let same : then_pushes t (noticed_file t.client) ≡ t = ap (then_pushes t) no_notice ∙ stays in
      let ended : then_ending noticed ≡ t = ap (λ s. then_ending s) same ∙ ap (then_pushes t) no_end ∙ stays in
      let calls : is_asking (then_calls (then_ending noticed)) ≡ true = ap (λ s. is_asking (then_calls s)) ended ∙ asks-call in
      keeps-renewing in_tick (then_calls (then_ending noticed)) calls
    where
      stays : then_pushes t None ≡ t
      stays = choice (λ s. s ≡ t) (is_asking t) t t (λ e. refl) (λ e. refl)

      pushes-file : is_asking (pushes t file) ≡ true
      pushes-file = pushed-file t file (in-list file t.client.dirty t.client.push no-push unclean)

      put : (b may : Bool) (block : ℕ) (body : List ℕ) → b ≡ true → is_asking (next_put t b may file block body) ≡ true
      put true may block body e = pushes-file
      put false may block body e = absurd (cc)

      of-call : (may : Bool) → IsSync u file → is_asking (next_of_call t u may u.call) ≡ true
      of-call may (of_sync is) = ap (λ op. is_asking (next_of_call t u may op)) is ∙ pushes-file
      of-call may (of_put block body is written) = ap (λ op. is_asking (next_of_call t u may op)) is ∙ put u.written may block body written

      asks-call : is_asking (then_calls t) ≡ true
      asks-call = choice (λ s. is_asking s ≡ true) (is_asking t) t (next_of_under_way t (nat_le t.client.pause t.client.now) t.client.call)
          (λ e. e)
          (λ e. ap (λ o. is_asking (next_of_under_way t (nat_le t.client.pause t.client.now) o)) has_call ∙ of-call (nat_le t.client.pause t.client.now) is)

  none-syncs : (in_tick : Bool) → Settled t → is_asking (send_next in_tick t) ≡ false → NoneSyncs t.client
  none-syncs in_tick settled quiet u file has_call is = by (noticed_in t.client.notices) refl (ending_in t.client.now t.client.leases t.client.dirty
      t.client.push) refl
    where
      unclean : is_clean_in file t.client.dirty t.client.push ≡ false
      unclean = settled.syncs u file (record { called = has_call; idle = ap ticket_is_for_call free }) is

      by : (o : Option ℕ) → noticed_in t.client.notices ≡ o → (q : Option ℕ) → ending_in t.client.now t.client.leases t.client.dirty t.client.push ≡ q → ⊥
      by (Some g) of q end = let asks = asks-noticed in_tick g of in absurd (cc)
      by None of (Some g) end = let asks = asks-ending in_tick g of end in absurd (cc)
      by None of None end = let asks = asks-sync in_tick u file has_call is unclean of end in absurd (cc)

  -- where nothing is sent, nothing was due
  none-due : (in_tick : Bool) → is_asking (send_next in_tick t) ≡ false → NoneDue t.client
  none-due in_tick quiet = record {
    noticed = no-notice (noticed_in t.client.notices) refl;
    ending = soon (ending_in t.client.now t.client.leases
        t.client.dirty t.client.push) refl;
  }
    where
      no-notice : (o : Option ℕ) → noticed_in t.client.notices ≡ o → (file : ℕ) (n : Notice) → notice_on file t.client.notices ≡ Some n → ⊥
      no-notice None is file n on = let l = least-is (map file_of_notice t.client.notices) (file_of_notice n)
          (in-mapped file_of_notice t.client.notices n (found-in (λ (x : Notice). x.file == file) t.client.notices n on)) in none-some l.0 (sym is ∙ l.1)
      no-notice (Some g) is file n on = let asks = asks-noticed in_tick g is in absurd (cc)

      soon : (o : Option ℕ) → ending_in t.client.now t.client.leases t.client.dirty t.client.push ≡ o → (file : ℕ) (l : Lease)
          → lease_on file t.client.leases ≡ Some l → is_writing l.mode ≡ true → is_clean_in file t.client.dirty t.client.push ≡ false → t.client.now
          + renewal < l.expiry
      soon None is file l on writes unclean = late (nat_le l.expiry (t.client.now + renewal)) refl
        where
          of : l.file ≡ file
          of = same-number l.file file (find-passes (λ (x : Lease). x.file == file) l t.client.leases on)

          late : (b : Bool) → nat_le l.expiry (t.client.now + renewal) ≡ b → t.client.now + renewal < l.expiry
          late false e = is-not-at-most l.expiry (t.client.now + renewal) e
          late true e =
              let p = is_to_push_in t.client.now t.client.dirty t.client.push in
              let here : is_clean_in l.file t.client.dirty t.client.push ≡ false = ap (λ g. is_clean_in g t.client.dirty t.client.push) of ∙ unclean in
              let due : is_to_push_in t.client.now t.client.dirty t.client.push l ≡ true = and_from _ _ (and_from _ _ writes (ap not here)) e in
              let r = least-is (map file_of_lease (filter p t.client.leases)) (file_of_lease l) (in-mapped file_of_lease (filter p t.client.leases) l
              (in-filtered p t.client.leases l (found-in (λ (x : Lease). x.file == file) t.client.leases l on) due)) in
              none-some r.0 (sym is ∙ r.1)
      soon (Some g) is file l on writes unclean = by (noticed_in t.client.notices) refl
        where
          by : (q : Option ℕ) → noticed_in t.client.notices ≡ q → t.client.now + renewal < l.expiry
          by (Some h) of = let asks = asks-noticed in_tick h of in absurd (cc)
          by None of = let asks = asks-ending in_tick g of is in absurd (cc)

-- ---- each step

pub sent-or-same : (in_tick : Bool) (t : ClientStep) → (is_asking (send_next in_tick t) ≡ true) ⊎ (send_next in_tick t ≡ t)
unfolding sends_request
sent-or-same in_tick t = send-moves in_tick t (λ v. (is_asking v ≡ true) ⊎ (v ≡ t)) (record {
  kept = inr refl;
  pushes = λ file p first. inl refl;
  asks = λ job request. inl refl;
  decides = λ request. inl refl;
  writes = λ file block body. inl refl;
  changes = λ file request. inl refl;
})

free-asks-not : (t : ClientStep) → t.client.ticket ≡ None → is_asking t ≡ false
free-asks-not t free = ap is_some free

ends-quiet : (in_tick : Bool) (s : ClientStep) → Settled s → Alone (send_next in_tick s).client → DueOnce (send_next in_tick s).client
ends-quiet in_tick s settled alone free = by (sent-or-same in_tick s)
  where
    by : (is_asking (send_next in_tick s) ≡ true) ⊎ (send_next in_tick s ≡ s) → NoneDue (send_next in_tick s).client × NoneSyncs (send_next in_tick s).client
    by (inl asks) = let no = free-asks-not (send_next in_tick s) free in absurd (cc)
    by (inr same) =
        let was : s.client.ticket ≡ None = ap (λ (x : ClientStep). x.client.ticket) (sym same) ∙ free in
        let own : Alone s.client = subst (λ (x : ClientStep). Alone x.client) same alone in
        subst (λ (x : ClientStep). NoneDue x.client × NoneSyncs x.client) (sym same) (
          none-due s was own.delaying in_tick (free-asks-not (send_next in_tick s) free),
          none-syncs s was own.delaying in_tick settled
              (free-asks-not (send_next in_tick s) free),
        )

used-due : (c d : Client) (f : ℕ) → d.leases ≡ used_lease f c.leases → d.notices ≡ c.notices → d.dirty ≡ c.dirty → d.push ≡ c.push → d.now ≡ c.now
    → NoneDue c → NoneDue d
used-due c d f leases notices dirty push now n = record {
  noticed = λ file m on. n.noticed file m (ap (notice_on file) (sym notices) ∙ on);
  ending = λ file l on writes unclean.
      let m = marked-before file f c.leases l (ap (lease_on file) (sym leases) ∙ on) in
      let mode : is_writing m.before.mode ≡ true = ap is_writing (sym (marked-mode f m.before)) ∙ ap (λ (x : Lease). is_writing x.mode) (sym m.same)
      ∙ writes in
      let clean : is_clean_in file c.dirty c.push ≡ false = ap (λ ds. is_clean_in file ds c.push) (sym dirty) ∙ ap (is_clean_in file d.dirty)
      (sym push) ∙ unclean in
      let late = n.ending file m.before m.found mode clean in
      let same : l.expiry ≡ m.before.expiry = ap (λ (x : Lease). x.expiry) m.same ∙ marked-expiry f m.before in
      omega arith;
}

same-due : (c d : Client) → d.leases ≡ c.leases → d.notices ≡ c.notices → d.dirty ≡ c.dirty → d.push ≡ c.push → d.now ≡ c.now → NoneDue c → NoneDue d
same-due c d leases notices dirty push now n = record {
  noticed = λ file m on. n.noticed file m (ap (notice_on file) (sym notices) ∙ on);
  ending = λ file l on writes unclean.
      let clean : is_clean_in file c.dirty c.push ≡ false = ap (λ ds. is_clean_in file ds c.push) (sym dirty) ∙ ap (is_clean_in file d.dirty)
      (sym push) ∙ unclean in
      let late = n.ending file l (ap (lease_on file) (sym leases) ∙ on) writes clean in
      omega arith;
}

-- a read from the cache changes none of it
cached-due : (t : ClientStep) → t.cached ≡ false → (settle t).cached ≡ true → (t.client.ticket ≡ None → NoneDue t.client) → DueOnce (settle t).client
unfolding answers reads_cached after_read after_write marks_written
cached-due t none = settle-cases t (λ u. u.cached ≡ true → (t.client.ticket ≡ None → NoneDue t.client) → DueOnce u.client) (record {
  idle = λ idle e g. absurd (cc);
  asking = λ u is own e g. absurd (cc);
  read_out = λ u file block lease is read can out e g. absurd (cc);
  reading = λ u file block lease body is read can below has e g free. (
    used-due t.client _ file refl refl refl refl refl (g free),
    λ v f has_call is.
        none-some v has_call,
  );
  read_waits = λ u file block is read waits e g. absurd (cc);
  write_out = λ u sync file block body lease is write can out e g. absurd (cc);
  write_full = λ u sync file block body lease is write can below full e g. absurd (cc);
  writing = λ u file block body lease is write can below room e g. absurd (cc);
  putting = λ u file block body lease is put first can below room e g. absurd (cc);
  write_waits = λ u sync file block body is write waits e g. absurd (cc);
  syncing = λ u file is sync clean e g. absurd (cc);
  sync_waits = λ u file is sync dirty e g. absurd (cc);
  others = λ u is needs e g. absurd (cc);
})

call-due : (c : Client) (op : Call) → Alone (client_call c op).client → DueOnce c → DueOnce (client_call c op).client
unfolding says_busy begins_call is_called answers
call-due c op alone before = call-cases c op (λ t. Alone t.client → DueOnce t.client) (record {
  busy = λ why own free. (same-due c _ refl refl refl refl refl (before free).0, λ u file has_call is. (before free).1 u file has_call is);
  telling = λ file loss losses idle on changes has own free. (same-due c _ refl refl refl refl refl (before free).0, λ u f has_call is. none-some u has_call);
  going = λ idle on none. unless-cached-cases (settle (is_called (begins_call c op) op)) (λ t. Alone t.client → DueOnce t.client)
      (λ cached own. cached-due (is_called (begins_call c op) op) refl cached (λ free. same-due c _ refl refl refl refl refl (before free).0))
      (λ other own. ends-quiet false (settle (is_called (begins_call c op) op)) (settle-settles (is_called (begins_call c op) op)) own);
}) alone

tick-due : (c : Client) → Alone (client_tick c (c.now + 1)).client → DueOnce (client_tick c (c.now + 1)).client
unfolding at_time sends_again
tick-due c alone = tick-cases c (c.now + 1) (λ t. Alone t.client → DueOnce t.client) (record {
  again = λ ticket is late own free. none-some _ (sym free);
  quiet = λ ticket is soon own free. none-some ticket (sym free ∙ is);
  free = λ none own. ends-quiet true (settle (begun (at_time c (c.now + 1)))) (settle-settles (begun (at_time c (c.now + 1)))) own;
}) alone

hear-due : (c : Client) (k : ℕ) (m : Message) (t : ClientStep) → hear c k m ≡ Some t → Alone t.client → DueOnce t.client
hear-due c k m t hears alone = heard-cases c k m t (λ u. Alone u.client → DueOnce u.client) hears (record {
  answered = λ xid r ticket is asks own inc counts after. ends-quiet false (settle (replied (begun c) k ticket r))
      (settle-settles (replied (begun c) k ticket r)) after;
  noticed = λ xid file tag is older after. ends-quiet false (settle (evicted (cancels (begun c) file) file tag))
      (settle-settles (evicted (cancels (begun c) file) file tag)) after;
}) alone

restart-due : (c : Client) → DueOnce (restart c).client
unfolding starts fresh_client
restart-due c free = none-some _ (sym free)

-- ---- worlds

acted : (w : World) (host : ℕ) (c : Client) (t : ClientStep) → ClientActs w host c t → Alone t.client → DueOnce c → DueOnce t.client
acted w host c t (called op is) after g = subst (λ (u : ClientStep). DueOnce u.client) (sym is)
    (call-due c op (subst (λ (u : ClientStep). Alone u.client) is after) g)
acted w host c t (ticked is) after g = subst (λ (u : ClientStep). DueOnce u.client) (sym is) (tick-due c (subst (λ (u : ClientStep). Alone u.client) is after))
acted w host c t (restarted is) after g = subst (λ (u : ClientStep). DueOnce u.client) (sym is) (restart-due c)
acted w host c t (heard k p sent to hears) after g = hear-due c k p.message t hears after

abbrev EachDue : World → Type 0
EachDue w = (host : ℕ) (c : Client) → slice_get w.clients host ≡ Some c → DueOnce c

client-due : (w : World) (host : ℕ) (c : Client) (t : ClientStep) → slice_get w.clients host ≡ Some c → ClientActs w host c t
    → Holds (after_client w host t) → EachDue w → EachDue (after_client w host t)
unfolding after_client
client-due w host c t at acts after all = λ other d is. case other d (other == host) refl is
  where
    here : DueOnce t.client
    here = acted w host c t acts (after.clients host t.client (set-there w.clients host t.client c at)).alone (all host c at)

    case : (other : ℕ) (d : Client) (b : Bool) → (other == host) ≡ b → slice_get (slice_set w.clients host t.client) other ≡ Some d → DueOnce d
    case other d true same is =
        let one : other ≡ host = same-number other host same in
        let new : d ≡ t.client = get-set-same w.clients host t.client d (subst (λ n. slice_get (slice_set w.clients host t.client) n ≡ Some d) one is) in
        subst (λ x. DueOnce x) (sym new) here
    case other d false differs is =
        let apart : other ≢ host = λ same. let yes : (other == host) ≡ true = number-same other host same in absurd (cc) in
        all other d (sym (get-set-other w.clients host other t.client apart) ∙ is)

changed-due : (w v : World) → Changes w v → Holds v → EachDue w → EachDue v
unfolding after_server
changed-due w v (nothing is) after all = subst EachDue (sym is) all
changed-due w v (by_client host c t at acts to) after all = subst EachDue (sym to) (client-due w host c t at acts (subst Holds to after) all)
changed-due w v (by_server t acts to) after all = subst EachDue (sym to) all

first-due : (head : Head) → EachDue (start head)
unfolding start attached_client fresh_client
first-due head host c is =
    let same = first-client head.term 0 head.hosts host c is in
    subst (λ x. DueOnce x) (sym same) (λ free. (
      record { noticed = λ file n on. none-some n on; ending = λ file l on. none-some l on },
      λ u file has_call is. none-some u has_call,
    ))

pub run-due : (head : Head) (events : List Event) (host : ℕ) (c : Client) → slice_get (run head events).clients host ≡ Some c → DueOnce c
run-due head [] = first-due head
run-due head (e ∷ events) = changed-due (run head events) (run head (e ∷ events)) (step-changes (run head events) e) (run-holds head (e ∷ events))
    (run-due head events)
