-- What is kept of a client's call under way, over a whole step of the client: a call, a tick, a datagram, a restart.
use Rattle.std.proofs.Common.{◌≡◌, ◌<◌, ◌≤◌, ◌⊎◌, ℕ, ◌+◌, Bool, true, false, ◌&&◌, ◌==◌, List, [], ◌∷◌, Option, Some, None, is_some, if◌then◌else◌}
use Rattle.std.proofs.Common.{refl, sym, subst, ap, ◌∙◌, arith, inl, inr}
use Rattle.std.specs.Option.{option_or}
use Rattle.std.proofs.lemmas.Bool.{and_parts, and_from}
use Rattle.nq_base.specs.declared.Call.{Call}
use Rattle.nq_base.specs.declared.Entry.{Entry}
use Rattle.nq_base.specs.declared.Entry.TheVariants.{C, W, L, A, B}
use Rattle.nq_base.specs.declared.HostRow.{HostRow}
use Rattle.nq_base.specs.declared.Loss.{Loss}
use Rattle.nq_base.specs.declared.Reply.{Reply}
use Rattle.nq_base.specs.declared.Said.{Said}
use Rattle.nq_base.specs.declared.Who.{Who}
use Rattle.walk_files.proofs.CallsFit.{entry_who, entry_call}
use Rattle.walk_steps.proofs.StepCases.{call-cases, unless-cached-cases, tick-cases, heard-cases}
use Rattle.walk_steps.proofs.ClientFacts.{Alone}
use Rattle.walk_steps.proofs.ClientMoves.{some-same, none-some}
use Rattle.walk_files.proofs.ServerTells.{Tells}
use Rattle.nq_model.specs.protocol.Client.{Client, ClientStep, for_call, Ticket, UnderWay, begun, losses_of}
use Rattle.nq_model.specs.protocol.ClientStep.{begins_call, is_called, sends_unless_cached, says_busy, losses_for, changed_file, client_call, at_time}
use Rattle.nq_model.specs.protocol.ClientStep.{sends_again, client_tick, fresh_client, starts, next_incarnation, restart}
use Rattle.nq_base.specs.Calls.{told}
use Rattle.nq_model.specs.protocol.Hear.{inc_of, replied, cancels, evicted, hear}
use Rattle.nq_model.specs.laws.Ordered.{HasOpen, IsOpenCall}
use Rattle.nq_model.specs.laws.BusyIsSaidAtOnce.{IsStarting}
use Rattle.nq_model.proofs.Lists.{exists-map}
use Rattle.nq_model.specs.laws.Journal.{Exists, Throughout, IsCall, IsAnswer, IsOpen, call_of, told_by}
use Rattle.nq_model.specs.protocol.Message.{Message, reply, sequence_of}
use Rattle.nq_model.specs.protocol.Send.{send_next}
use Rattle.nq_model.specs.protocol.Settle.{names_losses, settle}
use Rattle.nq_model.specs.laws.AnswersAreOfTheirCalls.{IsChanging}
use Rattle.nq_model.specs.laws.LossesAreReported.{cleans}
use Rattle.walk_steps.proofs.Packets.{In}
use Rattle.walk_steps.proofs.Incarnations.{who-same}
use Rattle.walk_steps.proofs.Rows.{same-number, number-same}
use Rattle.law_runs.proofs.KeptPlaces.{KeptHere}
use Rattle.law_runs.proofs.OkFacts.{Made, IsOpenAs, IsFor, KeepsOf, All, book_of, Mid, After, ended}
use Rattle.law_runs.proofs.OkMoves.{open-more, put-more, made-more, numbered-more}
use Rattle.law_runs.proofs.OkReplies.{mid-replied, mid-evicted}
use Rattle.law_runs.proofs.OkSettle.{own-more, mid-names, mid-settles, End, mid-end, mid-sends, after-before}
use Rattle.nq_model.specs.protocol.Table.{same_who}

-- what is known of a client before its step
pub record Ready (line : HostRow) (c : Client) (journal : List Entry) : Type 0 where
  pub keeps : KeepsOf line c journal
  pub above : line.inc ≡ c.who.inc → line.seq < c.seq
  pub kept : Throughout KeptHere journal
  pub alone : Alone c
  -- an incarnation that is not attached is starting
  pub began : c.attached ≡ false → IsStarting c.who journal
  -- no call of it has a number above the count of its calls, and no entry is of a later incarnation of its host
  pub counted : (u : UnderWay) → c.call ≡ Some u → u.q ≤ c.calls
  pub numbers : (e : Entry) (q : ℕ) → In journal e → entry_who e ≡ Some c.who → entry_call e ≡ Some q → q ≤ c.calls
  pub past : (e : Entry) (w : Who) → In journal e → entry_who e ≡ Some w → w.host ≡ c.who.host → w.inc ≤ c.who.inc

begins : (line : HostRow) (c : Client) (journal : List Entry) → Ready line c journal → Mid All line journal (book_of (begun c))
begins line c journal h = record { keeps = h.keeps; above = h.above; kept = h.kept; own = λ e i. absurd i }

-- ---- after the first part of a step

module _ {line : HostRow} {journal : List Entry} (t : ClientStep) (m : Mid All line journal (book_of t)) where
  -- calls that need no packet, and the next request
  pub mid-goes : (in_tick : Bool) → After journal (book_of (send_next in_tick (settle t))) → End line journal (book_of (send_next in_tick (settle t)))
  mid-goes in_tick a = mid-sends (settle t) (mid-settles t m (after-before (settle t) journal in_tick a)) in_tick

  mid-unless-cached : After journal (book_of (sends_unless_cached (settle t))) → End line journal (book_of (sends_unless_cached (settle t)))
  mid-unless-cached =
      unless-cached-cases (settle t) (λ s. After journal (book_of s) → End line journal (book_of s))
      (λ e a. mid-end (book_of (settle t)) (mid-settles t m a)) (λ e a. mid-goes false a)

-- ---- a call

same-self : (w : Who) → same_who w w ≡ true
same-self w = and_from (w.host == w.host) (w.inc == w.inc) (number-same w.host w.host refl) (number-same w.inc w.inc refl)

-- a call that no C is of is not told
untold-by : (who : Who) (q : ℕ) (e : Entry) → (entry_who e ≡ Some who → entry_call e ≡ Some q → ⊥) → told_by e who q ≡ None
untold-by who q (C by n told) none = step (same_who by who && n == q) refl
  where
    step : (b : Bool) → (same_who by who && n == q) ≡ b → (if b then Some told else None) ≡ None
    step false e = refl
    step true e = let a = and_parts (same_who by who) (n == q) e in absurd (none (ap Some (who-same by who a.0)) (ap Some (same-number n q a.1)))
untold-by who q other none = refl

untold : (who : Who) (q : ℕ) (journal : List Entry) → ((e : Entry) → In journal e → entry_who e ≡ Some who → entry_call e ≡ Some q → ⊥)
    → call_of journal who q ≡ None
untold who q [] none = refl
untold who q (e ∷ before) none =
    let a : call_of before who q ≡ None = untold who q before (λ x i. none x (inr i)) in
    let b : told_by e who q ≡ None = untold-by who q e (none e (inl refl)) in
    rw (a, b) refl

unanswered : (who : Who) (q : ℕ) (journal : List Entry) → ((e : Entry) → In journal e → entry_who e ≡ Some who → entry_call e ≡ Some q → ⊥)
    → Exists (IsAnswer who q) journal → ⊥
unanswered who q [] none h = h
unanswered who q (A by n said ∷ before) none (inl h) = none (A by n said) (inl refl) (ap Some h.0) (ap Some h.1)
unanswered who q (e ∷ before) none (inl h) = absurd h
unanswered who q (e ∷ before) none (inr h) = unanswered who q before (λ x i. none x (inr i)) h

-- the losses that a call is told are those of the file that it cleans
cleans-changed : (file : ℕ) (op : Call) (losses : List Loss) → cleans file op ≡ true → losses_for (changed_file op) losses ≡ [] → losses_of file losses ≡ []
cleans-changed file (Call.Sync f) losses e none = subst (λ n. losses_of n losses ≡ []) (same-number f file e) none
cleans-changed file (Call.Resize f blocks) losses e none = subst (λ n. losses_of n losses ≡ []) (same-number f file e) none
cleans-changed file (Call.Remove f) losses e none = subst (λ n. losses_of n losses ≡ []) (same-number f file e) none
cleans-changed file other losses e none = absurd (cc)

-- a call that is open is one of the open ones
has-open-call : (who : Who) (q : ℕ) (journal : List Entry) → IsOpen journal who q → HasOpen journal who
has-open-call who q journal h = exists-map (IsCall who q) (IsOpenCall journal who) journal (λ e i. at e i) h.0
  where
    at : (e : Entry) → IsCall who q e → IsOpenCall journal who e
    at (C by n told) i = (i.0, subst (IsOpen journal who) (sym i.1) h)
    at other i = absurd i

module _ (line : HostRow) (c : Client) (journal : List Entry) (h : Ready line c journal) where
  -- a C or A of a new call changes nothing for the call under way
  one-more : (e : Entry) → ((u : UnderWay) → c.call ≡ Some u → IsAnswer c.who u.q e → ⊥)
      → ((file block first last : ℕ) → e ≡ L c.who file block first last → ⊥) → ((file block n value : ℕ) → e ≡ W c.who file block n value false → ⊥)
      → (before : List Entry) → KeepsOf line c before → KeepsOf line c (e ∷ before)
  one-more e answers loss write before k = record {
    fits = k.fits;
    is_open = λ u is. open-more c.who u e before (answers u is) (k.is_open u is);
    told = k.told;
    put = λ u file block body is s op written. put-more c.who u.q file block e before (loss file block) (k.put u file block body is s op written);
    made = λ t u n is job called draws done. made-more c.who u.q t.request e before write (k.made t u n is job called draws done);
    numbers = numbered-more e loss k.numbers;
  }

  called : (op : Call) → KeepsOf line c (C c.who (c.calls + 1) (told op) ∷ journal)
  called op = one-more (C c.who (c.calls + 1) (told op)) (λ u is a. a) (λ f b n l e. cc) (λ f b n v e. cc) journal h.keeps

  mid-begins : (op : Call) → Mid All line journal (book_of (begins_call c op))
  unfolding begins_call
  mid-begins op = record {
    keeps = called op;
    above = h.above;
    kept = (tt, h.kept);
    own = own-more c.who (C c.who (c.calls + 1) (told op)) [] refl (λ e i. absurd i);
  }

  fresh : (e : Entry) → In journal e → entry_who e ≡ Some c.who → entry_call e ≡ Some (c.calls + 1) → ⊥
  fresh e i by of = let few = h.numbers e (c.calls + 1) i by of in omega arith

  tells-new : (op : Call) → call_of (C c.who (c.calls + 1) (told op) ∷ journal) c.who (c.calls + 1) ≡ Some (told op)
  tells-new op =
      let a : call_of journal c.who (c.calls + 1) ≡ None = untold c.who (c.calls + 1) journal fresh in
      let b : (same_who c.who c.who && (c.calls + 1) == (c.calls + 1)) ≡ true = and_from (same_who c.who c.who) ((c.calls + 1) == (c.calls + 1))
      (same-self c.who) (number-same (c.calls + 1) (c.calls + 1) refl) in
      ap (λ o. option_or o (told_by (C c.who (c.calls + 1) (told op)) c.who (c.calls + 1))) a ∙ ap (λ x. if x then Some (told op) else None) b

  open-new : (op : Call) → IsOpen (C c.who (c.calls + 1) (told op) ∷ journal) c.who (c.calls + 1)
  open-new op = (inl (refl, refl), λ a. case a)
    where
      case : IsAnswer c.who (c.calls + 1) (C c.who (c.calls + 1) (told op)) ⊎ Exists (IsAnswer c.who (c.calls + 1)) journal → ⊥
      case (inl bad) = bad
      case (inr a) = unanswered c.who (c.calls + 1) journal fresh a

  -- another call is open, or the incarnation is starting
  cause : (is_some c.call ≡ true) ⊎ (c.attached ≡ false) → HasOpen journal c.who ⊎ IsStarting c.who journal
  cause (inr off) = inr (h.began off)
  cause (inl some) = from c.call refl some
    where
      from : (o : Option UnderWay) → c.call ≡ o → is_some o ≡ true → HasOpen journal c.who ⊎ IsStarting c.who journal
      from None is e = absurd (cc)
      from (Some u) is e = inl (has-open-call c.who u.q journal (h.keeps.is_open u is).is_open)

  busy : (op : Call) → (is_some c.call ≡ true) ⊎ (c.attached ≡ false) → End line journal (book_of (says_busy (begins_call c op)))
  unfolding says_busy begins_call
  busy op why = record {
    keeps =
        one-more (A c.who (c.calls + 1) Said.Busy) (λ u is a. let few = h.counted u is in let same : c.calls + 1 ≡ u.q = a.1 in absurd (omega arith))
        (λ f b n l e. cc) (λ f b n v e. cc) (C c.who (c.calls + 1) (told op) ∷ journal) (called op);
    kept = ((record { is_open = open-new op; form = tt }, (refl, refl, cause why)), (tt, h.kept));
    own = own-more c.who _ (C c.who (c.calls + 1) (told op) ∷ []) refl (own-more c.who (C c.who (c.calls + 1) (told op)) [] refl (λ e i. absurd i));
  }

  -- a call that is told losses asks for a change
  changed-changes : (file : ℕ) (op : Call) → changed_file op ≡ Some file → IsChanging (Some (told op))
  changed-changes file (Call.Write f block body) e = tt
  changed-changes file (Call.Put f block body) e = tt
  changed-changes file (Call.Sync f) e = tt
  changed-changes file (Call.Resize f blocks) e = tt
  changed-changes file (Call.Remove f) e = tt
  changed-changes file other e = none-some file e

  mid-tells : (op : Call) (file : ℕ) → changed_file op ≡ Some file
      → Mid All line journal (book_of (names_losses (begins_call c op) (begins_call c op).client.calls file))
  unfolding begins_call
  mid-tells op file of =
      mid-names (begins_call c op) (begins_call c op).client.calls file (open-new op)
      (subst IsChanging (sym (tells-new op)) (changed-changes file op of)) (mid-begins op)

  free-call : (t : Ticket) → c.call ≡ None → c.ticket ≡ Some t → t.job ≡ for_call → ⊥
  free-call t none is job =
      let some : is_some c.call ≡ true = h.alone.asking.called t is job in let gone : is_some c.call ≡ false = ap is_some none in absurd (cc)

  mid-called : (op : Call) → c.call ≡ None → losses_for (changed_file op) c.losses ≡ [] → Mid All line journal (book_of (is_called (begins_call c op) op))
  unfolding is_called begins_call
  mid-called op none unlost = record {
    keeps = record {
      fits = λ t u is job. absurd (free-call t none is job);
      is_open =
          λ u is. subst (λ v. IsOpenAs c.who v (C c.who (c.calls + 1) (told op) ∷ journal)) (some-same u_new u is)
          (record { is_open = open-new op; tells = tells-new op });
      told = λ u file is s e. cleans-changed file op c.losses (ap (λ v. cleans file v.call) (some-same u_new u is) ∙ e) unlost;
      put = λ u file block body is s e written. let same : false ≡ true = ap (λ v. v.written) (some-same u_new u is) ∙ written in absurd (cc);
      made = λ t u n is job. absurd (free-call t none is job);
      numbers = (called op).numbers;
    };
    above = h.above;
    kept = (tt, h.kept);
    own = own-more c.who (C c.who (c.calls + 1) (told op)) [] refl (λ e i. absurd i);
  } where
    u_new : UnderWay
    u_new = record { q = c.calls + 1; call = op; through = false; written = false }

  pub call-end : (op : Call) → After journal (book_of (client_call c op)) → End line journal (book_of (client_call c op))
  call-end op = call-cases c op (λ s. After journal (book_of s) → End line journal (book_of s)) (record {
    busy = λ why a. busy op why;
    telling = λ file loss losses none on of some a. mid-end _ (mid-tells op file of);
    going = λ none on unlost a. mid-unless-cached (is_called (begins_call c op) op) (mid-called op none unlost) a;
  })

  -- ---- a tick

  mid-timed : (now : ℕ) → Mid All line journal (book_of (begun (at_time c now)))
  unfolding at_time
  mid-timed now = begins line c journal h

  again : (now : ℕ) (ticket : Ticket) → c.ticket ≡ Some ticket → End line journal (book_of (sends_again (begun (at_time c now)) ticket))
  unfolding sends_again at_time
  again now ticket is = record {
    keeps = record {
      fits =
          λ t u e job called. subst (λ r. IsFor u c.dirty c.push r) (ap (λ z. z.request) (some-same _ t e))
          (h.keeps.fits ticket u is (ap (λ z. z.job) (some-same _ t e) ∙ job) called);
      is_open = h.keeps.is_open;
      told = h.keeps.told;
      put = h.keeps.put;
      made =
          λ t u n e job called draws done. subst (λ r. Made c.who u.q r journal) (ap (λ z. z.request) (some-same _ t e))
          (h.keeps.made ticket u n is (ap (λ z. z.job) (some-same _ t e) ∙ job) called (ap (λ z. sequence_of z.request) (some-same _ t e) ∙ draws) done);
      numbers = h.keeps.numbers;
    };
    kept = h.kept;
    own = λ e i. absurd i;
  }

  pub tick-end : (now : ℕ) → After journal (book_of (client_tick c now)) → End line journal (book_of (client_tick c now))
  tick-end now = tick-cases c now (λ s. After journal (book_of s) → End line journal (book_of s)) (record {
    again = λ ticket is due a. again now ticket is;
    quiet = λ ticket is early a. mid-end _ (mid-timed now);
    free = λ free a. mid-goes (begun (at_time c now)) (mid-timed now) true a;
  })

  -- ---- a datagram

  pub hear-end : (k : ℕ) (m : Message) (t : ClientStep)
      → ((xid : ℕ) (r : Reply) (ticket : Ticket) (n : ℕ) → m ≡ reply xid r → c.ticket ≡ Some ticket → xid ≡ ticket.xid → inc_of r ≡ c.who.inc
      → sequence_of ticket.request ≡ Some n → Tells line c.who n ticket.request r) → hear c k m ≡ Some t → After journal (book_of t)
      → End line journal (book_of t)
  hear-end k m t tells hears = heard-cases c k m t (λ s. After journal (book_of s) → End line journal (book_of s)) hears (record {
    answered =
        λ xid r ticket is has same inc counts a. mid-goes (replied (begun c) k ticket r)
        (mid-replied line journal c k ticket r has (begins line c journal h) (λ n draws. tells xid r ticket n is has same inc draws)
        (h.alone.asking.ticketed ticket has).fits counts) false a;
    noticed =
        λ xid file tag is early a. mid-goes (evicted (cancels (begun c) file) file tag) (mid-evicted (begun c) file tag (begins line c journal h)) false a;
  })

-- ---- a restart

pub restart-end : (line other : HostRow) (c : Client) (journal : List Entry) → Ready line c journal → End other journal (book_of (restart c))
unfolding starts fresh_client
restart-end line other c journal h = record {
  keeps = ended (record {
    listed = λ p i. absurd i;
    pushed = λ p e. none-some p e;
    lost = λ file block first last i. case file block first last i;
  });
  kept = (tt, h.kept);
  own = own-more (next_incarnation c.who) (B (next_incarnation c.who)) [] refl (λ e i. absurd i);
} where
  case : (file block first last : ℕ)
      → (B (next_incarnation c.who) ≡ L (next_incarnation c.who) file block first last) ⊎ In journal (L (next_incarnation c.who) file block first last)
      → last < 1
  case file block first last (inl e) = absurd (cc)
  case file block first last (inr i) =
      let few : c.who.inc + 1 ≤ c.who.inc = h.past (L (next_incarnation c.who) file block first last) (next_incarnation c.who) i refl refl in
      absurd (omega arith)
