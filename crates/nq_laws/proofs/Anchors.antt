-- In every run the request of a call was sent while the call was open.
use Rattle.std.proofs.Common.{◌≡◌, ◌≢◌, ◌⊎◌, ℕ, ◌+◌, ◌==◌, Bool, true, false, List, [], ◌∷◌, ◌++◌, Option, Some, None, is_some, refl, sym, subst}
use Rattle.std.proofs.Common.{map, ap, ◌∙◌, inl, inr, arith}
use Rattle.std.specs.Prelude.{slice_get, slice_set}
use Rattle.nq_base.specs.declared.Call.{Call}
use Rattle.nq_base.specs.declared.Entry.{Entry}
use Rattle.nq_base.specs.declared.Event.{Event}
use Rattle.nq_base.specs.declared.Request.{Request}
use Rattle.nq_base.specs.declared.Said.{Said}
use Rattle.nq_base.specs.declared.Who.{Who}
use Rattle.nq_model.proofs.Lists.{exists-append, exists-right}
use Rattle.nq_model.specs.laws.AnswersTellWhatWas.{Meanwhile}
use Rattle.nq_model.specs.laws.Bounds.{KeepsBounds}
use Rattle.nq_model.specs.protocol.Client.{Client, ClientStep, UnderWay, Ticket, for_call}
use Rattle.nq_model.specs.protocol.ClientStep.{client_call, client_tick, restart, begins_call, says_busy, starts, fresh_client}
use Rattle.nq_model.specs.protocol.Hear.{hear}
use Rattle.nq_model.specs.laws.Journal.{Exists, IsCall, IsAnswer, IsOpen}
use Rattle.nq_model.specs.protocol.Message.{Message, Packet, call, asker}
use Rattle.nq_model.specs.laws.RepliesTellWhatWas.{Once}
use Rattle.nq_model.specs.protocol.Settle.{said}
use Rattle.nq_model.specs.protocol.Skew.{IsWithinSkew}
use Rattle.nq_model.specs.protocol.World.{Head, World, after_server, after_client, from_host, start, run}
use Rattle.law_runs.proofs.RunCalls.{calls-known}
use Rattle.law_rounds.proofs.TicketNumbers.{IsOldOrNew, Numbered, call-numbers, tick-numbers, hear-numbers}
use Rattle.walk_files.proofs.CallFacts.{CallsAt}
use Rattle.walk_steps.proofs.ClientEntries.{AnyCall, AnyLength, OfClient, any-going, any-lent}
use Rattle.walk_steps.proofs.ClientEntries as keeping
use Rattle.walk_steps.proofs.ClientFacts.{Alone}
use Rattle.walk_steps.proofs.ClientMoves.{some-same, none-some}
use Rattle.walk_steps.proofs.ClientWalk.{tick-keeps}
use Rattle.walk_steps.proofs.Packets.{In, in-left, Asked}
use Rattle.walk_steps.proofs.Rows.{same-number, number-same}
use Rattle.walk_steps.proofs.RunCases.{During, client_at}
use Rattle.walk_steps.proofs.StepCases.{call-cases}
use Rattle.walk_steps.proofs.Steps.{Changes, nothing, by_client, by_server, ClientActs, called, ticked, restarted, heard, step-changes, run-goes}
use Rattle.walk_steps.proofs.Worlds.{IsAt, run-holds, to-told, get-set-same, get-set-other}
use Rattle.walk_steps.proofs.Packets.{in-get}

-- ---- the call under way

-- no C is among these entries
abbrev NoCalls : List Entry → Type 0
NoCalls es = (who : Who) (q : ℕ) → Exists (IsCall who q) es → ⊥

one-more : (e : Entry) (before : List Entry) → ((who : Who) (q : ℕ) → IsCall who q e → ⊥) → NoCalls before → NoCalls (e ∷ before)
one-more e before none calls who q (inl is) = none who q is
one-more e before none calls who q (inr h) = calls who q h

calls-none : OfClient AnyCall AnyLength NoCalls
calls-none = record {
  answered = λ who q answer before plain h. one-more (Entry.A who q answer) before (λ w n is. is) h;
  outside = λ who q op before past goes h. one-more (Entry.A who q Said.Range) before (λ w n is. is) h;
  read = λ who q file block value before h. one-more (Entry.A who q (Said.OkValue value)) (Entry.R who q file block value None ∷ before)
      (λ w n is. is)
      (one-more (Entry.R who q file block value None) before (λ w n is. is) h);
  delayed = λ who file block number value before h. one-more (Entry.W who file block number value false) before (λ w n is. is) h;
  lost = λ who file block first last before h. one-more (Entry.L who file block first last) before (λ w n is. is) h;
}

tick-calls-none : (c : Client) (now : ℕ) → NoCalls (client_tick c now).entries
tick-calls-none c now =
    (keeping.tick-keeps AnyCall AnyLength NoCalls calls-none c now (λ who q h. h) (any-going c.who c.call) (any-lent _ c.leases)).0

hear-calls-none : (c : Client) (k : ℕ) (m : Message) (t : ClientStep) → Alone c → hear c k m ≡ Some t → NoCalls t.entries
hear-calls-none c k m t alone hears =
    (keeping.hear-keeps AnyCall AnyLength NoCalls calls-none c k m t hears (λ ticket has. (alone.asking.ticketed ticket has).fits) (λ who q h. h)
    (any-going c.who c.call) (any-lent _ c.leases) (λ xid r ticket file g is has same inc by. tt)
    (λ xid r ticket u answer is has same inc call job telling. one-more (Entry.A c.who u.q (said answer None)) [] (λ w n bad. bad) (λ who q h. h))).0

-- the call under way was under way before
abbrev Goes : Client → ClientStep → Type 0
Goes c t = (u v : UnderWay) → c.call ≡ Some u → t.client.call ≡ Some v → u.q ≡ v.q

-- where no C was made and the call is open
still-goes : (c : Client) (t : ClientStep) (journal : List Entry) → CallsAt c.who c.calls c.number c.call journal → NoCalls t.entries
    → ((v : UnderWay) → t.client.call ≡ Some v → IsOpen (t.entries ++ journal) c.who v.q) → Goes c t
still-goes c t journal known none opens u v was is =
    let o = opens v is in
    let there : Exists (IsCall c.who v.q) journal = old v.q (exists-append (IsCall c.who v.q) t.entries journal o.0) in
    let k = known.alone v.q (there, λ a. o.1 (exists-right (IsAnswer c.who v.q) t.entries journal a)) in
    ap (λ (z : UnderWay). z.q) (some-same u k.0 (sym was ∙ k.1)) ∙ k.2
  where
    old : (q : ℕ) → Exists (IsCall c.who q) t.entries ⊎ Exists (IsCall c.who q) journal → Exists (IsCall c.who q) journal
    old q (inl new) = absurd (none c.who q new)
    old q (inr h) = h

call-goes : (c : Client) (op : Call) → Goes c (client_call c op)
unfolding says_busy begins_call
call-goes c op = call-cases c op (λ t. Goes c t) (record {
  busy = λ why u v was is. ap (λ (z : UnderWay). z.q) (some-same u v (sym was ∙ is));
  telling = λ file loss losses none on changes has u v was. none-some u (sym none ∙ was);
  going = λ none on unlost u v was. none-some u (sym none ∙ was);
})

-- ---- moments

-- at each moment of a run
abbrev pub Always : (World → Type 0) → Head → List Event → Type 0
Always Q head [] = Q (start head)
Always Q head (event ∷ earlier) = Q (run head (event ∷ earlier)) × Always Q head earlier

pub meanwhile-map : (P Q : World → Type 0) (who : Who) (q : ℕ) (head : Head) (events : List Event) → ((w : World) → P w → Q w)
    → Meanwhile P who q head events → Meanwhile Q who q head events
meanwhile-map P Q who q head [] f bad = bad
meanwhile-map P Q who q head (event ∷ earlier) f (inl now) = inl (f (run head earlier) now.0, now.1, now.2)
meanwhile-map P Q who q head (event ∷ earlier) f (inr before) = inr (meanwhile-map P Q who q head earlier f before)

-- what stands in a journal stays, and so does what was sent
stays : (F : Entry → Type 0) (w v : World) → Changes w v → Exists F w.journal → Exists F v.journal
unfolding after_server after_client
stays F w v (nothing is) h = subst (λ z. Exists F z.journal) (sym is) h
stays F w v (by_client host c t at acts is) h = subst (λ z. Exists F z.journal) (sym is) (exists-right F t.entries w.journal h)
stays F w v (by_server t acts is) h = subst (λ z. Exists F z.journal) (sym is) (exists-right F t.entries w.journal h)

sent-stays : (w v : World) → Changes w v → (p : Packet) → In w.packets p → In v.packets p
unfolding after_server after_client
sent-stays w v (nothing is) p h = subst (λ z. In z.packets p) (sym is) h
sent-stays w v (by_client host c t at acts is) p h = subst (λ z. In z.packets p) (sym is) (in-left w.packets (map (from_host host) t.sends) p h)
sent-stays w v (by_server t acts is) p h = subst (λ z. In z.packets p) (sym is) (in-left w.packets t.sends p h)

-- a request that was sent while a call was open
abbrev pub IsSentOpen : (host xid : ℕ) → Request → (who : Who) (q : ℕ) → World → Type 0
IsSentOpen host xid r who q w = Asked w.packets host xid r → IsOpen w.journal who q

never-sent : (host xid : ℕ) (r : Request) (who : Who) (q : ℕ) (head : Head) (events : List Event) → (Asked (run head events).packets host xid r → ⊥)
    → Always (IsSentOpen host xid r who q) head events
never-sent host xid r who q head [] none = λ asked. absurd (none asked)
never-sent host xid r who q head (event ∷ earlier) none = (
  (λ asked. absurd (none asked)),
  never-sent host xid r who q head earlier (λ asked. none (sent-stays (run head earlier) (run head (event ∷ earlier))
      (step-changes (run head earlier) event) (from_host host (call xid r)) asked)),
)

-- what was so when the request had been sent was so between the call and its answer
pub then-meanwhile : (P : World → Type 0) (host xid : ℕ) (r : Request) (who : Who) (q : ℕ) (head : Head) (event : Event) (earlier : List Event)
    → ((w : World) → P w → Asked w.packets host xid r) → Always (IsSentOpen host xid r who q) head earlier → Once P head earlier
    → Meanwhile P who q head (event ∷ earlier)
then-meanwhile P host xid r who q head event [] sends opens once = inl (
  once,
  stays (IsCall who q) (start head) (run head (event ∷ []))
      (step-changes (start head) event) (opens (sends (start head) once)).0,
  (opens (sends (start head) once)).1,
)
then-meanwhile P host xid r who q head event (e ∷ es) sends opens (inl now) =
    let o = opens.0 (sends (run head (e ∷ es)) now) in
    inl (now, stays (IsCall who q) (run head (e ∷ es)) (run head (event ∷ e ∷ es)) (step-changes (run head (e ∷ es)) event) o.0, o.1)
then-meanwhile P host xid r who q head event (e ∷ es) sends opens (inr before) =
    inr (then-meanwhile P host xid r who q head e es sends opens.1 before)

-- ---- runs

-- the call's request was sent while the call was open
abbrev pub SinceOf : Head → List Event → ℕ → Client → Type 0
SinceOf head events host c =
    (t : Ticket) (u : UnderWay) → c.ticket ≡ Some t → t.job ≡ for_call → c.call ≡ Some u
    → Always (IsSentOpen host t.xid t.request c.who u.q) head events

abbrev pub Since : Head → List Event → Type 0
Since head events = (host : ℕ) (c : Client) → client_at head events host ≡ Some c → SinceOf head events host c

module _ (most : ℕ) (head : Head) (event : Event) (earlier : List Event) (during : During most head event earlier) (g : Since head earlier) where
  abbrev w : World
  w = run head earlier

  abbrev v : World
  v = run head (event ∷ earlier)

  known : (host : ℕ) (c : Client) → slice_get w.clients host ≡ Some c → CallsAt c.who c.calls c.number c.call w.journal
  known host c there = ((calls-known most head earlier during.bounds during.within).clients host c there).calls_fit

  opened : (host : ℕ) (c : Client) → slice_get v.clients host ≡ Some c → (u : UnderWay) → c.call ≡ Some u → IsOpen v.journal c.who u.q
  opened host c there u is =
      (((calls-known most head (event ∷ earlier) during.bounds_after during.within_after).clients host c there).calls_fit.under_way u is).is_open

  -- a client that did not step
  unmoved : (host : ℕ) (c : Client) → slice_get v.clients host ≡ Some c → slice_get w.clients host ≡ Some c → SinceOf head (event ∷ earlier) host c
  unmoved host c there was t u asks job is = ((λ asked. opened host c there u is), g host c was t u asks job is)

  -- a client that stepped
  module _ (host : ℕ) (c : Client) (t : ClientStep) (was : slice_get w.clients host ≡ Some c) (there : slice_get v.clients host ≡ Some t.client)
      (numbers : Numbered c t) (goes : Goes c t) where
    before : (k : Ticket) (u : UnderWay) → t.client.ticket ≡ Some k → k.job ≡ for_call → t.client.call ≡ Some u → IsOldOrNew c.ticket c.xid k
        → Always (IsSentOpen host k.xid k.request t.client.who u.q) head earlier
    before k u asks job is (inl old) = from c.call refl
      where
        from : (o : Option UnderWay) → c.call ≡ o → Always (IsSentOpen host k.xid k.request t.client.who u.q) head earlier
        from None none =
            let some : is_some c.call ≡ true = ((run-holds head earlier).clients host c was).alone.asking.called old.0 old.1 (old.4 ∙ job) in
            let gone : is_some c.call ≡ false = ap is_some none in
            absurd (cc)
        from (Some x) has =
            subst (λ z. Always (IsSentOpen host k.xid k.request z u.q) head earlier) (sym numbers.same)
            (subst (λ n. Always (IsSentOpen host k.xid k.request c.who n) head earlier) (goes x u has is)
            (subst (λ r. Always (IsSentOpen host k.xid r c.who x.q) head earlier) old.3
            (subst (λ n. Always (IsSentOpen host n old.0.request c.who x.q) head earlier) old.2 (g host c was old.0 x old.1 (old.4 ∙ job) has))))
    before k u asks job is (inr new) = never-sent host k.xid k.request t.client.who u.q head earlier (λ asked. none asked)
      where
        at : IsAt host c w.packets
        at = (run-holds head earlier).clients host c was

        by : asker k.request ≡ Some t.client.who
        by = (((run-holds head (event ∷ earlier)).clients host t.client there).mail.own k asks).asks

        none : Asked w.packets host k.xid k.request → ⊥
        none asked =
            let low = (at.mail.asked k.xid k.request t.client.who (subst (λ h. Asked w.packets h k.xid k.request) (sym at.here) asked) by).number
            (ap (λ (z : Who). z.inc) numbers.same) in
            absurd (omega arith)

    stepped : SinceOf head (event ∷ earlier) host t.client
    stepped k u asks job is = ((λ asked. opened host t.client there u is), before k u asks job is (numbers.ticket k asks))

  acted : (host : ℕ) (c : Client) (t : ClientStep) → slice_get w.clients host ≡ Some c → ClientActs w host c t → v ≡ after_client w host t
      → slice_get v.clients host ≡ Some t.client → SinceOf head (event ∷ earlier) host t.client
  unfolding after_client starts fresh_client
  acted host c t was (called op made) is there =
      let at = (run-holds head earlier).clients host c was in
      stepped host c t was there (subst (λ z. Numbered c z) (sym made) (call-numbers c op at.alone)) (subst (λ z. Goes c z) (sym made) (call-goes c op))
  acted host c t was (ticked made) is there =
      let at = (run-holds head earlier).clients host c was in
      let numbers : Numbered c t = subst (λ z. Numbered c z) (sym made) (tick-numbers c at.alone) in
      stepped host c t was there numbers
      (still-goes c t w.journal (known host c was) (subst (λ z. NoCalls z.entries) (sym made) (tick-calls-none c (c.now + 1)))
      (λ u e. subst (λ z. IsOpen z.journal c.who u.q) is (subst (λ z. IsOpen v.journal z u.q) numbers.same (opened host t.client there u e))))
  acted host c t was (restarted made) is there = λ k u asks job has. none-some u (sym (idle t made) ∙ has)
    where
      idle : (z : ClientStep) → z ≡ restart c → z.client.call ≡ None
      idle z e = ap (λ (s : ClientStep). s.client.call) e
  acted host c t was (heard k p sent to hears) is there =
      let held = run-holds head earlier in
      let at = held.clients host c was in
      let i : In w.packets p = in-get w.packets k p sent in
      let numbers : Numbered c t = hear-numbers host c w.packets k p.message t at (to-told w.packets p host (held.sent p i) to i) hears in
      stepped host c t was there numbers
      (still-goes c t w.journal (known host c was) (hear-calls-none c k p.message t at.alone hears)
      (λ u e. subst (λ z. IsOpen z.journal c.who u.q) is (subst (λ z. IsOpen v.journal z u.q) numbers.same (opened host t.client there u e))))

  changed : Changes w v → Since head (event ∷ earlier)
  unfolding after_client after_server
  changed (nothing is) host c there = unmoved host c there (subst (λ z. slice_get z.clients host ≡ Some c) is there)
  changed (by_server t acts is) host c there = unmoved host c there (subst (λ z. slice_get z.clients host ≡ Some c) is there)
  changed (by_client host d t at acts is) other c there = case (other == host) refl
    where
      case : (b : Bool) → (other == host) ≡ b → SinceOf head (event ∷ earlier) other c
      case true same =
          let one : host ≡ other = sym (same-number other host same) in
          let there_now : slice_get (slice_set w.clients host t.client) host ≡ Some c = subst (λ n. slice_get (slice_set w.clients host t.client) n ≡ Some c)
          (sym one) (subst (λ z. slice_get z.clients other ≡ Some c) is there) in
          let new : c ≡ t.client = get-set-same w.clients host t.client c there_now in
          subst (λ n. SinceOf head (event ∷ earlier) n c) one
          (subst (λ z. SinceOf head (event ∷ earlier) host z) (sym new)
          (acted host d t at acts is (subst (λ n. slice_get v.clients n ≡ Some t.client) (sym one) (there ∙ ap Some new))))
      case false differs =
          let apart : other ≢ host = λ same. let yes : (other == host) ≡ true = number-same other host same in absurd (cc) in
          unmoved other c there (sym (get-set-other w.clients host other t.client apart) ∙ subst (λ z. slice_get z.clients other ≡ Some c) is there)

starts-since : (head : Head) → Since head []
unfolding start
starts-since head host c there t u asks job is = λ asked. absurd (none asked)
  where
    none : Asked (start head).packets host t.xid t.request → ⊥
    none asked = asked

pub asked-while-open : (most : ℕ) (head : Head) (events : List Event) → KeepsBounds most head events → IsWithinSkew head.hosts most events → Since head events
asked-while-open most head events bounds within =
    run-goes most head (λ es. Since head es) (λ b. starts-since head) (λ e es during changes g. changed most head e es during g changes) events bounds within
