-- In every run a delayed write after which its host did not start again is of the incarnation that runs.
use Rattle.std.proofs.Common.{◌≡◌, ◌≢◌, ℕ, zero, suc, ◌+◌, Bool, true, false, ◌==◌, List, [], ◌∷◌, ◌++◌, Some, refl, sym, subst, ap, ◌∙◌, inl, inr}
use Rattle.std.specs.Prelude.{slice_get, slice_set}
use Rattle.nq_base.specs.Block.{value_of}
use Rattle.nq_base.specs.declared.Entry.{Entry}
use Rattle.nq_base.specs.declared.Entry.TheVariants.{W, S, B}
use Rattle.nq_base.specs.declared.Event.{Event}
use Rattle.nq_base.specs.declared.Who.{Who}
use Rattle.law_runs.proofs.AnsweredWorlds.{received-tells, tick-tells, crash-tells}
use Rattle.law_runs.proofs.WorldWrites.{hear-same, replies-known, writes-fit}
use Rattle.walk_steps.proofs.LeaseIntervals.{run-runs}
use Rattle.nq_model.proofs.Lists.{exists-left, exists-right}
use Rattle.nq_model.specs.protocol.Client.{Client, ClientStep, begun}
use Rattle.nq_model.specs.protocol.ClientStep.{client_call, client_tick, restart, starts, fresh_client, next_incarnation}
use Rattle.nq_model.specs.laws.Fate.{Restarts}
use Rattle.nq_model.specs.laws.Journal.{Exists, AtEachPlace}
use Rattle.nq_model.specs.protocol.Kept.{host_row}
use Rattle.nq_model.specs.protocol.Message.{Packet}
use Rattle.nq_model.specs.protocol.Server.{Server, ServerStep}
use Rattle.nq_model.specs.protocol.Skew.{IsWithinSkew}
use Rattle.nq_model.specs.protocol.World.{Head, World, after_server, after_client, start, run}
use Rattle.nq_model.specs.laws.Bounds.{KeepsBounds}
use Rattle.walk_files.proofs.ClientFates.{IsOwn, Mid}
use Rattle.walk_files.proofs.ServerTells.{IsQuiet, Effects, without, goes_through, pushes, Moves, same_lines, attaches_one, decides_one, ServerTells}
use Rattle.walk_files.proofs.StepFates.{mid-begins, mid-hears, mid-call-step, mid-tick-step}
use Rattle.walk_steps.proofs.ClientMoves.{some-same, none-some}
use Rattle.walk_steps.proofs.WorldClocks.{call-still, tick-still}
use Rattle.walk_steps.proofs.Packets.{In, Told, in-get}
use Rattle.walk_steps.proofs.RunCases.{client_at, Keeps, run-keeps}
use Rattle.walk_steps.proofs.Worlds.{get-set-other, run-holds, to-told}
use Rattle.walk_steps.proofs.Rows.{same-number, number-same}

-- ---- what is so of each place of a journal

-- the new entries of a journal in the order of time, before what came later
abbrev turned : List Entry → List Entry → List Entry
turned [] later = later
turned (e ∷ new) later = turned new (e ∷ later)

-- what is so of each new entry, and of the old ones with the new ones after them, is so of all
added : (F : List Entry → Entry → List Entry → Type 0) (new old later : List Entry)
    → ((e : Entry) → In new e → (after before : List Entry) → F after e before) → AtEachPlace F (turned new later) old → AtEachPlace F later (new ++ old)
added F [] old later own rest = rest
added F (e ∷ new) old later own rest = (own e (inl (λ i. e)) later (new ++ old), added F new old (e ∷ later) (λ x i. own x (inr i)) rest)

-- what is so of each place stays so where more comes after it
behind : (F G : List Entry → Entry → List Entry → Type 0) (more : List Entry)
    → ((after : List Entry) (e : Entry) (before : List Entry) → F after e before → G (after ++ more) e before) → (after old : List Entry)
    → AtEachPlace F after old → AtEachPlace G (after ++ more) old
behind F G more stays after [] h = tt
behind F G more stays after (e ∷ old) h = (stays after e old h.0, behind F G more stays (e ∷ after) old h.1)

-- ---- incarnations that run

-- an incarnation is that of its host's client
pub record Runs (clients : List Client) (who : Who) : Type 0 where
  pub client : Client
  pub there : slice_get clients who.host ≡ Some client
  pub same : client.who ≡ who

-- a delayed write after which its host did not start again is of an incarnation that runs
abbrev pub IsOfRunning : List Client → (after : List Entry) → Entry → (before : List Entry) → Type 0
IsOfRunning clients after (W who file block number value false) before =
    ¬ Exists (λ entry. Restarts entry (W who file block number value false)) after → Runs clients who
IsOfRunning clients after other before = Unit {0}

abbrev pub Running : World → Type 0
Running w = AtEachPlace (IsOfRunning w.clients) [] w.journal

set-there : {A : Type 0} (xs : List A) (i : ℕ) (x y : A) → slice_get xs i ≡ Some y → slice_get (slice_set xs i x) i ≡ Some x
set-there [] i x y h = none-some y h
set-there (z ∷ xs) zero x y h = refl
set-there (z ∷ xs) (suc i) x y h = set-there xs i x y h

-- what runs goes on where a client's step keeps its incarnation
still-runs : (clients : List Client) (host : ℕ) (c new : Client) (who : Who) → slice_get clients host ≡ Some c → new.who ≡ c.who → Runs clients who
    → Runs (slice_set clients host new) who
still-runs clients host c new who is same r = case (who.host == host) refl
  where
    case : (b : Bool) → (who.host == host) ≡ b → Runs (slice_set clients host new) who
    case true e =
        let one : who.host ≡ host = same-number who.host host e in
        let old : r.client ≡ c = some-same r.client c (sym r.there ∙ ap (slice_get clients) one ∙ is) in
        record {
          client = new;
          there = ap (slice_get (slice_set clients host new)) one ∙ set-there clients host new c is;
          same = same ∙ ap (λ z. z.who) (sym old) ∙ r.same;
        }
    case false e =
        let apart : who.host ≢ host = λ one. let yes : (who.host == host) ≡ true = number-same who.host host one in absurd (cc) in
        record { client = r.client; there = get-set-other clients host who.host new apart ∙ r.there; same = r.same }

-- what runs goes on where another host's client starts again
other-runs : (clients : List Client) (host : ℕ) (new : Client) (who : Who) → who.host ≢ host → Runs clients who → Runs (slice_set clients host new) who
other-runs clients host new who apart r = record { client = r.client; there = get-set-other clients host who.host new apart ∙ r.there; same = r.same }

-- old entries, where more come and each incarnation goes on that none of those starts again
more-running : (clients others : List Client) (more : List Entry)
    → ((who : Who) (file block number value : ℕ) → ¬ Exists (λ e. Restarts e (W who file block number value false)) more → Runs clients who
    → Runs others who) → (after : List Entry) (e : Entry) (before : List Entry) → IsOfRunning clients after e before
    → IsOfRunning others (after ++ more) e before
more-running clients others more goes after (W who file block number value false) before h = λ none.
    goes who file block number value
    (λ x. none (exists-right (λ e. Restarts e (W who file block number value false)) after more x))
    (h (λ x. none (exists-left (λ e. Restarts e (W who file block number value false)) after more x)))
more-running clients others more goes after other before h = tt

-- a new entry of a client that runs
own-running : (clients : List Client) (who : Who) → Runs clients who → (e : Entry) → IsOwn who e → (after before : List Entry)
    → IsOfRunning clients after e before
own-running clients who r (W by file block number value false) own after before = λ none. subst (Runs clients) (sym own) r
own-running clients who r other own after before = tt

-- ---- a step of a client

stepped-running : (w : World) (host : ℕ) (c : Client) (t : ClientStep) → slice_get w.clients host ≡ Some c → c.who.host ≡ host → t.client.who ≡ c.who
    → ((e : Entry) → In t.entries e → IsOwn t.client.who e) → Running w → Running (after_client w host t)
unfolding after_client
stepped-running w host c t is here same own h =
    added (IsOfRunning (slice_set w.clients host t.client)) t.entries w.journal []
    (λ e i. own-running (slice_set w.clients host t.client) t.client.who now e (own e i))
    (behind (IsOfRunning w.clients) (IsOfRunning (slice_set w.clients host t.client)) (turned t.entries [])
    (more-running w.clients (slice_set w.clients host t.client) (turned t.entries [])
    (λ who file block number value none r. still-runs w.clients host c t.client who is same r))
    [] w.journal h)
  where
    at : t.client.who.host ≡ host
    at = ap (λ z. z.host) same ∙ here

    now : Runs (slice_set w.clients host t.client) t.client.who
    now =
        record {
          client = t.client;
          there = ap (slice_get (slice_set w.clients host t.client)) at
              ∙ set-there w.clients host t.client c is;
          same = λ i. t.client.who;
        }

restarted-running : (w : World) (host : ℕ) (c : Client) → slice_get w.clients host ≡ Some c → c.who.host ≡ host → Running w
    → Running (after_client w host (restart c))
unfolding after_client starts fresh_client
restarted-running w host c is here h = (
  tt,
  behind (IsOfRunning w.clients) (IsOfRunning (slice_set w.clients host (restart c).client)) (B (next_incarnation c.who) ∷ [])
      (more-running w.clients (slice_set w.clients host (restart c).client) (B (next_incarnation c.who) ∷ [])
      (λ who file block number value none r. other-runs w.clients host (restart c).client who (λ one. none (inl (here ∙ sym one))) r))
      [] w.journal h,
)

-- ---- a step of the server

-- it makes no delayed write
not-delayed : (clients : List Client) (e : Entry) → IsQuiet e → (after before : List Entry) → IsOfRunning clients after e before
not-delayed clients (W who file block number value through) quiet after before = absurd quiet
not-delayed clients other quiet after before = tt

of-one : (clients : List Client) (x e : Entry) → ((after before : List Entry) → IsOfRunning clients after x before) → In (x ∷ []) e
    → (after before : List Entry) → IsOfRunning clients after e before
of-one clients x e so (inl one) after before = subst (λ z. IsOfRunning clients after z before) one (so after before)
of-one clients x e so (inr bad) after before = absurd bad

none-delayed : (clients : List Client) (ps : List Packet) (s : Server) (t : ServerStep) → Moves ps s t → (e : Entry) → In t.entries e
    → (after before : List Entry) → IsOfRunning clients after e before
none-delayed clients ps s t (same_lines quiet same) e i = not-delayed clients e (quiet e i)
none-delayed clients ps s t (attaches_one quiet k) e i = not-delayed clients e (quiet e i)
none-delayed clients ps s t (decides_one k) e i = case k.effects i
  where
    case : Effects k.w k.r (host_row t.server.kept k.w.host).verdict t.entries → In t.entries e → (after before : List Entry)
        → IsOfRunning clients after e before
    case (without quiet why) there = not-delayed clients e (quiet e there)
    case (goes_through sq f b first last bd asks is) there =
        of-one clients (W k.w f b first (value_of bd) true) e (λ after before. tt) (subst (λ es. In es e) is there)
    case (pushes sq f b first last now base bd asks done is) there =
        of-one clients (S k.w f b first last now) e (λ after before. tt) (subst (λ es. In es e) is there)

server-running : (w : World) (t : ServerStep) → ServerTells w.packets w.server t → Running w → Running (after_server w t)
unfolding after_server
server-running w t tells h =
    added (IsOfRunning w.clients) t.entries w.journal [] (none-delayed w.clients w.packets w.server t tells.moves)
    (behind (IsOfRunning w.clients) (IsOfRunning w.clients) (turned t.entries [])
    (more-running w.clients w.clients (turned t.entries []) (λ who file block number value none r. r)) [] w.journal h)

-- ---- every run

running-keeps : (most : ℕ) (head : Head) → Keeps most head Running
unfolding start
running-keeps most head = record {
  starts = λ b. tt;
  called =
      λ events host c op during is h. stepped-running (run head events) host c (client_call c op) is (here events host c is)
      (call-still host c (run head events).packets op ((run-holds head events).clients host c is)).same
      (mid-call-step c op (before events host c during.bounds during.within is)).own h;
  ticked =
      λ events host c during is h. stepped-running (run head events) host c (client_tick c (c.now + 1)) is (here events host c is)
      (tick-still host c (run head events).packets ((run-holds head events).clients host c is)).same
      (mid-tick-step c (c.now + 1) (λ ticket has. (((run-holds head events).clients host c is).mail.own ticket has).sent)
      (before events host c during.bounds during.within is)).own h;
  restarted = λ events host c during is h. restarted-running (run head events) host c is (here events host c is) h;
  heard = λ events k p host c t during sent to is hears h.
      let told : Told (run head events).packets host p.message = to-told (run head events).packets p host
      ((run-holds head events).sent p (in-get (run head events).packets k p sent)) to (in-get (run head events).packets k p sent) in
      stepped-running (run head events) host c t is (here events host c is)
      (hear-same (run head events) host c k p.message t hears told ((run-holds head events).clients host c is))
      (mid-hears c k p.message t hears (replies-known most head events during.bounds during.within host c is p.message told)
      (before events host c during.bounds during.within is)).own h;
  received =
      λ events k p during sent to h. server-running (run head events) _
      (received-tells head.hosts most (run head events) events p (in-get (run head events).packets k p sent) to (run-holds head events)
      (run-runs most head events during.bounds during.within)) h;
  server_ticked = λ events during h. server-running (run head events) _ (tick-tells (run head events).packets (run head events).server _) h;
  crashed = λ events longest during long few h. server-running (run head events) _ (crash-tells (run head events).packets (run head events).server longest) h;
} where
  here : (events : List Event) (host : ℕ) (c : Client) → client_at head events host ≡ Some c → c.who.host ≡ host
  here events host c is = ((run-holds head events).clients host c is).here

  before : (events : List Event) (host : ℕ) (c : Client) → KeepsBounds most head events → IsWithinSkew head.hosts most events
      → client_at head events host ≡ Some c
      → Mid (host_row (run head events).server.kept host) (run head events).packets (run head events).journal (begun c)
  before events host c b within is = let h = writes-fit most head events b within in mid-begins c (h.clients host c is) h.journal

pub writes-run : (most : ℕ) (head : Head) (events : List Event) → KeepsBounds most head events → IsWithinSkew head.hosts most events
    → Running (run head events)
writes-run most head events b within = run-keeps (running-keeps most head) events b within
