-- In every run `dirtyfull` has its cause, and `lost` names some write.
use Rattle.std.proofs.Common.{◌≡◌, ℕ, ◌+◌, List, [], ◌∷◌, ◌++◌, Some, length, sym, subst, inl, inr}
use Rattle.std.specs.Prelude.{slice_get}
use Rattle.nq_base.specs.declared.Entry.{Entry}
use Rattle.nq_base.specs.declared.Event.{Event}
use Rattle.nq_base.specs.declared.Said.{Said}
use Rattle.nq_base.specs.declared.Who.{Who}
use Rattle.law_runs.proofs.Standings.{answers-in-every-run}
use Rattle.nq_laws.proofs.FullSteps.{IsWell, call-well, tick-well, hear-well, restart-well}
use Rattle.nq_laws.proofs.Pushing.{HasPush, pushes-are-had}
use Rattle.nq_laws.proofs.ServerEntries.{IsNoAnswer, NoneAnswers, receive-answers-none, tick-answers-none, crash-answers-none}
use Rattle.nq_model.specs.laws.LossesAreNamed.{IsLostNaming, LossesAreNamed, LossesAreNamedInEveryRun}
use Rattle.nq_model.proofs.Lists.{each-map, each-append, exists-right}
use Rattle.nq_model.specs.laws.AnswersAreOfTheirCalls.{IsAnswerOfCall}
use Rattle.nq_model.specs.protocol.Client.{Client, ClientStep}
use Rattle.nq_model.specs.laws.FullHasItsCause.{IsFull, IsFullSo, FullHasItsCause}
use Rattle.nq_model.specs.laws.Journal.{Each, Exists, Throughout, IsCall, IsAnswer}
use Rattle.nq_model.specs.protocol.Message.{datagram_of}
use Rattle.nq_model.specs.protocol.Server.{ServerStep}
use Rattle.nq_model.specs.protocol.World.{Head, World, after_server, after_client, sending_host, start, run}
use Rattle.walk_steps.proofs.ClientFacts.{Alone}
use Rattle.walk_steps.proofs.RunCases.{During}
use Rattle.walk_steps.proofs.Steps.{Changes, nothing, by_client, by_server, ClientActs, called, ticked, restarted, heard, ServerActs, received, ticks}
use Rattle.walk_steps.proofs.Steps.{crashes, run-goes}
use Rattle.walk_steps.proofs.Worlds.{run-holds}

later-full : (head : Head) (event : Event) (earlier : List Event) (e : Entry) → IsFullSo head earlier e → IsFullSo head (event ∷ earlier) e
later-full head event earlier (Entry.A who q Said.DirtyFull) so = inr so
later-full head event earlier other so = tt

no-answer-full : (head : Head) (events : List Event) (e : Entry) → IsNoAnswer e → IsFullSo head events e
no-answer-full head events (Entry.A who q said) none = absurd none
no-answer-full head events other none = tt

server-none : (w : World) (t : ServerStep) → ServerActs w t → NoneAnswers t.entries
server-none w t (received k p sent to is) = subst (λ (s : ServerStep). NoneAnswers s.entries) (sym is)
    (receive-answers-none w.server (sending_host p.sender) (length w.packets) (datagram_of p.message))
server-none w t (ticks is) = subst (λ (s : ServerStep). NoneAnswers s.entries) (sym is) (tick-answers-none w.server (w.server.now + 1))
server-none w t (crashes longest is) = subst (λ (s : ServerStep). NoneAnswers s.entries) (sym is) (crash-answers-none w.server longest)

client-well : (w : World) (host : ℕ) (c : Client) (t : ClientStep) → ClientActs w host c t → Alone c → HasPush c → Each (IsWell c) t.entries
client-well w host c t (called op is) alone had = subst (λ (s : ClientStep). Each (IsWell c) s.entries) (sym is) (call-well c op)
client-well w host c t (ticked is) alone had = subst (λ (s : ClientStep). Each (IsWell c) s.entries) (sym is) (tick-well c (c.now + 1))
client-well w host c t (restarted is) alone had = subst (λ (s : ClientStep). Each (IsWell c) s.entries) (sym is) (restart-well c)
client-well w host c t (heard k p sent to hears) alone had = hear-well c k p.message t alone had hears

module _ (most : ℕ) (head : Head) (event : Event) (earlier : List Event) (during : During most head event earlier)
    (g : Each (IsFullSo head earlier) (run head earlier).journal) where
  abbrev w : World
  w = run head earlier

  abbrev v : World
  v = run head (event ∷ earlier)

  old : Each (IsFullSo head (event ∷ earlier)) w.journal
  old = each-map (IsFullSo head earlier) (IsFullSo head (event ∷ earlier)) w.journal (λ e so. later-full head event earlier e so) g

  -- new entries of a client
  module _ (host : ℕ) (c : Client) (at : slice_get w.clients host ≡ Some c) where
    here : slice_get w.clients c.who.host ≡ Some c
    here = subst (λ h. slice_get w.clients h ≡ Some c) (sym ((run-holds head earlier).clients host c at).here) at

    one : (e : Entry) (before : List Entry) → IsWell c e → IsAnswerOfCall e (before ++ w.journal)
        → ((who : Who) (q : ℕ) → Exists (IsCall who q) (before ++ w.journal) → Exists (IsCall who q) v.journal) → IsFullSo head (event ∷ earlier) e
    one (Entry.A who q Said.DirtyFull) before well answered up =
        let full : IsFull who w = record {
          client = c;
          runs = subst (λ (x : Who). slice_get w.clients x.host ≡ Some c) (sym well.0) here;
          same = sym well.0;
          full = well.1;
        } in
        inl (full, up who q answered.0.0, λ a. answered.0.1 (exists-right (IsAnswer who q) before w.journal a))
    one other before well answered up = tt

    new : (es : List Entry) → Each (IsWell c) es → Throughout IsAnswerOfCall (es ++ w.journal)
        → ((who : Who) (q : ℕ) → Exists (IsCall who q) (es ++ w.journal) → Exists (IsCall who q) v.journal)
        → Each (IsFullSo head (event ∷ earlier)) es
    new [] well answered up = tt
    new (e ∷ es) well answered up =
        (one e es well.0 answered.0 (λ who q h. up who q (inr h)), new es well.1 answered.1 (λ who q h. up who q (inr h)))

  changed : Changes w v → Each (IsFullSo head (event ∷ earlier)) v.journal
  unfolding after_client after_server
  changed (nothing is) = subst (λ (z : World). Each (IsFullSo head (event ∷ earlier)) z.journal) (sym is) old
  changed (by_server t acts is) =
      subst (λ (z : World). Each (IsFullSo head (event ∷ earlier)) z.journal) (sym is)
      (each-append (IsFullSo head (event ∷ earlier)) t.entries w.journal
      (each-map IsNoAnswer (IsFullSo head (event ∷ earlier)) t.entries (λ e none. no-answer-full head (event ∷ earlier) e none) (server-none w t acts)) old)
  changed (by_client host c t at acts is) =
      subst (λ (z : World). Each (IsFullSo head (event ∷ earlier)) z.journal) (sym is)
      (each-append (IsFullSo head (event ∷ earlier)) t.entries w.journal
      (new host c at t.entries (client-well w host c t acts ((run-holds head earlier).clients host c at).alone (pushes-are-had head earlier host c at))
      (subst (λ (z : World). Throughout IsAnswerOfCall z.journal) is
      (answers-in-every-run most head (event ∷ earlier) during.bounds_after during.within_after))
      (λ who q h. subst (λ (z : World). Exists (IsCall who q) z.journal) (sym is) h)) old)

starts-full : (head : Head) → Each (IsFullSo head []) (start head).journal
unfolding start
starts-full head = tt

pub full-has-its-cause : FullHasItsCause
full-has-its-cause most head events bounds within =
    run-goes most head (λ es. Each (IsFullSo head es) (run head es).journal) (λ b. starts-full head)
    (λ e es during changes g. changed most head e es during g changes) events bounds within

-- ---- `lost` names some write

no-answer-named : (e : Entry) → IsNoAnswer e → IsLostNaming e
no-answer-named (Entry.A who q said) none = absurd none
no-answer-named other none = tt

well-named : (c : Client) (e : Entry) → IsWell c e → IsLostNaming e
well-named c (Entry.A who q (Said.Lost spans)) well = well
well-named c other well = tt

module _ (head : Head) (events : List Event) (g : LossesAreNamed (run head events).journal) where
  named : (w : World) → Changes (run head events) w → LossesAreNamed w.journal
  unfolding after_client after_server
  named w (nothing is) = subst (λ (z : World). LossesAreNamed z.journal) (sym is) g
  named w (by_server t acts is) =
      subst (λ (z : World). LossesAreNamed z.journal) (sym is)
      (each-append IsLostNaming t.entries (run head events).journal
      (each-map IsNoAnswer IsLostNaming t.entries (λ e none. no-answer-named e none) (server-none (run head events) t acts)) g)
  named w (by_client host c t at acts is) =
      subst (λ (z : World). LossesAreNamed z.journal) (sym is)
      (each-append IsLostNaming t.entries (run head events).journal
      (each-map (IsWell c) IsLostNaming t.entries (λ e well. well-named c e well)
      (client-well (run head events) host c t acts ((run-holds head events).clients host c at).alone (pushes-are-had head events host c at))) g)

starts-named : (head : Head) → LossesAreNamed (start head).journal
unfolding start
starts-named head = tt

pub losses-are-named : LossesAreNamedInEveryRun
losses-are-named most head events bounds within =
    run-goes most head (λ es. LossesAreNamed (run head es).journal) (λ b. starts-named head)
    (λ e es during changes g. named head es g (run head (e ∷ es)) changes) events bounds within
