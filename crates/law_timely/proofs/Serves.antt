-- A server that serves puts off no LOOKUP, GETATTR and CREATE of an attached client, but for a CREATE that was put off before.
use Rattle.std.proofs.Common.{◌≡◌, ◌≤◌, ◌<◌, ◌⊎◌, ℕ, ◌+◌, ◌==◌, ◌&&◌, ◌||◌, nat_lt, nat_le, is_some, true, false, List, [], ◌∷◌, ◌++◌, Option, Some, None}
use Rattle.std.proofs.Common.{length, refl, sym, subst, ap, ◌∙◌, arith, inl, inr}
use Rattle.nq_base.specs.declared.HostRow.{HostRow}
use Rattle.nq_base.specs.declared.Refusal.{Refusal}
use Rattle.nq_base.specs.declared.Reply.{Reply}
use Rattle.nq_base.specs.declared.Request.{Request}
use Rattle.nq_base.specs.declared.Verdict.{Verdict}
use Rattle.nq_base.specs.declared.Who.{Who}
use Rattle.nq_model.specs.protocol.Decide.{Decision, decides, creates, decide_create, decide_in, decide, verdict_reply, row_after, commits, commits_within}
use Rattle.nq_model.specs.protocol.Decide.{decided_once}
use Rattle.nq_model.specs.protocol.Hear.{is_put_off}
use Rattle.nq_model.specs.protocol.Kept.{File, blocks_of, blocks_in_all, find_file, find_name, can_be_kept, host_row, with_row, with_new_file}
use Rattle.nq_model.specs.protocol.Message.{Packet, Reason, request, reply, asker, sequence_of, old_incarnation, wrong_host, out_of_bounds}
use Rattle.nq_model.specs.protocol.Profile.{most_hosts, most_files, most_blocks, most_blocks_of_file, most_ids}
use Rattle.nq_model.specs.protocol.Server.{Phase, serving, recovering, Server, ServerStep, to_host, says, drops, replies, refuses, keeping}
use Rattle.nq_model.specs.protocol.ServerStep.{look_up, get_attr, look, perform, not_attached, is_attach, admit, answer_request, receive}
use Rattle.walk_steps.proofs.KeptChanges.{own-line}
use Rattle.walk_steps.proofs.Packets.{In, reply-same}
use Rattle.walk_steps.proofs.Rows.{choice, same-number}
use Rattle.walk_steps.proofs.Tests.{is-below}
use Rattle.law_rounds.specs.QuietDeliveries.{recovers}
use Rattle.law_timely.proofs.Looks.{is_look}

-- a step puts nothing off, and keeps no verdict of the host that does
pub record PutsNoneOff (s : Server) (host : ℕ) (t : ServerStep) : Type 0 where
  pub sends : (p : Packet) → In t.sends p → (x inc : ℕ) (st : Refusal) → p.message ≡ reply x (Reply.Refused inc st) → is_put_off st ≡ true → ⊥
  pub keeps : (host_row t.server.kept host ≡ host_row s.kept host) ⊎ ((host_row t.server.kept host).verdict ≡ Verdict.TryLater → ⊥)

status-same : (i j : ℕ) (a b : Refusal) → Reply.Refused i a ≡ Reply.Refused j b → a ≡ b
status-same i j a b e = cc

pub phase-serves : (phase : Phase) → recovers phase ≡ false → phase ≡ serving
phase-serves serving e = refl
phase-serves (recovering until heard last) e = absurd (cc)

-- a reply that a client takes for an answer
abbrev IsFinal : Reply → Type 0
IsFinal a = (inc : ℕ) (st : Refusal) → a ≡ Reply.Refused inc st → is_put_off st ≡ false

final-refusal : (i : ℕ) (a : Refusal) → is_put_off a ≡ false → IsFinal (Reply.Refused i a)
final-refusal i a final inc st e = ap is_put_off (sym (status-same i inc a st e)) ∙ final

-- a kept verdict on a CREATE is final, unless the request was put off
kept-final : (inc value seq blocks : ℕ) (who : Who) (name : List ℕ) (v : Verdict) → (v ≡ Verdict.TryLater → ⊥)
    → IsFinal (verdict_reply inc v value (Request.Create who seq name blocks))
kept-final inc value seq blocks who name Verdict.Done final = λ i st e. absurd (cc)
kept-final inc value seq blocks who name Verdict.Fenced final = final-refusal inc Refusal.Fenced refl
kept-final inc value seq blocks who name Verdict.Exist final = final-refusal inc Refusal.Exist refl
kept-final inc value seq blocks who name Verdict.NoSpace final = final-refusal inc Refusal.NoSpc refl
kept-final inc value seq blocks who name Verdict.Invalid final = final-refusal inc Refusal.Inval refl
kept-final inc value seq blocks who name Verdict.Stale final = final-refusal inc Refusal.Stale refl
kept-final inc value seq blocks who name Verdict.TryLater final = absurd (final refl)

one-final : (h x : ℕ) (a : Reply) → IsFinal a → (p : Packet) → (to_host h (reply x a) ≡ p) ⊎ ⊥ → (y inc : ℕ) (st : Refusal)
    → p.message ≡ reply y (Reply.Refused inc st) → is_put_off st ≡ true → ⊥
one-final h x a final p (inl e) y inc st is off =
    let same = reply-same x y a (Reply.Refused inc st) (ap (λ (q : Packet). q.message) e ∙ is) in
    let no = final inc st same.1 in
    absurd (cc)
one-final h x a final p (inr none) y inc st is off = none

module _ (s : Server) (host : ℕ) where
  says-final : (h x : ℕ) (a : Reply) → IsFinal a → PutsNoneOff s host (replies s h x a)
  unfolding says
  says-final h x a final = record { sends = one-final h x a final; keeps = inl refl }

  dropped : (reason : Reason) → PutsNoneOff s host (drops s reason)
  unfolding drops
  dropped reason = record { sends = λ p i x inc st is off. i; keeps = inl refl }

  looked-up : (who : Who) (x : ℕ) (o : Option File) → PutsNoneOff s host (look_up s who x o)
  looked-up who x None = says-final who.host x (Reply.Refused who.inc Refusal.NoEnt) (final-refusal who.inc Refusal.NoEnt refl)
  looked-up who x (Some f) = says-final who.host x (Reply.Lookup who.inc f.id (blocks_of f)) (λ inc st e. absurd (cc))

  told-attributes : (who : Who) (x : ℕ) (o : Option File) → PutsNoneOff s host (get_attr s who x o)
  told-attributes who x None = says-final who.host x (Reply.Refused who.inc Refusal.Stale) (final-refusal who.inc Refusal.Stale refl)
  told-attributes who x (Some f) = says-final who.host x (Reply.GetAttr who.inc (blocks_of f) f.rev) (λ inc st e. absurd (cc))

  -- ---- CREATE

  -- a decision that sends nothing and is final
  record IsSilent (d : Decision) : Type 0 where
    sends : d.sends ≡ []
    final : d.verdict ≡ Verdict.TryLater → ⊥
    hosts : d.server.kept.hosts ≡ s.kept.hosts

  made : (name : List ℕ) (blocks : ℕ) → IsSilent (decide_create s name blocks)
  unfolding decides creates keeping with_new_file
  made name blocks =
      choice IsSilent (blocks == 0 || nat_lt most_blocks_of_file blocks) (decides s Verdict.Invalid) _
      (λ e. record { sends = refl; final = λ f. cc; hosts = refl })
      (λ e. choice IsSilent (is_some (find_name name s.kept.files)) (decides s Verdict.Exist) _
      (λ f. record { sends = refl; final = λ g. cc; hosts = refl })
      (λ f. choice IsSilent (nat_le most_files (length s.kept.files) || nat_lt most_blocks (blocks_in_all s.kept.files + blocks)
      || nat_le most_ids s.kept.next) (decides s Verdict.NoSpace) (creates s name blocks)
      (λ g. record { sends = refl; final = λ h. cc; hosts = refl })
      (λ g. record { sends = refl; final = λ h. cc; hosts = refl })))

  module _ (who : Who) (seq x : ℕ) (name : List ℕ) (blocks : ℕ) where
    abbrev create : Request
    create = Request.Create who seq name blocks

    committed : (d : Decision) → IsSilent d → who.host ≡ host → host < length s.kept.hosts → PutsNoneOff s host (commits who seq x create d)
    unfolding commits keeping
    committed d q here low = record {
      sends = λ p i. one-final who.host x (verdict_reply who.inc d.verdict d.value create) (kept-final who.inc d.value seq blocks who name d.verdict
          q.final) p (subst (λ ps. In (ps ++ to_host who.host (reply x (verdict_reply who.inc d.verdict d.value create)) ∷ []) p) q.sends i);
      keeps = inr (λ later. q.final (ap (λ (r : HostRow). r.verdict) (sym row) ∙ later));
    }
      where
        row : host_row (with_row d.server.kept who.host (row_after who seq d)) host ≡ row_after who seq d
        row = ap (host_row (with_row d.server.kept who.host (row_after who seq d))) (sym here) ∙ own-line d.server.kept who.host (row_after who seq d)
            (subst (λ hs. who.host < length hs) (sym q.hosts) (subst (λ n. n < length s.kept.hosts) (sym here) low))

    within : (d : Decision) → IsSilent d → who.host ≡ host → host < length s.kept.hosts → PutsNoneOff s host (commits_within s who seq x create d)
    within d q here low = choice (PutsNoneOff s host) (can_be_kept (row_after who seq d)) (commits who seq x create d) (drops s out_of_bounds)
        (λ e. committed d q here low) (λ e. dropped out_of_bounds)

    created : (line : HostRow) → s.phase ≡ serving → who.host ≡ host → host < length s.kept.hosts → line.seq ≤ seq
        → (line.seq ≡ seq → line.verdict ≡ Verdict.TryLater → ⊥) → PutsNoneOff s host (decided_once s who seq x create line)
    created line serves here low ordered final =
        choice (PutsNoneOff s host) (seq == line.seq) (replies s who.host x (verdict_reply who.inc line.verdict line.value create)) _
        (λ e. says-final who.host x (verdict_reply who.inc line.verdict line.value create) (kept-final who.inc line.value seq blocks who name
        line.verdict (final (sym (same-number seq line.seq e)))))
        (λ e. choice (PutsNoneOff s host) (nat_lt seq line.seq) (refuses s who x Refusal.Old) (commits_within s who seq x create (decide s who create))
        (λ f. let below = is-below seq line.seq f in absurd (omega arith))
        (λ f. within (decide s who create) (subst (λ phase. IsSilent (decide_in s phase who create)) (sym serves) (made name blocks)) here low))

  -- ---- whatever is asked

  module _ (who : Who) (x next : ℕ) (serves : recovers s.phase ≡ false) (here : who.host ≡ host) (low : host < length s.kept.hosts)
      (current : (host_row s.kept host).inc ≡ who.inc) where
    abbrev line : HostRow
    line = host_row s.kept who.host

    same-line : host_row s.kept who.host ≡ host_row s.kept host
    same-line = ap (host_row s.kept) here

    admitted : (r : Request) → is_attach r ≡ false → PutsNoneOff s host (perform s who x next line r) → PutsNoneOff s host (admit s who x next r line)
    admitted r other performed =
        let now : line.inc ≡ who.inc = ap (λ (l : HostRow). l.inc) same-line ∙ current in
        choice (PutsNoneOff s host) (is_attach r) _ _ (λ e. absurd (let no : true ≡ false = sym e ∙ other in cc))
        (λ e. choice (PutsNoneOff s host) (nat_lt who.inc line.inc) (drops s old_incarnation) _ (λ f. dropped old_incarnation)
        (λ f. choice (PutsNoneOff s host) (nat_lt line.inc who.inc) (not_attached s who x r) (perform s who x next line r)
        (λ g. let below = is-below line.inc who.inc g in absurd (omega arith)) (λ g. performed)))

    performed : (r : Request) → asker r ≡ Some who → is_look r ≡ true → ((n : ℕ) → sequence_of r ≡ Some n → (host_row s.kept host).seq ≤ n)
        → ((n : ℕ) → sequence_of r ≡ Some n → (host_row s.kept host).seq ≡ n → (host_row s.kept host).verdict ≡ Verdict.TryLater → ⊥)
        → PutsNoneOff s host (admit s who x next r line)
    performed (Request.Lookup w name) asks looks ordered final = admitted (Request.Lookup w name) refl
        (subst (λ phase. PutsNoneOff s host (look s phase who x next (Request.Lookup w name))) (sym (phase-serves s.phase serves))
        (looked-up who x (find_name name s.kept.files)))
    performed (Request.GetAttr w file) asks looks ordered final = admitted (Request.GetAttr w file) refl
        (subst (λ phase. PutsNoneOff s host (look s phase who x next (Request.GetAttr w file))) (sym (phase-serves s.phase serves))
        (told-attributes who x (find_file file s.kept.files)))
    performed (Request.Create w seq name blocks) asks looks ordered final =
        let mine : who ≡ w = sym (some-who w who asks) in
        admitted (Request.Create w seq name blocks) refl
        (subst (λ v. PutsNoneOff s host (decided_once s who seq x (Request.Create v seq name blocks) line)) mine
        (created who seq x name blocks line (phase-serves s.phase serves) here low
        (subst (λ (l : HostRow). l.seq ≤ seq) (sym same-line) (ordered seq refl))
        (subst (λ (l : HostRow). l.seq ≡ seq → l.verdict ≡ Verdict.TryLater → ⊥) (sym same-line) (final seq refl))))
      where
        some-who : (a b : Who) → Some a ≡ Some b → a ≡ b
        some-who a b e = cc
    performed other asks looks ordered final = absurd (let no : false ≡ true = looks in cc)

    pub puts-none-off : (r : Request) → asker r ≡ Some who → is_look r ≡ true → ((n : ℕ) → sequence_of r ≡ Some n → (host_row s.kept host).seq ≤ n)
        → ((n : ℕ) → sequence_of r ≡ Some n → (host_row s.kept host).seq ≡ n → (host_row s.kept host).verdict ≡ Verdict.TryLater → ⊥)
        → PutsNoneOff s host (receive s host next (request x r))
    puts-none-off r asks looks ordered final =
        subst (λ o. PutsNoneOff s host (answer_request s host x next r o)) (sym asks)
        (choice (PutsNoneOff s host) (who.host == host && nat_lt who.host most_hosts) (admit s who x next r line) (drops s wrong_host)
        (λ e. performed r asks looks ordered final) (λ e. dropped wrong_host))
