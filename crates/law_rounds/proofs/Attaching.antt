-- A client that is not attached asks to be, until it is; then it stays so. And each ATTACH of it is answered.
use Rattle.std.proofs.Common.{◌≡◌, ◌≤◌, ◌<◌, ℕ, ◌+◌, ◌==◌, ◌&&◌, nat_lt, true, false, List, [], ◌∷◌, Some, if◌then◌else◌, refl, sym, subst, arith}
use Rattle.std.proofs.lemmas.Bool.{and_from}
use Rattle.std.proofs.lemmas.Bool.Decides.{nat_tests}
use Rattle.nq_base.specs.declared.Grant.{Grant}
use Rattle.nq_base.specs.declared.Reply.{Reply}
use Rattle.nq_base.specs.declared.Request.{Request}
use Rattle.nq_base.specs.declared.Tag.{Tag}
use Rattle.nq_base.specs.declared.Who.{Who}
use Rattle.nq_model.specs.protocol.Client.{Client, ClientStep}
use Rattle.nq_model.specs.protocol.ClientStep.{at_time, client_tick}
use Rattle.nq_model.specs.protocol.Hear.{hear, attached}
use Rattle.nq_model.specs.protocol.Kept.{can_be_kept, host_row}
use Rattle.nq_model.specs.protocol.Message.{Message, Packet, call, reply, datagram_of, out_of_bounds, old_incarnation, wrong_host}
use Rattle.nq_model.specs.protocol.Profile.{inc_end, most_hosts}
use Rattle.nq_model.specs.protocol.Server.{Server, ServerStep, drops, says, replies, to_host}
use Rattle.nq_model.specs.protocol.ServerStep.{row_of_attach, attaches, attach_later, admit, receive}
use Rattle.walk_steps.proofs.ClientCases.{Core, Closed}
use Rattle.walk_steps.proofs.ClientFacts.{Alone}
use Rattle.walk_steps.proofs.ClientWalk.{reply-keeps, notice-keeps, tick-keeps}
use Rattle.walk_steps.proofs.StepCases.{heard-cases}
use Rattle.walk_steps.proofs.Packets.{Told}
use Rattle.walk_steps.proofs.Worlds.{IsAt, given-by}
use Rattle.walk_steps.proofs.Rows.{choice, number-same}

-- ---- who is attached stays so

on-closed : (Heard : ℕ → Tag → Type 0) (Given : ℕ → Grant → ℕ → Type 0) → Closed Heard Given (λ (k : Core). k.attached ≡ true)
on-closed Heard Given = record {
  uses = λ k file g. g;
  drops = λ k file g. g;
  vacates = λ k file tag can g. g;
  asks = λ k job request no_seq can g. g;
  decides = λ k job request seq can g. g;
  again = λ k t is g. g;
  holds = λ k file gr sent given free unnoticed g. g;
  cancels = λ k file g. g;
  notes = λ k file tag heard g. g;
}

abbrev NoneHeard : ℕ → Tag → Type 0
NoneHeard file tag = ⊥

abbrev SomeHeard : ℕ → Tag → Type 0
SomeHeard file tag = Unit {0}

abbrev NoneGiven : ℕ → Grant → ℕ → Type 0
NoneGiven file g sent = ⊥

pub hear-stays : (host : ℕ) (c : Client) (ps : List Packet) (k : ℕ) (m : Message) (t : ClientStep) → IsAt host c ps → Told ps host m → c.attached
    ≡ true → hear c k m ≡ Some t → t.client.attached ≡ true
hear-stays host c ps k m t a sent on hears = heard-cases c k m t (λ u. u.client.attached ≡ true) hears (record {
  answered = λ xid r ticket is asks own inc counts.
      let there : Told ps c.who.host (reply xid r) = subst (λ h. Told ps h (reply xid r)) (sym a.here) (subst (λ n. Told ps host n) is sent) in
      (reply-keeps (on-closed NoneHeard (given-by ticket)) c k ticket r (record {
        asked = asks;
        counts = counts;
        alone = a.alone;
        spent = λ other. on;
        attached = λ job. refl;
        brings = λ file on_file g grants. (on_file, (a.mail.replied xid r there inc).wants ticket asks (sym own) g grants file on_file);
        only = λ file g at given. given;
      })).core;
  noticed = λ xid file tag is older. (notice-keeps (on-closed SomeHeard NoneGiven) c file tag tt (λ g at bad. bad) a.alone on).core;
})

pub tick-stays : (c : Client) → Alone c → c.attached ≡ true → (client_tick c (c.now + 1)).client.attached ≡ true
unfolding at_time
tick-stays c alone on = (tick-keeps (on-closed NoneHeard NoneGiven) c (c.now + 1) (omega arith) alone on).core

-- ---- the server answers ATTACH

pub attach-answered : (s : Server) (next xid : ℕ) (who : Who) → who.host < most_hosts → (host_row s.kept who.host).inc ≤ who.inc → who.inc < inc_end
    → (receive s who.host next (datagram_of (call xid (Request.Attach who)))).sends ≡ to_host who.host (reply xid (Reply.Attach who.inc)) ∷ []
unfolding drops says attaches
attach-answered s next xid who few past small =
    let line = host_row s.kept who.host in
    choice (λ (t : ServerStep). t.sends ≡ to_host who.host (reply xid (Reply.Attach who.inc)) ∷ []) (who.host == who.host && nat_lt who.host
    most_hosts) (admit s who xid next (Request.Attach who) line) (drops s wrong_host)
    (λ e. choice (λ (t : ServerStep). t.sends ≡ to_host who.host (reply xid (Reply.Attach who.inc)) ∷ []) (nat_lt line.inc who.inc)
    (attach_later s who xid) (if nat_lt who.inc line.inc then drops s old_incarnation else replies s who.host xid (Reply.Attach who.inc))
    (λ later. choice (λ (t : ServerStep). t.sends ≡ to_host who.host (reply xid (Reply.Attach who.inc)) ∷ []) (can_be_kept (row_of_attach who))
    (attaches s who xid) (drops s out_of_bounds) (λ can. refl) (λ cannot. absurd (let can = kept in cc)))
    (λ same. choice (λ (t : ServerStep). t.sends ≡ to_host who.host (reply xid (Reply.Attach who.inc)) ∷ []) (nat_lt who.inc line.inc)
    (drops s old_incarnation) (replies s who.host xid (Reply.Attach who.inc)) (λ old. absurd (let no = not_old in cc)) (λ current. refl)))
    (λ e. absurd (let yes = own in cc))
  where
    own : (who.host == who.host && nat_lt who.host most_hosts) ≡ true
    own =
        let a : (who.host == who.host) ≡ true = number-same who.host who.host refl in
        let b : nat_lt who.host most_hosts ≡ true = grind (arith, nat_tests) in
        and_from _ _ a b

    kept : can_be_kept (row_of_attach who) ≡ true
    kept = let low : nat_lt who.inc inc_end ≡ true = grind (arith, nat_tests) in rw low refl

    not_old : nat_lt who.inc (host_row s.kept who.host).inc ≡ false
    not_old = grind (arith, nat_tests)
