-- Live clients that sleep: they have no delayed writes, so a recovery behind the rows of its last table stores none of theirs.
use Rattle.std.proofs.Common.{◌≡◌, ℕ, not, true, false, List, Some, sym, subst, ap, ◌∙◌}
use Rattle.std.specs.Prelude.{slice_get}
use Rattle.std.proofs.lemmas.Bool.{and_parts, not-true}
use Rattle.nq_base.specs.declared.Party.{Party}
use Rattle.nq_model.specs.protocol.Client.{Client}
use Rattle.nq_model.specs.protocol.Message.{Packet}
use Rattle.nq_model.specs.protocol.World.{World, sending_host}
use Rattle.walk_steps.proofs.Worlds.{IsSent, by_host}
use Rattle.law_rounds.proofs.Sleeping.{Asleep}
use Rattle.law_timely.specs.Timely.{is_dead, lives, goes_on_live_link}

-- all clients of live hosts are attached, have no delayed writes, and no running lease to write
abbrev pub LiveAsleep : (dead : List ℕ) → World → Type 0
LiveAsleep dead w =
    (host : ℕ) (c : Client) → is_dead dead host ≡ false → slice_get w.clients host ≡ Some c → Asleep c × (c.attached ≡ true)

-- who sent what goes to the server on a live link
pub live-sender : (dead : List ℕ) (q : Packet) → IsSent q → q.to ≡ Party.Server → goes_on_live_link dead (Some q) ≡ true
    → is_dead dead (sending_host q.sender) ≡ false
live-sender dead q (by_host h x r w e asks) to link =
    let parts = and_parts (lives dead q.sender) (lives dead q.to) link in
    let own : not (is_dead dead h) ≡ true = ap (λ (z : Packet). lives dead z.sender) (sym e) ∙ parts.0 in
    subst (λ n. is_dead dead n ≡ false) (ap (λ (z : Packet). sending_host z.sender) (sym e)) (not-true (is_dead dead h) own)
live-sender dead q (IsSent.by_server h m e) to link = let two : Party.Client h ≡ Party.Server = ap (λ (z : Packet). z.to) (sym e) ∙ to in absurd (cc)
