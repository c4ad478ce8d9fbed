-- A keeper that tells what it keeps goes on telling it while turns go on, also where the link stopped one that is borne.
use Rattle.std.proofs.Common.{◌≡◌, ◌∙◌, ℕ, Bool, Option, Some, Result, Ok, Err, nat_lt, refl, sym, ap, subst}
use Rattle.nq_serving.specs.Turning.{Standing, TakesTurn, behind_turn}
use Rattle.nq_serving.specs.declared.turning.LinkPolicy.{LinkPolicy}
use Rattle.nq_model.specs.protocol.Kept.{Kept}
use Rattle.nq_serving.specs.Extending.{Extension}
use Rattle.nq_serving.proofs.Leaves.{Tells, came_tells, taken_tells}
use Rattle.nq_serving.proofs.ServerTurns.{not_link}
use Rattle.nq_link.specs.Links.{LinkTold}
use Rattle.nq_serving.specs.ServerTurn.{Given, GoesOn, Receives, Sends, Takes, tick_due}
use Rattle.nq_serving.specs.declared.node.Node.{Node}
use Rattle.nq_base.specs.declared.ending.fault.Fault.{Fault}

-- what stopped a turn behind which others go on is the link
by-link : (policy : LinkPolicy) (why : Fault) (ended : Result Bool Fault) → Ok tt ≡ behind_turn policy ended → ended ≡ Err why → why ≡ Fault.Link
by-link policy Fault.Link ended so is = refl
by-link policy Fault.Keep ended so is = let no = so ∙ ap (behind_turn policy) is in absurd (cc)
by-link policy Fault.Memory ended so is = let no = so ∙ ap (behind_turn policy) is in absurd (cc)
by-link policy Fault.Spent ended so is = let no = so ∙ ap (behind_turn policy) is in absurd (cc)
by-link policy Fault.NoAnswer ended so is = let no = so ∙ ap (behind_turn policy) is in absurd (cc)

module _ {K : Type 0} (content : K → Option Kept) (faults : K → ℕ) (policy : LinkPolicy) (extension : Extension) where
  -- nothing was taken in where the link failed
  missed : (why : Fault) (link link' : LinkTold) (at after : Node K) → why ≡ Fault.Link → Receives content faults extension (Err why) link link' at after
      → after ≡ at
  missed Fault.Link link link' at after is r = r.same
  missed Fault.Keep link link' at after is r = absurd (cc)
  missed Fault.Memory link link' at after is r = absurd (cc)
  missed Fault.Spent link link' at after is r = absurd (cc)
  missed Fault.NoAnswer link link' at after is r = absurd (cc)

  received-tells : (received ended : Result Bool Fault) (ticked : Bool) (link link' last : LinkTold) (at after : Node K) → Ok tt ≡ behind_turn policy ended
      → Receives content faults extension received link link' at after → Sends received ended ticked link' last after
      → (kept : Kept) → content at.server.keeper ≡ Some kept → Tells (content after.server.keeper)
  received-tells (Ok some) ended ticked link link' last at after so r s kept told = came_tells content faults extension r.0 at after r.2.takes kept told
  received-tells (Err why) ended ticked link link' last at after so r s kept told =
      subst (λ m. Tells (content m.server.keeper)) (sym (missed why link link' at after (by-link policy why ended so s.0) r)) (kept, told)

  behind-tells : (goes : Result Unit Fault) (ended : Result Bool Fault) (ticked : Bool) (link link' : LinkTold) (first at after : Node K)
      (given : Option Given)
      → Ok tt ≡ behind_turn policy ended
      → GoesOn content faults extension goes ended ticked link link' at after → Takes content faults given goes first at
      → (kept : Kept) → content first.server.keeper ≡ Some kept → Tells (content after.server.keeper)
  behind-tells (Ok tt) ended ticked link link' first at after given so rest t kept told =
      let between = taken_tells content faults given first at t kept told in
      received-tells rest.0 ended ticked link rest.1 link' at after so rest.2 rest.3 between.0 between.1
  behind-tells (Err why) ended ticked link link' first at after given so rest t kept told =
      absurd (not_link content faults given first at (subst (λ w. Takes content faults given (Err w) first at) (by-link policy why ended so rest.0) t))

  -- a turn behind which others go on
  pub goes_tells : (at after : Standing K) → TakesTurn content faults policy extension (Ok tt) at after → (kept : Kept) → content at.server.keeper ≡ Some kept
      → Tells (content after.server.keeper)
  goes_tells at after t kept told =
      let s = t.took.stages in
      behind-tells s.goes t.turn (nat_lt at.server.beside.time s.reading) at.link after.link (record { server = at.server; out = t.took.out; log = t.log })
      s.between
      (record { server = after.server; out = t.took.out'; log = t.entered }) (tick_due at.server.beside.time s.reading) t.so s.rest s.ticks kept told
