-- What stands for no inner packet changes nothing in the inner world, and neither does a COMMIT that is answered UNSTAGED.
use Rattle.std.proofs.Common.{◌≡◌, ℕ, ◌==◌, ◌&&◌, Bool, true, false, List, Option, Some, None, Result, Ok, Err, if◌then◌else◌, refl, sym, subst, ap, ◌∙◌}
use Rattle.std.specs.Prelude.{slice_get}
use Rattle.nq_base.specs.declared.Party.{Party}
use Rattle.nq_stage.specs.Answering.{Answer, write, unstaged, own_stage, own_commit, stage_if_own, commit_if_own, answered}
use Rattle.nq_xdr.specs.declared.rpc.message.CallMessage.{CallMessage}
use Rattle.nq_xdr.specs.declared.rpc.message.Message.{Message as Said}
use Rattle.nq_xdr.specs.declared.rpc.message.Message.TheVariants as said
use Rattle.nq_xdr.specs.declared.rpc.fault.RpcFault.{RpcFault}
use Rattle.nq_xdr.specs.RpcReading.{message_at}
use Rattle.nq_stage.specs.declared.messages.Commit.{Commit}
use Rattle.nq_stage.specs.Messages.{commit, stage}
use Rattle.nq_stage.specs.Reading.{Stage, call_as, call_by, call_in, stage_by, stage_in, commit_by, commit_in}
use Rattle.nq_stage.specs.Outer.{Outer, Side, Outside}
use Rattle.nq_stage.specs.Outside.{sends, inner_delivery, takes_stage, takes_commit, served_commit, served_stage, to_server, told_side, heard_by}
use Rattle.nq_stage.specs.Outside.{to_host, takes, delivers}
use Rattle.nq_stage.specs.Hearing.{Told, acknowledged, again, other, told_by}
use Rattle.nq_stage.specs.NotStored.{BesideStoresNothing, UnstagedStoresNothing}
use Rattle.walk_steps.proofs.ClientMoves.{none-some}
use Rattle.walk_steps.proofs.Rows.{same-number}

-- ---- a packet that stands for none

module _ (o : Outside) where
  committing : (host : ℕ) (a : Answer) → (takes_commit o host None a).world ≡ o.world
  unfolding sends
  committing host (write bytes) = refl
  committing host (unstaged bytes) = refl

  serving-commit : (host : ℕ) (p : Outer) (c : Option Commit) → p.stands ≡ None → (served_commit o host p c).world ≡ o.world
  serving-commit host p None none = subst (λ s. (inner_delivery o s).world ≡ o.world) (sym none) refl
  serving-commit host p (Some c) none = subst (λ s. (takes_commit o host s (answered o.pool c)).world ≡ o.world) (sym none)
      (committing host (answered o.pool c))

  serving-stage : (host : ℕ) (p : Outer) (s : Option Stage) → p.stands ≡ None → (served_stage o host p s).world ≡ o.world
  unfolding takes_stage sends
  serving-stage host p None none = serving-commit host p (own_commit host p.bytes) none
  serving-stage host p (Some s) none = refl

  at-server : (p : Outer) (from : Party) → p.stands ≡ None → (to_server o p from).world ≡ o.world
  at-server p Party.Server none = subst (λ s. (inner_delivery o s).world ≡ o.world) (sym none) refl
  at-server p (Party.Client host) none = serving-stage host p (own_stage host p.bytes) none

  telling : (host : ℕ) (side : Side) (t : Told) → (told_side o host side t).world ≡ o.world
  unfolding sends
  telling host side (again bytes) = refl
  telling host side (acknowledged w verifier) = refl
  telling host side other = refl

  hearing : (host : ℕ) (p : Outer) (side : Option Side) → (heard_by o host p side).world ≡ o.world
  hearing host p None = refl
  hearing host p (Some side) = telling host side (told_by side.stager p.bytes)

  at-host : (host : ℕ) (p : Outer) → p.stands ≡ None → (to_host o host p p.stands).world ≡ o.world
  at-host host p none = subst (λ s. (to_host o host p s).world ≡ o.world) (sym none) (hearing host p (slice_get o.sides host))

  taking : (p : Outer) (to : Party) → p.stands ≡ None → (takes o p to).world ≡ o.world
  taking p Party.Server none = at-server p p.sender none
  taking p (Party.Client host) none = at-host host p none

pub beside-stores-nothing : BesideStoresNothing
beside-stores-nothing o k p is none = subst (λ q. (delivers o q).world ≡ o.world) (sym is) (taking o p p.to none)

-- ---- a COMMIT

-- the call, if it is of the procedure
abbrev given : CallMessage → Bool → Option (ℕ × List ℕ)
given m b = if b then Some (m.head.xid, m.arguments) else None

-- what is a call of COMMIT is none of STAGE
one-procedure : (m : CallMessage) (called : ℕ × List ℕ) → call_as commit m ≡ Some called → call_as stage m ≡ None
unfolding call_as
one-procedure m called e = case (m.head.procedure == commit) refl
  where
    none-if : (b : Bool) → b ≡ false → given m b ≡ None
    none-if true off = absurd cc
    none-if false off = refl

    never : (a b c : Bool) → (a && b && c && false) ≡ false
    never true true true = refl
    never true true false = refl
    never true false true = refl
    never true false false = refl
    never false true true = refl
    never false true false = refl
    never false false true = refl
    never false false false = refl

    unlike : (a b c d : Bool) → d ≡ false → (a && b && c && d) ≡ false
    unlike a b c d off = subst (λ z. (a && b && c && z) ≡ false) (sym off) (never a b c)

    case : (b : Bool) → (m.head.procedure == commit) ≡ b → given m (m.rpcvers == 2 && m.head.prog == 536890961 && m.head.vers == 1 && m.head.procedure
        == stage) ≡ None
    case true on =
        let is : m.head.procedure ≡ 12 = same-number m.head.procedure 12 on in
        let differs : (m.head.procedure == stage) ≡ false = ap (λ n. n == 14) is in
        none-if _ (unlike (m.rpcvers == 2) (m.head.prog == 536890961) (m.head.vers == 1) (m.head.procedure == stage) differs)
    case false off =
        let none : given m (m.rpcvers == 2 && m.head.prog == 536890961 && m.head.vers == 1 && m.head.procedure == commit) ≡ None =
        none-if _ (unlike (m.rpcvers == 2) (m.head.prog == 536890961) (m.head.vers == 1) (m.head.procedure == commit) off)
        in
        none-some called (sym none ∙ e)

one-call : (r : Result Said RpcFault) (called : ℕ × List ℕ) → call_by commit r ≡ Some called → call_by stage r ≡ None
one-call (Err e) called is = refl
one-call (Ok (said.Reply r)) called is = refl
one-call (Ok (said.Call m)) called is = one-procedure m called is

commit-called : (bytes : List ℕ) (c : Commit) → commit_in bytes ≡ Some c → call_in stage bytes ≡ None
unfolding commit_in call_in
commit-called bytes c e = case (call_by commit (message_at bytes)) refl e
  where
    case : (o : Option (ℕ × List ℕ)) → call_by commit (message_at bytes) ≡ o → commit_by o ≡ Some c → call_by stage (message_at bytes) ≡ None
    case None is e = none-some c e
    case (Some called) is e = one-call (message_at bytes) called is

commit-no-stage : (bytes : List ℕ) (c : Commit) → commit_in bytes ≡ Some c → stage_in bytes ≡ None
unfolding stage_in
commit-no-stage bytes c e = ap stage_by (commit-called bytes c e)

own-no-stage : (host : ℕ) (bytes : List ℕ) (c : Commit) → own_commit host bytes ≡ Some c → own_stage host bytes ≡ None
own-no-stage host bytes c e = case (commit_in bytes) refl e
  where
    case : (o : Option Commit) → commit_in bytes ≡ o → commit_if_own host o ≡ Some c → own_stage host bytes ≡ None
    case None is e = none-some c e
    case (Some d) is e = ap (stage_if_own host) (commit-no-stage bytes d is)

refused : (o : Outside) (host : ℕ) (stands : Option ℕ) (a : Answer) (bytes : List ℕ) → a ≡ unstaged bytes → (takes_commit o host stands a).world ≡ o.world
unfolding sends
refused o host stands a bytes is = subst (λ z. (takes_commit o host stands z).world ≡ o.world) (sym is) refl

pub unstaged-stores-nothing : UnstagedStoresNothing
unstaged-stores-nothing o k host p c bytes travels to answers =
    let none = own-no-stage host p.bytes c travels.commit in
    let answer : (served_commit o host p (Some c)).world ≡ o.world = refused o host p.stands (answered o.pool c) bytes answers in
    let commits : (served_commit o host p (own_commit host p.bytes)).world ≡ o.world = subst (λ z. (served_commit o host p z).world ≡ o.world)
    (sym travels.commit) answer in
    let stages : (served_stage o host p (own_stage host p.bytes)).world ≡ o.world = subst (λ z. (served_stage o host p z).world ≡ o.world) (sym none)
    commits in
    let from : (to_server o p p.sender).world ≡ o.world = subst (λ z. (to_server o p z).world ≡ o.world) (sym travels.sender) stages in
    let taken : (takes o p p.to).world ≡ o.world = subst (λ z. (takes o p z).world ≡ o.world) (sym to) from in
    subst (λ q. (delivers o q).world ≡ o.world) (sym travels.is) taken
