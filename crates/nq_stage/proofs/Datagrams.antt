-- What the bytes of a request of the protocol, of a STAGE and of a COMMIT are to a pool.
use Rattle.std.proofs.Common.{◌≡◌, ◌<◌, ◌^◌, ℕ, ◌==◌, false, List, ◌++◌, Option, Some, None, Err, refl, sym, subst, ap, ◌∙◌, arith, append_assoc}
use Rattle.nq_base.specs.declared.PushBase.{PushBase}
use Rattle.nq_base.specs.declared.Request.{Request}
use Rattle.nq_base.specs.declared.Who.{Who}
use Rattle.nq_datagrams.specs.Messages.{bytes_of}
use Rattle.nq_model.specs.protocol.Message.{call}
use Rattle.nq_stage.specs.declared.messages.Commit.{Commit}
use Rattle.nq_stage.specs.declared.messages.Pushed.{Pushed}
use Rattle.nq_stage.specs.declared.messages.Written.{Written}
use Rattle.nq_xdr.specs.Message.{spelling, numbers, call_with, null}
use Rattle.nq_xdr.proofs.Messages.{message_again, null_fits}
use Rattle.nq_stage.specs.Messages.{commit, stage, head_of, stage_bytes, commit_bytes, pushed_bytes, written_bytes, written_of, write_of, write_bytes}
use Rattle.nq_stage.specs.Messages.{IsWritten, IsFront, IsPushed}
use Rattle.nq_stage.specs.Reading.{call_as, call_by, call_in, push_at, stage_by, stage_in, commit_by, commit_in, push_by, push_in, read}
use Rattle.nq_stage.proofs.Again.{call-again, front-again, commits-are-read, pushes-are-read}
use Rattle.nq_wire.specs.Parts.{head, base_bytes, optional}
use Rattle.nq_wire.specs.Procedure.{number_of}
use Rattle.nq_wire.specs.Request.{procedure_of, arguments}
use Rattle.nq_xdr.specs.Item.{word, hyper, boolean, opaque}
use Rattle.nq_xdr.specs.declared.XdrFault.TheVariants.{Bool as NoBoolean}
use Rattle.nq_xdr.proofs.Opaque.{boolean_again}
use Rattle.nq_stage.proofs.KnownBodies.{Bodies, Asks, AllFit}
use Rattle.nq_xdr.proofs.SameNumbers.{same-word, same-hyper}
use Rattle.walk_steps.proofs.ClientMoves.{some-same}
use Rattle.walk_steps.proofs.Packets.{In}

-- ---- calls

-- the number of a call is told by its bytes alone
same-call : (xid other procedure : ℕ) (args : List ℕ) → word xid ≡ word other → spelling (call_with (head_of xid procedure) args) null null
    ≡ spelling (call_with (head_of other procedure) args) null null
unfolding spelling numbers
same-call xid other procedure args same = rw same refl

-- the call of one procedure is none of another
pub call-other : (xid procedure other : ℕ) (args : List ℕ) → procedure < 2 ^ 32 → (procedure == other) ≡ false
    → call_in other (spelling (call_with (head_of xid procedure) args) null null) ≡ None
unfolding call_in call_as
call-other xid procedure other args small differs =
    let n = same-word xid in
    let fits = n.fits in
    ap (call_in other) (same-call xid n.number procedure args n.same)
    ∙ ap (call_by other) (message_again (call_with (head_of n.number procedure) args) null null (record {
      xid = fits;
      rpcvers = omega arith;
      prog =
          omega arith;
      vers = omega arith;
      procedure = small;
    }) null_fits null_fits)
    ∙ rw differs refl

-- a request is spelled as a call of its procedure
request-bytes : (xid : ℕ) (r : Request) → bytes_of (call xid r) ≡ spelling (call_with (head_of xid (number_of (procedure_of r))) (arguments r)) null null
unfolding bytes_of
request-bytes xid r = refl

-- no request has the number of a STAGE or of a COMMIT
record IsOld (r : Request) : Type 0 where
  small : number_of (procedure_of r) < 2 ^ 32
  no_stage : (number_of (procedure_of r) == stage) ≡ false
  no_commit : (number_of (procedure_of r) == commit) ≡ false

is-old : (r : Request) → IsOld r
is-old Request.Null = record { small = omega arith; no_stage = refl; no_commit = refl }
is-old (Request.Attach who) = record { small = omega arith; no_stage = refl; no_commit = refl }
is-old (Request.Lookup who name) = record { small = omega arith; no_stage = refl; no_commit = refl }
is-old (Request.Create who seq name blocks) = record { small = omega arith; no_stage = refl; no_commit = refl }
is-old (Request.GetAttr who file) = record { small = omega arith; no_stage = refl; no_commit = refl }
is-old (Request.Read who q file block want) = record { small = omega arith; no_stage = refl; no_commit = refl }
is-old (Request.Write who seq file block first last push body) = record { small = omega arith; no_stage = refl; no_commit = refl }
is-old (Request.GetLease who file want) = record { small = omega arith; no_stage = refl; no_commit = refl }
is-old (Request.Vacated who file tag) = record { small = omega arith; no_stage = refl; no_commit = refl }
is-old (Request.Evicted who file tag) = record { small = omega arith; no_stage = refl; no_commit = refl }
is-old (Request.Resize who seq q file blocks) = record { small = omega arith; no_stage = refl; no_commit = refl }
is-old (Request.Remove who seq q file) = record { small = omega arith; no_stage = refl; no_commit = refl }

pub request-no-stage : (xid : ℕ) (r : Request) → stage_in (bytes_of (call xid r)) ≡ None
unfolding stage_in
request-no-stage xid r =
    let old = is-old r in
    ap stage_by (ap (call_in stage) (request-bytes xid r) ∙ call-other xid (number_of (procedure_of r)) stage (arguments r) old.small old.no_stage)

pub request-no-commit : (xid : ℕ) (r : Request) → commit_in (bytes_of (call xid r)) ≡ None
unfolding commit_in
request-no-commit xid r =
    let old = is-old r in
    ap commit_by (ap (call_in commit) (request-bytes xid r) ∙ call-other xid (number_of (procedure_of r)) commit (arguments r) old.small old.no_commit)

-- ---- a push

-- the push that a WRITE with a base is, without its body
abbrev push-of : (xid : ℕ) (who : Who) (seq file block first last : ℕ) (base : PushBase) → Pushed
push-of xid who seq file block first last base =
    record { xid = xid; who = who; seq = seq; file = file; block = block; first = first; last = last; base = base }

-- bytes of which a push is read are the WRITE of that push, with the body of its write
pub record IsPushOf (g : Bodies) (bytes : List ℕ) (p : Pushed) : Type 0 where
  pub body : List ℕ
  pub is : bytes ≡ write_bytes p body
  pub fits : IsPushed p
  pub known : In g (written_of p, body)

-- what is read of the call of a WRITE
write-read : (xid : ℕ) (args : List ℕ) (p : Pushed) → xid < 2 ^ 32 → push_in (spelling (call_with (head_of xid 6) args) null null) ≡ Some p
    → read (push_at xid args) ≡ Some p
unfolding push_in
write-read xid args p fits e = sym (ap push_by (call-again xid 6 args fits (omega arith))) ∙ e

-- a WRITE that goes through is no push
through-unread : (xid : ℕ) (p : Pushed) (body : List ℕ) → IsFront p → push_at xid (pushed_bytes p ++ (boolean false ++ opaque body)) ≡ Err NoBoolean
unfolding push_at
through-unread xid p body fits = rw (front-again p (boolean false ++ opaque body) fits, boolean_again false (opaque body)) refl

-- its arguments are those of one whose numbers fit
record SameFront (p : Pushed) : Type 0 where
  push : Pushed
  fits : IsFront push
  same : pushed_bytes p ≡ pushed_bytes push

same-front : (p : Pushed) → SameFront p
unfolding pushed_bytes head
same-front p =
    let host = same-word p.who.host in
    let inc = same-word p.who.inc in
    let seq = same-hyper p.seq in
    let file = same-word p.file in
    let block = same-word p.block in
    let first = same-hyper p.first in
    let last = same-hyper p.last in
    record {
      push = push-of p.xid (record { host = host.number; inc = inc.number }) seq.number file.number block.number first.number last.number p.base;
      fits = record { host = host.fits; inc = inc.fits; seq = seq.fits; file = file.fits; block = block.fits; first = first.fits; last = last.fits };
      same = rw (host.same, inc.same, seq.same, file.same, block.same, first.same, last.same) refl;
    }

through-arguments : (p : Pushed) (body : List ℕ) → arguments (Request.Write p.who p.seq p.file p.block p.first p.last None body) ≡ pushed_bytes p
    ++ (boolean false ++ opaque body)
unfolding arguments optional pushed_bytes
through-arguments p body = simp append_assoc

through-none : (xid : ℕ) (q p : Pushed) (body : List ℕ)
    → push_in (bytes_of (call xid (Request.Write q.who q.seq q.file q.block q.first q.last None body))) ≡ Some p → ⊥
through-none xid q p body e =
    let n = same-word xid in
    let f = same-front q in
    let args = pushed_bytes f.push ++ (boolean false ++ opaque body) in
    let spelled : bytes_of (call xid (Request.Write q.who q.seq q.file q.block q.first q.last None body)) ≡ spelling (call_with (head_of n.number 6)
    args) null null =
    request-bytes xid (Request.Write q.who q.seq q.file q.block q.first q.last None body)
    ∙ ap (λ a. spelling (call_with (head_of xid 6) a) null null) (through-arguments q body ∙ ap (λ front. front ++ (boolean false ++ opaque body)) f.same)
    ∙ same-call xid n.number 6 args n.same
    in
    let got = write-read n.number args p n.fits (sym (ap push_in spelled) ∙ e) in
    let none : None ≡ Some p = sym (ap read (through-unread n.number f.push body f.fits)) ∙ got in
    absurd cc

-- a push whose sequence, first write and base do not fit is spelled as one whose numbers do
record SamePush (xid : ℕ) (who : Who) (seq file block first last : ℕ) (base : PushBase) (body : List ℕ) : Type 0 where
  push : Pushed
  written : written_of push ≡ record { host = who.host; inc = who.inc; file = file; block = block; last = last }
  fits : IsPushed push
  same : bytes_of (call xid (Request.Write who seq file block first last (Some base) body)) ≡ write_bytes push body

same-arguments : (who : Who) (seq seq' file block first first' last : ℕ) (base base' : PushBase) (body : List ℕ) → hyper seq ≡ hyper seq'
    → hyper first ≡ hyper first' → word base.boot ≡ word base'.boot → hyper base.base ≡ hyper base'.base
    → arguments (Request.Write who seq file block first last (Some base) body) ≡ arguments (Request.Write who seq' file block first' last (Some base') body)
unfolding arguments optional base_bytes
same-arguments who seq seq' file block first first' last base base' body s f b r = rw (s, f, b, r) refl

same-push : (xid : ℕ) (who : Who) (seq file block first last : ℕ) (base : PushBase) (body : List ℕ)
    → IsWritten (record { host = who.host; inc = who.inc; file = file; block = block; last = last }) → SamePush xid who seq file block first last base body
same-push xid who seq file block first last base body w =
    let x = same-word xid in
    let s = same-hyper seq in
    let f = same-hyper first in
    let b = same-word base.boot in
    let r = same-hyper base.base in
    let base' : PushBase = record { boot = b.number; base = r.number } in
    let push = push-of x.number who s.number file block f.number last base' in
    record {
      push = push;
      written = refl;
      fits = record {
        xid = x.fits;
        front = record { host = w.host; inc = w.inc; seq = s.fits; file = w.file; block = w.block; first = f.fits; last = w.last };
        base = record { boot = b.fits; base = r.fits };
      };
      same =
          request-bytes xid (Request.Write who seq file block first last (Some base) body)
          ∙ ap (λ a. spelling (call_with (head_of xid 6) a) null null) (same-arguments who seq s.number file block first f.number last base base' body
          s.same f.same b.same r.same)
          ∙ same-call xid x.number 6 (arguments (write_of push body)) x.same
          ∙ sym (request-bytes x.number (write_of push body));
    }

of-write : (g : Bodies) (xid : ℕ) (who : Who) (seq file block first last : ℕ) (push : Option PushBase) (body : List ℕ) (p : Pushed) → AllFit g
    → Asks g (Request.Write who seq file block first last push body)
    → push_in (bytes_of (call xid (Request.Write who seq file block first last push body))) ≡ Some p
    → IsPushOf g (bytes_of (call xid (Request.Write who seq file block first last push body))) p
of-write g xid who seq file block first last None body p fit asks e =
    let base : PushBase = record { boot = 0; base = 0 } in
    absurd (through-none xid (push-of xid who seq file block first last base) p body e)
of-write g xid who seq file block first last (Some base) body p fit asks e =
    let b = fit (record { host = who.host; inc = who.inc; file = file; block = block; last = last }) body asks in
    let s = same-push xid who seq file block first last base body b.written in
    let one : s.push ≡ p = some-same s.push p (sym (pushes-are-read s.push body s.fits b.size) ∙ sym (ap push_in s.same) ∙ e) in
    let known : In g (written_of s.push, body) = subst (λ w. In g (w, body)) (sym s.written) asks in
    subst (IsPushOf g (bytes_of (call xid (Request.Write who seq file block first last (Some base) body)))) one (record {
      body = body;
      is = s.same;
      fits = s.fits;
      known = known;
    })

-- no other request is read as a push
other-none : (xid : ℕ) (r : Request) (p : Pushed) → (number_of (procedure_of r) == 6) ≡ false → push_in (bytes_of (call xid r)) ≡ Some p → ⊥
unfolding push_in
other-none xid r p differs e =
    let old = is-old r in
    let none : None ≡ Some p = sym (ap push_by (ap (call_in 6) (request-bytes xid r) ∙ call-other xid (number_of (procedure_of r)) 6 (arguments r)
    old.small differs)) ∙ e in
    absurd cc

pub reads-push : (g : Bodies) (xid : ℕ) (r : Request) (p : Pushed) → AllFit g → Asks g r → push_in (bytes_of (call xid r)) ≡ Some p
    → IsPushOf g (bytes_of (call xid r)) p
reads-push g xid (Request.Write who seq file block first last push body) p fit asks e = of-write g xid who seq file block first last push body p fit asks e
reads-push g xid Request.Null p fit asks e = absurd (other-none xid Request.Null p refl e)
reads-push g xid (Request.Attach who) p fit asks e = absurd (other-none xid (Request.Attach who) p refl e)
reads-push g xid (Request.Lookup who name) p fit asks e = absurd (other-none xid (Request.Lookup who name) p refl e)
reads-push g xid (Request.Create who seq name blocks) p fit asks e = absurd (other-none xid (Request.Create who seq name blocks) p refl e)
reads-push g xid (Request.GetAttr who file) p fit asks e = absurd (other-none xid (Request.GetAttr who file) p refl e)
reads-push g xid (Request.Read who q file block want) p fit asks e = absurd (other-none xid (Request.Read who q file block want) p refl e)
reads-push g xid (Request.GetLease who file want) p fit asks e = absurd (other-none xid (Request.GetLease who file want) p refl e)
reads-push g xid (Request.Vacated who file tag) p fit asks e = absurd (other-none xid (Request.Vacated who file tag) p refl e)
reads-push g xid (Request.Evicted who file tag) p fit asks e = absurd (other-none xid (Request.Evicted who file tag) p refl e)
reads-push g xid (Request.Resize who seq q file blocks) p fit asks e = absurd (other-none xid (Request.Resize who seq q file blocks) p refl e)
reads-push g xid (Request.Remove who seq q file) p fit asks e = absurd (other-none xid (Request.Remove who seq q file) p refl e)

-- ---- a STAGE and a COMMIT

pub stage-no-commit : (xid : ℕ) (w : Written) (body : List ℕ) → commit_in (stage_bytes xid w body) ≡ None
unfolding commit_in stage_bytes
stage-no-commit xid w body = ap commit_by (call-other xid stage commit (written_bytes w ++ opaque body) (omega arith) refl)

pub commit-no-stage : (p : Pushed) (verifier : ℕ) → stage_in (commit_bytes p verifier) ≡ None
unfolding stage_in commit_bytes
commit-no-stage p verifier = ap stage_by (call-other p.xid commit stage (pushed_bytes p ++ base_bytes p.base ++ word verifier) (omega arith) refl)

same-verifier : (p : Pushed) (verifier other : ℕ) → word verifier ≡ word other → commit_bytes p verifier ≡ commit_bytes p other
unfolding commit_bytes
same-verifier p verifier other same = rw same refl

-- what is read of a COMMIT is the push for which it stands
pub reads-commit : (p : Pushed) (verifier : ℕ) (c : Commit) → IsPushed p → commit_in (commit_bytes p verifier) ≡ Some c → c.pushed ≡ p
reads-commit p verifier c fits e =
    let v = same-word verifier in
    let read : commit_in (commit_bytes p verifier) ≡ Some (record { pushed = p; verifier = v.number }) =
    ap commit_in (same-verifier p verifier v.number v.same) ∙ commits-are-read p v.number fits v.fits in
    let same : record { pushed = p; verifier = v.number } ≡ c = some-same _ c (sym read ∙ e) in
    sym (ap (λ (z : Commit). z.pushed) same)
