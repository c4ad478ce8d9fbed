-- What is written for a message is read again.
use Rattle.std.proofs.Common.{◌≡◌, ◌<◌, ℕ, ◌^◌, true, List, [], ◌++◌, length, Some, Ok, refl, sym, ap, ◌∙◌, arith, append_assoc, append-nil}
use Rattle.std.proofs.lemmas.Bool.{eq-eqb}
use Rattle.nq_base.specs.declared.PushBase.{PushBase}
use Rattle.nq_datagrams.specs.Messages.{bytes_of}
use Rattle.nq_xdr.specs.Message.{spelling, call_with, reply_with, null}
use Rattle.nq_xdr.proofs.Messages.{message_again, null_fits}
use Rattle.nq_wire.specs.Parts.{head, base_bytes, optional, IsPushBase}
use Rattle.nq_wire.specs.Request.{arguments}
use Rattle.nq_xdr.specs.Item.{word, hyper, boolean, opaque}
use Rattle.nq_xdr.proofs.Numbers.{word_again, hyper_again}
use Rattle.nq_xdr.proofs.Opaque.{boolean_again, opaque_again}
use Rattle.nq_stage.specs.declared.messages.Pushed.{Pushed}
use Rattle.nq_stage.specs.declared.messages.Written.{Written}
use Rattle.nq_stage.specs.declared.reading.Front.{Front}
use Rattle.nq_stage.specs.Laws.{StagesAreRead, CommitsAreRead, PushesAreRead, StagedIsRead, UnstagedIsRead}
use Rattle.nq_stage.specs.Messages.{commit, stage, unstaged, head_of, written_bytes, stage_bytes, staged_bytes, pushed_bytes, commit_bytes, write_of}
use Rattle.nq_stage.specs.Messages.{unstaged_bytes, IsWritten, IsFront}
use Rattle.nq_stage.specs.Reading.{call_by, call_as, call_in, results_by, results_of, results_in, end_at, written_at, body_at, base_at, front_at}
use Rattle.nq_stage.specs.Reading.{stage_at, commit_at, push_at, staged_at, unstaged_at, stage_by, stage_in, commit_by, commit_in, push_by, push_in}
use Rattle.nq_stage.specs.Reading.{verifier_by, verifier_in, unstaged_by, is_unstaged_in}

-- ---- calls and replies

pub call-again : (xid procedure : ℕ) (args : List ℕ) → xid < 2 ^ 32 → procedure < 2 ^ 32
    → call_in procedure (spelling (call_with (head_of xid procedure) args) null null) ≡ Some (xid, args)
unfolding call_in call_as
call-again xid procedure args fits small =
    ap (call_by procedure) (message_again (call_with (head_of xid procedure) args) null null (record {
      xid = fits;
      rpcvers = omega arith;
      prog =
          omega arith;
      vers = omega arith;
      procedure = small;
    }) null_fits null_fits)
    ∙ rw (eq-eqb procedure procedure refl) refl

results-again : (xid : ℕ) (results : List ℕ) → xid < 2 ^ 32 → results_in xid (spelling (reply_with xid results) null null) ≡ Some results
unfolding results_in results_of
results-again xid results fits =
    ap (results_by xid) (message_again (reply_with xid results) null null (fits, tt) null_fits null_fits) ∙ rw (eq-eqb xid xid refl) refl

-- ---- the parts

pub end-again : end_at [] ≡ Ok tt
unfolding end_at
end-again = refl

word-last : (n : ℕ) → n < 2 ^ 32 → word n ≡ word n ++ []
word-last n fits = sym (append-nil (word n))

written-again : (w : Written) (rest : List ℕ) → IsWritten w → written_at (written_bytes w ++ rest) ≡ Ok (w, rest)
unfolding written_bytes written_at
written-again w rest fits =
    let e = hyper w.last ++ rest in
    let d = word w.block ++ e in
    let c = word w.file ++ d in
    let b = word w.inc ++ c in
    let parts : written_bytes w ++ rest ≡ word w.host ++ b = simp append_assoc in
    ap written_at parts
    ∙ rw (
      word_again w.host b fits.host,
      word_again w.inc c fits.inc,
      word_again w.file d fits.file,
      word_again w.block e fits.block,
      hyper_again w.last rest fits.last,
    ) refl

pub body-again : (body : List ℕ) → length body ≡ 4096 → body_at (opaque body) ≡ Ok (body, [])
unfolding body_at
body-again body size =
    ap body_at (sym (append-nil (opaque body)))
    ∙ rw (opaque_again 4096 body [] (omega arith) (omega arith), eq-eqb (length body) 4096 size) refl

pub base-again : (base : PushBase) (rest : List ℕ) → IsPushBase base → base_at (base_bytes base ++ rest) ≡ Ok (base, rest)
unfolding base_bytes base_at
base-again base rest fits =
    ap base_at (append_assoc (word base.boot) (hyper base.base) rest)
    ∙ rw (word_again base.boot (hyper base.base ++ rest) fits.boot, hyper_again base.base rest fits.base) refl

-- what a push begins with
pub front-of : Pushed → Front
front-of p = record { who = p.who; seq = p.seq; file = p.file; block = p.block; first = p.first; last = p.last }

pub front-again : (p : Pushed) (rest : List ℕ) → IsFront p → front_at (pushed_bytes p ++ rest) ≡ Ok (front-of p, rest)
unfolding pushed_bytes head front_at front-of
front-again p rest fits =
    let g = hyper p.last ++ rest in
    let f = hyper p.first ++ g in
    let e = word p.block ++ f in
    let d = word p.file ++ e in
    let c = hyper p.seq ++ d in
    let b = word p.who.inc ++ c in
    let parts : pushed_bytes p ++ rest ≡ word p.who.host ++ b = simp append_assoc in
    ap front_at parts
    ∙ rw (
      word_again p.who.host b fits.host,
      word_again p.who.inc c fits.inc,
      hyper_again p.seq d fits.seq,
      word_again p.file e fits.file,
      word_again p.block f fits.block,
      hyper_again p.first g fits.first,
      hyper_again p.last rest fits.last,
    ) refl

-- ---- the messages

pub stages-are-read : StagesAreRead
unfolding stage_bytes stage_in stage_at
stages-are-read xid w body xid-fits fits size =
    ap stage_by (call-again xid stage (written_bytes w ++ opaque body) xid-fits (omega arith))
    ∙ rw (written-again w (opaque body) fits, body-again body size, end-again) refl

pub commits-are-read : CommitsAreRead
unfolding commit_bytes commit_in commit_at front-of
commits-are-read p verifier fits small =
    let rest = base_bytes p.base ++ word verifier in
    let parts : pushed_bytes p ++ base_bytes p.base ++ word verifier ≡ pushed_bytes p ++ rest = simp append_assoc in
    let last : word verifier ≡ word verifier ++ [] = word-last verifier small in
    let read : commit_at p.xid (pushed_bytes p ++ rest) ≡ Ok (record { pushed = p; verifier = verifier }) =
    rw (front-again p rest fits.front, base-again p.base (word verifier) fits.base, last, word_again verifier [] small, end-again) refl
    in
    ap commit_by (call-again p.xid commit (pushed_bytes p ++ base_bytes p.base ++ word verifier) fits.xid (omega arith))
    ∙ ap (λ args. commit_by (Some (p.xid, args))) parts
    ∙ rw read refl

pub pushes-are-read : PushesAreRead
unfolding bytes_of arguments optional push_in push_at pushed_bytes front-of
pushes-are-read p body fits size =
    let rest = base_bytes p.base ++ opaque body in
    let there = boolean true ++ rest in
    let args = arguments (write_of p body) in
    let parts : args ≡ pushed_bytes p ++ there = simp append_assoc in
    let read : push_at p.xid (pushed_bytes p ++ there) ≡ Ok p =
    rw (front-again p there fits.front, boolean_again true rest, base-again p.base (opaque body) fits.base, body-again body size, end-again) refl
    in
    ap push_by (call-again p.xid 6 args fits.xid (omega arith)) ∙ ap (λ args. push_by (Some (p.xid, args))) parts ∙ rw read refl

pub staged-is-read : StagedIsRead
unfolding staged_bytes verifier_in staged_at
staged-is-read xid inc verifier xid-fits inc-fits small =
    let rest = word 0 ++ word verifier in
    let parts : word inc ++ word 0 ++ word verifier ≡ word inc ++ rest = simp append_assoc in
    let last : word verifier ≡ word verifier ++ [] = word-last verifier small in
    let read : staged_at (word inc ++ rest) ≡ Ok (inc, 0, verifier) =
    rw (word_again inc rest inc-fits, word_again 0 (word verifier) (omega arith), last, word_again verifier [] small, end-again) refl
    in
    ap (verifier_by inc) (results-again xid (word inc ++ word 0 ++ word verifier) xid-fits)
    ∙ ap (λ results. verifier_by inc (Some results)) parts
    ∙ rw (read, eq-eqb inc inc refl) refl

pub unstaged-is-read : UnstagedIsRead
unfolding unstaged_bytes is_unstaged_in unstaged_at
unstaged-is-read xid inc xid-fits inc-fits =
    let last : word unstaged ≡ word unstaged ++ [] = word-last unstaged (omega arith) in
    let read : unstaged_at (word inc ++ word unstaged) ≡ Ok (inc, unstaged) =
    rw (word_again inc (word unstaged) inc-fits, last, word_again unstaged [] (omega arith), end-again) refl
    in
    ap (unstaged_by inc) (results-again xid (word inc ++ word unstaged) xid-fits) ∙ rw (read, eq-eqb inc inc refl) refl
