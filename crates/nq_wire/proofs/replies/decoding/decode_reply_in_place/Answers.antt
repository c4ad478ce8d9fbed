use Rattle.std.proofs.Common.{ap, refl, sym, ◌∙◌, Ok, Err, arith}
use Rattle.std.proofs.lemmas.Result.{err_from_is_err_and}
use Rattle.std.proofs.lemmas.Bool.{false≢true}
use Rattle.nq_wire.specs.Garbage.{garbage}
use Rattle.nq_wire.specs.Reading.{reply_at}
use Rattle.nq_wire.specs.Lent.{lent_reply}
use Rattle.nq_wire.proofs.Spelled.{results_read}
use Rattle.nq_wire.proofs.Whole.{failed, left_over, ended, number_fits, no_reply, one_reply, reply_is, reply_none}
use Rattle.nq_wire.proofs.replies.decoding.decode_reply_in_place.Goals as goal

-- the bytes begin with none
pub returns-in_err-reply-clause-only : goal.returns-in_err-reply-clause-only
returns-in_err-reply-clause-only c =
    λ r is.
    let was = failed (reply_at c.in-Some.called c.new-reader.result) c.in_err-reply.field-0.0 c.in_err-reply.ensures in
    absurd (no_reply c.in-Some.called c.args.procedure r c.args.bytes.now c.new-reader.result c.in_err-reply.field-0.0 c.in-Some.ensures.some
    c.new-reader.ensures was is)

pub returns-in_err-reply-clause-garbage : goal.returns-in_err-reply-clause-garbage
returns-in_err-reply-clause-garbage c =
    let p = err_from_is_err_and c.from_residual.result c.from_residual.ensures.1 in
    let was = failed (reply_at c.in-Some.called c.new-reader.result) c.in_err-reply.field-0.0 c.in_err-reply.ensures in (
      λ _. (
        number_fits c.in-Some.called c.args.procedure c.in-Some.ensures.some,
        λ r is.
            no_reply c.in-Some.called c.args.procedure r c.args.bytes.now c.new-reader.result c.in_err-reply.field-0.0 c.in-Some.ensures.some
            c.new-reader.ensures was is,
      ),
      λ _. rw (p.1, p.2) refl,
    )

-- something stands behind it
pub returns-in_err-end-clause-only : goal.returns-in_err-end-clause-only
returns-in_err-end-clause-only c =
    λ r is.
    let was = left_over (reply_at c.in-Some.called c.new-reader.result) (lent_reply c.in_ok-reply.reply) c.reply.new.reader c.in_ok-reply.ensures
    (λ none. false≢true (c.in_err-end.ensures.1 none)) in
    absurd (no_reply c.in-Some.called c.args.procedure r c.args.bytes.now c.new-reader.result garbage c.in-Some.ensures.some c.new-reader.ensures was is)

pub returns-in_err-end-clause-garbage : goal.returns-in_err-end-clause-garbage
returns-in_err-end-clause-garbage c =
    let p = err_from_is_err_and c.from_residual-in_err-end.result c.from_residual-in_err-end.ensures.1 in
    let was = left_over (reply_at c.in-Some.called c.new-reader.result) (lent_reply c.in_ok-reply.reply) c.reply.new.reader c.in_ok-reply.ensures
    (λ none. false≢true (c.in_err-end.ensures.1 none)) in (
      λ _. (
        number_fits c.in-Some.called c.args.procedure c.in-Some.ensures.some,
        λ r is.
            no_reply c.in-Some.called c.args.procedure r c.args.bytes.now c.new-reader.result garbage c.in-Some.ensures.some c.new-reader.ensures was is,
      ),
      λ _. rw (p.1, p.2) refl,
    )

-- it is read
pub returns-clause-found : goal.returns-clause-found
returns-clause-found c =
    results_read c.in-Some.called c.args.procedure (lent_reply c.in_ok-reply.reply) c.args.bytes.now c.new-reader.result c.reply.new.reader
    (λ i. omega (arith, c.type_inv.bytes i)) c.in-Some.ensures.some c.new-reader.ensures c.in_ok-reply.ensures (c.in_ok-end.ensures.0 refl)

pub returns-clause-only : goal.returns-clause-only
returns-clause-only c =
    λ r is.
    let was = ended (reply_at c.in-Some.called c.new-reader.result) (lent_reply c.in_ok-reply.reply) c.reply.new.reader c.in_ok-reply.ensures
    (c.in_ok-end.ensures.0 refl) in
    ap (λ x. Ok x)
    (one_reply c.in-Some.called c.args.procedure r (lent_reply c.in_ok-reply.reply) c.args.bytes.now c.new-reader.result c.in-Some.ensures.some
    c.new-reader.ensures was is)

pub returns-clause-garbage : goal.returns-clause-garbage
returns-clause-garbage c =
    let is =
    results_read c.in-Some.called c.args.procedure (lent_reply c.in_ok-reply.reply) c.args.bytes.now c.new-reader.result c.reply.new.reader
    (λ i. omega (arith, c.type_inv.bytes i)) c.in-Some.ensures.some c.new-reader.ensures c.in_ok-reply.ensures (c.in_ok-end.ensures.0 refl) in
    (λ e. absurd cc, λ none. absurd (none.1 (lent_reply c.in_ok-reply.reply) is))

-- all of it, as reading from the left
pub returns-in_default-clause-step : goal.returns-in_default-clause-step
returns-in_default-clause-step c = sym (reply_none c.args.procedure c.args.bytes.now (sym c.from_number.ensures.is ∙ c.in_default.is))

pub returns-in_err-reply-clause-step : goal.returns-in_err-reply-clause-step
returns-in_err-reply-clause-step c =
    let p = err_from_is_err_and c.from_residual.result c.from_residual.ensures.1 in
    let was = failed (reply_at c.in-Some.called c.new-reader.result) c.in_err-reply.field-0.0 c.in_err-reply.ensures in
    let is = reply_is c.in-Some.called c.args.procedure c.args.bytes.now c.new-reader.result (Err c.in_err-reply.field-0.0) (sym c.in-Some.ensures.is)
    c.new-reader.ensures was in
    rw (p.1, p.2) (sym is)

pub returns-in_err-end-clause-step : goal.returns-in_err-end-clause-step
returns-in_err-end-clause-step c =
    let p = err_from_is_err_and c.from_residual-in_err-end.result c.from_residual-in_err-end.ensures.1 in
    let was = left_over (reply_at c.in-Some.called c.new-reader.result) (lent_reply c.in_ok-reply.reply) c.reply.new.reader c.in_ok-reply.ensures
    (λ none. false≢true (c.in_err-end.ensures.1 none)) in
    let is = reply_is c.in-Some.called c.args.procedure c.args.bytes.now c.new-reader.result (Err garbage) (sym c.in-Some.ensures.is)
    c.new-reader.ensures was in
    rw (p.1, p.2) (sym is)

pub returns-clause-step : goal.returns-clause-step
returns-clause-step c =
    let was = ended (reply_at c.in-Some.called c.new-reader.result) (lent_reply c.in_ok-reply.reply) c.reply.new.reader c.in_ok-reply.ensures
    (c.in_ok-end.ensures.0 refl) in
    sym (reply_is c.in-Some.called c.args.procedure c.args.bytes.now c.new-reader.result (Ok (lent_reply c.in_ok-reply.reply))
    (sym c.in-Some.ensures.is) c.new-reader.ensures was)
