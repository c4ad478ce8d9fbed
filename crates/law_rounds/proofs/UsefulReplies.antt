-- A lease by which no write can be delayed is sent to those alone who want to read, in every run.
use Rattle.std.proofs.Common.{◌≡◌, ℕ, ◌&&◌, Bool, true, false, not, nat_lt, Some, refl, sym, ap, ◌∙◌, arith}
use Rattle.std.proofs.lemmas.Bool.Decides.{nat_tests}
use Rattle.nq_base.specs.declared.Mode.{Mode}
use Rattle.nq_base.specs.declared.Question.{Question}
use Rattle.nq_base.specs.declared.Reply.{Reply}
use Rattle.nq_base.specs.declared.Request.{Request}
use Rattle.nq_base.specs.declared.Row.{Row}
use Rattle.nq_base.specs.declared.Verdict.{Verdict}
use Rattle.nq_base.specs.declared.Want.{Want}
use Rattle.nq_model.specs.protocol.Ask.{grant_of, shared_again, sharing_row, caching_row, renewed_row}
use Rattle.nq_model.specs.protocol.Profile.{granted_term}
use Rattle.nq_model.specs.protocol.Decide.{verdict_reply}
use Rattle.nq_model.specs.protocol.Message.{sequence_of}
use Rattle.nq_model.specs.protocol.Table.{Table, caches, is_writing, greater_mode}
use Rattle.walk_steps.proofs.ClientMoves.{none-some}
use Rattle.walk_steps.proofs.AskCases.{IsGranted, shares_again, begins_sharing, begins_caching, renews_row}
use Rattle.law_rounds.specs.Efforts.{is_idle}
use Rattle.walk_steps.proofs.ReplyTells.{Kind}

-- no request for a lease to write
abbrev pub NoWriter : Request → Type 0
NoWriter (Request.GetLease who file want) = is_writing want.mode ≡ false
NoWriter other = Unit {0}

-- a reply is of use, or its request did not want to write
abbrev pub IsReplyOf : Reply → Request → Type 0
IsReplyOf (Reply.GetLease inc grant) r = is_idle grant ≡ true → NoWriter r
IsReplyOf other r = Unit {0}

greater-writes : (a b : Mode) → is_writing b ≡ true → is_writing (greater_mode a b) ≡ true
greater-writes Mode.NonCaching b e = e
greater-writes Mode.Reading b e = rw e refl
greater-writes Mode.Writing b e = refl

some-term : (longest wish : ℕ) → nat_lt 0 (granted_term longest wish) ≡ true
some-term longest wish = grind (arith, nat_tests)

idle-by : (mode : Mode) (term : ℕ) → is_writing mode ≡ true → nat_lt 0 term ≡ true → (caches mode && not (is_writing mode && nat_lt 0 term)) ≡ false
idle-by Mode.NonCaching term w t = refl
idle-by Mode.Reading term w t = absurd (cc)
idle-by Mode.Writing term w t = rw t refl

useful : (table : Table) (q : Question) (want : Want) (row : Row) (term : ℕ) → is_writing want.mode ≡ true → IsGranted table q want row term
    → is_idle (Some (grant_of q row term)) ≡ false
unfolding grant_of shared_again sharing_row caching_row renewed_row
useful table q want row term writing (shares_again own has quiet alone is t) =
    let mode : row.mode ≡ own.mode = ap (λ (r : Row). r.mode) is in
    let none : caches row.mode ≡ false = ap caches mode ∙ alone in
    rw none refl
useful table q want row term writing (begins_sharing none room shared is t) = let mode : row.mode ≡ Mode.NonCaching = ap (λ (r : Row). r.mode) is in
    let off : caches row.mode ≡ false = ap caches mode in rw off refl
useful table q want row term writing (begins_caching none room alone is t) =
    let mode : row.mode ≡ want.mode = ap (λ (r : Row). r.mode) is in
    idle-by row.mode term (ap is_writing mode ∙ writing) (ap (nat_lt 0) t ∙ some-term q.longest want.term)
useful table q want row term writing (renews_row own has quiet caching is t) =
    let mode : row.mode ≡ greater_mode own.mode want.mode = ap (λ (r : Row). r.mode) is in
    idle-by row.mode term (ap is_writing mode ∙ greater-writes own.mode want.mode writing) (ap (nat_lt 0) t ∙ some-term q.longest want.term)

idle-reads : (table : Table) (q : Question) (want : Want) (row : Row) (term : ℕ) → IsGranted table q want row term
    → is_idle (Some (grant_of q row term)) ≡ true → is_writing want.mode ≡ false
idle-reads table q want row term g idle = by (is_writing want.mode) refl
  where
    by : (b : Bool) → is_writing want.mode ≡ b → is_writing want.mode ≡ false
    by false e = e
    by true e = let no = useful table q want row term e g in let bad : true ≡ false = sym idle ∙ no in absurd (cc)

done-of : (inc value : ℕ) (r : Request) (n : ℕ) → sequence_of r ≡ Some n → IsReplyOf (verdict_reply inc Verdict.Done value r) r
done-of inc value (Request.Create w seq name blocks) n e = tt
done-of inc value (Request.Write w seq file block first last push body) n e = tt
done-of inc value (Request.Resize w seq q file blocks) n e = tt
done-of inc value (Request.Remove w seq q file) n e = tt
done-of inc value r n e = none-some n e

pub kind : Kind IsReplyOf
kind = record {
  refused = λ inc status r. tt;
  attached = λ who. tt;
  looked_up = λ who name file blocks. tt;
  attributes = λ who file blocks rev. tt;
  done = done-of;
  has_read = λ who q file block want rev body grant. tt;
  not_leased = λ who file want idle. absurd (cc);
  leased = λ who file table q want row term g idle. idle-reads table q want row term g idle;
}
