-- How far the calls of a text were run.
use Rattle.std.proofs.Common.{◌≡◌, ℕ, ◌+◌, ◌<◌, ◌≤◌, List, [], ◌∷◌, ◌++◌, Some, None, Ok, Err, length, refl, ap, sym, subst, ◌∙◌, arith, append_assoc}
use Rattle.std.proofs.Common.{append-nil, length-append}
use Rattle.std.proofs.lemmas.Option.{none-some}
use Rattle.std.specs.List.{AllByRecursion}
use Rattle.nq_hosts.specs.Lines.{AreCalls, IsCall}
use Rattle.nq_base.specs.declared.ending.fault.Fault.{Fault}
use Rattle.nq_script.specs.WordsReading.{cut}
use Rattle.nq_script.specs.Text.{text_of}
use Rattle.nq_script.proofs.Cuts.{cut-again, cut-found}
use Rattle.nq_script.proofs.FileLines.{one-line}
use Rattle.nq_script.proofs.Fitting.{each-back}
use Rattle.nq_hosts.specs.Running.{AnswersAll, RunsLine, RunsText}
use Rattle.nq_hosts.specs.UserTurning.{Between}

-- the calls of the lines before this one were run to their answers
pub record Progress (turns : ℕ) (text rest : List ℕ) (number : ℕ) (at now : Between) : Type 0 where
  pub lines : List (List ℕ)
  pub are : AreCalls lines text
  pub before : List (List ℕ)
  pub later : List (List ℕ)
  pub parts : lines ≡ before ++ later
  pub left : rest ≡ text_of later
  pub place : number ≡ length before + 1
  pub few : number + length rest ≤ length text + 1
  pub answered : AnswersAll turns before at now

-- the line that comes next: it spells a call, and the others come behind it
pub record Next (later : List (List ℕ)) (line after : List ℕ) : Type 0 where
  pub others : List (List ℕ)
  pub parts : later ≡ line ∷ others
  pub left : after ≡ text_of others
  pub call : IsCall line

next_of : (later : List (List ℕ)) (rest line after : List ℕ) → AllByRecursion IsCall later → rest ≡ text_of later → cut 10 rest ≡ Some (line, after)
    → Next later line after
unfolding cut
next_of [] rest line after each left cuts = absurd (none-some (line, after) (sym (ap (cut 10) left) ∙ cuts))
next_of (first ∷ others) rest line after each left cut =
    let same = one-line rest line after first (text_of others) cut left each.0.0 in
    record {
      others = others;
      parts = ap (λ l. l ∷ others) (sym same.0);
      left = same.1;
      call = subst IsCall (sym same.0) each.0;
    }

pub next : (turns : ℕ) (text rest line after : List ℕ) (number : ℕ) (at now : Between) → (p : Progress turns text rest number at now)
    → cut 10 rest ≡ Some (line, after) → Next p.later line after
next turns text rest line after number at now p cut =
    next_of p.later rest line after (each-back IsCall p.before p.later (subst (AllByRecursion IsCall) p.parts p.are.each)) p.left cut

-- the calls of lines and of one more
answered_more : (turns : ℕ) (lines : List (List ℕ)) (line : List ℕ) (at now after : Between) → AnswersAll turns lines at now
    → RunsLine turns line (Ok tt) now after
    → AnswersAll turns (lines ++ line ∷ []) at after
answered_more turns [] line at now after so runs = (after, subst (λ b. RunsLine turns line (Ok tt) b after) so runs, refl)
answered_more turns (first ∷ lines) line at now after so runs =
    (so.0, so.1, answered_more turns lines line so.0 now after so.2 runs)

-- one call more was run to its answer
pub stepped : (turns : ℕ) (text rest line after : List ℕ) (number : ℕ) (at now new : Between) → (p : Progress turns text rest number at now)
    → cut 10 rest ≡ Some (line, after) → RunsLine turns line (Ok tt) now new → Progress turns text after (number + 1) at new
stepped turns text rest line after number at now new p cut runs =
    let n = next turns text rest line after number at now p cut in
    let found = (cut-found 10 rest line after cut).0 in
    record {
      lines = p.lines;
      are = p.are;
      before = p.before ++ line ∷ [];
      later = n.others;
      parts = p.parts ∙ ap (λ ls. p.before ++ ls) n.parts ∙ sym (append_assoc p.before (line ∷ []) n.others);
      left = n.left;
      place = let more = length-append p.before (line ∷ []) in let place = p.place in omega arith;
      few = let whole = ap length found in let long = length-append line (10 ∷ after) in let few = p.few in omega arith;
      answered = answered_more turns p.before line at now new p.answered runs;
    }

-- the next call stopped
pub stops : (turns : ℕ) (text rest line after : List ℕ) (number : ℕ) (why : Fault) (at now new : Between) → (p : Progress turns text rest number at now)
    → cut 10 rest ≡ Some (line, after) → RunsLine turns line (Err why) now new
    → RunsText turns text (Err (record { why = why; line = number })) at new
stops turns text rest line after number why at now new p cut runs =
    let n = next turns text rest line after number at now p cut in (
      p.lines,
      p.are,
      record {
        before = p.before;
        line = line;
        later = n.others;
        parts = p.parts ∙ ap (λ ls. p.before ++ ls) n.parts;
        number = p.place;
        between = now;
        answered = p.answered;
        last = runs;
      },
    )

none_later : (later : List (List ℕ)) (rest : List ℕ) → AllByRecursion IsCall later → rest ≡ text_of later → cut 10 rest ≡ None → later ≡ []
none_later [] rest each left none = refl
none_later (first ∷ others) rest each left none =
    absurd (none-some (first, text_of others) (sym none ∙ ap (cut 10) left ∙ cut-again 10 first (text_of others) each.0.0))

-- all calls were run to their answers
pub done : (turns : ℕ) (text rest : List ℕ) (number : ℕ) (at now : Between) → Progress turns text rest number at now → cut 10 rest ≡ None
    → RunsText turns text (Ok tt) at now
done turns text rest number at now p none =
    let each = each-back IsCall p.before p.later (subst (AllByRecursion IsCall) p.parts p.are.each) in
    let all : p.lines ≡ p.before = p.parts ∙ ap (λ ls. p.before ++ ls) (none_later p.later rest each p.left none) ∙ append-nil p.before in
    (p.lines, p.are, subst (λ ls. AnswersAll turns ls at now) (sym all) p.answered)

-- what is left is shorter by a line
pub shorter : (rest line after : List ℕ) → cut 10 rest ≡ Some (line, after) → length after < length rest
shorter rest line after cut =
    let whole = ap length (cut-found 10 rest line after cut).0 in
    let long = length-append line (10 ∷ after) in omega arith
