-- Lines are read as they are spelled.
use Rattle.std.proofs.Common.{◌≡◌, ℕ, ◌<◌, ◌^◌, List, ◌∷◌, ◌++◌, Option, Some, None, refl, ap, sym, ◌∙◌}
use Rattle.std.specs.Fmt.{decimal}
use Rattle.std.specs.Prelude.{Bool, true, false, IfSome, bytes_eq, codes, if◌then◌else◌, option_map}
use Rattle.std.proofs.lemmas.Option.{none-some, same_Some, some_pair_parts}
use Rattle.std.proofs.lemmas.Slice.Eq.{bytes_eq-Decides}
use Rattle.nq_base.specs.Steps.{◌>>=◌}
use Rattle.nq_base.proofs.Options.{bind_some}
use Rattle.nq_asks.specs.Lines.{answer_line, answer_told, ask_line, kind_of, kind_then, kind_word}
use Rattle.nq_asks.specs.declared.lines.AnswerKind.{AnswerKind}
use Rattle.nq_script.specs.Reading.{number_then}
use Rattle.nq_script.specs.WordsReading.{cut as cut_at}
use Rattle.nq_script.proofs.CallReading.{then-again, then-found}
use Rattle.nq_script.proofs.Cuts.{cut-again, cut-found}
use Rattle.nq_script.proofs.Splitting.{lacks-tested}

-- a kind's word tells it
kind-again : (kind : AnswerKind) → kind_of (kind_word kind) ≡ Some kind
unfolding kind_of
kind-again AnswerKind.Done = refl
kind-again AnswerKind.Refused = refl
kind-again AnswerKind.Bytes = refl
kind-again AnswerKind.Note = refl
kind-again AnswerKind.Wait = refl

cut-kind : (kind : AnswerKind) (text : List ℕ) → cut_at 32 (kind_word kind ++ 32 ∷ text) ≡ Some (kind_word kind, text)
cut-kind AnswerKind.Done text = cut-again 32 (codes "ok") text (lacks-tested 32 (codes "ok") refl)
cut-kind AnswerKind.Refused text = cut-again 32 (codes "no") text (lacks-tested 32 (codes "no") refl)
cut-kind AnswerKind.Bytes text = cut-again 32 (codes "bytes") text (lacks-tested 32 (codes "bytes") refl)
cut-kind AnswerKind.Note text = cut-again 32 (codes "note") text (lacks-tested 32 (codes "note") refl)
cut-kind AnswerKind.Wait text = cut-again 32 (codes "wait") text (lacks-tested 32 (codes "wait") refl)

kind-then : (kind : AnswerKind) (text : List ℕ) → kind_then (kind_word kind ++ 32 ∷ text) ≡ Some (kind, text)
unfolding kind_then
kind-then kind text = rw (cut-kind kind text, kind-again kind) refl

-- the line of an answer is read as it
pub answer-again : (number : ℕ) (kind : AnswerKind) (text : List ℕ) → number < 2 ^ 32 → answer_told (answer_line number kind text) ≡ Some (number, (kind, text))
unfolding answer_told
answer-again number kind text low = rw (then-again number (kind_word kind ++ 32 ∷ text) low, kind-then kind text) refl

-- a line that is spelled as an ask is read as it
pub ask-only : (number : ℕ) (text line : List ℕ) → number < 2 ^ 32 → line ≡ ask_line number text → number_then line ≡ Some (number, text)
ask-only number text line low is = ap number_then is ∙ then-again number text low

-- what is read as an ask is spelled so
pub ask-found : {X : Type 0} (view : X → ℕ × List ℕ) (line : List ℕ) (read : Option X) → option_map view read ≡ number_then line
    → IfSome read (λ r. line ≡ ask_line (view r).0 (view r).1)
ask-found view line None is = tt
ask-found view line (Some r) is = (then-found line (view r).0 (view r).1 (sym is)).0

-- one kind more: a word that is tested for it, and else one of the rest
one-kind : (word own : List ℕ) (one kind : AnswerKind) (rest : Option AnswerKind) → kind_word one ≡ own
    → (rest ≡ Some kind → word ≡ kind_word kind) → (if bytes_eq word own then Some one else rest) ≡ Some kind → word ≡ kind_word kind
one-kind word own one kind rest spelled others is = by_test (bytes_eq word own) refl is
  where
    by_test : (test : Bool) → bytes_eq word own ≡ test → (if test then Some one else rest) ≡ Some kind → word ≡ kind_word kind
    by_test true same told = (bytes_eq-Decides word own).0 same ∙ sym spelled ∙ ap kind_word (same_Some _ _ told)
    by_test false other told = others told

no-kind : (word : List ℕ) (kind : AnswerKind) → None ≡ Some kind → word ≡ kind_word kind
no-kind word kind is = absurd (none-some kind is)

kind-found : (word : List ℕ) (kind : AnswerKind) → kind_of word ≡ Some kind → word ≡ kind_word kind
unfolding kind_of
kind-found word kind is =
    one-kind word (codes "ok") AnswerKind.Done kind _ refl (
    one-kind word (codes "no") AnswerKind.Refused kind _ refl (
    one-kind word (codes "bytes") AnswerKind.Bytes kind _ refl (
    one-kind word (codes "note") AnswerKind.Note kind _ refl (
    one-kind word (codes "wait") AnswerKind.Wait kind None refl (no-kind word kind))))) is

-- a line that is spelled as an answer is read as it
pub answer-only : (number : ℕ) (kind : AnswerKind) (text line : List ℕ) → number < 2 ^ 32 → line ≡ answer_line number kind text
    → answer_told line ≡ Some (number, (kind, text))
answer-only number kind text line low is = ap answer_told is ∙ answer-again number kind text low

-- what is read as an answer is spelled so
answer-spelled : (line : List ℕ) (v : ℕ × (AnswerKind × List ℕ)) → answer_told line ≡ Some v → line ≡ answer_line v.0 v.1.0 v.1.1
unfolding answer_told kind_then
answer-spelled line v e =
    let numbered = bind_some (number_then line) (λ n. kind_then n.1 >>= λ k. Some (n.0, k)) v e in
    let kinded = bind_some (kind_then numbered.0.1) (λ k. Some (numbered.0.0, k)) v numbered.2 in
    let same = some_pair_parts numbered.0.0 v.0 kinded.0 v.1 kinded.2 in
    let cut = bind_some (cut_at 32 numbered.0.1) (λ p. kind_of p.0 >>= λ k. Some (k, p.1)) kinded.0 kinded.1 in
    let told = bind_some (kind_of cut.0.0) (λ k. Some (k, cut.0.1)) kinded.0 cut.2 in
    let both : (told.0, cut.0.1) ≡ v.1 = same_Some (told.0, cut.0.1) kinded.0 told.2 ∙ same.1 in
    (then-found line numbered.0.0 numbered.0.1 numbered.1).0
    ∙ ap (λ r. decimal numbered.0.0 ++ 32 ∷ r) ((cut-found 32 numbered.0.1 cut.0.0 cut.0.1 cut.1).0
    ∙ ap (λ w. w ++ 32 ∷ cut.0.1) (kind-found cut.0.0 told.0 told.1))
    ∙ ap (λ n. decimal n ++ 32 ∷ (kind_word told.0 ++ 32 ∷ cut.0.1)) same.0
    ∙ ap (λ (b : AnswerKind × List ℕ). decimal v.0 ++ 32 ∷ (kind_word b.0 ++ 32 ∷ b.1)) both

pub answer-found : {X : Type 0} (view : X → ℕ × (AnswerKind × List ℕ)) (line : List ℕ) (read : Option X) → option_map view read ≡ answer_told line
    → IfSome read (λ r. line ≡ answer_line (view r).0 (view r).1.0 (view r).1.1)
answer-found view line None is = tt
answer-found view line (Some r) is = answer-spelled line (view r) (sym is)
