-- Lines that are stepped over.
use Rattle.std.proofs.Common.{◌≡◌, ◌≢◌, true, false, Result, Ok, Err, ℕ, ◌+◌, ◌≤◌, List, [], ◌∷◌, ◌++◌, Some, None, length, refl, ap, sym, subst, ◌∙◌}
use Rattle.std.proofs.Common.{arith, append_assoc, length-append}
use Rattle.std.specs.Prelude.{is_ok}
use Rattle.nq_base.specs.declared.Call.{Call}
use Rattle.nq_hosts.specs.Lines.{IsCall, SoFar, StepsOver}
use Rattle.nq_script.specs.Calls.{SpellsCall}
use Rattle.nq_script.specs.Faults.{Answers}
use Rattle.nq_script.specs.WordsReading.{cut as cut_at}
use Rattle.nq_script.specs.Text.{text_of}
use Rattle.nq_script.specs.declared.faults.ScriptFault.{ScriptFault}
use Rattle.nq_script.specs.declared.faults.ScriptFault.TheVariants.{Bad, Memory}
use Rattle.nq_script.proofs.Cuts.{cut-found}
use Rattle.nq_script.proofs.FileLines.{no-line, one-line, text_of-append}
use Rattle.nq_script.proofs.Fitting.{each-append}

-- one line more was stepped over
pub stepped : (text rest after : List ℕ) (number : ℕ) → SoFar text rest number → (line : List ℕ) → rest ≡ line ++ 10 ∷ after → IsCall line
    → SoFar text after (number + 1)
stepped text rest after number so line here call = record {
  before = so.before ++ line ∷ [];
  each = each-append IsCall so.before (line ∷ []) so.each (call, tt);
  split =
      so.split
      ∙ ap (λ r. text_of so.before ++ r) (here ∙ sym (append_assoc line (10 ∷ []) after))
      ∙ sym (append_assoc (text_of so.before) (line ++ 10 ∷ []) after)
      ∙ ap (λ t. t ++ after) (sym (text_of-append so.before (line ∷ [])));
  place = let more = length-append so.before (line ∷ []) in let place = so.place in omega arith;
}

long-enough : (lines : List (List ℕ)) → length lines ≤ length (text_of lines)
long-enough [] = omega arith
long-enough (line ∷ lines) = let long = length-append line (10 ∷ text_of lines) in let others = long-enough lines in omega arith

-- a text has as many bytes as lines at least
pub small : (text rest : List ℕ) (number : ℕ) → SoFar text rest number → number + length rest ≤ length text + 1
small text rest number so =
    let bytes = long-enough so.before in
    let whole = ap length so.split in
    let long = length-append (text_of so.before) rest in
    let place = so.place in omega arith

-- a text without a line has none that spells a call
pub no-call : (text : List ℕ) → cut_at 10 text ≡ None → (line after : List ℕ) → text ≡ line ++ 10 ∷ after → IsCall line → ⊥
no-call text none line after here call = no-line text line after none here call.0

-- a line that is read as a call spells it
pub spelled : (line : List ℕ) (read : Result Call ScriptFault) → is_ok read ≡ true → Answers read (λ call. SpellsCall 1 call line) (λ number. number
    ≡ 1) → (call : Call) × SpellsCall 1 call line
spelled line (Ok call) is found = (call, found)
spelled line (Err why) is found = absurd cc

-- and one that is not read as one spells none
pub unspelled : (line : List ℕ) (read : Result Call ScriptFault) → is_ok read ≡ false → read ≢ Err Memory
    → ((call : Call) → SpellsCall 1 call line → Answers read (λ found. found ≡ call) (λ number. ⊥))
    → (call : Call) → SpellsCall 1 call line → ⊥
unspelled line (Ok found) is other only call here = absurd cc
unspelled line (Err (Bad number)) is other only call here = only call here
unspelled line (Err Memory) is other only call here = other refl

-- a line that spells no call is not one that does
pub other-line : (text found rest : List ℕ) → cut_at 10 text ≡ Some (found, rest) → ((call : Call) → SpellsCall 1 call found → ⊥)
    → (line after : List ℕ) → text ≡ line ++ 10 ∷ after → IsCall line → ⊥
other-line text found rest cut none line after here call =
    none call.1.0 (subst (SpellsCall 1 call.1.0) (sym (one-line text found rest line after cut here call.0).0) call.1.1)

-- the line that was cut off spells a call
pub over : (text found rest : List ℕ) (call : Call) → cut_at 10 text ≡ Some (found, rest) → SpellsCall 1 call found → StepsOver text (Some rest)
over text found rest call cut spelled =
    let parts = cut-found 10 text found rest cut in (found, parts.0, (parts.1, (call, spelled)))
