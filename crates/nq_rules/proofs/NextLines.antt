-- An entry stands in order where its incarnation has a next line.
use Rattle.std.proofs.Common.{◌≡◌, ℕ, Bool, List, Option, sym, subst}
use Rattle.std.specs.Prelude.{IsTrue, Result, Ok, Err, IfOk}
use Rattle.nq_base.specs.declared.Entry.{Entry}
use Rattle.nq_base.specs.declared.Entry.TheVariants.{C, W, R, Z, A}
use Rattle.nq_base.specs.declared.Said.{Said}
use Rattle.nq_base.specs.declared.Told.{Told}
use Rattle.nq_base.specs.declared.Who.{Who}
use Rattle.nq_model.specs.laws.OrderedTest.{is_busy_next}
use Rattle.nq_rules.specs.declared.lines.CallProgress.{CallProgress}
use Rattle.nq_rules.specs.InOrder.{IsNext, StandsInOrder}
use Rattle.nq_rules.specs.Lines.{after_answer_of, after_call, after_read_of, after_resize_of, after_write_of, line_at}
use Rattle.nq_rules.proofs.Lining.{answer_stands, call_stands, read_stands, resize_stands, write_stands}

pub call_next : {E : Type 0} (r : Result Bool E) (whole after : List Entry) (entry : Entry) (who : Who) (q : ℕ) (told : Told) (is_busy : Bool)
    (line : CallProgress) (found : Option CallProgress) (old new : List ((ℕ × ℕ) × CallProgress)) → entry ≡ C who q told → is_busy ≡ is_busy_next who q after
    → line ≡ line_at old who → found ≡ after_call line q told is_busy → IfOk r (λ yes. IsTrue yes → IsNext who found old new)
    → IfOk r (λ yes. IsTrue yes → StandsInOrder whole after entry old new)
call_next (Ok made) whole after entry who q told is_busy line found old new is busy at next h =
    λ t. subst (λ (e : Entry). StandsInOrder whole after e old new) (sym is)
    (call_stands whole after who q told is_busy old new busy
    (subst (λ (l : CallProgress). IsNext who (after_call l q told is_busy) old new) at (subst (λ (n : Option CallProgress). IsNext who n old new) next (h t))))
call_next (Err e) whole after entry who q told is_busy line found old new is busy at next h = tt

pub write_next : {E : Type 0} (r : Result Bool E) (whole after : List Entry) (entry : Entry) (who : Who) (file block number value : ℕ) (through : Bool)
    (line : CallProgress) (found : Option CallProgress) (old new : List ((ℕ × ℕ) × CallProgress)) → entry ≡ W who file block number value through → line ≡ line_at old who
    → found ≡ after_write_of line file block number value line.current line.busy → IfOk r (λ yes. IsTrue yes → IsNext who found old new)
    → IfOk r (λ yes. IsTrue yes → StandsInOrder whole after entry old new)
write_next (Ok made) whole after entry who file block number value through line found old new is at next h =
    λ t. subst (λ (e : Entry). StandsInOrder whole after e old new) (sym is)
    (write_stands whole after who file block number value through old new
    (subst (λ (l : CallProgress). IsNext who (after_write_of l file block number value l.current l.busy) old new) at
    (subst (λ (n : Option CallProgress). IsNext who n old new) next (h t))))
write_next (Err e) whole after entry who file block number value through line found old new is at next h = tt

pub resize_next : {E : Type 0} (r : Result Bool E) (whole after : List Entry) (entry : Entry) (who : Who) (q file from to : ℕ) (line : CallProgress)
    (found : Option CallProgress) (old new : List ((ℕ × ℕ) × CallProgress)) → entry ≡ Z who q file from to → line ≡ line_at old who
    → found ≡ after_resize_of line q file to line.current → IfOk r (λ yes. IsTrue yes → IsNext who found old new)
    → IfOk r (λ yes. IsTrue yes → StandsInOrder whole after entry old new)
resize_next (Ok made) whole after entry who q file from to line found old new is at next h =
    λ t. subst (λ (e : Entry). StandsInOrder whole after e old new) (sym is)
    (resize_stands whole after who q file from to old new
    (subst (λ (l : CallProgress). IsNext who (after_resize_of l q file to l.current) old new) at (subst (λ (n : Option CallProgress). IsNext who n old new) next (h t))))
resize_next (Err e) whole after entry who q file from to line found old new is at next h = tt

pub read_next : {E : Type 0} (r : Result Bool E) (whole after : List Entry) (entry : Entry) (who : Who) (q file block value : ℕ) (served : Option ℕ)
    (line : CallProgress) (found : Option CallProgress) (old new : List ((ℕ × ℕ) × CallProgress)) → entry ≡ R who q file block value served → line ≡ line_at old who
    → found ≡ after_read_of line q line.current → IfOk r (λ yes. IsTrue yes → IsNext who found old new)
    → IfOk r (λ yes. IsTrue yes → StandsInOrder whole after entry old new)
read_next (Ok made) whole after entry who q file block value served line found old new is at next h =
    λ t. subst (λ (e : Entry). StandsInOrder whole after e old new) (sym is)
    (read_stands whole after who q file block value served old new
    (subst (λ (l : CallProgress). IsNext who (after_read_of l q l.current) old new) at (subst (λ (n : Option CallProgress). IsNext who n old new) next (h t))))
read_next (Err e) whole after entry who q file block value served line found old new is at next h = tt

pub answer_next : {E : Type 0} (r : Result Bool E) (whole after : List Entry) (entry : Entry) (who : Who) (q : ℕ) (said : Said) (line : CallProgress)
    (found : Option CallProgress) (old new : List ((ℕ × ℕ) × CallProgress)) → entry ≡ A who q said → line ≡ line_at old who
    → found ≡ after_answer_of line q line.current line.busy → IfOk r (λ yes. IsTrue yes → IsNext who found old new)
    → IfOk r (λ yes. IsTrue yes → StandsInOrder whole after entry old new)
answer_next (Ok made) whole after entry who q said line found old new is at next h =
    λ t. subst (λ (e : Entry). StandsInOrder whole after e old new) (sym is)
    (answer_stands whole after who q said old new
    (subst (λ (l : CallProgress). IsNext who (after_answer_of l q l.current l.busy) old new) at (subst (λ (n : Option CallProgress). IsNext who n old new) next (h t))))
answer_next (Err e) whole after entry who q said line found old new is at next h = tt
