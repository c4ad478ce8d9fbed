-- Which commands do not end with usage.
use Rattle.std.proofs.Common.{◌≡◌, ℕ, List, Option, inl, inr, subst, sym, ◌∙◌, ⊎_elim, arith}
use Rattle.nq_base.proofs.Ends.{one_end}
use Rattle.nq_base.specs.Status.{status_of}
use Rattle.nq_base.specs.declared.Who.{Who}
use Rattle.nq_base.specs.declared.ending.ending.Ending.{Ending}
use Rattle.nq_clock.specs.Clocks.{ClockTold}
use Rattle.nq_link.specs.Links.{LinkTold}
use Rattle.nq_serving.specs.Serving.{EndsBy}
use Rattle.nq_hosts.specs.Using.{EndsBy as UsesBy}
use Rattle.nq_model.specs.protocol.Kept.{Kept}
use Rattle.nq_run.specs.Hosting.{Attends}
use Rattle.nq_service.specs.Formatting.{Formats}
use Rattle.nq_service.specs.Serving.{IsNotOpened, PrintsBehind, ServesDisk}

pub formats_usage : {D : Type 0} (faults : D → ℕ) (told : D → Option (List ℕ)) (may_leave : D → List ℕ → Type 0) (code : ℕ) (disk left : D)
    → Formats faults told may_leave code disk left → code ≡ status_of Ending.Usage → ⊥
formats_usage faults told may_leave code disk left (inl empty) none = let no = sym empty.status ∙ none in absurd (omega arith)
formats_usage faults told may_leave code disk left (inr fails) none = let no = sym fails.status ∙ none in absurd (omega arith)

not-opened : {D : Type 0} (told : D → Option (List ℕ)) (faults : D → ℕ) (code : ℕ) (disk left : D) (held now : Option (List ℕ)) (w w' : ℕ)
    → IsNotOpened told faults code disk left held now w w' → code ≡ status_of Ending.Usage → ⊥
not-opened told faults code disk left held now w w' (inl refuses) none =
    ⊎_elim (λ tells. let no = sym tells.0 ∙ none in absurd (omega arith)) (λ lacks. let no = sym lacks.0 ∙ none in absurd (omega arith)) refuses.tells
not-opened told faults code disk left held now w w' (inr (inl fails)) none = let no = sym fails.status ∙ none in absurd (omega arith)
not-opened told faults code disk left held now w w' (inr (inr lacks)) none = let no = sym lacks.status ∙ none in absurd (omega arith)

not-behind : (end : Ending) (code : ℕ) (content : Option Kept) (keep keep' link link' w w' between : ℕ) (held now : Option (List ℕ))
    → EndsBy end content keep keep' link link' w between → PrintsBehind end code held now between w' → code ≡ status_of Ending.Usage → ⊥
not-behind Ending.Done code content keep keep' link link' w w' between held now ends prints none = let no = sym prints.0 ∙ none in absurd (omega arith)
not-behind Ending.WriteFault code content keep keep' link link' w w' between held now ends prints none = let no = sym prints.0 ∙ none in absurd (omega arith)
not-behind Ending.KeepFault code content keep keep' link link' w w' between held now ends prints none = let no = sym prints.0 ∙ none in absurd (omega arith)
not-behind Ending.Memory code content keep keep' link link' w w' between held now ends prints none = let no = sym prints.0 ∙ none in absurd (omega arith)
not-behind Ending.LinkFault code content keep keep' link link' w w' between held now ends prints none = let no = sym prints.0 ∙ none in absurd (omega arith)
not-behind Ending.Spent code content keep keep' link link' w w' between held now ends prints none =
    ⊎_elim (λ told. let no = sym told.0 ∙ none in absurd (omega arith)) (λ lacks. let no = sym lacks.0 ∙ none in absurd (omega arith)) prints
not-behind other code content keep keep' link link' w w' between held now ends prints none = absurd ends

pub serves_usage : {D : Type 0} (told : D → Option (List ℕ)) (faults : D → ℕ) (may_leave : D → List ℕ → Type 0) (follows : D → D → Type 0) (leaves : D
    → D → List ℕ → Type 0)
    (code longest turns : ℕ) (disk left : D) (clock clock' : ClockTold) (link link' : LinkTold) (held now : Option (List ℕ)) (w w' : ℕ)
    → ServesDisk told faults may_leave follows leaves code longest turns disk left clock clock' link link' held now w w' → code ≡ status_of Ending.Usage → ⊥
serves_usage told faults may_leave follows leaves code longest turns disk left clock clock' link link' held now w w' (inl opens) none =
    not-opened told faults code disk left held now w w' opens.why none
serves_usage told faults may_leave follows leaves code longest turns disk left clock clock' link link' held now w w' (inr serves) none =
    let s = serves.serves in
    not-behind s.end code _ _ _ _ _ _ _ _ _ _ s.cause s.prints none

-- a client does not either
pub attends_usage : (turns : ℕ) (who : Who) (limit code : ℕ) (left rest : Option (List ℕ)) (s s' : ℕ) (held now : Option (List ℕ)) (w w' : ℕ)
    (clock clock' : ClockTold) (link link' : LinkTold)
    → Attends turns who limit code left rest s s' held now w w' clock clock' link link' → code ≡ status_of Ending.Usage → ⊥
attends_usage turns who limit code left rest s s' held now w w' clock clock' link link' a none =
    subst (λ e. UsesBy e s s' w w' link.faults link'.faults) (one_end a.end Ending.Usage code a.status none) a.cause
