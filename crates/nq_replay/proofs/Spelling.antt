-- The events of a run have lines.
use Rattle.std.proofs.Common.{◌≡◌, ℕ, ◌+◌, ◌≤◌, List, [], ◌∷◌, ◌++◌, length, take, zero, suc, slice_get, Some, sym, ap, subst, ◌∙◌, append_assoc}
use Rattle.std.proofs.lemmas.List.{append-nil, take_all, take_more}
use Rattle.std.proofs.lemmas.Option.{get_or_from_slice_get, slice_get_within}
use Rattle.std.specs.List.{AllByRecursion}
use Rattle.nq_base.specs.declared.Event.{Event}
use Rattle.nq_script.proofs.FileLines.{text_of-append}
use Rattle.nq_script.specs.Lines.{Allows, AreSpelled, SpellsEvent}
use Rattle.nq_script.specs.Text.{text_of}
use Rattle.nq_script.specs.declared.heads.Head.{Head}

pub each-at : (P : Event → Type 0) (events : List Event) (place : ℕ) (event : Event) → AllByRecursion P events → slice_get events place ≡ Some event → P event
each-at P [] place event all here = absurd (cc)
each-at P (e ∷ events) zero event all here = let same : e ≡ event = cc in subst P same all.0
each-at P (e ∷ events) (suc place) event all here = each-at P events place event all.1 here

-- ---- one line more

spelled-more : (head : Head) (events : List Event) (texts : List (List ℕ)) (event : Event) (line : List ℕ) → AreSpelled head events texts → Allows head event
    → SpellsEvent head.version event line
    → AreSpelled head (events ++ event ∷ []) (texts ++ line ∷ [])
spelled-more head [] [] event line all allowed spelled = (allowed, spelled, tt)
spelled-more head [] (text ∷ texts) event line all allowed spelled = absurd all
spelled-more head (e ∷ events) [] event line all allowed spelled = absurd all
spelled-more head (e ∷ events) (text ∷ texts) event line all allowed spelled = (all.0, all.1, spelled-more head events texts event line all.2 allowed spelled)

-- the lines of the first of these events stand behind a text
abbrev pub Stand : (head : Head) → (before text : List ℕ) → List Event → (place : ℕ) → Type 0
Stand head before text events place = (texts : List (List ℕ)) × AreSpelled head (take place events) texts × (text ≡ before ++ text_of texts)

pub none-stand : (head : Head) (before text : List ℕ) (events : List Event) → text ≡ before → Stand head before text events 0
none-stand head before text events is = ([], tt, is ∙ sym (append-nil before))

pub more-stand : (head : Head) (before text new : List ℕ) (events : List Event) (place : ℕ) (event : Event) (line : List ℕ)
    → Stand head before text events place → slice_get events place ≡ Some event → Allows head event → SpellsEvent head.version event line
    → new ≡ text ++ text_of (line ∷ []) → Stand head before new events (place + 1)
more-stand head before text new events place event line stand here allowed spelled is =
    let first : take (place + 1) events ≡ take place events ++ event ∷ [] =
    take_more events place event (slice_get_within events place event here) ∙ ap (λ g. take place events ++ g ∷ []) (get_or_from_slice_get events
    place event event here) in (
      stand.0 ++ line ∷ [],
      subst (λ es. AreSpelled head es (stand.0 ++ line ∷ [])) (sym first) (spelled-more head (take place events) stand.0 event line stand.1 allowed spelled),
      is ∙ ap (λ t. t ++ text_of (line ∷ [])) stand.2 ∙ append_assoc before (text_of stand.0) (text_of (line ∷ [])) ∙ ap (λ t. before ++ t)
          (sym (text_of-append stand.0 (line ∷ []))),
    )

pub all-stand : (head : Head) (before text : List ℕ) (events : List Event) (place : ℕ) → length events ≤ place → Stand head before text events place
    → (texts : List (List ℕ)) × AreSpelled head events texts × (text ≡ before ++ text_of texts)
all-stand head before text events place whole stand =
    (stand.0, subst (λ es. AreSpelled head es stand.0) (take_all place events whole) stand.1, stand.2)
