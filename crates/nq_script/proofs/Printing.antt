-- What is printed is spelled so.
use Rattle.std.proofs.Common.{◌≡◌, ℕ, ◌+◌, List, [], ◌∷◌, ◌++◌, ap, sym, ◌∙◌, append_assoc, codes, map, take, slice_get, Some}
use Rattle.std.specs.Fmt.{decimal}
use Rattle.std.specs.List.{flat_map}
use Rattle.std.proofs.lemmas.List.{append-nil, map-append, take_more}
use Rattle.std.proofs.lemmas.Option.{slice_get_within, get_or_from_slice_get}
use Rattle.nq_script.specs.Heads.{file_line, version_line, hosts_line, term_line, longest_lines, settings_lines, head_lines}
use Rattle.nq_script.specs.Text.{spaced, text_of}
use Rattle.nq_script.specs.declared.heads.Head.{Head}
use Rattle.nq_script.specs.Words.{spaced as behind_blank}
use Rattle.nq_script.proofs.FileLines.{text_of-append}

-- a word and numbers, each behind a blank, are words with blanks between them
pub command_spaced : (word : List ℕ) (numbers : List ℕ) → word ++ flat_map (λ n. behind_blank (decimal n)) numbers ≡ spaced (word ∷ map decimal numbers)
command_spaced word [] = append-nil word
command_spaced word (n ∷ numbers) = ap (λ t. word ++ 32 ∷ t) (command_spaced (decimal n) numbers)

-- lines are printed behind lines
printed-more : (before after : List ℕ) (xs ys : List (List ℕ)) → before ≡ text_of xs → after ≡ before ++ text_of ys → after ≡ text_of (xs ++ ys)
printed-more before after xs ys so-far more = more ∙ ap (λ t. t ++ text_of ys) so-far ∙ sym (text_of-append xs ys)

-- a head is printed line by line
pub head-printed : (head : Head) (t₀ t₁ t₂ t₃ t₄ t₅ t₆ : List ℕ) → t₀ ≡ [] → t₁ ≡ t₀ ++ text_of (version_line head.version ∷ [])
    → t₂ ≡ t₁ ++ text_of (hosts_line head.hosts ∷ []) → t₃ ≡ t₂ ++ text_of (term_line head.term ∷ [])
    → t₄ ≡ t₃ ++ text_of (longest_lines head.version head.longest) → t₅ ≡ t₄ ++ text_of (map file_line head.files)
    → t₆ ≡ t₅ ++ text_of (codes "begin" ∷ []) → t₆ ≡ text_of (head_lines head)
head-printed head t₀ t₁ t₂ t₃ t₄ t₅ t₆ e₀ e₁ e₂ e₃ e₄ e₅ e₆ =
    let settings = settings_lines head.version head.hosts head.term head.longest in
    let one = printed-more t₀ t₁ [] (version_line head.version ∷ []) e₀ e₁ in
    let two = printed-more t₁ t₂ (version_line head.version ∷ []) (hosts_line head.hosts ∷ []) one e₂ in
    let three = printed-more t₂ t₃ (version_line head.version ∷ hosts_line head.hosts ∷ []) (term_line head.term ∷ []) two e₃ in
    let four = printed-more t₃ t₄ (version_line head.version ∷ hosts_line head.hosts ∷ term_line head.term ∷ []) (longest_lines head.version
    head.longest) three e₄ in
    let five = printed-more t₄ t₅ settings (map file_line head.files) four e₅ in
    printed-more t₅ t₆ (settings ++ map file_line head.files) (codes "begin" ∷ []) five e₆
    ∙ ap text_of (append_assoc settings (map file_line head.files) (codes "begin" ∷ []))

-- one more file is printed
pub file-printed : (before text new : List ℕ) (files : List (List ℕ × ℕ)) (place : ℕ) (f : List ℕ × ℕ) → text ≡ before
    ++ text_of (map file_line (take place files))
    → slice_get files place ≡ Some f → new ≡ text ++ text_of (file_line f ∷ []) → new ≡ before ++ text_of (map file_line (take (place + 1) files))
file-printed before text new files place f so-far here more =
    more ∙ ap (λ t. t ++ text_of (file_line f ∷ [])) so-far
    ∙ append_assoc before (text_of (map file_line (take place files))) (text_of (file_line f ∷ []))
    ∙ ap (λ t. before ++ t) (sym (text_of-append (map file_line (take place files)) (file_line f ∷ [])))
    ∙ ap (λ l. before ++ text_of l) (sym (map-append file_line (take place files) (f ∷ [])))
    ∙ ap (λ l. before ++ text_of (map file_line l)) (sym (take_more files place f (slice_get_within files place f here)
    ∙ ap (λ g. take place files ++ g ∷ []) (get_or_from_slice_get files place f f here)))
