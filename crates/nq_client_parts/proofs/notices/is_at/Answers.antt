use Rattle.std.proofs.Common.{◌≡◌, ◌==◌, ℕ, Bool, true, false, List, map, Option, Some, None, is_some, length, if◌then◌else◌, refl, sym, ap, ◌∙◌}
use Rattle.std.specs.List.{slice_get}
use Rattle.std.proofs.lemmas.Option.{slice_get_read, slice_get_past}
use Rattle.std.specs.Option.{option_map}
use Rattle.nq_client_parts.specs.ByFile.{of_file}
use Rattle.nq_client_parts.proofs.NoticeList.{same_list}
use Rattle.nq_client_parts.proofs.Places.{found-place}
use Rattle.nq_model.specs.protocol.Client.{Notice, file_of_notice, notice_on}
use Rattle.nq_client_parts.proofs.notices.is_at.Goals as goal

tested : (file : ℕ) (o : Option Notice) → Bool
tested file None = false
tested file (Some n) = file_of_notice n == file

chosen : (b : Bool) (n : Notice) → b ≡ is_some (option_map (λ x. x) (if b then Some n else None))
chosen true n = refl
chosen false n = refl

is_of : (file : ℕ) (o : Option Notice) → tested file o ≡ is_some (option_map (λ x. x) (of_file file_of_notice file o))
unfolding tested
is_of file None = refl
is_of file (Some n) = chosen (file_of_notice n == file) n

found : (file place : ℕ) (notices : List Notice) → option_map (λ x. x) (of_file file_of_notice file (slice_get notices place)) ≡ notice_on file
    (map (λ x. x) notices) → tested file (slice_get notices place) ≡ is_some (notice_on file notices)
found file place notices h = is_of file (slice_get notices place) ∙ ap is_some h ∙ ap (λ xs. is_some (notice_on file xs)) (same_list notices)

pub returns-in-Some : goal.returns-in-Some
unfolding tested
returns-in-Some c =
    let there : slice_get c.args.notices.now c.args.place ≡ Some c.in-Some.notice.now = slice_get_read c.args.notices.now (length c.args.notices.now)
    c.args.place c.in-Some.notice.now refl c.in-Some.ensures.lookup.3.0 c.in-Some.ensures.lookup.1 in
    c.eq.ensures
    ∙ ap (λ m. m == c.args.file) c.file.ensures
    ∙ ap (tested c.args.file) (sym there)
    ∙ found c.args.file c.args.place c.args.notices.now (sym (found-place file_of_notice (λ n. n) c.args.file c.args.notices.now c.args.place
    c.requires.ascends c.requires.place))

pub returns-in-None : goal.returns-in-None
unfolding tested
returns-in-None c =
    let absent : slice_get c.args.notices.now c.args.place ≡ None = slice_get_past c.args.notices.now c.args.place c.in-None.ensures.lookup.3 in
    ap (tested c.args.file) (sym absent)
    ∙ found c.args.file c.args.place c.args.notices.now (sym (found-place file_of_notice (λ n. n) c.args.file c.args.notices.now c.args.place
    c.requires.ascends c.requires.place))
