-- What is printed of a loop.
use Rattle.std.proofs.Common.{◌≡◌, ℕ, List, ◌++◌, map, Option, sym, ap, subst, ◌∙◌, inl}
use Rattle.std.specs.List.{count_by}
use Rattle.std.specs.Prelude.{reverse}
use Rattle.nq_base.specs.Plain.{plain}
use Rattle.nq_base.specs.declared.Entry.{Entry}
use Rattle.nq_base.specs.declared.Event.{Event}
use Rattle.nq_base.specs.declared.ending.ending.Ending.{Ending}
use Rattle.nq_journal.specs.Text.{journal_text}
use Rattle.nq_loop.proofs.Counting.{same-answer, same-call, same-count}
use Rattle.nq_loop.specs.Counts.{is_answer, is_call, loop_line}
use Rattle.nq_loop.specs.Printed.{PrintsRan, counts_of, loop_text}
use Rattle.nq_replay.proofs.Journals.{plain_text}
use Rattle.nq_replay.specs.Replay.{journal_of}
use Rattle.nq_replay.specs.Schedules.{PrintsBytes}
use Rattle.nq_script.specs.Lines.{once}
use Rattle.nq_script.specs.Schedule.{SpellsSchedule}
use Rattle.nq_script.specs.declared.heads.Head.{Head}

-- the line that counts what a world shows of a run counts that run
pub counted : (head : Head) (events : List Event) (entries : List Entry) (calls answers : ℕ) (line : List ℕ) → line ≡ loop_line calls answers
    → map plain entries ≡ journal_of head events → calls ≡ count_by is_call entries → answers ≡ count_by is_answer entries
    → line ≡ counts_of head events
counted head events entries calls answers line is shown first second =
    is
    ∙ ap (λ n. loop_line n answers) (first ∙ sym (same-count is_call entries same-call) ∙ ap (count_by is_call) shown)
    ∙ ap (λ n. loop_line (count_by is_call (journal_of head events)) n) (second ∙ sym (same-count is_answer entries same-answer)
    ∙ ap (count_by is_answer) shown)

-- a text, a journal's text and a line were printed, which are the run's
pub prints_counted : (end : Ending) (head : Head) (ran : List Event) (before text : List ℕ) (told entries : List Entry) (line : List ℕ)
    (held now : Option (List ℕ)) (w w' : ℕ) → head.version ≡ 1 → before ≡ text → told ≡ entries → SpellsSchedule head (map once ran) text
    → map plain entries ≡ journal_of head (reverse ran) → line ≡ counts_of head (reverse ran)
    → PrintsBytes end (before ++ (journal_text 1 told ++ line)) held now w w' → PrintsRan end head ran held now w w'
prints_counted end head ran before text told entries line held now w w' version first second spelled shown counts printed =
    let same : before ++ (journal_text 1 told ++ line) ≡ loop_text head text (reverse ran) =
    ap (λ t. t ++ (journal_text 1 told ++ line)) first
    ∙ ap (λ e. text ++ (journal_text 1 e ++ line)) second
    ∙ ap (λ j. text ++ (j ++ line)) (plain_text 1 entries (journal_of head (reverse ran)) shown)
    ∙ ap (λ l. text ++ (journal_text 1 (journal_of head (reverse ran)) ++ l)) counts
    ∙ ap (λ v. text ++ (journal_text v (journal_of head (reverse ran)) ++ counts_of head (reverse ran))) (sym version) in
    inl (record { text = text; spelled = spelled; printed = subst (λ b. PrintsBytes end b held now w w') same printed })
