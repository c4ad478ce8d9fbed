-- The room in entries does not count.
use Rattle.std.proofs.Common.{◌≡◌, ℕ, ◌<◌, Bool, List, [], ◌∷◌, length, take, get_or, map, refl, sym, ap, ◌∙◌, cond, ◌+◌}
use Rattle.std.proofs.lemmas.List.Sums.{sum_by-cons, sum_by_more}
use Rattle.std.specs.List.{count_by}
use Rattle.nq_base.specs.Plain.{plain}
use Rattle.nq_base.specs.declared.Entry.{Entry}
use Rattle.nq_loop.specs.Counts.{is_answer, is_call}

pub same-call : (entry : Entry) → is_call (plain entry) ≡ is_call entry
unfolding is_call
same-call (Entry.A who q said) = refl
same-call (Entry.C who q told) = refl
same-call (Entry.W who file block number value through) = refl
same-call (Entry.R who q file block value served) = refl
same-call (Entry.S who file block first last now) = refl
same-call (Entry.L who file block first last) = refl
same-call (Entry.G who file mode tag term now) = refl
same-call (Entry.F who file until heard now) = refl
same-call (Entry.O boot until heard now) = refl
same-call (Entry.B who) = refl
same-call (Entry.X boot now longest) = refl
same-call (Entry.Z who q file from to) = refl

pub same-answer : (entry : Entry) → is_answer (plain entry) ≡ is_answer entry
unfolding is_answer
same-answer (Entry.A who q said) = refl
same-answer (Entry.C who q told) = refl
same-answer (Entry.W who file block number value through) = refl
same-answer (Entry.R who q file block value served) = refl
same-answer (Entry.S who file block first last now) = refl
same-answer (Entry.L who file block first last) = refl
same-answer (Entry.G who file mode tag term now) = refl
same-answer (Entry.F who file until heard now) = refl
same-answer (Entry.O boot until heard now) = refl
same-answer (Entry.B who) = refl
same-answer (Entry.X boot now longest) = refl
same-answer (Entry.Z who q file from to) = refl

pub same-count : (is : Entry → Bool) (entries : List Entry) → ((entry : Entry) → is (plain entry) ≡ is entry) → count_by is (map plain entries)
    ≡ count_by is entries
same-count is [] same = refl
same-count is (entry ∷ entries) same =
    let f : Entry → ℕ = λ e. cond (is e) 1 0 in
    sum_by-cons f (plain entry) (map plain entries)
    ∙ ap (λ b. cond b 1 0 + count_by is (map plain entries)) (same entry)
    ∙ ap (λ n. f entry + n) (same-count is entries same)
    ∙ sym (sum_by-cons f entry entries)

-- one entry more is counted
pub one-more : (is : Entry → Bool) (entries : List Entry) (place count more : ℕ) (entry : Entry) → place < length entries
    → count ≡ count_by is (take place entries) → more ≡ cond (is entry) 1 0 → entry ≡ get_or entries place entry
    → count + more ≡ count_by is (take (place + 1) entries)
one-more is entries place count more entry there so-far here at =
    let f : Entry → ℕ = λ e. cond (is e) 1 0 in
    ap (λ n. n + more) so-far ∙ ap (λ n. count_by is (take place entries) + n) (here ∙ ap f at) ∙ sym (sum_by_more f entries place entry there)
