-- Journals that only the laws on what answers say refuse.
use Rattle.std.proofs.Common.{◌≡◌, ◌⊎◌, ℕ, Bool, true, false, List, [], ◌∷◌, Option, Some, None, is_some, refl, sym, subst, ap, ◌∙◌, inl, inr, arith}
use Rattle.std.specs.Prelude.{nat_le}
use Rattle.nq_base.specs.Block.{filled, zeros}
use Rattle.nq_base.specs.declared.Call.{Call}
use Rattle.nq_base.specs.declared.Entry.{Entry}
use Rattle.nq_base.specs.declared.Event.{Event}
use Rattle.nq_base.specs.declared.Said.{Said}
use Rattle.nq_base.specs.declared.Told.{Told}
use Rattle.nq_base.specs.declared.Who.{Who}
use Rattle.nq_laws.specs.RefusedAnswers.{no_file_head, made_and_found, its_journal, OnlyMomentsRefuse, OnlyNamesRefuse}
use Rattle.nq_laws.specs.RefusedAnswers.{one_block_head, grown_and_fetched, a_fetched_block, OnlyRangesRefuse}
use Rattle.nq_model.specs.laws.AnswersHaveCauses.{LacksName, LacksBlock}
use Rattle.nq_model.specs.laws.AnswersTellWhatWas.{Meanwhile}
use Rattle.nq_model.specs.laws.Journal.{Exists, IsCall}
use Rattle.nq_model.specs.protocol.Kept.{File, blocks_of, find_file, find_name}
use Rattle.nq_model.specs.laws.RepliesTellWhatWas.{Once}
use Rattle.nq_model.specs.protocol.World.{World, start, run}
use Rattle.walk_steps.proofs.GivenRuns.{given-run}
use Rattle.walk_steps.proofs.Tests.{is-at-most, is-not-at-most}

abbrev asker : Who
asker = record { host = 0; inc = 1 }

abbrev one : ℕ
one = 1

abbrev two : ℕ
two = 2

-- ---- the moments of the run

abbrev made : List Event
made = Event.Deliver 1 ∷ Event.Deliver 0 ∷ Event.Call 0 (Call.Create (98 ∷ []) 1) ∷ []

abbrev asked : List Event
asked = Event.Call 0 (Call.Lookup (98 ∷ [])) ∷ made

abbrev told : List Event
told = Event.Deliver 2 ∷ asked

abbrev Lacks : World → Type 0
Lacks w = LacksName w.server.kept.files (98 ∷ [])

ran : (run no_file_head made_and_found).journal ≡ its_journal
unfolding filled zeros given-run
ran = refl

made-there : is_some (find_name (98 ∷ []) (run no_file_head made).server.kept.files) ≡ true
unfolding filled zeros given-run
made-there = refl

asked-there : is_some (find_name (98 ∷ []) (run no_file_head asked).server.kept.files) ≡ true
unfolding filled zeros given-run
asked-there = refl

told-there : is_some (find_name (98 ∷ []) (run no_file_head told).server.kept.files) ≡ true
unfolding filled zeros given-run
told-there = refl

made-journal : (run no_file_head made).journal ≡ Entry.A asker 1 (Said.OkValue 1) ∷ Entry.C asker 1 (Told.Create (98 ∷ []) 1) ∷ []
unfolding filled zeros given-run
made-journal = refl

sent-journal : (run no_file_head (Event.Deliver 0 ∷ Event.Call 0 (Call.Create (98 ∷ []) 1) ∷ [])).journal ≡ Entry.C asker 1 (Told.Create (98 ∷ []) 1) ∷ []
unfolding filled zeros given-run
sent-journal = refl

first-journal : (run no_file_head (Event.Call 0 (Call.Create (98 ∷ []) 1) ∷ [])).journal ≡ Entry.C asker 1 (Told.Create (98 ∷ []) 1) ∷ []
unfolding filled zeros given-run
first-journal = refl

no-file : Lacks (start no_file_head)
unfolding start filled zeros given-run
no-file = refl

-- the second call is not made
not-second : Exists (IsCall asker 2) (Entry.C asker 1 (Told.Create (98 ∷ []) 1) ∷ []) → ⊥
not-second (inl c) = let same : one ≡ two = c.1 in omega arith
not-second (inr bad) = bad

not-yet : Exists (IsCall asker 2) (Entry.A asker 1 (Said.OkValue 1) ∷ Entry.C asker 1 (Told.Create (98 ∷ []) 1) ∷ []) → ⊥
not-yet (inl bad) = bad
not-yet (inr h) = not-second h

there-not : (w : World) → is_some (find_name (98 ∷ []) w.server.kept.files) ≡ true → Lacks w → ⊥
there-not w there lacks = let bad : true ≡ false = sym there ∙ ap is_some lacks in cc

never : Meanwhile Lacks asker 2 no_file_head made_and_found → ⊥
never (inl now) = there-not (run no_file_head told) told-there now.0
never (inr (inl now)) = there-not (run no_file_head asked) asked-there now.0
never (inr (inr (inl now))) = there-not (run no_file_head made) made-there now.0
never (inr (inr (inr (inl now)))) = not-yet (subst (Exists (IsCall asker 2)) made-journal now.1)
never (inr (inr (inr (inr (inl now))))) = not-second (subst (Exists (IsCall asker 2)) sent-journal now.1)
never (inr (inr (inr (inr (inr (inl now)))))) = not-second (subst (Exists (IsCall asker 2)) first-journal now.1)
never (inr (inr (inr (inr (inr (inr bad)))))) = bad

at-first : Once Lacks no_file_head made_and_found
at-first = inr (inr (inr (inr (inr (inr no-file)))))

-- ---- calls that have no answer yet

neither : ⊥ ⊎ ⊥ → ⊥
neither (inl bad) = bad
neither (inr bad) = bad

second-unanswered : ⊥ ⊎ ((asker ≡ asker) × (one ≡ two)) ⊎ ⊥ ⊎ ⊥ → ⊥
second-unanswered (inl bad) = bad
second-unanswered (inr (inl a)) = let same : one ≡ two = a.1 in omega arith
second-unanswered (inr (inr (inl bad))) = bad
second-unanswered (inr (inr (inr bad))) = bad

pub only-moments-refuse : OnlyMomentsRefuse
only-moments-refuse = record {
  ran = ran;
  others = refl;
  answered = (((inl (refl, refl), λ a. second-unanswered a), tt), (tt, (((inl (refl, refl), λ a. neither a), inl tt), (tt, tt))));
  done = (tt, (tt, (tt, (tt, tt))));
  busy = (tt, (tt, (tt, (tt, tt))));
  forms = (tt, (tt, (tt, (tt, tt))));
  at_first = at-first;
  refused = λ h. never h.0;
}

-- ---- a block that a file got

-- whether a file is there and has no such block
abbrev is_short : Option File → (block : ℕ) → Bool
is_short None block = false
is_short (Some f) block = nat_le (blocks_of f) block

short-lacks : (files : List File) (id block : ℕ) → is_short (find_file id files) block ≡ true → LacksBlock files id block
short-lacks files id block is = case (find_file id files) refl is
  where
    case : (o : Option File) → find_file id files ≡ o → is_short o block ≡ true → LacksBlock files id block
    case None found bad = absurd (cc)
    case (Some f) found short = record { file = f; found = found; beyond = is-at-most (blocks_of f) block short }

long-not : (files : List File) (id block : ℕ) → is_short (find_file id files) block ≡ false → LacksBlock files id block → ⊥
long-not files id block long lacks =
    let below = lacks.beyond in
    let above = is-not-at-most (blocks_of lacks.file) block (sym (ap (λ o. is_short o block) lacks.found) ∙ long) in
    omega arith

abbrev Short : World → Type 0
Short w = LacksBlock w.server.kept.files 1 1

abbrev is_short_in : World → Bool
is_short_in w = is_short (find_file 1 w.server.kept.files) 1

abbrev grows : List Event
grows = Event.Call 0 (Call.Resize 1 2) ∷ []

abbrev grown : List Event
grown = Event.Deliver 0 ∷ grows

abbrev heard : List Event
heard = Event.Deliver 1 ∷ grown

abbrev fetches : List Event
fetches = Event.Call 0 (Call.Fetch 1 1) ∷ heard

abbrev fetched : List Event
fetched = Event.Deliver 2 ∷ fetches

fetched-it : (run one_block_head grown_and_fetched).journal ≡ a_fetched_block
unfolding filled zeros given-run
fetched-it = refl

short-first : is_short_in (start one_block_head) ≡ true
unfolding start filled zeros given-run
short-first = refl

long-then : is_short_in (run one_block_head grown) ≡ false
unfolding filled zeros given-run
long-then = refl

long-heard : is_short_in (run one_block_head heard) ≡ false
unfolding filled zeros given-run
long-heard = refl

long-asked : is_short_in (run one_block_head fetches) ≡ false
unfolding filled zeros given-run
long-asked = refl

long-fetched : is_short_in (run one_block_head fetched) ≡ false
unfolding filled zeros given-run
long-fetched = refl

-- the journals before the fetch
resize-told : (run one_block_head grows).journal ≡ Entry.C asker 1 (Told.Resize 1 2) ∷ []
unfolding filled zeros given-run
resize-told = refl

resize-done : (run one_block_head grown).journal ≡ Entry.Z asker 1 1 1 2 ∷ Entry.C asker 1 (Told.Resize 1 2) ∷ []
unfolding filled zeros given-run
resize-done = refl

not-fetched : Exists (IsCall asker 2) (Entry.C asker 1 (Told.Resize 1 2) ∷ []) → ⊥
not-fetched (inl c) = let same : one ≡ two = c.1 in omega arith
not-fetched (inr bad) = bad

not-yet-fetched : Exists (IsCall asker 2) (Entry.Z asker 1 1 1 2 ∷ Entry.C asker 1 (Told.Resize 1 2) ∷ []) → ⊥
not-yet-fetched (inl bad) = bad
not-yet-fetched (inr h) = not-fetched h

never-short : Meanwhile Short asker 2 one_block_head grown_and_fetched → ⊥
never-short (inl now) = long-not (run one_block_head fetched).server.kept.files 1 1 long-fetched now.0
never-short (inr (inl now)) = long-not (run one_block_head fetches).server.kept.files 1 1 long-asked now.0
never-short (inr (inr (inl now))) = long-not (run one_block_head heard).server.kept.files 1 1 long-heard now.0
never-short (inr (inr (inr (inl now)))) = long-not (run one_block_head grown).server.kept.files 1 1 long-then now.0
never-short (inr (inr (inr (inr (inl now))))) = not-yet-fetched (subst (Exists (IsCall asker 2)) resize-done now.1)
never-short (inr (inr (inr (inr (inr (inl now)))))) = not-fetched (subst (Exists (IsCall asker 2)) resize-told now.1)
never-short (inr (inr (inr (inr (inr (inr bad)))))) = bad

short-at-first : Once Short one_block_head grown_and_fetched
short-at-first = inr (inr (inr (inr (inr (inr (short-lacks (start one_block_head).server.kept.files 1 1 short-first))))))

fetch-unanswered : ⊥ ⊎ ((asker ≡ asker) × (one ≡ two)) ⊎ ⊥ ⊎ ⊥ ⊎ ⊥ → ⊥
fetch-unanswered (inl bad) = bad
fetch-unanswered (inr (inl a)) = let same : one ≡ two = a.1 in omega arith
fetch-unanswered (inr (inr (inl bad))) = bad
fetch-unanswered (inr (inr (inr (inl bad)))) = bad
fetch-unanswered (inr (inr (inr (inr bad)))) = bad

resize-unanswered : ⊥ ⊎ ⊥ ⊎ ⊥ → ⊥
resize-unanswered (inl bad) = bad
resize-unanswered (inr (inl bad)) = bad
resize-unanswered (inr (inr bad)) = bad

pub only-ranges-refuse : OnlyRangesRefuse
only-ranges-refuse = record {
  ran = fetched-it;
  others = refl;
  answered = (
    ((inl (refl, refl), λ a. fetch-unanswered a), tt),
    (tt, (((inr (inl (refl, refl)), λ a. resize-unanswered a), tt), (tt, (tt, tt)))),
  );
  done = (tt, (tt, (inl (refl, refl, refl, refl), (tt, (tt, tt)))));
  busy = (tt, (tt, (tt, (tt, (tt, tt)))));
  forms = (inr (inl tt), (tt, (tt, (tt, (tt, tt)))));
  at_first = short-at-first;
  refused = λ h. never-short h.0;
}

-- ---- a loss of nothing

pub only-names-refuse : OnlyNamesRefuse
only-names-refuse = record {
  others = refl;
  answered = (((inl (refl, refl), λ a. neither a), tt), (tt, tt));
  done = (tt, (tt, tt));
  busy = (tt, (tt, tt));
  forms = (tt, (tt, tt));
  refused = λ h. h.0;
}
