-- While a sync, resize or removal is under way no loss on its file waits; and what a client's step tells is of its incarnation.
use Rattle.std.proofs.Common.{◌≡◌, ◌⊎◌, ℕ, ◌+◌, Bool, true, false, ◌==◌, List, [], ◌∷◌, ◌++◌, Option, Some, None, map, filter, reverse, if◌then◌else◌}
use Rattle.std.proofs.Common.{refl, sym, subst, ap, ◌∙◌, append_assoc, inl, inr}
use Rattle.nq_base.specs.declared.Call.{Call}
use Rattle.nq_base.specs.declared.Call.TheVariants.{Sync, Resize, Remove}
use Rattle.nq_base.specs.declared.Entry.{Entry}
use Rattle.nq_base.specs.declared.Entry.TheVariants.{C, L, A}
use Rattle.nq_base.specs.declared.Loss.{Loss}
use Rattle.nq_base.specs.declared.Push.{Push}
use Rattle.nq_base.specs.declared.Said.{Said}
use Rattle.nq_base.specs.declared.Who.{Who}
use Rattle.walk_steps.proofs.ClientMoves.{some-same, none-some}
use Rattle.nq_model.proofs.Lists.{exists-append, each-append}
use Rattle.walk_steps.proofs.Rows.{choice, same-number}
use Rattle.nq_model.specs.laws.LossesAreReported.{cleans}
use Rattle.law_runs.proofs.Books.{Book, unsaved_on, after_loss, after_names, after_report, after_call, Closed}
use Rattle.law_runs.proofs.Tallies.{IsOne, one-passed, one-mapped, each-mapped, each-reverse}
use Rattle.nq_model.proofs.ByFile.{of-added}
use Rattle.nq_model.specs.protocol.Client.{UnderWay, file_of_loss, losses_of, is_push_of, span_list}
use Rattle.nq_model.specs.protocol.ClientStep.{changed_file, losses_for}
use Rattle.nq_base.specs.Calls.{told}
use Rattle.nq_model.specs.protocol.Hear.{loss_of, loss_entry, push_of, waits_for}
use Rattle.nq_model.specs.laws.Journal.{Each}
use Rattle.nq_model.specs.protocol.Settle.{said}

-- ---- no loss waits on the file that is cleaned

abbrev pub NoneWaits : Book → Type 0
NoneWaits b = (u : UnderWay) (file : ℕ) → b.call ≡ Some u → cleans file u.call ≡ true → losses_of file b.losses ≡ []

cleans-waits : (op : Call) (file : ℕ) (written : Bool) → cleans file op ≡ true → waits_for file written op ≡ true
cleans-waits (Sync f) file written h = h
cleans-waits (Resize f blocks) file written h = h
cleans-waits (Remove f) file written h = h
cleans-waits other file written h = absurd (cc)

cleans-changes : (op : Call) (file : ℕ) → cleans file op ≡ true → changed_file op ≡ Some file
cleans-changes (Sync f) file h = ap Some (same-number f file h)
cleans-changes (Resize f blocks) file h = ap Some (same-number f file h)
cleans-changes (Remove f) file h = ap Some (same-number f file h)
cleans-changes other file h = absurd (cc)

filter-none : {X : Type 0} (p : X → Bool) (xs : List X) → ((x : X) → IsOne xs x → p x ≡ false) → filter p xs ≡ []
filter-none p [] none = refl
filter-none p (x ∷ xs) none = let here : p x ≡ false = none x (inl refl) in rw here (filter-none p xs (λ y one. none y (inr one)))

-- the delayed writes that are lost are of the file
pushed-on : (file : ℕ) (push : Option Push) (p : Push) → IsOne (push_of file push) p → p.file ≡ file
pushed-on file None p h = absurd h
pushed-on file (Some q) p h = step (is_push_of file q) refl h
  where
    step : (b : Bool) → is_push_of file q ≡ b → IsOne (if b then q ∷ [] else []) p → p.file ≡ file
    step true e (inl same) = ap (λ z. z.file) (sym same) ∙ same-number q.file file e
    step true e (inr bad) = absurd bad
    step false e bad = absurd bad

pub unsaved-one : (file : ℕ) (push : Option Push) (dirty : List Push) (p : Push) → IsOne (unsaved_on file push dirty) p → p.file ≡ file
unsaved-one file push dirty p one = step (exists-append (λ y. y ≡ p) (push_of file push) (filter (is_push_of file) dirty) one)
  where
    step : IsOne (push_of file push) p ⊎ IsOne (filter (is_push_of file) dirty) p → p.file ≡ file
    step (inl a) = pushed-on file push p a
    step (inr b) = same-number p.file file (one-passed (is_push_of file) p dirty b).1

other-losses : (file g : ℕ) (ps : List Push) → ((p : Push) → IsOne ps p → p.file ≡ file) → (g ≡ file → ⊥) → losses_of g (map loss_of ps) ≡ []
other-losses file g ps on apart =
    filter-none (λ l. l.file == g) (map loss_of ps)
    (λ l one. let k = one-mapped loss_of ps l one in differs l (ap (λ z. z.file) (sym k.2) ∙ on k.0 k.1) (l.file == g) refl)
  where
    differs : (l : Loss) → l.file ≡ file → (b : Bool) → (l.file == g) ≡ b → b ≡ false
    differs l is true e = absurd (apart (sym (same-number l.file g e) ∙ is))
    differs l is false e = refl

none-report : (b : Book) (file : ℕ) (o : Option UnderWay) → b.call ≡ o → NoneWaits b → NoneWaits (after_report (after_loss b file) file o)
none-report b file None is h = λ u g e. none-some u (sym is ∙ e)
none-report b file (Some w) is h =
    choice NoneWaits (waits_for file w.written w.call) (after_names (after_loss b file) w.q file) (after_loss b file)
    (λ e u g f. none-some u f)
    (λ e u g f cleaned.
    of-added file_of_loss file g (map loss_of lost) b.losses (each-mapped (λ l. l.file ≡ file) loss_of lost (unsaved-one file b.push b.dirty))
    ∙ rw (h u g f cleaned, other-losses file g lost (unsaved-one file b.push b.dirty) (λ same. apart u g f cleaned e same)) refl)
  where
    lost : List Push
    lost = unsaved_on file b.push b.dirty

    apart : (u : UnderWay) (g : ℕ) → b.call ≡ Some u → cleans g u.call ≡ true → waits_for file w.written w.call ≡ false → g ≡ file → ⊥
    apart u g f cleaned e same =
        let one : u ≡ w = some-same u w (sym f ∙ is) in
        let waits : waits_for file w.written w.call ≡ true = cleans-waits w.call file w.written
        (subst (λ z. cleans file z.call ≡ true) one (subst (λ n. cleans n u.call ≡ true) same cleaned)) in
        absurd (cc)

pub none-closed : Closed NoneWaits
none-closed = record {
  marks = λ b u v is q same h w file e cleaned. let one : v ≡ w = some-same v w e in h u file is (ap (cleans file) (sym same ∙ ap (λ z. z.call) one)
      ∙ cleaned);
  answers = λ b u answer by is plain h v file e. none-some v e;
  loses = λ b file h. none-report b file b.call refl h;
  takes = λ b file p is h. h;
  ends = λ b h. h;
  writes = λ b file block value body h. h;
  numbers = λ b h. h;
  reads = λ b q file block value h. h;
  busy = λ b op h. h;
  names = λ b op file is h u g e. none-some u e;
  begins = λ b op free h u file e cleaned.
      let one = some-same _ u e in
      let changes : changed_file op ≡ Some file = cleans-changes op file (ap (λ z. cleans file z.call) one ∙ cleaned) in
      subst (λ o. losses_for o b.losses ≡ []) changes free;
}

-- ---- whose the entries are

abbrev pub IsBy : Who → Entry → Type 0
IsBy who (C by q told) = by ≡ who
IsBy who (A by q said) = by ≡ who
IsBy who (L by file block first last) = by ≡ who
IsBy who other = Unit {0}

-- the entries of a step so far
pub record Own (who : Who) (old : List Entry) (b : Book) : Type 0 where
  pub same : b.who ≡ who
  pub new : List Entry
  pub split : b.journal ≡ new ++ old
  pub by : Each (IsBy who) new

own-adds : (who : Who) (old : List Entry) (b d : Book) (e : Entry) → IsBy who e → d.who ≡ b.who → d.journal ≡ e ∷ b.journal → Own who old b → Own who old d
own-adds who old b d e by same journal h = record { same = same ∙ h.same; new = e ∷ h.new; split = journal ∙ ap (λ j. e ∷ j) h.split; by = (by, h.by) }

abbrev names_all : Book → (q file : ℕ) → Entry
names_all b q file = Entry.A b.who q (Said.Lost (span_list (losses_of file b.losses)))

own-one : (who : Who) (old : List Entry) (b : Book) (e : Entry) → IsBy who e → Own who old b → Own who old (record b { journal = e ∷ b.journal })
own-one who old b e by h = record { same = h.same; new = e ∷ h.new; split = ap (λ j. e ∷ j) h.split; by = (by, h.by) }

own-lost : (who : Who) (old : List Entry) (b : Book) (ps : List Push) → Own who old b
    → Own who old (record b { journal = reverse (map (loss_entry b.who) ps) ++ b.journal })
own-lost who old b ps h = record {
  same = h.same;
  new = reverse (map (loss_entry b.who) ps) ++ h.new;
  split = ap (λ j. reverse (map (loss_entry b.who) ps) ++ j) h.split ∙ sym (append_assoc (reverse (map (loss_entry b.who) ps)) h.new old);
  by =
      each-append (IsBy who) (reverse (map (loss_entry b.who) ps)) h.new
      (each-reverse (IsBy who) (map (loss_entry b.who) ps) (each-mapped (IsBy who) (loss_entry b.who) ps (λ p one. h.same))) h.by;
}

-- the rest of a book does not matter
own-same : (who : Who) (old : List Entry) (b d : Book) → d.who ≡ b.who → d.journal ≡ b.journal → Own who old b → Own who old d
own-same who old b d same journal h = record { same = same ∙ h.same; new = h.new; split = journal ∙ h.split; by = h.by }

own-report : (who : Who) (old : List Entry) (b : Book) (file : ℕ) (o : Option UnderWay) → Own who old b → Own who old (after_report b file o)
own-report who old b file None h = h
own-report who old b file (Some u) h =
    choice (Own who old) (waits_for file u.written u.call) (after_names b u.q file) b
    (λ e. own-adds who old b (after_names b u.q file) (names_all b u.q file) h.same refl refl h) (λ e. h)

own-call : (who : Who) (old : List Entry) (b : Book) (op : Call) → Own who old b → Own who old (after_call b op)
own-call who old b op h = own-adds who old b (after_call b op) (Entry.C b.who (b.calls + 1) (told op)) h.same refl refl h

pub own-closed : (who : Who) (old : List Entry) → Closed (Own who old)
own-closed who old = record {
  marks = λ b u v is q same h. record { same = h.same; new = h.new; split = h.split; by = h.by };
  answers = λ b u answer by is plain h. own-adds who old b _ (Entry.A b.who u.q (said answer by)) h.same refl refl h;
  loses =
      λ b file h. own-report who old (after_loss b file) file b.call
      (own-same who old _ (after_loss b file) refl refl (own-lost who old b (unsaved_on file b.push b.dirty) h));
  takes = λ b file p is h. record { same = h.same; new = h.new; split = h.split; by = h.by };
  ends = λ b h. record { same = h.same; new = h.new; split = h.split; by = h.by };
  writes =
      λ b file block value body h. record {
        same = h.same;
        new = Entry.W b.who file block b.number value false ∷ h.new;
        split = ap (λ j. Entry.W b.who file block b.number value false ∷ j)
            h.split;
        by = (tt, h.by);
      };
  numbers = λ b h. record { same = h.same; new = h.new; split = h.split; by = h.by };
  reads = λ b q file block value h. own-one who old b (Entry.R b.who q file block value None) tt h;
  busy = λ b op h. own-adds who old (after_call b op) _ (Entry.A b.who (b.calls + 1) Said.Busy) h.same refl refl (own-call who old b op h);
  names = λ b op file is h. own-adds who old (after_call b op) _ (names_all (after_call b op) (b.calls + 1) file) h.same refl refl (own-call who old b op h);
  begins = λ b op free h. own-same who old (after_call b op) _ refl refl (own-call who old b op h);
}
