-- The rows in the way are among those of the file, and are told one by one.
use Rattle.std.proofs.Common.{◌≡◌, ◌⊎◌, ◌+◌, ◌%◌, ◌<◌, ℕ, suc, Bool, true, false, List, [], ◌∷◌, if◌then◌else◌, ◌++◌, drop, get_or, length, map, refl}
use Rattle.std.proofs.Common.{sym, ap, subst, ◌∙◌, inl, inr, add-one, append_assoc, arith, drop-cons}
use Rattle.std.specs.Prelude.{All}
use Rattle.std.proofs.lemmas.List.Elements.{All-cons}
use Rattle.std.specs.List.{filter}
use Rattle.nq_base.specs.declared.Access.{Access}
use Rattle.nq_base.specs.declared.Row.{Row}
use Rattle.nq_base.specs.declared.Party.{Party}
use Rattle.nq_base.specs.declared.Request.{Request}
use Rattle.nq_datagrams.specs.Messages.{FitsMessage}
use Rattle.nq_datagrams.specs.Sent.{FitsPacket, sent}
use Rattle.nq_lease.specs.Rows.{is_of, rows_of}
use Rattle.nq_model.specs.protocol.Ask.{conflicts}
use Rattle.nq_lease.specs.Telling.{told_among}
use Rattle.nq_model.specs.protocol.Message.{call}
use Rattle.nq_model.specs.protocol.Profile.{xid_end}
use Rattle.nq_model.specs.protocol.Server.{notices, to_host}

decided : (b : Bool) → (b ≡ true) ⊎ (b ≡ false)
decided true = inl refl
decided false = inr refl

filter-within : {X : Type 0} (p q : X → Bool) → ((x : X) → q x ≡ false → p x ≡ false) → (xs : List X) → filter p (filter q xs) ≡ filter p xs
filter-within p q fails [] = refl
filter-within p q fails (x ∷ xs) = elim (decided (q x)) [
  | inl e ↦ rw e (ap (λ l. if p x then x ∷ l else l) (filter-within p q fails xs))
  | inr e ↦ rw (e, fails x e) (filter-within p q fails xs)
]

pub told-of-file : (file host : ℕ) (access : Access) (rows : List Row) → told_among file host access (rows_of file rows) ≡ told_among file host access rows
told-of-file file host access rows = filter-within (conflicts file host access) (is_of file) (λ r e. rw e refl) rows

-- ---- one row after another

module _ (file host : ℕ) (access : Access) (rows : List Row) (i : ℕ) (row : Row) (within : i < length rows) (is : row ≡ get_or rows i row) where
  next-row : told_among file host access (drop i rows) ≡ (if conflicts file host access row then row ∷ told_among file host access (drop (i + 1) rows)
      else told_among file host access (drop (i + 1) rows))
  next-row =
      ap (told_among file host access) (drop-cons rows i row within)
      ∙ ap (λ r. if conflicts file host access r then r ∷ told_among file host access (drop (suc i) rows) else told_among file host access
      (drop (suc i) rows)) (sym is)
      ∙ ap (λ n. if conflicts file host access row then row ∷ told_among file host access (drop n rows) else told_among file host access
      (drop n rows)) (sym (add-one i))

  -- this one is told
  told-row : conflicts file host access row ≡ true → told_among file host access (drop i rows) ≡ row ∷ told_among file host access (drop (i + 1) rows)
  told-row told =
      next-row ∙ ap (λ b. if b then row ∷ told_among file host access (drop (i + 1) rows) else told_among file host access (drop (i + 1) rows)) told

  pub told-more : (number later : ℕ) (start out out' : List (Party × List ℕ)) → conflicts file host access row ≡ true → later ≡ (number + 1) % xid_end
      → start ≡ out ++ map sent (notices number (told_among file host access (drop i rows))) → out' ≡ out
      ++ sent (to_host row.who.host (call number (Request.Evicted row.who row.file row.tag))) ∷ [] → start ≡ out'
      ++ map sent (notices later (told_among file host access (drop (i + 1) rows)))
  told-more number later start out out' told is-later so-far added =
      let rest = told_among file host access (drop (i + 1) rows) in
      let one = sent (to_host row.who.host (call number (Request.Evicted row.who row.file row.tag))) in
      so-far
      ∙ ap (λ rs. out ++ map sent (notices number rs)) (told-row told)
      ∙ sym (append_assoc out (one ∷ []) (map sent (notices ((number + 1) % xid_end) rest)))
      ∙ ap (λ o. o ++ map sent (notices ((number + 1) % xid_end) rest)) (sym added)
      ∙ ap (λ n. out' ++ map sent (notices n rest)) (sym is-later)

  pub fit-more : (number later : ℕ) → conflicts file host access row ≡ true → later ≡ (number + 1) % xid_end
      → FitsMessage (call number (Request.Evicted row.who row.file row.tag))
      → All FitsPacket (notices later (told_among file host access (drop (i + 1) rows)))
      → All FitsPacket (notices number (told_among file host access (drop i rows)))
  fit-more number later told is-later fits rest =
      subst
      (λ rs. All FitsPacket (notices number rs))
      (sym (told-row told))
      (All-cons FitsPacket _ _ fits (subst (λ n. All FitsPacket (notices n (told_among file host access (drop (i + 1) rows)))) is-later rest))

  pub counted-more : (number later count : ℕ) → conflicts file host access row ≡ true → later ≡ (number + 1) % xid_end
      → count ≡ (number + length (told_among file host access (drop i rows))) % xid_end
      → count ≡ (later + length (told_among file host access (drop (i + 1) rows))) % xid_end
  counted-more number later count told is-later so-far =
      let long : length (told_among file host access (drop i rows)) ≡ length (told_among file host access (drop (i + 1) rows)) + 1 =
      ap length (told-row told) ∙ sym (add-one (length (told_among file host access (drop (i + 1) rows))))
      in
      so-far
      ∙ ap (λ n. (number + n) % xid_end) long
      ∙ wraps number (length (told_among file host access (drop (i + 1) rows)))
      ∙ ap (λ n. (n + length (told_among file host access (drop (i + 1) rows))) % xid_end) (sym is-later)
    where
      wraps : (n k : ℕ) → (n + (k + 1)) % xid_end ≡ ((n + 1) % xid_end + k) % xid_end
      wraps n k = omega arith

  -- or it is not
  passed-row : conflicts file host access row ≡ false → told_among file host access (drop i rows) ≡ told_among file host access (drop (i + 1) rows)
  passed-row passed =
      next-row ∙ ap (λ b. if b then row ∷ told_among file host access (drop (i + 1) rows) else told_among file host access (drop (i + 1) rows)) passed

  pub told-passed : (number later : ℕ) (start out out' : List (Party × List ℕ)) → conflicts file host access row ≡ false → later ≡ number
      → start ≡ out ++ map sent (notices number (told_among file host access (drop i rows))) → out' ≡ out → start ≡ out'
      ++ map sent (notices later (told_among file host access (drop (i + 1) rows)))
  told-passed number later start out out' passed same so-far stays =
      so-far
      ∙ ap (λ rs. out ++ map sent (notices number rs)) (passed-row passed)
      ∙ ap (λ o. o ++ map sent (notices number (told_among file host access (drop (i + 1) rows)))) (sym stays)
      ∙ ap (λ n. out' ++ map sent (notices n (told_among file host access (drop (i + 1) rows)))) (sym same)

  pub fit-passed : (number later : ℕ) → conflicts file host access row ≡ false → later ≡ number
      → All FitsPacket (notices later (told_among file host access (drop (i + 1) rows)))
      → All FitsPacket (notices number (told_among file host access (drop i rows)))
  fit-passed number later passed same rest =
      subst
      (λ rs. All FitsPacket (notices number rs))
      (sym (passed-row passed))
      (subst (λ n. All FitsPacket (notices n (told_among file host access (drop (i + 1) rows)))) same rest)

  pub counted-passed : (number later count : ℕ) → conflicts file host access row ≡ false → later ≡ number
      → count ≡ (number + length (told_among file host access (drop i rows))) % xid_end
      → count ≡ (later + length (told_among file host access (drop (i + 1) rows))) % xid_end
  counted-passed number later count passed same so-far =
      so-far
      ∙ ap (λ rs. (number + length rs) % xid_end) (passed-row passed)
      ∙ ap (λ n. (n + length (told_among file host access (drop (i + 1) rows))) % xid_end) (sym same)
