-- Those who read a directory are told one by one.
use Rattle.std.proofs.Common.{◌≡◌, ◌+◌, ◌%◌, ◌<◌, ℕ, suc, true, false, List, [], ◌∷◌, if◌then◌else◌, ◌++◌, drop, get_or, length, sym, ap, ◌∙◌}
use Rattle.std.proofs.Common.{add-one, append_assoc, arith, drop-cons}
use Rattle.nq_base.specs.declared.Access.{Access}
use Rattle.nq_base.specs.declared.Party.{Party}
use Rattle.nq_base.specs.declared.Row.{Row}
use Rattle.nq_model.specs.protocol.Ask.{conflicts}
use Rattle.nq_model.specs.protocol.Profile.{xid_end}
use Rattle.nq_name_server.specs.Sending.{all_sent, sent}
use Rattle.nq_name_server.specs.Serving.{notice_after, notice_to, notices, readers}

module _ (prefix : List ℕ) (number host : ℕ) (rows : List Row) (i : ℕ) (row : Row) (within : i < length rows) (is : row ≡ get_or rows i row) where
  next-row : readers number host (drop i rows) ≡ (if conflicts number host Access.Write row then row ∷ readers number host (drop (i + 1) rows)
      else readers number host (drop (i + 1) rows))
  next-row =
      ap (readers number host) (drop-cons rows i row within)
      ∙ ap (λ r. if conflicts number host Access.Write r then r ∷ readers number host (drop (suc i) rows) else readers number host
      (drop (suc i) rows)) (sym is)
      ∙ ap (λ n. if conflicts number host Access.Write row then row ∷ readers number host (drop n rows) else readers number host (drop n rows))
      (sym (add-one i))

  -- this one is told
  told-row : conflicts number host Access.Write row ≡ true → readers number host (drop i rows) ≡ row ∷ readers number host (drop (i + 1) rows)
  told-row told =
      next-row ∙ ap (λ b. if b then row ∷ readers number host (drop (i + 1) rows) else readers number host (drop (i + 1) rows)) told

  pub told-more : (xid later : ℕ) (start out out' : List (Party × List ℕ)) → conflicts number host Access.Write row ≡ true
      → later ≡ (xid + 1) % xid_end → start ≡ out ++ all_sent (notices prefix xid (readers number host (drop i rows)))
      → out' ≡ out ++ sent (notice_to prefix xid row) ∷ [] → start ≡ out' ++ all_sent (notices prefix later (readers number host (drop (i + 1) rows)))
  told-more xid later start out out' told is-later so-far added =
      let rest = readers number host (drop (i + 1) rows) in
      so-far
      ∙ ap (λ rs. out ++ all_sent (notices prefix xid rs)) (told-row told)
      ∙ sym (append_assoc out (sent (notice_to prefix xid row) ∷ []) (all_sent (notices prefix ((xid + 1) % xid_end) rest)))
      ∙ ap (λ o. o ++ all_sent (notices prefix ((xid + 1) % xid_end) rest)) (sym added)
      ∙ ap (λ n. out' ++ all_sent (notices prefix n rest)) (sym is-later)

  pub counted-more : (xid later count : ℕ) → conflicts number host Access.Write row ≡ true → later ≡ (xid + 1) % xid_end
      → count ≡ notice_after xid (length (readers number host (drop i rows)))
      → count ≡ notice_after later (length (readers number host (drop (i + 1) rows)))
  counted-more xid later count told is-later so-far =
      let rest = readers number host (drop (i + 1) rows) in
      let long : length (readers number host (drop i rows)) ≡ length rest + 1 = ap length (told-row told) ∙ sym (add-one (length rest)) in
      so-far
      ∙ ap (notice_after xid) long
      ∙ wraps xid (length rest)
      ∙ ap (λ n. notice_after n (length rest)) (sym is-later)
    where
      wraps : (n k : ℕ) → (n + (k + 1)) % xid_end ≡ ((n + 1) % xid_end + k) % xid_end
      wraps n k = omega arith

  -- or it is not
  passed-row : conflicts number host Access.Write row ≡ false → readers number host (drop i rows) ≡ readers number host (drop (i + 1) rows)
  passed-row passed =
      next-row ∙ ap (λ b. if b then row ∷ readers number host (drop (i + 1) rows) else readers number host (drop (i + 1) rows)) passed

  pub told-passed : (xid later : ℕ) (start out out' : List (Party × List ℕ)) → conflicts number host Access.Write row ≡ false → later ≡ xid
      → start ≡ out ++ all_sent (notices prefix xid (readers number host (drop i rows))) → out' ≡ out
      → start ≡ out' ++ all_sent (notices prefix later (readers number host (drop (i + 1) rows)))
  told-passed xid later start out out' passed same so-far stays =
      so-far
      ∙ ap (λ rs. out ++ all_sent (notices prefix xid rs)) (passed-row passed)
      ∙ ap (λ o. o ++ all_sent (notices prefix xid (readers number host (drop (i + 1) rows)))) (sym stays)
      ∙ ap (λ n. out' ++ all_sent (notices prefix n (readers number host (drop (i + 1) rows)))) (sym same)

  pub counted-passed : (xid later count : ℕ) → conflicts number host Access.Write row ≡ false → later ≡ xid
      → count ≡ notice_after xid (length (readers number host (drop i rows)))
      → count ≡ notice_after later (length (readers number host (drop (i + 1) rows)))
  counted-passed xid later count passed same so-far =
      so-far
      ∙ ap (λ rs. notice_after xid (length rs)) (passed-row passed)
      ∙ ap (λ n. notice_after n (length (readers number host (drop (i + 1) rows)))) (sym same)
