-- What is written for a message is read again.
use Rattle.std.proofs.Common.{◌≡◌, ◌<◌, ◌≤◌, ℕ, ◌+◌, ◌^◌, false, nat_lt, List, [], ◌∷◌, ◌++◌, length, Some, Ok, All, refl, sym, ap, ◌∙◌, arith}
use Rattle.std.proofs.Common.{append_assoc, append-nil, suc}
use Rattle.std.proofs.lemmas.Bool.{eq-eqb}
use Rattle.std.proofs.lemmas.List.Elements.{All-head, All-tail}
use Rattle.std.proofs.lemmas.Bool.Decides.{nat_tests}
use Rattle.nq_directory.specs.declared.names.FileName.{FileName}
use Rattle.nq_xdr.specs.Message.{spelling, call_with, reply_with, null}
use Rattle.nq_xdr.proofs.Messages.{message_again, null_fits}
use Rattle.nq_wire.specs.Parts.{head, tag_bytes, grant_bytes, optional}
use Rattle.nq_wire.specs.Reading.{item}
use Rattle.nq_wire.proofs.PartsAgain.{head_again, tag_again, name_again, grant_if_there}
use Rattle.nq_xdr.specs.Item.{word, boolean, opaque}
use Rattle.nq_xdr.proofs.Numbers.{word_again}
use Rattle.nq_xdr.proofs.Opaque.{boolean_again, opaque_again}
use Rattle.nq_directory.specs.declared.listing.messages.DirTag.{DirTag}
use Rattle.nq_directory.specs.declared.listing.messages.ReadDir.{ReadDir}
use Rattle.nq_directory.specs.Laws.{ReadDirsAreRead, EvictedAreRead, VacatedAreRead, AnswersAreRead}
use Rattle.nq_directory.specs.Messages.{Listing, Answer, page, wait, read_dir, dir_evicted, dir_vacated, later, most_names, head_of}
use Rattle.nq_directory.specs.Messages.{read_dir_arguments, read_dir_bytes, entry_bytes, entries_bytes, front_bytes, results, answer_bytes}
use Rattle.nq_directory.specs.Messages.{dir_tag_arguments, dir_evicted_bytes, dir_vacated_bytes, IsReadDir, IsDirTag, IsEntry, IsListing, IsAnswer}
use Rattle.nq_directory.specs.Reading.{call_by, call_as, call_in, results_by, results_of, results_in, end_at, prefix_at, entry_at, entries_at}
use Rattle.nq_directory.specs.Reading.{count_at, page_at, read_dir_at, dir_tag_at, page_alone, wait_alone, answer_at, told_at, read_dir_by}
use Rattle.nq_directory.specs.Reading.{read_dir_in, dir_tag_by, dir_evicted_in, dir_vacated_in, told_by, told_in}

-- ---- calls and replies

call-again : (xid procedure : ℕ) (args : List ℕ) → xid < 2 ^ 32 → procedure < 2 ^ 32
    → call_in procedure (spelling (call_with (head_of xid procedure) args) null null) ≡ Some (xid, args)
unfolding call_in call_as
call-again xid procedure args fits small =
    ap (call_by procedure) (message_again (call_with (head_of xid procedure) args) null null (record {
      xid = fits;
      rpcvers = omega arith;
      prog =
          omega arith;
      vers = omega arith;
      procedure = small;
    }) null_fits null_fits)
    ∙ rw (eq-eqb procedure procedure refl) refl

results-again : (xid : ℕ) (results : List ℕ) → xid < 2 ^ 32 → results_in xid (spelling (reply_with xid results) null null) ≡ Some results
unfolding results_in results_of
results-again xid results fits =
    ap (results_by xid) (message_again (reply_with xid results) null null (fits, tt) null_fits null_fits) ∙ rw (eq-eqb xid xid refl) refl

-- ---- the parts

end-again : end_at [] ≡ Ok tt
unfolding end_at
end-again = refl

word-last : (n : ℕ) → word n ≡ word n ++ []
word-last n = sym (append-nil (word n))

prefix-again : (prefix rest : List ℕ) → length prefix ≤ 64 → prefix_at (opaque prefix ++ rest) ≡ Ok (prefix, rest)
unfolding prefix_at
prefix-again prefix rest short = ap item (opaque_again 64 prefix rest (omega arith) short)

entry-again : (e : FileName) (rest : List ℕ) → IsEntry e → entry_at (entry_bytes e ++ rest) ≡ Ok (e, rest)
unfolding entry_bytes entry_at
entry-again e rest fits =
    ap entry_at (append_assoc (word e.file) (opaque e.name) rest)
    ∙ rw (word_again e.file (opaque e.name ++ rest) fits.0, name_again e.name rest fits.1) refl

entries-again : (done es : List FileName) (rest : List ℕ) → All IsEntry es → entries_at done (length es) (entries_bytes es ++ rest) ≡ Ok (done ++ es, rest)
entries-again done [] rest fits = ap (λ l. Ok (l, rest)) (sym (append-nil done))
entries-again done (e ∷ es) rest fits =
    let parts = append_assoc (entry_bytes e) (entries_bytes es) rest in
    let first = entry-again e (entries_bytes es ++ rest) (All-head IsEntry e es fits) in
    let others = All-tail IsEntry e es fits in
    ap (entries_at done (suc (length es))) parts
    ∙ rw first (entries-again (done ++ e ∷ []) es rest others ∙ ap (λ l. Ok (l, rest)) (append_assoc done (e ∷ []) es))

count-again : (n : ℕ) (rest : List ℕ) → n ≤ most_names → count_at (word n ++ rest) ≡ Ok (n, rest)
unfolding count_at
count-again n rest few =
    let small = not-more n few in
    rw (word_again n rest (omega arith), small) refl
  where
    not-more : (n : ℕ) → n ≤ most_names → nat_lt most_names n ≡ false
    not-more n few = grind (arith, nat_tests)

-- ---- READDIRLOOK

read-dir-again : (r : ReadDir) → IsReadDir r → read_dir_at r.xid (read_dir_arguments r) ≡ Ok r
unfolding read_dir_arguments read_dir_at
read-dir-again r fits =
    let c = word r.after ++ word r.term in
    let b = opaque r.prefix ++ c in
    let parts : head r.who ++ opaque r.prefix ++ word r.after ++ word r.term ≡ head r.who ++ b = simp append_assoc in
    let last : word r.term ≡ word r.term ++ [] = word-last r.term in
    ap (read_dir_at r.xid) parts
    ∙ rw (
      head_again r.who b fits.who,
      prefix-again r.prefix c fits.prefix,
      word_again r.after (word r.term) fits.after,
      last,
      word_again r.term []
          fits.term,
      end-again,
    ) refl

pub read-dirs-are-read : ReadDirsAreRead
unfolding read_dir_bytes read_dir_in
read-dirs-are-read r fits =
    ap read_dir_by (call-again r.xid read_dir (read_dir_arguments r) fits.xid (omega arith)) ∙ rw (read-dir-again r fits) refl

-- ---- DIREVICTED and DIRVACATED

tag-last : (t : DirTag) → tag_bytes t.tag ≡ tag_bytes t.tag ++ []
tag-last t = sym (append-nil (tag_bytes t.tag))

dir-tag-again : (t : DirTag) → IsDirTag t → dir_tag_at t.xid (dir_tag_arguments t) ≡ Ok t
unfolding dir_tag_arguments dir_tag_at
dir-tag-again t fits =
    let c = tag_bytes t.tag in
    let b = opaque t.prefix ++ c in
    let parts : head t.who ++ opaque t.prefix ++ tag_bytes t.tag ≡ head t.who ++ b = simp append_assoc in
    let last = tag-last t in
    ap (dir_tag_at t.xid) parts
    ∙ rw (head_again t.who b fits.who, prefix-again t.prefix c fits.prefix, last, tag_again t.tag [] fits.tag, end-again) refl

pub evicted-are-read : EvictedAreRead
unfolding dir_evicted_bytes dir_evicted_in
evicted-are-read t fits =
    ap dir_tag_by (call-again t.xid dir_evicted (dir_tag_arguments t) fits.xid (omega arith)) ∙ rw (dir-tag-again t fits) refl

pub vacated-are-read : VacatedAreRead
unfolding dir_vacated_bytes dir_vacated_in
vacated-are-read t fits =
    ap dir_tag_by (call-again t.xid dir_vacated (dir_tag_arguments t) fits.xid (omega arith)) ∙ rw (dir-tag-again t fits) refl

-- ---- the reply to READDIRLOOK

page-again : (l : Listing) → IsListing l → page_at (word (length l.names) ++ entries_bytes l.names ++ boolean l.more ++ optional grant_bytes l.grant)
    ≡ Ok (l, [])
unfolding page_at
page-again l fits =
    let d = optional grant_bytes l.grant in
    let c = boolean l.more ++ d in
    let b = entries_bytes l.names ++ c in
    let last : optional grant_bytes l.grant ≡ optional grant_bytes l.grant ++ [] = sym (append-nil (optional grant_bytes l.grant)) in
    let parts : word (length l.names) ++ entries_bytes l.names ++ boolean l.more ++ optional grant_bytes l.grant ≡ word (length l.names) ++ b =
    simp append_assoc in
    ap page_at parts
    ∙ rw (
      count-again (length l.names) b fits.few,
      entries-again [] l.names c fits.names,
      boolean_again l.more d,
      last,
      grant_if_there l.grant []
          fits.grant,
    ) refl

answer-again : (inc : ℕ) (answer : Answer) → inc < 2 ^ 32 → IsAnswer answer → told_at (results inc answer) ≡ Ok (inc, answer)
unfolding results front_bytes told_at answer_at page_alone wait_alone
answer-again inc (page l) small fits =
    let c = word (length l.names) ++ entries_bytes l.names ++ boolean l.more ++ optional grant_bytes l.grant in
    let b = word 0 ++ c in
    let parts : results inc (page l) ≡ word inc ++ b = simp append_assoc in
    ap told_at parts ∙ rw (word_again inc b small, word_again 0 c (omega arith), page-again l fits, end-again) refl
answer-again inc wait small fits =
    let last : word later ≡ word later ++ [] = word-last later in
    rw (word_again inc (word later) small, last, word_again later [] (omega arith), end-again) refl

pub answers-are-read : AnswersAreRead
unfolding answer_bytes told_in
answers-are-read xid inc answer xid-fits inc-fits fits =
    ap (told_by inc) (results-again xid (results inc answer) xid-fits) ∙ rw (answer-again inc answer inc-fits fits, eq-eqb inc inc refl) refl
