-- What a reply tells, and the cause where it refuses: of the replies that the server makes.
use Rattle.std.proofs.Common.{◌≡◌, ◌⊎◌, ◌<◌, ◌≤◌, ℕ, ◌==◌, true, ◌+◌, ◌-◌, ◌||◌, nat_lt, nat_le, List, [], ◌∷◌, Some, None, length, refl, sym, subst}
use Rattle.std.proofs.Common.{inl, inr, arith}
use Rattle.std.proofs.lemmas.Bool.{or_cases}
use Rattle.std.proofs.lemmas.Bool.Decides.{nat_tests}
use Rattle.std.specs.Prelude.{slice_get, zero, suc, ⊤}
use Rattle.nq_base.specs.declared.Refusal.{Refusal}
use Rattle.nq_base.specs.declared.Reply.{Reply}
use Rattle.nq_base.specs.declared.Request.{Request}
use Rattle.nq_base.specs.declared.Verdict.{Verdict}
use Rattle.nq_base.specs.declared.Who.{Who}
use Rattle.nq_model.specs.protocol.Decide.{verdict_reply}
use Rattle.nq_model.specs.protocol.Kept.{File, blocks_of, blocks_in_all, find_file}
use Rattle.nq_model.specs.laws.LeaseInterval.{requested_file}
use Rattle.nq_model.specs.protocol.Profile.{most_blocks, most_blocks_of_file, most_files, most_ids}
use Rattle.nq_model.specs.protocol.Server.{Server}
use Rattle.nq_model.specs.laws.RepliesTellWhatWas.{IsSo, KeepsAt}
use Rattle.nq_laws.specs.RefusalsHaveCauses.{LacksNamed, IsCause, file_named}
use Rattle.walk_steps.proofs.ClientMoves.{some-same}
use Rattle.walk_steps.proofs.ServerOutcomes.{file_changed_by, IsDeclined, bad_length, name_taken, no_room, not_kept, outside, no_row, not_under}
use Rattle.walk_steps.proofs.ServerOutcomes.{not_over, not_while_recovering, bad_size, no_room_to_grow}
use Rattle.walk_steps.proofs.Tests.{there-is}

-- a refusal has its cause, and a grant tells the length of its file
abbrev pub IsCaused : List File → (next : ℕ) → Reply → Request → Type 0
IsCaused files next (Reply.Refused inc status) r = IsCause files next status r
IsCaused files next (Reply.Read inc rev body (Some g)) (Request.Read who q file block want) = KeepsAt files file g.blocks g.rev
IsCaused files next (Reply.GetLease inc (Some g)) (Request.GetLease who file want) = KeepsAt files file g.blocks g.rev
IsCaused files next other r = ⊤

-- what a reply tells is so, a refusal has its cause, and a grant tells the length of its file
abbrev pub IsTold : List File → (next : ℕ) → Reply → Request → Type 0
IsTold files next a r = IsSo files a r × IsCaused files next a r

pub refused-told : (files : List File) (next : ℕ) (r : Request) (a : Reply) (inc : ℕ) (status : Refusal) → a ≡ Reply.Refused inc status
    → IsCause files next status r → IsTold files next a r
refused-told files next r a inc status e cause = subst (λ b. IsTold files next b r) (sym e) (tt, cause)

-- ---- files that are not kept

pub none-beyond : {X : Type 0} (xs : List X) (k : ℕ) → slice_get xs k ≡ None → length xs ≤ k
none-beyond [] k none = omega arith
none-beyond (x ∷ xs) zero none = absurd (cc)
none-beyond (x ∷ xs) (suc k) none = let more = none-beyond xs k none in omega arith

lacks : (files : List File) (named file : ℕ) → Some named ≡ Some file → find_file file files ≡ None → find_file named files ≡ None
lacks files named file is none = subst (λ n. find_file n files ≡ None) (sym (some-same named file is)) none

pub requested-lacks : (files : List File) (r : Request) (file : ℕ) → requested_file r ≡ Some file → find_file file files ≡ None
    → LacksNamed files (file_named r)
requested-lacks files (Request.Read who q f block want) file is none = lacks files f file is none
requested-lacks files (Request.GetLease who f want) file is none = lacks files f file is none
requested-lacks files r file is none = absurd (cc)

changed-lacks : (files : List File) (r : Request) (file : ℕ) → file_changed_by r ≡ Some file → find_file file files ≡ None
    → LacksNamed files (file_named r)
changed-lacks files (Request.Write who seq f block first last push body) file is none = lacks files f file is none
changed-lacks files (Request.Resize who seq q f blocks) file is none = lacks files f file is none
changed-lacks files (Request.Remove who seq q f) file is none = lacks files f file is none
changed-lacks files r file is none = absurd (cc)

-- ---- a decision without effect

no-length : (blocks most : ℕ) → (blocks == 0 || nat_lt most blocks) ≡ true → (blocks ≡ 0) ⊎ (most < blocks)
no-length zero most bad = inl refl
no-length (suc n) most bad = inr (grind (arith, nat_tests))

no-room-so : (files held next blocks : ℕ) → (nat_le most_files files || nat_lt most_blocks (held + blocks) || nat_le most_ids next) ≡ true
    → (most_files ≤ files) ⊎ ((most_blocks < held + blocks) ⊎ (most_ids ≤ next))
no-room-so files held next blocks full = elim (or_cases (nat_le most_files files || nat_lt most_blocks (held + blocks)) (nat_le most_ids next) full) [
  | inl before ↦ elim (or_cases (nat_le most_files files) (nat_lt most_blocks (held + blocks)) before) [
    | inl most ↦ inl (grind (arith, nat_tests))
    | inr over ↦ inr (inl (grind (arith, nat_tests)))
  ]
  | inr last ↦ inr (inr (grind (arith, nat_tests)))
]

above-so : (most total : ℕ) → nat_lt most total ≡ true → most < total
above-so most total full = grind (arith, nat_tests)

module _ (s : Server) (who : Who) (r : Request) where
  -- the reply that a verdict gives
  abbrev Gives : Verdict → Type 0
  Gives v = IsTold s.kept.files s.kept.next (verdict_reply who.inc v 0 r) r

  gives : (v verdict : Verdict) → verdict ≡ v → Gives v → Gives verdict
  gives v verdict is told = subst (λ w. Gives w) (sym is) told

  pub declined-told : (verdict : Verdict) → IsDeclined s who r verdict → Gives verdict
  declined-told verdict (bad_length seq blocks name p on bad is) =
      gives Verdict.Invalid verdict is (tt, subst (λ q. IsCause s.kept.files s.kept.next Refusal.Inval q) (sym on) (no-length blocks most_blocks_of_file bad))
  declined-told verdict (name_taken seq blocks name p on taken is) =
      let there = there-is _ taken in
      gives Verdict.Exist verdict is
      (tt, subst (λ q. IsCause s.kept.files s.kept.next Refusal.Exist q) (sym on) (record { file = there.0; found = there.1 }))
  declined-told verdict (no_room seq blocks name p on full is) =
      gives Verdict.NoSpace verdict is (
        tt,
        subst (λ q. IsCause s.kept.files s.kept.next Refusal.NoSpc q) (sym on) (no-room-so (length s.kept.files) (blocks_in_all s.kept.files)
            s.kept.next blocks full),
      )
  declined-told verdict (not_kept file on none is) = gives Verdict.Stale verdict is (tt, changed-lacks s.kept.files r file on none)
  declined-told verdict (outside seq file block first last push body f on found out is) =
      gives Verdict.Invalid verdict is
      (tt, subst (λ q. IsCause s.kept.files s.kept.next Refusal.Inval q) (sym on) (record { file = f; found = found; beyond = out }))
  declined-told verdict (no_row seq file block first last base body f p on found none is) = gives Verdict.Fenced verdict is (tt, tt)
  declined-told verdict (not_under seq file block first last base body f row p on found some bars is) = gives Verdict.Fenced verdict is (tt, tt)
  declined-told verdict (not_over seq file block first last base body f rec on found bars is) = gives Verdict.Fenced verdict is (tt, tt)
  declined-told verdict (not_while_recovering rec none is) = gives Verdict.TryLater verdict is (tt, tt)
  declined-told verdict (bad_size seq q file blocks f p on found bad is) =
      gives Verdict.Invalid verdict is (tt, subst (λ z. IsCause s.kept.files s.kept.next Refusal.Inval z) (sym on) (no-length blocks most_blocks_of_file bad))
  declined-told verdict (no_room_to_grow seq q file blocks f p on found full is) =
      gives Verdict.NoSpace verdict is (
        tt,
        subst (λ z. IsCause s.kept.files s.kept.next Refusal.NoSpc z) (sym on)
            (record { file = f; found = found; above = above-so most_blocks ((blocks_in_all s.kept.files - blocks_of f) + blocks) full }),
      )
