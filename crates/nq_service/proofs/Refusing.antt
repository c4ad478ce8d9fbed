-- A disk that was not opened.
use Rattle.std.proofs.Common.{◌≡◌, ℕ, List, Option, Some, Result, Err, inl, inr, refl, sym, ap, subst, ◌∙◌}
use Rattle.std.specs.Option.{ForSome}
use Rattle.nq_base.specs.Status.{status_of}
use Rattle.nq_base.specs.declared.ending.ending.Ending.{Ending}
use Rattle.nq_io.specs.Faults.{Rose}
use Rattle.nq_service.specs.Serving.{IsNotOpened, StaysSame, TellsByte, first_wrong}
use Rattle.nq_store.specs.Opening.{AnswersOpen, LeavesLike, SaysWrong, StaysRefused, TellsSettled, disk_of}
use Rattle.nq_store.specs.declared.fault.OpenFault.{OpenFault}
use Rattle.nq_store.specs.declared.fault.OpenFault.TheVariants as opening
use Rattle.nq_service.proofs.Surviving.{stays_same}

module _ {X D : Type 0} (held_by : X → D) (told : D → Option (List ℕ)) (faults : D → ℕ) (disk back left : D) (result : Result X (OpenFault D)) where
  -- what a stop leaves of it
  pub stays_back : (may_leave : D → List ℕ → Type 0) (leaves : D → D → List ℕ → Type 0)
      → disk_of held_by result ≡ back → left ≡ back
      → ((bytes : List ℕ) → told disk ≡ Some bytes → may_leave disk bytes)
      → LeavesLike (told disk) (may_leave disk) (leaves disk (disk_of held_by result))
      → ForSome (told disk) (λ bytes. StaysSame (may_leave disk) (leaves disk left))
  stays_back may_leave leaves from handed stays like =
      subst (λ (d : D). ForSome (told disk) (λ bytes. StaysSame (may_leave disk) (leaves disk d))) (from ∙ sym handed)
      (stays_same (told disk) (may_leave disk) (leaves disk (disk_of held_by result)) stays like)

  -- it is no image
  pub not_an_image : (code : ℕ) (held now : Option (List ℕ)) (w w' : ℕ) → result ≡ Err (opening.NotAnImage back) → left ≡ back
      → SaysWrong result (told disk) → ForSome (told disk) (λ bytes. StaysRefused told result bytes)
      → AnswersOpen held_by faults result disk → TellsByte 0 code held now w w'
      → IsNotOpened told faults code disk left held now w w'
  not_an_image code held now w w' is handed says stays answers tells =
      let none = subst (λ (r : Result X (OpenFault D)). SaysWrong r (told disk)) is says in
      inl (record {
        place = 0;
        wrong = λ bytes t. ap first_wrong (none bytes t);
        stays = λ bytes t. subst (λ (d : D). TellsSettled bytes (told d)) (sym handed)
            (subst (λ (r : Result X (OpenFault D)). StaysRefused told r bytes) is (stays bytes t));
        tells = tells;
        counts = ap faults handed ∙ subst (λ (r : Result X (OpenFault D)). AnswersOpen held_by faults r disk) is answers;
      })

  -- one of its fields is wrong
  pub bad_field : (place code : ℕ) (held now : Option (List ℕ)) (w w' : ℕ) → result ≡ Err (opening.BadField back place) → left ≡ back
      → SaysWrong result (told disk) → ForSome (told disk) (λ bytes. StaysRefused told result bytes)
      → AnswersOpen held_by faults result disk → TellsByte place code held now w w'
      → IsNotOpened told faults code disk left held now w w'
  bad_field place code held now w w' is handed says stays answers tells =
      let wrong = subst (λ (r : Result X (OpenFault D)). SaysWrong r (told disk)) is says in
      inl (record {
        place = place;
        wrong = λ bytes t. ap first_wrong (wrong bytes t);
        stays = λ bytes t. subst (λ (d : D). TellsSettled bytes (told d)) (sym handed)
            (subst (λ (r : Result X (OpenFault D)). StaysRefused told r bytes) is (stays bytes t));
        tells = tells;
        counts = ap faults handed ∙ subst (λ (r : Result X (OpenFault D)). AnswersOpen held_by faults r disk) is answers;
      })

  -- it failed
  pub failed : (code : ℕ) (held : Option (List ℕ)) (w : ℕ) → result ≡ Err (opening.Failed back) → left ≡ back
      → code ≡ status_of Ending.KeepFault → AnswersOpen held_by faults result disk
      → IsNotOpened told faults code disk left held held w w
  failed code held w is handed status answers = inr (inl (record {
    status = status;
    rose = subst (λ (d : D). Rose (faults disk) (faults d)) (sym handed) (subst (λ (r : Result X (OpenFault D)). AnswersOpen held_by faults r disk)
        is answers);
    quiet = (refl, refl);
  }))

  -- memory was wanting
  pub lacks_memory : (code : ℕ) (held : Option (List ℕ)) (w : ℕ) → result ≡ Err (opening.Memory back) → left ≡ back
      → code ≡ status_of Ending.Memory → AnswersOpen held_by faults result disk
      → IsNotOpened told faults code disk left held held w w
  lacks_memory code held w is handed status answers = inr (inr (record {
    status = status;
    counts = ap faults handed ∙ subst (λ (r : Result X (OpenFault D)). AnswersOpen held_by faults r disk) is answers;
    quiet = (refl, refl);
  }))
