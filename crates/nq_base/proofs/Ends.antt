-- No two ends have the same exit status.
use Rattle.std.proofs.Common.{◌≡◌, ℕ, refl, ap, sym, ◌∙◌}
use Rattle.std.specs.Prelude.{◌==◌, if◌then◌else◌}
use Rattle.nq_base.specs.Status.{status_of}
use Rattle.nq_base.specs.declared.ending.ending.Ending.{Ending}

-- the end of a status
end_of : ℕ → Ending
end_of status =
    if status == 0 then Ending.Done else (
    if status == 1 then Ending.Usage else (
    if status == 2 then Ending.Script else (
    if status == 3 then Ending.Skew else (
    if status == 4 then Ending.ReadFault else (
    if status == 5 then Ending.WriteFault else (
    if status == 6 then Ending.KeepFault else (
    if status == 7 then Ending.Memory else (
    if status == 8 then Ending.LinkFault else (
    if status == 9 then Ending.Limit else (
    if status == 10 then Ending.Spent else (
    if status == 11 then Ending.NoAnswer else (
    Ending.NotSound))))))))))))

of-its-status : (end : Ending) → end_of (status_of end) ≡ end
unfolding end_of
of-its-status Ending.Done = refl
of-its-status Ending.Usage = refl
of-its-status Ending.Script = refl
of-its-status Ending.Skew = refl
of-its-status Ending.ReadFault = refl
of-its-status Ending.WriteFault = refl
of-its-status Ending.KeepFault = refl
of-its-status Ending.Memory = refl
of-its-status Ending.LinkFault = refl
of-its-status Ending.Limit = refl
of-its-status Ending.Spent = refl
of-its-status Ending.NoAnswer = refl
of-its-status Ending.NotSound = refl

-- a status is of one end
pub one_end : (end other : Ending) (status : ℕ) → status ≡ status_of end → status ≡ status_of other → end ≡ other
one_end end other status is same = sym (of-its-status end) ∙ ap end_of (sym is ∙ same) ∙ of-its-status other
