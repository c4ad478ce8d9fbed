-- What is said of the bytes of the messages: what is written is read again.
use Rattle.std.specs.Prelude.{◌≡◌, ℕ, ◌^◌, ◌<◌, Some}
use Rattle.nq_directory.specs.declared.listing.messages.DirTag.{DirTag}
use Rattle.nq_directory.specs.declared.listing.messages.ReadDir.{ReadDir}
use Rattle.nq_directory.specs.Messages.{Answer, read_dir_bytes, answer_bytes, dir_evicted_bytes, dir_vacated_bytes, IsReadDir, IsDirTag, IsAnswer}
use Rattle.nq_directory.specs.Reading.{read_dir_in, dir_evicted_in, dir_vacated_in, told_in}

-- in the bytes of a READDIRLOOK it is read
abbrev pub ReadDirsAreRead : Type 0
ReadDirsAreRead = (r : ReadDir) → IsReadDir r → read_dir_in (read_dir_bytes r) ≡ Some r

-- in the bytes of a DIREVICTED it is read
abbrev pub EvictedAreRead : Type 0
EvictedAreRead = (t : DirTag) → IsDirTag t → dir_evicted_in (dir_evicted_bytes t) ≡ Some t

-- in the bytes of a DIRVACATED it is read
abbrev pub VacatedAreRead : Type 0
VacatedAreRead = (t : DirTag) → IsDirTag t → dir_vacated_in (dir_vacated_bytes t) ≡ Some t

-- in the bytes of the reply to a READDIRLOOK it is read
abbrev pub AnswersAreRead : Type 0
AnswersAreRead =
    (xid inc : ℕ) (answer : Answer) → xid < 2 ^ 32 → inc < 2 ^ 32 → IsAnswer answer
    → told_in xid inc (answer_bytes xid inc answer) ≡ Some answer
