use Rattle.nq_directory.proofs.Again.{read-dirs-are-read, evicted-are-read, vacated-are-read, answers-are-read}
use Rattle.nq_directory.proofs.listing.laws.messages_are_read.Goals as goal

pub returns-clause-read_dirs : goal.returns-clause-read_dirs
returns-clause-read_dirs c = read-dirs-are-read

pub returns-clause-evicted : goal.returns-clause-evicted
returns-clause-evicted c = evicted-are-read

pub returns-clause-vacated : goal.returns-clause-vacated
returns-clause-vacated c = vacated-are-read

pub returns-clause-answers : goal.returns-clause-answers
returns-clause-answers c = answers-are-read
