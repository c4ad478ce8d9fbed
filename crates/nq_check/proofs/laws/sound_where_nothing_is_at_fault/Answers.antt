use Rattle.nq_check.proofs.Sounds.{faultless_where_sound, sound_where_faultless}
use Rattle.nq_check.proofs.laws.sound_where_nothing_is_at_fault.Goals as goal

pub returns : goal.returns
returns c = λ journal. (sound_where_faultless journal, faultless_where_sound journal)
