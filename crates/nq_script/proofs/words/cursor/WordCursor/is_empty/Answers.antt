use Rattle.nq_script.proofs.WordsCuts.{emptied}
use Rattle.nq_script.proofs.words.cursor.WordCursor.is_empty.Goals as goal

pub returns : goal.returns
returns c = emptied (λ line. line.now) c.self.inside.rest c.is_none.result c.args.self.now c.self.view_is c.is_none.ensures
