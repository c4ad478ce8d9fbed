use Rattle.std.proofs.Common.{None, Some, ap}
use Rattle.nq_script.specs.WordsReading.{word_at}
use Rattle.nq_script.proofs.WordsCuts.{next_words}
use Rattle.nq_script.proofs.words.cursor.WordCursor.next.Goals as goal

pub returns-in-Some-clause-found : goal.returns-in-Some-clause-found
returns-in-Some-clause-found c =
    next_words (λ line. line.now) c.self.inside.rest c.in_ok-line.line c.args.self.now (Some (c.in-Some.word.now, c.in-Some.rest.now)) c.self.view_is
    c.in_ok-line.was
    c.in-Some.ensures

pub returns-in-Some-clause-step : goal.returns-in-Some-clause-step
returns-in-Some-clause-step c =
    ap word_at
    (next_words (λ line. line.now) c.self.inside.rest c.in_ok-line.line c.args.self.now (Some (c.in-Some.word.now, c.in-Some.rest.now)) c.self.view_is
    c.in_ok-line.was
    c.in-Some.ensures)

pub returns-in-None-clause-found : goal.returns-in-None-clause-found
returns-in-None-clause-found c =
    next_words (λ line. line.now) c.self.inside.rest c.in_ok-line.line c.args.self.now None c.self.view_is c.in_ok-line.was c.in-None.ensures

pub returns-in-None-clause-step : goal.returns-in-None-clause-step
returns-in-None-clause-step c =
    ap word_at
    (next_words (λ line. line.now) c.self.inside.rest c.in_ok-line.line c.args.self.now None c.self.view_is c.in_ok-line.was c.in-None.ensures)
