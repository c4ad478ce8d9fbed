use Rattle.nq_command.proofs.Ranges.{command_ranged}
use Rattle.nq_command.specs.Commands.{command_of}
use Rattle.nq_run.proofs.Commands.{left_so, says_check, says_format, says_names, says_replay, says_staged}
use Rattle.nq_run.proofs.FourFates.{said-none}
use Rattle.nq_run.specs.Frames.{reads_clock, reads_input, uses_disk, uses_fates, uses_link, uses_links}
use Rattle.nq_run.proofs.top.run.Goals as goal

pub returns-clause-usage : goal.returns-clause-usage
returns-clause-usage g c = λ none. (c.run_command.ensures.usage none).0

pub returns-clause-known : goal.returns-clause-known
returns-clause-known g c = λ four none. said-none (command_of c.args.words.now) _ four (command_ranged c.args.words.now) (c.run_command.ensures.usage none).0

pub returns-clause-never : goal.returns-clause-never
returns-clause-never g c = λ never. (c.run_command.ensures.never never).0

pub returns-clause-nothing : goal.returns-clause-nothing
returns-clause-nothing g c = λ none. ((c.run_command.ensures.usage none).1, (c.run_command.ensures.usage none).2)

pub returns-clause-formats : goal.returns-clause-formats
returns-clause-formats g c = λ is.
    let both = rw (says_format c.args.words.now is) at c.run_command.ensures.does in
    both.0

pub returns-clause-quiet : goal.returns-clause-quiet
returns-clause-quiet g c = λ is.
    let both = rw (says_format c.args.words.now is) at c.run_command.ensures.does in
    both.1

pub returns-clause-serves : goal.returns-clause-serves
returns-clause-serves g c = λ turns longest is. rw is at c.run_command.ensures.does

pub returns-clause-replays : goal.returns-clause-replays
returns-clause-replays g c = λ is. rw (says_replay c.args.words.now is) at c.run_command.ensures.does

pub returns-clause-checks : goal.returns-clause-checks
returns-clause-checks g c = λ is. rw (says_check c.args.words.now is) at c.run_command.ensures.does

pub returns-clause-stages : goal.returns-clause-stages
returns-clause-stages g c = λ is. rw (says_staged c.args.words.now is) at c.run_command.ensures.does

pub returns-clause-names : goal.returns-clause-names
returns-clause-names g c = λ is. rw (says_names c.args.words.now is) at c.run_command.ensures.does

pub returns-clause-storms : goal.returns-clause-storms
returns-clause-storms g c = λ kind start events is. rw is at c.run_command.ensures.does

pub returns-clause-loops : goal.returns-clause-loops
returns-clause-loops g c = λ hosts turns is. rw is at c.run_command.ensures.does

pub returns-clause-attends : goal.returns-clause-attends
returns-clause-attends g c = λ host inc turns is. rw is at c.run_command.ensures.does

pub returns-clause-follows : goal.returns-clause-follows
returns-clause-follows g c = c.run_command.ensures.follows

pub returns-clause-faultless : goal.returns-clause-faultless
returns-clause-faultless g c = c.run_command.ensures.faultless

pub returns-clause-untouched : goal.returns-clause-untouched
returns-clause-untouched g c = λ never. (c.run_command.ensures.never never).1

pub returns-clause-alone : goal.returns-clause-alone
returns-clause-alone g c = c.run_command.ensures.alone

pub returns-clause-disk : goal.returns-clause-disk
returns-clause-disk g c = λ no. left_so (uses_disk (command_of c.args.words.now)) _ no c.run_command.ensures.keeps.0

pub returns-clause-input : goal.returns-clause-input
returns-clause-input g c = λ no. left_so (reads_input (command_of c.args.words.now)) _ no c.run_command.ensures.keeps.1

pub returns-clause-link : goal.returns-clause-link
returns-clause-link g c = λ no. left_so (uses_link (command_of c.args.words.now)) _ no c.run_command.ensures.keeps.2

pub returns-clause-hosts : goal.returns-clause-hosts
returns-clause-hosts g c = λ no. left_so (uses_links (command_of c.args.words.now)) _ no c.run_command.ensures.keeps.3

pub returns-clause-clock : goal.returns-clause-clock
returns-clause-clock g c = λ no. left_so (reads_clock (command_of c.args.words.now)) _ no c.run_command.ensures.keeps.4

pub returns-clause-fates : goal.returns-clause-fates
returns-clause-fates g c = λ no. left_so (uses_fates (command_of c.args.words.now)) _ no c.run_command.ensures.keeps.5
