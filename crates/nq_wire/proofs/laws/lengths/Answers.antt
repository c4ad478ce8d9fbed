use Rattle.nq_wire.proofs.Lengths.{length-arguments, arguments_len-most, length-results, results_len-most}
use Rattle.nq_wire.proofs.laws.lengths.Goals as goal

pub returns-clause-requests : goal.returns-clause-requests
returns-clause-requests c = length-arguments

pub returns-clause-longest_request : goal.returns-clause-longest_request
returns-clause-longest_request c = arguments_len-most

pub returns-clause-replies : goal.returns-clause-replies
returns-clause-replies c = length-results

pub returns-clause-longest_reply : goal.returns-clause-longest_reply
returns-clause-longest_reply c = results_len-most
