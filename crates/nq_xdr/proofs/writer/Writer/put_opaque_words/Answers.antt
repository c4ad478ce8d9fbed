use Rattle.nq_xdr.proofs.Repeats.{words_written}
use Rattle.nq_xdr.proofs.writer.Writer.put_opaque_words.Goals as goal

pub returns-clause-written : goal.returns-clause-written
returns-clause-written c =
    words_written c.args.self.now.bytes c.put_u32.new.self.bytes c.words.new.self.bytes c.args.count c.args.value c.put_u32.ensures.written
    c.words.ensures.written
