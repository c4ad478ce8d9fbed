use Rattle.std.proofs.Common.{refl}
use Rattle.nq_xdr.proofs.Opaque.{opaque_written}
use Rattle.nq_xdr.proofs.writer.Writer.put_opaque.Goals as goal

pub returns-clause-written : goal.returns-clause-written
returns-clause-written c =
    opaque_written c.args.self.now.bytes c.put_u32.new.self.bytes c.put_bytes.new.self.bytes c.put_bytes-2.new.self.bytes c.args.bytes.now _
    c.put_u32.ensures.written c.put_bytes.ensures.written c.put_bytes-2.ensures.written refl
