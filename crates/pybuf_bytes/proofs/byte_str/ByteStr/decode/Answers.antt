use Rattle.std.specs.Option.{option_copied}
use Rattle.pybuf_bytes.proofs.Settled.{decoded_by}
use Rattle.pybuf_bytes.proofs.byte_str.ByteStr.decode.Goals as goal

pub returns : goal.returns
returns c = decoded_by c.args.self.bytes.now c.in_ok-name_given.field-0 c.in_ok-name_given-2.field-0 (option_copied c.args.encoding) (option_copied c.args.errors) c.bytes_decode.result c.done.result c.in_ok-name_given.ensures c.in_ok-name_given-2.ensures c.bytes_decode.ensures c.done.ensures
