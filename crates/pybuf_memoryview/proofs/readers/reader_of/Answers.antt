use Rattle.std.proofs.Common.{ap, sym, ◌∙◌}
use Rattle.pybuf_memoryview.specs.Fits.{is_byte_format}
use Rattle.pybuf_memoryview.proofs.ByteReader.{byte_reads}
use Rattle.pybuf_memoryview.proofs.readers.reader_of.Goals as goal

pub returns-then-is_byte_format-clause-reads : goal.returns-then-is_byte_format-clause-reads
returns-then-is_byte_format-clause-reads c = λ bytes long.
    byte_reads c.args.format.now bytes (ap is_byte_format (sym c.as_slice.ensures) ∙ sym c.is_byte_format.ensures ∙ c.if-is_byte_format.true) (long ∙ c.if-size-eq1.true)
