-- Bytes that are lent with their methods.
use Rattle.std.specs.Prelude.{ℕ, List}
use Rattle.pybuf_bytes.specs.declared.byte_str.ByteStr.{ByteStr}

-- the bytes
abbrev pub str_bytes : ByteStr → List ℕ
str_bytes s = s.bytes.now
