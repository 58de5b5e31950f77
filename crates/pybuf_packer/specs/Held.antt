-- What a handle holds.
use Rattle.std.specs.Prelude.{Bool, true, false, Option, Some, None}
use Rattle.pybuf_packer.specs.Packer.{Packer}
use Rattle.pybuf_packer.specs.declared.handle.FormatHandle.{FormatHandle}

abbrev pub kept : Bool → Packer → Option Packer
kept false packer = None
kept true packer = Some packer

-- The packer of a handle. A handle is empty before a format is parsed and after it was freed, and then it has
-- none.
abbrev pub held : FormatHandle → Option Packer
held handle = kept handle.full handle.address.packer
