use Rattle.std.proofs.Common.{◌≡◌, false, take, drop}
use Rattle.std.specs.Char.{is_ascii_alphabetic}
use Rattle.std.specs.List.{list_any}
use Rattle.pybuf_letters.specs.Classes.{fits_title_from}
use Rattle.pybuf_letters.proofs.classes.is_title.Given as goal

abbrev pub invariant-loop-b : goal.invariant-loop-b
invariant-loop-b l =
    (l.found ≡ list_any is_ascii_alphabetic (take l.b-index l.bytes))
    × (fits_title_from l.after_letter (drop l.b-index l.bytes) ≡ fits_title_from false l.bytes)
