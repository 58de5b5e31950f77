use Rattle.pybuf_letters.proofs.LineLaws as line
use Rattle.pybuf_letters.proofs.laws.lines_are_the_bytes.Goals as goal

pub returns : goal.returns
returns c bytes = record { joined = line.joined bytes; some = line.some bytes }
