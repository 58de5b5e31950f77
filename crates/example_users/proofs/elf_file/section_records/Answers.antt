use Rattle.example_users.proofs.ElfLemmas.{sections_sized}
use Rattle.example_users.proofs.elf_file.section_records.Goals as goal

pub returns-clause-size : goal.returns-clause-size
returns-clause-size c = sections_sized c.from_str.result c.from_str.ensures
