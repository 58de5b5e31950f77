use Rattle.pybuf_verbs_edits.proofs.Safe.{all_safe}
use Rattle.pybuf_verbs_edits.proofs.laws.edits_are_safe.Goals as goal

pub returns : goal.returns
returns c =
    all_safe (record {
      reading = c.reading_keeps.ensures;
      writing = c.writing_keeps.ensures;
      resizing = c.resizing_keeps.ensures;
      emptying = c.emptying_keeps.ensures;
      as_many = c.as_many_keep_the_length.ensures;
    })
