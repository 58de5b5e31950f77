use Rattle.pybuf_world.proofs.laws.exporter_laws.Goals as goal

pub returns : goal.returns
returns c = record {
  keeps = c.commands_keep_sound.ensures;
  apart = c.commands_keep_items_apart.ensures;
  names = c.replied_names_are_there.ensures;
  stays = c.subjects_stay.ensures;
  copies = c.fresh_replies_are_copies.ensures;
  faithful = c.copies_are_faithful.ensures;
  copies_apart = c.copies_are_spaced.ensures;
}
