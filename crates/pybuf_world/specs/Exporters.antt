-- The laws of exporters that the laws of worlds use.
use Rattle.pybuf_state.specs.Laws.{CopiesAreFaithful, CopiesAreSpaced}
use Rattle.pybuf_exporter.specs.Laws.{CommandsKeepSound, FreshRepliesAreCopies, CommandsKeepItemsApart, RepliedNamesAreThere, SubjectsStay}

pub record ExporterLaws : Type 0 where
  pub keeps : CommandsKeepSound
  pub apart : CommandsKeepItemsApart
  pub names : RepliedNamesAreThere
  pub stays : SubjectsStay
  pub copies : FreshRepliesAreCopies
  pub faithful : CopiesAreFaithful
  pub copies_apart : CopiesAreSpaced
