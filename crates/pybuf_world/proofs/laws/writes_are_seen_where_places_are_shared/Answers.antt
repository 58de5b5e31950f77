use Rattle.pybuf_world.proofs.Sharing.{apart_unseen, shared_seen}
use Rattle.pybuf_world.proofs.laws.writes_are_seen_where_places_are_shared.Goals as goal

pub returns-clause-apart : goal.returns-clause-apart
returns-clause-apart c = apart_unseen c.world_writes_are_seen.ensures

pub returns-clause-shared : goal.returns-clause-shared
returns-clause-shared c = shared_seen c.world_writes_are_seen.ensures c.exporter_laws.ensures
