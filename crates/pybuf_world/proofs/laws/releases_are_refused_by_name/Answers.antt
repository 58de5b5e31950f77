use Rattle.pybuf_world.proofs.Releases.{refused_by_name}
use Rattle.pybuf_world.proofs.laws.releases_are_refused_by_name.Goals as goal

pub returns : goal.returns
returns c = refused_by_name
