use Rattle.std.proofs.Common.{refl, replicate, take}
use Rattle.pybuf_desc.proofs.ColumnWalks.{columns_begin, columns_walked}
use Rattle.pybuf_desc.proofs.columns.walk_columns.Goals as goal

pub invariant_of-result : goal.invariant_of-result
invariant_of-result c = columns_begin c.args.dims c.args.count c.args.start c.args.size (replicate 64 0) refl c.requires.few c.requires.columns

pub returns : goal.returns
returns c = columns_walked (take c.args.count c.args.dims) c.args.start c.args.size (replicate 64 0) refl
