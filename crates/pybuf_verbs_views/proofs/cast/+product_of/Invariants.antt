use Rattle.std.proofs.Common.{length}
use Rattle.pybuf_verbs_views.proofs.cast.+product_of.Given as goal

abbrev pub decreases-product_of : goal.decreases-product_of
decreases-product_of l = length l.shape.now
