use Rattle.pybuf_desc.specs.ColumnOrder.{start_at}
use Rattle.pybuf_nd.proofs.IndexLemmas.{length_lists, item_at}
use Rattle.pybuf_nd.proofs.laws.views_go_by_indices.Goals as goal

pub returns : goal.returns
returns c = λ view shape strides source.
    record {
      items = length_lists (λ indices. start_at view (source indices)) shape;
      at = λ indices h. item_at (λ others. start_at view (source others)) shape indices 0 h;
    }
