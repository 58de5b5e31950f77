use Rattle.pybuf_exporter.proofs.Every.{effects_safe}
use Rattle.pybuf_exporter.proofs.laws.effects_are_safe.Goals as goal

pub returns : goal.returns
returns c =
    effects_safe (record {
      view = c.view_is_safe.ensures;
      range = c.range_is_safe.ensures;
      slice = c.slice_is_safe.ensures;
      cast = c.cast_is_safe.ensures;
      column_cast = c.column_cast_is_safe.ensures;
      release = c.release_is_safe.ensures;
      enter = c.enter_is_safe.ensures;
      contiguous = c.contiguous_is_copied.ensures;
      toreadonly = c.toreadonly_is_safe.ensures;
      get = c.get_is_safe.ensures;
      bytes = c.bytes_is_safe.ensures;
      len = c.len_is_safe.ensures;
      property = c.property_is_safe.ensures;
      tolist = c.tolist_is_safe.ensures;
      set = c.set_is_safe.ensures;
      assign = c.assign_is_safe.ensures;
      edits = c.edits_are_safe.ensures;
      delete_of_view = c.delete_of_view_is_safe.ensures;
      compare = c.compare_is_safe.ensures;
      hash = c.hash_is_safe.ensures;
      repr = c.repr_is_safe.ensures;
      call = c.call_is_safe.ensures;
      contains = c.contains_is_safe.ensures;
      hex = c.hex_is_safe.ensures;
      iter = c.iter_is_safe.ensures;
      iterators = c.iterators_are_safe.ensures;
    })
